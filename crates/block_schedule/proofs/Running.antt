-- The new order keeps the run, and carries over that each item is lawful.
use Rattle.std.proofs.Common.{◌≡◌, ◌≢◌, ◌≤◌, ◌<◌, ℕ, zero, suc, ◌+◌, ◌-◌, ◌%◌, ◌^◌, arith, ap, refl, sym, ◌∙◌, subst, List, [], ◌∷◌, ◌++◌, append_assoc, length, Bool, true, false, cond, not, inl, inr, flat_map, ⊎_elim}
use Rattle.std.specs.Prelude.{Option, Some, None, ◌⊎◌, ◌==◌, slice_index}
use Rattle.hard_runs.specs.Observed.{SameObserved}
use Rattle.hard_words.specs.Words.{extended}
use Rattle.hard_runs.specs.Stepping.{Stands, Stage, Always, Leads, Beside, on, over, Went, after, go, put}
use Rattle.hard_runs.proofs.Following.{follows, goes_on as run_goes_on, begins as run_begins, leads_go}
use Rattle.mips_isa.specs.declared.instr.Instr.{Instr}
use Rattle.mips_isa.specs.declared.instr.Instr.TheVariants as mips
use Rattle.mips_isa.specs.declared.instr.Act.{Act}
use Rattle.mips_isa.specs.declared.instr.End.{End}
use Rattle.mips_isa.specs.Machine as machine
use Rattle.mips_isa.specs.Locality.{is_move}
use Rattle.hard_items.specs.declared.code.Class.TheVariants as class
use Rattle.hard_items.specs.declared.code.Fix.{Fix}
use Rattle.hard_items.specs.declared.code.Fix.TheVariants.{Plain, Block, Function, ReturnHigh, ReturnLow}
use Rattle.hard_items.specs.declared.code.Item.{Item}
use Rattle.hard_items.specs.declared.code.HardProgram.{HardProgram}
use Rattle.hard_items.specs.Streams.{nop, plain, shadow_of}
use Rattle.hard_items.specs.Run.{Data, Spot, Way, Onward, Over, To, items, before, at_block, items_of, item_act, machine_of, way_of, held, named, branch_way, arrived, data_after, settled, first_spot, first_data, item_run, step_from}
use Rattle.hard_items.specs.Rules.{Lawful, LawfulAt, LawfulNext, Placed, Parity, Returns, Reads}
use Rattle.hard_items.specs.Ways.{MayFollow}
use Rattle.hard_items.specs.Forms.{Each, Form, Alone, Product, Store, Test, Output, Takes, Idle, Close, Jump, Branch, Call, Return, Exit, form_items, close_items, check, check_if}
use Rattle.block_schedule.specs.declared.unit.Whole.{Whole}
use Rattle.block_schedule.specs.Scheduling.{unit_items, in_turn}
use Rattle.block_schedule.specs.Merging.{Merge, done, first, second, leaves, leave, SameButHalves}
use Rattle.block_schedule.proofs.Merges.{LawfulAll, LawfulUnits}
use Rattle.block_schedule.proofs.Leading.{spot, Good, InStretch, data_step, all_lead, merge_in}
use Rattle.block_schedule.proofs.Stretches.{WithNops, Stretch, stretch_runs, zero_kept, nops_longer}
use Rattle.block_schedule.proofs.Beside.{SameResult, perform_beside, data_beside, act_beside}
use Rattle.block_schedule.proofs.Parts.{flat, Spaced, nothing, unit, space, Stretched, Parts, part, closing, IsFixed, in_turn_merges}

-- ---- what is still to come, side by side

-- An item that goes onward and moves neither HI nor LO.
pub record Goes (p : HardProgram) (i : Item) : Type 0 where
  pub stays : is_move i.instr ≡ false
  pub onward : (d : Data) → way_of p i d i.instr ≡ Onward

pub data Rests (p : HardProgram) : List Item → List Item → Type 0 where
  none : Rests p [] []
  goes : (old new : List Item) → Stretched old new → (j : Item) → Goes p j → (xs ys : List Item) → Rests p xs ys → Rests p (old ++ j ∷ xs) (new ++ j ∷ ys)
  skips : (old new : List Item) → Stretched old new → (j s k : Item) → is_move j.instr ≡ false → ((d : Data) → (way_of p j d j.instr ≡ Onward) ⊎ (way_of p j d j.instr ≡ Over)) → Goes p s → Goes p k → (xs ys : List Item) → Rests p xs ys →
      Rests p (old ++ j ∷ s ∷ k ∷ xs) (new ++ j ∷ s ∷ k ∷ ys)
  jumps : (old new : List Item) → Stretched old new → (j s : Item) → is_move j.instr ≡ false → ((d : Data) → (way_of p j d j.instr ≡ Onward) ⊎ ((t : ℕ) × (way_of p j d j.instr ≡ To t))) → Goes p s → (xs ys : List Item) → Rests p xs ys →
      Rests p (old ++ j ∷ s ∷ xs) (new ++ j ∷ s ∷ ys)

no_stretch : Stretched [] []
no_stretch = record { ms = []; ss = []; l = []; first_stream = tt; second_stream = tt; before = done; old_is = refl; new_is = nothing }

module _ (p : HardProgram) where
  alone : (j : Item) → Goes p j → (xs ys : List Item) → Rests p xs ys → Rests p (j ∷ xs) (j ∷ ys)
  alone j g xs ys r = goes [] [] no_stretch j g xs ys r

  equal_way : (z : Bool) → (cond z Over Onward ≡ Onward) ⊎ (cond z Over Onward ≡ Over)
  equal_way true = inr refl
  equal_way false = inl refl

  other_way : (z : Bool) → (cond z Onward Over ≡ Onward) ⊎ (cond z Onward Over ≡ Over)
  other_way true = inl refl
  other_way false = inr refl

  equal_to : (z : Bool) (n : ℕ) → (cond z (To n) Onward ≡ Onward) ⊎ ((t : ℕ) × (cond z (To n) Onward ≡ To t))
  equal_to true n = inr (n, refl)
  equal_to false n = inl refl

  other_to : (z : Bool) (n : ℕ) → (cond z Onward (To n) ≡ Onward) ⊎ ((t : ℕ) × (cond z Onward (To n) ≡ To t))
  other_to true n = inl refl
  other_to false n = inr (n, refl)

  check_rests : (x y : ℕ) (old new : List Item) → Stretched old new → (xs ys : List Item) → Rests p xs ys → Rests p (old ++ (check x y ++ xs)) (new ++ (check x y ++ ys))
  check_rests x y old new s xs ys r = skips old new s (plain (mips.Beq x y 2) class.Check) (plain nop class.Check) (plain (mips.Break 1) class.Check) refl (λ d. equal_way (held d x == held d y))
      (record { stays = refl; onward = λ d. refl }) (record { stays = refl; onward = λ d. refl }) xs ys r

  -- where no check stands, the stretch is before what follows
  check_if_rests : (c : Bool) (m : ℕ) (old new : List Item) → Stretched old new → (xs ys : List Item) → ((us vs : List Item) → Stretched us vs → Rests p (us ++ xs) (vs ++ ys)) → Rests p (old ++ (check_if c m ++ xs)) (new ++ (check_if c m ++ ys))
  check_if_rests true m old new s xs ys r = check_rests m (shadow_of m) old new s xs ys (r [] [] no_stretch)
  check_if_rests false m old new s xs ys r = r old new s

  form_rests : (f : Form) → IsFixed f → (old new : List Item) → Stretched old new → (xs ys : List Item) → Rests p xs ys → Rests p (old ++ (form_items f ++ xs)) (new ++ (form_items f ++ ys))
  form_rests (Alone i) h old new s xs ys r = absurd h
  form_rests (Product i j) h old new s xs ys r = absurd h
  form_rests (Store c v b o) h old new s xs ys r =
      subst (λ (l : List Item). Rests p (old ++ l) (new ++ (form_items (Store c v b o) ++ ys))) (sym (assoc xs))
      (subst (λ (l : List Item). Rests p (old ++ (check_if c v ++ (check_if c b ++ (stores ++ xs)))) (new ++ l)) (sym (assoc ys))
      (check_if_rests c v old new s (check_if c b ++ (stores ++ xs)) (check_if c b ++ (stores ++ ys)) (λ us vs t. check_if_rests c b us vs t (stores ++ xs) (stores ++ ys)
      (λ us' vs' t'. goes us' vs' t' (plain (mips.Sw v b o) class.Act) (record { stays = refl; onward = λ d. refl }) (second_store ∷ xs) (second_store ∷ ys) (alone second_store (record { stays = refl; onward = λ d. refl }) xs ys r)))))
    where
      second_store : Item
      second_store = plain (mips.Sw (shadow_of v) (shadow_of b) ((o + 4) % 2 ^ 16)) class.Act

      stores : List Item
      stores = plain (mips.Sw v b o) class.Act ∷ second_store ∷ []

      assoc : (zs : List Item) → form_items (Store c v b o) ++ zs ≡ check_if c v ++ (check_if c b ++ (stores ++ zs))
      assoc zs = append_assoc (check_if c v) (check_if c b ++ stores) zs ∙ ap (λ (l : List Item). check_if c v ++ l) (append_assoc (check_if c b) stores zs)
  form_rests (Test c v code) h old new s xs ys r =
      subst (λ (l : List Item). Rests p (old ++ l) (new ++ (form_items (Test c v code) ++ ys))) (sym (append_assoc (check_if c v) tests xs))
      (subst (λ (l : List Item). Rests p (old ++ (check_if c v ++ (tests ++ xs))) (new ++ l)) (sym (append_assoc (check_if c v) tests ys))
      (check_if_rests c v old new s (tests ++ xs) (tests ++ ys) (λ us vs t. skips us vs t (plain (mips.Bne v 0 2) class.Act) (plain nop class.Act) (plain (mips.Break code) class.Act) refl (λ d. other_way (held d v == held d 0))
      (record { stays = refl; onward = λ d. refl }) (record { stays = refl; onward = λ d. refl }) xs ys r)))
    where
      tests : List Item
      tests = plain (mips.Bne v 0 2) class.Act ∷ plain nop class.Act ∷ plain (mips.Break code) class.Act ∷ []
  form_rests (Output true) h old new s xs ys r = skips old new s (plain (mips.Beq 4 14 2) class.Check) (plain (mips.Ori 2 0 1) class.Act) (plain (mips.Break 1) class.Check) refl (λ d. equal_way (held d 4 == held d 14))
      (record { stays = refl; onward = λ d. refl }) (record { stays = refl; onward = λ d. refl }) (plain mips.Syscall class.Act ∷ xs) (plain mips.Syscall class.Act ∷ ys) (alone (plain mips.Syscall class.Act) (record { stays = refl; onward = λ d. refl }) xs ys r)
  form_rests (Output false) h old new s xs ys r = goes old new s (plain (mips.Ori 2 0 1) class.Act) (record { stays = refl; onward = λ d. refl }) (plain mips.Syscall class.Act ∷ xs) (plain mips.Syscall class.Act ∷ ys) (alone (plain mips.Syscall class.Act) (record { stays = refl; onward = λ d. refl }) xs ys r)
  form_rests (Takes v) h old new s xs ys r = goes old new s a (record { stays = refl; onward = λ d. refl }) (b ∷ c ∷ e ∷ xs) (b ∷ c ∷ e ∷ ys) (alone b (record { stays = refl; onward = λ d. refl }) (c ∷ e ∷ xs) (c ∷ e ∷ ys)
      (alone c (record { stays = refl; onward = λ d. refl }) (e ∷ xs) (e ∷ ys) (alone e (record { stays = refl; onward = λ d. refl }) xs ys r)))
    where
      a : Item
      a = plain (mips.Ori 2 0 5) class.Input

      b : Item
      b = plain mips.Syscall class.Input

      c : Item
      c = plain (mips.Addu v 2 0) class.Input

      e : Item
      e = plain (mips.Addu (shadow_of v) 2 0) class.Input
  form_rests Idle h old new s xs ys r = goes old new s (plain nop class.Act) (record { stays = refl; onward = λ d. refl }) xs ys r

  abbrev slot : Item
  slot = plain nop class.Act

  close_rests : (c : Close) (old new : List Item) → Stretched old new → Rests p (old ++ close_items c) (new ++ close_items c)
  close_rests (Jump to) old new s = jumps old new s (Rattle.hard_items.specs.Forms.going (mips.J 0) (Block to)) slot refl (λ d. inr (to, refl)) (record { stays = refl; onward = λ d. refl }) [] [] none
  close_rests (Branch c r true to) old new s = check_if_rests c r old new s leaving leaving (λ us vs t. jumps us vs t (Rattle.hard_items.specs.Forms.going (mips.Bne r 0 0) (Block to)) slot refl (λ d. other_to (held d r == held d 0) to) (record { stays = refl; onward = λ d. refl }) [] [] none)
    where
      leaving : List Item
      leaving = Rattle.hard_items.specs.Forms.going (mips.Bne r 0 0) (Block to) ∷ slot ∷ []
  close_rests (Branch c r false to) old new s = check_if_rests c r old new s leaving leaving (λ us vs t. jumps us vs t (Rattle.hard_items.specs.Forms.going (mips.Beq r 0 0) (Block to)) slot refl (λ d. equal_to (held d r == held d 0) to) (record { stays = refl; onward = λ d. refl }) [] [] none)
    where
      leaving : List Item
      leaving = Rattle.hard_items.specs.Forms.going (mips.Beq r 0 0) (Block to) ∷ slot ∷ []
  close_rests (Call f) old new s = jumps old new s (Rattle.hard_items.specs.Forms.going (mips.Jal 0) (Function f)) slot refl (λ d. inr (named p (Function f), refl)) (record { stays = refl; onward = λ d. refl }) [] [] none
  close_rests (Return c) old new s = check_if_rests c 31 old new s leaving leaving (λ us vs t. jumps us vs t (plain (mips.Jr 31) class.Act) slot refl (λ d. inr (held d 31, refl)) (record { stays = refl; onward = λ d. refl }) [] [] none)
    where
      leaving : List Item
      leaving = plain (mips.Jr 31) class.Act ∷ slot ∷ []
  close_rests (Exit true) old new s = skips old new s (plain (mips.Beq 4 14 2) class.Check) (plain (mips.Ori 2 0 17) class.Act) (plain (mips.Break 1) class.Check) refl (λ d. equal_way (held d 4 == held d 14))
      (record { stays = refl; onward = λ d. refl }) (record { stays = refl; onward = λ d. refl }) ending ending (alone (plain mips.Syscall class.Act) (record { stays = refl; onward = λ d. refl }) (plain (mips.Break 1) class.Act ∷ []) (plain (mips.Break 1) class.Act ∷ []) (alone (plain (mips.Break 1) class.Act) (record { stays = refl; onward = λ d. refl }) [] [] none))
    where
      ending : List Item
      ending = plain mips.Syscall class.Act ∷ plain (mips.Break 1) class.Act ∷ []
  close_rests (Exit false) old new s = goes old new s (plain (mips.Ori 2 0 17) class.Act) (record { stays = refl; onward = λ d. refl }) ending ending (alone (plain mips.Syscall class.Act) (record { stays = refl; onward = λ d. refl }) (plain (mips.Break 1) class.Act ∷ []) (plain (mips.Break 1) class.Act ∷ []) (alone (plain (mips.Break 1) class.Act) (record { stays = refl; onward = λ d. refl }) [] [] none))
    where
      ending : List Item
      ending = plain mips.Syscall class.Act ∷ plain (mips.Break 1) class.Act ∷ []

  pub parts_rest : (P : Form → Type 0) (R : Close → Type 0) (xs ys : List Item) → Parts P R xs ys → Rests p xs ys
  parts_rest P R xs ys (part old new s f h i us vs more) = form_rests f i old new s us vs (parts_rest P R us vs more)
  parts_rest P R xs ys (closing old new s c r) = close_rests c old new s

-- ---- two states side by side

pub record OverPlace (p : HardProgram) (xs ys : List Item) : Type 0 where
  pub slot : Item
  pub skipped : Item
  pub rest : List Item
  pub more : List Item
  pub old_is : xs ≡ slot ∷ skipped ∷ rest
  pub new_is : ys ≡ slot ∷ skipped ∷ more
  pub slot_goes : Goes p slot
  pub skipped_goes : Goes p skipped
  pub rests : Rests p rest more

pub record ToPlace (p : HardProgram) (xs ys : List Item) : Type 0 where
  pub slot : Item
  pub rest : List Item
  pub more : List Item
  pub old_is : xs ≡ slot ∷ rest
  pub new_is : ys ≡ slot ∷ more
  pub slot_goes : Goes p slot

abbrev pub Place : HardProgram → Way → List Item → List Item → Type 0
Place p Onward xs ys = Rests p xs ys
Place p Over xs ys = OverPlace p xs ys
Place p (To t) xs ys = ToPlace p xs ys

pub record Alike (p : HardProgram) (h l : Spot) : Type 0 where
  pub going : h.end ≡ None
  pub rest : List Item
  pub now : Data
  pub is : l ≡ spot h.block rest h.way now
  pub place : Place p h.way h.rest rest
  pub same : SameButHalves h.now now
  pub zero_ : now.backs 0 ≡ false

-- What both programs are: blocks beside each other, the same ways and entries.
pub record Beside_ (p q : HardProgram) : Type 0 where
  pub rests : (b : ℕ) → Rests p (items_of p b) (items_of q b)
  pub ways : (b c : ℕ) → MayFollow p b c → MayFollow q b c
  pub entries : q.entries ≡ p.entries
  pub firsts : (input : List ℕ) → first_data q input ≡ first_data p input

cons_of : (xs : List Item) (j : Item) (more : List Item) → (k : Item) × (tl : List Item) × (xs ++ j ∷ more ≡ k ∷ tl)
cons_of [] j more = (j, more, refl)
cons_of (x ∷ xs) j more = (x, xs ++ j ∷ more, refl)

before_is : (q : HardProgram) (b : ℕ) (xs : List Item) (j : Item) (more : List Item) (w : Way) (d : Data) → before q b (xs ++ j ∷ more) w d ≡ spot b (xs ++ j ∷ more) w d
before_is q b xs j more w d = let c : (k : Item) × (tl : List Item) × (xs ++ j ∷ more ≡ k ∷ tl) = cons_of xs j more in
    ap (λ (x : List Item). before q b x w d) c.2 ∙ ap (λ (x : List Item). spot b x w d) (sym c.2)

module _ (p q : HardProgram) (s : Beside_ p q) where
  at_alike : (b : ℕ) (w : Way) (xs ys : List Item) (d e : Data) → Place p w xs ys → SameButHalves d e → e.backs 0 ≡ false → Alike p (spot b xs w d) (spot b ys w e)
  at_alike b w xs ys d e r h z = record { going = refl; rest = ys; now = e; is = refl; place = r; same = h; zero_ = z }

  alike_block : (b : ℕ) (d e : Data) → SameButHalves d e → e.backs 0 ≡ false → Alike p (at_block p b d) (at_block q b e)
  alike_block b d e h z = at_alike b Onward (items_of p b) (items_of q b) d e (s.rests b) h z

  both_before : (b : ℕ) (old new : List Item) (j : Item) (xs ys : List Item) (d e : Data) → Rests p (old ++ j ∷ xs) (new ++ j ∷ ys) → SameButHalves d e → e.backs 0 ≡ false → Alike p (before p b (old ++ j ∷ xs) Onward d) (before q b (new ++ j ∷ ys) Onward e)
  both_before b old new j xs ys d e r h z =
      subst (λ (x : Spot). Alike p x (before q b (new ++ j ∷ ys) Onward e)) (sym (before_is p b old j xs Onward d))
      (subst (λ (x : Spot). Alike p (spot b (old ++ j ∷ xs) Onward d) x) (sym (before_is q b new j ys Onward e)) (at_alike b Onward (old ++ j ∷ xs) (new ++ j ∷ ys) d e r h z))

  alike_before : (b : ℕ) (xs ys : List Item) (d e : Data) → Rests p xs ys → SameButHalves d e → e.backs 0 ≡ false → Alike p (before p b xs Onward d) (before q b ys Onward e)
  alike_before b xs ys d e none h z = alike_block (b + 1) d e h z
  alike_before b xs ys d e (goes old new t j g us vs r) h z = both_before b old new j us vs d e (goes old new t j g us vs r) h z
  alike_before b xs ys d e (skips old new t j k m n w g f us vs r) h z = both_before b old new j (k ∷ m ∷ us) (k ∷ m ∷ vs) d e (skips old new t j k m n w g f us vs r) h z
  alike_before b xs ys d e (jumps old new t j k n w g us vs r) h z = both_before b old new j (k ∷ us) (k ∷ vs) d e (jumps old new t j k n w g us vs r) h z

  -- ---- the steps before an item that stands

  -- In each state of a run from here on the item that comes next is lawful.
  abbrev Ahead : Spot → Type 0
  Ahead h = (i : ℕ) → (go (items p) h i).state.end ≡ None → LawfulAt p (go (items p) h i).state

  ahead_next : (h t : Spot) → ((items p).step h).0 ≡ t → Ahead h → Ahead t
  ahead_next h t e a i o =
      let b : (go (items p) h (suc i)).state ≡ (go (items p) ((items p).step h).0 i).state = ap (λ (w : Went Spot). w.state) (run_begins (items p) h i) in
      let c : (go (items p) h (suc i)).state ≡ (go (items p) t i).state = b ∙ ap (λ (x : Spot). (go (items p) x i).state) e in
      subst (LawfulAt p) c (a (suc i) (ap (λ (x : Spot). x.end) c ∙ o))

  along : (b : ℕ) (xs : List Item) (j : Item) (more : List Item) (d : Data) → Each InStretch xs → Ahead (spot b (xs ++ j ∷ more) Onward d) → LawfulAll p b xs d
  along b [] j more d h a = tt
  along b (x ∷ xs) j more d h a =
      let law : Lawful p b x d = a 0 refl in
      let c : (k : Item) × (tl : List Item) × (xs ++ j ∷ more ≡ k ∷ tl) = cons_of xs j more in
      let step : (items p).step (spot b (x ∷ (xs ++ j ∷ more)) Onward d) ≡ (spot b (xs ++ j ∷ more) Onward (leaves b x d), None) =
      subst (λ (ys : List Item). (items p).step (spot b (x ∷ ys) Onward d) ≡ (spot b ys Onward (leaves b x d), None)) (sym c.2) (data_step p b x c.0 c.1 d h.0.0 law.no_exception) in
      (law, along b xs j more (leaves b x d) h.1 (ahead_next (spot b (x ∷ (xs ++ j ∷ more)) Onward d) (spot b (xs ++ j ∷ more) Onward (leaves b x d)) (ap (λ (o : Spot × Option ℕ). o.0) step) a))

  returns_same : (b : ℕ) (i : Instr) (d : Data) → Returns p b i d → Returns q b i d
  returns_same b (mips.Jr rs) d r = (r.0, s.ways b (held d rs) r.1)
  returns_same b i d r = r

  lawful_too : (b : ℕ) (i : Item) (d : Data) → Lawful p b i d → Lawful q b i d
  lawful_too b i d l = record { placed = l.placed; returns = returns_same b i.instr d l.returns; reads = l.reads; no_exception = l.no_exception }

  all_lawful_too : (b : ℕ) (xs : List Item) (d : Data) → LawfulAll p b xs d → LawfulAll q b xs d
  all_lawful_too b [] d l = tt
  all_lawful_too b (x ∷ xs) d l = (lawful_too b x d l.0, all_lawful_too b xs (leaves b x d) l.1)

  lawful_front : (b : ℕ) (xs ys : List Item) (d : Data) → LawfulAll q b (xs ++ ys) d → LawfulAll q b xs d
  lawful_front b [] ys d l = tt
  lawful_front b (x ∷ xs) ys d l = (l.0, lawful_front b xs ys (leaves b x d) l.1)

  lawful_back : (b : ℕ) (xs ys : List Item) (d : Data) → LawfulAll q b (xs ++ ys) d → LawfulAll q b ys (leave b xs d)
  lawful_back b [] ys d l = l
  lawful_back b (x ∷ xs) ys d l = lawful_back b xs ys (leaves b x d) l.1

  by_units : (b : ℕ) (us : List Whole) (d : Data) → LawfulAll q b (flat us) d → LawfulUnits q b us d
  by_units b [] d l = tt
  by_units b (u ∷ us) d l = (lawful_front b (unit_items u) (flat us) d l, by_units b us (leave b (unit_items u) d) (lawful_back b (unit_items u) (flat us) d l))

  spaced_nops : (us : List Whole) (ys : List Item) → Spaced us ys → WithNops (flat us) ys
  spaced_nops us ys nothing = WithNops.nothing
  spaced_nops us ys (unit u vs zs t) = keep (unit_items u) (flat vs) zs (spaced_nops vs zs t)
    where
      keep : (ws xs zs : List Item) → WithNops xs zs → WithNops (ws ++ xs) (ws ++ zs)
      keep [] xs zs t = t
      keep (w ∷ ws) xs zs t = WithNops.keeps w (ws ++ xs) (ws ++ zs) (keep ws xs zs t)
  spaced_nops us ys (space vs zs t) = WithNops.nops class.Master (flat vs) zs refl (spaced_nops vs zs t)

  abbrev as_stretch : (old new : List Item) → Stretched old new → Stretch old new
  as_stretch old new t = record { ms = t.ms; ss = t.ss; l = t.l; k = in_turn t.ms t.ss; first_stream = t.first_stream; second_stream = t.second_stream; before = t.before; behind = in_turn_merges t.ms t.ss; old_is = t.old_is; new_is = spaced_nops (in_turn t.ms t.ss) new t.new_is }

  merge_long : (ms ss l : List Whole) → Merge ms ss l → length (flat l) ≡ length (flat ms) + length (flat ss)
  merge_long ms ss l done = refl
  merge_long ms ss l (first u us vs k m) = Rattle.std.proofs.Common.length-append (unit_items u) (flat k) ∙ (up (length (unit_items u)) (length (flat k)) (length (flat us)) (length (flat vs)) (merge_long us vs k m) ∙ ap (λ (n : ℕ). n + length (flat vs)) (sym (Rattle.std.proofs.Common.length-append (unit_items u) (flat us))))
    where
      up : (a b c d : ℕ) → b ≡ c + d → a + b ≡ a + c + d
      up a b c d e = omega arith
  merge_long ms ss l (second u us vs k m) = Rattle.std.proofs.Common.length-append (unit_items u) (flat k) ∙ (up (length (unit_items u)) (length (flat k)) (length (flat us)) (length (flat vs)) (merge_long us vs k m) ∙ ap (λ (n : ℕ). length (flat us) + n) (sym (Rattle.std.proofs.Common.length-append (unit_items u) (flat vs))))
    where
      up : (a b c d : ℕ) → b ≡ c + d → a + b ≡ c + (a + d)
      up a b c d e = omega arith

  pub longer : (old new : List Item) → Stretched old new → length old ≤ length new
  longer old new t = subst (λ (n : ℕ). n ≤ length new) (sym (ap (λ (l : List Item). length l) t.old_is ∙ (merge_long t.ms t.ss t.l t.before ∙ sym (merge_long t.ms t.ss (in_turn t.ms t.ss) (in_turn_merges t.ms t.ss)))))
      (nops_longer (flat (in_turn t.ms t.ss)) new (spaced_nops (in_turn t.ms t.ss) new t.new_is))

  old_in : (old new : List Item) → Stretched old new → Each InStretch old
  old_in old new t = subst (Each InStretch) (sym t.old_is) (merge_in t.ms t.ss t.l t.first_stream t.second_stream t.before)

  zero_leaves : (b : ℕ) (xs : List Item) (d : Data) → d.backs 0 ≡ false → (leave b xs d).backs 0 ≡ false
  zero_leaves b [] d z = z
  zero_leaves b (x ∷ xs) d z = zero_leaves b xs (leaves b x d) (zero_kept x (item_act b x d) d z)

  -- ---- the item itself

  placed_beside : (x : Instr) (d e : Data) → d.regs ≡ e.regs → Placed x d → Placed x e
  placed_beside (mips.Lw rt rs imm) d e r h = subst (λ (l : List ℕ). Parity rt (machine.plus (slice_index l rs) (extended imm))) r h
  placed_beside (mips.Sw rt rs imm) d e r h = subst (λ (l : List ℕ). Parity rt (machine.plus (slice_index l rs) (extended imm))) r h
  placed_beside x d e r h = tt

  returns_beside : (b : ℕ) (x : Instr) (d e : Data) → SameButHalves d e → Returns p b x d → Returns q b x e
  returns_beside b (mips.Jr rs) d e h r = (sym (h.backs rs) ∙ r.0, subst (λ (l : List ℕ). MayFollow q b (slice_index l rs)) h.regs (s.ways b (held d rs) r.1))
  returns_beside b x d e h r = tt

  each_beside : (rs : List ℕ) (d e : Data) → SameButHalves d e → Each (λ r. d.backs r ≡ false) rs → Each (λ r. e.backs r ≡ false) rs
  each_beside [] d e h k = tt
  each_beside (r ∷ rs) d e h k = (sym (h.backs r) ∙ k.0, each_beside rs d e h k.1)

  reads_beside : (x : Instr) (d e : Data) → SameButHalves d e → Reads x d → Reads x e
  reads_beside (mips.Jr rs) d e h k = tt
  reads_beside (mips.Sw rt rs imm) d e h k = sym (h.backs rs) ∙ k
  reads_beside (mips.Beq rs rt imm) d e h k = sym (h.backs rs) ∙ (k ∙ h.backs rt)
  reads_beside x d e h k = each_beside (machine.reads_of x) d e h k

  lawful_beside : (b : ℕ) (i : Item) (d e : Data) → is_move i.instr ≡ false → SameButHalves d e → Lawful p b i d → Lawful q b i e
  lawful_beside b i d e m h law = record {
    placed = placed_beside i.instr d e h.regs law.placed;
    returns = returns_beside b i.instr d e h law.returns;
    reads = reads_beside i.instr d e h law.reads;
    no_exception = λ code at g. law.no_exception code at (sym (perform_beside (item_act b i d) d e h).end ∙ (ap (λ (a : Act). (machine.perform a (machine_of e)).0.end) (act_beside b i d e m h) ∙ g));
  }

  -- Both runs come to an item that stands.
  record Arrived (h l : Spot) : Type 0 where
    up : ℕ
    low : ℕ
    item : Item
    old_more : List Item
    new_more : List Item
    old_data : Data
    new_data : Data
    ups : go (items p) h up ≡ record { output = []; state = spot h.block (item ∷ old_more) h.way old_data }
    lows : Leads (items q) (Good q) low l (spot h.block (item ∷ new_more) h.way new_data)
    fewer : up ≤ low
    law : Lawful p h.block item old_data
    stays : is_move item.instr ≡ false
    same : SameButHalves old_data new_data
    zero_ : new_data.backs 0 ≡ false
    next : (d e : Data) → SameButHalves d e → e.backs 0 ≡ false → Alike p (arrived p h.way (way_of p item old_data item.instr) h.block old_more d) (arrived q h.way (way_of p item old_data item.instr) h.block new_more e)

  named_same : (f : Fix) → named q f ≡ named p f
  named_same Plain = refl
  named_same (Block t) = refl
  named_same (Function f) = ap (λ (es : List ℕ). slice_index es f) s.entries
  named_same ReturnHigh = refl
  named_same ReturnLow = refl

  way_same : (i : Item) (d e : Data) (x : Instr) → d.regs ≡ e.regs → way_of q i e x ≡ way_of p i d x
  way_same i d e (mips.J t) r = ap (λ (n : ℕ). To n) (named_same i.fix)
  way_same i d e (mips.Jal t) r = ap (λ (n : ℕ). To n) (named_same i.fix)
  way_same i d e (mips.Jr rs) r = ap (λ (l : List ℕ). To (slice_index l rs)) (sym r)
  way_same i d e (mips.Beq rs rt imm) r = ap (λ (l : List ℕ). cond (slice_index l rs == slice_index l rt) (branch_way i.fix) Onward) (sym r)
  way_same i d e (mips.Bne rs rt imm) r = ap (λ (l : List ℕ). cond (slice_index l rs == slice_index l rt) Onward (branch_way i.fix)) (sym r)
  way_same i d e x r = refl

  abbrev Out : Spot × Option ℕ → Spot × Option ℕ → Type 0
  Out a b = (b.1 ≡ a.1) × Beside (items q) (items p) (Alike p) a.0 b.0

  by_end : (h l : Spot) (i : Item) (xs ys : List Item) (a : Act) (r t : machine.State × Option ℕ) → t.1 ≡ r.1 → Alike p (arrived p h.way (way_of p i h.now i.instr) h.block xs (data_after i a h.now r.0)) (arrived q l.way (way_of q i l.now i.instr) l.block ys (data_after i a l.now t.0)) →
      (o u : Option End) → u ≡ o → Out (settled p h i xs a r o) (settled q l i ys a t u)
  by_end h l i xs ys a r t e al None None f = (e, on al)
  by_end h l i xs ys a r t e al None (Some x) f = absurd (wrong x f)
    where
      wrong : (x : End) → Some x ≡ None → ⊥
      wrong x f = cc
  by_end h l i xs ys a r t e al (Some x) None f = absurd (wrong x f)
    where
      wrong : (x : End) → None ≡ Some x → ⊥
      wrong x f = cc
  by_end h l i xs ys a r t e al (Some x) (Some y) f = (refl, over x refl f)

  stage_of : (h l : Spot) → h.end ≡ None → Arrived h l → Stage (items q) (items p) (Good q) (Alike p) h l
  stage_of h l o t =
      let b : ℕ = h.block in
      let a : Act = item_act b t.item t.old_data in
      let hs : Spot = spot b (t.item ∷ t.old_more) h.way t.old_data in
      let ls : Spot = spot b (t.item ∷ t.new_more) h.way t.new_data in
      let r : machine.State × Option ℕ = machine.perform a (machine_of t.old_data) in
      let u : machine.State × Option ℕ = machine.perform a (machine_of t.new_data) in
      let k : SameResult r u = perform_beside a t.old_data t.new_data t.same in
      let acts : item_act b t.item t.old_data ≡ item_act b t.item t.new_data = act_beside b t.item t.old_data t.new_data t.stays t.same in
      let after_ : SameButHalves (data_after t.item a t.old_data r.0) (data_after t.item a t.new_data u.0) = data_beside t.item a t.old_data t.new_data t.same in
      let own : way_of q t.item t.new_data t.item.instr ≡ way_of p t.item t.old_data t.item.instr = way_same t.item t.old_data t.new_data t.item.instr t.same.regs in
      let al : Alike p (arrived p h.way (way_of p t.item t.old_data t.item.instr) b t.old_more (data_after t.item a t.old_data r.0)) (arrived q h.way (way_of q t.item t.new_data t.item.instr) b t.new_more (data_after t.item a t.new_data u.0)) =
      subst (λ (w : Way). Alike p (arrived p h.way (way_of p t.item t.old_data t.item.instr) b t.old_more (data_after t.item a t.old_data r.0)) (arrived q h.way w b t.new_more (data_after t.item a t.new_data u.0))) (sym own)
      (t.next (data_after t.item a t.old_data r.0) (data_after t.item a t.new_data u.0) after_ (zero_kept t.item a t.new_data t.zero_)) in
      let out : Out (settled p hs t.item t.old_more a r r.0.end) (settled q ls t.item t.new_more a u u.0.end) = by_end hs ls t.item t.old_more t.new_more a r u k.output al r.0.end u.0.end k.end in
      let both : Out ((items p).step hs) ((items q).step ls) = subst (λ (x : Act). Out ((items p).step hs) (Rattle.hard_items.specs.Run.do_item q ls t.item t.new_more x)) acts out in
      let high : go (items p) h (suc t.up) ≡ record { output = put [] ((items p).step hs).1; state = ((items p).step hs).0 } = ap (λ (w : Went Spot). after w ((items p).step w.state)) t.ups in
      record {
        more = t.up;
        quiet = t.low;
        last = ls;
        going = o;
        leads = t.lows;
        open_ = refl;
        good = lawful_beside b t.item t.old_data t.new_data t.stays t.same t.law;
        fewer = t.fewer;
        output = ap (λ (z : Option ℕ). put [] z) both.0 ∙ sym (ap (λ (w : Went Spot). w.output) high);
        next = subst (λ (x : Spot). Beside (items q) (items p) (Alike p) x ((items q).step ls).0) (sym (ap (λ (w : Went Spot). w.state) high)) both.1;
      }

  -- ---- the stage, wherever the runs stand

  at_stretch : (h l : Spot) (old new : List Item) → Stretched old new → (j : Item) (xs ys : List Item) (e : Data) → h.end ≡ None → h.way ≡ Onward → h.rest ≡ old ++ j ∷ xs → l ≡ spot h.block (new ++ j ∷ ys) Onward e → SameButHalves h.now e → e.backs 0 ≡ false → Ahead h → is_move j.instr ≡ false →
      ((d : Data) (d' e' : Data) → SameButHalves d' e' → e'.backs 0 ≡ false → Alike p (arrived p Onward (way_of p j d j.instr) h.block xs d') (arrived q Onward (way_of p j d j.instr) h.block ys e')) → Arrived h l
  at_stretch h l old new t j xs ys e o w r i same z a m next =
      let b : ℕ = h.block in
      let d : Data = h.now in
      let start : h ≡ spot b (old ++ j ∷ xs) Onward d = ap (λ (x : Option End). let y : Spot = record { block = b; rest = h.rest; way = h.way; now = d; end = x } in y) o ∙ (ap (λ (x : Way). spot b h.rest x d) w ∙ ap (λ (x : List Item). spot b x Onward d) r) in
      let a' : Ahead (spot b (old ++ j ∷ xs) Onward d) = subst Ahead start a in
      let laws : LawfulAll p b old d = along b old j xs d (old_in old new t) a' in
      let ups : Leads (items p) (Good p) (length old) (spot b (old ++ j ∷ xs) Onward d) (spot b (j ∷ xs) Onward (leave b old d)) = all_lead p b old j xs d (old_in old new t) laws in
      let went : go (items p) (spot b (old ++ j ∷ xs) Onward d) (length old) ≡ record { output = []; state = spot b (j ∷ xs) Onward (leave b old d) } = leads_go (items p) (Good p) (length old) (spot b (old ++ j ∷ xs) Onward d) (spot b (j ∷ xs) Onward (leave b old d)) ups in
      let units : LawfulUnits q b t.l d = by_units b t.l d (subst (λ (l : List Item). LawfulAll q b l d) t.old_is (all_lawful_too b old d laws)) in
      let runs : Leads (items q) (Good q) (length new) (spot b (new ++ j ∷ ys) Onward e) (spot b (j ∷ ys) Onward (leave b new e)) × SameButHalves (leave b old d) (leave b new e) = stretch_runs q b old new (as_stretch old new t) j ys d e same z units in
      let reached : (go (items p) (spot b (old ++ j ∷ xs) Onward d) (length old)).state ≡ spot b (j ∷ xs) Onward (leave b old d) = ap (λ (x : Went Spot). x.state) went in
      record {
        up = length old;
        low = length new;
        item = j;
        old_more = xs;
        new_more = ys;
        old_data = leave b old d;
        new_data = leave b new e;
        ups = ap (λ (x : Spot). go (items p) x (length old)) start ∙ (went ∙ ap (λ (x : Way). let y : Went Spot = record { output = []; state = spot b (j ∷ xs) x (leave b old d) } in y) (sym w));
        lows = subst (λ (x : Way). Leads (items q) (Good q) (length new) l (spot b (j ∷ ys) x (leave b new e))) (sym w) (subst (λ (x : Spot). Leads (items q) (Good q) (length new) x (spot b (j ∷ ys) Onward (leave b new e))) (sym i) runs.0);
        fewer = longer old new t;
        law = subst (LawfulAt p) reached (a' (length old) (ap (λ (x : Spot). x.end) reached));
        stays = m;
        same = runs.1;
        zero_ = zero_leaves b new e z;
        next = subst (λ (x : Way). (d' e' : Data) → SameButHalves d' e' → e'.backs 0 ≡ false → Alike p (arrived p x (way_of p j (leave b old d) j.instr) b xs d') (arrived q x (way_of p j (leave b old d) j.instr) b ys e')) (sym w) (next (leave b old d));
      }

  at_rests : (h l : Spot) (xs ys : List Item) (e : Data) → h.end ≡ None → h.way ≡ Onward → h.rest ≡ xs → l ≡ spot h.block ys Onward e → SameButHalves h.now e → e.backs 0 ≡ false → Ahead h → Rests p xs ys → Arrived h l
  at_rests h l xs ys e o w r i same z a none = absurd (subst (λ (x : List Item). LawfulNext p h.block x h.now) r (a 0 o))
  at_rests h l xs ys e o w r i same z a (goes old new t j g us vs k) = at_stretch h l old new t j us vs e o w r i same z a g.stays
      (λ d d' e' c y. subst (λ (x : Way). Alike p (arrived p Onward x h.block us d') (arrived q Onward x h.block vs e')) (sym (g.onward d)) (alike_before h.block us vs d' e' k c y))
  at_rests h l xs ys e o w r i same z a (skips old new t j m n stays ways gm gn us vs k) = at_stretch h l old new t j (m ∷ n ∷ us) (m ∷ n ∷ vs) e o w r i same z a stays
      (λ d d' e' c y. ⊎_elim
      (λ f. subst (λ (x : Way). Alike p (arrived p Onward x h.block (m ∷ n ∷ us) d') (arrived q Onward x h.block (m ∷ n ∷ vs) e')) (sym f)
      (alike_before h.block (m ∷ n ∷ us) (m ∷ n ∷ vs) d' e' (alone p m gm (n ∷ us) (n ∷ vs) (alone p n gn us vs k)) c y))
      (λ f. subst (λ (x : Way). Alike p (arrived p Onward x h.block (m ∷ n ∷ us) d') (arrived q Onward x h.block (m ∷ n ∷ vs) e')) (sym f)
      (at_alike h.block Over (m ∷ n ∷ us) (m ∷ n ∷ vs) d' e' (record { slot = m; skipped = n; rest = us; more = vs; old_is = refl; new_is = refl; slot_goes = gm; skipped_goes = gn; rests = k }) c y)) (ways d))
  at_rests h l xs ys e o w r i same z a (jumps old new t j m stays ways gm us vs k) = at_stretch h l old new t j (m ∷ us) (m ∷ vs) e o w r i same z a stays
      (λ d d' e' c y. ⊎_elim
      (λ f. subst (λ (x : Way). Alike p (arrived p Onward x h.block (m ∷ us) d') (arrived q Onward x h.block (m ∷ vs) e')) (sym f)
      (alike_before h.block (m ∷ us) (m ∷ vs) d' e' (alone p m gm us vs k) c y))
      (λ f. subst (λ (x : Way). Alike p (arrived p Onward x h.block (m ∷ us) d') (arrived q Onward x h.block (m ∷ vs) e')) (sym f.1)
      (at_alike h.block (To f.0) (m ∷ us) (m ∷ vs) d' e' (record { slot = m; rest = us; more = vs; old_is = refl; new_is = refl; slot_goes = gm }) c y)) (ways d))

  -- an item in a delay slot
  in_slot : (h l : Spot) (j : Item) (xs ys : List Item) (e : Data) → h.end ≡ None → h.rest ≡ j ∷ xs → l ≡ spot h.block (j ∷ ys) h.way e → SameButHalves h.now e → e.backs 0 ≡ false → Ahead h → Goes p j →
      ((d' e' : Data) → SameButHalves d' e' → e'.backs 0 ≡ false → Alike p (arrived p h.way (way_of p j h.now j.instr) h.block xs d') (arrived q h.way (way_of p j h.now j.instr) h.block ys e')) → Arrived h l
  in_slot h l j xs ys e o r i same z a g next =
      let start : h ≡ spot h.block (j ∷ xs) h.way h.now = ap (λ (x : Option End). let y : Spot = record { block = h.block; rest = h.rest; way = h.way; now = h.now; end = x } in y) o ∙ ap (λ (x : List Item). spot h.block x h.way h.now) r in
      record {
        up = zero;
        low = zero;
        item = j;
        old_more = xs;
        new_more = ys;
        old_data = h.now;
        new_data = e;
        ups = ap (λ (x : Spot). let y : Went Spot = record { output = []; state = x } in y) start;
        lows = i;
        fewer = Rattle.std.proofs.Common.zero-le;
        law = subst (λ (x : List Item). LawfulNext p h.block x h.now) r (a 0 o);
        stays = g.stays;
        same = same;
        zero_ = z;
        next = next;
      }

  arrives : (h l : Spot) → Alike p h l → Ahead h → Arrived h l
  arrives h l al a = by_way h.way refl al.place
    where
      by_way : (w : Way) → h.way ≡ w → Place p w h.rest al.rest → Arrived h l
      by_way Onward f k = at_rests h l h.rest al.rest al.now al.going f refl (al.is ∙ ap (λ (w : Way). spot h.block al.rest w al.now) f) al.same al.zero_ a k
      by_way Over f k = in_slot h l k.slot (k.skipped ∷ k.rest) (k.skipped ∷ k.more) al.now al.going k.old_is (al.is ∙ ap (λ (xs : List Item). spot h.block xs h.way al.now) k.new_is) al.same al.zero_ a k.slot_goes
          (λ d e c y. subst (λ (w : Way). Alike p (arrived p w (way_of p k.slot h.now k.slot.instr) h.block (k.skipped ∷ k.rest) d) (arrived q w (way_of p k.slot h.now k.slot.instr) h.block (k.skipped ∷ k.more) e)) (sym f)
          (alike_before h.block k.rest k.more d e k.rests c y))
      by_way (To t) f k = in_slot h l k.slot k.rest k.more al.now al.going k.old_is (al.is ∙ ap (λ (xs : List Item). spot h.block xs h.way al.now) k.new_is) al.same al.zero_ a k.slot_goes
          (λ d e c y. subst (λ (w : Way). Alike p (arrived p w (way_of p k.slot h.now k.slot.instr) h.block k.rest d) (arrived q w (way_of p k.slot h.now k.slot.instr) h.block k.more e)) (sym f) (alike_block t d e c y))

  -- ---- the theorem

  ahead_of : (start : Spot) → Always (items p) start (LawfulAt p) → (n : ℕ) → Ahead (go (items p) start n).state
  ahead_of start al n i o = let e : (go (items p) start (n + i)).state ≡ (go (items p) (go (items p) start n).state i).state = ap (λ (w : Went Spot). w.state) (run_goes_on (items p) start n i) in
      subst (LawfulAt p) e (al (n + i) (ap (λ (x : Spot). x.end) e ∙ o))

  items_stand : (r : HardProgram) → Stands (items r)
  items_stand r t e h = ap (λ (o : Option End). step_from r t o) h

  same_data : (d : Data) → SameButHalves d d
  same_data d = record { regs = refl; memory = refl; feed = refl; fed = refl; backs = λ k. refl; stored = λ k. refl }

  at_first : (input : List ℕ) → Alike p (first_spot p input) (first_spot q input)
  at_first input = record { going = refl; rest = items_of q 0; now = first_data p input; is = ap (λ (d : Data). spot 0 (items_of q 0) Onward d) (s.firsts input); place = s.rests 0; same = same_data (first_data p input); zero_ = refl }

  -- The new order keeps the run, and each item that comes next in it is lawful where it is so in the old one.
  pub order_keeps : (input : List ℕ) → Always (items p) (first_spot p input) (LawfulAt p) → SameObserved (item_run q input) (item_run p input) × Always (items q) (first_spot q input) (LawfulAt q)
  order_keeps input al = follows Spot Spot End (items q) (items p) (Good q) (Alike p) (first_spot p input) (first_spot q input) (items_stand q) (items_stand p)
      (λ n l a. stage_of (go (items p) (first_spot p input) n).state l a.going (arrives (go (items p) (first_spot p input) n).state l a (ahead_of (first_spot p input) al n))) (at_first input)
