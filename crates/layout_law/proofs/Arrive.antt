-- Where both runs arrive behind an item: the same place again.
use Rattle.std.proofs.Common.{◌≡◌, ◌≤◌, ◌<◌, ℕ, suc, ◌+◌, ◌-◌, ◌*◌, ◌%◌, ◌^◌, arith, ap, refl, sym, ◌∙◌, subst, List, [], ◌∷◌, ◌++◌, length, append_assoc, length-append, Bool, true, false, cond, inl, inr}
use Rattle.std.specs.Prelude.{Option, None, ◌&&◌}
use Rattle.mips_isa.specs.declared.instr.Instr.{Instr}
use Rattle.mips_isa.specs.declared.instr.End.{End}
use Rattle.mips_isa.specs.Machine.{State, plus, is_jump}
use Rattle.hard_items.specs.declared.code.Fix.{Fix}
use Rattle.hard_items.specs.declared.code.Item.{Item}
use Rattle.hard_items.specs.declared.code.HardProgram.{HardProgram}
use Rattle.hard_items.specs.Streams.{nop}
use Rattle.hard_items.specs.Run.{Data, Spot, Way, Onward, Over, To, items_of, before, at_block, arrived, tail}
use Rattle.hard_items.specs.Forms.{Each, HalvesPair}
use Rattle.hard_items.specs.Counts.{calm_from, loaded, quiet_after, is_break, may_stand}
use Rattle.layout_law.specs.Layout.{address, text}
use Rattle.layout_law.specs.Level.{IsNop, IsStop, Lines, Layable, SameData, SamePlace, WaySame, SlotSame, Level}
use Rattle.layout_law.proofs.Texts.{address_next}
use Rattle.layout_law.proofs.Fields.{not_above, inside}
use Rattle.layout_law.proofs.Data.{Moved, any_block}

-- A state of the items by its parts.
abbrev pub spot : ℕ → List Item → Way → Data → Option End → Spot
spot b rest w d e = record { block = b; rest = rest; way = w; now = d; end = e }

no_true : true ≡ false → ⊥
no_true e = cc

-- ---- the order of loads and products

pub calm_tail : (l q : ℕ) (i : Item) (more : List Item) → calm_from l q (i ∷ more) ≡ true → is_break i.instr ≡ false → (may_stand l q i.instr ≡ true) × (calm_from (loaded i.instr) (quiet_after i.instr q) more ≡ true)
calm_tail l q i more h e = both (may_stand l q i.instr) (calm_from (loaded i.instr) (quiet_after i.instr q) more) (sym (ap (λ (z : Bool). cond z (calm_from l q more) (may_stand l q i.instr && calm_from (loaded i.instr) (quiet_after i.instr q) more)) e) ∙ h)
  where
    both : (x y : Bool) → (x && y) ≡ true → (x ≡ true) × (y ≡ true)
    both true y h = (refl, h)
    both false y h = absurd (no_true (sym h))

pub calm_break : (l q : ℕ) (i : Item) (more : List Item) → calm_from l q (i ∷ more) ≡ true → is_break i.instr ≡ true → calm_from l q more ≡ true
calm_break l q i more h e = sym (ap (λ (z : Bool). cond z (calm_from l q more) (may_stand l q i.instr && calm_from (loaded i.instr) (quiet_after i.instr q) more)) e) ∙ h

pub stop_is_break : (i : Item) → IsStop i → is_break i.instr ≡ true
stop_is_break i h = ap is_break h.stop

-- ---- where a place is

-- What is left of a block leads to the next block's address.
pub place_end : (p : HardProgram) (o : Bool) (t : Spot) (s : State) → SamePlace p o t s → s.pc + 4 * length t.rest ≡ address p (t.block + 1)
place_end p o t s h = sum s.pc (address p t.block) (length h.done) (length t.rest) (length (items_of p t.block)) (address p (t.block + 1)) h.pc (ap length h.split ∙ length-append h.done t.rest) (address_next p t.block h.there)
  where
    sum : (pc a d r n e : ℕ) → pc ≡ a + 4 * d → n ≡ d + r → e ≡ a + 4 * n → pc + 4 * r ≡ e
    sum pc a d r n e f g h = omega arith

pub place_bound : (p : HardProgram) (o : Bool) (t : Spot) (s : State) → Layable p → SamePlace p o t s → s.pc + 4 * length t.rest ≤ 2 ^ 28
place_bound p o t s l h = subst (λ (z : ℕ). z ≤ 2 ^ 28) (sym (place_end p o t s h)) (not_above p (t.block + 1) l.size)

-- ---- behind an item that goes nowhere

quiet_below : (x : Instr) (q : ℕ) → q ≤ 2 → quiet_after x q ≤ 2
quiet_below x q h = by (Rattle.mips_isa.specs.Locality.is_move x)
  where
    two : 2 ≤ 2
    two = omega arith

    less : q ≤ 2 → q - 1 ≤ 2
    less h = omega arith

    by : (z : Bool) → cond z 2 (q - 1) ≤ 2
    by true = two
    by false = less h

-- At the start of a block.
pub start_level : (p : HardProgram) (l : Layable p) (b c : ℕ) (d : Data) (s : State) → c < length p.blocks → s.text ≡ text p → s.end ≡ None → s.pc ≡ address p c → s.npc ≡ plus (address p c) 4 → s.last_load ≡ 0 → s.quiet ≡ 0 → s.slot ≡ false → SameData p false b d s → Level p (at_block p c d) s
start_level p l b c d s there t e pc npc last quiet slot m = record {
  open_ = false;
  text = t;
  place = record {
    there = there;
    done = [];
    split = refl;
    pc = pc ∙ none (address p c);
    way = npc ∙ (sum (address p c) (inside p c l there) ∙ ap (λ (z : ℕ). z + 4) (sym pc));
    lines = subst (λ (z : Bool). Lines p z (items_of p c)) (sym slot) (l.lines c there);
    slot = none_there (items_of p c);
    halves = l.halves c;
    calm = ap (λ (z : ℕ). calm_from z s.quiet (items_of p c)) last ∙ (ap (λ (z : ℕ). calm_from 0 z (items_of p c)) quiet ∙ l.calm c);
    quiet = few s.quiet quiet;
    slot_quiet = λ k. absurd (no_true (sym k ∙ slot));
  };
  data_ = record { regs = any_block p b c d.backs d.regs s.regs m.regs; memory = m.memory; hi = m.hi; lo = m.lo; feed = m.feed; fed = m.fed };
  ends = e;
}
  where
    none : (a : ℕ) → a ≡ a + 4 * 0
    none a = omega arith

    sum : (a : ℕ) → a < 2 ^ 28 → (a + 4) % 2 ^ 32 ≡ a + 4
    sum a h = omega arith

    few : (q : ℕ) → q ≡ 0 → q ≤ 2
    few q e = omega arith

    none_there : (items : List Item) → SlotSame s.slot items
    none_there [] = tt
    none_there (i ∷ more) = λ k. absurd (no_true (sym k ∙ slot))

-- At an item inside a block, behind one that goes nowhere.
inner_level : (p : HardProgram) (l : Layable p) (b : ℕ) (i : Item) (more : List Item) (d : Data) (s : State) (o : Bool) (done : List Item) → b < length p.blocks → items_of p b ≡ done ++ i ∷ more → s.text ≡ text p → s.end ≡ None → s.pc ≡ address p b + 4 * length done → s.npc ≡ plus s.pc 4 → s.pc + 4 ≤ 2 ^ 28 → s.slot ≡ false → Lines p false (i ∷ more) → HalvesPair (i ∷ more) o → calm_from s.last_load s.quiet (i ∷ more) ≡ true → s.quiet ≤ 2 → SameData p o b d s → Level p (spot b (i ∷ more) Onward d None) s
inner_level p l b i more d s o done there split t e pc npc bound slot lines halves calm quiet m = record {
  open_ = o;
  text = t;
  place = record {
    there = there;
    done = done;
    split = split;
    pc = pc;
    way = npc ∙ sum s.pc bound;
    lines = subst (λ (z : Bool). Lines p z (i ∷ more)) (sym slot) lines;
    slot = λ k. absurd (no_true (sym k ∙ slot));
    halves = halves;
    calm = calm;
    quiet = quiet;
    slot_quiet = λ k. absurd (no_true (sym k ∙ slot));
  };
  data_ = m;
  ends = e;
}
  where
    sum : (a : ℕ) → a + 4 ≤ 2 ^ 28 → (a + 4) % 2 ^ 32 ≡ a + 4
    sum a h = omega arith

one_more : (done : List Item) (i : Item) (more : List Item) → done ++ i ∷ more ≡ (done ++ i ∷ []) ++ more
one_more done i more = sym (append_assoc done (i ∷ []) more)

length_one : (done : List Item) (i : Item) (a : ℕ) → a + 4 * length done + 4 ≡ a + 4 * length (done ++ i ∷ [])
length_one done i a = sum a (length done) (length (done ++ i ∷ [])) (length-append done (i ∷ []))
  where
    sum : (a n m : ℕ) → m ≡ n + 1 → a + 4 * n + 4 ≡ a + 4 * m
    sum a n m e = omega arith

-- What stands after one item that goes nowhere and is no break.
pub record Passed (p : HardProgram) (i : Item) (more : List Item) (o : Bool) (b : ℕ) (d : Data) (s t : State) : Type 0 where
  pub text : t.text ≡ text p
  pub moved : Moved s t (loaded i.instr) (quiet_after i.instr s.quiet) false
  pub npc : t.npc ≡ plus s.npc 4
  pub open_ : t.end ≡ None
  pub halves : HalvesPair more o
  pub data_ : SameData p o b d t
  pub stays : is_jump i.instr ≡ false
  pub no_break : is_break i.instr ≡ false

nop_last : (x : Instr) → x ≡ nop → loaded x ≡ 0
nop_last x e = ap loaded e

nop_quiet : (x : Instr) (q : ℕ) → x ≡ nop → q ≤ 1 → quiet_after x q ≡ 0
nop_quiet x q e h = ap (λ (z : Instr). quiet_after z q) e ∙ none q h
  where
    none : (q : ℕ) → q ≤ 1 → q - 1 ≡ 0
    none q h = omega arith

closed_by : (more : List Item) (o : Bool) → more ≡ [] → HalvesPair more o → o ≡ false
closed_by [] o e h = h
closed_by (i ∷ more) o e h = absurd (no e)
  where
    no : i ∷ more ≡ [] → ⊥
    no e = cc

-- onward
onward : (p : HardProgram) (l : Layable p) (b : ℕ) (i : Item) (more : List Item) (d d' : Data) (s s' : State) (o o' : Bool) → SamePlace p o (spot b (i ∷ more) Onward d None) s → Passed p i more o' b d' s s' → (more ≡ [] → b + 1 < length p.blocks) → Level p (before p b more Onward d') s'
onward p l b i [] d d' s s' o o' h q f =
    let n : (s.slot ≡ true) × IsNop i = elim h.lines as (λ z. (s.slot ≡ true) × IsNop i) [ inl z ↦ z | inr z ↦ absurd (no_true (sym (stop_is_break i z) ∙ q.no_break)) ] in
    let at : s'.pc ≡ address p (b + 1) = q.moved.pc ∙ (h.way ∙ place_end p o (spot b (i ∷ []) Onward d None) s h) in
    let z : o' ≡ false = q.halves in
    start_level p l b (b + 1) d' s' (f refl) q.text q.open_ at (q.npc ∙ ap (λ (x : ℕ). plus x 4) (sym q.moved.pc ∙ at)) (q.moved.last ∙ nop_last i.instr n.1.nop) (q.moved.quiet ∙ nop_quiet i.instr s.quiet n.1.nop (h.slot_quiet n.0).0) q.moved.slot
    (subst (λ (x : Bool). SameData p x b d' s') z q.data_)
onward p l b i (j ∷ more) d d' s s' o o' h q f =
    inner_level p l b j more d' s' o' (h.done ++ i ∷ []) h.there (h.split ∙ one_more h.done i (j ∷ more)) q.text q.open_
    (q.moved.pc ∙ (h.way ∙ (ap (λ (x : ℕ). x + 4) h.pc ∙ length_one h.done i (address p b)))) (q.npc ∙ ap (λ (x : ℕ). plus x 4) (sym q.moved.pc))
    (bound s.pc s'.pc (length more) (q.moved.pc ∙ h.way) (place_bound p o (spot b (i ∷ j ∷ more) Onward d None) s l h)) q.moved.slot
    (subst (λ (x : Bool). Lines p x (j ∷ more)) q.stays h.lines.1) q.halves
    (ap (λ (x : ℕ). calm_from x s'.quiet (j ∷ more)) q.moved.last ∙ (ap (λ (x : ℕ). calm_from (loaded i.instr) x (j ∷ more)) q.moved.quiet ∙ (calm_tail s.last_load s.quiet i (j ∷ more) h.calm q.no_break).1))
    (subst (λ (x : ℕ). x ≤ 2) (sym q.moved.quiet) (quiet_below i.instr s.quiet h.quiet)) q.data_
  where
    bound : (a b n : ℕ) → b ≡ a + 4 → a + 4 * suc (suc n) ≤ 2 ^ 28 → b + 4 ≤ 2 ^ 28
    bound a b n e h = omega arith

-- over a break
over : (p : HardProgram) (l : Layable p) (b : ℕ) (i : Item) (more : List Item) (d d' : Data) (s s' : State) (o o' : Bool) → SamePlace p o (spot b (i ∷ more) Over d None) s → Passed p i more o' b d' s s' → Level p (before p b (tail more) Onward d') s'
over p l b i [] d d' s s' o o' h q = absurd h.way.1.1
over p l b i (j ∷ []) d d' s s' o o' h q = absurd h.way.1.1
over p l b i (j ∷ k ∷ more) d d' s s' o o' h q =
    let st : IsStop j = h.way.1.1.1.1 in
    let jb : is_break j.instr ≡ true = stop_is_break j st in
    let c : calm_from (loaded i.instr) (quiet_after i.instr s.quiet) (k ∷ more) ≡ true = calm_break (loaded i.instr) (quiet_after i.instr s.quiet) j (k ∷ more) (calm_tail s.last_load s.quiet i (j ∷ k ∷ more) h.calm q.no_break).1 jb in
    inner_level p l b k more d' s' o' ((h.done ++ i ∷ []) ++ j ∷ []) h.there (h.split ∙ (one_more h.done i (j ∷ k ∷ more) ∙ one_more (h.done ++ i ∷ []) j (k ∷ more))) q.text q.open_
    (q.moved.pc ∙ (h.way.0 ∙ (eight s.pc (address p b) (length h.done) h.pc ∙ (ap (λ (x : ℕ). x + 4) (length_one h.done i (address p b)) ∙ length_one (h.done ++ i ∷ []) j (address p b))))) (q.npc ∙ ap (λ (x : ℕ). plus x 4) (sym q.moved.pc))
    (bound s.pc s'.pc (length more) (q.moved.pc ∙ h.way.0) (place_bound p o (spot b (i ∷ j ∷ k ∷ more) Over d None) s l h)) q.moved.slot
    (subst (λ (x : Bool). Lines p x (k ∷ more)) (ap is_jump st.stop) h.lines.1.1)
    (behind st q.halves)
    (ap (λ (x : ℕ). calm_from x s'.quiet (k ∷ more)) q.moved.last ∙ (ap (λ (x : ℕ). calm_from (loaded i.instr) x (k ∷ more)) q.moved.quiet ∙ c))
    (subst (λ (x : ℕ). x ≤ 2) (sym q.moved.quiet) (quiet_below i.instr s.quiet h.quiet)) q.data_
  where
    bound : (a b n : ℕ) → b ≡ a + 8 → a + 4 * suc (suc (suc n)) ≤ 2 ^ 28 → b + 4 ≤ 2 ^ 28
    bound a b n e h = omega arith

    eight : (pc a n : ℕ) → pc ≡ a + 4 * n → pc + 8 ≡ a + 4 * n + 4 + 4
    eight pc a n e = omega arith

    behind : IsStop j → HalvesPair (j ∷ k ∷ more) o' → HalvesPair (k ∷ more) o'
    behind st h = (subst (λ (x : Fix). Rattle.hard_items.specs.Forms.HalvesAt (HalvesPair (k ∷ more)) x o' j.instr) st.no_field h).1

-- to a block
away : (p : HardProgram) (l : Layable p) (b c : ℕ) (i : Item) (more : List Item) (d d' : Data) (s s' : State) (o o' : Bool) → SamePlace p o (spot b (i ∷ more) (To c) d None) s → Passed p i more o' b d' s s' → Level p (at_block p c d') s'
away p l b c i (j ∷ more) d d' s s' o o' h q = absurd h.way.1.1.1
away p l b c i [] d d' s s' o o' h q =
    let n : IsNop i = h.way.1.1.1 in
    let at : s'.pc ≡ address p c = q.moved.pc ∙ h.way.0 in
    start_level p l b c d' s' h.way.1.0 q.text q.open_ at (q.npc ∙ ap (λ (x : ℕ). plus x 4) (sym q.moved.pc ∙ at)) (q.moved.last ∙ nop_last i.instr n.nop) (q.moved.quiet ∙ nop_quiet i.instr s.quiet n.nop (h.slot_quiet h.way.1.1.0).0) q.moved.slot
    (subst (λ (x : Bool). SameData p x b d' s') q.halves q.data_)

-- Behind an item that goes nowhere both are at the same place.
pub arrive : (p : HardProgram) (l : Layable p) (w : Way) (b : ℕ) (i : Item) (more : List Item) (d d' : Data) (s s' : State) (o o' : Bool) → SamePlace p o (spot b (i ∷ more) w d None) s → Passed p i more o' b d' s s' → (w ≡ Onward → more ≡ [] → b + 1 < length p.blocks) → Level p (arrived p w Onward b more d') s'
arrive p l Onward b i more d d' s s' o o' h q f = onward p l b i more d d' s s' o o' h q (f refl)
arrive p l Over b i more d d' s s' o o' h q f = over p l b i more d d' s s' o o' h q
arrive p l (To c) b i more d d' s s' o o' h q f = away p l b c i more d d' s s' o o' h q

-- ---- behind a branch or a jump

-- What stands after one branch or jump that goes a way.
pub record Went (p : HardProgram) (w : Way) (i : Item) (more : List Item) (o : Bool) (b : ℕ) (d : Data) (s t : State) : Type 0 where
  pub text : t.text ≡ text p
  pub pc : t.pc ≡ s.npc
  pub last : t.last_load ≡ 0
  pub quiet : t.quiet ≡ s.quiet - 1
  pub slot : t.slot ≡ true
  pub way : WaySame p w t.pc t.npc true more
  pub open_ : t.end ≡ None
  pub halves : HalvesPair more o
  pub data_ : SameData p o b d t
  pub some : SlotSame true more
  pub goes : is_jump i.instr ≡ true
  pub stays : loaded i.instr ≡ 0
  pub quiet_is : quiet_after i.instr s.quiet ≡ s.quiet - 1
  pub no_break : is_break i.instr ≡ false

way_slot : (p : HardProgram) (w : Way) (pc npc : ℕ) (z : Bool) (more : List Item) → z ≡ true → WaySame p w pc npc true more → WaySame p w pc npc z more
way_slot p w pc npc z more e h = subst (λ (x : Bool). WaySame p w pc npc x more) (sym e) h

pub depart : (p : HardProgram) (l : Layable p) (w : Way) (b : ℕ) (i : Item) (more : List Item) (d d' : Data) (s s' : State) (o o' : Bool) → SamePlace p o (spot b (i ∷ more) Onward d None) s → Went p w i more o' b d' s s' → Level p (before p b more w d') s'
depart p l w b i [] d d' s s' o o' h q = absurd (elim h.lines as (λ z. ⊥) [ inl z ↦ no_true (sym q.goes ∙ ap is_jump z.1.nop) | inr z ↦ no_true (sym (stop_is_break i z) ∙ q.no_break) ])
depart p l w b i (j ∷ more) d d' s s' o o' h q = record {
  open_ = o';
  text = q.text;
  place = record {
    there = h.there;
    done = h.done ++ i ∷ [];
    split = h.split ∙ one_more h.done i (j ∷ more);
    pc = q.pc ∙ (h.way ∙ (ap (λ (x : ℕ). x + 4) h.pc ∙ length_one h.done i (address p b)));
    way = way_slot p w s'.pc s'.npc s'.slot (j ∷ more) q.slot q.way;
    lines = subst (λ (x : Bool). Lines p x (j ∷ more)) (q.goes ∙ sym q.slot) h.lines.1;
    slot = λ k. q.some refl;
    halves = q.halves;
    calm = ap (λ (x : ℕ). calm_from x s'.quiet (j ∷ more)) (q.last ∙ sym q.stays) ∙ (ap (λ (x : ℕ). calm_from (loaded i.instr) x (j ∷ more)) (q.quiet ∙ sym q.quiet_is) ∙ (calm_tail s.last_load s.quiet i (j ∷ more) h.calm q.no_break).1);
    quiet = two s.quiet s'.quiet q.quiet h.quiet;
    slot_quiet = λ k. (one s.quiet s'.quiet q.quiet h.quiet, q.last);
  };
  data_ = q.data_;
  ends = q.open_;
}
  where
    two : (a b : ℕ) → b ≡ a - 1 → a ≤ 2 → b ≤ 2
    two a b e h = omega arith

    one : (a b : ℕ) → b ≡ a - 1 → a ≤ 2 → b ≤ 1
    one a b e h = omega arith
