-- A program and one that is it with its blocks at other places, side by side.
use Rattle.std.proofs.Common.{◌≡◌, ◌≢◌, ◌≤◌, ◌<◌, ℕ, zero, suc, ◌-◌, arith, ap, refl, sym, ◌∙◌, subst, List, [], ◌∷◌, ◌++◌, length, append_assoc, replicate, Bool, true, false, inl, inr}
use Rattle.std.specs.Prelude.{Option, Some, None, slice_index, slice_get}
use Rattle.hard_runs.specs.Stepping.{Stands, Quiet, Leads, Beside, Stage, Always, go, put}
use Rattle.hard_runs.specs.Stepping as stepping
use Rattle.hard_runs.proofs.Following.{follows}
use Rattle.mips_isa.specs.declared.instr.Instr.{Instr}
use Rattle.mips_isa.specs.declared.instr.Instr.TheVariants.{J, Beq, Bne}
use Rattle.mips_isa.specs.declared.instr.Act.{Act}
use Rattle.mips_isa.specs.declared.instr.End.{End}
use Rattle.mips_isa.specs.Table.{IsInRange}
use Rattle.mips_isa.specs.Machine.{State, perform, is_jump}
use Rattle.hard_items.specs.declared.code.Class.{Class}
use Rattle.hard_items.specs.declared.code.Class.TheVariants as classes
use Rattle.hard_items.specs.declared.code.Fix.{Fix}
use Rattle.hard_items.specs.declared.code.Fix.TheVariants.{Plain, Block}
use Rattle.hard_items.specs.declared.code.Item.{Item}
use Rattle.hard_items.specs.declared.code.HardBlock.{HardBlock}
use Rattle.hard_items.specs.declared.code.HardProgram.{HardProgram}
use Rattle.hard_items.specs.Streams.{nop, plain}
use Rattle.hard_items.specs.Run.{Data, Spot, Way, Onward, Over, To, machine_of, items, items_of, block_items, item_act, way_of, at_block, arrived, settled, step_from, first_spot, first_data, data_after}
use Rattle.hard_items.specs.Ways.{Holds}
use Rattle.hard_items.specs.Forms.{Each, Jump, close_items, going}
use Rattle.hard_items.specs.Rules.{Lawful, LawfulNext, LawfulAt}
use Rattle.layout_law.specs.Level.{LastSlot, SkippedSlot, IsNop, IsStop, Lines}
use Rattle.block_relays.specs.Renumber.{LeadsTo, straight, relayed, return_place, IsReturn, is_branch, IsTest, ItemPlaced, ItemsPlaced, Renumbered, Orderly, renamed, SameWords, SameNumbers, RunsRenumbered}
use Rattle.block_relays.specs.Renumber as placed
use Rattle.layout_law.proofs.Acts.{stays_on}
use Rattle.layout_law.proofs.Arrive.{spot, stop_is_break}
use Rattle.layout_law.proofs.Step.{item, jump_fits}
use Rattle.layout_law.proofs.Standing.{holds_first}
use Rattle.layout_law.proofs.Views.{view}
use Rattle.layout_law.proofs.Whole.{break_act}
use Rattle.block_relays.proofs.Numbers.{MarksSame, Outcome, on, over, perform_same, ActPlaced}
use Rattle.block_relays.proofs.Renamed.{act_placed}
use Rattle.block_relays.proofs.Ways as ways
use Rattle.block_relays.proofs.Ways.{Goal, WaysLead, ways_lead, lawful_placed}

no_true : true ≡ false → ⊥
no_true e = cc

-- ---- where both stand

pub record Standing (p q : HardProgram) (place : ℕ → ℕ) (b : ℕ) (rest rest' : List Item) (w w' : Way) (slot : Bool) : Type 0 where
  pub done : List Item
  pub split : items_of p b ≡ done ++ rest
  pub lines : Lines p slot rest
  pub placed : ItemsPlaced p q place b rest rest'
  pub ways : WaysLead q place b rest slot w w'

pub record Pair (p q : HardProgram) (place : ℕ → ℕ) (h l : Spot) : Type 0 where
  pub slot : Bool
  pub stands : h.rest ≢ [] → Standing p q place h.block h.rest l.rest h.way l.way slot
  pub block : l.block ≡ place h.block
  pub same : SameNumbers (return_place place) (IsReturn q place) h.now l.now
  pub h_open : h.end ≡ None
  pub l_open : l.end ≡ None

block_there : (p : HardProgram) (c : ℕ) → items_of p c ≢ [] → c < length p.blocks
block_there p c h = by p.blocks c h
  where
    least : (n : ℕ) → 0 < suc n
    least n = omega arith

    up : (c n : ℕ) → c < n → suc c < suc n
    up c n h = omega arith

    by : (ks : List HardBlock) (c' : ℕ) → block_items (slice_get ks c') ≢ [] → c' < length ks
    by [] c' h = absurd (h refl)
    by (k ∷ ks) zero h = least (length ks)
    by (k ∷ ks) (suc c') h = up c' (length ks) (by ks c' h)

-- At the start of a block, and of its place.
pub start_pair : (p q : HardProgram) (place : ℕ → ℕ) → Orderly p → Renumbered p q place → (c : ℕ) (d e : Data) → SameNumbers (return_place place) (IsReturn q place) d e → Pair p q place (at_block p c d) (at_block q (place c) e)
start_pair p q place o l c d e m = record {
  slot = false;
  stands = λ h. let t : c < length p.blocks = block_there p c h in record { done = []; split = refl; lines = o.lines c t; placed = l.blocks c t; ways = ways.onward refl refl (λ z. absurd (no_true (sym z))) };
  block = refl;
  same = m;
  h_open = refl;
  l_open = refl;
}

stand : (p : HardProgram) → Stands (items p)
stand p s e h = ap (λ (z : Option End). step_from p s z) h

-- ---- at the last item of a block

goal_arrives : (p : HardProgram) (w : Way) (b c : ℕ) (d : Data) → Goal w b c → arrived p w Onward b [] d ≡ at_block p c d
goal_arrives p Onward b c d h = ap (λ (z : ℕ). at_block p z d) (sym h)
goal_arrives p Over b c d h = absurd h
goal_arrives p (To t) b c d h = ap (λ (z : ℕ). at_block p z d) (sym h)

nop_item : Class → Item
nop_item k = item nop k Plain

lawful_nop : (q : HardProgram) (b : ℕ) (k : Class) (e : Data) → e.backs 0 ≡ false → Lawful q b (item nop k Plain) e
lawful_nop q b k e h = record { placed = tt; returns = tt; reads = (h, tt); no_exception = λ code at x. no x }
  where
    no : {x : End} → None ≡ Some x → ⊥
    no e = cc

lawful_jump : (q : HardProgram) (b t : ℕ) (e : Data) → Lawful q b (going (J 0) (Block t)) e
lawful_jump q b t e = record { placed = tt; returns = tt; reads = tt; no_exception = λ code at x. no x }
  where
    no : {x : End} → None ≡ Some x → ⊥
    no e = cc

-- From the start of a block that only jumps.
relay_leads : (q : HardProgram) (n m : ℕ) (e : Data) (s : Spot) → s ≡ spot n (close_items (Jump m)) Onward e None → Leads (items q) (LawfulAt q) 1 s (spot n (plain nop classes.Act ∷ []) (To m) e None)
relay_leads q n m e s h = subst (λ (z : Spot). Leads (items q) (LawfulAt q) 1 z (spot n (plain nop classes.Act ∷ []) (To m) e None)) (sym h)
    (record { open_ = refl; good = lawful_jump q n m e; silent = refl }, refl)

last_stage_by : (p q : HardProgram) (place : ℕ → ℕ) → Orderly p → Renumbered p q place → (b c n : ℕ) (k k' : Class) (w w' : Way) (d e : Data) → SameNumbers (return_place place) (IsReturn q place) d e → Goal w b c → Goal w' (place b) n → LeadsTo q place n c →
    Stage (items q) (items p) (LawfulAt q) (Pair p q place) (spot b (item nop k Plain ∷ []) w d None) (spot (place b) (item nop k' Plain ∷ []) w' e None)
last_stage_by p q place o l b c n k k' w w' d e m g g' (straight h) = record {
  more = 0;
  quiet = 0;
  last = spot (place b) (item nop k' Plain ∷ []) w' e None;
  going = refl;
  leads = refl;
  open_ = refl;
  good = lawful_nop q (place b) k' e (m.regs.marks 0 ∙ m.zero);
  fewer = le;
  output = refl;
  next = stepping.on (subst (λ (z : Spot). Pair p q place z (arrived q w' Onward (place b) [] e)) (sym (goal_arrives p w b c d g))
      (subst (λ (z : Spot). Pair p q place (at_block p c d) z) (sym (goal_arrives q w' (place b) n e g' ∙ ap (λ (z : ℕ). at_block q z e) h)) (start_pair p q place o l c d e m)));
}
  where
    le : 0 ≤ 0
    le = omega arith
last_stage_by p q place o l b c n k k' w w' d e m g g' (relayed h) = record {
  more = 0;
  quiet = 2;
  last = spot n (plain nop classes.Act ∷ []) (To (place c)) e None;
  going = refl;
  leads = (record { open_ = refl; good = lawful_nop q (place b) k' e (m.regs.marks 0 ∙ m.zero); silent = refl }, relay_leads q n (place c) e (arrived q w' Onward (place b) [] e) (goal_arrives q w' (place b) n e g' ∙ ap (λ (z : List Item). spot n z Onward e None) h));
  open_ = refl;
  good = lawful_nop q n classes.Act e (m.regs.marks 0 ∙ m.zero);
  fewer = le;
  output = refl;
  next = stepping.on (subst (λ (z : Spot). Pair p q place z (at_block q (place c) e)) (sym (goal_arrives p w b c d g)) (start_pair p q place o l c d e m));
}
  where
    le : 0 ≤ 2
    le = omega arith

-- ---- at an item inside a block

range_by : (done : List Item) (i : Item) (more : List Item) → Each (λ (i : Item). IsInRange i.instr) (done ++ i ∷ more) → IsInRange i.instr
range_by [] i more h = h.0
range_by (j ∷ done) i more h = range_by done i more h.1

place_of_plain : (p q : HardProgram) (place : ℕ → ℕ) (b : ℕ) (x : Instr) (k : Class) (f : Fix) (j : Item) → f ≡ Plain → ItemPlaced p q place b (item x k f) j → j ≡ item x k f
place_of_plain p q place b x k f j h (placed.same y n v) = y
place_of_plain p q place b x k f j h (placed.jumps t n tg u v y w) = absurd (no_plain (sym h ∙ u))
  where
    no_plain : Plain ≡ Block t → ⊥
    no_plain e = cc
place_of_plain p q place b x k f j h (placed.branches t n u v y w w') = absurd (no_plain (sym h ∙ u))
  where
    no_plain : Plain ≡ Block t → ⊥
    no_plain e = cc
place_of_plain p q place b x k f j h (placed.turns t n u v y w w') = absurd (no_plain (sym h ∙ u))
  where
    no_plain : Plain ≡ Block t → ⊥
    no_plain e = cc

-- One act on both, and where they come to.
act_stage : (p q : HardProgram) (place : ℕ → ℕ) (b : ℕ) (i : Item) (more : List Item) (j : Item) (more' : List Item) (w w' : Way) (d e : Data) → Lawful q (place b) j e →
    Outcome (return_place place) (IsReturn q place) i j (item_act b i d) (item_act (place b) j e) d e (perform (item_act b i d) (machine_of d)) (perform (item_act (place b) j e) (machine_of e)) →
    ((d' e' : Data) → (perform (item_act b i d) (machine_of d)).0.end ≡ None → SameNumbers (return_place place) (IsReturn q place) d' e' → Pair p q place (arrived p w (way_of p i d i.instr) b more d') (arrived q w' (way_of q j e j.instr) (place b) more' e')) →
    Stage (items q) (items p) (LawfulAt q) (Pair p q place) (spot b (i ∷ more) w d None) (spot (place b) (j ∷ more') w' e None)
act_stage p q place b i more j more' w w' d e g (on h k t m) f =
    let a : Act = item_act b i d in
    let c : Act = item_act (place b) j e in
    let high : State × Option ℕ = perform a (machine_of d) in
    let low : State × Option ℕ = perform c (machine_of e) in
    let u : settled p (spot b (i ∷ more) w d None) i more a high high.0.end ≡ (arrived p w (way_of p i d i.instr) b more (data_after i a d high.0), high.1) = ap (λ (z : Option End). settled p (spot b (i ∷ more) w d None) i more a high z) h in
    let v : settled q (spot (place b) (j ∷ more') w' e None) j more' c low low.0.end ≡ (arrived q w' (way_of q j e j.instr) (place b) more' (data_after j c e low.0), low.1) = ap (λ (z : Option End). settled q (spot (place b) (j ∷ more') w' e None) j more' c low z) k in
    record {
      more = 0;
      quiet = 0;
      last = spot (place b) (j ∷ more') w' e None;
      going = refl;
      leads = refl;
      open_ = refl;
      good = g;
      fewer = le;
      output = ap (λ (z : Spot × Option ℕ). put [] z.1) v ∙ (ap (put []) t ∙ ap (λ (z : Spot × Option ℕ). put [] z.1) (sym u));
      next = subst (λ (z : Spot × Option ℕ). Beside (items q) (items p) (Pair p q place) z.0 (settled q (spot (place b) (j ∷ more') w' e None) j more' c low low.0.end).0) (sym u)
          (subst (λ (z : Spot × Option ℕ). Beside (items q) (items p) (Pair p q place) (arrived p w (way_of p i d i.instr) b more (data_after i a d high.0)) z.0) (sym v)
          (stepping.on (f (data_after i a d high.0) (data_after j c e low.0) h m)));
    }
  where
    le : 0 ≤ 0
    le = omega arith
act_stage p q place b i more j more' w w' d e g (over x h k) f =
    let a : Act = item_act b i d in
    let c : Act = item_act (place b) j e in
    let high : State × Option ℕ = perform a (machine_of d) in
    let low : State × Option ℕ = perform c (machine_of e) in
    let u : settled p (spot b (i ∷ more) w d None) i more a high high.0.end ≡ (spot b (i ∷ more) w d (Some x), None) = ap (λ (z : Option End). settled p (spot b (i ∷ more) w d None) i more a high z) h in
    let v : settled q (spot (place b) (j ∷ more') w' e None) j more' c low low.0.end ≡ (spot (place b) (j ∷ more') w' e (Some x), None) = ap (λ (z : Option End). settled q (spot (place b) (j ∷ more') w' e None) j more' c low z) k in
    record {
      more = 0;
      quiet = 0;
      last = spot (place b) (j ∷ more') w' e None;
      going = refl;
      leads = refl;
      open_ = refl;
      good = g;
      fewer = le;
      output = ap (λ (z : Spot × Option ℕ). put [] z.1) v ∙ ap (λ (z : Spot × Option ℕ). put [] z.1) (sym u);
      next = stepping.over x (ap (λ (z : Spot × Option ℕ). z.0.end) u) (ap (λ (z : Spot × Option ℕ). z.0.end) v);
    }
  where
    le : 0 ≤ 0
    le = omega arith

one_more : (done : List Item) (i : Item) (more : List Item) → done ++ i ∷ more ≡ (done ++ i ∷ []) ++ more
one_more done i more = sym (append_assoc done (i ∷ []) more)

-- Inside a block again.
inside : (p q : HardProgram) (place : ℕ → ℕ) (b : ℕ) (rest rest' : List Item) (w w' : Way) (slot : Bool) (d e : Data) → Standing p q place b rest rest' w w' slot → SameNumbers (return_place place) (IsReturn q place) d e → Pair p q place (spot b rest w d None) (spot (place b) rest' w' e None)
inside p q place b rest rest' w w' slot d e s m = record { slot = slot; stands = λ z. s; block = refl; same = m; h_open = refl; l_open = refl }

-- Behind an item that goes nowhere and isn't the last.
stay_on : (p q : HardProgram) (place : ℕ → ℕ) (b : ℕ) (i : Item) (more : List Item) (j : Item) (more' : List Item) (slot : Bool) (d e : Data) → (done : List Item) → items_of p b ≡ done ++ i ∷ more → Lines p slot (i ∷ more) → ItemsPlaced p q place b more more' → (slot ≡ true → LastSlot (i ∷ more) → ⊥) → is_jump i.instr ≡ false → (IsStop i → ⊥) → SameNumbers (return_place place) (IsReturn q place) d e →
    Pair p q place (arrived p Onward Onward b more d) (arrived q Onward Onward (place b) more' e)
stay_on p q place b i [] j more' slot d e done s ls pl nl g nb m = absurd (elim ls as (λ z. ⊥) [ inl z ↦ nl z.0 z.1 | inr z ↦ nb z ])
stay_on p q place b i (y ∷ more) j [] slot d e done s ls pl nl g nb m = absurd pl
stay_on p q place b i (y ∷ more) j (y' ∷ more') slot d e done s ls pl nl g nb m = inside p q place b (y ∷ more) (y' ∷ more') Onward Onward false d e
    (record { done = done ++ i ∷ []; split = s ∙ one_more done i (y ∷ more); lines = subst (λ (z : Bool). Lines p z (y ∷ more)) g ls.1; placed = pl; ways = ways.onward refl refl (λ z. absurd (no_true (sym z))) }) m

-- Over a break.
skip_on : (p q : HardProgram) (place : ℕ → ℕ) (b : ℕ) (i : Item) (more : List Item) (more' : List Item) (slot : Bool) (d e : Data) → (done : List Item) → items_of p b ≡ done ++ i ∷ more → Lines p slot (i ∷ more) → ItemsPlaced p q place b more more' → SkippedSlot (i ∷ more) → SameNumbers (return_place place) (IsReturn q place) d e →
    Pair p q place (arrived p Over Onward b more d) (arrived q Over Onward (place b) more' e)
skip_on p q place b i [] more' slot d e done s ls pl h m = absurd h
skip_on p q place b i (y ∷ []) more' slot d e done s ls pl h m = absurd h
skip_on p q place b i (y ∷ z ∷ more) [] slot d e done s ls pl h m = absurd pl
skip_on p q place b i (y ∷ z ∷ more) (y' ∷ []) slot d e done s ls pl h m = absurd pl.1
skip_on p q place b i (y ∷ z ∷ more) (y' ∷ z' ∷ more') slot d e done s ls pl h m = inside p q place b (z ∷ more) (z' ∷ more') Onward Onward false d e
    (record {
      done = (done ++ i ∷ []) ++ y ∷ [];
      split = s ∙ (one_more done i (y ∷ z ∷ more) ∙ one_more (done ++ i ∷ []) y (z ∷ more));
      lines = subst (λ (u : Bool). Lines p u (z ∷ more)) (ap is_jump h.1.1.stop) ls.1.1;
      placed = pl.1;
      ways = ways.onward refl refl (λ u. absurd (no_true (sym u)));
    }) m

-- Behind a branch or a jump.
jump_on : (p q : HardProgram) (place : ℕ → ℕ) (b : ℕ) (i : Item) (more : List Item) (more' : List Item) (slot : Bool) (own own' : Way) (d e : Data) → (done : List Item) → items_of p b ≡ done ++ i ∷ more → Lines p slot (i ∷ more) → ItemsPlaced p q place b more more' → is_jump i.instr ≡ true → WaysLead q place b more true own own' → SameNumbers (return_place place) (IsReturn q place) d e →
    Pair p q place (arrived p Onward own b more d) (arrived q Onward own' (place b) more' e)
jump_on p q place b i [] more' slot own own' d e done s ls pl g v m = absurd (elim ls as (λ z. ⊥) [ inl z ↦ no_true (sym g ∙ ap is_jump z.1.nop) | inr z ↦ no_true (sym g ∙ ap is_jump z.stop) ])
jump_on p q place b i (y ∷ more) [] slot own own' d e done s ls pl g v m = absurd pl
jump_on p q place b i (y ∷ more) (y' ∷ more') slot own own' d e done s ls pl g v m = inside p q place b (y ∷ more) (y' ∷ more') own own' true d e
    (record { done = done ++ i ∷ []; split = s ∙ one_more done i (y ∷ more); lines = subst (λ (z : Bool). Lines p z (y ∷ more)) g ls.1; placed = pl; ways = v }) m

-- ---- one stage

branch_jumps : (x : Instr) → is_branch x → is_jump x ≡ true
branch_jumps (Beq rs rt imm) h = refl
branch_jumps (Bne rs rt imm) h = refl
branch_jumps x h = absurd h

test_jumps : (x : Instr) → IsTest x → is_jump x ≡ true
test_jumps (Beq rs rt imm) h = refl
test_jumps (Bne rs rt imm) h = refl
test_jumps x h = absurd h

way_still : (p q : HardProgram) (place : ℕ → ℕ) (b : ℕ) (x : Instr) (k : Class) (f : Fix) (j : Item) (e : Data) → ItemPlaced p q place b (item x k f) j → is_jump x ≡ false → way_of q j e j.instr ≡ Onward
way_still p q place b x k f j e (placed.same y n v) g = subst (λ (z : Item). way_of q z e z.instr ≡ Onward) (sym y) (stays_on q (item x k f) e x g)
way_still p q place b x k f j e (placed.jumps t n tg u v y w) g = absurd (no_true (sym (ap is_jump v) ∙ g))
way_still p q place b x k f j e (placed.branches t n u v y w w') g = absurd (no_true (sym (branch_jumps x v) ∙ g))
way_still p q place b x k f j e (placed.turns t n u v y w w') g = absurd (no_true (sym (test_jumps x v) ∙ g))

-- a break by itself ends the run
stop_ends : (b : ℕ) (x : Instr) (k : Class) (f : Fix) (d : Data) → IsStop (item x k f) → (perform (item_act b (item x k f) d) (machine_of d)).0.end ≡ None → ⊥
stop_ends b x k f d s h = break_act b x k f d (subst (λ (z : Fix). Rattle.layout_law.specs.Level.StayFits z x) (sym s.no_field) tt) (stop_is_break (item x k f) s) h

last_stage : (p q : HardProgram) (place : ℕ → ℕ) → Orderly p → Renumbered p q place → (b c n : ℕ) (x : Instr) (k : Class) (f : Fix) (more : List Item) (j : Item) (more' : List Item) (w w' : Way) (d e : Data) → ItemPlaced p q place b (item x k f) j → ItemsPlaced p q place b more more' → LastSlot (item x k f ∷ more) → SameNumbers (return_place place) (IsReturn q place) d e → Goal w b c → Goal w' (place b) n → LeadsTo q place n c →
    Stage (items q) (items p) (LawfulAt q) (Pair p q place) (spot b (item x k f ∷ more) w d None) (spot (place b) (j ∷ more') w' e None)
last_stage p q place o l b c n x k f [] j [] w w' d e i pl h m g g' v =
    subst (λ (z : Item). Stage (items q) (items p) (LawfulAt q) (Pair p q place) (spot b (item x k f ∷ []) w d None) (spot (place b) (z ∷ []) w' e None)) (sym (place_of_plain p q place b x k f j h.no_field i))
    (subst (λ (z : Instr). Stage (items q) (items p) (LawfulAt q) (Pair p q place) (spot b (item z k f ∷ []) w d None) (spot (place b) (item z k f ∷ []) w' e None)) (sym h.nop)
    (subst (λ (z : Fix). Stage (items q) (items p) (LawfulAt q) (Pair p q place) (spot b (item nop k z ∷ []) w d None) (spot (place b) (item nop k z ∷ []) w' e None)) (sym h.no_field)
    (last_stage_by p q place o l b c n k k w w' d e m g g' v)))
last_stage p q place o l b c n x k f [] j (y' ∷ more') w w' d e i pl h m g g' v = absurd pl
last_stage p q place o l b c n x k f (y ∷ more) j more' w w' d e i pl h m g g' v = absurd h

skipped_still : (i : Item) (more : List Item) → SkippedSlot (i ∷ more) → is_jump i.instr ≡ false
skipped_still i [] h = absurd h
skipped_still i (y ∷ []) h = absurd h
skipped_still i (y ∷ z ∷ more) h = h.0

item_stage : (p q : HardProgram) (place : ℕ → ℕ) → Orderly p → Renumbered p q place → (b : ℕ) (x : Instr) (k : Class) (f : Fix) (more : List Item) (j : Item) (more' : List Item) (w w' : Way) (slot : Bool) (d e : Data) → (s : Standing p q place b (item x k f ∷ more) (j ∷ more') w w' slot) → SameNumbers (return_place place) (IsReturn q place) d e → Lawful p b (item x k f) d → WaysLead q place b (item x k f ∷ more) slot w w' →
    Stage (items q) (items p) (LawfulAt q) (Pair p q place) (spot b (item x k f ∷ more) w d None) (spot (place b) (j ∷ more') w' e None)
item_stage p q place o l b x k f more j more' w w' slot d e s m h (ways.last ls c n g g' v) = last_stage p q place o l b c n x k f more j more' w w' d e s.placed.0 s.placed.1 ls m g g' v
item_stage p q place o l b x k f more j more' w w' slot d e s m h (ways.over_ u v sk) =
    let i : Item = item x k f in
    let ap' : ActPlaced (return_place place) (IsReturn q place) i d (item_act b i d) (item_act (place b) j e) × MarksSame i j = act_placed p q place b x k f j d e m s.placed.0 h.reads (range_by s.done i more (subst (λ (z : List Item). Each (λ (i : Item). IsInRange i.instr) z) s.split (o.in_range b))) in
    let oc : Outcome (return_place place) (IsReturn q place) i j (item_act b i d) (item_act (place b) j e) d e (perform (item_act b i d) (machine_of d)) (perform (item_act (place b) j e) (machine_of e)) = perform_same (return_place place) (IsReturn q place) i j d e (item_act b i d) (item_act (place b) j e) m ap'.1 ap'.0 in
    let g : is_jump x ≡ false = skipped_still i more sk in
    act_stage p q place b i more j more' w w' d e (lawful_placed p q place l b x k f j d e m s.placed.0 (holds_first p b i more s.done s.split) h oc) oc
    (λ d' e' en m'. subst (λ (z : Way). Pair p q place (arrived p z (way_of p i d x) b more d') (arrived q w' (way_of q j e j.instr) (place b) more' e')) (sym u)
    (subst (λ (z : Way). Pair p q place (arrived p Over (way_of p i d x) b more d') (arrived q z (way_of q j e j.instr) (place b) more' e')) (sym v)
    (skip_on p q place b i more more' slot d' e' s.done s.split s.lines s.placed.1 sk m')))
item_stage p q place o l b x k f more j more' w w' slot d e s m h (ways.onward u v ns) = by (is_jump x) refl
  where
    ranged : IsInRange x
    ranged = range_by s.done (item x k f) more (subst (λ (z : List Item). Each (λ (i : Item). IsInRange i.instr) z) s.split (o.in_range b))

    acts : ActPlaced (return_place place) (IsReturn q place) (item x k f) d (item_act b (item x k f) d) (item_act (place b) j e) × MarksSame (item x k f) j
    acts = act_placed p q place b x k f j d e m s.placed.0 h.reads ranged

    oc : Outcome (return_place place) (IsReturn q place) (item x k f) j (item_act b (item x k f) d) (item_act (place b) j e) d e (perform (item_act b (item x k f) d) (machine_of d)) (perform (item_act (place b) j e) (machine_of e))
    oc = perform_same (return_place place) (IsReturn q place) (item x k f) j d e (item_act b (item x k f) d) (item_act (place b) j e) m acts.1 acts.0

    holds : Holds p b (item x k f)
    holds = holds_first p b (item x k f) more s.done s.split

    lawful : Lawful q (place b) j e
    lawful = lawful_placed p q place l b x k f j d e m s.placed.0 holds h oc

    by : (z : Bool) → is_jump x ≡ z → Stage (items q) (items p) (LawfulAt q) (Pair p q place) (spot b (item x k f ∷ more) w d None) (spot (place b) (j ∷ more') w' e None)
    by false g = act_stage p q place b (item x k f) more j more' w w' d e lawful oc
        (λ d' e' en m'. subst (λ (z : Way). Pair p q place (arrived p z (way_of p (item x k f) d x) b more d') (arrived q w' (way_of q j e j.instr) (place b) more' e')) (sym u)
        (subst (λ (z : Way). Pair p q place (arrived p Onward (way_of p (item x k f) d x) b more d') (arrived q z (way_of q j e j.instr) (place b) more' e')) (sym v)
        (subst (λ (z : Way). Pair p q place (arrived p Onward z b more d') (arrived q Onward (way_of q j e j.instr) (place b) more' e')) (sym (stays_on p (item x k f) d x g))
        (subst (λ (z : Way). Pair p q place (arrived p Onward Onward b more d') (arrived q Onward z (place b) more' e')) (sym (way_still p q place b x k f j e s.placed.0 g))
        (stay_on p q place b (item x k f) more j more' slot d' e' s.done s.split s.lines s.placed.1 ns g (λ y. stop_ends b x k f d y en) m')))))
    by true g = act_stage p q place b (item x k f) more j more' w w' d e lawful oc
        (λ d' e' en m'. subst (λ (z : Way). Pair p q place (arrived p z (way_of p (item x k f) d x) b more d') (arrived q w' (way_of q j e j.instr) (place b) more' e')) (sym u)
        (subst (λ (z : Way). Pair p q place (arrived p Onward (way_of p (item x k f) d x) b more d') (arrived q z (way_of q j e j.instr) (place b) more' e')) (sym v)
        (jump_on p q place b (item x k f) more more' slot (way_of p (item x k f) d x) (way_of q j e j.instr) d' e' s.done s.split s.lines s.placed.1 g
        (ways_lead p q place l b x k f j more d e m s.placed.0 holds h g (view p f x more (jump_fits p slot (item x k f) more s.lines g))) m')))

-- ---- the law

not_empty : (i : Item) (more : List Item) → i ∷ more ≢ []
not_empty i more e = cc

spot_stage : (p q : HardProgram) (place : ℕ → ℕ) → Orderly p → Renumbered p q place → (b : ℕ) (rest rest' : List Item) (w w' : Way) (slot : Bool) (d e : Data) → (rest ≢ [] → Standing p q place b rest rest' w w' slot) → SameNumbers (return_place place) (IsReturn q place) d e → LawfulNext p b rest d →
    Stage (items q) (items p) (LawfulAt q) (Pair p q place) (spot b rest w d None) (spot (place b) rest' w' e None)
spot_stage p q place o l b [] rest' w w' slot d e s m h = absurd h
spot_stage p q place o l b (i ∷ more) [] w w' slot d e s m h = absurd ((s (not_empty i more)).placed)
spot_stage p q place o l b (i ∷ more) (j ∷ more') w w' slot d e s m h = item_stage p q place o l b i.instr i.class i.fix more j more' w w' slot d e (s (not_empty i more)) m h ((s (not_empty i more)).ways)

pair_stage : (p q : HardProgram) (place : ℕ → ℕ) → Orderly p → Renumbered p q place → (h s : Spot) → Pair p q place h s → (h.end ≡ None → LawfulAt p h) → Stage (items q) (items p) (LawfulAt q) (Pair p q place) h s
pair_stage p q place o l h s r g = by h.block h.rest h.way h.now h.end s.block s.rest s.way s.now s.end r.h_open r.l_open r.block r.stands r.same g
  where
    by : (b : ℕ) (rest : List Item) (w : Way) (d : Data) (x : Option End) (b' : ℕ) (rest' : List Item) (w' : Way) (e : Data) (x' : Option End) → x ≡ None → x' ≡ None → b' ≡ place b → (rest ≢ [] → Standing p q place b rest rest' w w' r.slot) → SameNumbers (return_place place) (IsReturn q place) d e → (x ≡ None → LawfulNext p b rest d) →
        Stage (items q) (items p) (LawfulAt q) (Pair p q place) (spot b rest w d x) (spot b' rest' w' e x')
    by b rest w d x b' rest' w' e x' u v y st m f =
        subst (λ (z : Option End). Stage (items q) (items p) (LawfulAt q) (Pair p q place) (spot b rest w d z) (spot b' rest' w' e x')) (sym u)
        (subst (λ (z : Option End). Stage (items q) (items p) (LawfulAt q) (Pair p q place) (spot b rest w d None) (spot b' rest' w' e z)) (sym v)
        (subst (λ (z : ℕ). Stage (items q) (items p) (LawfulAt q) (Pair p q place) (spot b rest w d None) (spot z rest' w' e None)) (sym y)
        (spot_stage p q place o l b rest rest' w w' r.slot d e st m (f u))))

first_same : (p q : HardProgram) (place : ℕ → ℕ) (input : List ℕ) → Renumbered p q place → SameNumbers (return_place place) (IsReturn q place) (first_data p input) (first_data q input)
first_same p q place input l = record {
  all = refl;
  zero = refl;
  regs = record { there = refl; same = λ r. refl; marks = λ r. refl; fine = λ r k. absurd (no_true (sym k)) };
  memory = record { there = ap length (memory p.initial q.initial p.memory_words q.memory_words l.initial l.memory); same = λ r. ap (λ (z : List ℕ). slice_index z r) (memory p.initial q.initial p.memory_words q.memory_words l.initial l.memory); marks = λ r. refl; fine = λ r k. absurd (no_true (sym k)) };
  hi = refl;
  lo = refl;
  feed = refl;
  fed = refl;
}
  where
    memory : (xs ys : List ℕ) (m n : ℕ) → ys ≡ xs → n ≡ m → ys ++ replicate (n - length ys) 0 ≡ xs ++ replicate (m - length xs) 0
    memory xs ys m n e f = cc

first_pair : (p q : HardProgram) (place : ℕ → ℕ) (input : List ℕ) → Orderly p → Renumbered p q place → Pair p q place (first_spot p input) (first_spot q input)
first_pair p q place input o l = subst (λ (z : ℕ). Pair p q place (first_spot p input) (at_block q z (first_data q input))) l.first (start_pair p q place o l 0 (first_data p input) (first_data q input) (first_same p q place input l))

-- The renumbered program runs the same, and lawfully.
pub runs_renumbered : RunsRenumbered
runs_renumbered p q place input o l g =
    follows Spot Spot End (items q) (items p) (LawfulAt q) (Pair p q place) (first_spot p input) (first_spot q input) (stand q) (stand p)
    (λ n s r. pair_stage p q place o l (go (items p) (first_spot p input) n).state s r (g n))
    (first_pair p q place input o l)
