-- A state of the block machine and one of the machine of items beside it.
use Rattle.std.proofs.Common.{◌≡◌, ◌≢◌, ◌≤◌, ◌<◌, ℕ, zero, suc, ◌+◌, ◌-◌, ◌*◌, ◌/◌, ◌%◌, ◌^◌, arith, ap, refl, sym, ◌∙◌, subst, List, [], ◌∷◌, ◌++◌, append_assoc, length, get_or, take, drop, map, Bool, true, false, cond, not, inl, inr, le_refl, le_trans, sum, flat_map, get_or-set_same, get_or-set_other}
use Rattle.std.specs.Prelude.{Option, Some, None, ◌⊎◌, ◌==◌, slice_get, slice_index_or, slice_set, Contains}
use Rattle.mid_blocks.specs.declared.code.MidStep.{MidStep}
use Rattle.mid_blocks.specs.declared.code.MidEnd.{MidEnd}
use Rattle.mid_blocks.specs.declared.code.MidEnd.TheVariants as line
use Rattle.mid_blocks.specs.declared.code.MidBlock.{MidBlock}
use Rattle.mid_blocks.specs.declared.code.MidFunction.{MidFunction}
use Rattle.mid_blocks.specs.declared.code.Mid.{Mid}
use Rattle.mid_blocks.specs.declared.places.Place.{Place}
use Rattle.mid_blocks.specs.declared.places.Place.TheVariants.{Pair, Slot}
use Rattle.mid_blocks.specs.declared.places.Places.{Places}
use Rattle.mid_blocks.specs.Lines.{step_reads, step_writes, end_reads, first_of}
use Rattle.mid_blocks.specs.Liveness.{IsWanted}
use Rattle.mid_blocks.specs.Run.{Active, BlockState, Variables, word_in, load_from, global_in, after_step, do_line, block_step, next_line, unless_ended}
use Rattle.hard_items.specs.declared.code.Item.{Item}
use Rattle.hard_items.specs.declared.code.HardProgram.{HardProgram}
use Rattle.hard_items.specs.Run.{Data, Spot, before, Onward}
use Rattle.double_law.specs.Emitted.{place_of, step_items, end_items}
use Rattle.frame_plan.specs.Frames.{cell_address, global_cell, global_length, global_cells, cells}
use Rattle.double_law.specs.Program.{first_block}
use Rattle.double_law.proofs.Doubled.{Pairs, Doubled}
use Rattle.double_law.proofs.Places.{Frame, PlaceFits, Near, SetsPlace, NotCell, Holds}
use Rattle.double_law.proofs.Steps.{SetsCell}
use Rattle.hard_words.proofs.Sums.{sum_cons}

-- ---- liveness, as the relation needs it

abbrev pub Wanted : MidFunction → ℕ → ℕ → ℕ → Type 0
Wanted f b n v = IsWanted f v (first_of f b + n)

pub record StepAt (f : MidFunction) (b n : ℕ) (s : MidStep) : Type 0 where
  pub block : MidBlock
  pub is_block : slice_get f.blocks b ≡ Some block
  pub is_step : slice_get block.steps n ≡ Some s

pub record EndAt (f : MidFunction) (b n : ℕ) (e : MidEnd) : Type 0 where
  pub block : MidBlock
  pub is_block : slice_get f.blocks b ≡ Some block
  pub is_last : n ≡ length block.steps
  pub is_end : block.end ≡ e

-- What liveness and places that fit give at each line.
pub record Flow (f : MidFunction) (at : Places) : Type 0 where
  pub step_read : (b n v : ℕ) (s : MidStep) → StepAt f b n s → Contains (step_reads s) v → Wanted f b n v
  pub step_on : (b n v : ℕ) (s : MidStep) → StepAt f b n s → step_writes s ≢ Some v → Wanted f b (n + 1) v → Wanted f b n v
  pub step_apart : (b n x y : ℕ) (s : MidStep) → StepAt f b n s → step_writes s ≡ Some x → Wanted f b (n + 1) y → y ≢ x → place_of at y ≢ place_of at x
  pub step_fits : (b n x : ℕ) (s : MidStep) → StepAt f b n s → step_writes s ≡ Some x → PlaceFits f.pairs (place_of at x)
  pub wanted_fits : (b n v : ℕ) → Wanted f b n v → PlaceFits f.pairs (place_of at v)
  pub end_read : (b n v : ℕ) (e : MidEnd) → EndAt f b n e → Contains (end_reads e) v → Wanted f b n v
  pub jump_on : (b n v to : ℕ) → EndAt f b n (line.Jump to) → Wanted f to 0 v → Wanted f b n v
  pub branch_to : (b n v t to : ℕ) (w : Bool) → EndAt f b n (line.Branch t w to) → Wanted f to 0 v → Wanted f b n v
  pub branch_on : (b n v t to : ℕ) (w : Bool) → EndAt f b n (line.Branch t w to) → Wanted f (b + 1) 0 v → Wanted f b n v
  pub call_on : (b n v fn : ℕ) (args : List ℕ) (result : Option ℕ) → EndAt f b n (line.Call fn args result) → result ≢ Some v → Wanted f (b + 1) 0 v → Wanted f b n v × ((s : ℕ) × (place_of at v ≡ Slot s))
  pub result_apart : (b n x y fn : ℕ) (args : List ℕ) → EndAt f b n (line.Call fn args (Some x)) → Wanted f (b + 1) 0 y → y ≢ x → place_of at y ≢ place_of at x
  pub result_fits : (b n x fn : ℕ) (args : List ℕ) → EndAt f b n (line.Call fn args (Some x)) → PlaceFits f.pairs (place_of at x)
  pub parameter_fits : (j : ℕ) → j < f.params → (j + 1 < f.pairs) × PlaceFits f.pairs (place_of at j)
  pub parameter_slot : (j s : ℕ) → j < f.params → place_of at j ≡ Slot s → s ≡ f.pairs - 2 - j
  pub parameters_apart : (j q k : ℕ) → j < f.params → q < f.params → place_of at j ≡ Pair k → place_of at q ≡ Pair k → j ≡ q
  pub pairs_fit : f.pairs ≤ 4002
  pub has_pair : 1 ≤ f.pairs

-- ---- what stands where

-- The words of the globals stand in their cells.
pub record GlobalsHold (mid : Mid) (globals : List (List ℕ)) (a : Pairs) : Type 0 where
  pub word : (g i : ℕ) → g < length mid.globals → i < global_length mid g → a.cell (global_cell mid g + i) ≡ load_from globals g i
  pub unnumbered : (g i : ℕ) → g < length mid.globals → i < global_length mid g → a.number (global_cell mid g + i) ≡ false
  pub lengths : (g : ℕ) → length (global_in globals g) ≡ global_length mid g
  pub count : length globals ≡ length mid.globals

-- A call that waits for the one above it, whose frame begins at a cell.
pub record Waiter (mid : Mid) (places : List Places) (a : Pairs) (pairs fn : ℕ) (result : Option ℕ) (top : ℕ) (c : Active) (f : MidFunction) (at : Places) : Type 0 where
  pub is_function : slice_get mid.functions c.function ≡ Some f
  pub is_places : slice_get places c.function ≡ Some at
  pub caller : ℕ
  pub is_behind : c.block ≡ caller + 1
  pub args : List ℕ
  pub calls : (n : ℕ) × EndAt f caller n (line.Call fn args result)
  pub block : MidBlock
  pub is_block : slice_get f.blocks c.block ≡ Some block
  pub at_start : c.step ≡ 0
  pub number : a.cell top ≡ first_block mid c.function + c.block
  pub marked : a.number top ≡ true
  pub room : top + pairs + f.pairs ≤ cells mid
  pub holds : (v w : ℕ) → Wanted f c.block 0 v → result ≢ Some v → c.variables v ≡ Some w → (s : ℕ) × (place_of at v ≡ Slot s) × (a.cell (top + pairs + (s + 1)) ≡ w) × (a.number (top + pairs + (s + 1)) ≡ false)

-- The calls that wait for the current one.
abbrev pub Waits : Mid → List Places → Pairs → ℕ → ℕ → Option ℕ → ℕ → List Active → Type 0
Waits mid places a pairs fn result top [] = (top + pairs ≡ cells mid) × (a.cell top ≡ 1) × (a.number top ≡ true) × (fn ≡ 0)
Waits mid places a pairs fn result top (c ∷ cs) = (f : MidFunction) × (at : Places) × Waiter mid places a pairs fn result top c f at × Waits mid places a f.pairs c.function c.result (top + pairs) cs

-- The items that are still to come in a block.
abbrev pub rest_items : Mid → ℕ → MidFunction → Places → MidBlock → ℕ → List Item
rest_items mid fn f at b n = flat_map (step_items (λ g. cell_address (global_cell mid g)) (global_length mid) at) (drop n b.steps) ++ end_items (first_block mid fn) f.pairs at b.end

-- A state of the block machine, and one of the items beside it, before the first item of its line.
pub record Related (mid : Mid) (places : List Places) (p : HardProgram) (input : List ℕ) (h : BlockState) (l : Spot) : Type 0 where
  pub going : h.end ≡ None
  pub f : MidFunction
  pub at : Places
  pub block : MidBlock
  pub is_function : slice_get mid.functions h.current.function ≡ Some f
  pub is_places : slice_get places h.current.function ≡ Some at
  pub is_block : slice_get f.blocks h.current.block ≡ Some block
  pub within : h.current.step ≤ length block.steps
  pub a : Pairs
  pub d : Data
  pub top : ℕ
  pub spot : l ≡ before p (first_block mid h.current.function + h.current.block) (rest_items mid h.current.function f at block h.current.step) Onward d
  pub doubled : Doubled (cells mid) d a
  pub frame : Frame (cells mid) f.pairs top a
  pub above : global_cells mid ≤ top
  pub holds : Holds at (Wanted f h.current.block h.current.step) h.current.variables top a
  pub globals : GlobalsHold mid h.globals a
  pub waits : Waits mid places a f.pairs h.current.function h.current.result top h.callers
  pub feed : h.feed ≡ drop a.fed a.feed
  pub all : a.feed ≡ input

-- ---- what is kept

-- Cells of the globals, of the return address and above the frame are as they were.
pub record Outside (mid : Mid) (pairs top : ℕ) (a a' : Pairs) : Type 0 where
  pub cell : (c : ℕ) → (c ≡ top) ⊎ (top + pairs ≤ c) → a'.cell c ≡ a.cell c
  pub number : (c : ℕ) → (c ≡ top) ⊎ (top + pairs ≤ c) → a'.number c ≡ a.number c

up_frame : (top pairs q c : ℕ) → top + pairs + q ≤ c → top + pairs ≤ c
up_frame top pairs q c h = omega arith

slot_up : (top pairs s : ℕ) → top + pairs ≤ top + pairs + (s + 1)
slot_up top pairs s = omega arith

outside_up : (mid : Mid) (pairs top q : ℕ) (a a' : Pairs) → Outside mid pairs top a a' → Outside mid q (top + pairs) a a'
outside_up mid pairs top q a a' o = record {
  cell = λ c h. o.cell c (inr (elim h as (λ z. top + pairs ≤ c) [ inl e ↦ Rattle.std.proofs.Common.le_of_eq (sym e) | inr k ↦ up_frame top pairs q c k ]));
  number = λ c h. o.number c (inr (elim h as (λ z. top + pairs ≤ c) [ inl e ↦ Rattle.std.proofs.Common.le_of_eq (sym e) | inr k ↦ up_frame top pairs q c k ]));
}

pub waits_kept : (mid : Mid) (places : List Places) (a a' : Pairs) (pairs fn : ℕ) (result : Option ℕ) (top : ℕ) (cs : List Active) → Outside mid pairs top a a' → Waits mid places a pairs fn result top cs → Waits mid places a' pairs fn result top cs
waits_kept mid places a a' pairs fn result top [] o w = (w.0, o.cell top (inl refl) ∙ w.1, o.number top (inl refl) ∙ w.2, w.3)
waits_kept mid places a a' pairs fn result top (c ∷ cs) o w =
    let r : Waiter mid places a pairs fn result top c w.0 w.1 = w.2 in (
      w.0,
      w.1,
      record {
        is_function = r.is_function;
        is_places = r.is_places;
        caller = r.caller;
        is_behind = r.is_behind;
        args = r.args;
        calls = r.calls;
        block = r.block;
        is_block = r.is_block;
        at_start = r.at_start;
        number = o.cell top (inl refl) ∙ r.number;
        marked = o.number top (inl refl) ∙ r.marked;
        room = r.room;
        holds = λ v x l n e. let q : (s : ℕ) × (place_of w.1 v ≡ Slot s) × (a.cell (top + pairs + (s + 1)) ≡ x) × (a.number (top + pairs + (s + 1)) ≡ false) = r.holds v x l n e in
            (q.0, q.1, o.cell (top + pairs + (q.0 + 1)) (inr (slot_up top pairs q.0)) ∙ q.2, o.number (top + pairs + (q.0 + 1)) (inr (slot_up top pairs q.0)) ∙ q.3);
      },
      waits_kept mid places a a' w.0.pairs c.function c.result (top + pairs) cs (outside_up mid pairs top w.0.pairs a a' o) w.3,
    )

pub near_outside : (mid : Mid) (pairs top : ℕ) (a a' : Pairs) → Near a a' → Outside mid pairs top a a'
near_outside mid pairs top a a' n = record { cell = λ c h. n.cell c; number = λ c h. n.number c }

slot_not : (top pairs s c : ℕ) → s + 1 < pairs → (c ≡ top) ⊎ (top + pairs ≤ c) → c ≢ top + (s + 1)
slot_not top pairs s c h (inl e) = λ g. omega arith
slot_not top pairs s c h (inr k) = λ g. omega arith

not_cell : (top pairs : ℕ) (pl : Place) (c : ℕ) → PlaceFits pairs pl → (c ≡ top) ⊎ (top + pairs ≤ c) → NotCell top pl c
not_cell top pairs (Pair k) c f h = tt
not_cell top pairs (Slot s) c f h = slot_not top pairs s c f h

pub sets_outside : (mid : Mid) (pairs top v : ℕ) (pl : Place) (a a' : Pairs) → PlaceFits pairs pl → SetsPlace a a' top pl v → Outside mid pairs top a a'
sets_outside mid pairs top v pl a a' f s = record { cell = λ c h. s.cell c (not_cell top pairs pl c f h); number = λ c h. s.number c (not_cell top pairs pl c f h) }

global_not : (g top c pairs : ℕ) → c < g → g ≤ top → (q : ℕ) → (q ≡ top) ⊎ (top + pairs ≤ q) → q ≢ c
global_not g top c pairs h k q (inl e) = λ z. omega arith
global_not g top c pairs h k q (inr l) = λ z. omega arith

pub cell_outside : (mid : Mid) (pairs top c w : ℕ) (a a' : Pairs) → c < global_cells mid → global_cells mid ≤ top → SetsCell a a' c w → Outside mid pairs top a a'
cell_outside mid pairs top c w a a' h k s = record { cell = λ q x. s.cell q (global_not (global_cells mid) top c pairs h k q x); number = λ q x. s.number q (global_not (global_cells mid) top c pairs h k q x) }

-- ---- cells of globals

-- the cells of a list of lengths
cell_in : (xs : List (List ℕ)) (g i : ℕ) → i < length (slice_index_or xs g []) → sum (map length (take g xs)) + i < sum (map length xs)
cell_in [] g i h = absurd (Rattle.std.proofs.Common.not-suc-le-zero h)
cell_in (x ∷ xs) zero i h = rw (sum_cons (length x) (map length xs)) (first_part (length x) (sum (map length xs)) i h)
  where
    first_part : (n m i : ℕ) → i < n → 0 + i < n + m
    first_part n m i h = omega arith
cell_in (x ∷ xs) (suc g) i h = rw (sum_cons (length x) (map length (take g xs)), sum_cons (length x) (map length xs)) (later_part (length x) (sum (map length (take g xs))) (sum (map length xs)) i (cell_in xs g i h))
  where
    later_part : (n s m i : ℕ) → s + i < m → n + s + i < n + m
    later_part n s m i h = omega arith

pub global_below : (mid : Mid) (g i : ℕ) → i < global_length mid g → global_cell mid g + i < global_cells mid
global_below mid g i h = cell_in mid.globals g i h

-- two elements of globals have two cells
cells_differ : (xs : List (List ℕ)) (g i k j : ℕ) → i < length (slice_index_or xs g []) → j < length (slice_index_or xs k []) → sum (map length (take g xs)) + i ≡ sum (map length (take k xs)) + j → (g ≡ k) × (i ≡ j)
cells_differ [] g i k j h l e = absurd (Rattle.std.proofs.Common.not-suc-le-zero h)
cells_differ (x ∷ xs) zero i zero j h l e = (refl, same_first i j e)
  where
    same_first : (i j : ℕ) → 0 + i ≡ 0 + j → i ≡ j
    same_first i j e = omega arith
cells_differ (x ∷ xs) zero i (suc k) j h l e = absurd (too_far (length x) (sum (map length (take k xs))) i j h (e ∙ ap (λ (n : ℕ). n + j) (sum_cons (length x) (map length (take k xs)))))
  where
    too_far : (n s i j : ℕ) → i < n → 0 + i ≡ n + s + j → ⊥
    too_far n s i j h e = omega arith
cells_differ (x ∷ xs) (suc g) i zero j h l e = absurd (too_far (length x) (sum (map length (take g xs))) i j l (sym (ap (λ (n : ℕ). n + i) (sum_cons (length x) (map length (take g xs)))) ∙ e))
  where
    too_far : (n s i j : ℕ) → j < n → n + s + i ≡ 0 + j → ⊥
    too_far n s i j h e = omega arith
cells_differ (x ∷ xs) (suc g) i (suc k) j h l e =
    let r : (g ≡ k) × (i ≡ j) = cells_differ xs g i k j h l (less (length x) (sum (map length (take g xs))) (sum (map length (take k xs))) i j (sym (ap (λ (n : ℕ). n + i) (sum_cons (length x) (map length (take g xs)))) ∙ (e ∙ ap (λ (n : ℕ). n + j) (sum_cons (length x) (map length (take k xs)))))) in
    (ap (λ (n : ℕ). suc n) r.0, r.1)
  where
    less : (n s t i j : ℕ) → n + s + i ≡ n + t + j → s + i ≡ t + j
    less n s t i j e = omega arith

pub globals_same : (mid : Mid) (globals : List (List ℕ)) (a a' : Pairs) → ((c : ℕ) → c < global_cells mid → (a'.cell c ≡ a.cell c) × (a'.number c ≡ a.number c)) → GlobalsHold mid globals a → GlobalsHold mid globals a'
globals_same mid globals a a' f g = record {
  word = λ n i h k. (f (global_cell mid n + i) (global_below mid n i k)).0 ∙ g.word n i h k;
  unnumbered = λ n i h k. (f (global_cell mid n + i) (global_below mid n i k)).1 ∙ g.unnumbered n i h k;
  lengths = g.lengths;
  count = g.count;
}

below_slot : (g top s c : ℕ) → c < g → g ≤ top → c ≢ top + (s + 1)
below_slot g top s c h k = λ e. omega arith

below_cell : (mid : Mid) (top : ℕ) (pl : Place) (c : ℕ) → global_cells mid ≤ top → c < global_cells mid → NotCell top pl c
below_cell mid top (Pair k) c h l = tt
below_cell mid top (Slot s) c h l = below_slot (global_cells mid) top s c l h

pub sets_globals : (mid : Mid) (globals : List (List ℕ)) (top v : ℕ) (pl : Place) (a a' : Pairs) → global_cells mid ≤ top → SetsPlace a a' top pl v → GlobalsHold mid globals a → GlobalsHold mid globals a'
sets_globals mid globals top v pl a a' h s g = globals_same mid globals a a' (λ c l. (s.cell c (below_cell mid top pl c h l), s.number c (below_cell mid top pl c h l))) g

-- an element of a global is stored
eq_is : (m n : ℕ) → (m == n) ≡ true → m ≡ n
eq_is m n h = grind arith

eq_not : (m n : ℕ) → (m == n) ≡ false → m ≢ n
eq_not m n h = grind arith

pub stores_globals : (mid : Mid) (globals : List (List ℕ)) (g i w : ℕ) (a a' : Pairs) → g < length mid.globals → i < global_length mid g → SetsCell a a' (global_cell mid g + i) w → GlobalsHold mid globals a → GlobalsHold mid (Rattle.mid_blocks.specs.Run.store_to globals g i w) a'
stores_globals mid globals g i w a a' hg hi s q = record {
  word = λ k j hk hj. elim (k == g) as (λ z. (k == g) ≡ z → a'.cell (global_cell mid k + j) ≡ load_from (Rattle.mid_blocks.specs.Run.store_to globals g i w) k j) [
    | true ↦ λ e. by_same k j hk hj (eq_is k g e)
    | false ↦ λ e. s.cell (global_cell mid k + j) (λ z. eq_not k g e (cells_differ mid.globals k j g i hj hi z).0) ∙
        (q.word k j hk hj ∙ sym (ap (λ (x : List ℕ). slice_index_or x j 0) (get_or-set_other globals g k (slice_set (global_in globals g) i w) [] (eq_not k g e))))
  ] refl;
  unnumbered = λ k j hk hj. elim (global_cell mid k + j == global_cell mid g + i) as (λ z. (global_cell mid k + j == global_cell mid g + i) ≡ z → a'.number (global_cell mid k + j) ≡ false) [
    | true ↦ λ e. ap (λ (c : ℕ). a'.number c) (eq_is (global_cell mid k + j) (global_cell mid g + i) e) ∙ s.unnumbered
    | false ↦ λ e. s.number (global_cell mid k + j) (eq_not (global_cell mid k + j) (global_cell mid g + i) e) ∙ q.unnumbered k j hk hj
  ] refl;
  lengths = λ k. elim (k == g) as (λ z. (k == g) ≡ z → length (global_in (Rattle.mid_blocks.specs.Run.store_to globals g i w) k) ≡ global_length mid k) [
    | true ↦ λ e. subst (λ (x : ℕ). length (global_in (Rattle.mid_blocks.specs.Run.store_to globals g i w) x) ≡ global_length mid x) (sym (eq_is k g e))
        (ap (λ (x : List ℕ). length x) (get_or-set_same globals g (slice_set (global_in globals g) i w) [] there) ∙ (Rattle.std.proofs.Common.length-set (global_in globals g) i w ∙ q.lengths g))
    | false ↦ λ e. ap (λ (x : List ℕ). length x) (get_or-set_other globals g k (slice_set (global_in globals g) i w) [] (eq_not k g e)) ∙ q.lengths k
  ] refl;
  count = Rattle.std.proofs.Common.length-set globals g (slice_set (global_in globals g) i w) ∙ q.count;
}
  where
    there : g < length globals
    there = subst (λ (n : ℕ). g < n) (sym q.count) hg

    within : i < length (global_in globals g)
    within = subst (λ (n : ℕ). i < n) (sym (q.lengths g)) hi

    by_same : (k j : ℕ) → k < length mid.globals → j < global_length mid k → k ≡ g → a'.cell (global_cell mid k + j) ≡ load_from (Rattle.mid_blocks.specs.Run.store_to globals g i w) k j
    by_same k j hk hj e = subst (λ (x : ℕ). a'.cell (global_cell mid x + j) ≡ load_from (Rattle.mid_blocks.specs.Run.store_to globals g i w) x j) (sym e)
        (elim (j == i) as (λ z. (j == i) ≡ z → a'.cell (global_cell mid g + j) ≡ load_from (Rattle.mid_blocks.specs.Run.store_to globals g i w) g j) [
          | true ↦ λ t. subst (λ (x : ℕ). a'.cell (global_cell mid g + x) ≡ load_from (Rattle.mid_blocks.specs.Run.store_to globals g i w) g x) (sym (eq_is j i t))
              (s.there ∙ sym (ap (λ (x : List ℕ). slice_index_or x i 0) (get_or-set_same globals g (slice_set (global_in globals g) i w) [] there) ∙ get_or-set_same (global_in globals g) i w 0 within))
          | false ↦ λ t. s.cell (global_cell mid g + j) (λ z. eq_not j i t (cells_differ mid.globals g j g i (subst (λ (x : ℕ). j < global_length mid x) e hj) hi z).1) ∙
              (q.word g j hg (subst (λ (x : ℕ). j < global_length mid x) e hj) ∙ sym (ap (λ (x : List ℕ). slice_index_or x j 0) (get_or-set_same globals g (slice_set (global_in globals g) i w) [] there) ∙ get_or-set_other (global_in globals g) i j w 0 (eq_not j i t)))
        ] refl)
