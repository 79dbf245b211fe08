-- A state of the block machine and one of the machine beside it.
use Rattle.std.proofs.Common.{◌≡◌, ◌≢◌, ◌≤◌, ◌<◌, ℕ, zero, suc, ◌+◌, ◌-◌, ◌*◌, ◌/◌, ◌%◌, ◌^◌, arith, ap, refl, sym, ◌∙◌, subst, List, [], ◌∷◌, ◌++◌, append_assoc, length, get_or, take, drop, map, Bool, true, false, cond, not, inl, inr, le_refl, le_trans, sum, flat_map, get_or-set_same, get_or-set_other}
use Rattle.std.specs.Prelude.{Option, Some, None, ◌⊎◌, ◌==◌, slice_get, slice_index_or, slice_set, Contains}
use Rattle.mid_blocks.specs.declared.code.MidStep.{MidStep}
use Rattle.mid_blocks.specs.declared.code.MidEnd.{MidEnd}
use Rattle.mid_blocks.specs.declared.code.MidEnd.TheVariants as line
use Rattle.mid_blocks.specs.declared.code.MidBlock.{MidBlock}
use Rattle.mid_blocks.specs.declared.code.MidFunction.{MidFunction}
use Rattle.mid_blocks.specs.declared.code.Mid.{Mid}
use Rattle.mid_blocks.specs.declared.places.Place.{Place}
use Rattle.mid_blocks.specs.declared.places.Place.TheVariants.{Pair, Slot}
use Rattle.mid_blocks.specs.declared.places.Places.{Places}
use Rattle.mid_blocks.specs.Lines.{step_reads, step_writes, end_reads, first_of}
use Rattle.mid_blocks.specs.Liveness.{IsWanted}
use Rattle.mid_blocks.specs.Run.{Active, BlockState, Variables, word_in, load_from, global_in, after_step, do_line, block_step, next_line, unless_ended}
use Rattle.frame_plan.specs.Frames.{global_cell, global_length, global_cells, cells}
use Rattle.mips_isa.specs.declared.instr.Instr.{Instr}
use Rattle.mips_isa.specs.declared.instr.Instr.TheVariants.{Jal}
use Rattle.mips_isa.specs.Machine.{State}
use Rattle.third_law.specs.Emitted.{place_of, step_code, end_code}
use Rattle.third_law.specs.Program.{cell_address, first_block, first_code, exit_code, block_code}
use Rattle.third_law.proofs.Sights.{Sight, Tripled}
use Rattle.third_law.proofs.Going.{WordAt, Stands, Before, address}
use Rattle.third_law.proofs.Leading.{Runnable}
use Rattle.third_law.proofs.Places.{Frame, PlaceFits, Near, SetsPlace, NotCell, Holds}
use Rattle.third_law.proofs.Steps.{SetsCell}

-- ---- liveness, as the relation needs it

abbrev pub Wanted : MidFunction → ℕ → ℕ → ℕ → Type 0
Wanted f b n v = IsWanted f v (first_of f b + n)

pub record StepAt (f : MidFunction) (b n : ℕ) (s : MidStep) : Type 0 where
  pub block : MidBlock
  pub is_block : slice_get f.blocks b ≡ Some block
  pub is_step : slice_get block.steps n ≡ Some s

pub record EndAt (f : MidFunction) (b n : ℕ) (e : MidEnd) : Type 0 where
  pub block : MidBlock
  pub is_block : slice_get f.blocks b ≡ Some block
  pub is_last : n ≡ length block.steps
  pub is_end : block.end ≡ e

-- What liveness and places that fit give at each line.
pub record Flow (f : MidFunction) (at : Places) : Type 0 where
  pub step_read : (b n v : ℕ) (s : MidStep) → StepAt f b n s → Contains (step_reads s) v → Wanted f b n v
  pub step_on : (b n v : ℕ) (s : MidStep) → StepAt f b n s → step_writes s ≢ Some v → Wanted f b (n + 1) v → Wanted f b n v
  pub step_apart : (b n x y : ℕ) (s : MidStep) → StepAt f b n s → step_writes s ≡ Some x → Wanted f b (n + 1) y → y ≢ x → place_of at y ≢ place_of at x
  pub step_fits : (b n x : ℕ) (s : MidStep) → StepAt f b n s → step_writes s ≡ Some x → PlaceFits f.pairs (place_of at x)
  pub wanted_fits : (b n v : ℕ) → Wanted f b n v → PlaceFits f.pairs (place_of at v)
  pub end_read : (b n v : ℕ) (e : MidEnd) → EndAt f b n e → Contains (end_reads e) v → Wanted f b n v
  pub jump_on : (b n v to : ℕ) → EndAt f b n (line.Jump to) → Wanted f to 0 v → Wanted f b n v
  pub branch_to : (b n v t to : ℕ) (w : Bool) → EndAt f b n (line.Branch t w to) → Wanted f to 0 v → Wanted f b n v
  pub branch_on : (b n v t to : ℕ) (w : Bool) → EndAt f b n (line.Branch t w to) → Wanted f (b + 1) 0 v → Wanted f b n v
  pub call_on : (b n v fn : ℕ) (args : List ℕ) (result : Option ℕ) → EndAt f b n (line.Call fn args result) → result ≢ Some v → Wanted f (b + 1) 0 v → Wanted f b n v × ((s : ℕ) × (place_of at v ≡ Slot s))
  pub result_apart : (b n x y fn : ℕ) (args : List ℕ) → EndAt f b n (line.Call fn args (Some x)) → Wanted f (b + 1) 0 y → y ≢ x → place_of at y ≢ place_of at x
  pub result_fits : (b n x fn : ℕ) (args : List ℕ) → EndAt f b n (line.Call fn args (Some x)) → PlaceFits f.pairs (place_of at x)
  pub parameter_fits : (j : ℕ) → j < f.params → (j + 1 < f.pairs) × PlaceFits f.pairs (place_of at j)
  pub parameter_slot : (j s : ℕ) → j < f.params → place_of at j ≡ Slot s → s ≡ f.pairs - 2 - j
  pub parameters_apart : (j q k : ℕ) → j < f.params → q < f.params → place_of at j ≡ Pair k → place_of at q ≡ Pair k → j ≡ q
  pub pairs_fit : f.pairs ≤ 2002
  pub has_pair : 1 ≤ f.pairs

-- ---- where the blocks stand

-- A word is the second behind a call.
abbrev pub BehindCall : List ℕ → ℕ → Type 0
BehindCall text m = (j to : ℕ) × WordAt text j (Jal to) × (m ≡ j + 2)

-- Each block stands in a text from a word on, whose address is the one that jumps to it name; one block stands behind the other.
pub record Laid (mid : Mid) (places : List Places) (p : Runnable) : Type 0 where
  pub at : ℕ → ℕ
  pub place : ℕ → ℕ
  pub begins : place 0 ≡ 0
  pub first : Stands p.text (place 0) (first_code at mid)
  pub behind_first : place 0 + length (first_code at mid) ≡ place 1
  pub at_exit : at 1 ≡ address (place 1)
  pub exit : Stands p.text (place 1) exit_code
  pub at_block : (n b : ℕ) (f : MidFunction) (k : MidBlock) → slice_get mid.functions n ≡ Some f → slice_get f.blocks b ≡ Some k → at (first_block mid n + b) ≡ address (place (first_block mid n + b))
  pub block : (n b : ℕ) (f : MidFunction) (q : Places) (k : MidBlock) → slice_get mid.functions n ≡ Some f → slice_get places n ≡ Some q → slice_get f.blocks b ≡ Some k → Stands p.text (place (first_block mid n + b)) (block_code at mid n b f q k)
  pub behind : (n b : ℕ) (f : MidFunction) (q : Places) (k : MidBlock) → slice_get mid.functions n ≡ Some f → slice_get places n ≡ Some q → slice_get f.blocks b ≡ Some k → place (first_block mid n + b) + length (block_code at mid n b f q k) ≡ place (first_block mid n + (b + 1))

-- ---- what stands where

-- The words of the globals stand in their cells.
pub record GlobalsHold (mid : Mid) (globals : List (List ℕ)) (a : Sight) : Type 0 where
  pub word : (g i : ℕ) → g < length mid.globals → i < global_length mid g → a.cell (global_cell mid g + i) ≡ load_from globals g i
  pub lengths : (g : ℕ) → length (global_in globals g) ≡ global_length mid g
  pub count : length globals ≡ length mid.globals

-- A call that waits for the one above it, whose frame begins at a cell.
pub record Waiter (mid : Mid) (places : List Places) (text : List ℕ) (place : ℕ → ℕ) (a : Sight) (pairs fn : ℕ) (result : Option ℕ) (top : ℕ) (c : Active) (f : MidFunction) (at : Places) : Type 0 where
  pub is_function : slice_get mid.functions c.function ≡ Some f
  pub is_places : slice_get places c.function ≡ Some at
  pub caller : ℕ
  pub is_behind : c.block ≡ caller + 1
  pub args : List ℕ
  pub calls : (n : ℕ) × EndAt f caller n (line.Call fn args result)
  pub block : MidBlock
  pub is_block : slice_get f.blocks c.block ≡ Some block
  pub at_start : c.step ≡ 0
  pub number : a.cell top ≡ address (place (first_block mid c.function + c.block))
  pub behind : BehindCall text (place (first_block mid c.function + c.block))
  pub room : top + pairs + f.pairs ≤ cells mid
  pub holds : (v w : ℕ) → Wanted f c.block 0 v → result ≢ Some v → c.variables v ≡ Some w → (s : ℕ) × (place_of at v ≡ Slot s) × (a.cell (top + pairs + (s + 1)) ≡ w)

-- The calls that wait for the current one.
abbrev pub Waits : Mid → List Places → List ℕ → (ℕ → ℕ) → Sight → ℕ → ℕ → Option ℕ → ℕ → List Active → Type 0
Waits mid places text place a pairs fn result top [] = (top + pairs ≡ cells mid) × (a.cell top ≡ address (place 1)) × BehindCall text (place 1) × (fn ≡ 0)
Waits mid places text place a pairs fn result top (c ∷ cs) = (f : MidFunction) × (at : Places) × Waiter mid places text place a pairs fn result top c f at × Waits mid places text place a f.pairs c.function c.result (top + pairs) cs

-- The words that are still to come in a block.
abbrev pub rest_code : (ℕ → ℕ) → Mid → (fn own : ℕ) → MidFunction → Places → MidBlock → ℕ → List Instr
rest_code at mid fn own f places b n = flat_map (step_code (λ g. cell_address (global_cell mid g)) (global_length mid) places) (drop n b.steps) ++ end_code at (first_block mid) (first_block mid fn + own) (first_block mid fn) f.pairs places b.end

-- A state of the block machine, and one of the machine beside it, before the first word of its line.
pub record Related (mid : Mid) (places : List Places) (p : Runnable) (x : Laid mid places p) (input : List ℕ) (h : BlockState) (l : State) : Type 0 where
  pub going : h.end ≡ None
  pub f : MidFunction
  pub at : Places
  pub block : MidBlock
  pub is_function : slice_get mid.functions h.current.function ≡ Some f
  pub is_places : slice_get places h.current.function ≡ Some at
  pub is_block : slice_get f.blocks h.current.block ≡ Some block
  pub within : h.current.step ≤ length block.steps
  pub a : Sight
  pub top : ℕ
  pub number : ℕ
  pub stands : Stands p.text number (rest_code x.at mid h.current.function h.current.block f at block h.current.step)
  pub ends : number + length (rest_code x.at mid h.current.function h.current.block f at block h.current.step) ≡ x.place (first_block mid h.current.function + (h.current.block + 1))
  pub before : Before p.text number 0 l
  pub tripled : Tripled (cells mid) l a
  pub frame : Frame (cells mid) f.pairs top a
  pub above : global_cells mid ≤ top
  pub holds : Holds at (Wanted f h.current.block h.current.step) h.current.variables top a
  pub globals : GlobalsHold mid h.globals a
  pub waits : Waits mid places p.text x.place a f.pairs h.current.function h.current.result top h.callers
  pub feed : h.feed ≡ drop a.fed a.feed
  pub all : a.feed ≡ input

-- ---- what is kept

-- Cells of the globals, of the return address and above the frame are as they were.
pub record Outside (mid : Mid) (pairs top : ℕ) (a a' : Sight) : Type 0 where
  pub cell : (c : ℕ) → (c ≡ top) ⊎ (top + pairs ≤ c) → a'.cell c ≡ a.cell c

up_frame : (top pairs q c : ℕ) → top + pairs + q ≤ c → top + pairs ≤ c
up_frame top pairs q c h = omega arith

slot_up : (top pairs s : ℕ) → top + pairs ≤ top + pairs + (s + 1)
slot_up top pairs s = omega arith

outside_up : (mid : Mid) (pairs top q : ℕ) (a a' : Sight) → Outside mid pairs top a a' → Outside mid q (top + pairs) a a'
outside_up mid pairs top q a a' o = record {
  cell = λ c h. o.cell c (inr (elim h as (λ z. top + pairs ≤ c) [ inl e ↦ Rattle.std.proofs.Common.le_of_eq (sym e) | inr k ↦ up_frame top pairs q c k ]));
}

pub waits_kept : (mid : Mid) (places : List Places) (text : List ℕ) (place : ℕ → ℕ) (a a' : Sight) (pairs fn : ℕ) (result : Option ℕ) (top : ℕ) (cs : List Active) → Outside mid pairs top a a' → Waits mid places text place a pairs fn result top cs → Waits mid places text place a' pairs fn result top cs
waits_kept mid places text place a a' pairs fn result top [] o w = (w.0, o.cell top (inl refl) ∙ w.1, w.2, w.3)
waits_kept mid places text place a a' pairs fn result top (c ∷ cs) o w =
    let r : Waiter mid places text place a pairs fn result top c w.0 w.1 = w.2 in (
      w.0,
      w.1,
      record {
        is_function = r.is_function;
        is_places = r.is_places;
        caller = r.caller;
        is_behind = r.is_behind;
        args = r.args;
        calls = r.calls;
        block = r.block;
        is_block = r.is_block;
        at_start = r.at_start;
        number = o.cell top (inl refl) ∙ r.number;
        behind = r.behind;
        room = r.room;
        holds = λ v x l n e. let q : (s : ℕ) × (place_of w.1 v ≡ Slot s) × (a.cell (top + pairs + (s + 1)) ≡ x) = r.holds v x l n e in
            (q.0, q.1, o.cell (top + pairs + (q.0 + 1)) (inr (slot_up top pairs q.0)) ∙ q.2);
      },
      waits_kept mid places text place a a' w.0.pairs c.function c.result (top + pairs) cs (outside_up mid pairs top w.0.pairs a a' o) w.3,
    )

pub near_outside : (mid : Mid) (pairs top : ℕ) (a a' : Sight) → Near a a' → Outside mid pairs top a a'
near_outside mid pairs top a a' n = record { cell = λ c h. n.cell c }

slot_not : (top pairs s c : ℕ) → s + 1 < pairs → (c ≡ top) ⊎ (top + pairs ≤ c) → c ≢ top + (s + 1)
slot_not top pairs s c h (inl e) = λ g. omega arith
slot_not top pairs s c h (inr k) = λ g. omega arith

not_cell : (top pairs : ℕ) (pl : Place) (c : ℕ) → PlaceFits pairs pl → (c ≡ top) ⊎ (top + pairs ≤ c) → NotCell top pl c
not_cell top pairs (Pair k) c f h = tt
not_cell top pairs (Slot s) c f h = slot_not top pairs s c f h

pub sets_outside : (mid : Mid) (pairs top v : ℕ) (pl : Place) (a a' : Sight) → PlaceFits pairs pl → SetsPlace a a' top pl v → Outside mid pairs top a a'
sets_outside mid pairs top v pl a a' f s = record { cell = λ c h. s.cell c (not_cell top pairs pl c f h) }

global_not : (g top c pairs : ℕ) → c < g → g ≤ top → (q : ℕ) → (q ≡ top) ⊎ (top + pairs ≤ q) → q ≢ c
global_not g top c pairs h k q (inl e) = λ z. omega arith
global_not g top c pairs h k q (inr l) = λ z. omega arith

pub cell_outside : (mid : Mid) (pairs top c w : ℕ) (a a' : Sight) → c < global_cells mid → global_cells mid ≤ top → SetsCell a a' c w → Outside mid pairs top a a'
cell_outside mid pairs top c w a a' h k s = record { cell = λ q x. s.cell q (global_not (global_cells mid) top c pairs h k q x) }

-- ---- cells of globals

fold_from : (a : ℕ) (xs : List ℕ) → Rattle.std.proofs.Common.fold ◌+◌ a xs ≡ a + sum xs
fold_from a [] = sym (Rattle.std.proofs.Common.add-zero a)
fold_from a (x ∷ xs) = joined (a + x) (0 + x) (sum xs) (fold_from (a + x) xs) (fold_from (0 + x) xs) refl refl
  where
    joined : (n m s : ℕ) → {u v : ℕ} → u ≡ n + s → v ≡ m + s → n ≡ a + x → m ≡ 0 + x → u ≡ a + v
    joined n m s {u} {v} e f g h = omega arith

pub sum_cons : (x : ℕ) (xs : List ℕ) → sum (x ∷ xs) ≡ x + sum xs
sum_cons x xs = fold_from (0 + x) xs ∙ plain (sum xs)
  where
    plain : (s : ℕ) → 0 + x + s ≡ x + s
    plain s = omega arith

-- the cells of a list of lengths
cell_in : (xs : List (List ℕ)) (g i : ℕ) → i < length (slice_index_or xs g []) → sum (map length (take g xs)) + i < sum (map length xs)
cell_in [] g i h = absurd (Rattle.std.proofs.Common.not-suc-le-zero h)
cell_in (x ∷ xs) zero i h = rw (sum_cons (length x) (map length xs)) (first_part (length x) (sum (map length xs)) i h)
  where
    first_part : (n m i : ℕ) → i < n → 0 + i < n + m
    first_part n m i h = omega arith
cell_in (x ∷ xs) (suc g) i h = rw (sum_cons (length x) (map length (take g xs)), sum_cons (length x) (map length xs)) (later_part (length x) (sum (map length (take g xs))) (sum (map length xs)) i (cell_in xs g i h))
  where
    later_part : (n s m i : ℕ) → s + i < m → n + s + i < n + m
    later_part n s m i h = omega arith

pub global_below : (mid : Mid) (g i : ℕ) → i < global_length mid g → global_cell mid g + i < global_cells mid
global_below mid g i h = cell_in mid.globals g i h

-- two elements of globals have two cells
cells_differ : (xs : List (List ℕ)) (g i k j : ℕ) → i < length (slice_index_or xs g []) → j < length (slice_index_or xs k []) → sum (map length (take g xs)) + i ≡ sum (map length (take k xs)) + j → (g ≡ k) × (i ≡ j)
cells_differ [] g i k j h l e = absurd (Rattle.std.proofs.Common.not-suc-le-zero h)
cells_differ (x ∷ xs) zero i zero j h l e = (refl, same_first i j e)
  where
    same_first : (i j : ℕ) → 0 + i ≡ 0 + j → i ≡ j
    same_first i j e = omega arith
cells_differ (x ∷ xs) zero i (suc k) j h l e = absurd (too_far (length x) (sum (map length (take k xs))) i j h (e ∙ ap (λ (n : ℕ). n + j) (sum_cons (length x) (map length (take k xs)))))
  where
    too_far : (n s i j : ℕ) → i < n → 0 + i ≡ n + s + j → ⊥
    too_far n s i j h e = omega arith
cells_differ (x ∷ xs) (suc g) i zero j h l e = absurd (too_far (length x) (sum (map length (take g xs))) i j l (sym (ap (λ (n : ℕ). n + i) (sum_cons (length x) (map length (take g xs)))) ∙ e))
  where
    too_far : (n s i j : ℕ) → j < n → n + s + i ≡ 0 + j → ⊥
    too_far n s i j h e = omega arith
cells_differ (x ∷ xs) (suc g) i (suc k) j h l e =
    let r : (g ≡ k) × (i ≡ j) = cells_differ xs g i k j h l (less (length x) (sum (map length (take g xs))) (sum (map length (take k xs))) i j (sym (ap (λ (n : ℕ). n + i) (sum_cons (length x) (map length (take g xs)))) ∙ (e ∙ ap (λ (n : ℕ). n + j) (sum_cons (length x) (map length (take k xs)))))) in
    (ap (λ (n : ℕ). suc n) r.0, r.1)
  where
    less : (n s t i j : ℕ) → n + s + i ≡ n + t + j → s + i ≡ t + j
    less n s t i j e = omega arith

pub globals_same : (mid : Mid) (globals : List (List ℕ)) (a a' : Sight) → ((c : ℕ) → c < global_cells mid → a'.cell c ≡ a.cell c) → GlobalsHold mid globals a → GlobalsHold mid globals a'
globals_same mid globals a a' f g = record {
  word = λ n i h k. f (global_cell mid n + i) (global_below mid n i k) ∙ g.word n i h k;
  lengths = g.lengths;
  count = g.count;
}

below_slot : (g top s c : ℕ) → c < g → g ≤ top → c ≢ top + (s + 1)
below_slot g top s c h k = λ e. omega arith

below_cell : (mid : Mid) (top : ℕ) (pl : Place) (c : ℕ) → global_cells mid ≤ top → c < global_cells mid → NotCell top pl c
below_cell mid top (Pair k) c h l = tt
below_cell mid top (Slot s) c h l = below_slot (global_cells mid) top s c l h

pub sets_globals : (mid : Mid) (globals : List (List ℕ)) (top v : ℕ) (pl : Place) (a a' : Sight) → global_cells mid ≤ top → SetsPlace a a' top pl v → GlobalsHold mid globals a → GlobalsHold mid globals a'
sets_globals mid globals top v pl a a' h s g = globals_same mid globals a a' (λ c l. s.cell c (below_cell mid top pl c h l)) g

-- an element of a global is stored
eq_is : (m n : ℕ) → (m == n) ≡ true → m ≡ n
eq_is m n h = grind arith

eq_not : (m n : ℕ) → (m == n) ≡ false → m ≢ n
eq_not m n h = grind arith

pub stores_globals : (mid : Mid) (globals : List (List ℕ)) (g i w : ℕ) (a a' : Sight) → g < length mid.globals → i < global_length mid g → SetsCell a a' (global_cell mid g + i) w → GlobalsHold mid globals a → GlobalsHold mid (Rattle.mid_blocks.specs.Run.store_to globals g i w) a'
stores_globals mid globals g i w a a' hg hi s q = record {
  word = λ k j hk hj. elim (k == g) as (λ z. (k == g) ≡ z → a'.cell (global_cell mid k + j) ≡ load_from (Rattle.mid_blocks.specs.Run.store_to globals g i w) k j) [
    | true ↦ λ e. by_same k j hk hj (eq_is k g e)
    | false ↦ λ e. s.cell (global_cell mid k + j) (λ z. eq_not k g e (cells_differ mid.globals k j g i hj hi z).0) ∙
        (q.word k j hk hj ∙ sym (ap (λ (x : List ℕ). slice_index_or x j 0) (get_or-set_other globals g k (slice_set (global_in globals g) i w) [] (eq_not k g e))))
  ] refl;
  lengths = λ k. elim (k == g) as (λ z. (k == g) ≡ z → length (global_in (Rattle.mid_blocks.specs.Run.store_to globals g i w) k) ≡ global_length mid k) [
    | true ↦ λ e. subst (λ (x : ℕ). length (global_in (Rattle.mid_blocks.specs.Run.store_to globals g i w) x) ≡ global_length mid x) (sym (eq_is k g e))
        (ap (λ (x : List ℕ). length x) (get_or-set_same globals g (slice_set (global_in globals g) i w) [] there) ∙ (Rattle.std.proofs.Common.length-set (global_in globals g) i w ∙ q.lengths g))
    | false ↦ λ e. ap (λ (x : List ℕ). length x) (get_or-set_other globals g k (slice_set (global_in globals g) i w) [] (eq_not k g e)) ∙ q.lengths k
  ] refl;
  count = Rattle.std.proofs.Common.length-set globals g (slice_set (global_in globals g) i w) ∙ q.count;
}
  where
    there : g < length globals
    there = subst (λ (n : ℕ). g < n) (sym q.count) hg

    within : i < length (global_in globals g)
    within = subst (λ (n : ℕ). i < n) (sym (q.lengths g)) hi

    by_same : (k j : ℕ) → k < length mid.globals → j < global_length mid k → k ≡ g → a'.cell (global_cell mid k + j) ≡ load_from (Rattle.mid_blocks.specs.Run.store_to globals g i w) k j
    by_same k j hk hj e = subst (λ (x : ℕ). a'.cell (global_cell mid x + j) ≡ load_from (Rattle.mid_blocks.specs.Run.store_to globals g i w) x j) (sym e)
        (elim (j == i) as (λ z. (j == i) ≡ z → a'.cell (global_cell mid g + j) ≡ load_from (Rattle.mid_blocks.specs.Run.store_to globals g i w) g j) [
          | true ↦ λ t. subst (λ (x : ℕ). a'.cell (global_cell mid g + x) ≡ load_from (Rattle.mid_blocks.specs.Run.store_to globals g i w) g x) (sym (eq_is j i t))
              (s.there ∙ sym (ap (λ (x : List ℕ). slice_index_or x i 0) (get_or-set_same globals g (slice_set (global_in globals g) i w) [] there) ∙ get_or-set_same (global_in globals g) i w 0 within))
          | false ↦ λ t. s.cell (global_cell mid g + j) (λ z. eq_not j i t (cells_differ mid.globals g j g i (subst (λ (x : ℕ). j < global_length mid x) e hj) hi z).1) ∙
              (q.word g j hg (subst (λ (x : ℕ). j < global_length mid x) e hj) ∙ sym (ap (λ (x : List ℕ). slice_index_or x j 0) (get_or-set_same globals g (slice_set (global_in globals g) i w) [] there) ∙ get_or-set_other (global_in globals g) i j w 0 (eq_not j i t)))
        ] refl)
