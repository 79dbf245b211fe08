-- Each step of a block is a stage.
use Rattle.std.proofs.Common.{◌≡◌, ◌≢◌, ◌≤◌, ◌<◌, ℕ, zero, suc, ◌+◌, ◌-◌, ◌*◌, ◌/◌, ◌%◌, ◌^◌, arith, ap, refl, sym, ◌∙◌, subst, List, [], ◌∷◌, ◌++◌, append_assoc, length, get_or, take, drop, map, Bool, true, false, cond, not, inl, inr, le_refl, le_trans, flat_map}
use Rattle.std.specs.Prelude.{Option, Some, None, Result, Ok, Err, ◌⊎◌, ◌==◌, ◌&&◌, nat_lt, nat_le, slice_get, slice_index, slice_index_or, Contains, IsSome}
use Rattle.mips_isa.specs.declared.instr.Instr.TheVariants as mips
use Rattle.mips_isa.specs.declared.instr.End.TheVariants as machine
use Rattle.mid_blocks.specs.declared.code.MidOp.{MidOp}
use Rattle.mid_blocks.specs.declared.code.MidOp.TheVariants as op
use Rattle.mid_blocks.specs.declared.code.MidStep.{MidStep}
use Rattle.mid_blocks.specs.declared.code.MidStep.TheVariants.{Constant, Copy, Operate, Guard, Load, Store, Input, Output, Deep}
use Rattle.mid_blocks.specs.declared.code.MidFunction.{MidFunction}
use Rattle.mid_blocks.specs.declared.code.Mid.{Mid}
use Rattle.mid_blocks.specs.declared.code.RunEnd.TheVariants as ended
use Rattle.mid_blocks.specs.declared.places.Place.{Place}
use Rattle.mid_blocks.specs.declared.places.Place.TheVariants.{Pair, Slot}
use Rattle.mid_blocks.specs.declared.places.Places.{Places}
use Rattle.mid_blocks.specs.Lines.{Step, step_reads, step_writes, line_of}
use Rattle.mid_blocks.specs.Run.{BlockState, Variables, word_in, index_in, global_in, load_from, do_line, operate, sets_or_traps, with_word, passes, ends, sets, takes_in}
use Rattle.mid_blocks.specs.Bounds.{ProperLine}
use Rattle.frame_plan.specs.Frames.{global_cell, global_length, global_cells, cells}
use Rattle.mips_isa.specs.declared.instr.Instr.{Instr}
use Rattle.mips_isa.specs.Machine.{State}
use Rattle.third_law.specs.declared.roles.Stream.{Stream}
use Rattle.third_law.specs.declared.roles.Role.{Role}
use Rattle.third_law.specs.declared.roles.Role.TheVariants.{Value, Stack}
use Rattle.third_law.specs.Roles.{reg_in, each, product, load, store, test}
use Rattle.third_law.specs.Emitted.{place_of, constant, target, kept, copy_code, operation, operation_tests, fetched, source, brought, upper, lower, three, element, service_code, input_code}
use Rattle.third_law.specs.Program.{cell_address}
use Rattle.third_law.specs.Runs.{blocks, line_says}
use Rattle.third_law.proofs.Sights.{Sight, AreWords}
use Rattle.third_law.proofs.Going.{stands_first}
use Rattle.third_law.proofs.Speaking.{Speaks}
use Rattle.third_law.proofs.Leading.{Runnable, stops_early}
use Rattle.third_law.proofs.Starving.{stops_starved}
use Rattle.third_law.proofs.Places.{PlaceFits, in_place, NotRole, near_frame, near_holds, sets_holds}
use Rattle.third_law.proofs.Steps
use Rattle.third_law.proofs.Steps.{StandsIn, DoesSet, DoesPass, DoesSetCell, SetsCell, DoesSetTaken, DoesSpeakNear, took}
use Rattle.third_law.proofs.Relation.{Wanted, StepAt, Flow, rest_code, Laid, Related, Outside, near_outside, sets_outside, cell_outside, globals_same, sets_globals, stores_globals, global_below}
use Rattle.third_law.proofs.Stages.{StageOf, stage_speaks, line_is, high_step, stepped, code_of, step_stands, advance, Setting, silent, stopping, setting, passing, front_nil, back_nil}

-- ---- no step is without items

cons_nil : {A : Type 0} (x : A) (xs : List A) → x ∷ xs ≡ [] → ⊥
cons_nil x xs e = cc

each_some : (f : Stream → Instr) → each f ≡ [] → ⊥
each_some f e = cc

constant_some : (r : Role) (w : ℕ) → constant r w ≡ [] → ⊥
constant_some r w = elim (w / 2 ^ 16 == 0) as (λ z. cond z low (cond (w % 2 ^ 16 == 0) high (cond (w / 2 ^ 16 == 2 ^ 16 - 1 && nat_le (2 ^ 15) (w % 2 ^ 16)) negative halves)) ≡ [] → ⊥) [
  | true ↦ λ e. each_some (λ t. mips.Ori (reg_in t r) 0 w) e
  | false ↦ elim (w % 2 ^ 16 == 0) as (λ z. cond z high (cond (w / 2 ^ 16 == 2 ^ 16 - 1 && nat_le (2 ^ 15) (w % 2 ^ 16)) negative halves) ≡ [] → ⊥) [
    | true ↦ λ e. each_some (λ t. mips.Lui (reg_in t r) (w / 2 ^ 16)) e
    | false ↦ elim (w / 2 ^ 16 == 2 ^ 16 - 1 && nat_le (2 ^ 15) (w % 2 ^ 16)) as (λ z. cond z negative halves ≡ [] → ⊥) [
      | true ↦ λ e. each_some (λ t. mips.Addiu (reg_in t r) 0 (w % 2 ^ 16)) e
      | false ↦ λ e. each_some (λ t. mips.Lui (reg_in t r) (w / 2 ^ 16)) (front_nil (each (λ t. mips.Lui (reg_in t r) (w / 2 ^ 16))) (each (λ t. mips.Ori (reg_in t r) (reg_in t r) (w % 2 ^ 16))) e)
    ]
  ]
]
  where
    low : List Instr
    low = each (λ t. mips.Ori (reg_in t r) 0 w)

    high : List Instr
    high = each (λ t. mips.Lui (reg_in t r) (w / 2 ^ 16))

    negative : List Instr
    negative = each (λ t. mips.Addiu (reg_in t r) 0 (w % 2 ^ 16))

    halves : List Instr
    halves = each (λ t. mips.Lui (reg_in t r) (w / 2 ^ 16)) ++ each (λ t. mips.Ori (reg_in t r) (reg_in t r) (w % 2 ^ 16))

product_some : (f g : Stream → Instr) → product f g ≡ [] → ⊥
product_some f g e = cc

test_some : (r : Role) (k : ℕ) → test r k ≡ [] → ⊥
test_some r k e = cc

store_some : (r q : Role) (o : ℕ) → store r q o ≡ [] → ⊥
store_some r q o e = cc

service_some : (n : ℕ) → service_code n ≡ [] → ⊥
service_some n e = cc

input_some : (r : Role) → input_code r ≡ [] → ⊥
input_some r e = cc

copy_some : (to from : Place) → copy_code to from ≡ [] → ⊥
copy_some (Pair k) (Pair j) e = each_some (λ t. mips.Addu (reg_in t (Value (k + 2))) (reg_in t (Value (j + 2))) 0) e
copy_some (Pair k) (Slot s) e = cons_both (Value (k + 2)) (16 * (s + 1)) e
  where
    cons_both : (r : Role) (o : ℕ) → load r Stack o ≡ [] → ⊥
    cons_both r o e = cc
copy_some (Slot s) from e = store_some (source from 0) Stack (16 * (s + 1)) (back_nil (fetched from 0) (store (source from 0) Stack (16 * (s + 1))) e)

operation_some : (o : MidOp) (to a b : Role) → operation o to a b ≡ [] → ⊥
operation_some op.Add to a b e = cc
operation_some op.Sub to a b e = cc
operation_some op.Mul to a b e = cc
operation_some op.Div to a b e = cc
operation_some op.DivU to a b e = cc
operation_some op.Rem to a b e = cc
operation_some op.RemU to a b e = cc
operation_some op.Shl to a b e = cc
operation_some op.Shr to a b e = cc
operation_some op.Sar to a b e = cc
operation_some op.And to a b e = cc
operation_some op.Or to a b e = cc
operation_some op.Xor to a b e = cc
operation_some op.Lt to a b e = cc
operation_some op.LtU to a b e = cc
operation_some op.Eq to a b e = cc
operation_some op.Ne to a b e = cc

-- ---- what is read

some_of : (o : Option ℕ) → IsSome o → (w : ℕ) × (o ≡ Some w)
some_of None h = absurd (Rattle.std.proofs.Common.true≢false (sym h))
some_of (Some w) h = (w, refl)

pub place_word : (size top : ℕ) (a : Sight) (pl : Place) → AreWords a → in_place a top pl < 2 ^ 32
place_word size top a (Pair k) w = w.file (Value (k + 2))
place_word size top a (Slot s) w = w.cell (top + (s + 1))

-- A variable that a line reads: its word, and where that stands.
pub record ReadsWord (f : MidFunction) (at : Places) (vars : Variables) (top : ℕ) (a : Sight) (v : ℕ) : Type 0 where
  pub word : ℕ
  pub is : vars v ≡ Some word
  pub stands : StandsIn f.pairs a top (place_of at v) word
  pub small : word < 2 ^ 32
  pub value : word_in vars v ≡ word

pub reads_word : (mid : Mid) (places : List Places) (p : Runnable) (x : Laid mid places p) (input : List ℕ) (h : BlockState) (l : State) (r : Related mid places p x input h l) (v : ℕ) → Flow r.f r.at → Wanted r.f h.current.block h.current.step v → IsSome (h.current.variables v) → ReadsWord r.f r.at h.current.variables r.top r.a v
reads_word mid places p x input h l r v flow wanted some =
    let w : (w : ℕ) × (h.current.variables v ≡ Some w) = some_of (h.current.variables v) some in
    let s : in_place r.a r.top (place_of r.at v) ≡ w.0 = r.holds.word v w.0 wanted w.1 in
    record {
      word = w.0;
      is = w.1;
      stands = record { fits = flow.wanted_fits h.current.block h.current.step v wanted; word = s };
      small = subst (λ (n : ℕ). n < 2 ^ 32) s (place_word (cells mid) r.top r.a (place_of r.at v) r.tripled.words);
      value = ap (λ (o : Option ℕ). Rattle.mid_blocks.specs.Run.word_or_zero o) w.1;
    }

pub first_of_list : (x : ℕ) (xs : List ℕ) → Contains (x ∷ xs) x
first_of_list x xs = (0, Rattle.std.proofs.Common.zero-lt-suc (length xs), refl)

pub second_of_list : (x y : ℕ) (xs : List ℕ) → Contains (x ∷ y ∷ xs) y
second_of_list x y xs = (1, Rattle.std.proofs.Common.suc-le-suc (Rattle.std.proofs.Common.zero-lt-suc (length xs)), refl)

global_there : (xs : List (List ℕ)) (g i : ℕ) → i < length (slice_index_or xs g []) → g < length xs
global_there [] g i h = absurd (Rattle.std.proofs.Common.not-suc-le-zero h)
global_there (x ∷ xs) zero i h = Rattle.std.proofs.Common.zero-lt-suc (length xs)
global_there (x ∷ xs) (suc g) i h = Rattle.std.proofs.Common.suc-le-suc (global_there xs g i h)

-- ---- the feed

drop_cases : (xs : List ℕ) (n : ℕ) → ((drop n xs ≡ []) × (nat_lt n (length xs) ≡ false)) ⊎ ((drop n xs ≡ slice_index xs n ∷ drop (n + 1) xs) × (nat_lt n (length xs) ≡ true))
drop_cases [] n = inl (drop_nothing n, not_below n)
  where
    drop_nothing : (n : ℕ) → drop {A = ℕ} n [] ≡ []
    drop_nothing zero = refl
    drop_nothing (suc n) = refl

    not_below : (n : ℕ) → nat_lt n 0 ≡ false
    not_below n = grind arith
drop_cases (x ∷ xs) zero = inr (refl, first_there (length xs))
  where
    first_there : (n : ℕ) → nat_lt 0 (suc n) ≡ true
    first_there n = grind arith
drop_cases (x ∷ xs) (suc n) = elim (drop_cases xs n) as (λ z. ((drop n xs ≡ []) × (nat_lt (suc n) (suc (length xs)) ≡ false)) ⊎ ((drop n xs ≡ slice_index xs n ∷ drop (suc n + 1) (x ∷ xs)) × (nat_lt (suc n) (suc (length xs)) ≡ true))) [
  | inl h ↦ inl (h.0, up_false n (length xs) h.1)
  | inr h ↦ inr (h.0 ∙ ap (λ (m : ℕ). slice_index xs n ∷ drop m (x ∷ xs)) (next n), up_true n (length xs) h.1)
]
  where
    up_false : (n m : ℕ) → nat_lt n m ≡ false → nat_lt (suc n) (suc m) ≡ false
    up_false n m h = grind arith

    up_true : (n m : ℕ) → nat_lt n m ≡ true → nat_lt (suc n) (suc m) ≡ true
    up_true n m h = grind arith

    next : (n : ℕ) → suc (n + 1) ≡ suc n + 1
    next n = omega arith

is_zero : (n : ℕ) → (n == 0) ≡ true → n ≡ 0
is_zero n h = grind arith

not_zero : (n : ℕ) → (n == 0) ≡ false → n ≢ 0
not_zero n h = grind arith

-- ---- the stages

module _ (mid : Mid) (places : List Places) (p : Runnable) (x : Laid mid places p) (input : List ℕ) (set : Setting mid places input) (h : BlockState) (l : State) (r : Related mid places p x input h l) (flow : Flow r.f r.at) where
  vars : Variables
  vars = h.current.variables

  -- the step of the block machine
  steps_to : (s : MidStep) → slice_get r.block.steps h.current.step ≡ Some s → (blocks mid).step h ≡ (do_line (Some (Step s)) h, line_says (Some (Step s)) h)
  steps_to s e = high_step mid h (Step s) r.going (line_is mid h r.f r.block r.is_function r.is_block ∙ ap (λ (x : Option MidStep). Some (line_of x r.block.end)) e)

  here : (s : MidStep) → slice_get r.block.steps h.current.step ≡ Some s → StepAt r.f h.current.block h.current.step s
  here s e = record { block = r.block; is_block = r.is_block; is_step = e }

  reads : (s : MidStep) (v : ℕ) → slice_get r.block.steps h.current.step ≡ Some s → Contains (step_reads s) v → IsSome (h.current.variables v) → ReadsWord r.f r.at h.current.variables r.top r.a v
  reads s v e c some = reads_word mid places p x input h l r v flow (flow.step_read h.current.block h.current.step v s (here s e) c) some

  constant_stage : (to w : ℕ) → slice_get r.block.steps h.current.step ≡ Some (Constant to w) → StageOf mid places p x input h l
  unfolding steps_to here
  constant_stage to w e = setting mid places p x input h l r (Constant to w) to w flow e refl
      (λ z. constant_some (target (place_of r.at to)) w (front_nil (constant (target (place_of r.at to)) w) (kept (place_of r.at to)) z))
      (Steps.constant_step p (cells mid) r.f.pairs r.top w (place_of r.at to) r.a r.frame (flow.step_fits h.current.block h.current.step to (Constant to w) (here (Constant to w) e) refl)
      (set.constants h.current.function h.current.block h.current.step to w r.f r.is_function (here (Constant to w) e)))
      (steps_to (Constant to w) e)

  copy_stage : (to from : ℕ) → slice_get r.block.steps h.current.step ≡ Some (Copy to from) → ProperLine (Step (Copy to from)) h.current.variables h.globals → StageOf mid places p x input h l
  copy_stage to from e proper =
      let q : ReadsWord r.f r.at h.current.variables r.top r.a from = reads (Copy to from) from e (first_of_list from []) proper.reads_written.0 in
      setting mid places p x input h l r (Copy to from) to q.word flow e refl (copy_some (place_of r.at to) (place_of r.at from))
      (Steps.copy_step p (cells mid) r.f.pairs r.top q.word (place_of r.at to) (place_of r.at from) r.a r.frame (flow.step_fits h.current.block h.current.step to (Copy to from) (here (Copy to from) e) refl) q.stands r.tripled.words)
      (steps_to (Copy to from) e ∙ ap (λ (w : ℕ). let z : BlockState × Option ℕ = (sets h to w, None) in z) q.value)

  operate_stage : (o : MidOp) (to left right : ℕ) → slice_get r.block.steps h.current.step ≡ Some (Operate o to left right) → ProperLine (Step (Operate o to left right)) h.current.variables h.globals → StageOf mid places p x input h l
  operate_stage o to left right e proper =
      let s : MidStep = Operate o to left right in
      let ql : ReadsWord r.f r.at h.current.variables r.top r.a left = reads s left e (first_of_list left (right ∷ [])) proper.reads_written.0 in
      let qr : ReadsWord r.f r.at h.current.variables r.top r.a right = reads s right e (second_of_list left right []) proper.reads_written.1.0 in
      let pl : Place = place_of r.at left in
      let pr : Place = place_of r.at right in
      let fits : PlaceFits r.f.pairs (place_of r.at to) = flow.step_fits h.current.block h.current.step to s (here s e) refl in
      let step : (blocks mid).step h ≡ (sets_or_traps h to (operate o ql.word qr.word), None) =
      steps_to s e ∙ (ap (λ (x : ℕ). let z : BlockState × Option ℕ = (sets_or_traps h to (operate o x (word_in h.current.variables right)), None) in z) ql.value ∙ ap (λ (x : ℕ). let z : BlockState × Option ℕ = (sets_or_traps h to (operate o ql.word x), None) in z) qr.value) in
      elim (operate o ql.word qr.word) as (λ z. operate o ql.word qr.word ≡ z → StageOf mid places p x input h l) [
        | Ok v ↦ λ g. setting mid places p x input h l r s to v flow e refl
            (λ z. operation_some o (target (place_of r.at to)) (source pl 0) (source pr 1) (front_nil (operation o (target (place_of r.at to)) (source pl 0) (source pr 1)) (kept (place_of r.at to)) (back_nil (fetched pr 1) (operation o (target (place_of r.at to)) (source pl 0) (source pr 1) ++ kept (place_of r.at to)) (back_nil (fetched pl 0) (fetched pr 1 ++ (operation o (target (place_of r.at to)) (source pl 0) (source pr 1) ++ kept (place_of r.at to))) (back_nil (operation_tests o pl pr) (fetched pl 0 ++ (fetched pr 1 ++ (operation o (target (place_of r.at to)) (source pl 0) (source pr 1) ++ kept (place_of r.at to)))) z)))))
            (Steps.operate_step p (cells mid) r.f.pairs r.top ql.word qr.word v o (place_of r.at to) pl pr r.a r.frame fits ql.stands qr.stands ql.small qr.small g)
            (step ∙ ap (λ (x : Result ℕ ℕ). let z : BlockState × Option ℕ = (sets_or_traps h to x, None) in z) g)
        | Err k ↦ λ g. stopping mid places p x input h (ends h (ended.Trapped k)) l r s (machine.Trapped k) e
            (Steps.operate_trap p (cells mid) r.f.pairs r.top ql.word qr.word k o (place_of r.at to) pl pr r.a r.frame ql.stands qr.stands ql.small qr.small g)
            (step ∙ ap (λ (x : Result ℕ ℕ). let z : BlockState × Option ℕ = (sets_or_traps h to x, None) in z) g) refl
      ] refl

  guard_stage : (g index : ℕ) → slice_get r.block.steps h.current.step ≡ Some (Guard g index) → ProperLine (Step (Guard g index)) h.current.variables h.globals → StageOf mid places p x input h l
  guard_stage g index e proper =
      let s : MidStep = Guard g index in
      let q : ReadsWord r.f r.at h.current.variables r.top r.a index = reads s index e (first_of_list index []) proper.reads_written.0 in
      let n : ℕ = global_length mid g in
      let pl : Place = place_of r.at index in
      let step : (blocks mid).step h ≡ (cond (nat_lt q.word n) (passes h) (ends h (ended.Trapped 8)), None) =
      steps_to s e ∙ (ap (λ (x : ℕ). let z : BlockState × Option ℕ = (cond (nat_lt x (length (global_in h.globals g))) (passes h) (ends h (ended.Trapped 8)), None) in z) q.value ∙ ap (λ (x : ℕ). let z : BlockState × Option ℕ = (cond (nat_lt q.word x) (passes h) (ends h (ended.Trapped 8)), None) in z) (r.globals.lengths g)) in
      elim (nat_lt q.word n) as (λ z. nat_lt q.word n ≡ z → StageOf mid places p x input h l) [
        | true ↦ λ t. passing mid places p x input h l r s flow e refl
            (λ z. test_some (Value 0) 8 (back_nil (each (λ t. mips.Sltiu (reg_in t (Value 0)) (reg_in t (source pl 0)) n)) (test (Value 0) 8) (back_nil (fetched pl 0) (each (λ t. mips.Sltiu (reg_in t (Value 0)) (reg_in t (source pl 0)) n) ++ test (Value 0) 8) z)))
            (Steps.guard_step p (cells mid) r.f.pairs r.top q.word n pl r.a r.frame q.stands (set.lengths_small g) t)
            (step ∙ ap (λ (x : Bool). let z : BlockState × Option ℕ = (cond x (passes h) (ends h (ended.Trapped 8)), None) in z) t)
        | false ↦ λ t. stopping mid places p x input h (ends h (ended.Trapped 8)) l r s (machine.Trapped 8) e
            (Steps.guard_trap p (cells mid) r.f.pairs r.top q.word n pl r.a r.frame q.stands (set.lengths_small g) t)
            (step ∙ ap (λ (x : Bool). let z : BlockState × Option ℕ = (cond x (passes h) (ends h (ended.Trapped 8)), None) in z) t) refl
      ] refl

  deep_stage : (v : ℕ) → slice_get r.block.steps h.current.step ≡ Some (Deep v) → ProperLine (Step (Deep v)) h.current.variables h.globals → StageOf mid places p x input h l
  deep_stage v e proper =
      let s : MidStep = Deep v in
      let q : ReadsWord r.f r.at h.current.variables r.top r.a v = reads s v e (first_of_list v []) proper.reads_written.0 in
      let pl : Place = place_of r.at v in
      let step : (blocks mid).step h ≡ (cond (q.word == 0) (ends h (ended.Trapped 9)) (passes h), None) =
      steps_to s e ∙ ap (λ (x : ℕ). let z : BlockState × Option ℕ = (cond (x == 0) (ends h (ended.Trapped 9)) (passes h), None) in z) q.value in
      elim (q.word == 0) as (λ z. (q.word == 0) ≡ z → StageOf mid places p x input h l) [
        | true ↦ λ t. stopping mid places p x input h (ends h (ended.Trapped 9)) l r s (machine.Trapped 9) e
            (Steps.fetched_trap p (cells mid) r.f.pairs r.top 0 q.word 9 pl r.a Rattle.std.proofs.Common.zero-le r.frame q.stands (is_zero q.word t) (λ at. refl))
            (step ∙ ap (λ (x : Bool). let z : BlockState × Option ℕ = (cond x (ends h (ended.Trapped 9)) (passes h), None) in z) t) refl
        | false ↦ λ t. passing mid places p x input h l r s flow e refl
            (λ z. test_some (source pl 0) 9 (back_nil (fetched pl 0) (test (source pl 0) 9) z))
            (Steps.fetched_test p (cells mid) r.f.pairs r.top 0 q.word 9 pl r.a Rattle.std.proofs.Common.zero-le r.frame q.stands (not_zero q.word t))
            (step ∙ ap (λ (x : Bool). let z : BlockState × Option ℕ = (cond x (ends h (ended.Trapped 9)) (passes h), None) in z) t)
      ] refl

  -- the element that a load or a store names
  load_none_stage : (to g : ℕ) → slice_get r.block.steps h.current.step ≡ Some (Load to g None) → ProperLine (Step (Load to g None)) h.current.variables h.globals → StageOf mid places p x input h l
  load_none_stage to g e proper =
      let s : MidStep = Load to g None in
      let within : 0 < global_length mid g = subst (λ (n : ℕ). 0 < n) (r.globals.lengths g) proper.index_fits in
      let there : g < length mid.globals = global_there mid.globals g 0 within in
      let c : ℕ = global_cell mid g in
      let zero_more : c + 0 ≡ c = Rattle.std.proofs.Common.add-zero c in
      let w : ℕ = load_from h.globals g 0 in
      let word : r.a.cell c ≡ w = ap (λ (x : ℕ). r.a.cell x) (sym zero_more) ∙ r.globals.word g 0 there within in
      let fits : PlaceFits r.f.pairs (place_of r.at to) = flow.step_fits h.current.block h.current.step to s (here s e) refl in
      let below : c < cells mid = globals_below mid (subst (λ (x : ℕ). x < global_cells mid) zero_more (global_below mid g 0 within)) in
      setting mid places p x input h l r s to w flow e refl
      (λ z. each_some (λ t. mips.Lui (reg_in t (target (place_of r.at to))) (upper (cell_address c))) (front_nil (each (λ t. mips.Lui (reg_in t (target (place_of r.at to))) (upper (cell_address c)))) (load (target (place_of r.at to)) (target (place_of r.at to)) (lower (cell_address c)) ++ kept (place_of r.at to)) z))
      (Steps.load_step p (cells mid) r.f.pairs r.top c w (place_of r.at to) r.a r.frame fits below word)
      (steps_to s e)
    where
      globals_below : (mid : Mid) → {c : ℕ} → c < global_cells mid → c < cells mid
      globals_below mid {c} h = omega arith

  load_stage : (to g v : ℕ) → slice_get r.block.steps h.current.step ≡ Some (Load to g (Some v)) → ProperLine (Step (Load to g (Some v))) h.current.variables h.globals → StageOf mid places p x input h l
  load_stage to g v e proper =
      let s : MidStep = Load to g (Some v) in
      let q : ReadsWord r.f r.at h.current.variables r.top r.a v = reads s v e (first_of_list v []) proper.reads_written.0 in
      let i : ℕ = q.word in
      let within : i < global_length mid g = subst (λ (n : ℕ). i < n) (r.globals.lengths g) (subst (λ (n : ℕ). n < length (global_in h.globals g)) q.value proper.index_fits) in
      let there : g < length mid.globals = global_there mid.globals g i within in
      let c : ℕ = global_cell mid g in
      let w : ℕ = load_from h.globals g i in
      let fits : PlaceFits r.f.pairs (place_of r.at to) = flow.step_fits h.current.block h.current.step to s (here s e) refl in
      let below : c + i < cells mid = globals_below mid (global_below mid g i within) in
      setting mid places p x input h l r s to w flow e refl
      (λ z. element_some 0 1 (place_of r.at v) (cell_address c) (front_nil (element 0 1 (place_of r.at v) (cell_address c)) (load (target (place_of r.at to)) (Value 0) (lower (cell_address c)) ++ kept (place_of r.at to)) z))
      (Steps.load_indexed p (cells mid) r.f.pairs r.top c i w (place_of r.at to) (place_of r.at v) r.a r.frame fits q.stands below (r.globals.word g i there within))
      (steps_to s e ∙ ap (λ (x : ℕ). let z : BlockState × Option ℕ = (sets h to (load_from h.globals g x), None) in z) q.value)
    where
      globals_below : (mid : Mid) → {c : ℕ} → c < global_cells mid → c < cells mid
      globals_below mid {c} h = omega arith

      element_some : (to by : ℕ) (pl : Place) (a : ℕ) → element to by pl a ≡ [] → ⊥
      element_some to by pl a z = each_some (λ t. mips.Sll (reg_in t (Value to)) (reg_in t (source pl to)) 4)
          (front_nil (each (λ t. mips.Sll (reg_in t (Value to)) (reg_in t (source pl to)) 4)) (each (λ t. mips.Lui (reg_in t (Value by)) (upper a)) ++ three mips.Addu (Value to) (Value to) (Value by))
          (back_nil (fetched pl to) (each (λ t. mips.Sll (reg_in t (Value to)) (reg_in t (source pl to)) 4) ++ (each (λ t. mips.Lui (reg_in t (Value by)) (upper a)) ++ three mips.Addu (Value to) (Value to) (Value by))) z))

  -- a step that stores to a global
  storing : (s : MidStep) (g i w : ℕ) → slice_get r.block.steps h.current.step ≡ Some s → step_writes s ≡ None → g < length mid.globals → i < global_length mid g →
      (code_of mid r.at s ≡ [] → ⊥) →
      DoesSetCell p (cells mid) (code_of mid r.at s) r.a (global_cell mid g + i) w →
      (blocks mid).step h ≡ (stepped h h.current.variables (Rattle.mid_blocks.specs.Run.store_to h.globals g i w) h.feed h.output, None) → StageOf mid places p x input h l
  storing s g i w e writes there within ne does step =
      let c : ℕ = global_cell mid g + i in
      let below : c < global_cells mid = global_below mid g i within in
      silent mid places p x input h (stepped h h.current.variables (Rattle.mid_blocks.specs.Run.store_to h.globals g i w) h.feed h.output) l r s does.now e ne does.does step
      (λ m before tripled. advance mid places p x input h l r s h.current.variables (Rattle.mid_blocks.specs.Run.store_to h.globals g i w) h.feed h.output does.now m e before tripled
      (record { stack = does.sets.file Stack tt ∙ r.frame.stack; room = r.frame.room; small = r.frame.small; pairs_fit = r.frame.pairs_fit })
      (record {
        word = λ v x n z. kept_place (place_of r.at v) below does.sets ∙ r.holds.word v x (flow.step_on h.current.block h.current.step v s (here s e) (λ y. none_some v (sym writes ∙ y)) n) z;
      })
      (stores_globals mid h.globals g i w r.a does.now there within does.sets r.globals)
      (cell_outside mid r.f.pairs r.top c w r.a does.now below r.above does.sets)
      (r.feed ∙ (ap (λ (n : ℕ). drop n r.a.feed) (sym does.sets.fed) ∙ ap (λ (n : List ℕ). drop does.now.fed n) (sym does.sets.feed)))
      (does.sets.feed ∙ r.all))
    where
      none_some : (x : ℕ) → ◌≡◌ {A = Option ℕ} None (Some x) → ⊥
      none_some x e = cc

      apart : (t s c g : ℕ) → c < g → g ≤ t → t + (s + 1) ≢ c
      apart t s c g h k = λ z. omega arith

      two : (k : ℕ) → 2 ≤ k + 2
      two k = omega arith

      kept_place : (pl : Place) → {c v : ℕ} → c < global_cells mid → {a' : Sight} → SetsCell r.a a' c v → in_place a' r.top pl ≡ in_place r.a r.top pl
      kept_place (Pair k) {c} {v} b {a'} s = s.file (Value (k + 2)) (two k)
      kept_place (Slot e) {c} {v} b {a'} s = s.cell (r.top + (e + 1)) (apart r.top e c (global_cells mid) b r.above)

  store_none_stage : (g from : ℕ) → slice_get r.block.steps h.current.step ≡ Some (Store g None from) → ProperLine (Step (Store g None from)) h.current.variables h.globals → StageOf mid places p x input h l
  store_none_stage g from e proper =
      let s : MidStep = Store g None from in
      let q : ReadsWord r.f r.at h.current.variables r.top r.a from = reads s from e (first_of_list from []) proper.reads_written.0 in
      let within : 0 < global_length mid g = subst (λ (n : ℕ). 0 < n) (r.globals.lengths g) proper.index_fits in
      let there : g < length mid.globals = global_there mid.globals g 0 within in
      let c : ℕ = global_cell mid g in
      let zero_more : c + 0 ≡ c = Rattle.std.proofs.Common.add-zero c in
      let below : c < cells mid = globals_below mid (subst (λ (x : ℕ). x < global_cells mid) zero_more (global_below mid g 0 within)) in
      let pl : Place = place_of r.at from in
      storing s g 0 q.word e refl there within
      (λ z. store_some (source pl 0) (Value 1) (lower (cell_address c)) (back_nil (fetched pl 0) (store (source pl 0) (Value 1) (lower (cell_address c))) (back_nil (each (λ t. mips.Lui (reg_in t (Value 1)) (upper (cell_address c)))) (fetched pl 0 ++ store (source pl 0) (Value 1) (lower (cell_address c))) z)))
      (subst (λ (x : ℕ). DoesSetCell p (cells mid) (code_of mid r.at s) r.a x q.word) (sym zero_more)
      (Steps.store_step p (cells mid) r.f.pairs r.top c q.word pl r.a r.frame q.stands below))
      (steps_to s e ∙ ap (λ (x : ℕ). let z : BlockState × Option ℕ = (stepped h h.current.variables (Rattle.mid_blocks.specs.Run.store_to h.globals g 0 x) h.feed h.output, None) in z) q.value)
    where
      globals_below : (mid : Mid) → {c : ℕ} → c < global_cells mid → c < cells mid
      globals_below mid {c} h = omega arith

  store_stage : (g v from : ℕ) → slice_get r.block.steps h.current.step ≡ Some (Store g (Some v) from) → ProperLine (Step (Store g (Some v) from)) h.current.variables h.globals → StageOf mid places p x input h l
  store_stage g v from e proper =
      let s : MidStep = Store g (Some v) from in
      let qi : ReadsWord r.f r.at h.current.variables r.top r.a v = reads s v e (first_of_list v (from ∷ [])) proper.reads_written.0 in
      let q : ReadsWord r.f r.at h.current.variables r.top r.a from = reads s from e (second_of_list v from []) proper.reads_written.1.0 in
      let i : ℕ = qi.word in
      let within : i < global_length mid g = subst (λ (n : ℕ). i < n) (r.globals.lengths g) (subst (λ (n : ℕ). n < length (global_in h.globals g)) qi.value proper.index_fits) in
      let there : g < length mid.globals = global_there mid.globals g i within in
      let c : ℕ = global_cell mid g in
      let below : c + i < cells mid = globals_below mid (global_below mid g i within) in
      let pl : Place = place_of r.at from in
      let el : List Instr = element 1 0 (place_of r.at v) (cell_address c) in
      storing s g i q.word e refl there within
      (λ z. store_some (source pl 0) (Value 1) (lower (cell_address c)) (back_nil (fetched pl 0) (store (source pl 0) (Value 1) (lower (cell_address c))) (back_nil el (fetched pl 0 ++ store (source pl 0) (Value 1) (lower (cell_address c))) z)))
      (Steps.store_indexed p (cells mid) r.f.pairs r.top c i q.word (place_of r.at v) pl r.a r.frame qi.stands q.stands below)
      (steps_to s e ∙ (ap (λ (x : ℕ). let z : BlockState × Option ℕ = (stepped h h.current.variables (Rattle.mid_blocks.specs.Run.store_to h.globals g x (word_in h.current.variables from)) h.feed h.output, None) in z) qi.value ∙
      ap (λ (x : ℕ). let z : BlockState × Option ℕ = (stepped h h.current.variables (Rattle.mid_blocks.specs.Run.store_to h.globals g i x) h.feed h.output, None) in z) q.value))
    where
      globals_below : (mid : Mid) → {c : ℕ} → c < global_cells mid → c < cells mid
      globals_below mid {c} h = omega arith

  input_stage : (to : ℕ) → slice_get r.block.steps h.current.step ≡ Some (Input to) → StageOf mid places p x input h l
  input_stage to e = elim (drop_cases r.a.feed r.a.fed) as (λ z. StageOf mid places p x input h l) [
    | inl none ↦ stopping mid places p x input h (ends h ended.Starved) l r s machine.Starved e
        (stops_early p (cells mid) (input_code (target (place_of r.at to))) (kept (place_of r.at to)) r.a machine.Starved (stops_starved p (cells mid) (target (place_of r.at to)) r.a none.1))
        (steps_to s e ∙ ap (λ (x : List ℕ). let z : BlockState × Option ℕ = (takes_in h to x, None) in z) (r.feed ∙ none.0)) refl
    | inr some ↦
        let w : ℕ = slice_index r.a.feed r.a.fed in
        let small : w < 2 ^ 32 = subst (λ (x : List ℕ). slice_index x r.a.fed < 2 ^ 32) (sym r.all) (set.input_words r.a.fed) in
        let fits : PlaceFits r.f.pairs (place_of r.at to) = flow.step_fits h.current.block h.current.step to s (here s e) refl in
        let does : DoesSetTaken p (cells mid) (input_code (target (place_of r.at to)) ++ kept (place_of r.at to)) r.a r.top (place_of r.at to) w = Steps.input_step p (cells mid) r.f.pairs r.top (place_of r.at to) r.a r.frame fits some.1 small in
        let feed' : List ℕ = drop (r.a.fed + 1) r.a.feed in
        silent mid places p x input h (stepped h (with_word h.current.variables to w) h.globals feed' h.output) l r s does.now e
        (λ z. input_some (target (place_of r.at to)) (front_nil (input_code (target (place_of r.at to))) (kept (place_of r.at to)) z)) does.does
        (steps_to s e ∙ ap (λ (x : List ℕ). let z : BlockState × Option ℕ = (takes_in h to x, None) in z) (r.feed ∙ some.0))
        (λ m before tripled. advance mid places p x input h l r s (with_word h.current.variables to w) h.globals feed' h.output does.now m e before tripled
        (record { stack = does.sets.file Stack tt (stack_kept (place_of r.at to)) ∙ r.frame.stack; room = r.frame.room; small = r.frame.small; pairs_fit = r.frame.pairs_fit })
        (sets_holds r.at (Wanted r.f h.current.block h.current.step) (Wanted r.f h.current.block (h.current.step + 1)) h.current.variables r.top to w (took r.a) does.now
        (λ y x n. (flow.step_on h.current.block h.current.step y s (here s e) (λ z. n (some_same y to (sym z))) x, flow.step_apart h.current.block h.current.step to y s (here s e) refl x n)) does.sets
        (record { word = λ v x n z. taken_place (place_of r.at v) ∙ r.holds.word v x n z }))
        (sets_globals mid h.globals r.top w (place_of r.at to) (took r.a) does.now r.above does.sets (globals_same mid h.globals r.a (took r.a) (λ c k. refl) r.globals))
        (let o : Outside mid r.f.pairs r.top (took r.a) does.now = sets_outside mid r.f.pairs r.top w (place_of r.at to) (took r.a) does.now fits does.sets in record { cell = o.cell })
        (ap (λ (n : ℕ). drop n r.a.feed) (sym does.sets.fed) ∙ ap (λ (n : List ℕ). drop does.now.fed n) (sym does.sets.feed))
        (does.sets.feed ∙ r.all))
  ]
    where
      s : MidStep
      s = Input to

      some_same : (x y : ℕ) → ◌≡◌ {A = Option ℕ} (Some x) (Some y) → x ≡ y
      some_same x y e = ap (λ (o : Option ℕ). elim o as (λ z. ℕ) [ Some v ↦ v | None ↦ 0 ]) e

      stack_kept : (pl : Place) → NotRole pl Stack
      stack_kept (Pair k) = refl
      stack_kept (Slot k) = tt

      taken_place : (pl : Place) → in_place (took r.a) r.top pl ≡ in_place r.a r.top pl
      taken_place (Pair k) = refl
      taken_place (Slot k) = refl

  output_stage : (from : ℕ) → slice_get r.block.steps h.current.step ≡ Some (Output from) → ProperLine (Step (Output from)) h.current.variables h.globals → StageOf mid places p x input h l
  output_stage from e proper =
      let s : MidStep = Output from in
      let q : ReadsWord r.f r.at h.current.variables r.top r.a from = reads s from e (first_of_list from []) proper.reads_written.0 in
      let pl : Place = place_of r.at from in
      let code : List Instr = brought pl (Value 0) ++ service_code 1 in
      let more : List Instr = rest_code x.at mid h.current.function h.current.block r.f r.at r.block (h.current.step + 1) in
      let does : DoesSpeakNear p (cells mid) code r.a q.word = Steps.output_step p (cells mid) r.f.pairs r.top q.word pl r.a r.frame q.stands in
      let y : Speaks p.text (cells mid) (r.number + length code) l does.now q.word = does.does r.number l (stands_first p.text r.number code more (step_stands mid places p x input h l r s e)) r.before r.tripled in
      let out : List ℕ = h.output ++ q.word ∷ [] in
      let h' : BlockState = stepped h h.current.variables h.globals h.feed out in
      stage_speaks mid places p x input h h' l y.last y.now y.steps q.word r.going y.leads y.open_ y.good y.says
      (steps_to s e ∙ ap (λ (w : ℕ). let z : BlockState × Option ℕ = (stepped h h.current.variables h.globals h.feed (h.output ++ w ∷ []), Some w) in z) q.value) (
        zero,
        y.now,
        refl,
        advance mid places p x input h l r s h.current.variables h.globals h.feed out does.now y.now e y.before y.tripled
            (near_frame (cells mid) r.f.pairs r.top r.a does.now does.near r.frame)
            (near_holds r.at (Wanted r.f h.current.block h.current.step) (Wanted r.f h.current.block (h.current.step + 1)) h.current.variables r.top r.a does.now (λ v n. flow.step_on h.current.block h.current.step v s (here s e) (λ z. none_some v z) n) does.near r.holds)
            (globals_same mid h.globals r.a does.now (λ c k. does.near.cell c) r.globals)
            (near_outside mid r.f.pairs r.top r.a does.now does.near)
            (r.feed ∙ (ap (λ (n : ℕ). drop n r.a.feed) (sym does.near.fed) ∙ ap (λ (n : List ℕ). drop does.now.fed n) (sym does.near.feed)))
            (does.near.feed ∙ r.all),
      )
    where
      none_some : (x : ℕ) → ◌≡◌ {A = Option ℕ} None (Some x) → ⊥
      none_some x e = cc

  -- any step
  pub step_stage : (s : MidStep) → slice_get r.block.steps h.current.step ≡ Some s → ProperLine (Step s) h.current.variables h.globals → StageOf mid places p x input h l
  step_stage (Constant to w) e proper = constant_stage to w e
  step_stage (Copy to from) e proper = copy_stage to from e proper
  step_stage (Operate o to left right) e proper = operate_stage o to left right e proper
  step_stage (Guard g index) e proper = guard_stage g index e proper
  step_stage (Load to g None) e proper = load_none_stage to g e proper
  step_stage (Load to g (Some v)) e proper = load_stage to g v e proper
  step_stage (Store g None from) e proper = store_none_stage g from e proper
  step_stage (Store g (Some v) from) e proper = store_stage g v from e proper
  step_stage (Input to) e proper = input_stage to e
  step_stage (Output from) e proper = output_stage from e proper
  step_stage (Deep v) e proper = deep_stage v e proper
