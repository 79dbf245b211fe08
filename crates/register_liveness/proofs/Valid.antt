-- What a valid function gives, and lists that grow by one.
use Rattle.std.proofs.Common.{◌≡◌, ℕ, ◌+◌, ◌<◌, ◌≤◌, List, [], ◌∷◌, ◌++◌, length, take, drop, Some, refl, sym, ap, ◌∙◌, subst, arith, inl, inr, get_or, length-append}
use Rattle.std.specs.Prelude.{slice_get, IsTrue, OnOk, Result, Ok, Err}
use Rattle.std.specs.List.{All, Contains, flat_map}
use Rattle.std.proofs.lemmas.Bool.{cases_lt}
use Rattle.std.proofs.lemmas.List.{get_or_append_left, get_or_push, take-append-drop, take_all}
use Rattle.std.proofs.lemmas.List.Concat.{flat_map-append}
use Rattle.std.proofs.lemmas.Option.{get_or_from_slice_get, slice_get-get_or, slice_get_read}
use Rattle.mid_blocks.specs.declared.code.MidBlock.{MidBlock}
use Rattle.mid_blocks.specs.declared.code.MidEnd.{MidEnd}
use Rattle.mid_blocks.specs.declared.code.MidEnd.TheVariants.{Jump, Branch, Call, Return}
use Rattle.mid_blocks.specs.declared.code.MidFunction.{MidFunction}
use Rattle.mid_blocks.specs.Lines.{Line, block_lines, lines, first_of}
use Rattle.mid_blocks.specs.Valid.{ValidFunction, line_variables, IsTarget, IsBehind, target, falls_on}
use Rattle.register_liveness.specs.Uses.{successors}
use Rattle.mid_blocks.proofs.ValidLines.{is_target, is_behind}
use Rattle.register_liveness.proofs.Wanted.{contains_cases, SuccessorsExist}

-- what holds of each item and of one more
pub push_each : {X : Type 0} (P : ℕ → X → Type 0) (xs : List X) (y d : X) (n : ℕ) → length xs ≡ n → ((b : ℕ) → b < n → P b (get_or xs b d)) → P n y → (b : ℕ) → b < n + 1 → P b (get_or (xs ++ y ∷ []) b d)
push_each P xs y d n e all one b h = elim (cases_lt b n) [
  | inl l ↦ subst (P b) (sym (get_or_append_left xs (y ∷ []) d b (omega arith))) (all b l)
  | inr g ↦ let same : n ≡ b = omega arith in
      subst (λ (k : ℕ). P k (get_or (xs ++ y ∷ []) k d)) same (subst (P n) (sym (get_or_push xs y d n e)) one)
]

module _ (f : MidFunction) where
  next_exists : ValidFunction f → (b s : ℕ) (block : MidBlock) (end : MidEnd) → block.end ≡ end → slice_get f.blocks b ≡ Some block → Contains (successors b end) s → s < length f.blocks
  next_exists valid b s block (Jump to) e is c = elim (contains_cases to [] s c) [ inl h ↦ subst (λ (k : ℕ). k < length f.blocks) h (valid.blocks_exist to (is_target f b block to is (ap target e))) | inr h ↦ absurd (omega (arith, h.1)) ]
  next_exists valid b s block (Branch test when to) e is c = elim (contains_cases (b + 1) (to ∷ []) s c) [
    | inl h ↦ subst (λ (k : ℕ). k < length f.blocks) h (valid.has_next (b + 1) (is_behind f b block is (ap falls_on e)))
    | inr h ↦ elim (contains_cases to [] s h) [ inl h ↦ subst (λ (k : ℕ). k < length f.blocks) h (valid.blocks_exist to (is_target f b block to is (ap target e))) | inr h ↦ absurd (omega (arith, h.1)) ]
  ]
  next_exists valid b s block (Call function args result) e is c = elim (contains_cases (b + 1) [] s c) [ inl h ↦ subst (λ (k : ℕ). k < length f.blocks) h (valid.has_next (b + 1) (is_behind f b block is (ap falls_on e))) | inr h ↦ absurd (omega (arith, h.1)) ]
  next_exists valid b s block (Return from) e is c = absurd (omega (arith, c.1))

  pub successors_exist : ValidFunction f → SuccessorsExist f
  successors_exist valid b block s is c = next_exists valid b s block block.end refl is c

pub on_ok : {T E : Type 0} (r : Result T E) (P Q : Type 0) → (P → Q) → OnOk r P → OnOk r Q
on_ok (Ok x) P Q f h = f h
on_ok (Err e) P Q f h = h
