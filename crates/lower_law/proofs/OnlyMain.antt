-- A program whose `main` calls nothing is one function when what isn't reached is left out.
use Rattle.std.proofs.Common.{◌≡◌, ℕ, suc, ◌≤◌, Bool, true, false, List, [], ◌∷◌, length, Option, Some, refl, sym, ◌∙◌, subst, arith}
use Rattle.std.specs.Prelude.{slice_get}
use Rattle.mid_blocks.specs.declared.code.MidEnd.TheVariants.{Call}
use Rattle.mid_blocks.specs.declared.code.MidFunction.{MidFunction}
use Rattle.mid_blocks.specs.declared.code.Mid.{Mid}
use Rattle.mid_blocks.specs.Valid.{EndsBy}
use Rattle.mid_blocks.specs.Pruned.{is_marked, marked, function_marks, pruned_from, pruned, ReachedIn, begin, jumped, fallen, called, OnlyReached}
use Rattle.lower_law.proofs.Pruning.{function_mark}

none_marked : {A : Type 0} (bs : List Bool) (xs : List A) → ((i : ℕ) → is_marked bs i ≡ true → ⊥) → length (marked bs xs) ≡ 0
none_marked [] xs h = refl
none_marked (b ∷ bs) [] h = refl
none_marked (true ∷ bs) (x ∷ xs) h = absurd (h 0 refl)
none_marked (false ∷ bs) (x ∷ xs) h = none_marked bs xs (λ i e. h (suc i) e)

first_marked : {A : Type 0} (bs : List Bool) (xs : List A) → ((i : ℕ) → is_marked bs i ≡ true → i ≡ 0) → length (marked bs xs) ≤ 1
first_marked [] xs h = omega arith
first_marked (b ∷ bs) [] h = omega arith
first_marked (true ∷ bs) (x ∷ xs) h = omega (arith, none_marked bs xs (λ i e. omega (arith, h (suc i) e)))
first_marked (false ∷ bs) (x ∷ xs) h = omega (arith, none_marked bs xs (λ i e. omega (arith, h (suc i) e)))

module _ (mid : Mid) (no_call : (code : MidFunction) (block function : ℕ) (args : List ℕ) (result : Option ℕ) → slice_get mid.functions 0 ≡ Some code → EndsBy code block (Call function args result) → ⊥) where
  stays_main : (f block : ℕ) → ReachedIn mid f block → f ≡ 0
  stays_main f block begin = refl
  stays_main f block (jumped f' b to code end r is ends t) = stays_main f' b r
  stays_main f block (fallen f' b code end r is ends t) = stays_main f' b r
  stays_main f block (called f' b function code args result r is ends) = absurd (no_call code b function args result (subst (λ n. slice_get mid.functions n ≡ Some code) (stays_main f' b r) is) ends)

  -- one function is left at most
  pub only_main : (marks : List (List Bool)) → OnlyReached mid marks → length (pruned marks mid).functions ≤ 1
  only_main marks o = first_marked (function_marks marks) (pruned_from marks 0 mid.functions) (λ i e. stays_main i 0 (o.reached i 0 (sym (function_mark marks i) ∙ e)))
