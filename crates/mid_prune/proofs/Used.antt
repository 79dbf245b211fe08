-- Which globals the steps of a program use, and the test that looks for them.
use Rattle.std.proofs.Common.{inl, inr, ◌≡◌, ℕ, ◌<◌, ◌≤◌, Bool, true, false, Option, Some, None, refl, sym, subst}
use Rattle.std.specs.Bool.{Decides}
use Rattle.std.specs.List.{Any}
use Rattle.std.proofs.lemmas.Bool.{leb-true, le-leb, cases_lt}
use Rattle.mid_blocks.specs.declared.code.Mid.{Mid}
use Rattle.mid_blocks.specs.Valid.{step_global, IsUsed}
use Rattle.mid_blocks.proofs.Deciding.{any_decides}
use Rattle.mid_prune.specs.Trims.{is_beyond, steps_pass, blocks_pass, functions_pass, Trims}

-- a global that is named and isn't below a bound
abbrev pub Beyond : ℕ → Option ℕ → Type 0
Beyond bound o = (global : ℕ) × (o ≡ Some global) × (bound ≤ global)

beyond : (bound : ℕ) (o : Option ℕ) → Decides (is_beyond bound o) (Beyond bound o)
beyond bound None = (λ t. absurd cc, λ b. absurd (none b.1))
  where
    none : {global : ℕ} → None ≡ Some global → ⊥
    none e = absurd cc
beyond bound (Some global) = (λ t. (global, refl, leb-true bound global t), λ b. le-leb bound global (from b.0 b.1 b.2))
  where
    from : (x : ℕ) → Some global ≡ Some x → bound ≤ x → bound ≤ global
    from x e l = subst (λ y. bound ≤ y) (sym (same e)) l
      where
        same : Some global ≡ Some x → global ≡ x
        same h = cc

module _ (bound : ℕ) (mid : Mid) where
  passes : Decides (functions_pass bound mid.functions) (Any (λ f. Any (λ b. Any (λ step. Beyond bound (step_global step)) b.steps) f.blocks) mid.functions)
  passes = any_decides (λ f. blocks_pass bound f.blocks) (λ f. Any (λ b. Any (λ step. Beyond bound (step_global step)) b.steps) f.blocks) (λ f.
      any_decides (λ b. steps_pass bound b.steps) (λ b. Any (λ step. Beyond bound (step_global step)) b.steps) (λ b.
      any_decides (λ step. is_beyond bound (step_global step)) (λ step. Beyond bound (step_global step)) (λ step. beyond bound (step_global step)) b.steps) f.blocks) mid.functions

  -- where the test finds one there is one
  pub one_beyond : functions_pass bound mid.functions ≡ true → Trims mid bound mid
  one_beyond t =
      let (i, f, li, ei, blocks) = passes.0 t in
      let (j, b, lj, ej, steps) = blocks in
      let (k, step, lk, ek, far) = steps in
      Trims.whole far.0 (i, f, li, ei, (j, b, lj, ej, (k, step, lk, ek, far.1))) far.2 refl

  -- else none is
  pub none_beyond : functions_pass bound mid.functions ≡ false → (global : ℕ) → IsUsed mid global → global < bound
  none_beyond t global used = by_contra used
    where
      clash : {x : Bool} → x ≡ false → x ≡ true → ⊥
      clash a c = absurd cc

      by_contra : IsUsed mid global → global < bound
      by_contra (i, f, li, ei, (j, b, lj, ej, (k, step, lk, ek, is))) = elim (cases_lt global bound) [
        | inl l ↦ l
        | inr far ↦ absurd (clash t (passes.1 (i, f, li, ei, (j, b, lj, ej, (k, step, lk, ek, (global, is, far))))))
      ]
