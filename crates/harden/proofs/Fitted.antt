-- The places of one function more, and of all.
use Rattle.std.proofs.Common.{◌≡◌, ◌<◌, ◌+◌, ℕ, zero, suc, arith, ap, refl, sym, ◌∙◌, subst, List, [], ◌∷◌, ◌++◌, length, inl, inr}
use Rattle.std.specs.Prelude.{Option, Some, ◌⊎◌, get_or, slice_get}
use Rattle.std.proofs.lemmas.Option.{slice_get-get_or, slice_get_within}
use Rattle.mid_blocks.specs.declared.code.Mid.{Mid}
use Rattle.mid_blocks.specs.declared.code.MidFunction.{MidFunction}
use Rattle.mid_blocks.specs.declared.places.Places.{Places}
use Rattle.mid_blocks.specs.Valid.{ValidFunction, Valid}
use Rattle.register_halves.specs.Assigned.{AreAssigned}
use Rattle.double_law.specs.Law.{AllFit}
use Rattle.harden.specs.Blocks.{FitTo}
use Rattle.harden.specs.CompileBlocksSteps.{AreAllAssigned}

some_inj : {A : Type 0} (x y : A) → ◌≡◌ {A = Option A} (Some x) (Some y) → x ≡ y
some_inj x y e = cc

front : {A : Type 0} (xs ys : List A) (i : ℕ) (x : A) → slice_get xs i ≡ Some x → slice_get (xs ++ ys) i ≡ Some x
front [] ys i x e = cc
front (y ∷ xs) ys zero x e = e
front (y ∷ xs) ys (suc i) x e = front xs ys i x e

last : {A : Type 0} (xs : List A) (x : A) → slice_get (xs ++ x ∷ []) (length xs) ≡ Some x
last [] x = refl
last (y ∷ xs) x = last xs x

pub function_valid : (mid : Mid) (fs : List MidFunction) (k : ℕ) (f : MidFunction) → Valid mid → fs ≡ mid.functions → k < length fs → f ≡ get_or fs k f → ValidFunction f
function_valid mid fs k f v e h i = subst ValidFunction (sym i) (subst (λ (l : List MidFunction). ValidFunction (get_or l k f)) (sym e) (v.functions_valid k f (subst (λ (l : List MidFunction). k < length l) e h)))

pub fit_more : (mid : Mid) (fs : List MidFunction) (k : ℕ) (f : MidFunction) (out out' : List Places) (at : Places) → fs ≡ mid.functions → k < length fs → f ≡ get_or fs k f → FitTo mid k out → length out ≡ k → AreAssigned f 8 at → out' ≡ out ++ at ∷ [] → FitTo mid (k + 1) out'
fit_more mid fs k f out out' at e h i fit c p o n g l s = by (split n k l)
  where
    split : (n k : ℕ) → n < k + 1 → (n < k) ⊎ (n ≡ k)
    split zero zero l = inr refl
    split zero (suc k) l = inl (omega arith)
    split (suc n) zero l = absurd (never n l)
      where
        never : (n : ℕ) → suc n < 0 + 1 → ⊥
        never n l = omega arith
    split (suc n) (suc k) l = more (split n k (less n k l))
      where
        less : (n k : ℕ) → suc n < suc k + 1 → n < k + 1
        less n k l = omega arith

        more : (n < k) ⊎ (n ≡ k) → (suc n < suc k) ⊎ (suc n ≡ suc k)
        more (inl h) = inl (up n k h)
          where
            up : (n k : ℕ) → n < k → suc n < suc k
            up n k h = omega arith
        more (inr e) = inr (ap suc e)

    here : slice_get mid.functions k ≡ Some f
    here = ap (λ (l : List MidFunction). slice_get l k) (sym e) ∙ (slice_get-get_or fs k f h ∙ ap (λ (x : MidFunction). Some x) (sym i))

    by : (n < k) ⊎ (n ≡ k) → (at : Places) × (slice_get out' n ≡ Some at) × AreAssigned g 8 at
    by (inl q) = let r : (at : Places) × (slice_get out n ≡ Some at) × AreAssigned g 8 at = fit n g q s in
        (r.0, ap (λ (l : List Places). slice_get l n) o ∙ front out (at ∷ []) n r.0 r.1, r.2)
    by (inr q) = (
      at,
      ap (λ (l : List Places). slice_get l n) o ∙ (ap (slice_get (out ++ at ∷ [])) (q ∙ sym c) ∙ last out at),
      subst (λ (x : MidFunction). AreAssigned x 8 at) (some_inj f g (sym here ∙ (ap (slice_get mid.functions) (sym q) ∙ s))) p,
    )

pub fit_all : (mid : Mid) (fs : List MidFunction) (k : ℕ) (out : List Places) → fs ≡ mid.functions → k ≡ length fs → length out ≡ k → FitTo mid k out → AreAllAssigned mid out
fit_all mid fs k out e c l fit = record {
  one_each = l ∙ (c ∙ ap length e);
  each = λ n f s. fit n f (subst (λ (z : ℕ). n < z) (sym (c ∙ ap length e)) (slice_get_within mid.functions n f s)) s;
}

pub all_fit : (mid : Mid) (places : List Places) → AreAllAssigned mid places → AllFit mid places
all_fit mid places a n f s = let r : (at : Places) × (slice_get places n ≡ Some at) × AreAssigned f 8 at = a.each n f s in (r.0, r.1, r.2.fit)
