-- The greatest number of the first elements of a list, and of the parts of a tree.
use Rattle.std.proofs.Common.{◌≡◌, ℕ, zero, suc, ◌+◌, ◌<◌, ◌≤◌, max, List, [], ◌∷◌, map, take, length, get_or, refl, sym, ap, ◌∙◌, arith}
use Rattle.c_syntax.specs.declared.tree.Expr.{Expr, Call, fold-roll-Expr}
use Rattle.c_syntax.specs.declared.tree.Expr.TheOpen.{Expr-F}
use Rattle.c_syntax.specs.declared.tree.Expr.TheVariants.{rolls-Call}
use Rattle.c_syntax.specs.Sizes.{greatest, expression_depth, expression_depth_step}

one_more : {A : Type 0} (f : A → ℕ) (xs : List A) (i : ℕ) (x : A) → i < length xs → x ≡ get_or xs i x → greatest (map f (take (suc i) xs)) ≡ max (greatest (map f (take i xs))) (f x)
one_more f [] i x lt is = absurd (omega arith)
one_more f (y ∷ ys) zero x lt is = let e : f x ≡ f y = ap f is in omega (arith, e)
one_more f (y ∷ ys) (suc i) x lt is = omega (arith, one_more f ys i x (omega arith) is)

-- with the element that comes next
pub greatest_more : {A : Type 0} (f : A → ℕ) (xs : List A) (i : ℕ) (x : A) → i < length xs → x ≡ get_or xs i x → greatest (map f (take (i + 1) xs)) ≡ max (greatest (map f (take i xs))) (f x)
greatest_more f xs i x lt is = let e : i + 1 ≡ suc i = omega arith in rw e (one_more f xs i x lt is)

-- at the end of the list
pub greatest_whole : {A : Type 0} (f : A → ℕ) (xs : List A) (i : ℕ) → length xs ≤ i → greatest (map f (take i xs)) ≡ greatest (map f xs)
greatest_whole f [] zero le = refl
greatest_whole f [] (suc i) le = refl
greatest_whole f (x ∷ xs) zero le = absurd (omega arith)
greatest_whole f (x ∷ xs) (suc i) le = ap (λ n. max (f x) n) (greatest_whole f xs i (omega arith))

pub depth-Call : (name : ℕ) (args : List Expr) (at : ℕ) → expression_depth (Call name args at) ≡ 1 + greatest (map expression_depth args)
depth-Call name args at = ap expression_depth (sym (rolls-Call name args at)) ∙ fold-roll-Expr ℕ expression_depth_step (Expr-F.Call name args at)
