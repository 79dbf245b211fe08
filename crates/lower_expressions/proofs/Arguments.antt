-- Arguments one after the other.
use Rattle.std.proofs.Common.{◌≡◌, ℕ, zero, suc, ◌+◌, ◌<◌, ◌≤◌, List, [], ◌∷◌, ◌++◌, map, sum, length, get_or, drop, drop-cons, sym, ap, ◌∙◌, subst, append_assoc, arith}
use Rattle.std.proofs.lemmas.Grind.{common_steps}
use Rattle.c_syntax.specs.declared.tree.Expr.{Expr, roll-Expr, map-Expr, ind-Expr, fold-roll-Expr}
use Rattle.c_syntax.specs.declared.tree.Expr.TheOpen.{Expr-F}
use Rattle.c_syntax.specs.Sizes.{expression_nodes, expression_nodes_step}
use Rattle.mid_blocks.specs.Lines.{Line}
use Rattle.lower_rules.specs.Bindings.{Bindings}
use Rattle.lower_rules.specs.Expressions.{low, args_blocks, args_lines}

next_place : (i : ℕ) → suc i ≡ i + 1
next_place i = omega arith

pub one_more : (xs : List Expr) (i : ℕ) (x : Expr) → i < length xs → x ≡ get_or xs i x → drop i xs ≡ x ∷ drop (i + 1) xs
one_more xs i x h e =
    drop-cons xs i x h ∙ ap (λ (y : Expr). y ∷ drop (suc i) xs) (sym e) ∙ ap (λ (n : ℕ). x ∷ drop n xs) (next_place i)

pub next_blocks : (names : Bindings) (xs : List Expr) (i : ℕ) (x : Expr) → i < length xs → x ≡ get_or xs i x →
    args_blocks (map (low names) (drop i xs)) ≡ (low names x).blocks + args_blocks (map (low names) (drop (i + 1) xs))
next_blocks names xs i x h e = ap (λ (ys : List Expr). args_blocks (map (low names) ys)) (one_more xs i x h e)

sum_more : (n : ℕ) (ns : List ℕ) → sum (n ∷ ns) ≡ n + sum ns
sum_more n ns = grind (arith, common_steps)

pub next_nodes : (xs : List Expr) (i : ℕ) (x : Expr) → i < length xs → x ≡ get_or xs i x →
    sum (map expression_nodes (drop i xs)) ≡ expression_nodes x + sum (map expression_nodes (drop (i + 1) xs))
next_nodes xs i x h e = ap (λ (ys : List Expr). sum (map expression_nodes ys)) (one_more xs i x h e) ∙ sum_more (expression_nodes x) (map expression_nodes (drop (i + 1) xs))

pub next_lines : (names : Bindings) (w w' : List Line) (xs : List Expr) (i : ℕ) (x : Expr) (b b' t : ℕ) → i < length xs → x ≡ get_or xs i x →
    w' ≡ w ++ (low names x).value b t → b' ≡ b + (low names x).blocks →
    w' ++ args_lines (map (low names) (drop (i + 1) xs)) b' (t + 1) ≡ w ++ args_lines (map (low names) (drop i xs)) b t
next_lines names w w' xs i x b b' t h e p q =
    ap (λ (z : List Line). z ++ args_lines (map (low names) (drop (i + 1) xs)) b' (t + 1)) p
    ∙ append_assoc w ((low names x).value b t) (args_lines (map (low names) (drop (i + 1) xs)) b' (t + 1))
    ∙ ap (λ (z : ℕ). w ++ ((low names x).value b t ++ args_lines (map (low names) (drop (i + 1) xs)) z (t + 1))) q
    ∙ sym (ap (λ (ys : List Expr). w ++ args_lines (map (low names) ys) b t) (one_more xs i x h e))

-- an element of a list has at most as many nodes as the list
pub nodes_item : (xs : List Expr) (i : ℕ) (x : Expr) → i < length xs → x ≡ get_or xs i x → expression_nodes x ≤ sum (map expression_nodes xs)
nodes_item [] i x l e = absurd (omega arith)
nodes_item (y ∷ ys) zero x l e = let h : expression_nodes x ≡ expression_nodes y = ap expression_nodes e in omega (arith, sum_more (expression_nodes y) (map expression_nodes ys))
nodes_item (y ∷ ys) (suc i) x l e = let h : expression_nodes x ≤ sum (map expression_nodes ys) = nodes_item ys i x (omega arith) e in omega (arith, sum_more (expression_nodes y) (map expression_nodes ys))

-- the blocks of all from a place on are at most all
rest_blocks : (names : Bindings) (xs : List Expr) (i : ℕ) → args_blocks (map (low names) (drop i xs)) ≤ args_blocks (map (low names) xs)
rest_blocks names [] zero = omega arith
rest_blocks names [] (suc i) = omega arith
rest_blocks names (x ∷ xs) zero = same (args_blocks (map (low names) (x ∷ xs)))
  where
    same : (n : ℕ) → n ≤ n
    same n = omega arith
rest_blocks names (x ∷ xs) (suc i) = by (args_blocks (map (low names) (drop i xs))) (args_blocks (map (low names) xs)) (low names x).blocks (rest_blocks names xs i)
  where
    by : (a b c : ℕ) → a ≤ b → a ≤ c + b
    by a b c h = omega arith

pub item_blocks : (names : Bindings) (xs : List Expr) (i : ℕ) (x : Expr) → i < length xs → x ≡ get_or xs i x → (low names x).blocks ≤ args_blocks (map (low names) xs)
item_blocks names xs i x h e = by (low names x).blocks (args_blocks (map (low names) (drop i xs))) (args_blocks (map (low names) (drop (i + 1) xs))) (args_blocks (map (low names) xs)) (next_blocks names xs i x h e) (rest_blocks names xs i)
  where
    by : (a b c d : ℕ) → b ≡ a + c → b ≤ d → a ≤ d
    by a b c d p q = omega arith

-- each expression has a node
some_step : (x : Expr-F ℕ) → 1 ≤ expression_nodes_step x
some_step (Expr-F.Literal word is_unsigned at) = omega arith
some_step (Expr-F.Name name at) = omega arith
some_step (Expr-F.Index name index at) = omega arith
some_step (Expr-F.Call name args at) = omega arith
some_step (Expr-F.Unary op operand at) = omega arith
some_step (Expr-F.Binary op left right at) = omega arith
some_step (Expr-F.Logic is_and left right at) = omega arith
some_step (Expr-F.Choose test a b at) = omega arith
some_step (Expr-F.Assign op place right at) = omega arith
some_step (Expr-F.Bump up before place at) = omega arith
some_step (Expr-F.Comma left right at) = omega arith
some_step (Expr-F.Paren inner at) = omega arith

abbrev HasNode : Expr → Type 0
HasNode e = 1 ≤ expression_nodes e

abbrev Part : Type 0
Part = (e : Expr) × HasNode e

bare : Expr-F Part → Expr-F Expr
bare y = map-Expr Part Expr (λ e. e.0) y

some_in : (y : Expr-F Part) → 1 ≤ expression_nodes_step (map-Expr Expr ℕ expression_nodes (bare y))
some_in y = some_step (map-Expr Expr ℕ expression_nodes (bare y))

pub some_nodes : (e : Expr) → HasNode e
unfolding bare
some_nodes = ind-Expr HasNode (λ x y is. subst (λ z. HasNode (roll-Expr z)) is (rw (fold-roll-Expr ℕ expression_nodes_step (bare y)) (some_in y)))

-- and a list as many as it is long
pub many_nodes : (xs : List Expr) → length xs ≤ sum (map expression_nodes xs)
many_nodes [] = omega arith
many_nodes (x ∷ xs) = by (length xs) (expression_nodes x) (sum (map expression_nodes xs)) (sum (map expression_nodes (x ∷ xs))) (sum_more (expression_nodes x) (map expression_nodes xs)) (some_nodes x) (many_nodes xs)
  where
    by : (n a s z : ℕ) → z ≡ a + s → 1 ≤ a → n ≤ s → suc n ≤ z
    by n a s z e h k = omega arith
