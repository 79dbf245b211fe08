-- Clauses of a `switch` that have no label; the grammar makes none.
use Rattle.std.specs.Prelude.{ℕ, ◌+◌, List, [], ◌∷◌, map, sum}
use Rattle.c_syntax.specs.declared.tree.Label.{Label}
use Rattle.c_syntax.specs.declared.tree.Stmt.{Stmt, fold-Stmt}
use Rattle.c_syntax.specs.declared.tree.Clause.{Clause, fold-Clause}
use Rattle.c_syntax.specs.declared.tree.Stmt.TheOpen.{Stmt-F, Clause-F}
use Rattle.c_syntax.specs.declared.tree.Function.{Function}
use Rattle.c_syntax.specs.Graph.{body_of}
use Rattle.c_syntax.specs.Sizes.{or_zero}

-- 1 for no labels
abbrev pub none_first : List Label → ℕ
none_first [] = 1
none_first (l ∷ ls) = 0

abbrev pub unlabelled_step : Stmt-F ℕ ℕ → ℕ
unlabelled_step Stmt-F.Empty = 0
unlabelled_step (Stmt-F.Value e) = 0
unlabelled_step (Stmt-F.Declare locals) = 0
unlabelled_step (Stmt-F.Block body) = sum body
unlabelled_step (Stmt-F.If test a b) = a + or_zero (λ n. n) b
unlabelled_step (Stmt-F.While test body) = body
unlabelled_step (Stmt-F.Do body test) = body
unlabelled_step (Stmt-F.For first test next body) = first + body
unlabelled_step (Stmt-F.Switch test clauses) = sum clauses
unlabelled_step (Stmt-F.Break at) = 0
unlabelled_step (Stmt-F.Continue at) = 0
unlabelled_step (Stmt-F.Return e at) = 0

abbrev pub unlabelled_clause_step : Clause-F ℕ ℕ → ℕ
unlabelled_clause_step c = none_first c.labels + sum c.body

-- how many clauses without a label stand in a statement
abbrev pub unlabelled : Stmt → ℕ
unlabelled = fold-Stmt ℕ ℕ unlabelled_step unlabelled_clause_step

abbrev pub unlabelled_in_clause : Clause → ℕ
unlabelled_in_clause = fold-Clause ℕ ℕ unlabelled_step unlabelled_clause_step

-- and in the body of a function
abbrev pub bare_clauses : Function → ℕ
bare_clauses f = sum (map unlabelled (body_of f.body))
