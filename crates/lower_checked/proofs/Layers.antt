-- Statements and clauses that are the same have the same parts.
use Rattle.std.proofs.Common.{◌≡◌, sym, ap, ◌∙◌}
use Rattle.c_syntax.specs.declared.tree.Clause.{Clause, roll-Clause}
use Rattle.c_syntax.specs.declared.tree.Stmt.{Stmt, roll-Stmt}
use Rattle.c_syntax.specs.declared.tree.Stmt.TheOpen.{Stmt-F, Clause-F}
use Rattle.c_syntax.specs.declared.tree.Stmt.{out-Stmt, out-roll-Stmt}
use Rattle.c_syntax.specs.declared.tree.Clause.{out-Clause, out-roll-Clause}

pub same_layer : (y z : Stmt-F Stmt Clause) → roll-Stmt y ≡ roll-Stmt z → y ≡ z
same_layer y z e = sym (out-roll-Stmt y) ∙ ap out-Stmt e ∙ out-roll-Stmt z

pub same_clause : (y z : Clause-F Stmt Clause) → roll-Clause y ≡ roll-Clause z → y ≡ z
same_clause y z e = sym (out-roll-Clause y) ∙ ap out-Clause e ∙ out-roll-Clause z
