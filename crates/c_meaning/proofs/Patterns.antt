-- Names for the patterns of a tree.
use Rattle.std.proofs.Common.{ℕ, Bool, Option}
use Rattle.c_syntax.specs.declared.tree.UnaryOp.{UnaryOp}
use Rattle.c_syntax.specs.declared.tree.BinaryOp.{BinaryOp}
use Rattle.c_syntax.specs.declared.tree.Expr.{Expr, Index', Unary', Binary', Logic', Choose', Assign', Bump', Comma', Paren', end_of-Expr, more_of-Expr}
use Rattle.c_syntax.specs.declared.tree.Stmt.{Stmt, If', While', Do', For', end_of-Stmt, more_of-Stmt, Held-Stmt-If-2, Some'}

pattern abbrev pub index' : ℕ → Expr → ℕ → Expr
index' name i at = Index' name tt (more_of-Expr i end_of-Expr) at

pattern abbrev pub unary' : UnaryOp → Expr → ℕ → Expr
unary' op e at = Unary' op tt (more_of-Expr e end_of-Expr) at

pattern abbrev pub binary' : BinaryOp → Expr → Expr → ℕ → Expr
binary' op l r at = Binary' op tt (more_of-Expr l end_of-Expr) tt (more_of-Expr r end_of-Expr) at

pattern abbrev pub logic' : Bool → Expr → Expr → ℕ → Expr
logic' is_and l r at = Logic' is_and tt (more_of-Expr l end_of-Expr) tt (more_of-Expr r end_of-Expr) at

pattern abbrev pub choose' : Expr → Expr → Expr → ℕ → Expr
choose' t a b at = Choose' tt (more_of-Expr t end_of-Expr) tt (more_of-Expr a end_of-Expr) tt (more_of-Expr b end_of-Expr) at

pattern abbrev pub assign' : Option BinaryOp → Expr → Expr → ℕ → Expr
assign' op p v at = Assign' op tt (more_of-Expr p end_of-Expr) tt (more_of-Expr v end_of-Expr) at

pattern abbrev pub bump' : Bool → Bool → Expr → ℕ → Expr
bump' up before p at = Bump' up before tt (more_of-Expr p end_of-Expr) at

pattern abbrev pub comma' : Expr → Expr → ℕ → Expr
comma' l r at = Comma' tt (more_of-Expr l end_of-Expr) tt (more_of-Expr r end_of-Expr) at

pattern abbrev pub paren' : Expr → ℕ → Expr
paren' e at = Paren' tt (more_of-Expr e end_of-Expr) at

pattern abbrev pub if' : Expr → Stmt → Held-Stmt-If-2 → Stmt
if' t a b = If' t tt (more_of-Stmt a end_of-Stmt) b

pattern abbrev pub some' : Stmt → Held-Stmt-If-2
some' c = Some' tt (more_of-Stmt c end_of-Stmt)

pattern abbrev pub while' : Expr → Stmt → Stmt
while' t b = While' t tt (more_of-Stmt b end_of-Stmt)

pattern abbrev pub do' : Stmt → Expr → Stmt
do' b t = Do' tt (more_of-Stmt b end_of-Stmt) t

pattern abbrev pub for' : Stmt → Option Expr → Option Expr → Stmt → Stmt
for' f t n b = For' tt (more_of-Stmt f end_of-Stmt) t n tt (more_of-Stmt b end_of-Stmt)
