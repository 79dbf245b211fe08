-- What holds of the run of every program, whether it has faults or not.
use Rattle.std.specs.Prelude.{◌≡◌, ℕ, ◌<◌, ◌≤◌, List, ◌++◌, IsTrue, ◌↔◌}
use Rattle.hard_runs.specs.Observed.{Prefix}
use Rattle.c_syntax.specs.declared.tree.Expr.{Expr}
use Rattle.c_syntax.specs.declared.tree.Stmt.{Stmt}
use Rattle.c_syntax.specs.declared.tree.TopItem.{TopItem}
use Rattle.c_meaning.specs.declared.run.Value.{Value}
use Rattle.c_syntax.specs.declared.tree.Program.{Program}
use Rattle.c_meaning.specs.declared.run.EvalEnd.TheVariants.{Going}
use Rattle.c_syntax.specs.Graph.{is_recursive, Chain}
use Rattle.c_meaning.specs.Run.{State, Outcome, Gives, Ends}
use Rattle.c_meaning.specs.Meaning.{Names, CRan, run_of, expression, statement, calls, call_at}

-- what more fuel makes of a run: where it has ended, nothing; where it is going, it can only add to the output
pub data Continues (before after : CRan) : Type 0 where
  ended : after ≡ before → Continues before after
  went_on : before.end ≡ Going → Prefix before.output after.output → Continues before after

-- more fuel never changes an end that stands, and only adds to the output of a run that is going
abbrev pub MoreFuel : Type 0
MoreFuel = (names : Names) (program : Program) (input : List ℕ) (less more : ℕ) → less ≤ more →
    Continues (run_of names program input less) (run_of names program input more)

-- ---- parts of a run

-- a state in which these words were put out before
abbrev pub after_words : List ℕ → State → State
after_words words s = record s { output = words ++ s.output }

-- what comes of it, after these words
abbrev pub with_words : {A : Type 0} → List ℕ → Outcome A → Outcome A
with_words words (Gives a s) = Gives a (after_words words s)
with_words words (Ends end output) = Ends end (words ++ output)

-- what was put out before changes nothing but stays in front of the output: for an expression, a statement and a call
pub record OutputStays (names : Names) (items : List TopItem) (level : ℕ) (words : List ℕ) (s : State) : Type 0 where
  pub of_expression : (e : Expr) → (expression e).value (calls names items level) (after_words words s) ≡
      with_words words ((expression e).value (calls names items level) s)
  pub of_place : (e : Expr) → (expression e).place (calls names items level) (after_words words s) ≡
      with_words words ((expression e).place (calls names items level) s)
  pub of_statement : (c : Stmt) → statement c (calls names items level) (after_words words s) ≡ with_words words (statement c (calls names items level) s)
  pub of_call : (name : ℕ) (args : List Value) → call_at names items level name args (after_words words s) ≡
      with_words words (call_at names items level name args s)

abbrev pub OutputIsAdded : Type 0
OutputIsAdded = (names : Names) (items : List TopItem) (level : ℕ) (words : List ℕ) (s : State) → OutputStays names items level words s

-- at every level above the fuel an expression, a statement and a call do the same
pub record SameAt (names : Names) (items : List TopItem) (m n : ℕ) (s : State) : Type 0 where
  pub of_expression : (e : Expr) → (expression e).value (calls names items m) s ≡ (expression e).value (calls names items n) s
  pub of_place : (e : Expr) → (expression e).place (calls names items m) s ≡ (expression e).place (calls names items n) s
  pub of_statement : (c : Stmt) → statement c (calls names items m) s ≡ statement c (calls names items n) s
  pub of_call : (name : ℕ) (args : List Value) → call_at names items m name args s ≡ call_at names items n name args s

-- so that no run meets the bound on open calls before its fuel is spent
abbrev pub LevelsAgree : Type 0
LevelsAgree = (names : Names) (items : List TopItem) (m n : ℕ) (s : State) → s.fuel < m → s.fuel < n → SameAt names items m n s

-- ---- recursion

-- a function is recursive exactly where a chain of calls leads from it back to it
abbrev pub RecursiveIsChain : Type 0
RecursiveIsChain = (items : List TopItem) (name : ℕ) → IsTrue (is_recursive items name) ↔ Chain items name name

-- as many calls of recursive functions are active after a part as before it
abbrev pub AsActive : {A : Type 0} → ℕ → Outcome A → Type 0
AsActive before (Gives a s) = s.active ≡ before
AsActive before (Ends end output) = Unit {0}

pub record ActiveStays (names : Names) (items : List TopItem) (level : ℕ) (s : State) : Type 0 where
  pub of_expression : (e : Expr) → AsActive s.active ((expression e).value (calls names items level) s)
  pub of_place : (e : Expr) → AsActive s.active ((expression e).place (calls names items level) s)
  pub of_statement : (c : Stmt) → AsActive s.active (statement c (calls names items level) s)
  pub of_call : (name : ℕ) (args : List Value) → AsActive s.active (call_at names items level name args s)

-- so that the number never passes its limit
abbrev pub CallsReturn : Type 0
CallsReturn = (names : Names) (items : List TopItem) (level : ℕ) (s : State) → ActiveStays names items level s
