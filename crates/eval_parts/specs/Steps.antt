-- What one step of an evaluation does, and that it takes work off.
use Rattle.std.specs.Prelude.{ℕ, ◌<◌, ◌≤◌, Bool, true, false, List}
use Rattle.c_meaning.specs.declared.run.Value.{Value}
use Rattle.c_syntax.specs.declared.tree.TopItem.{TopItem}
use Rattle.c_meaning.specs.Run.{Run}
use Rattle.c_syntax.specs.Graph.{functions, function_named, is_recursive}
use Rattle.c_meaning.specs.Meaning.{Names, calls, enter_function}
use Rattle.eval_parts.specs.declared.part.Given.{Given}
use Rattle.eval_parts.specs.declared.part.Now.{Now}
use Rattle.eval_parts.specs.declared.part.Now.TheVariants as now
use Rattle.eval_parts.specs.declared.part.Next.{Next}
use Rattle.eval_parts.specs.Parts.{value_given}
use Rattle.eval_parts.specs.Work.{next_work, now_work, bodies_work}

-- whether a part begins without a look at the stack
abbrev pub is_inner : Now → Bool
is_inner (now.Call name args) = false
is_inner (now.Enter name args) = false
is_inner (now.Given g) = false
is_inner (now.Over end) = false
is_inner _ = true

-- what comes next has less work than the part that begins, wherever at most so much fuel is left
abbrev pub FallsWithin : ℕ → Now → Next → Type 0
FallsWithin fuel n next = (most call : ℕ) (items : List TopItem) → fuel ≤ most → next_work most call items next < now_work most call items n

-- a call of a function that isn't `in_word` or `out_word`
abbrev pub calling : List TopItem → ℕ → List Value → Names → ℕ → Run Given
calling items name args names level = value_given (enter_function (calls names items level) (is_recursive items name) (function_named name items) args)

-- what comes next has less work than all bodies together
abbrev pub FallsFromCall : List TopItem → Next → Type 0
FallsFromCall items next = (most call : ℕ) → next_work most call items next < bodies_work most call (functions items)
