-- Which functions a lowered function calls.
use Rattle.std.specs.Prelude.{◌≡◌, ℕ, ◌≤◌, Bool, List, length, Option, Some, None, Contains}
use Rattle.c_syntax.specs.declared.tree.Function.{Function}
use Rattle.c_syntax.specs.declared.tree.TopItem.{TopItem}
use Rattle.c_syntax.specs.declared.tree.Program.{Program}
use Rattle.c_syntax.specs.Graph.{body_calls, function_named}
use Rattle.c_meaning.specs.Meaning.{Names}
use Rattle.mid_blocks.specs.declared.code.MidEnd.TheVariants.{Call}
use Rattle.mid_blocks.specs.Lines.{End, line_at}
use Rattle.lower_rules.specs.Programs.{number_of, low_function, low_program}
use Rattle.mid_blocks.specs.Pruned.{pruned, OnlyReached}

-- a body calls the function of this number by its name
pub record IsCallee (names : Names) (items : List TopItem) (f : Function) (number : ℕ) : Type 0 where
  pub name : ℕ
  pub callee : Function
  pub is_called : Contains (body_calls f.body) name
  pub is : function_named name items ≡ Some callee
  pub number_is : number ≡ number_of names items name

-- each call of a lowered function is one of its body
abbrev pub CallsAreCallees : Type 0
CallsAreCallees = (names : Names) (items : List TopItem) (f : Function) (block step number : ℕ) (args : List ℕ) (result : Option ℕ) →
    line_at (low_function names items f) block step ≡ Some (End (Call number args result)) → IsCallee names items f number

-- where `main` calls no function that has a body, nothing else is left of a lowered program of which only what is reached is left
abbrev pub OnlyMainWhereAlone : Type 0
OnlyMainWhereAlone = (names : Names) (program : Program) (chain_pairs : ℕ) (marks : List (List Bool)) (main : Function) →
    function_named names.main program.items ≡ Some main →
    ((name : ℕ) → Contains (body_calls main.body) name → function_named name program.items ≡ None) →
    OnlyReached (low_program names program chain_pairs) marks → length (pruned marks (low_program names program chain_pairs)).functions ≤ 1
