-- A light `main` that calls nothing.
use Rattle.std.specs.Prelude.{◌≡◌, ◌≤◌, ℕ, Some, None, Contains}
use Rattle.c_syntax.specs.declared.tree.Function.{Function}
use Rattle.c_syntax.specs.declared.tree.Program.{Program}
use Rattle.c_syntax.specs.Costs.{function_weight}
use Rattle.c_syntax.specs.Graph.{function_named, body_calls}
use Rattle.c_meaning.specs.Meaning.{Names}

-- `main` has a weight of at most 9, and its body calls no function with a body
pub record IsLightLeaf (names : Names) (program : Program) : Type 0 where
  pub main : Function
  pub is_main : function_named names.main program.items ≡ Some main
  pub light : function_weight main ≤ 9
  pub alone : (name : ℕ) → Contains (body_calls main.body) name → function_named name program.items ≡ None
