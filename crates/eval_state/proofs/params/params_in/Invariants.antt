use Rattle.std.proofs.Common.{◌≡◌, ◌++◌, ◌∷◌, [], List, drop}
use Rattle.c_meaning.specs.Run.{Entry}
use Rattle.c_meaning.specs.Meaning.{bound}
use Rattle.eval_state.proofs.params.params_in.Given as goal

abbrev pub invariant-loop-i : goal.invariant-loop-i
invariant-loop-i l = (scope : List Entry) × (l.scopes ≡ scope ∷ []) × (bound l.params l.args ≡ bound (drop l.i l.params) (drop l.i l.args) ++ scope)
