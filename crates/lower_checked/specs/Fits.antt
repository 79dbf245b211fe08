-- That a checked program can be lowered.
use Rattle.std.specs.Prelude.{IsTrue}
use Rattle.c_syntax.specs.Literals.{items_literals}
use Rattle.check_rules.specs.Limits.{Resolved, resolved_names}
use Rattle.check_rules.specs.Resolution.{IsChecked}
use Rattle.lower_rules.specs.Fitting.{Fitting}

-- a checked program whose literals are words is one that lowering takes
abbrev pub CheckedFits : Type 0
CheckedFits = (c : Resolved) → IsChecked c → IsTrue (items_literals c.program.items) → Fitting (resolved_names c) c.program.items
