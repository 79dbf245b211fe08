-- What a name of a table is called as.
use Rattle.std.proofs.Common.{◌≡◌, ℕ, refl}
use Rattle.std.specs.Prelude.{slice_index_or}
use Rattle.lower_expressions.specs.declared.table.Table.{Table}
use Rattle.lower_expressions.specs.declared.table.Callee.TheVariants.{NoFunction}
use Rattle.lower_expressions.specs.Names.{callee_of, names_of}

pub called : (t : Table) (name : ℕ) → callee_of (slice_index_or t.callees.items name NoFunction) ≡ (names_of t).callee name
unfolding names_of
called t name = refl
