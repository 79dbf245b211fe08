use Rattle.std.proofs.Common.{◌≡◌, ◌++◌, map, take}
use Rattle.lower_names.specs.Stands.{KnownOutside}
use Rattle.lower_names.specs.Calls.{chosen}
use Rattle.lower_functions.specs.Lowered.{low_among}
use Rattle.lower_functions.proofs.whole.push_all.Given as goal

abbrev pub invariant-loop-item : goal.invariant-loop-item
invariant-loop-item l = record {
  made : l.out ≡ l.fn.out ++ map (low_among l.fn.table.globals.items l.fn.table.callees.items l.recursive) (chosen l.of_main l.main (take l.item-index l.items));
  globals : l.table.globals.items ≡ l.fn.table.globals.items;
  callees : l.table.callees.items ≡ l.fn.table.callees.items;
  known : KnownOutside l.table.globals.items l.table.known.items;
  before : KnownOutside l.table.globals.items l.before;
}
