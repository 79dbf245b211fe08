use Rattle.std.proofs.Common.{◌≡◌, ◌++◌, false, drop}
use Rattle.std.specs.Prelude.{All}
use Rattle.mips_isa.specs.Table.{IsInRange}
use Rattle.compare_pass.specs.Guarding.{with_checks}
use Rattle.compare_pass.proofs.pass.guard_items.Given as goal

abbrev pub invariant-loop-item : goal.invariant-loop-item
invariant-loop-item l = record {
  put : l.out.items ++ with_checks l.checked (drop l.item-index l.items) ≡ with_checks false l.items;
  fits : All (λ i. IsInRange i.instr) (drop l.item-index l.items);
}
