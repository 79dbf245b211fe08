use Rattle.std.specs.List.{AllWithin}
use Rattle.mips_isa.specs.Table.{IsInRange}
use Rattle.hard_code.proofs.items.each_in_range.Given as goal

abbrev pub invariant-loop-item : goal.invariant-loop-item
invariant-loop-item l = AllWithin (λ i. IsInRange i.instr) l.items 0 l.item-index
