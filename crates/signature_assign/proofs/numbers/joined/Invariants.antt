use Rattle.std.proofs.Common.{◌≡◌, false}
use Rattle.std.specs.Prelude.{slice_index_or}
use Rattle.std.specs.List.{AllWithin}
use Rattle.signature_assign.proofs.numbers.joined.Given as goal

abbrev pub invariant-loop-w : goal.invariant-loop-w
invariant-loop-w l = AllWithin (λ w. slice_index_or l.two w false ≡ false) l.next 0 l.w-index
