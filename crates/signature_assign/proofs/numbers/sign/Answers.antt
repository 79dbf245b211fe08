use Rattle.std.proofs.Common.{List, length, sym, subst}
use Rattle.hard_items.specs.declared.code.Mark.{Mark}
use Rattle.sign_law.specs.Marks.{HasSigns}
use Rattle.signature_assign.proofs.Signing.{has_signs}
use Rattle.signature_assign.proofs.numbers.sign.Goals as goal

pub returns-clause-signs : goal.returns-clause-signs
returns-clause-signs c =
    let k = c.in_ok-known.known in
    subst (λ (ms : List Mark). HasSigns (record { program = c.args.program; marks = ms })) (sym c.from_vec.ensures)
    (has_signs c.args.program c.in_ok-marks.marks.items k.successors.items k.two.items (length k.two.items) c.requires.well_formed c.in_ok-known.ensures.of (sym c.in_ok-known.ensures.known.graph.size) c.in_ok-marks.ensures)
