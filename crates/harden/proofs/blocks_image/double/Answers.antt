use Rattle.std.proofs.Common.{sym, subst}
use Rattle.double_law.specs.Law.{AllFit}
use Rattle.harden.specs.CompileBlocksSteps.{AreAllAssigned}
use Rattle.harden.proofs.Fitted.{all_fit}
use Rattle.harden.proofs.Composed.{doubled_of}
use Rattle.harden.proofs.blocks_image.double.Goals as goal

pub duplicate-requires-clause-fit : goal.duplicate-requires-clause-fit
duplicate-requires-clause-fit c = subst (AllFit c.args.mid.now) (sym c.as_slice.ensures.value) (all_fit c.args.mid.now c.in_ok-places.places.items c.in_ok-places.ensures)

pub returns : goal.returns
returns c = doubled_of c.args.mid.now c.as_slice.result.now c.duplicate.result c.requires
    (subst (AreAllAssigned c.args.mid.now) (sym c.as_slice.ensures.value) c.in_ok-places.ensures) c.doubled_reloads.ensures c.leaf_has_no_slots.ensures
    c.duplicate.ensures.doubled c.duplicate.ensures.runs c.duplicate.ensures.twin c.duplicate.ensures.counts
