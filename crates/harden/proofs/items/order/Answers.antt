use Rattle.harden.proofs.Ordered.{order_given}
use Rattle.harden.proofs.items.order.Goals as goal

pub returns : goal.returns
returns c = order_given c.args.program c.in_ok-guarded.guarded c.interleave.result c.requires.no_free_nop c.requires.busy c.in_ok-guarded.ensures.checks_stand c.in_ok-guarded.ensures.same_runs c.in_ok-guarded.ensures.guarded c.in_ok-guarded.ensures.twin c.in_ok-guarded.ensures.counts_stay
    c.interleave.ensures.in_turn c.interleave.ensures.same_runs c.interleave.ensures.apart c.interleave.ensures.never_reports c.interleave.ensures.guarded c.interleave.ensures.calm c.interleave.ensures.counts c.interleave.ensures.turned c.interleave.ensures.turned_through
