use Rattle.signature_assign.proofs.Signing.{marked_more}
use Rattle.signature_assign.proofs.numbers.marks_of.Goals as goal

pub loop-u-preserved : goal.loop-u-preserved
loop-u-preserved c = marked_more c.args.known.now.successors.items c.loop-u.u c.loop-u.marks.items c.push.new.self.items c.mark_of.result c.loop-u.invariant c.mark_of.ensures c.in_ok-push.ensures.items
