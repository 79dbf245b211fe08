use Rattle.std.proofs.Common.{ℕ, get_or, ◌<◌, length, arith}
use Rattle.signature_assign.proofs.Inside.{inside_of}
use Rattle.signature_assign.proofs.groups.look.Goals as goal

pub pass_on-requires-clause-there : goal.pass_on-requires-clause-there
pass_on-requires-clause-there c =
    let p : ℕ = get_or c.args.before.now c.loop-p.p-index 0 in
    let h : p < length c.args.successors.now = c.requires.there c.loop-p.p-index 0 c.loop-p-test.true in
    inside_of c.args.successors.now p c.as_slice.result.now c.index-successors-p.result (length c.args.labels.now) (length c.loop-p.labels) c.as_slice.ensures c.index-successors-p.is h (c.requires.inside p h) c.loop-p.invariant.long
