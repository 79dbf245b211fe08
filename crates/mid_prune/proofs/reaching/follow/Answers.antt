use Rattle.std.proofs.Common.{◌+◌, subst}
use Rattle.mid_blocks.specs.declared.code.MidEnd.TheVariants.{Branch, Call}
use Rattle.mid_prune.specs.Work.{EndThere}
use Rattle.mid_prune.proofs.Spreading.{put_there}
use Rattle.mid_prune.proofs.reaching.follow.Goals as goal

pub put-requires-in-Branch-2 : goal.put-requires-in-Branch-2
put-requires-in-Branch-2 c =
    let h : EndThere c.args.marks.now c.args.from.function c.args.from.block (Branch c.in-Branch.test c.in-Branch.when c.in-Branch.to) = subst (EndThere c.args.marks.now c.args.from.function c.args.from.block) c.in-Branch.is c.requires.there in
    put_there c.args.from.function c.in-Branch.to c.args.from.function (c.args.from.block + 1) (record { marks = c.args.marks.now; waiting = c.args.waiting.now.items }) (record { marks = c.put-in-Branch.new.marks; waiting = c.put-in-Branch.new.waiting.items })
    c.in_ok-put-in-Branch.ensures h.0 h.1

pub put-requires-in-Call-2 : goal.put-requires-in-Call-2
put-requires-in-Call-2 c =
    let h : EndThere c.args.marks.now c.args.from.function c.args.from.block (Call c.in-Call.function c.in-Call.args c.in-Call.result) = subst (EndThere c.args.marks.now c.args.from.function c.args.from.block) c.in-Call.is c.requires.there in
    put_there c.in-Call.function 0 c.args.from.function (c.args.from.block + 1) (record { marks = c.args.marks.now; waiting = c.args.waiting.now.items }) (record { marks = c.put-in-Call.new.marks; waiting = c.put-in-Call.new.waiting.items })
    c.in_ok-put-in-Call.ensures h.0 h.1
