use Rattle.std.proofs.Common.{◌<◌, length, rules}
use Rattle.mid_prune.proofs.Spreading.{function_within, spot_within, turns, turned, turned_lighter}
use Rattle.mid_prune.proofs.reaching.spread.Goals as goal

pub bounds-functions-spot : goal.bounds-functions-spot
bounds-functions-spot c = function_within c.args.mid.now c.args.functions.now c.loop-spot.marks c.loop-spot.waiting.items c.pop.new.self.items c.in-Some.spot c.requires.same c.in-Some.ensures.items c.loop-spot.invariant

pub offset_bounds-functions-spot : goal.offset_bounds-functions-spot
offset_bounds-functions-spot c =
    let l : c.in-Some.spot.function < length c.args.functions.now = function_within c.args.mid.now c.args.functions.now c.loop-spot.marks c.loop-spot.waiting.items c.pop.new.self.items c.in-Some.spot c.requires.same c.in-Some.ensures.items c.loop-spot.invariant in
    search rules

pub visit-requires-clause-within : goal.visit-requires-clause-within
visit-requires-clause-within c =
    spot_within c.args.mid.now c.args.functions.now c.loop-spot.marks c.loop-spot.waiting.items c.pop.new.self.items c.in-Some.spot c.requires.same c.in-Some.ensures.items c.loop-spot.invariant
    c.index-functions-spot.result c.as_slice-blocks.result.now c.index-functions-spot.is c.as_slice-blocks.ensures

pub visit-requires-clause-there : goal.visit-requires-clause-there
visit-requires-clause-there c = λ b h.
    (turns c.args.mid.now c.args.functions.now c.loop-spot.marks c.loop-spot.waiting.items c.pop.new.self.items c.in-Some.spot c.requires.inside c.requires.same c.in-Some.ensures.items c.loop-spot.invariant
    c.index-functions-spot.result c.as_slice-blocks.result.now c.index-functions-spot.is c.as_slice-blocks.ensures b h).there

pub loop-spot-smaller : goal.loop-spot-smaller
loop-spot-smaller c =
    turned_lighter c.args.mid.now c.args.functions.now c.loop-spot.marks c.loop-spot.waiting.items c.pop.new.self.items c.in-Some.spot c.requires.inside c.requires.same c.in-Some.ensures.items c.loop-spot.invariant
    c.index-functions-spot.result c.as_slice-blocks.result.now c.index-functions-spot.is c.as_slice-blocks.ensures (record { marks = c.visit.new.marks; waiting = c.visit.new.waiting.items }) c.in_ok-visit.ensures

pub loop-spot-preserved : goal.loop-spot-preserved
loop-spot-preserved c =
    turned c.args.mid.now c.args.functions.now c.loop-spot.marks c.loop-spot.waiting.items c.pop.new.self.items c.in-Some.spot c.requires.inside c.requires.same c.in-Some.ensures.items c.loop-spot.invariant
    c.index-functions-spot.result c.as_slice-blocks.result.now c.index-functions-spot.is c.as_slice-blocks.ensures (record { marks = c.visit.new.marks; waiting = c.visit.new.waiting.items }) c.in_ok-visit.ensures
