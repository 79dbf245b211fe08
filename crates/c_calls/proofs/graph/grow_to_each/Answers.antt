use Rattle.std.proofs.Common.{◌<◌, length, get_or, refl, arith, subst}
use Rattle.std.specs.List.{All}
use Rattle.std.proofs.lemmas.List.{take_all}
use Rattle.c_calls.proofs.Growth.{grown_more, within_more}
use Rattle.c_calls.proofs.graph.grow_to_each.Goals as goal

pub loop-name-preserved : goal.loop-name-preserved
loop-name-preserved c =
    let g = c.in_ok-grow.ensures in
    record {
      grown = grown_more c.args.lists.now c.loop-name.lists c.grow.new.lists c.loop-name.invariant.grown g.grown;
      within = within_more (length c.loop-name.lists) (length c.grow.new.lists) c.args.names.now c.loop-name.name-index (get_or c.args.names.now c.loop-name.name-index 0) c.loop-name-test.true refl g.within g.grown.longer c.loop-name.invariant.within;
    }

pub returns-clause-within : goal.returns-clause-within
returns-clause-within c = subst (All (λ name. name < length c.loop-name.lists)) (take_all c.loop-name.name-index c.args.names.now (omega arith)) c.loop-name.invariant.within
