use Rattle.std.proofs.Common.{◌<◌, ◌≤◌, ◌+◌, length, arith, sym}
use Rattle.hard_items.specs.Run.{items_of}
use Rattle.test_oracle.specs.Standing.{way_seen}
use Rattle.test_oracle.proofs.Lists.{before_inside, before_past}
use Rattle.test_oracle.proofs.item_runner.Runner.pass.Goals as goal

pub returns-then-count-left-clause-spot : goal.returns-then-count-left-clause-spot
returns-then-count-left-clause-spot c = λ d.
    let lt : c.args.self.now.at + c.args.count < length (items_of c.args.program.now c.args.self.now.block) = omega arith in
    sym (before_inside c.args.program.now c.args.self.now.block (items_of c.args.program.now c.args.self.now.block) (c.args.self.now.at + c.args.count) (way_seen c.args.self.now.way) d lt)

pub returns-clause-spot : goal.returns-clause-spot
returns-clause-spot c = λ d.
    let le : length (items_of c.args.program.now c.args.self.now.block) ≤ c.args.self.now.at + c.args.count = omega arith in
    sym (before_past c.args.program.now c.args.self.now.block (items_of c.args.program.now c.args.self.now.block) (c.args.self.now.at + c.args.count) (way_seen c.args.self.now.way) d le)
