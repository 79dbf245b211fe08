use Rattle.test_oracle.proofs.Going.{came_seen}
use Rattle.test_oracle.proofs.running.run_items.Goals as goal

pub returns : goal.returns
returns c = came_seen c.args.program.now c.args.input.now c.args.steps _ _ _ c.end.ensures c.in_ok-output.ensures
