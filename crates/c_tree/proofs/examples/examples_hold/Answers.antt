use Rattle.c_tree.proofs.ExampleRuns.{examples}
use Rattle.c_tree.proofs.examples.examples_hold.Goals as goal

pub returns : goal.returns
returns c = examples
