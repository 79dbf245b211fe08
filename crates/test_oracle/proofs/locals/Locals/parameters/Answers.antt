use Rattle.std.proofs.Common.{◌∙◌, ap}
use Rattle.mid_blocks.specs.Run.{word_in}
use Rattle.test_oracle.specs.Locals.{variables_of}
use Rattle.test_oracle.proofs.Variables.{parameters}
use Rattle.test_oracle.proofs.locals.Locals.parameters.Goals as goal

pub returns : goal.returns
returns c = ap variables_of c.in_ok-words.ensures ∙ parameters (word_in (variables_of c.args.self.now)) c.args.args.now
