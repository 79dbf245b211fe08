-- The command that a value of the code stands for.
use Rattle.tool_words.specs.declared.command.Command.{Command}
use Rattle.tool_words.specs.declared.command.Command.TheVariants as code
use Rattle.tool_words.specs.Commands as spec

abbrev pub seen_command : Command → spec.Command
seen_command (code.Compile words) = spec.Compile words.edges words.source.now words.image.now
seen_command (code.Run words) = spec.Run words.image.now words.input.now words.steps
seen_command (code.Fault words) = spec.RunChanged words.image.now words.input.now words.steps words.fault.now
seen_command (code.Audit words) = spec.Audit words.image.now words.input.now words.steps
seen_command (code.Campaign words) = spec.Campaign words.image.now words.input.now words.steps words.from words.to
seen_command (code.List words) = spec.ListPairs words.image.now
seen_command (code.Eval words) = spec.Eval words.source.now words.input.now words.turns
seen_command (code.SelfRun words) = spec.SelfRun words.number words.size words.steps
seen_command (code.Make words) = spec.Make words.number words.size words.out.now
