use Rattle.std.proofs.Common.{ap, sym, ◌∙◌, [], length}
use Rattle.std.specs.Option.{option_copied}
use Rattle.duplicate_pass.proofs.Absent.{absent}
use Rattle.duplicate_pass.proofs.steps.length_of.Goals as goal

pub returns-in-None : goal.returns-in-None
returns-in-None c = ap length (absent c.args.mid.now.globals c.args.global [] (sym c.get.ensures ∙ ap option_copied c.in-None.is))
