-- A name that is not the one put keeps what it held.
use Rattle.std.proofs.Common.{arith}
use Rattle.std.proofs.lemmas.Map.Text.{text_keys}
use Rattle.hard_shelf.proofs.never_fails.NeverFails.hold.Goals as goal

pub returns-in-Ok-clause-others : goal.returns-in-Ok-clause-others
returns-in-Ok-clause-others c = λ name apart. grind (arith, text_keys)
