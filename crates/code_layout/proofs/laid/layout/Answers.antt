use Rattle.std.proofs.Common.{◌≡◌, ◌∙◌, take}
use Rattle.code_layout.proofs.Puts.{front_of}
use Rattle.code_layout.proofs.laid.layout.Goals as goal

pub returns-clause-starts : goal.returns-clause-starts
returns-clause-starts c = c.from_vec-2.ensures ∙ (c.truncate.ensures.items ∙ front_of c.args.signed.now _ _ c.len.ensures c.in_ok-starts.ensures)
