use Rattle.layout_facts.proofs.LayoutTurnsWhole.{text_turned}
use Rattle.layout_facts.proofs.layout_turns.text_turned.Goals as goal

pub returns : goal.returns
returns c = text_turned
