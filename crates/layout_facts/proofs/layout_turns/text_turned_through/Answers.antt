use Rattle.layout_facts.proofs.LayoutTurnsWhole.{text_turned_through}
use Rattle.layout_facts.proofs.layout_turns.text_turned_through.Goals as goal

pub returns : goal.returns
returns c = text_turned_through
