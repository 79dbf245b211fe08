use Rattle.layout_facts.proofs.Reached.{no_word_is_dead}
use Rattle.layout_facts.proofs.reached_words.no_word_is_dead.Goals as goal

pub returns : goal.returns
returns c = no_word_is_dead
