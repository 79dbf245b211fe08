use Rattle.layout_facts.proofs.Words.{signs_of_words}
use Rattle.layout_facts.proofs.word_aliases.signs_of_words.Goals as goal

pub returns : goal.returns
returns c = signs_of_words
