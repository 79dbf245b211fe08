use Rattle.layout_facts.proofs.Words.{aliases_of_words}
use Rattle.layout_facts.proofs.word_aliases.aliases_of_words.Goals as goal

pub returns : goal.returns
returns c = aliases_of_words
