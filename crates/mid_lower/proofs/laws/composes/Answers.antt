use Rattle.mid_lower.proofs.Composed.{by_trim}
use Rattle.mid_lower.proofs.laws.composes.Goals as goal

pub returns : goal.returns
returns c = λ checked facts marks closed reached mid trims. by_trim (record {
  runs = c.runs_as_tree.ensures;
  proper = c.stays_proper.ensures;
  few_words = c.few_words.ensures;
  valid = c.lowered_is_valid.ensures;
  words = c.stays_words.ensures;
  few_blocks = c.few_blocks.ensures;
  shallow = c.shallow_in_room.ensures;
  trimmed = c.trimmed_stays.ensures;
}) checked facts marks closed reached mid trims
