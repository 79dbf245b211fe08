-- What was put out before changes nothing of what is still to come.
use Rattle.std.proofs.Common.{◌≡◌, ℕ, false, List, [], ◌∷◌, refl, ap, ◌∙◌}
use Rattle.c_syntax.specs.declared.tree.TopItem.{TopItem}
use Rattle.c_meaning.specs.declared.run.Value.{Value}
use Rattle.c_meaning.specs.Operators.{value}
use Rattle.c_meaning.specs.Run.{State, Outcome, Gives, Ends, Run, and_then, pure}
use Rattle.c_meaning.specs.Laws.{with_words, after_words}
use Rattle.c_meaning.specs.Meaning.{Names, CRan, ran, first_word}
use Rattle.eval_parts.specs.declared.part.Given.{Given}
use Rattle.eval_parts.specs.declared.part.Given.TheVariants as given
use Rattle.eval_parts.specs.declared.part.Now.TheVariants as now
use Rattle.eval_parts.specs.declared.part.Frame.{Frame}
use Rattle.eval_parts.specs.declared.part.Layer.{Layer}
use Rattle.eval_parts.specs.declared.part.Layer.TheVariants as layer
use Rattle.eval_parts.specs.declared.part.Frame.TheVariants as frame
use Rattle.eval_parts.specs.declared.part.OnValue.{OnValue}
use Rattle.eval_parts.specs.declared.part.OnFlow.{OnFlow}
use Rattle.c_meaning.specs.declared.run.Flow.{Flow}
use Rattle.eval_parts.specs.Parts.{resumed, start}
use Rattle.eval_parts.proofs.Adds.{of_value, of_place, of_flow}
use Rattle.eval_parts.specs.Finish.{finish, ended, OutputStays, EndsSo}

frame_adds : (names : Names) (items : List TopItem) (level : ℕ) (f : Frame) (g : Given) (words : List ℕ) (s : State) → resumed names items level f g (after_words words s) ≡ with_words words (resumed names items level f g s)
frame_adds names items level (frame.OnValue f) (given.Value v) words s = (of_value names items level f v).at words s
frame_adds names items level (frame.OnValue f) (given.Place p) words s = refl
frame_adds names items level (frame.OnValue f) (given.Flow flow) words s = refl
frame_adds names items level (frame.OnPlace f) (given.Value v) words s = refl
frame_adds names items level (frame.OnPlace f) (given.Place p) words s = (of_place names items level f p).at words s
frame_adds names items level (frame.OnPlace f) (given.Flow flow) words s = refl
frame_adds names items level (frame.OnFlow f) (given.Value v) words s = refl
frame_adds names items level (frame.OnFlow f) (given.Place p) words s = refl
frame_adds names items level (frame.OnFlow f) (given.Flow flow) words s = (of_flow names items level f flow).at words s

resumed_adds : (names : Names) (items : List TopItem) (level : ℕ) (f : Frame) (words : List ℕ) (o : Outcome Given) → and_then (with_words words o) (resumed names items level f) ≡ with_words words (and_then o (resumed names items level f))
resumed_adds names items level f words (Gives g s) = frame_adds names items level f g words s
resumed_adds names items level f words (Ends end output) = refl

pub finish_adds : (names : Names) (items : List TopItem) (level : ℕ) (layers : List Layer) (words : List ℕ) (o : Outcome Given) → finish names items level layers (with_words words o) ≡ with_words words (finish names items level layers o)
finish_adds names items level [] words o = refl
finish_adds names items level (layer.Frame f ∷ layers) words o = ap (finish names items level layers) (resumed_adds names items level f words o) ∙ finish_adds names items level layers words (and_then o (resumed names items level f))
finish_adds names items level (layer.Caller above ∷ layers) words o = finish_adds names items above layers words o

pub output_stays : OutputStays
output_stays = finish_adds

-- what a run gives at its end
pub ends_so : EndsSo
ends_so (Gives v s) = refl
ends_so (Ends end output) = refl
