-- What is still to come of a run that stands in the middle.
use Rattle.std.specs.Prelude.{◌≡◌, ℕ, List, [], ◌∷◌}
use Rattle.c_syntax.specs.declared.tree.TopItem.{TopItem}
use Rattle.c_meaning.specs.declared.run.Value.{Value}
use Rattle.c_meaning.specs.Operators.{value}
use Rattle.c_meaning.specs.Run.{State, Outcome, Gives, Ends, and_then, pure}
use Rattle.c_meaning.specs.Meaning.{Names, CRan, first_word, ran}
use Rattle.c_meaning.specs.Laws.{with_words, after_words}
use Rattle.eval_state.specs.State.{Held, state}
use Rattle.eval_parts.specs.declared.part.Given.{Given}
use Rattle.eval_parts.specs.declared.part.Given.TheVariants as given
use Rattle.eval_parts.specs.declared.part.Now.TheVariants as now
use Rattle.eval_parts.specs.declared.part.Frame.{Frame}
use Rattle.eval_parts.specs.declared.part.Layer.{Layer}
use Rattle.eval_parts.specs.declared.part.Layer.TheVariants as layer
use Rattle.eval_parts.specs.Parts.{start, resumed, exit_of}

-- what the stack makes of an outcome, the newest first
abbrev pub finish : Names → List TopItem → ℕ → List Layer → Outcome Given → Outcome Given
finish names items level [] o = o
finish names items level (layer.Frame f ∷ layers) o = finish names items level layers (and_then o (resumed names items level f))
finish names items level (layer.Caller above ∷ layers) o = finish names items above layers o

-- the output that is still to come and the end
abbrev pub ended : Outcome Given → CRan
ended (Gives g s) = record { output = s.output; end = exit_of g }
ended (Ends end output) = record { output = output; end = end }

-- ---- laws

-- what was put out before changes nothing of what a stack makes of an outcome, but stays in front of the output
abbrev pub OutputStays : Type 0
OutputStays = (names : Names) (items : List TopItem) (level : ℕ) (layers : List Layer) (words : List ℕ) (o : Outcome Given) →
    finish names items level layers (with_words words o) ≡ with_words words (finish names items level layers o)

-- a run as a whole ends as its last part
abbrev pub EndsSo : Type 0
EndsSo = (o : Outcome Value) → ended (and_then o (λ v. pure (given.Value v))) ≡ ran o
