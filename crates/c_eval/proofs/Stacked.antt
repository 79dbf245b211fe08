-- A stack with a layer more.
use Rattle.std.proofs.Common.{◌≡◌, ℕ, ◌+◌, List, [], ◌∷◌, ◌++◌, reverse, refl, ap}
use Rattle.std.proofs.lemmas.List.{reverse-append}
use Rattle.c_meaning.specs.declared.run.EvalEnd.{EvalEnd}
use Rattle.c_syntax.specs.declared.tree.TopItem.{TopItem}
use Rattle.c_meaning.specs.Run.{Outcome, Ends, and_then}
use Rattle.c_meaning.specs.Meaning.{Names}
use Rattle.eval_parts.specs.declared.part.Given.{Given}
use Rattle.eval_parts.specs.declared.part.Frame.{Frame}
use Rattle.eval_parts.specs.declared.part.Layer.{Layer}
use Rattle.eval_parts.specs.declared.part.Layer.TheVariants as layer
use Rattle.eval_parts.specs.Parts.{resumed}
use Rattle.eval_parts.specs.Finish.{finish}
use Rattle.eval_parts.specs.Work.{stack_work, frame_work, call_work}

-- an end goes through
pub finish_ends : (names : Names) (items : List TopItem) (level : ℕ) (layers : List Layer) (end : EvalEnd) (output : List ℕ) → finish names items level layers (Ends end output) ≡ Ends end output
finish_ends names items level [] end output = refl
finish_ends names items level (layer.Frame f ∷ layers) end output = finish_ends names items level layers end output
finish_ends names items level (layer.Caller above ∷ layers) end output = finish_ends names items above layers end output

pub framed : (names : Names) (items : List TopItem) (level : ℕ) (layers : List Layer) (f : Frame) (o : Outcome Given) → finish names items level (reverse (layers ++ layer.Frame f ∷ [])) o ≡ finish names items level (reverse layers) (and_then o (resumed names items level f))
framed names items level layers f o = ap (λ r. finish names items level r o) (reverse-append layers (layer.Frame f ∷ []))

pub called_from : (names : Names) (items : List TopItem) (level above : ℕ) (layers : List Layer) (o : Outcome Given) → finish names items level (reverse (layers ++ layer.Caller above ∷ [])) o ≡ finish names items above (reverse layers) o
called_from names items level above layers o = ap (λ r. finish names items level r o) (reverse-append layers (layer.Caller above ∷ []))

pub framed_work : (most : ℕ) (items : List TopItem) (level : ℕ) (layers : List Layer) (f : Frame) → stack_work most items level (reverse (layers ++ layer.Frame f ∷ [])) ≡ frame_work most (call_work most items level) f + stack_work most items level (reverse layers)
framed_work most items level layers f = ap (stack_work most items level) (reverse-append layers (layer.Frame f ∷ []))

pub called_work : (most : ℕ) (items : List TopItem) (level above : ℕ) (layers : List Layer) → stack_work most items level (reverse (layers ++ layer.Caller above ∷ [])) ≡ 1 + stack_work most items above (reverse layers)
called_work most items level above layers = ap (stack_work most items level) (reverse-append layers (layer.Caller above ∷ []))

pub ruleset stack_rules = (finish_ends, framed, called_from, framed_work, called_work)
