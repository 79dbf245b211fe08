-- For private contracts alone: what is shown of a run turn by turn.
use Rattle.std.specs.Prelude.{ℕ, ◌≡◌, ◌<◌, List, [], ◌++◌, Option, Some, None, Result, Ok, Err}
use Rattle.c_eval.specs.Running.{Running}
use Rattle.c_meaning.specs.Meaning.{CRan}
use Rattle.c_meaning.specs.declared.run.EvalEnd.{EvalEnd}
use Rattle.c_meaning.specs.declared.run.EvalEnd.TheVariants.{Starved}
use Rattle.fault_replay.specs.Show.{word_lines}
use Rattle.hard_shelf.specs.Outside.{AppendsPart}
use Rattle.eval_show.specs.declared.show.ShowError.{ShowError}
use Rattle.eval_show.specs.declared.show.ShowError.TheVariants.{Sink, OutOfMemory}

-- what is still to come of a run; where memory was wanting, nothing
abbrev pub rest : Option Running → CRan
rest None = record { output = []; end = Starved }
rest (Some running) = running.rest

-- how much work is left of it at most
abbrev pub left : Option Running → ℕ
left None = 0
left (Some running) = running.left

-- between two states of a run these words were put out, and their lines were written
pub record Goes (tells : Type 0) (before now : List ℕ) (first present : Option Running) : Type 0 where
  pub words : List ℕ
  pub output : (rest first).output ≡ words ++ (rest present).output
  pub end : (rest first).end ≡ (rest present).end
  pub written : tells → now ≡ before ++ word_lines words

-- a turn that was shown
abbrev pub IsTurnShown : (tells : Type 0) (before now : List ℕ) (rose : Type 0) (first present : Option Running) → Result (Option EvalEnd) ShowError → Type 0
IsTurnShown tells before now rose first present (Ok None) = Goes tells before now first present × (left present < left first)
IsTurnShown tells before now rose first present (Ok (Some end)) = (rest first ≡ record { output = []; end = end }) × (tells → now ≡ before)
IsTurnShown tells before now rose first present (Err Sink) = rose × (tells → AppendsPart before now (word_lines (rest first).output))
IsTurnShown tells before now rose first present (Err OutOfMemory) = tells → now ≡ before
