-- What contracts see of a run that goes on turn by turn.
use Rattle.std.specs.Prelude.{◌≡◌, ℕ, ◌<◌, [], ◌∷◌, Option, Some, None, Result, Ok, Err}
use Rattle.hard_words.specs.declared.OutOfMemory.{OutOfMemory}
use Rattle.c_meaning.specs.Meaning.{CRan}
use Rattle.c_eval.specs.declared.turn.Turn.{Turn}
use Rattle.c_eval.specs.declared.turn.Turn.TheVariants as turn

-- the output and the end that are still to come, and how much work is left at most: none where the run has ended
pub record Running : Type 0 where
  pub rest : CRan
  pub left : ℕ

-- a word before the output of a run
abbrev pub put_first : ℕ → CRan → CRan
put_first word ran = record { output = word ∷ ran.output; end = ran.end }

-- a piece of work leaves the rest; a word that is put out is the first of the rest; an end is that of a rest without output, and stays. Each
-- turn but the last takes work off.
abbrev pub Turned : Turn → Running → Running → Type 0
Turned turn.Working before after = (before.rest ≡ after.rest) × (after.left < before.left)
Turned (turn.Put word) before after = (before.rest ≡ put_first word after.rest) × (after.left < before.left)
Turned (turn.Ended end) before after = (before.rest ≡ record { output = []; end = end }) × (before.left ≡ 0) × (after ≡ before)

-- a turn of a run, none where memory was wanting: then it is wanting in each later turn. It is never wanting where the run has ended.
abbrev pub Answers : Result Turn OutOfMemory → Option Running → Option Running → Type 0
Answers (Ok t) (Some before) (Some after) = Turned t before after
Answers (Ok t) (Some before) None = ⊥
Answers (Ok t) None after = ⊥
Answers (Err e) (Some before) after = (0 < before.left) × (after ≡ None)
Answers (Err e) None after = after ≡ None

-- this is still to come
abbrev pub RestIs : CRan → Option Running → Type 0
RestIs ran (Some running) = running.rest ≡ ran
RestIs ran None = ⊥
