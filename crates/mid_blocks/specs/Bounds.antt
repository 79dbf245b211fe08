-- What holds in every state of every run of a program in blocks that the passes below may rest on.
use Rattle.std.specs.Prelude.{◌≡◌, ℕ, ◌<◌, ◌≤◌, List, ◌∷◌, map, sum, length, Option, Some, None, IsSome, slice_get}
use Rattle.std.specs.List.{AllByRecursion}
use Rattle.hard_words.specs.Words.{AreWords}
use Rattle.mid_blocks.specs.declared.code.MidStep.TheVariants.{Load, Store}
use Rattle.mid_blocks.specs.declared.code.MidFunction.{MidFunction}
use Rattle.mid_blocks.specs.declared.code.Mid.{Mid}
use Rattle.mid_blocks.specs.Lines.{Line, Step, line_reads}
use Rattle.mid_blocks.specs.Run.{BlockState, Variables, index_in, global_in, next_line, block_state}

-- the pairs of a function that may be there
abbrev pub pairs_of : Option MidFunction → ℕ
pairs_of None = 0
pairs_of (Some f) = f.pairs

-- the pairs of the active calls together
abbrev pub pairs_now : Mid → BlockState → ℕ
pairs_now mid s = sum (map (λ call. pairs_of (slice_get mid.functions call.function)) (s.current ∷ s.callers))

-- in every state, for every input, the pairs of the active calls add up to at most `chain_pairs`
abbrev pub Shallow : Mid → Type 0
Shallow mid = (input : List ℕ) (n : ℕ) → AreWords input → pairs_now mid (block_state mid input n) ≤ mid.chain_pairs

-- the word of a global that a step loads or stores is there
abbrev pub IndexFits : Line → Variables → List (List ℕ) → Type 0
IndexFits (Step (Load to global index)) variables globals = index_in variables index < length (global_in globals global)
IndexFits (Step (Store global index from)) variables globals = index_in variables index < length (global_in globals global)
IndexFits line variables globals = Unit {0}

-- what a line reads has been written in its call, or is a parameter
pub record ProperLine (line : Line) (variables : Variables) (globals : List (List ℕ)) : Type 0 where
  pub reads_written : AllByRecursion (λ v. IsSome (variables v)) (line_reads line)
  pub index_fits : IndexFits line variables globals

-- in every state, for every input, that is so of the line that comes next
abbrev pub Proper : Mid → Type 0
Proper mid = (input : List ℕ) (n : ℕ) (line : Line) → AreWords input → (block_state mid input n).end ≡ None →
    next_line mid (block_state mid input n) ≡ Some line → ProperLine line (block_state mid input n).current.variables (block_state mid input n).globals
