-- A text of numbers: its words, what is wrong with them, and what they stand for.
use Rattle.std.specs.Prelude.{ℕ, ◌≡◌, ◌+◌, ◌==◌, ◌||◌, ◌⊎◌, nat_lt, Bool, if◌then◌else◌, Option, Some, None, Result, Ok, Err, List, [], ◌∷◌, ◌++◌, length}
use Rattle.std.specs.List.{slice_split, flat_map}
use Rattle.hard_lines.specs.declared.inputs.LinesError.{LinesError}
use Rattle.hard_lines.specs.declared.inputs.LinesError.TheVariants.{BadNumber, TooMany, OutOfMemory}
use Rattle.hard_lines.specs.Numbers.{value_of}

-- a space, a tab, a carriage return or a line feed
abbrev pub is_blank : ℕ → Bool
is_blank b = (b == 32) || ((b == 9) || ((b == 13) || (b == 10)))

abbrev pub is_line_feed : ℕ → Bool
is_line_feed b = b == 10

-- a word and the number of its line
pub record Placed : Type 0 where
  pub line : ℕ
  pub text : List ℕ

-- a piece between two blanks as a word, if it has any bytes
abbrev pub placed_piece : ℕ → List ℕ → List Placed
placed_piece line piece = if length piece == 0 then [] else record { line = line; text = piece } ∷ []

-- the words of a line: the pieces between its blanks
abbrev pub placed_line : ℕ → List ℕ → List Placed
placed_line line text = flat_map (placed_piece line) (slice_split is_blank text)

-- the words of lines, of which the first has this number
abbrev pub placed_lines : ℕ → List (List ℕ) → List Placed
placed_lines line [] = []
placed_lines line (text ∷ texts) = placed_line line text ++ placed_lines (line + 1) texts

-- the words of a text, each with the number of its line, counted from 1
abbrev pub placed : List ℕ → List Placed
placed text = placed_lines 1 (slice_split is_line_feed text)

abbrev pub faults_of_value : ℕ → Option ℕ → List LinesError
faults_of_value line None = BadNumber line ∷ []
faults_of_value line (Some value) = []

-- what is wrong with a word that stands behind so many others
abbrev pub faults_at : ℕ → Placed → List LinesError
faults_at before word = if nat_lt before 1000000 then faults_of_value word.line (value_of word.text) else TooMany ∷ []

-- all that is wrong with words that stand behind so many others, in reading order
abbrev pub faults : ℕ → List Placed → List LinesError
faults before [] = []
faults before (word ∷ words) = faults_at before word ++ faults (before + 1) words

abbrev pub listed : Option ℕ → List ℕ
listed None = []
listed (Some value) = value ∷ []

-- the numbers that words stand for
abbrev pub values : List Placed → List ℕ
values words = flat_map (λ word. listed (value_of word.text)) words

abbrev pub unless_faulty : List LinesError → List ℕ → Result (List ℕ) LinesError
unless_faulty [] numbers = Ok numbers
unless_faulty (first ∷ others) numbers = Err first

-- What a text of numbers stands for: its numbers, or the first fault in reading order.
abbrev pub inputs : List ℕ → Result (List ℕ) LinesError
inputs text = unless_faulty (faults 0 (placed text)) (values (placed text))

-- words that are numbers, taken behind others
pub record Took (words : List Placed) (old new : List ℕ) : Type 0 where
  pub clean : faults (length old) words ≡ []
  pub appended : new ≡ old ++ values words

-- the reason why words are not taken: there was no memory, or it is their first fault
abbrev pub IsRefused : List Placed → List ℕ → LinesError → Type 0
IsRefused words old error = (error ≡ OutOfMemory) ⊎ ((others : List LinesError) × (faults (length old) words ≡ error ∷ others))
