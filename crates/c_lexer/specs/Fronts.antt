-- How far a front of a text goes, in the words of the functions that look for its end.
use Rattle.std.specs.Prelude.{ℕ, ◌≡◌, ◌≢◌, ◌≤◌, ◌<◌, ◌+◌, List, true, length, take, slice_index}
use Rattle.c_lexer.specs.declared.byte.Class.TheVariants as classes
use Rattle.c_lexer.specs.declared.piece.Kind.{Kind}
use Rattle.c_lexer.specs.declared.piece.Kind.TheVariants as kinds
use Rattle.c_lexer.specs.declared.token.Punct.{Punct}
use Rattle.c_lexer.specs.Bytes.{class_of, continues, is_space}
use Rattle.c_lexer.specs.Pieces.{ClosesAt}
use Rattle.c_lexer.specs.Spelling.{sign_spelling}

-- the first `size` bytes pass, and the byte after them, if there is one, does not
pub record IsFront (Passes : ℕ → Type 0) (text : List ℕ) (size : ℕ) : Type 0 where
  pub fits : size ≤ length text
  pub all : (i : ℕ) → i < size → Passes (slice_index text i)
  pub stops : size < length text → Passes (slice_index text size) → ⊥

-- goes on with a name or a number
abbrev pub IsWordByte : ℕ → Type 0
IsWordByte b = continues (class_of b) ≡ true

-- is no line feed
abbrev pub IsLineByte : ℕ → Type 0
IsLineByte b = b ≢ 10

-- the first `*/` from place 2 on stands at `at`
pub record IsFirstClose (text : List ℕ) (at : ℕ) : Type 0 where
  pub after : 2 ≤ at
  pub fits : at + 2 ≤ length text
  pub closes : ClosesAt text at
  pub earliest : (i : ℕ) → 2 ≤ i → i < at → ClosesAt text i → ⊥

-- no `*/` stands from place 2 on
abbrev pub HasNoClose : List ℕ → Type 0
HasNoClose text = (i : ℕ) → 2 ≤ i → i + 2 ≤ length text → ClosesAt text i → ⊥

-- spaces and tabs stand from a place up to another, where none stands
pub record AreSpaces (text : List ℕ) (from to : ℕ) : Type 0 where
  pub forward : from ≤ to
  pub fits : to ≤ length text
  pub all : (i : ℕ) → from ≤ i → i < to → is_space (slice_index text i) ≡ true
  pub stops : to < length text → is_space (slice_index text to) ≡ true → ⊥

-- a `#`, spaces and tabs, and a digit at the place
pub record MarksLine (text : List ℕ) (digit : ℕ) : Type 0 where
  pub hash : slice_index text 0 ≡ 35
  pub after : 0 < digit
  pub within : digit < length text
  pub spaces : (i : ℕ) → 0 < i → i < digit → is_space (slice_index text i) ≡ true
  pub is_digit : class_of (slice_index text digit) ≡ classes.Digit

-- the first `size` bytes spell a punctuator
pub record SpellsSign (text : List ℕ) (size : ℕ) (sign : Punct) : Type 0 where
  pub fits : size ≤ length text
  pub is : take size text ≡ sign_spelling sign

-- the piece is a punctuator, and no longer one begins the text
pub record IsLongestSign (text : List ℕ) (size : ℕ) (kind : Kind) : Type 0 where
  pub sign : Punct
  pub kind_is : kind ≡ kinds.Sign sign
  pub spells : SpellsSign text size sign
  pub longest : (more : ℕ) (other : Punct) → SpellsSign text more other → more ≤ size
