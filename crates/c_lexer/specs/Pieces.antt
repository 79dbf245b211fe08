-- What a text is cut into: its tokens as they are before they have a meaning (ISO/IEC 9899 clause 6.4), and what stands between them.
use Rattle.std.specs.Prelude.{ℕ, ◌≡◌, ◌≢◌, ◌≤◌, ◌<◌, ◌+◌, List, Bool, true, length, take, slice_index}
use Rattle.c_lexer.specs.declared.byte.Class.TheVariants as classes
use Rattle.c_lexer.specs.declared.piece.Kind.{Kind}
use Rattle.c_lexer.specs.declared.piece.Kind.TheVariants as kinds
use Rattle.c_lexer.specs.Bytes.{class_of, continues, is_space}
use Rattle.c_lexer.specs.Spelling.{sign_spelling}

-- Each record says that the first `size` bytes of a text are a piece of one kind.

-- a name or a reserved word: a letter or `_`, then letters, digits and `_` (clause 6.4.2.1)
pub record IsWord (text : List ℕ) (size : ℕ) : Type 0 where
  pub some : 0 < size
  pub first : class_of (slice_index text 0) ≡ classes.Letter
  pub all : (i : ℕ) → i < size → continues (class_of (slice_index text i)) ≡ true

-- a number, or what is no number but begins as one: a digit, then letters, digits and `_` (clause 6.4.8 without `.` and signs)
pub record IsDigits (text : List ℕ) (size : ℕ) : Type 0 where
  pub some : 0 < size
  pub first : class_of (slice_index text 0) ≡ classes.Digit
  pub all : (i : ℕ) → i < size → continues (class_of (slice_index text i)) ≡ true

-- none of the bytes is a line feed
abbrev pub IsOnLine : List ℕ → ℕ → Type 0
IsOnLine text size = (i : ℕ) → i < size → slice_index text i ≢ 10

-- `//`, then bytes of the same line (clause 6.4.9)
pub record IsLineComment (text : List ℕ) (size : ℕ) : Type 0 where
  pub two : 2 ≤ size
  pub first : slice_index text 0 ≡ 47
  pub second : slice_index text 1 ≡ 47
  pub line : IsOnLine text size

-- `*/` at a place
pub record ClosesAt (text : List ℕ) (at : ℕ) : Type 0 where
  pub star : slice_index text at ≡ 42
  pub slash : slice_index text (at + 1) ≡ 47

-- `/*`, then bytes up to the first `*/` after it (clause 6.4.9)
pub record IsBlockComment (text : List ℕ) (size : ℕ) : Type 0 where
  pub first : slice_index text 0 ≡ 47
  pub second : slice_index text 1 ≡ 42
  pub close : ℕ
  pub after : 2 ≤ close
  pub ends : size ≡ close + 2
  pub closes : ClosesAt text close
  pub earliest : (i : ℕ) → 2 ≤ i → i < close → ClosesAt text i → ⊥

-- `/*`, then bytes with no `*/` among them
pub record IsOpenComment (text : List ℕ) (size : ℕ) : Type 0 where
  pub two : 2 ≤ size
  pub first : slice_index text 0 ≡ 47
  pub second : slice_index text 1 ≡ 42
  pub never : (i : ℕ) → 2 ≤ i → i + 2 ≤ size → ClosesAt text i → ⊥

-- `#` at the start of a line, spaces and tabs, a digit, then bytes of the same line: where the text comes from, as preprocessors mark it
pub record IsLineMarker (starts_line : Bool) (text : List ℕ) (size : ℕ) : Type 0 where
  pub start : starts_line ≡ true
  pub hash : slice_index text 0 ≡ 35
  pub digit : ℕ
  pub after : 0 < digit
  pub within : digit < size
  pub spaces : (i : ℕ) → 0 < i → i < digit → is_space (slice_index text i) ≡ true
  pub is_digit : class_of (slice_index text digit) ≡ classes.Digit
  pub line : IsOnLine text size

-- one blank, which is this byte
pub record IsBlankByte (text : List ℕ) (size byte : ℕ) : Type 0 where
  pub one : size ≡ 1
  pub is : slice_index text 0 ≡ byte
  pub blank : class_of byte ≡ classes.Blank

-- the first `size` bytes are a piece of this kind, where the flag says whether only spaces and tabs stand before them on their line
abbrev pub HasForm : Bool → List ℕ → ℕ → Kind → Type 0
HasForm starts_line text size (kinds.Blank byte) = IsBlankByte text size byte
HasForm starts_line text size kinds.LineComment = IsLineComment text size
HasForm starts_line text size kinds.BlockComment = IsBlockComment text size
HasForm starts_line text size kinds.OpenComment = IsOpenComment text size
HasForm starts_line text size kinds.LineMarker = IsLineMarker starts_line text size
HasForm starts_line text size kinds.Word = IsWord text size
HasForm starts_line text size kinds.Digits = IsDigits text size
HasForm starts_line text size (kinds.Sign sign) = take size text ≡ sign_spelling sign

-- a piece of this kind and size begins the text
pub record Begins (starts_line : Bool) (text : List ℕ) (size : ℕ) (kind : Kind) : Type 0 where
  pub fits : size ≤ length text
  pub form : HasForm starts_line text size kind

-- a piece of this kind and size begins the text, and no longer piece of any kind does (clause 6.4, paragraph 4)
pub record IsLongest (starts_line : Bool) (text : List ℕ) (size : ℕ) (kind : Kind) : Type 0 where
  pub begins : Begins starts_line text size kind
  pub longest : (more : ℕ) (other : Kind) → Begins starts_line text more other → more ≤ size

-- no piece begins the text
abbrev pub HasNoPiece : Bool → List ℕ → Type 0
HasNoPiece starts_line text = (size : ℕ) (kind : Kind) → Begins starts_line text size kind → ⊥
