-- What begins a text, by its first bytes, and that a piece is the longest.
use Rattle.std.proofs.Common.{◌≡◌, ◌≢◌, ◌≤◌, ◌<◌, ◌+◌, inl, inr, ℕ, Bool, true, List, length, take, get_or, slice_index, refl, sym, ap, ◌∙◌, subst, arith}
use Rattle.std.proofs.lemmas.Bool.{cases_lt, false≢true}
use Rattle.std.proofs.lemmas.List.{get_or-take, length-take-le}
use Rattle.c_lexer.specs.declared.byte.Class.{Class}
use Rattle.c_lexer.specs.declared.byte.Class.TheVariants.{Blank, Letter, Digit, Other}
use Rattle.c_lexer.specs.declared.piece.Kind.{Kind}
use Rattle.c_lexer.specs.declared.piece.Kind.TheVariants as kinds
use Rattle.c_lexer.specs.declared.token.Punct.{Punct}
use Rattle.c_lexer.specs.Bytes.{class_of, continues, is_space}
use Rattle.c_lexer.specs.Fronts.{IsFront, IsWordByte, IsLineByte, IsFirstClose, HasNoClose, MarksLine, SpellsSign, IsLongestSign}
use Rattle.c_lexer.specs.Pieces.{Begins, IsLongest, HasNoPiece}
use Rattle.c_lexer.specs.Spelling.{sign_spelling}
use Rattle.c_lexer.proofs.Tables.{IsSignLike, sign_spells, one_sign}

-- a front is no shorter than any front of bytes that pass
pub front_covers : {Passes : ℕ → Type 0} {text : List ℕ} {size : ℕ} → IsFront Passes text size → (more : ℕ) → more ≤ length text → ((i : ℕ) → i < more → Passes (slice_index text i)) → more ≤ size
front_covers {Passes} {text} {size} front more fits all = elim (cases_lt size more) [ inl h ↦ absurd (front.stops (omega arith) (all size h)) | inr h ↦ h ]

-- the classes that a first byte may have
abbrev FirstOf : Kind → Class → Type 0
FirstOf (kinds.Blank b) k = k ≡ Blank
FirstOf kinds.LineComment k = k ≡ Other
FirstOf kinds.BlockComment k = k ≡ Other
FirstOf kinds.OpenComment k = k ≡ Other
FirstOf kinds.LineMarker k = k ≡ Other
FirstOf kinds.Word k = k ≡ Letter
FirstOf kinds.Digits k = k ≡ Digit
FirstOf (kinds.Sign sign) k = k ≡ Other

-- what a punctuator at the front says of the first bytes and the size
pub sign_like : (text : List ℕ) (size : ℕ) (sign : Punct) → SpellsSign text size sign → IsSignLike (get_or text 0 0) (get_or (take size text) 1 0) size
sign_like text size sign spells =
    let like = sign_spells sign in
    let sized : length (sign_spelling sign) ≡ size = ap length (sym spells.is) ∙ length-take-le size text spells.fits in
    let like_here : IsSignLike (get_or (sign_spelling sign) 0 0) (get_or (sign_spelling sign) 1 0) size = subst (IsSignLike (get_or (sign_spelling sign) 0 0) (get_or (sign_spelling sign) 1 0)) sized like in
    let first : get_or (sign_spelling sign) 0 0 ≡ get_or text 0 0 = ap (λ s. get_or s 0 0) (sym spells.is) ∙ get_or-take size text 0 0 like_here.some in
    let second : get_or (sign_spelling sign) 1 0 ≡ get_or (take size text) 1 0 = ap (λ s. get_or s 1 0) (sym spells.is) in
    subst (λ b. IsSignLike (get_or text 0 0) b size) second (subst (λ b. IsSignLike b (get_or (sign_spelling sign) 1 0) size) first like_here)

spells_of : (text : List ℕ) (size : ℕ) (sign : Punct) (starts_line : Bool) → Begins starts_line text size (kinds.Sign sign) → SpellsSign text size sign
spells_of text size sign starts_line h = record { fits = h.fits; is = h.form }

byte_class : (b n : ℕ) → b ≡ n → class_of b ≡ class_of n
byte_class b n e = ap class_of e

first_of : (starts_line : Bool) (text : List ℕ) (size : ℕ) (kind : Kind) → Begins starts_line text size kind → FirstOf kind (class_of (get_or text 0 0))
first_of s text size (kinds.Blank b) h = byte_class _ b h.form.is ∙ h.form.blank
first_of s text size kinds.LineComment h = byte_class _ 47 h.form.first
first_of s text size kinds.BlockComment h = byte_class _ 47 h.form.first
first_of s text size kinds.OpenComment h = byte_class _ 47 h.form.first
first_of s text size kinds.LineMarker h = byte_class _ 35 h.form.hash
first_of s text size kinds.Word h = h.form.first
first_of s text size kinds.Digits h = h.form.first
first_of s text size (kinds.Sign sign) h = (sign_like text size sign (spells_of text size sign s h)).other

other_blank : {k : Class} → k ≡ Other → k ≡ Blank → ⊥
other_blank e f = cc

other_letter : {k : Class} → k ≡ Other → k ≡ Letter → ⊥
other_letter e f = cc

other_digit : {k : Class} → k ≡ Other → k ≡ Digit → ⊥
other_digit e f = cc

blank_letter : {k : Class} → k ≡ Blank → k ≡ Letter → ⊥
blank_letter e f = cc

blank_digit : {k : Class} → k ≡ Blank → k ≡ Digit → ⊥
blank_digit e f = cc

letter_digit : {k : Class} → k ≡ Letter → k ≡ Digit → ⊥
letter_digit e f = cc

-- a blank
only_blank : (s : Bool) (text : List ℕ) → class_of (get_or text 0 0) ≡ Blank → (more : ℕ) (kind : Kind) → Begins s text more kind → more ≤ 1
only_blank s text e more (kinds.Blank b) h = omega (arith, h.form.one)
only_blank s text e more kinds.LineComment h = absurd (other_blank (first_of s text more kinds.LineComment h) e)
only_blank s text e more kinds.BlockComment h = absurd (other_blank (first_of s text more kinds.BlockComment h) e)
only_blank s text e more kinds.OpenComment h = absurd (other_blank (first_of s text more kinds.OpenComment h) e)
only_blank s text e more kinds.LineMarker h = absurd (other_blank (first_of s text more kinds.LineMarker h) e)
only_blank s text e more kinds.Word h = absurd (blank_letter e h.form.first)
only_blank s text e more kinds.Digits h = absurd (blank_digit e h.form.first)
only_blank s text e more (kinds.Sign sign) h = absurd (other_blank (first_of s text more (kinds.Sign sign) h) e)

pub longest_blank : (s : Bool) (text : List ℕ) → 0 < length text → class_of (get_or text 0 0) ≡ Blank → IsLongest s text 1 (kinds.Blank (get_or text 0 0))
longest_blank s text some e = record {
  begins = record { fits = omega arith; form = record { one = refl; is = refl; blank = e } };
  longest = only_blank s text e;
}

-- a name or a reserved word
only_word : (s : Bool) (text : List ℕ) (size : ℕ) → class_of (get_or text 0 0) ≡ Letter → IsFront IsWordByte text size → (more : ℕ) (kind : Kind) → Begins s text more kind → more ≤ size
only_word s text size e front more (kinds.Blank b) h = absurd (blank_letter (first_of s text more (kinds.Blank b) h) e)
only_word s text size e front more kinds.LineComment h = absurd (other_letter (first_of s text more kinds.LineComment h) e)
only_word s text size e front more kinds.BlockComment h = absurd (other_letter (first_of s text more kinds.BlockComment h) e)
only_word s text size e front more kinds.OpenComment h = absurd (other_letter (first_of s text more kinds.OpenComment h) e)
only_word s text size e front more kinds.LineMarker h = absurd (other_letter (first_of s text more kinds.LineMarker h) e)
only_word s text size e front more kinds.Word h = front_covers front more h.fits h.form.all
only_word s text size e front more kinds.Digits h = absurd (letter_digit e h.form.first)
only_word s text size e front more (kinds.Sign sign) h = absurd (other_letter (first_of s text more (kinds.Sign sign) h) e)

word_some : (text : List ℕ) (size : ℕ) → 0 < length text → continues (class_of (get_or text 0 0)) ≡ true → IsFront IsWordByte text size → 0 < size
word_some text size some e front = front_covers front 1 some (λ i h. let z : i ≡ 0 = omega arith in subst (λ j. IsWordByte (slice_index text j)) (sym z) e)

pub longest_word : (s : Bool) (text : List ℕ) (size : ℕ) → 0 < length text → class_of (get_or text 0 0) ≡ Letter → IsFront IsWordByte text size → IsLongest s text size kinds.Word
longest_word s text size some e front = record {
  begins = record { fits = front.fits; form = record { some = word_some text size some (ap continues e) front; first = e; all = front.all } };
  longest = only_word s text size e front;
}

-- a number, or what begins as one
only_digits : (s : Bool) (text : List ℕ) (size : ℕ) → class_of (get_or text 0 0) ≡ Digit → IsFront IsWordByte text size → (more : ℕ) (kind : Kind) → Begins s text more kind → more ≤ size
only_digits s text size e front more (kinds.Blank b) h = absurd (blank_digit (first_of s text more (kinds.Blank b) h) e)
only_digits s text size e front more kinds.LineComment h = absurd (other_digit (first_of s text more kinds.LineComment h) e)
only_digits s text size e front more kinds.BlockComment h = absurd (other_digit (first_of s text more kinds.BlockComment h) e)
only_digits s text size e front more kinds.OpenComment h = absurd (other_digit (first_of s text more kinds.OpenComment h) e)
only_digits s text size e front more kinds.LineMarker h = absurd (other_digit (first_of s text more kinds.LineMarker h) e)
only_digits s text size e front more kinds.Word h = absurd (letter_digit h.form.first e)
only_digits s text size e front more kinds.Digits h = front_covers front more h.fits h.form.all
only_digits s text size e front more (kinds.Sign sign) h = absurd (other_digit (first_of s text more (kinds.Sign sign) h) e)

pub longest_digits : (s : Bool) (text : List ℕ) (size : ℕ) → 0 < length text → class_of (get_or text 0 0) ≡ Digit → IsFront IsWordByte text size → IsLongest s text size kinds.Digits
longest_digits s text size some e front = record {
  begins = record { fits = front.fits; form = record { some = word_some text size some (ap continues e) front; first = e; all = front.all } };
  longest = only_digits s text size e front;
}

-- two bytes are one number each
same_byte : {b m n : ℕ} → b ≡ m → b ≡ n → m ≡ n
same_byte e f = sym e ∙ f

-- `//`
pub record IsLineOpen (text : List ℕ) : Type 0 where
  pub two : 2 ≤ length text
  pub first : get_or text 0 0 ≡ 47
  pub second : get_or text 1 0 ≡ 47

slash_other : {b : ℕ} → b ≡ 47 → class_of b ≡ Other
slash_other {b} e = ap class_of e

two_bytes : (text : List ℕ) (a b : ℕ) → get_or text 0 0 ≡ a → get_or text 1 0 ≡ b → a ≢ 10 → b ≢ 10 → (i : ℕ) → i < 2 → IsLineByte (slice_index text i)
two_bytes text a b e f p q i h = elim (cases_lt i 1) [
  | inl l ↦ (let z : i ≡ 0 = omega arith in subst (λ j. IsLineByte (slice_index text j)) (sym z) (λ x. p (sym e ∙ x)))
  | inr l ↦ (let z : i ≡ 1 = omega arith in subst (λ j. IsLineByte (slice_index text j)) (sym z) (λ x. q (sym f ∙ x)))
]

line_two : (text : List ℕ) (size : ℕ) → IsLineOpen text → IsFront IsLineByte text size → 2 ≤ size
line_two text size open_at front = front_covers front 2 open_at.two (two_bytes text 47 47 open_at.first open_at.second (λ e. absurd (omega arith)) (λ e. absurd (omega arith)))

only_line : (s : Bool) (text : List ℕ) (size : ℕ) → IsLineOpen text → IsFront IsLineByte text size → (more : ℕ) (kind : Kind) → Begins s text more kind → more ≤ size
only_line s text size o front more (kinds.Blank b) h = absurd (other_blank (slash_other o.first) (first_of s text more (kinds.Blank b) h))
only_line s text size o front more kinds.LineComment h = front_covers front more h.fits h.form.line
only_line s text size o front more kinds.BlockComment h = absurd (let e : 47 ≡ 42 = same_byte o.second h.form.second in omega arith)
only_line s text size o front more kinds.OpenComment h = absurd (let e : 47 ≡ 42 = same_byte o.second h.form.second in omega arith)
only_line s text size o front more kinds.LineMarker h = front_covers front more h.fits h.form.line
only_line s text size o front more kinds.Word h = absurd (other_letter (slash_other o.first) h.form.first)
only_line s text size o front more kinds.Digits h = absurd (other_digit (slash_other o.first) h.form.first)
only_line s text size o front more (kinds.Sign sign) h =
    let short : more ≤ 2 = (sign_like text more sign (spells_of text more sign s h)).slash o.first in
    let two : 2 ≤ size = line_two text size o front in
    omega arith

pub longest_line : (s : Bool) (text : List ℕ) (size : ℕ) → IsLineOpen text → IsFront IsLineByte text size → IsLongest s text size kinds.LineComment
longest_line s text size o front = record {
  begins = record { fits = front.fits; form = record { two = line_two text size o front; first = o.first; second = o.second; line = front.all } };
  longest = only_line s text size o front;
}

-- `/*`
pub record IsBlockOpen (text : List ℕ) : Type 0 where
  pub two : 2 ≤ length text
  pub first : get_or text 0 0 ≡ 47
  pub second : get_or text 1 0 ≡ 42

only_block : (s : Bool) (text : List ℕ) (at : ℕ) → IsBlockOpen text → IsFirstClose text at → (more : ℕ) (kind : Kind) → Begins s text more kind → more ≤ at + 2
only_block s text at o close more (kinds.Blank b) h = absurd (other_blank (slash_other o.first) (first_of s text more (kinds.Blank b) h))
only_block s text at o close more kinds.LineComment h = absurd (let e : 42 ≡ 47 = same_byte o.second h.form.second in omega arith)
only_block s text at o close more kinds.BlockComment h = elim (cases_lt at h.form.close) [
  | inl l ↦ absurd (h.form.earliest at close.after l close.closes)
  | inr l ↦ omega (arith, h.form.ends)
]
only_block s text at o close more kinds.OpenComment h = elim (cases_lt (at + 1) more) [
  | inl l ↦ absurd (h.form.never at close.after (omega arith) close.closes)
  | inr l ↦ omega arith
]
only_block s text at o close more kinds.LineMarker h = absurd (let e : 47 ≡ 35 = same_byte o.first h.form.hash in omega arith)
only_block s text at o close more kinds.Word h = absurd (other_letter (slash_other o.first) h.form.first)
only_block s text at o close more kinds.Digits h = absurd (other_digit (slash_other o.first) h.form.first)
only_block s text at o close more (kinds.Sign sign) h =
    let short : more ≤ 2 = (sign_like text more sign (spells_of text more sign s h)).slash o.first in
    omega (arith, close.after)

pub longest_block : (s : Bool) (text : List ℕ) (at : ℕ) → IsBlockOpen text → IsFirstClose text at → IsLongest s text (at + 2) kinds.BlockComment
longest_block s text at o close = record {
  begins = record { fits = close.fits; form = record { first = o.first; second = o.second; close = at; after = close.after; ends = refl; closes = close.closes; earliest = close.earliest } };
  longest = only_block s text at o close;
}

pub longest_open : (s : Bool) (text : List ℕ) → IsBlockOpen text → HasNoClose text → IsLongest s text (length text) kinds.OpenComment
longest_open s text o never = record {
  begins = record { fits = omega arith; form = record { two = o.two; first = o.first; second = o.second; never = never } };
  longest = λ more kind h. h.fits;
}

-- a line marker
not_line_feed : (b : ℕ) → is_space b ≡ true → b ≢ 10
not_line_feed b h e = false≢true (subst (λ x. is_space x ≡ true) e h)

digit_no_line_feed : (b : ℕ) → class_of b ≡ Digit → b ≢ 10
digit_no_line_feed b h e = blank_digit (sym (ap class_of (sym e))) h

marker_line : (text : List ℕ) (digit : ℕ) → MarksLine text digit → (i : ℕ) → i < digit + 1 → IsLineByte (slice_index text i)
marker_line text digit m i h = elim (cases_lt i digit) [
  | inl l ↦ elim (cases_lt 0 i) [
    | inl p ↦ not_line_feed (slice_index text i) (m.spaces i p l)
    | inr p ↦ (let z : i ≡ 0 = omega arith in subst (λ j. IsLineByte (slice_index text j)) (sym z) (λ x. let e : 35 ≡ 10 = same_byte m.hash x in omega arith))
  ]
  | inr l ↦ (let z : i ≡ digit = omega arith in subst (λ j. IsLineByte (slice_index text j)) (sym z) (digit_no_line_feed (slice_index text digit) m.is_digit))
]

only_marker : (s : Bool) (text : List ℕ) (size : ℕ) → get_or text 0 0 ≡ 35 → IsFront IsLineByte text size → (more : ℕ) (kind : Kind) → Begins s text more kind → more ≤ size
only_marker s text size e front more (kinds.Blank b) h = absurd (other_blank (ap class_of e) (first_of s text more (kinds.Blank b) h))
only_marker s text size e front more kinds.LineComment h = front_covers front more h.fits h.form.line
only_marker s text size e front more kinds.BlockComment h = absurd (let f : 35 ≡ 47 = same_byte e h.form.first in omega arith)
only_marker s text size e front more kinds.OpenComment h = absurd (let f : 35 ≡ 47 = same_byte e h.form.first in omega arith)
only_marker s text size e front more kinds.LineMarker h = front_covers front more h.fits h.form.line
only_marker s text size e front more kinds.Word h = absurd (other_letter (ap class_of e) h.form.first)
only_marker s text size e front more kinds.Digits h = absurd (other_digit (ap class_of e) h.form.first)
only_marker s text size e front more (kinds.Sign sign) h = absurd ((sign_like text more sign (spells_of text more sign s h)).no_hash e)

pub longest_marker : (text : List ℕ) (size digit : ℕ) → MarksLine text digit → IsFront IsLineByte text size → IsLongest true text size kinds.LineMarker
longest_marker text size digit m front = record {
  begins = record {
    fits = front.fits;
    form = record {
      start = refl;
      hash = m.hash;
      digit = digit;
      after = m.after;
      within = (let covered : digit + 1 ≤ size = front_covers front (digit + 1) (omega (arith, m.within)) (marker_line text digit m) in omega arith);
      spaces = m.spaces;
      is_digit = m.is_digit;
      line = front.all;
    };
  };
  longest = only_marker true text size m.hash front;
}

-- what begins with none of these is a punctuator
pub record IsSignOnly (s : Bool) (text : List ℕ) : Type 0 where
  pub other : class_of (get_or text 0 0) ≡ Other
  pub no_line : IsLineOpen text → ⊥
  pub no_block : IsBlockOpen text → ⊥
  pub no_marker : s ≡ true → (digit : ℕ) → MarksLine text digit → ⊥

-- a kind is that of a punctuator which the text begins with
record IsSignKind (text : List ℕ) (size : ℕ) (kind : Kind) : Type 0 where
  sign : Punct
  kind_is : kind ≡ kinds.Sign sign
  spells : SpellsSign text size sign

sign_kind : (s : Bool) (text : List ℕ) → IsSignOnly s text → (size : ℕ) (kind : Kind) → Begins s text size kind → IsSignKind text size kind
sign_kind s text o size (kinds.Blank b) h = absurd (other_blank o.other (first_of s text size (kinds.Blank b) h))
sign_kind s text o size kinds.LineComment h = absurd (o.no_line (record { two = omega (arith, h.fits, h.form.two); first = h.form.first; second = h.form.second }))
sign_kind s text o size kinds.BlockComment h = absurd (o.no_block (record { two = omega (arith, h.fits, h.form.ends); first = h.form.first; second = h.form.second }))
sign_kind s text o size kinds.OpenComment h = absurd (o.no_block (record { two = omega (arith, h.fits, h.form.two); first = h.form.first; second = h.form.second }))
sign_kind s text o size kinds.LineMarker h = absurd (o.no_marker h.form.start h.form.digit (record { hash = h.form.hash; after = h.form.after; within = omega (arith, h.fits, h.form.within); spaces = h.form.spaces; is_digit = h.form.is_digit }))
sign_kind s text o size kinds.Word h = absurd (other_letter o.other h.form.first)
sign_kind s text o size kinds.Digits h = absurd (other_digit o.other h.form.first)
sign_kind s text o size (kinds.Sign sign) h = record { sign = sign; kind_is = refl; spells = record { fits = h.fits; is = h.form } }

pub longest_sign : (s : Bool) (text : List ℕ) (size : ℕ) (kind : Kind) → IsSignOnly s text → IsLongestSign text size kind → IsLongest s text size kind
longest_sign s text size kind o sign = subst (IsLongest s text size) (sym sign.kind_is) (record {
  begins = record { fits = sign.spells.fits; form = sign.spells.is };
  longest = λ more other h. let k : IsSignKind text more other = sign_kind s text o more other h in sign.longest more k.sign k.spells;
})

pub no_piece : (s : Bool) (text : List ℕ) → IsSignOnly s text → ((size : ℕ) (sign : Punct) → SpellsSign text size sign → ⊥) → HasNoPiece s text
no_piece s text o none = λ size kind h. let k : IsSignKind text size kind = sign_kind s text o size kind h in none size k.sign k.spells

-- the longest of the punctuators that begin a text, by their sizes
at_size : (text : List ℕ) (more size : ℕ) (sign : Punct) → more ≡ size → SpellsSign text more sign → SpellsSign text size sign
at_size text more size sign e h = subst (λ n. SpellsSign text n sign) e h

abbrev HasNoSign : List ℕ → ℕ → Type 0
HasNoSign text size = (sign : Punct) → SpellsSign text size sign → ⊥

pub longest_of_three : (text : List ℕ) (sign : Punct) → SpellsSign text 3 sign → IsLongestSign text 3 (kinds.Sign sign)
longest_of_three text sign h = record { sign = sign; kind_is = refl; spells = h; longest = λ more other g. (sign_like text more other g).few }

pub longest_of_two : (text : List ℕ) (sign : Punct) → HasNoSign text 3 → SpellsSign text 2 sign → IsLongestSign text 2 (kinds.Sign sign)
longest_of_two text sign three h = record {
  sign = sign;
  kind_is = refl;
  spells = h;
  longest = λ more other g.
      let few : more ≤ 3 = (sign_like text more other g).few in
      elim (cases_lt 2 more) [ inl l ↦ absurd (three other (at_size text more 3 other (omega arith) g)) | inr l ↦ l ];
}

pub longest_of_one : (text : List ℕ) (sign : Punct) → HasNoSign text 3 → HasNoSign text 2 → SpellsSign text 1 sign → IsLongestSign text 1 (kinds.Sign sign)
longest_of_one text sign three two h = record {
  sign = sign;
  kind_is = refl;
  spells = h;
  longest = λ more other g.
      let few : more ≤ 3 = (sign_like text more other g).few in
      elim (cases_lt 2 more) [
        | inl l ↦ absurd (three other (at_size text more 3 other (omega arith) g))
        | inr l ↦ elim (cases_lt 1 more) [ inl k ↦ absurd (two other (at_size text more 2 other (omega arith) g)) | inr k ↦ k ]
      ];
}

pub no_sign : (text : List ℕ) → HasNoSign text 3 → HasNoSign text 2 → HasNoSign text 1 → (size : ℕ) (sign : Punct) → SpellsSign text size sign → ⊥
no_sign text three two one size sign g =
    let like : IsSignLike (get_or text 0 0) (get_or (take size text) 1 0) size = sign_like text size sign g in
    elim (cases_lt 2 size) [
      | inl l ↦ three sign (at_size text size 3 sign (omega (arith, like.few)) g)
      | inr l ↦ elim (cases_lt 1 size) [
        | inl k ↦ two sign (at_size text size 2 sign (omega arith) g)
        | inr k ↦ one sign (at_size text size 1 sign (omega (arith, like.some)) g)
      ]
    ]

-- a piece has a byte
pub has_byte : (s : Bool) (text : List ℕ) (size : ℕ) (kind : Kind) → Begins s text size kind → 0 < size
has_byte s text size (kinds.Blank b) h = omega (arith, h.form.one)
has_byte s text size kinds.LineComment h = omega (arith, h.form.two)
has_byte s text size kinds.BlockComment h = omega (arith, h.form.ends)
has_byte s text size kinds.OpenComment h = omega (arith, h.form.two)
has_byte s text size kinds.LineMarker h = omega (arith, h.form.within)
has_byte s text size kinds.Word h = h.form.some
has_byte s text size kinds.Digits h = h.form.some
has_byte s text size (kinds.Sign sign) h = (sign_like text size sign (spells_of text size sign s h)).some

-- a punctuator is no comment and no line marker
sign_no_comment : (s : Bool) (text : List ℕ) (size c : ℕ) (sign : Punct) → Begins s text size (kinds.Sign sign) → get_or text 0 0 ≡ 47 → 2 ≤ size → get_or text 1 0 ≡ c → c ≢ 61 → ⊥
sign_no_comment s text size c sign h first two second other =
    other (sym second ∙ sym (get_or-take size text 1 0 (omega arith)) ∙ (sign_like text size sign (spells_of text size sign s h)).after_slash first two)

no_line : (s : Bool) (text : List ℕ) (size : ℕ) (sign : Punct) → Begins s text size (kinds.Sign sign) → Begins s text size kinds.LineComment → ⊥
no_line s text size sign h g = sign_no_comment s text size 47 sign h g.form.first g.form.two g.form.second (λ e. absurd (omega arith))

no_block : (s : Bool) (text : List ℕ) (size : ℕ) (sign : Punct) → Begins s text size (kinds.Sign sign) → Begins s text size kinds.BlockComment → ⊥
no_block s text size sign h g = sign_no_comment s text size 42 sign h g.form.first (omega (arith, g.form.ends)) g.form.second (λ e. absurd (omega arith))

no_open : (s : Bool) (text : List ℕ) (size : ℕ) (sign : Punct) → Begins s text size (kinds.Sign sign) → Begins s text size kinds.OpenComment → ⊥
no_open s text size sign h g = sign_no_comment s text size 42 sign h g.form.first g.form.two g.form.second (λ e. absurd (omega arith))

no_marker : (s : Bool) (text : List ℕ) (size : ℕ) (sign : Punct) → Begins s text size (kinds.Sign sign) → Begins s text size kinds.LineMarker → ⊥
no_marker s text size sign h g = (sign_like text size sign (spells_of text size sign s h)).no_hash g.form.hash

line_block : {b : ℕ} → b ≡ 47 → b ≡ 42 → ⊥
line_block {b} e f = let g : ◌≡◌ {A = ℕ} 47 42 = same_byte {b = b} e f in omega arith

slash_hash : {b : ℕ} → b ≡ 47 → b ≡ 35 → ⊥
slash_hash {b} e f = let g : ◌≡◌ {A = ℕ} 47 35 = same_byte {b = b} e f in omega arith

block_open : (s : Bool) (text : List ℕ) (size : ℕ) → Begins s text size kinds.BlockComment → Begins s text size kinds.OpenComment → ⊥
block_open s text size h g = g.form.never h.form.close h.form.after (omega (arith, h.form.ends)) h.form.closes

-- pieces of one size have one kind
pub same_kind : (s : Bool) (text : List ℕ) (size : ℕ) (kind other : Kind) → Begins s text size kind → Begins s text size other → kind ≡ other
same_kind s text size (kinds.Blank b) (kinds.Blank c) h g = ap kinds.Blank (sym h.form.is ∙ g.form.is)
same_kind s text size (kinds.Blank b) kinds.LineComment h g = absurd (other_blank (first_of s text size kinds.LineComment g) (first_of s text size (kinds.Blank b) h))
same_kind s text size (kinds.Blank b) kinds.BlockComment h g = absurd (other_blank (first_of s text size kinds.BlockComment g) (first_of s text size (kinds.Blank b) h))
same_kind s text size (kinds.Blank b) kinds.OpenComment h g = absurd (other_blank (first_of s text size kinds.OpenComment g) (first_of s text size (kinds.Blank b) h))
same_kind s text size (kinds.Blank b) kinds.LineMarker h g = absurd (other_blank (first_of s text size kinds.LineMarker g) (first_of s text size (kinds.Blank b) h))
same_kind s text size (kinds.Blank b) kinds.Word h g = absurd (blank_letter (first_of s text size (kinds.Blank b) h) (first_of s text size kinds.Word g))
same_kind s text size (kinds.Blank b) kinds.Digits h g = absurd (blank_digit (first_of s text size (kinds.Blank b) h) (first_of s text size kinds.Digits g))
same_kind s text size (kinds.Blank b) (kinds.Sign p) h g = absurd (other_blank (first_of s text size (kinds.Sign p) g) (first_of s text size (kinds.Blank b) h))
same_kind s text size kinds.LineComment (kinds.Blank b) h g = absurd (other_blank (first_of s text size kinds.LineComment h) (first_of s text size (kinds.Blank b) g))
same_kind s text size kinds.LineComment kinds.LineComment h g = refl
same_kind s text size kinds.LineComment kinds.BlockComment h g = absurd (line_block h.form.second g.form.second)
same_kind s text size kinds.LineComment kinds.OpenComment h g = absurd (line_block h.form.second g.form.second)
same_kind s text size kinds.LineComment kinds.LineMarker h g = absurd (slash_hash h.form.first g.form.hash)
same_kind s text size kinds.LineComment kinds.Word h g = absurd (other_letter (first_of s text size kinds.LineComment h) (first_of s text size kinds.Word g))
same_kind s text size kinds.LineComment kinds.Digits h g = absurd (other_digit (first_of s text size kinds.LineComment h) (first_of s text size kinds.Digits g))
same_kind s text size kinds.LineComment (kinds.Sign p) h g = absurd (no_line s text size p g h)
same_kind s text size kinds.BlockComment (kinds.Blank b) h g = absurd (other_blank (first_of s text size kinds.BlockComment h) (first_of s text size (kinds.Blank b) g))
same_kind s text size kinds.BlockComment kinds.LineComment h g = absurd (line_block g.form.second h.form.second)
same_kind s text size kinds.BlockComment kinds.BlockComment h g = refl
same_kind s text size kinds.BlockComment kinds.OpenComment h g = absurd (block_open s text size h g)
same_kind s text size kinds.BlockComment kinds.LineMarker h g = absurd (slash_hash h.form.first g.form.hash)
same_kind s text size kinds.BlockComment kinds.Word h g = absurd (other_letter (first_of s text size kinds.BlockComment h) (first_of s text size kinds.Word g))
same_kind s text size kinds.BlockComment kinds.Digits h g = absurd (other_digit (first_of s text size kinds.BlockComment h) (first_of s text size kinds.Digits g))
same_kind s text size kinds.BlockComment (kinds.Sign p) h g = absurd (no_block s text size p g h)
same_kind s text size kinds.OpenComment (kinds.Blank b) h g = absurd (other_blank (first_of s text size kinds.OpenComment h) (first_of s text size (kinds.Blank b) g))
same_kind s text size kinds.OpenComment kinds.LineComment h g = absurd (line_block g.form.second h.form.second)
same_kind s text size kinds.OpenComment kinds.BlockComment h g = absurd (block_open s text size g h)
same_kind s text size kinds.OpenComment kinds.OpenComment h g = refl
same_kind s text size kinds.OpenComment kinds.LineMarker h g = absurd (slash_hash h.form.first g.form.hash)
same_kind s text size kinds.OpenComment kinds.Word h g = absurd (other_letter (first_of s text size kinds.OpenComment h) (first_of s text size kinds.Word g))
same_kind s text size kinds.OpenComment kinds.Digits h g = absurd (other_digit (first_of s text size kinds.OpenComment h) (first_of s text size kinds.Digits g))
same_kind s text size kinds.OpenComment (kinds.Sign p) h g = absurd (no_open s text size p g h)
same_kind s text size kinds.LineMarker (kinds.Blank b) h g = absurd (other_blank (first_of s text size kinds.LineMarker h) (first_of s text size (kinds.Blank b) g))
same_kind s text size kinds.LineMarker kinds.LineComment h g = absurd (slash_hash g.form.first h.form.hash)
same_kind s text size kinds.LineMarker kinds.BlockComment h g = absurd (slash_hash g.form.first h.form.hash)
same_kind s text size kinds.LineMarker kinds.OpenComment h g = absurd (slash_hash g.form.first h.form.hash)
same_kind s text size kinds.LineMarker kinds.LineMarker h g = refl
same_kind s text size kinds.LineMarker kinds.Word h g = absurd (other_letter (first_of s text size kinds.LineMarker h) (first_of s text size kinds.Word g))
same_kind s text size kinds.LineMarker kinds.Digits h g = absurd (other_digit (first_of s text size kinds.LineMarker h) (first_of s text size kinds.Digits g))
same_kind s text size kinds.LineMarker (kinds.Sign p) h g = absurd (no_marker s text size p g h)
same_kind s text size kinds.Word (kinds.Blank b) h g = absurd (blank_letter (first_of s text size (kinds.Blank b) g) (first_of s text size kinds.Word h))
same_kind s text size kinds.Word kinds.LineComment h g = absurd (other_letter (first_of s text size kinds.LineComment g) (first_of s text size kinds.Word h))
same_kind s text size kinds.Word kinds.BlockComment h g = absurd (other_letter (first_of s text size kinds.BlockComment g) (first_of s text size kinds.Word h))
same_kind s text size kinds.Word kinds.OpenComment h g = absurd (other_letter (first_of s text size kinds.OpenComment g) (first_of s text size kinds.Word h))
same_kind s text size kinds.Word kinds.LineMarker h g = absurd (other_letter (first_of s text size kinds.LineMarker g) (first_of s text size kinds.Word h))
same_kind s text size kinds.Word kinds.Word h g = refl
same_kind s text size kinds.Word kinds.Digits h g = absurd (letter_digit (first_of s text size kinds.Word h) (first_of s text size kinds.Digits g))
same_kind s text size kinds.Word (kinds.Sign p) h g = absurd (other_letter (first_of s text size (kinds.Sign p) g) (first_of s text size kinds.Word h))
same_kind s text size kinds.Digits (kinds.Blank b) h g = absurd (blank_digit (first_of s text size (kinds.Blank b) g) (first_of s text size kinds.Digits h))
same_kind s text size kinds.Digits kinds.LineComment h g = absurd (other_digit (first_of s text size kinds.LineComment g) (first_of s text size kinds.Digits h))
same_kind s text size kinds.Digits kinds.BlockComment h g = absurd (other_digit (first_of s text size kinds.BlockComment g) (first_of s text size kinds.Digits h))
same_kind s text size kinds.Digits kinds.OpenComment h g = absurd (other_digit (first_of s text size kinds.OpenComment g) (first_of s text size kinds.Digits h))
same_kind s text size kinds.Digits kinds.LineMarker h g = absurd (other_digit (first_of s text size kinds.LineMarker g) (first_of s text size kinds.Digits h))
same_kind s text size kinds.Digits kinds.Word h g = absurd (letter_digit (first_of s text size kinds.Word g) (first_of s text size kinds.Digits h))
same_kind s text size kinds.Digits kinds.Digits h g = refl
same_kind s text size kinds.Digits (kinds.Sign p) h g = absurd (other_digit (first_of s text size (kinds.Sign p) g) (first_of s text size kinds.Digits h))
same_kind s text size (kinds.Sign p) (kinds.Blank b) h g = absurd (other_blank (first_of s text size (kinds.Sign p) h) (first_of s text size (kinds.Blank b) g))
same_kind s text size (kinds.Sign p) kinds.LineComment h g = absurd (no_line s text size p h g)
same_kind s text size (kinds.Sign p) kinds.BlockComment h g = absurd (no_block s text size p h g)
same_kind s text size (kinds.Sign p) kinds.OpenComment h g = absurd (no_open s text size p h g)
same_kind s text size (kinds.Sign p) kinds.LineMarker h g = absurd (no_marker s text size p h g)
same_kind s text size (kinds.Sign p) kinds.Word h g = absurd (other_letter (first_of s text size (kinds.Sign p) h) (first_of s text size kinds.Word g))
same_kind s text size (kinds.Sign p) kinds.Digits h g = absurd (other_digit (first_of s text size (kinds.Sign p) h) (first_of s text size kinds.Digits g))
same_kind s text size (kinds.Sign p) (kinds.Sign q) h g = ap kinds.Sign (one_sign p q (sym h.form ∙ g.form))
