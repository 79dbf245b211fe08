-- Each text has a result.
use Rattle.std.proofs.Common.{◌≡◌, ◌≤◌, ◌<◌, ◌+◌, ◌-◌, ◌==◌, ◌||◌, ◌⊎◌, inl, inr, ℕ, zero, suc, Bool, true, false, List, [], ◌∷◌, length, take, drop, get_or, slice_index, Result, Ok, Err, refl, sym, ap, ◌∙◌, subst, arith, bytes_eq}
use Rattle.std.proofs.lemmas.Bool.{cases_lt, cases_Bool, false≢true}
use Rattle.std.proofs.lemmas.Bool.Decides.{Decides-eqb}
use Rattle.std.proofs.lemmas.List.{length-drop, length-take-le}
use Rattle.std.proofs.lemmas.Slice.Eq.{bytes_eq-Decides}
use Rattle.c_lexer.specs.declared.byte.Class.{Class}
use Rattle.c_lexer.specs.declared.byte.Class.TheVariants.{Blank, Letter, Digit, Other}
use Rattle.c_lexer.specs.declared.constant.Base.{Base}
use Rattle.c_lexer.specs.declared.constant.Base.TheVariants.{Decimal, Octal, Hexadecimal}
use Rattle.c_lexer.specs.declared.error.LexError.{LexError}
use Rattle.c_lexer.specs.declared.error.LexError.TheVariants.{BadToken, CommentOpen, LiteralTooLarge}
use Rattle.c_lexer.specs.declared.meaning.Meaning.{Meaning}
use Rattle.c_lexer.specs.declared.meaning.Meaning.TheVariants.{Skipped, Is, Wrong}
use Rattle.c_lexer.specs.declared.piece.Kind.{Kind}
use Rattle.c_lexer.specs.declared.piece.Kind.TheVariants as kinds
use Rattle.c_lexer.specs.declared.spelling.TheConstants.{KEYWORDS, PUNCTS}
use Rattle.c_lexer.specs.declared.token.Keyword.{Keyword}
use Rattle.c_lexer.specs.declared.token.Punct.{Punct}
use Rattle.c_lexer.specs.declared.token.Token.{Token}
use Rattle.c_lexer.specs.declared.token.TokenKind.TheVariants as tokens
use Rattle.c_lexer.specs.Bytes.{class_of, continues, is_space, line_after}
use Rattle.c_lexer.specs.Constants.{HasMark, IsConstant, IsSplit, behind_mark, digit_worth, greatest, is_suffix, is_unsigned, radix, worth}
use Rattle.c_lexer.specs.Fronts.{AreSpaces, HasNoClose, IsFirstClose, IsFront, IsLineByte, IsLongestSign, IsWordByte, MarksLine, SpellsSign}
use Rattle.c_lexer.specs.Pieces.{ClosesAt, HasNoPiece, IsLongest}
use Rattle.c_lexer.specs.Spelling.{sign_spelling, word_spelling}
use Rattle.c_lexer.specs.Tokens.{HasSomeResult, Means, blank, line_comment, block_comment, line_marker, open_comment, sign, reserved, name, number, too_large, no_number, TokensFrom, done, no_piece, piece, GoesOn, skipped, token, fault, names_after, number_of, with_front, first_names}
use Rattle.c_lexer.proofs.Longest.{IsBlockOpen, IsLineOpen, IsSignOnly, has_byte, longest_blank, longest_block, longest_digits, longest_line, longest_marker, longest_of_one, longest_of_three, longest_of_two, longest_open, longest_sign, longest_word, no_sign}
use Rattle.c_lexer.proofs.Longest
use Rattle.c_lexer.proofs.Splits.{split_here, split_is}
use Rattle.c_lexer.proofs.Tables.{sign_stands, word_stands}

-- it holds, or it does not
abbrev Decided : Type 0 → Type 0
Decided P = P ⊎ (P → ⊥)

same_number : (a b : ℕ) → Decided (a ≡ b)
same_number a b = elim (cases_lt a b) [
  | inl l ↦ inr (λ e. omega arith)
  | inr l ↦ elim (cases_lt b a) [ inl m ↦ inr (λ e. omega arith) | inr m ↦ inl (omega arith) ]
]

is_true : (b : Bool) → Decided (b ≡ true)
is_true true = inl refl
is_true false = inr (λ e. false≢true e)

both : {P Q : Type 0} → Decided P → Decided Q → Decided (P × Q)
both (inl p) (inl q) = inl (p, q)
both (inl p) (inr q) = inr (λ h. q h.1)
both (inr p) q = inr (λ h. p h.0)

any : {P Q : Type 0} → Decided P → Decided Q → Decided (P ⊎ Q)
any (inl p) q = inl (inl p)
any (inr p) (inl q) = inl (inr q)
any (inr p) (inr q) = inr (elim [ inl x ↦ p x | inr x ↦ q x ])

not_so : {P : Type 0} → Decided P → Decided (P → ⊥)
not_so (inl p) = inr (λ f. f p)
not_so (inr p) = inl p

-- The front of a text whose bytes pass.
module _ (Passes : ℕ → Type 0) (test : (b : ℕ) → Decided (Passes b)) (text : List ℕ) where
  front_from : (fuel size : ℕ) → size + fuel ≡ length text → ((i : ℕ) → i < size → Passes (slice_index text i)) → (n : ℕ) × IsFront Passes text n
  front_from zero size e all = (size, record { fits = omega arith; all = all; stops = λ l. absurd (omega arith) })
  front_from (suc fuel) size e all = elim (test (slice_index text size)) [
    | inl p ↦ front_from fuel (size + 1) (omega arith) (λ i l. elim (cases_lt i size) [
      | inl k ↦ all i k
      | inr k ↦ (let here : i ≡ size = omega arith in subst (λ j. Passes (slice_index text j)) (sym here) p)
    ])
    | inr q ↦ (size, record { fits = omega arith; all = all; stops = λ l. q })
  ]

  front : (n : ℕ) × IsFront Passes text n
  front = front_from (length text) 0 (omega arith) (λ i l. absurd (omega arith))

word_byte : (b : ℕ) → Decided (IsWordByte b)
word_byte b = is_true (continues (class_of b))

line_byte : (b : ℕ) → Decided (IsLineByte b)
line_byte b = not_so (same_number b 10)

-- what a number has behind another
behind : (m n : ℕ) → m ≤ n → (k : ℕ) × (m + k ≡ n)
behind m n l = (n - m, omega arith)

-- Where a comment ends.
closes : (text : List ℕ) (at : ℕ) → Decided (ClosesAt text at)
closes text at = elim (both (same_number (slice_index text at) 42) (same_number (slice_index text (at + 1)) 47)) [
  | inl h ↦ inl (record { star = h.0; slash = h.1 })
  | inr h ↦ inr (λ c. h (c.star, c.slash))
]

module _ (text : List ℕ) where
  close_from : (fuel at : ℕ) → 2 ≤ at → at + fuel ≡ length text → ((i : ℕ) → 2 ≤ i → i < at → ClosesAt text i → ⊥) → ((n : ℕ) × IsFirstClose text n) ⊎ HasNoClose text
  close_from zero at two e none = inr (λ i l m. none i l (omega arith))
  close_from (suc fuel) at two e none = elim (cases_lt (at + 1) (length text)) [
    | inl l ↦ elim (closes text at) [
      | inl c ↦ inl (at, record { after = two; fits = omega arith; closes = c; earliest = none })
      | inr c ↦ close_from fuel (at + 1) (omega arith) (omega arith) (λ i m n. elim (cases_lt i at) [
        | inl k ↦ none i m k
        | inr k ↦ (let here : i ≡ at = omega arith in subst (λ j. ClosesAt text j → ⊥) (sym here) c)
      ])
    ]
    | inr l ↦ inr (λ i m n. none i m (omega arith))
  ]

  first_close : 2 ≤ length text → ((n : ℕ) × IsFirstClose text n) ⊎ HasNoClose text
  first_close two = (let f = behind 2 (length text) two in close_from f.0 2 (omega arith) f.1 (λ i l m. absurd (omega arith)))

-- A line marker: its digit is the first byte behind `#` that is neither a space nor a tab.
space_byte : (b : ℕ) → Decided (is_space b ≡ true)
space_byte b = is_true (is_space b)

one_of : (a b : Bool) → (a || b) ≡ true → (a ≡ true) ⊎ (b ≡ true)
one_of true b h = inl refl
one_of false b h = inr h

blank_digit : Blank ≡ Digit → ⊥
blank_digit e = cc

space_no_digit : (b : ℕ) → is_space b ≡ true → class_of b ≡ Digit → ⊥
space_no_digit b h e = elim (one_of (b == 32) (b == 9) h) [
  | inl s ↦ blank_digit (sym (ap class_of ((Decides-eqb b 32).0 s)) ∙ e)
  | inr t ↦ blank_digit (sym (ap class_of ((Decides-eqb b 9).0 t)) ∙ e)
]

is_class_digit : (k : Class) → Decided (k ≡ Digit)
is_class_digit Digit = inl refl
is_class_digit Blank = inr (λ e. cc)
is_class_digit Letter = inr (λ e. cc)
is_class_digit Other = inr (λ e. cc)

module _ (text : List ℕ) where
  spaces_from : (fuel from at : ℕ) → from ≤ at → at + fuel ≡ length text → ((i : ℕ) → from ≤ i → i < at → is_space (slice_index text i) ≡ true) → (to : ℕ) × AreSpaces text from to
  spaces_from zero from at l e all = (at, record { forward = l; fits = omega arith; all = all; stops = λ m. absurd (omega arith) })
  spaces_from (suc fuel) from at l e all = elim (space_byte (slice_index text at)) [
    | inl p ↦ spaces_from fuel from (at + 1) (omega arith) (omega arith) (λ i m n. elim (cases_lt i at) [
      | inl k ↦ all i m k
      | inr k ↦ (let here : i ≡ at = omega arith in subst (λ j. is_space (slice_index text j) ≡ true) (sym here) p)
    ])
    | inr q ↦ (at, record { forward = l; fits = omega arith; all = all; stops = λ m. q })
  ]

  digit_at : (to digit : ℕ) → AreSpaces text 1 to → MarksLine text digit → digit ≡ to
  digit_at to digit a m = elim (cases_lt digit to) [
    | inl l ↦ absurd (space_no_digit (slice_index text digit) (a.all digit m.after l) m.is_digit)
    | inr l ↦ elim (cases_lt to digit) [
      | inl k ↦ absurd (a.stops (omega (arith, m.within)) (m.spaces to a.forward k))
      | inr k ↦ omega arith
    ]
  ]

  marks_line : 0 < length text → ((digit : ℕ) × MarksLine text digit) ⊎ ((digit : ℕ) → MarksLine text digit → ⊥)
  marks_line some =
      let fuel : (n : ℕ) × (1 + n ≡ length text) = behind 1 (length text) some in
      let a = spaces_from fuel.0 1 1 (omega arith) fuel.1 (λ i l m. absurd (omega arith)) in
      by_test a.0 a.1 (cases_lt a.0 (length text)) (both (same_number (slice_index text 0) 35) (is_class_digit (class_of (slice_index text a.0))))
    where
      by_test : (to : ℕ) → AreSpaces text 1 to → (to < length text) ⊎ (length text ≤ to) → Decided ((slice_index text 0 ≡ 35) × (class_of (slice_index text to) ≡ Digit)) → ((digit : ℕ) × MarksLine text digit) ⊎ ((digit : ℕ) → MarksLine text digit → ⊥)
      by_test to a (inl l) (inl h) = inl (to, record { hash = h.0; after = a.forward; within = l; spaces = a.all; is_digit = h.1 })
      by_test to a (inr l) d = inr (λ digit m. let e : digit ≡ to = digit_at to digit a m in omega (arith, m.within))
      by_test to a (inl l) (inr n) = inr (λ digit m. let e : digit ≡ to = digit_at to digit a m in n (m.hash, subst (λ j. class_of (slice_index text j) ≡ Digit) e m.is_digit))

-- What bytes spell, of what a list has.
among : {A : Type 0} (spelling : A → List ℕ) (bytes : List ℕ) (xs : List A) → ((x : A) × (bytes ≡ spelling x)) ⊎ ((i : ℕ) (d : A) → i < length xs → bytes ≡ spelling (get_or xs i d) → ⊥)
among spelling bytes [] = inr (λ i d l e. omega arith)
among {A} spelling bytes (x ∷ xs) = elim (cases_Bool (bytes_eq bytes (spelling x))) [
  | inl t ↦ inl (x, (bytes_eq-Decides bytes (spelling x)).0 t)
  | inr f ↦ elim (among spelling bytes xs) [
    | inl h ↦ inl h
    | inr none ↦ inr (nowhere (λ e. false≢true (sym f ∙ (bytes_eq-Decides bytes (spelling x)).1 e)) none)
  ]
]
  where
    nowhere : (bytes ≡ spelling x → ⊥) → ((i : ℕ) (d : A) → i < length xs → bytes ≡ spelling (get_or xs i d) → ⊥) → (i : ℕ) (d : A) → i < length (x ∷ xs) → bytes ≡ spelling (get_or (x ∷ xs) i d) → ⊥
    nowhere first none zero d l e = first e
    nowhere first none (suc i) d l e = none i d (omega arith) e

word_spelled : (bytes : List ℕ) → ((k : Keyword) × (bytes ≡ word_spelling k)) ⊎ ((k : Keyword) → bytes ≡ word_spelling k → ⊥)
word_spelled bytes = elim (among word_spelling bytes KEYWORDS) [
  | inl h ↦ inl h
  | inr none ↦ inr (λ k e. let s = word_stands k in none s.place k s.within (e ∙ ap word_spelling (sym s.is)))
]

sign_spelled : (bytes : List ℕ) → ((p : Punct) × (bytes ≡ sign_spelling p)) ⊎ ((p : Punct) → bytes ≡ sign_spelling p → ⊥)
sign_spelled bytes = elim (among sign_spelling bytes PUNCTS) [
  | inl h ↦ inl h
  | inr none ↦ inr (λ p e. let s = sign_stands p in none s.place p s.within (e ∙ ap sign_spelling (sym s.is)))
]

-- The longest punctuator at the front.
abbrev SignAt : List ℕ → ℕ → Type 0
SignAt text size = ((p : Punct) × SpellsSign text size p) ⊎ ((p : Punct) → SpellsSign text size p → ⊥)

sign_of_size : (text : List ℕ) (size : ℕ) → SignAt text size
sign_of_size text size = elim (cases_lt (length text) size) [
  | inl l ↦ inr (λ p h. omega (arith, h.fits))
  | inr l ↦ elim (sign_spelled (take size text)) [
    | inl h ↦ inl (h.0, record { fits = l; is = h.1 })
    | inr none ↦ inr (λ p h. none p h.is)
  ]
]

abbrev LongestSignAt : List ℕ → Type 0
LongestSignAt text = ((size : ℕ) × (kind : Kind) × IsLongestSign text size kind) ⊎ ((size : ℕ) (p : Punct) → SpellsSign text size p → ⊥)

sign_at : (text : List ℕ) → LongestSignAt text
sign_at text = of_sizes (sign_of_size text 3) (sign_of_size text 2) (sign_of_size text 1)
  where
    of_sizes : SignAt text 3 → SignAt text 2 → SignAt text 1 → LongestSignAt text
    of_sizes (inl h) two one = inl (3, kinds.Sign h.0, longest_of_three text h.0 h.1)
    of_sizes (inr three) (inl h) one = inl (2, kinds.Sign h.0, longest_of_two text h.0 three h.1)
    of_sizes (inr three) (inr two) (inl h) = inl (1, kinds.Sign h.0, longest_of_one text h.0 three two h.1)
    of_sizes (inr three) (inr two) (inr one) = inr (no_sign text three two one)

-- The longest piece at the front.
abbrev PieceAt : Bool → List ℕ → Type 0
PieceAt s text = ((size : ℕ) × (kind : Kind) × IsLongest s text size kind) ⊎ HasNoPiece s text

abbrev BeginsWith : List ℕ → ℕ → ℕ → Type 0
BeginsWith text a b = (2 ≤ length text) × (slice_index text 0 ≡ a) × (slice_index text 1 ≡ b)

begins_with : (text : List ℕ) (a b : ℕ) → Decided (BeginsWith text a b)
begins_with text a b = elim (cases_lt (length text) 2) [
  | inl l ↦ inr (λ h. omega (arith, h.0))
  | inr l ↦ elim (both (same_number (slice_index text 0) a) (same_number (slice_index text 1) b)) [
    | inl h ↦ inl (l, h.0, h.1)
    | inr n ↦ inr (λ h. n (h.1, h.2))
  ]
]

module _ (s : Bool) (text : List ℕ) (some : 0 < length text) where
  comment_at : BeginsWith text 47 42 → PieceAt s text
  comment_at h =
      let o : IsBlockOpen text = record { two = h.0; first = h.1; second = h.2 } in
      elim (first_close text h.0) [
        | inl c ↦ inl (c.0 + 2, kinds.BlockComment, longest_block s text c.0 o c.1)
        | inr n ↦ inl (length text, kinds.OpenComment, longest_open s text o n)
      ]

  signs_at : IsSignOnly s text → PieceAt s text
  signs_at only = elim (sign_at text) [
    | inl h ↦ inl (h.0, h.1, longest_sign s text h.0 h.1 only h.2)
    | inr n ↦ inr (Longest.no_piece s text only n)
  ]

  marker_at : class_of (slice_index text 0) ≡ Other → (BeginsWith text 47 47 → ⊥) → (BeginsWith text 47 42 → ⊥) → Decided (s ≡ true) → ((digit : ℕ) × MarksLine text digit) ⊎ ((digit : ℕ) → MarksLine text digit → ⊥) → PieceAt s text
  marker_at other line block (inl e) (inl m) =
      let f = front IsLineByte line_byte text in
      inl (f.0, kinds.LineMarker, subst (λ b. IsLongest b text f.0 kinds.LineMarker) (sym e) (longest_marker text f.0 m.0 m.1 f.1))
  marker_at other line block (inr e) m = signs_at (record { other = other; no_line = λ h. line (h.two, h.first, h.second); no_block = λ h. block (h.two, h.first, h.second); no_marker = λ t. absurd (e t) })
  marker_at other line block (inl e) (inr n) = signs_at (record { other = other; no_line = λ h. line (h.two, h.first, h.second); no_block = λ h. block (h.two, h.first, h.second); no_marker = λ t. n })

  other_at : class_of (slice_index text 0) ≡ Other → Decided (BeginsWith text 47 47) → Decided (BeginsWith text 47 42) → PieceAt s text
  other_at other (inl h) block = (let f = front IsLineByte line_byte text in inl (f.0, kinds.LineComment, longest_line s text f.0 (record { two = h.0; first = h.1; second = h.2 }) f.1))
  other_at other (inr line) (inl h) = comment_at h
  other_at other (inr line) (inr block) = marker_at other line block (is_true s) (marks_line text some)

  by_class : (k : Class) → class_of (slice_index text 0) ≡ k → PieceAt s text
  by_class Blank e = inl (1, kinds.Blank (slice_index text 0), longest_blank s text some e)
  by_class Letter e = (let f = front IsWordByte word_byte text in inl (f.0, kinds.Word, longest_word s text f.0 some e f.1))
  by_class Digit e = (let f = front IsWordByte word_byte text in inl (f.0, kinds.Digits, longest_digits s text f.0 some e f.1))
  by_class Other e = other_at e (begins_with text 47 47) (begins_with text 47 42)

  piece_at : PieceAt s text
  piece_at = by_class (class_of (slice_index text 0)) refl

-- The constant that a run is.
abbrev SplitOf : Base → List ℕ → Type 0
SplitOf base text = ((digits : List ℕ) × (suffix : List ℕ) × IsSplit base text digits suffix) ⊎ ((digits suffix : List ℕ) → IsSplit base text digits suffix → ⊥)

split_of : (base : Base) (text : List ℕ) → SplitOf base text
split_of base text =
    let f = front (λ b. digit_worth b < radix base) digit_byte text in
    of_front f.0 f.1 (cases_lt 0 f.0) (is_true (is_suffix (drop f.0 text)))
  where
    digit_byte : (b : ℕ) → Decided (digit_worth b < radix base)
    digit_byte b = elim (cases_lt (digit_worth b) (radix base)) [ inl l ↦ inl l | inr l ↦ inr (λ h. omega arith) ]

    of_front : (n : ℕ) → IsFront (λ b. digit_worth b < radix base) text n → (0 < n) ⊎ (n ≤ 0) → Decided (is_suffix (drop n text) ≡ true) → SplitOf base text
    of_front n f (inl some) (inl ends) = inl (take n text, drop n text, split_here base text n f some ends)
    of_front n f (inr none) ends = inr (λ digits suffix h.
        let e : digits ≡ take n text = (split_is base text n f digits suffix h).0 in
        let l : length digits ≡ n = ap length e ∙ length-take-le n text f.fits in
        omega (arith, h.some))
    of_front n f (inl some) (inr other) = inr (λ digits suffix h. other (ap is_suffix (sym (split_is base text n f digits suffix h).1) ∙ h.ends))

has_mark : (base : Base) (run : List ℕ) → Decided (HasMark base run)
has_mark Decimal run = not_so (same_number (slice_index run 0) 48)
has_mark Octal run = same_number (slice_index run 0) 48
has_mark Hexadecimal run = both (same_number (slice_index run 0) 48) (any (same_number (slice_index run 1) 120) (same_number (slice_index run 1) 88))

abbrev ConstantIn : Base → List ℕ → Type 0
ConstantIn base run = ((digits : List ℕ) × (suffix : List ℕ) × IsConstant run base digits suffix) ⊎ ((digits suffix : List ℕ) → IsConstant run base digits suffix → ⊥)

constant_in : (base : Base) (run : List ℕ) → ConstantIn base run
constant_in base run = of_parts (has_mark base run) (split_of base (behind_mark base run))
  where
    of_parts : Decided (HasMark base run) → SplitOf base (behind_mark base run) → ConstantIn base run
    of_parts (inl m) (inl h) = inl (h.0, h.1, record { mark = m; split = h.2 })
    of_parts (inr n) h = inr (λ digits suffix c. n c.mark)
    of_parts (inl m) (inr n) = inr (λ digits suffix c. n digits suffix c.split)

abbrev ConstantOf : List ℕ → Type 0
ConstantOf run = ((base : Base) × (digits : List ℕ) × (suffix : List ℕ) × IsConstant run base digits suffix) ⊎ ((base : Base) (digits suffix : List ℕ) → IsConstant run base digits suffix → ⊥)

constant_of : (run : List ℕ) → ConstantOf run
constant_of run = of_bases (constant_in Decimal run) (constant_in Octal run) (constant_in Hexadecimal run)
  where
    in_none : ((digits suffix : List ℕ) → IsConstant run Decimal digits suffix → ⊥) → ((digits suffix : List ℕ) → IsConstant run Octal digits suffix → ⊥) → ((digits suffix : List ℕ) → IsConstant run Hexadecimal digits suffix → ⊥)
        → (base : Base) (digits suffix : List ℕ) → IsConstant run base digits suffix → ⊥
    in_none d o x Decimal = d
    in_none d o x Octal = o
    in_none d o x Hexadecimal = x

    of_bases : ConstantIn Decimal run → ConstantIn Octal run → ConstantIn Hexadecimal run → ConstantOf run
    of_bases (inl h) o x = inl (Decimal, h.0, h.1, h.2)
    of_bases (inr d) (inl h) x = inl (Octal, h.0, h.1, h.2)
    of_bases (inr d) (inr o) (inl h) = inl (Hexadecimal, h.0, h.1, h.2)
    of_bases (inr d) (inr o) (inr x) = inr (in_none d o x)

-- What a piece means.
module _ (s : Bool) (names : List (List ℕ)) (at : ℕ) (bytes : List ℕ) where
  word_means : (m : Meaning) × Means s names at bytes kinds.Word m
  word_means = elim (word_spelled bytes) [
    | inl h ↦ (Is (tokens.Word h.0), reserved h.0 h.1)
    | inr n ↦ (Is (tokens.Name (number_of names bytes)), name n)
  ]

  digits_means : (m : Meaning) × Means s names at bytes kinds.Digits m
  digits_means = elim (constant_of bytes) [
    | inl h ↦ elim (cases_lt (greatest h.0 h.2) (worth (radix h.0) h.1)) [
      | inl l ↦ (Wrong (LiteralTooLarge at), too_large h.0 h.1 h.2 h.3 l)
      | inr l ↦ (Is (tokens.Number (worth (radix h.0) h.1) (is_unsigned h.2 (worth (radix h.0) h.1))), number h.0 h.1 h.2 h.3 l)
    ]
    | inr n ↦ (Wrong (BadToken at), no_number n)
  ]

  means : (kind : Kind) → (m : Meaning) × Means s names at bytes kind m
  means (kinds.Blank b) = (Skipped (line_after s b), blank)
  means kinds.LineComment = (Skipped false, line_comment)
  means kinds.BlockComment = (Skipped false, block_comment)
  means kinds.OpenComment = (Wrong (CommentOpen at), open_comment)
  means kinds.LineMarker = (Skipped false, line_marker)
  means kinds.Word = word_means
  means kinds.Digits = digits_means
  means (kinds.Sign p) = (Is (tokens.Sign p), sign)

-- The result, by the length of the rest.
abbrev ResultFrom : Bool → List (List ℕ) → ℕ → List ℕ → Type 0
ResultFrom s names at rest = (result : Result (List Token) LexError) × TokensFrom s names at rest result

goes_on : (meaning : Meaning) (names : List (List ℕ)) (at size : ℕ) (rest : List ℕ) → ((s : Bool) (more : List (List ℕ)) → ResultFrom s more (at + size) (drop size rest)) → (result : Result (List Token) LexError) × GoesOn meaning names at size rest result
goes_on (Skipped s) names at size rest from = (let r = from s names in (r.0, skipped s r.1))
goes_on (Is kind) names at size rest from =
    let r = from false (names_after names (take size rest) kind) in
    (with_front (record { kind = kind; at = at; length = size } ∷ []) r.0, token kind r.0 r.1)
goes_on (Wrong error) names at size rest from = (Err error, fault error)

result_from : (fuel : ℕ) (s : Bool) (names : List (List ℕ)) (at : ℕ) (rest : List ℕ) → length rest ≤ fuel → ResultFrom s names at rest
result_from fuel s names at [] l = (Ok [], done)
result_from zero s names at (b ∷ bs) l = absurd (omega arith)
result_from (suc fuel) s names at (b ∷ bs) l = elim (piece_at s (b ∷ bs) (omega arith)) [
  | inl p ↦ (let m = means s names at (take p.0 (b ∷ bs)) p.1 in
      let some : 0 < p.0 = has_byte s (b ∷ bs) p.0 p.1 p.2.begins in
      let g = goes_on m.0 names at p.0 (b ∷ bs) (λ t more. result_from fuel t more (at + p.0) (drop p.0 (b ∷ bs)) (omega (arith, length-drop p.0 (b ∷ bs)))) in
      (g.0, piece p.0 p.1 m.0 p.2 m.1 g.1))
  | inr n ↦ (Err (BadToken at), no_piece (omega arith) n)
]

pub some_result : HasSomeResult
some_result text = result_from (length text) true first_names 0 text (omega arith)
