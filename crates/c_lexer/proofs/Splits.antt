-- A run is split into digits and a suffix in one way at most.
use Rattle.std.proofs.Common.{◌≡◌, ◌≢◌, ◌≤◌, ◌<◌, ◌+◌, ◌*◌, ◌^◌, ◌⊎◌, ◌||◌, ◌==◌, inl, inr, ℕ, zero, suc, Bool, true, false, List, [], ◌∷◌, ◌++◌, length, take, drop, get_or, slice_index, min, refl, sym, ap, ◌∙◌, subst, arith}
use Rattle.std.proofs.lemmas.Bool.{cases_lt, false≢true, eqb-true}
use Rattle.std.proofs.lemmas.List.{take-append-drop, drop_more, length-take-le}
use Rattle.std.proofs.Math.ListN.{drop_of_length-le}
use Rattle.std.proofs.Math.Nat.{mul-le-mul_left, le-mul_of_pos_right}
use Rattle.c_lexer.specs.declared.constant.Base.{Base}
use Rattle.c_lexer.specs.declared.constant.Base.TheVariants.{Decimal, Octal, Hexadecimal}
use Rattle.c_lexer.specs.declared.constant.Constant.{Constant}
use Rattle.c_lexer.specs.declared.constant.Constant.TheVariants.{NotOne, TooLarge, Fits}
use Rattle.c_lexer.specs.Constants.{radix, digit_worth, AreDigits, worth, is_suffix, is_unsigned, greatest, HasMark, HasValue, IsSplit, IsConstant, Reads, behind_mark}
use Rattle.c_lexer.specs.Fronts.{IsFront}

-- a product with a sum, bounded on the way and at the end, is the same as bounded at the end
pub saturates : (base n d most : ℕ) → 0 < base → min (base * min n most + d) most ≡ min (base * n + d) most
saturates base n d most some = elim (cases_lt most n) [
  | inl l ↦ (let e : min n most ≡ most = omega arith in
      let p : most ≤ most * base = le-mul_of_pos_right most some in
      let q : base * most ≤ base * n = mul-le-mul_left base (omega arith) in
      rw e (omega arith))
  | inr l ↦ (let e : min n most ≡ n = omega arith in rw e refl)
]

-- the byte after some digits, if there is one, is no digit
abbrev NoDigit : ℕ → List ℕ → Type 0
NoDigit base [] = Unit {0}
NoDigit base (b ∷ bs) = digit_worth b < base → ⊥

either : (a b : Bool) → (a || b) ≡ true → (a ≡ true) ⊎ (b ≡ true)
either true b h = inl refl
either false b h = inr h

suffix_no_digit : (base : ℕ) → base ≤ 16 → (s : List ℕ) → is_suffix s ≡ true → NoDigit base s
suffix_no_digit base few [] h = tt
suffix_no_digit base few (b ∷ []) h = λ l. elim (either (b == 117) (b == 85) h) [
  | inl e ↦ (let w : digit_worth b ≡ 16 = ap digit_worth (eqb-true b 117 e) in omega arith)
  | inr e ↦ (let w : digit_worth b ≡ 16 = ap digit_worth (eqb-true b 85 e) in omega arith)
]
suffix_no_digit base few (b ∷ c ∷ bs) h = absurd (false≢true h)

same_split : (base : ℕ) (a b x y : List ℕ) → AreDigits base a → AreDigits base b → NoDigit base x → NoDigit base y → a ++ x ≡ b ++ y → (a ≡ b) × (x ≡ y)
same_split base [] [] x y da db nx ny e = (refl, e)
same_split base [] (d ∷ b) x y da db nx ny e = absurd ((let n : NoDigit base (d ∷ (b ++ y)) = subst (NoDigit base) e nx in n) db.0)
same_split base (d ∷ a) [] x y da db nx ny e = absurd ((let n : NoDigit base (d ∷ (a ++ x)) = subst (NoDigit base) (sym e) ny in n) da.0)
same_split base (d ∷ a) (f ∷ b) x y da db nx ny e =
    let head : d ≡ f = cc in
    let tail : a ++ x ≡ b ++ y = cc in
    let rest : (a ≡ b) × (x ≡ y) = same_split base a b x y da.1 db.1 nx ny tail in
    let front : a ≡ b = rest.0 in
    (cc, rest.1)

front_digits : (base : ℕ) (text : List ℕ) (n : ℕ) → n ≤ length text → ((i : ℕ) → i < n → digit_worth (slice_index text i) < base) → AreDigits base (take n text)
front_digits base [] zero fits all = tt
front_digits base [] (suc n) fits all = tt
front_digits base (b ∷ bs) zero fits all = tt
front_digits base (b ∷ bs) (suc n) fits all = (all 0 (omega arith), front_digits base bs n (omega arith) (λ i l. all (suc i) (omega arith)))

rest_no_digit : (base : ℕ) (text : List ℕ) (n : ℕ) → IsFront (λ b. digit_worth b < base) text n → NoDigit base (drop n text)
rest_no_digit base text n front = elim (cases_lt n (length text)) [
  | inl l ↦ subst (NoDigit base) (sym (drop_more text n 0 l)) (front.stops l)
  | inr l ↦ subst (NoDigit base) (sym (drop_of_length-le text l)) tt
]

radix_few : (base : Base) → radix base ≤ 16
radix_few Decimal = omega arith
radix_few Octal = omega arith
radix_few Hexadecimal = omega arith

-- the digits are those at the front
pub split_is : (base : Base) (text : List ℕ) (n : ℕ) → IsFront (λ b. digit_worth b < radix base) text n → (digits suffix : List ℕ) → IsSplit base text digits suffix → (digits ≡ take n text) × (suffix ≡ drop n text)
split_is base text n front digits suffix split =
    same_split (radix base) digits (take n text) suffix (drop n text) split.are_digits (front_digits (radix base) text n front.fits front.all)
    (suffix_no_digit (radix base) (radix_few base) suffix split.ends) (rest_no_digit (radix base) text n front) (sym split.joined ∙ sym (take-append-drop n text))

-- and there is such a split where a digit and a suffix are
pub split_here : (base : Base) (text : List ℕ) (n : ℕ) → IsFront (λ b. digit_worth b < radix base) text n → 0 < n → is_suffix (drop n text) ≡ true → IsSplit base text (take n text) (drop n text)
split_here base text n front some ends = record {
  joined = sym (take-append-drop n text);
  some = omega (arith, length-take-le n text front.fits);
  are_digits = front_digits (radix base) text n front.fits front.all;
  ends = ends;
}

-- two splits of a text are one
pub one_split : (base : Base) (text a b x y : List ℕ) → IsSplit base text a x → IsSplit base text b y → (a ≡ b) × (x ≡ y)
one_split base text a b x y p q =
    same_split (radix base) a b x y p.are_digits q.are_digits (suffix_no_digit (radix base) (radix_few base) x p.ends) (suffix_no_digit (radix base) (radix_few base) y q.ends) (sym p.joined ∙ q.joined)

-- the second byte of an octal constant is a digit, a suffix or none, and no x
not_x : (x : ℕ) (digits suffix : List ℕ) → digit_worth x ≡ 16 → x ≢ 0 → x ≢ 117 → x ≢ 85 → AreDigits 8 digits → 0 < length digits → is_suffix suffix ≡ true → get_or (digits ++ suffix) 1 0 ≡ x → ⊥
not_x x [] suffix w o u v digits some ends e = omega arith
not_x x (d ∷ []) [] w o u v digits some ends e = o (sym e)
not_x x (d ∷ []) (b ∷ []) w o u v digits some ends e = elim (either (b == 117) (b == 85) ends) [
  | inl f ↦ u (sym e ∙ eqb-true b 117 f)
  | inr f ↦ v (sym e ∙ eqb-true b 85 f)
]
not_x x (d ∷ []) (b ∷ c ∷ bs) w o u v digits some ends e = false≢true ends
not_x x (d ∷ f ∷ fs) suffix w o u v digits some ends e = (let g : digit_worth f ≡ 16 = ap digit_worth e ∙ w in omega (arith, digits.1.0))

pub octal_no_x : (run digits suffix : List ℕ) → HasMark Hexadecimal run → IsSplit Octal run digits suffix → ⊥
octal_no_x run digits suffix mark split =
    let second : get_or run 1 0 ≡ get_or (digits ++ suffix) 1 0 = ap (λ s. get_or s 1 0) split.joined in
    elim mark.1 [
      | inl e ↦ not_x 120 digits suffix refl (λ p. absurd (omega arith)) (λ p. absurd (omega arith)) (λ p. absurd (omega arith)) split.are_digits split.some split.ends (sym second ∙ e)
      | inr e ↦ not_x 88 digits suffix refl (λ p. absurd (omega arith)) (λ p. absurd (omega arith)) (λ p. absurd (omega arith)) split.are_digits split.some split.ends (sym second ∙ e)
    ]

-- a run is a constant in one way
pub record SameConstant (base other : Base) (digits suffix others tail : List ℕ) : Type 0 where
  pub bases : base ≡ other
  pub digits_are : digits ≡ others
  pub suffixes : suffix ≡ tail

of_split : (base : Base) (text a b x y : List ℕ) → IsSplit base text a x → IsSplit base text b y → SameConstant base base a x b y
of_split base text a b x y p q = let s : (a ≡ b) × (x ≡ y) = one_split base text a b x y p q in record { bases = refl; digits_are = s.0; suffixes = s.1 }

pub one_constant : (run : List ℕ) (base other : Base) (digits suffix others tail : List ℕ) → IsConstant run base digits suffix → IsConstant run other others tail → SameConstant base other digits suffix others tail
one_constant run Decimal Decimal a x b y p q = of_split Decimal run a b x y p.split q.split
one_constant run Decimal Octal a x b y p q = absurd (p.mark q.mark)
one_constant run Decimal Hexadecimal a x b y p q = absurd (p.mark q.mark.0)
one_constant run Octal Decimal a x b y p q = absurd (q.mark p.mark)
one_constant run Octal Octal a x b y p q = of_split Octal run a b x y p.split q.split
one_constant run Octal Hexadecimal a x b y p q = absurd (octal_no_x run a x q.mark p.split)
one_constant run Hexadecimal Decimal a x b y p q = absurd (q.mark p.mark.0)
one_constant run Hexadecimal Octal a x b y p q = absurd (octal_no_x run b y p.mark q.split)
one_constant run Hexadecimal Hexadecimal a x b y p q = of_split Hexadecimal (drop 2 run) a b x y p.split q.split

-- what is read in a base, by how many digits stand at the front
abbrev SplitsIn : Base → List ℕ → List ℕ → List ℕ → Base → Type 0
SplitsIn base text digits suffix other = (other ≡ base) × IsSplit base text digits suffix

module _ (base : Base) (text : List ℕ) (r n : ℕ) (r_is : r ≡ radix base) (front_r : IsFront (λ b. digit_worth b < r) text n) where
  front_of : IsFront (λ b. digit_worth b < radix base) text n
  front_of = subst (λ s. IsFront (λ b. digit_worth b < s) text n) r_is front_r

  pub no_digits : n ≡ 0 → Reads (SplitsIn base text) NotOne
  no_digits zero_is = λ other digits suffix h.
      let e : digits ≡ take n text = (split_is base text n front_of digits suffix h.1).0 in
      let l : length digits ≡ n = ap length e ∙ length-take-le n text front_of.fits in
      omega (arith, h.1.some)

  pub no_suffix : is_suffix (drop n text) ≡ false → Reads (SplitsIn base text) NotOne
  no_suffix ends = λ other digits suffix h.
      false≢true (sym ends ∙ ap is_suffix (sym (split_is base text n front_of digits suffix h.1).1) ∙ h.1.ends)

  module _ (w : ℕ) (w_is : w ≡ min (worth r (take n text)) (2 ^ 32)) (some : 0 < n) (ends : is_suffix (drop n text) ≡ true) (g : ℕ) (g_is : g ≡ greatest base (drop n text)) (g_most : g < 2 ^ 32) where
    w_worth : w ≡ min (worth (radix base) (take n text)) (2 ^ 32)
    w_worth = subst (λ s. w ≡ min (worth s (take n text)) (2 ^ 32)) r_is w_is

    pub too_large : g < w → Reads (SplitsIn base text) TooLarge
    too_large more =
        let l : g < worth (radix base) (take n text) = omega (arith, w_worth) in
        (base, take n text, drop n text, (refl, split_here base text n front_of some ends), subst (λ m. m < worth (radix base) (take n text)) g_is l)

    pub fits : (unsigned : Bool) → unsigned ≡ is_unsigned (drop n text) w → w ≤ g → Reads (SplitsIn base text) (Fits w unsigned)
    fits unsigned unsigned_is few = (
      base,
      take n text,
      drop n text,
      (refl, split_here base text n front_of some ends),
      record { worth_is = omega (arith, w_worth); fits = subst (λ m. w ≤ m) g_is few; unsigned_is = unsigned_is },
    )

-- what is read behind the mark of a base is what the run is
of_base : (base : Base) (run : List ℕ) → HasMark base run → ((other : Base) (digits suffix : List ℕ) → IsConstant run other digits suffix → other ≡ base) → (r : Constant) → Reads (SplitsIn base (behind_mark base run)) r → Reads (λ digits suffix other. IsConstant run other digits suffix) r
of_base base run mark one NotOne h = λ other digits suffix c.
    let e : other ≡ base = one other digits suffix c in
    let d : IsConstant run base digits suffix = subst (λ b. IsConstant run b digits suffix) e c in
    h base digits suffix (refl, d.split)
of_base base run mark one TooLarge h =
    (base, h.1, h.2, record { mark = mark; split = h.3.1 }, subst (λ b. greatest b h.2 < worth (radix b) h.1) h.3.0 h.4)
of_base base run mark one (Fits value unsigned) h =
    (base, h.1, h.2, record { mark = mark; split = h.3.1 }, subst (λ b. HasValue b h.1 h.2 value unsigned) h.3.0 h.4)

pub hexadecimal : (run : List ℕ) → HasMark Hexadecimal run → (r : Constant) → Reads (SplitsIn Hexadecimal (drop 2 run)) r → Reads (λ digits suffix other. IsConstant run other digits suffix) r
hexadecimal run mark = of_base Hexadecimal run mark one
  where
    one : (other : Base) (digits suffix : List ℕ) → IsConstant run other digits suffix → other ≡ Hexadecimal
    one Decimal digits suffix c = absurd (c.mark mark.0)
    one Octal digits suffix c = absurd (octal_no_x run digits suffix mark c.split)
    one Hexadecimal digits suffix c = refl

pub octal : (run : List ℕ) → (HasMark Hexadecimal run → ⊥) → HasMark Octal run → (r : Constant) → Reads (SplitsIn Octal run) r → Reads (λ digits suffix other. IsConstant run other digits suffix) r
octal run not_hexadecimal mark = of_base Octal run mark one
  where
    one : (other : Base) (digits suffix : List ℕ) → IsConstant run other digits suffix → other ≡ Octal
    one Decimal digits suffix c = absurd (c.mark mark)
    one Octal digits suffix c = refl
    one Hexadecimal digits suffix c = absurd (not_hexadecimal c.mark)

pub decimal : (run : List ℕ) → (HasMark Octal run → ⊥) → (r : Constant) → Reads (SplitsIn Decimal run) r → Reads (λ digits suffix other. IsConstant run other digits suffix) r
decimal run not_octal = of_base Decimal run not_octal one
  where
    one : (other : Base) (digits suffix : List ℕ) → IsConstant run other digits suffix → other ≡ Decimal
    one Decimal digits suffix c = refl
    one Octal digits suffix c = absurd (not_octal c.mark)
    one Hexadecimal digits suffix c = absurd (not_octal c.mark.0)
