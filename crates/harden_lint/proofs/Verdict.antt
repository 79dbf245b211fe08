-- Each text has typing rows or breaks a rule: by the tests of its words, one after the other, over the table of its starts.
use Rattle.std.proofs.Common.{◌≡◌, ◌≢◌, ◌⊎◌, inl, inr, ℕ, zero, suc, ◌+◌, ◌*◌, ◌^◌, ◌≤◌, ◌<◌, arith, refl, subst, List, [], ◌∷◌, ◌++◌, length, Bool, true, false, add-one}
use Rattle.std.specs.Prelude.{Option, Some, None, bit_or, replicate}
use Rattle.mips_text.specs.Text.{IsText, InText}
use Rattle.mips_text.specs.Blocks.{IsStart}
use Rattle.lint_words.specs.Words.{made}
use Rattle.lint_words.specs.Around.{in_slot}
use Rattle.harden_lint.specs.declared.TypingRow.{TypingRow}
use Rattle.harden_lint.specs.declared.Stream.{Stream}
use Rattle.mips_text.specs.Typing.{master, shadow}
use Rattle.harden_lint.specs.Rules.{WellTyped}
use Rattle.harden_lint.specs.Rows.{master_mask, shadow_mask, signs_mask}
use Rattle.harden_lint.specs.RuleTests.{first_rule}
use Rattle.harden_lint.specs.StreamTests.{guarded, products}
use Rattle.harden_lint.specs.StartTable.{Table, Below, marked, marked_if, left_out, left_if}
use Rattle.harden_lint.specs.Masks.{RowsTo, stream_of}
use Rattle.harden_lint.specs.Outcome.{CleanTo, IsFirst, Decided, end_of, outcome}
use Rattle.harden_lint.specs.Verdict.{IsTyped, IsBad, TypedOrBad}
use Rattle.harden_lint.proofs.StartTable.{first_table, turn_table, last_table}
use Rattle.harden_lint.proofs.MaskBits.{MaskTo, first_mask, mask_with, mask_without, guarded_mask_of, row_for, no_rows, more_rows, all_rows}
use Rattle.harden_lint.proofs.Exact.{word_in, clean_none, clean_more, bad_here, decided, of_obeys}

-- a table of some addresses
abbrev Tabled : List ℕ → (ℕ → Type 0) → Type 0
Tabled text S = (bits : List Bool) × ((out : Option ℕ) × Table text S bits out)

-- the starts that the first words make
starts_to : (text : List ℕ) (entry k : ℕ) → Tabled text (Below text entry k)
starts_to text entry zero =
    let empty : List Bool = replicate (length text) false in (
      marked empty entry,
      (
        left_out (length text) None entry,
        first_table text entry (length text) empty (marked empty entry) (left_out (length text) None entry) refl refl refl refl,
      ),
    )
starts_to text entry (suc k) =
    let t : Tabled text (Below text entry k) = starts_to text entry k in
    let p : Option ℕ × Option ℕ = made text (0x00400000 + 4 * k) in
    let out1 : Option ℕ = left_if (length text) t.1.0 p.0 in
    let bits1 : List Bool = marked_if t.0 p.0 in
    let out2 : Option ℕ = left_if (length text) out1 p.1 in
    let bits2 : List Bool = marked_if bits1 p.1 in (
      bits2,
      (
        out2,
        subst (λ (n : ℕ). Table text (Below text entry n) bits2 out2) (add-one k)
            (turn_table text entry k (length text) t.0 bits1 bits2 t.1.0 out1 out2 p refl t.1.1 refl refl refl refl refl),
      ),
    )

-- all starts
starts_of : (text : List ℕ) (entry : ℕ) → Tabled text (IsStart text entry)
starts_of text entry =
    let t : Tabled text (Below text entry (length text)) = starts_to text entry (length text) in
    (t.0, (t.1.0, last_table text entry (length text) t.0 t.1.0 refl t.1.1))

is_zero : (n : ℕ) → (n ≡ 0) ⊎ (n ≢ 0)
is_zero n = grind arith

-- a mask of the registers of which a test is true
mask_more : (f : ℕ → Bool) (r : ℕ) → (mask : ℕ) × MaskTo f r mask → (z : Bool) → f r ≡ z → (mask : ℕ) × MaskTo f (suc r) mask
mask_more f r m true e = (bit_or m.0 (2 ^ r), subst (λ (n : ℕ). MaskTo f n (bit_or m.0 (2 ^ r))) (add-one r) (mask_with f r m.0 (2 ^ r) refl e m.1))
mask_more f r m false e = (m.0, subst (λ (n : ℕ). MaskTo f n m.0) (add-one r) (mask_without f r m.0 e m.1))

mask_of : (f : ℕ → Bool) (r : ℕ) → (mask : ℕ) × MaskTo f r mask
mask_of f zero = (0, first_mask f)
mask_of f (suc r) = mask_more f r (mask_of f r) (f r) refl

module _ (text : List ℕ) (entry : ℕ) (bits : List Bool) (out : Option ℕ) (fits : IsText text) (table : Table text (IsStart text entry) bits out) where
  -- the words below a place are clean, or there is a first one that isn't
  abbrev CleanOrFirst : ℕ → Type 0
  CleanOrFirst k = CleanTo text entry k ⊎ ((p : ℕ × ℕ) × IsFirst text entry p.0 p.1)

  abbrev rule_of : ℕ → ℕ
  rule_of k = first_rule text bits (0x00400000 + 4 * k)

  by_rule : (k : ℕ) → k < length text → CleanTo text entry k → (rule_of k ≡ 0) ⊎ (rule_of k ≢ 0) → CleanOrFirst (suc k)
  by_rule k h c (inl e) = inl (subst (λ (n : ℕ). CleanTo text entry n) (add-one k) (clean_more text entry bits out fits table k h c e))
  by_rule k h c (inr n) = inr ((0x00400000 + 4 * k, rule_of k), bad_here text entry bits out fits table k h c n)

  then : (k : ℕ) → k < length text → CleanOrFirst k → CleanOrFirst (suc k)
  then k h (inl c) = by_rule k h c (is_zero (rule_of k))
  then k h (inr f) = inr f

  before : (k n : ℕ) → suc k ≤ n → k ≤ n
  before k n h = omega arith

  below : (k n : ℕ) → suc k ≤ n → k < n
  below k n h = omega arith

  scanned : (k : ℕ) → k ≤ length text → CleanOrFirst k
  scanned zero h = inl (clean_none text entry bits out fits table)
  scanned (suc k) h = then k (below k (length text) h) (scanned k (before k (length text) h))

  -- the rows of the first words
  abbrev row_of : (n mask : ℕ) → TypingRow
  row_of n mask =
      let a : ℕ = 0x00400000 + 4 * n in
      record { master = master_mask; shadow = shadow_mask; signs = signs_mask; guarded = mask; products = stream_of (products text bits master a) (products text bits shadow a) }

  rows_to : (n : ℕ) → n ≤ length text → (rows : List TypingRow) × RowsTo text bits n rows
  rows_to zero h = ([], no_rows text bits)
  rows_to (suc n) h =
      let r : (rows : List TypingRow) × RowsTo text bits n rows = rows_to n (before n (length text) h) in
      let a : ℕ = 0x00400000 + 4 * n in
      let m : (mask : ℕ) × MaskTo (λ q. guarded text bits a q) 32 mask = mask_of (λ q. guarded text bits a q) 32 in
      let s : Stream = stream_of (products text bits master a) (products text bits shadow a) in
      let i : InText text a = word_in text entry bits out fits table n (below n (length text) h) in (
        r.0 ++ row_of n m.0 ∷ [],
        subst (λ (k : ℕ). RowsTo text bits k (r.0 ++ row_of n m.0 ∷ [])) (add-one n)
            (more_rows text bits n r.0 (row_of n m.0) r.1 (row_for text bits a m.0 s fits i (guarded_mask_of text bits a m.0 m.1) refl)),
      )

  same : (n : ℕ) → n ≤ n
  same n = omega arith

  typed : WellTyped text entry → IsTyped text entry
  typed kept =
      let r : (rows : List TypingRow) × RowsTo text bits (length text) rows = rows_to (length text) (same (length text)) in
      (r.0, record { listed = all_rows text entry bits out r.0 table r.1; rules = kept })

  -- what is decided is one of both
  judged : (answer : Option (ℕ × ℕ)) → Decided text entry answer → IsTyped text entry ⊎ IsBad text entry
  judged None d = inl (typed d)
  judged (Some p) d = inr (p.0, (p.1, d))

  abbrev outcome_of : Option (ℕ × ℕ) → Option (ℕ × ℕ)
  outcome_of found = outcome found out (in_slot text (end_of text)) (end_of text)

  verdict_of : CleanOrFirst (length text) → IsTyped text entry ⊎ IsBad text entry
  verdict_of (inl c) = judged (outcome_of None) (decided text entry bits out fits table None c)
  verdict_of (inr f) = judged (outcome_of (Some f.0)) (decided text entry bits out fits table (Some f.0) f.1)

  verdict : IsTyped text entry ⊎ IsBad text entry
  verdict = verdict_of (scanned (length text) (same (length text)))

pub typed_or_bad : TypedOrBad
typed_or_bad = record {
  one = λ text entry fits. let t : Tabled text (IsStart text entry) = starts_of text entry in verdict text entry t.0 t.1.0 fits t.1.1;
  never_both = λ text entry kept bad. of_obeys text entry bad.0 bad.1.0 (kept.1.rules bad.0) bad.1.1.broken;
}
