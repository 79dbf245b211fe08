-- The tests decide which words are of one stream, and where HI and LO come from.
use Rattle.std.proofs.Common.{◌≡◌, ℕ, ◌-◌, rules, ap, refl, sym, ◌∙◌, subst, List, [], ◌∷◌, ◌++◌, true, Bool, inl, inr}
use Rattle.std.specs.Prelude.{Option, Some, None, ◌⊎◌, ◌==◌, ◌||◌, ◌&&◌, not, IsTrue}
use Rattle.mips_isa.specs.declared.instr.Instr.{Instr}
use Rattle.mips_isa.specs.declared.instr.Instr.TheVariants.{Mult, Multu, Div, Divu}
use Rattle.mips_isa.specs.Rows.{row, pair_of}
use Rattle.mips_isa.specs.Machine.{IsPairOf, among, reads_of, writes_of, is_product}
use Rattle.mips_text.specs.Text.{IsText, InText, At, instr_at, Reads, Writes, Uses, used_of}
use Rattle.mips_text.specs.Blocks.{IsStart}
use Rattle.mips_isa.proofs.Pairs.{reads_are, writes_are}
use Rattle.lint_lockstep.specs.Sorts.{Among}
use Rattle.lint_words.specs.Around.{starts_at, reads_by, writes_by, uses_by, near_before, far_before}
use Rattle.third_lint.specs.Flow.{Next}
use Rattle.third_lint.specs.Votes.{Role, A, B, C, role_of, Of}
use Rattle.third_lint.specs.Typing.{IsProductOf, ProductsOf}
use Rattle.third_lint.specs.Rules.{OneStream}
use Rattle.third_lint.specs.Shapes.{same_role, of}
use Rattle.third_lint.specs.RuleTests.{keeps_one, keeps_pair, of_stream, one_stream, fits_role, product_pair, product_by, implies, products}
use Rattle.third_lint.specs.Tables.{Table}
use Rattle.third_lint.proofs.Places.{no_truth}
use Rattle.third_lint.proofs.Lists.{to_among, from_among, joins_left, joins_right}
use Rattle.third_lint.proofs.Bools.{and_parts, and_both, or_parts, or_first, or_second, not_parts, not_is, same_number, number_same, implied, is_implied}
use Rattle.third_lint.proofs.Around.{reads_is, is_reads, writes_is, is_writes, before_is, near_is, far_is}
use Rattle.third_lint.proofs.Tables.{mark_is, is_mark}
use Rattle.third_lint.proofs.Patterns.{of_is, is_of, same_is, self_role}

-- registers by pairs
-- a test of each register that an instruction uses
used_split : (i : Instr) (r : ℕ) → IsTrue (among r (used_of i)) → IsTrue (among r (writes_of i)) ⊎ IsTrue (among r (reads_of i))
used_split i r h = by (writes_of i) (to_among r (used_of i) h)
  where
    by : (l : List ℕ) → Among r (l ++ reads_of i) → IsTrue (among r l) ⊎ IsTrue (among r (reads_of i))
    by [] m = inr (from_among r (reads_of i) m)
    by (x ∷ l) (inl e) = inl (from_among r (x ∷ l) (inl e))
    by (x ∷ l) (inr m) = elim (by l m) as (λ z. IsTrue (among r (x ∷ l)) ⊎ IsTrue (among r (reads_of i))) [ inl k ↦ inl (from_among r (x ∷ l) (inr (to_among r l k))) | inr k ↦ inr k ]

abbrev Kept : Role → ℕ → Type 0
Kept X r = (r ≡ 0) ⊎ ((r ≡ 2) ⊎ Of X r)

one_kept : (X : Role) (r : ℕ) → keeps_one X r ≡ true → Kept X r
one_kept X r h = elim (or_parts (r == 0) ((r == 2) || of X r) h) as (λ z. Kept X r) [
  | inl k ↦ inl (same_number r 0 k)
  | inr k ↦ elim (or_parts (r == 2) (of X r) k) as (λ z. Kept X r) [ inl k ↦ inr (inl (same_number r 2 k)) | inr k ↦ inr (inr (of_is X r k)) ]
]

kept_one : (X : Role) (r : ℕ) → Kept X r → keeps_one X r ≡ true
kept_one X r (inl e) = or_first (r == 0) ((r == 2) || of X r) (number_same r 0 e)
kept_one X r (inr (inl e)) = or_second (r == 0) ((r == 2) || of X r) (or_first (r == 2) (of X r) (number_same r 2 e))
kept_one X r (inr (inr e)) = or_second (r == 0) ((r == 2) || of X r) (or_second (r == 2) (of X r) (is_of X r e))

pair_kept : (X : Role) (l : List ℕ) (u : ℕ × ℕ) (r : ℕ) → IsPairOf l u → keeps_pair X u ≡ true → IsTrue (among r l) → Kept X r
pair_kept X l u r k h m =
    let p : (keeps_one X u.0 ≡ true) × (keeps_one X u.1 ≡ true) = and_parts (keeps_one X u.0) (keeps_one X u.1) h in
    elim (k.has r m) as (λ z. Kept X r) [ inl e ↦ subst (Kept X) (sym e) (one_kept X u.0 p.0) | inr e ↦ subst (Kept X) (sym e) (one_kept X u.1 p.1) ]

kept_pair : (X : Role) (l : List ℕ) (u : ℕ × ℕ) → IsPairOf l u → ((r : ℕ) → IsTrue (among r l) → Kept X r) → keeps_pair X u ≡ true
kept_pair X l u k f = and_both (keeps_one X u.0) (keeps_one X u.1)
    (kept_one X u.0 (elim k.first as (λ z. Kept X u.0) [ inl e ↦ inl e | inr m ↦ f u.0 m ]))
    (kept_one X u.1 (elim k.second as (λ z. Kept X u.1) [ inl e ↦ inl e | inr m ↦ f u.1 m ]))

stream_is : (i : Instr) (X : Role) → of_stream (Some i) X ≡ true → OneStream i
stream_is i X h =
    let p : (keeps_pair X (pair_of (row i).writes) ≡ true) × (keeps_pair X (pair_of (row i).reads) ≡ true) = and_parts (keeps_pair X (pair_of (row i).writes)) (keeps_pair X (pair_of (row i).reads)) h in
    record { stream = X; all = λ r m. elim (used_split i r m) as (λ z. Kept X r) [ inl k ↦ pair_kept X (writes_of i) (pair_of (row i).writes) r (writes_are i) p.0 k | inr k ↦ pair_kept X (reads_of i) (pair_of (row i).reads) r (reads_are i) p.1 k ] }

is_stream : (i : Instr) (o : OneStream i) → of_stream (Some i) o.stream ≡ true
is_stream i o = and_both (keeps_pair o.stream (pair_of (row i).writes)) (keeps_pair o.stream (pair_of (row i).reads))
    (kept_pair o.stream (writes_of i) (pair_of (row i).writes) (writes_are i) (λ r m. o.all r (joins_left r (writes_of i) (reads_of i) m)))
    (kept_pair o.stream (reads_of i) (pair_of (row i).reads) (reads_are i) (λ r m. o.all r (joins_right r (writes_of i) (reads_of i) m)))

pub one_stream_is : (i : Instr) → one_stream (Some i) ≡ true → OneStream i
one_stream_is i h = elim (or_parts (of_stream (Some i) A) (of_stream (Some i) B || of_stream (Some i) C) h) as (λ z. OneStream i) [
  | inl k ↦ stream_is i A k
  | inr k ↦ elim (or_parts (of_stream (Some i) B) (of_stream (Some i) C) k) as (λ z. OneStream i) [ inl k ↦ stream_is i B k | inr k ↦ stream_is i C k ]
]

is_one_by : (i : Instr) (X : Role) → of_stream (Some i) X ≡ true → one_stream (Some i) ≡ true
is_one_by i A h = or_first (of_stream (Some i) A) (of_stream (Some i) B || of_stream (Some i) C) h
is_one_by i B h = or_second (of_stream (Some i) A) (of_stream (Some i) B || of_stream (Some i) C) (or_first (of_stream (Some i) B) (of_stream (Some i) C) h)
is_one_by i C h = or_second (of_stream (Some i) A) (of_stream (Some i) B || of_stream (Some i) C) (or_second (of_stream (Some i) B) (of_stream (Some i) C) h)

pub is_one_stream : (i : Instr) → OneStream i → one_stream (Some i) ≡ true
is_one_stream i o = is_one_by i o.stream (is_stream i o)

pub uses_is : (text : List ℕ) (a r : ℕ) → uses_by (instr_at text a) r ≡ true → Uses text a r
uses_is text a r h = elim (or_parts (writes_by (instr_at text a) r) (reads_by (instr_at text a) r) h) as (λ z. Uses text a r) [
  | inl k ↦ let w : Writes text a r = writes_is text a r k in record { instr = w.instr; at = w.at; uses = joins_left r (writes_of w.instr) (reads_of w.instr) w.writes }
  | inr k ↦ let w : Reads text a r = reads_is text a r k in record { instr = w.instr; at = w.at; uses = joins_right r (writes_of w.instr) (reads_of w.instr) w.reads }
]

pub is_uses : (text : List ℕ) (a r : ℕ) → Uses text a r → uses_by (instr_at text a) r ≡ true
is_uses text a r k = elim (used_split k.instr r k.uses) as (λ z. uses_by (instr_at text a) r ≡ true) [
  | inl m ↦ or_first (writes_by (instr_at text a) r) (reads_by (instr_at text a) r) (is_writes text a r (record { instr = k.instr; at = k.at; writes = m }))
  | inr m ↦ or_second (writes_by (instr_at text a) r) (reads_by (instr_at text a) r) (is_reads text a r (record { instr = k.instr; at = k.at; reads = m }))
]

-- products
-- products
fits_is : (o : Option Role) (X Y : Role) → fits_role o X ≡ true → o ≡ Some Y → Y ≡ X
fits_is None X Y h e = absurd (no_role Y e)
  where
    no_role : (Y : Role) → None ≡ Some Y → ⊥
    no_role Y h = search (rules, h)
fits_is (Some Z) X Y h e = some_role Y X (sym e ∙ same_is Z X h)
  where
    some_role : (P Q : Role) → Some P ≡ Some Q → P ≡ Q
    some_role P Q h = search (rules, h)

is_fits : (o : Option Role) (X : Role) → ((Y : Role) → o ≡ Some Y → Y ≡ X) → fits_role o X ≡ true
is_fits None X f = refl
is_fits (Some Z) X f = subst (λ (W : Role). same_role (Some Z) W ≡ true) (f Z refl) (self_role Z)

-- the registers of a product are its pair
pair_among : (i : Instr) → is_product i ≡ true → reads_of i ≡ (pair_of (row i).reads).0 ∷ (pair_of (row i).reads).1 ∷ []
pair_among (Mult rs rt) h = refl
pair_among (Multu rs rt) h = refl
pair_among (Div rs rt) h = refl
pair_among (Divu rs rt) h = refl
pair_among _ h = absurd (no_truth h)

pub product_is : (i : Instr) (X : Role) → product_by (Some i) X ≡ true → IsProductOf X i
product_is i X h =
    let p : ℕ × ℕ = pair_of (row i).reads in
    let a : (is_product i ≡ true) × (product_pair X p ≡ true) = and_parts (is_product i) (product_pair X p) h in
    let e : reads_of i ≡ p.0 ∷ p.1 ∷ [] = pair_among i a.0 in
    let b : ((of X p.0 || of X p.1) ≡ true) × ((fits_role (role_of p.0) X && fits_role (role_of p.1) X) ≡ true) = and_parts (of X p.0 || of X p.1) (fits_role (role_of p.0) X && fits_role (role_of p.1) X) a.1 in
    let f : (fits_role (role_of p.0) X ≡ true) × (fits_role (role_of p.1) X ≡ true) = and_parts (fits_role (role_of p.0) X) (fits_role (role_of p.1) X) b.1 in
    let other : (r : ℕ) (Y : Role) → IsTrue (among r (reads_of i)) → Of Y r → Y ≡ X = λ r Y m o. elim (to_among r (p.0 ∷ p.1 ∷ []) (subst (λ (l : List ℕ). IsTrue (among r l)) e m)) as (λ z. Y ≡ X) [
      | inl z ↦ fits_is (role_of p.0) X Y f.0 (subst (Of Y) z o)
      | inr (inl z) ↦ fits_is (role_of p.1) X Y f.1 (subst (Of Y) z o)
      | inr (inr z) ↦ absurd z
    ] in
    elim (or_parts (of X p.0) (of X p.1) b.0) as (λ z. IsProductOf X i) [
      | inl k ↦ record { product = a.0; some = p.0; reads_some = subst (λ (l : List ℕ). IsTrue (among p.0 l)) (sym e) (from_among p.0 (p.0 ∷ p.1 ∷ []) (inl refl)); of_stream = of_is X p.0 k; no_other = other }
      | inr k ↦ record { product = a.0; some = p.1; reads_some = subst (λ (l : List ℕ). IsTrue (among p.1 l)) (sym e) (from_among p.1 (p.0 ∷ p.1 ∷ []) (inr (inl refl))); of_stream = of_is X p.1 k; no_other = other }
    ]

pub is_product_of : (i : Instr) (X : Role) → IsProductOf X i → product_by (Some i) X ≡ true
is_product_of i X k =
    let p : ℕ × ℕ = pair_of (row i).reads in
    let e : reads_of i ≡ p.0 ∷ p.1 ∷ [] = pair_among i k.product in
    let has : (r : ℕ) → (r ≡ p.0) ⊎ ((r ≡ p.1) ⊎ ⊥) → IsTrue (among r (reads_of i)) = λ r m. subst (λ (l : List ℕ). IsTrue (among r l)) (sym e) (from_among r (p.0 ∷ p.1 ∷ []) m) in
    and_both (is_product i) (product_pair X p) k.product
    (and_both (of X p.0 || of X p.1) (fits_role (role_of p.0) X && fits_role (role_of p.1) X)
    (elim (to_among k.some (p.0 ∷ p.1 ∷ []) (subst (λ (l : List ℕ). IsTrue (among k.some l)) e k.reads_some)) as (λ z. (of X p.0 || of X p.1) ≡ true) [
      | inl z ↦ or_first (of X p.0) (of X p.1) (is_of X p.0 (subst (Of X) z k.of_stream))
      | inr (inl z) ↦ or_second (of X p.0) (of X p.1) (is_of X p.1 (subst (Of X) z k.of_stream))
      | inr (inr z) ↦ absurd z
    ])
    (and_both (fits_role (role_of p.0) X) (fits_role (role_of p.1) X) (is_fits (role_of p.0) X (λ Y o. k.no_other p.0 Y (has p.0 (inl refl)) o)) (is_fits (role_of p.1) X (λ Y o. k.no_other p.1 Y (has p.1 (inr (inl refl))) o))))

product_at : (text : List ℕ) (a : ℕ) (X : Role) → product_by (instr_at text a) X ≡ true → (i : Instr) × (At text a i × IsProductOf X i)
product_at text a X h = by (instr_at text a) refl h
  where
    by : (o : Option Instr) → instr_at text a ≡ o → product_by o X ≡ true → (i : Instr) × (At text a i × IsProductOf X i)
    by None e h = absurd (no_truth h)
    by (Some i) e h = (i, (e, product_is i X h))

at_product : (text : List ℕ) (a : ℕ) (X : Role) → (i : Instr) × (At text a i × IsProductOf X i) → product_by (instr_at text a) X ≡ true
at_product text a X k = ap (λ (o : Option Instr). product_by o X) k.1.0 ∙ is_product_of k.0 X k.1.1

module _ (text : List ℕ) (entry : ℕ) (bits : List Bool) (fits : IsText text) (table : Table text (IsStart text entry) bits) where
  pub products_is : (X : Role) (a : ℕ) → InText text a → products text bits X a ≡ true → ProductsOf text entry X a
  products_is X a t h =
      let p : (not (starts_at bits a) ≡ true) × (((near_before text a || far_before text a) && (implies (near_before text a) (product_by (instr_at text (a - 4)) X) && implies (far_before text a) (product_by (instr_at text (a - 8)) X))) ≡ true) = and_parts (not (starts_at bits a)) ((near_before text a || far_before text a) && (implies (near_before text a) (product_by (instr_at text (a - 4)) X) && implies (far_before text a) (product_by (instr_at text (a - 8)) X))) h in
      let q : ((near_before text a || far_before text a) ≡ true) × ((implies (near_before text a) (product_by (instr_at text (a - 4)) X) && implies (far_before text a) (product_by (instr_at text (a - 8)) X)) ≡ true) = and_parts (near_before text a || far_before text a) (implies (near_before text a) (product_by (instr_at text (a - 4)) X) && implies (far_before text a) (product_by (instr_at text (a - 8)) X)) p.1 in
      let s : (implies (near_before text a) (product_by (instr_at text (a - 4)) X) ≡ true) × (implies (far_before text a) (product_by (instr_at text (a - 8)) X) ≡ true) = and_parts (implies (near_before text a) (product_by (instr_at text (a - 4)) X)) (implies (far_before text a) (product_by (instr_at text (a - 8)) X)) q.1 in
      let n : IsStart text entry a → ⊥ = λ w. not_parts (starts_at bits a) p.0 (is_mark text (IsStart text entry) bits table a t w) in
      let each : (v : ℕ) → Next text v a → (i : Instr) × (At text v i × IsProductOf X i) = λ v k. elim (before_is text entry v a fits n k) as (λ z. (i : Instr) × (At text v i × IsProductOf X i)) [
        | inl z ↦ product_at text v X (subst (λ (x : ℕ). product_by (instr_at text x) X ≡ true) (sym z.0) (implied (near_before text a) (product_by (instr_at text (a - 4)) X) s.0 z.1))
        | inr z ↦ product_at text v X (subst (λ (x : ℕ). product_by (instr_at text x) X ≡ true) (sym z.0) (implied (far_before text a) (product_by (instr_at text (a - 8)) X) s.1 z.1))
      ] in
      elim (or_parts (near_before text a) (far_before text a) q.0) as (λ z. ProductsOf text entry X a) [
        | inl k ↦ record { no_start = n; before = a - 4; leads = near_is text a k; each = each }
        | inr k ↦ record { no_start = n; before = a - 8; leads = far_is text a fits k; each = each }
      ]

  pub is_products : (X : Role) (a : ℕ) → ProductsOf text entry X a → products text bits X a ≡ true
  is_products X a k =
      and_both (not (starts_at bits a)) ((near_before text a || far_before text a) && (implies (near_before text a) (product_by (instr_at text (a - 4)) X) && implies (far_before text a) (product_by (instr_at text (a - 8)) X)))
      (not_is (starts_at bits a) (λ h. k.no_start (mark_is text (IsStart text entry) bits table a h)))
      (and_both (near_before text a || far_before text a) (implies (near_before text a) (product_by (instr_at text (a - 4)) X) && implies (far_before text a) (product_by (instr_at text (a - 8)) X))
      (elim (before_is text entry k.before a fits k.no_start k.leads) as (λ z. (near_before text a || far_before text a) ≡ true) [ inl z ↦ or_first (near_before text a) (far_before text a) z.1 | inr z ↦ or_second (near_before text a) (far_before text a) z.1 ])
      (and_both (implies (near_before text a) (product_by (instr_at text (a - 4)) X)) (implies (far_before text a) (product_by (instr_at text (a - 8)) X))
      (is_implied (near_before text a) (product_by (instr_at text (a - 4)) X) (λ h. at_product text (a - 4) X (k.each (a - 4) (near_is text a h))))
      (is_implied (far_before text a) (product_by (instr_at text (a - 8)) X) (λ h. at_product text (a - 8) X (k.each (a - 8) (far_is text a fits h))))))
