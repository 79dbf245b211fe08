-- The tests decide the windows of checks, the guarded registers, the windows of a text, and where HI and LO come from.
use Rattle.std.proofs.Common.{◌≡◌, ◌≢◌, ℕ, ◌+◌, ◌-◌, ◌%◌, ◌≤◌, arith, rules, ap, refl, sym, ◌∙◌, subst, List, [], ◌∷◌, false, true, Bool, cond, inl, inr}
use Rattle.std.specs.Prelude.{Option, Some, None, ◌⊎◌, ◌==◌, ◌||◌, ◌&&◌, nat_le, not, IsTrue}
use Rattle.mips_isa.specs.declared.instr.Instr.{Instr}
use Rattle.mips_isa.specs.declared.instr.Instr.TheVariants.{Syscall, Break, Mult, Multu, Div, Divu, Beq}
use Rattle.mips_isa.specs.Rows.{row, pair_of}
use Rattle.mips_isa.specs.Machine.{among, reads_of, is_product}
use Rattle.mips_text.specs.Text.{IsText, InText, At, instr_at, CheckWindow, Near, checked, service, result}
use Rattle.mips_text.specs.Blocks.{IsStart}
use Rattle.mips_text.specs.Typing.{Role, master, shadow, signs, role_of, Of, CheckAt, Next, Path, IsGuarded, IsProductOf, ProductsOf}
use Rattle.harden_lint.proofs.Places.{no_truth, in_text}
use Rattle.harden_lint.proofs.Keeps.{zero_free, one_role}
use Rattle.harden_lint.proofs.Streams.{to_among, from_among}
use Rattle.lint_words.specs.Words.{code_of}
use Rattle.harden_lint.specs.StartTable.{Table}
use Rattle.lint_words.specs.Around.{starts_at, reads_by, near_before, far_before, leads}
use Rattle.lint_words.specs.Windows.{awaits, is_one, compared, check_at, window_by, window, serving, near}
use Rattle.harden_lint.specs.StreamTests.{same_role, of, two_streams, streams_by, guarded_from, guarded, fits_role, product_pair, product_by, implies, products}
use Rattle.harden_lint.proofs.StartTable.{code_break}
use Rattle.harden_lint.proofs.Around.{and_parts, and_both, or_parts, or_first, or_second, not_parts, not_is, same_number, number_same, reads_is, is_reads, start_is, is_start, before_is, near_is, far_is}
use Rattle.harden_lint.proofs.Guards.{leads_is, is_leads, Use, awaits_is, is_awaits}

-- what a check compares
pub record Compares (text : List ℕ) (c x y : ℕ) : Type 0 where
  pub differ : x ≢ y
  pub x_not_zero : x ≢ 0
  pub y_not_zero : y ≢ 0
  pub check : At text c (Beq x y 2)
  pub report : At text (c + 8) (Break 1)

one_by : (o : Option ℕ) → is_one o ≡ true → o ≡ Some 1
one_by None h = absurd (no_truth h)
one_by (Some n) h = ap (λ (x : ℕ). Some x) (same_number n 1 h)

not_same : (a b : ℕ) → not (a == b) ≡ true → a ≢ b
not_same a b h e = not_parts (a == b) h (number_same a b e)

no_pair : (p : ℕ × ℕ) → None ≡ Some p → ⊥
no_pair p h = search (rules, h)

pair_same : (p q : ℕ × ℕ) → Some p ≡ Some q → p ≡ q
pair_same p q h = search (rules, h)

parts_by : (text : List ℕ) (c x y n : ℕ) (z : Bool) (p : ℕ × ℕ) → At text c (Beq x y n) → ((n == 2) && (is_one (code_of (instr_at text (c + 8))) && (not (x == y) && (not (x == 0) && not (y == 0))))) ≡ z → cond z (Some (x, y)) None ≡ Some p → Compares text c p.0 p.1
parts_by text c x y n false p h e k = absurd (no_pair p k)
parts_by text c x y n true p h e k =
    let q : (x, y) ≡ p = pair_same (x, y) p k in
    let a1 : ((n == 2) ≡ true) × ((is_one (code_of (instr_at text (c + 8))) && (not (x == y) && (not (x == 0) && not (y == 0)))) ≡ true) = and_parts (n == 2) (is_one (code_of (instr_at text (c + 8))) && (not (x == y) && (not (x == 0) && not (y == 0)))) e in
    let a2 : (is_one (code_of (instr_at text (c + 8))) ≡ true) × ((not (x == y) && (not (x == 0) && not (y == 0))) ≡ true) = and_parts (is_one (code_of (instr_at text (c + 8)))) (not (x == y) && (not (x == 0) && not (y == 0))) a1.1 in
    let a3 : (not (x == y) ≡ true) × ((not (x == 0) && not (y == 0)) ≡ true) = and_parts (not (x == y)) (not (x == 0) && not (y == 0)) a2.1 in
    let a4 : (not (x == 0) ≡ true) × (not (y == 0) ≡ true) = and_parts (not (x == 0)) (not (y == 0)) a3.1 in
    subst (λ (w : ℕ × ℕ). Compares text c w.0 w.1) q (record {
      differ = not_same x y a3.0;
      x_not_zero = not_same x 0 a4.0;
      y_not_zero = not_same y 0 a4.1;
      check = subst (λ (m : ℕ). At text c (Beq x y m)) (same_number n 2 a1.0) h;
      report = code_break (instr_at text (c + 8)) 1 (one_by (code_of (instr_at text (c + 8))) a2.0);
    })

compared_is : (text : List ℕ) (c : ℕ) (o : Option Instr) (p : ℕ × ℕ) → instr_at text c ≡ o → compared o (code_of (instr_at text (c + 8))) ≡ Some p → Compares text c p.0 p.1
compared_is text c None p e h = absurd (no_pair p h)
compared_is text c (Some (Beq x y n)) p e h = parts_by text c x y n ((n == 2) && (is_one (code_of (instr_at text (c + 8))) && (not (x == y) && (not (x == 0) && not (y == 0))))) p e refl h
compared_is text c (Some _) p e h = absurd (no_pair p h)

pub check_is : (text : List ℕ) (c : ℕ) (p : ℕ × ℕ) → check_at text c ≡ Some p → Compares text c p.0 p.1
check_is text c p h = compared_is text c (instr_at text c) p refl h

pub is_check : (text : List ℕ) (c x y : ℕ) → Compares text c x y → check_at text c ≡ Some (x, y)
is_check text c x y k =
    let one : is_one (code_of (instr_at text (c + 8))) ≡ true = ap (λ (o : Option Instr). is_one (code_of o)) k.report in
    let all : ((2 == 2) && (is_one (code_of (instr_at text (c + 8))) && (not (x == y) && (not (x == 0) && not (y == 0))))) ≡ true =
    and_both (is_one (code_of (instr_at text (c + 8)))) (not (x == y) && (not (x == 0) && not (y == 0))) one
    (and_both (not (x == y)) (not (x == 0) && not (y == 0)) (not_is (x == y) (λ h. k.differ (same_number x y h)))
    (and_both (not (x == 0)) (not (y == 0)) (not_is (x == 0) (λ h. k.x_not_zero (same_number x 0 h))) (not_is (y == 0) (λ h. k.y_not_zero (same_number y 0 h))))) in
    ap (λ (o : Option Instr). compared o (code_of (instr_at text (c + 8)))) k.check ∙ ap (λ (z : Bool). cond z (Some (x, y)) None) all

le_of : (a b : ℕ) → nat_le a b ≡ true → a ≤ b
le_of a b h = grind arith

of_le : (a b : ℕ) → a ≤ b → nat_le a b ≡ true
of_le a b h = grind arith

-- the window of a check
pub record WindowAt (text : List ℕ) (r c a : ℕ) : Type 0 where
  pub p : ℕ × ℕ
  pub is : check_at text c ≡ Some p
  pub window : CheckWindow text c p.0 p.1 a r

window_from : (text : List ℕ) (r c a : ℕ) (o : Option (ℕ × ℕ)) → check_at text c ≡ o → a % 4 ≡ 0 → window_by text o r c a ≡ true → WindowAt text r c a
window_from text r c a None e al h = absurd (no_truth h)
window_from text r c a (Some p) e al h =
    let k : Compares text c p.0 p.1 = check_is text c p e in
    let q : (((r == p.0) || (r == p.1)) ≡ true) × ((nat_le (c + 4) a && awaits text r c a) ≡ true) = and_parts ((r == p.0) || (r == p.1)) (nat_le (c + 4) a && awaits text r c a) h in
    let s : (nat_le (c + 4) a ≡ true) × (awaits text r c a ≡ true) = and_parts (nat_le (c + 4) a) (awaits text r c a) q.1 in
    let u : Use text r c a = awaits_is text r c a (in_text text c (Beq p.0 p.1 2) k.check).aligned s.1 in
    record {
      p = p;
      is = e;
      window = record {
        differ = k.differ;
        x_not_zero = k.x_not_zero;
        y_not_zero = k.y_not_zero;
        check = k.check;
        report = k.report;
        one = elim (or_parts (r == p.0) (r == p.1) q.0) as (λ z. (r ≡ p.0) ⊎ (r ≡ p.1)) [ inl z ↦ inl (same_number r p.0 z) | inr z ↦ inr (same_number r p.1 z) ];
        use_at = u.at;
        critical = u.critical;
        aligned = al;
        from = le_of (c + 4) a s.0;
        upto = u.upto;
        within = u.within;
        unwritten = u.unwritten;
      };
    }

pub window_is : (text : List ℕ) (r c a : ℕ) → a % 4 ≡ 0 → window text r c a ≡ true → WindowAt text r c a
window_is text r c a al h = window_from text r c a (check_at text c) refl al h

two_is : (r x y : ℕ) → (r ≡ x) ⊎ (r ≡ y) → ((r == x) || (r == y)) ≡ true
two_is r x y (inl e) = or_first (r == x) (r == y) (number_same r x e)
two_is r x y (inr e) = or_second (r == x) (r == y) (number_same r y e)

pub compares_of : (text : List ℕ) (c x y a r : ℕ) → CheckWindow text c x y a r → Compares text c x y
compares_of text c x y a r w = record { differ = w.differ; x_not_zero = w.x_not_zero; y_not_zero = w.y_not_zero; check = w.check; report = w.report }

pub is_window : (text : List ℕ) (c x y a r : ℕ) → CheckWindow text c x y a r → window text r c a ≡ true
is_window text c x y a r w =
    ap (λ (o : Option (ℕ × ℕ)). window_by text o r c a) (is_check text c x y (compares_of text c x y a r w))
    ∙ and_both ((r == x) || (r == y)) (nat_le (c + 4) a && awaits text r c a) (two_is r x y w.one)
    (and_both (nat_le (c + 4) a) (awaits text r c a) (of_le (c + 4) a w.from)
    (is_awaits text r c a (in_text text c (Beq x y 2) w.check).aligned w.from (record { at = w.use_at; critical = w.critical; upto = w.upto; within = w.within; unwritten = w.unwritten })))

-- the check stands 4 to 16 bytes before
four_checks : (c a : ℕ) → c % 4 ≡ 0 → a % 4 ≡ 0 → c + 4 ≤ a → a ≤ c + 16 → (c ≡ a - 4) ⊎ ((c ≡ a - 8) ⊎ ((c ≡ a - 12) ⊎ (c ≡ a - 16)))
four_checks c a h k l m = grind arith

trans_le : (a u v : ℕ) → a ≤ u → u ≤ v → a ≤ v
trans_le a u v h k = omega arith

pub any_four : (f : ℕ → Bool) (c a : ℕ) → (c ≡ a - 4) ⊎ ((c ≡ a - 8) ⊎ ((c ≡ a - 12) ⊎ (c ≡ a - 16))) → f c ≡ true → (f (a - 4) || (f (a - 8) || (f (a - 12) || f (a - 16)))) ≡ true
any_four f c a (inl e) h = or_first (f (a - 4)) (f (a - 8) || (f (a - 12) || f (a - 16))) (subst (λ (x : ℕ). f x ≡ true) e h)
any_four f c a (inr (inl e)) h = or_second (f (a - 4)) (f (a - 8) || (f (a - 12) || f (a - 16))) (or_first (f (a - 8)) (f (a - 12) || f (a - 16)) (subst (λ (x : ℕ). f x ≡ true) e h))
any_four f c a (inr (inr (inl e))) h = or_second (f (a - 4)) (f (a - 8) || (f (a - 12) || f (a - 16))) (or_second (f (a - 8)) (f (a - 12) || f (a - 16)) (or_first (f (a - 12)) (f (a - 16)) (subst (λ (x : ℕ). f x ≡ true) e h)))
any_four f c a (inr (inr (inr e))) h = or_second (f (a - 4)) (f (a - 8) || (f (a - 12) || f (a - 16))) (or_second (f (a - 8)) (f (a - 12) || f (a - 16)) (or_second (f (a - 12)) (f (a - 16)) (subst (λ (x : ℕ). f x ≡ true) e h)))

pub one_of_four : (f : ℕ → Bool) (a : ℕ) → (f (a - 4) || (f (a - 8) || (f (a - 12) || f (a - 16)))) ≡ true → (c : ℕ) × (f c ≡ true)
one_of_four f a h = elim (or_parts (f (a - 4)) (f (a - 8) || (f (a - 12) || f (a - 16))) h) as (λ z. (c : ℕ) × (f c ≡ true)) [
  | inl k ↦ (a - 4, k)
  | inr k ↦ elim (or_parts (f (a - 8)) (f (a - 12) || f (a - 16)) k) as (λ z. (c : ℕ) × (f c ≡ true)) [
    | inl k ↦ (a - 8, k)
    | inr k ↦ elim (or_parts (f (a - 12)) (f (a - 16)) k) as (λ z. (c : ℕ) × (f c ≡ true)) [ inl k ↦ (a - 12, k) | inr k ↦ (a - 16, k) ]
  ]
]

window_near : (text : List ℕ) (c x y a r : ℕ) → CheckWindow text c x y a r → (c ≡ a - 4) ⊎ ((c ≡ a - 8) ⊎ ((c ≡ a - 12) ⊎ (c ≡ a - 16)))
window_near text c x y a r w = four_checks c a (in_text text c (Beq x y 2) w.check).aligned w.aligned w.from (trans_le a w.use_at (c + 16) w.upto w.within)

-- roles
role_by : (o : Option Role) (X : Role) → same_role o X ≡ true → o ≡ Some X
role_by None X h = absurd (no_truth h)
role_by (Some master) master h = refl
role_by (Some shadow) shadow h = refl
role_by (Some signs) signs h = refl
role_by (Some master) shadow h = absurd (no_truth h)
role_by (Some master) signs h = absurd (no_truth h)
role_by (Some shadow) master h = absurd (no_truth h)
role_by (Some shadow) signs h = absurd (no_truth h)
role_by (Some signs) master h = absurd (no_truth h)
role_by (Some signs) shadow h = absurd (no_truth h)

pub of_is : (X : Role) (r : ℕ) → of X r ≡ true → Of X r
of_is X r h = role_by (role_of r) X h

self_role : (X : Role) → same_role (Some X) X ≡ true
self_role master = refl
self_role shadow = refl
self_role signs = refl

pub is_of : (X : Role) (r : ℕ) → Of X r → of X r ≡ true
is_of X r h = ap (λ (o : Option Role). same_role o X) h ∙ self_role X

abbrev pub Opposed : ℕ → ℕ → Type 0
Opposed x y = (Of master x × Of shadow y) ⊎ (Of shadow x × Of master y)

opposed_is : (x y : ℕ) → two_streams x y ≡ true → Opposed x y
opposed_is x y h = elim (or_parts (of master x && of shadow y) (of shadow x && of master y) h) as (λ z. Opposed x y) [
  | inl k ↦ let p : (of master x ≡ true) × (of shadow y ≡ true) = and_parts (of master x) (of shadow y) k in inl (of_is master x p.0, of_is shadow y p.1)
  | inr k ↦ let p : (of shadow x ≡ true) × (of master y ≡ true) = and_parts (of shadow x) (of master y) k in inr (of_is shadow x p.0, of_is master y p.1)
]

is_opposed : (x y : ℕ) → Opposed x y → two_streams x y ≡ true
is_opposed x y (inl k) = or_first (of master x && of shadow y) (of shadow x && of master y) (and_both (of master x) (of shadow y) (is_of master x k.0) (is_of shadow y k.1))
is_opposed x y (inr k) = or_second (of master x && of shadow y) (of shadow x && of master y) (and_both (of shadow x) (of master y) (is_of shadow x k.0) (is_of master y k.1))

-- a check of the lint
streams_from : (text : List ℕ) (c : ℕ) (o : Option (ℕ × ℕ)) → check_at text c ≡ o → streams_by o ≡ true → (p : ℕ × ℕ) × ((check_at text c ≡ Some p) × CheckAt text c p.0 p.1)
streams_from text c None e h = absurd (no_truth h)
streams_from text c (Some p) e h = let k : Compares text c p.0 p.1 = check_is text c p e in (p, (e, record { compares = k.check; report = k.report; streams = opposed_is p.0 p.1 h }))

pub streams_is : (text : List ℕ) (c : ℕ) → streams_by (check_at text c) ≡ true → (p : ℕ × ℕ) × ((check_at text c ≡ Some p) × CheckAt text c p.0 p.1)
streams_is text c h = streams_from text c (check_at text c) refl h

not_streams : master ≡ shadow → ⊥
not_streams h = search (rules, h)

opposed_differ : (x y : ℕ) → Opposed x y → x ≢ y
opposed_differ x y (inl k) e = not_streams (one_role master shadow y (subst (Of master) e k.0) k.1)
opposed_differ x y (inr k) e = not_streams (sym (one_role shadow master y (subst (Of shadow) e k.0) k.1))

opposed_left : (x y : ℕ) → Opposed x y → x ≢ 0
opposed_left x y (inl k) e = zero_free master (subst (Of master) e k.0)
opposed_left x y (inr k) e = zero_free shadow (subst (Of shadow) e k.0)

opposed_right : (x y : ℕ) → Opposed x y → y ≢ 0
opposed_right x y (inl k) e = zero_free shadow (subst (Of shadow) e k.1)
opposed_right x y (inr k) e = zero_free master (subst (Of master) e k.1)

pub is_streams : (text : List ℕ) (c x y : ℕ) → CheckAt text c x y → streams_by (check_at text c) ≡ true
is_streams text c x y k =
    ap (λ (o : Option (ℕ × ℕ)). streams_by o) (is_check text c x y (record { differ = opposed_differ x y k.streams; x_not_zero = opposed_left x y k.streams; y_not_zero = opposed_right x y k.streams; check = k.compares; report = k.report })) ∙ is_opposed x y k.streams

-- products
fits_is : (o : Option Role) (X Y : Role) → fits_role o X ≡ true → o ≡ Some Y → Y ≡ X
fits_is None X Y h e = absurd (no_role Y e)
  where
    no_role : (Y : Role) → None ≡ Some Y → ⊥
    no_role Y h = search (rules, h)
fits_is (Some Z) X Y h e = some_role Y X (sym e ∙ role_by (Some Z) X h)
  where
    some_role : (A B : Role) → Some A ≡ Some B → A ≡ B
    some_role A B h = search (rules, h)

is_fits : (o : Option Role) (X : Role) → ((Y : Role) → o ≡ Some Y → Y ≡ X) → fits_role o X ≡ true
is_fits None X f = refl
is_fits (Some Z) X f = subst (λ (W : Role). same_role (Some Z) W ≡ true) (f Z refl) (self_role Z)

-- the registers of a product are its pair
pair_among : (i : Instr) → is_product i ≡ true → reads_of i ≡ (pair_of (row i).reads).0 ∷ (pair_of (row i).reads).1 ∷ []
pair_among (Mult rs rt) h = refl
pair_among (Multu rs rt) h = refl
pair_among (Div rs rt) h = refl
pair_among (Divu rs rt) h = refl
pair_among _ h = absurd (no_truth h)

pub product_is : (i : Instr) (X : Role) → product_by (Some i) X ≡ true → IsProductOf X i
product_is i X h =
    let p : ℕ × ℕ = pair_of (row i).reads in
    let a : (is_product i ≡ true) × (product_pair X p ≡ true) = and_parts (is_product i) (product_pair X p) h in
    let e : reads_of i ≡ p.0 ∷ p.1 ∷ [] = pair_among i a.0 in
    let b : ((of X p.0 || of X p.1) ≡ true) × ((fits_role (role_of p.0) X && fits_role (role_of p.1) X) ≡ true) = and_parts (of X p.0 || of X p.1) (fits_role (role_of p.0) X && fits_role (role_of p.1) X) a.1 in
    let f : (fits_role (role_of p.0) X ≡ true) × (fits_role (role_of p.1) X ≡ true) = and_parts (fits_role (role_of p.0) X) (fits_role (role_of p.1) X) b.1 in
    let other : (r : ℕ) (Y : Role) → IsTrue (among r (reads_of i)) → Of Y r → Y ≡ X = λ r Y m o. elim (to_among r (p.0 ∷ p.1 ∷ []) (subst (λ (l : List ℕ). IsTrue (among r l)) e m)) as (λ z. Y ≡ X) [
      | inl z ↦ fits_is (role_of p.0) X Y f.0 (subst (Of Y) z o)
      | inr (inl z) ↦ fits_is (role_of p.1) X Y f.1 (subst (Of Y) z o)
      | inr (inr z) ↦ absurd z
    ] in
    elim (or_parts (of X p.0) (of X p.1) b.0) as (λ z. IsProductOf X i) [
      | inl k ↦ record { product = a.0; some = p.0; reads_some = subst (λ (l : List ℕ). IsTrue (among p.0 l)) (sym e) (from_among p.0 (p.0 ∷ p.1 ∷ []) (inl refl)); of_stream = of_is X p.0 k; no_other = other }
      | inr k ↦ record { product = a.0; some = p.1; reads_some = subst (λ (l : List ℕ). IsTrue (among p.1 l)) (sym e) (from_among p.1 (p.0 ∷ p.1 ∷ []) (inr (inl refl))); of_stream = of_is X p.1 k; no_other = other }
    ]

pub is_product_of : (i : Instr) (X : Role) → IsProductOf X i → product_by (Some i) X ≡ true
is_product_of i X k =
    let p : ℕ × ℕ = pair_of (row i).reads in
    let e : reads_of i ≡ p.0 ∷ p.1 ∷ [] = pair_among i k.product in
    let has : (r : ℕ) → (r ≡ p.0) ⊎ ((r ≡ p.1) ⊎ ⊥) → IsTrue (among r (reads_of i)) = λ r m. subst (λ (l : List ℕ). IsTrue (among r l)) (sym e) (from_among r (p.0 ∷ p.1 ∷ []) m) in
    and_both (is_product i) (product_pair X p) k.product
    (and_both (of X p.0 || of X p.1) (fits_role (role_of p.0) X && fits_role (role_of p.1) X)
    (elim (to_among k.some (p.0 ∷ p.1 ∷ []) (subst (λ (l : List ℕ). IsTrue (among k.some l)) e k.reads_some)) as (λ z. (of X p.0 || of X p.1) ≡ true) [
      | inl z ↦ or_first (of X p.0) (of X p.1) (is_of X p.0 (subst (Of X) z k.of_stream))
      | inr (inl z) ↦ or_second (of X p.0) (of X p.1) (is_of X p.1 (subst (Of X) z k.of_stream))
      | inr (inr z) ↦ absurd z
    ])
    (and_both (fits_role (role_of p.0) X) (fits_role (role_of p.1) X) (is_fits (role_of p.0) X (λ Y o. k.no_other p.0 Y (has p.0 (inl refl)) o)) (is_fits (role_of p.1) X (λ Y o. k.no_other p.1 Y (has p.1 (inr (inl refl))) o))))

pub implied : (x y : Bool) → implies x y ≡ true → x ≡ true → y ≡ true
implied true y h k = h
implied false y h k = absurd (no_truth k)

pub is_implied : (x y : Bool) → (x ≡ true → y ≡ true) → implies x y ≡ true
is_implied true y f = f refl
is_implied false y f = refl

product_at : (text : List ℕ) (a : ℕ) (X : Role) → product_by (instr_at text a) X ≡ true → (i : Instr) × (At text a i × IsProductOf X i)
product_at text a X h = by (instr_at text a) refl h
  where
    by : (o : Option Instr) → instr_at text a ≡ o → product_by o X ≡ true → (i : Instr) × (At text a i × IsProductOf X i)
    by None e h = absurd (no_truth h)
    by (Some i) e h = (i, (e, product_is i X h))

at_product : (text : List ℕ) (a : ℕ) (X : Role) → (i : Instr) × (At text a i × IsProductOf X i) → product_by (instr_at text a) X ≡ true
at_product text a X k = ap (λ (o : Option Instr). product_by o X) k.1.0 ∙ is_product_of k.0 X k.1.1

module _ (text : List ℕ) (entry : ℕ) (bits : List Bool) (out : Option ℕ) (fits : IsText text) (table : Table text (IsStart text entry) bits out) where
  guarded_one : (r c a : ℕ) → InText text a → guarded_from text bits r c a ≡ true → (IsStart text entry a → ⊥) → IsGuarded text entry a r
  guarded_one r c a t h n =
      let p : (streams_by (check_at text c) ≡ true) × ((window text r c a && leads text bits r c a) ≡ true) = and_parts (streams_by (check_at text c)) (window text r c a && leads text bits r c a) h in
      let q : (window text r c a ≡ true) × (leads text bits r c a ≡ true) = and_parts (window text r c a) (leads text bits r c a) p.1 in
      let s : (v : ℕ × ℕ) × ((check_at text c ≡ Some v) × CheckAt text c v.0 v.1) = streams_is text c p.0 in
      let w : WindowAt text r c a = window_is text r c a t.aligned q.0 in
      record { no_start = n; c = c; x = w.p.0; y = w.p.1; check = subst (λ (v : ℕ × ℕ). CheckAt text c v.0 v.1) (pair_same s.0 w.p (sym s.1.0 ∙ w.is)) s.1.1; window = w.window; path = leads_is text entry bits out fits table r c a t q.1 }

  -- a path of more than one word does not end at a start
  path_no_start : (r c a : ℕ) → c + 4 ≤ a → Path text entry c r a → IsStart text entry a → ⊥
  path_no_start r c a l (Path.first _ e) s = no_room a c e l
    where
      no_room : (a c : ℕ) → a ≡ c → c + 4 ≤ a → ⊥
      no_room a c e h = omega arith
  path_no_start r c a l (Path.then _ p q m n u v w) s = u s

  pub guarded_is : (a r : ℕ) → InText text a → guarded text bits a r ≡ true → IsGuarded text entry a r
  guarded_is a r t h =
      let k : (c : ℕ) × (guarded_from text bits r c a ≡ true) = one_of_four (λ (c : ℕ). guarded_from text bits r c a) a h in
      let p : (window text r k.0 a && leads text bits r k.0 a) ≡ true = (and_parts (streams_by (check_at text k.0)) (window text r k.0 a && leads text bits r k.0 a) k.1).1 in
      let q : (window text r k.0 a ≡ true) × (leads text bits r k.0 a ≡ true) = and_parts (window text r k.0 a) (leads text bits r k.0 a) p in
      guarded_one r k.0 a t k.1 (path_no_start r k.0 a (window_is text r k.0 a t.aligned q.0).window.from (leads_is text entry bits out fits table r k.0 a t q.1))

  pub is_guarded : (a r : ℕ) → IsGuarded text entry a r → guarded text bits a r ≡ true
  is_guarded a r g =
      any_four (λ (c : ℕ). guarded_from text bits r c a) g.c a (window_near text g.c g.x g.y a r g.window)
      (and_both (streams_by (check_at text g.c)) (window text r g.c a && leads text bits r g.c a) (is_streams text g.c g.x g.y g.check)
      (and_both (window text r g.c a) (leads text bits r g.c a) (is_window text g.c g.x g.y a r g.window)
      (is_leads text entry bits out fits table r g.c a g.window.from (trans_le a g.window.use_at (g.c + 16) g.window.upto g.window.within) g.path)))

  -- where HI and LO come from
  pub products_is : (X : Role) (a : ℕ) → InText text a → products text bits X a ≡ true → ProductsOf text entry X a
  products_is X a t h =
      let p : (not (starts_at bits a) ≡ true) × (((near_before text a || far_before text a) && (implies (near_before text a) (product_by (instr_at text (a - 4)) X) && implies (far_before text a) (product_by (instr_at text (a - 8)) X))) ≡ true) = and_parts (not (starts_at bits a)) ((near_before text a || far_before text a) && (implies (near_before text a) (product_by (instr_at text (a - 4)) X) && implies (far_before text a) (product_by (instr_at text (a - 8)) X))) h in
      let q : ((near_before text a || far_before text a) ≡ true) × ((implies (near_before text a) (product_by (instr_at text (a - 4)) X) && implies (far_before text a) (product_by (instr_at text (a - 8)) X)) ≡ true) = and_parts (near_before text a || far_before text a) (implies (near_before text a) (product_by (instr_at text (a - 4)) X) && implies (far_before text a) (product_by (instr_at text (a - 8)) X)) p.1 in
      let s : (implies (near_before text a) (product_by (instr_at text (a - 4)) X) ≡ true) × (implies (far_before text a) (product_by (instr_at text (a - 8)) X) ≡ true) = and_parts (implies (near_before text a) (product_by (instr_at text (a - 4)) X)) (implies (far_before text a) (product_by (instr_at text (a - 8)) X)) q.1 in
      let n : IsStart text entry a → ⊥ = λ w. not_parts (starts_at bits a) p.0 (is_start text entry bits out table a t w) in
      let each : (v : ℕ) → Next text v a → (i : Instr) × (At text v i × IsProductOf X i) = λ v k. elim (before_is text entry v a fits n k) as (λ z. (i : Instr) × (At text v i × IsProductOf X i)) [
        | inl z ↦ product_at text v X (subst (λ (x : ℕ). product_by (instr_at text x) X ≡ true) (sym z.0) (implied (near_before text a) (product_by (instr_at text (a - 4)) X) s.0 z.1))
        | inr z ↦ product_at text v X (subst (λ (x : ℕ). product_by (instr_at text x) X ≡ true) (sym z.0) (implied (far_before text a) (product_by (instr_at text (a - 8)) X) s.1 z.1))
      ] in
      elim (or_parts (near_before text a) (far_before text a) q.0) as (λ z. ProductsOf text entry X a) [
        | inl k ↦ record { no_start = n; before = a - 4; leads = near_is text a k; each = each }
        | inr k ↦ record { no_start = n; before = a - 8; leads = far_is text a fits k; each = each }
      ]

  pub is_products : (X : Role) (a : ℕ) → ProductsOf text entry X a → products text bits X a ≡ true
  is_products X a k =
      and_both (not (starts_at bits a)) ((near_before text a || far_before text a) && (implies (near_before text a) (product_by (instr_at text (a - 4)) X) && implies (far_before text a) (product_by (instr_at text (a - 8)) X)))
      (not_is (starts_at bits a) (λ h. k.no_start (start_is text entry bits out table a h)))
      (and_both (near_before text a || far_before text a) (implies (near_before text a) (product_by (instr_at text (a - 4)) X) && implies (far_before text a) (product_by (instr_at text (a - 8)) X))
      (elim (before_is text entry k.before a fits k.no_start k.leads) as (λ z. (near_before text a || far_before text a) ≡ true) [ inl z ↦ or_first (near_before text a) (far_before text a) z.1 | inr z ↦ or_second (near_before text a) (far_before text a) z.1 ])
      (and_both (implies (near_before text a) (product_by (instr_at text (a - 4)) X)) (implies (far_before text a) (product_by (instr_at text (a - 8)) X))
      (is_implied (near_before text a) (product_by (instr_at text (a - 4)) X) (λ h. at_product text (a - 4) X (k.each (a - 4) (near_is text a h))))
      (is_implied (far_before text a) (product_by (instr_at text (a - 8)) X) (λ h. at_product text (a - 8) X (k.each (a - 8) (far_is text a fits h))))))

-- the windows of a text
serving_is : (text : List ℕ) (a : ℕ) → serving (instr_at text a) ≡ true → At text a Syscall
serving_is text a h = by (instr_at text a) refl h
  where
    by : (o : Option Instr) → instr_at text a ≡ o → serving o ≡ true → At text a Syscall
    by None e h = absurd (no_truth h)
    by (Some Syscall) e h = e
    by (Some _) e h = absurd (no_truth h)

four_back : (a : ℕ) → 0x00400000 ≤ a - 4 → a ≡ a - 4 + 4
four_back a h = omega arith

back_four : (a b : ℕ) → a ≡ b + 4 → b ≡ a - 4
back_four a b h = omega arith

pub near_window : (text : List ℕ) (a r : ℕ) → a % 4 ≡ 0 → near text a r ≡ true → Near text a r
near_window text a r al h = elim (or_parts (window text r (a - 4) a || (window text r (a - 8) a || (window text r (a - 12) a || window text r (a - 16) a))) ((r == 2) && (serving (instr_at text a) || (serving (instr_at text (a - 4)) && reads_by (instr_at text a) 2))) h) as (λ z. Near text a r) [
  | inl k ↦
      let c : (c : ℕ) × (window text r c a ≡ true) = one_of_four (λ (c : ℕ). window text r c a) a k in
      let w : WindowAt text r c.0 a = window_is text r c.0 a al c.1 in
      checked c.0 w.p.0 w.p.1 w.window
  | inr k ↦
      let p : ((r == 2) ≡ true) × ((serving (instr_at text a) || (serving (instr_at text (a - 4)) && reads_by (instr_at text a) 2)) ≡ true) = and_parts (r == 2) (serving (instr_at text a) || (serving (instr_at text (a - 4)) && reads_by (instr_at text a) 2)) k in
      elim (or_parts (serving (instr_at text a)) (serving (instr_at text (a - 4)) && reads_by (instr_at text a) 2) p.1) as (λ z. Near text a r) [
        | inl s ↦ service (serving_is text a s) (same_number r 2 p.0)
        | inr s ↦
            let q : (serving (instr_at text (a - 4)) ≡ true) × (reads_by (instr_at text a) 2 ≡ true) = and_parts (serving (instr_at text (a - 4))) (reads_by (instr_at text a) 2) s in
            let v : At text (a - 4) Syscall = serving_is text (a - 4) q.0 in
            result (a - 4) (four_back a (in_text text (a - 4) Syscall v).from) v (reads_is text a 2 q.1) (same_number r 2 p.0)
      ]
]

pub window_near_is : (text : List ℕ) (a r : ℕ) → Near text a r → near text a r ≡ true
window_near_is text a r (checked c x y w) = or_first (window text r (a - 4) a || (window text r (a - 8) a || (window text r (a - 12) a || window text r (a - 16) a))) ((r == 2) && (serving (instr_at text a) || (serving (instr_at text (a - 4)) && reads_by (instr_at text a) 2)))
    (any_four (λ (c : ℕ). window text r c a) c a (window_near text c x y a r w) (is_window text c x y a r w))
window_near_is text a r (service h e) = or_second (window text r (a - 4) a || (window text r (a - 8) a || (window text r (a - 12) a || window text r (a - 16) a))) ((r == 2) && (serving (instr_at text a) || (serving (instr_at text (a - 4)) && reads_by (instr_at text a) 2)))
    (and_both (r == 2) (serving (instr_at text a) || (serving (instr_at text (a - 4)) && reads_by (instr_at text a) 2)) (number_same r 2 e) (or_first (serving (instr_at text a)) (serving (instr_at text (a - 4)) && reads_by (instr_at text a) 2) (ap (λ (o : Option Instr). serving o) h)))
window_near_is text a r (result b e h k z) = or_second (window text r (a - 4) a || (window text r (a - 8) a || (window text r (a - 12) a || window text r (a - 16) a))) ((r == 2) && (serving (instr_at text a) || (serving (instr_at text (a - 4)) && reads_by (instr_at text a) 2)))
    (and_both (r == 2) (serving (instr_at text a) || (serving (instr_at text (a - 4)) && reads_by (instr_at text a) 2)) (number_same r 2 z)
    (or_second (serving (instr_at text a)) (serving (instr_at text (a - 4)) && reads_by (instr_at text a) 2)
    (and_both (serving (instr_at text (a - 4))) (reads_by (instr_at text a) 2) (subst (λ (x : ℕ). serving (instr_at text x) ≡ true) (back_four a b e) (ap (λ (o : Option Instr). serving o) h)) (is_reads text a 2 k))))
