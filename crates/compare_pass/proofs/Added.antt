-- The items of checks are in range and go nowhere; all others stand in the old block.
use Rattle.std.proofs.Common.{◌≡◌, ◌≢◌, ◌≤◌, ◌<◌, ℕ, zero, suc, ◌+◌, ◌%◌, ◌^◌, arith, ap, refl, sym, ◌∙◌, subst, List, [], ◌∷◌, ◌++◌, append_assoc, length, get_or, Bool, true, false, cond, not, inl, inr, flat_map, ⊎_elim}
use Rattle.std.specs.Prelude.{◌⊎◌, ◌==◌, ◌&&◌, ◌||◌, IsTrue, Contains, if◌then◌else◌}
use Rattle.std.proofs.lemmas.List.Elements.{Contains-append_left, Contains-append_right, Contains-push, Contains-append_cases}
use Rattle.mips_isa.specs.declared.instr.Instr.TheVariants as mips
use Rattle.hard_items.specs.declared.code.Class.{Class}
use Rattle.hard_items.specs.declared.code.Class.TheVariants as class
use Rattle.hard_items.specs.declared.code.Item.{Item}
use Rattle.hard_items.specs.Streams.{is_master, is_stream, shadow_of, nop, plain}
use Rattle.hard_items.specs.Forms.{Form, Alone, Product, Store, Test, Output, Takes, Idle, Close, Jump, Branch, Call, Return, Exit, form_items, close_items, block_of, Each, FormFits, CloseFits, Formed, check, check_if, is_value}
use Rattle.hard_items.specs.Rules.{use_checks}
use Rattle.hard_items.specs.Counts.{is_of_check}
use Rattle.hard_items.specs.Keeping.{IsAdded}
use Rattle.compare_pass.specs.Guarding.{guarded, acting, number_items, checks, with_checks, acts, is_number}

no_true : true ≡ false → ⊥
no_true e = cc

-- ---- the registers of checks

abbrev SmallPair : ℕ × ℕ → Type 0
SmallPair c = (c.0 < 32) × (c.1 < 32)

-- The checks of an item that acts for both streams are of registers.
abbrev pub ChecksFit : Item → Type 0
ChecksFit i = acts i.class ≡ true → Each SmallPair (use_checks i.instr)

stream_rests : (c : Class) → is_stream c ≡ true → acts c ≡ true → ⊥
stream_rests class.Master h e = no_true (sym e)
stream_rests class.Shadow h e = no_true (sym e)
stream_rests class.Check h e = no_true (sym h)
stream_rests class.Act h e = no_true (sym h)
stream_rests class.Head h e = no_true (sym h)
stream_rests class.Input h e = no_true (sym h)

value_small : (r : ℕ) → IsTrue (is_value r) → SmallPair (r, shadow_of r)
value_small r h = ((grind arith), (grind arith))

stored_small : (v : ℕ) → IsTrue (is_value v || v == 31) → SmallPair (v, shadow_of v)
stored_small v h = ((grind arith), (grind arith))

base_small : (b : ℕ) → IsTrue (is_value b || b == 29) → SmallPair (b, shadow_of b)
base_small b h = ((grind arith), (grind arith))

shadow_not : (v : ℕ) → IsTrue (is_value v || v == 31) → is_master (shadow_of v) ≡ false
shadow_not v h = grind arith

either : (z : Bool) (xs : List (ℕ × ℕ)) → Each SmallPair xs → Each SmallPair (if z then xs else [])
either true xs h = h
either false xs h = tt

each_both : {A : Type 0} (P : A → Type 0) (xs ys : List A) → Each P xs → Each P ys → Each P (xs ++ ys)
each_both P [] ys h k = k
each_both P (x ∷ xs) ys h k = (h.0, each_both P xs ys h.1 k)

check_fit : (x y : ℕ) → Each ChecksFit (check x y)
check_fit x y = ((λ e. absurd (no_true (sym e))), ((λ e. absurd (no_true (sym e))), ((λ e. absurd (no_true (sym e))), tt)))

check_if_fit : (c : Bool) (m : ℕ) → Each ChecksFit (check_if c m)
check_if_fit true m = check_fit m (shadow_of m)
check_if_fit false m = tt

form_fit : (f : Form) → FormFits f → Each ChecksFit (form_items f)
form_fit (Alone i) h = ((λ e. absurd (stream_rests i.class h.stream e)), tt)
form_fit (Product i j) h = ((λ e. absurd (stream_rests i.class h.stream e)), ((λ e. absurd (stream_rests j.class (ap (λ (c : Class). is_stream c) (sym h.one_stream) ∙ h.stream) e)), tt))
form_fit (Store c v b k) h = each_both ChecksFit (check_if c v) (check_if c b ++ stores) (check_if_fit c v) (each_both ChecksFit (check_if c b) stores (check_if_fit c b) (
  (λ e. either (is_master v) ((v, shadow_of v) ∷ (b, shadow_of b) ∷ []) (stored_small v h.0, (base_small b h.1, tt))),
  ((λ e. subst (λ (z : Bool). Each SmallPair (if z then (shadow_of v, shadow_of (shadow_of v)) ∷ (shadow_of b, shadow_of (shadow_of b)) ∷ [] else [])) (sym (shadow_not v h.0)) tt), tt),
))
  where
    stores : List Item
    stores = plain (mips.Sw v b k) class.Act ∷ plain (mips.Sw (shadow_of v) (shadow_of b) ((k + 4) % 2 ^ 16)) class.Act ∷ []
form_fit (Test c r code) h = each_both ChecksFit (check_if c r) tests (check_if_fit c r) ((λ e. (value_small r h.0, tt)), ((λ e. tt), ((λ e. tt), tt)))
  where
    tests : List Item
    tests = plain (mips.Bne r 0 2) class.Act ∷ plain nop class.Act ∷ plain (mips.Break code) class.Act ∷ []
form_fit (Output true) h = ((λ e. absurd (no_true (sym e))), ((λ e. ((omega arith, omega arith), tt)), ((λ e. absurd (no_true (sym e))), ((λ e. tt), tt))))
form_fit (Output false) h = ((λ e. ((omega arith, omega arith), tt)), ((λ e. tt), tt))
form_fit (Takes r) h = ((λ e. absurd (no_true (sym e))), ((λ e. absurd (no_true (sym e))), ((λ e. absurd (no_true (sym e))), ((λ e. absurd (no_true (sym e))), tt))))
form_fit Idle h = ((λ e. tt), tt)

close_fit : (c : Close) → CloseFits c → Each ChecksFit (close_items c)
close_fit (Jump to) h = ((λ e. tt), ((λ e. tt), tt))
close_fit (Branch c r true to) h = each_both ChecksFit (check_if c r) _ (check_if_fit c r) ((λ e. (value_small r h, tt)), ((λ e. tt), tt))
close_fit (Branch c r false to) h = each_both ChecksFit (check_if c r) _ (check_if_fit c r) ((λ e. (value_small r h, tt)), ((λ e. tt), tt))
close_fit (Call f) h = ((λ e. tt), ((λ e. tt), tt))
close_fit (Return c) h = each_both ChecksFit (check_if c 31) _ (check_if_fit c 31) ((λ e. ((omega arith, omega arith), tt)), ((λ e. tt), tt))
close_fit (Exit true) h = ((λ e. absurd (no_true (sym e))), ((λ e. ((omega arith, omega arith), tt)), ((λ e. absurd (no_true (sym e))), ((λ e. tt), ((λ e. tt), tt)))))
close_fit (Exit false) h = ((λ e. ((omega arith, omega arith), tt)), ((λ e. tt), ((λ e. tt), tt)))

block_fit : (fs : List Form) (c : Close) → Each FormFits fs → CloseFits c → Each ChecksFit (block_of fs c)
block_fit [] c h k = close_fit c k
block_fit (f ∷ fs) c h k = subst (Each ChecksFit) (sym (append_assoc (form_items f) (flat_map form_items fs) (close_items c))) (each_both ChecksFit (form_items f) (block_of fs c) (form_fit f h.0) (block_fit fs c h.1 k))

pub formed_fit : (xs : List Item) → Formed xs → Each ChecksFit xs
formed_fit xs f = subst (Each ChecksFit) (sym f.is) (block_fit f.forms f.close f.fit f.close_fits)

-- ---- what is added

nop_added : IsAdded (plain nop class.Check)
nop_added = record { in_range = (omega arith, omega arith, omega arith, omega arith); no_field = refl; stays = refl }

compare_added : (x y : ℕ) → x < 32 → y < 32 → IsAdded (plain (mips.Beq x y 2) class.Check)
compare_added x y h k = record { in_range = (h, k, omega arith); no_field = refl; stays = refl }

break_added : IsAdded (plain (mips.Break 1) class.Check)
break_added = record { in_range = omega arith; no_field = refl; stays = refl }

-- An item of a list is one that is told, or added.
abbrev Old : Item → List Item → Type 0
Old x xs = (i : Item) → Contains xs i → (x ≡ i) ⊎ IsAdded i

first_is : (x i : Item) → Contains (x ∷ []) i → x ≡ i
first_is x i c = by c.0 c.1 c.2
  where
    by : (k : ℕ) → k < length (x ∷ []) → get_or (x ∷ []) k i ≡ i → x ≡ i
    by zero h e = e
    by (suc k) h e = absurd (Rattle.std.proofs.Common.not-suc-le-zero (Rattle.std.proofs.Common.le_of_suc-le-suc h))

cons_cases : (x i : Item) (xs : List Item) → Contains (x ∷ xs) i → (x ≡ i) ⊎ Contains xs i
cons_cases x i xs c = ⊎_elim (λ y. inl (first_is x i y)) (λ y. inr y) (Contains-append_cases (x ∷ []) xs i c)

none_in : (i : Item) → Contains [] i → ⊥
none_in i c = Rattle.std.proofs.Common.not-suc-le-zero c.1

check_added : (x y : ℕ) (i : Item) → SmallPair (x, y) → Contains (check x y) i → IsAdded i
check_added x y i s c = ⊎_elim (λ e. subst IsAdded e (compare_added x y s.0 s.1))
    (λ d. ⊎_elim (λ e. subst IsAdded e nop_added) (λ f. subst IsAdded (first_is (plain (mips.Break 1) class.Check) i f) break_added) (cons_cases (plain nop class.Check) i (plain (mips.Break 1) class.Check ∷ []) d))
    (cons_cases (plain (mips.Beq x y 2) class.Check) i (plain nop class.Check ∷ plain (mips.Break 1) class.Check ∷ []) c)

checks_added : (cs : List (ℕ × ℕ)) (i : Item) → Each SmallPair cs → Contains (checks cs) i → IsAdded i
checks_added [] i s c = absurd (none_in i c)
checks_added (x ∷ cs) i s c = ⊎_elim (λ d. check_added x.0 x.1 i s.0 d) (λ d. checks_added cs i s.1 d) (Contains-append_cases (check x.0 x.1) (checks cs) i c)

acting_old : (i : Item) → Each SmallPair (use_checks i.instr) → Old i (acting i)
acting_old i s = elim (is_number i.instr) as (λ v. Old i (cond v (number_items i) (checks (use_checks i.instr) ++ i ∷ []))) [
  | true ↦ λ j c. ⊎_elim (λ e. inr (subst IsAdded e (compare_added 4 14 (omega arith) (omega arith))))
      (λ d. ⊎_elim (λ e. inl e) (λ f. inr (subst IsAdded (first_is (plain (mips.Break 1) class.Check) j f) break_added)) (cons_cases i j (plain (mips.Break 1) class.Check ∷ []) d))
      (cons_cases (plain (mips.Beq 4 14 2) class.Check) j (i ∷ plain (mips.Break 1) class.Check ∷ []) c)
  | false ↦ λ j c. ⊎_elim (λ d. inr (checks_added (use_checks i.instr) j s d)) (λ d. inl (first_is i j d)) (Contains-append_cases (checks (use_checks i.instr)) (i ∷ []) j c)
]

guarded_old : (z : Bool) (i : Item) → ChecksFit i → Old i (guarded z i)
guarded_old z i f = elim (acts i.class && not z) as (λ v. (acts i.class && not z) ≡ v → Old i (cond v (acting i) (i ∷ []))) [
  | true ↦ λ e. acting_old i (f (and_left (acts i.class) (not z) e))
  | false ↦ λ e j c. inl (first_is i j c)
] refl
  where
    and_left : (x y : Bool) → (x && y) ≡ true → x ≡ true
    and_left true y h = refl
    and_left false y h = h

pub all_old : (z : Bool) (xs : List Item) → Each ChecksFit xs → (i : Item) → Contains (with_checks z xs) i → Contains xs i ⊎ IsAdded i
all_old z [] h i c = inl c
all_old z (x ∷ xs) h i c = ⊎_elim (λ d. ⊎_elim (λ e. inl (Contains-append_left (x ∷ []) xs i (subst (λ (y : Item). Contains (x ∷ []) y) e (Contains-push [] x)))) (λ y. inr y) (guarded_old z x h.0 i d))
    (λ d. ⊎_elim (λ y. inl (Contains-append_right (x ∷ []) xs i y)) (λ y. inr y) (all_old (is_of_check x.class) xs h.1 i d))
    (Contains-append_cases (guarded z x) (with_checks (is_of_check x.class) xs) i c)

-- ---- each item stands in what becomes of it

itself : (z : Bool) (i : Item) → Contains (guarded z i) i
itself z i = elim (acts i.class && not z) as (λ v. Contains (cond v (acting i) (i ∷ [])) i) [
  | true ↦ elim (is_number i.instr) as (λ v. Contains (cond v (number_items i) (checks (use_checks i.instr) ++ i ∷ [])) i) [
    | true ↦ (1, Rattle.std.proofs.Common.suc-le-suc (Rattle.std.proofs.Common.zero-lt-suc 1), refl)
    | false ↦ Contains-push (checks (use_checks i.instr)) i
  ]
  | false ↦ (0, Rattle.std.proofs.Common.zero-lt-suc 0, refl)
]

pub all_kept : (z : Bool) (xs : List Item) (i : Item) → Contains xs i → Contains (with_checks z xs) i
all_kept z [] i c = c
all_kept z (x ∷ xs) i c = ⊎_elim (λ e. Contains-append_left (guarded z x) (with_checks (is_of_check x.class) xs) i (subst (λ (y : Item). Contains (guarded z x) y) e (itself z x)))
    (λ d. Contains-append_right (guarded z x) (with_checks (is_of_check x.class) xs) i (all_kept (is_of_check x.class) xs i d)) (cons_cases x i xs c)
