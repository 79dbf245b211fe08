-- Words without their checks: of words of the same sorts they are of the same sorts, and of a text those of its parts.
use Rattle.std.proofs.Common.{◌≡◌, ℕ, suc, zero, arith, ap, refl, sym, ◌∙◌, subst, List, [], ◌∷◌, ◌++◌, Bool, true, false, cond, inl, inr}
use Rattle.std.specs.Prelude.{◌⊎◌, ◌==◌, ◌&&◌}
use Rattle.mips_isa.specs.declared.instr.Instr.{Instr}
use Rattle.mips_isa.specs.declared.instr.Instr.TheVariants.{Sll, Beq, Break, Xori}
use Rattle.mips_text.specs.Turns as turns
use Rattle.mips_text.specs.Turns.{is_nop, crosses, without_checks}
use Rattle.layout_facts.proofs.Parts.{Like, AllLike, may_check, strong, strong_test, turns_like}

no_true : true ≡ false → ⊥
no_true e = cc

-- The three words of a check.
abbrev opens : Instr → Bool
opens (Beq x y (suc (suc zero))) = crosses x y
opens i = false

abbrev stops : Instr → Bool
stops (Break (suc zero)) = true
stops i = false

first_stays : (a : Instr) (r : List Instr) → opens a ≡ false → without_checks (a ∷ r) ≡ a ∷ without_checks r
first_stays (Beq x y (suc (suc zero))) (Sll zero zero zero ∷ Break (suc zero) ∷ r) h = ap (λ (z : Bool). cond z (without_checks r) (Beq x y 2 ∷ Sll 0 0 0 ∷ Break 1 ∷ without_checks r)) h
first_stays a r h = refl

second_stays : (a b : Instr) (r : List Instr) → is_nop b ≡ false → without_checks (a ∷ b ∷ r) ≡ a ∷ without_checks (b ∷ r)
second_stays (Beq x y (suc (suc zero))) (Sll zero zero zero) r h = absurd (no_true h)
second_stays a b r h = refl

third_stays : (a b c : Instr) (r : List Instr) → stops c ≡ false → without_checks (a ∷ b ∷ c ∷ r) ≡ a ∷ without_checks (b ∷ c ∷ r)
third_stays (Beq x y (suc (suc zero))) (Sll zero zero zero) (Break (suc zero)) r h = absurd (no_true h)
third_stays a b c r h = refl

record Opening (a : Instr) : Type 0 where
  x : ℕ
  y : ℕ
  is : a ≡ Beq x y 2
  crossing : crosses x y ≡ true

opening : (a : Instr) → opens a ≡ true → Opening a
opening (Beq x y (suc (suc zero))) h = record { x = x; y = y; is = refl; crossing = h }
opening a h = absurd (no_true (sym h))

slot_is : (b : Instr) → is_nop b ≡ true → b ≡ Sll 0 0 0
slot_is (Sll rd rt sh) h =
    ap (λ (n : ℕ). Sll n rt sh) (zero_is rd (left (rd == 0) (rt == 0 && sh == 0) h)) ∙
    (ap (λ (n : ℕ). Sll 0 n sh) (zero_is rt (left (rt == 0) (sh == 0) (right (rd == 0) (rt == 0 && sh == 0) h))) ∙
    ap (λ (n : ℕ). Sll 0 0 n) (zero_is sh (right (rt == 0) (sh == 0) (right (rd == 0) (rt == 0 && sh == 0) h))))
  where
    zero_is : (n : ℕ) → (n == 0) ≡ true → n ≡ 0
    zero_is n h = grind arith

    left : (x y : Bool) → (x && y) ≡ true → x ≡ true
    left true y e = refl
    left false y e = e

    right : (x y : Bool) → (x && y) ≡ true → y ≡ true
    right true y e = e
    right false y e = absurd (no_true (sym e))
slot_is b h = absurd (no_true (sym h))

stop_is : (c : Instr) → stops c ≡ true → c ≡ Break 1
stop_is (Break (suc zero)) h = refl
stop_is c h = absurd (no_true (sym h))

check_goes : (a b c : Instr) (r : List Instr) → opens a ≡ true → is_nop b ≡ true → stops c ≡ true → without_checks (a ∷ b ∷ c ∷ r) ≡ without_checks r
check_goes a b c r e f g =
    let o : Opening a = opening a e in
    ap (λ (z : Instr). without_checks (z ∷ b ∷ c ∷ r)) o.is ∙ (ap (λ (z : Instr). without_checks (Beq o.x o.y 2 ∷ z ∷ c ∷ r)) (slot_is b f) ∙
    (ap (λ (z : Instr). without_checks (Beq o.x o.y 2 ∷ Sll 0 0 0 ∷ z ∷ r)) (stop_is c g) ∙
    ap (λ (z : Bool). cond z (without_checks r) (Beq o.x o.y 2 ∷ Sll 0 0 0 ∷ Break 1 ∷ without_checks r)) o.crossing))

one_stays : (a : Instr) → without_checks (a ∷ []) ≡ a ∷ []
one_stays (Beq x y (suc (suc zero))) = refl
one_stays a = refl

two_part : (a b : Instr) → without_checks (a ∷ b ∷ []) ≡ a ∷ without_checks (b ∷ [])
two_part (Beq x y (suc (suc zero))) (Sll zero zero zero) = refl
two_part a b = refl

two_stay : (a b : Instr) → without_checks (a ∷ b ∷ []) ≡ a ∷ b ∷ []
two_stay a b = two_part a b ∙ ap (λ (z : List Instr). a ∷ z) (one_stays b)

-- Three words are a check, which goes, or the first of them stays.
data Seen (a b c : Instr) : Type 0 where
  check : opens a ≡ true → is_nop b ≡ true → stops c ≡ true → Seen a b c
  word : (opens a ≡ false) ⊎ ((is_nop b ≡ false) ⊎ (stops c ≡ false)) → Seen a b c

seen : (a b c : Instr) → Seen a b c
seen a b c = by (opens a) (is_nop b) (stops c) refl refl refl
  where
    by : (x y z : Bool) → opens a ≡ x → is_nop b ≡ y → stops c ≡ z → Seen a b c
    by true true true e f g = check e f g
    by true true false e f g = word (inr (inr g))
    by true false z e f g = word (inr (inl f))
    by false y z e f g = word (inl e)

word_stays : (a b c : Instr) (r : List Instr) → (opens a ≡ false) ⊎ ((is_nop b ≡ false) ⊎ (stops c ≡ false)) → without_checks (a ∷ b ∷ c ∷ r) ≡ a ∷ without_checks (b ∷ c ∷ r)
word_stays a b c r (inl e) = first_stays a (b ∷ c ∷ r) e
word_stays a b c r (inr (inl e)) = second_stays a b (c ∷ r) e
word_stays a b c r (inr (inr e)) = third_stays a b c r e

-- ---- words of the same sorts

no_open : (x : Instr) → may_check x ≡ false → opens x ≡ false
no_open (Beq x y (suc (suc zero))) h = h
no_open x h = refl

no_stop : (x : Instr) → may_check x ≡ false → stops x ≡ false
no_stop (Break (suc zero)) h = absurd (no_true h)
no_stop x h = refl

same_by : (f : Instr → Bool) → ((x : Instr) → may_check x ≡ false → f x ≡ false) → (x y : Instr) → (x ≡ y) ⊎ ((may_check x ≡ false) × (may_check y ≡ false)) → f y ≡ f x
same_by f none x y (inl e) = ap f (sym e)
same_by f none x y (inr k) = none y k.1 ∙ sym (none x k.0)

same_open : (x y : Instr) → Like x y → opens y ≡ opens x
same_open x y h = same_by opens no_open x y h.check

same_stop : (x y : Instr) → Like x y → stops y ≡ stops x
same_stop x y h = same_by stops no_stop x y h.check

same_word : (a b c x y z : Instr) → Like a x → Like b y → Like c z → (opens a ≡ false) ⊎ ((is_nop b ≡ false) ⊎ (stops c ≡ false)) → (opens x ≡ false) ⊎ ((is_nop y ≡ false) ⊎ (stops z ≡ false))
same_word a b c x y z h k l (inl e) = inl (same_open a x h ∙ e)
same_word a b c x y z h k l (inr (inl e)) = inr (inl (sym k.nop ∙ e))
same_word a b c x y z h k l (inr (inr e)) = inr (inr (same_stop c z l ∙ e))

by_both : (xs ys us vs : List Instr) → us ≡ xs → vs ≡ ys → AllLike xs ys → AllLike us vs
by_both xs ys us vs e f h = subst (λ (z : List Instr). AllLike z vs) (sym e) (subst (λ (z : List Instr). AllLike xs z) (sym f) h)

without_like : (xs ys : List Instr) → AllLike xs ys → AllLike (without_checks xs) (without_checks ys)
without_like [] [] h = tt
without_like [] (y ∷ ys) h = absurd h
without_like (a ∷ xs) [] h = absurd h
without_like (a ∷ []) (x ∷ []) h = by_both (a ∷ []) (x ∷ []) (without_checks (a ∷ [])) (without_checks (x ∷ [])) (one_stays a) (one_stays x) h
without_like (a ∷ []) (x ∷ y ∷ ys) h = absurd h.1
without_like (a ∷ b ∷ xs) (x ∷ []) h = absurd h.1
without_like (a ∷ b ∷ []) (x ∷ y ∷ []) h = by_both (a ∷ b ∷ []) (x ∷ y ∷ []) (without_checks (a ∷ b ∷ [])) (without_checks (x ∷ y ∷ [])) (two_stay a b) (two_stay x y) h
without_like (a ∷ b ∷ []) (x ∷ y ∷ z ∷ ys) h = absurd h.1.1
without_like (a ∷ b ∷ c ∷ xs) (x ∷ y ∷ []) h = absurd h.1.1
without_like (a ∷ b ∷ c ∷ xs) (x ∷ y ∷ z ∷ ys) h = by (seen a b c) (without_like xs ys h.1.1.1) (without_like (b ∷ c ∷ xs) (y ∷ z ∷ ys) h.1)
  where
    by : Seen a b c → AllLike (without_checks xs) (without_checks ys) → AllLike (without_checks (b ∷ c ∷ xs)) (without_checks (y ∷ z ∷ ys)) → AllLike (without_checks (a ∷ b ∷ c ∷ xs)) (without_checks (x ∷ y ∷ z ∷ ys))
    by (check e f g) more next = by_both (without_checks xs) (without_checks ys) (without_checks (a ∷ b ∷ c ∷ xs)) (without_checks (x ∷ y ∷ z ∷ ys)) (check_goes a b c xs e f g)
        (check_goes x y z ys (same_open a x h.0 ∙ e) (sym h.1.0.nop ∙ f) (same_stop c z h.1.1.0 ∙ g)) more
    by (word e) more next = by_both (a ∷ without_checks (b ∷ c ∷ xs)) (x ∷ without_checks (y ∷ z ∷ ys)) (without_checks (a ∷ b ∷ c ∷ xs)) (without_checks (x ∷ y ∷ z ∷ ys)) (word_stays a b c xs e)
        (word_stays x y z ys (same_word a b c x y z h.0 h.1.0 h.1.1.0 e)) (h.0, next)

-- Words of the same sorts take turns through checks and idle words.
pub through_like : (xs ys : List Instr) → AllLike xs ys → turns.TurnedThrough xs → turns.TurnedThrough ys
through_like xs ys h t = turns_like strong strong_test (without_checks xs) (without_checks ys) (without_like xs ys h) t

-- ---- parts

-- Before a head, whose first word is no word of a check.
pub without_parts : (xs : List Instr) (rt rs imm : ℕ) (ys : List Instr) → without_checks (xs ++ Xori rt rs imm ∷ ys) ≡ without_checks xs ++ Xori rt rs imm ∷ without_checks ys
without_parts [] rt rs imm ys = refl
without_parts (a ∷ []) rt rs imm ys = second_stays a (Xori rt rs imm) ys refl ∙ ap (λ (z : List Instr). z ++ Xori rt rs imm ∷ without_checks ys) (sym (one_stays a))
without_parts (a ∷ b ∷ []) rt rs imm ys =
    third_stays a b (Xori rt rs imm) ys refl ∙ (ap (λ (z : List Instr). a ∷ z) (second_stays b (Xori rt rs imm) ys refl) ∙ ap (λ (z : List Instr). z ++ Xori rt rs imm ∷ without_checks ys) (sym (two_stay a b)))
without_parts (a ∷ b ∷ c ∷ xs) rt rs imm ys = by (seen a b c) (without_parts xs rt rs imm ys) (without_parts (b ∷ c ∷ xs) rt rs imm ys)
  where
    by : Seen a b c → without_checks (xs ++ Xori rt rs imm ∷ ys) ≡ without_checks xs ++ Xori rt rs imm ∷ without_checks ys →
        without_checks (b ∷ c ∷ (xs ++ Xori rt rs imm ∷ ys)) ≡ without_checks (b ∷ c ∷ xs) ++ Xori rt rs imm ∷ without_checks ys →
        without_checks (a ∷ b ∷ c ∷ (xs ++ Xori rt rs imm ∷ ys)) ≡ without_checks (a ∷ b ∷ c ∷ xs) ++ Xori rt rs imm ∷ without_checks ys
    by (check e f g) more next =
        check_goes a b c (xs ++ Xori rt rs imm ∷ ys) e f g ∙ (more ∙ ap (λ (z : List Instr). z ++ Xori rt rs imm ∷ without_checks ys) (sym (check_goes a b c xs e f g)))
    by (word e) more next =
        word_stays a b c (xs ++ Xori rt rs imm ∷ ys) e ∙ (ap (λ (z : List Instr). a ∷ z) next ∙ ap (λ (z : List Instr). z ++ Xori rt rs imm ∷ without_checks ys) (sym (word_stays a b c xs e)))
