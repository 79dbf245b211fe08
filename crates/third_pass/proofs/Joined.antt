-- Pieces of code put behind each other.
use Rattle.std.proofs.Common.{◌≡◌, ◌≤◌, ◌<◌, ◌+◌, ◌*◌, ◌^◌, ℕ, zero, suc, arith, ap, refl, sym, ◌∙◌, subst, List, [], ◌∷◌, ◌++◌, length, map, sum, flat_map, append_assoc, inl, inr}
use Rattle.std.specs.Prelude.{Result, Ok, Err, OnOk, All, ◌⊎◌}
use Rattle.std.proofs.lemmas.List.Sums.{sum_by-cons}
use Rattle.mips_isa.specs.declared.instr.Instr.{Instr}
use Rattle.mips_isa.specs.declared.instr.Instr.TheVariants as mips
use Rattle.mid_blocks.specs.declared.code.MidOp.{MidOp}
use Rattle.mid_blocks.specs.declared.code.MidOp.TheVariants as op
use Rattle.mid_blocks.specs.declared.places.Place.{Place}
use Rattle.mid_blocks.specs.declared.places.Places.{Places}
use Rattle.mid_blocks.specs.declared.code.Mid.{Mid}
use Rattle.mid_blocks.specs.Size.{words}
use Rattle.frame_plan.specs.Frames.{addresses}
use Rattle.third_law.specs.declared.roles.Role.{Role}
use Rattle.third_law.specs.declared.roles.Stream.TheVariants.{First, Second, Third}
use Rattle.third_law.specs.Roles.{reg_in, nop, each, product, load}
use Rattle.third_law.specs.Emitted.{target, kept, upper, lower, operation}
use Rattle.third_law.specs.Program.{first_code, exit_code, functions_code, code_at, looked_up, starts_from}
use Rattle.third_pass.specs.Emits.{product_of, move_of}

pub on_ok : {A E : Type 0} (r : Result A E) (P Q : Type 0) → OnOk r P → (P → Q) → OnOk r Q
on_ok (Ok a) P Q h k = k h
on_ok (Err e) P Q h k = tt

pub join : {A : Type 0} (o0 o1 o2 o3 a b c : List A) → o1 ≡ o0 ++ a → o2 ≡ o1 ++ b → o3 ≡ o2 ++ c → o3 ≡ o0 ++ (a ++ (b ++ c))
join o0 o1 o2 o3 a b c e f g = g ∙ (ap (λ z. z ++ c) (f ∙ ap (λ z. z ++ b) e) ∙ (append_assoc (o0 ++ a) b c ∙ append_assoc o0 a (b ++ c)))

pub loaded_first : (to : Place) (address : ℕ) (base : Role) (up lo : ℕ) (o0 o1 o2 o3 : List Instr) → base ≡ target to → up ≡ upper address → lo ≡ lower address →
    o1 ≡ o0 ++ each (λ t. mips.Lui (reg_in t base) up) → o2 ≡ o1 ++ load base base lo → o3 ≡ o2 ++ kept to →
    o3 ≡ o0 ++ (each (λ t. mips.Lui (reg_in t (target to)) (upper address)) ++ (load (target to) (target to) (lower address) ++ kept to))
loaded_first to address base up lo o0 o1 o2 o3 p q r e f g =
    join o0 o1 o2 o3 (each (λ t. mips.Lui (reg_in t base) up)) (load base base lo) (kept to) e f g ∙
    (ap (λ (b : Role). o0 ++ (each (λ t. mips.Lui (reg_in t b) up) ++ (load b b lo ++ kept to))) p ∙
    (ap (λ (x : ℕ). o0 ++ (each (λ t. mips.Lui (reg_in t (target to)) x) ++ (load (target to) (target to) lo ++ kept to))) q ∙
    ap (λ (x : ℕ). o0 ++ (each (λ t. mips.Lui (reg_in t (target to)) (upper address)) ++ (load (target to) (target to) x ++ kept to))) r))

product_at : (o w : MidOp) (to a b : Role) → o ≡ w → product (λ t. product_of w (reg_in t a) (reg_in t b)) (λ t. move_of w (reg_in t to)) ≡ operation w to a b →
    product (λ t. product_of o (reg_in t a) (reg_in t b)) (λ t. move_of o (reg_in t to)) ≡ operation o to a b
product_at o w to a b e h = subst (λ (z : MidOp). product (λ t. product_of z (reg_in t a) (reg_in t b)) (λ t. move_of z (reg_in t to)) ≡ operation z to a b) (sym e) h

pub product_op : (o : MidOp) (to a b : Role) → (o ≡ op.Mul) ⊎ ((o ≡ op.Div) ⊎ ((o ≡ op.DivU) ⊎ ((o ≡ op.Rem) ⊎ (o ≡ op.RemU)))) →
    product (λ t. product_of o (reg_in t a) (reg_in t b)) (λ t. move_of o (reg_in t to)) ≡ operation o to a b
product_op o to a b (inl e) = product_at o op.Mul to a b e refl
product_op o to a b (inr (inl e)) = product_at o op.Div to a b e refl
product_op o to a b (inr (inr (inl e))) = product_at o op.DivU to a b e refl
product_op o to a b (inr (inr (inr (inl e)))) = product_at o op.Rem to a b e refl
product_op o to a b (inr (inr (inr (inr e)))) = product_at o op.RemU to a b e refl

-- the registers of a role in all streams
abbrev pub triple : Role → ℕ × ℕ × ℕ
triple r = (reg_in First r, reg_in Second r, reg_in Third r)

abbrev pub one_product : MidOp → (x a b : ℕ) → List Instr
one_product o x a b = product_of o a b ∷ move_of o x ∷ nop ∷ nop ∷ []

-- one stream's product, then the next
pub products_put : (o : MidOp) (to a b : Role) (x l r : ℕ × ℕ × ℕ) (o0 o1 o2 o3 : List Instr) → x ≡ triple to → l ≡ triple a → r ≡ triple b →
    o1 ≡ o0 ++ one_product o x.0 l.0 r.0 → o2 ≡ o1 ++ one_product o x.1 l.1 r.1 → o3 ≡ o2 ++ one_product o x.2 l.2 r.2 →
    o3 ≡ o0 ++ product (λ t. product_of o (reg_in t a) (reg_in t b)) (λ t. move_of o (reg_in t to))
products_put o to a b x l r o0 o1 o2 o3 p q s e f g =
    join o0 o1 o2 o3 (one_product o x.0 l.0 r.0) (one_product o x.1 l.1 r.1) (one_product o x.2 l.2 r.2) e f g ∙
    (ap (λ (z : ℕ × ℕ × ℕ). o0 ++ (one_product o z.0 l.0 r.0 ++ (one_product o z.1 l.1 r.1 ++ one_product o z.2 l.2 r.2))) p ∙
    (ap (λ (z : ℕ × ℕ × ℕ). o0 ++ (one_product o (reg_in First to) z.0 r.0 ++ (one_product o (reg_in Second to) z.1 r.1 ++ one_product o (reg_in Third to) z.2 r.2))) q ∙
    ap (λ (z : ℕ × ℕ × ℕ). o0 ++ (one_product o (reg_in First to) (reg_in First a) z.0 ++ (one_product o (reg_in Second to) (reg_in Second a) z.1 ++ one_product o (reg_in Third to) (reg_in Third a) z.2))) s))

-- the two first blocks and the rest
pub code_put : (mid : Mid) (places : List Places) (at : ℕ → ℕ) (o0 o1 o2 o3 : List (List Instr)) (k1 k2 : List Instr) → o0 ≡ [] → o1 ≡ o0 ++ k1 ∷ [] → o2 ≡ o1 ++ k2 ∷ [] → o3 ≡ o2 ++ functions_code at mid 0 mid.functions places →
    k1 ≡ first_code at mid → k2 ≡ exit_code → o3 ≡ code_at at mid places
code_put mid places at o0 o1 o2 o3 k1 k2 e f g h p q =
    join o0 o1 o2 o3 (k1 ∷ []) (k2 ∷ []) (functions_code at mid 0 mid.functions places) f g h ∙
    (ap (λ (z : List (List Instr)). z ++ (k1 ∷ k2 ∷ functions_code at mid 0 mid.functions places)) e ∙
    (ap (λ (z : List Instr). z ∷ k2 ∷ functions_code at mid 0 mid.functions places) p ∙
    ap (λ (z : List Instr). first_code at mid ∷ z ∷ functions_code at mid 0 mid.functions places) q))

-- ---- addresses

sum_cons : (x : ℕ) (xs : List ℕ) → sum (x ∷ xs) ≡ x + sum xs
sum_cons x xs = sum_by-cons (λ (y : ℕ). y) x xs

starts_low : (at : ℕ) (ks : List (List Instr)) (b : ℕ) → looked_up (starts_from at ks) b ≤ at + 4 * sum (map length ks)
starts_low at [] b = by at
  where
    by : (a : ℕ) → 0 ≤ a + 4 * 0
    by a = omega arith
starts_low at (k ∷ ks) zero = by at (sum (map length (k ∷ ks)))
  where
    by : (a s : ℕ) → a ≤ a + 4 * s
    by a s = omega arith
starts_low at (k ∷ ks) (suc b) = by (looked_up (starts_from (at + 4 * length k) ks) b) at (length k) (sum (map length ks)) (sum_cons (length k) (map length ks)) (starts_low (at + 4 * length k) ks b)
  where
    by : (x a n s : ℕ) → {t : ℕ} → t ≡ n + s → x ≤ (a + 4 * n) + 4 * s → x ≤ a + 4 * t
    by x a n s {t} e h = omega arith

pub low : (mid : Mid) (ks : List (List Instr)) (b : ℕ) → sum (map length ks) ≤ 4 * words mid → words mid ≤ 15728640 → looked_up (starts_from 0x00400000 ks) b < 2 ^ 28
low mid ks b h k = by (looked_up (starts_from 0x00400000 ks) b) (sum (map length ks)) (words mid) (starts_low 0x00400000 ks b) h k
  where
    by : (x s w : ℕ) → x ≤ 0x00400000 + 4 * s → s ≤ 4 * w → w ≤ 15728640 → x < 2 ^ 28
    by x s w e f g = omega arith

pub few_words : (s w : ℕ) → s ≤ 4 * w → w ≤ 15728640 → 0x00400000 + 4 * s < 2 ^ 32
few_words s w h k = omega arith

pub left : (s t : ℕ) → s + t ≤ 32768 → 0 + s ≤ 32768
left s t h = omega arith

pub high : (c : ℕ) (gs : List (List ℕ)) → c + sum (map length gs) ≤ 32768 → All (λ a. (0x10010000 ≤ a) × (a < 2 ^ 30)) (addresses c gs)
high c [] h k d l = absurd (Rattle.std.proofs.Common.not-suc-le-zero l)
high c (g ∷ gs) h zero d l = by c (sum (map length (g ∷ gs))) h
  where
    by : (c s : ℕ) → c + s ≤ 32768 → (0x10010000 ≤ 0x10010000 + 8 * c) × (0x10010000 + 8 * c < 2 ^ 30)
    by c s h = (omega arith, omega arith)
high c (g ∷ gs) h (suc k) d l = high (c + length g) gs (by c (length g) (sum (map length gs)) (sum_cons (length g) (map length gs)) h) k d (less k (length (addresses (c + length g) gs)) l)
  where
    by : (c n s : ℕ) → {t : ℕ} → t ≡ n + s → c + t ≤ 32768 → (c + n) + s ≤ 32768
    by c n s {t} e h = omega arith

    less : (a b : ℕ) → suc a < suc b → a < b
    less a b h = omega arith
