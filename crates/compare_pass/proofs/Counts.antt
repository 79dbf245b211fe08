-- Setting the checks changes no count.
use Rattle.std.proofs.Common.{◌≡◌, ◌≢◌, ◌≤◌, ◌<◌, ℕ, zero, suc, ◌+◌, ◌-◌, ◌*◌, arith, ap, refl, sym, ◌∙◌, subst, List, [], ◌∷◌, ◌++◌, append_assoc, length, Bool, true, false, cond, not, inl, inr, flat_map, sum_by, max}
use Rattle.std.specs.Prelude.{◌⊎◌, ◌&&◌, if◌then◌else◌, slice_get, count_by}
use Rattle.std.proofs.lemmas.List.Sums.{sum_by-cons, sum_by-append}
use Rattle.mips_isa.specs.declared.instr.Instr.{Instr}
use Rattle.mips_isa.specs.declared.instr.Instr.TheVariants.{Beq, Break, Ori, Sll}
use Rattle.mips_isa.specs.Machine.{is_jump}
use Rattle.hard_items.specs.declared.code.Class.TheVariants as class
use Rattle.hard_items.specs.declared.code.Item.{Item}
use Rattle.hard_items.specs.declared.code.HardBlock.{HardBlock}
use Rattle.hard_items.specs.declared.code.HardProgram.{HardProgram}
use Rattle.hard_items.specs.Streams.{nop, plain}
use Rattle.hard_items.specs.Run.{items_of, block_items}
use Rattle.hard_items.specs.Forms.{check}
use Rattle.hard_items.specs.Rules.{use_checks}
use Rattle.mips_text.specs.Loads.{is_reload}
use Rattle.hard_items.specs.Counts.{free_nops, free_nops_behind, is_nop, is_branch, branches, nops_for, is_of_check, checks_wanted, checks_there, block_room}
use Rattle.hard_items.specs.Streams.{is_stream}
use Rattle.compare_pass.specs.Guarding.{guarded, acting, number_items, checks, with_checks, acts, is_number}
use Rattle.hard_items.specs.Counted.{of_streams}
use Rattle.compare_pass.specs.Law.{SameCounts}
use Rattle.compare_pass.proofs.Keeps.{IsGuarded}

-- What holds of each of the three sorts of lists that an item becomes.
by_sort : (P : List Item → Type 0) (z : Bool) (i : Item) → P (i ∷ []) → (is_number i.instr ≡ true → P (number_items i)) → P (checks (use_checks i.instr) ++ i ∷ []) → P (guarded z i)
by_sort P z i a b c = elim (acts i.class && not z) as (λ v. P (cond v (acting i) (i ∷ []))) [
  | true ↦ elim (is_number i.instr) as (λ v. is_number i.instr ≡ v → P (cond v (number_items i) (checks (use_checks i.instr) ++ i ∷ []))) [
    | true ↦ λ e. b e
    | false ↦ λ e. c
  ] refl
  | false ↦ a
]

-- ---- sums that count nothing for the items of checks

module _ (m : Item → ℕ) (beq : (x y : ℕ) → m (plain (Beq x y 2) class.Check) ≡ 0) (no : m (plain nop class.Check) ≡ 0) (br : m (plain (Break 1) class.Check) ≡ 0) where
  three : (a b c : ℕ) → a ≡ 0 → b ≡ 0 → c ≡ 0 → 0 + a + b + c ≡ 0
  three a b c e f g = omega arith

  both_zero : (a b : ℕ) → a ≡ 0 → b ≡ 0 → a + b ≡ 0
  both_zero a b e f = omega arith

  check_zero : (x y : ℕ) → sum_by m (check x y) ≡ 0
  check_zero x y = three (m (plain (Beq x y 2) class.Check)) (m (plain nop class.Check)) (m (plain (Break 1) class.Check)) (beq x y) no br

  checks_zero : (cs : List (ℕ × ℕ)) → sum_by m (checks cs) ≡ 0
  checks_zero [] = refl
  checks_zero (c ∷ cs) = sum_by-append m (check c.0 c.1) (checks cs) ∙ both_zero (sum_by m (check c.0 c.1)) (sum_by m (checks cs)) (check_zero c.0 c.1) (checks_zero cs)

  middle : (a b c : ℕ) → a ≡ 0 → c ≡ 0 → 0 + a + b + c ≡ b
  middle a b c e f = omega arith

  second : (a b : ℕ) → a ≡ 0 → a + (0 + b) ≡ b
  second a b e = omega arith

  one : (z : Bool) (i : Item) → sum_by m (guarded z i) ≡ m i
  one z i = by_sort (λ xs. sum_by m xs ≡ m i) z i (Rattle.std.proofs.Common.zero-add (m i)) (λ e. middle (m (plain (Beq 4 14 2) class.Check)) (m i) (m (plain (Break 1) class.Check)) (beq 4 14) br)
      (sum_by-append m (checks (use_checks i.instr)) (i ∷ []) ∙ second (sum_by m (checks (use_checks i.instr))) (m i) (checks_zero (use_checks i.instr)))

  both_same : (a b c d : ℕ) → a ≡ c → b ≡ d → a + b ≡ c + d
  both_same a b c d e f = omega arith

  pub same_sum : (z : Bool) (xs : List Item) → sum_by m (with_checks z xs) ≡ sum_by m xs
  same_sum z [] = refl
  same_sum z (x ∷ xs) = sum_by-append m (guarded z x) (with_checks (is_of_check x.class) xs) ∙ (both_same (sum_by m (guarded z x)) (sum_by m (with_checks (is_of_check x.class) xs)) (m x) (sum_by m xs) (one z x) (same_sum (is_of_check x.class) xs) ∙ sym (sum_by-cons m x xs))

-- ---- lengths, and the items of checks among them

abbrev checking : Item → ℕ
checking i = if is_of_check i.class then 1 else 0

checks_long : (cs : List (ℕ × ℕ)) → sum_by checking (checks cs) ≡ length (checks cs)
checks_long [] = refl
checks_long (c ∷ cs) = sum_by-append checking (check c.0 c.1) (checks cs) ∙ up (sum_by checking (checks cs)) (length (checks cs)) (checks_long cs)
  where
    up : (a b : ℕ) → a ≡ b → 3 + a ≡ suc (suc (suc b))
    up a b e = omega arith

-- More items, and as many more of checks.
abbrev Longer : ℕ → ℕ → List Item → Type 0
Longer n c xs = (k : ℕ) × (length xs ≡ n + k) × (sum_by checking xs ≡ c + k)

one_longer : (z : Bool) (i : Item) → Longer 1 (checking i) (guarded z i)
one_longer z i = by_sort (λ xs. Longer 1 (checking i) xs) z i (0, refl, swapped (checking i)) (λ e. (2, refl, around (checking i))) (
  length (checks (use_checks i.instr)),
  Rattle.std.proofs.Common.length-append (checks (use_checks i.instr)) (i ∷ []) ∙ Rattle.std.proofs.Common.add_comm (length (checks (use_checks i.instr))) 1,
  sum_by-append checking (checks (use_checks i.instr)) (i ∷ []) ∙ last (sum_by checking (checks (use_checks i.instr))) (length (checks (use_checks i.instr))) (checking i) (checks_long (use_checks i.instr)),
)
  where
    swapped : (c : ℕ) → 0 + c ≡ c + 0
    swapped c = omega arith

    around : (c : ℕ) → 0 + 1 + c + 1 ≡ c + 2
    around c = omega arith

    last : (a n c : ℕ) → a ≡ n → a + (0 + c) ≡ c + n
    last a n c e = omega arith

all_longer : (z : Bool) (xs : List Item) → Longer (length xs) (sum_by checking xs) (with_checks z xs)
all_longer z [] = (0, refl, refl)
all_longer z (x ∷ xs) =
    let rest : List Item = with_checks (is_of_check x.class) xs in
    let a : Longer 1 (checking x) (guarded z x) = one_longer z x in
    let b : Longer (length xs) (sum_by checking xs) rest = all_longer (is_of_check x.class) xs in (
      a.0 + b.0,
      Rattle.std.proofs.Common.length-append (guarded z x) rest ∙ lengths (length (guarded z x)) a.0 (length rest) (length xs) b.0 a.1 b.1,
      sum_by-append checking (guarded z x) rest ∙ (sums (sum_by checking (guarded z x)) (checking x) a.0 (sum_by checking rest) (sum_by checking xs) b.0 a.2 b.2 ∙ ap (λ (n : ℕ). n + (a.0 + b.0)) (sym (sum_by-cons checking x xs))),
    )
  where
    lengths : (g k r n j : ℕ) → g ≡ 1 + k → r ≡ n + j → g + r ≡ suc n + (k + j)
    lengths g k r n j e f = omega arith

    sums : (g c k r n j : ℕ) → g ≡ c + k → r ≡ n + j → g + r ≡ c + n + (k + j)
    sums g c k r n j e f = omega arith

-- ---- nops

number_free : (x : Instr) → is_number x ≡ true → (is_nop x ≡ false) × (is_jump x ≡ false)
number_free (Ori rt rs imm) h = (refl, refl)
number_free x h = absurd (Rattle.std.proofs.Common.true≢false (sym h))

no_nop : (x : Instr) → (use_checks x ≡ []) ⊎ (is_nop x ≡ false)
no_nop (Sll rd rt sh) = inl refl
no_nop x = inr refl

three_zero : (n : ℕ) → 0 + (0 + (0 + n)) ≡ n
three_zero n = omega arith

-- a slot makes no difference before what is no nop
any_slot : (s t : Bool) (i : Item) (more : List Item) → is_nop i.instr ≡ false → free_nops_behind s (i ∷ more) ≡ free_nops_behind t (i ∷ more)
any_slot s t i more e = ap (λ (z : Bool). cond (z && not s) 1 0 + free_nops_behind (is_jump i.instr) more) e ∙ ap (λ (z : Bool). cond (z && not t) 1 0 + free_nops_behind (is_jump i.instr) more) (sym e)

behind_checks : (s : Bool) (cs : List (ℕ × ℕ)) (i : Item) (more : List Item) → is_nop i.instr ≡ false → free_nops_behind s (checks cs ++ i ∷ more) ≡ free_nops_behind s (i ∷ more)
behind_checks s [] i more e = refl
behind_checks s (c ∷ cs) i more e = ap (λ (xs : List Item). free_nops_behind s xs) (append_assoc (check c.0 c.1) (checks cs) (i ∷ more)) ∙
    (three_zero (free_nops_behind false (checks cs ++ i ∷ more)) ∙ (behind_checks false cs i more e ∙ any_slot false s i more e))

one_nops : (s z : Bool) (i : Item) (more : List Item) → free_nops_behind s (guarded z i ++ more) ≡ free_nops_behind s (i ∷ more)
one_nops s z i more = by_sort (λ xs. free_nops_behind s (xs ++ more) ≡ free_nops_behind s (i ∷ more)) z i refl numbered
    (Rattle.std.proofs.Common.⊎_elim (λ e. ap (λ (cs : List (ℕ × ℕ)). free_nops_behind s ((checks cs ++ i ∷ []) ++ more)) e)
    (λ e. ap (λ (xs : List Item). free_nops_behind s xs) (append_assoc (checks (use_checks i.instr)) (i ∷ []) more) ∙ behind_checks s (use_checks i.instr) i more e)
    (no_nop i.instr))
  where
    joined : (n : ℕ) → 0 + (0 + (0 + n)) ≡ 0 + n
    joined n = omega arith

    numbered : is_number i.instr ≡ true → free_nops_behind s (number_items i ++ more) ≡ free_nops_behind s (i ∷ more)
    numbered h = let f : (is_nop i.instr ≡ false) × (is_jump i.instr ≡ false) = number_free i.instr h in
        ap (λ (z : Bool). 0 + (cond (z && false) 1 0 + (0 + free_nops_behind false more))) f.0 ∙ (joined (free_nops_behind false more) ∙
        (ap (λ (z : Bool). 0 + free_nops_behind z more) (sym f.1) ∙ ap (λ (z : Bool). cond (z && not s) 1 0 + free_nops_behind (is_jump i.instr) more) (sym f.0)))

same_nops : (s z : Bool) (xs : List Item) → free_nops_behind s (with_checks z xs) ≡ free_nops_behind s xs
same_nops s z [] = refl
same_nops s z (x ∷ xs) = one_nops s z x (with_checks (is_of_check x.class) xs) ∙ ap (λ (n : ℕ). cond (is_nop x.instr && not s) 1 0 + n) (same_nops (is_jump x.instr) (is_of_check x.class) xs)

-- ---- the items of the streams

checks_no_stream : (cs : List (ℕ × ℕ)) (more : List Item) → of_streams (checks cs ++ more) ≡ of_streams more
checks_no_stream [] more = refl
checks_no_stream (c ∷ cs) more = ap of_streams (append_assoc (check c.0 c.1) (checks cs) more) ∙ checks_no_stream cs more

one_stream : (z : Bool) (i : Item) (more : List Item) → of_streams (guarded z i ++ more) ≡ of_streams (i ∷ more)
one_stream z i more = by_sort (λ xs. of_streams (xs ++ more) ≡ of_streams (i ∷ more)) z i refl (λ e. refl)
    (ap of_streams (append_assoc (checks (use_checks i.instr)) (i ∷ []) more) ∙ checks_no_stream (use_checks i.instr) (i ∷ more))

pub same_streams : (z : Bool) (xs : List Item) → of_streams (with_checks z xs) ≡ of_streams xs
same_streams z [] = refl
same_streams z (x ∷ xs) = one_stream z x (with_checks (is_of_check x.class) xs) ∙ ap (λ (l : List Item). cond (is_stream x.class) (x ∷ l) l) (same_streams (is_of_check x.class) xs)

-- ---- programs

over_blocks : (F : List Item → ℕ) → ((xs : List Item) → F (with_checks false xs) ≡ F xs) → (xs ys : List HardBlock) → length ys ≡ length xs → ((b : ℕ) → block_items (slice_get ys b) ≡ with_checks false (block_items (slice_get xs b))) →
    sum_by (λ (b : HardBlock). F b.items) ys ≡ sum_by (λ (b : HardBlock). F b.items) xs
over_blocks F h [] [] e g = refl
over_blocks F h [] (y ∷ ys) e g = absurd (no_suc (length ys) e)
  where
    no_suc : (n : ℕ) → suc n ≡ 0 → ⊥
    no_suc n e = omega arith
over_blocks F h (x ∷ xs) [] e g = absurd (no_suc (length xs) e)
  where
    no_suc : (n : ℕ) → 0 ≡ suc n → ⊥
    no_suc n e = omega arith
over_blocks F h (x ∷ xs) (y ∷ ys) e g = sum_by-cons (λ (b : HardBlock). F b.items) y ys ∙ (both (F y.items) (F x.items) (sum_by (λ (b : HardBlock). F b.items) ys) (sum_by (λ (b : HardBlock). F b.items) xs) (ap F (g 0) ∙ h x.items) (over_blocks F h xs ys (less (length ys) (length xs) e) (λ b. g (suc b))) ∙ sym (sum_by-cons (λ (b : HardBlock). F b.items) x xs))
  where
    both : (a b c d : ℕ) → a ≡ b → c ≡ d → a + c ≡ b + d
    both a b c d e f = omega arith

    less : (n m : ℕ) → suc n ≡ suc m → n ≡ m
    less n m e = omega arith

same_branches : (xs : List Item) → branches (with_checks false xs) ≡ branches xs
same_branches xs = same_sum (λ (i : Item). cond (is_branch i) 1 0) (λ x y. refl) refl refl false xs

same_reloads : (xs : List Item) → count_by (λ (i : Item). is_reload i.instr) (with_checks false xs) ≡ count_by (λ (i : Item). is_reload i.instr) xs
same_reloads xs = same_sum (λ (i : Item). cond (is_reload i.instr) 1 0) (λ x y. refl) refl refl false xs

same_wanted : (xs : List Item) → sum_by checks_wanted (with_checks false xs) ≡ sum_by checks_wanted xs
same_wanted xs = same_sum checks_wanted (λ x y. refl) refl refl false xs

same_needed : (xs : List Item) → sum_by nops_for (with_checks false xs) ≡ sum_by nops_for xs
same_needed xs = same_sum nops_for (λ x y. refl) refl refl false xs

abbrev room_of : List Item → ℕ
room_of xs = (length xs - free_nops xs - checks_there xs) + sum_by checks_wanted xs + 7 + 9 * branches xs

same_room : (xs : List Item) → room_of (with_checks false xs) ≡ room_of xs
same_room xs = let l : Longer (length xs) (sum_by checking xs) (with_checks false xs) = all_longer false xs in
    numbers (length (with_checks false xs)) (length xs) l.0 (free_nops (with_checks false xs)) (free_nops xs) (checks_there (with_checks false xs)) (checks_there xs) (sum_by checks_wanted (with_checks false xs)) (sum_by checks_wanted xs) (branches (with_checks false xs)) (branches xs)
    l.1 (same_nops false false xs) l.2 (same_wanted xs) (same_branches xs)
  where
    numbers : (n' n k f' f c' c w' w b' b : ℕ) → n' ≡ n + k → f' ≡ f → c' ≡ c + k → w' ≡ w → b' ≡ b → (n' - f' - c') + w' + 7 + 9 * b' ≡ (n - f - c) + w + 7 + 9 * b
    numbers n' n k f' f c' c w' w b' b e g h i j = omega arith

pub same_counts : (p q : HardProgram) → IsGuarded p q → length q.blocks ≡ length p.blocks → SameCounts p q
same_counts p q g e = record {
  blocks = e;
  branches_same = over_blocks branches same_branches p.blocks q.blocks e g.blocks;
  reloads_same = over_blocks (λ xs. count_by (λ (i : Item). is_reload i.instr) xs) same_reloads p.blocks q.blocks e g.blocks;
  free_nops_same = λ b. ap (λ (xs : List Item). free_nops xs) (g.blocks b) ∙ same_nops false false (items_of p b);
  streams_same = λ b. ap of_streams (g.blocks b) ∙ same_streams false (items_of p b);
  room_same = rooms (sum_by block_room q.blocks) (sum_by block_room p.blocks) (sum_by (λ (b : HardBlock). free_nops b.items) q.blocks) (sum_by (λ (b : HardBlock). free_nops b.items) p.blocks) (sum_by (λ (b : HardBlock). sum_by nops_for b.items) q.blocks) (sum_by (λ (b : HardBlock). sum_by nops_for b.items) p.blocks)
      (over_blocks room_of same_room p.blocks q.blocks e g.blocks) (over_blocks free_nops (λ xs. same_nops false false xs) p.blocks q.blocks e g.blocks) (over_blocks (λ xs. sum_by nops_for xs) same_needed p.blocks q.blocks e g.blocks);
}
  where
    rooms : (r' r f' f n' n : ℕ) → r' ≡ r → f' ≡ f → n' ≡ n → r' + max f' n' ≡ r + max f n
    rooms r' r f' f n' n a b c = ap (λ (x : ℕ). x + max f' n') a ∙ (ap (λ (x : ℕ). r + max x n') b ∙ ap (λ (x : ℕ). r + max f x) c)
