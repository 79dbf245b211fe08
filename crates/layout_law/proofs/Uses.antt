-- Each place of each form, and the rule on checked uses of a whole signed program.
use Rattle.std.proofs.Common.{◌≡◌, ◌≤◌, ◌<◌, ℕ, ◌+◌, ◌*◌, ◌%◌, ◌^◌, arith, ap, refl, sym, ◌∙◌, subst, List, [], ◌∷◌, ◌++◌, length, append_assoc, append-nil, length-append, Bool, true, false, cond, inl, inr}
use Rattle.std.specs.Prelude.{Option, Some, None, ◌⊎◌, ◌==◌, ◌&&◌, ◌||◌, not, nat_le, IsTrue, flat_map, slice_get}
use Rattle.mips_isa.specs.declared.instr.Instr.{Instr}
use Rattle.mips_isa.specs.declared.instr.Instr.TheVariants.{J, Jal, Jr, Beq, Bne, Break, Syscall, Sw, Ori, Addu, Xori, Xor}
use Rattle.mips_isa.specs.Machine.{is_product}
use Rattle.mips_isa.specs.Locality.{is_data, is_move}
use Rattle.mips_text.specs.Text.{At, IsBranch, SkipsReport}
use Rattle.mips_text.specs.Forms.{IsPair, InputAt}
use Rattle.mips_text.specs.Forms as lint_forms
use Rattle.harden_lint.specs.Rules.{IsChecked, IsTaking}
use Rattle.hard_items.specs.declared.code.Class.{Class}
use Rattle.hard_items.specs.declared.code.Class.TheVariants.{Check, Act, Input, Head}
use Rattle.hard_items.specs.declared.code.Fix.TheVariants.{Plain, Block, Function}
use Rattle.hard_items.specs.declared.code.Item.{Item}
use Rattle.hard_items.specs.declared.code.HardProgram.{HardProgram}
use Rattle.hard_items.specs.declared.code.Mark.{Mark}
use Rattle.hard_items.specs.declared.code.Signed.{Signed}
use Rattle.hard_items.specs.Streams.{nop, plain, shadow_of}
use Rattle.hard_items.specs.Run.{items_of}
use Rattle.hard_items.specs.Forms.{Each, Form, Alone, Product, Store, Test, Output, Takes, Idle, Close, Jump, Branch, Call, Return, Exit, check, service_number, form_items, close_items, block_of, going, is_value, FormFits, CloseFits, HasChecks, CloseHasChecks}
use Rattle.hard_items.specs.Rules.{Checked, Guarded}
use Rattle.hard_items.specs.Heads.{head_items, headed}
use Rattle.layout_law.specs.Layout.{address, text, offset}
use Rattle.layout_law.specs.Level.{Layable, Entered}
use Rattle.layout_law.proofs.Views.{ItemWord, item_word, at_item, next_item, in_text}
use Rattle.layout_law.proofs.Starts.{filled_as}
use Rattle.layout_law.proofs.Lines.{head_of, items_headed, heads_length}
use Rattle.layout_law.proofs.Checked.{PairFits, value_pair, stack_pair, link_pair, is_use, critical_use, no_use, no_use_skip, sw_register, jr_register, service_register, branch_register, behind_guarded, later_guarded}

no_true : true ≡ false → ⊥
no_true e = cc

-- ---- points of lists

-- A point of two lists put together is one of the first or of the second.
pub split_append : (xs ys done : List Item) (i : Item) (more : List Item) → xs ++ ys ≡ done ++ i ∷ more → ((mo : List Item) × (xs ≡ done ++ i ∷ mo) × (more ≡ mo ++ ys)) ⊎ ((d : List Item) × (done ≡ xs ++ d) × (ys ≡ d ++ i ∷ more))
split_append [] ys done i more e = inr (done, refl, e)
split_append (x ∷ xs) ys [] i more e = inl (xs, ap (λ (z : Item). z ∷ xs) (first e), sym (rest e))
  where
    first : x ∷ (xs ++ ys) ≡ i ∷ more → x ≡ i
    first q = cc

    rest : x ∷ (xs ++ ys) ≡ i ∷ more → xs ++ ys ≡ more
    rest q = cc
split_append (x ∷ xs) ys (d ∷ done) i more e = elim (split_append xs ys done i more (rest e)) as (λ z. ((mo : List Item) × (x ∷ xs ≡ d ∷ (done ++ i ∷ mo)) × (more ≡ mo ++ ys)) ⊎ ((f : List Item) × (d ∷ done ≡ x ∷ (xs ++ f)) × (ys ≡ f ++ i ∷ more))) [
  | inl q ↦ inl (q.0, both x d xs (done ++ i ∷ q.0) (first e) q.1, q.2)
  | inr q ↦ inr (q.0, both d x done (xs ++ q.0) (sym (first e)) q.1, q.2)
]
  where
    first : x ∷ (xs ++ ys) ≡ d ∷ (done ++ i ∷ more) → x ≡ d
    first q = cc

    rest : x ∷ (xs ++ ys) ≡ d ∷ (done ++ i ∷ more) → xs ++ ys ≡ done ++ i ∷ more
    rest q = cc

    both : (a b : Item) (xs ys : List Item) → a ≡ b → xs ≡ ys → a ∷ xs ≡ b ∷ ys
    both a b xs ys e f = cc

-- Of each point of a list it is true.
abbrev pub AllSplits : (List Item → Item → List Item → Type 0) → List Item → List Item → Type 0
AllSplits P d [] = Unit {0}
AllSplits P d (x ∷ xs) = P d x xs × AllSplits P (d ++ x ∷ []) xs

pub all_splits : (P : List Item → Item → List Item → Type 0) (d xs done : List Item) (i : Item) (more : List Item) → AllSplits P d xs → xs ≡ done ++ i ∷ more → P (d ++ done) i more
all_splits P d [] [] i more h e = absurd (no e)
  where
    no : [] ≡ i ∷ more → ⊥
    no q = cc
all_splits P d [] (x ∷ done) i more h e = absurd (no e)
  where
    no : [] ≡ x ∷ (done ++ i ∷ more) → ⊥
    no q = cc
all_splits P d (x ∷ xs) [] i more h e = subst (λ (z : List Item). P z i more) (sym (append-nil d)) (subst (λ (z : List Item). P d i z) (rest e) (subst (λ (z : Item). P d z xs) (first e) h.0))
  where
    first : x ∷ xs ≡ i ∷ more → x ≡ i
    first q = cc

    rest : x ∷ xs ≡ i ∷ more → xs ≡ more
    rest q = cc
all_splits P d (x ∷ xs) (y ∷ done) i more h e = subst (λ (z : List Item). P z i more) (append_assoc d (x ∷ []) done ∙ ap (λ (z : Item). d ++ z ∷ done) (first e)) (all_splits P (d ++ x ∷ []) xs done i more h.1 (rest e))
  where
    first : x ∷ xs ≡ y ∷ (done ++ i ∷ more) → x ≡ y
    first q = cc

    rest : x ∷ xs ≡ y ∷ (done ++ i ∷ more) → xs ≡ done ++ i ∷ more
    rest q = cc

-- ---- the rule at a point

pub value_ten : (r : ℕ) → is_value r ≡ true → IsPair r (shadow_of r)
value_ten r h = let q : (x : ℕ) × ((r ≡ 4 + x) × (x ≤ 9)) = Rattle.layout_law.proofs.Checked.value_low r h in lint_forms.plain (le r q.0 q.1.0) (top r q.0 q.1.0 q.1.1) (by r (not29 r q.0 q.1.0 q.1.1) (not31 r q.0 q.1.0 q.1.1))
  where
    le : (r x : ℕ) → r ≡ 4 + x → 4 ≤ r
    le r x e = omega arith

    top : (r x : ℕ) → r ≡ 4 + x → x ≤ 9 → r ≤ 13
    top r x e h = omega arith

    not29 : (r x : ℕ) → r ≡ 4 + x → x ≤ 9 → (r == 29) ≡ false
    not29 r x e h = grind arith

    not31 : (r x : ℕ) → r ≡ 4 + x → x ≤ 9 → (r == 31) ≡ false
    not31 r x e h = grind arith

    by : (r : ℕ) → (r == 29) ≡ false → (r == 31) ≡ false → shadow_of r ≡ r + 10
    by r e f = rw (e, f) refl

-- Wherever the items before and behind it in its form stand so, the word of an item keeps the rule.
abbrev pub KeepsBy : List Item → Item → List Item → Type 0
KeepsBy d i mo = (p : HardProgram) (l : Layable p) (n : Entered p) (a : ℕ) (w : ItemWord p a) (front rest : List Item) → w.done ≡ front ++ d → w.item ≡ i → w.more ≡ mo ++ rest → IsChecked (text p) 0x00400000 a

idle_by : (d : List Item) (i : Item) (mo : List Item) → is_use i.instr ≡ false → KeepsBy d i mo
idle_by d i mo h p l n a w front rest e f g = no_use p l a w (ap (λ (z : Item). is_use z.instr) f ∙ h)

plain_at : (p : HardProgram) (l : Layable p) (a : ℕ) (w : ItemWord p a) (x : Instr) (k : Class) → w.item ≡ plain x k → At (text p) a x
plain_at p l a w x k f = at_item p l a w ∙ ap Some (filled_as p w.block a w.item.fix Plain w.item.instr x (ap (λ (z : Item). z.fix) f) (ap (λ (z : Item). z.instr) f))

-- the compare of a check or of a head
skips_by : (d : List Item) (x y code : ℕ) (k k' : Class) (s : Item) (mo : List Item) → (code ≡ 1) ⊎ (code ≡ 2) → KeepsBy d (plain (Beq x y 2) k) (s ∷ plain (Break code) k' ∷ mo)
skips_by d x y code k k' s mo o p l n a w front rest e f g =
    let h : At (text p) a (Beq x y 2) = plain_at p l a w (Beq x y 2) k f in
    let v : ItemWord p (a + 4) = next_item p a w s (plain (Break code) k' ∷ (mo ++ rest)) g in
    let u : ItemWord p (a + 4 + 4) = next_item p (a + 4) v (plain (Break code) k') (mo ++ rest) refl in
    let b : At (text p) (a + 8) (Break code) = subst (λ (z : ℕ). At (text p) z (Break code)) (eight a) (plain_at p l (a + 4 + 4) u (Break code) k' refl) in
    no_use_skip p l a x y w h (elim o as (λ z. SkipsReport (text p) a) [
      | inl q ↦ inl (record { x = x; y = y; branch = record { instr = Beq x y 2; at = h; is = inl refl }; stop = subst (λ (z : ℕ). At (text p) (a + 8) (Break z)) q b })
      | inr q ↦ inr (record { x = x; y = y; branch = record { instr = Beq x y 2; at = h; is = inl refl }; stop = subst (λ (z : ℕ). At (text p) (a + 8) (Break z)) q b })
    ])
  where
    eight : (a : ℕ) → a + 4 + 4 ≡ a + 8
    eight a = omega arith

cut3 : (front d : List Item) (b s k : Item) → front ++ (d ++ b ∷ s ∷ k ∷ []) ≡ (front ++ d) ++ b ∷ s ∷ k ∷ []
cut3 front d b s k = sym (append_assoc front d (b ∷ s ∷ k ∷ []))

cut4 : (front d : List Item) (b s k u : Item) → front ++ (d ++ b ∷ s ∷ k ∷ u ∷ []) ≡ (front ++ d) ++ b ∷ s ∷ k ∷ u ∷ []
cut4 front d b s k u = sym (append_assoc front d (b ∷ s ∷ k ∷ u ∷ []))

-- the words of a store
first_store_by : (d : List Item) (v b o : ℕ) (mo : List Item) → PairFits b → KeepsBy (d ++ check b (shadow_of b)) (plain (Sw v b o) Act) mo
first_store_by d v b o mo f p l n a w front rest e g h r q =
    inr (inl (behind_guarded p l n a b r w (front ++ d) (plain (Beq b (shadow_of b) 2) Check) (plain nop Check) (plain (Break 1) Check) f (e ∙ cut3 front d (plain (Beq b (shadow_of b) 2) Check) (plain nop Check) (plain (Break 1) Check)) refl refl (refl, inl refl) refl refl (inl (sw_register (text p) a v b o r (plain_at p l a w (Sw v b o) Act g) q)) q))

second_store_by : (d : List Item) (v v' b o o' : ℕ) (mo : List Item) → PairFits b → KeepsBy (d ++ (check b (shadow_of b) ++ plain (Sw v b o) Act ∷ [])) (plain (Sw v' (shadow_of b) o') Act) mo
second_store_by d v v' b o o' mo f p l n a w front rest e g h r q =
    inr (inl (later_guarded p l n a b r w (front ++ d) (plain (Beq b (shadow_of b) 2) Check) (plain nop Check) (plain (Break 1) Check) (plain (Sw v b o) Act) f (e ∙ cut4 front d (plain (Beq b (shadow_of b) 2) Check) (plain nop Check) (plain (Break 1) Check) (plain (Sw v b o) Act)) refl refl (refl, inl refl) refl refl refl refl refl (λ r t. no_true (sym t)) (inr (sw_register (text p) a v' (shadow_of b) o' r (plain_at p l a w (Sw v' (shadow_of b) o') Act g) q)) q))

-- the branch of a test
test_branch_by : (m : ℕ) (mo : List Item) → PairFits m → KeepsBy (check m (shadow_of m)) (plain (Bne m 0 2) Act) mo
test_branch_by m mo f p l n a w front rest e g h r q =
    elim (branch_register (text p) a m 2 r (Bne m 0 2) (plain_at p l a w (Bne m 0 2) Act g) (inr refl) q) as (λ z. (r ≡ 0) ⊎ (Rattle.mips_text.specs.Typing.IsGuarded (text p) 0x00400000 a r ⊎ IsTaking (text p) a)) [
      | inl z ↦ inl z
      | inr z ↦ inr (inl (behind_guarded p l n a m r w front (plain (Beq m (shadow_of m) 2) Check) (plain nop Check) (plain (Break 1) Check) f e refl refl (refl, inl refl) refl refl (inl z) q))
    ]

-- the branch that closes a block
close_branch_by : (m t : ℕ) (x : Instr) (imm : ℕ) (mo : List Item) → IsBranch x m 0 imm → PairFits m → KeepsBy (check m (shadow_of m)) (going x (Block t)) mo
close_branch_by m t x imm mo o f p l n a w front rest e g h r q =
    let c : (i : Instr) × (At (text p) a i × IsBranch i m 0 (offset (a + 4) (address p t))) = stands o in
    elim (branch_register (text p) a m (offset (a + 4) (address p t)) r c.0 c.1.0 c.1.1 q) as (λ z. (r ≡ 0) ⊎ (Rattle.mips_text.specs.Typing.IsGuarded (text p) 0x00400000 a r ⊎ IsTaking (text p) a)) [
      | inl z ↦ inl z
      | inr z ↦ inr (inl (behind_guarded p l n a m r w front (plain (Beq m (shadow_of m) 2) Check) (plain nop Check) (plain (Break 1) Check) f e refl refl (refl, inl refl) refl refl (inl z) q))
    ]
  where
    stands : IsBranch x m 0 imm → (i : Instr) × (At (text p) a i × IsBranch i m 0 (offset (a + 4) (address p t)))
    stands (inl u) = (Beq m 0 (offset (a + 4) (address p t)), (at_item p l a w ∙ ap Some (filled_as p w.block a w.item.fix (Block t) w.item.instr (Beq m 0 imm) (ap (λ (z : Item). z.fix) g) (ap (λ (z : Item). z.instr) g ∙ u)), inl refl))
    stands (inr u) = (Bne m 0 (offset (a + 4) (address p t)), (at_item p l a w ∙ ap Some (filled_as p w.block a w.item.fix (Block t) w.item.instr (Bne m 0 imm) (ap (λ (z : Item). z.fix) g) (ap (λ (z : Item). z.instr) g ∙ u)), inr refl))

-- the syscall of an output or an exit
service_use_by : (number : ℕ) (k : Class) (mo : List Item) → KeepsBy (service_number true number) (plain Syscall k) mo
service_use_by number k mo p l n a w front rest e g h r q =
    inr (inl (behind_guarded p l n a 4 r w front (plain (Beq 4 14 2) Check) (plain (Ori 2 0 number) Act) (plain (Break 1) Check) (value_pair 4 refl) e refl refl (refl, inr (number, refl)) refl refl (inl (service_register (text p) a r (plain_at p l a w Syscall k g) q)) q))

-- the return
return_use_by : (mo : List Item) → KeepsBy (check 31 (shadow_of 31)) (plain (Jr 31) Act) mo
return_use_by mo p l n a w front rest e g h r q =
    inr (inl (behind_guarded p l n a 31 r w front (plain (Beq 31 (shadow_of 31) 2) Check) (plain nop Check) (plain (Break 1) Check) link_pair e refl refl (refl, inl refl) refl refl (inl (jr_register (text p) a 31 r (plain_at p l a w (Jr 31) Act g) q)) q))

-- the syscall of an input
input_use_by : (m : ℕ) → is_value m ≡ true → KeepsBy (plain (Ori 2 0 5) Input ∷ []) (plain Syscall Input) (plain (Addu m 2 0) Input ∷ plain (Addu (shadow_of m) 2 0) Input ∷ [])
input_use_by m v p l n a w front rest e g h r q =
    let c : ℕ = address p w.block + 4 * length front in
    let u : ItemWord p c = record { block = w.block; there = w.there; done = front; item = plain (Ori 2 0 5) Input; more = w.item ∷ w.more; split = w.split ∙ (ap (λ (z : List Item). z ++ w.item ∷ w.more) e ∙ append_assoc front (plain (Ori 2 0 5) Input ∷ []) (w.item ∷ w.more)); at = refl } in
    let d : a ≡ c + 4 = w.at ∙ sum (address p w.block) (length front) (length w.done) (ap length e ∙ length-append front (plain (Ori 2 0 5) Input ∷ [])) in
    let x : ItemWord p (a + 4) = next_item p a w (plain (Addu m 2 0) Input) (plain (Addu (shadow_of m) 2 0) Input ∷ rest) h in
    let y : ItemWord p (a + 4 + 4) = next_item p (a + 4) x (plain (Addu (shadow_of m) 2 0) Input) rest refl in
    inr (inr (record {
      c = c;
      input = record {
        m = m;
        s = shadow_of m;
        pair = value_ten m v;
        chooses = plain_at p l c u (Ori 2 0 5) Input refl;
        serves = subst (λ (z : ℕ). At (text p) z Syscall) d (plain_at p l a w Syscall Input g);
        first = subst (λ (z : ℕ). At (text p) z (Addu m 2 0)) (eight a c d) (plain_at p l (a + 4) x (Addu m 2 0) Input refl);
        second = subst (λ (z : ℕ). At (text p) z (Addu (shadow_of m) 2 0)) (twelve a c d) (plain_at p l (a + 4 + 4) y (Addu (shadow_of m) 2 0) Input refl);
      };
      at = d;
    }))
  where
    sum : (a n d : ℕ) → d ≡ n + 1 → a + 4 * d ≡ a + 4 * n + 4
    sum a n d e = omega arith

    eight : (a c : ℕ) → a ≡ c + 4 → a + 4 ≡ c + 8
    eight a c e = omega arith

    twelve : (a c : ℕ) → a ≡ c + 4 → a + 4 + 4 ≡ c + 12
    twelve a c e = omega arith

-- The same by name, so that its lists are found.
pub record Keeps (d : List Item) (i : Item) (mo : List Item) : Type 0 where
  pub rule : KeepsBy d i mo

idle : (d : List Item) (i : Item) (mo : List Item) → is_use i.instr ≡ false → Keeps d i mo
idle d i mo h1 = record { rule = λ p l n a w front rest e f g. idle_by d i mo h1 p l n a w front rest e f g }

skips : (d : List Item) (x y code : ℕ) (k k' : Class) (s : Item) (mo : List Item) → (code ≡ 1) ⊎ (code ≡ 2) → Keeps d (plain (Beq x y 2) k) (s ∷ plain (Break code) k' ∷ mo)
skips d x y code k k' s mo h1 = record { rule = λ p l n a w front rest e f g. skips_by d x y code k k' s mo h1 p l n a w front rest e f g }

first_store : (d : List Item) (v b o : ℕ) (mo : List Item) → PairFits b → Keeps (d ++ check b (shadow_of b)) (plain (Sw v b o) Act) mo
first_store d v b o mo h1 = record { rule = λ p l n a w front rest e f g. first_store_by d v b o mo h1 p l n a w front rest e f g }

second_store : (d : List Item) (v v' b o o' : ℕ) (mo : List Item) → PairFits b → Keeps (d ++ (check b (shadow_of b) ++ plain (Sw v b o) Act ∷ [])) (plain (Sw v' (shadow_of b) o') Act) mo
second_store d v v' b o o' mo h1 = record { rule = λ p l n a w front rest e f g. second_store_by d v v' b o o' mo h1 p l n a w front rest e f g }

test_branch : (m : ℕ) (mo : List Item) → PairFits m → Keeps (check m (shadow_of m)) (plain (Bne m 0 2) Act) mo
test_branch m mo h1 = record { rule = λ p l n a w front rest e f g. test_branch_by m mo h1 p l n a w front rest e f g }

close_branch : (m t : ℕ) (x : Instr) (imm : ℕ) (mo : List Item) → IsBranch x m 0 imm → PairFits m → Keeps (check m (shadow_of m)) (going x (Block t)) mo
close_branch m t x imm mo h1 h2 = record { rule = λ p l n a w front rest e f g. close_branch_by m t x imm mo h1 h2 p l n a w front rest e f g }

service_use : (number : ℕ) (k : Class) (mo : List Item) → Keeps (service_number true number) (plain Syscall k) mo
service_use number k mo = record { rule = λ p l n a w front rest e f g. service_use_by number k mo p l n a w front rest e f g }

return_use : (mo : List Item) → Keeps (check 31 (shadow_of 31)) (plain (Jr 31) Act) mo
return_use mo = record { rule = λ p l n a w front rest e f g. return_use_by mo p l n a w front rest e f g }

input_use : (m : ℕ) → is_value m ≡ true → Keeps (plain (Ori 2 0 5) Input ∷ []) (plain Syscall Input) (plain (Addu m 2 0) Input ∷ plain (Addu (shadow_of m) 2 0) Input ∷ [])
input_use m h1 = record { rule = λ p l n a w front rest e f g. input_use_by m h1 p l n a w front rest e f g }

-- ---- forms

data_idle : (x : Instr) → is_data x ≡ true → is_use x ≡ false
data_idle (Jr rs) h = absurd (no_true (sym h))
data_idle (Beq rs rt imm) h = absurd (no_true (sym h))
data_idle (Bne rs rt imm) h = absurd (no_true (sym h))
data_idle (Sw rt rs imm) h = absurd (no_true (sym h))
data_idle Syscall h = absurd (no_true (sym h))
data_idle x h = refl

product_idle : (x : Instr) → is_product x ≡ true → is_use x ≡ false
product_idle (Jr rs) h = absurd (no_true (sym h))
product_idle (Beq rs rt imm) h = absurd (no_true (sym h))
product_idle (Bne rs rt imm) h = absurd (no_true (sym h))
product_idle (Sw rt rs imm) h = absurd (no_true (sym h))
product_idle Syscall h = absurd (no_true (sym h))
product_idle x h = refl

move_idle : (x : Instr) → is_move x ≡ true → is_use x ≡ false
move_idle (Jr rs) h = absurd (no_true (sym h))
move_idle (Beq rs rt imm) h = absurd (no_true (sym h))
move_idle (Bne rs rt imm) h = absurd (no_true (sym h))
move_idle (Sw rt rs imm) h = absurd (no_true (sym h))
move_idle Syscall h = absurd (no_true (sym h))
move_idle x h = refl

pub base_pair : (b : ℕ) → IsTrue (is_value b || (b == 29)) → PairFits b
base_pair b h = by (is_value b) refl (subst (λ (z : Bool). IsTrue z) refl h)
  where
    eq : (b : ℕ) → (b == 29) ≡ true → b ≡ 29
    eq b e = grind arith

    by : (z : Bool) → is_value b ≡ z → IsTrue (is_value b || (b == 29)) → PairFits b
    by true e h = value_pair b e
    by false e h = subst PairFits (sym (eq b (sym (ap (λ (z : Bool). z || (b == 29)) e) ∙ h))) stack_pair

form_uses : (f : Form) → FormFits f → HasChecks f → AllSplits Keeps [] (form_items f)
form_uses (Alone i) f h = (idle [] i [] (data_idle i.instr f.computes), tt)
form_uses (Product i j) f h = (idle [] i (j ∷ []) (product_idle i.instr f.product), (idle (i ∷ []) j [] (move_idle j.instr f.move), tt))
form_uses (Store true v b o) f h = (
  skips [] v (shadow_of v) 1 Check Check (plain nop Check) _ (inl refl),
  (
    idle _ (plain nop Check) _ refl,
    (
      idle _ (plain (Break 1) Check) _ refl,
      (
        skips _ b (shadow_of b) 1 Check Check (plain nop Check) _ (inl refl),
        (
          idle _ (plain nop Check) _ refl,
          (
            idle _ (plain (Break 1) Check) _ refl,
            (first_store (check v (shadow_of v)) v b o _ (base_pair b f.1), (second_store (check v (shadow_of v)) v (shadow_of v) b o (Rattle.std.specs.Prelude.◌%◌ (o + 4) (2 ^ 16)) _ (base_pair b f.1), tt)),
          ),
        ),
      ),
    ),
  ),
)
form_uses (Store false v b o) f h = absurd (no_true (sym h))
form_uses (Test true m code) f h = (
  skips [] m (shadow_of m) 1 Check Check (plain nop Check) _ (inl refl),
  (
    idle _ (plain nop Check) _ refl,
    (
      idle _ (plain (Break 1) Check) _ refl,
      (test_branch m _ (value_pair m f.0), (idle _ (plain nop Act) _ refl, (idle _ (plain (Break code) Act) _ refl, tt))),
    ),
  ),
)
form_uses (Test false m code) f h = absurd (no_true (sym h))
form_uses (Output true) f h =
    (skips [] 4 14 1 Check Check (plain (Ori 2 0 1) Act) _ (inl refl), (idle _ (plain (Ori 2 0 1) Act) _ refl, (idle _ (plain (Break 1) Check) _ refl, (service_use 1 Act _, tt))))
form_uses (Output false) f h = absurd (no_true (sym h))
form_uses (Takes m) f h = (idle _ (plain (Ori 2 0 5) Input) _ refl, (input_use m f, (idle _ (plain (Addu m 2 0) Input) _ refl, (idle _ (plain (Addu (shadow_of m) 2 0) Input) _ refl, tt))))
form_uses Idle f h = (idle _ (plain nop Act) _ refl, tt)

close_uses : (c : Close) → CloseFits c → CloseHasChecks c → AllSplits Keeps [] (close_items c)
close_uses (Jump t) f h = (idle _ (going (J 0) (Block t)) _ refl, (idle _ (plain nop Act) _ refl, tt))
close_uses (Branch true m true t) f h =
    (skips [] m (shadow_of m) 1 Check Check (plain nop Check) _ (inl refl), (idle _ (plain nop Check) _ refl, (idle _ (plain (Break 1) Check) _ refl, (close_branch m t (Bne m 0 0) 0 _ (inr refl) (value_pair m f), (idle _ (plain nop Act) _ refl, tt)))))
close_uses (Branch true m false t) f h =
    (skips [] m (shadow_of m) 1 Check Check (plain nop Check) _ (inl refl), (idle _ (plain nop Check) _ refl, (idle _ (plain (Break 1) Check) _ refl, (close_branch m t (Beq m 0 0) 0 _ (inl refl) (value_pair m f), (idle _ (plain nop Act) _ refl, tt)))))
close_uses (Branch false m w t) f h = absurd (no_true (sym h))
close_uses (Call c) f h = (idle _ (going (Jal 0) (Function c)) _ refl, (idle _ (plain nop Act) _ refl, tt))
close_uses (Return true) f h =
    (skips [] 31 (shadow_of 31) 1 Check Check (plain nop Check) _ (inl refl), (idle _ (plain nop Check) _ refl, (idle _ (plain (Break 1) Check) _ refl, (return_use _, (idle _ (plain nop Act) _ refl, tt)))))
close_uses (Return false) f h = absurd (no_true (sym h))
close_uses (Exit true) f h =
    (skips [] 4 14 1 Check Check (plain (Ori 2 0 17) Act) _ (inl refl), (idle _ (plain (Ori 2 0 17) Act) _ refl, (idle _ (plain (Break 1) Check) _ refl, (service_use 17 Act _, (idle _ (plain (Break 1) Act) _ refl, tt)))))
close_uses (Exit false) f h = absurd (no_true (sym h))

head_uses : (m : Mark) → AllSplits Keeps [] (head_items m)
head_uses m = (
  idle _ (plain (Xori 24 24 m.d) Head) _ refl,
  (
    idle _ (plain (Rattle.std.specs.Prelude.if◌then◌else◌ m.fan (Xor 24 24 28) nop) Head) _ (by m.fan),
    (
      idle _ (plain (Ori 1 0 m.s) Head) _ refl,
      (
        idle _ (plain (Ori 28 0 m.adjust) Head) _ refl,
        (skips _ 24 1 2 Head Head (plain nop Head) _ (inr refl), (idle _ (plain nop Head) _ refl, (idle _ (plain (Break 2) Head) _ refl, tt))),
      ),
    ),
  ),
)
  where
    by : (z : Bool) → is_use (cond z (Xor 24 24 28) nop) ≡ false
    by true = refl
    by false = refl

-- ---- the whole program

point_in : (xs rest front : List Item) (p : HardProgram) (l : Layable p) (n : Entered p) (a : ℕ) (w : ItemWord p a) (d mo : List Item) → AllSplits Keeps [] xs → xs ≡ d ++ w.item ∷ mo → w.done ≡ front ++ d → w.more ≡ mo ++ rest → IsChecked (text p) 0x00400000 a
point_in xs rest front p l n a w d mo k e f g = (all_splits Keeps [] xs d w.item mo k e).rule p l n a w front rest f refl g

forms_uses : (fs : List Form) (c : Close) (front : List Item) (p : HardProgram) (l : Layable p) (n : Entered p) (a : ℕ) (w : ItemWord p a) (d : List Item) → Each FormFits fs → Each HasChecks fs → CloseFits c → CloseHasChecks c → w.done ≡ front ++ d → block_of fs c ≡ d ++ w.item ∷ w.more → IsChecked (text p) 0x00400000 a
forms_uses [] c front p l n a w d f h cf ch e g = point_in (close_items c) [] front p l n a w d w.more (close_uses c cf ch) g e (sym (append-nil w.more))
forms_uses (x ∷ fs) c front p l n a w d f h cf ch e g =
    elim (split_append (form_items x) (block_of fs c) d w.item w.more (sym (append_assoc (form_items x) (flat_map form_items fs) (close_items c)) ∙ g)) as (λ z. IsChecked (text p) 0x00400000 a) [
      | inl q ↦ point_in (form_items x) (block_of fs c) front p l n a w d q.0 (form_uses x f.0 h.0) q.1 e q.2
      | inr q ↦ forms_uses fs c (front ++ form_items x) p l n a w q.0 f.1 h.1 cf ch (e ∙ (ap (λ (z : List Item). front ++ z) q.1 ∙ sym (append_assoc front (form_items x) q.0))) q.2
    ]

block_uses : (o : Option Mark) (items : List Item) (k : Checked items) (p : HardProgram) (l : Layable p) (n : Entered p) (a : ℕ) (w : ItemWord p a) → head_of o ++ items ≡ w.done ++ w.item ∷ w.more → IsChecked (text p) 0x00400000 a
block_uses None items k p l n a w e = forms_uses k.formed.forms k.formed.close [] p l n a w w.done k.formed.fit k.each k.formed.close_fits k.close refl (sym k.formed.is ∙ e)
block_uses (Some m) items k p l n a w e = elim (split_append (head_items m) items w.done w.item w.more e) as (λ z. IsChecked (text p) 0x00400000 a) [
  | inl q ↦ point_in (head_items m) items [] p l n a w w.done q.0 (head_uses m) q.1 refl q.2
  | inr q ↦ forms_uses k.formed.forms k.formed.close (head_items m) p l n a w q.0 k.formed.fit k.each k.formed.close_fits k.close q.1 (sym k.formed.is ∙ q.2)
]

-- The fourth rule: of a guarded program, with heads or without.
pub is_checked : (s : Signed) → Layable (headed s) → Entered (headed s) → Guarded s.program → (a : ℕ) → IsChecked (text (headed s)) 0x00400000 a
is_checked s l n g a r q =
    let c : (i : Instr) × (At (text (headed s)) a i × (is_use i ≡ true)) = critical_use (text (headed s)) a r q in
    let w : ItemWord (headed s) a = item_word (headed s) a (in_text (text (headed s)) a c.0 c.1.0) in
    let h : w.block < length s.program.blocks = subst (λ (z : ℕ). w.block < z) (heads_length s.program.blocks s.marks) w.there in
    block_uses (slice_get s.marks w.block) (items_of s.program w.block) (g w.block h) (headed s) l n a w (sym (items_headed s w.block h) ∙ w.split) r q
