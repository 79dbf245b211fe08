-- What is counted of the split form: blocks, branches, loads through the stack pointers, and the words that it can come to.
use Rattle.std.proofs.Common.{◌≡◌, ◌≤◌, ◌<◌, ℕ, zero, suc, ◌+◌, ◌-◌, ◌*◌, arith, ap, refl, sym, ◌∙◌, subst, List, [], ◌∷◌, length, map, Bool, true, false, cond}
use Rattle.std.specs.Prelude.{Some, None, ◌==◌, ◌&&◌, not, slice_get, sum_by, count_by, max, Contains}
use Rattle.std.proofs.lemmas.List.{length-map}
use Rattle.std.proofs.lemmas.List.Sums.{sum_by-cons, sum_by-append}
use Rattle.mips_isa.specs.declared.instr.Instr.{Instr}
use Rattle.mips_isa.specs.declared.instr.Instr.TheVariants.{Beq, Bne}
use Rattle.mips_isa.specs.Machine.{is_jump}
use Rattle.hard_items.specs.declared.code.Class.{Class}
use Rattle.hard_items.specs.declared.code.Class.TheVariants.{Master, Shadow, Check, Act, Head, Input}
use Rattle.hard_items.specs.declared.code.Fix.{Fix}
use Rattle.hard_items.specs.declared.code.Fix.TheVariants.{Plain, Block, Function, ReturnHigh, ReturnLow}
use Rattle.hard_items.specs.declared.code.Item.{Item}
use Rattle.hard_items.specs.declared.code.HardBlock.{HardBlock}
use Rattle.hard_items.specs.declared.code.HardProgram.{HardProgram}
use Rattle.hard_items.specs.Run.{items_of, block_items, is_call}
use Rattle.hard_items.specs.WellFormed.{WellFormed}
use Rattle.hard_items.specs.Forms.{Close, Branch, Call, Formed}
use Rattle.hard_items.specs.Rules.{checks_of}
use Rattle.mips_text.specs.Loads.{is_reload}
use Rattle.hard_items.specs.Counts.{is_nop, is_conditional, is_block, is_branch, branches, reloads, free_nops, free_nops_behind, checks_there, checks_wanted, check_words, is_of_check, block_room, nops_for, room}
use Rattle.block_relays.specs.Relays.{Relays, Nothing, Next, Turned, Both, goals, turned, put_as, put_item}
use Rattle.layout_moves_law.proofs.Closes.{closing, holds_closing, Branches}
use Rattle.layout_moves_law.proofs.Turns.{turned_put, turned_through_put}
use Rattle.edge_split.specs.Split.{Plan, Keep, Returns, Calls, Falls, Turns, Forks, plan_of, relays_as, split_place, edge_relays, placed_block, relay_block, split_blocks, smoothed}
use Rattle.layout_moves_law.specs.SplitLawLaw.{SmoothedKeepsCounts}
use Rattle.layout_moves_law.proofs.Plans.{PlanFits, plan_fits}
use Rattle.layout_moves_law.proofs.Splits.{has_split, comes, two_goals}

none_some : {A : Type 0} (x : A) → None ≡ Some x → ⊥
none_some x e = cc

no_true : true ≡ false → ⊥
no_true e = cc

-- ---- sums over the blocks of the split form

relays_sum : (f : HardBlock → ℕ) (r : ℕ) (place : ℕ → ℕ) (cs : List ℕ) → ((c : ℕ) → f (relay_block place c) ≡ r) → sum_by f (map (relay_block place) cs) ≡ r * length cs
relays_sum f r place [] h = none r
  where
    none : (r : ℕ) → 0 ≡ r * 0
    none r = omega arith
relays_sum f r place (c ∷ cs) h =
    sum_by-cons f (relay_block place c) (map (relay_block place) cs) ∙ more (f (relay_block place c)) (sum_by f (map (relay_block place) cs)) r (length cs) (h c) (relays_sum f r place cs h)
  where
    more : (a s r n : ℕ) → a ≡ r → s ≡ r * n → a + s ≡ r * suc n
    more a s r n e f = omega (arith, e, f)

comes_sum : (f : HardBlock → ℕ) (r : ℕ) (place : ℕ → ℕ) (plans : ℕ → Plan) (b : ℕ) (k : HardBlock) → ((c : ℕ) → f (relay_block place c) ≡ r) → sum_by f (comes place plans b k) ≡ f (placed_block place b (plans b) k) + r * length (goals b (relays_as (plans b)))
comes_sum f r place plans b k h =
    sum_by-cons f (placed_block place b (plans b) k) (map (relay_block place) (goals b (relays_as (plans b)))) ∙ ap (λ (z : ℕ). f (placed_block place b (plans b) k) + z) (relays_sum f r place (goals b (relays_as (plans b))) h)

-- Where what comes for each block is at most something of the block, so it is in sum.
sums_le : (f g : HardBlock → ℕ) (r : ℕ) (place : ℕ → ℕ) (plans : ℕ → Plan) (b : ℕ) (ks : List HardBlock) → ((c : ℕ) → f (relay_block place c) ≡ r) →
    ((m : ℕ) (k : HardBlock) → slice_get ks m ≡ Some k → f (placed_block place (b + m) (plans (b + m)) k) + r * length (goals (b + m) (relays_as (plans (b + m)))) ≤ g k) → sum_by f (split_blocks place plans b ks) ≤ sum_by g ks
sums_le f g r place plans b [] h e = omega arith
sums_le f g r place plans b (k ∷ ks) h e =
    more (sum_by f (split_blocks place plans b (k ∷ ks))) (sum_by f (comes place plans b k)) (sum_by f (split_blocks place plans (b + 1) ks)) (f (placed_block place b (plans b) k) + r * length (goals b (relays_as (plans b)))) (g k) (sum_by g ks) (sum_by g (k ∷ ks))
    (sum_by-append f (comes place plans b k) (split_blocks place plans (b + 1) ks)) (comes_sum f r place plans b k h)
    (subst (λ (z : ℕ). f (placed_block place z (plans z) k) + r * length (goals z (relays_as (plans z))) ≤ g k) (none b) (e 0 k refl))
    (sums_le f g r place plans (b + 1) ks h (λ m x s. subst (λ (z : ℕ). f (placed_block place z (plans z) x) + r * length (goals z (relays_as (plans z))) ≤ g x) (move b m) (e (suc m) x s))) (sum_by-cons g k ks)
  where
    none : (b : ℕ) → b + 0 ≡ b
    none b = omega arith

    move : (b m : ℕ) → b + suc m ≡ b + 1 + m
    move b m = omega arith

    more : (s c t a x y z : ℕ) → s ≡ c + t → c ≡ a → a ≤ x → t ≤ y → z ≡ x + y → s ≤ z
    more s c t a x y z e f h k g = omega arith

-- Where a block in its place counts as before, and a block that is put nothing, so it is in sum.
sums_same : (f : HardBlock → ℕ) (place : ℕ → ℕ) (plans : ℕ → Plan) (b : ℕ) (ks : List HardBlock) → ((c : ℕ) → f (relay_block place c) ≡ 0) →
    ((c : ℕ) (k : HardBlock) → f (placed_block place c (plans c) k) ≡ f k) → sum_by f (split_blocks place plans b ks) ≡ sum_by f ks
sums_same f place plans b [] h e = refl
sums_same f place plans b (k ∷ ks) h e =
    more (sum_by f (split_blocks place plans b (k ∷ ks))) (sum_by f (comes place plans b k)) (sum_by f (split_blocks place plans (b + 1) ks)) (f (placed_block place b (plans b) k)) (length (goals b (relays_as (plans b)))) (f k) (sum_by f ks) (sum_by f (k ∷ ks))
    (sum_by-append f (comes place plans b k) (split_blocks place plans (b + 1) ks)) (comes_sum f 0 place plans b k h) (e b k) (sums_same f place plans (b + 1) ks h e) (sum_by-cons f k ks)
  where
    more : (s c t a n x y z : ℕ) → s ≡ c + t → c ≡ a + 0 * n → a ≡ x → t ≡ y → z ≡ x + y → s ≡ z
    more s c t a n x y z e f h k g = omega arith

-- ---- items that stay what they are

turned_keeps : {A : Type 0} (f : Instr → A) → ((rs rt imm : ℕ) → f (Beq rs rt imm) ≡ f (Bne rs rt imm)) → (r : Relays) (x : Instr) → f (turned r x) ≡ f x
turned_keeps f h Nothing x = refl
turned_keeps f h Next x = refl
turned_keeps f h (Both t) x = refl
turned_keeps f h (Turned t) (Beq rs rt imm) = sym (h rs rt imm)
turned_keeps f h (Turned t) (Bne rs rt imm) = h rs rt imm
turned_keeps f h (Turned t) x = refl

as_keeps : {A : Type 0} (f : Class → Instr → A) → ((c : Class) (rs rt imm : ℕ) → f c (Beq rs rt imm) ≡ f c (Bne rs rt imm)) → (place : ℕ → ℕ) (b : ℕ) (r : Relays) (i : Item) (x : Fix) → f (put_as place b r i x).class (put_as place b r i x).instr ≡ f i.class i.instr
as_keeps f h place b r i Plain = refl
as_keeps f h place b r i (Block t) = turned_keeps (f i.class) (h i.class) r i.instr
as_keeps f h place b r i (Function g) = refl
as_keeps f h place b r i ReturnHigh = refl
as_keeps f h place b r i ReturnLow = refl

as_branch : (place : ℕ → ℕ) (b : ℕ) (r : Relays) (i : Item) (x : Fix) → i.fix ≡ x → is_branch (put_as place b r i x) ≡ is_branch i
as_branch place b r i Plain e = refl
as_branch place b r i (Block t) e = ap (λ (z : Bool). z && true) (turned_keeps is_conditional (λ rs rt imm. refl) r i.instr) ∙ ap (λ (z : Fix). is_conditional i.instr && is_block z) (sym e)
as_branch place b r i (Function g) e = refl
as_branch place b r i ReturnHigh e = refl
as_branch place b r i ReturnLow e = refl

sum_put : (f : Item → ℕ) (place : ℕ → ℕ) (b : ℕ) (r : Relays) → ((i : Item) → f (put_item place b r i) ≡ f i) → (xs : List Item) → sum_by f (map (put_item place b r) xs) ≡ sum_by f xs
sum_put f place b r h [] = refl
sum_put f place b r h (i ∷ xs) =
    sum_by-cons f (put_item place b r i) (map (put_item place b r) xs) ∙ (ap (λ (z : ℕ). z + sum_by f (map (put_item place b r) xs)) (h i) ∙ (ap (λ (z : ℕ). f i + z) (sum_put f place b r h xs) ∙ sym (sum_by-cons f i xs)))

branches_put : (place : ℕ → ℕ) (b : ℕ) (r : Relays) (xs : List Item) → branches (map (put_item place b r) xs) ≡ branches xs
branches_put place b r xs = sum_put (λ i. cond (is_branch i) 1 0) place b r (λ i. ap (λ (z : Bool). cond z 1 0) (as_branch place b r i i.fix refl)) xs

abbrev loads : List Item → ℕ
loads xs = count_by (λ i. is_reload i.instr) xs

loads_put : (place : ℕ → ℕ) (b : ℕ) (r : Relays) (xs : List Item) → loads (map (put_item place b r) xs) ≡ loads xs
loads_put place b r xs = sum_put (λ i. cond (is_reload i.instr) 1 0) place b r (λ i. as_keeps (λ c x. cond (is_reload x) 1 0) (λ c rs rt imm. refl) place b r i i.fix) xs

checks_put : (place : ℕ → ℕ) (b : ℕ) (r : Relays) (xs : List Item) → checks_there (map (put_item place b r) xs) ≡ checks_there xs
checks_put place b r xs = sum_put (λ i. cond (is_of_check i.class) 1 0) place b r (λ i. as_keeps (λ c x. cond (is_of_check c) 1 0) (λ c rs rt imm. refl) place b r i i.fix) xs

nops_put : (place : ℕ → ℕ) (b : ℕ) (r : Relays) (xs : List Item) → sum_by nops_for (map (put_item place b r) xs) ≡ sum_by nops_for xs
nops_put place b r xs = sum_put nops_for place b r (λ i. as_keeps (λ c x. nops_for (record { instr = x; class = c; fix = Plain })) (λ c rs rt imm. refl) place b r i i.fix) xs

abbrev wanted : Class → Instr → ℕ
wanted c x = cond (length (checks_of c x) == 0) 0 (check_words x (length (checks_of c x)))

wanted_same : (c : Class) (rs rt imm : ℕ) → wanted c (Beq rs rt imm) ≡ wanted c (Bne rs rt imm)
wanted_same Master rs rt imm = refl
wanted_same Shadow rs rt imm = refl
wanted_same Check rs rt imm = refl
wanted_same Act rs rt imm = refl
wanted_same Head rs rt imm = refl
wanted_same Input rs rt imm = refl

wanted_put : (place : ℕ → ℕ) (b : ℕ) (r : Relays) (xs : List Item) → sum_by checks_wanted (map (put_item place b r) xs) ≡ sum_by checks_wanted xs
wanted_put place b r xs = sum_put checks_wanted place b r (λ i. as_keeps wanted wanted_same place b r i i.fix) xs

free_put : (place : ℕ → ℕ) (b : ℕ) (r : Relays) (slot : Bool) (xs : List Item) → free_nops_behind slot (map (put_item place b r) xs) ≡ free_nops_behind slot xs
free_put place b r slot [] = refl
free_put place b r slot (i ∷ xs) =
    ap (λ (z : Bool). cond (z && not slot) 1 0 + free_nops_behind (is_jump (put_item place b r i).instr) (map (put_item place b r) xs)) (as_keeps (λ c x. is_nop x) (λ c rs rt imm. refl) place b r i i.fix)
    ∙ (ap (λ (z : Bool). cond (is_nop i.instr && not slot) 1 0 + free_nops_behind z (map (put_item place b r) xs)) (as_keeps (λ c x. is_jump x) (λ c rs rt imm. refl) place b r i i.fix)
    ∙ ap (λ (z : ℕ). cond (is_nop i.instr && not slot) 1 0 + z) (free_put place b r (is_jump i.instr) xs))

room_put : (place : ℕ → ℕ) (b : ℕ) (r : Plan) (k : HardBlock) → block_room (placed_block place b r k) ≡ block_room k
room_put place b r k =
    same (length (map (put_item place b (relays_as r)) k.items)) (free_nops (map (put_item place b (relays_as r)) k.items)) (checks_there (map (put_item place b (relays_as r)) k.items)) (sum_by checks_wanted (map (put_item place b (relays_as r)) k.items)) (branches (map (put_item place b (relays_as r)) k.items))
    (length k.items) (free_nops k.items) (checks_there k.items) (sum_by checks_wanted k.items) (branches k.items)
    (length-map k.items (put_item place b (relays_as r))) (free_put place b (relays_as r) false k.items) (checks_put place b (relays_as r) k.items) (wanted_put place b (relays_as r) k.items) (branches_put place b (relays_as r) k.items)
  where
    same : (l f c w n a d e g h : ℕ) → l ≡ a → f ≡ d → c ≡ e → w ≡ g → n ≡ h → (l - f - c) + w + 7 + 9 * n ≡ (a - d - e) + g + 7 + 9 * h
    same l f c w n a d e g h i j m o q = ap (λ (z : ℕ). (z - f - c) + w + 7 + 9 * n) i ∙ (ap (λ (z : ℕ). (a - z - c) + w + 7 + 9 * n) j ∙ (ap (λ (z : ℕ). (a - d - z) + w + 7 + 9 * n) m ∙ (ap (λ (z : ℕ). (a - d - e) + z + 7 + 9 * n) o ∙ ap (λ (z : ℕ). (a - d - e) + g + 7 + 9 * z) q)))

-- ---- how many blocks are put

count_in : (test : Item → Bool) (xs : List Item) (i : Item) → Contains xs i → test i ≡ true → 1 ≤ count_by test xs
count_in test [] i c e = absurd (no c.0 c.1)
  where
    no : (n : ℕ) → n < 0 → ⊥
    no n h = omega arith
count_in test (x ∷ xs) i (zero, l, s) e = more (count_by test (x ∷ xs)) (cond (test x) 1 0) (count_by test xs) (sum_by-cons (λ (y : Item). cond (test y) 1 0) x xs) (ap (λ (z : Bool). cond z 1 0) (ap test s ∙ e))
  where
    more : (s a n : ℕ) → s ≡ a + n → a ≡ 1 → 1 ≤ s
    more s a n e f = omega arith
count_in test (x ∷ xs) i (suc k, l, s) e = more (count_by test (x ∷ xs)) (cond (test x) 1 0) (count_by test xs) (sum_by-cons (λ (y : Item). cond (test y) 1 0) x xs) (count_in test xs i (k, less k (length xs) l, s) e)
  where
    less : (a b : ℕ) → suc a < suc b → a < b
    less a b h = omega arith

    more : (s a n : ℕ) → s ≡ a + n → 1 ≤ n → 1 ≤ s
    more s a n e h = omega arith

closing_branch : (c : Close) (t : ℕ) → Branches c t → is_branch (closing c) ≡ true
closing_branch c t h = ap (λ (z : Close). is_branch (closing z)) h.is ∙ by h.when
  where
    by : (w : Bool) → is_branch (closing (Branch h.checked h.register w t)) ≡ true
    by true = refl
    by false = refl

abbrev calls_in : List Item → ℕ
calls_in xs = count_by (λ i. is_call i.instr) xs

goals_few : (p : HardProgram) (b : ℕ) → WellFormed p → (g : Formed (items_of p b)) → length (goals b (edge_relays p b)) ≤ 2 * branches (items_of p b) + calls_in (items_of p b)
goals_few p b w g = by (plan_of p b) (plan_fits p b w g)
  where
    branch : (t : ℕ) → Branches g.close t → 1 ≤ branches (items_of p b)
    branch t h = count_in is_branch (items_of p b) (closing g.close) (holds_closing p b g) (closing_branch g.close t h)

    call : (f : ℕ) → g.close ≡ Call f → 1 ≤ calls_in (items_of p b)
    call f e = count_in (λ i. is_call i.instr) (items_of p b) (closing g.close) (holds_closing p b g) (ap (λ (z : Close). is_call (closing z).instr) e)

    none : (x y : ℕ) → 0 ≤ 2 * x + y
    none x y = omega arith

    two : (n x y : ℕ) → n ≤ 2 → 1 ≤ x → n ≤ 2 * x + y
    two n x y h k = omega arith

    one : (x y : ℕ) → 1 ≤ y → 1 ≤ 2 * x + y
    one x y h = omega arith

    by : (r : Plan) → PlanFits b g.close r → length (goals b (relays_as r)) ≤ 2 * branches (items_of p b) + calls_in (items_of p b)
    by Keep h = none (branches (items_of p b)) (calls_in (items_of p b))
    by Returns h = none (branches (items_of p b)) (calls_in (items_of p b))
    by Calls h = one (branches (items_of p b)) (calls_in (items_of p b)) (call h.0 h.1)
    by Falls h = two 1 (branches (items_of p b)) (calls_in (items_of p b)) (omega arith) (branch h.0 h.1.0)
    by (Turns t) h = two 1 (branches (items_of p b)) (calls_in (items_of p b)) (omega arith) (branch t h)
    by (Forks t) h = two 2 (branches (items_of p b)) (calls_in (items_of p b)) (omega arith) (branch t h)

ones : (ks : List HardBlock) → sum_by (λ k. 1) ks ≡ length ks
ones [] = refl
ones (k ∷ ks) = sum_by-cons (λ (x : HardBlock). 1) k ks ∙ (ap (λ (z : ℕ). 1 + z) (ones ks) ∙ one (length ks))
  where
    one : (n : ℕ) → 1 + n ≡ suc n
    one n = omega arith

there_get : (ks : List HardBlock) (b : ℕ) (k : HardBlock) → slice_get ks b ≡ Some k → b < length ks
there_get [] b k e = absurd (none_some k e)
there_get (x ∷ ks) zero k e = omega arith
there_get (x ∷ ks) (suc b) k e = omega (arith, there_get ks b k e)

parts : (ks : List HardBlock) → sum_by (λ k. 1 + (2 * branches k.items + calls_in k.items)) ks ≡ length ks + 2 * sum_by (λ k. branches k.items) ks + sum_by (λ k. calls_in k.items) ks
parts [] = refl
parts (k ∷ ks) = more (sum_by (λ k. 1 + (2 * branches k.items + calls_in k.items)) (k ∷ ks)) (sum_by (λ k. 1 + (2 * branches k.items + calls_in k.items)) ks) (branches k.items) (calls_in k.items) (length ks) (sum_by (λ k. branches k.items) ks) (sum_by (λ k. calls_in k.items) ks) (sum_by (λ k. branches k.items) (k ∷ ks)) (sum_by (λ k. calls_in k.items) (k ∷ ks))
    (sum_by-cons (λ (x : HardBlock). 1 + (2 * branches x.items + calls_in x.items)) k ks) (parts ks) (sum_by-cons (λ (x : HardBlock). branches x.items) k ks) (sum_by-cons (λ (x : HardBlock). calls_in x.items) k ks)
  where
    more : (s t x y n u v p q : ℕ) → s ≡ 1 + (2 * x + y) + t → t ≡ n + 2 * u + v → p ≡ x + u → q ≡ y + v → s ≡ suc n + 2 * p + q
    more s t x y n u v p q e f g h = omega arith

zero_left : (m : ℕ) → m ≡ 0 + m
zero_left m = omega arith

pub blocks_few : (p : HardProgram) → WellFormed p → ((b : ℕ) → b < length p.blocks → Formed (items_of p b)) → length (smoothed p).blocks ≤ length p.blocks + 2 * sum_by (λ k. branches k.items) p.blocks + sum_by (λ k. calls_in k.items) p.blocks
blocks_few p w g = both (length (smoothed p).blocks) (sum_by (λ k. 1) (smoothed p).blocks) (sum_by (λ k. 1 + (2 * branches k.items + calls_in k.items)) p.blocks) (length p.blocks + 2 * sum_by (λ k. branches k.items) p.blocks + sum_by (λ k. calls_in k.items) p.blocks)
    (ones (smoothed p).blocks) (sums_le (λ k. 1) (λ k. 1 + (2 * branches k.items + calls_in k.items)) 1 (split_place p) (plan_of p) 0 p.blocks (λ c. refl) each) (parts p.blocks)
  where
    both : (l a b c : ℕ) → a ≡ l → a ≤ b → b ≡ c → l ≤ c
    both l a b c e h f = omega arith

    one : (n x : ℕ) → n ≤ x → 1 + 1 * n ≤ 1 + x
    one n x h = omega arith

    each : (m : ℕ) (k : HardBlock) → slice_get p.blocks m ≡ Some k → 1 + 1 * length (goals (0 + m) (relays_as (plan_of p (0 + m)))) ≤ 1 + (2 * branches k.items + calls_in k.items)
    each m k e = subst (λ (z : ℕ). 1 + 1 * length (goals z (relays_as (plan_of p z))) ≤ 1 + (2 * branches k.items + calls_in k.items)) (zero_left m)
        (one (length (goals m (edge_relays p m))) (2 * branches k.items + calls_in k.items) (subst (λ (xs : List Item). length (goals m (edge_relays p m)) ≤ 2 * branches xs + calls_in xs) (ap block_items e) (goals_few p m w (g m (there_get p.blocks m k e)))))

pub branches_same : (p : HardProgram) → sum_by (λ k. branches k.items) (smoothed p).blocks ≡ sum_by (λ k. branches k.items) p.blocks
branches_same p = sums_same (λ k. branches k.items) (split_place p) (plan_of p) 0 p.blocks (λ c. refl) (λ b k. branches_put (split_place p) b (relays_as (plan_of p b)) k.items)

pub reloads_same : (p : HardProgram) → reloads (smoothed p) ≡ reloads p
reloads_same p = sums_same (λ k. loads k.items) (split_place p) (plan_of p) 0 p.blocks (λ c. refl) (λ b k. loads_put (split_place p) b (relays_as (plan_of p b)) k.items)

-- ---- room

free_same : (p : HardProgram) → sum_by (λ k. free_nops k.items) (smoothed p).blocks ≡ sum_by (λ k. free_nops k.items) p.blocks
free_same p = sums_same (λ k. free_nops k.items) (split_place p) (plan_of p) 0 p.blocks (λ c. refl) (λ b k. free_put (split_place p) b (relays_as (plan_of p b)) false k.items)

nops_same : (p : HardProgram) → sum_by (λ k. sum_by nops_for k.items) (smoothed p).blocks ≡ sum_by (λ k. sum_by nops_for k.items) p.blocks
nops_same p = sums_same (λ k. sum_by nops_for k.items) (split_place p) (plan_of p) 0 p.blocks (λ c. refl) (λ b k. nops_put (split_place p) b (relays_as (plan_of p b)) k.items)

eighteen : (ks : List HardBlock) → sum_by (λ k. block_room k + 18) ks ≡ sum_by block_room ks + 18 * length ks
eighteen [] = refl
eighteen (k ∷ ks) = more (sum_by (λ k. block_room k + 18) (k ∷ ks)) (sum_by (λ k. block_room k + 18) ks) (block_room k) (sum_by block_room ks) (sum_by block_room (k ∷ ks)) (length ks) (sum_by-cons (λ (x : HardBlock). block_room x + 18) k ks) (eighteen ks) (sum_by-cons block_room k ks)
  where
    more : (s t x y z n : ℕ) → s ≡ x + 18 + t → t ≡ y + 18 * n → z ≡ x + y → s ≡ z + 18 * suc n
    more s t x y z n e f g = omega arith

pub room_within : (p : HardProgram) → room (smoothed p) ≤ room p + 45 * length p.blocks
room_within p = sum (sum_by block_room (smoothed p).blocks) (sum_by block_room p.blocks) (length p.blocks) (max (sum_by (λ k. free_nops k.items) (smoothed p).blocks) (sum_by (λ k. sum_by nops_for k.items) (smoothed p).blocks)) (max (sum_by (λ k. free_nops k.items) p.blocks) (sum_by (λ k. sum_by nops_for k.items) p.blocks))
    (subst (λ (z : ℕ). sum_by block_room (smoothed p).blocks ≤ z) (eighteen p.blocks) (sums_le block_room (λ k. block_room k + 18) 9 (split_place p) (plan_of p) 0 p.blocks (λ c. refl) each))
    (ap (λ (z : ℕ). max z (sum_by (λ k. sum_by nops_for k.items) (smoothed p).blocks)) (free_same p) ∙ ap (λ (z : ℕ). max (sum_by (λ k. free_nops k.items) p.blocks) z) (nops_same p))
  where
    sum : (a b n x y : ℕ) → a ≤ b + 18 * n → x ≡ y → a + x ≤ b + y + 45 * n
    sum a b n x y h e = omega arith

    put : (a x n : ℕ) → a ≡ x → n ≤ 2 → a + 9 * n ≤ x + 18
    put a x n e h = omega arith

    each : (m : ℕ) (k : HardBlock) → slice_get p.blocks m ≡ Some k → block_room (placed_block (split_place p) (0 + m) (plan_of p (0 + m)) k) + 9 * length (goals (0 + m) (relays_as (plan_of p (0 + m)))) ≤ block_room k + 18
    each m k e = put (block_room (placed_block (split_place p) (0 + m) (plan_of p (0 + m)) k)) (block_room k) (length (goals (0 + m) (relays_as (plan_of p (0 + m))))) (room_put (split_place p) (0 + m) (plan_of p (0 + m)) k) (two_goals (0 + m) (relays_as (plan_of p (0 + m))))

pub keeps_counts : SmoothedKeepsCounts
keeps_counts p a = record {
  blocks = blocks_few p a.well_formed a.formed;
  branches_same = branches_same p;
  reloads_same = reloads_same p;
  room_within = room_within p;
  turned = turned_put (edge_relays p) p (smoothed p) (has_split p) a.formed;
  turned_through = turned_through_put (edge_relays p) p (smoothed p) (has_split p) a.formed;
}
