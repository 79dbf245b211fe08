-- What is counted of the far form: blocks, branches, loads through the stack pointers, and words.
use Rattle.std.proofs.Common.{◌≡◌, ◌≤◌, ◌<◌, ℕ, zero, suc, ◌+◌, ◌-◌, ◌*◌, ◌%◌, ◌^◌, arith, ap, refl, sym, ◌∙◌, subst, List, [], ◌∷◌, ◌++◌, length, map, Bool, true, false, cond}
use Rattle.std.specs.Prelude.{Option, Some, None, ◌==◌, ◌&&◌, ◌||◌, slice_get, sum_by, count_by, max, flat_map, if◌then◌else◌, IsTrue}
use Rattle.std.proofs.lemmas.List.{length-map}
use Rattle.std.proofs.lemmas.List.Sums.{sum_by-cons, sum_by-append}
use Rattle.mips_isa.specs.declared.instr.Instr.{Instr}
use Rattle.mips_isa.specs.declared.instr.Instr.TheVariants.{Beq, Bne, Break, Jr, Sw, Syscall}
use Rattle.hard_items.specs.declared.code.Class.{Class}
use Rattle.hard_items.specs.declared.code.Class.TheVariants.{Master, Shadow, Check, Act, Head, Input}
use Rattle.hard_items.specs.declared.code.Fix.{Fix}
use Rattle.hard_items.specs.declared.code.Fix.TheVariants.{Plain, Block, Function, ReturnHigh, ReturnLow}
use Rattle.hard_items.specs.declared.code.Item.{Item}
use Rattle.hard_items.specs.declared.code.HardBlock.{HardBlock}
use Rattle.hard_items.specs.declared.code.HardProgram.{HardProgram}
use Rattle.hard_items.specs.Run.{items_of, block_items}
use Rattle.hard_items.specs.Streams.{is_master, is_stream, shadow_of, plain, nop}
use Rattle.hard_items.specs.Forms.{Each, Form, Alone, Product, Store, Test, Output, Takes, Idle, Close, Jump, Branch, Call, Return, Exit, form_items, close_items, check_if, service_number, going, is_value, FormFits, Formed}
use Rattle.mips_text.specs.Loads.{is_reload}
use Rattle.hard_items.specs.Counts.{is_conditional, is_block, is_branch, branches, reloads, free_nops, checks_there, checks_wanted, is_of_check, block_room, nops_for, room}
use Rattle.block_relays.specs.Relays.{Relays, Nothing, Next, Turned, Both, goals, turned, put_as, put_item, relay, put_blocks}
use Rattle.far_branches.specs.Widen.{goal_of, far_goal, branch_goal, first_of, first_goal, is_large, far_of, far_as, far_relays, far_place, widened}
use Rattle.layout_law.specs.Layout.{words}
use Rattle.layout_moves_law.proofs.Far.{has_far}

none_some : (t : ℕ) → None ≡ Some t → ⊥
none_some t e = cc

-- ---- sums over blocks

sum_items : (f : List Item → ℕ) (ks : List HardBlock) → sum_by (λ k. f k.items) ks ≡ sum_by f (map (λ k. k.items) ks)
sum_items f [] = refl
sum_items f (k ∷ ks) = sum_by-cons (λ (x : HardBlock). f x.items) k ks ∙ (ap (λ (z : ℕ). f k.items + z) (sum_items f ks) ∙ sym (sum_by-cons f k.items (map (λ k. k.items) ks)))

-- What each block comes to, with those that are put behind it.
abbrev pub comes_to : (List Item → ℕ) → (ℕ → ℕ) → ℕ → Relays → HardBlock → ℕ
comes_to f place b r k = f (map (put_item place b r) k.items) + sum_by f (map (relay place) (goals b r))

put_sum : (f : List Item → ℕ) (relays : ℕ → Relays) (place : ℕ → ℕ) (b : ℕ) (k : HardBlock) (ks : List HardBlock) →
    sum_by f (put_blocks relays place b (k ∷ ks)) ≡ comes_to f place b (relays b) k + sum_by f (put_blocks relays place (b + 1) ks)
put_sum f relays place b k ks =
    sum_by-cons f (map (put_item place b (relays b)) k.items) (map (relay place) (goals b (relays b)) ++ put_blocks relays place (b + 1) ks)
    ∙ (ap (λ (z : ℕ). f (map (put_item place b (relays b)) k.items) + z) (sum_by-append f (map (relay place) (goals b (relays b))) (put_blocks relays place (b + 1) ks))
    ∙ sum (f (map (put_item place b (relays b)) k.items)) (sum_by f (map (relay place) (goals b (relays b)))) (sum_by f (put_blocks relays place (b + 1) ks)))
  where
    sum : (a b c : ℕ) → a + (b + c) ≡ a + b + c
    sum a b c = omega arith

sums_le : (f : List Item → ℕ) (g : HardBlock → ℕ) (relays : ℕ → Relays) (place : ℕ → ℕ) (b : ℕ) (ks : List HardBlock) →
    ((m : ℕ) (k : HardBlock) → slice_get ks m ≡ Some k → comes_to f place (b + m) (relays (b + m)) k ≤ g k) → sum_by f (put_blocks relays place b ks) ≤ sum_by g ks
sums_le f g relays place b [] h = omega arith
sums_le f g relays place b (k ∷ ks) h =
    more (sum_by f (put_blocks relays place b (k ∷ ks))) (sum_by g (k ∷ ks)) (comes_to f place b (relays b) k) (g k) (sum_by f (put_blocks relays place (b + 1) ks)) (sum_by g ks)
    (put_sum f relays place b k ks) (sum_by-cons g k ks) (subst (λ (z : ℕ). comes_to f place z (relays z) k ≤ g k) (none b) (h 0 k refl))
    (sums_le f g relays place (b + 1) ks (λ m x e. subst (λ (z : ℕ). comes_to f place z (relays z) x ≤ g x) (move b m) (h (suc m) x e)))
  where
    none : (b : ℕ) → b + 0 ≡ b
    none b = omega arith

    move : (b m : ℕ) → b + suc m ≡ b + 1 + m
    move b m = omega arith

    more : (s t a c u v : ℕ) → s ≡ a + u → t ≡ c + v → a ≤ c → u ≤ v → s ≤ t
    more s t a c u v e f h k = omega arith

sums_same : (f : List Item → ℕ) (g : HardBlock → ℕ) (relays : ℕ → Relays) (place : ℕ → ℕ) (b : ℕ) (ks : List HardBlock) →
    ((c : ℕ) (k : HardBlock) → comes_to f place c (relays c) k ≡ g k) → sum_by f (put_blocks relays place b ks) ≡ sum_by g ks
sums_same f g relays place b [] h = refl
sums_same f g relays place b (k ∷ ks) h =
    more (sum_by f (put_blocks relays place b (k ∷ ks))) (sum_by g (k ∷ ks)) (comes_to f place b (relays b) k) (g k) (sum_by f (put_blocks relays place (b + 1) ks)) (sum_by g ks)
    (put_sum f relays place b k ks) (sum_by-cons g k ks) (h b k) (sums_same f g relays place (b + 1) ks h)
  where
    more : (s t a c u v : ℕ) → s ≡ a + u → t ≡ c + v → a ≡ c → u ≡ v → s ≡ t
    more s t a c u v e f h k = omega arith

relays_sum : (f : List Item → ℕ) (r : ℕ) (place : ℕ → ℕ) (cs : List ℕ) → ((c : ℕ) → f (relay place c) ≡ r) → sum_by f (map (relay place) cs) ≡ r * length cs
relays_sum f r place [] h = none r
  where
    none : (r : ℕ) → 0 ≡ r * 0
    none r = omega arith
relays_sum f r place (c ∷ cs) h = sum_by-cons f (relay place c) (map (relay place) cs) ∙ (ap (λ (z : ℕ). z + sum_by f (map (relay place) cs)) (h c) ∙ (ap (λ (z : ℕ). r + z) (relays_sum f r place cs h) ∙ more r (length cs)))
  where
    more : (r n : ℕ) → r + r * n ≡ r * suc n
    more r n = omega arith

-- ---- items that stay what they are

count_put : (test : Item → Bool) (place : ℕ → ℕ) (b : ℕ) (r : Relays) → ((i : Item) → test (put_item place b r i) ≡ test i) → (xs : List Item) → count_by test (map (put_item place b r) xs) ≡ count_by test xs
count_put test place b r h [] = refl
count_put test place b r h (i ∷ xs) =
    sum_by-cons (λ (x : Item). cond (test x) 1 0) (put_item place b r i) (map (put_item place b r) xs)
    ∙ (ap (λ (z : Bool). cond z 1 0 + count_by test (map (put_item place b r) xs)) (h i) ∙ (ap (λ (z : ℕ). cond (test i) 1 0 + z) (count_put test place b r h xs) ∙ sym (sum_by-cons (λ (x : Item). cond (test x) 1 0) i xs)))

turned_reload : (r : Relays) (x : Instr) → is_reload (turned r x) ≡ is_reload x
turned_reload Nothing x = refl
turned_reload Next x = refl
turned_reload (Both t) x = refl
turned_reload (Turned t) (Beq rs rt imm) = refl
turned_reload (Turned t) (Bne rs rt imm) = refl
turned_reload (Turned t) x = refl

item_reload : (place : ℕ → ℕ) (b : ℕ) (r : Relays) (i : Item) (f : Fix) → is_reload (put_as place b r i f).instr ≡ is_reload i.instr
item_reload place b r i Plain = refl
item_reload place b r i (Block t) = turned_reload r i.instr
item_reload place b r i (Function f) = refl
item_reload place b r i ReturnHigh = refl
item_reload place b r i ReturnLow = refl

turned_conditional : (r : Relays) (x : Instr) → is_conditional (turned r x) ≡ is_conditional x
turned_conditional Nothing x = refl
turned_conditional Next x = refl
turned_conditional (Both t) x = refl
turned_conditional (Turned t) (Beq rs rt imm) = refl
turned_conditional (Turned t) (Bne rs rt imm) = refl
turned_conditional (Turned t) x = refl

item_branch : (place : ℕ → ℕ) (b : ℕ) (r : Relays) (i : Item) (f : Fix) → i.fix ≡ f → is_branch (put_as place b r i f) ≡ is_branch i
item_branch place b r i Plain e = refl
item_branch place b r i (Block t) e = ap (λ (z : Bool). z && true) (turned_conditional r i.instr) ∙ ap (λ (z : Fix). is_conditional i.instr && is_block z) (sym e)
item_branch place b r i (Function f) e = refl
item_branch place b r i ReturnHigh e = refl
item_branch place b r i ReturnLow e = refl

-- ---- a far block has a branch

none_goal : (z : Bool) (t : ℕ) → cond z None None ≡ Some t → ⊥
none_goal true t e = none_some t e
none_goal false t e = none_some t e

goal_branches : (b t : ℕ) (f : Fix) (z : Bool) → cond z (far_goal b (goal_of f)) None ≡ Some t → (z && is_block f) ≡ true
goal_branches b t Plain z e = absurd (none_goal z t e)
goal_branches b t (Block u) true e = refl
goal_branches b t (Block u) false e = absurd (none_some t e)
goal_branches b t (Function f) z e = absurd (none_goal z t e)
goal_branches b t ReturnHigh z e = absurd (none_goal z t e)
goal_branches b t ReturnLow z e = absurd (none_goal z t e)

pub goal_counts : (b t : ℕ) (xs : List Item) → first_goal b xs ≡ Some t → 1 ≤ branches xs
goal_counts b t [] e = absurd (none_some t e)
goal_counts b t (i ∷ more) e = by (goal_counts b t more) (branch_goal b i) refl e
  where
    here : (c n m : ℕ) → m ≡ c + n → c ≡ 1 → 1 ≤ m
    here c n m e f = omega arith

    later : (c n m : ℕ) → m ≡ c + n → 1 ≤ n → 1 ≤ m
    later c n m e h = omega arith

    by : (first_goal b more ≡ Some t → 1 ≤ branches more) → (o : Option ℕ) → branch_goal b i ≡ o → first_of o (first_goal b more) ≡ Some t → 1 ≤ branches (i ∷ more)
    by f (Some u) k e = here (cond (is_branch i) 1 0) (branches more) (branches (i ∷ more)) (sum_by-cons (λ (x : Item). cond (is_branch x) 1 0) i more) (ap (λ (z : Bool). cond z 1 0) (goal_branches b u i.fix (is_conditional i.instr) k))
    by f None k e = later (cond (is_branch i) 1 0) (branches more) (branches (i ∷ more)) (sum_by-cons (λ (x : Item). cond (is_branch x) 1 0) i more) (f e)

far_goals : (p : HardProgram) (b : ℕ) → length (goals b (far_relays p b)) ≤ branches (items_of p b)
far_goals p b = by (far_of p b) refl
  where
    large : (z : Bool) (o : Option ℕ) (t : ℕ) → cond z o None ≡ Some t → o ≡ Some t
    large true o t e = e
    large false o t e = absurd (none_some t e)

    by : (o : Option ℕ) → far_of p b ≡ o → length (goals b (far_as (far_of p b))) ≤ branches (items_of p b)
    by None e = subst (λ (z : Option ℕ). length (goals b (far_as z)) ≤ branches (items_of p b)) (sym e) (omega arith)
    by (Some t) e = subst (λ (z : Option ℕ). length (goals b (far_as z)) ≤ branches (items_of p b)) (sym e) (goal_counts b t (items_of p b) (large (is_large p b) (first_goal b (items_of p b)) t e))

here_of : (p : HardProgram) (m : ℕ) (k : HardBlock) → slice_get p.blocks m ≡ Some k → k.items ≡ items_of p m
here_of p m k e = ap block_items (sym e)

-- ---- the far form

-- What each block comes to adds up to what the program comes to.
whole : (f : List Item → ℕ) (p : HardProgram) → sum_by (λ k. f k.items) (widened p).blocks ≡ sum_by f (put_blocks (far_relays p) (far_place p) 0 p.blocks)
whole f p = sum_items f (widened p).blocks ∙ ap (sum_by f) (has_far p).blocks

length_sum : (ks : List HardBlock) (n : ℕ) → sum_by (λ k. length k.items + n) ks ≡ words ks + n * length ks
length_sum [] n = none n
  where
    none : (n : ℕ) → 0 ≡ 0 + n * 0
    none n = omega arith
length_sum (k ∷ ks) n = sum_by-cons (λ (x : HardBlock). length x.items + n) k ks ∙ (ap (λ (z : ℕ). length k.items + n + z) (length_sum ks n) ∙ (more (length k.items) n (words ks) (length ks) ∙ ap (λ (z : ℕ). z + n * suc (length ks)) (sym (sum_by-cons (λ (x : HardBlock). length x.items) k ks))))
  where
    more : (a n w l : ℕ) → a + n + (w + n * l) ≡ a + w + n * suc l
    more a n w l = omega arith

one_sum : (ks : List HardBlock) → sum_by (λ k. 1 + branches k.items) ks ≡ length ks + sum_by (λ k. branches k.items) ks
one_sum [] = refl
one_sum (k ∷ ks) = sum_by-cons (λ (x : HardBlock). 1 + branches x.items) k ks ∙ (ap (λ (z : ℕ). 1 + branches k.items + z) (one_sum ks) ∙ (more (branches k.items) (length ks) (sum_by (λ k. branches k.items) ks) ∙ ap (λ (z : ℕ). suc (length ks) + z) (sym (sum_by-cons (λ (x : HardBlock). branches x.items) k ks))))
  where
    more : (a l s : ℕ) → 1 + a + (l + s) ≡ suc l + (a + s)
    more a l s = omega arith

ones : (ks : List HardBlock) → sum_by (λ k. 1) ks ≡ length ks
ones [] = refl
ones (k ∷ ks) = sum_by-cons (λ (x : HardBlock). 1) k ks ∙ (ap (λ (z : ℕ). 1 + z) (ones ks) ∙ one (length ks))
  where
    one : (n : ℕ) → 1 + n ≡ suc n
    one n = omega arith

pub blocks_few : (p : HardProgram) → length (widened p).blocks ≤ length p.blocks + sum_by (λ k. branches k.items) p.blocks
blocks_few p = up (length (widened p).blocks) (sum_by (λ k. 1) (widened p).blocks) (sum_by (λ xs. 1) (put_blocks (far_relays p) (far_place p) 0 p.blocks)) (sum_by (λ k. 1 + branches k.items) p.blocks) (length p.blocks + sum_by (λ k. branches k.items) p.blocks)
    (ones (widened p).blocks) (whole (λ xs. 1) p) (sums_le (λ xs. 1) (λ k. 1 + branches k.items) (far_relays p) (far_place p) 0 p.blocks (λ m k e. subst (λ (z : ℕ). comes_to (λ xs. 1) (far_place p) z (far_relays p z) k ≤ 1 + branches k.items) (zero_left m) (each m k e))) (one_sum p.blocks)
  where
    up : (l a b c d : ℕ) → a ≡ l → a ≡ b → b ≤ c → c ≡ d → l ≤ d
    up l a b c d e f h g = omega arith

    zero_left : (m : ℕ) → m ≡ 0 + m
    zero_left m = omega arith

    within : (s n x : ℕ) → s ≡ 1 * n → n ≤ x → 1 + s ≤ 1 + x
    within s n x e h = omega arith

    each : (m : ℕ) (k : HardBlock) → slice_get p.blocks m ≡ Some k → comes_to (λ xs. 1) (far_place p) m (far_relays p m) k ≤ 1 + branches k.items
    each m k e = within (sum_by (λ xs. 1) (map (relay (far_place p)) (goals m (far_relays p m)))) (length (goals m (far_relays p m))) (branches k.items) (relays_sum (λ xs. 1) 1 (far_place p) (goals m (far_relays p m)) (λ c. refl))
        (subst (λ (z : List Item). length (goals m (far_relays p m)) ≤ branches z) (sym (here_of p m k e)) (far_goals p m))

zero_more : (a s n : ℕ) → s ≡ 0 * n → a + s ≡ a
zero_more a s n e = omega arith

pub branches_same : (p : HardProgram) → sum_by (λ k. branches k.items) (widened p).blocks ≡ sum_by (λ k. branches k.items) p.blocks
branches_same p = whole branches p ∙ sums_same branches (λ k. branches k.items) (far_relays p) (far_place p) 0 p.blocks (λ b k.
    zero_more (branches (map (put_item (far_place p) b (far_relays p b)) k.items)) (sum_by branches (map (relay (far_place p)) (goals b (far_relays p b)))) (length (goals b (far_relays p b))) (relays_sum branches 0 (far_place p) (goals b (far_relays p b)) (λ c. refl))
    ∙ count_put is_branch (far_place p) b (far_relays p b) (λ i. item_branch (far_place p) b (far_relays p b) i i.fix refl) k.items)

abbrev loads : List Item → ℕ
loads xs = count_by (λ i. is_reload i.instr) xs

pub reloads_same : (p : HardProgram) → reloads (widened p) ≡ reloads p
reloads_same p = whole loads p ∙ sums_same loads (λ k. loads k.items) (far_relays p) (far_place p) 0 p.blocks (λ b k.
    zero_more (loads (map (put_item (far_place p) b (far_relays p b)) k.items)) (sum_by loads (map (relay (far_place p)) (goals b (far_relays p b)))) (length (goals b (far_relays p b))) (relays_sum loads 0 (far_place p) (goals b (far_relays p b)) (λ c. refl))
    ∙ count_put (λ i. is_reload i.instr) (far_place p) b (far_relays p b) (λ i. item_reload (far_place p) b (far_relays p b) i i.fix) k.items)

-- ---- the checks that stand are among those that are wanted

there_append : (xs ys : List Item) → checks_there (xs ++ ys) ≡ checks_there xs + checks_there ys
there_append xs ys = sum_by-append (λ (i : Item). cond (is_of_check i.class) 1 0) xs ys

wanted_append : (xs ys : List Item) → sum_by checks_wanted (xs ++ ys) ≡ sum_by checks_wanted xs + sum_by checks_wanted ys
wanted_append xs ys = sum_by-append checks_wanted xs ys

abbrev Wanted : List Item → Type 0
Wanted xs = checks_there xs ≤ sum_by checks_wanted xs

wanted_both : (xs ys : List Item) → Wanted xs → Wanted ys → Wanted (xs ++ ys)
wanted_both xs ys h k = more (checks_there (xs ++ ys)) (sum_by checks_wanted (xs ++ ys)) (checks_there xs) (checks_there ys) (sum_by checks_wanted xs) (sum_by checks_wanted ys) (there_append xs ys) (wanted_append xs ys) h k
  where
    more : (s t a b c d : ℕ) → s ≡ a + b → t ≡ c + d → a ≤ c → b ≤ d → s ≤ t
    more s t a b c d e f h k = omega arith

stream_no_check : (c : Class) → is_stream c ≡ true → is_of_check c ≡ false
stream_no_check Master h = refl
stream_no_check Shadow h = refl
stream_no_check Check h = absurd (no h)
  where
    no : false ≡ true → ⊥
    no e = cc
stream_no_check Act h = refl
stream_no_check Head h = refl
stream_no_check Input h = refl

stream_wanted : (i : Item) → is_stream i.class ≡ true → Wanted (i ∷ [])
stream_wanted i h = least (checks_there (i ∷ [])) (sum_by checks_wanted (i ∷ [])) (ap (λ (z : Bool). 0 + cond z 1 0) (stream_no_check i.class h))
  where
    least : (a b : ℕ) → a ≡ 0 → a ≤ b
    least a b e = omega arith

-- Three words of a check, or none, before an item that wants so many.
check_wanted : (checked : Bool) (m : ℕ) → (checks_there (check_if checked m) ≡ cond checked 3 0) × (sum_by checks_wanted (check_if checked m) ≡ 0)
check_wanted true m = (refl, refl)
check_wanted false m = (refl, refl)

three_or_none : (checked : Bool) → cond checked 3 0 ≤ 3
three_or_none true = omega arith
three_or_none false = omega arith

master_value : (r : ℕ) → IsTrue (is_value r || r == 31) → is_master r ≡ true
master_value r h = by (is_value r) (r == 31) refl refl h
  where
    by : (x y : Bool) → is_value r ≡ x → (r == 31) ≡ y → IsTrue (x || y) → is_master r ≡ true
    by true y e f h = ap (λ (z : Bool). z || (r == 29 || r == 31)) e
    by false true e f h = ap (λ (z : Bool). z || (r == 29 || r == 31)) e ∙ (ap (λ (z : Bool). (r == 29) || z) f ∙ last (r == 29))
      where
        last : (z : Bool) → (z || true) ≡ true
        last true = refl
        last false = refl
    by false false e f h = absurd (no h)
      where
        no : IsTrue false → ⊥
        no h = cc

-- The checks of an item before it, and the item.
tested : (checked : Bool) (m : ℕ) (xs : List Item) → 3 ≤ sum_by checks_wanted xs → checks_there xs ≡ 0 → Wanted (check_if checked m ++ xs)
tested checked m xs h e =
    more (checks_there (check_if checked m ++ xs)) (sum_by checks_wanted (check_if checked m ++ xs)) (checks_there (check_if checked m)) (checks_there xs) (sum_by checks_wanted (check_if checked m)) (sum_by checks_wanted xs) (cond checked 3 0)
    (there_append (check_if checked m) xs) (wanted_append (check_if checked m) xs) (check_wanted checked m).0 e (three_or_none checked) h
  where
    more : (s t a b c d n : ℕ) → s ≡ a + b → t ≡ c + d → a ≡ n → b ≡ 0 → n ≤ 3 → 3 ≤ d → s ≤ t
    more s t a b c d n e f g h k l = omega arith

tested_twice : (checked : Bool) (v o : ℕ) (xs : List Item) → 6 ≤ sum_by checks_wanted xs → checks_there xs ≡ 0 → Wanted (check_if checked v ++ (check_if checked o ++ xs))
tested_twice checked v o xs h e =
    more (checks_there (check_if checked v ++ (check_if checked o ++ xs))) (sum_by checks_wanted (check_if checked v ++ (check_if checked o ++ xs)))
    (checks_there (check_if checked v)) (checks_there (check_if checked o ++ xs)) (sum_by checks_wanted (check_if checked v)) (sum_by checks_wanted (check_if checked o ++ xs))
    (checks_there (check_if checked o)) (checks_there xs) (sum_by checks_wanted (check_if checked o)) (sum_by checks_wanted xs) (cond checked 3 0)
    (there_append (check_if checked v) (check_if checked o ++ xs)) (wanted_append (check_if checked v) (check_if checked o ++ xs)) (there_append (check_if checked o) xs) (wanted_append (check_if checked o) xs)
    (check_wanted checked v).0 (check_wanted checked o).0 e (three_or_none checked) h
  where
    more : (s t a b c d x y u w n : ℕ) → s ≡ a + b → t ≡ c + d → b ≡ x + y → d ≡ u + w → a ≡ n → x ≡ n → y ≡ 0 → n ≤ 3 → 6 ≤ w → s ≤ t
    more s t a b c d x y u w n e f g h i j k l m = omega arith

abbrev stores : (v o k : ℕ) → List Item
stores v o k = plain (Sw v o k) Act ∷ plain (Sw (shadow_of v) (shadow_of o) ((k + 4) % 2 ^ 16)) Act ∷ []

store_wanted : (v o k : ℕ) → is_master v ≡ true → 6 ≤ sum_by checks_wanted (stores v o k)
store_wanted v o k h = more (sum_by checks_wanted (stores v o k)) (checks_wanted (plain (Sw v o k) Act)) (sum_by checks_wanted (plain (Sw (shadow_of v) (shadow_of o) ((k + 4) % 2 ^ 16)) Act ∷ []))
    (sum_by-cons checks_wanted (plain (Sw v o k) Act) (plain (Sw (shadow_of v) (shadow_of o) ((k + 4) % 2 ^ 16)) Act ∷ [])) (six (is_master v) h)
  where
    more : (s a b : ℕ) → s ≡ a + b → a ≡ 6 → 6 ≤ s
    more s a b e f = omega arith

    six : (z : Bool) → z ≡ true → (if length {A = ℕ × ℕ} (if z then (v, shadow_of v) ∷ (o, shadow_of o) ∷ [] else []) == 0 then 0 else 3 * length {A = ℕ × ℕ} (if z then (v, shadow_of v) ∷ (o, shadow_of o) ∷ [] else [])) ≡ 6
    six true e = refl
    six false e = absurd (no e)
      where
        no : false ≡ true → ⊥
        no e = cc

number_wanted : (checked : Bool) (n : ℕ) → Wanted (service_number checked n)
number_wanted true n = omega arith
number_wanted false n = omega arith

form_wanted : (f : Form) → FormFits f → Wanted (form_items f)
form_wanted (Alone i) h = stream_wanted i h.stream
form_wanted (Product i j) h = wanted_both (i ∷ []) (j ∷ []) (stream_wanted i h.stream) (stream_wanted j (subst (λ (c : Class). is_stream c ≡ true) h.one_stream h.stream))
form_wanted (Store checked v o k) h = tested_twice checked v o (stores v o k) (store_wanted v o k (master_value v h.0)) refl
form_wanted (Test checked r code) h = tested checked r (plain (Bne r 0 2) Act ∷ plain nop Act ∷ plain (Break code) Act ∷ []) (omega arith) refl
form_wanted (Output checked) h = wanted_both (service_number checked 1) (plain Syscall Act ∷ []) (number_wanted checked 1) (omega arith)
form_wanted (Takes r) h = omega arith
form_wanted Idle h = omega arith

close_wanted : (c : Close) → Wanted (close_items c)
close_wanted (Jump to) = omega arith
close_wanted (Branch checked r true to) = tested checked r (going (Bne r 0 0) (Block to) ∷ plain nop Act ∷ []) (omega arith) refl
close_wanted (Branch checked r false to) = tested checked r (going (Beq r 0 0) (Block to) ∷ plain nop Act ∷ []) (omega arith) refl
close_wanted (Call f) = omega arith
close_wanted (Return checked) = tested checked 31 (plain (Jr 31) Act ∷ plain nop Act ∷ []) (omega arith) refl
close_wanted (Exit checked) = wanted_both (service_number checked 17) (plain Syscall Act ∷ plain (Break 1) Act ∷ []) (number_wanted checked 17) (omega arith)

forms_wanted : (fs : List Form) → Each FormFits fs → Wanted (flat_map form_items fs)
forms_wanted [] h = omega arith
forms_wanted (f ∷ fs) h = wanted_both (form_items f) (flat_map form_items fs) (form_wanted f h.0) (forms_wanted fs h.1)

pub formed_wanted : (xs : List Item) → Formed xs → Wanted xs
formed_wanted xs g = subst Wanted (sym g.is) (wanted_both (flat_map form_items g.forms) (close_items g.close) (forms_wanted g.forms g.fit) (close_wanted g.close))

-- ---- words

abbrev most : HardBlock → ℕ
most k = length k.items + 7 + 9 * branches k.items

sums_apart : (f g h : HardBlock → ℕ) (ks : List HardBlock) → ((m : ℕ) (k : HardBlock) → slice_get ks m ≡ Some k → f k ≤ g k + h k) → sum_by f ks ≤ sum_by g ks + sum_by h ks
sums_apart f g h [] e = omega arith
sums_apart f g h (k ∷ ks) e = more (sum_by f (k ∷ ks)) (sum_by g (k ∷ ks)) (sum_by h (k ∷ ks)) (f k) (g k) (h k) (sum_by f ks) (sum_by g ks) (sum_by h ks) (sum_by-cons f k ks) (sum_by-cons g k ks) (sum_by-cons h k ks) (e 0 k refl) (sums_apart f g h ks (λ m x. e (suc m) x))
  where
    more : (s t u a b c x y z : ℕ) → s ≡ a + x → t ≡ b + y → u ≡ c + z → a ≤ b + c → x ≤ y + z → s ≤ t + u
    more s t u a b c x y z e f g h k = omega arith

within_room : (p : HardProgram) → ((b : ℕ) → b < length p.blocks → Formed (items_of p b)) → sum_by most p.blocks ≤ room p
within_room p g = up (sum_by most p.blocks) (sum_by block_room p.blocks) (sum_by (λ k. free_nops k.items) p.blocks) (sum_by (λ k. sum_by nops_for k.items) p.blocks) (sums_apart most block_room (λ k. free_nops k.items) p.blocks each)
  where
    up : (s r f n : ℕ) → s ≤ r + f → s ≤ r + max f n
    up s r f n h = grind arith

    one : (l f c w b : ℕ) → c ≤ w → l + 7 + 9 * b ≤ (l - f - c) + w + 7 + 9 * b + f
    one l f c w b h = omega arith

    there : (ks : List HardBlock) (m : ℕ) (k : HardBlock) → slice_get ks m ≡ Some k → m < length ks
    there [] m k e = absurd (no e)
      where
        no : None ≡ Some k → ⊥
        no e = cc
    there (x ∷ ks) zero k e = omega arith
    there (x ∷ ks) (suc m) k e = omega (arith, there ks m k e)

    each : (m : ℕ) (k : HardBlock) → slice_get p.blocks m ≡ Some k → most k ≤ block_room k + free_nops k.items
    each m k e = one (length k.items) (free_nops k.items) (checks_there k.items) (sum_by checks_wanted k.items) (branches k.items) (subst Wanted (sym (here_of p m k e)) (formed_wanted (items_of p m) (g m (there p.blocks m k e))))

abbrev with_head : List Item → ℕ
with_head xs = length xs + 7

pub words_within : (p : HardProgram) → ((b : ℕ) → b < length p.blocks → Formed (items_of p b)) → words (widened p).blocks + 7 * length (widened p).blocks ≤ room p
words_within p g =
    up (words (widened p).blocks + 7 * length (widened p).blocks) (sum_by (λ k. with_head k.items) (widened p).blocks) (sum_by with_head (put_blocks (far_relays p) (far_place p) 0 p.blocks)) (sum_by most p.blocks) (room p)
    (length_sum (widened p).blocks 7) (whole with_head p) (sums_le with_head most (far_relays p) (far_place p) 0 p.blocks (λ m k e. subst (λ (z : ℕ). comes_to with_head (far_place p) z (far_relays p z) k ≤ most k) (zero_left m) (each m k e))) (within_room p g)
  where
    up : (l a b c d : ℕ) → a ≡ l → a ≡ b → b ≤ c → c ≤ d → l ≤ d
    up l a b c d e f h g = omega arith

    zero_left : (m : ℕ) → m ≡ 0 + m
    zero_left m = omega arith

    within : (s n l a b : ℕ) → s ≡ 9 * n → n ≤ b → a ≡ l → a + 7 + s ≤ l + 7 + 9 * b
    within s n l a b e h f = omega arith

    each : (m : ℕ) (k : HardBlock) → slice_get p.blocks m ≡ Some k → comes_to with_head (far_place p) m (far_relays p m) k ≤ most k
    each m k e = within (sum_by with_head (map (relay (far_place p)) (goals m (far_relays p m)))) (length (goals m (far_relays p m))) (length k.items) (length (map (put_item (far_place p) m (far_relays p m)) k.items)) (branches k.items)
        (relays_sum with_head 9 (far_place p) (goals m (far_relays p m)) (λ c. refl)) (subst (λ (z : List Item). length (goals m (far_relays p m)) ≤ branches z) (sym (here_of p m k e)) (far_goals p m)) (length-map k.items (put_item (far_place p) m (far_relays p m)))
