-- In the far form each branch reaches its block.
use Rattle.std.proofs.Common.{◌≡◌, ◌≤◌, ◌<◌, ℕ, zero, suc, ◌+◌, ◌-◌, ◌*◌, ◌/◌, ◌^◌, arith, ap, refl, sym, ◌∙◌, subst, List, [], ◌∷◌, ◌++◌, length, get_or, Bool, true, false, cond, inl, inr, eqb-true}
use Rattle.std.specs.Prelude.{Option, Some, None, ◌==◌, nat_le, nat_lt, slice_get, flat_map, Contains}
use Rattle.std.proofs.lemmas.List.{length-append, length-map}
use Rattle.mips_isa.specs.declared.instr.Instr.{Instr}
use Rattle.mips_isa.specs.declared.instr.Instr.TheVariants.{Beq, Bne}
use Rattle.hard_items.specs.declared.code.Class.TheVariants.{Act}
use Rattle.hard_items.specs.declared.code.Fix.{Fix}
use Rattle.hard_items.specs.declared.code.Fix.TheVariants.{Plain, Block, Function, ReturnHigh, ReturnLow}
use Rattle.hard_items.specs.declared.code.Item.{Item}
use Rattle.hard_items.specs.declared.code.HardBlock.{HardBlock}
use Rattle.hard_items.specs.declared.code.HardProgram.{HardProgram}
use Rattle.hard_items.specs.declared.code.Mark.{Mark}
use Rattle.hard_items.specs.declared.code.Signed.{Signed}
use Rattle.hard_items.specs.Heads.{headed}
use Rattle.hard_items.specs.Streams.{plain, nop}
use Rattle.hard_items.specs.Run.{items_of, block_items}
use Rattle.hard_items.specs.WellFormed.{WellFormed}
use Rattle.hard_items.specs.Counts.{is_conditional}
use Rattle.hard_items.specs.Forms.{Each, Form, Alone, Product, Store, Test, Output, Takes, Idle, Close, Jump, Branch, Call, Return, Exit, form_items, close_items, check_if, service_number, going, FormFits, HalfFits, Formed}
use Rattle.layout_law.specs.Layout.{address, Reaches}
use Rattle.layout_law.specs.Level.{FieldReaches, AllReach}
use Rattle.layout_law.proofs.Texts.{address_next}
use Rattle.layout_law.proofs.Fields.{not_below}
use Rattle.layout_law.proofs.Lines.{head_of, heads_length, items_headed}
use Rattle.layout_law.proofs.Laying.{each_append}
use Rattle.block_relays.specs.Relays.{Relays, Nothing, Turned, goals, goal_place, put_item}
use Rattle.block_relays.proofs.Keeps.{blocks_put}
use Rattle.block_relays.proofs.Relays.{items_placed, place_next, le_up}
use Rattle.far_branches.specs.Widen.{branch_goal, first_of, first_goal, function_start, is_large, far_of, far_as, far_relays, far_place, words_of, widened}
use Rattle.layout_moves_law.proofs.Closes.{closing, holds_closing, Branches}
use Rattle.layout_moves_law.proofs.Places.{Put, Located, at_place, at_relay, located, Relayed, relayed_at, Closed, closed, jumps_only, jumps_close, below}
use Rattle.layout_moves_law.proofs.Ways.{Forks, forks}
use Rattle.layout_moves_law.proofs.WellFormed.{in_blocks, put_branch}
use Rattle.layout_moves_law.proofs.Far.{far_put}
use Rattle.layout_moves_law.proofs.Spans.{one_start, between, below_words, small_words, counts_on}

none_some : {A : Type 0} (x : A) → None ≡ Some x → ⊥
none_some x e = cc

no_true : true ≡ false → ⊥
no_true e = cc

-- ---- the branch of a block is its last item but one

-- The item names no block.
pub record Stays (i : Item) : Type 0 where
  pub names_none : (t : ℕ) → i.fix ≡ Block t → ⊥

block_plain : (t : ℕ) → Plain ≡ Block t → ⊥
block_plain t e = cc

plain_stays : (i : Item) → i.fix ≡ Plain → Stays i
plain_stays i e = record { names_none = λ t f. block_plain t (sym e ∙ f) }

half_stays : (i : Item) (f : Fix) → HalfFits i f → (t : ℕ) → f ≡ Block t → ⊥
half_stays i Plain h t e = block_plain t e
half_stays i (Block u) h t e = h
half_stays i (Function g) h t e = h
half_stays i ReturnHigh h t e = no e
  where
    no : ReturnHigh ≡ Block t → ⊥
    no e = cc
half_stays i ReturnLow h t e = no e
  where
    no : ReturnLow ≡ Block t → ⊥
    no e = cc

pure : {i : Item} → i.fix ≡ Plain → Stays i
pure {i} e = plain_stays i e

check_stay : (checked : Bool) (m : ℕ) → Each Stays (check_if checked m)
check_stay true m = (pure refl, (pure refl, (pure refl, tt)))
check_stay false m = tt

number_stay : (checked : Bool) (n : ℕ) → Each Stays (service_number checked n)
number_stay true n = (pure refl, (pure refl, (pure refl, tt)))
number_stay false n = (pure refl, tt)

form_stay : (f : Form) → FormFits f → Each Stays (form_items f)
form_stay (Alone i) h = (record { names_none = half_stays i i.fix h.half_fits }, tt)
form_stay (Product i j) h = (plain_stays i h.plain_product, (plain_stays j h.plain_move, tt))
form_stay (Store checked v b o) h = each_append Stays (check_if checked v) _ (check_stay checked v) (each_append Stays (check_if checked b) _ (check_stay checked b) (pure refl, (pure refl, tt)))
form_stay (Test checked r code) h = each_append Stays (check_if checked r) _ (check_stay checked r) (pure refl, (pure refl, (pure refl, tt)))
form_stay (Output checked) h = each_append Stays (service_number checked 1) _ (number_stay checked 1) (pure refl, tt)
form_stay (Takes r) h = (pure refl, (pure refl, (pure refl, (pure refl, tt))))
form_stay Idle h = (pure refl, tt)

forms_stay : (fs : List Form) → Each FormFits fs → Each Stays (flat_map form_items fs)
forms_stay [] h = tt
forms_stay (f ∷ fs) h = each_append Stays (form_items f) (flat_map form_items fs) (form_stay f h.0) (forms_stay fs h.1)

head_stay : (o : Option Mark) → Each Stays (head_of o)
head_stay None = tt
head_stay (Some m) = (pure refl, (pure refl, (pure refl, (pure refl, (pure refl, (pure refl, (pure refl, tt)))))))

-- ---- reaching

field_stays : (p : HardProgram) (at : ℕ) (i : Item) → Stays i → FieldReaches p at i.fix i.instr
field_stays p at i s = by i.fix i.instr s.names_none
  where
    by : (f : Fix) (x : Instr) → ((t : ℕ) → f ≡ Block t → ⊥) → FieldReaches p at f x
    by (Block t) x n = absurd (n t refl)
    by Plain x n = tt
    by (Function g) x n = tt
    by ReturnHigh x n = tt
    by ReturnLow x n = tt

all_stay : (p : HardProgram) (at : ℕ) (xs : List Item) → Each Stays xs → AllReach p at xs
all_stay p at [] h = tt
all_stay p at (i ∷ xs) h = (field_stays p at i h.0, all_stay p (at + 4) xs h.1)

all_append : (p : HardProgram) (at : ℕ) (xs ys : List Item) → Each Stays xs → AllReach p (at + 4 * length xs) ys → AllReach p at (xs ++ ys)
all_append p at [] ys h k = subst (λ (z : ℕ). AllReach p z ys) (none at) k
  where
    none : (a : ℕ) → a + 4 * 0 ≡ a
    none a = omega arith
all_append p at (i ∷ xs) ys h k = (field_stays p at i h.0, all_append p (at + 4) xs ys h.1 (subst (λ (z : ℕ). AllReach p z ys) (move at (length xs)) k))
  where
    move : (a n : ℕ) → a + 4 * suc n ≡ a + 4 + 4 * n
    move a n = omega arith

-- The last two items of a block that closes by a branch.
two_reach : (p : HardProgram) (at t : ℕ) (x : Instr) → is_conditional x ≡ true → Reaches (at + 4) (address p t) → AllReach p at (going x (Block t) ∷ plain nop Act ∷ [])
two_reach p at t (Beq rs rt imm) h r = (r, (tt, tt))
two_reach p at t (Bne rs rt imm) h r = (r, (tt, tt))
two_reach p at t x h r = absurd (no_true (sym h))

-- A close reaches where a branch of it does.
close_reach : (p : HardProgram) (at : ℕ) (c : Close) → ((t : ℕ) → Branches c t → Reaches (at + 4 * length (close_items c) - 4) (address p t)) → AllReach p at (close_items c)
close_reach p at (Jump to) f = (tt, (tt, tt))
close_reach p at (Branch checked r true to) f =
    all_append p at (check_if checked r) (going (Bne r 0 0) (Block to) ∷ plain nop Act ∷ []) (check_stay checked r)
    (two_reach p (at + 4 * length (check_if checked r)) to (Bne r 0 0) refl (subst (λ (z : ℕ). Reaches z (address p to)) (place at (length (check_if checked r)) (length (close_items (Branch checked r true to))) (length-append (check_if checked r) (going (Bne r 0 0) (Block to) ∷ plain nop Act ∷ []))) (f to (record { checked = checked; register = r; when = true; is = refl }))))
  where
    place : (a n l : ℕ) → l ≡ n + 2 → a + 4 * l - 4 ≡ a + 4 * n + 4
    place a n l e = omega arith
close_reach p at (Branch checked r false to) f =
    all_append p at (check_if checked r) (going (Beq r 0 0) (Block to) ∷ plain nop Act ∷ []) (check_stay checked r)
    (two_reach p (at + 4 * length (check_if checked r)) to (Beq r 0 0) refl (subst (λ (z : ℕ). Reaches z (address p to)) (place at (length (check_if checked r)) (length (close_items (Branch checked r false to))) (length-append (check_if checked r) (going (Beq r 0 0) (Block to) ∷ plain nop Act ∷ []))) (f to (record { checked = checked; register = r; when = false; is = refl }))))
  where
    place : (a n l : ℕ) → l ≡ n + 2 → a + 4 * l - 4 ≡ a + 4 * n + 4
    place a n l e = omega arith
close_reach p at (Call g) f = (tt, (tt, tt))
close_reach p at (Return checked) f = all_append p at (check_if checked 31) _ (check_stay checked 31) (tt, (tt, tt))
close_reach p at (Exit checked) f = all_append p at (service_number checked 17) _ (number_stay checked 17) (tt, (tt, tt))

-- A block with its head reaches where its branch does; the branch's delay slot is the word before the end.
block_reach : (p : HardProgram) (at : ℕ) (o : Option Mark) (xs : List Item) (g : Formed xs) → ((t : ℕ) → Branches g.close t → Reaches (at + 4 * length (head_of o ++ xs) - 4) (address p t)) → AllReach p at (head_of o ++ xs)
block_reach p at o xs g f =
    all_append p at (head_of o) xs (head_stay o) (subst (λ (z : List Item). AllReach p (at + 4 * length (head_of o)) z) (sym g.is)
    (all_append p (at + 4 * length (head_of o)) (flat_map form_items g.forms) (close_items g.close) (forms_stay g.forms g.fit)
    (close_reach p (at + 4 * length (head_of o) + 4 * length (flat_map form_items g.forms)) g.close (λ t h.
    subst (λ (z : ℕ). Reaches z (address p t)) (place at (length (head_of o)) (length (flat_map form_items g.forms)) (length (close_items g.close)) (length xs) (length (head_of o ++ xs)) (length-append (head_of o) xs) (ap length g.is ∙ length-append (flat_map form_items g.forms) (close_items g.close))) (f t h)))))
  where
    place : (a h n c l w : ℕ) → w ≡ h + l → l ≡ n + c → a + 4 * w - 4 ≡ a + 4 * h + 4 * n + 4 * c - 4
    place a h n c l w e k = omega arith

-- The distance to the block behind the branch, and to its goal, is small.
reaches_by : (x t f : ℕ) → f ≡ x - 4 → 4 ≤ x → t ≤ x + 120000 → x ≤ t + 120000 → Reaches f t
reaches_by x t f e z h k = record { ahead = λ l. ahead x t f e z h; back = λ l. back x t f e k }
  where
    ahead : (x t f : ℕ) → f ≡ x - 4 → 4 ≤ x → t ≤ x + 120000 → (t - f) / 4 < 2 ^ 15
    ahead x t f e z h = omega arith

    back : (x t f : ℕ) → f ≡ x - 4 → x ≤ t + 120000 → (f - t) / 4 ≤ 2 ^ 15
    back x t f e k = omega arith

-- ---- a block that isn't far though it branches

none_first : (b : ℕ) (xs : List Item) (i : Item) → first_goal b xs ≡ None → Contains xs i → branch_goal b i ≡ None
none_first b [] i e c = absurd (no c.0 c.1)
  where
    no : (n : ℕ) → n < 0 → ⊥
    no n h = omega arith
none_first b (x ∷ xs) i e (k, l, s) = by (λ f c. none_first b xs i f c) (branch_goal b x) refl k l s
  where
    less : (a b : ℕ) → suc a < suc b → a < b
    less a b h = omega arith

    by : (first_goal b xs ≡ None → Contains xs i → branch_goal b i ≡ None) → (o : Option ℕ) → branch_goal b x ≡ o → (k : ℕ) → k < length (x ∷ xs) → get_or (x ∷ xs) k i ≡ i → branch_goal b i ≡ None
    by later (Some t) f k l s = absurd (none_some t (sym e ∙ ap (λ (z : Option ℕ). first_of z (first_goal b xs)) f))
    by later None f zero l s = subst (λ (z : Item). branch_goal b z ≡ None) s f
    by later None f (suc k) l s = later (sym (ap (λ (z : Option ℕ). first_of z (first_goal b xs)) f) ∙ e) (k, less k (length xs) l, s)

next_goal : (b u : ℕ) (c : Close) → Branches c u → branch_goal b (closing c) ≡ None → u ≡ b + 1
next_goal b u c h e = by h.when (subst (λ (z : Close). branch_goal b (closing z) ≡ None) h.is e)
  where
    is : (z : Bool) → (u == b + 1) ≡ z → cond z None (Some u) ≡ None → u ≡ b + 1
    is true f e = eqb-true u (b + 1) f
    is false f e = absurd (none_some u (sym e))

    by : (w : Bool) → branch_goal b (closing (Branch h.checked h.register w u)) ≡ None → u ≡ b + 1
    by true e = is (u == b + 1) refl e
    by false e = is (u == b + 1) refl e

-- An address is near another.
pub record Near (x t : ℕ) : Type 0 where
  pub ahead : t ≤ x + 120000
  pub back : x ≤ t + 120000

-- ---- the addresses of blocks

module _ (p : HardProgram) (s : Signed) (w : WellFormed p) (g : (b : ℕ) → b < length p.blocks → Formed (items_of p b)) (is : s.program ≡ widened p) where
  abbrev a : Put (far_relays p) p (widened p)
  a = far_put p w g

  abbrev at : ℕ → ℕ
  at n = address (headed s) n

  same_blocks : length s.program.blocks ≡ length (widened p).blocks
  same_blocks = ap (λ (z : HardProgram). length z.blocks) is

  there : (n : ℕ) → n < length (widened p).blocks → n < length (headed s).blocks
  there n l = subst (λ (z : ℕ). n < z) (sym (heads_length s.program.blocks s.marks ∙ same_blocks)) l

  items_are : (n : ℕ) → n < length (widened p).blocks → items_of (headed s) n ≡ head_of (slice_get s.marks n) ++ items_of (widened p) n
  items_are n l = items_headed s n (subst (λ (z : ℕ). n < z) (sym same_blocks) l) ∙ ap (λ (z : HardProgram). head_of (slice_get s.marks n) ++ items_of z n) is

  seven : (o : Option Mark) → length (head_of o) ≤ 7
  seven None = omega arith
  seven (Some m) = omega arith

  -- the next block stands behind this one, not farther than its words and a head
  next_at : (n : ℕ) → n < length (widened p).blocks → at (n + 1) ≡ at n + 4 * length (items_of (headed s) n)
  next_at n l = address_next (headed s) n (there n l)

  next_up : (n : ℕ) → n < length (widened p).blocks → at n ≤ at (n + 1)
  next_up n l = more (at n) (at (n + 1)) (length (items_of (headed s) n)) (next_at n l)
    where
      more : (a b n : ℕ) → b ≡ a + 4 * n → a ≤ b
      more a b n e = omega arith

  next_near : (n m : ℕ) → n < length (widened p).blocks → length (items_of (widened p) n) ≡ m → at (n + 1) ≤ at n + 4 * (m + 7)
  next_near n m l e = near (at n) (at (n + 1)) (length (items_of (headed s) n)) (length (head_of (slice_get s.marks n))) m (next_at n l) (ap length (items_are n l) ∙ (length-append (head_of (slice_get s.marks n)) (items_of (widened p) n) ∙ ap (λ (z : ℕ). length (head_of (slice_get s.marks n)) + z) e)) (seven (slice_get s.marks n))
    where
      near : (a b n h m : ℕ) → b ≡ a + 4 * n → n ≡ h + m → h ≤ 7 → b ≤ a + 4 * (m + 7)
      near a b n h m e f k = omega arith

  up : (n m : ℕ) → n + m ≤ length (widened p).blocks → at n ≤ at (n + m)
  up n zero l = same (at n) (at (n + 0)) (ap at (none n))
    where
      none : (n : ℕ) → n ≡ n + 0
      none n = omega arith

      same : (a b : ℕ) → a ≡ b → a ≤ b
      same a b e = omega arith
  up n (suc m) l = trans (at n) (at (n + m)) (at (n + suc m)) (up n m (less n m (length (widened p).blocks) l)) (subst (λ (z : ℕ). at (n + m) ≤ at z) (move n m) (next_up (n + m) (lower n m (length (widened p).blocks) l)))
    where
      trans : (a b c : ℕ) → a ≤ b → b ≤ c → a ≤ c
      trans a b c h k = omega arith

      less : (n m l : ℕ) → n + suc m ≤ l → n + m ≤ l
      less n m l h = omega arith

      lower : (n m l : ℕ) → n + suc m ≤ l → n + m < l
      lower n m l h = omega arith

      move : (n m : ℕ) → n + m + 1 ≡ n + suc m
      move n m = omega arith

  up_to : (n m : ℕ) → n ≤ m → m ≤ length (widened p).blocks → at n ≤ at m
  up_to n m h l = subst (λ (z : ℕ). at n ≤ at z) (whole n m h) (up n (m - n) (subst (λ (z : ℕ). z ≤ length (widened p).blocks) (sym (whole n m h)) l))
    where
      whole : (n m : ℕ) → n ≤ m → n + (m - n) ≡ m
      whole n m h = omega arith

  placed_up : (b c : ℕ) → b ≤ c → c ≤ length p.blocks → at (far_place p b) ≤ at (far_place p c)
  placed_up b c h l = up_to (far_place p b) (far_place p c) (le_up (far_relays p) b c h) (subst (λ (z : ℕ). far_place p c ≤ z) (sym (blocks_put (far_relays p) p (widened p) a.has)) (le_up (far_relays p) c (length p.blocks) l))

  -- ---- a block that isn't large

  plain_step : (c : ℕ) → c < length p.blocks → far_of p c ≡ None → at (far_place p (c + 1)) ≤ at (far_place p c) + 4 * (length (items_of p c) + 7)
  plain_step c l e = subst (λ (z : ℕ). at z ≤ at (far_place p c) + 4 * (length (items_of p c) + 7)) (place_next (far_relays p) c Nothing (ap far_as e))
      (next_near (far_place p c) (length (items_of p c)) (below (far_relays p) p (widened p) a c l) (ap length (items_placed (far_relays p) p (widened p) a.has c l) ∙ length-map (items_of p c) (put_item (far_place p) c (far_relays p c))))

  small_far : (b c : ℕ) → is_large p b ≡ false → function_start p.entries c ≡ function_start p.entries b → far_of p c ≡ None
  small_far b c h e = ap (λ (z : Bool). cond z (first_goal c (items_of p c)) None) (ap (λ (z : ℕ). nat_lt 30000 (words_of p.entries z 0 p.blocks)) e ∙ h)

  -- Over blocks of one function that isn't large the addresses grow no more than its words.
  span : (b x m : ℕ) → is_large p b ≡ false → ((k : ℕ) → k < m → function_start p.entries (x + k) ≡ function_start p.entries b) → x + m ≤ length p.blocks →
      at (far_place p (x + m)) + 4 * below_words p (function_start p.entries b) x ≤ at (far_place p x) + 4 * below_words p (function_start p.entries b) (x + m)
  span b x zero h f l = same (at (far_place p (x + 0))) (at (far_place p x)) (below_words p (function_start p.entries b) x) (below_words p (function_start p.entries b) (x + 0)) (ap (λ (z : ℕ). at (far_place p z)) (none x)) (ap (below_words p (function_start p.entries b)) (sym (none x)))
    where
      none : (x : ℕ) → x + 0 ≡ x
      none x = omega arith

      same : (a b u v : ℕ) → a ≡ b → u ≡ v → a + 4 * u ≤ b + 4 * v
      same a b u v e f = omega arith
  span b x (suc m) h f l =
      let e : function_start p.entries (x + m) ≡ function_start p.entries b = f m (self m) in
      more (at (far_place p (x + suc m))) (at (far_place p (x + m + 1))) (at (far_place p (x + m))) (at (far_place p x)) (length (items_of p (x + m)))
      (below_words p (function_start p.entries b) x) (below_words p (function_start p.entries b) (x + m)) (below_words p (function_start p.entries b) (suc (x + m))) (below_words p (function_start p.entries b) (x + suc m))
      (ap (λ (z : ℕ). at (far_place p z)) (move x m)) (plain_step (x + m) (lower x m (length p.blocks) l) (small_far b (x + m) h e))
      (span b x m h (λ k j. f k (later k m j)) (less x m (length p.blocks) l)) (counts_on p (function_start p.entries b) (x + m) e) (ap (below_words p (function_start p.entries b)) (up_one x m))
    where
      self : (m : ℕ) → m < suc m
      self m = omega arith

      later : (k m : ℕ) → k < m → k < suc m
      later k m h = omega arith

      less : (x m n : ℕ) → x + suc m ≤ n → x + m ≤ n
      less x m n h = omega arith

      lower : (x m n : ℕ) → x + suc m ≤ n → x + m < n
      lower x m n h = omega arith

      move : (x m : ℕ) → x + suc m ≡ x + m + 1
      move x m = omega arith

      up_one : (x m : ℕ) → suc (x + m) ≡ x + suc m
      up_one x m = omega arith

      more : (a a' c d n u v v' z : ℕ) → a ≡ a' → a' ≤ c + 4 * (n + 7) → c + 4 * u ≤ d + 4 * v → v' ≡ v + (n + 7) → v' ≡ z → a + 4 * u ≤ d + 4 * z
      more a a' c d n u v v' z e f g h k = omega arith

  -- Two numbers of blocks of one function that isn't large are not far apart.
  small_apart : (b x y : ℕ) → is_large p b ≡ false → x ≤ y → y ≤ length p.blocks → ((c : ℕ) → x ≤ c → c < y → function_start p.entries c ≡ function_start p.entries b) → at (far_place p y) ≤ at (far_place p x) + 120000
  small_apart b x y h k l f =
      most (at (far_place p y)) (at (far_place p (x + (y - x)))) (at (far_place p x)) (below_words p (function_start p.entries b) x) (below_words p (function_start p.entries b) (x + (y - x)))
      (ap (λ (z : ℕ). at (far_place p z)) (sym (whole x y k))) (span b x (y - x) h (λ n j. f (x + n) (more x n) (within x y n k j)) (subst (λ (z : ℕ). z ≤ length p.blocks) (sym (whole x y k)) l))
      (small_words p b (x + (y - x)) h (subst (λ (z : ℕ). z ≤ length p.blocks) (sym (whole x y k)) l))
    where
      whole : (x y : ℕ) → x ≤ y → x + (y - x) ≡ y
      whole x y h = omega arith

      more : (x n : ℕ) → x ≤ x + n
      more x n = omega arith

      within : (x y n : ℕ) → x ≤ y → n < y - x → x + n < y
      within x y n h k = omega arith

      most : (a a' c u v : ℕ) → a ≡ a' → a' + 4 * u ≤ c + 4 * v → v ≤ 30000 → a ≤ c + 120000
      most a a' c u v e h k = omega arith

  -- ---- the goal of a branch is near the block behind it

  near_self : (x : ℕ) → Near x x
  near_self x = record { ahead = omega arith; back = omega arith }

  -- In a function that isn't large: the goal is the place of a block of the function.
  small_near : (b u : ℕ) → b < length p.blocks → is_large p b ≡ false → Forks p b u → Near (at (far_place p (b + 1))) (at (far_place p u))
  small_near b u l h k = by (nat_le (b + 1) u) refl
    where
      le : (a b : ℕ) → nat_le a b ≡ true → a ≤ b
      le a b e = grind arith

      gt : (b u : ℕ) → nat_le (b + 1) u ≡ false → u ≤ b
      gt b u e = grind arith

      of_goal : function_start p.entries b ≡ function_start p.entries u
      of_goal = one_start p b u k.to_goal

      weak : (a b : ℕ) → a ≤ b → a ≤ b + 120000
      weak a b h = omega arith

      below_next_ : (b c : ℕ) → b + 1 ≤ c → b ≤ c
      below_next_ b c h = omega arith

      up_one : (b u : ℕ) → u ≤ b → u ≤ b + 1
      up_one b u h = omega arith

      one_less : (b n : ℕ) → b < n → b + 1 ≤ n
      one_less b n h = omega arith

      less_le : (a b : ℕ) → a < b → a ≤ b
      less_le a b h = omega arith

      down_one : (b c : ℕ) → c < b + 1 → c ≤ b
      down_one b c h = omega arith

      by : (z : Bool) → nat_le (b + 1) u ≡ z → Near (at (far_place p (b + 1))) (at (far_place p u))
      by true e = record {
        ahead = small_apart b (b + 1) u h (le (b + 1) u e) (less_le u (length p.blocks) k.goal) (λ c x y. between p.entries b c u (below_next_ b c x) (less_le c u y) of_goal);
        back = weak (at (far_place p (b + 1))) (at (far_place p u)) (placed_up (b + 1) u (le (b + 1) u e) (less_le u (length p.blocks) k.goal));
      }
      by false e = record {
        ahead = weak (at (far_place p u)) (at (far_place p (b + 1))) (placed_up u (b + 1) (up_one b u (gt b u e)) (one_less b (length p.blocks) l));
        back = small_apart b u (b + 1) h (up_one b u (gt b u e)) (one_less b (length p.blocks) l) (λ c x y. between p.entries u c b x (down_one b c y) (sym of_goal) ∙ sym of_goal);
      }

  -- In any function: the goal that the branch has in the far form.
  goal_near : (b u : ℕ) (l : b < length p.blocks) → Branches ((g b l).close) u → Near (at (far_place p b + 1)) (at (goal_place (far_place p) b (far_relays p b) u))
  goal_near b u l h = by (far_of p b) refl
    where
      k : Forks p b u
      k = forks p b u w (g b l) h

      large : (z : Bool) → is_large p b ≡ z → cond z (first_goal b (items_of p b)) None ≡ None → Near (at (far_place p (b + 1))) (at (far_place p u))
      large false f e = small_near b u l f k
      large true f e = subst (λ (z : ℕ). Near (at (far_place p (b + 1))) (at (far_place p z))) (sym (next_goal b u ((g b l).close) h (none_first b (items_of p b) (closing ((g b l).close)) e (holds_closing p b (g b l))))) (near_self (at (far_place p (b + 1))))

      relay_near : (t : ℕ) → far_of p b ≡ Some t → Near (at (far_place p b + 1)) (at (far_place p (b + 1)))
      relay_near t e = record {
        ahead = far (at (far_place p b + 1)) (at (far_place p b + 1 + 1)) (at (far_place p (b + 1))) (next_near (far_place p b + 1) 2 (lower (far_place p b) (far_place p (b + 1)) (length (widened p).blocks) behind (below (far_relays p) p (widened p) a (b + 1) k.next)) two_items) (ap at (two (far_place p b) (far_place p (b + 1)) behind));
        back = weak (at (far_place p b + 1)) (at (far_place p (b + 1))) (up_to (far_place p b + 1) (far_place p (b + 1)) (within (far_place p b) (far_place p (b + 1)) behind) (less (far_place p (b + 1)) (length (widened p).blocks) (below (far_relays p) p (widened p) a (b + 1) k.next)));
      }
        where
          behind : far_place p b + suc 1 ≡ far_place p (b + 1)
          behind = place_next (far_relays p) b (Turned t) (ap far_as e)

          one_goal : 0 < length (goals b (far_relays p b))
          one_goal = subst (λ (z : Option ℕ). 0 < length (goals b (far_as z))) (sym e) (omega arith)

          relayed : Relayed (far_relays p) (widened p) b 0
          relayed = relayed_at (far_relays p) p (widened p) a.has b 0 l one_goal

          two_items : length (items_of (widened p) (far_place p b + 1)) ≡ 2
          two_items = ap length relayed.items

          far : (x y z : ℕ) → y ≤ x + 4 * (2 + 7) → y ≡ z → z ≤ x + 120000
          far x y z h e = omega arith

          lower : (a n m : ℕ) → a + suc 1 ≡ n → n < m → a + 1 < m
          lower a n m e h = omega arith

          two : (a n : ℕ) → a + suc 1 ≡ n → a + 1 + 1 ≡ n
          two a n e = omega arith

          within : (a n : ℕ) → a + suc 1 ≡ n → a + 1 ≤ n
          within a n e = omega arith

          weak : (x y : ℕ) → x ≤ y → x ≤ y + 120000
          weak x y h = omega arith

          less : (x y : ℕ) → x < y → x ≤ y
          less x y h = omega arith

      by : (o : Option ℕ) → far_of p b ≡ o → Near (at (far_place p b + 1)) (at (goal_place (far_place p) b (far_relays p b) u))
      by None e = subst (λ (z : Relays). Near (at (far_place p b + 1)) (at (goal_place (far_place p) b z u))) (sym (ap far_as e))
          (subst (λ (z : ℕ). Near (at z) (at (far_place p u))) (sym (place_next (far_relays p) b Nothing (ap far_as e))) (large (is_large p b) refl e))
      by (Some t) e = subst (λ (z : Relays). Near (at (far_place p b + 1)) (at (goal_place (far_place p) b z u))) (sym (ap far_as e)) (relay_near t e)

  -- ---- every block

  low : (n : ℕ) → 4 ≤ at n
  low n = more (at n) (not_below (headed s) n)
    where
      more : (a : ℕ) → 0x00400000 ≤ a → 4 ≤ a
      more a h = omega arith

  reach_at : (n : ℕ) → n < length (widened p).blocks → (f : Formed (items_of (widened p) n)) → ((t : ℕ) → Branches f.close t → Near (at (n + 1)) (at t)) → AllReach (headed s) (at n) (items_of (headed s) n)
  reach_at n l f h = subst (λ (z : List Item). AllReach (headed s) (at n) z) (sym (items_are n l)) (block_reach (headed s) (at n) (slice_get s.marks n) (items_of (widened p) n) f (λ t k.
      reaches_by (at (n + 1)) (at t) (at n + 4 * length (head_of (slice_get s.marks n) ++ items_of (widened p) n) - 4)
      (ap (λ (z : ℕ). z - 4) (sym (next_at n l ∙ ap (λ (z : List Item). at n + 4 * length z) (items_are n l)))) (low (n + 1)) (h t k).ahead (h t k).back))

  jump_no_branch : (t u : ℕ) → Branches (Jump t) u → ⊥
  jump_no_branch t u h = no h.checked h.register h.when h.is
    where
      no : (x : Bool) (y : ℕ) (z : Bool) → Jump t ≡ Branch x y z u → ⊥
      no x y z e = cc

  pub reaches : (n : ℕ) → AllReach (headed s) (address (headed s) n) (items_of (headed s) n)
  reaches n = elim (in_blocks (headed s).blocks n) as (λ z. AllReach (headed s) (at n) (items_of (headed s) n)) [
    | inl l ↦ let k : n < length (widened p).blocks = subst (λ (z : ℕ). n < z) (heads_length s.program.blocks s.marks ∙ same_blocks) l in by k (located (far_relays p) p (widened p) a.has n k)
    | inr e ↦ subst (λ (o : Option HardBlock). AllReach (headed s) (at n) (block_items o)) (sym e) tt
  ]
    where
      by : n < length (widened p).blocks → Located (far_relays p) p (widened p) n → AllReach (headed s) (at n) (items_of (headed s) n)
      by k (at_relay b r c l j e i) = reach_at n k (jumps_only (widened p) n (far_place p c) i) (λ t h. absurd (jump_no_branch (far_place p c) t (subst (λ (z : Close). Branches z t) (jumps_close (widened p) n (far_place p c) i) h)))
      by k (at_place b l e) =
          let d : Closed (far_place p) (widened p) (far_place p b) b (far_relays p b) ((g b l).close) = closed (far_relays p) p (widened p) a b l in
          subst (λ (z : ℕ). AllReach (headed s) (at z) (items_of (headed s) z)) (sym e) (reach_at (far_place p b) (below (far_relays p) p (widened p) a b l) d.formed (λ t h.
          let v : (u : ℕ) × (Branches ((g b l).close) u × (t ≡ goal_place (far_place p) b (far_relays p b) u)) = put_branch (far_place p) b t (far_relays p b) ((g b l).close) (subst (λ (z : Close). Branches z t) d.close h) in
          subst (λ (z : ℕ). Near (at (far_place p b + 1)) (at z)) (sym v.1.1) (goal_near b v.0 l v.1.0)))
