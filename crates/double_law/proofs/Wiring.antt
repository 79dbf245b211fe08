-- A valid program, doubled, has all ways that the simulation goes.
use Rattle.std.proofs.Common.{◌≡◌, ◌≢◌, ◌≤◌, ◌<◌, ℕ, zero, suc, ◌+◌, ◌-◌, ◌*◌, ◌/◌, ◌%◌, ◌^◌, arith, ap, refl, sym, ◌∙◌, subst, List, [], ◌∷◌, ◌++◌, length, get_or, take, map, Bool, true, false, cond, inl, inr, flat_map, sum, le_refl, le_trans}
use Rattle.std.specs.Prelude.{Option, Some, None, ◌⊎◌, slice_get, Contains, All, Any}
use Rattle.std.proofs.lemmas.Option.{slice_get_within, get_or_from_slice_get, slice_get-get_or}
use Rattle.std.proofs.lemmas.List.{get_or_append_left}
use Rattle.mips_isa.specs.declared.instr.Instr.TheVariants as mips
use Rattle.mid_blocks.specs.declared.code.MidEnd.{MidEnd}
use Rattle.mid_blocks.specs.declared.code.MidEnd.TheVariants.{Jump, Branch, Call, Return}
use Rattle.mid_blocks.specs.declared.code.MidBlock.{MidBlock}
use Rattle.mid_blocks.specs.declared.code.MidFunction.{MidFunction}
use Rattle.mid_blocks.specs.declared.code.Mid.{Mid}
use Rattle.mid_blocks.specs.declared.places.Places.{Places}
use Rattle.mid_blocks.specs.Liveness.{PlacesFit}
use Rattle.mid_blocks.specs.Valid.{ValidFunction, Valid, IsTarget, IsBehind, target, falls_on, is_call}
use Rattle.hard_items.specs.declared.code.Class.TheVariants as class
use Rattle.hard_items.specs.declared.code.Fix.TheVariants as fix
use Rattle.hard_items.specs.declared.code.Item.{Item}
use Rattle.hard_items.specs.declared.code.HardBlock.{HardBlock}
use Rattle.hard_items.specs.declared.code.HardProgram.{HardProgram}
use Rattle.hard_items.specs.Forms.{going}
use Rattle.hard_items.specs.Streams.{nop, plain}
use Rattle.hard_items.specs.Run.{items_of, block_items}
use Rattle.hard_items.specs.Ways.{Holds, CallsFunction, IsOfFunction, MayFollow, returned}
use Rattle.double_law.specs.declared.roles.Role.TheVariants.{Stack, Link}
use Rattle.double_law.specs.Roles.{reg_in, both, load}
use Rattle.double_law.specs.Emitted.{step_items, end_items, argument_items, call_items, returned_items}
use Rattle.frame_plan.specs.Frames.{cell_address, global_cell, global_length, cells}
use Rattle.double_law.specs.Program.{first_block, start_items, body_items, behind_block, behind_end, IsDoubled}
use Rattle.double_law.specs.Law.{AllFit}
use Rattle.hard_words.proofs.Sums.{sum_cons}
use Rattle.double_law.proofs.Relation.{EndAt}
use Rattle.double_law.proofs.Ends.{BlockThere, Wired, end_some}
use Rattle.double_law.proofs.Stages.{back_nil}

some_same : {A : Type 0} (x y : A) → ◌≡◌ {A = Option A} (Some x) (Some y) → x ≡ y
some_same {A} x y e = ap (λ (o : Option A). elim o as (λ z. A) [ Some v ↦ v | None ↦ x ]) e

none_is : {A : Type 0} (x : A) → ◌≡◌ {A = Option A} None (Some x) → ⊥
none_is x e = cc

pub there : {A : Type 0} (xs : List A) (n : ℕ) → n < length xs → (x : A) × (slice_get xs n ≡ Some x)
there [] n h = absurd (Rattle.std.proofs.Common.not-suc-le-zero h)
there (x ∷ xs) zero h = (x, refl)
there (x ∷ xs) (suc n) h = there xs n (Rattle.std.proofs.Common.le_of_suc-le-suc h)

any_of : {A : Type 0} (P : A → Type 0) (xs : List A) (n : ℕ) (x : A) → slice_get xs n ≡ Some x → P x → Any P xs
any_of P xs n x e h = (n, x, slice_get_within xs n x e, get_or_from_slice_get xs n x x e, h)

pub all_at : {A : Type 0} (P : A → Type 0) (xs : List A) (n : ℕ) (x : A) → All P xs → slice_get xs n ≡ Some x → P x
all_at P xs n x h e = subst P (get_or_from_slice_get xs n x x e) (h n x (slice_get_within xs n x e))

-- ---- members of lists

in_front : (xs ys : List Item) (v : Item) → Contains xs v → Contains (xs ++ ys) v
in_front xs ys v c = (c.0, longer (length xs) (length ys) (length (xs ++ ys)) c.0 (Rattle.std.proofs.Common.length-append xs ys) c.1, get_or_append_left xs ys v c.0 c.1 ∙ c.2)
  where
    longer : (m n t k : ℕ) → t ≡ m + n → k < m → k < t
    longer m n t k e h = omega arith

in_behind : (xs ys : List Item) (v : Item) → Contains ys v → Contains (xs ++ ys) v
in_behind xs ys v c = (length xs + c.0, longer (length xs) (length ys) (length (xs ++ ys)) c.0 (Rattle.std.proofs.Common.length-append xs ys) c.1, Rattle.std.proofs.Common.get_or-append-add xs ys c.0 v ∙ c.2)
  where
    longer : (m n t k : ℕ) → t ≡ m + n → k < n → m + k < t
    longer m n t k e h = omega arith

first_in : (v : Item) (xs : List Item) → Contains (v ∷ xs) v
first_in v xs = (0, Rattle.std.proofs.Common.zero-lt-suc (length xs), refl)

third_in : (u w v : Item) (xs : List Item) → Contains (u ∷ w ∷ v ∷ xs) v
third_in u w v xs = (2, Rattle.std.proofs.Common.suc-le-suc (Rattle.std.proofs.Common.suc-le-suc (Rattle.std.proofs.Common.zero-lt-suc (length xs))), refl)

abbrev calling : ℕ → Item
calling f = going (mips.Jal 0) (fix.Function f)

leaving : Item
leaving = plain (mips.Jr 31) class.Act

-- ---- blocks

module _ (mid : Mid) (places : List Places) (p : HardProgram) (valid : Valid mid) (is : IsDoubled mid places p) (fit : AllFit mid places) where
  good : (n : ℕ) (f : MidFunction) → slice_get mid.functions n ≡ Some f → ValidFunction f
  good n f e = all_at ValidFunction mid.functions n f valid.functions_valid e

  targets : (f : MidFunction) (b n to : ℕ) (e : MidEnd) → EndAt f b n e → target e ≡ Some to → IsTarget f to
  targets f b n to e h t = any_of (λ b. target b.end ≡ Some to) f.blocks b h.block h.is_block (ap (λ (x : MidEnd). target x) h.is_end ∙ t)

  behind : (test : MidEnd → Bool) (f : MidFunction) (b n : ℕ) (e : MidEnd) → EndAt f b n e → test e ≡ true → IsBehind test f (b + 1)
  behind test f b n e h t = (b, e, (h.block, h.is_block, h.is_end), t, refl)

  plain_end : (at : Places) (e : MidEnd) → is_call e ≡ false → behind_end at e ≡ []
  plain_end at (Jump to) h = refl
  plain_end at (Branch v w to) h = refl
  plain_end at (Call g args result) h = absurd (Rattle.std.proofs.Common.true≢false h)
  plain_end at (Return from) h = refl

  bool_cases : (z : Bool) → (z ≡ true) ⊎ (z ≡ false)
  bool_cases true = inl refl
  bool_cases false = inr refl

  -- a block that is named begins with its first line
  named_plain : (f : MidFunction) (at : Places) (to : ℕ) → ValidFunction f → IsTarget f to → start_items f at to ≡ []
  named_plain f at zero vf t = absurd (vf.not_the_first t)
  named_plain f at (suc b) vf t = by_block (slice_get f.blocks b) refl
    where
      by_block : (o : Option MidBlock) → slice_get f.blocks b ≡ o → behind_block at o ≡ []
      by_block None e = refl
      by_block (Some x) e = elim (bool_cases (is_call x.end)) as (λ z. behind_end at x.end ≡ []) [
        | inl c ↦ absurd (vf.not_behind_call (suc b) (b, x.end, (x, e, refl), c, sym (Rattle.std.proofs.Common.add-one b)) t)
        | inr c ↦ plain_end at x.end c
      ]

  target_there : (f : MidFunction) (at : Places) (b n to : ℕ) (e : MidEnd) → ValidFunction f → EndAt f b n e → target e ≡ Some to → BlockThere f at to
  target_there f at b n to e vf h t =
      let x : (x : MidBlock) × (slice_get f.blocks to ≡ Some x) = there f.blocks to (vf.blocks_exist to (targets f b n to e h t)) in
      record { block = x.0; is_block = x.1; plain_start = named_plain f at to vf (targets f b n to e h t) }

  next_there : (f : MidFunction) (b n : ℕ) (e : MidEnd) → ValidFunction f → EndAt f b n e → falls_on e ≡ true → (x : MidBlock) × (slice_get f.blocks (b + 1) ≡ Some x)
  next_there f b n e vf h t = there f.blocks (b + 1) (vf.has_next (b + 1) (behind falls_on f b n e h t))

  fallen_plain : (f : MidFunction) (at : Places) (b n : ℕ) (e : MidEnd) → EndAt f b n e → behind_end at e ≡ [] → start_items f at (b + 1) ≡ []
  fallen_plain f at b n e h t = ap (λ (k : ℕ). start_items f at k) (Rattle.std.proofs.Common.add-one b) ∙ (ap (λ (x : Option MidBlock). behind_block at x) h.is_block ∙ (ap (λ (x : MidEnd). behind_end at x) h.is_end ∙ t))

  -- ---- functions

  pub function_there : (g : ℕ) (f : MidFunction) (b n k : ℕ) (args : List ℕ) (result : Option ℕ) → slice_get mid.functions k ≡ Some f → EndAt f b n (Call g args result) → (f' : MidFunction) × (slice_get mid.functions g ≡ Some f') × (length args ≡ f'.params)
  function_there g f b n k args result e h = valid.calls_fit g args
      (any_of (λ f. Any (λ b. (result : Option ℕ) × (b.end ≡ Call g args result)) f.blocks) mid.functions k f e (any_of (λ b. (result : Option ℕ) × (b.end ≡ Call g args result)) f.blocks b h.block h.is_block (result, h.is_end)))

  -- ---- numbers of blocks

  step_sum : (xs : List MidFunction) (n : ℕ) (f : MidFunction) → slice_get xs n ≡ Some f → sum (map (λ g. length g.blocks) (take (suc n) xs)) ≡ sum (map (λ g. length g.blocks) (take n xs)) + length f.blocks
  step_sum [] n f e = absurd (none_is f e)
  step_sum (x ∷ xs) zero f e = sum_cons (length x.blocks) [] ∙ (swap (length x.blocks) ∙ ap (λ (y : MidFunction). 0 + length y.blocks) (some_same x f e))
    where
      swap : (n : ℕ) → n + 0 ≡ 0 + n
      swap n = omega arith
  step_sum (x ∷ xs) (suc n) f e =
      sum_cons (length x.blocks) (map (λ g. length g.blocks) (take (suc n) xs)) ∙ (ap (λ (m : ℕ). length x.blocks + m) (step_sum xs n f e) ∙
      (sym (Rattle.std.proofs.Common.add_assoc (length x.blocks) (sum (map (λ g. length g.blocks) (take n xs))) (length f.blocks)) ∙ ap (λ (m : ℕ). m + length f.blocks) (sym (sum_cons (length x.blocks) (map (λ g. length g.blocks) (take n xs))))))

  up_sum : (xs : List MidFunction) (n : ℕ) → sum (map (λ g. length g.blocks) (take n xs)) ≤ sum (map (λ g. length g.blocks) (take (suc n) xs))
  up_sum xs n = by_get (slice_get xs n) refl
    where
      taken_all : (xs : List MidFunction) (n : ℕ) → slice_get xs n ≡ None → take (suc n) xs ≡ take n xs
      taken_all [] zero e = refl
      taken_all [] (suc n) e = refl
      taken_all (x ∷ xs) zero e = absurd (none_is x (sym e))
      taken_all (x ∷ xs) (suc n) e = ap (λ (l : List MidFunction). x ∷ l) (taken_all xs n e)

      by_get : (o : Option MidFunction) → slice_get xs n ≡ o → sum (map (λ g. length g.blocks) (take n xs)) ≤ sum (map (λ g. length g.blocks) (take (suc n) xs))
      by_get None e = Rattle.std.proofs.Common.le_of_eq (ap (λ (l : List MidFunction). sum (map (λ g. length g.blocks) l)) (sym (taken_all xs n e)))
      by_get (Some f) e = subst (λ (m : ℕ). sum (map (λ g. length g.blocks) (take n xs)) ≤ m) (sym (step_sum xs n f e)) (right (sum (map (λ g. length g.blocks) (take n xs))) (length f.blocks))
        where
          right : (m k : ℕ) → m ≤ m + k
          right m k = omega arith

  rising : (n k : ℕ) → first_block mid n ≤ first_block mid (n + k)
  rising n zero = Rattle.std.proofs.Common.le_of_eq (ap (λ (m : ℕ). first_block mid m) (sym (Rattle.std.proofs.Common.add-zero n)))
  rising n (suc k) = le_trans (rising n k) (subst (λ (m : ℕ). first_block mid (n + k) ≤ first_block mid m) (sym (Rattle.std.proofs.Common.add-suc n k)) (two_more (sum (map (λ g. length g.blocks) (take (n + k) mid.functions))) (sum (map (λ g. length g.blocks) (take (suc (n + k)) mid.functions))) (up_sum mid.functions (n + k))))
    where
      two_more : (a b : ℕ) → a ≤ b → 2 + a ≤ 2 + b
      two_more a b h = omega arith

  rising_to : (n m : ℕ) → n ≤ m → first_block mid n ≤ first_block mid m
  rising_to n m h = subst (λ (k : ℕ). first_block mid n ≤ first_block mid k) (back n m h) (rising n (m - n))
    where
      back : (n m : ℕ) → n ≤ m → n + (m - n) ≡ m
      back n m h = omega arith

  entry_at : (n : ℕ) → n < length mid.functions → slice_get p.entries n ≡ Some (first_block mid n)
  entry_at n h = slice_get-get_or p.entries n 0 (subst (λ (m : ℕ). n < m) (sym is.entries_long) h) ∙ ap (λ (k : ℕ). Some k) (is.entries n h)

  of_function : (n b : ℕ) (f : MidFunction) → slice_get mid.functions n ≡ Some f → b < length f.blocks → IsOfFunction p (first_block mid n + b) n
  of_function n b f e h =
      let within : n < length mid.functions = slice_get_within mid.functions n f e in
      record {
        entry = first_block mid n;
        is_entry = entry_at n within;
        not_above = right (first_block mid n) b;
        greatest = λ g other q l.
            let there' : g < length mid.functions = subst (λ (m : ℕ). g < m) is.entries_long (slice_get_within p.entries g other q) in
            let same : first_block mid g ≡ other = some_same (first_block mid g) other (sym (entry_at g there') ∙ q) in
            elim (Rattle.std.proofs.lemmas.Bool.cases_lt n g) as (λ z. other ≤ first_block mid n) [
              | inr k ↦ subst (λ (m : ℕ). m ≤ first_block mid n) same (rising_to g n k)
              | inl k ↦ absurd (too_far (first_block mid n) (first_block mid g) b (length f.blocks) other h same l (past n g f e k))
            ];
      }
    where
      right : (m k : ℕ) → m ≤ m + k
      right m k = omega arith

      too_far : (m g b k o : ℕ) → b < k → g ≡ o → o ≤ m + b → m + k ≤ g → ⊥
      too_far m g b k o h e l q = omega arith

      past : (n g : ℕ) (f : MidFunction) → slice_get mid.functions n ≡ Some f → n < g → first_block mid n + length f.blocks ≤ first_block mid g
      past n g f e k = subst (λ (m : ℕ). m ≤ first_block mid g) (next (sum (map (λ g. length g.blocks) (take n mid.functions))) (sum (map (λ g. length g.blocks) (take (suc n) mid.functions))) (length f.blocks) (step_sum mid.functions n f e)) (rising_to (suc n) g k)
        where
          next : (a b k : ℕ) → b ≡ a + k → 2 + b ≡ 2 + a + k
          next a b k e = omega arith

  -- ---- items of ends

  end_item : (n b k : ℕ) (f : MidFunction) (e : MidEnd) (i : Item) → slice_get mid.functions n ≡ Some f → EndAt f b k e → ((at : Places) → Contains (end_items (first_block mid n) f.pairs at e) i) → Holds p (first_block mid n + b) i
  end_item n b k f e i q h c =
      let a : (at : Places) × (slice_get places n ≡ Some at) × PlacesFit f at = fit n f q in
      let code : List Item = flat_map (step_items (λ g. cell_address (global_cell mid g)) (global_length mid) a.0) h.block.steps in
      subst (λ (l : List Item). Contains l i) (sym (is.block n b f a.0 h.block q a.1 h.is_block))
      (in_behind (start_items f a.0 b) (body_items mid n f a.0 h.block) i (in_behind code (end_items (first_block mid n) f.pairs a.0 h.block.end) i (subst (λ (x : MidEnd). Contains (end_items (first_block mid n) f.pairs a.0 x) i) (sym h.is_end) (c a.0))))

  call_holds : (g : ℕ) → Contains (call_items g) (calling g)
  call_holds g = third_in (record { instr = mips.Lui 25 0; class = class.Shadow; fix = fix.ReturnHigh }) (record { instr = mips.Ori 25 25 0; class = class.Shadow; fix = fix.ReturnLow }) (going (mips.Jal 0) (fix.Function g)) (plain nop class.Act ∷ [])

  calls_it : (n b k g : ℕ) (args : List ℕ) (result : Option ℕ) (f : MidFunction) → slice_get mid.functions n ≡ Some f → EndAt f b k (Call g args result) → CallsFunction p (first_block mid n + b) g
  calls_it n b k g args result f q h = record {
    item = going (mips.Jal 0) (fix.Function g);
    target = 0;
    holds = end_item n b k f (Call g args result) (going (mips.Jal 0) (fix.Function g)) q h (λ at. in_behind (argument_items at 0 args) (call_items g) (going (mips.Jal 0) (fix.Function g)) (call_holds g));
    jumps = refl;
    names = refl;
  }

  returns_here : (n b k : ℕ) (from : Option ℕ) (f : MidFunction) → slice_get mid.functions n ≡ Some f → EndAt f b k (Return from) → Holds p (first_block mid n + b) (plain (mips.Jr 31) class.Act)
  returns_here n b k from f q h = end_item n b k f (Return from) (plain (mips.Jr 31) class.Act) q h
      (λ at. let ad : List Item = both (λ t. mips.Addiu (reg_in t Stack) (reg_in t Stack) (8 * f.pairs)) in
      let tl : List Item = plain (mips.Jr 31) class.Act ∷ plain nop class.Act ∷ [] in
      in_behind (returned_items at from) (load Link Stack 0 ++ (ad ++ tl)) (plain (mips.Jr 31) class.Act) (in_behind (load Link Stack 0) (ad ++ tl) (plain (mips.Jr 31) class.Act) (in_behind ad tl (plain (mips.Jr 31) class.Act) (first_in (plain (mips.Jr 31) class.Act) (plain nop class.Act ∷ [])))))

  -- The ways of the simulation, where the program has fewer than 2^32 blocks.
  pub wired : length p.blocks < 2 ^ 32 → Wired mid places p
  wired few = record {
    jump_there = λ fn b n to f at e a h. target_there f at b n to (Jump to) (good fn f e) h refl;
    branch_there = λ fn b n v to w f at e a h. (
      target_there f at b n to (Branch v w to) (good fn f e) h refl,
      (let x : (x : MidBlock) × (slice_get f.blocks (b + 1) ≡ Some x) = next_there f b n (Branch v w to) (good fn f e) h refl in record { block = x.0; is_block = x.1; plain_start = fallen_plain f at b n (Branch v w to) h refl }),
    );
    call_goes_on = λ fn b n g args result f e h. next_there f b n (Call g args result) (good fn f e) h refl;
    callee_there = λ fn b n g args result f e h.
        let x : (f' : MidFunction) × (slice_get mid.functions g ≡ Some f') × (length args ≡ f'.params) = function_there g f b n fn args result e h in
        let a : (at : Places) × (slice_get places g ≡ Some at) × PlacesFit x.0 at = fit g x.0 x.1 in
        let y : (y : MidBlock) × (slice_get x.0.blocks 0 ≡ Some y) = there x.0.blocks 0 (good g x.0 x.1).has_block in
        (x.0, a.0, y.0, x.1, a.1, y.1, x.2);
    entry_is = λ g f e. is.entries g (slice_get_within mid.functions g f e);
    small_numbers = λ fn b f blk e h.
        let a : (at : Places) × (slice_get places fn ≡ Some at) × PlacesFit f at = fit fn f e in
        below (first_block mid fn + b) (length p.blocks) few (has_items (first_block mid fn + b) (start_items f a.0 b ++ body_items mid fn f a.0 blk) (is.block fn b f a.0 blk e a.1 h)
        (λ z. end_some (first_block mid fn) f.pairs a.0 blk.end (back_nil (flat_map (step_items (λ g. cell_address (global_cell mid g)) (global_length mid) a.0) blk.steps) (end_items (first_block mid fn) f.pairs a.0 blk.end) (back_nil (start_items f a.0 b) (body_items mid fn f a.0 blk) z))));
    returns_to = λ fn b n from f e h g c m args result f' e' h'.
        subst (λ (k : ℕ). MayFollow p (first_block mid fn + b) k) (Rattle.std.proofs.Common.add_assoc (first_block mid g) c 1)
        (returned fn (first_block mid g + c) 31 (plain (mips.Jr 31) class.Act) (returns_here fn b n from f e h) refl (of_function fn b f e (slice_get_within f.blocks b h.block h.is_block)) (calls_it g c m fn args result f' e' h'));
    main_returns = λ b n from f e h.
        returned 0 0 31 (plain (mips.Jr 31) class.Act) (returns_here 0 b n from f e h) refl (of_function 0 b f e (slice_get_within f.blocks b h.block h.is_block))
        (record {
          item = going (mips.Jal 0) (fix.Function 0);
          target = 0;
          holds = subst (λ (l : List Item). Contains l (going (mips.Jal 0) (fix.Function 0))) (sym is.first)
              (in_behind (both (λ t. mips.Lui (reg_in t Stack) (cell_address (cells mid) / 2 ^ 16))) (both (λ t. mips.Ori (reg_in t Stack) (reg_in t Stack) (cell_address (cells mid) % 2 ^ 16)) ++ call_items 0) (going (mips.Jal 0) (fix.Function 0)) (in_behind (both (λ t. mips.Ori (reg_in t Stack) (reg_in t Stack) (cell_address (cells mid) % 2 ^ 16))) (call_items 0) (going (mips.Jal 0) (fix.Function 0)) (call_holds 0)));
          jumps = refl;
          names = refl;
        });
  }
    where
      below : (n m : ℕ) → m < 2 ^ 32 → n < m → n + 1 < 2 ^ 32
      below n m h k = omega arith

      has_items : (n : ℕ) (xs : List Item) → items_of p n ≡ xs → (xs ≡ [] → ⊥) → n < length p.blocks
      has_items n xs e ne = by_get (slice_get p.blocks n) refl
        where
          by_get : (o : Option HardBlock) → slice_get p.blocks n ≡ o → n < length p.blocks
          by_get None q = absurd (ne (sym e ∙ ap (λ (x : Option HardBlock). block_items x) q))
          by_get (Some x) q = slice_get_within p.blocks n x q
