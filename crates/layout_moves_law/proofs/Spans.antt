-- Functions as ranges of blocks: which blocks are of one function, and how many words they take.
use Rattle.std.proofs.Common.{◌≡◌, ◌≤◌, ◌<◌, ℕ, zero, suc, ◌+◌, ◌-◌, arith, ap, refl, sym, ◌∙◌, subst, List, [], ◌∷◌, length, Bool, true, false, inl, inr}
use Rattle.std.specs.Prelude.{Some, None, ◌↔◌, ◌==◌, nat_le, nat_lt, max, if◌then◌else◌, slice_get}
use Rattle.std.proofs.lemmas.Bool.{cases_Bool}
use Rattle.hard_items.specs.declared.code.Item.{Item}
use Rattle.hard_items.specs.declared.code.HardBlock.{HardBlock}
use Rattle.hard_items.specs.declared.code.HardProgram.{HardProgram}
use Rattle.hard_items.specs.Run.{items_of, block_items}
use Rattle.hard_items.specs.Ways.{IsOfFunction}
use Rattle.far_branches.specs.Widen.{function_start, words_of, is_large}

none_some : (x : ℕ) → None ≡ Some x → ⊥
none_some x e = cc

same_some : (a b : ℕ) → Some a ≡ Some b → a ≡ b
same_some a b e = cc

-- ---- the start of a block's function

le_true : (a b : ℕ) → nat_le a b ≡ true → a ≤ b
le_true a b e = grind arith

le_false : (a b : ℕ) → nat_le a b ≡ false → b < a
le_false a b e = grind arith

-- An entry that isn't above the block isn't above the start of its function.
entry_below : (es : List ℕ) (b f e : ℕ) → slice_get es f ≡ Some e → e ≤ b → e ≤ function_start es b
entry_below [] b f e s h = absurd (none_some e s)
entry_below (x ∷ es) b zero e s h = elim (cases_Bool (nat_le x b)) [
  | inl t ↦ subst (λ (z : Bool). e ≤ (if z then max x (function_start es b) else function_start es b)) (sym t) (most x e (function_start es b) (same_some x e s))
  | inr t ↦ absurd (no x b e (le_false x b t) (same_some x e s) h)
]
  where
    most : (x e s : ℕ) → x ≡ e → e ≤ max x s
    most x e s h = omega arith

    no : (x b e : ℕ) → b < x → x ≡ e → e ≤ b → ⊥
    no x b e h k l = omega arith
entry_below (x ∷ es) b (suc f) e s h = by (nat_le x b) (entry_below es b f e s h)
  where
    more : (x e s : ℕ) → e ≤ s → e ≤ max x s
    more x e s h = omega arith

    by : (z : Bool) → e ≤ function_start es b → e ≤ (if z then max x (function_start es b) else function_start es b)
    by true k = more x e (function_start es b) k
    by false k = k

-- The start is an entry that isn't above the block, or there is none and it is 0.
pub data StartIs (es : List ℕ) (b : ℕ) : Type 0 where
  entry : (f : ℕ) → slice_get es f ≡ Some (function_start es b) → function_start es b ≤ b → StartIs es b
  none : ((f e : ℕ) → slice_get es f ≡ Some e → e ≤ b → ⊥) → function_start es b ≡ 0 → StartIs es b

start_is : (es : List ℕ) (b : ℕ) → StartIs es b
start_is [] b = none (λ f e s h. none_some e s) refl
start_is (x ∷ es) b = elim (cases_Bool (nat_le x b)) [
  | inl t ↦ by_true t (start_is es b)
  | inr t ↦ by_false t (start_is es b)
]
  where
    first : (x s : ℕ) → nat_le s x ≡ true → max x s ≡ x
    first x s h = grind arith

    second : (x s : ℕ) → nat_le s x ≡ false → max x s ≡ s
    second x s h = grind arith

    by_false : nat_le x b ≡ false → StartIs es b → StartIs (x ∷ es) b
    by_false t (entry f s h) =
        let e : function_start (x ∷ es) b ≡ function_start es b = ap (λ (z : Bool). if z then max x (function_start es b) else function_start es b) t in
        entry (suc f) (s ∙ ap (λ (z : ℕ). Some z) (sym e)) (subst (λ (z : ℕ). z ≤ b) (sym e) h)
    by_false t (none n z) = none (λ f e s h. outside f e s h) (ap (λ (z : Bool). if z then max x (function_start es b) else function_start es b) t ∙ z)
      where
        no : (x b e : ℕ) → b < x → x ≡ e → e ≤ b → ⊥
        no x b e h k l = omega arith

        outside : (f e : ℕ) → slice_get (x ∷ es) f ≡ Some e → e ≤ b → ⊥
        outside zero e s h = no x b e (le_false x b t) (same_some x e s) h
        outside (suc f) e s h = n f e s h

    at_first : (e : function_start (x ∷ es) b ≡ x) → nat_le x b ≡ true → StartIs (x ∷ es) b
    at_first e t = entry 0 (ap (λ (z : ℕ). Some z) (sym e)) (subst (λ (z : ℕ). z ≤ b) (sym e) (le_true x b t))

    by_true : nat_le x b ≡ true → StartIs es b → StartIs (x ∷ es) b
    by_true t (none n z) = at_first (ap (λ (y : Bool). if y then max x (function_start es b) else function_start es b) t ∙ (ap (λ (y : ℕ). max x y) z ∙ zero_max x)) t
      where
        zero_max : (x : ℕ) → max x 0 ≡ x
        zero_max x = omega arith
    by_true t (entry f s h) = elim (cases_Bool (nat_le (function_start es b) x)) [
      | inl g ↦ at_first (ap (λ (y : Bool). if y then max x (function_start es b) else function_start es b) t ∙ first x (function_start es b) g) t
      | inr g ↦
          let e : function_start (x ∷ es) b ≡ function_start es b = ap (λ (y : Bool). if y then max x (function_start es b) else function_start es b) t ∙ second x (function_start es b) g in
          entry (suc f) (s ∙ ap (λ (z : ℕ). Some z) (sym e)) (subst (λ (z : ℕ). z ≤ b) (sym e) h)
    ]

both : (a b : ℕ) → a ≤ b → b ≤ a → a ≡ b
both a b h k = omega arith

-- Blocks of the same functions have one start.
pub one_start : (p : HardProgram) (b c : ℕ) → ((f : ℕ) → IsOfFunction p b f ↔ IsOfFunction p c f) → function_start p.entries b ≡ function_start p.entries c
one_start p b c h = by (start_is p.entries b) (start_is p.entries c)
  where
    of_start : (x : ℕ) (f : ℕ) → slice_get p.entries f ≡ Some (function_start p.entries x) → function_start p.entries x ≤ x → IsOfFunction p x f
    of_start x f s l = record { entry = function_start p.entries x; is_entry = s; not_above = l; greatest = λ g other e k. entry_below p.entries x g other e k }

    one : (f a b : ℕ) → slice_get p.entries f ≡ Some a → slice_get p.entries f ≡ Some b → a ≡ b
    one f a b s t = same_some a b (sym s ∙ t)

    by : StartIs p.entries b → StartIs p.entries c → function_start p.entries b ≡ function_start p.entries c
    by (entry f s l) (entry g t m) =
        let there : IsOfFunction p c f = (h f).0 (of_start b f s l) in
        let back : IsOfFunction p b g = (h g).1 (of_start c g t m) in
        both (function_start p.entries b) (function_start p.entries c)
        (subst (λ (z : ℕ). z ≤ function_start p.entries c) (one f there.entry (function_start p.entries b) there.is_entry s) (entry_below p.entries c f there.entry there.is_entry there.not_above))
        (subst (λ (z : ℕ). z ≤ function_start p.entries b) (one g back.entry (function_start p.entries c) back.is_entry t) (entry_below p.entries b g back.entry back.is_entry back.not_above))
    by (entry f s l) (none n z) = let there : IsOfFunction p c f = (h f).0 (of_start b f s l) in absurd (n f there.entry there.is_entry there.not_above)
    by (none n z) (entry g t m) = let back : IsOfFunction p b g = (h g).1 (of_start c g t m) in absurd (n g back.entry back.is_entry back.not_above)
    by (none n z) (none m y) = z ∙ sym y

-- Starts ascend with the blocks.
start_up : (es : List ℕ) (b c : ℕ) → b ≤ c → function_start es b ≤ function_start es c
start_up [] b c h = omega arith
start_up (x ∷ es) b c h = by (nat_le x b) refl (nat_le x c) refl (start_up es b c h)
  where
    no : (x b c : ℕ) → x ≤ b → b ≤ c → c < x → ⊥
    no x b c h k l = omega arith

    up : (x s t : ℕ) → s ≤ t → max x s ≤ max x t
    up x s t h = omega arith

    more : (x s t : ℕ) → s ≤ t → s ≤ max x t
    more x s t h = omega arith

    by : (y : Bool) → nat_le x b ≡ y → (z : Bool) → nat_le x c ≡ z → function_start es b ≤ function_start es c
        → (if y then max x (function_start es b) else function_start es b) ≤ (if z then max x (function_start es c) else function_start es c)
    by true e true f k = up x (function_start es b) (function_start es c) k
    by true e false f k = absurd (no x b c (le_true x b e) h (le_false x c f))
    by false e true f k = more x (function_start es b) (function_start es c) k
    by false e false f k = k

pub between : (es : List ℕ) (b c d : ℕ) → b ≤ c → c ≤ d → function_start es b ≡ function_start es d → function_start es c ≡ function_start es b
between es b c d h k e = both (function_start es c) (function_start es b) (subst (λ (z : ℕ). function_start es c ≤ z) (sym e) (start_up es c d k)) (start_up es b c h)

-- ---- the words of a function

-- The words of the blocks below a number that are of a function, a head counted for each.
abbrev pub below_words : HardProgram → (start : ℕ) → ℕ → ℕ
below_words p start zero = 0
below_words p start (suc c) = below_words p start c + (if function_start p.entries c == start then length (items_of p c) + 7 else 0)

words_are : (p : HardProgram) (start b : ℕ) (ks : List HardBlock) → ((m : ℕ) (k : HardBlock) → slice_get ks m ≡ Some k → items_of p (b + m) ≡ k.items) → below_words p start b + words_of p.entries start b ks ≡ below_words p start (b + length ks)
words_are p start b [] h = none (below_words p start b) ∙ ap (below_words p start) (sym (none b))
  where
    none : (a : ℕ) → a + 0 ≡ a
    none a = omega arith
words_are p start b (k ∷ ks) h =
    sum (below_words p start b) (if function_start p.entries b == start then length k.items + 7 else 0) (words_of p.entries start (b + 1) ks)
    ∙ (ap (λ (z : List Item). below_words p start b + (if function_start p.entries b == start then length z + 7 else 0) + words_of p.entries start (b + 1) ks) (sym (h 0 k refl) ∙ ap (items_of p) (none b))
    ∙ (ap (λ (z : ℕ). below_words p start z + words_of p.entries start (b + 1) ks) (one b)
    ∙ (words_are p start (b + 1) ks (λ m x e. ap (items_of p) (move b m) ∙ h (suc m) x e) ∙ ap (below_words p start) (move b (length ks)))))
  where
    sum : (a b c : ℕ) → a + (b + c) ≡ a + b + c
    sum a b c = omega arith

    none : (b : ℕ) → b + 0 ≡ b
    none b = omega arith

    one : (b : ℕ) → suc b ≡ b + 1
    one b = omega arith

    move : (b m : ℕ) → b + 1 + m ≡ b + suc m
    move b m = omega arith

below_up : (p : HardProgram) (start b m : ℕ) → below_words p start b ≤ below_words p start (b + m)
below_up p start b zero = same (below_words p start b) (below_words p start (b + 0)) (ap (below_words p start) (none b))
  where
    none : (b : ℕ) → b ≡ b + 0
    none b = omega arith

    same : (a b : ℕ) → a ≡ b → a ≤ b
    same a b e = omega arith
below_up p start b (suc m) = subst (λ (z : ℕ). below_words p start b ≤ below_words p start z) (move b m) (more (below_words p start b) (below_words p start (b + m)) _ (below_up p start b m))
  where
    move : (b m : ℕ) → suc (b + m) ≡ b + suc m
    move b m = omega arith

    more : (a b x : ℕ) → a ≤ b → a ≤ b + x
    more a b x h = omega arith

-- A function that isn't large has at most so many words.
pub small_words : (p : HardProgram) (b c : ℕ) → is_large p b ≡ false → c ≤ length p.blocks → below_words p (function_start p.entries b) c ≤ 30000
small_words p b c h l =
    let start : ℕ = function_start p.entries b in
    up (below_words p (function_start p.entries b) c) (below_words p (function_start p.entries b) (c + (length p.blocks - c))) (below_words p (function_start p.entries b) (0 + length p.blocks)) (words_of p.entries (function_start p.entries b) 0 p.blocks)
    (below_up p (function_start p.entries b) c (length p.blocks - c)) (ap (below_words p (function_start p.entries b)) (whole c (length p.blocks) l)) (words_are p (function_start p.entries b) 0 p.blocks (λ m k e. ap (items_of p) (zero_left m) ∙ ap block_items e)) (small (words_of p.entries (function_start p.entries b) 0 p.blocks) h)
  where
    whole : (c n : ℕ) → c ≤ n → c + (n - c) ≡ 0 + n
    whole c n h = omega arith

    zero_left : (m : ℕ) → 0 + m ≡ m
    zero_left m = omega arith

    small : (w : ℕ) → nat_lt 30000 w ≡ false → w ≤ 30000
    small w h = grind arith

    up : (a b c w : ℕ) → a ≤ b → b ≡ c → 0 + w ≡ c → w ≤ 30000 → a ≤ 30000
    up a b c w h e f k = omega arith

-- A block of a function counts among its words.
pub counts_on : (p : HardProgram) (start c : ℕ) → function_start p.entries c ≡ start → below_words p start (suc c) ≡ below_words p start c + (length (items_of p c) + 7)
counts_on p start c e = ap (λ (z : Bool). below_words p start c + (if z then length (items_of p c) + 7 else 0)) (equal (function_start p.entries c) start e)
  where
    equal : (a b : ℕ) → a ≡ b → (a == b) ≡ true
    equal a b e = grind arith
