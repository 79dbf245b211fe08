-- The addresses of a program that is laid out: blocks stand one behind the other, and each word of the text is of one item.
use Rattle.std.proofs.Common.{◌≡◌, ◌≢◌, ◌≤◌, ℕ, zero, suc, ◌+◌, ◌-◌, ◌*◌, ◌/◌, ◌%◌, ◌<◌, arith, rules, ap, refl, sym, ◌∙◌, subst, List, [], ◌∷◌, ◌++◌, length, inl, inr}
use Rattle.std.specs.Prelude.{Option, Some, None, ◌⊎◌, slice_get}
use Rattle.mips_text.specs.Text.{IsText, InText}
use Rattle.hard_items.specs.declared.code.Item.{Item}
use Rattle.hard_items.specs.declared.code.Signed.{Signed}
use Rattle.hard_items.specs.Run.{items_of}
use Rattle.hard_items.specs.Heads.{headed, head_items}
use Rattle.signature_assign.specs.Headed.{mark_at}
use Rattle.layout_hardened.specs.LaidOut.{IsLaidOut}
use Rattle.signature_assign.proofs.Head.{headed_items}

pub less_or : (a b : ℕ) → (a < b) ⊎ (b ≤ a)
less_or a b = grind arith

pub equal_or : (a b : ℕ) → (a ≡ b) ⊎ (a ≢ b)
equal_or a b = grind arith

pub item_there : (xs : List Item) (k : ℕ) → k < length xs → (i : Item) × (slice_get xs k ≡ Some i)
item_there [] k h = absurd (omega arith)
item_there (x ∷ xs) zero h = (x, refl)
item_there (x ∷ xs) (suc k) h = item_there xs k (omega arith)

module _ (s : Signed) (text : List ℕ) (place : ℕ → ℕ) (l : IsLaidOut s text place) (one_each : length s.marks ≡ length s.program.blocks) where
  abbrev pub count : ℕ
  count = length s.program.blocks

  abbrev pub size : ℕ → ℕ
  size b = length (items_of (headed s) b)

  suc_place : (c : ℕ) → c < count → place (suc c) ≡ place c + 4 * size c
  suc_place c h = ap place (plus_one c) ∙ l.next c h
    where
      plus_one : (c : ℕ) → suc c ≡ c + 1
      plus_one c = omega arith

  grown : (a n b m : ℕ) → a + n ≤ b → a + n ≤ b + 4 * m
  grown a n b m h = omega arith

  one_on : (b c : ℕ) (ih : b ≢ c → place b + 4 * size b ≤ place c) → c < count → (b ≡ c) ⊎ (b ≢ c) → place b + 4 * size b ≤ place (suc c)
  one_on b c ih k (inl e) = subst (λ (x : ℕ). place x + 4 * size x ≤ place (suc c)) (sym e) (at_most (place c + 4 * size c) (place (suc c)) (suc_place c k))
    where
      at_most : (x y : ℕ) → y ≡ x → x ≤ y
      at_most x y e = omega arith
  one_on b c ih k (inr n) = subst (λ (x : ℕ). place b + 4 * size b ≤ x) (sym (suc_place c k)) (grown (place b) (4 * size b) (place c) (size c) (ih n))

  pub ascends : (b c : ℕ) → b < c → c ≤ count → place b + 4 * size b ≤ place c
  ascends b zero h k = absurd (omega arith)
  ascends b (suc c) h k = one_on b c (λ n. ascends b c (omega arith) (omega arith)) (omega arith) (equal_or b c)

  pub aligned : (b : ℕ) → b ≤ count → place b % 4 ≡ 0
  aligned zero h = ap (λ (x : ℕ). x % 4) l.base
  aligned (suc b) h = ap (λ (x : ℕ). x % 4) (suc_place b (omega arith)) ∙ four_on (place b) (size b) (aligned b (omega arith))
    where
      four_on : (x m : ℕ) → x % 4 ≡ 0 → (x + 4 * m) % 4 ≡ 0
      four_on x m h = omega arith

  -- the block in which an address stands
  pub record Within (a b : ℕ) : Type 0 where
    pub there : b < count
    pub from : place b ≤ a
    pub upto : a < place b + 4 * size b

  find : (a m : ℕ) → m ≤ count → place 0 ≤ a → a < place m → (b : ℕ) × Within a b
  find a zero h k g = absurd (omega arith)
  find a (suc m) h k g = elim (less_or a (place m)) as (λ z. (b : ℕ) × Within a b) [
    | inl e ↦ find a m (omega arith) k e
    | inr e ↦ (m, record { there = omega arith; from = e; upto = subst (λ (x : ℕ). a < x) (suc_place m (omega arith)) g })
  ]

  -- an item stands at an address
  pub record ItemOf (a : ℕ) : Type 0 where
    pub b : ℕ
    pub k : ℕ
    pub item : Item
    pub there : b < count
    pub at : a ≡ place b + 4 * k
    pub stands : slice_get (items_of (headed s) b) k ≡ Some item

  split : (a p m : ℕ) → a % 4 ≡ 0 → p % 4 ≡ 0 → p ≤ a → a < p + 4 * m → (k : ℕ) × ((k < m) × (a ≡ p + 4 * k))
  split a p m f g h k = ((a - p) / 4, (omega arith, omega arith))

  pub item_of : (a : ℕ) → InText text a → ItemOf a
  item_of a t =
      let w : (b : ℕ) × Within a b = find a count (omega arith) (subst (λ (x : ℕ). x ≤ a) (sym l.base) t.from) (subst (λ (x : ℕ). a < x) (sym l.size) (inside a (length text) t.aligned t.from t.upto)) in
      let k : (k : ℕ) × ((k < size w.0) × (a ≡ place w.0 + 4 * k)) = split a (place w.0) (size w.0) t.aligned (aligned w.0 (below w.0 w.1.there)) w.1.from w.1.upto in
      let i : (i : Item) × (slice_get (items_of (headed s) w.0) k.0 ≡ Some i) = item_there (items_of (headed s) w.0) k.0 k.1.0 in
      record { b = w.0; k = k.0; item = i.0; there = w.1.there; at = k.1.1; stands = i.1 }
    where
      inside : (a n : ℕ) → a % 4 ≡ 0 → 0x00400000 ≤ a → (a - 0x00400000) / 4 < n → a < 0x00400000 + 4 * n
      inside a n f g h = omega arith

      below : (x : ℕ) → x < count → x ≤ count
      below x h = omega arith

  -- each item stands in the text
  pub in_text_at : (b k : ℕ) → b < count → k < size b → InText text (place b + 4 * k)
  in_text_at b k h g =
      record { aligned = four (place b) (aligned b (omega arith)); from = above (place b) lower; upto = upper (place b) (length text) lower top }
    where
      four : (x : ℕ) → x % 4 ≡ 0 → (x + 4 * k) % 4 ≡ 0
      four x e = omega arith

      zero_or : (b ≡ 0) ⊎ (b ≢ 0) → 0x00400000 ≤ place b
      zero_or (inl e) = subst (λ (x : ℕ). 0x00400000 ≤ place x) (sym e) (subst (λ (x : ℕ). 0x00400000 ≤ x) (sym l.base) (self 0x00400000))
        where
          self : (x : ℕ) → x ≤ x
          self x = omega arith
      zero_or (inr n) = up (place 0) (size 0) (place b) l.base (ascends 0 b (positive b n) (omega arith))
        where
          positive : (x : ℕ) → x ≢ 0 → 0 < x
          positive x n = omega arith

          up : (x m y : ℕ) → x ≡ 0x00400000 → x + 4 * m ≤ y → 0x00400000 ≤ y
          up x m y e h = omega arith

      lower : 0x00400000 ≤ place b
      lower = zero_or (equal_or b 0)

      above : (x : ℕ) → 0x00400000 ≤ x → 0x00400000 ≤ x + 4 * k
      above x h = omega arith

      top : place b + 4 * size b ≤ 0x00400000 + 4 * length text
      top = subst (λ (x : ℕ). place b + 4 * size b ≤ x) l.size (ascends b count h (self count))
        where
          self : (x : ℕ) → x ≤ x
          self x = omega arith

      upper : (x n : ℕ) → 0x00400000 ≤ x → x + 4 * size b ≤ 0x00400000 + 4 * n → (x + 4 * k - 0x00400000) / 4 < n
      upper x n e h = omega arith

  -- blocks are not empty, so their places differ and keep their order
  pub has_head : (b : ℕ) → b < count → 7 ≤ size b
  has_head b h = subst (λ (n : ℕ). 7 ≤ n) (sym (ap length (headed_items s b one_each h))) (seven (items_of s.program b))
    where
      seven : (xs : List Item) → 7 ≤ length (head_items (mark_at s b) ++ xs)
      seven xs = more (length xs)
        where
          more : (n : ℕ) → 7 ≤ suc (suc (suc (suc (suc (suc (suc n))))))
          more n = omega arith

  pub order : (b c : ℕ) → b < c → c ≤ count → place b + 28 ≤ place c
  order b c h k = apart (place b) (size b) (place c) (has_head b (omega arith)) (ascends b c h k)
    where
      apart : (x m y : ℕ) → 7 ≤ m → x + 4 * m ≤ y → x + 28 ≤ y
      apart x m y e h = omega arith

  pub not_above : (b c : ℕ) → b ≤ c → c ≤ count → place b ≤ place c
  not_above b c h k = elim (equal_or b c) as (λ z. place b ≤ place c) [
    | inl e ↦ subst (λ (x : ℕ). place b ≤ place x) e (self (place b))
    | inr n ↦ drop_28 (place b) (place c) (order b c (omega arith) k)
  ]
    where
      self : (x : ℕ) → x ≤ x
      self x = omega arith

      drop_28 : (x y : ℕ) → x + 28 ≤ y → x ≤ y
      drop_28 x y h = omega arith

  pub order_back : (b c : ℕ) → b ≤ count → c < count → place b ≤ place c → b ≤ c
  order_back b c h k g = elim (less_or c b) as (λ z. b ≤ c) [
    | inl e ↦ absurd (contra (place c) (place b) (order c b e h) g)
    | inr e ↦ e
  ]
    where
      contra : (x y : ℕ) → x + 28 ≤ y → y ≤ x → ⊥
      contra x y h g = omega arith

  pub same_place : (b c : ℕ) → b < count → c < count → place b ≡ place c → b ≡ c
  same_place b c h k e = both b c (order_back b c (omega arith) k (le_eq (place b) (place c) e)) (order_back c b (omega arith) h (le_eq (place c) (place b) (sym e)))
    where
      both : (x y : ℕ) → x ≤ y → y ≤ x → x ≡ y
      both x y h k = omega arith

      le_eq : (x y : ℕ) → x ≡ y → x ≤ y
      le_eq x y e = omega arith
