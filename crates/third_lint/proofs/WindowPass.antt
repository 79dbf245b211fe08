-- The pass that lists the windows of a text.
use Rattle.std.proofs.Common.{◌≡◌, ℕ, ◌+◌, ◌-◌, ◌*◌, ◌/◌, ◌%◌, ◌≤◌, ◌<◌, arith, refl, sym, ◌∙◌, subst, List, [], ◌∷◌, ◌++◌, length, get_or, inl, inr}
use Rattle.std.specs.Prelude.{◌⊎◌}
use Rattle.std.proofs.lemmas.Grind.{common_steps}
use Rattle.mips_text.specs.Text.{InText}
use Rattle.third_lint.specs.Votes.{NearThird}
use Rattle.third_lint.specs.WindowList.{Before, pair_at, WindowsBefore, AreWindows}

-- pushed pairs
push_len : (xs : List (ℕ × ℕ)) (x : ℕ × ℕ) → length (xs ++ x ∷ []) ≡ length xs + 1
push_len xs x = grind (arith, common_steps)

push_old : (xs : List (ℕ × ℕ)) (x d : ℕ × ℕ) (k : ℕ) → k < length xs → get_or (xs ++ x ∷ []) k d ≡ get_or xs k d
push_old xs x d k h = grind (arith, common_steps)

push_new : (xs : List (ℕ × ℕ)) (x d : ℕ × ℕ) (k : ℕ) → k ≡ length xs → get_or (xs ++ x ∷ []) k d ≡ x
push_new xs x d k h = grind (arith, common_steps)

next_or : (q r : ℕ) → q < r + 1 → (q < r) ⊎ (q ≡ r)
next_or q r h = grind arith

no_less : (k : ℕ) → k < 0 → ⊥
no_less k h = omega arith

before_trans : (p q s : ℕ × ℕ) → Before p q → Before q s → Before p s
before_trans p q s h k = both p.0 p.1 q.0 q.1 s.0 s.1 h k
  where
    both : (a b c d e f : ℕ) → (a < c) ⊎ ((a ≡ c) × (b < d)) → (c < e) ⊎ ((c ≡ e) × (d < f)) → (a < e) ⊎ ((a ≡ e) × (b < f))
    both a b c d e f h k = grind arith

-- before the next register: before this one, or this one
before_next : (a r b s : ℕ) → Before (a, r) (b, s + 1) → Before (a, r) (b, s) ⊎ ((a ≡ b) × (r ≡ s))
before_next a r b s (inl h) = inl (inl h)
before_next a r b s (inr h) = elim (next_or r s h.1) as (λ z. Before (a, r) (b, s) ⊎ ((a ≡ b) × (r ≡ s))) [ inl l ↦ inl (inr (h.0, l)) | inr e ↦ inr (h.0, e) ]

less_more : (s : ℕ) → s < s + 1
less_more s = omega arith

self_before : (b s : ℕ) → Before (b, s) (b, s + 1)
self_before b s = inr (refl, less_more s)

pub first_list : (text : List ℕ) → ((a r : ℕ) → NearThird text a r → InText text a × (r < 32)) → WindowsBefore text (0x00400000, 0) []
first_list text law = record {
  sound = λ k h. absurd (no_less k h);
  complete = λ a r n b. absurd (none a r n b);
  ascending = λ j k h l. absurd (no_less k l);
}
  where
    low : (a : ℕ) → 0x00400000 ≤ a → a < 0x00400000 → ⊥
    low a h k = omega arith

    none : (a r : ℕ) → NearThird text a r → Before (a, r) (0x00400000, 0) → ⊥
    none a r n (inl h) = low a (law a r n).0.from h
    none a r n (inr h) = no_less r h.1

pub list_without : (text : List ℕ) (b s : ℕ) (ws : List (ℕ × ℕ)) → (NearThird text b s → ⊥) → WindowsBefore text (b, s) ws → WindowsBefore text (b, s + 1) ws
list_without text b s ws n w = record {
  sound = λ k h. ((w.sound k h).0, before_trans (pair_at ws k) (b, s) (b, s + 1) (w.sound k h).1 (self_before b s));
  complete = λ a r k h. elim (before_next a r b s h) as (λ z. (k : ℕ) × ((k < length ws) × (pair_at ws k ≡ (a, r)))) [
    | inl l ↦ w.complete a r k l
    | inr e ↦ absurd (n (subst (λ (x : ℕ). NearThird text x s) e.0 (subst (λ (x : ℕ). NearThird text a x) e.1 k)))
  ];
  ascending = w.ascending;
}

pub list_with : (text : List ℕ) (b s : ℕ) (ws : List (ℕ × ℕ)) → NearThird text b s → WindowsBefore text (b, s) ws → WindowsBefore text (b, s + 1) (ws ++ (b, s) ∷ [])
list_with text b s ws m w =
    let old : (k : ℕ) → k < length ws → pair_at (ws ++ (b, s) ∷ []) k ≡ pair_at ws k = λ k h. push_old ws (b, s) (0, 0) k h in
    let new : (k : ℕ) → k ≡ length ws → pair_at (ws ++ (b, s) ∷ []) k ≡ (b, s) = λ k h. push_new ws (b, s) (0, 0) k h in
    let which : (k : ℕ) → k < length (ws ++ (b, s) ∷ []) → (k < length ws) ⊎ (k ≡ length ws) = λ k h. next_or k (length ws) (subst (λ (x : ℕ). k < x) (push_len ws (b, s)) h) in
    record {
      sound = λ k h. elim (which k h) as (λ z. NearThird text (pair_at (ws ++ (b, s) ∷ []) k).0 (pair_at (ws ++ (b, s) ∷ []) k).1 × Before (pair_at (ws ++ (b, s) ∷ []) k) (b, s + 1)) [
        | inl l ↦ subst (λ (p : ℕ × ℕ). NearThird text p.0 p.1 × Before p (b, s + 1)) (sym (old k l)) ((w.sound k l).0, before_trans (pair_at ws k) (b, s) (b, s + 1) (w.sound k l).1 (self_before b s))
        | inr e ↦ subst (λ (p : ℕ × ℕ). NearThird text p.0 p.1 × Before p (b, s + 1)) (sym (new k e)) (m, self_before b s)
      ];
      complete = λ a r k h. elim (before_next a r b s h) as (λ z. (k : ℕ) × ((k < length (ws ++ (b, s) ∷ [])) × (pair_at (ws ++ (b, s) ∷ []) k ≡ (a, r)))) [
        | inl l ↦ let q : (k : ℕ) × ((k < length ws) × (pair_at ws k ≡ (a, r))) = w.complete a r k l in (q.0, (longer q.0 q.1.0, old q.0 q.1.0 ∙ q.1.1))
        | inr e ↦ (length ws, (at_end, new (length ws) refl ∙ pair_eq b s a r (sym e.0) (sym e.1)))
      ];
      ascending = λ j k h l. elim (which k l) as (λ z. Before (pair_at (ws ++ (b, s) ∷ []) j) (pair_at (ws ++ (b, s) ∷ []) k)) [
        | inl x ↦ subst (λ (p : ℕ × ℕ). Before (pair_at (ws ++ (b, s) ∷ []) j) p) (sym (old k x)) (subst (λ (p : ℕ × ℕ). Before p (pair_at ws k)) (sym (old j (below j k h x))) (w.ascending j k h x))
        | inr e ↦ subst (λ (p : ℕ × ℕ). Before (pair_at (ws ++ (b, s) ∷ []) j) p) (sym (new k e)) (subst (λ (p : ℕ × ℕ). Before p (b, s)) (sym (old j (under j k h e))) (w.sound j (under j k h e)).1)
      ];
    }
  where
    pair_eq : (b s a r : ℕ) → b ≡ a → s ≡ r → ◌≡◌ {A = ℕ × ℕ} (b, s) (a, r)
    pair_eq b s a r e f = rw (e, f) refl

    longer : (k : ℕ) → k < length ws → k < length (ws ++ (b, s) ∷ [])
    longer k h = subst (λ (x : ℕ). k < x) (sym (push_len ws (b, s))) (up k (length ws) h)
      where
        up : (k n : ℕ) → k < n → k < n + 1
        up k n h = omega arith

    at_end : length ws < length (ws ++ (b, s) ∷ [])
    at_end = subst (λ (x : ℕ). length ws < x) (sym (push_len ws (b, s))) (less_more (length ws))

    below : (j k : ℕ) → j < k → k < length ws → j < length ws
    below j k h l = omega arith

    under : (j k : ℕ) → j < k → k ≡ length ws → j < length ws
    under j k h e = omega arith

-- behind the last register comes the next word
pub next_word : (text : List ℕ) (b s : ℕ) (ws : List (ℕ × ℕ)) → ((a r : ℕ) → NearThird text a r → InText text a × (r < 32)) → b % 4 ≡ 0 → 32 ≤ s → WindowsBefore text (b, s) ws → WindowsBefore text (b + 4, 0) ws
next_word text b s ws law al l w = record {
  sound = λ k h. ((w.sound k h).0, before_trans (pair_at ws k) (b, s) (b + 4, 0) (w.sound k h).1 (inl (four_more b)));
  complete = λ a r n h. w.complete a r n (elim h as (λ z. Before (a, r) (b, s)) [ inl x ↦ split a r (law a r n).0.aligned (law a r n).1 x | inr x ↦ absurd (no_less r x.1) ]);
  ascending = w.ascending;
}
  where
    four_more : (b : ℕ) → b < b + 4
    four_more b = omega arith

    split : (a r : ℕ) → a % 4 ≡ 0 → r < 32 → a < b + 4 → Before (a, r) (b, s)
    split a r h k m = go a r b s h al k l m
      where
        go : (a r b s : ℕ) → a % 4 ≡ 0 → b % 4 ≡ 0 → r < 32 → 32 ≤ s → a < b + 4 → (a < b) ⊎ ((a ≡ b) × (r < s))
        go a r b s h k l m n = grind arith

-- behind the last word all are listed
pub last_list : (text : List ℕ) (n : ℕ) (ws : List (ℕ × ℕ)) → n ≡ length text → ((a r : ℕ) → NearThird text a r → InText text a × (r < 32)) → WindowsBefore text (0x00400000 + 4 * n, 0) ws → AreWindows text ws
last_list text n ws e law w = record {
  sound = λ k h. (w.sound k h).0;
  complete = λ a r m. w.complete a r m (inl (subst (λ (x : ℕ). a < 0x00400000 + 4 * x) (sym e) (inside a (law a r m).0)));
  ascending = w.ascending;
}
  where
    up : (a n : ℕ) → a % 4 ≡ 0 → 0x00400000 ≤ a → (a - 0x00400000) / 4 < n → a < 0x00400000 + 4 * n
    up a n h k l = omega arith

    inside : (a : ℕ) → InText text a → a < 0x00400000 + 4 * length text
    inside a t = up a (length text) t.aligned t.from t.upto

-- a word at which no window stands
pub skip_word : (text : List ℕ) (b : ℕ) (ws : List (ℕ × ℕ)) → ((a r : ℕ) → NearThird text a r → InText text a × (r < 32)) → b % 4 ≡ 0 → ((r : ℕ) → NearThird text b r → ⊥) → WindowsBefore text (b, 0) ws → WindowsBefore text (b + 4, 0) ws
skip_word text b ws law al n w = record {
  sound = λ k h. ((w.sound k h).0, before_trans (pair_at ws k) (b, 0) (b + 4, 0) (w.sound k h).1 (inl (four_more b)));
  complete = λ a r m h. w.complete a r m (elim h as (λ z. Before (a, r) (b, 0)) [
    | inl x ↦ elim (below_or a b (law a r m).0.aligned al x) as (λ z. Before (a, r) (b, 0)) [
      | inl l ↦ inl l
      | inr e ↦ absurd (n r (subst (λ (v : ℕ). NearThird text v r) e m))
    ]
    | inr x ↦ absurd (no_less r x.1)
  ]);
  ascending = w.ascending;
}
  where
    four_more : (b : ℕ) → b < b + 4
    four_more b = omega arith

    below_or : (a b : ℕ) → a % 4 ≡ 0 → b % 4 ≡ 0 → a < b + 4 → (a < b) ⊎ (a ≡ b)
    below_or a b h k m = grind arith
