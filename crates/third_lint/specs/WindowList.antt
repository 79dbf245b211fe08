-- The list of the windows of a text of three streams, ascending by address and then by register; and how many there may be.
use Rattle.std.specs.Prelude.{◌≡◌, ◌≤◌, ◌<◌, ℕ, ◌*◌, List, length, get_or, ◌⊎◌}
use Rattle.mips_text.specs.Text.{InText}
use Rattle.third_lint.specs.Votes.{NearThird}

-- A pair comes before another: by its address, and then by its register.
abbrev pub Before : ℕ × ℕ → ℕ × ℕ → Type 0
Before p q = (p.0 < q.0) ⊎ ((p.0 ≡ q.0) × (p.1 < q.1))

abbrev pub pair_at : List (ℕ × ℕ) → ℕ → ℕ × ℕ
pair_at ws k = get_or ws k (0, 0)

-- The pairs are exactly the windows of the text, ascending and each once.
pub record AreWindows (text : List ℕ) (ws : List (ℕ × ℕ)) : Type 0 where
  pub sound : (k : ℕ) → k < length ws → NearThird text (pair_at ws k).0 (pair_at ws k).1
  pub complete : (a r : ℕ) → NearThird text a r → (k : ℕ) × ((k < length ws) × (pair_at ws k ≡ (a, r)))
  pub ascending : (j k : ℕ) → j < k → k < length ws → Before (pair_at ws j) (pair_at ws k)

-- On the way there: the pairs are the windows of the text that come before a pair, ascending and each once.
pub record WindowsBefore (text : List ℕ) (end : ℕ × ℕ) (ws : List (ℕ × ℕ)) : Type 0 where
  pub sound : (k : ℕ) → k < length ws → NearThird text (pair_at ws k).0 (pair_at ws k).1 × Before (pair_at ws k) end
  pub complete : (a r : ℕ) → NearThird text a r → Before (a, r) end → (k : ℕ) × ((k < length ws) × (pair_at ws k ≡ (a, r)))
  pub ascending : (j k : ℕ) → j < k → k < length ws → Before (pair_at ws j) (pair_at ws k)

-- A window is at a word of the text, and of one of the registers 1 to 31.
abbrev pub WindowsInside : Type 0
WindowsInside = (text : List ℕ) (a r : ℕ) → NearThird text a r → InText text a × ((1 ≤ r) × (r ≤ 31))

-- Of any text: the windows at an address are of four registers at most.
abbrev pub FourRegisters : Type 0
FourRegisters = (text : List ℕ) (a : ℕ) →
    (x : ℕ) × ((y : ℕ) × ((z : ℕ) × ((r : ℕ) → NearThird text a r → (r ≡ 2) ⊎ ((r ≡ x) ⊎ ((r ≡ y) ⊎ (r ≡ z))))))

-- Of any text: there are at most four windows a word.
abbrev pub FewWindows : Type 0
FewWindows = (text : List ℕ) (ws : List (ℕ × ℕ)) → AreWindows text ws → length ws ≤ 4 * length text
