-- The aliases of a signed program, by the numbers of its blocks: the pairs between which a head cannot tell a wrong way. The notion is the
-- project's own, after the article on CFCSS (IEEE Transactions on Reliability 51(1), 2002).
use Rattle.std.specs.Prelude.{◌≡◌, ◌<◌, ◌⊎◌, ◌↔◌, ℕ, List, length, map, get_or}
use Rattle.std.specs.List.{Contains}
use Rattle.mips_text.specs.Blocks.{Head, carried}
use Rattle.hard_items.specs.declared.code.Signed.{Signed}
use Rattle.sign_law.specs.Graph.{IsSucc, Linked}
use Rattle.sign_law.specs.Signs.{head_at}
use Rattle.sign_law.specs.Marks.{successors_of, head_of}

-- The head of a block.
abbrev pub head_by : Signed → ℕ → Head
head_by s u = head_at (map head_of s.marks) u

-- An alias: w is no successor of u, and the head of w finds its own signature behind u all the same.
pub record IsAlias (s : Signed) (u w : ℕ) : Type 0 where
  pub from : u < length s.program.blocks
  pub to : w < length s.program.blocks
  pub no_successor : IsSucc (successors_of s.program) u w → ⊥
  pub equal : carried (head_by s u) (head_by s w) ≡ (head_by s w).s

-- A pair comes before another: by its first block, and then by its second.
abbrev pub Before : ℕ × ℕ → ℕ × ℕ → Type 0
Before p q = (p.0 < q.0) ⊎ ((p.0 ≡ q.0) × (p.1 < q.1))

abbrev pub pair_at : List (ℕ × ℕ) → ℕ → ℕ × ℕ
pair_at pairs k = get_or pairs k (0, 0)

-- The pairs are exactly the aliases, ascending and each once.
pub record AreAliases (s : Signed) (pairs : List (ℕ × ℕ)) : Type 0 where
  pub exact : (u w : ℕ) → Contains pairs (u, w) ↔ IsAlias s u w
  pub ascending : (j k : ℕ) → j < k → k < length pairs → Before (pair_at pairs j) (pair_at pairs k)

-- Of each pair the second block is linked to a successor of the first.
abbrev pub AreLinked : Signed → List (ℕ × ℕ) → Type 0
AreLinked s pairs = (u w : ℕ) → Contains pairs (u, w) → (v : ℕ) × (IsSucc (successors_of s.program) u v × Linked (IsSucc (successors_of s.program)) v w)
