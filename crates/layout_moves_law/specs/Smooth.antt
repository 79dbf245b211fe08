-- Smooth programs: no edge is critical, that is, none leads from a block with at least two successors to a block with at least two
-- predecessors. In such a program a head tells each wrong way. The notion of a critical edge is that of Knoop, Rüthing and Steffen
-- (Lazy code motion, PLDI 1992).
use Rattle.std.specs.Prelude.{◌≡◌, ◌≢◌, ◌↔◌, ℕ, List, []}
use Rattle.mips_text.specs.Blocks as words
use Rattle.hard_items.specs.declared.code.HardProgram.{HardProgram}
use Rattle.hard_items.specs.declared.code.Signed.{Signed}
use Rattle.hard_items.specs.Heads.{headed}
use Rattle.hard_items.specs.Ways.{MayFollow}
use Rattle.hard_items.specs.WellFormed.{WellFormed}
use Rattle.sign_law.specs.Graph.{IsSucc, HasTwo, Linked}
use Rattle.sign_law.specs.Signs.{IsSmooth}
use Rattle.sign_law.specs.Marks.{HasSigns, successors_of}
use Rattle.alias_lister.specs.Aliases.{IsAlias, AreAliases}
use Rattle.layout_law.specs.Layout.{text}
use Rattle.layout_law.specs.Level.{Laying}

-- An edge from a block with at least two successors to a block with at least two predecessors.
pub record IsCritical (S : ℕ → ℕ → Type 0) (u v : ℕ) : Type 0 where
  pub edge : S u v
  pub joins : HasTwo S v
  pub other : ℕ
  pub differs : other ≢ v
  pub forks : S u other

-- No edge of the program is critical, by its lists of successors.
abbrev pub Smooth : HardProgram → Type 0
Smooth p = (u v : ℕ) → IsCritical (IsSucc (successors_of p)) u v → ⊥

-- The same of the graph of signatures: a block that leads to one with at least two predecessors leads to no other.
abbrev pub SmoothByGraph : Type 0
SmoothByGraph = (p : HardProgram) → Smooth p ↔ IsSmooth (IsSucc (successors_of p))

-- And of a well-formed program by its items: no edge is critical of those along which a block may follow another.
abbrev pub SmoothByWays : Type 0
SmoothByWays = (p : HardProgram) → WellFormed p → Smooth p ↔ ((u v : ℕ) → IsCritical (MayFollow p) u v → ⊥)

-- In a smooth program each group of blocks is one block.
abbrev pub GroupsAreOne : Type 0
GroupsAreOne = (p : HardProgram) → Smooth p → (v w : ℕ) → Linked (IsSucc (successors_of p)) v w → w ≡ v

-- A smooth program with the marks of its graph has no alias, so the list of its aliases is empty.
abbrev pub SmoothHasNoAlias : Type 0
SmoothHasNoAlias = (s : Signed) → HasSigns s → Smooth s.program → (u w : ℕ) → IsAlias s u w → ⊥

abbrev pub SmoothListsNone : Type 0
SmoothListsNone = (s : Signed) (pairs : List (ℕ × ℕ)) → HasSigns s → Smooth s.program → AreAliases s pairs → pairs ≡ []

-- And its words have none.
abbrev pub SmoothWordsHaveNoAlias : Type 0
SmoothWordsHaveNoAlias = (s : Signed) → Laying s → HasSigns s → Smooth s.program → (a b : ℕ) → words.IsAlias (text (headed s)) 0x00400000 a b → ⊥
