-- Critical edges of graphs.
use Rattle.std.proofs.Common.{◌≡◌, ◌≢◌, ◌<◌, ◌≤◌, ℕ, arith, subst, List, [], length, inl, inr}
use Rattle.std.specs.Prelude.{◌⊎◌, Contains}
use Rattle.std.proofs.lemmas.List.{get_or_past}
use Rattle.hard_items.specs.declared.code.HardProgram.{HardProgram}
use Rattle.hard_items.specs.Ways.{MayFollow}
use Rattle.hard_items.specs.WellFormed.{WellFormed}
use Rattle.sign_law.specs.Graph.{IsSucc}
use Rattle.sign_law.specs.Signs.{IsSmooth}
use Rattle.sign_law.specs.Marks.{successors_of}
use Rattle.signature_assign.proofs.Premises.{follows_succ, succ_follows, long_map}
use Rattle.layout_moves_law.specs.Smooth.{IsCritical, SmoothByGraph, SmoothByWays}

same_or : (a b : ℕ) → (a ≡ b) ⊎ (a ≢ b)
same_or a b = grind arith

-- An edge to a block with at least two predecessors is the only one of its block, or critical.
pub smooth_of : (S : ℕ → ℕ → Type 0) → ((u v : ℕ) → IsCritical S u v → ⊥) → IsSmooth S
smooth_of S n u v w e t f = elim (same_or w v) as (λ z. w ≡ v) [
  | inl s ↦ s
  | inr d ↦ absurd (n u v (record { edge = e; joins = t; other = w; differs = d; forks = f }))
]

pub none_critical : (S : ℕ → ℕ → Type 0) → IsSmooth S → (u v : ℕ) → IsCritical S u v → ⊥
none_critical S s u v c = c.differs (s u v c.other c.edge c.joins c.forks)

-- A critical edge of a graph is one of each graph that has its edges.
pub moved : (S T : ℕ → ℕ → Type 0) → ((u v : ℕ) → S u v → T u v) → (u v : ℕ) → IsCritical S u v → IsCritical T u v
moved S T m u v c = record {
  edge = m u v c.edge;
  joins = record { one = c.joins.one; other = c.joins.other; differ = c.joins.differ; by_one = m c.joins.one v c.joins.by_one; by_other = m c.joins.other v c.joins.by_other };
  other = c.other;
  differs = c.differs;
  forks = m u c.other c.forks;
}

-- ---- the two graphs of a program

past_or : (a b : ℕ) → (a < b) ⊎ (b ≤ a)
past_or a b = grind arith

none_in : (w : ℕ) → Contains [] w → ⊥
none_in w c = omega (arith, c.1)

from_there : (p : HardProgram) (u w : ℕ) → IsSucc (successors_of p) u w → u < length p.blocks
from_there p u w s = elim (past_or u (length p.blocks)) as (λ z. u < length p.blocks) [
  | inl h ↦ h
  | inr h ↦ absurd (none_in w (subst (λ (l : List ℕ). Contains l w) (get_or_past (successors_of p) u [] (omega (arith, h, long_map p.blocks))) s))
]

pub succ_way : (p : HardProgram) → WellFormed p → (u w : ℕ) → IsSucc (successors_of p) u w → MayFollow p u w
succ_way p f u w s = succ_follows p u w f (from_there p u w s) s

pub way_succ : (p : HardProgram) → WellFormed p → (u w : ℕ) → MayFollow p u w → IsSucc (successors_of p) u w
way_succ p f u w m = follows_succ p u w f m

-- ---- the laws

pub smooth_by_graph : SmoothByGraph
smooth_by_graph p = ((λ n. smooth_of (IsSucc (successors_of p)) n), (λ s. none_critical (IsSucc (successors_of p)) s))

pub smooth_by_ways : SmoothByWays
smooth_by_ways p f = (
  (λ n u v c. n u v (moved (MayFollow p) (IsSucc (successors_of p)) (way_succ p f) u v c)),
  (λ n u v c. n u v (moved (IsSucc (successors_of p)) (MayFollow p) (succ_way p f) u v c)),
)
