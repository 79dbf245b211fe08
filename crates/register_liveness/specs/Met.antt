-- From the first to the last position where each variable is met.
use Rattle.std.specs.Prelude.{◌≡◌, ◌≢◌, Bool, true, false, ℕ, ◌+◌, ◌<◌, ◌≤◌, min, max, List, Option, Some, None, length, slice_get, slice_index_or}
use Rattle.std.specs.List.{All, Contains}
use Rattle.mid_blocks.specs.declared.code.MidBlock.{MidBlock}
use Rattle.mid_blocks.specs.declared.code.MidFunction.{MidFunction}
use Rattle.mid_blocks.specs.Lines.{Line, line_reads, line_writes, first_of}
use Rattle.mid_blocks.specs.declared.code.MidEnd.TheVariants.{Call}
use Rattle.mid_blocks.specs.Liveness.{LineAt, IsWanted, IsLive}
use Rattle.register_liveness.specs.declared.extents.Extent.{Extent}
use Rattle.register_liveness.specs.Uses.{successors}

-- the positions where a variable is met: lines that read or write it, first positions of blocks where it is wanted, last ones of the
-- blocks that lead to such a block, and position 0 of a parameter
pub data IsMet (f : MidFunction) (v : ℕ) : ℕ → Type 0 where
  by_read : (at : ℕ) (line : Line) → LineAt f at line → Contains (line_reads line) v → IsMet f v at
  by_write : (at : ℕ) (line : Line) → LineAt f at line → line_writes line ≡ Some v → IsMet f v at
  by_first : (b : ℕ) → b < length f.blocks → IsWanted f v (first_of f b) → IsMet f v (first_of f b)
  by_last : (b s : ℕ) (block : MidBlock) → slice_get f.blocks b ≡ Some block → Contains (successors b block.end) s → IsWanted f v (first_of f s) →
      IsMet f v (first_of f b + length block.steps)
  by_call : v < f.params → IsMet f v 0

-- a position lies in an extent
abbrev pub Holds : Option Extent → ℕ → Type 0
Holds None at = ⊥
Holds (Some e) at = (e.from ≤ at) × (at ≤ e.to)

-- the extent that has the position too
abbrev pub widened : Option Extent → ℕ → Option Extent
widened None at = Some (record { from = at; to = at })
widened (Some e) at = Some (record { from = min e.from at; to = max e.to at })

abbrev pub Held : List (Option Extent) → ℕ → ℕ → Type 0
Held extents v at = Holds (slice_index_or extents v None) at

-- the extents of all variables, each from a position where its variable is met to another
pub record AreMet (f : MidFunction) (extents : List (Option Extent)) : Type 0 where
  pub one_each : length extents ≡ f.variables
  pub ends : (v : ℕ) (e : Extent) → slice_index_or extents v None ≡ Some e → IsMet f v e.from × IsMet f v e.to

-- extents that have grown
pub record Widens (f : MidFunction) (before after : List (Option Extent)) : Type 0 where
  pub met : AreMet f after
  pub kept : (v at : ℕ) → Held before v at → Held after v at

-- the extents have a line: each variable that it reads or writes is met there
pub record HasLine (extents : List (Option Extent)) (at : ℕ) (line : Line) : Type 0 where
  pub reads : All (λ v. Held extents v at) (line_reads line)
  pub writes : (v : ℕ) → line_writes line ≡ Some v → Held extents v at

-- they have all lines before a position
abbrev pub HasLines : MidFunction → List (Option Extent) → ℕ → Type 0
HasLines f extents n = (at : ℕ) (line : Line) → at < n → LineAt f at line → HasLine extents at line

-- they have the first position of a block where the variable is wanted, and the last ones of those that lead to it
pub record HasBlock (f : MidFunction) (extents : List (Option Extent)) (v b : ℕ) : Type 0 where
  pub first : Held extents v (first_of f b)
  pub lasts : (p : ℕ) (block : MidBlock) → slice_get f.blocks p ≡ Some block → Contains (successors p block.end) b → Held extents v (first_of f p + length block.steps)

-- a position is the last one of a block
abbrev pub IsLast : MidFunction → ℕ → ℕ → Type 0
IsLast f b at = (block : MidBlock) → slice_get f.blocks b ≡ Some block → at ≡ first_of f b + length block.steps

-- a block ends by a Call behind which the variable is wanted, and which doesn't give it its result
pub record CallBefore (f : MidFunction) (v : ℕ) : Type 0 where
  pub number : ℕ
  pub block : MidBlock
  pub function : ℕ
  pub args : List ℕ
  pub result : Option ℕ
  pub is : slice_get f.blocks number ≡ Some block
  pub ends : block.end ≡ Call function args result
  pub not_its_result : result ≢ Some v
  pub behind : IsWanted f v (first_of f (number + 1))

-- a block ends by a Call that doesn't give the variable its result
pub record CallsPast (block : MidBlock) (v : ℕ) : Type 0 where
  pub function : ℕ
  pub args : List ℕ
  pub result : Option ℕ
  pub ends : block.end ≡ Call function args result
  pub not_its_result : result ≢ Some v

-- what is known of all variables: from where to where each is live, and whether it is live across a Call
pub record AreLives (f : MidFunction) (extents : List (Option Extent)) (marks : List Bool) : Type 0 where
  pub met : AreMet f extents
  pub held : (v at : ℕ) → IsLive f v at → Held extents v at
  pub one_each : length marks ≡ f.variables
  pub across : (v : ℕ) → slice_index_or marks v false ≡ true → CallBefore f v
  pub not_across : (v : ℕ) → v < f.variables → slice_index_or marks v false ≡ false → CallBefore f v → ⊥
