-- Where the globals and the frames of calls stand in memory. Memory consists of cells of eight bytes, each of a master word and
-- the shadow word four bytes above it; the globals have the first cells, and the stack those above.
use Rattle.std.specs.Prelude.{◌≡◌, ◌<◌, ◌≤◌, ℕ, ◌+◌, ◌-◌, ◌*◌, ◌%◌, List, [], ◌∷◌, length, map, sum, take, drop, Some, slice_get, slice_index_or}
use Rattle.mid_blocks.specs.declared.code.MidFunction.{MidFunction}
use Rattle.mid_blocks.specs.declared.code.Mid.{Mid}
use Rattle.mid_blocks.specs.Bounds.{pairs_of}
use Rattle.frame_plan.specs.declared.numbers.Frames.{Frames}

-- The address of a cell.
abbrev pub cell_address : ℕ → ℕ
cell_address c = 0x10010000 + 8 * c

-- The first cell of a global.
abbrev pub global_cell : Mid → ℕ → ℕ
global_cell mid g = sum (map length (take g mid.globals))

abbrev pub global_length : Mid → ℕ → ℕ
global_length mid g = length (slice_index_or mid.globals g [])

-- The cells of all globals, and with them those of the stack.
abbrev pub global_cells : Mid → ℕ
global_cells mid = sum (map length mid.globals)

abbrev pub cells : Mid → ℕ
cells mid = global_cells mid + mid.chain_pairs

-- ---- the numbers of a plan

-- The addresses of some globals, of which the first has its first word in this cell.
abbrev pub addresses : ℕ → List (List ℕ) → List ℕ
addresses c [] = []
addresses c (g ∷ gs) = cell_address c ∷ addresses (c + length g) gs

-- The numbers of a plan: a frame takes eight bytes for each pair of its function, and the stack ends where memory ends.
pub record IsPlan (mid : Mid) (frames : Frames) : Type 0 where
  pub globals : frames.globals ≡ addresses 0 mid.globals
  pub frame_bytes : frames.frame_bytes ≡ map (λ f. 8 * f.pairs) mid.functions
  pub stack_top : frames.stack_top ≡ cell_address (cells mid)
  pub memory_words : frames.memory_words ≡ 2 * cells mid

-- ---- where things stand while calls are active

-- The stack pointer while calls of these functions are active, the newest first: below the frames of all of them.
abbrev pub pointer : Frames → List ℕ → ℕ
pointer frames calls = frames.stack_top - sum (map (λ f. slice_index_or frames.frame_bytes f 0) calls)

-- What has two words of memory: an element of a global, or a place in the frame of the active call that has so many newer ones.
pub data Cell : Type 0 where
  Element : (global index : ℕ) → Cell
  InFrame : (newer place : ℕ) → Cell

-- The element exists; the call is active, and its frame has the place.
abbrev pub IsThere : Mid → List ℕ → Cell → Type 0
IsThere mid calls (Element global index) = index < global_length mid global
IsThere mid calls (InFrame newer place) =
    (n : ℕ) × (f : MidFunction) × (slice_get calls newer ≡ Some n) × (slice_get mid.functions n ≡ Some f) × (place < f.pairs)

-- The address of its master word.
abbrev pub stands_at : Frames → List ℕ → Cell → ℕ
stands_at frames calls (Element global index) = slice_index_or frames.globals global 0 + 8 * index
stands_at frames calls (InFrame newer place) = pointer frames (drop newer calls) + 8 * place

-- The pairs of some calls together.
abbrev pub pairs_together : Mid → List ℕ → ℕ
pairs_together mid calls = sum (map (λ n. pairs_of (slice_get mid.functions n)) calls)

-- While calls are active whose pairs add up to at most the pairs of the chain: what is there stands at an address that is 0 modulo 8,
-- both its words are in memory, and two different things stand at two addresses.
pub record StandApart (mid : Mid) (frames : Frames) (calls : List ℕ) : Type 0 where
  pub aligned : (s : Cell) → IsThere mid calls s → stands_at frames calls s % 8 ≡ 0
  pub in_memory : (s : Cell) → IsThere mid calls s →
      (0x10010000 ≤ stands_at frames calls s) × (stands_at frames calls s + 8 ≤ 0x10010000 + 4 * frames.memory_words)
  pub apart : (s t : Cell) → IsThere mid calls s → IsThere mid calls t → stands_at frames calls s ≡ stands_at frames calls t → s ≡ t

abbrev pub HasRoom : Mid → Frames → Type 0
HasRoom mid frames = (calls : List ℕ) → pairs_together mid calls ≤ mid.chain_pairs → StandApart mid frames calls
