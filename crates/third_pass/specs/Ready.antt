-- What emitting a program asks of its parts. These definitions serve private contracts alone.
use Rattle.std.specs.Prelude.{◌≡◌, ◌≤◌, ◌<◌, ℕ, ◌+◌, ◌-◌, ◌*◌, ◌^◌, List, map, [], length, All, Some, None, slice_get, slice_index, slice_index_or}
use Rattle.mid_blocks.specs.declared.code.MidEnd.TheVariants.{Return}
use Rattle.mid_blocks.specs.declared.code.MidBlock.{MidBlock}
use Rattle.mid_blocks.specs.declared.code.MidFunction.{MidFunction}
use Rattle.mid_blocks.specs.declared.code.Mid.{Mid}
use Rattle.mid_blocks.specs.declared.places.Places.{Places}
use Rattle.third_law.specs.Program.{first_block}
use Rattle.third_pass.specs.Emits.{AreSmall, IsNamed, EndFits, CallsBelow}

-- The first block of each function.
pub record AreFirsts (mid : Mid) (firsts : List ℕ) : Type 0 where
  pub long : length firsts ≡ length mid.functions
  pub first : (n : ℕ) → n < length mid.functions → slice_index firsts n ≡ first_block mid n

-- Addresses with their distances from the start of memory doubled.
abbrev pub spread : List ℕ → List ℕ
spread xs = map (λ a. 0x10010000 + 2 * (a - 0x10010000)) xs

-- What a block asks, whose function begins at this one.
pub record BlockReady (count first : ℕ) (addresses : List ℕ) (k : MidBlock) : Type 0 where
  pub steps : All (λ step. IsNamed addresses step) k.steps
  pub end : EndFits first k.end
  pub calls : CallsBelow count k.end

-- What a function asks, among so many, which begins at this block.
pub record FunctionReady (count first : ℕ) (addresses : List ℕ) (f : MidFunction) (at : Places) : Type 0 where
  pub small : AreSmall at
  pub params : f.params < f.pairs
  pub pairs : f.pairs ≤ 2002
  pub few : first + length f.blocks < 2 ^ 32 - 1
  pub blocks : All (BlockReady count first addresses) f.blocks

-- Each function has its places and is ready.
abbrev pub AllReady : Mid → List ℕ → List Places → Type 0
AllReady mid addresses places = (n : ℕ) (f : MidFunction) → slice_get mid.functions n ≡ Some f →
    (at : Places) × (slice_get places n ≡ Some at) × FunctionReady (length mid.functions) (first_block mid n) addresses f at

-- The block of a number in its function.
abbrev pub block_at : MidFunction → ℕ → MidBlock
block_at f b = slice_index_or f.blocks b (record { steps = []; end = Return None })
