-- When a function and a program in blocks are valid: what can be tested without running them.
use Rattle.std.specs.Prelude.{◌≡◌, ◌⊎◌, ℕ, ◌+◌, ◌<◌, ◌≤◌, Bool, true, false, IsTrue, List, ◌++◌, map, sum, length, count_by, Option, Some, None, slice_get, All, Any}
use Rattle.mid_blocks.specs.declared.code.MidStep.{MidStep}
use Rattle.mid_blocks.specs.declared.code.MidStep.TheVariants.{Constant, Copy, Operate, Guard, Load, Store, Input, Output, Deep}
use Rattle.mid_blocks.specs.declared.code.MidEnd.{MidEnd}
use Rattle.mid_blocks.specs.declared.code.MidEnd.TheVariants.{Jump, Branch, Call, Return}
use Rattle.mid_blocks.specs.declared.code.MidBlock.{MidBlock}
use Rattle.mid_blocks.specs.declared.code.MidFunction.{MidFunction}
use Rattle.mid_blocks.specs.declared.code.Mid.{Mid}
use Rattle.mid_blocks.specs.Lines.{Line, one_or_none, line_reads, line_writes, lines}

-- ---- what is named

-- the variables that a line reads or writes
abbrev pub line_variables : Line → List ℕ
line_variables line = line_reads line ++ one_or_none (line_writes line)

-- the block that a Jump or a Branch names
abbrev pub target : MidEnd → Option ℕ
target (Jump to) = Some to
target (Branch test when to) = Some to
target (Call function args result) = None
target (Return from) = None

-- whether the next block follows: behind a Branch and a Call
abbrev pub falls_on : MidEnd → Bool
falls_on (Jump to) = false
falls_on (Branch test when to) = true
falls_on (Call function args result) = true
falls_on (Return from) = false

abbrev pub is_call : MidEnd → Bool
is_call (Jump to) = false
is_call (Branch test when to) = false
is_call (Call function args result) = true
is_call (Return from) = false

abbrev pub is_return : MidEnd → Bool
is_return (Jump to) = false
is_return (Branch test when to) = false
is_return (Call function args result) = false
is_return (Return from) = true

abbrev pub step_global : MidStep → Option ℕ
step_global (Constant to word) = None
step_global (Copy to from) = None
step_global (Operate op to left right) = None
step_global (Guard global index) = Some global
step_global (Load to global index) = Some global
step_global (Store global index from) = Some global
step_global (Input to) = None
step_global (Output from) = None
step_global (Deep test) = None

-- the end of a block is this one
abbrev pub EndsBy : MidFunction → ℕ → MidEnd → Type 0
EndsBy f block end = (b : MidBlock) × (slice_get f.blocks block ≡ Some b) × (b.end ≡ end)

-- a Jump or a Branch of the function names the block
abbrev pub IsTarget : MidFunction → ℕ → Type 0
IsTarget f to = Any (λ b. target b.end ≡ Some to) f.blocks

-- the block stands behind one whose end passes the test
abbrev pub IsBehind : (MidEnd → Bool) → MidFunction → ℕ → Type 0
IsBehind test f block = (before : ℕ) × (end : MidEnd) × EndsBy f before end × IsTrue (test end) × (block ≡ before + 1)

-- ---- one function

pub record ValidFunction (f : MidFunction) : Type 0 where
  -- there is a block
  pub has_block : 0 < length f.blocks
  -- each variable that is named exists
  pub variables_exist : All (λ line. All (λ v. v < f.variables) (line_variables line)) (lines f)
  -- each block that is named exists
  pub blocks_exist : (block : ℕ) → IsTarget f block → block < length f.blocks
  -- no Jump or Branch names the first block, or the next block of a Call
  pub not_the_first : IsTarget f 0 → ⊥
  pub not_behind_call : (block : ℕ) → IsBehind is_call f block → IsTarget f block → ⊥
  -- a Branch or a Call has a next block
  pub has_next : (block : ℕ) → IsBehind falls_on f block → block < length f.blocks
  -- each block but the first is named, or is the next block of a Branch or a Call
  pub each_entered : (block : ℕ) → 0 < block → block < length f.blocks → IsTarget f block ⊎ IsBehind falls_on f block
  pub params_fit : f.params ≤ f.variables
  pub variables_fit : f.variables < f.pairs
  pub pairs_fit : f.pairs ≤ 4002
  -- at most one block ends by a Return
  pub one_return : count_by (λ b. is_return b.end) f.blocks ≤ 1
  pub few_lines : length (lines f) ≤ 62914560

-- ---- whole programs

-- a Call of the program names the function, with these arguments
abbrev pub IsCalled : Mid → ℕ → List ℕ → Type 0
IsCalled mid function args = Any (λ f. Any (λ b. (result : Option ℕ) × (b.end ≡ Call function args result)) f.blocks) mid.functions

-- a step of the program names the global
abbrev pub IsUsed : Mid → ℕ → Type 0
IsUsed mid global = Any (λ f. Any (λ b. Any (λ step. step_global step ≡ Some global) b.steps) f.blocks) mid.functions

pub record Valid (mid : Mid) : Type 0 where
  pub functions_valid : All ValidFunction mid.functions
  -- there is a function, and function 0 has no parameters
  pub main_fits : (main : MidFunction) × (slice_get mid.functions 0 ≡ Some main) × (main.params ≡ 0)
  -- each global that is named exists
  pub globals_exist : (global : ℕ) → IsUsed mid global → global < length mid.globals
  -- each function that is called exists, and is called with as many arguments as it has parameters
  pub calls_fit : (function : ℕ) (args : List ℕ) → IsCalled mid function args → (f : MidFunction) × (slice_get mid.functions function ≡ Some f) × (length args ≡ f.params)
  -- each function but function 0 is called
  pub each_called : (function : ℕ) → 0 < function → function < length mid.functions → (args : List ℕ) × IsCalled mid function args
  -- the memory has room
  pub store_fits : sum (map length mid.globals) + mid.chain_pairs ≤ 32768
  pub few_lines : sum (map (λ f. length (lines f)) mid.functions) ≤ 62914560
