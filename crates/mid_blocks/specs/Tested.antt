-- The tests of functions and programs as they are made; these definitions serve private contracts alone.
use Rattle.std.specs.Prelude.{◌≡◌, ℕ, zero, suc, ◌+◌, ◌-◌, ◌<◌, Bool, true, false, not, ◌||◌, ◌&&◌, ◌==◌, nat_lt, nat_le, if◌then◌else◌, List, map}
use Rattle.std.specs.Prelude.{sum, length, count_by, Option, Some, None, is_some, slice_get, slice_index_or}
use Rattle.std.specs.List.{list_all, list_any}
use Rattle.mid_blocks.specs.declared.code.MidStep.{MidStep}
use Rattle.mid_blocks.specs.declared.code.MidEnd.{MidEnd}
use Rattle.mid_blocks.specs.declared.code.MidEnd.TheVariants.{Jump, Branch, Call, Return}
use Rattle.mid_blocks.specs.declared.code.MidBlock.{MidBlock}
use Rattle.mid_blocks.specs.declared.code.MidFunction.{MidFunction}
use Rattle.mid_blocks.specs.declared.code.Mid.{Mid}
use Rattle.mid_blocks.specs.Lines.{Line, block_lines, lines}
use Rattle.mid_blocks.specs.Valid.{line_variables, target, falls_on, is_return, step_global}

abbrev pub is_below : ℕ → Option ℕ → Bool
is_below n None = true
is_below n (Some x) = nat_lt x n

-- the variables that a line names are below a number
abbrev pub line_fits : ℕ → Line → Bool
line_fits n line = list_all (λ v. nat_lt v n) (line_variables line)

-- ---- what the ends of blocks name

abbrev pub is_it : Option ℕ → ℕ → Bool
is_it None x = false
is_it (Some y) x = y == x

-- some Jump or Branch of these blocks names the block
abbrev pub names : List MidBlock → ℕ → Bool
names blocks x = list_any (λ b. is_it (target b.end) x) blocks

abbrev pub callee : MidEnd → Option ℕ
callee (Jump to) = None
callee (Branch test when to) = None
callee (Call function args result) = Some function
callee (Return from) = None

-- some Call of these blocks, or of these functions, names the function
abbrev pub calls : List MidBlock → ℕ → Bool
calls blocks x = list_any (λ b. is_it (callee b.end) x) blocks

abbrev pub is_called : List MidFunction → ℕ → Bool
is_called functions x = list_any (λ f. calls f.blocks x) functions

-- the marks of the numbers from one on are raised where a test holds, and else stay
abbrev pub AreRaised : (ℕ → Bool) → ℕ → List Bool → List Bool → Type 0
AreRaised test low before after = (k : ℕ) → k < length before → slice_index_or after k false ≡ (slice_index_or before k false || test (low + k))

-- the marks of the numbers from one on are what a test says
abbrev pub AreMarks : (ℕ → Bool) → ℕ → List Bool → Type 0
AreMarks test low marks = (k : ℕ) → k < length marks → slice_index_or marks k false ≡ test (low + k)

-- a test holds of each number below an end, from one on up to so many
abbrev pub HoldsWithin : (ℕ → Bool) → ℕ → ℕ → ℕ → Type 0
HoldsWithin test low count end = (k : ℕ) → k < count → low + k < end → test (low + k) ≡ true

abbrev pub HoldsBelow : (ℕ → Bool) → ℕ → Type 0
HoldsBelow test end = (k : ℕ) → k < end → test k ≡ true

-- ---- how blocks are entered

-- whether a block may follow one that ends so: behind a Jump or a Return it must be named, behind a Call it must not
abbrev pub follows : MidEnd → Bool → Bool
follows (Jump to) named = named
follows (Branch test when to) named = true
follows (Call function args result) named = not named
follows (Return from) named = named

abbrev pub enters : Option MidBlock → Bool → Bool
enters None named = not named
enters (Some before) named = follows before.end named

abbrev pub block_before : List MidBlock → ℕ → Option MidBlock
block_before blocks zero = None
block_before blocks (suc n) = slice_get blocks n

-- whether a block is entered as it must be
abbrev pub is_entered : List MidBlock → ℕ → Bool
is_entered blocks x = enters (block_before blocks x) (names blocks x)

-- the last block is there and needs no next one
abbrev pub closes : Option MidBlock → Bool
closes None = false
closes (Some last) = not (falls_on last.end)

-- ---- whole functions and programs

-- a number of lines, where they are few enough
abbrev pub few : ℕ → Option ℕ
few n = if nat_lt 62914560 n then None else Some n

abbrev pub numbers_fit : MidFunction → Bool
numbers_fit f = nat_le f.params f.variables && (nat_lt f.variables f.pairs && nat_le f.pairs 4002)

-- the variables and blocks that are named exist
abbrev pub variables_exist : ℕ → List MidBlock → Bool
variables_exist n blocks = list_all (λ b. list_all (λ line. line_fits n line) (block_lines b)) blocks

abbrev pub targets_exist : List MidBlock → Bool
targets_exist blocks = list_all (λ b. is_below (length blocks) (target b.end)) blocks

-- the tests of a function that look at one block at a time
abbrev pub shape_fits : MidFunction → Bool
shape_fits f = numbers_fit f && (variables_exist f.variables f.blocks &&
    (targets_exist f.blocks && (closes (slice_get f.blocks (length f.blocks - 1)) && (nat_le (count_by (λ b. is_return b.end) f.blocks) 1 &&
    is_some (few (length (lines f)))))))

abbrev pub is_main : Option MidFunction → Bool
is_main None = false
is_main (Some f) = f.params == 0

abbrev pub takes : Option MidFunction → ℕ → Bool
takes None count = false
takes (Some f) count = f.params == count

abbrev pub call_fits : List MidFunction → MidEnd → Bool
call_fits functions (Jump to) = true
call_fits functions (Branch test when to) = true
call_fits functions (Call function args result) = takes (slice_get functions function) (length args)
call_fits functions (Return from) = true

abbrev pub steps_use : ℕ → List MidStep → Bool
steps_use globals steps = list_all (λ step. is_below globals (step_global step)) steps

-- function 0 may stay uncalled
abbrev pub may_stay : List MidFunction → ℕ → Bool
may_stay functions x = x == 0 || is_called functions x

abbrev pub blocks_use : ℕ → List MidBlock → Bool
blocks_use globals blocks = list_all (λ b. steps_use globals b.steps) blocks

abbrev pub globals_exist : ℕ → List MidFunction → Bool
globals_exist globals functions = list_all (λ f. blocks_use globals f.blocks) functions

abbrev pub blocks_call : List MidFunction → List MidBlock → Bool
blocks_call functions blocks = list_all (λ b. call_fits functions b.end) blocks

abbrev pub calls_fit : List MidFunction → Bool
calls_fit functions = list_all (λ f. blocks_call functions f.blocks) functions

-- the tests of a program but those of each function and of who is called
abbrev pub names_fit : Mid → Bool
names_fit mid = is_main (slice_get mid.functions 0) && (globals_exist (length mid.globals) mid.functions && (calls_fit mid.functions
    && (nat_le (sum (map length mid.globals) + mid.chain_pairs) 32768 && nat_le (sum (map (λ f. length (lines f)) mid.functions)) 62914560)))
