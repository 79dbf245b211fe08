-- What a program in blocks does: the block machine, one line a step.
use Rattle.std.specs.Prelude.{ℕ, zero, suc, ◌+◌, ◌-◌, ◌*◌, ◌/◌, ◌%◌, ◌^◌, Bool, true, false, not, ◌&&◌, if◌then◌else◌, ◌==◌, nat_lt, int_lt, int_div}
use Rattle.std.specs.Prelude.{int_rem, bit_and, bit_or, bit_xor, List, [], ◌∷◌, ◌++◌, map, length, Option, Some, None, Result, Ok, Err, slice_get}
use Rattle.std.specs.Prelude.{slice_index_or, slice_set}
use Rattle.std.specs.Int.{cast_unsigned, w32}
use Rattle.hard_words.specs.Words.{signed, signed_shift}
use Rattle.hard_runs.specs.Observed.{Seen, Observation}
use Rattle.mid_blocks.specs.declared.code.MidOp.{MidOp}
use Rattle.mid_blocks.specs.declared.code.MidOp.TheVariants.{Add, Sub, Mul, Div, DivU, Rem, RemU, Shl, Shr, Sar, And, Or, Xor, Lt, LtU, Eq, Ne}
use Rattle.mid_blocks.specs.declared.code.MidStep.{MidStep}
use Rattle.mid_blocks.specs.declared.code.MidStep.TheVariants.{Constant, Copy, Operate, Guard, Load, Store, Input, Output, Deep}
use Rattle.mid_blocks.specs.declared.code.MidEnd.{MidEnd}
use Rattle.mid_blocks.specs.declared.code.MidEnd.TheVariants.{Jump, Branch, Call, Return}
use Rattle.mid_blocks.specs.declared.code.MidFunction.{MidFunction}
use Rattle.mid_blocks.specs.declared.code.Mid.{Mid}
use Rattle.mid_blocks.specs.declared.code.RunEnd.{RunEnd}
use Rattle.mid_blocks.specs.declared.code.RunEnd.TheVariants.{Exited, Trapped, Starved}
use Rattle.mid_blocks.specs.Lines.{Line, Step, End, line_at}

-- ---- operations

abbrev pub truth : Bool → ℕ
truth holds = if holds then 1 else 0

-- a result, unless the divisor is 0, which is trap 7
abbrev pub by_non_zero : ℕ → ℕ → Result ℕ ℕ
by_non_zero y result = if y == 0 then Err 7 else Ok result

-- and unless it is the quotient -2^31 / -1, which doesn't fit and is trap 6
abbrev pub with_sign : ℕ → ℕ → ℕ → Result ℕ ℕ
with_sign x y result = if y == 0 then Err 7 else (if x == 2 ^ 31 && y == 2 ^ 32 - 1 then Err 6 else Ok result)

-- the result of an operation on two words, or the number of a trap
abbrev pub operate : MidOp → ℕ → ℕ → Result ℕ ℕ
operate Add x y = Ok ((x + y) % 2 ^ 32)
operate Sub x y = Ok ((x + (2 ^ 32 - y)) % 2 ^ 32)
operate Mul x y = Ok ((x * y) % 2 ^ 32)
operate Div x y = with_sign x y (cast_unsigned w32 (int_div (signed x) (signed y)))
operate DivU x y = by_non_zero y (x / y)
operate Rem x y = with_sign x y (cast_unsigned w32 (int_rem (signed x) (signed y)))
operate RemU x y = by_non_zero y (x % y)
operate Shl x y = Ok ((x * 2 ^ (y % 32)) % 2 ^ 32)
operate Shr x y = Ok (x / 2 ^ (y % 32))
operate Sar x y = Ok (signed_shift x y)
operate And x y = Ok (bit_and x y)
operate Or x y = Ok (bit_or x y)
operate Xor x y = Ok (bit_xor x y)
operate Lt x y = Ok (truth (int_lt (signed x) (signed y)))
operate LtU x y = Ok (truth (nat_lt x y))
operate Eq x y = Ok (truth (x == y))
operate Ne x y = Ok (truth (not (x == y)))

-- ---- states

-- the word of each variable that has one: a parameter, or a variable that was written
abbrev pub Variables : Type 0
Variables = ℕ → Option ℕ

-- a call that is active
pub record Active : Type 0 where
  -- the function's number
  pub function : ℕ
  -- the block where it stands, and how many steps of that block are done
  pub block : ℕ
  pub step : ℕ
  pub variables : Variables
  -- the caller's variable that takes what it returns
  pub result : Option ℕ

pub record BlockState : Type 0 where
  -- the newest of the active calls, and the calls that wait for it, the newest first
  pub current : Active
  pub callers : List Active
  -- the words of each global
  pub globals : List (List ℕ)
  -- what is left of the input, and the words put out so far
  pub feed : List ℕ
  pub output : List ℕ
  pub end : Option RunEnd

-- ---- variables and globals

abbrev pub word_or_zero : Option ℕ → ℕ
word_or_zero None = 0
word_or_zero (Some word) = word

-- the word that a variable holds; one without a word counts as 0
abbrev pub word_in : Variables → ℕ → ℕ
word_in variables v = word_or_zero (variables v)

-- the place in a global that an index names
abbrev pub index_in : Variables → Option ℕ → ℕ
index_in variables None = 0
index_in variables (Some v) = word_in variables v

abbrev pub with_word : Variables → ℕ → ℕ → Variables
with_word variables to word = λ v. if v == to then Some word else variables v

abbrev pub with_result : Variables → Option ℕ → ℕ → Variables
with_result variables None word = variables
with_result variables (Some to) word = with_word variables to word

abbrev pub global_in : List (List ℕ) → ℕ → List ℕ
global_in globals global = slice_index_or globals global []

abbrev pub load_from : List (List ℕ) → ℕ → ℕ → ℕ
load_from globals global index = slice_index_or (global_in globals global) index 0

abbrev pub store_to : List (List ℕ) → ℕ → ℕ → ℕ → List (List ℕ)
store_to globals global index word = slice_set globals global (slice_set (global_in globals global) index word)

-- ---- one line

-- the current call with one more step done, and its variables
abbrev pub after_step : Active → Variables → Active
after_step call variables = record call { step = call.step + 1; variables = variables }

-- the current call at the start of a block
abbrev pub at_block : Active → ℕ → Active
at_block call block = record call { block = block; step = 0 }

abbrev pub ends : BlockState → RunEnd → BlockState
ends s end = record s { end = Some end }

-- the step is done and has set a variable
abbrev pub sets : BlockState → ℕ → ℕ → BlockState
sets s to word = record s { current = after_step s.current (with_word s.current.variables to word) }

-- the step is done and has set none
abbrev pub passes : BlockState → BlockState
passes s = record s { current = after_step s.current s.current.variables }

abbrev pub sets_or_traps : BlockState → ℕ → Result ℕ ℕ → BlockState
sets_or_traps s to (Ok word) = sets s to word
sets_or_traps s to (Err trap) = ends s (Trapped trap)

abbrev pub takes_in : BlockState → ℕ → List ℕ → BlockState
takes_in s to [] = ends s Starved
takes_in s to (word ∷ rest) = record (sets s to word) { feed = rest }

abbrev pub do_step : MidStep → BlockState → BlockState
do_step (Constant to word) s = sets s to word
do_step (Copy to from) s = sets s to (word_in s.current.variables from)
do_step (Operate op to left right) s = sets_or_traps s to (operate op (word_in s.current.variables left) (word_in s.current.variables right))
do_step (Guard global index) s = if nat_lt (word_in s.current.variables index) (length (global_in s.globals global)) then passes s else ends s (Trapped 8)
do_step (Load to global index) s = sets s to (load_from s.globals global (index_in s.current.variables index))
do_step (Store global index from) s = record (passes s) { globals = store_to s.globals global (index_in s.current.variables index) (word_in s.current.variables from) }
do_step (Input to) s = takes_in s to s.feed
do_step (Output from) s = record (passes s) { output = s.output ++ word_in s.current.variables from ∷ [] }
do_step (Deep test) s = if word_in s.current.variables test == 0 then ends s (Trapped 9) else passes s

-- the current call goes on at a block
abbrev pub goes_to : BlockState → ℕ → BlockState
goes_to s block = record s { current = at_block s.current block }

-- a call begins at its function's first block, with its arguments as its parameters
abbrev pub entry : ℕ → List ℕ → Option ℕ → Active
entry function words result = record { function = function; block = 0; step = 0; variables = slice_get words; result = result }

-- a word is returned to the caller that waits, or by `main`
abbrev pub returns : BlockState → List Active → ℕ → BlockState
returns s [] word = ends s (Exited word)
returns s (caller ∷ callers) word = record s {
  current = record caller { variables = with_result caller.variables s.current.result word };
  callers = callers;
}

-- whether a word is one on which a branch is taken
abbrev pub is_taken : Bool → ℕ → Bool
is_taken true word = not (word == 0)
is_taken false word = word == 0

abbrev pub do_end : MidEnd → BlockState → BlockState
do_end (Jump to) s = goes_to s to
do_end (Branch test when to) s = goes_to s (if is_taken when (word_in s.current.variables test) then to else s.current.block + 1)
do_end (Call function args result) s = record s {
  current = entry function (map (word_in s.current.variables) args) result;
  callers = at_block s.current (s.current.block + 1) ∷ s.callers;
}
do_end (Return from) s = returns s s.callers (index_in s.current.variables from)

-- where there is no such line, nothing happens; a valid program never comes to this
abbrev pub do_line : Option Line → BlockState → BlockState
do_line None s = s
do_line (Some (Step step)) s = do_step step s
do_line (Some (End end)) s = do_end end s

-- ---- runs

abbrev pub line_in_function : Option MidFunction → Active → Option Line
line_in_function None call = None
line_in_function (Some f) call = line_at f call.block call.step

-- the line that comes next
abbrev pub next_line : Mid → BlockState → Option Line
next_line mid s = line_in_function (slice_get mid.functions s.current.function) s.current

-- one step, where the run hasn't ended
abbrev pub unless_ended : Option RunEnd → BlockState → BlockState → BlockState
unless_ended None s next = next
unless_ended (Some end) s next = s

abbrev pub block_step : Mid → BlockState → BlockState
block_step mid s = unless_ended s.end s (do_line (next_line mid s) s)

-- the state after so many steps
abbrev pub after : Mid → ℕ → BlockState → BlockState
after mid zero s = s
after mid (suc n) s = after mid n (block_step mid s)

-- the start of a run: `main` is called, and no other call is active
abbrev pub first_state : Mid → List ℕ → BlockState
first_state mid input = record { current = entry 0 [] None; callers = []; globals = mid.globals; feed = input; output = []; end = None }

-- the state of a run after so many steps
abbrev pub block_state : Mid → List ℕ → ℕ → BlockState
block_state mid input n = after mid n (first_state mid input)

-- what is seen of a state
abbrev pub seen : BlockState → Seen RunEnd
seen s = record { output = s.output; end = s.end }

-- the run of a program in blocks: what is seen after each number of steps
abbrev pub block_run : Mid → List ℕ → Observation RunEnd
block_run mid input n = seen (block_state mid input n)
