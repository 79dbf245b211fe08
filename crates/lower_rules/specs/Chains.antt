-- How many pairs a call and all that can be active above it take, where a recursive function calls itself as often as it may.
use Rattle.std.specs.Prelude.{◌≡◌, ℕ, suc, ◌+◌, ◌≤◌, Bool, true, false, List, Option, Some, None, slice_get}
use Rattle.c_syntax.specs.declared.tree.Function.{Function}
use Rattle.c_syntax.specs.declared.tree.TopItem.{TopItem}
use Rattle.c_syntax.specs.Graph.{is_recursive}
use Rattle.c_meaning.specs.Meaning.{Names}
use Rattle.mid_blocks.specs.declared.code.MidEnd.TheVariants.{Call}
use Rattle.mid_blocks.specs.declared.code.MidFunction.{MidFunction}
use Rattle.mid_blocks.specs.declared.code.Mid.{Mid}
use Rattle.mid_blocks.specs.Lines.{End, line_at}
use Rattle.mid_blocks.specs.Bounds.{pairs_of}
use Rattle.lower_rules.specs.Programs.{in_number_order}

abbrev pub recursive_one : List TopItem → Option Function → Bool
recursive_one items None = false
recursive_one items (Some f) = is_recursive items f.name

-- whether the function of that number is recursive
abbrev pub counts : Names → List TopItem → ℕ → Bool
counts names items number = recursive_one items (slice_get (in_number_order names.main items) number)

-- one more call of a recursive function is active, where this one is
abbrev pub deeper : Bool → ℕ → ℕ
deeper true depth = suc depth
deeper false depth = depth

-- `chain` bounds the pairs of a function with all that it calls, where so many calls of recursive functions are active with it
pub record Chain (mid : Mid) (counts : ℕ → Bool) (chain : ℕ → ℕ → ℕ) : Type 0 where
  pub own : (depth f : ℕ) → pairs_of (slice_get mid.functions f) ≤ chain depth f
  pub calls : (depth f : ℕ) (code : MidFunction) (block step called : ℕ) (args : List ℕ) (result : Option ℕ) → depth ≤ 256 →
      slice_get mid.functions f ≡ Some code →
      line_at code block step ≡ Some (End (Call called args result)) →
      pairs_of (slice_get mid.functions f) + chain (deeper (counts called) depth) called ≤ chain depth f
