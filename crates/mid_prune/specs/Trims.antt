-- A program in blocks without its last globals.
use Rattle.std.specs.Prelude.{◌≡◌, ◌<◌, ◌≤◌, ℕ, Bool, false, nat_le, List, Option, Some, None}
use Rattle.std.specs.List.{list_any}
use Rattle.mid_blocks.specs.declared.code.MidStep.{MidStep}
use Rattle.mid_blocks.specs.declared.code.MidBlock.{MidBlock}
use Rattle.mid_blocks.specs.declared.code.MidFunction.{MidFunction}
use Rattle.mid_blocks.specs.declared.code.Mid.{Mid}
use Rattle.mid_blocks.specs.Valid.{step_global, IsUsed}
use Rattle.mid_prune.specs.Trimmed.{trimmed}

-- the program keeps its first globals alone exactly where no step uses another
pub data Trims (mid : Mid) (bound : ℕ) (result : Mid) : Type 0 where
  cut : ((global : ℕ) → IsUsed mid global → global < bound) → result ≡ trimmed bound mid → Trims mid bound result
  whole : (global : ℕ) → IsUsed mid global → bound ≤ global → result ≡ mid → Trims mid bound result

-- ---- the test as it is made; this serves private contracts alone

abbrev pub is_beyond : ℕ → Option ℕ → Bool
is_beyond bound None = false
is_beyond bound (Some global) = nat_le bound global

abbrev pub steps_pass : ℕ → List MidStep → Bool
steps_pass bound steps = list_any (λ step. is_beyond bound (step_global step)) steps

abbrev pub blocks_pass : ℕ → List MidBlock → Bool
blocks_pass bound blocks = list_any (λ b. steps_pass bound b.steps) blocks

abbrev pub functions_pass : ℕ → List MidFunction → Bool
functions_pass bound functions = list_any (λ f. blocks_pass bound f.blocks) functions
