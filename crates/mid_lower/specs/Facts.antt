-- For private contracts alone: what is known of a checked program where it is lowered.
use Rattle.std.specs.Prelude.{◌≡◌, ℕ, ◌+◌, ◌≤◌, Bool, List, map, sum, length, Some, slice_get}
use Rattle.c_syntax.specs.declared.tree.Function.{Function}
use Rattle.c_syntax.specs.Costs.{function_weight, program_cost}
use Rattle.c_meaning.specs.Meaning.{globals}
use Rattle.check_rules.specs.Limits.{Resolved, resolved_names}
use Rattle.check_rules.specs.Resolution.{IsChecked}
use Rattle.mid_blocks.specs.declared.code.Mid.{Mid}
use Rattle.mid_blocks.specs.Valid.{IsUsed}
use Rattle.c_syntax.specs.Labels.{bare_clauses}
use Rattle.c_syntax.specs.Graph.{with_bodies}
use Rattle.lower_rules.specs.Programs.{object_words, in_number_order, low_program}
use Rattle.mid_blocks.specs.Pruned.{pruned, Closed, OnlyReached}
use Rattle.lower_rules.specs.Fitting.{Fitting}
use Rattle.lower_rules.specs.Labels.{CasesAreWords}
use Rattle.lower_calls_law.specs.LoweringChainsLaws.{OneEach}
use Rattle.lower_rules.specs.Room.{room}
use Rattle.lower_rules.specs.Lowered.{IsLowered}
use Rattle.mid_prune.specs.Trims.{Trims}

-- the words of the variables at file scope
abbrev pub global_words : Resolved → ℕ
global_words c = sum (map length (map (λ g. object_words g.object) (globals c.program.items)))

-- the pairs that the calls of `main` take at most
abbrev pub room_of : Resolved → ℕ
room_of c = room c.program.items c.main

-- what it is lowered to before anything is left out
abbrev pub low_of : Resolved → Mid
low_of c = low_program (resolved_names c) c.program (room_of c)

pub record Facts (c : Resolved) : Type 0 where
  pub checked : IsChecked c
  pub fitting : Fitting (resolved_names c) c.program.items
  pub one_each : OneEach (resolved_names c) c.program.items
  pub light : (number : ℕ) (f : Function) → slice_get (in_number_order c.main c.program.items) number ≡ Some f → function_weight f ≤ 4000
  pub cases : CasesAreWords (resolved_names c) c.program.items
  pub labelled : sum (map bare_clauses (with_bodies c.program.items)) ≡ 0
  pub some_body : 1 ≤ length (with_bodies c.program.items)
  pub cost : program_cost c.program ≤ 16000
  -- its globals have room, the counter of nested calls among them;
  pub least_room : sum (map length (low_of c).globals) ≤ 32768
  -- the variables at file scope and the calls of `main` have;
  pub has_room : global_words c + room_of c ≤ 32768
  -- where a step that is reached uses the global behind the variables at file scope, there is room for it too
  pub counter_room : (marks : List (List Bool)) (global : ℕ) → OnlyReached (low_of c) marks → IsUsed (pruned marks (low_of c)) global →
      length (globals c.program.items) ≤ global → global_words c + 1 + room_of c ≤ 32768

-- then what is left of it, without a global that nothing uses, is what the passes below ask for
abbrev pub Composes : Type 0
Composes = (c : Resolved) → Facts c → (marks : List (List Bool)) → Closed (low_of c) marks → OnlyReached (low_of c) marks → (mid : Mid) →
    Trims (pruned marks (low_of c)) (length (globals c.program.items)) mid → IsLowered c mid
