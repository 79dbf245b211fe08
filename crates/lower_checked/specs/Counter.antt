-- The global in which the nested calls are counted: it stands last, and where no function that is left reaches itself no step uses it.
use Rattle.std.specs.Prelude.{◌≡◌, ℕ, ◌+◌, ◌<◌, ◌≤◌, Bool, true, false, List, [], ◌∷◌, map, sum, length, Some, slice_get}
use Rattle.c_syntax.specs.declared.tree.Function.{Function}
use Rattle.c_syntax.specs.declared.tree.Program.{Program}
use Rattle.c_syntax.specs.Graph.{is_recursive}
use Rattle.c_meaning.specs.Meaning.{Names, globals}
use Rattle.mid_blocks.specs.Valid.{Valid, IsUsed}
use Rattle.check_rules.specs.Limits.{Resolved, resolved_names}
use Rattle.check_rules.specs.Resolution.{IsChecked}
use Rattle.lower_rules.specs.Programs.{in_number_order, object_words, low_program}
use Rattle.mid_blocks.specs.Pruned.{is_marked_block, pruned, OnlyReached}
use Rattle.lower_rules.specs.Fitting.{Fitting}
use Rattle.lower_rules.specs.Room.{within, room}
use Rattle.lower_calls_law.specs.LoweringChainsLaws.{OneEach}
use Rattle.mid_prune.specs.Trimmed.{trimmed}

-- no function that is left reaches itself
abbrev pub NoneRecursive : Names → Program → List (List Bool) → Type 0
NoneRecursive names program marks = (number : ℕ) (f : Function) → slice_get (in_number_order names.main program.items) number ≡ Some f →
    is_marked_block marks number 0 ≡ true → is_recursive program.items f.name ≡ false

-- so it is where `main` reaches none that does, and only what is reached is left
abbrev pub NoneWhereFlat : Type 0
NoneWhereFlat = (names : Names) (program : Program) (chain_pairs : ℕ) (marks : List (List Bool)) → Fitting names program.items → OneEach names program.items →
    OnlyReached (low_program names program chain_pairs) marks → within program.items names.main true ≡ [] → NoneRecursive names program marks

-- then no step uses a global behind the variables at file scope
abbrev pub CounterUnused : Type 0
CounterUnused = (names : Names) (program : Program) (chain_pairs : ℕ) (marks : List (List Bool)) → Fitting names program.items → OneEach names program.items →
    NoneRecursive names program marks → (global : ℕ) → IsUsed (pruned marks (low_program names program chain_pairs)) global →
    global < length (globals program.items)

-- and without it the program is valid with more room for its calls, where that is there
abbrev pub TrimmedIsValid : Type 0
TrimmedIsValid = (names : Names) (program : Program) (smaller chain_pairs : ℕ) (marks : List (List Bool)) → Fitting names program.items →
    OneEach names program.items →
    NoneRecursive names program marks → Valid (pruned marks (low_program names program smaller)) →
    sum (map length (map (λ g. object_words g.object) (globals program.items))) + chain_pairs ≤ 32768 →
    Valid (trimmed (length (globals program.items)) (pruned marks (low_program names program chain_pairs)))

-- the room of what a checked program is lowered to
pub record LoweredRoom (c : Resolved) : Type 0 where
  -- where `main` reaches a function that reaches itself, with the counter
  pub deep : (f : Function) (fs : List Function) → within c.program.items c.main true ≡ f ∷ fs →
      sum (map length (low_program (resolved_names c) c.program (room c.program.items c.main)).globals) + room c.program.items c.main ≤ 32768
  -- where it doesn't, with the counter and no room for calls
  pub flat : within c.program.items c.main true ≡ [] → sum (map length (low_program (resolved_names c) c.program 0).globals) + 0 ≤ 32768
  -- and with that room and without the counter
  pub trimmed : within c.program.items c.main true ≡ [] →
      sum (map length (map (λ g. object_words g.object) (globals c.program.items))) + room c.program.items c.main ≤ 32768

abbrev pub HasLoweredRoom : Type 0
HasLoweredRoom = (c : Resolved) → IsChecked c → LoweredRoom c
