-- What is known of a checked program where it is lowered.
use Rattle.std.proofs.Common.{◌≡◌, ◌≤◌, ℕ, ◌+◌, arith, ap, refl, ◌∙◌, subst, Bool, true, List, [], ◌∷◌, map, sum, length}
use Rattle.std.specs.Prelude.{IsTrue}
use Rattle.c_syntax.specs.declared.tree.Function.{Function}
use Rattle.c_meaning.specs.Meaning.{Names, globals}
use Rattle.c_syntax.specs.Literals.{items_literals}
use Rattle.check_rules.specs.Limits.{Resolved, resolved_names, global_pairs}
use Rattle.check_rules.specs.Resolution.{IsChecked}
use Rattle.mid_blocks.specs.Valid.{IsUsed}
use Rattle.c_syntax.specs.Labels.{bare_clauses}
use Rattle.c_syntax.specs.Graph.{with_bodies}
use Rattle.mid_blocks.specs.Pruned.{pruned, OnlyReached}
use Rattle.lower_rules.specs.Fitting.{Fitting}
use Rattle.lower_rules.specs.Labels.{CasesAreWords}
use Rattle.lower_calls_law.specs.LoweringChainsLaws.{OneEach}
use Rattle.lower_rules.specs.Room.{within}
use Rattle.mid_blocks.specs.declared.code.Mid.{Mid}
use Rattle.c_syntax.specs.declared.tree.TopItem.{TopItem}
use Rattle.lower_rules.specs.Programs.{low_program}
use Rattle.lower_checked.specs.Fits.{CheckedFits}
use Rattle.lower_checked.specs.Laws.{HasMain, HasFewBlocks, HasLightFrames, HasOneEach, HasRoom, Room, counter_pairs}
use Rattle.lower_checked.specs.Counter.{NoneWhereFlat, CounterUnused, LoweredRoom, HasLoweredRoom}
use Rattle.mid_lower.specs.Facts.{global_words, room_of, low_of, Facts}

-- the laws of checked programs
pub record Checks : Type 0 where
  pub fits : CheckedFits
  pub one_each : HasOneEach
  pub light : HasLightFrames
  pub main : HasMain
  pub few_blocks : HasFewBlocks
  pub room : HasRoom
  pub lowered_room : HasLoweredRoom
  pub flat : NoneWhereFlat
  pub unused : CounterUnused

module _ (laws : Checks) (c : Resolved) (checked : IsChecked c) (literals : IsTrue (items_literals c.program.items))
    (cases : (names : Names) → CasesAreWords names c.program.items) (labelled : sum (map bare_clauses (with_bodies c.program.items)) ≡ 0) where
  fitting : Fitting (resolved_names c) c.program.items
  fitting = laws.fits c checked literals

  one : OneEach (resolved_names c) c.program.items
  one = laws.one_each c checked

  room : Room c
  room = laws.room c checked

  lowered : LoweredRoom c
  lowered = laws.lowered_room c checked

  least : (fs : List Function) → within c.program.items c.main true ≡ fs → sum (map length (low_of c).globals) ≤ 32768
  least [] is = omega (arith, lowered.flat is)
  least (f ∷ fs) is = omega (arith, lowered.deep f fs is)

  counter : (fs : List Function) → within c.program.items c.main true ≡ fs → (marks : List (List Bool)) (global : ℕ) → OnlyReached (low_of c) marks →
      IsUsed (pruned marks (low_of c)) global → length (globals c.program.items) ≤ global → global_words c + 1 + room_of c ≤ 32768
  counter [] is marks global reached used far =
      absurd (omega (arith, laws.unused (resolved_names c) c.program (room_of c) marks fitting one (laws.flat (resolved_names c) c.program (room_of c) marks fitting one reached is) global used, far))
  counter (f ∷ fs) is marks global reached used far =
      omega (arith, room.words, subst (λ gs. global_pairs c.program.items + counter_pairs gs + room_of c ≤ 32768) is room.fits)

  pub known : Facts c
  known = record {
    checked = checked;
    fitting = fitting;
    one_each = one;
    light = λ number f is. laws.light c number f checked is;
    cases = cases (resolved_names c);
    labelled = labelled;
    some_body = (laws.main c checked).some_body;
    cost = laws.few_blocks c checked;
    least_room = least (within c.program.items c.main true) refl;
    has_room = omega (arith, room.words, room.fits);
    counter_room = λ marks global reached used far. counter (within c.program.items c.main true) refl marks global reached used far;
  }

-- what the parts make of a program is what it is lowered to
pub low_is : (c : Resolved) (low : Mid) (items : List TopItem) (main chain_pairs : ℕ) →
    low ≡ low_program (record { main = main; in_word = 0; out_word = 1 }) (record { items = items }) chain_pairs →
    items ≡ c.program.items → main ≡ c.main → chain_pairs ≡ room_of c → low ≡ low_of c
low_is c low items main chain_pairs is same_items same_main same_room =
    is ∙ (ap (λ n. low_program (record { main = n; in_word = 0; out_word = 1 }) (record { items = items }) chain_pairs) same_main
    ∙ (ap (λ is. low_program (resolved_names c) (record { items = is }) chain_pairs) same_items
    ∙ ap (λ n. low_program (resolved_names c) c.program n) same_room))
