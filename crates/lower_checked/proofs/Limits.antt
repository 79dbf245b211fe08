-- What holds where no limit is passed.
use Rattle.std.proofs.Common.{◌≡◌, ℕ, ◌≤◌, Bool, true, false, not, ◌&&◌, List, find, filter, length, Option, Some, None, Ok, refl, ◌==◌, nat_lt, inl, inr}
use Rattle.std.specs.Prelude.{slice_get}
use Rattle.std.proofs.lemmas.Bool.{false≢true, eqb-true, ltb-false}
use Rattle.c_syntax.specs.declared.tree.Ty.TheVariants.{Int}
use Rattle.c_syntax.specs.declared.tree.Function.{Function}
use Rattle.c_syntax.specs.declared.tree.TopItem.{TopItem}
use Rattle.c_syntax.specs.declared.tree.Program.{Program}
use Rattle.c_syntax.specs.Costs.{function_weight, program_cost}
use Rattle.c_syntax.specs.Graph.{functions, function_named, has_body}
use Rattle.c_meaning.specs.Meaning.{Names}
use Rattle.check_rules.specs.declared.error.CheckKind.{CheckKind}
use Rattle.check_rules.specs.declared.error.CheckKind.TheVariants.{NoBody, NoMain, FrameTooLarge, TooManyBlocks, StoreTooLarge}
use Rattle.check_rules.specs.Fault.{require, refuse}
use Rattle.check_rules.specs.Scopes.{Walking}
use Rattle.check_rules.specs.Walk.{same_type, walk_program}
use Rattle.check_rules.specs.Limits.{Resolved, bodies, first_without_body, is_main, store, most_weight, most_cost, most_store, first_too_heavy, within_limits, checked, resolved_names}
use Rattle.check_rules.specs.Resolution.{IsChecked}
use Rattle.check_law.proofs.Yields.{Yields, yields_ok, yields_then, yields_after, required}
use Rattle.c_syntax.specs.Graph.{with_bodies}
use Rattle.lower_rules.specs.Programs.{in_number_order}
use Rattle.lower_checked.specs.Laws.{HasMain, HasFewBlocks, HasLightFrames}
use Rattle.lower_checked.proofs.Among.{Among, among_at, among_either, among_filter, none_found, found_kept}

refused : (o : Option ℕ) (kind : CheckKind) → refuse o kind ≡ Ok tt → o ≡ None
refused None kind is = refl
refused (Some at) kind is = absurd cc

not_true : (a : Bool) → not a ≡ true → a ≡ false
not_true true is = absurd cc
not_true false is = refl

pub record Within (names : Names) (program : Program) : Type 0 where
  pub main : is_main (function_named names.main program.items) ≡ true
  pub weights : first_too_heavy program.items ≡ None
  pub cost : nat_lt most_cost (program_cost program) ≡ false
  pub store : nat_lt most_store (store names program) ≡ false

within : (names : Names) (program : Program) → Yields (within_limits names program) (λ u. Within names program)
within names program =
    yields_after {m = refuse (first_without_body names program.items) NoBody} (λ a.
    yields_after {m = require (is_main (function_named names.main program.items)) NoMain 0} (λ b.
    yields_after {m = refuse (first_too_heavy program.items) FrameTooLarge} (λ c.
    yields_after {m = require (not (nat_lt most_cost (program_cost program))) TooManyBlocks 0} (λ d.
    record {
      if_ok = λ u e. record {
        main = required (is_main (function_named names.main program.items)) NoMain 0 b;
        weights = refused (first_too_heavy program.items) FrameTooLarge c;
        cost = not_true (nat_lt most_cost (program_cost program)) (required (not (nat_lt most_cost (program_cost program))) TooManyBlocks 0 d);
        store = not_true (nat_lt most_store (store names program)) (required (not (nat_lt most_store (store names program))) StoreTooLarge 0 e);
      };
    }))))

-- the walk of a checked program comes to its end, and no limit is passed
pub record Passed (names : Names) (program : Program) : Type 0 where
  pub walked : List TopItem × Walking
  pub walk : walk_program names program ≡ Ok walked
  pub within : Within names program

passes : (names : Names) (program : Program) → Yields (checked names program) (λ c. Passed names program)
passes names program =
    yields_then {m = walk_program names program} {P = λ r. walk_program names program ≡ Ok r} (record { if_ok = λ r is. is }) (λ r is.
    yields_after {m = within_limits names program} (λ ok. yields_ok _ (record { walked = r; walk = is; within = (within names program).if_ok tt ok })))

pub passed : (c : Resolved) → IsChecked c → Passed (resolved_names c) c.program
passed c h = (passes (resolved_names c) c.program).if_ok c h.unchanged

-- ---- the laws

main_test : (o : Option Function) → is_main o ≡ true → (f : Function) × (o ≡ Some f) × (length f.params ≡ 0)
main_test None h = absurd (false≢true h)
main_test (Some f) h = (f, refl, eqb-true (length f.params) 0 (right (same_type f.ty Int) (length f.params == 0) h))
  where
    right : (a b : Bool) → (a && b) ≡ true → b ≡ true
    right true b e = e
    right false b e = absurd (false≢true e)

second : (a b : Bool) → (a && b) ≡ true → b ≡ true
second true b e = e
second false b e = absurd (false≢true e)

pub has_main : HasMain
has_main c h =
    let m = main_test (function_named c.main c.program.items) (passed c h).within.main in
    record {
      some_body = found_kept (λ f. f.name == c.main && has_body f.body) (λ f. has_body f.body) (functions c.program.items) m.0 (λ f t. second (f.name == c.main) (has_body f.body) t) m.1;
      main = m.0;
      main_is = m.1;
      no_params = m.2;
    }

not_less : (a b : ℕ) → nat_lt a b ≡ false → b ≤ a
not_less a b h = ltb-false a b h

pub has_few_blocks : HasFewBlocks
has_few_blocks c h = not_less most_cost (program_cost c.program) (passed c h).within.cost

none_heavy : (o : Option Function) → (elim o as (λ x. Option ℕ) [ None ↦ None | Some f ↦ Some f.at ]) ≡ None → o ≡ None
none_heavy None h = refl
none_heavy (Some f) h = absurd (cc)

-- the functions in the order of their numbers are the functions with bodies
pub numbered : (main number : ℕ) (items : List TopItem) (f : Function) → slice_get (in_number_order main items) number ≡ Some f → Among f (with_bodies items)
numbered main number items f h = elim (among_either f (filter (λ f. f.name == main) (with_bodies items)) (filter (λ f. not (f.name == main)) (with_bodies items)) (among_at f (in_number_order main items) number h)) [
  | inl k ↦ (among_filter (λ f. f.name == main) f (with_bodies items) k).0
  | inr k ↦ (among_filter (λ f. not (f.name == main)) f (with_bodies items) k).0
]

pub has_light_frames : HasLightFrames
has_light_frames c number f h at =
    let none = none_heavy (find (λ f. nat_lt most_weight (function_weight f)) (bodies c.program.items)) (passed c h).within.weights in
    not_less most_weight (function_weight f) (none_found (λ f. nat_lt most_weight (function_weight f)) (bodies c.program.items) f none (numbered c.main number c.program.items f at))
