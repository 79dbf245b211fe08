-- The outcome of a whole program, once its items have been walked.
use Rattle.std.proofs.Common.{◌≡◌, ℕ, Bool, List, Ok, sym, ap, ◌∙◌}
use Rattle.c_syntax.specs.declared.tree.TopItem.{TopItem}
use Rattle.c_syntax.specs.declared.tree.Program.{Program}
use Rattle.c_meaning.specs.Meaning.{source_names}
use Rattle.check_rules.specs.declared.decl.Decl.{Decl}
use Rattle.check_rules.specs.Fault.{◌>>=◌, ◌>>◌}
use Rattle.check_rules.specs.Limits.{Resolved, checked, within_limits, position_or_zero}
use Rattle.check_rules.specs.Scopes.{Walking, lookup}
use Rattle.check_rules.specs.Walk.{has_body_in, walk_items, walk_program, first_walking}

abbrev pub resolved : List TopItem → Walking → Resolved
resolved items w = record { program = record { items = items }; decls = w.decls; main = position_or_zero (lookup source_names.main w.file) }

-- the walk asks nothing but of which functions there are bodies
same_walk : (p : Program) (listed : List TopItem) (has_body : ℕ → Bool) → listed ≡ p.items → ((name : ℕ) → has_body name ≡ has_body_in listed name) → walk_program source_names p ≡ walk_items has_body p.items (first_walking source_names)
same_walk p listed has_body is same = ap (λ f. walk_items f p.items (first_walking source_names)) (λ i name. (ap (λ l. has_body_in l name) (sym is) ∙ sym (same name)) i)

-- what the items give goes on to what is looked at after the walk
pub as_walked : (p : Program) (listed : List TopItem) (has_body : ℕ → Bool) (before : Walking) → listed ≡ p.items → ((name : ℕ) → has_body name ≡ has_body_in listed name) → before ≡ first_walking source_names → checked source_names p ≡ walk_items has_body p.items before >>= (λ (items, w). within_limits source_names p >> Ok (resolved items w))
as_walked p listed has_body before is same starts = ap (λ m. m >>= (λ (items, w). within_limits source_names p >> Ok (resolved items w))) (same_walk p listed has_body is same ∙ ap (walk_items has_body p.items) (sym starts))

-- where the walk finds no fault, what is looked at after it decides
pub after_walk : (p : Program) (listed items : List TopItem) (has_body : ℕ → Bool) (before after : Walking) → listed ≡ p.items → ((name : ℕ) → has_body name ≡ has_body_in listed name) → before ≡ first_walking source_names → walk_items has_body p.items before ≡ Ok (items, after) → checked source_names p ≡ within_limits source_names p >> Ok (resolved items after)
after_walk p listed items has_body before after is same starts did =
    as_walked p listed has_body before is same starts ∙ ap (λ m. m >>= (λ (items, w). within_limits source_names p >> Ok (resolved items w))) did

-- nothing is wrong
pub no_fault : (p : Program) (listed items : List TopItem) (has_body : ℕ → Bool) (before after : Walking) (u : Unit {0}) (decls : List Decl) (main : ℕ) → listed ≡ p.items → ((name : ℕ) → has_body name ≡ has_body_in listed name) → before ≡ first_walking source_names → walk_items has_body p.items before ≡ Ok (items, after) →
    within_limits source_names p ≡ Ok u → decls ≡ after.decls → main ≡ position_or_zero (lookup source_names.main after.file) → checked source_names p ≡ Ok (record { program = record { items = items }; decls = decls; main = main })
no_fault p listed items has_body before after u decls main is same starts did within all first =
    after_walk p listed items has_body before after is same starts did ∙ ap (λ m. m >> Ok (resolved items after)) within
    ∙ ap (λ l. Ok (record { program = record { items = items }; decls = l; main = position_or_zero (lookup source_names.main after.file) })) (sym all) ∙ ap (λ n. Ok (record { program = record { items = items }; decls = decls; main = n })) (sym first)
