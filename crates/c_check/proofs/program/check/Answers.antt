use Rattle.std.proofs.Common.{◌≡◌, Ok, rules, sym, ap, ◌∙◌}
use Rattle.std.specs.BTreeSet.{contains}
use Rattle.std.specs.Ordering.{nat_cmp}
use Rattle.c_meaning.specs.Meaning.{source_names}
use Rattle.check_rules.specs.Limits.{checked}
use Rattle.c_check.proofs.Whole.{as_walked, after_walk, no_fault}
use Rattle.c_check.proofs.program.check.Goals as goal

pub returns-in_err-within-clause-fault : goal.returns-in_err-within-clause-fault
returns-in_err-within-clause-fault c =
    rw (after_walk c.args.program c.as_slice.result.now c.in_ok-is.is' (λ name. contains nat_cmp c.in_ok-names.names name) c.in_ok-scopes.scopes c.items.new.scopes c.as_slice.ensures c.in_ok-names.ensures.ok c.in_ok-scopes.ensures.ok c.in_ok-is.ensures.walk) (search rules)

pub returns-in_err-is-clause-fault : goal.returns-in_err-is-clause-fault
returns-in_err-is-clause-fault c =
    rw (as_walked c.args.program c.as_slice.result.now (λ name. contains nat_cmp c.in_ok-names.names name) c.in_ok-scopes.scopes c.as_slice.ensures c.in_ok-names.ensures.ok c.in_ok-scopes.ensures.ok) (search rules)

pub new-requires : goal.new-requires
new-requires c =
    c.checked_again.ensures c.args.program (record { program = record { items = c.in_ok-is.is' }; decls = c.in_ok-decls.decls; main = c.main_position-main.result }) c.requires.shaped c.requires.nodes
    (no_fault c.args.program c.as_slice.result.now c.in_ok-is.is' (λ name. contains nat_cmp c.in_ok-names.names name) c.in_ok-scopes.scopes c.items.new.scopes c.in_ok-within.field-0 c.in_ok-decls.decls c.main_position-main.result c.as_slice.ensures c.in_ok-names.ensures.ok c.in_ok-scopes.ensures.ok c.in_ok-is.ensures.walk c.in_ok-within.ensures c.in_ok-decls.ensures.ok c.main_position-main.ensures)

pub returns : goal.returns
returns c =
    let e : checked source_names c.args.program ≡ Ok c.new.result =
    no_fault c.args.program c.as_slice.result.now c.in_ok-is.is' (λ name. contains nat_cmp c.in_ok-names.names name) c.in_ok-scopes.scopes c.items.new.scopes c.in_ok-within.field-0 c.in_ok-decls.decls c.main_position-main.result c.as_slice.ensures c.in_ok-names.ensures.ok c.in_ok-scopes.ensures.ok c.in_ok-is.ensures.walk c.in_ok-within.ensures c.in_ok-decls.ensures.ok c.main_position-main.ensures
    ∙ ap Ok (sym c.new.ensures) in
    record { ok = e; fault = e }
