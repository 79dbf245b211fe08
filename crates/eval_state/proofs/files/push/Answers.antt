use Rattle.std.proofs.Common.{◌≡◌, sym, subst, length, ◌+◌, arith}
use Rattle.eval_state.specs.Files.{HasFirst, Notes}
use Rattle.eval_state.proofs.Firsts.{pushed}
use Rattle.eval_state.proofs.files.push.Goals as goal

pub returns-clause-first : goal.returns-clause-first
returns-clause-first c =
    let number : c.len-first.result + 1 ≡ length c.args.variables.now.items + 1 = omega (arith, c.len-first.ensures) in
    let notes = subst (λ n. Notes c.grow.new.table.items c.args.name n c.note.new.table.items) number c.note.ensures in
    subst (HasFirst c.note.new.table.items) (sym c.in_ok-push.ensures.items)
    (pushed c.args.table.now.items c.grow.new.table.items c.note.new.table.items c.args.variables.now.items (record { name = c.args.name; object = c.args.object }) c.requires c.grow.ensures.same notes)
