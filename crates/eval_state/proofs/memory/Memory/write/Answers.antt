use Rattle.std.proofs.Common.{sym, ap, ◌∙◌, reverse}
use Rattle.c_meaning.specs.Run.{write}
use Rattle.eval_state.specs.State.{Held, state}
use Rattle.eval_state.proofs.Writes.{written_global}
use Rattle.eval_state.proofs.memory.Memory.write.Goals as goal

pub returns-then-not-put-clause-does : goal.returns-then-not-put-clause-does
returns-then-not-put-clause-does c =
    let m : Held = record { globals = c.self.inside.files; scopes = c.self.inside.scopes; input = reverse c.self.inside.input.items; fuel = c.self.inside.fuel; active = c.self.inside.active.count } in
    ap (λ (h : Held). write c.args.name c.args.word (state h)) (sym c.self.view_is)
    ∙ written_global c.args.name c.args.word m c.put.new.self c.put-then-not-put.new.self c.if-not-put.ensures.found c.put.ensures.stored c.put-then-not-put.ensures
