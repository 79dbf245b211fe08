use Rattle.std.proofs.Common.{◌≡◌, ◌<◌, ℕ, ◌-◌, ◌∙◌, sym, ap, get_or, arith}
use Rattle.c_meaning.specs.Run as run
use Rattle.eval_state.specs.Files.{with_element}
use Rattle.eval_state.proofs.Firsts.{put_first, put_no_first, element_same}
use Rattle.eval_state.proofs.files.Files.put_element.Goals as goal

pub invariant_of-self : goal.invariant_of-self
invariant_of-self c =
    let at : c.at-first.result ≡ get_or c.self.inside.table.items c.args.name 0 = cc (c.as_slice.ensures.value, c.at-first.ensures) in
    (put_first c.args.name c.at-first.result (with_element c.args.index c.args.word) (run.put_element c.args.index c.args.word) c.self.inside.table.items c.self.inside.variables.items c.put_at.new.variables.items c.args.self.now (element_same c.args.index c.args.word) c.self.invariant c.self.view_is at (λ z. omega arith) c.put_at.ensures).first

pub returns-then-first-gt0 : goal.returns-then-first-gt0
returns-then-first-gt0 c =
    let at : c.at-first.result ≡ get_or c.self.inside.table.items c.args.name 0 = cc (c.as_slice.ensures.value, c.at-first.ensures) in
    (put_first c.args.name c.at-first.result (with_element c.args.index c.args.word) (run.put_element c.args.index c.args.word) c.self.inside.table.items c.self.inside.variables.items c.put_at.new.variables.items c.args.self.now (element_same c.args.index c.args.word) c.self.invariant c.self.view_is at (λ z. omega arith) c.put_at.ensures).view_is

pub returns-else-first-gt0 : goal.returns-else-first-gt0
returns-else-first-gt0 c =
    let at : c.at-first.result ≡ get_or c.self.inside.table.items c.args.name 0 = cc (c.as_slice.ensures.value, c.at-first.ensures) in
    let none : c.at-first.result ≡ 0 = omega arith in
    put_no_first c.args.name (run.put_element c.args.index c.args.word) c.self.inside.table.items c.self.inside.variables.items c.args.self.now c.self.invariant c.self.view_is (sym at ∙ none)
