use Rattle.std.proofs.Common.{◌≡◌, ◌<◌, ℕ, ◌-◌, ◌∙◌, sym, ap, get_or, arith}
use Rattle.c_meaning.specs.Run as run
use Rattle.eval_state.specs.Files.{with_word}
use Rattle.eval_state.proofs.Firsts.{put_first, put_no_first, word_same}
use Rattle.eval_state.proofs.files.Files.put.Goals as goal

pub invariant_of-self : goal.invariant_of-self
invariant_of-self c =
    let at : c.at-first.result ≡ get_or c.self.inside.table.items c.args.name 0 = cc (c.as_slice.ensures.value, c.at-first.ensures) in
    (put_first c.args.name c.at-first.result (with_word c.args.word) (run.put_scalar c.args.word) c.self.inside.table.items c.self.inside.variables.items c.put_word.new.variables.items c.args.self.now (word_same c.args.word) c.self.invariant c.self.view_is at (λ z. omega arith) c.put_word.ensures).first

pub returns-then-first-gt0 : goal.returns-then-first-gt0
returns-then-first-gt0 c =
    let at : c.at-first.result ≡ get_or c.self.inside.table.items c.args.name 0 = cc (c.as_slice.ensures.value, c.at-first.ensures) in
    (put_first c.args.name c.at-first.result (with_word c.args.word) (run.put_scalar c.args.word) c.self.inside.table.items c.self.inside.variables.items c.put_word.new.variables.items c.args.self.now (word_same c.args.word) c.self.invariant c.self.view_is at (λ z. omega arith) c.put_word.ensures).view_is

pub returns-else-first-gt0 : goal.returns-else-first-gt0
returns-else-first-gt0 c =
    let at : c.at-first.result ≡ get_or c.self.inside.table.items c.args.name 0 = cc (c.as_slice.ensures.value, c.at-first.ensures) in
    let none : c.at-first.result ≡ 0 = omega arith in
    put_no_first c.args.name (run.put_scalar c.args.word) c.self.inside.table.items c.self.inside.variables.items c.args.self.now c.self.invariant c.self.view_is (sym at ∙ none)
