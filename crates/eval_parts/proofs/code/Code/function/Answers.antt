use Rattle.std.proofs.Common.{◌≡◌, ◌∙◌, sym, ap, get_or}
use Rattle.c_syntax.specs.Graph.{function_named}
use Rattle.eval_parts.proofs.Standing.{no_function, function_at, some_function}
use Rattle.eval_parts.proofs.code.Code.function.Goals as goal

pub returns-then-first-eq0 : goal.returns-then-first-eq0
returns-then-first-eq0 c =
    let z : get_or c.self.inside.table.items c.args.name 0 ≡ 0 = cc (c.as_slice.ensures.value, c.at-first.ensures, c.if-first-eq0.true) in
    sym (no_function c.args.name c.self.inside.table.items c.self.inside.items.now c.self.invariant.0 z) ∙ ap (function_named c.args.name) c.self.view_is

pub returns-in-None : goal.returns-in-None
returns-in-None c =
    let at : c.at-first.result ≡ get_or c.self.inside.table.items c.args.name 0 = cc (c.as_slice.ensures.value, c.at-first.ensures) in
    absurd (some_function c.args.name c.at-first.result c.self.inside.table.items c.self.inside.items.now c.self.invariant.0 at c.if-first-eq0.false c.in-None.ensures)

pub returns-in-Some : goal.returns-in-Some
returns-in-Some c =
    let at : c.at-first.result ≡ get_or c.self.inside.table.items c.args.name 0 = cc (c.as_slice.ensures.value, c.at-first.ensures) in
    c.function_in.ensures
    ∙ function_at c.args.name c.at-first.result c.self.inside.table.items c.self.inside.items.now c.in-Some.item.now c.self.invariant.0 at c.if-first-eq0.false c.in-Some.ensures
    ∙ ap (function_named c.args.name) c.self.view_is
