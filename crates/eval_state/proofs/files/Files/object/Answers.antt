use Rattle.std.proofs.Common.{◌≡◌, ℕ, ◌-◌, ◌∙◌, sym, ap, get_or, option_map}
use Rattle.std.specs.List.{slice_get}
use Rattle.eval_state.specs.declared.files.FileVariable.{FileVariable}
use Rattle.eval_state.specs.Files.{object_of}
use Rattle.eval_state.proofs.Firsts.{no_object, object_found}
use Rattle.eval_state.proofs.files.Files.object.Goals as goal

pub returns-then-first-eq0 : goal.returns-then-first-eq0
returns-then-first-eq0 c =
    let z : get_or c.self.inside.table.items c.args.name 0 ≡ 0 = cc (c.as_slice.ensures.value, c.at-first.ensures, c.if-first-eq0.true) in
    sym (no_object c.args.name c.self.inside.table.items c.self.inside.variables.items c.args.self.now c.self.invariant c.self.view_is z)

pub returns-in-None : goal.returns-in-None
returns-in-None c =
    let at : c.at-first.result ≡ get_or c.self.inside.table.items c.args.name 0 = cc (c.as_slice.ensures.value, c.at-first.ensures) in
    ap (option_map (λ (v : FileVariable). object_of v.object)) (c.in-None.ensures ∙ ap (λ l. slice_get l (c.at-first.result - 1)) c.as_slice-2.ensures.value)
    ∙ object_found c.args.name c.at-first.result c.self.inside.table.items c.self.inside.variables.items c.args.self.now c.self.invariant c.self.view_is at c.if-first-eq0.false

pub returns-in-Some : goal.returns-in-Some
returns-in-Some c =
    let at : c.at-first.result ≡ get_or c.self.inside.table.items c.args.name 0 = cc (c.as_slice.ensures.value, c.at-first.ensures) in
    ap (option_map (λ (v : FileVariable). object_of v.object)) (c.in-Some.ensures ∙ ap (λ l. slice_get l (c.at-first.result - 1)) c.as_slice-2.ensures.value)
    ∙ object_found c.args.name c.at-first.result c.self.inside.table.items c.self.inside.variables.items c.args.self.now c.self.invariant c.self.view_is at c.if-first-eq0.false
