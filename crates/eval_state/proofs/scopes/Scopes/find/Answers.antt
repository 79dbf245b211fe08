use Rattle.std.proofs.Common.{◌≡◌, ℕ, ◌-◌, ◌∙◌, sym, ap, get_or, option_map, None, Some}
use Rattle.std.specs.List.{slice_get}
use Rattle.eval_state.specs.declared.scopes.Held.{Held}
use Rattle.eval_state.specs.Cells.{offset, held_of}
use Rattle.eval_state.proofs.Uses.{not_there, looked_up}
use Rattle.eval_state.proofs.scopes.Scopes.find.Goals as goal

pub returns-then-newest-eq0 : goal.returns-then-newest-eq0
returns-then-newest-eq0 c =
    let z : get_or c.self.inside.latest.items (offset c.self.inside.first c.args.name) 0 ≡ 0 = cc (c.as_slice.ensures.value, c.offset.ensures, c.at-newest.ensures, c.if-newest-eq0.true) in
    sym (not_there c.self.inside.first c.args.name c.self.inside.latest.items c.self.inside.cells.items c.args.self.now c.self.invariant c.ranges.name.fits c.self.view_is z)

pub returns-in-None : goal.returns-in-None
returns-in-None c =
    let at : c.at-newest.result ≡ get_or c.self.inside.latest.items (offset c.self.inside.first c.args.name) 0 = cc (c.as_slice.ensures.value, c.offset.ensures, c.at-newest.ensures) in
    ap (option_map (λ (h : Held). h.value)) (c.in-None.ensures ∙ ap (λ l. held_of (slice_get l (c.at-newest.result - 1))) c.as_slice-2.ensures.value)
    ∙ looked_up c.self.inside.first c.at-newest.result c.args.name c.self.inside.latest.items c.self.inside.cells.items c.args.self.now c.self.invariant c.ranges.name.fits c.self.view_is at c.if-newest-eq0.false

pub returns-in-Some : goal.returns-in-Some
returns-in-Some c =
    let at : c.at-newest.result ≡ get_or c.self.inside.latest.items (offset c.self.inside.first c.args.name) 0 = cc (c.as_slice.ensures.value, c.offset.ensures, c.at-newest.ensures) in
    ap (option_map (λ (h : Held). h.value)) (c.in-Some.ensures ∙ ap (λ l. held_of (slice_get l (c.at-newest.result - 1))) c.as_slice-2.ensures.value)
    ∙ looked_up c.self.inside.first c.at-newest.result c.args.name c.self.inside.latest.items c.self.inside.cells.items c.args.self.now c.self.invariant c.ranges.name.fits c.self.view_is at c.if-newest-eq0.false
