use Rattle.std.proofs.Common.{◌≡◌, ℕ, ◌-◌, ◌∙◌, sym, ap, get_or}
use Rattle.c_meaning.specs.Run.{is_some_value, put_innermost}
use Rattle.eval_state.specs.Cells.{offset}
use Rattle.eval_state.proofs.Uses.{not_there, put_none, put_there, is_there}
use Rattle.eval_state.proofs.scopes.Scopes.put.Goals as goal

pub returns-then-newest-eq0-clause-found : goal.returns-then-newest-eq0-clause-found
returns-then-newest-eq0-clause-found c =
    let z : get_or c.self.inside.latest.items (offset c.self.inside.first c.args.name) 0 ≡ 0 = cc (c.as_slice.ensures.value, c.offset.ensures, c.at-newest.ensures, c.if-newest-eq0.true) in
    sym (ap is_some_value (not_there c.self.inside.first c.args.name c.self.inside.latest.items c.self.inside.cells.items c.args.self.now c.self.invariant c.ranges.name.fits c.self.view_is z))

pub returns-then-newest-eq0-clause-stored : goal.returns-then-newest-eq0-clause-stored
returns-then-newest-eq0-clause-stored c =
    let z : get_or c.self.inside.latest.items (offset c.self.inside.first c.args.name) 0 ≡ 0 = cc (c.as_slice.ensures.value, c.offset.ensures, c.at-newest.ensures, c.if-newest-eq0.true) in
    put_none c.self.inside.first c.args.name c.args.word c.self.inside.latest.items c.self.inside.cells.items c.args.self.now c.self.invariant c.ranges.name.fits c.self.view_is z

pub invariant_of-self : goal.invariant_of-self
invariant_of-self c =
    let at : c.at-newest.result ≡ get_or c.self.inside.latest.items (offset c.self.inside.first c.args.name) 0 = cc (c.as_slice.ensures.value, c.offset.ensures, c.at-newest.ensures) in
    (put_there c.self.inside.first c.at-newest.result c.args.name c.args.word c.self.inside.latest.items c.self.inside.cells.items c.store_at.new.cells.items c.self.invariant c.ranges.name.fits at c.if-newest-eq0.false c.store_at.ensures).kept

pub returns-clause-found : goal.returns-clause-found
returns-clause-found c =
    let at : c.at-newest.result ≡ get_or c.self.inside.latest.items (offset c.self.inside.first c.args.name) 0 = cc (c.as_slice.ensures.value, c.offset.ensures, c.at-newest.ensures) in
    sym (is_there c.self.inside.first c.at-newest.result c.args.name c.self.inside.latest.items c.self.inside.cells.items c.args.self.now c.self.invariant c.ranges.name.fits c.self.view_is at c.if-newest-eq0.false)

pub returns-clause-stored : goal.returns-clause-stored
returns-clause-stored c =
    let at : c.at-newest.result ≡ get_or c.self.inside.latest.items (offset c.self.inside.first c.args.name) 0 = cc (c.as_slice.ensures.value, c.offset.ensures, c.at-newest.ensures) in
    (put_there c.self.inside.first c.at-newest.result c.args.name c.args.word c.self.inside.latest.items c.self.inside.cells.items c.store_at.new.cells.items c.self.invariant c.ranges.name.fits at c.if-newest-eq0.false c.store_at.ensures).view ∙ ap (put_innermost c.args.name c.args.word) c.self.view_is
