use Rattle.std.proofs.Common.{◌≡◌, ℕ, List, length, arith, sym, subst}
use Rattle.mid_blocks.specs.declared.places.Place.{Place}
use Rattle.register_halves.specs.Assigned.{IsTaken, AreLocals}
use Rattle.register_halves.proofs.Taking.{assigned_all}
use Rattle.register_halves.proofs.assigning.assign_within.Goals as goal

pub returns : goal.returns
returns c =
    let locals : AreLocals c.args.function.now c.as_slice.result.now = subst (AreLocals c.args.function.now) (sym c.as_slice.ensures.value) c.in_ok-locals.ensures in
    let free : length c.in_ok-free.free.items ≡ c.args.pairs = omega (arith, c.in_ok-free.ensures.len, c.in_ok-free.free.ok) in
    let taken : IsTaken c.args.function.now c.args.pairs c.as_slice.result.now c.from_vec.result =
    subst (λ (ps : List Place). IsTaken c.args.function.now c.args.pairs c.as_slice.result.now ps) (sym c.from_vec.ensures)
    (subst (λ (k : ℕ). IsTaken c.args.function.now k c.as_slice.result.now c.take_places.new.places.items) free c.take_places.ensures) in
    assigned_all c.args.function.now c.args.pairs c.requires.valid.params_fit c.requires.valid.variables_fit c.requires.eight (record { list = c.from_vec.result }) c.as_slice.result.now locals taken
