use Rattle.std.proofs.Common.{◌+◌, ◌-◌, ap, sym, ◌∙◌, ◌++◌}
use Rattle.double_law.specs.Emitted.{parameter_load, parameter_items}
use Rattle.duplicate_pass.proofs.Emitted.{advance, one_parameter}
use Rattle.duplicate_pass.proofs.starts.put_parameters.Goals as goal

pub loop-number-preserved : goal.loop-number-preserved
loop-number-preserved c =
    advance c.loop-number.out c.put_parameter.new.out
    (parameter_load c.place_of.result c.args.pairs c.loop-number.number)
    (parameter_items c.args.places.now c.args.pairs c.loop-number.number (c.args.params - c.loop-number.number))
    (parameter_items c.args.places.now c.args.pairs (c.loop-number.number + 1) (c.args.params - (c.loop-number.number + 1)))
    (c.args.out.now ++ parameter_items c.args.places.now c.args.pairs 0 c.args.params)
    c.loop-number.invariant
    (one_parameter c.args.places.now c.args.pairs c.loop-number.number c.args.params c.loop-number-test.true ∙
    ap (λ p. parameter_load p c.args.pairs c.loop-number.number ++ parameter_items c.args.places.now c.args.pairs (c.loop-number.number + 1) (c.args.params - (c.loop-number.number + 1))) (sym c.place_of.ensures))
    c.in_ok-put_parameter.ensures
