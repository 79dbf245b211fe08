use Rattle.std.proofs.Common.{◌≡◌, Some, length, arith, sym, ap, ◌∙◌}
use Rattle.mid_blocks.specs.declared.code.MidBlock.{MidBlock}
use Rattle.mid_blocks.proofs.ValidLines.{block_there, block_fits}
use Rattle.register_liveness.proofs.Widening.{first_read}
use Rattle.register_liveness.proofs.extents.last_of.Goals as goal

pub overflow_cast-result : goal.overflow_cast-result
overflow_cast-result c = omega (arith, block_fits c.args.function.now c.requires.valid c.args.b c.index-as_slice-b.result (block_there c.args.function.now.blocks c.as_slice.result.now c.args.b c.index-as_slice-b.result c.as_slice.ensures (omega (arith, ap length c.as_slice.ensures, c.requires.exists)) c.index-as_slice-b.is))

pub overflow_add-result : goal.overflow_add-result
overflow_add-result c = omega (
  arith,
  block_fits c.args.function.now c.requires.valid c.args.b c.index-as_slice-b.result (block_there c.args.function.now.blocks c.as_slice.result.now c.args.b c.index-as_slice-b.result c.as_slice.ensures (omega (arith, ap length c.as_slice.ensures, c.requires.exists)) c.index-as_slice-b.is),
  first_read c.args.function.now c.args.flow.now.firsts.items c.args.b c.index.result.now c.requires.flow.firsts c.requires.exists c.index.ensures,
)

pub returns : goal.returns
returns c = λ block is.
    let here = block_there c.args.function.now.blocks c.as_slice.result.now c.args.b c.index-as_slice-b.result c.as_slice.ensures (omega (arith, ap length c.as_slice.ensures, c.requires.exists)) c.index-as_slice-b.is in
    let e : Some c.index-as_slice-b.result ≡ Some block = sym here ∙ is in
    let same : c.index-as_slice-b.result ≡ block = cc in
    omega (arith, ap (λ (b : MidBlock). length b.steps) same, c.len.ensures, first_read c.args.function.now c.args.flow.now.firsts.items c.args.b c.index.result.now c.requires.flow.firsts c.requires.exists c.index.ensures)
