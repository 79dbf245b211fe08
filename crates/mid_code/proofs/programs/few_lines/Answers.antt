use Rattle.std.proofs.Common.{◌+◌, ◌<◌, ◌∙◌, arith, length, sym, subst, List}
use Rattle.std.specs.List.{flat_map}
use Rattle.mid_blocks.specs.declared.code.MidBlock.{MidBlock}
use Rattle.mid_blocks.specs.Lines.{lines, block_lines}
use Rattle.mid_code.proofs.Counting.{sum_past_0, few_is_none}
use Rattle.mid_code.proofs.programs.few_lines.Goals as goal

pub returns-in-None : goal.returns-in-None
returns-in-None c =
    let past = few_is_none (c.loop-function.count + length (flat_map block_lines c.as_slice.result.now)) (sym c.in-None.is ∙ c.count_lines.ensures) in
    let P : List MidBlock → Type 0 = λ blocks. 62914560 < c.loop-function.count + length (flat_map block_lines blocks) in
    let h = subst P c.as_slice.ensures past in
    sum_past_0 (λ f. length (lines f)) c.args.functions.now c.loop-function.function-index c.function-item.result 62914560 c.loop-function-test.true c.function-item.is (omega (arith, h))
