use Rattle.std.proofs.Common.{◌≡◌, ◌≤◌, ℕ, length, get_or, sym, ◌∙◌, subst, arith}
use Rattle.mid_blocks.specs.Pruned.{marked_before}
use Rattle.mid_prune.proofs.Marking.{before_few, before_past}
use Rattle.mid_prune.proofs.numbers.number.Goals as goal

pub overflow_cast-result : goal.overflow_cast-result
overflow_cast-result c =
    let e : get_or c.args.counts.now c.args.at 0 ≡ marked_before c.args.marks.now c.args.at = c.requires.each c.args.at (omega arith) in
    omega (arith, e, before_few c.args.marks.now c.args.at)

pub overflow_cast-result-else-place-last : goal.overflow_cast-result-else-place-last
overflow_cast-result-else-place-last c =
    let last : c.len-last.result ≤ length c.args.marks.now = omega arith in
    let e : get_or c.args.counts.now c.len-last.result 0 ≡ marked_before c.args.marks.now c.len-last.result = c.requires.each c.len-last.result last in
    omega (arith, e, before_few c.args.marks.now c.len-last.result)

pub returns-else-place-last : goal.returns-else-place-last
returns-else-place-last c =
    let last : length c.args.marks.now ≤ c.args.at = omega arith in
    let e : get_or c.args.counts.now c.len-last.result 0 ≡ marked_before c.args.marks.now c.len-last.result = c.requires.each c.len-last.result (omega arith) in
    e ∙ subst (λ (n : ℕ). marked_before c.args.marks.now n ≡ marked_before c.args.marks.now c.args.at) (sym c.len-last.ensures) (sym (before_past c.args.marks.now c.args.at last))
