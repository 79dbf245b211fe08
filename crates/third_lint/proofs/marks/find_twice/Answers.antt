use Rattle.std.proofs.Common.{◌∙◌, ap, ◌+◌, ◌*◌, Bool, arith}
use Rattle.lint_words.specs.Around.{starts_at}
use Rattle.third_lint.specs.RuleTests.{nexts_if}
use Rattle.third_lint.proofs.Tables.{empty_first, turn_table, last_twice}
use Rattle.third_lint.proofs.marks.find_twice.Goals as goal

pub loop-k-init : goal.loop-k-init
loop-k-init c = empty_first c.args.text.now (λ a. nexts_if c.args.text.now (starts_at c.args.after.now a) a) c.len-n.result _ c.len-n.ensures (c.in_ok-bits.ensures.items_if_clones_equal (λ y h. h))

pub loop-k-preserved : goal.loop-k-preserved
loop-k-preserved c = turn_table c.args.text.now (λ w. ⊥) (λ a. nexts_if c.args.text.now (starts_at c.args.after.now a) a) c.loop-k.k c.loop-k.bits.items c.mark_if.new.bits.items c.mark_if-in-loop-k.new.bits.items c.nexts_if-first.result c.loop-k.invariant (c.nexts_if-first.ensures ∙ ap (λ (z : Bool). nexts_if c.args.text.now z (0x00400000 + 4 * c.loop-k.k)) c.starts_at.ensures) c.mark_if.ensures c.mark_if-in-loop-k.ensures

pub returns : goal.returns
returns c = last_twice c.args.text.now c.loop-k.k c.args.after.now c.loop-k.bits.items c.requires.text c.requires.table (omega (arith, c.loop-k-test.false, c.loop-k.auto, c.len-n.ensures)) c.loop-k.invariant
