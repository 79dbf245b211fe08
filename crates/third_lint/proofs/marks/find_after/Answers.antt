use Rattle.std.proofs.Common.{◌∙◌, ap, ◌+◌, ◌*◌, Bool, arith}
use Rattle.std.specs.Prelude.{Option}
use Rattle.mips_isa.specs.declared.instr.Instr.{Instr}
use Rattle.mips_text.specs.Text.{instr_at}
use Rattle.third_lint.specs.RuleTests.{is_half, nexts_if}
use Rattle.third_lint.proofs.Tables.{empty_first, turn_table, last_after}
use Rattle.third_lint.proofs.marks.find_after.Goals as goal

pub loop-k-init : goal.loop-k-init
loop-k-init c = empty_first c.args.text.now (λ a. nexts_if c.args.text.now (is_half (instr_at c.args.text.now a)) a) c.len-n.result _ c.len-n.ensures (c.in_ok-bits.ensures.items_if_clones_equal (λ y h. h))

pub loop-k-preserved : goal.loop-k-preserved
loop-k-preserved c = turn_table c.args.text.now (λ w. ⊥) (λ a. nexts_if c.args.text.now (is_half (instr_at c.args.text.now a)) a) c.loop-k.k c.loop-k.bits.items c.mark_if.new.bits.items c.mark_if-in-loop-k.new.bits.items c.nexts_if-first.result c.loop-k.invariant (c.nexts_if-first.ensures ∙ ap (λ (z : Bool). nexts_if c.args.text.now z (0x00400000 + 4 * c.loop-k.k)) (c.is_half.ensures ∙ ap (λ (o : Option Instr). is_half o) c.instr_at.ensures.at)) c.mark_if.ensures c.mark_if-in-loop-k.ensures

pub returns : goal.returns
returns c = last_after c.args.text.now c.loop-k.k c.loop-k.bits.items c.requires (omega (arith, c.loop-k-test.false, c.loop-k.auto, c.len-n.ensures)) c.loop-k.invariant
