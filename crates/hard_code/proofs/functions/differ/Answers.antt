use Rattle.std.proofs.Common.{◌∙◌, sym, refl, get_or, arith, false}
use Rattle.std.proofs.lemmas.Bool.{both_ways}
use Rattle.std.proofs.lemmas.Option.{slice_get-get_or}
use Rattle.hard_code.proofs.Entries.{differ_more, differ_all, differ_not}
use Rattle.hard_code.proofs.functions.differ.Goals as goal

pub returns-then-is_among : goal.returns-then-is_among
returns-then-is_among c = (
  λ t. absurd (both_ways false refl t),
  λ d. absurd (differ_not c.args.entries.now c.loop-at.at (get_or c.args.entries.now c.loop-at.at 0) (slice_get-get_or c.args.entries.now c.loop-at.at 0 c.loop-at-test.true) (sym c.is_among.ensures ∙ c.if-is_among.true) d),
)

pub loop-at-preserved : goal.loop-at-preserved
loop-at-preserved c =
    differ_more c.args.entries.now c.loop-at.at (get_or c.args.entries.now c.loop-at.at 0) (slice_get-get_or c.args.entries.now c.loop-at.at 0 c.loop-at-test.true) (sym c.is_among.ensures ∙ c.if-is_among.false) c.loop-at.invariant

pub returns : goal.returns
returns c = (λ t. differ_all c.args.entries.now c.loop-at.at (omega arith) c.loop-at.invariant, λ d. refl)
