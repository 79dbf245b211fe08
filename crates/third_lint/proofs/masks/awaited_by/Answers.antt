use Rattle.std.proofs.Common.{◌∙◌, sym, subst, Bool}
use Rattle.std.specs.Prelude.{◌==◌, ◌&&◌}
use Rattle.third_lint.specs.Masks.{IsMask}
use Rattle.third_lint.proofs.MaskBits.{awaited_of_vote, awaited_of_none}
use Rattle.third_lint.proofs.masks.awaited_by.Goals as goal

pub returns-in-None : goal.returns-in-None
returns-in-None c = awaited_of_none c.args.text.now c.args.v c.args.a (sym c.vote_at.ensures ∙ c.in-None.is)

pub returns-in-Some : goal.returns-in-Some
returns-in-Some c = awaited_of_vote c.args.text.now c.args.v c.args.a c.in-Some.x c.second-y.result c.third-z.result c.bit_if-first.result c.bit_if-next.result c.bit_if-last.result
    (sym c.vote_at.ensures ∙ c.in-Some.is) c.second-y.ensures c.third-z.ensures
    (subst (λ (z : Bool). IsMask (λ q. (q == c.in-Some.x) && z) c.bit_if-first.result) c.awaited-by_x.ensures c.bit_if-first.ensures)
    (subst (λ (z : Bool). IsMask (λ q. (q == c.second-y.result) && z) c.bit_if-next.result) c.awaited-by_y.ensures c.bit_if-next.ensures)
    (subst (λ (z : Bool). IsMask (λ q. (q == c.third-z.result) && z) c.bit_if-last.result) c.awaited-by_z.ensures c.bit_if-last.ensures)
