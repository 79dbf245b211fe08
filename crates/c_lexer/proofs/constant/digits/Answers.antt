use Rattle.std.proofs.Common.{◌≡◌, ◌+◌, ◌*◌, ◌^◌, ℕ, min, take, get_or, arith, sym, ap, ◌∙◌, below_more}
use Rattle.std.proofs.lemmas.List.Sums.{fold_more}
use Rattle.c_lexer.specs.Constants.{digit_worth, worth}
use Rattle.c_lexer.proofs.Splits.{saturates}
use Rattle.c_lexer.proofs.constant.digits.Goals as goal

pub loop-size-preserved : goal.loop-size-preserved
loop-size-preserved c =
    let text = c.args.text.now in
    let size = c.loop-size.size in
    let d : ℕ = digit_worth (get_or text size 0) in
    let more = fold_more (λ n b. c.args.base * n + digit_worth b) 0 text size 0 c.loop-size-test.true in
    let result : c.min-worth.result ≡ min (c.args.base * min (worth c.args.base (take size text)) (2 ^ 32) + digit_worth (get_or text size 0)) (2 ^ 32) =
    c.min-worth.ensures ∙ ap (λ w. min (c.args.base * w + c.digit_worth-in-loop-size.result) (2 ^ 32)) c.loop-size.invariant.2
    ∙ ap (λ v. min (c.args.base * min (worth c.args.base (take size text)) (2 ^ 32) + v) (2 ^ 32)) c.digit_worth-in-loop-size.ensures.value in (
      omega arith,
      below_more _ _ c.loop-size.invariant.1 (omega (arith, c.digit_worth.ensures.value)),
      result ∙ saturates c.args.base (worth c.args.base (take size text)) (digit_worth (get_or text size 0)) (2 ^ 32) c.requires.some ∙ ap (λ w. min w (2 ^ 32)) (sym more),
    )
