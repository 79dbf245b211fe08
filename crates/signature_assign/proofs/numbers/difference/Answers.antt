use Rattle.std.proofs.Common.{true, false, refl, ap, ◌∙◌, length, sym, ◌+◌}
use Rattle.std.specs.Prelude.{bit_xor}
use Rattle.signature_assign.proofs.Signing.{reached_joined, reached_entered, reached_led, two_flag, list_of, some_there}
use Rattle.signature_assign.proofs.numbers.difference.Goals as goal

pub first_sign-requires-clause-led : goal.first_sign-requires-clause-led
first_sign-requires-clause-led c =
    some_there c.index-else-index.result.now _ c.is_empty.result (list_of _ _ _ _ c.requires.known c.args.u c.index-else-index.result.now c.requires.within c.index-else-index.ensures) c.is_empty.ensures.1 c.if-is_empty.false

pub returns-then-index : goal.returns-then-index
returns-then-index c = λ D. reached_joined _ _ _ _ c.requires.known c.args.u _ c.base.result D (two_flag _ _ _ _ c.requires.known c.args.u c.index.result.now true c.requires.within c.index.ensures c.if-index.true) c.base.ensures refl

pub returns-then-is_empty : goal.returns-then-is_empty
returns-then-is_empty c = λ D.
    reached_entered _ _ _ _ c.requires.known c.args.u _ D (two_flag _ _ _ _ c.requires.known c.args.u c.index.result.now false c.requires.within c.index.ensures c.if-index.false)
    (ap length (sym (list_of _ _ _ _ c.requires.known c.args.u c.index-else-index.result.now c.requires.within c.index-else-index.ensures)) ∙ c.is_empty.ensures.0 c.if-is_empty.true) refl

pub returns-else-is_empty : goal.returns-else-is_empty
returns-else-is_empty c = λ D.
    reached_led _ _ _ _ c.requires.known c.args.u _ D (two_flag _ _ _ _ c.requires.known c.args.u c.index.result.now false c.requires.within c.index.ensures c.if-index.false)
    (some_there c.index-else-index.result.now _ c.is_empty.result (list_of _ _ _ _ c.requires.known c.args.u c.index-else-index.result.now c.requires.within c.index-else-index.ensures) c.is_empty.ensures.1 c.if-is_empty.false)
    (ap (λ x. bit_xor x (c.args.u + 1)) c.first_sign.ensures)
