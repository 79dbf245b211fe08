use Rattle.std.proofs.Common.{ap, arith, sym, ◌∙◌}
use Rattle.c_lexer.specs.Constants.{greatest, is_suffix, is_unsigned}
use Rattle.c_lexer.proofs.Splits.{no_digits, no_suffix, too_large, fits}
use Rattle.c_lexer.proofs.constant.split.Goals as goal

pub returns-then-size-eq0 : goal.returns-then-size-eq0
returns-then-size-eq0 c = no_digits c.args.base c.args.text.now c.radix.result c.digits-size.result.0 c.radix.ensures c.digits-size.ensures.front c.if-size-eq0.true

pub returns-then-not-is_suffix : goal.returns-then-not-is_suffix
returns-then-not-is_suffix c = no_suffix c.args.base c.args.text.now c.radix.result c.digits-size.result.0 c.radix.ensures c.digits-size.ensures.front (ap is_suffix (sym c.rest_of-suffix.ensures) ∙ sym c.if-not-is_suffix.ensures)

pub returns-then-worth-greatest : goal.returns-then-worth-greatest
returns-then-worth-greatest c =
    too_large c.args.base c.args.text.now c.radix.result c.digits-size.result.0 c.radix.ensures c.digits-size.ensures.front
    c.digits-size.result.1 c.digits-size.ensures.worth (omega arith) (ap is_suffix (sym c.rest_of-suffix.ensures) ∙ sym c.if-not-is_suffix.ensures) c.greatest.result (c.greatest.ensures.value ∙ ap (greatest c.args.base) c.rest_of-suffix.ensures) c.greatest.ensures.most c.if-worth-greatest.true

pub returns : goal.returns
returns c =
    fits c.args.base c.args.text.now c.radix.result c.digits-size.result.0 c.radix.ensures c.digits-size.ensures.front
    c.digits-size.result.1 c.digits-size.ensures.worth (omega arith) (ap is_suffix (sym c.rest_of-suffix.ensures) ∙ sym c.if-not-is_suffix.ensures) c.greatest.result (c.greatest.ensures.value ∙ ap (greatest c.args.base) c.rest_of-suffix.ensures) c.greatest.ensures.most c.is_unsigned.result (c.is_unsigned.ensures ∙ ap (λ s. is_unsigned s c.digits-size.result.1) c.rest_of-suffix.ensures) c.if-worth-greatest.false
