use Rattle.std.proofs.Common.{◌≡◌, refl, subst}
use Rattle.c_lexer.specs.declared.constant.Base.TheVariants.{Hexadecimal}
use Rattle.c_lexer.specs.Constants.{Reads, IsSplit}
use Rattle.c_lexer.proofs.Splits.{hexadecimal}
use Rattle.c_lexer.proofs.constant.constant_of.Goals as goal

pub returns-then-is_hexadecimal : goal.returns-then-is_hexadecimal
returns-then-is_hexadecimal c =
    hexadecimal c.args.run.now (c.if-is_hexadecimal.ensures.mark.0 refl) _
    (subst (λ t. Reads (λ digits suffix other. (other ≡ Hexadecimal) × IsSplit Hexadecimal t digits suffix) c.split.result) c.rest_of.ensures c.split.ensures)
