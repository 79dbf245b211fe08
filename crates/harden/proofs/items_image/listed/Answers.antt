use Rattle.std.proofs.Common.{◌∙◌, ap}
use Rattle.std.specs.Prelude.{Err}
use Rattle.harden.proofs.Images.{never_bad}
use Rattle.harden.proofs.items_image.listed.Goals as goal

pub unreachable-requires : goal.unreachable-requires
unreachable-requires c = never_bad c.args.text.now c.in-Err-BadAt.field-0-0 c.in-Err-BadAt.field-0-1 c.requires.typed (c.lint.ensures.lowest c.in-Err-BadAt.field-0-0 c.in-Err-BadAt.field-0-1 (c.in-Err-BadAt.is ∙ ap (λ e. Err e) c.in-Err-BadAt.field-0-is))
