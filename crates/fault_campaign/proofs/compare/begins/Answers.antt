use Rattle.std.proofs.Common.{drop, length}
use Rattle.std.proofs.lemmas.Bool.Decides.{Decides-eqb}
use Rattle.std.proofs.lemmas.Slice.Eq.{starts_is}
use Rattle.fault_campaign.proofs.compare.begins.Goals as goal

pub returns : goal.returns
returns c =
    let h = starts_is Decides-eqb c.args.whole.now c.args.front.now c.starts_with.result c.starts_with.ensures.value in
    (λ t. (drop (length c.args.front.now) c.args.whole.now, h.0 t), λ p. h.1 p.0 p.1)
