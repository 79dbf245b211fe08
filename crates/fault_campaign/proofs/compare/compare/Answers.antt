use Rattle.std.proofs.Common.{◌≡◌, sym, subst, ◌∙◌}
use Rattle.std.proofs.lemmas.Bool.{false≢true}
use Rattle.fault_campaign.specs.Campaign.{ComesTo, same, begins, differs}
use Rattle.fault_campaign.proofs.compare.compare.Goals as goal

pub returns-then-is_same : goal.returns-then-is_same
returns-then-is_same c = same (c.is_same.ensures.0 c.if-is_same.true)

pub returns-else-is_same : goal.returns-else-is_same
returns-else-is_same c =
    subst (ComesTo _ _) (sym c.told.ensures)
    (begins (λ h. false≢true (sym c.if-is_same.false ∙ c.is_same.ensures.1 h)) (c.begins.ensures.0 c.if-begins.true))

pub returns-else-begins : goal.returns-else-begins
returns-else-begins c = differs (λ p. false≢true (sym c.if-begins.false ∙ c.begins.ensures.1 p))
