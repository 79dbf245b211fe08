use Rattle.std.proofs.Common.{◌∙◌, ap, subst}
use Rattle.c_syntax.specs.declared.tree.TopItem.{TopItem}
use Rattle.std.proofs.Common.{List}
use Rattle.std.specs.Prelude.{IsTrue}
use Rattle.c_meaning.specs.Meaning.{Names}
use Rattle.c_syntax.specs.Literals.{items_literals}
use Rattle.lower_rules.specs.Labels.{CasesAreWords}
use Rattle.mid_lower.proofs.Known.{known}
use Rattle.mid_lower.proofs.lowering.facts.Goals as goal

pub returns : goal.returns
returns c = known (record {
  fits = c.checked_fits.ensures;
  one_each = c.one_each.ensures;
  light = c.light_frames.ensures;
  main = c.has_main.ensures;
  few_blocks = c.few_blocks.ensures;
  room = c.has_room.ensures;
  lowered_room = c.lowered_room.ensures;
  flat = c.none_recursive.ensures;
  unused = c.counter_unused.ensures;
}) c.args.checked.now c.program.ensures.checked
    (subst (λ (items : List TopItem). IsTrue (items_literals items)) (c.as_slice.ensures ∙ ap (λ p. p.items) c.program.ensures.program) c.tree_holds_words.ensures.literals)
    (subst (λ (items : List TopItem). (names : Names) → CasesAreWords names items) (c.as_slice.ensures ∙ ap (λ p. p.items) c.program.ensures.program) c.tree_holds_words.ensures.cases)
    c.requires.labelled
