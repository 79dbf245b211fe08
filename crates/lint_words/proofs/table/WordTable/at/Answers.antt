use Rattle.std.proofs.Common.{ℕ, ◌<◌, List, length, subst, sym}
use Rattle.std.proofs.lemmas.List.Elements.{All-get_or}
use Rattle.lint_words.proofs.Ranges.{range_at}
use Rattle.lint_words.proofs.table.WordTable.at.Goals as goal

pub returns-clause-range : goal.returns-clause-range
returns-clause-range c =
    let h : c.args.k < length c.self.inside.words.now = subst (λ (x : List ℕ). c.args.k < length x) (sym c.self.view_is) c.requires in
    range_at c.self.inside.words.now c.self.inside.instrs.items c.args.k c.index.result.now c.self.invariant.0
    (All-get_or (λ w. w < 4294967296) c.self.inside.words.now c.args.k 0 h c.self.invariant.1) h c.index.ensures
