use Rattle.std.proofs.Common.{◌≡◌, ◌<◌, Bool, List, length, ap, ◌∙◌, arith}
use Rattle.mid_blocks.specs.Pruned.{is_marked}
use Rattle.mid_prune.proofs.Marking.{marked_at, past_same}
use Rattle.mid_prune.proofs.marks.Marks.get.Goals as goal

pub returns-then-at-len : goal.returns-then-at-len
returns-then-at-len c =
    let l : c.args.at < length c.self.inside.list.items = omega (arith, c.if-at-len.true, c.len.ensures, c.self.inside.list.ok) in
    c.index.ensures ∙ marked_at c.self.inside.list.items c.args.at c.index.result.now l ∙ ap (λ (bs : List Bool). is_marked bs c.args.at) c.self.view_is

pub returns-else-at-len : goal.returns-else-at-len
returns-else-at-len c =
    let l : c.len.result ≡ length c.self.inside.list.items = omega (arith, c.len.ensures, c.self.inside.list.ok) in
    past_same c.self.inside.list.items c.args.at c.len.result l c.if-at-len.false ∙ ap (λ (bs : List Bool). is_marked bs c.args.at) c.self.view_is
