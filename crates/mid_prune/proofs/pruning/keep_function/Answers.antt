use Rattle.std.proofs.Common.{◌≡◌, ◌<◌, ◌∷◌, ◌++◌, [], true, length, ap, ◌∙◌, rules}
use Rattle.mid_blocks.specs.declared.code.MidFunction.{MidFunction}
use Rattle.mid_blocks.specs.Pruned.{pruned_function}
use Rattle.mid_prune.proofs.Marking.{marks_at}
use Rattle.mid_prune.proofs.Keeping.{kept_within, function_same, kept_or_not}
use Rattle.mid_prune.proofs.pruning.keep_function.Goals as goal

pub bounds-marks-at : goal.bounds-marks-at
bounds-marks-at c = kept_within c.args.marks.now c.args.callees.now c.get.result c.args.at c.requires.callees c.get.ensures c.if-get.true

pub offset_bounds-marks-at : goal.offset_bounds-marks-at
offset_bounds-marks-at c =
    let l : c.args.at < length c.args.marks.now = kept_within c.args.marks.now c.args.callees.now c.get.result c.args.at c.requires.callees c.get.ensures c.if-get.true in
    search rules

pub returns-in_ok-push : goal.returns-in_ok-push
returns-in_ok-push c =
    let l : c.args.at < length c.args.marks.now = kept_within c.args.marks.now c.args.callees.now c.get.result c.args.at c.requires.callees c.get.ensures c.if-get.true in
    let o = c.index-marks-at.is ∙ marks_at c.args.marks.now c.args.at c.index-marks-at.result l in
    let same : c.in_ok-prune_function.field-0 ≡ pruned_function c.args.marks.now c.args.at c.args.code = function_same c.args.marks.now c.args.callees.now c.index-marks-at.result c.args.at c.args.code c.in_ok-prune_function.field-0 c.requires.callees o c.in_ok-prune_function.ensures in
    kept_or_not c.args.callees.now c.args.at c.get.result true c.args.kept.now.items c.push.new.self.items (pruned_function c.args.marks.now c.args.at c.args.code) c.get.ensures c.if-get.true
    (c.in_ok-push.ensures.items ∙ ap (λ (f : MidFunction). c.args.kept.now.items ++ f ∷ []) same)
