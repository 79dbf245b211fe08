use Rattle.std.proofs.Common.{◌≡◌, ◌∙◌, ap, sym, subst, length}
use Rattle.c_meaning.specs.Meaning.{globals}
use Rattle.check_rules.specs.Limits.{resolved_names}
use Rattle.mid_blocks.specs.Pruned.{pruned, Closed, OnlyReached}
use Rattle.mid_blocks.specs.Leads.{LeadsInside}
use Rattle.mid_lower.specs.Facts.{low_of, room_of}
use Rattle.mid_prune.specs.Trims.{Trims}
use Rattle.mid_lower.proofs.Known.{low_is}
use Rattle.mid_lower.proofs.Leaf.{stays_leaf}
use Rattle.mid_lower.proofs.lowering.lower_in_room.Goals as goal

pub reached-requires : goal.reached-requires
reached-requires c =
    subst LeadsInside (sym (low_is c.args.checked.now c.in_ok-low.low c.as_slice-items.result.now c.main.result c.args.chain_pairs c.in_ok-low.ensures (c.as_slice-items.ensures ∙ ap (λ p. p.items) c.program.ensures.program) c.main.ensures.main c.requires.room))
    (c.leads_inside.ensures (resolved_names c.args.checked.now) c.args.checked.now.program (room_of c.args.checked.now) c.requires.known.fitting c.requires.known.one_each c.requires.known.light)

pub returns-clause-lowered : goal.returns-clause-lowered
returns-clause-lowered c =
    let same : c.in_ok-low.low ≡ low_of c.args.checked.now = low_is c.args.checked.now c.in_ok-low.low c.as_slice-items.result.now c.main.result c.args.chain_pairs c.in_ok-low.ensures (c.as_slice-items.ensures ∙ ap (λ p. p.items) c.program.ensures.program) c.main.ensures.main c.requires.room in
    let kept : c.in_ok-kept.kept ≡ pruned c.in_ok-marks.marks (low_of c.args.checked.now) = c.in_ok-kept.ensures ∙ (ap (λ marks. pruned marks c.in_ok-low.low) c.as_slice-2.ensures ∙ ap (pruned c.in_ok-marks.marks) same) in
    let count : c.in_ok-count.count ≡ length (globals c.args.checked.now.program.items) = c.in_ok-count.ensures ∙ ap (λ items. length (globals items)) (c.as_slice-items.ensures ∙ ap (λ p. p.items) c.program.ensures.program) in
    c.composes.ensures c.args.checked.now c.requires.known c.in_ok-marks.marks
    (subst (λ low. Closed low c.in_ok-marks.marks) same c.in_ok-marks.ensures.closed)
    (subst (λ low. OnlyReached low c.in_ok-marks.marks) same c.in_ok-marks.ensures.only)
    c.trim.result
    (subst (λ n. Trims (pruned c.in_ok-marks.marks (low_of c.args.checked.now)) n c.trim.result) count
    (subst (λ mid. Trims mid c.in_ok-count.count c.trim.result) kept c.trim.ensures))

pub returns-clause-leaf : goal.returns-clause-leaf
returns-clause-leaf c = λ leaf.
    let same : c.in_ok-low.low ≡ low_of c.args.checked.now = low_is c.args.checked.now c.in_ok-low.low c.as_slice-items.result.now c.main.result c.args.chain_pairs c.in_ok-low.ensures (c.as_slice-items.ensures ∙ ap (λ p. p.items) c.program.ensures.program) c.main.ensures.main c.requires.room in
    let kept : c.in_ok-kept.kept ≡ pruned c.in_ok-marks.marks (low_of c.args.checked.now) = c.in_ok-kept.ensures ∙ (ap (λ marks. pruned marks c.in_ok-low.low) c.as_slice-2.ensures ∙ ap (pruned c.in_ok-marks.marks) same) in
    stays_leaf (pruned c.in_ok-marks.marks (low_of c.args.checked.now)) c.trim.result c.in_ok-count.count
    (subst (λ mid. Trims mid c.in_ok-count.count c.trim.result) kept c.trim.ensures)
    (c.light_leaf_is_small.ensures (resolved_names c.args.checked.now) c.args.checked.now.program (room_of c.args.checked.now) c.in_ok-marks.marks leaf
    (subst (λ low. Closed low c.in_ok-marks.marks) same c.in_ok-marks.ensures.closed)
    (subst (λ low. OnlyReached low c.in_ok-marks.marks) same c.in_ok-marks.ensures.only))
