use Rattle.std.proofs.Common.{◌≡◌, ◌∙◌, sym, ap, subst, length, ◌+◌, ◌<◌, List, map, replicate, false}
use Rattle.std.specs.Prelude.{All, IfOk}
use Rattle.hard_items.specs.declared.code.HardBlock.{HardBlock}
use Rattle.edge_split.specs.Split.{Plan}
use Rattle.edge_split.specs.Built.{plan_as, all_counted, all_marked, all_planned, plan_list}
use Rattle.edge_split.proofs.Built.{successors_there}
use Rattle.edge_split.proofs.Counted.{plans_are}
use Rattle.edge_split.proofs.critical.all_plans.Goals as goal

pub counts_of-requires-clause-there : goal.counts_of-requires-clause-there
counts_of-requires-clause-there c = subst (λ (ks : List HardBlock). All (λ k. All (λ s. s < length ks + 1) k.successors) ks) (sym c.as_slice-blocks.ensures) (successors_there c.args.program.now c.requires.well_formed)

pub marks_of-requires-clause-there : goal.marks_of-requires-clause-there
marks_of-requires-clause-there c = subst (λ (ks : List HardBlock). All (λ k. All (λ s. s < length ks + 1) k.successors) ks) (sym c.as_slice-blocks.ensures) (successors_there c.args.program.now c.requires.well_formed)

pub returns : goal.returns
returns c =
    let counts : c.as_slice.result.now ≡ all_counted c.args.program.now.blocks (replicate (length c.args.program.now.blocks + 1) 0) =
    c.as_slice.ensures.value ∙ (c.in_ok-counts.ensures ∙ ap (λ (ks : List HardBlock). all_counted ks (replicate (length ks + 1) 0)) c.as_slice-blocks.ensures) in
    let marks : c.as_slice-2.result.now ≡ all_marked c.args.program.now.blocks (replicate (length c.args.program.now.blocks + 1) false) =
    c.as_slice-2.ensures.value ∙ (c.in_ok-marks.ensures ∙ ap (λ (ks : List HardBlock). all_marked ks (replicate (length ks + 1) false)) c.as_slice-blocks.ensures) in
    let same : all_planned c.as_slice.result.now c.as_slice-2.result.now 0 c.as_slice-blocks.result.now ≡ plan_list c.args.program.now =
    ap (all_planned c.as_slice.result.now c.as_slice-2.result.now 0) c.as_slice-blocks.ensures ∙ plans_are c.args.program.now c.as_slice.result.now c.as_slice-2.result.now (successors_there c.args.program.now c.requires.well_formed) counts marks in
    subst (λ (z : List Plan). IfOk c.plans_of.result (λ v. map plan_as v.items ≡ z)) same c.plans_of.ensures
