use Rattle.std.proofs.Common.{◌≡◌, ap, sym, ◌∙◌, subst, List, map}
use Rattle.hard_items.specs.declared.code.HardBlock.{HardBlock}
use Rattle.hard_items.specs.declared.code.HardProgram.{HardProgram}
use Rattle.hard_items.specs.Rules.{Twin, Guarded}
use Rattle.compare_pass.specs.Guarding.{checked_block}
use Rattle.hard_items.specs.Runs.{SameRuns}
use Rattle.compare_pass.specs.Law.{SameCounts}
use Rattle.compare_pass.proofs.Law.{guarded, twin, same_runs, counts}
use Rattle.compare_pass.proofs.pass.guard.Goals as goal

abbrev with_blocks : HardProgram → List HardBlock → HardProgram
with_blocks p blocks = record { blocks = blocks; entries = p.entries; initial = p.initial; memory_words = p.memory_words }

blocks_are : (c : goal.After-from_vec-blocks) → map checked_block c.args.program.blocks ≡ c.from_vec-blocks.result
blocks_are c = sym (c.from_vec-blocks.ensures ∙ (c.in_ok-guard_blocks.ensures ∙ ap (λ (bs : List HardBlock). map checked_block bs) c.into_vec.ensures))

pub returns-clause-same_runs : goal.returns-clause-same_runs
returns-clause-same_runs c = subst (λ (bs : List HardBlock). SameRuns c.args.program (with_blocks c.args.program bs)) (blocks_are c) (same_runs c.args.program c.requires)

pub returns-clause-guarded : goal.returns-clause-guarded
returns-clause-guarded c = subst (λ (bs : List HardBlock). Guarded (with_blocks c.args.program bs)) (blocks_are c) (guarded c.args.program c.requires)

pub returns-clause-twin : goal.returns-clause-twin
returns-clause-twin c = subst (λ (bs : List HardBlock). Twin (with_blocks c.args.program bs)) (blocks_are c) (twin c.args.program c.requires)

pub returns-clause-counts_stay : goal.returns-clause-counts_stay
returns-clause-counts_stay c = subst (λ (bs : List HardBlock). SameCounts c.args.program (with_blocks c.args.program bs)) (blocks_are c) (counts c.args.program c.requires)
