use Rattle.std.proofs.Common.{◌≡◌, ap, sym, ◌∙◌, subst, List, map}
use Rattle.hard_items.specs.declared.code.HardBlock.{HardBlock}
use Rattle.hard_items.specs.declared.code.HardProgram.{HardProgram}
use Rattle.hard_items.specs.Rules.{Apart, Guarded, NeverReports}
use Rattle.hard_items.specs.Counts.{Calm, Turned, TurnedThrough}
use Rattle.hard_items.specs.Runs.{SameRuns}
use Rattle.block_schedule.specs.Scheduling.{scheduled_block}
use Rattle.hard_items.specs.Counted.{HasNoFreeNop, AreBusy}
use Rattle.block_schedule.specs.Law.{KeepsCounts}
use Rattle.block_schedule.proofs.Law.{same_runs, apart, never_reports, guarded, calm, counts, turned_, turned_through}
use Rattle.block_schedule.proofs.pass.interleave.Goals as goal

abbrev with_blocks : HardProgram → List HardBlock → HardProgram
with_blocks p blocks = record { blocks = blocks; entries = p.entries; initial = p.initial; memory_words = p.memory_words }

blocks_are : (c : goal.After-from_vec-blocks) → map scheduled_block c.args.program.blocks ≡ c.from_vec-blocks.result
blocks_are c = sym (c.from_vec-blocks.ensures ∙ (c.in_ok-schedule_blocks.ensures ∙ ap (λ (bs : List HardBlock). map scheduled_block bs) c.into_vec.ensures))

pub returns-clause-same_runs : goal.returns-clause-same_runs
returns-clause-same_runs c = subst (λ (bs : List HardBlock). SameRuns c.args.program (with_blocks c.args.program bs)) (blocks_are c) (same_runs c.args.program c.requires)

pub returns-clause-apart : goal.returns-clause-apart
returns-clause-apart c = subst (λ (bs : List HardBlock). Apart (with_blocks c.args.program bs)) (blocks_are c) (apart c.args.program c.requires)

pub returns-clause-never_reports : goal.returns-clause-never_reports
returns-clause-never_reports c = subst (λ (bs : List HardBlock). NeverReports c.args.program → NeverReports (with_blocks c.args.program bs)) (blocks_are c) (never_reports c.args.program c.requires)

pub returns-clause-guarded : goal.returns-clause-guarded
returns-clause-guarded c = subst (λ (bs : List HardBlock). Guarded c.args.program → Guarded (with_blocks c.args.program bs)) (blocks_are c) (guarded c.args.program c.requires)

pub returns-clause-calm : goal.returns-clause-calm
returns-clause-calm c = subst (λ (bs : List HardBlock). Calm (with_blocks c.args.program bs)) (blocks_are c) (calm c.args.program c.requires)

pub returns-clause-counts : goal.returns-clause-counts
returns-clause-counts c = subst (λ (bs : List HardBlock). KeepsCounts c.args.program (with_blocks c.args.program bs)) (blocks_are c) (counts c.args.program c.requires)

pub returns-clause-turned : goal.returns-clause-turned
returns-clause-turned c = subst (λ (bs : List HardBlock). HasNoFreeNop c.args.program → AreBusy c.args.program → Turned (with_blocks c.args.program bs)) (blocks_are c) (turned_ c.args.program c.requires)

pub returns-clause-turned_through : goal.returns-clause-turned_through
returns-clause-turned_through c = subst (λ (bs : List HardBlock). HasNoFreeNop c.args.program → AreBusy c.args.program → TurnedThrough (with_blocks c.args.program bs)) (blocks_are c) (turned_through c.args.program c.requires)
