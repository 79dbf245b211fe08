use Rattle.std.proofs.Common.{◌≡◌}
use Rattle.hard_items.specs.Rules.{Twin}
use Rattle.double_law.specs.Law.{RunsAsBlocks}
use Rattle.double_law.specs.Laws.{CountsFit}
use Rattle.duplicate_pass.specs.Doubled.{doubled_program}
use Rattle.duplicate_pass.proofs.Emitted.{for_ok}
use Rattle.duplicate_pass.proofs.Doubled.{all_given}
use Rattle.duplicate_pass.proofs.pass.duplicate.Goals as goal

pub returns-clause-runs : goal.returns-clause-runs
returns-clause-runs c = for_ok c.emit.result (λ p. p ≡ doubled_program c.args.mid.now c.args.places.now) (RunsAsBlocks c.args.mid.now) c.emit.ensures
    (λ p e. (all_given c.args.mid.now c.args.places.now p c.requires.valid c.requires.shallow c.requires.proper c.requires.words c.requires.fit e c.doubled_runs.ensures c.doubled_twin.ensures c.doubled_counts.ensures).0)

pub returns-clause-twin : goal.returns-clause-twin
returns-clause-twin c = for_ok c.emit.result (λ p. p ≡ doubled_program c.args.mid.now c.args.places.now) Twin c.emit.ensures
    (λ p e. (all_given c.args.mid.now c.args.places.now p c.requires.valid c.requires.shallow c.requires.proper c.requires.words c.requires.fit e c.doubled_runs.ensures c.doubled_twin.ensures c.doubled_counts.ensures).1.0)

pub returns-clause-counts : goal.returns-clause-counts
returns-clause-counts c = for_ok c.emit.result (λ p. p ≡ doubled_program c.args.mid.now c.args.places.now) (CountsFit c.args.mid.now) c.emit.ensures
    (λ p e. (all_given c.args.mid.now c.args.places.now p c.requires.valid c.requires.shallow c.requires.proper c.requires.words c.requires.fit e c.doubled_runs.ensures c.doubled_twin.ensures c.doubled_counts.ensures).1.1)
