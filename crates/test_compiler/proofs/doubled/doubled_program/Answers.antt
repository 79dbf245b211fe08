use Rattle.std.specs.Prelude.{Result, Ok, Err, IfOk}
use Rattle.hard_items.specs.Rules.{Twin}
use Rattle.hard_items.specs.WellFormed.{WellFormed}
use Rattle.test_compiler.proofs.doubled.doubled_program.Goals as goal

if_ok : {A B : Type 0} (r : Result A B) (P Q : A → Type 0) → ((a : A) → P a → Q a) → IfOk r P → IfOk r Q
if_ok (Ok a) P Q f h = f a h
if_ok (Err b) P Q f h = tt

pub returns : goal.returns
returns c = if_ok c.duplicate.result Twin WellFormed (λ p t. t.apart.well_formed) c.duplicate.ensures.twin
