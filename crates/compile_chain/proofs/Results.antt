-- What holds of a result also holds of what follows from it.
use Rattle.std.proofs.Common.{◌≡◌, ◌∙◌}
use Rattle.std.specs.Prelude.{Result, Ok, Err, IfOk, IfErr, IsOkUnless}
use Rattle.std.specs.Result.{IsErrAnd}
use Rattle.compile_rules.specs.declared.refusal.Refusal.{Refusal}
use Rattle.compile_rules.specs.declared.refusal.Refusal.TheVariants.{OutOfMemory}

pub if_ok : {A B : Type 0} (r : Result A B) (P Q : A → Type 0) → ((a : A) → P a → Q a) → IfOk r P → IfOk r Q
if_ok (Ok a) P Q f h = f a h
if_ok (Err b) P Q f h = tt

pub if_err : {A B : Type 0} (r : Result A B) (P Q : B → Type 0) → ((b : B) → P b → Q b) → IfErr r P → IfErr r Q
if_err (Ok a) P Q f h = tt
if_err (Err b) P Q f h = f b h

-- what is refused for want of memory alone
pub unless : {A : Type 0} (r : Result A Refusal) (refusal : Refusal) → IsErrAnd r (λ x. x ≡ refusal) → refusal ≡ OutOfMemory → IsOkUnless r OutOfMemory
unless (Ok a) refusal is memory = tt
unless (Err x) refusal is memory = is ∙ memory
