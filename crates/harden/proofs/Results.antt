-- What holds of an answer.
use Rattle.std.specs.Prelude.{Result, Ok, Err, IfOk}

pub for_ok : {A E : Type 0} (r : Result A E) (P Q : A → Type 0) → IfOk r P → ((a : A) → P a → Q a) → IfOk r Q
for_ok (Ok a) P Q h k = k a h
for_ok (Err e) P Q h k = tt

pub both_ok : {A E : Type 0} (r : Result A E) (P Q : A → Type 0) → IfOk r P → IfOk r Q → IfOk r (λ a. P a × Q a)
both_ok (Ok a) P Q h k = (h, k)
both_ok (Err e) P Q h k = tt
