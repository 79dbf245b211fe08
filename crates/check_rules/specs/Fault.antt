-- Faults of a program, and a part of the walk that looks for the first of them.
use Rattle.std.specs.Prelude.{ℕ, Bool, true, false, Option, Some, None, Result, Ok, Err}
use Rattle.check_rules.specs.declared.error.CheckKind.{CheckKind}

-- what is wrong, and the byte at which it is shown
pub record Fault : Type 0 where
  pub kind : CheckKind
  pub at : ℕ

-- a part of the walk: what it gives, or the first fault that it meets
abbrev pub Walk : Type 0 → Type 0
Walk A = Result A Fault

-- goes on where there was no fault
infixl 10 ◌>>=◌
abbrev pub ◌>>=◌ : {A B : Type 0} → Walk A → (A → Walk B) → Walk B
Ok a >>= go = go a
Err f >>= go = Err f

infixl 10 ◌>>◌
abbrev pub ◌>>◌ : {A B : Type 0} → Walk A → Walk B → Walk B
Ok a >> next = next
Err f >> next = Err f

abbrev pub fault : {A : Type 0} → CheckKind → ℕ → Walk A
fault kind at = Err (record { kind = kind; at = at })

-- a fault, unless the test holds
abbrev pub require : Bool → CheckKind → ℕ → Walk (Unit {0})
require true kind at = Ok tt
require false kind at = fault kind at

-- a fault at this place, where there is one
abbrev pub refuse : Option ℕ → CheckKind → Walk (Unit {0})
refuse None kind = Ok tt
refuse (Some at) kind = fault kind at
