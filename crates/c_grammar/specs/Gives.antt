-- What a function returned, against what reading gives.
use Rattle.std.specs.Prelude.{◌≡◌, Option, Some, None, Result, Ok, Err}
use Rattle.c_grammar.specs.declared.fault.Fault.{Fault}
use Rattle.c_grammar.specs.declared.fault.Fault.TheVariants as faults

-- Nothing is read, unless memory ran out.
abbrev pub Fails : {B : Type 0} → Fault → Option B → Type 0
Fails (faults.NoProgram left) read = read ≡ None
Fails faults.OutOfMemory read = Unit {0}

-- It is what reading gives, seen by view, unless memory ran out.
abbrev pub Gives : {A B : Type 0} → (A → B) → Result A Fault → Option B → Type 0
Gives view (Ok x) read = read ≡ Some (view x)
Gives view (Err e) read = Fails e read
