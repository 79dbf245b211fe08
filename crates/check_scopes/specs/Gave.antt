-- What a call that walks answers.
use Rattle.std.specs.Prelude.{◌≡◌, Result, Ok, Err}
use Rattle.check_rules.specs.declared.error.CheckError.{CheckError}
use Rattle.check_rules.specs.declared.error.CheckError.TheVariants as errors
use Rattle.check_rules.specs.Fault.{Walk}

-- what the walk gives, or its first fault; where there was no memory, anything
abbrev pub Gave : {A : Type 0} → Result A CheckError → Walk A → Type 0
Gave (Ok a) walk = walk ≡ Ok a
Gave (Err (errors.Fault kind at)) walk = walk ≡ Err (record { kind = kind; at = at })
Gave (Err errors.OutOfMemory) walk = Unit {0}

-- the same, with what is passed on
abbrev pub GaveAt : {A W : Type 0} → Result A CheckError → W → Walk (A × W) → Type 0
GaveAt (Ok a) w walk = walk ≡ Ok (a, w)
GaveAt (Err (errors.Fault kind at)) w walk = walk ≡ Err (record { kind = kind; at = at })
GaveAt (Err errors.OutOfMemory) w walk = Unit {0}

-- the same, with two things that are passed on
abbrev pub GaveBoth : {A V W : Type 0} → Result A CheckError → V → W → Walk (A × V × W) → Type 0
GaveBoth (Ok a) v w walk = walk ≡ Ok (a, v, w)
GaveBoth (Err (errors.Fault kind at)) v w walk = walk ≡ Err (record { kind = kind; at = at })
GaveBoth (Err errors.OutOfMemory) v w walk = Unit {0}
