-- What stands before and behind the lines of a body. It serves private contracts.
use Rattle.std.specs.Prelude.{ℕ, ◌+◌, ◌<◌, ◌^◌, Bool, List, [], ◌∷◌, ◌++◌, Option, Some, None}
use Rattle.mid_blocks.specs.declared.code.MidOp.TheVariants.{Add, Ne}
use Rattle.mid_blocks.specs.declared.code.MidStep.TheVariants.{Constant, Operate, Load, Store, Deep}
use Rattle.mid_blocks.specs.declared.code.MidEnd.TheVariants.{Jump, Return}
use Rattle.mid_blocks.specs.Lines.{Line, Step, End}
use Rattle.lower_rules.specs.Functions as law
use Rattle.lower_rules.specs.Functions.{fallen_off, returned_from, end_lines}
use Rattle.lower_functions.specs.declared.bodies.Counter.{Counter}

-- where a function counts its active calls
abbrev pub counted : Option Counter → Option law.Counter
counted None = None
counted (Some c) = Some (record { global = c.global; spare = c.spare })

-- both variables have numbers
abbrev pub HasRoom : Option Counter → Type 0
HasRoom None = Unit {0}
HasRoom (Some c) = c.spare + 1 < 2 ^ 32

-- trap 9 where 256 calls are active
abbrev pub deep_lines : Counter → List Line
deep_lines c = Step (Load c.spare c.global None) ∷ Step (Constant (c.spare + 1) 256) ∷ Step (Operate Ne (c.spare + 1) c.spare (c.spare + 1)) ∷
    Step (Deep (c.spare + 1)) ∷ []

-- the number is raised
abbrev pub raise_lines : Counter → List Line
raise_lines c = Step (Constant (c.spare + 1) 1) ∷ Step (Operate Add c.spare c.spare (c.spare + 1)) ∷ Step (Store c.global None c.spare) ∷ []

-- the end of a body and the block that returns
abbrev pub last_lines : Bool → ℕ → Option law.Counter → ℕ → List Line
last_lines has_value free counter last =
    fallen_off has_value free ++ (End (Jump last) ∷ (end_lines counter ++ End (Return (returned_from has_value free)) ∷ []))
