-- The blocks of a function: its lines, cut behind each end.
use Rattle.std.specs.Prelude.{ℕ, ◌+◌, Bool, true, false, List, [], ◌∷◌, ◌++◌, map, Option, Some, None}
use Rattle.c_syntax.specs.declared.tree.Stmt.{Stmt}
use Rattle.mid_blocks.specs.declared.code.MidStep.{MidStep}
use Rattle.mid_blocks.specs.declared.code.MidOp.TheVariants.{Add, Sub, Ne}
use Rattle.mid_blocks.specs.declared.code.MidStep.TheVariants.{Constant, Operate, Load, Store, Deep}
use Rattle.mid_blocks.specs.declared.code.MidEnd.TheVariants.{Jump, Return}
use Rattle.mid_blocks.specs.declared.code.MidBlock.{MidBlock}
use Rattle.mid_blocks.specs.Lines.{Line, Step, End}
use Rattle.lower_rules.specs.Bindings.{Bindings}
use Rattle.lower_rules.specs.Statements.{LowStmt, low_statement, low_list}

-- the steps so far, and then the lines; what stands behind the last end is no block
abbrev pub cut : List MidStep → List Line → List MidBlock
cut steps [] = []
cut steps (Step step ∷ lines) = cut (steps ++ step ∷ []) lines
cut steps (End end ∷ lines) = record { steps = steps; end = end } ∷ cut [] lines

-- a function of which some `return` has a value returns the word in its first free variable, 0 where it falls off its end
abbrev pub fallen_off : Bool → ℕ → List Line
fallen_off true free = Step (Constant free 0) ∷ []
fallen_off false free = []

abbrev pub returned_from : Bool → ℕ → Option ℕ
returned_from true free = Some free
returned_from false free = None

-- where a recursive function counts its active calls: the global that holds the number, and the first of two variables for it
pub record Counter : Type 0 where
  pub global : ℕ
  pub spare : ℕ

-- where 256 calls are active one more is trap 9; else the number is raised
abbrev pub begin_lines : Option Counter → List Line
begin_lines None = []
begin_lines (Some c) =
    Step (Load c.spare c.global None) ∷ Step (Constant (c.spare + 1) 256) ∷ Step (Operate Ne (c.spare + 1) c.spare (c.spare + 1)) ∷ Step (Deep (c.spare + 1))
    ∷ Step (Constant (c.spare + 1) 1) ∷ Step (Operate Add c.spare c.spare (c.spare + 1)) ∷ Step (Store c.global None c.spare) ∷ []

-- the number is lowered
abbrev pub end_lines : Option Counter → List Line
end_lines None = []
end_lines (Some c) = Step (Load c.spare c.global None) ∷ Step (Constant (c.spare + 1) 1) ∷ Step (Operate Sub c.spare c.spare (c.spare + 1))
    ∷ Step (Store c.global None c.spare) ∷ []

-- the lines of a body whose variables end at `free`, with its return block last
abbrev pub body_lines : Bindings → Bool → ℕ → Option Counter → List Stmt → List Line
body_lines names has_value free counter body =
    let c : LowStmt = low_list (map (low_statement names) body) in
    let last : ℕ = c.blocks + 1 in
    begin_lines counter ++ (c.lines (record { breaks_to = 0; continues_to = 0; returns_to = last; free = free }) 0
    ++ (fallen_off has_value free ++ (End (Jump last) ∷ (end_lines counter ++ End (Return (returned_from has_value free)) ∷ []))))
