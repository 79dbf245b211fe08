-- The lines that an expression is lowered to. Each construct takes a number of blocks that its tree decides, so that every target is a number
-- when the line is written: the number of a block is the number of the ends before it. A value's lines begin in an open block and leave one
-- open; the lines of a condition end in two blocks, of which one follows them.
use Rattle.std.specs.Prelude.{ℕ, ◌+◌, ◌-◌, ◌^◌, Bool, true, false, not, if◌then◌else◌, List, [], ◌∷◌, ◌++◌, length, Option, Some, None}
use Rattle.c_syntax.specs.declared.tree.BinaryOp.{BinaryOp}
use Rattle.c_syntax.specs.declared.tree.BinaryOp.TheVariants as c
use Rattle.c_syntax.specs.declared.tree.UnaryOp.{UnaryOp}
use Rattle.c_syntax.specs.declared.tree.UnaryOp.TheVariants.{Minus, Plus, Flip, Not}
use Rattle.c_syntax.specs.declared.tree.Expr.{Expr, fold-Expr}
use Rattle.c_syntax.specs.declared.tree.Expr.TheOpen.{Expr-F}
use Rattle.c_meaning.specs.Operators.{common, binary_type, operand_type, unary_type}
use Rattle.mid_blocks.specs.declared.code.MidOp.{MidOp}
use Rattle.mid_blocks.specs.declared.code.MidOp.TheVariants as mid
use Rattle.mid_blocks.specs.declared.code.MidStep.{MidStep}
use Rattle.mid_blocks.specs.declared.code.MidStep.TheVariants.{Constant, Copy, Operate, Guard, Load, Store, Input, Output}
use Rattle.mid_blocks.specs.declared.code.MidEnd.TheVariants.{Jump, Branch, Call}
use Rattle.mid_blocks.specs.Lines.{Line, Step, End}
use Rattle.lower_rules.specs.Bindings.{Bindings, Callee, InWord, OutWord, Defined, NoFunction, Symbol}
use Rattle.lower_rules.specs.Bindings.{Local, Global, Array, Nothing, symbol, name_unsigned, callee_void, callee_unsigned}

-- ---- operators

-- the operation of an operator on operands that are unsigned or not; for `<=` and `>=` that of the comparison that is turned round
abbrev pub operation : BinaryOp → Bool → MidOp
operation c.Mul u = mid.Mul
operation c.Div u = if u then mid.DivU else mid.Div
operation c.Rem u = if u then mid.RemU else mid.Rem
operation c.Add u = mid.Add
operation c.Sub u = mid.Sub
operation c.Shl u = mid.Shl
operation c.Shr u = if u then mid.Shr else mid.Sar
operation c.Lt u = if u then mid.LtU else mid.Lt
operation c.Gt u = if u then mid.LtU else mid.Lt
operation c.Le u = if u then mid.LtU else mid.Lt
operation c.Ge u = if u then mid.LtU else mid.Lt
operation c.Eq u = mid.Eq
operation c.Ne u = mid.Ne
operation c.And u = mid.And
operation c.Xor u = mid.Xor
operation c.Or u = mid.Or

-- one operation, on the variables t and r or the other way round
abbrev pub direct : MidOp → ℕ → ℕ → List Line
direct op t r = Step (Operate op t t r) ∷ []

abbrev pub swapped : MidOp → ℕ → ℕ → List Line
swapped op t r = Step (Operate op t r t) ∷ []

-- whether the comparison before it doesn't hold
abbrev pub negated : ℕ → ℕ → List Line
negated t r = Step (Constant r 0) ∷ Step (Operate mid.Eq t t r) ∷ []

-- t becomes the result of an operator on t and r, and r is free
abbrev pub binary_lines : BinaryOp → Bool → ℕ → ℕ → List Line
binary_lines c.Gt u t r = swapped (operation c.Gt u) t r
binary_lines c.Le u t r = swapped (operation c.Le u) t r ++ negated t r
binary_lines c.Ge u t r = direct (operation c.Ge u) t r ++ negated t r
binary_lines op u t r = direct (operation op u) t r

-- t becomes the result of a unary operator on it; r is free; the complement is -1 less the word
abbrev pub unary_lines : UnaryOp → ℕ → ℕ → List Line
unary_lines Minus t r = Step (Constant r 0) ∷ Step (Operate mid.Sub t r t) ∷ []
unary_lines Plus t r = []
unary_lines Flip t r = Step (Constant r (2 ^ 32 - 1)) ∷ Step (Operate mid.Sub t r t) ∷ []
unary_lines Not t r = negated t r

-- ---- places

-- what an expression designates, where it designates anything: a name, or the element of a name whose index stands in a variable
pub data Target : Type 0 where
  Neither : Target
  Named : ℕ → Target
  Indexed : ℕ → Target

-- reads what a symbol stands for, at the index in a variable
abbrev pub read_step : Symbol → ℕ → ℕ → MidStep
read_step (Local v) index to = Copy to v
read_step (Global g) index to = Load to g None
read_step (Array g) index to = Load to g (Some index)
read_step Nothing index to = Constant to 0

abbrev pub write_step : Symbol → ℕ → ℕ → MidStep
write_step (Local v) index from = Copy v from
write_step (Global g) index from = Store g None from
write_step (Array g) index from = Store g (Some index) from
write_step Nothing index from = Constant from 0

abbrev pub guard_step : Symbol → ℕ → MidStep
guard_step (Array g) index = Guard g index
guard_step _ index = Constant index 0

abbrev pub target_symbol : Bindings → Target → Symbol
target_symbol names Neither = Nothing
target_symbol names (Named name) = symbol names name
target_symbol names (Indexed name) = symbol names name

-- the first variable that is free beside a target's index
abbrev pub beside : Target → ℕ → ℕ
beside (Indexed name) t = t + 1
beside _ t = t

-- brings a word from u to t, where they differ
abbrev pub moved_down : Target → ℕ → ℕ → List Line
moved_down (Indexed name) t u = Step (Copy t u) ∷ []
moved_down _ t u = []

-- ---- expressions

pub record LowExpr : Type 0 where
  -- how many ends its value's lines have, and these lines: from the number of the block and the variable that takes the value
  pub blocks : ℕ
  pub value : ℕ → ℕ → List Line
  -- the same of its lines as a condition: from the block, a free variable, the block where it goes on where the value isn't 0, the one
  -- where it is 0, and whether the first follows, else the second
  pub condition_blocks : ℕ
  pub condition : ℕ → ℕ → ℕ → ℕ → Bool → List Line
  -- what it designates, and the lines that leave a tested index in a variable
  pub target : Target
  pub place_blocks : ℕ
  pub place : ℕ → ℕ → List Line
  -- its type
  pub is_unsigned : Bool
  pub is_void : Bool

-- a value that is tested
abbrev pub test_lines : (ℕ → ℕ → List Line) → ℕ → ℕ → ℕ → ℕ → Bool → List Line
test_lines value b t holds fails holds_next = value b t ++ End (Branch t (not holds_next) (if holds_next then fails else holds)) ∷ []

-- an expression that designates nothing and is a condition by its value
abbrev pub plain : ℕ → (ℕ → ℕ → List Line) → Bool → LowExpr
plain blocks value is_unsigned = record {
  blocks = blocks;
  value = value;
  condition_blocks = blocks + 1;
  condition = test_lines value;
  target = Neither;
  place_blocks = 0;
  place = λ b t. [];
  is_unsigned = is_unsigned;
  is_void = false;
}

-- 1 or 0 by a condition
abbrev pub truth_lines : ℕ → (ℕ → ℕ → ℕ → ℕ → Bool → List Line) → ℕ → ℕ → List Line
truth_lines blocks condition b t =
    condition b t (b + blocks) (b + blocks + 1) true
    ++ (Step (Constant t 1) ∷ End (Jump (b + blocks + 2))
    ∷ Step (Constant t 0) ∷ End (Jump (b + blocks + 2)) ∷ [])

-- both operands of `&&` or of `||` as conditions
abbrev pub logic_lines : Bool → LowExpr → LowExpr → ℕ → ℕ → ℕ → ℕ → Bool → List Line
logic_lines true left right b t holds fails holds_next =
    left.condition b t (b + left.condition_blocks) fails true ++ right.condition (b + left.condition_blocks) t holds fails holds_next
logic_lines false left right b t holds fails holds_next =
    left.condition b t holds (b + left.condition_blocks) false ++ right.condition (b + left.condition_blocks) t holds fails holds_next

abbrev pub choose_lines : LowExpr → LowExpr → LowExpr → ℕ → ℕ → List Line
choose_lines test a b at t =
    let holds : ℕ = at + test.condition_blocks in
    let fails : ℕ = holds + a.blocks + 1 in
    let join : ℕ = fails + b.blocks + 1 in
    test.condition at t holds fails true ++ (a.value holds t ++ (End (Jump join) ∷ (b.value fails t ++ End (Jump join) ∷ [])))

-- the values of arguments in variables one after the other
abbrev pub args_blocks : List LowExpr → ℕ
args_blocks [] = 0
args_blocks (e ∷ es) = e.blocks + args_blocks es

abbrev pub args_lines : List LowExpr → ℕ → ℕ → List Line
args_lines [] b t = []
args_lines (e ∷ es) b t = e.value b t ++ args_lines es (b + e.blocks) (t + 1)

-- so many variables one after the other
abbrev pub from_on : ℕ → ℕ → List ℕ
from_on ℕ.zero t = []
from_on (ℕ.suc n) t = t ∷ from_on n (t + 1)

abbrev pub callee_blocks : Callee → ℕ
callee_blocks InWord = 0
callee_blocks OutWord = 0
callee_blocks (Defined number arity is_void is_unsigned) = 1
callee_blocks NoFunction = 0

abbrev pub result_in : Bool → ℕ → Option ℕ
result_in true t = None
result_in false t = Some t

abbrev pub callee_lines : Callee → ℕ → ℕ → List Line
callee_lines InWord count t = Step (Input t) ∷ []
callee_lines OutWord count t = Step (Output t) ∷ []
callee_lines (Defined number arity is_void is_unsigned) count t = End (Call number (from_on count t) (result_in is_void t)) ∷ []
callee_lines NoFunction count t = []

-- a place, and what it holds
abbrev pub fetch_lines : Bindings → Target → (ℕ → ℕ → List Line) → ℕ → ℕ → List Line
fetch_lines names target place b t = place b t ++ Step (read_step (target_symbol names target) t t) ∷ []

-- the place, the value, the store; u is the variable beside the index
abbrev pub assign_lines : Bindings → LowExpr → LowExpr → ℕ → ℕ → ℕ → List Line
assign_lines names place right b t u =
    place.place b t ++ (right.value (b + place.place_blocks) u
    ++ (Step (write_step (target_symbol names place.target) t u) ∷ moved_down place.target t u))

-- the place, what it holds, the value, the operator, the store
abbrev pub assign_by_lines : Bindings → BinaryOp → LowExpr → LowExpr → ℕ → ℕ → ℕ → List Line
assign_by_lines names op place right b t u =
    place.place b t ++ (Step (read_step (target_symbol names place.target) t u)
    ∷ (right.value (b + place.place_blocks) (u + 1)
    ++ (binary_lines op (operand_type op place.is_unsigned right.is_unsigned) u (u + 1)
    ++ (Step (write_step (target_symbol names place.target) t u) ∷ moved_down place.target t u))))

abbrev pub assign_with_lines : Bindings → Option BinaryOp → LowExpr → LowExpr → ℕ → ℕ → ℕ → List Line
assign_with_lines names None place right b t u = assign_lines names place right b t u
assign_with_lines names (Some op) place right b t u = assign_by_lines names op place right b t u

abbrev pub bump_operation : Bool → MidOp
bump_operation up = if up then mid.Add else mid.Sub

-- the new value, or the old one, brought down to t
abbrev pub bump_result : Bool → Target → ℕ → ℕ → List Line
bump_result true target t u = Step (Copy t (u + 1)) ∷ []
bump_result false target t u = moved_down target t u

-- the place, what it holds, one more or one less, the store
abbrev pub bump_lines : Bindings → Bool → Bool → LowExpr → ℕ → ℕ → ℕ → List Line
bump_lines names up before place b t u =
    place.place b t ++ (Step (read_step (target_symbol names place.target) t u)
    ∷ Step (Constant (u + 1) 1)
    ∷ Step (Operate (bump_operation up) (u + 1) u (u + 1))
    ∷ Step (write_step (target_symbol names place.target) t (u + 1))
    ∷ bump_result before place.target t u)

-- a unary operator; `!` turns a condition round
abbrev pub not_or_test : UnaryOp → LowExpr → (ℕ → ℕ → List Line) → ℕ × (ℕ → ℕ → ℕ → ℕ → Bool → List Line)
not_or_test Not operand value = (operand.condition_blocks, λ b t holds fails holds_next. operand.condition b t fails holds (not holds_next))
not_or_test _ operand value = (operand.blocks + 1, test_lines value)

abbrev pub low_unary : UnaryOp → LowExpr → LowExpr
low_unary op operand =
    let value : ℕ → ℕ → List Line = λ b t. operand.value b t ++ unary_lines op t (t + 1) in
    record (plain operand.blocks value (unary_type op operand.is_unsigned)) {
      condition_blocks = (not_or_test op operand value).0;
      condition = (not_or_test op operand value).1;
    }

abbrev pub low_binary : BinaryOp → LowExpr → LowExpr → LowExpr
low_binary op left right = plain (left.blocks + right.blocks)
    (λ b t. left.value b t ++ (right.value (b + left.blocks) (t + 1) ++ binary_lines op (operand_type op left.is_unsigned right.is_unsigned) t (t + 1)))
    (binary_type op left.is_unsigned right.is_unsigned)

abbrev pub low_call : Callee → List LowExpr → LowExpr
low_call callee args = record (plain (args_blocks args + callee_blocks callee)
    (λ b t. args_lines args b t ++ callee_lines callee (length args) t)
    (callee_unsigned callee)) { is_void = callee_void callee }

-- a name, or an indexed name
abbrev pub low_place : Bindings → ℕ → Target → ℕ → (ℕ → ℕ → List Line) → LowExpr
low_place names name target blocks place = record (plain blocks (fetch_lines names target place) (name_unsigned names name)) {
  target = target;
  place_blocks = blocks;
  place = place;
}

-- one level of an expression
abbrev pub low_step : Bindings → Expr-F LowExpr → LowExpr
low_step names (Expr-F.Literal word is_unsigned at) = plain 0 (λ b t. Step (Constant t word) ∷ []) is_unsigned
low_step names (Expr-F.Name name at) = low_place names name (Named name) 0 (λ b t. [])
low_step names (Expr-F.Index name index at) =
    low_place names name (Indexed name) index.blocks (λ b t. index.value b t ++ Step (guard_step (symbol names name) t) ∷ [])
low_step names (Expr-F.Call name args at) = low_call (names.callee name) args
low_step names (Expr-F.Unary op operand at) = low_unary op operand
low_step names (Expr-F.Binary op left right at) = low_binary op left right
low_step names (Expr-F.Logic is_and left right at) = record (plain (left.condition_blocks + right.condition_blocks + 2)
    (truth_lines (left.condition_blocks + right.condition_blocks) (logic_lines is_and left right)) false) {
      condition_blocks = left.condition_blocks + right.condition_blocks;
      condition = logic_lines is_and left right;
    }
low_step names (Expr-F.Choose test a b at) =
    plain (test.condition_blocks + a.blocks + 1 + b.blocks + 1) (choose_lines test a b) (common a.is_unsigned b.is_unsigned)
low_step names (Expr-F.Assign op place right at) = plain (place.place_blocks + right.blocks)
    (λ b t. assign_with_lines names op place right b t (beside place.target t)) place.is_unsigned
low_step names (Expr-F.Bump up before place at) = plain place.place_blocks
    (λ b t. bump_lines names up before place b t (beside place.target t)) place.is_unsigned
low_step names (Expr-F.Comma left right at) = record (plain (left.blocks + right.blocks)
    (λ b t. left.value b t ++ right.value (b + left.blocks) t) right.is_unsigned) { is_void = right.is_void }
low_step names (Expr-F.Paren inner at) = inner

abbrev pub low : Bindings → Expr → LowExpr
low names = fold-Expr LowExpr (low_step names)
