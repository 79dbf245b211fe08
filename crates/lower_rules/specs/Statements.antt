-- The lines that a statement is lowered to. They begin in an open block and leave one open; a statement that leaves by a jump is followed by a
-- block of its own, which nothing may reach.
use Rattle.std.specs.Prelude.{ℕ, ◌+◌, true, false, if◌then◌else◌, List, [], ◌∷◌, ◌++◌, map, Option, Some, None}
use Rattle.c_syntax.specs.declared.tree.Expr.{Expr}
use Rattle.c_syntax.specs.declared.tree.Local.{Local}
use Rattle.c_syntax.specs.declared.tree.Stmt.{Stmt, fold-Stmt}
use Rattle.c_syntax.specs.declared.tree.Clause.{Clause, fold-Clause}
use Rattle.c_syntax.specs.declared.tree.Stmt.TheOpen.{Stmt-F, Clause-F}
use Rattle.std.specs.List.{list_any}
use Rattle.c_meaning.specs.Meaning.{label_word, is_label}
use Rattle.mid_blocks.specs.declared.code.MidOp.TheVariants.{Eq}
use Rattle.mid_blocks.specs.declared.code.MidStep.TheVariants.{Constant, Copy, Operate}
use Rattle.mid_blocks.specs.declared.code.MidEnd.TheVariants.{Jump, Branch}
use Rattle.mid_blocks.specs.Lines.{Line, Step, End}
use Rattle.lower_rules.specs.Bindings.{Bindings}
use Rattle.lower_rules.specs.Expressions.{LowExpr, low}

-- where a statement's jumps go: behind the innermost loop, to its next turn, and to the function's return; and the first free variable
pub record Context : Type 0 where
  pub breaks_to : ℕ
  pub continues_to : ℕ
  pub returns_to : ℕ
  pub free : ℕ

pub record LowStmt : Type 0 where
  -- how many ends its lines have, and the lines
  pub blocks : ℕ
  pub lines : Context → ℕ → List Line

-- inside a loop
abbrev pub in_loop : ℕ → ℕ → Context → Context
in_loop breaks_to continues_to to = record to { breaks_to = breaks_to; continues_to = continues_to }

-- ---- parts that may be left out

abbrev pub value_blocks : Option LowExpr → ℕ
value_blocks None = 0
value_blocks (Some e) = e.blocks

abbrev pub value_lines : Option LowExpr → ℕ → ℕ → List Line
value_lines None b t = []
value_lines (Some e) b t = e.value b t

-- a test that is left out holds
abbrev pub test_blocks : Option LowExpr → ℕ
test_blocks None = 0
test_blocks (Some e) = e.condition_blocks

abbrev pub test_lines_if : Option LowExpr → ℕ → ℕ → ℕ → ℕ → List Line
test_lines_if None b t holds fails = []
test_lines_if (Some e) b t holds fails = e.condition b t holds fails true

abbrev pub low_if : Bindings → Option Expr → Option LowExpr
low_if names None = None
low_if names (Some e) = Some (low names e)

-- ---- one after another

abbrev pub list_blocks : List LowStmt → ℕ
list_blocks [] = 0
list_blocks (c ∷ cs) = c.blocks + list_blocks cs

abbrev pub list_lines : List LowStmt → Context → ℕ → List Line
list_lines [] to b = []
list_lines (c ∷ cs) to b = c.lines to b ++ list_lines cs to (b + c.blocks)

-- ---- declarations

abbrev pub local_variable : Option ℕ → ℕ
local_variable None = 0
local_variable (Some v) = v

-- a declarator's variable becomes 0, and then the value of its initialiser, if there is one
abbrev pub first_lines : Option LowExpr → ℕ → ℕ → ℕ → List Line
first_lines None v b t = []
first_lines (Some e) v b t = e.value b t ++ Step (Copy v t) ∷ []

abbrev pub low_local : Bindings → Local → LowStmt
low_local names d = record {
  blocks = value_blocks (low_if names d.first);
  lines = λ to b. Step (Constant (local_variable (names.variable d.name)) 0)
      ∷ first_lines (low_if names d.first) (local_variable (names.variable d.name)) b to.free;
}

abbrev pub low_list : List LowStmt → LowStmt
low_list cs = record { blocks = list_blocks cs; lines = list_lines cs }

-- ---- selection and loops

abbrev pub low_selection : LowExpr → LowStmt → Option LowStmt → LowStmt
low_selection test a None = record {
  blocks = test.condition_blocks + a.blocks + 1;
  lines = λ to b.
      let holds : ℕ = b + test.condition_blocks in
      let join : ℕ = holds + a.blocks + 1 in
      test.condition b to.free holds join true ++ (a.lines to holds ++ End (Jump join) ∷ []);
}
low_selection test a (Some c) = record {
  blocks = test.condition_blocks + a.blocks + 1 + c.blocks + 1;
  lines = λ to b.
      let holds : ℕ = b + test.condition_blocks in
      let fails : ℕ = holds + a.blocks + 1 in
      let join : ℕ = fails + c.blocks + 1 in
      test.condition b to.free holds fails true ++ (a.lines to holds ++ (End (Jump join) ∷ (c.lines to fails ++ End (Jump join) ∷ [])));
}

-- a jump to the test, the test, the body, a jump back
abbrev pub low_while : LowExpr → LowStmt → LowStmt
low_while test body = record {
  blocks = 1 + test.condition_blocks + body.blocks + 1;
  lines = λ to b.
      let head : ℕ = b + 1 in
      let inside : ℕ = head + test.condition_blocks in
      let exit : ℕ = inside + body.blocks + 1 in
      End (Jump head) ∷ (test.condition head to.free inside exit true ++ (body.lines (in_loop exit head to) inside ++ End (Jump head) ∷ []));
}

-- a jump to the body, the body, a jump to the test, the test
abbrev pub low_do : LowStmt → LowExpr → LowStmt
low_do body test = record {
  blocks = 1 + body.blocks + 1 + test.condition_blocks;
  lines = λ to b.
      let inside : ℕ = b + 1 in
      let head : ℕ = inside + body.blocks + 1 in
      let exit : ℕ = head + test.condition_blocks in
      End (Jump inside) ∷ (body.lines (in_loop exit head to) inside ++ (End (Jump head) ∷ test.condition head to.free inside exit false));
}

-- the first clause, a jump to the test, the test, the body, a jump to what is done after each turn, this, a jump back
abbrev pub low_for : LowStmt → Option LowExpr → Option LowExpr → LowStmt → LowStmt
low_for first test next body = record {
  blocks = first.blocks + 1 + test_blocks test + body.blocks + 1 + value_blocks next + 1;
  lines = λ to b.
      let head : ℕ = b + first.blocks + 1 in
      let inside : ℕ = head + test_blocks test in
      let after : ℕ = inside + body.blocks + 1 in
      let exit : ℕ = after + value_blocks next + 1 in
      first.lines to b ++ (End (Jump head) ∷ (test_lines_if test head to.free inside exit
      ++ (body.lines (in_loop exit after to) inside ++ (End (Jump after) ∷ (value_lines next after to.free ++ End (Jump head) ∷ [])))));
}

-- ---- `switch`

-- a clause: the words of its labels, and its statements
pub record LowClause : Type 0 where
  pub labels : List (Option ℕ)
  pub body : LowStmt

abbrev pub low_clause_step : Clause-F LowStmt LowClause → LowClause
low_clause_step c = record { labels = map label_word c.labels; body = low_list c.body }

-- each case is compared with the word in t; r is free
abbrev pub case_count : List (Option ℕ) → ℕ
case_count [] = 0
case_count (None ∷ ls) = case_count ls
case_count (Some word ∷ ls) = 1 + case_count ls

abbrev pub case_lines : List (Option ℕ) → ℕ → ℕ → List Line
case_lines [] at t = []
case_lines (None ∷ ls) at t = case_lines ls at t
case_lines (Some word ∷ ls) at t = Step (Constant (t + 1) word) ∷ Step (Operate Eq (t + 1) t (t + 1)) ∷ End (Branch (t + 1) true at) ∷ case_lines ls at t

-- of the clauses whose first stands in the block `at`
abbrev pub cases_count : List LowClause → ℕ
cases_count [] = 0
cases_count (c ∷ cs) = case_count c.labels + cases_count cs

abbrev pub cases_lines : List LowClause → ℕ → ℕ → List Line
cases_lines [] at t = []
cases_lines (c ∷ cs) at t = case_lines c.labels at t ++ cases_lines cs (at + c.body.blocks + 1) t

-- the block of the first clause with a label, else the block behind them all
abbrev pub block_of : Option ℕ → List LowClause → ℕ → ℕ
block_of l [] at = at
block_of l (c ∷ cs) at = if list_any (is_label l) c.labels then at else block_of l cs (at + c.body.blocks + 1)

-- the statements of the clauses one behind the other, each followed by a jump to the next
abbrev pub clauses_blocks : List LowClause → ℕ
clauses_blocks [] = 0
clauses_blocks (c ∷ cs) = c.body.blocks + 1 + clauses_blocks cs

abbrev pub clauses_lines : List LowClause → Context → ℕ → List Line
clauses_lines [] to at = []
clauses_lines (c ∷ cs) to at = c.body.lines to at ++ (End (Jump (at + c.body.blocks + 1)) ∷ clauses_lines cs to (at + c.body.blocks + 1))

-- the value, the cases, a jump to `default`, the clauses
abbrev pub low_switch : LowExpr → List LowClause → LowStmt
low_switch test clauses = record {
  blocks = test.blocks + cases_count clauses + 1 + clauses_blocks clauses;
  lines = λ to b.
      let first : ℕ = b + test.blocks + cases_count clauses + 1 in
      test.value b to.free ++ (cases_lines clauses first to.free ++ (End (Jump (block_of None clauses first))
      ∷ clauses_lines clauses (record to { breaks_to = first + clauses_blocks clauses }) first));
}

-- one level of a statement
abbrev pub low_statement_step : Bindings → Stmt-F LowStmt LowClause → LowStmt
low_statement_step names Stmt-F.Empty = record { blocks = 0; lines = λ to b. [] }
low_statement_step names (Stmt-F.Value e) = record { blocks = (low names e).blocks; lines = λ to b. (low names e).value b to.free }
low_statement_step names (Stmt-F.Declare locals) = low_list (map (low_local names) locals)
low_statement_step names (Stmt-F.Block body) = low_list body
low_statement_step names (Stmt-F.If test a b) = low_selection (low names test) a b
low_statement_step names (Stmt-F.While test body) = low_while (low names test) body
low_statement_step names (Stmt-F.Do body test) = low_do body (low names test)
low_statement_step names (Stmt-F.For first test next body) = low_for first (low_if names test) (low_if names next) body
low_statement_step names (Stmt-F.Switch test clauses) = low_switch (low names test) clauses
low_statement_step names (Stmt-F.Break at) = record { blocks = 1; lines = λ to b. End (Jump to.breaks_to) ∷ [] }
low_statement_step names (Stmt-F.Continue at) = record { blocks = 1; lines = λ to b. End (Jump to.continues_to) ∷ [] }
low_statement_step names (Stmt-F.Return e at) = record {
  blocks = value_blocks (low_if names e) + 1;
  lines = λ to b. value_lines (low_if names e) b to.free ++ End (Jump to.returns_to) ∷ [];
}

abbrev pub low_statement : Bindings → Stmt → LowStmt
low_statement names = fold-Stmt LowStmt LowClause (low_statement_step names) low_clause_step

abbrev pub low_clause : Bindings → Clause → LowClause
low_clause names = fold-Clause LowStmt LowClause (low_statement_step names) low_clause_step
