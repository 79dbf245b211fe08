-- The constants in the lines of an expression that fits are words.
use Rattle.std.proofs.Common.{◌≡◌, ℕ, ◌+◌, ◌^◌, Bool, true, false, not, List, [], ◌∷◌, ◌++◌, map, length, Option, Some, None, refl, ap, subst, if◌then◌else◌, arith}
use Rattle.std.specs.Prelude.{◌&&◌, nat_lt}
use Rattle.std.proofs.lemmas.Bool.{and_parts}
use Rattle.c_syntax.specs.declared.tree.BinaryOp.{BinaryOp}
use Rattle.c_syntax.specs.declared.tree.BinaryOp.TheVariants as c
use Rattle.c_syntax.specs.declared.tree.UnaryOp.{UnaryOp}
use Rattle.c_syntax.specs.declared.tree.UnaryOp.TheVariants as unary
use Rattle.c_syntax.specs.declared.tree.Expr.{Expr, roll-Expr, map-Expr, ind-Expr, fold-roll-Expr}
use Rattle.c_syntax.specs.declared.tree.Expr.TheOpen.{Expr-F}
use Rattle.c_meaning.specs.Operators.{operand_type, unary_type}
use Rattle.mid_blocks.specs.declared.code.MidStep.{MidStep}
use Rattle.mid_blocks.specs.declared.code.MidStep.TheVariants.{Constant, Copy, Operate, Guard, Load, Store, Input, Output, Deep}
use Rattle.mid_blocks.specs.declared.code.MidEnd.TheVariants.{Jump, Branch}
use Rattle.mid_blocks.specs.Lines.{Line, Step, End}
use Rattle.lower_rules.specs.Bindings.{Bindings, Callee, InWord, OutWord, Defined, NoFunction, Symbol, Local, Global, Array, Nothing, symbol, callee_takes}
use Rattle.lower_rules.specs.Expressions.{Target, Neither, Named, Indexed, LowExpr, plain, low_step, low, binary_lines, unary_lines, read_step, write_step, guard_step, target_symbol, beside, moved_down, test_lines, truth_lines, logic_lines, choose_lines, args_blocks, args_lines, callee_lines, callee_blocks, fetch_lines, assign_with_lines, bump_result, bump_lines}
use Rattle.lower_rules.specs.Scoping.{Scopes, Fit, has_value, have_values, fit_step, fitting}

abbrev pub step_wide : MidStep → ℕ
step_wide (Constant to word) = if nat_lt word (2 ^ 32) then 0 else 1
step_wide (Copy to from) = 0
step_wide (Operate op to left right) = 0
step_wide (Guard global index) = 0
step_wide (Load to global index) = 0
step_wide (Store global index from) = 0
step_wide (Input to) = 0
step_wide (Output from) = 0
step_wide (Deep test) = 0

abbrev pub line_wide : Line → ℕ
line_wide (Step step) = step_wide step
line_wide (End end) = 0

-- how many constants are no words
abbrev pub wide : List Line → ℕ
wide [] = 0
wide (line ∷ lines) = line_wide line + wide lines

pub wide-append : (xs ys : List Line) → wide (xs ++ ys) ≡ wide xs + wide ys
wide-append [] ys = omega arith
wide-append (x ∷ xs) ys = omega (arith, wide-append xs ys)

pub wide_join : (xs ys : List Line) → wide xs ≡ 0 → wide ys ≡ 0 → wide (xs ++ ys) ≡ 0
wide_join xs ys a b = omega (arith, wide-append xs ys, a, b)

-- ---- pieces

binary_narrow : (op : BinaryOp) (u : Bool) (t r : ℕ) → wide (binary_lines op u t r) ≡ 0
binary_narrow c.Mul u t r = refl
binary_narrow c.Div u t r = refl
binary_narrow c.Rem u t r = refl
binary_narrow c.Add u t r = refl
binary_narrow c.Sub u t r = refl
binary_narrow c.Shl u t r = refl
binary_narrow c.Shr u t r = refl
binary_narrow c.Lt u t r = refl
binary_narrow c.Gt u t r = refl
binary_narrow c.Le u t r = refl
binary_narrow c.Ge u t r = refl
binary_narrow c.Eq u t r = refl
binary_narrow c.Ne u t r = refl
binary_narrow c.And u t r = refl
binary_narrow c.Xor u t r = refl
binary_narrow c.Or u t r = refl

unary_narrow : (op : UnaryOp) (t r : ℕ) → wide (unary_lines op t r) ≡ 0
unary_narrow unary.Minus t r = refl
unary_narrow unary.Plus t r = refl
unary_narrow unary.Flip t r = refl
unary_narrow unary.Not t r = refl

read_narrow : (y : Symbol) (i t : ℕ) → step_wide (read_step y i t) ≡ 0
read_narrow (Local v) i t = refl
read_narrow (Global g) i t = refl
read_narrow (Array g) i t = refl
read_narrow Nothing i t = refl

write_narrow : (y : Symbol) (i t : ℕ) → step_wide (write_step y i t) ≡ 0
write_narrow (Local v) i t = refl
write_narrow (Global g) i t = refl
write_narrow (Array g) i t = refl
write_narrow Nothing i t = refl

guard_narrow : (y : Symbol) (t : ℕ) → step_wide (guard_step y t) ≡ 0
guard_narrow (Local v) t = refl
guard_narrow (Global g) t = refl
guard_narrow (Array g) t = refl
guard_narrow Nothing t = refl

moved_narrow : (y : Target) (t u : ℕ) → wide (moved_down y t u) ≡ 0
moved_narrow Neither t u = refl
moved_narrow (Named n) t u = refl
moved_narrow (Indexed n) t u = refl

result_narrow : (before : Bool) (y : Target) (t u : ℕ) → wide (bump_result before y t u) ≡ 0
result_narrow true y t u = refl
result_narrow false y t u = moved_narrow y t u

callee_narrow : (y : Callee) (n t : ℕ) → wide (callee_lines y n t) ≡ 0
callee_narrow InWord n t = refl
callee_narrow OutWord n t = refl
callee_narrow (Defined number arity void u) n t = refl
callee_narrow NoFunction n t = refl

-- ---- expressions

pub record Narrow (l : LowExpr) : Type 0 where
  pub value : (b t : ℕ) → wide (l.value b t) ≡ 0
  pub condition : (b t h f : ℕ) (nx : Bool) → wide (l.condition b t h f nx) ≡ 0
  pub place : (b t : ℕ) → wide (l.place b t) ≡ 0

record Ready (l : LowExpr) (f : Fit) : Type 0 where
  pub narrow : (scopes : Scopes) → f.fits scopes ≡ true → Narrow l

test_narrow : (lines : ℕ → ℕ → List Line) (b t h f : ℕ) (nx : Bool) → wide (lines b t) ≡ 0 → wide (test_lines lines b t h f nx) ≡ 0
test_narrow lines b t h f nx e = wide_join (lines b t) (End (Branch t (not nx) (if nx then f else h)) ∷ []) e refl

plain_narrow : (blocks : ℕ) (lines : ℕ → ℕ → List Line) (u void : Bool) → ((b t : ℕ) → wide (lines b t) ≡ 0) → Narrow (record (plain blocks lines u) { is_void = void })
plain_narrow blocks lines u void e = record { value = e; condition = λ b t h f nx. test_narrow lines b t h f nx (e b t); place = λ b t. refl }

module _ (names : Bindings) where
  place_narrow : (y : Target) (blocks : ℕ) (lines : ℕ → ℕ → List Line) (u : Bool) → ((b t : ℕ) → wide (lines b t) ≡ 0) → Narrow (record (plain blocks (fetch_lines names y lines) u) { target = y; place_blocks = blocks; place = lines })
  place_narrow y blocks lines u e =
      let r = plain_narrow blocks (fetch_lines names y lines) u false (λ b t. wide_join (lines b t) (Step (read_step (target_symbol names y) t t) ∷ []) (e b t) (omega (arith, read_narrow (target_symbol names y) t t))) in
      record { value = r.value; condition = r.condition; place = e }

  abbrev ReadyExpr : Expr → Type 0
  ReadyExpr e = Ready (low names e) (fitting names e)

  abbrev Part : Type 0
  Part = (e : Expr) × ReadyExpr e

  abbrev exprs : List Part → List Expr
  exprs es = map (λ e. e.0) es

  valued : (x : Part) (scopes : Scopes) → has_value (fitting names x.0) scopes ≡ true → Narrow (low names x.0)
  valued x scopes h = x.1.narrow scopes (and_parts (not (fitting names x.0).is_void) ((fitting names x.0).fits scopes) h).1

  args_narrow : (es : List Part) (scopes : Scopes) → have_values (map (fitting names) (exprs es)) scopes ≡ true → (b t : ℕ) → wide (args_lines (map (low names) (exprs es)) b t) ≡ 0
  args_narrow [] scopes h b t = refl
  args_narrow (x ∷ es) scopes h b t =
      let p = and_parts (has_value (fitting names x.0) scopes) (have_values (map (fitting names) (exprs es)) scopes) h in
      let l : LowExpr = low names x.0 in
      wide_join (l.value b t) (args_lines (map (low names) (exprs es)) (b + l.blocks) (t + 1)) ((valued x scopes p.0).value b t) (args_narrow es scopes p.1 (b + l.blocks) (t + 1))

  call_narrow : (name : ℕ) (es : List Part) (scopes : Scopes) → (fit_step names (Expr-F.Call name (map (fitting names) (exprs es)) 0)).fits scopes ≡ true → Narrow (low_step names (Expr-F.Call name (map (low names) (exprs es)) 0))
  call_narrow name es scopes h =
      let y : Callee = names.callee name in
      let ls : List LowExpr = map (low names) (exprs es) in
      let p = and_parts (callee_takes y (length (map (fitting names) (exprs es)))) (have_values (map (fitting names) (exprs es)) scopes) h in
      plain_narrow (args_blocks ls + callee_blocks y) (λ b t. args_lines ls b t ++ callee_lines y (length ls) t) _ _ (λ b t. wide_join (args_lines ls b t) (callee_lines y (length ls) t) (args_narrow es scopes p.1 b t) (callee_narrow y (length ls) t))

  unary_ready : (op : UnaryOp) (l : LowExpr) → Narrow l → Narrow (low_step names (Expr-F.Unary op l 0))
  unary_ready op l p = by op
    where
      as_plain : (o : UnaryOp) → Narrow (record (plain l.blocks (λ b t. l.value b t ++ unary_lines o t (t + 1)) (unary_type o l.is_unsigned)) { is_void = false })
      as_plain o = plain_narrow l.blocks (λ b t. l.value b t ++ unary_lines o t (t + 1)) (unary_type o l.is_unsigned) false (λ b t. wide_join (l.value b t) (unary_lines o t (t + 1)) (p.value b t) (unary_narrow o t (t + 1)))

      by : (o : UnaryOp) → Narrow (low_step names (Expr-F.Unary o l 0))
      by unary.Minus = as_plain unary.Minus
      by unary.Plus = as_plain unary.Plus
      by unary.Flip = as_plain unary.Flip
      by unary.Not = let q = as_plain unary.Not in record { value = q.value; condition = λ b t h f nx. p.condition b t f h (not nx); place = q.place }

  binary_ready : (op : BinaryOp) (l1 l2 : LowExpr) → Narrow l1 → Narrow l2 → Narrow (low_step names (Expr-F.Binary op l1 l2 0))
  binary_ready op l1 l2 p q =
      let o : Bool = operand_type op l1.is_unsigned l2.is_unsigned in
      plain_narrow (l1.blocks + l2.blocks) (λ b t. l1.value b t ++ (l2.value (b + l1.blocks) (t + 1) ++ binary_lines op o t (t + 1))) _ false
      (λ b t. wide_join (l1.value b t) _ (p.value b t) (wide_join (l2.value (b + l1.blocks) (t + 1)) (binary_lines op o t (t + 1)) (q.value (b + l1.blocks) (t + 1)) (binary_narrow op o t (t + 1))))

  logic_narrow : (is_and : Bool) (l1 l2 : LowExpr) → Narrow l1 → Narrow l2 → (b t h f : ℕ) (nx : Bool) → wide (logic_lines is_and l1 l2 b t h f nx) ≡ 0
  logic_narrow true l1 l2 p q b t h f nx = let j : ℕ = b + l1.condition_blocks in wide_join (l1.condition b t j f true) (l2.condition j t h f nx) (p.condition b t j f true) (q.condition j t h f nx)
  logic_narrow false l1 l2 p q b t h f nx = let j : ℕ = b + l1.condition_blocks in wide_join (l1.condition b t h j false) (l2.condition j t h f nx) (p.condition b t h j false) (q.condition j t h f nx)

  logic_ready : (is_and : Bool) (l1 l2 : LowExpr) → Narrow l1 → Narrow l2 → Narrow (low_step names (Expr-F.Logic is_and l1 l2 0))
  logic_ready is_and l1 l2 p q =
      let k : ℕ = l1.condition_blocks + l2.condition_blocks in
      let r = plain_narrow (k + 2) (truth_lines k (logic_lines is_and l1 l2)) false false (λ b t. wide_join (logic_lines is_and l1 l2 b t (b + k) (b + k + 1) true) (Step (Constant t 1) ∷ End (Jump (b + k + 2)) ∷ Step (Constant t 0) ∷ End (Jump (b + k + 2)) ∷ []) (logic_narrow is_and l1 l2 p q b t (b + k) (b + k + 1) true) refl) in
      record { value = r.value; condition = λ b t h f nx. logic_narrow is_and l1 l2 p q b t h f nx; place = r.place }

  choose_ready : (lt la lb : LowExpr) → Narrow lt → Narrow la → Narrow lb → Narrow (low_step names (Expr-F.Choose lt la lb 0))
  choose_ready lt la lb p q r = plain_narrow (lt.condition_blocks + la.blocks + 1 + lb.blocks + 1) (choose_lines lt la lb) _ false (λ b t.
      let h : ℕ = b + lt.condition_blocks in let f : ℕ = h + la.blocks + 1 in let j : ℕ = f + lb.blocks + 1 in
      wide_join (lt.condition b t h f true) _ (p.condition b t h f true) (wide_join (la.value h t) _ (q.value h t) (omega (arith, wide_join (lb.value f t) (End (Jump j) ∷ []) (r.value f t) refl))))

  assign_ready : (o : Option BinaryOp) (lp lr : LowExpr) → Narrow lp → Narrow lr → Narrow (low_step names (Expr-F.Assign o lp lr 0))
  assign_ready o lp lr p q = plain_narrow (lp.place_blocks + lr.blocks) (λ b t. assign_with_lines names o lp lr b t (beside lp.target t)) _ false (by o)
    where
      by : (o' : Option BinaryOp) (b t : ℕ) → wide (assign_with_lines names o' lp lr b t (beside lp.target t)) ≡ 0
      by None b t =
          let y : Target = lp.target in let u : ℕ = beside y t in
          wide_join (lp.place b t) _ (p.place b t) (wide_join (lr.value (b + lp.place_blocks) u) _ (q.value (b + lp.place_blocks) u) (omega (arith, write_narrow (target_symbol names y) t u, moved_narrow y t u)))
      by (Some op) b t =
          let y : Target = lp.target in let u : ℕ = beside y t in
          let ty : Bool = operand_type op lp.is_unsigned lr.is_unsigned in
          let last : List Line = Step (write_step (target_symbol names y) t u) ∷ moved_down y t u in
          let tail : wide (lr.value (b + lp.place_blocks) (u + 1) ++ (binary_lines op ty u (u + 1) ++ last)) ≡ 0 =
          wide_join (lr.value (b + lp.place_blocks) (u + 1)) _ (q.value (b + lp.place_blocks) (u + 1)) (wide_join (binary_lines op ty u (u + 1)) last (binary_narrow op ty u (u + 1)) (omega (arith, write_narrow (target_symbol names y) t u, moved_narrow y t u))) in
          wide_join (lp.place b t) _ (p.place b t) (omega (arith, read_narrow (target_symbol names y) t u, tail))

  bump_ready : (up before : Bool) (lp : LowExpr) → Narrow lp → Narrow (low_step names (Expr-F.Bump up before lp 0))
  bump_ready up before lp p = plain_narrow lp.place_blocks (λ b t. bump_lines names up before lp b t (beside lp.target t)) _ false
      (λ b t. let y : Target = lp.target in let u : ℕ = beside y t in
      wide_join (lp.place b t) _ (p.place b t) (omega (arith, read_narrow (target_symbol names y) t u, write_narrow (target_symbol names y) t (u + 1), result_narrow before y t u)))

  comma_ready : (l1 l2 : LowExpr) → Narrow l1 → Narrow l2 → Narrow (low_step names (Expr-F.Comma l1 l2 0))
  comma_ready l1 l2 p q = plain_narrow (l1.blocks + l2.blocks) (λ b t. l1.value b t ++ l2.value (b + l1.blocks) t) _ _ (λ b t. wide_join (l1.value b t) (l2.value (b + l1.blocks) t) (p.value b t) (q.value (b + l1.blocks) t))

  bare : Expr-F Part → Expr-F Expr
  bare y = map-Expr Part Expr (λ e. e.0) y

  each_narrow : (y : Expr-F Part) (scopes : Scopes) → (fit_step names (map-Expr Expr Fit (fitting names) (bare y))).fits scopes ≡ true → Narrow (low_step names (map-Expr Expr LowExpr (low names) (bare y)))
  unfolding bare
  each_narrow (Expr-F.Literal word u at) scopes h =
      let small : (let n : ℕ = if nat_lt word (2 ^ 32) then 0 else 1 in n) ≡ 0 = ap (λ (b : Bool). let n : ℕ = if b then 0 else 1 in n) h in
      plain_narrow 0 (λ b t. Step (Constant t word) ∷ []) u false (λ b t. omega (arith, small))
  each_narrow (Expr-F.Name name at) scopes h = place_narrow (Named name) 0 (λ b t. []) _ (λ b t. refl)
  each_narrow (Expr-F.Index name i at) scopes h =
      let p = and_parts _ (has_value (fitting names i.0) scopes) h in
      let l : LowExpr = low names i.0 in
      place_narrow (Indexed name) l.blocks (λ b t. l.value b t ++ Step (guard_step (symbol names name) t) ∷ []) _ (λ b t. wide_join (l.value b t) (Step (guard_step (symbol names name) t) ∷ []) ((valued i scopes p.1).value b t) (omega (arith, guard_narrow (symbol names name) t)))
  each_narrow (Expr-F.Call name args at) scopes h = call_narrow name args scopes h
  each_narrow (Expr-F.Unary op x at) scopes h = unary_ready op (low names x.0) (valued x scopes h)
  each_narrow (Expr-F.Binary op x y at) scopes h =
      let p = and_parts (has_value (fitting names x.0) scopes) (has_value (fitting names y.0) scopes) h in
      binary_ready op (low names x.0) (low names y.0) (valued x scopes p.0) (valued y scopes p.1)
  each_narrow (Expr-F.Logic is_and x y at) scopes h =
      let p = and_parts (has_value (fitting names x.0) scopes) (has_value (fitting names y.0) scopes) h in
      logic_ready is_and (low names x.0) (low names y.0) (valued x scopes p.0) (valued y scopes p.1)
  each_narrow (Expr-F.Choose t x y at) scopes h =
      let p = and_parts (has_value (fitting names t.0) scopes) (has_value (fitting names x.0) scopes && has_value (fitting names y.0) scopes) h in
      let q = and_parts (has_value (fitting names x.0) scopes) (has_value (fitting names y.0) scopes) p.1 in
      choose_ready (low names t.0) (low names x.0) (low names y.0) (valued t scopes p.0) (valued x scopes q.0) (valued y scopes q.1)
  each_narrow (Expr-F.Assign op x y at) scopes h =
      let p = and_parts ((fitting names x.0).is_place && (fitting names x.0).fits scopes) (has_value (fitting names y.0) scopes) h in
      let q = and_parts (fitting names x.0).is_place ((fitting names x.0).fits scopes) p.0 in
      assign_ready op (low names x.0) (low names y.0) (x.1.narrow scopes q.1) (valued y scopes p.1)
  each_narrow (Expr-F.Bump up before x at) scopes h =
      let q = and_parts (fitting names x.0).is_place ((fitting names x.0).fits scopes) h in
      bump_ready up before (low names x.0) (x.1.narrow scopes q.1)
  each_narrow (Expr-F.Comma x y at) scopes h =
      let p = and_parts ((fitting names x.0).fits scopes) ((fitting names y.0).fits scopes) h in
      comma_ready (low names x.0) (low names y.0) (x.1.narrow scopes p.0) (y.1.narrow scopes p.1)
  each_narrow (Expr-F.Paren x at) scopes h = x.1.narrow scopes h

  ready : (e : Expr) → ReadyExpr e
  unfolding bare
  ready = ind-Expr ReadyExpr (λ x y is. subst (λ z. ReadyExpr (roll-Expr z)) is
      (rw (fold-roll-Expr LowExpr (low_step names) (bare y), fold-roll-Expr Fit (fit_step names) (bare y)) (record { narrow = each_narrow y })))

  -- an expression that fits has narrow lines
  pub narrow : (e : Expr) (scopes : Scopes) → (fitting names e).fits scopes ≡ true → Narrow (low names e)
  narrow e scopes h = (ready e).narrow scopes h
