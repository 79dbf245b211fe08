-- The calls in the lines of an expression: at most as many of a function as the expression names it.
use Rattle.std.proofs.Common.{◌≡◌, ℕ, suc, ◌+◌, ◌≤◌, Bool, true, false, not, List, [], ◌∷◌, ◌++◌, map, length, Option, Some, None, refl, sym, ap, subst, if◌then◌else◌, ◌==◌, arith, flat_map}
use Rattle.c_syntax.specs.declared.tree.BinaryOp.{BinaryOp}
use Rattle.c_syntax.specs.declared.tree.BinaryOp.TheVariants as c
use Rattle.c_syntax.specs.declared.tree.UnaryOp.{UnaryOp}
use Rattle.c_syntax.specs.declared.tree.UnaryOp.TheVariants as unary
use Rattle.c_syntax.specs.declared.tree.Expr.{Expr, roll-Expr, map-Expr, ind-Expr, fold-roll-Expr}
use Rattle.c_syntax.specs.declared.tree.Expr.TheOpen.{Expr-F}
use Rattle.c_meaning.specs.Operators.{operand_type, unary_type}
use Rattle.c_syntax.specs.Graph.{expression_calls_step, expression_calls}
use Rattle.mid_blocks.specs.declared.code.MidStep.TheVariants.{Constant, Operate}
use Rattle.mid_blocks.specs.declared.code.MidEnd.{MidEnd}
use Rattle.mid_blocks.specs.declared.code.MidEnd.TheVariants.{Jump, Branch, Call, Return}
use Rattle.mid_blocks.specs.Lines.{Line, Step, End}
use Rattle.lower_rules.specs.Bindings.{Bindings, Callee, InWord, OutWord, Defined, NoFunction, symbol}
use Rattle.lower_rules.specs.Expressions.{Target, Neither, Named, Indexed, LowExpr, plain, low_step, low, binary_lines, unary_lines, read_step, write_step, guard_step, target_symbol, beside, moved_down, test_lines, truth_lines, logic_lines, choose_lines, args_blocks, args_lines, from_on, result_in, callee_lines, callee_blocks, fetch_lines, assign_with_lines, bump_operation, bump_result, bump_lines}

abbrev pub one_if : Bool → ℕ
one_if b = if b then 1 else 0

-- whether an end calls the function k
abbrev pub end_called : ℕ → MidEnd → ℕ
end_called k (Jump to) = 0
end_called k (Branch test when to) = 0
end_called k (Call function args result) = one_if (function == k)
end_called k (Return from) = 0

abbrev pub called : ℕ → List Line → ℕ
called k [] = 0
called k (Step step ∷ lines) = called k lines
called k (End end ∷ lines) = end_called k end + called k lines

pub called-append : (k : ℕ) (xs ys : List Line) → called k (xs ++ ys) ≡ called k xs + called k ys
called-append k [] ys = omega arith
called-append k (Step s ∷ xs) ys = called-append k xs ys
called-append k (End e ∷ xs) ys = omega (arith, called-append k xs ys)

-- whether a callee is the function k
abbrev pub is_function : ℕ → Callee → Bool
is_function k InWord = false
is_function k OutWord = false
is_function k (Defined number arity void u) = number == k
is_function k NoFunction = false

-- how many of the names stand for the function k
abbrev pub hits : Bindings → ℕ → List ℕ → ℕ
hits names k [] = 0
hits names k (n ∷ ns) = one_if (is_function k (names.callee n)) + hits names k ns

pub hits-append : (names : Bindings) (k : ℕ) (xs ys : List ℕ) → hits names k (xs ++ ys) ≡ hits names k xs + hits names k ys
hits-append names k [] ys = omega arith
hits-append names k (x ∷ xs) ys = omega (arith, hits-append names k xs ys)

-- ---- pieces

module _ (k : ℕ) where
  binary_none : (op : BinaryOp) (u : Bool) (t r : ℕ) → called k (binary_lines op u t r) ≡ 0
  binary_none c.Mul u t r = refl
  binary_none c.Div u t r = refl
  binary_none c.Rem u t r = refl
  binary_none c.Add u t r = refl
  binary_none c.Sub u t r = refl
  binary_none c.Shl u t r = refl
  binary_none c.Shr u t r = refl
  binary_none c.Lt u t r = refl
  binary_none c.Gt u t r = refl
  binary_none c.Le u t r = refl
  binary_none c.Ge u t r = refl
  binary_none c.Eq u t r = refl
  binary_none c.Ne u t r = refl
  binary_none c.And u t r = refl
  binary_none c.Xor u t r = refl
  binary_none c.Or u t r = refl

  unary_none : (op : UnaryOp) (t r : ℕ) → called k (unary_lines op t r) ≡ 0
  unary_none unary.Minus t r = refl
  unary_none unary.Plus t r = refl
  unary_none unary.Flip t r = refl
  unary_none unary.Not t r = refl

  moved_none : (y : Target) (t u : ℕ) → called k (moved_down y t u) ≡ 0
  moved_none Neither t u = refl
  moved_none (Named n) t u = refl
  moved_none (Indexed n) t u = refl

  result_none : (before : Bool) (y : Target) (t u : ℕ) → called k (bump_result before y t u) ≡ 0
  result_none true y t u = refl
  result_none false y t u = moved_none y t u

  callee_most : (y : Callee) (n t : ℕ) → called k (callee_lines y n t) ≤ one_if (is_function k y)
  callee_most InWord n t = omega arith
  callee_most OutWord n t = omega arith
  callee_most (Defined number arity void u) n t = omega arith
  callee_most NoFunction n t = omega arith

  -- ---- expressions

  pub record Calls (l : LowExpr) (most : ℕ) : Type 0 where
    pub value : (b t : ℕ) → called k (l.value b t) ≤ most
    pub condition : (b t h f : ℕ) (nx : Bool) → called k (l.condition b t h f nx) ≤ most
    pub place : (b t : ℕ) → called k (l.place b t) ≤ most

  test_most : (lines : ℕ → ℕ → List Line) (b t h f : ℕ) (nx : Bool) (m : ℕ) → called k (lines b t) ≤ m → called k (test_lines lines b t h f nx) ≤ m
  test_most lines b t h f nx m le = omega (arith, le, called-append k (lines b t) (End (Branch t (not nx) (if nx then f else h)) ∷ []))

  plain_calls : (blocks : ℕ) (lines : ℕ → ℕ → List Line) (u void : Bool) (m : ℕ) → ((b t : ℕ) → called k (lines b t) ≤ m) → Calls (record (plain blocks lines u) { is_void = void }) m
  plain_calls blocks lines u void m e = record { value = e; condition = λ b t h f nx. test_most lines b t h f nx m (e b t); place = λ b t. omega arith }

  module _ (names : Bindings) where
    place_calls : (y : Target) (blocks : ℕ) (lines : ℕ → ℕ → List Line) (u : Bool) (m : ℕ) → ((b t : ℕ) → called k (lines b t) ≤ m) → Calls (record (plain blocks (fetch_lines names y lines) u) { target = y; place_blocks = blocks; place = lines }) m
    place_calls y blocks lines u m e =
        let r = plain_calls blocks (fetch_lines names y lines) u false m (λ b t. omega (arith, e b t, called-append k (lines b t) (Step (read_step (target_symbol names y) t t) ∷ []))) in
        record { value = r.value; condition = r.condition; place = e }

    abbrev CallsExpr : Expr → Type 0
    CallsExpr e = Calls (low names e) (hits names k (expression_calls e))

    abbrev Part : Type 0
    Part = (e : Expr) × CallsExpr e

    abbrev exprs : List Part → List Expr
    exprs es = map (λ e. e.0) es

    args_calls : (es : List Part) (b t : ℕ) → called k (args_lines (map (low names) (exprs es)) b t) ≤ hits names k (flat_map (λ calls. calls) (map expression_calls (exprs es)))
    args_calls [] b t = omega arith
    args_calls (x ∷ es) b t =
        let l : LowExpr = low names x.0 in
        omega (arith, x.1.value b t, args_calls es (b + l.blocks) (t + 1), called-append k (l.value b t) (args_lines (map (low names) (exprs es)) (b + l.blocks) (t + 1)), hits-append names k (expression_calls x.0) (flat_map (λ calls. calls) (map expression_calls (exprs es))))

    call_calls : (name : ℕ) (es : List Part) → Calls (low_step names (Expr-F.Call name (map (low names) (exprs es)) 0)) (hits names k (name ∷ flat_map (λ calls. calls) (map expression_calls (exprs es))))
    call_calls name es =
        let y : Callee = names.callee name in
        let ls : List LowExpr = map (low names) (exprs es) in
        plain_calls (args_blocks ls + callee_blocks y) (λ b t. args_lines ls b t ++ callee_lines y (length ls) t) _ _ (hits names k (name ∷ flat_map (λ calls. calls) (map expression_calls (exprs es))))
        (λ b t. omega (arith, called-append k (args_lines ls b t) (callee_lines y (length ls) t), args_calls es b t, callee_most y (length ls) t))

    unary_calls : (op : UnaryOp) (l : LowExpr) (m : ℕ) → Calls l m → Calls (low_step names (Expr-F.Unary op l 0)) m
    unary_calls op l m p = by op
      where
        as_plain : (o : UnaryOp) → Calls (record (plain l.blocks (λ b t. l.value b t ++ unary_lines o t (t + 1)) (unary_type o l.is_unsigned)) { is_void = false }) m
        as_plain o = plain_calls l.blocks (λ b t. l.value b t ++ unary_lines o t (t + 1)) (unary_type o l.is_unsigned) false m (λ b t. omega (arith, called-append k (l.value b t) (unary_lines o t (t + 1)), p.value b t, unary_none o t (t + 1)))

        by : (o : UnaryOp) → Calls (low_step names (Expr-F.Unary o l 0)) m
        by unary.Minus = as_plain unary.Minus
        by unary.Plus = as_plain unary.Plus
        by unary.Flip = as_plain unary.Flip
        by unary.Not = let q = as_plain unary.Not in record { value = q.value; condition = λ b t h f nx. p.condition b t f h (not nx); place = q.place }

    binary_calls : (op : BinaryOp) (l1 l2 : LowExpr) (xs ys : List ℕ) → Calls l1 (hits names k xs) → Calls l2 (hits names k ys) → Calls (low_step names (Expr-F.Binary op l1 l2 0)) (hits names k (xs ++ ys))
    binary_calls op l1 l2 xs ys p q =
        let o : Bool = operand_type op l1.is_unsigned l2.is_unsigned in
        plain_calls (l1.blocks + l2.blocks) (λ b t. l1.value b t ++ (l2.value (b + l1.blocks) (t + 1) ++ binary_lines op o t (t + 1))) _ false (hits names k (xs ++ ys))
        (λ b t. omega (arith, hits-append names k xs ys, called-append k (l1.value b t) (l2.value (b + l1.blocks) (t + 1) ++ binary_lines op o t (t + 1)), called-append k (l2.value (b + l1.blocks) (t + 1)) (binary_lines op o t (t + 1)), p.value b t, q.value (b + l1.blocks) (t + 1), binary_none op o t (t + 1)))

    logic_most : (is_and : Bool) (l1 l2 : LowExpr) (m1 m2 : ℕ) → Calls l1 m1 → Calls l2 m2 → (b t h f : ℕ) (nx : Bool) → called k (logic_lines is_and l1 l2 b t h f nx) ≤ m1 + m2
    logic_most true l1 l2 m1 m2 p q b t h f nx =
        let j : ℕ = b + l1.condition_blocks in omega (arith, called-append k (l1.condition b t j f true) (l2.condition j t h f nx), p.condition b t j f true, q.condition j t h f nx)
    logic_most false l1 l2 m1 m2 p q b t h f nx =
        let j : ℕ = b + l1.condition_blocks in omega (arith, called-append k (l1.condition b t h j false) (l2.condition j t h f nx), p.condition b t h j false, q.condition j t h f nx)

    logic_calls : (is_and : Bool) (l1 l2 : LowExpr) (xs ys : List ℕ) → Calls l1 (hits names k xs) → Calls l2 (hits names k ys) → Calls (low_step names (Expr-F.Logic is_and l1 l2 0)) (hits names k (xs ++ ys))
    logic_calls is_and l1 l2 xs ys p q =
        let j : ℕ = l1.condition_blocks + l2.condition_blocks in
        let tail : ℕ → ℕ → List Line = λ b t. Step (Constant t 1) ∷ End (Jump (b + j + 2)) ∷ Step (Constant t 0) ∷ End (Jump (b + j + 2)) ∷ [] in
        let r = plain_calls (j + 2) (truth_lines j (logic_lines is_and l1 l2)) false false (hits names k (xs ++ ys)) (λ b t. omega (arith, hits-append names k xs ys, called-append k (logic_lines is_and l1 l2 b t (b + j) (b + j + 1) true) (tail b t), logic_most is_and l1 l2 (hits names k xs) (hits names k ys) p q b t (b + j) (b + j + 1) true)) in
        record { value = r.value; condition = λ b t h f nx. omega (arith, hits-append names k xs ys, logic_most is_and l1 l2 (hits names k xs) (hits names k ys) p q b t h f nx); place = r.place }

    choose_calls : (lt la lb : LowExpr) (xs ys zs : List ℕ) → Calls lt (hits names k xs) → Calls la (hits names k ys) → Calls lb (hits names k zs) → Calls (low_step names (Expr-F.Choose lt la lb 0)) (hits names k (xs ++ ys ++ zs))
    choose_calls lt la lb xs ys zs p q r = plain_calls (lt.condition_blocks + la.blocks + 1 + lb.blocks + 1) (choose_lines lt la lb) _ false (hits names k (xs ++ ys ++ zs)) (λ b t.
        let h : ℕ = b + lt.condition_blocks in let f : ℕ = h + la.blocks + 1 in let j : ℕ = f + lb.blocks + 1 in
        let tail : List Line = lb.value f t ++ End (Jump j) ∷ [] in
        omega (
          arith,
          hits-append names k (xs ++ ys) zs,
          hits-append names k xs ys,
          called-append k (lt.condition b t h f true) (la.value h t ++ (End (Jump j) ∷ tail)),
          called-append k (la.value h t) (End (Jump j) ∷ tail),
          called-append k (lb.value f t) (End (Jump j) ∷ []),
          p.condition b t h f true,
          q.value h t,
          r.value f t,
        ))

    assign_calls : (o : Option BinaryOp) (lp lr : LowExpr) (xs ys : List ℕ) → Calls lp (hits names k xs) → Calls lr (hits names k ys) → Calls (low_step names (Expr-F.Assign o lp lr 0)) (hits names k (xs ++ ys))
    assign_calls o lp lr xs ys p q = plain_calls (lp.place_blocks + lr.blocks) (λ b t. assign_with_lines names o lp lr b t (beside lp.target t)) _ false (hits names k (xs ++ ys)) (by o)
      where
        by : (o' : Option BinaryOp) (b t : ℕ) → called k (assign_with_lines names o' lp lr b t (beside lp.target t)) ≤ hits names k (xs ++ ys)
        by None b t =
            let y : Target = lp.target in let u : ℕ = beside y t in let m : ℕ = b + lp.place_blocks in
            let last : List Line = Step (write_step (target_symbol names y) t u) ∷ moved_down y t u in
            omega (arith, hits-append names k xs ys, called-append k (lp.place b t) (lr.value m u ++ last), called-append k (lr.value m u) last, p.place b t, q.value m u, moved_none y t u)
        by (Some op) b t =
            let y : Target = lp.target in let u : ℕ = beside y t in let m : ℕ = b + lp.place_blocks in
            let ty : Bool = operand_type op lp.is_unsigned lr.is_unsigned in
            let ops : List Line = binary_lines op ty u (u + 1) in
            let last : List Line = Step (write_step (target_symbol names y) t u) ∷ moved_down y t u in
            let load : Line = Step (read_step (target_symbol names y) t u) in
            omega (arith, hits-append names k xs ys, called-append k (lp.place b t) (load ∷ (lr.value m (u + 1) ++ (ops ++ last))), called-append k (lr.value m (u + 1)) (ops ++ last), called-append k ops last, p.place b t, q.value m (u + 1), moved_none y t u, binary_none op ty u (u + 1))

    bump_calls : (up before : Bool) (lp : LowExpr) (m : ℕ) → Calls lp m → Calls (low_step names (Expr-F.Bump up before lp 0)) m
    bump_calls up before lp m p = plain_calls lp.place_blocks (λ b t. bump_lines names up before lp b t (beside lp.target t)) _ false m
        (λ b t. let y : Target = lp.target in let u : ℕ = beside y t in
        omega (arith, called-append k (lp.place b t) (Step (read_step (target_symbol names y) t u) ∷ Step (Constant (u + 1) 1) ∷ Step (Operate (bump_operation up) (u + 1) u (u + 1)) ∷ Step (write_step (target_symbol names y) t (u + 1)) ∷ bump_result before y t u), p.place b t, result_none before y t u))

    comma_calls : (l1 l2 : LowExpr) (xs ys : List ℕ) → Calls l1 (hits names k xs) → Calls l2 (hits names k ys) → Calls (low_step names (Expr-F.Comma l1 l2 0)) (hits names k (xs ++ ys))
    comma_calls l1 l2 xs ys p q = plain_calls (l1.blocks + l2.blocks) (λ b t. l1.value b t ++ l2.value (b + l1.blocks) t) _ _ (hits names k (xs ++ ys)) (λ b t. omega (arith, hits-append names k xs ys, called-append k (l1.value b t) (l2.value (b + l1.blocks) t), p.value b t, q.value (b + l1.blocks) t))

    bare : Expr-F Part → Expr-F Expr
    bare y = map-Expr Part Expr (λ e. e.0) y

    each_calls : (y : Expr-F Part) → Calls (low_step names (map-Expr Expr LowExpr (low names) (bare y))) (hits names k (expression_calls_step (map-Expr Expr (List ℕ) expression_calls (bare y))))
    unfolding bare
    each_calls (Expr-F.Literal word u at) = plain_calls 0 (λ b t. Step (Constant t word) ∷ []) u false 0 (λ b t. omega arith)
    each_calls (Expr-F.Name name at) = place_calls (Named name) 0 (λ b t. []) _ 0 (λ b t. omega arith)
    each_calls (Expr-F.Index name i at) =
        let l : LowExpr = low names i.0 in
        place_calls (Indexed name) l.blocks (λ b t. l.value b t ++ Step (guard_step (symbol names name) t) ∷ []) _ (hits names k (expression_calls i.0)) (λ b t. omega (arith, called-append k (l.value b t) (Step (guard_step (symbol names name) t) ∷ []), i.1.value b t))
    each_calls (Expr-F.Call name args at) = call_calls name args
    each_calls (Expr-F.Unary op x at) = unary_calls op (low names x.0) (hits names k (expression_calls x.0)) x.1
    each_calls (Expr-F.Binary op x y at) = binary_calls op (low names x.0) (low names y.0) (expression_calls x.0) (expression_calls y.0) x.1 y.1
    each_calls (Expr-F.Logic is_and x y at) = logic_calls is_and (low names x.0) (low names y.0) (expression_calls x.0) (expression_calls y.0) x.1 y.1
    each_calls (Expr-F.Choose t x y at) = choose_calls (low names t.0) (low names x.0) (low names y.0) (expression_calls t.0) (expression_calls x.0) (expression_calls y.0) t.1 x.1 y.1
    each_calls (Expr-F.Assign op x y at) = assign_calls op (low names x.0) (low names y.0) (expression_calls x.0) (expression_calls y.0) x.1 y.1
    each_calls (Expr-F.Bump up before x at) = bump_calls up before (low names x.0) (hits names k (expression_calls x.0)) x.1
    each_calls (Expr-F.Comma x y at) = comma_calls (low names x.0) (low names y.0) (expression_calls x.0) (expression_calls y.0) x.1 y.1
    each_calls (Expr-F.Paren x at) = x.1

    pub expression_calls_most : (e : Expr) → Calls (low names e) (hits names k (expression_calls e))
    unfolding bare
    expression_calls_most = ind-Expr CallsExpr (λ x y is. subst (λ z. CallsExpr (roll-Expr z)) is
        (rw (fold-roll-Expr LowExpr (low_step names) (bare y), fold-roll-Expr (List ℕ) expression_calls_step (bare y)) (each_calls y)))
