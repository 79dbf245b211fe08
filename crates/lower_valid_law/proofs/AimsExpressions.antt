-- Where the jumps of an expression go: into its own blocks, and never behind a call of it.
use Rattle.std.proofs.Common.{◌≡◌, ◌≢◌, ℕ, ◌+◌, ◌<◌, ◌≤◌, Bool, true, false, not, List, [], ◌∷◌, ◌++◌, map, length, Option, Some, None, refl, subst, if◌then◌else◌, arith}
use Rattle.c_syntax.specs.declared.tree.BinaryOp.{BinaryOp}
use Rattle.c_syntax.specs.declared.tree.BinaryOp.TheVariants as c
use Rattle.c_syntax.specs.declared.tree.UnaryOp.{UnaryOp}
use Rattle.c_syntax.specs.declared.tree.UnaryOp.TheVariants as unary
use Rattle.c_syntax.specs.declared.tree.Expr.{Expr, roll-Expr, map-Expr, ind-Expr, fold-roll-Expr}
use Rattle.c_syntax.specs.declared.tree.Expr.TheOpen.{Expr-F}
use Rattle.c_meaning.specs.Operators.{operand_type, unary_type}
use Rattle.mid_blocks.specs.declared.code.MidStep.TheVariants.{Constant, Operate}
use Rattle.mid_blocks.specs.declared.code.MidEnd.TheVariants.{Jump, Branch}
use Rattle.mid_blocks.specs.Lines.{Line, Step, End}
use Rattle.lower_rules.specs.Bindings.{Bindings, Callee, InWord, OutWord, Defined, NoFunction, symbol}
use Rattle.lower_rules.specs.Expressions.{Target, Neither, Named, Indexed, LowExpr, plain, low_step, low, binary_lines, unary_lines, read_step, write_step, guard_step, target_symbol, beside, moved_down, truth_lines, logic_lines, choose_lines, args_blocks, args_lines, callee_lines, callee_blocks, fetch_lines, assign_with_lines, bump_operation, bump_result, bump_lines}
use Rattle.lower_valid_law.proofs.Aims.{ends, behind, Seg, seg_more, seg_none, seg_steps, seg_jump, seg_branch, seg_call, seg_join, seg_step, seg_jump_on, seg_inside, behind_branch, behind_first, behind_rest, behind_middle, behind_jump}

-- ---- pieces without ends

binary_steps : (op : BinaryOp) (u : Bool) (t r : ℕ) → ends (binary_lines op u t r) ≡ 0
binary_steps c.Mul u t r = refl
binary_steps c.Div u t r = refl
binary_steps c.Rem u t r = refl
binary_steps c.Add u t r = refl
binary_steps c.Sub u t r = refl
binary_steps c.Shl u t r = refl
binary_steps c.Shr u t r = refl
binary_steps c.Lt u t r = refl
binary_steps c.Gt u t r = refl
binary_steps c.Le u t r = refl
binary_steps c.Ge u t r = refl
binary_steps c.Eq u t r = refl
binary_steps c.Ne u t r = refl
binary_steps c.And u t r = refl
binary_steps c.Xor u t r = refl
binary_steps c.Or u t r = refl

unary_steps : (op : UnaryOp) (t r : ℕ) → ends (unary_lines op t r) ≡ 0
unary_steps unary.Minus t r = refl
unary_steps unary.Plus t r = refl
unary_steps unary.Flip t r = refl
unary_steps unary.Not t r = refl

moved_steps : (y : Target) (t u : ℕ) → ends (moved_down y t u) ≡ 0
moved_steps Neither t u = refl
moved_steps (Named n) t u = refl
moved_steps (Indexed n) t u = refl

result_steps : (before : Bool) (y : Target) (t u : ℕ) → ends (bump_result before y t u) ≡ 0
result_steps true y t u = refl
result_steps false y t u = moved_steps y t u

-- neither of two blocks is y
abbrev pub Not_ : ℕ → ℕ → ℕ → Type 0
Not_ y h f = (h ≢ y) × (f ≢ y)

pick : (y h f : ℕ) (nx : Bool) → Not_ y h f → (let n : ℕ = if nx then f else h in n) ≢ y
pick y h f true o = o.1
pick y h f false o = o.0

module _ (y : ℕ) (names : Bindings) where
  abbrev Any : Type 0
  Any = Unit {0}

  pub record Aim (l : LowExpr) : Type 0 where
    pub value : (n t : ℕ) → Seg (Unit {0}) y n l.blocks (l.value n t)
    pub some : 1 ≤ l.condition_blocks
    pub test : (n t h f : ℕ) (nx : Bool) → Seg (Not_ y h f) y n l.condition_blocks (l.condition n t h f nx)
    pub last : (n t h f : ℕ) (nx : Bool) → y ≡ n + l.condition_blocks → behind y n (l.condition n t h f nx) ≡ 0
    pub place : (n t : ℕ) → Seg (Unit {0}) y n l.place_blocks (l.place n t)

  test_seg : (blocks : ℕ) (lines : List Line) (n t h f : ℕ) (nx : Bool) → Seg Any y n blocks lines → Seg (Not_ y h f) y n (blocks + 1) (lines ++ End (Branch t (not nx) (if nx then f else h)) ∷ [])
  test_seg blocks lines n t h f nx s = seg_join (Not_ y h f) y n (n + blocks) blocks 1 (blocks + 1) lines _ refl refl (seg_more Any (Not_ y h f) y n blocks lines (λ o. tt) s) (seg_branch (Not_ y h f) y (n + blocks) t (if nx then f else h) (not nx) (pick y h f nx))

  plain_aim : (blocks : ℕ) (lines : ℕ → ℕ → List Line) (u void : Bool) → ((n t : ℕ) → Seg Any y n blocks (lines n t)) → Aim (record (plain blocks lines u) { is_void = void })
  plain_aim blocks lines u void s = record {
    value = s;
    some = omega arith;
    test = λ n t h f nx. test_seg blocks (lines n t) n t h f nx (s n t);
    last = λ n t h f nx e. behind_branch y n blocks t (if nx then f else h) (not nx) (lines n t) (s n t).ends_are (omega (arith, e));
    place = λ n t. seg_none Any y n;
  }

  steps_on : (n m : ℕ) (xs ys : List Line) → ends ys ≡ 0 → Seg Any y n m xs → Seg Any y n m (xs ++ ys)
  steps_on n m xs ys e s = seg_join Any y n (n + m) m 0 m xs ys refl (omega arith) s (seg_steps Any y (n + m) ys e)

  steps_first : (n m : ℕ) (xs ys : List Line) → ends xs ≡ 0 → Seg Any y n m ys → Seg Any y n m (xs ++ ys)
  steps_first n m xs ys e s = seg_join Any y n n 0 m m xs ys (omega arith) (omega arith) (seg_steps Any y n xs e) s

  both : (n m1 m2 : ℕ) (xs ys : List Line) → Seg Any y n m1 xs → Seg Any y (n + m1) m2 ys → Seg Any y n (m1 + m2) (xs ++ ys)
  both n m1 m2 xs ys p q = seg_join Any y n (n + m1) m1 m2 (m1 + m2) xs ys refl refl p q

  place_aim : (t' : Target) (blocks : ℕ) (lines : ℕ → ℕ → List Line) (u : Bool) → ((n t : ℕ) → Seg Any y n blocks (lines n t)) → Aim (record (plain blocks (fetch_lines names t' lines) u) { target = t'; place_blocks = blocks; place = lines })
  place_aim t' blocks lines u s =
      let r = plain_aim blocks (fetch_lines names t' lines) u false (λ n t. steps_on n blocks (lines n t) (Step (read_step (target_symbol names t') t t) ∷ []) refl (s n t)) in
      record { value = r.value; some = r.some; test = r.test; last = r.last; place = s }

  abbrev AimExpr : Expr → Type 0
  AimExpr e = Aim (low names e)

  abbrev Part : Type 0
  Part = (e : Expr) × AimExpr e

  abbrev exprs : List Part → List Expr
  exprs es = map (λ e. e.0) es

  args_aim : (es : List Part) (n t : ℕ) → Seg Any y n (args_blocks (map (low names) (exprs es))) (args_lines (map (low names) (exprs es)) n t)
  args_aim [] n t = seg_none Any y n
  args_aim (x ∷ es) n t = let l : LowExpr = low names x.0 in both n l.blocks (args_blocks (map (low names) (exprs es))) (l.value n t) _ (x.1.value n t) (args_aim es (n + l.blocks) (t + 1))

  callee_aim : (c' : Callee) (n k t : ℕ) → Seg Any y n (callee_blocks c') (callee_lines c' k t)
  callee_aim InWord n k t = seg_steps Any y n (callee_lines InWord k t) refl
  callee_aim OutWord n k t = seg_steps Any y n (callee_lines OutWord k t) refl
  callee_aim (Defined number arity void u) n k t = seg_call Any y n number _ _
  callee_aim NoFunction n k t = seg_none Any y n

  call_aim : (name : ℕ) (es : List Part) → Aim (low_step names (Expr-F.Call name (map (low names) (exprs es)) 0))
  call_aim name es =
      let c' : Callee = names.callee name in let ls : List LowExpr = map (low names) (exprs es) in
      plain_aim (args_blocks ls + callee_blocks c') (λ n t. args_lines ls n t ++ callee_lines c' (length ls) t) _ _
      (λ n t. both n (args_blocks ls) (callee_blocks c') (args_lines ls n t) _ (args_aim es n t) (callee_aim c' (n + args_blocks ls) (length ls) t))

  unary_aim : (op : UnaryOp) (l : LowExpr) → Aim l → Aim (low_step names (Expr-F.Unary op l 0))
  unary_aim op l p = by op
    where
      as_plain : (o : UnaryOp) → Aim (record (plain l.blocks (λ n t. l.value n t ++ unary_lines o t (t + 1)) (unary_type o l.is_unsigned)) { is_void = false })
      as_plain o = plain_aim l.blocks (λ n t. l.value n t ++ unary_lines o t (t + 1)) (unary_type o l.is_unsigned) false (λ n t. steps_on n l.blocks (l.value n t) (unary_lines o t (t + 1)) (unary_steps o t (t + 1)) (p.value n t))

      by : (o : UnaryOp) → Aim (low_step names (Expr-F.Unary o l 0))
      by unary.Minus = as_plain unary.Minus
      by unary.Plus = as_plain unary.Plus
      by unary.Flip = as_plain unary.Flip
      by unary.Not = let q = as_plain unary.Not in record {
        value = q.value;
        some = p.some;
        test = λ n t h f nx. seg_more (Not_ y f h) (Not_ y h f) y n l.condition_blocks (l.condition n t f h (not nx)) (λ o. (o.1, o.0)) (p.test n t f h (not nx));
        last = λ n t h f nx e. p.last n t f h (not nx) e;
        place = q.place;
      }

  binary_aim : (op : BinaryOp) (l1 l2 : LowExpr) → Aim l1 → Aim l2 → Aim (low_step names (Expr-F.Binary op l1 l2 0))
  binary_aim op l1 l2 p q =
      let o : Bool = operand_type op l1.is_unsigned l2.is_unsigned in
      plain_aim (l1.blocks + l2.blocks) (λ n t. l1.value n t ++ (l2.value (n + l1.blocks) (t + 1) ++ binary_lines op o t (t + 1))) _ false
      (λ n t. both n l1.blocks l2.blocks (l1.value n t) _ (p.value n t) (steps_on (n + l1.blocks) l2.blocks (l2.value (n + l1.blocks) (t + 1)) (binary_lines op o t (t + 1)) (binary_steps op o t (t + 1)) (q.value (n + l1.blocks) (t + 1))))

  -- ---- `&&` and `||`

  logic_test : (is_and : Bool) (l1 l2 : LowExpr) → Aim l1 → Aim l2 → (n t h f : ℕ) (nx : Bool) → Seg (Not_ y h f) y n (l1.condition_blocks + l2.condition_blocks) (logic_lines is_and l1 l2 n t h f nx)
  logic_test true l1 l2 p q n t h f nx =
      let j : ℕ = n + l1.condition_blocks in
      let m : ℕ = l1.condition_blocks + l2.condition_blocks in
      let O : Type 0 = Not_ y h f in
      let xs : List Line = l1.condition n t j f true in
      let ys : List Line = l2.condition j t h f nx in
      seg_inside O y n m j (xs ++ ys) (omega (arith, p.some)) (omega arith) (λ e. behind_first y n j l1.condition_blocks xs ys refl (p.test n t j f true).ends_are e (p.last n t j f true e))
      (seg_join (O × (j ≢ y)) y n j l1.condition_blocks l2.condition_blocks m xs ys refl refl
      (seg_more (Not_ y j f) (O × (j ≢ y)) y n l1.condition_blocks xs (λ o. (o.1, o.0.1)) (p.test n t j f true))
      (seg_more O (O × (j ≢ y)) y j l2.condition_blocks ys (λ o. o.0) (q.test j t h f nx)))
  logic_test false l1 l2 p q n t h f nx =
      let j : ℕ = n + l1.condition_blocks in
      let m : ℕ = l1.condition_blocks + l2.condition_blocks in
      let O : Type 0 = Not_ y h f in
      let xs : List Line = l1.condition n t h j false in
      let ys : List Line = l2.condition j t h f nx in
      seg_inside O y n m j (xs ++ ys) (omega (arith, p.some)) (omega arith) (λ e. behind_first y n j l1.condition_blocks xs ys refl (p.test n t h j false).ends_are e (p.last n t h j false e))
      (seg_join (O × (j ≢ y)) y n j l1.condition_blocks l2.condition_blocks m xs ys refl refl
      (seg_more (Not_ y h j) (O × (j ≢ y)) y n l1.condition_blocks xs (λ o. (o.0.0, o.1)) (p.test n t h j false))
      (seg_more O (O × (j ≢ y)) y j l2.condition_blocks ys (λ o. o.0) (q.test j t h f nx)))

  logic_last : (is_and : Bool) (l1 l2 : LowExpr) → Aim l1 → Aim l2 → (n t h f : ℕ) (nx : Bool) → y ≡ n + (l1.condition_blocks + l2.condition_blocks) → behind y n (logic_lines is_and l1 l2 n t h f nx) ≡ 0
  logic_last true l1 l2 p q n t h f nx e =
      let j : ℕ = n + l1.condition_blocks in
      behind_rest y n j l1.condition_blocks (l1.condition n t j f true) (l2.condition j t h f nx) refl (p.test n t j f true).ends_are (omega (arith, e, q.some)) (q.last j t h f nx (omega (arith, e)))
  logic_last false l1 l2 p q n t h f nx e =
      let j : ℕ = n + l1.condition_blocks in
      behind_rest y n j l1.condition_blocks (l1.condition n t h j false) (l2.condition j t h f nx) refl (p.test n t h j false).ends_are (omega (arith, e, q.some)) (q.last j t h f nx (omega (arith, e)))

  truth_seg : (k : ℕ) (cond : ℕ → ℕ → ℕ → ℕ → Bool → List Line) (n t : ℕ) → 1 ≤ k → Seg (Not_ y (n + k) (n + k + 1)) y n k (cond n t (n + k) (n + k + 1) true) → (y ≡ n + k → behind y n (cond n t (n + k) (n + k + 1) true) ≡ 0) → Seg Any y n (k + 2) (truth_lines k cond n t)
  truth_seg k cond n t some s last =
      let h : ℕ = n + k in let f : ℕ = n + k + 1 in let z : ℕ = n + k + 2 in let m : ℕ = k + 2 in
      let xs : List Line = cond n t h f true in
      let tail : List Line = Step (Constant t 1) ∷ End (Jump z) ∷ Step (Constant t 0) ∷ End (Jump z) ∷ [] in
      let O1 : Type 0 = Any × (h ≢ y) in let O2 : Type 0 = O1 × (f ≢ y) in let O3 : Type 0 = O2 × (z ≢ y) in
      let late : h < y → behind y n (xs ++ tail) ≡ 0 = λ past. behind_rest y n h k xs tail refl s.ends_are past refl in
      let all : Seg O3 y n m (xs ++ tail) = seg_join O3 y n h k 2 m xs tail refl refl
      (seg_more (Not_ y h f) O3 y n k xs (λ o. (o.0.0.1, o.0.1)) s)
      (seg_step O3 y h 2 _ _ (seg_jump_on O3 y h f 1 z _ refl (λ o. o.1) (seg_step O3 y f 1 _ _ (seg_jump O3 y f z (λ o. o.1))))) in
      seg_inside Any y n m h (xs ++ tail) (omega (arith, some)) (omega arith) (λ e. behind_first y n h k xs tail refl s.ends_are e (last e))
      (seg_inside O1 y n m f (xs ++ tail) (omega arith) (omega arith) (λ e. late (omega (arith, e)))
      (seg_inside O2 y n m z (xs ++ tail) (omega arith) (omega arith) (λ e. late (omega (arith, e))) all))

  logic_aim : (is_and : Bool) (l1 l2 : LowExpr) → Aim l1 → Aim l2 → Aim (low_step names (Expr-F.Logic is_and l1 l2 0))
  logic_aim is_and l1 l2 p q =
      let k : ℕ = l1.condition_blocks + l2.condition_blocks in
      let r = plain_aim (k + 2) (truth_lines k (logic_lines is_and l1 l2)) false false (λ n t. truth_seg k (logic_lines is_and l1 l2) n t (omega (arith, p.some)) (logic_test is_and l1 l2 p q n t (n + k) (n + k + 1) true) (logic_last is_and l1 l2 p q n t (n + k) (n + k + 1) true)) in
      record {
        value = r.value;
        some = omega (arith, p.some);
        test = λ n t h f nx. logic_test is_and l1 l2 p q n t h f nx;
        last = λ n t h f nx e. logic_last is_and l1 l2 p q n t h f nx e;
        place = r.place;
      }

  -- ---- `?:`

  choose_seg : (lt la lb : LowExpr) → Aim lt → Aim la → Aim lb → (n t : ℕ) → Seg Any y n (lt.condition_blocks + la.blocks + 1 + lb.blocks + 1) (choose_lines lt la lb n t)
  choose_seg lt la lb p q r n t =
      let h : ℕ = n + lt.condition_blocks in let f : ℕ = h + la.blocks + 1 in let z : ℕ = f + lb.blocks + 1 in
      let m : ℕ = lt.condition_blocks + la.blocks + 1 + lb.blocks + 1 in
      let xs : List Line = lt.condition n t h f true in
      let in_yes : List Line = la.value h t in
      let in_no : List Line = lb.value f t in
      let tail : List Line = in_no ++ End (Jump z) ∷ [] in
      let rest : List Line = in_yes ++ (End (Jump z) ∷ tail) in
      let O1 : Type 0 = Any × (h ≢ y) in let O2 : Type 0 = O1 × (f ≢ y) in let O3 : Type 0 = O2 × (z ≢ y) in
      let first : ends xs ≡ lt.condition_blocks = (p.test n t h f true).ends_are in
      let in_a : ends in_yes ≡ la.blocks = (q.value h t).ends_are in
      let in_b : ends in_no ≡ lb.blocks = (r.value f t).ends_are in
      let all : Seg O3 y n m (xs ++ rest) = seg_join O3 y n h lt.condition_blocks (la.blocks + (1 + (lb.blocks + 1))) m xs rest refl (omega arith)
      (seg_more (Not_ y h f) O3 y n lt.condition_blocks xs (λ o. (o.0.0.1, o.0.1)) (p.test n t h f true))
      (seg_join O3 y h (h + la.blocks) la.blocks (1 + (lb.blocks + 1)) (la.blocks + (1 + (lb.blocks + 1))) in_yes _ refl refl
      (seg_more Any O3 y h la.blocks in_yes (λ o. tt) (q.value h t))
      (seg_jump_on O3 y (h + la.blocks) f (lb.blocks + 1) z tail refl (λ o. o.1)
      (seg_join O3 y f (f + lb.blocks) lb.blocks 1 (lb.blocks + 1) in_no _ refl refl (seg_more Any O3 y f lb.blocks in_no (λ o. tt) (r.value f t)) (seg_jump O3 y (f + lb.blocks) z (λ o. o.1))))) in
      seg_inside Any y n m h (xs ++ rest) (omega (arith, p.some)) (omega arith) (λ e. behind_first y n h lt.condition_blocks xs rest refl first e (p.last n t h f true e))
      (seg_inside O1 y n m f (xs ++ rest) (omega arith) (omega arith) (λ e. behind_rest y n h lt.condition_blocks xs rest refl first (omega (arith, e)) (behind_middle y h la.blocks z in_yes tail in_a e))
      (seg_inside O2 y n m z (xs ++ rest) (omega arith) (omega arith) (λ e. behind_rest y n h lt.condition_blocks xs rest refl first (omega (arith, e))
      (behind_rest y h (h + la.blocks) la.blocks in_yes (End (Jump z) ∷ tail) refl in_a (omega (arith, e)) (omega (arith, behind_jump y f lb.blocks z in_no in_b e)))) all))

  -- ---- assignments

  assign_aim : (o : Option BinaryOp) (lp lr : LowExpr) → Aim lp → Aim lr → Aim (low_step names (Expr-F.Assign o lp lr 0))
  assign_aim o lp lr p q = plain_aim (lp.place_blocks + lr.blocks) (λ n t. assign_with_lines names o lp lr n t (beside lp.target t)) _ false (by o)
    where
      by : (o' : Option BinaryOp) (n t : ℕ) → Seg Any y n (lp.place_blocks + lr.blocks) (assign_with_lines names o' lp lr n t (beside lp.target t))
      by None n t =
          let y' : Target = lp.target in let u : ℕ = beside y' t in let k : ℕ = n + lp.place_blocks in
          both n lp.place_blocks lr.blocks (lp.place n t) _ (p.place n t)
          (steps_on k lr.blocks (lr.value k u) (Step (write_step (target_symbol names y') t u) ∷ moved_down y' t u) (moved_steps y' t u) (q.value k u))
      by (Some op) n t =
          let y' : Target = lp.target in let u : ℕ = beside y' t in let k : ℕ = n + lp.place_blocks in
          let ty : Bool = operand_type op lp.is_unsigned lr.is_unsigned in
          let last : List Line = Step (write_step (target_symbol names y') t u) ∷ moved_down y' t u in
          both n lp.place_blocks lr.blocks (lp.place n t) _ (p.place n t)
          (seg_step Any y k lr.blocks _ _ (seg_join Any y k (k + lr.blocks) lr.blocks 0 lr.blocks (lr.value k (u + 1)) (binary_lines op ty u (u + 1) ++ last) refl (omega arith) (q.value k (u + 1))
          (steps_first (k + lr.blocks) 0 (binary_lines op ty u (u + 1)) last (binary_steps op ty u (u + 1)) (seg_steps Any y (k + lr.blocks) last (moved_steps y' t u)))))

  bump_aim : (up before : Bool) (lp : LowExpr) → Aim lp → Aim (low_step names (Expr-F.Bump up before lp 0))
  bump_aim up before lp p = plain_aim lp.place_blocks (λ n t. bump_lines names up before lp n t (beside lp.target t)) _ false
      (λ n t. let y' : Target = lp.target in let u : ℕ = beside y' t in
      steps_on n lp.place_blocks (lp.place n t) (Step (read_step (target_symbol names y') t u) ∷ Step (Constant (u + 1) 1) ∷ Step (Operate (bump_operation up) (u + 1) u (u + 1)) ∷ Step (write_step (target_symbol names y') t (u + 1)) ∷ bump_result before y' t u) (result_steps before y' t u) (p.place n t))

  comma_aim : (l1 l2 : LowExpr) → Aim l1 → Aim l2 → Aim (low_step names (Expr-F.Comma l1 l2 0))
  comma_aim l1 l2 p q = plain_aim (l1.blocks + l2.blocks) (λ n t. l1.value n t ++ l2.value (n + l1.blocks) t) _ _ (λ n t. both n l1.blocks l2.blocks (l1.value n t) _ (p.value n t) (q.value (n + l1.blocks) t))

  -- ---- all expressions

  bare : Expr-F Part → Expr-F Expr
  bare y' = map-Expr Part Expr (λ e. e.0) y'

  each_aim : (x : Expr-F Part) → Aim (low_step names (map-Expr Expr LowExpr (low names) (bare x)))
  unfolding bare
  each_aim (Expr-F.Literal word u at) = plain_aim 0 (λ n t. Step (Constant t word) ∷ []) u false (λ n t. seg_steps Any y n (Step (Constant t word) ∷ []) refl)
  each_aim (Expr-F.Name name at) = place_aim (Named name) 0 (λ n t. []) _ (λ n t. seg_none Any y n)
  each_aim (Expr-F.Index name i at) =
      let l : LowExpr = low names i.0 in
      place_aim (Indexed name) l.blocks (λ n t. l.value n t ++ Step (guard_step (symbol names name) t) ∷ []) _ (λ n t. steps_on n l.blocks (l.value n t) (Step (guard_step (symbol names name) t) ∷ []) refl (i.1.value n t))
  each_aim (Expr-F.Call name args at) = call_aim name args
  each_aim (Expr-F.Unary op x at) = unary_aim op (low names x.0) x.1
  each_aim (Expr-F.Binary op a b at) = binary_aim op (low names a.0) (low names b.0) a.1 b.1
  each_aim (Expr-F.Logic is_and a b at) = logic_aim is_and (low names a.0) (low names b.0) a.1 b.1
  each_aim (Expr-F.Choose t a b at) =
      let lt : LowExpr = low names t.0 in let la : LowExpr = low names a.0 in let lb : LowExpr = low names b.0 in
      plain_aim (lt.condition_blocks + la.blocks + 1 + lb.blocks + 1) (choose_lines lt la lb) _ false (λ n t'. choose_seg lt la lb t.1 a.1 b.1 n t')
  each_aim (Expr-F.Assign op a b at) = assign_aim op (low names a.0) (low names b.0) a.1 b.1
  each_aim (Expr-F.Bump up before x at) = bump_aim up before (low names x.0) x.1
  each_aim (Expr-F.Comma a b at) = comma_aim (low names a.0) (low names b.0) a.1 b.1
  each_aim (Expr-F.Paren x at) = x.1

  -- the jumps of an expression stay in it
  pub aim : (e : Expr) → Aim (low names e)
  unfolding bare
  aim = ind-Expr AimExpr (λ x z is. subst (λ w. AimExpr (roll-Expr w)) is (rw (fold-roll-Expr LowExpr (low_step names) (bare z)) (each_aim z)))
