-- How many words and blocks the lines of an expression come to, by its nodes and its cost.
use Rattle.std.proofs.Common.{◌≡◌, ℕ, zero, suc, ◌+◌, ◌*◌, ◌≤◌, Bool, true, false, not, List, [], ◌∷◌, ◌++◌, map, sum, length, Option, Some, None, refl, subst, if◌then◌else◌, arith}
use Rattle.std.proofs.lemmas.List.Sums.{sum_by-cons}
use Rattle.c_syntax.specs.declared.tree.BinaryOp.{BinaryOp}
use Rattle.c_syntax.specs.declared.tree.BinaryOp.TheVariants as c
use Rattle.c_syntax.specs.declared.tree.UnaryOp.{UnaryOp}
use Rattle.c_syntax.specs.declared.tree.UnaryOp.TheVariants as unary
use Rattle.c_syntax.specs.declared.tree.Expr.{Expr, roll-Expr, map-Expr, ind-Expr, fold-roll-Expr}
use Rattle.c_syntax.specs.declared.tree.Expr.TheOpen.{Expr-F}
use Rattle.c_syntax.specs.declared.tree.TopItem.{TopItem}
use Rattle.c_meaning.specs.Operators.{operand_type, unary_type}
use Rattle.c_syntax.specs.Sizes.{expression_nodes, expression_nodes_step}
use Rattle.c_syntax.specs.Costs.{call_cost, expression_cost, expression_cost_step}
use Rattle.mid_blocks.specs.declared.code.MidStep.TheVariants.{Constant, Operate}
use Rattle.mid_blocks.specs.declared.code.MidEnd.TheVariants.{Jump, Branch}
use Rattle.mid_blocks.specs.Lines.{Line, Step, End}
use Rattle.mid_blocks.specs.Size.{step_words, end_words, operation_words, is_branch}
use Rattle.lower_rules.specs.Bindings.{Bindings, Callee, InWord, OutWord, Defined, NoFunction, Symbol, Local, Global, Array, Nothing, symbol}
use Rattle.lower_rules.specs.Expressions.{Target, Neither, Named, Indexed, LowExpr, plain, low_step, low, binary_lines, unary_lines, read_step, write_step, guard_step, target_symbol, beside, moved_down, truth_lines, logic_lines, choose_lines, args_blocks, args_lines, from_on, callee_lines, callee_blocks, fetch_lines, assign_with_lines, bump_operation, bump_result, bump_lines}

-- ---- lines

abbrev pub line_words : Line → ℕ
line_words (Step step) = step_words step
line_words (End end) = end_words end

abbrev pub words : List Line → ℕ
words [] = 0
words (line ∷ lines) = line_words line + words lines

abbrev pub line_branches : Line → ℕ
line_branches (Step step) = 0
line_branches (End end) = is_branch end

abbrev pub branches : List Line → ℕ
branches [] = 0
branches (line ∷ lines) = line_branches line + branches lines

pub words-append : (xs ys : List Line) → words (xs ++ ys) ≡ words xs + words ys
words-append [] ys = omega arith
words-append (x ∷ xs) ys = omega (arith, words-append xs ys)

pub branches-append : (xs ys : List Line) → branches (xs ++ ys) ≡ branches xs + branches ys
branches-append [] ys = omega arith
branches-append (x ∷ xs) ys = omega (arith, branches-append xs ys)

-- ---- pieces

-- lines without a branch of at most so many words
pub record Small (lines : List Line) (most : ℕ) : Type 0 where
  pub few_words : words lines ≤ most
  pub no_branch : branches lines ≡ 0

pub read_small : (y : Symbol) (i t : ℕ) → Small (Step (read_step y i t) ∷ []) 22
read_small (Local v) i t = record { few_words = omega arith; no_branch = refl }
read_small (Global g) i t = record { few_words = omega arith; no_branch = refl }
read_small (Array g) i t = record { few_words = omega arith; no_branch = refl }
read_small Nothing i t = record { few_words = omega arith; no_branch = refl }

pub write_small : (y : Symbol) (i t : ℕ) → Small (Step (write_step y i t) ∷ []) 22
write_small (Local v) i t = record { few_words = omega arith; no_branch = refl }
write_small (Global g) i t = record { few_words = omega arith; no_branch = refl }
write_small (Array g) i t = record { few_words = omega arith; no_branch = refl }
write_small Nothing i t = record { few_words = omega arith; no_branch = refl }

pub guard_small : (y : Symbol) (t : ℕ) → Small (Step (guard_step y t) ∷ []) 12
guard_small (Local v) t = record { few_words = omega arith; no_branch = refl }
guard_small (Global g) t = record { few_words = omega arith; no_branch = refl }
guard_small (Array g) t = record { few_words = omega arith; no_branch = refl }
guard_small Nothing t = record { few_words = omega arith; no_branch = refl }

pub moved_small : (y : Target) (t u : ℕ) → Small (moved_down y t u) 12
moved_small Neither t u = record { few_words = omega arith; no_branch = refl }
moved_small (Named n) t u = record { few_words = omega arith; no_branch = refl }
moved_small (Indexed n) t u = record { few_words = omega arith; no_branch = refl }

pub result_small : (before : Bool) (y : Target) (t u : ℕ) → Small (bump_result before y t u) 12
result_small true y t u = record { few_words = omega arith; no_branch = refl }
result_small false y t u = moved_small y t u

pub binary_small : (op : BinaryOp) (u : Bool) (t r : ℕ) → Small (binary_lines op u t r) 56
binary_small c.Mul u t r = record { few_words = omega arith; no_branch = refl }
binary_small c.Div true t r = record { few_words = omega arith; no_branch = refl }
binary_small c.Div false t r = record { few_words = omega arith; no_branch = refl }
binary_small c.Rem true t r = record { few_words = omega arith; no_branch = refl }
binary_small c.Rem false t r = record { few_words = omega arith; no_branch = refl }
binary_small c.Add u t r = record { few_words = omega arith; no_branch = refl }
binary_small c.Sub u t r = record { few_words = omega arith; no_branch = refl }
binary_small c.Shl u t r = record { few_words = omega arith; no_branch = refl }
binary_small c.Shr true t r = record { few_words = omega arith; no_branch = refl }
binary_small c.Shr false t r = record { few_words = omega arith; no_branch = refl }
binary_small c.Lt true t r = record { few_words = omega arith; no_branch = refl }
binary_small c.Lt false t r = record { few_words = omega arith; no_branch = refl }
binary_small c.Gt true t r = record { few_words = omega arith; no_branch = refl }
binary_small c.Gt false t r = record { few_words = omega arith; no_branch = refl }
binary_small c.Le true t r = record { few_words = omega arith; no_branch = refl }
binary_small c.Le false t r = record { few_words = omega arith; no_branch = refl }
binary_small c.Ge true t r = record { few_words = omega arith; no_branch = refl }
binary_small c.Ge false t r = record { few_words = omega arith; no_branch = refl }
binary_small c.Eq u t r = record { few_words = omega arith; no_branch = refl }
binary_small c.Ne u t r = record { few_words = omega arith; no_branch = refl }
binary_small c.And u t r = record { few_words = omega arith; no_branch = refl }
binary_small c.Xor u t r = record { few_words = omega arith; no_branch = refl }
binary_small c.Or u t r = record { few_words = omega arith; no_branch = refl }

pub unary_small : (op : UnaryOp) (t r : ℕ) → Small (unary_lines op t r) 32
unary_small unary.Minus t r = record { few_words = omega arith; no_branch = refl }
unary_small unary.Plus t r = record { few_words = omega arith; no_branch = refl }
unary_small unary.Flip t r = record { few_words = omega arith; no_branch = refl }
unary_small unary.Not t r = record { few_words = omega arith; no_branch = refl }

count-from_on : (n t : ℕ) → length (from_on n t) ≡ n
count-from_on zero t = refl
count-from_on (suc n) t = omega (arith, count-from_on n (t + 1))

pub callee_small : (y : Callee) (n t : ℕ) → Small (callee_lines y n t) (19 + 12 * n)
callee_small InWord n t = record { few_words = omega arith; no_branch = refl }
callee_small OutWord n t = record { few_words = omega arith; no_branch = refl }
callee_small (Defined number arity true is_unsigned) n t = record { few_words = omega (arith, count-from_on n t); no_branch = refl }
callee_small (Defined number arity false is_unsigned) n t = record { few_words = omega (arith, count-from_on n t); no_branch = refl }
callee_small NoFunction n t = record { few_words = omega arith; no_branch = refl }

-- ---- expressions

pub record Sized (l : LowExpr) (nodes cost : ℕ) : Type 0 where
  pub value_words : (n t : ℕ) → words (l.value n t) + 34 ≤ 60 * nodes
  pub condition_words : (n t h f : ℕ) (nx : Bool) → words (l.condition n t h f nx) + 9 ≤ 60 * nodes
  pub place_words : (n t : ℕ) → words (l.place n t) + 60 ≤ 60 * nodes
  pub value_blocks : (n t : ℕ) → l.blocks + branches (l.value n t) ≤ cost
  pub condition_blocks : (n t h f : ℕ) (nx : Bool) → l.condition_blocks + branches (l.condition n t h f nx) ≤ cost + 2
  pub place_blocks : (n t : ℕ) → l.place_blocks + branches (l.place n t) ≤ cost

plain_sized : (blocks : ℕ) (lines : ℕ → ℕ → List Line) (u void : Bool) (nodes cost : ℕ) → 1 ≤ nodes → ((n t : ℕ) → words (lines n t) + 34 ≤ 60 * nodes) → ((n t : ℕ) → blocks + branches (lines n t) ≤ cost) → Sized (record (plain blocks lines u) { is_void = void }) nodes cost
plain_sized blocks lines u void nodes cost some w bl = record {
  value_words = w;
  condition_words = λ n t h f nx. let e = words-append (lines n t) (End (Branch t (not nx) (if nx then f else h)) ∷ []) in omega (arith, e, w n t);
  place_words = λ n t. omega (arith, some);
  value_blocks = bl;
  condition_blocks = λ n t h f nx. let e = branches-append (lines n t) (End (Branch t (not nx) (if nx then f else h)) ∷ []) in omega (arith, e, bl n t);
  place_blocks = λ n t. omega arith;
}

module _ (items : List TopItem) (names : Bindings) (calls_cost : (name : ℕ) → callee_blocks (names.callee name) ≤ call_cost items name) where
  place_sized : (name : ℕ) (y : Target) (blocks : ℕ) (lines : ℕ → ℕ → List Line) (u : Bool) (nodes cost : ℕ) → ((n t : ℕ) → words (lines n t) + 60 ≤ 60 * nodes) → ((n t : ℕ) → blocks + branches (lines n t) ≤ cost) → Sized (record (plain blocks (fetch_lines names y lines) u) { target = y; place_blocks = blocks; place = lines }) nodes cost
  place_sized name y blocks lines u nodes cost w bl =
      let vw : (n t : ℕ) → words (fetch_lines names y lines n t) + 34 ≤ 60 * nodes = λ n t. let e = words-append (lines n t) (Step (read_step (target_symbol names y) t t) ∷ []) in let r = (read_small (target_symbol names y) t t).few_words in omega (arith, e, r, w n t) in
      let vb : (n t : ℕ) → blocks + branches (fetch_lines names y lines n t) ≤ cost = λ n t. let e = branches-append (lines n t) (Step (read_step (target_symbol names y) t t) ∷ []) in let r = (read_small (target_symbol names y) t t).no_branch in omega (arith, e, r, bl n t) in
      record {
        value_words = vw;
        condition_words = λ n t h f nx. let e = words-append (fetch_lines names y lines n t) (End (Branch t (not nx) (if nx then f else h)) ∷ []) in omega (arith, e, vw n t);
        place_words = w;
        value_blocks = vb;
        condition_blocks = λ n t h f nx. let e = branches-append (fetch_lines names y lines n t) (End (Branch t (not nx) (if nx then f else h)) ∷ []) in omega (arith, e, vb n t);
        place_blocks = bl;
      }

  abbrev pub SizedExpr : Expr → Type 0
  SizedExpr e = Sized (low names e) (expression_nodes e) (expression_cost items e)

  abbrev Part : Type 0
  Part = (e : Expr) × SizedExpr e

  abbrev exprs : List Part → List Expr
  exprs es = map (λ e. e.0) es

  args_words_few : (es : List Part) (n t : ℕ) → words (args_lines (map (low names) (exprs es)) n t) + 34 * length es ≤ 60 * sum (map expression_nodes (exprs es))
  args_words_few [] n t = omega arith
  args_words_few (x ∷ es) n t =
      let l : LowExpr = low names x.0 in
      let e = words-append (l.value n t) (args_lines (map (low names) (exprs es)) (n + l.blocks) (t + 1)) in
      let total = sum_by-cons (λ m. m) (expression_nodes x.0) (map expression_nodes (exprs es)) in
      let head = x.1.value_words n t in
      let rest = args_words_few es (n + l.blocks) (t + 1) in
      omega (arith, e, total, head, rest)

  args_blocks_few : (es : List Part) (n t : ℕ) → args_blocks (map (low names) (exprs es)) + branches (args_lines (map (low names) (exprs es)) n t) ≤ sum (map (expression_cost items) (exprs es))
  args_blocks_few [] n t = omega arith
  args_blocks_few (x ∷ es) n t =
      let l : LowExpr = low names x.0 in
      let e = branches-append (l.value n t) (args_lines (map (low names) (exprs es)) (n + l.blocks) (t + 1)) in
      let total = sum_by-cons (λ m. m) (expression_cost items x.0) (map (expression_cost items) (exprs es)) in
      let head = x.1.value_blocks n t in
      let rest = args_blocks_few es (n + l.blocks) (t + 1) in
      omega (arith, e, total, head, rest)

  lows_count : (es : List Part) → length (map (low names) (exprs es)) ≡ length es
  lows_count [] = refl
  lows_count (x ∷ es) = omega (arith, lows_count es)

  call_sized : (name : ℕ) (es : List Part) → Sized (low_step names (Expr-F.Call name (map (low names) (exprs es)) 0)) (1 + sum (map expression_nodes (exprs es))) (call_cost items name + sum (map (expression_cost items) (exprs es)))
  call_sized name es =
      let y : Callee = names.callee name in
      let ls : List LowExpr = map (low names) (exprs es) in
      plain_sized (args_blocks ls + callee_blocks y) (λ n t. args_lines ls n t ++ callee_lines y (length ls) t) _ _ (1 + sum (map expression_nodes (exprs es))) (call_cost items name + sum (map (expression_cost items) (exprs es))) (omega arith)
      (λ n t. let e = words-append (args_lines ls n t) (callee_lines y (length ls) t) in let a = args_words_few es n t in let s = (callee_small y (length ls) t).few_words in let k = lows_count es in omega (arith, e, a, s, k))
      (λ n t. let e = branches-append (args_lines ls n t) (callee_lines y (length ls) t) in let a = args_blocks_few es n t in let s = (callee_small y (length ls) t).no_branch in let k = calls_cost name in omega (arith, e, a, s, k))

  unary_sized : (op : UnaryOp) (l : LowExpr) (m cost : ℕ) → Sized l m cost → Sized (low_step names (Expr-F.Unary op l 0)) (1 + m) cost
  unary_sized op l m cost p = by op
    where
      as_plain : (o : UnaryOp) → Sized (record (plain l.blocks (λ n t. l.value n t ++ unary_lines o t (t + 1)) (unary_type o l.is_unsigned)) { is_void = false }) (1 + m) cost
      as_plain o = plain_sized l.blocks (λ n t. l.value n t ++ unary_lines o t (t + 1)) (unary_type o l.is_unsigned) false (1 + m) cost (omega arith)
          (λ n t. let e = words-append (l.value n t) (unary_lines o t (t + 1)) in let a = p.value_words n t in let s = (unary_small o t (t + 1)).few_words in omega (arith, e, a, s))
          (λ n t. let e = branches-append (l.value n t) (unary_lines o t (t + 1)) in let a = p.value_blocks n t in let s = (unary_small o t (t + 1)).no_branch in omega (arith, e, a, s))

      by : (o : UnaryOp) → Sized (low_step names (Expr-F.Unary o l 0)) (1 + m) cost
      by unary.Minus = as_plain unary.Minus
      by unary.Plus = as_plain unary.Plus
      by unary.Flip = as_plain unary.Flip
      by unary.Not = let q = as_plain unary.Not in record {
        value_words = q.value_words;
        condition_words = λ n t h f nx. let a = p.condition_words n t f h (not nx) in omega (arith, a);
        place_words = q.place_words;
        value_blocks = q.value_blocks;
        condition_blocks = λ n t h f nx. p.condition_blocks n t f h (not nx);
        place_blocks = q.place_blocks;
      }

  binary_sized : (op : BinaryOp) (l1 l2 : LowExpr) (m1 m2 c1 c2 : ℕ) → Sized l1 m1 c1 → Sized l2 m2 c2 → Sized (low_step names (Expr-F.Binary op l1 l2 0)) (1 + m1 + m2) (c1 + c2)
  binary_sized op l1 l2 m1 m2 c1 c2 p q =
      let o : Bool = operand_type op l1.is_unsigned l2.is_unsigned in
      plain_sized (l1.blocks + l2.blocks) (λ n t. l1.value n t ++ (l2.value (n + l1.blocks) (t + 1) ++ binary_lines op o t (t + 1))) _ false (1 + m1 + m2) (c1 + c2) (omega arith)
      (λ n t. let e1 = words-append (l1.value n t) (l2.value (n + l1.blocks) (t + 1) ++ binary_lines op o t (t + 1)) in let e2 = words-append (l2.value (n + l1.blocks) (t + 1)) (binary_lines op o t (t + 1)) in let a = p.value_words n t in let b = q.value_words (n + l1.blocks) (t + 1) in let s = (binary_small op o t (t + 1)).few_words in omega (arith, e1, e2, a, b, s))
      (λ n t. let e1 = branches-append (l1.value n t) (l2.value (n + l1.blocks) (t + 1) ++ binary_lines op o t (t + 1)) in let e2 = branches-append (l2.value (n + l1.blocks) (t + 1)) (binary_lines op o t (t + 1)) in let a = p.value_blocks n t in let b = q.value_blocks (n + l1.blocks) (t + 1) in let s = (binary_small op o t (t + 1)).no_branch in omega (arith, e1, e2, a, b, s))

  logic_words : (is_and : Bool) (l1 l2 : LowExpr) (m1 m2 c1 c2 : ℕ) → Sized l1 m1 c1 → Sized l2 m2 c2 → (n t h f : ℕ) (nx : Bool) → words (logic_lines is_and l1 l2 n t h f nx) + 18 ≤ 60 * m1 + 60 * m2
  logic_words true l1 l2 m1 m2 c1 c2 p q n t h f nx =
      let j : ℕ = n + l1.condition_blocks in
      let e = words-append (l1.condition n t j f true) (l2.condition j t h f nx) in let a = p.condition_words n t j f true in let b = q.condition_words j t h f nx in omega (arith, e, a, b)
  logic_words false l1 l2 m1 m2 c1 c2 p q n t h f nx =
      let j : ℕ = n + l1.condition_blocks in
      let e = words-append (l1.condition n t h j false) (l2.condition j t h f nx) in let a = p.condition_words n t h j false in let b = q.condition_words j t h f nx in omega (arith, e, a, b)

  logic_blocks : (is_and : Bool) (l1 l2 : LowExpr) (m1 m2 c1 c2 : ℕ) → Sized l1 m1 c1 → Sized l2 m2 c2 → (n t h f : ℕ) (nx : Bool) → l1.condition_blocks + l2.condition_blocks + branches (logic_lines is_and l1 l2 n t h f nx) ≤ c1 + c2 + 4
  logic_blocks true l1 l2 m1 m2 c1 c2 p q n t h f nx =
      let j : ℕ = n + l1.condition_blocks in
      let e = branches-append (l1.condition n t j f true) (l2.condition j t h f nx) in let a = p.condition_blocks n t j f true in let b = q.condition_blocks j t h f nx in omega (arith, e, a, b)
  logic_blocks false l1 l2 m1 m2 c1 c2 p q n t h f nx =
      let j : ℕ = n + l1.condition_blocks in
      let e = branches-append (l1.condition n t h j false) (l2.condition j t h f nx) in let a = p.condition_blocks n t h j false in let b = q.condition_blocks j t h f nx in omega (arith, e, a, b)

  logic_sized : (is_and : Bool) (l1 l2 : LowExpr) (m1 m2 c1 c2 : ℕ) → Sized l1 m1 c1 → Sized l2 m2 c2 → Sized (low_step names (Expr-F.Logic is_and l1 l2 0)) (1 + m1 + m2) (6 + c1 + c2)
  logic_sized is_and l1 l2 m1 m2 c1 c2 p q =
      let k : ℕ = l1.condition_blocks + l2.condition_blocks in
      let rest : ℕ → ℕ → List Line = λ n t. Step (Constant t 1) ∷ End (Jump (n + k + 2)) ∷ Step (Constant t 0) ∷ End (Jump (n + k + 2)) ∷ [] in
      let r = plain_sized (k + 2) (truth_lines k (logic_lines is_and l1 l2)) false false (1 + m1 + m2) (6 + c1 + c2) (omega arith)
      (λ n t. let e = words-append (logic_lines is_and l1 l2 n t (n + k) (n + k + 1) true) (rest n t) in let a = logic_words is_and l1 l2 m1 m2 c1 c2 p q n t (n + k) (n + k + 1) true in omega (arith, e, a))
      (λ n t. let e = branches-append (logic_lines is_and l1 l2 n t (n + k) (n + k + 1) true) (rest n t) in let a = logic_blocks is_and l1 l2 m1 m2 c1 c2 p q n t (n + k) (n + k + 1) true in omega (arith, e, a)) in
      record {
        value_words = r.value_words;
        condition_words = λ n t h f nx. let a = logic_words is_and l1 l2 m1 m2 c1 c2 p q n t h f nx in omega (arith, a);
        place_words = r.place_words;
        value_blocks = r.value_blocks;
        condition_blocks = λ n t h f nx. let a = logic_blocks is_and l1 l2 m1 m2 c1 c2 p q n t h f nx in omega (arith, a);
        place_blocks = r.place_blocks;
      }

  choose_sized : (lt la lb : LowExpr) (mt ma mb ct ca cb : ℕ) → Sized lt mt ct → Sized la ma ca → Sized lb mb cb → Sized (low_step names (Expr-F.Choose lt la lb 0)) (1 + mt + ma + mb) (6 + ct + ca + cb)
  choose_sized lt la lb mt ma mb ct ca cb p q r =
      plain_sized (lt.condition_blocks + la.blocks + 1 + lb.blocks + 1) (choose_lines lt la lb) _ false (1 + mt + ma + mb) (6 + ct + ca + cb) (omega arith) sizes blocks
    where
      sizes : (n t : ℕ) → words (choose_lines lt la lb n t) + 34 ≤ 60 * (1 + mt + ma + mb)
      sizes n t =
          let h : ℕ = n + lt.condition_blocks in let f : ℕ = h + la.blocks + 1 in let j : ℕ = f + lb.blocks + 1 in
          let tail : List Line = lb.value f t ++ End (Jump j) ∷ [] in
          let e1 = words-append (lt.condition n t h f true) (la.value h t ++ (End (Jump j) ∷ tail)) in let e2 = words-append (la.value h t) (End (Jump j) ∷ tail) in let e3 = words-append (lb.value f t) (End (Jump j) ∷ []) in
          let a1 = p.condition_words n t h f true in let a2 = q.value_words h t in let a3 = r.value_words f t in omega (arith, e1, e2, e3, a1, a2, a3)

      blocks : (n t : ℕ) → lt.condition_blocks + la.blocks + 1 + lb.blocks + 1 + branches (choose_lines lt la lb n t) ≤ 6 + ct + ca + cb
      blocks n t =
          let h : ℕ = n + lt.condition_blocks in let f : ℕ = h + la.blocks + 1 in let j : ℕ = f + lb.blocks + 1 in
          let tail : List Line = lb.value f t ++ End (Jump j) ∷ [] in
          let e1 = branches-append (lt.condition n t h f true) (la.value h t ++ (End (Jump j) ∷ tail)) in let e2 = branches-append (la.value h t) (End (Jump j) ∷ tail) in let e3 = branches-append (lb.value f t) (End (Jump j) ∷ []) in
          let a1 = p.condition_blocks n t h f true in let a2 = q.value_blocks h t in let a3 = r.value_blocks f t in omega (arith, e1, e2, e3, a1, a2, a3)

  assign_sized : (o : Option BinaryOp) (lp lr : LowExpr) (mp mr cp cr : ℕ) → Sized lp mp cp → Sized lr mr cr → Sized (low_step names (Expr-F.Assign o lp lr 0)) (1 + mp + mr) (cp + cr)
  assign_sized o lp lr mp mr cp cr p q = plain_sized (lp.place_blocks + lr.blocks) (λ n t. assign_with_lines names o lp lr n t (beside lp.target t)) _ false (1 + mp + mr) (cp + cr) (omega arith) (sizes o) (blocks o)
    where
      sizes : (o' : Option BinaryOp) (n t : ℕ) → words (assign_with_lines names o' lp lr n t (beside lp.target t)) + 34 ≤ 60 * (1 + mp + mr)
      sizes None n t =
          let y : Target = lp.target in let u : ℕ = beside y t in let m : ℕ = n + lp.place_blocks in
          let move : List Line = moved_down y t u in let store : Line = Step (write_step (target_symbol names y) t u) in
          let e1 = words-append (lp.place n t) (lr.value m u ++ (store ∷ move)) in let e2 = words-append (lr.value m u) (store ∷ move) in
          let a1 = p.place_words n t in let a2 = q.value_words m u in let s1 = (write_small (target_symbol names y) t u).few_words in let s2 = (moved_small y t u).few_words in omega (arith, e1, e2, a1, a2, s1, s2)
      sizes (Some op) n t =
          let y : Target = lp.target in let u : ℕ = beside y t in let m : ℕ = n + lp.place_blocks in
          let ty : Bool = operand_type op lp.is_unsigned lr.is_unsigned in
          let ops : List Line = binary_lines op ty u (u + 1) in
          let move : List Line = moved_down y t u in let store : Line = Step (write_step (target_symbol names y) t u) in let load : Line = Step (read_step (target_symbol names y) t u) in
          let e1 = words-append (lp.place n t) (load ∷ (lr.value m (u + 1) ++ (ops ++ (store ∷ move)))) in let e2 = words-append (lr.value m (u + 1)) (ops ++ (store ∷ move)) in let e3 = words-append ops (store ∷ move) in
          let a1 = p.place_words n t in let a2 = q.value_words m (u + 1) in let s0 = (read_small (target_symbol names y) t u).few_words in let s1 = (write_small (target_symbol names y) t u).few_words in let s2 = (moved_small y t u).few_words in let s3 = (binary_small op ty u (u + 1)).few_words in omega (arith, e1, e2, e3, a1, a2, s0, s1, s2, s3)

      blocks : (o' : Option BinaryOp) (n t : ℕ) → lp.place_blocks + lr.blocks + branches (assign_with_lines names o' lp lr n t (beside lp.target t)) ≤ cp + cr
      blocks None n t =
          let y : Target = lp.target in let u : ℕ = beside y t in let m : ℕ = n + lp.place_blocks in
          let move : List Line = moved_down y t u in let store : Line = Step (write_step (target_symbol names y) t u) in
          let e1 = branches-append (lp.place n t) (lr.value m u ++ (store ∷ move)) in let e2 = branches-append (lr.value m u) (store ∷ move) in
          let a1 = p.place_blocks n t in let a2 = q.value_blocks m u in let s2 = (moved_small y t u).no_branch in omega (arith, e1, e2, a1, a2, s2)
      blocks (Some op) n t =
          let y : Target = lp.target in let u : ℕ = beside y t in let m : ℕ = n + lp.place_blocks in
          let ty : Bool = operand_type op lp.is_unsigned lr.is_unsigned in
          let ops : List Line = binary_lines op ty u (u + 1) in
          let move : List Line = moved_down y t u in let store : Line = Step (write_step (target_symbol names y) t u) in let load : Line = Step (read_step (target_symbol names y) t u) in
          let e1 = branches-append (lp.place n t) (load ∷ (lr.value m (u + 1) ++ (ops ++ (store ∷ move)))) in let e2 = branches-append (lr.value m (u + 1)) (ops ++ (store ∷ move)) in let e3 = branches-append ops (store ∷ move) in
          let a1 = p.place_blocks n t in let a2 = q.value_blocks m (u + 1) in let s2 = (moved_small y t u).no_branch in let s3 = (binary_small op ty u (u + 1)).no_branch in omega (arith, e1, e2, e3, a1, a2, s2, s3)

  bump_sized : (up before : Bool) (lp : LowExpr) (mp cp : ℕ) → Sized lp mp cp → Sized (low_step names (Expr-F.Bump up before lp 0)) (1 + mp) cp
  bump_sized up before lp mp cp p = plain_sized lp.place_blocks (λ n t. bump_lines names up before lp n t (beside lp.target t)) _ false (1 + mp) cp (omega arith)
      (λ n t. let y : Target = lp.target in let u : ℕ = beside y t in
      let last : List Line = bump_result before y t u in let store : Line = Step (write_step (target_symbol names y) t (u + 1)) in let load : Line = Step (read_step (target_symbol names y) t u) in
      let e1 = words-append (lp.place n t) (load ∷ Step (Constant (u + 1) 1) ∷ Step (Operate (bump_operation up) (u + 1) u (u + 1)) ∷ store ∷ last) in
      let a1 = p.place_words n t in let s0 = (read_small (target_symbol names y) t u).few_words in let s1 = (write_small (target_symbol names y) t (u + 1)).few_words in let s2 = (result_small before y t u).few_words in let s3 = bump_words up in omega (arith, e1, a1, s0, s1, s2, s3))
      (λ n t. let y : Target = lp.target in let u : ℕ = beside y t in
      let last : List Line = bump_result before y t u in let store : Line = Step (write_step (target_symbol names y) t (u + 1)) in let load : Line = Step (read_step (target_symbol names y) t u) in
      let e1 = branches-append (lp.place n t) (load ∷ Step (Constant (u + 1) 1) ∷ Step (Operate (bump_operation up) (u + 1) u (u + 1)) ∷ store ∷ last) in
      let a1 = p.place_blocks n t in let s2 = (result_small before y t u).no_branch in omega (arith, e1, a1, s2))
    where
      bump_words : (b : Bool) → operation_words (bump_operation b) ≡ 18
      bump_words true = refl
      bump_words false = refl

  comma_sized : (l1 l2 : LowExpr) (m1 m2 c1 c2 : ℕ) → Sized l1 m1 c1 → Sized l2 m2 c2 → Sized (low_step names (Expr-F.Comma l1 l2 0)) (1 + m1 + m2) (c1 + c2)
  comma_sized l1 l2 m1 m2 c1 c2 p q = plain_sized (l1.blocks + l2.blocks) (λ n t. l1.value n t ++ l2.value (n + l1.blocks) t) _ _ (1 + m1 + m2) (c1 + c2) (omega arith)
      (λ n t. let e = words-append (l1.value n t) (l2.value (n + l1.blocks) t) in let a = p.value_words n t in let b = q.value_words (n + l1.blocks) t in omega (arith, e, a, b))
      (λ n t. let e = branches-append (l1.value n t) (l2.value (n + l1.blocks) t) in let a = p.value_blocks n t in let b = q.value_blocks (n + l1.blocks) t in omega (arith, e, a, b))

  more_nodes : (l : LowExpr) (m cost : ℕ) → Sized l m cost → Sized l (1 + m) cost
  more_nodes l m cost p = record {
    value_words = λ n t. let a = p.value_words n t in omega (arith, a);
    condition_words = λ n t h f nx. let a = p.condition_words n t h f nx in omega (arith, a);
    place_words = λ n t. let a = p.place_words n t in omega (arith, a);
    value_blocks = p.value_blocks;
    condition_blocks = p.condition_blocks;
    place_blocks = p.place_blocks;
  }

  bare : Expr-F Part → Expr-F Expr
  bare y = map-Expr Part Expr (λ e. e.0) y

  each_sized : (y : Expr-F Part) → Sized (low_step names (map-Expr Expr LowExpr (low names) (bare y))) (expression_nodes_step (map-Expr Expr ℕ expression_nodes (bare y))) (expression_cost_step items (map-Expr Expr ℕ (expression_cost items) (bare y)))
  unfolding bare
  each_sized (Expr-F.Literal word u at) = plain_sized 0 (λ n t. Step (Constant t word) ∷ []) u false 1 0 (omega arith) (λ n t. omega arith) (λ n t. omega arith)
  each_sized (Expr-F.Name name at) = place_sized name (Named name) 0 (λ n t. []) _ 1 0 (λ n t. omega arith) (λ n t. omega arith)
  each_sized (Expr-F.Index name i at) =
      let l : LowExpr = low names i.0 in
      place_sized name (Indexed name) l.blocks (λ n t. l.value n t ++ Step (guard_step (symbol names name) t) ∷ []) _ (1 + expression_nodes i.0) (expression_cost items i.0)
      (λ n t. let e = words-append (l.value n t) (Step (guard_step (symbol names name) t) ∷ []) in let a = i.1.value_words n t in let s = (guard_small (symbol names name) t).few_words in omega (arith, e, a, s))
      (λ n t. let e = branches-append (l.value n t) (Step (guard_step (symbol names name) t) ∷ []) in let a = i.1.value_blocks n t in omega (arith, e, a))
  each_sized (Expr-F.Call name args at) = call_sized name args
  each_sized (Expr-F.Unary op x at) = unary_sized op (low names x.0) (expression_nodes x.0) (expression_cost items x.0) x.1
  each_sized (Expr-F.Binary op x y at) = binary_sized op (low names x.0) (low names y.0) (expression_nodes x.0) (expression_nodes y.0) (expression_cost items x.0) (expression_cost items y.0) x.1 y.1
  each_sized (Expr-F.Logic is_and x y at) = logic_sized is_and (low names x.0) (low names y.0) (expression_nodes x.0) (expression_nodes y.0) (expression_cost items x.0) (expression_cost items y.0) x.1 y.1
  each_sized (Expr-F.Choose t x y at) = choose_sized (low names t.0) (low names x.0) (low names y.0) (expression_nodes t.0) (expression_nodes x.0) (expression_nodes y.0) (expression_cost items t.0) (expression_cost items x.0) (expression_cost items y.0) t.1 x.1 y.1
  each_sized (Expr-F.Assign op x y at) = assign_sized op (low names x.0) (low names y.0) (expression_nodes x.0) (expression_nodes y.0) (expression_cost items x.0) (expression_cost items y.0) x.1 y.1
  each_sized (Expr-F.Bump up before x at) = bump_sized up before (low names x.0) (expression_nodes x.0) (expression_cost items x.0) x.1
  each_sized (Expr-F.Comma x y at) = comma_sized (low names x.0) (low names y.0) (expression_nodes x.0) (expression_nodes y.0) (expression_cost items x.0) (expression_cost items y.0) x.1 y.1
  each_sized (Expr-F.Paren x at) = more_nodes (low names x.0) (expression_nodes x.0) (expression_cost items x.0) x.1

  -- a value's lines come to at most 60 words a node, less 34, and to at most as many blocks and branches as it costs
  pub sized : (e : Expr) → SizedExpr e
  unfolding bare
  sized = ind-Expr SizedExpr (λ x y is. subst (λ z. SizedExpr (roll-Expr z)) is
      (rw (fold-roll-Expr LowExpr (low_step names) (bare y), fold-roll-Expr ℕ expression_nodes_step (bare y), fold-roll-Expr ℕ (expression_cost_step items) (bare y)) (each_sized y)))
