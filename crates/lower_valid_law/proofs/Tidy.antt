-- The lines of an expression that fits: its variables lie within its temporaries, and what it names is there.
use Rattle.std.proofs.Common.{◌≡◌, ℕ, suc, ◌+◌, ◌<◌, ◌≤◌, max, Bool, true, false, not, List, [], ◌∷◌, ◌++◌, map, length, Option, Some, None, refl, sym, subst, if◌then◌else◌, arith}
use Rattle.std.specs.Prelude.{◌&&◌}
use Rattle.std.proofs.lemmas.Bool.{and_parts}
use Rattle.c_syntax.specs.declared.tree.BinaryOp.{BinaryOp}
use Rattle.c_syntax.specs.declared.tree.UnaryOp.{UnaryOp}
use Rattle.c_syntax.specs.declared.tree.UnaryOp.TheVariants as unary
use Rattle.c_syntax.specs.declared.tree.Expr.{Expr, roll-Expr, map-Expr, ind-Expr, fold-roll-Expr}
use Rattle.c_syntax.specs.declared.tree.Expr.TheOpen.{Expr-F}
use Rattle.c_meaning.specs.Operators.{operand_type, unary_type}
use Rattle.c_syntax.specs.Costs.{Need, needs, need_step, need, argument_temps, assign_temps, bump_temps}
use Rattle.mid_blocks.specs.declared.code.MidStep.TheVariants.{Constant, Operate}
use Rattle.mid_blocks.specs.declared.code.MidEnd.TheVariants.{Jump, Branch}
use Rattle.mid_blocks.specs.Lines.{Line, Step, End}
use Rattle.lower_rules.specs.Bindings.{Bindings, Callee, Defined, symbol, callee_takes}
use Rattle.lower_rules.specs.Expressions.{Target, Named, Indexed, LowExpr, plain, low_step, low, binary_lines, unary_lines, read_step, write_step, guard_step, target_symbol, beside, moved_down, test_lines, truth_lines, logic_lines, choose_lines, args_blocks, args_lines, callee_lines, callee_blocks, fetch_lines, assign_with_lines, bump_operation, bump_result, bump_lines}
use Rattle.lower_rules.specs.Scoping.{Scopes, Fit, has_value, have_values, fit_step, fitting}
use Rattle.lower_valid_law.proofs.Clean.{Clean, none_clean, line_clean, join_clean, more_clean, binary_clean, unary_clean, Exists, read_clean, write_clean, guard_clean, moved_clean, result_clean, callee_clean, target_there}

-- one more variable for an index
abbrev pub index_temp : Bool → ℕ
index_temp true = 1
index_temp false = 0

-- the temporaries of a place, which only an index has
abbrev pub if_index : Bool → ℕ → ℕ
if_index true n = n
if_index false n = 0

if_most : (b : Bool) (n : ℕ) → if_index b n ≤ n
if_most true n = omega arith
if_most false n = omega arith

module _ (globals : ℕ) (fits : ℕ → ℕ → Bool) (free : ℕ) (names : Bindings) (there : (name : ℕ) → Exists globals fits free (symbol names name)) (known : (name number arity : ℕ) (void u : Bool) → names.callee name ≡ Defined number arity void u → fits number arity ≡ true) where
  abbrev Fine : List Line → ℕ → Type 0
  Fine lines most = Clean globals fits lines most

  pub record Tidy (l : LowExpr) (n : Need) : Type 0 where
    pub some : 1 ≤ n.temps
    pub value_clean : (b t : ℕ) → free ≤ t → Clean globals fits (l.value b t) (t + n.temps)
    pub condition_clean : (b t h f : ℕ) (nx : Bool) → free ≤ t → Clean globals fits (l.condition b t h f nx) (t + n.temps)
    pub place_clean : (b t : ℕ) → free ≤ t → Clean globals fits (l.place b t) (t + if_index n.is_index n.temps)
    pub beside_is : (t : ℕ) → beside l.target t ≡ t + index_temp n.is_index

  pub record Ready (l : LowExpr) (n : Need) (f : Fit) : Type 0 where
    pub tidy : (scopes : Scopes) → f.fits scopes ≡ true → Tidy l n

  abbrev one : (x : Line) (m : ℕ) → Type 0
  one x m = Fine (x ∷ []) m

  branch_clean : (t m : ℕ) (w : Bool) (to : ℕ) → t < m → Fine (End (Branch t w to) ∷ []) m
  branch_clean t m w to a = record { top_in = omega (arith, a); no_odd = refl }

  test_clean : (lines : ℕ → ℕ → List Line) (m b t h f : ℕ) (nx : Bool) → 1 ≤ m → Fine (lines b t) (t + m) → Fine (test_lines lines b t h f nx) (t + m)
  test_clean lines m b t h f nx some c = join_clean globals fits (lines b t) _ (t + m) c (branch_clean t (t + m) (not nx) (if nx then f else h) (omega (arith, some)))

  plain_tidy : (blocks : ℕ) (lines : ℕ → ℕ → List Line) (u void : Bool) (m : ℕ) → 1 ≤ m → ((b t : ℕ) → free ≤ t → Fine (lines b t) (t + m)) → Tidy (record (plain blocks lines u) { is_void = void }) (needs m)
  plain_tidy blocks lines u void m some c = record {
    some = some;
    value_clean = c;
    condition_clean = λ b t h f nx le. test_clean lines m b t h f nx some (c b t le);
    place_clean = λ b t le. none_clean globals fits (t + 0);
    beside_is = λ t. omega arith;
  }

  place_tidy : (y : Target) (blocks : ℕ) (lines : ℕ → ℕ → List Line) (u : Bool) (n : Need) → ((t : ℕ) → beside y t ≡ t + index_temp n.is_index) → 1 ≤ n.temps → ((b t : ℕ) → free ≤ t → Fine (lines b t) (t + if_index n.is_index n.temps)) → Tidy (record (plain blocks (fetch_lines names y lines) u) { target = y; place_blocks = blocks; place = lines }) n
  place_tidy y blocks lines u n is some c =
      let v : (b t : ℕ) → free ≤ t → Fine (fetch_lines names y lines b t) (t + n.temps) = λ b t le. join_clean globals fits (lines b t) _ (t + n.temps) (more_clean globals fits (lines b t) (t + if_index n.is_index n.temps) (t + n.temps) (omega (arith, if_most n.is_index n.temps)) (c b t le)) (read_clean globals fits free (target_symbol names y) t t (t + n.temps) (target_there globals fits free names there y) (omega (arith, le)) (omega (arith, some)) (omega (arith, some))) in
      record {
        some = some;
        value_clean = v;
        condition_clean = λ b t h f nx le. test_clean (fetch_lines names y lines) n.temps b t h f nx some (v b t le);
        place_clean = c;
        beside_is = is;
      }

  abbrev ReadyExpr : Expr → Type 0
  ReadyExpr e = Ready (low names e) (need e) (fitting names e)

  abbrev Part : Type 0
  Part = (e : Expr) × ReadyExpr e

  abbrev exprs : List Part → List Expr
  exprs es = map (λ e. e.0) es

  -- what has a value is tidy
  valued : (x : Part) (scopes : Scopes) → has_value (fitting names x.0) scopes ≡ true → Tidy (low names x.0) (need x.0)
  valued x scopes h = x.1.tidy scopes (and_parts (not (fitting names x.0).is_void) ((fitting names x.0).fits scopes) h).1

  args_clean : (es : List Part) (scopes : Scopes) → have_values (map (fitting names) (exprs es)) scopes ≡ true → (i b t u : ℕ) → free ≤ t → t + i ≡ u → Fine (args_lines (map (low names) (exprs es)) b u) (t + argument_temps i (map need (exprs es)))
  args_clean [] scopes h i b t u le e = none_clean globals fits (t + 0)
  args_clean (x ∷ es) scopes h i b t u le e =
      let p = and_parts (has_value (fitting names x.0) scopes) (have_values (map (fitting names) (exprs es)) scopes) h in
      let l : LowExpr = low names x.0 in
      let m : ℕ = t + argument_temps i (map need (exprs (x ∷ es))) in
      join_clean globals fits (l.value b u) _ m
      (more_clean globals fits (l.value b u) (u + (need x.0).temps) m (omega (arith, e)) ((valued x scopes p.0).value_clean b u (omega (arith, le, e))))
      (more_clean globals fits (args_lines (map (low names) (exprs es)) (b + l.blocks) (u + 1)) (t + argument_temps (suc i) (map need (exprs es))) m (omega arith) (args_clean es scopes p.1 (suc i) (b + l.blocks) t (u + 1) le (omega (arith, e))))

  args_count : (es : List Part) (scopes : Scopes) → have_values (map (fitting names) (exprs es)) scopes ≡ true → (i : ℕ) → i + length (map (low names) (exprs es)) ≤ max i (argument_temps i (map need (exprs es)))
  args_count [] scopes h i = omega arith
  args_count (x ∷ es) scopes h i =
      let p = and_parts (has_value (fitting names x.0) scopes) (have_values (map (fitting names) (exprs es)) scopes) h in
      omega (arith, (valued x scopes p.0).some, args_count es scopes p.1 (suc i))

  same_count : (es : List Part) → length (map (fitting names) (exprs es)) ≡ length (map (low names) (exprs es))
  same_count [] = refl
  same_count (x ∷ es) = omega (arith, same_count es)

  call_tidy : (name : ℕ) (es : List Part) (scopes : Scopes) → (fit_step names (Expr-F.Call name (map (fitting names) (exprs es)) 0)).fits scopes ≡ true → Tidy (low_step names (Expr-F.Call name (map (low names) (exprs es)) 0)) (need_step (Expr-F.Call name (map need (exprs es)) 0))
  call_tidy name es scopes h =
      let y : Callee = names.callee name in
      let ls : List LowExpr = map (low names) (exprs es) in
      let p = and_parts (callee_takes y (length (map (fitting names) (exprs es)))) (have_values (map (fitting names) (exprs es)) scopes) h in
      let takes : callee_takes y (length ls) ≡ true = subst (λ (n : ℕ). callee_takes y n ≡ true) (same_count es) p.0 in
      let m : ℕ = max 1 (argument_temps 0 (map need (exprs es))) in
      plain_tidy (args_blocks ls + callee_blocks y) (λ b t. args_lines ls b t ++ callee_lines y (length ls) t) _ _ m (omega arith)
      (λ b t le. join_clean globals fits (args_lines ls b t) (callee_lines y (length ls) t) (t + m)
      (more_clean globals fits (args_lines ls b t) (t + argument_temps 0 (map need (exprs es))) (t + m) (omega arith) (args_clean es scopes p.1 0 b t t le (omega arith)))
      (callee_clean globals fits y (length ls) t (t + m) (known name) takes (omega arith) (omega (arith, args_count es scopes p.1 0))))

  unary_tidy : (op : UnaryOp) (l : LowExpr) (n : Need) → Tidy l n → Tidy (low_step names (Expr-F.Unary op l 0)) (needs (max n.temps 2))
  unary_tidy op l n p = by op
    where
      m : ℕ
      m = max n.temps 2

      as_plain : (o : UnaryOp) → Tidy (record (plain l.blocks (λ b t. l.value b t ++ unary_lines o t (t + 1)) (unary_type o l.is_unsigned)) { is_void = false }) (needs (max n.temps 2))
      as_plain o = plain_tidy l.blocks (λ b t. l.value b t ++ unary_lines o t (t + 1)) (unary_type o l.is_unsigned) false (max n.temps 2) (omega arith)
          (λ b t le. join_clean globals fits (l.value b t) (unary_lines o t (t + 1)) (t + max n.temps 2) (more_clean globals fits (l.value b t) (t + n.temps) (t + max n.temps 2) (omega arith) (p.value_clean b t le)) (unary_clean globals fits o t (t + 1) (t + max n.temps 2) (omega arith) (omega arith)))

      by : (o : UnaryOp) → Tidy (low_step names (Expr-F.Unary o l 0)) (needs (max n.temps 2))
      by unary.Minus = as_plain unary.Minus
      by unary.Plus = as_plain unary.Plus
      by unary.Flip = as_plain unary.Flip
      by unary.Not = let q = as_plain unary.Not in record {
        some = q.some;
        value_clean = q.value_clean;
        condition_clean = λ b t h f nx le. more_clean globals fits (l.condition b t f h (not nx)) (t + n.temps) (t + max n.temps 2) (omega arith) (p.condition_clean b t f h (not nx) le);
        place_clean = q.place_clean;
        beside_is = q.beside_is;
      }

  binary_tidy : (op : BinaryOp) (l1 l2 : LowExpr) (n1 n2 : Need) → Tidy l1 n1 → Tidy l2 n2 → Tidy (low_step names (Expr-F.Binary op l1 l2 0)) (needs (max n1.temps (1 + n2.temps)))
  binary_tidy op l1 l2 n1 n2 p q =
      let o : Bool = operand_type op l1.is_unsigned l2.is_unsigned in
      let m : ℕ = max n1.temps (1 + n2.temps) in
      plain_tidy (l1.blocks + l2.blocks) (λ b t. l1.value b t ++ (l2.value (b + l1.blocks) (t + 1) ++ binary_lines op o t (t + 1))) _ false m (omega arith)
      (λ b t le. join_clean globals fits (l1.value b t) _ (t + m) (more_clean globals fits (l1.value b t) (t + n1.temps) (t + m) (omega arith) (p.value_clean b t le))
      (join_clean globals fits (l2.value (b + l1.blocks) (t + 1)) _ (t + m) (more_clean globals fits (l2.value (b + l1.blocks) (t + 1)) (t + 1 + n2.temps) (t + m) (omega arith) (q.value_clean (b + l1.blocks) (t + 1) (omega (arith, le))))
      (binary_clean globals fits op o t (t + 1) (t + m) (omega arith) (omega (arith, q.some)))))

  logic_clean : (is_and : Bool) (l1 l2 : LowExpr) (n1 n2 : Need) → Tidy l1 n1 → Tidy l2 n2 → (b t h f : ℕ) (nx : Bool) → free ≤ t → Fine (logic_lines is_and l1 l2 b t h f nx) (t + max n1.temps n2.temps)
  logic_clean true l1 l2 n1 n2 p q b t h f nx le =
      let j : ℕ = b + l1.condition_blocks in
      join_clean globals fits (l1.condition b t j f true) _ (t + max n1.temps n2.temps) (more_clean globals fits _ (t + n1.temps) _ (omega arith) (p.condition_clean b t j f true le)) (more_clean globals fits _ (t + n2.temps) _ (omega arith) (q.condition_clean j t h f nx le))
  logic_clean false l1 l2 n1 n2 p q b t h f nx le =
      let j : ℕ = b + l1.condition_blocks in
      join_clean globals fits (l1.condition b t h j false) _ (t + max n1.temps n2.temps) (more_clean globals fits _ (t + n1.temps) _ (omega arith) (p.condition_clean b t h j false le)) (more_clean globals fits _ (t + n2.temps) _ (omega arith) (q.condition_clean j t h f nx le))

  logic_tidy : (is_and : Bool) (l1 l2 : LowExpr) (n1 n2 : Need) → Tidy l1 n1 → Tidy l2 n2 → Tidy (low_step names (Expr-F.Logic is_and l1 l2 0)) (needs (max n1.temps n2.temps))
  logic_tidy is_and l1 l2 n1 n2 p q =
      let k : ℕ = l1.condition_blocks + l2.condition_blocks in
      let m : ℕ = max n1.temps n2.temps in
      let r = plain_tidy (k + 2) (truth_lines k (logic_lines is_and l1 l2)) false false m (omega (arith, p.some))
      (λ b t le. join_clean globals fits (logic_lines is_and l1 l2 b t (b + k) (b + k + 1) true) _ (t + m) (logic_clean is_and l1 l2 n1 n2 p q b t (b + k) (b + k + 1) true le) (record { top_in = omega (arith, p.some); no_odd = refl })) in
      record {
        some = r.some;
        value_clean = r.value_clean;
        condition_clean = λ b t h f nx le. logic_clean is_and l1 l2 n1 n2 p q b t h f nx le;
        place_clean = r.place_clean;
        beside_is = r.beside_is;
      }

  choose_tidy : (lt la lb : LowExpr) (nt na nb : Need) → Tidy lt nt → Tidy la na → Tidy lb nb → Tidy (low_step names (Expr-F.Choose lt la lb 0)) (needs (max nt.temps (max na.temps nb.temps)))
  choose_tidy lt la lb nt na nb p q r =
      let m : ℕ = max nt.temps (max na.temps nb.temps) in
      plain_tidy (lt.condition_blocks + la.blocks + 1 + lb.blocks + 1) (choose_lines lt la lb) _ false m (omega (arith, p.some)) (λ b t le.
      let h : ℕ = b + lt.condition_blocks in let f : ℕ = h + la.blocks + 1 in let j : ℕ = f + lb.blocks + 1 in
      join_clean globals fits (lt.condition b t h f true) _ (t + m) (more_clean globals fits _ (t + nt.temps) _ (omega arith) (p.condition_clean b t h f true le))
      (join_clean globals fits (la.value h t) _ (t + m) (more_clean globals fits _ (t + na.temps) _ (omega arith) (q.value_clean h t le))
      (line_clean globals fits (End (Jump j)) _ (t + m) (omega arith) refl
      (join_clean globals fits (lb.value f t) _ (t + m) (more_clean globals fits _ (t + nb.temps) _ (omega arith) (r.value_clean f t le)) (record { top_in = omega arith; no_odd = refl })))))

  -- the room of an assignment, by whether its place has an index
  record Room (n : Need) (more most : ℕ) : Type 0 where
    pub beside_in : index_temp n.is_index + more ≤ most
    pub place_in : if_index n.is_index n.temps ≤ most

  room : (n : Need) (more low high : ℕ) → low ≡ more → high ≡ 1 + more → Room n more (if n.is_index then max n.temps high else low)
  room n more low high e f = by n.is_index refl
    where
      by : (b : Bool) → n.is_index ≡ b → Room n more (if n.is_index then max n.temps high else low)
      by true is = subst (λ (b : Bool). Room (record { temps = n.temps; is_index = b }) more (if b then max n.temps high else low)) (sym is) (record { beside_in = omega (arith, f); place_in = omega arith })
      by false is = subst (λ (b : Bool). Room (record { temps = n.temps; is_index = b }) more (if b then max n.temps high else low)) (sym is) (record { beside_in = omega (arith, e); place_in = omega arith })

  assign_tidy : (o : Option BinaryOp) (lp lr : LowExpr) (np nr : Need) → Tidy lp np → Tidy lr nr → Tidy (low_step names (Expr-F.Assign o lp lr 0)) (needs (assign_temps o np nr.temps))
  assign_tidy None lp lr np nr p q =
      let k : ℕ = assign_temps None np nr.temps in
      let r : Room np nr.temps k = room np nr.temps (0 + nr.temps) (1 + nr.temps) (omega arith) refl in
      let in_ : index_temp np.is_index + nr.temps ≤ k = r.beside_in in
      plain_tidy (lp.place_blocks + lr.blocks) (λ b t. assign_with_lines names None lp lr b t (beside lp.target t)) _ false k (omega (arith, in_, q.some)) (λ b t le.
      let y : Target = lp.target in let u : ℕ = beside y t in let is : u ≡ t + index_temp np.is_index = p.beside_is t in
      join_clean globals fits (lp.place b t) _ (t + k) (more_clean globals fits _ (t + if_index np.is_index np.temps) _ (omega (arith, r.place_in)) (p.place_clean b t le))
      (join_clean globals fits (lr.value (b + lp.place_blocks) u) _ (t + k) (more_clean globals fits _ (u + nr.temps) _ (omega (arith, is, in_)) (q.value_clean (b + lp.place_blocks) u (omega (arith, is, le))))
      (join_clean globals fits (Step (write_step (target_symbol names y) t u) ∷ []) (moved_down y t u) (t + k)
      (write_clean globals fits free (target_symbol names y) t u (t + k) (target_there globals fits free names there y) (omega (arith, le)) (omega (arith, in_, q.some)) (omega (arith, is, in_, q.some)))
      (moved_clean globals fits y t u (t + k) (omega (arith, in_, q.some)) (omega (arith, is, in_, q.some))))))
  assign_tidy (Some op) lp lr np nr p q =
      let k : ℕ = assign_temps (Some op) np nr.temps in
      let r : Room np (1 + nr.temps) k = room np (1 + nr.temps) (1 + nr.temps) (2 + nr.temps) refl (omega arith) in
      let in_ : index_temp np.is_index + (1 + nr.temps) ≤ k = r.beside_in in
      plain_tidy (lp.place_blocks + lr.blocks) (λ b t. assign_with_lines names (Some op) lp lr b t (beside lp.target t)) _ false k (omega (arith, in_, q.some)) (λ b t le.
      let y : Target = lp.target in let u : ℕ = beside y t in let is : u ≡ t + index_temp np.is_index = p.beside_is t in
      let ty : Bool = operand_type op lp.is_unsigned lr.is_unsigned in
      join_clean globals fits (lp.place b t) _ (t + k) (more_clean globals fits _ (t + if_index np.is_index np.temps) _ (omega (arith, r.place_in)) (p.place_clean b t le))
      (join_clean globals fits (Step (read_step (target_symbol names y) t u) ∷ []) _ (t + k)
      (read_clean globals fits free (target_symbol names y) t u (t + k) (target_there globals fits free names there y) (omega (arith, le)) (omega (arith, in_, q.some)) (omega (arith, is, in_, q.some)))
      (join_clean globals fits (lr.value (b + lp.place_blocks) (u + 1)) _ (t + k) (more_clean globals fits _ (u + 1 + nr.temps) _ (omega (arith, is, in_)) (q.value_clean (b + lp.place_blocks) (u + 1) (omega (arith, is, le))))
      (join_clean globals fits (binary_lines op ty u (u + 1)) _ (t + k) (binary_clean globals fits op ty u (u + 1) (t + k) (omega (arith, is, in_, q.some)) (omega (arith, is, in_, q.some)))
      (join_clean globals fits (Step (write_step (target_symbol names y) t u) ∷ []) (moved_down y t u) (t + k)
      (write_clean globals fits free (target_symbol names y) t u (t + k) (target_there globals fits free names there y) (omega (arith, le)) (omega (arith, in_, q.some)) (omega (arith, is, in_, q.some)))
      (moved_clean globals fits y t u (t + k) (omega (arith, in_, q.some)) (omega (arith, is, in_, q.some))))))))

  bump_tidy : (up before : Bool) (lp : LowExpr) (np : Need) → Tidy lp np → Tidy (low_step names (Expr-F.Bump up before lp 0)) (needs (bump_temps np))
  bump_tidy up before lp np p =
      let k : ℕ = bump_temps np in
      let r : Room np 2 k = room np 2 2 3 refl refl in
      let in_ : index_temp np.is_index + 2 ≤ k = r.beside_in in
      plain_tidy lp.place_blocks (λ b t. bump_lines names up before lp b t (beside lp.target t)) _ false k (omega (arith, in_)) (λ b t le.
      let y : Target = lp.target in let u : ℕ = beside y t in let is : u ≡ t + index_temp np.is_index = p.beside_is t in
      join_clean globals fits (lp.place b t) _ (t + k) (more_clean globals fits _ (t + if_index np.is_index np.temps) _ (omega (arith, r.place_in)) (p.place_clean b t le))
      (join_clean globals fits (Step (read_step (target_symbol names y) t u) ∷ []) _ (t + k)
      (read_clean globals fits free (target_symbol names y) t u (t + k) (target_there globals fits free names there y) (omega (arith, le)) (omega (arith, in_)) (omega (arith, is, in_)))
      (line_clean globals fits (Step (Constant (u + 1) 1)) _ (t + k) (omega (arith, is, in_)) refl
      (line_clean globals fits (Step (Operate (bump_operation up) (u + 1) u (u + 1))) _ (t + k) (omega (arith, is, in_)) refl
      (join_clean globals fits (Step (write_step (target_symbol names y) t (u + 1)) ∷ []) (bump_result before y t u) (t + k)
      (write_clean globals fits free (target_symbol names y) t (u + 1) (t + k) (target_there globals fits free names there y) (omega (arith, le)) (omega (arith, in_)) (omega (arith, is, in_)))
      (result_clean globals fits before y t u (t + k) (omega (arith, in_)) (omega (arith, is, in_))))))))

  comma_tidy : (l1 l2 : LowExpr) (n1 n2 : Need) → Tidy l1 n1 → Tidy l2 n2 → Tidy (low_step names (Expr-F.Comma l1 l2 0)) (needs (max n1.temps n2.temps))
  comma_tidy l1 l2 n1 n2 p q =
      let m : ℕ = max n1.temps n2.temps in
      plain_tidy (l1.blocks + l2.blocks) (λ b t. l1.value b t ++ l2.value (b + l1.blocks) t) _ _ m (omega (arith, p.some))
      (λ b t le. join_clean globals fits (l1.value b t) _ (t + m) (more_clean globals fits _ (t + n1.temps) _ (omega arith) (p.value_clean b t le)) (more_clean globals fits _ (t + n2.temps) _ (omega arith) (q.value_clean (b + l1.blocks) t le)))

  -- ---- all expressions

  bare : Expr-F Part → Expr-F Expr
  bare y = map-Expr Part Expr (λ e. e.0) y

  each_tidy : (y : Expr-F Part) (scopes : Scopes) → (fit_step names (map-Expr Expr Fit (fitting names) (bare y))).fits scopes ≡ true → Tidy (low_step names (map-Expr Expr LowExpr (low names) (bare y))) (need_step (map-Expr Expr Need need (bare y)))
  unfolding bare
  each_tidy (Expr-F.Literal word u at) scopes h = plain_tidy 0 (λ b t. Step (Constant t word) ∷ []) u false 1 (omega arith) (λ b t le. record { top_in = omega arith; no_odd = refl })
  each_tidy (Expr-F.Name name at) scopes h = place_tidy (Named name) 0 (λ b t. []) _ (needs 1) (λ t. omega arith) (omega arith) (λ b t le. none_clean globals fits (t + 0))
  each_tidy (Expr-F.Index name i at) scopes h =
      let p = and_parts _ (has_value (fitting names i.0) scopes) h in
      let l : LowExpr = low names i.0 in
      let q = valued i scopes p.1 in
      place_tidy (Indexed name) l.blocks (λ b t. l.value b t ++ Step (guard_step (symbol names name) t) ∷ []) _ (record { temps = (need i.0).temps; is_index = true }) (λ t. refl) q.some
      (λ b t le. join_clean globals fits (l.value b t) _ (t + (need i.0).temps) (q.value_clean b t le) (guard_clean globals fits free (symbol names name) t (t + (need i.0).temps) (there name) (omega (arith, q.some))))
  each_tidy (Expr-F.Call name args at) scopes h = call_tidy name args scopes h
  each_tidy (Expr-F.Unary op x at) scopes h = unary_tidy op (low names x.0) (need x.0) (valued x scopes h)
  each_tidy (Expr-F.Binary op x y at) scopes h =
      let p = and_parts (has_value (fitting names x.0) scopes) (has_value (fitting names y.0) scopes) h in
      binary_tidy op (low names x.0) (low names y.0) (need x.0) (need y.0) (valued x scopes p.0) (valued y scopes p.1)
  each_tidy (Expr-F.Logic is_and x y at) scopes h =
      let p = and_parts (has_value (fitting names x.0) scopes) (has_value (fitting names y.0) scopes) h in
      logic_tidy is_and (low names x.0) (low names y.0) (need x.0) (need y.0) (valued x scopes p.0) (valued y scopes p.1)
  each_tidy (Expr-F.Choose t x y at) scopes h =
      let p = and_parts (has_value (fitting names t.0) scopes) (has_value (fitting names x.0) scopes && has_value (fitting names y.0) scopes) h in
      let q = and_parts (has_value (fitting names x.0) scopes) (has_value (fitting names y.0) scopes) p.1 in
      choose_tidy (low names t.0) (low names x.0) (low names y.0) (need t.0) (need x.0) (need y.0) (valued t scopes p.0) (valued x scopes q.0) (valued y scopes q.1)
  each_tidy (Expr-F.Assign op x y at) scopes h =
      let p = and_parts ((fitting names x.0).is_place && (fitting names x.0).fits scopes) (has_value (fitting names y.0) scopes) h in
      let q = and_parts (fitting names x.0).is_place ((fitting names x.0).fits scopes) p.0 in
      assign_tidy op (low names x.0) (low names y.0) (need x.0) (need y.0) (x.1.tidy scopes q.1) (valued y scopes p.1)
  each_tidy (Expr-F.Bump up before x at) scopes h =
      let q = and_parts (fitting names x.0).is_place ((fitting names x.0).fits scopes) h in
      bump_tidy up before (low names x.0) (need x.0) (x.1.tidy scopes q.1)
  each_tidy (Expr-F.Comma x y at) scopes h =
      let p = and_parts ((fitting names x.0).fits scopes) ((fitting names y.0).fits scopes) h in
      comma_tidy (low names x.0) (low names y.0) (need x.0) (need y.0) (x.1.tidy scopes p.0) (y.1.tidy scopes p.1)
  each_tidy (Expr-F.Paren x at) scopes h = x.1.tidy scopes h

  -- an expression that fits has clean lines
  ready : (e : Expr) → ReadyExpr e
  unfolding bare
  ready = ind-Expr ReadyExpr (λ x y is. subst (λ z. ReadyExpr (roll-Expr z)) is
      (rw (fold-roll-Expr LowExpr (low_step names) (bare y), fold-roll-Expr Need need_step (bare y), fold-roll-Expr Fit (fit_step names) (bare y)) (record { tidy = each_tidy y })))

  pub tidy : (e : Expr) (scopes : Scopes) → (fitting names e).fits scopes ≡ true → Tidy (low names e) (need e)
  tidy e scopes h = (ready e).tidy scopes h
