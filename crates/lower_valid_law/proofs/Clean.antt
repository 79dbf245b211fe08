-- Lines whose variables are below a bound, whose globals and functions exist, and of which none returns.
use Rattle.std.proofs.Common.{◌≡◌, ℕ, zero, suc, ◌+◌, ◌<◌, ◌≤◌, max, Bool, true, false, List, [], ◌∷◌, ◌++◌, map, length, Option, Some, None, refl, ap, ◌∙◌, if◌then◌else◌, ◌==◌, arith, lt-ltb, eqb-true}
use Rattle.std.specs.Prelude.{nat_lt}
use Rattle.c_syntax.specs.declared.tree.BinaryOp.{BinaryOp}
use Rattle.c_syntax.specs.declared.tree.BinaryOp.TheVariants as c
use Rattle.c_syntax.specs.declared.tree.UnaryOp.{UnaryOp}
use Rattle.c_syntax.specs.declared.tree.UnaryOp.TheVariants as unary
use Rattle.c_syntax.specs.Sizes.{greatest}
use Rattle.mid_blocks.specs.declared.code.MidOp.{MidOp}
use Rattle.mid_blocks.specs.declared.code.MidStep.TheVariants.{Operate}
use Rattle.mid_blocks.specs.declared.code.MidEnd.TheVariants.{Jump, Branch, Call, Return}
use Rattle.mid_blocks.specs.Lines.{Line, Step, End, one_or_none}
use Rattle.mid_blocks.specs.Valid.{line_variables, step_global}
use Rattle.mid_blocks.specs.Tested.{is_below}
use Rattle.lower_rules.specs.Bindings.{GlobalShape, Bindings, Callee, InWord, OutWord, Defined, NoFunction, Symbol, Local, Global, Array, Nothing, find_shape, position, global_symbol, local_or_global, symbol, callee_takes}
use Rattle.lower_rules.specs.Expressions.{Target, Neither, Named, Indexed, direct, swapped, negated, binary_lines, unary_lines, read_step, write_step, guard_step, target_symbol, moved_down, from_on, result_in, callee_lines, bump_result}

-- ---- lines

-- the variables that a line names are below this
abbrev pub line_top : Line → ℕ
line_top line = greatest (map suc (line_variables line))

abbrev pub top : List Line → ℕ
top [] = 0
top (line ∷ lines) = max (line_top line) (top lines)

module _ (globals : ℕ) (fits : ℕ → ℕ → Bool) where
  -- 2 for a step whose global isn't there and for a call that doesn't fit, 1 for a return
  abbrev pub line_odd : Line → ℕ
  line_odd (Step step) = if is_below globals (step_global step) then 0 else 2
  line_odd (End (Jump to)) = 0
  line_odd (End (Branch test when to)) = 0
  line_odd (End (Call function args result)) = if fits function (length args) then 0 else 2
  line_odd (End (Return from)) = 1

  abbrev pub odds : List Line → ℕ
  odds [] = 0
  odds (line ∷ lines) = line_odd line + odds lines

  pub record Clean (lines : List Line) (most : ℕ) : Type 0 where
    pub top_in : top lines ≤ most
    pub no_odd : odds lines ≡ 0

  pub none_clean : (m : ℕ) → Clean [] m
  none_clean m = record { top_in = omega arith; no_odd = refl }

  pub line_clean : (x : Line) (xs : List Line) (m : ℕ) → line_top x ≤ m → line_odd x ≡ 0 → Clean xs m → Clean (x ∷ xs) m
  line_clean x xs m a b c = record { top_in = omega (arith, a, c.top_in); no_odd = omega (arith, b, c.no_odd) }

  pub join_clean : (xs ys : List Line) (m : ℕ) → Clean xs m → Clean ys m → Clean (xs ++ ys) m
  join_clean [] ys m a b = b
  join_clean (x ∷ xs) ys m a b =
      let first : line_top x ≤ m = omega (arith, a.top_in) in
      let odd : line_odd x ≡ 0 = omega (arith, a.no_odd) in
      line_clean x (xs ++ ys) m first odd (join_clean xs ys m (record { top_in = omega (arith, a.top_in); no_odd = omega (arith, a.no_odd) }) b)

  pub more_clean : (xs : List Line) (m m' : ℕ) → m ≤ m' → Clean xs m → Clean xs m'
  more_clean xs m m' le a = record { top_in = omega (arith, le, a.top_in); no_odd = a.no_odd }

  -- ---- pieces

  direct_clean : (op : MidOp) (t r m : ℕ) → t < m → r < m → Clean (direct op t r) m
  direct_clean op t r m a b = line_clean (Step (Operate op t t r)) [] m (omega (arith, a, b)) refl (none_clean m)

  swapped_clean : (op : MidOp) (t r m : ℕ) → t < m → r < m → Clean (swapped op t r) m
  swapped_clean op t r m a b = line_clean (Step (Operate op t r t)) [] m (omega (arith, a, b)) refl (none_clean m)

  negated_clean : (t r m : ℕ) → t < m → r < m → Clean (negated t r) m
  negated_clean t r m a b = record { top_in = omega (arith, a, b); no_odd = refl }

  pub binary_clean : (op : BinaryOp) (u : Bool) (t r m : ℕ) → t < m → r < m → Clean (binary_lines op u t r) m
  binary_clean c.Mul u t r m a b = direct_clean _ t r m a b
  binary_clean c.Div u t r m a b = direct_clean _ t r m a b
  binary_clean c.Rem u t r m a b = direct_clean _ t r m a b
  binary_clean c.Add u t r m a b = direct_clean _ t r m a b
  binary_clean c.Sub u t r m a b = direct_clean _ t r m a b
  binary_clean c.Shl u t r m a b = direct_clean _ t r m a b
  binary_clean c.Shr u t r m a b = direct_clean _ t r m a b
  binary_clean c.Lt u t r m a b = direct_clean _ t r m a b
  binary_clean c.Gt u t r m a b = swapped_clean _ t r m a b
  binary_clean c.Le u t r m a b = join_clean (swapped _ t r) (negated t r) m (swapped_clean _ t r m a b) (negated_clean t r m a b)
  binary_clean c.Ge u t r m a b = join_clean (direct _ t r) (negated t r) m (direct_clean _ t r m a b) (negated_clean t r m a b)
  binary_clean c.Eq u t r m a b = direct_clean _ t r m a b
  binary_clean c.Ne u t r m a b = direct_clean _ t r m a b
  binary_clean c.And u t r m a b = direct_clean _ t r m a b
  binary_clean c.Xor u t r m a b = direct_clean _ t r m a b
  binary_clean c.Or u t r m a b = direct_clean _ t r m a b

  pub unary_clean : (op : UnaryOp) (t r m : ℕ) → t < m → r < m → Clean (unary_lines op t r) m
  unary_clean unary.Minus t r m a b = record { top_in = omega (arith, a, b); no_odd = refl }
  unary_clean unary.Plus t r m a b = none_clean m
  unary_clean unary.Flip t r m a b = record { top_in = omega (arith, a, b); no_odd = refl }
  unary_clean unary.Not t r m a b = negated_clean t r m a b

  -- ---- what names stand for

  -- what a symbol stands for is there
  abbrev pub Exists : ℕ → Symbol → Type 0
  Exists free (Local v) = v < free
  Exists free (Global g) = g < globals
  Exists free (Array g) = g < globals
  Exists free Nothing = Unit {0}

  global_odd : (g : ℕ) → g < globals → (let n : ℕ = if nat_lt g globals then 0 else 2 in n) ≡ 0
  global_odd g h = ap (λ (b : Bool). let n : ℕ = if b then 0 else 2 in n) (lt-ltb g globals h)

  pub read_clean : (free : ℕ) (y : Symbol) (i t m : ℕ) → Exists free y → free ≤ m → i < m → t < m → Clean (Step (read_step y i t) ∷ []) m
  read_clean free (Local v) i t m e f a b = record { top_in = omega (arith, e, f, b); no_odd = refl }
  read_clean free (Global g) i t m e f a b = record { top_in = omega (arith, b); no_odd = omega (arith, global_odd g e) }
  read_clean free (Array g) i t m e f a b = record { top_in = omega (arith, a, b); no_odd = omega (arith, global_odd g e) }
  read_clean free Nothing i t m e f a b = record { top_in = omega (arith, b); no_odd = refl }

  pub write_clean : (free : ℕ) (y : Symbol) (i t m : ℕ) → Exists free y → free ≤ m → i < m → t < m → Clean (Step (write_step y i t) ∷ []) m
  write_clean free (Local v) i t m e f a b = record { top_in = omega (arith, e, f, b); no_odd = refl }
  write_clean free (Global g) i t m e f a b = record { top_in = omega (arith, b); no_odd = omega (arith, global_odd g e) }
  write_clean free (Array g) i t m e f a b = record { top_in = omega (arith, a, b); no_odd = omega (arith, global_odd g e) }
  write_clean free Nothing i t m e f a b = record { top_in = omega (arith, b); no_odd = refl }

  pub guard_clean : (free : ℕ) (y : Symbol) (t m : ℕ) → Exists free y → t < m → Clean (Step (guard_step y t) ∷ []) m
  guard_clean free (Local v) t m e a = record { top_in = omega (arith, a); no_odd = refl }
  guard_clean free (Global g) t m e a = record { top_in = omega (arith, a); no_odd = refl }
  guard_clean free (Array g) t m e a = record { top_in = omega (arith, a); no_odd = omega (arith, global_odd g e) }
  guard_clean free Nothing t m e a = record { top_in = omega (arith, a); no_odd = refl }

  pub moved_clean : (y : Target) (t u m : ℕ) → t < m → u < m → Clean (moved_down y t u) m
  moved_clean Neither t u m a b = none_clean m
  moved_clean (Named n) t u m a b = none_clean m
  moved_clean (Indexed n) t u m a b = record { top_in = omega (arith, a, b); no_odd = refl }

  pub result_clean : (before : Bool) (y : Target) (t u m : ℕ) → t < m → suc u < m → Clean (bump_result before y t u) m
  result_clean true y t u m a b = record { top_in = omega (arith, a, b); no_odd = refl }
  result_clean false y t u m a b = moved_clean y t u m a (omega (arith, b))

  -- ---- calls

  pub count-from_on : (n t : ℕ) → length (from_on n t) ≡ n
  count-from_on zero t = refl
  count-from_on (suc n) t = omega (arith, count-from_on n (t + 1))

  args_top : (n t m : ℕ) (o : Option ℕ) → t + n ≤ m → greatest (map suc (one_or_none o)) ≤ m → greatest (map suc (from_on n t ++ one_or_none o)) ≤ m
  args_top zero t m o a b = b
  args_top (suc n) t m o a b = omega (arith, a, args_top n (t + 1) m o (omega (arith, a)) b)

  result_top : (void : Bool) (t m : ℕ) → t < m → greatest (map suc (one_or_none (result_in void t))) ≤ m
  result_top true t m a = omega arith
  result_top false t m a = omega (arith, a)

  call_odd : (number n t : ℕ) → fits number n ≡ true → (let k : ℕ = if fits number (length (from_on n t)) then 0 else 2 in k) ≡ 0
  call_odd number n t h = ap (λ (b : Bool). let k : ℕ = if b then 0 else 2 in k) (ap (fits number) (count-from_on n t) ∙ h)

  -- a call that takes its arguments
  pub callee_clean : (y : Callee) (n t m : ℕ) → ((number arity : ℕ) (void u : Bool) → y ≡ Defined number arity void u → fits number arity ≡ true) → callee_takes y n ≡ true → t < m → t + n ≤ m → Clean (callee_lines y n t) m
  callee_clean InWord n t m known takes a b = record { top_in = omega (arith, a); no_odd = refl }
  callee_clean OutWord n t m known takes a b = record { top_in = omega (arith, a); no_odd = refl }
  callee_clean (Defined number arity void u) n t m known takes a b =
      let same : n ≡ arity = eqb-true n arity takes in
      let fit : fits number n ≡ true = ap (fits number) same ∙ known number arity void u refl in
      record { top_in = omega (arith, args_top n t m (result_in void t) b (result_top void t m a)); no_odd = omega (arith, call_odd number n t fit) }
  callee_clean NoFunction n t m known takes a b = none_clean m

  -- ---- bindings

  pub position_below : (name : ℕ) (gs : List GlobalShape) (g : GlobalShape) → find_shape name gs ≡ Some g → position name gs < length gs
  position_below name [] g h = absurd (cc)
  position_below name (x ∷ gs) g h = by (x.name == name) (position_below name gs g) h
    where
      by : (b : Bool) → (find_shape name gs ≡ Some g → position name gs < length gs) → (let o : Option GlobalShape = if b then Some x else find_shape name gs in o) ≡ Some g → (let n : ℕ = if b then 0 else suc (position name gs) in n) < length (x ∷ gs)
      by true ih e = omega arith
      by false ih e = omega (arith, ih e)

  -- each name stands for what is there
  pub symbol_there : (free : ℕ) (names : Bindings) → ((name v : ℕ) → names.variable name ≡ Some v → v < free) → length names.globals ≤ globals → (name : ℕ) → Exists free (symbol names name)
  symbol_there free names below few name = by (names.variable name) refl (find_shape name names.globals) refl
    where
      p : ℕ
      p = position name names.globals

      array : (g : GlobalShape) (b : Bool) → p < globals → Exists free (let y : Symbol = if b then Array p else Global p in y)
      array g true h = h
      array g false h = h

      by : (o : Option ℕ) → names.variable name ≡ o → (s : Option GlobalShape) → find_shape name names.globals ≡ s → Exists free (local_or_global o (global_symbol s p))
      by (Some v) is s found = below name v is
      by None is None found = tt
      by None is (Some g) found = array g g.is_array (omega (arith, few, position_below name names.globals g found))

  pub target_there : (free : ℕ) (names : Bindings) → ((name : ℕ) → Exists free (symbol names name)) → (y : Target) → Exists free (target_symbol names y)
  target_there free names each Neither = tt
  target_there free names each (Named n) = each n
  target_there free names each (Indexed n) = each n
