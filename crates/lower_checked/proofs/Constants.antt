-- The value of a constant expression whose literals are words is a word.
use Rattle.std.proofs.Common.{◌≡◌, ℕ, ◌^◌, ◌<◌, Bool, true, false, not, ◌&&◌, [], Result, Ok, Err, refl, sym, subst, if◌then◌else◌, ◌==◌, arith}
use Rattle.std.proofs.lemmas.Bool.{ltb-true}
use Rattle.c_syntax.specs.declared.tree.BinaryOp.{BinaryOp}
use Rattle.c_syntax.specs.declared.tree.BinaryOp.TheVariants as c
use Rattle.c_syntax.specs.declared.tree.UnaryOp.{UnaryOp}
use Rattle.c_syntax.specs.declared.tree.UnaryOp.TheVariants as unary
use Rattle.c_syntax.specs.declared.tree.Expr.{Expr, roll-Expr, map-Expr, ind-Expr, fold-roll-Expr}
use Rattle.c_syntax.specs.declared.tree.Expr.TheOpen.{Expr-F}
use Rattle.c_meaning.specs.declared.run.Value.{Value}
use Rattle.c_meaning.specs.declared.run.EvalEnd.{EvalEnd}
use Rattle.c_meaning.specs.Operators.{truth, less, is_zero, at_type, binary_type, operand_type, binary_word, operate_unary, unary_word}
use Rattle.c_meaning.specs.Run.{Outcome, Gives, Ends, State, Run, and_then, ◌>>=◌, pure, lift}
use Rattle.c_meaning.specs.Meaning.{Meaning, no_calls, expression_step, expression, word_or_zero, constant, tested, logic}
use Rattle.c_syntax.specs.Literals.{literals_step, literals_are_words}
use Rattle.check_rules.specs.Walk.{is_free_step, is_free}
use Rattle.check_law.proofs.Unchanged.{and_true}
use Rattle.lower_rules.specs.Expressions.{operation}
use Rattle.lower_law.proofs.Operators.{operate_small, as_end, is_direct, direct_word}
use Rattle.mid_blocks.specs.Run.{operate as mid_operate}

-- ---- operators

abbrev OkWord : Result ℕ EvalEnd → Type 0
OkWord (Ok word) = word < 2 ^ 32
OkWord (Err end) = Unit {0}

end_word : (r : Result ℕ ℕ) → ((w : ℕ) → r ≡ Ok w → w < 2 ^ 32) → OkWord (as_end r)
end_word (Ok w) f = f w refl
end_word (Err trap) f = tt

truth_is_word : (b : Bool) → (truth b).word < 2 ^ 32
truth_is_word true = omega arith
truth_is_word false = omega arith

direct_is_word : (op : BinaryOp) (u : Bool) (x y : ℕ) → x < 2 ^ 32 → y < 2 ^ 32 → is_direct op ≡ true → OkWord (binary_word op u x y)
direct_is_word op u x y lx ly d = subst OkWord (sym (direct_word op u x y d)) (end_word (mid_operate (operation op u) x y) (λ w is. operate_small (operation op u) x y w lx ly is))

binary_is_word : (op : BinaryOp) (u : Bool) (x y : ℕ) → x < 2 ^ 32 → y < 2 ^ 32 → OkWord (binary_word op u x y)
binary_is_word c.Gt u x y lx ly = truth_is_word (less u y x)
binary_is_word c.Le u x y lx ly = truth_is_word (not (less u y x))
binary_is_word c.Ge u x y lx ly = truth_is_word (not (less u x y))
binary_is_word c.Mul u x y lx ly = direct_is_word c.Mul u x y lx ly refl
binary_is_word c.Div u x y lx ly = direct_is_word c.Div u x y lx ly refl
binary_is_word c.Rem u x y lx ly = direct_is_word c.Rem u x y lx ly refl
binary_is_word c.Add u x y lx ly = direct_is_word c.Add u x y lx ly refl
binary_is_word c.Sub u x y lx ly = direct_is_word c.Sub u x y lx ly refl
binary_is_word c.Shl u x y lx ly = direct_is_word c.Shl u x y lx ly refl
binary_is_word c.Shr u x y lx ly = direct_is_word c.Shr u x y lx ly refl
binary_is_word c.Lt u x y lx ly = direct_is_word c.Lt u x y lx ly refl
binary_is_word c.Eq u x y lx ly = direct_is_word c.Eq u x y lx ly refl
binary_is_word c.Ne u x y lx ly = direct_is_word c.Ne u x y lx ly refl
binary_is_word c.And u x y lx ly = direct_is_word c.And u x y lx ly refl
binary_is_word c.Xor u x y lx ly = direct_is_word c.Xor u x y lx ly refl
binary_is_word c.Or u x y lx ly = direct_is_word c.Or u x y lx ly refl

unary_is_word : (op : UnaryOp) (x : ℕ) → x < 2 ^ 32 → unary_word op x < 2 ^ 32
unary_is_word unary.Minus x lx = omega arith
unary_is_word unary.Plus x lx = lx
unary_is_word unary.Flip x lx = omega (arith, lx)
unary_is_word unary.Not x lx = truth_is_word (x == 0)

-- ---- runs

-- what it gives is a word
abbrev pub GivesWord : Outcome Value → Type 0
GivesWord (Gives v s) = v.word < 2 ^ 32
GivesWord (Ends end output) = Unit {0}

pub record Words (m : Run Value) : Type 0 where
  pub by : (s : State) → GivesWord (m s)

words_go : (o : Outcome Value) (go : Value → Run Value) → GivesWord o → ((v : Value) → v.word < 2 ^ 32 → Words (go v)) → GivesWord (and_then o go)
words_go (Gives v s) go g f = (f v g).by s
words_go (Ends end output) go g f = tt

words_then : {m : Run Value} {go : Value → Run Value} → Words m → ((v : Value) → v.word < 2 ^ 32 → Words (go v)) → Words (m >>= go)
words_then {m = m} {go = go} p f = record { by = λ s. words_go (m s) go (p.by s) f }

words_pure : (v : Value) → v.word < 2 ^ 32 → Words (pure v)
words_pure v g = record { by = λ s. g }

lifted_word : (r : Result ℕ EvalEnd) (u : Bool) → OkWord r → Words (lift (at_type u r))
lifted_word (Ok w) u g = record { by = λ s. g }
lifted_word (Err end) u g = record { by = λ s. tt }

tested_word : {m : Run Value} → Words m → Words (tested m)
tested_word p = words_then p (λ v g. words_pure (truth (not (is_zero v))) (truth_is_word (not (is_zero v))))

if_word : (b : Bool) (m n : Run Value) → Words m → Words n → Words (if b then m else n)
if_word true m n p q = p
if_word false m n p q = q

logic_word : (is_and : Bool) {m n : Run Value} → Words m → Words n → Words (logic is_and m n)
logic_word true {n = n} p q = words_then p (λ v g. if_word (is_zero v) (pure (truth false)) (tested n) (words_pure (truth false) (truth_is_word false)) (tested_word q))
logic_word false {n = n} p q = words_then p (λ v g. if_word (is_zero v) (tested n) (pure (truth true)) (tested_word q) (words_pure (truth true) (truth_is_word true)))

-- ---- expressions

pub record Constant (free literals : Bool) (m : Meaning) : Type 0 where
  pub by : free ≡ true → literals ≡ true → Words (m.value no_calls)

abbrev Part : Type 0
Part = (e : Expr) × Constant (is_free e) (literals_are_words e) (expression e)

abbrev bare : Expr-F Part → Expr-F Expr
bare y = map-Expr Part Expr (λ e. e.0) y

abbrev StepConstant : Expr-F Expr → Type 0
StepConstant y = Constant (is_free_step (map-Expr Expr Bool is_free y)) (literals_step (map-Expr Expr Bool literals_are_words y)) (expression_step (map-Expr Expr Meaning expression y))

each_constant : (y : Expr-F Part) → StepConstant (bare y)
each_constant (Expr-F.Literal word u at) = record { by = λ free lit. record { by = λ s. ltb-true word (2 ^ 32) lit } }
each_constant (Expr-F.Name name at) = record { by = λ free lit. absurd cc }
each_constant (Expr-F.Index name i at) = record { by = λ free lit. absurd cc }
each_constant (Expr-F.Call name args at) = record { by = λ free lit. absurd cc }
each_constant (Expr-F.Unary op e at) = record { by = λ free lit. words_then (e.1.by free lit) (λ v g. words_pure (operate_unary op v) (unary_is_word op v.word g)) }
each_constant (Expr-F.Binary op l r at) = record {
  by = λ free lit.
      let f = and_true (is_free l.0) (is_free r.0) free in
      let t = and_true (literals_are_words l.0) (literals_are_words r.0) lit in
      words_then (l.1.by f.0 t.0) (λ x g. words_then (r.1.by f.1 t.1) (λ y h. lifted_word (binary_word op (operand_type op x.is_unsigned y.is_unsigned) x.word y.word) (binary_type op x.is_unsigned y.is_unsigned) (binary_is_word op (operand_type op x.is_unsigned y.is_unsigned) x.word y.word g h)));
}
each_constant (Expr-F.Logic is_and l r at) = record {
  by = λ free lit.
      let f = and_true (is_free l.0) (is_free r.0) free in
      let t = and_true (literals_are_words l.0) (literals_are_words r.0) lit in
      logic_word is_and (l.1.by f.0 t.0) (r.1.by f.1 t.1);
}
each_constant (Expr-F.Choose t a b at) = record {
  by = λ free lit.
      let f = and_true (is_free t.0) (is_free a.0 && is_free b.0) free in
      let f' = and_true (is_free a.0) (is_free b.0) f.1 in
      let l = and_true (literals_are_words t.0) (literals_are_words a.0 && literals_are_words b.0) lit in
      let l' = and_true (literals_are_words a.0) (literals_are_words b.0) l.1 in
      words_then (t.1.by f.0 l.0) (λ v g. record { by = λ s. (words_then (if_word (is_zero v) ((expression b.0).value no_calls) ((expression a.0).value no_calls) (b.1.by f'.1 l'.1) (a.1.by f'.0 l'.0)) (λ v' h. record { by = λ s'. h })).by s });
}
each_constant (Expr-F.Assign op p v at) = record { by = λ free lit. absurd cc }
each_constant (Expr-F.Bump up before p at) = record { by = λ free lit. absurd cc }
each_constant (Expr-F.Comma l r at) = record {
  by = λ free lit.
      let f = and_true (is_free l.0) (is_free r.0) free in
      let t = and_true (literals_are_words l.0) (literals_are_words r.0) lit in
      words_then (l.1.by f.0 t.0) (λ x g. r.1.by f.1 t.1);
}
each_constant (Expr-F.Paren e at) = record { by = λ free lit. e.1.by free lit }

constant_runs : (e : Expr) → Constant (is_free e) (literals_are_words e) (expression e)
constant_runs = ind-Expr (λ e. Constant (is_free e) (literals_are_words e) (expression e)) (λ x y is.
    subst (λ z. Constant (is_free (roll-Expr z)) (literals_are_words (roll-Expr z)) (expression (roll-Expr z))) is
    (rw (fold-roll-Expr Bool is_free_step (bare y), fold-roll-Expr Bool literals_step (bare y), fold-roll-Expr Meaning expression_step (bare y)) (each_constant y)))

word_of : (o : Outcome Value) → GivesWord o → word_or_zero o < 2 ^ 32
word_of (Gives v s) g = g
word_of (Ends end output) g = omega arith

pub constant_is_word : (e : Expr) → is_free e ≡ true → literals_are_words e ≡ true → constant e < 2 ^ 32
constant_is_word e free lit = word_of ((expression e).value no_calls (record { globals = []; scopes = []; input = []; output = []; fuel = 0; active = 0 })) (((constant_runs e).by free lit).by (record { globals = []; scopes = []; input = []; output = []; fuel = 0; active = 0 }))
