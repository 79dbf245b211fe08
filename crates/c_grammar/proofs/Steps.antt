-- The steps of the code's loops over expressions.
use Rattle.std.proofs.Common.{◌≡◌, ◌≤◌, ◌<◌, ◌+◌, ◌-◌, ◌++◌, ℕ, zero, suc, Bool, true, false, List, [], ◌∷◌, Option, Some, None, refl, sym, ap, ◌∙◌, arith, subst, length, map, max}
use Rattle.std.proofs.lemmas.Bool.{le-leb, lt-leb}
use Rattle.std.proofs.lemmas.List.{append_assoc, length-append}
use Rattle.c_lexer.specs.declared.token.Token.{Token}
use Rattle.c_lexer.specs.declared.token.TokenKind.{TokenKind}
use Rattle.c_lexer.specs.declared.token.TokenKind.TheVariants as kinds
use Rattle.c_lexer.specs.declared.token.Punct.TheVariants as signs
use Rattle.c_syntax.specs.declared.tree.Expr.{Expr, Bump, Comma}
use Rattle.c_grammar.specs.declared.operators.Infix.{Infix}
use Rattle.c_grammar.specs.declared.fault.Fault.{Fault}
use Rattle.c_grammar.specs.declared.fault.Fault.TheVariants as faults
use Rattle.c_grammar.specs.Operators.{infix_at, postfix_at, joined}
use Rattle.c_syntax.specs.Sizes.{expression_depth as depth, greatest}
use Rattle.c_grammar.specs.Expressions.{Level, binary, assign}
use Rattle.c_grammar.specs.Gives.{Fails}
use Rattle.c_grammar.specs.ReadExpressions.{Read, Reader, ◌>>=◌, read, layer, level, chain, turn_at, of_level, bumps, bump_at, commas, comma_at, arguments, after_argument, next_argument, is_close_paren, is_comma_sign}
use Rattle.c_grammar.proofs.Options.{length-cons, clash}
use Rattle.c_grammar.proofs.Complete.{begins, Begins}
use Rattle.c_grammar.proofs.Sound.{sound, Found}

pub read_step : (n : ℕ) (l : Level) (ts : List Token) → 0 < n → read n l ts ≡ layer (read (n - 1)) (n - 1) l ts
read_step zero l ts h = absurd (omega (arith, h))
read_step (suc n) l ts h = let minus : suc n - 1 ≡ n = omega arith in rw minus refl

pub level_step : (self : Reader) (n k : ℕ) (ts : List Token) → 0 < k → level self n k ts ≡ (level self n (k - 1) ts >>= λ x. chain self n (k - 1) (suc n) x.0 x.1)
level_step self n zero ts h = absurd (omega (arith, h))
level_step self n (suc k) ts h = let minus : suc k - 1 ≡ k = omega arith in rw minus refl

op_suc : (k : ℕ) (t : Token) (o : Option Infix) → of_level (k + 1) (infix_at t.kind) ≡ o → of_level (suc k) (infix_at t.kind) ≡ o
op_suc k t o h = let e : k + 1 ≡ suc k = omega arith in subst (λ j. of_level j (infix_at t.kind) ≡ o) e h

pub chain_none : (self : Reader) (n k f : ℕ) (left : Expr) (all : List Token) (t : Token) (ts : List Token) → all ≡ t ∷ ts → 1 ≤ f → of_level (k + 1) (infix_at t.kind) ≡ None → chain self n k f left all ≡ Some (left, all)
chain_none self n k zero left all t ts is h o = absurd (omega (arith, h))
chain_none self n k (suc f) left all t ts is h o = ap (chain self n k (suc f) left) is ∙ ap (turn_at self n k (chain self n k f) left t ts) (op_suc k t None o) ∙ ap (λ us. Some (left, us)) (sym is)

pub chain_deep : (self : Reader) (n k f : ℕ) (left : Expr) (all : List Token) (t : Token) (ts : List Token) (op : Infix) → all ≡ t ∷ ts → 1 ≤ f → of_level (k + 1) (infix_at t.kind) ≡ Some op → n < depth left → chain self n k f left all ≡ None
chain_deep self n k zero left all t ts op is h o d = absurd (omega (arith, h))
chain_deep self n k (suc f) left all t ts op is h o d = ap (chain self n k (suc f) left) is ∙ ap (turn_at self n k (chain self n k f) left t ts) (op_suc k t (Some op) o) ∙ rw (lt-leb (depth left) n d) refl

pub chain_fails : (self : Reader) (n k f : ℕ) (left : Expr) (all : List Token) (t : Token) (ts : List Token) (op : Infix) → all ≡ t ∷ ts → 1 ≤ f → of_level (k + 1) (infix_at t.kind) ≡ Some op → depth left ≤ n → self (binary k) ts ≡ None → chain self n k f left all ≡ None
chain_fails self n k zero left all t ts op is h o d r = absurd (omega (arith, h))
chain_fails self n k (suc f) left all t ts op is h o d r = ap (chain self n k (suc f) left) is ∙ ap (turn_at self n k (chain self n k f) left t ts) (op_suc k t (Some op) o) ∙ rw (le-leb (depth left) n d, r) refl

pub chain_turn : (self : Reader) (n k f : ℕ) (left : Expr) (all : List Token) (t : Token) (ts : List Token) (op : Infix) (right : Expr) (rest : List Token) → all ≡ t ∷ ts → 1 ≤ f → of_level (k + 1) (infix_at t.kind) ≡ Some op → depth left ≤ n → self (binary k) ts ≡ Some (right, rest) → (g : ℕ) × (f ≡ suc g) × (chain self n k f left all ≡ chain self n k g (joined op left right t.at) rest)
chain_turn self n k zero left all t ts op right rest is h o d r = absurd (omega (arith, h))
chain_turn self n k (suc f) left all t ts op right rest is h o d r = (f, refl, ap (chain self n k (suc f) left) is ∙ ap (turn_at self n k (chain self n k f) left t ts) (op_suc k t (Some op) o) ∙ rw (le-leb (depth left) n d, r) refl)

pub bumps_none : (n f : ℕ) (e : Expr) (all : List Token) (t : Token) (ts : List Token) → all ≡ t ∷ ts → 1 ≤ f → postfix_at t.kind ≡ None → bumps n f e all ≡ Some (e, all)
bumps_none n zero e all t ts is h o = absurd (omega (arith, h))
bumps_none n (suc f) e all t ts is h o = ap (bumps n (suc f) e) is ∙ ap (bump_at n (bumps n f) e t ts) o ∙ ap (λ us. Some (e, us)) (sym is)

pub bumps_deep : (n f : ℕ) (e : Expr) (all : List Token) (t : Token) (ts : List Token) (up : Bool) → all ≡ t ∷ ts → 1 ≤ f → postfix_at t.kind ≡ Some up → n < depth e → bumps n f e all ≡ None
bumps_deep n zero e all t ts up is h o d = absurd (omega (arith, h))
bumps_deep n (suc f) e all t ts up is h o d = ap (bumps n (suc f) e) is ∙ ap (bump_at n (bumps n f) e t ts) o ∙ rw (lt-leb (depth e) n d) refl

pub bumps_turn : (n f : ℕ) (e : Expr) (all : List Token) (t : Token) (ts : List Token) (up : Bool) → all ≡ t ∷ ts → 1 ≤ f → postfix_at t.kind ≡ Some up → depth e ≤ n → (g : ℕ) × (f ≡ suc g) × (bumps n f e all ≡ bumps n g (Bump up false e t.at) ts)
bumps_turn n zero e all t ts up is h o d = absurd (omega (arith, h))
bumps_turn n (suc f) e all t ts up is h o d = (f, refl, ap (bumps n (suc f) e) is ∙ ap (bump_at n (bumps n f) e t ts) o ∙ rw (le-leb (depth e) n d) refl)

comma_ends : (self : Reader) (n : ℕ) (go : Expr → List Token → Read Expr) (e : Expr) (kind : TokenKind) (t : Token) (ts : List Token) → is_comma_sign kind ≡ false → comma_at self n go e kind t ts ≡ Some (e, t ∷ ts)
comma_ends self n go e (kinds.Sign signs.Comma) t ts h = absurd (clash refl h)
comma_ends self n go e _ t ts h = refl

comma_goes : (self : Reader) (n : ℕ) (go : Expr → List Token → Read Expr) (e : Expr) (kind : TokenKind) (t : Token) (ts : List Token) → is_comma_sign kind ≡ true → comma_at self n go e kind t ts ≡ comma_at self n go e (kinds.Sign signs.Comma) t ts
comma_goes self n go e (kinds.Sign signs.Comma) t ts h = refl
comma_goes self n go e _ t ts h = absurd (clash h refl)

pub commas_none : (self : Reader) (n f : ℕ) (left : Expr) (all : List Token) (t : Token) (ts : List Token) → all ≡ t ∷ ts → 1 ≤ f → is_comma_sign t.kind ≡ false → commas self n f left all ≡ Some (left, all)
commas_none self n zero left all t ts is h o = absurd (omega (arith, h))
commas_none self n (suc f) left all t ts is h o = ap (commas self n (suc f) left) is ∙ comma_ends self n (commas self n f) left t.kind t ts o ∙ ap (λ us. Some (left, us)) (sym is)

pub commas_deep : (self : Reader) (n f : ℕ) (left : Expr) (all : List Token) (t : Token) (ts : List Token) → all ≡ t ∷ ts → 1 ≤ f → is_comma_sign t.kind ≡ true → n < depth left → commas self n f left all ≡ None
commas_deep self n zero left all t ts is h o d = absurd (omega (arith, h))
commas_deep self n (suc f) left all t ts is h o d = ap (commas self n (suc f) left) is ∙ comma_goes self n (commas self n f) left t.kind t ts o ∙ rw (lt-leb (depth left) n d) refl

pub commas_fails : (self : Reader) (n f : ℕ) (left : Expr) (all : List Token) (t : Token) (ts : List Token) → all ≡ t ∷ ts → 1 ≤ f → is_comma_sign t.kind ≡ true → depth left ≤ n → self assign ts ≡ None → commas self n f left all ≡ None
commas_fails self n zero left all t ts is h o d r = absurd (omega (arith, h))
commas_fails self n (suc f) left all t ts is h o d r = ap (commas self n (suc f) left) is ∙ comma_goes self n (commas self n f) left t.kind t ts o ∙ rw (le-leb (depth left) n d, r) refl

pub commas_turn : (self : Reader) (n f : ℕ) (left : Expr) (all : List Token) (t : Token) (ts : List Token) (right : Expr) (rest : List Token) → all ≡ t ∷ ts → 1 ≤ f → is_comma_sign t.kind ≡ true → depth left ≤ n → self assign ts ≡ Some (right, rest) → (g : ℕ) × (f ≡ suc g) × (commas self n f left all ≡ commas self n g (Comma left right t.at) rest)
commas_turn self n zero left all t ts right rest is h o d r = absurd (omega (arith, h))
commas_turn self n (suc f) left all t ts right rest is h o d r = (f, refl, ap (commas self n (suc f) left) is ∙ comma_goes self n (commas self n f) left t.kind t ts o ∙ rw (le-leb (depth left) n d, r) refl)

pub fails_via : {A B : Type 0} (e : Fault) (a : Option A) (b : Option B) → Fails e a → (a ≡ None → b ≡ None) → Fails e b
fails_via (faults.NoProgram left) a b h g = g h
fails_via faults.OutOfMemory a b h g = tt

abbrev pub with_front : List Expr → Read (List Expr) → Read (List Expr)
with_front front read = read >>= λ x. Some (front ++ x.0, x.1)

pub shorter : (n : ℕ) (l : Level) (ts : List Token) (e : Expr) (r : List Token) → read n l ts ≡ Some (e, r) → length r < length ts
shorter n l ts e r h = let f : Found l n ts (e, r) = sound n l ts (e, r) h in let b : Begins f.front = begins f.reads in omega (arith, ap length f.split, length-append f.front r, ap length b.2, length-cons b.0 b.1)

front_cons : (front : List Expr) (e : Expr) (m : Read (List Expr)) → with_front front (m >>= λ x. Some (e ∷ x.0, x.1)) ≡ with_front (front ++ e ∷ []) m
front_cons front e None = refl
front_cons front e (Some x) = ap (λ es. Some (es, x.1)) (sym (append_assoc front (e ∷ []) x.0))

next_goes : (go : List Token → Read (List Expr)) (e : Expr) (kind : TokenKind) (ts : List Token) → is_comma_sign kind ≡ true → next_argument go e kind ts ≡ next_argument go e (kinds.Sign signs.Comma) ts
next_goes go e (kinds.Sign signs.Comma) ts h = refl
next_goes go e _ ts h = absurd (clash h refl)

next_ends : (go : List Token → Read (List Expr)) (e : Expr) (kind : TokenKind) (ts : List Token) → is_close_paren kind ≡ true → next_argument go e kind ts ≡ Some (e ∷ [], ts)
next_ends go e (kinds.Sign signs.CloseParen) ts h = refl
next_ends go e _ ts h = absurd (clash h refl)

next_none : (go : List Token → Read (List Expr)) (e : Expr) (kind : TokenKind) (ts : List Token) → is_close_paren kind ≡ false → is_comma_sign kind ≡ false → next_argument go e kind ts ≡ None
next_none go e (kinds.Sign signs.Comma) ts h g = absurd (clash refl g)
next_none go e (kinds.Sign signs.CloseParen) ts h g = absurd (clash refl h)
next_none go e _ ts h g = refl

-- the arguments from here on, once the first of them and the token behind it are known
arguments_are : (self : Reader) (f : ℕ) (front : List Expr) (ts behind : List Token) (e : Expr) (t : Token) (next : List Token) → self assign ts ≡ Some (e, behind) → behind ≡ t ∷ next → with_front front (arguments self (suc f) ts) ≡ with_front front (next_argument (arguments self f) e t.kind next)
arguments_are self f front ts behind e t next h g = ap (with_front front) (ap (λ m. m >>= λ x. after_argument (arguments self f) x.0 x.1) h ∙ ap (after_argument (arguments self f) e) g)

pub arguments_on : (n f : ℕ) (front : List Expr) (ts behind : List Token) (e : Expr) (t : Token) (next : List Token) → length ts ≤ f → read n assign ts ≡ Some (e, behind) → behind ≡ t ∷ next → is_comma_sign t.kind ≡ true → (g : ℕ) × (length next ≤ g) × (with_front front (arguments (read n) f ts) ≡ with_front (front ++ e ∷ []) (arguments (read n) g next))
arguments_on n zero front ts behind e t next l h g k = absurd (omega (arith, l, shorter n assign ts e behind h))
arguments_on n (suc f) front ts behind e t next l h g k = (f, omega (arith, l, shorter n assign ts e behind h, ap length g, length-cons t next), arguments_are (read n) f front ts behind e t next h g ∙ ap (with_front front) (next_goes (arguments (read n) f) e t.kind next k) ∙ front_cons front e (arguments (read n) f next))

pub arguments_end : (n f : ℕ) (front : List Expr) (ts behind : List Token) (e : Expr) (t : Token) (next : List Token) → length ts ≤ f → read n assign ts ≡ Some (e, behind) → behind ≡ t ∷ next → is_close_paren t.kind ≡ true → with_front front (arguments (read n) f ts) ≡ Some (front ++ e ∷ [], next)
arguments_end n zero front ts behind e t next l h g k = absurd (omega (arith, l, shorter n assign ts e behind h))
arguments_end n (suc f) front ts behind e t next l h g k = arguments_are (read n) f front ts behind e t next h g ∙ ap (with_front front) (next_ends (arguments (read n) f) e t.kind next k)

pub arguments_none : (n f : ℕ) (front : List Expr) (ts behind : List Token) (e : Expr) (t : Token) (next : List Token) → length ts ≤ f → read n assign ts ≡ Some (e, behind) → behind ≡ t ∷ next → is_close_paren t.kind ≡ false → is_comma_sign t.kind ≡ false → with_front front (arguments (read n) f ts) ≡ None
arguments_none n zero front ts behind e t next l h g a b = absurd (omega (arith, l, shorter n assign ts e behind h))
arguments_none n (suc f) front ts behind e t next l h g a b = arguments_are (read n) f front ts behind e t next h g ∙ ap (with_front front) (next_none (arguments (read n) f) e t.kind next a b)

pub greatest_more : (es : List Expr) (e : Expr) → greatest (map depth (es ++ e ∷ [])) ≡ max (greatest (map depth es)) (depth e)
greatest_more [] e = omega arith
greatest_more (x ∷ es) e = omega (arith, greatest_more es e)
