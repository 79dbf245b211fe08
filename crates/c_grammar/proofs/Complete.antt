-- What is in the grammar of expressions is read.
use Rattle.std.proofs.Common.{◌≡◌, ◌≤◌, ◌<◌, ◌+◌, ◌++◌, ℕ, zero, suc, Bool, true, false, List, [], ◌∷◌, map, max, Option, Some, None, refl, sym, ap, ◌∙◌, arith, length}
use Rattle.std.proofs.lemmas.List.{append_assoc, length-append}
use Rattle.std.proofs.lemmas.Bool.{le-leb}
use Rattle.c_lexer.specs.declared.token.Token.{Token}
use Rattle.c_lexer.specs.declared.token.TokenKind.{TokenKind}
use Rattle.c_lexer.specs.declared.token.TokenKind.TheVariants as kinds
use Rattle.c_lexer.specs.declared.token.Punct.{Punct}
use Rattle.c_lexer.specs.declared.token.Punct.TheVariants as signs
use Rattle.c_syntax.specs.declared.tree.BinaryOp.{BinaryOp}
use Rattle.c_syntax.specs.declared.tree.Expr.{Expr, Literal, Name, Index, Call, Choose, Assign, Bump, Comma, Paren}
use Rattle.c_grammar.specs.declared.operators.Infix.{Infix}
use Rattle.c_grammar.specs.declared.operators.Prefix.{Prefix}
use Rattle.c_grammar.specs.Places.{Place, mark, sign}
use Rattle.c_grammar.specs.Operators.{infix_of, assignment_of, prefix_of, postfix_of, prefix_at, joined, prefixed}
use Rattle.c_syntax.specs.Sizes.{expression_depth as depth, greatest}
use Rattle.c_grammar.specs.Expressions.{Level, comma, assign, cond, binary, postfix, primary, Reads, ReadsAll, comma_assign, comma_both, assign_cond, assign_to, cond_binary, choose, tighter, both, unary_postfix, unary, postfix_primary, bump, literal, name, index, call_none, call, paren, one, more}
use Rattle.c_grammar.specs.ReadExpressions.{Read, Reader, is_unary, kind_of, arguments, after_argument, call_at, named_at, named, primary_from, bump_at, bumps, postfix_from, unary_at, unary_from, turn_at, chain, level, choose_at, after_test, cond_from, assign_at, after_place, assign_from, comma_at, commas, comma_from, read}
use Rattle.c_grammar.proofs.Options.{bind_is, length-cons}
use Rattle.c_grammar.proofs.Parts.{depth_positive, depth_index, depth_call, depth_paren, depth_bump, depth_prefixed, depth_joined, depth_comma, depth_choose, depth_assign, unary_prefixed, unary_bump, unary_literal, unary_name, unary_index, unary_call, unary_paren}
use Rattle.c_grammar.proofs.Tables.{looseness, head_looseness, infix_loose, infix_stops, of_level_some, assignment_loose, assignment_stops, postfix_loose, postfix_stops, prefix_starts}
use Rattle.c_grammar.specs.ReadStatements.{starts}

-- how loose a token must be that stands behind an expression of this level
abbrev pub number : Level → ℕ
number comma = 14
number assign = 13
number cond = 12
number (binary k) = suc k
number postfix = 1
number primary = 0

-- It is read, before any rest that does not go on at this level.
abbrev pub Whole : Level → List Token → Expr → Type 0
Whole l ts e = (n : ℕ) (rest : List Token) → depth e ≤ n → number l < head_looseness rest → read n l (ts ++ rest) ≡ Some (e, rest)

-- Of the levels with a loop: the loop comes to the expression, with turns enough for what follows.
abbrev pub Claim : Level → List Token → Expr → Type 0
Claim comma ts e = (n : ℕ) (rest : List Token) → depth e ≤ suc n → 13 < head_looseness rest → (f : ℕ) × (suc (suc n) ≤ f + depth e) × (comma_from (read n) n (ts ++ rest) ≡ commas (read n) n f e rest)
Claim assign ts e = Whole assign ts e
Claim cond ts e = Whole cond ts e
Claim (binary zero) ts e = Whole (binary zero) ts e
Claim (binary (suc k)) ts e = (n : ℕ) (rest : List Token) → depth e ≤ suc n → suc k < head_looseness rest → (f : ℕ) × (suc (suc n) ≤ f + depth e) × (level (read n) n (suc k) (ts ++ rest) ≡ chain (read n) n k f e rest)
Claim postfix ts e = (n : ℕ) (rest : List Token) → depth e ≤ suc n → 0 < head_looseness rest → (f : ℕ) × (suc (suc n) ≤ f + depth e) × (postfix_from (read n) n (ts ++ rest) ≡ bumps n f e rest)
Claim primary ts e = Whole primary ts e

chain_stops : (self : Reader) (n k f : ℕ) (e : Expr) (rest : List Token) → 1 ≤ f → suc (suc k) < head_looseness rest → chain self n k f e rest ≡ Some (e, rest)
chain_stops self n k zero e rest h g = absurd (omega (arith, h))
chain_stops self n k (suc f) e [] h g = refl
chain_stops self n k (suc f) e (t ∷ ts) h g = ap (turn_at self n k (chain self n k f) e t ts) (infix_stops (suc k) t.kind g)

whole_level : (k : ℕ) (ts : List Token) (e : Expr) → Claim (binary (suc k)) ts e → Whole (binary (suc k)) ts e
whole_level k ts e c zero rest h g = absurd (omega (arith, h, depth_positive e))
whole_level k ts e c (suc n) rest h g = let found : (f : ℕ) × (suc (suc n) ≤ f + depth e) × (level (read n) n (suc k) (ts ++ rest) ≡ chain (read n) n k f e rest) = c n rest h (omega (arith, g)) in found.2 ∙ chain_stops (read n) n k found.0 e rest (omega (arith, found.1, h)) g

bumps_stop : (n f : ℕ) (e : Expr) (rest : List Token) → 1 ≤ f → 1 < head_looseness rest → bumps n f e rest ≡ Some (e, rest)
bumps_stop n zero e rest h g = absurd (omega (arith, h))
bumps_stop n (suc f) e [] h g = refl
bumps_stop n (suc f) e (t ∷ ts) h g = ap (bump_at n (bumps n f) e t ts) (postfix_stops t.kind g)

whole_postfix : (ts : List Token) (e : Expr) → Claim postfix ts e → Whole postfix ts e
whole_postfix ts e c zero rest h g = absurd (omega (arith, h, depth_positive e))
whole_postfix ts e c (suc n) rest h g = let found : (f : ℕ) × (suc (suc n) ≤ f + depth e) × (postfix_from (read n) n (ts ++ rest) ≡ bumps n f e rest) = c n rest h (omega (arith, g)) in found.2 ∙ bumps_stop n found.0 e rest (omega (arith, found.1, h)) g

comma_stops : (self : Reader) (n : ℕ) (go : Expr → List Token → Read Expr) (e : Expr) (kind : TokenKind) (t : Token) (ts : List Token) → 14 < looseness kind → comma_at self n go e kind t ts ≡ Some (e, t ∷ ts)
comma_stops self n go e (kinds.Sign signs.Comma) t ts h = absurd (omega (arith, h))
comma_stops self n go e _ t ts h = refl

commas_stop : (self : Reader) (n f : ℕ) (e : Expr) (rest : List Token) → 1 ≤ f → 14 < head_looseness rest → commas self n f e rest ≡ Some (e, rest)
commas_stop self n zero e rest h g = absurd (omega (arith, h))
commas_stop self n (suc f) e [] h g = refl
commas_stop self n (suc f) e (t ∷ ts) h g = comma_stops self n (commas self n f) e t.kind t ts g

whole_comma : (ts : List Token) (e : Expr) → Claim comma ts e → Whole comma ts e
whole_comma ts e c zero rest h g = absurd (omega (arith, h, depth_positive e))
whole_comma ts e c (suc n) rest h g = let found : (f : ℕ) × (suc (suc n) ≤ f + depth e) × (comma_from (read n) n (ts ++ rest) ≡ commas (read n) n f e rest) = c n rest h (omega (arith, g)) in found.2 ∙ commas_stop (read n) n found.0 e rest (omega (arith, found.1, h)) g

pub whole : (l : Level) (ts : List Token) (e : Expr) → Claim l ts e → Whole l ts e
whole comma ts e c = whole_comma ts e c
whole assign ts e c = c
whole cond ts e c = c
whole (binary zero) ts e c = c
whole (binary (suc k)) ts e c = whole_level k ts e c
whole postfix ts e c = whole_postfix ts e c
whole primary ts e c = c

is_tighter : (k : ℕ) (ts : List Token) (e : Expr) → Claim (binary k) ts e → Claim (binary (suc k)) ts e
is_tighter k ts e c n rest h g = (suc n, omega (arith, depth_positive e), bind_is (λ x. chain (read n) n k (suc n) x.0 x.1) (whole (binary k) ts e c (suc n) rest h g))

turn_some : (self : Reader) (n k : ℕ) (go : Expr → List Token → Read Expr) (left : Expr) (t : Token) (ts : List Token) (op : Infix) (right : Expr) (rest : List Token) → depth left ≤ n → self (binary k) ts ≡ Some (right, rest) → turn_at self n k go left t ts (Some op) ≡ go (joined op left right t.at) rest
turn_some self n k go left t ts op right rest small reads = rw (le-leb (depth left) n small, reads) refl

-- one turn of the loop
turn : (self : Reader) (n k f : ℕ) (left right : Expr) (op : Infix) (s : Punct) (p : Place) (ts rest : List Token) → 1 ≤ f → infix_of s ≡ Some (suc k, op) → depth left ≤ n → self (binary k) ts ≡ Some (right, rest) → (g : ℕ) × (f ≡ suc g) × (chain self n k f left (sign s p ∷ ts) ≡ chain self n k g (joined op left right p.at) rest)
turn self n k zero left right op s p ts rest h is small reads = absurd (omega (arith, h))
turn self n k (suc f) left right op s p ts rest h is small reads = (f, refl, ap (turn_at self n k (chain self n k f) left (sign s p) ts) (of_level_some (suc k) (infix_of s) op is) ∙ turn_some self n k (chain self n k f) left (sign s p) ts op right rest small reads)

is_both : (k : ℕ) (a b : List Token) (left right : Expr) (op : Infix) (s : Punct) (p : Place) → infix_of s ≡ Some (suc k, op) → Claim (binary (suc k)) a left → Claim (binary k) b right → Claim (binary (suc k)) (a ++ sign s p ∷ b) (joined op left right p.at)
is_both k a b left right op s p is l r n rest h g = let deep : depth (joined op left right p.at) ≡ 1 + (max (depth left) (depth right)) = depth_joined op left right p.at in let small : depth left ≤ n = omega (arith, h, deep) in let small_r : depth right ≤ n = omega (arith, h, deep) in let found : (f : ℕ) × (suc (suc n) ≤ f + depth left) × (level (read n) n (suc k) (a ++ (sign s p ∷ (b ++ rest))) ≡ chain (read n) n k f left (sign s p ∷ (b ++ rest))) = l n (sign s p ∷ (b ++ rest)) (omega (arith, small)) (omega (arith, infix_loose s (suc k) op is)) in let next : (f : ℕ) × (found.0 ≡ suc f) × (chain (read n) n k found.0 left (sign s p ∷ (b ++ rest)) ≡ chain (read n) n k f (joined op left right p.at) rest) = turn (read n) n k found.0 left right op s p (b ++ rest) rest (omega (arith, found.1, small)) is small (whole (binary k) b right r n rest small_r g) in (next.0, omega (arith, found.1, next.1, deep), ap (λ ts. level (read n) n (suc k) ts) (append_assoc a (sign s p ∷ b) rest) ∙ found.2 ∙ next.2)

is_postfix_primary : (ts : List Token) (e : Expr) → Whole primary ts e → Claim postfix ts e
is_postfix_primary ts e c n rest h g = (suc n, omega (arith, depth_positive e), bind_is (λ x. bumps n (suc n) x.0 x.1) (c (suc n) rest h g))

bump_turn : (n f : ℕ) (e : Expr) (up : Bool) (s : Punct) (p : Place) (rest : List Token) → 1 ≤ f → postfix_of s ≡ Some up → depth e ≤ n → (g : ℕ) × (f ≡ suc g) × (bumps n f e (sign s p ∷ rest) ≡ bumps n g (Bump up false e p.at) rest)
bump_turn n zero e up s p rest h is small = absurd (omega (arith, h))
bump_turn n (suc f) e up s p rest h is small = (f, refl, ap (bump_at n (bumps n f) e (sign s p) rest) is ∙ rw (le-leb (depth e) n small) refl)

is_bump : (ts : List Token) (e : Expr) (up : Bool) (s : Punct) (p : Place) → postfix_of s ≡ Some up → Claim postfix ts e → Claim postfix (ts ++ sign s p ∷ []) (Bump up false e p.at)
is_bump ts e up s p is c n rest h g = let deep : depth (Bump up false e p.at) ≡ 1 + (depth e) = depth_bump up false e p.at in let small : depth e ≤ n = omega (arith, h, deep) in let found : (f : ℕ) × (suc (suc n) ≤ f + depth e) × (postfix_from (read n) n (ts ++ (sign s p ∷ rest)) ≡ bumps n f e (sign s p ∷ rest)) = c n (sign s p ∷ rest) (omega (arith, small)) (omega (arith, postfix_loose s up is)) in let next : (f : ℕ) × (found.0 ≡ suc f) × (bumps n found.0 e (sign s p ∷ rest) ≡ bumps n f (Bump up false e p.at) rest) = bump_turn n found.0 e up s p rest (omega (arith, found.1, small)) is small in (next.0, omega (arith, found.1, next.1, deep), ap (postfix_from (read n) n) (append_assoc ts (sign s p ∷ []) rest) ∙ found.2 ∙ next.2)

unary_skips : (self : Reader) (n : ℕ) (all : List Token) (t : Token) (us : List Token) → all ≡ t ∷ us → prefix_at t.kind ≡ None → unary_from self n all ≡ postfix_from self n all
unary_skips self n all t us is h = ap (unary_from self n) is ∙ ap (unary_at self n t us) h ∙ ap (postfix_from self n) (sym is)

-- a spelling whose first token is no sign before an operand
abbrev pub Plain : List Token → Type 0
Plain ts = (t : Token) × (us : List Token) × (ts ≡ t ∷ us) × (prefix_at t.kind ≡ None)

is_unary_postfix : (ts : List Token) (e : Expr) → Plain ts → Claim postfix ts e → Whole (binary zero) ts e
is_unary_postfix ts e b c zero rest h g = absurd (omega (arith, h, depth_positive e))
is_unary_postfix ts e b c (suc n) rest h g = unary_skips (read n) n (ts ++ rest) b.0 (b.1 ++ rest) (ap (λ x. x ++ rest) b.2) b.3 ∙ whole_postfix ts e c (suc n) rest h g

is_prefixed : (ts : List Token) (e : Expr) (op : Prefix) (s : Punct) (p : Place) → prefix_of s ≡ Some op → Whole (binary zero) ts e → Whole (binary zero) (sign s p ∷ ts) (prefixed op e p.at)
is_prefixed ts e op s p is c zero rest h g = absurd (omega (arith, h, depth_positive (prefixed op e p.at)))
is_prefixed ts e op s p is c (suc n) rest h g = ap (unary_at (read n) n (sign s p) (ts ++ rest)) is ∙ bind_is (λ x. Some (prefixed op x.0 p.at, x.1)) (c n rest (omega (arith, h, depth_prefixed op e p.at)) g)

test_stops : (self : Reader) (n : ℕ) (e : Expr) (kind : TokenKind) (t : Token) (ts : List Token) → 12 < looseness kind → choose_at self n e kind t ts ≡ Some (e, t ∷ ts)
test_stops self n e (kinds.Sign signs.Question) t ts h = absurd (omega (arith, h))
test_stops self n e _ t ts h = refl

after_test_stops : (self : Reader) (n : ℕ) (e : Expr) (rest : List Token) → 12 < head_looseness rest → after_test self n e rest ≡ Some (e, rest)
after_test_stops self n e [] h = refl
after_test_stops self n e (t ∷ ts) h = test_stops self n e t.kind t ts h

after_place_stops : (self : Reader) (n : ℕ) (e : Expr) (rest : List Token) → 13 < head_looseness rest → after_place self n e rest ≡ Some (e, rest)
after_place_stops self n e [] h = refl
after_place_stops self n e (t ∷ ts) h = ap (assign_at self n e t ts) (assignment_stops t.kind h)

named_stops : (self : Reader) (m at : ℕ) (kind : TokenKind) (t : Token) (ts : List Token) → 0 < looseness kind → named_at self m at kind t ts ≡ Some (Name m at, t ∷ ts)
named_stops self m at (kinds.Sign signs.OpenBracket) t ts h = absurd (omega (arith, h))
named_stops self m at (kinds.Sign signs.OpenParen) t ts h = absurd (omega (arith, h))
named_stops self m at _ t ts h = refl

after_name_stops : (self : Reader) (m at : ℕ) (rest : List Token) → 0 < head_looseness rest → named self m at rest ≡ Some (Name m at, rest)
after_name_stops self m at [] h = refl
after_name_stops self m at (t ∷ ts) h = named_stops self m at t.kind t ts h

is_cond : (ts : List Token) (e : Expr) → Claim (binary 10) ts e → Whole cond ts e
is_cond ts e c zero rest h g = absurd (omega (arith, h, depth_positive e))
is_cond ts e c (suc n) rest h g = bind_is (λ x. after_test (read n) n x.0 x.1) (whole (binary 10) ts e c (suc n) rest h (omega (arith, g))) ∙ after_test_stops (read n) n e rest g

is_assign : (ts : List Token) (e : Expr) → Whole cond ts e → Whole assign ts e
is_assign ts e c zero rest h g = absurd (omega (arith, h, depth_positive e))
is_assign ts e c (suc n) rest h g = bind_is (λ x. after_place (read n) n x.0 x.1) (c (suc n) rest h (omega (arith, g))) ∙ after_place_stops (read n) n e rest g

is_choose : (a b c : List Token) (test x y : Expr) (p q : Place) → Claim (binary 10) a test → Whole comma b x → Whole cond c y → Whole cond (a ++ sign signs.Question p ∷ (b ++ sign signs.Colon q ∷ c)) (Choose test x y p.at)
is_choose a b c test x y p q u v w zero rest h g = absurd (omega (arith, h, depth_positive (Choose test x y p.at)))
is_choose a b c test x y p q u v w (suc n) rest h g = let deep : depth (Choose test x y p.at) ≡ 1 + (max (depth test) (max (depth x) (depth y))) = depth_choose test x y p.at in ap (cond_from (read n) n) (append_assoc a (sign signs.Question p ∷ (b ++ sign signs.Colon q ∷ c)) rest ∙ ap (λ ts. a ++ sign signs.Question p ∷ ts) (append_assoc b (sign signs.Colon q ∷ c) rest)) ∙ bind_is (λ x. after_test (read n) n x.0 x.1) (whole (binary 10) a test u (suc n) (sign signs.Question p ∷ (b ++ sign signs.Colon q ∷ (c ++ rest))) (omega (arith, h, deep)) (omega arith)) ∙ rw (le-leb (depth test) n (omega (arith, h, deep)), v n (sign signs.Colon q ∷ (c ++ rest)) (omega (arith, h, deep)) (omega arith), w n rest (omega (arith, h, deep)) g) refl

-- a unary expression stands at each level of binary operators
lifted : (k : ℕ) (ts : List Token) (e : Expr) → Whole (binary zero) ts e → Claim (binary k) ts e
lifted zero ts e c = c
lifted (suc k) ts e c = is_tighter k ts e (lifted k ts e c)

is_assign_to : (a b : List Token) (place value : Expr) (op : Option BinaryOp) (s : Punct) (p : Place) → assignment_of s ≡ Some op → is_unary place ≡ true → Whole (binary zero) a place → Whole assign b value → Whole assign (a ++ sign s p ∷ b) (Assign op place value p.at)
is_assign_to a b place value op s p is form c d zero rest h g = absurd (omega (arith, h, depth_positive (Assign op place value p.at)))
is_assign_to a b place value op s p is form c d (suc n) rest h g = let deep : depth (Assign op place value p.at) ≡ 1 + (max (depth place) (depth value)) = depth_assign op place value p.at in ap (assign_from (read n) n) (append_assoc a (sign s p ∷ b) rest) ∙ bind_is (λ x. after_place (read n) n x.0 x.1) (is_cond a place (lifted 10 a place c) (suc n) (sign s p ∷ (b ++ rest)) (omega (arith, h, deep)) (omega (arith, assignment_loose s op is))) ∙ ap (assign_at (read n) n place (sign s p) (b ++ rest)) is ∙ rw (form, le-leb (depth place) n (omega (arith, h, deep)), d n rest (omega (arith, h, deep)) g) refl

is_comma_assign : (ts : List Token) (e : Expr) → Whole assign ts e → Claim comma ts e
is_comma_assign ts e c n rest h g = (suc n, omega (arith, depth_positive e), bind_is (λ x. commas (read n) n (suc n) x.0 x.1) (c (suc n) rest h g))

comma_turn : (self : Reader) (n f : ℕ) (left right : Expr) (p : Place) (ts rest : List Token) → 1 ≤ f → depth left ≤ n → self assign ts ≡ Some (right, rest) → (g : ℕ) × (f ≡ suc g) × (commas self n f left (sign signs.Comma p ∷ ts) ≡ commas self n g (Comma left right p.at) rest)
comma_turn self n zero left right p ts rest h small reads = absurd (omega (arith, h))
comma_turn self n (suc f) left right p ts rest h small reads = (f, refl, rw (le-leb (depth left) n small, reads) refl)

is_comma_both : (a b : List Token) (left right : Expr) (p : Place) → Claim comma a left → Whole assign b right → Claim comma (a ++ sign signs.Comma p ∷ b) (Comma left right p.at)
is_comma_both a b left right p l r n rest h g = let deep : depth (Comma left right p.at) ≡ 1 + (max (depth left) (depth right)) = depth_comma left right p.at in let small : depth left ≤ n = omega (arith, h, deep) in let small_r : depth right ≤ n = omega (arith, h, deep) in let found : (f : ℕ) × (suc (suc n) ≤ f + depth left) × (comma_from (read n) n (a ++ (sign signs.Comma p ∷ (b ++ rest))) ≡ commas (read n) n f left (sign signs.Comma p ∷ (b ++ rest))) = l n (sign signs.Comma p ∷ (b ++ rest)) (omega (arith, small)) (omega arith) in let next : (f : ℕ) × (found.0 ≡ suc f) × (commas (read n) n found.0 left (sign signs.Comma p ∷ (b ++ rest)) ≡ commas (read n) n f (Comma left right p.at) rest) = comma_turn (read n) n found.0 left right p (b ++ rest) rest (omega (arith, found.1, small)) small (r n rest small_r g) in (next.0, omega (arith, found.1, next.1, deep), ap (comma_from (read n) n) (append_assoc a (sign signs.Comma p ∷ b) rest) ∙ found.2 ∙ next.2)

is_literal : (value : ℕ) (is_unsigned : Bool) (p : Place) → Whole primary (mark (kinds.Number value is_unsigned) p ∷ []) (Literal value is_unsigned p.at)
is_literal value is_unsigned p zero rest h g = absurd (omega (arith, h, depth_positive (Literal value is_unsigned p.at)))
is_literal value is_unsigned p (suc n) rest h g = refl

is_name : (m : ℕ) (p : Place) → Whole primary (mark (kinds.Name m) p ∷ []) (Name m p.at)
is_name m p zero rest h g = absurd (omega (arith, h, depth_positive (Name m p.at)))
is_name m p (suc n) rest h g = after_name_stops (read n) m p.at rest g

is_paren : (ts : List Token) (e : Expr) (p q : Place) → Whole comma ts e → Whole primary (sign signs.OpenParen p ∷ (ts ++ sign signs.CloseParen q ∷ [])) (Paren e p.at)
is_paren ts e p q c zero rest h g = absurd (omega (arith, h, depth_positive (Paren e p.at)))
is_paren ts e p q c (suc n) rest h g = rw (append_assoc ts (sign signs.CloseParen q ∷ []) rest, c n (sign signs.CloseParen q ∷ rest) (omega (arith, h, depth_paren e p.at)) (omega arith)) refl

is_index : (ts : List Token) (e : Expr) (m : ℕ) (p q r : Place) → Whole comma ts e → Whole primary (mark (kinds.Name m) p ∷ sign signs.OpenBracket q ∷ (ts ++ sign signs.CloseBracket r ∷ [])) (Index m e p.at)
is_index ts e m p q r c zero rest h g = absurd (omega (arith, h, depth_positive (Index m e p.at)))
is_index ts e m p q r c (suc n) rest h g = rw (append_assoc ts (sign signs.CloseBracket r ∷ []) rest, c n (sign signs.CloseBracket r ∷ rest) (omega (arith, h, depth_index m e p.at)) (omega arith)) refl

is_call_none : (m : ℕ) (p q r : Place) → Whole primary (mark (kinds.Name m) p ∷ sign signs.OpenParen q ∷ sign signs.CloseParen r ∷ []) (Call m [] p.at)
is_call_none m p q r zero rest h g = absurd (omega (arith, h, depth_positive (Call m [] p.at)))
is_call_none m p q r (suc n) rest h g = refl

-- a spelling has a first token, with which an expression can start
abbrev pub Begins : List Token → Type 0
Begins ts = (t : Token) × (us : List Token) × (ts ≡ t ∷ us) × (starts t.kind ≡ true)

begins_with : (a b : List Token) → Begins a → Begins (a ++ b)
begins_with a b h = (h.0, h.1 ++ b, ap (λ x. x ++ b) h.2, h.3)

mutual
  pub begins : {l : Level} {ts : List Token} {e : Expr} → Reads l ts e → Begins ts
  begins (comma_assign d) = begins d
  begins (comma_both p d f) = begins_with _ _ (begins d)
  begins (assign_cond d) = begins d
  begins (assign_to s p i d f) = begins_with _ _ (begins d)
  begins (cond_binary d) = begins d
  begins (choose p q d f g) = begins_with _ _ (begins d)
  begins (tighter d) = begins d
  begins (both s p i d f) = begins_with _ _ (begins d)
  begins (unary_postfix d) = begins d
  begins (unary s p i d) = (_, _, refl, prefix_starts s _ i)
  begins (postfix_primary d) = begins d
  begins (bump s p i d) = begins_with _ _ (begins d)
  begins (literal value is_unsigned p) = (_, _, refl, refl)
  begins (name n p) = (_, _, refl, refl)
  begins (index n p q r d) = (_, _, refl, refl)
  begins (call_none n p q r) = (_, _, refl, refl)
  begins (call n p q r d) = (_, _, refl, refl)
  begins (paren p q d) = (_, _, refl, refl)

pub begins_all : {ts : List Token} {es : List Expr} → ReadsAll ts es → Begins ts
begins_all (one d) = begins d
begins_all (more p d ds) = begins_with _ _ (begins d)

abbrev PlainClaim : Level → List Token → Type 0
PlainClaim postfix ts = Plain ts
PlainClaim primary ts = Plain ts
PlainClaim _ ts = Unit {0}

plain_with : (a b : List Token) → Plain a → Plain (a ++ b)
plain_with a b h = (h.0, h.1 ++ b, ap (λ x. x ++ b) h.2, h.3)

plain : {l : Level} {ts : List Token} {e : Expr} → Reads l ts e → PlainClaim l ts
plain (comma_assign d) = tt
plain (comma_both p d f) = tt
plain (assign_cond d) = tt
plain (assign_to s p i d f) = tt
plain (cond_binary d) = tt
plain (choose p q d f g) = tt
plain (tighter d) = tt
plain (both s p i d f) = tt
plain (unary_postfix d) = tt
plain (unary s p i d) = tt
plain (postfix_primary d) = plain d
plain (bump s p i d) = plain_with _ _ (plain d)
plain (literal value is_unsigned p) = (_, _, refl, refl)
plain (name n p) = (_, _, refl, refl)
plain (index n p q r d) = (_, _, refl, refl)
plain (call_none n p q r) = (_, _, refl, refl)
plain (call n p q r d) = (_, _, refl, refl)
plain (paren p q d) = (_, _, refl, refl)

abbrev UnaryClaim : Level → Expr → Type 0
UnaryClaim (binary zero) e = is_unary e ≡ true
UnaryClaim postfix e = is_unary e ≡ true
UnaryClaim primary e = is_unary e ≡ true
UnaryClaim _ e = Unit {0}

unary_place : {l : Level} {ts : List Token} {e : Expr} → Reads l ts e → UnaryClaim l e
unary_place (comma_assign d) = tt
unary_place (comma_both p d f) = tt
unary_place (assign_cond d) = tt
unary_place (assign_to s p i d f) = tt
unary_place (cond_binary d) = tt
unary_place (choose p q d f g) = tt
unary_place (tighter d) = tt
unary_place (both s p i d f) = tt
unary_place (unary_postfix d) = unary_place d
unary_place (unary s p i d) = unary_prefixed _ _ p.at
unary_place (postfix_primary d) = unary_place d
unary_place (bump {up} s p i d) = unary_bump up false _ p.at
unary_place (literal value is_unsigned p) = unary_literal value is_unsigned p.at
unary_place (name n p) = unary_name n p.at
unary_place (index n p q r d) = unary_index n _ p.at
unary_place (call_none n p q r) = unary_call n [] p.at
unary_place (call n p q r d) = unary_call n _ p.at
unary_place (paren p q d) = unary_paren _ p.at

-- arguments, up to the closing parenthesis, where the fuel is enough
abbrev pub WholeAll : List Token → List Expr → Type 0
WholeAll ts es = (n f : ℕ) (p : Place) (rest : List Token) → greatest (map depth es) ≤ n → length ts ≤ f → arguments (read n) f (ts ++ sign signs.CloseParen p ∷ rest) ≡ Some (es, rest)

is_one : (ts : List Token) (e : Expr) → Begins ts → Whole assign ts e → WholeAll ts (e ∷ [])
is_one ts e b c n zero p rest h g = absurd (omega (arith, g, ap length b.2, length-cons b.0 b.1))
is_one ts e b c n (suc f) p rest h g = bind_is (λ x. after_argument (arguments (read n) f) x.0 x.1) (c n (sign signs.CloseParen p ∷ rest) (omega (arith, h)) (omega arith))

is_more : (a b : List Token) (e : Expr) (es : List Expr) (q : Place) → Whole assign a e → WholeAll b es → WholeAll (a ++ sign signs.Comma q ∷ b) (e ∷ es)
is_more a b e es q c d n zero p rest h g = absurd (omega (arith, g, length-append a (sign signs.Comma q ∷ b), length-cons (sign signs.Comma q) b))
is_more a b e es q c d n (suc f) p rest h g = ap (arguments (read n) (suc f)) (append_assoc a (sign signs.Comma q ∷ b) (sign signs.CloseParen p ∷ rest)) ∙ bind_is (λ x. after_argument (arguments (read n) f) x.0 x.1) (c n (sign signs.Comma q ∷ (b ++ sign signs.CloseParen p ∷ rest)) (omega (arith, h)) (omega arith)) ∙ rw (d n f p rest (omega (arith, h)) (omega (arith, g, length-append a (sign signs.Comma q ∷ b), length-cons (sign signs.Comma q) b))) refl

call_at_not : (self : Reader) (kind : TokenKind) (ts : List Token) → starts kind ≡ true → call_at self (Some kind) ts ≡ arguments self (length ts) ts
call_at_not self (kinds.Sign signs.CloseParen) ts h = absurd (cc)
call_at_not self _ ts h = refl

is_call : (ts : List Token) (es : List Expr) (m : ℕ) (p q r : Place) → Begins ts → WholeAll ts es → Whole primary (mark (kinds.Name m) p ∷ sign signs.OpenParen q ∷ (ts ++ sign signs.CloseParen r ∷ [])) (Call m es p.at)
is_call ts es m p q r b c zero rest h g = absurd (omega (arith, h, depth_positive (Call m es p.at)))
is_call ts es m p q r b c (suc n) rest h g = let all : List Token = ts ++ sign signs.CloseParen r ∷ rest in ap (λ us. primary_from (read n) (mark (kinds.Name m) p ∷ sign signs.OpenParen q ∷ us)) (append_assoc ts (sign signs.CloseParen r ∷ []) rest) ∙ bind_is (λ x. Some (Call m x.0 p.at, x.1)) (ap (λ us. call_at (read n) (kind_of us) all) (ap (λ us. us ++ sign signs.CloseParen r ∷ rest) b.2) ∙ call_at_not (read n) b.0.kind all b.3 ∙ c n (length all) r rest (omega (arith, h, depth_call m es p.at)) (omega (arith, length-append ts (sign signs.CloseParen r ∷ rest))))

mutual
  pub complete : {l : Level} {ts : List Token} {e : Expr} → Reads l ts e → Claim l ts e
  complete (comma_assign d) = is_comma_assign _ _ (complete d)
  complete (comma_both {a} {b} {left} {right} p d f) = is_comma_both a b left right p (complete d) (complete f)
  complete (assign_cond d) = is_assign _ _ (complete d)
  complete (assign_to s p i d f) = is_assign_to _ _ _ _ _ s p i (unary_place d) (complete d) (complete f)
  complete (cond_binary d) = is_cond _ _ (complete d)
  complete (choose p q d f g) = is_choose _ _ _ _ _ _ p q (complete d) (whole comma _ _ (complete f)) (complete g)
  complete (tighter d) = is_tighter _ _ _ (complete d)
  complete (both {k} {a} {b} {left} {right} {op} s p i d f) = is_both k a b left right op s p i (complete d) (complete f)
  complete (unary_postfix d) = is_unary_postfix _ _ (plain d) (complete d)
  complete (unary s p i d) = is_prefixed _ _ _ s p i (complete d)
  complete (postfix_primary d) = is_postfix_primary _ _ (complete d)
  complete (bump {ts} {e} {up} s p i d) = is_bump ts e up s p i (complete d)
  complete (literal value is_unsigned p) = is_literal value is_unsigned p
  complete (name n p) = is_name n p
  complete (index n p q r d) = is_index _ _ n p q r (whole comma _ _ (complete d))
  complete (call_none n p q r) = is_call_none n p q r
  complete (call n p q r d) = is_call _ _ n p q r (begins_all d) (complete_all d)
  complete (paren p q d) = is_paren _ _ p q (whole comma _ _ (complete d))

  pub complete_all : {ts : List Token} {es : List Expr} → ReadsAll ts es → WholeAll ts es
  complete_all (one d) = is_one _ _ (begins d) (complete d)
  complete_all (more p d ds) = is_more _ _ _ _ p (complete d) (complete_all ds)

-- What the grammar has is read whole, before any rest that does not go on.
pub is_read : {l : Level} {ts : List Token} {e : Expr} → Reads l ts e → Whole l ts e
is_read {l} {ts} {e} d = whole l ts e (complete d)
