-- What is read is in the grammar of expressions.
use Rattle.std.proofs.Common.{◌≡◌, ◌≤◌, ◌++◌, ℕ, zero, suc, Bool, true, false, List, [], ◌∷◌, map, Option, Some, None, refl, sym, ap, ◌∙◌, arith, subst, length}
use Rattle.std.specs.Prelude.{if◌then◌else◌, nat_le}
use Rattle.std.proofs.lemmas.Bool.{leb-true}
use Rattle.c_lexer.specs.declared.token.Token.{Token}
use Rattle.c_lexer.specs.declared.token.TokenKind.{TokenKind}
use Rattle.c_lexer.specs.declared.token.TokenKind.TheVariants as kinds
use Rattle.c_lexer.specs.declared.token.Punct.{Punct}
use Rattle.c_lexer.specs.declared.token.Punct.TheVariants as signs
use Rattle.c_syntax.specs.declared.tree.BinaryOp.{BinaryOp}
use Rattle.c_syntax.specs.declared.tree.Expr.{Expr, Name, Index, Call, Choose, Assign, Bump, Comma, Paren}
use Rattle.c_grammar.specs.declared.operators.Infix.{Infix}
use Rattle.c_grammar.specs.declared.operators.Prefix.{Prefix}
use Rattle.c_grammar.specs.Places.{Place, mark, sign}
use Rattle.c_grammar.specs.Operators.{infix_of, assignment_of, prefix_of, postfix_of, infix_at, assignment_at, prefix_at, postfix_at, joined, prefixed}
use Rattle.c_syntax.specs.Sizes.{expression_depth as depth, greatest}
use Rattle.c_grammar.specs.Expressions.{Level, comma, assign, cond, binary, postfix, primary, Reads, ReadsAll, comma_assign, comma_both, assign_cond, assign_to, cond_binary, choose, tighter, both, unary_postfix, unary, postfix_primary, bump, literal, name, index, call_none, call, paren, one, more}
use Rattle.c_grammar.specs.ReadExpressions.{Read, Reader, ◌>>=◌, is_unary, kind_of, after, is_close_paren, is_colon, is_close_bracket, middle, arguments, after_argument, next_argument, call_at, named_at, named, primary_at, primary_from, bump_at, bumps, postfix_from, unary_at, unary_from, of_level, turn_at, chain, level, choose_at, after_test, cond_from, assign_at, after_place, assign_from, comma_at, commas, comma_from, read}
use Rattle.c_grammar.proofs.Options.{some_is, none_is, clash, bind_some, bind_after, guard_some, place_of, token_is, after_mark, sign_is, closes, joins}
use Rattle.c_grammar.proofs.Parts.{depth_literal, depth_name, depth_index, depth_call, depth_paren, depth_bump, depth_prefixed, depth_joined, depth_comma, depth_choose, depth_assign, unary_joined, unary_comma, unary_choose, unary_assign}
use Rattle.c_grammar.proofs.Tables.{of_level_is}

-- The tokens begin with a spelling of what was read, and the rest stands behind it.
pub record Found (l : Level) (n : ℕ) (ts : List Token) (x : Expr × List Token) : Type 0 where
  pub front : List Token
  pub split : ts ≡ front ++ x.1
  pub reads : Reads l front x.0
  pub deep : depth x.0 ≤ n

abbrev pub Sound : ℕ → Reader → Type 0
Sound n self = (l : Level) (ts : List Token) (x : Expr × List Token) → self l ts ≡ Some x → Found l n ts x

is_found : {l : Level} {n : ℕ} {ts : List Token} {x y : Expr × List Token} → Found l n ts x → Some x ≡ Some y → Found l n ts y
is_found {l} {n} {ts} f h = subst (λ z. Found l n ts z) (some_is h) f

pub close_paren_is : (kind : TokenKind) → is_close_paren kind ≡ true → kind ≡ kinds.Sign signs.CloseParen
close_paren_is (kinds.Sign signs.CloseParen) h = refl
close_paren_is _ h = absurd cc

pub close_bracket_is : (kind : TokenKind) → is_close_bracket kind ≡ true → kind ≡ kinds.Sign signs.CloseBracket
close_bracket_is (kinds.Sign signs.CloseBracket) h = refl
close_bracket_is _ h = absurd cc

pub colon_is : (kind : TokenKind) → is_colon kind ≡ true → kind ≡ kinds.Sign signs.Colon
colon_is (kinds.Sign signs.Colon) h = refl
colon_is _ h = absurd cc

-- the same split, with the token's kind seen
signed : (all a ts : List Token) (t : Token) (kind : TokenKind) → all ≡ a ++ t ∷ ts → t.kind ≡ kind → all ≡ a ++ mark kind (place_of t) ∷ ts
signed all a ts t kind split h = split ∙ ap (λ u. a ++ u ∷ ts) (token_is t kind h)

-- a tree of a unary expression's form stands there
lower : {l : Level} {ts : List Token} {e : Expr} → Reads l ts e → is_unary e ≡ true → Reads (binary zero) ts e
lower (comma_assign d) h = lower d h
lower (comma_both p d f) h = absurd (clash h (unary_comma _ _ p.at))
lower (assign_cond d) h = lower d h
lower (assign_to s p i d f) h = absurd (clash h (unary_assign _ _ _ p.at))
lower (cond_binary d) h = lower d h
lower (choose p q d f g) h = absurd (clash h (unary_choose _ _ _ p.at))
lower (tighter d) h = lower d h
lower (both {k} {a} {b} {left} {right} {op} s p i d f) h = absurd (clash h (unary_joined op left right p.at))
lower (unary_postfix d) h = unary_postfix d
lower (unary s p i d) h = unary s p i d
lower (postfix_primary d) h = unary_postfix (postfix_primary d)
lower (bump s p i d) h = unary_postfix (bump s p i d)
lower (literal value is_unsigned p) h = unary_postfix (postfix_primary (literal value is_unsigned p))
lower (name n p) h = unary_postfix (postfix_primary (name n p))
lower (index n p q r d) h = unary_postfix (postfix_primary (index n p q r d))
lower (call_none n p q r) h = unary_postfix (postfix_primary (call_none n p q r))
lower (call n p q r d) h = unary_postfix (postfix_primary (call n p q r d))
lower (paren p q d) h = unary_postfix (postfix_primary (paren p q d))

abbrev ChainSound : ℕ → ℕ → (Expr → List Token → Read Expr) → Type 0
ChainSound n k go = (left : Expr) (all a ts : List Token) (y : Expr × List Token) → all ≡ a ++ ts → Reads (binary (suc k)) a left → depth left ≤ suc n → go left ts ≡ Some y → Found (binary (suc k)) (suc n) all y

turn_sound : (n : ℕ) (self : Reader) → Sound n self → (k : ℕ) (go : Expr → List Token → Read Expr) → ChainSound n k go → (left : Expr) (all a : List Token) (t : Token) (ts : List Token) (y : Expr × List Token) (o : Option Infix) → of_level (suc k) (infix_at t.kind) ≡ o → all ≡ a ++ t ∷ ts → Reads (binary (suc k)) a left → depth left ≤ suc n → turn_at self n k go left t ts o ≡ Some y → Found (binary (suc k)) (suc n) all y
turn_sound n self s k go next left all a t ts y None is split reads deep h = is_found (record { front = a; split = split; reads = reads; deep = deep }) h
turn_sound n self s k go next left all a t ts y (Some op) is split reads deep h = let small : (nat_le (depth left) n ≡ true) × ((self (binary k) ts >>= λ x. go (joined op left x.0 t.at) x.1) ≡ Some y) = guard_some _ _ y h in let r : (x : Expr × List Token) × (self (binary k) ts ≡ Some x) × (go (joined op left x.0 t.at) x.1 ≡ Some y) = bind_some _ _ y small.1 in let b : Found (binary k) n ts r.0 = s (binary k) ts r.0 r.1 in let g : (z : Punct) × (t.kind ≡ kinds.Sign z) × (infix_of z ≡ Some (suc k, op)) = sign_is infix_of t.kind (suc k, op) (of_level_is (suc k) (infix_at t.kind) op is) in next (joined op left r.0.0 t.at) all (a ++ sign g.0 (place_of t) ∷ b.front) r.0.1 y (joins all a ts b.front r.0.1 (sign g.0 (place_of t)) (signed all a ts t (kinds.Sign g.0) split g.1) b.split) (both g.0 (place_of t) g.2 reads b.reads) (omega (arith, depth_joined op left r.0.0 t.at, b.deep, leb-true (depth left) n small.0)) r.2

chain_sound : (n : ℕ) (self : Reader) → Sound n self → (k f : ℕ) → ChainSound n k (chain self n k f)
chain_sound n self s k zero left all a ts y split reads deep h = absurd (none_is h)
chain_sound n self s k (suc f) left all a [] y split reads deep h = is_found (record { front = a; split = split; reads = reads; deep = deep }) h
chain_sound n self s k (suc f) left all a (t ∷ ts) y split reads deep h = turn_sound n self s k (chain self n k f) (chain_sound n self s k f) left all a t ts y (of_level (suc k) (infix_at t.kind)) refl split reads deep h

abbrev BumpsSound : ℕ → (Expr → List Token → Read Expr) → Type 0
BumpsSound n go = (e : Expr) (all a ts : List Token) (y : Expr × List Token) → all ≡ a ++ ts → Reads postfix a e → depth e ≤ suc n → go e ts ≡ Some y → Found postfix (suc n) all y

bump_sound : (n : ℕ) (go : Expr → List Token → Read Expr) → BumpsSound n go → (e : Expr) (all a : List Token) (t : Token) (ts : List Token) (y : Expr × List Token) (o : Option Bool) → postfix_at t.kind ≡ o → all ≡ a ++ t ∷ ts → Reads postfix a e → depth e ≤ suc n → bump_at n go e t ts o ≡ Some y → Found postfix (suc n) all y
bump_sound n go next e all a t ts y None is split reads deep h = is_found (record { front = a; split = split; reads = reads; deep = deep }) h
bump_sound n go next e all a t ts y (Some up) is split reads deep h = let small : (nat_le (depth e) n ≡ true) × (go (Bump up false e t.at) ts ≡ Some y) = guard_some _ _ y h in let g : (z : Punct) × (t.kind ≡ kinds.Sign z) × (postfix_of z ≡ Some up) = sign_is postfix_of t.kind up is in next (Bump up false e t.at) all (a ++ sign g.0 (place_of t) ∷ []) ts y (closes all a (sign g.0 (place_of t) ∷ ts) ts (sign g.0 (place_of t)) (signed all a ts t (kinds.Sign g.0) split g.1) refl) (bump g.0 (place_of t) g.2 reads) (omega (arith, depth_bump up false e t.at, leb-true (depth e) n small.0)) small.1

bumps_sound : (n f : ℕ) → BumpsSound n (bumps n f)
bumps_sound n zero e all a ts y split reads deep h = absurd (none_is h)
bumps_sound n (suc f) e all a [] y split reads deep h = is_found (record { front = a; split = split; reads = reads; deep = deep }) h
bumps_sound n (suc f) e all a (t ∷ ts) y split reads deep h = bump_sound n (bumps n f) (bumps_sound n f) e all a t ts y (postfix_at t.kind) refl split reads deep h

abbrev CommasSound : ℕ → (Expr → List Token → Read Expr) → Type 0
CommasSound n go = (left : Expr) (all a ts : List Token) (y : Expr × List Token) → all ≡ a ++ ts → Reads comma a left → depth left ≤ suc n → go left ts ≡ Some y → Found comma (suc n) all y

comma_sound : (n : ℕ) (self : Reader) → Sound n self → (go : Expr → List Token → Read Expr) → CommasSound n go → (left : Expr) (all a : List Token) (kind : TokenKind) (p : Place) (ts : List Token) (y : Expr × List Token) → all ≡ a ++ mark kind p ∷ ts → Reads comma a left → depth left ≤ suc n → comma_at self n go left kind (mark kind p) ts ≡ Some y → Found comma (suc n) all y
comma_sound n self s go next left all a (kinds.Sign signs.Comma) p ts y split reads deep h = let small : (nat_le (depth left) n ≡ true) × ((self assign ts >>= λ x. go (Comma left x.0 p.at) x.1) ≡ Some y) = guard_some _ _ y h in let r : (x : Expr × List Token) × (self assign ts ≡ Some x) × (go (Comma left x.0 p.at) x.1 ≡ Some y) = bind_some _ _ y small.1 in let b : Found assign n ts r.0 = s assign ts r.0 r.1 in next (Comma left r.0.0 p.at) all (a ++ sign signs.Comma p ∷ b.front) r.0.1 y (joins all a ts b.front r.0.1 (sign signs.Comma p) split b.split) (comma_both p reads b.reads) (omega (arith, depth_comma left r.0.0 p.at, b.deep, leb-true (depth left) n small.0)) r.2
comma_sound n self s go next left all a _ p ts y split reads deep h = is_found (record { front = a; split = split; reads = reads; deep = deep }) h

commas_sound : (n : ℕ) (self : Reader) → Sound n self → (f : ℕ) → CommasSound n (commas self n f)
commas_sound n self s zero left all a ts y split reads deep h = absurd (none_is h)
commas_sound n self s (suc f) left all a [] y split reads deep h = is_found (record { front = a; split = split; reads = reads; deep = deep }) h
commas_sound n self s (suc f) left all a (t ∷ ts) y split reads deep h = comma_sound n self s (commas self n f) (commas_sound n self s f) left all a t.kind (place_of t) ts y split reads deep h

-- arguments are read up to their parenthesis
pub record FoundAll (n : ℕ) (ts : List Token) (x : List Expr × List Token) : Type 0 where
  pub front : List Token
  pub close : Place
  pub split : ts ≡ front ++ sign signs.CloseParen close ∷ x.1
  pub reads : ReadsAll front x.0
  pub deep : greatest (map depth x.0) ≤ n

all_found : {n : ℕ} {ts : List Token} {x y : List Expr × List Token} → FoundAll n ts x → Some x ≡ Some y → FoundAll n ts y
all_found {n} {ts} f h = subst (λ z. FoundAll n ts z) (some_is h) f

next_sound : (n : ℕ) (go : List Token → Read (List Expr)) → ((ts : List Token) (y : List Expr × List Token) → go ts ≡ Some y → FoundAll n ts y) → (e : Expr) (all a : List Token) (kind : TokenKind) (p : Place) (ts : List Token) (y : List Expr × List Token) → all ≡ a ++ mark kind p ∷ ts → Reads assign a e → depth e ≤ n → next_argument go e kind ts ≡ Some y → FoundAll n all y
next_sound n go s e all a (kinds.Sign signs.Comma) p ts y split reads deep h = let r : (x : List Expr × List Token) × (go ts ≡ Some x) × (Some (e ∷ x.0, x.1) ≡ Some y) = bind_some (go ts) (λ x. Some (e ∷ x.0, x.1)) y h in let found : FoundAll n ts r.0 = s ts r.0 r.1 in all_found (record { front = a ++ sign signs.Comma p ∷ found.front; close = found.close; split = joins all a ts found.front (sign signs.CloseParen found.close ∷ r.0.1) (sign signs.Comma p) split found.split; reads = more p reads found.reads; deep = omega (arith, deep, found.deep) }) r.2
next_sound n go s e all a (kinds.Sign signs.CloseParen) p ts y split reads deep h = all_found (record { front = a; close = p; split = split; reads = one reads; deep = omega (arith, deep) }) h
next_sound n go s e all a _ p ts y split reads deep h = absurd (none_is h)

after_argument_sound : (n : ℕ) (go : List Token → Read (List Expr)) → ((ts : List Token) (y : List Expr × List Token) → go ts ≡ Some y → FoundAll n ts y) → (e : Expr) (all a ts : List Token) (y : List Expr × List Token) → all ≡ a ++ ts → Reads assign a e → depth e ≤ n → after_argument go e ts ≡ Some y → FoundAll n all y
after_argument_sound n go s e all a [] y split reads deep h = absurd (none_is h)
after_argument_sound n go s e all a (t ∷ ts) y split reads deep h = next_sound n go s e all a t.kind (place_of t) ts y split reads deep h

arguments_sound : (n : ℕ) (self : Reader) → Sound n self → (f : ℕ) (ts : List Token) (y : List Expr × List Token) → arguments self f ts ≡ Some y → FoundAll n ts y
arguments_sound n self s zero ts y h = absurd (none_is h)
arguments_sound n self s (suc f) ts y h = let r : (x : Expr × List Token) × (self assign ts ≡ Some x) × (after_argument (arguments self f) x.0 x.1 ≡ Some y) = bind_some (self assign ts) (λ x. after_argument (arguments self f) x.0 x.1) y h in let found : Found assign n ts r.0 = s assign ts r.0 r.1 in after_argument_sound n (arguments self f) (arguments_sound n self s f) r.0.0 ts found.front r.0.1 y found.split found.reads found.deep r.2

-- a call's arguments are read behind its name and its parenthesis
call_found : (n m : ℕ) (p q : Place) (ts : List Token) (x : List Expr × List Token) → FoundAll n ts x → Found primary (suc n) (mark (kinds.Name m) p ∷ sign signs.OpenParen q ∷ ts) (Call m x.0 p.at, x.1)
call_found n m p q ts x f = record { front = mark (kinds.Name m) p ∷ sign signs.OpenParen q ∷ (f.front ++ sign signs.CloseParen f.close ∷ []); split = ap (λ us. mark (kinds.Name m) p ∷ sign signs.OpenParen q ∷ us) (closes ts f.front _ x.1 (sign signs.CloseParen f.close) f.split refl); reads = call m p q f.close f.reads; deep = omega (arith, depth_call m x.0 p.at, f.deep) }

call_sound : (n : ℕ) (self : Reader) → Sound n self → (m : ℕ) (p q : Place) (ts : List Token) (o : Option TokenKind) (x : List Expr × List Token) → call_at self o ts ≡ Some x → Found primary (suc n) (mark (kinds.Name m) p ∷ sign signs.OpenParen q ∷ ts) (Call m x.0 p.at, x.1)
call_sound n self s m p q ts None x h = call_found n m p q ts x (arguments_sound n self s (length ts) ts x h)
call_sound n self s m p q ts (Some (kinds.Sign signs.CloseParen)) x h = let r : (rest : List Token) × (after is_close_paren ts ≡ Some rest) × (Some ([], rest) ≡ Some x) = bind_some (after is_close_paren ts) (λ rest. Some ([], rest)) x h in let c : (z : Place) × (ts ≡ sign signs.CloseParen z ∷ r.0) = after_mark is_close_paren (kinds.Sign signs.CloseParen) close_paren_is ts r.0 r.1 in subst (λ z. Found primary (suc n) (mark (kinds.Name m) p ∷ sign signs.OpenParen q ∷ ts) (Call m z.0 p.at, z.1)) (some_is r.2) (record { front = mark (kinds.Name m) p ∷ sign signs.OpenParen q ∷ sign signs.CloseParen c.0 ∷ []; split = ap (λ us. mark (kinds.Name m) p ∷ sign signs.OpenParen q ∷ us) c.1; reads = call_none m p q c.0; deep = omega (arith, depth_call m [] p.at) })
call_sound n self s m p q ts (Some _) x h = call_found n m p q ts x (arguments_sound n self s (length ts) ts x h)

name_found : (n m : ℕ) (p : Place) (ts : List Token) → Found primary (suc n) (mark (kinds.Name m) p ∷ ts) (Name m p.at, ts)
name_found n m p ts = record { front = mark (kinds.Name m) p ∷ []; split = refl; reads = name m p; deep = omega (arith, depth_name m p.at) }

named_at_sound : (n : ℕ) (self : Reader) → Sound n self → (m : ℕ) (p : Place) (kind : TokenKind) (q : Place) (ts : List Token) (y : Expr × List Token) → named_at self m p.at kind (mark kind q) ts ≡ Some y → Found primary (suc n) (mark (kinds.Name m) p ∷ mark kind q ∷ ts) y
named_at_sound n self s m p (kinds.Sign signs.OpenBracket) q ts y h = let r : (x : Expr × List Token) × (self comma ts ≡ Some x) × ((after is_close_bracket x.1 >>= λ rest. Some (Index m x.0 p.at, rest)) ≡ Some y) = bind_some (self comma ts) (λ x. after is_close_bracket x.1 >>= λ rest. Some (Index m x.0 p.at, rest)) y h in let z : (rest : List Token) × (after is_close_bracket r.0.1 ≡ Some rest) × (Some (Index m r.0.0 p.at, rest) ≡ Some y) = bind_some (after is_close_bracket r.0.1) (λ rest. Some (Index m r.0.0 p.at, rest)) y r.2 in let found : Found comma n ts r.0 = s comma ts r.0 r.1 in let c : (w : Place) × (r.0.1 ≡ sign signs.CloseBracket w ∷ z.0) = after_mark is_close_bracket (kinds.Sign signs.CloseBracket) close_bracket_is r.0.1 z.0 z.1 in is_found (record { front = mark (kinds.Name m) p ∷ sign signs.OpenBracket q ∷ (found.front ++ sign signs.CloseBracket c.0 ∷ []); split = ap (λ us. mark (kinds.Name m) p ∷ sign signs.OpenBracket q ∷ us) (closes ts found.front r.0.1 z.0 (sign signs.CloseBracket c.0) found.split c.1); reads = index m p q c.0 found.reads; deep = omega (arith, depth_index m r.0.0 p.at, found.deep) }) z.2
named_at_sound n self s m p (kinds.Sign signs.OpenParen) q ts y h = let r : (x : List Expr × List Token) × (call_at self (kind_of ts) ts ≡ Some x) × (Some (Call m x.0 p.at, x.1) ≡ Some y) = bind_some (call_at self (kind_of ts) ts) (λ x. Some (Call m x.0 p.at, x.1)) y h in is_found (call_sound n self s m p q ts (kind_of ts) r.0 r.1) r.2
named_at_sound n self s m p kind q ts y h = is_found (name_found n m p (mark kind q ∷ ts)) h

named_sound : (n : ℕ) (self : Reader) → Sound n self → (m : ℕ) (p : Place) (ts : List Token) (y : Expr × List Token) → named self m p.at ts ≡ Some y → Found primary (suc n) (mark (kinds.Name m) p ∷ ts) y
named_sound n self s m p [] y h = is_found (name_found n m p []) h
named_sound n self s m p (t ∷ ts) y h = named_at_sound n self s m p t.kind (place_of t) ts y h

primary_at_sound : (n : ℕ) (self : Reader) → Sound n self → (kind : TokenKind) (p : Place) (ts : List Token) (y : Expr × List Token) → primary_at self kind p.at ts ≡ Some y → Found primary (suc n) (mark kind p ∷ ts) y
primary_at_sound n self s (kinds.Number value is_unsigned) p ts y h = is_found (record { front = mark (kinds.Number value is_unsigned) p ∷ []; split = refl; reads = literal value is_unsigned p; deep = omega (arith, depth_literal value is_unsigned p.at) }) h
primary_at_sound n self s (kinds.Name m) p ts y h = named_sound n self s m p ts y h
primary_at_sound n self s (kinds.Sign signs.OpenParen) p ts y h = let r : (x : Expr × List Token) × (self comma ts ≡ Some x) × ((after is_close_paren x.1 >>= λ rest. Some (Paren x.0 p.at, rest)) ≡ Some y) = bind_some (self comma ts) (λ x. after is_close_paren x.1 >>= λ rest. Some (Paren x.0 p.at, rest)) y h in let z : (rest : List Token) × (after is_close_paren r.0.1 ≡ Some rest) × (Some (Paren r.0.0 p.at, rest) ≡ Some y) = bind_some (after is_close_paren r.0.1) (λ rest. Some (Paren r.0.0 p.at, rest)) y r.2 in let found : Found comma n ts r.0 = s comma ts r.0 r.1 in let c : (w : Place) × (r.0.1 ≡ sign signs.CloseParen w ∷ z.0) = after_mark is_close_paren (kinds.Sign signs.CloseParen) close_paren_is r.0.1 z.0 z.1 in is_found (record { front = sign signs.OpenParen p ∷ (found.front ++ sign signs.CloseParen c.0 ∷ []); split = ap (λ us. sign signs.OpenParen p ∷ us) (closes ts found.front r.0.1 z.0 (sign signs.CloseParen c.0) found.split c.1); reads = paren p c.0 found.reads; deep = omega (arith, depth_paren r.0.0 p.at, found.deep) }) z.2
primary_at_sound n self s _ p ts y h = absurd (none_is h)

primary_sound : (n : ℕ) (self : Reader) → Sound n self → (ts : List Token) (y : Expr × List Token) → primary_from self ts ≡ Some y → Found primary (suc n) ts y
primary_sound n self s [] y h = absurd (none_is h)
primary_sound n self s (t ∷ ts) y h = primary_at_sound n self s t.kind (place_of t) ts y h

postfix_sound : (n : ℕ) (self : Reader) → Sound n self → (ts : List Token) (y : Expr × List Token) → postfix_from self n ts ≡ Some y → Found postfix (suc n) ts y
postfix_sound n self s ts y h = let r : (x : Expr × List Token) × (primary_from self ts ≡ Some x) × (bumps n (suc n) x.0 x.1 ≡ Some y) = bind_some _ _ y h in let found : Found primary (suc n) ts r.0 = primary_sound n self s ts r.0 r.1 in bumps_sound n (suc n) r.0.0 ts found.front r.0.1 y found.split (postfix_primary found.reads) found.deep r.2

unary_at_sound : (n : ℕ) (self : Reader) → Sound n self → (t : Token) (ts : List Token) (y : Expr × List Token) (o : Option Prefix) → prefix_at t.kind ≡ o → unary_at self n t ts o ≡ Some y → Found (binary zero) (suc n) (t ∷ ts) y
unary_at_sound n self s t ts y (Some op) is h = let r : (x : Expr × List Token) × (self (binary zero) ts ≡ Some x) × (Some (prefixed op x.0 t.at, x.1) ≡ Some y) = bind_some _ _ y h in let found : Found (binary zero) n ts r.0 = s (binary zero) ts r.0 r.1 in let g : (z : Punct) × (t.kind ≡ kinds.Sign z) × (prefix_of z ≡ Some op) = sign_is prefix_of t.kind op is in is_found (record { front = sign g.0 (place_of t) ∷ found.front; split = signed (t ∷ ts) [] ts t (kinds.Sign g.0) refl g.1 ∙ ap (λ us. sign g.0 (place_of t) ∷ us) found.split; reads = unary g.0 (place_of t) g.2 found.reads; deep = omega (arith, depth_prefixed op r.0.0 t.at, found.deep) }) r.2
unary_at_sound n self s t ts y None is h = let found : Found postfix (suc n) (t ∷ ts) y = postfix_sound n self s (t ∷ ts) y h in record { front = found.front; split = found.split; reads = unary_postfix found.reads; deep = found.deep }

unary_sound : (n : ℕ) (self : Reader) → Sound n self → (ts : List Token) (y : Expr × List Token) → unary_from self n ts ≡ Some y → Found (binary zero) (suc n) ts y
unary_sound n self s [] y h = absurd (none_is h)
unary_sound n self s (t ∷ ts) y h = unary_at_sound n self s t ts y (prefix_at t.kind) refl h

level_sound : (n : ℕ) (self : Reader) → Sound n self → (k : ℕ) (ts : List Token) (y : Expr × List Token) → level self n k ts ≡ Some y → Found (binary k) (suc n) ts y
level_sound n self s zero ts y h = unary_sound n self s ts y h
level_sound n self s (suc k) ts y h = let r : (x : Expr × List Token) × (level self n k ts ≡ Some x) × (chain self n k (suc n) x.0 x.1 ≡ Some y) = bind_some (level self n k ts) (λ x. chain self n k (suc n) x.0 x.1) y h in let found : Found (binary k) (suc n) ts r.0 = level_sound n self s k ts r.0 r.1 in chain_sound n self s k (suc n) r.0.0 ts found.front r.0.1 y found.split (tighter found.reads) found.deep r.2

choose_sound : (n : ℕ) (self : Reader) → Sound n self → (test : Expr) (all a : List Token) (kind : TokenKind) (p : Place) (ts : List Token) (y : Expr × List Token) → all ≡ a ++ mark kind p ∷ ts → Reads (binary 10) a test → depth test ≤ suc n → choose_at self n test kind (mark kind p) ts ≡ Some y → Found cond (suc n) all y
choose_sound n self s test all a (kinds.Sign signs.Question) p ts y split reads deep h = let small : (nat_le (depth test) n ≡ true) × ((middle self ts >>= λ x. self cond x.1 >>= λ y. Some (Choose test x.0 y.0 p.at, y.1)) ≡ Some y) = guard_some _ _ y h in let r : (x : Expr × List Token) × (self comma ts ≡ Some x) × ((after is_colon x.1 >>= λ rest. self cond rest >>= λ y. Some (Choose test x.0 y.0 p.at, y.1)) ≡ Some y) = bind_some _ _ y (sym (bind_after (self comma ts) is_colon (λ x. self cond x.1 >>= λ y. Some (Choose test x.0 y.0 p.at, y.1))) ∙ small.1) in let z : (rest : List Token) × (after is_colon r.0.1 ≡ Some rest) × ((self cond rest >>= λ y. Some (Choose test r.0.0 y.0 p.at, y.1)) ≡ Some y) = bind_some _ _ y r.2 in let w : (x : Expr × List Token) × (self cond z.0 ≡ Some x) × (Some (Choose test r.0.0 x.0 p.at, x.1) ≡ Some y) = bind_some _ _ y z.2 in let b : Found comma n ts r.0 = s comma ts r.0 r.1 in let c : (v : Place) × (r.0.1 ≡ sign signs.Colon v ∷ z.0) = after_mark is_colon (kinds.Sign signs.Colon) colon_is r.0.1 z.0 z.1 in let d : Found cond n z.0 w.0 = s cond z.0 w.0 w.1 in is_found (record { front = a ++ sign signs.Question p ∷ (b.front ++ sign signs.Colon c.0 ∷ d.front); split = joins all a ts (b.front ++ sign signs.Colon c.0 ∷ d.front) w.0.1 (sign signs.Question p) split (joins ts b.front z.0 d.front w.0.1 (sign signs.Colon c.0) (b.split ∙ ap (λ us. b.front ++ us) c.1) d.split); reads = choose p c.0 reads b.reads d.reads; deep = omega (arith, depth_choose test r.0.0 w.0.0 p.at, b.deep, d.deep, leb-true (depth test) n small.0) }) w.2
choose_sound n self s test all a _ p ts y split reads deep h = is_found (record { front = a; split = split; reads = cond_binary reads; deep = deep }) h

after_test_sound : (n : ℕ) (self : Reader) → Sound n self → (test : Expr) (all a ts : List Token) (y : Expr × List Token) → all ≡ a ++ ts → Reads (binary 10) a test → depth test ≤ suc n → after_test self n test ts ≡ Some y → Found cond (suc n) all y
after_test_sound n self s test all a [] y split reads deep h = is_found (record { front = a; split = split; reads = cond_binary reads; deep = deep }) h
after_test_sound n self s test all a (t ∷ ts) y split reads deep h = choose_sound n self s test all a t.kind (place_of t) ts y split reads deep h

cond_sound : (n : ℕ) (self : Reader) → Sound n self → (ts : List Token) (y : Expr × List Token) → cond_from self n ts ≡ Some y → Found cond (suc n) ts y
cond_sound n self s ts y h = let r : (x : Expr × List Token) × (level self n 10 ts ≡ Some x) × (after_test self n x.0 x.1 ≡ Some y) = bind_some (level self n 10 ts) (λ x. after_test self n x.0 x.1) y h in let found : Found (binary 10) (suc n) ts r.0 = level_sound n self s 10 ts r.0 r.1 in after_test_sound n self s r.0.0 ts found.front r.0.1 y found.split found.reads found.deep r.2

assign_at_sound : (n : ℕ) (self : Reader) → Sound n self → (place : Expr) (all a : List Token) (t : Token) (ts : List Token) (y : Expr × List Token) (o : Option (Option BinaryOp)) → assignment_at t.kind ≡ o → all ≡ a ++ t ∷ ts → Reads cond a place → depth place ≤ suc n → assign_at self n place t ts o ≡ Some y → Found assign (suc n) all y
assign_at_sound n self s place all a t ts y (Some op) is split reads deep h = let form : (is_unary place ≡ true) × ((if nat_le (depth place) n then (self assign ts >>= λ x. Some (Assign op place x.0 t.at, x.1)) else None) ≡ Some y) = guard_some _ _ y h in let small : (nat_le (depth place) n ≡ true) × ((self assign ts >>= λ x. Some (Assign op place x.0 t.at, x.1)) ≡ Some y) = guard_some _ _ y form.1 in let r : (x : Expr × List Token) × (self assign ts ≡ Some x) × (Some (Assign op place x.0 t.at, x.1) ≡ Some y) = bind_some _ _ y small.1 in let b : Found assign n ts r.0 = s assign ts r.0 r.1 in let g : (z : Punct) × (t.kind ≡ kinds.Sign z) × (assignment_of z ≡ Some op) = sign_is assignment_of t.kind op is in is_found (record { front = a ++ sign g.0 (place_of t) ∷ b.front; split = joins all a ts b.front r.0.1 (sign g.0 (place_of t)) (signed all a ts t (kinds.Sign g.0) split g.1) b.split; reads = assign_to g.0 (place_of t) g.2 (lower reads form.0) b.reads; deep = omega (arith, depth_assign op place r.0.0 t.at, b.deep, leb-true (depth place) n small.0) }) r.2
assign_at_sound n self s place all a t ts y None is split reads deep h = is_found (record { front = a; split = split; reads = assign_cond reads; deep = deep }) h

after_place_sound : (n : ℕ) (self : Reader) → Sound n self → (place : Expr) (all a ts : List Token) (y : Expr × List Token) → all ≡ a ++ ts → Reads cond a place → depth place ≤ suc n → after_place self n place ts ≡ Some y → Found assign (suc n) all y
after_place_sound n self s place all a [] y split reads deep h = is_found (record { front = a; split = split; reads = assign_cond reads; deep = deep }) h
after_place_sound n self s place all a (t ∷ ts) y split reads deep h = assign_at_sound n self s place all a t ts y (assignment_at t.kind) refl split reads deep h

assign_sound : (n : ℕ) (self : Reader) → Sound n self → (ts : List Token) (y : Expr × List Token) → assign_from self n ts ≡ Some y → Found assign (suc n) ts y
assign_sound n self s ts y h = let r : (x : Expr × List Token) × (cond_from self n ts ≡ Some x) × (after_place self n x.0 x.1 ≡ Some y) = bind_some (cond_from self n ts) (λ x. after_place self n x.0 x.1) y h in let found : Found cond (suc n) ts r.0 = cond_sound n self s ts r.0 r.1 in after_place_sound n self s r.0.0 ts found.front r.0.1 y found.split found.reads found.deep r.2

comma_from_sound : (n : ℕ) (self : Reader) → Sound n self → (ts : List Token) (y : Expr × List Token) → comma_from self n ts ≡ Some y → Found comma (suc n) ts y
comma_from_sound n self s ts y h = let r : (x : Expr × List Token) × (assign_from self n ts ≡ Some x) × (commas self n (suc n) x.0 x.1 ≡ Some y) = bind_some (assign_from self n ts) (λ x. commas self n (suc n) x.0 x.1) y h in let found : Found assign (suc n) ts r.0 = assign_sound n self s ts r.0 r.1 in commas_sound n self s (suc n) r.0.0 ts found.front r.0.1 y found.split (comma_assign found.reads) found.deep r.2

pub sound : (n : ℕ) → Sound n (read n)
sound zero l ts y h = absurd (none_is h)
sound (suc n) comma ts y h = comma_from_sound n (read n) (sound n) ts y h
sound (suc n) assign ts y h = assign_sound n (read n) (sound n) ts y h
sound (suc n) cond ts y h = cond_sound n (read n) (sound n) ts y h
sound (suc n) (binary k) ts y h = level_sound n (read n) (sound n) k ts y h
sound (suc n) postfix ts y h = postfix_sound n (read n) (sound n) ts y h
sound (suc n) primary ts y h = primary_sound n (read n) (sound n) ts y h
