-- What is read of items is in the grammar.
use Rattle.std.proofs.Common.{◌≡◌, ◌≤◌, ◌++◌, ℕ, zero, suc, Bool, true, false, List, [], ◌∷◌, map, Option, Some, None, refl, sym, ap, ◌∙◌, arith, subst, length}
use Rattle.std.proofs.lemmas.List.{append_assoc}
use Rattle.c_lexer.specs.declared.token.Token.{Token}
use Rattle.c_lexer.specs.declared.token.TokenKind.{TokenKind}
use Rattle.c_lexer.specs.declared.token.TokenKind.TheVariants as kinds
use Rattle.c_lexer.specs.declared.token.Keyword.TheVariants as words
use Rattle.c_lexer.specs.declared.token.Punct.TheVariants as signs
use Rattle.c_syntax.specs.Sizes.{expression_depth, global_depth, item_depth, body_depth, or_zero, greatest}
use Rattle.c_syntax.specs.declared.tree.Expr.{Expr}
use Rattle.c_syntax.specs.declared.tree.Ty.{Ty}
use Rattle.c_syntax.specs.declared.tree.Stmt.{Stmt}
use Rattle.c_syntax.specs.declared.tree.Shape.TheVariants as shapes
use Rattle.c_syntax.specs.declared.tree.GlobalVar.{GlobalVar}
use Rattle.c_syntax.specs.declared.tree.Param.{Param}
use Rattle.c_syntax.specs.declared.tree.TopItem.{TopItem}
use Rattle.c_syntax.specs.declared.tree.TopItem.TheVariants as items
use Rattle.c_grammar.specs.declared.specifiers.Specifiers.{Specifiers}
use Rattle.c_grammar.specs.Places.{Place, mark, sign, word}
use Rattle.c_grammar.specs.Expressions.{cond, Reads}
use Rattle.c_grammar.specs.Specifiers.{no_words, Spells, none, is_value, is_local, is_function, type_of}
use Rattle.c_grammar.specs.Lists.{Separated, one}
use Rattle.c_grammar.specs.Lists.Separated.{more as further}
use Rattle.c_grammar.specs.Statements.{ReadsBody}
use Rattle.c_grammar.specs.Items.{ReadsLength, no_length, a_length, LastComma, no_comma, a_comma, ReadsGlobal, scalar, scalar_valued, array, array_valued, first_at, ReadsParam, named, unnamed, ReadsParams, nothing, void, params, all_named, ReadsItem, globals, prototype, function, ReadsItems, end, item}
use Rattle.c_grammar.specs.ReadExpressions.{Read, ◌>>=◌, read, after, is_close_paren, is_close_bracket}
use Rattle.c_grammar.specs.ReadStatements.{is_opening_brace, specifiers, separated, is_semicolon, is_close_brace, statement}
use Rattle.c_grammar.specs.ReadItems.{body_from, brace_at, ends_here, next_value, after_value, values, length_at, closes_here, array_length, given_at, after_array, global_at, global_named, global_of, global_from, global, param_at, param_named, param, params_at, params_from, function_at, function_end, function_of, function_from, globals_from, item_at, item_behind, item_named, item_of, item_from, program_items}
use Rattle.c_grammar.proofs.Options.{some_is, none_is, bind_some, bind_bind, guard_some, place_of, after_mark, closes, joins}
use Rattle.c_grammar.proofs.Sound.{sound as expression_sound, Found, close_paren_is, close_bracket_is}
use Rattle.c_grammar.proofs.SoundLists.{FoundOf, SoundPart, found_is, semicolon_is, sizes, separated_sound, FoundWords, words_found}
use Rattle.c_grammar.proofs.SoundStatements.{FoundBody, body_sound, sound as statement_sound}
use Rattle.c_grammar.proofs.CompleteLists.{spells_first}
use Rattle.c_grammar.proofs.CompleteItems.{nothing_of, first_with}

close_brace_is : (kind : TokenKind) → is_close_brace kind ≡ true → kind ≡ kinds.Sign signs.CloseBrace
close_brace_is (kinds.Sign signs.CloseBrace) h = refl
close_brace_is _ h = absurd cc

opening_brace_is : (kind : TokenKind) → is_opening_brace kind ≡ true → kind ≡ kinds.Sign signs.OpenBrace
opening_brace_is (kinds.Sign signs.OpenBrace) h = refl
opening_brace_is _ h = absurd cc

-- initialisers, read up to their brace
record FoundValues (lim : ℕ) (ts : List Token) (x : List Expr × List Token) : Type 0 where
  front : List Token
  last : List Token
  close : Place
  split : ts ≡ front ++ (last ++ sign signs.CloseBrace close ∷ x.1)
  reads : Separated (Reads cond) front x.0
  comma : LastComma last
  deep : greatest (map expression_depth x.0) ≤ lim

values_is : (lim : ℕ) → {ts : List Token} {x y : List Expr × List Token} → FoundValues lim ts x → Some x ≡ Some y → FoundValues lim ts y
values_is lim {ts} f h = subst (λ z. FoundValues lim ts z) (some_is h) f

abbrev SoundValues : ℕ → (List Token → Read (List Expr)) → Type 0
SoundValues lim go = (ts : List Token) (y : List Expr × List Token) → go ts ≡ Some y → FoundValues lim ts y

brace_sound : (lim : ℕ) → (go : List Token → Read (List Expr)) → SoundValues lim go → (e : Expr) (all a : List Token) (b : Bool) (p : Place) (ts : List Token) (y : List Expr × List Token) → all ≡ a ++ sign signs.Comma p ∷ ts → Reads cond a e → expression_depth e ≤ lim → brace_at go e b ts ≡ Some y → FoundValues lim all y
brace_sound lim go s e all a true p ts y split d deep h = let r : (rest : List Token) × (after is_close_brace ts ≡ Some rest) × (Some (e ∷ [], rest) ≡ Some y) = bind_some (after is_close_brace ts) (λ rest. Some (e ∷ [], rest)) y h in let c : (q : Place) × (ts ≡ sign signs.CloseBrace q ∷ r.0) = after_mark is_close_brace (kinds.Sign signs.CloseBrace) close_brace_is ts r.0 r.1 in values_is lim (record { front = a; last = sign signs.Comma p ∷ []; close = c.0; split = split ∙ ap (λ us. a ++ sign signs.Comma p ∷ us) c.1; reads = one d; comma = a_comma p; deep = omega (arith, deep) }) r.2
brace_sound lim go s e all a false p ts y split d deep h = let r : (x : List Expr × List Token) × (go ts ≡ Some x) × (Some (e ∷ x.0, x.1) ≡ Some y) = bind_some (go ts) (λ x. Some (e ∷ x.0, x.1)) y h in let f : FoundValues lim ts r.0 = s ts r.0 r.1 in values_is lim (record { front = a ++ sign signs.Comma p ∷ f.front; last = f.last; close = f.close; split = joins all a ts f.front (f.last ++ sign signs.CloseBrace f.close ∷ r.0.1) (sign signs.Comma p) split f.split; reads = further p d f.reads; comma = f.comma; deep = omega (arith, deep, f.deep) }) r.2

next_sound : (lim : ℕ) → (go : List Token → Read (List Expr)) → SoundValues lim go → (e : Expr) (all a : List Token) (kind : TokenKind) (p : Place) (ts : List Token) (y : List Expr × List Token) → all ≡ a ++ mark kind p ∷ ts → Reads cond a e → expression_depth e ≤ lim → next_value go e kind ts ≡ Some y → FoundValues lim all y
next_sound lim go s e all a (kinds.Sign signs.Comma) p ts y split d deep h = brace_sound lim go s e all a (ends_here ts) p ts y split d deep h
next_sound lim go s e all a (kinds.Sign signs.CloseBrace) p ts y split d deep h = values_is lim (record { front = a; last = []; close = p; split = split; reads = one d; comma = no_comma; deep = omega (arith, deep) }) h
next_sound lim go s e all a _ p ts y split d deep h = absurd (none_is h)

after_value_sound : (lim : ℕ) → (go : List Token → Read (List Expr)) → SoundValues lim go → (e : Expr) (all a ts : List Token) (y : List Expr × List Token) → all ≡ a ++ ts → Reads cond a e → expression_depth e ≤ lim → after_value go e ts ≡ Some y → FoundValues lim all y
after_value_sound lim go s e all a [] y split d deep h = absurd (none_is h)
after_value_sound lim go s e all a (t ∷ ts) y split d deep h = next_sound lim go s e all a t.kind (place_of t) ts y split d deep h

values_sound : (lim : ℕ) → (f : ℕ) → SoundValues lim (values lim f)
values_sound lim zero ts y h = absurd (none_is h)
values_sound lim (suc f) ts y h = let r : (x : Expr × List Token) × (read lim cond ts ≡ Some x) × (after_value (values lim f) x.0 x.1 ≡ Some y) = bind_some (read lim cond ts) (λ x. after_value (values lim f) x.0 x.1) y h in let b : Found cond lim ts r.0 = expression_sound lim cond ts r.0 r.1 in after_value_sound lim (values lim f) (values_sound lim f) r.0.0 ts b.front r.0.1 y b.split b.reads b.deep r.2

-- a length, read up to its bracket
record FoundLength (lim : ℕ) (ts : List Token) (x : Option Expr × List Token) : Type 0 where
  front : List Token
  close : Place
  split : ts ≡ front ++ sign signs.CloseBracket close ∷ x.1
  reads : ReadsLength front x.0
  deep : or_zero expression_depth x.0 ≤ lim

length_is : (lim : ℕ) → {ts : List Token} {x y : Option Expr × List Token} → FoundLength lim ts x → Some x ≡ Some y → FoundLength lim ts y
length_is lim {ts} f h = subst (λ z. FoundLength lim ts z) (some_is h) f

length_at_sound : (lim : ℕ) → (b : Bool) (ts : List Token) (y : Option Expr × List Token) → length_at lim b ts ≡ Some y → FoundLength lim ts y
length_at_sound lim true ts y h = let r : (rest : List Token) × (after is_close_bracket ts ≡ Some rest) × (Some (None, rest) ≡ Some y) = bind_some (after is_close_bracket ts) (λ rest. Some (None, rest)) y h in let c : (q : Place) × (ts ≡ sign signs.CloseBracket q ∷ r.0) = after_mark is_close_bracket (kinds.Sign signs.CloseBracket) close_bracket_is ts r.0 r.1 in length_is lim (record { front = []; close = c.0; split = c.1; reads = no_length; deep = omega arith }) r.2
length_at_sound lim false ts y h = let r : (x : Expr × List Token) × (read lim cond ts ≡ Some x) × ((after is_close_bracket x.1 >>= λ rest. Some (Some x.0, rest)) ≡ Some y) = bind_some (read lim cond ts) (λ x. after is_close_bracket x.1 >>= λ rest. Some (Some x.0, rest)) y h in let q : (rest : List Token) × (after is_close_bracket r.0.1 ≡ Some rest) × (Some (Some r.0.0, rest) ≡ Some y) = bind_some (after is_close_bracket r.0.1) (λ rest. Some (Some r.0.0, rest)) y r.2 in let b : Found cond lim ts r.0 = expression_sound lim cond ts r.0 r.1 in let c : (z : Place) × (r.0.1 ≡ sign signs.CloseBracket z ∷ q.0) = after_mark is_close_bracket (kinds.Sign signs.CloseBracket) close_bracket_is r.0.1 q.0 q.1 in length_is lim (record { front = b.front; close = c.0; split = b.split ∙ ap (λ us. b.front ++ us) c.1; reads = a_length b.reads; deep = b.deep }) q.2

abbrev GlobalFound : ℕ → Ty → Bool → List Token → GlobalVar × List Token → Type 0
GlobalFound lim ty c ts y = FoundOf (ReadsGlobal ty c) global_depth lim ts y

bare_array : (lim : ℕ) → (ty : Ty) (c : Bool) (m : ℕ) (p q : Place) (ts : List Token) (l : Option Expr × List Token) → FoundLength lim ts l → GlobalFound lim ty c (mark (kinds.Name m) p ∷ sign signs.OpenBracket q ∷ ts) (global_of ty c m p.at (shapes.Array l.0) [], l.1)
bare_array lim ty c m p q ts l f = record { front = mark (kinds.Name m) p ∷ sign signs.OpenBracket q ∷ (f.front ++ sign signs.CloseBracket f.close ∷ []); split = ap (λ us. mark (kinds.Name m) p ∷ sign signs.OpenBracket q ∷ us) (closes ts f.front (sign signs.CloseBracket f.close ∷ l.1) l.1 (sign signs.CloseBracket f.close) f.split refl); reads = array m p q f.close f.reads; deep = omega (arith, f.deep) }

array_at_sound : (lim : ℕ) → (ty : Ty) (c : Bool) (m : ℕ) (p q : Place) (ts : List Token) (l : Option Expr) (kind : TokenKind) (r : Place) (us : List Token) (y : GlobalVar × List Token) → FoundLength lim ts (l, mark kind r ∷ us) → (given_at lim kind (mark kind r) us >>= λ x. Some (global_of ty c m p.at (shapes.Array l) x.0, x.1)) ≡ Some y → GlobalFound lim ty c (mark (kinds.Name m) p ∷ sign signs.OpenBracket q ∷ ts) y
array_at_sound lim ty c m p q ts l (kinds.Sign signs.Equal) r us y f h = let a : (z : List Token) × (after is_opening_brace us ≡ Some z) × ((values lim (length z) z >>= λ x. Some (global_of ty c m p.at (shapes.Array l) x.0, x.1)) ≡ Some y) = bind_some (after is_opening_brace us) (λ z. values lim (length z) z >>= λ x. Some (global_of ty c m p.at (shapes.Array l) x.0, x.1)) y (sym (bind_bind (after is_opening_brace us) (λ z. values lim (length z) z) (λ x. Some (global_of ty c m p.at (shapes.Array l) x.0, x.1))) ∙ h) in let v : (x : List Expr × List Token) × (values lim (length a.0) a.0 ≡ Some x) × (Some (global_of ty c m p.at (shapes.Array l) x.0, x.1) ≡ Some y) = bind_some (values lim (length a.0) a.0) (λ x. Some (global_of ty c m p.at (shapes.Array l) x.0, x.1)) y a.2 in let o : (z : Place) × (us ≡ sign signs.OpenBrace z ∷ a.0) = after_mark is_opening_brace (kinds.Sign signs.OpenBrace) opening_brace_is us a.0 a.1 in let g : FoundValues lim a.0 v.0 = values_sound lim (length a.0) a.0 v.0 v.1 in let tail : List Token = g.front ++ (g.last ++ sign signs.CloseBrace g.close ∷ []) in let inner : a.0 ≡ tail ++ v.0.1 = g.split ∙ ap (λ us. g.front ++ us) (sym (append_assoc g.last (sign signs.CloseBrace g.close ∷ []) v.0.1)) ∙ sym (append_assoc g.front (g.last ++ sign signs.CloseBrace g.close ∷ []) v.0.1) in found_is (record { front = mark (kinds.Name m) p ∷ sign signs.OpenBracket q ∷ (f.front ++ sign signs.CloseBracket f.close ∷ sign signs.Equal r ∷ sign signs.OpenBrace o.0 ∷ tail); split = ap (λ us. mark (kinds.Name m) p ∷ sign signs.OpenBracket q ∷ us) (joins ts f.front (sign signs.Equal r ∷ us) (sign signs.Equal r ∷ sign signs.OpenBrace o.0 ∷ tail) v.0.1 (sign signs.CloseBracket f.close) f.split (ap (λ us. sign signs.Equal r ∷ us) (o.1 ∙ ap (λ us. sign signs.OpenBrace o.0 ∷ us) inner))); reads = array_valued m p q f.close r o.0 g.close f.reads g.reads g.comma; deep = omega (arith, f.deep, g.deep) }) v.2
array_at_sound lim ty c m p q ts l kind r us y f h = found_is (bare_array lim ty c m p q ts (l, mark kind r ∷ us) f) h

after_array_sound : (lim : ℕ) → (ty : Ty) (c : Bool) (m : ℕ) (p q : Place) (ts : List Token) (l : Option Expr) (us : List Token) (y : GlobalVar × List Token) → FoundLength lim ts (l, us) → after_array lim (global_of ty c m p.at) l us ≡ Some y → GlobalFound lim ty c (mark (kinds.Name m) p ∷ sign signs.OpenBracket q ∷ ts) y
after_array_sound lim ty c m p q ts l [] y f h = found_is (bare_array lim ty c m p q ts (l, []) f) h
after_array_sound lim ty c m p q ts l (t ∷ us) y f h = array_at_sound lim ty c m p q ts l t.kind (place_of t) us y f h

bare_scalar : (lim : ℕ) → (ty : Ty) (c : Bool) (m : ℕ) (p : Place) (ts : List Token) → GlobalFound lim ty c (mark (kinds.Name m) p ∷ ts) (global_of ty c m p.at shapes.Scalar [], ts)
bare_scalar lim ty c m p ts = record { front = mark (kinds.Name m) p ∷ []; split = refl; reads = scalar m p; deep = omega arith }

global_at_sound : (lim : ℕ) → (ty : Ty) (c : Bool) (m : ℕ) (p : Place) (kind : TokenKind) (q : Place) (ts : List Token) (y : GlobalVar × List Token) → global_at lim (global_of ty c m p.at) kind (mark kind q) ts ≡ Some y → GlobalFound lim ty c (mark (kinds.Name m) p ∷ mark kind q ∷ ts) y
global_at_sound lim ty c m p (kinds.Sign signs.Equal) q ts y h = let r : (x : Expr × List Token) × (read lim cond ts ≡ Some x) × (Some (global_of ty c m p.at shapes.Scalar (x.0 ∷ []), x.1) ≡ Some y) = bind_some (read lim cond ts) (λ x. Some (global_of ty c m p.at shapes.Scalar (x.0 ∷ []), x.1)) y (sym (bind_bind (read lim cond ts) (λ x. Some (x.0 ∷ [], x.1)) (λ x. Some (global_of ty c m p.at shapes.Scalar x.0, x.1))) ∙ h) in let b : Found cond lim ts r.0 = expression_sound lim cond ts r.0 r.1 in found_is (record { front = mark (kinds.Name m) p ∷ sign signs.Equal q ∷ b.front; split = ap (λ us. mark (kinds.Name m) p ∷ sign signs.Equal q ∷ us) b.split; reads = scalar_valued m p q b.reads; deep = omega (arith, b.deep) }) r.2
global_at_sound lim ty c m p (kinds.Sign signs.OpenBracket) q ts y h = let r : (x : Option Expr × List Token) × (array_length lim ts ≡ Some x) × (after_array lim (global_of ty c m p.at) x.0 x.1 ≡ Some y) = bind_some (array_length lim ts) (λ x. after_array lim (global_of ty c m p.at) x.0 x.1) y h in after_array_sound lim ty c m p q ts r.0.0 r.0.1 y (length_at_sound lim (closes_here ts) ts r.0 r.1) r.2
global_at_sound lim ty c m p kind q ts y h = found_is (bare_scalar lim ty c m p (mark kind q ∷ ts)) h

global_named_sound : (lim : ℕ) → (ty : Ty) (c : Bool) (m : ℕ) (p : Place) (ts : List Token) (y : GlobalVar × List Token) → global_named lim (global_of ty c m p.at) ts ≡ Some y → GlobalFound lim ty c (mark (kinds.Name m) p ∷ ts) y
global_named_sound lim ty c m p [] y h = found_is (bare_scalar lim ty c m p []) h
global_named_sound lim ty c m p (t ∷ ts) y h = global_at_sound lim ty c m p t.kind (place_of t) ts y h

global_from_sound : (lim : ℕ) → (ty : Ty) (c : Bool) (kind : TokenKind) (p : Place) (ts : List Token) (y : GlobalVar × List Token) → global_from lim ty c kind p.at ts ≡ Some y → GlobalFound lim ty c (mark kind p ∷ ts) y
global_from_sound lim ty c (kinds.Name m) p ts y h = global_named_sound lim ty c m p ts y h
global_from_sound lim ty c _ p ts y h = absurd (none_is h)

pub global_sound : (lim : ℕ) → (ty : Ty) (c : Bool) → SoundPart (ReadsGlobal ty c) (global lim ty c) global_depth lim
global_sound lim ty c [] y h = absurd (none_is h)
global_sound lim ty c (t ∷ ts) y h = global_from_sound lim ty c t.kind (place_of t) ts y h

-- a parameter, whose specifiers are the front of the tokens
bare_param : (all front rest : List Token) (s : Specifiers) → all ≡ front ++ rest → Spells front s → is_local s ≡ true → first_at all ≡ first_at front → FoundOf ReadsParam nothing_of 0 all (record { ty = type_of s; is_const = false; name = None; at = first_at all }, rest)
bare_param all front rest s split d i e = record { front = front; split = split; reads = subst (λ at. ReadsParam front (record { ty = type_of s; is_const = false; name = None; at = at })) (sym e) (unnamed d i); deep = omega arith }

param_at_sound : (all front : List Token) (s : Specifiers) (kind : TokenKind) (q : Place) (rest : List Token) (y : Param × List Token) → all ≡ front ++ mark kind q ∷ rest → Spells front s → is_local s ≡ true → first_at all ≡ first_at front → param_at s (first_at all) kind (mark kind q) rest ≡ Some y → FoundOf ReadsParam nothing_of 0 all y
param_at_sound all front s (kinds.Name n) q rest y split d i e h = found_is (record { front = front ++ mark (kinds.Name n) q ∷ []; split = closes all front (mark (kinds.Name n) q ∷ rest) rest (mark (kinds.Name n) q) split refl; reads = named n q d i; deep = omega arith }) h
param_at_sound all front s kind q rest y split d i e h = found_is (bare_param all front (mark kind q ∷ rest) s split d i e) h

param_named_sound : (all front : List Token) (s : Specifiers) (rest : List Token) (y : Param × List Token) → all ≡ front ++ rest → Spells front s → is_local s ≡ true → first_at all ≡ first_at front → param_named s (first_at all) rest ≡ Some y → FoundOf ReadsParam nothing_of 0 all y
param_named_sound all front s [] y split d i e h = found_is (bare_param all front [] s split d i e) h
param_named_sound all front s (t ∷ ts) y split d i e h = param_at_sound all front s t.kind (place_of t) ts y split d i e h

pub param_sound : SoundPart ReadsParam param nothing_of 0
param_sound ts y h = let s : Specifiers × List Token = specifiers no_words ts in let f : FoundWords no_words ts s = words_found ts no_words in let g : (is_local s.0 ≡ true) × (param_named s.0 (first_at ts) s.1 ≡ Some y) = guard_some (is_local s.0) (param_named s.0 (first_at ts) s.1) y h in let d : Spells f.front s.0 = f.extends [] none in param_named_sound ts f.front s.0 s.1 y f.split d g.0 (ap first_at f.split ∙ first_with f.front s.1 (spells_first f.front s.0 is_local d g.0 refl)) g.1

-- parameters, read up to their parenthesis
record FoundParams (ts : List Token) (x : List Param × List Token) : Type 0 where
  front : List Token
  close : Place
  split : ts ≡ front ++ sign signs.CloseParen close ∷ x.1
  reads : ReadsParams front x.0

params_is : {ts : List Token} {x y : List Param × List Token} → FoundParams ts x → Some x ≡ Some y → FoundParams ts y
params_is {ts} f h = subst (λ z. FoundParams ts z) (some_is h) f

list_sound : (ts : List Token) (y : List Param × List Token) → (separated param (length ts) ts >>= λ x. after is_close_paren x.1 >>= λ rest. Some (x.0, rest)) ≡ Some y → FoundParams ts y
list_sound ts y h = let r : (x : List Param × List Token) × (separated param (length ts) ts ≡ Some x) × ((after is_close_paren x.1 >>= λ rest. Some (x.0, rest)) ≡ Some y) = bind_some (separated param (length ts) ts) (λ x. after is_close_paren x.1 >>= λ rest. Some (x.0, rest)) y h in let q : (rest : List Token) × (after is_close_paren r.0.1 ≡ Some rest) × (Some (r.0.0, rest) ≡ Some y) = bind_some (after is_close_paren r.0.1) (λ rest. Some (r.0.0, rest)) y r.2 in let b : FoundOf (Separated ReadsParam) (sizes nothing_of) 0 ts r.0 = separated_sound ReadsParam param nothing_of 0 param_sound (length ts) ts r.0 r.1 in let c : (z : Place) × (r.0.1 ≡ sign signs.CloseParen z ∷ q.0) = after_mark is_close_paren (kinds.Sign signs.CloseParen) close_paren_is r.0.1 q.0 q.1 in params_is (record { front = b.front; close = c.0; split = b.split ∙ ap (λ us. b.front ++ us) c.1; reads = params b.reads }) q.2

params_at_sound : (kind : TokenKind) (p : Place) (ts : List Token) (y : List Param × List Token) → params_at kind (mark kind p) ts ≡ Some y → FoundParams (mark kind p ∷ ts) y
params_at_sound (kinds.Sign signs.CloseParen) p ts y h = params_is (record { front = []; close = p; split = refl; reads = nothing }) h
params_at_sound (kinds.Word words.Void) p ts y h = let q : (rest : List Token) × (after is_close_paren ts ≡ Some rest) × (Some ([], rest) ≡ Some y) = bind_some (after is_close_paren ts) (λ rest. Some ([], rest)) y h in let c : (z : Place) × (ts ≡ sign signs.CloseParen z ∷ q.0) = after_mark is_close_paren (kinds.Sign signs.CloseParen) close_paren_is ts q.0 q.1 in params_is (record { front = word words.Void p ∷ []; close = c.0; split = ap (λ us. word words.Void p ∷ us) c.1; reads = void p }) q.2
params_at_sound kind p ts y h = list_sound (mark kind p ∷ ts) y h

params_sound : (ts : List Token) (y : List Param × List Token) → params_from ts ≡ Some y → FoundParams ts y
params_sound [] y h = absurd (none_is h)
params_sound (t ∷ ts) y h = params_at_sound t.kind (place_of t) ts y h

abbrev ItemFound : ℕ → List Token → TopItem × List Token → Type 0
ItemFound lim ts y = FoundOf ReadsItem item_depth lim ts y

-- the parts of a body, read up to its brace
record FoundBlock (lim : ℕ) (ts : List Token) (y : List Stmt × List Token) : Type 0 where
  front : List Token
  close : Place
  split : ts ≡ front ++ sign signs.CloseBrace close ∷ y.1
  reads : ReadsBody front y.0
  deep : body_depth y.0 ≤ lim

body_from_sound : (lim : ℕ) (ts : List Token) (y : List Stmt × List Token) → body_from lim ts ≡ Some y → FoundBlock lim ts y
body_from_sound zero ts y h = absurd (none_is h)
body_from_sound (suc m) ts y h = let b : FoundBody m ts y = body_sound m (statement m) (statement_sound m) (suc (length ts)) ts y h in record { front = b.front; close = b.close; split = b.split; reads = b.reads; deep = omega (arith, b.deep) }

-- behind the parameters of a function
function_at_sound : (lim : ℕ) → (all a : List Token) (s : Specifiers) (n : ℕ) (p q : Place) (ts : List Token) (ps : List Param) (kind : TokenKind) (t : Place) (us : List Token) (y : TopItem × List Token) → all ≡ a ++ mark (kinds.Name n) p ∷ sign signs.OpenParen q ∷ ts → Spells a s → is_function s ≡ true → FoundParams ts (ps, mark kind t ∷ us) → function_at lim (function_of s n p.at ps) ps kind us ≡ Some y → ItemFound lim all y
function_at_sound lim all a s n p q ts ps (kinds.Sign signs.Semicolon) t us y split d i f h = found_is (record { front = a ++ mark (kinds.Name n) p ∷ sign signs.OpenParen q ∷ (f.front ++ sign signs.CloseParen f.close ∷ sign signs.Semicolon t ∷ []); split = joins all a (sign signs.OpenParen q ∷ ts) (sign signs.OpenParen q ∷ (f.front ++ sign signs.CloseParen f.close ∷ sign signs.Semicolon t ∷ [])) us (mark (kinds.Name n) p) split (ap (λ us. sign signs.OpenParen q ∷ us) (joins ts f.front (sign signs.Semicolon t ∷ us) (sign signs.Semicolon t ∷ []) us (sign signs.CloseParen f.close) f.split refl)); reads = prototype n p q f.close t d i f.reads; deep = omega arith }) h
function_at_sound lim all a s n p q ts ps (kinds.Sign signs.OpenBrace) t us y split d i f h = let g : (all_named ps ≡ true) × ((body_from lim us >>= λ x. Some (items.Function (function_of s n p.at ps (Some x.0)), x.1)) ≡ Some y) = guard_some (all_named ps) (body_from lim us >>= λ x. Some (items.Function (function_of s n p.at ps (Some x.0)), x.1)) y h in let r : (x : List Stmt × List Token) × (body_from lim us ≡ Some x) × (Some (items.Function (function_of s n p.at ps (Some x.0)), x.1) ≡ Some y) = bind_some (body_from lim us) (λ x. Some (items.Function (function_of s n p.at ps (Some x.0)), x.1)) y g.1 in let b : FoundBlock lim us r.0 = body_from_sound lim us r.0 r.1 in let tail : List Token = sign signs.OpenBrace t ∷ (b.front ++ sign signs.CloseBrace b.close ∷ []) in found_is (record { front = a ++ mark (kinds.Name n) p ∷ sign signs.OpenParen q ∷ (f.front ++ sign signs.CloseParen f.close ∷ tail); split = joins all a (sign signs.OpenParen q ∷ ts) (sign signs.OpenParen q ∷ (f.front ++ sign signs.CloseParen f.close ∷ tail)) r.0.1 (mark (kinds.Name n) p) split (ap (λ us. sign signs.OpenParen q ∷ us) (joins ts f.front (sign signs.OpenBrace t ∷ us) tail r.0.1 (sign signs.CloseParen f.close) f.split (ap (λ us. sign signs.OpenBrace t ∷ us) (closes us b.front (sign signs.CloseBrace b.close ∷ r.0.1) r.0.1 (sign signs.CloseBrace b.close) b.split refl)))); reads = function n p q f.close t b.close d i f.reads g.0 b.reads; deep = omega (arith, b.deep) }) r.2
function_at_sound lim all a s n p q ts ps _ t us y split d i f h = absurd (none_is h)

function_end_sound : (lim : ℕ) → (all a : List Token) (s : Specifiers) (n : ℕ) (p q : Place) (ts : List Token) (ps : List Param) (us : List Token) (y : TopItem × List Token) → all ≡ a ++ mark (kinds.Name n) p ∷ sign signs.OpenParen q ∷ ts → Spells a s → is_function s ≡ true → FoundParams ts (ps, us) → function_end lim (function_of s n p.at ps) ps us ≡ Some y → ItemFound lim all y
function_end_sound lim all a s n p q ts ps [] y split d i f h = absurd (none_is h)
function_end_sound lim all a s n p q ts ps (t ∷ us) y split d i f h = function_at_sound lim all a s n p q ts ps t.kind (place_of t) us y split d i f h

function_sound : (lim : ℕ) → (all a : List Token) (s : Specifiers) (n : ℕ) (p q : Place) (ts : List Token) (y : TopItem × List Token) → all ≡ a ++ mark (kinds.Name n) p ∷ sign signs.OpenParen q ∷ ts → Spells a s → function_from lim s n p.at ts ≡ Some y → ItemFound lim all y
function_sound lim all a s n p q ts y split d h = let g : (is_function s ≡ true) × ((params_from ts >>= λ x. function_end lim (function_of s n p.at x.0) x.0 x.1) ≡ Some y) = guard_some (is_function s) (params_from ts >>= λ x. function_end lim (function_of s n p.at x.0) x.0 x.1) y h in let r : (x : List Param × List Token) × (params_from ts ≡ Some x) × (function_end lim (function_of s n p.at x.0) x.0 x.1 ≡ Some y) = bind_some (params_from ts) (λ x. function_end lim (function_of s n p.at x.0) x.0 x.1) y g.1 in function_end_sound lim all a s n p q ts r.0.0 r.0.1 y split d g.0 (params_sound ts r.0 r.1) r.2

globals_sound : (lim : ℕ) → (all a : List Token) (s : Specifiers) (ts : List Token) (y : TopItem × List Token) → all ≡ a ++ ts → Spells a s → globals_from lim s ts ≡ Some y → ItemFound lim all y
globals_sound lim all a s ts y split d h = let g : (is_value s ≡ true) × ((separated (global lim (type_of s) s.is_const) (length ts) ts >>= λ x. after is_semicolon x.1 >>= λ rest. Some (items.Globals x.0, rest)) ≡ Some y) = guard_some (is_value s) (separated (global lim (type_of s) s.is_const) (length ts) ts >>= λ x. after is_semicolon x.1 >>= λ rest. Some (items.Globals x.0, rest)) y h in let r : (x : List GlobalVar × List Token) × (separated (global lim (type_of s) s.is_const) (length ts) ts ≡ Some x) × ((after is_semicolon x.1 >>= λ rest. Some (items.Globals x.0, rest)) ≡ Some y) = bind_some (separated (global lim (type_of s) s.is_const) (length ts) ts) (λ x. after is_semicolon x.1 >>= λ rest. Some (items.Globals x.0, rest)) y g.1 in let q : (rest : List Token) × (after is_semicolon r.0.1 ≡ Some rest) × (Some (items.Globals r.0.0, rest) ≡ Some y) = bind_some (after is_semicolon r.0.1) (λ rest. Some (items.Globals r.0.0, rest)) y r.2 in let b : FoundOf (Separated (ReadsGlobal (type_of s) s.is_const)) (sizes global_depth) lim ts r.0 = separated_sound (ReadsGlobal (type_of s) s.is_const) (global lim (type_of s) s.is_const) global_depth lim (global_sound lim (type_of s) s.is_const) (length ts) ts r.0 r.1 in let c : (z : Place) × (r.0.1 ≡ sign signs.Semicolon z ∷ q.0) = after_mark is_semicolon (kinds.Sign signs.Semicolon) semicolon_is r.0.1 q.0 q.1 in found_is (record { front = a ++ (b.front ++ sign signs.Semicolon c.0 ∷ []); split = split ∙ ap (λ us. a ++ us) (closes ts b.front r.0.1 q.0 (sign signs.Semicolon c.0) b.split c.1) ∙ sym (append_assoc a (b.front ++ sign signs.Semicolon c.0 ∷ []) q.0); reads = globals c.0 d g.0 b.reads; deep = b.deep }) q.2

item_at_sound : (lim : ℕ) → (all a : List Token) (s : Specifiers) (n : ℕ) (p : Place) (kind : TokenKind) (q : Place) (us : List Token) (y : TopItem × List Token) → all ≡ a ++ mark (kinds.Name n) p ∷ mark kind q ∷ us → Spells a s → item_at lim s n (mark (kinds.Name n) p) kind (mark kind q) us ≡ Some y → ItemFound lim all y
item_at_sound lim all a s n p (kinds.Sign signs.OpenParen) q us y split d h = function_sound lim all a s n p q us y split d h
item_at_sound lim all a s n p kind q us y split d h = globals_sound lim all a s (mark (kinds.Name n) p ∷ mark kind q ∷ us) y split d h

item_behind_sound : (lim : ℕ) → (all a : List Token) (s : Specifiers) (n : ℕ) (p : Place) (us : List Token) (y : TopItem × List Token) → all ≡ a ++ mark (kinds.Name n) p ∷ us → Spells a s → item_behind lim s n (mark (kinds.Name n) p) us ≡ Some y → ItemFound lim all y
item_behind_sound lim all a s n p [] y split d h = absurd (none_is h)
item_behind_sound lim all a s n p (u ∷ us) y split d h = item_at_sound lim all a s n p u.kind (place_of u) us y split d h

item_named_sound : (lim : ℕ) → (all a : List Token) (s : Specifiers) (kind : TokenKind) (p : Place) (us : List Token) (y : TopItem × List Token) → all ≡ a ++ mark kind p ∷ us → Spells a s → item_named lim s kind (mark kind p) us ≡ Some y → ItemFound lim all y
item_named_sound lim all a s (kinds.Name n) p us y split d h = item_behind_sound lim all a s n p us y split d h
item_named_sound lim all a s _ p us y split d h = absurd (none_is h)

item_of_sound : (lim : ℕ) → (all a : List Token) (s : Specifiers) (us : List Token) (y : TopItem × List Token) → all ≡ a ++ us → Spells a s → item_of lim (s, us) ≡ Some y → ItemFound lim all y
item_of_sound lim all a s [] y split d h = absurd (none_is h)
item_of_sound lim all a s (t ∷ us) y split d h = item_named_sound lim all a s t.kind (place_of t) us y split d h

pub item_sound : (lim : ℕ) → SoundPart ReadsItem (item_from lim) item_depth lim
item_sound lim ts y h = let s : Specifiers × List Token = specifiers no_words ts in let f : FoundWords no_words ts s = words_found ts no_words in item_of_sound lim ts f.front s.0 s.1 y f.split (f.extends [] none) h

-- All the tokens spell these items.
pub record FoundItems (lim : ℕ) (ts : List Token) (is : List TopItem) : Type 0 where
  pub reads : ReadsItems ts is
  pub deep : greatest (map item_depth is) ≤ lim

pub items_sound : (lim : ℕ) → (f : ℕ) (ts : List Token) (is : List TopItem) → program_items lim f ts ≡ Some is → FoundItems lim ts is
items_sound lim f [] is h = subst (λ z. FoundItems lim [] z) (some_is h) (record { reads = end; deep = omega arith })
items_sound lim zero (t ∷ ts) is h = absurd (none_is h)
items_sound lim (suc f) (t ∷ ts) is h = let r : (x : TopItem × List Token) × (item_from lim (t ∷ ts) ≡ Some x) × ((program_items lim f x.1 >>= λ is. Some (x.0 ∷ is)) ≡ Some is) = bind_some (item_from lim (t ∷ ts)) (λ x. program_items lim f x.1 >>= λ is. Some (x.0 ∷ is)) is h in let q : (js : List TopItem) × (program_items lim f r.0.1 ≡ Some js) × (Some (r.0.0 ∷ js) ≡ Some is) = bind_some (program_items lim f r.0.1) (λ is. Some (r.0.0 ∷ is)) is r.2 in let b : FoundOf ReadsItem item_depth lim (t ∷ ts) r.0 = item_sound lim (t ∷ ts) r.0 r.1 in let g : FoundItems lim r.0.1 q.0 = items_sound lim f r.0.1 q.0 q.1 in subst (λ z. FoundItems lim (t ∷ ts) z) (some_is q.2) (record { reads = subst (λ us. ReadsItems us (r.0.0 ∷ q.0)) (sym b.split) (item b.reads g.reads); deep = omega (arith, b.deep, g.deep) })
