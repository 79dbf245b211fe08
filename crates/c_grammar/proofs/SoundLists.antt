-- What is read of lists with commas, specifiers and declarations is in the grammar.
use Rattle.std.proofs.Common.{◌≡◌, ◌≤◌, ◌++◌, ℕ, zero, suc, Bool, true, false, List, [], ◌∷◌, map, Option, Some, None, refl, sym, ap, ◌∙◌, arith, subst, length, inl, inr}
use Rattle.std.specs.Prelude.{◌⊎◌, if◌then◌else◌}
use Rattle.std.proofs.lemmas.List.{append_assoc, append-nil}
use Rattle.c_lexer.specs.declared.token.Token.{Token}
use Rattle.c_lexer.specs.declared.token.TokenKind.{TokenKind}
use Rattle.c_lexer.specs.declared.token.TokenKind.TheVariants as kinds
use Rattle.c_lexer.specs.declared.token.Keyword.{Keyword}
use Rattle.c_lexer.specs.declared.token.Punct.TheVariants as signs
use Rattle.c_syntax.specs.Sizes.{local_depth, greatest}
use Rattle.c_syntax.specs.declared.tree.Expr.{Expr}
use Rattle.c_syntax.specs.declared.tree.Ty.{Ty}
use Rattle.c_syntax.specs.declared.tree.Local.{Local}
use Rattle.c_grammar.specs.declared.specifiers.Specifiers.{Specifiers}
use Rattle.c_grammar.specs.Places.{Place, mark, sign, word}
use Rattle.c_grammar.specs.Expressions.{assign}
use Rattle.c_grammar.specs.Specifiers.{no_words, with_word, Spells, none, more, is_local, type_of}
use Rattle.c_grammar.specs.Lists.{Separated, one}
use Rattle.c_grammar.specs.Lists.Separated.{more as further}
use Rattle.c_grammar.specs.Statements.{ReadsLocal, bare, valued, Declares, declares}
use Rattle.c_grammar.specs.ReadExpressions.{Read, ◌>>=◌, read, after, is_comma_sign}
use Rattle.c_grammar.specs.ReadStatements.{with_kind, specifier_at, specifiers, more_at, separated, local_of, local_value, local_named, local_at, local, declaration, is_semicolon}
use Rattle.c_grammar.proofs.Options.{some_is, none_is, bind_some, guard_some, place_of, token_is, after_mark, closes, joins}
use Rattle.c_grammar.proofs.Sound.{sound, Found}

-- The tokens begin with a spelling of what was read, and the rest stands behind it.
pub record FoundOf {A : Type 0} (R : List Token → A → Type 0) (size : A → ℕ) (n : ℕ) (ts : List Token) (x : A × List Token) : Type 0 where
  pub front : List Token
  pub split : ts ≡ front ++ x.1
  pub reads : R front x.0
  pub deep : size x.0 ≤ n

abbrev pub SoundPart : {A : Type 0} → (List Token → A → Type 0) → (List Token → Read A) → (A → ℕ) → ℕ → Type 0
SoundPart {A} R item size n = (ts : List Token) (x : A × List Token) → item ts ≡ Some x → FoundOf R size n ts x

pub found_is : {A : Type 0} {R : List Token → A → Type 0} {size : A → ℕ} {n : ℕ} {ts : List Token} {x y : A × List Token} → FoundOf R size n ts x → Some x ≡ Some y → FoundOf R size n ts y
found_is {A} {R} {size} {n} {ts} f h = subst (λ z. FoundOf R size n ts z) (some_is h) f

pub choice_some : {A : Type 0} (b : Bool) (m k : Option A) (y : A) → (if b then m else k) ≡ Some y → ((b ≡ true) × (m ≡ Some y)) ⊎ ((b ≡ false) × (k ≡ Some y))
choice_some true m k y h = inl (refl, h)
choice_some false m k y h = inr (refl, h)

comma_is : (kind : TokenKind) → is_comma_sign kind ≡ true → kind ≡ kinds.Sign signs.Comma
comma_is (kinds.Sign signs.Comma) h = refl
comma_is _ h = absurd cc

pub semicolon_is : (kind : TokenKind) → is_semicolon kind ≡ true → kind ≡ kinds.Sign signs.Semicolon
semicolon_is (kinds.Sign signs.Semicolon) h = refl
semicolon_is _ h = absurd cc

-- the greatest size in a list
abbrev pub sizes : {A : Type 0} → (A → ℕ) → List A → ℕ
sizes size xs = greatest (map size xs)

more_sound : {A : Type 0} (R : List Token → A → Type 0) (size : A → ℕ) (n : ℕ) (go : List Token → Read (List A)) → SoundPart (Separated R) go (sizes size) n → (x : A) (all a ts : List Token) (y : List A × List Token) → all ≡ a ++ ts → R a x → size x ≤ n → more_at go x ts ≡ Some y → FoundOf (Separated R) (sizes size) n all y
more_sound R size n go s x all a [] y split d deep h = found_is (record { front = a; split = split; reads = one d; deep = omega (arith, deep) }) h
more_sound R size n go s x all a (t ∷ ts) y split d deep h = elim (choice_some (is_comma_sign t.kind) (go ts >>= λ y. Some (x ∷ y.0, y.1)) (Some (x ∷ [], t ∷ ts)) y h) [ inl c ↦ (let r : (z : List _ × List Token) × (go ts ≡ Some z) × (Some (x ∷ z.0, z.1) ≡ Some y) = bind_some (go ts) (λ y. Some (x ∷ y.0, y.1)) y c.1 in let b : FoundOf (Separated R) (sizes size) n ts r.0 = s ts r.0 r.1 in found_is (record { front = a ++ sign signs.Comma (place_of t) ∷ b.front; split = joins all a ts b.front r.0.1 (sign signs.Comma (place_of t)) (split ∙ ap (λ u. a ++ u ∷ ts) (token_is t (kinds.Sign signs.Comma) (comma_is t.kind c.0))) b.split; reads = further (place_of t) d b.reads; deep = omega (arith, deep, b.deep) }) r.2) | inr c ↦ found_is (record { front = a; split = split; reads = one d; deep = omega (arith, deep) }) c.1 ]

pub separated_sound : {A : Type 0} (R : List Token → A → Type 0) (item : List Token → Read A) (size : A → ℕ) (n : ℕ) → SoundPart R item size n → (f : ℕ) → SoundPart (Separated R) (separated item f) (sizes size) n
separated_sound R item size n s zero ts y h = absurd (none_is h)
separated_sound {A} R item size n s (suc f) ts y h = let r : (z : A × List Token) × (item ts ≡ Some z) × (more_at (separated item f) z.0 z.1 ≡ Some y) = bind_some (item ts) (λ z. more_at (separated item f) z.0 z.1) y h in let b : FoundOf R size n ts r.0 = s ts r.0 r.1 in more_sound R size n (separated item f) (separated_sound R item size n s f) r.0.0 ts b.front r.0.1 y b.split b.reads b.deep r.2

-- The tokens begin with words that are not among those before, and these are they all.
pub record FoundWords (s : Specifiers) (ts : List Token) (x : Specifiers × List Token) : Type 0 where
  pub front : List Token
  pub split : ts ≡ front ++ x.1
  pub extends : (a : List Token) → Spells a s → Spells (a ++ front) x.0

no_more_words : (s : Specifiers) (ts : List Token) → FoundWords s ts (s, ts)
no_more_words s ts = record { front = []; split = refl; extends = λ a d. subst (λ us. Spells us s) (sym (append-nil a)) d }

word_is : (kind : TokenKind) (s m : Specifiers) → with_kind kind s ≡ Some m → (w : Keyword) × (kind ≡ kinds.Word w) × (with_word w s ≡ Some m)
word_is (kinds.Word w) s m h = (w, refl, h)
word_is _ s m h = absurd (none_is h)

word_found : (s : Specifiers) (t : Token) (ts : List Token) (go : Specifiers → Specifiers × List Token) → ((m : Specifiers) → FoundWords m ts (go m)) → (o : Option Specifiers) → with_kind t.kind s ≡ o → FoundWords s (t ∷ ts) (specifier_at go s t ts o)
word_found s t ts go f None h = no_more_words s (t ∷ ts)
word_found s t ts go f (Some m) h = let w : (w : Keyword) × (t.kind ≡ kinds.Word w) × (with_word w s ≡ Some m) = word_is t.kind s m h in let p : Place = place_of t in record { front = word w.0 p ∷ (f m).front; split = ap (λ u. u ∷ ts) (token_is t (kinds.Word w.0) w.1) ∙ ap (λ us. word w.0 p ∷ us) (f m).split; extends = λ a d. subst (λ us. Spells us (go m).0) (append_assoc a (word w.0 p ∷ []) (f m).front) ((f m).extends (a ++ word w.0 p ∷ []) (more w.0 p d w.2)) }

pub words_found : (ts : List Token) (s : Specifiers) → FoundWords s ts (specifiers s ts)
words_found [] s = no_more_words s []
words_found (t ∷ ts) s = word_found s t ts (λ m. specifiers m ts) (λ m. words_found ts m) (with_kind t.kind s) refl

bare_found : (n : ℕ) (ty : Ty) (c : Bool) (m : ℕ) (p : Place) (ts : List Token) → FoundOf (ReadsLocal ty c) local_depth n (mark (kinds.Name m) p ∷ ts) (local_of ty c m p.at None, ts)
bare_found n ty c m p ts = record { front = mark (kinds.Name m) p ∷ []; split = refl; reads = bare m p; deep = omega arith }

value_sound : (n : ℕ) (ty : Ty) (c : Bool) (m : ℕ) (p : Place) (kind : TokenKind) (q : Place) (ts : List Token) (y : Local × List Token) → local_value n (local_of ty c m p.at) kind (mark kind q) ts ≡ Some y → FoundOf (ReadsLocal ty c) local_depth n (mark (kinds.Name m) p ∷ mark kind q ∷ ts) y
value_sound n ty c m p (kinds.Sign signs.Equal) q ts y h = let r : (x : Expr × List Token) × (read n assign ts ≡ Some x) × (Some (local_of ty c m p.at (Some x.0), x.1) ≡ Some y) = bind_some (read n assign ts) (λ x. Some (local_of ty c m p.at (Some x.0), x.1)) y h in let b : Found assign n ts r.0 = sound n assign ts r.0 r.1 in found_is (record { front = mark (kinds.Name m) p ∷ sign signs.Equal q ∷ b.front; split = ap (λ us. mark (kinds.Name m) p ∷ sign signs.Equal q ∷ us) b.split; reads = valued m p q b.reads; deep = b.deep }) r.2
value_sound n ty c m p kind q ts y h = found_is (bare_found n ty c m p (mark kind q ∷ ts)) h

named_sound : (n : ℕ) (ty : Ty) (c : Bool) (m : ℕ) (p : Place) (ts : List Token) (y : Local × List Token) → local_named n (local_of ty c m p.at) ts ≡ Some y → FoundOf (ReadsLocal ty c) local_depth n (mark (kinds.Name m) p ∷ ts) y
named_sound n ty c m p [] y h = found_is (bare_found n ty c m p []) h
named_sound n ty c m p (t ∷ ts) y h = value_sound n ty c m p t.kind (place_of t) ts y h

local_at_sound : (n : ℕ) (ty : Ty) (c : Bool) (kind : TokenKind) (p : Place) (ts : List Token) (y : Local × List Token) → local_at n ty c kind p.at ts ≡ Some y → FoundOf (ReadsLocal ty c) local_depth n (mark kind p ∷ ts) y
local_at_sound n ty c (kinds.Name m) p ts y h = named_sound n ty c m p ts y h
local_at_sound n ty c _ p ts y h = absurd (none_is h)

pub local_sound : (n : ℕ) (ty : Ty) (c : Bool) → SoundPart (ReadsLocal ty c) (local n ty c) local_depth n
local_sound n ty c [] y h = absurd (none_is h)
local_sound n ty c (t ∷ ts) y h = local_at_sound n ty c t.kind (place_of t) ts y h

pub declaration_sound : (n : ℕ) → SoundPart Declares (declaration n) (sizes local_depth) n
declaration_sound n ts y h = let s : Specifiers × List Token = specifiers no_words ts in let f : FoundWords no_words ts s = words_found ts no_words in let g : (is_local s.0 ≡ true) × ((separated (local n (type_of s.0) s.0.is_const) (length s.1) s.1 >>= λ x. after is_semicolon x.1 >>= λ rest. Some (x.0, rest)) ≡ Some y) = guard_some (is_local s.0) (separated (local n (type_of s.0) s.0.is_const) (length s.1) s.1 >>= λ x. after is_semicolon x.1 >>= λ rest. Some (x.0, rest)) y h in let r : (x : List Local × List Token) × (separated (local n (type_of s.0) s.0.is_const) (length s.1) s.1 ≡ Some x) × ((after is_semicolon x.1 >>= λ rest. Some (x.0, rest)) ≡ Some y) = bind_some (separated (local n (type_of s.0) s.0.is_const) (length s.1) s.1) (λ x. after is_semicolon x.1 >>= λ rest. Some (x.0, rest)) y g.1 in let q : (rest : List Token) × (after is_semicolon r.0.1 ≡ Some rest) × (Some (r.0.0, rest) ≡ Some y) = bind_some (after is_semicolon r.0.1) (λ rest. Some (r.0.0, rest)) y r.2 in let b : FoundOf (Separated (ReadsLocal (type_of s.0) s.0.is_const)) (sizes local_depth) n s.1 r.0 = separated_sound (ReadsLocal (type_of s.0) s.0.is_const) (local n (type_of s.0) s.0.is_const) local_depth n (local_sound n (type_of s.0) s.0.is_const) (length s.1) s.1 r.0 r.1 in let c : (p : Place) × (r.0.1 ≡ sign signs.Semicolon p ∷ q.0) = after_mark is_semicolon (kinds.Sign signs.Semicolon) semicolon_is r.0.1 q.0 q.1 in found_is (record { front = f.front ++ (b.front ++ sign signs.Semicolon c.0 ∷ []); split = f.split ∙ ap (λ us. f.front ++ us) (closes s.1 b.front r.0.1 q.0 (sign signs.Semicolon c.0) b.split c.1) ∙ sym (append_assoc f.front (b.front ++ sign signs.Semicolon c.0 ∷ []) q.0); reads = declares c.0 (f.extends [] none) g.0 b.reads; deep = b.deep }) q.2
