-- Lists with commas, specifiers and declarations that are in the grammar are read.
use Rattle.std.proofs.Common.{◌≡◌, ◌≤◌, ◌<◌, ◌++◌, ℕ, zero, suc, Bool, true, false, List, [], ◌∷◌, map, Option, Some, None, refl, sym, ap, ◌∙◌, arith, length, inl, inr}
use Rattle.std.specs.Prelude.{◌⊎◌}
use Rattle.std.proofs.lemmas.List.{append_assoc, length-append}
use Rattle.c_lexer.specs.declared.token.Token.{Token}
use Rattle.c_lexer.specs.declared.token.TokenKind.{TokenKind}
use Rattle.c_lexer.specs.declared.token.TokenKind.TheVariants as kinds
use Rattle.c_lexer.specs.declared.token.Keyword.{Keyword}
use Rattle.c_lexer.specs.declared.token.Keyword.TheVariants as words
use Rattle.c_lexer.specs.declared.token.Punct.TheVariants as signs
use Rattle.c_syntax.specs.Sizes.{local_depth, greatest}
use Rattle.c_syntax.specs.declared.tree.Expr.{Expr}
use Rattle.c_syntax.specs.declared.tree.Ty.{Ty}
use Rattle.c_syntax.specs.declared.tree.Local.{Local}
use Rattle.c_grammar.specs.declared.specifiers.Specifiers.{Specifiers}
use Rattle.c_grammar.specs.Places.{Place, mark, sign, word}
use Rattle.c_grammar.specs.Specifiers.{no_words, with_word, Spells, none, more, is_local, type_of}
use Rattle.c_grammar.specs.Lists.{Separated, one}
use Rattle.c_grammar.specs.Lists.Separated.{more as further}
use Rattle.c_grammar.specs.Statements.{ReadsLocal, bare, valued, Declares, declares}
use Rattle.c_grammar.specs.ReadExpressions.{Read, after, is_comma_sign}
use Rattle.c_grammar.specs.ReadStatements.{with_kind, specifier_at, specifiers, more_at, separated, local_of, local_value, local, declaration, declaration_of, is_specifier}
use Rattle.c_grammar.proofs.Options.{none_is, clash, bind_is, length-cons}
use Rattle.c_grammar.proofs.Tables.{looseness}
use Rattle.c_grammar.proofs.Complete.{is_read}

-- a token that ends a part of a list
abbrev pub is_end : TokenKind → Bool
is_end (kinds.Sign signs.Comma) = true
is_end (kinds.Sign signs.Semicolon) = true
is_end (kinds.Sign signs.CloseParen) = true
is_end (kinds.Sign signs.CloseBrace) = true
is_end _ = false

pub end_loose : (kind : TokenKind) → is_end kind ≡ true → 13 < looseness kind
end_loose (kinds.Sign signs.Comma) h = omega arith
end_loose (kinds.Sign signs.Semicolon) h = omega arith
end_loose (kinds.Sign signs.CloseParen) h = omega arith
end_loose (kinds.Sign signs.CloseBrace) h = omega arith
end_loose _ h = absurd (clash h refl)

-- Each part is read, before a token that ends it.
abbrev pub WholePart : {A : Type 0} → (List Token → A → Type 0) → (List Token → Read A) → (A → ℕ) → ℕ → Type 0
WholePart {A} R item size n = (ts : List Token) (x : A) → R ts x → size x ≤ n → (t : Token) (rest : List Token) → is_end t.kind ≡ true → item (ts ++ t ∷ rest) ≡ Some (x, t ∷ rest)

abbrev pub NotEmpty : {A : Type 0} → (List Token → A → Type 0) → Type 0
NotEmpty {A} R = (ts : List Token) (x : A) → R ts x → 1 ≤ length ts

pub separated_whole : {A : Type 0} (R : List Token → A → Type 0) (item : List Token → Read A) (size : A → ℕ) (n : ℕ) → WholePart R item size n → NotEmpty R → (ts : List Token) (xs : List A) → Separated R ts xs → (f : ℕ) (t : Token) (rest : List Token) → greatest (map size xs) ≤ n → length ts ≤ f → is_end t.kind ≡ true → is_comma_sign t.kind ≡ false → separated item f (ts ++ t ∷ rest) ≡ Some (xs, t ∷ rest)
separated_whole R item size n w e _ _ (one {ts} {x} d) zero t rest h g i j = absurd (omega (arith, g, e ts x d))
separated_whole R item size n w e _ _ (one {ts} {x} d) (suc f) t rest h g i j = bind_is (λ y. more_at (separated item f) y.0 y.1) (w ts x d (omega (arith, h)) t rest i) ∙ rw j refl
separated_whole R item size n w e _ _ (further {a} {b} {x} {xs} p d ds) zero t rest h g i j = absurd (omega (arith, g, length-append a (sign signs.Comma p ∷ b), length-cons (sign signs.Comma p) b))
separated_whole R item size n w e _ _ (further {a} {b} {x} {xs} p d ds) (suc f) t rest h g i j = ap (separated item (suc f)) (append_assoc a (sign signs.Comma p ∷ b) (t ∷ rest)) ∙ bind_is (λ y. more_at (separated item f) y.0 y.1) (w a x d (omega (arith, h)) (sign signs.Comma p) (b ++ t ∷ rest) refl) ∙ bind_is (λ y. Some (x ∷ y.0, y.1)) (separated_whole R item size n w e b xs ds f t rest (omega (arith, h)) (omega (arith, g, length-append a (sign signs.Comma p ∷ b), length-cons (sign signs.Comma p) b)) i j)

-- the words of a list of specifiers are read one by one
pub spelled : (ts : List Token) (s : Specifiers) → Spells ts s → (rest : List Token) → specifiers no_words (ts ++ rest) ≡ specifiers s rest
spelled _ _ none rest = refl
spelled _ _ (more {ts} {s} {after} w p d h) rest = ap (specifiers no_words) (append_assoc ts (word w p ∷ []) rest) ∙ spelled ts s d (word w p ∷ rest) ∙ ap (specifier_at (λ m. specifiers m rest) s (word w p) rest) h

pub specifiers_stop : (s : Specifiers) (t : Token) (ts : List Token) → with_kind t.kind s ≡ None → specifiers s (t ∷ ts) ≡ (s, t ∷ ts)
specifiers_stop s t ts h = ap (specifier_at (λ m. specifiers m ts) s t ts) h

-- a list of tokens that begins with a name
abbrev pub Named : List Token → Type 0
Named ts = (n : ℕ) × (p : Place) × (us : List Token) × (ts ≡ mark (kinds.Name n) p ∷ us)

pub named_with : (a b : List Token) → Named a → Named (a ++ b)
named_with a b h = (h.0, h.1, h.2 ++ b, ap (λ x. x ++ b) h.3)

pub local_named_is : (ty : Ty) (c : Bool) (ts : List Token) (l : Local) → ReadsLocal ty c ts l → Named ts
local_named_is ty c _ _ (bare n p) = (n, p, _, refl)
local_named_is ty c _ _ (valued n p q d) = (n, p, _, refl)

pub named_length : (ts : List Token) → Named ts → 1 ≤ length ts
named_length ts h = omega (arith, ap length h.3, length-cons (mark (kinds.Name h.0) h.1) h.2)

pub separated_named : {A : Type 0} (R : List Token → A → Type 0) → ((ts : List Token) (x : A) → R ts x → Named ts) → (ts : List Token) (xs : List A) → Separated R ts xs → Named ts
separated_named R h _ _ (one {ts} {x} d) = h ts x d
separated_named R h _ _ (further {a} {b} {x} {xs} p d ds) = named_with a (sign signs.Comma p ∷ b) (h a x d)

value_stops : (n : ℕ) (make : Option Expr → Local) (kind : TokenKind) (t : Token) (ts : List Token) → is_end kind ≡ true → local_value n make kind t ts ≡ Some (make None, t ∷ ts)
value_stops n make (kinds.Sign signs.Equal) t ts h = absurd (clash h refl)
value_stops n make _ t ts h = refl

local_whole : (n : ℕ) (ty : Ty) (c : Bool) → WholePart (ReadsLocal ty c) (local n ty c) local_depth n
local_whole n ty c _ _ (bare m p) h t rest g = value_stops n (local_of ty c m p.at) t.kind t rest g
local_whole n ty c _ _ (valued m p q d) h t rest g = bind_is (λ x. Some (local_of ty c m p.at (Some x.0), x.1)) (is_read d n (t ∷ rest) h (end_loose t.kind g))

-- a list that begins with a name, behind specifiers
pub specifiers_named : (a : List Token) (s : Specifiers) → Spells a s → (b : List Token) → Named b → specifiers no_words (a ++ b) ≡ (s, b)
specifiers_named a s d b h = spelled a s d b ∙ ap (specifiers s) h.3 ∙ specifiers_stop s (mark (kinds.Name h.0) h.1) h.2 refl ∙ ap (λ us. (s, us)) (sym h.3)

pub declaration_whole : (ts : List Token) (ls : List Local) → Declares ts ls → (n : ℕ) (rest : List Token) → greatest (map local_depth ls) ≤ n → declaration n (ts ++ rest) ≡ Some (ls, rest)
declaration_whole _ ls (declares {a} {b} {s} p d i ds) n rest h = let all : List Token = b ++ sign signs.Semicolon p ∷ rest in ap (declaration n) (append_assoc a (b ++ sign signs.Semicolon p ∷ []) rest ∙ ap (λ us. a ++ us) (append_assoc b (sign signs.Semicolon p ∷ []) rest)) ∙ ap (declaration_of n) (specifiers_named a s d all (named_with b (sign signs.Semicolon p ∷ rest) (separated_named (ReadsLocal (type_of s) s.is_const) (local_named_is (type_of s) s.is_const) b ls ds))) ∙ rw (i, separated_whole (ReadsLocal (type_of s) s.is_const) (local n (type_of s) s.is_const) local_depth n (local_whole n (type_of s) s.is_const) (λ us x e. named_length us (local_named_is (type_of s) s.is_const us x e)) b ls ds (length all) (sign signs.Semicolon p) rest h (omega (arith, length-append b (sign signs.Semicolon p ∷ rest))) refl refl) refl

word_specifier : (w : Keyword) (s after : Specifiers) → with_word w s ≡ Some after → is_specifier (kinds.Word w) ≡ true
word_specifier words.Int s after h = refl
word_specifier words.Signed s after h = refl
word_specifier words.Unsigned s after h = refl
word_specifier words.Void s after h = refl
word_specifier words.Const s after h = refl
word_specifier words.Static s after h = refl
word_specifier _ s after h = absurd (none_is h)

-- tokens that begin with a word of specifiers
abbrev pub Specified : List Token → Type 0
Specified ts = (t : Token) × (us : List Token) × (ts ≡ t ∷ us) × (is_specifier t.kind ≡ true)

pub specified_with : (a b : List Token) → Specified a → Specified (a ++ b)
specified_with a b h = (h.0, h.1 ++ b, ap (λ x. x ++ b) h.2, h.3)

first_word : (ts : List Token) (s : Specifiers) → Spells ts s → Specified ts ⊎ (ts ≡ [])
first_word _ _ none = inr refl
first_word _ _ (more {ts} {s} {after} w p d h) = elim (first_word ts s d) [ inl e ↦ inl (specified_with ts (word w p ∷ []) e) | inr e ↦ inl (word w p, [], ap (λ x. x ++ word w p ∷ []) e, word_specifier w s after h) ]

spells_nothing : (ts : List Token) (s : Specifiers) → Spells ts s → ts ≡ [] → s ≡ no_words
spells_nothing ts s d e = ap (λ x. x.0) (sym (spelled ts s d [])) ∙ ap (λ us. (specifiers no_words (us ++ [])).0) e

pub spells_first : (ts : List Token) (s : Specifiers) (test : Specifiers → Bool) → Spells ts s → test s ≡ true → test no_words ≡ false → Specified ts
spells_first ts s test d h g = elim (first_word ts s d) [ inl e ↦ e | inr e ↦ absurd (clash h (ap test (spells_nothing ts s d e) ∙ g)) ]

pub declares_specified : (ts : List Token) (ls : List Local) → Declares ts ls → Specified ts
declares_specified _ ls (declares {a} {b} {s} p d i ds) = specified_with a (b ++ sign signs.Semicolon p ∷ []) (spells_first a s is_local d i refl)
