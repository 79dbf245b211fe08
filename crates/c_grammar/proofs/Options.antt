-- Options, lists and bools, as reading uses them.
use Rattle.std.proofs.Common.{◌≡◌, ◌++◌, suc, Bool, true, false, List, [], ◌∷◌, Option, Some, None, refl, sym, ap, ◌∙◌, length}
use Rattle.std.specs.Prelude.{if◌then◌else◌}
use Rattle.std.proofs.lemmas.List.{append_assoc}
use Rattle.c_lexer.specs.declared.token.Token.{Token}
use Rattle.c_lexer.specs.declared.token.TokenKind.{TokenKind}
use Rattle.c_lexer.specs.declared.token.TokenKind.TheVariants as kinds
use Rattle.c_lexer.specs.declared.token.Punct.{Punct}
use Rattle.c_grammar.specs.Places.{Place, mark}
use Rattle.c_grammar.specs.Operators.{of_sign}
use Rattle.c_grammar.specs.ReadExpressions.{Read, ◌>>=◌, after}

pub some_is : {A : Type 0} {x y : A} → Some x ≡ Some y → x ≡ y
some_is h = cc

pub none_is : {A : Type 0} {x : A} → None ≡ Some x → ⊥
none_is h = cc

pub clash : {b : Bool} → b ≡ true → b ≡ false → ⊥
clash h g = cc

pub bind_is : {A B : Type 0} {m : Option A} {x : A} (f : A → Option B) → m ≡ Some x → (m >>= f) ≡ f x
bind_is f h = ap (λ m. m >>= f) h

pub bind_some : {A B : Type 0} (m : Option A) (f : A → Option B) (y : B) → (m >>= f) ≡ Some y → (x : A) × (m ≡ Some x) × (f x ≡ Some y)
bind_some None f y h = absurd (none_is h)
bind_some (Some x) f y h = (x, refl, h)

pub bind_bind : {A B C : Type 0} (m : Option A) (f : A → Option B) (g : B → Option C) → (m >>= f >>= g) ≡ (m >>= λ x. f x >>= g)
bind_bind None f g = refl
bind_bind (Some x) f g = refl

-- a part and the token behind it, read as one
pub bind_after : {A B : Type 0} (m : Read A) (is : TokenKind → Bool) (g : A × List Token → Option B) → (m >>= (λ x. after is x.1 >>= λ rest. Some (x.0, rest)) >>= g) ≡ (m >>= λ x. after is x.1 >>= λ rest. g (x.0, rest))
bind_after None is g = refl
bind_after (Some x) is g = bind_bind (after is x.1) (λ rest. Some (x.0, rest)) g

pub guard_some : {A : Type 0} (b : Bool) (m : Option A) (y : A) → (if b then m else None) ≡ Some y → (b ≡ true) × (m ≡ Some y)
guard_some true m y h = (refl, h)
guard_some false m y h = absurd (none_is h)

pub length-cons : (x : Token) (xs : List Token) → length (x ∷ xs) ≡ suc (length xs)
length-cons x xs = refl

-- where a token stands
abbrev pub place_of : Token → Place
place_of t = record { at = t.at; length = t.length }

pub token_is : (t : Token) (kind : TokenKind) → t.kind ≡ kind → t ≡ mark kind (place_of t)
token_is t kind h = ap (λ k. mark k (place_of t)) h

pub after_is : (is : TokenKind → Bool) (ts rest : List Token) → after is ts ≡ Some rest → (t : Token) × (is t.kind ≡ true) × (ts ≡ t ∷ rest)
after_is is [] rest h = absurd (none_is h)
after_is is (t ∷ ts) rest h = let both : (is t.kind ≡ true) × (Some ts ≡ Some rest) = guard_some (is t.kind) (Some ts) rest h in (t, both.0, ap (λ us. t ∷ us) (some_is both.1))

pub after_mark : (is : TokenKind → Bool) (k : TokenKind) → ((kind : TokenKind) → is kind ≡ true → kind ≡ k) → (ts rest : List Token) → after is ts ≡ Some rest → (p : Place) × (ts ≡ mark k p ∷ rest)
after_mark is k only ts rest h = let a : (t : Token) × (is t.kind ≡ true) × (ts ≡ t ∷ rest) = after_is is ts rest h in (place_of a.0, a.2 ∙ ap (λ u. u ∷ rest) (token_is a.0 k (only a.0.kind a.1)))

-- a token of which a table of signs says something
pub sign_is : {A : Type 0} (table : Punct → Option A) (kind : TokenKind) (x : A) → of_sign table kind ≡ Some x → (s : Punct) × (kind ≡ kinds.Sign s) × (table s ≡ Some x)
sign_is table (kinds.Sign s) x h = (s, refl, h)
sign_is table _ x h = absurd (none_is h)

-- a bracket around what was read
pub closes : (ts a b rest : List Token) (t : Token) → ts ≡ a ++ b → b ≡ t ∷ rest → ts ≡ (a ++ t ∷ []) ++ rest
closes ts a b rest t h g = h ∙ ap (λ us. a ++ us) g ∙ sym (append_assoc a (t ∷ []) rest)

-- a second part behind a sign
pub joins : (ts a b c rest : List Token) (t : Token) → ts ≡ a ++ t ∷ b → b ≡ c ++ rest → ts ≡ (a ++ t ∷ c) ++ rest
joins ts a b c rest t h g = h ∙ ap (λ us. a ++ t ∷ us) g ∙ sym (append_assoc a (t ∷ c) rest)
