-- The steps of the code's loops over items, parameters and initialisers.
use Rattle.std.proofs.Common.{◌≡◌, ◌≤◌, ◌<◌, ◌-◌, ◌++◌, ℕ, zero, suc, Bool, true, false, List, [], ◌∷◌, Option, Some, None, refl, sym, ap, ◌∙◌, arith, length}
use Rattle.std.proofs.lemmas.List.{append_assoc}
use Rattle.c_lexer.specs.declared.token.Token.{Token}
use Rattle.c_lexer.specs.declared.token.TokenKind.{TokenKind}
use Rattle.c_lexer.specs.declared.token.TokenKind.TheVariants as kinds
use Rattle.c_lexer.specs.declared.token.Punct.TheVariants as signs
use Rattle.c_syntax.specs.Sizes.{global_depth, item_depth}
use Rattle.c_syntax.specs.declared.tree.Expr.{Expr}
use Rattle.c_syntax.specs.declared.tree.Ty.{Ty}
use Rattle.c_syntax.specs.declared.tree.TopItem.{TopItem}
use Rattle.std.specs.Prelude.{◌||◌, if◌then◌else◌}
use Rattle.c_grammar.specs.declared.specifiers.Specifiers.{Specifiers}
use Rattle.c_grammar.specs.Specifiers.{no_words, is_value, is_void, is_function}
use Rattle.c_grammar.specs.Expressions.{cond}
use Rattle.c_grammar.specs.Items.{ReadsGlobal, ReadsParam, ReadsItem}
use Rattle.c_grammar.specs.ReadExpressions.{Read, ◌>>=◌, read, after, is_comma_sign}
use Rattle.c_grammar.specs.ReadStatements.{specifiers, is_close_brace, is_open_paren, statement, body}
use Rattle.c_grammar.specs.ReadItems.{body_from, brace_at, ends_here, next_value, after_value, values, global, param, function_behind, function_from, globals_behind, item_at, item_behind, item_named, item_of, item_from, program_items}
use Rattle.c_grammar.proofs.Options.{clash, bind_is, length-cons}
use Rattle.c_grammar.proofs.CompleteLists.{Specified, named_length}
use Rattle.c_grammar.proofs.CompleteItems.{nothing_of, param_specified, global_variable, variable_named, item_length, item_globals}
use Rattle.c_grammar.proofs.SoundItems.{param_sound, global_sound, item_sound}
use Rattle.c_grammar.proofs.Steps.{shorter}
use Rattle.c_grammar.proofs.ListSteps.{fronted, front_cons, Falls, falls_of}

-- what is read of each is shorter than all
pub global_falls : (lim : ℕ) (ty : Ty) (c : Bool) → Falls (global lim ty c)
global_falls lim ty c = falls_of (ReadsGlobal ty c) (global lim ty c) global_depth lim (global_sound lim ty c) (λ ts x d. named_length ts (variable_named ts (global_variable ty c ts x d)))

pub param_falls : Falls param
param_falls = falls_of ReadsParam param nothing_of 0 param_sound (λ ts x d. let s : Specified ts = param_specified ts x d in omega (arith, ap length s.2, length-cons s.0 s.1))

pub item_falls : (lim : ℕ) → Falls (item_from lim)
item_falls lim = falls_of ReadsItem (item_from lim) item_depth lim (item_sound lim) item_length

-- initialisers between braces
next_comma : (go : List Token → Read (List Expr)) (e : Expr) (kind : TokenKind) (ts : List Token) → is_comma_sign kind ≡ true → next_value go e kind ts ≡ brace_at go e (ends_here ts) ts
next_comma go e (kinds.Sign signs.Comma) ts h = refl
next_comma go e _ ts h = absurd (clash h refl)

next_brace : (go : List Token → Read (List Expr)) (e : Expr) (kind : TokenKind) (ts : List Token) → is_close_brace kind ≡ true → next_value go e kind ts ≡ Some (e ∷ [], ts)
next_brace go e (kinds.Sign signs.CloseBrace) ts h = refl
next_brace go e _ ts h = absurd (clash h refl)

next_none : (go : List Token → Read (List Expr)) (e : Expr) (kind : TokenKind) (ts : List Token) → is_close_brace kind ≡ false → is_comma_sign kind ≡ false → next_value go e kind ts ≡ None
next_none go e (kinds.Sign signs.Comma) ts h g = absurd (clash refl g)
next_none go e (kinds.Sign signs.CloseBrace) ts h g = absurd (clash refl h)
next_none go e _ ts h g = refl

-- the initialisers from here on, once the first of them and the token behind it are known
values_are : (lim f : ℕ) (ts behind : List Token) (e : Expr) (t : Token) (next : List Token) → read lim cond ts ≡ Some (e, behind) → behind ≡ t ∷ next → values lim (suc f) ts ≡ next_value (values lim f) e t.kind next
values_are lim f ts behind e t next h g = bind_is (λ x. after_value (values lim f) x.0 x.1) h ∙ ap (after_value (values lim f) e) g

pub values_on : (lim f : ℕ) (front : List Expr) (ts behind : List Token) (e : Expr) (t : Token) (next : List Token) → length ts ≤ f → read lim cond ts ≡ Some (e, behind) → behind ≡ t ∷ next → is_comma_sign t.kind ≡ true → ends_here next ≡ false → (g : ℕ) × (length next ≤ g) × (fronted front (values lim f ts) ≡ fronted (front ++ e ∷ []) (values lim g next))
values_on lim zero front ts behind e t next l h g k j = absurd (omega (arith, l, shorter lim cond ts e behind h))
values_on lim (suc f) front ts behind e t next l h g k j = (f, omega (arith, l, shorter lim cond ts e behind h, ap length g, length-cons t next), ap (fronted front) (values_are lim f ts behind e t next h g ∙ next_comma (values lim f) e t.kind next k ∙ ap (λ b. brace_at (values lim f) e b next) j) ∙ front_cons front e (values lim f next))

pub values_end : (lim f : ℕ) (front : List Expr) (ts behind : List Token) (e : Expr) (t : Token) (next : List Token) → length ts ≤ f → read lim cond ts ≡ Some (e, behind) → behind ≡ t ∷ next → is_close_brace t.kind ≡ true → fronted front (values lim f ts) ≡ Some (front ++ e ∷ [], next)
values_end lim zero front ts behind e t next l h g k = absurd (omega (arith, l, shorter lim cond ts e behind h))
values_end lim (suc f) front ts behind e t next l h g k = ap (fronted front) (values_are lim f ts behind e t next h g ∙ next_brace (values lim f) e t.kind next k)

-- a last comma, and the brace behind it
values_comma : (lim f : ℕ) (front : List Expr) (ts behind : List Token) (e : Expr) (t : Token) (next : List Token) (r : Option (List Token)) → length ts ≤ f → read lim cond ts ≡ Some (e, behind) → behind ≡ t ∷ next → is_comma_sign t.kind ≡ true → ends_here next ≡ true → after is_close_brace next ≡ r → fronted front (values lim f ts) ≡ fronted front (r >>= λ rest. Some (e ∷ [], rest))
values_comma lim zero front ts behind e t next r l h g k j a = absurd (omega (arith, l, shorter lim cond ts e behind h))
values_comma lim (suc f) front ts behind e t next r l h g k j a = ap (fronted front) (values_are lim f ts behind e t next h g ∙ next_comma (values lim f) e t.kind next k ∙ ap (λ b. brace_at (values lim f) e b next) j ∙ ap (λ m. m >>= λ rest. Some (e ∷ [], rest)) a)

pub values_comma_end : (lim f : ℕ) (front : List Expr) (ts behind : List Token) (e : Expr) (t : Token) (next end : List Token) → length ts ≤ f → read lim cond ts ≡ Some (e, behind) → behind ≡ t ∷ next → is_comma_sign t.kind ≡ true → ends_here next ≡ true → after is_close_brace next ≡ Some end → fronted front (values lim f ts) ≡ Some (front ++ e ∷ [], end)
values_comma_end lim f front ts behind e t next end l h g k j a = values_comma lim f front ts behind e t next (Some end) l h g k j a

pub values_none : (lim f : ℕ) (front : List Expr) (ts behind : List Token) (e : Expr) (t : Token) (next : List Token) → read lim cond ts ≡ Some (e, behind) → behind ≡ t ∷ next → is_close_brace t.kind ≡ false → is_comma_sign t.kind ≡ false → fronted front (values lim f ts) ≡ None
values_none lim zero front ts behind e t next h g a b = refl
values_none lim (suc f) front ts behind e t next h g a b = ap (fronted front) (values_are lim f ts behind e t next h g ∙ next_none (values lim f) e t.kind next a b)

pub values_last : (lim f : ℕ) (front : List Expr) (ts behind : List Token) (e : Expr) → read lim cond ts ≡ Some (e, behind) → behind ≡ [] → fronted front (values lim f ts) ≡ None
values_last lim zero front ts behind e h g = refl
values_last lim (suc f) front ts behind e h g = ap (fronted front) (bind_is (λ x. after_value (values lim f) x.0 x.1) h ∙ ap (after_value (values lim f) e) g)

pub values_fails : (lim f : ℕ) (front : List Expr) (ts : List Token) → read lim cond ts ≡ None → fronted front (values lim f ts) ≡ None
values_fails lim zero front ts h = refl
values_fails lim (suc f) front ts h = ap (λ m. fronted front (m >>= λ x. after_value (values lim f) x.0 x.1)) h

-- the items that were read before, and what is read from here on
abbrev pub items_fronted : List TopItem → Option (List TopItem) → Option (List TopItem)
items_fronted front r = r >>= λ is. Some (front ++ is)

pub items_none : (r : Option (List TopItem)) → items_fronted [] r ≡ r
items_none None = refl
items_none (Some is) = refl

items_cons : (front : List TopItem) (i : TopItem) (m : Option (List TopItem)) → items_fronted front (m >>= λ is. Some (i ∷ is)) ≡ items_fronted (front ++ i ∷ []) m
items_cons front i None = refl
items_cons front i (Some is) = ap Some (sym (append_assoc front (i ∷ []) is))

pub items_on : (lim f : ℕ) (front : List TopItem) (ts : List Token) (i : TopItem) (behind : List Token) → 1 ≤ length ts → length ts ≤ f → item_from lim ts ≡ Some (i, behind) → (g : ℕ) × (length behind ≤ g) × (items_fronted front (program_items lim f ts) ≡ items_fronted (front ++ i ∷ []) (program_items lim g behind))
items_on lim f front [] i behind n l h = absurd (omega (arith, n))
items_on lim zero front (t ∷ ts) i behind n l h = absurd (omega (arith, n, l))
items_on lim (suc f) front (t ∷ ts) i behind n l h = (f, omega (arith, l, item_falls lim (t ∷ ts) i behind h), ap (items_fronted front) (bind_is (λ x. program_items lim f x.1 >>= λ is. Some (x.0 ∷ is)) h) ∙ items_cons front i (program_items lim f behind))

-- a list and the sign behind it
abbrev with_rest : {B : Type 0} → B → Option (List Token) → Read B
with_rest b m = m >>= λ rest. Some (b, rest)

abbrev closed : {A B : Type 0} → (TokenKind → Bool) → (A → B) → A × List Token → Read B
closed is make x = with_rest (make x.0) (after is x.1)

abbrev pub ending : {A B : Type 0} → (TokenKind → Bool) → (A → B) → Read A → Read B
ending is make whole = whole >>= closed is make

pub ending_some : {A B : Type 0} (is : TokenKind → Bool) (make : A → B) (whole : Read A) (a : A) (behind last : List Token) → whole ≡ Some (a, behind) → after is behind ≡ Some last → ending is make whole ≡ Some (make a, last)
ending_some is make whole a behind last h g = bind_is (closed is make) h ∙ ap (with_rest (make a)) g

pub ending_none : {A B : Type 0} (is : TokenKind → Bool) (make : A → B) (whole : Read A) (a : A) (behind : List Token) → whole ≡ Some (a, behind) → after is behind ≡ None → ending is make whole ≡ None
ending_none is make whole a behind h g = bind_is (closed is make) h ∙ ap (with_rest (make a)) g

pub ending_fails : {A B : Type 0} (is : TokenKind → Bool) (make : A → B) (whole : Read A) → whole ≡ None → ending is make whole ≡ None
ending_fails is make whole h = ap (ending is make) h

-- an item whose name and the token behind it are known
pub item_is : (lim : ℕ) (ts : List Token) (s : Specifiers) (named : List Token) (t : Token) (name : ℕ) (rest : List Token) (u : Token) (behind : List Token) → (s, named) ≡ specifiers no_words ts → named ≡ t ∷ rest → t.kind ≡ kinds.Name name → rest ≡ u ∷ behind → item_from lim ts ≡ item_at lim s name t u.kind u behind
item_is lim ts s named t name rest u behind h g k j = ap (item_of lim) (sym h) ∙ ap (λ us. item_of lim (s, us)) g ∙ ap (λ kind. item_named lim s kind t rest) k ∙ ap (item_behind lim s name t) j

opens_function : (lim : ℕ) (s : Specifiers) (name : ℕ) (t u : Token) (kind : TokenKind) (us : List Token) → is_open_paren kind ≡ true → item_at lim s name t kind u us ≡ function_from lim s name t.at us
opens_function lim s name t u (kinds.Sign signs.OpenParen) us h = refl
opens_function lim s name t u _ us h = absurd (clash h refl)

pub item_function : (lim : ℕ) (b : Bool) (s : Specifiers) (name : ℕ) (t u : Token) (us : List Token) → is_open_paren u.kind ≡ true → is_function s ≡ b → item_at lim s name t u.kind u us ≡ (if b then function_behind lim s name t.at us else None)
item_function lim b s name t u us h g = opens_function lim s name t u u.kind us h ∙ ap (λ x. if x then function_behind lim s name t.at us else None) g

pub item_variables : (lim : ℕ) (b : Bool) (s : Specifiers) (name : ℕ) (t u : Token) (us named : List Token) → is_open_paren u.kind ≡ false → is_value s ≡ b → named ≡ t ∷ u ∷ us → item_at lim s name t u.kind u us ≡ (if b then globals_behind lim s named else None)
item_variables lim b s name t u us named h g k = item_globals lim s name t u us u.kind h ∙ ap (λ x. if x then globals_behind lim s (t ∷ u ∷ us) else None) g ∙ ap (λ ts. if b then globals_behind lim s ts else None) (sym k)

or_false : (a b : Bool) → (a || b) ≡ false → a ≡ false
or_false true b h = absurd (clash refl h)
or_false false b h = refl

no_item_at : (lim : ℕ) (s : Specifiers) (name : ℕ) (t u : Token) (us : List Token) (b : Bool) → is_open_paren u.kind ≡ b → is_function s ≡ false → item_at lim s name t u.kind u us ≡ None
no_item_at lim s name t u us true h g = item_function lim false s name t u us h g
no_item_at lim s name t u us false h g = item_variables lim false s name t u us (t ∷ u ∷ us) h (or_false (is_value s) (is_void s) g) refl

no_item_behind : (lim : ℕ) (s : Specifiers) (name : ℕ) (t : Token) (rest : List Token) → is_function s ≡ false → item_behind lim s name t rest ≡ None
no_item_behind lim s name t [] h = refl
no_item_behind lim s name t (u ∷ us) h = no_item_at lim s name t u us (is_open_paren u.kind) refl h

-- no item begins with these specifiers
pub no_item : (lim : ℕ) (ts : List Token) (s : Specifiers) (named : List Token) (t : Token) (name : ℕ) (rest : List Token) → (s, named) ≡ specifiers no_words ts → named ≡ t ∷ rest → t.kind ≡ kinds.Name name → is_function s ≡ false → item_from lim ts ≡ None
no_item lim ts s named t name rest h g k f = ap (item_of lim) (sym h) ∙ ap (λ us. item_of lim (s, us)) g ∙ ap (λ kind. item_named lim s kind t rest) k ∙ no_item_behind lim s name t rest f

pub body_from_step : (n : ℕ) (ts : List Token) → 0 < n → body_from n ts ≡ body (statement (n - 1)) (n - 1) (suc (length ts)) ts
body_from_step zero ts h = absurd (omega (arith, h))
body_from_step (suc n) ts h = let minus : suc n - 1 ≡ n = omega arith in rw minus refl
