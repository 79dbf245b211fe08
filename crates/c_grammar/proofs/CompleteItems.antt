-- What is in the grammar of items is read.
use Rattle.std.proofs.Common.{◌≡◌, ◌≤◌, ◌<◌, ◌++◌, ℕ, zero, suc, Bool, true, false, List, [], ◌∷◌, map, Option, Some, None, refl, sym, ap, ◌∙◌, arith, length, inl, inr}
use Rattle.std.specs.Prelude.{◌⊎◌, if◌then◌else◌, not, ◌&&◌, ◌||◌}
use Rattle.std.proofs.lemmas.List.{append_assoc, length-append}
use Rattle.c_lexer.specs.declared.token.Token.{Token}
use Rattle.c_lexer.specs.declared.token.TokenKind.{TokenKind}
use Rattle.c_lexer.specs.declared.token.TokenKind.TheVariants as kinds
use Rattle.c_lexer.specs.declared.token.Keyword.{Keyword}
use Rattle.c_lexer.specs.declared.token.Keyword.TheVariants as words
use Rattle.c_lexer.specs.declared.token.Punct.TheVariants as signs
use Rattle.c_syntax.specs.Sizes.{expression_depth, global_depth, item_depth, body_depth, or_zero, greatest}
use Rattle.c_syntax.specs.declared.tree.Expr.{Expr}
use Rattle.c_syntax.specs.declared.tree.Ty.{Ty}
use Rattle.c_syntax.specs.declared.tree.Stmt.{Stmt}
use Rattle.c_syntax.specs.declared.tree.Shape.TheVariants as shapes
use Rattle.c_syntax.specs.declared.tree.GlobalVar.{GlobalVar}
use Rattle.c_syntax.specs.declared.tree.Param.{Param}
use Rattle.c_syntax.specs.declared.tree.TopItem.{TopItem}
use Rattle.c_syntax.specs.declared.tree.TopItem.TheVariants as items
use Rattle.c_grammar.specs.declared.specifiers.Specifiers.{Specifiers}
use Rattle.c_grammar.specs.Places.{Place, mark, sign, word}
use Rattle.c_grammar.specs.Expressions.{cond, Reads}
use Rattle.c_grammar.specs.Specifiers.{with_word, Spells, none, more, is_value, is_local, is_function, type_of}
use Rattle.c_grammar.specs.Lists.{Separated, one}
use Rattle.c_grammar.specs.Lists.Separated.{more as further}
use Rattle.c_grammar.specs.Statements.{ReadsBody}
use Rattle.c_grammar.specs.Items.{ReadsLength, no_length, a_length, LastComma, no_comma, a_comma, ReadsGlobal, scalar, scalar_valued, array, array_valued, first_at, ReadsParam, named, unnamed, ReadsParams, nothing, void, params, all_named, ReadsItem, globals, prototype, function, ReadsItems, end, item}
use Rattle.c_grammar.specs.ReadExpressions.{Read, ◌>>=◌, after, is_close_paren, is_close_bracket}
use Rattle.c_grammar.specs.ReadStatements.{with_kind, separated, is_semicolon, is_open_paren, is_close_brace, is_specifier, starts}
use Rattle.c_grammar.specs.ReadItems.{body_from, brace_at, ends_here, after_value, values, length_at, closes_here, array_length, Maker, given_at, after_array, global_at, global_of, global, param_at, param_named, param_of, param, params_at, params_from, function_end, function_of, globals_from, item_at, item_behind, item_of, item_from, program_items}
use Rattle.c_grammar.proofs.Options.{some_is, none_is, clash, bind_is, length-cons}
use Rattle.c_grammar.proofs.Tables.{head_looseness}
use Rattle.c_grammar.proofs.Complete.{is_read, begins, Begins}
use Rattle.c_grammar.proofs.CompleteLists.{is_end, end_loose, WholePart, separated_whole, spelled, specifiers_stop, Named, named_with, named_length, specifiers_named, Specified, specified_with, spells_first}
use Rattle.c_grammar.proofs.CompleteStatements.{complete_body}

-- initialisers between braces
starts_no_brace : (kind : TokenKind) → starts kind ≡ true → is_close_brace kind ≡ false
starts_no_brace (kinds.Sign signs.CloseBrace) h = absurd (clash h refl)
starts_no_brace _ h = refl

starts_no_bracket : (kind : TokenKind) → starts kind ≡ true → is_close_bracket kind ≡ false
starts_no_bracket (kinds.Sign signs.CloseBracket) h = absurd (clash h refl)
starts_no_bracket _ h = refl

separated_begins : (ts : List Token) (es : List Expr) → Separated (Reads cond) ts es → Begins ts
separated_begins _ _ (one d) = begins d
separated_begins _ _ (further {a} {b} p d ds) = let h : Begins a = begins d in (h.0, h.1 ++ sign signs.Comma p ∷ b, ap (λ x. x ++ sign signs.Comma p ∷ b) h.2, h.3)

last_whole : (go : List Token → Read (List Expr)) (e : Expr) (c : List Token) → LastComma c → (u : Place) (rest : List Token) → after_value go e (c ++ sign signs.CloseBrace u ∷ rest) ≡ Some (e ∷ [], rest)
last_whole go e _ no_comma u rest = refl
last_whole go e _ (a_comma p) u rest = refl

last_loose : (c : List Token) → LastComma c → (u : Place) (rest : List Token) → 12 < head_looseness (c ++ sign signs.CloseBrace u ∷ rest)
last_loose _ no_comma u rest = omega arith
last_loose _ (a_comma p) u rest = omega arith

values_on : (go : List Token → Read (List Expr)) (e : Expr) (all : List Token) (t : Token) (us : List Token) → all ≡ t ∷ us → is_close_brace t.kind ≡ false → brace_at go e (ends_here all) all ≡ (go all >>= λ x. Some (e ∷ x.0, x.1))
values_on go e all t us h g = ap (λ b. brace_at go e b all) (ap ends_here h ∙ g)

values_whole : (lim : ℕ) → (ts : List Token) (es : List Expr) → Separated (Reads cond) ts es → (c : List Token) → LastComma c → (f : ℕ) (u : Place) (rest : List Token) → greatest (map expression_depth es) ≤ lim → length ts ≤ f → values lim f (ts ++ (c ++ sign signs.CloseBrace u ∷ rest)) ≡ Some (es, rest)
values_whole lim _ _ (one {ts} {x = e} d) c l zero u rest h g = let b : Begins ts = begins d in absurd (omega (arith, g, ap length b.2, length-cons b.0 b.1))
values_whole lim _ _ (one {ts} {x = e} d) c l (suc f) u rest h g = bind_is (λ x. after_value (values lim f) x.0 x.1) (is_read d lim (c ++ sign signs.CloseBrace u ∷ rest) (omega (arith, h)) (last_loose c l u rest)) ∙ last_whole (values lim f) e c l u rest
values_whole lim _ _ (further {a} {b} {x = e} {xs = es} p d ds) c l zero u rest h g = absurd (omega (arith, g, length-append a (sign signs.Comma p ∷ b), length-cons (sign signs.Comma p) b))
values_whole lim _ _ (further {a} {b} {x = e} {xs = es} p d ds) c l (suc f) u rest h g = let all : List Token = b ++ (c ++ sign signs.CloseBrace u ∷ rest) in let k : Begins b = separated_begins b es ds in ap (values lim (suc f)) (append_assoc a (sign signs.Comma p ∷ b) (c ++ sign signs.CloseBrace u ∷ rest)) ∙ bind_is (λ x. after_value (values lim f) x.0 x.1) (is_read d lim (sign signs.Comma p ∷ all) (omega (arith, h)) (omega arith)) ∙ values_on (values lim f) e all k.0 (k.1 ++ (c ++ sign signs.CloseBrace u ∷ rest)) (ap (λ x. x ++ (c ++ sign signs.CloseBrace u ∷ rest)) k.2) (starts_no_brace k.0.kind k.3) ∙ bind_is (λ x. Some (e ∷ x.0, x.1)) (values_whole lim b es ds c l f u rest (omega (arith, h)) (omega (arith, g, length-append a (sign signs.Comma p ∷ b), length-cons (sign signs.Comma p) b)))

length_whole : (lim : ℕ) → (ts : List Token) (l : Option Expr) → ReadsLength ts l → (r : Place) (rest : List Token) → or_zero expression_depth l ≤ lim → array_length lim (ts ++ sign signs.CloseBracket r ∷ rest) ≡ Some (l, rest)
length_whole lim _ _ no_length r rest h = refl
length_whole lim _ _ (a_length {ts} {e} d) r rest h = let b : Begins ts = begins d in ap (λ x. length_at lim x (ts ++ sign signs.CloseBracket r ∷ rest)) (ap (λ x. closes_here (x ++ sign signs.CloseBracket r ∷ rest)) b.2 ∙ starts_no_bracket b.0.kind b.3) ∙ bind_is (λ x. after is_close_bracket x.1 >>= λ rest. Some (Some x.0, rest)) (is_read d lim (sign signs.CloseBracket r ∷ rest) h (omega arith))

scalar_stops : (lim : ℕ) → (make : Maker) (kind : TokenKind) (t : Token) (ts : List Token) → is_end kind ≡ true → global_at lim make kind t ts ≡ Some (make shapes.Scalar [], t ∷ ts)
scalar_stops lim make (kinds.Sign signs.Equal) t ts h = absurd (clash h refl)
scalar_stops lim make (kinds.Sign signs.OpenBracket) t ts h = absurd (clash h refl)
scalar_stops lim make _ t ts h = refl

array_stops : (lim : ℕ) → (kind : TokenKind) (t : Token) (ts : List Token) → is_end kind ≡ true → given_at lim kind t ts ≡ Some ([], t ∷ ts)
array_stops lim (kinds.Sign signs.Equal) t ts h = absurd (clash h refl)
array_stops lim _ t ts h = refl

array_whole : (lim : ℕ) → (ty : Ty) (c : Bool) (a : List Token) (l : Option Expr) (n : ℕ) (p q r : Place) (rest : List Token) (y : GlobalVar × List Token) → ReadsLength a l → or_zero expression_depth l ≤ lim → after_array lim (global_of ty c n p.at) l rest ≡ Some y → global lim ty c (mark (kinds.Name n) p ∷ sign signs.OpenBracket q ∷ (a ++ sign signs.CloseBracket r ∷ rest)) ≡ Some y
array_whole lim ty c a l n p q r rest y d h g = bind_is (λ x. after_array lim (global_of ty c n p.at) x.0 x.1) (length_whole lim a l d r rest h) ∙ g

braces_whole : (lim : ℕ) → (make : Maker) (l : Option Expr) (s t u : Place) (b c : List Token) (es : List Expr) (rest : List Token) → Separated (Reads cond) b es → LastComma c → greatest (map expression_depth es) ≤ lim → after_array lim make l (sign signs.Equal s ∷ sign signs.OpenBrace t ∷ (b ++ (c ++ sign signs.CloseBrace u ∷ rest))) ≡ Some (make (shapes.Array l) es, rest)
braces_whole lim make l s t u b c es rest d k h = bind_is (λ x. Some (make (shapes.Array l) x.0, x.1)) (values_whole lim b es d c k (length (b ++ (c ++ sign signs.CloseBrace u ∷ rest))) u rest h (omega (arith, length-append b (c ++ sign signs.CloseBrace u ∷ rest))))

global_whole : (lim : ℕ) → (ty : Ty) (c : Bool) → WholePart (ReadsGlobal ty c) (global lim ty c) global_depth lim
global_whole lim ty c _ _ (scalar n p) h t rest g = scalar_stops lim (global_of ty c n p.at) t.kind t rest g
global_whole lim ty c _ _ (scalar_valued {ts} {e} n p q d) h t rest g = bind_is (λ x. Some (global_of ty c n p.at shapes.Scalar x.0, x.1)) (bind_is (λ x. Some (x.0 ∷ [], x.1)) (is_read d lim (t ∷ rest) (omega (arith, h)) (omega (arith, end_loose t.kind g))))
global_whole lim ty c _ _ (array {ts} {l} n p q r d) h t rest g = ap (λ us. global lim ty c (mark (kinds.Name n) p ∷ sign signs.OpenBracket q ∷ us)) (append_assoc ts (sign signs.CloseBracket r ∷ []) (t ∷ rest)) ∙ array_whole lim ty c ts l n p q r (t ∷ rest) (global_of ty c n p.at (shapes.Array l) [], t ∷ rest) d (omega (arith, h)) (bind_is (λ x. Some (global_of ty c n p.at (shapes.Array l) x.0, x.1)) (array_stops lim t.kind t rest g))
global_whole lim ty c _ _ (array_valued {a} {b} {c = k} {l} {es} n p q r s u v d ds m) h t rest g = ap (λ us. global lim ty c (mark (kinds.Name n) p ∷ sign signs.OpenBracket q ∷ us)) (append_assoc a (sign signs.CloseBracket r ∷ sign signs.Equal s ∷ sign signs.OpenBrace u ∷ (b ++ (k ++ sign signs.CloseBrace v ∷ []))) (t ∷ rest) ∙ ap (λ us. a ++ sign signs.CloseBracket r ∷ sign signs.Equal s ∷ sign signs.OpenBrace u ∷ us) (append_assoc b (k ++ sign signs.CloseBrace v ∷ []) (t ∷ rest) ∙ ap (λ us. b ++ us) (append_assoc k (sign signs.CloseBrace v ∷ []) (t ∷ rest)))) ∙ array_whole lim ty c a l n p q r (sign signs.Equal s ∷ sign signs.OpenBrace u ∷ (b ++ (k ++ sign signs.CloseBrace v ∷ (t ∷ rest)))) (global_of ty c n p.at (shapes.Array l) es, t ∷ rest) d (omega (arith, h)) (braces_whole lim (global_of ty c n p.at) l s u v b k es (t ∷ rest) ds m (omega (arith, h)))

-- a name, and no parenthesis behind it
abbrev pub NotOpen : List Token → Type 0
NotOpen [] = Unit {0}
NotOpen (t ∷ ts) = is_open_paren t.kind ≡ false

abbrev pub Variable : List Token → Type 0
Variable ts = (n : ℕ) × (p : Place) × (us : List Token) × (ts ≡ mark (kinds.Name n) p ∷ us) × NotOpen us

not_open_with : (us : List Token) (t : Token) (rest : List Token) → NotOpen us → is_open_paren t.kind ≡ false → NotOpen (us ++ t ∷ rest)
not_open_with [] t rest h g = g
not_open_with (u ∷ us) t rest h g = h

variable_with : (a : List Token) (t : Token) (rest : List Token) → Variable a → is_open_paren t.kind ≡ false → Variable (a ++ t ∷ rest)
variable_with a t rest h g = (h.0, h.1, h.2 ++ t ∷ rest, ap (λ x. x ++ t ∷ rest) h.3, not_open_with h.2 t rest h.4 g)

pub global_variable : (ty : Ty) (c : Bool) (ts : List Token) (g : GlobalVar) → ReadsGlobal ty c ts g → Variable ts
global_variable ty c _ _ (scalar n p) = (n, p, _, refl, tt)
global_variable ty c _ _ (scalar_valued n p q d) = (n, p, _, refl, refl)
global_variable ty c _ _ (array n p q r d) = (n, p, _, refl, refl)
global_variable ty c _ _ (array_valued n p q r s t u d ds m) = (n, p, _, refl, refl)

pub variable_named : (ts : List Token) → Variable ts → Named ts
variable_named ts h = (h.0, h.1, h.2, h.3)

globals_variable : (ty : Ty) (c : Bool) (ts : List Token) (gs : List GlobalVar) → Separated (ReadsGlobal ty c) ts gs → Variable ts
globals_variable ty c _ _ (one {ts} {x = g} d) = global_variable ty c ts g d
globals_variable ty c _ _ (further {a} {b} {x = g} {xs = gs} p d ds) = variable_with a (sign signs.Comma p) b (global_variable ty c a g d) refl

-- a parameter
param_stops : (s : Specifiers) (at : ℕ) (kind : TokenKind) (t : Token) (ts : List Token) → is_end kind ≡ true → param_at s at kind t ts ≡ Some (record { ty = type_of s; is_const = false; name = None; at = at }, t ∷ ts)
param_stops s at (kinds.Name n) t ts h = absurd (clash h refl)
param_stops s at _ t ts h = refl

end_no_word : (kind : TokenKind) (s : Specifiers) → is_end kind ≡ true → with_kind kind s ≡ None
end_no_word (kinds.Word w) s h = absurd (clash h refl)
end_no_word _ s h = refl

pub first_with : (a b : List Token) → Specified a → first_at (a ++ b) ≡ first_at a
first_with a b h = ap (λ x. first_at (x ++ b)) h.2 ∙ ap first_at (sym h.2)

abbrev pub nothing_of : Param → ℕ
nothing_of p = 0

param_whole : WholePart ReadsParam param nothing_of 0
param_whole _ _ (named {ts} {s} n p d i) h t rest g = ap param (append_assoc ts (mark (kinds.Name n) p ∷ []) (t ∷ rest)) ∙ ap (param_of (first_at (ts ++ mark (kinds.Name n) p ∷ t ∷ rest))) (specifiers_named ts s d (mark (kinds.Name n) p ∷ t ∷ rest) (n, p, t ∷ rest, refl)) ∙ rw i refl
param_whole _ _ (unnamed {ts} {s} d i) h t rest g = ap (param_of (first_at (ts ++ t ∷ rest))) (spelled ts s d (t ∷ rest) ∙ specifiers_stop s t rest (end_no_word t.kind s g)) ∙ ap (λ b. if b then param_named s (first_at (ts ++ t ∷ rest)) (t ∷ rest) else None) i ∙ param_stops s (first_at (ts ++ t ∷ rest)) t.kind t rest g ∙ ap (λ at. Some (record { ty = type_of s; is_const = false; name = None; at = at }, t ∷ rest)) (first_with ts (t ∷ rest) (spells_first ts s is_local d i refl))

pub param_specified : (ts : List Token) (p : Param) → ReadsParam ts p → Specified ts
param_specified _ _ (named {ts} {s} n p d i) = specified_with ts (mark (kinds.Name n) p ∷ []) (spells_first ts s is_local d i refl)
param_specified _ _ (unnamed {ts} {s} d i) = spells_first ts s is_local d i refl

-- a list of parameters doesn't begin with `void`
abbrev is_void_word : TokenKind → Bool
is_void_word (kinds.Word words.Void) = true
is_void_word _ = false

abbrev Voids : List Token → Specifiers → Type 0
Voids ts s = (ts ≡ []) ⊎ ((t : Token) × (us : List Token) × (ts ≡ t ∷ us) × (is_void_word t.kind ≡ true → s.void ≡ true))

once_is : (b : Bool) (m after : Specifiers) → (if b then None else Some m) ≡ Some after → m ≡ after
once_is true m after h = absurd (none_is h)
once_is false m after h = some_is h

void_stays : (w : Keyword) (s after : Specifiers) → with_word w s ≡ Some after → s.void ≡ true → after.void ≡ true
void_stays words.Int s after h g = ap (λ x. x.void) (sym (once_is s.int (record s { int = true }) after h)) ∙ g
void_stays words.Signed s after h g = ap (λ x. x.void) (sym (once_is s.signed (record s { signed = true }) after h)) ∙ g
void_stays words.Unsigned s after h g = ap (λ x. x.void) (sym (once_is s.unsigned (record s { unsigned = true }) after h)) ∙ g
void_stays words.Void s after h g = ap (λ x. x.void) (sym (once_is s.void (record s { void = true }) after h))
void_stays words.Const s after h g = ap (λ x. x.void) (sym (once_is s.is_const (record s { is_const = true }) after h)) ∙ g
void_stays words.Static s after h g = ap (λ x. x.void) (sym (once_is s.is_static (record s { is_static = true }) after h)) ∙ g
void_stays _ s after h g = absurd (none_is h)

void_comes : (w : Keyword) (s after : Specifiers) → with_word w s ≡ Some after → is_void_word (kinds.Word w) ≡ true → after.void ≡ true
void_comes words.Void s after h g = ap (λ x. x.void) (sym (once_is s.void (record s { void = true }) after h))
void_comes _ s after h g = absurd (clash g refl)

spells_voids : (ts : List Token) (s : Specifiers) → Spells ts s → Voids ts s
spells_voids _ _ none = inl refl
spells_voids _ _ (more {ts} {s} {after} w p d h) = elim (spells_voids ts s d) [ inl e ↦ inr (word w p, [], ap (λ x. x ++ word w p ∷ []) e, void_comes w s after h) | inr v ↦ inr (v.0, v.1 ++ word w p ∷ [], ap (λ x. x ++ word w p ∷ []) v.2, λ g. void_stays w s after h (v.3 g)) ]

-- tokens that begin with a word of specifiers other than `void`
abbrev ByWord : List Token → Type 0
ByWord ts = (t : Token) × (us : List Token) × (ts ≡ t ∷ us) × (is_specifier t.kind ≡ true) × (is_void_word t.kind ≡ false)

nil_cons : {t : Token} {us : List Token} → [] ≡ t ∷ us → ⊥
nil_cons h = cc

same_first : (t u : Token) (ts us : List Token) → t ∷ ts ≡ u ∷ us → is_void_word u.kind ≡ true → is_void_word t.kind ≡ true
same_first t u ts us h g = let e : t ≡ u = cc in ap (λ x. is_void_word x.kind) e ∙ g

void_out : (a b c : Bool) → (a && not b && not true && not c) ≡ false
void_out true true true = refl
void_out true true false = refl
void_out true false true = refl
void_out true false false = refl
void_out false true true = refl
void_out false true false = refl
void_out false false true = refl
void_out false false false = refl

no_void : (s : Specifiers) → is_local s ≡ true → s.void ≡ true → ⊥
no_void s h g = clash h (rw g (void_out (s.int || s.signed || s.unsigned) (s.signed && s.unsigned) s.is_static))

not_void : (b : Bool) → (b ≡ true → ⊥) → b ≡ false
not_void true h = absurd (h refl)
not_void false h = refl

spells_by_word : (ts : List Token) (s : Specifiers) → Spells ts s → is_local s ≡ true → ByWord ts
spells_by_word ts s d i = let f : Specified ts = spells_first ts s is_local d i refl in elim (spells_voids ts s d) [ inl e ↦ absurd (nil_cons (sym e ∙ f.2)) | inr v ↦ (f.0, f.1, f.2, f.3, not_void (is_void_word f.0.kind) (λ g. no_void s i (v.3 (same_first v.0 f.0 v.1 f.1 (sym v.2 ∙ f.2) g)))) ]

param_by_word : (ts : List Token) (p : Param) → ReadsParam ts p → ByWord ts
param_by_word _ _ (named {ts} {s} n p d i) = let b : ByWord ts = spells_by_word ts s d i in (b.0, b.1 ++ mark (kinds.Name n) p ∷ [], ap (λ x. x ++ mark (kinds.Name n) p ∷ []) b.2, b.3, b.4)
param_by_word _ _ (unnamed {ts} {s} d i) = spells_by_word ts s d i

params_by_word : (ts : List Token) (ps : List Param) → Separated ReadsParam ts ps → ByWord ts
params_by_word _ _ (one {ts} {x = p} d) = param_by_word ts p d
params_by_word _ _ (further {a} {b} {x = p} {xs = ps} q d ds) = let h : ByWord a = param_by_word a p d in (h.0, h.1 ++ sign signs.Comma q ∷ b, ap (λ x. x ++ sign signs.Comma q ∷ b) h.2, h.3, h.4)

params_goes : (kind : TokenKind) (t : Token) (ts : List Token) → is_specifier kind ≡ true → is_void_word kind ≡ false → params_at kind t ts ≡ (separated param (length (t ∷ ts)) (t ∷ ts) >>= λ x. after is_close_paren x.1 >>= λ rest. Some (x.0, rest))
params_goes (kinds.Sign s) t ts h g = absurd (clash h refl)
params_goes (kinds.Word words.Void) t ts h g = absurd (clash refl g)
params_goes _ t ts h g = refl

sizes_zero : (ps : List Param) → greatest (map nothing_of ps) ≤ 0
sizes_zero [] = omega arith
sizes_zero (p ∷ ps) = omega (arith, sizes_zero ps)

params_whole : (ts : List Token) (ps : List Param) → ReadsParams ts ps → (r : Place) (rest : List Token) → params_from (ts ++ sign signs.CloseParen r ∷ rest) ≡ Some (ps, rest)
params_whole _ _ nothing r rest = refl
params_whole _ _ (void p) r rest = refl
params_whole _ _ (params {ts} {ps} d) r rest = let all : List Token = ts ++ sign signs.CloseParen r ∷ rest in let b : ByWord ts = params_by_word ts ps d in let is : all ≡ b.0 ∷ (b.1 ++ sign signs.CloseParen r ∷ rest) = ap (λ x. x ++ sign signs.CloseParen r ∷ rest) b.2 in ap params_from is ∙ params_goes b.0.kind b.0 (b.1 ++ sign signs.CloseParen r ∷ rest) b.3 b.4 ∙ ap (λ us. separated param (length us) us >>= λ x. after is_close_paren x.1 >>= λ rest. Some (x.0, rest)) (sym is) ∙ bind_is (λ x. after is_close_paren x.1 >>= λ rest. Some (x.0, rest)) (separated_whole ReadsParam param nothing_of 0 param_whole (λ us x e. let h : ByWord us = param_by_word us x e in omega (arith, ap length h.2, length-cons h.0 h.1)) ts ps d (length all) (sign signs.CloseParen r) rest (sizes_zero ps) (omega (arith, length-append ts (sign signs.CloseParen r ∷ rest))) refl refl)

-- items
pub item_globals : (lim : ℕ) → (s : Specifiers) (n : ℕ) (t u : Token) (us : List Token) (kind : TokenKind) → is_open_paren kind ≡ false → item_at lim s n t kind u us ≡ globals_from lim s (t ∷ u ∷ us)
item_globals lim s n t u us (kinds.Sign signs.OpenParen) h = absurd (clash refl h)
item_globals lim s n t u us _ h = refl

behind_globals : (lim : ℕ) → (s : Specifiers) (n : ℕ) (t : Token) (us : List Token) (v : Token) (vs : List Token) → NotOpen us → is_open_paren v.kind ≡ false → item_behind lim s n t (us ++ v ∷ vs) ≡ globals_from lim s (t ∷ (us ++ v ∷ vs))
behind_globals lim s n t [] v vs h g = item_globals lim s n t v vs v.kind g
behind_globals lim s n t (u ∷ us) v vs h g = item_globals lim s n t u (us ++ v ∷ vs) u.kind h

globals_whole : (lim : ℕ) → (a b : List Token) (s : Specifiers) (gs : List GlobalVar) (p : Place) → Spells a s → is_value s ≡ true → Separated (ReadsGlobal (type_of s) s.is_const) b gs → (rest : List Token) → greatest (map global_depth gs) ≤ lim → item_from lim ((a ++ (b ++ sign signs.Semicolon p ∷ [])) ++ rest) ≡ Some (items.Globals gs, rest)
globals_whole lim a b s gs p d i ds rest h = let all : List Token = b ++ sign signs.Semicolon p ∷ rest in let v : Variable b = globals_variable (type_of s) s.is_const b gs ds in let is : all ≡ mark (kinds.Name v.0) v.1 ∷ (v.2 ++ sign signs.Semicolon p ∷ rest) = ap (λ x. x ++ sign signs.Semicolon p ∷ rest) v.3 in ap (item_from lim) (append_assoc a (b ++ sign signs.Semicolon p ∷ []) rest ∙ ap (λ us. a ++ us) (append_assoc b (sign signs.Semicolon p ∷ []) rest)) ∙ ap (item_of lim) (specifiers_named a s d all (named_with b (sign signs.Semicolon p ∷ rest) (variable_named b v))) ∙ ap (λ us. item_of lim (s, us)) is ∙ behind_globals lim s v.0 (mark (kinds.Name v.0) v.1) v.2 (sign signs.Semicolon p) rest v.4 refl ∙ ap (globals_from lim s) (sym is) ∙ ap (λ x. if x then (separated (global lim (type_of s) s.is_const) (length all) all >>= λ x. after is_semicolon x.1 >>= λ rest. Some (items.Globals x.0, rest)) else None) i ∙ bind_is (λ x. after is_semicolon x.1 >>= λ rest. Some (items.Globals x.0, rest)) (separated_whole (ReadsGlobal (type_of s) s.is_const) (global lim (type_of s) s.is_const) global_depth lim (global_whole lim (type_of s) s.is_const) (λ us x e. named_length us (variable_named us (global_variable (type_of s) s.is_const us x e))) b gs ds (length all) (sign signs.Semicolon p) rest h (omega (arith, length-append b (sign signs.Semicolon p ∷ rest))) refl refl)

function_whole : (lim : ℕ) → (a b : List Token) (s : Specifiers) (ps : List Param) (n : ℕ) (p q r : Place) → Spells a s → is_function s ≡ true → ReadsParams b ps → (rest : List Token) (y : TopItem × List Token) → function_end lim (function_of s n p.at ps) ps rest ≡ Some y → item_from lim (a ++ mark (kinds.Name n) p ∷ sign signs.OpenParen q ∷ (b ++ sign signs.CloseParen r ∷ rest)) ≡ Some y
function_whole lim a b s ps n p q r d i e rest y h = let all : List Token = b ++ sign signs.CloseParen r ∷ rest in ap (item_of lim) (specifiers_named a s d (mark (kinds.Name n) p ∷ sign signs.OpenParen q ∷ all) (n, p, sign signs.OpenParen q ∷ all, refl)) ∙ ap (λ x. if x then (params_from all >>= λ x. function_end lim (function_of s n p.at x.0) x.0 x.1) else None) i ∙ bind_is (λ x. function_end lim (function_of s n p.at x.0) x.0 x.1) (params_whole b ps e r rest) ∙ h

body_from_whole : (lim : ℕ) (u : Place) (c : List Token) (cs : List Stmt) (rest : List Token) → ReadsBody c cs → body_depth cs ≤ lim → body_from lim (c ++ sign signs.CloseBrace u ∷ rest) ≡ Some (cs, rest)
body_from_whole zero u c cs rest d h = absurd (omega (arith, h))
body_from_whole (suc m) u c cs rest d h = complete_body d m (suc (length (c ++ sign signs.CloseBrace u ∷ rest))) u rest (omega (arith, h)) (omega (arith, length-append c (sign signs.CloseBrace u ∷ rest)))

body_whole : (lim : ℕ) → (s : Specifiers) (n at : ℕ) (ps : List Param) (t u : Place) (c : List Token) (cs : List Stmt) (rest : List Token) → all_named ps ≡ true → ReadsBody c cs → body_depth cs ≤ lim → function_end lim (function_of s n at ps) ps (sign signs.OpenBrace t ∷ (c ++ sign signs.CloseBrace u ∷ rest)) ≡ Some (items.Function (function_of s n at ps (Some cs)), rest)
body_whole lim s n at ps t u c cs rest i d h = let all : List Token = c ++ sign signs.CloseBrace u ∷ rest in ap (λ x. if x then (body_from lim all >>= λ x. Some (items.Function (function_of s n at ps (Some x.0)), x.1)) else None) i ∙ bind_is (λ x. Some (items.Function (function_of s n at ps (Some x.0)), x.1)) (body_from_whole lim u c cs rest d h)

pub item_whole : (lim : ℕ) → (ts : List Token) (i : TopItem) → ReadsItem ts i → (rest : List Token) → item_depth i ≤ lim → item_from lim (ts ++ rest) ≡ Some (i, rest)
item_whole lim _ _ (globals {a} {b} {s} {gs} p d i ds) rest h = globals_whole lim a b s gs p d i ds rest h
item_whole lim _ _ (prototype {a} {b} {s} {ps} n p q r t d i e) rest h = ap (item_from lim) (append_assoc a (mark (kinds.Name n) p ∷ sign signs.OpenParen q ∷ (b ++ sign signs.CloseParen r ∷ sign signs.Semicolon t ∷ [])) rest ∙ ap (λ us. a ++ mark (kinds.Name n) p ∷ sign signs.OpenParen q ∷ us) (append_assoc b (sign signs.CloseParen r ∷ sign signs.Semicolon t ∷ []) rest)) ∙ function_whole lim a b s ps n p q r d i e (sign signs.Semicolon t ∷ rest) (items.Function (function_of s n p.at ps None), rest) refl
item_whole lim _ _ (function {a} {b} {c} {s} {ps} {body = cs} n p q r t u d i e g k) rest h = ap (item_from lim) (append_assoc a (mark (kinds.Name n) p ∷ sign signs.OpenParen q ∷ (b ++ sign signs.CloseParen r ∷ sign signs.OpenBrace t ∷ (c ++ sign signs.CloseBrace u ∷ []))) rest ∙ ap (λ us. a ++ mark (kinds.Name n) p ∷ sign signs.OpenParen q ∷ us) (append_assoc b (sign signs.CloseParen r ∷ sign signs.OpenBrace t ∷ (c ++ sign signs.CloseBrace u ∷ [])) rest ∙ ap (λ us. b ++ sign signs.CloseParen r ∷ sign signs.OpenBrace t ∷ us) (append_assoc c (sign signs.CloseBrace u ∷ []) rest))) ∙ function_whole lim a b s ps n p q r d i e (sign signs.OpenBrace t ∷ (c ++ sign signs.CloseBrace u ∷ rest)) (items.Function (function_of s n p.at ps (Some cs)), rest) (body_whole lim s n p.at ps t u c cs rest g k h)

item_specified : (ts : List Token) (i : TopItem) → ReadsItem ts i → Specified ts
item_specified _ _ (globals {a} {b} {s} {gs} p d i ds) = specified_with a (b ++ sign signs.Semicolon p ∷ []) (spells_first a s is_value d i refl)
item_specified _ _ (prototype {a} {b} {s} {ps} n p q r t d i e) = specified_with a (mark (kinds.Name n) p ∷ sign signs.OpenParen q ∷ (b ++ sign signs.CloseParen r ∷ sign signs.Semicolon t ∷ [])) (spells_first a s is_function d i refl)
item_specified _ _ (function {a} {b} {c} {s} {ps} {body = cs} n p q r t u d i e g k) = specified_with a (mark (kinds.Name n) p ∷ sign signs.OpenParen q ∷ (b ++ sign signs.CloseParen r ∷ sign signs.OpenBrace t ∷ (c ++ sign signs.CloseBrace u ∷ []))) (spells_first a s is_function d i refl)

pub item_length : (ts : List Token) (i : TopItem) → ReadsItem ts i → 1 ≤ length ts
item_length ts i d = let s : Specified ts = item_specified ts i d in omega (arith, ap length s.2, length-cons s.0 s.1)

items_step : (lim : ℕ) → (f : ℕ) (all : List Token) (t : Token) (us : List Token) → all ≡ t ∷ us → program_items lim (suc f) all ≡ (item_from lim all >>= λ x. program_items lim f x.1 >>= λ is. Some (x.0 ∷ is))
items_step lim f all t us h = ap (program_items lim (suc f)) h ∙ ap (λ us. item_from lim us >>= λ x. program_items lim f x.1 >>= λ is. Some (x.0 ∷ is)) (sym h)

pub items_whole : (lim : ℕ) → (ts : List Token) (is : List TopItem) → ReadsItems ts is → (f : ℕ) → greatest (map item_depth is) ≤ lim → length ts ≤ f → program_items lim f ts ≡ Some is
items_whole lim _ _ end f h g = refl
items_whole lim _ _ (item {a} {b} {i} {is} d ds) zero h g = absurd (omega (arith, g, length-append a b, item_length a i d))
items_whole lim _ _ (item {a} {b} {i} {is} d ds) (suc f) h g = let s : Specified a = item_specified a i d in items_step lim f (a ++ b) s.0 (s.1 ++ b) (ap (λ x. x ++ b) s.2) ∙ bind_is (λ x. program_items lim f x.1 >>= λ is. Some (x.0 ∷ is)) (item_whole lim a i d b (omega (arith, h))) ∙ bind_is (λ is. Some (i ∷ is)) (items_whole lim b is ds f (omega (arith, h)) (omega (arith, g, length-append a b, item_length a i d)))
