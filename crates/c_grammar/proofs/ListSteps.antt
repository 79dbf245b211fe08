-- The steps of the code's loops over lists and blocks.
use Rattle.std.proofs.Common.{◌≡◌, ◌≤◌, ◌<◌, ◌-◌, ◌++◌, ℕ, zero, suc, Bool, true, false, List, [], ◌∷◌, Some, None, refl, sym, ap, ◌∙◌, arith, length, max}
use Rattle.std.proofs.lemmas.List.{append_assoc, append-nil, length-append}
use Rattle.c_lexer.specs.declared.token.Token.{Token}
use Rattle.c_lexer.specs.declared.token.TokenKind.{TokenKind}
use Rattle.c_lexer.specs.declared.token.TokenKind.TheVariants as kinds
use Rattle.c_lexer.specs.declared.token.Punct.TheVariants as signs
use Rattle.c_syntax.specs.Sizes.{label_depth, local_depth}
use Rattle.c_syntax.specs.declared.tree.Ty.{Ty}
use Rattle.c_syntax.specs.declared.tree.Local.{Local}
use Rattle.c_syntax.specs.declared.tree.Stmt.{Stmt, Declare}
use Rattle.c_grammar.specs.declared.specifiers.Specifiers.{Specifiers}
use Rattle.c_grammar.specs.Specifiers.{no_words, is_local, type_of}
use Rattle.c_grammar.specs.ReadExpressions.{Read, ◌>>=◌, closed, is_comma_sign}
use Rattle.c_grammar.specs.Statements.{ReadsLocal, Declares, ReadsLabel}
use Rattle.c_grammar.specs.ReadStatements.{specifiers, is_semicolon, more_at, separated, local, declaration, declaration_of, declare_from, part, body, body_at, statement, statement_from, declared, clause, clause_from, is_close_brace, is_specifier, is_label, until, label, begins_label, switch_clause}
use Rattle.c_grammar.proofs.Options.{some_is, none_is, clash, bind_is, bind_some, length-cons}
use Rattle.c_grammar.proofs.CompleteLists.{NotEmpty, named_length, local_named_is, Specified, declares_specified}
use Rattle.c_grammar.proofs.CompleteStatements.{BeginsStatement, begins_statement, begins_with_label, body_step, clause_declares, until_ends, until_goes}
use Rattle.c_grammar.proofs.SoundLists.{FoundOf, SoundPart, sizes, local_sound, declaration_sound}
use Rattle.c_grammar.proofs.SoundStatements.{FoundStatement, FoundClause, label_sound, switch_clause_sound, sound}

-- what was read before, and what is read from here on
abbrev pub fronted : {A : Type 0} → List A → Read (List A) → Read (List A)
fronted front r = r >>= λ x. Some (front ++ x.0, x.1)

pub fronted_none : {A : Type 0} (r : Read (List A)) → fronted [] r ≡ r
fronted_none None = refl
fronted_none (Some x) = refl

pub front_cons : {A : Type 0} (front : List A) (e : A) (m : Read (List A)) → fronted front (m >>= λ x. Some (e ∷ x.0, x.1)) ≡ fronted (front ++ e ∷ []) m
front_cons front e None = refl
front_cons front e (Some x) = ap (λ es. Some (es, x.1)) (sym (append_assoc front (e ∷ []) x.0))

-- what is read is shorter than all
abbrev pub Falls : {A : Type 0} → (List Token → Read A) → Type 0
Falls {A} item = (ts : List Token) (x : A) (rest : List Token) → item ts ≡ Some (x, rest) → length rest < length ts

pub falls_of : {A : Type 0} (R : List Token → A → Type 0) (item : List Token → Read A) (size : A → ℕ) (n : ℕ) → SoundPart R item size n → NotEmpty R → Falls item
falls_of R item size n s e ts x rest h = let f : FoundOf R size n ts (x, rest) = s ts (x, rest) h in omega (arith, ap length f.split, length-append f.front rest, e f.front x f.reads)

more_goes : {A : Type 0} (go : List Token → Read (List A)) (x : A) (t : Token) (ts : List Token) → is_comma_sign t.kind ≡ true → more_at go x (t ∷ ts) ≡ (go ts >>= λ y. Some (x ∷ y.0, y.1))
more_goes go x t ts h = rw h refl

more_stops : {A : Type 0} (go : List Token → Read (List A)) (x : A) (t : Token) (ts : List Token) → is_comma_sign t.kind ≡ false → more_at go x (t ∷ ts) ≡ Some (x ∷ [], t ∷ ts)
more_stops go x t ts h = rw h refl

separated_is : {A : Type 0} (item : List Token → Read A) (f : ℕ) (ts behind : List Token) (x : A) → item ts ≡ Some (x, behind) → separated item (suc f) ts ≡ more_at (separated item f) x behind
separated_is item f ts behind x h = bind_is (λ y. more_at (separated item f) y.0 y.1) h

pub separated_on : {A : Type 0} (item : List Token → Read A) → Falls item → (f : ℕ) (front : List A) (ts behind : List Token) (x : A) (t : Token) (next : List Token) → length ts ≤ f → item ts ≡ Some (x, behind) → behind ≡ t ∷ next → is_comma_sign t.kind ≡ true → (g : ℕ) × (length next ≤ g) × (fronted front (separated item f ts) ≡ fronted (front ++ x ∷ []) (separated item g next))
separated_on item falls zero front ts behind x t next l h g k = absurd (omega (arith, l, falls ts x behind h))
separated_on item falls (suc f) front ts behind x t next l h g k = (f, omega (arith, l, falls ts x behind h, ap length g, length-cons t next), ap (fronted front) (separated_is item f ts behind x h ∙ ap (more_at (separated item f) x) g ∙ more_goes (separated item f) x t next k) ∙ front_cons front x (separated item f next))

pub separated_end : {A : Type 0} (item : List Token → Read A) → Falls item → (f : ℕ) (front : List A) (ts behind : List Token) (x : A) (t : Token) (next : List Token) → length ts ≤ f → item ts ≡ Some (x, behind) → behind ≡ t ∷ next → is_comma_sign t.kind ≡ false → fronted front (separated item f ts) ≡ Some (front ++ x ∷ [], behind)
separated_end item falls zero front ts behind x t next l h g k = absurd (omega (arith, l, falls ts x behind h))
separated_end item falls (suc f) front ts behind x t next l h g k = ap (fronted front) (separated_is item f ts behind x h ∙ ap (more_at (separated item f) x) g ∙ more_stops (separated item f) x t next k) ∙ ap (λ us. Some (front ++ x ∷ [], us)) (sym g)

pub separated_last : {A : Type 0} (item : List Token → Read A) → Falls item → (f : ℕ) (front : List A) (ts behind : List Token) (x : A) → length ts ≤ f → item ts ≡ Some (x, behind) → behind ≡ [] → fronted front (separated item f ts) ≡ Some (front ++ x ∷ [], behind)
separated_last item falls zero front ts behind x l h g = absurd (omega (arith, l, falls ts x behind h))
separated_last item falls (suc f) front ts behind x l h g = ap (fronted front) (separated_is item f ts behind x h ∙ ap (more_at (separated item f) x) g) ∙ ap (λ us. Some (front ++ x ∷ [], us)) (sym g)

pub separated_fails : {A : Type 0} (item : List Token → Read A) (f : ℕ) (front : List A) (ts : List Token) → item ts ≡ None → fronted front (separated item f ts) ≡ None
separated_fails item zero front ts h = refl
separated_fails item (suc f) front ts h = ap (λ m. fronted front (m >>= λ x. more_at (separated item f) x.0 x.1)) h

pub local_falls : (n : ℕ) (ty : Ty) (c : Bool) → Falls (local n ty c)
local_falls n ty c = falls_of (ReadsLocal ty c) (local n ty c) local_depth n (local_sound n ty c) (λ ts x d. named_length ts (local_named_is ty c ts x d))

pub sizes_more : {A : Type 0} (size : A → ℕ) (xs : List A) (x : A) → sizes size (xs ++ x ∷ []) ≡ max (sizes size xs) (size x)
sizes_more size [] x = omega arith
sizes_more size (y ∷ xs) x = omega (arith, sizes_more size xs x)

pub more_deep : {A : Type 0} (size : A → ℕ) (xs all : List A) (x : A) (d m r : ℕ) → all ≡ xs ++ x ∷ [] → d ≡ sizes size xs → m ≡ size x → r ≡ max d m → r ≡ sizes size all
more_deep size xs all x d m r h a b c = rw (h, sizes_more size xs x, ← a, ← b) c

pub pushed : {A : Type 0} (xs all : List A) (x e : A) → all ≡ xs ++ x ∷ [] → x ≡ e → all ≡ xs ++ e ∷ []
pushed xs all x e h g = h ∙ ap (λ z. xs ++ z ∷ []) g

-- a part of a block is shorter than all
declare_falls : (n : ℕ) (ts : List Token) (y : Stmt × List Token) → declare_from n ts ≡ Some y → length y.1 < length ts
declare_falls zero ts y h = absurd (none_is h)
declare_falls (suc n) ts y h = let r : (x : List Local × List Token) × (declaration n ts ≡ Some x) × (Some (Declare x.0, x.1) ≡ Some y) = bind_some (declaration n ts) (λ x. Some (Declare x.0, x.1)) y h in let f : FoundOf Declares (sizes local_depth) n ts r.0 = declaration_sound n ts r.0 r.1 in let s : Specified f.front = declares_specified f.front r.0.0 f.reads in let e : length r.0.1 ≡ length y.1 = ap (λ z. length z.1) (some_is r.2) in omega (arith, ap length f.split, length-append f.front r.0.1, ap length s.2, length-cons s.0 s.1, e)

pub part_falls : (n : ℕ) (b : Bool) → Falls (part (statement n) n b)
part_falls n true ts c rest h = declare_falls n ts (c, rest) h
part_falls n false ts c rest h = let f : FoundStatement n ts (c, rest) = sound n ts (c, rest) h in let s : BeginsStatement f.front = begins_statement f.reads in omega (arith, ap length f.split, length-append f.front rest, ap length s.2, length-cons s.0 s.1)

pub body_on : (n f : ℕ) (front : List Stmt) (ts : List Token) (t : Token) (us : List Token) (b : Bool) (c : Stmt) (next : List Token) → length ts < f → ts ≡ t ∷ us → is_close_brace t.kind ≡ false → is_specifier t.kind ≡ b → part (statement n) n b ts ≡ Some (c, next) → (g : ℕ) × (length next < g) × (fronted front (body (statement n) n f ts) ≡ fronted (front ++ c ∷ []) (body (statement n) n g next))
body_on n zero front ts t us b c next l h g k p = absurd (omega (arith, l))
body_on n (suc f) front ts t us b c next l h g k p = (f, omega (arith, l, part_falls n b ts c next p), ap (fronted front) (body_step (statement n) n f ts t us b h g k ∙ bind_is (λ x. body (statement n) n f x.1 >>= λ y. Some (x.0 ∷ y.0, y.1)) p) ∙ front_cons front c (body (statement n) n f next))

pub body_fails : (n f : ℕ) (front : List Stmt) (ts : List Token) (t : Token) (us : List Token) (b : Bool) → ts ≡ t ∷ us → is_close_brace t.kind ≡ false → is_specifier t.kind ≡ b → part (statement n) n b ts ≡ None → fronted front (body (statement n) n f ts) ≡ None
body_fails n zero front ts t us b h g k p = refl
body_fails n (suc f) front ts t us b h g k p = ap (fronted front) (body_step (statement n) n f ts t us b h g k ∙ ap (λ m. m >>= λ x. body (statement n) n f x.1 >>= λ y. Some (x.0 ∷ y.0, y.1)) p)

brace_ends : (self : List Token → Read Stmt) (n : ℕ) (go : List Token → Read (List Stmt)) (kind : TokenKind) (t : Token) (ts : List Token) → is_close_brace kind ≡ true → body_at self n go kind t ts ≡ Some ([], ts)
brace_ends self n go (kinds.Sign signs.CloseBrace) t ts h = refl
brace_ends self n go _ t ts h = absurd (clash h refl)

pub body_end : (n f : ℕ) (front : List Stmt) (ts : List Token) (t : Token) (us : List Token) → length ts < f → ts ≡ t ∷ us → is_close_brace t.kind ≡ true → fronted front (body (statement n) n f ts) ≡ Some (front, us)
body_end n zero front ts t us l h g = absurd (omega (arith, l))
body_end n (suc f) front ts t us l h g = ap (fronted front) (ap (body (statement n) n (suc f)) h ∙ brace_ends (statement n) n (body (statement n) n f) t.kind t us g) ∙ ap (λ cs. Some (cs, us)) (append-nil front)

pub body_empty : (n f : ℕ) (front : List Stmt) (ts : List Token) → ts ≡ [] → fronted front (body (statement n) n f ts) ≡ None
body_empty n zero front ts h = refl
body_empty n (suc f) front ts h = ap (λ us. fronted front (body (statement n) n (suc f) us)) h

-- ---- parts up to a token that ends them

pub label_falls : (n : ℕ) → Falls (label n)
label_falls n = falls_of ReadsLabel (label n) label_depth n (label_sound n) (λ ts l d. let m = begins_with_label d in omega (arith, ap length m.2, length-cons m.0 m.1))

pub statement_falls : (n : ℕ) → Falls (statement n)
statement_falls n ts c rest h = part_falls n false ts c rest h

pub switch_clause_falls : (n : ℕ) → Falls (switch_clause (statement n) n)
switch_clause_falls n ts c rest h = let f : FoundClause n ts (c, rest) = switch_clause_sound n (statement n) (sound n) ts (c, rest) h in omega (arith, ap length f.split, length-append f.front rest, ap length f.begins.2, length-cons f.begins.0 f.begins.1)

pub until_on : {A : Type 0} (ends : TokenKind → Bool) (item : List Token → Read A) → Falls item → (f : ℕ) (front : List A) (ts : List Token) (t : Token) (us : List Token) (x : A) (next : List Token) → length ts < f → ts ≡ t ∷ us → ends t.kind ≡ false → item ts ≡ Some (x, next) → (g : ℕ) × (length next < g) × (fronted front (until ends item f ts) ≡ fronted (front ++ x ∷ []) (until ends item g next))
until_on ends item falls zero front ts t us x next l h g p = absurd (omega (arith, l))
until_on ends item falls (suc f) front ts t us x next l h g p = (f, omega (arith, l, falls ts x next p), ap (fronted front) (until_goes ends item f ts t us h g ∙ bind_is (λ x. until ends item f x.1 >>= λ y. Some (x.0 ∷ y.0, y.1)) p) ∙ front_cons front x (until ends item f next))

pub until_fails : {A : Type 0} (ends : TokenKind → Bool) (item : List Token → Read A) (f : ℕ) (front : List A) (ts : List Token) (t : Token) (us : List Token) → ts ≡ t ∷ us → ends t.kind ≡ false → item ts ≡ None → fronted front (until ends item f ts) ≡ None
until_fails ends item zero front ts t us h g p = refl
until_fails ends item (suc f) front ts t us h g p = ap (fronted front) (until_goes ends item f ts t us h g ∙ ap (λ m. m >>= λ x. until ends item f x.1 >>= λ y. Some (x.0 ∷ y.0, y.1)) p)

pub until_end : {A : Type 0} (ends : TokenKind → Bool) (item : List Token → Read A) (f : ℕ) (front : List A) (ts : List Token) (t : Token) (us : List Token) → length ts < f → ts ≡ t ∷ us → ends t.kind ≡ true → fronted front (until ends item f ts) ≡ Some (front, ts)
until_end ends item zero front ts t us l h g = absurd (omega (arith, l))
until_end ends item (suc f) front ts t us l h g = ap (fronted front) (ap (until ends item (suc f)) h ∙ until_ends ends item f t us g ∙ ap (λ us. Some ([], us)) (sym h)) ∙ ap (λ xs. Some (xs, ts)) (append-nil front)

pub until_empty : {A : Type 0} (ends : TokenKind → Bool) (item : List Token → Read A) (f : ℕ) (front : List A) (ts : List Token) → ts ≡ [] → fronted front (until ends item f ts) ≡ None
until_empty ends item zero front ts h = refl
until_empty ends item (suc f) front ts h = ap (λ us. fronted front (until ends item (suc f) us)) h

pub label_none : (n : ℕ) (ts : List Token) (t : Token) (us : List Token) → ts ≡ t ∷ us → is_label t.kind ≡ false → begins_label ts ≡ false
label_none n ts t us h g = ap begins_label h ∙ g

pub statement_step : (n : ℕ) (ts : List Token) → 0 < n → statement n ts ≡ statement_from (statement (n - 1)) (n - 1) ts
statement_step zero ts h = absurd (omega (arith, h))
statement_step (suc n) ts h = let minus : suc n - 1 ≡ n = omega arith in rw minus refl

pub declare_step : (n : ℕ) (ts : List Token) → 0 < n → declare_from n ts ≡ declared (n - 1) ts
declare_step zero ts h = absurd (omega (arith, h))
declare_step (suc n) ts h = let minus : suc n - 1 ≡ n = omega arith in rw minus refl

pub clause_step : (n : ℕ) (ts : List Token) → 0 < n → clause n ts ≡ clause_from (n - 1) ts
clause_step zero ts h = absurd (omega (arith, h))
clause_step (suc n) ts h = let minus : suc n - 1 ≡ n = omega arith in rw minus refl

pub nothing_left : (ts : List Token) → length ts ≡ 0 → ts ≡ []
nothing_left [] h = refl
nothing_left (t ∷ ts) h = absurd (omega (arith, h, length-cons t ts))

pub declaration_is : (n : ℕ) (ts : List Token) (s : Specifiers) (rest : List Token) (ty : Ty) (ls : List Local) (behind : List Token) → (s, rest) ≡ specifiers no_words ts → is_local s ≡ true → ty ≡ type_of s → separated (local n ty s.is_const) (length rest) rest ≡ Some (ls, behind) → declaration n ts ≡ closed is_semicolon ls behind
declaration_is n ts s rest ty ls behind h i e g = ap (declaration_of n) (sym h) ∙ rw (i, ← e, g) refl

pub clause_is : (n : ℕ) (ts : List Token) (t : Token) (us : List Token) → ts ≡ t ∷ us → is_specifier t.kind ≡ true → clause_from n ts ≡ declared n ts
clause_is n ts t us h g = ap (clause_from n) h ∙ clause_declares n t.kind t us g ∙ ap (declared n) (sym h)
