-- The names at file scope, and the variables there: each has its own name, stands for a variable of its shape, and begins with words.
use Rattle.std.proofs.Common.{◌≡◌, ℕ, zero, suc, ◌^◌, ◌<◌, ◌≤◌, Bool, true, false, not, ◌&&◌, List, [], ◌∷◌, ◌++◌, map, length, Option, Some, is_some, refl, sym, ap, subst, ◌==◌, nat_le, arith}
use Rattle.std.specs.List.{AllByRecursion, list_all}
use Rattle.std.proofs.lemmas.Bool.{eqb-true, ne_eqb}
use Rattle.std.proofs.lemmas.List.Elements.{All-nil, All-cons}
use Rattle.hard_words.specs.Words.{AreWords}
use Rattle.c_syntax.specs.declared.tree.Ty.TheVariants.{Int, Void}
use Rattle.c_syntax.specs.declared.tree.Expr.{Expr}
use Rattle.c_syntax.specs.declared.tree.Shape.{Shape}
use Rattle.c_syntax.specs.declared.tree.Shape.TheVariants as shape
use Rattle.c_syntax.specs.declared.tree.GlobalVar.{GlobalVar}
use Rattle.c_meaning.specs.Operators.{is_unsigned_type}
use Rattle.c_meaning.specs.Run.{Global}
use Rattle.c_meaning.specs.Meaning.{constant, padded, first_or_zero, array_length, initial, global}
use Rattle.c_syntax.specs.Literals.{literals_are_words, shape_literals, global_literals}
use Rattle.check_rules.specs.declared.error.CheckKind.TheVariants.{NameTwice, NotConstant, BadLength}
use Rattle.check_rules.specs.declared.decl.Decl.{Decl}
use Rattle.check_rules.specs.declared.names.Kind.{Kind}
use Rattle.check_rules.specs.declared.names.Kind.TheVariants.{Function as FunctionKind}
use Rattle.check_rules.specs.declared.names.Known.{Known}
use Rattle.check_rules.specs.declared.names.Binding.{Binding}
use Rattle.check_rules.specs.Fault.{require}
use Rattle.check_rules.specs.Scopes.{Scope, lookup, Walking, binding, enter_file}
use Rattle.check_rules.specs.Walk.{is_scalar, is_array as is_array_kind, is_among, with_value, place_of, is_free, has_constant_value, new_name, walk_initialisers, kind_of_shape, walk_shape, elements, most_elements, global_decl, walk_global, walk_globals}
use Rattle.check_law.proofs.Yields.{Yields, yields_ok, yields_err, yields_then, yields_after, required}
use Rattle.check_law.proofs.Unchanged.{and_true}
use Rattle.check_law.proofs.Positions.{some_known}
use Rattle.check_law.proofs.Holds.{Sub, sub_refl, sub_trans}
use Rattle.check_law.proofs.ItemRuns.{not_there, sub_entered}
use Rattle.lower_rules.specs.Bindings.{GlobalShape, find_shape}
use Rattle.lower_rules.specs.Scoping.{is_word, is_array}
use Rattle.lower_rules.specs.Programs.{object_words, shape_of}
use Rattle.lower_rules.specs.Fitting.{AreWordsAll}
use Rattle.lower_checked.proofs.Ascends.{Ascends, ascends_both, shape_name, FoundEach}
use Rattle.lower_checked.proofs.Constants.{constant_is_word}
use Rattle.lower_checked.proofs.CheckedFitsInside.{one_more}

-- ---- the state of the walk between items

abbrev pub NamesBelow : ℕ → Scope → Type 0
NamesBelow hi [] = Unit {0}
NamesBelow hi (b ∷ bs) = (b.name < hi) × NamesBelow hi bs

pub names_more : (hi hi' : ℕ) (s : Scope) → hi ≤ hi' → NamesBelow hi s → NamesBelow hi' s
names_more hi hi' [] le x = tt
names_more hi hi' (b ∷ bs) le x = (omega (arith, le, x.0), names_more hi hi' bs le x.1)

pub name_below : (hi n : ℕ) (d : Known) (s : Scope) → NamesBelow hi s → lookup n s ≡ Some d → n < hi
name_below hi n d [] x is = absurd cc
name_below hi n d (b ∷ bs) x is = at (b.name == n) refl (λ h. name_below hi n d bs x.1 h)
  where
    at : (t : Bool) → (b.name == n) ≡ t → (lookup n bs ≡ Some d → n < hi) → n < hi
    at true same go = subst (λ m. m < hi) (eqb-true b.name n same) x.0
    at false other go = let h = rw other at is in go h

-- the two functions that are there before the text
abbrev pub in_word_known : Known
in_word_known = record { position = 0; kind = FunctionKind Int [] }

abbrev pub out_word_known : Known
out_word_known = record { position = 1; kind = FunctionKind Void (Int ∷ []) }

pub record AtFile (w : Walking) : Type 0 where
  pub no_blocks : w.blocks ≡ []
  pub below : NamesBelow (length w.decls) w.file
  pub in_word : lookup 0 w.file ≡ Some in_word_known
  pub out_word : lookup 1 w.file ≡ Some out_word_known
  pub in_body : is_among 0 w.bodies ≡ true
  pub out_body : is_among 1 w.bodies ≡ true

still_there : (b : Binding) (hi n : ℕ) (d : Known) (s : Scope) → b.name ≡ hi → NamesBelow hi s → lookup n s ≡ Some d → lookup n (b ∷ s) ≡ Some d
still_there b hi n d s e x is =
    let lt = name_below hi n d s x is in
    let other : (b.name == n) ≡ false = ne_eqb b.name n (λ q. omega (arith, lt, q, e)) in
    rw other is

pub at_file_entered : (n : ℕ) (k : Kind) (decl : Decl) (w : Walking) → n ≡ length w.decls → AtFile w → AtFile (enter_file n k decl w)
at_file_entered n k decl w is a =
    let e = one_more [] w.decls decl in
    record {
      no_blocks = a.no_blocks;
      below = (omega (arith, e, is), names_more (length w.decls) (length (w.decls ++ decl ∷ [])) w.file (omega (arith, e)) a.below);
      in_word = still_there (binding n k w) (length w.decls) 0 in_word_known w.file is a.below a.in_word;
      out_word = still_there (binding n k w) (length w.decls) 1 out_word_known w.file is a.below a.out_word;
      in_body = a.in_body;
      out_body = a.out_body;
    }

-- ---- names that stand for variables of their shape

pub record ShownKind (k : Kind) (o : Option GlobalShape) : Type 0 where
  pub scalar : is_scalar k ≡ true → is_word o ≡ true
  pub array : is_array_kind k ≡ true → is_array o ≡ true

abbrev pub ShownFile : List GlobalShape → Scope → Type 0
ShownFile shapes [] = Unit {0}
ShownFile shapes (b ∷ bs) = ShownKind b.known.kind (find_shape b.name shapes) × ShownFile shapes bs

pub shown_name : (shapes : List GlobalShape) (n : ℕ) (d : Known) (s : Scope) → ShownFile shapes s → lookup n s ≡ Some d → ShownKind d.kind (find_shape n shapes)
shown_name shapes n d [] x is = absurd cc
shown_name shapes n d (b ∷ bs) x is = at (b.name == n) refl (λ h. shown_name shapes n d bs x.1 h)
  where
    at : (t : Bool) → (b.name == n) ≡ t → (lookup n bs ≡ Some d → ShownKind d.kind (find_shape n shapes)) → ShownKind d.kind (find_shape n shapes)
    at true same go =
        let h = rw same at is in
        let y : ShownKind d.kind (find_shape b.name shapes) = subst (λ k. ShownKind k.kind (find_shape b.name shapes)) (some_known b.known d h) x.0 in
        subst (λ m. ShownKind d.kind (find_shape m shapes)) (eqb-true b.name n same) y
    at false other go = let h = rw other at is in go h

shown_shape : (s : Shape) (is_const : Bool) (name : ℕ) (is_unsigned : Bool) (words : List ℕ) → ShownKind (kind_of_shape is_const s) (Some (shape_of (record { name = name; object = initial s is_unsigned words })))
shown_shape shape.Scalar is_const name u words = record { scalar = λ t. refl; array = λ t. absurd cc }
shown_shape (shape.Array length) is_const name u words = record { scalar = λ t. absurd cc; array = λ t. refl }

-- ---- what variables begin with

initialisers_free : (room : ℕ) (es : List Expr) (w : Walking) → Yields (walk_initialisers room es w) (λ es'. AllByRecursion (λ e. is_free e ≡ true) es)
initialisers_free room [] w = yields_ok [] tt
initialisers_free zero (e ∷ es) w = yields_err _
initialisers_free (suc room) (e ∷ es) w =
    yields_then {P = λ e'. is_free e ≡ true} (yields_then {m = with_value e w} {P = λ e'. Unit {0}} (record { if_ok = λ e' h. tt }) (λ e' u. yields_after {m = require (is_free e && has_constant_value e) NotConstant (place_of e)} (λ ok.
    yields_ok e' (and_true (is_free e) (has_constant_value e) (required (is_free e && has_constant_value e) NotConstant (place_of e) ok)).0)))
    (λ e' p. yields_then (initialisers_free room es w) (λ es' q. yields_ok (e' ∷ es') (p, q)))

abbrev IsWord : ℕ → Type 0
IsWord w = w < 2 ^ 32

constants_words : (es : List Expr) → AllByRecursion (λ e. is_free e ≡ true) es → list_all literals_are_words es ≡ true → AreWords (map constant es)
constants_words [] free lit = All-nil IsWord
constants_words (e ∷ es) free lit =
    let l = and_true (literals_are_words e) (list_all literals_are_words es) lit in
    All-cons IsWord (constant e) (map constant es) (constant_is_word e free.0 l.0) (constants_words es free.1 l.1)

first_word : (es : List Expr) → AllByRecursion (λ e. is_free e ≡ true) es → list_all literals_are_words es ≡ true → first_or_zero (map constant es) < 2 ^ 32
first_word [] free lit = omega arith
first_word (e ∷ es) free lit = constant_is_word e free.0 (and_true (literals_are_words e) (list_all literals_are_words es) lit).0

padded_words : (n : ℕ) (es : List Expr) → AllByRecursion (λ e. is_free e ≡ true) es → list_all literals_are_words es ≡ true → AreWords (padded n (map constant es))
padded_words zero es free lit = All-nil IsWord
padded_words (suc n) [] free lit = All-cons IsWord 0 (padded n []) (omega arith) (padded_words n [] tt refl)
padded_words (suc n) (e ∷ es) free lit =
    let l = and_true (literals_are_words e) (list_all literals_are_words es) lit in
    All-cons IsWord (constant e) (padded n (map constant es)) (constant_is_word e free.0 l.0) (padded_words n es free.1 l.1)

initial_words : (s : Shape) (is_unsigned : Bool) (es : List Expr) → AllByRecursion (λ e. is_free e ≡ true) es → list_all literals_are_words es ≡ true → AreWords (object_words (initial s is_unsigned (map constant es)))
initial_words shape.Scalar u es free lit = All-cons IsWord (first_or_zero (map constant es)) [] (first_word es free lit) (All-nil IsWord)
initial_words (shape.Array length) u es free lit = padded_words (array_length length (map constant es)) es free lit

-- ---- variables at file scope (6.9.2)

pub record GlobalFacts (g : GlobalVar) (w r : Walking) : Type 0 where
  pub at_file : AtFile w → AtFile r
  pub sub : Sub w.file r.file
  pub from : length w.decls ≤ g.name
  pub to : suc g.name ≤ length r.decls
  pub shown : (shapes : List GlobalShape) → find_shape g.name shapes ≡ Some (shape_of (global g)) → ShownFile shapes w.file → ShownFile shapes r.file
  pub words : global_literals g ≡ true → AreWords (object_words (global g).object)

global_fits : (g : GlobalVar) (w : Walking) → Yields (walk_global g w) (λ r. r.0 ≡ g → GlobalFacts g w r.1)
global_fits g w =
    let w1 : Walking = enter_file g.name (kind_of_shape g.is_const g.shape) (global_decl g) w in
    yields_after {m = new_name (not (is_some (lookup g.name w.file))) g.at} (λ new. yields_then {m = walk_shape g.shape w1} {P = λ s'. Unit {0}} (record { if_ok = λ s' is. tt }) (λ s' u.
    yields_after {m = require (nat_le 1 (elements g.shape g.first) && nat_le (elements g.shape g.first) most_elements) BadLength g.at} (λ ok. yields_then (initialisers_free (elements g.shape g.first) g.first w1) (λ first' free.
    yields_ok (record g { name = length w.decls; shape = s'; first = first' }, w1) (λ is.
    let n : g.name ≡ length w.decls = sym (ap (λ (x : GlobalVar). x.name) is) in
    let e = one_more [] w.decls (global_decl g) in
    record {
      at_file = λ a. at_file_entered g.name (kind_of_shape g.is_const g.shape) (global_decl g) w n a;
      sub = sub_entered (binding g.name (kind_of_shape g.is_const g.shape) w) w.file (not_there (lookup g.name w.file) (required (not (is_some (lookup g.name w.file))) NameTwice g.at new));
      from = omega (arith, n);
      to = omega (arith, n, e);
      shown = λ shapes found s. (subst (ShownKind (kind_of_shape g.is_const g.shape)) (sym found) (shown_shape g.shape g.is_const g.name (is_unsigned_type g.ty) (map constant g.first)), s);
      words = λ lit. initial_words g.shape (is_unsigned_type g.ty) g.first free (and_true (shape_literals g.shape) (list_all literals_are_words g.first) lit).1;
    })))))

abbrev pub shapes_of_globals : List GlobalVar → List GlobalShape
shapes_of_globals gs = map shape_of (map global gs)

pub record GlobalsFacts (gs : List GlobalVar) (w r : Walking) : Type 0 where
  pub at_file : AtFile w → AtFile r
  pub sub : Sub w.file r.file
  pub ascends : Ascends shape_name (length w.decls) (shapes_of_globals gs) (length r.decls)
  pub shown : (shapes : List GlobalShape) → FoundEach shapes (shapes_of_globals gs) → ShownFile shapes w.file → ShownFile shapes r.file
  pub words : list_all global_literals gs ≡ true → AreWordsAll (map global gs)

abbrev pub BeginsWithWords : Global → Type 0
BeginsWithWords g = AreWords (object_words g.object)

pub globals_fit : (gs : List GlobalVar) (w : Walking) → Yields (walk_globals gs w) (λ r. r.0 ≡ gs → GlobalsFacts gs w r.1)
globals_fit [] w = yields_ok ([], w) (λ is. record { at_file = λ a. a; sub = sub_refl w.file; ascends = omega arith; shown = λ shapes found s. s; words = λ lit. All-nil BeginsWithWords })
globals_fit (g ∷ gs) w = yields_then (global_fits g w) (λ r1 p. yields_then (globals_fit gs r1.1) (λ r2 q. yields_ok (r1.0 ∷ r2.0, r2.1) (λ is.
    let x = p cc in
    let y = q cc in
    record {
      at_file = λ a. y.at_file (x.at_file a);
      sub = sub_trans x.sub y.sub;
      ascends = ascends_both shape_name (length w.decls) (shape_of (global g) ∷ []) (length (r1.1).decls) (shapes_of_globals gs) (length (r2.1).decls) (x.from, x.to) y.ascends;
      shown = λ shapes found s. y.shown shapes found.1 (x.shown shapes found.0 s);
      words = λ lit. let l = and_true (global_literals g) (list_all global_literals gs) lit in All-cons BeginsWithWords (global g) (map global gs) (x.words l.0) (y.words l.1);
    })))
