-- What the variables and the globals of the machine hold of a state, and how reading and storing keep it.
use Rattle.std.proofs.Common.{◌≡◌, ℕ, ◌+◌, ◌<◌, ◌≤◌, ◌^◌, Bool, true, false, List, [], ◌∷◌, ◌++◌, map, length, Option, Some, None, refl, sym, ap, ◌∙◌, subst, if◌then◌else◌, ◌==◌, arith}
use Rattle.std.specs.Prelude.{IsSome, is_some, slice_set, slice_index_or}
use Rattle.std.proofs.lemmas.Bool.{eqb-true, eqb-false, eq-eqb, ne_eqb, false≢true, not-true}
use Rattle.c_meaning.specs.declared.run.Value.{Value}
use Rattle.c_meaning.specs.Operators.{value}
use Rattle.c_meaning.specs.Run.{Entry, Object, Scalar, Array, Global, State, Gives, and_then, pure, innermost, find_global, local_or, designated, object_type, scalar, element, put_innermost, change_global, put_scalar, put_element, stored}
use Rattle.c_meaning.specs.declared.run.Place.{Place}
use Rattle.c_meaning.specs.declared.run.Place.TheVariants.{Variable, Element}
use Rattle.c_meaning.specs.Meaning.{fetch, put_at, store}
use Rattle.mid_blocks.specs.Lines.{Step}
use Rattle.mid_blocks.specs.Run.{BlockState, Variables, word_or_zero, with_word, global_in, do_line}
use Rattle.mid_blocks.specs.Bounds.{ProperLine}
use Rattle.lower_rules.specs.Bindings.{GlobalShape, Bindings, Symbol, Local, Global as GlobalWord, Array as GlobalArray, find_shape, position, symbol, local_or_global, global_symbol, name_unsigned, type_of, shape_unsigned}
use Rattle.lower_rules.specs.Scoping.{in_scopes, Scopes, is_variable, is_array_name, is_word, is_array, local_or_shape}
use Rattle.lower_rules.specs.Expressions.{Target, Neither, Named, Indexed, read_step, write_step, target_symbol, beside}
use Rattle.lower_law.proofs.Lines.{Spot, spot}
use Rattle.lower_law.proofs.Machine.{globals_words, Frame, Setting, machine}
use Rattle.lower_law.proofs.Scopes.{scope_names, innermost_found, put_names, innermost_put_same, innermost_put_other}
use Rattle.lower_law.proofs.Globals.{AreSmall, AreSmallGlobals, Found, found_global, changed_shapes, changed_words, changed_small, scalar_keeps, element_keeps, small_at, small_set}
use Rattle.lower_rules.specs.Programs.{object_words, is_array_object, object_unsigned, shape_of}

-- what the names of a body stand for; no two names share a variable, and the free variables begin behind theirs
pub record Body : Type 0 where
  pub names : Bindings
  pub free : ℕ
  pub apart : (m n i : ℕ) → names.variable m ≡ Some i → names.variable n ≡ Some i → m ≡ n
  pub below : (n i : ℕ) → names.variable n ≡ Some i → i < free
  -- how many calls may be open below it
  pub level : ℕ
  -- how many calls of recursive functions are active in it
  pub active : ℕ

-- a name's variable holds its value
pub record Held (b : Body) (vars : Variables) (n : ℕ) (v : Value) : Type 0 where
  pub variable : ℕ
  pub is : b.names.variable n ≡ Some variable
  pub word : vars variable ≡ Some v.word
  pub typed : v.is_unsigned ≡ b.names.local_unsigned n
  pub small : v.word < 2 ^ 32

pub record Holds (b : Body) (scopes : Scopes) (s : State) (vars : Variables) : Type 0 where
  pub scopes_are : scope_names s.scopes ≡ scopes
  pub each : (n : ℕ) (v : Value) → innermost n s.scopes ≡ Some v → Held b vars n v
  pub shapes_are : map shape_of s.globals ≡ b.names.globals
  pub small_globals : AreSmallGlobals s.globals
  pub small_input : AreSmall s.input
  pub fuel_below : s.fuel < b.level
  pub active_is : s.active ≡ b.active

-- ---- variables

pub with_same : (vars : Variables) (i w : ℕ) → with_word vars i w i ≡ Some w
with_same vars i w = ap (λ (b : Bool). if b then Some w else vars i) (eq-eqb i i refl)

pub with_other : (vars : Variables) (i j w : ℕ) → (j ≡ i → ⊥) → with_word vars i w j ≡ vars j
with_other vars i j w ne = ap (λ (b : Bool). if b then Some w else vars j) (ne_eqb j i ne)

-- variables from t on may change
pub record Kept (t : ℕ) (vars vars' : Variables) : Type 0 where
  pub at : (i : ℕ) → i < t → vars' i ≡ vars i

pub kept_here : (t : ℕ) (vars : Variables) → Kept t vars vars
kept_here t vars = record { at = λ i lt. refl }

pub kept_on : (t u : ℕ) (v v1 v2 : Variables) → t ≤ u → Kept t v v1 → Kept u v1 v2 → Kept t v v2
kept_on t u v v1 v2 le p q = record { at = λ i lt. q.at i (omega (arith, lt, le)) ∙ p.at i lt }

pub kept_with : (t i w : ℕ) (vars : Variables) → t ≤ i → Kept t vars (with_word vars i w)
kept_with t i w vars le = record { at = λ j lt. with_other vars i j w (λ e. omega (arith, e, lt, le)) }

-- free variables below t stay
pub record Temps (free t : ℕ) (vars vars' : Variables) : Type 0 where
  pub at : (i : ℕ) → free ≤ i → i < t → vars' i ≡ vars i

pub temps_of : (free t : ℕ) (vars vars' : Variables) → Kept t vars vars' → Temps free t vars vars'
temps_of free t vars vars' k = record { at = λ i le lt. k.at i lt }

pub temps_here : (free t : ℕ) (vars : Variables) → Temps free t vars vars
temps_here free t vars = record { at = λ i le lt. refl }

pub temps_on : (free t u : ℕ) (v v1 v2 : Variables) → t ≤ u → Temps free t v v1 → Temps free u v1 v2 → Temps free t v v2
temps_on free t u v v1 v2 le p q = record { at = λ i le' lt. q.at i le' (omega (arith, lt, le)) ∙ p.at i le' lt }

pub holds_kept : (b : Body) (scopes : Scopes) (s : State) (vars vars' : Variables) (t : ℕ) → b.free ≤ t → Kept t vars vars' → Holds b scopes s vars → Holds b scopes s vars'
holds_kept b scopes s vars vars' t le k h = record {
  scopes_are = h.scopes_are;
  each = λ n v e. let x = h.each n v e in record { variable = x.variable; is = x.is; word = k.at x.variable (omega (arith, b.below n x.variable x.is, le)) ∙ x.word; typed = x.typed; small = x.small };
  shapes_are = h.shapes_are;
  small_globals = h.small_globals;
  small_input = h.small_input;
  fuel_below = h.fuel_below;
  active_is = h.active_is;
}

pub is_some_from : {A : Type 0} (o : Option A) (a : A) → o ≡ Some a → IsSome o
is_some_from o a e = ap is_some e

-- ---- what a name stands for now

pub data WordAt (k : Setting) (b : Body) (s : State) (vars : Variables) (n : ℕ) : Type 0 where
  in_variable : (v : Value) → innermost n s.scopes ≡ Some v → Held b vars n v → WordAt k b s vars n
  in_global : (v : Value) (g : GlobalShape) → innermost n s.scopes ≡ None → b.names.variable n ≡ None → find_shape n b.names.globals ≡ Some g → g.is_array ≡ false
      → find_global n s.globals ≡ Some (Scalar v) → g.is_unsigned ≡ v.is_unsigned
      → global_in (globals_words s.globals ++ k.extra s.active) (position n b.names.globals) ≡ v.word ∷ [] → v.word < 2 ^ 32 → WordAt k b s vars n

pub record ArrayAt (k : Setting) (b : Body) (s : State) (n : ℕ) : Type 0 where
  pub is_unsigned : Bool
  pub words : List ℕ
  pub shape : GlobalShape
  pub not_local : innermost n s.scopes ≡ None
  pub no_variable : b.names.variable n ≡ None
  pub shape_is : find_shape n b.names.globals ≡ Some shape
  pub is_array : shape.is_array ≡ true
  pub is : find_global n s.globals ≡ Some (Array is_unsigned words)
  pub typed : is_unsigned ≡ shape.is_unsigned
  pub long : shape.words ≡ length words
  pub words_are : global_in (globals_words s.globals ++ k.extra s.active) (position n b.names.globals) ≡ words
  pub small : AreSmall words

not_in_scopes : (b : Body) (scopes : Scopes) (s : State) (vars : Variables) (n : ℕ) → Holds b scopes s vars → b.names.variable n ≡ None → innermost n s.scopes ≡ None
not_in_scopes b scopes s vars n h e = by (innermost n s.scopes) refl
  where
    by : (o : Option Value) → innermost n s.scopes ≡ o → o ≡ None
    by None is = refl
    by (Some v) is = let x = h.each n v is in let y : Some x.variable ≡ None = sym x.is ∙ e in cc

global_now : (k : Setting) (b : Body) (scopes : Scopes) (s : State) (vars : Variables) (n : ℕ) (g : GlobalShape) → Holds b scopes s vars → find_shape n b.names.globals ≡ Some g → Found (k.extra s.active) n s.globals g
global_now k b scopes s vars n g h e = found_global (k.extra s.active) n s.globals g h.small_globals (ap (find_shape n) h.shapes_are ∙ e)

position_now : (k : Setting) (b : Body) (scopes : Scopes) (s : State) (vars : Variables) (n : ℕ) (ws : List ℕ) → Holds b scopes s vars → global_in (globals_words s.globals ++ k.extra s.active) (position n (map shape_of s.globals)) ≡ ws → global_in (globals_words s.globals ++ k.extra s.active) (position n b.names.globals) ≡ ws
position_now k b scopes s vars n ws h e = ap (λ gs. global_in (globals_words s.globals ++ k.extra s.active) (position n gs)) (sym h.shapes_are) ∙ e

pub word_now : (k : Setting) (b : Body) (scopes : Scopes) (s : State) (vars : Variables) (n : ℕ) → Holds b scopes s vars → is_variable b.names scopes n ≡ true → WordAt k b s vars n
word_now k b scopes s vars n h fits = by (b.names.variable n) refl fits
  where
    scalar_here : (g : GlobalShape) (f : Found (k.extra s.active) n s.globals g) → b.names.variable n ≡ None → find_shape n b.names.globals ≡ Some g → g.is_array ≡ false → (o : Object) → f.object ≡ o → WordAt k b s vars n
    scalar_here g f none is array (Scalar v) e =
        in_global v g (not_in_scopes b scopes s vars n h none) none is array (f.is ∙ ap Some e) (f.type_is ∙ ap object_unsigned e) (position_now k b scopes s vars n (v.word ∷ []) h (f.words_are ∙ ap object_words e)) (let y = subst (λ o. AreSmall (object_words o)) e f.small in y.0)
    scalar_here g f none is array (Array u ws) e = let y : false ≡ true = sym array ∙ f.array_is ∙ ap is_array_object e in absurd (false≢true y)

    in_file : (o : Option GlobalShape) → b.names.variable n ≡ None → find_shape n b.names.globals ≡ o → is_word o ≡ true → WordAt k b s vars n
    in_file None none is t = absurd (false≢true t)
    in_file (Some g) none is t = let f = global_now k b scopes s vars n g h is in scalar_here g f none is (not-true g.is_array t) f.object refl

    by : (o : Option ℕ) → b.names.variable n ≡ o → local_or_shape o (in_scopes n scopes) (is_word (find_shape n b.names.globals)) ≡ true → WordAt k b s vars n
    by (Some i) is t = let f = innermost_found n s.scopes (ap (in_scopes n) h.scopes_are ∙ t) in in_variable f.0 f.1 (h.each n f.0 f.1)
    by None is t = in_file (find_shape n b.names.globals) is refl t

pub array_now : (k : Setting) (b : Body) (scopes : Scopes) (s : State) (vars : Variables) (n : ℕ) → Holds b scopes s vars → is_array_name b.names n ≡ true → ArrayAt k b s n
array_now k b scopes s vars n h fits = by (b.names.variable n) refl fits
  where
    array_here : (g : GlobalShape) (f : Found (k.extra s.active) n s.globals g) → b.names.variable n ≡ None → find_shape n b.names.globals ≡ Some g → g.is_array ≡ true → (o : Object) → f.object ≡ o → ArrayAt k b s n
    array_here g f none is array (Scalar v) e = let y : true ≡ false = sym array ∙ f.array_is ∙ ap is_array_object e in absurd (false≢true (sym y))
    array_here g f none is array (Array u ws) e = record {
      is_unsigned = u;
      words = ws;
      shape = g;
      not_local = not_in_scopes b scopes s vars n h none;
      no_variable = none;
      shape_is = is;
      is_array = array;
      is = f.is ∙ ap Some e;
      typed = ap object_unsigned (sym e) ∙ sym f.type_is;
      long = f.length_is ∙ ap (λ o. length (object_words o)) e;
      words_are = position_now k b scopes s vars n ws h (f.words_are ∙ ap object_words e);
      small = subst (λ o. AreSmall (object_words o)) e f.small;
    }

    in_file : (o : Option GlobalShape) → b.names.variable n ≡ None → find_shape n b.names.globals ≡ o → is_array o ≡ true → ArrayAt k b s n
    in_file None none is t = absurd (false≢true t)
    in_file (Some g) none is t = let f = global_now k b scopes s vars n g h is in array_here g f none is t f.object refl

    by : (o : Option ℕ) → b.names.variable n ≡ o → local_or_shape o false (is_array (find_shape n b.names.globals)) ≡ true → ArrayAt k b s n
    by (Some i) is t = absurd (false≢true t)
    by None is t = in_file (find_shape n b.names.globals) is refl t

symbol_local : (b : Body) (n i : ℕ) → b.names.variable n ≡ Some i → symbol b.names n ≡ Local i
symbol_local b n i e = ap (λ o. local_or_global o (global_symbol (find_shape n b.names.globals) (position n b.names.globals))) e

symbol_global : (b : Body) (n : ℕ) (g : GlobalShape) → b.names.variable n ≡ None → find_shape n b.names.globals ≡ Some g → symbol b.names n ≡ (if g.is_array then GlobalArray (position n b.names.globals) else GlobalWord (position n b.names.globals))
symbol_global b n g e f = ap (λ o. local_or_global o (global_symbol (find_shape n b.names.globals) (position n b.names.globals))) e ∙ ap (λ o. global_symbol o (position n b.names.globals)) f

symbol_word : (b : Body) (n : ℕ) (g : GlobalShape) → b.names.variable n ≡ None → find_shape n b.names.globals ≡ Some g → g.is_array ≡ false → symbol b.names n ≡ GlobalWord (position n b.names.globals)
symbol_word b n g e f a = symbol_global b n g e f ∙ ap (λ (c : Bool). if c then GlobalArray (position n b.names.globals) else GlobalWord (position n b.names.globals)) a

pub symbol_array : (b : Body) (n : ℕ) (g : GlobalShape) → b.names.variable n ≡ None → find_shape n b.names.globals ≡ Some g → g.is_array ≡ true → symbol b.names n ≡ GlobalArray (position n b.names.globals)
symbol_array b n g e f a = symbol_global b n g e f ∙ ap (λ (c : Bool). if c then GlobalArray (position n b.names.globals) else GlobalWord (position n b.names.globals)) a

type_local : (b : Body) (n i : ℕ) → b.names.variable n ≡ Some i → name_unsigned b.names n ≡ b.names.local_unsigned n
type_local b n i e = ap (λ o. type_of o (b.names.local_unsigned n) (shape_unsigned (find_shape n b.names.globals))) e

pub type_global : (b : Body) (n : ℕ) (g : GlobalShape) → b.names.variable n ≡ None → find_shape n b.names.globals ≡ Some g → name_unsigned b.names n ≡ g.is_unsigned
type_global b n g e f = ap (λ o. type_of o (b.names.local_unsigned n) (shape_unsigned (find_shape n b.names.globals))) e ∙ ap shape_unsigned f

-- ---- lines that read and store

abbrev pub next : Spot → Spot
next at = spot at.block (at.step + 1)

abbrev pub globals_now : Setting → State → List (List ℕ)
globals_now k s = globals_words s.globals ++ k.extra s.active

pub record Reads (k : Setting) (s : State) (vars : Variables) (y : Symbol) (t to w : ℕ) : Type 0 where
  pub proper : ProperLine (Step (read_step y t to)) vars (globals_now k s)
  pub does : (fr : Frame) (at : Spot) → do_line (Some (Step (read_step y t to))) (machine k fr at vars s) ≡ machine k fr (next at) (with_word vars to w) s

reads_local : (k : Setting) (s : State) (vars : Variables) (i t to w : ℕ) → vars i ≡ Some w → Reads k s vars (Local i) t to w
reads_local k s vars i t to w e = record {
  proper = record { reads_written = (is_some_from (vars i) w e, tt); index_fits = tt };
  does = λ fr at. ap (λ x. machine k fr (next at) (with_word vars to (word_or_zero x)) s) e;
}

reads_word : (k : Setting) (s : State) (vars : Variables) (g t to w : ℕ) → global_in (globals_now k s) g ≡ w ∷ [] → Reads k s vars (GlobalWord g) t to w
reads_word k s vars g t to w e = record {
  proper = record { reads_written = tt; index_fits = subst (λ ws. 0 < length ws) (sym e) (omega arith) };
  does = λ fr at. ap (λ ws. machine k fr (next at) (with_word vars to (slice_index_or ws 0 0)) s) e;
}

reads_element : (k : Setting) (s : State) (vars : Variables) (g t to i : ℕ) (ws : List ℕ) → vars t ≡ Some i → global_in (globals_now k s) g ≡ ws → i < length ws → Reads k s vars (GlobalArray g) t to (slice_index_or ws i 0)
reads_element k s vars g t to i ws e f lt = record {
  proper = record { reads_written = (is_some_from (vars t) i e, tt); index_fits = subst (λ x. word_or_zero x < length (global_in (globals_now k s) g)) (sym e) (subst (λ l. i < length l) (sym f) lt) };
  does = λ fr at. ap (λ x. machine k fr (next at) (with_word vars to (slice_index_or (global_in (globals_now k s) g) (word_or_zero x) 0)) s) e ∙ ap (λ l. machine k fr (next at) (with_word vars to (slice_index_or l i 0)) s) f;
}

pub record Writes (k : Setting) (s : State) (vars : Variables) (y : Symbol) (t from : ℕ) (s' : State) (vars' : Variables) : Type 0 where
  pub proper : ProperLine (Step (write_step y t from)) vars (globals_now k s)
  pub does : (fr : Frame) (at : Spot) → do_line (Some (Step (write_step y t from))) (machine k fr at vars s) ≡ machine k fr (next at) vars' s'

-- the machine with these globals
abbrev with_globals : Setting → Frame → Spot → Variables → State → List (List ℕ) → BlockState
with_globals k fr at vars s gs = record (machine k fr at vars s) { globals = gs }

writes_local : (k : Setting) (s : State) (vars : Variables) (i t from w : ℕ) (scopes : List (List Entry)) → vars from ≡ Some w → Writes k s vars (Local i) t from (record s { scopes = scopes }) (with_word vars i w)
writes_local k s vars i t from w scopes e = record {
  proper = record { reads_written = (is_some_from (vars from) w e, tt); index_fits = tt };
  does = λ fr at. ap (λ x. machine k fr (next at) (with_word vars i (word_or_zero x)) s) e;
}

writes_word : (k : Setting) (s : State) (vars : Variables) (g t from w v : ℕ) (gs : List Global) → vars from ≡ Some w → global_in (globals_now k s) g ≡ v ∷ [] → globals_words gs ++ k.extra s.active ≡ slice_set (globals_now k s) g (w ∷ []) → Writes k s vars (GlobalWord g) t from (record s { globals = gs }) vars
writes_word k s vars g t from w v gs e f same = record {
  proper = record { reads_written = (is_some_from (vars from) w e, tt); index_fits = subst (λ ws. 0 < length ws) (sym f) (omega arith) };
  does = λ fr at. ap (λ x. with_globals k fr (next at) vars s (slice_set (globals_now k s) g (slice_set (global_in (globals_now k s) g) 0 (word_or_zero x)))) e
      ∙ ap (λ ws. with_globals k fr (next at) vars s (slice_set (globals_now k s) g (slice_set ws 0 w))) f
      ∙ ap (with_globals k fr (next at) vars s) (sym same);
}

writes_element : (k : Setting) (s : State) (vars : Variables) (g t from w i : ℕ) (ws : List ℕ) (gs : List Global) → vars t ≡ Some i → vars from ≡ Some w → global_in (globals_now k s) g ≡ ws → i < length ws → globals_words gs ++ k.extra s.active ≡ slice_set (globals_now k s) g (slice_set ws i w) → Writes k s vars (GlobalArray g) t from (record s { globals = gs }) vars
writes_element k s vars g t from w i ws gs e1 e2 f lt same = record {
  proper = record { reads_written = (is_some_from (vars t) i e1, (is_some_from (vars from) w e2, tt)); index_fits = subst (λ x. word_or_zero x < length (global_in (globals_now k s) g)) (sym e1) (subst (λ l. i < length l) (sym f) lt) };
  does = λ fr at. ap (λ x. with_globals k fr (next at) vars s (slice_set (globals_now k s) g (slice_set (global_in (globals_now k s) g) (word_or_zero x) (word_or_zero (vars from))))) e1
      ∙ ap (λ x. with_globals k fr (next at) vars s (slice_set (globals_now k s) g (slice_set (global_in (globals_now k s) g) i (word_or_zero x)))) e2
      ∙ ap (λ l. with_globals k fr (next at) vars s (slice_set (globals_now k s) g (slice_set l i w))) f
      ∙ ap (with_globals k fr (next at) vars s) (sym same);
}

-- ---- places

-- the expression's place is known; the index of an element stands in t and is below the array's length
pub data AtPlace (b : Body) (scopes : Scopes) (vars : Variables) (t : ℕ) : Target → Place → Type 0 where
  named : (n : ℕ) → is_variable b.names scopes n ≡ true → AtPlace b scopes vars t (Named n) (Variable n)
  indexed : (n i : ℕ) → is_array_name b.names n ≡ true → vars t ≡ Some i → ((g : GlobalShape) → find_shape n b.names.globals ≡ Some g → i < g.words) → AtPlace b scopes vars t (Indexed n) (Element n i)

abbrev pub target_unsigned : Body → Target → Bool
target_unsigned b Neither = false
target_unsigned b (Named n) = name_unsigned b.names n
target_unsigned b (Indexed n) = name_unsigned b.names n

-- a place whose index stands in t stays one where t keeps its word
pub place_kept : (b : Body) (scopes : Scopes) (vars vars' : Variables) (t : ℕ) (y : Target) (p : Place) → (beside y t ≡ t + 1 → vars' t ≡ vars t) → AtPlace b scopes vars t y p → AtPlace b scopes vars' t y p
place_kept b scopes vars vars' t _ _ k (named n f) = named n f
place_kept b scopes vars vars' t _ _ k (indexed n i f e lt) = indexed n i f (k refl ∙ e) lt

pub record Fetched (k : Setting) (b : Body) (s : State) (vars : Variables) (y : Target) (p : Place) (t to : ℕ) : Type 0 where
  pub value : Value
  pub gives : fetch p s ≡ Gives value s
  pub typed : value.is_unsigned ≡ target_unsigned b y
  pub small : value.word < 2 ^ 32
  pub reads : Reads k s vars (target_symbol b.names y) t to value.word

pub fetched : (k : Setting) (b : Body) (scopes : Scopes) (s : State) (vars : Variables) (y : Target) (p : Place) (t to : ℕ) → Holds b scopes s vars → AtPlace b scopes vars t y p → Fetched k b s vars y p t to
fetched k b scopes s vars _ _ t to h (named n f) = by (word_now k b scopes s vars n h f)
  where
    by : WordAt k b s vars n → Fetched k b s vars (Named n) (Variable n) t to
    by (in_variable v is x) = record {
      value = v;
      gives = ap (λ o. scalar (local_or o (find_global n s.globals)) s) is;
      typed = x.typed ∙ sym (type_local b n x.variable x.is);
      small = x.small;
      reads = subst (λ y. Reads k s vars y t to v.word) (sym (symbol_local b n x.variable x.is)) (reads_local k s vars x.variable t to v.word x.word);
    }
    by (in_global v g not_local none shape array is type words small) = record {
      value = v;
      gives = ap (λ o. scalar (local_or o (find_global n s.globals)) s) not_local ∙ ap (λ o. scalar o s) is;
      typed = sym type ∙ sym (type_global b n g none shape);
      small = small;
      reads = subst (λ y. Reads k s vars y t to v.word) (sym (symbol_word b n g none shape array)) (reads_word k s vars (position n b.names.globals) t to v.word words);
    }
fetched k b scopes s vars _ _ t to h (indexed n i f e lt) =
    let a = array_now k b scopes s vars n h f in
    let below : i < length a.words = omega (arith, lt a.shape a.shape_is, a.long) in
    record {
      value = value (slice_index_or a.words i 0) a.is_unsigned;
      gives = ap (λ o. element i (local_or o (find_global n s.globals)) s) a.not_local ∙ ap (λ o. element i o s) a.is;
      typed = a.typed ∙ sym (type_global b n a.shape a.no_variable a.shape_is);
      small = small_at a.words i a.small;
      reads = subst (λ y. Reads k s vars y t to (slice_index_or a.words i 0)) (sym (symbol_array b n a.shape a.no_variable a.shape_is a.is_array)) (reads_element k s vars (position n b.names.globals) t to i a.words e a.words_are below);
    }

pub record Stored (k : Setting) (b : Body) (scopes : Scopes) (s : State) (vars : Variables) (y : Target) (p : Place) (t from w : ℕ) : Type 0 where
  pub after : State
  pub vars' : Variables
  pub value : Value
  pub gives : store p w s ≡ Gives value after
  pub word_is : value.word ≡ w
  pub typed : value.is_unsigned ≡ target_unsigned b y
  pub fuel_is : after.fuel ≡ s.fuel
  pub writes : Writes k s vars (target_symbol b.names y) t from after vars'
  pub holds : Holds b scopes after vars'
  pub kept : (i : ℕ) → b.free ≤ i → vars' i ≡ vars i

small_scalar : (w : ℕ) → w < 2 ^ 32 → (o : Object) → AreSmall (object_words o) → AreSmall (object_words (put_scalar w o))
small_scalar w lt (Scalar v) h = (lt, tt)
small_scalar w lt (Array u ws) h = h

small_element : (i w : ℕ) → w < 2 ^ 32 → (o : Object) → AreSmall (object_words o) → AreSmall (object_words (put_element i w o))
small_element i w lt (Scalar v) h = h
small_element i w lt (Array u ws) h = small_set ws i w lt h

-- a store into a name's variable
pub holds_put : (b : Body) (scopes : Scopes) (s : State) (vars : Variables) (n w : ℕ) (v : Value) (x : Held b vars n v) → innermost n s.scopes ≡ Some v → w < 2 ^ 32 → Holds b scopes s vars → Holds b scopes (record s { scopes = put_innermost n w s.scopes }) (with_word vars x.variable w)
holds_put b scopes s vars n w v x is lt h = record {
  scopes_are = put_names n w s.scopes ∙ h.scopes_are;
  each = λ m z e. by m z e (m == n) refl;
  shapes_are = h.shapes_are;
  small_globals = h.small_globals;
  small_input = h.small_input;
  fuel_below = h.fuel_below;
  active_is = h.active_is;
}
  where
    by : (m : ℕ) (z : Value) → innermost m (put_innermost n w s.scopes) ≡ Some z → (c : Bool) → (m == n) ≡ c → Held b (with_word vars x.variable w) m z
    by m z e true same =
        let mn : m ≡ n = eqb-true m n same in
        let z_is : Some (value w v.is_unsigned) ≡ Some z = sym (innermost_put_same n w v s.scopes is) ∙ ap (λ j. innermost j (put_innermost n w s.scopes)) (sym mn) ∙ e in
        let z_is' : value w v.is_unsigned ≡ z = cc in
        subst (λ y. Held b (with_word vars x.variable w) m y) z_is'
        (subst (λ j. Held b (with_word vars x.variable w) j (value w v.is_unsigned)) (sym mn)
        (record { variable = x.variable; is = x.is; word = with_same vars x.variable w; typed = x.typed; small = lt }))
    by m z e false other =
        let y = h.each m z (sym (innermost_put_other m n w s.scopes (eqb-false m n other)) ∙ e) in
        record {
          variable = y.variable;
          is = y.is;
          word = with_other vars x.variable y.variable w (λ same. eqb-false m n other (b.apart m n x.variable (y.is ∙ ap Some same) x.is)) ∙ y.word;
          typed = y.typed;
          small = y.small;
        }

holds_changed : (b : Body) (scopes : Scopes) (s : State) (vars : Variables) (gs : List Global) → map shape_of gs ≡ map shape_of s.globals → AreSmallGlobals gs → Holds b scopes s vars → Holds b scopes (record s { globals = gs }) vars
holds_changed b scopes s vars gs same small h = record {
  scopes_are = h.scopes_are;
  each = λ m z e. let y = h.each m z e in record { variable = y.variable; is = y.is; word = y.word; typed = y.typed; small = y.small };
  shapes_are = same ∙ h.shapes_are;
  small_globals = small;
  small_input = h.small_input;
  fuel_below = h.fuel_below;
  active_is = h.active_is;
}

pub stored_at : (k : Setting) (b : Body) (scopes : Scopes) (s : State) (vars : Variables) (y : Target) (p : Place) (t from w : ℕ) → Holds b scopes s vars → AtPlace b scopes vars t y p → vars from ≡ Some w → w < 2 ^ 32 → Stored k b scopes s vars y p t from w
stored_at k b scopes s vars _ _ t from w h (named n f) has lt = by (word_now k b scopes s vars n h f)
  where
    by : WordAt k b s vars n → Stored k b scopes s vars (Named n) (Variable n) t from w
    by (in_variable v is x) = record {
      after = record s { scopes = put_innermost n w s.scopes };
      vars' = with_word vars x.variable w;
      value = value w v.is_unsigned;
      gives = ap (λ o. and_then (scalar (local_or o (find_global n s.globals)) s) (λ old. λ s1. and_then (put_at (Variable n) w s1) (λ u. pure (value w old.is_unsigned)))) is ∙ ap (λ o. Gives (value w v.is_unsigned) (stored o n w s)) is;
      word_is = refl;
      typed = x.typed ∙ sym (type_local b n x.variable x.is);
      fuel_is = refl;
      writes = subst (λ y. Writes k s vars y t from (record s { scopes = put_innermost n w s.scopes }) (with_word vars x.variable w)) (sym (symbol_local b n x.variable x.is)) (writes_local k s vars x.variable t from w (put_innermost n w s.scopes) has);
      holds = holds_put b scopes s vars n w v x is lt h;
      kept = λ i le. with_other vars x.variable i w (λ e. omega (arith, e, le, b.below n x.variable x.is));
    }
    by (in_global v g not_local none shape array is type words small) =
        let gs : List Global = change_global n (put_scalar w) s.globals in
        record {
          after = record s { globals = gs };
          vars' = vars;
          value = value w v.is_unsigned;
          gives = ap (λ o. and_then (scalar (local_or o (find_global n s.globals)) s) (λ old. λ s1. and_then (put_at (Variable n) w s1) (λ u. pure (value w old.is_unsigned)))) not_local
              ∙ ap (λ o. and_then (scalar o s) (λ old. λ s1. and_then (put_at (Variable n) w s1) (λ u. pure (value w old.is_unsigned)))) is
              ∙ ap (λ o. Gives (value w v.is_unsigned) (stored o n w s)) not_local;
          word_is = refl;
          typed = sym type ∙ sym (type_global b n g none shape);
          fuel_is = refl;
          writes = subst (λ y. Writes k s vars y t from (record s { globals = gs }) vars) (sym (symbol_word b n g none shape array))
              (writes_word k s vars (position n b.names.globals) t from w v.word gs has words (changed_words (k.extra s.active) n (put_scalar w) (Scalar v) s.globals is ∙ ap (λ l. slice_set (globals_now k s) (position n l) (w ∷ [])) h.shapes_are));
          holds = holds_changed b scopes s vars gs (changed_shapes n (put_scalar w) s.globals (scalar_keeps w)) (changed_small n (put_scalar w) s.globals h.small_globals (small_scalar w lt)) h;
          kept = λ i le. refl;
        }
stored_at k b scopes s vars _ _ t from w h (indexed n i f e below) has lt =
    let a = array_now k b scopes s vars n h f in
    let gs : List Global = change_global n (put_element i w) s.globals in
    let inside : i < length a.words = omega (arith, below a.shape a.shape_is, a.long) in
    record {
      after = record s { globals = gs };
      vars' = vars;
      value = value w a.is_unsigned;
      gives = ap (λ o. and_then (element i (local_or o (find_global n s.globals)) s) (λ old. λ s1. and_then (put_at (Element n i) w s1) (λ u. pure (value w old.is_unsigned)))) a.not_local
          ∙ ap (λ o. and_then (element i o s) (λ old. λ s1. and_then (put_at (Element n i) w s1) (λ u. pure (value w old.is_unsigned)))) a.is;
      word_is = refl;
      typed = a.typed ∙ sym (type_global b n a.shape a.no_variable a.shape_is);
      fuel_is = refl;
      writes = subst (λ y. Writes k s vars y t from (record s { globals = gs }) vars) (sym (symbol_array b n a.shape a.no_variable a.shape_is a.is_array))
          (writes_element k s vars (position n b.names.globals) t from w i a.words gs e has a.words_are inside (changed_words (k.extra s.active) n (put_element i w) (Array a.is_unsigned a.words) s.globals a.is ∙ ap (λ l. slice_set (globals_now k s) (position n l) (slice_set a.words i w)) h.shapes_are));
      holds = holds_changed b scopes s vars gs (changed_shapes n (put_element i w) s.globals (element_keeps i w)) (changed_small n (put_element i w) s.globals h.small_globals (small_element i w lt)) h;
      kept = λ j le. refl;
    }

-- ---- types

-- the types of the names in force are those that the bindings say
pub record Agree (b : Body) (scopes : Scopes) (types : ℕ → Bool) : Type 0 where
  pub on_variable : (n : ℕ) → is_variable b.names scopes n ≡ true → types n ≡ name_unsigned b.names n
  pub on_array : (n : ℕ) → is_array_name b.names n ≡ true → types n ≡ name_unsigned b.names n

pub types_agree : (k : Setting) (b : Body) (scopes : Scopes) (s : State) (vars : Variables) → Holds b scopes s vars → Agree b scopes (λ n. object_type (designated n s))
types_agree k b scopes s vars h = record {
  on_variable = λ n f. by n (word_now k b scopes s vars n h f);
  on_array = λ n f. let a = array_now k b scopes s vars n h f in ap (λ o. object_type (local_or o (find_global n s.globals))) a.not_local ∙ ap object_type a.is ∙ a.typed ∙ sym (type_global b n a.shape a.no_variable a.shape_is);
}
  where
    by : (n : ℕ) → WordAt k b s vars n → object_type (designated n s) ≡ name_unsigned b.names n
    by n (in_variable v is x) = ap (λ o. object_type (local_or o (find_global n s.globals))) is ∙ x.typed ∙ sym (type_local b n x.variable x.is)
    by n (in_global v g not_local none shape array is type words small) = ap (λ o. object_type (local_or o (find_global n s.globals))) not_local ∙ ap object_type is ∙ sym type ∙ sym (type_global b n g none shape)
