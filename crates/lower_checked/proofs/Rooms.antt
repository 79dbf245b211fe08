-- The room of the variables at file scope and of the chains of calls, by the checker's words and by those of the lowering.
use Rattle.std.proofs.Common.{◌≡◌, ℕ, zero, suc, ◌+◌, ◌≤◌, Bool, true, false, List, [], ◌∷◌, ◌++◌, map, sum, length, Option, Some, None, refl, sym, ap, ◌∙◌, subst, arith, if◌then◌else◌, find, ◌==◌, ◌&&◌}
use Rattle.std.proofs.lemmas.Bool.{ltb-false}
use Rattle.std.proofs.lemmas.List.Sums.{sum_by-cons}
use Rattle.c_syntax.specs.declared.tree.Expr.{Expr}
use Rattle.c_syntax.specs.declared.tree.Shape.{Shape}
use Rattle.c_syntax.specs.declared.tree.Shape.TheVariants as shape
use Rattle.c_syntax.specs.declared.tree.GlobalVar.{GlobalVar}
use Rattle.c_syntax.specs.declared.tree.Function.{Function}
use Rattle.c_syntax.specs.declared.tree.TopItem.{TopItem}
use Rattle.c_syntax.specs.declared.tree.TopItem.TheVariants as item
use Rattle.c_syntax.specs.declared.tree.Program.{Program}
use Rattle.c_syntax.specs.Sizes.{greatest}
use Rattle.c_syntax.specs.Costs.{function_weight}
use Rattle.c_meaning.specs.Operators.{is_unsigned_type}
use Rattle.c_meaning.specs.Run.{Global}
use Rattle.c_syntax.specs.Graph.{functions, has_body, function_named, callees}
use Rattle.c_meaning.specs.Meaning.{Names, padded, initial, constant, global, globals}
use Rattle.check_rules.specs.Walk.{elements}
use Rattle.check_rules.specs.Limits.{Resolved, weight_named, global_pairs, item_pairs, store_of, store, reached, most_store, resolved_names}
use Rattle.check_rules.specs.Limits as limits
use Rattle.lower_rules.specs.Programs.{object_words, any_recursive, low_program}
use Rattle.lower_rules.specs.Room.{within, weight_if, chain_in, room_of, room}
use Rattle.lower_checked.specs.Laws.{counter_pairs, HasRoom}
use Rattle.lower_checked.specs.Counter.{HasLoweredRoom}
use Rattle.lower_checked.proofs.Limits.{passed, has_main}

-- ---- variables

long_padded : (n : ℕ) (ws : List ℕ) → length (padded n ws) ≡ n
long_padded zero ws = refl
long_padded (suc n) [] = ap suc (long_padded n [])
long_padded (suc n) (w ∷ ws) = ap suc (long_padded n ws)

long_map : {A B : Type 0} (f : A → B) (xs : List A) → length (map f xs) ≡ length xs
long_map f [] = refl
long_map f (x ∷ xs) = ap suc (long_map f xs)

object_long : (s : Shape) (u : Bool) (first : List Expr) → length (object_words (initial s u (map constant first))) ≡ elements s first
object_long shape.Scalar u first = refl
object_long (shape.Array None) u first = long_padded (length (map constant first)) (map constant first) ∙ long_map constant first
object_long (shape.Array (Some e)) u first = long_padded (constant e) (map constant first)

abbrev words_of : List Global → ℕ
words_of gs = sum (map length (map (λ (g : Global). object_words g.object) gs))

sum_more : (n : ℕ) (ns : List ℕ) → sum (n ∷ ns) ≡ n + sum ns
sum_more n ns = sum_by-cons (λ m. m) n ns

words_append : (xs ys : List Global) → words_of (xs ++ ys) ≡ words_of xs + words_of ys
words_append [] ys = omega arith
words_append (x ∷ xs) ys =
    let e = words_append xs ys in
    let a = sum_more (length (object_words x.object)) (map length (map (λ (g : Global). object_words g.object) (xs ++ ys))) in
    let b = sum_more (length (object_words x.object)) (map length (map (λ (g : Global). object_words g.object) xs)) in
    omega (arith, e, a, b)

variables_same : (gs : List GlobalVar) → words_of (map global gs) ≡ sum (map (λ g. elements g.shape g.first) gs)
variables_same [] = refl
variables_same (g ∷ gs) =
    let e = variables_same gs in
    let n = object_long g.shape (is_unsigned_type g.ty) g.first in
    let a = sum_more (length (object_words (global g).object)) (map length (map (λ (g : Global). object_words g.object) (map global gs))) in
    let b = sum_more (elements g.shape g.first) (map (λ g. elements g.shape g.first) gs) in
    omega (arith, e, n, a, b)

pub words_same : (items : List TopItem) → words_of (globals items) ≡ global_pairs items
words_same [] = refl
words_same (item.Globals gs ∷ is) =
    let a = sum_more (item_pairs (item.Globals gs)) (map item_pairs is) in
    words_append (map global gs) (globals is) ∙ omega (arith, variables_same gs, words_same is, a)
words_same (item.Function f ∷ is) = let a = sum_more (item_pairs (item.Function f)) (map item_pairs is) in words_same is ∙ omega (arith, a)

-- ---- chains

weight_same : (o : Option Function) → (elim o as (λ x. ℕ) [ None ↦ 0 | Some f ↦ function_weight f ]) ≡ weight_if o
weight_same None = refl
weight_same (Some f) = refl

map_same : (f g : ℕ → ℕ) → ((n : ℕ) → f n ≡ g n) → (xs : List ℕ) → map f xs ≡ map g xs
map_same f g e [] = refl
map_same f g e (x ∷ xs) = ap (λ n. n ∷ map f xs) (e x) ∙ ap (λ l. g x ∷ l) (map_same f g e xs)

chain_same : (items : List TopItem) (n name : ℕ) → limits.chain_in items n name ≡ chain_in items n name
chain_same items zero name = refl
chain_same items (suc n) name =
    ap (λ x. x + greatest (map (limits.chain_in items n) (callees items name))) (weight_same (function_named name items))
    ∙ ap (λ l. weight_if (function_named name items) + greatest l) (map_same (limits.chain_in items n) (chain_in items n) (chain_same items n) (callees items name))

store_same : (names : Names) (items : List TopItem) (fs : List Function) → global_pairs items + counter_pairs fs + room_of items names.main fs ≡ store_of names items fs
store_same names items [] = let e = chain_same items (length (functions items)) names.main in omega (arith, e)
store_same names items (f ∷ fs) = omega arith

pub has_room : HasRoom
has_room c h =
    let names : Names = resolved_names c in
    let e = store_same names c.program.items (within c.program.items c.main true) in
    let l = ltb-false most_store (store names c.program) (passed c h).within.store in
    record {
      words = words_same c.program.items;
      fits = subst (λ n. n ≤ 32768) (sym e) l;
    }

-- ---- the room of what it is lowered to

words_and : (xs ys : List (List ℕ)) → sum (map length (xs ++ ys)) ≡ sum (map length xs) + sum (map length ys)
words_and [] ys = omega arith
words_and (x ∷ xs) ys =
    let e = words_and xs ys in
    let a = sum_more (length x) (map length (xs ++ ys)) in
    let b = sum_more (length x) (map length xs) in
    omega (arith, e, a, b)

one_word : (b : Bool) → sum (map length (let l : List (List ℕ) = if b then (0 ∷ []) ∷ [] else [] in l)) ≤ 1
one_word true = omega arith
one_word false = omega arith

lowered_words : (names : Names) (program : Program) (chain_pairs : ℕ) → sum (map length (low_program names program chain_pairs).globals) ≤ global_pairs program.items + 1
lowered_words names program chain_pairs =
    let extra : List (List ℕ) = if any_recursive program.items then (0 ∷ []) ∷ [] else [] in
    omega (arith, words_and (map (λ (g : Global). object_words g.object) (globals program.items)) extra, one_word (any_recursive program.items), words_same program.items)

chain_some : (items : List TopItem) (n name : ℕ) (f : Function) → 1 ≤ n → function_named name items ≡ Some f → 1 ≤ chain_in items n name
chain_some items zero name f h e = absurd (omega (arith, h))
chain_some items (suc n) name f h e = let w : weight_if (function_named name items) ≡ function_weight f = ap weight_if e in omega (arith, w)

functions_some : (items : List TopItem) (name : ℕ) (f : Function) → function_named name items ≡ Some f → 1 ≤ length (functions items)
functions_some items name f h = by (functions items) h
  where
    by : (fs : List Function) → find (λ g. g.name == name && has_body g.body) fs ≡ Some f → 1 ≤ length fs
    by [] e = absurd (cc)
    by (g ∷ gs) e = omega arith

pub lowered_room : HasLoweredRoom
lowered_room c h =
    let r = has_room c h in
    let m = has_main c h in
    let names : Names = resolved_names c in
    let items : List TopItem = c.program.items in
    record {
      deep = λ f fs e.
          let n : counter_pairs (within items c.main true) ≡ 1 = ap counter_pairs e in
          omega (arith, r.fits, n, lowered_words names c.program (room items c.main));
      flat = λ e.
          let is : room items c.main ≡ chain_in items (length (functions items)) c.main = ap (room_of items c.main) e in
          let one = chain_some items (length (functions items)) c.main m.main (functions_some items c.main m.main m.main_is) m.main_is in
          omega (arith, r.fits, is, one, lowered_words names c.program 0);
      trimmed = λ e. omega (arith, r.fits, r.words);
    }
