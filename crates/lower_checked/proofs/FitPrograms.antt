-- A checked program whose literals are words can be lowered.
use Rattle.std.proofs.Common.{◌≡◌, ℕ, Bool, true, false, not, ◌&&◌, ◌||◌, List, [], ◌∷◌, ◌++◌, map, filter, find, flat_map, length, Option, Some, None, refl, sym, ap, ◌∙◌, subst, ◌==◌, arith}
use Rattle.std.specs.List.{list_all}
use Rattle.std.proofs.lemmas.Bool.{eqb-true}
use Rattle.std.proofs.lemmas.List.{length-map, map-append}
use Rattle.std.proofs.lemmas.List.Elements.{All-nil, All-append}
use Rattle.c_syntax.specs.declared.tree.Ty.{Ty}
use Rattle.c_syntax.specs.declared.tree.Ty.TheVariants.{Int, Unsigned, Void}
use Rattle.c_syntax.specs.declared.tree.Stmt.{Stmt}
use Rattle.c_syntax.specs.declared.tree.Param.{Param}
use Rattle.c_syntax.specs.declared.tree.Function.{Function}
use Rattle.c_syntax.specs.declared.tree.TopItem.{TopItem}
use Rattle.c_syntax.specs.declared.tree.TopItem.TheVariants as item
use Rattle.c_syntax.specs.declared.tree.Program.{Program}
use Rattle.c_syntax.specs.Graph.{functions_of, functions, function_named, has_body, body_of}
use Rattle.c_meaning.specs.Run.{Global}
use Rattle.c_meaning.specs.Meaning.{Names, globals_of, globals}
use Rattle.c_syntax.specs.Shaped.{each, has_name, is_shaped_statement, is_shaped_param, is_shaped_body, is_shaped_function, is_shaped_item}
use Rattle.c_syntax.specs.Literals.{statement_literals, item_literals}
use Rattle.check_rules.specs.declared.error.CheckKind.TheVariants.{NoBody, NoMain}
use Rattle.check_rules.specs.declared.names.Kind.TheVariants.{Function as FunctionKind}
use Rattle.check_rules.specs.declared.names.Known.{Known}
use Rattle.check_rules.specs.Fault.{require, refuse}
use Rattle.check_rules.specs.Scopes.{Scope, lookup, Walking}
use Rattle.check_rules.specs.Walk.{is_void, returns_void_kind, takes_kind, same_type, param_types, has_body_in, walk_item, walk_items, first_walking, walk_program}
use Rattle.check_rules.specs.Limits.{CallSite, lacks_body, first_without_body, body_calls, bodies, is_main, within_limits, Resolved, checked, resolved_names}
use Rattle.check_law.proofs.Yields.{Yields, yields_ok, yields_then, yields_after, required}
use Rattle.check_law.proofs.Unchanged.{and_true}
use Rattle.check_law.proofs.Positions.{some_known}
use Rattle.check_law.proofs.Holds.{Sub, sub_refl, sub_trans}
use Rattle.lower_rules.specs.Bindings.{GlobalShape, Callee, InWord, OutWord, is_void_type, defined_callee, callee_void, callee_takes, callee_of}
use Rattle.lower_rules.specs.Programs.{shape_of, shapes, number_of}
use Rattle.lower_rules.specs.Fitting.{AreWordsAll, Fitting}
use Rattle.lower_checked.specs.Fits.{CheckedFits}
use Rattle.lower_checked.proofs.Ascends.{Ascends, ascends_both, shape_name, FoundEach, found_both, found_all}
use Rattle.lower_checked.proofs.FitExpressions.{refused, each_both, both_true, passes}
use Rattle.lower_checked.proofs.FitGlobals.{AtFile, in_word_known, out_word_known, ShownFile, shown_name, BeginsWithWords, globals_fit}
use Rattle.lower_checked.proofs.FitFunctions.{MeantScope, GoodBody, FunctionFits, fits_later, function_fits}

-- ---- the items

abbrev AllFit : Scope → List Function → Type 0
AllFit F [] = Unit {0}
AllFit F (f ∷ fs) = FunctionFits F f × AllFit F fs

all_fit_later : (F F' : Scope) (fs : List Function) → Sub F F' → AllFit F fs → AllFit F' fs
all_fit_later F F' [] sub x = tt
all_fit_later F F' (f ∷ fs) sub x = (fits_later F F' f sub x.0, all_fit_later F F' fs sub x.1)

all_fit_both : (F : Scope) (fs gs : List Function) → AllFit F fs → AllFit F gs → AllFit F (fs ++ gs)
all_fit_both F [] gs x y = y
all_fit_both F (f ∷ fs) gs x y = (x.0, all_fit_both F fs gs x.1 y)

-- items with these variables and functions
record ItemsFacts (gs : List Global) (fs : List Function) (literals : Bool) (w r : Walking) : Type 0 where
  at_file : AtFile w → AtFile r
  sub : Sub w.file r.file
  ascends : Ascends shape_name (length w.decls) (map shape_of gs) (length r.decls)
  shown : (shapes : List GlobalShape) → FoundEach shapes (map shape_of gs) → ShownFile shapes w.file → ShownFile shapes r.file
  words : literals ≡ true → AreWordsAll gs
  fits : AtFile w → AllFit r.file fs

item_fits : (hb : ℕ → Bool) (i : TopItem) (w : Walking) → Yields (walk_item hb i w) (λ r. r.0 ≡ i → ItemsFacts (globals_of i) (functions_of i) (item_literals i) w r.1)
item_fits hb (item.Globals gs) w = yields_then (globals_fit gs w) (λ r p. yields_ok (item.Globals r.0, r.1) (λ is.
    let x = p cc in
    record { at_file = x.at_file; sub = x.sub; ascends = x.ascends; shown = x.shown; words = x.words; fits = λ a. tt }))
item_fits hb (item.Function f) w = yields_then (function_fits hb f w) (λ r p. yields_ok (item.Function r.0, r.1) (λ is.
    let x = p cc in
    record { at_file = x.at_file; sub = x.sub; ascends = x.from; shown = λ shapes found s. x.shown shapes s; words = λ lit. All-nil BeginsWithWords; fits = λ a. (x.fits a, tt) }))

items_both : {gs gs' : List Global} {fs fs' : List Function} {l l' : Bool} {w w1 w2 : Walking} → ItemsFacts gs fs l w w1 → ItemsFacts gs' fs' l' w1 w2 → ItemsFacts (gs ++ gs') (fs ++ fs') (l && l') w w2
items_both {gs = gs} {gs' = gs'} {fs = fs} {fs' = fs'} {l = l} {l' = l'} {w = w} {w1 = w1} {w2 = w2} x y =
    let e : map shape_of (gs ++ gs') ≡ map shape_of gs ++ map shape_of gs' = map-append shape_of gs gs' in
    record {
      at_file = λ a. y.at_file (x.at_file a);
      sub = sub_trans x.sub y.sub;
      ascends = subst (λ s. Ascends shape_name (length w.decls) s (length w2.decls)) (sym e) (ascends_both shape_name (length w.decls) (map shape_of gs) (length w1.decls) (map shape_of gs') (length w2.decls) x.ascends y.ascends);
      shown = λ shapes found s. let f = found_both shapes (map shape_of gs) (map shape_of gs') (subst (FoundEach shapes) e found) in y.shown shapes f.1 (x.shown shapes f.0 s);
      words = λ lit. let p = and_true l l' lit in All-append BeginsWithWords gs gs' (x.words p.0) (y.words p.1);
      fits = λ a. all_fit_both w2.file fs fs' (all_fit_later w1.file w2.file fs y.sub (x.fits a)) (y.fits (x.at_file a));
    }

items_fit : (hb : ℕ → Bool) (is : List TopItem) (w : Walking) → Yields (walk_items hb is w) (λ r. r.0 ≡ is → ItemsFacts (globals is) (functions is) (list_all item_literals is) w r.1)
items_fit hb [] w = yields_ok ([], w) (λ same. record { at_file = λ a. a; sub = sub_refl w.file; ascends = omega arith; shown = λ shapes found s. s; words = λ lit. All-nil BeginsWithWords; fits = λ a. tt })
items_fit hb (i ∷ is) w = yields_then (item_fits hb i w) (λ r1 p. yields_then (items_fit hb is r1.1) (λ r2 q. yields_ok (r1.0 ∷ r2.0, r2.1) (λ same.
    let x = p cc in
    let y = q cc in
    items_both x y)))

-- ---- the limits

record Limits (names : Names) (items : List TopItem) : Type 0 where
  calls : first_without_body names items ≡ None
  main : is_main (function_named names.main items) ≡ true

limits_hold : (names : Names) (program : Program) → Yields (within_limits names program) (λ u. Limits names program.items)
limits_hold names program = yields_after {m = refuse (first_without_body names program.items) NoBody} (λ first. yields_after {m = require (is_main (function_named names.main program.items)) NoMain 0} (λ second. record {
  if_ok = λ u is. record {
    calls = refused (first_without_body names program.items) NoBody first;
    main = required (is_main (function_named names.main program.items)) NoMain 0 second;
  };
}))

-- a function that can be called
abbrev known_of : Names → List TopItem → ℕ → Bool
known_of names items name = name == names.in_word || (name == names.out_word || has_body_in items name)

nowhere : (o : Option CallSite) → (elim o as (λ x. Option ℕ) [ None ↦ None | Some c ↦ Some c.at ]) ≡ None → o ≡ None
nowhere None is = refl
nowhere (Some c) is = absurd cc

none_lacks : (known : ℕ → Bool) (cs : List CallSite) → find (λ c. not (known c.name)) cs ≡ None → each (passes known) cs ≡ true
none_lacks known [] is = refl
none_lacks known (c ∷ cs) is = at (known c.name) refl (λ h. none_lacks known cs h)
  where
    at : (t : Bool) → known c.name ≡ t → (find (λ c. not (known c.name)) cs ≡ None → each (passes known) cs ≡ true) → each (passes known) (c ∷ cs) ≡ true
    at true t go = let h = rw t at is in both_true (known c.name) (each (passes known) cs) t (go h)
    at false t go = let h = rw t at is in absurd cc

-- ---- what is asked of each function

record GoodFunction (known : ℕ → Bool) (f : Function) : Type 0 where
  shaped : is_shaped_function f ≡ true
  literals : list_all statement_literals (body_of f.body) ≡ true
  calls : has_body f.body ≡ true → each (passes known) (body_calls f) ≡ true

abbrev AllGood : (ℕ → Bool) → List Function → Type 0
AllGood known [] = Unit {0}
AllGood known (f ∷ fs) = GoodFunction known f × AllGood known fs

abbrev AllCalls : (ℕ → Bool) → List Function → Type 0
AllCalls known [] = Unit {0}
AllCalls known (f ∷ fs) = (has_body f.body ≡ true → each (passes known) (body_calls f) ≡ true) × AllCalls known fs

all_calls : (known : ℕ → Bool) (fs : List Function) → each (passes known) (flat_map body_calls (filter (λ f. has_body f.body) fs)) ≡ true → AllCalls known fs
all_calls known [] is = tt
all_calls known (f ∷ fs) is = at (has_body f.body) refl (λ h. all_calls known fs h)
  where
    at : (t : Bool) → has_body f.body ≡ t → (each (passes known) (flat_map body_calls (filter (λ f. has_body f.body) fs)) ≡ true → AllCalls known fs) → AllCalls known (f ∷ fs)
    at true t go =
        let h = rw t at is in
        let p = each_both (passes known) (body_calls f) (flat_map body_calls (filter (λ f. has_body f.body) fs)) h in
        ((λ b. p.0), go p.1)
    at false t go =
        let h = rw t at is in
        ((λ b. let e : false ≡ true = sym t ∙ b in absurd cc), go h)

all_good : (known : ℕ → Bool) (is : List TopItem) → each is_shaped_item is ≡ true → list_all item_literals is ≡ true → AllCalls known (functions is) → AllGood known (functions is)
all_good known [] s l c = tt
all_good known (item.Globals gs ∷ is) s l c = all_good known is (and_true (is_shaped_item (item.Globals gs)) (each is_shaped_item is) s).1 (and_true (item_literals (item.Globals gs)) (list_all item_literals is) l).1 c
all_good known (item.Function f ∷ is) s l c =
    let s' = and_true (is_shaped_function f) (each is_shaped_item is) s in
    let l' = and_true (list_all statement_literals (body_of f.body)) (list_all item_literals is) l in
    (record { shaped = s'.0; literals = l'.0; calls = c.0 }, all_good known is s'.1 l'.1 c.1)

-- ---- the function of a name

record IsNamed (known : ℕ → Bool) (F : Scope) (name : ℕ) (f : Function) : Type 0 where
  same_name : f.name ≡ name
  body : has_body f.body ≡ true
  fits : FunctionFits F f
  good : GoodFunction known f

is_named : (known : ℕ → Bool) (F : Scope) (name : ℕ) (g : Function) (fs : List Function) → AllFit F fs → AllGood known fs → find (λ f. f.name == name && has_body f.body) fs ≡ Some g → IsNamed known F name g
is_named known F name g [] x y is = absurd cc
is_named known F name g (f ∷ fs) x y is = at (f.name == name && has_body f.body) refl (λ h. is_named known F name g fs x.1 y.1 h)
  where
    at : (t : Bool) → (f.name == name && has_body f.body) ≡ t → (find (λ f. f.name == name && has_body f.body) fs ≡ Some g → IsNamed known F name g) → IsNamed known F name g
    at true t go =
        let h = rw t at is in
        let e : f ≡ g = cc in
        let p = and_true (f.name == name) (has_body f.body) t in
        subst (IsNamed known F name) e (record { same_name = eqb-true f.name name p.0; body = p.1; fits = x.0; good = y.0 })
    at false t go = let h = rw t at is in go h

none_named : (F : Scope) (name : ℕ) (fs : List Function) → ((f : Function) → FunctionFits F f → (f.name == name && has_body f.body) ≡ false) → AllFit F fs → find (λ f. f.name == name && has_body f.body) fs ≡ None
none_named F name [] none x = refl
none_named F name (f ∷ fs) none x = let t = none f x.0 in rw t (none_named F name fs none x.1)

-- ---- what names at file scope stand for

same_void : (ty : Ty) → is_void_type ty ≡ is_void ty
same_void Int = refl
same_void Unsigned = refl
same_void Void = refl

module _ (c : Resolved) (items : List TopItem) (number : ℕ → ℕ) (F : Scope) (in_word : lookup 0 F ≡ Some in_word_known) (out_word : lookup 1 F ≡ Some out_word_known)
    (named : (name : ℕ) (f : Function) → function_named name items ≡ Some f → IsNamed (known_of (resolved_names c) items) F name f) where
  abbrev is_known : ℕ → Bool
  is_known = known_of (resolved_names c) items

  abbrev callee : ℕ → Callee
  callee = callee_of (resolved_names c) items number

  -- it stands for a function with the type and the parameters of its declaration
  record CalleeMeant (n : ℕ) (d : Known) : Type 0 where
    void : callee_void (callee n) ≡ returns_void_kind d.kind
    takes : (count : ℕ) → takes_kind count d.kind ≡ true → callee_takes (callee n) count ≡ true

  defined_meant : (n : ℕ) (d : Known) (f : Function) → lookup n F ≡ Some d → function_named n items ≡ Some f → (n == 0) ≡ false → (n == 1) ≡ false → CalleeMeant n d
  defined_meant n d f is found not_in not_out =
      let x = named n f found in
      let e : lookup n F ≡ Some x.fits.known = subst (λ m. lookup m F ≡ Some x.fits.known) x.same_name x.fits.is in
      let k : d ≡ x.fits.known = some_known d x.fits.known (sym is ∙ e) in
      let kind : d.kind ≡ FunctionKind f.ty (param_types f.params) = ap (λ z. z.kind) k ∙ x.fits.kind in
      let at : callee n ≡ defined_callee (number n) (Some f) = rw (not_in, not_out, found) refl in
      record {
        void = ap callee_void at ∙ same_void f.ty ∙ sym (ap returns_void_kind kind);
        takes = λ count t.
            let t' : (count == length (param_types f.params)) ≡ true = subst (λ z. takes_kind count z ≡ true) kind t in
            let l : length (param_types f.params) ≡ length f.params = length-map f.params (λ (p : Param). p.ty) in
            ap (λ z. callee_takes z count) at ∙ subst (λ m. (count == m) ≡ true) l t';
      }

  callee_meant : (n : ℕ) (d : Known) → lookup n F ≡ Some d → is_known n ≡ true → CalleeMeant n d
  callee_meant n d is k = at (n == 0) (n == 1) (function_named n items) refl refl refl
    where
      at : (a b : Bool) (o : Option Function) → (n == 0) ≡ a → (n == 1) ≡ b → function_named n items ≡ o → CalleeMeant n d
      at true b o p q r =
          let e : d ≡ in_word_known = some_known d in_word_known (sym is ∙ ap (λ m. lookup m F) (eqb-true n 0 p) ∙ in_word) in
          let c : callee n ≡ InWord = rw p refl in
          record { void = ap callee_void c ∙ sym (ap (λ z. returns_void_kind z.kind) e); takes = λ count t. ap (λ z. callee_takes z count) c ∙ subst (λ z. takes_kind count z.kind ≡ true) e t }
      at false true o p q r =
          let e : d ≡ out_word_known = some_known d out_word_known (sym is ∙ ap (λ m. lookup m F) (eqb-true n 1 q) ∙ out_word) in
          let c : callee n ≡ OutWord = rw (p, q) refl in
          record { void = ap callee_void c ∙ sym (ap (λ z. returns_void_kind z.kind) e); takes = λ count t. ap (λ z. callee_takes z count) c ∙ subst (λ z. takes_kind count z.kind ≡ true) e t }
      at false false (Some f) p q r = defined_meant n d f is r p q
      at false false None p q r = let h = rw (p, q, r) at k in absurd cc

  meant_scope : (gs : List GlobalShape) → ShownFile gs F → MeantScope gs callee is_known F
  meant_scope gs shown = record {
    scalar = λ n d is such. (shown_name gs n d F shown is).scalar such;
    array = λ n d is such. (shown_name gs n d F shown is).array such;
    void = λ n d is such k. (callee_meant n d is k).void;
    takes = λ n d count is k such. (callee_meant n d is k).takes count such;
  }

-- ---- the whole

shaped_body : (params : List Param) (body : Option (List Stmt)) → has_body body ≡ true → is_shaped_body params body ≡ true → (each (λ (p : Param). has_name p.name) params ≡ true) × (each is_shaped_statement (body_of body) ≡ true)
shaped_body params None b s = absurd cc
shaped_body params (Some cs) b s = and_true (each (λ (p : Param). has_name p.name) params) (each is_shaped_statement cs) s

good_body : (known : ℕ → Bool) (f : Function) → has_body f.body ≡ true → GoodFunction known f → GoodBody known f.params f.body
good_body known f b g =
    let s = shaped_body f.params f.body b (and_true (each is_shaped_param f.params) (is_shaped_body f.params f.body) g.shaped).1 in
    record { named = s.0; shaped = s.1; literals = g.literals; all_known = g.calls b }

record MainIs (o : Option Function) : Type 0 where
  main : Function
  is : o ≡ Some main
  no_params : length main.params ≡ 0

main_found : (o : Option Function) → is_main o ≡ true → MainIs o
main_found None is = absurd cc
main_found (Some f) is = record { main = f; is = refl; no_params = eqb-true (length f.params) 0 (and_true (same_type f.ty Int) (length f.params == 0) is).1 }

first_at_file : (c : Resolved) → AtFile (first_walking (resolved_names c))
first_at_file c = record { no_blocks = refl; below = (omega arith, (omega arith, tt)); in_word = refl; out_word = refl; in_body = refl; out_body = refl }

first_shown : (c : Resolved) (gs : List GlobalShape) → ShownFile gs (first_walking (resolved_names c)).file
first_shown c gs = (record { scalar = λ t. absurd cc; array = λ t. absurd cc }, (record { scalar = λ t. absurd cc; array = λ t. absurd cc }, tt))

whole : (c : Resolved) (items : List TopItem) (r : Walking) → each is_shaped_item items ≡ true → list_all item_literals items ≡ true → Limits (resolved_names c) items → ItemsFacts (globals items) (functions items) (list_all item_literals items) (first_walking (resolved_names c)) r → Fitting (resolved_names c) items
whole c items r shaped literals limits x =
    let names : Names = resolved_names c in
    let w0 : Walking = first_walking names in
    let known : ℕ → Bool = known_of names items in
    let number : ℕ → ℕ = number_of names items in
    let a : AtFile r = x.at_file (first_at_file c) in
    let fit : AllFit r.file (functions items) = x.fits (first_at_file c) in
    let called = none_lacks known (flat_map body_calls (bodies items)) (nowhere (find (lacks_body names items) (flat_map body_calls (bodies items))) limits.calls) in
    let good : AllGood known (functions items) = all_good known items shaped literals (all_calls known (functions items) called) in
    let named : (name : ℕ) (f : Function) → function_named name items ≡ Some f → IsNamed known r.file name f = λ name f is. is_named known r.file name f (functions items) fit good is in
    let shown : ShownFile (shapes items) r.file = x.shown (shapes items) (found_all (shapes items) (length w0.decls) (length r.decls) x.ascends) (first_shown c (shapes items)) in
    let meant : MeantScope (shapes items) (callee_of names items number) known r.file = meant_scope c items number r.file a.in_word a.out_word named (shapes items) shown in
    let m = main_found (function_named names.main items) limits.main in
    record {
      main = m.main;
      main_is = m.is;
      no_params = m.no_params;
      no_in_word = none_named r.file 0 (functions items) (λ f y. y.no_in_word) fit;
      no_out_word = none_named r.file 1 (functions items) (λ f y. y.no_out_word) fit;
      params_apart = λ name f is. let n = named name f is in n.fits.own_params (good_body known f n.body n.good).named;
      body_fits = λ name f is. let n = named name f is in n.fits.fits (shapes items) (callee_of names items number) known r.file (sub_refl r.file) meant (good_body known f n.body n.good);
      small_globals = x.words literals;
    }

fits_if_same : (c : Resolved) (program : Program) → each is_shaped_item program.items ≡ true → list_all item_literals program.items ≡ true → Yields (checked (resolved_names c) program) (λ c'. c'.program.items ≡ program.items → Fitting (resolved_names c) program.items)
fits_if_same c program shaped literals = yields_then {m = walk_program (resolved_names c) program} (items_fit (has_body_in program.items) program.items (first_walking (resolved_names c))) (λ r p. yields_after {m = within_limits (resolved_names c) program} (λ limits. yields_ok _ (λ same.
    whole c program.items r.1 shaped literals ((limits_hold (resolved_names c) program).if_ok tt limits) (p same))))

pub checked_can_be_lowered : CheckedFits
checked_can_be_lowered c is literals = (fits_if_same c c.program is.shaped literals).if_ok c is.unchanged refl
