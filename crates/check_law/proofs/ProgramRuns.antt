-- A program without fault and the program whose names are positions have the same run.
use Rattle.std.proofs.Common.{◌≡◌, ℕ, zero, suc, Bool, true, false, ◌&&◌, ◌||◌, List, [], ◌∷◌, ◌++◌, map, length, Option, Some, None, refl, sym, ap, ◌∙◌, subst, if◌then◌else◌, ◌==◌, arith}
use Rattle.std.proofs.lemmas.List.{length-map}
use Rattle.std.proofs.lemmas.Bool.{eq-eqb, eqb-true, eqb-false}
use Rattle.c_meaning.specs.declared.run.Value.{Value}
use Rattle.c_meaning.specs.declared.run.EvalEnd.TheVariants.{Going, Starved}
use Rattle.c_syntax.specs.declared.tree.Ty.TheVariants.{Int, Void}
use Rattle.c_syntax.specs.declared.tree.GlobalVar.{GlobalVar}
use Rattle.c_syntax.specs.declared.tree.Function.{Function}
use Rattle.c_syntax.specs.declared.tree.TopItem.{TopItem}
use Rattle.c_syntax.specs.declared.tree.TopItem.TheVariants as item
use Rattle.c_syntax.specs.declared.tree.Program.{Program}
use Rattle.c_meaning.specs.Operators.{value, is_unsigned_type}
use Rattle.c_meaning.specs.Run.{Global, Outcome, Gives, Ends, ◌>>◌, find_global, counted, spend}
use Rattle.std.specs.List.{list_any}
use Rattle.c_syntax.specs.Graph.{has_body, functions, function_named, calls_of, leads, is_recursive}
use Rattle.c_meaning.specs.Meaning.{Calls, returns_unsigned, in_body, enter_function, Names, source_names, first_word, call_in_word, call_out_word, call_at, calls, global, globals, first_state, ran, run_of}
use Rattle.c_syntax.specs.Shaped.{each, is_shaped_item, Shaped}
use Rattle.check_rules.specs.declared.error.CheckKind.TheVariants.{NoMain, NoBody}
use Rattle.check_rules.specs.Fault.{require, refuse}
use Rattle.check_rules.specs.declared.names.Kind.{Kind}
use Rattle.check_rules.specs.declared.names.Kind.TheVariants.{Function as FunctionKind}
use Rattle.check_rules.specs.declared.names.Known.{Known}
use Rattle.check_rules.specs.Scopes.{Scope, lookup, Walking}
use Rattle.check_rules.specs.Walk.{takes_kind, same_type, param_types, walk_globals, walk_item, walk_items, first_walking, has_body_in}
use Rattle.check_rules.specs.Limits.{is_main, first_without_body, within_limits, position_or_zero, checked, resolved_names}
use Rattle.check_rules.specs.Resolution.{SameRun}
use Rattle.check_law.proofs.Yields.{Yields, yields_ok, yields_then, yields_after, required}
use Rattle.check_law.proofs.Sims.{Alike, Sims, Equal, sims_on, sims_if, sims_pure}
use Rattle.check_law.proofs.Positions.{onto, Distinct, one_name, same_known}
use Rattle.check_law.proofs.Holds.{Holds, Sub, sub_refl, sub_trans, sims_end, sims_spend, sims_put_out, sims_take_in, sims_counted}
use Rattle.check_law.proofs.Unchanged.{and_true}
use Rattle.check_law.proofs.Calls.{Positions, no_names, a_name}
use Rattle.check_law.proofs.StatementRuns.{Related}
use Rattle.check_law.proofs.ItemRuns.{AtFile, file_distinct, FileOk, SameGlobal, of_global, SameFunction, of_function}

-- ---- items

-- one to one
pub data SameGlobals (F : Scope) : List GlobalVar → List GlobalVar → Type 0 where
  globals_none : SameGlobals F [] []
  globals_also : {g g' : GlobalVar} {gs gs' : List GlobalVar} → SameGlobal F g g' → SameGlobals F gs gs' → SameGlobals F (g ∷ gs) (g' ∷ gs')

pub data SameItem (F : Scope) : TopItem → TopItem → Type 0 where
  same_globals : {gs gs' : List GlobalVar} → SameGlobals F gs gs' → SameItem F (item.Globals gs) (item.Globals gs')
  same_function : {f f' : Function} → SameFunction F f f' → SameItem F (item.Function f) (item.Function f')

pub data SameItems (F : Scope) : List TopItem → List TopItem → Type 0 where
  items_none : SameItems F [] []
  items_also : {i i' : TopItem} {is is' : List TopItem} → SameItem F i i' → SameItems F is is' → SameItems F (i ∷ is) (i' ∷ is')

pub record ListOk {A : Type 0} (R : Scope → A → A → Type 0) (w : Walking) (a : A) (r : A × Walking) : Type 0 where
  pub file : FileOk w r.1
  pub same : (F : Scope) → Distinct (onto F []) → Sub r.1.file F → R F a r.0

pub of_globals : (gs : List GlobalVar) (w : Walking) → AtFile w → Yields (walk_globals gs w) (ListOk SameGlobals w gs)
of_globals [] w a = yields_ok ([], w) (record { file = record { at_file = a; sub = sub_refl w.file }; same = λ F one sub. globals_none })
of_globals (g ∷ gs) w a = yields_then (of_global g w a) (λ r1 ok. yields_then (of_globals gs r1.1 ok.file.at_file) (λ r2 rest. yields_ok (r1.0 ∷ r2.0, r2.1) (record {
  file = record { at_file = rest.file.at_file; sub = sub_trans ok.file.sub rest.file.sub };
  same = λ F one sub. globals_also (ok.same F one (sub_trans rest.file.sub sub)) (rest.same F one sub);
})))

pub of_item : (has_body_named : ℕ → Bool) (i : TopItem) (w : Walking) → AtFile w → is_shaped_item i ≡ true → Yields (walk_item has_body_named i w) (ListOk SameItem w i)
of_item has_body_named (item.Globals gs) w a shaped = yields_then (of_globals gs w a) (λ r ok. yields_ok (item.Globals r.0, r.1) (record { file = ok.file; same = λ F one sub. same_globals (ok.same F one sub) }))
of_item has_body_named (item.Function f) w a shaped = yields_then (of_function has_body_named f w a shaped) (λ r ok. yields_ok (item.Function r.0, r.1) (record { file = ok.file; same = λ F one sub. same_function (ok.same F one sub) }))

pub of_items : (has_body_named : ℕ → Bool) (is : List TopItem) (w : Walking) → AtFile w → each is_shaped_item is ≡ true → Yields (walk_items has_body_named is w) (ListOk SameItems w is)
of_items has_body_named [] w a shaped = yields_ok ([], w) (record { file = record { at_file = a; sub = sub_refl w.file }; same = λ F one sub. items_none })
of_items has_body_named (i ∷ is) w a shaped =
    let x = and_true (is_shaped_item i) (each is_shaped_item is) shaped in
    yields_then (of_item has_body_named i w a x.0) (λ r1 ok. yields_then (of_items has_body_named is r1.1 ok.file.at_file x.1) (λ r2 rest. yields_ok (r1.0 ∷ r2.0, r2.1) (record {
      file = record { at_file = rest.file.at_file; sub = sub_trans ok.file.sub rest.file.sub };
      same = λ F one sub. items_also (ok.same F one (sub_trans rest.file.sub sub)) (rest.same F one sub);
    })))

-- ---- what a name and its position find

module _ (F : Scope) (one : Distinct (onto F [])) where
  -- a name is that of an item where its position is that of the item with positions
  pub same_test : (n : ℕ) (d : Known) → lookup n F ≡ Some d → (m p : ℕ) (k : Known) → lookup m F ≡ Some k → k.position ≡ p → (m == n) ≡ (p == d.position)
  same_test n d is m p k js e = at (m == n) (p == d.position) refl refl
    where
      at : (a b : Bool) → (m == n) ≡ a → (p == d.position) ≡ b → (m == n) ≡ (p == d.position)
      at true true u v = u ∙ sym v
      at true false u v = absurd (eqb-false p d.position v (sym e ∙ ap (λ x. x.position) (same_known m n F k d (eqb-true m n u) js is)))
      at false true u v = absurd (eqb-false m n u (one_name F [] m k n d one js is (e ∙ eqb-true p d.position v)))
      at false false u v = u ∙ sym v

  -- variables at file scope
  globals_found : {gs gs' : List GlobalVar} → SameGlobals F gs gs' → (rest rest' : List Global) (n : ℕ) (d : Known) → lookup n F ≡ Some d → find_global n rest ≡ find_global d.position rest' → find_global n (map global gs ++ rest) ≡ find_global d.position (map global gs' ++ rest')
  globals_found globals_none rest rest' n d is r = r
  globals_found (globals_also {g = g} {g' = g'} {gs = gs} {gs' = gs'} s more) rest rest' n d is r =
      let t = same_test n d is g.name g'.name s.known s.is s.at in
      let ih = globals_found more rest rest' n d is r in
      ap (λ b. if b then Some (global g).object else find_global n (map global gs ++ rest)) t ∙ at (g'.name == d.position) ih s.object
    where
      at : (b : Bool) → find_global n (map global gs ++ rest) ≡ find_global d.position (map global gs' ++ rest') → (global g).object ≡ (global g').object → (if b then Some (global g).object else find_global n (map global gs ++ rest)) ≡ (if b then Some (global g').object else find_global d.position (map global gs' ++ rest'))
      at true ih o = ap Some o
      at false ih o = ih

  pub same_found : {is is' : List TopItem} → SameItems F is is' → (n : ℕ) (d : Known) → lookup n F ≡ Some d → find_global n (globals is) ≡ find_global d.position (globals is')
  same_found items_none n d k = refl
  same_found (items_also {is = is} {is' = is'} (same_globals s) more) n d k = globals_found s (globals is) (globals is') n d k (same_found more n d k)
  same_found (items_also (same_function s) more) n d k = same_found more n d k

  -- functions with a body
  pub data SameNamed (n : ℕ) : Option Function → Option Function → Type 0 where
    named_none : SameNamed n None None
    named_some : {f f' : Function} → SameFunction F f f' → f.name ≡ n → SameNamed n (Some f) (Some f')

  pub same_named : {is is' : List TopItem} → SameItems F is is' → (n : ℕ) (d : Known) → lookup n F ≡ Some d → SameNamed n (function_named n is) (function_named d.position is')
  same_named items_none n d k = named_none
  same_named (items_also (same_globals s) more) n d k = same_named more n d k
  same_named (items_also {is = is} {is' = is'} (same_function {f = f} {f' = f'} s) more) n d k =
      let t = same_test n d k f.name f'.name s.known s.is s.at in
      let b = s.same_body in
      rw (t, ← b) (at (f'.name == d.position && has_body f'.body) refl t (same_named more n d k))
    where
      at : (b : Bool) → (f'.name == d.position && has_body f'.body) ≡ b → (f.name == n) ≡ (f'.name == d.position) → SameNamed n (function_named n is) (function_named d.position is') → SameNamed n (if b then Some f else function_named n is) (if b then Some f' else function_named d.position is')
      at true e t ih = named_some s (eqb-true f.name n (t ∙ (and_true (f'.name == d.position) (has_body f'.body) e).0))
      at false e t ih = ih

  pub same_returns : {n : ℕ} {o o' : Option Function} → SameNamed n o o' → returns_unsigned o ≡ returns_unsigned o'
  same_returns named_none = refl
  same_returns (named_some s e) = ap is_unsigned_type (sym s.returns)

  -- ---- chains of calls

  pub test_of : (n : ℕ) (d : Known) → lookup n F ≡ Some d → (m p : ℕ) (k : Known) → lookup m F ≡ Some k → k.position ≡ p → (n == m) ≡ (d.position == p)
  test_of n d is m p k js e = at (n == m) (d.position == p) refl refl
    where
      at : (a b : Bool) → (n == m) ≡ a → (d.position == p) ≡ b → (n == m) ≡ (d.position == p)
      at true true u v = u ∙ sym v
      at true false u v = absurd (eqb-false d.position p v (ap (λ x. x.position) (same_known n m F d k (eqb-true n m u) is js) ∙ e))
      at false true u v = absurd (eqb-false n m u (one_name F [] n d m k one is js (eqb-true d.position p v ∙ sym e)))
      at false false u v = u ∙ sym v

  pub same_calls : {n : ℕ} {o o' : Option Function} → SameNamed n o o' → Positions (λ m. lookup m F) (calls_of o) (calls_of o')
  same_calls named_none = no_names
  same_calls (named_some s e) = s.calls

  pub any_same : (f f' : ℕ → Bool) → ((m : ℕ) (e : Known) → lookup m F ≡ Some e → f m ≡ f' e.position) → {cs cs' : List ℕ} → Positions (λ m. lookup m F) cs cs' → list_any f cs ≡ list_any f' cs'
  any_same f f' same no_names = refl
  any_same f f' same (a_name {ns = ns} {ps = ps} m e is such rest) = ap (λ b. b || list_any f ns) (same m e is) ∙ ap (λ b. f' e.position || b) (any_same f f' same rest)

  pub same_leads : {is is' : List TopItem} → SameItems F is is' → (to : ℕ) (e : Known) → lookup to F ≡ Some e → (n : ℕ) (m : ℕ) (d : Known) → lookup m F ≡ Some d → leads is n m to ≡ leads is' n d.position e.position
  same_leads same to e js zero m d k = refl
  same_leads {is = is} {is' = is'} same to e js (suc n) m d k = any_same _ _ (λ l f q. ap (λ b. b || leads is n l to) (test_of l f q to e.position e js refl) ∙ ap (λ b. (f.position == e.position) || b) (same_leads same to e js n l f q)) (same_calls (same_named same m d k))

  pub same_count : {is is' : List TopItem} → SameItems F is is' → length (functions is) ≡ length (functions is')
  same_count items_none = refl
  same_count (items_also (same_globals s) more) = same_count more
  same_count (items_also (same_function s) more) = ap suc (same_count more)

  pub same_recursive : {is is' : List TopItem} → SameItems F is is' → (n : ℕ) (d : Known) → lookup n F ≡ Some d → is_recursive is n ≡ is_recursive is' d.position
  same_recursive {is = is} {is' = is'} same n d k = same_leads same n d k (length (functions is)) n d k ∙ ap (λ c. leads is' c d.position d.position) (same_count same)

  -- ---- calls

  module _ (names : Names) (main : ℕ) (items items' : List TopItem) (same : SameItems F items items') (in_word out_word : Known)
      (is_in_word : lookup names.in_word F ≡ Some in_word) (is_out_word : lookup names.out_word F ≡ Some out_word) (at_0 : in_word.position ≡ 0) (at_1 : out_word.position ≡ 1) where
    abbrev names' : Names
    names' = record { main = main; in_word = 0; out_word = 1 }

    many : (n : ℕ) (k : Kind) (f : Function) → k ≡ FunctionKind f.ty (param_types f.params) → takes_kind n k ≡ true → n ≡ length f.params
    many n k f is takes =
        let h : (n == length (param_types f.params)) ≡ true = subst (λ x. takes_kind n x ≡ true) is takes in
        eqb-true n (length (param_types f.params)) h ∙ length-map f.params (λ p. p.ty)

    sims_enter : (functions functions' : Calls) → Related F one functions functions' → (n : ℕ) (d : Known) → lookup n F ≡ Some d → (args : List Value) → takes_kind (length args) d.kind ≡ true → (L : List Scope) → (deep deep' : Bool) → deep ≡ deep' → {o o' : Option Function} → SameNamed n o o' → Sims (Holds F L) (enter_function functions deep o args) (enter_function functions' deep' o' args) (Equal (Holds F L))
    sims_enter functions functions' r n d is args takes L deep deep' same named_none = sims_end F Starved
    sims_enter functions functions' r n d is args takes L deep deep' same (named_some {f = f} {f' = f'} s e) =
        let k : d ≡ s.known = same_known n f.name F d s.known (sym e) is s.is in
        subst (λ b. Sims (Holds F L) (counted deep (spend >> in_body functions f args)) (counted b (spend >> in_body functions' f' args)) (Equal (Holds F L))) same (sims_counted F L deep (sims_on (sims_spend F L) (λ u. s.runs one functions functions' r args (many (length args) d.kind f (ap (λ x. x.kind) k ∙ s.kind) takes) L)))

    sims_in_word : (L : List Scope) → Sims (Holds F L) call_in_word call_in_word (Equal (Holds F L))
    sims_in_word L = sims_on (sims_take_in F L) (λ word. sims_pure (value word false))

    sims_out_word : (L : List Scope) (args : List Value) → Sims (Holds F L) (call_out_word args) (call_out_word args) (Equal (Holds F L))
    sims_out_word L args = sims_on (sims_put_out F L (first_word args)) (λ u. sims_pure (value 0 false))

    pub related : (n : ℕ) → Related F one (calls names items n) (calls names' items' n)
    related zero = record { of_type = λ n d is such. same_returns (same_named same n d is); of_call = λ n d is args takes L. sims_end F Going }
    related (suc level) = record { of_type = λ n d is such. same_returns (same_named same n d is); of_call = λ n d is args takes L. call (related level) n d is args takes L }
      where
        call : Related F one (calls names items level) (calls names' items' level) → (n : ℕ) (d : Known) → lookup n F ≡ Some d → (args : List Value) → takes_kind (length args) d.kind ≡ true → (L : List Scope) → Sims (Holds F L) (call_at names items (suc level) n args) (call_at names' items' (suc level) d.position args) (Equal (Holds F L))
        call r n d is args takes L =
            let t0 = test_of n d is names.in_word 0 in_word is_in_word at_0 in
            let t1 = test_of n d is names.out_word 1 out_word is_out_word at_1 in
            let e = sims_enter (calls names items level) (calls names' items' level) r n d is args takes L (is_recursive items n) (is_recursive items' d.position) (same_recursive same n d is) (same_named same n d is) in
            rw (← t0, ← t1) (sims_if (n == names.in_word) (sims_in_word L) (sims_if (n == names.out_word) (sims_out_word L args) e))

-- ---- whole programs

same_ran : (F : Scope) (L : List Scope) (o o' : Outcome Value) → Alike (Equal (Holds F L)) o o' → ran o ≡ ran o'
same_ran F L (Gives v s) (Gives v' s') h = let p = h.0 in let q = h.1.world.output in cc
same_ran F L (Gives v s) (Ends end' output') h = absurd h
same_ran F L (Ends end output) (Gives v' s') h = absurd h
same_ran F L (Ends end output) (Ends end' output') h = let p = h.0 in let q = h.1 in cc

-- the declaration of a function with a body
pub record Declared (F : Scope) (n : ℕ) (f : Function) : Type 0 where
  pub known : Known
  pub is : lookup n F ≡ Some known
  pub kind : known.kind ≡ FunctionKind f.ty (param_types f.params)

pub declared_function : (F : Scope) {is is' : List TopItem} → SameItems F is is' → (n : ℕ) (f : Function) → function_named n is ≡ Some f → Declared F n f
declared_function F items_none n f e = absurd cc
declared_function F (items_also (same_globals s) more) n f e = declared_function F more n f e
declared_function F (items_also {is = is} (same_function {f = g} s) more) n f e = at (g.name == n && has_body g.body) refl (λ h. declared_function F more n f h)
  where
    at : (b : Bool) → (g.name == n && has_body g.body) ≡ b → (function_named n is ≡ Some f → Declared F n f) → Declared F n f
    at true t go =
        let h = rw t at e in
        let q : g ≡ f = cc in
        subst (Declared F n) q (record { known = s.known; is = subst (λ m. lookup m F ≡ Some s.known) (eqb-true g.name n (and_true (g.name == n) (has_body g.body) t).0) s.is; kind = s.kind })
    at false t go = let h = rw t at e in go h

main_there : (names : Names) (program : Program) → Yields (within_limits names program) (λ u. is_main (function_named names.main program.items) ≡ true)
main_there names program = yields_after {m = refuse (first_without_body names program.items) NoBody} (λ first. yields_after {m = require (is_main (function_named names.main program.items)) NoMain 0} (λ main. record { if_ok = λ u is. required (is_main (function_named names.main program.items)) NoMain 0 main }))

pub first_at_file : AtFile (first_walking source_names)
first_at_file = record {
  sound = record {
    distinct = (((λ e. absurd (omega (arith, e))), tt), (tt, tt));
    below = (omega arith, (omega arith, tt));
    variables = λ n d is. absurd cc;
  };
  no_blocks = refl;
}

-- a main without parameters
pub record Main (F : Scope) (o : Option Function) : Type 0 where
  pub known : Known
  pub is : lookup 0 F ≡ Some known
  pub takes : takes_kind 0 known.kind ≡ true

pub main_of : (F : Scope) {is is' : List TopItem} → SameItems F is is' → (o : Option Function) → function_named 0 is ≡ o → is_main o ≡ true → Main F o
main_of F same None e is = absurd cc
main_of F same (Some f) e is =
    let d = declared_function F same 0 f e in
    let x = and_true (same_type f.ty Int) (length f.params == 0) is in
    let long : length (param_types f.params) ≡ 0 = length-map f.params (λ p. p.ty) ∙ eqb-true (length f.params) 0 x.1 in
    record { known = d.known; is = d.is; takes = subst (λ k. takes_kind 0 k ≡ true) (sym d.kind) (eq-eqb 0 (length (param_types f.params)) (sym long)) }

whole_run : (program : Program) → Shaped program → Yields (checked source_names program) (λ c. (input : List ℕ) (fuel : ℕ) → run_of source_names program input fuel ≡ run_of (resolved_names c) c.program input fuel)
whole_run program shaped = yields_then (of_items (has_body_in program.items) program.items (first_walking source_names) first_at_file shaped) (λ r ok. yields_after {m = within_limits source_names program} (λ limits. yields_ok _ (same_run r ok ((main_there source_names program).if_ok tt limits))))
  where
    same_run : (r : List TopItem × Walking) → ListOk SameItems (first_walking source_names) program.items r → is_main (function_named 0 program.items) ≡ true → (input : List ℕ) (fuel : ℕ) →
        run_of source_names program input fuel ≡ run_of (record { main = position_or_zero (lookup 0 (r.1).file); in_word = 0; out_word = 1 }) (record { items = r.0 }) input fuel
    same_run r ok main input fuel =
        let F : Scope = (r.1).file in
        let one : Distinct (onto F []) = file_distinct r.1 ok.file.at_file.sound in
        let same : SameItems F program.items r.0 = ok.same F one (sub_refl F) in
        let m = main_of F same (function_named 0 program.items) refl main in
        let position : ℕ = position_or_zero (lookup 0 F) in
        let at : position ≡ m.known.position = ap position_or_zero m.is in
        let both = related F one source_names position program.items r.0 same (record { position = 0; kind = FunctionKind Int [] }) (record { position = 1; kind = FunctionKind Void (Int ∷ []) }) (ok.file.sub.at 1 _ refl) (ok.file.sub.at 2 _ refl) refl refl (suc fuel) in
        let names : Names = record { main = position; in_word = 0; out_word = 1 } in
        let run = (both.of_call 0 m.known m.is [] m.takes []).by (first_state program.items input fuel) (first_state r.0 input fuel) (record {
          world = record { global = same_found F one same; input = refl; output = refl; fuel = refl; active = refl };
          frames = record { cells = []; scopes = refl; left = refl; right = refl };
        }) in
        same_ran F [] ((calls source_names program.items (suc fuel)).call 0 [] (first_state program.items input fuel)) ((calls names r.0 (suc fuel)).call m.known.position [] (first_state r.0 input fuel)) run
        ∙ ap (λ p. ran ((calls names r.0 (suc fuel)).call p [] (first_state r.0 input fuel))) (sym at)

pub same_run : SameRun
same_run program c shaped is input fuel = (whole_run program shaped).if_ok c is input fuel
