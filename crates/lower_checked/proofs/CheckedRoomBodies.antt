-- At most one body of each name comes in a walk.
use Rattle.std.proofs.Common.{◌≡◌, ℕ, Bool, true, false, not, ◌&&◌, ◌||◌, List, [], ◌∷◌, ◌++◌, find, length, Option, Some, None, is_some, refl, sym, ap, ◌∙◌, subst, if◌then◌else◌, ◌==◌, nat_le, cond, inl, inr}
use Rattle.std.specs.Prelude.{◌⊎◌}
use Rattle.std.proofs.lemmas.Bool.{false≢true, eqb-true, eq-eqb}
use Rattle.c_syntax.specs.declared.tree.GlobalVar.{GlobalVar}
use Rattle.c_syntax.specs.declared.tree.Ty.TheVariants.{Int, Void}
use Rattle.c_syntax.specs.declared.tree.Function.{Function}
use Rattle.c_syntax.specs.declared.tree.TopItem.{TopItem}
use Rattle.c_syntax.specs.declared.tree.TopItem.TheVariants as item
use Rattle.c_syntax.specs.Graph.{functions, has_body}
use Rattle.c_meaning.specs.Meaning.{Names}
use Rattle.check_rules.specs.declared.error.CheckKind.TheVariants.{NameTwice, PrototypeDiffers, BadLength}
use Rattle.check_rules.specs.declared.names.Kind.{Kind}
use Rattle.check_rules.specs.declared.names.Kind.TheVariants as kinds
use Rattle.check_rules.specs.declared.names.Known.{Known}
use Rattle.check_rules.specs.declared.names.Binding.{Binding}
use Rattle.check_rules.specs.Fault.{require}
use Rattle.check_rules.specs.Scopes.{Scope, lookup, Walking, binding, enter_file, begun, ended}
use Rattle.check_rules.specs.Walk.{new_name, kind_of_shape, walk_shape, elements, most_elements, walk_initialisers, global_decl, walk_global, walk_globals, same_type, same_types, is_among, param_types, function_decl, declared_again, walk_name, with_body, walk_function, walk_item, walk_items, first_walking, has_body_in}
use Rattle.check_rules.specs.Limits.{resolved_names}
use Rattle.check_law.proofs.Yields.{Yields, yields_ok, yields_err, yields_then, yields_after, required}
use Rattle.lower_checked.specs.Laws.{HasOneEach}
use Rattle.lower_checked.proofs.Among.{Among, among_filter}
use Rattle.lower_checked.proofs.Limits.{passed, numbered}
use Rattle.lower_checked.proofs.Stays.{anything, body_stays, params_stay}

-- ---- names at file scope

abbrev is_known : ℕ → Walking → Bool
is_known n w = is_some (lookup n w.file)

record Onward (w v : Walking) : Type 0 where
  known : (n : ℕ) → is_known n w ≡ true → is_known n v ≡ true
  bodies : v.bodies ≡ w.bodies

onward_none : (w : Walking) → Onward w w
onward_none w = record { known = λ n h. h; bodies = refl }

onward_then : (w v u : Walking) → Onward w v → Onward v u → Onward w u
onward_then w v u a b = record { known = λ n h. b.known n (a.known n h); bodies = b.bodies ∙ a.bodies }

still_known : (b : Binding) (file : Scope) (n : ℕ) → is_some (lookup n file) ≡ true → is_some (lookup n (b ∷ file)) ≡ true
still_known b file n h = by (b.name == n)
  where
    by : (t : Bool) → is_some (if t then Some b.known else lookup n file) ≡ true
    by true = refl
    by false = h

new_known : (n : ℕ) (k : Known) (file : Scope) → is_some (lookup n (record { name = n; known = k } ∷ file)) ≡ true
new_known n k file = let e : (n == n) ≡ true = eq-eqb n n refl in rw e refl

global_onward : (g : GlobalVar) (w : Walking) → Yields (walk_global g w) (λ r. Onward w r.1)
global_onward g w =
    let w1 : Walking = enter_file g.name (kind_of_shape g.is_const g.shape) (global_decl g) w in
    yields_after {m = new_name (not (is_some (lookup g.name w.file))) g.at} (λ new.
    yields_then (anything (walk_shape g.shape w1)) (λ s' u.
    yields_after {m = require (nat_le 1 (elements g.shape g.first) && nat_le (elements g.shape g.first) most_elements) BadLength g.at} (λ long.
    yields_then (anything (walk_initialisers (elements g.shape g.first) g.first w1)) (λ es' v.
    yields_ok (record g { name = length w.decls; shape = s'; first = es' }, w1) (record {
      known = λ n h. still_known (binding g.name (kind_of_shape g.is_const g.shape) w) w.file n h;
      bodies = refl;
    })))))

globals_onward : (gs : List GlobalVar) (w : Walking) → Yields (walk_globals gs w) (λ r. Onward w r.1)
globals_onward [] w = yields_ok ([], w) (onward_none w)
globals_onward (g ∷ gs) w = yields_then (global_onward g w) (λ r1 p. yields_then (globals_onward gs r1.1) (λ r2 q. yields_ok (r1.0 ∷ r2.0, r2.1) (onward_then w r1.1 r2.1 p q)))

-- each body that has come is of a known name
abbrev AllKnown : Walking → Type 0
AllKnown w = (n : ℕ) → is_among n w.bodies ≡ true → is_known n w ≡ true

record NameOk (f : Function) (w v : Walking) : Type 0 where
  onward : Onward w v
  new : has_body f.body ≡ true → is_among f.name w.bodies ≡ false
  known : is_known f.name v ≡ true

again_ok : (f : Function) (bodies : List ℕ) (position : ℕ) (k : Kind) → Yields (declared_again f bodies position k) (λ p. has_body f.body ≡ true → is_among f.name bodies ≡ false)
again_ok f bodies position (kinds.Scalar c) = yields_err _
again_ok f bodies position (kinds.Array c) = yields_err _
again_ok f bodies position (kinds.Function ty params) = yields_after {m = require (not (has_body f.body && is_among f.name bodies)) NameTwice f.at} (λ first. yields_after {m = require (same_type ty f.ty && same_types params (param_types f.params)) PrototypeDiffers f.at} (λ second. yields_ok position (λ h. not_both (has_body f.body) (is_among f.name bodies) (required (not (has_body f.body && is_among f.name bodies)) NameTwice f.at first) h)))
  where
    not_both : (a b : Bool) → not (a && b) ≡ true → a ≡ true → b ≡ false
    not_both true true e h = absurd (false≢true e)
    not_both true false e h = refl
    not_both false b e h = absurd (false≢true h)

false_or : (b : Bool) → (b ≡ true → ⊥) → b ≡ false
false_or true h = absurd (h refl)
false_or false h = refl

name_ok : (hb : ℕ → Bool) (f : Function) (o : Option Known) (w : Walking) → AllKnown w → lookup f.name w.file ≡ o → Yields (walk_name hb f o w) (λ r. NameOk f w r.1)
name_ok hb f None w all is =
    let k : Kind = kinds.Function f.ty (param_types f.params) in
    yields_ok (length w.decls, enter_file f.name k (function_decl hb f) w) (record {
      onward = record { known = λ n h. still_known (binding f.name k w) w.file n h; bodies = refl };
      new = λ h. false_or (is_among f.name w.bodies) (λ m. false≢true (sym (ap is_some is) ∙ all f.name m));
      known = new_known f.name (record { position = length w.decls; kind = k }) w.file;
    })
name_ok hb f (Some d) w all is = yields_then (again_ok f w.bodies d.position d.kind) (λ position h. yields_ok (position, w) (record {
  onward = onward_none w;
  new = h;
  known = ap is_some is;
}))

-- ---- the bodies of a walk

abbrev more : Function → List ℕ → List ℕ
more f bodies = if has_body f.body then bodies ++ f.name ∷ [] else bodies

-- no function has the name of a body that came before
abbrev Fresh : List ℕ → List Function → Type 0
Fresh bodies [] = Unit {0}
Fresh bodies (f ∷ fs) = (has_body f.body ≡ true → is_among f.name bodies ≡ false) × Fresh (more f bodies) fs

among_more : (n m : ℕ) (ns : List ℕ) → is_among n (ns ++ m ∷ []) ≡ true → (is_among n ns ≡ true) ⊎ (m ≡ n)
among_more n m [] h = by (m == n) refl h
  where
    by : (t : Bool) → (m == n) ≡ t → (t || false) ≡ true → (false ≡ true) ⊎ (m ≡ n)
    by true e k = inr (eqb-true m n e)
    by false e k = absurd (false≢true k)
among_more n m (x ∷ xs) h = by (λ k. among_more n m xs k) (x == n) h
  where
    by : (is_among n (xs ++ m ∷ []) ≡ true → (is_among n xs ≡ true) ⊎ (m ≡ n)) → (t : Bool) → (t || is_among n (xs ++ m ∷ [])) ≡ true → ((t || is_among n xs) ≡ true) ⊎ (m ≡ n)
    by rest true k = inl refl
    by rest false k = rest k

all_more : (f : Function) (w v : Walking) → v.file ≡ w.file → v.bodies ≡ more f w.bodies → is_known f.name w ≡ true → AllKnown w → AllKnown v
all_more f w v file bodies known all n h = ap (λ s. is_some (lookup n s)) file ∙ by (has_body f.body) (sym (ap (is_among n) bodies) ∙ h)
  where
    by : (t : Bool) → is_among n (if t then w.bodies ++ f.name ∷ [] else w.bodies) ≡ true → is_known n w ≡ true
    by true k = elim (among_more n f.name w.bodies k) [ inl m ↦ all n m | inr e ↦ ap (λ x. is_known x w) (sym e) ∙ known ]
    by false k = all n k

record FunctionOk (f : Function) (w v : Walking) : Type 0 where
  new : has_body f.body ≡ true → is_among f.name w.bodies ≡ false
  bodies : v.bodies ≡ more f w.bodies
  all : AllKnown v

with_body_file : (f : Function) (w : Walking) → (with_body f w).file ≡ w.file
with_body_file f w = by (has_body f.body) refl
  where
    by : (t : Bool) → has_body f.body ≡ t → (with_body f w).file ≡ w.file
    by true t = rw t refl
    by false t = rw t refl

with_body_bodies : (f : Function) (w : Walking) → (with_body f w).bodies ≡ more f w.bodies
with_body_bodies f w = by (has_body f.body) refl
  where
    by : (t : Bool) → has_body f.body ≡ t → (with_body f w).bodies ≡ more f w.bodies
    by true t = rw t refl
    by false t = rw t refl

along : (w v : Walking) → Onward w v → AllKnown w → AllKnown v
along w v o all n h = o.known n (all n (sym (ap (is_among n) o.bodies) ∙ h))

function_ok : (hb : ℕ → Bool) (f : Function) (w : Walking) → AllKnown w → Yields (walk_function hb f w) (λ r. FunctionOk f w r.1)
function_ok hb f w all =
    yields_then (name_ok hb f (lookup f.name w.file) w all refl) (λ r1 n.
    yields_then (params_stay f.params (begun r1.1)) (λ r2 p.
    yields_then (body_stays f.ty f.body r2.1) (λ r3 b.
    let v : Walking = with_body f (ended r3.1) in
    let file : v.file ≡ r1.1.file = with_body_file f (ended r3.1) ∙ b.file ∙ p.file in
    let same : r3.1.bodies ≡ r1.1.bodies = b.bodies ∙ p.bodies in
    let bodies : v.bodies ≡ more f r1.1.bodies = with_body_bodies f (ended r3.1) ∙ ap (more f) same in
    yields_ok (record f { name = r1.0; params = r2.0; body = r3.0 }, v) (record {
      new = n.new;
      bodies = bodies ∙ ap (more f) n.onward.bodies;
      all = all_more f r1.1 v file bodies n.known (along w r1.1 n.onward all);
    }))))

items_ok : (hb : ℕ → Bool) (is : List TopItem) (w : Walking) → AllKnown w → Yields (walk_items hb is w) (λ r. Fresh w.bodies (functions is))
items_ok hb [] w all = yields_ok ([], w) tt
items_ok hb (item.Globals gs ∷ is) w all =
    yields_then {m = walk_item hb (item.Globals gs) w} {P = λ r. Onward w r.1} (yields_then (globals_onward gs w) (λ r p. yields_ok (item.Globals r.0, r.1) p)) (λ r1 p.
    yields_then (items_ok hb is r1.1 (along w r1.1 p all)) (λ r2 q. yields_ok (r1.0 ∷ r2.0, r2.1) (subst (λ bs. Fresh bs (functions is)) p.bodies q)))
items_ok hb (item.Function f ∷ is) w all =
    yields_then {m = walk_item hb (item.Function f) w} {P = λ r. FunctionOk f w r.1} (yields_then (function_ok hb f w all) (λ r p. yields_ok (item.Function r.0, r.1) p)) (λ r1 p.
    yields_then (items_ok hb is r1.1 p.all) (λ r2 q. yields_ok (r1.0 ∷ r2.0, r2.1) (p.new, subst (λ bs. Fresh bs (functions is)) p.bodies q)))

first_known : (names : Names) → AllKnown (first_walking names)
first_known names n h = by (record { position = 1; kind = kinds.Function Void (Int ∷ []) }) (record { position = 0; kind = kinds.Function Int [] }) (names.in_word == n) (names.out_word == n) h
  where
    by : (d e : Known) (a b : Bool) → (a || (b || false)) ≡ true → is_some (let o : Option Known = if b then Some d else (if a then Some e else None) in o) ≡ true
    by d e a true h = refl
    by d e true false h = refl
    by d e false false h = h

-- ---- what this says of the names

abbrev test_of : ℕ → Function → Bool
test_of name f = f.name == name && has_body f.body

before : (f g : Function) (bodies : List ℕ) → is_among f.name (more g bodies) ≡ false → is_among f.name bodies ≡ false
before f g bodies h = by (has_body g.body) h
  where
    left : (n m : ℕ) (ns : List ℕ) → is_among n (ns ++ m ∷ []) ≡ false → is_among n ns ≡ false
    left n m [] h = refl
    left n m (x ∷ xs) h = go (λ k. left n m xs k) (x == n) h
      where
        go : (is_among n (xs ++ m ∷ []) ≡ false → is_among n xs ≡ false) → (t : Bool) → (t || is_among n (xs ++ m ∷ [])) ≡ false → (t || is_among n xs) ≡ false
        go rest true k = k
        go rest false k = rest k

    by : (t : Bool) → is_among f.name (if t then bodies ++ g.name ∷ [] else bodies) ≡ false → is_among f.name bodies ≡ false
    by true k = left f.name g.name bodies k
    by false k = k

not_before : (bodies : List ℕ) (fs : List Function) (f : Function) → Fresh bodies fs → Among f fs → has_body f.body ≡ true → is_among f.name bodies ≡ false
not_before bodies [] f h m b = absurd m
not_before bodies (g ∷ gs) f h (inl e) b = subst (λ (x : Function). is_among x.name bodies ≡ false) e (h.0 (ap (λ (x : Function). has_body x.body) e ∙ b))
not_before bodies (g ∷ gs) f h (inr m) b = before f g bodies (not_before (more g bodies) gs f h.1 m b)

last_among : (n m : ℕ) (ns : List ℕ) → (m == n) ≡ true → is_among n (ns ++ m ∷ []) ≡ true
last_among n m [] h = rw h refl
last_among n m (x ∷ xs) h = by (last_among n m xs h) (x == n)
  where
    by : is_among n (xs ++ m ∷ []) ≡ true → (t : Bool) → (t || is_among n (xs ++ m ∷ [])) ≡ true
    by rest true = refl
    by rest false = rest

other_name : (f g : Function) (bodies : List ℕ) → is_among f.name (more g bodies) ≡ false → test_of f.name g ≡ false
other_name f g bodies h = by (has_body g.body) (g.name == f.name) refl h
  where
    by : (t e : Bool) → (g.name == f.name) ≡ e → is_among f.name (if t then bodies ++ g.name ∷ [] else bodies) ≡ false → (e && t) ≡ false
    by true true s k = absurd (false≢true (sym k ∙ last_among f.name g.name bodies s))
    by true false s k = refl
    by false true s k = refl
    by false false s k = refl

pub first_of_name : (bodies : List ℕ) (fs : List Function) (f : Function) → Fresh bodies fs → Among f fs → has_body f.body ≡ true → find (test_of f.name) fs ≡ Some f
first_of_name bodies [] f h m b = absurd m
first_of_name bodies (g ∷ gs) f h (inl e) b = ap (λ t. cond t (Some g) (find (test_of f.name) gs)) here ∙ ap Some e
  where
    here : test_of f.name g ≡ true
    here =
        let n : (g.name == f.name) ≡ true = eq-eqb g.name f.name (ap (λ (x : Function). x.name) e) in
        let c : has_body g.body ≡ true = ap (λ (x : Function). has_body x.body) e ∙ b in
        rw (n, c) refl
first_of_name bodies (g ∷ gs) f h (inr m) b =
    ap (λ t. cond t (Some g) (find (test_of f.name) gs)) (other_name f g bodies (not_before (more g bodies) gs f h.1 m b))
    ∙ first_of_name (more g bodies) gs f h.1 m b

pub has_one_each : HasOneEach
has_one_each c h number f at =
    let p = passed c h in
    let fresh = (items_ok (has_body_in c.program.items) c.program.items (first_walking (resolved_names c)) (first_known (resolved_names c))).if_ok p.walked p.walk in
    let a = among_filter (λ f. has_body f.body) f (functions c.program.items) (numbered c.main number c.program.items f at) in
    first_of_name (first_walking (resolved_names c)).bodies (functions c.program.items) f fresh a.0 a.1
