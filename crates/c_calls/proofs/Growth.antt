-- Lists of names under names while they are filled.
use Rattle.std.proofs.Common.{◌≡◌, ℕ, zero, suc, ◌+◌, ◌<◌, ◌≤◌, Bool, true, false, ◌&&◌, ◌==◌, List, [], ◌∷◌, ◌++◌, length, get_or, take, set, Some, None, refl, sym, ap, ◌∙◌, subst, arith}
use Rattle.std.specs.List.{All, flat_map, slice_get}
use Rattle.std.proofs.lemmas.Bool.{eq-eqb, eqb-true}
use Rattle.std.proofs.lemmas.List.{length_push, length-set, get_or-set_same, get_or-set_other}
use Rattle.std.proofs.lemmas.List.Elements.{All-push, All-set, All-nil, All-weaker, All-more}
use Rattle.c_syntax.specs.declared.tree.GlobalVar.{GlobalVar}
use Rattle.c_syntax.specs.declared.tree.Function.{Function}
use Rattle.c_syntax.specs.declared.tree.TopItem.{TopItem}
use Rattle.c_syntax.specs.declared.tree.TopItem.TheVariants as item
use Rattle.c_syntax.specs.declared.tree.Stmt.{Stmt}
use Rattle.c_syntax.specs.Graph.{has_body, body_calls, statement_calls, callees}
use Rattle.c_calls.specs.Reached.{IsGraph}
use Rattle.c_calls.specs.Lists.{Grown, Put}

-- ---- growth

pub grown_none : (lists : List (List ℕ)) → Grown lists lists
grown_none lists = record { longer = omega arith; same = λ name. refl; closed = λ h. h }

pub grown_more : (a b c : List (List ℕ)) → Grown a b → Grown b c → Grown a c
grown_more a b c g h = record { longer = omega (arith, g.longer, h.longer); same = λ name. h.same name ∙ g.same name; closed = λ k. h.closed (g.closed k) }

below_longer : (m n : ℕ) (lists : List (List ℕ)) → m ≤ n → All (All (λ name. name < m)) lists → All (All (λ name. name < n)) lists
below_longer m n lists le h = All-weaker (All (λ name. name < m)) (All (λ name. name < n)) (λ l k. All-weaker (λ name. name < m) (λ name. name < n) (λ x lt. omega (arith, le, lt)) l k) lists h

under_push : (lists : List (List ℕ)) (name : ℕ) → get_or (lists ++ [] ∷ []) name [] ≡ get_or lists name []
under_push [] zero = refl
under_push [] (suc name) = refl
under_push (l ∷ lists) zero = refl
under_push (l ∷ lists) (suc name) = under_push lists name

pub grown_one : (lists : List (List ℕ)) → Grown lists (lists ++ [] ∷ [])
grown_one lists = record {
  longer = omega (arith, length_push lists []);
  same = under_push lists;
  closed = λ h. All-push (All (λ name. name < length (lists ++ [] ∷ []))) lists [] (below_longer (length lists) (length (lists ++ [] ∷ [])) lists (omega (arith, length_push lists [])) h) (All-nil (λ name. name < length (lists ++ [] ∷ [])));
}

pub put_grown : (name : ℕ) (calls : List ℕ) (old new : List (List ℕ)) → Grown old new → name < length new → All (λ to. to < length new) calls → Put name calls old (set new name calls)
put_grown name calls old new g lt within = record {
  here = get_or-set_same new name calls [] lt;
  others = λ k ne. get_or-set_other new name k calls [] ne ∙ g.same k;
  closed = λ h. let e = length-set new name calls in subst (λ n. All (All (λ to. to < n)) (set new name calls)) (sym e) (All-set (All (λ to. to < length new)) new name calls within (g.closed h));
}

-- ---- the items before others

by_test : {A : Type 0} (a : Bool) → (a ≡ true → A) → (a ≡ false → A) → A
by_test true f g = f refl
by_test false f g = g refl

pub graph_globals : (top : TopItem) (gs : List GlobalVar) (rest : List TopItem) (lists : List (List ℕ)) → top ≡ item.Globals gs → IsGraph rest lists → IsGraph (top ∷ rest) lists
graph_globals top gs rest lists is h = λ name. h name ∙ sym (ap (λ i. callees (i ∷ rest) name) is)

and_false : (a b : Bool) → b ≡ false → (a && b) ≡ false
and_false true b h = h
and_false false b h = refl

callees_skip : (f : Function) (rest : List TopItem) (name : ℕ) → (f.name == name && has_body f.body) ≡ false → callees (item.Function f ∷ rest) name ≡ callees rest name
callees_skip f rest name h = rw h refl

callees_first : (f : Function) (rest : List TopItem) (name : ℕ) → (f.name == name && has_body f.body) ≡ true → callees (item.Function f ∷ rest) name ≡ body_calls f.body
callees_first f rest name h = rw h refl

pub graph_prototype : (top : TopItem) (f : Function) (rest : List TopItem) (lists : List (List ℕ)) → top ≡ item.Function f → f.body ≡ None → IsGraph rest lists → IsGraph (top ∷ rest) lists
graph_prototype top f rest lists is none h = λ name.
    h name ∙ sym (ap (λ i. callees (i ∷ rest) name) is ∙ callees_skip f rest name (and_false (f.name == name) (has_body f.body) (ap has_body none)))

pub graph_function : (top : TopItem) (f : Function) (body : List Stmt) (rest : List TopItem) (old new : List (List ℕ)) → top ≡ item.Function f → f.body ≡ Some body → Put f.name (flat_map statement_calls body) old new → IsGraph rest old → IsGraph (top ∷ rest) new
graph_function top f body rest old new is some p h = λ name.
    by_test (f.name == name)
    (λ t. let e = eqb-true f.name name t in
    subst (λ n. get_or new n [] ≡ callees (top ∷ rest) n) e
    (p.here ∙ sym (ap (λ i. callees (i ∷ rest) f.name) is ∙ callees_first f rest f.name (first f.name (eq-eqb f.name f.name refl)) ∙ ap body_calls some)))
    (λ n. p.others name (λ e. clash (eq-eqb f.name name (sym e)) n) ∙ h name ∙ sym (ap (λ i. callees (i ∷ rest) name) is ∙ callees_skip f rest name (skip name n)))
  where
    clash : {b : Bool} → b ≡ true → b ≡ false → ⊥
    clash t n = cc

    first : (name : ℕ) → (f.name == name) ≡ true → (f.name == name && has_body f.body) ≡ true
    first name t = rw (t, some) refl

    skip : (name : ℕ) → (f.name == name) ≡ false → (f.name == name && has_body f.body) ≡ false
    skip name n = rw n refl

-- ---- the list under a name

pub under_none : (lists : List (List ℕ)) (name : ℕ) → None ≡ slice_get lists name → [] ≡ get_or lists name []
under_none [] name e = refl
under_none (l ∷ lists) zero e = absurd cc
under_none (l ∷ lists) (suc name) e = under_none lists name e

pub under_some : (l : List ℕ) (lists : List (List ℕ)) (name : ℕ) → Some l ≡ slice_get lists name → l ≡ get_or lists name []
under_some l [] name e = absurd cc
under_some l (k ∷ lists) zero e = cc
under_some l (k ∷ lists) (suc name) e = under_some l lists name e

-- ---- one more of a list of names

pub within_more : (m n : ℕ) (names : List ℕ) (i name : ℕ) → i < length names → name ≡ get_or names i 0 → name < n → m ≤ n → All (λ x. x < m) (take i names) → All (λ x. x < n) (take (i + 1) names)
within_more m n names i name lt is below le h =
    All-more (λ x. x < n) names i 0 lt (All-weaker (λ x. x < m) (λ x. x < n) (λ x b. omega (arith, b, le)) (take i names) h) (omega (arith, is, below))
