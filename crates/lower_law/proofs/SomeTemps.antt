-- A function that has a call has a variable for it.
use Rattle.std.proofs.Common.{◌≡◌, ℕ, zero, suc, ◌≤◌, max, Bool, true, false, List, [], ◌∷◌, ◌++◌, map, length, Option, Some, None, refl, sym, ap, subst, arith, flat_map}
use Rattle.std.specs.List.{list_any}
use Rattle.std.proofs.lemmas.List.{length-append}
use Rattle.std.proofs.lemmas.Bool.{false≢true}
use Rattle.c_syntax.specs.declared.tree.BinaryOp.{BinaryOp}
use Rattle.c_syntax.specs.declared.tree.Expr.{Expr, roll-Expr, map-Expr, ind-Expr, fold-roll-Expr}
use Rattle.c_syntax.specs.declared.tree.Expr.TheOpen.{Expr-F}
use Rattle.c_syntax.specs.declared.tree.Local.{Local}
use Rattle.c_syntax.specs.declared.tree.Label.{Label}
use Rattle.c_syntax.specs.declared.tree.Label.TheVariants as label
use Rattle.c_syntax.specs.declared.tree.Stmt.{Stmt, roll-Stmt, map-Stmt, ind-Stmt, fold-roll-Stmt}
use Rattle.c_syntax.specs.declared.tree.Clause.{Clause, roll-Clause, map-Clause, fold-roll-Clause}
use Rattle.c_syntax.specs.declared.tree.Stmt.TheOpen.{Stmt-F, Clause-F}
use Rattle.c_syntax.specs.declared.tree.Function.{Function}
use Rattle.c_syntax.specs.declared.tree.TopItem.{TopItem}
use Rattle.c_syntax.specs.Sizes.{greatest, or_zero}
use Rattle.c_syntax.specs.Costs.{Need, need_step, need, temps, assign_temps, bump_temps, local_temps, label_temps, statement_temps_step, clause_temps_step, statement_temps, clause_temps}
use Rattle.c_syntax.specs.Graph.{functions, body_of, function_named, or_none, expression_calls, local_calls, label_calls, statement_calls_step, clause_calls_step, statement_calls, clause_calls, body_calls, calls_of, callees, leads, is_recursive}

-- ---- each expression needs a variable

abbrev Part : Type 0
Part = (e : Expr) × (1 ≤ temps e)

bare : Expr-F Part → Expr-F Expr
bare y = map-Expr Part Expr (λ e. e.0) y

assigned : (op : Option BinaryOp) (place : Need) (right : ℕ) → 1 ≤ right → 1 ≤ assign_temps op place right
assigned op place right h = by op place.is_index
  where
    by : (o : Option BinaryOp) (b : Bool) → 1 ≤ assign_temps o (record { temps = place.temps; is_index = b }) right
    by None true = omega (arith, h)
    by None false = omega (arith, h)
    by (Some x) true = omega (arith, h)
    by (Some x) false = omega (arith, h)

bumped : (place : Need) → 1 ≤ bump_temps place
bumped place = by place.is_index
  where
    by : (b : Bool) → 1 ≤ bump_temps (record { temps = place.temps; is_index = b })
    by true = omega arith
    by false = omega arith

each_some : (y : Expr-F Part) → 1 ≤ (need_step (map-Expr Expr Need need (bare y))).temps
unfolding bare
each_some (Expr-F.Literal word u at) = omega arith
each_some (Expr-F.Name name at) = omega arith
each_some (Expr-F.Index name i at) = i.1
each_some (Expr-F.Call name args at) = omega arith
each_some (Expr-F.Unary op x at) = omega arith
each_some (Expr-F.Binary op x y at) = omega arith
each_some (Expr-F.Logic is_and x y at) = omega (arith, x.1)
each_some (Expr-F.Choose t x y at) = omega (arith, t.1)
each_some (Expr-F.Assign op x y at) = assigned op (need x.0) (temps y.0) y.1
each_some (Expr-F.Bump up before x at) = bumped (need x.0)
each_some (Expr-F.Comma x y at) = omega (arith, x.1)
each_some (Expr-F.Paren x at) = x.1

pub some_temps : (e : Expr) → 1 ≤ temps e
unfolding bare
some_temps = ind-Expr (λ e. 1 ≤ temps e) (λ x y is. subst (λ z. 1 ≤ temps (roll-Expr z)) is (subst (λ (n : Need). 1 ≤ n.temps) (sym (fold-roll-Expr Need need_step (bare y))) (each_some y)))

-- ---- a statement that needs none has no call

pub record Idle (calls : List ℕ) (count : ℕ) : Type 0 where
  pub none : count ≡ 0 → length calls ≡ 0

abbrev SPart : Type 0
SPart = (c : Stmt) × Idle (statement_calls c) (statement_temps c)

abbrev CPart : Type 0
CPart = (c : Clause) × Idle (clause_calls c) (clause_temps c)

if_idle : (e : Option Expr) → Idle (or_none expression_calls e) (or_zero temps e)
if_idle None = record { none = λ h. refl }
if_idle (Some e) = record { none = λ h. absurd (omega (arith, h, some_temps e)) }

locals_idle : (ds : List Local) → Idle (flat_map local_calls ds) (greatest (map local_temps ds))
locals_idle [] = record { none = λ h. refl }
locals_idle (d ∷ ds) = record { none = λ h. let a : length (local_calls d) ≡ 0 = (if_idle d.first).none (omega (arith, h)) in let b : length (flat_map local_calls ds) ≡ 0 = (locals_idle ds).none (omega (arith, h)) in let s = length-append (local_calls d) (flat_map local_calls ds) in omega (arith, a, b, s) }

labels_idle : (ls : List Label) → Idle (flat_map label_calls ls) (greatest (map label_temps ls))
labels_idle [] = record { none = λ h. refl }
labels_idle (l ∷ ls) = by l (labels_idle ls)
  where
    by : (k : Label) → Idle (flat_map label_calls ls) (greatest (map label_temps ls)) → Idle (flat_map label_calls (k ∷ ls)) (greatest (map label_temps (k ∷ ls)))
    by (label.Case e at) ih = record { none = λ h. absurd (omega (arith, h, some_temps e)) }
    by (label.Otherwise at) ih = record { none = λ h. ih.none (omega (arith, h)) }

list_idle : (cs : List SPart) → Idle (flat_map (λ calls. calls) (map statement_calls (map (λ c. c.0) cs))) (greatest (map statement_temps (map (λ c. c.0) cs)))
list_idle [] = record { none = λ h. refl }
list_idle (c ∷ cs) = record {
  none = λ h.
      let rest : List ℕ = flat_map (λ calls. calls) (map statement_calls (map (λ x. x.0) cs)) in
      let a : length (statement_calls c.0) ≡ 0 = c.1.none (omega (arith, h)) in let b : length rest ≡ 0 = (list_idle cs).none (omega (arith, h)) in let s = length-append (statement_calls c.0) rest in omega (arith, a, b, s);
}

sbare : Stmt-F SPart CPart → Stmt-F Stmt Clause
sbare y = map-Stmt SPart CPart Stmt Clause (λ c. c.0) (λ c. c.0) y

cbare : Clause-F SPart CPart → Clause-F Stmt Clause
cbare y = map-Clause SPart CPart Stmt Clause (λ c. c.0) (λ c. c.0) y

clause_idle : (y : Clause-F SPart CPart) → Idle (clause_calls_step (map-Clause Stmt Clause (List ℕ) (List ℕ) statement_calls clause_calls (cbare y))) (clause_temps_step (map-Clause Stmt Clause ℕ ℕ statement_temps clause_temps (cbare y)))
unfolding cbare
clause_idle y = record {
  none = λ h.
      let body : List ℕ = flat_map (λ calls. calls) (map statement_calls (map (λ x. x.0) y.body)) in
      let a : length (flat_map label_calls y.labels) ≡ 0 = (labels_idle y.labels).none (omega (arith, h)) in let b : length body ≡ 0 = (list_idle y.body).none (omega (arith, h)) in let s = length-append (flat_map label_calls y.labels) body in omega (arith, a, b, s);
}

for_idle : (a t n c : List ℕ) (ma mt mn mc : ℕ) → Idle a ma → Idle t mt → Idle n mn → Idle c mc → Idle (a ++ t ++ n ++ c) (max ma (max mt (max mn mc)))
for_idle a t n c ma mt mn mc p q r s = record {
  none = λ h.
      let a1 = p.none (omega (arith, h)) in let a2 = q.none (omega (arith, h)) in let a3 = r.none (omega (arith, h)) in let a4 = s.none (omega (arith, h)) in
      let s1 = length-append (a ++ t ++ n) c in let s2 = length-append (a ++ t) n in let s3 = length-append a t in
      omega (arith, a1, a2, a3, a4, s1, s2, s3);
}

each_idle : (y : Stmt-F SPart CPart) → Idle (statement_calls_step (map-Stmt Stmt Clause (List ℕ) (List ℕ) statement_calls clause_calls (sbare y))) (statement_temps_step (map-Stmt Stmt Clause ℕ ℕ statement_temps clause_temps (sbare y)))
unfolding sbare
each_idle Stmt-F.Empty = record { none = λ h. refl }
each_idle (Stmt-F.Value e) = record { none = λ h. absurd (omega (arith, h, some_temps e)) }
each_idle (Stmt-F.Declare ds) = locals_idle ds
each_idle (Stmt-F.Block cs) = list_idle cs
each_idle (Stmt-F.If e a b) = record { none = λ h. absurd (omega (arith, h, some_temps e)) }
each_idle (Stmt-F.While e a) = record { none = λ h. absurd (omega (arith, h, some_temps e)) }
each_idle (Stmt-F.Do a e) = record { none = λ h. absurd (omega (arith, h, some_temps e)) }
each_idle (Stmt-F.For a test next c) = for_idle (statement_calls a.0) (or_none expression_calls test) (or_none expression_calls next) (statement_calls c.0) (statement_temps a.0) (or_zero temps test) (or_zero temps next) (statement_temps c.0) a.1 (if_idle test) (if_idle next) c.1
each_idle (Stmt-F.Switch e cs) = record { none = λ h. absurd (omega (arith, h, some_temps e)) }
each_idle (Stmt-F.Break at) = record { none = λ h. refl }
each_idle (Stmt-F.Continue at) = record { none = λ h. refl }
each_idle (Stmt-F.Return e at) = if_idle e

idle : (c : Stmt) → Idle (statement_calls c) (statement_temps c)
unfolding sbare cbare
idle = ind-Stmt (λ c. Idle (statement_calls c) (statement_temps c)) (λ c. Idle (clause_calls c) (clause_temps c))
    (λ x y is. subst (λ z. Idle (statement_calls (roll-Stmt z)) (statement_temps (roll-Stmt z))) is
    (rw (fold-roll-Stmt (List ℕ) (List ℕ) statement_calls_step clause_calls_step (sbare y), fold-roll-Stmt ℕ ℕ statement_temps_step clause_temps_step (sbare y)) (each_idle y)))
    (λ x y is. subst (λ z. Idle (clause_calls (roll-Clause z)) (clause_temps (roll-Clause z))) is
    (rw (fold-roll-Clause (List ℕ) (List ℕ) statement_calls_step clause_calls_step (cbare y), fold-roll-Clause ℕ ℕ statement_temps_step clause_temps_step (cbare y)) (clause_idle y)))

body_idle : (cs : List Stmt) → Idle (flat_map statement_calls cs) (greatest (map statement_temps cs))
body_idle [] = record { none = λ h. refl }
body_idle (c ∷ cs) = record {
  none = λ h.
      let a : length (statement_calls c) ≡ 0 = (idle c).none (omega (arith, h)) in let b : length (flat_map statement_calls cs) ≡ 0 = (body_idle cs).none (omega (arith, h)) in let s = length-append (statement_calls c) (flat_map statement_calls cs) in omega (arith, a, b, s);
}

-- ---- a recursive function has a call

has_first : (test : ℕ → Bool) (xs : List ℕ) → list_any test xs ≡ true → 1 ≤ length xs
has_first test [] h = absurd (false≢true h)
has_first test (x ∷ xs) h = omega arith

calls_on : (items : List TopItem) (n from to : ℕ) → leads items n from to ≡ true → 1 ≤ length (callees items from)
calls_on items zero from to h = absurd (false≢true h)
calls_on items (suc n) from to h = has_first _ (callees items from) h

pub recursive_temps : (items : List TopItem) (name : ℕ) (f : Function) → function_named name items ≡ Some f → is_recursive items name ≡ true → 1 ≤ greatest (map statement_temps (body_of f.body))
recursive_temps items name f is h =
    let some : 1 ≤ length (callees items name) = calls_on items (length (functions items)) name name h in
    let same : length (callees items name) ≡ length (body_calls f.body) = ap (λ o. length (calls_of o)) is in
    by (greatest (map statement_temps (body_of f.body))) refl (omega (arith, some, same))
  where
    by : (m : ℕ) → greatest (map statement_temps (body_of f.body)) ≡ m → 1 ≤ length (body_calls f.body) → 1 ≤ m
    by zero e c = let z : length (flat_map statement_calls (body_of f.body)) ≡ 0 = (body_idle (body_of f.body)).none e in omega (arith, z, c)
    by (suc m) e c = omega arith
