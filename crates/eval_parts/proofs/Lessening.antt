-- What comes next has less work.
use Rattle.std.proofs.Common.{◌≡◌, ℕ, zero, suc, ◌+◌, ◌<◌, ◌≤◌, ◌==◌, ◌&&◌, Bool, true, false, List, [], ◌∷◌, Some, None, cond, sym, ap, subst, arith}
use Rattle.std.specs.List.{find}
use Rattle.c_meaning.specs.declared.run.Flow.{Flow}
use Rattle.c_meaning.specs.declared.run.Flow.TheVariants.{Normal, Breaks, Continues, Returns}
use Rattle.c_syntax.specs.declared.tree.Function.{Function}
use Rattle.c_syntax.specs.declared.tree.TopItem.{TopItem}
use Rattle.c_syntax.specs.Graph.{functions, function_named, has_body}
use Rattle.eval_parts.specs.declared.part.Now.{Now}
use Rattle.eval_parts.specs.declared.part.Next.{Next}
use Rattle.eval_parts.specs.Parts.{if_normal_now}
use Rattle.eval_parts.specs.Work.{next_work, now_work, turns_work, in_order_work, clauses_work, ClauseWork, function_work, bodies_work}

-- ---- loops

pub turns_more : (round less more : ℕ) → less ≤ more → turns_work round less ≤ turns_work round more
turns_more round zero zero h = omega arith
turns_more round zero (suc more) h = let ih : turns_work round zero ≤ turns_work round more = turns_more round zero more (omega arith) in omega arith
turns_more round (suc less) zero h = absurd (omega arith)
turns_more round (suc less) (suc more) h = let ih : turns_work round less ≤ turns_work round more = turns_more round less more (omega arith) in omega arith

-- ---- statements in order

pub some_work : (ns : List ℕ) → 1 ≤ in_order_work ns
some_work [] = omega arith
some_work (n ∷ ns) = omega arith

pub some_clauses_work : (cs : List ClauseWork) → 1 ≤ clauses_work cs
some_clauses_work [] = omega arith
some_clauses_work (c ∷ cs) = omega arith

pub falls_then : (flow : Flow) (n : Now) (next : Next) → next ≡ record { now = if_normal_now flow n; waiting = None } → (most call : ℕ) (items : List TopItem) → 1 ≤ now_work most call items n → next_work most call items next < 1 + now_work most call items n
falls_then flow n next is most call items some = subst (λ (x : Next). next_work most call items x < 1 + now_work most call items n) (sym is) (here flow)
  where
    here : (flow : Flow) → next_work most call items (record { now = if_normal_now flow n; waiting = None }) < 1 + now_work most call items n
    here Normal = omega arith
    here Breaks = omega arith
    here Continues = omega arith
    here (Returns v) = omega arith

-- ---- calls

some_bodies : (most call : ℕ) (fs : List Function) → 4 ≤ bodies_work most call fs
some_bodies most call [] = omega arith
some_bodies most call (f ∷ fs) = let ih : 4 ≤ bodies_work most call fs = some_bodies most call fs in omega arith

of_found : (most call name : ℕ) (fs : List Function) (f : Function) → find (λ (g : Function). g.name == name && has_body g.body) fs ≡ Some f → function_work most call f + 4 ≤ bodies_work most call fs
of_found most call name [] f e = absurd (cc e)
of_found most call name (g ∷ fs) f e = here (g.name == name && has_body g.body) (λ x. of_found most call name fs f x) e
  where
    here : (b : Bool) → (find (λ (g : Function). g.name == name && has_body g.body) fs ≡ Some f → function_work most call f + 4 ≤ bodies_work most call fs) → cond b (Some g) (find (λ (g : Function). g.name == name && has_body g.body) fs) ≡ Some f → function_work most call f + 4 ≤ function_work most call g + bodies_work most call fs
    here true ih e =
        let same : g ≡ f = cc e in
        let w : function_work most call g ≡ function_work most call f = ap (function_work most call) same in
        let some : 4 ≤ bodies_work most call fs = some_bodies most call fs in
        omega arith
    here false ih e = let h : function_work most call f + 4 ≤ bodies_work most call fs = ih e in omega arith

pub body_of_all : (most call name : ℕ) (items : List TopItem) (f : Function) → function_named name items ≡ Some f → function_work most call f + 4 ≤ bodies_work most call (functions items)
body_of_all most call name items f e = of_found most call name (functions items) f e

pub some_bodies_of : (most call : ℕ) (items : List TopItem) → 4 ≤ bodies_work most call (functions items)
some_bodies_of most call items = some_bodies most call (functions items)
