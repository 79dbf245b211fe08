-- Runs of a runner and of a program beside each other.
use Rattle.std.proofs.Common.{◌≡◌, ◌≤◌, ℕ, zero, suc, ◌+◌, ◌-◌, arith, ap, refl, sym, ◌∙◌, subst, List, [], add-zero, add-suc, add-one}
use Rattle.std.specs.Prelude.{Option, Some, None, Bool, true, is_some}
use Rattle.hard_runs.specs.Stepping.{Went, put, after, go, watch}
use Rattle.hard_runs.specs.Observed.{Seen}
use Rattle.mips_isa.specs.declared.instr.End.{End}
use Rattle.hard_items.specs.declared.code.HardProgram.{HardProgram}
use Rattle.hard_items.specs.Run.{Spot, items, first_spot, step_from}
use Rattle.test_oracle.specs.declared.item_runner.Runner.{Runner}
use Rattle.test_oracle.specs.Standing.{Stands, Stepped, Came}

-- At the start nothing was put out.
pub came_first : (p : HardProgram) (input : List ℕ) (r : Runner) → Stands p r (first_spot p input) → Came p input 0 [] r
came_first p input r st = record { stands = st; puts = refl }

-- One more step.
pub came_on : (p : HardProgram) (input : List ℕ) (n : ℕ) (out : List ℕ) (r next : Runner) (w : Option ℕ) → Came p input n out r →
    ((s : Spot) → Stands p r s → Stepped p next w ((items p).step s)) → Came p input (n + 1) (put out w) next
came_on p input n out r next w came steps =
    let g : Went Spot = go (items p) (first_spot p input) n in
    let t : Stepped p next w ((items p).step g.state) = steps g.state came.stands in
    let done : Came p input (suc n) (put out w) next = record {
      stands = t.stands;
      puts = ap (λ (l : List ℕ). put l w) came.puts ∙ ap (λ (o : Option ℕ). put g.output o) (sym t.puts);
    } in
    rw (add-one n) done

stays : (p : HardProgram) (input : List ℕ) (n k : ℕ) (out : List ℕ) (r : Runner) (e : End) → r.machine.end ≡ Some e → Came p input n out r → Came p input (n + k) out r
stays p input n zero out r e h came = rw (add-zero n) came
stays p input n (suc k) out r e h came =
    let c : Came p input (n + k) out r = stays p input n k out r e h came in
    let g : Went Spot = go (items p) (first_spot p input) (n + k) in
    let is : after g (step_from p g.state g.state.end) ≡ g = ap (λ (x : Option End). after g (step_from p g.state x)) (c.stands.ended ∙ h) in
    rw (add-suc n k) (record {
      stands = subst (λ (x : Went Spot). Stands p r x.state) (sym is) c.stands;
      puts = c.puts ∙ sym (ap (λ (x : Went Spot). x.output) is);
    })

-- A run that has ended is the whole run.
came_early : (p : HardProgram) (input : List ℕ) (n steps : ℕ) (out : List ℕ) (r : Runner) (e : End) → r.machine.end ≡ Some e → n ≤ steps → Came p input n out r → Came p input steps out r
came_early p input n steps out r e h le came =
    let all : n + (steps - n) ≡ steps = omega arith in
    subst (λ (k : ℕ). Came p input k out r) all (stays p input n (steps - n) out r e h came)

some_end : (o : Option End) (b : Bool) → b ≡ is_some o → b ≡ true → (e : End) × (o ≡ Some e)
some_end None b p q = cc
some_end (Some e) b p q = (e, refl)

-- The same, where a test found the end.
pub came_ended : (p : HardProgram) (input : List ℕ) (n steps : ℕ) (out : List ℕ) (r : Runner) (b : Bool) → b ≡ is_some r.machine.end → b ≡ true → n ≤ steps → Came p input n out r → Came p input steps out r
came_ended p input n steps out r b is holds le came =
    let found : (e : End) × (r.machine.end ≡ Some e) = some_end r.machine.end b is holds in
    came_early p input n steps out r found.0 found.1 le came

-- What is seen of the run.
pub came_seen : (p : HardProgram) (input : List ℕ) (n : ℕ) (out : List ℕ) (r : Runner) (end : Option End) → end ≡ r.machine.end → Came p input n out r → record { output = out; end = end } ≡ watch (items p) (first_spot p input) n
came_seen p input n out r end is came =
    ap (λ (l : List ℕ). let s : Seen End = record { output = l; end = end } in s) came.puts
    ∙ ap (λ (e : Option End). let s : Seen End = record { output = (go (items p) (first_spot p input) n).output; end = e } in s) (is ∙ sym came.stands.ended)
