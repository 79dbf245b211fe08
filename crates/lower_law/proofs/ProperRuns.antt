-- In each state of a run of a lowered program what comes next is proper.
use Rattle.std.proofs.Common.{◌≡◌, ℕ, zero, suc, ◌+◌, ◌-◌, ◌<◌, ◌≤◌, List, ◌++◌, Option, Some, None, refl, sym, ap, ◌∙◌, subst, ⊎_elim, arith}
use Rattle.std.specs.Prelude.{slice_get}
use Rattle.std.proofs.lemmas.Bool.{cases_lt}
use Rattle.c_syntax.specs.declared.tree.Program.{Program}
use Rattle.c_meaning.specs.Meaning.{Names, run_of}
use Rattle.mid_blocks.specs.declared.code.Mid.{Mid}
use Rattle.mid_blocks.specs.declared.code.RunEnd.{RunEnd}
use Rattle.mid_blocks.specs.Lines.{Line, line_at}
use Rattle.mid_blocks.specs.Run.{BlockState, Variables, next_line, block_step, after, first_state, block_state, line_in_function}
use Rattle.mid_blocks.specs.Bounds.{ProperLine}
use Rattle.lower_law.proofs.Lines.{Spot}
use Rattle.lower_law.proofs.Machine.{Frame, Setting, machine, at_spot, Goes, goes_after, globals_words}
use Rattle.lower_law.proofs.Globals.{AreSmall}
use Rattle.lower_law.proofs.Calls.{Plan}
use Rattle.lower_law.proofs.Steps.{after_stays, after_add}
use Rattle.lower_law.proofs.Whole.{Start, Shown, shown}
use Rattle.c_meaning.specs.Run.{State}
use Rattle.lower_rules.specs.Seen.{end_of}

-- the line that comes next is proper
abbrev pub IsProper : Mid → BlockState → Type 0
IsProper mid b = (line : Line) → next_line mid b ≡ Some line → ProperLine line b.current.variables b.globals

abbrev pub proper_setting : Mid → (ℕ → List (List ℕ)) → Setting
proper_setting mid extra = record { mid = mid; Good = IsProper mid; extra = extra }

goes_good : (k : Setting) (n i : ℕ) (b b' : BlockState) → Goes k n b b' → i < n → k.Good (after k.mid i b)
goes_good k zero i b b' g lt = absurd (omega (arith, lt))
goes_good k (suc n) zero b b' g lt = g.0
goes_good k (suc n) (suc i) b b' g lt = goes_good k n i (block_step k.mid b) b' g.1 (omega (arith, lt))

-- every state that hasn't ended is good
pub all_good : (k : Setting) (program : Program) (names : Names) (p : Plan k program.items names) → Start k program.items names p → (input : List ℕ) → AreSmall input → (n : ℕ) → (block_state k.mid input n).end ≡ None → k.Good (block_state k.mid input n)
all_good k program names p begin input small n running =
    let x = shown k program names p begin input small (suc n) in
    ⊎_elim (λ lt. goes_good k x.steps n (first_state k.mid input) x.last x.goes lt) (λ le. over x (end_of (run_of names program input (suc n)).end) refl le) (cases_lt n x.steps)
  where
    over : (x : Shown k program names p begin input small (suc n) (run_of names program input (suc n))) (o : Option RunEnd) → end_of (run_of names program input (suc n)).end ≡ o → x.steps ≤ n → k.Good (block_state k.mid input n)
    over x None is le = absurd (omega (arith, x.enough is, le))
    over x (Some e) is le =
        let s = first_state k.mid input in
        let j : x.steps + (n - x.steps) ≡ n = omega (arith, le) in
        let last : after k.mid x.steps s ≡ x.last = goes_after k x.steps s x.last x.goes in
        let end : (after k.mid x.steps s).end ≡ Some e = ap (λ b. b.end) last ∙ x.end_is ∙ is in
        let same : after k.mid n s ≡ after k.mid x.steps s = ap (λ i. after k.mid i s) (sym j) ∙ after_add k.mid x.steps (n - x.steps) s ∙ after_stays k.mid (n - x.steps) (after k.mid x.steps s) e end in
        let wrong : None ≡ Some e = sym running ∙ ap (λ b. b.end) same ∙ end in cc

-- a state whose frame is one of the program is good where its line is proper
pub proper_good : (mid : Mid) (extra : ℕ → List (List ℕ)) (fr : Frame) → slice_get mid.functions fr.function ≡ Some fr.code → (at : Spot) (vars : Variables) (s : State) (line : Line) → line_at fr.code at.block at.step ≡ Some line → ProperLine line vars (globals_words s.globals ++ extra s.active) → IsProper mid (machine (record { mid = mid; Good = IsProper mid; extra = extra }) fr at vars s)
proper_good mid extra fr placed at vars s line is proper line' is' =
    let same : Some line' ≡ Some line = sym is' ∙ ap (λ f. line_in_function f (at_spot fr at vars)) placed ∙ is in
    let e : line ≡ line' = cc in
    subst (λ l. ProperLine l vars (globals_words s.globals ++ extra s.active)) e proper
