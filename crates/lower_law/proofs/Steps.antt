-- The block machine adds to its output, and stays at its end.
use Rattle.std.proofs.Common.{◌≡◌, ℕ, zero, suc, ◌+◌, ◌-◌, Bool, true, false, List, [], ◌∷◌, ◌++◌, Option, Some, None, Result, Ok, Err, refl, sym, ap, ◌∙◌, subst, if◌then◌else◌, arith, append_assoc, append-nil}
use Rattle.std.specs.Prelude.{nat_lt, length, ◌==◌}
use Rattle.hard_runs.specs.Observed.{Prefix, IsMachine}
use Rattle.mid_blocks.specs.declared.code.MidStep.{MidStep}
use Rattle.mid_blocks.specs.declared.code.MidStep.TheVariants.{Constant, Copy, Operate, Guard, Load, Store, Input, Output, Deep}
use Rattle.mid_blocks.specs.declared.code.MidEnd.{MidEnd}
use Rattle.mid_blocks.specs.declared.code.MidEnd.TheVariants.{Jump, Branch, Call, Return}
use Rattle.mid_blocks.specs.declared.code.Mid.{Mid}
use Rattle.mid_blocks.specs.declared.code.RunEnd.{RunEnd}
use Rattle.mid_blocks.specs.declared.code.RunEnd.TheVariants.{Trapped}
use Rattle.mid_blocks.specs.Lines.{Line, Step, End}
use Rattle.mid_blocks.specs.Run.{Active, BlockState, word_in, index_in, operate, global_in, passes, ends, sets_or_traps, takes_in, do_step, returns, do_end, do_line, next_line, unless_ended, block_step, after, block_run, first_state, seen}

same_output : (s : BlockState) → Prefix s.output s.output
same_output s = ([], sym (append-nil s.output))

step_grows : (step : MidStep) (s : BlockState) → Prefix s.output (do_step step s).output
step_grows (Constant to word) s = same_output s
step_grows (Copy to from) s = same_output s
step_grows (Operate op to left right) s = by (operate op (word_in s.current.variables left) (word_in s.current.variables right))
  where
    by : (r : Result ℕ ℕ) → Prefix s.output (sets_or_traps s to r).output
    by (Ok w) = same_output s
    by (Err trap) = same_output s
step_grows (Guard global index) s = by (nat_lt (word_in s.current.variables index) (length (global_in s.globals global)))
  where
    by : (b : Bool) → Prefix s.output (let x : BlockState = if b then passes s else ends s (Trapped 8) in x).output
    by true = same_output s
    by false = same_output s
step_grows (Load to global index) s = same_output s
step_grows (Store global index from) s = same_output s
step_grows (Input to) s = by s.feed
  where
    by : (l : List ℕ) → Prefix s.output (takes_in s to l).output
    by [] = same_output s
    by (w ∷ rest) = same_output s
step_grows (Output from) s = (word_in s.current.variables from ∷ [], refl)
step_grows (Deep test) s = by (word_in s.current.variables test == 0)
  where
    by : (b : Bool) → Prefix s.output (let x : BlockState = if b then ends s (Trapped 9) else passes s in x).output
    by true = same_output s
    by false = same_output s

end_grows : (end : MidEnd) (s : BlockState) → Prefix s.output (do_end end s).output
end_grows (Jump to) s = same_output s
end_grows (Branch test when to) s = same_output s
end_grows (Call function args result) s = same_output s
end_grows (Return from) s = by s.callers
  where
    by : (l : List Active) → Prefix s.output (returns s l (index_in s.current.variables from)).output
    by [] = same_output s
    by (caller ∷ callers) = same_output s

line_grows : (line : Option Line) (s : BlockState) → Prefix s.output (do_line line s).output
line_grows None s = same_output s
line_grows (Some (Step step)) s = step_grows step s
line_grows (Some (End end)) s = end_grows end s

block_grows : (mid : Mid) (s : BlockState) → Prefix s.output (block_step mid s).output
block_grows mid s = by s.end
  where
    by : (e : Option RunEnd) → Prefix s.output (unless_ended e s (do_line (next_line mid s) s)).output
    by None = line_grows (next_line mid s) s
    by (Some e) = same_output s

after_grows : (mid : Mid) (n : ℕ) (s : BlockState) → Prefix s.output (after mid n s).output
after_grows mid zero s = same_output s
after_grows mid (suc n) s =
    let p = block_grows mid s in
    let q = after_grows mid n (block_step mid s) in
    (p.0 ++ q.0, q.1 ∙ ap (λ (l : List ℕ). l ++ q.0) p.1 ∙ append_assoc s.output p.0 q.0)

pub after_stays : (mid : Mid) (n : ℕ) (s : BlockState) (e : RunEnd) → s.end ≡ Some e → after mid n s ≡ s
after_stays mid zero s e h = refl
after_stays mid (suc n) s e h =
    let same : block_step mid s ≡ s = ap (λ x. unless_ended x s (do_line (next_line mid s) s)) h in
    ap (after mid n) same ∙ after_stays mid n s e h

pub after_add : (mid : Mid) (m n : ℕ) (s : BlockState) → after mid (m + n) s ≡ after mid n (after mid m s)
after_add mid zero n s = let e : 0 + n ≡ n = omega arith in ap (λ j. after mid j s) e
after_add mid (suc m) n s = let e : suc m + n ≡ suc (m + n) = omega arith in ap (λ j. after mid j s) e ∙ after_add mid m n (block_step mid s)

pub block_machine : (mid : Mid) (input : List ℕ) → IsMachine (block_run mid input)
block_machine mid input = record {
  grows = λ m n le.
      let s = first_state mid input in
      let e : m + (n - m) ≡ n = omega (arith, le) in
      subst (λ j. Prefix (after mid m s).output (after mid j s).output) e (subst (λ x. Prefix (after mid m s).output x.output) (sym (after_add mid m (n - m) s)) (after_grows mid (n - m) (after mid m s)));
  stays = λ m n e le h.
      let s = first_state mid input in
      let j : m + (n - m) ≡ n = omega (arith, le) in
      let same : after mid n s ≡ after mid m s = ap (λ i. after mid i s) (sym j) ∙ after_add mid m (n - m) s ∙ after_stays mid (n - m) (after mid m s) e h in
      ap seen same;
}
