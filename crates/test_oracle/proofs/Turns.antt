-- Steps of a run, and calls that wait.
use Rattle.std.proofs.Common.{◌≡◌, ◌<◌, ◌-◌, ℕ, zero, suc, ◌∙◌, ap, sym, refl, arith, List, [], ◌∷◌, ◌++◌, map, reverse, Option, None, Some, slice_get}
use Rattle.std.proofs.lemmas.List.{reverse-append, map-append}
use Rattle.mid_blocks.specs.declared.code.RunEnd.{RunEnd}
use Rattle.mid_blocks.specs.declared.code.Mid.{Mid}
use Rattle.mid_blocks.specs.declared.code.MidBlock.{MidBlock}
use Rattle.mid_blocks.specs.declared.code.MidFunction.{MidFunction}
use Rattle.mid_blocks.specs.Lines.{line_in}
use Rattle.mid_blocks.specs.Run.{Active, BlockState, after, block_step, do_line, next_line, line_in_function, unless_ended, returns}
use Rattle.test_oracle.specs.State.{call_of, block_in}
use Rattle.test_oracle.specs.declared.run.Call.{Call}

-- a call more that waits
pub pushed : (calls : List Call) (c : Call) → reverse (map call_of (calls ++ c ∷ [])) ≡ call_of c ∷ reverse (map call_of calls)
pushed calls c = ap reverse (map-append call_of calls (c ∷ [])) ∙ reverse-append (map call_of calls) (call_of c ∷ [])

-- a word is returned to the newest of them
pub returned : (s : BlockState) (calls : List Call) (c : Call) (word : ℕ)
    → returns s (reverse (map call_of (calls ++ c ∷ []))) word ≡ returns s (call_of c ∷ reverse (map call_of calls)) word
returned s calls c word = ap (λ all. returns s all word) (pushed calls c)

-- the next line stands in the block where the call stands
pub stands : (f : Option MidFunction) (call : Active) → line_in_function f call ≡ line_in (block_in f call.block) call.step
stands None call = refl
stands (Some f) call = refl

-- a step of a run that hasn't ended
pub steps_on : (mid : Mid) (s : BlockState) → s.end ≡ None
    → block_step mid s ≡ do_line (line_in (block_in (slice_get mid.functions s.current.function) s.current.block) s.current.step) s
steps_on mid s h = ap (λ e. unless_ended e s (do_line (next_line mid s) s)) h ∙ ap (λ line. do_line line s) (stands (slice_get mid.functions s.current.function) s.current)

never : 0 < 0 → ⊥
never h = omega arith

-- the first of the steps that are left
pub first_left : (mid : Mid) (n : ℕ) (s : BlockState) → 0 < n → after mid n s ≡ after mid (n - 1) (block_step mid s)
first_left mid zero s h = absurd (never h)
first_left mid (suc n) s h = let e : n ≡ suc n - 1 = omega arith in ap (λ k. after mid k (block_step mid s)) e

-- a run that has ended stays as it is
pub stays : (mid : Mid) (n : ℕ) (s : BlockState) (e : RunEnd) → s.end ≡ Some e → after mid n s ≡ s
stays mid zero s e h = refl
stays mid (suc n) s e h = ap (after mid n) (ap (λ x. unless_ended x s (do_line (next_line mid s) s)) h) ∙ stays mid n s e h

pub ruleset turn_rules = (pushed, returned, steps_on, first_left, stays)
