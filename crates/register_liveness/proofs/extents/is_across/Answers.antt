use Rattle.std.proofs.Common.{[], ◌≡◌, ℕ, ◌+◌, ◌-◌, ◌<◌, ◌≤◌, Some, get_or, length, arith, sym, ap, ◌∙◌, subst, inl, inr}
use Rattle.std.specs.Prelude.{slice_get}
use Rattle.std.specs.List.{Contains}
use Rattle.std.proofs.lemmas.Bool.{cases_lt}
use Rattle.std.proofs.lemmas.List.{get_or_default}
use Rattle.std.proofs.lemmas.List.Elements.{Contains-get_or}
use Rattle.mid_blocks.specs.declared.code.MidBlock.{MidBlock}
use Rattle.mid_blocks.specs.declared.code.MidEnd.{MidEnd}
use Rattle.mid_blocks.specs.declared.code.MidFunction.{MidFunction}
use Rattle.mid_blocks.specs.Lines.{first_of}
use Rattle.mid_blocks.specs.Liveness.{IsWanted}
use Rattle.register_liveness.specs.Uses.{successors}
use Rattle.register_liveness.specs.Met.{CallBefore, CallsPast}
use Rattle.mid_blocks.proofs.ValidLines.{block_there}
use Rattle.register_liveness.proofs.Valid.{successors_exist}
use Rattle.register_liveness.proofs.Wanted.{contains_head}
use Rattle.register_liveness.proofs.extents.is_across.Goals as goal
use Rattle.register_liveness.proofs.extents.is_across.Goals.{else-b-gt0-via-then-b-gt0+else-calls_past, else-b-gt0-via-else-b-gt0}

call_before : (f : MidFunction) (v b n : ℕ) (block : MidBlock) → b ≡ n + 1 → slice_get f.blocks n ≡ Some block → IsWanted f v (first_of f b) → CallsPast block v → CallBefore f v
call_before f v b n block e is w p = record { number = n; block = block; function = p.function; args = p.args; result = p.result; is = is; ends = p.ends; not_its_result = p.not_its_result; behind = subst (λ (k : ℕ). IsWanted f v (first_of f k)) e w }

past_call : (f : MidFunction) (v n : ℕ) (block : MidBlock) (c : CallBefore f v) → c.number ≡ n → slice_get f.blocks n ≡ Some block → CallsPast block v
past_call f v n block c e is =
    let both : Some c.block ≡ Some block = sym c.is ∙ ap (slice_get f.blocks) e ∙ is in
    let same : c.block ≡ block = cc in
    record { function = c.function; args = c.args; result = c.result; ends = ap (λ (b : MidBlock). b.end) (sym same) ∙ c.ends; not_its_result = c.not_its_result }

pub bounds-as_slice-b : goal.bounds-as_slice-b
bounds-as_slice-b c = omega (arith, c.requires.blocks.within (get_or c.args.blocks.now c.loop-b.b-index 0) (Contains-get_or c.args.blocks.now c.loop-b.b-index 0 c.loop-b-test.true), ap length c.as_slice.ensures)

pub returns-then-calls_past-clause-yes : goal.returns-then-calls_past-clause-yes
returns-then-calls_past-clause-yes c = λ _.
    let b : ℕ = get_or c.args.blocks.now c.loop-b.b-index 0 in
    let has = Contains-get_or c.args.blocks.now c.loop-b.b-index 0 c.loop-b-test.true in
    let l : b - 1 < length c.as_slice.result.now = omega (arith, c.requires.blocks.within b has, ap length c.as_slice.ensures) in
    call_before c.args.function.now c.args.v b (b - 1) c.index-as_slice-b.result (omega arith)
    (block_there c.args.function.now.blocks c.as_slice.result.now (b - 1) c.index-as_slice-b.result c.as_slice.ensures l c.index-as_slice-b.is)
    (c.requires.blocks.sound b has) (c.calls_past.ensures.yes c.if-calls_past.true)

pub loop-b-preserved : goal.loop-b-preserved
loop-b-preserved c = λ k before l e. elim (cases_lt k c.loop-b.b-index) [
  | inl lt ↦ c.loop-b.invariant k before lt e
  | inr ge ↦
      let at : k ≡ c.loop-b.b-index = omega arith in
      let b : ℕ = get_or c.args.blocks.now c.loop-b.b-index 0 in
      let e' : before.number + 1 ≡ b = e ∙ ap (λ (j : ℕ). get_or c.args.blocks.now j 0) at in
      let has = Contains-get_or c.args.blocks.now c.loop-b.b-index 0 c.loop-b-test.true in
      elim c.else-b-gt0.branch [
        | else-b-gt0-via-then-b-gt0+else-calls_past w ↦
            let lb : b - 1 < length w.as_slice.result.now = omega (arith, c.requires.blocks.within b has, ap length w.as_slice.ensures) in
            w.calls_past.ensures.no w.if-calls_past.false (past_call c.args.function.now c.args.v (b - 1) w.index-as_slice-b.result before (omega arith)
            (block_there c.args.function.now.blocks w.as_slice.result.now (b - 1) w.index-as_slice-b.result w.as_slice.ensures lb w.index-as_slice-b.is))
        | else-b-gt0-via-else-b-gt0 w ↦ let zero_b : b ≤ 0 = w.if-b-gt0.false in omega arith
      ]
]

pub returns-clause-no : goal.returns-clause-no
returns-clause-no c = λ _ before.
    let to : Contains (successors before.number before.block.end) (before.number + 1) = subst (λ (e : MidEnd). Contains (successors before.number e) (before.number + 1)) (sym before.ends) (contains_head (before.number + 1) []) in
    let there = successors_exist c.args.function.now c.requires.valid before.number before.block (before.number + 1) before.is to in
    let h = c.requires.blocks.complete (before.number + 1) there before.behind in
    c.loop-b.invariant h.0 before (omega (arith, h.1)) (sym (get_or_default c.args.blocks.now h.0 0 (before.number + 1) h.1 ∙ h.2))
