use Rattle.std.proofs.Common.{◌≡◌, ◌+◌, ◌-◌, ◌<◌, ◌≤◌, ℕ, List, arith, ap, ◌∙◌, sym, subst, drop}
use Rattle.hard_lines.specs.Faults.{word_at}
use Rattle.hard_lines.proofs.FaultWords.{word_here, word_behind, word_on}
use Rattle.hard_lines.proofs.faults.word_at.Goals as goal
use Rattle.hard_lines.proofs.faults.word_at.Goals.{then-end-gt0+else-left-eq1, else-end-gt0}

pub returns-then-left-eq1 : goal.returns-then-left-eq1
returns-then-left-eq1 c =
    let line : List ℕ = c.loop-rest.rest.now in
    let one : c.loop-rest.left ≡ 1 = omega arith in
    sym (word_here line c.word_end-end.result c.word_end-end.ensures (omega arith)) ∙ ap (λ (n : ℕ). word_at line n) (sym one) ∙ c.loop-rest.invariant.word

pub loop-rest-preserved : goal.loop-rest-preserved
loop-rest-preserved c =
    let line : List ℕ = c.loop-rest.rest.now in
    let end : ℕ = c.word_end-end.result in
    let e = c.word_end-end.ensures in
    elim c.if-end-gt0.branch [
      | then-end-gt0+else-left-eq1 w ↦
          let more : c.if-end-gt0.left + 1 ≡ c.loop-rest.left = search arith in
          let one : 1 ≤ c.if-end-gt0.left = search arith in
          let some : 0 < end = search arith in
          record {
            word = ap (λ (l : List ℕ). word_at l c.if-end-gt0.left) c.behind-rest.ensures ∙ word_behind line end c.if-end-gt0.left e some one ∙ ap (λ (n : ℕ). word_at line n) more ∙ c.loop-rest.invariant.word;
            left = one;
          }
      | else-end-gt0 w ↦
          let none : end ≡ 0 = search arith in
          record {
            word = ap (λ (l : List ℕ). word_at l c.if-end-gt0.left) c.behind-rest.ensures ∙ word_on line end c.if-end-gt0.left e none ∙ ap (λ (n : ℕ). word_at line n) w.left-is ∙ c.loop-rest.invariant.word;
            left = search arith;
          }
    ]
