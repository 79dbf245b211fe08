use Rattle.std.proofs.Common.{ℕ, List, [], ◌∷◌, ◌++◌, get_or, ◌<◌, ◌≤◌, ◌≡◌, ◌+◌, length, arith, sym, ◌∙◌, subst, ap, inl, inr, Bool}
use Rattle.std.specs.Prelude.{slice_set}
use Rattle.sign_law.specs.Graph.{IsSucc}
use Rattle.sign_law.specs.Signs.{AreLabels}
use Rattle.sign_law.specs.Search.{label_at}
use Rattle.signature_assign.specs.Settle.{Settling, Rounds}
use Rattle.signature_assign.proofs.Turns.{enters, settled, idle, over, moved}
use Rattle.signature_assign.proofs.groups.rounds.Goals as goal
use Rattle.signature_assign.proofs.groups.rounds.Goals.{then-two-root+then-labels-root+in_ok-push+in_ok-settle, else-two-root, else-two-root-via-then-two-root+else-labels-root, else-two-root-via-else-two-root}

pub settle-requires-clause-begun : goal.settle-requires-clause-begun
settle-requires-clause-begun c =
    let s = c.args in
    subst (λ (ws : List ℕ). Settling s.successors.now s.none c.loop-root.root (slice_set c.loop-root.labels c.loop-root.root c.loop-root.root) c.loop-root.done ws)
    (sym (c.in_ok-push.ensures.items ∙ ap (λ (ws : List ℕ). ws ++ c.loop-root.root ∷ []) c.loop-root.invariant.quiet))
    (enters s.successors.now s.predecessors.now s.two.now s.none c.requires.graph c.loop-root.root c.loop-root.labels c.loop-root.done c.loop-root-test.true c.loop-root.invariant.going c.if-two-root.true c.if-labels-root.true)

pub loop-root-preserved : goal.loop-root-preserved
loop-root-preserved c = elim c.if-two-root.branch [
  | then-two-root+then-labels-root+in_ok-push+in_ok-settle w ↦ record {
    going = moved c.args.successors.now c.args.none (c.loop-root.root + 1) w.settle.new.labels c.if-two-root.labels w.settle.new.done c.if-two-root.done w.labels-is w.done-is
        (settled c.args.successors.now c.args.predecessors.now c.args.two.now c.args.none c.requires.graph c.loop-root.root w.settle.new.labels w.settle.new.done w.in_ok-settle.ensures.settled);
    quiet = ap (λ x. x.items) w.waiting-is ∙ w.in_ok-settle.ensures.empty;
  }
  | else-two-root w ↦ elim w.else-two-root.branch [
    | else-two-root-via-then-two-root+else-labels-root v ↦ record {
      going = moved c.args.successors.now c.args.none (c.loop-root.root + 1) c.loop-root.labels c.if-two-root.labels c.loop-root.done c.if-two-root.done w.labels-is w.done-is
          (idle c.args.successors.now c.args.predecessors.now c.args.two.now c.args.none c.requires.graph c.loop-root.root c.loop-root.labels c.loop-root.done c.loop-root-test.true c.loop-root.invariant.going (inr v.if-labels-root.false));
      quiet = ap (λ x. x.items) w.waiting-is ∙ c.loop-root.invariant.quiet;
    }
    | else-two-root-via-else-two-root v ↦ record {
      going = moved c.args.successors.now c.args.none (c.loop-root.root + 1) c.loop-root.labels c.if-two-root.labels c.loop-root.done c.if-two-root.done w.labels-is w.done-is
          (idle c.args.successors.now c.args.predecessors.now c.args.two.now c.args.none c.requires.graph c.loop-root.root c.loop-root.labels c.loop-root.done c.loop-root-test.true c.loop-root.invariant.going (inl v.if-two-root.false));
      quiet = ap (λ x. x.items) w.waiting-is ∙ c.loop-root.invariant.quiet;
    }
  ]
]

pub returns : goal.returns
returns c =
    let e : c.loop-root.root ≡ c.args.none = omega arith in
    over c.args.successors.now c.args.predecessors.now c.args.two.now c.args.none c.requires.graph c.loop-root.labels c.loop-root.done (subst (λ (x : ℕ). Rounds c.args.successors.now c.args.none x c.loop-root.labels c.loop-root.done) e c.loop-root.invariant.going)
