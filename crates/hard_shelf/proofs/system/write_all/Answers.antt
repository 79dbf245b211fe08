use Rattle.std.proofs.Common.{ℕ, List, take, arith, subst}
use Rattle.std.proofs.KnownBytes.{Appends-trans}
use Rattle.std.proofs.Math.Seq.{take-add}
use Rattle.std.proofs.lemmas.List.{take_rest}
use Rattle.std.specs.Io.KnownBytes.{Appends}
use Rattle.hard_shelf.proofs.KnownBytes.{Appends-kept}
use Rattle.hard_shelf.proofs.system.write_all.Goals as goal
use Rattle.hard_shelf.proofs.system.write_all.Goals.{in-Ok, in-Err+else-ne}

pub loop-preserved : goal.loop-preserved
loop-preserved g c = elim c.match-write.branch [
  | in-Ok w ↦
      let bytes : List ℕ = c.args.bytes.now in
      let done : ℕ = c.loop.done in
      let count : ℕ = w.in-Ok.count in
      record {
        bytes = rw (w.done-is, take-add done count bytes)
            (Appends-trans _ _ _ _ _ c.loop.invariant.bytes
            (subst (λ (rest : List ℕ). Appends (g.W.Write.contents c.loop.writer) (g.W.Write.contents c.write.new.self) (take count rest)) (take_rest bytes done) w.in-Ok.ensures.bytes));
        within = search arith;
        faults = search arith;
      }
  | in-Err+else-ne w ↦ record {
    bytes = rw w.done-is (Appends-kept _ _ _ _ c.loop.invariant.bytes w.in-Err.ensures.bytes);
    within = search arith;
    faults = search arith;
  }
]
