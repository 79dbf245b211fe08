use Rattle.std.proofs.Common.{ℕ, List, [], ◌∷◌, ◌++◌, get_or, ◌<◌, ◌≡◌, length, arith, sym, ◌∙◌, subst}
use Rattle.signature_assign.specs.Pass.{Work, Looking}
use Rattle.signature_assign.specs.Settle.{Settling}
use Rattle.signature_assign.proofs.Weight.{weight}
use Rattle.signature_assign.proofs.Settles.{settled_as, preds_of, last_there, succs_inside, preds_inside}
use Rattle.signature_assign.proofs.groups.settle.Goals as goal

pub bounds-predecessors-w : goal.bounds-predecessors-w
bounds-predecessors-w c =
    let s = c.args in
    let h : c.in-Some.w < s.none = last_there s.successors.now s.predecessors.now s.two.now s.none c.requires.graph s.root c.loop-w.labels c.loop-w.done c.pop.new.self.items c.loop-w.waiting.items c.in-Some.w c.in-Some.ensures.items c.loop-w.invariant.settling in
    subst (λ (x : ℕ). c.in-Some.w < x) (sym c.requires.graph.size_back) h

pub look-requires-clause-inside : goal.look-requires-clause-inside
look-requires-clause-inside c = λ p q. succs_inside c.args.successors.now c.args.predecessors.now c.args.two.now c.args.none c.requires.graph (length c.loop-w.labels) p c.loop-w.invariant.settling.size

pub look-requires-clause-there : goal.look-requires-clause-there
look-requires-clause-there c =
    let s = c.args in
    preds_inside s.successors.now s.predecessors.now s.two.now s.none c.requires.graph c.in-Some.w c.as_slice.result.now
    (preds_of s.successors.now s.predecessors.now s.two.now s.none c.requires.graph s.root c.loop-w.labels c.loop-w.done c.pop.new.self.items c.loop-w.waiting.items c.in-Some.w c.as_slice.result.now c.index-predecessors-w.result c.in-Some.ensures.items c.loop-w.invariant.settling c.as_slice.ensures c.index-predecessors-w.is)

pub loop-w-smaller : goal.loop-w-smaller
loop-w-smaller c =
    let s = c.args in
    (settled_as s.successors.now s.predecessors.now s.two.now s.none c.requires.graph s.root c.loop-w.labels c.loop-w.done c.pop.new.self.items c.loop-w.waiting.items c.as_slice.result.now c.in-Some.w (record { work = record { labels = c.look.new.labels; waiting = c.look.new.waiting.items }; done = c.look.new.done }) c.in-Some.ensures.items c.loop-w.invariant.settling
    (preds_of s.successors.now s.predecessors.now s.two.now s.none c.requires.graph s.root c.loop-w.labels c.loop-w.done c.pop.new.self.items c.loop-w.waiting.items c.in-Some.w c.as_slice.result.now c.index-predecessors-w.result c.in-Some.ensures.items c.loop-w.invariant.settling c.as_slice.ensures c.index-predecessors-w.is)
    c.in_ok-look.ensures.looked).1

pub loop-w-preserved : goal.loop-w-preserved
loop-w-preserved c =
    let s = c.args in
    record {
      long = c.look.ensures.long ∙ c.loop-w.invariant.long;
      long_done = c.look.ensures.long_done ∙ c.loop-w.invariant.long_done;
      settling = (settled_as s.successors.now s.predecessors.now s.two.now s.none c.requires.graph s.root c.loop-w.labels c.loop-w.done c.pop.new.self.items c.loop-w.waiting.items c.as_slice.result.now c.in-Some.w (record { work = record { labels = c.look.new.labels; waiting = c.look.new.waiting.items }; done = c.look.new.done }) c.in-Some.ensures.items c.loop-w.invariant.settling
          (preds_of s.successors.now s.predecessors.now s.two.now s.none c.requires.graph s.root c.loop-w.labels c.loop-w.done c.pop.new.self.items c.loop-w.waiting.items c.in-Some.w c.as_slice.result.now c.index-predecessors-w.result c.in-Some.ensures.items c.loop-w.invariant.settling c.as_slice.ensures c.index-predecessors-w.is)
          c.in_ok-look.ensures.looked).0;
    }
