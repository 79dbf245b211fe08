use Rattle.std.proofs.Common.{◌≡◌, List, ℕ, Bool, arith, ap, length, sym, ◌∙◌, subst, map}
use Rattle.hard_items.specs.declared.code.HardBlock.{HardBlock}
use Rattle.hard_items.specs.declared.code.HardProgram.{HardProgram}
use Rattle.hard_items.specs.WellFormed.{WellFormed}
use Rattle.sign_law.specs.Marks.{successors_of}
use Rattle.signature_assign.specs.Edges.{AreEdges, backward, twos}
use Rattle.signature_assign.proofs.Premises.{long_map}
use Rattle.signature_assign.proofs.Signing.{edges_of, known_of, graph_for, twos_few, labels_for}
use Rattle.signature_assign.proofs.numbers.Known.of.Goals as goal

successors_are : (p : HardProgram) (S : List (List ℕ)) (blocks : List HardBlock) → S ≡ map (λ (b : HardBlock). b.successors) blocks → blocks ≡ p.blocks → S ≡ successors_of p
successors_are p S blocks e b = e ∙ ap (map (λ (b : HardBlock). b.successors)) b

edges : (p : HardProgram) (S : List (List ℕ)) → WellFormed p → S ≡ successors_of p → AreEdges S
edges p S f e = subst AreEdges (sym e) (edges_of p f)

pub predecessors-requires-clause-edges : goal.predecessors-requires-clause-edges
predecessors-requires-clause-edges c =
    let se = successors_are c.args.program.now c.in_ok-successors.successors.items c.as_slice.result.now c.in_ok-successors.ensures c.as_slice.ensures in
    subst AreEdges (sym c.deref.ensures.value) (edges c.args.program.now c.in_ok-successors.successors.items c.requires.well_formed se)

pub labels-requires-clause-graph : goal.labels-requires-clause-graph
labels-requires-clause-graph c =
    let se = successors_are c.args.program.now c.in_ok-successors.successors.items c.as_slice.result.now c.in_ok-successors.ensures c.as_slice.ensures in
    graph_for c.in_ok-successors.successors.items c.in_ok-predecessors.predecessors.items c.deref-3.result.now c.deref-4.result.now c.in_ok-two.two.items c.deref-5.result.now
    (edges c.args.program.now c.in_ok-successors.successors.items c.requires.well_formed se) (c.in_ok-predecessors.ensures ∙ ap backward c.deref.ensures.value) (c.in_ok-two.ensures ∙ ap twos c.deref-2.ensures.value)
    c.deref-3.ensures.value c.deref-4.ensures.value c.deref-5.ensures.value

pub labels-requires-clause-few : goal.labels-requires-clause-few
labels-requires-clause-few c =
    let se = successors_are c.args.program.now c.in_ok-successors.successors.items c.as_slice.result.now c.in_ok-successors.ensures c.as_slice.ensures in
    twos_few c.in_ok-successors.successors.items c.in_ok-predecessors.predecessors.items c.in_ok-two.two.items c.deref-5.result.now (length c.args.program.now.blocks)
    (edges c.args.program.now c.in_ok-successors.successors.items c.requires.well_formed se) (c.in_ok-predecessors.ensures ∙ ap backward c.deref.ensures.value) (c.in_ok-two.ensures ∙ ap twos c.deref-2.ensures.value)
    c.deref-5.ensures.value (ap length se ∙ long_map c.args.program.now.blocks) c.requires.few

pub returns-clause-known : goal.returns-clause-known
returns-clause-known c =
    let se = successors_are c.args.program.now c.in_ok-successors.successors.items c.as_slice.result.now c.in_ok-successors.ensures c.as_slice.ensures in
    known_of c.in_ok-successors.successors.items c.in_ok-predecessors.predecessors.items c.in_ok-two.two.items c.in_ok-labels.labels.items
    (edges c.args.program.now c.in_ok-successors.successors.items c.requires.well_formed se) (omega (arith, c.requires.few, ap length se, long_map c.args.program.now.blocks))
    (c.in_ok-predecessors.ensures ∙ ap backward c.deref.ensures.value) (c.in_ok-two.ensures ∙ ap twos c.deref-2.ensures.value)
    (labels_for c.in_ok-successors.successors.items c.deref-3.result.now c.in_ok-two.two.items c.deref-5.result.now c.in_ok-labels.labels.items c.deref-3.ensures.value c.deref-5.ensures.value c.in_ok-labels.ensures)
