use Rattle.std.proofs.Common.{◌≡◌, ℕ, ◌+◌, ◌<◌, ◌≤◌, List, get_or, length, arith, sym, ap, ◌∙◌, subst, refl, Vec, Global}
use Rattle.std.specs.Prelude.{slice_set}
use Rattle.std.proofs.lemmas.List.{get_or_default}
use Rattle.mid_blocks.specs.declared.places.Place.{Place}
use Rattle.mid_blocks.specs.declared.places.Place.TheVariants.{Pair, Slot}
use Rattle.mid_blocks.specs.Liveness.{own_slot}
use Rattle.register_halves.specs.declared.gather.Span.{Span}
use Rattle.register_halves.proofs.Taking.{TakenSoFar, taken_none, taken_all, pair_taken, slot_taken}
use Rattle.register_liveness.proofs.Living.{live_position}
use Rattle.register_halves.proofs.assigning.take_places.Goals as goal
use Rattle.register_halves.proofs.assigning.take_places.Goals.{in-Some, in-None}

pub loop-span-init : goal.loop-span-init
loop-span-init c = taken_none c.args.function.now (length c.args.free.now.items) c.args.locals.now c.args.places.now.items c.args.free.now.items c.requires.some_pair.0 c.requires.start refl c.requires.all_free

pub overflow_add-span : goal.overflow_add-span
overflow_add-span c =
    let zero_span : Span = record { variable = 0; from = 0; to = 0 } in
    let each = c.requires.locals.each c.loop-span.span-index zero_span c.loop-span-test.true in
    omega (arith, live_position c.args.function.now c.requires.valid (get_or c.args.locals.now c.loop-span.span-index zero_span).variable (get_or c.args.locals.now c.loop-span.span-index zero_span).to each.0.last, c.requires.valid.few_lines)

pub loop-span-preserved : goal.loop-span-preserved
loop-span-preserved c =
    let zero_span : Span = record { variable = 0; from = 0; to = 0 } in
    let s : Span = get_or c.args.locals.now c.loop-span.span-index zero_span in
    let is : get_or c.args.locals.now c.loop-span.span-index s ≡ s = get_or_default c.args.locals.now c.loop-span.span-index s zero_span c.loop-span-test.true in
    let Good : List Place → List ℕ → Type 0 = λ ps fs. TakenSoFar c.args.function.now (length c.args.free.now.items) c.args.locals.now ps fs (c.loop-span.span-index + 1) in
    elim c.match-free_pair.branch [
      | in-Some w ↦
          let e1 : c.match-free_pair.places.items ≡ slice_set c.loop-span.places.items s.variable (Pair w.in-Some.pair) = ap (λ (v : Vec Place Global). v.items) w.places-is in
          let e2 : c.match-free_pair.free.items ≡ slice_set c.loop-span.free.items w.in-Some.pair (s.to + 1) = ap (λ (v : Vec ℕ Global). v.items) w.free-is in
          let found : (w.in-Some.pair < length c.loop-span.free.items) × (get_or c.loop-span.free.items w.in-Some.pair 0 ≤ s.from) =
          subst (λ (fs : List ℕ). (w.in-Some.pair < length fs) × (get_or fs w.in-Some.pair 0 ≤ s.from)) c.as_slice.ensures.value w.in-Some.ensures in
          subst (λ (ps : List Place). Good ps c.match-free_pair.free.items) (sym e1) (subst (Good (slice_set c.loop-span.places.items s.variable (Pair w.in-Some.pair))) (sym e2)
          (pair_taken c.args.function.now (length c.args.free.now.items) c.args.locals.now c.loop-span.places.items c.loop-span.free.items c.loop-span.span-index s c.requires.locals c.loop-span-test.true is c.loop-span.invariant w.in-Some.pair found.0 found.1))
      | in-None w ↦
          let e1 : c.match-free_pair.places.items ≡ slice_set c.loop-span.places.items s.variable (Slot (own_slot c.args.function.now s.variable)) =
          ap (λ (v : Vec Place Global). v.items) w.places-is ∙ ap (λ (x : ℕ). slice_set c.loop-span.places.items s.variable (Slot x)) w.own_slot.ensures in
          let e2 : c.match-free_pair.free.items ≡ c.loop-span.free.items = ap (λ (v : Vec ℕ Global). v.items) w.free-is in
          let busy : (k : ℕ) → k < length c.loop-span.free.items → s.from < get_or c.loop-span.free.items k 0 =
          subst (λ (fs : List ℕ). (k : ℕ) → k < length fs → s.from < get_or fs k 0) c.as_slice.ensures.value w.in-None.ensures in
          subst (λ (ps : List Place). Good ps c.match-free_pair.free.items) (sym e1) (subst (Good (slice_set c.loop-span.places.items s.variable (Slot (own_slot c.args.function.now s.variable)))) (sym e2)
          (slot_taken c.args.function.now (length c.args.free.now.items) c.args.locals.now c.loop-span.places.items c.loop-span.free.items c.loop-span.span-index s c.requires.locals c.loop-span-test.true is c.loop-span.invariant busy))
    ]

pub returns : goal.returns
returns c = taken_all c.args.function.now (length c.args.free.now.items) c.args.locals.now c.loop-span.places.items c.loop-span.free.items c.loop-span.span-index c.loop-span-test.false c.loop-span.invariant
