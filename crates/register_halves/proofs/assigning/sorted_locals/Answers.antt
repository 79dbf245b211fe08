use Rattle.std.proofs.Common.{◌≡◌, ℕ, ◌+◌, ◌<◌, ◌++◌, ◌∷◌, [], List, true, false, get_or, length, arith, rules, sym, ◌∙◌, subst}
use Rattle.std.proofs.lemmas.List.{get_or_read, get_or_default}
use Rattle.std.proofs.lemmas.List.Sorted.{IsNonDecreasingBy-from_sort_by_key}
use Rattle.mid_blocks.specs.declared.code.MidFunction.{MidFunction}
use Rattle.register_liveness.specs.declared.extents.Lives.{Lives}
use Rattle.register_halves.specs.declared.gather.Span.{Span}
use Rattle.register_liveness.specs.Met.{AreLives}
use Rattle.register_halves.specs.Spans.{AreSpans}
use Rattle.register_liveness.proofs.Meeting.{across_from, across_to}
use Rattle.register_halves.proofs.Gathered.{live_within}
use Rattle.register_halves.proofs.Starting.{LocalsSoFar, local_more, local_none, locals_sorted}
use Rattle.register_halves.proofs.assigning.sorted_locals.Goals as goal
use Rattle.register_halves.proofs.assigning.sorted_locals.Goals.{then-not-index+in_ok-push, else-not-index}

-- the variable of a span is one of the function's
variable_exists : (f : MidFunction) (lives : Lives) (spans : List Span) (n : ℕ) (d : Span) → AreLives f lives.extents.items lives.across.items → AreSpans f spans → n < length spans → (get_or spans n d).variable < f.variables
variable_exists f lives spans n d are s l = omega (arith, live_within f lives.extents.items (get_or spans n d).variable (get_or spans n d).from (are.held (get_or spans n d).variable (get_or spans n d).from (s.each n d l).first), are.met.one_each)

pub index-requires : goal.index-requires
index-requires c =
    let zero_span : Span = record { variable = 0; from = 0; to = 0 } in
    let are : AreSpans c.args.function.now c.deref-span-items.result.now = subst (AreSpans c.args.function.now) (sym c.deref-span-items.ensures.value) c.in_ok-spans_of.ensures in
    omega (arith, variable_exists c.args.function.now c.args.lives.now c.deref-span-items.result.now c.loop-span.span-index zero_span c.requires are c.loop-span-test.true, c.requires.one_each, c.args.lives.now.across.ok)

pub loop-span-preserved : goal.loop-span-preserved
loop-span-preserved c =
    let zero_span : Span = record { variable = 0; from = 0; to = 0 } in
    let are : AreSpans c.args.function.now c.deref-span-items.result.now = subst (AreSpans c.args.function.now) (sym c.deref-span-items.ensures.value) c.in_ok-spans_of.ensures in
    let s : Span = get_or c.deref-span-items.result.now c.loop-span.span-index zero_span in
    let is : get_or c.deref-span-items.result.now c.loop-span.span-index s ≡ s = get_or_default c.deref-span-items.result.now c.loop-span.span-index s zero_span c.loop-span-test.true in
    let exists : s.variable < c.args.function.now.variables = variable_exists c.args.function.now c.args.lives.now c.deref-span-items.result.now c.loop-span.span-index zero_span c.requires are c.loop-span-test.true in
    let at : c.index.result.now ≡ get_or c.args.lives.now.across.items s.variable false = get_or_read c.args.lives.now.across.items s.variable c.index.result.now (omega (arith, exists, c.requires.one_each)) c.index.ensures false in
    elim c.if-not-index.branch [
      | then-not-index+in_ok-push w ↦
          let items : c.if-not-index.locals.items ≡ c.loop-span.locals.items ++ s ∷ [] = cc (w.in_ok-push.ensures.items) in
          let unmarked : get_or c.args.lives.now.across.items s.variable false ≡ false = sym at ∙ w.if-not-index.true in
          subst (LocalsSoFar c.args.function.now c.deref-span-items.result.now (c.loop-span.span-index + 1)) (sym items)
          (local_more c.args.function.now c.deref-span-items.result.now c.loop-span.span-index c.loop-span.locals.items s are c.loop-span-test.true is exists
          (λ at l. c.requires.not_across s.variable exists unmarked (across_to c.args.function.now s.variable at l)) c.loop-span.invariant)
      | else-not-index w ↦
          let items : c.if-not-index.locals.items ≡ c.loop-span.locals.items = cc in
          let marked : get_or c.args.lives.now.across.items s.variable false ≡ true = sym at ∙ w.if-not-index.false in
          subst (LocalsSoFar c.args.function.now c.deref-span-items.result.now (c.loop-span.span-index + 1)) (sym items)
          (local_none c.args.function.now c.deref-span-items.result.now c.loop-span.span-index c.loop-span.locals.items s c.loop-span-test.true is
          (λ loc. let a = across_from c.args.function.now s.variable (c.requires.across s.variable marked) in loc a.0 a.1) c.loop-span.invariant)
    ]

pub returns : goal.returns
returns c =
    let are : AreSpans c.args.function.now c.deref-span-items.result.now = subst (AreSpans c.args.function.now) (sym c.deref-span-items.ensures.value) c.in_ok-spans_of.ensures in
    locals_sorted c.args.function.now c.deref-span-items.result.now c.loop-span.locals.items c.sort_by_key.new.self.items c.loop-span.span-index are c.loop-span-test.false c.loop-span.invariant
    c.in_ok-sort_by_key.ensures.permutation (IsNonDecreasingBy-from_sort_by_key (λ (s : Span). s.from) _ c.in_ok-sort_by_key.ensures.sorted (λ a r q k. search rules))
