use Rattle.std.proofs.Common.{ℕ, ◌+◌, Option, get_or, arith, sym, subst, Vec, Global}
use Rattle.std.proofs.lemmas.List.Elements.{Contains-get_or}
use Rattle.register_liveness.specs.Search.{AreWantedAt}
use Rattle.register_halves.specs.Fit.{AreStarts}
use Rattle.mid_blocks.proofs.ValidLines.{few_blocks}
use Rattle.register_halves.proofs.Fitting.{place_is}
use Rattle.register_halves.proofs.StartRows.{starts_more, starts_slot, starts_clash}
use Rattle.register_halves.proofs.fit.starts.Goals as goal
use Rattle.register_halves.proofs.fit.starts.Goals.{in-Slot, in-Pair+in_ok-blocks-in-Pair+else-not-put_starts}

pub overflow_mul-len : goal.overflow_mul-len
overflow_mul-len c = omega (arith, few_blocks c.args.function.now c.requires.valid)

pub put_starts-requires-clause-exists : goal.put_starts-requires-clause-exists
put_starts-requires-clause-exists c = c.requires.pairs c.loop-v.v c.in-Pair.pair (place_is c.args.places.now c.loop-v.v _ _ (omega arith) c.in-Pair.is)

pub put_starts-requires-clause-there : goal.put_starts-requires-clause-there
put_starts-requires-clause-there c = λ k d l.
    let are : AreWantedAt c.args.function.now c.loop-v.v c.as_slice.result.now = subst (AreWantedAt c.args.function.now c.loop-v.v) (sym c.as_slice.ensures.value) c.in_ok-blocks-in-Pair.ensures in
    omega (arith, are.within (get_or c.as_slice.result.now k d) (Contains-get_or c.as_slice.result.now k d l), c.loop-v.invariant.eight_each)

pub returns-then-not-put_starts : goal.returns-then-not-put_starts
returns-then-not-put_starts c =
    let are : AreWantedAt c.args.function.now c.loop-v.v c.as_slice.result.now = subst (AreWantedAt c.args.function.now c.loop-v.v) (sym c.as_slice.ensures.value) c.in_ok-blocks-in-Pair.ensures in
    let is = place_is c.args.places.now c.loop-v.v _ _ (omega arith) c.in-Pair.is in
    starts_clash c.args.function.now c.args.places.now c.loop-v.rows.items c.loop-v.v c.in-Pair.pair c.as_slice.result.now (c.requires.pairs c.loop-v.v c.in-Pair.pair is) is are c.loop-v.invariant (c.put_starts.ensures.no c.if-not-put_starts.true)

pub loop-v-preserved : goal.loop-v-preserved
loop-v-preserved c = elim c.match-places-v.branch [
  | in-Slot w ↦ subst (λ (v : Vec (Option ℕ) Global). AreStarts c.args.function.now c.args.places.now v.items (c.loop-v.v + 1)) (sym w.rows-is)
      (starts_slot c.args.function.now c.args.places.now c.loop-v.rows.items c.loop-v.v _ (place_is c.args.places.now c.loop-v.v _ _ (omega arith) w.in-Slot.is) c.loop-v.invariant)
  | in-Pair+in_ok-blocks-in-Pair+else-not-put_starts w ↦
      let are : AreWantedAt c.args.function.now c.loop-v.v w.as_slice.result.now = subst (AreWantedAt c.args.function.now c.loop-v.v) (sym w.as_slice.ensures.value) w.in_ok-blocks-in-Pair.ensures in
      subst (λ (v : Vec (Option ℕ) Global). AreStarts c.args.function.now c.args.places.now v.items (c.loop-v.v + 1)) (sym w.rows-is)
      (starts_more c.args.function.now c.args.places.now c.loop-v.rows.items w.put_starts.new.starts.items c.loop-v.v w.in-Pair.pair w.as_slice.result.now (place_is c.args.places.now c.loop-v.v _ _ (omega arith) w.in-Pair.is) are c.loop-v.invariant (w.put_starts.ensures.yes w.if-not-put_starts.false))
]

pub returns : goal.returns
returns c = subst (AreStarts c.args.function.now c.args.places.now c.loop-v.rows.items) (omega arith) c.loop-v.invariant
