use Rattle.std.proofs.Common.{ℕ, List, Option, arith, sym, ◌∙◌, subst, Vec, Global}
use Rattle.mid_blocks.specs.Lines.{lines}
use Rattle.register_halves.specs.Fit.{Holds, Clash, HasRoom}
use Rattle.std.specs.Prelude.{[], ◌∷◌}
use Rattle.mid_blocks.proofs.Positions.{got}
use Rattle.register_liveness.proofs.Widening.{write_met}
use Rattle.register_halves.proofs.FitLines.{IsIn, in_first, in_later, unfit_params, unfit_write, fits_with, fits_without}
use Rattle.register_halves.proofs.fit.check_line.Goals as goal
use Rattle.register_halves.proofs.fit.check_line.Goals.{else-at-eq0-via-then-at-eq0+else-not-enter_params, else-at-eq0-via-else-at-eq0}

pub returns-then-not-enter_params-clause-no : goal.returns-then-not-enter_params-clause-no
returns-then-not-enter_params-clause-no c = λ _.
    let t = got (lines c.args.function.now) c.args.at c.requires.there in
    unfit_params c.args.function.now c.args.places.now c.args.at t.0 t.1 c.args.now.now.items c.if-at-eq0.true c.requires.here (c.enter_params.ensures.no c.if-not-enter_params.true)

pub may_enter-requires-clause-exists : goal.may_enter-requires-clause-exists
may_enter-requires-clause-exists c =
    let t = got (lines c.args.function.now) c.args.at c.requires.there in
    omega (arith, (write_met c.args.function.now c.requires.valid c.args.at c.in-Some.v t.0 t.1 (sym (c.requires.written t.0 t.1) ∙ c.in-Some.is)).0, c.requires.one_each)

pub returns-in-Some-clause-yes : goal.returns-in-Some-clause-yes
returns-in-Some-clause-yes c = λ h.
    let t = got (lines c.args.function.now) c.args.at c.requires.there in
    let are_in : Holds c.args.places.now c.else-at-eq0.now.items (IsIn c.args.function.now c.args.places.now c.args.at t.0 t.1) = elim c.else-at-eq0.branch [
      | else-at-eq0-via-then-at-eq0+else-not-enter_params w ↦ subst (λ (v : Vec (Option ℕ) Global). Holds c.args.places.now v.items (IsIn c.args.function.now c.args.places.now c.args.at t.0 t.1)) (sym w.now-is)
          (in_first c.args.function.now c.args.places.now c.args.at t.0 t.1 c.args.now.now.items w.enter_params.new.now.items w.if-at-eq0.true c.requires.here (w.enter_params.ensures.yes w.if-not-enter_params.false))
      | else-at-eq0-via-else-at-eq0 w ↦ subst (λ (v : Vec (Option ℕ) Global). Holds c.args.places.now v.items (IsIn c.args.function.now c.args.places.now c.args.at t.0 t.1)) (sym w.now-is)
          (in_later c.args.function.now c.args.places.now c.args.at t.0 t.1 c.args.now.now.items w.if-at-eq0.false c.requires.here)
    ] in
    fits_with c.args.function.now c.args.places.now c.args.at t.0 t.1 c.else-at-eq0.now.items c.in-Some.v c.requires.pairs (sym (c.requires.written t.0 t.1) ∙ c.in-Some.is) are_in
    (subst (λ (xs : List (Option ℕ)). HasRoom c.args.places.now xs c.in-Some.v) c.as_slice.ensures.value (c.may_enter.ensures.yes h))

pub returns-in-Some-clause-no : goal.returns-in-Some-clause-no
returns-in-Some-clause-no c = λ h.
    let t = got (lines c.args.function.now) c.args.at c.requires.there in
    let are_in : Holds c.args.places.now c.else-at-eq0.now.items (IsIn c.args.function.now c.args.places.now c.args.at t.0 t.1) = elim c.else-at-eq0.branch [
      | else-at-eq0-via-then-at-eq0+else-not-enter_params w ↦ subst (λ (v : Vec (Option ℕ) Global). Holds c.args.places.now v.items (IsIn c.args.function.now c.args.places.now c.args.at t.0 t.1)) (sym w.now-is)
          (in_first c.args.function.now c.args.places.now c.args.at t.0 t.1 c.args.now.now.items w.enter_params.new.now.items w.if-at-eq0.true c.requires.here (w.enter_params.ensures.yes w.if-not-enter_params.false))
      | else-at-eq0-via-else-at-eq0 w ↦ subst (λ (v : Vec (Option ℕ) Global). Holds c.args.places.now v.items (IsIn c.args.function.now c.args.places.now c.args.at t.0 t.1)) (sym w.now-is)
          (in_later c.args.function.now c.args.places.now c.args.at t.0 t.1 c.args.now.now.items w.if-at-eq0.false c.requires.here)
    ] in
    unfit_write c.args.function.now c.args.places.now c.args.at t.0 t.1 c.else-at-eq0.now.items c.in-Some.v (sym (c.requires.written t.0 t.1) ∙ c.in-Some.is) are_in
    (subst (λ (xs : List (Option ℕ)). Clash c.args.places.now xs (c.in-Some.v ∷ [])) c.as_slice.ensures.value (c.may_enter.ensures.no h))

pub returns-in-None-clause-yes : goal.returns-in-None-clause-yes
returns-in-None-clause-yes c = λ _.
    let t = got (lines c.args.function.now) c.args.at c.requires.there in
    let are_in : Holds c.args.places.now c.else-at-eq0.now.items (IsIn c.args.function.now c.args.places.now c.args.at t.0 t.1) = elim c.else-at-eq0.branch [
      | else-at-eq0-via-then-at-eq0+else-not-enter_params w ↦ subst (λ (v : Vec (Option ℕ) Global). Holds c.args.places.now v.items (IsIn c.args.function.now c.args.places.now c.args.at t.0 t.1)) (sym w.now-is)
          (in_first c.args.function.now c.args.places.now c.args.at t.0 t.1 c.args.now.now.items w.enter_params.new.now.items w.if-at-eq0.true c.requires.here (w.enter_params.ensures.yes w.if-not-enter_params.false))
      | else-at-eq0-via-else-at-eq0 w ↦ subst (λ (v : Vec (Option ℕ) Global). Holds c.args.places.now v.items (IsIn c.args.function.now c.args.places.now c.args.at t.0 t.1)) (sym w.now-is)
          (in_later c.args.function.now c.args.places.now c.args.at t.0 t.1 c.args.now.now.items w.if-at-eq0.false c.requires.here)
    ] in
    fits_without c.args.function.now c.args.places.now c.args.at t.0 t.1 c.else-at-eq0.now.items c.requires.pairs (sym (c.requires.written t.0 t.1) ∙ c.in-None.is) are_in
