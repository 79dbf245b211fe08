use Rattle.std.proofs.Common.{ℕ, List, Option, get_or, length, arith, sym, ap, ◌∙◌, subst, Vec, Global}
use Rattle.mid_blocks.specs.Lines.{lines}
use Rattle.register_halves.specs.Fit.{Holds, IsWantedBehind}
use Rattle.mid_blocks.proofs.Positions.{got}
use Rattle.register_liveness.proofs.Widening.{reads_met, write_met}
use Rattle.register_halves.proofs.Fitting.{holds_in}
use Rattle.register_halves.proofs.FitLines.{IsPassed, drop_written, keep_all, hold_at, unfit_reads}
use Rattle.register_halves.proofs.fit.want_line.Goals as goal
use Rattle.register_halves.proofs.fit.want_line.Goals.{in-Some, in-None}

pub leave-requires-clause-exists : goal.leave-requires-clause-exists
leave-requires-clause-exists c =
    let t = got (lines c.args.function.now) c.args.at c.requires.there in
    omega (arith, (write_met c.args.function.now c.requires.valid c.args.at c.in-Some.v t.0 t.1 (sym (c.requires.written t.0 t.1) ∙ c.in-Some.is)).0, c.requires.one_each)

pub leave-requires-clause-in_pairs : goal.leave-requires-clause-in_pairs
leave-requires-clause-in_pairs c =
    let t = got (lines c.args.function.now) c.args.at c.requires.there in
    holds_in c.args.places.now c.args.now.now.items (IsWantedBehind c.args.function.now c.args.at t.0) (c.requires.behind t.0 t.1)

pub enter_each-requires-clause-exist : goal.enter_each-requires-clause-exist
enter_each-requires-clause-exist c = λ k d l.
    let t = got (lines c.args.function.now) c.args.at c.requires.there in
    let e = c.requires.reads t.0 t.1 in
    let met = reads_met c.args.function.now c.requires.valid c.args.at t.0 t.1 k d (omega (arith, ap length e)) in
    omega (arith, met.0, ap (λ (xs : List ℕ). get_or xs k d) e, c.requires.one_each)

pub returns-clause-yes : goal.returns-clause-yes
returns-clause-yes c = λ h.
    let t = got (lines c.args.function.now) c.args.at c.requires.there in
    let behind = c.requires.behind t.0 t.1 in
    let passed : Holds c.args.places.now c.match-written.now.items (IsPassed c.args.function.now c.args.places.now c.args.at t.0 t.1) = elim c.match-written.branch [
      | in-Some w ↦ subst (λ (v : Vec (Option ℕ) Global). Holds c.args.places.now v.items (IsPassed c.args.function.now c.args.places.now c.args.at t.0 t.1)) (sym w.now-is)
          (drop_written c.args.function.now c.args.places.now c.args.at t.0 t.1 c.args.now.now.items w.leave.new.now.items w.in-Some.v (sym (c.requires.written t.0 t.1) ∙ w.in-Some.is) behind w.leave.ensures)
      | in-None w ↦ subst (λ (v : Vec (Option ℕ) Global). Holds c.args.places.now v.items (IsPassed c.args.function.now c.args.places.now c.args.at t.0 t.1)) (sym w.now-is)
          (keep_all c.args.function.now c.args.places.now c.args.at t.0 t.1 c.args.now.now.items (sym (c.requires.written t.0 t.1) ∙ w.in-None.is) behind)
    ] in
    hold_at c.args.function.now c.args.places.now c.args.at t.0 t.1 c.match-written.now.items c.enter_each.new.now.items c.args.reads.now (c.requires.reads t.0 t.1) passed (c.enter_each.ensures.yes h)

pub returns-clause-no : goal.returns-clause-no
returns-clause-no c = λ h.
    let t = got (lines c.args.function.now) c.args.at c.requires.there in
    let behind = c.requires.behind t.0 t.1 in
    let passed : Holds c.args.places.now c.match-written.now.items (IsPassed c.args.function.now c.args.places.now c.args.at t.0 t.1) = elim c.match-written.branch [
      | in-Some w ↦ subst (λ (v : Vec (Option ℕ) Global). Holds c.args.places.now v.items (IsPassed c.args.function.now c.args.places.now c.args.at t.0 t.1)) (sym w.now-is)
          (drop_written c.args.function.now c.args.places.now c.args.at t.0 t.1 c.args.now.now.items w.leave.new.now.items w.in-Some.v (sym (c.requires.written t.0 t.1) ∙ w.in-Some.is) behind w.leave.ensures)
      | in-None w ↦ subst (λ (v : Vec (Option ℕ) Global). Holds c.args.places.now v.items (IsPassed c.args.function.now c.args.places.now c.args.at t.0 t.1)) (sym w.now-is)
          (keep_all c.args.function.now c.args.places.now c.args.at t.0 t.1 c.args.now.now.items (sym (c.requires.written t.0 t.1) ∙ w.in-None.is) behind)
    ] in
    unfit_reads c.args.function.now c.args.places.now c.args.at t.0 t.1 c.match-written.now.items c.args.reads.now (c.requires.reads t.0 t.1) passed (c.enter_each.ensures.no h)
