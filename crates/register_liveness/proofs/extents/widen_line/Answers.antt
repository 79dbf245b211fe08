use Rattle.std.proofs.Common.{ℕ, ◌<◌, List, sym, ◌∙◌, subst}
use Rattle.std.specs.List.{All}
use Rattle.std.specs.Prelude.{slice_get}
use Rattle.mid_blocks.specs.Lines.{line_of}
use Rattle.register_liveness.specs.Met.{IsMet}
use Rattle.register_liveness.proofs.Widening.{reads_met, write_met}
use Rattle.register_liveness.proofs.extents.widen_line.Goals as goal

pub widen_each-requires-clause-met : goal.widen_each-requires-clause-met
widen_each-requires-clause-met c =
    subst (λ (xs : List ℕ). All (λ v. (v < c.args.function.now.variables) × IsMet c.args.function.now v c.args.at) xs) (sym (c.as_slice.ensures.value ∙ c.in_ok-written.ensures.reads))
    (reads_met c.args.function.now c.requires.valid c.args.at (line_of (slice_get c.args.block.now.steps c.args.before) c.args.block.now.end) c.requires.there)

pub widen-requires-clause-variable : goal.widen-requires-clause-variable
widen-requires-clause-variable c = (write_met c.args.function.now c.requires.valid c.args.at c.in-Some.v (line_of (slice_get c.args.block.now.steps c.args.before) c.args.block.now.end) c.requires.there (sym c.in_ok-written.ensures.writes ∙ c.in-Some.is)).0

pub widen-requires-clause-met : goal.widen-requires-clause-met
widen-requires-clause-met c = (write_met c.args.function.now c.requires.valid c.args.at c.in-Some.v (line_of (slice_get c.args.block.now.steps c.args.before) c.args.block.now.end) c.requires.there (sym c.in_ok-written.ensures.writes ∙ c.in-Some.is)).1
