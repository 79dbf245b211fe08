use Rattle.std.proofs.Common.{◌≡◌, ℕ, ◌<◌, take, get_or}
use Rattle.std.specs.Prelude.{vec_len}
use Rattle.mid_blocks.specs.Lines.{block_lines}
use Rattle.register_liveness.specs.declared.uses.FirstUse.TheVariants.{Untouched}
use Rattle.register_liveness.specs.Uses.{first_use}
use Rattle.register_liveness.proofs.uses.block_uses.Given as goal

abbrev pub invariant-loop-before : goal.invariant-loop-before
invariant-loop-before l = record {
  one_each : vec_len l.row ≡ l.variables;
  met : (v : ℕ) → v < l.variables → get_or l.row.items v Untouched ≡ first_use v (take l.before (block_lines l.block));
}
