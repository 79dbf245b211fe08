use Rattle.std.proofs.Common.{◌≡◌, ℕ, ◌<◌, take, get_or}
use Rattle.std.specs.Prelude.{vec_len, if◌then◌else◌}
use Rattle.register_liveness.specs.declared.uses.FirstUse.TheVariants.{Untouched, Read}
use Rattle.register_liveness.specs.Uses.{is_among, then_use}
use Rattle.register_liveness.proofs.uses.meet_reads.Given as goal

abbrev pub invariant-loop-v : goal.invariant-loop-v
invariant-loop-v l = record {
  same_length : vec_len l.row ≡ vec_len l.initial.row;
  met : (v : ℕ) → v < vec_len l.initial.row → get_or l.row.items v Untouched ≡ then_use (get_or l.initial.row.items v Untouched) (if is_among (take l.v-index l.reads) v then Read else Untouched);
}
