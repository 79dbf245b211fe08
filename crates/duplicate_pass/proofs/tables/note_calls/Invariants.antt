use Rattle.std.proofs.Common.{◌≡◌, ◌+◌, ◌<◌, ◌^◌, ℕ, [], length, ◌++◌, drop}
use Rattle.std.specs.Prelude.{All, vec_len, slice_index_or}
use Rattle.duplicate_pass.specs.Emits.{CallsBelow}
use Rattle.double_law.specs.Ways.{behind_calls}
use Rattle.duplicate_pass.proofs.tables.note_calls.Given as goal

abbrev pub invariant-loop-block : goal.invariant-loop-block
invariant-loop-block l = record {
  length_stays : vec_len l.lists ≡ vec_len l.initial.lists;
  noted : (n : ℕ) → slice_index_or l.lists.items n [] ++ behind_calls n l.number (drop l.block-index l.blocks) ≡ slice_index_or l.initial.lists.items n [] ++ behind_calls n l.first l.blocks;
  calls : All (λ k. CallsBelow (vec_len l.lists) k.end) (drop l.block-index l.blocks);
  few : l.number + length (drop l.block-index l.blocks) < 2 ^ 32;
}
