use Rattle.std.proofs.Common.{◌≡◌, ◌+◌, ◌<◌, ◌^◌, ℕ, [], ◌∷◌, length, map, sum, ◌++◌, drop}
use Rattle.std.specs.Prelude.{All, vec_len, slice_index_or, if◌then◌else◌, ◌==◌}
use Rattle.duplicate_pass.specs.Emits.{CallsBelow}
use Rattle.double_law.specs.Ways.{behind_calls, all_blocks}
use Rattle.duplicate_pass.proofs.tables.return_lists.Given as goal

abbrev pub invariant-loop-function : goal.invariant-loop-function
invariant-loop-function l = record {
  length_stays : vec_len l.lists ≡ length l.functions;
  noted : (n : ℕ) → n < length l.functions → slice_index_or l.lists.items n [] ++ behind_calls n l.first (all_blocks (drop l.function-index l.functions)) ≡ (if n == 0 then 1 ∷ [] else []) ++ behind_calls n 2 (all_blocks l.functions);
  calls : All (λ f. All (λ k. CallsBelow (length l.functions) k.end) f.blocks) (drop l.function-index l.functions);
  few : l.first + sum (map (λ f. length f.blocks) (drop l.function-index l.functions)) < 2 ^ 32;
}
