use Rattle.std.proofs.Common.{rules, [], length}
use Rattle.std.specs.Prelude.{All, slice_index_or}
use Rattle.duplicate_pass.specs.Emits.{CallsBelow}
use Rattle.duplicate_pass.proofs.Emitted.{noted_more, all_dropped, few_dropped}
use Rattle.duplicate_pass.proofs.tables.return_lists.Goals as goal

pub loop-function-preserved : goal.loop-function-preserved
loop-function-preserved c = record {
  length_stays = search rules;
  noted = λ n h. noted_more n c.loop-function.first c.loop-function.function-index c.args.functions.now c.function-item.result (slice_index_or c.loop-function.lists.items n []) (slice_index_or c.note_calls.new.lists.items n []) _ c.as_slice.result.now c.len.result
      c.loop-function-test.true c.function-item.is c.as_slice.ensures c.len.ensures (c.loop-function.invariant.noted n h) (c.in_ok-note_calls.ensures.noted n);
  calls = all_dropped (λ f. All (λ k. CallsBelow (length c.args.functions.now) k.end) f.blocks) c.args.functions.now c.loop-function.function-index c.function-item.result c.loop-function-test.true c.function-item.is c.loop-function.invariant.calls;
  few = few_dropped c.args.functions.now c.loop-function.function-index c.loop-function.first c.len.result c.function-item.result c.loop-function-test.true c.function-item.is c.len.ensures c.loop-function.invariant.few;
}
