use Rattle.std.proofs.Common.{◌+◌, ◌<◌, ◌^◌, List, sym, subst, map, sum, length}
use Rattle.std.specs.Prelude.{All}
use Rattle.mid_blocks.specs.declared.code.MidFunction.{MidFunction}
use Rattle.duplicate_pass.specs.Emits.{CallsBelow}
use Rattle.duplicate_pass.proofs.Facts.{all_calls, all_few, tables_are}
use Rattle.duplicate_pass.proofs.pass.tables_of.Goals as goal

pub first_blocks-requires : goal.first_blocks-requires
first_blocks-requires c = subst (λ (fs : List MidFunction). 2 + sum (map (λ (f : MidFunction). length f.blocks) fs) < 2 ^ 32) (sym c.as_slice.ensures) (all_few c.args.mid.now c.requires)

pub return_lists-requires-clause-calls : goal.return_lists-requires-clause-calls
return_lists-requires-clause-calls c = subst (λ (fs : List MidFunction). All (λ f. All (λ k. CallsBelow (length fs) k.end) f.blocks) fs) (sym c.as_slice-2.ensures) (all_calls c.args.mid.now c.requires)

pub return_lists-requires-clause-few : goal.return_lists-requires-clause-few
return_lists-requires-clause-few c = subst (λ (fs : List MidFunction). 2 + sum (map (λ (f : MidFunction). length f.blocks) fs) < 2 ^ 32) (sym c.as_slice-2.ensures) (all_few c.args.mid.now c.requires)

pub returns : goal.returns
returns c = tables_are c.args.mid.now c.as_slice.result.now c.as_slice-2.result.now c.in_ok-firsts.firsts.items c.in_ok-returns.returns.items c.as_slice.ensures c.as_slice-2.ensures c.in_ok-firsts.ensures (c.in_ok-returns.ensures.length, c.in_ok-returns.ensures.noted)
