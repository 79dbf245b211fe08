-- For private contracts alone: the state of the block machine that a run in the middle stands for.
use Rattle.std.specs.Prelude.{ℕ, Option, None, Some, List, map, reverse, slice_get}
use Rattle.mid_blocks.specs.declared.code.MidBlock.{MidBlock}
use Rattle.mid_blocks.specs.declared.code.MidFunction.{MidFunction}
use Rattle.mid_blocks.specs.Run.{Active, BlockState}
use Rattle.test_oracle.specs.Locals.{variables_of}
use Rattle.test_oracle.specs.declared.run.Call.{Call}
use Rattle.test_oracle.specs.declared.run.Run.{Run}

abbrev pub call_of : Call → Active
call_of call = record { function = call.function; block = call.block; step = call.step; variables = variables_of call.locals; result = call.result }

-- the newest call that waits stands last
abbrev pub state_of : Run → BlockState
state_of run = record {
  current = call_of run.current;
  callers = reverse (map call_of run.callers.items);
  globals = run.globals.items;
  feed = run.feed.now;
  output = run.output;
  end = run.end;
}

-- the block of a function that may be there
abbrev pub block_in : Option MidFunction → ℕ → Option MidBlock
block_in None block = None
block_in (Some f) block = slice_get f.blocks block
