-- The lines that stand in a builder.
use Rattle.std.specs.Prelude.{◌++◌, List, map, flat_map}
use Rattle.mid_blocks.specs.Lines.{Line, Step, block_lines}
use Rattle.lower_expressions.specs.declared.builder.Builder.{Builder}

-- those of the closed blocks, and the steps behind them
unfoldable pub written : Builder → List Line
written b = flat_map block_lines b.blocks ++ map Step b.steps
