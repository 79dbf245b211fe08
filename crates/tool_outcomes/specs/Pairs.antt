-- The lines of an image's lists: a line for each window and each alias, and then how many there are.
use Rattle.std.specs.Prelude.{ℕ, List, ◌++◌, length, codes, decimal}
use Rattle.std.specs.List.{flat_map}
use Rattle.fault_replay.specs.Show.{line, address}
use Rattle.mips_isa.specs.Image.{ImageFields}

-- An address of the text and a register: a flip of the register just before the instruction there may go unseen.
unfoldable pub window_line : ℕ × ℕ → List ℕ
window_line window = line (codes "window " ++ address window.0 ++ codes " $" ++ decimal window.1)

-- Two addresses of the text: a jump from the block at the first to the one at the second may go unseen.
unfoldable pub alias_line : ℕ × ℕ → List ℕ
alias_line alias = line (codes "alias " ++ address alias.0 ++ codes " " ++ address alias.1)

-- How many there are of both.
unfoldable pub count_line : (windows aliases : ℕ) → List ℕ
count_line windows aliases = line (codes "windows " ++ decimal windows ++ codes " aliases " ++ decimal aliases)

abbrev pub pair_lines : ImageFields → List ℕ
pair_lines image = flat_map window_line image.windows ++ (flat_map alias_line image.aliases ++ count_line (length image.windows) (length image.aliases))
