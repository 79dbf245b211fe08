-- Whether tokens are a program.
use Rattle.std.specs.Prelude.{◌≤◌, ◌⊎◌, List}
use Rattle.c_lexer.specs.declared.token.Token.{Token}
use Rattle.c_syntax.specs.declared.tree.Program.{Program}
use Rattle.c_syntax.specs.Sizes.{program_depth}
use Rattle.c_grammar.specs.Items.{Tree}

-- Each list of tokens spells a program of depth at most 256, or none.
abbrev pub TreeOrNone : Type 0
TreeOrNone = (tokens : List Token) →
    ((program : Program) × Tree tokens program × (program_depth program ≤ 256)) ⊎ ((program : Program) → Tree tokens program → program_depth program ≤ 256 → ⊥)
