-- That each clause of a `switch` has a label (ISO/IEC 9899:1999, 6.8.1, 6.8.4.2): where there is none, the tokens spell no program.
use Rattle.std.specs.Prelude.{◌≡◌, List, map, sum}
use Rattle.c_lexer.specs.declared.token.Token.{Token}
use Rattle.c_syntax.specs.declared.tree.Program.{Program}
use Rattle.c_grammar.specs.Items.{Tree}
use Rattle.c_syntax.specs.Labels.{bare_clauses}
use Rattle.c_syntax.specs.Graph.{with_bodies}

-- no clause in the bodies of a program that tokens spell is without a label
abbrev pub ParsedIsLabelled : Type 0
ParsedIsLabelled = (tokens : List Token) (program : Program) → Tree tokens program → sum (map bare_clauses (with_bodies program.items)) ≡ 0
