-- Tokens are a program, or none.
use Rattle.std.proofs.Common.{◌≡◌, ◌≤◌, ◌⊎◌, inl, inr, List, Option, Some, None, length, refl}
use Rattle.c_lexer.specs.declared.token.Token.{Token}
use Rattle.c_syntax.specs.Sizes.{program_depth}
use Rattle.c_syntax.specs.declared.tree.TopItem.{TopItem}
use Rattle.c_syntax.specs.declared.tree.Program.{Program}
use Rattle.c_grammar.specs.Decided.{TreeOrNone}
use Rattle.c_grammar.specs.Items.{Tree}
use Rattle.c_grammar.specs.ReadItems.{program_items}
use Rattle.c_grammar.proofs.Programs.{read_tree, no_tree}

-- by what reading the tokens gives
of_read : (ts : List Token) (r : Option (List TopItem)) → program_items 256 (length ts) ts ≡ r
    → ((t : Program) × Tree ts t × (program_depth t ≤ 256)) ⊎ ((t : Program) → Tree ts t → program_depth t ≤ 256 → ⊥)
of_read ts (Some is) e = (let program : Program = record { items = is } in
    let h : Tree ts program × (program_depth program ≤ 256) = read_tree 256 ts program e in
    inl (program, h.0, h.1))
of_read ts None e = inr (no_tree 256 ts e)

pub tree_or_none : TreeOrNone
tree_or_none ts = of_read ts (program_items 256 (length ts) ts) refl
