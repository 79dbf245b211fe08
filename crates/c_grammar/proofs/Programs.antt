-- No list of tokens has two trees, and a tree is found where there is one.
use Rattle.std.proofs.Common.{◌≡◌, ◌≤◌, ℕ, List, Some, None, sym, ap, ◌∙◌, arith, length, max}
use Rattle.c_lexer.specs.declared.token.Token.{Token}
use Rattle.c_syntax.specs.Sizes.{program_depth}
use Rattle.c_syntax.specs.declared.tree.TopItem.{TopItem}
use Rattle.c_syntax.specs.declared.tree.Program.{Program}
use Rattle.c_grammar.specs.Items.{Tree}
use Rattle.c_grammar.specs.ReadItems.{program_items}
use Rattle.c_grammar.proofs.Options.{some_is, none_is}
use Rattle.c_grammar.proofs.CompleteItems.{items_whole}
use Rattle.c_grammar.proofs.SoundItems.{FoundItems, items_sound}

abbrev program_is : List TopItem → Program
program_is is = record { items = is }

pub tree_read : (lim : ℕ) (ts : List Token) (t : Program) → Tree ts t → program_depth t ≤ lim → program_items lim (length ts) ts ≡ Some t.items
tree_read lim ts t d h = items_whole lim ts t.items d (length ts) h (omega arith)

pub one_tree : (ts : List Token) (t u : Program) → Tree ts t → Tree ts u → t ≡ u
one_tree ts t u d e = let lim : ℕ = max (program_depth t) (program_depth u) in ap program_is (some_is (sym (tree_read lim ts t d (omega arith)) ∙ tree_read lim ts u e (omega arith)))

pub read_tree : (lim : ℕ) (ts : List Token) (t : Program) → program_items lim (length ts) ts ≡ Some t.items → Tree ts t × (program_depth t ≤ lim)
read_tree lim ts t h = let f : FoundItems lim ts t.items = items_sound lim (length ts) ts t.items h in (f.reads, f.deep)

pub no_tree : (lim : ℕ) (ts : List Token) → program_items lim (length ts) ts ≡ None → (t : Program) → Tree ts t → program_depth t ≤ lim → ⊥
no_tree lim ts h t d deep = none_is (sym h ∙ tree_read lim ts t d deep)
