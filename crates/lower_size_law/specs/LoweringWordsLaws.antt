-- The numbers in a lowered program are words.
use Rattle.std.specs.Prelude.{◌≡◌, ℕ, ◌<◌, ◌^◌, Bool, List, Some, slice_get}
use Rattle.std.specs.List.{All}
use Rattle.hard_words.specs.Words.{AreWords}
use Rattle.c_syntax.specs.declared.tree.Function.{Function}
use Rattle.c_syntax.specs.declared.tree.TopItem.{TopItem}
use Rattle.c_syntax.specs.declared.tree.Program.{Program}
use Rattle.c_syntax.specs.Graph.{function_named}
use Rattle.c_meaning.specs.Meaning.{Names}
use Rattle.mid_blocks.specs.declared.code.MidStep.TheVariants.{Constant}
use Rattle.mid_blocks.specs.declared.code.MidBlock.{MidBlock}
use Rattle.mid_blocks.specs.declared.code.MidFunction.{MidFunction}
use Rattle.mid_blocks.specs.declared.code.Mid.{Mid}
use Rattle.lower_rules.specs.Programs.{in_number_order, low_program}
use Rattle.mid_blocks.specs.Pruned.{pruned}
use Rattle.lower_rules.specs.Fitting.{Fitting}
use Rattle.lower_rules.specs.Labels.{CasesAreWords}

-- the words that a program in blocks sets variables to, and those of its globals, are words
pub record NumbersAreWords (mid : Mid) : Type 0 where
  pub constants : (n b k to w : ℕ) (f : MidFunction) (block : MidBlock) → slice_get mid.functions n ≡ Some f →
      slice_get f.blocks b ≡ Some block → slice_get block.steps k ≡ Some (Constant to w) → w < 2 ^ 32
  pub globals : All AreWords mid.globals

-- each function with a body is the first of its name
abbrev pub OneEach : Names → List TopItem → Type 0
OneEach names items = (number : ℕ) (f : Function) → slice_get (in_number_order names.main items) number ≡ Some f → function_named f.name items ≡ Some f

-- where a tree fits and the words of its cases are words, the numbers in what it is lowered to are
abbrev pub StaysWords : Type 0
StaysWords = (names : Names) (program : Program) (chain_pairs : ℕ) (marks : List (List Bool)) → Fitting names program.items →
    OneEach names program.items → CasesAreWords names program.items → NumbersAreWords (pruned marks (low_program names program chain_pairs))
