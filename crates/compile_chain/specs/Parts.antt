-- For private contracts alone: what the parts of the compiler do.
use Rattle.std.specs.Prelude.{◌≡◌, ◌≤◌, List, length, Ok}
use Rattle.c_lexer.specs.declared.error.LexError.{LexError}
use Rattle.c_lexer.specs.declared.error.LexError.TheVariants as lexer
use Rattle.c_lexer.specs.declared.token.Token.{Token}
use Rattle.c_parser.specs.declared.program.ParseError.{ParseError}
use Rattle.c_parser.specs.declared.program.ParseError.TheVariants as parser
use Rattle.c_grammar.specs.Items.{Tree}
use Rattle.c_syntax.specs.declared.tree.Program.{Program}
use Rattle.c_meaning.specs.Meaning.{source_names}
use Rattle.c_syntax.specs.Shaped.{Shaped}
use Rattle.c_syntax.specs.Sizes.{program_depth, program_nodes}
use Rattle.check_rules.specs.declared.error.CheckError.{CheckError}
use Rattle.check_rules.specs.declared.error.CheckError.TheVariants as checker
use Rattle.check_rules.specs.Limits.{Resolved, checked, resolved_names}
use Rattle.check_rules.specs.Leaf.{IsLightLeaf}
use Rattle.mid_blocks.specs.declared.code.Mid.{Mid}
use Rattle.mid_blocks.specs.Leaf.{IsOneLeaf}
use Rattle.mips_isa.specs.Image.{ImageFields}
use Rattle.lower_rules.specs.Lowered.{IsLowered}
use Rattle.harden.specs.Blocks.{IsImageOfBlocks, IsSplitImageOfBlocks}
use Rattle.compile_rules.specs.declared.refusal.Refusal.{Refusal}
use Rattle.compile_rules.specs.declared.refusal.Refusal.TheVariants.{TooLong, Lex, Parse, Check, OutOfMemory}
use Rattle.compile_rules.specs.Compiled.{HasNoTree, IsFirstFault}

-- the image of what a checked program is lowered to
pub record IsImageOfChecked (c : Resolved) (fields : ImageFields) : Type 0 where
  pub mid : Mid
  pub lowered : IsLowered c mid
  pub leaf : IsLightLeaf (resolved_names c) c.program → IsOneLeaf mid
  pub image : IsImageOfBlocks mid fields

-- that image with its critical edges split
pub record IsSplitImageOfChecked (c : Resolved) (fields : ImageFields) : Type 0 where
  pub mid : Mid
  pub lowered : IsLowered c mid
  pub leaf : IsLightLeaf (resolved_names c) c.program → IsOneLeaf mid
  pub image : IsSplitImageOfBlocks mid fields

-- the checked program of the program that the tokens spell
pub record IsCheckedTokens (tokens : List Token) (c : Resolved) : Type 0 where
  pub program : Program
  pub tree : Tree tokens program
  pub shallow : program_depth program ≤ 256
  pub shaped : Shaped program
  pub few : program_nodes program ≤ length tokens
  pub is_checked : checked source_names program ≡ Ok c

-- the program has a fault, or there was no memory
abbrev pub RefusesProgram : Program → Refusal → Type 0
RefusesProgram program TooLong = ⊥
RefusesProgram program (Lex error) = ⊥
RefusesProgram program (Parse error) = ⊥
RefusesProgram program (Check error) = IsFirstFault program error
RefusesProgram program OutOfMemory = Unit {0}

-- the tokens are no program, or one with a fault, or there was no memory
abbrev pub RefusesTokens : List Token → Refusal → Type 0
RefusesTokens tokens TooLong = ⊥
RefusesTokens tokens (Lex error) = ⊥
RefusesTokens tokens (Parse error) = HasNoTree tokens error
RefusesTokens tokens (Check error) = (program : Program) × Tree tokens program × (program_depth program ≤ 256) × IsFirstFault program error
RefusesTokens tokens OutOfMemory = Unit {0}
