-- Which sources are accepted, why the others are refused, and what is promised of the image of a source.
use Rattle.std.specs.Prelude.{ℕ, ◌≡◌, ◌<◌, ◌≤◌, ◌+◌, ◌*◌, ◌⊎◌, List, [], length, count_by, Some, None, Ok, Err, codes}
use Rattle.c_lexer.specs.declared.token.Token.{Token}
use Rattle.c_lexer.specs.Tokens.{Tokens, first_names, number_of}
use Rattle.c_syntax.specs.declared.tree.Program.{Program}
use Rattle.c_syntax.specs.Shaped.{Shaped}
use Rattle.c_syntax.specs.Sizes.{program_depth, program_nodes}
use Rattle.c_meaning.specs.Meaning.{source_names}
use Rattle.c_parser.specs.declared.program.ParseError.{ParseError}
use Rattle.c_parser.specs.declared.program.ParseError.TheVariants as parser
use Rattle.c_parser.specs.declared.program.ParseError.TheVariants.{NoProgram}
use Rattle.c_grammar.specs.Items.{Tree}
use Rattle.c_lexer.specs.Order.{IsPlace}
use Rattle.check_rules.specs.declared.error.CheckError.{CheckError}
use Rattle.check_rules.specs.declared.error.CheckError.TheVariants as checker
use Rattle.check_rules.specs.Limits.{Resolved, checked, first_fault}
use Rattle.check_rules.specs.Leaf.{IsLightLeaf}
use Rattle.mips_isa.specs.Image.{ImageFields}
use Rattle.mips_text.specs.Blocks.{IsAlias}
use Rattle.elf_image.specs.Bounds.{Fits}
use Rattle.elf_image.specs.Held.{IsImage}
use Rattle.compile_rules.specs.Hardened.{Hardened}
use Rattle.mips_text.specs.DeadWords.{NoDeadWords}
use Rattle.harden_lint.specs.Rules.{WellTyped}
use Rattle.mips_text.specs.Turns.{IsInTurns}
use Rattle.mips_text.specs.Loads.{is_load}
use Rattle.mips_text.specs.Starts.{HasFewStarts}
use Rattle.compile_rules.specs.declared.refusal.Refusal.{Refusal}
use Rattle.compile_rules.specs.declared.refusal.Refusal.TheVariants.{TooLong, Lex, Parse, Check, OutOfMemory}

-- the greatest number of bytes of a source
abbrev pub longest_source : ℕ
longest_source = 1048576

-- the source is the text of the program, whose depth is at most 256
pub record IsSource (source : List ℕ) (program : Program) : Type 0 where
  pub tokens : List Token
  pub lexed : Tokens source (Ok tokens)
  pub tree : Tree tokens program
  pub shallow : program_depth program ≤ 256

-- an accepted source: it is short enough, and the text of a program without fault
pub record IsAccepted (source : List ℕ) : Type 0 where
  pub short : length source ≤ longest_source
  pub program : Program
  pub is_source : IsSource source program
  pub faultless : first_fault source_names program ≡ None

-- the checked program of a source: it is short enough, and the text of a program without fault, and this is that program with positions for
-- names
pub record IsCheckedSource (source : List ℕ) (c : Resolved) : Type 0 where
  pub short : length source ≤ longest_source
  pub program : Program
  pub is_source : IsSource source program
  pub shaped : Shaped program
  pub few_nodes : program_nodes program ≤ length source
  pub is_checked : checked source_names program ≡ Ok c

-- the tokens are no program of depth at most 256; the place that is told is the byte of one of them, or the end of the last
abbrev pub HasNoTree : List Token → ParseError → Type 0
HasNoTree tokens (NoProgram at) = ((program : Program) → Tree tokens program → program_depth program ≤ 256 → ⊥) × IsPlace tokens at
HasNoTree tokens parser.OutOfMemory = ⊥

-- the first fault of the program
abbrev pub IsFirstFault : Program → CheckError → Type 0
IsFirstFault program (checker.Fault kind at) = first_fault source_names program ≡ Some (record { kind = kind; at = at })
IsFirstFault program checker.OutOfMemory = ⊥

-- Why a source is refused: it is too long; or else it has a fault in its tokens, the first; or else its tokens are no program;
-- or else the program has a fault, the first.
abbrev pub IsRefused : List ℕ → Refusal → Type 0
IsRefused source TooLong = longest_source < length source
IsRefused source (Lex error) = (length source ≤ longest_source) × Tokens source (Err error)
IsRefused source (Parse error) = (length source ≤ longest_source) × ((tokens : List Token) × (Tokens source (Ok tokens) × HasNoTree tokens error))
IsRefused source (Check error) = (length source ≤ longest_source) × ((program : Program) × (IsSource source program × IsFirstFault program error))
IsRefused source OutOfMemory = ⊥

-- Each source is accepted, or refused.
abbrev pub AcceptedOrRefused : Type 0
AcceptedOrRefused = (source : List ℕ) → IsAccepted source ⊎ ((refusal : Refusal) × IsRefused source refusal)

-- No source is both.
abbrev pub NeverBoth : Type 0
NeverBoth = (source : List ℕ) (refusal : Refusal) → IsAccepted source → IsRefused source refusal → ⊥

-- why a source isn't compiled: it is refused, or there was no memory
abbrev pub IsNotCompiled : List ℕ → Refusal → Type 0
IsNotCompiled source TooLong = IsRefused source TooLong
IsNotCompiled source (Lex error) = IsRefused source (Lex error)
IsNotCompiled source (Parse error) = IsRefused source (Parse error)
IsNotCompiled source (Check error) = IsRefused source (Check error)
IsNotCompiled source OutOfMemory = Unit {0}

-- What is promised of an image of a source: it is the hardened image of the source's program; its text begins at the entry and keeps the
-- rules of the lint; it has at most so many words and at most 65,536 words of memory, and a file can hold it; it has at most as many
-- windows as words, at most so many addresses at which a block starts, and no dead word: each that neither begins a block nor is a break
-- has a word before it; and the words of its two streams take turns. Where `main` has a weight of at most 9 and calls no function with a
-- body, at most two of its words load through the stack pointers, $29 and $30.
pub record CompilesWithin (source : List ℕ) (fields : ImageFields) (most_words most_starts : ℕ) : Type 0 where
  pub program : Program
  pub is_source : IsSource source program
  pub hardened : Hardened program fields
  pub entry : fields.entry ≡ 0x00400000
  pub typed : WellTyped fields.text fields.entry
  pub words : length fields.text ≤ most_words
  pub memory : fields.memory_words ≤ 65536
  pub fits : Fits fields
  pub few_windows : length fields.windows ≤ length fields.text
  pub few_starts : HasFewStarts fields.text fields.entry most_starts
  pub no_dead_words : NoDeadWords fields.text fields.entry
  pub in_turns : IsInTurns fields.text
  pub few_loads : IsLightLeaf source_names program → count_by is_load fields.text ≤ 2

-- What is promised of the image that a source is compiled to: it has at most 60 words for each byte of the source, and at most 16,000
-- addresses at which a block starts.
abbrev pub Compiles : List ℕ → ImageFields → Type 0
Compiles source fields = CompilesWithin source fields (60 * length source) 16000

-- What is promised of the image of a source in which no edge is critical: it has at most 60 words for each byte of the source and 720,000
-- more, and at most 48,000 addresses at which a block starts; its text has no aliases, so it lists none.
pub record CompilesSplit (source : List ℕ) (fields : ImageFields) : Type 0 where
  pub compiles : CompilesWithin source fields (60 * length source + 720000) 48000
  pub no_aliases : fields.aliases ≡ []
  pub no_alias : (u w : ℕ) → IsAlias fields.text fields.entry u w → ⊥

-- What is promised of the bytes of that image.
pub record IsCompiled (source image : List ℕ) : Type 0 where
  pub fields : ImageFields
  pub file : IsImage image fields
  pub compiles : Compiles source fields

-- What is promised of the bytes of the image in which no edge is critical.
pub record IsSplitCompiled (source image : List ℕ) : Type 0 where
  pub fields : ImageFields
  pub file : IsImage image fields
  pub compiles : CompilesSplit source fields

-- The numbers that the meaning of C takes for `main`, `in_word` and `out_word` are those that the lexer gives these spellings.
pub record NamesAgree : Type 0 where
  pub main : number_of first_names (codes "main") ≡ source_names.main
  pub in_word : number_of first_names (codes "in_word") ≡ source_names.in_word
  pub out_word : number_of first_names (codes "out_word") ≡ source_names.out_word
