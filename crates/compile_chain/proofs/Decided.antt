-- Each source is accepted or refused, and none is both.
use Rattle.std.proofs.Common.{◌≡◌, ◌≤◌, ◌⊎◌, inl, inr, ℕ, List, length, Option, Some, None, Result, Ok, Err, refl}
use Rattle.std.proofs.lemmas.Bool.{cases_lt}
use Rattle.c_lexer.specs.declared.error.LexError.{LexError}
use Rattle.c_lexer.specs.declared.token.Token.{Token}
use Rattle.c_lexer.specs.Tokens.{Tokens, HasSomeResult}
use Rattle.c_syntax.specs.declared.tree.Program.{Program}
use Rattle.c_meaning.specs.Meaning.{source_names}
use Rattle.c_syntax.specs.Sizes.{program_depth}
use Rattle.c_parser.specs.declared.program.ParseError.TheVariants.{NoProgram}
use Rattle.c_grammar.specs.Items.{Tree}
use Rattle.c_lexer.specs.Order.{end_of}
use Rattle.c_grammar.specs.Decided.{TreeOrNone}
use Rattle.check_rules.specs.declared.error.CheckError.TheVariants as checker
use Rattle.check_rules.specs.Fault.{Fault}
use Rattle.check_rules.specs.Limits.{first_fault}
use Rattle.compile_rules.specs.declared.refusal.Refusal.{Refusal}
use Rattle.compile_rules.specs.declared.refusal.Refusal.TheVariants.{TooLong, Lex, Parse, Check}
use Rattle.compile_rules.specs.Compiled.{longest_source, IsSource, IsAccepted, IsRefused, AcceptedOrRefused, NeverBoth}
use Rattle.compile_rules.proofs.Exclusive.{not_both}

abbrev Answered : List ℕ → Type 0
Answered source = IsAccepted source ⊎ ((refusal : Refusal) × IsRefused source refusal)

module _ (trees : TreeOrNone) (source : List ℕ) (short : length source ≤ longest_source) where
  -- by the first fault of its program
  of_fault : (program : Program) → IsSource source program → (f : Option Fault) → first_fault source_names program ≡ f → Answered source
  of_fault program is None e = inl (record { short = short; program = program; is_source = is; faultless = e })
  of_fault program is (Some f) e = inr (Check (checker.Fault f.kind f.at), (short, (program, (is, e))))

  -- by the program that its tokens are; where they are none, the place is their end
  of_tree : (tokens : List Token) → Tokens source (Ok tokens) → ((program : Program) × Tree tokens program × (program_depth program ≤ 256)) ⊎ ((program : Program) → Tree tokens program → program_depth program ≤ 256 → ⊥) → Answered source
  of_tree tokens lexed (inl h) = of_fault h.0 (record { tokens = tokens; lexed = lexed; tree = h.1; shallow = h.2 }) (first_fault source_names h.0) refl
  of_tree tokens lexed (inr none) = inr (Parse (NoProgram (end_of 0 tokens)), (short, (tokens, (lexed, (none, inr refl)))))

  -- by what its text gives
  of_text : (result : Result (List Token) LexError) → Tokens source result → Answered source
  of_text (Ok tokens) lexed = of_tree tokens lexed (trees tokens)
  of_text (Err e) lexed = inr (Lex e, (short, lexed))

pub accepted_or_refused : HasSomeResult → TreeOrNone → AcceptedOrRefused
accepted_or_refused texts trees source = elim (cases_lt longest_source (length source)) [
  | inl long ↦ inr (TooLong, long)
  | inr short ↦ (let r : (result : Result (List Token) LexError) × Tokens source result = texts source in of_text trees source short r.0 r.1)
]

pub never_both : NeverBoth
never_both source refusal accepted refused = not_both source source refusal refl refused accepted
