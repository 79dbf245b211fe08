-- No source is both accepted and refused.
use Rattle.std.proofs.Common.{◌≡◌, ℕ, ◌≤◌, arith, sym, ap, ◌∙◌, subst, List}
use Rattle.std.specs.Prelude.{Result, Ok, Err, Option, Some, None}
use Rattle.c_syntax.specs.declared.tree.Program.{Program}
use Rattle.c_meaning.specs.Meaning.{source_names}
use Rattle.c_syntax.specs.Sizes.{program_depth}
use Rattle.c_lexer.specs.declared.token.Token.{Token}
use Rattle.c_lexer.specs.declared.error.LexError.{LexError}
use Rattle.c_lexer.specs.Tokens.{Tokens}
use Rattle.c_lexer.proofs.OneResult.{one_result}
use Rattle.c_parser.specs.declared.program.ParseError.{ParseError}
use Rattle.c_parser.specs.declared.program.ParseError.TheVariants as parser
use Rattle.c_grammar.specs.Items.{Tree}
use Rattle.c_grammar.proofs.Programs.{one_tree}
use Rattle.check_rules.specs.declared.error.CheckError.{CheckError}
use Rattle.check_rules.specs.declared.error.CheckError.TheVariants as checker
use Rattle.check_rules.specs.Fault.{Fault}
use Rattle.check_rules.specs.Limits.{Resolved, first_fault, fault_in}
use Rattle.compile_rules.specs.declared.refusal.Refusal.{Refusal}
use Rattle.compile_rules.specs.declared.refusal.Refusal.TheVariants.{TooLong, Lex, Parse, Check, OutOfMemory}
use Rattle.compile_rules.specs.Compiled.{IsSource, IsAccepted, IsCheckedSource, IsRefused, HasNoTree, IsFirstFault}

-- the source of a checked program is accepted
pub accepted : (source : List ℕ) (c : Resolved) → IsCheckedSource source c → IsAccepted source
accepted source c is = record {
  short = is.short;
  program = is.program;
  is_source = is.is_source;
  faultless = ap fault_in is.is_checked;
}

ok_is_ok : (a b : List Token) → (let one : Result (List Token) LexError = Ok a in one) ≡ Ok b → a ≡ b
ok_is_ok a b e = cc

ok_is_no_fault : (a : List Token) (e : LexError) → (let one : Result (List Token) LexError = Ok a in one) ≡ Err e → ⊥
ok_is_no_fault a e h = cc

same_tokens : (source : List ℕ) (a b : List Token) → Tokens source (Ok a) → Tokens source (Ok b) → a ≡ b
same_tokens source a b x y = ok_is_ok a b (one_result source (Ok a) (Ok b) x y)

same_program : (source : List ℕ) (p q : Program) → IsSource source p → IsSource source q → p ≡ q
same_program source p q a b = one_tree b.tokens p q (subst (λ (ts : List Token). Tree ts p) (same_tokens source a.tokens b.tokens a.lexed b.lexed) a.tree) b.tree

has_tree : (tokens : List Token) (e : ParseError) (program : Program) → HasNoTree tokens e → Tree tokens program → program_depth program ≤ 256 → ⊥
has_tree tokens (parser.NoProgram at) program none tree shallow = none.0 program tree shallow
has_tree tokens parser.OutOfMemory program none tree shallow = none

no_fault : {f : Fault} → (let o : Option Fault = Some f in o) ≡ None → ⊥
no_fault is = absurd cc

-- a program with a fault isn't one without
faultless : (program : Program) (e : CheckError) → IsFirstFault program e → first_fault source_names program ≡ None → ⊥
faultless program (checker.Fault kind at) fault none = no_fault (sym fault ∙ none)
faultless program checker.OutOfMemory fault none = fault

-- no source is both accepted and refused
pub both : (source : List ℕ) (refusal : Refusal) → IsRefused source refusal → IsAccepted source → ⊥
both source TooLong refused accepted = omega (arith, refused, accepted.short)
both source (Lex e) refused accepted = ok_is_no_fault accepted.is_source.tokens e (one_result source (Ok accepted.is_source.tokens) (Err e) accepted.is_source.lexed refused.1)
both source (Parse e) (short, (tokens, (lexed, none))) accepted =
    let same : accepted.is_source.tokens ≡ tokens = same_tokens source accepted.is_source.tokens tokens accepted.is_source.lexed lexed in
    has_tree tokens e accepted.program none (subst (λ (ts : List Token). Tree ts accepted.program) same accepted.is_source.tree) accepted.is_source.shallow
both source (Check e) (short, (program, (is, fault))) accepted =
    faultless program e fault (ap (first_fault source_names) (sym (same_program source accepted.program program accepted.is_source is)) ∙ accepted.faultless)
both source OutOfMemory refused accepted = refused

pub not_both : (source other : List ℕ) (refusal : Refusal) → source ≡ other → IsRefused source refusal → IsAccepted other → ⊥
not_both source other refusal e refused accepted = both source refusal refused (subst (λ (s : List ℕ). IsAccepted s) (sym e) accepted)
