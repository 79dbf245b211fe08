use Rattle.std.proofs.Common.{refl, List, length, sym, subst, arith}
use Rattle.std.specs.Prelude.{Ok}
use Rattle.c_lexer.specs.declared.token.Token.{Token}
use Rattle.c_lexer.specs.Tokens.{Tokens, ArePlaced}
use Rattle.compile_rules.specs.Refusals.{lexer_refusal}
use Rattle.compile_chain.proofs.Sources.{checked_of, in_order, placed_length, tokens_refused, lex_refused, only_memory}
use Rattle.compile_chain.proofs.Results.{if_ok, if_err, unless}
use Rattle.compile_chain.proofs.compiler.checked_source.Goals as goal

pub checked_tokens-requires-clause-order : goal.checked_tokens-requires-clause-order
checked_tokens-requires-clause-order c =
    in_order c.deref.result.now 0 (length c.args.source.now) (omega arith)
    (subst (λ (ts : List Token). ArePlaced 0 ts (length c.args.source.now)) (sym c.deref.ensures.value) c.in_ok-tokens.ensures.placed)

pub checked_tokens-requires-clause-few : goal.checked_tokens-requires-clause-few
checked_tokens-requires-clause-few c =
    omega (arith, placed_length c.deref.result.now 0 (length c.args.source.now) (subst (λ (ts : List Token). ArePlaced 0 ts (length c.args.source.now)) (sym c.deref.ensures.value) c.in_ok-tokens.ensures.placed))

pub returns-clause-ok : goal.returns-clause-ok
returns-clause-ok c =
    if_ok c.checked_tokens.result _ _ (λ r of. checked_of c.args.source.now c.deref.result.now _ (omega arith)
    (subst (λ (ts : List Token). Tokens c.args.source.now (Ok ts)) (sym c.deref.ensures.value) c.in_ok-tokens.ensures.ok)
    (subst (λ (ts : List Token). ArePlaced 0 ts (length c.args.source.now)) (sym c.deref.ensures.value) c.in_ok-tokens.ensures.placed) of) c.checked_tokens.ensures.ok

pub returns-clause-refused : goal.returns-clause-refused
returns-clause-refused c =
    if_err c.checked_tokens.result _ _ (λ refusal refused. tokens_refused c.args.source.now c.deref.result.now refusal (omega arith)
    (subst (λ (ts : List Token). Tokens c.args.source.now (Ok ts)) (sym c.deref.ensures.value) c.in_ok-tokens.ensures.ok) refused) c.checked_tokens.ensures.refused

pub returns-in_err-tokens-clause-complete : goal.returns-in_err-tokens-clause-complete
returns-in_err-tokens-clause-complete c = λ accepted.
    unless c.from_residual.result (lexer_refusal c.in_err-tokens.field-0.0) c.from_residual.ensures.1
    (only_memory c.args.source.now (lexer_refusal c.in_err-tokens.field-0.0) accepted (lex_refused c.args.source.now c.in_err-tokens.field-0.0 (omega arith) (λ apart. c.in_err-tokens.ensures.fault c.in_err-tokens.field-0.0 refl apart)))

pub returns-clause-complete : goal.returns-clause-complete
returns-clause-complete c = λ accepted.
    if_err c.checked_tokens.result _ _ (λ refusal refused. only_memory c.args.source.now refusal accepted (tokens_refused c.args.source.now c.deref.result.now refusal (omega arith)
    (subst (λ (ts : List Token). Tokens c.args.source.now (Ok ts)) (sym c.deref.ensures.value) c.in_ok-tokens.ensures.ok) refused)) c.checked_tokens.ensures.refused
