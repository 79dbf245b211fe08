-- The turns of the code's loops over parts up to a token that ends them: what holds from turn to turn, and what each way out gives.
use Rattle.std.proofs.Common.{◌≡◌, ◌<◌, ◌++◌, ℕ, suc, Bool, true, false, List, [], ◌∷◌, Some, None, sym, ap, ◌∙◌, arith, length}
use Rattle.c_lexer.specs.declared.token.Token.{Token}
use Rattle.c_lexer.specs.declared.token.TokenKind.{TokenKind}
use Rattle.c_grammar.specs.declared.fault.Fault.{Fault}
use Rattle.c_grammar.specs.Gives.{Fails}
use Rattle.c_grammar.specs.ReadExpressions.{Read}
use Rattle.c_grammar.specs.ReadStatements.{until, all_until}
use Rattle.c_grammar.proofs.Steps.{fails_via}
use Rattle.c_grammar.proofs.ListSteps.{fronted, fronted_none, Falls, until_on, until_fails, until_end, until_empty, nothing_left}

module _ {A : Type 0} (ends : TokenKind → Bool) (item : List Token → Read A) (tokens : List Token) where
  -- these parts were read, and with the rest it is all
  pub record Going (parts : List A) (rest : List Token) : Type 0 where
    pub turns : ℕ
    pub enough : length rest < turns
    pub same : fronted parts (until ends item turns rest) ≡ all_until ends item tokens

  pub going_first : (parts : List A) → parts ≡ [] → Going parts tokens
  going_first parts h = record {
    turns = suc (length tokens);
    enough = omega arith;
    same = ap (λ ps. fronted ps (until ends item (suc (length tokens)) tokens)) h ∙ fronted_none (until ends item (suc (length tokens)) tokens);
  }

  pub going_out : (parts : List A) (rest : List Token) → Going parts rest → length rest ≡ 0 → all_until ends item tokens ≡ None
  going_out parts rest g h = sym g.same ∙ until_empty ends item g.turns parts rest (nothing_left rest h)

  pub going_end : (parts : List A) (rest : List Token) (t : Token) (us : List Token) → Going parts rest → rest ≡ t ∷ us → ends t.kind ≡ true → all_until ends item tokens ≡ Some (parts, rest)
  going_end parts rest t us g h e = sym g.same ∙ until_end ends item g.turns parts rest t us g.enough h e

  pub going_fails : (parts : List A) (rest : List Token) (t : Token) (us : List Token) (fault : Fault) → Going parts rest → rest ≡ t ∷ us → ends t.kind ≡ false → Fails fault (item rest) → Fails fault (all_until ends item tokens)
  going_fails parts rest t us fault g h e f = fails_via fault (item rest) (all_until ends item tokens) f (λ z. sym g.same ∙ until_fails ends item g.turns parts rest t us h e z)

  pub going_on : Falls item → (parts all : List A) (rest : List Token) (t : Token) (us : List Token) (x : A) (next : List Token) → Going parts rest → rest ≡ t ∷ us → ends t.kind ≡ false → item rest ≡ Some (x, next) → all ≡ parts ++ x ∷ [] → Going all next
  going_on falls parts all rest t us x next g h e i k =
      let o : (f : ℕ) × (length next < f) × (fronted parts (until ends item g.turns rest) ≡ fronted (parts ++ x ∷ []) (until ends item f next)) = until_on ends item falls g.turns parts rest t us x next g.enough h e i in
      record {
        turns = o.0;
        enough = o.1;
        same = ap (λ ps. fronted ps (until ends item o.0 next)) k ∙ sym o.2 ∙ g.same;
      }
