use Rattle.std.proofs.Common.{◌≡◌, Result, Err, subst, ap}
use Rattle.c_lexer.specs.Names.{spellings}
use Rattle.c_lexer.specs.Pieces.{HasNoPiece}
use Rattle.c_lexer.specs.Tokens.{Tokens}
use Rattle.c_lexer.proofs.Lexed.{lexed_end, lexed_bad, read_fault, read_next}
use Rattle.c_lexer.proofs.OneResult.{are_placed}
use Rattle.c_lexer.proofs.lexer.tokens.Goals as goal

err_is : {T E : Type 0} {x y : E} → ◌≡◌ {A = Result T E} (Err x) (Err y) → x ≡ y
err_is h = cc

pub returns-clause-ok : goal.returns-clause-ok
returns-clause-ok c = lexed_end c.args.bytes.now c.loop-at.starts_line (spellings c.loop-at.names) c.loop-at.at c.loop-at.tokens.items c.loop-at.invariant.0 c.loop-at-test.false

pub returns-clause-placed : goal.returns-clause-placed
returns-clause-placed c = are_placed c.args.bytes.now c.loop-at.tokens.items (lexed_end c.args.bytes.now c.loop-at.starts_line (spellings c.loop-at.names) c.loop-at.at c.loop-at.tokens.items c.loop-at.invariant.0 c.loop-at-test.false)

pub returns-in_default-clause-fault : goal.returns-in_default-clause-fault
returns-in_default-clause-fault c = λ e is other.
    subst (λ x. Tokens c.args.bytes.now (Err x)) (err_is is) (lexed_bad c.args.bytes.now c.loop-at.starts_line (spellings c.loop-at.names) c.loop-at.at c.loop-at.tokens.items c.loop-at.invariant.0 c.loop-at-test.true
    (subst (HasNoPiece c.loop-at.starts_line) c.rest_of-rest.ensures c.in_default.ensures.none))

pub returns-in-Err-clause-fault : goal.returns-in-Err-clause-fault
returns-in-Err-clause-fault c = λ e is other.
    read_fault c.args.bytes.now c.loop-at.starts_line (spellings c.loop-at.names) c.loop-at.at c.loop-at.tokens.items c.rest_of-rest.result.now c.front_of-spelling.result.now c.in-Some.piece.size c.in-Some.piece.kind c.in_ok-meaning.meaning c.loop-at.invariant.0
    (record { rest_is = c.rest_of-rest.ensures; bytes_are = c.front_of-spelling.ensures; longest = c.in-Some.ensures.found; means = c.in_ok-meaning.ensures.means })
    e (c.in-Err.ensures.fault e (ap Err (err_is is)) other)

pub loop-at-preserved : goal.loop-at-preserved
loop-at-preserved c = (
  read_next c.args.bytes.now c.loop-at.starts_line (spellings c.loop-at.names) c.loop-at.at c.loop-at.tokens.items c.rest_of-rest.result.now c.front_of-spelling.result.now c.in-Some.piece.size c.in-Some.piece.kind c.in_ok-meaning.meaning c.loop-at.invariant.0
      (record { rest_is = c.rest_of-rest.ensures; bytes_are = c.front_of-spelling.ensures; longest = c.in-Some.ensures.found; means = c.in_ok-meaning.ensures.means })
      c.in-Ok.then (spellings c.meaning_of.new.names) c.add_piece.new.tokens.items c.in-Ok.ensures.ok c.in_ok-meaning.ensures.names,
  c.in_ok-meaning.ensures.still_numbered,
)
