use Rattle.std.proofs.Common.{◌≡◌, ℕ, Bool, List, refl, sym, subst, false}
use Rattle.c_lexer.specs.declared.meaning.Meaning.{Meaning}
use Rattle.c_lexer.specs.declared.meaning.Meaning.TheVariants.{Skipped, Is, Wrong}
use Rattle.c_lexer.specs.declared.error.LexError.TheVariants.{CommentOpen}
use Rattle.c_lexer.specs.declared.token.TokenKind.TheVariants as tokens
use Rattle.c_lexer.specs.declared.piece.Kind.TheVariants.{Blank, Digits}
use Rattle.c_lexer.specs.Names.{names_behind, spellings}
use Rattle.c_lexer.specs.Tokens.{Means, blank, line_comment, block_comment, line_marker, open_comment, sign, number, too_large, no_number}
use Rattle.c_lexer.proofs.meaning.meaning_of.Goals as goal

pub returns-in-Blank-clause-means : goal.returns-in-Blank-clause-means
returns-in-Blank-clause-means c =
    subst (λ k. Means c.args.starts_line (spellings c.args.names.now) c.args.at c.args.bytes.now k (Skipped c.line_after.result)) (sym c.in-Blank.is)
    (subst (λ s. Means c.args.starts_line (spellings c.args.names.now) c.args.at c.args.bytes.now (Blank c.in-Blank.byte) (Skipped s)) (sym c.line_after.ensures) blank)

pub returns-in-LineComment-clause-means : goal.returns-in-LineComment-clause-means
returns-in-LineComment-clause-means c = subst (λ k. Means c.args.starts_line (spellings c.args.names.now) c.args.at c.args.bytes.now k (Skipped false)) (sym c.in-LineComment.is) line_comment

pub returns-in-BlockComment-clause-means : goal.returns-in-BlockComment-clause-means
returns-in-BlockComment-clause-means c = subst (λ k. Means c.args.starts_line (spellings c.args.names.now) c.args.at c.args.bytes.now k (Skipped false)) (sym c.in-BlockComment.is) block_comment

pub returns-in-LineMarker-clause-means : goal.returns-in-LineMarker-clause-means
returns-in-LineMarker-clause-means c = subst (λ k. Means c.args.starts_line (spellings c.args.names.now) c.args.at c.args.bytes.now k (Skipped false)) (sym c.in-LineMarker.is) line_marker

pub returns-in-OpenComment-clause-means : goal.returns-in-OpenComment-clause-means
returns-in-OpenComment-clause-means c = subst (λ k. Means c.args.starts_line (spellings c.args.names.now) c.args.at c.args.bytes.now k (Wrong (CommentOpen c.args.at))) (sym c.in-OpenComment.is) open_comment

pub returns-in-Sign-clause-means : goal.returns-in-Sign-clause-means
returns-in-Sign-clause-means c = subst (λ k. Means c.args.starts_line (spellings c.args.names.now) c.args.at c.args.bytes.now k (Is (tokens.Sign c.in-Sign.sign))) (sym c.in-Sign.is) sign

digits_names : {s : Bool} {names : List (List ℕ)} {at : ℕ} {bytes : List ℕ} {m : Meaning} → Means s names at bytes Digits m → names ≡ names_behind names bytes m
digits_names (number base digits suffix c few) = refl
digits_names (too_large base digits suffix c many) = refl
digits_names (no_number none) = refl

pub returns-in-Digits-clause-names : goal.returns-in-Digits-clause-names
returns-in-Digits-clause-names c = digits_names (c.digits_meaning.ensures c.args.starts_line (spellings c.args.names.now))
