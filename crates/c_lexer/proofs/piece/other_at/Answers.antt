use Rattle.std.proofs.Common.{◌≡◌, ◌≤◌, ℕ, Bool, true, false, List, length, slice_index, Option, Some, None, IfSome, IfNone, refl, sym, ◌∙◌, subst}
use Rattle.std.proofs.lemmas.Bool.{false≢true}
use Rattle.c_lexer.specs.declared.byte.Class.TheVariants.{Other}
use Rattle.c_lexer.specs.declared.piece.Kind.TheVariants as kinds
use Rattle.c_lexer.specs.declared.piece.Piece.{Piece}
use Rattle.c_lexer.specs.declared.token.Punct.{Punct}
use Rattle.c_lexer.specs.Bytes.{class_of}
use Rattle.c_lexer.specs.Fronts.{IsFront, IsLineByte, IsLongestSign, MarksLine, SpellsSign}
use Rattle.c_lexer.specs.Pieces.{HasNoPiece, IsLongest}
use Rattle.c_lexer.proofs.Longest.{longest_line, longest_marker, longest_sign, no_piece, IsLineOpen, IsSignOnly}
use Rattle.c_lexer.proofs.piece.other_at.Goals as goal
use Rattle.c_lexer.proofs.piece.other_at.Goals.{else-starts_line-via-then-starts_line+else-marks_line, else-starts_line-via-else-starts_line}

abbrev BeginsWith : List ℕ → ℕ → ℕ → Type 0
BeginsWith text first second = (2 ≤ length text) × (slice_index text 0 ≡ first) × (slice_index text 1 ≡ second)

line_opens : (text : List ℕ) → BeginsWith text 47 47 → IsLineOpen text
line_opens text h = record { two = h.0; first = h.1; second = h.2 }

marker_at : (s : Bool) (text : List ℕ) (size : ℕ) → s ≡ true → (digit : ℕ) × MarksLine text digit → IsFront IsLineByte text size → IsLongest s text size kinds.LineMarker
marker_at s text size e m front = subst (λ b. IsLongest b text size kinds.LineMarker) (sym e) (longest_marker text size m.0 m.1 front)

sign_only : (s : Bool) (text : List ℕ) → class_of (slice_index text 0) ≡ Other → (BeginsWith text 47 47 → false ≡ true) → (BeginsWith text 47 42 → false ≡ true) → (s ≡ true → (digit : ℕ) → MarksLine text digit → ⊥) → IsSignOnly s text
sign_only s text other line block marker = record {
  other = other;
  no_line = λ h. false≢true (line (h.two, h.first, h.second));
  no_block = λ h. false≢true (block (h.two, h.first, h.second));
  no_marker = marker;
}

found_of : (s : Bool) (text : List ℕ) (r : Option Piece) → IsSignOnly s text → IfSome r (λ p. IsLongestSign text p.size p.kind) → IfSome r (λ p. IsLongest s text p.size p.kind)
found_of s text None o h = tt
found_of s text (Some p) o h = longest_sign s text p.size p.kind o h

none_of : (s : Bool) (text : List ℕ) (r : Option Piece) → IsSignOnly s text → IfNone r ((size : ℕ) (sign : Punct) → SpellsSign text size sign → ⊥) → IfNone r (HasNoPiece s text)
none_of s text None o h = no_piece s text o h
none_of s text (Some p) o h = tt

pub returns-then-begins_with-clause-found : goal.returns-then-begins_with-clause-found
returns-then-begins_with-clause-found c = longest_line c.args.starts_line c.args.text.now c.line_size.result (line_opens c.args.text.now (c.if-begins_with.ensures.0 refl)) c.line_size.ensures

pub returns-then-begins_with-2-clause-found : goal.returns-then-begins_with-2-clause-found
returns-then-begins_with-2-clause-found c = c.comment_at.ensures c.args.starts_line

pub returns-then-marks_line-clause-found : goal.returns-then-marks_line-clause-found
returns-then-marks_line-clause-found c = marker_at c.args.starts_line c.args.text.now c.line_size-then-marks_line.result c.if-starts_line.true (c.if-marks_line.ensures.0 refl) c.line_size-then-marks_line.ensures

pub returns-else-starts_line-clause-found : goal.returns-else-starts_line-clause-found
returns-else-starts_line-clause-found c =
    let only : IsSignOnly c.args.starts_line c.args.text.now = sign_only c.args.starts_line c.args.text.now c.requires.other c.if-begins_with.ensures.1 c.if-begins_with-2.ensures.1
    (elim c.else-starts_line.branch [
      | else-starts_line-via-then-starts_line+else-marks_line w ↦ (λ e digit m. false≢true (w.if-marks_line.ensures.1 (digit, m)))
      | else-starts_line-via-else-starts_line w ↦ (λ e digit m. false≢true (sym w.if-starts_line.false ∙ e))
    ]) in
    found_of c.args.starts_line c.args.text.now c.sign_at.result only c.sign_at.ensures.found

pub returns-else-starts_line-clause-none : goal.returns-else-starts_line-clause-none
returns-else-starts_line-clause-none c =
    let only : IsSignOnly c.args.starts_line c.args.text.now = sign_only c.args.starts_line c.args.text.now c.requires.other c.if-begins_with.ensures.1 c.if-begins_with-2.ensures.1
    (elim c.else-starts_line.branch [
      | else-starts_line-via-then-starts_line+else-marks_line w ↦ (λ e digit m. false≢true (w.if-marks_line.ensures.1 (digit, m)))
      | else-starts_line-via-else-starts_line w ↦ (λ e digit m. false≢true (sym w.if-starts_line.false ∙ e))
    ]) in
    none_of c.args.starts_line c.args.text.now c.sign_at.result only c.sign_at.ensures.none
