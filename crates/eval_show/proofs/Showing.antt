-- What is shown of a run turn by turn is the beginning of what is shown of the whole.
use Rattle.std.proofs.Common.{◌≡◌, ℕ, ◌<◌, List, [], ◌∷◌, ◌++◌, append_assoc, append-nil, refl, sym, ap, ◌∙◌, subst}
use Rattle.std.specs.Prelude.{Option, Some, None, Ok, Err}
use Rattle.std.proofs.lemmas.List.Concat.{flat_map-append}
use Rattle.c_eval.specs.Running.{Running, Answers, RestIs}
use Rattle.c_eval.specs.declared.turn.Turn.TheVariants as turn
use Rattle.c_meaning.specs.Meaning.{CRan}
use Rattle.c_meaning.specs.declared.run.EvalEnd.{EvalEnd}
use Rattle.fault_replay.specs.Show.{word_line, word_lines, end_line}
use Rattle.fault_replay.proofs.Parts.{part_front, part_behind}
use Rattle.hard_shelf.specs.Outside.{AppendsPart}
use Rattle.eval_show.specs.declared.show.ShowError.{ShowError}
use Rattle.eval_show.specs.declared.show.ShowError.TheVariants.{Sink, OutOfMemory}
use Rattle.eval_show.specs.EvalLines.{end_of, shown}
use Rattle.eval_show.specs.Turns.{rest, left, Goes, IsTurnShown}

pub goes_first : (tells : Type 0) (before : List ℕ) (first : Option Running) → Goes tells before before first first
goes_first tells before first = record { words = []; output = refl; end = refl; written = λ t. sym (append-nil before) }

pub goes_on : (tells now_tells : Type 0) (before mid now : List ℕ) (first then present : Option Running)
    → (tells → now_tells) → Goes tells before mid first then → Goes now_tells mid now then present → Goes tells before now first present
goes_on tells now_tells before mid now first then present up a b = record {
  words = a.words ++ b.words;
  output = a.output ∙ (ap (λ (l : List ℕ). a.words ++ l) b.output ∙ sym (append_assoc a.words b.words (rest present).output));
  end = a.end ∙ b.end;
  written = λ t. b.written (up t) ∙ (ap (λ (l : List ℕ). l ++ word_lines b.words) (a.written t)
      ∙ (append_assoc before (word_lines a.words) (word_lines b.words) ∙ ap (λ (l : List ℕ). before ++ l) (sym (flat_map-append word_line a.words b.words))));
}

-- ---- turns

pub worked : (tells : Type 0) (before : List ℕ) (first present : Option Running) → Answers (Ok turn.Working) first present
    → Goes tells before before first present × (left present < left first)
worked tells before None present is = absurd is
worked tells before (Some a) None is = absurd is
worked tells before (Some a) (Some b) is =
    (record { words = []; output = ap (λ (r : CRan). r.output) is.0; end = ap (λ (r : CRan). r.end) is.0; written = λ t. sym (append-nil before) }, is.1)

pub put : (tells : Type 0) (before now line : List ℕ) (word : ℕ) (first present : Option Running) → Answers (Ok (turn.Put word)) first present
    → line ≡ word_line word → (tells → now ≡ before ++ line) → Goes tells before now first present × (left present < left first)
put tells before now line word None present is e wrote = absurd is
put tells before now line word (Some a) None is e wrote = absurd is
put tells before now line word (Some a) (Some b) is e wrote = (
  record {
    words = word ∷ [];
    output = ap (λ (r : CRan). r.output) is.0;
    end = ap (λ (r : CRan). r.end) is.0;
    written = λ t. wrote t ∙ ap (λ (l : List ℕ). before ++ l) (e ∙ sym (append-nil (word_line word)));
  },
  is.1,
)

pub stopped : (tells : Type 0) (before now line : List ℕ) (word : ℕ) (first present : Option Running) → Answers (Ok (turn.Put word)) first present
    → line ≡ word_line word → (tells → AppendsPart before now line) → tells → AppendsPart before now (word_lines (rest first).output)
stopped tells before now line word None present is e part t = absurd is
stopped tells before now line word (Some a) None is e part t = absurd is
stopped tells before now line word (Some a) (Some b) is e part t =
    part_front before now (word_line word) (word_lines a.rest.output) (word_lines b.rest.output) (ap (λ (r : CRan). word_lines r.output) is.0)
    (subst (λ (l : List ℕ). AppendsPart before now l) e (part t))

pub over : (end : EvalEnd) (first present : Option Running) → Answers (Ok (turn.Ended end)) first present → rest first ≡ record { output = []; end = end }
over end None present is = absurd is
over end (Some a) None is = absurd is
over end (Some a) (Some b) is = is.0

-- ---- runs

-- all words were shown
pub all_words : (tells : Type 0) (before mid now : List ℕ) (first present : Option Running) (end : EvalEnd) → Goes tells before mid first present
    → rest present ≡ record { output = []; end = end } → (tells → now ≡ mid) → tells → now ≡ before ++ word_lines (rest first).output
all_words tells before mid now first present end goes is same t =
    let output : (rest first).output ≡ goes.words = goes.output ∙ (ap (λ (r : CRan). goes.words ++ r.output) is ∙ append-nil goes.words) in
    same t ∙ (goes.written t ∙ ap (λ (l : List ℕ). before ++ word_lines l) (sym output))

pub same_end : (tells : Type 0) (before mid : List ℕ) (first present : Option Running) (end : EvalEnd) → Goes tells before mid first present
    → rest present ≡ record { output = []; end = end } → (rest first).end ≡ end
same_end tells before mid first present end goes is = goes.end ∙ ap (λ (r : CRan). r.end) is

-- some words were shown, and a part of the next line
pub some_words : (tells now_tells : Type 0) (before mid now : List ℕ) (first present : Option Running) → (tells → now_tells) → Goes tells before mid first present
    → (now_tells → AppendsPart mid now (word_lines (rest present).output)) → tells → AppendsPart before now (word_lines (rest first).output)
some_words tells now_tells before mid now first present up goes part t =
    let whole : word_lines (rest first).output ≡ word_lines goes.words ++ word_lines (rest present).output =
    ap word_lines goes.output ∙ flat_map-append word_line goes.words (rest present).output in
    subst (λ (l : List ℕ). AppendsPart before now l) (sym whole) (part_behind before mid now (word_lines goes.words) (word_lines (rest present).output) (goes.written t) (part (up t)))

-- no more was written: a part of no bytes
pub nothing : (before now text : List ℕ) → now ≡ before → AppendsPart before now text
nothing before now text same = (0, same ∙ sym (append-nil before))

-- a turn that was not shown whole
pub turn_part : (tells : Type 0) (before now : List ℕ) (rose : Type 0) (first present : Option Running) (error : ShowError)
    → IsTurnShown tells before now rose first present (Err error) → tells → AppendsPart before now (word_lines (rest first).output)
turn_part tells before now rose first present Sink is t = is.1 t
turn_part tells before now rose first present OutOfMemory is t = nothing before now (word_lines (rest first).output) (is t)

-- the end behind all words, in part
pub end_part : (tells now_tells : Type 0) (before mid now : List ℕ) (ran : CRan) (end : EvalEnd) → (tells → now_tells) → ran.end ≡ end → (tells → mid ≡ before ++ word_lines ran.output)
    → (now_tells → AppendsPart mid now (end_line (end_of end))) → tells → AppendsPart before now (shown ran)
end_part tells now_tells before mid now ran end up same wrote part t =
    subst (λ (e : EvalEnd). AppendsPart before now (word_lines ran.output ++ end_line (end_of e))) (sym same)
    (part_behind before mid now (word_lines ran.output) (end_line (end_of end)) (wrote t) (part (up t)))

pub words_part : (before now : List ℕ) (ran : CRan) → AppendsPart before now (word_lines ran.output) → AppendsPart before now (shown ran)
words_part before now ran part = part_front before now (word_lines ran.output) (shown ran) (end_line (end_of ran.end)) refl part

pub rest_is : (ran : CRan) (running : Option Running) → RestIs ran running → rest running ≡ ran
rest_is ran None is = absurd is
rest_is ran (Some r) is = is

pub goes_none : (tells : Type 0) (before now : List ℕ) (rose : Type 0) (first present : Option Running) (work : Option EvalEnd) → work ≡ None
    → IsTurnShown tells before now rose first present (Ok work) → Goes tells before now first present
goes_none tells before now rose first present None e is = is.0
goes_none tells before now rose first present (Some end) e is = absurd (cc)
