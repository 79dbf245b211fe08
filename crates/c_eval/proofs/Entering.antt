-- Calls of `in_word`, of `out_word` and of a function of the program.
use Rattle.std.proofs.Common.{◌≡◌, ℕ, ◌+◌, ◌<◌, ◌≤◌, false, List, [], ◌∷◌, refl, ap, ◌∙◌, arith}
use Rattle.std.proofs.lemmas.Bool.{ne_eqb}
use Rattle.c_meaning.specs.declared.run.Value.{Value}
use Rattle.c_syntax.specs.declared.tree.TopItem.{TopItem}
use Rattle.c_meaning.specs.Operators.{value}
use Rattle.c_meaning.specs.Run.{Outcome, Gives, Ends, pure}
use Rattle.c_syntax.specs.Graph.{functions}
use Rattle.c_meaning.specs.Meaning.{first_word}
use Rattle.c_meaning.specs.Laws.{with_words}
use Rattle.eval_state.specs.State.{Held, state}
use Rattle.eval_parts.specs.declared.part.Given.{Given}
use Rattle.eval_parts.specs.declared.part.Given.TheVariants as given
use Rattle.eval_parts.specs.declared.part.Now.TheVariants as now
use Rattle.eval_parts.specs.declared.part.Layer.{Layer}
use Rattle.eval_parts.specs.Parts.{start, input_word}
use Rattle.eval_parts.specs.Finish.{finish, ended, OutputStays}
use Rattle.eval_parts.specs.Work.{bodies_work}
use Rattle.eval_parts.specs.Steps.{calling}
use Rattle.eval_parts.proofs.Lessening.{some_bodies_of}
use Rattle.c_eval.specs.Running.{put_first}
use Rattle.c_eval.specs.Rest.{names_at}

ended_words : (word : ℕ) (o : Outcome Given) → ended (with_words (word ∷ []) o) ≡ put_first word (ended o)
ended_words word (Gives g s) = refl
ended_words word (Ends end output) = refl

-- `out_word` puts out its argument
pub puts_out : OutputStays → (main level : ℕ) (items : List TopItem) (layers : List Layer) (args : List Value) (h : Held) → ended (finish (names_at main) items level layers (start (names_at main) items level (now.Enter 1 args) (state h))) ≡ put_first (first_word args) (ended (finish (names_at main) items level layers (pure (given.Value (value 0 false)) (state h))))
puts_out stays main level items layers args h =
    ap ended (stays (names_at main) items level layers (first_word args ∷ []) (Gives (given.Value (value 0 false)) (state h)))
    ∙ ended_words (first_word args) (finish (names_at main) items level layers (Gives (given.Value (value 0 false)) (state h)))

pub put_falls : (most call waiting : ℕ) (items : List TopItem) → 1 + waiting < bodies_work most call (functions items) + waiting
put_falls most call waiting items = let some : 4 ≤ bodies_work most call (functions items) = some_bodies_of most call items in omega arith

pub word_falls : (most call waiting next now : ℕ) (items : List TopItem) → next < 2 → now ≡ next + waiting → now < bodies_work most call (functions items) + waiting
word_falls most call waiting next now items less is = let some : 4 ≤ bodies_work most call (functions items) = some_bodies_of most call items in omega arith

pub enters_word : (main level name : ℕ) (items : List TopItem) (args : List Value) (h : Held) → name ≡ 0 → start (names_at main) items level (now.Enter name args) (state h) ≡ input_word (names_at main) items level (state h)
enters_word main level name items args h is = rw is refl

pub enters : (main level name : ℕ) (items : List TopItem) (args : List Value) (h : Held) → (name ≡ 0 → ⊥) → (name ≡ 1 → ⊥) → start (names_at main) items level (now.Enter name args) (state h) ≡ calling items name args (names_at main) level (state h)
enters main level name items args h in_word out_word = rw (ne_eqb name 0 in_word, ne_eqb name 1 out_word) refl
