-- Tests of lists in parts, and what they decide.
use Rattle.std.proofs.Common.{◌≡◌, ℕ, Bool, true, false, List, [], ◌∷◌, ◌++◌, map, Option, Some, None, refl, sym, ap, ◌∙◌}
use Rattle.std.specs.Prelude.{nat_lt, ◌&&◌}
use Rattle.std.specs.List.{list_all}
use Rattle.std.proofs.lemmas.List.Folds.{list_all-append, list_all-map}
use Rattle.mid_blocks.specs.declared.code.MidStep.{MidStep}
use Rattle.mid_blocks.specs.declared.code.MidEnd.{MidEnd}
use Rattle.mid_blocks.specs.Lines.{Step, End, one_or_none}
use Rattle.mid_blocks.specs.Tested.{is_below, line_fits}

pub and_true : (b : Bool) → (b && true) ≡ b
and_true true = refl
and_true false = refl

pub one_below : (n : ℕ) (o : Option ℕ) → list_all (λ v. nat_lt v n) (one_or_none o) ≡ is_below n o
one_below n None = refl
one_below n (Some v) = and_true (nat_lt v n)

-- the variables of a call are its arguments and its result
pub call_below : (n : ℕ) (args : List ℕ) (result : Option ℕ) → list_all (λ v. nat_lt v n) (args ++ one_or_none result) ≡ (list_all (λ v. nat_lt v n) args && is_below n result)
call_below n args result = list_all-append (λ v. nat_lt v n) args (one_or_none result) ∙ ap (λ b. list_all (λ v. nat_lt v n) args && b) (one_below n result)

-- the lines of a block are its steps and its end
pub block_below : (n : ℕ) (steps : List MidStep) (end : MidEnd) → list_all (line_fits n) (map Step steps ++ End end ∷ []) ≡ (list_all (λ step. line_fits n (Step step)) steps && line_fits n (End end))
block_below n steps end =
    list_all-append (line_fits n) (map Step steps) (End end ∷ []) ∙ ap (λ b. b && (line_fits n (End end) && true)) (list_all-map (line_fits n) Step steps)
    ∙ ap (λ b. list_all (λ step. line_fits n (Step step)) steps && b) (and_true (line_fits n (End end)))

pub block_then : (n : ℕ) (steps slice : List MidStep) (end : MidEnd) (a b : Bool) → slice ≡ steps → a ≡ list_all (λ step. line_fits n (Step step)) slice → a ≡ true → b ≡ line_fits n (End end) → b ≡ list_all (line_fits n) (map Step steps ++ End end ∷ [])
block_then n steps slice end a b s e t h =
    h ∙ ap (λ c. c && line_fits n (End end)) (sym t ∙ e ∙ ap (list_all (λ step. line_fits n (Step step))) s) ∙ sym (block_below n steps end)

pub block_else : (n : ℕ) (steps slice : List MidStep) (end : MidEnd) (a : Bool) → slice ≡ steps → a ≡ list_all (λ step. line_fits n (Step step)) slice → a ≡ false → a ≡ list_all (line_fits n) (map Step steps ++ End end ∷ [])
block_else n steps slice end a s e t =
    t ∙ ap (λ c. c && line_fits n (End end)) (sym t ∙ e ∙ ap (list_all (λ step. line_fits n (Step step))) s) ∙ sym (block_below n steps end)
