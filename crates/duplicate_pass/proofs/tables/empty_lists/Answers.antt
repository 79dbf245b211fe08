use Rattle.std.proofs.Common.{ℕ, List, [], ◌∷◌, ◌++◌, ap, ◌∙◌, replicate}
use Rattle.std.proofs.lemmas.List.{replicate_more}
use Rattle.duplicate_pass.proofs.tables.empty_lists.Goals as goal

pub empty-preserved : goal.empty-preserved
empty-preserved c =
    let empty : List ℕ = [] in
    c.in_ok-push.ensures.items ∙ ap (λ (xs : List (List ℕ)). xs ++ c.new.result ∷ []) c.empty.invariant
    ∙ ap (λ (x : List ℕ). replicate c.empty.counter empty ++ x ∷ []) c.new.ensures ∙ replicate_more {X = List ℕ} c.empty.counter empty
