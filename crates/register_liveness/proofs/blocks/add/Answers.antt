use Rattle.std.proofs.Common.{◌≡◌, ℕ, ◌<◌, List, [], ◌∷◌, ◌++◌, length, subst, sym, ap, ◌∙◌, arith}
use Rattle.std.specs.Prelude.{slice_set}
use Rattle.std.proofs.lemmas.List.{get_or_read}
use Rattle.register_liveness.specs.Blocks.{AreAdded}
use Rattle.register_liveness.proofs.Links.{added_one}
use Rattle.register_liveness.proofs.Valid.{on_ok}
use Rattle.register_liveness.proofs.blocks.add.Goals as goal

pub returns : goal.returns
returns c =
    let xs : List (List ℕ) = c.args.lists.now.items in
    let l : c.args.at < length xs = omega (arith, c.requires, c.args.lists.now.ok) in
    on_ok c.push.result (c.push.new.self ≡ c.index_mut.result.now ++ c.args.word ∷ []) _
    (λ e. subst (λ (ys : List ℕ). AreAdded c.args.word (c.args.at ∷ []) xs (slice_set xs c.args.at ys))
    (sym (e ∙ ap (λ (ys : List ℕ). ys ++ c.args.word ∷ []) (get_or_read xs c.args.at c.index_mut.result.now l c.index_mut.ensures.value [])))
    (added_one xs c.args.at c.args.word l)) c.push.ensures.ok
