use Rattle.std.proofs.Common.{◌≡◌, ℕ, ◌<◌, List, [], ◌∷◌, ◌++◌, length, ap, ◌∙◌, arith}
use Rattle.std.specs.Prelude.{slice_set}
use Rattle.std.proofs.lemmas.List.{get_or_read}
use Rattle.alias_lister.proofs.Answering.{on_ok}
use Rattle.alias_lister.proofs.groups.add.Goals as goal

pub returns : goal.returns
returns c =
    let xs : List (List ℕ) = c.args.groups.now.items in
    let l : c.args.at < length xs = omega (arith, c.requires, c.args.groups.now.ok) in
    on_ok c.push.result (c.push.new.self ≡ c.index_mut.result.now ++ c.args.block ∷ []) _
    (λ e. ap (slice_set xs c.args.at) (e ∙ ap (λ (ys : List ℕ). ys ++ c.args.block ∷ []) (get_or_read xs c.args.at c.index_mut.result.now l c.index_mut.ensures.value []))) c.push.ensures.ok
