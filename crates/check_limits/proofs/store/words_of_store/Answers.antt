use Rattle.check_limits.proofs.StoreWords.{words_are}
use Rattle.check_limits.proofs.store.words_of_store.Goals as goal

pub returns : goal.returns
returns c =
    words_are c.args.items.now c.pairs_of_items.result c.in_ok-calls.calls.counter c.in_ok-calls.calls.pairs c.saturating_add.result c.saturating_add-2.result
    c.pairs_of_items.ensures c.in_ok-calls.ensures.counter c.in_ok-calls.ensures.pairs c.saturating_add.ensures c.saturating_add-2.ensures
