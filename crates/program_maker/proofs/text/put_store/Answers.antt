use Rattle.std.proofs.lemmas.Result.{on_ok_weaker}
use Rattle.program_maker.specs.Text.{store_line}
use Rattle.program_maker.proofs.Growing.{grown}
use Rattle.program_maker.proofs.text.put_store.Goals as goal

pub returns : goal.returns
unfolding store_line
returns c = on_ok_weaker c.put-2.result (λ last. grown _ _ _ _ _ c.in_ok-put.ensures last) c.put-2.ensures
