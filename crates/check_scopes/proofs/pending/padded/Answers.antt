use Rattle.check_scopes.proofs.Elements.{next_word}
use Rattle.check_scopes.proofs.pending.padded.Goals as goal

pub loop-i-preserved : goal.loop-i-preserved
loop-i-preserved c = next_word c.loop-i.i c.args.first.now c.loop-i.words.items c.push.new.self.items c.word_at.result c.loop-i.invariant c.word_at.ensures c.in_ok-push.ensures.items
