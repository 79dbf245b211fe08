use Rattle.std.proofs.Common.{reverse}
use Rattle.eval_parts.specs.Work.{call_work, stack_work, next_work}
use Rattle.c_eval.specs.Rest.{work_of}
use Rattle.c_eval.proofs.Entering.{word_falls}
use Rattle.c_eval.proofs.machine.Machine.enter.Goals as goal

pub returns-then-name-eq0-clause-falls : goal.returns-then-name-eq0-clause-falls
returns-then-name-eq0-clause-falls c =
    let m = c.args.self.now in
    let call = call_work m.most m.code m.level in
    word_falls m.most call (stack_work m.most m.code m.level (reverse m.layers.items)) (next_work m.most call m.code c.next_word-next.result) (work_of c.go_on.new.self c.go_on.new.self.now) m.code (c.next_word-next.ensures.falls m.most call m.code) c.in_ok-go_on.ensures.work
