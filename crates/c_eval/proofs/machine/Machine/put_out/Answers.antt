use Rattle.std.proofs.Common.{reverse}
use Rattle.eval_parts.specs.Work.{call_work, stack_work}
use Rattle.c_eval.proofs.Entering.{puts_out, put_falls}
use Rattle.c_eval.proofs.machine.Machine.put_out.Goals as goal

pub returns-clause-rest : goal.returns-clause-rest
returns-clause-rest c =
    let m = c.args.self.now in
    rw c.first_word.ensures (puts_out c.output_stays.ensures m.main m.level m.code (reverse m.layers.items) c.args.args m.memory)

pub returns-clause-falls : goal.returns-clause-falls
returns-clause-falls c =
    let m = c.args.self.now in
    put_falls m.most (call_work m.most m.code m.level) (stack_work m.most m.code m.level (reverse m.layers.items)) m.code
