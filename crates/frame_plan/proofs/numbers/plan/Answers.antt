use Rattle.std.proofs.Common.{rules, ◌+◌, ◌*◌}
use Rattle.frame_plan.specs.declared.numbers.Frames.{Frames}
use Rattle.frame_plan.specs.Frames.{IsPlan}
use Rattle.frame_plan.proofs.Room.{has_room}
use Rattle.frame_plan.proofs.numbers.plan.Goals as goal

pub returns-clause-room : goal.returns-clause-room
returns-clause-room c =
    let frames : Frames = record { globals = c.from_vec.result; frame_bytes = c.from_vec-2.result; stack_top = 268500992 + 8 * (c.global_cells.result + c.args.mid.now.chain_pairs); memory_words = 2 * (c.global_cells.result + c.args.mid.now.chain_pairs) } in
    let is : IsPlan c.args.mid.now frames = search rules in
    has_room c.args.mid.now frames is
