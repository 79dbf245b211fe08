-- What is still to come of a machine's run, and how much work is left.
use Rattle.std.specs.Prelude.{ℕ, suc, ◌+◌, Bool, true, false, reverse, Option, Some, None}
use Rattle.c_meaning.specs.Run.{Outcome}
use Rattle.c_meaning.specs.Meaning.{Names, CRan}
use Rattle.eval_state.specs.State.{state}
use Rattle.eval_parts.specs.declared.part.Given.{Given}
use Rattle.eval_parts.specs.declared.part.Now.{Now}
use Rattle.eval_parts.specs.declared.part.Now.TheVariants as now
use Rattle.eval_parts.specs.declared.part.Next.{Next}
use Rattle.eval_parts.specs.Parts.{start, follow}
use Rattle.eval_parts.specs.Finish.{finish, ended}
use Rattle.eval_parts.specs.Work.{now_work, next_work, call_work, stack_work}
use Rattle.c_eval.specs.Running.{Running}
use Rattle.c_eval.specs.declared.machine.Machine.{Machine}

-- the names in a program whose names are positions
abbrev pub names_at : ℕ → Names
names_at main = record { main = main; in_word = 0; out_word = 1 }

-- what the stack makes of an outcome
abbrev pub finished : Machine → Outcome Given → CRan
finished m o = ended (finish (names_at m.main) m.code m.level (reverse m.layers.items) o)

-- what is still to come where this begins
abbrev pub rest_of : Machine → Now → CRan
rest_of m n = finished m (start (names_at m.main) m.code m.level n (state m.memory))

-- where this comes next
abbrev pub rest_after : Machine → Next → CRan
rest_after m next = finished m (follow (names_at m.main) m.code m.level next (state m.memory))

abbrev pub waiting_work_of : Machine → ℕ
waiting_work_of m = stack_work m.most m.code m.level (reverse m.layers.items)

-- how much work is left at most where this begins
abbrev pub work_of : Machine → Now → ℕ
work_of m n = now_work m.most (call_work m.most m.code m.level) m.code n + waiting_work_of m

-- where this comes next
abbrev pub work_after : Machine → Next → ℕ
work_after m next = next_work m.most (call_work m.most m.code m.level) m.code next + waiting_work_of m

-- none where the run has ended
abbrev pub or_ended : Now → ℕ → ℕ
or_ended (now.Over end) work = 0
or_ended _ work = suc work

abbrev pub seen : Machine → Running
seen m = record { rest = rest_of m m.now; left = or_ended m.now (work_of m m.now) }

abbrev pub seen_unless : Bool → Machine → Option Running
seen_unless true m = None
seen_unless false m = Some (seen m)
