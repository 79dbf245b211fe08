use Rattle.elf_image.specs.Layout.{fields_of}
use Rattle.run_audit.proofs.Answers.{passes_answer, refused_answer, answer_passes, answer_refused}
use Rattle.run_audit.proofs.auditing.audit.Goals as goal

pub returns-clause-passes : goal.returns-clause-passes
returns-clause-passes c = λ k made. (
  answer_passes (fields_of c.args.image.now) c.args.feed.items c.args.steps made c.judge.result c.judge.ensures.judged,
  passes_answer (fields_of c.args.image.now) c.args.feed.items c.args.steps made c.judge.result k c.judge.ensures.judged,
)

pub returns-clause-refuses : goal.returns-clause-refuses
returns-clause-refuses c = λ k error. (
  answer_refused (fields_of c.args.image.now) c.args.feed.items c.args.steps c.judge.result error k c.judge.ensures.judged,
  refused_answer c.end_stays.ensures (fields_of c.args.image.now) c.args.feed.items c.args.steps c.judge.result error k c.judge.ensures.judged,
)
