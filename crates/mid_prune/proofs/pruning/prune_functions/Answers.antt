use Rattle.std.proofs.Common.{◌∷◌, [], sym, ◌∙◌, arith, refl, length-append}
use Rattle.mid_prune.proofs.Keeping.{functions_more, marked_none}
use Rattle.mid_prune.proofs.pruning.prune_functions.Goals as goal

pub loop-code-init : goal.loop-code-init
loop-code-init c = record {
  kept = c.new-kept.ensures.items ∙ sym (marked_none c.args.callees.now);
  at = refl;
}

pub loop-code-preserved : goal.loop-code-preserved
loop-code-preserved c = record {
  kept = functions_more c.args.marks.now c.args.callees.now c.loop-code.yielded c.in-Some.code c.loop-code.at c.loop-code.kept.items c.keep_function.new.kept.items c.loop-code.invariant.kept c.loop-code.invariant.at c.in_ok-keep_function.ensures;
  at = omega (arith, c.loop-code.invariant.at, length-append c.loop-code.yielded (c.in-Some.code ∷ []));
}
