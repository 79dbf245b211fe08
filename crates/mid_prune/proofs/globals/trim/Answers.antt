use Rattle.std.proofs.Common.{◌≡◌, ◌∙◌, true, false, ap, sym, subst, List, ℕ, take}
use Rattle.mid_blocks.specs.declared.code.Mid.{Mid}
use Rattle.mid_prune.specs.Trims.{functions_pass, Trims}
use Rattle.mid_prune.proofs.Used.{one_beyond, none_beyond}
use Rattle.mid_prune.proofs.globals.trim.Goals as goal

pub returns-then-functions_pass : goal.returns-then-functions_pass
returns-then-functions_pass c = one_beyond c.args.bound c.args.mid (subst (λ fs. functions_pass c.args.bound fs ≡ true) c.as_slice.ensures (sym c.functions_pass.ensures ∙ c.if-functions_pass.true))

pub returns : goal.returns
returns c = Trims.cut (none_beyond c.args.bound c.args.mid (subst (λ fs. functions_pass c.args.bound fs ≡ false) c.as_slice.ensures (sym c.if-functions_pass.ensures)))
    (ap (λ gs. with_globals c.args.mid gs) (c.from_vec.ensures ∙ c.truncate.ensures.items ∙ ap (take c.args.bound) c.into_vec-globals.ensures))
  where
    with_globals : Mid → List (List ℕ) → Mid
    with_globals mid gs = record mid { globals = gs }
