use Rattle.std.proofs.Common.{◌≡◌, ℕ, ◌+◌, ◌<◌, ◌++◌, ◌∷◌, [], List, Bool, false, get_or, length, arith, sym, ap, ◌∙◌, subst, length-append}
use Rattle.std.specs.List.{All}
use Rattle.register_liveness.specs.Search.{IsMarked}
use Rattle.register_liveness.specs.Met.{HasBlock, CallBefore}
use Rattle.register_liveness.proofs.Widening.{line_kept}
use Rattle.register_liveness.proofs.Living.{live_held, blocks_more, across_more, not_across_more}
use Rattle.register_liveness.proofs.extents.Lives.of.Goals as goal

pub loop-v-preserved : goal.loop-v-preserved
loop-v-preserved c =
    let kept = c.widen_blocks.ensures.widens.kept in
    let items : c.push.new.self.items ≡ c.loop-v.across.items ++ c.is_across.result ∷ [] = c.in_ok-push.ensures.items in
    let has = subst (λ (xs : List ℕ). All (λ b. HasBlock c.args.function.now c.widen_blocks.new.extents.items c.loop-v.v b) xs) c.as_slice.ensures.value c.widen_blocks.ensures.has in
    record {
      met = c.widen_blocks.ensures.widens.met;
      params = λ u l. kept u 0 (c.loop-v.invariant.params u l);
      lines_met = λ at line l there. line_kept c.args.function.now c.loop-v.extents.items c.widen_blocks.new.extents.items at line kept (c.loop-v.invariant.lines_met at line l there);
      blocks = blocks_more c.args.function.now c.loop-v.extents.items c.widen_blocks.new.extents.items c.loop-v.v c.in_ok-blocks.blocks.items kept c.in_ok-blocks.ensures has c.loop-v.invariant.blocks;
      one_each = omega (arith, ap length items, length-append c.loop-v.across.items (c.is_across.result ∷ []), c.loop-v.invariant.one_each);
      across = subst (λ (ms : List Bool). (u : ℕ) → IsMarked ms u → CallBefore c.args.function.now u) (sym items) (across_more c.args.function.now c.loop-v.across.items c.loop-v.v c.is_across.result c.loop-v.invariant.one_each c.is_across.ensures.yes c.loop-v.invariant.across);
      not_across = subst (λ (ms : List Bool). (u : ℕ) → u < c.loop-v.v + 1 → get_or ms u false ≡ false → CallBefore c.args.function.now u → ⊥) (sym items) (not_across_more c.args.function.now c.loop-v.across.items c.loop-v.v c.is_across.result c.loop-v.invariant.one_each c.is_across.ensures.no c.loop-v.invariant.not_across);
    }

pub returns : goal.returns
returns c =
    let all : c.loop-v.v ≡ c.args.function.now.variables = omega arith in
    record {
      met = c.loop-v.invariant.met;
      held = live_held c.args.function.now c.requires.valid c.loop-v.extents.items c.loop-v.invariant.params c.loop-v.invariant.lines_met (λ u b l. c.loop-v.invariant.blocks u b (omega arith));
      one_each = c.loop-v.invariant.one_each ∙ all;
      across = c.loop-v.invariant.across;
      not_across = λ u l. c.loop-v.invariant.not_across u (omega arith);
    }
