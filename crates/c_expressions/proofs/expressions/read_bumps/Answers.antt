use Rattle.std.proofs.Common.{◌≡◌, ℕ, suc, refl, sym, ap, ◌∙◌, arith, false}
use Rattle.c_syntax.specs.Sizes.{expression_depth as depth}
use Rattle.c_syntax.specs.declared.tree.Expr.{Bump}
use Rattle.c_grammar.specs.ReadExpressions.{bumps}
use Rattle.c_grammar.proofs.Parts.{depth_bump, depth_positive}
use Rattle.c_grammar.proofs.Steps.{bumps_deep, bumps_turn}
use Rattle.c_expressions.proofs.expressions.read_bumps.Goals as goal

pub loop-token-init : goal.loop-token-init
loop-token-init c = (suc c.args.limit, refl, omega (arith, c.requires, depth_positive c.args.place), c.requires.deep.0, c.requires.deep.1)

pub returns-then-depth-limit-clause-gives : goal.returns-then-depth-limit-clause-gives
returns-then-depth-limit-clause-gives c = sym c.loop-token.invariant.1 ∙ bumps_deep c.args.limit c.loop-token.invariant.0 c.loop-token.place c.loop-token.rest.now c.in-Some.token.now c.in-Some.behind.now c.in-Some-postfix_sign.up c.in-Some.ensures.cases.0 (omega (arith, c.loop-token.invariant)) (sym c.postfix_sign.ensures ∙ c.in-Some-postfix_sign.is) (omega (arith, c.loop-token.invariant, c.if-depth-limit.true))

pub loop-token-preserved : goal.loop-token-preserved
loop-token-preserved c = let next : (g : ℕ) × (c.loop-token.invariant.0 ≡ suc g) × (bumps c.args.limit c.loop-token.invariant.0 c.loop-token.place c.loop-token.rest.now ≡ bumps c.args.limit g (Bump c.in-Some-postfix_sign.up false c.loop-token.place c.in-Some.token.now.at) c.in-Some.behind.now) = bumps_turn c.args.limit c.loop-token.invariant.0 c.loop-token.place c.loop-token.rest.now c.in-Some.token.now c.in-Some.behind.now c.in-Some-postfix_sign.up c.in-Some.ensures.cases.0 (omega (arith, c.loop-token.invariant)) (sym c.postfix_sign.ensures ∙ c.in-Some-postfix_sign.is) (omega (arith, c.loop-token.invariant, c.if-depth-limit.false)) in (next.0, ap (λ e. bumps c.args.limit next.0 e c.in-Some.behind.now) c.in_ok-place.ensures ∙ sym next.2 ∙ c.loop-token.invariant.1, omega (arith, c.loop-token.invariant, next.1), omega (arith, c.loop-token.invariant, depth_bump c.in-Some-postfix_sign.up false c.loop-token.place c.in-Some.token.now.at, ap depth c.in_ok-place.ensures), omega (arith, c.if-depth-limit.false))
