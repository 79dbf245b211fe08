use Rattle.std.proofs.Common.{◌≡◌, ◌+◌, ◌≤◌, suc, arith, sym, ap, ◌∙◌, refl, ℕ, Some, List, [], ◌∷◌, ◌++◌, length, map, max}
use Rattle.c_syntax.specs.declared.tree.Expr.{Expr, Comma}
use Rattle.c_syntax.specs.Sizes.{expression_depth as depth, greatest}
use Rattle.c_grammar.specs.Expressions.{comma, assign, cond, binary}
use Rattle.c_grammar.specs.Operators.{joined}
use Rattle.c_grammar.specs.ReadExpressions.{read, chain, arguments, commas}
use Rattle.c_grammar.proofs.Parts.{depth_joined, depth_comma, depth_positive}
use Rattle.c_grammar.proofs.Steps.{read_step, level_step, chain_none, chain_deep, chain_fails, chain_turn, commas_none, commas_deep, commas_fails, commas_turn, with_front, shorter, arguments_on, arguments_end, arguments_none, greatest_more, fails_via}
use Rattle.c_expressions.proofs.expressions.+read.Goals as goal

plus_one : (n : ℕ) → 1 + n ≡ suc n
plus_one n = omega arith

pub read_comma-returns-clause-gives : goal.read_comma-returns-clause-gives
read_comma-returns-clause-gives t c = rw (read_step c.args.limit comma c.args.tokens.now (omega arith)) c.comma_layer.ensures.gives

pub read_assign-returns-clause-gives : goal.read_assign-returns-clause-gives
read_assign-returns-clause-gives t c = rw (read_step c.args.limit assign c.args.tokens.now (omega arith)) c.assign_layer.ensures.gives

pub read_cond-returns-clause-gives : goal.read_cond-returns-clause-gives
read_cond-returns-clause-gives t c = rw (read_step c.args.limit cond c.args.tokens.now (omega arith)) c.cond_layer.ensures.gives

pub read_part-returns-clause-gives : goal.read_part-returns-clause-gives
read_part-returns-clause-gives t c = rw (read_step c.args.limit (binary c.args.k) c.args.tokens.now (omega arith)) c.read_level.ensures.gives

pub read_level-returns-clause-gives : goal.read_level-returns-clause-gives
read_level-returns-clause-gives t c = rw (level_step (read c.args.limit) c.args.limit c.args.k c.args.tokens.now (omega arith), c.in_ok-left.ensures.gives) c.read_chain.ensures.gives

pub read_chain-loop-token-init : goal.read_chain-loop-token-init
read_chain-loop-token-init t c = (suc c.args.limit, refl, omega (arith, c.requires, depth_positive c.args.left), c.requires.deep.0, c.requires.deep.1)

pub read_commas-loop-token-init : goal.read_commas-loop-token-init
read_commas-loop-token-init t c = (suc c.args.limit, refl, omega (arith, c.requires, depth_positive c.args.left), c.requires.deep.0, c.requires.deep.1)

pub read_chain-returns-then-depth-limit-clause-gives : goal.read_chain-returns-then-depth-limit-clause-gives
read_chain-returns-then-depth-limit-clause-gives t c = sym c.loop-token.invariant.1 ∙ chain_deep (read c.args.limit) c.args.limit c.args.k c.loop-token.invariant.0 c.loop-token.left c.loop-token.rest.now c.in-Some.token.now c.in-Some.behind.now c.in-Some-infix_of_level.op c.in-Some.ensures.cases.0 (omega (arith, c.loop-token.invariant)) (sym c.infix_of_level.ensures ∙ c.in-Some-infix_of_level.is) (omega (arith, c.loop-token.invariant, c.if-depth-limit.true))

pub read_chain-loop-token-preserved : goal.read_chain-loop-token-preserved
read_chain-loop-token-preserved t c = let next : (g : ℕ) × (c.loop-token.invariant.0 ≡ suc g) × (chain (read c.args.limit) c.args.limit c.args.k c.loop-token.invariant.0 c.loop-token.left c.loop-token.rest.now ≡ chain (read c.args.limit) c.args.limit c.args.k g (joined c.in-Some-infix_of_level.op c.loop-token.left c.in-Ok.right.value c.in-Some.token.now.at) c.in-Ok.right.rest.now) = chain_turn (read c.args.limit) c.args.limit c.args.k c.loop-token.invariant.0 c.loop-token.left c.loop-token.rest.now c.in-Some.token.now c.in-Some.behind.now c.in-Some-infix_of_level.op c.in-Ok.right.value c.in-Ok.right.rest.now c.in-Some.ensures.cases.0 (omega (arith, c.loop-token.invariant)) (sym c.infix_of_level.ensures ∙ c.in-Some-infix_of_level.is) (omega (arith, c.loop-token.invariant, c.if-depth-limit.false)) c.in-Ok.ensures.gives in (next.0, ap (λ e. chain (read c.args.limit) c.args.limit c.args.k next.0 e c.in-Ok.right.rest.now) c.in_ok-left.ensures ∙ sym next.2 ∙ c.loop-token.invariant.1, omega (arith, c.loop-token.invariant, next.1, c.max-depth.ensures), omega (arith, c.loop-token.invariant, c.in-Ok.ensures.deep, c.max-depth.ensures, depth_joined c.in-Some-infix_of_level.op c.loop-token.left c.in-Ok.right.value c.in-Some.token.now.at, ap depth c.in_ok-left.ensures), omega (arith, c.loop-token.invariant, c.in-Ok.ensures.deep, c.max-depth.ensures, c.if-depth-limit.false))

pub read_chain-returns-in_default-infix_of_level-clause-gives : goal.read_chain-returns-in_default-infix_of_level-clause-gives
read_chain-returns-in_default-infix_of_level-clause-gives t c = sym c.loop-token.invariant.1 ∙ chain_none (read c.args.limit) c.args.limit c.args.k c.loop-token.invariant.0 c.loop-token.left c.loop-token.rest.now c.in-Some.token.now c.in-Some.behind.now c.in-Some.ensures.cases.0 (omega (arith, c.loop-token.invariant)) (sym c.infix_of_level.ensures ∙ c.in_default-infix_of_level.is)

pub read_chain-returns-in-Err-clause-gives : goal.read_chain-returns-in-Err-clause-gives
read_chain-returns-in-Err-clause-gives t c = fails_via c.in-Err.fault (read c.args.limit (binary c.args.k) c.in-Some.behind.now) (chain (read c.args.limit) c.args.limit c.args.k (suc c.args.limit) c.args.left c.args.tokens.now) c.in-Err.ensures.gives (λ z. sym c.loop-token.invariant.1 ∙ chain_fails (read c.args.limit) c.args.limit c.args.k c.loop-token.invariant.0 c.loop-token.left c.loop-token.rest.now c.in-Some.token.now c.in-Some.behind.now c.in-Some-infix_of_level.op c.in-Some.ensures.cases.0 (omega (arith, c.loop-token.invariant)) (sym c.infix_of_level.ensures ∙ c.in-Some-infix_of_level.is) (omega (arith, c.loop-token.invariant, c.if-depth-limit.false)) z)

pub read_commas-returns-then-not-is_comma-clause-gives : goal.read_commas-returns-then-not-is_comma-clause-gives
read_commas-returns-then-not-is_comma-clause-gives t c = sym c.loop-token.invariant.1 ∙ commas_none (read c.args.limit) c.args.limit c.loop-token.invariant.0 c.loop-token.left c.loop-token.rest.now c.in-Some.token.now c.in-Some.behind.now c.in-Some.ensures.cases.0 (omega (arith, c.loop-token.invariant)) (sym c.is_comma.ensures ∙ c.if-not-is_comma.true)

pub read_commas-returns-then-depth-limit-clause-gives : goal.read_commas-returns-then-depth-limit-clause-gives
read_commas-returns-then-depth-limit-clause-gives t c = sym c.loop-token.invariant.1 ∙ commas_deep (read c.args.limit) c.args.limit c.loop-token.invariant.0 c.loop-token.left c.loop-token.rest.now c.in-Some.token.now c.in-Some.behind.now c.in-Some.ensures.cases.0 (omega (arith, c.loop-token.invariant)) (sym c.is_comma.ensures ∙ c.if-not-is_comma.false) (omega (arith, c.loop-token.invariant, c.if-depth-limit.true))

pub read_commas-returns-in-Err-clause-gives : goal.read_commas-returns-in-Err-clause-gives
read_commas-returns-in-Err-clause-gives t c = fails_via c.in-Err.fault (read c.args.limit assign c.in-Some.behind.now) (commas (read c.args.limit) c.args.limit (suc c.args.limit) c.args.left c.args.tokens.now) c.in-Err.ensures.gives (λ z. sym c.loop-token.invariant.1 ∙ commas_fails (read c.args.limit) c.args.limit c.loop-token.invariant.0 c.loop-token.left c.loop-token.rest.now c.in-Some.token.now c.in-Some.behind.now c.in-Some.ensures.cases.0 (omega (arith, c.loop-token.invariant)) (sym c.is_comma.ensures ∙ c.if-not-is_comma.false) (omega (arith, c.loop-token.invariant, c.if-depth-limit.false)) z)

pub read_commas-loop-token-preserved : goal.read_commas-loop-token-preserved
read_commas-loop-token-preserved t c = let next : (g : ℕ) × (c.loop-token.invariant.0 ≡ suc g) × (commas (read c.args.limit) c.args.limit c.loop-token.invariant.0 c.loop-token.left c.loop-token.rest.now ≡ commas (read c.args.limit) c.args.limit g (Comma c.loop-token.left c.in-Ok.right.value c.in-Some.token.now.at) c.in-Ok.right.rest.now) = commas_turn (read c.args.limit) c.args.limit c.loop-token.invariant.0 c.loop-token.left c.loop-token.rest.now c.in-Some.token.now c.in-Some.behind.now c.in-Ok.right.value c.in-Ok.right.rest.now c.in-Some.ensures.cases.0 (omega (arith, c.loop-token.invariant)) (sym c.is_comma.ensures ∙ c.if-not-is_comma.false) (omega (arith, c.loop-token.invariant, c.if-depth-limit.false)) c.in-Ok.ensures.gives in (next.0, ap (λ e. commas (read c.args.limit) c.args.limit next.0 e c.in-Ok.right.rest.now) c.in_ok-left.ensures ∙ sym next.2 ∙ c.loop-token.invariant.1, omega (arith, c.loop-token.invariant, next.1, c.max-depth.ensures), omega (arith, c.loop-token.invariant, c.in-Ok.ensures.deep, c.max-depth.ensures, depth_comma c.loop-token.left c.in-Ok.right.value c.in-Some.token.now.at, ap depth c.in_ok-left.ensures), omega (arith, c.loop-token.invariant, c.in-Ok.ensures.deep, c.max-depth.ensures, c.if-depth-limit.false))

more_deep : (es all : List Expr) (e : Expr) (d m r : ℕ) → all ≡ es ++ e ∷ [] → d ≡ greatest (map depth es) → m ≡ depth e → r ≡ max d m → r ≡ greatest (map depth all)
more_deep es all e d m r h a b c = rw (h, greatest_more es e, ← a, ← b) c

pushed : (args all : List Expr) (x e : Expr) → all ≡ args ++ x ∷ [] → x ≡ e → all ≡ args ++ e ∷ []
pushed args all x e h g = h ∙ ap (λ z. args ++ z ∷ []) g

pub read_arguments-returns-then-is_closing-clause-gives : goal.read_arguments-returns-then-is_closing-clause-gives
read_arguments-returns-then-is_closing-clause-gives t c = sym c.loop-arg.invariant.2 ∙ arguments_end c.args.limit c.loop-arg.invariant.0 c.loop-arg.args c.loop-arg.rest.now c.in-Ok.arg.rest.now c.in-Ok.arg.value c.in-Some.token.now c.in-Some.next.now c.loop-arg.invariant.1 c.in-Ok.ensures.gives c.in-Some.ensures.cases.0 (sym c.is_closing.ensures ∙ c.if-is_closing.true) ∙ ap (λ es. Some (es, c.in-Some.next.now)) (sym (pushed c.loop-arg.args c.push.new.self c.into_inner.result c.in-Ok.arg.value c.in_ok-push.ensures.ok c.into_inner.ensures))

pub read_arguments-returns-then-is_closing-clause-deep : goal.read_arguments-returns-then-is_closing-clause-deep
read_arguments-returns-then-is_closing-clause-deep t c = (more_deep c.loop-arg.args c.push.new.self c.in-Ok.arg.value c.loop-arg.deepest c.in-Ok.arg.depth c.max-deepest.result (pushed c.loop-arg.args c.push.new.self c.into_inner.result c.in-Ok.arg.value c.in_ok-push.ensures.ok c.into_inner.ensures) c.loop-arg.invariant.3 c.in-Ok.ensures.deep.0 c.max-deepest.ensures, omega (arith, c.max-deepest.ensures, c.loop-arg.invariant, c.in-Ok.ensures.deep))

pub read_arguments-returns-then-not-is_comma-clause-gives : goal.read_arguments-returns-then-not-is_comma-clause-gives
read_arguments-returns-then-not-is_comma-clause-gives t c = sym c.loop-arg.invariant.2 ∙ arguments_none c.args.limit c.loop-arg.invariant.0 c.loop-arg.args c.loop-arg.rest.now c.in-Ok.arg.rest.now c.in-Ok.arg.value c.in-Some.token.now c.in-Some.next.now c.loop-arg.invariant.1 c.in-Ok.ensures.gives c.in-Some.ensures.cases.0 (sym c.is_closing.ensures ∙ c.if-is_closing.false) (sym c.is_comma.ensures ∙ c.if-not-is_comma.true)

pub read_arguments-loop-arg-smaller : goal.read_arguments-loop-arg-smaller
read_arguments-loop-arg-smaller t c = omega (arith, shorter c.args.limit assign c.loop-arg.rest.now c.in-Ok.arg.value c.in-Ok.arg.rest.now c.in-Ok.ensures.gives, c.in-Some.ensures.cases.1)

pub read_arguments-loop-arg-preserved : goal.read_arguments-loop-arg-preserved
read_arguments-loop-arg-preserved t c = let all : c.push.new.self ≡ c.loop-arg.args ++ c.in-Ok.arg.value ∷ [] = pushed c.loop-arg.args c.push.new.self c.into_inner.result c.in-Ok.arg.value c.in_ok-push.ensures.ok c.into_inner.ensures in let next : (g : ℕ) × (length c.in-Some.next.now ≤ g) × (with_front c.loop-arg.args (arguments (read c.args.limit) c.loop-arg.invariant.0 c.loop-arg.rest.now) ≡ with_front (c.loop-arg.args ++ c.in-Ok.arg.value ∷ []) (arguments (read c.args.limit) g c.in-Some.next.now)) = arguments_on c.args.limit c.loop-arg.invariant.0 c.loop-arg.args c.loop-arg.rest.now c.in-Ok.arg.rest.now c.in-Ok.arg.value c.in-Some.token.now c.in-Some.next.now c.loop-arg.invariant.1 c.in-Ok.ensures.gives c.in-Some.ensures.cases.0 (sym c.is_comma.ensures ∙ c.if-not-is_comma.false) in (next.0, next.1, ap (λ es. with_front es (arguments (read c.args.limit) next.0 c.in-Some.next.now)) all ∙ sym next.2 ∙ c.loop-arg.invariant.2, more_deep c.loop-arg.args c.push.new.self c.in-Ok.arg.value c.loop-arg.deepest c.in-Ok.arg.depth c.max-deepest.result all c.loop-arg.invariant.3 c.in-Ok.ensures.deep.0 c.max-deepest.ensures, omega (arith, c.max-deepest.ensures, c.loop-arg.invariant, c.in-Ok.ensures.deep))
