-- Tokens in order.
use Rattle.std.proofs.Common.{◌≡◌, ◌≤◌, ◌+◌, ℕ, List, [], ◌∷◌, arith, subst}
use Rattle.c_lexer.specs.declared.token.Token.{Token}
use Rattle.c_lexer.specs.Order.{InOrder}

order_end : (from : ℕ) (ts : List Token) → InOrder from ts → from ≤ 1048576
order_end from [] h = h
order_end from (t ∷ ts) h = omega (arith, h.0, h.1, order_end (t.at + t.length) ts h.2)

-- what is known of the first token
pub first_in_order : (from : ℕ) (ts : List Token) (t : Token) (us : List Token) → InOrder from ts → ts ≡ t ∷ us → (from ≤ t.at) × (1 ≤ t.length) × (t.at + t.length ≤ 1048576)
first_in_order from ts t us h g = let o : InOrder from (t ∷ us) = subst (InOrder from) g h in (o.0, o.1, order_end (t.at + t.length) us o.2)
