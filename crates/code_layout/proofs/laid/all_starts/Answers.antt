use Rattle.std.proofs.Common.{◌≡◌, ℕ, List, subst}
use Rattle.std.specs.Prelude.{IfOk}
use Rattle.code_layout.proofs.Puts.{starts_bare, starts_marked}
use Rattle.code_layout.proofs.laid.all_starts.Goals as goal

pub block_starts-requires : goal.block_starts-requires
block_starts-requires c = (starts_bare c.requires c.as_slice-blocks.ensures c.len.ensures c.if-len-eq0.true).few

pub block_starts-requires-else-len-eq0 : goal.block_starts-requires-else-len-eq0
block_starts-requires-else-len-eq0 c = (starts_marked c.requires c.as_slice-blocks.ensures c.len.ensures c.if-len-eq0.false).few

pub returns-then-len-eq0 : goal.returns-then-len-eq0
returns-then-len-eq0 c = subst (λ (z : List ℕ). IfOk c.block_starts.result (λ starts. starts.items ≡ z)) (starts_bare c.requires c.as_slice-blocks.ensures c.len.ensures c.if-len-eq0.true).same c.block_starts.ensures

pub returns-else-len-eq0 : goal.returns-else-len-eq0
returns-else-len-eq0 c = subst (λ (z : List ℕ). IfOk c.block_starts-else-len-eq0.result (λ starts. starts.items ≡ z)) (starts_marked c.requires c.as_slice-blocks.ensures c.len.ensures c.if-len-eq0.false).same c.block_starts-else-len-eq0.ensures
