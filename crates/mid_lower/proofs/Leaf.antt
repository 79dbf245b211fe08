-- A program that is one small leaf stays so without its last globals.
use Rattle.std.proofs.Common.{ℕ, sym, subst}
use Rattle.mid_blocks.specs.declared.code.Mid.{Mid}
use Rattle.mid_blocks.specs.Leaf.{IsOneLeaf}
use Rattle.mid_prune.specs.Trims.{Trims}

pub stays_leaf : (mid result : Mid) (bound : ℕ) → Trims mid bound result → IsOneLeaf mid → IsOneLeaf result
stays_leaf mid result bound (Trims.cut below is) leaf = subst IsOneLeaf (sym is) (record { one = leaf.one; each = leaf.each })
stays_leaf mid result bound (Trims.whole global used far is) leaf = subst IsOneLeaf (sym is) leaf
