-- A small leaf's variables are live across no call, and so few that the pairs are enough.
use Rattle.std.proofs.Common.{◌≡◌, ℕ, Bool, true, false, Some, None, Option, sym, ap, ◌∙◌}
use Rattle.std.specs.Prelude.{slice_get, get_or}
use Rattle.std.proofs.lemmas.Option.{get_or_from_slice_get}
use Rattle.mid_blocks.specs.declared.code.MidStep.{MidStep}
use Rattle.mid_blocks.specs.declared.code.MidEnd.{MidEnd}
use Rattle.mid_blocks.specs.declared.code.MidEnd.TheVariants.{Call}
use Rattle.mid_blocks.specs.declared.code.MidBlock.{MidBlock}
use Rattle.mid_blocks.specs.declared.code.MidFunction.{MidFunction}
use Rattle.mid_blocks.specs.Lines.{End, line_of, lines}
use Rattle.mid_blocks.specs.Valid.{is_call}
use Rattle.mid_blocks.proofs.Positions.{get_within, line_there, Spot, spot_of}
use Rattle.register_halves.specs.Assigned.{IsLocal, FewVariables}
use Rattle.mid_blocks.specs.Leaf.{IsSmallLeaf}
use Rattle.register_halves.specs.Leaf.{LeafHasNoSlots}

some_is : {A : Type 0} (x y : A) → ◌≡◌ {A = Option A} (Some x) (Some y) → x ≡ y
some_is x y e = cc

-- a line that is a call is the end of its block
end_is : (o : Option MidStep) (end call : MidEnd) → line_of o end ≡ End call → end ≡ call
end_is None end call e = cc
end_is (Some step) end call e = absurd cc

not_both : (b : Bool) → b ≡ true → b ≡ false → ⊥
not_both b h k = absurd cc

pub is_local : (f : MidFunction) → IsSmallLeaf f → (v : ℕ) → IsLocal f v
is_local f leaf v at across =
    let call : MidEnd = Call across.function across.args across.result in
    let s : Spot f at = spot_of f at (get_within (lines f) at (End call) across.is_call) in
    let here : slice_get (lines f) at ≡ Some (line_of (slice_get s.block.steps s.before) s.block.end) = ap (slice_get (lines f)) s.place ∙ line_there f s.number s.before s.block s.is s.within in
    let ends : s.block.end ≡ call = end_is (slice_get s.block.steps s.before) s.block.end call (some_is _ _ (sym here ∙ across.is_call)) in
    let none : is_call (get_or f.blocks s.number s.block).end ≡ false = leaf.calls_nothing s.number s.block (get_within f.blocks s.number s.block s.is) in
    let here_none : is_call s.block.end ≡ false = ap (λ (b : MidBlock). is_call b.end) (sym (get_or_from_slice_get f.blocks s.number s.block s.block s.is)) ∙ none in
    not_both (is_call s.block.end) (ap is_call ends) here_none

pub no_slots : FewVariables → LeafHasNoSlots
no_slots few f places valid leaf assigned v slot at = assigned.none_spilled (few f valid 8 leaf.few) v slot (is_local f leaf v) at
