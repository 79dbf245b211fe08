use Rattle.std.proofs.Common.{refl}
use Rattle.signature_assign.proofs.Signing.{inside_all, next_of, joins, leaves_adjusts}
use Rattle.signature_assign.proofs.numbers.adjustment.Goals as goal

pub joined-requires : goal.joined-requires
joined-requires c = inside_all _ _ _ _ c.requires.known c.args.u c.index.result.now c.as_slice.result.now c.deref.result.now c.requires.within c.index.ensures c.as_slice.ensures c.deref.ensures.value

pub returns-in-Some : goal.returns-in-Some
returns-in-Some c =
    let next = next_of _ _ _ _ c.requires.known c.args.u c.index.result.now c.as_slice.result.now c.requires.within c.index.ensures c.as_slice.ensures in
    let found = joins _ _ _ _ c.requires.known c.args.u c.in-Some.w c.as_slice.result.now c.deref.result.now next c.deref.ensures.value c.in-Some.ensures.0 c.in-Some.ensures.1 in
    λ d fan. leaves_adjusts _ _ _ _ c.requires.known c.args.u c.in-Some.w c.base.result _ d fan found.0 found.1 c.base.ensures refl
