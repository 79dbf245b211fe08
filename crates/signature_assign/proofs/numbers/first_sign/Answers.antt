use Rattle.std.proofs.Common.{◌≡◌, arith, ap, length, [], List, ℕ, get_or, ◌∙◌, ◌<◌}
use Rattle.std.specs.Prelude.{slice_index}
use Rattle.std.proofs.lemmas.List.{get_or_read}
use Rattle.signature_assign.specs.Edges.{first_before}
use Rattle.signature_assign.proofs.Signing.{list_there, first_small}
use Rattle.signature_assign.proofs.numbers.first_sign.Goals as goal

first : (lists : List (List ℕ)) (w : ℕ) (x : List ℕ) (v : ℕ) → w < length lists → x ≡ get_or lists w x → v ≡ slice_index x 0 → v ≡ first_before lists w
first lists w x v l e h = h ∙ ap (λ (xs : List ℕ). slice_index xs 0) (get_or_read lists w x l e [])

pub index-requires : goal.index-requires
index-requires c = omega (arith, list_there _ _ _ _ c.requires.known c.args.w c.requires.led, c.args.known.now.predecessors.ok)

pub get-first-requires : goal.get-first-requires
get-first-requires c = omega (arith, c.requires.led, ap length (get_or_read c.args.known.now.predecessors.items c.args.w c.index.result.now (list_there _ _ _ _ c.requires.known c.args.w c.requires.led) c.index.ensures []))

pub overflow_add-result : goal.overflow_add-result
overflow_add-result c =
    let e = first c.args.known.now.predecessors.items c.args.w c.index.result.now c.get-first.result (list_there _ _ _ _ c.requires.known c.args.w c.requires.led) c.index.ensures c.get-first.ensures in
    omega (arith, e, first_small _ _ _ _ c.requires.known c.args.w c.requires.led)

pub overflow_cast-result : goal.overflow_cast-result
overflow_cast-result c =
    let e = first c.args.known.now.predecessors.items c.args.w c.index.result.now c.get-first.result (list_there _ _ _ _ c.requires.known c.args.w c.requires.led) c.index.ensures c.get-first.ensures in
    omega (arith, e, first_small _ _ _ _ c.requires.known c.args.w c.requires.led)

pub returns : goal.returns
returns c =
    let e = first c.args.known.now.predecessors.items c.args.w c.index.result.now c.get-first.result (list_there _ _ _ _ c.requires.known c.args.w c.requires.led) c.index.ensures c.get-first.ensures in
    omega (arith, e)
