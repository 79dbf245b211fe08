use Rattle.std.proofs.Common.{◌≡◌, ◌<◌, ◌+◌, arith, ap, length, [], List, ℕ, get_or, ◌∙◌, sym, subst}
use Rattle.std.proofs.lemmas.List.{get_or_read}
use Rattle.sign_law.specs.Graph.{IsSucc}
use Rattle.sign_law.specs.Signs.{IsBase}
use Rattle.sign_law.specs.Search.{label_at}
use Rattle.signature_assign.specs.Edges.{first_before}
use Rattle.signature_assign.proofs.Signing.{label_there, label_led, base_is}
use Rattle.signature_assign.proofs.numbers.base.Goals as goal

pub index-requires : goal.index-requires
index-requires c = omega (arith, label_there _ _ _ _ c.requires.known c.args.w c.requires.two, c.args.known.now.labels.ok)

pub first_sign-requires-clause-led : goal.first_sign-requires-clause-led
first_sign-requires-clause-led c =
    let k = c.args.known.now in
    let e = get_or_read k.labels.items c.args.w c.index.result.now (label_there _ _ _ _ c.requires.known c.args.w c.requires.two) c.index.ensures (length k.two.items) in
    let P : ℕ → Type 0 = λ v. 0 < length (get_or c.args.known.now.predecessors.items v []) in
    subst P (sym e) (label_led _ _ _ _ c.requires.known c.args.w c.requires.two)

pub returns : goal.returns
returns c =
    let k = c.args.known.now in
    let e = get_or_read k.labels.items c.args.w c.index.result.now (label_there _ _ _ _ c.requires.known c.args.w c.requires.two) c.index.ensures (length k.two.items) in
    let P : ℕ → Type 0 = λ v. IsBase (IsSucc c.args.known.now.successors.items) c.args.w v in
    subst P (ap (λ v. first_before c.args.known.now.predecessors.items v + 1) (sym e) ∙ sym c.first_sign.ensures) (base_is _ _ _ _ c.requires.known c.args.w c.requires.two)
