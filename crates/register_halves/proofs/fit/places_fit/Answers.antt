use Rattle.std.proofs.Common.{◌≡◌, List, Bool, true, false, length, arith, sym, subst, inl, inr}
use Rattle.std.proofs.lemmas.Bool.{cases_Bool}
use Rattle.std.proofs.lemmas.Option.{MatchOption-at_none}
use Rattle.mid_blocks.specs.Lines.{lines}
use Rattle.mid_blocks.specs.Liveness.{PlacesFit}
use Rattle.register_halves.specs.Fit.{NoneAcross, IsUnfit, AreStarts, FitWithin}
use Rattle.register_halves.proofs.Deciding.{if_ok_both, pairs_there, unfit, none_across, fit_from}
use Rattle.register_halves.proofs.fit.places_fit.Goals as goal

pub starts-requires-clause-pairs : goal.starts-requires-clause-pairs
starts-requires-clause-pairs c = pairs_there c.args.function.now c.requires c.as_slice-list.result.now (omega arith) (c.each_fits.ensures.yes c.if-not-each_fits.false)

pub fit_blocks-requires-clause-pairs : goal.fit_blocks-requires-clause-pairs
fit_blocks-requires-clause-pairs c = pairs_there c.args.function.now c.requires c.as_slice-list.result.now (omega arith) (c.each_fits.ensures.yes c.if-not-each_fits.false)

pub returns-then-not-across_fit : goal.returns-then-not-across_fit
returns-then-not-across_fit c = (
  λ t. absurd (let bad : false ≡ true = t in cc),
  λ fit.
      let none = none_across c.args.function.now c.requires c.args.places.now c.as_slice-list.result.now c.in_ok-lives.lives.extents.items c.in_ok-lives.lives.across.items c.as_slice-list.ensures c.in_ok-lives.ensures fit in
      absurd (c.across_fit.ensures.no c.if-not-across_fit.true (subst (λ (xs : List Bool). NoneAcross c.as_slice-list.result.now xs c.args.function.now.variables) (sym c.as_slice.ensures.value) none)),
)

pub returns-in-None : goal.returns-in-None
returns-in-None c = (
  λ t. absurd (let bad : false ≡ true = t in cc),
  λ fit.
      let bad = MatchOption-at_none (IsUnfit c.args.function.now c.as_slice-list.result.now) (λ rows. AreStarts c.args.function.now c.as_slice-list.result.now rows.items c.args.function.now.variables) c.in-None.is c.in_ok-starts.ensures in
      absurd (unfit c.args.function.now c.requires c.args.places.now c.as_slice-list.result.now c.as_slice-list.ensures bad fit),
)

pub returns : goal.returns
returns c =
    let none : NoneAcross c.as_slice-list.result.now c.in_ok-lives.lives.across.items c.args.function.now.variables = subst (λ (xs : List Bool). NoneAcross c.as_slice-list.result.now xs c.args.function.now.variables) c.as_slice.ensures.value (c.across_fit.ensures.yes c.if-not-across_fit.false) in
    if_ok_both c.fit_blocks.result (λ fits. fits ≡ true → FitWithin c.args.function.now c.as_slice-list.result.now 0 (length (lines c.args.function.now))) (λ fits. fits ≡ false → IsUnfit c.args.function.now c.as_slice-list.result.now)
    (λ fits. (fits ≡ true → PlacesFit c.args.function.now c.args.places.now) × (PlacesFit c.args.function.now c.args.places.now → fits ≡ true))
    (λ fits yes' no'. (
      λ t. fit_from c.args.function.now c.requires c.args.places.now c.as_slice-list.result.now c.in_ok-lives.lives.extents.items c.in_ok-lives.lives.across.items c.as_slice-list.ensures (omega arith) (c.each_fits.ensures.yes c.if-not-each_fits.false) c.in_ok-lives.ensures none (yes' t),
      λ fit. elim (cases_Bool fits) [ inl t ↦ t | inr n ↦ absurd (unfit c.args.function.now c.requires c.args.places.now c.as_slice-list.result.now c.as_slice-list.ensures (no' n) fit) ],
    ))
    c.fit_blocks.ensures.yes c.fit_blocks.ensures.no
