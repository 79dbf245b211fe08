use Rattle.std.proofs.Common.{◌<◌, ap, sym, ◌∙◌, subst, refl, List, ℕ, length}
use Rattle.std.specs.Prelude.{All}
use Rattle.lint_words.specs.WindowList.{AreWindows}
use Rattle.harden_lint.specs.Rows.{AreRows}
use Rattle.harden.specs.HardenChainSteps.{addressed}
use Rattle.harden.proofs.Images.{text_here, typed_here, pairs_here, image_made}
use Rattle.harden.proofs.items_image.image_of.Goals as goal

pub listed-requires-clause-text : goal.listed-requires-clause-text
listed-requires-clause-text c = text_here c.args.signed c.as_slice.result.now c.requires.prepared (c.as_slice.ensures ∙ c.in_ok-laid.ensures.text)

pub listed-requires-clause-typed : goal.listed-requires-clause-typed
listed-requires-clause-typed c = typed_here c.args.signed c.as_slice.result.now c.requires.prepared c.requires.guarded (c.as_slice.ensures ∙ c.in_ok-laid.ensures.text) c.words_are_typed.ensures

pub at_addresses-requires : goal.at_addresses-requires
at_addresses-requires c = subst (λ (l : List (ℕ × ℕ)). All (λ p. (p.0 < length c.as_slice-2.result.now) × (p.1 < length c.as_slice-2.result.now)) l) (sym c.as_slice-3.ensures.value)
    (pairs_here c.args.signed c.as_slice-2.result.now c.in_ok-pairs.pairs.items c.requires.prepared (c.as_slice-2.ensures ∙ c.in_ok-laid.ensures.starts) c.in_ok-pairs.ensures.aliases c.starts_are_blocks.ensures c.words_have_ways.ensures)

pub returns : goal.returns
returns c = image_made c.args.signed _ c.as_slice-2.result.now c.in_ok-pairs.pairs.items c.from_vec.result c.from_vec-2.result c.in_ok-windows.ensures.rows.0 c.in_ok-laid.laid.text c.requires.prepared c.requires.guarded refl
    c.in_ok-laid.ensures.text (c.as_slice-2.ensures ∙ c.in_ok-laid.ensures.starts) c.in_ok-pairs.ensures.aliases
    (subst (AreWindows c.in_ok-laid.laid.text) (sym c.from_vec.ensures) (subst (λ (l : List ℕ). AreWindows l c.in_ok-windows.windows.items) c.as_slice.ensures c.in_ok-windows.ensures.windows))
    (subst (λ (l : List ℕ). AreRows l 4194304 c.in_ok-windows.ensures.rows.0) c.as_slice.ensures c.in_ok-windows.ensures.rows.1)
    (c.from_vec-2.ensures ∙ (c.in_ok-aliases.ensures ∙ ap (addressed c.as_slice-2.result.now) c.as_slice-3.ensures.value))
    c.words_are_hardened.ensures c.words_run_as.ensures c.words_have_ways.ensures c.starts_are_blocks.ensures c.text_length.ensures c.windows_are_few.ensures c.no_word_is_dead.ensures c.prepared_has_starts.ensures c.smooth_words_have_no_alias.ensures c.text_turned.ensures c.text_turned_through.ensures c.reloads_are_loads.ensures
    c.words_are_typed.ensures
