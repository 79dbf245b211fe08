use Rattle.std.proofs.Common.{◌≡◌, ◌<◌, ◌-◌, ℕ, List, arith, length, sym, subst, ◌∙◌}
use Rattle.std.specs.Prelude.{Contains, slice_index}
use Rattle.std.proofs.lemmas.Bool.{false≢true}
use Rattle.mips_machine.specs.View.{state_of}
use Rattle.fault_campaign.specs.Campaign.{ComesTo}
use Rattle.fault_campaign.proofs.Trying.{flip_tried, read_is, window_tried}
use Rattle.fault_campaign.proofs.flips.try_flip.Goals as goal

pub returns-then-is_window-clause-outcome : goal.returns-then-is_window-clause-outcome
returns-then-is_window-clause-outcome c =
    let there : c.args.n - c.args.trial.now.from < length c.args.trial.now.clean.addresses.items = omega (arith, c.requires.ready.clean.each, c.requires.from, c.requires.to) in
    let at : c.index-address.result.now ≡ slice_index c.args.trial.now.clean.addresses.items (c.args.n - c.args.trial.now.from) = read_is c.args.trial.now.clean.addresses.items (c.args.n - c.args.trial.now.from) c.index-address.result.now there c.index-address.ensures in
    window_tried c.args.trial.now (state_of c.args.machine.now) c.requires.ready c.args.n c.args.reg c.index-address.result.now c.requires.from c.requires.to at
    (subst (λ (ws : List (ℕ × ℕ)). Contains ws (c.index-address.result.now, c.args.reg)) c.as_slice.ensures (c.is_window.ensures.0 c.if-is_window.true))

pub returns-clause-outcome : goal.returns-clause-outcome
returns-clause-outcome c =
    let there : c.args.n - c.args.trial.now.from < length c.args.trial.now.clean.addresses.items = omega (arith, c.requires.ready.clean.each, c.requires.from, c.requires.to) in
    let at : c.index-address.result.now ≡ slice_index c.args.trial.now.clean.addresses.items (c.args.n - c.args.trial.now.from) = read_is c.args.trial.now.clean.addresses.items (c.args.n - c.args.trial.now.from) c.index-address.result.now there c.index-address.ensures in
    flip_tried c.args.trial.now (state_of c.args.machine.now) c.requires.ready c.args.n c.args.reg c.index-address.result.now c.requires.from c.requires.to at
    (λ h. false≢true (sym c.if-is_window.false ∙ c.is_window.ensures.1 (subst (λ (ws : List (ℕ × ℕ)). Contains ws (c.index-address.result.now, c.args.reg)) (sym c.as_slice.ensures) h)))
    (state_of c.restart.new.machine) c.run_flipped.new.out.items c.run_flipped.new.machine.end c.compare.result c.in_ok-restart.ensures.state c.in_ok-run_flipped.ensures.output c.in_ok-run_flipped.ensures.end
    (subst (λ (x : List ℕ). ComesTo (record { output = x; end = c.run_flipped.new.machine.end }) (record { output = c.args.trial.now.clean.output.items; end = c.args.trial.now.clean.end }) c.compare.result) c.as_slice-2.ensures.value
    (subst (λ (y : List ℕ). ComesTo (record { output = c.as_slice-2.result.now; end = c.run_flipped.new.machine.end }) (record { output = y; end = c.args.trial.now.clean.end }) c.compare.result) c.as_slice-3.ensures.value c.compare.ensures))
