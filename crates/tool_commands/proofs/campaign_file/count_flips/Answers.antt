use Rattle.std.proofs.Common.{◌≡◌, List, ℕ, refl}
use Rattle.std.specs.Prelude.{IsTrue}
use Rattle.elf_image.specs.Layout.{fields_of}
use Rattle.fault_campaign.specs.Campaign.{IsTally}
use Rattle.fault_campaign.specs.declared.outcome.Tally.{Tally}
use Rattle.mips_isa.specs.Image.{ImageFields}
use Rattle.tool_words.specs.Commands.{Campaign}
use Rattle.tool_outcomes.specs.Files.{Held}
use Rattle.fault_campaign.specs.Tallies.{tally_lines}
use Rattle.tool_outcomes.proofs.Calls.{refused_call, done_call, run_of}
use Rattle.tool_commands.proofs.campaign_file.count_flips.Goals as goal

pub returns-in-Err : goal.returns-in-Err
returns-in-Err g c =
    let w = c.args.words.now in
    refused_call (IsTrue (g.H.Shelf.tells c.args.shelf.now)) (g.H.Shelf.held c.args.shelf.now) _ _ _ (g.O.Sink.written c.args.out.now) (g.O.Sink.written c.report.new.out) _
    (Campaign w.image.now w.input.now w.steps w.from w.to) _ c.in-Err.failure c.report.result c.in-Err.ensures.same c.in-Err.ensures.reads c.report.ensures.said c.report.ensures.silent

pub returns-in-Ok-flip_all : goal.returns-in-Ok-flip_all
returns-in-Ok-flip_all g c =
    let w = c.args.words.now in
    let old : Held = g.H.Shelf.held c.args.shelf.now in
    let is = c.in-Ok.ensures.reads.ok in
    let fields : ImageFields = fields_of c.in-Ok.loaded.image in
    let numbers : List ℕ = c.in-Ok.loaded.feed.items in
    let tally : Tally = c.in-Ok-flip_all.tally in
    done_call (IsTrue (g.H.Shelf.tells c.args.shelf.now)) old _ _ _ (g.O.Sink.written c.args.out.now) (g.O.Sink.written c.write_tally.new.out) _
    (Campaign w.image.now w.input.now w.steps w.from w.to) (tally_lines tally) c.write_tally.result c.status_of_text.result c.in-Ok.ensures.same
    (λ t. ((((is t).0.0, (is t).0.1, (fields, (is t).0.2)), (((is t).1.0, (is t).1.1, (numbers, (is t).1.2)), tt)), tt))
    (λ t. tt)
    (λ t. tt)
    (λ t. run_of old w.image.now w.input.now (λ (f : ImageFields) (n : List ℕ). (tally : Tally) × IsTally f n w.steps w.from w.to tally × (tally_lines c.in-Ok-flip_all.tally ≡ tally_lines tally))
    fields numbers (is t).0 (is t).1 (tally, c.in-Ok-flip_all.ensures, refl))
    c.write_tally.ensures.writes c.status_of_text.ensures
