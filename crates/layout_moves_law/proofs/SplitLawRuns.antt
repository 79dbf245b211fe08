-- The split form runs the same, keeps that the streams are apart, and is smooth.
use Rattle.std.proofs.Common.{◌≤◌, ◌<◌, ℕ, List, length}
use Rattle.hard_runs.specs.Observed.{SameObserved}
use Rattle.hard_runs.specs.Stepping.{Always}
use Rattle.hard_words.specs.Words.{AreWords}
use Rattle.mips_isa.specs.declared.instr.End.TheVariants.{Reported}
use Rattle.hard_items.specs.declared.code.HardProgram.{HardProgram}
use Rattle.hard_items.specs.Run.{items, items_of, first_spot, item_run}
use Rattle.hard_items.specs.Ways.{MayFollow}
use Rattle.hard_items.specs.WellFormed.{WellFormed}
use Rattle.hard_items.specs.Forms.{Formed}
use Rattle.hard_items.specs.Rules.{LawfulAt}
use Rattle.block_relays.proofs.Keeps.{guarded_put, calm_kept, formed_kept}
use Rattle.block_relays.proofs.Roles.{relays_run}
use Rattle.layout_moves_law.proofs.Places.{may_relay_close, may_close, Put}
use Rattle.layout_moves_law.proofs.WellFormed.{well_formed}
use Rattle.layout_moves_law.proofs.WidenLawRuns.{no_number, orderly, halves_call, halves_pair}
use Rattle.layout_moves_law.proofs.Edges.{none_critical, smooth_by_ways}
use Rattle.edge_split.specs.Split.{edge_relays, smoothed}
use Rattle.layout_moves_law.specs.SplitLawLaw.{SmoothedIsSmooth, SmoothedKeepsRuns}
use Rattle.layout_moves_law.proofs.Plans.{split_puts, splits}
use Rattle.layout_moves_law.proofs.Splits.{split_put}
use Rattle.layout_moves_law.proofs.SplitLawLists.{split_lists}
use Rattle.layout_moves_law.proofs.SplitLawSmooth.{smooth}

pub split_well_formed : (p : HardProgram) → WellFormed p → ((b : ℕ) → b < length p.blocks → Formed (items_of p b)) → length p.blocks ≤ 65535 → WellFormed (smoothed p)
split_well_formed p w g few = well_formed (edge_relays p) p (smoothed p) (split_put p w g) (split_lists p w g few)

pub is_smooth : SmoothedIsSmooth
is_smooth p w g few = (smooth_by_ways (smoothed p) (split_well_formed p w g few)).1 (none_critical (MayFollow (smoothed p)) (smooth (edge_relays p) p (smoothed p) (split_put p w g) (splits p w g)))

pub keeps_runs : SmoothedKeepsRuns
keeps_runs p a few = record {
  same_runs = λ input w. (runs input w).0;
  apart = record {
    well_formed = split_well_formed p a.well_formed a.formed few;
    formed = λ n l. formed_kept (edge_relays p) p (smoothed p) put.has a.formed (λ b h. may_close (edge_relays p b) ((a.formed b h).close) (put.puts b h)) n l;
    halves = halves_pair (edge_relays p) p (smoothed p) put.has a.halves;
    halves_call = halves_call (edge_relays p) p (smoothed p) a put.has;
    lawful = λ input w. (runs input w).1;
  };
  never_reports = λ h input w n code at e. h input w n code at ((runs input w).0.ends n (Reported code at) e).0;
  guarded = λ g. guarded_put (edge_relays p) p (smoothed p) put.has g (λ b l. may_close (edge_relays p b) ((g b l).formed.close) (split_puts p b a.well_formed ((g b l).formed)));
  calm = calm_kept (edge_relays p) p (smoothed p) put.has;
}
  where
    put : Put (edge_relays p) p (smoothed p)
    put = split_put p a.well_formed a.formed

    runs : (input : List ℕ) → AreWords input → SameObserved (item_run (smoothed p) input) (item_run p input) × Always (items (smoothed p)) (first_spot (smoothed p) input) (LawfulAt (smoothed p))
    runs input w = relays_run (edge_relays p) p (smoothed p) input put.has a.formed (λ b l. may_relay_close (edge_relays p b) ((a.formed b l).close) (put.puts b l)) (no_number (edge_relays p) p a put.puts) (orderly p a.well_formed a.formed) (a.lawful input w)
