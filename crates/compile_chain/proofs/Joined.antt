-- From the tree of a checked program to an image of its blocks.
use Rattle.std.proofs.Common.{◌≡◌, ◌≤◌, ℕ, ◌+◌, ◌*◌, arith, ap, refl, sym, ◌∙◌, List, ◌++◌}
use Rattle.std.specs.Prelude.{Option, Some, None, option_map}
use Rattle.hard_runs.specs.Observed.{Observation, SameObserved, renamed}
use Rattle.hard_runs.proofs.Observed.{same_transitive, same_renamed}
use Rattle.mips_isa.specs.declared.instr.End.{End}
use Rattle.mips_isa.specs.declared.instr.End.TheVariants as machine
use Rattle.mips_isa.specs.Runs.{observed}
use Rattle.mips_isa.specs.Image.{boot_state}
use Rattle.c_meaning.specs.declared.run.EvalEnd.{EvalEnd}
use Rattle.c_meaning.specs.declared.run.EvalEnd.TheVariants as program
use Rattle.c_meaning.specs.Meaning.{CRan, run_of}
use Rattle.c_syntax.specs.Sizes.{program_nodes}
use Rattle.check_rules.specs.Limits.{resolved_names}
use Rattle.check_rules.specs.Resolution.{SameRun}
use Rattle.mid_blocks.specs.declared.code.RunEnd.{RunEnd}
use Rattle.mid_blocks.specs.declared.code.RunEnd.TheVariants as mid
use Rattle.mid_blocks.specs.Run.{block_run}
use Rattle.mid_blocks.specs.Size.{words}
use Rattle.lower_rules.specs.Seen.{c_observed}
use Rattle.lower_rules.specs.Seen as lowered
use Rattle.frame_plan.specs.Frames.{global_cells}
use Rattle.double_law.specs.Runs.{end_of, blocks_seen}
use Rattle.compile_rules.specs.Same.{end_seen, program_seen}
use Rattle.compile_chain.specs.Law.{LoweredRuns, LoweredIsHardened, LoweredIsSmall}

-- an end of a run of blocks, as the machine names it
abbrev name : RunEnd → End
name (mid.Exited word) = machine.Exited word
name (mid.Trapped trap) = machine.Trapped trap
name mid.Starved = machine.Starved

named_is : (o : Option RunEnd) → option_map name o ≡ end_of o
named_is None = refl
named_is (Some (mid.Exited word)) = refl
named_is (Some (mid.Trapped trap)) = refl
named_is (Some mid.Starved) = refl

-- an end of C is named the same by way of the blocks
ends_agree : (e : EvalEnd) → option_map name (lowered.end_of e) ≡ end_seen e
ends_agree (program.Exited word) = refl
ends_agree (program.Trapped trap) = refl
ends_agree program.Starved = refl
ends_agree program.Going = refl

-- a run may be replaced by one that shows the same after each number of steps, on either side
low_as : (low other high : Observation End) → ((n : ℕ) → (low n).output ≡ (other n).output) → ((n : ℕ) → (low n).end ≡ (other n).end) → SameObserved low high → SameObserved other high
low_as low other high o e h = record {
  no_more = λ n. let k = h.no_more n in (k.0, k.1 ∙ ap (λ (l : List ℕ). l ++ k.0) (o n));
  ends = λ n x q. let k = h.ends n x (e n ∙ q) in (k.0, k.1 ∙ o n);
  comes = λ n. let k = h.comes n in (k.0, (k.1.0, sym (o k.0) ∙ k.1.1));
  finishes = λ n x q. let k = h.finishes n x q in (k.0, sym (e k.0) ∙ k.1, sym (o k.0) ∙ k.2);
}

high_as : (low high other : Observation End) → ((n : ℕ) → (high n).output ≡ (other n).output) → ((n : ℕ) → (high n).end ≡ (other n).end) → SameObserved low high → SameObserved low other
high_as low high other o e h = record {
  no_more = λ n. let k = h.no_more n in (k.0, sym (o n) ∙ k.1);
  ends = λ n x q. let k = h.ends n x q in (sym (e n) ∙ k.0, sym (o n) ∙ k.1);
  comes = λ n. let k = h.comes n in (k.0, (k.1.0, k.1.1 ∙ ap (λ (l : List ℕ). l ++ k.1.0) (o n)));
  finishes = λ n x q. let k = h.finishes n x (e n ∙ q) in (k.0, k.1, k.2 ∙ o n);
}

pub lowered_runs : SameRun → LoweredRuns
lowered_runs same_run p c m s e g input w =
    high_as (blocks_seen m input) (renamed name (c_observed (resolved_names c) c.program input)) (program_seen p input)
    (λ n. ap (λ (r : CRan). r.output) (sym (same_run p c s e input n)))
    (λ n. ends_agree (run_of (resolved_names c) c.program input n).end ∙ ap (λ (r : CRan). end_seen r.end) (sym (same_run p c s e input n)))
    (low_as (renamed name (block_run m input)) (blocks_seen m input) (renamed name (c_observed (resolved_names c) c.program input))
    (λ n. refl) (λ n. named_is (block_run m input n).end)
    (same_renamed RunEnd End name (block_run m input) (c_observed (resolved_names c) c.program input) (g.runs input w)))

pub is_hardened : LoweredRuns → LoweredIsHardened
is_hardened runs p c m i s e g k = (
  record {
    same = λ input w. same_transitive End (observed (boot_state i input) None) (blocks_seen m input) (program_seen p input) (k.same input w) (runs p c m s e g input w);
    hardened = k.hardened;
    placed = k.placed;
  },
  small i.memory_words (global_cells m) m.chain_pairs k.memory g.valid.store_fits,
)
  where
    small : (a s q : ℕ) → a ≡ 2 * (s + q) → s + q ≤ 32768 → a ≤ 65536
    small a s q e h = omega arith

pub is_small : LoweredIsSmall
is_small c m k g = few (words m) (program_nodes c.program) g.few_words k.few_nodes
  where
    few : (w n : ℕ) → w ≤ 60 * n → n ≤ 1048576 → w ≤ 62914560
    few w n h k = omega arith
