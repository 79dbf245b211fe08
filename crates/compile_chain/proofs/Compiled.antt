-- From the tree of a checked program to its image.
use Rattle.std.proofs.Common.{◌≡◌, ◌≤◌, ℕ, ◌+◌, ◌*◌, arith, ap, refl, sym, ◌∙◌, List, ◌++◌, length, le_trans}
use Rattle.std.specs.Prelude.{Option, Some, None, option_map, sum_by}
use Rattle.hard_runs.specs.Observed.{Observation, SameObserved, renamed}
use Rattle.hard_words.specs.Words.{AreWords}
use Rattle.hard_runs.proofs.Observed.{same_transitive, same_renamed}
use Rattle.mips_isa.specs.declared.instr.End.{End}
use Rattle.mips_isa.specs.declared.instr.End.TheVariants as machine
use Rattle.mips_isa.specs.Runs.{observed}
use Rattle.mips_isa.specs.Image.{ImageFields, boot_state}
use Rattle.c_syntax.specs.declared.tree.Program.{Program}
use Rattle.c_meaning.specs.declared.run.EvalEnd.{EvalEnd}
use Rattle.c_meaning.specs.declared.run.EvalEnd.TheVariants as program
use Rattle.c_meaning.specs.Meaning.{CRan, run_of}
use Rattle.c_syntax.specs.Sizes.{program_nodes}
use Rattle.check_rules.specs.Limits.{Resolved, resolved_names}
use Rattle.check_rules.specs.Resolution.{SameRun}
use Rattle.mid_blocks.specs.declared.code.Mid.{Mid}
use Rattle.mid_blocks.specs.declared.code.RunEnd.{RunEnd}
use Rattle.mid_blocks.specs.declared.code.RunEnd.TheVariants as mid
use Rattle.mid_blocks.specs.Run.{block_run}
use Rattle.mid_blocks.specs.Size.{words, block_count, branch_count}
use Rattle.lower_rules.specs.Seen.{c_observed}
use Rattle.lower_rules.specs.Seen as lowered
use Rattle.hard_items.specs.declared.code.HardProgram.{HardProgram}
use Rattle.hard_items.specs.Run.{item_run}
use Rattle.hard_items.specs.Counts.{room, branches}
use Rattle.frame_plan.specs.Frames.{global_cells}
use Rattle.double_law.specs.Runs.{end_of, blocks_seen}
use Rattle.compile_rules.specs.Same.{end_seen, program_seen, Same}
use Rattle.compile_rules.specs.Hardened.{Hardened, IsWithin}
use Rattle.compile_chain.specs.Laws.{IsCompiled, CanBeHardened}

-- an end of a run of blocks, as the machine names it
abbrev name : RunEnd → End
name (mid.Exited word) = machine.Exited word
name (mid.Trapped trap) = machine.Trapped trap
name mid.Starved = machine.Starved

named_is : (o : Option RunEnd) → option_map name o ≡ end_of o
named_is None = refl
named_is (Some (mid.Exited word)) = refl
named_is (Some (mid.Trapped trap)) = refl
named_is (Some mid.Starved) = refl

-- an end of C is named the same by way of the blocks
ends_agree : (e : EvalEnd) → option_map name (lowered.end_of e) ≡ end_seen e
ends_agree (program.Exited word) = refl
ends_agree (program.Trapped trap) = refl
ends_agree program.Starved = refl
ends_agree program.Going = refl

-- a run may be replaced by one that shows the same after each number of steps, on either side
low_as : (low other high : Observation End) → ((n : ℕ) → (low n).output ≡ (other n).output) → ((n : ℕ) → (low n).end ≡ (other n).end) → SameObserved low high → SameObserved other high
low_as low other high o e h = record {
  no_more = λ n. let k = h.no_more n in (k.0, k.1 ∙ ap (λ (l : List ℕ). l ++ k.0) (o n));
  ends = λ n x q. let k = h.ends n x (e n ∙ q) in (k.0, k.1 ∙ o n);
  comes = λ n. let k = h.comes n in (k.0, (k.1.0, sym (o k.0) ∙ k.1.1));
  finishes = λ n x q. let k = h.finishes n x q in (k.0, sym (e k.0) ∙ k.1, sym (o k.0) ∙ k.2);
}

high_as : (low high other : Observation End) → ((n : ℕ) → (high n).output ≡ (other n).output) → ((n : ℕ) → (high n).end ≡ (other n).end) → SameObserved low high → SameObserved low other
high_as low high other o e h = record {
  no_more = λ n. let k = h.no_more n in (k.0, sym (o n) ∙ k.1);
  ends = λ n x q. let k = h.ends n x q in (sym (e n) ∙ k.0, sym (o n) ∙ k.1);
  comes = λ n. let k = h.comes n in (k.0, (k.1.0, k.1.1 ∙ ap (λ (l : List ℕ). l ++ k.1.0) (o n)));
  finishes = λ n x q. let k = h.finishes n x (e n ∙ q) in (k.0, k.1, k.2 ∙ o n);
}

module _ (same_run : SameRun) (p : Program) (c : Resolved) (m : Mid) (h : HardProgram) (i : ImageFields) (g : IsCompiled p c m h i) where
  -- the blocks do what the tree does
  blocks_as_tree : (input : List ℕ) → AreWords input → SameObserved (blocks_seen m input) (program_seen p input)
  blocks_as_tree input w =
      high_as (blocks_seen m input) (renamed name (c_observed (resolved_names c) c.program input)) (program_seen p input)
      (λ n. ap (λ (r : CRan). r.output) (sym (same_run p c g.shaped g.resolved input n)))
      (λ n. ends_agree (run_of (resolved_names c) c.program input n).end ∙ ap (λ (r : CRan). end_seen r.end) (sym (same_run p c g.shaped g.resolved input n)))
      (low_as (renamed name (block_run m input)) (blocks_seen m input) (renamed name (c_observed (resolved_names c) c.program input))
      (λ n. refl) (λ n. named_is (block_run m input n).end)
      (same_renamed RunEnd End name (block_run m input) (c_observed (resolved_names c) c.program input) (g.lowered.runs input w)))

  same : Same p i
  same input w =
      same_transitive End (observed (boot_state i input) None) (blocks_seen m input) (program_seen p input)
      (same_transitive End (observed (boot_state i input) None) (item_run h input) (blocks_seen m input) (g.same input w) (g.runs input w))
      (blocks_as_tree input w)

  pub is_hardened : Hardened p i × IsWithin (program_nodes c.program) i
  is_hardened = (
    record { same = same; hardened = g.hardened; placed = g.placed },
    record {
      words = le_trans g.words (le_trans g.counts.room_fits g.lowered.few_words);
      memory = small i.memory_words h.memory_words (global_cells m) m.chain_pairs g.image_memory g.memory g.lowered.valid.store_fits;
    },
  )
    where
      small : (a b s q : ℕ) → a ≡ b → b ≡ 2 * (s + q) → s + q ≤ 32768 → a ≤ 65536
      small a b s q e f k = omega arith

pub can_become : CanBeHardened
can_become c m p k l f = record {
  no_free_nop = f.no_free_nop;
  few_blocks = blocks (length p.blocks) (sum_by (λ b. branches b.items) p.blocks) (block_count m) (branch_count m) f.blocks f.branches_same l.few_blocks;
  few_words = room_small (room p) (words m) (program_nodes c.program) f.room_fits l.few_words k.few_nodes;
}
  where
    blocks : (n b s t : ℕ) → n ≡ s + 2 → b ≡ t → s + t + 2 ≤ 16000 → n + b ≤ 65535
    blocks n b s t e g h = omega arith

    room_small : (r w n : ℕ) → r ≤ w → w ≤ 60 * n → n ≤ 1048576 → r ≤ 66060288
    room_small r w n h k l = omega arith
