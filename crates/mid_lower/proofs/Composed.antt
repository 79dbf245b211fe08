-- What a checked program is lowered to is what the passes below ask for: the laws of lowering put together.
use Rattle.std.proofs.Common.{◌≡◌, ◌≤◌, ◌<◌, ℕ, ◌+◌, ◌*◌, arith, ap, sym, ◌∙◌, subst, Bool, true, false, List, [], ◌∷◌, ◌++◌, map, sum, length, take, le_trans, le_refl}
use Rattle.std.specs.Prelude.{if◌then◌else◌}
use Rattle.std.specs.List.{All}
use Rattle.c_syntax.specs.Sizes.{program_nodes}
use Rattle.std.proofs.lemmas.List.{map-append, length-map}
use Rattle.std.proofs.lemmas.List.Elements.{All-map}
use Rattle.std.proofs.Math.Seq.{take-append_seam}
use Rattle.hard_words.specs.Words.{AreWords}
use Rattle.c_meaning.specs.Meaning.{globals}
use Rattle.check_rules.specs.Limits.{Resolved, resolved_names}
use Rattle.mid_blocks.specs.declared.code.Mid.{Mid}
use Rattle.mid_blocks.specs.Valid.{Valid, IsUsed}
use Rattle.hard_runs.specs.Observed.{Observation, SameObserved}
use Rattle.mid_blocks.specs.declared.code.RunEnd.{RunEnd}
use Rattle.mid_blocks.specs.Run.{block_run}
use Rattle.mid_blocks.specs.Bounds.{Shallow, Proper}
use Rattle.lower_rules.specs.Seen.{c_observed}
use Rattle.mid_blocks.specs.Size.{words, block_count, branch_count}
use Rattle.lower_rules.specs.Programs.{object_words, any_recursive, low_program}
use Rattle.mid_blocks.specs.Pruned.{pruned, Closed, OnlyReached, ReachedIn}
use Rattle.mid_blocks.specs.Pruned.ReachedIn.{begin, jumped, fallen, called}
use Rattle.lower_law.specs.Laws.{RunsAsTree, StaysProper, FewWords}
use Rattle.lower_valid_law.specs.Within.{Within}
use Rattle.lower_valid_law.specs.Laws.{IsValid}
use Rattle.lower_size_law.specs.LoweringWordsLaws.{StaysWords, NumbersAreWords}
use Rattle.lower_size_law.specs.LoweringBlocksLaws.{FewBlocks}
use Rattle.lower_calls_law.specs.LoweringChainsLaws.{ShallowInRoom}
use Rattle.mid_prune.specs.Trimmed.{trimmed, TrimmedStays}
use Rattle.hard_words.proofs.Sums.{sum_cons}
use Rattle.lower_rules.specs.Lowered.{IsLowered}
use Rattle.mid_prune.specs.Trims.{Trims}
use Rattle.mid_lower.specs.Facts.{global_words, room_of, Facts}

-- the laws of lowering
pub record Laws : Type 0 where
  pub runs : RunsAsTree
  pub proper : StaysProper
  pub few_words : FewWords
  pub valid : IsValid
  pub words : StaysWords
  pub few_blocks : FewBlocks
  pub shallow : ShallowInRoom
  pub trimmed : TrimmedStays

sum-append : (ms ns : List ℕ) → sum (ms ++ ns) ≡ sum ms + sum ns
sum-append [] ns = omega arith
sum-append (m ∷ ms) ns = sum_cons m (ms ++ ns) ∙ (ap (λ k. m + k) (sum-append ms ns) ∙ (add-assoc m (sum ms) (sum ns) ∙ ap (λ k. k + sum ns) (sym (sum_cons m ms))))
  where
    add-assoc : (a b c : ℕ) → a + (b + c) ≡ a + b + c
    add-assoc a b c = omega arith

-- the counter's global is one word
abbrev counter_of : Bool → List (List ℕ)
counter_of any = if any then (0 ∷ []) ∷ [] else []

counter_words : (any : Bool) → sum (map length (counter_of any)) ≤ 1
counter_words true = omega arith
counter_words false = omega arith

-- a run may be replaced by one that shows the same after each number of steps
seen_as : (low other high : Observation RunEnd) → ((k : ℕ) → other k ≡ low k) → SameObserved low high → SameObserved other high
seen_as low other high is h = record {
  no_more = λ k. let m = h.no_more k in (m.0, m.1 ∙ ap (λ l. l ++ m.0) (sym (ap (λ r. r.output) (is k))));
  ends = λ k x q. let m = h.ends k x (sym (ap (λ r. r.end) (is k)) ∙ q) in (m.0, m.1 ∙ sym (ap (λ r. r.output) (is k)));
  comes = λ k. let m = h.comes k in (m.0, (m.1.0, ap (λ r. r.output) (is m.0) ∙ m.1.1));
  finishes = λ k x q. let m = h.finishes k x q in (m.0, ap (λ r. r.end) (is m.0) ∙ m.1, ap (λ r. r.output) (is m.0) ∙ m.2);
}

module _ (laws : Laws) (c : Resolved) (facts : Facts c) (marks : List (List Bool)) where
  abbrev n : ℕ
  n = length (globals c.program.items)

  abbrev low : ℕ → Mid
  low chain_pairs = low_program (resolved_names c) c.program chain_pairs

  abbrev kept : Mid
  kept = pruned marks (low (room_of c))

  abbrev own : List (List ℕ)
  own = map (λ g. object_words g.object) (globals c.program.items)

  abbrev counter : List (List ℕ)
  counter = counter_of (any_recursive c.program.items)

  own_words : All AreWords own
  own_words = All-map AreWords (λ g. object_words g.object) (globals c.program.items) facts.fitting.small_globals

  own_length : length own ≡ n
  own_length = length-map (globals c.program.items) (λ g. object_words g.object)

  own_first : take n (own ++ counter) ≡ own
  own_first = subst (λ k. take k (own ++ counter) ≡ own) own_length (take-append_seam own counter)

  with_counter : sum (map length (own ++ counter)) ≡ global_words c + sum (map length counter)
  with_counter = ap sum (map-append length own counter) ∙ sum-append (map length own) (map length counter)

  within_as : (chain_pairs : ℕ) → sum (map length (own ++ counter)) + chain_pairs ≤ 32768 → Within (resolved_names c) c.program chain_pairs
  within_as chain_pairs fits = record {
    one_each = facts.one_each;
    light = facts.light;
    has_room = fits;
    few_nodes = facts.checked.few_nodes;
    labelled = facts.labelled;
  }

  module _ (closed : Closed (low (room_of c)) marks) (reached : OnlyReached (low (room_of c)) marks) where
    closed_as : Closed (low 0) marks
    closed_as = record { main = closed.main; first = closed.first; leads = closed.leads }

    carry : {f block : ℕ} → ReachedIn (low (room_of c)) f block → ReachedIn (low 0) f block
    carry begin = begin
    carry (jumped f block to code end r is ends at) = jumped f block to code end (carry r) is ends at
    carry (fallen f block code end r is ends on) = fallen f block code end (carry r) is ends on
    carry (called f block function code args result r is ends) = called f block function code args result (carry r) is ends

    reached_as : OnlyReached (low 0) marks
    reached_as = record { reached = λ f block m. carry (reached.reached f block m) }

    -- the least store: it is valid but for the room that is asked for
    bare_valid : Valid (pruned marks (low 0))
    bare_valid = laws.valid (resolved_names c) c.program 0 marks facts.fitting
        (within_as 0 (omega (arith, facts.least_room))) closed_as reached_as

    shallow_kept : Shallow kept
    shallow_kept = laws.shallow (resolved_names c) c.program (room_of c) marks facts.fitting facts.one_each closed (le_refl (room_of c))

    proper_kept : Proper kept
    proper_kept = laws.proper (resolved_names c) c.program (room_of c) marks facts.fitting closed

    words_kept : NumbersAreWords kept
    words_kept = laws.words (resolved_names c) c.program (room_of c) marks facts.fitting facts.one_each facts.cases

    few_words_kept : words kept ≤ 60 * program_nodes c.program
    few_words_kept = laws.few_words (resolved_names c) c.program (room_of c) marks facts.some_body facts.labelled

    few_blocks_kept : block_count kept + branch_count kept + 2 ≤ 16000
    few_blocks_kept = le_trans (laws.few_blocks (resolved_names c) c.program (room_of c) marks facts.labelled reached) facts.cost

    -- all globals stay
    whole_lowered : (global : ℕ) → IsUsed kept global → n ≤ global → IsLowered c kept
    whole_lowered global used far = record {
      runs = λ input w. laws.runs (resolved_names c) c.program (room_of c) marks input facts.fitting closed w;
      valid = laws.valid (resolved_names c) c.program (room_of c) marks facts.fitting
          (within_as (room_of c) (omega (arith, with_counter, counter_words (any_recursive c.program.items), facts.counter_room marks global reached used far))) closed reached;
      shallow = shallow_kept;
      proper = proper_kept;
      has_words = record { constants = words_kept.constants; globals = words_kept.globals };
      few_words = few_words_kept;
      few_blocks = few_blocks_kept;
    }

    -- the counter's global is cut off, or isn't there
    cut_lowered : ((global : ℕ) → IsUsed kept global → global < n) → IsLowered c (trimmed n kept)
    cut_lowered below =
        let stays = laws.trimmed kept n below in
        record {
          runs = λ input w. seen_as (block_run kept input) (block_run (trimmed n kept) input) (c_observed (resolved_names c) c.program input) (λ k. stays.runs input k) (laws.runs (resolved_names c) c.program (room_of c) marks input facts.fitting closed w);
          valid = record {
            functions_valid = bare_valid.functions_valid;
            main_fits = bare_valid.main_fits;
            globals_exist = λ global used. subst (λ k. global < k) (sym (ap length own_first ∙ own_length)) (below global used);
            calls_fit = bare_valid.calls_fit;
            each_called = bare_valid.each_called;
            store_fits = subst (λ gs. sum (map length gs) + room_of c ≤ 32768) (sym own_first) facts.has_room;
            few_lines = bare_valid.few_lines;
          };
          shallow = stays.shallow shallow_kept;
          proper = stays.proper proper_kept;
          has_words = record { constants = words_kept.constants; globals = subst (λ gs. All AreWords gs) (sym own_first) own_words };
          few_words = few_words_kept;
          few_blocks = few_blocks_kept;
        }

    pub by_trim : (mid : Mid) → Trims kept n mid → IsLowered c mid
    by_trim mid (Trims.cut below is) = subst (IsLowered c) (sym is) (cut_lowered below)
    by_trim mid (Trims.whole global used far is) = subst (IsLowered c) (sym is) (whole_lowered global used far)
