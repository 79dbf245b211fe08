-- The law of the pass, from the premises of the pass alone.
use Rattle.std.proofs.Common.{◌≡◌, ◌≤◌, ◌<◌, ℕ, zero, suc, ◌+◌, ◌-◌, ◌^◌, arith, ap, refl, sym, ◌∙◌, subst, List, [], ◌∷◌, ◌++◌, length, get_or, map, inl, inr, flat_map, sum, le_trans}
use Rattle.std.specs.Prelude.{Option, Some, None, slice_get, slice_index, slice_index_or, All}
use Rattle.std.proofs.lemmas.List.{get_or_append_left, get_or-append_right}
use Rattle.mid_blocks.specs.declared.code.MidFunction.{MidFunction}
use Rattle.mid_blocks.specs.declared.code.MidBlock.{MidBlock}
use Rattle.mid_blocks.specs.declared.code.Mid.{Mid}
use Rattle.mid_blocks.specs.declared.places.Places.{Places}
use Rattle.mid_blocks.specs.Liveness.{PlacesFit}
use Rattle.mid_blocks.specs.Valid.{ValidFunction}
use Rattle.hard_words.specs.Words.{AreWords}
use Rattle.mid_blocks.specs.Bounds.{pairs_of}
use Rattle.hard_items.specs.declared.code.HardProgram.{HardProgram}
use Rattle.frame_plan.specs.Frames.{global_cells, global_length}
use Rattle.double_law.specs.Law.{Doubles, DoubledRuns}
use Rattle.double_law.proofs.Few.{few_blocks}
use Rattle.hard_words.proofs.Sums.{sum_cons}
use Rattle.double_law.proofs.Flows.{flow}
use Rattle.double_law.proofs.Wiring.{wired, all_at, there}
use Rattle.double_law.proofs.Blocks.{all_bare}
use Rattle.double_law.proofs.Whole.{Given, same_run, always_good, never_reports}

none_is : {A : Type 0} (x : A) → ◌≡◌ {A = Option A} None (Some x) → ⊥
none_is x e = cc

some_same : {A : Type 0} (x y : A) → ◌≡◌ {A = Option A} (Some x) (Some y) → x ≡ y
some_same {A} x y e = ap (λ (o : Option A). elim o as (λ z. A) [ Some v ↦ v | None ↦ x ]) e

-- one length of a list of lists
length_le : (xs : List (List ℕ)) (g : ℕ) → length (slice_index_or xs g []) ≤ sum (map length xs)
length_le [] g = Rattle.std.proofs.Common.zero-le
length_le (x ∷ xs) zero = subst (λ (n : ℕ). length x ≤ n) (sym (sum_cons (length x) (map length xs))) (left (length x) (sum (map length xs)))
  where
    left : (m n : ℕ) → m ≤ m + n
    left m n = omega arith
length_le (x ∷ xs) (suc g) = subst (λ (n : ℕ). length (slice_index_or xs g []) ≤ n) (sym (sum_cons (length x) (map length xs))) (le_trans (length_le xs g) (right (length x) (sum (map length xs))))
  where
    right : (m n : ℕ) → n ≤ m + n
    right m n = omega arith

-- the words of a list of lists are words
flat_words : (xs : List (List ℕ)) → All AreWords xs → (c : ℕ) → get_or {A = ℕ} (flat_map (λ words. words) xs) c 0 < 2 ^ 32
flat_words [] h c = omega arith
flat_words (x ∷ xs) h c = elim (Rattle.std.proofs.lemmas.Bool.cases_lt c (length x)) as (λ z. get_or (x ++ flat_map (λ words. words) xs) c 0 < 2 ^ 32) [
  | inl k ↦ subst (λ (n : ℕ). n < 2 ^ 32) (sym (get_or_append_left x (flat_map (λ words. words) xs) 0 c k)) (h 0 [] (Rattle.std.proofs.Common.zero-lt-suc (length xs)) c 0 k)
  | inr k ↦ subst (λ (n : ℕ). n < 2 ^ 32) (sym (get_or-append_right x (flat_map (λ words. words) xs) (length x) c 0 refl k)) (flat_words xs (λ n d l. h (suc n) d (Rattle.std.proofs.Common.suc-le-suc l)) (c - length x))
]

no_words : AreWords []
no_words k d h = absurd (Rattle.std.proofs.Common.not-suc-le-zero h)

-- a word of the input, also past its end
input_word : (xs : List ℕ) → AreWords xs → (k : ℕ) → slice_index xs k < 2 ^ 32
input_word [] h k = omega arith
input_word (x ∷ xs) h zero = h 0 0 (Rattle.std.proofs.Common.zero-lt-suc (length xs))
input_word (x ∷ xs) h (suc k) = input_word xs (λ n d l. h (suc n) d (Rattle.std.proofs.Common.suc-le-suc l)) k

given : (mid : Mid) (places : List Places) (p : HardProgram) (input : List ℕ) → Doubles mid places p → AreWords input → Given mid places p input
given mid places p input d words =
    let m : (main : MidFunction) × (slice_get mid.functions 0 ≡ Some main) × (main.params ≡ 0) = d.valid.main_fits in
    let vm : ValidFunction m.0 = all_at ValidFunction mid.functions 0 m.0 d.valid.functions_valid m.1 in
    let a : (at : Places) × (slice_get places 0 ≡ Some at) × PlacesFit m.0 at = d.fit 0 m.0 m.1 in
    let blk : (x : MidBlock) × (slice_get m.0.blocks 0 ≡ Some x) = there m.0.blocks 0 vm.has_block in
    let first : m.0.pairs ≤ mid.chain_pairs = subst (λ (n : ℕ). n ≤ mid.chain_pairs) (sum_cons (pairs_of (slice_get mid.functions 0)) [] ∙ (Rattle.std.proofs.Common.add-zero (pairs_of (slice_get mid.functions 0)) ∙ ap (λ (o : Option MidFunction). pairs_of o) m.1)) (d.shallow [] 0 no_words) in
    record {
      emitted = d.emitted;
      setting = record {
        flows = λ n f at e g. flow f at (all_at ValidFunction mid.functions n f d.valid.functions_valid e)
            (let x : (at : Places) × (slice_get places n ≡ Some at) × PlacesFit f at = d.fit n f e in subst (λ (y : Places). PlacesFit f y) (some_same x.0 at (sym x.1 ∙ g)) x.2);
        small = d.valid.store_fits;
        lengths_small = λ g. short (global_length mid g) (global_cells mid) mid.chain_pairs m.0.variables m.0.pairs (length_le mid.globals g) d.valid.store_fits first vm.variables_fit;
        constants = λ n b k to w f e h. d.words.constants n b k to w f h.block e h.is_block h.is_step;
        input_words = input_word input words;
      };
      wired = wired mid places p d.valid d.emitted d.fit (few_blocks mid (length p.blocks) d.valid d.emitted.blocks_long);
      shallow = d.shallow;
      proper = d.proper;
      words = words;
      globals_small = flat_words mid.globals d.words.globals;
      main = m.0;
      main_is = m.1;
      main_places = a.0;
      main_places_are = a.1;
      main_block = blk.0;
      main_begins = blk.1;
      no_parameters = m.2;
    }
  where
    short : (n g c v q : ℕ) → n ≤ g → g + c ≤ 32768 → q ≤ c → v < q → n < 2 ^ 15
    short n g c v q h k l e = omega arith

pub doubled_runs : DoubledRuns
doubled_runs mid places p d = (
  (λ input w. same_run mid places p input (given mid places p input d w)),
  record {
    lawful = λ input w n e. (always_good mid places p input (given mid places p input d w) n e).0;
    agrees = λ input w n e. (always_good mid places p input (given mid places p input d w) n e).1;
    never_reports = λ input w. never_reports mid places p input (given mid places p input d w);
    bare = all_bare mid places p d.valid d.emitted d.fit;
  },
)
