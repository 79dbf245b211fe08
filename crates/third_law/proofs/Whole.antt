-- The whole: what the program of items does is what the program in blocks does, and each of its states is good.
use Rattle.std.proofs.Common.{◌≡◌, ◌≢◌, ◌≤◌, ◌<◌, ℕ, zero, suc, ◌+◌, ◌-◌, ◌*◌, ◌^◌, arith, ap, refl, sym, ◌∙◌, subst, List, [], ◌∷◌, ◌++◌, append_assoc, append-nil, length, map, Bool, true, false, cond, inl, inr, le_refl, le_trans, flat_map, sum}
use Rattle.std.specs.Prelude.{Option, Some, None, Ok, Err, ◌==◌, nat_lt, slice_get, slice_index}
use Rattle.std.proofs.lemmas.List.{get_or_append_left, get_or-append_right}
use Rattle.hard_runs.specs.Observed.{Seen, Observation, Prefix, SameObserved}
use Rattle.hard_runs.specs.Stepping.{Stands as StandsStill, Always, Follows, go, put, watch}
use Rattle.hard_runs.proofs.Following.{follows}
use Rattle.mips_isa.specs.declared.instr.End.{End}
use Rattle.mid_blocks.specs.declared.code.MidStep.{MidStep}
use Rattle.mid_blocks.specs.declared.code.MidStep.TheVariants.{Constant, Copy, Operate, Guard, Load, Store, Input, Output, Deep}
use Rattle.mid_blocks.specs.declared.code.MidEnd.{MidEnd}
use Rattle.mid_blocks.specs.declared.code.MidEnd.TheVariants.{Jump, Branch, Call, Return}
use Rattle.mid_blocks.specs.declared.code.MidBlock.{MidBlock}
use Rattle.mid_blocks.specs.declared.code.MidFunction.{MidFunction}
use Rattle.mid_blocks.specs.declared.code.Mid.{Mid}
use Rattle.mid_blocks.specs.declared.code.RunEnd.{RunEnd}
use Rattle.mid_blocks.specs.declared.places.Places.{Places}
use Rattle.mid_blocks.specs.Lines.{Line, Step, End as EndLine, line_of}
use Rattle.mid_blocks.specs.Run.{Active, BlockState, Variables, word_in, index_in, global_in, operate, sets_or_traps, takes_in, passes, ends, do_line, do_step, do_end, returns, block_step, next_line, unless_ended, first_state, block_state, block_run, entry}
use Rattle.mid_blocks.specs.Run as run
use Rattle.hard_words.specs.Words.{AreWords}
use Rattle.mid_blocks.specs.Bounds.{ProperLine, Proper, Shallow, pairs_now, pairs_of}
use Rattle.frame_plan.specs.Frames.{global_cells, cells}
use Rattle.std.specs.Prelude.{slice_index_or, All}
use Rattle.mips_isa.specs.Machine.{State, step_from}
use Rattle.mips_isa.specs.Image.{boot_state}
use Rattle.mips_isa.specs.Inverse.{DecodesEncoded}
use Rattle.mips_isa.specs.Runs.{run as run_of, observed}
use Rattle.mid_blocks.specs.Valid.{ValidFunction}
use Rattle.frame_plan.specs.Frames.{global_length}
use Rattle.third_law.specs.Program.{third_image, third_text}
use Rattle.third_law.specs.Runs.{end_of, blocks, blocks_seen, says, line_says, step_says}
use Rattle.third_law.specs.Law.{FitsThree, Triples, RunInThree, state_after}
use Rattle.third_law.proofs.Sights.{Sight}
use Rattle.third_law.proofs.Going.{machine}
use Rattle.third_law.proofs.Voting.{Good}
use Rattle.third_law.proofs.Leading.{Runnable}
use Rattle.third_law.proofs.Placing.{good_placed, good_agrees, run_is, output_is as machine_output}
use Rattle.third_law.proofs.Sizes.{few_in_three}
use Rattle.third_law.proofs.Relation.{Flow, Laid, Waits, Waiter, Related, sum_cons}
use Rattle.third_law.proofs.Stages.{R, StageOf, Setting, stage_behind, line_is}
use Rattle.third_law.proofs.InBlock.{step_stage}
use Rattle.third_law.proofs.Ends.{Wired, end_stage}
use Rattle.third_law.proofs.Flows.{flow}
use Rattle.third_law.proofs.Wiring.{wired, all_at, there}
use Rattle.third_law.proofs.Start.{related_at_start}
use Rattle.third_law.proofs.Laying.{text_fits, text_long, laid}

-- ---- the block machine as a machine that goes by steps

after_back : (mid : Mid) (n : ℕ) (s : BlockState) → run.after mid (suc n) s ≡ block_step mid (run.after mid n s)
after_back mid zero s = refl
after_back mid (suc n) s = after_back mid n (block_step mid s)

pub state_is : (mid : Mid) (s : BlockState) (n : ℕ) → (go (blocks mid) s n).state ≡ run.after mid n s
state_is mid s zero = refl
state_is mid s (suc n) = ap (λ (x : BlockState). block_step mid x) (state_is mid s n) ∙ sym (after_back mid n s)

-- the output grows by what is said
step_output : (s : MidStep) (h : BlockState) → (do_step s h).output ≡ put h.output (step_says s h)
step_output (Constant to word) h = refl
step_output (Copy to from) h = refl
step_output (Operate o to left right) h = elim (operate o (word_in h.current.variables left) (word_in h.current.variables right)) as (λ z. (sets_or_traps h to z).output ≡ h.output) [ Ok v ↦ refl | Err k ↦ refl ]
step_output (Guard g index) h = elim (nat_lt (word_in h.current.variables index) (length (global_in h.globals g))) as (λ z. (cond z (passes h) (ends h (RunEnd.Trapped 8))).output ≡ h.output) [ true ↦ refl | false ↦ refl ]
step_output (Load to g index) h = refl
step_output (Store g index from) h = refl
step_output (Input to) h = elim h.feed as (λ z. (takes_in h to z).output ≡ h.output) [ [] ↦ refl | w ∷ rest ↦ refl ]
step_output (Output from) h = refl
step_output (Deep v) h = elim (word_in h.current.variables v == 0) as (λ z. (cond z (ends h (RunEnd.Trapped 9)) (passes h)).output ≡ h.output) [ true ↦ refl | false ↦ refl ]

end_output : (e : MidEnd) (h : BlockState) → (do_end e h).output ≡ h.output
end_output (Jump to) h = refl
end_output (Branch v when to) h = refl
end_output (Call g args result) h = refl
end_output (Return from) h = elim h.callers as (λ z. (returns h z (index_in h.current.variables from)).output ≡ h.output) [ [] ↦ refl | c ∷ cs ↦ refl ]

line_output : (line : Option Line) (h : BlockState) → (do_line line h).output ≡ put h.output (line_says line h)
line_output None h = refl
line_output (Some (Step s)) h = step_output s h
line_output (Some (EndLine e)) h = end_output e h

says_right : (mid : Mid) (h : BlockState) → (block_step mid h).output ≡ put h.output (says mid h h.end)
says_right mid h = elim h.end as (λ z. (unless_ended z h (do_line (next_line mid h) h)).output ≡ put h.output (says mid h z)) [
  | None ↦ line_output (next_line mid h) h
  | Some e ↦ refl
]

output_is : (mid : Mid) (s : BlockState) → s.output ≡ [] → (n : ℕ) → (go (blocks mid) s n).output ≡ (go (blocks mid) s n).state.output
output_is mid s e zero = sym e
output_is mid s e (suc n) =
    let h : BlockState = (go (blocks mid) s n).state in
    ap (λ (o : List ℕ). put o (says mid h h.end)) (output_is mid s e n) ∙ sym (says_right mid h)

pub seen_is : (mid : Mid) (input : List ℕ) (n : ℕ) → watch (blocks mid) (first_state mid input) n ≡ blocks_seen mid input n
seen_is mid input n =
    ap (λ (o : List ℕ). let s : Seen End = record { output = o; end = end_of (go (blocks mid) (first_state mid input) n).state.end } in s) (output_is mid (first_state mid input) refl n) ∙
    ap (λ (h : BlockState). let s : Seen End = record { output = h.output; end = end_of h.end } in s) (state_is mid (first_state mid input) n)

-- ---- nothing happens after an end

blocks_stand_by : (mid : Mid) (s : BlockState) (e : End) (o : Option RunEnd) → end_of o ≡ Some e → ◌≡◌ {A = BlockState × Option ℕ} (unless_ended o s (do_line (next_line mid s) s), says mid s o) (s, None)
blocks_stand_by mid s e None h = absurd (none_some e h)
  where
    none_some : (e : End) → ◌≡◌ {A = Option End} None (Some e) → ⊥
    none_some e h = cc
blocks_stand_by mid s e (Some x) h = refl

pub blocks_stand : (mid : Mid) → StandsStill (blocks mid)
blocks_stand mid s e h = blocks_stand_by mid s e s.end h

pub machine_stands : StandsStill machine
machine_stands s e h = ap (λ (o : Option End). step_from s o) h

-- ---- frames

tops : (mid : Mid) (places : List Places) (text : List ℕ) (place : ℕ → ℕ) (a : Sight) (pairs fn : ℕ) (result : Option ℕ) (top : ℕ) (cs : List Active) → Waits mid places text place a pairs fn result top cs → top + pairs + sum (map (λ call. pairs_of (slice_get mid.functions call.function)) cs) ≡ cells mid
tops mid places text place a pairs fn result top [] w = Rattle.std.proofs.Common.add-zero (top + pairs) ∙ w.0
tops mid places text place a pairs fn result top (c ∷ cs) w =
    let wt : Waiter mid places text place a pairs fn result top c w.0 w.1 = w.2 in
    let rest : List ℕ = map (λ call. pairs_of (slice_get mid.functions call.function)) cs in
    let own : pairs_of (slice_get mid.functions c.function) ≡ w.0.pairs = ap (λ (o : Option MidFunction). pairs_of o) wt.is_function in
    ap (λ (n : ℕ). top + pairs + n) (sum_cons (pairs_of (slice_get mid.functions c.function)) rest ∙ ap (λ (n : ℕ). n + sum rest) own) ∙
    (sym (Rattle.std.proofs.Common.add_assoc (top + pairs) w.0.pairs (sum rest)) ∙ tops mid places text place a w.0.pairs c.function c.result (top + pairs) cs w.3)

-- ---- the theorem

pub record Given (mid : Mid) (places : List Places) (input : List ℕ) : Type 0 where
  pub setting : Setting mid places input
  pub wired : Wired mid places
  pub shallow : Shallow mid
  pub proper : Proper mid
  pub words : AreWords input
  pub globals_small : (c : ℕ) → slice_index (flat_map (λ words. words) mid.globals) c < 2 ^ 32
  pub main : MidFunction
  pub main_is : slice_get mid.functions 0 ≡ Some main
  pub main_places : Places
  pub main_places_are : slice_get places 0 ≡ Some main_places
  pub main_block : MidBlock
  pub main_begins : slice_get main.blocks 0 ≡ Some main_block
  pub no_parameters : main.params ≡ 0

module _ (mid : Mid) (places : List Places) (p : Runnable) (x : Laid mid places p) (input : List ℕ) (g : Given mid places input) where
  line_stage : (n : ℕ) (h : BlockState) (l : State) → h ≡ block_state mid input n → Related mid places p x input h l → StageOf mid places p x input h l
  line_stage n h l is r = by_step (slice_get r.block.steps h.current.step) refl
    where
      flow : Flow r.f r.at
      flow = g.setting.flows h.current.function r.f r.at r.is_function r.is_places

      ended : (block_state mid input n).end ≡ None
      ended = ap (λ (y : BlockState). y.end) (sym is) ∙ r.going

      proper : (line : Line) → next_line mid h ≡ Some line → ProperLine line h.current.variables h.globals
      proper line e = subst (λ (y : BlockState). ProperLine line y.current.variables y.globals) (sym is) (g.proper input n line g.words ended (ap (λ (y : BlockState). next_line mid y) (sym is) ∙ e))

      past : (xs : List MidStep) (k : ℕ) → k ≤ length xs → slice_get xs k ≡ None → k ≡ length xs
      past [] k h e = le_zero k h
        where
          le_zero : (k : ℕ) → k ≤ 0 → k ≡ 0
          le_zero k h = omega arith
      past (x ∷ xs) zero h e = absurd (some_none x e)
        where
          some_none : (x : MidStep) → ◌≡◌ {A = Option MidStep} (Some x) None → ⊥
          some_none x e = cc
      past (x ∷ xs) (suc k) h e = ap (λ (m : ℕ). suc m) (past xs k (Rattle.std.proofs.Common.le_of_suc-le-suc h) e)

      here : next_line mid h ≡ Some (line_of (slice_get r.block.steps h.current.step) r.block.end)
      here = line_is mid h r.f r.block r.is_function r.is_block

      by_step : (o : Option MidStep) → slice_get r.block.steps h.current.step ≡ o → StageOf mid places p x input h l
      by_step (Some s) e = step_stage mid places p x input g.setting h l r flow s e (proper (Step s) (here ∙ ap (λ (y : Option MidStep). Some (line_of y r.block.end)) e))
      by_step None e =
          let at_end : next_line mid h ≡ Some (EndLine r.block.end) = here ∙ ap (λ (y : Option MidStep). Some (line_of y r.block.end)) e in
          end_stage mid places p x input g.setting g.wired h l r flow (past r.block.steps h.current.step r.within e) r.block.end refl (proper (EndLine r.block.end) at_end)
          (λ k args result f' c q. deep k args result f' q (at_end ∙ ap (λ (y : MidEnd). Some (EndLine y)) c))
        where
          deep : (k : ℕ) (args : List ℕ) (result : Option ℕ) (f' : MidFunction) → slice_get mid.functions k ≡ Some f' → next_line mid h ≡ Some (EndLine (Call k args result)) → f'.pairs + global_cells mid ≤ r.top
          deep k args result f' q line =
              let h' : BlockState = record h { current = entry k (map (word_in h.current.variables) args) result; callers = run.at_block h.current (h.current.block + 1) ∷ h.callers } in
              let rest : List ℕ = map (λ call. pairs_of (slice_get mid.functions call.function)) h.callers in
              let stepped : block_step mid h ≡ h' = ap (λ (y : Option RunEnd). unless_ended y h (do_line (next_line mid h) h)) r.going ∙ ap (λ (y : Option Line). do_line y h) line in
              let next : block_state mid input (suc n) ≡ h' = after_back mid n (first_state mid input) ∙ (ap (λ (y : BlockState). block_step mid y) (sym is) ∙ stepped) in
              let bound : pairs_now mid h' ≤ mid.chain_pairs = subst (λ (y : BlockState). pairs_now mid y ≤ mid.chain_pairs) next (g.shallow input (suc n) g.words) in
              let new : pairs_of (slice_get mid.functions k) ≡ f'.pairs = ap (λ (o : Option MidFunction). pairs_of o) q in
              let old : pairs_of (slice_get mid.functions h.current.function) ≡ r.f.pairs = ap (λ (o : Option MidFunction). pairs_of o) r.is_function in
              let total : pairs_now mid h' ≡ f'.pairs + (r.f.pairs + sum rest) =
              sum_cons (pairs_of (slice_get mid.functions k)) (pairs_of (slice_get mid.functions h.current.function) ∷ rest) ∙
              (ap (λ (m : ℕ). m + sum (pairs_of (slice_get mid.functions h.current.function) ∷ rest)) new ∙
              ap (λ (m : ℕ). f'.pairs + m) (sum_cons (pairs_of (slice_get mid.functions h.current.function)) rest ∙ ap (λ (m : ℕ). m + sum rest) old)) in
              enough f'.pairs r.f.pairs (sum rest) r.top (global_cells mid) mid.chain_pairs (subst (λ (m : ℕ). m ≤ mid.chain_pairs) total bound) (tops mid places p.text x.place r.a r.f.pairs h.current.function h.current.result r.top h.callers r.waits)
            where
              enough : (q f s t gc c : ℕ) → q + (f + s) ≤ c → t + f + s ≡ gc + c → q + gc ≤ t
              enough q f s t gc c h e = omega arith

  follows_blocks : Follows machine (blocks mid) (Good p.text) (R mid places p x input) (first_state mid input)
  follows_blocks n l r = stage_behind mid places p x input (go (blocks mid) (first_state mid input) n).state l r.1 r.0 r.2 (line_stage n (go (blocks mid) (first_state mid input) n).state r.1 (state_is mid (first_state mid input) n) r.3)

  main_fits : g.main.pairs ≤ mid.chain_pairs
  main_fits = subst (λ (n : ℕ). n ≤ mid.chain_pairs) (sum_cons (pairs_of (slice_get mid.functions 0)) [] ∙ (Rattle.std.proofs.Common.add-zero (pairs_of (slice_get mid.functions 0)) ∙ ap (λ (o : Option MidFunction). pairs_of o) g.main_is)) (g.shallow input 0 g.words)

  -- The machine does what the program in blocks does, and each of its states is good.
  pub whole : SameObserved (watch machine (boot_state (third_image mid p.text) input)) (watch (blocks mid) (first_state mid input)) × Always machine (boot_state (third_image mid p.text) input) (Good p.text)
  whole = follows State BlockState End machine (blocks mid) (Good p.text) (R mid places p x input) (first_state mid input) (boot_state (third_image mid p.text) input) machine_stands (blocks_stand mid) follows_blocks
      (related_at_start mid places p x input g.setting g.globals_small g.main g.main_places g.main_block g.main_is g.main_places_are g.main_begins g.no_parameters main_fits)

-- ---- what the premises of the pass give

none_is : {A : Type 0} (x : A) → ◌≡◌ {A = Option A} None (Some x) → ⊥
none_is x e = cc

some_same : {A : Type 0} (x y : A) → ◌≡◌ {A = Option A} (Some x) (Some y) → x ≡ y
some_same {A} x y e = ap (λ (o : Option A). elim o as (λ z. A) [ Some v ↦ v | None ↦ x ]) e

-- one length of a list of lists
length_le : (xs : List (List ℕ)) (g : ℕ) → length (slice_index_or xs g []) ≤ sum (map length xs)
length_le [] g = Rattle.std.proofs.Common.zero-le
length_le (x ∷ xs) zero = subst (λ (n : ℕ). length x ≤ n) (sym (sum_cons (length x) (map length xs))) (left (length x) (sum (map length xs)))
  where
    left : (m n : ℕ) → m ≤ m + n
    left m n = omega arith
length_le (x ∷ xs) (suc g) = subst (λ (n : ℕ). length (slice_index_or xs g []) ≤ n) (sym (sum_cons (length x) (map length xs))) (le_trans (length_le xs g) (right (length x) (sum (map length xs))))
  where
    right : (m n : ℕ) → n ≤ m + n
    right m n = omega arith

-- the words of a list of lists are words
flat_words : (xs : List (List ℕ)) → All AreWords xs → (c : ℕ) → slice_index_or {A = ℕ} (flat_map (λ words. words) xs) c 0 < 2 ^ 32
flat_words [] h c = omega arith
flat_words (x ∷ xs) h c = elim (Rattle.std.proofs.lemmas.Bool.cases_lt c (length x)) as (λ z. slice_index_or (x ++ flat_map (λ words. words) xs) c 0 < 2 ^ 32) [
  | inl k ↦ subst (λ (n : ℕ). n < 2 ^ 32) (sym (get_or_append_left x (flat_map (λ words. words) xs) 0 c k)) (h 0 [] (Rattle.std.proofs.Common.zero-lt-suc (length xs)) c 0 k)
  | inr k ↦ subst (λ (n : ℕ). n < 2 ^ 32) (sym (get_or-append_right x (flat_map (λ words. words) xs) (length x) c 0 refl k)) (flat_words xs (λ n d l. h (suc n) d (Rattle.std.proofs.Common.suc-le-suc l)) (c - length x))
]

no_words : AreWords []
no_words k d h = absurd (Rattle.std.proofs.Common.not-suc-le-zero h)

-- a word of the input, also past its end
input_word : (xs : List ℕ) → AreWords xs → (k : ℕ) → slice_index xs k < 2 ^ 32
input_word [] h k = omega arith
input_word (x ∷ xs) h zero = h 0 0 (Rattle.std.proofs.Common.zero-lt-suc (length xs))
input_word (x ∷ xs) h (suc k) = input_word xs (λ n d l. h (suc n) d (Rattle.std.proofs.Common.suc-le-suc l)) k

given : (mid : Mid) (places : List Places) (input : List ℕ) → Triples mid places → AreWords input → Given mid places input
given mid places input d words =
    let m : (main : MidFunction) × (slice_get mid.functions 0 ≡ Some main) × (main.params ≡ 0) = d.valid.main_fits in
    let vm : ValidFunction m.0 = all_at ValidFunction mid.functions 0 m.0 d.valid.functions_valid m.1 in
    let a : (at : Places) × (slice_get places 0 ≡ Some at) × FitsThree m.0 at = d.fit 0 m.0 m.1 in
    let blk : (x : MidBlock) × (slice_get m.0.blocks 0 ≡ Some x) = there m.0.blocks 0 vm.has_block in
    let first : m.0.pairs ≤ mid.chain_pairs = subst (λ (n : ℕ). n ≤ mid.chain_pairs) (sum_cons (pairs_of (slice_get mid.functions 0)) [] ∙ (Rattle.std.proofs.Common.add-zero (pairs_of (slice_get mid.functions 0)) ∙ ap (λ (o : Option MidFunction). pairs_of o) m.1)) (d.shallow [] 0 no_words) in
    record {
      setting = record {
        flows = λ n f at e g. flow f at (all_at ValidFunction mid.functions n f d.valid.functions_valid e)
            (let x : (at : Places) × (slice_get places n ≡ Some at) × FitsThree f at = d.fit n f e in subst (λ (y : Places). FitsThree f y) (some_same x.0 at (sym x.1 ∙ g)) x.2);
        small = d.valid.store_fits;
        lengths_small = λ g. short (global_length mid g) (global_cells mid) mid.chain_pairs m.0.variables m.0.pairs (length_le mid.globals g) d.valid.store_fits first vm.variables_fit;
        constants = λ n b k to w f e h. d.has_words.constants n b k to w f h.block e h.is_block h.is_step;
        input_words = input_word input words;
      };
      wired = wired mid places d.valid d.fit;
      shallow = d.shallow;
      proper = d.proper;
      words = words;
      globals_small = flat_words mid.globals d.has_words.globals;
      main = m.0;
      main_is = m.1;
      main_places = a.0;
      main_places_are = a.1;
      main_block = blk.0;
      main_begins = blk.1;
      no_parameters = m.2;
    }
  where
    short : (n g c v q : ℕ) → n ≤ g → g + c ≤ 32768 → q ≤ c → v < q → n < 2 ^ 15
    short n g c v q h k l e = omega arith

-- ---- the run as the machine has it

-- one observation for another, at each number of steps
seen_as : {E : Type 0} (low low' high high' : Observation E) → ((n : ℕ) → low n ≡ low' n) → ((n : ℕ) → high n ≡ high' n) → SameObserved low high → SameObserved low' high'
seen_as {E} low low' high high' f g s = record {
  no_more = λ n. subst (λ (y : Seen E). Prefix (low' n).output y.output) (g n) (subst (λ (y : Seen E). Prefix y.output (high n).output) (f n) (s.no_more n));
  ends = λ n e h. let y : ((high n).end ≡ Some e) × ((high n).output ≡ (low n).output) = s.ends n e (ap (λ (z : Seen E). z.end) (f n) ∙ h) in
      (ap (λ (z : Seen E). z.end) (sym (g n)) ∙ y.0, ap (λ (z : Seen E). z.output) (sym (g n)) ∙ (y.1 ∙ ap (λ (z : Seen E). z.output) (f n)));
  comes = λ n. let y : (m : ℕ) × Prefix (high n).output (low m).output = s.comes n in
      (y.0, subst (λ (z : Seen E). Prefix z.output (low' y.0).output) (g n) (subst (λ (z : Seen E). Prefix (high n).output z.output) (f y.0) y.1));
  finishes = λ n e h. let y : (m : ℕ) × ((low m).end ≡ Some e) × ((low m).output ≡ (high n).output) = s.finishes n e (ap (λ (z : Seen E). z.end) (g n) ∙ h) in
      (y.0, ap (λ (z : Seen E). z.end) (sym (f y.0)) ∙ y.1, ap (λ (z : Seen E). z.output) (sym (f y.0)) ∙ (y.2 ∙ ap (λ (z : Seen E). z.output) (g n)));
}

machine_seen : (s : State) (n : ℕ) → watch machine s n ≡ observed s None n
machine_seen s n =
    ap (λ (o : List ℕ). let z : Seen End = record { output = o; end = (go machine s n).state.end } in z) (sym (machine_output s n)) ∙
    ap (λ (t : State). let z : Seen End = record { output = (run_of s None n).output; end = t.end } in z) (sym (run_is s n))

pub run_in_three : DecodesEncoded → RunInThree
run_in_three decodes mid places t =
    let p : Runnable = record { text = third_text mid places; is_text = text_fits mid places t } in
    let x : Laid mid places p = laid mid places decodes t p refl in
    let good : (input : List ℕ) (n : ℕ) → AreWords input → (state_after mid (third_text mid places) input n).end ≡ None → Good (third_text mid places) (state_after mid (third_text mid places) input n) = λ input n w e.
    let s : State = boot_state (third_image mid (third_text mid places)) input in
    subst (λ (z : State). Good (third_text mid places) z) (sym (run_is s n)) ((whole mid places p x input (given mid places input t w)).1 n (ap (λ (z : State). z.end) (sym (run_is s n)) ∙ e)) in
    record {
      same = λ input w. seen_as (watch machine (boot_state (third_image mid (third_text mid places)) input)) (observed (boot_state (third_image mid (third_text mid places)) input) None) (watch (blocks mid) (first_state mid input)) (blocks_seen mid input)
          (machine_seen (boot_state (third_image mid (third_text mid places)) input)) (seen_is mid input) (whole mid places p x input (given mid places input t w)).0;
      placed = λ input n w e. good_placed (third_text mid places) (state_after mid (third_text mid places) input n) (good input n w e);
      agrees = λ input n w e. good_agrees (third_text mid places) (state_after mid (third_text mid places) input n) (good input n w e);
      short = subst (λ (n : ℕ). n ≤ 4 * Rattle.mid_blocks.specs.Size.words mid) (sym (text_long mid places)) (few_in_three mid places (Rattle.third_law.specs.Program.looked_up (Rattle.third_law.specs.Program.starts mid places)));
    }
