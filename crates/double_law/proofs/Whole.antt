-- The whole: what the program of items does is what the program in blocks does, and each of its states is good.
use Rattle.std.proofs.Common.{◌≡◌, ◌≢◌, ◌≤◌, ◌<◌, ℕ, zero, suc, ◌+◌, ◌-◌, ◌*◌, ◌^◌, arith, ap, refl, sym, ◌∙◌, subst, List, [], ◌∷◌, ◌++◌, append_assoc, append-nil, length, map, Bool, true, false, cond, inl, inr, le_refl, le_trans, flat_map, sum}
use Rattle.std.specs.Prelude.{Option, Some, None, Ok, Err, ◌==◌, nat_lt, slice_get, slice_index}
use Rattle.hard_runs.specs.Observed.{Seen, Observation, SameObserved}
use Rattle.hard_runs.specs.Stepping.{Stands, Always, Follows, go, put, watch}
use Rattle.hard_runs.proofs.Following.{follows}
use Rattle.mips_isa.specs.declared.instr.End.{End}
use Rattle.mid_blocks.specs.declared.code.MidStep.{MidStep}
use Rattle.mid_blocks.specs.declared.code.MidStep.TheVariants.{Constant, Copy, Operate, Guard, Load, Store, Input, Output, Deep}
use Rattle.mid_blocks.specs.declared.code.MidEnd.{MidEnd}
use Rattle.mid_blocks.specs.declared.code.MidEnd.TheVariants.{Jump, Branch, Call, Return}
use Rattle.mid_blocks.specs.declared.code.MidBlock.{MidBlock}
use Rattle.mid_blocks.specs.declared.code.MidFunction.{MidFunction}
use Rattle.mid_blocks.specs.declared.code.Mid.{Mid}
use Rattle.mid_blocks.specs.declared.code.RunEnd.{RunEnd}
use Rattle.mid_blocks.specs.declared.places.Places.{Places}
use Rattle.mid_blocks.specs.Lines.{Line, Step, End as EndLine, line_of}
use Rattle.mid_blocks.specs.Run.{Active, BlockState, Variables, word_in, index_in, global_in, operate, sets_or_traps, takes_in, passes, ends, do_line, do_step, do_end, returns, block_step, next_line, unless_ended, first_state, block_state, block_run, entry}
use Rattle.mid_blocks.specs.Run as run
use Rattle.hard_words.specs.Words.{AreWords}
use Rattle.mid_blocks.specs.Bounds.{ProperLine, Proper, Shallow, pairs_now, pairs_of}
use Rattle.hard_items.specs.declared.code.HardProgram.{HardProgram}
use Rattle.hard_items.specs.Run.{Spot, items, first_spot, item_run, step_from}
use Rattle.frame_plan.specs.Frames.{global_cells, cells}
use Rattle.double_law.specs.Program.{IsDoubled}
use Rattle.double_law.specs.Runs.{end_of, blocks, blocks_seen, says, line_says, step_says}
use Rattle.double_law.proofs.Doubled.{Pairs}
use Rattle.double_law.proofs.Leading.{Good}
use Rattle.hard_words.proofs.Sums.{sum_cons}
use Rattle.double_law.proofs.Relation.{Flow, Waits, Waiter, Related}
use Rattle.double_law.proofs.Stages.{R, StageOf, Setting, stage_behind, line_is}
use Rattle.double_law.proofs.InBlock.{step_stage}
use Rattle.double_law.proofs.Ends.{Wired, end_stage}
use Rattle.double_law.proofs.Start.{related_at_start}

-- ---- the block machine as a machine that goes by steps

after_back : (mid : Mid) (n : ℕ) (s : BlockState) → run.after mid (suc n) s ≡ block_step mid (run.after mid n s)
after_back mid zero s = refl
after_back mid (suc n) s = after_back mid n (block_step mid s)

pub state_is : (mid : Mid) (s : BlockState) (n : ℕ) → (go (blocks mid) s n).state ≡ run.after mid n s
state_is mid s zero = refl
state_is mid s (suc n) = ap (λ (x : BlockState). block_step mid x) (state_is mid s n) ∙ sym (after_back mid n s)

-- the output grows by what is said
step_output : (s : MidStep) (h : BlockState) → (do_step s h).output ≡ put h.output (step_says s h)
step_output (Constant to word) h = refl
step_output (Copy to from) h = refl
step_output (Operate o to left right) h = elim (operate o (word_in h.current.variables left) (word_in h.current.variables right)) as (λ z. (sets_or_traps h to z).output ≡ h.output) [ Ok v ↦ refl | Err k ↦ refl ]
step_output (Guard g index) h = elim (nat_lt (word_in h.current.variables index) (length (global_in h.globals g))) as (λ z. (cond z (passes h) (ends h (RunEnd.Trapped 8))).output ≡ h.output) [ true ↦ refl | false ↦ refl ]
step_output (Load to g index) h = refl
step_output (Store g index from) h = refl
step_output (Input to) h = elim h.feed as (λ z. (takes_in h to z).output ≡ h.output) [ [] ↦ refl | w ∷ rest ↦ refl ]
step_output (Output from) h = refl
step_output (Deep v) h = elim (word_in h.current.variables v == 0) as (λ z. (cond z (ends h (RunEnd.Trapped 9)) (passes h)).output ≡ h.output) [ true ↦ refl | false ↦ refl ]

end_output : (e : MidEnd) (h : BlockState) → (do_end e h).output ≡ h.output
end_output (Jump to) h = refl
end_output (Branch v when to) h = refl
end_output (Call g args result) h = refl
end_output (Return from) h = elim h.callers as (λ z. (returns h z (index_in h.current.variables from)).output ≡ h.output) [ [] ↦ refl | c ∷ cs ↦ refl ]

line_output : (line : Option Line) (h : BlockState) → (do_line line h).output ≡ put h.output (line_says line h)
line_output None h = refl
line_output (Some (Step s)) h = step_output s h
line_output (Some (EndLine e)) h = end_output e h

says_right : (mid : Mid) (h : BlockState) → (block_step mid h).output ≡ put h.output (says mid h h.end)
says_right mid h = elim h.end as (λ z. (unless_ended z h (do_line (next_line mid h) h)).output ≡ put h.output (says mid h z)) [
  | None ↦ line_output (next_line mid h) h
  | Some e ↦ refl
]

output_is : (mid : Mid) (s : BlockState) → s.output ≡ [] → (n : ℕ) → (go (blocks mid) s n).output ≡ (go (blocks mid) s n).state.output
output_is mid s e zero = sym e
output_is mid s e (suc n) =
    let h : BlockState = (go (blocks mid) s n).state in
    ap (λ (o : List ℕ). put o (says mid h h.end)) (output_is mid s e n) ∙ sym (says_right mid h)

pub seen_is : (mid : Mid) (input : List ℕ) (n : ℕ) → watch (blocks mid) (first_state mid input) n ≡ blocks_seen mid input n
seen_is mid input n =
    ap (λ (o : List ℕ). let s : Seen End = record { output = o; end = end_of (go (blocks mid) (first_state mid input) n).state.end } in s) (output_is mid (first_state mid input) refl n) ∙
    ap (λ (h : BlockState). let s : Seen End = record { output = h.output; end = end_of h.end } in s) (state_is mid (first_state mid input) n)

-- ---- nothing happens after an end

blocks_stand_by : (mid : Mid) (s : BlockState) (e : End) (o : Option RunEnd) → end_of o ≡ Some e → ◌≡◌ {A = BlockState × Option ℕ} (unless_ended o s (do_line (next_line mid s) s), says mid s o) (s, None)
blocks_stand_by mid s e None h = absurd (none_some e h)
  where
    none_some : (e : End) → ◌≡◌ {A = Option End} None (Some e) → ⊥
    none_some e h = cc
blocks_stand_by mid s e (Some x) h = refl

pub blocks_stand : (mid : Mid) → Stands (blocks mid)
blocks_stand mid s e h = blocks_stand_by mid s e s.end h

pub items_stand : (p : HardProgram) → Stands (items p)
items_stand p s e h = ap (λ (o : Option End). step_from p s o) h

-- ---- frames

tops : (mid : Mid) (places : List Places) (a : Pairs) (pairs fn : ℕ) (result : Option ℕ) (top : ℕ) (cs : List Active) → Waits mid places a pairs fn result top cs → top + pairs + sum (map (λ call. pairs_of (slice_get mid.functions call.function)) cs) ≡ cells mid
tops mid places a pairs fn result top [] w = Rattle.std.proofs.Common.add-zero (top + pairs) ∙ w.0
tops mid places a pairs fn result top (c ∷ cs) w =
    let wt : Waiter mid places a pairs fn result top c w.0 w.1 = w.2 in
    let rest : List ℕ = map (λ call. pairs_of (slice_get mid.functions call.function)) cs in
    let own : pairs_of (slice_get mid.functions c.function) ≡ w.0.pairs = ap (λ (o : Option MidFunction). pairs_of o) wt.is_function in
    ap (λ (n : ℕ). top + pairs + n) (sum_cons (pairs_of (slice_get mid.functions c.function)) rest ∙ ap (λ (n : ℕ). n + sum rest) own) ∙
    (sym (Rattle.std.proofs.Common.add_assoc (top + pairs) w.0.pairs (sum rest)) ∙ tops mid places a w.0.pairs c.function c.result (top + pairs) cs w.3)

-- ---- the theorem

pub record Given (mid : Mid) (places : List Places) (p : HardProgram) (input : List ℕ) : Type 0 where
  pub emitted : IsDoubled mid places p
  pub setting : Setting mid places p input
  pub wired : Wired mid places p
  pub shallow : Shallow mid
  pub proper : Proper mid
  pub words : AreWords input
  pub globals_small : (c : ℕ) → slice_index (flat_map (λ words. words) mid.globals) c < 2 ^ 32
  pub main : MidFunction
  pub main_is : slice_get mid.functions 0 ≡ Some main
  pub main_places : Places
  pub main_places_are : slice_get places 0 ≡ Some main_places
  pub main_block : MidBlock
  pub main_begins : slice_get main.blocks 0 ≡ Some main_block
  pub no_parameters : main.params ≡ 0

module _ (mid : Mid) (places : List Places) (p : HardProgram) (input : List ℕ) (g : Given mid places p input) where
  line_stage : (n : ℕ) (h : BlockState) (l : Spot) → h ≡ block_state mid input n → Related mid places p input h l → StageOf mid places p input h l
  line_stage n h l is r = by_step (slice_get r.block.steps h.current.step) refl
    where
      flow : Flow r.f r.at
      flow = g.setting.flows h.current.function r.f r.at r.is_function r.is_places

      ended : (block_state mid input n).end ≡ None
      ended = ap (λ (x : BlockState). x.end) (sym is) ∙ r.going

      proper : (line : Line) → next_line mid h ≡ Some line → ProperLine line h.current.variables h.globals
      proper line e = subst (λ (x : BlockState). ProperLine line x.current.variables x.globals) (sym is) (g.proper input n line g.words ended (ap (λ (x : BlockState). next_line mid x) (sym is) ∙ e))

      past : (xs : List MidStep) (k : ℕ) → k ≤ length xs → slice_get xs k ≡ None → k ≡ length xs
      past [] k h e = le_zero k h
        where
          le_zero : (k : ℕ) → k ≤ 0 → k ≡ 0
          le_zero k h = omega arith
      past (x ∷ xs) zero h e = absurd (some_none x e)
        where
          some_none : (x : MidStep) → ◌≡◌ {A = Option MidStep} (Some x) None → ⊥
          some_none x e = cc
      past (x ∷ xs) (suc k) h e = ap (λ (m : ℕ). suc m) (past xs k (Rattle.std.proofs.Common.le_of_suc-le-suc h) e)

      here : next_line mid h ≡ Some (line_of (slice_get r.block.steps h.current.step) r.block.end)
      here = line_is mid h r.f r.block r.is_function r.is_block

      by_step : (o : Option MidStep) → slice_get r.block.steps h.current.step ≡ o → StageOf mid places p input h l
      by_step (Some s) e = step_stage mid places p input g.setting h l r flow s e (proper (Step s) (here ∙ ap (λ (x : Option MidStep). Some (line_of x r.block.end)) e))
      by_step None e =
          let at_end : next_line mid h ≡ Some (EndLine r.block.end) = here ∙ ap (λ (x : Option MidStep). Some (line_of x r.block.end)) e in
          end_stage mid places p input g.setting g.emitted g.wired h l r flow (past r.block.steps h.current.step r.within e) r.block.end refl (proper (EndLine r.block.end) at_end)
          (λ k args result f' c q. deep k args result f' q (at_end ∙ ap (λ (x : MidEnd). Some (EndLine x)) c))
        where
          deep : (k : ℕ) (args : List ℕ) (result : Option ℕ) (f' : MidFunction) → slice_get mid.functions k ≡ Some f' → next_line mid h ≡ Some (EndLine (Call k args result)) → f'.pairs + global_cells mid ≤ r.top
          deep k args result f' q line =
              let h' : BlockState = record h { current = entry k (map (word_in h.current.variables) args) result; callers = run.at_block h.current (h.current.block + 1) ∷ h.callers } in
              let rest : List ℕ = map (λ call. pairs_of (slice_get mid.functions call.function)) h.callers in
              let stepped : block_step mid h ≡ h' = ap (λ (x : Option RunEnd). unless_ended x h (do_line (next_line mid h) h)) r.going ∙ ap (λ (x : Option Line). do_line x h) line in
              let next : block_state mid input (suc n) ≡ h' = after_back mid n (first_state mid input) ∙ (ap (λ (x : BlockState). block_step mid x) (sym is) ∙ stepped) in
              let bound : pairs_now mid h' ≤ mid.chain_pairs = subst (λ (x : BlockState). pairs_now mid x ≤ mid.chain_pairs) next (g.shallow input (suc n) g.words) in
              let new : pairs_of (slice_get mid.functions k) ≡ f'.pairs = ap (λ (o : Option MidFunction). pairs_of o) q in
              let old : pairs_of (slice_get mid.functions h.current.function) ≡ r.f.pairs = ap (λ (o : Option MidFunction). pairs_of o) r.is_function in
              let total : pairs_now mid h' ≡ f'.pairs + (r.f.pairs + sum rest) =
              sum_cons (pairs_of (slice_get mid.functions k)) (pairs_of (slice_get mid.functions h.current.function) ∷ rest) ∙
              (ap (λ (m : ℕ). m + sum (pairs_of (slice_get mid.functions h.current.function) ∷ rest)) new ∙
              ap (λ (m : ℕ). f'.pairs + m) (sum_cons (pairs_of (slice_get mid.functions h.current.function)) rest ∙ ap (λ (m : ℕ). m + sum rest) old)) in
              enough f'.pairs r.f.pairs (sum rest) r.top (global_cells mid) mid.chain_pairs (subst (λ (m : ℕ). m ≤ mid.chain_pairs) total bound) (tops mid places r.a r.f.pairs h.current.function h.current.result r.top h.callers r.waits)
            where
              enough : (q f s t gc c : ℕ) → q + (f + s) ≤ c → t + f + s ≡ gc + c → q + gc ≤ t
              enough q f s t gc c h e = omega arith

  follows_blocks : Follows (items p) (blocks mid) (Good p) (R mid places p input) (first_state mid input)
  follows_blocks n l r = stage_behind mid places p input (go (blocks mid) (first_state mid input) n).state l r.1 r.0 r.2 (line_stage n (go (blocks mid) (first_state mid input) n).state r.1 (state_is mid (first_state mid input) n) r.3)

  main_fits : g.main.pairs ≤ mid.chain_pairs
  main_fits = subst (λ (n : ℕ). n ≤ mid.chain_pairs) (sum_cons (pairs_of (slice_get mid.functions 0)) [] ∙ (Rattle.std.proofs.Common.add-zero (pairs_of (slice_get mid.functions 0)) ∙ ap (λ (o : Option MidFunction). pairs_of o) g.main_is)) (g.shallow input 0 g.words)

  both : SameObserved (watch (items p) (first_spot p input)) (watch (blocks mid) (first_state mid input)) × Always (items p) (first_spot p input) (Good p)
  both = follows Spot BlockState End (items p) (blocks mid) (Good p) (R mid places p input) (first_state mid input) (first_spot p input) (items_stand p) (blocks_stand mid) follows_blocks
      (related_at_start mid places p input g.emitted g.setting g.wired g.globals_small g.main g.main_places g.main_block g.main_is g.main_places_are g.main_begins g.no_parameters main_fits)

  -- The doubled program does what the program in blocks does.
  pub same_run : SameObserved (item_run p input) (blocks_seen mid input)
  same_run =
      let s : SameObserved (watch (items p) (first_spot p input)) (watch (blocks mid) (first_state mid input)) = both.0 in
      record {
        no_more = λ n. subst (λ (x : Seen End). Rattle.hard_runs.specs.Observed.Prefix (item_run p input n).output x.output) (seen_is mid input n) (s.no_more n);
        ends = λ n e h. let x : ((watch (blocks mid) (first_state mid input) n).end ≡ Some e) × ((watch (blocks mid) (first_state mid input) n).output ≡ (item_run p input n).output) = s.ends n e h in
            (ap (λ (y : Seen End). y.end) (sym (seen_is mid input n)) ∙ x.0, ap (λ (y : Seen End). y.output) (sym (seen_is mid input n)) ∙ x.1);
        comes = λ n. let x : (m : ℕ) × Rattle.hard_runs.specs.Observed.Prefix (watch (blocks mid) (first_state mid input) n).output (item_run p input m).output = s.comes n in
            (x.0, subst (λ (y : Seen End). Rattle.hard_runs.specs.Observed.Prefix y.output (item_run p input x.0).output) (seen_is mid input n) x.1);
        finishes = λ n e h. let x : (m : ℕ) × ((item_run p input m).end ≡ Some e) × ((item_run p input m).output ≡ (watch (blocks mid) (first_state mid input) n).output) = s.finishes n e (ap (λ (y : Seen End). y.end) (seen_is mid input n) ∙ h) in
            (x.0, x.1, x.2 ∙ ap (λ (y : Seen End). y.output) (seen_is mid input n));
      }

  -- Each state that it comes to is lawful, and where it stands before a use the registers of its checks are the same.
  pub always_good : Always (items p) (first_spot p input) (Good p)
  always_good = both.1

  -- No run reports.
  pub never_reports : (n code at : ℕ) → (go (items p) (first_spot p input) n).state.end ≡ Some (End.Reported code at) → ⊥
  never_reports n code at h = no_report (block_run mid input n).end code at (same_run.ends n (End.Reported code at) h).0
    where
      no_report : (o : Option RunEnd) (code at : ℕ) → end_of o ≡ Some (End.Reported code at) → ⊥
      no_report None code at e = cc
      no_report (Some (RunEnd.Exited w)) code at e = cc
      no_report (Some (RunEnd.Trapped k)) code at e = cc
      no_report (Some RunEnd.Starved) code at e = cc
