-- Each end of a block is a stage.
use Rattle.std.proofs.Common.{◌≡◌, ◌≢◌, ◌≤◌, ◌<◌, ℕ, zero, suc, ◌+◌, ◌-◌, ◌*◌, ◌/◌, ◌%◌, ◌^◌, arith, ap, refl, sym, ◌∙◌, subst, List, [], ◌∷◌, ◌++◌, append_assoc, append-nil, length, get_or, take, drop, map, Bool, true, false, cond, not, inl, inr, le_refl, le_trans, flat_map, add-zero}
use Rattle.std.specs.Prelude.{Option, Some, None, ◌⊎◌, ◌==◌, slice_get, slice_index_or, IsSome}
use Rattle.std.proofs.lemmas.Option.{slice_get_within}
use Rattle.std.proofs.lemmas.List.{drop_all}
use Rattle.hard_runs.specs.Stepping.{Leads}
use Rattle.hard_runs.proofs.Following.{leads_on}
use Rattle.mips_isa.specs.declared.instr.Instr.TheVariants as mips
use Rattle.mips_isa.specs.declared.instr.End.TheVariants as machine_end
use Rattle.mid_blocks.specs.declared.code.MidEnd.{MidEnd}
use Rattle.mid_blocks.specs.declared.code.MidEnd.TheVariants.{Jump, Branch, Call, Return}
use Rattle.mid_blocks.specs.declared.code.MidBlock.{MidBlock}
use Rattle.mid_blocks.specs.declared.code.MidFunction.{MidFunction}
use Rattle.mid_blocks.specs.declared.code.MidStep.{MidStep}
use Rattle.mid_blocks.specs.declared.code.Mid.{Mid}
use Rattle.mid_blocks.specs.declared.code.RunEnd.TheVariants as ended
use Rattle.mid_blocks.specs.declared.places.Place.{Place}
use Rattle.mid_blocks.specs.declared.places.Place.TheVariants.{Pair, Slot}
use Rattle.mid_blocks.specs.declared.places.Places.{Places}
use Rattle.mid_blocks.specs.Lines.{End as EndLine, line_of}
use Rattle.mid_blocks.specs.Run.{Active, BlockState, Variables, word_in, index_in, goes_to, is_taken, do_line, do_end, with_word, with_result, entry, returns, ends}
use Rattle.mid_blocks.specs.Run as run
use Rattle.mid_blocks.specs.Bounds.{ProperLine}
use Rattle.frame_plan.specs.Frames.{global_cell, global_length, global_cells, cells}
use Rattle.mips_isa.specs.declared.instr.Instr.{Instr}
use Rattle.mips_isa.specs.Machine.{State}
use Rattle.mips_text.specs.Text.{IsText}
use Rattle.third_law.specs.declared.roles.Role.{Role}
use Rattle.third_law.specs.declared.roles.Role.TheVariants.{Value, Stack, Link}
use Rattle.third_law.specs.Roles.{RoleFits, reg_in, nop, each, vote, load}
use Rattle.third_law.specs.Emitted.{place_of, step_code, end_code, fetched, source, argument_code, call_code, jump_code, branch_code, service_code, returned_code, enter_code, result_code}
use Rattle.third_law.specs.Program.{cell_address, first_block, start_code, behind_block, behind_end, body_code, block_code, exit_code}
use Rattle.third_law.specs.Runs.{blocks}
use Rattle.third_law.proofs.Sights.{Sight, Tripled, put}
use Rattle.third_law.proofs.Going.{machine, Stands, Before, Done, address, stands_first, stands_rest}
use Rattle.third_law.proofs.Voting.{Good}
use Rattle.third_law.proofs.Speaking.{Stops}
use Rattle.third_law.proofs.Control.{Landed, jumps, Arrives, jumps_on, stays_on, behind_vote, branch_jumps, branch_stays}
use Rattle.third_law.proofs.Leading.{Runnable, Does, does_nothing, does_vote, stops_exit, behind_both}
use Rattle.third_law.proofs.Places.{Frame, PlaceFits, in_place, Near, near_self, NotRole, NotCell, Holds, near_frame, near_holds, sets_holds, fetch, does_fetched, fetch_near, fetch_word, source_fits}
use Rattle.third_law.proofs.Steps.{StandsIn}
use Rattle.third_law.proofs.Calls.{Argued, AllStand, arguments, StackAt, Entered, enters, Returned, leaving, leaves, returns_word, returns_zero, ResultSet, result_set}
use Rattle.third_law.proofs.Relation.{Wanted, EndAt, Flow, GlobalsHold, BehindCall, Laid, Waiter, Waits, rest_code, Related, Outside, waits_kept, near_outside, sets_outside, globals_same}
use Rattle.third_law.proofs.Calling.{goes_call, behind_call, goes_return}
use Rattle.third_law.proofs.Stages.{R, StageOf, stage_silent, stage_over, line_is, high_step, Setting, front_nil, back_nil}
use Rattle.third_law.proofs.InBlock.{ReadsWord, reads_word, first_of_list}

-- of each variable that is read
each_written : (vars : ℕ → Option ℕ) (args : List ℕ) → Rattle.std.specs.List.AllByRecursion (λ v. IsSome (vars v)) args → (k u : ℕ) → k < length args → IsSome (vars (get_or args k u))
each_written vars [] h k u l = absurd (Rattle.std.proofs.Common.not-suc-le-zero l)
each_written vars (x ∷ xs) h zero u l = h.0
each_written vars (x ∷ xs) h (suc k) u l = each_written vars xs h.1 k u (Rattle.std.proofs.Common.le_of_suc-le-suc l)

-- ---- what is there

-- A block of a function is there, and begins with its first line.
pub record BlockThere (f : MidFunction) (at : Places) (to : ℕ) : Type 0 where
  pub block : MidBlock
  pub is_block : slice_get f.blocks to ≡ Some block
  pub plain_start : start_code f at to ≡ []

-- What a valid program gives at the ends of its blocks.
pub record Wired (mid : Mid) (places : List Places) : Type 0 where
  pub jump_there : (fn b n to : ℕ) (f : MidFunction) (at : Places) → slice_get mid.functions fn ≡ Some f → slice_get places fn ≡ Some at → EndAt f b n (Jump to) → BlockThere f at to
  pub branch_there : (fn b n v to : ℕ) (w : Bool) (f : MidFunction) (at : Places) → slice_get mid.functions fn ≡ Some f → slice_get places fn ≡ Some at → EndAt f b n (Branch v w to) → BlockThere f at to × BlockThere f at (b + 1)
  pub call_goes_on : (fn b n g : ℕ) (args : List ℕ) (result : Option ℕ) (f : MidFunction) → slice_get mid.functions fn ≡ Some f → EndAt f b n (Call g args result) → (block : MidBlock) × (slice_get f.blocks (b + 1) ≡ Some block)
  pub callee_there : (fn b n g : ℕ) (args : List ℕ) (result : Option ℕ) (f : MidFunction) → slice_get mid.functions fn ≡ Some f → EndAt f b n (Call g args result) → (f' : MidFunction) × (at' : Places) × (block : MidBlock) × (slice_get mid.functions g ≡ Some f') × (slice_get places g ≡ Some at') × (slice_get f'.blocks 0 ≡ Some block) × (length args ≡ f'.params)

-- ---- arriving at a block

nil_cons : {A : Type 0} (y : A) (ys : List A) → y ∷ ys ≡ [] → ⊥
nil_cons y ys e = cc

branch_some : (when : Bool) (r : Role) (to : ℕ) → branch_code when r to ≡ [] → ⊥
branch_some true r to e = cc
branch_some false r to e = cc

call_some : (to back : ℕ) → call_code to back ≡ [] → ⊥
call_some to back e = cc

load_some : load Link Stack 0 ≡ [] → ⊥
load_some e = cc

-- no end is without words
pub end_some : (at entry : ℕ → ℕ) (own first pairs : ℕ) (places : Places) (e : MidEnd) → end_code at entry own first pairs places e ≡ [] → ⊥
end_some at entry own first pairs places (Jump to) e = cc
end_some at entry own first pairs places (Branch v when to) e = branch_some when (source (place_of places v) 0) (at (first + to)) (back_nil (fetched (place_of places v) 0) (branch_code when (source (place_of places v) 0) (at (first + to))) e)
end_some at entry own first pairs places (Call g args result) e = call_some (at (entry g)) (at (own + 1)) (back_nil (argument_code places 0 args) (call_code (at (entry g)) (at (own + 1))) e)
end_some at entry own first pairs places (Return from) e =
    let up : List Instr = each (λ t. mips.Addiu (reg_in t Stack) (reg_in t Stack) (16 * pairs)) ++ (vote Link ++ mips.Jr 31 ∷ nop ∷ []) in
    load_some (front_nil (load Link Stack 0) up (back_nil (returned_code places from) (load Link Stack 0 ++ up) e))

-- a word that is there has a small number
low_of : (text : List ℕ) (m : ℕ) (code : List Instr) → IsText text → Stands text m code → (code ≡ [] → ⊥) → m < 66060288
low_of text m [] t h ne = absurd (ne refl)
low_of text m (i ∷ is) t h ne = low m (length text) t (slice_get_within text m h.0.0 h.0.1)
  where
    low : (m n : ℕ) → n ≤ 66060288 → m < n → m < 66060288
    low m n t h = omega arith

-- where a block begins is a small number
pub low_block : (mid : Mid) (places : List Places) (p : Runnable) (x : Laid mid places p) (fn to : ℕ) (f : MidFunction) (q : Places) (b : MidBlock) → slice_get mid.functions fn ≡ Some f → slice_get places fn ≡ Some q → slice_get f.blocks to ≡ Some b → x.place (first_block mid fn + to) < 66060288
low_block mid places p x fn to f q b e g h = low_of p.text (x.place (first_block mid fn + to)) (block_code x.at mid fn to f q b) p.is_text (x.block fn to f q b e g h)
    (λ z. end_some x.at (first_block mid) (first_block mid fn + to) (first_block mid fn) f.pairs q b.end
    (back_nil (flat_map (step_code (λ g. cell_address (global_cell mid g)) (global_length mid) q) b.steps) (end_code x.at (first_block mid) (first_block mid fn + to) (first_block mid fn) f.pairs q b.end)
    (back_nil (start_code f q to) (body_code x.at mid fn to f q b) z)))

exit_some : exit_code ≡ [] → ⊥
exit_some e = cc

-- ---- what a call returned

-- What a call returned is in its place.
pub record MadeResult (mid : Mid) (p : Runnable) (at : Places) (f : MidFunction) (c : Active) (result : Option ℕ) (top w : ℕ) (a : Sight) : Type 0 where
  pub now : Sight
  pub does : Does p (cells mid) (result_code at result) a now
  pub holds : Holds at (Wanted f c.block 0) (with_result c.variables result w) top now
  pub stack : now.file Stack ≡ a.file Stack
  pub outside : Outside mid f.pairs top a now
  pub low : (q : ℕ) → q < top → now.cell q ≡ a.cell q
  pub feed : now.feed ≡ a.feed
  pub fed : now.fed ≡ a.fed

not_below_slot : (top : ℕ) (pl : Place) (q : ℕ) → q < top → NotCell top pl q
not_below_slot top (Pair k) q h = tt
not_below_slot top (Slot s) q h = λ e. off top s q h e
  where
    off : (t s q : ℕ) → q < t → q ≡ t + (s + 1) → ⊥
    off t s q h e = omega arith

stack_off : (pl : Place) → NotRole pl Stack
stack_off (Pair k) = refl
stack_off (Slot k) = tt

none_not : (v : ℕ) → ◌≡◌ {A = Option ℕ} None (Some v) → ⊥
none_not v e = cc

some_same : (x y : ℕ) → ◌≡◌ {A = Option ℕ} (Some x) (Some y) → x ≡ y
some_same x y e = ap (λ (o : Option ℕ). elim o as (λ z. ℕ) [ Some v ↦ v | None ↦ 0 ]) e

make_result_of : (mid : Mid) (p : Runnable) (c : Active) (f : MidFunction) (at : Places) (result : Option ℕ) (top w : ℕ) (a : Sight) → Frame (cells mid) f.pairs top a → a.file (Value 0) ≡ w →
    Holds at (λ v. Wanted f c.block 0 v × (result ≢ Some v)) c.variables top a →
    ((x : ℕ) → result ≡ Some x → PlaceFits f.pairs (place_of at x)) → ((x y : ℕ) → result ≡ Some x → Wanted f c.block 0 y → y ≢ x → place_of at y ≢ place_of at x) → MadeResult mid p at f c result top w a
make_result_of mid p c f at None top w a frame word base fits apart = record {
  now = a;
  does = does_nothing p (cells mid) a;
  holds = record { word = λ v x n q. base.word v x (n, none_not v) q };
  stack = refl;
  outside = record { cell = λ q o. refl };
  low = λ q k. refl;
  feed = refl;
  fed = refl;
}
make_result_of mid p c f at (Some x) top w a frame word base fits apart =
    let s : ResultSet p (cells mid) a top (place_of at x) w = result_set p (cells mid) f.pairs top w (place_of at x) a frame (fits x refl) word in
    record {
      now = s.now;
      does = s.does;
      holds = sets_holds at (λ v. Wanted f c.block 0 v × (Some x ≢ Some v)) (Wanted f c.block 0) c.variables top x w a s.now (λ y n ne. ((n, λ e. ne (sym (some_same x y e))), apart x y refl n ne)) s.sets base;
      stack = s.sets.file Stack tt (stack_off (place_of at x));
      outside = sets_outside mid f.pairs top w (place_of at x) a s.now (fits x refl) s.sets;
      low = λ q k. s.sets.cell q (not_below_slot top (place_of at x) q k);
      feed = s.sets.feed;
      fed = s.sets.fed;
    }

slot_word : (at : Places) (a : Sight) (top v x : ℕ) → (s : ℕ) × (place_of at v ≡ Slot s) × (a.cell (top + (s + 1)) ≡ x) → in_place a top (place_of at v) ≡ x
slot_word at a top v x s = subst (λ (pl : Place). in_place a top pl ≡ x) (sym s.1) s.2

by_result : (f : MidFunction) (b n : ℕ) (args : List ℕ) (result : Option ℕ) (x : ℕ) → {g : ℕ} → result ≡ Some x → EndAt f b n (Call g args result) → EndAt f b n (Call g args (Some x))
by_result f b n args result x {g} q e = subst (λ (o : Option ℕ). EndAt f b n (Call g args o)) q e

up_le : (t q : ℕ) → t ≤ t + q
up_le t q = omega arith

-- ---- jumps and branches

taken_jumps : (when : Bool) (w : ℕ) → is_taken when w ≡ true → jumps_on when w
taken_jumps true w t = differs w t
  where
    differs : (w : ℕ) → not (w == 0) ≡ true → w ≢ 0
    differs w t = grind arith
taken_jumps false w t = same w t
  where
    same : (w : ℕ) → (w == 0) ≡ true → w ≡ 0
    same w t = grind arith

untaken_stays : (when : Bool) (w : ℕ) → is_taken when w ≡ false → stays_on when w
untaken_stays true w t = same w t
  where
    same : (w : ℕ) → not (w == 0) ≡ false → w ≡ 0
    same w t = grind arith
untaken_stays false w t = differs w t
  where
    differs : (w : ℕ) → (w == 0) ≡ false → w ≢ 0
    differs w t = grind arith

-- a branch is a vote, and the branch over a jump
branch_parts : (when : Bool) (r : Role) (to : ℕ) → branch_code when r to ≡ vote r ++ behind_vote when r to
branch_parts true r to = refl
branch_parts false r to = refl

four_long : (when : Bool) (r : Role) (to : ℕ) → length (branch_code when r to) ≡ 10
four_long true r to = refl
four_long false r to = refl

-- a branch goes to the word that it names, or to the one behind it
by_way : (p : Runnable) (size k m n : ℕ) (when : Bool) (rl : Role) (a : Sight) (s : State) → RoleFits rl → Stands p.text k (branch_code when rl (address m)) → k + length (branch_code when rl (address m)) ≡ n → m < 66060288 → n < 66060288 → Before p.text k 0 s → Tripled size s a →
    (z : Bool) → is_taken when (a.file rl) ≡ z → Arrives p.text size (cond z m n) s a
by_way p size k m n when rl a s fits w total low low' b d z t =
    let c : List Instr = behind_vote when rl (address m) in
    let w1 : Stands p.text k (vote rl ++ c) = subst (λ (l : List Instr). Stands p.text k l) (branch_parts when rl (address m)) w in
    let v : Done p.text (Good p.text) size k (vote rl) s a = does_vote p size rl a fits k s (stands_first p.text k (vote rl) c w1) b d in
    let w2 : Stands p.text (k + 6) c = stands_rest p.text k (vote rl) c w1 in
    let ten : k + 6 + 4 ≡ n = join k (length (branch_code when rl (address m))) n (four_long when rl (address m)) total in
    let short : k + 6 + 4 ≤ 66060288 = Rattle.std.proofs.Common.le_of_lt (subst (λ (y : ℕ). y < 66060288) (sym ten) low') in
    behind p size k (cond z m n) s a v (elim z as (λ y. is_taken when (a.file rl) ≡ y → Arrives p.text size (cond y m n) v.now a) [
      | true ↦ λ g. branch_jumps p.text size (k + 6) m when rl v.now a fits (taken_jumps when (a.file rl) g) short low w2 v.before v.tripled
      | false ↦ λ g. subst (λ (y : ℕ). Arrives p.text size y v.now a) ten (branch_stays p.text size (k + 6) m when rl v.now a fits (untaken_stays when (a.file rl) g) short w2 v.before v.tripled)
    ] t)
  where
    join : (k len n : ℕ) → len ≡ 10 → k + len ≡ n → k + 6 + 4 ≡ n
    join k len n e g = omega arith

    behind : (p : Runnable) (size k to : ℕ) (s : State) (a : Sight) (v : Done p.text (Good p.text) size k (vote rl) s a) → Arrives p.text size to v.now a → Arrives p.text size to s a
    behind p size k to s a v g = record {
      now = g.now;
      steps = v.steps + g.steps;
      leads = subst (λ (n : ℕ). Leads machine (Good p.text) n s g.now) (Rattle.std.proofs.Common.add-suc v.steps g.steps) (leads_on machine (Good p.text) v.steps (suc g.steps) s v.now g.now v.leads g.leads);
      before = g.before;
      tripled = g.tripled;
    }

module _ (mid : Mid) (places : List Places) (p : Runnable) (x : Laid mid places p) (input : List ℕ) (set : Setting mid places input) (wired : Wired mid places) (h : BlockState) (l : State) (r : Related mid places p x input h l) (flow : Flow r.f r.at) (last : h.current.step ≡ length r.block.steps) where
  -- the words that are left are those of the end
  rest_end : rest_code x.at mid h.current.function h.current.block r.f r.at r.block h.current.step ≡ end_code x.at (first_block mid) (first_block mid h.current.function + h.current.block) (first_block mid h.current.function) r.f.pairs r.at r.block.end
  rest_end = ap (λ (y : List MidStep). flat_map (step_code (λ g. cell_address (global_cell mid g)) (global_length mid) r.at) y ++ end_code x.at (first_block mid) (first_block mid h.current.function + h.current.block) (first_block mid h.current.function) r.f.pairs r.at r.block.end) (drop_all h.current.step r.block.steps (Rattle.std.proofs.Common.le_of_eq (sym last)))

  end_stands : (e : MidEnd) → r.block.end ≡ e → Stands p.text r.number (end_code x.at (first_block mid) (first_block mid h.current.function + h.current.block) (first_block mid h.current.function) r.f.pairs r.at e)
  end_stands e g = subst (λ (z : MidEnd). Stands p.text r.number (end_code x.at (first_block mid) (first_block mid h.current.function + h.current.block) (first_block mid h.current.function) r.f.pairs r.at z)) g (subst (λ (c : List Instr). Stands p.text r.number c) rest_end r.stands)

  end_ends : (e : MidEnd) → r.block.end ≡ e → r.number + length (end_code x.at (first_block mid) (first_block mid h.current.function + h.current.block) (first_block mid h.current.function) r.f.pairs r.at e) ≡ x.place (first_block mid h.current.function + (h.current.block + 1))
  end_ends e g = ap (λ (z : MidEnd). r.number + length (end_code x.at (first_block mid) (first_block mid h.current.function + h.current.block) (first_block mid h.current.function) r.f.pairs r.at z)) (sym g) ∙ (ap (λ (c : List Instr). r.number + length c) (sym rest_end) ∙ r.ends)

  end_here : (e : MidEnd) → r.block.end ≡ e → EndAt r.f h.current.block h.current.step e
  end_here e g = record { block = r.block; is_block = r.is_block; is_last = last; is_end = g }

  past : (xs : List MidStep) (n : ℕ) → length xs ≤ n → slice_get xs n ≡ None
  past [] n h = refl
  past (x ∷ xs) zero h = absurd (Rattle.std.proofs.Common.not-suc-le-zero h)
  past (x ∷ xs) (suc n) h = past xs n (Rattle.std.proofs.Common.le_of_suc-le-suc h)

  ends_to : (e : MidEnd) → r.block.end ≡ e → (blocks mid).step h ≡ (do_line (Some (EndLine e)) h, None)
  ends_to e g = high_step mid h (EndLine e) r.going (line_is mid h r.f r.block r.is_function r.is_block ∙
      (ap (λ (x : Option MidStep). Some (line_of x r.block.end)) (past r.block.steps h.current.step (Rattle.std.proofs.Common.le_of_eq (sym last))) ∙ ap (λ (x : MidEnd). Some (EndLine x)) g))

  -- the same call goes on at a block
  goes_on_at : (to : ℕ) (a : Sight) (m : State) → BlockThere r.f r.at to → Before p.text (x.place (first_block mid h.current.function + to)) 0 m → Tripled (cells mid) m a → Near r.a a → ((v : ℕ) → Wanted r.f to 0 v → Wanted r.f h.current.block h.current.step v) → R mid places p x input (goes_to h to) m
  goes_on_at to a m there before tripled near flows =
      let n : ℕ = x.place (first_block mid h.current.function + to) in
      let more : List Instr = rest_code x.at mid h.current.function to r.f r.at there.block 0 in (
        zero,
        m,
        refl,
        record {
          going = r.going;
          f = r.f;
          at = r.at;
          block = there.block;
          is_function = r.is_function;
          is_places = r.is_places;
          is_block = there.is_block;
          within = Rattle.std.proofs.Common.zero-le;
          a = a;
          top = r.top;
          number = n;
          stands = subst (λ (c : List Instr). Stands p.text n (c ++ more)) there.plain_start (x.block h.current.function to r.f r.at there.block r.is_function r.is_places there.is_block);
          ends = ap (λ (c : List Instr). n + length (c ++ more)) (sym there.plain_start) ∙ x.behind h.current.function to r.f r.at there.block r.is_function r.is_places there.is_block;
          before = before;
          tripled = tripled;
          frame = near_frame (cells mid) r.f.pairs r.top r.a a near r.frame;
          above = r.above;
          holds = near_holds r.at (Wanted r.f h.current.block h.current.step) (Wanted r.f to 0) h.current.variables r.top r.a a flows near r.holds;
          globals = globals_same mid h.globals r.a a (λ c k. near.cell c) r.globals;
          waits = waits_kept mid places p.text x.place r.a a r.f.pairs h.current.function h.current.result r.top h.callers (near_outside mid r.f.pairs r.top r.a a near) r.waits;
          feed = r.feed ∙ (ap (λ (y : ℕ). drop y r.a.feed) (sym near.fed) ∙ ap (λ (y : List ℕ). drop a.fed y) (sym near.feed));
          all = near.feed ∙ r.all;
        },
      )

  block_at : (to : ℕ) → BlockThere r.f r.at to → x.at (first_block mid h.current.function + to) ≡ address (x.place (first_block mid h.current.function + to))
  block_at to there = x.at_block h.current.function to r.f there.block r.is_function there.is_block

  block_low : (to : ℕ) → BlockThere r.f r.at to → x.place (first_block mid h.current.function + to) < 66060288
  block_low to there = low_block mid places p x h.current.function to r.f r.at there.block r.is_function r.is_places there.is_block

  jump_stage : (to : ℕ) → r.block.end ≡ Jump to → StageOf mid places p x input h l
  jump_stage to e =
      let there : BlockThere r.f r.at to = wired.jump_there h.current.function h.current.block h.current.step to r.f r.at r.is_function r.is_places (end_here (Jump to) e) in
      let m : ℕ = x.place (first_block mid h.current.function + to) in
      let w : Stands p.text r.number (jump_code (address m)) = subst (λ (a : ℕ). Stands p.text r.number (jump_code a)) (block_at to there) (end_stands (Jump to) e) in
      let y : Landed p.text m l = jumps p.text r.number m l r.before w (room (suc r.number) (length p.text) p.is_text (slice_get_within p.text (suc r.number) w.1.0.0 w.1.0.1)) (block_low to there) in
      stage_silent mid places p x input h (goes_to h to) l y.now 1 r.going y.leads (ends_to (Jump to) e)
      (goes_on_at to r.a y.now there y.before (y.keeps (cells mid) r.a r.tripled) (near_self r.a) (λ v w. flow.jump_on h.current.block h.current.step v to (end_here (Jump to) e) w))
    where
      room : (k n : ℕ) → n ≤ 66060288 → k < n → k < 66060288
      room k n t h = omega arith

  -- where a branch goes
  branch_way : (v to : ℕ) (when : Bool) (a1 : Sight) (there : BlockThere r.f r.at to × BlockThere r.f r.at (h.current.block + 1)) (y : Done p.text (Good p.text) (cells mid) r.number (fetched (place_of r.at v) 0) l a1) → RoleFits (source (place_of r.at v) 0) → r.block.end ≡ Branch v when to → (z : Bool) → is_taken when (a1.file (source (place_of r.at v) 0)) ≡ z →
      Arrives p.text (cells mid) (x.place (first_block mid h.current.function + cond z to (h.current.block + 1))) y.now a1
  branch_way v to when a1 there y fits e z t =
      let pl : Place = place_of r.at v in
      let rl : Role = source pl 0 in
      let m : ℕ = x.place (first_block mid h.current.function + to) in
      let c : List Instr = fetched pl 0 in
      let w : Stands p.text r.number (c ++ branch_code when rl (address m)) = subst (λ (a : ℕ). Stands p.text r.number (c ++ branch_code when rl a)) (block_at to there.0) (end_stands (Branch v when to) e) in
      let k : ℕ = r.number + length c in
      let total : k + length (branch_code when rl (address m)) ≡ x.place (first_block mid h.current.function + (h.current.block + 1)) =
      behind_both r.number c (branch_code when rl (address m)) ∙ (ap (λ (a : ℕ). r.number + length (c ++ branch_code when rl a)) (sym (block_at to there.0)) ∙ end_ends (Branch v when to) e) in
      let n : ℕ = x.place (first_block mid h.current.function + (h.current.block + 1)) in
      subst (λ (o : ℕ). Arrives p.text (cells mid) o y.now a1) (either z (λ o. x.place (first_block mid h.current.function + o)) to (h.current.block + 1))
      (by_way p (cells mid) k m n when rl a1 y.now fits (stands_rest p.text r.number c (branch_code when rl (address m)) w) total (block_low to there.0) (block_low (h.current.block + 1) there.1) y.before y.tripled z t)
    where
      either : (z : Bool) (f : ℕ → ℕ) (u v : ℕ) → cond z (f u) (f v) ≡ f (cond z u v)
      either true f u v = refl
      either false f u v = refl

  branch_stage : (v to : ℕ) (when : Bool) → r.block.end ≡ Branch v when to → ProperLine (EndLine (Branch v when to)) h.current.variables h.globals → StageOf mid places p x input h l
  branch_stage v to when e proper =
      let B : MidEnd = Branch v when to in
      let q : ReadsWord r.f r.at h.current.variables r.top r.a v = reads_word mid places p x input h l r v flow (flow.end_read h.current.block h.current.step v B (end_here B e) (first_of_list v [])) proper.reads_written.0 in
      let pl : Place = place_of r.at v in
      let a1 : Sight = fetch r.a r.top pl 0 in
      let near : Near r.a a1 = fetch_near r.a r.top pl 0 Rattle.std.proofs.Common.zero-le in
      let c : List Instr = fetched pl 0 in
      let y : Done p.text (Good p.text) (cells mid) r.number c l a1 = does_fetched p (cells mid) r.f.pairs r.top 0 pl r.a Rattle.std.proofs.Common.zero-le r.frame q.stands.fits r.number l
      (stands_first p.text r.number c (branch_code when (source pl 0) (x.at (first_block mid h.current.function + to))) (end_stands B e)) r.before r.tripled in
      let fits : RoleFits (source pl 0) = source_fits r.f.pairs pl 0 Rattle.std.proofs.Common.zero-le q.stands.fits in
      let z : Bool = is_taken when (a1.file (source pl 0)) in
      let word : a1.file (source pl 0) ≡ q.word = fetch_word r.a r.top pl 0 ∙ q.stands.word in
      let there : BlockThere r.f r.at to × BlockThere r.f r.at (h.current.block + 1) = wired.branch_there h.current.function h.current.block h.current.step v to when r.f r.at r.is_function r.is_places (end_here B e) in
      let g : Arrives p.text (cells mid) (x.place (first_block mid h.current.function + cond z to (h.current.block + 1))) y.now a1 = branch_way v to when a1 there y fits e z refl in
      let lead : Leads machine (Good p.text) (suc (y.steps + g.steps)) l g.now =
      subst (λ (k : ℕ). Leads machine (Good p.text) k l g.now) (Rattle.std.proofs.Common.add-suc y.steps g.steps) (leads_on machine (Good p.text) y.steps (suc g.steps) l y.now g.now y.leads g.leads) in
      let test : is_taken when (word_in h.current.variables v) ≡ z = ap (λ (w : ℕ). is_taken when w) (q.value ∙ sym word) in
      stage_silent mid places p x input h (goes_to h (cond z to (h.current.block + 1))) l g.now (y.steps + g.steps) r.going lead
      (ends_to B e ∙ ap (λ (w : Bool). let o : BlockState × Option ℕ = (goes_to h (cond w to (h.current.block + 1)), None) in o) test)
      (elim z as (λ w. Before p.text (x.place (first_block mid h.current.function + cond w to (h.current.block + 1))) 0 g.now → R mid places p x input (goes_to h (cond w to (h.current.block + 1))) g.now) [
        | true ↦ λ b. goes_on_at to a1 g.now there.0 b g.tripled near (λ u w. flow.branch_to h.current.block h.current.step u v to when (end_here B e) w)
        | false ↦ λ b. goes_on_at (h.current.block + 1) a1 g.now there.1 b g.tripled near (λ u w. flow.branch_on h.current.block h.current.step u v to when (end_here B e) w)
      ] g.before)

  -- ---- a call

  next_number : (n b : ℕ) → n + b + 1 ≡ n + (b + 1)
  next_number n b = Rattle.std.proofs.Common.add_assoc n b 1

  all_stand : (vs : List ℕ) → ((k : ℕ) (u : ℕ) → k < length vs → StandsIn r.f.pairs r.a r.top (place_of r.at (slice_index_or vs k u)) (word_in h.current.variables (slice_index_or vs k u))) → AllStand r.f.pairs r.at r.a r.top vs (map (word_in h.current.variables) vs)
  all_stand [] g = tt
  all_stand (v ∷ vs) g = (g 0 v (Rattle.std.proofs.Common.zero-lt-suc (length vs)), all_stand vs (λ k u x. g (suc k) u (Rattle.std.proofs.Common.suc-le-suc x)))

  there_in : (xs : List ℕ) (k u : ℕ) → k < length xs → slice_index_or xs k u ≡ slice_index_or xs k (slice_index_or xs k u)
  there_in [] k u h = absurd (Rattle.std.proofs.Common.not-suc-le-zero h)
  there_in (x ∷ xs) zero u h = refl
  there_in (x ∷ xs) (suc k) u h = there_in xs k u (Rattle.std.proofs.Common.le_of_suc-le-suc h)

  some_at : (xs : List ℕ) (k : ℕ) → k < length xs → (w : ℕ) × (slice_get xs k ≡ Some w)
  some_at [] k h = absurd (Rattle.std.proofs.Common.not-suc-le-zero h)
  some_at (x ∷ xs) zero h = (x, refl)
  some_at (x ∷ xs) (suc k) h = some_at xs k (Rattle.std.proofs.Common.le_of_suc-le-suc h)

  params_le : (n pairs : ℕ) → ((j : ℕ) → j < n → j + 1 < pairs) → n ≤ pairs
  params_le zero pairs g = Rattle.std.proofs.Common.zero-le
  params_le (suc n) pairs g = Rattle.std.proofs.Common.le_of_lt (subst (λ (x : ℕ). x < pairs) (Rattle.std.proofs.Common.add-one n) (g n (le_refl (suc n))))

  call_stage : (g : ℕ) (args : List ℕ) (result : Option ℕ) → r.block.end ≡ Call g args result → ProperLine (EndLine (Call g args result)) h.current.variables h.globals →
      ((f' : MidFunction) → slice_get mid.functions g ≡ Some f' → f'.pairs + global_cells mid ≤ r.top) → StageOf mid places p x input h l
  call_stage g args result e proper deep =
      let C : MidEnd = Call g args result in
      let here : EndAt r.f h.current.block h.current.step C = end_here C e in
      let callee : (f' : MidFunction) × (at' : Places) × (block : MidBlock) × (slice_get mid.functions g ≡ Some f') × (slice_get places g ≡ Some at') × (slice_get f'.blocks 0 ≡ Some block) × (length args ≡ f'.params) = wired.callee_there h.current.function h.current.block h.current.step g args result r.f r.is_function here in
      let f' : MidFunction = callee.0 in
      let at' : Places = callee.1 in
      let blk : MidBlock = callee.2 in
      let flow' : Flow f' at' = set.flows g f' at' callee.3 callee.4 in
      let vars : Variables = h.current.variables in
      let ws : List ℕ = map (word_in vars) args in
      let many : length ws ≡ f'.params = Rattle.std.proofs.lemmas.List.length-map args (word_in vars) ∙ callee.6 in
      let pairs' : ℕ = f'.pairs in
      let fewer : f'.params ≤ pairs' = params_le f'.params pairs' (λ j x. (flow'.parameter_fits j x).0) in
      let room : pairs' + global_cells mid ≤ r.top = deep f' callee.3 in
      let n : ℕ = first_block mid h.current.function in
      let b : ℕ = n + h.current.block in
      let stand : AllStand r.f.pairs r.at r.a r.top args ws = all_stand args (λ k u i.
      let v : ℕ = slice_index_or args k u in
      let q : ReadsWord r.f r.at vars r.top r.a v = reads_word mid places p x input h l r v flow (flow.end_read h.current.block h.current.step v C here (k, i, sym (there_in args k u i))) (each_written vars args proper.reads_written k u i) in
      subst (λ (w : ℕ). StandsIn r.f.pairs r.a r.top (place_of r.at v) w) (sym q.value) q.stands) in
      let argd : (a' : Sight) × Does p (cells mid) (argument_code r.at 0 args) r.a a' × Argued r.a a' r.top 0 ws = arguments p (cells mid) r.f.pairs r.top r.at 0 args ws r.a r.frame stand (few_words (length ws) f'.params pairs' (global_cells mid) r.top many fewer room) (few_enough (length ws) f'.params pairs' many fewer flow'.pairs_fit) in
      let a1 : Sight = argd.0 in
      let g1 : Argued r.a a1 r.top 0 ws = argd.2 in
      let kb : ℕ = x.place (n + (h.current.block + 1)) in
      let a2 : Sight = put a1 Link (address kb) in
      let ac : List Instr = argument_code r.at 0 args in
      let next : (block : MidBlock) × (slice_get r.f.blocks (h.current.block + 1) ≡ Some block) = wired.call_goes_on h.current.function h.current.block h.current.step g args result r.f r.is_function here in
      let m0 : ℕ = x.place (first_block mid g + 0) in
      let to_is : x.at (first_block mid g) ≡ address m0 = ap (λ (k : ℕ). x.at k) (sym (add-zero (first_block mid g))) ∙ x.at_block g 0 f' blk callee.3 callee.5 in
      let back_is : x.at (b + 1) ≡ address kb = ap (λ (k : ℕ). x.at k) (next_number n h.current.block) ∙ x.at_block h.current.function (h.current.block + 1) r.f next.0 r.is_function next.1 in
      let cc0 : List Instr = call_code (x.at (first_block mid g)) (x.at (b + 1)) in
      let cc1 : List Instr = call_code (address m0) (address kb) in
      let same : cc0 ≡ cc1 = ap (λ (k : ℕ). call_code k (x.at (b + 1))) to_is ∙ ap (λ (k : ℕ). call_code (address m0) k) back_is in
      let w : Stands p.text r.number (ac ++ cc1) = subst (λ (c : List Instr). Stands p.text r.number (ac ++ c)) same (end_stands C e) in
      let y : Done p.text (Good p.text) (cells mid) r.number ac l a1 = argd.1 r.number l (stands_first p.text r.number ac cc1 w) r.before r.tripled in
      let w2 : Stands p.text (r.number + length ac) cc1 = stands_rest p.text r.number ac cc1 w in
      let kb_is : kb ≡ r.number + length ac + 6 = sym (behind_both r.number ac cc0 ∙ end_ends C e) in
      let g0 : Arrives p.text (cells mid) m0 y.now a2 = goes_call p (cells mid) (r.number + length ac) m0 (address kb) a1 y.now (ap (λ (k : ℕ). address k) kb_is) (low_block mid places p x g 0 f' at' blk callee.3 callee.4 callee.5) w2 y.before y.tripled in
      let behind : BehindCall p.text kb = subst (λ (k : ℕ). BehindCall p.text k) (sym kb_is) (behind_call p (r.number + length ac) (address m0) (address kb) w2) in
      let sa : StackAt (cells mid) r.top a2 = record { stack = g1.file Stack tt ∙ r.frame.stack; room = top_room r.top r.f.pairs (cells mid) r.frame.room; small = r.frame.small } in
      let cell_at : (j : ℕ) → j < f'.params → (w : ℕ) × (slice_get ws j ≡ Some w) × (a2.cell (r.top - pairs' + (pairs' - (j + 1))) ≡ w) =
      (λ j y.
      let w : (w : ℕ) × (slice_get ws j ≡ Some w) = some_at ws j (subst (λ (m : ℕ). j < m) (sym many) y) in
      (w.0, w.1, ap (λ (m : ℕ). a1.cell m) (cell_same r.top pairs' j (global_cells mid) room (flow'.parameter_fits j y).0) ∙ g1.there j w.0 w.1)) in
      let en : (a' : Sight) × Does p (cells mid) (enter_code at' pairs' f'.params) a2 a' × Entered a2 a' at' pairs' f'.params (r.top - pairs') (address kb) =
      enters p (cells mid) r.top pairs' f'.params (address kb) at' a2 sa flow'.has_pair flow'.pairs_fit (pairs_top pairs' (global_cells mid) r.top room) refl
      (λ j y. ((flow'.parameter_fits j y).0, (flow'.parameter_fits j y).1)) flow'.parameters_apart in
      let a3 : Sight = en.0 in
      let z : Entered a2 a3 at' pairs' f'.params (r.top - pairs') (address kb) = en.2 in
      let top' : ℕ = r.top - pairs' in
      let ec : List Instr = enter_code at' pairs' f'.params in
      let more : List Instr = rest_code x.at mid g 0 f' at' blk 0 in
      let wb : Stands p.text m0 (ec ++ more) = x.block g 0 f' at' blk callee.3 callee.4 callee.5 in
      let u : Done p.text (Good p.text) (cells mid) m0 ec g0.now a3 = en.1 m0 g0.now (stands_first p.text m0 ec more wb) g0.before g0.tripled in
      let m : State = u.now in
      let current' : Active = entry g ws result in
      let waiting : Active = run.at_block h.current (h.current.block + 1) in
      let h' : BlockState = record h { current = current'; callers = waiting ∷ h.callers } in
      let whole : top' + pairs' ≡ r.top = back_up r.top pairs' (global_cells mid) room in
      let high : (c : ℕ) → r.top ≤ c → a3.cell c ≡ r.a.cell c =
      (λ c k. z.cell c (above_new r.top pairs' (global_cells mid) c room flow'.has_pair k) ∙ g1.above c (minus_zero r.top c k)) in
      let low : (c : ℕ) → c < global_cells mid → a3.cell c ≡ r.a.cell c =
      (λ c k. z.cell c (below_new r.top pairs' (global_cells mid) c room k) ∙ g1.below c (below_args r.top pairs' (length ws) f'.params (global_cells mid) c many fewer room k)) in
      let related : Related mid places p x input h' m = record {
        going = r.going;
        f = f';
        at = at';
        block = blk;
        is_function = callee.3;
        is_places = callee.4;
        is_block = callee.5;
        within = Rattle.std.proofs.Common.zero-le;
        a = a3;
        top = top';
        number = m0 + length ec;
        stands = stands_rest p.text m0 ec more wb;
        ends = behind_both m0 ec more ∙ x.behind g 0 f' at' blk callee.3 callee.4 callee.5;
        before = u.before;
        tripled = u.tripled;
        frame = record { stack = z.stack; room = subst (λ (k : ℕ). k ≤ cells mid) (sym whole) sa.room; small = r.frame.small; pairs_fit = flow'.pairs_fit };
        above = above_globals r.top pairs' (global_cells mid) room;
        holds = record {
          word = λ v w n' q. parameter_word at' f' flow' a2 a3 ws top' (address kb) z many v w q (λ j k. cell_at j k);
        };
        globals = globals_same mid h.globals r.a a3 low r.globals;
        waits = (
          r.f,
          r.at,
          record {
            is_function = r.is_function;
            is_places = r.is_places;
            caller = h.current.block;
            is_behind = refl;
            args = args;
            calls = (h.current.step, here);
            block = next.0;
            is_block = next.1;
            at_start = refl;
            number = z.link_cell;
            behind = behind;
            room = subst (λ (k : ℕ). k + r.f.pairs ≤ cells mid) (sym whole) r.frame.room;
            holds = λ v w n' ne q.
                let c : Wanted r.f h.current.block h.current.step v × ((s : ℕ) × (place_of r.at v ≡ Slot s)) = flow.call_on h.current.block h.current.step v g args result here ne n' in
                let s : ℕ = c.1.0 in
                let is : in_place r.a r.top (Slot s) ≡ w = subst (λ (pl : Place). in_place r.a r.top pl ≡ w) c.1.1 (r.holds.word v w c.0 q) in
                let up : r.top ≤ r.top + (s + 1) = slot_above r.top s in
                (s, c.1.1, ap (λ (k : ℕ). a3.cell (k + (s + 1))) whole ∙ (high (r.top + (s + 1)) up ∙ is));
          },
          subst (λ (k : ℕ). Waits mid places p.text x.place a3 r.f.pairs h.current.function h.current.result k h.callers) (sym whole)
              (waits_kept mid places p.text x.place r.a a3 r.f.pairs h.current.function h.current.result r.top h.callers (record { cell = λ c o. high c (at_or_above r.top r.f.pairs c o) }) r.waits),
        );
        feed = r.feed ∙ (ap (λ (k : ℕ). drop k r.a.feed) (sym (z.fed ∙ g1.fed)) ∙ ap (λ (k : List ℕ). drop a3.fed k) (sym (z.feed ∙ g1.feed)));
        all = z.feed ∙ (g1.feed ∙ r.all);
      } in
      stage_silent mid places p x input h h' l g0.now (y.steps + g0.steps) r.going
      (subst (λ (k : ℕ). Leads machine (Good p.text) k l g0.now) (Rattle.std.proofs.Common.add-suc y.steps g0.steps) (leads_on machine (Good p.text) y.steps (suc g0.steps) l y.now g0.now y.leads g0.leads)) (ends_to C e)
      (u.steps, m, u.leads, related)
    where
      few_words : (n q pairs g t : ℕ) → n ≡ q → q ≤ pairs → pairs + g ≤ t → 0 + n ≤ t
      few_words n q pairs g t e h k = omega arith

      few_enough : (n q pairs : ℕ) → n ≡ q → q ≤ pairs → pairs ≤ 2002 → 0 + n ≤ 2002
      few_enough n q pairs e h k = omega arith

      top_room : (t q s : ℕ) → t + q ≤ s → t ≤ s
      top_room t q s h = omega arith

      pairs_top : (q g t : ℕ) → q + g ≤ t → q ≤ t
      pairs_top q g t h = omega arith

      cell_same : (t q j g : ℕ) → q + g ≤ t → j + 1 < q → t - q + (q - (j + 1)) ≡ t - (0 + j + 1)
      cell_same t q j g h k = omega arith

      back_up : (t q g : ℕ) → q + g ≤ t → t - q + q ≡ t
      back_up t q g h = omega arith

      above_new : (t q g c : ℕ) → q + g ≤ t → 1 ≤ q → t ≤ c → c ≢ t - q
      above_new t q g c h k l = λ e. omega arith

      minus_zero : (t c : ℕ) → t ≤ c → t - 0 ≤ c
      minus_zero t c h = omega arith

      below_new : (t q g c : ℕ) → q + g ≤ t → c < g → c ≢ t - q
      below_new t q g c h k = λ e. omega arith

      below_args : (t q n m g c : ℕ) → n ≡ m → m ≤ q → q + g ≤ t → c < g → c < t - (0 + n)
      below_args t q n m g c e h k l = omega arith

      above_globals : (t q g : ℕ) → q + g ≤ t → g ≤ t - q
      above_globals t q g h = omega arith

      slot_above : (t s : ℕ) → t ≤ t + (s + 1)
      slot_above t s = omega arith

      at_or_above : (t q c : ℕ) → (c ≡ t) ⊎ (t + q ≤ c) → t ≤ c
      at_or_above t q c (inl e) = omega arith
      at_or_above t q c (inr k) = omega arith

      some_same : (x y : ℕ) → ◌≡◌ {A = Option ℕ} (Some x) (Some y) → x ≡ y
      some_same x y e = ap (λ (o : Option ℕ). elim o as (λ z. ℕ) [ Some v ↦ v | None ↦ 0 ]) e

      slot_cell : (q j : ℕ) → j + 1 < q → q - 2 - j + 1 ≡ q - (j + 1)
      slot_cell q j h = omega arith

      slot_off : (t q j : ℕ) → j + 1 < q → t + (q - (j + 1)) ≢ t
      slot_off t q j h = λ e. omega arith

      parameter_word : (at' : Places) (f' : MidFunction) → Flow f' at' → (a2 a3 : Sight) (ws : List ℕ) (t back : ℕ) → Entered a2 a3 at' f'.pairs f'.params t back → length ws ≡ f'.params → (v w : ℕ) → slice_get ws v ≡ Some w →
          ((j : ℕ) → j < f'.params → (w : ℕ) × (slice_get ws j ≡ Some w) × (a2.cell (t + (f'.pairs - (j + 1))) ≡ w)) → in_place a3 t (place_of at' v) ≡ w
      parameter_word at' f' flow' a2 a3 ws t back z many v w q cells_are =
          let j : v < f'.params = subst (λ (k : ℕ). v < k) many (slice_get_within ws v w q) in
          let c : (w : ℕ) × (slice_get ws v ≡ Some w) × (a2.cell (t + (f'.pairs - (v + 1))) ≡ w) = cells_are v j in
          let is : a2.cell (t + (f'.pairs - (v + 1))) ≡ w = c.2 ∙ some_same c.0 w (sym c.1 ∙ q) in
          by_place (place_of at' v) refl j is
        where
          by_place : (pl : Place) → place_of at' v ≡ pl → v < f'.params → a2.cell (t + (f'.pairs - (v + 1))) ≡ w → in_place a3 t pl ≡ w
          by_place (Pair k) e j is = z.there v k j e ∙ is
          by_place (Slot s) e j is =
              let fits : v + 1 < f'.pairs = (flow'.parameter_fits v j).0 in
              ap (λ (x : ℕ). a3.cell (t + x)) (ap (λ (x : ℕ). x + 1) (flow'.parameter_slot v s j e) ∙ slot_cell f'.pairs v fits) ∙ (z.cell (t + (f'.pairs - (v + 1))) (slot_off t f'.pairs v fits) ∙ is)

  -- ---- a return

  -- the word that is returned, in the first value
  returned : (from : Option ℕ) → r.block.end ≡ Return from → ProperLine (EndLine (Return from)) h.current.variables h.globals →
      (w : ℕ) × (index_in h.current.variables from ≡ w) × Does p (cells mid) (returned_code r.at from) r.a (put r.a (Value 0) w)
  returned None e proper = (0, refl, returns_zero p (cells mid) r.at r.a)
  returned (Some v) e proper =
      let q : ReadsWord r.f r.at h.current.variables r.top r.a v = reads_word mid places p x input h l r v flow (flow.end_read h.current.block h.current.step v (Return (Some v)) (end_here (Return (Some v)) e) (first_of_list v [])) proper.reads_written.0 in
      (q.word, q.value, returns_word p (cells mid) r.f.pairs r.top q.word r.at v r.a r.frame q.stands)

  -- the way of a return, to the word whose address is there
  return_way : (from : Option ℕ) (m : ℕ) → r.block.end ≡ Return from → ProperLine (EndLine (Return from)) h.current.variables h.globals → r.a.cell r.top ≡ address m → BehindCall p.text m → m < 66060288 →
      (w : ℕ) × (index_in h.current.variables from ≡ w) × (a : Sight) × (Returned r.a a r.top r.f.pairs w (address m)) × Arrives p.text (cells mid) m l a
  return_way from m e proper number behind low =
      let q : (w : ℕ) × (index_in h.current.variables from ≡ w) × Does p (cells mid) (returned_code r.at from) r.a (put r.a (Value 0) w) = returned from e proper in
      let first : List Instr = returned_code r.at from in
      let ld : List Instr = load Link Stack 0 in
      let up : List Instr = each (λ t. mips.Addiu (reg_in t Stack) (reg_in t Stack) (16 * r.f.pairs)) in
      let tail : List Instr = vote Link ++ mips.Jr 31 ∷ nop ∷ [] in
      let go : (a' : Sight) × Does p (cells mid) (leaving first r.f.pairs) r.a a' × Returned r.a a' r.top r.f.pairs q.0 (address m) = leaves p (cells mid) r.f.pairs r.top q.0 (address m) first r.a r.frame flow.has_pair q.2 number in
      let z : Returned r.a go.0 r.top r.f.pairs q.0 (address m) = go.2 in
      let same : leaving first r.f.pairs ++ tail ≡ end_code x.at (first_block mid) (first_block mid h.current.function + h.current.block) (first_block mid h.current.function) r.f.pairs r.at (Return from) =
      append_assoc first (ld ++ up) tail ∙ ap (λ (v : List Instr). first ++ v) (append_assoc ld up tail) in
      let w : Stands p.text r.number (leaving first r.f.pairs ++ tail) = subst (λ (c : List Instr). Stands p.text r.number c) (sym same) (end_stands (Return from) e) in
      let y : Done p.text (Good p.text) (cells mid) r.number (leaving first r.f.pairs) l go.0 = go.1 r.number l (stands_first p.text r.number (leaving first r.f.pairs) tail w) r.before r.tripled in
      let g : Arrives p.text (cells mid) m y.now go.0 = goes_return p (cells mid) m go.0 z.target behind low (r.number + length (leaving first r.f.pairs)) y.now (stands_rest p.text r.number (leaving first r.f.pairs) tail w) y.before y.tripled in (
        q.0,
        q.1,
        go.0,
        z,
        record {
          now = g.now;
          steps = y.steps + g.steps;
          leads = subst (λ (n : ℕ). Leads machine (Good p.text) n l g.now) (Rattle.std.proofs.Common.add-suc y.steps g.steps) (leads_on machine (Good p.text) y.steps (suc g.steps) l y.now g.now y.leads g.leads);
          before = g.before;
          tripled = g.tripled;
        },
      )

  -- main returns
  exit_stage : (from : Option ℕ) → r.block.end ≡ Return from → ProperLine (EndLine (Return from)) h.current.variables h.globals → h.callers ≡ [] → Waits mid places p.text x.place r.a r.f.pairs h.current.function h.current.result r.top [] → StageOf mid places p x input h l
  exit_stage from e proper none waits =
      let low : x.place 1 < 66060288 = low_of p.text (x.place 1) exit_code p.is_text x.exit exit_some in
      let g : (w : ℕ) × (index_in h.current.variables from ≡ w) × (a : Sight) × (Returned r.a a r.top r.f.pairs w (address (x.place 1))) × Arrives p.text (cells mid) (x.place 1) l a = return_way from (x.place 1) e proper waits.1 waits.2 low in
      let w : ℕ = g.0 in
      let y : Arrives p.text (cells mid) (x.place 1) l g.2 = g.4 in
      let s : Stops p.text y.now (machine_end.Exited (g.2.file (Value 0))) = stops_exit p (cells mid) g.2 (x.place 1) y.now (stands_first p.text (x.place 1) (service_code 17) (mips.Break 0 ∷ []) x.exit) y.before y.tripled in
      let s' : Stops p.text l (machine_end.Exited w) = record {
        last = s.last;
        steps = suc y.steps + s.steps;
        leads = leads_on machine (Good p.text) (suc y.steps) s.steps l y.now s.last y.leads s.leads;
        open_ = s.open_;
        good = s.good;
        ends = s.ends ∙ ap (λ (v : ℕ). Some (machine_end.Exited v)) g.3.word;
        silent = s.silent;
      } in
      stage_over mid places p x input h (ends h (ended.Exited w)) l (machine_end.Exited w) r.going s'
      (ends_to (Return from) e ∙ (ap (λ (cs : List Active). let o : BlockState × Option ℕ = (returns h cs (index_in h.current.variables from), None) in o) none ∙ ap (λ (v : ℕ). let o : BlockState × Option ℕ = (ends h (ended.Exited v), None) in o) g.1)) refl

  -- a caller goes on
  back_stage : (from : Option ℕ) (c : Active) (cs : List Active) → r.block.end ≡ Return from → ProperLine (EndLine (Return from)) h.current.variables h.globals → h.callers ≡ c ∷ cs → Waits mid places p.text x.place r.a r.f.pairs h.current.function h.current.result r.top (c ∷ cs) → StageOf mid places p x input h l
  back_stage from c cs e proper some waits =
      let f0 : MidFunction = waits.0 in
      let at0 : Places = waits.1 in
      let wt : Waiter mid places p.text x.place r.a r.f.pairs h.current.function h.current.result r.top c f0 at0 = waits.2 in
      let t : ℕ = x.place (first_block mid c.function + c.block) in
      let flow0 : Flow f0 at0 = set.flows c.function f0 at0 wt.is_function wt.is_places in
      let low : t < 66060288 = low_block mid places p x c.function c.block f0 at0 wt.block wt.is_function wt.is_places wt.is_block in
      let g : (w : ℕ) × (index_in h.current.variables from ≡ w) × (a : Sight) × (Returned r.a a r.top r.f.pairs w (address t)) × Arrives p.text (cells mid) t l a = return_way from t e proper wt.number wt.behind low in
      let w : ℕ = g.0 in
      let a3 : Sight = g.2 in
      let z : Returned r.a a3 r.top r.f.pairs w (address t) = g.3 in
      let v : Arrives p.text (cells mid) t l a3 = g.4 in
      let top1 : ℕ = r.top + r.f.pairs in
      let result : Option ℕ = h.current.result in
      let rc : List Instr = result_code at0 result in
      let more : List Instr = rest_code x.at mid c.function c.block f0 at0 wt.block 0 in
      let start_is : start_code f0 at0 c.block ≡ rc =
      ap (λ (k : ℕ). start_code f0 at0 k) (wt.is_behind ∙ Rattle.std.proofs.Common.add-one wt.caller) ∙
      (ap (λ (y : Option MidBlock). behind_block at0 y) wt.calls.1.is_block ∙ ap (λ (y : MidEnd). behind_end at0 y) wt.calls.1.is_end) in
      let wb : Stands p.text t (rc ++ more) = subst (λ (k : List Instr). Stands p.text t (k ++ more)) start_is (x.block c.function c.block f0 at0 wt.block wt.is_function wt.is_places wt.is_block) in
      let frame : Frame (cells mid) f0.pairs top1 a3 = record { stack = z.stack; room = wt.room; small = r.frame.small; pairs_fit = flow0.pairs_fit } in
      let base : Holds at0 (λ v. Wanted f0 c.block 0 v × (result ≢ Some v)) c.variables top1 a3 = record {
        word = λ v y n q. slot_word at0 a3 top1 v y (let s : (s : ℕ) × (place_of at0 v ≡ Slot s) × (r.a.cell (top1 + (s + 1)) ≡ y) = wt.holds v y n.0 n.1 q in (s.0, s.1, z.cell (top1 + (s.0 + 1)) ∙ s.2));
      } in
      let made : MadeResult mid p at0 f0 c result top1 w a3 = make_result_of mid p c f0 at0 result top1 w a3 frame z.word base
      (λ y q. flow0.result_fits wt.caller wt.calls.0 y h.current.function wt.args (by_result f0 wt.caller wt.calls.0 wt.args result y q wt.calls.1))
      (λ o y q n ne. flow0.result_apart wt.caller wt.calls.0 o y h.current.function wt.args (by_result f0 wt.caller wt.calls.0 wt.args result o q wt.calls.1) (subst (λ (k : ℕ). Wanted f0 k 0 y) wt.is_behind n) ne) in
      let y : Done p.text (Good p.text) (cells mid) t rc v.now made.now = made.does t v.now (stands_first p.text t rc more wb) v.before v.tripled in
      let current' : Active = record c { variables = with_result c.variables result w } in
      let h' : BlockState = record h { current = current'; callers = cs } in
      let g3 : GlobalsHold mid h.globals a3 = globals_same mid h.globals r.a a3 (λ q k. z.cell q) r.globals in
      let step_is : (k : ℕ) → Type 0 = λ k. (Stands p.text (t + length rc) (rest_code x.at mid c.function c.block f0 at0 wt.block k)) × (t + length rc + length (rest_code x.at mid c.function c.block f0 at0 wt.block k) ≡ x.place (first_block mid c.function + (c.block + 1))) in
      let rest : step_is c.step = subst step_is (sym wt.at_start) (
        stands_rest p.text t rc more wb,
        behind_both t rc more ∙ (ap (λ (k : List Instr). t + length (k ++ more)) (sym start_is) ∙ x.behind c.function c.block f0 at0 wt.block wt.is_function wt.is_places wt.is_block),
      ) in
      let related : Related mid places p x input h' y.now = record {
        going = r.going;
        f = f0;
        at = at0;
        block = wt.block;
        is_function = wt.is_function;
        is_places = wt.is_places;
        is_block = wt.is_block;
        within = subst (λ (k : ℕ). k ≤ length wt.block.steps) (sym wt.at_start) Rattle.std.proofs.Common.zero-le;
        a = made.now;
        top = top1;
        number = t + length rc;
        stands = rest.0;
        ends = rest.1;
        before = y.before;
        tripled = y.tripled;
        frame = record { stack = made.stack ∙ frame.stack; room = frame.room; small = frame.small; pairs_fit = frame.pairs_fit };
        above = le_trans r.above (up_le r.top r.f.pairs);
        holds = subst (λ (k : ℕ). Holds at0 (Wanted f0 c.block k) (with_result c.variables result w) top1 made.now) (sym wt.at_start) made.holds;
        globals = globals_same mid h.globals a3 made.now (λ q k. made.low q (Rattle.std.proofs.Common.lt_of_lt_of_le k (le_trans r.above (up_le r.top r.f.pairs)))) g3;
        waits = waits_kept mid places p.text x.place a3 made.now f0.pairs c.function c.result top1 cs made.outside (waits_kept mid places p.text x.place r.a a3 f0.pairs c.function c.result top1 cs (record { cell = λ q o. z.cell q }) waits.3);
        feed = r.feed ∙ (ap (λ (k : ℕ). drop k r.a.feed) (sym (made.fed ∙ z.fed)) ∙ ap (λ (k : List ℕ). drop made.now.fed k) (sym (made.feed ∙ z.feed)));
        all = made.feed ∙ (z.feed ∙ r.all);
      } in
      stage_silent mid places p x input h h' l v.now v.steps r.going v.leads
      (ends_to (Return from) e ∙ (ap (λ (xs : List Active). let o : BlockState × Option ℕ = (returns h xs (index_in h.current.variables from), None) in o) some ∙ ap (λ (v : ℕ). let o : BlockState × Option ℕ = (returns h (c ∷ cs) v, None) in o) g.1))
      (y.steps, y.now, y.leads, related)

  -- a return
  return_stage : (from : Option ℕ) → r.block.end ≡ Return from → ProperLine (EndLine (Return from)) h.current.variables h.globals → StageOf mid places p x input h l
  return_stage from e proper = by_callers h.callers refl r.waits
    where
      by_callers : (cs : List Active) → h.callers ≡ cs → Waits mid places p.text x.place r.a r.f.pairs h.current.function h.current.result r.top cs → StageOf mid places p x input h l
      by_callers [] g w = exit_stage from e proper g w
      by_callers (c ∷ cs) g w = back_stage from c cs e proper g w

  -- any end
  pub end_stage : (e : MidEnd) → r.block.end ≡ e → ProperLine (EndLine e) h.current.variables h.globals →
      ((g : ℕ) (args : List ℕ) (result : Option ℕ) (f' : MidFunction) → e ≡ Call g args result → slice_get mid.functions g ≡ Some f' → f'.pairs + global_cells mid ≤ r.top) → StageOf mid places p x input h l
  end_stage (Jump to) e proper deep = jump_stage to e
  end_stage (Branch v when to) e proper deep = branch_stage v to when e proper
  end_stage (Call g args result) e proper deep = call_stage g args result e proper (λ f' q. deep g args result f' refl q)
  end_stage (Return from) e proper deep = return_stage from e proper
