-- Each end of a block is a stage.
use Rattle.std.proofs.Common.{◌≡◌, ◌≢◌, ◌≤◌, ◌<◌, ℕ, zero, suc, ◌+◌, ◌-◌, ◌*◌, ◌/◌, ◌%◌, ◌^◌, arith, ap, refl, sym, ◌∙◌, subst, List, [], ◌∷◌, ◌++◌, append_assoc, append-nil, length, get_or, take, drop, map, Bool, true, false, cond, not, inl, inr, le_refl, le_trans, flat_map, add-zero}
use Rattle.std.specs.Prelude.{Option, Some, None, ◌⊎◌, slice_get, slice_index, slice_index_or, IsSome}
use Rattle.std.proofs.lemmas.Option.{slice_get_within}
use Rattle.std.proofs.lemmas.List.{drop_all}
use Rattle.hard_runs.specs.Stepping.{Leads}
use Rattle.hard_runs.proofs.Following.{leads_on}
use Rattle.mips_isa.specs.declared.instr.Instr.TheVariants as mips
use Rattle.mips_isa.specs.declared.instr.End.TheVariants as machine
use Rattle.mid_blocks.specs.declared.code.MidEnd.{MidEnd}
use Rattle.mid_blocks.specs.declared.code.MidEnd.TheVariants.{Jump, Branch, Call, Return}
use Rattle.mid_blocks.specs.declared.code.MidBlock.{MidBlock}
use Rattle.mid_blocks.specs.declared.code.MidFunction.{MidFunction}
use Rattle.mid_blocks.specs.declared.code.MidStep.{MidStep}
use Rattle.mid_blocks.specs.declared.code.Mid.{Mid}
use Rattle.mid_blocks.specs.declared.code.RunEnd.TheVariants as ended
use Rattle.mid_blocks.specs.declared.places.Place.{Place}
use Rattle.mid_blocks.specs.declared.places.Place.TheVariants.{Pair, Slot}
use Rattle.mid_blocks.specs.declared.places.Places.{Places}
use Rattle.mid_blocks.specs.Lines.{End as EndLine, line_of}
use Rattle.mid_blocks.specs.Run.{Active, BlockState, Variables, word_in, index_in, goes_to, is_taken, do_line, do_end, with_word, with_result, entry, returns, ends}
use Rattle.mid_blocks.specs.Run as run
use Rattle.mid_blocks.specs.Bounds.{ProperLine}
use Rattle.hard_items.specs.declared.code.Class.TheVariants as class
use Rattle.hard_items.specs.declared.code.Fix.TheVariants as fix
use Rattle.hard_items.specs.declared.code.Item.{Item}
use Rattle.hard_items.specs.declared.code.HardProgram.{HardProgram}
use Rattle.hard_items.specs.Forms.{going}
use Rattle.hard_items.specs.Streams.{nop, plain}
use Rattle.hard_items.specs.Run.{Data, Spot, items, before, at_block, items_of, Onward}
use Rattle.hard_items.specs.Ways.{MayFollow}
use Rattle.double_law.specs.declared.roles.Stream.TheVariants.{First}
use Rattle.double_law.specs.declared.roles.Role.TheVariants.{Value, Stack, Link}
use Rattle.double_law.specs.Roles.{reg_in, both, load}
use Rattle.double_law.specs.Emitted.{place_of, step_items, end_items, fetched, source, argument_items, call_items, returned_items, enter_items, result_items}
use Rattle.frame_plan.specs.Frames.{cell_address, global_cell, global_length, global_cells, cells}
use Rattle.double_law.specs.Program.{first_block, start_items, behind_block, behind_end, exit_items, IsDoubled}
use Rattle.double_law.specs.Runs.{blocks}
use Rattle.double_law.proofs.Doubled.{Pairs, Doubled, put}
use Rattle.double_law.proofs.Leading.{Good, Done, Does, does_then}
use Rattle.double_law.proofs.Control.{Goes, DoesGo, goes_then, goes_jump, goes_branch, goes_call, goes_return, brancher, taken, landed, Stops, stops_exit}
use Rattle.double_law.proofs.Places.{Frame, PlaceFits, in_place, Unnumbered, Near, SetsPlace, NotRole, Holds, near_frame, near_holds, sets_holds, fetch, does_fetched, fetch_near, fetch_word, source_fits, source_unlinked}
use Rattle.double_law.proofs.Steps.{Stands}
use Rattle.double_law.proofs.Calls.{Argued, AllStand, arguments, StackAt, Entered, enters, Returned, leaving, leaves, returns_word, returns_zero, ResultSet, result_set}
use Rattle.double_law.proofs.Relation.{Wanted, EndAt, Flow, GlobalsHold, Waiter, Waits, rest_items, Related, Outside, waits_kept, near_outside, sets_outside, globals_same}
use Rattle.double_law.proofs.Stages.{R, StageOf, stage_silent, stage_over, line_is, high_step, Setting}
use Rattle.double_law.proofs.InBlock.{ReadsWord, reads_word, first_of_list}

-- of each variable that is read
each_written : (vars : ℕ → Option ℕ) (args : List ℕ) → Rattle.std.specs.List.AllByRecursion (λ v. IsSome (vars v)) args → (k u : ℕ) → k < length args → IsSome (vars (get_or args k u))
each_written vars [] h k u l = absurd (Rattle.std.proofs.Common.not-suc-le-zero l)
each_written vars (x ∷ xs) h zero u l = h.0
each_written vars (x ∷ xs) h (suc k) u l = each_written vars xs h.1 k u (Rattle.std.proofs.Common.le_of_suc-le-suc l)

-- ---- what is there

-- A block of a function is there, and begins with its first line.
pub record BlockThere (f : MidFunction) (at : Places) (to : ℕ) : Type 0 where
  pub block : MidBlock
  pub is_block : slice_get f.blocks to ≡ Some block
  pub plain_start : start_items f at to ≡ []

-- What a valid program gives at the ends of its blocks.
pub record Wired (mid : Mid) (places : List Places) (p : HardProgram) : Type 0 where
  pub jump_there : (fn b n to : ℕ) (f : MidFunction) (at : Places) → slice_get mid.functions fn ≡ Some f → slice_get places fn ≡ Some at → EndAt f b n (Jump to) → BlockThere f at to
  pub branch_there : (fn b n v to : ℕ) (w : Bool) (f : MidFunction) (at : Places) → slice_get mid.functions fn ≡ Some f → slice_get places fn ≡ Some at → EndAt f b n (Branch v w to) → BlockThere f at to × BlockThere f at (b + 1)
  pub call_goes_on : (fn b n g : ℕ) (args : List ℕ) (result : Option ℕ) (f : MidFunction) → slice_get mid.functions fn ≡ Some f → EndAt f b n (Call g args result) → (block : MidBlock) × (slice_get f.blocks (b + 1) ≡ Some block)
  pub callee_there : (fn b n g : ℕ) (args : List ℕ) (result : Option ℕ) (f : MidFunction) → slice_get mid.functions fn ≡ Some f → EndAt f b n (Call g args result) → (f' : MidFunction) × (at' : Places) × (block : MidBlock) × (slice_get mid.functions g ≡ Some f') × (slice_get places g ≡ Some at') × (slice_get f'.blocks 0 ≡ Some block) × (length args ≡ f'.params)
  pub entry_is : (g : ℕ) (f : MidFunction) → slice_get mid.functions g ≡ Some f → slice_index p.entries g ≡ first_block mid g
  pub small_numbers : (fn b : ℕ) (f : MidFunction) (block : MidBlock) → slice_get mid.functions fn ≡ Some f → slice_get f.blocks b ≡ Some block → first_block mid fn + b + 1 < 2 ^ 32
  -- a return goes to where its function was called
  pub returns_to : (fn b n : ℕ) (from : Option ℕ) (f : MidFunction) → slice_get mid.functions fn ≡ Some f → EndAt f b n (Return from) → (g c m : ℕ) (args : List ℕ) (result : Option ℕ) (f' : MidFunction) → slice_get mid.functions g ≡ Some f' → EndAt f' c m (Call fn args result) → MayFollow p (first_block mid fn + b) (first_block mid g + (c + 1))
  pub main_returns : (b n : ℕ) (from : Option ℕ) (f : MidFunction) → slice_get mid.functions 0 ≡ Some f → EndAt f b n (Return from) → MayFollow p (first_block mid 0 + b) 1

-- ---- arriving at a block

pub end_some : (first pairs : ℕ) (at : Places) (e : MidEnd) → end_items first pairs at e ≡ [] → ⊥
end_some first pairs at (Jump to) e = cc
end_some first pairs at (Branch v true to) e = cons_nil (going (mips.Bne (reg_in First (source (place_of at v) 0)) 0 0) (fix.Block (first + to))) (plain nop class.Act ∷ []) (Rattle.double_law.proofs.Stages.back_nil (fetched (place_of at v) 0) (going (mips.Bne (reg_in First (source (place_of at v) 0)) 0 0) (fix.Block (first + to)) ∷ plain nop class.Act ∷ []) e)
  where
    cons_nil : {A : Type 0} (x : A) (xs : List A) → x ∷ xs ≡ [] → ⊥
    cons_nil x xs e = cc
end_some first pairs at (Branch v false to) e = cons_nil (going (mips.Beq (reg_in First (source (place_of at v) 0)) 0 0) (fix.Block (first + to))) (plain nop class.Act ∷ []) (Rattle.double_law.proofs.Stages.back_nil (fetched (place_of at v) 0) (going (mips.Beq (reg_in First (source (place_of at v) 0)) 0 0) (fix.Block (first + to)) ∷ plain nop class.Act ∷ []) e)
  where
    cons_nil : {A : Type 0} (x : A) (xs : List A) → x ∷ xs ≡ [] → ⊥
    cons_nil x xs e = cc
end_some first pairs at (Call g args result) e = call_some g (Rattle.double_law.proofs.Stages.back_nil (argument_items at 0 args) (call_items g) e)
  where
    call_some : (g : ℕ) → call_items g ≡ [] → ⊥
    call_some g e = cc
end_some first pairs at (Return from) e = load_some (Rattle.double_law.proofs.Stages.front_nil (load Link Stack 0) (both (λ t. mips.Addiu (reg_in t Stack) (reg_in t Stack) (8 * pairs)) ++ plain (mips.Jr 31) class.Act ∷ plain nop class.Act ∷ []) (Rattle.double_law.proofs.Stages.back_nil (returned_items at from) (load Link Stack 0 ++ (both (λ t. mips.Addiu (reg_in t Stack) (reg_in t Stack) (8 * pairs)) ++ plain (mips.Jr 31) class.Act ∷ plain nop class.Act ∷ [])) e))
  where
    load_some : load Link Stack 0 ≡ [] → ⊥
    load_some e = cc

pub at_before : (p : HardProgram) (n : ℕ) (d : Data) (xs : List Item) → items_of p n ≡ xs → (xs ≡ [] → ⊥) → at_block p n d ≡ before p n xs Onward d
at_before p n d [] e ne = absurd (ne refl)
at_before p n d (i ∷ more) e ne = ap (λ (x : List Item). let z : Spot = record { block = n; rest = x; way = Onward; now = d; end = None } in z) e

-- a block with its start and its lines
pub arrives : (mid : Mid) (places : List Places) (p : HardProgram) (doubled : IsDoubled mid places p) (fn to : ℕ) (f : MidFunction) (at : Places) (b : MidBlock) (d : Data) → slice_get mid.functions fn ≡ Some f → slice_get places fn ≡ Some at → slice_get f.blocks to ≡ Some b →
    at_block p (first_block mid fn + to) d ≡ before p (first_block mid fn + to) (start_items f at to ++ rest_items mid fn f at b 0) Onward d
arrives mid places p doubled fn to f at b d e g h =
    at_before p (first_block mid fn + to) d (start_items f at to ++ rest_items mid fn f at b 0) (doubled.block fn to f at b e g h)
    (λ z. end_some (first_block mid fn) f.pairs at b.end (Rattle.double_law.proofs.Stages.back_nil (Rattle.std.proofs.Common.flat_map (step_items (λ g. cell_address (global_cell mid g)) (global_length mid) at) b.steps) (end_items (first_block mid fn) f.pairs at b.end) (Rattle.double_law.proofs.Stages.back_nil (start_items f at to) (rest_items mid fn f at b 0) z)))

-- ---- what a call returned

-- What a call returned is in its place.
pub record MadeResult (mid : Mid) (p : HardProgram) (at : Places) (f : MidFunction) (c : Active) (result : Option ℕ) (top w : ℕ) (a : Pairs) (t : ℕ) : Type 0 where
  pub now : Pairs
  pub does : Does p (cells mid) t (result_items at result) a now
  pub holds : Holds at (Wanted f c.block 0) (with_result c.variables result w) top now
  pub stack : now.file Stack ≡ a.file Stack
  pub outside : Outside mid f.pairs top a now
  pub low : (q : ℕ) → q < top → (now.cell q ≡ a.cell q) × (now.number q ≡ a.number q)
  pub feed : now.feed ≡ a.feed
  pub fed : now.fed ≡ a.fed

not_below_slot : (top : ℕ) (pl : Place) (q : ℕ) → q < top → Rattle.double_law.proofs.Places.NotCell top pl q
not_below_slot top (Pair k) q h = tt
not_below_slot top (Slot s) q h = λ e. off top s q h e
  where
    off : (t s q : ℕ) → q < t → q ≡ t + (s + 1) → ⊥
    off t s q h e = omega arith

stack_off : (pl : Place) → NotRole pl Stack
stack_off (Pair k) = refl
stack_off (Slot k) = tt

none_not : (v : ℕ) → ◌≡◌ {A = Option ℕ} None (Some v) → ⊥
none_not v e = cc

some_same : (x y : ℕ) → ◌≡◌ {A = Option ℕ} (Some x) (Some y) → x ≡ y
some_same x y e = ap (λ (o : Option ℕ). elim o as (λ z. ℕ) [ Some v ↦ v | None ↦ 0 ]) e

make_result_of : (mid : Mid) (p : HardProgram) (c : Active) (f : MidFunction) (at : Places) (result : Option ℕ) (top w : ℕ) (a : Pairs) (t : ℕ) → Frame (cells mid) f.pairs top a → a.file (Value 0) ≡ w →
    Holds at (λ v. Wanted f c.block 0 v × (result ≢ Some v)) c.variables top a →
    ((x : ℕ) → result ≡ Some x → PlaceFits f.pairs (place_of at x)) → ((x y : ℕ) → result ≡ Some x → Wanted f c.block 0 y → y ≢ x → place_of at y ≢ place_of at x) → MadeResult mid p at f c result top w a t
make_result_of mid p c f at None top w a t frame word base fits apart = record {
  now = a;
  does = Rattle.double_law.proofs.Leading.does_nothing p (cells mid) t a;
  holds = record { word = λ v x n q. base.word v x (n, none_not v) q; unnumbered = λ v x n q. base.unnumbered v x (n, none_not v) q };
  stack = refl;
  outside = record { cell = λ q o. refl; number = λ q o. refl };
  low = λ q k. (refl, refl);
  feed = refl;
  fed = refl;
}
make_result_of mid p c f at (Some x) top w a t frame word base fits apart =
    let s : ResultSet p (cells mid) t a top (place_of at x) w = result_set p (cells mid) t f.pairs top w (place_of at x) a frame (fits x refl) word in
    record {
      now = s.now;
      does = s.does;
      holds = sets_holds at (λ v. Wanted f c.block 0 v × (Some x ≢ Some v)) (Wanted f c.block 0) c.variables top x w a s.now (λ y n ne. ((n, λ e. ne (sym (some_same x y e))), apart x y refl n ne)) s.sets base;
      stack = s.sets.file Stack tt (stack_off (place_of at x));
      outside = sets_outside mid f.pairs top w (place_of at x) a s.now (fits x refl) s.sets;
      low = λ q k. (s.sets.cell q (not_below_slot top (place_of at x) q k), s.sets.number q (not_below_slot top (place_of at x) q k));
      feed = s.sets.feed;
      fed = s.sets.fed;
    }

slot_word : (at : Places) (a : Pairs) (top v x : ℕ) → (s : ℕ) × (place_of at v ≡ Slot s) × (a.cell (top + (s + 1)) ≡ x) → in_place a top (place_of at v) ≡ x
slot_word at a top v x s = subst (λ (pl : Place). in_place a top pl ≡ x) (sym s.1) s.2

slot_number : (at : Places) (a : Pairs) (top v : ℕ) → (s : ℕ) × (place_of at v ≡ Slot s) × (a.number (top + (s + 1)) ≡ false) → Unnumbered a top (place_of at v)
slot_number at a top v s = subst (λ (pl : Place). Unnumbered a top pl) (sym s.1) s.2

by_result : (f : MidFunction) (b n : ℕ) (args : List ℕ) (result : Option ℕ) (x : ℕ) → {g : ℕ} → result ≡ Some x → EndAt f b n (Call g args result) → EndAt f b n (Call g args (Some x))
by_result f b n args result x {g} q e = subst (λ (o : Option ℕ). EndAt f b n (Call g args o)) q e

up_le : (t q : ℕ) → t ≤ t + q
up_le t q = omega arith

-- ---- jumps and branches

module _ (mid : Mid) (places : List Places) (p : HardProgram) (input : List ℕ) (set : Setting mid places p input) (doubled : IsDoubled mid places p) (wired : Wired mid places p) (h : BlockState) (l : Spot) (r : Related mid places p input h l) (flow : Flow r.f r.at) (last : h.current.step ≡ length r.block.steps) where
  -- the items that are left are those of the end
  rest_end : rest_items mid h.current.function r.f r.at r.block h.current.step ≡ end_items (first_block mid h.current.function) r.f.pairs r.at r.block.end
  rest_end = ap (λ (x : List MidStep). flat_map (step_items (λ g. cell_address (global_cell mid g)) (global_length mid) r.at) x ++ end_items (first_block mid h.current.function) r.f.pairs r.at r.block.end) (drop_all h.current.step r.block.steps (Rattle.std.proofs.Common.le_of_eq (sym last)))

  spot_is : l ≡ before p (first_block mid h.current.function + h.current.block) (end_items (first_block mid h.current.function) r.f.pairs r.at r.block.end) Onward r.d
  spot_is = r.spot ∙ ap (λ (x : List Item). before p (first_block mid h.current.function + h.current.block) x Onward r.d) rest_end

  end_here : (e : MidEnd) → r.block.end ≡ e → EndAt r.f h.current.block h.current.step e
  end_here e g = record { block = r.block; is_block = r.is_block; is_last = last; is_end = g }

  past : (xs : List MidStep) (n : ℕ) → length xs ≤ n → slice_get xs n ≡ None
  past [] n h = refl
  past (x ∷ xs) zero h = absurd (Rattle.std.proofs.Common.not-suc-le-zero h)
  past (x ∷ xs) (suc n) h = past xs n (Rattle.std.proofs.Common.le_of_suc-le-suc h)

  ends_to : (e : MidEnd) → r.block.end ≡ e → (blocks mid).step h ≡ (do_line (Some (EndLine e)) h, None)
  ends_to e g = high_step mid h (EndLine e) r.going (line_is mid h r.f r.block r.is_function r.is_block ∙
      (ap (λ (x : Option MidStep). Some (line_of x r.block.end)) (past r.block.steps h.current.step (Rattle.std.proofs.Common.le_of_eq (sym last))) ∙ ap (λ (x : MidEnd). Some (EndLine x)) g))

  -- the same call goes on at a block
  goes_on_at : (to : ℕ) (a : Pairs) (d : Data) → BlockThere r.f r.at to → Doubled (cells mid) d a → Near r.a a → ((v : ℕ) → Wanted r.f to 0 v → Wanted r.f h.current.block h.current.step v) → R mid places p input (goes_to h to) (at_block p (first_block mid h.current.function + to) d)
  goes_on_at to a d there dbl near flows =
      let m : Spot = at_block p (first_block mid h.current.function + to) d in (
        zero,
        m,
        refl,
        record {
          going = r.going;
          f = r.f;
          at = r.at;
          block = there.block;
          is_function = r.is_function;
          is_places = r.is_places;
          is_block = there.is_block;
          within = Rattle.std.proofs.Common.zero-le;
          a = a;
          d = d;
          top = r.top;
          spot = arrives mid places p doubled h.current.function to r.f r.at there.block d r.is_function r.is_places there.is_block ∙
              ap (λ (x : List Item). before p (first_block mid h.current.function + to) (x ++ rest_items mid h.current.function r.f r.at there.block 0) Onward d) there.plain_start;
          doubled = dbl;
          frame = near_frame (cells mid) r.f.pairs r.top r.a a near r.frame;
          above = r.above;
          holds = near_holds r.at (Wanted r.f h.current.block h.current.step) (Wanted r.f to 0) h.current.variables r.top r.a a flows near r.holds;
          globals = globals_same mid h.globals r.a a (λ c k. (near.cell c, near.number c)) r.globals;
          waits = waits_kept mid places r.a a r.f.pairs h.current.function h.current.result r.top h.callers (near_outside mid r.f.pairs r.top r.a a near) r.waits;
          feed = r.feed ∙ (ap (λ (x : ℕ). drop x r.a.feed) (sym near.fed) ∙ ap (λ (x : List ℕ). drop a.fed x) (sym near.feed));
          all = near.feed ∙ r.all;
        },
      )

  jump_stage : (to : ℕ) → r.block.end ≡ Jump to → StageOf mid places p input h l
  jump_stage to e =
      let b : ℕ = first_block mid h.current.function + h.current.block in
      let t : ℕ = first_block mid h.current.function + to in
      let x : Goes p (cells mid) (before p b (end_items (first_block mid h.current.function) r.f.pairs r.at (Jump to)) Onward r.d) t r.a = goes_jump p (cells mid) b t r.a [] r.d r.doubled in
      let start : before p b (end_items (first_block mid h.current.function) r.f.pairs r.at (Jump to)) Onward r.d ≡ l = sym (spot_is ∙ ap (λ (z : MidEnd). before p b (end_items (first_block mid h.current.function) r.f.pairs r.at z) Onward r.d) e) in
      stage_silent mid places p input h (goes_to h to) l (at_block p t x.now) x.more_steps r.going
      (subst (λ (z : Spot). Leads (items p) (Good p) (suc x.more_steps) z (at_block p t x.now)) start x.leads) (ends_to (Jump to) e)
      (goes_on_at to r.a x.now (wired.jump_there h.current.function h.current.block h.current.step to r.f r.at r.is_function r.is_places (end_here (Jump to) e)) x.doubled (Rattle.double_law.proofs.Places.near_self r.a) (λ v w. flow.jump_on h.current.block h.current.step v to (end_here (Jump to) e) w))

  same_taken : (when : Bool) (w : ℕ) → is_taken when w ≡ taken when w
  same_taken true w = refl
  same_taken false w = refl

  branch_items : (when : Bool) (v to : ℕ) → end_items (first_block mid h.current.function) r.f.pairs r.at (Branch v when to) ≡ fetched (place_of r.at v) 0 ++ brancher when (source (place_of r.at v) 0) (first_block mid h.current.function + to) ∷ plain nop class.Act ∷ []
  branch_items true v to = refl
  branch_items false v to = refl

  next_number : (n b : ℕ) → n + b + 1 ≡ n + (b + 1)
  next_number n b = Rattle.std.proofs.Common.add_assoc n b 1

  branch_stage : (v to : ℕ) (when : Bool) → r.block.end ≡ Branch v when to → ProperLine (EndLine (Branch v when to)) h.current.variables h.globals → StageOf mid places p input h l
  branch_stage v to when e proper =
      let B : MidEnd = Branch v when to in
      let q : ReadsWord r.f r.at h.current.variables r.top r.a v = reads_word mid places p input h l r v flow (flow.end_read h.current.block h.current.step v B (end_here B e) (first_of_list v [])) proper.reads_written.0 in
      let n : ℕ = first_block mid h.current.function in
      let b : ℕ = n + h.current.block in
      let pl : Place = place_of r.at v in
      let a1 : Pairs = fetch r.a r.top pl 0 in
      let near : Near r.a a1 = fetch_near r.a r.top pl 0 Rattle.std.proofs.Common.zero-le in
      let tail : List Item = brancher when (source pl 0) (n + to) ∷ plain nop class.Act ∷ [] in
      let x : Done p (cells mid) b (fetched pl 0) tail r.d a1 = does_fetched p (cells mid) b r.f.pairs r.top 0 pl r.a Rattle.std.proofs.Common.zero-le r.frame q.stands.fits q.stands.unnumbered tail r.d r.doubled in
      let z : Bool = taken when (a1.file (source pl 0)) in
      let y : Goes p (cells mid) (before p b tail Onward x.now) (landed z (n + to) b) a1 = goes_branch p (cells mid) b when (source pl 0) (n + to) a1 x.now (source_fits r.f.pairs pl 0 Rattle.std.proofs.Common.zero-le q.stands.fits) (source_unlinked a1 pl 0) x.doubled in
      let word : a1.file (source pl 0) ≡ q.word = fetch_word r.a r.top pl 0 ∙ q.stands.word in
      let there : BlockThere r.f r.at to × BlockThere r.f r.at (h.current.block + 1) = wired.branch_there h.current.function h.current.block h.current.step v to when r.f r.at r.is_function r.is_places (end_here B e) in
      let start : before p b (fetched pl 0 ++ tail) Onward r.d ≡ l = sym (spot_is ∙ (ap (λ (w : MidEnd). before p b (end_items n r.f.pairs r.at w) Onward r.d) e ∙ ap (λ (w : List Item). before p b w Onward r.d) (branch_items when v to))) in
      let lead : Leads (items p) (Good p) (suc (x.steps + y.more_steps)) l (at_block p (landed z (n + to) b) y.now) =
      subst (λ (w : Spot). Leads (items p) (Good p) (suc (x.steps + y.more_steps)) w (at_block p (landed z (n + to) b) y.now)) start
      (subst (λ (k : ℕ). Leads (items p) (Good p) k (before p b (fetched pl 0 ++ tail) Onward r.d) (at_block p (landed z (n + to) b) y.now)) (Rattle.std.proofs.Common.add-suc x.steps y.more_steps)
      (leads_on (items p) (Good p) x.steps (suc y.more_steps) (before p b (fetched pl 0 ++ tail) Onward r.d) (before p b tail Onward x.now) (at_block p (landed z (n + to) b) y.now) x.leads y.leads)) in
      let test : is_taken when (word_in h.current.variables v) ≡ z = ap (λ (w : ℕ). is_taken when w) (q.value ∙ sym word) ∙ same_taken when (a1.file (source pl 0)) in
      stage_silent mid places p input h (goes_to h (cond z to (h.current.block + 1))) l (at_block p (landed z (n + to) b) y.now) (x.steps + y.more_steps) r.going lead
      (ends_to B e ∙ ap (λ (w : Bool). let o : BlockState × Option ℕ = (goes_to h (cond w to (h.current.block + 1)), None) in o) test)
      (elim z as (λ w. R mid places p input (goes_to h (cond w to (h.current.block + 1))) (at_block p (landed w (n + to) b) y.now)) [
        | true ↦ goes_on_at to a1 y.now there.0 y.doubled near (λ u w. flow.branch_to h.current.block h.current.step u v to when (end_here B e) w)
        | false ↦ subst (λ (k : ℕ). R mid places p input (goes_to h (h.current.block + 1)) (at_block p k y.now)) (sym (next_number n h.current.block)) (goes_on_at (h.current.block + 1) a1 y.now there.1 y.doubled near (λ u w. flow.branch_on h.current.block h.current.step u v to when (end_here B e) w))
      ])

  -- ---- a call

  all_stand : (vs : List ℕ) → ((k : ℕ) (u : ℕ) → k < length vs → Stands r.f.pairs r.a r.top (place_of r.at (slice_index_or vs k u)) (word_in h.current.variables (slice_index_or vs k u))) → AllStand r.f.pairs r.at r.a r.top vs (map (word_in h.current.variables) vs)
  all_stand [] g = tt
  all_stand (v ∷ vs) g = (g 0 v (Rattle.std.proofs.Common.zero-lt-suc (length vs)), all_stand vs (λ k u x. g (suc k) u (Rattle.std.proofs.Common.suc-le-suc x)))

  there_in : (xs : List ℕ) (k u : ℕ) → k < length xs → slice_index_or xs k u ≡ slice_index_or xs k (slice_index_or xs k u)
  there_in [] k u h = absurd (Rattle.std.proofs.Common.not-suc-le-zero h)
  there_in (x ∷ xs) zero u h = refl
  there_in (x ∷ xs) (suc k) u h = there_in xs k u (Rattle.std.proofs.Common.le_of_suc-le-suc h)

  some_at : (xs : List ℕ) (k : ℕ) → k < length xs → (w : ℕ) × (slice_get xs k ≡ Some w)
  some_at [] k h = absurd (Rattle.std.proofs.Common.not-suc-le-zero h)
  some_at (x ∷ xs) zero h = (x, refl)
  some_at (x ∷ xs) (suc k) h = some_at xs k (Rattle.std.proofs.Common.le_of_suc-le-suc h)

  params_le : (n pairs : ℕ) → ((j : ℕ) → j < n → j + 1 < pairs) → n ≤ pairs
  params_le zero pairs g = Rattle.std.proofs.Common.zero-le
  params_le (suc n) pairs g = Rattle.std.proofs.Common.le_of_lt (subst (λ (x : ℕ). x < pairs) (Rattle.std.proofs.Common.add-one n) (g n (le_refl (suc n))))

  call_stage : (g : ℕ) (args : List ℕ) (result : Option ℕ) → r.block.end ≡ Call g args result → ProperLine (EndLine (Call g args result)) h.current.variables h.globals →
      ((f' : MidFunction) → slice_get mid.functions g ≡ Some f' → f'.pairs + global_cells mid ≤ r.top) → StageOf mid places p input h l
  call_stage g args result e proper deep =
      let C : MidEnd = Call g args result in
      let here : EndAt r.f h.current.block h.current.step C = end_here C e in
      let callee : (f' : MidFunction) × (at' : Places) × (block : MidBlock) × (slice_get mid.functions g ≡ Some f') × (slice_get places g ≡ Some at') × (slice_get f'.blocks 0 ≡ Some block) × (length args ≡ f'.params) = wired.callee_there h.current.function h.current.block h.current.step g args result r.f r.is_function here in
      let f' : MidFunction = callee.0 in
      let at' : Places = callee.1 in
      let blk : MidBlock = callee.2 in
      let flow' : Flow f' at' = set.flows g f' at' callee.3 callee.4 in
      let vars : Variables = h.current.variables in
      let ws : List ℕ = map (word_in vars) args in
      let many : length ws ≡ f'.params = Rattle.std.proofs.lemmas.List.length-map args (word_in vars) ∙ callee.6 in
      let pairs' : ℕ = f'.pairs in
      let fewer : f'.params ≤ pairs' = params_le f'.params pairs' (λ j x. (flow'.parameter_fits j x).0) in
      let room : pairs' + global_cells mid ≤ r.top = deep f' callee.3 in
      let n : ℕ = first_block mid h.current.function in
      let b : ℕ = n + h.current.block in
      let stand : AllStand r.f.pairs r.at r.a r.top args ws = all_stand args (λ k u x.
      let v : ℕ = slice_index_or args k u in
      let q : ReadsWord r.f r.at vars r.top r.a v = reads_word mid places p input h l r v flow (flow.end_read h.current.block h.current.step v C here (k, x, sym (there_in args k u x))) (each_written vars args proper.reads_written k u x) in
      subst (λ (w : ℕ). Stands r.f.pairs r.a r.top (place_of r.at v) w) (sym q.value) q.stands) in
      let argd : (a' : Pairs) × Does p (cells mid) b (argument_items r.at 0 args) r.a a' × Argued r.a a' r.top 0 ws = arguments p (cells mid) b r.f.pairs r.top r.at 0 args ws r.a r.frame stand (few_words (length ws) f'.params pairs' (global_cells mid) r.top many fewer room) (few_enough (length ws) f'.params pairs' many fewer flow'.pairs_fit) in
      let a1 : Pairs = argd.0 in
      let g1 : Argued r.a a1 r.top 0 ws = argd.2 in
      let a2 : Pairs = put a1 Link (b + 1) true in
      let small : b + 1 < 2 ^ 32 = wired.small_numbers h.current.function h.current.block r.f r.block r.is_function r.is_block in
      let x : Goes p (cells mid) (before p b ((argument_items r.at 0 args ++ call_items g) ++ []) Onward r.d) (slice_index p.entries g) a2 =
      goes_then p (cells mid) b (argument_items r.at 0 args) (call_items g) r.a a1 a2 (slice_index p.entries g) argd.1 (goes_call p (cells mid) b g a1 small) [] r.d r.doubled in
      let start : before p b ((argument_items r.at 0 args ++ call_items g) ++ []) Onward r.d ≡ l = ap (λ (w : List Item). before p b w Onward r.d) (append-nil (argument_items r.at 0 args ++ call_items g)) ∙ sym (spot_is ∙ ap (λ (w : MidEnd). before p b (end_items n r.f.pairs r.at w) Onward r.d) e) in
      let sa : StackAt (cells mid) r.top a2 = record { stack = g1.file Stack tt ∙ r.frame.stack; room = top_room r.top r.f.pairs (cells mid) r.frame.room; small = r.frame.small } in
      let cell_at : (j : ℕ) → j < f'.params → (w : ℕ) × (slice_get ws j ≡ Some w) × (a2.cell (r.top - pairs' + (pairs' - (j + 1))) ≡ w) × (a2.number (r.top - pairs' + (pairs' - (j + 1))) ≡ false) =
      (λ j y.
      let w : (w : ℕ) × (slice_get ws j ≡ Some w) = some_at ws j (subst (λ (m : ℕ). j < m) (sym many) y) in
      let t : (a1.cell (r.top - (0 + j + 1)) ≡ w.0) × (a1.number (r.top - (0 + j + 1)) ≡ false) = g1.there j w.0 w.1 in
      let c : r.top - pairs' + (pairs' - (j + 1)) ≡ r.top - (0 + j + 1) = cell_same r.top pairs' j (global_cells mid) room (flow'.parameter_fits j y).0 in
      (w.0, w.1, ap (λ (m : ℕ). a1.cell m) c ∙ t.0, ap (λ (m : ℕ). a1.number m) c ∙ t.1)) in
      let en : (a' : Pairs) × Does p (cells mid) (first_block mid g + 0) (enter_items at' pairs' f'.params) a2 a' × Entered a2 a' at' pairs' f'.params (r.top - pairs') (b + 1) =
      enters p (cells mid) (first_block mid g + 0) r.top pairs' f'.params (b + 1) at' a2 sa flow'.has_pair flow'.pairs_fit (pairs_top pairs' (global_cells mid) r.top room) refl refl
      (λ j y. ((flow'.parameter_fits j y).0, (flow'.parameter_fits j y).1, (cell_at j y).3)) flow'.parameters_apart in
      let a3 : Pairs = en.0 in
      let z : Entered a2 a3 at' pairs' f'.params (r.top - pairs') (b + 1) = en.2 in
      let top' : ℕ = r.top - pairs' in
      let more : List Item = rest_items mid g f' at' blk 0 in
      let m0 : Spot = at_block p (slice_index p.entries g) x.now in
      let m0_is : m0 ≡ before p (first_block mid g + 0) (enter_items at' pairs' f'.params ++ more) Onward x.now =
      ap (λ (k : ℕ). at_block p k x.now) (wired.entry_is g f' callee.3 ∙ sym (add-zero (first_block mid g))) ∙ arrives mid places p doubled g 0 f' at' blk x.now callee.3 callee.4 callee.5 in
      let y : Done p (cells mid) (first_block mid g + 0) (enter_items at' pairs' f'.params) more x.now a3 = en.1 more x.now x.doubled in
      let m : Spot = before p (first_block mid g + 0) more Onward y.now in
      let current' : Active = entry g ws result in
      let waiting : Active = run.at_block h.current (h.current.block + 1) in
      let h' : BlockState = record h { current = current'; callers = waiting ∷ h.callers } in
      let next : (block : MidBlock) × (slice_get r.f.blocks (h.current.block + 1) ≡ Some block) = wired.call_goes_on h.current.function h.current.block h.current.step g args result r.f r.is_function here in
      let whole : top' + pairs' ≡ r.top = back_up r.top pairs' (global_cells mid) room in
      let high : (c : ℕ) → r.top ≤ c → (a3.cell c ≡ r.a.cell c) × (a3.number c ≡ r.a.number c) =
      (λ c k. (z.cell c (above_new r.top pairs' (global_cells mid) c room flow'.has_pair k) ∙ (g1.above c (minus_zero r.top c k)).0, z.number c (above_new r.top pairs' (global_cells mid) c room flow'.has_pair k) ∙ (g1.above c (minus_zero r.top c k)).1)) in
      let low : (c : ℕ) → c < global_cells mid → (a3.cell c ≡ r.a.cell c) × (a3.number c ≡ r.a.number c) =
      (λ c k. (z.cell c (below_new r.top pairs' (global_cells mid) c room k) ∙ (g1.below c (below_args r.top pairs' (length ws) f'.params (global_cells mid) c many fewer room k)).0, z.number c (below_new r.top pairs' (global_cells mid) c room k) ∙ (g1.below c (below_args r.top pairs' (length ws) f'.params (global_cells mid) c many fewer room k)).1)) in
      let related : Related mid places p input h' m = record {
        going = r.going;
        f = f';
        at = at';
        block = blk;
        is_function = callee.3;
        is_places = callee.4;
        is_block = callee.5;
        within = Rattle.std.proofs.Common.zero-le;
        a = a3;
        d = y.now;
        top = top';
        spot = refl;
        doubled = y.doubled;
        frame = record { stack = z.stack; room = subst (λ (k : ℕ). k ≤ cells mid) (sym whole) sa.room; small = r.frame.small; pairs_fit = flow'.pairs_fit };
        above = above_globals r.top pairs' (global_cells mid) room;
        holds = record {
          word = λ v w n' q. parameter_word at' f' flow' a2 a3 ws top' z many v w q (λ j k. ((cell_at j k).0, (cell_at j k).1, (cell_at j k).2));
          unnumbered = λ v w n' q. parameter_number at' f' flow' a2 a3 ws top' z many v w q (λ j k. (cell_at j k).3);
        };
        globals = globals_same mid h.globals r.a a3 low r.globals;
        waits = (
          r.f,
          r.at,
          record {
            is_function = r.is_function;
            is_places = r.is_places;
            caller = h.current.block;
            is_behind = refl;
            args = args;
            calls = (h.current.step, here);
            block = next.0;
            is_block = next.1;
            at_start = refl;
            number = z.link_cell ∙ next_number n h.current.block;
            marked = z.link_number;
            room = subst (λ (k : ℕ). k + r.f.pairs ≤ cells mid) (sym whole) r.frame.room;
            holds = λ v w n' ne q.
                let c : Wanted r.f h.current.block h.current.step v × ((s : ℕ) × (place_of r.at v ≡ Slot s)) = flow.call_on h.current.block h.current.step v g args result here ne n' in
                let s : ℕ = c.1.0 in
                let is : in_place r.a r.top (Slot s) ≡ w = subst (λ (pl : Place). in_place r.a r.top pl ≡ w) c.1.1 (r.holds.word v w c.0 q) in
                let un : Unnumbered r.a r.top (Slot s) = subst (λ (pl : Place). Unnumbered r.a r.top pl) c.1.1 (r.holds.unnumbered v w c.0 q) in
                let up : r.top ≤ r.top + (s + 1) = slot_above r.top s in
                (s, c.1.1, ap (λ (k : ℕ). a3.cell (k + (s + 1))) whole ∙ ((high (r.top + (s + 1)) up).0 ∙ is), ap (λ (k : ℕ). a3.number (k + (s + 1))) whole ∙ ((high (r.top + (s + 1)) up).1 ∙ un));
          },
          subst (λ (k : ℕ). Waits mid places a3 r.f.pairs h.current.function h.current.result k h.callers) (sym whole)
              (waits_kept mid places r.a a3 r.f.pairs h.current.function h.current.result r.top h.callers (record { cell = λ c o. (high c (at_or_above r.top r.f.pairs c o)).0; number = λ c o. (high c (at_or_above r.top r.f.pairs c o)).1 }) r.waits),
        );
        feed = r.feed ∙ (ap (λ (k : ℕ). drop k r.a.feed) (sym (z.fed ∙ g1.fed)) ∙ ap (λ (k : List ℕ). drop a3.fed k) (sym (z.feed ∙ g1.feed)));
        all = z.feed ∙ (g1.feed ∙ r.all);
      } in
      stage_silent mid places p input h h' l m0 x.more_steps r.going
      (subst (λ (w : Spot). Leads (items p) (Good p) (suc x.more_steps) w m0) start x.leads) (ends_to C e)
      (y.steps, m, subst (λ (w : Spot). Leads (items p) (Good p) y.steps w m) (sym m0_is) y.leads, related)
    where
      few_words : (n q pairs g t : ℕ) → n ≡ q → q ≤ pairs → pairs + g ≤ t → 0 + n ≤ t
      few_words n q pairs g t e h k = omega arith

      few_enough : (n q pairs : ℕ) → n ≡ q → q ≤ pairs → pairs ≤ 4002 → 0 + n ≤ 4002
      few_enough n q pairs e h k = omega arith

      top_room : (t q s : ℕ) → t + q ≤ s → t ≤ s
      top_room t q s h = omega arith

      pairs_top : (q g t : ℕ) → q + g ≤ t → q ≤ t
      pairs_top q g t h = omega arith

      cell_same : (t q j g : ℕ) → q + g ≤ t → j + 1 < q → t - q + (q - (j + 1)) ≡ t - (0 + j + 1)
      cell_same t q j g h k = omega arith

      back_up : (t q g : ℕ) → q + g ≤ t → t - q + q ≡ t
      back_up t q g h = omega arith

      above_new : (t q g c : ℕ) → q + g ≤ t → 1 ≤ q → t ≤ c → c ≢ t - q
      above_new t q g c h k l = λ e. omega arith

      minus_zero : (t c : ℕ) → t ≤ c → t - 0 ≤ c
      minus_zero t c h = omega arith

      below_new : (t q g c : ℕ) → q + g ≤ t → c < g → c ≢ t - q
      below_new t q g c h k = λ e. omega arith

      below_args : (t q n m g c : ℕ) → n ≡ m → m ≤ q → q + g ≤ t → c < g → c < t - (0 + n)
      below_args t q n m g c e h k l = omega arith

      above_globals : (t q g : ℕ) → q + g ≤ t → g ≤ t - q
      above_globals t q g h = omega arith

      slot_above : (t s : ℕ) → t ≤ t + (s + 1)
      slot_above t s = omega arith

      at_or_above : (t q c : ℕ) → (c ≡ t) ⊎ (t + q ≤ c) → t ≤ c
      at_or_above t q c (inl e) = omega arith
      at_or_above t q c (inr k) = omega arith

      some_same : (x y : ℕ) → ◌≡◌ {A = Option ℕ} (Some x) (Some y) → x ≡ y
      some_same x y e = ap (λ (o : Option ℕ). elim o as (λ z. ℕ) [ Some v ↦ v | None ↦ 0 ]) e

      slot_cell : (q j : ℕ) → j + 1 < q → q - 2 - j + 1 ≡ q - (j + 1)
      slot_cell q j h = omega arith

      slot_off : (t q j : ℕ) → j + 1 < q → t + (q - (j + 1)) ≢ t
      slot_off t q j h = λ e. omega arith

      parameter_word : (at' : Places) (f' : MidFunction) → Flow f' at' → (a2 a3 : Pairs) (ws : List ℕ) (t : ℕ) → Entered a2 a3 at' f'.pairs f'.params t (first_block mid h.current.function + h.current.block + 1) → length ws ≡ f'.params → (v w : ℕ) → slice_get ws v ≡ Some w →
          ((j : ℕ) → j < f'.params → (w : ℕ) × (slice_get ws j ≡ Some w) × (a2.cell (t + (f'.pairs - (j + 1))) ≡ w)) → in_place a3 t (place_of at' v) ≡ w
      parameter_word at' f' flow' a2 a3 ws t z many v w q cells_are =
          let j : v < f'.params = subst (λ (k : ℕ). v < k) many (slice_get_within ws v w q) in
          let c : (w : ℕ) × (slice_get ws v ≡ Some w) × (a2.cell (t + (f'.pairs - (v + 1))) ≡ w) = cells_are v j in
          let is : a2.cell (t + (f'.pairs - (v + 1))) ≡ w = c.2 ∙ some_same c.0 w (sym c.1 ∙ q) in
          by_place (place_of at' v) refl j is
        where
          by_place : (pl : Place) → place_of at' v ≡ pl → v < f'.params → a2.cell (t + (f'.pairs - (v + 1))) ≡ w → in_place a3 t pl ≡ w
          by_place (Pair k) e j is = z.there v k j e ∙ is
          by_place (Slot s) e j is =
              let fits : v + 1 < f'.pairs = (flow'.parameter_fits v j).0 in
              ap (λ (x : ℕ). a3.cell (t + x)) (ap (λ (x : ℕ). x + 1) (flow'.parameter_slot v s j e) ∙ slot_cell f'.pairs v fits) ∙ (z.cell (t + (f'.pairs - (v + 1))) (slot_off t f'.pairs v fits) ∙ is)

      parameter_number : (at' : Places) (f' : MidFunction) → Flow f' at' → (a2 a3 : Pairs) (ws : List ℕ) (t : ℕ) → Entered a2 a3 at' f'.pairs f'.params t (first_block mid h.current.function + h.current.block + 1) → length ws ≡ f'.params → (v w : ℕ) → slice_get ws v ≡ Some w →
          ((j : ℕ) → j < f'.params → a2.number (t + (f'.pairs - (j + 1))) ≡ false) → Unnumbered a3 t (place_of at' v)
      parameter_number at' f' flow' a2 a3 ws t z many v w q numbers =
          let j : v < f'.params = subst (λ (k : ℕ). v < k) many (slice_get_within ws v w q) in
          by_place (place_of at' v) refl j
        where
          by_place : (pl : Place) → place_of at' v ≡ pl → v < f'.params → Unnumbered a3 t pl
          by_place (Pair k) e j = tt
          by_place (Slot s) e j =
              let fits : v + 1 < f'.pairs = (flow'.parameter_fits v j).0 in
              ap (λ (x : ℕ). a3.number (t + x)) (ap (λ (x : ℕ). x + 1) (flow'.parameter_slot v s j e) ∙ slot_cell f'.pairs v fits) ∙ (z.number (t + (f'.pairs - (v + 1))) (slot_off t f'.pairs v fits) ∙ numbers v j)

  -- ---- a return

  -- the word that is returned, in the first value
  returned : (from : Option ℕ) → r.block.end ≡ Return from → ProperLine (EndLine (Return from)) h.current.variables h.globals →
      (w : ℕ) × (index_in h.current.variables from ≡ w) × Does p (cells mid) (first_block mid h.current.function + h.current.block) (returned_items r.at from) r.a (put r.a (Value 0) w false)
  returned None e proper = (0, refl, returns_zero p (cells mid) (first_block mid h.current.function + h.current.block) r.at r.a)
  returned (Some v) e proper =
      let q : ReadsWord r.f r.at h.current.variables r.top r.a v = reads_word mid places p input h l r v flow (flow.end_read h.current.block h.current.step v (Return (Some v)) (end_here (Return (Some v)) e) (first_of_list v [])) proper.reads_written.0 in
      (q.word, q.value, returns_word p (cells mid) (first_block mid h.current.function + h.current.block) r.f.pairs r.top q.word r.at v r.a r.frame q.stands)

  -- the way of a return, to the block whose number is there
  return_way : (from : Option ℕ) (t : ℕ) → r.block.end ≡ Return from → ProperLine (EndLine (Return from)) h.current.variables h.globals → r.a.cell r.top ≡ t → r.a.number r.top ≡ true → MayFollow p (first_block mid h.current.function + h.current.block) t →
      (w : ℕ) × (index_in h.current.variables from ≡ w) × (a : Pairs) × (Returned r.a a r.top r.f.pairs w t) × (k : ℕ) × (d : Data) × Leads (items p) (Good p) (suc k) l (at_block p t d) × Doubled (cells mid) d a
  return_way from t e proper number marked follow =
      let q : (w : ℕ) × (index_in h.current.variables from ≡ w) × Does p (cells mid) (first_block mid h.current.function + h.current.block) (returned_items r.at from) r.a (put r.a (Value 0) w false) = returned from e proper in
      let n : ℕ = first_block mid h.current.function in
      let b : ℕ = n + h.current.block in
      let first : List Item = returned_items r.at from in
      let ld : List Item = load Link Stack 0 in
      let up : List Item = both (λ t. mips.Addiu (reg_in t Stack) (reg_in t Stack) (8 * r.f.pairs)) in
      let tail : List Item = plain (mips.Jr 31) class.Act ∷ plain nop class.Act ∷ [] in
      let x : (a' : Pairs) × Does p (cells mid) b (leaving first r.f.pairs) r.a a' × Returned r.a a' r.top r.f.pairs q.0 t = leaves p (cells mid) b r.f.pairs r.top q.0 t first r.a r.frame flow.has_pair q.2 number marked in
      let z : Returned r.a x.0 r.top r.f.pairs q.0 t = x.2 in
      let y : DoesGo p (cells mid) b tail x.0 t x.0 = subst (λ (k : ℕ). DoesGo p (cells mid) b tail x.0 k x.0) z.target (goes_return p (cells mid) b x.0 z.link (subst (λ (k : ℕ). MayFollow p b k) (sym z.target) follow)) in
      let g : Goes p (cells mid) (before p b ((leaving first r.f.pairs ++ tail) ++ []) Onward r.d) t x.0 = goes_then p (cells mid) b (leaving first r.f.pairs) tail r.a x.0 x.0 t x.1 y [] r.d r.doubled in
      let same : (leaving first r.f.pairs ++ tail) ++ [] ≡ end_items n r.f.pairs r.at (Return from) =
      append-nil (leaving first r.f.pairs ++ tail) ∙ (append_assoc first (ld ++ up) tail ∙ ap (λ (v : List Item). first ++ v) (append_assoc ld up tail)) in
      let start : before p b ((leaving first r.f.pairs ++ tail) ++ []) Onward r.d ≡ l = ap (λ (w : List Item). before p b w Onward r.d) same ∙ sym (spot_is ∙ ap (λ (w : MidEnd). before p b (end_items n r.f.pairs r.at w) Onward r.d) e) in
      (q.0, q.1, x.0, z, g.more_steps, g.now, subst (λ (w : Spot). Leads (items p) (Good p) (suc g.more_steps) w (at_block p t g.now)) start g.leads, g.doubled)

  exit_some : exit_items ≡ [] → ⊥
  exit_some e = cc

  main_follow : (fn : ℕ) → fn ≡ 0 → (b n : ℕ) (from : Option ℕ) (f : MidFunction) → slice_get mid.functions fn ≡ Some f → EndAt f b n (Return from) → MayFollow p (first_block mid fn + b) 1
  main_follow fn e b n from f g h' = subst (λ (k : ℕ). MayFollow p (first_block mid k + b) 1) (sym e) (wired.main_returns b n from f (subst (λ (k : ℕ). slice_get mid.functions k ≡ Some f) e g) h')

  -- main returns
  exit_stage : (from : Option ℕ) → r.block.end ≡ Return from → ProperLine (EndLine (Return from)) h.current.variables h.globals → h.callers ≡ [] → Waits mid places r.a r.f.pairs h.current.function h.current.result r.top [] → StageOf mid places p input h l
  exit_stage from e proper none waits =
      let b : ℕ = first_block mid h.current.function + h.current.block in
      let g : (w : ℕ) × (index_in h.current.variables from ≡ w) × (a : Pairs) × (Returned r.a a r.top r.f.pairs w 1) × (k : ℕ) × (d : Data) × Leads (items p) (Good p) (suc k) l (at_block p 1 d) × Doubled (cells mid) d a =
      return_way from 1 e proper waits.1 waits.2 (main_follow h.current.function waits.3 h.current.block h.current.step from r.f r.is_function (end_here (Return from) e)) in
      let w : ℕ = g.0 in
      let m0 : Spot = at_block p 1 g.5 in
      let is : m0 ≡ before p 1 exit_items Onward g.5 = at_before p 1 g.5 exit_items doubled.exit exit_some in
      let s : Stops p (before p 1 exit_items Onward g.5) (machine.Exited (g.2.file (Value 0))) = stops_exit p (cells mid) 1 g.2 (plain (mips.Break 1) class.Act ∷ []) g.5 g.7 in
      let s' : Stops p l (machine.Exited w) = record {
        steps = suc g.4 + s.steps;
        last = s.last;
        leads = leads_on (items p) (Good p) (suc g.4) s.steps l m0 s.last g.6 (subst (λ (v : Spot). Leads (items p) (Good p) s.steps v s.last) (sym is) s.leads);
        open_ = s.open_;
        good = s.good;
        stop = s.stop ∙ ap (λ (v : ℕ). let o : Spot × Option ℕ = (record s.last { end = Some (machine.Exited v) }, None) in o) g.3.word;
      } in
      stage_over mid places p input h (ends h (ended.Exited w)) l (machine.Exited w) r.going s'
      (ends_to (Return from) e ∙ (ap (λ (cs : List Active). let o : BlockState × Option ℕ = (returns h cs (index_in h.current.variables from), None) in o) none ∙ ap (λ (v : ℕ). let o : BlockState × Option ℕ = (ends h (ended.Exited v), None) in o) g.1)) refl

  -- a caller goes on
  back_stage : (from : Option ℕ) (c : Active) (cs : List Active) → r.block.end ≡ Return from → ProperLine (EndLine (Return from)) h.current.variables h.globals → h.callers ≡ c ∷ cs → Waits mid places r.a r.f.pairs h.current.function h.current.result r.top (c ∷ cs) → StageOf mid places p input h l
  back_stage from c cs e proper some waits =
      let f0 : MidFunction = waits.0 in
      let at0 : Places = waits.1 in
      let wt : Waiter mid places r.a r.f.pairs h.current.function h.current.result r.top c f0 at0 = waits.2 in
      let t : ℕ = first_block mid c.function + c.block in
      let b : ℕ = first_block mid h.current.function + h.current.block in
      let flow0 : Flow f0 at0 = set.flows c.function f0 at0 wt.is_function wt.is_places in
      let follow : MayFollow p b t = subst (λ (k : ℕ). MayFollow p b (first_block mid c.function + k)) (sym wt.is_behind)
      (wired.returns_to h.current.function h.current.block h.current.step from r.f r.is_function (end_here (Return from) e) c.function wt.caller wt.calls.0 wt.args h.current.result f0 wt.is_function wt.calls.1) in
      let g : (w : ℕ) × (index_in h.current.variables from ≡ w) × (a : Pairs) × (Returned r.a a r.top r.f.pairs w t) × (k : ℕ) × (d : Data) × Leads (items p) (Good p) (suc k) l (at_block p t d) × Doubled (cells mid) d a = return_way from t e proper wt.number wt.marked follow in
      let w : ℕ = g.0 in
      let a3 : Pairs = g.2 in
      let z : Returned r.a a3 r.top r.f.pairs w t = g.3 in
      let d3 : Data = g.5 in
      let top1 : ℕ = r.top + r.f.pairs in
      let result : Option ℕ = h.current.result in
      let more : List Item = rest_items mid c.function f0 at0 wt.block 0 in
      let m0 : Spot = at_block p t d3 in
      let start_is : start_items f0 at0 c.block ≡ result_items at0 result =
      ap (λ (k : ℕ). start_items f0 at0 k) (wt.is_behind ∙ Rattle.std.proofs.Common.add-one wt.caller) ∙
      (ap (λ (x : Option MidBlock). behind_block at0 x) wt.calls.1.is_block ∙ ap (λ (x : MidEnd). behind_end at0 x) wt.calls.1.is_end) in
      let m0_is : m0 ≡ before p t (result_items at0 result ++ more) Onward d3 =
      arrives mid places p doubled c.function c.block f0 at0 wt.block d3 wt.is_function wt.is_places wt.is_block ∙ ap (λ (x : List Item). before p t (x ++ more) Onward d3) start_is in
      let frame : Frame (cells mid) f0.pairs top1 a3 = record { stack = z.stack; room = wt.room; small = r.frame.small; pairs_fit = flow0.pairs_fit } in
      let base : Holds at0 (λ v. Wanted f0 c.block 0 v × (result ≢ Some v)) c.variables top1 a3 = record {
        word = λ v x n q. slot_word at0 a3 top1 v x (let s : (s : ℕ) × (place_of at0 v ≡ Slot s) × (r.a.cell (top1 + (s + 1)) ≡ x) × (r.a.number (top1 + (s + 1)) ≡ false) = wt.holds v x n.0 n.1 q in (s.0, s.1, z.cell (top1 + (s.0 + 1)) ∙ s.2));
        unnumbered = λ v x n q. slot_number at0 a3 top1 v (let s : (s : ℕ) × (place_of at0 v ≡ Slot s) × (r.a.cell (top1 + (s + 1)) ≡ x) × (r.a.number (top1 + (s + 1)) ≡ false) = wt.holds v x n.0 n.1 q in (s.0, s.1, z.number (top1 + (s.0 + 1)) ∙ s.3));
      } in
      let made : MadeResult mid p at0 f0 c result top1 w a3 t = make_result_of mid p c f0 at0 result top1 w a3 t frame z.word base
      (λ x q. flow0.result_fits wt.caller wt.calls.0 x h.current.function wt.args (by_result f0 wt.caller wt.calls.0 wt.args result x q wt.calls.1))
      (λ x y q n ne. flow0.result_apart wt.caller wt.calls.0 x y h.current.function wt.args (by_result f0 wt.caller wt.calls.0 wt.args result x q wt.calls.1) (subst (λ (k : ℕ). Wanted f0 k 0 y) wt.is_behind n) ne) in
      let y : Done p (cells mid) t (result_items at0 result) more d3 made.now = made.does more d3 g.7 in
      let current' : Active = record c { variables = with_result c.variables result w } in
      let h' : BlockState = record h { current = current'; callers = cs } in
      let m : Spot = before p t (rest_items mid c.function f0 at0 wt.block c.step) Onward y.now in
      let m_is : before p t more Onward y.now ≡ m = ap (λ (k : ℕ). before p t (rest_items mid c.function f0 at0 wt.block k) Onward y.now) (sym wt.at_start) in
      let g3 : GlobalsHold mid h.globals a3 = globals_same mid h.globals r.a a3 (λ q k. (z.cell q, z.number q)) r.globals in
      let related : Related mid places p input h' m = record {
        going = r.going;
        f = f0;
        at = at0;
        block = wt.block;
        is_function = wt.is_function;
        is_places = wt.is_places;
        is_block = wt.is_block;
        within = subst (λ (k : ℕ). k ≤ length wt.block.steps) (sym wt.at_start) Rattle.std.proofs.Common.zero-le;
        a = made.now;
        d = y.now;
        top = top1;
        spot = refl;
        doubled = y.doubled;
        frame = record { stack = made.stack ∙ frame.stack; room = frame.room; small = frame.small; pairs_fit = frame.pairs_fit };
        above = le_trans r.above (up_le r.top r.f.pairs);
        holds = subst (λ (k : ℕ). Holds at0 (Wanted f0 c.block k) (with_result c.variables result w) top1 made.now) (sym wt.at_start) made.holds;
        globals = globals_same mid h.globals a3 made.now (λ q k. made.low q (Rattle.std.proofs.Common.lt_of_lt_of_le k (le_trans r.above (up_le r.top r.f.pairs)))) g3;
        waits = waits_kept mid places a3 made.now f0.pairs c.function c.result top1 cs made.outside (waits_kept mid places r.a a3 f0.pairs c.function c.result top1 cs (record { cell = λ q o. z.cell q; number = λ q o. z.number q }) waits.3);
        feed = r.feed ∙ (ap (λ (k : ℕ). drop k r.a.feed) (sym (made.fed ∙ z.fed)) ∙ ap (λ (k : List ℕ). drop made.now.fed k) (sym (made.feed ∙ z.feed)));
        all = made.feed ∙ (z.feed ∙ r.all);
      } in
      stage_silent mid places p input h h' l m0 g.4 r.going g.6
      (ends_to (Return from) e ∙ (ap (λ (xs : List Active). let o : BlockState × Option ℕ = (returns h xs (index_in h.current.variables from), None) in o) some ∙ ap (λ (v : ℕ). let o : BlockState × Option ℕ = (returns h (c ∷ cs) v, None) in o) g.1))
      (y.steps, m, subst (λ (v : Spot). Leads (items p) (Good p) y.steps v m) (sym m0_is) (subst (λ (v : Spot). Leads (items p) (Good p) y.steps (before p t (result_items at0 result ++ more) Onward d3) v) m_is y.leads), related)

  -- a return
  return_stage : (from : Option ℕ) → r.block.end ≡ Return from → ProperLine (EndLine (Return from)) h.current.variables h.globals → StageOf mid places p input h l
  return_stage from e proper = by_callers h.callers refl r.waits
    where
      by_callers : (cs : List Active) → h.callers ≡ cs → Waits mid places r.a r.f.pairs h.current.function h.current.result r.top cs → StageOf mid places p input h l
      by_callers [] g w = exit_stage from e proper g w
      by_callers (c ∷ cs) g w = back_stage from c cs e proper g w

  -- any end
  pub end_stage : (e : MidEnd) → r.block.end ≡ e → ProperLine (EndLine e) h.current.variables h.globals →
      ((g : ℕ) (args : List ℕ) (result : Option ℕ) (f' : MidFunction) → e ≡ Call g args result → slice_get mid.functions g ≡ Some f' → f'.pairs + global_cells mid ≤ r.top) → StageOf mid places p input h l
  end_stage (Jump to) e proper deep = jump_stage to e
  end_stage (Branch v when to) e proper deep = branch_stage v to when e proper
  end_stage (Call g args result) e proper deep = call_stage g args result e proper (λ f' q. deep g args result f' refl q)
  end_stage (Return from) e proper deep = return_stage from e proper
