-- One step of a block, and what its items come to.
use Rattle.std.proofs.Common.{◌≡◌, ◌≢◌, ◌≤◌, ◌<◌, ℕ, zero, suc, ◌+◌, ◌-◌, ◌*◌, ◌/◌, ◌%◌, ◌^◌, arith, ap, refl, sym, ◌∙◌, subst, List, [], ◌∷◌, ◌++◌, append_assoc, length, get_or, take, drop, map, Bool, true, false, cond, not, inl, inr, le_refl, le_trans, flat_map}
use Rattle.std.specs.Prelude.{Option, Some, None, slice_get, slice_index}
use Rattle.std.proofs.lemmas.Option.{slice_get_within, get_or_from_slice_get}
use Rattle.std.proofs.lemmas.List.{drop_more}
use Rattle.hard_runs.specs.Stepping.{Quiet, Leads, on, over, Stage, put}
use Rattle.hard_runs.proofs.Following.{leads_on}
use Rattle.mips_isa.specs.declared.instr.End.{End}
use Rattle.mid_blocks.specs.declared.code.MidStep.{MidStep}
use Rattle.mid_blocks.specs.declared.code.MidBlock.{MidBlock}
use Rattle.mid_blocks.specs.declared.code.MidFunction.{MidFunction}
use Rattle.mid_blocks.specs.declared.code.Mid.{Mid}
use Rattle.mid_blocks.specs.declared.code.RunEnd.{RunEnd}
use Rattle.mid_blocks.specs.declared.places.Place.{Place}
use Rattle.mid_blocks.specs.declared.places.Places.{Places}
use Rattle.mid_blocks.specs.Lines.{Line, Step, End as EndLine, step_reads, step_writes, line_of}
use Rattle.mid_blocks.specs.Run.{Active, BlockState, Variables, word_in, after_step, do_line, block_step, next_line, unless_ended, with_word}
use Rattle.frame_plan.specs.Frames.{global_cell, global_length, cells}
use Rattle.mips_isa.specs.declared.instr.Instr.{Instr}
use Rattle.mips_isa.specs.Machine.{State, step}
use Rattle.third_law.specs.declared.roles.Role.TheVariants.{Stack}
use Rattle.third_law.specs.Emitted.{place_of, step_code, end_code}
use Rattle.third_law.specs.Program.{cell_address, first_block}
use Rattle.third_law.specs.Runs.{end_of, blocks, says, line_says}
use Rattle.third_law.proofs.Sights.{Sight, Tripled}
use Rattle.third_law.proofs.Going.{machine, Stands, Before, Done, stands_first, stands_rest}
use Rattle.third_law.proofs.Voting.{Good}
use Rattle.third_law.proofs.Speaking.{Stops}
use Rattle.third_law.proofs.Leading.{Runnable, Does, DoesStop, behind_both}
use Rattle.third_law.proofs.Places.{Frame, PlaceFits, NotRole, Holds, near_frame, near_holds, sets_holds}
use Rattle.third_law.proofs.Steps.{DoesSet, DoesPass}
use Rattle.third_law.proofs.Relation.{Wanted, StepAt, Flow, GlobalsHold, rest_code, Laid, Related, Outside, waits_kept, near_outside, sets_outside, globals_same, sets_globals}

-- The relation, with items that are still to be run before it holds.
abbrev pub R : (mid : Mid) (places : List Places) (p : Runnable) → Laid mid places p → List ℕ → BlockState → State → Type 0
R mid places p x input h l = (k : ℕ) × (m : State) × Leads machine (Good p.text) k l m × Related mid places p x input h m

abbrev pub StageOf : (mid : Mid) (places : List Places) (p : Runnable) → Laid mid places p → List ℕ → BlockState → State → Type 0
StageOf mid places p x input h l = Stage machine (blocks mid) (Good p.text) (R mid places p x input) h l

-- ---- building a stage

-- the last of some quiet steps
pub record LastStep (p : Runnable) (k : ℕ) (s t : State) : Type 0 where
  pub last : State
  pub leads : Leads machine (Good p.text) k s last
  pub quiet : Quiet machine (Good p.text) last
  pub there : (step last).0 ≡ t

pub last_step : (p : Runnable) (k : ℕ) (s t : State) → Leads machine (Good p.text) (suc k) s t → LastStep p k s t
last_step p zero s t l = record { last = s; leads = refl; quiet = l.0; there = l.1 }
last_step p (suc k) s t l =
    let r : LastStep p k (step s).0 t = last_step p k (step s).0 t l.1 in
    record { last = r.last; leads = (l.0, r.leads); quiet = r.quiet; there = r.there }

none_put : (o q : Option ℕ) → o ≡ None → q ≡ None → put [] o ≡ put [] q
none_put o q e f = ap (λ (x : Option ℕ). put [] x) (e ∙ sym f)

pub stage_silent : (mid : Mid) (places : List Places) (p : Runnable) (x : Laid mid places p) (input : List ℕ) (h h' : BlockState) (l m : State) (k : ℕ) → h.end ≡ None → Leads machine (Good p.text) (suc k) l m → (blocks mid).step h ≡ (h', None) → R mid places p x input h' m → StageOf mid places p x input h l
stage_silent mid places p x input h h' l m k g leads e r =
    let y : LastStep p k l m = last_step p k l m leads in
    record {
      more = zero;
      quiet = k;
      last = y.last;
      going = ap (λ (z : Option RunEnd). end_of z) g;
      leads = y.leads;
      open_ = y.quiet.open_;
      good = y.quiet.good;
      fewer = Rattle.std.proofs.Common.zero-le;
      output = none_put (step y.last).1 ((blocks mid).step h).1 y.quiet.silent (ap (λ (z : BlockState × Option ℕ). z.1) e);
      next = on (subst (λ (z : BlockState). R mid places p x input z (step y.last).0) (sym (ap (λ (z : BlockState × Option ℕ). z.0) e)) (subst (λ (z : State). R mid places p x input h' z) (sym y.there) r));
    }

pub stage_speaks : (mid : Mid) (places : List Places) (p : Runnable) (x : Laid mid places p) (input : List ℕ) (h h' : BlockState) (l last m : State) (k w : ℕ) → h.end ≡ None → Leads machine (Good p.text) k l last → last.end ≡ None → Good p.text last → step last ≡ (m, Some w) → (blocks mid).step h ≡ (h', Some w) → R mid places p x input h' m → StageOf mid places p x input h l
stage_speaks mid places p x input h h' l last m k w g leads o good s e r = record {
  more = zero;
  quiet = k;
  last = last;
  going = ap (λ (z : Option RunEnd). end_of z) g;
  leads = leads;
  open_ = o;
  good = good;
  fewer = Rattle.std.proofs.Common.zero-le;
  output = ap (λ (x : State × Option ℕ). put [] x.1) s ∙ sym (ap (λ (x : BlockState × Option ℕ). put [] x.1) e);
  next = on (subst (λ (z : BlockState). R mid places p x input z (step last).0) (sym (ap (λ (z : BlockState × Option ℕ). z.0) e)) (subst (λ (z : State). R mid places p x input h' z) (sym (ap (λ (x : State × Option ℕ). x.0) s)) r));
}

pub stage_over : (mid : Mid) (places : List Places) (p : Runnable) (x : Laid mid places p) (input : List ℕ) (h h' : BlockState) (l : State) (e : End) → h.end ≡ None → Stops p.text l e → (blocks mid).step h ≡ (h', None) → end_of h'.end ≡ Some e → StageOf mid places p x input h l
stage_over mid places p x input h h' l e g s q f = record {
  more = zero;
  quiet = s.steps;
  last = s.last;
  going = ap (λ (z : Option RunEnd). end_of z) g;
  leads = s.leads;
  open_ = s.open_;
  good = s.good;
  fewer = Rattle.std.proofs.Common.zero-le;
  output = none_put (step s.last).1 ((blocks mid).step h).1 s.silent (ap (λ (z : BlockState × Option ℕ). z.1) q);
  next = over e (ap (λ (z : BlockState × Option ℕ). end_of z.0.end) q ∙ f) s.ends;
}

-- behind quiet steps
pub stage_behind : (mid : Mid) (places : List Places) (p : Runnable) (x : Laid mid places p) (input : List ℕ) (h : BlockState) (l m : State) (k : ℕ) → Leads machine (Good p.text) k l m → StageOf mid places p x input h m → StageOf mid places p x input h l
stage_behind mid places p x input h l m k leads s = record {
  more = s.more;
  quiet = k + s.quiet;
  last = s.last;
  going = s.going;
  leads = leads_on machine (Good p.text) k s.quiet l m s.last leads s.leads;
  open_ = s.open_;
  good = s.good;
  fewer = le_trans s.fewer (Rattle.std.proofs.Common.le-add_left s.quiet k);
  output = s.output;
  next = s.next;
}

-- ---- the step of the block machine

pub line_is : (mid : Mid) (h : BlockState) (f : MidFunction) (b : MidBlock) → slice_get mid.functions h.current.function ≡ Some f → slice_get f.blocks h.current.block ≡ Some b → next_line mid h ≡ Some (line_of (slice_get b.steps h.current.step) b.end)
line_is mid h f b e g =
    ap (λ (x : Option MidFunction). Rattle.mid_blocks.specs.Run.line_in_function x h.current) e ∙
    ap (λ (x : Option MidBlock). Rattle.mid_blocks.specs.Lines.line_in x h.current.step) g

pub high_step : (mid : Mid) (h : BlockState) (line : Line) → h.end ≡ None → next_line mid h ≡ Some line → (blocks mid).step h ≡ (do_line (Some line) h, line_says (Some line) h)
high_step mid h line e g =
    ap (λ (x : Option RunEnd). let z : BlockState × Option ℕ = (unless_ended x h (do_line (next_line mid h) h), says mid h x) in z) e ∙
    ap (λ (x : Option Line). let z : BlockState × Option ℕ = (do_line x h, line_says x h) in z) g

-- ---- going on in a block

-- The state with the step done.
abbrev pub stepped : BlockState → Variables → List (List ℕ) → List ℕ → List ℕ → BlockState
stepped h vars globals feed output = record h { current = after_step h.current vars; globals = globals; feed = feed; output = output }

-- The code of a step, in the places of its function.
abbrev pub code_of : Mid → Places → MidStep → List Instr
code_of mid at s = step_code (λ g. cell_address (global_cell mid g)) (global_length mid) at s

pub rest_is : (at : ℕ → ℕ) (mid : Mid) (fn own : ℕ) (f : MidFunction) (q : Places) (b : MidBlock) (n : ℕ) (s : MidStep) → slice_get b.steps n ≡ Some s →
    rest_code at mid fn own f q b n ≡ code_of mid q s ++ rest_code at mid fn own f q b (n + 1)
rest_is at mid fn own f q b n s e =
    let S : MidStep → List Instr = code_of mid q in
    let E : List Instr = end_code at (first_block mid) (first_block mid fn + own) (first_block mid fn) f.pairs q b.end in
    ap (λ (y : List MidStep). flat_map S y ++ E) (drop_more b.steps n s (slice_get_within b.steps n s e) ∙ ap (λ (y : MidStep). y ∷ drop (n + 1) b.steps) (get_or_from_slice_get b.steps n s s e)) ∙
    append_assoc (S s) (flat_map S (drop (n + 1) b.steps)) E

one_more : (n m : ℕ) → n < m → n + 1 ≤ m
one_more n m h = omega arith

-- the words of the step stand where the state is
pub step_stands : (mid : Mid) (places : List Places) (p : Runnable) (x : Laid mid places p) (input : List ℕ) (h : BlockState) (l : State) (r : Related mid places p x input h l) (s : MidStep) → slice_get r.block.steps h.current.step ≡ Some s →
    Stands p.text r.number (code_of mid r.at s ++ rest_code x.at mid h.current.function h.current.block r.f r.at r.block (h.current.step + 1))
step_stands mid places p x input h l r s e = subst (λ (c : List Instr). Stands p.text r.number c) (rest_is x.at mid h.current.function h.current.block r.f r.at r.block h.current.step s e) r.stands

-- the state after a step is related to the place behind its words
pub advance : (mid : Mid) (places : List Places) (p : Runnable) (x : Laid mid places p) (input : List ℕ) (h : BlockState) (l : State) (r : Related mid places p x input h l) (s : MidStep) (vars : Variables) (globals : List (List ℕ)) (feed output : List ℕ) (a : Sight) (m : State) →
    slice_get r.block.steps h.current.step ≡ Some s → Before p.text (r.number + length (code_of mid r.at s)) 0 m → Tripled (cells mid) m a → Frame (cells mid) r.f.pairs r.top a → Holds r.at (Wanted r.f h.current.block (h.current.step + 1)) vars r.top a → GlobalsHold mid globals a → Outside mid r.f.pairs r.top r.a a → feed ≡ drop a.fed a.feed → a.feed ≡ input →
    Related mid places p x input (stepped h vars globals feed output) m
advance mid places p x input h l r s vars globals feed output a m e before tripled frame holds gs outside fd all =
    let code : List Instr = code_of mid r.at s in
    let more : List Instr = rest_code x.at mid h.current.function h.current.block r.f r.at r.block (h.current.step + 1) in
    record {
      going = r.going;
      f = r.f;
      at = r.at;
      block = r.block;
      is_function = r.is_function;
      is_places = r.is_places;
      is_block = r.is_block;
      within = one_more h.current.step (length r.block.steps) (slice_get_within r.block.steps h.current.step s e);
      a = a;
      top = r.top;
      number = r.number + length code;
      stands = stands_rest p.text r.number code more (step_stands mid places p x input h l r s e);
      ends = behind_both r.number code more ∙ (ap (λ (c : List Instr). r.number + length c) (sym (rest_is x.at mid h.current.function h.current.block r.f r.at r.block h.current.step s e)) ∙ r.ends);
      before = before;
      tripled = tripled;
      frame = frame;
      above = r.above;
      holds = holds;
      globals = gs;
      waits = waits_kept mid places p.text x.place r.a a r.f.pairs h.current.function h.current.result r.top h.callers outside r.waits;
      feed = fd;
      all = all;
    }

-- What the premises of the pass give.
pub record Setting (mid : Mid) (places : List Places) (input : List ℕ) : Type 0 where
  pub flows : (n : ℕ) (f : MidFunction) (at : Places) → slice_get mid.functions n ≡ Some f → slice_get places n ≡ Some at → Flow f at
  pub small : cells mid ≤ 32768
  pub lengths_small : (g : ℕ) → global_length mid g < 2 ^ 15
  pub constants : (n b k to w : ℕ) (f : MidFunction) → slice_get mid.functions n ≡ Some f → StepAt f b k (MidStep.Constant to w) → w < 2 ^ 32
  pub input_words : (k : ℕ) → slice_index input k < 2 ^ 32

-- ---- silent steps

pub front_nil : {A : Type 0} (xs ys : List A) → xs ++ ys ≡ [] → xs ≡ []
front_nil [] ys e = refl
front_nil (x ∷ xs) ys e = absurd (cons_nil x (xs ++ ys) e)
  where
    cons_nil : {A : Type 0} (x : A) (xs : List A) → x ∷ xs ≡ [] → ⊥
    cons_nil x xs e = cc

pub back_nil : {A : Type 0} (xs ys : List A) → xs ++ ys ≡ [] → ys ≡ []
back_nil [] ys e = e
back_nil (x ∷ xs) ys e = absurd (cons_nil x (xs ++ ys) e)
  where
    cons_nil : {A : Type 0} (x : A) (xs : List A) → x ∷ xs ≡ [] → ⊥
    cons_nil x xs e = cc

some_steps : (p : Runnable) (size k : ℕ) (code : List Instr) (s : State) (a : Sight) → (y : Done p.text (Good p.text) size k code s a) → (code ≡ [] → ⊥) → (j : ℕ) × (y.steps ≡ suc j)
some_steps p size k code s a y ne = by_steps y.steps refl
  where
    by_steps : (n : ℕ) → y.steps ≡ n → (j : ℕ) × (y.steps ≡ suc j)
    by_steps zero e = absurd (ne (y.some e))
    by_steps (suc j) e = (j, e)

-- A step whose words lead on in silence.
pub silent : (mid : Mid) (places : List Places) (p : Runnable) (x : Laid mid places p) (input : List ℕ) (h h' : BlockState) (l : State) (r : Related mid places p x input h l) (s : MidStep) (a : Sight) → slice_get r.block.steps h.current.step ≡ Some s →
    (code_of mid r.at s ≡ [] → ⊥) →
    Does p (cells mid) (code_of mid r.at s) r.a a →
    (blocks mid).step h ≡ (h', None) →
    ((m : State) → Before p.text (r.number + length (code_of mid r.at s)) 0 m → Tripled (cells mid) m a → Related mid places p x input h' m) →
    StageOf mid places p x input h l
silent mid places p x input h h' l r s a e ne does step_ next =
    let code : List Instr = code_of mid r.at s in
    let more : List Instr = rest_code x.at mid h.current.function h.current.block r.f r.at r.block (h.current.step + 1) in
    let y : Done p.text (Good p.text) (cells mid) r.number code l a = does r.number l (stands_first p.text r.number code more (step_stands mid places p x input h l r s e)) r.before r.tripled in
    let j : (j : ℕ) × (y.steps ≡ suc j) = some_steps p (cells mid) r.number code l a y ne in
    stage_silent mid places p x input h h' l y.now j.0 r.going
    (subst (λ (n : ℕ). Leads machine (Good p.text) n l y.now) j.1 y.leads)
    step_ (zero, y.now, refl, next y.now y.before y.tripled)

-- A step whose words come to an end.
pub stopping : (mid : Mid) (places : List Places) (p : Runnable) (x : Laid mid places p) (input : List ℕ) (h h' : BlockState) (l : State) (r : Related mid places p x input h l) (s : MidStep) (end : End) → slice_get r.block.steps h.current.step ≡ Some s →
    DoesStop p (cells mid) (code_of mid r.at s) r.a end →
    (blocks mid).step h ≡ (h', None) → end_of h'.end ≡ Some end → StageOf mid places p x input h l
stopping mid places p x input h h' l r s end e does step_ f =
    let code : List Instr = code_of mid r.at s in
    let more : List Instr = rest_code x.at mid h.current.function h.current.block r.f r.at r.block (h.current.step + 1) in
    stage_over mid places p x input h h' l end r.going (does r.number l (stands_first p.text r.number code more (step_stands mid places p x input h l r s e)) r.before r.tripled) step_ f

-- A step that sets a variable.
pub setting : (mid : Mid) (places : List Places) (p : Runnable) (x : Laid mid places p) (input : List ℕ) (h : BlockState) (l : State) (r : Related mid places p x input h l) (s : MidStep) (to w : ℕ) → Flow r.f r.at → slice_get r.block.steps h.current.step ≡ Some s → step_writes s ≡ Some to →
    (code_of mid r.at s ≡ [] → ⊥) →
    DoesSet p (cells mid) (code_of mid r.at s) r.a r.top (place_of r.at to) w →
    (blocks mid).step h ≡ (stepped h (with_word h.current.variables to w) h.globals h.feed h.output, None) →
    StageOf mid places p x input h l
setting mid places p x input h l r s to w flow e writes ne does step =
    let st : StepAt r.f h.current.block h.current.step s = record { block = r.block; is_block = r.is_block; is_step = e } in
    let fits : PlaceFits r.f.pairs (place_of r.at to) = flow.step_fits h.current.block h.current.step to s st writes in
    silent mid places p x input h (stepped h (with_word h.current.variables to w) h.globals h.feed h.output) l r s does.now e ne does.does step
    (λ m before tripled. advance mid places p x input h l r s (with_word h.current.variables to w) h.globals h.feed h.output does.now m e before tripled
    (record { stack = does.sets.file Stack tt (stack_kept (place_of r.at to)) ∙ r.frame.stack; room = r.frame.room; small = r.frame.small; pairs_fit = r.frame.pairs_fit })
    (sets_holds r.at (Wanted r.f h.current.block h.current.step) (Wanted r.f h.current.block (h.current.step + 1)) h.current.variables r.top to w r.a does.now
    (λ y x n. (flow.step_on h.current.block h.current.step y s st (λ z. n (some_same y to (sym z ∙ writes))) x, flow.step_apart h.current.block h.current.step to y s st writes x n)) does.sets r.holds)
    (sets_globals mid h.globals r.top w (place_of r.at to) r.a does.now r.above does.sets r.globals)
    (sets_outside mid r.f.pairs r.top w (place_of r.at to) r.a does.now fits does.sets)
    (r.feed ∙ (ap (λ (n : ℕ). drop n r.a.feed) (sym does.sets.fed) ∙ ap (λ (n : List ℕ). drop does.now.fed n) (sym does.sets.feed)))
    (does.sets.feed ∙ r.all))
  where
    some_same : (x y : ℕ) → ◌≡◌ {A = Option ℕ} (Some x) (Some y) → x ≡ y
    some_same x y e = ap (λ (o : Option ℕ). elim o as (λ z. ℕ) [ Some v ↦ v | None ↦ 0 ]) e

    stack_kept : (pl : Place) → NotRole pl Stack
    stack_kept (Place.Pair k) = refl
    stack_kept (Place.Slot k) = tt

-- A step that changes nothing that the block machine sees.
pub passing : (mid : Mid) (places : List Places) (p : Runnable) (x : Laid mid places p) (input : List ℕ) (h : BlockState) (l : State) (r : Related mid places p x input h l) (s : MidStep) → Flow r.f r.at → slice_get r.block.steps h.current.step ≡ Some s → step_writes s ≡ None →
    (code_of mid r.at s ≡ [] → ⊥) →
    DoesPass p (cells mid) (code_of mid r.at s) r.a →
    (blocks mid).step h ≡ (stepped h h.current.variables h.globals h.feed h.output, None) →
    StageOf mid places p x input h l
passing mid places p x input h l r s flow e writes ne does step =
    let st : StepAt r.f h.current.block h.current.step s = record { block = r.block; is_block = r.is_block; is_step = e } in
    silent mid places p x input h (stepped h h.current.variables h.globals h.feed h.output) l r s does.now e ne does.does step
    (λ m before tripled. advance mid places p x input h l r s h.current.variables h.globals h.feed h.output does.now m e before tripled
    (near_frame (cells mid) r.f.pairs r.top r.a does.now does.near r.frame)
    (near_holds r.at (Wanted r.f h.current.block h.current.step) (Wanted r.f h.current.block (h.current.step + 1)) h.current.variables r.top r.a does.now
    (λ v x. flow.step_on h.current.block h.current.step v s st (λ z. none_some v (sym writes ∙ z)) x) does.near r.holds)
    (globals_same mid h.globals r.a does.now (λ c k. does.near.cell c) r.globals)
    (near_outside mid r.f.pairs r.top r.a does.now does.near)
    (r.feed ∙ (ap (λ (n : ℕ). drop n r.a.feed) (sym does.near.fed) ∙ ap (λ (n : List ℕ). drop does.now.fed n) (sym does.near.feed)))
    (does.near.feed ∙ r.all))
  where
    none_some : (x : ℕ) → ◌≡◌ {A = Option ℕ} None (Some x) → ⊥
    none_some x e = cc
