-- The whole run: the words go in step with the items.
use Rattle.std.proofs.Common.{◌≡◌, ◌<◌, ℕ, zero, suc, ◌+◌, ◌*◌, arith, ap, refl, sym, ◌∙◌, subst, List, [], ◌∷◌, ◌++◌, length, replicate, Bool, true, false}
use Rattle.std.specs.Prelude.{Option, Some, None, slice_index, slice_get, ◌⊎◌, ◌==◌, ◌&&◌, not}
use Rattle.hard_runs.specs.Stepping.{put, go}
use Rattle.mips_isa.specs.declared.instr.Instr.{Instr}
use Rattle.mips_isa.specs.declared.instr.Act.{Act}
use Rattle.mips_isa.specs.declared.instr.End.{End}
use Rattle.mips_isa.specs.declared.instr.End.TheVariants.{Exited, Trapped, Starved, Reported, Exception, Hazard}
use Rattle.mips_isa.specs.Machine as machine
use Rattle.mips_isa.specs.Machine.{State, reg, plus, perform, act, is_jump, planned, step}
use Rattle.mips_isa.specs.Runs.{run, put_out}
use Rattle.mips_isa.specs.Image.{boot_state}
use Rattle.hard_items.specs.declared.code.Class.{Class}
use Rattle.hard_items.specs.declared.code.Fix.{Fix}
use Rattle.hard_items.specs.declared.code.Fix.TheVariants.{Plain, Block, Function, ReturnHigh, ReturnLow}
use Rattle.hard_items.specs.declared.code.Item.{Item}
use Rattle.hard_items.specs.declared.code.HardBlock.{HardBlock}
use Rattle.hard_items.specs.declared.code.HardProgram.{HardProgram}
use Rattle.hard_items.specs.Run.{Data, Spot, Way, Onward, Over, To, items, items_of, block_items, before, at_block, arrived, first_spot, first_data, settled, item_act, machine_of, data_after}
use Rattle.hard_items.specs.Forms.{HalvesPair}
use Rattle.hard_items.specs.Counts.{loaded, quiet_after, is_break}
use Rattle.hard_items.specs.Rules.{LawfulNext, LawfulAt}
use Rattle.layout_law.specs.Layout.{words, filled, image}
use Rattle.layout_law.specs.Level.{StayFits, Layable, WaySame, SameEnd, Level, InStep, RunsInStep}
use Rattle.layout_law.proofs.Data as outcome
use Rattle.layout_law.proofs.Data.{Moved, Outcome, last_of, quiet_of}
use Rattle.layout_law.proofs.Acts.{stays_on, break_ends}
use Rattle.layout_law.proofs.Arrive.{spot, place_end, place_bound, arrive, depart, start_level}
use Rattle.layout_law.proofs.Step.{item, Done, done_by, planned_here, reach_here, range_here, stay_fits, jump_fits, in_words_more}
use Rattle.layout_law.proofs.Jumps.{Gone, gone}

no_true : true ≡ false → ⊥
no_true e = cc

-- What one step leaves of both.
pub record Stepped (p : HardProgram) (high : Spot × Option ℕ) (low : State × Option ℕ) : Type 0 where
  pub level : Level p high.0 low.0
  pub output : low.1 ≡ high.1

-- An end in both.
ended_level : (p : HardProgram) (t : Spot) (s : State) (e f : End) → Level p t s → SameEnd (Some e) (Some f) → Level p (record t { end = Some e }) (record s { end = Some f })
ended_level p t s e f l h = record {
  open_ = l.open_;
  text = l.text;
  place = record {
    there = l.place.there;
    done = l.place.done;
    split = l.place.split;
    pc = l.place.pc;
    way = l.place.way;
    lines = l.place.lines;
    slot = l.place.slot;
    halves = l.place.halves;
    calm = l.place.calm;
    quiet = l.place.quiet;
    slot_quiet = l.place.slot_quiet;
  };
  data_ = record { regs = l.data_.regs; memory = l.data_.memory; hi = l.data_.hi; lo = l.data_.lo; feed = l.data_.feed; fed = l.data_.fed };
  ends = h;
}

-- A block in which an item comes next is there.
block_of_lawful : (p : HardProgram) (c : ℕ) (d : Data) → LawfulNext p c (items_of p c) d → c < length p.blocks
block_of_lawful p c d h = by p.blocks c h
  where
    least : (n : ℕ) → 0 < suc n
    least n = omega arith

    up : (c n : ℕ) → c < n → suc c < suc n
    up c n h = omega arith

    by : (ks : List HardBlock) (c' : ℕ) → LawfulNext p c (block_items (slice_get ks c')) d → c' < length ks
    by [] c' h = absurd h
    by (k ∷ ks) zero h = least (length ks)
    by (k ∷ ks) (suc c') h = up c' (length ks) (by ks c' h)

-- A break ends the run.
pub break_act : (b : ℕ) (x : Instr) (k : Class) (f : Fix) (d : Data) → StayFits f x → is_break x ≡ true → (perform (item_act b (item x k f) d) (machine_of d)).0.end ≡ None → ⊥
break_act b x k Plain d h e g = break_ends b d x e g
break_act b x k (Block t) d h e g = h
break_act b x k (Function t) d h e g = h
break_act b x k ReturnHigh d h e g = break_ends b d x e g
break_act b x k ReturnLow d h e g = no_true (sym e ∙ ap is_break h)

-- One step at an item that goes nowhere.
stay_by : (p : HardProgram) (l : Layable p) (b : ℕ) (i : Item) (more : List Item) (w : Way) (d : Data) (s : State) (o : Bool) (a : Act) (high low : State × Option ℕ) → Level p (spot b (i ∷ more) w d None) s → is_jump i.instr ≡ false → (high.0.end ≡ None → is_break i.instr ≡ true → ⊥) → last_of a ≡ loaded i.instr → quiet_of a s.quiet ≡ quiet_after i.instr s.quiet → HalvesPair more o →
    ((d' : Data) → w ≡ Onward → more ≡ [] → (settled p (spot b (i ∷ more) w d None) i more a high high.0.end).0 ≡ at_block p (b + 1) d' → b + 1 < length p.blocks) →
    Outcome p o b i a d s high low → Stepped p (settled p (spot b (i ∷ more) w d None) i more a high high.0.end) low
stay_by p l b i more w d s o a high low v j nb la q h next (outcome.on he le out m mv n) =
    let d' : Data = data_after i a d high.0 in
    let e : settled p (spot b (i ∷ more) w d None) i more a high high.0.end ≡ (arrived p w Onward b more d', high.1) =
    ap (λ (z : Option End). settled p (spot b (i ∷ more) w d None) i more a high z) he ∙ ap (λ (z : Way). (arrived p w z b more d', high.1)) (stays_on p i d i.instr j) in
    subst (λ (z : Spot × Option ℕ). Stepped p z low) (sym e) (record {
      level = arrive p l w b i more d d' s low.0 v.open_ o v.place (record {
        text = mv.text ∙ v.text;
        moved = record { pc = mv.pc; text = mv.text; last = mv.last ∙ la; quiet = mv.quiet ∙ q; slot = mv.slot };
        npc = n;
        open_ = le;
        halves = h;
        data_ = m;
        stays = j;
        no_break = not_true (is_break i.instr) (nb he);
      }) (λ x y. next d' x y (ap (λ (z : Spot × Option ℕ). z.0) e ∙ (ap (λ (z : Way). arrived p z Onward b more d') x ∙ ap (λ (z : List Item). before p b z Onward d') y)));
      output = out;
    })
  where
    not_true : (z : Bool) → (z ≡ true → ⊥) → z ≡ false
    not_true true f = absurd (f refl)
    not_true false f = refl
stay_by p l b i more w d s o a high low v j nb la q h next (outcome.over e f he lo g) =
    subst (λ (z : State × Option ℕ). Stepped p (settled p (spot b (i ∷ more) w d None) i more a high high.0.end) z) (sym lo)
    (subst (λ (z : Option End). Stepped p (settled p (spot b (i ∷ more) w d None) i more a high z) (record s { end = Some f }, None)) (sym he) (record { level = ended_level p (spot b (i ∷ more) w d None) s e f v g; output = refl }))

-- One step at a branch or a jump.
go_by : (p : HardProgram) (l : Layable p) (b : ℕ) (i : Item) (more : List Item) (d : Data) (s : State) → Level p (spot b (i ∷ more) Onward d None) s → Gone p b i more d s → Stepped p ((items p).step (spot b (i ∷ more) Onward d None)) (perform (act (filled p b s.pc i.fix i.instr) s) s)
go_by p l b i more d s v g =
    let a : Act = item_act b i d in
    let high : State × Option ℕ = perform a (machine_of d) in
    let e : settled p (spot b (i ∷ more) Onward d None) i more a high high.0.end ≡ (before p b more g.way (data_after i a d high.0), high.1) =
    ap (λ (z : Option End). settled p (spot b (i ∷ more) Onward d None) i more a high z) g.goes_on ∙ ap (λ (z : Way). (arrived p Onward z b more (data_after i a d high.0), high.1)) g.is_way in
    subst (λ (z : Spot × Option ℕ). Stepped p z (perform (act (filled p b s.pc i.fix i.instr) s) s)) (sym e) (record {
      level = depart p l g.way b i more d (data_after i a d high.0) s (perform (act (filled p b s.pc i.fix i.instr) s) s).0 v.open_ g.open_ v.place g.went;
      output = g.silent_low ∙ sym g.silent;
    })

-- At a branch or a jump the run is in no delay slot.
jumps_onward : (p : HardProgram) (w : Way) (pc npc : ℕ) (slot : Bool) (i : Item) (more : List Item) → WaySame p w pc npc slot (i ∷ more) → is_jump i.instr ≡ true → w ≡ Onward
jumps_onward p Onward pc npc slot i more h j = refl
jumps_onward p Over pc npc slot i [] h j = absurd h.1.1
jumps_onward p Over pc npc slot i (k ∷ []) h j = absurd h.1.1
jumps_onward p Over pc npc slot i (k ∷ m ∷ more) h j = absurd (no_true (sym j ∙ h.1.1.0))
jumps_onward p (To t) pc npc slot i [] h j = absurd (no_true (sym j ∙ ap is_jump h.1.1.1.nop))
jumps_onward p (To t) pc npc slot i (k ∷ more) h j = absurd h.1.1.1

-- One step.
step_open : (p : HardProgram) (l : Layable p) (b : ℕ) (rest : List Item) (w : Way) (d : Data) (s : State) → Level p (spot b rest w d None) s → LawfulNext p b rest d → (((items p).step (spot b rest w d None)).0.end ≡ None → LawfulAt p ((items p).step (spot b rest w d None)).0) → Stepped p ((items p).step (spot b rest w d None)) (step s)
step_open p l b [] w d s v q next = absurd q
step_open p l b (i ∷ more) w d s v q next = by (is_jump i.instr) refl
  where
    low : step s ≡ perform (act (filled p b s.pc i.fix i.instr) s) s
    low = ap (λ (z : Option End). machine.step_from s z) v.ends ∙ ap (λ (z : Act). perform z s) (planned_here p l v.open_ b i more w d s v.text v.place)

    by : (z : Bool) → is_jump i.instr ≡ z → Stepped p ((items p).step (spot b (i ∷ more) w d None)) (step s)
    by false j = subst (λ (z : State × Option ℕ). Stepped p ((items p).step (spot b (i ∷ more) w d None)) z) (sym low)
        (let f : StayFits i.fix i.instr = stay_fits p s.slot i more v.place.lines j in
        let g : Done p b i more d s = done_by p v.open_ b i.instr i.class i.fix more d s v.ends v.data_ v.place.there j (range_here p l v.open_ b i more w d s v.place) f v.place.halves q.reads in
        stay_by p l b i more w d s g.open_ (item_act b i d) (perform (item_act b i d) (machine_of d)) (perform (act (filled p b s.pc i.fix i.instr) s) s) v j (λ x y. break_act b i.instr i.class i.fix d f y x) g.last g.quiet g.halves
        (λ d' x y e. block_of_lawful p (b + 1) d' (lawful_there d' e (next (ap (λ (z : Spot). z.end) e)))) g.outcome)
      where
        lawful_there : (d' : Data) → ((items p).step (spot b (i ∷ more) w d None)).0 ≡ at_block p (b + 1) d' → LawfulAt p ((items p).step (spot b (i ∷ more) w d None)).0 → LawfulNext p (b + 1) (items_of p (b + 1)) d'
        lawful_there d' e h = subst (λ (z : Spot). LawfulAt p z) e h
    by true j =
        let o : w ≡ Onward = jumps_onward p w s.pc s.npc s.slot i more v.place.way j in
        subst (λ (z : State × Option ℕ). Stepped p ((items p).step (spot b (i ∷ more) w d None)) z) (sym low)
        (subst (λ (z : Way). Level p (spot b (i ∷ more) z d None) s → Stepped p ((items p).step (spot b (i ∷ more) z d None)) (perform (act (filled p b s.pc i.fix i.instr) s) s)) (sym o) (λ (u : Level p (spot b (i ∷ more) Onward d None) s).
        go_by p l b i more d s u (gone p l u.open_ b i.instr i.class i.fix more d s u.text u.ends u.place.there u.data_ j (jump_fits p s.slot i more u.place.lines j) u.place.halves
        (reach_here p l u.open_ b i more Onward d s u.place) (in_words_more p b (length u.place.done) s.pc u.place.pc) q u.place.way (place_end p u.open_ (spot b (i ∷ more) Onward d None) s u.place) (place_bound p u.open_ (spot b (i ∷ more) Onward d None) s l u.place))) v)

-- Where an end stands, nothing changes.
pub ends_there : (e f : Option End) → SameEnd e f → (x : End) → e ≡ Some x → (y : End) × (f ≡ Some y)
ends_there None f h x e = absurd (no e)
  where
    no : None ≡ Some x → ⊥
    no e = cc
ends_there (Some (Exited w)) f h x e = (Exited w, h)
ends_there (Some (Trapped w)) f h x e = (Trapped w, h)
ends_there (Some Starved) f h x e = (Starved, h)
ends_there (Some (Reported c at)) f h x e = (Reported c h.0, h.1)
ends_there (Some (Exception c at)) f h x e = (Exception c h.0, h.1)
ends_there (Some (Hazard at)) f h x e = (Hazard h.0, h.1)

step_any : (p : HardProgram) (l : Layable p) (b : ℕ) (rest : List Item) (w : Way) (d : Data) (e : Option End) (s : State) → Level p (spot b rest w d e) s → (e ≡ None → LawfulNext p b rest d) → (((items p).step (spot b rest w d e)).0.end ≡ None → LawfulAt p ((items p).step (spot b rest w d e)).0) → Stepped p ((items p).step (spot b rest w d e)) (step s)
step_any p l b rest w d None s v q next = step_open p l b rest w d s v (q refl) next
step_any p l b rest w d (Some e) s v q next =
    let y : (f : End) × (s.end ≡ Some f) = ends_there (Some e) s.end v.ends e refl in
    subst (λ (z : State × Option ℕ). Stepped p (spot b rest w d (Some e), None) z) (sym (ap (λ (z : Option End). machine.step_from s z) y.1)) (record { level = v; output = refl })

-- ---- runs

puts_same : (xs ys : List ℕ) (a b : Option ℕ) → xs ≡ ys → a ≡ b → put_out xs a ≡ put ys b
puts_same xs ys a None e f = ap (λ (z : Option ℕ). put_out xs z) f ∙ e
puts_same xs ys a (Some w) e f = ap (λ (z : Option ℕ). put_out xs z) f ∙ ap (λ (z : List ℕ). z ++ w ∷ []) e

none_held : (n r : ℕ) → slice_index (replicate n 0) r ≡ 0
none_held zero r = refl
none_held (suc n) zero = refl
none_held (suc n) (suc r) = none_held n r

first_level : (p : HardProgram) (input : List ℕ) → Layable p → 0 < length p.blocks → Level p (first_spot p input) (boot_state (image p) input)
first_level p input l h = start_level p l 0 0 (first_data p input) (boot_state (image p) input) h refl refl (first p.blocks) (ap (λ (z : ℕ). plus z 4) (first p.blocks)) refl refl refl (record {
  regs = record { all = refl; there = refl; same = λ r k. refl; half = λ k. absurd (no_true (sym k)); blocks = λ r k. absurd (no_true (sym k)) };
  memory = record { there = refl; same = λ q. refl; blocks = λ q k. absurd (no_true (sym k)) };
  hi = refl;
  lo = refl;
  feed = refl;
  fed = refl;
})
  where
    first : (ks : List HardBlock) → 0x00400000 ≡ 0x00400000 + 4 * words (Rattle.std.specs.Prelude.take 0 ks)
    first ks = refl

pub runs_in_step : RunsInStep
runs_in_step p input l h g zero = record { output = refl; level = first_level p input l h }
runs_in_step p input l h g (suc n) =
    let i : InStep p input n = runs_in_step p input l h g n in
    let t : Spot = (go (items p) (first_spot p input) n).state in
    let s : State = (run (boot_state (image p) input) None n).state in
    let q : Stepped p ((items p).step t) (step s) = step_any p l t.block t.rest t.way t.now t.end s i.level (g n) (g (suc n)) in
    record { output = puts_same (run (boot_state (image p) input) None n).output (go (items p) (first_spot p input) n).output (step s).1 ((items p).step t).1 i.output q.output; level = q.level }
