-- Each word that comes next is placed, where each item is lawful.
use Rattle.std.proofs.Common.{◌≡◌, ◌≢◌, ℕ, suc, ap, refl, sym, ◌∙◌, subst, List, [], ◌∷◌, Bool, true, false, inl, inr}
use Rattle.std.specs.Prelude.{Option, Some, None, ◌⊎◌, ◌==◌, ◌&&◌, ◌||◌, nat_le}
use Rattle.hard_words.specs.Words.{extended}
use Rattle.hard_runs.specs.Stepping.{go}
use Rattle.mips_isa.specs.declared.instr.Instr.{Instr}
use Rattle.mips_isa.specs.declared.instr.Instr.TheVariants.{J, Jal, Jr, Beq, Bne, Lw, Sw, Lui, Ori}
use Rattle.mips_isa.specs.declared.instr.End.{End}
use Rattle.mips_isa.specs.declared.instr.End.TheVariants.{Exited, Trapped, Starved, Reported, Exception, Hazard}
use Rattle.mips_isa.specs.Machine.{State, reg, plus, is_jump, step}
use Rattle.mips_isa.specs.Runs.{run}
use Rattle.mips_isa.specs.Image.{boot_state}
use Rattle.mips_text.specs.Text.{At}
use Rattle.mips_text.specs.Blocks.{IsStart}
use Rattle.mips_faults.specs.Faults.{in_even, in_odd, Moves, IsPlaced}
use Rattle.hard_items.specs.declared.code.Fix.{Fix}
use Rattle.hard_items.specs.declared.code.Fix.TheVariants.{Plain, Block, Function, ReturnHigh, ReturnLow}
use Rattle.hard_items.specs.declared.code.Item.{Item}
use Rattle.hard_items.specs.declared.code.HardProgram.{HardProgram}
use Rattle.hard_items.specs.Streams.{touched, is_master, is_shadow}
use Rattle.hard_items.specs.Run.{Data, Spot, Way, items, first_spot, held}
use Rattle.hard_items.specs.Forms.{Each, HalvesPair, HalvesAt}
use Rattle.hard_items.specs.Rules as rules
use Rattle.hard_items.specs.Rules.{Lawful, LawfulNext, LawfulAt, Parity, Reads, Returns}
use Rattle.layout_law.specs.Layout.{address, filled, text, image}
use Rattle.layout_law.specs.Level.{Lines, StayFits, ItemFits, Layable, Entered, worth, SameEnd, Level, InStep}
use Rattle.layout_law.specs.Typed.{LaidPlaced, LaidUnreported}
use Rattle.layout_law.proofs.Acts.{apart_half, reg_same}
use Rattle.layout_law.proofs.Arrive.{spot}
use Rattle.layout_law.proofs.Step.{stay_fits, jump_fits}
use Rattle.layout_law.proofs.Views.{ItemWord, at_item}
use Rattle.layout_law.proofs.Starts.{same_instr}
use Rattle.layout_law.proofs.Blocks.{block_start}
use Rattle.layout_law.proofs.Whole.{runs_in_step}
use Rattle.layout_law.proofs.Same.{IsFault, no_fault}

no_true : true ≡ false → ⊥
no_true e = cc

-- ---- instructions without a field

abbrev pub is_bare : Instr → Bool
is_bare (Jr rs) = true
is_bare (Lw rt rs imm) = true
is_bare (Sw rt rs imm) = true
is_bare x = false

filled_bare : (p : HardProgram) (b at : ℕ) (f : Fix) (x y : Instr) → is_bare y ≡ true → filled p b at f x ≡ y → x ≡ y
filled_bare p b at Plain x y h e = e
filled_bare p b at (Block t) (J tg) y h e = absurd (no_true (sym h ∙ sym (ap is_bare e)))
filled_bare p b at (Block t) (Beq rs rt imm) y h e = absurd (no_true (sym h ∙ sym (ap is_bare e)))
filled_bare p b at (Block t) (Bne rs rt imm) y h e = absurd (no_true (sym h ∙ sym (ap is_bare e)))
filled_bare p b at (Block t) x y h e = e
filled_bare p b at (Function f) (Jal tg) y h e = absurd (no_true (sym h ∙ sym (ap is_bare e)))
filled_bare p b at (Function f) x y h e = e
filled_bare p b at ReturnHigh (Lui rt imm) y h e = absurd (no_true (sym h ∙ sym (ap is_bare e)))
filled_bare p b at ReturnHigh x y h e = e
filled_bare p b at ReturnLow (Ori rt rs imm) y h e = absurd (no_true (sym h ∙ sym (ap is_bare e)))
filled_bare p b at ReturnLow x y h e = e

-- Beside an open pair the item spares register 25.
spares : (f : Fix) (x : Instr) (more : List Item) (o : Bool) → is_bare x ≡ true → (f ≡ ReturnLow → ⊥) → HalvesAt (HalvesPair more) f o x → Each (λ r. (o ≡ false) ⊎ (r ≢ 25)) (touched x)
spares Plain x more o b n h = apart_half o (touched x) h.0
spares (Block t) x more o b n h = apart_half o (touched x) (λ e. absurd (no_true (sym e ∙ h.0)))
spares (Function t) x more o b n h = apart_half o (touched x) (λ e. absurd (no_true (sym e ∙ h.0)))
spares ReturnHigh x more o b n h = apart_half o (touched x) (λ e. absurd (no_true (sym e ∙ h.0)))
spares ReturnLow x more o b n h = absurd (n refl)

no_low : (p : HardProgram) (slot : Bool) (i : Item) (more : List Item) → Lines p slot (i ∷ more) → is_bare i.instr ≡ true → i.fix ≡ ReturnLow → ⊥
no_low p slot i more l b e = by (is_jump i.instr) refl
  where
    ori : i.instr ≡ Ori 25 25 0 → ⊥
    ori q = no_true (sym b ∙ ap is_bare q)

    jumps : (x : Instr) → is_bare x ≡ true → is_jump x ≡ true → ItemFits p ReturnLow x more → ⊥
    jumps (Jr rs) b j h = no h.0
      where
        no : ReturnLow ≡ Plain → ⊥
        no q = cc
    jumps (Lw rt rs imm) b j h = no_true (sym j)
    jumps (Sw rt rs imm) b j h = no_true (sym j)
    jumps x b j h = no_true (sym b)

    by : (z : Bool) → is_jump i.instr ≡ z → ⊥
    by false j = ori (subst (λ (z : Fix). StayFits z i.instr) e (stay_fits p slot i more l j))
    by true j = jumps i.instr b j (subst (λ (z : Fix). ItemFits p z i.instr more) e (jump_fits p slot i more l j))

even_master : (r : ℕ) → in_even r ≡ true → is_master r ≡ true
even_master r h = by (nat_le 4 r && nat_le r 13) (r == 31) (r == 29) h
  where
    by : (x y z : Bool) → (x || y) ≡ true → (x || (z || y)) ≡ true
    by true y z h = refl
    by false true true h = refl
    by false true false h = refl
    by false false z h = absurd (no_true (sym h))

odd_shadow : (r : ℕ) → in_odd r ≡ true → is_shadow r ≡ true
odd_shadow r h = by (nat_le 14 r && nat_le r 23) (r == 25) (r == 30) h
  where
    by : (x y z : Bool) → (x || y) ≡ true → (x || (z || y)) ≡ true
    by true y z h = refl
    by false true true h = refl
    by false true false h = refl
    by false false z h = absurd (no_true (sym h))

-- ---- one state

-- The item that comes next has the word's instruction; its address and its target are those of the item.
placed_moves : (p : HardProgram) (l : Layable p) (b : ℕ) (i : Item) (more : List Item) (w : Way) (d : Data) (s : State) (v : Level p (spot b (i ∷ more) w d None) s) → Lawful p b i d → (rt rs imm : ℕ) → Moves s rt rs imm → Parity rt (plus (reg s rs) (extended imm))
placed_moves p l b i more w d s v q rt rs imm m = elim m as (λ z. Parity rt (plus (reg s rs) (extended imm))) [
  | inl h ↦ let e : i.instr ≡ Lw rt rs imm = item (Lw rt rs imm) refl h in
      subst (λ (z : ℕ). Parity rt (plus z (extended imm))) (sym (same rs (free (Lw rt rs imm) e refl).0 (subst (λ (z : Instr). Reads z d) e q.reads).0)) (subst (λ (z : Instr). rules.Placed z d) e q.placed)
  | inr h ↦ let e : i.instr ≡ Sw rt rs imm = item (Sw rt rs imm) refl h in
      subst (λ (z : ℕ). Parity rt (plus z (extended imm))) (sym (same rs (free (Sw rt rs imm) e refl).1.0 (subst (λ (z : Instr). Reads z d) e q.reads))) (subst (λ (z : Instr). rules.Placed z d) e q.placed)
]
  where
    word : ItemWord p s.pc
    word = record { block = b; there = v.place.there; done = v.place.done; item = i; more = more; split = v.place.split; at = v.place.pc }

    item : (x : Instr) → is_bare x ≡ true → At s.text s.pc x → i.instr ≡ x
    item x y h = filled_bare p b s.pc i.fix i.instr x y (same_instr (text p) s.pc (filled p b s.pc i.fix i.instr) x (at_item p l s.pc (record { block = b; there = v.place.there; done = v.place.done; item = i; more = more; split = v.place.split; at = v.place.pc })) (subst (λ (z : List ℕ). At z s.pc x) v.text h))

    free : (x : Instr) → i.instr ≡ x → is_bare x ≡ true → Each (λ r. (v.open_ ≡ false) ⊎ (r ≢ 25)) (touched x)
    free x e y = subst (λ (z : Instr). Each (λ r. (v.open_ ≡ false) ⊎ (r ≢ 25)) (touched z)) e (spares i.fix i.instr more v.open_ (ap is_bare e ∙ y) (no_low p s.slot i more v.place.lines (ap is_bare e ∙ y)) v.place.halves)

    same : (r : ℕ) → (v.open_ ≡ false) ⊎ (r ≢ 25) → d.backs r ≡ false → reg s r ≡ held d r
    same r f e = reg_same p v.open_ b d s r v.data_ f e

placed_returns : (p : HardProgram) (l : Layable p) (n : Entered p) (b : ℕ) (i : Item) (more : List Item) (w : Way) (d : Data) (s : State) (v : Level p (spot b (i ∷ more) w d None) s) → Lawful p b i d → (rs : ℕ) → At s.text s.pc (Jr rs) → IsStart s.text 0x00400000 (reg s rs)
placed_returns p l n b i more w d s v q rs h =
    let e : i.instr ≡ Jr rs = filled_bare p b s.pc i.fix i.instr (Jr rs) refl (same_instr (text p) s.pc (filled p b s.pc i.fix i.instr) (Jr rs) (at_item p l s.pc (record { block = b; there = v.place.there; done = v.place.done; item = i; more = more; split = v.place.split; at = v.place.pc })) (subst (λ (z : List ℕ). At z s.pc (Jr rs)) v.text h)) in
    let f : Each (λ r. (v.open_ ≡ false) ⊎ (r ≢ 25)) (touched (Jr rs)) = subst (λ (z : Instr). Each (λ r. (v.open_ ≡ false) ⊎ (r ≢ 25)) (touched z)) e (spares i.fix i.instr more v.open_ (ap is_bare e) (no_low p s.slot i more v.place.lines (ap is_bare e)) v.place.halves) in
    let r : Returns p b (Jr rs) d = subst (λ (z : Instr). Returns p b z d) e q.returns in
    let g : reg s rs ≡ address p (held d rs) = v.data_.regs.same rs f.0 ∙ ap (λ (z : Bool). worth p z (held d rs)) r.0 in
    subst (λ (z : List ℕ). IsStart z 0x00400000 (reg s rs)) (sym v.text) (subst (λ (z : ℕ). IsStart (text p) 0x00400000 z) (sym g) (block_start p l n (held d rs) (l.follows b (held d rs) r.1)))

-- ---- ends

-- An end of the words is one of the items.
fault_up : (e f : Option End) (c at : ℕ) → SameEnd e f → f ≡ Some (Exception c at) → IsFault e
fault_up None f c at h q = absurd (no (sym h ∙ q))
  where
    no : None ≡ Some (Exception c at) → ⊥
    no q = cc
fault_up (Some (Exited w)) f c at h q = absurd (no (sym h ∙ q))
  where
    no : Some (Exited w) ≡ Some (Exception c at) → ⊥
    no q = cc
fault_up (Some (Trapped w)) f c at h q = absurd (no (sym h ∙ q))
  where
    no : Some (Trapped w) ≡ Some (Exception c at) → ⊥
    no q = cc
fault_up (Some Starved) f c at h q = absurd (no (sym h ∙ q))
  where
    no : Some Starved ≡ Some (Exception c at) → ⊥
    no q = cc
fault_up (Some (Reported k x)) f c at h q = absurd (no h.0 (sym h.1 ∙ q))
  where
    no : (y : ℕ) → Some (Reported k y) ≡ Some (Exception c at) → ⊥
    no y q = cc
fault_up (Some (Exception k x)) f c at h q = tt
fault_up (Some (Hazard x)) f c at h q = tt

report_up : (e f : Option End) (c at : ℕ) → SameEnd e f → f ≡ Some (Reported c at) → (k : ℕ) × ((x : ℕ) × (e ≡ Some (Reported k x)))
report_up None f c at h q = absurd (no (sym h ∙ q))
  where
    no : None ≡ Some (Reported c at) → ⊥
    no q = cc
report_up (Some (Exited w)) f c at h q = absurd (no (sym h ∙ q))
  where
    no : Some (Exited w) ≡ Some (Reported c at) → ⊥
    no q = cc
report_up (Some (Trapped w)) f c at h q = absurd (no (sym h ∙ q))
  where
    no : Some (Trapped w) ≡ Some (Reported c at) → ⊥
    no q = cc
report_up (Some Starved) f c at h q = absurd (no (sym h ∙ q))
  where
    no : Some Starved ≡ Some (Reported c at) → ⊥
    no q = cc
report_up (Some (Reported k x)) f c at h q = (k, (x, refl))
report_up (Some (Exception k x)) f c at h q = absurd (no h.0 (sym h.1 ∙ q))
  where
    no : (y : ℕ) → Some (Exception k y) ≡ Some (Reported c at) → ⊥
    no y q = cc
report_up (Some (Hazard x)) f c at h q = absurd (no h.0 (sym h.1 ∙ q))
  where
    no : (y : ℕ) → Some (Hazard y) ≡ Some (Reported c at) → ⊥
    no y q = cc

-- ---- the laws

placed_by : (p : HardProgram) (l : Layable p) (n : Entered p) (b : ℕ) (rest : List Item) (w : Way) (d : Data) (e : Option End) (s : State) → Level p (spot b rest w d e) s → s.end ≡ None → (e ≡ None → LawfulNext p b rest d) → ((code at : ℕ) → (step s).0.end ≡ Some (Exception code at) → ⊥) → IsPlaced 0x00400000 s
placed_by p l n b [] w d None s v x q c = absurd (q refl)
placed_by p l n b (i ∷ more) w d None s v x q c = record {
  even = λ rt rs imm m h. (placed_moves p l b i more w d s v (q refl) rt rs imm m).0 (even_master rt h);
  odd = λ rt rs imm m h. (placed_moves p l b i more w d s v (q refl) rt rs imm m).1 (odd_shadow rt h);
  returns = λ rs h. placed_returns p l n b i more w d s v (q refl) rs h;
  calm = c;
}
placed_by p l n b rest w d (Some f) s v x q c =
    let y : (g : End) × (s.end ≡ Some g) = Rattle.layout_law.proofs.Whole.ends_there (Some f) s.end v.ends f refl in absurd (no y.0 (sym x ∙ y.1))
  where
    no : (g : End) → None ≡ Some g → ⊥
    no g q = cc

pub words_are_placed : LaidPlaced
words_are_placed p input l n g k m h x =
    let t : Spot = (go (items p) (first_spot p input) m).state in
    let i : InStep p input m = runs_in_step p input l n.some g m in
    placed_by p l n t.block t.rest t.way t.now t.end (run (boot_state (image p) input) None m).state i.level x (g m)
    (λ c at e. no_fault p input g (suc m) (fault_up (go (items p) (first_spot p input) (suc m)).state.end (run (boot_state (image p) input) None (suc m)).state.end c at (runs_in_step p input l n.some g (suc m)).level.ends e))

pub words_never_report : LaidUnreported
words_never_report p input l n w g r k m h c at e =
    let q : (k : ℕ) × ((x : ℕ) × ((go (items p) (first_spot p input) m).state.end ≡ Some (Reported k x))) = report_up (go (items p) (first_spot p input) m).state.end (run (boot_state (image p) input) None m).state.end c at (runs_in_step p input l n.some g m).level.ends e in
    r input w m q.0 q.1.0 q.1.1
