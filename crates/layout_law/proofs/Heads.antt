-- The run with heads follows the run of items: the head of a block, and then item by item.
use Rattle.std.proofs.Common.{◌≡◌, ◌≢◌, ◌≤◌, ◌<◌, ℕ, zero, suc, arith, ap, refl, sym, ◌∙◌, subst, List, [], ◌∷◌, ◌++◌, length, replicate, le_refl, Bool, true, false, cond, inl, inr}
use Rattle.std.specs.Prelude.{Option, Some, None, slice_get, slice_index, slice_set, ◌⊎◌, ◌==◌, not, bit_xor, bit_or, Contains}
use Rattle.std.specs.Int.Bits.{or_zero_l}
use Rattle.std.proofs.lemmas.List.Elements.{Contains-append_right}
use Rattle.std.proofs.lemmas.Option.{slice_get-get_or}
use Rattle.hard_runs.specs.Stepping.{Stepper, Stands, put, go, Quiet, Leads, Beside, on, over, Stage}
use Rattle.hard_runs.proofs.Following.{follows}
use Rattle.mips_isa.specs.declared.instr.Instr.{Instr}
use Rattle.mips_isa.specs.declared.instr.Instr.TheVariants.{Jr, Beq, Break, Lw, Sw, Xori, Xor, Ori}
use Rattle.mips_isa.specs.declared.instr.Act.{Act}
use Rattle.mips_isa.specs.declared.instr.End.{End}
use Rattle.mips_isa.specs.Machine.{State, perform, plus, is_jump, reads_of, writes_of, branch, written}
use Rattle.hard_items.specs.declared.code.Class.TheVariants.{Head}
use Rattle.hard_items.specs.declared.code.Fix.{Fix}
use Rattle.hard_items.specs.declared.code.Fix.TheVariants.{Function}
use Rattle.hard_items.specs.declared.code.Item.{Item}
use Rattle.hard_items.specs.declared.code.HardProgram.{HardProgram}
use Rattle.hard_items.specs.declared.code.Mark.{Mark}
use Rattle.hard_items.specs.declared.code.Signed.{Signed}
use Rattle.hard_items.specs.Streams.{nop, plain, touched}
use Rattle.hard_items.specs.Run.{Data, Spot, Way, Onward, Over, To, items, items_of, block_items, named, way_of, item_act, machine_of, held, before, at_block, arrived, settled, data_after, marked_reg, first_data, first_spot, item_run}
use Rattle.hard_items.specs.Ways as ways
use Rattle.hard_items.specs.Ways.{Holds, CallsFunction, IsOfFunction, MayFollow}
use Rattle.hard_items.specs.WellFormed.{WellFormed}
use Rattle.hard_items.specs.Forms.{Each, Formed}
use Rattle.hard_items.specs.Counts.{is_break}
use Rattle.hard_items.specs.Rules.{Lawful, LawfulNext, LawfulAt, Parity, Placed, Returns, Reads}
use Rattle.hard_items.specs.Heads.{head_items, headed}
use Rattle.layout_law.specs.Level.{Lines}
use Rattle.layout_law.specs.Signs.{is_sign, arrives, MarksAgree, Unsigned, with_regs, Kept, Follows, Signing, HeadsSame}
use Rattle.layout_law.proofs.Data.{set_at, set_off}
use Rattle.layout_law.proofs.Acts.{each_left, each_right}
use Rattle.layout_law.proofs.Arrive.{spot}
use Rattle.layout_law.proofs.Step.{item}
use Rattle.layout_law.proofs.Lines.{head_of, items_headed, heads_length}
use Rattle.layout_law.proofs.Blocks.{items_there}
use Rattle.layout_law.proofs.Kept as kept
use Rattle.layout_law.proofs.Kept.{kept_write, kept_sign, Twice, perform_twice, clear_item, clear_value, act_kept, way_kept}
use Rattle.layout_law.proofs.Standing as standing
use Rattle.layout_law.proofs.Standing.{Standing, Arrives, stay_arrives, jump_arrives, onward_at_jump}

no_true : true ≡ false → ⊥
no_true e = cc

-- ---- what may follow, with heads too

pub holds_up : (s : Signed) (b : ℕ) (i : Item) → Holds s.program b i → Holds (headed s) b i
holds_up s b i h = subst (λ (z : List Item). Contains z i) (sym (items_headed s b (items_there s.program.blocks b i h))) (Contains-append_right (head_of (slice_get s.marks b)) (items_of s.program b) i h)

pub calls_up : (s : Signed) (b f : ℕ) → CallsFunction s.program b f → CallsFunction (headed s) b f
calls_up s b f c = record { item = c.item; target = c.target; holds = holds_up s b c.item c.holds; jumps = c.jumps; names = c.names }

pub follow_up : (s : Signed) (b c : ℕ) → MayFollow s.program b c → MayFollow (headed s) b c
follow_up s b c (ways.jumped t tg i h e f) = ways.jumped t tg i (holds_up s b i h) e f
follow_up s b c (ways.branched_eq t rs rt imm i h e f) = ways.branched_eq t rs rt imm i (holds_up s b i h) e f
follow_up s b c (ways.branched_ne t rs rt imm i h e f) = ways.branched_ne t rs rt imm i (holds_up s b i h) e f
follow_up s b c (ways.fallen_eq t rs rt imm i h e f) = ways.fallen_eq t rs rt imm i (holds_up s b i h) e f
follow_up s b c (ways.fallen_ne t rs rt imm i h e f) = ways.fallen_ne t rs rt imm i (holds_up s b i h) e f
follow_up s b c (ways.called f t k e) = ways.called f t (calls_up s b f k) e
follow_up s b c (ways.returned f caller rs i h e k m) = ways.returned f caller rs i (holds_up s b i h) e (record { entry = k.entry; is_entry = k.is_entry; not_above = k.not_above; greatest = k.greatest }) (calls_up s caller f m)

-- ---- a lawful item is lawful with other registers of the signatures

placed_kept : (x : Instr) (d : Data) (regs : List ℕ) (backs : ℕ → Bool) → Kept d.backs backs d.regs regs → Each (λ r. is_sign r ≡ false) (touched x) → Placed x d → Placed x (with_regs d regs backs)
placed_kept (Lw rt rs imm) d regs backs k h p = subst (λ (z : ℕ). Parity rt (plus z (Rattle.hard_words.specs.Words.extended imm))) (sym (k.same rs h.0)) p
placed_kept (Sw rt rs imm) d regs backs k h p = subst (λ (z : ℕ). Parity rt (plus z (Rattle.hard_words.specs.Words.extended imm))) (sym (k.same rs h.1.0)) p
placed_kept x d regs backs k h p = p

returns_kept : (s : Signed) (b : ℕ) (x : Instr) (d : Data) (regs : List ℕ) (backs : ℕ → Bool) → Kept d.backs backs d.regs regs → Each (λ r. is_sign r ≡ false) (touched x) → Returns s.program b x d → Returns (headed s) b x (with_regs d regs backs)
returns_kept s b (Jr rs) d regs backs k h p = (k.backs rs h.0 ∙ p.0, subst (λ (z : ℕ). MayFollow (headed s) b z) (sym (k.same rs h.0)) (follow_up s b (held d rs) p.1))
returns_kept s b x d regs backs k h p = p

each_backs : (d : Data) (regs : List ℕ) (backs : ℕ → Bool) (rs : List ℕ) → Kept d.backs backs d.regs regs → Each (λ r. is_sign r ≡ false) rs → Each (λ r. d.backs r ≡ false) rs → Each (λ r. backs r ≡ false) rs
each_backs d regs backs [] k h p = tt
each_backs d regs backs (r ∷ rs) k h p = (k.backs r h.0 ∙ p.0, each_backs d regs backs rs k h.1 p.1)

reads_kept : (x : Instr) (d : Data) (regs : List ℕ) (backs : ℕ → Bool) → Kept d.backs backs d.regs regs → Each (λ r. is_sign r ≡ false) (touched x) → Reads x d → Reads x (with_regs d regs backs)
reads_kept (Jr rs) d regs backs k h p = tt
reads_kept (Sw rt rs imm) d regs backs k h p = k.backs rs h.1.0 ∙ p
reads_kept (Beq rs rt imm) d regs backs k h p = k.backs rs h.0 ∙ (p ∙ sym (k.backs rt h.1.0))
reads_kept x d regs backs k h p = each_backs d regs backs (reads_of x) k (each_left (λ r. is_sign r ≡ false) (reads_of x) (writes_of x) h) p

twice_end : (i : Item) (a : Act) (d : Data) (regs : List ℕ) (backs : ℕ → Bool) (high low : State × Option ℕ) → Twice i a d regs backs high low → low.0.end ≡ high.0.end
twice_end i a d regs backs high low (kept.on ms mb x y o e k z) = y ∙ sym x
twice_end i a d regs backs high low (kept.over e x y o) = y ∙ sym x

twice_of : (b : ℕ) (i : Item) (d : Data) (regs : List ℕ) (backs : ℕ → Bool) → Kept d.backs backs d.regs regs → Each (λ r. is_sign r ≡ false) (touched i.instr) → Twice i (item_act b i d) d regs backs (perform (item_act b i d) (machine_of d)) (perform (item_act b i d) (machine_of (with_regs d regs backs)))
twice_of b i d regs backs k h = perform_twice i (item_act b i d) d regs backs k (clear_item b i d h) (clear_value i.instr h)

pub lawful_kept : (s : Signed) (b : ℕ) (i : Item) (d : Data) (regs : List ℕ) (backs : ℕ → Bool) → Kept d.backs backs d.regs regs → Each (λ r. is_sign r ≡ false) (touched i.instr) → Lawful s.program b i d → Lawful (headed s) b i (with_regs d regs backs)
lawful_kept s b i d regs backs k h l = record {
  placed = placed_kept i.instr d regs backs k h l.placed;
  returns = returns_kept s b i.instr d regs backs k h l.returns;
  reads = reads_kept i.instr d regs backs k h l.reads;
  no_exception = λ c at e. l.no_exception c at (sym (twice_end i (item_act b i d) d regs backs (perform (item_act b i d) (machine_of d)) (perform (item_act b i d) (machine_of (with_regs d regs backs))) (twice_of b i d regs backs k h)) ∙ (sym (ap (λ (z : Act). (perform z (machine_of (with_regs d regs backs))).0.end) (act_kept b i d regs backs k h)) ∙ e));
}

-- ---- the relation

-- Both stand at the same item.
pub record AtItem (s : Signed) (h l : Spot) : Type 0 where
  pub regs : List ℕ
  pub backs : ℕ → Bool
  pub mark : Mark
  pub slot : Bool
  pub is : l ≡ record h { now = with_regs h.now regs backs }
  pub open_ : h.end ≡ None
  pub kept : Kept h.now.backs backs h.now.regs regs
  pub marked : slice_get s.marks h.block ≡ Some mark
  pub signature : slice_index regs 24 ≡ mark.s
  pub adjustment : slice_index regs 28 ≡ mark.adjust
  pub stands : Standing s.program h.block h.rest h.way slot

-- The one stands at the start of a block, the other at its head.
pub record AtHead (s : Signed) (h l : Spot) : Type 0 where
  pub regs : List ℕ
  pub backs : ℕ → Bool
  pub mark : Mark
  pub there : h.block < length s.program.blocks
  pub high : h ≡ at_block s.program h.block h.now
  pub low : l ≡ at_block (headed s) h.block (with_regs h.now regs backs)
  pub kept : Kept h.now.backs backs h.now.regs regs
  pub marked : slice_get s.marks h.block ≡ Some mark
  pub arrives : arrives (slice_index regs 24) (slice_index regs 28) mark ≡ mark.s

pub data Pair (s : Signed) (h l : Spot) : Type 0 where
  at_item : AtItem s h l → Pair s h l
  at_head : AtHead s h l → Pair s h l

-- ---- one item

pub record ItemStep (s : Signed) (h l : Spot) : Type 0 where
  pub output : ((items (headed s)).step l).1 ≡ ((items s.program).step h).1
  pub next : Beside (items (headed s)) (items s.program) (Pair s) ((items s.program).step h).0 ((items (headed s)).step l).0

pub mark_there : (s : Signed) (c : ℕ) → length s.marks ≡ length s.program.blocks → c < length s.program.blocks → (m : Mark) × (slice_get s.marks c ≡ Some m)
mark_there s c e h = by s.marks c (less c (length s.marks) (length s.program.blocks) e h)
  where
    less : (c m n : ℕ) → m ≡ n → c < n → c < m
    less c m n e h = omega arith

    by : (ms : List Mark) (c : ℕ) → c < length ms → (m : Mark) × (slice_get ms c ≡ Some m)
    by [] c h = absurd (no c h)
      where
        no : (c : ℕ) → c < 0 → ⊥
        no c h = omega arith
    by (m ∷ ms) zero h = (m, refl)
    by (m ∷ ms) (suc c) h = by ms c (down c (length ms) h)
      where
        down : (c n : ℕ) → suc c < suc n → c < n
        down c n h = omega arith

-- Where both arrive with the same act done.
arrive_pair : (s : Signed) (b : ℕ) (more : List Item) (w own : Way) (d : Data) (ms : List ℕ) (mb : ℕ → Bool) (m : Mark) → MarksAgree s → ((c : ℕ) → MayFollow s.program b c → c < length s.program.blocks) → slice_get s.marks b ≡ Some m → Kept d.backs mb d.regs ms → slice_index ms 24 ≡ m.s → slice_index ms 28 ≡ m.adjust → Arrives s.program (headed s) w own b more d (with_regs d ms mb) → Pair s (arrived s.program w own b more d) (arrived (headed s) w own b more (with_regs d ms mb))
arrive_pair s b more w own d ms mb m g f e k x y (standing.inner rest v slot u u' st) =
    subst (λ (z : Spot). Pair s z (arrived (headed s) w own b more (with_regs d ms mb))) (sym u) (subst (λ (z : Spot). Pair s (spot b rest v d None) z) (sym u')
    (at_item (record { regs = ms; backs = mb; mark = m; slot = slot; is = refl; open_ = refl; kept = k; marked = e; signature = x; adjustment = y; stands = st })))
arrive_pair s b more w own d ms mb m g f e k x y (standing.start c u u' q) =
    let n : (m : Mark) × (slice_get s.marks c ≡ Some m) = mark_there s c g.one_each (f c q) in
    subst (λ (z : Spot). Pair s z (arrived (headed s) w own b more (with_regs d ms mb))) (sym u) (subst (λ (z : Spot). Pair s (at_block s.program c d) z) (sym u')
    (at_head (record { regs = ms; backs = mb; mark = n.0; there = f c q; high = refl; low = refl; kept = k; marked = n.1; arrives = ap (λ (z : ℕ). arrives z (slice_index ms 28) n.0) x ∙ (ap (λ (z : ℕ). arrives m.s z n.0) y ∙ g.along b c m n.0 q e n.1) })))

step_by : (s : Signed) (b : ℕ) (i : Item) (more : List Item) (w : Way) (d : Data) (regs : List ℕ) (backs : ℕ → Bool) (m : Mark) (slot : Bool) (a : Act) (high low : State × Option ℕ) (own : Way) → MarksAgree s → ((c : ℕ) → MayFollow s.program b c → c < length s.program.blocks) → slice_get s.marks b ≡ Some m → slice_index regs 24 ≡ m.s → slice_index regs 28 ≡ m.adjust →
    way_of s.program i d i.instr ≡ own → way_of (headed s) i (with_regs d regs backs) i.instr ≡ own → (high.0.end ≡ None → (e : Data) (d' : Data) → Arrives s.program (headed s) w own b more d' e) → Twice i a d regs backs high low →
    ((settled (headed s) (spot b (i ∷ more) w (with_regs d regs backs) None) i more a low low.0.end).1 ≡ (settled s.program (spot b (i ∷ more) w d None) i more a high high.0.end).1) ×
    Beside (items (headed s)) (items s.program) (Pair s) (settled s.program (spot b (i ∷ more) w d None) i more a high high.0.end).0 (settled (headed s) (spot b (i ∷ more) w (with_regs d regs backs) None) i more a low low.0.end).0
step_by s b i more w d regs backs m slot a high low own g f e x y wp wq ar (kept.on ms mb he le o q k z) =
    let hs : settled s.program (spot b (i ∷ more) w d None) i more a high high.0.end ≡ (arrived s.program w own b more (data_after i a d high.0), high.1) =
    ap (λ (u : Option End). settled s.program (spot b (i ∷ more) w d None) i more a high u) he ∙ ap (λ (u : Way). (arrived s.program w u b more (data_after i a d high.0), high.1)) wp in
    let ls : settled (headed s) (spot b (i ∷ more) w (with_regs d regs backs) None) i more a low low.0.end ≡ (arrived (headed s) w own b more (with_regs (data_after i a d high.0) ms mb), low.1) =
    ap (λ (u : Option End). settled (headed s) (spot b (i ∷ more) w (with_regs d regs backs) None) i more a low u) le ∙ (ap (λ (u : Way). (arrived (headed s) w u b more (data_after i a (with_regs d regs backs) low.0), low.1)) wq ∙ ap (λ (u : Data). (arrived (headed s) w own b more u, low.1)) q) in (
      ap (λ (u : Spot × Option ℕ). u.1) ls ∙ (o ∙ sym (ap (λ (u : Spot × Option ℕ). u.1) hs)),
      subst (λ (u : Spot × Option ℕ). Beside (items (headed s)) (items s.program) (Pair s) u.0 (settled (headed s) (spot b (i ∷ more) w (with_regs d regs backs) None) i more a low low.0.end).0) (sym hs)
          (subst (λ (u : Spot × Option ℕ). Beside (items (headed s)) (items s.program) (Pair s) (arrived s.program w own b more (data_after i a d high.0)) u.0) (sym ls)
          (on (arrive_pair s b more w own (data_after i a d high.0) ms mb m g f e k (z.same 24 refl ∙ x) (z.same 28 refl ∙ y) (ar he (with_regs (data_after i a d high.0) ms mb) (data_after i a d high.0))))),
    )
step_by s b i more w d regs backs m slot a high low own g f e x y wp wq ar (kept.over en he le o) =
    let hs : settled s.program (spot b (i ∷ more) w d None) i more a high high.0.end ≡ (record (spot b (i ∷ more) w d None) { end = Some en }, None) =
    ap (λ (u : Option End). settled s.program (spot b (i ∷ more) w d None) i more a high u) he in
    let ls : settled (headed s) (spot b (i ∷ more) w (with_regs d regs backs) None) i more a low low.0.end ≡ (record (spot b (i ∷ more) w (with_regs d regs backs) None) { end = Some en }, None) =
    ap (λ (u : Option End). settled (headed s) (spot b (i ∷ more) w (with_regs d regs backs) None) i more a low u) le in (
      ap (λ (u : Spot × Option ℕ). u.1) ls ∙ sym (ap (λ (u : Spot × Option ℕ). u.1) hs),
      subst (λ (u : Spot × Option ℕ). Beside (items (headed s)) (items s.program) (Pair s) u.0 (settled (headed s) (spot b (i ∷ more) w (with_regs d regs backs) None) i more a low low.0.end).0) (sym hs)
          (subst (λ (u : Spot × Option ℕ). Beside (items (headed s)) (items s.program) (Pair s) (record (spot b (i ∷ more) w d None) { end = Some en }) u.0) (sym ls)
          (over en refl refl)),
    )

not_true : (z : Bool) → (z ≡ true → ⊥) → z ≡ false
not_true true f = absurd (f refl)
not_true false f = refl

-- What the proof takes of a program, beside the run.
pub record Ready (s : Signed) : Type 0 where
  pub agree : MarksAgree s
  pub unsigned : Unsigned s.program
  pub there : (b c : ℕ) → MayFollow s.program b c → c < length s.program.blocks
  pub entries : (b f : ℕ) (i : Item) → Holds s.program b i → i.fix ≡ Function f → slice_get s.program.entries f ≡ Some (named s.program (Function f))
  pub lines : (b : ℕ) → b < length s.program.blocks → Lines s.program false (items_of s.program b)

clean_by : (done : List Item) (i : Item) (more : List Item) → Each (λ (i : Item). Each (λ r. is_sign r ≡ false) (touched i.instr)) (done ++ i ∷ more) → Each (λ r. is_sign r ≡ false) (touched i.instr)
clean_by [] i more h = h.0
clean_by (j ∷ done) i more h = clean_by done i more h.1

pub clean_here : (s : Signed) (y : Ready s) (b : ℕ) (i : Item) (more : List Item) (w : Way) (slot : Bool) → Standing s.program b (i ∷ more) w slot → Each (λ r. is_sign r ≡ false) (touched i.instr)
clean_here s y b i more w slot st = clean_by st.done i more (subst (λ (z : List Item). Each (λ (i : Item). Each (λ r. is_sign r ≡ false) (touched i.instr)) z) st.split (y.unsigned b))

item_step_by : (s : Signed) (y : Ready s) (b : ℕ) (rest : List Item) (w : Way) (d : Data) (regs : List ℕ) (backs : ℕ → Bool) (m : Mark) (slot : Bool) → Kept d.backs backs d.regs regs → slice_get s.marks b ≡ Some m → slice_index regs 24 ≡ m.s → slice_index regs 28 ≡ m.adjust → Standing s.program b rest w slot → LawfulNext s.program b rest d →
    ItemStep s (spot b rest w d None) (spot b rest w (with_regs d regs backs) None)
item_step_by s y b [] w d regs backs m slot k e g a st l = absurd l
item_step_by s y b (i ∷ more) w d regs backs m slot k e g a st l =
    let c : Each (λ r. is_sign r ≡ false) (touched i.instr) = clean_here s y b i more w slot st in
    let act : Act = item_act b i d in
    let t : Twice i act d regs backs (perform act (machine_of d)) (perform act (machine_of (with_regs d regs backs))) = twice_of b i d regs backs k c in
    let q : ((settled (headed s) (spot b (i ∷ more) w (with_regs d regs backs) None) i more act (perform act (machine_of (with_regs d regs backs))) (perform act (machine_of (with_regs d regs backs))).0.end).1 ≡ (settled s.program (spot b (i ∷ more) w d None) i more act (perform act (machine_of d)) (perform act (machine_of d)).0.end).1) ×
    Beside (items (headed s)) (items s.program) (Pair s) (settled s.program (spot b (i ∷ more) w d None) i more act (perform act (machine_of d)) (perform act (machine_of d)).0.end).0 (settled (headed s) (spot b (i ∷ more) w (with_regs d regs backs) None) i more act (perform act (machine_of (with_regs d regs backs))) (perform act (machine_of (with_regs d regs backs))).0.end).0 =
    step_by s b i more w d regs backs m slot act (perform act (machine_of d)) (perform act (machine_of (with_regs d regs backs))) (way_of s.program i d i.instr) y.agree (λ c. y.there b c) e g a refl (way_kept s.program (headed s) i d regs backs i.instr refl k c) (ar (is_jump i.instr) refl) t in
    let same : (items (headed s)).step (spot b (i ∷ more) w (with_regs d regs backs) None) ≡ settled (headed s) (spot b (i ∷ more) w (with_regs d regs backs) None) i more act (perform act (machine_of (with_regs d regs backs))) (perform act (machine_of (with_regs d regs backs))).0.end =
    ap (λ (z : Act). settled (headed s) (spot b (i ∷ more) w (with_regs d regs backs) None) i more z (perform z (machine_of (with_regs d regs backs))) (perform z (machine_of (with_regs d regs backs))).0.end) (act_kept b i d regs backs k c) in
    record {
      output = ap (λ (z : Spot × Option ℕ). z.1) same ∙ q.0;
      next = subst (λ (z : Spot × Option ℕ). Beside (items (headed s)) (items s.program) (Pair s) ((items s.program).step (spot b (i ∷ more) w d None)).0 z.0) (sym same) q.1;
    }
  where
    ar : (z : Bool) → is_jump i.instr ≡ z → (perform (item_act b i d) (machine_of d)).0.end ≡ None → (e : Data) (d' : Data) → Arrives s.program (headed s) w (way_of s.program i d i.instr) b more d' e
    ar false j he e' d' = subst (λ (z : Way). Arrives s.program (headed s) w z b more d' e') (sym (Rattle.layout_law.proofs.Acts.stays_on s.program i d i.instr j))
        (stay_arrives s.program (headed s) w b i more slot d' e' st j (not_true (is_break i.instr) (λ n. Rattle.layout_law.proofs.Whole.break_act b i.instr i.class i.fix d (Rattle.layout_law.proofs.Step.stay_fits s.program slot i more st.lines j) n he)))
    ar true j he e' d' =
        let o : w ≡ Onward = onward_at_jump s.program b i more w slot st j in
        subst (λ (z : Way). Arrives s.program (headed s) z (way_of s.program i d i.instr) b more d' e') (sym o)
        (jump_arrives s.program (headed s) b i more slot d d' e' (subst (λ (z : Way). Standing s.program b (i ∷ more) z slot) o st) j l (λ f q. y.entries b f i (standing.holds_first s.program b i more st.done st.split) q))

-- ---- a state of both at one item

pub item_lawful : (s : Signed) (y : Ready s) (b : ℕ) (rest : List Item) (w : Way) (d : Data) (regs : List ℕ) (backs : ℕ → Bool) (slot : Bool) → Kept d.backs backs d.regs regs → Standing s.program b rest w slot → LawfulNext s.program b rest d → LawfulNext (headed s) b rest (with_regs d regs backs)
item_lawful s y b [] w d regs backs slot k st l = l
item_lawful s y b (i ∷ more) w d regs backs slot k st l = lawful_kept s b i d regs backs k (clean_here s y b i more w slot st) l

-- ---- the words of a head

-- A write of a head's word to a register of the signatures.
head_lawful : (q : HardProgram) (b : ℕ) (i : Item) (e : Data) → Placed i.instr e → Returns q b i.instr e → Reads i.instr e → (perform (item_act b i e) (machine_of e)).0.end ≡ None → Lawful q b i e
head_lawful q b i e p r k n = record { placed = p; returns = r; reads = k; no_exception = λ c at x. none (sym n ∙ x) }
  where
    none : {x : End} → None ≡ Some x → ⊥
    none h = cc

-- The registers of the signatures and the others, behind a write of a head.
quiet_leads : {S E : Type 0} (m : Stepper S E) (G : S → Type 0) (k : ℕ) (a b t : S) → Quiet m G a → (m.step a).0 ≡ b → Leads m G k b t → Leads m G (suc k) a t
quiet_leads {S} m G k a b t q e l = (q, subst (λ (z : S). Leads m G k z t) (sym e) l)

abbrev head_rest : Mark → List Item → List Item
head_rest m own = plain (Ori 1 0 m.s) Head ∷ plain (Ori 28 0 m.adjust) Head ∷ plain (Beq 24 1 2) Head ∷ plain nop Head ∷ plain (Break 2) Head ∷ own

beq_step : (s : Signed) (c : ℕ) (i j : Item) (own : List Item) (d : Data) (regs : List ℕ) (backs : ℕ → Bool) → (slice_index regs 24 == slice_index regs 1) ≡ true →
    (items (headed s)).step (spot c (plain (Beq 24 1 2) Head ∷ i ∷ j ∷ own) Onward (with_regs d regs backs) None) ≡ (spot c (i ∷ j ∷ own) Over (with_regs d regs backs) None, None)
beq_step s c i j own d regs backs e = rw e (ap (λ (z : Bool). (spot c (i ∷ j ∷ own) (cond z Over Onward) (with_regs d regs backs) None, None)) e)

-- What a head leaves.
pub record Left (s : Signed) (input : List ℕ) (k c : ℕ) (m : Mark) (own : List Item) (d : Data) (from : Spot) : Type 0 where
  pub regs : List ℕ
  pub backs : ℕ → Bool
  pub leads : Leads (items (headed s)) (Follows s input) k from (spot c own Onward (with_regs d regs backs) None)
  pub kept : Kept d.backs backs d.regs regs
  pub signature : slice_index regs 24 ≡ m.s
  pub adjustment : slice_index regs 28 ≡ m.adjust

below32 : (n : ℕ) → n ≡ 32 → (k : ℕ) → Rattle.std.specs.Prelude.nat_lt k 32 ≡ true → k < n
below32 n e k h = less k n e (lt k h)
  where
    lt : (k : ℕ) → Rattle.std.specs.Prelude.nat_lt k 32 ≡ true → k < 32
    lt k h = grind arith

    less : (k n : ℕ) → n ≡ 32 → k < 32 → k < n
    less k n e h = omega arith

apart : (m n : ℕ) → (m == n) ≡ false → m ≢ n
apart m n e = grind arith

same_test : (a b : ℕ) → a ≡ b → (a == b) ≡ true
same_test a b e = grind arith

-- the last five words
head_end : (s : Signed) (input : List ℕ) (c : ℕ) (m : Mark) (k : Item) (more : List Item) (d : Data) (regs : List ℕ) (backs : ℕ → Bool) → Kept d.backs backs d.regs regs → slice_index regs 24 ≡ m.s → Left s input 4 c m (k ∷ more) d (spot c (head_rest m (k ∷ more)) Onward (with_regs d regs backs) None)
head_end s input c m k more d regs backs kp g =
    let own : List Item = k ∷ more in
    let r1 : List ℕ = written regs 1 (bit_or (slice_index regs 0) m.s) in
    let b1 : ℕ → Bool = marked_reg backs 1 false in
    let k1 : Kept d.backs b1 d.regs r1 = kept_sign d.backs backs d.regs regs 1 (bit_or (slice_index regs 0) m.s) kp refl in
    let r2 : List ℕ = written r1 28 (bit_or (slice_index r1 0) m.adjust) in
    let b2 : ℕ → Bool = marked_reg b1 28 false in
    let k2 : Kept d.backs b2 d.regs r2 = kept_sign d.backs b1 d.regs r1 28 (bit_or (slice_index r1 0) m.adjust) k1 refl in
    let at24 : slice_index r2 24 ≡ m.s = set_off r1 28 24 (bit_or (slice_index r1 0) m.adjust) (apart 24 28 refl) ∙ (set_off regs 1 24 (bit_or (slice_index regs 0) m.s) (apart 24 1 refl) ∙ g) in
    let at1 : slice_index r2 1 ≡ m.s = set_off r1 28 1 (bit_or (slice_index r1 0) m.adjust) (apart 1 28 refl) ∙ (set_at regs 1 1 (bit_or (slice_index regs 0) m.s) refl (below32 (length regs) kp.there 1 refl) ∙ (ap (λ (z : ℕ). bit_or z m.s) kp.zero ∙ or_zero_l m.s)) in
    let at28 : slice_index r2 28 ≡ m.adjust = set_at r1 28 28 (bit_or (slice_index r1 0) m.adjust) refl (below32 (length r1) k1.there 28 refl) ∙ (ap (λ (z : ℕ). bit_or z m.adjust) k1.zero ∙ or_zero_l m.adjust) in
    let test : (slice_index r2 24 == slice_index r2 1) ≡ true = same_test (slice_index r2 24) (slice_index r2 1) (at24 ∙ sym at1) in
    let step : (items (headed s)).step (spot c (plain (Beq 24 1 2) Head ∷ plain nop Head ∷ plain (Break 2) Head ∷ own) Onward (with_regs d r2 b2) None) ≡ (spot c (plain nop Head ∷ plain (Break 2) Head ∷ own) Over (with_regs d r2 b2) None, None) = beq_step s c (plain nop Head) (plain (Break 2) Head) own d r2 b2 test in
    let last : Spot = spot c own Onward (with_regs d r2 b2) None in
    let s0 : Spot = spot c (head_rest m own) Onward (with_regs d regs backs) None in
    let s1 : Spot = spot c (plain (Ori 28 0 m.adjust) Head ∷ plain (Beq 24 1 2) Head ∷ plain nop Head ∷ plain (Break 2) Head ∷ own) Onward (with_regs d r1 b1) None in
    let s2 : Spot = spot c (plain (Beq 24 1 2) Head ∷ plain nop Head ∷ plain (Break 2) Head ∷ own) Onward (with_regs d r2 b2) None in
    let s3 : Spot = spot c (plain nop Head ∷ plain (Break 2) Head ∷ own) Over (with_regs d r2 b2) None in
    record {
      regs = r2;
      backs = b2;
      leads = quiet_leads (items (headed s)) (Follows s input) 3 s0 s1 last
          (record { open_ = refl; good = record { lawful = head_lawful (headed s) c (plain (Ori 1 0 m.s) Head) (with_regs d regs backs) tt tt (kp.no_back, tt) refl; stands = inl refl }; silent = refl }) refl
          (quiet_leads (items (headed s)) (Follows s input) 2 s1 s2 last (record { open_ = refl; good = record { lawful = head_lawful (headed s) c (plain (Ori 28 0 m.adjust) Head) (with_regs d r1 b1) tt tt (k1.no_back, tt) refl; stands = inl refl }; silent = refl }) refl
          (quiet_leads (items (headed s)) (Follows s input) 1 s2 s3 last (record { open_ = refl; good = record { lawful = head_lawful (headed s) c (plain (Beq 24 1 2) Head) (with_regs d r2 b2) tt tt (k2.none 24 refl ∙ sym (k2.none 1 refl)) (pass_end c d r2 b2 (slice_index r2 24 == slice_index r2 1)); stands = inl refl }; silent = ap (λ (z : Spot × Option ℕ). z.1) step }) (ap (λ (z : Spot × Option ℕ). z.0) step)
          (quiet_leads (items (headed s)) (Follows s input) 0 s3 last last (record { open_ = refl; good = record { lawful = head_lawful (headed s) c (plain nop Head) (with_regs d r2 b2) tt tt (k2.no_back, tt) refl; stands = inl refl }; silent = refl }) refl refl)));
      kept = k2;
      signature = at24;
      adjustment = at28;
    }
  where
    pass_end : (c : ℕ) (d : Data) (regs : List ℕ) (backs : ℕ → Bool) (z : Bool) → (perform (Rattle.hard_items.specs.Run.numbered c (branch z (machine_of (with_regs d regs backs)) 2)) (machine_of (with_regs d regs backs))).0.end ≡ None
    pass_end c d regs backs true = refl
    pass_end c d regs backs false = refl

-- The whole head, where its signature arrives.
head_left : (s : Signed) (input : List ℕ) (c : ℕ) (ms md mj : ℕ) (fan : Bool) (k : Item) (more : List Item) (d : Data) (regs : List ℕ) (backs : ℕ → Bool) → Kept d.backs backs d.regs regs → arrives (slice_index regs 24) (slice_index regs 28) (record { s = ms; d = md; fan = fan; adjust = mj }) ≡ ms →
    Left s input 6 c (record { s = ms; d = md; fan = fan; adjust = mj }) (k ∷ more) d (spot c (head_items (record { s = ms; d = md; fan = fan; adjust = mj }) ++ k ∷ more) Onward (with_regs d regs backs) None)
head_left s input c ms md mj true k more d regs backs kp g =
    let m : Mark = record { s = ms; d = md; fan = true; adjust = mj } in
    let v1 : ℕ = bit_xor (slice_index regs 24) md in
    let r1 : List ℕ = written regs 24 v1 in
    let b1 : ℕ → Bool = marked_reg backs 24 false in
    let k1 : Kept d.backs b1 d.regs r1 = kept_sign d.backs backs d.regs regs 24 v1 kp refl in
    let v2 : ℕ = bit_xor (slice_index r1 24) (slice_index r1 28) in
    let r2 : List ℕ = written r1 24 v2 in
    let b2 : ℕ → Bool = marked_reg b1 24 false in
    let k2 : Kept d.backs b2 d.regs r2 = kept_sign d.backs b1 d.regs r1 24 v2 k1 refl in
    let e1 : slice_index r1 24 ≡ v1 = set_at regs 24 24 v1 refl (below32 (length regs) kp.there 24 refl) in
    let e28 : slice_index r1 28 ≡ slice_index regs 28 = set_off regs 24 28 v1 (apart 28 24 refl) in
    let at24 : slice_index r2 24 ≡ ms = set_at r1 24 24 v2 refl (below32 (length r1) k1.there 24 refl) ∙ (ap (λ (z : ℕ). bit_xor z (slice_index r1 28)) e1 ∙ (ap (λ (z : ℕ). bit_xor v1 z) e28 ∙ g)) in
    let l : Left s input 4 c m (k ∷ more) d (spot c (head_rest m (k ∷ more)) Onward (with_regs d r2 b2) None) = head_end s input c m k more d r2 b2 k2 at24 in
    let s0 : Spot = spot c (head_items m ++ k ∷ more) Onward (with_regs d regs backs) None in
    let s1 : Spot = spot c (plain (Xor 24 24 28) Head ∷ head_rest m (k ∷ more)) Onward (with_regs d r1 b1) None in
    let s2 : Spot = spot c (head_rest m (k ∷ more)) Onward (with_regs d r2 b2) None in
    record {
      regs = l.regs;
      backs = l.backs;
      leads = quiet_leads (items (headed s)) (Follows s input) 5 s0 s1 (spot c (k ∷ more) Onward (with_regs d l.regs l.backs) None)
          (record { open_ = refl; good = record { lawful = head_lawful (headed s) c (plain (Xori 24 24 md) Head) (with_regs d regs backs) tt tt (kp.none 24 refl, tt) refl; stands = inl refl }; silent = refl }) refl
          (quiet_leads (items (headed s)) (Follows s input) 4 s1 s2 (spot c (k ∷ more) Onward (with_regs d l.regs l.backs) None)
          (record { open_ = refl; good = record { lawful = head_lawful (headed s) c (plain (Xor 24 24 28) Head) (with_regs d r1 b1) tt tt (k1.none 24 refl, (k1.none 28 refl, tt)) refl; stands = inl refl }; silent = refl }) refl l.leads);
      kept = l.kept;
      signature = l.signature;
      adjustment = l.adjustment;
    }
head_left s input c ms md mj false k more d regs backs kp g =
    let m : Mark = record { s = ms; d = md; fan = false; adjust = mj } in
    let v1 : ℕ = bit_xor (slice_index regs 24) md in
    let r1 : List ℕ = written regs 24 v1 in
    let b1 : ℕ → Bool = marked_reg backs 24 false in
    let k1 : Kept d.backs b1 d.regs r1 = kept_sign d.backs backs d.regs regs 24 v1 kp refl in
    let at24 : slice_index r1 24 ≡ ms = set_at regs 24 24 v1 refl (below32 (length regs) kp.there 24 refl) ∙ g in
    let l : Left s input 4 c m (k ∷ more) d (spot c (head_rest m (k ∷ more)) Onward (with_regs d r1 b1) None) = head_end s input c m k more d r1 b1 k1 at24 in
    let s0 : Spot = spot c (head_items m ++ k ∷ more) Onward (with_regs d regs backs) None in
    let s1 : Spot = spot c (plain nop Head ∷ head_rest m (k ∷ more)) Onward (with_regs d r1 b1) None in
    let s2 : Spot = spot c (head_rest m (k ∷ more)) Onward (with_regs d r1 b1) None in
    record {
      regs = l.regs;
      backs = l.backs;
      leads = quiet_leads (items (headed s)) (Follows s input) 5 s0 s1 (spot c (k ∷ more) Onward (with_regs d l.regs l.backs) None)
          (record { open_ = refl; good = record { lawful = head_lawful (headed s) c (plain (Xori 24 24 md) Head) (with_regs d regs backs) tt tt (kp.none 24 refl, tt) refl; stands = inl refl }; silent = refl }) refl
          (quiet_leads (items (headed s)) (Follows s input) 4 s1 s2 (spot c (k ∷ more) Onward (with_regs d l.regs l.backs) None)
          (record { open_ = refl; good = record { lawful = head_lawful (headed s) c (plain nop Head) (with_regs d r1 b1) tt tt (k1.no_back, tt) refl; stands = inl refl }; silent = refl }) refl l.leads);
      kept = l.kept;
      signature = l.signature;
      adjustment = l.adjustment;
    }

-- ---- stages

stand : (p : HardProgram) → Stands (items p)
stand p s e h = ap (λ (z : Option End). Rattle.hard_items.specs.Run.step_from p s z) h

item_step_open : (s : Signed) (y : Ready s) (b : ℕ) (rest : List Item) (w : Way) (d : Data) (x : Option End) (regs : List ℕ) (backs : ℕ → Bool) (m : Mark) (slot : Bool) → x ≡ None → Kept d.backs backs d.regs regs → slice_get s.marks b ≡ Some m → slice_index regs 24 ≡ m.s → slice_index regs 28 ≡ m.adjust → Standing s.program b rest w slot → LawfulNext s.program b rest d →
    ItemStep s (spot b rest w d x) (spot b rest w (with_regs d regs backs) x)
item_step_open s y b rest w d x regs backs m slot e k f g a st l =
    subst (λ (z : Option End). ItemStep s (spot b rest w d z) (spot b rest w (with_regs d regs backs) z)) (sym e) (item_step_by s y b rest w d regs backs m slot k f g a st l)

-- where both stand at an item
item_stage : (s : Signed) (input : List ℕ) (y : Ready s) (n : ℕ) (l : Spot) → LawfulAt s.program (go (items s.program) (first_spot s.program input) n).state → AtItem s (go (items s.program) (first_spot s.program input) n).state l → Stage (items (headed s)) (items s.program) (Follows s input) (Pair s) (go (items s.program) (first_spot s.program input) n).state l
item_stage s input y n l q r =
    let h : Spot = (go (items s.program) (first_spot s.program input) n).state in
    let l' : Spot = record h { now = with_regs h.now r.regs r.backs } in
    subst (λ (z : Spot). Stage (items (headed s)) (items s.program) (Follows s input) (Pair s) h z) (sym r.is)
    (let t : ItemStep s h l' = item_step_open s y h.block h.rest h.way h.now h.end r.regs r.backs r.mark r.slot r.open_ r.kept r.marked r.signature r.adjustment r.stands q in
    record {
      more = 0;
      quiet = 0;
      last = l';
      going = r.open_;
      leads = refl;
      open_ = r.open_;
      good = record { lawful = item_lawful s y h.block h.rest h.way h.now r.regs r.backs r.slot r.kept r.stands q; stands = inr (n, record { regs = r.regs; backs = r.backs; is = refl; kept = r.kept }) };
      fewer = le_refl 0;
      output = ap (λ (z : Option ℕ). put [] z) t.output;
      next = t.next;
    })

-- where the one stands at a head
head_stage_by : (s : Signed) (input : List ℕ) (y : Ready s) (n c : ℕ) (own : List Item) (d : Data) (regs : List ℕ) (backs : ℕ → Bool) (m : Mark) (h : Spot) → h ≡ (go (items s.program) (first_spot s.program input) n).state → h ≡ spot c own Onward d None → LawfulNext s.program c own d → items_of s.program c ≡ own → c < length s.program.blocks → Kept d.backs backs d.regs regs → slice_get s.marks c ≡ Some m → arrives (slice_index regs 24) (slice_index regs 28) m ≡ m.s →
    Stage (items (headed s)) (items s.program) (Follows s input) (Pair s) h (spot c (head_items m ++ own) Onward (with_regs d regs backs) None)
head_stage_by s input y n c [] d regs backs m h e0 e q i there k f g = absurd q
head_stage_by s input y n c (j ∷ own) d regs backs m h e0 e q i there k f g =
    let l : Left s input 6 c m (j ∷ own) d (spot c (head_items m ++ j ∷ own) Onward (with_regs d regs backs) None) = head_left s input c m.s m.d m.adjust m.fan j own d regs backs k g in
    let st : Standing s.program c (j ∷ own) Onward false = record { done = []; split = i; lines = subst (λ (z : List Item). Lines s.program false z) i (y.lines c there); way = λ a. absurd (no_true (sym a)); free = λ a. absurd (no_true (sym a)) } in
    let last : Spot = spot c (j ∷ own) Onward (with_regs d l.regs l.backs) None in
    let t : ItemStep s (spot c (j ∷ own) Onward d None) last = item_step_by s y c (j ∷ own) Onward d l.regs l.backs m false l.kept f l.signature l.adjustment st q in
    record {
      more = 0;
      quiet = 6;
      last = last;
      going = ap (λ (z : Spot). z.end) e;
      leads = l.leads;
      open_ = refl;
      good = record { lawful = item_lawful s y c (j ∷ own) Onward d l.regs l.backs false l.kept st q; stands = inr (n, record { regs = l.regs; backs = l.backs; is = ap (λ (z : Spot). record z { now = with_regs z.now l.regs l.backs }) (sym e ∙ e0); kept = subst (λ (z : Spot). Kept z.now.backs l.backs z.now.regs l.regs) (sym e ∙ e0) l.kept }) };
      fewer = least;
      output = ap (λ (z : Option ℕ). put [] z) t.output ∙ ap (λ (z : Spot). put [] ((items s.program).step z).1) (sym e);
      next = subst (λ (z : Spot). Beside (items (headed s)) (items s.program) (Pair s) ((items s.program).step z).0 ((items (headed s)).step last).0) (sym e) t.next;
    }
  where
    least : 0 ≤ 6
    least = omega arith

head_stage : (s : Signed) (input : List ℕ) (y : Ready s) (n : ℕ) (l : Spot) → LawfulAt s.program (go (items s.program) (first_spot s.program input) n).state → AtHead s (go (items s.program) (first_spot s.program input) n).state l → Stage (items (headed s)) (items s.program) (Follows s input) (Pair s) (go (items s.program) (first_spot s.program input) n).state l
head_stage s input y n l q r =
    let h : Spot = (go (items s.program) (first_spot s.program input) n).state in
    let low : l ≡ spot h.block (head_items r.mark ++ items_of s.program h.block) Onward (with_regs h.now r.regs r.backs) None =
    r.low ∙ ap (λ (z : List Item). spot h.block z Onward (with_regs h.now r.regs r.backs) None) (items_headed s h.block r.there ∙ ap (λ (z : Option Mark). head_of z ++ items_of s.program h.block) r.marked) in
    subst (λ (z : Spot). Stage (items (headed s)) (items s.program) (Follows s input) (Pair s) h z) (sym low)
    (head_stage_by s input y n h.block (items_of s.program h.block) h.now r.regs r.backs r.mark h refl r.high (subst (λ (z : List Item). LawfulNext s.program h.block z h.now) (ap (λ (z : Spot). z.rest) r.high) q) refl r.there r.kept r.marked r.arrives)

pair_open : (s : Signed) (h l : Spot) → Pair s h l → h.end ≡ None
pair_open s h l (at_item r) = r.open_
pair_open s h l (at_head r) = ap (λ (z : Spot). z.end) r.high

stage : (s : Signed) (input : List ℕ) (y : Ready s) (n : ℕ) (l : Spot) → LawfulAt s.program (go (items s.program) (first_spot s.program input) n).state → Pair s (go (items s.program) (first_spot s.program input) n).state l → Stage (items (headed s)) (items s.program) (Follows s input) (Pair s) (go (items s.program) (first_spot s.program input) n).state l
stage s input y n l q (at_item r) = item_stage s input y n l q r
stage s input y n l q (at_head r) = head_stage s input y n l q r

-- ---- the law

ready : (s : Signed) → Signing s → Ready s
ready s g = record {
  agree = g.agree;
  unsigned = g.unsigned;
  there = λ b c m. Rattle.layout_law.proofs.Laying.follows_there s g.well_formed b c (follow_up s b c m);
  entries = λ b f i h e. entry f (subst (λ (z : Fix). Rattle.hard_items.specs.WellFormed.NamesThere s.program z) e (Rattle.std.proofs.lemmas.List.Elements.All-contains (λ (i : Item). Rattle.hard_items.specs.WellFormed.NamesThere s.program i.fix) (items_of s.program b) i (g.well_formed.named_there b) h));
  lines = λ b h. let f : Formed (items_of s.program b) = g.formed b h in
      subst (λ (z : List Item). Lines s.program false z) (sym f.is) (Rattle.layout_law.proofs.Lines.block_lines s.program f.forms f.close f.fit
      (Rattle.layout_law.proofs.Laying.fits_close s.program f.close (Rattle.layout_law.proofs.Laying.each_right (λ (i : Item). Rattle.hard_items.specs.WellFormed.NamesThere s.program i.fix) (Rattle.std.specs.Prelude.flat_map Rattle.hard_items.specs.Forms.form_items f.forms) (Rattle.hard_items.specs.Forms.close_items f.close) (subst (λ (z : List Item). Each (λ (i : Item). Rattle.hard_items.specs.WellFormed.NamesThere s.program i.fix) z) f.is (Rattle.layout_law.proofs.Laying.each_of_all (λ (i : Item). Rattle.hard_items.specs.WellFormed.NamesThere s.program i.fix) (items_of s.program b) (g.well_formed.named_there b)))) (Rattle.layout_law.proofs.Laying.entries_named s.program g.well_formed)));
}
  where
    entry : (f : ℕ) → f < length s.program.entries → slice_get s.program.entries f ≡ Some (named s.program (Function f))
    entry f h = slice_get-get_or s.program.entries f 0 h

first_pair : (s : Signed) (input : List ℕ) → Signing s → Pair s (first_spot s.program input) (first_spot (headed s) input)
first_pair s input g =
    let n : (m : Mark) × (slice_get s.marks 0 ≡ Some m) = mark_there s 0 g.agree.one_each g.well_formed.has_block in
    at_head (record {
      regs = replicate 32 0;
      backs = λ r. false;
      mark = n.0;
      there = g.well_formed.has_block;
      high = refl;
      low = refl;
      kept = record { all = refl; there = refl; same = λ r e. refl; backs = λ r e. refl; none = λ r e. refl; zero = refl; no_back = refl };
      marked = n.1;
      arrives = g.agree.first n.0 n.1;
    })

pub heads_same : HeadsSame
heads_same s input g a =
    follows Spot Spot End (items (headed s)) (items s.program) (Follows s input) (Pair s) (first_spot s.program input) (first_spot (headed s) input) (stand (headed s)) (stand s.program)
    (λ n l r. stage s input (ready s g) n l (a n (pair_open s (go (items s.program) (first_spot s.program input) n).state l r)) r) (first_pair s input g)
