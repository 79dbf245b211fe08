-- Where an item goes and where that of its place goes, and whether it is lawful there.
use Rattle.std.proofs.Common.{◌≡◌, ◌≢◌, ◌≤◌, ◌<◌, ℕ, ◌+◌, ◌-◌, arith, ap, refl, sym, ◌∙◌, subst, List, [], ◌∷◌, Bool, true, false, cond, inl, inr}
use Rattle.std.specs.Prelude.{Option, Some, None, slice_index, ◌⊎◌, ◌==◌, not}
use Rattle.mips_isa.specs.declared.instr.Instr.{Instr}
use Rattle.mips_isa.specs.declared.instr.Instr.TheVariants.{Jr, Beq, Bne, Lw, Sw}
use Rattle.mips_isa.specs.declared.instr.Act.{Act}
use Rattle.mips_isa.specs.declared.instr.End.TheVariants.{Exception}
use Rattle.mips_isa.specs.Machine.{State, plus, perform, is_jump, reads_of}
use Rattle.hard_words.specs.Words.{extended}
use Rattle.hard_items.specs.declared.code.Class.{Class}
use Rattle.hard_items.specs.declared.code.Fix.{Fix}
use Rattle.hard_items.specs.declared.code.Fix.TheVariants.{Plain, Block, ReturnHigh, ReturnLow}
use Rattle.hard_items.specs.declared.code.Item.{Item}
use Rattle.hard_items.specs.declared.code.HardProgram.{HardProgram}
use Rattle.hard_items.specs.Run.{Data, Way, Onward, Over, To, machine_of, held, named, item_act, branch_way, way_of}
use Rattle.hard_items.specs.Ways.{MayFollow, Holds}
use Rattle.hard_items.specs.Forms.{Each}
use Rattle.hard_items.specs.Rules.{Reads, Returns, Lawful, NoException}
use Rattle.hard_items.specs.Rules as rules
use Rattle.layout_law.specs.Level.{LastSlot, SkippedSlot}
use Rattle.block_relays.specs.Renumber.{LeadsTo, straight, return_place, IsReturn, NoBlock, opposite, is_branch, IsTest, ItemPlaced, Renumbered, renamed, SameNumbers}
use Rattle.block_relays.specs.Renumber as placed
use Rattle.layout_law.proofs.Step.{item}
use Rattle.layout_law.proofs.Views as view
use Rattle.layout_law.proofs.Views.{View}
use Rattle.block_relays.proofs.Numbers.{Outcome, on, over, held_same}

no_true : true ≡ false → ⊥
no_true e = cc

-- ---- ways

-- The block to which a way leads behind a delay slot of a block.
abbrev pub Goal : Way → ℕ → ℕ → Type 0
Goal Onward b c = c ≡ b + 1
Goal Over b c = ⊥
Goal (To t) b c = c ≡ t

-- The ways of an item and of that of its place.
pub data WaysLead (q : HardProgram) (place : ℕ → ℕ) (b : ℕ) (rest : List Item) (slot : Bool) (w w' : Way) : Type 0 where
  onward : w ≡ Onward → w' ≡ Onward → (slot ≡ true → LastSlot rest → ⊥) → WaysLead q place b rest slot w w'
  over_ : w ≡ Over → w' ≡ Over → SkippedSlot rest → WaysLead q place b rest slot w w'
  last : LastSlot rest → (c n : ℕ) → Goal w b c → Goal w' (place b) n → LeadsTo q place n c → WaysLead q place b rest slot w w'

not_both : (more : List Item) → SkippedSlot more → LastSlot more → ⊥
not_both [] h k = k
not_both (i ∷ []) h k = h
not_both (i ∷ j ∷ more) h k = k

-- A test that comes out the same: both are taken or none.
same_ways : (q : HardProgram) (place : ℕ → ℕ) (b : ℕ) (more : List Item) (z : Bool) (w w' v v' : Way) → WaysLead q place b more true w w' → WaysLead q place b more true v v' → WaysLead q place b more true (cond z w v) (cond z w' v')
same_ways q place b more true w w' v v' h k = h
same_ways q place b more false w w' v v' h k = k

crossed_ways : (q : HardProgram) (place : ℕ → ℕ) (b : ℕ) (more : List Item) (z : Bool) (w w' v v' : Way) → WaysLead q place b more true w v' → WaysLead q place b more true v w' → WaysLead q place b more true (cond z w v) (cond z v' w')
crossed_ways q place b more true w w' v v' h k = h
crossed_ways q place b more false w w' v v' h k = k

-- ---- tests

eq_same : (a b c d : ℕ) → a ≡ c → b ≡ d → (a == b) ≡ (c == d)
eq_same a b c d e f = rw (e, f) refl

one_back : (place : ℕ → ℕ) (m n : ℕ) → ((b c : ℕ) → b < c → place b < place c) → 1 ≤ m → 1 ≤ n → return_place place m ≡ return_place place n → m ≡ n
one_back place m n up h k e = by (Rattle.std.specs.Prelude.nat_lt (m - 1) (n - 1)) (Rattle.std.specs.Prelude.nat_lt (n - 1) (m - 1)) refl refl
  where
    lt : (a b : ℕ) → Rattle.std.specs.Prelude.nat_lt a b ≡ true → a < b
    lt a b e = grind arith

    ge : (a b : ℕ) → Rattle.std.specs.Prelude.nat_lt a b ≡ false → b ≤ a
    ge a b e = grind arith

    no : (a b : ℕ) → a < b → a + 1 ≡ b + 1 → ⊥
    no a b h e = omega arith

    equal : (m n : ℕ) → 1 ≤ m → 1 ≤ n → m - 1 ≤ n - 1 → n - 1 ≤ m - 1 → m ≡ n
    equal m n h k u v = omega arith

    by : (x y : Bool) → Rattle.std.specs.Prelude.nat_lt (m - 1) (n - 1) ≡ x → Rattle.std.specs.Prelude.nat_lt (n - 1) (m - 1) ≡ y → m ≡ n
    by true y f g = absurd (no (place (m - 1)) (place (n - 1)) (up (m - 1) (n - 1) (lt (m - 1) (n - 1) f)) e)
    by false true f g = absurd (no (place (n - 1)) (place (m - 1)) (up (n - 1) (m - 1) (lt (n - 1) (m - 1) g)) (sym e))
    by false false f g = equal m n h k (ge (n - 1) (m - 1) g) (ge (m - 1) (n - 1) f)

eq_back : (place : ℕ → ℕ) (m n : ℕ) → ((b c : ℕ) → b < c → place b < place c) → 1 ≤ m → 1 ≤ n → (return_place place m == return_place place n) ≡ (m == n)
eq_back place m n up h k = by (m == n) refl
  where
    is : (a b : ℕ) → (a == b) ≡ true → a ≡ b
    is a b e = grind arith

    same : (a b : ℕ) → a ≡ b → (a == b) ≡ true
    same a b e = grind arith

    differ : (a b : ℕ) → a ≢ b → (a == b) ≡ false
    differ a b e = grind arith

    isnt : (a b : ℕ) → (a == b) ≡ false → a ≢ b
    isnt a b e = grind arith

    by : (z : Bool) → (m == n) ≡ z → (return_place place m == return_place place n) ≡ z
    by true e = same (return_place place m) (return_place place n) (ap (return_place place) (is m n e))
    by false e = differ (return_place place m) (return_place place n) (λ z. isnt m n e (one_back place m n up h k z))

test_same : (p q : HardProgram) (place : ℕ → ℕ) → Renumbered p q place → (d e : Data) (rs rt : ℕ) → SameNumbers (return_place place) (IsReturn q place) d e → (z : Bool) → d.backs rs ≡ z → d.backs rt ≡ z → (held e rs == held e rt) ≡ (held d rs == held d rt)
test_same p q place l d e rs rt m true x y =
    eq_same (held e rs) (held e rt) (return_place place (held d rs)) (return_place place (held d rt)) (m.regs.same rs ∙ ap (λ (z : Bool). renamed (return_place place) z (held d rs)) x) (m.regs.same rt ∙ ap (λ (z : Bool). renamed (return_place place) z (held d rt)) y)
    ∙ eq_back place (held d rs) (held d rt) l.ascends (m.regs.fine rs x).behind (m.regs.fine rt y).behind
test_same p q place l d e rs rt m false x y = eq_same (held e rs) (held e rt) (held d rs) (held d rt) (held_same (return_place place) (IsReturn q place) d e rs m x) (held_same (return_place place) (IsReturn q place) d e rt m y)

-- ---- ways of each sort

branch_reads : (d : Data) (x : Instr) (rs rt imm : ℕ) → (x ≡ Beq rs rt imm) → Reads x d → d.backs rs ≡ d.backs rt
branch_reads d x rs rt imm e h = subst (λ (z : Instr). Reads z d) e h

-- bne reads no return number.
ne_reads : (d : Data) (x : Instr) (rs rt imm : ℕ) → (x ≡ Bne rs rt imm) → Reads x d → d.backs rs ≡ d.backs rt
ne_reads d x rs rt imm e h =
    let g : Each (λ r. d.backs r ≡ false) (rs ∷ rt ∷ []) = subst (λ (z : Instr). Reads z d) e h in
    g.0 ∙ sym g.1.0

pub same_ways_of : (p q : HardProgram) (place : ℕ → ℕ) → Renumbered p q place → (b : ℕ) (x : Instr) (k : Class) (f : Fix) (more : List Item) (d e : Data) → SameNumbers (return_place place) (IsReturn q place) d e → NoBlock f → Holds p b (item x k f) → Lawful p b (item x k f) d → is_jump x ≡ true → View p f x more → WaysLead q place b more true (way_of p (item x k f) d x) (way_of q (item x k f) e x)
same_ways_of p q place l b x k f more d e m nb h w j (view.jumps t tg u y s n) = absurd (subst NoBlock u nb)
same_ways_of p q place l b x k f more d e m nb h w j (view.calls c tg u y s n) =
    subst (λ (z : Instr). WaysLead q place b more true (way_of p (item x k f) d z) (way_of q (item x k f) e z)) (sym y)
    (last n (named p f) (named q f) refl refl (straight (subst (λ (z : Fix). named q z ≡ place (named p z)) (sym u) (l.functions b c (item x k f) h u))))
same_ways_of p q place l b x k f more d e m nb h w j (view.returns rs u y n) =
    let r : (d.backs rs ≡ true) × MayFollow p b (held d rs) = subst (λ (z : Instr). Returns p b z d) y w.returns in
    subst (λ (z : Instr). WaysLead q place b more true (way_of p (item x k f) d z) (way_of q (item x k f) e z)) (sym y)
    (last n (held d rs) (held e rs) refl refl (subst (λ (z : ℕ). LeadsTo q place z (held d rs)) (sym (m.regs.same rs ∙ ap (λ (z : Bool). renamed (return_place place) z (held d rs)) r.0)) (m.regs.fine rs r.0).leads))
same_ways_of p q place l b x k f more d e m nb h w j (view.skips rs rt u (inl y) n) =
    let t : (held e rs == held e rt) ≡ (held d rs == held d rt) = test_same p q place l d e rs rt m (d.backs rs) refl (sym (branch_reads d x rs rt 2 y w.reads)) in
    subst (λ (z : Instr). WaysLead q place b more true (way_of p (item x k f) d z) (way_of q (item x k f) e z)) (sym y)
    (subst (λ (z : Bool). WaysLead q place b more true (cond (held d rs == held d rt) (branch_way f) Onward) (cond z (branch_way f) Onward)) (sym t)
    (same_ways q place b more (held d rs == held d rt) (branch_way f) (branch_way f) Onward Onward (subst (λ (z : Fix). WaysLead q place b more true (branch_way z) (branch_way z)) (sym u) (over_ refl refl n)) (onward refl refl (λ z v. not_both more n v))))
same_ways_of p q place l b x k f more d e m nb h w j (view.skips rs rt u (inr y) n) =
    let t : (held e rs == held e rt) ≡ (held d rs == held d rt) = test_same p q place l d e rs rt m (d.backs rs) refl (sym (ne_reads d x rs rt 2 y w.reads)) in
    subst (λ (z : Instr). WaysLead q place b more true (way_of p (item x k f) d z) (way_of q (item x k f) e z)) (sym y)
    (subst (λ (z : Bool). WaysLead q place b more true (cond (held d rs == held d rt) Onward (branch_way f)) (cond z Onward (branch_way f))) (sym t)
    (same_ways q place b more (held d rs == held d rt) Onward Onward (branch_way f) (branch_way f) (onward refl refl (λ z v. not_both more n v)) (subst (λ (z : Fix). WaysLead q place b more true (branch_way z) (branch_way z)) (sym u) (over_ refl refl n))))
same_ways_of p q place l b x k f more d e m nb h w j (view.branches t rs rt imm u y s n) = absurd (subst NoBlock u nb)
same_ways_of p q place l b x k f more d e m nb h w j (view.stays u y) = absurd (no_true (sym j ∙ y))
same_ways_of p q place l b x k f more d e m nb h w j (view.high u y) = absurd (no_true (sym j ∙ ap is_jump y))
same_ways_of p q place l b x k f more d e m nb h w j (view.low u y) = absurd (no_true (sym j ∙ ap is_jump y))

-- A branch that stays, or turns.
kept_ways : (p q : HardProgram) (place : ℕ → ℕ) → Renumbered p q place → (b : ℕ) (x : Instr) (k : Class) (t n : ℕ) (more : List Item) (d e : Data) → SameNumbers (return_place place) (IsReturn q place) d e → Reads x d → is_branch x → LastSlot more → LeadsTo q place n t → LeadsTo q place (place b + 1) (b + 1) → WaysLead q place b more true (way_of p (item x k (Block t)) d x) (way_of q (item x k (Block n)) e x)
kept_ways p q place l b (Beq rs rt imm) k t n more d e m r h s u v =
    let y : (held e rs == held e rt) ≡ (held d rs == held d rt) = test_same p q place l d e rs rt m (d.backs rs) refl (sym r) in
    subst (λ (z : Bool). WaysLead q place b more true (cond (held d rs == held d rt) (To t) Onward) (cond z (To n) Onward)) (sym y)
    (same_ways q place b more (held d rs == held d rt) (To t) (To n) Onward Onward (last s t n refl refl u) (last s (b + 1) (place b + 1) refl refl v))
kept_ways p q place l b (Bne rs rt imm) k t n more d e m r h s u v =
    let y : (held e rs == held e rt) ≡ (held d rs == held d rt) = test_same p q place l d e rs rt m (d.backs rs) refl (r.1.0 ∙ sym r.0) in
    subst (λ (z : Bool). WaysLead q place b more true (cond (held d rs == held d rt) Onward (To t)) (cond z Onward (To n))) (sym y)
    (same_ways q place b more (held d rs == held d rt) Onward Onward (To t) (To n) (last s (b + 1) (place b + 1) refl refl v) (last s t n refl refl u))
kept_ways p q place l b x k t n more d e m r h s u v = absurd h

turned_ways : (p q : HardProgram) (place : ℕ → ℕ) → Renumbered p q place → (b : ℕ) (x : Instr) (k : Class) (t n : ℕ) (more : List Item) (d e : Data) → SameNumbers (return_place place) (IsReturn q place) d e → Reads x d → IsTest x → LastSlot more → LeadsTo q place n (b + 1) → LeadsTo q place (place b + 1) t → WaysLead q place b more true (way_of p (item x k (Block t)) d x) (way_of q (item (opposite x) k (Block n)) e (opposite x))
turned_ways p q place l b (Beq rs rt imm) k t n more d e m r h s u v =
    let y : (held e rs == held e rt) ≡ (held d rs == held d rt) = test_same p q place l d e rs rt m (d.backs rs) refl (sym r) in
    subst (λ (z : Bool). WaysLead q place b more true (cond (held d rs == held d rt) (To t) Onward) (cond z Onward (To n))) (sym y)
    (same_ways q place b more (held d rs == held d rt) (To t) Onward Onward (To n) (last s t (place b + 1) refl refl v) (last s (b + 1) n refl refl u))
turned_ways p q place l b (Bne rs rt imm) k t n more d e m r h s u v =
    let y : (held e rs == held e rt) ≡ (held d rs == held d rt) = test_same p q place l d e rs rt m (d.backs rs) refl (r.1.0 ∙ sym r.0) in
    subst (λ (z : Bool). WaysLead q place b more true (cond (held d rs == held d rt) Onward (To t)) (cond z (To n) Onward)) (sym y)
    (same_ways q place b more (held d rs == held d rt) Onward (To n) (To t) Onward (last s (b + 1) n refl refl u) (last s t (place b + 1) refl refl v))
turned_ways p q place l b x k t n more d e m r h s u v = absurd h

last_of_view : (p : HardProgram) (x : Instr) (f : Fix) (t : ℕ) (more : List Item) → f ≡ Block t → View p f x more → LastSlot more
last_of_view p x f t more e (view.jumps u tg y z s n) = n
last_of_view p x f t more e (view.calls c tg y z s n) = n
last_of_view p x f t more e (view.returns rs y z n) = n
last_of_view p x f t more e (view.branches u rs rt imm y z s n) = n
last_of_view p x f t more e (view.skips rs rt y z n) = absurd (no_plain (sym y ∙ e))
  where
    no_plain : Plain ≡ Block t → ⊥
    no_plain e = cc
last_of_view p x f t more e (view.stays y z) = absurd (no_plain (sym y ∙ e))
  where
    no_plain : Plain ≡ Block t → ⊥
    no_plain e = cc
last_of_view p x f t more e (view.high y z) = absurd (no_high (sym y ∙ e))
  where
    no_high : ReturnHigh ≡ Block t → ⊥
    no_high e = cc
last_of_view p x f t more e (view.low y z) = absurd (no_low (sym y ∙ e))
  where
    no_low : ReturnLow ≡ Block t → ⊥
    no_low e = cc

-- The ways of a branch or a jump and of that of its place.
pub ways_lead : (p q : HardProgram) (place : ℕ → ℕ) → Renumbered p q place → (b : ℕ) (x : Instr) (k : Class) (f : Fix) (j : Item) (more : List Item) (d e : Data) → SameNumbers (return_place place) (IsReturn q place) d e → ItemPlaced p q place b (item x k f) j → Holds p b (item x k f) → Lawful p b (item x k f) d → is_jump x ≡ true → View p f x more → WaysLead q place b more true (way_of p (item x k f) d x) (way_of q j e j.instr)
ways_lead p q place l b x k f j more d e m (placed.same y nb n) h w g v = subst (λ (z : Item). WaysLead q place b more true (way_of p (item x k f) d x) (way_of q z e z.instr)) (sym y) (same_ways_of p q place l b x k f more d e m nb h w g v)
ways_lead p q place l b x k f j more d e m (placed.jumps t n tg u y z r) h w g v =
    subst (λ (z : Item). WaysLead q place b more true (way_of p (item x k f) d x) (way_of q z e z.instr)) (sym z)
    (subst (λ (z : Instr). WaysLead q place b more true (way_of p (item x k f) d z) (way_of q (item z k (Block n)) e z)) (sym y)
    (subst (λ (z : Fix). WaysLead q place b more true (To (named p z)) (To n)) (sym u) (last (last_of_view p x f t more u v) t n refl refl r)))
ways_lead p q place l b x k f j more d e m (placed.branches t n u y z r s) h w g v =
    subst (λ (z : Item). WaysLead q place b more true (way_of p (item x k f) d x) (way_of q z e z.instr)) (sym z)
    (subst (λ (z : Fix). WaysLead q place b more true (way_of p (item x k z) d x) (way_of q (item x k (Block n)) e x)) (sym u)
    (kept_ways p q place l b x k t n more d e m w.reads y (last_of_view p x f t more u v) r s))
ways_lead p q place l b x k f j more d e m (placed.turns t n u y z r s) h w g v =
    subst (λ (z : Item). WaysLead q place b more true (way_of p (item x k f) d x) (way_of q z e z.instr)) (sym z)
    (subst (λ (z : Fix). WaysLead q place b more true (way_of p (item x k z) d x) (way_of q (item (opposite x) k (Block n)) e (opposite x))) (sym u)
    (turned_ways p q place l b x k t n more d e m w.reads y (last_of_view p x f t more u v) r s))

-- ---- lawful there

placed_same : (back : ℕ → ℕ) (Fine : ℕ → Type 0) (d e : Data) (x : Instr) → SameNumbers back Fine d e → Reads x d → rules.Placed x d → rules.Placed x e
placed_same back Fine d e (Lw rt rs imm) m r h = subst (λ (z : ℕ). rules.Parity rt (plus z (extended imm))) (sym (held_same back Fine d e rs m r.0)) h
placed_same back Fine d e (Sw rt rs imm) m r h = subst (λ (z : ℕ). rules.Parity rt (plus z (extended imm))) (sym (held_same back Fine d e rs m r)) h
placed_same back Fine d e x m r h = tt

each_backs : (back : ℕ → ℕ) (Fine : ℕ → Type 0) (d e : Data) (rs : List ℕ) → SameNumbers back Fine d e → Each (λ r. d.backs r ≡ false) rs → Each (λ r. e.backs r ≡ false) rs
each_backs back Fine d e [] m h = tt
each_backs back Fine d e (r ∷ rs) m h = (m.regs.marks r ∙ h.0, each_backs back Fine d e rs m h.1)

reads_same : (back : ℕ → ℕ) (Fine : ℕ → Type 0) (d e : Data) (x : Instr) → SameNumbers back Fine d e → Reads x d → Reads x e
reads_same back Fine d e (Jr rs) m h = tt
reads_same back Fine d e (Sw rt rs imm) m h = m.regs.marks rs ∙ h
reads_same back Fine d e (Beq rs rt imm) m h = m.regs.marks rs ∙ (h ∙ sym (m.regs.marks rt))
reads_same back Fine d e x m h = each_backs back Fine d e (reads_of x) m h

pub no_exception_by : (back : ℕ → ℕ) (Fine : ℕ → Type 0) (i j : Item) (a c : Act) (d e : Data) (high low : State × Option ℕ) → Outcome back Fine i j a c d e high low → ((code at : ℕ) → high.0.end ≡ Some (Exception code at) → ⊥) → (code at : ℕ) → low.0.end ≡ Some (Exception code at) → ⊥
no_exception_by back Fine i j a c d e high low (on h k o s) f code at x = no (sym k ∙ x)
  where
    no : None ≡ Some (Exception code at) → ⊥
    no e = cc
no_exception_by back Fine i j a c d e high low (over y h k) f code at x = f code at (h ∙ (sym k ∙ x))

returns_same : (p q : HardProgram) (place : ℕ → ℕ) → Renumbered p q place → (b : ℕ) (x : Instr) (i : Item) (d e : Data) → i.instr ≡ x → SameNumbers (return_place place) (IsReturn q place) d e → Holds p b i → Returns p b x d → Returns q (place b) x e
returns_same p q place l b (Jr rs) i d e y m h r =
    (m.regs.marks rs ∙ r.0, subst (λ (z : ℕ). MayFollow q (place b) z) (sym (m.regs.same rs ∙ ap (λ (z : Bool). renamed (return_place place) z (held d rs)) r.0)) (l.returns b (held d rs) rs i h y (m.regs.fine rs r.0).behind r.1))
returns_same p q place l b x i d e y m h r = tt

-- What the opposite of a test reads holds no return number.
turned_reads : (d : Data) (x : Instr) → d.backs 0 ≡ false → IsTest x → Reads x d → Reads (opposite x) d
turned_reads d (Beq rs rt imm) z h r =
    let n : d.backs rt ≡ false = ap d.backs h ∙ z in
    (r ∙ n, (n, tt))
turned_reads d (Bne rs rt imm) z h r = r.0 ∙ sym r.1.0
turned_reads d x z h r = absurd h

turned_placed_there : (x : Instr) (e : Data) → IsTest x → rules.Placed (opposite x) e
turned_placed_there (Beq rs rt imm) e h = tt
turned_placed_there (Bne rs rt imm) e h = tt
turned_placed_there x e h = absurd h

turned_returns : (q : HardProgram) (b : ℕ) (x : Instr) (e : Data) → IsTest x → Returns q b (opposite x) e
turned_returns q b (Beq rs rt imm) e h = tt
turned_returns q b (Bne rs rt imm) e h = tt
turned_returns q b x e h = absurd h

pub reads_placed : (p q : HardProgram) (place : ℕ → ℕ) (b : ℕ) (x : Instr) (k : Class) (f : Fix) (j : Item) (d e : Data) → SameNumbers (return_place place) (IsReturn q place) d e → ItemPlaced p q place b (item x k f) j → Reads x d → Reads j.instr e
reads_placed p q place b x k f j d e m (placed.same y nb n) r = subst (λ (z : Item). Reads z.instr e) (sym y) (reads_same (return_place place) (IsReturn q place) d e x m r)
reads_placed p q place b x k f j d e m (placed.jumps t n tg u v y w) r = subst (λ (z : Item). Reads z.instr e) (sym y) (reads_same (return_place place) (IsReturn q place) d e x m r)
reads_placed p q place b x k f j d e m (placed.branches t n u v y w w') r = subst (λ (z : Item). Reads z.instr e) (sym y) (reads_same (return_place place) (IsReturn q place) d e x m r)
reads_placed p q place b x k f j d e m (placed.turns t n u v y w w') r = subst (λ (z : Item). Reads z.instr e) (sym y) (reads_same (return_place place) (IsReturn q place) d e (opposite x) m (turned_reads d x m.zero v r))

place_placed : (p q : HardProgram) (place : ℕ → ℕ) (b : ℕ) (x : Instr) (k : Class) (f : Fix) (j : Item) (d e : Data) → SameNumbers (return_place place) (IsReturn q place) d e → ItemPlaced p q place b (item x k f) j → Reads x d → rules.Placed x d → rules.Placed j.instr e
place_placed p q place b x k f j d e m (placed.same y nb n) r h = subst (λ (z : Item). rules.Placed z.instr e) (sym y) (placed_same (return_place place) (IsReturn q place) d e x m r h)
place_placed p q place b x k f j d e m (placed.jumps t n tg u v y w) r h = subst (λ (z : Item). rules.Placed z.instr e) (sym y) (placed_same (return_place place) (IsReturn q place) d e x m r h)
place_placed p q place b x k f j d e m (placed.branches t n u v y w w') r h = subst (λ (z : Item). rules.Placed z.instr e) (sym y) (placed_same (return_place place) (IsReturn q place) d e x m r h)
place_placed p q place b x k f j d e m (placed.turns t n u v y w w') r h = subst (λ (z : Item). rules.Placed z.instr e) (sym y) (turned_placed_there x e v)

returns_placed : (p q : HardProgram) (place : ℕ → ℕ) → Renumbered p q place → (b : ℕ) (x : Instr) (k : Class) (f : Fix) (j : Item) (d e : Data) → SameNumbers (return_place place) (IsReturn q place) d e → ItemPlaced p q place b (item x k f) j → Holds p b (item x k f) → Returns p b x d → Returns q (place b) j.instr e
returns_placed p q place l b x k f j d e m (placed.same y nb n) h r = subst (λ (z : Item). Returns q (place b) z.instr e) (sym y) (returns_same p q place l b x (item x k f) d e refl m h r)
returns_placed p q place l b x k f j d e m (placed.jumps t n tg u v y w) h r = subst (λ (z : Item). Returns q (place b) z.instr e) (sym y) (returns_same p q place l b x (item x k f) d e refl m h r)
returns_placed p q place l b x k f j d e m (placed.branches t n u v y w w') h r = subst (λ (z : Item). Returns q (place b) z.instr e) (sym y) (returns_same p q place l b x (item x k f) d e refl m h r)
returns_placed p q place l b x k f j d e m (placed.turns t n u v y w w') h r = subst (λ (z : Item). Returns q (place b) z.instr e) (sym y) (turned_returns q (place b) x e v)

-- The item of a place is lawful where that of the block is.
pub lawful_placed : (p q : HardProgram) (place : ℕ → ℕ) → Renumbered p q place → (b : ℕ) (x : Instr) (k : Class) (f : Fix) (j : Item) (d e : Data) → SameNumbers (return_place place) (IsReturn q place) d e → ItemPlaced p q place b (item x k f) j → Holds p b (item x k f) → Lawful p b (item x k f) d →
    Outcome (return_place place) (IsReturn q place) (item x k f) j (item_act b (item x k f) d) (item_act (place b) j e) d e (perform (item_act b (item x k f) d) (machine_of d)) (perform (item_act (place b) j e) (machine_of e)) → Lawful q (place b) j e
lawful_placed p q place l b x k f j d e m i h w o = record {
  placed = place_placed p q place b x k f j d e m i w.reads w.placed;
  returns = returns_placed p q place l b x k f j d e m i h w.returns;
  reads = reads_placed p q place b x k f j d e m i w.reads;
  no_exception = no_exception_by (return_place place) (IsReturn q place) (item x k f) j (item_act b (item x k f) d) (item_act (place b) j e) d e (perform (item_act b (item x k f) d) (machine_of d)) (perform (item_act (place b) j e) (machine_of e)) o w.no_exception;
}
