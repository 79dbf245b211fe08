-- What an item does and what that of its place does: the same, return numbers renamed.
use Rattle.std.proofs.Common.{◌≡◌, ◌≤◌, ◌<◌, ℕ, ◌+◌, ◌-◌, arith, ap, refl, sym, ◌∙◌, subst, List, [], ◌∷◌, Bool, true, false, cond}
use Rattle.std.specs.Prelude.{◌==◌, ℤ, ◌+ℤ◌, ◌-ℤ◌, not}
use Rattle.std.specs.Int.{cast_unsigned, w32}
use Rattle.hard_words.specs.Words.{extended, signed}
use Rattle.mips_isa.specs.declared.instr.Instr.{Instr}
use Rattle.mips_isa.specs.declared.instr.Instr.TheVariants.{Jr, J, Jal, Beq, Bne, Add, Sub, Addi, Sw}
use Rattle.mips_isa.specs.declared.instr.Act.{Act}
use Rattle.mips_isa.specs.declared.instr.Act.TheVariants.{Write, Move, Both, Load, Store, Go, Link, Pass, Service, Stop}
use Rattle.mips_isa.specs.declared.instr.End.TheVariants.{Exception}
use Rattle.mips_isa.specs.Table.{IsInRange}
use Rattle.mips_isa.specs.Machine.{State, plus, act, branch, checked, fits_signed, is_jump, reads_of}
use Rattle.mips_isa.specs.Locality.{Agree, Asks}
use Rattle.mips_laws.proofs.Locality.{same_act, asks}
use Rattle.hard_items.specs.declared.code.Class.{Class}
use Rattle.hard_items.specs.declared.code.Fix.{Fix}
use Rattle.hard_items.specs.declared.code.Fix.TheVariants.{Plain, Block, Function, ReturnHigh, ReturnLow}
use Rattle.hard_items.specs.declared.code.Item.{Item}
use Rattle.hard_items.specs.declared.code.HardProgram.{HardProgram}
use Rattle.hard_items.specs.Run.{Data, machine_of, held, numbered, item_act, makes_number, is_call, is_low}
use Rattle.hard_items.specs.Forms.{Each}
use Rattle.hard_items.specs.Rules.{Reads}
use Rattle.block_relays.specs.Renumber.{LeadsTo, return_place, IsReturn, NoBlock, opposite, is_branch, IsTest, ItemPlaced, renamed, SameNumbers}
use Rattle.block_relays.specs.Renumber as placed
use Rattle.layout_law.proofs.Data.{MayWrite}
use Rattle.layout_law.proofs.Acts.{is_store, may_write}
use Rattle.layout_law.proofs.Step.{item}
use Rattle.block_relays.proofs.Numbers.{ActPlaced, MarksSame, held_same}

no_true : true ≡ false → ⊥
no_true e = cc

-- ---- one instruction

-- The act leaves no link and stores nothing.
abbrev pub Simple : Act → Type 0
Simple (Link to) = ⊥
Simple (Store a v) = ⊥
Simple a = Unit {0}

checked_simple : (at rd : ℕ) (z : ℤ) → Simple (checked at rd z)
checked_simple at rd z = elim (fits_signed z) as (λ u. Simple (cond u (Write rd (cast_unsigned w32 z)) (Stop (Exception 12 at)))) [ true ↦ tt | false ↦ tt ]

simple : (x : Instr) (s : State) → is_jump x ≡ false → is_store x ≡ false → Simple (act x s)
simple (Add rd rs rt) s j h = checked_simple s.pc rd (signed (Rattle.mips_isa.specs.Machine.reg s rs) +ℤ signed (Rattle.mips_isa.specs.Machine.reg s rt))
simple (Sub rd rs rt) s j h = checked_simple s.pc rd (signed (Rattle.mips_isa.specs.Machine.reg s rs) -ℤ signed (Rattle.mips_isa.specs.Machine.reg s rt))
simple (Addi rt rs imm) s j h = checked_simple s.pc rt (signed (Rattle.mips_isa.specs.Machine.reg s rs) +ℤ signed (extended imm))
simple (Jr rs) s j h = absurd (no_true j)
simple (J target) s j h = absurd (no_true j)
simple (Jal target) s j h = absurd (no_true j)
simple (Beq rs rt imm) s j h = absurd (no_true j)
simple (Bne rs rt imm) s j h = absurd (no_true j)
simple (Sw rt rs imm) s j h = absurd (no_true h)
simple x s j h = tt

self : (back : ℕ → ℕ) (Fine : ℕ → Type 0) (i : Item) (d : Data) (b c : ℕ) (a : Act) → MayWrite false a → Simple a → makes_number i ≡ false → (a ≡ Service → (d.backs 2 ≡ false) × (d.backs 4 ≡ false)) → ActPlaced back Fine i d (numbered b a) (numbered c a)
self back Fine i d b c (Write r v) w s m f = (w.0, (ap (λ (z : Bool). Write r (renamed back z v)) (sym m), λ q. absurd (no_true (sym q ∙ m))))
self back Fine i d b c (Move r v) w s m f = (w.0, refl)
self back Fine i d b c (Both h l) w s m f = refl
self back Fine i d b c (Load r a) w s m f = (w.0, refl)
self back Fine i d b c (Store a v) w s m f = absurd s
self back Fine i d b c (Go to) w s m f = refl
self back Fine i d b c (Link to) w s m f = absurd s
self back Fine i d b c Pass w s m f = refl
self back Fine i d b c Service w s m f = (refl, (f refl).0, (f refl).1)
self back Fine i d b c (Stop x) w s m f = refl

reads_none : (d : Data) (x : Instr) → is_jump x ≡ false → is_store x ≡ false → Reads x d → Each (λ r. d.backs r ≡ false) (reads_of x)
reads_none d (Jr rs) j s h = absurd (no_true j)
reads_none d (Beq rs rt imm) j s h = absurd (no_true j)
reads_none d (Sw rt rs imm) j s h = absurd (no_true s)
reads_none d x j s h = h

agree : (back : ℕ → ℕ) (Fine : ℕ → Type 0) (d e : Data) (rs : List ℕ) → SameNumbers back Fine d e → Each (λ r. d.backs r ≡ false) rs → Agree (machine_of e) (machine_of d) rs
agree back Fine d e [] m h = tt
agree back Fine d e (r ∷ rs) m h = (held_same back Fine d e r m h.0, agree back Fine d e rs m h.1)

asked : (rs : List ℕ) (a : Act) → Asks rs a → a ≡ Service → rs ≡ 2 ∷ 4 ∷ []
asked rs a h e = subst (λ (x : Act). Asks rs x) e h

serves : (d : Data) (x : Instr) → Each (λ r. d.backs r ≡ false) (reads_of x) → act x (machine_of d) ≡ Service → (d.backs 2 ≡ false) × (d.backs 4 ≡ false)
serves d x k e =
    let r : reads_of x ≡ 2 ∷ 4 ∷ [] = asked (reads_of x) (act x (machine_of d)) (asks x (machine_of d)) e in
    let g : Each (λ r. d.backs r ≡ false) (2 ∷ 4 ∷ []) = subst (λ (z : List ℕ). Each (λ r. d.backs r ≡ false) z) r k in
    (g.0, g.1.0)

no_call : (x : Instr) → is_jump x ≡ false → is_call x ≡ false
no_call (Jal target) j = absurd (no_true j)
no_call x j = refl

makes_none : (x : Instr) (k : Class) (f : Fix) → is_call x ≡ false → is_low f ≡ false → makes_number (item x k f) ≡ false
makes_none x k f c l = ap (λ (z : Bool). cond z true (is_low f)) c ∙ l

pass_by : (b imm : ℕ) (s : State) (z : Bool) → numbered b (branch z s imm) ≡ Pass
pass_by b imm s true = refl
pass_by b imm s false = refl

-- A branch does nothing to data.
branch_same : (back : ℕ → ℕ) (Fine : ℕ → Type 0) (i : Item) (d : Data) (a c : Act) → a ≡ Pass → c ≡ Pass → ActPlaced back Fine i d a c
branch_same back Fine i d a c e f = subst (λ (z : Act). ActPlaced back Fine i d z c) (sym e) f

pub back_of : (place : ℕ → ℕ) (b : ℕ) → place b + 1 ≡ return_place place (b + 1)
back_of place b = ap (λ (z : ℕ). place z + 1) (less b)
  where
    less : (b : ℕ) → b ≡ b + 1 - 1
    less b = omega arith

fine_next : (q : HardProgram) (place : ℕ → ℕ) (b : ℕ) → LeadsTo q place (place b + 1) (b + 1) → IsReturn q place (b + 1)
fine_next q place b h = record { behind = one b; leads = subst (λ (z : ℕ). LeadsTo q place z (b + 1)) (back_of place b) h }
  where
    one : (b : ℕ) → 1 ≤ b + 1
    one b = omega arith

below_31 : 31 < 32
below_31 = omega arith

below_25 : 25 < 32
below_25 = omega arith

-- A return number is made of the number of the block.
number_made : (q : HardProgram) (place : ℕ → ℕ) (i : Item) (d : Data) (b r : ℕ) → r < 32 → makes_number i ≡ true → LeadsTo q place (place b + 1) (b + 1) → ActPlaced (return_place place) (IsReturn q place) i d (Write r (b + 1)) (Write r (place b + 1))
number_made q place i d b r h m l = (h, (ap (λ (z : ℕ). Write r z) (back_of place b) ∙ ap (λ (z : Bool). Write r (renamed (return_place place) z (b + 1))) (sym m), λ z. fine_next q place b l))

instr_placed : (q : HardProgram) (place : ℕ → ℕ) (b : ℕ) (x : Instr) (k : Class) (f : Fix) (d e : Data) → SameNumbers (return_place place) (IsReturn q place) d e → is_low f ≡ false → (makes_number (item x k f) ≡ true → LeadsTo q place (place b + 1) (b + 1)) → Reads x d → IsInRange x → (z : Bool) → is_jump x ≡ z → (y : Bool) → is_store x ≡ y →
    ActPlaced (return_place place) (IsReturn q place) (item x k f) d (numbered b (act x (machine_of d))) (numbered (place b) (act x (machine_of e)))
instr_placed q place b (Jr rs) k f d e m l n r g true j y s = refl
instr_placed q place b (J target) k f d e m l n r g true j y s = refl
instr_placed q place b (Jal target) k f d e m l n r g true j y s = number_made q place (item (Jal target) k f) d b 31 below_31 refl (n refl)
instr_placed q place b (Beq rs rt imm) k f d e m l n r g true j y s = branch_same (return_place place) (IsReturn q place) (item (Beq rs rt imm) k f) d (numbered b (act (Beq rs rt imm) (machine_of d))) (numbered (place b) (act (Beq rs rt imm) (machine_of e))) (pass_by b imm (machine_of d) (held d rs == held d rt)) (pass_by (place b) imm (machine_of e) (held e rs == held e rt))
instr_placed q place b (Bne rs rt imm) k f d e m l n r g true j y s = branch_same (return_place place) (IsReturn q place) (item (Bne rs rt imm) k f) d (numbered b (act (Bne rs rt imm) (machine_of d))) (numbered (place b) (act (Bne rs rt imm) (machine_of e))) (pass_by b imm (machine_of d) (not (held d rs == held d rt))) (pass_by (place b) imm (machine_of e) (not (held e rs == held e rt)))
instr_placed q place b (Sw rt rs imm) k f d e m l n r g z j y s = (both (held e rs) (held d rs) (held e rt) (renamed (return_place place) (d.backs rt) (held d rt)) (held_same (return_place place) (IsReturn q place) d e rs m r) (m.regs.same rt), m.regs.fine rt)
  where
    both : (a a' v v' : ℕ) → a ≡ a' → v ≡ v' → Store (plus a (extended imm)) v ≡ Store (plus a' (extended imm)) v'
    both a a' v v' e f = cc
instr_placed q place b x k f d e m l n r g false j false s =
    let h : Each (λ r. d.backs r ≡ false) (reads_of x) = reads_none d x j s r in
    subst (λ (z : Act). ActPlaced (return_place place) (IsReturn q place) (item x k f) d (numbered b (act x (machine_of d))) (numbered (place b) z)) (sym (same_act x (machine_of e) (machine_of d) refl (λ e. (m.hi, m.lo)) (agree (return_place place) (IsReturn q place) d e (reads_of x) m h)))
    (self (return_place place) (IsReturn q place) (item x k f) d b (place b) (act x (machine_of d)) (may_write false x (machine_of d) g (λ z. absurd (no_true (sym z)))) (simple x (machine_of d) j s) (makes_none x k f (no_call x j) l) (serves d x h))
instr_placed q place b x k f d e m l n r g false j true s = absurd (no_true (sym s))
instr_placed q place b x k f d e m l n r g true j y s = absurd (no_true (sym j))

-- ---- one item

same_placed : (q : HardProgram) (place : ℕ → ℕ) (b : ℕ) (x : Instr) (k : Class) (f : Fix) (d e : Data) → SameNumbers (return_place place) (IsReturn q place) d e → NoBlock f → (makes_number (item x k f) ≡ true → LeadsTo q place (place b + 1) (b + 1)) → Reads x d → IsInRange x →
    ActPlaced (return_place place) (IsReturn q place) (item x k f) d (item_act b (item x k f) d) (item_act (place b) (item x k f) e)
same_placed q place b x k Plain d e m h n r g = instr_placed q place b x k Plain d e m refl n r g (is_jump x) refl (is_store x) refl
same_placed q place b x k (Block t) d e m h n r g = absurd h
same_placed q place b x k (Function f) d e m h n r g = instr_placed q place b x k (Function f) d e m refl n r g (is_jump x) refl (is_store x) refl
same_placed q place b x k ReturnHigh d e m h n r g = instr_placed q place b x k ReturnHigh d e m refl n r g (is_jump x) refl (is_store x) refl
same_placed q place b x k ReturnLow d e m h n r g = number_made q place (item x k ReturnLow) d b 25 below_25 (always (is_call x)) (n (always (is_call x)))
  where
    always : (z : Bool) → cond z true true ≡ true
    always true = refl
    always false = refl

turned_placed : (q : HardProgram) (place : ℕ → ℕ) (b : ℕ) (x : Instr) (k : Class) (t n : ℕ) (d e : Data) → IsTest x →
    ActPlaced (return_place place) (IsReturn q place) (item x k (Block t)) d (item_act b (item x k (Block t)) d) (item_act (place b) (item (opposite x) k (Block n)) e) × MarksSame (item x k (Block t)) (item (opposite x) k (Block n))
turned_placed q place b (Beq rs rt imm) k t n d e h = (branch_same (return_place place) (IsReturn q place) (item (Beq rs rt imm) k (Block t)) d (numbered b (act (Beq rs rt imm) (machine_of d))) (numbered (place b) (act (Bne rs rt imm) (machine_of e))) (pass_by b imm (machine_of d) (held d rs == held d rt)) (pass_by (place b) imm (machine_of e) (not (held e rs == held e rt))), record { makes = refl; value = refl })
turned_placed q place b (Bne rs rt imm) k t n d e h = (branch_same (return_place place) (IsReturn q place) (item (Bne rs rt imm) k (Block t)) d (numbered b (act (Bne rs rt imm) (machine_of d))) (numbered (place b) (act (Beq rs rt imm) (machine_of e))) (pass_by b imm (machine_of d) (not (held d rs == held d rt))) (pass_by (place b) imm (machine_of e) (held e rs == held e rt)), record { makes = refl; value = refl })
turned_placed q place b x k t n d e h = absurd h

kept_placed : (q : HardProgram) (place : ℕ → ℕ) (b : ℕ) (x : Instr) (k : Class) (t n : ℕ) (d e : Data) → is_branch x →
    ActPlaced (return_place place) (IsReturn q place) (item x k (Block t)) d (item_act b (item x k (Block t)) d) (item_act (place b) (item x k (Block n)) e) × MarksSame (item x k (Block t)) (item x k (Block n))
kept_placed q place b (Beq rs rt imm) k t n d e h = (branch_same (return_place place) (IsReturn q place) (item (Beq rs rt imm) k (Block t)) d (numbered b (act (Beq rs rt imm) (machine_of d))) (numbered (place b) (act (Beq rs rt imm) (machine_of e))) (pass_by b imm (machine_of d) (held d rs == held d rt)) (pass_by (place b) imm (machine_of e) (held e rs == held e rt)), record { makes = refl; value = refl })
kept_placed q place b (Bne rs rt imm) k t n d e h = (branch_same (return_place place) (IsReturn q place) (item (Bne rs rt imm) k (Block t)) d (numbered b (act (Bne rs rt imm) (machine_of d))) (numbered (place b) (act (Bne rs rt imm) (machine_of e))) (pass_by b imm (machine_of d) (not (held d rs == held d rt))) (pass_by (place b) imm (machine_of e) (not (held e rs == held e rt))), record { makes = refl; value = refl })
kept_placed q place b x k t n d e h = absurd h

-- The act of an item and that of its place, and the marks of both.
pub act_placed : (p q : HardProgram) (place : ℕ → ℕ) (b : ℕ) (x : Instr) (k : Class) (f : Fix) (j : Item) (d e : Data) → SameNumbers (return_place place) (IsReturn q place) d e → ItemPlaced p q place b (item x k f) j → Reads x d → IsInRange x →
    ActPlaced (return_place place) (IsReturn q place) (item x k f) d (item_act b (item x k f) d) (item_act (place b) j e) × MarksSame (item x k f) j
act_placed p q place b x k f j d e m (placed.same h u n) r g = subst (λ (z : Item). ActPlaced (return_place place) (IsReturn q place) (item x k f) d (item_act b (item x k f) d) (item_act (place b) z e) × MarksSame (item x k f) z) (sym h) (same_placed q place b x k f d e m u n r g, record { makes = refl; value = refl })
act_placed p q place b x k f j d e m (placed.jumps t n tg h u y l) r g = subst (λ (z : Item). ActPlaced (return_place place) (IsReturn q place) (item x k f) d (item_act b (item x k f) d) (item_act (place b) z e) × MarksSame (item x k f) z) (sym y)
    (subst (λ (z : Instr). ActPlaced (return_place place) (IsReturn q place) (item z k f) d (item_act b (item z k f) d) (item_act (place b) (item z k (Block n)) e) × MarksSame (item z k f) (item z k (Block n))) (sym u)
    (subst (λ (z : Fix). ActPlaced (return_place place) (IsReturn q place) (item (J tg) k z) d (item_act b (item (J tg) k z) d) (item_act (place b) (item (J tg) k (Block n)) e) × MarksSame (item (J tg) k z) (item (J tg) k (Block n))) (sym h) (refl, record { makes = refl; value = refl })))
act_placed p q place b x k f j d e m (placed.branches t n h u y l v) r g = subst (λ (z : Item). ActPlaced (return_place place) (IsReturn q place) (item x k f) d (item_act b (item x k f) d) (item_act (place b) z e) × MarksSame (item x k f) z) (sym y)
    (subst (λ (z : Fix). ActPlaced (return_place place) (IsReturn q place) (item x k z) d (item_act b (item x k z) d) (item_act (place b) (item x k (Block n)) e) × MarksSame (item x k z) (item x k (Block n))) (sym h) (kept_placed q place b x k t n d e u))
act_placed p q place b x k f j d e m (placed.turns t n h u y l v) r g = subst (λ (z : Item). ActPlaced (return_place place) (IsReturn q place) (item x k f) d (item_act b (item x k f) d) (item_act (place b) z e) × MarksSame (item x k f) z) (sym y)
    (subst (λ (z : Fix). ActPlaced (return_place place) (IsReturn q place) (item x k z) d (item_act b (item x k z) d) (item_act (place b) (item (opposite x) k (Block n)) e) × MarksSame (item x k z) (item (opposite x) k (Block n))) (sym h) (turned_placed q place b x k t n d e u))
