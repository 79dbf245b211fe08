-- What the instruction of an item does, and what that of its word does.
use Rattle.std.proofs.Common.{◌≡◌, ◌≢◌, ◌<◌, ℕ, ◌-◌, arith, ap, refl, sym, ◌∙◌, subst, List, [], ◌∷◌, ◌++◌, Bool, true, false, cond, inl, inr}
use Rattle.std.specs.Prelude.{Option, Some, None, slice_index, slice_set, ◌⊎◌, ◌==◌, ◌&&◌, not, nat_le, nat_lt, ℤ, ◌+ℤ◌, ◌-ℤ◌}
use Rattle.std.specs.Int.{cast_unsigned, w32}
use Rattle.hard_words.specs.Words.{extended, signed}
use Rattle.mips_isa.specs.declared.instr.Instr.{Instr}
use Rattle.mips_isa.specs.declared.instr.Instr.TheVariants.{Sll, Srl, Sra, Sllv, Srlv, Srav, Jr, Syscall, Break, Mfhi, Mflo, Add, Addu, Sub, Subu, And, Or, Xor, Nor, Slt, Sltu, J, Jal, Beq, Bne, Addi, Addiu, Slti, Sltiu, Andi, Ori, Xori, Lui, Lw, Sw}
use Rattle.mips_isa.specs.declared.instr.Act.{Act}
use Rattle.mips_isa.specs.declared.instr.Act.TheVariants.{Write, Move, Both, Load, Store, Go, Link, Pass, Service, Stop}
use Rattle.mips_isa.specs.declared.instr.End.{End}
use Rattle.mips_isa.specs.declared.instr.End.TheVariants.{Trapped, Reported, Exception, Hazard}
use Rattle.mips_isa.specs.Table.{IsInRange}
use Rattle.mips_isa.specs.Machine.{State, reg, plus, perform, act, checked, fits_signed, break_end, is_jump, is_product, among, reads_of, writes_of, row_act}
use Rattle.mips_isa.specs.Locality.{Agree, Puts}
use Rattle.mips_laws.proofs.Locality.{same_act, puts}
use Rattle.hard_items.specs.declared.code.Fix.{Fix}
use Rattle.hard_items.specs.declared.code.Fix.TheVariants.{Plain, Block, Function, ReturnHigh, ReturnLow}
use Rattle.hard_items.specs.declared.code.Item.{Item}
use Rattle.hard_items.specs.declared.code.HardProgram.{HardProgram}
use Rattle.hard_items.specs.Streams.{touched}
use Rattle.hard_items.specs.Run.{Data, machine_of, held, numbered, value_of, Onward, way_of}
use Rattle.hard_items.specs.Forms.{Each}
use Rattle.hard_items.specs.Counts.{loaded, quiet_after, is_break, may_stand}
use Rattle.hard_items.specs.Rules.{Reads}
use Rattle.layout_law.specs.Layout.{filled}
use Rattle.layout_law.specs.Level.{worth, SameData, SameEnd}
use Rattle.layout_law.proofs.Data.{Alike, MayWrite, last_of, quiet_of}

-- ---- lists of registers

pub each_left : (P : ℕ → Type 0) (xs ys : List ℕ) → Each P (xs ++ ys) → Each P xs
each_left P [] ys h = tt
each_left P (x ∷ xs) ys h = (h.0, each_left P xs ys h.1)

pub each_right : (P : ℕ → Type 0) (xs ys : List ℕ) → Each P (xs ++ ys) → Each P ys
each_right P [] ys h = h
each_right P (x ∷ xs) ys h = each_right P xs ys h.1

each_both : (P Q : ℕ → Type 0) (xs : List ℕ) → Each P xs → Each Q xs → Each (λ r. P r × Q r) xs
each_both P Q [] h k = tt
each_both P Q (x ∷ xs) h k = ((h.0, k.0), each_both P Q xs h.1 k.1)

each_any : (P : ℕ → Type 0) (xs : List ℕ) → ((r : ℕ) → P r) → Each P xs
each_any P [] f = tt
each_any P (x ∷ xs) f = (f x, each_any P xs f)

each_map : (P Q : ℕ → Type 0) (xs : List ℕ) → ((r : ℕ) → P r → Q r) → Each P xs → Each Q xs
each_map P Q [] f h = tt
each_map P Q (x ∷ xs) f h = (f x h.0, each_map P Q xs f h.1)

below : (r : ℕ) → nat_lt r 32 ≡ true → r < 32
below r e = grind arith

-- mips_isa proves this of its table (writes_registers), in terms of a type that it doesn't export.
written_there : (i : Instr) → IsInRange i → Each (λ r. r < 32) (writes_of i)
written_there (Sll rd rt sh) h = (h.2, tt)
written_there (Srl rd rt sh) h = (h.2, tt)
written_there (Sra rd rt sh) h = (h.2, tt)
written_there (Sllv rd rt rs) h = (h.2, tt)
written_there (Srlv rd rt rs) h = (h.2, tt)
written_there (Srav rd rt rs) h = (h.2, tt)
written_there (Mfhi rd) h = (h.2, tt)
written_there (Mflo rd) h = (h.2, tt)
written_there (Add rd rs rt) h = (h.2, tt)
written_there (Addu rd rs rt) h = (h.2, tt)
written_there (Sub rd rs rt) h = (h.2, tt)
written_there (Subu rd rs rt) h = (h.2, tt)
written_there (And rd rs rt) h = (h.2, tt)
written_there (Or rd rs rt) h = (h.2, tt)
written_there (Xor rd rs rt) h = (h.2, tt)
written_there (Nor rd rs rt) h = (h.2, tt)
written_there (Slt rd rs rt) h = (h.2, tt)
written_there (Sltu rd rs rt) h = (h.2, tt)
written_there (Addi rt rs imm) h = (h.1, tt)
written_there (Addiu rt rs imm) h = (h.1, tt)
written_there (Slti rt rs imm) h = (h.1, tt)
written_there (Sltiu rt rs imm) h = (h.1, tt)
written_there (Andi rt rs imm) h = (h.1, tt)
written_there (Ori rt rs imm) h = (h.1, tt)
written_there (Xori rt rs imm) h = (h.1, tt)
written_there (Lui rt imm) h = (h.1, tt)
written_there (Lw rt rs imm) h = (h.1, tt)
written_there (Jal target) h = (below 31 refl, tt)
written_there Syscall h = (below 2 refl, tt)
written_there i h = tt

-- ---- what an act may write

may_write_by : (o : Bool) (ds : List ℕ) (a : Act) → Puts ds a → Each (λ r. (r < 32) × ((o ≡ false) ⊎ (r ≢ 25))) ds → MayWrite o a
may_write_by o ds (Write d v) e h = (subst (λ (x : List ℕ). Each (λ r. (r < 32) × ((o ≡ false) ⊎ (r ≢ 25))) x) e h).0
may_write_by o ds (Move d v) e h = (subst (λ (x : List ℕ). Each (λ r. (r < 32) × ((o ≡ false) ⊎ (r ≢ 25))) x) e h).0
may_write_by o ds (Load d a) e h = (subst (λ (x : List ℕ). Each (λ r. (r < 32) × ((o ≡ false) ⊎ (r ≢ 25))) x) e h).0
may_write_by o ds (Both x y) e h = tt
may_write_by o ds (Store x y) e h = tt
may_write_by o ds (Go x) e h = tt
may_write_by o ds (Link x) e h = tt
may_write_by o ds Pass e h = tt
may_write_by o ds Service e h = tt
may_write_by o ds (Stop x) e h = tt

-- Registers of an item beside an open pair.
pub apart_half : (o : Bool) (rs : List ℕ) → (o ≡ true → Each (λ r. r ≢ 25) rs) → Each (λ r. (o ≡ false) ⊎ (r ≢ 25)) rs
apart_half true rs h = each_map (λ r. r ≢ 25) (λ r. (true ≡ false) ⊎ (r ≢ 25)) rs (λ r k. inr k) (h refl)
apart_half false rs h = each_any (λ r. (false ≡ false) ⊎ (r ≢ 25)) rs (λ r. inl refl)

pub may_write : (o : Bool) (i : Instr) (s : State) → IsInRange i → (o ≡ true → Each (λ r. r ≢ 25) (touched i)) → MayWrite o (act i s)
may_write o i s r h = may_write_by o (writes_of i) (act i s) (puts i s)
    (each_both (λ r. r < 32) (λ r. (o ≡ false) ⊎ (r ≢ 25)) (writes_of i) (written_there i r)
    (each_right (λ r. (o ≡ false) ⊎ (r ≢ 25)) (reads_of i) (writes_of i) (apart_half o (touched i) h)))

-- ---- one instruction at two places

-- A state at another place.
abbrev pub at_pc : ℕ → State → State
at_pc a s = record s { pc = a }

checked_alike : (p : HardProgram) (i : Item) (d : Data) (b at rd : ℕ) (z : ℤ) → Alike p i d (numbered b (checked 0 rd z)) (checked at rd z)
checked_alike p i d b at rd z = elim (fits_signed z) as (λ u. Alike p i d (numbered b (cond u (Write rd (cast_unsigned w32 z)) (Stop (Exception 12 0)))) (cond u (Write rd (cast_unsigned w32 z)) (Stop (Exception 12 at)))) [
  | true ↦ refl
  | false ↦ (Exception 12 at, (refl, (at, refl)))
]

break_alike : (at code : ℕ) (x y : Bool) → SameEnd (Some (cond x (Reported code 0) (cond y (Trapped code) (Exception 9 0)))) (Some (cond x (Reported code at) (cond y (Trapped code) (Exception 9 at))))
break_alike at code true y = (at, refl)
break_alike at code false true = refl
break_alike at code false false = (at, refl)

-- sw
abbrev pub is_store : Instr → Bool
is_store (Sw rt rs imm) = true
is_store i = false

no_true : true ≡ false → ⊥
no_true e = cc

alike_by : (p : HardProgram) (i : Item) (d : Data) (b at : ℕ) (x : Instr) → is_jump x ≡ false → is_store x ≡ false → Alike p i d (numbered b (act x (machine_of d))) (act x (at_pc at (machine_of d)))
alike_by p i d b at (Add rd rs rt) j s = checked_alike p i d b at rd (signed (held d rs) +ℤ signed (held d rt))
alike_by p i d b at (Sub rd rs rt) j s = checked_alike p i d b at rd (signed (held d rs) -ℤ signed (held d rt))
alike_by p i d b at (Addi rt rs imm) j s = checked_alike p i d b at rt (signed (held d rs) +ℤ signed (extended imm))
alike_by p i d b at (Break code) j s = (break_end at code, (refl, break_alike at code (nat_le 1 code && nat_le code 2) (nat_le 6 code && nat_le code 9)))
alike_by p i d b at (Jr rs) j s = absurd (no_true j)
alike_by p i d b at (J target) j s = absurd (no_true j)
alike_by p i d b at (Jal target) j s = absurd (no_true j)
alike_by p i d b at (Beq rs rt imm) j s = absurd (no_true j)
alike_by p i d b at (Bne rs rt imm) j s = absurd (no_true j)
alike_by p i d b at (Sw rt rs imm) j s = absurd (no_true s)
alike_by p i d b at x j s = refl

-- What an item reads holds no return number.
reads_none : (d : Data) (x : Instr) → is_jump x ≡ false → is_store x ≡ false → Reads x d → Each (λ r. d.backs r ≡ false) (reads_of x)
reads_none d (Jr rs) j s h = absurd (no_true j)
reads_none d (Beq rs rt imm) j s h = absurd (no_true j)
reads_none d (Sw rt rs imm) j s h = absurd (no_true s)
reads_none d x j s h = h

-- A register that holds none is the same.
pub reg_same : (p : HardProgram) (o : Bool) (b : ℕ) (d : Data) (s : State) (r : ℕ) → SameData p o b d s → (o ≡ false) ⊎ (r ≢ 25) → d.backs r ≡ false → reg s r ≡ held d r
reg_same p o b d s r m h e = m.regs.same r h ∙ ap (λ (z : Bool). worth p z (held d r)) e

agree : (p : HardProgram) (o : Bool) (b : ℕ) (d : Data) (s : State) (at : ℕ) (rs : List ℕ) → SameData p o b d s → Each (λ r. (o ≡ false) ⊎ (r ≢ 25)) rs → Each (λ r. d.backs r ≡ false) rs → Agree s (at_pc at (machine_of d)) rs
agree p o b d s at [] m h k = tt
agree p o b d s at (r ∷ rs) m h k = (reg_same p o b d s r m h.0 k.0, agree p o b d s at rs m h.1 k.1)

-- An item that goes nowhere and stores nothing.
pub alike : (p : HardProgram) (o : Bool) (b : ℕ) (i : Item) (d : Data) (s : State) → SameData p o b d s → is_jump i.instr ≡ false → is_store i.instr ≡ false → (o ≡ true → Each (λ r. r ≢ 25) (touched i.instr)) → Reads i.instr d → Alike p i d (numbered b (act i.instr (machine_of d))) (act i.instr s)
alike p o b i d s m j t h k =
    let g : Agree s (at_pc s.pc (machine_of d)) (reads_of i.instr) = agree p o b d s s.pc (reads_of i.instr) m (each_left (λ r. (o ≡ false) ⊎ (r ≢ 25)) (reads_of i.instr) (writes_of i.instr) (apart_half o (touched i.instr) h)) (reads_none d i.instr j t k) in
    subst (λ (x : Act). Alike p i d (numbered b (act i.instr (machine_of d))) x) (sym (same_act i.instr s (at_pc s.pc (machine_of d)) refl (λ e. (m.hi, m.lo)) g))
    (alike_by p i d b s.pc i.instr j t)

-- sw
pub alike_store : (p : HardProgram) (o : Bool) (b : ℕ) (i : Item) (d : Data) (s : State) (rt rs imm : ℕ) → i.instr ≡ Sw rt rs imm → SameData p o b d s → (o ≡ true → Each (λ r. r ≢ 25) (rt ∷ rs ∷ [])) → d.backs rs ≡ false → Alike p i d (Store (plus (held d rs) (extended imm)) (held d rt)) (act (Sw rt rs imm) s)
alike_store p o b i d s rt rs imm e m h k =
    let f : Each (λ r. (o ≡ false) ⊎ (r ≢ 25)) (rt ∷ rs ∷ []) = apart_half o (rt ∷ rs ∷ []) h in
    let v : value_of i.instr ≡ rt = ap value_of e in (
      both (reg s rs) (held d rs) (reg s rt) (worth p (d.backs (value_of i.instr)) (held d rt)) (reg_same p o b d s rs m f.1.0 k) (m.regs.same rt f.0 ∙ ap (λ (z : ℕ). worth p (d.backs z) (held d rt)) (sym v)),
      λ q. m.regs.blocks rt (ap d.backs (sym v) ∙ q),
    )
  where
    both : (a a' v v' : ℕ) → a ≡ a' → v ≡ v' → Store (plus a (extended imm)) v ≡ Store (plus a' (extended imm)) v'
    both a a' v v' e f = cc

-- ---- what is left behind

checked_last : (b rd : ℕ) (z : ℤ) → last_of (numbered b (checked 0 rd z)) ≡ 0
checked_last b rd z = elim (fits_signed z) as (λ u. last_of (numbered b (cond u (Write rd (cast_unsigned w32 z)) (Stop (Exception 12 0)))) ≡ 0) [ true ↦ refl | false ↦ refl ]

checked_quiet : (b rd q : ℕ) (z : ℤ) → quiet_of (numbered b (checked 0 rd z)) q ≡ q - 1
checked_quiet b rd q z = elim (fits_signed z) as (λ u. quiet_of (numbered b (cond u (Write rd (cast_unsigned w32 z)) (Stop (Exception 12 0)))) q ≡ q - 1) [ true ↦ refl | false ↦ refl ]

pub last_is : (b : ℕ) (d : Data) (x : Instr) → is_jump x ≡ false → last_of (numbered b (act x (machine_of d))) ≡ loaded x
last_is b d (Add rd rs rt) j = checked_last b rd (signed (held d rs) +ℤ signed (held d rt))
last_is b d (Sub rd rs rt) j = checked_last b rd (signed (held d rs) -ℤ signed (held d rt))
last_is b d (Addi rt rs imm) j = checked_last b rt (signed (held d rs) +ℤ signed (extended imm))
last_is b d (Jr rs) j = absurd (no_true j)
last_is b d (J target) j = absurd (no_true j)
last_is b d (Jal target) j = absurd (no_true j)
last_is b d (Beq rs rt imm) j = absurd (no_true j)
last_is b d (Bne rs rt imm) j = absurd (no_true j)
last_is b d x j = refl

pub quiet_is : (b q : ℕ) (d : Data) (x : Instr) → is_jump x ≡ false → quiet_of (numbered b (act x (machine_of d))) q ≡ quiet_after x q
quiet_is b q d (Add rd rs rt) j = checked_quiet b rd q (signed (held d rs) +ℤ signed (held d rt))
quiet_is b q d (Sub rd rs rt) j = checked_quiet b rd q (signed (held d rs) -ℤ signed (held d rt))
quiet_is b q d (Addi rt rs imm) j = checked_quiet b rt q (signed (held d rs) +ℤ signed (extended imm))
quiet_is b q d (Jr rs) j = absurd (no_true j)
quiet_is b q d (J target) j = absurd (no_true j)
quiet_is b q d (Jal target) j = absurd (no_true j)
quiet_is b q d (Beq rs rt imm) j = absurd (no_true j)
quiet_is b q d (Bne rs rt imm) j = absurd (no_true j)
quiet_is b q d x j = refl

pub stays_on : (p : HardProgram) (i : Item) (d : Data) (x : Instr) → is_jump x ≡ false → way_of p i d x ≡ Onward
stays_on p i d (Jr rs) j = absurd (no_true j)
stays_on p i d (J target) j = absurd (no_true j)
stays_on p i d (Jal target) j = absurd (no_true j)
stays_on p i d (Beq rs rt imm) j = absurd (no_true j)
stays_on p i d (Bne rs rt imm) j = absurd (no_true j)
stays_on p i d x j = refl

-- A break ends.
pub break_ends : (b : ℕ) (d : Data) (x : Instr) → is_break x ≡ true → (perform (numbered b (act x (machine_of d))) (machine_of d)).0.end ≡ None → ⊥
break_ends b d (Break code) e h = none h
  where
    none : {e : End} → Some e ≡ None → ⊥
    none h = cc
break_ends b d x e h = no_true (sym e)

-- ---- hazards

abbrev hazard_by : (x y z w u : Bool) → Bool
hazard_by x y z w u = Rattle.std.specs.Prelude.◌||◌ (x && y) (Rattle.std.specs.Prelude.◌||◌ (z && w) u)

no_hazard_by : (x y z w u : Bool) → (not (x && y) && not (z && w)) ≡ true → u ≡ false → hazard_by x y z w u ≡ false
no_hazard_by true true z w u h e = absurd (no_true (sym h))
no_hazard_by true false true true u h e = absurd (no_true (sym h))
no_hazard_by true false true false u h e = e
no_hazard_by true false false w u h e = e
no_hazard_by false y true true u h e = absurd (no_true (sym h))
no_hazard_by false y true false u h e = e
no_hazard_by false y false w u h e = e

slot_free : (x slot : Bool) → (slot ≡ true → x ≡ false) → (x && slot) ≡ false
slot_free true true h = h refl
slot_free true false h = refl
slot_free false slot h = refl

pub no_hazard : (s : State) (x : Instr) → may_stand s.last_load s.quiet x ≡ true → (s.slot ≡ true → is_jump x ≡ false) → row_act s (Some x) ≡ act x s
no_hazard s x h k = ap (λ (z : Bool). cond z (Stop (Hazard s.pc)) (act x s)) (no_hazard_by (not (s.last_load == 0)) (among s.last_load (reads_of x)) (is_product x) (nat_lt 0 s.quiet) (is_jump x && s.slot) h (slot_free (is_jump x) s.slot k))

-- A break may stand anywhere.
pub break_may_stand : (last quiet : ℕ) (x : Instr) → is_break x ≡ true → may_stand last quiet x ≡ true
break_may_stand last quiet (Break code) e = by (not (last == 0))
  where
    by : (x : Bool) → (not (x && false) && not (false && nat_lt 0 quiet)) ≡ true
    by true = refl
    by false = refl
break_may_stand last quiet x e = absurd (no_true (sym e))

-- The field changes nothing of this.
pub filled_reads : (p : HardProgram) (b at : ℕ) (fix : Fix) (x : Instr) → (reads_of (filled p b at fix x) ≡ reads_of x) × ((is_product (filled p b at fix x) ≡ is_product x) × (is_jump (filled p b at fix x) ≡ is_jump x))
filled_reads p b at Plain x = (refl, (refl, refl))
filled_reads p b at (Block t) (J target) = (refl, (refl, refl))
filled_reads p b at (Block t) (Beq rs rt imm) = (refl, (refl, refl))
filled_reads p b at (Block t) (Bne rs rt imm) = (refl, (refl, refl))
filled_reads p b at (Block t) x = (refl, (refl, refl))
filled_reads p b at (Function f) (Jal target) = (refl, (refl, refl))
filled_reads p b at (Function f) x = (refl, (refl, refl))
filled_reads p b at ReturnHigh (Lui rt imm) = (refl, (refl, refl))
filled_reads p b at ReturnHigh x = (refl, (refl, refl))
filled_reads p b at ReturnLow (Ori rt rs imm) = (refl, (refl, refl))
filled_reads p b at ReturnLow x = (refl, (refl, refl))

pub filled_may_stand : (p : HardProgram) (b at last quiet : ℕ) (fix : Fix) (x : Instr) → may_stand last quiet x ≡ true → may_stand last quiet (filled p b at fix x) ≡ true
filled_may_stand p b at last quiet fix x h =
    let f : (reads_of (filled p b at fix x) ≡ reads_of x) × ((is_product (filled p b at fix x) ≡ is_product x) × (is_jump (filled p b at fix x) ≡ is_jump x)) = filled_reads p b at fix x in
    same (reads_of (filled p b at fix x)) (reads_of x) (is_product (filled p b at fix x)) (is_product x) f.0 f.1.0 h
  where
    same : (xs ys : List ℕ) (u v : Bool) → xs ≡ ys → u ≡ v → (not (not (last == 0) && among last ys) && not (v && nat_lt 0 quiet)) ≡ true → (not (not (last == 0) && among last xs) && not (u && nat_lt 0 quiet)) ≡ true
    same xs ys u v e f h = rw (e, f) h
