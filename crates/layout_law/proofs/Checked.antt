-- The rule on checked uses, by the forms: what a word reads in a critical way is guarded there.
use Rattle.std.proofs.Common.{◌≡◌, ◌≢◌, ◌≤◌, ℕ, zero, suc, ◌+◌, ◌-◌, ◌*◌, arith, ap, refl, sym, ◌∙◌, subst, List, [], ◌∷◌, ◌++◌, length, append_assoc, length-append, Bool, true, false, inl, inr}
use Rattle.std.specs.Prelude.{Some, None, ◌⊎◌, ◌==◌, ◌&&◌, ◌||◌, nat_le, IsTrue}
use Rattle.mips_isa.specs.declared.instr.Instr.{Instr}
use Rattle.mips_isa.specs.declared.instr.Instr.TheVariants.{J, Jal, Jr, Beq, Bne, Break, Syscall, Sw, Ori, Lui}
use Rattle.mips_isa.specs.Machine.{is_jump, among, writes_of}
use Rattle.mips_text.specs.Text.{At, IsBranch, SkipsReport, Critical, base, operand, target, argument}
use Rattle.mips_text.specs.Typing.{Role, master, shadow, role_of, Of, IsGuarded}
use Rattle.harden_lint.specs.Rules.{IsChecked}
use Rattle.hard_items.specs.declared.code.Fix.{Fix}
use Rattle.hard_items.specs.declared.code.Fix.TheVariants.{Plain, Block, Function, ReturnHigh, ReturnLow}
use Rattle.hard_items.specs.declared.code.Item.{Item}
use Rattle.hard_items.specs.declared.code.HardProgram.{HardProgram}
use Rattle.hard_items.specs.Streams.{nop, shadow_of}
use Rattle.hard_items.specs.Counts.{is_break}
use Rattle.hard_items.specs.Forms.{is_value}
use Rattle.layout_law.specs.Layout.{address, filled, text}
use Rattle.layout_law.specs.Level.{Layable, Entered}
use Rattle.layout_law.proofs.Data.{same_or_not}
use Rattle.layout_law.proofs.Views.{ItemWord, at_item}
use Rattle.layout_law.proofs.Starts.{same_instr}
use Rattle.layout_law.proofs.Guards.{CheckStands, Keeps, guarded, guarded_later}

no_true : true ≡ false → ⊥
no_true e = cc

-- ---- pairs of registers

-- A register of the first stream and its shadow: their roles, and that they differ and are not 0.
pub record PairFits (m : ℕ) : Type 0 where
  pub first : Of master m
  pub second : Of shadow (shadow_of m)
  pub differ : (m == shadow_of m) ≡ false
  pub some : (m == 0) ≡ false
  pub shadow_some : (shadow_of m == 0) ≡ false

pub value_low : (r : ℕ) → is_value r ≡ true → (n : ℕ) × ((r ≡ 4 + n) × (n ≤ 9))
value_low r h = (r - 4, (sum r (lo r h), top r (hi r h)))
  where
    both : (x y : Bool) → (x && y) ≡ true → (x ≡ true) × (y ≡ true)
    both true y e = (refl, e)
    both false y e = absurd (no_true (sym e))

    le : (m n : ℕ) → nat_le m n ≡ true → m ≤ n
    le m n e = grind arith

    lo : (r : ℕ) → is_value r ≡ true → 4 ≤ r
    lo r e = le 4 r (both (nat_le 4 r) (nat_le r 13) e).0

    hi : (r : ℕ) → is_value r ≡ true → r ≤ 13
    hi r e = le r 13 (both (nat_le 4 r) (nat_le r 13) e).1

    sum : (r : ℕ) → 4 ≤ r → r ≡ 4 + (r - 4)
    sum r h = omega arith

    top : (r : ℕ) → r ≤ 13 → r - 4 ≤ 9
    top r h = omega arith

pair_by : (n : ℕ) → n ≤ 9 → PairFits (4 + n)
pair_by zero h = record { first = refl; second = refl; differ = refl; some = refl; shadow_some = refl }
pair_by (suc zero) h = record { first = refl; second = refl; differ = refl; some = refl; shadow_some = refl }
pair_by (suc (suc zero)) h = record { first = refl; second = refl; differ = refl; some = refl; shadow_some = refl }
pair_by (suc (suc (suc zero))) h = record { first = refl; second = refl; differ = refl; some = refl; shadow_some = refl }
pair_by (suc (suc (suc (suc zero)))) h = record { first = refl; second = refl; differ = refl; some = refl; shadow_some = refl }
pair_by (suc (suc (suc (suc (suc zero))))) h = record { first = refl; second = refl; differ = refl; some = refl; shadow_some = refl }
pair_by (suc (suc (suc (suc (suc (suc zero)))))) h = record { first = refl; second = refl; differ = refl; some = refl; shadow_some = refl }
pair_by (suc (suc (suc (suc (suc (suc (suc zero))))))) h = record { first = refl; second = refl; differ = refl; some = refl; shadow_some = refl }
pair_by (suc (suc (suc (suc (suc (suc (suc (suc zero)))))))) h = record { first = refl; second = refl; differ = refl; some = refl; shadow_some = refl }
pair_by (suc (suc (suc (suc (suc (suc (suc (suc (suc zero))))))))) h = record { first = refl; second = refl; differ = refl; some = refl; shadow_some = refl }
pair_by (suc (suc (suc (suc (suc (suc (suc (suc (suc (suc n)))))))))) h = absurd (no n h)
  where
    no : (n : ℕ) → suc (suc (suc (suc (suc (suc (suc (suc (suc (suc n))))))))) ≤ 9 → ⊥
    no n h = omega arith

pub value_pair : (r : ℕ) → is_value r ≡ true → PairFits r
value_pair r h = let q : (n : ℕ) × ((r ≡ 4 + n) × (n ≤ 9)) = value_low r h in subst PairFits (sym q.1.0) (pair_by q.0 q.1.1)

pub stack_pair : PairFits 29
stack_pair = record { first = refl; second = refl; differ = refl; some = refl; shadow_some = refl }

pub link_pair : PairFits 31
link_pair = record { first = refl; second = refl; differ = refl; some = refl; shadow_some = refl }

apart : (m n : ℕ) → (m == n) ≡ false → m ≢ n
apart m n e = grind arith

-- A register of a pair is not register 2.
not_two : (r : ℕ) (X : Role) → Of X r → (r ≡ 2) → ⊥
not_two r X h e = no (sym (ap role_of e) ∙ h)
  where
    no : {Y : Role} → None ≡ Some Y → ⊥
    no q = cc

-- ---- what is not critical

abbrev pub is_use : Instr → Bool
is_use (Sw rt rs imm) = true
is_use (Beq rs rt imm) = true
is_use (Bne rs rt imm) = true
is_use (Jr rs) = true
is_use Syscall = true
is_use i = false

filled_use : (p : HardProgram) (b at : ℕ) (f : Fix) (x : Instr) → is_use (filled p b at f x) ≡ is_use x
filled_use p b at Plain x = refl
filled_use p b at (Block t) (J tg) = refl
filled_use p b at (Block t) (Beq rs rt imm) = refl
filled_use p b at (Block t) (Bne rs rt imm) = refl
filled_use p b at (Block t) x = refl
filled_use p b at (Function f) (Jal tg) = refl
filled_use p b at (Function f) x = refl
filled_use p b at ReturnHigh (Lui rt imm) = refl
filled_use p b at ReturnHigh x = refl
filled_use p b at ReturnLow (Ori rt rs imm) = refl
filled_use p b at ReturnLow x = refl

pub critical_use : (t : List ℕ) (a r : ℕ) → Critical t a r → (i : Instr) × (At t a i × (is_use i ≡ true))
critical_use t a r (base rt imm h) = (Sw rt r imm, (h, refl))
critical_use t a r (operand x y imm h n o) = (h.instr, (h.at, elim h.is as (λ z. is_use h.instr ≡ true) [ inl e ↦ ap is_use e | inr e ↦ ap is_use e ]))
critical_use t a r (target h) = (Jr r, (h, refl))
critical_use t a r (argument h e) = (Syscall, (h, refl))

-- An item that is no use.
pub no_use : (p : HardProgram) (l : Layable p) (a : ℕ) (w : ItemWord p a) → is_use w.item.instr ≡ false → IsChecked (text p) 0x00400000 a
no_use p l a w h r q =
    let c : (i : Instr) × (At (text p) a i × (is_use i ≡ true)) = critical_use (text p) a r q in
    absurd (no_true (sym c.1.1 ∙ (ap is_use (same_instr (text p) a c.0 (filled p w.block a w.item.fix w.item.instr) c.1.0 (at_item p l a w)) ∙ (filled_use p w.block a w.item.fix w.item.instr ∙ h))))

-- A branch over a report is none.
pub no_use_skip : (p : HardProgram) (l : Layable p) (a x y : ℕ) (w : ItemWord p a) → At (text p) a (Beq x y 2) → SkipsReport (text p) a → IsChecked (text p) 0x00400000 a
no_use_skip p l a x y w h s r (base rt imm q) = absurd (no (same_instr (text p) a (Beq x y 2) (Sw rt r imm) h q))
  where
    no : Beq x y 2 ≡ Sw rt r imm → ⊥
    no e = cc
no_use_skip p l a x y w h s r (operand u v imm q n o) = absurd (n s)
no_use_skip p l a x y w h s r (target q) = absurd (no (same_instr (text p) a (Beq x y 2) (Jr r) h q))
  where
    no : Beq x y 2 ≡ Jr r → ⊥
    no e = cc
no_use_skip p l a x y w h s r (argument q e) = absurd (no (same_instr (text p) a (Beq x y 2) Syscall h q))
  where
    no : Beq x y 2 ≡ Syscall → ⊥
    no e = cc

-- ---- the critical registers of each use

pub sw_register : (t : List ℕ) (a rt rs imm r : ℕ) → At t a (Sw rt rs imm) → Critical t a r → r ≡ rs
sw_register t a rt rs imm r h (base ru imu q) = inj (same_instr t a (Sw ru r imu) (Sw rt rs imm) q h)
  where
    inj : Sw ru r imu ≡ Sw rt rs imm → r ≡ rs
    inj e = cc
sw_register t a rt rs imm r h (operand x y imu q n o) = absurd (elim q.is as (λ z. ⊥) [ inl e ↦ no (sym (same_instr t a q.instr (Sw rt rs imm) q.at h) ∙ e) | inr e ↦ nay (sym (same_instr t a q.instr (Sw rt rs imm) q.at h) ∙ e) ])
  where
    no : Sw rt rs imm ≡ Beq x y imu → ⊥
    no e = cc

    nay : Sw rt rs imm ≡ Bne x y imu → ⊥
    nay e = cc
sw_register t a rt rs imm r h (target q) = absurd (no (same_instr t a (Jr r) (Sw rt rs imm) q h))
  where
    no : Jr r ≡ Sw rt rs imm → ⊥
    no e = cc
sw_register t a rt rs imm r h (argument q e) = absurd (no (same_instr t a Syscall (Sw rt rs imm) q h))
  where
    no : Syscall ≡ Sw rt rs imm → ⊥
    no e = cc

pub jr_register : (t : List ℕ) (a rs r : ℕ) → At t a (Jr rs) → Critical t a r → r ≡ rs
jr_register t a rs r h (target q) = inj (same_instr t a (Jr r) (Jr rs) q h)
  where
    inj : Jr r ≡ Jr rs → r ≡ rs
    inj e = cc
jr_register t a rs r h (base ru imu q) = absurd (no (same_instr t a (Sw ru r imu) (Jr rs) q h))
  where
    no : Sw ru r imu ≡ Jr rs → ⊥
    no e = cc
jr_register t a rs r h (operand x y imu q n o) = absurd (elim q.is as (λ z. ⊥) [ inl e ↦ no (sym (same_instr t a q.instr (Jr rs) q.at h) ∙ e) | inr e ↦ nay (sym (same_instr t a q.instr (Jr rs) q.at h) ∙ e) ])
  where
    no : Jr rs ≡ Beq x y imu → ⊥
    no e = cc

    nay : Jr rs ≡ Bne x y imu → ⊥
    nay e = cc
jr_register t a rs r h (argument q e) = absurd (no (same_instr t a Syscall (Jr rs) q h))
  where
    no : Syscall ≡ Jr rs → ⊥
    no e = cc

pub service_register : (t : List ℕ) (a r : ℕ) → At t a Syscall → Critical t a r → r ≡ 4
service_register t a r h (argument q e) = e
service_register t a r h (base ru imu q) = absurd (no (same_instr t a (Sw ru r imu) Syscall q h))
  where
    no : Sw ru r imu ≡ Syscall → ⊥
    no e = cc
service_register t a r h (target q) = absurd (no (same_instr t a (Jr r) Syscall q h))
  where
    no : Jr r ≡ Syscall → ⊥
    no e = cc
service_register t a r h (operand x y imu q n o) = absurd (elim q.is as (λ z. ⊥) [ inl e ↦ no (sym (same_instr t a q.instr Syscall q.at h) ∙ e) | inr e ↦ nay (sym (same_instr t a q.instr Syscall q.at h) ∙ e) ])
  where
    no : Syscall ≡ Beq x y imu → ⊥
    no e = cc

    nay : Syscall ≡ Bne x y imu → ⊥
    nay e = cc

-- A branch of a register with 0.
pub branch_register : (t : List ℕ) (a m imm r : ℕ) (i : Instr) → At t a i → IsBranch i m 0 imm → Critical t a r → (r ≡ 0) ⊎ (r ≡ m)
branch_register t a m imm r i h b (operand x y imu q n o) = by q.instr (same_instr t a q.instr i q.at h) q.is b o
  where
    eq : (x y u v imu imm : ℕ) → Beq x y imu ≡ Beq u v imm → (x ≡ u) × (y ≡ v)
    eq x y u v imu imm e = (cc, cc)

    ne : (x y u v imu imm : ℕ) → Bne x y imu ≡ Bne u v imm → (x ≡ u) × (y ≡ v)
    ne x y u v imu imm e = (cc, cc)

    no : (x y u v imu imm : ℕ) → Beq x y imu ≡ Bne u v imm → ⊥
    no x y u v imu imm e = cc

    pick : (x ≡ m) × (y ≡ 0) → (r ≡ x) ⊎ (r ≡ y) → (r ≡ 0) ⊎ (r ≡ m)
    pick e (inl f) = inr (f ∙ e.0)
    pick e (inr f) = inl (f ∙ e.1)

    by : (j : Instr) → j ≡ i → IsBranch j x y imu → IsBranch i m 0 imm → (r ≡ x) ⊎ (r ≡ y) → (r ≡ 0) ⊎ (r ≡ m)
    by j e (inl f) (inl g) o = pick (eq x y m 0 imu imm (sym f ∙ (e ∙ g))) o
    by j e (inr f) (inr g) o = pick (ne x y m 0 imu imm (sym f ∙ (e ∙ g))) o
    by j e (inl f) (inr g) o = absurd (no x y m 0 imu imm (sym f ∙ (e ∙ g)))
    by j e (inr f) (inl g) o = absurd (no m 0 x y imm imu (sym g ∙ (sym e ∙ f)))
branch_register t a m imm r i h b (base ru imu q) = absurd (elim b as (λ z. ⊥) [ inl e ↦ no (same_instr t a (Sw ru r imu) i q h ∙ e) | inr e ↦ nay (same_instr t a (Sw ru r imu) i q h ∙ e) ])
  where
    no : Sw ru r imu ≡ Beq m 0 imm → ⊥
    no e = cc

    nay : Sw ru r imu ≡ Bne m 0 imm → ⊥
    nay e = cc
branch_register t a m imm r i h b (target q) = absurd (elim b as (λ z. ⊥) [ inl e ↦ no (same_instr t a (Jr r) i q h ∙ e) | inr e ↦ nay (same_instr t a (Jr r) i q h ∙ e) ])
  where
    no : Jr r ≡ Beq m 0 imm → ⊥
    no e = cc

    nay : Jr r ≡ Bne m 0 imm → ⊥
    nay e = cc
branch_register t a m imm r i h b (argument q e') = absurd (elim b as (λ z. ⊥) [ inl e ↦ no (same_instr t a Syscall i q h ∙ e) | inr e ↦ nay (same_instr t a Syscall i q h ∙ e) ])
  where
    no : Syscall ≡ Beq m 0 imm → ⊥
    no e = cc

    nay : Syscall ≡ Bne m 0 imm → ⊥
    nay e = cc

-- ---- a use right behind its check

-- The check of a register and its shadow stands right before an item; its slot is a nop, or the number of a service.
pub record Behind (p : HardProgram) (a m : ℕ) (w : ItemWord p a) : Type 0 where
  pub c : ℕ
  pub far : a ≡ c + 12
  pub check : CheckStands p c
  pub x : check.x ≡ m
  pub y : check.y ≡ shadow_of m
  pub user : check.user ≡ w.item
  pub more : check.more ≡ w.more
  pub keeps : (r : ℕ) → (r ≡ 2 → ⊥) → Keeps check.slot r

-- The slot's item: nop, or ori of register 2.
abbrev pub SlotFits : Item → Type 0
SlotFits i = (i.fix ≡ Plain) × ((i.instr ≡ nop) ⊎ ((n : ℕ) × (i.instr ≡ Ori 2 0 n)))

slot_keeps : (i : Item) → SlotFits i → (r : ℕ) → (r ≡ 2 → ⊥) → (r ≡ 0 → ⊥) → Keeps i r
slot_keeps i s r n z h = elim s.1 as (λ u. ⊥) [
  | inl e ↦ no (r == 0) (not_same r 0 z) (subst (λ (u : Instr). IsTrue (among r (writes_of u))) e h)
  | inr e ↦ no (r == 2) (not_same r 2 n) (subst (λ (u : Instr). IsTrue (among r (writes_of u))) e.1 h)
]
  where
    not_same : (r k : ℕ) → (r ≡ k → ⊥) → (r == k) ≡ false
    not_same r k f = elim (same_or_not r k) as (λ u. (r == k) ≡ false) [ inl u ↦ absurd (f u.0) | inr u ↦ u.1 ]

    no : (u : Bool) → u ≡ false → IsTrue (u || false) → ⊥
    no true e t = no_true e
    no false e t = no_true (sym t)

slot_stays : (i : Item) → SlotFits i → (is_jump i.instr ≡ false) × (is_break i.instr ≡ false)
slot_stays i s = elim s.1 as (λ u. (is_jump i.instr ≡ false) × (is_break i.instr ≡ false)) [
  | inl e ↦ (ap is_jump e, ap is_break e)
  | inr e ↦ (ap is_jump e.1, ap is_break e.1)
]

-- The check that stands before an item of a block.
pub check_before : (p : HardProgram) (a m : ℕ) (w : ItemWord p a) (front : List Item) (b s k : Item) → PairFits m → w.done ≡ front ++ b ∷ s ∷ k ∷ [] → b.instr ≡ Beq m (shadow_of m) 2 → b.fix ≡ Plain → SlotFits s → k.instr ≡ Break 1 → k.fix ≡ Plain → (c : ℕ) × ((a ≡ c + 12) × ((q : CheckStands p c) × ((q.x ≡ m) × ((q.y ≡ shadow_of m) × ((q.user ≡ w.item) × ((q.more ≡ w.more) × (q.slot ≡ s)))))))
check_before p a m w front b s k f e hb hf hs hk hkf = (
  address p w.block + 4 * length front,
  (
    w.at ∙ sum (address p w.block) (length front) (length w.done) (ap length e ∙ length-append front (b ∷ s ∷ k ∷ [])),
    (
      record {
        word = record { block = w.block; there = w.there; done = front; item = b; more = s ∷ k ∷ w.item ∷ w.more; split = w.split ∙ (ap (λ (z : List Item). z ++ w.item ∷ w.more) e ∙ append_assoc front (b ∷ s ∷ k ∷ []) (w.item ∷ w.more)); at = refl };
        x = m;
        y = shadow_of m;
        compares = hb;
        no_field = hf;
        slot = s;
        stop = k;
        user = w.item;
        more = w.more;
        split = refl;
        slot_stays = (slot_stays s hs).0;
        slot_plain = hs.0;
        slot_no_break = (slot_stays s hs).1;
        stop_plain = hkf;
        reports = hk;
        differ = apart m (shadow_of m) f.differ;
        x_some = apart m 0 f.some;
        y_some = apart (shadow_of m) 0 f.shadow_some;
        streams = inl (f.first, f.second);
      },
      (refl, (refl, (refl, (refl, refl)))),
    ),
  ),
)
  where
    sum : (a n d : ℕ) → d ≡ n + 3 → a + 4 * d ≡ a + 4 * n + 12
    sum a n d e = omega arith

-- Its registers are guarded at the item.
pub behind_guarded : (p : HardProgram) (l : Layable p) (n : Entered p) (a m r : ℕ) (w : ItemWord p a) (front : List Item) (b s k : Item) → PairFits m → w.done ≡ front ++ b ∷ s ∷ k ∷ [] → b.instr ≡ Beq m (shadow_of m) 2 → b.fix ≡ Plain → SlotFits s → k.instr ≡ Break 1 → k.fix ≡ Plain → (r ≡ m) ⊎ (r ≡ shadow_of m) → Critical (text p) a r → IsGuarded (text p) 0x00400000 a r
behind_guarded p l n a m r w front b s k f e hb hf hs hk hkf o q =
    let c : (c : ℕ) × ((a ≡ c + 12) × ((q : CheckStands p c) × ((q.x ≡ m) × ((q.y ≡ shadow_of m) × ((q.user ≡ w.item) × ((q.more ≡ w.more) × (q.slot ≡ s))))))) = check_before p a m w front b s k f e hb hf hs hk hkf in
    subst (λ (z : ℕ). IsGuarded (text p) 0x00400000 z r) (sym c.1.0)
    (guarded p l n c.0 c.1.1.0 r (elim o as (λ z. (r ≡ (c.1.1.0).x) ⊎ (r ≡ (c.1.1.0).y)) [ inl u ↦ inl (u ∙ sym c.1.1.1.0) | inr u ↦ inr (u ∙ sym c.1.1.1.1.0) ])
    (subst (λ (z : Item). Keeps z r) (sym c.1.1.1.1.1.1.1) (slot_keeps s hs r two zero)) (subst (λ (z : ℕ). Critical (text p) z r) c.1.0 q))
  where
    two : r ≡ 2 → ⊥
    two u = elim o as (λ z. ⊥) [ inl v ↦ not_two m master f.first (sym v ∙ u) | inr v ↦ not_two (shadow_of m) shadow f.second (sym v ∙ u) ]

    zero : r ≡ 0 → ⊥
    zero u = elim o as (λ z. ⊥) [ inl v ↦ apart m 0 f.some (sym v ∙ u) | inr v ↦ apart (shadow_of m) 0 f.shadow_some (sym v ∙ u) ]

-- And at the second word of a store.
pub later_guarded : (p : HardProgram) (l : Layable p) (n : Entered p) (a m r : ℕ) (w : ItemWord p a) (front : List Item) (b s k u : Item) → PairFits m → w.done ≡ front ++ b ∷ s ∷ k ∷ u ∷ [] → b.instr ≡ Beq m (shadow_of m) 2 → b.fix ≡ Plain → SlotFits s → k.instr ≡ Break 1 → k.fix ≡ Plain → u.fix ≡ Plain → is_jump u.instr ≡ false → is_break u.instr ≡ false → ((r : ℕ) → Keeps u r) → (r ≡ m) ⊎ (r ≡ shadow_of m) → Critical (text p) a r → IsGuarded (text p) 0x00400000 a r
later_guarded p l n a m r w front b s k u f e hb hf hs hk hkf hu nj nb ku o q =
    let at : ℕ = address p w.block + 4 * length (front ++ b ∷ s ∷ k ∷ []) in
    let v : ItemWord p at = record { block = w.block; there = w.there; done = front ++ b ∷ s ∷ k ∷ []; item = u; more = w.item ∷ w.more; split = w.split ∙ (ap (λ (z : List Item). z ++ w.item ∷ w.more) e ∙ cut front b s k u w.item w.more); at = refl } in
    let c : (c : ℕ) × ((at ≡ c + 12) × ((q : CheckStands p c) × ((q.x ≡ m) × ((q.y ≡ shadow_of m) × ((q.user ≡ u) × ((q.more ≡ w.item ∷ w.more) × (q.slot ≡ s))))))) = check_before p at m v front b s k f refl hb hf hs hk hkf in
    let d : a ≡ c.0 + 16 = w.at ∙ (sum (address p w.block) (length (front ++ b ∷ s ∷ k ∷ [])) (length w.done) (ap length e ∙ lens front b s k u) ∙ (ap (λ (z : ℕ). z + 4) c.1.0 ∙ sixteen c.0)) in
    subst (λ (z : ℕ). IsGuarded (text p) 0x00400000 z r) (sym d)
    (guarded_later p l n c.0 c.1.1.0 w.item w.more r c.1.1.1.1.1.1.0 (elim o as (λ z. (r ≡ (c.1.1.0).x) ⊎ (r ≡ (c.1.1.0).y)) [ inl y ↦ inl (y ∙ sym c.1.1.1.0) | inr y ↦ inr (y ∙ sym c.1.1.1.1.0) ])
    (subst (λ (z : Item). Keeps z r) (sym c.1.1.1.1.1.1.1) (slot_keeps s hs r two zero))
    (subst (λ (z : Item). Keeps z r) (sym c.1.1.1.1.1.0) (ku r)) (subst (λ (z : Item). is_jump z.instr ≡ false) (sym c.1.1.1.1.1.0) nj) (subst (λ (z : Item). is_break z.instr ≡ false) (sym c.1.1.1.1.1.0) nb) (subst (λ (z : Item). z.fix ≡ Plain) (sym c.1.1.1.1.1.0) hu)
    (subst (λ (z : ℕ). Critical (text p) z r) d q))
  where
    cut : (front : List Item) (b s k u i : Item) (more : List Item) → (front ++ b ∷ s ∷ k ∷ u ∷ []) ++ i ∷ more ≡ (front ++ b ∷ s ∷ k ∷ []) ++ u ∷ i ∷ more
    cut front b s k u i more = append_assoc front (b ∷ s ∷ k ∷ u ∷ []) (i ∷ more) ∙ sym (append_assoc front (b ∷ s ∷ k ∷ []) (u ∷ i ∷ more))

    lens : (front : List Item) (b s k u : Item) → length (front ++ b ∷ s ∷ k ∷ u ∷ []) ≡ length (front ++ b ∷ s ∷ k ∷ []) + 1
    lens front b s k u = length-append front (b ∷ s ∷ k ∷ u ∷ []) ∙ (one (length front) ∙ ap (λ (z : ℕ). z + 1) (sym (length-append front (b ∷ s ∷ k ∷ []))))
      where
        one : (n : ℕ) → n + 4 ≡ n + 3 + 1
        one n = omega arith

    sum : (a n d : ℕ) → d ≡ n + 1 → a + 4 * d ≡ a + 4 * n + 4
    sum a n d e = omega arith

    sixteen : (c : ℕ) → c + 12 + 4 ≡ c + 16
    sixteen c = omega arith

    two : r ≡ 2 → ⊥
    two u = elim o as (λ z. ⊥) [ inl v ↦ not_two m master f.first (sym v ∙ u) | inr v ↦ not_two (shadow_of m) shadow f.second (sym v ∙ u) ]

    zero : r ≡ 0 → ⊥
    zero u = elim o as (λ z. ⊥) [ inl v ↦ apart m 0 f.some (sym v ∙ u) | inr v ↦ apart (shadow_of m) 0 f.shadow_some (sym v ∙ u) ]
