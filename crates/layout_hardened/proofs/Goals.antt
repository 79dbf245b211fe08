-- Where the branches and jumps of a program that is laid out lead: to the places of blocks.
use Rattle.std.proofs.Common.{◌≡◌, ◌≢◌, ◌≤◌, ℕ, zero, suc, ◌+◌, ◌-◌, ◌*◌, ◌/◌, ◌%◌, ◌^◌, ◌<◌, arith, rules, ap, refl, sym, ◌∙◌, subst, List, [], ◌∷◌, ◌++◌, length, false, true, Bool, inl, inr}
use Rattle.std.specs.Prelude.{Option, Some, None, ◌⊎◌, slice_get, slice_index, All}
use Rattle.std.proofs.lemmas.List.Elements.{All-contains}
use Rattle.std.proofs.lemmas.Option.{slice_get-get_or, slice_get_within, get_or_from_slice_get}
use Rattle.mips_isa.specs.declared.instr.Instr.{Instr}
use Rattle.mips_isa.specs.declared.instr.Instr.TheVariants.{J, Jal, Jr, Beq, Bne, Lui, Ori}
use Rattle.mips_isa.specs.Machine.{is_jump}
use Rattle.mips_text.specs.Text.{InText, At, BranchAt, IsBranch, SkipsBreak as TextSkips, branch_goal, jump_goal}
use Rattle.mips_text.specs.Blocks.{ForkAt}
use Rattle.hard_items.specs.declared.code.Fix.{Fix}
use Rattle.hard_items.specs.declared.code.Fix.TheVariants.{Plain, Block, Function, ReturnHigh, ReturnLow}
use Rattle.hard_items.specs.declared.code.Item.{Item}
use Rattle.hard_items.specs.declared.code.HardProgram.{HardProgram}
use Rattle.hard_items.specs.declared.code.Signed.{Signed}
use Rattle.hard_items.specs.Run.{items_of}
use Rattle.hard_items.specs.Ways.{Holds, CallsFunction, MayFollow, jumped, branched_eq, branched_ne, fallen_eq, fallen_ne, called, returned}
use Rattle.hard_items.specs.WellFormed.{WellFormed, ItemAt, SkipsBreak, NamesThere, FieldFits}
use Rattle.signature_assign.specs.Headed.{BlocksFit}
use Rattle.layout_hardened.specs.LaidOut.{IsFilled, as_is, jump, branch_eq, branch_ne, call, high, low, Stands, IsLaidOut}
use Rattle.layout_hardened.proofs.Origin

-- a conditional branch
abbrev pub IsCond : Instr → Type 0
IsCond x = (rs : ℕ) × ((rt : ℕ) × ((z : ℕ) × IsBranch x rs rt z))

pub cond_jumps : (x : Instr) (rs rt z : ℕ) → IsBranch x rs rt z → is_jump x ≡ true
cond_jumps x rs rt z (inl e) = rw e refl
cond_jumps x rs rt z (inr e) = rw e refl

pub not_j : (x : Instr) (rs rt z target : ℕ) → IsBranch x rs rt z → x ≡ J target → ⊥
not_j x rs rt z target (inl e) f = cc
not_j x rs rt z target (inr e) f = cc

pub not_jal : (x : Instr) (rs rt z target : ℕ) → IsBranch x rs rt z → x ≡ Jal target → ⊥
not_jal x rs rt z target (inl e) f = cc
not_jal x rs rt z target (inr e) f = cc

not_jr : (x : Instr) (rs rt z r : ℕ) → IsBranch x rs rt z → x ≡ Jr r → ⊥
not_jr x rs rt z r (inl e) f = cc
not_jr x rs rt z r (inr e) f = cc

same_eq : (x : Instr) (rs rt z rs' rt' z' : ℕ) → IsBranch x rs rt z → x ≡ Beq rs' rt' z' → z ≡ z'
same_eq x rs rt z rs' rt' z' (inl e) f = cc
same_eq x rs rt z rs' rt' z' (inr e) f = absurd (cc)

same_ne : (x : Instr) (rs rt z rs' rt' z' : ℕ) → IsBranch x rs rt z → x ≡ Bne rs' rt' z' → z ≡ z'
same_ne x rs rt z rs' rt' z' (inl e) f = absurd (cc)
same_ne x rs rt z rs' rt' z' (inr e) f = cc

no_lui : (x : Instr) (rs rt z d n : ℕ) → IsBranch x rs rt z → x ≡ Lui d n → ⊥
no_lui x rs rt z d n (inl e) f = cc
no_lui x rs rt z d n (inr e) f = cc

no_ori : (x : Instr) (rs rt z d r n : ℕ) → IsBranch x rs rt z → x ≡ Ori d r n → ⊥
no_ori x rs rt z d r n (inl e) f = cc
no_ori x rs rt z d r n (inr e) f = cc

module _ (s : Signed) (text : List ℕ) (place : ℕ → ℕ) (l : IsLaidOut s text place) (one_each : length s.marks ≡ length s.program.blocks) (f : WellFormed s.program) (fit : BlocksFit s.program) where
  abbrev p : HardProgram
  p = s.program

  -- A branch or a jump that closes a block, and leads to a block.
  pub record BlockGoal (a goal : ℕ) : Type 0 where
    pub b : ℕ
    pub j : ℕ
    pub t : ℕ
    pub item : Item
    pub there : b < length p.blocks
    pub stands : ItemAt (items_of p b) j item
    pub at : a ≡ place b + 28 + 4 * j
    pub last : j + 2 ≡ length (items_of p b)
    pub names : item.fix ≡ Block t
    pub goes : goal ≡ place t

  pub record JumpGoal (a goal : ℕ) : Type 0 where
    pub to : BlockGoal a goal
    pub z : ℕ
    pub is : to.item.instr ≡ J z

  pub record ForkGoal (a goal : ℕ) : Type 0 where
    pub to : BlockGoal a goal
    pub is : IsCond to.item.instr

  -- A call that closes a block, and leads to a function.
  pub record CallGoal (a goal : ℕ) : Type 0 where
    pub b : ℕ
    pub j : ℕ
    pub g : ℕ
    pub z : ℕ
    pub item : Item
    pub there : b < length p.blocks
    pub stands : ItemAt (items_of p b) j item
    pub at : a ≡ place b + 28 + 4 * j
    pub last : j + 2 ≡ length (items_of p b)
    pub names : item.fix ≡ Function g
    pub is : item.instr ≡ Jal z
    pub goes : goal ≡ place (slice_index p.entries g)

  -- A return of a block.
  pub record ReturnOf (a rs : ℕ) : Type 0 where
    pub b : ℕ
    pub j : ℕ
    pub item : Item
    pub there : b < length p.blocks
    pub stands : ItemAt (items_of p b) j item
    pub at : a ≡ place b + 28 + 4 * j
    pub is : item.instr ≡ Jr rs

  abbrev SpotOf : ℕ → Instr → Type 0
  SpotOf a x = Origin.Spot s text place l one_each f fit a x

  skip_cond : (a : ℕ) (x : Instr) (o : SpotOf a x) (k : SkipsBreak (items_of p o.b) o.j) → (x ≡ o.item.instr) × IsBranch x k.rs k.rt 2
  skip_cond a x o k =
      let same : k.branch ≡ o.item = Origin.same_item s text place l one_each f fit o.b o.j k.branch o.item k.stands o.stands in
      let is : x ≡ o.item.instr = Origin.filled_plain p place o.b a o.item x o.filled (ap (λ (y : Item). y.fix) (sym same) ∙ k.no_field) in
      (is, elim k.conditional as (λ z. IsBranch x k.rs k.rt 2) [ inl e ↦ inl (is ∙ (ap (λ (y : Item). y.instr) (sym same) ∙ e)) | inr e ↦ inr (is ∙ (ap (λ (y : Item). y.instr) (sym same) ∙ e)) ])

  fits : (a : ℕ) (x : Instr) (o : SpotOf a x) → FieldFits o.item.fix o.item.instr
  fits a x o = Origin.fields_fit s text place l one_each f fit o.b o.j o.item o.stands

  pub j_of : (a target : ℕ) → At text a (J target) → JumpGoal a (jump_goal a target)
  j_of a target at = by_jump (Origin.jump_at s text place l one_each f fit a (J target) at refl)
    where
      by_fill : (o : SpotOf a (J target)) → o.j + 2 ≡ length (items_of p o.b) → IsFilled p place o.b a o.item (J target) → JumpGoal a (jump_goal a target)
      by_fill o g (as_is e r) = absurd (subst (λ (y : Fix). FieldFits y (J target)) e (subst (λ (y : Instr). FieldFits o.item.fix y) (sym r) (fits a (J target) o)))
      by_fill o g (jump t z u e r h k) = record { to = record { b = o.b; j = o.j; t = t; item = o.item; there = o.there; stands = o.stands; at = o.at; last = g; names = e; goes = ap (λ (y : ℕ). jump_goal a y) (same_target h) ∙ k }; z = z; is = r }
        where
          same_target : J target ≡ J u → target ≡ u
          same_target h = cc
      by_fill o g (branch_eq t rs rt z imm e r h k) = absurd (cc)
      by_fill o g (branch_ne t rs rt z imm e r h k) = absurd (cc)
      by_fill o g (call t z u e r h k) = absurd (cc)
      by_fill o g (high rt z e r h) = absurd (cc)
      by_fill o g (low rt rs z e r h) = absurd (cc)

      by_jump : Origin.JumpAt s text place l one_each f fit a (J target) → JumpGoal a (jump_goal a target)
      by_jump (Origin.own b h e g) = absurd (cc)
      by_jump (Origin.inner o k) = absurd (not_j (J target) k.rs k.rt 2 target (skip_cond a (J target) o k).1 refl)
      by_jump (Origin.closing o g) = by_fill o g o.filled

  pub call_of : (a target : ℕ) → At text a (Jal target) → CallGoal a (jump_goal a target)
  call_of a target at = by_jump (Origin.jump_at s text place l one_each f fit a (Jal target) at refl)
    where
      by_fill : (o : SpotOf a (Jal target)) → o.j + 2 ≡ length (items_of p o.b) → IsFilled p place o.b a o.item (Jal target) → CallGoal a (jump_goal a target)
      by_fill o g (as_is e r) = absurd (subst (λ (y : Fix). FieldFits y (Jal target)) e (subst (λ (y : Instr). FieldFits o.item.fix y) (sym r) (fits a (Jal target) o)))
      by_fill o g (jump t z u e r h k) = absurd (cc)
      by_fill o g (branch_eq t rs rt z imm e r h k) = absurd (cc)
      by_fill o g (branch_ne t rs rt z imm e r h k) = absurd (cc)
      by_fill o g (call t z u e r h k) = record { b = o.b; j = o.j; g = t; z = z; item = o.item; there = o.there; stands = o.stands; at = o.at; last = g; names = e; is = r; goes = ap (λ (y : ℕ). jump_goal a y) (same_target h) ∙ k }
        where
          same_target : Jal target ≡ Jal u → target ≡ u
          same_target h = cc
      by_fill o g (high rt z e r h) = absurd (cc)
      by_fill o g (low rt rs z e r h) = absurd (cc)

      by_jump : Origin.JumpAt s text place l one_each f fit a (Jal target) → CallGoal a (jump_goal a target)
      by_jump (Origin.own b h e g) = absurd (cc)
      by_jump (Origin.inner o k) = absurd (not_jal (Jal target) k.rs k.rt 2 target (skip_cond a (Jal target) o k).1 refl)
      by_jump (Origin.closing o g) = by_fill o g o.filled

  pub return_of : (a rs : ℕ) → At text a (Jr rs) → ReturnOf a rs
  return_of a rs at = by_jump (Origin.jump_at s text place l one_each f fit a (Jr rs) at refl)
    where
      by_fill : (o : SpotOf a (Jr rs)) → IsFilled p place o.b a o.item (Jr rs) → ReturnOf a rs
      by_fill o (as_is e r) = record { b = o.b; j = o.j; item = o.item; there = o.there; stands = o.stands; at = o.at; is = sym r }
      by_fill o (jump t z u e r h k) = absurd (cc)
      by_fill o (branch_eq t ra rt z imm e r h k) = absurd (cc)
      by_fill o (branch_ne t ra rt z imm e r h k) = absurd (cc)
      by_fill o (call t z u e r h k) = absurd (cc)
      by_fill o (high rt z e r h) = absurd (cc)
      by_fill o (low rt ra z e r h) = absurd (cc)

      by_jump : Origin.JumpAt s text place l one_each f fit a (Jr rs) → ReturnOf a rs
      by_jump (Origin.own b h e g) = absurd (cc)
      by_jump (Origin.inner o k) = absurd (not_jr (Jr rs) k.rs k.rt 2 rs (skip_cond a (Jr rs) o k).1 refl)
      by_jump (Origin.closing o g) = by_fill o o.filled

  pub fork_of : (a imm : ℕ) → ForkAt text a imm → ForkGoal a (branch_goal a imm)
  fork_of a imm k = by_jump (Origin.jump_at s text place l one_each f fit a k.branch.instr k.branch.at (cond_jumps k.branch.instr k.x k.y imm k.branch.is))
    where
      x : Instr
      x = k.branch.instr

      named_plain : (t : ℕ) → Block t ≡ Plain → ⊥
      named_plain t e = cc

      by_fill : (o : SpotOf a x) → o.j + 2 ≡ length (items_of p o.b) → IsFilled p place o.b a o.item x → ForkGoal a (branch_goal a imm)
      by_fill o g (as_is e r) =
          let t : (t : ℕ) × (o.item.fix ≡ Block t) = fit.last_names o.b o.j k.x k.y imm o.item o.stands (subst (λ (y : Instr). IsBranch y k.x k.y imm) r k.branch.is) g in
          absurd (named_plain t.0 (sym t.1 ∙ e))
      by_fill o g (jump t z u e r h q) = absurd (not_j x k.x k.y imm u k.branch.is h)
      by_fill o g (branch_eq t rs rt z m e r h q) = record { to = record { b = o.b; j = o.j; t = t; item = o.item; there = o.there; stands = o.stands; at = o.at; last = g; names = e; goes = ap (λ (y : ℕ). branch_goal a y) (same_eq x k.x k.y imm rs rt m k.branch.is h) ∙ q }; is = (rs, (rt, (z, inl r))) }
      by_fill o g (branch_ne t rs rt z m e r h q) = record { to = record { b = o.b; j = o.j; t = t; item = o.item; there = o.there; stands = o.stands; at = o.at; last = g; names = e; goes = ap (λ (y : ℕ). branch_goal a y) (same_ne x k.x k.y imm rs rt m k.branch.is h) ∙ q }; is = (rs, (rt, (z, inr r))) }
      by_fill o g (call t z u e r h q) = absurd (not_jal x k.x k.y imm u k.branch.is h)
      by_fill o g (high rt z e r h) = absurd (no_lui x k.x k.y imm rt (place (o.b + 1) / 2 ^ 16) k.branch.is h)
      by_fill o g (low rt rs z e r h) = absurd (no_ori x k.x k.y imm rt rs (place (o.b + 1) % 2 ^ 16) k.branch.is h)

      by_jump : Origin.JumpAt s text place l one_each f fit a x → ForkGoal a (branch_goal a imm)
      by_jump (Origin.own b h e g) = absurd (k.skips_none 2 (Origin.own_skips s text place l one_each f fit a b h e))
      by_jump (Origin.inner o q) = absurd (k.skips_none q.code (Origin.inner_skips s text place l one_each f fit a x k.branch.at o q))
      by_jump (Origin.closing o g) = by_fill o g o.filled
