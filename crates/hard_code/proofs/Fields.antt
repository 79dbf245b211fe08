-- What the tests of the items of a block decide.
use Rattle.std.proofs.Common.{◌≡◌, ℕ, ◌+◌, ◌-◌, ◌<◌, ◌≤◌, Bool, true, false, not, List, length, Option, Some, None, refl, sym, ap, ◌∙◌, arith, inl, inr, eqb-true, eq-eqb}
use Rattle.std.specs.Prelude.{◌⊎◌, ◌==◌, ◌&&◌, ◌||◌, nat_le, nat_lt, slice_get}
use Rattle.std.specs.Bool.{Decides}
use Rattle.std.proofs.lemmas.Bool.{cases_Bool, and_parts, and_from, or_cases, or_left, or_right, both_ways, not-true, not_from_false, false_from_ne_true, ltb-true, lt-ltb, leb-true, le-leb, cond-true, cond-false}
use Rattle.std.proofs.lemmas.Bool.Decides.{Decides-eqb, Decides-ltb}
use Rattle.std.proofs.lemmas.Option.{slice_get_within}
use Rattle.mips_isa.specs.declared.instr.Instr.{Instr}
use Rattle.mips_isa.specs.declared.instr.Instr.TheVariants.{Sll, Break, Beq, Bne, J, Jal, Lui, Ori}
use Rattle.mips_isa.specs.Machine.{is_jump}
use Rattle.hard_items.specs.declared.code.Fix.{Fix}
use Rattle.hard_items.specs.declared.code.Fix.TheVariants.{Plain, Block, Function, ReturnHigh, ReturnLow}
use Rattle.hard_items.specs.declared.code.Item.{Item}
use Rattle.hard_items.specs.declared.code.HardProgram.{HardProgram}
use Rattle.hard_items.specs.Streams.{nop}
use Rattle.hard_items.specs.Counts.{is_break}
use Rattle.hard_items.specs.WellFormed.{ItemAt, SkipsBreak, FieldFits, NamesThere, EndsWell}
use Rattle.hard_code.specs.Tested.{field_fits, names_there, is_plain, is_branch, is_skip, breaks, skips_break, may_stand, stands, place_fits, is_nop, closes, ends_well}
use Rattle.hard_code.proofs.Lists.{same_some, got}

no_true : false ≡ true → ⊥
no_true e = cc

-- ---- fields

pub field_decides : (f : Fix) (i : Instr) → Decides (field_fits f i) (FieldFits f i)
field_decides Plain (J target) = (λ e. absurd (no_true e), λ h. absurd h)
field_decides Plain (Jal target) = (λ e. absurd (no_true e), λ h. absurd h)
field_decides Plain i = (λ e. tt, λ h. refl)
field_decides (Block t) (J target) = Decides-eqb target 0
field_decides (Block t) (Beq rs rt imm) = Decides-eqb imm 0
field_decides (Block t) (Bne rs rt imm) = Decides-eqb imm 0
field_decides (Block t) i = (λ e. absurd (no_true e), λ h. absurd h)
field_decides (Function f) (Jal target) = Decides-eqb target 0
field_decides (Function f) i = (λ e. absurd (no_true e), λ h. absurd h)
field_decides ReturnHigh (Lui rt imm) = Decides-eqb imm 0
field_decides ReturnHigh i = (λ e. absurd (no_true e), λ h. absurd h)
field_decides ReturnLow (Ori rt rs imm) = Decides-eqb imm 0
field_decides ReturnLow i = (λ e. absurd (no_true e), λ h. absurd h)

pub names_decide : (p : HardProgram) (f : Fix) → Decides (names_there (length p.blocks) (length p.entries) f) (NamesThere p f)
names_decide p Plain = (λ e. tt, λ h. refl)
names_decide p (Block t) = Decides-ltb t (length p.blocks)
names_decide p (Function f) = Decides-ltb f (length p.entries)
names_decide p ReturnHigh = (λ e. tt, λ h. refl)
names_decide p ReturnLow = (λ e. tt, λ h. refl)

-- ---- what an instruction is

plain_is : (f : Fix) → is_plain f ≡ true → f ≡ Plain
plain_is Plain h = refl
plain_is (Block t) h = absurd (no_true h)
plain_is (Function f) h = absurd (no_true h)
plain_is ReturnHigh h = absurd (no_true h)
plain_is ReturnLow h = absurd (no_true h)

abbrev pub Branches : Instr → ℕ → Type 0
Branches x imm = (rs rt : ℕ) × ((x ≡ Beq rs rt imm) ⊎ (x ≡ Bne rs rt imm))

skip_is : (x : Instr) → is_skip x ≡ true → Branches x 2
skip_is (Beq rs rt imm) h = (rs, rt, inl (ap (λ (n : ℕ). Beq rs rt n) (eqb-true imm 2 h)))
skip_is (Bne rs rt imm) h = (rs, rt, inr (ap (λ (n : ℕ). Bne rs rt n) (eqb-true imm 2 h)))
skip_is x h = absurd (no_true h)

branch_is : (x : Instr) → is_branch x ≡ true → (rs rt imm : ℕ) × ((x ≡ Beq rs rt imm) ⊎ (x ≡ Bne rs rt imm))
branch_is (Beq rs rt imm) h = (rs, rt, imm, inl refl)
branch_is (Bne rs rt imm) h = (rs, rt, imm, inr refl)
branch_is x h = absurd (no_true h)

is_a_skip : (x : Instr) (rs rt : ℕ) → (x ≡ Beq rs rt 2) ⊎ (x ≡ Bne rs rt 2) → is_skip x ≡ true
is_a_skip x rs rt (inl e) = ap is_skip e
is_a_skip x rs rt (inr e) = ap is_skip e

is_a_branch : (x : Instr) (rs rt imm : ℕ) → (x ≡ Beq rs rt imm) ⊎ (x ≡ Bne rs rt imm) → is_branch x ≡ true
is_a_branch x rs rt imm (inl e) = ap is_branch e
is_a_branch x rs rt imm (inr e) = ap is_branch e

pub branch_jumps : (x : Instr) (rs rt imm : ℕ) → (x ≡ Beq rs rt imm) ⊎ (x ≡ Bne rs rt imm) → is_jump x ≡ true
branch_jumps x rs rt imm (inl e) = ap is_jump e
branch_jumps x rs rt imm (inr e) = ap is_jump e

break_is : (x : Instr) → is_break x ≡ true → (code : ℕ) × (x ≡ Break code)
break_is (Break code) h = (code, refl)
break_is x h = absurd (no_true h)

nop_is : (x : Instr) → is_nop x ≡ true → x ≡ nop
nop_is (Sll rd rt sh) h =
    let a = and_parts (rd == 0) (rt == 0 && sh == 0) h in
    let b = and_parts (rt == 0) (sh == 0) a.1 in
    ap (λ (n : ℕ). Sll n rt sh) (eqb-true rd 0 a.0) ∙ (ap (λ (n : ℕ). Sll 0 n sh) (eqb-true rt 0 b.0) ∙ ap (λ (n : ℕ). Sll 0 0 n) (eqb-true sh 0 b.1))
nop_is x h = absurd (no_true h)

breaks_is : (o : Option Item) → breaks o ≡ true → (j : Item) × (o ≡ Some j) × (is_break j.instr ≡ true)
breaks_is None h = absurd (no_true h)
breaks_is (Some j) h = (j, refl, h)

-- ---- skips

pub skips_decide : (items : List Item) (k : ℕ) (i : Item) → slice_get items k ≡ Some i → Decides (skips_break i (slice_get items (k + 2))) (SkipsBreak items k)
skips_decide items k i is = (to, from)
  where
    to : skips_break i (slice_get items (k + 2)) ≡ true → SkipsBreak items k
    to t =
        let a = and_parts (is_plain i.fix) (is_skip i.instr && breaks (slice_get items (k + 2))) t in
        let b = and_parts (is_skip i.instr) (breaks (slice_get items (k + 2))) a.1 in
        let s = skip_is i.instr b.0 in
        let j = breaks_is (slice_get items (k + 2)) b.1 in
        let c = break_is j.0.instr j.2 in
        record { branch = i; stands = is; rs = s.0; rt = s.1; conditional = s.2; no_field = plain_is i.fix a.0; skipped = j.0; behind = j.1; code = c.0; is_break = c.1 }

    from : SkipsBreak items k → skips_break i (slice_get items (k + 2)) ≡ true
    from s =
        let e : s.branch ≡ i = same_some s.branch i (sym s.stands ∙ is) in
        let f : is_plain i.fix ≡ true = ap (λ (x : Item). is_plain x.fix) (sym e) ∙ ap is_plain s.no_field in
        let g : is_skip i.instr ≡ true = ap (λ (x : Item). is_skip x.instr) (sym e) ∙ is_a_skip s.branch.instr s.rs s.rt s.conditional in
        let h : breaks (slice_get items (k + 2)) ≡ true = ap breaks s.behind ∙ ap is_break s.is_break in
        and_from (is_plain i.fix) (is_skip i.instr && breaks (slice_get items (k + 2))) f (and_from (is_skip i.instr) (breaks (slice_get items (k + 2))) g h)

-- ---- where items stand

-- what is said of the branches and jumps of a block
pub record Standing (items : List Item) : Type 0 where
  pub only_at_the_end : (k : ℕ) (i : Item) → ItemAt items k i → is_jump i.instr ≡ true → SkipsBreak items k ⊎ (k + 2 ≡ length items)
  pub skips_or_names : (k rs rt imm : ℕ) (i : Item) → ItemAt items k i → (i.instr ≡ Beq rs rt imm) ⊎ (i.instr ≡ Bne rs rt imm) → i.fix ≡ Plain → SkipsBreak items k
  pub goes_on : (k : ℕ) → SkipsBreak items k → k + 3 < length items

abbrev other_stands : Item → ℕ → ℕ → Bool
other_stands i k n = not (is_jump i.instr) || (k + 2 == n && not (is_plain i.fix && is_branch i.instr))

stand_skips : (i : Item) (o : Option Item) (k n : ℕ) → skips_break i o ≡ true → may_stand i o k n ≡ nat_lt (k + 3) n
stand_skips i o k n t = cond-true (skips_break i o) (nat_lt (k + 3) n) (other_stands i k n) t

stand_other : (i : Item) (o : Option Item) (k n : ℕ) → skips_break i o ≡ false → may_stand i o k n ≡ other_stands i k n
stand_other i o k n t = cond-false (skips_break i o) (nat_lt (k + 3) n) (other_stands i k n) t

jump_at_end : (i : Item) (k n : ℕ) → other_stands i k n ≡ true → is_jump i.instr ≡ true → (k + 2 ≡ n) × ((is_plain i.fix && is_branch i.instr) ≡ false)
jump_at_end i k n h j = elim (or_cases (not (is_jump i.instr)) (k + 2 == n && not (is_plain i.fix && is_branch i.instr)) h) [
  | inl t ↦ absurd (both_ways (is_jump i.instr) (not-true (is_jump i.instr) t) j)
  | inr t ↦ let a = and_parts (k + 2 == n) (not (is_plain i.fix && is_branch i.instr)) t in (eqb-true (k + 2) n a.0, not-true (is_plain i.fix && is_branch i.instr) a.1)
]

module _ (items : List Item) where
  at_place : (k : ℕ) (i : Item) → ItemAt items k i → place_fits items k ≡ may_stand i (slice_get items (k + 2)) k (length items)
  at_place k i e = ap (λ o. stands o (slice_get items (k + 2)) k (length items)) e

  pub stands_to : ((k : ℕ) → k < length items → place_fits items k ≡ true) → Standing items
  stands_to h = record { only_at_the_end = only; skips_or_names = names; goes_on = on }
    where
      stood : (k : ℕ) (i : Item) → ItemAt items k i → may_stand i (slice_get items (k + 2)) k (length items) ≡ true
      stood k i e = sym (at_place k i e) ∙ h k (slice_get_within items k i e)

      only : (k : ℕ) (i : Item) → ItemAt items k i → is_jump i.instr ≡ true → SkipsBreak items k ⊎ (k + 2 ≡ length items)
      only k i e j = elim (cases_Bool (skips_break i (slice_get items (k + 2)))) [
        | inl t ↦ inl ((skips_decide items k i e).0 t)
        | inr t ↦ inr ((jump_at_end i k (length items) (sym (stand_other i (slice_get items (k + 2)) k (length items) t) ∙ stood k i e) j).0)
      ]

      names : (k rs rt imm : ℕ) (i : Item) → ItemAt items k i → (i.instr ≡ Beq rs rt imm) ⊎ (i.instr ≡ Bne rs rt imm) → i.fix ≡ Plain → SkipsBreak items k
      names k rs rt imm i e b f = elim (cases_Bool (skips_break i (slice_get items (k + 2)))) [
        | inl t ↦ (skips_decide items k i e).0 t
        | inr t ↦
            let r = jump_at_end i k (length items) (sym (stand_other i (slice_get items (k + 2)) k (length items) t) ∙ stood k i e) (branch_jumps i.instr rs rt imm b) in
            absurd (both_ways (is_plain i.fix && is_branch i.instr) r.1 (and_from (is_plain i.fix) (is_branch i.instr) (ap is_plain f) (is_a_branch i.instr rs rt imm b)))
      ]

      on : (k : ℕ) → SkipsBreak items k → k + 3 < length items
      on k s =
          let t = (skips_decide items k s.branch s.stands).1 s in
          ltb-true (k + 3) (length items) (sym (stand_skips s.branch (slice_get items (k + 2)) k (length items) t) ∙ stood k s.branch s.stands)

  pub stands_from : Standing items → (k : ℕ) → k < length items → place_fits items k ≡ true
  stands_from s k l =
      let g = got items k l in
      at_place k g.0 g.1 ∙ elim (cases_Bool (skips_break g.0 (slice_get items (k + 2)))) [
        | inl t ↦ stand_skips g.0 (slice_get items (k + 2)) k (length items) t ∙ lt-ltb (k + 3) (length items) (s.goes_on k ((skips_decide items k g.0 g.1).0 t))
        | inr t ↦ stand_other g.0 (slice_get items (k + 2)) k (length items) t ∙ other k g.0 g.1 (λ q. both_ways (skips_break g.0 (slice_get items (k + 2))) t ((skips_decide items k g.0 g.1).1 q))
      ]
    where
      other : (k : ℕ) (i : Item) → ItemAt items k i → (SkipsBreak items k → ⊥) → other_stands i k (length items) ≡ true
      other k i e never = elim (cases_Bool (is_jump i.instr)) [
        | inr j ↦ or_left (not (is_jump i.instr)) (k + 2 == length items && not (is_plain i.fix && is_branch i.instr)) (not_from_false (is_jump i.instr) j)
        | inl j ↦
            let last : k + 2 ≡ length items = elim (s.only_at_the_end k i e j) [ inl q ↦ absurd (never q) | inr q ↦ q ] in
            let plain : (is_plain i.fix && is_branch i.instr) ≡ false = false_from_ne_true (is_plain i.fix && is_branch i.instr) (λ t.
            let a = and_parts (is_plain i.fix) (is_branch i.instr) t in
            let b = branch_is i.instr a.1 in
            never (s.skips_or_names k b.0 b.1 b.2 i e b.3 (plain_is i.fix a.0))) in
            or_right (not (is_jump i.instr)) (k + 2 == length items && not (is_plain i.fix && is_branch i.instr))
            (and_from (k + 2 == length items) (not (is_plain i.fix && is_branch i.instr)) (eq-eqb (k + 2) (length items) last) (not_from_false (is_plain i.fix && is_branch i.instr) plain))
      ]

  -- ---- ends

  not_skipped : (k : ℕ) → length items ≡ k + 2 → SkipsBreak items k → ⊥
  not_skipped k e s = let l : k + 2 < length items = slice_get_within items (k + 2) s.skipped s.behind in omega arith

  closed : (k : ℕ) (i j : Item) → length items ≡ k + 2 → ItemAt items k i → ItemAt items (k + 1) j → ends_well items ≡ (nat_le 2 (length items) && (is_break j.instr || (is_jump i.instr && is_nop j.instr)))
  closed k i j e a b =
      let f : length items - 2 ≡ k = omega arith in
      let g : length items - 1 ≡ k + 1 = omega arith in
      ap (λ o. nat_le 2 (length items) && closes o (slice_get items (length items - 1))) (ap (slice_get items) f ∙ a) ∙ ap (λ o. nat_le 2 (length items) && closes (Some i) o) (ap (slice_get items) g ∙ b)

  pub ends_to : ends_well items ≡ true → EndsWell items
  ends_to h =
      let two : 2 ≤ length items = leb-true 2 (length items) (and_parts (nat_le 2 (length items)) (closes (slice_get items (length items - 2)) (slice_get items (length items - 1))) h).0 in
      let k : ℕ = length items - 2 in
      let e : length items ≡ k + 2 = omega arith in
      let i = got items k (omega arith) in
      let j = got items (k + 1) (omega arith) in
      let c = (and_parts (nat_le 2 (length items)) (is_break j.0.instr || (is_jump i.0.instr && is_nop j.0.instr)) (sym (closed k i.0 j.0 e i.1 j.1) ∙ h)).1 in (
        k,
        i.0,
        j.0,
        e,
        i.1,
        j.1,
        elim (or_cases (is_break j.0.instr) (is_jump i.0.instr && is_nop j.0.instr) c) [
          | inl t ↦ inr (break_is j.0.instr t)
          | inr t ↦ let a = and_parts (is_jump i.0.instr) (is_nop j.0.instr) t in inl (a.0, not_skipped k e, nop_is j.0.instr a.1)
        ],
      )

  pub ends_from : EndsWell items → ends_well items ≡ true
  ends_from (k, i, j, e, a, b, h) = closed k i j e a b ∙ and_from (nat_le 2 (length items)) (is_break j.instr || (is_jump i.instr && is_nop j.instr)) (le-leb 2 (length items) (omega arith)) (elim h [
    | inl t ↦ or_right (is_break j.instr) (is_jump i.instr && is_nop j.instr) (and_from (is_jump i.instr) (is_nop j.instr) t.0 (ap is_nop t.2))
    | inr t ↦ or_left (is_break j.instr) (is_jump i.instr && is_nop j.instr) (ap is_break t.1)
  ])
