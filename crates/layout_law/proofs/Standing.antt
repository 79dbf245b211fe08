-- Where a run of items stands in its block, and where it arrives: in the same block again, or at a block that may follow.
use Rattle.std.proofs.Common.{◌≡◌, ◌<◌, ℕ, suc, ◌+◌, arith, ap, refl, sym, ◌∙◌, subst, List, [], ◌∷◌, ◌++◌, length, get_or, append_assoc, length-append, Bool, true, false, cond, inl, inr}
use Rattle.std.specs.Prelude.{Some, None, slice_get, ◌==◌}
use Rattle.std.proofs.Math.Seq.{get_or-append_seam}
use Rattle.mips_isa.specs.declared.instr.Instr.{Instr}
use Rattle.mips_isa.specs.Machine.{is_jump}
use Rattle.hard_items.specs.declared.code.Fix.{Fix}
use Rattle.hard_items.specs.declared.code.Fix.TheVariants.{Function}
use Rattle.hard_items.specs.declared.code.Item.{Item}
use Rattle.hard_items.specs.declared.code.HardProgram.{HardProgram}
use Rattle.hard_items.specs.Run.{Data, Way, Onward, Over, To, items_of, named, branch_way, way_of, held, at_block, arrived}
use Rattle.hard_items.specs.Ways as ways
use Rattle.hard_items.specs.Ways.{Holds, MayFollow}
use Rattle.hard_items.specs.Counts.{is_break}
use Rattle.hard_items.specs.Rules.{Lawful}
use Rattle.layout_law.specs.Level.{LastSlot, SkippedSlot, Lines, SlotSame}
use Rattle.layout_law.proofs.Arrive.{spot, stop_is_break}
use Rattle.layout_law.proofs.Step.{jump_fits}
use Rattle.layout_law.proofs.Views as view
use Rattle.layout_law.proofs.Views.{View}

no_true : true ≡ false → ⊥
no_true e = cc

-- The way behind the item that comes next: over a break, or to a block that may follow; onward behind a branch to the next block.
abbrev pub WayStands : HardProgram → ℕ → Way → Bool → List Item → Type 0
WayStands p b Onward slot rest = slot ≡ true → LastSlot rest → MayFollow p b (b + 1)
WayStands p b Over slot rest = SkippedSlot rest
WayStands p b (To t) slot rest = MayFollow p b t × LastSlot rest

pub record Standing (p : HardProgram) (b : ℕ) (rest : List Item) (w : Way) (slot : Bool) : Type 0 where
  pub done : List Item
  pub split : items_of p b ≡ done ++ rest
  pub lines : Lines p slot rest
  pub way : WayStands p b w slot rest
  pub free : SlotSame slot rest

-- Where two runs arrive that are at the same item of two programs: at an item of the block again, or at the start of a block.
pub data Arrives (p q : HardProgram) (w own : Way) (b : ℕ) (more : List Item) (d e : Data) : Type 0 where
  inner : (rest : List Item) (v : Way) (slot : Bool) → arrived p w own b more d ≡ spot b rest v d None → arrived q w own b more e ≡ spot b rest v e None → Standing p b rest v slot → Arrives p q w own b more d e
  start : (c : ℕ) → arrived p w own b more d ≡ at_block p c d → arrived q w own b more e ≡ at_block q c e → MayFollow p b c → Arrives p q w own b more d e

free_false : (rest : List Item) → SlotSame false rest
free_false [] = tt
free_false (i ∷ more) = λ e. absurd (no_true (sym e))

one_more : (done : List Item) (i : Item) (more : List Item) → done ++ i ∷ more ≡ (done ++ i ∷ []) ++ more
one_more done i more = sym (append_assoc done (i ∷ []) more)

-- Behind an item that goes nowhere.
pub stay_arrives : (p q : HardProgram) (w : Way) (b : ℕ) (i : Item) (more : List Item) (slot : Bool) (d e : Data) → Standing p b (i ∷ more) w slot → is_jump i.instr ≡ false → is_break i.instr ≡ false → Arrives p q w Onward b more d e
stay_arrives p q Onward b i [] slot d e s j n = start (b + 1) refl refl (elim s.lines as (λ z. MayFollow p b (b + 1)) [ inl z ↦ s.way z.0 z.1 | inr z ↦ absurd (no_true (sym (stop_is_break i z) ∙ n)) ])
stay_arrives p q Onward b i (k ∷ more) slot d e s j n = inner (k ∷ more) Onward false refl refl (record { done = s.done ++ i ∷ []; split = s.split ∙ one_more s.done i (k ∷ more); lines = subst (λ (z : Bool). Lines p z (k ∷ more)) j s.lines.1; way = λ x y. absurd (no_true (sym x)); free = free_false (k ∷ more) })
stay_arrives p q Over b i [] slot d e s j n = absurd s.way
stay_arrives p q Over b i (k ∷ []) slot d e s j n = absurd s.way
stay_arrives p q Over b i (k ∷ m ∷ more) slot d e s j n = inner (m ∷ more) Onward false refl refl (record {
  done = (s.done ++ i ∷ []) ++ k ∷ [];
  split = s.split ∙ (one_more s.done i (k ∷ m ∷ more) ∙ one_more (s.done ++ i ∷ []) k (m ∷ more));
  lines = subst (λ (z : Bool). Lines p z (m ∷ more)) (ap is_jump s.way.1.1.stop) s.lines.1.1;
  way = λ x y. absurd (no_true (sym x));
  free = free_false (m ∷ more);
})
stay_arrives p q (To t) b i [] slot d e s j n = start t refl refl s.way.0
stay_arrives p q (To t) b i (k ∷ more) slot d e s j n = absurd s.way.1

-- Behind a branch or a jump.
depart : (p q : HardProgram) (own : Way) (b : ℕ) (i : Item) (more : List Item) (slot : Bool) (d e : Data) → Standing p b (i ∷ more) Onward slot → is_jump i.instr ≡ true → SlotSame true more → WayStands p b own true more → Arrives p q Onward own b more d e
depart p q own b i [] slot d e s j f w = absurd (elim s.lines as (λ z. ⊥) [ inl z ↦ no_true (sym j ∙ ap is_jump z.1.nop) | inr z ↦ no_true (sym j ∙ ap is_jump z.stop) ])
depart p q own b i (k ∷ more) slot d e s j f w = inner (k ∷ more) own true refl refl (record { done = s.done ++ i ∷ []; split = s.split ∙ one_more s.done i (k ∷ more); lines = subst (λ (z : Bool). Lines p z (k ∷ more)) j s.lines.1; way = w; free = f })

last_free : (more : List Item) → LastSlot more → SlotSame true more
last_free [] h = tt
last_free (i ∷ []) h = λ k. ap is_jump h.nop
last_free (i ∷ j ∷ more) h = absurd h

skipped_free : (more : List Item) → SkippedSlot more → SlotSame true more
skipped_free [] h = tt
skipped_free (i ∷ []) h = absurd h
skipped_free (i ∷ j ∷ []) h = absurd h
skipped_free (i ∷ j ∷ k ∷ more) h = λ z. h.0

not_both : (more : List Item) → SkippedSlot more → LastSlot more → ⊥
not_both [] h k = k
not_both (i ∷ []) h k = h
not_both (i ∷ j ∷ more) h k = k

pub holds_first : (p : HardProgram) (b : ℕ) (i : Item) (more done : List Item) → items_of p b ≡ done ++ i ∷ more → Holds p b i
holds_first p b i more done e = (length done, less (length (items_of p b)) (length done) (length more) (ap length e ∙ length-append done (i ∷ more)), ap (λ (z : List Item). get_or z (length done) i) e ∙ get_or-append_seam done i more i)
  where
    less : (n a b : ℕ) → n ≡ a + suc b → a < n
    less n a b e = omega arith

-- Both ways of a branch, by the test.
branch_way_stands : (p : HardProgram) (b : ℕ) (f : Fix) (more : List Item) (z : Bool) → WayStands p b (branch_way f) true more → WayStands p b Onward true more → WayStands p b (cond z (branch_way f) Onward) true more
branch_way_stands p b f more true h k = h
branch_way_stands p b f more false h k = k

branch_way_stands_ne : (p : HardProgram) (b : ℕ) (f : Fix) (more : List Item) (z : Bool) → WayStands p b (branch_way f) true more → WayStands p b Onward true more → WayStands p b (cond z Onward (branch_way f)) true more
branch_way_stands_ne p b f more true h k = k
branch_way_stands_ne p b f more false h k = h

-- The way of a branch or a jump, by its sort.
pub way_stands : (p : HardProgram) (b : ℕ) (i : Item) (more : List Item) (d : Data) → Holds p b i → Lawful p b i d → ((f : ℕ) → i.fix ≡ Function f → slice_get p.entries f ≡ Some (named p (Function f))) → is_jump i.instr ≡ true → View p i.fix i.instr more → WayStands p b (way_of p i d i.instr) true more × SlotSame true more
way_stands p b i more d h l g j (view.jumps t tg f x k n) = (subst (λ (z : Instr). WayStands p b (way_of p i d z) true more) (sym x) (subst (λ (z : Fix). WayStands p b (To (named p z)) true more) (sym f) (ways.jumped t tg i h x f, n)), last_free more n)
way_stands p b i more d h l g j (view.calls c tg f x k n) = (subst (λ (z : Instr). WayStands p b (way_of p i d z) true more) (sym x) (subst (λ (z : Fix). WayStands p b (To (named p z)) true more) (sym f) (ways.called c (named p (Function c)) (record { item = i; target = tg; holds = h; jumps = x; names = f }) (g c f), n)), last_free more n)
way_stands p b i more d h l g j (view.returns rs f x n) = (subst (λ (z : Instr). WayStands p b (way_of p i d z) true more) (sym x) ((subst (λ (z : Instr). Rattle.hard_items.specs.Rules.Returns p b z d) x l.returns).1, n), last_free more n)
way_stands p b i more d h l g j (view.skips rs rt f (inl x) n) = (subst (λ (z : Instr). WayStands p b (way_of p i d z) true more) (sym x) (branch_way_stands p b i.fix more (held d rs == held d rt) (subst (λ (z : Fix). WayStands p b (branch_way z) true more) (sym f) n) (λ u v. absurd (not_both more n v))), skipped_free more n)
way_stands p b i more d h l g j (view.skips rs rt f (inr x) n) = (subst (λ (z : Instr). WayStands p b (way_of p i d z) true more) (sym x) (branch_way_stands_ne p b i.fix more (held d rs == held d rt) (subst (λ (z : Fix). WayStands p b (branch_way z) true more) (sym f) n) (λ u v. absurd (not_both more n v))), skipped_free more n)
way_stands p b i more d h l g j (view.branches t rs rt imm f (inl x) k n) = (subst (λ (z : Instr). WayStands p b (way_of p i d z) true more) (sym x) (branch_way_stands p b i.fix more (held d rs == held d rt) (subst (λ (z : Fix). WayStands p b (branch_way z) true more) (sym f) (ways.branched_eq t rs rt imm i h x f, n)) (λ u v. ways.fallen_eq t rs rt imm i h x f)), last_free more n)
way_stands p b i more d h l g j (view.branches t rs rt imm f (inr x) k n) = (subst (λ (z : Instr). WayStands p b (way_of p i d z) true more) (sym x) (branch_way_stands_ne p b i.fix more (held d rs == held d rt) (subst (λ (z : Fix). WayStands p b (branch_way z) true more) (sym f) (ways.branched_ne t rs rt imm i h x f, n)) (λ u v. ways.fallen_ne t rs rt imm i h x f)), last_free more n)
way_stands p b i more d h l g j (view.stays f x) = absurd (no_true (sym j ∙ x))
way_stands p b i more d h l g j (view.high f x) = absurd (no_true (sym j ∙ ap is_jump x))
way_stands p b i more d h l g j (view.low f x) = absurd (no_true (sym j ∙ ap is_jump x))

pub jump_arrives : (p q : HardProgram) (b : ℕ) (i : Item) (more : List Item) (slot : Bool) (d0 d e : Data) → Standing p b (i ∷ more) Onward slot → is_jump i.instr ≡ true → Lawful p b i d0 → ((f : ℕ) → i.fix ≡ Function f → slice_get p.entries f ≡ Some (named p (Function f))) → Arrives p q Onward (way_of p i d0 i.instr) b more d e
jump_arrives p q b i more slot d0 d e s j l g =
    let v : WayStands p b (way_of p i d0 i.instr) true more × SlotSame true more = way_stands p b i more d0 (holds_first p b i more s.done s.split) l g j (view.view p i.fix i.instr more (jump_fits p slot i more s.lines j)) in
    depart p q (way_of p i d0 i.instr) b i more slot d e s j v.1 v.0

-- At a branch or a jump the way is onward.
pub onward_at_jump : (p : HardProgram) (b : ℕ) (i : Item) (more : List Item) (w : Way) (slot : Bool) → Standing p b (i ∷ more) w slot → is_jump i.instr ≡ true → w ≡ Onward
onward_at_jump p b i more Onward slot s j = refl
onward_at_jump p b i [] Over slot s j = absurd s.way
onward_at_jump p b i (k ∷ []) Over slot s j = absurd s.way
onward_at_jump p b i (k ∷ m ∷ more) Over slot s j = absurd (no_true (sym j ∙ s.way.0))
onward_at_jump p b i [] (To t) slot s j = absurd (no_true (sym j ∙ ap is_jump s.way.1.nop))
onward_at_jump p b i (k ∷ more) (To t) slot s j = absurd s.way.1
