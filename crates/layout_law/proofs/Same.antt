-- The words are the same observed from outside as the items, where no item reports.
use Rattle.std.proofs.Common.{◌≡◌, ℕ, zero, suc, ◌+◌, ◌%◌, refl, sym, ◌∙◌, subst, List, [], ◌∷◌, length, Bool, true, false, cond}
use Rattle.std.specs.Prelude.{Option, Some, None, slice_index, slice_set, ◌==◌, ◌&&◌, not, nat_le, nat_lt, ℤ, ◌+ℤ◌, ◌-ℤ◌}
use Rattle.std.specs.Int.{cast_unsigned, w32}
use Rattle.hard_words.specs.Words.{extended, signed}
use Rattle.hard_runs.specs.Observed.{Prefix}
use Rattle.hard_runs.proofs.Observed.{prefix_reflexive}
use Rattle.hard_runs.specs.Stepping.{go, Always}
use Rattle.mips_isa.specs.declared.instr.Instr.{Instr}
use Rattle.mips_isa.specs.declared.instr.Instr.TheVariants.{Break, Add, Sub, Addi, Beq, Bne}
use Rattle.mips_isa.specs.declared.instr.Act.{Act}
use Rattle.mips_isa.specs.declared.instr.Act.TheVariants.{Write, Move, Both, Load, Store, Go, Link, Pass, Service, Stop}
use Rattle.mips_isa.specs.declared.instr.End.{End}
use Rattle.mips_isa.specs.declared.instr.End.TheVariants.{Exited, Trapped, Starved, Reported, Exception, Hazard}
use Rattle.mips_isa.specs.Machine.{State, reg, perform, act, checked, fits_signed, branch, moved, with_reg, in_memory, place}
use Rattle.mips_isa.specs.Runs.{run}
use Rattle.mips_isa.specs.Image.{boot_state}
use Rattle.hard_items.specs.declared.code.Fix.{Fix}
use Rattle.hard_items.specs.declared.code.Fix.TheVariants.{Plain, Block, Function, ReturnHigh, ReturnLow}
use Rattle.hard_items.specs.declared.code.Item.{Item}
use Rattle.hard_items.specs.declared.code.HardProgram.{HardProgram}
use Rattle.hard_items.specs.Run.{Data, Spot, Way, Onward, Over, To, items, before, arrived, settled, first_spot, item_run, item_act, completed, numbered, machine_of, way_of}
use Rattle.hard_items.specs.Rules.{LawfulNext, LawfulAt}
use Rattle.layout_law.specs.Layout.{image}
use Rattle.layout_law.specs.Level.{SameEnd, InStep, WordsSame}
use Rattle.layout_law.proofs.Arrive.{spot}
use Rattle.layout_law.proofs.Whole.{runs_in_step}

-- ---- no item meets a hazard

abbrev IsHazard : Option End → Type 0
IsHazard None = ⊥
IsHazard (Some (Hazard at)) = Unit {0}
IsHazard (Some e) = ⊥

abbrev StopsBy : Act → Type 0
StopsBy (Stop e) = IsHazard (Some e)
StopsBy a = ⊥

checked_calm : (b rd : ℕ) (z : ℤ) → StopsBy (numbered b (checked 0 rd z)) → ⊥
checked_calm b rd z = elim (fits_signed z) as (λ u. StopsBy (numbered b (cond u (Write rd (cast_unsigned w32 z)) (Stop (Exception 12 0)))) → ⊥) [ true ↦ λ h. h | false ↦ λ h. h ]

break_calm : (x y : Bool) (code : ℕ) → IsHazard (Some (cond x (Reported code 0) (cond y (Trapped code) (Exception 9 0)))) → ⊥
break_calm true y code h = h
break_calm false true code h = h
break_calm false false code h = h

branch_calm : (b imm : ℕ) (s : State) (z : Bool) → StopsBy (numbered b (branch z s imm)) → ⊥
branch_calm b imm s true h = h
branch_calm b imm s false h = h

act_calm : (b : ℕ) (x : Instr) (d : Data) → StopsBy (numbered b (act x (machine_of d))) → ⊥
act_calm b (Add rd rs rt) d = checked_calm b rd (signed (reg (machine_of d) rs) +ℤ signed (reg (machine_of d) rt))
act_calm b (Sub rd rs rt) d = checked_calm b rd (signed (reg (machine_of d) rs) -ℤ signed (reg (machine_of d) rt))
act_calm b (Addi rt rs imm) d = checked_calm b rt (signed (reg (machine_of d) rs) +ℤ signed (extended imm))
act_calm b (Break code) d = break_calm (nat_le 1 code && nat_le code 2) (nat_le 6 code && nat_le code 9) code
act_calm b (Beq rs rt imm) d = branch_calm b imm (machine_of d) (reg (machine_of d) rs == reg (machine_of d) rt)
act_calm b (Bne rs rt imm) d = branch_calm b imm (machine_of d) (not (reg (machine_of d) rs == reg (machine_of d) rt))
act_calm b x d = λ h. h

item_calm : (b : ℕ) (x : Instr) (f : Fix) (d : Data) → StopsBy (completed f b (numbered b (act x (machine_of d)))) → ⊥
item_calm b x Plain d = act_calm b x d
item_calm b x (Block t) d = act_calm b x d
item_calm b x (Function t) d = act_calm b x d
item_calm b x ReturnHigh d = act_calm b x d
item_calm b x ReturnLow d = λ h. h

load_calm : (d : Data) (r a : ℕ) (x y : Bool) (s : State × Option ℕ) → s.0.end ≡ None →
    IsHazard (cond x (record (machine_of d) { end = Some (Exception r 0) }, None) (cond y (record (machine_of d) { end = Some (Exception a 0) }, None) s)).0.end → ⊥
load_calm d r a true y s e h = h
load_calm d r a false true s e h = h
load_calm d r a false false s e h = subst (λ (z : Option End). IsHazard z) e h

service_calm : (d : Data) (n a : ℕ) (x y z c : Bool) (s t : State × Option ℕ) → s.0.end ≡ None → t.0.end ≡ None →
    IsHazard (cond x s (cond y (cond c t (record (machine_of d) { end = Some Starved }, None)) (cond z (record (machine_of d) { end = Some (Exited a) }, None) (record (machine_of d) { end = Some (Exception 8 0) }, None)))).0.end → ⊥
service_calm d n a true y z c s t e f h = subst (λ (z : Option End). IsHazard z) e h
service_calm d n a false true z true s t e f h = subst (λ (z : Option End). IsHazard z) f h
service_calm d n a false true z false s t e f h = h
service_calm d n a false false true c s t e f h = h
service_calm d n a false false false c s t e f h = h

perform_calm : (d : Data) (a : Act) → (StopsBy a → ⊥) → IsHazard (perform a (machine_of d)).0.end → ⊥
perform_calm d (Write r v) f h = h
perform_calm d (Move r v) f h = h
perform_calm d (Both r v) f h = h
perform_calm d (Load r a) f h = load_calm d 4 7 (not (a % 4 == 0)) (not (in_memory (machine_of d) a)) (record (with_reg (moved (machine_of d)) r (slice_index d.memory (place a))) { last_load = r }, None) refl h
perform_calm d (Store a v) f h = load_calm d 5 7 (not (a % 4 == 0)) (not (in_memory (machine_of d) a)) (record (moved (machine_of d)) { memory = slice_set d.memory (place a) v }, None) refl h
perform_calm d (Go to) f h = h
perform_calm d (Link to) f h = h
perform_calm d Pass f h = h
perform_calm d Service f h = service_calm d 0 (reg (machine_of d) 4) (reg (machine_of d) 2 == 1) (reg (machine_of d) 2 == 5) (reg (machine_of d) 2 == 17) (nat_lt d.fed (length d.feed)) (moved (machine_of d), Some (reg (machine_of d) 4)) (record (with_reg (moved (machine_of d)) 2 (slice_index d.feed d.fed)) { fed = d.fed + 1 }, None) refl refl h
perform_calm d (Stop e) f h = f h

-- ---- no item ends by an exception or a hazard

abbrev pub IsFault : Option End → Type 0
IsFault None = ⊥
IsFault (Some (Exception c at)) = Unit {0}
IsFault (Some (Hazard at)) = Unit {0}
IsFault (Some e) = ⊥

end_arrived : (p : HardProgram) (w own : Way) (b : ℕ) (more : List Item) (d : Data) → (arrived p w own b more d).end ≡ None
end_arrived p Onward own b [] d = refl
end_arrived p Onward own b (i ∷ more) d = refl
end_arrived p Over own b [] d = refl
end_arrived p Over own b (i ∷ []) d = refl
end_arrived p Over own b (i ∷ j ∷ more) d = refl
end_arrived p (To t) own b more d = refl

settled_end : (p : HardProgram) (s : Spot) (i : Item) (more : List Item) (a : Act) (r : State × Option ℕ) (e : Option End) → (settled p s i more a r e).0.end ≡ e
settled_end p s i more a r None = end_arrived p s.way (way_of p i s.now i.instr) s.block more (Rattle.hard_items.specs.Run.data_after i a s.now r.0)
settled_end p s i more a r (Some e) = refl

no_exception_by : (o : Option End) → ((c at : ℕ) → o ≡ Some (Exception c at) → ⊥) → (IsHazard o → ⊥) → IsFault o → ⊥
no_exception_by None f g h = h
no_exception_by (Some (Exited w)) f g h = h
no_exception_by (Some (Trapped w)) f g h = h
no_exception_by (Some Starved) f g h = h
no_exception_by (Some (Reported c at)) f g h = h
no_exception_by (Some (Exception c at)) f g h = f c at refl
no_exception_by (Some (Hazard at)) f g h = g h

fault_step : (p : HardProgram) (b : ℕ) (rest : List Item) (w : Way) (d : Data) (e : Option End) → (e ≡ None → LawfulNext p b rest d) → (IsFault e → ⊥) → IsFault ((items p).step (spot b rest w d e)).0.end → ⊥
fault_step p b rest w d (Some e) q f h = f h
fault_step p b [] w d None q f h = q refl
fault_step p b (i ∷ more) w d None q f h =
    no_exception_by (perform (item_act b i d) (machine_of d)).0.end (q refl).no_exception (perform_calm d (item_act b i d) (item_calm b i.instr i.fix d))
    (subst (λ (z : Option End). IsFault z) (settled_end p (spot b (i ∷ more) w d None) i more (item_act b i d) (perform (item_act b i d) (machine_of d)) (perform (item_act b i d) (machine_of d)).0.end) h)

pub no_fault : (p : HardProgram) (input : List ℕ) → Always (items p) (first_spot p input) (LawfulAt p) → (n : ℕ) → IsFault (go (items p) (first_spot p input) n).state.end → ⊥
no_fault p input g zero h = h
no_fault p input g (suc n) h =
    let t : Spot = (go (items p) (first_spot p input) n).state in
    fault_step p t.block t.rest t.way t.now t.end (g n) (no_fault p input g n) h

-- ---- the same ends

same_by : (e f : Option End) → (IsFault e → ⊥) → ((c at : ℕ) → e ≡ Some (Reported c at) → ⊥) → SameEnd e f → f ≡ e
same_by None f h k q = q
same_by (Some (Exited w)) f h k q = q
same_by (Some (Trapped w)) f h k q = q
same_by (Some Starved) f h k q = q
same_by (Some (Reported c at)) f h k q = absurd (k c at refl)
same_by (Some (Exception c at)) f h k q = absurd (h tt)
same_by (Some (Hazard at)) f h k q = absurd (h tt)

pub words_same : WordsSame
words_same p input l h w g r = record {
  no_more = λ n. subst (λ (z : List ℕ). Prefix z (go (items p) (first_spot p input) n).output) (sym (step n).output) (prefix_reflexive (go (items p) (first_spot p input) n).output);
  ends = λ n e x. (sym (ends n) ∙ x, sym (step n).output);
  comes = λ n. (n, subst (λ (z : List ℕ). Prefix (go (items p) (first_spot p input) n).output z) (sym (step n).output) (prefix_reflexive (go (items p) (first_spot p input) n).output));
  finishes = λ n e x. (n, ends n ∙ x, (step n).output);
}
  where
    step : (n : ℕ) → InStep p input n
    step n = runs_in_step p input l h g n

    ends : (n : ℕ) → (run (boot_state (image p) input) None n).state.end ≡ (go (items p) (first_spot p input) n).state.end
    ends n = same_by (go (items p) (first_spot p input) n).state.end (run (boot_state (image p) input) None n).state.end (no_fault p input g n) (r input w n) (step n).level.ends
