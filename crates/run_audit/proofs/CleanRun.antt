-- The clean run of an image, step by step.
use Rattle.std.proofs.Common.{◌≡◌, ℕ, zero, suc, ◌+◌, ◌-◌, ◌%◌, ◌≤◌, ◌<◌, arith, ap, refl, sym, ◌∙◌, subst, List, length, slice_set, false, true, Bool, cond, inl, inr, add-one}
use Rattle.std.specs.Prelude.{Option, Some, None, ◌⊎◌, ◌==◌, not, nat_lt, is_some, slice_index}
use Rattle.mips_isa.specs.declared.instr.Act.{Act}
use Rattle.mips_isa.specs.declared.instr.Act.TheVariants.{Write, Move, Both, Load, Store, Go, Link, Pass, Service, Stop}
use Rattle.mips_isa.specs.declared.instr.End.{End}
use Rattle.mips_isa.specs.declared.instr.End.TheVariants as ends
use Rattle.mips_isa.specs.Machine.{State, step, step_from, perform, planned, moved, with_reg, reg, place, in_memory, ended}
use Rattle.mips_isa.specs.Runs.{Ran}
use Rattle.mips_laws.specs.RunLaws.{EndStays}
use Rattle.mips_isa.specs.Image.{ImageFields, boot_state}
use Rattle.mips_text.specs.Blocks.{IsStart}
use Rattle.mips_faults.specs.Faults.{IsPlaced, PlacedFor}
use Rattle.harden_lint.specs.Rules.{WellTyped}
use Rattle.run_audit.specs.declared.turns.Turn.TheVariants as turns
use Rattle.run_audit.specs.Audits.{clean, Misplaces, Reports, Passes}
use Rattle.run_audit.specs.Turns.{Bits, stands, told_by, Passed}
use Rattle.run_audit.proofs.Stands.{placed_of, placed_stands, means, IsClean, IsReport, IsMisplaced}

-- no step changes the text
either : (z : Bool) (x y : State × Option ℕ) (t : List ℕ) → x.0.text ≡ t → y.0.text ≡ t → (cond z x y).0.text ≡ t
either true x y t p q = p
either false x y t p q = q

perform_text : (a : Act) (s : State) → (perform a s).0.text ≡ s.text
perform_text (Write r v) s = refl
perform_text (Move r v) s = refl
perform_text (Both h l) s = refl
perform_text (Load r a) s =
    either (not (a % 4 == 0)) (ended (ends.Exception 4 s.pc) s) (cond (not (in_memory s a)) (ended (ends.Exception 7 s.pc) s) (record (with_reg (moved s) r (slice_index s.memory (place a))) { last_load = r }, None)) s.text refl
    (either (not (in_memory s a)) (ended (ends.Exception 7 s.pc) s) (record (with_reg (moved s) r (slice_index s.memory (place a))) { last_load = r }, None) s.text refl refl)
perform_text (Store a v) s =
    either (not (a % 4 == 0)) (ended (ends.Exception 5 s.pc) s) (cond (not (in_memory s a)) (ended (ends.Exception 7 s.pc) s) (record (moved s) { memory = slice_set s.memory (place a) v }, None)) s.text refl
    (either (not (in_memory s a)) (ended (ends.Exception 7 s.pc) s) (record (moved s) { memory = slice_set s.memory (place a) v }, None) s.text refl refl)
perform_text (Go to) s = refl
perform_text (Link to) s = refl
perform_text Pass s = refl
perform_text Service s =
    let fed : State × Option ℕ = (record (with_reg (moved s) 2 (slice_index s.feed s.fed)) { fed = s.fed + 1 }, None) in
    let last : State × Option ℕ = cond (reg s 2 == 17) (ended (ends.Exited (reg s 4)) s) (ended (ends.Exception 8 s.pc) s) in
    let takes : State × Option ℕ = cond (nat_lt s.fed (length s.feed)) fed (ended ends.Starved s) in
    either (reg s 2 == 1) (moved s, Some (reg s 4)) (cond (reg s 2 == 5) takes last) s.text refl
    (either (reg s 2 == 5) takes last s.text
    (either (nat_lt s.fed (length s.feed)) fed (ended ends.Starved s) s.text refl refl)
    (either (reg s 2 == 17) (ended (ends.Exited (reg s 4)) s) (ended (ends.Exception 8 s.pc) s) s.text refl refl))
perform_text (Stop e) s = refl

step_text : (s : State) (o : Option End) → (step_from s o).0.text ≡ s.text
step_text s None = perform_text (planned s) s
step_text s (Some e) = refl

run_text : (i : ImageFields) (input : List ℕ) (n : ℕ) → (clean i input n).text ≡ i.text
run_text i input zero = refl
run_text i input (suc n) = step_text (clean i input n) (clean i input n).end ∙ run_text i input n

next_state : (i : ImageFields) (input : List ℕ) (n : ℕ) → clean i input (n + 1) ≡ (step (clean i input n)).0
next_state i input n = ap (λ (k : ℕ). clean i input k) (add-one n)

-- an end stays
none_end : (o : Option End) (e : End) → o ≡ Some e → o ≡ None → ⊥
none_end o e h k = cc

pub later : EndStays → (i : ImageFields) (input : List ℕ) (n m : ℕ) (e : End) → n ≤ m → (clean i input n).end ≡ Some e → (clean i input m).end ≡ Some e
later law i input n m e l h =
    let all : n + (m - n) ≡ m = omega arith in
    subst (λ (k : ℕ). (clean i input k).end ≡ Some e) all (ap (λ (r : Ran). r.state.end) (law (boot_state i input) None e n (m - n) h) ∙ h)

pub apart : EndStays → (i : ImageFields) (input : List ℕ) (n m : ℕ) (e : End) → n ≤ m → (clean i input n).end ≡ Some e → (clean i input m).end ≡ None → ⊥
apart law i input n m e l h k = none_end (clean i input m).end e (later law i input n m e l h) k

less_or : (m n : ℕ) → m < n + 1 → (m < n) ⊎ (m ≡ n)
less_or m n h = grind arith

most_or : (m n : ℕ) → m ≤ n + 1 → (m ≤ n) ⊎ (m ≡ n + 1)
most_or m n h = grind arith

order : (m n : ℕ) → (m < n) ⊎ (n ≤ m)
order m n = grind arith

no_less : (m : ℕ) → m < 0 → ⊥
no_less m h = omega arith

only_zero : (m : ℕ) → m ≤ 0 → m ≡ 0
only_zero m h = omega arith

-- the clean run as far as it has come
pub none_passed : (i : ImageFields) (input : List ℕ) → Passed i input 0
none_passed i input = record {
  going = λ m h. absurd (no_less m h);
  placed = λ m h g. absurd (no_less m h);
  unreported = λ m h code at e. begun code at (subst (λ (x : ℕ). (clean i input x).end ≡ Some (ends.Reported code at)) (only_zero m h) e);
}
  where
    begun : (code at : ℕ) → (clean i input 0).end ≡ Some (ends.Reported code at) → ⊥
    begun code at e = cc

placed_more : (i : ImageFields) (input : List ℕ) (n : ℕ) → PlacedFor i input n → IsPlaced i.entry (clean i input n) → PlacedFor i input (n + 1)
placed_more i input n p q = λ m h g. elim (less_or m n h) as (λ z. IsPlaced i.entry (clean i input m)) [
  | inl l ↦ p m l g
  | inr e ↦ subst (λ (x : ℕ). IsPlaced i.entry (clean i input x)) (sym e) q
]

one_more : (i : ImageFields) (input : List ℕ) (n : ℕ) → Passed i input n → (clean i input n).end ≡ None → IsPlaced i.entry (clean i input n) → ((code at : ℕ) → (clean i input (n + 1)).end ≡ Some (ends.Reported code at) → ⊥) → Passed i input (n + 1)
one_more i input n p g q u = record {
  going = λ m h. elim (less_or m n h) as (λ z. (clean i input m).end ≡ None) [
    | inl l ↦ p.going m l
    | inr e ↦ subst (λ (x : ℕ). (clean i input x).end ≡ None) (sym e) g
  ];
  placed = placed_more i input n p.placed q;
  unreported = λ m h code at e. elim (most_or m n h) as (λ z. ⊥) [
    | inl l ↦ p.unreported m l code at e
    | inr x ↦ u code at (subst (λ (y : ℕ). (clean i input y).end ≡ Some (ends.Reported code at)) x e)
  ];
}

-- what the machine is, in the middle of the run
pub record AtStep (i : ImageFields) (input : List ℕ) (bits : List Bool) (n : ℕ) (s : State) : Type 0 where
  pub typed : WellTyped i.text i.entry
  pub starts : Bits i.text (IsStart i.text i.entry) bits
  pub is : s ≡ clean i input n
  pub passed : Passed i input n

same_text : (i : ImageFields) (input : List ℕ) (n : ℕ) (s : State) → s ≡ clean i input n → s.text ≡ i.text
same_text i input n s e = ap (λ (x : State). x.text) e ∙ run_text i input n

-- after a step
after : (i : ImageFields) (input : List ℕ) (n : ℕ) (s t : State) → s ≡ clean i input n → t ≡ (step s).0 → t ≡ clean i input (n + 1)
after i input n s t e f = f ∙ (ap (λ (x : State). (step x).0) e ∙ sym (next_state i input n))

placed_here : (i : ImageFields) (input : List ℕ) (bits : List Bool) (n : ℕ) (s t : State) → AtStep i input bits n s → t ≡ (step s).0 → stands i.text bits s ≡ true → ((code at : ℕ) → t.end ≡ Some (ends.Exception code at) → ⊥) → IsPlaced i.entry (clean i input n)
placed_here i input bits n s t a f z c = subst (IsPlaced i.entry) a.is (placed_of s i.text i.entry bits (same_text i input n s a.is) a.starts z (λ code at e. c code at (ap (λ (x : State). x.end) f ∙ e)))

pub clean_turn : (i : ImageFields) (input : List ℕ) (bits : List Bool) (n : ℕ) (s t : State) → AtStep i input bits n s → s.end ≡ None → t ≡ (step s).0 → turns.Clean ≡ told_by (stands i.text bits s) t.end → AtStep i input bits (n + 1) t
clean_turn i input bits n s t a g f h =
    let m : IsClean (stands i.text bits s) t.end = means (stands i.text bits s) t.end turns.Clean h in
    let next : t ≡ clean i input (n + 1) = after i input n s t a.is f in
    record {
      typed = a.typed;
      starts = a.starts;
      is = next;
      passed = one_more i input n a.passed (subst (λ (x : State). x.end ≡ None) a.is g) (placed_here i input bits n s t a f m.held m.calm)
          (λ code at e. m.silent code at (ap (λ (x : State). x.end) next ∙ e));
    }

pub reported_turn : (i : ImageFields) (input : List ℕ) (bits : List Bool) (n steps : ℕ) (s t : State) → n < steps → AtStep i input bits n s → s.end ≡ None → t ≡ (step s).0 → turns.Reported ≡ told_by (stands i.text bits s) t.end → Reports i input steps n
reported_turn i input bits n steps s t l a g f h =
    let m : IsReport (stands i.text bits s) t.end = means (stands i.text bits s) t.end turns.Reported h in
    record {
      typed = a.typed;
      below = l;
      placed = placed_more i input n a.passed.placed (placed_here i input bits n s t a f m.held m.calm);
      going = subst (λ (x : State). x.end ≡ None) a.is g;
      code = m.code;
      at = m.at;
      reported = subst (λ (x : State). x.end ≡ Some (ends.Reported m.code m.at)) (after i input n s t a.is f) m.is;
    }

false_true : (z : Bool) → z ≡ false → z ≡ true → ⊥
false_true z h k = cc

not_placed : (i : ImageFields) (input : List ℕ) (bits : List Bool) (n : ℕ) (s t : State) → AtStep i input bits n s → t ≡ (step s).0 → IsMisplaced (stands i.text bits s) t.end → IsPlaced i.entry s → ⊥
not_placed i input bits n s t a f (inl z) p = false_true (stands i.text bits s) z (placed_stands s i.text i.entry bits (same_text i input n s a.is) a.typed a.starts p)
not_placed i input bits n s t a f (inr x) p = p.calm x.0 x.1.0 (ap (λ (x : State). x.end) (sym f) ∙ x.1.1)

pub misplaced_turn : (i : ImageFields) (input : List ℕ) (bits : List Bool) (n steps : ℕ) (s t : State) → n < steps → AtStep i input bits n s → s.end ≡ None → t ≡ (step s).0 → turns.Misplaced ≡ told_by (stands i.text bits s) t.end → Misplaces i input steps n s.pc
misplaced_turn i input bits n steps s t l a g f h =
    let m : IsMisplaced (stands i.text bits s) t.end = means (stands i.text bits s) t.end turns.Misplaced h in
    record {
      typed = a.typed;
      below = l;
      before = a.passed.placed;
      going = subst (λ (x : State). x.end ≡ None) a.is g;
      broken = λ p. not_placed i input bits n s t a f m (subst (IsPlaced i.entry) (sym a.is) p);
      stands = ap (λ (x : State). x.pc) a.is;
    }

-- a run that has ended
some_end : (o : Option End) → is_some o ≡ true → (e : End) × (o ≡ Some e)
some_end None h = cc
some_end (Some e) h = (e, refl)

no_end : (o : Option End) → is_some o ≡ false → o ≡ None
no_end None h = refl
no_end (Some e) h = cc

pub end_none : (s : State) (b : Bool) → b ≡ is_some s.end → b ≡ false → s.end ≡ None
end_none s b h k = no_end s.end (sym h ∙ k)

ended_passes : EndStays → (i : ImageFields) (input : List ℕ) (n steps : ℕ) (e : End) → n ≤ steps → WellTyped i.text i.entry → Passed i input n → (clean i input n).end ≡ Some e → Passes i input steps n
ended_passes law i input n steps e l y p h = record {
  typed = y;
  placed = λ m k g. elim (order m n) as (λ z. IsPlaced i.entry (clean i input m)) [ inl x ↦ p.placed m x g | inr x ↦ absurd (apart law i input n m e x h g) ];
  unreported = λ m k code at g. elim (order m n) as (λ z. ⊥) [
    | inl x ↦ p.unreported m (under m n x) code at g
    | inr x ↦ p.unreported n (self n) code at (h ∙ (sym (later law i input n m e x h) ∙ g))
  ];
  within = l;
  going = p.going;
  ended = λ k z. none_end (clean i input n).end e h z;
}
  where
    under : (m n : ℕ) → m < n → m ≤ n
    under m n h = omega arith

    self : (n : ℕ) → n ≤ n
    self n = omega arith

pub early : EndStays → (i : ImageFields) (input : List ℕ) (bits : List Bool) (n steps : ℕ) (s : State) (b : Bool) → n ≤ steps → AtStep i input bits n s → b ≡ is_some s.end → b ≡ true → Passes i input steps n
early law i input bits n steps s b l a h k =
    let f : (e : End) × (s.end ≡ Some e) = some_end s.end (sym h ∙ k) in
    ended_passes law i input n steps f.0 l a.typed a.passed (subst (λ (x : State). x.end ≡ Some f.0) a.is f.1)

-- a run up to the bound
whole_passes : (i : ImageFields) (input : List ℕ) (steps : ℕ) → WellTyped i.text i.entry → Passed i input steps → Passes i input steps steps
whole_passes i input steps y p = record {
  typed = y;
  placed = p.placed;
  unreported = p.unreported;
  within = self steps;
  going = p.going;
  ended = λ k z. less_self steps k;
}
  where
    self : (n : ℕ) → n ≤ n
    self n = omega arith

    less_self : (n : ℕ) → n < n → ⊥
    less_self n h = omega arith

pub whole : (i : ImageFields) (input : List ℕ) (bits : List Bool) (n steps : ℕ) (s : State) → n ≡ steps → AtStep i input bits n s → Passes i input steps steps
whole i input bits n steps s e a = whole_passes i input steps a.typed (subst (Passed i input) e a.passed)
