-- One word in two states side by side, by its sort.
use Rattle.std.proofs.Common.{◌≡◌, ℕ, ap, refl, sym, ◌∙◌, subst, List, [], ◌∷◌, true, inl, inr}
use Rattle.std.specs.Prelude.{◌⊎◌}
use Rattle.hard_words.specs.Words.{extended}
use Rattle.mips_isa.specs.declared.instr.Instr.{Instr}
use Rattle.mips_isa.specs.declared.instr.Instr.TheVariants.{Mult, Multu, Div, Divu}
use Rattle.mips_isa.specs.declared.instr.Act.{Act}
use Rattle.mips_isa.specs.declared.instr.Act.TheVariants.{Write, Move, Both, Load, Store, Go, Link, Pass, Service, Stop}
use Rattle.mips_isa.specs.Machine.{State, reg, act, perform, is_product, store, plus, reads_of, writes_of, break_end}
use Rattle.mips_isa.specs.Locality.{Agree, Puts, Asks, Target}
use Rattle.mips_faults.specs.Beside.{with_parts, SameKept, Outcome, over, IsBoth, IsCalm}
use Rattle.mips_laws.proofs.Locality.{same_act, puts, twins, asks}
use Rattle.mips_laws.proofs.Beside.{Twice, perform_same, perform_twins, store_pair, feed_same}
use Rattle.lint_lockstep.specs.Sorts.{AllOf, Among, Alike, Wrong, Aside, Takes, Halts}
use Rattle.third_lint.proofs.Places.{no_truth}

agrees : (K : ℕ → Type 0) (s : State) (l : List ℕ) (h g : ℕ) (mem : List ℕ) (rs : List ℕ) → SameKept K s.regs l → AllOf K rs → Agree s (with_parts s l h g mem) rs
agrees K s l h g mem [] k a = tt
agrees K s l h g mem (r ∷ rs) k a = (k.same r a.0, agrees K s l h g mem rs k a.1)

-- a list of one that has a number
sole : (q d : ℕ) (ds : List ℕ) → ds ≡ d ∷ [] → Among q ds → q ≡ d
sole q d ds e a = elim (subst (Among q) e a) as (λ x. q ≡ d) [ inl x ↦ x | inr x ↦ absurd x ]

none : (q : ℕ) (ds : List ℕ) → ds ≡ [] → Among q ds → ⊥
none q ds e a = subst (Among q) e a

hits : (a : Act) (ds : List ℕ) (q : ℕ) → Puts ds a → Among q ds → Target a q
hits (Write d v) ds q p m = sole q d ds p m
hits (Move d v) ds q p m = sole q d ds p m
hits (Load d a) ds q p m = sole q d ds p m
hits (Link to) ds q p m = sole q 31 ds p m
hits Service ds q p m = sole q 2 ds p m
hits (Stop e) ds q p m = tt
hits (Both h l) ds q p m = none q ds p m
hits (Store a v) ds q p m = none q ds p m
hits (Go to) ds q p m = none q ds p m
hits Pass ds q p m = none q ds p m

both : (i : Instr) (s : State) → is_product i ≡ true → IsBoth (act i s)
both (Mult rs rt) s h = tt
both (Multu rs rt) s h = tt
both (Div rs rt) s h = tt
both (Divu rs rt) s h = tt
both _ s h = absurd (no_truth h)

-- only the syscall is a service
serves : (K : ℕ → Type 0) (i : Instr) (s : State) → AllOf K (reads_of i) → act i s ≡ Service → K 2 × K 4
serves K i s a e =
    let r : reads_of i ≡ 2 ∷ 4 ∷ [] = subst (Asks (reads_of i)) e (asks i s) in
    let b : AllOf K (2 ∷ 4 ∷ []) = subst (AllOf K) r a in
    (b.0, b.1.0)

pub alike_step : (K L : ℕ → Type 0) (P Q : Type 0) (M : ℕ → Type 0) (i : Instr) (s : State) (l : List ℕ) (h g : ℕ) (mem : List ℕ) → Twice K P M s l h g mem → Alike K L P Q M s i → Outcome L Q M (perform (act i s) s) (perform (act i (with_parts s l h g mem)) (with_parts s l h g mem))
alike_step K L P Q M i s l h g mem t c =
    let T : State = with_parts s l h g mem in
    let e : act i s ≡ act i T = same_act i s T refl (λ m. t.halves (c.halves m)) (agrees K s l h g mem (reads_of i) t.kept c.reads) in
    subst (λ (a : Act). Outcome L Q M (perform (act i s) s) (perform a T)) e
    (perform_same K L P Q M (act i s) s l h g mem t
    (λ q k. elim (c.after q k) as (λ x. K q ⊎ Target (act i s) q) [ inl x ↦ inl x | inr x ↦ inr (hits (act i s) (writes_of i) q (puts i s) x) ])
    (λ sv. serves K i s c.reads sv)
    (λ q. elim (c.products q) as (λ x. P ⊎ IsBoth (act i s)) [ inl x ↦ inl x | inr x ↦ inr (both i s x) ])
    c.loads)

pub wrong_step : (K L : ℕ → Type 0) (P Q : Type 0) (M : ℕ → Type 0) (i : Instr) (s : State) (l : List ℕ) (h g : ℕ) (mem : List ℕ) → Twice K P M s l h g mem → Wrong K L P Q i → IsCalm (perform (act i s) s) → Outcome L Q M (perform (act i s) s) (perform (act i (with_parts s l h g mem)) (with_parts s l h g mem))
wrong_step K L P Q M i s l h g mem t c calm =
    let T : State = with_parts s l h g mem in
    perform_twins K L P Q M s.pc (writes_of i) (act i s) (act i T) s l h g mem t (twins i s T refl c.data_row) c.after c.products calm

same_address : (s : State) (l : List ℕ) (h g : ℕ) (mem : List ℕ) (rs n : ℕ) → reg s rs ≡ reg (with_parts s l h g mem) rs → plus (reg (with_parts s l h g mem) rs) n ≡ plus (reg s rs) n
same_address s l h g mem rs n e = rw e refl

pub aside_step : (K L : ℕ → Type 0) (P Q : Type 0) (M : ℕ → Type 0) (i : Instr) (s : State) (l : List ℕ) (h g : ℕ) (mem : List ℕ) → Twice K P M s l h g mem → Aside K L P Q M s i → Outcome L Q M (perform (act i s) s) (perform (act i (with_parts s l h g mem)) (with_parts s l h g mem))
aside_step K L P Q M i s l h g mem t c =
    let T : State = with_parts s l h g mem in
    let a : ℕ = plus (reg s c.rs) (extended c.imm) in
    let y : act i T ≡ Store a (reg T c.rt) = ap (λ (j : Instr). act j T) c.is ∙ ap (λ (x : ℕ). Store x (reg T c.rt)) (same_address s l h g mem c.rs (extended c.imm) (t.kept.same c.rs c.base)) in
    subst (λ (x : Act). Outcome L Q M (perform x s) (perform (act i T) T)) (sym (ap (λ (j : Instr). act j s) c.is))
    (subst (λ (x : Act). Outcome L Q M (store s a (reg s c.rt)) (perform x T)) (sym y) (store_pair K L P Q M s l h g mem a (reg s c.rt) (reg T c.rt) t c.after c.products (inr c.place_free)))

pub takes_step : (K L : ℕ → Type 0) (P Q : Type 0) (M : ℕ → Type 0) (i : Instr) (s : State) (l : List ℕ) (h g : ℕ) (mem : List ℕ) → Twice K P M s l h g mem → Takes K L P Q s i → Outcome L Q M (perform (act i s) s) (perform (act i (with_parts s l h g mem)) (with_parts s l h g mem))
takes_step K L P Q M i s l h g mem t c =
    subst (λ (j : Instr). Outcome L Q M (perform (act j s) s) (perform (act j (with_parts s l h g mem)) (with_parts s l h g mem))) (sym c.is)
    (feed_same K L P Q M s l h g mem t c.two c.five c.after c.products)

pub halts_step : (L : ℕ → Type 0) (Q : Type 0) (M : ℕ → Type 0) (i : Instr) (s : State) (l : List ℕ) (h g : ℕ) (mem : List ℕ) → Halts i → Outcome L Q M (perform (act i s) s) (perform (act i (with_parts s l h g mem)) (with_parts s l h g mem))
halts_step L Q M i s l h g mem c =
    subst (λ (j : Instr). Outcome L Q M (perform (act j s) s) (perform (act j (with_parts s l h g mem)) (with_parts s l h g mem))) (sym c.is)
    (over (break_end s.pc c.code) refl refl refl)
