-- One step of two states side by side, by the sort of the word.
use Rattle.std.proofs.Common.{◌≡◌, ℕ, ap, refl, sym, ◌∙◌, subst, List, [], ◌∷◌, get_or, false, true, Bool, inl, inr, arith, rules}
use Rattle.std.specs.Prelude.{Option, None, ◌⊎◌, ◌==◌, ◌%◌, ◌*◌, ◌^◌}
use Rattle.hard_words.specs.Words.{extended}
use Rattle.mips_isa.specs.declared.instr.Instr.{Instr}
use Rattle.mips_isa.specs.declared.instr.Instr.TheVariants.{Mult, Multu, Div, Divu, Beq}
use Rattle.mips_isa.specs.declared.instr.Act.{Act}
use Rattle.mips_isa.specs.declared.instr.Act.TheVariants.{Write, Move, Both, Load, Store, Go, Link, Pass, Service, Stop}
use Rattle.mips_isa.specs.declared.instr.End.{End}
use Rattle.mips_isa.specs.Machine.{State, reg, act, perform, step, planned, is_product, store, plus, reads_of, writes_of, branch, moved, break_end}
use Rattle.mips_isa.specs.Locality.{Agree, Puts, Asks, Target}
use Rattle.mips_faults.specs.Beside.{with_parts, SameKept, Beside, Outcome, over, IsBoth, IsCalm}
use Rattle.mips_text.specs.Text.{At}
use Rattle.mips_laws.proofs.Locality.{same_act, puts, twins, asks}
use Rattle.mips_laws.proofs.Beside.{Twice, perform_same, perform_twins, store_pair, feed_same}
use Rattle.lint_lockstep.specs.Sorts.{AllOf, Among, Alike, Wrong, Aside, Takes, Halts, Skips, Sort, alike, wrong, takes, aside, halts, skips, Behind, Doomed}
use Rattle.lint_lockstep.proofs.Fetch.{Plans, does, stops, plans, Slot, Quiet, slot_of, quiet_of, going_step}

pub no_truth : false ≡ true → ⊥
no_truth h = search (rules, h)

agrees : (K : ℕ → Type 0) (s : State) (l : List ℕ) (h g : ℕ) (mem : List ℕ) (rs : List ℕ) → SameKept K s.regs l → AllOf K rs → Agree s (with_parts s l h g mem) rs
agrees K s l h g mem [] k a = tt
agrees K s l h g mem (r ∷ rs) k a = (k.same r a.0, agrees K s l h g mem rs k a.1)

-- a list of one that has a number
sole : (q d : ℕ) (ds : List ℕ) → ds ≡ d ∷ [] → Among q ds → q ≡ d
sole q d ds e a = elim (subst (Among q) e a) as (λ x. q ≡ d) [ inl x ↦ x | inr x ↦ absurd x ]

none : (q : ℕ) (ds : List ℕ) → ds ≡ [] → Among q ds → ⊥
none q ds e a = subst (Among q) e a

hits : (a : Act) (ds : List ℕ) (q : ℕ) → Puts ds a → Among q ds → Target a q
hits (Write d v) ds q p m = sole q d ds p m
hits (Move d v) ds q p m = sole q d ds p m
hits (Load d a) ds q p m = sole q d ds p m
hits (Link to) ds q p m = sole q 31 ds p m
hits Service ds q p m = sole q 2 ds p m
hits (Stop e) ds q p m = tt
hits (Both h l) ds q p m = none q ds p m
hits (Store a v) ds q p m = none q ds p m
hits (Go to) ds q p m = none q ds p m
hits Pass ds q p m = none q ds p m

both : (i : Instr) (s : State) → is_product i ≡ true → IsBoth (act i s)
both (Mult rs rt) s h = tt
both (Multu rs rt) s h = tt
both (Div rs rt) s h = tt
both (Divu rs rt) s h = tt
both _ s h = absurd (no_truth h)

-- only the syscall is a service
serves : (K : ℕ → Type 0) (i : Instr) (s : State) → AllOf K (reads_of i) → act i s ≡ Service → K 2 × K 4
serves K i s a e =
    let r : reads_of i ≡ 2 ∷ 4 ∷ [] = subst (Asks (reads_of i)) e (asks i s) in
    let b : AllOf K (2 ∷ 4 ∷ []) = subst (AllOf K) r a in
    (b.0, b.1.0)

alike_step : (K L : ℕ → Type 0) (P Q : Type 0) (M : ℕ → Type 0) (i : Instr) (s : State) (l : List ℕ) (h g : ℕ) (mem : List ℕ) → Twice K P M s l h g mem → Alike K L P Q M s i → Outcome L Q M (perform (act i s) s) (perform (act i (with_parts s l h g mem)) (with_parts s l h g mem))
alike_step K L P Q M i s l h g mem t c =
    let T : State = with_parts s l h g mem in
    let e : act i s ≡ act i T = same_act i s T refl (λ m. t.halves (c.halves m)) (agrees K s l h g mem (reads_of i) t.kept c.reads) in
    subst (λ (a : Act). Outcome L Q M (perform (act i s) s) (perform a T)) e
    (perform_same K L P Q M (act i s) s l h g mem t
    (λ q k. elim (c.after q k) as (λ x. K q ⊎ Target (act i s) q) [ inl x ↦ inl x | inr x ↦ inr (hits (act i s) (writes_of i) q (puts i s) x) ])
    (λ sv. serves K i s c.reads sv)
    (λ q. elim (c.products q) as (λ x. P ⊎ IsBoth (act i s)) [ inl x ↦ inl x | inr x ↦ inr (both i s x) ])
    c.loads)

wrong_step : (K L : ℕ → Type 0) (P Q : Type 0) (M : ℕ → Type 0) (i : Instr) (s : State) (l : List ℕ) (h g : ℕ) (mem : List ℕ) → Twice K P M s l h g mem → Wrong K L P Q i → IsCalm (perform (act i s) s) → Outcome L Q M (perform (act i s) s) (perform (act i (with_parts s l h g mem)) (with_parts s l h g mem))
wrong_step K L P Q M i s l h g mem t c calm =
    let T : State = with_parts s l h g mem in
    perform_twins K L P Q M s.pc (writes_of i) (act i s) (act i T) s l h g mem t (twins i s T refl c.data_row) c.after c.products calm

same_address : (s : State) (l : List ℕ) (h g : ℕ) (mem : List ℕ) (rs n : ℕ) → reg s rs ≡ reg (with_parts s l h g mem) rs → plus (reg (with_parts s l h g mem) rs) n ≡ plus (reg s rs) n
same_address s l h g mem rs n e = rw e refl

aside_step : (K L : ℕ → Type 0) (P Q : Type 0) (M : ℕ → Type 0) (i : Instr) (s : State) (l : List ℕ) (h g : ℕ) (mem : List ℕ) → Twice K P M s l h g mem → Aside K L P Q M s i → Outcome L Q M (perform (act i s) s) (perform (act i (with_parts s l h g mem)) (with_parts s l h g mem))
aside_step K L P Q M i s l h g mem t c =
    let T : State = with_parts s l h g mem in
    let a : ℕ = plus (reg s c.rs) (extended c.imm) in
    let y : act i T ≡ Store a (reg T c.rt) = ap (λ (j : Instr). act j T) c.is ∙ ap (λ (x : ℕ). Store x (reg T c.rt)) (same_address s l h g mem c.rs (extended c.imm) (t.kept.same c.rs c.base)) in
    subst (λ (x : Act). Outcome L Q M (perform x s) (perform (act i T) T)) (sym (ap (λ (j : Instr). act j s) c.is))
    (subst (λ (x : Act). Outcome L Q M (store s a (reg s c.rt)) (perform x T)) (sym y) (store_pair K L P Q M s l h g mem a (reg s c.rt) (reg T c.rt) t c.after c.products (inr c.place_free)))

takes_step : (K L : ℕ → Type 0) (P Q : Type 0) (M : ℕ → Type 0) (i : Instr) (s : State) (l : List ℕ) (h g : ℕ) (mem : List ℕ) → Twice K P M s l h g mem → Takes K L P Q s i → Outcome L Q M (perform (act i s) s) (perform (act i (with_parts s l h g mem)) (with_parts s l h g mem))
takes_step K L P Q M i s l h g mem t c =
    subst (λ (j : Instr). Outcome L Q M (perform (act j s) s) (perform (act j (with_parts s l h g mem)) (with_parts s l h g mem))) (sym c.is)
    (feed_same K L P Q M s l h g mem t c.two c.five c.after c.products)

halts_step : (L : ℕ → Type 0) (Q : Type 0) (M : ℕ → Type 0) (i : Instr) (s : State) (l : List ℕ) (h g : ℕ) (mem : List ℕ) → Halts i → Outcome L Q M (perform (act i s) s) (perform (act i (with_parts s l h g mem)) (with_parts s l h g mem))
halts_step L Q M i s l h g mem c =
    subst (λ (j : Instr). Outcome L Q M (perform (act j s) s) (perform (act j (with_parts s l h g mem)) (with_parts s l h g mem))) (sym c.is)
    (over (break_end s.pc c.code) refl refl refl)

-- where a branch that skips goes, and the states behind it
abbrev pub over_there : State → ℕ
over_there s = plus (plus s.pc 4) ((extended 2 * 4) % 2 ^ 32)

abbrev pub taken_from : State → State
taken_from s = record (moved s) { npc = over_there s; slot = true }

abbrev pub passed_from : State → State
passed_from s = record (moved s) { slot = true }

-- what such a branch leaves: two states side by side, or a second state that is about to report, or a first one
pub data Skipped (K : ℕ → Type 0) (P : Type 0) (M : ℕ → Type 0) (x y : State × Option ℕ) : Type 0 where
  both_take : Beside K P M x.0 y.0 → y.1 ≡ x.1 → Skipped K P M x y
  late : Quiet x.0 → x.1 ≡ None → Slot y.0 → y.1 ≡ None → Skipped K P M x y
  early : Slot x.0 → x.1 ≡ None → Quiet y.0 → y.1 ≡ None → Skipped K P M x y

doomed_from : (s : State) → s.end ≡ None → Behind s.text s.npc (plus s.npc 4) → Doomed (passed_from s)
doomed_from s e b = record { going = e; unloaded = refl; behind = b }

quiet_by : (s : State) (z : Bool) → s.end ≡ None → Behind s.text s.npc (plus s.npc 4) → Quiet (perform (branch z s 2) s).0
quiet_by s true e b = quiet_of (taken_from s) s.npc (plus s.npc 4) e refl refl b
quiet_by s false e b = quiet_of (passed_from s) s.npc (plus s.npc 4) e refl refl b

silent_by : (s : State) (z : Bool) → (perform (branch z s 2) s).1 ≡ None
silent_by s true = refl
silent_by s false = refl

skip_by : (K L : ℕ → Type 0) (P Q : Type 0) (M : ℕ → Type 0) (i : Instr) (s : State) (l : List ℕ) (h g : ℕ) (mem : List ℕ) → s.end ≡ None → Twice K P M s l h g mem → (c : Skips K L P Q M s i) → (y z : Bool) → c.test s ≡ y → c.test (with_parts s l h g mem) ≡ z → Skipped L Q M (perform (branch y s 2) s) (perform (branch z (with_parts s l h g mem) 2) (with_parts s l h g mem))
skip_by K L P Q M i s l h g mem e t c true true o r = both_take (record { regs = l; hi = h; lo = g; memory = mem; is = refl; words = t.words; kept = record { len = t.kept.len; same = c.after l h g mem t.kept o r }; halves = λ q. t.halves (c.products q) }) refl
skip_by K L P Q M i s l h g mem e t c true false o r = late (quiet_by s true e c.behind) refl (slot_of (passed_from (with_parts s l h g mem)) (doomed_from (with_parts s l h g mem) e c.behind)) refl
skip_by K L P Q M i s l h g mem e t c false z o r = early (slot_of (passed_from s) (doomed_from s e c.behind)) refl (quiet_by (with_parts s l h g mem) z e c.behind) (silent_by (with_parts s l h g mem) z)

skip_step : (K L : ℕ → Type 0) (P Q : Type 0) (M : ℕ → Type 0) (i : Instr) (s : State) (l : List ℕ) (h g : ℕ) (mem : List ℕ) → s.end ≡ None → Twice K P M s l h g mem → (c : Skips K L P Q M s i) → Skipped L Q M (perform (act i s) s) (perform (act i (with_parts s l h g mem)) (with_parts s l h g mem))
skip_step K L P Q M i s l h g mem e t c =
    let T : State = with_parts s l h g mem in
    subst (λ (x : Act). Skipped L Q M (perform x s) (perform (act i T) T)) (sym (c.is s))
    (subst (λ (x : Act). Skipped L Q M (perform (branch (c.test s) s 2) s) (perform x T)) (sym (c.is T)) (skip_by K L P Q M i s l h g mem e t c (c.test s) (c.test T) refl refl))

-- A check: one of its two registers is of a right stream, and afterwards both are kept.
same_number : (a b : ℕ) → (a == b) ≡ true → a ≡ b
same_number a b h = grind arith

check_kept : (K : ℕ → Type 0) (a l : List ℕ) (x y : ℕ) → SameKept K a l → get_or a x 0 ≡ get_or a y 0 → get_or l x 0 ≡ get_or l y 0 → K x → get_or a y 0 ≡ get_or l y 0
check_kept K a l x y k c d r = sym c ∙ (k.same x r ∙ d)

check_after : (K L : ℕ → Type 0) (s : State) (x y : ℕ) → (K x ⊎ K y) → ((q : ℕ) → L q → K q ⊎ ((q ≡ x) ⊎ (q ≡ y))) → (l : List ℕ) (h g : ℕ) (mem : List ℕ) → SameKept K s.regs l → (reg s x == reg s y) ≡ true → (reg (with_parts s l h g mem) x == reg (with_parts s l h g mem) y) ≡ true → (q : ℕ) → L q → get_or s.regs q 0 ≡ get_or l q 0
check_after K L s x y r f l h g mem k c d q m =
    let e : get_or s.regs x 0 ≡ get_or s.regs y 0 = same_number _ _ c in
    let n : get_or l x 0 ≡ get_or l y 0 = same_number _ _ d in
    let ex : get_or s.regs x 0 ≡ get_or l x 0 = elim r as (λ w. get_or s.regs x 0 ≡ get_or l x 0) [ inl w ↦ k.same x w | inr w ↦ check_kept K s.regs l y x k (sym e) (sym n) w ] in
    let ey : get_or s.regs y 0 ≡ get_or l y 0 = elim r as (λ w. get_or s.regs y 0 ≡ get_or l y 0) [ inl w ↦ check_kept K s.regs l x y k e n w | inr w ↦ k.same y w ] in
    elim (f q m) as (λ w. get_or s.regs q 0 ≡ get_or l q 0) [
      | inl w ↦ k.same q w
      | inr w ↦ elim w as (λ w. get_or s.regs q 0 ≡ get_or l q 0) [
        | inl z ↦ subst (λ (p : ℕ). get_or s.regs p 0 ≡ get_or l p 0) (sym z) ex
        | inr z ↦ subst (λ (p : ℕ). get_or s.regs p 0 ≡ get_or l p 0) (sym z) ey
      ]
    ]

-- the branch of a check, as a branch that skips
pub check_skips : (K L : ℕ → Type 0) (P Q : Type 0) (M : ℕ → Type 0) (s : State) (x y : ℕ) → (K x ⊎ K y) → ((q : ℕ) → L q → K q ⊎ ((q ≡ x) ⊎ (q ≡ y))) → (Q → P) → Behind s.text s.npc (plus s.npc 4) → Skips K L P Q M s (Beq x y 2)
check_skips K L P Q M s x y r f p b = record {
  test = λ u. reg u x == reg u y;
  is = λ u. refl;
  after = check_after K L s x y r f;
  products = p;
  behind = b;
}

-- what one step of two states side by side leaves
abbrev pub Went : (ℕ → Type 0) → Type 0 → (ℕ → Type 0) → State × Option ℕ → State × Option ℕ → Type 0
Went L Q M x y = Outcome L Q M x y ⊎ Skipped L Q M x y

carried : (R : State × Option ℕ → State × Option ℕ → Type 0) (x x' y y' : State × Option ℕ) → x ≡ x' → y ≡ y' → R x' y' → R x y
carried R x x' y y' e f r = subst (λ (z : State × Option ℕ). R z y) (sym e) (subst (λ (z : State × Option ℕ). R x' z) (sym f) r)

sort_step : (K L : ℕ → Type 0) (P Q : Type 0) (M : ℕ → Type 0) (s : State) (l : List ℕ) (h g : ℕ) (mem : List ℕ) (i : Instr) → s.end ≡ None → Twice K P M s l h g mem → IsCalm (perform (act i s) s) → Sort K L P Q M s i → Went L Q M (perform (act i s) s) (perform (act i (with_parts s l h g mem)) (with_parts s l h g mem))
sort_step K L P Q M s l h g mem i e t calm (alike c) = inl (alike_step K L P Q M i s l h g mem t c)
sort_step K L P Q M s l h g mem i e t calm (takes c) = inl (takes_step K L P Q M i s l h g mem t c)
sort_step K L P Q M s l h g mem i e t calm (aside c) = inl (aside_step K L P Q M i s l h g mem t c)
sort_step K L P Q M s l h g mem i e t calm (wrong c) = inl (wrong_step K L P Q M i s l h g mem t c calm)
sort_step K L P Q M s l h g mem i e t calm (halts c) = inl (halts_step L Q M i s l h g mem c)
sort_step K L P Q M s l h g mem i e t calm (skips c) = inr (skip_step K L P Q M i s l h g mem e t c)

-- a step that is done
pub done_step : (s : State) (i : Instr) → s.end ≡ None → planned s ≡ act i s → step s ≡ perform (act i s) s
done_step s i e p = going_step s e ∙ ap (λ (a : Act). perform a s) p

pub stop_step : (s : State) (e : End) → s.end ≡ None → planned s ≡ Stop e → step s ≡ perform (Stop e) s
stop_step s e z p = going_step s z ∙ ap (λ (a : Act). perform a s) p

plans_step : (K L : ℕ → Type 0) (P Q : Type 0) (M : ℕ → Type 0) (s : State) (l : List ℕ) (h g : ℕ) (mem : List ℕ) → s.end ≡ None → Twice K P M s l h g mem → IsCalm (step s) → ((i : Instr) → At s.text s.pc i → planned s ≡ act i s → Sort K L P Q M s i) → Plans s (with_parts s l h g mem) → Went L Q M (step s) (step (with_parts s l h g mem))
plans_step K L P Q M s l h g mem e t calm f (does i o z a b) =
    let T : State = with_parts s l h g mem in
    carried (Went L Q M) (step s) (perform (act i s) s) (step T) (perform (act i T) T) (done_step s i e a) (done_step T i e b)
    (sort_step K L P Q M s l h g mem i e t (subst IsCalm (done_step s i e a) calm) (f i o a))
plans_step K L P Q M s l h g mem e t calm f (stops x a b) =
    let T : State = with_parts s l h g mem in
    carried (Went L Q M) (step s) (perform (Stop x) s) (step T) (perform (Stop x) T) (stop_step s x e a) (stop_step T x e b) (inl (over x refl refl refl))

pub pair_step : (K L : ℕ → Type 0) (P Q : Type 0) (M : ℕ → Type 0) (s t : State) → K 0 → s.end ≡ None → Beside K P M s t → IsCalm (step s) → ((i : Instr) → At s.text s.pc i → planned s ≡ act i s → Sort K L P Q M s i) → Went L Q M (step s) (step t)
pair_step K L P Q M s t z e b calm f =
    subst (λ (u : State). Went L Q M (step s) (step u)) (sym b.is)
    (plans_step K L P Q M s b.regs b.hi b.lo b.memory e (record { zero = z; words = b.words; kept = b.kept; halves = b.halves }) calm f (plans s b.regs b.hi b.lo b.memory))
