-- Registers of lists, and loads and stores that end in no exception.
use Rattle.std.proofs.Common.{◌≡◌, ℕ, ◌%◌, ◌≤◌, arith, rules, ap, refl, sym, ◌∙◌, subst, List, [], ◌∷◌, ◌++◌, false, true, Bool, cond, inl, inr}
use Rattle.std.specs.Prelude.{None, ◌⊎◌, ◌==◌, ◌||◌, not, IsTrue, slice_index, slice_set}
use Rattle.hard_words.specs.Words.{extended}
use Rattle.mips_isa.specs.declared.instr.Instr.{Instr}
use Rattle.mips_isa.specs.declared.instr.Instr.TheVariants.{Mfhi, Mflo, Lw}
use Rattle.mips_isa.specs.declared.instr.Act.{Act}
use Rattle.mips_isa.specs.declared.instr.Act.TheVariants.{Write, Move, Both, Load, Store, Go, Link, Pass, Service, Stop}
use Rattle.mips_isa.specs.declared.instr.End.TheVariants.{Exception}
use Rattle.mips_isa.specs.Machine.{State, reg, plus, place, among, writes_of, reads_of, in_memory, load, store, ended, moved, with_reg}
use Rattle.mips_isa.specs.Locality.{Reaches, is_data, is_move}
use Rattle.mips_faults.specs.Beside.{LoadsKept, IsCalm}
use Rattle.mips_text.specs.Text.{used_of}
use Rattle.lint_lockstep.specs.Sorts.{AllOf, Among}
use Rattle.third_lint.proofs.Places.{no_truth}

-- registers of a list
same_zero : (a b : ℕ) → (a == b) ≡ true → a ≡ b
same_zero a b h = grind arith

or_split : (x y : Bool) → (x || y) ≡ true → (x ≡ true) ⊎ (y ≡ true)
or_split true y h = inl refl
or_split false y h = inr h

pub to_among : (q : ℕ) (rs : List ℕ) → IsTrue (among q rs) → Among q rs
to_among q [] h = absurd (no_truth h)
to_among q (x ∷ xs) h = elim (or_split (q == x) (among q xs) h) as (λ z. (q ≡ x) ⊎ Among q xs) [ inl e ↦ inl (same_zero q x e) | inr e ↦ inr (to_among q xs e) ]

self_same : (q : ℕ) → (q == q) ≡ true
self_same q = grind arith

or_left : (x y : Bool) → x ≡ true → (x || y) ≡ true
or_left x y h = rw h refl

or_right : (x y : Bool) → y ≡ true → (x || y) ≡ true
or_right true y h = refl
or_right false y h = h

pub from_among : (q : ℕ) (rs : List ℕ) → Among q rs → IsTrue (among q rs)
from_among q [] h = absurd h
from_among q (x ∷ xs) (inl e) = or_left (q == x) (among q xs) (subst (λ (y : ℕ). (q == y) ≡ true) e (self_same q))
from_among q (x ∷ xs) (inr h) = or_right (q == x) (among q xs) (from_among q xs h)

pub joins_right : (q : ℕ) (xs ys : List ℕ) → IsTrue (among q ys) → IsTrue (among q (xs ++ ys))
joins_right q [] ys h = h
joins_right q (x ∷ xs) ys h = or_right (q == x) (among q (xs ++ ys)) (joins_right q xs ys h)

pub joins_left : (q : ℕ) (xs ys : List ℕ) → IsTrue (among q xs) → IsTrue (among q (xs ++ ys))
joins_left q [] ys h = absurd (no_truth h)
joins_left q (x ∷ xs) ys h = elim (or_split (q == x) (among q xs) h) as (λ z. IsTrue (among q ((x ∷ xs) ++ ys))) [
  | inl e ↦ or_left (q == x) (among q (xs ++ ys)) e
  | inr e ↦ or_right (q == x) (among q (xs ++ ys)) (joins_left q xs ys e)
]

pub all_of : (K : ℕ → Type 0) (rs : List ℕ) → ((q : ℕ) → IsTrue (among q rs) → K q) → AllOf K rs
all_of K [] f = tt
all_of K (r ∷ rs) f = (f r (or_left (r == r) (among r rs) (self_same r)), all_of K rs (λ q h. f q (or_right (q == r) (among q rs) h)))

pub of_all : (K : ℕ → Type 0) (rs : List ℕ) → AllOf K rs → (q : ℕ) → Among q rs → K q
of_all K [] a q m = absurd m
of_all K (r ∷ rs) a q (inl e) = subst K (sym e) a.0
of_all K (r ∷ rs) a q (inr m) = of_all K rs a.1 q m

-- a load or a store that makes no exception is in memory
low_end : (s : State) (a : ℕ) → in_memory s a ≡ true → 0x10010000 ≤ a
low_end s a h = grind arith

calm_load_by : (s : State) (d a : ℕ) (b : Bool) → in_memory s a ≡ b → IsCalm (load s d a) → 0x10010000 ≤ a
calm_load_by s d a true e c = low_end s a e
calm_load_by s d a false e c = absurd (elim (a % 4 == 0) as (λ z. IsCalm (cond (not z) (ended (Exception 4 s.pc) s) (cond (not false) (ended (Exception 7 s.pc) s) (record (with_reg (moved s) d (slice_index s.memory (place a))) { last_load = d }, None))) → ⊥) [
  | true ↦ λ f. f 7 s.pc refl
  | false ↦ λ f. f 4 s.pc refl
] (subst (λ (b : Bool). IsCalm (cond (not (a % 4 == 0)) (ended (Exception 4 s.pc) s) (cond (not b) (ended (Exception 7 s.pc) s) (record (with_reg (moved s) d (slice_index s.memory (place a))) { last_load = d }, None)))) e c))

pub calm_load : (s : State) (d a : ℕ) → IsCalm (load s d a) → 0x10010000 ≤ a
calm_load s d a c = calm_load_by s d a (in_memory s a) refl c

calm_store_by : (s : State) (a v : ℕ) (b : Bool) → in_memory s a ≡ b → IsCalm (store s a v) → 0x10010000 ≤ a
calm_store_by s a v true e c = low_end s a e
calm_store_by s a v false e c = absurd (elim (a % 4 == 0) as (λ z. IsCalm (cond (not z) (ended (Exception 5 s.pc) s) (cond (not false) (ended (Exception 7 s.pc) s) (record (moved s) { memory = slice_set s.memory (place a) v }, None))) → ⊥) [
  | true ↦ λ f. f 7 s.pc refl
  | false ↦ λ f. f 5 s.pc refl
] (subst (λ (b : Bool). IsCalm (cond (not (a % 4 == 0)) (ended (Exception 5 s.pc) s) (cond (not b) (ended (Exception 7 s.pc) s) (record (moved s) { memory = slice_set s.memory (place a) v }, None)))) e c))

pub calm_store : (s : State) (a v : ℕ) → IsCalm (store s a v) → 0x10010000 ≤ a
calm_store s a v c = calm_store_by s a v (in_memory s a) refl c

-- memory is loaded by lw alone
pub loads_by : (M : ℕ → Type 0) (i : Instr) (s : State) (a : Act) → Reaches i s a → ((rt rs imm : ℕ) → i ≡ Lw rt rs imm → M (place (plus (reg s rs) (extended imm)))) → LoadsKept M a
loads_by M i s (Load d a) r f = subst (λ (x : ℕ). M (place x)) (sym r.3) (f d r.0 r.1 r.2)
loads_by M i s (Write d v) r f = tt
loads_by M i s (Move d v) r f = tt
loads_by M i s (Both h l) r f = tt
loads_by M i s (Store a v) r f = tt
loads_by M i s (Go to) r f = tt
loads_by M i s (Link to) r f = tt
loads_by M i s Pass r f = tt
loads_by M i s Service r f = tt
loads_by M i s (Stop e) r f = tt

pub among_writes : (i : Instr) (q : ℕ) → IsTrue (among q (writes_of i)) → IsTrue (among q (used_of i))
among_writes i q h = joins_left q (writes_of i) (reads_of i) h

pub among_reads : (i : Instr) (q : ℕ) → IsTrue (among q (reads_of i)) → IsTrue (among q (used_of i))
among_reads i q h = joins_right q (writes_of i) (reads_of i) h

pub listed : (q : ℕ) (xs ys : List ℕ) → xs ≡ ys → IsTrue (among q xs) → IsTrue (among q ys)
listed q xs ys e h = subst (λ (l : List ℕ). IsTrue (among q l)) e h

pub alone : (q x : ℕ) → q ≡ x → IsTrue (among q (x ∷ []))
alone q x e = from_among q (x ∷ []) (inl e)

pub only_one : (q x : ℕ) → IsTrue (among q (x ∷ [])) → q ≡ x
only_one q x h = elim (to_among q (x ∷ []) h) as (λ z. q ≡ x) [ inl e ↦ e | inr e ↦ absurd e ]

pub lw_data : (i : Instr) (rt rs imm : ℕ) → is_data i ≡ false → i ≡ Lw rt rs imm → ⊥
lw_data i rt rs imm d e = no_truth (sym d ∙ ap (λ (j : Instr). is_data j) e)

pub move_of : (i : Instr) → is_move i ≡ true → (rd : ℕ) × ((i ≡ Mfhi rd) ⊎ (i ≡ Mflo rd))
move_of (Mfhi rd) h = (rd, inl refl)
move_of (Mflo rd) h = (rd, inr refl)
move_of _ h = absurd (no_truth h)

pub move_writes : (i : Instr) (rd : ℕ) → (i ≡ Mfhi rd) ⊎ (i ≡ Mflo rd) → writes_of i ≡ rd ∷ []
move_writes i rd (inl e) = ap (λ (j : Instr). writes_of j) e
move_writes i rd (inr e) = ap (λ (j : Instr). writes_of j) e

pub move_reads : (i : Instr) (rd : ℕ) → (i ≡ Mfhi rd) ⊎ (i ≡ Mflo rd) → reads_of i ≡ []
move_reads i rd (inl e) = ap (λ (j : Instr). reads_of j) e
move_reads i rd (inr e) = ap (λ (j : Instr). reads_of j) e

pub head_same : (x y : ℕ) → x ∷ [] ≡ y ∷ [] → x ≡ y
head_same x y h = search (rules, h)
