-- Words of one stream: what the rules say of their registers, and the two sorts that they have where a stream is wrong.
use Rattle.std.proofs.Common.{◌≡◌, ℕ, ◌+◌, ◌%◌, ◌≤◌, arith, refl, sym, subst, List, [], ◌∷◌, ◌++◌, false, true, Bool, cond, inl, inr}
use Rattle.std.specs.Prelude.{None, ◌⊎◌, ◌==◌, ◌||◌, not, IsTrue, slice_index, slice_set}
use Rattle.hard_words.specs.Words.{extended}
use Rattle.mips_isa.specs.declared.instr.Instr.{Instr}
use Rattle.mips_isa.specs.declared.instr.Instr.TheVariants.{Sll, Break, Beq, Xor, Xori, Ori, Lw}
use Rattle.mips_isa.specs.declared.instr.Act.{Act}
use Rattle.mips_isa.specs.declared.instr.Act.TheVariants.{Write, Move, Both, Load, Store, Go, Link, Pass, Service, Stop}
use Rattle.mips_isa.specs.declared.instr.End.TheVariants.{Exception}
use Rattle.mips_isa.specs.Machine.{State, reg, plus, place, among, load, store, in_memory, ended, moved, with_reg}
use Rattle.mips_isa.specs.Locality.{Reaches}
use Rattle.mips_faults.specs.Beside.{LoadsKept, IsCalm}
use Rattle.mips_text.specs.Text.{InText, At, used_of}
use Rattle.mips_text.specs.Typing.{Role, master, shadow, signs, Of}
use Rattle.harden_lint.specs.Rules.{InHead, OneStream}
use Rattle.lint_lockstep.proofs.Fetch.{same_instr}
use Rattle.lint_lockstep.specs.Sorts.{AllOf, Among}
use Rattle.harden_lint.proofs.Places.{no_truth, in_text}

-- registers of a list
same_zero : (a b : ℕ) → (a == b) ≡ true → a ≡ b
same_zero a b h = grind arith

or_split : (x y : Bool) → (x || y) ≡ true → (x ≡ true) ⊎ (y ≡ true)
or_split true y h = inl refl
or_split false y h = inr h

pub to_among : (q : ℕ) (rs : List ℕ) → IsTrue (among q rs) → Among q rs
to_among q [] h = absurd (no_truth h)
to_among q (x ∷ xs) h = elim (or_split (q == x) (among q xs) h) as (λ z. (q ≡ x) ⊎ Among q xs) [ inl e ↦ inl (same_zero q x e) | inr e ↦ inr (to_among q xs e) ]

self_same : (q : ℕ) → (q == q) ≡ true
self_same q = grind arith

or_left : (x y : Bool) → x ≡ true → (x || y) ≡ true
or_left x y h = rw h refl

or_right : (x y : Bool) → y ≡ true → (x || y) ≡ true
or_right true y h = refl
or_right false y h = h

pub from_among : (q : ℕ) (rs : List ℕ) → Among q rs → IsTrue (among q rs)
from_among q [] h = absurd h
from_among q (x ∷ xs) (inl e) = or_left (q == x) (among q xs) (subst (λ (y : ℕ). (q == y) ≡ true) e (self_same q))
from_among q (x ∷ xs) (inr h) = or_right (q == x) (among q xs) (from_among q xs h)

pub joins_right : (q : ℕ) (xs ys : List ℕ) → IsTrue (among q ys) → IsTrue (among q (xs ++ ys))
joins_right q [] ys h = h
joins_right q (x ∷ xs) ys h = or_right (q == x) (among q (xs ++ ys)) (joins_right q xs ys h)

pub joins_left : (q : ℕ) (xs ys : List ℕ) → IsTrue (among q xs) → IsTrue (among q (xs ++ ys))
joins_left q [] ys h = absurd (no_truth h)
joins_left q (x ∷ xs) ys h = elim (or_split (q == x) (among q xs) h) as (λ z. IsTrue (among q ((x ∷ xs) ++ ys))) [
  | inl e ↦ or_left (q == x) (among q (xs ++ ys)) e
  | inr e ↦ or_right (q == x) (among q (xs ++ ys)) (joins_left q xs ys e)
]

pub all_of : (K : ℕ → Type 0) (rs : List ℕ) → ((q : ℕ) → IsTrue (among q rs) → K q) → AllOf K rs
all_of K [] f = tt
all_of K (r ∷ rs) f = (f r (or_left (r == r) (among r rs) (self_same r)), all_of K rs (λ q h. f q (or_right (q == r) (among q rs) h)))

pub of_all : (K : ℕ → Type 0) (rs : List ℕ) → AllOf K rs → (q : ℕ) → Among q rs → K q
of_all K [] a q m = absurd m
of_all K (r ∷ rs) a q (inl e) = subst K (sym e) a.0
of_all K (r ∷ rs) a q (inr m) = of_all K rs a.1 q m

-- the registers of words of heads
abbrev pub Sign : ℕ → Type 0
Sign r = (r ≡ 0) ⊎ ((r ≡ 2) ⊎ Of signs r)

seven : (u a : ℕ) → u % 4 ≡ 0 → a % 4 ≡ 0 → u ≤ a → a ≤ u + 24 → (a ≡ u) ⊎ ((a ≡ u + 4) ⊎ ((a ≡ u + 8) ⊎ ((a ≡ u + 12) ⊎ ((a ≡ u + 16) ⊎ ((a ≡ u + 20) ⊎ (a ≡ u + 24))))))
seven u a h k l m = grind arith

sign_word : (i : Instr) → AllOf Sign (used_of i) → OneStream i
sign_word i a = record { stream = signs; all = λ r h. of_all Sign (used_of i) a r (to_among r (used_of i) h) }

nop_signs : OneStream (Sll 0 0 0)
nop_signs = sign_word (Sll 0 0 0) (inl refl, (inl refl, tt))

second_signs : (b : Bool) → OneStream (cond b (Xor 24 24 28) (Sll 0 0 0))
second_signs true = sign_word (Xor 24 24 28) (inr (inr refl), (inr (inr refl), (inr (inr refl), tt)))
second_signs false = nop_signs

pub head_signs : (text : List ℕ) (entry a : ℕ) (i : Instr) → At text a i → InHead text entry a → OneStream i
head_signs text entry a i h n =
    let t : InText text a = in_text text a i h in
    let u : InText text n.start = in_text text n.start _ n.stands.differs in
    let to : (b : ℕ) (j : Instr) → a ≡ b → At text b j → OneStream j → OneStream i = λ b j e k o. subst OneStream (same_instr text a j i (subst (λ (x : ℕ). At text x j) (sym e) k) h) o in
    elim (seven n.start a u.aligned t.aligned n.from n.upto) as (λ z. OneStream i) [
      | inl e ↦ to n.start (Xori 24 24 n.head.d) e n.stands.differs (sign_word (Xori 24 24 n.head.d) (inr (inr refl), (inr (inr refl), tt)))
      | inr (inl e) ↦ to (n.start + 4) (cond n.head.fan (Xor 24 24 28) (Sll 0 0 0)) e n.stands.adjusts (second_signs n.head.fan)
      | inr (inr (inl e)) ↦ to (n.start + 8) (Ori 1 0 n.head.s) e n.stands.wants (sign_word (Ori 1 0 n.head.s) (inr (inr refl), (inl refl, tt)))
      | inr (inr (inr (inl e))) ↦ to (n.start + 12) (Ori 28 0 n.head.D) e n.stands.leaves (sign_word (Ori 28 0 n.head.D) (inr (inr refl), (inl refl, tt)))
      | inr (inr (inr (inr (inl e)))) ↦ to (n.start + 16) (Beq 24 1 2) e n.stands.compares (sign_word (Beq 24 1 2) (inr (inr refl), (inr (inr refl), tt)))
      | inr (inr (inr (inr (inr (inl e))))) ↦ to (n.start + 20) (Sll 0 0 0) e n.stands.waits nop_signs
      | inr (inr (inr (inr (inr (inr e))))) ↦ to (n.start + 24) (Break 2) e n.stands.reports (sign_word (Break 2) tt)
    ]

-- places of memory: the words of master registers stand at even places, those of shadow registers at odd ones
abbrev pub Held : Role → ℕ → Type 0
Held master p = p % 2 ≡ 1
Held shadow p = p % 2 ≡ 0
Held signs p = Unit {0}

pub even_place : (a : ℕ) → 0x10010000 ≤ a → a % 8 ≡ 0 → place a % 2 ≡ 0
even_place a h k = omega arith

pub odd_place : (a : ℕ) → 0x10010000 ≤ a → a % 8 ≡ 4 → place a % 2 ≡ 1
odd_place a h k = omega arith

-- a load or a store that makes no exception is in memory
low_end : (s : State) (a : ℕ) → in_memory s a ≡ true → 0x10010000 ≤ a
low_end s a h = grind arith

calm_load_by : (s : State) (d a : ℕ) (b : Bool) → in_memory s a ≡ b → IsCalm (load s d a) → 0x10010000 ≤ a
calm_load_by s d a true e c = low_end s a e
calm_load_by s d a false e c = absurd (elim (a % 4 == 0) as (λ z. IsCalm (cond (not z) (ended (Exception 4 s.pc) s) (cond (not false) (ended (Exception 7 s.pc) s) (record (with_reg (moved s) d (slice_index s.memory (place a))) { last_load = d }, None))) → ⊥) [
  | true ↦ λ f. f 7 s.pc refl
  | false ↦ λ f. f 4 s.pc refl
] (subst (λ (b : Bool). IsCalm (cond (not (a % 4 == 0)) (ended (Exception 4 s.pc) s) (cond (not b) (ended (Exception 7 s.pc) s) (record (with_reg (moved s) d (slice_index s.memory (place a))) { last_load = d }, None)))) e c))

pub calm_load : (s : State) (d a : ℕ) → IsCalm (load s d a) → 0x10010000 ≤ a
calm_load s d a c = calm_load_by s d a (in_memory s a) refl c

calm_store_by : (s : State) (a v : ℕ) (b : Bool) → in_memory s a ≡ b → IsCalm (store s a v) → 0x10010000 ≤ a
calm_store_by s a v true e c = low_end s a e
calm_store_by s a v false e c = absurd (elim (a % 4 == 0) as (λ z. IsCalm (cond (not z) (ended (Exception 5 s.pc) s) (cond (not false) (ended (Exception 7 s.pc) s) (record (moved s) { memory = slice_set s.memory (place a) v }, None))) → ⊥) [
  | true ↦ λ f. f 7 s.pc refl
  | false ↦ λ f. f 5 s.pc refl
] (subst (λ (b : Bool). IsCalm (cond (not (a % 4 == 0)) (ended (Exception 5 s.pc) s) (cond (not b) (ended (Exception 7 s.pc) s) (record (moved s) { memory = slice_set s.memory (place a) v }, None)))) e c))

pub calm_store : (s : State) (a v : ℕ) → IsCalm (store s a v) → 0x10010000 ≤ a
calm_store s a v c = calm_store_by s a v (in_memory s a) refl c

-- memory is loaded by lw alone
pub loads_by : (M : ℕ → Type 0) (i : Instr) (s : State) (a : Act) → Reaches i s a → ((rt rs imm : ℕ) → i ≡ Lw rt rs imm → M (place (plus (reg s rs) (extended imm)))) → LoadsKept M a
loads_by M i s (Load d a) r f = subst (λ (x : ℕ). M (place x)) (sym r.3) (f d r.0 r.1 r.2)
loads_by M i s (Write d v) r f = tt
loads_by M i s (Move d v) r f = tt
loads_by M i s (Both h l) r f = tt
loads_by M i s (Store a v) r f = tt
loads_by M i s (Go to) r f = tt
loads_by M i s (Link to) r f = tt
loads_by M i s Pass r f = tt
loads_by M i s Service r f = tt
loads_by M i s (Stop e) r f = tt
