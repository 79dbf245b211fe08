-- One act, and two acts of one kind, on two states side by side.
use Rattle.std.proofs.Common.{◌≡◌, ◌≢◌, ℕ, ◌+◌, ◌-◌, ◌%◌, arith, ap, refl, sym, ◌∙◌, subst, List, [], ◌∷◌, length, get_or, false, true, Bool, cond, inl, inr}
use Rattle.std.specs.Prelude.{Option, Some, None, ◌⊎◌, ◌==◌, nat_lt, not, slice_index, slice_set, IsTrue}
use Rattle.std.proofs.lemmas.Grind.{common_steps}
use Rattle.mips_isa.specs.declared.instr.Act.{Act}
use Rattle.mips_isa.specs.declared.instr.Act.TheVariants.{Write, Move, Both, Load, Store, Go, Link, Pass, Service, Stop}
use Rattle.mips_isa.specs.declared.instr.End.{End}
use Rattle.mips_isa.specs.declared.instr.End.TheVariants.{Exception, Exited, Starved}
use Rattle.mips_isa.specs.Machine.{State, reg, perform, written, moved, with_reg, load, store, service, ended, in_memory, place, plus}
use Rattle.mips_isa.specs.Locality.{Twins, Target}
use Rattle.mips_faults.specs.Beside.{with_parts, SameKept, Beside, Outcome, on, over, fails, IsBoth, LoadsKept, IsCalm, Kept, BesideKept, OutcomeKept, Carries, ActBeside}

-- plain lists
set_len : (a b : List ℕ) (d e v w : ℕ) → length a ≡ length b → length (slice_set a d v) ≡ length (slice_set b e w)
set_len a b d e v w h = grind (arith, common_steps)

set_equal : (a b : List ℕ) (d v q : ℕ) → length a ≡ length b → (q ≡ d) ⊎ (get_or a q 0 ≡ get_or b q 0) → get_or (slice_set a d v) q 0 ≡ get_or (slice_set b d v) q 0
set_equal a b d v q l h = grind (arith, common_steps)

set_apart : (a b : List ℕ) (d v w q : ℕ) → q ≢ d → get_or a q 0 ≡ get_or b q 0 → get_or (slice_set a d v) q 0 ≡ get_or (slice_set b d w) q 0
set_apart a b d v w q n h = grind (arith, common_steps)

same_zero : (d : ℕ) → (d == 0) ≡ true → d ≡ 0
same_zero d h = grind arith

written_equal_by : (K L : ℕ → Type 0) (d v : ℕ) (a b : List ℕ) (z : Bool) → (d == 0) ≡ z → K 0 → SameKept K a b → ((q : ℕ) → L q → K q ⊎ (q ≡ d)) → SameKept L (cond z a (slice_set a d v)) (cond z b (slice_set b d v))
written_equal_by K L d v a b true e k0 h f = record { len = h.len; same = λ q k. elim (f q k) as (λ x. get_or a q 0 ≡ get_or b q 0) [ inl x ↦ h.same q x | inr x ↦ h.same q (subst K (sym (x ∙ same_zero d e)) k0) ] }
written_equal_by K L d v a b false e k0 h f = record { len = set_len a b d d v v h.len; same = λ q k. set_equal a b d v q h.len (elim (f q k) as (λ x. (q ≡ d) ⊎ (get_or a q 0 ≡ get_or b q 0)) [ inl x ↦ inr (h.same q x) | inr x ↦ inl x ]) }

-- the kept registers after a write of one value
pub written_equal : (K L : ℕ → Type 0) (d v : ℕ) (a b : List ℕ) → K 0 → SameKept K a b → ((q : ℕ) → L q → K q ⊎ (q ≡ d)) → SameKept L (written a d v) (written b d v)
written_equal K L d v a b k0 h f = written_equal_by K L d v a b (d == 0) refl k0 h f

not_zero : (d q : ℕ) → (d == 0) ≡ false → (d ≡ 0) ⊎ (q ≢ d) → q ≢ d
not_zero d q e h = grind arith

written_apart_by : (K L : ℕ → Type 0) (d v w : ℕ) (a b : List ℕ) (z : Bool) → (d == 0) ≡ z → SameKept K a b → ((q : ℕ) → L q → K q × ((d ≡ 0) ⊎ (q ≢ d))) → SameKept L (cond z a (slice_set a d v)) (cond z b (slice_set b d w))
written_apart_by K L d v w a b true e h f = record { len = h.len; same = λ q k. h.same q (f q k).0 }
written_apart_by K L d v w a b false e h f = record { len = set_len a b d d v w h.len; same = λ q k. set_apart a b d v w q (not_zero d q e (f q k).1) (h.same q (f q k).0) }

-- and after one of two values
pub written_apart : (K L : ℕ → Type 0) (d v w : ℕ) (a b : List ℕ) → SameKept K a b → ((q : ℕ) → L q → K q × ((d ≡ 0) ⊎ (q ≢ d))) → SameKept L (written a d v) (written b d w)
written_apart K L d v w a b h f = written_apart_by K L d v w a b (d == 0) refl h f

-- nothing written
pub narrowed : (K L : ℕ → Type 0) (a b : List ℕ) → SameKept K a b → ((q : ℕ) → L q → K q) → SameKept L a b
narrowed K L a b h f = record { len = h.len; same = λ q k. h.same q (f q k) }

no : (A : Type 0) (a : A ⊎ ⊥) → A
no A (inl a) = a
no A (inr b) = absurd b

-- one act on two states side by side
pub record Twice (K : ℕ → Type 0) (P : Type 0) (M : ℕ → Type 0) (s : State) (l : List ℕ) (h g : ℕ) (mem : List ℕ) : Type 0 where
  pub zero : K 0
  pub words : SameKept M s.memory mem
  pub kept : SameKept K s.regs l
  pub halves : P → (s.hi ≡ h) × (s.lo ≡ g)

-- a load and a store, where the place is there or not
abbrev pub load_by : Bool → State → ℕ → ℕ → State × Option ℕ
load_by b s r a =
    cond (not (a % 4 == 0)) (ended (Exception 4 s.pc) s) (
    cond (not b) (ended (Exception 7 s.pc) s)
    (record (with_reg (moved s) r (slice_index s.memory (place a))) { last_load = r }, None))

abbrev pub store_by : Bool → State → ℕ → ℕ → State × Option ℕ
store_by b s a v =
    cond (not (a % 4 == 0)) (ended (Exception 5 s.pc) s) (
    cond (not b) (ended (Exception 7 s.pc) s)
    (record (moved s) { memory = slice_set s.memory (place a) v }, None))

-- memory of one length has the same places
pub same_places : (s : State) (l : List ℕ) (h g : ℕ) (mem : List ℕ) (a : ℕ) → length s.memory ≡ length mem → in_memory (with_parts s l h g mem) a ≡ in_memory s a
same_places s l h g mem a e = rw e refl

pub load_is : (s : State) (b : Bool) (d a : ℕ) → in_memory s a ≡ b → load s d a ≡ load_by b s d a
load_is s b d a e = rw e refl

pub store_is : (s : State) (b : Bool) (a v : ℕ) → in_memory s a ≡ b → store s a v ≡ store_by b s a v
store_is s b a v e = rw e refl

load_same_by : (K L : ℕ → Type 0) (P Q : Type 0) (M : ℕ → Type 0) (s : State) (l : List ℕ) (h g : ℕ) (mem : List ℕ) (d a : ℕ) (b : Bool) → Twice K P M s l h g mem → ((q : ℕ) → L q → K q ⊎ (q ≡ d)) → (Q → P) → M (place a) → Outcome L Q M (load_by b s d a) (load_by b (with_parts s l h g mem) d a)
load_same_by K L P Q M s l h g mem d a b t f p w =
    let T : State = with_parts s l h g mem in
    let v : ℕ = slice_index s.memory (place a) in
    let u : ℕ = slice_index mem (place a) in
    let e : v ≡ u = t.words.same (place a) w in
    let kept : SameKept L (written s.regs d v) (written l d u) = subst (λ (x : ℕ). SameKept L (written s.regs d v) (written l d x)) e (written_equal K L d v s.regs l t.zero t.kept f) in
    elim (not (a % 4 == 0)) as (λ z. Outcome L Q M
    (cond z (ended (Exception 4 s.pc) s) (cond (not b) (ended (Exception 7 s.pc) s) (record (with_reg (moved s) d v) { last_load = d }, None)))
    (cond z (ended (Exception 4 s.pc) T) (cond (not b) (ended (Exception 7 s.pc) T) (record (with_reg (moved T) d u) { last_load = d }, None)))) [
      | true ↦ over (Exception 4 s.pc) refl refl refl
      | false ↦ elim (not b) as (λ z. Outcome L Q M
          (cond z (ended (Exception 7 s.pc) s) (record (with_reg (moved s) d v) { last_load = d }, None))
          (cond z (ended (Exception 7 s.pc) T) (record (with_reg (moved T) d u) { last_load = d }, None))) [
            | true ↦ over (Exception 7 s.pc) refl refl refl
            | false ↦ on (record { regs = written l d u; hi = h; lo = g; memory = mem; is = refl; words = t.words; kept = kept; halves = λ q. t.halves (p q) }) refl
          ]
    ]

load_same : (K L : ℕ → Type 0) (P Q : Type 0) (M : ℕ → Type 0) (s : State) (l : List ℕ) (h g : ℕ) (mem : List ℕ) (d a : ℕ) → Twice K P M s l h g mem → ((q : ℕ) → L q → K q ⊎ (q ≡ d)) → (Q → P) → M (place a) → Outcome L Q M (load s d a) (load (with_parts s l h g mem) d a)
load_same K L P Q M s l h g mem d a t f p w =
    subst (λ (x : State × Option ℕ). Outcome L Q M (load s d a) x) (sym (load_is (with_parts s l h g mem) (in_memory s a) d a (same_places s l h g mem a t.words.len)))
    (load_same_by K L P Q M s l h g mem d a (in_memory s a) t f p w)

-- a store of two values at one place: either the values are the same, or the place is not kept
abbrev pub StoresWell : (ℕ → Type 0) → ℕ → ℕ → ℕ → Type 0
StoresWell M a v w = (v ≡ w) ⊎ (M (place a) → ⊥)

words_after : (M : ℕ → Type 0) (x y : List ℕ) (a v w : ℕ) → SameKept M x y → StoresWell M a v w → SameKept M (slice_set x (place a) v) (slice_set y (place a) w)
words_after M x y a v w k (inl e) = record { len = set_len x y (place a) (place a) v w k.len; same = λ q m. subst (λ (z : ℕ). get_or (slice_set x (place a) v) q 0 ≡ get_or (slice_set y (place a) z) q 0) e (set_equal x y (place a) v q k.len (inr (k.same q m))) }
words_after M x y a v w k (inr n) = record { len = set_len x y (place a) (place a) v w k.len; same = λ q m. set_apart x y (place a) v w q (λ e. n (subst M e m)) (k.same q m) }

store_pair_by : (K L : ℕ → Type 0) (P Q : Type 0) (M : ℕ → Type 0) (s : State) (l : List ℕ) (h g : ℕ) (mem : List ℕ) (a v w : ℕ) (b : Bool) → Twice K P M s l h g mem → ((q : ℕ) → L q → K q) → (Q → P) → StoresWell M a v w → Outcome L Q M (store_by b s a v) (store_by b (with_parts s l h g mem) a w)
store_pair_by K L P Q M s l h g mem a v w b t f p c =
    let T : State = with_parts s l h g mem in
    elim (not (a % 4 == 0)) as (λ z. Outcome L Q M
    (cond z (ended (Exception 5 s.pc) s) (cond (not b) (ended (Exception 7 s.pc) s) (record (moved s) { memory = slice_set s.memory (place a) v }, None)))
    (cond z (ended (Exception 5 s.pc) T) (cond (not b) (ended (Exception 7 s.pc) T) (record (moved T) { memory = slice_set mem (place a) w }, None)))) [
      | true ↦ over (Exception 5 s.pc) refl refl refl
      | false ↦ elim (not b) as (λ z. Outcome L Q M
          (cond z (ended (Exception 7 s.pc) s) (record (moved s) { memory = slice_set s.memory (place a) v }, None))
          (cond z (ended (Exception 7 s.pc) T) (record (moved T) { memory = slice_set mem (place a) w }, None))) [
            | true ↦ over (Exception 7 s.pc) refl refl refl
            | false ↦ on (record { regs = l; hi = h; lo = g; memory = slice_set mem (place a) w; is = refl; words = words_after M s.memory mem a v w t.words c; kept = narrowed K L s.regs l t.kept f; halves = λ q. t.halves (p q) }) refl
          ]
    ]

-- a store at one address, of one value or where nothing is kept
pub store_pair : (K L : ℕ → Type 0) (P Q : Type 0) (M : ℕ → Type 0) (s : State) (l : List ℕ) (h g : ℕ) (mem : List ℕ) (a v w : ℕ) → Twice K P M s l h g mem → ((q : ℕ) → L q → K q) → (Q → P) → StoresWell M a v w → Outcome L Q M (store s a v) (store (with_parts s l h g mem) a w)
store_pair K L P Q M s l h g mem a v w t f p c =
    subst (λ (x : State × Option ℕ). Outcome L Q M (store s a v) x) (sym (store_is (with_parts s l h g mem) (in_memory s a) a w (same_places s l h g mem a t.words.len)))
    (store_pair_by K L P Q M s l h g mem a v w (in_memory s a) t f p c)

-- a service of this number with this argument
abbrev service_by : ℕ → ℕ → State → State × Option ℕ
service_by n a s =
    cond (n == 1) (moved s, Some a) (
    cond (n == 5) (cond (nat_lt s.fed (length s.feed)) (record (with_reg (moved s) 2 (slice_index s.feed s.fed)) { fed = s.fed + 1 }, None) (ended Starved s)) (
    cond (n == 17) (ended (Exited a) s)
    (ended (Exception 8 s.pc) s)))

service_is : (s : State) (n a : ℕ) → reg s 2 ≡ n → reg s 4 ≡ a → service s ≡ service_by n a s
service_is s n a e f = rw (e, f) refl

service_by_same : (K L : ℕ → Type 0) (P Q : Type 0) (M : ℕ → Type 0) (s : State) (l : List ℕ) (h g : ℕ) (mem : List ℕ) (n a : ℕ) → Twice K P M s l h g mem → K 2 → ((q : ℕ) → L q → K q ⊎ (q ≡ 2)) → (Q → P) → Outcome L Q M (service_by n a s) (service_by n a (with_parts s l h g mem))
service_by_same K L P Q M s l h g mem n a t two f b =
    let T : State = with_parts s l h g mem in
    let all : (q : ℕ) → L q → K q = λ q k. elim (f q k) as (λ x. K q) [ inl x ↦ x | inr x ↦ subst K (sym x) two ] in
    elim (n == 1) as (λ z. Outcome L Q M
    (cond z (moved s, Some a) (cond (n == 5) (cond (nat_lt s.fed (length s.feed)) (record (with_reg (moved s) 2 (slice_index s.feed s.fed)) { fed = s.fed + 1 }, None) (ended Starved s)) (cond (n == 17) (ended (Exited a) s) (ended (Exception 8 s.pc) s))))
    (cond z (moved T, Some a) (cond (n == 5) (cond (nat_lt s.fed (length s.feed)) (record (with_reg (moved T) 2 (slice_index s.feed s.fed)) { fed = s.fed + 1 }, None) (ended Starved T)) (cond (n == 17) (ended (Exited a) T) (ended (Exception 8 s.pc) T))))) [
      | true ↦ on (record { regs = l; hi = h; lo = g; memory = mem; is = refl; words = t.words; kept = narrowed K L s.regs l t.kept all; halves = λ q. t.halves (b q) }) refl
      | false ↦ elim (n == 5) as (λ z. Outcome L Q M
          (cond z (cond (nat_lt s.fed (length s.feed)) (record (with_reg (moved s) 2 (slice_index s.feed s.fed)) { fed = s.fed + 1 }, None) (ended Starved s)) (cond (n == 17) (ended (Exited a) s) (ended (Exception 8 s.pc) s)))
          (cond z (cond (nat_lt s.fed (length s.feed)) (record (with_reg (moved T) 2 (slice_index s.feed s.fed)) { fed = s.fed + 1 }, None) (ended Starved T)) (cond (n == 17) (ended (Exited a) T) (ended (Exception 8 s.pc) T)))) [
            | true ↦ elim (nat_lt s.fed (length s.feed)) as (λ z. Outcome L Q M
                (cond z (record (with_reg (moved s) 2 (slice_index s.feed s.fed)) { fed = s.fed + 1 }, None) (ended Starved s))
                (cond z (record (with_reg (moved T) 2 (slice_index s.feed s.fed)) { fed = s.fed + 1 }, None) (ended Starved T))) [
                  | true ↦ on (record { regs = written l 2 (slice_index s.feed s.fed); hi = h; lo = g; memory = mem; is = refl; words = t.words; kept = written_equal K L 2 (slice_index s.feed s.fed) s.regs l t.zero t.kept f; halves = λ q. t.halves (b q) }) refl
                  | false ↦ over Starved refl refl refl
                ]
            | false ↦ elim (n == 17) as (λ z. Outcome L Q M (cond z (ended (Exited a) s) (ended (Exception 8 s.pc) s)) (cond z (ended (Exited a) T) (ended (Exception 8 s.pc) T))) [
              | true ↦ over (Exited a) refl refl refl
              | false ↦ over (Exception 8 s.pc) refl refl refl
            ]
          ]
    ]

service_same : (K L : ℕ → Type 0) (P Q : Type 0) (M : ℕ → Type 0) (s : State) (l : List ℕ) (h g : ℕ) (mem : List ℕ) → Twice K P M s l h g mem → K 2 × K 4 → ((q : ℕ) → L q → K q ⊎ (q ≡ 2)) → (Q → P) → Outcome L Q M (service s) (service (with_parts s l h g mem))
service_same K L P Q M s l h g mem t k f b =
    subst (λ (x : State × Option ℕ). Outcome L Q M (service s) x) (sym (service_is (with_parts s l h g mem) (reg s 2) (reg s 4) (sym (t.kept.same 2 k.0)) (sym (t.kept.same 4 k.1))))
    (service_by_same K L P Q M s l h g mem (reg s 2) (reg s 4) t k.0 f b)

-- one act on both: what is kept afterwards was kept before, or is what the act writes
pub perform_same : (K L : ℕ → Type 0) (P Q : Type 0) (M : ℕ → Type 0) (a : Act) (s : State) (l : List ℕ) (h g : ℕ) (mem : List ℕ) → Twice K P M s l h g mem → ((q : ℕ) → L q → K q ⊎ Target a q) → (a ≡ Service → K 2 × K 4) → (Q → P ⊎ IsBoth a) → LoadsKept M a → Outcome L Q M (perform a s) (perform a (with_parts s l h g mem))
perform_same K L P Q M (Write d v) s l h g mem t f n b w = on (record { regs = written l d v; hi = h; lo = g; memory = mem; is = refl; words = t.words; kept = written_equal K L d v s.regs l t.zero t.kept f; halves = λ q. t.halves (no P (b q)) }) refl
perform_same K L P Q M (Move d v) s l h g mem t f n b w = on (record { regs = written l d v; hi = h; lo = g; memory = mem; is = refl; words = t.words; kept = written_equal K L d v s.regs l t.zero t.kept f; halves = λ q. t.halves (no P (b q)) }) refl
perform_same K L P Q M (Both x y) s l h g mem t f n b w = on (record { regs = l; hi = x; lo = y; memory = mem; is = refl; words = t.words; kept = narrowed K L s.regs l t.kept (λ q k. no (K q) (f q k)); halves = λ q. (refl, refl) }) refl
perform_same K L P Q M (Load d a) s l h g mem t f n b w = load_same K L P Q M s l h g mem d a t f (λ q. no P (b q)) w
perform_same K L P Q M (Store a v) s l h g mem t f n b w = store_pair K L P Q M s l h g mem a v v t (λ q k. no (K q) (f q k)) (λ q. no P (b q)) (inl refl)
perform_same K L P Q M (Go to) s l h g mem t f n b w = on (record { regs = l; hi = h; lo = g; memory = mem; is = refl; words = t.words; kept = narrowed K L s.regs l t.kept (λ q k. no (K q) (f q k)); halves = λ q. t.halves (no P (b q)) }) refl
perform_same K L P Q M (Link to) s l h g mem t f n b w = on (record { regs = written l 31 (plus s.pc 8); hi = h; lo = g; memory = mem; is = refl; words = t.words; kept = written_equal K L 31 (plus s.pc 8) s.regs l t.zero t.kept f; halves = λ q. t.halves (no P (b q)) }) refl
perform_same K L P Q M Pass s l h g mem t f n b w = on (record { regs = l; hi = h; lo = g; memory = mem; is = refl; words = t.words; kept = narrowed K L s.regs l t.kept (λ q k. no (K q) (f q k)); halves = λ q. t.halves (no P (b q)) }) refl
perform_same K L P Q M Service s l h g mem t f n b w = service_same K L P Q M s l h g mem t (n refl) f (λ q. no P (b q))
perform_same K L P Q M (Stop e) s l h g mem t f n b w = over e refl refl refl

-- a feed, whatever the argument
feeds_same : (K L : ℕ → Type 0) (P Q : Type 0) (M : ℕ → Type 0) (s : State) (l : List ℕ) (h g : ℕ) (mem : List ℕ) (a b : ℕ) → Twice K P M s l h g mem → ((q : ℕ) → L q → K q ⊎ (q ≡ 2)) → (Q → P) → Outcome L Q M (service_by 5 a s) (service_by 5 b (with_parts s l h g mem))
feeds_same K L P Q M s l h g mem a b t f p =
    let T : State = with_parts s l h g mem in
    elim (nat_lt s.fed (length s.feed)) as (λ z. Outcome L Q M
    (cond z (record (with_reg (moved s) 2 (slice_index s.feed s.fed)) { fed = s.fed + 1 }, None) (ended Starved s))
    (cond z (record (with_reg (moved T) 2 (slice_index s.feed s.fed)) { fed = s.fed + 1 }, None) (ended Starved T))) [
      | true ↦ on (record { regs = written l 2 (slice_index s.feed s.fed); hi = h; lo = g; memory = mem; is = refl; words = t.words; kept = written_equal K L 2 (slice_index s.feed s.fed) s.regs l t.zero t.kept f; halves = λ q. t.halves (p q) }) refl
      | false ↦ over Starved refl refl refl
    ]

pub feed_same : (K L : ℕ → Type 0) (P Q : Type 0) (M : ℕ → Type 0) (s : State) (l : List ℕ) (h g : ℕ) (mem : List ℕ) → Twice K P M s l h g mem → K 2 → reg s 2 ≡ 5 → ((q : ℕ) → L q → K q ⊎ (q ≡ 2)) → (Q → P) → Outcome L Q M (service s) (service (with_parts s l h g mem))
feed_same K L P Q M s l h g mem t two five f p =
    let T : State = with_parts s l h g mem in
    subst (λ (x : State × Option ℕ). Outcome L Q M x (service T)) (sym (service_is s 5 (reg s 4) five refl))
    (subst (λ (x : State × Option ℕ). Outcome L Q M (service_by 5 (reg s 4) s) x) (sym (service_is T 5 (reg T 4) (sym (t.kept.same 2 two) ∙ five) refl))
    (feeds_same K L P Q M s l h g mem (reg s 4) (reg T 4) t f p))

-- two acts of one kind

load_wrong_by : (K L : ℕ → Type 0) (P Q : Type 0) (M : ℕ → Type 0) (s : State) (l : List ℕ) (h g : ℕ) (mem : List ℕ) (d v c : ℕ) (i : Bool) → Twice K P M s l h g mem → ((q : ℕ) → L q → K q × ((d ≡ 0) ⊎ (q ≢ d))) → (Q → P) → Outcome L Q M (record (with_reg (moved s) d v) { last_load = d }, None) (load_by i (with_parts s l h g mem) d c)
load_wrong_by K L P Q M s l h g mem d v c i t f b =
    let T : State = with_parts s l h g mem in
    let X : State × Option ℕ = (record (with_reg (moved s) d v) { last_load = d }, None) in
    elim (not (c % 4 == 0)) as (λ z. Outcome L Q M X (cond z (ended (Exception 4 s.pc) T) (cond (not i) (ended (Exception 7 s.pc) T) (record (with_reg (moved T) d (slice_index mem (place c))) { last_load = d }, None)))) [
      | true ↦ fails 4 s.pc (inl refl) refl refl
      | false ↦ elim (not i) as (λ z. Outcome L Q M X (cond z (ended (Exception 7 s.pc) T) (record (with_reg (moved T) d (slice_index mem (place c))) { last_load = d }, None))) [
        | true ↦ fails 7 s.pc (inr (inl refl)) refl refl
        | false ↦ on (record { regs = written l d (slice_index mem (place c)); hi = h; lo = g; memory = mem; is = refl; words = t.words; kept = written_apart K L d v (slice_index mem (place c)) s.regs l t.kept f; halves = λ q. t.halves (b q) }) refl
      ]
    ]

load_wrong : (K L : ℕ → Type 0) (P Q : Type 0) (M : ℕ → Type 0) (s : State) (l : List ℕ) (h g : ℕ) (mem : List ℕ) (d v c : ℕ) → Twice K P M s l h g mem → ((q : ℕ) → L q → K q × ((d ≡ 0) ⊎ (q ≢ d))) → (Q → P) → Outcome L Q M (record (with_reg (moved s) d v) { last_load = d }, None) (load (with_parts s l h g mem) d c)
load_wrong K L P Q M s l h g mem d v c t f b =
    let T : State = with_parts s l h g mem in
    subst (λ (x : State × Option ℕ). Outcome L Q M (record (with_reg (moved s) d v) { last_load = d }, None) x) (sym (load_is T (in_memory T c) d c refl)) (load_wrong_by K L P Q M s l h g mem d v c (in_memory T c) t f b)

load_twin : (K L : ℕ → Type 0) (P Q : Type 0) (M : ℕ → Type 0) (s : State) (l : List ℕ) (h g : ℕ) (mem : List ℕ) (d a c : ℕ) → Twice K P M s l h g mem → ((q : ℕ) → L q → K q × ((d ≡ 0) ⊎ (q ≢ d))) → (Q → P) → IsCalm (load s d a) → Outcome L Q M (load s d a) (load (with_parts s l h g mem) d c)
load_twin K L P Q M s l h g mem d a c t f b =
    let Y : State × Option ℕ = load (with_parts s l h g mem) d c in
    let v : ℕ = slice_index s.memory (place a) in
    elim (not (a % 4 == 0)) as (λ z. IsCalm (cond z (ended (Exception 4 s.pc) s) (cond (not (in_memory s a)) (ended (Exception 7 s.pc) s) (record (with_reg (moved s) d v) { last_load = d }, None))) → Outcome L Q M (cond z (ended (Exception 4 s.pc) s) (cond (not (in_memory s a)) (ended (Exception 7 s.pc) s) (record (with_reg (moved s) d v) { last_load = d }, None))) Y) [
      | true ↦ λ calm. absurd (calm 4 s.pc refl)
      | false ↦ elim (not (in_memory s a)) as (λ z. IsCalm (cond z (ended (Exception 7 s.pc) s) (record (with_reg (moved s) d v) { last_load = d }, None)) → Outcome L Q M (cond z (ended (Exception 7 s.pc) s) (record (with_reg (moved s) d v) { last_load = d }, None)) Y) [
        | true ↦ λ calm. absurd (calm 7 s.pc refl)
        | false ↦ λ calm. load_wrong K L P Q M s l h g mem d v c t f b
      ]
    ]

-- the register is the one written
only : (ds : List ℕ) (d : ℕ) (K L : ℕ → Type 0) → ds ≡ d ∷ [] → ((q : ℕ) → L q → K q × ((x : ℕ) → ds ≡ x ∷ [] → (x ≡ 0) ⊎ (q ≢ x))) → (q : ℕ) → L q → K q × ((d ≡ 0) ⊎ (q ≢ d))
only ds d K L e f q k = ((f q k).0, (f q k).1 d e)

write_twin : (K L : ℕ → Type 0) (P Q : Type 0) (M : ℕ → Type 0) (s : State) (l : List ℕ) (h g : ℕ) (mem : List ℕ) (d v w n : ℕ) → Twice K P M s l h g mem → ((q : ℕ) → L q → K q × ((d ≡ 0) ⊎ (q ≢ d))) → (Q → P) → Beside L Q M (record (with_reg (moved s) d v) { quiet = n }) (record (with_reg (moved (with_parts s l h g mem)) d w) { quiet = n })
write_twin K L P Q M s l h g mem d v w n t f b = record { regs = written l d w; hi = h; lo = g; memory = mem; is = refl; words = t.words; kept = written_apart K L d v w s.regs l t.kept f; halves = λ q. t.halves (b q) }

-- two acts of one kind: what is kept afterwards was kept before, and is not what they write
pub perform_twins : (K L : ℕ → Type 0) (P Q : Type 0) (M : ℕ → Type 0) (at : ℕ) (ds : List ℕ) (a b : Act) (s : State) (l : List ℕ) (h g : ℕ) (mem : List ℕ) → Twice K P M s l h g mem → Twins at ds a b → ((q : ℕ) → L q → K q × ((x : ℕ) → ds ≡ x ∷ [] → (x ≡ 0) ⊎ (q ≢ x))) → (Q → P × (ds ≡ [] → ⊥)) → IsCalm (perform a s) → Outcome L Q M (perform a s) (perform b (with_parts s l h g mem))
perform_twins K L P Q M at ds (Write d v) b s l h g mem t w f m calm =
    let T : State = with_parts s l h g mem in
    elim w.1 as (λ x. Outcome L Q M (perform (Write d v) s) (perform b T)) [
      | inl x ↦ subst (λ (y : Act). Outcome L Q M (perform (Write d v) s) (perform y T)) (sym x.1) (on (write_twin K L P Q M s l h g mem d v x.0 (s.quiet - 1) t (only ds d K L w.0 f) (λ q. (m q).0)) refl)
      | inr x ↦ subst (λ (y : Act). Outcome L Q M (perform (Write d v) s) (perform y T)) (sym x) (fails 12 at (inr (inr refl)) refl refl)
    ]
perform_twins K L P Q M at ds (Move d v) b s l h g mem t w f m calm =
    subst (λ (y : Act). Outcome L Q M (perform (Move d v) s) (perform y (with_parts s l h g mem))) (sym w.1.1) (on (write_twin K L P Q M s l h g mem d v w.1.0 2 t (only ds d K L w.0 f) (λ q. (m q).0)) refl)
perform_twins K L P Q M at ds (Both x y) b s l h g mem t w f m calm =
    subst (λ (y' : Act). Outcome L Q M (perform (Both x y) s) (perform y' (with_parts s l h g mem))) (sym w.1.1.1)
    (on (record { regs = l; hi = w.1.0; lo = w.1.1.0; memory = mem; is = refl; words = t.words; kept = narrowed K L s.regs l t.kept (λ q k. (f q k).0); halves = λ q. absurd ((m q).1 w.0) }) refl)
perform_twins K L P Q M at ds (Load d a) b s l h g mem t w f m calm =
    subst (λ (y : Act). Outcome L Q M (perform (Load d a) s) (perform y (with_parts s l h g mem))) (sym w.1.1) (load_twin K L P Q M s l h g mem d a w.1.0 t (only ds d K L w.0 f) (λ q. (m q).0) calm)
perform_twins K L P Q M at ds (Stop e) b s l h g mem t w f m calm = absurd (calm 12 at (ap (λ (x : End). Some x) w))
perform_twins K L P Q M at ds (Store a v) b s l h g mem t w f m calm = absurd w
perform_twins K L P Q M at ds (Go to) b s l h g mem t w f m calm = absurd w
perform_twins K L P Q M at ds (Link to) b s l h g mem t w f m calm = absurd w
perform_twins K L P Q M at ds Pass b s l h g mem t w f m calm = absurd w
perform_twins K L P Q M at ds Service b s l h g mem t w f m calm = absurd w

-- with what is kept said by tests
in_parts : (before after : Kept) (a : Act) (s t : State) → (b : BesideKept before s t) → Carries before after a → OutcomeKept after (perform a s) (perform a (with_parts s b.regs b.hi b.lo b.memory))
in_parts before after a s t b c =
    subst (λ (p : ℕ → Bool). Outcome (λ q. IsTrue (after.registers q)) (IsTrue after.halves) (λ q. IsTrue (p q)) (perform a s) (perform a (with_parts s b.regs b.hi b.lo b.memory))) c.places
    (perform_same (λ q. IsTrue (before.registers q)) (λ q. IsTrue (after.registers q)) (IsTrue before.halves) (IsTrue after.halves) (λ q. IsTrue (before.places q)) a s b.regs b.hi b.lo b.memory
    (record { zero = c.zero; words = b.words; kept = b.kept; halves = b.halves })
    c.registers c.service c.halves c.loads)

pub act_beside : ActBeside
act_beside before after a s t b c = subst (λ (x : State). OutcomeKept after (perform a s) (perform a x)) (sym b.is) (in_parts before after a s t b c)
