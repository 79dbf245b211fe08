-- One item on data that differ in the registers of the signatures alone.
use Rattle.std.proofs.Common.{◌≡◌, ◌≢◌, ℕ, ◌+◌, ◌-◌, ◌%◌, ◌<◌, arith, rules, ap, refl, sym, ◌∙◌, subst, List, [], ◌∷◌, ◌++◌, length, false, true, Bool, cond, inl, inr}
use Rattle.std.specs.Prelude.{Option, Some, None, ◌⊎◌, ◌==◌, ◌||◌, not, nat_lt, IsTrue, slice_index, slice_set}
use Rattle.mips_isa.specs.declared.instr.Instr.{Instr}
use Rattle.mips_isa.specs.declared.instr.Act.{Act}
use Rattle.mips_isa.specs.declared.instr.Act.TheVariants.{Write, Move, Both, Load, Store, Go, Link, Pass, Service, Stop}
use Rattle.mips_isa.specs.declared.instr.End.{End}
use Rattle.mips_isa.specs.declared.instr.End.TheVariants.{Exception, Exited, Starved}
use Rattle.mips_isa.specs.Machine.{State, reg, act, perform, moved, with_reg, written, plus, load, store, service, ended, in_memory, place, among, reads_of, writes_of}
use Rattle.mips_isa.specs.Locality.{Agree, is_move, Puts}
use Rattle.mips_faults.specs.Beside.{SameKept}
use Rattle.mips_laws.proofs.Beside.{written_equal}
use Rattle.mips_laws.proofs.Locality.{same_act, puts}
use Rattle.lint_theorem.proofs.Ground.{written_there, written_zero, written_long}
use Rattle.hard_items.specs.declared.code.Item.{Item}
use Rattle.hard_items.specs.declared.code.Fix.{Fix}
use Rattle.hard_items.specs.declared.code.Fix.TheVariants.{Plain, Block, Function, ReturnHigh, ReturnLow}
use Rattle.hard_items.specs.Streams.{touched}
use Rattle.hard_items.specs.Run.{Data, item_act, machine_of, numbered, completed, held}
use Rattle.signature_assign.specs.Headed.{IsSign, Spares, with_other, Near}

abbrev pub Free : ℕ → Type 0
Free q = IsSign q → ⊥

pub free_zero : Free 0
free_zero (inl e) = absurd (omega arith)
free_zero (inr (inl e)) = absurd (omega arith)
free_zero (inr (inr e)) = absurd (omega arith)

pub free_two : Free 2
free_two (inl e) = absurd (omega arith)
free_two (inr (inl e)) = absurd (omega arith)
free_two (inr (inr e)) = absurd (omega arith)

pub free_four : Free 4
free_four (inl e) = absurd (omega arith)
free_four (inr (inl e)) = absurd (omega arith)
free_four (inr (inr e)) = absurd (omega arith)

abbrev with_regs : State → List ℕ → State
with_regs s r = record s { regs = r }

-- what one act leaves on two states that differ in such registers
pub record After (x y : State × Option ℕ) (r : List ℕ) : Type 0 where
  pub regs : List ℕ
  pub is : y ≡ (with_regs x.0 regs, x.1)
  pub same : SameKept Free x.0.regs regs
  pub kept : (q : ℕ) → IsSign q → slice_index regs q ≡ slice_index r q
  pub long : length regs ≡ length r
  pub zero : slice_index regs 0 ≡ slice_index r 0

after_nothing : (x : State × Option ℕ) (r : List ℕ) → SameKept Free x.0.regs r → After x (with_regs x.0 r, x.1) r
after_nothing x r h = record { regs = r; is = refl; same = h; kept = λ q k. refl; long = refl; zero = refl }

-- a register written with one value in both
after_write : (s : State) (r : List ℕ) (x : State × Option ℕ) (d v : ℕ) → x.0.regs ≡ written s.regs d v → SameKept Free s.regs r → ((q : ℕ) → q ≡ d → IsSign q → ⊥) → After x (with_regs x.0 (written r d v), x.1) r
after_write s r x d v e h n = record {
  regs = written r d v;
  is = refl;
  same = subst (λ (l : List ℕ). SameKept Free l (written r d v)) (sym e) (written_equal Free Free d v s.regs r free_zero h (λ q k. inl k));
  kept = λ q k. written_there r d v q (λ f. n q f k);
  long = written_long r d v;
  zero = written_zero r d v;
}

load_near : (s : State) (r : List ℕ) (d a : ℕ) → SameKept Free s.regs r → ((q : ℕ) → q ≡ d → IsSign q → ⊥) → After (load s d a) (load (with_regs s r) d a) r
load_near s r d a h n =
    let v : ℕ = slice_index s.memory (place a) in
    let t : State = with_regs s r in
    elim (not (a % 4 == 0)) as (λ z. After
    (cond z (ended (Exception 4 s.pc) s) (cond (not (in_memory s a)) (ended (Exception 7 s.pc) s) (record (with_reg (moved s) d v) { last_load = d }, None)))
    (cond z (ended (Exception 4 s.pc) t) (cond (not (in_memory s a)) (ended (Exception 7 s.pc) t) (record (with_reg (moved t) d v) { last_load = d }, None))) r) [
      | true ↦ after_nothing (ended (Exception 4 s.pc) s) r h
      | false ↦ elim (not (in_memory s a)) as (λ z. After
          (cond z (ended (Exception 7 s.pc) s) (record (with_reg (moved s) d v) { last_load = d }, None))
          (cond z (ended (Exception 7 s.pc) t) (record (with_reg (moved t) d v) { last_load = d }, None)) r) [
            | true ↦ after_nothing (ended (Exception 7 s.pc) s) r h
            | false ↦ after_write s r (record (with_reg (moved s) d v) { last_load = d }, None) d v refl h n
          ]
    ]

store_near : (s : State) (r : List ℕ) (a v : ℕ) → SameKept Free s.regs r → After (store s a v) (store (with_regs s r) a v) r
store_near s r a v h =
    let t : State = with_regs s r in
    elim (not (a % 4 == 0)) as (λ z. After
    (cond z (ended (Exception 5 s.pc) s) (cond (not (in_memory s a)) (ended (Exception 7 s.pc) s) (record (moved s) { memory = slice_set s.memory (place a) v }, None)))
    (cond z (ended (Exception 5 s.pc) t) (cond (not (in_memory s a)) (ended (Exception 7 s.pc) t) (record (moved t) { memory = slice_set s.memory (place a) v }, None))) r) [
      | true ↦ after_nothing (ended (Exception 5 s.pc) s) r h
      | false ↦ elim (not (in_memory s a)) as (λ z. After
          (cond z (ended (Exception 7 s.pc) s) (record (moved s) { memory = slice_set s.memory (place a) v }, None))
          (cond z (ended (Exception 7 s.pc) t) (record (moved t) { memory = slice_set s.memory (place a) v }, None)) r) [
            | true ↦ after_nothing (ended (Exception 7 s.pc) s) r h
            | false ↦ after_nothing (record (moved s) { memory = slice_set s.memory (place a) v }, None) r h
          ]
    ]

abbrev service_by : ℕ → ℕ → State → State × Option ℕ
service_by n a s =
    cond (n == 1) (moved s, Some a) (
    cond (n == 5) (cond (nat_lt s.fed (length s.feed)) (record (with_reg (moved s) 2 (slice_index s.feed s.fed)) { fed = s.fed + 1 }, None) (ended Starved s)) (
    cond (n == 17) (ended (Exited a) s)
    (ended (Exception 8 s.pc) s)))

service_is : (s : State) (n a : ℕ) → reg s 2 ≡ n → reg s 4 ≡ a → service s ≡ service_by n a s
service_is s n a e f = rw (e, f) refl

service_by_near : (s : State) (r : List ℕ) (n a : ℕ) → SameKept Free s.regs r → ((q : ℕ) → q ≡ 2 → IsSign q → ⊥) → After (service_by n a s) (service_by n a (with_regs s r)) r
service_by_near s r n a h clear =
    let t : State = with_regs s r in
    let v : ℕ = slice_index s.feed s.fed in
    elim (n == 1) as (λ z. After
    (cond z (moved s, Some a) (cond (n == 5) (cond (nat_lt s.fed (length s.feed)) (record (with_reg (moved s) 2 v) { fed = s.fed + 1 }, None) (ended Starved s)) (cond (n == 17) (ended (Exited a) s) (ended (Exception 8 s.pc) s))))
    (cond z (moved t, Some a) (cond (n == 5) (cond (nat_lt s.fed (length s.feed)) (record (with_reg (moved t) 2 v) { fed = s.fed + 1 }, None) (ended Starved t)) (cond (n == 17) (ended (Exited a) t) (ended (Exception 8 s.pc) t)))) r) [
      | true ↦ after_nothing (moved s, Some a) r h
      | false ↦ elim (n == 5) as (λ z. After
          (cond z (cond (nat_lt s.fed (length s.feed)) (record (with_reg (moved s) 2 v) { fed = s.fed + 1 }, None) (ended Starved s)) (cond (n == 17) (ended (Exited a) s) (ended (Exception 8 s.pc) s)))
          (cond z (cond (nat_lt s.fed (length s.feed)) (record (with_reg (moved t) 2 v) { fed = s.fed + 1 }, None) (ended Starved t)) (cond (n == 17) (ended (Exited a) t) (ended (Exception 8 s.pc) t))) r) [
            | true ↦ elim (nat_lt s.fed (length s.feed)) as (λ z. After
                (cond z (record (with_reg (moved s) 2 v) { fed = s.fed + 1 }, None) (ended Starved s))
                (cond z (record (with_reg (moved t) 2 v) { fed = s.fed + 1 }, None) (ended Starved t)) r) [
                  | true ↦ after_write s r (record (with_reg (moved s) 2 v) { fed = s.fed + 1 }, None) 2 v refl h clear
                  | false ↦ after_nothing (ended Starved s) r h
                ]
            | false ↦ elim (n == 17) as (λ z. After
                (cond z (ended (Exited a) s) (ended (Exception 8 s.pc) s))
                (cond z (ended (Exited a) t) (ended (Exception 8 s.pc) t)) r) [
                  | true ↦ after_nothing (ended (Exited a) s) r h
                  | false ↦ after_nothing (ended (Exception 8 s.pc) s) r h
                ]
          ]
    ]

service_near : (s : State) (r : List ℕ) → SameKept Free s.regs r → ((q : ℕ) → q ≡ 2 → IsSign q → ⊥) → After (service s) (service (with_regs s r)) r
service_near s r h clear =
    subst (λ (y : State × Option ℕ). After (service s) y r) (sym (service_is (with_regs s r) (reg s 2) (reg s 4) (sym (h.same 2 free_two)) (sym (h.same 4 free_four))))
    (service_by_near s r (reg s 2) (reg s 4) h clear)

-- The registers that an act writes.
abbrev pub Writes : Act → ℕ → Type 0
Writes (Write d v) q = q ≡ d
Writes (Move d v) q = q ≡ d
Writes (Both x y) q = ⊥
Writes (Load d a) q = q ≡ d
Writes (Store a v) q = ⊥
Writes (Go to) q = ⊥
Writes (Link to) q = q ≡ 31
Writes Pass q = ⊥
Writes Service q = q ≡ 2
Writes (Stop e) q = ⊥

-- The act writes no register of the signatures.
abbrev pub Clear : Act → Type 0
Clear a = (q : ℕ) → Writes a q → IsSign q → ⊥

pub perform_near : (a : Act) (s : State) (r : List ℕ) → SameKept Free s.regs r → Clear a → After (perform a s) (perform a (with_regs s r)) r
perform_near (Write d v) s r h n = after_write s r (with_reg (moved s) d v, None) d v refl h n
perform_near (Move d v) s r h n = after_write s r (record (with_reg (moved s) d v) { quiet = 2 }, None) d v refl h n
perform_near (Both x y) s r h n = after_nothing (record (moved s) { hi = x; lo = y }, None) r h
perform_near (Load d a) s r h n = load_near s r d a h n
perform_near (Store a v) s r h n = store_near s r a v h
perform_near (Go to) s r h n = after_nothing (record (moved s) { npc = to; slot = true }, None) r h
perform_near (Link to) s r h n = after_write s r (record (with_reg (moved s) 31 (plus s.pc 8)) { npc = to; slot = true }, None) 31 (plus s.pc 8) refl h n
perform_near Pass s r h n = after_nothing (record (moved s) { slot = true }, None) r h
perform_near Service s r h n = service_near s r h n
perform_near (Stop e) s r h n = after_nothing (ended e s) r h

-- What an item does depends on none of these registers.

same_number : (x : ℕ) → (x == x) ≡ true
same_number x = grind arith

pub or_right : (z b : Bool) → b ≡ true → (z || b) ≡ true
or_right true b e = refl
or_right false b e = e

pub among_here : (x : ℕ) (xs : List ℕ) → among x (x ∷ xs) ≡ true
among_here x xs = rw (same_number x) refl

no_truth : false ≡ true → ⊥
no_truth e = search (rules, e)

or_more : (z a b : Bool) → (a ≡ true → b ≡ true) → (z || a) ≡ true → (z || b) ≡ true
or_more true a b f e = refl
or_more false a b f e = f e

among_left : (q : ℕ) (xs ys : List ℕ) → among q xs ≡ true → among q (xs ++ ys) ≡ true
among_left q [] ys e = absurd (no_truth e)
among_left q (x ∷ xs) ys e = or_more (q == x) (among q xs) (among q (xs ++ ys)) (λ f. among_left q xs ys f) e

among_right : (q : ℕ) (xs ys : List ℕ) → among q ys ≡ true → among q (xs ++ ys) ≡ true
among_right q [] ys e = e
among_right q (x ∷ xs) ys e = or_right (q == x) (among q (xs ++ ys)) (among_right q xs ys e)

agree_all : (s t : State) (rs : List ℕ) → ((q : ℕ) → among q rs ≡ true → reg s q ≡ reg t q) → Agree s t rs
agree_all s t [] f = tt
agree_all s t (x ∷ xs) f = (f x (among_here x xs), agree_all s t xs (λ q e. f q (or_right (q == x) (among q xs) e)))

pub spares_read : (i : Item) (q : ℕ) → Spares i → among q (reads_of i.instr) ≡ true → Free q
spares_read i q sp e k = sp q k (among_left q (reads_of i.instr) (writes_of i.instr) e)

pub spares_written : (i : Item) (q : ℕ) → Spares i → among q (writes_of i.instr) ≡ true → Free q
spares_written i q sp e k = sp q k (among_right q (reads_of i.instr) (writes_of i.instr) e)

pub act_near : (i : Item) (s : State) (r : List ℕ) → Spares i → SameKept Free s.regs r → act i.instr s ≡ act i.instr (with_regs s r)
act_near i s r sp h = same_act i.instr s (with_regs s r) refl (λ m. (refl, refl)) (agree_all s (with_regs s r) (reads_of i.instr) (λ q e. h.same q (spares_read i q sp e)))

pub item_near : (b : ℕ) (i : Item) (d : Data) (r : List ℕ) (x y : ℕ → Bool) → Spares i → SameKept Free d.regs r → item_act b i d ≡ item_act b i (with_other d r x y)
item_near b i d r x y sp h = ap (λ (a : Act). completed i.fix b (numbered b a)) (act_near i (machine_of d) r sp h)

-- It writes none of them.

puts_clear : (ds : List ℕ) (a : Act) → Puts ds a → ((q : ℕ) → among q ds ≡ true → Free q) → Clear a
puts_clear ds (Write d v) p f q e = f q (rw (p, e) (among_here d []))
puts_clear ds (Move d v) p f q e = f q (rw (p, e) (among_here d []))
puts_clear ds (Both x y) p f q e = absurd e
puts_clear ds (Load d a) p f q e = f q (rw (p, e) (among_here d []))
puts_clear ds (Store a v) p f q e = absurd e
puts_clear ds (Go to) p f q e = absurd e
puts_clear ds (Link to) p f q e = f q (rw (p, e) (among_here 31 []))
puts_clear ds Pass p f q e = absurd e
puts_clear ds Service p f q e = f q (rw (p, e) (among_here 2 []))
puts_clear ds (Stop k) p f q e = absurd e

free_link : (q : ℕ) → q ≡ 31 → Free q
free_link q e (inl f) = absurd (omega arith)
free_link q e (inr (inl f)) = absurd (omega arith)
free_link q e (inr (inr f)) = absurd (omega arith)

free_back : (q : ℕ) → q ≡ 25 → Free q
free_back q e (inl f) = absurd (omega arith)
free_back q e (inr (inl f)) = absurd (omega arith)
free_back q e (inr (inr f)) = absurd (omega arith)

numbered_clear : (b : ℕ) (a : Act) → Clear a → Clear (numbered b a)
numbered_clear b (Write d v) c = c
numbered_clear b (Move d v) c = c
numbered_clear b (Both x y) c = c
numbered_clear b (Load d a) c = c
numbered_clear b (Store a v) c = c
numbered_clear b (Go to) c = λ q e. absurd e
numbered_clear b (Link to) c = free_link
numbered_clear b Pass c = c
numbered_clear b Service c = c
numbered_clear b (Stop e) c = c

completed_clear : (f : Fix) (b : ℕ) (a : Act) → Clear a → Clear (completed f b a)
completed_clear Plain b a c = c
completed_clear (Block t) b a c = c
completed_clear (Function g) b a c = c
completed_clear ReturnHigh b a c = c
completed_clear ReturnLow b a c = free_back

pub item_clear : (b : ℕ) (i : Item) (d : Data) → Spares i → Clear (item_act b i d)
item_clear b i d sp = completed_clear i.fix b (numbered b (act i.instr (machine_of d))) (numbered_clear b (act i.instr (machine_of d)) (puts_clear (writes_of i.instr) (act i.instr (machine_of d)) (puts i.instr (machine_of d)) (λ q e. spares_written i q sp e)))
