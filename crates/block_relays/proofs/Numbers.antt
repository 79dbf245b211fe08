-- One act on the data of two programs that differ in return numbers alone.
use Rattle.std.proofs.Common.{◌≡◌, ◌<◌, ℕ, ◌+◌, ◌%◌, arith, ap, refl, sym, ◌∙◌, subst, List, length, Bool, true, false, cond, inl, inr}
use Rattle.std.specs.Prelude.{Option, Some, None, slice_index, slice_set, ◌==◌, ◌&&◌, not, nat_le, nat_lt}
use Rattle.mips_isa.specs.declared.instr.Act.{Act}
use Rattle.mips_isa.specs.declared.instr.Act.TheVariants.{Write, Move, Both, Load, Store, Go, Link, Pass, Service, Stop}
use Rattle.mips_isa.specs.declared.instr.End.{End}
use Rattle.mips_isa.specs.declared.instr.End.TheVariants.{Exited, Starved, Exception}
use Rattle.mips_isa.specs.Machine.{State, reg, perform, written, moved, with_reg, load, store, service, ended, in_memory, place}
use Rattle.mips_laws.proofs.Beside.{load_by, store_by, load_is, store_is}
use Rattle.hard_items.specs.declared.code.Item.{Item}
use Rattle.hard_items.specs.Run.{Data, machine_of, held, marked, marked_reg, makes_number, value_of, data_after}
use Rattle.block_relays.specs.Renumber.{renamed, SameWords, SameNumbers}
use Rattle.layout_law.proofs.Data.{set_at, set_off, set_length, same_or_not}

-- ---- words

pub set_words : (back : ℕ → ℕ) (Fine : ℕ → Type 0) (hb lb : ℕ → Bool) (hs ls : List ℕ) (r v v' : ℕ) (m m' : Bool) → SameWords back Fine hb lb hs ls → r < length hs → v' ≡ renamed back m v → m' ≡ m → (m ≡ true → Fine v) →
    SameWords back Fine (marked hb r m) (marked lb r m') (slice_set hs r v) (slice_set ls r v')
set_words back Fine hb lb hs ls r v v' m m' s h e f g = record {
  there = set_length ls r v' ∙ (s.there ∙ sym (set_length hs r v));
  same = λ x. elim (same_or_not x r) as (λ z. slice_index (slice_set ls r v') x ≡ renamed back (marked hb r m x) (slice_index (slice_set hs r v) x)) [
    | inl z ↦ set_at ls r x v' z.0 (less r (length ls) (length hs) s.there h) ∙ (e ∙ (ap (λ (n : ℕ). renamed back m n) (sym (set_at hs r x v z.0 h)) ∙ ap (λ (b : Bool). renamed back (cond b m (hb x)) (slice_index (slice_set hs r v) x)) (sym z.1)))
    | inr z ↦ set_off ls r x v' z.0 ∙ (s.same x ∙ (ap (λ (n : ℕ). renamed back (hb x) n) (sym (set_off hs r x v z.0)) ∙ ap (λ (b : Bool). renamed back (cond b m (hb x)) (slice_index (slice_set hs r v) x)) (sym z.1)))
  ];
  marks = λ x. both (x == r) (lb x) (hb x) (s.marks x);
  fine = λ x. elim (same_or_not x r) as (λ z. marked hb r m x ≡ true → Fine (slice_index (slice_set hs r v) x)) [
    | inl z ↦ λ k. subst (λ (n : ℕ). Fine n) (sym (set_at hs r x v z.0 h)) (g (sym (ap (λ (b : Bool). cond b m (hb x)) z.1) ∙ k))
    | inr z ↦ λ k. subst (λ (n : ℕ). Fine n) (sym (set_off hs r x v z.0)) (s.fine x (sym (ap (λ (b : Bool). cond b m (hb x)) z.1) ∙ k))
  ];
}
  where
    less : (r a b : ℕ) → a ≡ b → r < b → r < a
    less r a b e h = omega arith

    both : (z x y : Bool) → x ≡ y → cond z m' x ≡ cond z m y
    both true x y k = f
    both false x y k = k

-- A mark that does not stand is taken away.
unmark_words : (back : ℕ → ℕ) (Fine : ℕ → Type 0) (hb lb : ℕ → Bool) (hs ls : List ℕ) (r : ℕ) → SameWords back Fine hb lb hs ls → hb r ≡ false → SameWords back Fine (marked hb r false) (marked lb r false) hs ls
unmark_words back Fine hb lb hs ls r s e = record {
  there = s.there;
  same = λ x. s.same x ∙ ap (λ (y : Bool). renamed back y (slice_index hs x)) (sym (is x));
  marks = λ x. both (x == r) (lb x) (hb x) (s.marks x);
  fine = λ x m. s.fine x (sym (is x) ∙ m);
}
  where
    is : (x : ℕ) → marked hb r false x ≡ hb x
    is x = elim (same_or_not x r) as (λ z. marked hb r false x ≡ hb x) [
      | inl z ↦ ap (λ (y : Bool). cond y false (hb x)) z.1 ∙ (sym e ∙ ap hb (sym z.0))
      | inr z ↦ ap (λ (y : Bool). cond y false (hb x)) z.1
    ]

    both : (z x y : Bool) → x ≡ y → cond z false x ≡ cond z false y
    both true x y k = refl
    both false x y k = k

write_by : (back : ℕ → ℕ) (Fine : ℕ → Type 0) (hb lb : ℕ → Bool) (hs ls : List ℕ) (r v v' : ℕ) (m m' : Bool) (z : Bool) → SameWords back Fine hb lb hs ls → r < length hs → v' ≡ renamed back m v → m' ≡ m → (m ≡ true → Fine v) →
    SameWords back Fine (cond z hb (marked hb r m)) (cond z lb (marked lb r m')) (cond z hs (slice_set hs r v)) (cond z ls (slice_set ls r v'))
write_by back Fine hb lb hs ls r v v' m m' true s h e f g = s
write_by back Fine hb lb hs ls r v v' m m' false s h e f g = set_words back Fine hb lb hs ls r v v' m m' s h e f g

pub write_words : (back : ℕ → ℕ) (Fine : ℕ → Type 0) (hb lb : ℕ → Bool) (hs ls : List ℕ) (r v v' : ℕ) (m m' : Bool) → SameWords back Fine hb lb hs ls → r < length hs → v' ≡ renamed back m v → m' ≡ m → (m ≡ true → Fine v) →
    SameWords back Fine (marked_reg hb r m) (marked_reg lb r m') (written hs r v) (written ls r v')
write_words back Fine hb lb hs ls r v v' m m' s h e f g = write_by back Fine hb lb hs ls r v v' m m' (r == 0) s h e f g

zero_by : (f : ℕ → Bool) (r : ℕ) (m : Bool) (z : Bool) → (r == 0) ≡ z → f 0 ≡ false → cond z f (marked f r m) 0 ≡ false
zero_by f r m true e h = h
zero_by f r m false e h = ap (λ (z : Bool). cond z m (f 0)) (other r e) ∙ h
  where
    other : (r : ℕ) → (r == 0) ≡ false → (0 == r) ≡ false
    other r e = grind arith

-- Register 0 holds no return number.
zero_kept : (f : ℕ → Bool) (r : ℕ) (m : Bool) → f 0 ≡ false → marked_reg f r m 0 ≡ false
zero_kept f r m h = zero_by f r m (r == 0) refl h

written_length : (xs : List ℕ) (r v : ℕ) → length (written xs r v) ≡ length xs
written_length xs r v = by (r == 0)
  where
    by : (z : Bool) → length (cond z xs (slice_set xs r v)) ≡ length xs
    by true = refl
    by false = set_length xs r v

-- ---- acts

-- The act of an item and that of its place: the same, return numbers renamed.
abbrev pub ActPlaced : (back : ℕ → ℕ) (Fine : ℕ → Type 0) → Item → Data → Act → Act → Type 0
ActPlaced back Fine i d (Write r v) c = (r < 32) × ((c ≡ Write r (renamed back (makes_number i) v)) × (makes_number i ≡ true → Fine v))
ActPlaced back Fine i d (Move r v) c = (r < 32) × (c ≡ Move r v)
ActPlaced back Fine i d (Both h l) c = c ≡ Both h l
ActPlaced back Fine i d (Load r a) c = (r < 32) × (c ≡ Load r a)
ActPlaced back Fine i d (Store a v) c = (c ≡ Store a (renamed back (d.backs (value_of i.instr)) v)) × (d.backs (value_of i.instr) ≡ true → Fine v)
ActPlaced back Fine i d (Go to) c = ⊥
ActPlaced back Fine i d (Link to) c = ⊥
ActPlaced back Fine i d Pass c = c ≡ Pass
ActPlaced back Fine i d Service c = (c ≡ Service) × (d.backs 2 ≡ false) × (d.backs 4 ≡ false)
ActPlaced back Fine i d (Stop e) c = c ≡ Stop e

-- Both go on with the same data, or come to one end.
pub data Outcome (back : ℕ → ℕ) (Fine : ℕ → Type 0) (i j : Item) (a c : Act) (d e : Data) (high low : State × Option ℕ) : Type 0 where
  on : high.0.end ≡ None → low.0.end ≡ None → low.1 ≡ high.1 → SameNumbers back Fine (data_after i a d high.0) (data_after j c e low.0) → Outcome back Fine i j a c d e high low
  over : (x : End) → high.0.end ≡ Some x → low.0.end ≡ Some x → Outcome back Fine i j a c d e high low

-- The item and its place mark the same.
pub record MarksSame (i j : Item) : Type 0 where
  pub makes : makes_number j ≡ makes_number i
  pub value : value_of j.instr ≡ value_of i.instr

in_there : (s : State) (a : ℕ) → in_memory s a ≡ true → place a < length s.memory
in_there s a e = by (nat_le 0x10010000 a) (nat_lt (place a) (length s.memory)) refl e
  where
    lt : (x y : ℕ) → nat_lt x y ≡ true → x < y
    lt x y e = grind arith

    no : false ≡ true → ⊥
    no e = cc

    by : (x y : Bool) → nat_lt (place a) (length s.memory) ≡ y → (x && y) ≡ true → place a < length s.memory
    by true true f e = lt (place a) (length s.memory) f
    by true false f e = absurd (no e)
    by false y f e = absurd (no e)

is_true : (z : Bool) → not z ≡ false → z ≡ true
is_true true e = refl
is_true false e = sym e

no_mark : false ≡ true → ⊥
no_mark q = cc

same_there : (d e : Data) (a : ℕ) → length e.memory ≡ length d.memory → in_memory (machine_of e) a ≡ in_memory (machine_of d) a
same_there d e a h = ap (λ (n : ℕ). nat_le 0x10010000 a && nat_lt (place a) n) h

below : (r a : ℕ) → a ≡ 32 → r < 32 → r < a
below r a e h = omega arith

load_same : (back : ℕ → ℕ) (Fine : ℕ → Type 0) (i j : Item) (d e : Data) (r a : ℕ) → SameNumbers back Fine d e → r < 32 → (x y : Bool) → Outcome back Fine i j (Load r a) (Load r a) d e
    (cond x (ended (Exception 4 0) (machine_of d)) (cond y (ended (Exception 7 0) (machine_of d)) (record (with_reg (moved (machine_of d)) r (slice_index d.memory (place a))) { last_load = r }, None)))
    (cond x (ended (Exception 4 0) (machine_of e)) (cond y (ended (Exception 7 0) (machine_of e)) (record (with_reg (moved (machine_of e)) r (slice_index e.memory (place a))) { last_load = r }, None)))
load_same back Fine i j d e r a m h true y = over (Exception 4 0) refl refl
load_same back Fine i j d e r a m h false true = over (Exception 7 0) refl refl
load_same back Fine i j d e r a m h false false = on refl refl refl (record {
  all = written_length d.regs r (slice_index d.memory (place a)) ∙ m.all;
  zero = zero_kept d.backs r (d.stored (place a)) m.zero;
  regs = write_words back Fine d.backs e.backs d.regs e.regs r (slice_index d.memory (place a)) (slice_index e.memory (place a)) (d.stored (place a)) (e.stored (place a)) m.regs (below r (length d.regs) m.all h) (m.memory.same (place a)) (m.memory.marks (place a)) (m.memory.fine (place a));
  memory = m.memory;
  hi = m.hi;
  lo = m.lo;
  feed = m.feed;
  fed = m.fed;
})

store_same : (back : ℕ → ℕ) (Fine : ℕ → Type 0) (i j : Item) (d e : Data) (a v v' : ℕ) → SameNumbers back Fine d e → MarksSame i j → v' ≡ renamed back (d.backs (value_of i.instr)) v → (d.backs (value_of i.instr) ≡ true → Fine v) → (x y : Bool) → (y ≡ false → place a < length d.memory) → Outcome back Fine i j (Store a v) (Store a v') d e
    (cond x (ended (Exception 5 0) (machine_of d)) (cond y (ended (Exception 7 0) (machine_of d)) (record (moved (machine_of d)) { memory = slice_set d.memory (place a) v }, None)))
    (cond x (ended (Exception 5 0) (machine_of e)) (cond y (ended (Exception 7 0) (machine_of e)) (record (moved (machine_of e)) { memory = slice_set e.memory (place a) v' }, None)))
store_same back Fine i j d e a v v' m k w g true y h = over (Exception 5 0) refl refl
store_same back Fine i j d e a v v' m k w g false true h = over (Exception 7 0) refl refl
store_same back Fine i j d e a v v' m k w g false false h = on refl refl refl (record {
  all = m.all;
  zero = m.zero;
  regs = m.regs;
  memory = set_words back Fine d.stored e.stored d.memory e.memory (place a) v v' (d.backs (value_of i.instr)) (e.backs (value_of j.instr)) m.memory (h refl) w (ap e.backs k.value ∙ m.regs.marks (value_of i.instr)) g;
  hi = m.hi;
  lo = m.lo;
  feed = m.feed;
  fed = m.fed;
})

-- a service of this number with this argument, where a word of the input is there or not
abbrev served : State → ℕ → ℕ → Bool → State × Option ℕ
served s n a c =
    cond (n == 1) (moved s, Some a) (
    cond (n == 5) (cond c (record (with_reg (moved s) 2 (slice_index s.feed s.fed)) { fed = s.fed + 1 }, None) (ended Starved s)) (
    cond (n == 17) (ended (Exited a) s)
    (ended (Exception 8 s.pc) s)))

service_is : (s : State) (n a : ℕ) (c : Bool) → reg s 2 ≡ n → reg s 4 ≡ a → nat_lt s.fed (length s.feed) ≡ c → service s ≡ served s n a c
service_is s n a c e f g = rw (e, f, g) refl

service_same : (back : ℕ → ℕ) (Fine : ℕ → Type 0) (i j : Item) (d e : Data) → SameNumbers back Fine d e → d.backs 2 ≡ false → (a : ℕ) (x y z c : Bool) → Outcome back Fine i j Service Service d e
    (cond x (moved (machine_of d), Some a) (cond y (cond c (record (with_reg (moved (machine_of d)) 2 (slice_index d.feed d.fed)) { fed = d.fed + 1 }, None) (ended Starved (machine_of d))) (cond z (ended (Exited a) (machine_of d)) (ended (Exception 8 0) (machine_of d)))))
    (cond x (moved (machine_of e), Some a) (cond y (cond c (record (with_reg (moved (machine_of e)) 2 (slice_index e.feed e.fed)) { fed = e.fed + 1 }, None) (ended Starved (machine_of e))) (cond z (ended (Exited a) (machine_of e)) (ended (Exception 8 0) (machine_of e)))))
service_same back Fine i j d e m u a true y z c = on refl refl refl (record { all = m.all; zero = m.zero; regs = unmark_words back Fine d.backs e.backs d.regs e.regs 2 m.regs u; memory = m.memory; hi = m.hi; lo = m.lo; feed = m.feed; fed = m.fed })
service_same back Fine i j d e m u a false true z true = on refl refl refl (record {
  all = written_length d.regs 2 (slice_index d.feed d.fed) ∙ m.all;
  zero = m.zero;
  regs = write_words back Fine d.backs e.backs d.regs e.regs 2 (slice_index d.feed d.fed) (slice_index e.feed e.fed) false false m.regs (below 2 (length d.regs) m.all (two 2)) (fed e.feed d.feed e.fed d.fed m.feed m.fed) refl (λ q. absurd (no_mark q));
  memory = m.memory;
  hi = m.hi;
  lo = m.lo;
  feed = m.feed;
  fed = ap (λ (n : ℕ). n + 1) m.fed;
})
  where
    two : (r : ℕ) → 2 < 32
    two r = omega arith

    fed : (xs ys : List ℕ) (m n : ℕ) → xs ≡ ys → m ≡ n → slice_index xs m ≡ slice_index ys n
    fed xs ys m n e f = cc
service_same back Fine i j d e m u a false true z false = over Starved refl refl
service_same back Fine i j d e m u a false false true c = over (Exited a) refl refl
service_same back Fine i j d e m u a false false false c = over (Exception 8 0) refl refl

-- A register that holds no return number is the same.
pub held_same : (back : ℕ → ℕ) (Fine : ℕ → Type 0) (d e : Data) (r : ℕ) → SameNumbers back Fine d e → d.backs r ≡ false → held e r ≡ held d r
held_same back Fine d e r m h = m.regs.same r ∙ ap (λ (z : Bool). renamed back z (held d r)) h

-- One act on both.
pub perform_same : (back : ℕ → ℕ) (Fine : ℕ → Type 0) (i j : Item) (d e : Data) (a c : Act) → SameNumbers back Fine d e → MarksSame i j → ActPlaced back Fine i d a c → Outcome back Fine i j a c d e (perform a (machine_of d)) (perform c (machine_of e))
perform_same back Fine i j d e (Write r v) c m k h =
    subst (λ (x : Act). Outcome back Fine i j (Write r v) x d e (perform (Write r v) (machine_of d)) (perform x (machine_of e))) (sym h.1.0)
    (on refl refl refl (record { all = written_length d.regs r v ∙ m.all; zero = zero_kept d.backs r (makes_number i) m.zero; regs = write_words back Fine d.backs e.backs d.regs e.regs r v (renamed back (makes_number i) v) (makes_number i) (makes_number j) m.regs (below r (length d.regs) m.all h.0) refl k.makes h.1.1; memory = m.memory; hi = m.hi; lo = m.lo; feed = m.feed; fed = m.fed }))
perform_same back Fine i j d e (Move r v) c m k h =
    subst (λ (x : Act). Outcome back Fine i j (Move r v) x d e (perform (Move r v) (machine_of d)) (perform x (machine_of e))) (sym h.1)
    (on refl refl refl (record { all = written_length d.regs r v ∙ m.all; zero = zero_kept d.backs r false m.zero; regs = write_words back Fine d.backs e.backs d.regs e.regs r v v false false m.regs (below r (length d.regs) m.all h.0) refl refl (λ q. absurd (no_mark q)); memory = m.memory; hi = m.hi; lo = m.lo; feed = m.feed; fed = m.fed }))
perform_same back Fine i j d e (Both x y) c m k h =
    subst (λ (z : Act). Outcome back Fine i j (Both x y) z d e (perform (Both x y) (machine_of d)) (perform z (machine_of e))) (sym h)
    (on refl refl refl (record { all = m.all; zero = m.zero; regs = m.regs; memory = m.memory; hi = refl; lo = refl; feed = m.feed; fed = m.fed }))
perform_same back Fine i j d e (Load r a) c m k h =
    subst (λ (x : Act). Outcome back Fine i j (Load r a) x d e (load (machine_of d) r a) (perform x (machine_of e))) (sym h.1)
    (subst (λ (x : State × Option ℕ). Outcome back Fine i j (Load r a) (Load r a) d e x (load (machine_of e) r a)) (sym (load_is (machine_of d) (in_memory (machine_of e) a) r a (sym (same_there d e a m.memory.there))))
    (subst (λ (x : State × Option ℕ). Outcome back Fine i j (Load r a) (Load r a) d e (load_by (in_memory (machine_of e) a) (machine_of d) r a) x) (sym (load_is (machine_of e) (in_memory (machine_of e) a) r a refl))
    (load_same back Fine i j d e r a m h.0 (not (a % 4 == 0)) (not (in_memory (machine_of e) a)))))
perform_same back Fine i j d e (Store a v) c m k h =
    let v' : ℕ = renamed back (d.backs (value_of i.instr)) v in
    subst (λ (x : Act). Outcome back Fine i j (Store a v) x d e (store (machine_of d) a v) (perform x (machine_of e))) (sym h.0)
    (subst (λ (x : State × Option ℕ). Outcome back Fine i j (Store a v) (Store a v') d e x (store (machine_of e) a v')) (sym (store_is (machine_of d) (in_memory (machine_of d) a) a v refl))
    (subst (λ (x : State × Option ℕ). Outcome back Fine i j (Store a v) (Store a v') d e (store_by (in_memory (machine_of d) a) (machine_of d) a v) x) (sym (store_is (machine_of e) (in_memory (machine_of d) a) a v' (same_there d e a m.memory.there)))
    (store_same back Fine i j d e a v v' m k refl h.1 (not (a % 4 == 0)) (not (in_memory (machine_of d) a)) (λ q. in_there (machine_of d) a (is_true (in_memory (machine_of d) a) q)))))
perform_same back Fine i j d e (Go to) c m k h = absurd h
perform_same back Fine i j d e (Link to) c m k h = absurd h
perform_same back Fine i j d e Pass c m k h =
    subst (λ (z : Act). Outcome back Fine i j Pass z d e (perform Pass (machine_of d)) (perform z (machine_of e))) (sym h)
    (on refl refl refl (record { all = m.all; zero = m.zero; regs = m.regs; memory = m.memory; hi = m.hi; lo = m.lo; feed = m.feed; fed = m.fed }))
perform_same back Fine i j d e Service c m k h =
    subst (λ (x : Act). Outcome back Fine i j Service x d e (service (machine_of d)) (perform x (machine_of e))) (sym h.0)
    (subst (λ (x : State × Option ℕ). Outcome back Fine i j Service Service d e x (service (machine_of e))) (sym (service_is (machine_of d) (held d 2) (held d 4) (nat_lt d.fed (length d.feed)) refl refl refl))
    (subst (λ (x : State × Option ℕ). Outcome back Fine i j Service Service d e (served (machine_of d) (held d 2) (held d 4) (nat_lt d.fed (length d.feed))) x) (sym (service_is (machine_of e) (held d 2) (held d 4) (nat_lt d.fed (length d.feed)) (held_same back Fine d e 2 m h.1) (held_same back Fine d e 4 m h.2) (there e.fed d.fed e.feed d.feed m.fed m.feed)))
    (service_same back Fine i j d e m h.1 (held d 4) (held d 2 == 1) (held d 2 == 5) (held d 2 == 17) (nat_lt d.fed (length d.feed)))))
  where
    there : (a b : ℕ) (xs ys : List ℕ) → a ≡ b → xs ≡ ys → nat_lt a (length xs) ≡ nat_lt b (length ys)
    there a b xs ys e f = cc
perform_same back Fine i j d e (Stop x) c m k h = over x refl (ap (λ (z : Act). (perform z (machine_of e)).0.end) h)
