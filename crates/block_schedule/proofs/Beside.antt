-- An item on data that differ in HI and LO only, and a nop.
use Rattle.std.proofs.Common.{◌≡◌, ◌≢◌, ℕ, zero, suc, ◌+◌, ◌%◌, ap, refl, sym, ◌∙◌, subst, List, [], ◌∷◌, ◌++◌, length, Bool, true, false, cond, not, inl, inr}
use Rattle.std.specs.Prelude.{Option, Some, None, ◌==◌, nat_lt, slice_index, slice_set}
use Rattle.mips_isa.specs.declared.instr.Act.{Act}
use Rattle.mips_isa.specs.declared.instr.Act.TheVariants.{Write, Move, Both, Load, Store, Go, Link, Pass, Service, Stop}
use Rattle.mips_isa.specs.declared.instr.End.TheVariants.{Exception, Starved, Exited}
use Rattle.mips_isa.specs.Machine as machine
use Rattle.mips_isa.specs.Machine.{reads_of, place}
use Rattle.mips_isa.specs.Locality.{is_move}
use Rattle.hard_items.specs.declared.code.Class.{Class}
use Rattle.hard_items.specs.declared.code.Item.{Item}
use Rattle.hard_items.specs.Streams.{nop, plain}
use Rattle.hard_items.specs.Run.{Data, item_act, data_after, machine_of, makes_number, backs_after, stored_after, value_of}
use Rattle.hard_items.specs.Forms.{Each}
use Rattle.block_schedule.specs.Merging.{leaves, SameButHalves}
use Rattle.block_schedule.proofs.Merges.{mark_agree, same_item}

abbrev state : List ℕ → List ℕ → List ℕ → ℕ → ℕ → ℕ → machine.State
state regs memory feed fed hi lo = record { pc = 0; npc = 0; regs = regs; hi = hi; lo = lo; text = []; memory = memory; feed = feed; fed = fed; last_load = 0; quiet = 0; slot = false; end = None }

-- Two results, the same but HI and LO.
pub record SameResult (r s : machine.State × Option ℕ) : Type 0 where
  pub end : s.0.end ≡ r.0.end
  pub output : s.1 ≡ r.1
  pub regs : r.0.regs ≡ s.0.regs
  pub memory : r.0.memory ≡ s.0.memory
  pub feed : r.0.feed ≡ s.0.feed
  pub fed : r.0.fed ≡ s.0.fed

core : (a : Act) (regs memory feed : List ℕ) (fed hi lo hi' lo' : ℕ) → SameResult (machine.perform a (state regs memory feed fed hi lo)) (machine.perform a (state regs memory feed fed hi' lo'))
core (Write r v) regs memory feed fed hi lo hi' lo' = record { end = refl; output = refl; regs = refl; memory = refl; feed = refl; fed = refl }
core (Move r v) regs memory feed fed hi lo hi' lo' = record { end = refl; output = refl; regs = refl; memory = refl; feed = refl; fed = refl }
core (Both x y) regs memory feed fed hi lo hi' lo' = record { end = refl; output = refl; regs = refl; memory = refl; feed = refl; fed = refl }
core (Load r a) regs memory feed fed hi lo hi' lo' = by_tests (not (a % 4 == 0)) (not (machine.in_memory (state regs memory feed fed hi lo) a))
  where
    loaded : machine.State → Bool → Bool → machine.State × Option ℕ
    loaded s x y = cond x (machine.ended (Exception 4 s.pc) s) (cond y (machine.ended (Exception 7 s.pc) s) (record (machine.with_reg (machine.moved s) r (slice_index s.memory (place a))) { last_load = r }, None))

    by_tests : (x y : Bool) → SameResult (loaded (state regs memory feed fed hi lo) x y) (loaded (state regs memory feed fed hi' lo') x y)
    by_tests true y = record { end = refl; output = refl; regs = refl; memory = refl; feed = refl; fed = refl }
    by_tests false true = record { end = refl; output = refl; regs = refl; memory = refl; feed = refl; fed = refl }
    by_tests false false = record { end = refl; output = refl; regs = refl; memory = refl; feed = refl; fed = refl }
core (Store a v) regs memory feed fed hi lo hi' lo' = by_tests (not (a % 4 == 0)) (not (machine.in_memory (state regs memory feed fed hi lo) a))
  where
    stored : machine.State → Bool → Bool → machine.State × Option ℕ
    stored s x y = cond x (machine.ended (Exception 5 s.pc) s) (cond y (machine.ended (Exception 7 s.pc) s) (record (machine.moved s) { memory = slice_set s.memory (place a) v }, None))

    by_tests : (x y : Bool) → SameResult (stored (state regs memory feed fed hi lo) x y) (stored (state regs memory feed fed hi' lo') x y)
    by_tests true y = record { end = refl; output = refl; regs = refl; memory = refl; feed = refl; fed = refl }
    by_tests false true = record { end = refl; output = refl; regs = refl; memory = refl; feed = refl; fed = refl }
    by_tests false false = record { end = refl; output = refl; regs = refl; memory = refl; feed = refl; fed = refl }
core (Go t) regs memory feed fed hi lo hi' lo' = record { end = refl; output = refl; regs = refl; memory = refl; feed = refl; fed = refl }
core (Link t) regs memory feed fed hi lo hi' lo' = record { end = refl; output = refl; regs = refl; memory = refl; feed = refl; fed = refl }
core Pass regs memory feed fed hi lo hi' lo' = record { end = refl; output = refl; regs = refl; memory = refl; feed = refl; fed = refl }
core Service regs memory feed fed hi lo hi' lo' = by_tests (held_two == 1) (held_two == 5) (held_two == 17) (nat_lt fed (length feed))
  where
    held_two : ℕ
    held_two = machine.reg (state regs memory feed fed hi lo) 2

    served : machine.State → Bool → Bool → Bool → Bool → machine.State × Option ℕ
    served s x y z w = cond x (machine.moved s, Some (machine.reg s 4)) (
        cond y (cond w (record (machine.with_reg (machine.moved s) 2 (slice_index s.feed s.fed)) { fed = s.fed + 1 }, None) (machine.ended Starved s)) (
        cond z (machine.ended (Exited (machine.reg s 4)) s) (machine.ended (Exception 8 s.pc) s)))

    by_tests : (x y z w : Bool) → SameResult (served (state regs memory feed fed hi lo) x y z w) (served (state regs memory feed fed hi' lo') x y z w)
    by_tests true y z w = record { end = refl; output = refl; regs = refl; memory = refl; feed = refl; fed = refl }
    by_tests false true z true = record { end = refl; output = refl; regs = refl; memory = refl; feed = refl; fed = refl }
    by_tests false true z false = record { end = refl; output = refl; regs = refl; memory = refl; feed = refl; fed = refl }
    by_tests false false true w = record { end = refl; output = refl; regs = refl; memory = refl; feed = refl; fed = refl }
    by_tests false false false w = record { end = refl; output = refl; regs = refl; memory = refl; feed = refl; fed = refl }
core (Stop e) regs memory feed fed hi lo hi' lo' = record { end = refl; output = refl; regs = refl; memory = refl; feed = refl; fed = refl }

pub perform_beside : (a : Act) (d e : Data) → SameButHalves d e → SameResult (machine.perform a (machine_of d)) (machine.perform a (machine_of e))
perform_beside a d e h =
    subst (λ (x : ℕ). SameResult (machine.perform a (machine_of d)) (machine.perform a (state e.regs e.memory e.feed x e.hi e.lo))) h.fed
    (subst (λ (x : List ℕ). SameResult (machine.perform a (machine_of d)) (machine.perform a (state e.regs e.memory x d.fed e.hi e.lo))) h.feed
    (subst (λ (x : List ℕ). SameResult (machine.perform a (machine_of d)) (machine.perform a (state e.regs x d.feed d.fed e.hi e.lo))) h.memory
    (subst (λ (x : List ℕ). SameResult (machine.perform a (machine_of d)) (machine.perform a (state x d.memory d.feed d.fed e.hi e.lo))) h.regs
    (core a d.regs d.memory d.feed d.fed d.hi d.lo e.hi e.lo))))

-- ---- marks

backs_beside : (i : Item) (a : Act) (d e : Data) → SameButHalves d e → (q : ℕ) → backs_after i a d q ≡ backs_after i a e q
backs_beside i (Write r v) d e h q = mark_agree d.backs e.backs r (makes_number i) (makes_number i) q refl (h.backs q)
backs_beside i (Move r v) d e h q = mark_agree d.backs e.backs r false false q refl (h.backs q)
backs_beside i (Both x y) d e h q = h.backs q
backs_beside i (Load r a) d e h q = mark_agree d.backs e.backs r (d.stored (place a)) (e.stored (place a)) q (h.stored (place a)) (h.backs q)
backs_beside i (Store a v) d e h q = h.backs q
backs_beside i (Go t) d e h q = h.backs q
backs_beside i (Link t) d e h q = h.backs q
backs_beside i Pass d e h q = h.backs q
backs_beside i Service d e h q = mark_agree d.backs e.backs 2 false false q refl (h.backs q)
backs_beside i (Stop x) d e h q = h.backs q

stored_beside : (i : Item) (a : Act) (d e : Data) → SameButHalves d e → (q : ℕ) → stored_after i a d q ≡ stored_after i a e q
stored_beside i (Write r v) d e h q = h.stored q
stored_beside i (Move r v) d e h q = h.stored q
stored_beside i (Both x y) d e h q = h.stored q
stored_beside i (Load r a) d e h q = h.stored q
stored_beside i (Store a v) d e h q = elim (q == place a) as (λ z. cond z (d.backs (value_of i.instr)) (d.stored q) ≡ cond z (e.backs (value_of i.instr)) (e.stored q)) [ true ↦ h.backs (value_of i.instr) | false ↦ h.stored q ]
stored_beside i (Go t) d e h q = h.stored q
stored_beside i (Link t) d e h q = h.stored q
stored_beside i Pass d e h q = h.stored q
stored_beside i Service d e h q = h.stored q
stored_beside i (Stop x) d e h q = h.stored q

pub data_beside : (i : Item) (a : Act) (d e : Data) → SameButHalves d e → SameButHalves (data_after i a d (machine.perform a (machine_of d)).0) (data_after i a e (machine.perform a (machine_of e)).0)
data_beside i a d e h = let r : SameResult (machine.perform a (machine_of d)) (machine.perform a (machine_of e)) = perform_beside a d e h in
    record { regs = r.regs; memory = r.memory; feed = r.feed; fed = r.fed; backs = backs_beside i a d e h; stored = stored_beside i a d e h }

-- ---- the act of an item that doesn't move HI or LO

each_unit : (xs : List ℕ) → Each (λ (q : ℕ). Unit {0}) xs
each_unit [] = tt
each_unit (x ∷ xs) = (tt, each_unit xs)

pub act_beside : (b : ℕ) (i : Item) (d e : Data) → is_move i.instr ≡ false → SameButHalves d e → item_act b i d ≡ item_act b i e
act_beside b i d e m h = same_item (λ (q : ℕ). Unit {0}) b i d e (λ z. absurd (Rattle.std.proofs.Common.true≢false (sym z ∙ m))) (each_unit (reads_of i.instr))
    (record { len = ap (λ (x : List ℕ). length x) h.regs; regs = λ q k. ap (λ (x : List ℕ). slice_index x q) h.regs; backs = λ q k. h.backs q; memory = h.memory; stored = h.stored; feed = h.feed; fed = h.fed })

-- An item that doesn't move HI or LO leaves the same but HI and LO on data that are the same but HI and LO.
pub leaves_beside : (b : ℕ) (i : Item) (d e : Data) → is_move i.instr ≡ false → SameButHalves d e → SameButHalves (leaves b i d) (leaves b i e)
leaves_beside b i d e m h = subst (λ (a : Act). SameButHalves (leaves b i d) (data_after i a e (machine.perform a (machine_of e)).0)) (act_beside b i d e m h) (data_beside i (item_act b i d) d e h)

-- ---- a nop

-- A nop leaves everything as it is.
pub nop_leaves : (b : ℕ) (c : Class) (d : Data) → leaves b (plain nop c) d ≡ d
nop_leaves b c d = refl
