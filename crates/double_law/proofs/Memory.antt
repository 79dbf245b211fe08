-- Loads, stores and products in both streams.
use Rattle.std.proofs.Common.{◌≡◌, ◌≢◌, ◌≤◌, ◌<◌, ℕ, zero, suc, ◌+◌, ◌-◌, ◌*◌, ◌/◌, ◌%◌, ◌^◌, arith, ap, refl, sym, ◌∙◌, subst, List, [], ◌∷◌, ◌++◌, append_assoc, length, get_or, Bool, true, false, cond, not, inl, inr, le_refl, get_or-set_same, get_or-set_other, length-set}
use Rattle.std.specs.Prelude.{Option, None, ◌==◌, ◌&&◌, nat_le, nat_lt, slice_index, slice_set, if◌then◌else◌, IsTrue}
use Rattle.hard_words.specs.Words.{extended}
use Rattle.hard_runs.specs.Stepping.{Leads}
use Rattle.hard_runs.proofs.Following.{leads_on}
use Rattle.mips_isa.specs.declared.instr.Instr.{Instr}
use Rattle.mips_isa.specs.declared.instr.Instr.TheVariants as mips
use Rattle.mips_isa.specs.declared.instr.Act.{Act}
use Rattle.mips_isa.specs.declared.instr.Act.TheVariants.{Move, Both, Load, Store}
use Rattle.mips_isa.specs.declared.instr.End.TheVariants.{Exception}
use Rattle.mips_isa.specs.Machine as machine
use Rattle.mips_isa.specs.Machine.{plus, place}
use Rattle.hard_items.specs.declared.code.Class.TheVariants as class
use Rattle.hard_items.specs.declared.code.Item.{Item}
use Rattle.hard_items.specs.declared.code.HardProgram.{HardProgram}
use Rattle.hard_items.specs.Streams.{plain, is_master, is_shadow, shadow_of}
use Rattle.hard_items.specs.Run.{Data, Spot, Way, Onward, items, before, item_act, machine_of, way_of, held, makes_number, is_call, do_item, settled, marked, marked_reg}
use Rattle.hard_items.specs.Rules.{Placed, Returns, Reads, NoException, checks_of, SameIn, Parity}
use Rattle.hard_items.specs.Forms.{Each}
use Rattle.double_law.specs.declared.roles.Stream.{Stream}
use Rattle.double_law.specs.declared.roles.Stream.TheVariants.{First, Second}
use Rattle.double_law.specs.declared.roles.Role.{Role}
use Rattle.double_law.specs.declared.roles.Role.TheVariants.{Value, Stack, Link}
use Rattle.double_law.specs.Roles.{reg_in, off_in, class_in, product, load, store}
use Rattle.double_law.specs.Roles.{RoleFits}
use Rattle.double_law.proofs.Doubled.{BackFits, other, half, back_of, Pairs, Sees, Sound, AreWords, put, wrote, sees_write, sees_beside, sound_write, words_put, marked_there, marked_beside}
use Rattle.double_law.proofs.Leading.{Good, Done, Does, item_in, lead_one, none_some, with_halves}

-- ---- what one stream does, and then the other

-- Some items of one stream lead on, and leave the other stream as it is.
pub record Alone (p : HardProgram) (size b : ℕ) (t : Stream) (code more : List Item) (d : Data) (a a' : Pairs) : Type 0 where
  pub now : Data
  pub steps : ℕ
  pub some : steps ≡ 0 → code ≡ []
  pub leads : Leads (items p) (Good p) steps (before p b (code ++ more) Onward d) (before p b more Onward now)
  pub sound : Sound size now a
  pub sound_after : Sound size now a'
  pub sees : Sees size t now a'
  pub keeps : (z : Pairs) → Sees size (other t) d z → Sees size (other t) now z

abbrev pub DoesAlone : HardProgram → ℕ → ℕ → Stream → List Item → Pairs → Pairs → Type 0
DoesAlone p size b t code a a' = (more : List Item) (d : Data) → Sound size d a → Sees size t d a → Alone p size b t code more d a a'

zero_sum : (m n : ℕ) → m + n ≡ 0 → (m ≡ 0) × (n ≡ 0)
zero_sum m n h = (omega arith, omega arith)

nil_both : (xs ys : List Item) → xs ≡ [] → ys ≡ [] → xs ++ ys ≡ []
nil_both xs ys e f = ap (λ (z : List Item). z ++ ys) e ∙ f

pub two_streams : (p : HardProgram) (size b : ℕ) (c e : List Item) (a a' : Pairs) → DoesAlone p size b First c a a' → DoesAlone p size b Second e a a' → (AreWords size a → AreWords size a') → Does p size b (c ++ e) a a'
two_streams p size b c e a a' f g w more d h =
    let x : Alone p size b First c (e ++ more) d a a' = f (e ++ more) d h.sound (h.sees First) in
    let y : Alone p size b Second e more x.now a a' = g more x.now x.sound (x.keeps a (h.sees Second)) in
    record {
      now = y.now;
      steps = x.steps + y.steps;
      some = λ z. nil_both c e (x.some (zero_sum x.steps y.steps z).0) (y.some (zero_sum x.steps y.steps z).1);
      leads = subst (λ (l : List Item). Leads (items p) (Good p) (x.steps + y.steps) (before p b l Onward d) (before p b more Onward y.now)) (sym (append_assoc c e more))
          (leads_on (items p) (Good p) x.steps y.steps (before p b (c ++ (e ++ more)) Onward d) (before p b (e ++ more) Onward x.now) (before p b more Onward y.now) x.leads y.leads);
      doubled = record {
        sound = y.sound_after;
        sees = elim [ First ↦ y.keeps a' x.sees | Second ↦ y.sees ];
        words = w h.words;
      };
    }

-- ---- addresses of cells

abbrev pub cell_of : Stream → ℕ → ℕ
cell_of t c = 0x10010000 + (8 * c + 4 * half t)

place_by : (c h : ℕ) → (0x10010000 + (8 * c + 4 * h) - 0x10010000) / 4 ≡ 2 * c + h
place_by c h = omega arith

pub place_is : (t : Stream) (c : ℕ) → place (cell_of t c) ≡ 2 * c + half t
place_is t c = place_by c (half t)

aligned_by : (c h : ℕ) → ((0x10010000 + (8 * c + 4 * h)) % 4 == 0) ≡ true
aligned_by c h = grind arith

inside_by : (c h size n : ℕ) → n ≡ 2 * size → c < size → h ≤ 1 → (nat_le 0x10010000 (0x10010000 + (8 * c + 4 * h)) && nat_lt ((0x10010000 + (8 * c + 4 * h) - 0x10010000) / 4) n) ≡ true
inside_by c h size n e k l = rw place_by (both_true (nat_le 0x10010000 (0x10010000 + (8 * c + 4 * h))) (nat_lt (2 * c + h) n) (grind arith) (grind arith))
  where
    both_true : (x y : Bool) → x ≡ true → y ≡ true → (x && y) ≡ true
    both_true x y e f = ap (λ (z : Bool). z && y) e ∙ f

half_fits : (t : Stream) → half t ≤ 1
half_fits First = omega arith
half_fits Second = omega arith

pub inside : (size : ℕ) (t : Stream) (c : ℕ) (d : Data) → length d.memory ≡ 2 * size → c < size → machine.in_memory (machine_of d) (cell_of t c) ≡ true
inside size t c d e k = inside_by c (half t) size (length d.memory) e k (half_fits t)

cell_parity : (c h : ℕ) → h ≤ 1 → (0x10010000 + (8 * c + 4 * h)) % 8 ≡ 4 * h
cell_parity c h k = omega arith

no_first : (k : ℕ) → k ≤ 9 → IsTrue (is_shadow (4 + k)) → ⊥
no_first k f h = grind arith

no_second : (k : ℕ) → k ≤ 9 → IsTrue (is_master (14 + k)) → ⊥
no_second k f h = grind arith

first_not_shadow : (r : Role) → RoleFits r → IsTrue (is_shadow (reg_in First r)) → ⊥
first_not_shadow (Value k) f h = no_first k f h
first_not_shadow Stack f h = grind arith
first_not_shadow Link f h = grind arith

second_not_master : (r : Role) → RoleFits r → IsTrue (is_master (reg_in Second r)) → ⊥
second_not_master (Value k) f h = no_second k f h
second_not_master Stack f h = grind arith
second_not_master Link f h = grind arith

pub parity_fits : (t : Stream) (r : Role) (c : ℕ) → RoleFits r → Parity (reg_in t r) (cell_of t c)
parity_fits First r c f = (λ h. cell_parity c 0 (half_fits First), λ h. absurd (first_not_shadow r f h))
parity_fits Second r c f = (λ h. absurd (second_not_master r f h), λ h. cell_parity c 1 (half_fits Second))

-- ---- a load

two_tests : {A : Type 0} (x y : Bool) (u v w : A) → x ≡ true → y ≡ true → cond (not x) u (cond (not y) v w) ≡ w
two_tests x y u v w e f = rw (e, f) refl

-- a load from a place that is there
abbrev loaded_state : machine.State → ℕ → ℕ → machine.State × Option ℕ
loaded_state s x addr = (record (machine.with_reg (machine.moved s) x (slice_index s.memory (place addr))) { last_load = x }, None)

pub load_is : (s : machine.State) (x addr : ℕ) → (addr % 4 == 0) ≡ true → machine.in_memory s addr ≡ true → machine.load s x addr ≡ loaded_state s x addr
load_is s x addr e f = two_tests (addr % 4 == 0) (machine.in_memory s addr) (machine.ended (Exception 4 s.pc) s) (machine.ended (Exception 7 s.pc) s) (loaded_state s x addr) e f

pub load_step : (p : HardProgram) (b : ℕ) (i : Item) (more : List Item) (d : Data) (x addr : ℕ) → item_act b i d ≡ Load x addr → (addr % 4 == 0) ≡ true → machine.in_memory (machine_of d) addr ≡ true → way_of p i d i.instr ≡ Onward →
    (items p).step (before p b (i ∷ more) Onward d) ≡ (before p b more Onward (wrote d x (slice_index d.memory (place addr)) (d.stored (place addr))), None)
load_step p b i more d x addr e al ins w =
    ap (λ (a : Act). do_item p (before p b (i ∷ more) Onward d) i more a) e ∙
    (ap (λ (r : machine.State × Option ℕ). settled p (before p b (i ∷ more) Onward d) i more (Load x addr) r r.0.end) (load_is (machine_of d) x addr al ins) ∙
    ap (λ (y : Way). let z : Spot × Option ℕ = (before p b more y (wrote d x (slice_index d.memory (place addr)) (d.stored (place addr))), None) in z) w)

no_exception_load : (b : ℕ) (i : Item) (d : Data) (x addr : ℕ) → item_act b i d ≡ Load x addr → (addr % 4 == 0) ≡ true → machine.in_memory (machine_of d) addr ≡ true → NoException b i d
no_exception_load b i d x addr e al ins code at h = none_some (Exception code at) (machine.perform (item_act b i d) (machine_of d)).0.end (ap (λ (a : Act). (machine.perform a (machine_of d)).0.end) e ∙ ap (λ (r : machine.State × Option ℕ). r.0.end) (load_is (machine_of d) x addr al ins)) h

abbrev pub load_in : Role → Role → ℕ → Stream → Instr
load_in to base offset t = mips.Lw (reg_in t to) (reg_in t base) (off_in t offset)

-- Where the base leads, in each stream, to a cell.
pub record Leads_to (size : ℕ) (a : Pairs) (base : Role) (offset c : ℕ) : Type 0 where
  pub fits : RoleFits base
  pub no_number : back_of a base ≡ false
  pub below : c < size
  pub address : (t : Stream) → plus (a.file base) (extended (off_in t offset)) ≡ cell_of t c

no_checks_in : (t : Stream) (i : Instr) (d : Data) → Each (SameIn d) (checks_of (class_in t) i)
no_checks_in First i d = tt
no_checks_in Second i d = tt

aligned : (t : Stream) (c : ℕ) → (cell_of t c % 4 == 0) ≡ true
aligned t c = aligned_by c (half t)

load_alone : (p : HardProgram) (size b : ℕ) (to base : Role) (offset c : ℕ) (a : Pairs) (t : Stream) → RoleFits to → BackFits to (a.number c) → Leads_to size a base offset c →
    DoesAlone p size b t (item_in (load_in to base offset) t ∷ []) a (put a to (a.cell c) (a.number c))
load_alone p size b to base offset c a t fits back l more d s e =
    let i : Item = item_in (load_in to base offset) t in
    let x : ℕ = reg_in t to in
    let here : plus (held d (reg_in t base)) (extended (off_in t offset)) ≡ cell_of t c = ap (λ (z : ℕ). plus z (extended (off_in t offset))) (e.file base l.fits) ∙ l.address t in
    let act : item_act b i d ≡ Load x (cell_of t c) = ap (λ (z : ℕ). Load x z) here in
    let ins : machine.in_memory (machine_of d) (cell_of t c) ≡ true = inside size t c d s.memory l.below in
    let word : slice_index d.memory (place (cell_of t c)) ≡ a.cell c = ap (λ (z : ℕ). slice_index d.memory z) (place_is t c) ∙ e.cell c l.below in
    let number : d.stored (place (cell_of t c)) ≡ a.number c = ap (λ (z : ℕ). d.stored z) (place_is t c) ∙ e.number c l.below in
    let d' : Data = wrote d x (a.cell c) (a.number c) in
    let w : wrote d x (slice_index d.memory (place (cell_of t c))) (d.stored (place (cell_of t c))) ≡ d' = ap (λ (z : ℕ). wrote d x z (d.stored (place (cell_of t c)))) word ∙ ap (λ (z : Bool). wrote d x (a.cell c) z) number in
    record {
      now = d';
      steps = 1;
      some = λ z. absurd (Rattle.std.proofs.Common.suc-ne-zero 0 z);
      leads = lead_one p (before p b (i ∷ more) Onward d) (before p b more Onward d') refl (
        record {
          placed = subst (λ (z : ℕ). Parity x z) (sym here) (parity_fits t to c fits);
          returns = tt;
          reads = (e.backs base l.fits ∙ l.no_number, tt);
          no_exception = no_exception_load b i d x (cell_of t c) act (aligned t c) ins;
        },
        no_checks_in t i.instr d,
      )
          (load_step p b i more d x (cell_of t c) act (aligned t c) ins refl ∙ ap (λ (y : Data). let z : Spot × Option ℕ = (before p b more Onward y, None) in z) w);
      sound = let z : Sound size d' (put a to (a.cell c) (a.number c)) = sound_write size t d a to (a.cell c) (a.number c) s in record { regs = z.regs; memory = z.memory; zero_ = z.zero_; zero_back = z.zero_back; two_back = z.two_back; feed = z.feed; fed = z.fed };
      sound_after = sound_write size t d a to (a.cell c) (a.number c) s;
      sees = sees_write size t d a to (a.cell c) (a.number c) fits back s e;
      keeps = λ z k. sees_beside size t d z to (a.cell c) (a.number c) fits k;
    }

pub does_load : (p : HardProgram) (size b : ℕ) (to base : Role) (offset c : ℕ) (a : Pairs) → RoleFits to → BackFits to (a.number c) → Leads_to size a base offset c → Does p size b (load to base offset) a (put a to (a.cell c) (a.number c))
does_load p size b to base offset c a fits back l =
    two_streams p size b (item_in (load_in to base offset) First ∷ []) (item_in (load_in to base offset) Second ∷ []) a (put a to (a.cell c) (a.number c))
    (load_alone p size b to base offset c a First fits back l) (load_alone p size b to base offset c a Second fits back l)
    (λ w. words_put size a to (a.cell c) (a.number c) (w.cell c) w)

-- ---- a store

abbrev pub stored_in : Data → ℕ → ℕ → Bool → Data
stored_in d q v b = record d { memory = slice_set d.memory q v; stored = marked d.stored q b }

-- The pairs with a new word in one cell.
abbrev pub set_cell : Pairs → ℕ → ℕ → Bool → Pairs
set_cell a c v b = record a { cell = λ q. if q == c then v else a.cell q; number = λ q. if q == c then b else a.number q }

two_apart : (c e h : ℕ) → (e == c) ≡ false → h ≤ 1 → 2 * e + h ≢ 2 * c + h
two_apart c e h k l = λ z. grind arith

halves_apart : (c e : ℕ) → 2 * e + 1 ≢ 2 * c + 0
halves_apart c e = λ z. omega arith

halves_apart' : (c e : ℕ) → 2 * e + 0 ≢ 2 * c + 1
halves_apart' c e = λ z. omega arith

cells_apart : (t : Stream) (c e : ℕ) → 2 * e + half (other t) ≢ 2 * c + half t
cells_apart First c e = halves_apart c e
cells_apart Second c e = halves_apart' c e

eq_is : (m n : ℕ) → (m == n) ≡ true → m ≡ n
eq_is m n h = grind arith

below_twice : (c h size n : ℕ) → n ≡ 2 * size → c < size → h ≤ 1 → 2 * c + h < n
below_twice c h size n e k l = omega arith

pub sees_store : (size : ℕ) (t : Stream) (d : Data) (a : Pairs) (c v : ℕ) (b : Bool) → c < size → length d.memory ≡ 2 * size → Sees size t d a → Sees size t (stored_in d (2 * c + half t) v b) (set_cell a c v b)
sees_store size t d a c v b k len s = record {
  file = s.file;
  backs = λ r f. s.backs r f ∙ sym (back_set r);
  cell = λ e l. elim (e == c) as (λ z. (e == c) ≡ z → get_or (slice_set d.memory (2 * c + half t) v) (2 * e + half t) 0 ≡ cond z v (a.cell e)) [
    | true ↦ λ q. subst (λ (x : ℕ). get_or (slice_set d.memory (2 * c + half t) v) (2 * x + half t) 0 ≡ v) (sym (eq_is e c q)) (get_or-set_same d.memory (2 * c + half t) v 0 (below_twice c (half t) size (length d.memory) len k (half_fits t)))
    | false ↦ λ q. get_or-set_other d.memory (2 * c + half t) (2 * e + half t) v 0 (two_apart c e (half t) q (half_fits t)) ∙ s.cell e l
  ] refl;
  number = λ e l. elim (e == c) as (λ z. (e == c) ≡ z → marked d.stored (2 * c + half t) b (2 * e + half t) ≡ cond z b (a.number e)) [
    | true ↦ λ q. subst (λ (x : ℕ). marked d.stored (2 * c + half t) b (2 * x + half t) ≡ b) (sym (eq_is e c q)) (marked_there d.stored (2 * c + half t) b)
    | false ↦ λ q. marked_beside d.stored (2 * c + half t) b (2 * e + half t) (two_apart c e (half t) q (half_fits t)) ∙ s.number e l
  ] refl;
}
  where
    back_set : (r : Role) → back_of (set_cell a c v b) r ≡ back_of a r
    back_set (Value j) = refl
    back_set Stack = refl
    back_set Link = refl

pub sees_store_beside : (size : ℕ) (t : Stream) (d : Data) (z : Pairs) (c v : ℕ) (b : Bool) → Sees size (other t) d z → Sees size (other t) (stored_in d (2 * c + half t) v b) z
sees_store_beside size t d z c v b s = record {
  file = s.file;
  backs = s.backs;
  cell = λ e l. get_or-set_other d.memory (2 * c + half t) (2 * e + half (other t)) v 0 (cells_apart t c e) ∙ s.cell e l;
  number = λ e l. marked_beside d.stored (2 * c + half t) b (2 * e + half (other t)) (cells_apart t c e) ∙ s.number e l;
}

pub sound_store : (size : ℕ) (d : Data) (a : Pairs) (q v : ℕ) (b : Bool) → Sound size d a → Sound size (stored_in d q v b) a
sound_store size d a q v b s = record { regs = s.regs; memory = length-set d.memory q v ∙ s.memory; zero_ = s.zero_; zero_back = s.zero_back; two_back = s.two_back; feed = s.feed; fed = s.fed }

-- a store to a place that is there
abbrev stored_state : machine.State → ℕ → ℕ → machine.State × Option ℕ
stored_state s addr v = (record (machine.moved s) { memory = slice_set s.memory (place addr) v }, None)

pub store_is : (s : machine.State) (addr v : ℕ) → (addr % 4 == 0) ≡ true → machine.in_memory s addr ≡ true → machine.store s addr v ≡ stored_state s addr v
store_is s addr v e f = two_tests (addr % 4 == 0) (machine.in_memory s addr) (machine.ended (Exception 5 s.pc) s) (machine.ended (Exception 7 s.pc) s) (stored_state s addr v) e f

abbrev pub sw : ℕ → ℕ → ℕ → Item
sw rt rs imm = plain (mips.Sw rt rs imm) class.Act

pub store_step : (p : HardProgram) (b : ℕ) (rt rs imm : ℕ) (more : List Item) (d : Data) (addr : ℕ) → plus (held d rs) (extended imm) ≡ addr → (addr % 4 == 0) ≡ true → machine.in_memory (machine_of d) addr ≡ true →
    (items p).step (before p b (sw rt rs imm ∷ more) Onward d) ≡ (before p b more Onward (stored_in d (place addr) (held d rt) (d.backs rt)), None)
store_step p b rt rs imm more d addr e al ins =
    ap (λ (z : ℕ). do_item p (before p b (sw rt rs imm ∷ more) Onward d) (sw rt rs imm) more (Store z (held d rt))) e ∙
    ap (λ (r : machine.State × Option ℕ). settled p (before p b (sw rt rs imm ∷ more) Onward d) (sw rt rs imm) more (Store addr (held d rt)) r r.0.end) (store_is (machine_of d) addr (held d rt) al ins)

no_exception_store : (b : ℕ) (rt rs imm : ℕ) (d : Data) (addr : ℕ) → plus (held d rs) (extended imm) ≡ addr → (addr % 4 == 0) ≡ true → machine.in_memory (machine_of d) addr ≡ true → NoException b (sw rt rs imm) d
no_exception_store b rt rs imm d addr e al ins code at h = none_some (Exception code at) (machine.perform (item_act b (sw rt rs imm) d) (machine_of d)).0.end (ap (λ (z : ℕ). (machine.perform (Store z (held d rt)) (machine_of d)).0.end) e ∙ ap (λ (r : machine.State × Option ℕ). r.0.end) (store_is (machine_of d) addr (held d rt) al ins)) h

each_if : (P : ℕ × ℕ → Type 0) (x : Bool) (l : List (ℕ × ℕ)) → (x ≡ true → Each P l) → Each P (cond x l [])
each_if P true l h = h refl
each_if P false l h = tt

shadow_by : (k : ℕ) → k ≤ 9 → shadow_of (4 + k) ≡ 14 + k
shadow_by k h = grind arith

pub shadow_is : (r : Role) → RoleFits r → shadow_of (reg_in First r) ≡ reg_in Second r
shadow_is (Value k) f = shadow_by k f
shadow_is Stack f = refl
shadow_is Link f = refl

-- both streams hold the same in a role
pub same_in : (size : ℕ) (d : Data) (a : Pairs) (r : Role) → RoleFits r → Sees size First d a → Sees size Second d a → SameIn d (reg_in First r, shadow_of (reg_in First r))
same_in size d a r f s e =
    subst (λ (x : ℕ). SameIn d (reg_in First r, x)) (sym (shadow_is r f)) (s.file r f ∙ sym (e.file r f), s.backs r f ∙ sym (e.backs r f))

not_master : (r : Role) → RoleFits r → is_master (reg_in Second r) ≡ true → ⊥
not_master r f h = second_not_master r f h

store_one : (p : HardProgram) (size b : ℕ) (from base : Role) (offset c : ℕ) (a : Pairs) (t : Stream) (more : List Item) (d : Data) → RoleFits from → Leads_to size a base offset c → Sound size d a → Sees size t d a → Each (SameIn d) (checks_of class.Act (mips.Sw (reg_in t from) (reg_in t base) (off_in t offset))) →
    Leads (items p) (Good p) 1 (before p b (sw (reg_in t from) (reg_in t base) (off_in t offset) ∷ more) Onward d) (before p b more Onward (stored_in d (2 * c + half t) (a.file from) (back_of a from)))
store_one p size b from base offset c a t more d fits l s e agrees =
    let rt : ℕ = reg_in t from in
    let rs : ℕ = reg_in t base in
    let imm : ℕ = off_in t offset in
    let here : plus (held d rs) (extended imm) ≡ cell_of t c = ap (λ (z : ℕ). plus z (extended imm)) (e.file base l.fits) ∙ l.address t in
    let ins : machine.in_memory (machine_of d) (cell_of t c) ≡ true = inside size t c d s.memory l.below in
    let w : stored_in d (place (cell_of t c)) (held d rt) (d.backs rt) ≡ stored_in d (2 * c + half t) (a.file from) (back_of a from) =
    ap (λ (z : ℕ). stored_in d z (held d rt) (d.backs rt)) (place_is t c) ∙ (ap (λ (z : ℕ). stored_in d (2 * c + half t) z (d.backs rt)) (e.file from fits) ∙ ap (λ (z : Bool). stored_in d (2 * c + half t) (a.file from) z) (e.backs from fits)) in
    lead_one p (before p b (sw rt rs imm ∷ more) Onward d) (before p b more Onward (stored_in d (2 * c + half t) (a.file from) (back_of a from))) refl (
      record {
        placed = subst (λ (z : ℕ). Parity rt z) (sym here) (parity_fits t from c fits);
        returns = tt;
        reads = e.backs base l.fits ∙ l.no_number;
        no_exception = no_exception_store b rt rs imm d (cell_of t c) here (aligned t c) ins;
      },
      agrees,
    )
    (store_step p b rt rs imm more d (cell_of t c) here (aligned t c) ins ∙ ap (λ (y : Data). let z : Spot × Option ℕ = (before p b more Onward y, None) in z) w)

pub does_store : (p : HardProgram) (size b : ℕ) (from base : Role) (offset c : ℕ) (a : Pairs) → RoleFits from → Leads_to size a base offset c → Does p size b (store from base offset) a (set_cell a c (a.file from) (back_of a from))
does_store p size b from base offset c a fits l more d h =
    let v : ℕ = a.file from in
    let n : Bool = back_of a from in
    let d1 : Data = stored_in d (2 * c + half First) v n in
    let s1 : Sound size d1 a = sound_store size d a (2 * c + half First) v n h.sound in
    let e1 : Sees size Second d1 a = sees_store_beside size First d a c v n (h.sees Second) in
    let f1 : Sees size First d1 (set_cell a c v n) = sees_store size First d a c v n l.below h.sound.memory (h.sees First) in
    let d2 : Data = stored_in d1 (2 * c + half Second) v n in
    let s2 : Sound size d2 a = sound_store size d1 a (2 * c + half Second) v n s1 in
    record {
      now = d2;
      steps = 2;
      some = λ z. absurd (Rattle.std.proofs.Common.suc-ne-zero 1 z);
      leads = leads_on (items p) (Good p) 1 1 (before p b (sw (reg_in First from) (reg_in First base) offset ∷ sw (reg_in Second from) (reg_in Second base) (off_in Second offset) ∷ more) Onward d) (before p b (sw (reg_in Second from) (reg_in Second base) (off_in Second offset) ∷ more) Onward d1) (before p b more Onward d2)
          (store_one p size b from base offset c a First (sw (reg_in Second from) (reg_in Second base) (off_in Second offset) ∷ more) d fits l h.sound (h.sees First)
          (each_if (SameIn d) (is_master (reg_in First from)) ((reg_in First from, shadow_of (reg_in First from)) ∷ (reg_in First base, shadow_of (reg_in First base)) ∷ []) (λ z. (same_in size d a from fits (h.sees First) (h.sees Second), (same_in size d a base l.fits (h.sees First) (h.sees Second), tt)))))
          (store_one p size b from base offset c a Second more d1 fits l s1 e1
          (each_if (SameIn d1) (is_master (reg_in Second from)) ((reg_in Second from, shadow_of (reg_in Second from)) ∷ (reg_in Second base, shadow_of (reg_in Second base)) ∷ []) (λ z. absurd (not_master from fits z))));
      doubled = record {
        sound = record { regs = s2.regs; memory = s2.memory; zero_ = s2.zero_; zero_back = s2.zero_back; two_back = s2.two_back; feed = s2.feed; fed = s2.fed };
        sees = elim [
          | First ↦ sees_store_beside size Second d1 (set_cell a c v n) c v n f1
          | Second ↦ sees_store size Second d1 a c v n l.below s1.memory e1
        ];
        words = record {
          file = h.words.file;
          cell = λ q. elim (q == c) as (λ z. cond z v (a.cell q) < 2 ^ 32) [ true ↦ h.words.file from | false ↦ h.words.cell q ];
        };
      };
    }

-- ---- a product with its move

pub record Multiplies (p : HardProgram) (size : ℕ) (f g : Stream → Instr) (r : Role) (a : Pairs) (v : ℕ) : Type 0 where
  pub fits : RoleFits r
  pub back_fits : BackFits r false
  pub word : v < 2 ^ 32
  pub high : ℕ
  pub low : ℕ
  pub act : (t : Stream) (d : Data) → Sound size d a → Sees size t d a → machine.act (f t) (machine_of d) ≡ Both high low
  pub move : (t : Stream) (d : Data) → machine.act (g t) (machine_of (with_halves d high low)) ≡ Move (reg_in t r) v
  pub way : (t : Stream) (i : Item) (d : Data) → way_of p i d (f t) ≡ Onward
  pub way_move : (t : Stream) (i : Item) (d : Data) → way_of p i d (g t) ≡ Onward
  pub placed : (t : Stream) (d : Data) → Placed (f t) d × Placed (g t) d
  pub returns : (t : Stream) (b : ℕ) (d : Data) → Returns p b (f t) d × Returns p b (g t) d
  pub reads : (t : Stream) (d : Data) → Sound size d a → Sees size t d a → Reads (f t) d
  pub reads_move : (t : Stream) (d : Data) → Reads (g t) d

no_exception_by : (b : ℕ) (i : Item) (d : Data) (x : Act) → item_act b i d ≡ x → ((machine.perform x (machine_of d)).0.end ≡ None) → NoException b i d
no_exception_by b i d x e f code at h = none_some (Exception code at) (machine.perform (item_act b i d) (machine_of d)).0.end (ap (λ (z : Act). (machine.perform z (machine_of d)).0.end) e ∙ f) h

product_alone : (p : HardProgram) (size b : ℕ) (f g : Stream → Instr) (r : Role) (a : Pairs) (v : ℕ) (t : Stream) → Multiplies p size f g r a v → DoesAlone p size b t (item_in f t ∷ item_in g t ∷ []) a (put a r v false)
product_alone p size b f g r a v t m more d s e =
    let i : Item = item_in f t in
    let j : Item = item_in g t in
    let act : item_act b i d ≡ Both m.high m.low = ap (λ (z : Act). Rattle.hard_items.specs.Run.numbered b z) (m.act t d s e) in
    let d1 : Data = with_halves d m.high m.low in
    let move : item_act b j d1 ≡ Move (reg_in t r) v = ap (λ (z : Act). Rattle.hard_items.specs.Run.numbered b z) (m.move t d) in
    let s1 : Sound size d1 a = record { regs = s.regs; memory = s.memory; zero_ = s.zero_; zero_back = s.zero_back; two_back = s.two_back; feed = s.feed; fed = s.fed } in
    let e1 : Sees size t d1 a = record { file = e.file; backs = e.backs; cell = e.cell; number = e.number } in
    let d2 : Data = wrote d1 (reg_in t r) v false in
    record {
      now = d2;
      steps = 2;
      some = λ z. absurd (Rattle.std.proofs.Common.suc-ne-zero 1 z);
      leads = leads_on (items p) (Good p) 1 1 (before p b (i ∷ j ∷ more) Onward d) (before p b (j ∷ more) Onward d1) (before p b more Onward d2)
          (lead_one p (before p b (i ∷ j ∷ more) Onward d) (before p b (j ∷ more) Onward d1) refl
          (record { placed = (m.placed t d).0; returns = (m.returns t b d).0; reads = m.reads t d s e; no_exception = no_exception_by b i d (Both m.high m.low) act refl }, no_checks_in t i.instr d)
          (Rattle.double_law.proofs.Leading.both_step p b i (j ∷ more) d m.high m.low act (m.way t i d)))
          (lead_one p (before p b (j ∷ more) Onward d1) (before p b more Onward d2) refl
          (record { placed = (m.placed t d1).1; returns = (m.returns t b d1).1; reads = m.reads_move t d1; no_exception = no_exception_by b j d1 (Move (reg_in t r) v) move refl }, no_checks_in t j.instr d1)
          (Rattle.double_law.proofs.Leading.move_step p b j more d1 (reg_in t r) v move (m.way_move t j d1)));
      sound = let z : Sound size d2 (put a r v false) = sound_write size t d1 a r v false s1 in record { regs = z.regs; memory = z.memory; zero_ = z.zero_; zero_back = z.zero_back; two_back = z.two_back; feed = z.feed; fed = z.fed };
      sound_after = sound_write size t d1 a r v false s1;
      sees = sees_write size t d1 a r v false m.fits m.back_fits s1 e1;
      keeps = λ z k. sees_beside size t d1 z r v false m.fits (record { file = k.file; backs = k.backs; cell = k.cell; number = k.number });
    }

pub does_product : (p : HardProgram) (size b : ℕ) (f g : Stream → Instr) (r : Role) (a : Pairs) (v : ℕ) → Multiplies p size f g r a v → Does p size b (product f g) a (put a r v false)
does_product p size b f g r a v m =
    two_streams p size b (item_in f First ∷ item_in g First ∷ []) (item_in f Second ∷ item_in g Second ∷ []) a (put a r v false)
    (product_alone p size b f g r a v First m) (product_alone p size b f g r a v Second m) (λ w. words_put size a r v false m.word w)
