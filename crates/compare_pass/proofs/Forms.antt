-- Setting the checks of forms gives the forms with their checks, and what stands in delay slots has none.
use Rattle.std.proofs.Common.{◌≡◌, ◌≢◌, ◌≤◌, ◌<◌, ℕ, zero, suc, ◌+◌, ◌%◌, ◌^◌, arith, ap, refl, sym, ◌∙◌, subst, List, [], ◌∷◌, ◌++◌, append_assoc, append-nil, map, Bool, true, false, cond, not, inl, inr, flat_map}
use Rattle.std.specs.Prelude.{◌==◌, ◌&&◌, ◌||◌, if◌then◌else◌, IsTrue}
use Rattle.mips_isa.specs.declared.instr.Instr.{Instr}
use Rattle.mips_isa.specs.declared.instr.Instr.TheVariants as mips
use Rattle.mips_isa.specs.Machine.{is_product}
use Rattle.mips_isa.specs.Locality.{is_data, is_move}
use Rattle.hard_items.specs.declared.code.Class.{Class}
use Rattle.hard_items.specs.declared.code.Class.TheVariants as class
use Rattle.hard_items.specs.declared.code.Item.{Item}
use Rattle.hard_items.specs.declared.code.HardProgram.{HardProgram}
use Rattle.hard_items.specs.Streams.{is_master, shadow_of, is_stream, nop, plain}
use Rattle.hard_items.specs.Run.{Data, Way, Onward, Over, To, way_of, held}
use Rattle.hard_items.specs.Forms.{Form, Alone, Product, Store, Test, Output, Takes, Idle, Close, Jump, Branch, Call, Return, Exit, form_items, close_items, block_of, Each, FormFits, CloseFits, HasChecks, CloseHasChecks, Formed, check, check_if, is_value}
use Rattle.hard_items.specs.Rules.{Checked}
use Rattle.hard_items.specs.Counts.{is_of_check}
use Rattle.compare_pass.specs.Guarding.{acting, checks, with_checks, acts}
use Rattle.compare_pass.proofs.Keeps.{FitsWay, SlotsFit, Unchecked}

-- ---- forms without checks, and with them

abbrev pub with_checked : Form → Form
with_checked (Alone i) = Alone i
with_checked (Product i j) = Product i j
with_checked (Store checked v b o) = Store true v b o
with_checked (Test checked r k) = Test true r k
with_checked (Output checked) = Output true
with_checked (Takes r) = Takes r
with_checked Idle = Idle

abbrev pub close_with_checks : Close → Close
close_with_checks (Jump to) = Jump to
close_with_checks (Branch checked r when to) = Branch true r when to
close_with_checks (Call f) = Call f
close_with_checks (Return checked) = Return true
close_with_checks (Exit checked) = Exit true

-- ---- items of streams have no checks

stream_rests : (c : Class) → is_stream c ≡ true → acts c ≡ false
stream_rests class.Master h = refl
stream_rests class.Shadow h = refl
stream_rests class.Check h = absurd (Rattle.std.proofs.Common.true≢false (sym h))
stream_rests class.Act h = absurd (Rattle.std.proofs.Common.true≢false (sym h))
stream_rests class.Head h = absurd (Rattle.std.proofs.Common.true≢false (sym h))
stream_rests class.Input h = absurd (Rattle.std.proofs.Common.true≢false (sym h))

stream_bare : (z : Bool) (i : Item) → is_stream i.class ≡ true → Unchecked z i
stream_bare z i h = ap (λ (v : Bool). cond (v && not z) (acting i) (i ∷ [])) (stream_rests i.class h)

-- an item of a stream is none of a check
stream_other : (c : Class) → is_stream c ≡ true → is_of_check c ≡ false
stream_other class.Master h = refl
stream_other class.Shadow h = refl
stream_other class.Check h = absurd (Rattle.std.proofs.Common.true≢false (sym h))
stream_other class.Act h = absurd (Rattle.std.proofs.Common.true≢false (sym h))
stream_other class.Head h = absurd (Rattle.std.proofs.Common.true≢false (sym h))
stream_other class.Input h = absurd (Rattle.std.proofs.Common.true≢false (sym h))

value_master : (v : ℕ) → IsTrue (is_value v || v == 31) → is_master v ≡ true
value_master v h = grind arith

shadow_not : (v : ℕ) → IsTrue (is_value v || v == 31) → is_master (shadow_of v) ≡ false
shadow_not v h = grind arith

-- An item of a stream before others.
stream_front : (i : Item) (rest : List Item) → is_stream i.class ≡ true → with_checks false (i ∷ rest) ≡ i ∷ with_checks false rest
stream_front i rest h = ap (λ (x : List Item). x ++ with_checks (is_of_check i.class) rest) (stream_bare false i h) ∙ ap (λ (z : Bool). i ∷ with_checks z rest) (stream_other i.class h)

abbrev checked_sw : Bool → ℕ → ℕ → ℕ → List Item
checked_sw z v b o = checks (if z then (v, shadow_of v) ∷ (b, shadow_of b) ∷ [] else []) ++ plain (mips.Sw v b o) class.Act ∷ []

-- the two stores of a form
bare_stores : (v b o w c e : ℕ) (rest : List Item) → is_master v ≡ true → is_master w ≡ false →
    with_checks false (plain (mips.Sw v b o) class.Act ∷ plain (mips.Sw w c e) class.Act ∷ rest) ≡ check v (shadow_of v) ++ (check b (shadow_of b) ++ plain (mips.Sw v b o) class.Act ∷ plain (mips.Sw w c e) class.Act ∷ with_checks false rest)
bare_stores v b o w c e rest m s = ap (λ (z : Bool). checked_sw z v b o ++ (checked_sw (is_master w) w c e ++ with_checks false rest)) m ∙ ap (λ (z : Bool). checked_sw true v b o ++ (checked_sw z w c e ++ with_checks false rest)) s

-- the same where the checks stand
checked_stores : (v b o w c e : ℕ) (rest : List Item) → is_master w ≡ false →
    with_checks true (plain (mips.Sw v b o) class.Act ∷ plain (mips.Sw w c e) class.Act ∷ rest) ≡ plain (mips.Sw v b o) class.Act ∷ plain (mips.Sw w c e) class.Act ∷ with_checks false rest
checked_stores v b o w c e rest s = ap (λ (z : Bool). plain (mips.Sw v b o) class.Act ∷ (checked_sw z w c e ++ with_checks false rest)) s

pub guarded_form : (f : Form) (rest : List Item) → FormFits f → with_checks false (form_items f ++ rest) ≡ form_items (with_checked f) ++ with_checks false rest
guarded_form (Alone i) rest h = stream_front i rest h.stream
guarded_form (Product i j) rest h = stream_front i (j ∷ rest) h.stream ∙ ap (λ (x : List Item). i ∷ x) (stream_front j rest (ap (λ (c : Class). is_stream c) (sym h.one_stream) ∙ h.stream))
guarded_form (Store true v b o) rest h = ap (λ (x : List Item). check v (shadow_of v) ++ (check b (shadow_of b) ++ x)) (checked_stores v b o (shadow_of v) (shadow_of b) ((o + 4) % 2 ^ 16) rest (shadow_not v h.0))
guarded_form (Store false v b o) rest h = bare_stores v b o (shadow_of v) (shadow_of b) ((o + 4) % 2 ^ 16) rest (value_master v h.0) (shadow_not v h.0)
guarded_form (Test true r k) rest h = refl
guarded_form (Test false r k) rest h = refl
guarded_form (Output true) rest h = refl
guarded_form (Output false) rest h = refl
guarded_form (Takes r) rest h = refl
guarded_form Idle rest h = refl

pub guarded_close : (c : Close) → with_checks false (close_items c) ≡ close_items (close_with_checks c)
guarded_close (Jump to) = refl
guarded_close (Branch true r true to) = refl
guarded_close (Branch true r false to) = refl
guarded_close (Branch false r true to) = refl
guarded_close (Branch false r false to) = refl
guarded_close (Call f) = refl
guarded_close (Return true) = refl
guarded_close (Return false) = refl
guarded_close (Exit true) = refl
guarded_close (Exit false) = refl

-- a block
pub guarded_block : (fs : List Form) (c : Close) → Each FormFits fs → with_checks false (block_of fs c) ≡ block_of (map with_checked fs) (close_with_checks c)
guarded_block [] c h = guarded_close c
guarded_block (f ∷ fs) c h =
    ap (λ (l : List Item). with_checks false l) (append_assoc (form_items f) (flat_map form_items fs) (close_items c)) ∙ (guarded_form f (block_of fs c) h.0 ∙
    (ap (λ (l : List Item). form_items (with_checked f) ++ l) (guarded_block fs c h.1) ∙
    sym (append_assoc (form_items (with_checked f)) (flat_map form_items (map with_checked fs)) (close_items (close_with_checks c)))))

fits_with : (f : Form) → FormFits f → FormFits (with_checked f)
fits_with (Alone i) h = h
fits_with (Product i j) h = h
fits_with (Store k v b o) h = h
fits_with (Test k r n) h = h
fits_with (Output k) h = h
fits_with (Takes r) h = h
fits_with Idle h = h

all_fit : (fs : List Form) → Each FormFits fs → Each FormFits (map with_checked fs)
all_fit [] h = tt
all_fit (f ∷ fs) h = (fits_with f h.0, all_fit fs h.1)

checked_form : (f : Form) → HasChecks (with_checked f)
checked_form (Alone i) = tt
checked_form (Product i j) = tt
checked_form (Store k v b o) = refl
checked_form (Test k r n) = refl
checked_form (Output k) = refl
checked_form (Takes r) = tt
checked_form Idle = tt

all_checked : (fs : List Form) → Each HasChecks (map with_checked fs)
all_checked [] = tt
all_checked (f ∷ fs) = (checked_form f, all_checked fs)

close_fits_with : (c : Close) → CloseFits c → CloseFits (close_with_checks c)
close_fits_with (Jump to) h = h
close_fits_with (Branch k r when to) h = h
close_fits_with (Call f) h = h
close_fits_with (Return k) h = h
close_fits_with (Exit k) h = h

close_checked : (c : Close) → CloseHasChecks (close_with_checks c)
close_checked (Jump to) = tt
close_checked (Branch k r when to) = refl
close_checked (Call f) = tt
close_checked (Return k) = refl
close_checked (Exit k) = refl

-- The checks of a block stand whole.
pub guarded_checked : (xs : List Item) → Formed xs → Checked (with_checks false xs)
guarded_checked xs f = record {
  formed = record { forms = map with_checked f.forms; close = close_with_checks f.close; is = ap (λ (l : List Item). with_checks false l) f.is ∙ guarded_block f.forms f.close f.fit; fit = all_fit f.forms f.fit; close_fits = close_fits_with f.close f.close_fits };
  each = all_checked f.forms;
  close = close_checked f.close;
}

-- ---- delay slots

data_onward : (p : HardProgram) (i : Item) (d : Data) (x : Instr) → is_data x ≡ true → way_of p i d x ≡ Onward
data_onward p i d (mips.J t) h = absurd (Rattle.std.proofs.Common.true≢false (sym h))
data_onward p i d (mips.Jal t) h = absurd (Rattle.std.proofs.Common.true≢false (sym h))
data_onward p i d (mips.Jr rs) h = absurd (Rattle.std.proofs.Common.true≢false (sym h))
data_onward p i d (mips.Beq rs rt imm) h = absurd (Rattle.std.proofs.Common.true≢false (sym h))
data_onward p i d (mips.Bne rs rt imm) h = absurd (Rattle.std.proofs.Common.true≢false (sym h))
data_onward p i d x h = refl

product_data : (i : Instr) → is_product i ≡ true → is_data i ≡ true
product_data (mips.Mult rs rt) e = refl
product_data (mips.Multu rs rt) e = refl
product_data (mips.Div rs rt) e = refl
product_data (mips.Divu rs rt) e = refl
product_data i e = absurd (Rattle.std.proofs.Common.true≢false (sym e))

move_data : (i : Instr) → is_move i ≡ true → is_data i ≡ true
move_data (mips.Mfhi rd) e = refl
move_data (mips.Mflo rd) e = refl
move_data i e = absurd (Rattle.std.proofs.Common.true≢false (sym e))

onward_fits : (p : HardProgram) (i : Item) (z : Bool) (more : List Item) → is_data i.instr ≡ true → (d : Data) → FitsWay (way_of p i d i.instr) z more
onward_fits p i z more h d = subst (λ (w : Way). FitsWay w z more) (sym (data_onward p i d i.instr h)) tt

-- behind a branch that skips
skip_fits : (z c : Bool) (j k : Item) (rest : List Item) → Unchecked c j → Unchecked (is_of_check j.class) k → FitsWay (cond z Over Onward) c (j ∷ k ∷ rest)
skip_fits true c j k rest e f = (e, f)
skip_fits false c j k rest e f = tt

skip_else : (z c : Bool) (j k : Item) (rest : List Item) → Unchecked c j → Unchecked (is_of_check j.class) k → FitsWay (cond z Onward Over) c (j ∷ k ∷ rest)
skip_else true c j k rest e f = tt
skip_else false c j k rest e f = (e, f)

check_slots : (p : HardProgram) (x y : ℕ) (rest : List Item) → SlotsFit p rest → SlotsFit p (check x y ++ rest)
check_slots p x y rest s = (λ d. skip_fits (held d x == held d y) true (plain nop class.Check) (plain (mips.Break 1) class.Check) rest refl refl, (λ d. tt, (λ d. tt, s)))

check_if_slots : (p : HardProgram) (c : Bool) (m : ℕ) (rest : List Item) → SlotsFit p rest → SlotsFit p (check_if c m ++ rest)
check_if_slots p true m rest s = check_slots p m (shadow_of m) rest s
check_if_slots p false m rest s = s

form_slots : (p : HardProgram) (f : Form) (rest : List Item) → FormFits f → SlotsFit p rest → SlotsFit p (form_items f ++ rest)
form_slots p (Alone i) rest h s = (onward_fits p i (is_of_check i.class) rest h.computes, s)
form_slots p (Product i j) rest h s = (onward_fits p i (is_of_check i.class) (j ∷ rest) (product_data i.instr h.product), (onward_fits p j (is_of_check j.class) rest (move_data j.instr h.move), s))
form_slots p (Store c v o k) rest h s =
    subst (SlotsFit p) (sym (append_assoc (check_if c v) (check_if c o ++ stores) rest ∙ ap (λ (z : List Item). check_if c v ++ z) (append_assoc (check_if c o) stores rest)))
    (check_if_slots p c v (check_if c o ++ (stores ++ rest)) (check_if_slots p c o (stores ++ rest) (λ d. tt, (λ d. tt, s))))
  where
    stores : List Item
    stores = plain (mips.Sw v o k) class.Act ∷ plain (mips.Sw (shadow_of v) (shadow_of o) ((k + 4) % 2 ^ 16)) class.Act ∷ []
form_slots p (Test c r code) rest h s =
    subst (SlotsFit p) (sym (append_assoc (check_if c r) tests rest))
    (check_if_slots p c r (tests ++ rest) (λ d. skip_else (held d r == held d 0) false (plain nop class.Act) (plain (mips.Break code) class.Act) rest refl refl, (λ d. tt, (λ d. tt, s))))
  where
    tests : List Item
    tests = plain (mips.Bne r 0 2) class.Act ∷ plain nop class.Act ∷ plain (mips.Break code) class.Act ∷ []
form_slots p (Output true) rest h s = (λ d. skip_fits (held d 4 == held d 14) true (plain (mips.Ori 2 0 1) class.Act) (plain (mips.Break 1) class.Check) (plain mips.Syscall class.Act ∷ rest) refl refl, (λ d. tt, (λ d. tt, (λ d. tt, s))))
form_slots p (Output false) rest h s = (λ d. tt, (λ d. tt, s))
form_slots p (Takes r) rest h s = (λ d. tt, (λ d. tt, (λ d. tt, (λ d. tt, s))))
form_slots p Idle rest h s = (λ d. tt, s)

close_slots : (p : HardProgram) (c : Close) → SlotsFit p (close_items c)
close_slots p (Jump to) = (λ d. refl, (λ d. tt, tt))
close_slots p (Branch c r true to) = check_if_slots p c r _ (λ d. by_test (held d r == held d 0), (λ d. tt, tt))
  where
    by_test : (z : Bool) → FitsWay (cond z Onward (To to)) false (plain nop class.Act ∷ [])
    by_test true = tt
    by_test false = refl
close_slots p (Branch c r false to) = check_if_slots p c r _ (λ d. by_test (held d r == held d 0), (λ d. tt, tt))
  where
    by_test : (z : Bool) → FitsWay (cond z (To to) Onward) false (plain nop class.Act ∷ [])
    by_test true = refl
    by_test false = tt
close_slots p (Call f) = (λ d. refl, (λ d. tt, tt))
close_slots p (Return c) = check_if_slots p c 31 _ (λ d. refl, (λ d. tt, tt))
close_slots p (Exit true) = (λ d. skip_fits (held d 4 == held d 14) true (plain (mips.Ori 2 0 17) class.Act) (plain (mips.Break 1) class.Check) (plain mips.Syscall class.Act ∷ plain (mips.Break 1) class.Act ∷ []) refl refl, (λ d. tt, (λ d. tt, (λ d. tt, (λ d. tt, tt)))))
close_slots p (Exit false) = (λ d. tt, (λ d. tt, (λ d. tt, tt)))

-- What stands in a delay slot of a block of forms gets no checks.
pub block_slots : (p : HardProgram) (fs : List Form) (c : Close) → Each FormFits fs → SlotsFit p (block_of fs c)
block_slots p [] c h = close_slots p c
block_slots p (f ∷ fs) c h = subst (λ (l : List Item). SlotsFit p l) (sym (append_assoc (form_items f) (flat_map form_items fs) (close_items c))) (form_slots p f (block_of fs c) h.0 (block_slots p fs c h.1))
