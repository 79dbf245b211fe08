-- Setting the checks keeps the halves of return addresses in pairs.
use Rattle.std.proofs.Common.{◌≡◌, ◌≢◌, ◌<◌, ℕ, ◌+◌, ◌%◌, ◌^◌, arith, ap, refl, sym, ◌∙◌, subst, List, [], ◌∷◌, ◌++◌, append_assoc, map, Bool, true, false, flat_map}
use Rattle.std.specs.Prelude.{IsTrue}
use Rattle.mips_isa.specs.declared.instr.Instr.{Instr}
use Rattle.mips_isa.specs.declared.instr.Instr.TheVariants as mips
use Rattle.hard_items.specs.declared.code.Class.TheVariants as class
use Rattle.hard_items.specs.declared.code.Fix.{Fix}
use Rattle.hard_items.specs.declared.code.Fix.TheVariants.{Plain, Block, Function, ReturnHigh, ReturnLow}
use Rattle.hard_items.specs.declared.code.Item.{Item}
use Rattle.hard_items.specs.Streams.{shadow_of, nop, plain}
use Rattle.hard_items.specs.Forms.{Form, Alone, Product, Store, Test, Output, Takes, Idle, Close, Jump, Branch, Call, Return, Exit, form_items, close_items, block_of, Each, FormFits, CloseFits, Formed, check, check_if, is_value, HalvesAt, HalvesPair}
use Rattle.compare_pass.specs.Guarding.{with_checks}
use Rattle.compare_pass.proofs.Forms.{with_checked, close_with_checks, guarded_block}

apart_ : (n m : ℕ) → n < 25 → m ≡ 25 → n ≢ m
apart_ n m h e = omega arith

none : (z : ℕ) → z ≡ 0 → z ≢ 25
none z e = apart_ z 25 (low z e) refl
  where
    low : (z : ℕ) → z ≡ 0 → z < 25
    low z e = omega arith

value_apart : (r m : ℕ) → m ≡ 25 → IsTrue (is_value r) → (r ≢ m) × (shadow_of r ≢ m)
value_apart r m e h = ((grind arith), (grind arith))

closed_no : (o : Bool) → o ≡ false → o ≡ true → ⊥
closed_no o e f = cc

-- ---- what stands behind an item

behind_item : (P Q : Bool → Type 0) (f : Fix) (o : Bool) (x : Instr) → HalvesAt P f o x → ((z : Bool) → P z → Q z) → HalvesAt Q f o x
behind_item P Q Plain o x h g = (h.0, g o h.1)
behind_item P Q (Block t) o x h g = (h.0, g o h.1)
behind_item P Q (Function t) o x h g = (h.0, g o h.1)
behind_item P Q ReturnHigh o x h g = (h.0, g true h.1)
behind_item P Q ReturnLow o x h g = (h.0, g false h.1)

-- ---- checks

strip : (c : Bool) (m : ℕ) (xs : List Item) (o : Bool) → HalvesPair (check_if c m ++ xs) o → HalvesPair xs o
strip true m xs o h = h.1.1.1
strip false m xs o h = h

set_check : (x y : ℕ) (xs : List Item) (o : Bool) → (o ≡ true → x ≢ 25) → (o ≡ true → y ≢ 25) → HalvesPair xs o → HalvesPair (check x y ++ xs) o
set_check x y xs o a b h = ((λ e. (a e, (b e, tt))), ((λ e. (none 0 refl, (none 0 refl, tt))), ((λ e. tt), h)))

-- ---- forms

abbrev Behind : List Item → List Item → Type 0
Behind rest new = (z : Bool) → HalvesPair rest z → HalvesPair new z

form_halves : (f : Form) (rest new : List Item) (o : Bool) → FormFits f → HalvesPair (form_items f ++ rest) o → Behind rest new → HalvesPair (form_items (with_checked f) ++ new) o
form_halves (Alone i) rest new o h x g = behind_item (HalvesPair rest) (HalvesPair new) i.fix o i.instr x g
form_halves (Product i j) rest new o h x g = behind_item (HalvesPair (j ∷ rest)) (HalvesPair (j ∷ new)) i.fix o i.instr x (λ z y. behind_item (HalvesPair rest) (HalvesPair new) j.fix z j.instr y g)
form_halves (Store c v b k) rest new o h x g =
    let all : HalvesPair (check_if c v ++ (check_if c b ++ (stores ++ rest))) o =
    subst (λ (l : List Item). HalvesPair l o) (append_assoc (check_if c v) (check_if c b ++ stores) rest ∙ ap (λ (l : List Item). check_if c v ++ l) (append_assoc (check_if c b) stores rest)) x in
    let y : HalvesPair (stores ++ rest) o = strip c b (stores ++ rest) o (strip c v (check_if c b ++ (stores ++ rest)) o all) in
    set_check v (shadow_of v) (check b (shadow_of b) ++ (stores ++ new)) o (λ e. (y.0 e).0) (λ e. (y.1.0 e).0)
    (set_check b (shadow_of b) (stores ++ new) o (λ e. (y.0 e).1.0) (λ e. (y.1.0 e).1.0) (y.0, (y.1.0, g o y.1.1)))
  where
    stores : List Item
    stores = plain (mips.Sw v b k) class.Act ∷ plain (mips.Sw (shadow_of v) (shadow_of b) ((k + 4) % 2 ^ 16)) class.Act ∷ []
form_halves (Test c r code) rest new o h x g =
    let all : HalvesPair (check_if c r ++ (tests ++ rest)) o = subst (λ (l : List Item). HalvesPair l o) (append_assoc (check_if c r) tests rest) x in
    let y : HalvesPair (tests ++ rest) o = strip c r (tests ++ rest) o all in
    let far : (r ≢ 25) × (shadow_of r ≢ 25) = value_apart r 25 refl h.0 in
    set_check r (shadow_of r) (tests ++ new) o (λ e. far.0) (λ e. far.1) (y.0, (y.1.0, (y.1.1.0, g o y.1.1.1)))
  where
    tests : List Item
    tests = plain (mips.Bne r 0 2) class.Act ∷ plain nop class.Act ∷ plain (mips.Break code) class.Act ∷ []
form_halves (Output true) rest new o h x g = (x.0, (x.1.0, (x.1.1.0, (x.1.1.1.0, g o x.1.1.1.1))))
form_halves (Output false) rest new o h x g = ((λ e. (apart_ 4 25 (omega arith) refl, (apart_ 14 25 (omega arith) refl, tt))), (x.0, ((λ e. tt), (x.1.0, g o x.1.1))))
form_halves (Takes r) rest new o h x g = (x.0, (x.1.0, (x.1.1.0, (x.1.1.1.0, g o x.1.1.1.1))))
form_halves Idle rest new o h x g = (x.0, g o x.1)

close_halves : (c : Close) (o : Bool) → CloseFits c → HalvesPair (close_items c) o → HalvesPair (close_items (close_with_checks c)) o
close_halves (Jump to) o h x = x
close_halves (Branch c r true to) o h x =
    let y : HalvesPair going_on o = strip c r going_on o x in
    set_check r (shadow_of r) going_on o (λ e. absurd (closed_no o y.0 e)) (λ e. absurd (closed_no o y.0 e)) y
  where
    going_on : List Item
    going_on = Rattle.hard_items.specs.Forms.going (mips.Bne r 0 0) (Block to) ∷ plain nop class.Act ∷ []
close_halves (Branch c r false to) o h x =
    let y : HalvesPair going_on o = strip c r going_on o x in
    set_check r (shadow_of r) going_on o (λ e. absurd (closed_no o y.0 e)) (λ e. absurd (closed_no o y.0 e)) y
  where
    going_on : List Item
    going_on = Rattle.hard_items.specs.Forms.going (mips.Beq r 0 0) (Block to) ∷ plain nop class.Act ∷ []
close_halves (Call f) o h x = x
close_halves (Return c) o h x =
    let y : HalvesPair leaving o = strip c 31 leaving o x in
    set_check 31 25 leaving o (λ e. absurd (closed_no o y.1.1 e)) (λ e. absurd (closed_no o y.1.1 e)) y
  where
    leaving : List Item
    leaving = plain (mips.Jr 31) class.Act ∷ plain nop class.Act ∷ []
close_halves (Exit true) o h x = x
close_halves (Exit false) o h x = ((λ e. (apart_ 4 25 (omega arith) refl, (apart_ 14 25 (omega arith) refl, tt))), (x.0, ((λ e. tt), x.1)))

block_halves : (fs : List Form) (c : Close) (o : Bool) → Each FormFits fs → CloseFits c → HalvesPair (block_of fs c) o → HalvesPair (block_of (map with_checked fs) (close_with_checks c)) o
block_halves [] c o h k x = close_halves c o k x
block_halves (f ∷ fs) c o h k x =
    subst (λ (l : List Item). HalvesPair l o) (sym (append_assoc (form_items (with_checked f)) (flat_map form_items (map with_checked fs)) (close_items (close_with_checks c))))
    (form_halves f (block_of fs c) (block_of (map with_checked fs) (close_with_checks c)) o h.0 (subst (λ (l : List Item). HalvesPair l o) (append_assoc (form_items f) (flat_map form_items fs) (close_items c)) x)
    (λ z y. block_halves fs c z h.1 k y))

pub guarded_halves : (xs : List Item) → Formed xs → HalvesPair xs false → HalvesPair (with_checks false xs) false
guarded_halves xs f x = subst (λ (l : List Item). HalvesPair l false) (sym (ap (λ (l : List Item). with_checks false l) f.is ∙ guarded_block f.forms f.close f.fit))
    (block_halves f.forms f.close false f.fit f.close_fits (subst (λ (l : List Item). HalvesPair l false) f.is x))
