-- A block and its new order, part by part: a stretch and the stretch in its place, and behind it a form that stands.
use Rattle.std.proofs.Common.{◌≡◌, ℕ, zero, suc, ◌+◌, ◌-◌, ◌%◌, ◌^◌, ap, refl, sym, ◌∙◌, subst, List, [], ◌∷◌, ◌++◌, append_assoc, append-nil, map, replicate, Bool, true, false, cond, max, inl, inr, flat_map, ⊎_elim}
use Rattle.std.specs.Prelude.{Some, None, ◌⊎◌}
use Rattle.mips_isa.specs.declared.instr.Instr.{Instr}
use Rattle.mips_isa.specs.declared.instr.Instr.TheVariants as mips
use Rattle.mips_isa.specs.Machine.{is_product}
use Rattle.mips_isa.specs.Locality.{is_data, is_move}
use Rattle.hard_items.specs.declared.code.Class.{Class}
use Rattle.hard_items.specs.declared.code.Class.TheVariants as class
use Rattle.hard_items.specs.declared.code.Item.{Item}
use Rattle.hard_items.specs.Streams.{is_stream, shadow_of, nop, plain}
use Rattle.hard_items.specs.Forms.{Form, Alone, Product, Store, Test, Output, Takes, Idle, Close, Jump, Branch, Call, Return, Exit, form_items, close_items, block_of, Each, FormFits, StandsAlone, IsProduct, check, check_if}
use Rattle.hard_items.specs.Counts.{loaded, quiet_after, is_break}
use Rattle.block_schedule.specs.declared.unit.Whole.{Whole}
use Rattle.block_schedule.specs.declared.unit.Whole.TheVariants.{One, Two}
use Rattle.block_schedule.specs.Scheduling.{unit_items, units_behind, in_turn, by_stream, riffled, wait, with_nops}
use Rattle.block_schedule.specs.Merging.{IsUnit, AllUnits, Merge, done, first, second}

no_true : true ≡ false → ⊥
no_true e = cc

abbrev pub idle : Item
idle = plain nop class.Master

abbrev pub flat : List Whole → List Item
flat us = flat_map unit_items us

-- ---- units with nops between them

pub data Spaced : List Whole → List Item → Type 0 where
  nothing : Spaced [] []
  unit : (u : Whole) (us : List Whole) (ys : List Item) → Spaced us ys → Spaced (u ∷ us) (unit_items u ++ ys)
  space : (us : List Whole) (ys : List Item) → Spaced us ys → Spaced us (idle ∷ ys)

spaced_nops : (n : ℕ) (us : List Whole) (ys : List Item) → Spaced us ys → Spaced us (replicate n idle ++ ys)
spaced_nops zero us ys s = s
spaced_nops (suc n) us ys s = space us (replicate n idle ++ ys) (spaced_nops n us ys s)

nops_alone : (n : ℕ) → Spaced [] (replicate n idle)
nops_alone zero = nothing
nops_alone (suc n) = space [] (replicate n idle) (nops_alone n)

-- ---- parts

-- A stretch, and the stretch that stands in its place.
pub record Stretched (old new : List Item) : Type 0 where
  pub ms : List Whole
  pub ss : List Whole
  pub l : List Whole
  pub first_stream : AllUnits class.Master ms
  pub second_stream : AllUnits class.Shadow ss
  pub before : Merge ms ss l
  pub old_is : old ≡ flat l
  pub new_is : Spaced (in_turn ms ss) new

-- The form is none of a stream's items.
abbrev pub IsFixed : Form → Type 0
IsFixed (Alone i) = ⊥
IsFixed (Product i j) = ⊥
IsFixed (Store c v b o) = Unit {0}
IsFixed (Test c r code) = Unit {0}
IsFixed (Output c) = Unit {0}
IsFixed (Takes r) = Unit {0}
IsFixed Idle = Unit {0}

-- The parts of a block and of its new order.
pub data Parts (P : Form → Type 0) (R : Close → Type 0) : List Item → List Item → Type 0 where
  part : (old new : List Item) → Stretched old new → (f : Form) → P f → IsFixed f → (xs ys : List Item) → Parts P R xs ys → Parts P R (old ++ (form_items f ++ xs)) (new ++ (form_items f ++ ys))
  closing : (old new : List Item) → Stretched old new → (c : Close) → R c → Parts P R (old ++ close_items c) (new ++ close_items c)

-- ---- items that stand

pub record Fixed (i : Item) : Type 0 where
  pub no_stream : is_stream i.class ≡ false
  pub no_load : loaded i.instr ≡ 0
  pub no_product : is_product i.instr ≡ false
  pub no_move : is_move i.instr ≡ false

-- Items begin with one that is no break.
abbrev pub Opens : List Item → Type 0
Opens xs = (i : Item) × (rest : List Item) × (xs ≡ i ∷ rest) × (is_break i.instr ≡ false)

pub each_both : {A : Type 0} (P : A → Type 0) (xs ys : List A) → Each P xs → Each P ys → Each P (xs ++ ys)
each_both P [] ys h k = k
each_both P (x ∷ xs) ys h k = (h.0, each_both P xs ys h.1 k)

abbrev stands : (i : Item) → is_stream i.class ≡ false → loaded i.instr ≡ 0 → is_product i.instr ≡ false → is_move i.instr ≡ false → Fixed i
stands i a b c d = record { no_stream = a; no_load = b; no_product = c; no_move = d }

check_fixed : (x y : ℕ) → Each Fixed (check x y)
check_fixed x y = (stands (plain (mips.Beq x y 2) class.Check) refl refl refl refl, (stands (plain nop class.Check) refl refl refl refl, (stands (plain (mips.Break 1) class.Check) refl refl refl refl, tt)))

check_if_fixed : (c : Bool) (m : ℕ) → Each Fixed (check_if c m)
check_if_fixed true m = check_fixed m (shadow_of m)
check_if_fixed false m = tt

slot_fixed : Fixed (plain nop class.Act)
slot_fixed = stands (plain nop class.Act) refl refl refl refl

pub form_fixed : (f : Form) → IsFixed f → Each Fixed (form_items f)
form_fixed (Alone i) h = absurd h
form_fixed (Product i j) h = absurd h
form_fixed (Store c v b o) h = each_both Fixed (check_if c v) (check_if c b ++ stores) (check_if_fixed c v) (each_both Fixed (check_if c b) stores (check_if_fixed c b)
    (stands (plain (mips.Sw v b o) class.Act) refl refl refl refl, (stands (plain (mips.Sw (shadow_of v) (shadow_of b) ((o + 4) % 2 ^ 16)) class.Act) refl refl refl refl, tt)))
  where
    stores : List Item
    stores = plain (mips.Sw v b o) class.Act ∷ plain (mips.Sw (shadow_of v) (shadow_of b) ((o + 4) % 2 ^ 16)) class.Act ∷ []
form_fixed (Test c r code) h = each_both Fixed (check_if c r) _ (check_if_fixed c r) (stands (plain (mips.Bne r 0 2) class.Act) refl refl refl refl, (slot_fixed, (stands (plain (mips.Break code) class.Act) refl refl refl refl, tt)))
form_fixed (Output true) h = (stands (plain (mips.Beq 4 14 2) class.Check) refl refl refl refl, (stands (plain (mips.Ori 2 0 1) class.Act) refl refl refl refl, (stands (plain (mips.Break 1) class.Check) refl refl refl refl, (stands (plain mips.Syscall class.Act) refl refl refl refl, tt))))
form_fixed (Output false) h = (stands (plain (mips.Ori 2 0 1) class.Act) refl refl refl refl, (stands (plain mips.Syscall class.Act) refl refl refl refl, tt))
form_fixed (Takes r) h = (stands (plain (mips.Ori 2 0 5) class.Input) refl refl refl refl, (stands (plain mips.Syscall class.Input) refl refl refl refl, (stands (plain (mips.Addu r 2 0) class.Input) refl refl refl refl, (stands (plain (mips.Addu (shadow_of r) 2 0) class.Input) refl refl refl refl, tt))))
form_fixed Idle h = (slot_fixed, tt)

pub close_fixed : (c : Close) → Each Fixed (close_items c)
close_fixed (Jump to) = (stands _ refl refl refl refl, (slot_fixed, tt))
close_fixed (Branch c r true to) = each_both Fixed (check_if c r) _ (check_if_fixed c r) (stands _ refl refl refl refl, (slot_fixed, tt))
close_fixed (Branch c r false to) = each_both Fixed (check_if c r) _ (check_if_fixed c r) (stands _ refl refl refl refl, (slot_fixed, tt))
close_fixed (Call f) = (stands _ refl refl refl refl, (slot_fixed, tt))
close_fixed (Return c) = each_both Fixed (check_if c 31) _ (check_if_fixed c 31) (stands (plain (mips.Jr 31) class.Act) refl refl refl refl, (slot_fixed, tt))
close_fixed (Exit true) = (stands (plain (mips.Beq 4 14 2) class.Check) refl refl refl refl, (stands (plain (mips.Ori 2 0 17) class.Act) refl refl refl refl, (stands (plain (mips.Break 1) class.Check) refl refl refl refl, (stands (plain mips.Syscall class.Act) refl refl refl refl, (stands (plain (mips.Break 1) class.Act) refl refl refl refl, tt)))))
close_fixed (Exit false) = (stands (plain (mips.Ori 2 0 17) class.Act) refl refl refl refl, (stands (plain mips.Syscall class.Act) refl refl refl refl, (stands (plain (mips.Break 1) class.Act) refl refl refl refl, tt)))

pub form_opens : (f : Form) → IsFixed f → Opens (form_items f)
form_opens (Alone i) h = absurd h
form_opens (Product i j) h = absurd h
form_opens (Store true v b o) h = (_, _, refl, refl)
form_opens (Store false v b o) h = (_, _, refl, refl)
form_opens (Test true r code) h = (_, _, refl, refl)
form_opens (Test false r code) h = (_, _, refl, refl)
form_opens (Output true) h = (_, _, refl, refl)
form_opens (Output false) h = (_, _, refl, refl)
form_opens (Takes r) h = (_, _, refl, refl)
form_opens Idle h = (_, _, refl, refl)

pub close_opens : (c : Close) → Opens (close_items c)
close_opens (Jump to) = (_, _, refl, refl)
close_opens (Branch true r true to) = (_, _, refl, refl)
close_opens (Branch true r false to) = (_, _, refl, refl)
close_opens (Branch false r true to) = (_, _, refl, refl)
close_opens (Branch false r false to) = (_, _, refl, refl)
close_opens (Call f) = (_, _, refl, refl)
close_opens (Return true) = (_, _, refl, refl)
close_opens (Return false) = (_, _, refl, refl)
close_opens (Exit true) = (_, _, refl, refl)
close_opens (Exit false) = (_, _, refl, refl)

-- ---- units and turns of items that stand

units_fixed : (xs ys : List Item) → Each Fixed xs → units_behind None (xs ++ ys) ≡ map One xs ++ units_behind None ys
units_fixed [] ys h = refl
units_fixed (x ∷ xs) ys h = ap (λ (z : Bool). cond z (units_behind (Some x) (xs ++ ys)) (One x ∷ units_behind None (xs ++ ys))) h.0.no_product ∙ ap (λ (us : List Whole). One x ∷ us) (units_fixed xs ys h.1)

by_none : (c : Class) (a b d : List Whole) → is_stream c ≡ false → by_stream c a b d ≡ d
by_none class.Master a b d h = absurd (no_true h)
by_none class.Shadow a b d h = absurd (no_true h)
by_none class.Check a b d h = refl
by_none class.Act a b d h = refl
by_none class.Head a b d h = refl
by_none class.Input a b d h = refl

riffled_more : (xs : List Item) (us : List Whole) → Each Fixed xs → riffled [] [] (map One xs ++ us) ≡ map One xs ++ riffled [] [] us
riffled_more [] us h = refl
riffled_more (x ∷ xs) us h = by_none x.class (riffled (One x ∷ []) [] (map One xs ++ us)) (riffled [] (One x ∷ []) (map One xs ++ us)) (One x ∷ riffled [] [] (map One xs ++ us)) h.0.no_stream ∙ ap (λ (vs : List Whole). One x ∷ vs) (riffled_more xs us h.1)

riffled_first : (ms ss us : List Whole) (x : Item) (xs : List Item) → Each Fixed (x ∷ xs) → riffled ms ss (map One (x ∷ xs) ++ us) ≡ in_turn ms ss ++ (map One (x ∷ xs) ++ riffled [] [] us)
riffled_first ms ss us x xs h = by_none x.class (riffled (ms ++ One x ∷ []) ss (map One xs ++ us)) (riffled ms (ss ++ One x ∷ []) (map One xs ++ us)) (in_turn ms ss ++ One x ∷ riffled [] [] (map One xs ++ us)) h.0.no_stream ∙ ap (λ (vs : List Whole). in_turn ms ss ++ One x ∷ vs) (riffled_more xs us h.1)

flat_ones : (xs : List Item) → flat (map One xs) ≡ xs
flat_ones [] = refl
flat_ones (x ∷ xs) = ap (λ (l : List Item). x ∷ l) (flat_ones xs)

pub flat_both : (us vs : List Whole) → flat (us ++ vs) ≡ flat us ++ flat vs
flat_both [] vs = refl
flat_both (u ∷ us) vs = ap (λ (l : List Item). unit_items u ++ l) (flat_both us vs) ∙ sym (append_assoc (unit_items u) (flat us) (flat vs))

-- the units in turn, and behind them the items that stand
turned_fixed : (ms ss : List Whole) (x : Item) (xs ys : List Item) → Each Fixed (x ∷ xs) → flat (riffled ms ss (units_behind None ((x ∷ xs) ++ ys))) ≡ flat (in_turn ms ss) ++ ((x ∷ xs) ++ flat (riffled [] [] (units_behind None ys)))
turned_fixed ms ss x xs ys h =
    let rest : List Whole = riffled [] [] (units_behind None ys) in
    ap (λ (us : List Whole). flat (riffled ms ss us)) (units_fixed (x ∷ xs) ys h) ∙ (ap flat (riffled_first ms ss (units_behind None ys) x xs h) ∙ (flat_both (in_turn ms ss) (map One (x ∷ xs) ++ rest) ∙
    ap (λ (l : List Item). flat (in_turn ms ss) ++ l) (flat_both (map One (x ∷ xs)) rest ∙ ap (λ (l : List Item). l ++ flat rest) (flat_ones (x ∷ xs)))))

-- ---- nops

-- An item with the nops before it.
abbrev then_quiet : ℕ → ℕ → Item → ℕ
then_quiet last quiet i = quiet_after i.instr (quiet - wait last quiet i.instr)

step : (last quiet : ℕ) (i : Item) (more : List Item) → is_break i.instr ≡ false → with_nops last quiet (i ∷ more) ≡ replicate (wait last quiet i.instr) idle ++ i ∷ with_nops (loaded i.instr) (then_quiet last quiet i) more
step last quiet i more e = ap (λ (z : Bool). cond z (i ∷ with_nops last quiet more) (replicate (wait last quiet i.instr) idle ++ i ∷ with_nops (loaded i.instr) (then_quiet last quiet i) more)) e

-- Behind what loads nothing no nop stands before what is no product.
still : (last quiet : ℕ) (i : Item) (more : List Item) → last ≡ 0 → is_break i.instr ≡ false → is_product i.instr ≡ false → with_nops last quiet (i ∷ more) ≡ i ∷ with_nops (loaded i.instr) (then_quiet last quiet i) more
still last quiet i more l e f = step last quiet i more e ∙ ap (λ (n : ℕ). replicate n idle ++ i ∷ with_nops (loaded i.instr) (then_quiet last quiet i) more) (none last l)
  where
    none : (last : ℕ) → last ≡ 0 → wait last quiet i.instr ≡ 0
    none last l = subst (λ (n : ℕ). wait n quiet i.instr ≡ 0) (sym l) (ap (λ (z : Bool). max 0 (cond z quiet 0)) f)

rest_stands : (xs ys : List Item) (last quiet : ℕ) → last ≡ 0 → Each Fixed xs → (q : ℕ) × (with_nops last quiet (xs ++ ys) ≡ xs ++ with_nops 0 q ys)
rest_stands [] ys last quiet l h = (quiet, ap (λ (n : ℕ). with_nops n quiet ys) l)
rest_stands (x ∷ xs) ys last quiet l h = elim (is_break x.instr) as (λ z. is_break x.instr ≡ z → (q : ℕ) × (with_nops last quiet (x ∷ (xs ++ ys)) ≡ x ∷ (xs ++ with_nops 0 q ys))) [
  | true ↦ λ e. let r : (q : ℕ) × (with_nops last quiet (xs ++ ys) ≡ xs ++ with_nops 0 q ys) = rest_stands xs ys last quiet l h.1 in
      (r.0, ap (λ (z : Bool). cond z (x ∷ with_nops last quiet (xs ++ ys)) (replicate (wait last quiet x.instr) idle ++ x ∷ with_nops (loaded x.instr) (then_quiet last quiet x) (xs ++ ys))) e ∙ ap (λ (m : List Item). x ∷ m) r.1)
  | false ↦ λ e. let r : (q : ℕ) × (with_nops (loaded x.instr) (then_quiet last quiet x) (xs ++ ys) ≡ xs ++ with_nops 0 q ys) = rest_stands xs ys (loaded x.instr) (then_quiet last quiet x) h.0.no_load h.1 in
      (r.0, still last quiet x (xs ++ ys) l e h.0.no_product ∙ ap (λ (m : List Item). x ∷ m) r.1)
] refl

-- ---- units that fit

abbrev pub UnitFits : Whole → Type 0
UnitFits (One i) = StandsAlone i
UnitFits (Two i j) = IsProduct i j

unit_fits : (c : Class) (u : Whole) → IsUnit c u → UnitFits u
unit_fits c (One i) h = h.0
unit_fits c (Two i j) h = h.0

pub merge_fits : (ms ss l : List Whole) → AllUnits class.Master ms → AllUnits class.Shadow ss → Merge ms ss l → Each UnitFits l
merge_fits ms ss l a b done = tt
merge_fits ms ss l a b (first u us vs k m) = (unit_fits class.Master u a.0, merge_fits us vs k a.1 b m)
merge_fits ms ss l a b (second u us vs k m) = (unit_fits class.Shadow u b.0, merge_fits us vs k a b.1 m)

all_second : (ss : List Whole) → Merge [] ss ss
all_second [] = done
all_second (s ∷ ss) = second s [] ss ss (all_second ss)

all_first : (ms : List Whole) → Merge ms [] ms
all_first [] = done
all_first (m ∷ ms) = first m ms [] ms (all_first ms)

-- Units in turn are a merge.
pub in_turn_merges : (ms ss : List Whole) → Merge ms ss (in_turn ms ss)
in_turn_merges [] ss = all_second ss
in_turn_merges (m ∷ ms) [] = all_first (m ∷ ms)
in_turn_merges (m ∷ ms) (s ∷ ss) = first m ms (s ∷ ss) (s ∷ in_turn ms ss) (second s ms ss (in_turn ms ss) (in_turn_merges ms ss))

push_first : (ms ss l : List Whole) (u : Whole) → Merge ms ss l → Merge (ms ++ u ∷ []) ss (l ++ u ∷ [])
push_first ms ss l u done = first u [] [] [] done
push_first ms ss l u (first v us vs k m) = first v (us ++ u ∷ []) vs (k ++ u ∷ []) (push_first us vs k u m)
push_first ms ss l u (second v us vs k m) = second v (us ++ u ∷ []) vs (k ++ u ∷ []) (push_first us vs k u m)

push_second : (ms ss l : List Whole) (u : Whole) → Merge ms ss l → Merge ms (ss ++ u ∷ []) (l ++ u ∷ [])
push_second ms ss l u done = second u [] [] [] done
push_second ms ss l u (first v us vs k m) = first v us (vs ++ u ∷ []) (k ++ u ∷ []) (push_second us vs k u m)
push_second ms ss l u (second v us vs k m) = second v us (vs ++ u ∷ []) (k ++ u ∷ []) (push_second us vs k u m)

all_push : (c : Class) (us : List Whole) (u : Whole) → AllUnits c us → IsUnit c u → AllUnits c (us ++ u ∷ [])
all_push c [] u h k = (k, tt)
all_push c (v ∷ us) u h k = (h.0, all_push c us u h.1 k)

data_goes_on : (x : Instr) → is_data x ≡ true → is_break x ≡ false
data_goes_on (mips.Break code) h = absurd (no_true (sym h))
data_goes_on x h = refl

product_plain : (x : Instr) → is_product x ≡ true → (is_break x ≡ false) × (loaded x ≡ 0)
product_plain (mips.Mult rs rt) h = (refl, refl)
product_plain (mips.Multu rs rt) h = (refl, refl)
product_plain (mips.Div rs rt) h = (refl, refl)
product_plain (mips.Divu rs rt) h = (refl, refl)
product_plain x h = absurd (no_true (sym h))

move_plain : (x : Instr) → is_move x ≡ true → (is_break x ≡ false) × (is_product x ≡ false)
move_plain (mips.Mfhi rd) h = (refl, refl)
move_plain (mips.Mflo rd) h = (refl, refl)
move_plain x h = absurd (no_true (sym h))

-- ---- nops among units, before an item that stands

record Before (k : List Whole) (last quiet : ℕ) (x : Item) (t : List Item) : Type 0 where
  new : List Item
  then_ : ℕ
  spaced : Spaced k new
  is : with_nops last quiet (flat k ++ x ∷ t) ≡ new ++ (x ∷ with_nops 0 then_ t)

before_units : (k : List Whole) → Each UnitFits k → (last quiet : ℕ) (x : Item) (t : List Item) → is_break x.instr ≡ false → loaded x.instr ≡ 0 → Before k last quiet x t
before_units [] h last quiet x t e f = record {
  new = replicate (wait last quiet x.instr) idle;
  then_ = then_quiet last quiet x;
  spaced = nops_alone (wait last quiet x.instr);
  is = step last quiet x t e ∙ ap (λ (n : ℕ). replicate (wait last quiet x.instr) idle ++ x ∷ with_nops n (then_quiet last quiet x) t) f;
}
before_units (One i ∷ us) h last quiet x t e f =
    let r : Before us (loaded i.instr) (then_quiet last quiet i) x t = before_units us h.1 (loaded i.instr) (then_quiet last quiet i) x t e f in
    let w : List Item = replicate (wait last quiet i.instr) idle in
    record {
      new = w ++ (i ∷ r.new);
      then_ = r.then_;
      spaced = spaced_nops (wait last quiet i.instr) (One i ∷ us) (i ∷ r.new) (unit (One i) us r.new r.spaced);
      is = step last quiet i (flat us ++ x ∷ t) (data_goes_on i.instr h.0.computes) ∙ (ap (λ (m : List Item). w ++ i ∷ m) r.is ∙ sym (append_assoc w (i ∷ r.new) (x ∷ with_nops 0 r.then_ t)));
    }
before_units (Two i j ∷ us) h last quiet x t e f =
    let q : ℕ = then_quiet last quiet i in
    let q' : ℕ = then_quiet (loaded i.instr) q j in
    let a : (is_break i.instr ≡ false) × (loaded i.instr ≡ 0) = product_plain i.instr h.0.product in
    let c : (is_break j.instr ≡ false) × (is_product j.instr ≡ false) = move_plain j.instr h.0.move in
    let r : Before us (loaded j.instr) q' x t = before_units us h.1 (loaded j.instr) q' x t e f in
    let w : List Item = replicate (wait last quiet i.instr) idle in
    record {
      new = w ++ (i ∷ j ∷ r.new);
      then_ = r.then_;
      spaced = spaced_nops (wait last quiet i.instr) (Two i j ∷ us) (i ∷ j ∷ r.new) (unit (Two i j) us r.new r.spaced);
      is = step last quiet i (j ∷ (flat us ++ x ∷ t)) a.0 ∙ (ap (λ (m : List Item). w ++ i ∷ m) (still (loaded i.instr) q j (flat us ++ x ∷ t) a.1 c.0 c.1) ∙
          (ap (λ (m : List Item). w ++ i ∷ j ∷ m) r.is ∙ sym (append_assoc w (i ∷ j ∷ r.new) (x ∷ with_nops 0 r.then_ t))));
    }

record Opened (ms ss : List Whole) (xs ys : List Item) (last quiet : ℕ) : Type 0 where
  new : List Item
  then_ : ℕ
  spaced : Spaced (in_turn ms ss) new
  is : with_nops last quiet (flat (riffled ms ss (units_behind None (xs ++ ys)))) ≡ new ++ (xs ++ with_nops 0 then_ (flat (riffled [] [] (units_behind None ys))))

opened : (ms ss : List Whole) → AllUnits class.Master ms → AllUnits class.Shadow ss → (xs ys : List Item) → Each Fixed xs → Opens xs → (last quiet : ℕ) → Opened ms ss xs ys last quiet
opened ms ss a b xs ys h o last quiet = subst (λ (l : List Item). Opened ms ss l ys last quiet) (sym o.2) (by o.0 o.1 (subst (Each Fixed) o.2 h) o.3)
  where
    by : (x : Item) (rest : List Item) → Each Fixed (x ∷ rest) → is_break x.instr ≡ false → Opened ms ss (x ∷ rest) ys last quiet
    by x rest h e =
        let t : List Item = rest ++ flat (riffled [] [] (units_behind None ys)) in
        let r : Before (in_turn ms ss) last quiet x t = before_units (in_turn ms ss) (merge_fits ms ss (in_turn ms ss) a b (in_turn_merges ms ss)) last quiet x t e h.0.no_load in
        let s : (q : ℕ) × (with_nops 0 r.then_ t ≡ rest ++ with_nops 0 q (flat (riffled [] [] (units_behind None ys)))) = rest_stands rest (flat (riffled [] [] (units_behind None ys))) 0 r.then_ refl h.1 in
        record {
          new = r.new;
          then_ = s.0;
          spaced = r.spaced;
          is = ap (λ (l : List Item). with_nops last quiet l) (turned_fixed ms ss x rest ys h) ∙ (r.is ∙ ap (λ (l : List Item). r.new ++ (x ∷ l)) s.1);
        }

-- ---- the parts of a block

stretched : (ms ss l : List Whole) (new : List Item) → AllUnits class.Master ms → AllUnits class.Shadow ss → Merge ms ss l → Spaced (in_turn ms ss) new → Stretched (flat l) new
stretched ms ss l new a b m s = record { ms = ms; ss = ss; l = l; first_stream = a; second_stream = b; before = m; old_is = refl; new_is = s }

by_first : (c : Class) (a b d : List Whole) → c ≡ class.Master → by_stream c a b d ≡ a
by_first c a b d e = ap (λ (x : Class). by_stream x a b d) e

by_second : (c : Class) (a b d : List Whole) → c ≡ class.Shadow → by_stream c a b d ≡ b
by_second c a b d e = ap (λ (x : Class). by_stream x a b d) e

stream_is : (c : Class) → is_stream c ≡ true → (c ≡ class.Master) ⊎ (c ≡ class.Shadow)
stream_is class.Master h = inl refl
stream_is class.Shadow h = inr refl
stream_is class.Check h = absurd (no_true (sym h))
stream_is class.Act h = absurd (no_true (sym h))
stream_is class.Head h = absurd (no_true (sym h))
stream_is class.Input h = absurd (no_true (sym h))

module _ (P : Form → Type 0) (R : Close → Type 0) (fits : (f : Form) → P f → FormFits f) where
  abbrev Open : (ms ss l : List Whole) (last quiet : ℕ) (items : List Item) → Type 0
  Open ms ss l last quiet items = Parts P R (flat l ++ items) (with_nops last quiet (flat (riffled ms ss (units_behind None items))))

  -- one more unit
  more : (ms ss l : List Whole) (u : Whole) (last quiet : ℕ) (items : List Item) → (ns ts : List Whole) → Open ns ts (l ++ u ∷ []) last quiet items → units_behind None (unit_items u ++ items) ≡ u ∷ units_behind None items →
      riffled ms ss (u ∷ units_behind None items) ≡ riffled ns ts (units_behind None items) → Open ms ss l last quiet (unit_items u ++ items)
  more ms ss l u last quiet items ns ts o e f =
      subst (λ (xs : List Item). Parts P R xs (with_nops last quiet (flat (riffled ms ss (units_behind None (unit_items u ++ items))))))
      (ap (λ (xs : List Item). xs ++ items) (flat_both l (u ∷ [])) ∙ (append_assoc (flat l) (unit_items u ++ []) items ∙ ap (λ (xs : List Item). flat l ++ (xs ++ items)) (append-nil (unit_items u))))
      (subst (λ (us : List Whole). Parts P R (flat (l ++ u ∷ []) ++ items) (with_nops last quiet (flat us))) (sym (ap (λ (us : List Whole). riffled ms ss us) e ∙ f)) o)

  fixed_parts : (f : Form) (fs : List Form) (c : Close) → P f → IsFixed f → (ms ss l : List Whole) → AllUnits class.Master ms → AllUnits class.Shadow ss → Merge ms ss l → (last quiet : ℕ) →
      ((q : ℕ) → Open [] [] [] 0 q (block_of fs c)) → Open ms ss l last quiet (block_of (f ∷ fs) c)
  fixed_parts f fs c p i ms ss l a b m last quiet rest =
      let o : Opened ms ss (form_items f) (block_of fs c) last quiet = opened ms ss a b (form_items f) (block_of fs c) (form_fixed f i) (form_opens f i) last quiet in
      subst (λ (xs : List Item). Open ms ss l last quiet xs) (sym (append_assoc (form_items f) (flat_map form_items fs) (close_items c)))
      (subst (λ (ys : List Item). Parts P R (flat l ++ (form_items f ++ block_of fs c)) ys) (sym o.is)
      (part (flat l) o.new (stretched ms ss l o.new a b m o.spaced) f p i (block_of fs c) (with_nops 0 o.then_ (flat (riffled [] [] (units_behind None (block_of fs c))))) (rest o.then_)))

  pub parts_of : (fs : List Form) (c : Close) → Each P fs → R c → (ms ss l : List Whole) → AllUnits class.Master ms → AllUnits class.Shadow ss → Merge ms ss l → (last quiet : ℕ) → Open ms ss l last quiet (block_of fs c)
  parts_of [] c h r ms ss l a b m last quiet =
      let o : Opened ms ss (close_items c) [] last quiet = opened ms ss a b (close_items c) [] (close_fixed c) (close_opens c) last quiet in
      let end : Parts P R (flat l ++ close_items c) (o.new ++ close_items c) = closing (flat l) o.new (stretched ms ss l o.new a b m o.spaced) c r in
      subst (λ (xs : List Item). Open ms ss l last quiet xs) (append-nil (close_items c))
      (subst (λ (ys : List Item). Parts P R (flat l ++ (close_items c ++ [])) ys) (sym o.is)
      (subst (λ (xs : List Item). Parts P R (flat l ++ xs) (o.new ++ xs)) (sym (append-nil (close_items c))) end))
  parts_of (Alone i ∷ fs) c h r ms ss l a b m last quiet =
      let x : StandsAlone i = fits (Alone i) h.0 in
      let us : List Whole = units_behind None (block_of fs c) in
      let e : units_behind None (i ∷ block_of fs c) ≡ One i ∷ us = ap (λ (z : Bool). cond z (units_behind (Some i) (block_of fs c)) (One i ∷ us)) x.no_product in
      ⊎_elim
      (λ k. more ms ss l (One i) last quiet (block_of fs c) (ms ++ One i ∷ []) ss (parts_of fs c h.1 r (ms ++ One i ∷ []) ss (l ++ One i ∷ []) (all_push class.Master ms (One i) a (x, k)) b (push_first ms ss l (One i) m) last quiet) e
      (by_first i.class (riffled (ms ++ One i ∷ []) ss us) (riffled ms (ss ++ One i ∷ []) us) (in_turn ms ss ++ One i ∷ riffled [] [] us) k))
      (λ k. more ms ss l (One i) last quiet (block_of fs c) ms (ss ++ One i ∷ []) (parts_of fs c h.1 r ms (ss ++ One i ∷ []) (l ++ One i ∷ []) a (all_push class.Shadow ss (One i) b (x, k)) (push_second ms ss l (One i) m) last quiet) e
      (by_second i.class (riffled (ms ++ One i ∷ []) ss us) (riffled ms (ss ++ One i ∷ []) us) (in_turn ms ss ++ One i ∷ riffled [] [] us) k))
      (stream_is i.class x.stream)
  parts_of (Product i j ∷ fs) c h r ms ss l a b m last quiet =
      let x : IsProduct i j = fits (Product i j) h.0 in
      let us : List Whole = units_behind None (block_of fs c) in
      let e : units_behind None (i ∷ j ∷ block_of fs c) ≡ Two i j ∷ us = ap (λ (z : Bool). cond z (units_behind (Some i) (j ∷ block_of fs c)) (One i ∷ units_behind None (j ∷ block_of fs c))) x.product in
      ⊎_elim
      (λ k. more ms ss l (Two i j) last quiet (block_of fs c) (ms ++ Two i j ∷ []) ss (parts_of fs c h.1 r (ms ++ Two i j ∷ []) ss (l ++ Two i j ∷ []) (all_push class.Master ms (Two i j) a (x, k)) b (push_first ms ss l (Two i j) m) last quiet) e
      (by_first i.class (riffled (ms ++ Two i j ∷ []) ss us) (riffled ms (ss ++ Two i j ∷ []) us) (in_turn ms ss ++ Two i j ∷ riffled [] [] us) k))
      (λ k. more ms ss l (Two i j) last quiet (block_of fs c) ms (ss ++ Two i j ∷ []) (parts_of fs c h.1 r ms (ss ++ Two i j ∷ []) (l ++ Two i j ∷ []) a (all_push class.Shadow ss (Two i j) b (x, k)) (push_second ms ss l (Two i j) m) last quiet) e
      (by_second i.class (riffled (ms ++ Two i j ∷ []) ss us) (riffled ms (ss ++ Two i j ∷ []) us) (in_turn ms ss ++ Two i j ∷ riffled [] [] us) k))
      (stream_is i.class x.stream)
  parts_of (Store k v o n ∷ fs) c h r ms ss l a b m last quiet = fixed_parts (Store k v o n) fs c h.0 tt ms ss l a b m last quiet (λ q. parts_of fs c h.1 r [] [] [] tt tt done 0 q)
  parts_of (Test k v code ∷ fs) c h r ms ss l a b m last quiet = fixed_parts (Test k v code) fs c h.0 tt ms ss l a b m last quiet (λ q. parts_of fs c h.1 r [] [] [] tt tt done 0 q)
  parts_of (Output k ∷ fs) c h r ms ss l a b m last quiet = fixed_parts (Output k) fs c h.0 tt ms ss l a b m last quiet (λ q. parts_of fs c h.1 r [] [] [] tt tt done 0 q)
  parts_of (Takes v ∷ fs) c h r ms ss l a b m last quiet = fixed_parts (Takes v) fs c h.0 tt ms ss l a b m last quiet (λ q. parts_of fs c h.1 r [] [] [] tt tt done 0 q)
  parts_of (Idle ∷ fs) c h r ms ss l a b m last quiet = fixed_parts Idle fs c h.0 tt ms ss l a b m last quiet (λ q. parts_of fs c h.1 r [] [] [] tt tt done 0 q)
