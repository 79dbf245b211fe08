-- What a block in its new order is made of: the same forms in another order with nops between them, the same items and nops.
use Rattle.std.proofs.Common.{◌≡◌, ◌≢◌, ◌≤◌, ◌<◌, ℕ, zero, suc, ◌+◌, arith, ap, refl, sym, ◌∙◌, subst, List, [], ◌∷◌, ◌++◌, append_assoc, append-nil, map, length, get_or, Bool, true, false, inl, inr, flat_map, ⊎_elim}
use Rattle.std.specs.Prelude.{◌⊎◌, ◌==◌, Contains}
use Rattle.std.proofs.lemmas.List.Elements.{Contains-append_left, Contains-append_right, Contains-append_cases}
use Rattle.mips_isa.specs.declared.instr.Instr.{Instr}
use Rattle.hard_items.specs.declared.code.Class.{Class}
use Rattle.hard_items.specs.declared.code.Class.TheVariants as class
use Rattle.hard_items.specs.declared.code.Fix.{Fix}
use Rattle.hard_items.specs.declared.code.Fix.TheVariants.{Plain, Block, Function, ReturnHigh, ReturnLow}
use Rattle.hard_items.specs.declared.code.Item.{Item}
use Rattle.hard_items.specs.Streams.{touched, is_of}
use Rattle.hard_items.specs.Forms.{Form, Alone, Product, Close, form_items, close_items, block_of, Each, StandsAlone, IsProduct, MayTouch, HalfFits, HalvesAt, HalvesPair}
use Rattle.hard_items.specs.Keeping.{IsAdded}
use Rattle.block_schedule.specs.declared.unit.Whole.{Whole}
use Rattle.block_schedule.specs.declared.unit.Whole.TheVariants.{One, Two}
use Rattle.block_schedule.specs.Scheduling.{unit_items, in_turn}
use Rattle.block_schedule.specs.Merging.{IsUnit, AllUnits, Merge, done, first, second}
use Rattle.block_schedule.proofs.Parts.{idle, flat, Spaced, nothing, unit, space, Stretched, Parts, part, closing, UnitFits, merge_fits, in_turn_merges, each_both}

-- ---- forms

idle_alone : StandsAlone idle
idle_alone = record { stream = refl; computes = refl; no_product = refl; no_move = refl; own = (inl refl, (inl refl, tt)); load_fits = tt; half_fits = tt }

flat_forms : (fs gs : List Form) → flat_map form_items (fs ++ gs) ≡ flat_map form_items fs ++ flat_map form_items gs
flat_forms [] gs = refl
flat_forms (f ∷ fs) gs = ap (λ (l : List Item). form_items f ++ l) (flat_forms fs gs) ∙ sym (append_assoc (form_items f) (flat_map form_items fs) (flat_map form_items gs))

block_both : (fs gs : List Form) (c : Close) → block_of (fs ++ gs) c ≡ flat_map form_items fs ++ block_of gs c
block_both fs gs c = ap (λ (l : List Item). l ++ close_items c) (flat_forms fs gs) ∙ append_assoc (flat_map form_items fs) (flat_map form_items gs) (close_items c)

-- Items are a block of forms of which something holds.
pub record Built (P : Form → Type 0) (R : Close → Type 0) (ys : List Item) : Type 0 where
  pub forms : List Form
  pub close : Close
  pub is : ys ≡ block_of forms close
  pub each : Each P forms
  pub closes : R close

module _ (P : Form → Type 0) (R : Close → Type 0) (alone : (i : Item) → StandsAlone i → P (Alone i)) (product : (i j : Item) → IsProduct i j → P (Product i j)) where
  spaced_forms : (us : List Whole) (ys : List Item) → Spaced us ys → Each UnitFits us → (fs : List Form) × (ys ≡ flat_map form_items fs) × Each P fs
  spaced_forms us ys nothing h = ([], refl, tt)
  spaced_forms us ys (unit (One i) vs zs s) h = let r : (fs : List Form) × (zs ≡ flat_map form_items fs) × Each P fs = spaced_forms vs zs s h.1 in
      (Alone i ∷ r.0, ap (λ (l : List Item). i ∷ l) r.1, (alone i h.0, r.2))
  spaced_forms us ys (unit (Two i j) vs zs s) h = let r : (fs : List Form) × (zs ≡ flat_map form_items fs) × Each P fs = spaced_forms vs zs s h.1 in
      (Product i j ∷ r.0, ap (λ (l : List Item). i ∷ j ∷ l) r.1, (product i j h.0, r.2))
  spaced_forms us ys (space vs zs s) h = let r : (fs : List Form) × (zs ≡ flat_map form_items fs) × Each P fs = spaced_forms vs zs s h in
      (Alone idle ∷ r.0, ap (λ (l : List Item). idle ∷ l) r.1, (alone idle idle_alone, r.2))

  stretch_forms : (old new : List Item) → Stretched old new → (fs : List Form) × (new ≡ flat_map form_items fs) × Each P fs
  stretch_forms old new s = spaced_forms (in_turn s.ms s.ss) new s.new_is (merge_fits s.ms s.ss (in_turn s.ms s.ss) s.first_stream s.second_stream (in_turn_merges s.ms s.ss))

  pub parts_built : (xs ys : List Item) → Parts P R xs ys → Built P R ys
  parts_built xs ys (part old new s f p i us vs more) =
      let a : (fs : List Form) × (new ≡ flat_map form_items fs) × Each P fs = stretch_forms old new s in
      let b : Built P R vs = parts_built us vs more in
      record {
        forms = a.0 ++ (f ∷ b.forms);
        close = b.close;
        is = ap (λ (l : List Item). l ++ (form_items f ++ vs)) a.1 ∙ (ap (λ (l : List Item). flat_map form_items a.0 ++ (form_items f ++ l)) b.is ∙
            (ap (λ (l : List Item). flat_map form_items a.0 ++ l) (sym (append_assoc (form_items f) (flat_map form_items b.forms) (close_items b.close))) ∙ sym (block_both a.0 (f ∷ b.forms) b.close)));
        each = each_both P a.0 (f ∷ b.forms) a.2 (p, b.each);
        closes = b.closes;
      }
  parts_built xs ys (closing old new s c r) =
      let a : (fs : List Form) × (new ≡ flat_map form_items fs) × Each P fs = stretch_forms old new s in
      record { forms = a.0; close = c; is = ap (λ (l : List Item). l ++ close_items c) a.1; each = a.2; closes = r }

-- ---- the same items

merge_holds : (ms ss l : List Whole) → Merge ms ss l → (i : Item) → Contains (flat l) i → Contains (flat ms) i ⊎ Contains (flat ss) i
merge_holds ms ss l done i c = inl c
merge_holds ms ss l (first u us vs k m) i c = ⊎_elim (λ x. inl (Contains-append_left (unit_items u) (flat us) i x))
    (λ x. ⊎_elim (λ y. inl (Contains-append_right (unit_items u) (flat us) i y)) (λ y. inr y) (merge_holds us vs k m i x)) (Contains-append_cases (unit_items u) (flat k) i c)
merge_holds ms ss l (second u us vs k m) i c = ⊎_elim (λ x. inr (Contains-append_left (unit_items u) (flat vs) i x))
    (λ x. ⊎_elim (λ y. inl y) (λ y. inr (Contains-append_right (unit_items u) (flat vs) i y)) (merge_holds us vs k m i x)) (Contains-append_cases (unit_items u) (flat k) i c)

holds_merge : (ms ss l : List Whole) → Merge ms ss l → (i : Item) → Contains (flat ms) i ⊎ Contains (flat ss) i → Contains (flat l) i
holds_merge ms ss l done i c = ⊎_elim (λ x. x) (λ x. x) c
holds_merge ms ss l (first u us vs k m) i c = ⊎_elim
    (λ x. ⊎_elim (λ y. Contains-append_left (unit_items u) (flat k) i y) (λ y. Contains-append_right (unit_items u) (flat k) i (holds_merge us vs k m i (inl y))) (Contains-append_cases (unit_items u) (flat us) i x))
    (λ x. Contains-append_right (unit_items u) (flat k) i (holds_merge us vs k m i (inr x))) c
holds_merge ms ss l (second u us vs k m) i c = ⊎_elim
    (λ x. Contains-append_right (unit_items u) (flat k) i (holds_merge us vs k m i (inl x)))
    (λ x. ⊎_elim (λ y. Contains-append_left (unit_items u) (flat k) i y) (λ y. Contains-append_right (unit_items u) (flat k) i (holds_merge us vs k m i (inr y))) (Contains-append_cases (unit_items u) (flat vs) i x)) c

first_is : (x i : Item) → Contains (x ∷ []) i → x ≡ i
first_is x i c = by c.0 c.1 c.2
  where
    by : (k : ℕ) → k < length (x ∷ []) → get_or (x ∷ []) k i ≡ i → x ≡ i
    by zero h e = e
    by (suc k) h e = absurd (Rattle.std.proofs.Common.not-suc-le-zero (Rattle.std.proofs.Common.le_of_suc-le-suc h))

spaced_holds : (us : List Whole) (ys : List Item) → Spaced us ys → (i : Item) → Contains (flat us) i → Contains ys i
spaced_holds us ys nothing i c = c
spaced_holds us ys (unit u vs zs s) i c = ⊎_elim (λ x. Contains-append_left (unit_items u) zs i x) (λ x. Contains-append_right (unit_items u) zs i (spaced_holds vs zs s i x)) (Contains-append_cases (unit_items u) (flat vs) i c)
spaced_holds us ys (space vs zs s) i c = Contains-append_right (idle ∷ []) zs i (spaced_holds vs zs s i c)

holds_spaced : (us : List Whole) (ys : List Item) → Spaced us ys → (i : Item) → Contains ys i → Contains (flat us) i ⊎ (idle ≡ i)
holds_spaced us ys nothing i c = inl c
holds_spaced us ys (unit u vs zs s) i c = ⊎_elim (λ x. inl (Contains-append_left (unit_items u) (flat vs) i x))
    (λ x. ⊎_elim (λ y. inl (Contains-append_right (unit_items u) (flat vs) i y)) (λ y. inr y) (holds_spaced vs zs s i x)) (Contains-append_cases (unit_items u) zs i c)
holds_spaced us ys (space vs zs s) i c = ⊎_elim (λ x. inr (first_is idle i x)) (λ x. holds_spaced vs zs s i x) (Contains-append_cases (idle ∷ []) zs i c)

stretch_keeps : (old new : List Item) → Stretched old new → (i : Item) → Contains old i → Contains new i
stretch_keeps old new s i c = spaced_holds (in_turn s.ms s.ss) new s.new_is i (holds_merge s.ms s.ss (in_turn s.ms s.ss) (in_turn_merges s.ms s.ss) i
    (merge_holds s.ms s.ss s.l s.before i (subst (λ (l : List Item). Contains l i) s.old_is c)))

stretch_old : (old new : List Item) → Stretched old new → (i : Item) → Contains new i → Contains old i ⊎ (idle ≡ i)
stretch_old old new s i c = ⊎_elim (λ x. inl (subst (λ (l : List Item). Contains l i) (sym s.old_is) (holds_merge s.ms s.ss s.l s.before i (merge_holds s.ms s.ss (in_turn s.ms s.ss) (in_turn_merges s.ms s.ss) i x))))
    (λ x. inr x) (holds_spaced (in_turn s.ms s.ss) new s.new_is i c)

-- behind a stretch and what stands
both_keep : (old new fixed us vs : List Item) (i : Item) → (Contains old i → Contains new i) → (Contains us i → Contains vs i) → Contains (old ++ (fixed ++ us)) i → Contains (new ++ (fixed ++ vs)) i
both_keep old new fixed us vs i f g c = ⊎_elim (λ x. Contains-append_left new (fixed ++ vs) i (f x))
    (λ x. Contains-append_right new (fixed ++ vs) i (⊎_elim (λ y. Contains-append_left fixed vs i y) (λ y. Contains-append_right fixed vs i (g y)) (Contains-append_cases fixed us i x))) (Contains-append_cases old (fixed ++ us) i c)

both_old : (old new fixed us vs : List Item) (i : Item) → (Contains new i → Contains old i ⊎ (idle ≡ i)) → (Contains vs i → Contains us i ⊎ (idle ≡ i)) → Contains (new ++ (fixed ++ vs)) i → Contains (old ++ (fixed ++ us)) i ⊎ (idle ≡ i)
both_old old new fixed us vs i f g c = ⊎_elim (λ x. ⊎_elim (λ y. inl (Contains-append_left old (fixed ++ us) i y)) (λ y. inr y) (f x))
    (λ x. ⊎_elim (λ y. inl (Contains-append_right old (fixed ++ us) i (Contains-append_left fixed us i y)))
    (λ y. ⊎_elim (λ z. inl (Contains-append_right old (fixed ++ us) i (Contains-append_right fixed us i z))) (λ z. inr z) (g y)) (Contains-append_cases fixed vs i x)) (Contains-append_cases new (fixed ++ vs) i c)

pub parts_keep : (P : Form → Type 0) (R : Close → Type 0) (xs ys : List Item) → Parts P R xs ys → (i : Item) → Contains xs i → Contains ys i
parts_keep P R xs ys (part old new s f p h us vs more) i c = both_keep old new (form_items f) us vs i (stretch_keeps old new s i) (parts_keep P R us vs more i) c
parts_keep P R xs ys (closing old new s k r) i c = ⊎_elim (λ x. Contains-append_left new (close_items k) i (stretch_keeps old new s i x)) (λ x. Contains-append_right new (close_items k) i x) (Contains-append_cases old (close_items k) i c)

pub parts_old : (P : Form → Type 0) (R : Close → Type 0) (xs ys : List Item) → Parts P R xs ys → (i : Item) → Contains ys i → Contains xs i ⊎ (idle ≡ i)
parts_old P R xs ys (part old new s f p h us vs more) i c = both_old old new (form_items f) us vs i (stretch_old old new s i) (parts_old P R us vs more i) c
parts_old P R xs ys (closing old new s k r) i c = ⊎_elim (λ x. ⊎_elim (λ y. inl (Contains-append_left old (close_items k) i y)) (λ y. inr y) (stretch_old old new s i x))
    (λ x. inl (Contains-append_right old (close_items k) i x)) (Contains-append_cases new (close_items k) i c)

pub idle_added : (i : Item) → idle ≡ i → IsAdded i
idle_added i e = subst IsAdded e (record { in_range = (omega arith, omega arith, omega arith, omega arith); no_field = refl; stays = refl })

-- ---- the halves of return addresses

abbrev Behind : List Item → List Item → Type 0
Behind xs ys = (z : Bool) → HalvesPair xs z → HalvesPair ys z

behind_item : (P Q : Bool → Type 0) (f : Fix) (o : Bool) (x : Instr) → HalvesAt P f o x → ((z : Bool) → P z → Q z) → HalvesAt Q f o x
behind_item P Q Plain o x h g = (h.0, g o h.1)
behind_item P Q (Block t) o x h g = (h.0, g o h.1)
behind_item P Q (Function t) o x h g = (h.0, g o h.1)
behind_item P Q ReturnHigh o x h g = (h.0, g true h.1)
behind_item P Q ReturnLow o x h g = (h.0, g false h.1)

front_same : (xs us vs : List Item) → Behind us vs → Behind (xs ++ us) (xs ++ vs)
front_same [] us vs g = g
front_same (x ∷ xs) us vs g = λ z h. behind_item (HalvesPair (xs ++ us)) (HalvesPair (xs ++ vs)) x.fix z x.instr h (front_same xs us vs g)

off : (r m : ℕ) → m ≡ 25 → (r ≡ 0) ⊎ Rattle.std.specs.Prelude.IsTrue (is_of class.Master r) → r ≢ m
off r m e (inl z) = zero_off r m e z
  where
    zero_off : (r m : ℕ) → m ≡ 25 → r ≡ 0 → r ≢ m
    zero_off r m e z = omega arith
off r m e (inr z) = grind arith

all_off : (rs : List ℕ) → Each (MayTouch class.Master) rs → Each (λ r. r ≢ 25) rs
all_off [] h = tt
all_off (r ∷ rs) h = (off r 25 refl h.0, all_off rs h.1)

master_plain : (i : Item) (f : Fix) → i.class ≡ class.Master → HalfFits i f → f ≡ Plain
master_plain i Plain e h = refl
master_plain i (Block t) e h = absurd h
master_plain i (Function t) e h = absurd h
master_plain i ReturnHigh e h = absurd (apart_ (sym e ∙ h.0))
  where
    apart_ : class.Master ≡ class.Shadow → ⊥
    apart_ g = cc
master_plain i ReturnLow e h = absurd (apart_ (sym e ∙ h.0))
  where
    apart_ : class.Master ≡ class.Shadow → ⊥
    apart_ g = cc

-- a plain item that doesn't touch 25 stands anywhere
passes : (f : Fix) (x : Instr) (P : Bool → Type 0) (o : Bool) → f ≡ Plain → Each (λ r. r ≢ 25) (touched x) → P o → HalvesAt P f o x
passes f x P o e h p = subst (λ (z : Fix). HalvesAt P z o x) (sym e) ((λ k. h), p)

passed : (f : Fix) (x : Instr) (P : Bool → Type 0) (o : Bool) → f ≡ Plain → HalvesAt P f o x → P o
passed f x P o e h = (subst (λ (z : Fix). HalvesAt P z o x) e h).1

first_out : (u : Whole) (us : List Item) → IsUnit class.Master u → Behind (unit_items u ++ us) us
first_out (One i) us h z x = passed i.fix i.instr (HalvesPair us) z (master_plain i i.fix h.1 h.0.half_fits) x
first_out (Two i j) us h z x = passed j.fix j.instr (HalvesPair us) z h.0.plain_move (passed i.fix i.instr (HalvesPair (j ∷ us)) z h.0.plain_product x)

first_in : (u : Whole) (us : List Item) → IsUnit class.Master u → Behind us (unit_items u ++ us)
first_in (One i) us h z x = passes i.fix i.instr (HalvesPair us) z (master_plain i i.fix h.1 h.0.half_fits) (all_off (touched i.instr) (subst (λ (c : Class). Each (MayTouch c) (touched i.instr)) h.1 h.0.own)) x
first_in (Two i j) us h z x = passes i.fix i.instr (HalvesPair (j ∷ us)) z h.0.plain_product (all_off (touched i.instr) (subst (λ (c : Class). Each (MayTouch c) (touched i.instr)) h.1 h.0.own))
    (passes j.fix j.instr (HalvesPair us) z h.0.plain_move (all_off (touched j.instr) (subst (λ (c : Class). Each (MayTouch c) (touched j.instr)) (sym h.0.one_stream ∙ h.1) h.0.own_move)) x)

to_second : (ms ss l : List Whole) (more : List Item) → AllUnits class.Master ms → Merge ms ss l → Behind (flat l ++ more) (flat ss ++ more)
to_second ms ss l more a done z h = h
to_second ms ss l more a (first u us vs k m) z h = to_second us vs k more a.1 m z (first_out u (flat k ++ more) a.0 z (subst (λ (xs : List Item). HalvesPair xs z) (append_assoc (unit_items u) (flat k) more) h))
to_second ms ss l more a (second u us vs k m) z h = subst (λ (xs : List Item). HalvesPair xs z) (sym (append_assoc (unit_items u) (flat vs) more))
    (front_same (unit_items u) (flat k ++ more) (flat vs ++ more) (to_second us vs k more a m) z (subst (λ (xs : List Item). HalvesPair xs z) (append_assoc (unit_items u) (flat k) more) h))

from_second : (ms ss l : List Whole) (more : List Item) → AllUnits class.Master ms → Merge ms ss l → Behind (flat ss ++ more) (flat l ++ more)
from_second ms ss l more a done z h = h
from_second ms ss l more a (first u us vs k m) z h = subst (λ (xs : List Item). HalvesPair xs z) (sym (append_assoc (unit_items u) (flat k) more)) (first_in u (flat k ++ more) a.0 z (from_second us vs k more a.1 m z h))
from_second ms ss l more a (second u us vs k m) z h = subst (λ (xs : List Item). HalvesPair xs z) (sym (append_assoc (unit_items u) (flat k) more))
    (front_same (unit_items u) (flat vs ++ more) (flat k ++ more) (from_second us vs k more a m) z (subst (λ (xs : List Item). HalvesPair xs z) (append_assoc (unit_items u) (flat vs) more) h))

zero_off : (z : ℕ) → z ≡ 0 → z ≢ 25
zero_off z e = far z 25 e refl
  where
    far : (z m : ℕ) → z ≡ 0 → m ≡ 25 → z ≢ m
    far z m e f = omega arith

spaced_halves : (us : List Whole) (ys more : List Item) → Spaced us ys → Behind (flat us ++ more) (ys ++ more)
spaced_halves us ys more nothing z h = h
spaced_halves us ys more (unit u vs zs s) z h = subst (λ (xs : List Item). HalvesPair xs z) (sym (append_assoc (unit_items u) zs more))
    (front_same (unit_items u) (flat vs ++ more) (zs ++ more) (spaced_halves vs zs more s) z (subst (λ (xs : List Item). HalvesPair xs z) (append_assoc (unit_items u) (flat vs) more) h))
spaced_halves us ys more (space vs zs s) z h = ((λ e. (zero_off 0 refl, (zero_off 0 refl, tt))), spaced_halves vs zs more s z h)

stretch_halves : (old new us vs : List Item) → Stretched old new → Behind us vs → Behind (old ++ us) (new ++ vs)
stretch_halves old new us vs s g z h = spaced_halves (in_turn s.ms s.ss) new vs s.new_is z (from_second s.ms s.ss (in_turn s.ms s.ss) vs s.first_stream (in_turn_merges s.ms s.ss) z
    (front_same (flat s.ss) us vs g z (to_second s.ms s.ss s.l us s.first_stream s.before z (subst (λ (l : List Item). HalvesPair (l ++ us) z) s.old_is h))))

pub parts_halves : (P : Form → Type 0) (R : Close → Type 0) (xs ys : List Item) → Parts P R xs ys → Behind xs ys
parts_halves P R xs ys (part old new s f p h us vs more) = stretch_halves old new (form_items f ++ us) (form_items f ++ vs) s (front_same (form_items f) us vs (parts_halves P R us vs more))
parts_halves P R xs ys (closing old new s k r) = stretch_halves old new (close_items k) (close_items k) s (λ z h. h)
