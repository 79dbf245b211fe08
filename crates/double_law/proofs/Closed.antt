-- What whole blocks fit, the halves of return addresses in them, and the words that they come to.
use Rattle.std.proofs.Common.{◌≡◌, ◌≢◌, ◌≤◌, ◌<◌, ℕ, zero, suc, ◌+◌, ◌-◌, ◌*◌, ◌/◌, ◌%◌, ◌^◌, arith, ap, refl, sym, ◌∙◌, subst, List, [], ◌∷◌, ◌++◌, Bool, true, false, cond, inl, inr, length, append_assoc, le_refl, le_trans, zero-le, zero-add, ⊎_elim}
use Rattle.std.specs.Prelude.{Some, None, ◌⊎◌, ◌&&◌, count_by}
use Rattle.std.proofs.lemmas.List.Sums.{sum_by-cons, sum_by-append}
use Rattle.mips_isa.specs.declared.instr.Instr.{Instr}
use Rattle.mips_isa.specs.declared.instr.Instr.TheVariants as mips
use Rattle.mips_isa.specs.Table.{IsInRange}
use Rattle.hard_items.specs.declared.code.Class.TheVariants as class
use Rattle.hard_items.specs.declared.code.Fix.{Fix}
use Rattle.hard_items.specs.declared.code.Fix.TheVariants.{Plain, Block, Function, ReturnHigh, ReturnLow}
use Rattle.hard_items.specs.declared.code.Item.{Item}
use Rattle.hard_items.specs.Streams.{is_stream, nop, plain, touched}
use Rattle.hard_items.specs.Forms.{Each, Close, Jump, Branch, Call, Return, Exit, close_items, HalvesAt, HalvesPair}
use Rattle.hard_items.specs.Counts.{free_nops_behind, is_branch, is_conditional}
use Rattle.mid_blocks.specs.declared.code.MidEnd.{MidEnd}
use Rattle.mid_blocks.specs.declared.code.MidEnd.TheVariants as line
use Rattle.mid_blocks.specs.declared.places.Place.{Place}
use Rattle.mid_blocks.specs.declared.places.Place.TheVariants.{Pair, Slot}
use Rattle.mid_blocks.specs.declared.places.Places.{Places}
use Rattle.double_law.specs.declared.roles.Stream.TheVariants.{First}
use Rattle.double_law.specs.declared.roles.Role.{Role}
use Rattle.double_law.specs.declared.roles.Role.TheVariants.{Value, Stack, Link}
use Rattle.double_law.specs.Roles.{RoleFits, reg_in, both, load, store}
use Rattle.double_law.specs.Emitted.{place_of, slot_offset, source, fetched, brought, call_items, argument_items, end_items, enter_items, parameter_load, parameter_items, result_to}
use Rattle.double_law.specs.Program.{exit_items}
use Rattle.double_law.proofs.Doubled.{reg_below}
use Rattle.double_law.proofs.Places.{PlaceFits}
use Rattle.double_law.proofs.Formed.{EachFits, EndPlacesFit, close_of}
use Rattle.double_law.proofs.Emits.{Neat, Emits, some_register, weighed, weighed_append, each_append, emits_nothing, emits_then, emits_more, emits_zero, emits_move, emits_add_stack, emits_load, emits_store, emits_fetched, emits_brought}

abbrev pub IsHalf : Fix → Type 0
IsHalf f = (f ≡ ReturnHigh) ⊎ (f ≡ ReturnLow)

abbrev pub Busy : Item → Type 0
Busy i = is_stream i.class ≡ true → some_register (touched i.instr) ≡ true

-- The conditional branches to blocks by which a block closes.
abbrev pub close_branches : Close → ℕ
close_branches (Jump to) = 0
close_branches (Branch checked r when to) = 1
close_branches (Call f) = 0
close_branches (Return checked) = 0
close_branches (Exit checked) = 0

pub record EmitsBlock (n : ℕ) (c : Close) (xs : List Item) : Type 0 where
  pub in_range : Each (λ i. IsInRange i.instr) xs
  pub busy : Each Busy xs
  pub halves : HalvesPair xs false
  pub half_calls : Each (λ i. IsHalf i.fix → (f : ℕ) × (c ≡ Call f)) xs
  pub weight : weighed xs ≤ n
  pub free : free_nops_behind false xs ≡ 0
  pub branch : count_by is_branch xs ≡ close_branches c

closed_no : false ≡ true → ⊥
closed_no e = cc

not_half : (f : Fix) → f ≡ Plain → IsHalf f → ⊥
not_half f e (inl h) = high (sym e ∙ h)
  where
    high : Plain ≡ ReturnHigh → ⊥
    high e = cc
not_half f e (inr h) = low (sym e ∙ h)
  where
    low : Plain ≡ ReturnLow → ⊥
    low e = cc

plain_halves : (xs ys : List Item) → Each Neat xs → HalvesPair ys false → HalvesPair (xs ++ ys) false
plain_halves [] ys h k = k
plain_halves (x ∷ xs) ys h k = subst (λ (f : Fix). HalvesAt (HalvesPair (xs ++ ys)) f false x.instr) (sym h.0.plain_fix) ((λ e. absurd (closed_no e)), plain_halves xs ys h.1 k)

each_map : {A : Type 0} (P Q : A → Type 0) → ((x : A) → P x → Q x) → (xs : List A) → Each P xs → Each Q xs
each_map P Q f [] h = tt
each_map P Q f (x ∷ xs) h = (f x h.0, each_map P Q f xs h.1)

no_branches : (xs : List Item) → Each Neat xs → count_by is_branch xs ≡ 0
no_branches [] h = refl
no_branches (x ∷ xs) h = sum_by-cons (λ (i : Item). cond (is_branch i) 1 0) x xs ∙ both_zero (cond (is_branch x) 1 0) (count_by is_branch xs) (ap (λ (z : Bool). cond z 1 0) (no_field x h.0.plain_fix)) (no_branches xs h.1)
  where
    both_zero : (a b : ℕ) → a ≡ 0 → b ≡ 0 → a + b ≡ 0
    both_zero a b e f = omega arith

    and_false : (z : Bool) → (z && false) ≡ false
    and_false true = refl
    and_false false = refl

    no_field : (i : Item) → i.fix ≡ Plain → is_branch i ≡ false
    no_field i e = ap (λ (f : Fix). is_conditional i.instr && Rattle.hard_items.specs.Counts.is_block f) e ∙ and_false (is_conditional i.instr)

pub block_then : (n m : ℕ) (c : Close) (xs ys : List Item) → Emits n xs → EmitsBlock m c ys → EmitsBlock (n + m) c (xs ++ ys)
block_then n m c xs ys a b = record {
  in_range = each_append (λ i. IsInRange i.instr) xs ys (each_map Neat (λ i. IsInRange i.instr) (λ i h. h.in_range) xs a.each) b.in_range;
  busy = each_append Busy xs ys (each_map Neat Busy (λ i h. h.busy) xs a.each) b.busy;
  halves = plain_halves xs ys a.each b.halves;
  half_calls = each_append (λ i. IsHalf i.fix → (f : ℕ) × (c ≡ Call f)) xs ys (each_map Neat (λ i. IsHalf i.fix → (f : ℕ) × (c ≡ Call f)) (λ i h e. absurd (not_half i.fix h.plain_fix e)) xs a.each) b.half_calls;
  weight = sum (weighed xs) (weighed ys) (weighed (xs ++ ys)) (weighed_append xs ys) a.weight b.weight;
  free = a.free ys ∙ b.free;
  branch = sum_by-append (λ (i : Item). cond (is_branch i) 1 0) xs ys ∙ (ap (λ (k : ℕ). k + count_by is_branch ys) (no_branches xs a.each) ∙ (zero-add (count_by is_branch ys) ∙ b.branch));
}
  where
    sum : (x y t : ℕ) → t ≡ x + y → x ≤ n → y ≤ m → t ≤ n + m
    sum x y t e h k = omega arith

pub block_more : (n m : ℕ) (c : Close) (xs : List Item) → n ≤ m → EmitsBlock n c xs → EmitsBlock m c xs
block_more n m c xs h b = record { in_range = b.in_range; busy = b.busy; halves = b.halves; half_calls = b.half_calls; weight = le_trans b.weight h; free = b.free; branch = b.branch }

-- ---- closes

zero_low : 0 < 32
zero_low = omega arith

act_busy : (i : Instr) (f : Fix) → Busy (record { instr = i; class = class.Act; fix = f })
act_busy i f e = absurd (closed_no e)

open_plain : (i : Instr) → false ≡ true → Each (λ r. r ≢ 25) (touched i)
open_plain i e = absurd (closed_no e)

no_half_block : (t : ℕ) → IsHalf (Block t) → ⊥
no_half_block t (inl h) = cc
no_half_block t (inr h) = cc

no_half_function : (t : ℕ) → IsHalf (Function t) → ⊥
no_half_function t (inl h) = cc
no_half_function t (inr h) = cc

no_half_plain : IsHalf Plain → ⊥
no_half_plain h = not_half Plain refl h

nop_range : IsInRange nop
nop_range = (zero_low, zero_low, zero_low, zero_low)

closed_jump : (t : ℕ) → EmitsBlock 2 (Jump t) (close_items (Jump t))
closed_jump t = record {
  in_range = (omega arith, (nop_range, tt));
  busy = (act_busy (mips.J 0) (Block t), (act_busy nop Plain, tt));
  halves = (refl, (open_plain nop, refl));
  half_calls = ((λ e. absurd (no_half_block t e)), ((λ e. absurd (no_half_plain e)), tt));
  weight = le_refl 2;
  free = refl;
  branch = refl;
}

closed_branch : (r : Role) (when : Bool) (t : ℕ) → RoleFits r → EmitsBlock 14 (Branch false (reg_in First r) when t) (close_items (Branch false (reg_in First r) when t))
closed_branch r true t f = record {
  in_range = ((reg_below First r f, zero_low, omega arith), (nop_range, tt));
  busy = (act_busy (mips.Bne (reg_in First r) 0 0) (Block t), (act_busy nop Plain, tt));
  halves = (refl, (open_plain nop, refl));
  half_calls = ((λ e. absurd (no_half_block t e)), ((λ e. absurd (no_half_plain e)), tt));
  weight = le_refl 14;
  free = refl;
  branch = refl;
}
closed_branch r false t f = record {
  in_range = ((reg_below First r f, zero_low, omega arith), (nop_range, tt));
  busy = (act_busy (mips.Beq (reg_in First r) 0 0) (Block t), (act_busy nop Plain, tt));
  halves = (refl, (open_plain nop, refl));
  half_calls = ((λ e. absurd (no_half_block t e)), ((λ e. absurd (no_half_plain e)), tt));
  weight = le_refl 14;
  free = refl;
  branch = refl;
}

pub closed_call : (g : ℕ) → EmitsBlock 4 (Call g) (call_items g)
closed_call g = record {
  in_range = ((zero_low, omega arith, omega arith), ((omega arith, omega arith, omega arith), (omega arith, (nop_range, tt))));
  busy = ((λ e. refl), ((λ e. refl), (act_busy (mips.Jal 0) (Function g), (act_busy nop Plain, tt))));
  halves = (refl, (refl, (refl, (open_plain nop, refl))));
  half_calls = ((λ e. (g, refl)), ((λ e. (g, refl)), ((λ e. (g, refl)), ((λ e. (g, refl)), tt))));
  weight = le_refl 4;
  free = refl;
  branch = refl;
}

closed_return : EmitsBlock 5 (Return false) (close_items (Return false))
closed_return = record {
  in_range = ((omega arith, zero_low, zero_low, zero_low), (nop_range, tt));
  busy = (act_busy (mips.Jr 31) Plain, (act_busy nop Plain, tt));
  halves = (open_plain (mips.Jr 31), (open_plain nop, refl));
  half_calls = ((λ e. absurd (no_half_plain e)), ((λ e. absurd (no_half_plain e)), tt));
  weight = le_refl 5;
  free = refl;
  branch = refl;
}

pub closed_exit : EmitsBlock 5 (Exit false) exit_items
closed_exit = record {
  in_range = ((zero_low, omega arith, omega arith), (omega arith, (omega arith, tt)));
  busy = (act_busy (mips.Ori 2 0 17) Plain, (act_busy mips.Syscall Plain, (act_busy (mips.Break 1) Plain, tt)));
  halves = (open_plain (mips.Ori 2 0 17), (open_plain mips.Syscall, (open_plain (mips.Break 1), refl)));
  half_calls = ((λ e. absurd (no_half_plain e)), ((λ e. absurd (no_half_plain e)), ((λ e. absurd (no_half_plain e)), tt)));
  weight = le_refl 5;
  free = refl;
  branch = refl;
}

-- ---- ends

pair_nine : (k : ℕ) → k ≤ 7 → k + 2 ≤ 9
pair_nine k h = omega arith

slot_small : (s q : ℕ) → s + 1 < q → q ≤ 4002 → 8 * (s + 1) < 2 ^ 16
slot_small s q h k = omega arith

source_zero : (q : ℕ) (pl : Place) → PlaceFits q pl → RoleFits (source pl 0)
source_zero q (Pair k) f = pair_nine k f
source_zero q (Slot s) f = zero-le

argument_small : (i : ℕ) → 2 ^ 16 - 8 * (i + 1) < 2 ^ 16
argument_small i = omega arith

-- arguments come to twelve words each
emits_arguments : (q : ℕ) (at : Places) (i : ℕ) (vs : List ℕ) → q ≤ 4002 → EachFits q at vs → Emits (12 * length vs) (argument_items at i vs)
emits_arguments q at i [] m f = emits_nothing
emits_arguments q at i (v ∷ vs) m f =
    let pl : Place = place_of at v in
    let st : List Item = store (source pl 0) Stack (2 ^ 16 - 8 * (i + 1)) in
    emits_more (4 + (8 + 12 * length vs)) (12 * length (v ∷ vs)) (fetched pl 0 ++ (st ++ argument_items at (i + 1) vs)) (twelve (length vs))
    (emits_then 4 (8 + 12 * length vs) (fetched pl 0) (st ++ argument_items at (i + 1) vs) (emits_fetched q pl 0 m zero-le f.0)
    (emits_then 8 (12 * length vs) st (argument_items at (i + 1) vs) (emits_store (source pl 0) Stack (2 ^ 16 - 8 * (i + 1)) (argument_small i) (source_zero q pl f.0) tt) (emits_arguments q at (i + 1) vs m f.1)))
  where
    twelve : (n : ℕ) → 4 + (8 + 12 * n) ≤ 12 * suc n
    twelve n = omega arith

-- The words of an end, without the head of its block and the taking of a result.
abbrev pub close_words : MidEnd → ℕ
close_words (line.Jump to) = 2
close_words (line.Branch v when to) = 18
close_words (line.Call g args result) = 12 * length args + 4
close_words (line.Return None) = 13
close_words (line.Return (Some v)) = 15

emits_return : (q n : ℕ) (first : List Item) → q ≤ 4002 → Emits n first → EmitsBlock (n + 11) (Return false) (first ++ (load Link Stack 0 ++ (both (λ t. mips.Addiu (reg_in t Stack) (reg_in t Stack) (8 * q)) ++ plain (mips.Jr 31) class.Act ∷ plain nop class.Act ∷ [])))
emits_return q n first m a =
    let ad : List Item = both (λ t. mips.Addiu (reg_in t Stack) (reg_in t Stack) (8 * q)) in
    let tl : List Item = plain (mips.Jr 31) class.Act ∷ plain nop class.Act ∷ [] in
    block_then n 11 (Return false) first (load Link Stack 0 ++ (ad ++ tl)) a (block_then 4 7 (Return false) (load Link Stack 0) (ad ++ tl) (emits_load Link Stack 0 (omega arith) tt tt) (block_then 2 5 (Return false) ad tl (emits_add_stack (8 * q) (small q m)) closed_return))
  where
    small : (q : ℕ) → q ≤ 4002 → 8 * q < 2 ^ 16
    small q h = omega arith

pub emits_end : (first q : ℕ) (at : Places) (e : MidEnd) → q ≤ 4002 → EndPlacesFit q at e → EmitsBlock (close_words e) (close_of first at e) (end_items first q at e)
emits_end first q at (line.Jump to) m f = closed_jump (first + to)
emits_end first q at (line.Branch v true to) m f = block_then 4 14 (Branch false (reg_in First (source (place_of at v) 0)) true (first + to)) (fetched (place_of at v) 0) (close_items (Branch false (reg_in First (source (place_of at v) 0)) true (first + to))) (emits_fetched q (place_of at v) 0 m zero-le f) (closed_branch (source (place_of at v) 0) true (first + to) (source_zero q (place_of at v) f))
emits_end first q at (line.Branch v false to) m f = block_then 4 14 (Branch false (reg_in First (source (place_of at v) 0)) false (first + to)) (fetched (place_of at v) 0) (close_items (Branch false (reg_in First (source (place_of at v) 0)) false (first + to))) (emits_fetched q (place_of at v) 0 m zero-le f) (closed_branch (source (place_of at v) 0) false (first + to) (source_zero q (place_of at v) f))
emits_end first q at (line.Call g args result) m f = block_then (12 * length args) 4 (Call g) (argument_items at 0 args) (call_items g) (emits_arguments q at 0 args m f) (closed_call g)
emits_end first q at (line.Return None) m f = emits_return q 2 (both (λ t. mips.Addu (reg_in t (Value 0)) 0 0)) m (emits_zero (Value 0) zero-le)
emits_end first q at (line.Return (Some v)) m f = emits_return q 4 (brought (place_of at v) (Value 0)) m (emits_brought q (place_of at v) (Value 0) m f zero-le)

-- ---- starts

pub emits_result : (q : ℕ) (pl : Place) → q ≤ 4002 → PlaceFits q pl → Emits 8 (result_to pl)
emits_result q (Pair k) m f = emits_more 2 8 (result_to (Pair k)) (omega arith) (emits_move (Value (k + 2)) (Value 0) (pair_nine k f) zero-le)
emits_result q (Slot s) m f = emits_store (Value 0) Stack (slot_offset s) (slot_small s q f m) zero-le tt

emits_parameters : (q : ℕ) (at : Places) (i n : ℕ) → q ≤ 4002 → ((j : ℕ) → PlaceFits q (place_of at (i + j)) ⊎ (n ≤ j)) → Emits (4 * n) (parameter_items at q i n)
emits_parameters q at i zero m f = emits_nothing
emits_parameters q at i (suc n) m f = emits_more (4 + 4 * n) (4 * suc n) (parameter_load (place_of at i) q i ++ parameter_items at q (i + 1) n) (four n)
    (emits_then 4 (4 * n) (parameter_load (place_of at i) q i) (parameter_items at q (i + 1) n)
    (one (place_of at i) (elim (f 0) as (λ z. PlaceFits q (place_of at i)) [ inl h ↦ subst (λ (k : ℕ). PlaceFits q (place_of at k)) (Rattle.std.proofs.Common.add-zero i) h | inr h ↦ absurd (Rattle.std.proofs.Common.not-suc-le-zero h) ]))
    (emits_parameters q at (i + 1) n m (λ j. elim (f (suc j)) as (λ z. PlaceFits q (place_of at (i + 1 + j)) ⊎ (n ≤ j)) [ inl h ↦ inl (subst (λ (k : ℕ). PlaceFits q (place_of at k)) (shift i j) h) | inr h ↦ inr (Rattle.std.proofs.Common.le_of_suc-le-suc h) ])))
  where
    shift : (i j : ℕ) → i + suc j ≡ i + 1 + j
    shift i j = omega arith

    four : (n : ℕ) → 4 + 4 * n ≤ 4 * suc n
    four n = omega arith

    small : (q i : ℕ) → q ≤ 4002 → 8 * (q - (i + 1)) < 2 ^ 16
    small q i h = omega arith

    one : (pl : Place) → PlaceFits q pl → Emits 4 (parameter_load pl q i)
    one (Pair k) h = emits_load (Value (k + 2)) Stack (8 * (q - (i + 1))) (small q i m) (pair_nine k h) tt
    one (Slot s) h = emits_more 0 4 [] zero-le emits_nothing

pub emits_enter : (q params : ℕ) (at : Places) → q ≤ 4002 → 0 < q → ((j : ℕ) → PlaceFits q (place_of at (0 + j)) ⊎ (params ≤ j)) → Emits (2 + (8 + 4 * params)) (enter_items at q params)
emits_enter q params at m z f =
    let ad : List Item = both (λ t. mips.Addiu (reg_in t Stack) (reg_in t Stack) (2 ^ 16 - 8 * q)) in
    let ps : List Item = parameter_items at q 0 params in
    emits_then 2 (8 + 4 * params) ad (store Link Stack 0 ++ ps) (emits_add_stack (2 ^ 16 - 8 * q) (small q z)) (emits_then 8 (4 * params) (store Link Stack 0) ps (emits_store Link Stack 0 (omega arith) tt tt) (emits_parameters q at 0 params m f))
  where
    small : (q : ℕ) → 0 < q → 2 ^ 16 - 8 * q < 2 ^ 16
    small q h = omega arith
