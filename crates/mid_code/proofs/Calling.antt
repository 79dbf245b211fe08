-- What the tests of a program decide.
use Rattle.std.proofs.Common.{◌≡◌, ℕ, zero, suc, ◌+◌, ◌<◌, Bool, true, List, map, length, Option, Some, None, refl, sym, ap, ◌∙◌, arith, inl, inr, get_or, eqb-true, eq-eqb}
use Rattle.std.specs.Prelude.{nat_le, ◌==◌, ◌&&◌, slice_get}
use Rattle.std.specs.List.{list_all, All, Any, sum}
use Rattle.std.proofs.lemmas.Bool.{and_parts, and_from, leb-true, le-leb, or_cases, or_right}
use Rattle.std.proofs.lemmas.Option.{get_or_from_slice_get, slice_get-get_or}
use Rattle.mid_blocks.specs.declared.code.MidEnd.{MidEnd}
use Rattle.mid_blocks.specs.declared.code.MidEnd.TheVariants.{Jump, Branch, Call, Return}
use Rattle.mid_blocks.specs.declared.code.MidFunction.{MidFunction}
use Rattle.mid_blocks.specs.declared.code.Mid.{Mid}
use Rattle.mid_blocks.specs.Lines.{lines}
use Rattle.mid_blocks.specs.Valid.{ValidFunction, Valid, IsCalled, IsUsed, step_global}
use Rattle.mid_blocks.specs.Tested.{is_below, is_it, callee, calls, is_called, may_stay, HoldsBelow, is_main, takes, call_fits, steps_use, blocks_use, globals_exist, blocks_call, calls_fit, names_fit}
use Rattle.mid_blocks.proofs.Deciding.{each_true, any_decides, below_some, below_from}

-- an item of a list
pub record Item {X : Type 0} (xs : List X) (x : X) : Type 0 where
  pub at : ℕ
  pub within : at < length xs
  pub is : get_or xs at x ≡ x

-- the tests of a list hold of each item
item_true : {X : Type 0} (p : X → Bool) (xs : List X) (x : X) → list_all p xs ≡ true → Item xs x → p x ≡ true
item_true p xs x t i = ap p (sym i.is) ∙ (each_true p xs).0 t i.at x i.within

all_items : {X : Type 0} (p : X → Bool) (xs : List X) → ((x : X) → Item xs x → p x ≡ true) → list_all p xs ≡ true
all_items p xs h = (each_true p xs).1 (λ k d l. h (get_or xs k d) (record { at = k; within = l; is = get_or_from_slice_get xs k (get_or xs k d) (get_or xs k d) (slice_get-get_or xs k d l) }))

any_item : {X : Type 0} (P : X → Type 0) (xs : List X) → Any P xs → (x : X) × Item xs x × P x
any_item P xs (k, x, l, e, h) = (x, record { at = k; within = l; is = e }, h)

item_any : {X : Type 0} (P : X → Type 0) (xs : List X) (x : X) → Item xs x → P x → Any P xs
item_any P xs x i h = (i.at, x, i.within, i.is, h)

-- ---- function 0

main_of : (o : Option MidFunction) → is_main o ≡ true → (main : MidFunction) × (o ≡ Some main) × (main.params ≡ 0)
main_of None h = absurd (cc)
main_of (Some f) h = (f, refl, eqb-true f.params 0 h)

main_from : (o : Option MidFunction) (main : MidFunction) → o ≡ Some main → main.params ≡ 0 → is_main o ≡ true
main_from o main e z = ap is_main e ∙ eq-eqb main.params 0 z

-- ---- globals

module _ (mid : Mid) where
  pub globals_from : globals_exist (length mid.globals) mid.functions ≡ true → (global : ℕ) → IsUsed mid global → global < length mid.globals
  globals_from t global used =
      let f = any_item (λ f. Any (λ b. Any (λ step. step_global step ≡ Some global) b.steps) f.blocks) mid.functions used in
      let b = any_item (λ b. Any (λ step. step_global step ≡ Some global) b.steps) f.0.blocks f.2 in
      let s = any_item (λ step. step_global step ≡ Some global) b.0.steps b.2 in
      let tf = item_true (λ f. blocks_use (length mid.globals) f.blocks) mid.functions f.0 t f.1 in
      let tb = item_true (λ b. steps_use (length mid.globals) b.steps) f.0.blocks b.0 tf b.1 in
      below_some (length mid.globals) global (step_global s.0) s.2 (item_true (λ step. is_below (length mid.globals) (step_global step)) b.0.steps s.0 tb s.1)

  pub globals_to : ((global : ℕ) → IsUsed mid global → global < length mid.globals) → globals_exist (length mid.globals) mid.functions ≡ true
  globals_to h =
      all_items (λ f. blocks_use (length mid.globals) f.blocks) mid.functions (λ f fi.
      all_items (λ b. steps_use (length mid.globals) b.steps) f.blocks (λ b bi.
      all_items (λ step. is_below (length mid.globals) (step_global step)) b.steps (λ s si.
      below_from (length mid.globals) (step_global s) (λ x e. h x
      (item_any (λ f. Any (λ b. Any (λ step. step_global step ≡ Some x) b.steps) f.blocks) mid.functions f fi
      (item_any (λ b. Any (λ step. step_global step ≡ Some x) b.steps) f.blocks b bi
      (item_any (λ step. step_global step ≡ Some x) b.steps s si e)))))))

-- ---- calls

takes_of : (o : Option MidFunction) (n : ℕ) → takes o n ≡ true → (f : MidFunction) × (o ≡ Some f) × (n ≡ f.params)
takes_of None n h = absurd (cc)
takes_of (Some f) n h = (f, refl, sym (eqb-true f.params n h))

takes_from : (o : Option MidFunction) (n : ℕ) (f : MidFunction) → o ≡ Some f → n ≡ f.params → takes o n ≡ true
takes_from o n f e h = ap (λ q. takes q n) e ∙ eq-eqb f.params n (sym h)

Taken : List MidFunction → ℕ → List ℕ → Type 0
Taken functions function args = (f : MidFunction) × (slice_get functions function ≡ Some f) × (length args ≡ f.params)

call_from : (functions : List MidFunction) (end : MidEnd) → ((function : ℕ) (args : List ℕ) (result : Option ℕ) → end ≡ Call function args result → (f : MidFunction) × (slice_get functions function ≡ Some f) × (length args ≡ f.params)) → call_fits functions end ≡ true
call_from functions (Jump to) h = refl
call_from functions (Branch test when to) h = refl
call_from functions (Call function args result) h = let f = h function args result refl in takes_from (slice_get functions function) (length args) f.0 f.1 f.2
call_from functions (Return from) h = refl

callee_of : (end : MidEnd) (x : ℕ) → is_it (callee end) x ≡ true → (args : List ℕ) × (result : Option ℕ) × (end ≡ Call x args result)
callee_of (Jump to) x h = absurd (cc)
callee_of (Branch test when to) x h = absurd (cc)
callee_of (Call function args result) x h = (args, result, ap (λ (k : ℕ). Call k args result) (eqb-true function x h))
callee_of (Return from) x h = absurd (cc)

module _ (mid : Mid) where
  pub calls_from : calls_fit mid.functions ≡ true → (function : ℕ) (args : List ℕ) → IsCalled mid function args → (f : MidFunction) × (slice_get mid.functions function ≡ Some f) × (length args ≡ f.params)
  calls_from t function args called =
      let f = any_item (λ f. Any (λ b. (result : Option ℕ) × (b.end ≡ Call function args result)) f.blocks) mid.functions called in
      let b = any_item (λ b. (result : Option ℕ) × (b.end ≡ Call function args result)) f.0.blocks f.2 in
      let tf = item_true (λ f. blocks_call mid.functions f.blocks) mid.functions f.0 t f.1 in
      let tb = item_true (λ b. call_fits mid.functions b.end) f.0.blocks b.0 tf b.1 in
      takes_of (slice_get mid.functions function) (length args) (ap (call_fits mid.functions) (sym b.2.1) ∙ tb)

  pub calls_to : ((function : ℕ) (args : List ℕ) → IsCalled mid function args → (f : MidFunction) × (slice_get mid.functions function ≡ Some f) × (length args ≡ f.params)) → calls_fit mid.functions ≡ true
  calls_to h =
      all_items (λ f. blocks_call mid.functions f.blocks) mid.functions (λ f fi.
      all_items (λ b. call_fits mid.functions b.end) f.blocks (λ b bi.
      call_from mid.functions b.end (λ function args result e. h function args
      (item_any (λ f. Any (λ b. (result : Option ℕ) × (b.end ≡ Call function args result)) f.blocks) mid.functions f fi
      (item_any (λ b. (result : Option ℕ) × (b.end ≡ Call function args result)) f.blocks b bi (result, e))))))

  -- ---- who is called

  called_from : (x : ℕ) → is_called mid.functions x ≡ true → (args : List ℕ) × IsCalled mid x args
  called_from x t =
      let any = (any_decides (λ f. calls f.blocks x) (λ f. calls f.blocks x ≡ true) (λ f. (λ e. e, λ e. e)) mid.functions).0 t in
      let f = any_item (λ f. calls f.blocks x ≡ true) mid.functions any in
      let some = (any_decides (λ b. is_it (callee b.end) x) (λ b. is_it (callee b.end) x ≡ true) (λ b. (λ e. e, λ e. e)) f.0.blocks).0 f.2 in
      let b = any_item (λ b. is_it (callee b.end) x ≡ true) f.0.blocks some in
      let c = callee_of b.0.end x b.2 in (
        c.0,
        item_any (λ f. Any (λ b. (result : Option ℕ) × (b.end ≡ Call x c.0 result)) f.blocks) mid.functions f.0 f.1
            (item_any (λ b. (result : Option ℕ) × (b.end ≡ Call x c.0 result)) f.0.blocks b.0 b.1 (c.1, c.2)),
      )

  called_to : (x : ℕ) (args : List ℕ) → IsCalled mid x args → is_called mid.functions x ≡ true
  called_to x args called =
      let f = any_item (λ f. Any (λ b. (result : Option ℕ) × (b.end ≡ Call x args result)) f.blocks) mid.functions called in
      let b = any_item (λ b. (result : Option ℕ) × (b.end ≡ Call x args result)) f.0.blocks f.2 in
      let it : is_it (callee b.0.end) x ≡ true = ap (λ e. is_it (callee e) x) b.2.1 ∙ eq-eqb x x refl in
      let some : calls f.0.blocks x ≡ true = (any_decides (λ b. is_it (callee b.end) x) (λ b. is_it (callee b.end) x ≡ true) (λ b. (λ e. e, λ e. e)) f.0.blocks).1 (item_any (λ b. is_it (callee b.end) x ≡ true) f.0.blocks b.0 b.1 it) in
      (any_decides (λ f. calls f.blocks x) (λ f. calls f.blocks x ≡ true) (λ f. (λ e. e, λ e. e)) mid.functions).1 (item_any (λ f. calls f.blocks x ≡ true) mid.functions f.0 f.1 some)

  -- ---- the whole

  pub program_from : All ValidFunction mid.functions → names_fit mid ≡ true → HoldsBelow (λ x. may_stay mid.functions x) (length mid.functions) → Valid mid
  program_from each t called =
      let a = and_parts (is_main (slice_get mid.functions 0)) (globals_exist (length mid.globals) mid.functions && (calls_fit mid.functions && (nat_le (sum (map length mid.globals) + mid.chain_pairs) 32768 && nat_le (sum (map (λ f. length (lines f)) mid.functions)) 62914560))) t in
      let b = and_parts (globals_exist (length mid.globals) mid.functions) (calls_fit mid.functions && (nat_le (sum (map length mid.globals) + mid.chain_pairs) 32768 && nat_le (sum (map (λ f. length (lines f)) mid.functions)) 62914560)) a.1 in
      let c = and_parts (calls_fit mid.functions) (nat_le (sum (map length mid.globals) + mid.chain_pairs) 32768 && nat_le (sum (map (λ f. length (lines f)) mid.functions)) 62914560) b.1 in
      let d = and_parts (nat_le (sum (map length mid.globals) + mid.chain_pairs) 32768) (nat_le (sum (map (λ f. length (lines f)) mid.functions)) 62914560) c.1 in
      record {
        functions_valid = each;
        main_fits = main_of (slice_get mid.functions 0) a.0;
        globals_exist = globals_from mid b.0;
        calls_fit = calls_from c.0;
        each_called = λ x some l. elim (or_cases (x == 0) (is_called mid.functions x) (called x l)) [
          | inl z ↦ absurd (omega (arith, eqb-true x 0 z))
          | inr t ↦ called_from x t
        ];
        store_fits = leb-true (sum (map length mid.globals) + mid.chain_pairs) 32768 d.0;
        few_lines = leb-true (sum (map (λ f. length (lines f)) mid.functions)) 62914560 d.1;
      }

  pub names_to : Valid mid → names_fit mid ≡ true
  names_to valid =
      let main = valid.main_fits in
      and_from (is_main (slice_get mid.functions 0)) _ (main_from (slice_get mid.functions 0) main.0 main.1 main.2)
      (and_from (globals_exist (length mid.globals) mid.functions) _ (globals_to mid valid.globals_exist)
      (and_from (calls_fit mid.functions) _ (calls_to valid.calls_fit)
      (and_from (nat_le (sum (map length mid.globals) + mid.chain_pairs) 32768) _ (le-leb (sum (map length mid.globals) + mid.chain_pairs) 32768 valid.store_fits) (le-leb (sum (map (λ f. length (lines f)) mid.functions)) 62914560 valid.few_lines))))

  pub stay_to : Valid mid → HoldsBelow (λ x. may_stay mid.functions x) (length mid.functions)
  stay_to valid zero l = refl
  stay_to valid (suc n) l = let c = valid.each_called (suc n) (omega arith) l in or_right (suc n == 0) (is_called mid.functions (suc n)) (called_to (suc n) c.0 c.1)
