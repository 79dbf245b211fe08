-- The calls of a lowered program have room.
use Rattle.std.proofs.Common.{◌≡◌, ℕ, zero, suc, ◌+◌, ◌-◌, ◌*◌, ◌≤◌, Bool, true, false, List, [], ◌∷◌, map, filter, find, sum, length, Option, Some, None, refl, sym, ap, ◌∙◌, subst, arith, option_map, if◌then◌else◌, ◌==◌, cond, Contains}
use Rattle.std.specs.Prelude.{slice_get}
use Rattle.std.proofs.Math.Nat.{mul-le-mul_left}
use Rattle.std.proofs.lemmas.Option.{slice_get-map}
use Rattle.c_syntax.specs.declared.tree.Function.{Function}
use Rattle.c_syntax.specs.declared.tree.TopItem.{TopItem}
use Rattle.c_syntax.specs.declared.tree.Program.{Program}
use Rattle.c_syntax.specs.Sizes.{greatest}
use Rattle.c_syntax.specs.Costs.{function_weight}
use Rattle.c_syntax.specs.Graph.{functions, has_body, function_named, calls_of, callees, is_recursive}
use Rattle.c_meaning.specs.Meaning.{Names}
use Rattle.mid_blocks.specs.declared.code.MidEnd.TheVariants.{Call}
use Rattle.mid_blocks.specs.declared.code.MidFunction.{MidFunction}
use Rattle.mid_blocks.specs.declared.code.Mid.{Mid}
use Rattle.mid_blocks.specs.Lines.{End, line_at}
use Rattle.mid_blocks.specs.Bounds.{pairs_of}
use Rattle.lower_rules.specs.Programs.{in_number_order, low_function, low_program}
use Rattle.lower_rules.specs.Chains.{recursive_one, counts, deeper, Chain}
use Rattle.lower_law.proofs.Plans.{first_is, function_at, number_main, name_is}
use Rattle.lower_law.proofs.Final.{is_shallow}
use Rattle.lower_calls_law.proofs.Callees.{are_callees}
use Rattle.lower_rules.specs.Room.{within, weight_if, chain_in, room_of, room}
use Rattle.lower_calls_law.specs.LoweringChainsLaws.{OneEach, ShallowInRoom}
use Rattle.lower_calls_law.proofs.Shares.{bodies, passes, share, share_step, share_plain, share_own, share_most, heaviest, heavy_step, heavy_own, flat_step, flat_plain, weigh_filter}

-- ---- the greatest of a list

greatest_in : (f : ℕ → ℕ) (xs : List ℕ) (x : ℕ) → Contains xs x → f x ≤ greatest (map f xs)
greatest_in f [] x (k, lt, e) = absurd (omega (arith, lt))
greatest_in f (y ∷ xs) x (zero, lt, e) = omega (arith, ap f e)
greatest_in f (y ∷ xs) x (suc k, lt, e) = omega (arith, greatest_in f xs x (k, omega (arith, lt), e))

later : (y : ℕ) (xs : List ℕ) (x : ℕ) → Contains xs x → Contains (y ∷ xs) x
later y xs x (k, lt, e) = (suc k, omega (arith, lt), e)

greatest_bound : (f : ℕ → ℕ) (xs : List ℕ) (m : ℕ) → ((x : ℕ) → Contains xs x → f x ≤ m) → greatest (map f xs) ≤ m
greatest_bound f [] m h = omega arith
greatest_bound f (y ∷ xs) m h = omega (arith, h y (0, omega arith, refl), greatest_bound f xs m (λ x c. h x (later y xs x c)))

greatest_le : (f g : ℕ → ℕ) (xs : List ℕ) → ((x : ℕ) → Contains xs x → f x ≤ g x) → greatest (map f xs) ≤ greatest (map g xs)
greatest_le f g xs h = greatest_bound f xs (greatest (map g xs)) (λ x c. omega (arith, h x c, greatest_in g xs x c))

few_passed : (p : Function → Bool) (xs : List Function) → length (filter p xs) ≤ length xs
few_passed p [] = omega arith
few_passed p (x ∷ xs) = by (p x) (few_passed p xs)
  where
    rest : List Function
    rest = filter p xs

    by : (b : Bool) → length rest ≤ length xs → length (cond b (x ∷ rest) rest) ≤ length (x ∷ xs)
    by true ih = omega (arith, ih)
    by false ih = omega (arith, ih)

product_more : (k w : ℕ) → (k + 1) * w ≡ k * w + w
product_more k w = omega arith

module _ (names : Names) (program : Program) (chain_pairs : ℕ) where
  abbrev items : List TopItem
  items = program.items

  abbrev Flat : ℕ → Type 0
  Flat j = within items j true ≡ []

  first_named : (j : ℕ) (f : Function) → function_named j items ≡ Some f → find (λ h. h.name == j) (bodies items) ≡ Some f
  first_named j f h = first_is names items j f h

  named_so : (j : ℕ) (f : Function) → function_named j items ≡ Some f → f.name ≡ j
  named_so j f h = name_is names program chain_pairs j f h

  plain_flat : (j : ℕ) (f : Function) → function_named j items ≡ Some f → Flat j → is_recursive items j ≡ false
  plain_flat j f h flat = flat_plain items j f (named_so j f h) (first_named j f h) flat

  few_bodies : length (bodies items) ≤ length (functions items)
  few_bodies = few_passed (λ f. has_body f.body) (functions items)

  no_chain : (n j : ℕ) → function_named j items ≡ None → chain_in items (suc n) j ≡ 0
  no_chain n j h = omega (arith, ap weight_if h, ap (λ o. greatest (map (chain_in items n) (calls_of o))) h)

  weight_is : (j : ℕ) (f : Function) → function_named j items ≡ Some f → weight_if (function_named j items) ≡ function_weight f
  weight_is j f h = ap weight_if h

  -- ---- where no function that is reached reaches itself

  steady : (n g : ℕ) → Flat g → share items (λ f. 1) g ≤ n → chain_in items (suc n) g ≤ chain_in items n g
  steady zero g flat few = by (function_named g items) refl
    where
      by : (o : Option Function) → function_named g items ≡ o → chain_in items (suc zero) g ≤ chain_in items zero g
      by None h = omega (arith, no_chain zero g h)
      by (Some f) h = absurd (omega (arith, few, share_own items (λ f. 1) g f (plain_flat g f h flat) (first_named g f h)))
  steady (suc n) g flat few = by (function_named g items) refl (λ h c le. steady n h (flat_step items g h c flat) le)
    where
      by : (o : Option Function) → function_named g items ≡ o → ((h : ℕ) → Contains (callees items g) h → share items (λ f. 1) h ≤ n → chain_in items (suc n) h ≤ chain_in items n h) → chain_in items (suc (suc n)) g ≤ chain_in items (suc n) g
      by None h ih = omega (arith, no_chain (suc n) g h)
      by (Some f) h ih =
          let less = greatest_le (chain_in items (suc n)) (chain_in items n) (callees items g) (λ x c. ih x c (omega (arith, few, share_plain items (λ f. 1) g x f (plain_flat g f h flat) (first_named g f h) c))) in
          omega (arith, less)

  under : (n g : ℕ) → Flat g → chain_in items n g ≤ share items function_weight g
  under zero g flat = omega arith
  under (suc n) g flat = by (function_named g items) refl (λ h c. under n h (flat_step items g h c flat))
    where
      by : (o : Option Function) → function_named g items ≡ o → ((h : ℕ) → Contains (callees items g) h → chain_in items n h ≤ share items function_weight h) → chain_in items (suc n) g ≤ share items function_weight g
      by None h ih = omega (arith, no_chain n g h)
      by (Some f) h ih =
          let plain = plain_flat g f h flat in
          let own = share_own items function_weight g f plain (first_named g f h) in
          let most = greatest_bound (chain_in items n) (callees items g) (share items function_weight g - function_weight f) (λ x c. omega (arith, ih x c, share_plain items function_weight g x f plain (first_named g f h) c)) in
          omega (arith, own, most, weight_is g f h)

  flat_calls : (n j g : ℕ) (f : Function) → length (functions items) ≤ n → Flat j → function_named j items ≡ Some f → Contains (callees items j) g → function_weight f + chain_in items n g ≤ chain_in items n j
  flat_calls zero j g f many flat h c = absurd (omega (arith, many, share_own items (λ f. 1) j f (plain_flat j f h flat) (first_named j f h), share_most items j, few_bodies))
  flat_calls (suc n) j g f many flat h c =
      let one = share_plain items (λ f. 1) j g f (plain_flat j f h flat) (first_named j f h) c in
      let most = share_most items j in
      let few_g : share items (λ f. 1) g ≤ n = omega (arith, one, most, few_bodies, many) in
      omega (arith, weight_is j f h, greatest_in (chain_in items n) (callees items j) g c, steady n g (flat_step items j g c flat) few_g)

  flat_own : (n j : ℕ) (f : Function) → length (functions items) ≤ n → Flat j → function_named j items ≡ Some f → function_weight f ≤ chain_in items n j
  flat_own zero j f many flat h = absurd (omega (arith, many, share_own items (λ f. 1) j f (plain_flat j f h flat) (first_named j f h), share_most items j, few_bodies))
  flat_own (suc n) j f many flat h = omega (arith, weight_is j f h)

  -- ---- what is allowed for a function with all that it calls

  abbrev allowed : ℕ → List Function → ℕ → ℕ
  allowed depth [] j = chain_in items (length (functions items)) j
  allowed depth (f ∷ fs) j = (257 - depth) * heaviest items j + share items function_weight j + (if is_recursive items j then heaviest items j else 0)

  abbrev spare : Bool → ℕ
  spare r = if r then 2 else 0

  own_allowed : (depth j : ℕ) (f : Function) (a : List Function) → within items j true ≡ a → function_named j items ≡ Some f → function_weight f + spare (is_recursive items j) ≤ allowed depth a j
  own_allowed depth j f [] e h =
      let none : spare (is_recursive items j) ≡ 0 = ap spare (plain_flat j f h e) in
      omega (arith, none, flat_own (length (functions items)) j f (omega arith) e h)
  own_allowed depth j f (x ∷ xs) e h = by (is_recursive items j) refl
    where
      by : (r : Bool) → is_recursive items j ≡ r → function_weight f + spare (is_recursive items j) ≤ allowed depth (x ∷ xs) j
      by true is =
          let two : spare (is_recursive items j) ≡ 2 = ap spare is in
          let w : (let n : ℕ = if is_recursive items j then heaviest items j else 0 in n) ≡ heaviest items j = ap (λ (b : Bool). let n : ℕ = if b then heaviest items j else 0 in n) is in
          omega (arith, two, w, heavy_own items j f (named_so j f h) is (first_named j f h))
      by false is =
          let none : spare (is_recursive items j) ≡ 0 = ap spare is in
          omega (arith, none, share_own items function_weight j f is (first_named j f h))

  -- one call more is allowed
  module _ (depth j g : ℕ) (f : Function) (few : depth ≤ 256) (f_is : function_named j items ≡ Some f) (c : Contains (callees items j) g) where
    abbrev wj : ℕ
    wj = heaviest items j

    abbrev wg : ℕ
    wg = heaviest items g

    abbrev sj : ℕ
    sj = share items function_weight j

    abbrev sg : ℕ
    sg = share items function_weight g

    abbrev if_deep : Bool → ℕ → ℕ
    if_deep r w = if r then w else 0

    -- what is left for the calls that are deeper
    deep_part : (r : Bool) → is_recursive items g ≡ r → (257 - deeper (is_recursive items g) depth) * wg + if_deep (is_recursive items g) wg ≤ (257 - depth) * wj
    deep_part true is =
        let k : ℕ = 256 - depth in
        let up : wg ≤ wj = heavy_step items j g c in
        let more : k * wg ≤ k * wj = mul-le-mul_left k up in
        let d : 257 - deeper (is_recursive items g) depth ≡ k = ap (λ r. 257 - deeper r depth) is ∙ omega (arith, few) in
        let e : 257 - depth ≡ k + 1 = omega (arith, few) in
        let p : (257 - deeper (is_recursive items g) depth) * wg ≡ k * wg = ap (λ n. n * wg) d in
        let q : (257 - depth) * wj ≡ k * wj + wj = ap (λ n. n * wj) e ∙ product_more k wj in
        let t : if_deep (is_recursive items g) wg ≡ wg = ap (λ r. if_deep r wg) is in
        omega (arith, up, more, p, q, t)
    deep_part false is =
        let up : wg ≤ wj = heavy_step items j g c in
        let more : (257 - depth) * wg ≤ (257 - depth) * wj = mul-le-mul_left (257 - depth) up in
        let p : (257 - deeper (is_recursive items g) depth) * wg ≡ (257 - depth) * wg = ap (λ r. (257 - deeper r depth) * wg) is in
        let t : if_deep (is_recursive items g) wg ≡ 0 = ap (λ r. if_deep r wg) is in
        omega (arith, more, p, t)

    -- the function itself, and what it calls that doesn't reach itself
    own_part : (r : Bool) → is_recursive items j ≡ r → function_weight f + spare (is_recursive items j) + sg ≤ sj + if_deep (is_recursive items j) wj
    own_part true is =
        let two : spare (is_recursive items j) ≡ 2 = ap spare is in
        let t : if_deep (is_recursive items j) wj ≡ wj = ap (λ r. if_deep r wj) is in
        omega (arith, two, t, heavy_own items j f (named_so j f f_is) is (first_named j f f_is), share_step items function_weight j g c)
    own_part false is =
        let none : spare (is_recursive items j) ≡ 0 = ap spare is in
        let t : if_deep (is_recursive items j) wj ≡ 0 = ap (λ r. if_deep r wj) is in
        omega (arith, none, t, share_plain items function_weight j g f is (first_named j f f_is) c)

    call_allowed : (a b : List Function) → within items j true ≡ a → within items g true ≡ b → function_weight f + spare (is_recursive items j) + allowed (deeper (is_recursive items g) depth) b g ≤ allowed depth a j
    call_allowed [] [] ea eb =
        let none : spare (is_recursive items j) ≡ 0 = ap spare (plain_flat j f f_is ea) in
        omega (arith, none, flat_calls (length (functions items)) j g f (omega arith) ea f_is c)
    call_allowed [] (y ∷ ys) ea eb = let x : y ∷ ys ≡ [] = sym eb ∙ flat_step items j g c ea in absurd (cc)
    call_allowed (x ∷ xs) [] ea eb =
        let o = own_part (is_recursive items j) refl in
        omega (arith, o, under (length (functions items)) g eb)
    call_allowed (x ∷ xs) (y ∷ ys) ea eb =
        let o = own_part (is_recursive items j) refl in
        let d = deep_part (is_recursive items g) refl in
        omega (arith, o, d)

  -- ---- by the numbers of functions

  abbrev order : List Function
  order = in_number_order names.main items

  abbrev mid : Mid
  mid = low_program names program chain_pairs

  abbrev allowed_at : ℕ → Option Function → ℕ
  allowed_at depth None = 0
  allowed_at depth (Some f) = allowed depth (within items f.name true) f.name

  abbrev chain : ℕ → ℕ → ℕ
  chain depth number = allowed_at depth (slice_get order number)

  code_is : (number : ℕ) (o : Option Function) → slice_get order number ≡ o → slice_get mid.functions number ≡ option_map (low_function names items) o
  code_is number o e = slice_get-map (low_function names items) order number ∙ ap (option_map (low_function names items)) e

  module _ (one_each : OneEach names items) where
    own : (depth number : ℕ) → pairs_of (slice_get mid.functions number) ≤ chain depth number
    own depth number = by (slice_get order number) refl
      where
        by : (o : Option Function) → slice_get order number ≡ o → pairs_of (slice_get mid.functions number) ≤ chain depth number
        by None e = omega (arith, ap pairs_of (code_is number None e))
        by (Some f) e = omega (arith, ap pairs_of (code_is number (Some f) e), ap (allowed_at depth) e, own_allowed depth f.name f (within items f.name true) refl (one_each number f e))

    calls : (depth number : ℕ) (code : MidFunction) (block step callee : ℕ) (args : List ℕ) (result : Option ℕ) → depth ≤ 256 → slice_get mid.functions number ≡ Some code → line_at code block step ≡ Some (End (Call callee args result)) → pairs_of (slice_get mid.functions number) + chain (deeper (counts names items callee) depth) callee ≤ chain depth number
    calls depth number code block step callee args result few at line = by (slice_get order number) refl
      where
        by : (o : Option Function) → slice_get order number ≡ o → pairs_of (slice_get mid.functions number) + chain (deeper (counts names items callee) depth) callee ≤ chain depth number
        by None e = let x : None ≡ Some code = sym (code_is number None e) ∙ at in absurd (cc)
        by (Some f) e =
            let both : Some (low_function names items f) ≡ Some code = sym (code_is number (Some f) e) ∙ at in
            let same : low_function names items f ≡ code = cc in
            let f_is : function_named f.name items ≡ Some f = one_each number f e in
            let x = are_callees names items f block step callee args result (ap (λ (y : MidFunction). line_at y block step) same ∙ line) in
            let g : Function = x.callee in
            let g_name : g.name ≡ x.name = named_so x.name g x.is in
            let g_at : slice_get order callee ≡ Some g = ap (slice_get order) x.number_is ∙ function_at names items x.name g x.is in
            let c : Contains (callees items f.name) g.name = subst (λ n. Contains (callees items f.name) n) (sym g_name) (subst (λ o. Contains (calls_of o) x.name) (sym f_is) x.is_called) in
            let r : counts names items callee ≡ is_recursive items g.name = ap (recursive_one items) g_at in
            let there : chain (deeper (counts names items callee) depth) callee ≡ allowed (deeper (is_recursive items g.name) depth) (within items g.name true) g.name = ap (λ o. allowed_at (deeper (counts names items callee) depth) o) g_at ∙ ap (λ b. allowed (deeper b depth) (within items g.name true) g.name) r in
            omega (arith, ap pairs_of (code_is number (Some f) e), ap (allowed_at depth) e, there, call_allowed depth f.name g.name f few f_is c (within items f.name true) (within items g.name true) refl refl)

    chained : Chain mid (counts names items) chain
    chained = record { own = own; calls = calls }

  -- `main` is allowed what is asked for
  begins : (a : List Function) (j : ℕ) → within items j true ≡ a → allowed (deeper (is_recursive items j) 0) a j ≤ room_of items j a
  begins [] j e = omega arith
  begins (x ∷ xs) j e = by (is_recursive items j) refl
    where
      heavy : greatest (map (λ f. function_weight f + 2) (x ∷ xs)) ≡ heaviest items j
      heavy = ap (λ fs. greatest (map (λ (f : Function). function_weight f + 2) fs)) (sym e)

      others : sum (map function_weight (within items j false)) ≡ share items function_weight j
      others = weigh_filter (passes items j false) function_weight (bodies items)

      product : 257 * greatest (map (λ f. function_weight f + 2) (x ∷ xs)) ≡ 257 * heaviest items j
      product = ap (λ n. 257 * n) heavy

      by : (r : Bool) → is_recursive items j ≡ r → allowed (deeper (is_recursive items j) 0) (x ∷ xs) j ≤ room_of items j (x ∷ xs)
      by true is =
          let d : (257 - deeper (is_recursive items j) 0) * heaviest items j ≡ 256 * heaviest items j = ap (λ r. (257 - deeper r 0) * heaviest items j) is in
          let t : (let n : ℕ = if is_recursive items j then heaviest items j else 0 in n) ≡ heaviest items j = ap (λ (b : Bool). let n : ℕ = if b then heaviest items j else 0 in n) is in
          omega (arith, d, t, product, others)
      by false is =
          let d : (257 - deeper (is_recursive items j) 0) * heaviest items j ≡ 257 * heaviest items j = ap (λ r. (257 - deeper r 0) * heaviest items j) is in
          let t : (let n : ℕ = if is_recursive items j then heaviest items j else 0 in n) ≡ 0 = ap (λ (b : Bool). let n : ℕ = if b then heaviest items j else 0 in n) is in
          omega (arith, d, t, product, others)

pub in_room : ShallowInRoom
in_room names program chain_pairs marks ok one_each closed enough =
    let items : List TopItem = program.items in
    let main : Function = ok.main in
    let name : main.name ≡ names.main = name_is names program chain_pairs names.main main ok.main_is in
    let first : slice_get (in_number_order names.main items) 0 ≡ Some main = ap (slice_get (in_number_order names.main items)) (sym (number_main names items main ok.main_is)) ∙ function_at names items names.main main ok.main_is in
    let r : counts names items 0 ≡ is_recursive items main.name = ap (recursive_one items) first in
    let there : chain names program chain_pairs (deeper (counts names items 0) 0) 0 ≡ allowed names program chain_pairs (deeper (is_recursive items main.name) 0) (within items main.name true) main.name =
    ap (λ o. allowed_at names program chain_pairs (deeper (counts names items 0) 0) o) first ∙ ap (λ b. allowed names program chain_pairs (deeper b 0) (within items main.name true) main.name) r in
    let most = begins names program chain_pairs (within items main.name true) main.name refl in
    let same : room items main.name ≡ room items names.main = ap (room items) name in
    is_shallow names program chain_pairs ok marks closed (chain names program chain_pairs) (chained names program chain_pairs one_each) (omega (arith, there, most, same, enough))
