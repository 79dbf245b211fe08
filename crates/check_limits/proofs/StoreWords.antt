-- The pairs of calls and the store of a program, by the functions that are chosen from it.
use Rattle.std.proofs.Common.{◌≡◌, ◌≢◌, ℕ, ◌-◌, ◌^◌, ◌+◌, ◌*◌, ◌<◌, max, min, Bool, true, false, not, ◌&&◌, ◌||◌, ◌==◌, cond, if◌then◌else◌, List, [], ◌∷◌, ◌++◌, map, sum, take, length, get_or, refl, sym, ap, ◌∙◌, arith}
use Rattle.std.specs.List.{filter}
use Rattle.std.proofs.lemmas.List.Elements.{filter-append}
use Rattle.c_syntax.specs.declared.tree.Function.{Function}
use Rattle.c_syntax.specs.declared.tree.TopItem.{TopItem}
use Rattle.c_syntax.specs.Sizes.{greatest}
use Rattle.c_syntax.specs.Costs.{function_weight}
use Rattle.c_syntax.specs.Graph.{is_recursive}
use Rattle.c_meaning.specs.Meaning.{Names, source_names}
use Rattle.check_rules.specs.Limits.{bodies, chain, reaches, reached, global_pairs, store_of, store}
use Rattle.c_calls.specs.Reached.{AreRecursive, AreReached}
use Rattle.check_limits.specs.Calls.{capped, reached_from, counter_pairs, call_pairs_of, call_pairs}
use Rattle.check_limits.specs.Tables.{chosen}
use Rattle.check_limits.proofs.CallSites.{bodies_more}

greatest_append : (f : Function → ℕ) (xs ys : List Function) → greatest (map f (xs ++ ys)) ≡ max (greatest (map f xs)) (greatest (map f ys))
greatest_append f [] ys = omega arith
greatest_append f (x ∷ xs) ys = omega (arith, greatest_append f xs ys)

pub greatest_more : (f : Function → ℕ) (m : ℕ) (r c : List Bool) (d : Bool) (items : List TopItem) (i : ℕ) (item : TopItem) → i < length items → item ≡ get_or items i item →
    greatest (map f (chosen m r c d (take (i + 1) items))) ≡ max (greatest (map f (chosen m r c d (take i items)))) (greatest (map f (chosen m r c d (item ∷ []))))
greatest_more f m r c d items i item lt is =
    ap (λ l. greatest (map f l)) (ap (filter (λ g. (g.name == m || get_or r g.name false) && (if get_or c g.name false then d else not d))) (bodies_more items i item lt is) ∙ filter-append (λ g. (g.name == m || get_or r g.name false) && (if get_or c g.name false then d else not d)) (bodies (take i items)) (bodies (item ∷ [])))
    ∙ greatest_append f (chosen m r c d (take i items)) (chosen m r c d (item ∷ []))

-- ---- what is chosen

one_same : (a b : Bool) (f : Function) (xs ys : List Function) → a ≡ b → xs ≡ ys → cond a (f ∷ xs) xs ≡ cond b (f ∷ ys) ys
one_same true true f xs ys e h = ap (λ l. f ∷ l) h
one_same true false f xs ys e h = absurd cc
one_same false true f xs ys e h = absurd cc
one_same false false f xs ys e h = h

filter_same : (p q : Function → Bool) → ((f : Function) → p f ≡ q f) → (fs : List Function) → filter p fs ≡ filter q fs
filter_same p q h [] = refl
filter_same p q h (f ∷ fs) = one_same (p f) (q f) f (filter p fs) (filter q fs) (h f) (filter_same p q h fs)

pub chosen_is : (items : List TopItem) (m : ℕ) (r c : List Bool) (d : Bool) → AreReached items m r → AreRecursive items c → chosen m r c d items ≡ reached_from m items d
chosen_is items m r c d h g = filter_same (λ f. (f.name == m || get_or r f.name false) && (if get_or c f.name false then d else not d)) (λ f. (f.name == m || reaches items m f.name) && (if is_recursive items f.name then d else not d))
    (λ f. ap (λ a. (f.name == m || a) && (if get_or c f.name false then d else not d)) (h f.name) ∙ ap (λ a. (f.name == m || reaches items m f.name) && (if a then d else not d)) (g f.name)) (bodies items)

-- ---- the two forms of the pairs of calls

abbrev most_deep : List Function → ℕ
most_deep fs = greatest (map (λ f. function_weight f + 2) fs)

flat_counter : (fs : List Function) → capped (most_deep fs) ≡ 0 → counter_pairs fs ≡ 0
flat_counter [] e = refl
flat_counter (f ∷ fs) e = absurd (omega (arith, e))

deep_counter : (fs : List Function) → capped (most_deep fs) ≢ 0 → counter_pairs fs ≡ 1
deep_counter [] ne = absurd (ne refl)
deep_counter (f ∷ fs) ne = refl

flat_pairs : (m : ℕ) (items : List TopItem) (fs : List Function) → capped (most_deep fs) ≡ 0 → call_pairs_of m items fs ≡ chain items m
flat_pairs m items [] e = refl
flat_pairs m items (f ∷ fs) e = absurd (omega (arith, e))

deep_pairs : (m : ℕ) (items : List TopItem) (fs : List Function) → capped (most_deep fs) ≢ 0 →
    call_pairs_of m items fs ≡ 257 * most_deep fs + sum (map function_weight (reached_from m items false))
deep_pairs m items [] ne = absurd (ne refl)
deep_pairs m items (f ∷ fs) ne = refl

-- ---- the pairs of calls

module _ (items : List TopItem) (m : ℕ) (r c : List Bool) (h : AreReached items m r) (g : AreRecursive items c) (deep : ℕ) (d : deep ≡ capped (most_deep (chosen m r c true items))) where
  deep_is : deep ≡ capped (most_deep (reached_from m items true))
  deep_is = d ∙ ap (λ fs. capped (most_deep fs)) (chosen_is items m r c true h g)

  pub counter_flat : deep ≡ 0 → 0 ≡ counter_pairs (reached_from m items true)
  counter_flat z = sym (flat_counter (reached_from m items true) (sym deep_is ∙ z))

  pub counter_deep : deep ≢ 0 → 1 ≡ counter_pairs (reached_from m items true)
  counter_deep ne = sym (deep_counter (reached_from m items true) (λ z. ne (deep_is ∙ z)))

  pub pairs_flat : (pairs : ℕ) → deep ≡ 0 → pairs ≡ capped (chain items m) → pairs ≡ capped (call_pairs m items)
  pairs_flat pairs z p = p ∙ ap capped (sym (flat_pairs m items (reached_from m items true) (sym deep_is ∙ z)))

  pub pairs_deep : (flat calls pairs : ℕ) → deep ≢ 0 → flat ≡ capped (sum (map function_weight (chosen m r c false items))) →
      calls ≡ min (deep * 257) (2 ^ 64 - 1) → pairs ≡ min (calls + flat) (2 ^ 64 - 1) → pairs ≡ capped (call_pairs m items)
  pairs_deep flat calls pairs ne f k p =
      let q = f ∙ ap (λ fs. capped (sum (map function_weight fs))) (chosen_is items m r c false h g) in
      p ∙ joined deep flat calls (most_deep (reached_from m items true)) (sum (map function_weight (reached_from m items false))) deep_is q k
      ∙ ap capped (sym (deep_pairs m items (reached_from m items true) (λ z. ne (deep_is ∙ z))))
    where
      joined : (deep flat calls x z : ℕ) → deep ≡ capped x → flat ≡ capped z → calls ≡ min (deep * 257) (2 ^ 64 - 1) → min (calls + flat) (2 ^ 64 - 1) ≡ capped (257 * x + z)
      joined deep flat calls x z i k a = omega (arith, i, k, a)

-- ---- the words of the store

store_is : (names : Names) (items : List TopItem) (fs : List Function) → store_of names items fs ≡ global_pairs items + counter_pairs fs + call_pairs_of names.main items fs
store_is names items [] = omega arith
store_is names items (f ∷ fs) = omega arith

pub words_are : (items : List TopItem) (globals counter pairs one result : ℕ) → globals ≡ capped (global_pairs items) → counter ≡ counter_pairs (reached_from 0 items true) → pairs ≡ capped (call_pairs 0 items) →
    one ≡ min (globals + counter) (2 ^ 64 - 1) → result ≡ min (one + pairs) (2 ^ 64 - 1) → result ≡ capped (store source_names (record { items = items }))
words_are items globals counter pairs one result g c p a e =
    e ∙ joined globals counter pairs one (global_pairs items) (counter_pairs (reached_from 0 items true)) (call_pairs 0 items) g c p a ∙ ap capped (sym (store_is source_names items (reached source_names items true)))
  where
    joined : (globals counter pairs one x y z : ℕ) → globals ≡ capped x → counter ≡ y → pairs ≡ capped z → one ≡ min (globals + counter) (2 ^ 64 - 1) → min (one + pairs) (2 ^ 64 - 1) ≡ capped (x + y + z)
    joined globals counter pairs one x y z i j k a = omega (arith, i, j, k, a)
