-- What the functions that one reaches weigh together, and where it calls another.
use Rattle.std.proofs.Common.{◌≡◌, ℕ, ◌+◌, ◌≤◌, Bool, true, false, not, cond, ◌&&◌, ◌||◌, List, [], ◌∷◌, map, filter, find, sum, length, Some, refl, sym, ap, ◌∙◌, subst, arith, if◌then◌else◌, ◌==◌, Contains}
use Rattle.std.proofs.lemmas.Bool.{false≢true, eqb-true, eq-eqb}
use Rattle.std.proofs.lemmas.List.Sums.{sum_by-cons}
use Rattle.c_syntax.specs.declared.tree.Function.{Function}
use Rattle.c_syntax.specs.declared.tree.TopItem.{TopItem}
use Rattle.c_syntax.specs.Sizes.{greatest}
use Rattle.c_syntax.specs.Costs.{function_weight}
use Rattle.c_syntax.specs.Graph.{functions, callees, is_recursive, direct, through}
use Rattle.c_meaning.proofs.Recursive.{recursive_is_chain}
use Rattle.c_syntax.specs.Graph.{with_bodies}
use Rattle.lower_rules.specs.Room.{reaches}
use Rattle.lower_calls_law.proofs.Leads.{chain_of, leads_of}

by_test : {A : Type 0} (a : Bool) → (a ≡ true → A) → (a ≡ false → A) → A
by_test true f g = f refl
by_test false f g = g refl

or_left : (a b : Bool) → a ≡ true → (a || b) ≡ true
or_left true b h = refl
or_left false b h = absurd (false≢true h)

or_right : (a b : Bool) → b ≡ true → (a || b) ≡ true
or_right true b h = refl
or_right false b h = h

clash : {b : Bool} → b ≡ true → b ≡ false → ⊥
clash h g = false≢true (sym g ∙ h)

-- ---- lists

-- the weights of those that pass a test
abbrev pub weigh : (Function → Bool) → (Function → ℕ) → List Function → ℕ
weigh p v [] = 0
weigh p v (x ∷ xs) = (if p x then v x else 0) + weigh p v xs

pub weigh_filter : (p : Function → Bool) (v : Function → ℕ) (xs : List Function) → sum (map v (filter p xs)) ≡ weigh p v xs
weigh_filter p v [] = refl
weigh_filter p v (x ∷ xs) = by (p x) (weigh_filter p v xs)
  where
    rest : List Function
    rest = filter p xs

    by : (b : Bool) → sum (map v rest) ≡ weigh p v xs → sum (map v (cond b (x ∷ rest) rest)) ≡ (if b then v x else 0) + weigh p v xs
    by true ih = omega (arith, ih, sum_by-cons (λ n. n) (v x) (map v rest))
    by false ih = omega (arith, ih)

weigh_more : (p q : Function → Bool) (v : Function → ℕ) (xs : List Function) → ((f : Function) → p f ≡ true → q f ≡ true) → weigh p v xs ≤ weigh q v xs
weigh_more p q v [] h = omega arith
weigh_more p q v (x ∷ xs) h = by (p x) refl (q x) refl (weigh_more p q v xs h)
  where
    by : (a : Bool) → p x ≡ a → (b : Bool) → q x ≡ b → weigh p v xs ≤ weigh q v xs → weigh p v (x ∷ xs) ≤ weigh q v (x ∷ xs)
    by false pa b qb ih = omega (arith, ih, ap (λ (c : Bool). let n : ℕ = if c then v x else 0 in n) pa)
    by true pa true qb ih = omega (arith, ih, ap (λ (c : Bool). let n : ℕ = if c then v x else 0 in n) pa, ap (λ (c : Bool). let n : ℕ = if c then v x else 0 in n) qb)
    by true pa false qb ih = absurd (clash (h x pa) qb)

weigh_most : (p : Function → Bool) (xs : List Function) → weigh p (λ f. 1) xs ≤ length xs
weigh_most p [] = omega arith
weigh_most p (x ∷ xs) = by (p x) (weigh_most p xs)
  where
    by : (b : Bool) → weigh p (λ f. 1) xs ≤ length xs → (if b then 1 else 0) + weigh p (λ f. 1) xs ≤ length (x ∷ xs)
    by true ih = omega (arith, ih)
    by false ih = omega (arith, ih)

-- the first of a name, and what the others weigh
weigh_both : (p q : Function → Bool) (j : ℕ) (v : Function → ℕ) (xs : List Function) (f : Function) → ((g : Function) → p g ≡ true → q g ≡ true) → ((g : Function) → (g.name == j) ≡ true → p g ≡ true → ⊥) → ((g : Function) → (g.name == j) ≡ true → q g ≡ true) → find (λ g. g.name == j) xs ≡ Some f → v f + weigh p v xs ≤ weigh q v xs
weigh_both p q j v [] f more apart own h = absurd (cc)
weigh_both p q j v (x ∷ xs) f more apart own h = by (x.name == j) refl h (weigh_both p q j v xs f more apart own)
  where
    one : (Function → Bool) → ℕ
    one t = if t x then v x else 0

    at : (t : Function → Bool) (b : Bool) → t x ≡ b → (let n : ℕ = if t x then v x else 0 in n) ≡ (let n : ℕ = if b then v x else 0 in n)
    at t b e = ap (λ (c : Bool). let n : ℕ = if c then v x else 0 in n) e

    by : (b : Bool) → (x.name == j) ≡ b → cond b (Some x) (find (λ g. g.name == j) xs) ≡ Some f → (find (λ g. g.name == j) xs ≡ Some f → v f + weigh p v xs ≤ weigh q v xs) → v f + weigh p v (x ∷ xs) ≤ weigh q v (x ∷ xs)
    by true e h' ih =
        let same : x ≡ f = cc in
        let px : p x ≡ false = by_test (p x) (λ t. absurd (apart x e t)) (λ n. n) in
        omega (arith, at p false px, at q true (own x e), weigh_more p q v xs more, ap v same)
    by false e h' ih = by_test (p x)
        (λ t. omega (arith, ih h', at p true t, at q true (more x t)))
        (λ n. omega (arith, ih h', at p false n))

greatest_more : (p q : Function → Bool) (w : Function → ℕ) (xs : List Function) → ((f : Function) → p f ≡ true → q f ≡ true) → greatest (map w (filter p xs)) ≤ greatest (map w (filter q xs))
greatest_more p q w [] h = omega arith
greatest_more p q w (x ∷ xs) h = by (p x) refl (q x) refl (greatest_more p q w xs h)
  where
    ps : List Function
    ps = filter p xs

    qs : List Function
    qs = filter q xs

    by : (a : Bool) → p x ≡ a → (b : Bool) → q x ≡ b → greatest (map w ps) ≤ greatest (map w qs) → greatest (map w (cond a (x ∷ ps) ps)) ≤ greatest (map w (cond b (x ∷ qs) qs))
    by false pa false qb ih = ih
    by false pa true qb ih = omega (arith, ih)
    by true pa true qb ih = omega (arith, ih)
    by true pa false qb ih = absurd (clash (h x pa) qb)

greatest_one : (p : Function → Bool) (j : ℕ) (w : Function → ℕ) (xs : List Function) (f : Function) → p f ≡ true → find (λ g. g.name == j) xs ≡ Some f → w f ≤ greatest (map w (filter p xs))
greatest_one p j w [] f t h = absurd (cc)
greatest_one p j w (x ∷ xs) f t h = by (x.name == j) refl h (greatest_one p j w xs f t)
  where
    ps : List Function
    ps = filter p xs

    later : (b : Bool) → w f ≤ greatest (map w ps) → w f ≤ greatest (map w (cond b (x ∷ ps) ps))
    later true le = omega (arith, le)
    later false le = le

    first : (b : Bool) → b ≡ true → w x ≤ greatest (map w (cond b (x ∷ ps) ps))
    first true e = omega arith
    first false e = absurd (false≢true e)

    by : (b : Bool) → (x.name == j) ≡ b → cond b (Some x) (find (λ g. g.name == j) xs) ≡ Some f → (find (λ g. g.name == j) xs ≡ Some f → w f ≤ greatest (map w ps)) → w f ≤ greatest (map w (cond (p x) (x ∷ ps) ps))
    by true e h' ih = let same : x ≡ f = cc in omega (arith, first (p x) (ap p same ∙ t), ap w same)
    by false e h' ih = later (p x) (ih h')

filter_none : (p q : Function → Bool) (xs : List Function) → ((f : Function) → p f ≡ true → q f ≡ true) → filter q xs ≡ [] → filter p xs ≡ []
filter_none p q [] h e = refl
filter_none p q (x ∷ xs) h e = by (p x) refl (q x) refl e (filter_none p q xs h)
  where
    ps : List Function
    ps = filter p xs

    qs : List Function
    qs = filter q xs

    by : (a : Bool) → p x ≡ a → (b : Bool) → q x ≡ b → cond b (x ∷ qs) qs ≡ [] → (qs ≡ [] → ps ≡ []) → cond a (x ∷ ps) ps ≡ []
    by false pa false qb e' ih = ih e'
    by false pa true qb e' ih = absurd (cc)
    by true pa true qb e' ih = absurd (cc)
    by true pa false qb e' ih = absurd (clash (h x pa) qb)

filter_one : (p : Function → Bool) (j : ℕ) (xs : List Function) (f : Function) → p f ≡ true → find (λ g. g.name == j) xs ≡ Some f → filter p xs ≡ [] → ⊥
filter_one p j [] f t h e = cc
filter_one p j (x ∷ xs) f t h e = by (x.name == j) refl (p x) refl h e (filter_one p j xs f t)
  where
    ps : List Function
    ps = filter p xs

    by : (b : Bool) → (x.name == j) ≡ b → (a : Bool) → p x ≡ a → cond b (Some x) (find (λ g. g.name == j) xs) ≡ Some f → cond a (x ∷ ps) ps ≡ [] → (find (λ g. g.name == j) xs ≡ Some f → ps ≡ [] → ⊥) → ⊥
    by b eb true pa h' e' ih = cc
    by true eb false pa h' e' ih = let same : x ≡ f = cc in clash (ap p same ∙ t) pa
    by false eb false pa h' e' ih = ih h' e'

-- ---- what one function reaches

module _ (items : List TopItem) where
  abbrev pub bodies : List Function
  bodies = with_bodies items

  abbrev near : ℕ → ℕ → Bool
  near j h = (h == j) || reaches items j h

  abbrev pub passes : ℕ → Bool → Function → Bool
  passes j deep f = (f.name == j || reaches items j f.name) && (if is_recursive items f.name then deep else not deep)

  near_step : (j g h : ℕ) → Contains (callees items j) g → near g h ≡ true → near j h ≡ true
  near_step j g h c t = by_test (h == g)
      (λ e. let same : h ≡ g = eqb-true h g e in or_right (h == j) (reaches items j h) (leads_of items j h (direct (subst (λ z. Contains (callees items j) z) (sym same) c))))
      (λ n. or_right (h == j) (reaches items j h) (leads_of items j h (through g c (chain_of items (length (functions items)) g h (rest (h == g) n t)))))
    where
      rest : (b : Bool) → b ≡ false → (b || reaches items g h) ≡ true → reaches items g h ≡ true
      rest true e t' = absurd (false≢true (sym e))
      rest false e t' = t'

  no_return : (j g : ℕ) → is_recursive items j ≡ false → Contains (callees items j) g → near g j ≡ true → ⊥
  no_return j g plain c t = clash ((recursive_is_chain items j).1 (by_test (j == g)
      (λ e. let same : j ≡ g = eqb-true j g e in direct (subst (λ z. Contains (callees items j) z) (sym same) c))
      (λ n. through g c (chain_of items (length (functions items)) g j (rest (j == g) n t))))) plain
    where
      rest : (b : Bool) → b ≡ false → (b || reaches items g j) ≡ true → reaches items g j ≡ true
      rest true e t' = absurd (false≢true (sym e))
      rest false e t' = t'

  both : (a b : Bool) → (a && b) ≡ true → (a ≡ true) × (b ≡ true)
  both true b h = (refl, h)
  both false b h = absurd (false≢true h)

  both_from : (a b : Bool) → a ≡ true → b ≡ true → (a && b) ≡ true
  both_from true b h k = k
  both_from false b h k = absurd (false≢true h)

  pub pass_step : (j g : ℕ) (deep : Bool) → Contains (callees items j) g → (f : Function) → passes g deep f ≡ true → passes j deep f ≡ true
  pass_step j g deep c f t =
      let p = both (near g f.name) (let b : Bool = if is_recursive items f.name then deep else not deep in b) t in
      both_from (near j f.name) (let b : Bool = if is_recursive items f.name then deep else not deep in b) (near_step j g f.name c p.0) p.1

  kind : (n : ℕ) (deep : Bool) → is_recursive items n ≡ deep → (let b : Bool = if is_recursive items n then deep else not deep in b) ≡ true
  kind n true e = ap (λ (c : Bool). let b : Bool = if c then true else false in b) e
  kind n false e = ap (λ (c : Bool). let b : Bool = if c then false else true in b) e

  pub pass_own : (j : ℕ) (deep : Bool) (f : Function) → (f.name == j) ≡ true → is_recursive items j ≡ deep → passes j deep f ≡ true
  pass_own j deep f e r =
      let same : f.name ≡ j = eqb-true f.name j e in
      both_from (near j f.name) (let b : Bool = if is_recursive items f.name then deep else not deep in b) (or_left (f.name == j) (reaches items j f.name) e) (kind f.name deep (ap (is_recursive items) same ∙ r))

  -- what the functions weigh that one reaches and that don't reach themselves
  abbrev pub share : (Function → ℕ) → ℕ → ℕ
  share v j = weigh (passes j false) v bodies

  pub share_step : (v : Function → ℕ) (j g : ℕ) → Contains (callees items j) g → share v g ≤ share v j
  share_step v j g c = weigh_more (passes g false) (passes j false) v bodies (pass_step j g false c)

  pub share_plain : (v : Function → ℕ) (j g : ℕ) (f : Function) → is_recursive items j ≡ false → find (λ h. h.name == j) bodies ≡ Some f → Contains (callees items j) g → v f + share v g ≤ share v j
  share_plain v j g f plain at c = weigh_both (passes g false) (passes j false) j v bodies f (pass_step j g false c)
      (λ h e t. no_return j g plain c (subst (λ n. near g n ≡ true) (eqb-true h.name j e) (both (near g h.name) (let b : Bool = if is_recursive items h.name then false else true in b) t).0))
      (λ h e. pass_own j false h e plain) at

  none_weigh : (v : Function → ℕ) (xs : List Function) → weigh (λ f. false) v xs ≡ 0
  none_weigh v [] = refl
  none_weigh v (x ∷ xs) = omega (arith, none_weigh v xs)

  pub share_own : (v : Function → ℕ) (j : ℕ) (f : Function) → is_recursive items j ≡ false → find (λ h. h.name == j) bodies ≡ Some f → v f ≤ share v j
  share_own v j f plain at = omega (arith, weigh_both (λ h. false) (passes j false) j v bodies f (λ h t. absurd (false≢true t)) (λ h e t. false≢true t) (λ h e. pass_own j false h e plain) at, none_weigh v bodies)

  pub share_most : (j : ℕ) → share (λ f. 1) j ≤ length bodies
  share_most j = weigh_most (passes j false) bodies

  -- the heaviest that one reaches and that reaches itself
  abbrev pub heaviest : ℕ → ℕ
  heaviest j = greatest (map (λ f. function_weight f + 2) (filter (passes j true) bodies))

  pub heavy_step : (j g : ℕ) → Contains (callees items j) g → heaviest g ≤ heaviest j
  heavy_step j g c = greatest_more (passes g true) (passes j true) (λ f. function_weight f + 2) bodies (pass_step j g true c)

  pub heavy_own : (j : ℕ) (f : Function) → f.name ≡ j → is_recursive items j ≡ true → find (λ h. h.name == j) bodies ≡ Some f → function_weight f + 2 ≤ heaviest j
  heavy_own j f same r at = greatest_one (passes j true) j (λ h. function_weight h + 2) bodies f (pass_own j true f (eq-eqb f.name j same) r) at

  pub flat_step : (j g : ℕ) → Contains (callees items j) g → filter (passes j true) bodies ≡ [] → filter (passes g true) bodies ≡ []
  flat_step j g c e = filter_none (passes g true) (passes j true) bodies (pass_step j g true c) e

  pub flat_plain : (j : ℕ) (f : Function) → f.name ≡ j → find (λ h. h.name == j) bodies ≡ Some f → filter (passes j true) bodies ≡ [] → is_recursive items j ≡ false
  flat_plain j f same at e = by_test (is_recursive items j) (λ r. absurd (filter_one (passes j true) j bodies f (pass_own j true f (eq-eqb f.name j same) r) at e)) (λ n. n)
