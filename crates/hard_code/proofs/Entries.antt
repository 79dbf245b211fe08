-- The entries of functions: that they differ, and which is the greatest that isn't above a block.
use Rattle.std.proofs.Common.{◌≡◌, ℕ, zero, suc, ◌+◌, ◌<◌, ◌≤◌, true, false, List, [], ◌∷◌, length, take, Some, None, refl, sym, ap, ◌∙◌, subst, arith, inl, inr, eqb-true, eq-eqb}
use Rattle.std.specs.Prelude.{◌⊎◌, ◌==◌, ◌&&◌, nat_le, nat_lt, slice_get}
use Rattle.std.specs.List.{list_any, fold}
use Rattle.std.proofs.lemmas.Bool.{cases_lt, cases_Bool, and_parts, and_from, both_ways, ltb-true, lt-ltb, leb-true, le-leb, lt-leb, cond-true, cond-false}
use Rattle.std.proofs.lemmas.Option.{slice_get_within}
use Rattle.hard_items.specs.declared.code.HardProgram.{HardProgram}
use Rattle.hard_items.specs.Ways.{IsOfFunction}
use Rattle.hard_code.specs.Tested.{Differ, nearer, start}
use Rattle.hard_code.proofs.Lists.{same_some, none_some, any_get, any_from}

-- ---- entries that differ

abbrev pub DifferBelow : List ℕ → ℕ → Type 0
DifferBelow xs n = (f g e : ℕ) → f < n → g < n → slice_get xs f ≡ Some e → slice_get xs g ≡ Some e → f ≡ g

take_get : (xs : List ℕ) (n k x : ℕ) → slice_get (take n xs) k ≡ Some x → (k < n) × (slice_get xs k ≡ Some x)
take_get [] zero k x e = absurd (none_some x e)
take_get [] (suc n) k x e = absurd (none_some x e)
take_get (y ∷ xs) zero k x e = absurd (none_some x e)
take_get (y ∷ xs) (suc n) zero x e = (omega arith, e)
take_get (y ∷ xs) (suc n) (suc k) x e = let r = take_get xs n k x e in let l : k < n = r.0 in (omega arith, r.1)

get_take : (xs : List ℕ) (n k x : ℕ) → k < n → slice_get xs k ≡ Some x → slice_get (take n xs) k ≡ Some x
get_take [] n k x l e = absurd (none_some x e)
get_take (y ∷ xs) zero k x l e = absurd (omega arith)
get_take (y ∷ xs) (suc n) zero x l e = e
get_take (y ∷ xs) (suc n) (suc k) x l e = get_take xs n k x (omega arith) e

-- no entry before one is the same
before_not : (xs : List ℕ) (n x g : ℕ) → list_any (λ e. e == x) (take n xs) ≡ false → g < n → slice_get xs g ≡ Some x → ⊥
before_not xs n x g never l e = both_ways (list_any (λ e. e == x) (take n xs)) never (any_from (λ e. e == x) (take n xs) g x (get_take xs n g x l e) (eq-eqb x x refl))

pub differ_more : (xs : List ℕ) (n x : ℕ) → slice_get xs n ≡ Some x → list_any (λ e. e == x) (take n xs) ≡ false → DifferBelow xs n → DifferBelow xs (n + 1)
differ_more xs n x is never below f g e lf lg ef eg = elim (cases_lt f n) [
  | inl a ↦ elim (cases_lt g n) [
    | inl b ↦ below f g e a b ef eg
    | inr b ↦ let s : g ≡ n = omega arith in let t : e ≡ x = same_some e x (sym eg ∙ (ap (slice_get xs) s ∙ is)) in absurd (before_not xs n x f never a (ef ∙ ap Some t))
  ]
  | inr a ↦ let r : f ≡ n = omega arith in elim (cases_lt g n) [
    | inl b ↦ let t : e ≡ x = same_some e x (sym ef ∙ (ap (slice_get xs) r ∙ is)) in absurd (before_not xs n x g never b (eg ∙ ap Some t))
    | inr b ↦ omega arith
  ]
]

pub differ_all : (xs : List ℕ) (n : ℕ) → length xs ≤ n → DifferBelow xs n → Differ xs
differ_all xs n le below f g e ef eg = let a : f < length xs = slice_get_within xs f e ef in let b : g < length xs = slice_get_within xs g e eg in below f g e (omega arith) (omega arith) ef eg

pub differ_not : (xs : List ℕ) (n x : ℕ) → slice_get xs n ≡ Some x → list_any (λ e. e == x) (take n xs) ≡ true → Differ xs → ⊥
differ_not xs n x is t d =
    let a = any_get (λ e. e == x) (take n xs) t in
    let r = take_get xs n a.0 a.1 a.2 in
    let l : a.0 < n = r.0 in
    let s : a.0 ≡ n = d a.0 n x (r.1 ∙ ap Some (eqb-true a.1 x a.3)) is in
    omega arith

-- ---- the entry of a block

pub record IsStart (es : List ℕ) (b e : ℕ) : Type 0 where
  pub place : ℕ
  pub there : slice_get es place ≡ Some e
  pub not_above : e ≤ b
  pub greatest : (g o : ℕ) → slice_get es g ≡ Some o → o ≤ b → o ≤ e

record Later (es : List ℕ) (b s : ℕ) : Type 0 where
  r : ℕ
  is : fold (λ s e. nearer b s e) (Some s) es ≡ Some r
  below : r ≤ b
  above : s ≤ r
  from : (r ≡ s) ⊎ ((f : ℕ) × (slice_get es f ≡ Some r))
  greatest : (g o : ℕ) → slice_get es g ≡ Some o → o ≤ b → o ≤ r

up : (x r b : ℕ) (es : List ℕ) → (x ≤ b → x ≤ r) → ((g o : ℕ) → slice_get es g ≡ Some o → o ≤ b → o ≤ r) → (g o : ℕ) → slice_get (x ∷ es) g ≡ Some o → o ≤ b → o ≤ r
up x r b es h k zero o e l = let s : x ≡ o = same_some x o e in let q : x ≤ r = h (omega arith) in omega arith
up x r b es h k (suc g) o e l = k g o e l

later : (es : List ℕ) (b s : ℕ) → s ≤ b → Later es b s
later [] b s h = record { r = s; is = refl; below = h; above = omega arith; from = inl refl; greatest = λ g o e l. absurd (none_some o e) }
later (x ∷ es) b s h = elim (cases_Bool (nat_le x b && nat_lt s x)) [
  | inl t ↦
      let a = and_parts (nat_le x b) (nat_lt s x) t in
      let le : x ≤ b = leb-true x b a.0 in
      let lt : s < x = ltb-true s x a.1 in
      let n : Later es b x = later es b x le in
      let over : x ≤ n.r = n.above in
      record {
        r = n.r;
        is = ap (λ o. fold (λ s e. nearer b s e) o es) (cond-true (nat_le x b && nat_lt s x) (Some x) (Some s) t) ∙ n.is;
        below = n.below;
        above = omega arith;
        from = elim n.from [ inl e ↦ inr (0, ap Some (sym e)) | inr f ↦ inr (suc f.0, f.1) ];
        greatest = up x n.r b es (λ q. over) n.greatest;
      }
  | inr t ↦
      let n : Later es b s = later es b s h in
      let over : s ≤ n.r = n.above in
      record {
        r = n.r;
        is = ap (λ o. fold (λ s e. nearer b s e) o es) (cond-false (nat_le x b && nat_lt s x) (Some x) (Some s) t) ∙ n.is;
        below = n.below;
        above = over;
        from = elim n.from [ inl e ↦ inl e | inr f ↦ inr (suc f.0, f.1) ];
        greatest = up x n.r b es (λ q. elim (cases_lt s x) [ inl l ↦ absurd (both_ways (nat_le x b && nat_lt s x) t (and_from (nat_le x b) (nat_lt s x) (le-leb x b q) (lt-ltb s x l))) | inr l ↦ omega arith ]) n.greatest;
      }
]

-- no entry is at or before the block, or the greatest of them is its start
abbrev pub Started : List ℕ → ℕ → Type 0
Started es b = ((start es b ≡ None) × ((g o : ℕ) → slice_get es g ≡ Some o → b < o)) ⊎ ((r : ℕ) × (start es b ≡ Some r) × IsStart es b r)

over_head : (x b : ℕ) (es : List ℕ) → b < x → ((g o : ℕ) → slice_get es g ≡ Some o → b < o) → (g o : ℕ) → slice_get (x ∷ es) g ≡ Some o → b < o
over_head x b es l h zero o e = let s : x ≡ o = same_some x o e in omega arith
over_head x b es l h (suc g) o e = h g o e

behind_head : (x b r : ℕ) (es : List ℕ) → b < x → IsStart es b r → IsStart (x ∷ es) b r
behind_head x b r es l s = record { place = suc s.place; there = s.there; not_above = s.not_above; greatest = up x r b es (λ q. absurd (omega arith)) s.greatest }

pub started : (es : List ℕ) (b : ℕ) → Started es b
started [] b = inl (refl, λ g o e. absurd (none_some o e))
started (x ∷ es) b = elim (cases_lt b x) [
  | inl l ↦
      let e : start (x ∷ es) b ≡ start es b = ap (λ o. fold (λ s e. nearer b s e) o es) (cond-false (nat_le x b) (Some x) None (lt-leb x b l)) in
      elim (started es b) [
        | inl h ↦ inl (e ∙ h.0, over_head x b es l h.1)
        | inr h ↦ inr (h.0, e ∙ h.1, behind_head x b h.0 es l h.2)
      ]
  | inr l ↦
      let e : start (x ∷ es) b ≡ fold (λ s e. nearer b s e) (Some x) es = ap (λ o. fold (λ s e. nearer b s e) o es) (cond-true (nat_le x b) (Some x) None (le-leb x b l)) in
      let n : Later es b x = later es b x l in
      let over : x ≤ n.r = n.above in
      inr (
        n.r,
        e ∙ n.is,
        elim n.from [
          | inl q ↦ record { place = 0; there = ap Some (sym q); not_above = n.below; greatest = up x n.r b es (λ q. over) n.greatest }
          | inr f ↦ record { place = suc f.0; there = f.1; not_above = n.below; greatest = up x n.r b es (λ q. over) n.greatest }
        ],
      )
]

pub start_is : (es : List ℕ) (b e : ℕ) → start es b ≡ Some e → IsStart es b e
start_is es b e h = elim (started es b) [
  | inl n ↦ absurd (none_some e (sym n.0 ∙ h))
  | inr r ↦ subst (IsStart es b) (same_some r.0 e (sym r.1 ∙ h)) r.2
]

-- the starts of blocks ascend with them
pub start_later : (es : List ℕ) (b c e : ℕ) → start es b ≡ Some e → b ≤ c → (d : ℕ) × (start es c ≡ Some d) × (e ≤ d)
start_later es b c e h le =
    let s = start_is es b e h in
    let q : e ≤ b = s.not_above in
    elim (started es c) [
      | inl n ↦ let l : c < e = n.1 s.place e s.there in absurd (omega arith)
      | inr r ↦ (r.0, r.1, r.2.greatest s.place e s.there (omega arith))
    ]

module _ (p : HardProgram) where
  -- the function of a block is that with its start
  pub of_to : (b f : ℕ) → IsOfFunction p b f → (e : ℕ) × (slice_get p.entries f ≡ Some e) × (start p.entries b ≡ Some e)
  of_to b f o =
      let l : o.entry ≤ b = o.not_above in
      elim (started p.entries b) [
        | inl n ↦ let g : b < o.entry = n.1 f o.entry o.is_entry in absurd (omega arith)
        | inr r ↦
            let l1 : o.entry ≤ r.0 = r.2.greatest f o.entry o.is_entry o.not_above in
            let l2 : r.0 ≤ o.entry = o.greatest r.2.place r.0 r.2.there r.2.not_above in
            let s : r.0 ≡ o.entry = omega arith in
            (o.entry, o.is_entry, r.1 ∙ ap Some s)
      ]

  pub of_from : (b f e : ℕ) → slice_get p.entries f ≡ Some e → start p.entries b ≡ Some e → IsOfFunction p b f
  of_from b f e is h = let s = start_is p.entries b e h in record { entry = e; is_entry = is; not_above = s.not_above; greatest = s.greatest }
