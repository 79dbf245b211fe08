-- The lists of the blocks behind the calls of a function.
use Rattle.std.proofs.Common.{◌≡◌, ℕ, zero, suc, ◌+◌, ◌<◌, ◌≤◌, Bool, true, false, List, [], ◌∷◌, ◌++◌, length, drop, Option, Some, refl, sym, ap, ◌∙◌, subst, arith, inl, inr, get_or, eqb-true, eq-eqb}
use Rattle.std.specs.Prelude.{◌↔◌, ◌==◌, if◌then◌else◌, slice_get, Contains}
use Rattle.std.specs.Bool.{Decides}
use Rattle.std.proofs.lemmas.Bool.{cases_Bool}
use Rattle.std.proofs.lemmas.List.{drop_more, drop_all}
use Rattle.hard_items.specs.declared.code.HardBlock.{HardBlock}
use Rattle.hard_code.specs.Tested.{leave, calls_at, behind_calls}
use Rattle.hard_code.proofs.Lists.{same_some, none_some, Above, above_lower, in_tail, tail_in, head_in, in_none}

module _ (entries : List ℕ) (entry : Option ℕ) where
  abbrev behind : ℕ → List HardBlock → List ℕ
  behind k bs = behind_calls entries entry k bs

  abbrev calls : HardBlock → Bool
  calls b = calls_at entries entry (leave b.items)

  pub behind_pass : (k : ℕ) (b : HardBlock) (bs : List HardBlock) → calls b ≡ false → behind k (b ∷ bs) ≡ behind (k + 1) bs
  behind_pass k b bs e = ap (λ z. (if z then (k + 1) ∷ [] else []) ++ behind (k + 1) bs) e

  pub behind_call : (k : ℕ) (b : HardBlock) (bs : List HardBlock) → calls b ≡ true → behind k (b ∷ bs) ≡ (k + 1) ∷ behind (k + 1) bs
  behind_call k b bs e = ap (λ z. (if z then (k + 1) ∷ [] else []) ++ behind (k + 1) bs) e

  pub behind_above : (k : ℕ) (bs : List HardBlock) → Above (k + 1) (behind k bs)
  behind_above k [] = tt
  behind_above k (b ∷ bs) = elim (cases_Bool (calls b)) [
    | inl t ↦ subst (Above (k + 1)) (sym (behind_call k b bs t)) (omega arith, behind_above (k + 1) bs)
    | inr t ↦ subst (Above (k + 1)) (sym (behind_pass k b bs t)) (above_lower (k + 1) (k + 1 + 1) (behind (k + 1) bs) (omega arith) (behind_above (k + 1) bs))
  ]

  pub record Caller (bs : List HardBlock) (k c : ℕ) : Type 0 where
    pub number : ℕ
    pub block : HardBlock
    pub there : slice_get bs number ≡ Some block
    pub calls : calls_at entries entry (leave block.items) ≡ true
    pub next : c ≡ k + number + 1

  one_more : (b : HardBlock) (bs : List HardBlock) (k c : ℕ) → Caller bs (k + 1) c → Caller (b ∷ bs) k c
  one_more b bs k c r = record { number = suc r.number; block = r.block; there = r.there; calls = r.calls; next = omega (arith, r.next) }

  pub behind_in : (k : ℕ) (bs : List HardBlock) (c : ℕ) → Contains (behind k bs) c → Caller bs k c
  behind_in k [] c h = absurd (in_none c h)
  behind_in k (b ∷ bs) c h = elim (cases_Bool (calls b)) [
    | inl t ↦ elim (in_tail (k + 1) c (behind (k + 1) bs) (subst (λ (xs : List ℕ). Contains xs c) (behind_call k b bs t) h)) [
      | inl e ↦ record { number = 0; block = b; there = refl; calls = t; next = omega arith }
      | inr r ↦ one_more b bs k c (behind_in (k + 1) bs c r)
    ]
    | inr t ↦ one_more b bs k c (behind_in (k + 1) bs c (subst (λ (xs : List ℕ). Contains xs c) (behind_pass k b bs t) h))
  ]

  pub behind_has : (k : ℕ) (bs : List HardBlock) (n : ℕ) (x : HardBlock) (c : ℕ) → slice_get bs n ≡ Some x → calls x ≡ true → c ≡ k + n + 1 → Contains (behind k bs) c
  behind_has k [] n x c e t s = absurd (none_some x e)
  behind_has k (b ∷ bs) zero x c e t s =
      let q : b ≡ x = same_some b x e in
      let m : k + 1 ≡ c = omega arith in
      subst (λ (xs : List ℕ). Contains xs c) (sym (behind_call k b bs (ap (λ (y : HardBlock). calls y) q ∙ t))) (subst (λ (n : ℕ). Contains (n ∷ behind (k + 1) bs) c) (sym m) (head_in c (behind (k + 1) bs)))
  behind_has k (b ∷ bs) (suc n) x c e t s =
      let r : Contains (behind (k + 1) bs) c = behind_has (k + 1) bs n x c e t (omega arith) in
      elim (cases_Bool (calls b)) [
        | inl z ↦ subst (λ (xs : List ℕ). Contains xs c) (sym (behind_call k b bs z)) (tail_in (k + 1) c (behind (k + 1) bs) r)
        | inr z ↦ subst (λ (xs : List ℕ). Contains xs c) (sym (behind_pass k b bs z)) r
      ]

  -- ---- a walk over the blocks, along a list

  same_head : (x y : ℕ) (xs ys : List ℕ) → x ∷ xs ≡ y ∷ ys → x ≡ y
  same_head x y xs ys e = cc

  same_tail : (x y : ℕ) (xs ys : List ℕ) → x ∷ xs ≡ y ∷ ys → xs ≡ ys
  same_tail x y xs ys e = cc

  nil_cons : (y : ℕ) (ys : List ℕ) → [] ≡ y ∷ ys → ⊥
  nil_cons y ys e = cc

  -- the list is that of the blocks behind all calls exactly where its rest is that of those still to come
  pub record Walked (list : List ℕ) (bs : List HardBlock) (at n : ℕ) : Type 0 where
    pub at_most : at ≤ length list
    pub same : (list ≡ behind_calls entries entry 0 bs) ↔ (drop at list ≡ behind_calls entries entry n (drop n bs))

  module _ (list : List ℕ) (bs : List HardBlock) where
    pub walk_start : Walked list bs 0 0
    walk_start = record { at_most = omega arith; same = (λ e. e, λ e. e) }

    split : (n : ℕ) (b : HardBlock) → n < length bs → b ≡ get_or bs n b → drop n bs ≡ b ∷ drop (n + 1) bs
    split n b l is = drop_more bs n b l ∙ ap (λ (x : HardBlock). x ∷ drop (n + 1) bs) (sym is)

    pub walk_pass : (at n : ℕ) (b : HardBlock) → n < length bs → b ≡ get_or bs n b → calls b ≡ false → Walked list bs at n → Walked list bs at (n + 1)
    walk_pass at n b l is t w =
        let e : behind n (drop n bs) ≡ behind (n + 1) (drop (n + 1) bs) = ap (behind n) (split n b l is) ∙ behind_pass n b (drop (n + 1) bs) t in
        record { at_most = w.at_most; same = (λ h. w.same.0 h ∙ e, λ h. w.same.1 (h ∙ sym e)) }

    called : (n : ℕ) (b : HardBlock) → n < length bs → b ≡ get_or bs n b → calls b ≡ true → behind n (drop n bs) ≡ (n + 1) ∷ behind (n + 1) (drop (n + 1) bs)
    called n b l is t = ap (behind n) (split n b l is) ∙ behind_call n b (drop (n + 1) bs) t

    pub walk_call : (at n : ℕ) (b : HardBlock) → n < length bs → b ≡ get_or bs n b → calls b ≡ true → at < length list → get_or list at 0 ≡ n + 1 → Walked list bs at n → Walked list bs (at + 1) (n + 1)
    walk_call at n b l is t la g w =
        let e = called n b l is t in
        let d : drop at list ≡ (n + 1) ∷ drop (at + 1) list = drop_more list at 0 la ∙ ap (λ (x : ℕ). x ∷ drop (at + 1) list) g in
        record {
          at_most = omega arith;
          same = (
            λ h. same_tail (n + 1) (n + 1) (drop (at + 1) list) (behind (n + 1) (drop (n + 1) bs)) (sym d ∙ (w.same.0 h ∙ e)),
            λ h. w.same.1 (d ∙ (ap (λ (xs : List ℕ). (n + 1) ∷ xs) h ∙ sym e)),
          );
        }

    pub walk_short : (at n : ℕ) (b : HardBlock) → n < length bs → b ≡ get_or bs n b → calls b ≡ true → length list ≤ at → Walked list bs at n → list ≡ behind 0 bs → ⊥
    walk_short at n b l is t le w h = nil_cons (n + 1) (behind (n + 1) (drop (n + 1) bs)) (sym (drop_all at list le) ∙ (w.same.0 h ∙ called n b l is t))

    pub walk_other : (at n : ℕ) (b : HardBlock) → n < length bs → b ≡ get_or bs n b → calls b ≡ true → at < length list → (get_or list at 0 ≡ n + 1 → ⊥) → Walked list bs at n → list ≡ behind 0 bs → ⊥
    walk_other at n b l is t la never w h = never (same_head (get_or list at 0) (n + 1) (drop (at + 1) list) (behind (n + 1) (drop (n + 1) bs)) (sym (drop_more list at 0 la) ∙ (w.same.0 h ∙ called n b l is t)))

    pub walk_end : (at n : ℕ) → length bs ≤ n → Walked list bs at n → Decides (at == length list) (list ≡ behind 0 bs)
    walk_end at n le w =
        let e : behind n (drop n bs) ≡ [] = ap (behind n) (drop_all n bs le) in (
          λ t. let s : at ≡ length list = eqb-true at (length list) t in w.same.1 (drop_all at list (omega arith) ∙ sym e),
          λ h. eq-eqb at (length list) (none_left at (w.same.0 h ∙ e) w.at_most),
        )
      where
        none_left : (at : ℕ) → drop at list ≡ [] → at ≤ length list → at ≡ length list
        none_left at h le = elim (Rattle.std.proofs.lemmas.Bool.cases_lt at (length list)) [
          | inl l ↦ absurd (nil_cons (get_or list at 0) (drop (at + 1) list) (sym h ∙ drop_more list at 0 l))
          | inr l ↦ omega arith
        ]
