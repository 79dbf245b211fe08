-- Lists of the blocks that lead to each block, one more block at a time.
use Rattle.std.proofs.Common.{◌≡◌, ℕ, ◌+◌, ◌<◌, ◌≤◌, List, [], ◌∷◌, ◌++◌, length, Some, refl, sym, ap, ◌∙◌, subst, arith, inl, inr, get_or, length-set, replicate}
use Rattle.std.specs.Prelude.{slice_get, slice_set}
use Rattle.std.specs.List.{Contains}
use Rattle.std.proofs.lemmas.Bool.{cases_eq, cases_lt}
use Rattle.std.proofs.lemmas.List.{get_or-set_same, get_or-set_other, get_or-replicate, get_or_past, length-replicate}
use Rattle.std.proofs.lemmas.List.Elements.{Contains-append_left, Contains-push, Contains-push_cases}
use Rattle.mid_blocks.specs.declared.code.MidBlock.{MidBlock}
use Rattle.mid_blocks.specs.declared.code.MidFunction.{MidFunction}
use Rattle.register_liveness.specs.Uses.{successors}
use Rattle.register_liveness.specs.Blocks.{AreAdded, LeadsTo, ArePredecessors}
use Rattle.mid_blocks.proofs.Positions.{get_within}
use Rattle.register_liveness.proofs.Wanted.{contains_head, contains_tail, contains_cases}

pub only_one : (x y : ℕ) → Contains (x ∷ []) y → x ≡ y
only_one x y c = elim (contains_cases x [] y c) [ inl e ↦ e | inr h ↦ absurd (omega (arith, h.1)) ]

module _ (xs : List (List ℕ)) (s p : ℕ) (l : s < length xs) where
  abbrev more : List (List ℕ)
  more = slice_set xs s (get_or xs s [] ++ p ∷ [])

  there : get_or more s [] ≡ get_or xs s [] ++ p ∷ []
  there = get_or-set_same xs s (get_or xs s [] ++ p ∷ []) [] l

  elsewhere : (b : ℕ) → (b ≡ s → ⊥) → get_or more b [] ≡ get_or xs b []
  elsewhere b n = get_or-set_other xs s b (get_or xs s [] ++ p ∷ []) [] n

  pub added_one : AreAdded p (s ∷ []) xs more
  added_one = record {
    same_length = length-set xs s (get_or xs s [] ++ p ∷ []);
    kept = λ b q c. elim (cases_eq b s) [
      | inl e ↦ subst (λ (k : ℕ). Contains (get_or more k []) q) (sym e) (subst (λ (ys : List ℕ). Contains ys q) (sym there) (Contains-append_left (get_or xs s []) (p ∷ []) q (subst (λ (k : ℕ). Contains (get_or xs k []) q) e c)))
      | inr n ↦ subst (λ (ys : List ℕ). Contains ys q) (sym (elsewhere b n)) c
    ];
    added = λ b c. subst (λ (k : ℕ). Contains (get_or more k []) p) (only_one s b c) (subst (λ (ys : List ℕ). Contains ys p) (sym there) (Contains-push (get_or xs s []) p));
    only = λ b q c. elim (cases_eq b s) [
      | inl e ↦
          let c' : Contains (get_or xs s [] ++ p ∷ []) q = subst (λ (ys : List ℕ). Contains ys q) there (subst (λ (k : ℕ). Contains (get_or more k []) q) e c) in
          elim (Contains-push_cases (get_or xs s []) p q c') [
            | inl h ↦ inl (subst (λ (k : ℕ). Contains (get_or xs k []) q) (sym e) h)
            | inr h ↦ inr (sym h, subst (λ (k : ℕ). Contains (k ∷ []) b) e (contains_head b []))
          ]
      | inr n ↦ inl (subst (λ (ys : List ℕ). Contains ys q) (elsewhere b n) c)
    ];
  }

pub added_none : (xs : List (List ℕ)) (p : ℕ) → AreAdded p [] xs xs
added_none xs p = record { same_length = refl; kept = λ b q c. c; added = λ b c. absurd (omega (arith, c.1)); only = λ b q c. inl c }

pub added_two : (xs ys zs : List (List ℕ)) (s t p : ℕ) → AreAdded p (s ∷ []) xs ys → AreAdded p (t ∷ []) ys zs → AreAdded p (s ∷ t ∷ []) xs zs
added_two xs ys zs s t p a b = record {
  same_length = b.same_length ∙ a.same_length;
  kept = λ k q c. b.kept k q (a.kept k q c);
  added = λ k c. elim (contains_cases s (t ∷ []) k c) [ inl e ↦ b.kept k p (a.added k (subst (Contains (s ∷ [])) e (contains_head s []))) | inr h ↦ b.added k h ];
  only = λ k q c. elim (b.only k q c) [
    | inl h ↦ elim (a.only k q h) [ inl h' ↦ inl h' | inr h' ↦ inr (h'.0, subst (Contains (s ∷ t ∷ [])) (only_one s k h'.1) (contains_head s (t ∷ []))) ]
    | inr h ↦ inr (h.0, contains_tail s (t ∷ []) k h.1)
  ];
}

-- the lists behind so many blocks
pub record AreSoFar (f : MidFunction) (n : ℕ) (lists : List (List ℕ)) : Type 0 where
  pub one_each : length lists ≡ length f.blocks
  pub sound : (b p : ℕ) → Contains (get_or lists b []) p → LeadsTo f p b
  pub complete : (b p : ℕ) → p < n → LeadsTo f p b → Contains (get_or lists b []) p

pub so_far_more : (f : MidFunction) (n : ℕ) (xs ys : List (List ℕ)) (block : MidBlock) → slice_get f.blocks n ≡ Some block → AreSoFar f n xs → AreAdded n (successors n block.end) xs ys → AreSoFar f (n + 1) ys
so_far_more f n xs ys block is s a = record {
  one_each = a.same_length ∙ s.one_each;
  sound = λ b p c. elim (a.only b p c) [
    | inl h ↦ s.sound b p h
    | inr h ↦ (block, ap (slice_get f.blocks) h.0 ∙ is, subst (λ (k : ℕ). Contains (successors k block.end) b) (sym h.0) h.1)
  ];
  complete = λ b p l to. elim (cases_lt p n) [
    | inl lt ↦ a.kept b p (s.complete b p lt to)
    | inr ge ↦
        let e : p ≡ n = omega arith in
        let same : Some to.0 ≡ Some block = sym to.1 ∙ ap (slice_get f.blocks) e ∙ is in
        let same' : to.0 ≡ block = cc in
        let c : Contains (successors n block.end) b = subst (λ (bl : MidBlock). Contains (successors n bl.end) b) same' (subst (λ (k : ℕ). Contains (successors k to.0.end) b) e to.2) in
        subst (Contains (get_or ys b [])) (sym e) (a.added b c)
  ];
}

pub all_so_far : (f : MidFunction) (n : ℕ) (xs : List (List ℕ)) → length f.blocks ≤ n → AreSoFar f n xs → ArePredecessors f xs
all_so_far f n xs le s = record { one_each = s.one_each; sound = s.sound; complete = λ b p to. s.complete b p (let l : p < length f.blocks = get_within f.blocks p to.0 to.1 in omega arith) to }

pub none_linked : (n b q : ℕ) → Contains (get_or (replicate n []) b []) q → ⊥
none_linked n b q c = elim (cases_lt b n) [
  | inl l ↦ let e : get_or (replicate n []) b [] ≡ [] = get_or-replicate n b [] [] l in omega (arith, (subst (λ (xs : List ℕ). Contains xs q) e c).1)
  | inr g ↦
      let empty : List ℕ = [] in
      let le : length (replicate n empty) ≤ b = omega (arith, length-replicate {A = List ℕ} n empty) in
      let e : get_or (replicate n empty) b empty ≡ empty = get_or_past (replicate n empty) b empty le in omega (arith, (subst (λ (xs : List ℕ). Contains xs q) e c).1)
]

pub so_far_none : (f : MidFunction) (n : ℕ) (lists : List (List ℕ)) → n ≡ length f.blocks → lists ≡ replicate n [] → AreSoFar f 0 lists
so_far_none f n lists e h = subst (AreSoFar f 0) (sym h) (record {
  one_each = length-replicate {A = List ℕ} n [] ∙ e;
  sound = λ b p c. absurd (none_linked n b p c);
  complete = λ b p l to. absurd (omega arith);
})
