-- One step of the search for the blocks at whose start a variable is wanted, and what it has found at the end.
use Rattle.std.proofs.Common.{◌≡◌, ℕ, ◌+◌, ◌<◌, ◌≤◌, Bool, true, false, not, cond, List, [], ◌∷◌, ◌++◌, length, Some, refl, sym, ap, ◌∙◌, subst, arith, inl, inr, get_or, length-set, length-append}
use Rattle.std.specs.Prelude.{slice_get, slice_set, ◌⊎◌}
use Rattle.std.specs.List.{Contains}
use Rattle.std.proofs.lemmas.Bool.{cases_lt, cases_eq}
use Rattle.std.proofs.lemmas.List.{get_or-set_same, get_or-set_other, get_or_past, get_or_append_left, get_or_push, get_or_default, length_push, append_assoc, append-nil}
use Rattle.std.proofs.lemmas.List.Sums.{sum_by-set, sum_by_push}
use Rattle.std.proofs.lemmas.List.Elements.{Contains-append_left, Contains-push, Contains-push_cases}
use Rattle.mid_blocks.specs.declared.code.MidBlock.{MidBlock}
use Rattle.mid_blocks.specs.declared.code.MidFunction.{MidFunction}
use Rattle.mid_blocks.specs.Lines.{block_lines, first_of}
use Rattle.mid_blocks.specs.Liveness.{IsWanted}
use Rattle.mid_blocks.specs.Valid.{ValidFunction}
use Rattle.register_liveness.specs.declared.uses.FirstUse.{FirstUse}
use Rattle.register_liveness.specs.declared.uses.FirstUse.TheVariants.{Untouched, Read}
use Rattle.register_liveness.specs.Uses.{first_use, successors}
use Rattle.register_liveness.specs.Blocks.{LeadsTo, ArePredecessors}
use Rattle.register_liveness.specs.declared.search.Flow.{Flow}
use Rattle.register_liveness.specs.Search.{IsFlow, AreWantedAt, IsMarked, IsSearch, IsSpread, IsPassed, GoesOn}
use Rattle.mid_blocks.proofs.Positions.{get_within}
use Rattle.register_liveness.proofs.Wanted.{Closed, wanted_closed, has_wanted, WantedFirst}
use Rattle.register_liveness.proofs.Valid.{successors_exist}

pub marked_within : (marks : List Bool) (b : ℕ) → IsMarked marks b → b < length marks
marked_within marks b h = elim (cases_lt b (length marks)) [
  | inl l ↦ l
  | inr g ↦ let e : get_or marks b false ≡ false = get_or_past marks b false g in let bad : true ≡ false = sym h ∙ e in absurd (cc)
]

marked_keep : (marks : List Bool) (x : Bool) (b : ℕ) → IsMarked marks b → IsMarked (marks ++ x ∷ []) b
marked_keep marks x b h = get_or_append_left marks (x ∷ []) false b (marked_within marks b h) ∙ h

pub marked_push : (marks : List Bool) (x : Bool) (n b : ℕ) → length marks ≡ n → IsMarked (marks ++ x ∷ []) b → (IsMarked marks b) ⊎ ((b ≡ n) × (x ≡ true))
marked_push marks x n b e h = elim (cases_lt b n) [
  | inl l ↦ inl (sym (get_or_append_left marks (x ∷ []) false b (omega arith)) ∙ h)
  | inr g ↦
      let w : b < length (marks ++ x ∷ []) = marked_within (marks ++ x ∷ []) b h in
      let same : b ≡ n = omega (arith, w, length_push {X = Bool} marks x) in
      let v : get_or (marks ++ x ∷ []) b false ≡ x = ap (λ k. get_or (marks ++ x ∷ []) k false) same ∙ get_or_push marks x false n e in
      inr (same, sym v ∙ h)
]

marked_new : (marks : List Bool) (n : ℕ) → length marks ≡ n → IsMarked (marks ++ true ∷ []) n
marked_new marks n e = get_or_push marks true false n e

module _ (f : MidFunction) (v : ℕ) where
  pub search_none : IsSearch f v 0 [] []
  search_none = record {
    one_each = refl;
    counted = refl;
    found_marked = λ b c. absurd (omega (arith, c.1));
    marked_found = λ b h. absurd (let w : b < 0 = marked_within [] b h in omega arith);
    sound = λ b c. absurd (omega (arith, c.1));
    seeds = λ b block l is u. absurd (omega arith);
  }

  block_is : (n b : ℕ) (x y : MidBlock) → b ≡ n → slice_get f.blocks n ≡ Some x → slice_get f.blocks b ≡ Some y → x ≡ y
  block_is n b x y e h k = let same : Some x ≡ Some y = sym h ∙ ap (slice_get f.blocks) (sym e) ∙ k in cc

  pub seed_yes : (n : ℕ) (marks : List Bool) (found : List ℕ) (block : MidBlock) → slice_get f.blocks n ≡ Some block → first_use v (block_lines block) ≡ Read → IsSearch f v n marks found → IsSearch f v (n + 1) (marks ++ true ∷ []) (found ++ n ∷ [])
  seed_yes n marks found block is u s = record {
    one_each = omega (arith, length_push {X = Bool} marks true, s.one_each);
    counted = omega (arith, sum_by_push (λ x. cond (not x) 1 0) marks true, length_push found n, s.counted);
    found_marked = λ b c. elim (Contains-push_cases found n b c) [ inl h ↦ marked_keep marks true b (s.found_marked b h) | inr h ↦ subst (IsMarked (marks ++ true ∷ [])) h (marked_new marks n s.one_each) ];
    marked_found = λ b h. elim (marked_push marks true n b s.one_each h) [ inl m ↦ Contains-append_left found (n ∷ []) b (s.marked_found b m) | inr m ↦ subst (Contains (found ++ n ∷ [])) (sym m.0) (Contains-push found n) ];
    sound = λ b c. elim (Contains-push_cases found n b c) [ inl h ↦ s.sound b h | inr h ↦ subst (WantedFirst f v) h ((wanted_closed f v).seeds n block is u) ];
    seeds = λ b block' l is' u'. elim (cases_lt b n) [ inl l ↦ marked_keep marks true b (s.seeds b block' l is' u') | inr g ↦ let e : n ≡ b = omega arith in subst (IsMarked (marks ++ true ∷ [])) e (marked_new marks n s.one_each) ];
  }

  pub seed_no : (n : ℕ) (marks : List Bool) (found : List ℕ) (block : MidBlock) → slice_get f.blocks n ≡ Some block → (first_use v (block_lines block) ≡ Read → ⊥) → IsSearch f v n marks found → IsSearch f v (n + 1) (marks ++ false ∷ []) found
  seed_no n marks found block is u s = record {
    one_each = omega (arith, length_push {X = Bool} marks false, s.one_each);
    counted = omega (arith, sum_by_push (λ x. cond (not x) 1 0) marks false, s.counted);
    found_marked = λ b c. marked_keep marks false b (s.found_marked b c);
    marked_found = λ b h. elim (marked_push marks false n b s.one_each h) [ inl m ↦ s.marked_found b m | inr m ↦ absurd (let bad : false ≡ true = m.1 in cc) ];
    sound = s.sound;
    seeds = λ b block' l is' u'. elim (cases_lt b n) [
      | inl l ↦ marked_keep marks false b (s.seeds b block' l is' u')
      | inr g ↦ let e : b ≡ n = omega arith in absurd (u (ap (λ (x : MidBlock). first_use v (block_lines x)) (block_is n b block block' e is is') ∙ u'))
    ];
  }

  -- ---- one more block is marked

  set_keep : (marks : List Bool) (p b : ℕ) → p < length marks → IsMarked marks b → IsMarked (slice_set marks p true) b
  set_keep marks p b l h = elim (cases_eq b p) [
    | inl e ↦ subst (IsMarked (slice_set marks p true)) (sym e) (get_or-set_same marks p true false l)
    | inr n ↦ get_or-set_other marks p b true false n ∙ h
  ]

  pub mark_one : (n : ℕ) (marks : List Bool) (found : List ℕ) (p : ℕ) → p < n → get_or marks p false ≡ false → IsWanted f v (first_of f p) → IsSearch f v n marks found → IsSearch f v n (slice_set marks p true) (found ++ p ∷ [])
  mark_one n marks found p l unmarked w s =
      let lm : p < length marks = omega (arith, s.one_each) in
      let not_zero : ◌≡◌ {A = ℕ} (cond (not (get_or marks p false)) 1 0) 1 = ap (λ b. cond (not b) 1 0) unmarked in
      record {
        one_each = length-set marks p true ∙ s.one_each;
        counted = omega (arith, sum_by-set (λ x. cond (not x) 1 0) marks p true false lm, not_zero, length_push found p, s.counted);
        found_marked = λ b c. elim (Contains-push_cases found p b c) [
          | inl h ↦ set_keep marks p b lm (s.found_marked b h)
          | inr h ↦ subst (IsMarked (slice_set marks p true)) h (get_or-set_same marks p true false lm)
        ];
        marked_found = λ b h. elim (cases_eq b p) [
          | inl e ↦ subst (Contains (found ++ p ∷ [])) (sym e) (Contains-push found p)
          | inr ne ↦ Contains-append_left found (p ∷ []) b (s.marked_found b (sym (get_or-set_other marks p b true false ne) ∙ h))
        ];
        sound = λ b c. elim (Contains-push_cases found p b c) [ inl h ↦ s.sound b h | inr h ↦ subst (WantedFirst f v) h w ];
        seeds = λ b block l is u. set_keep marks p b lm (s.seeds b block l is u);
      }

  pub goes_here : (marks : List Bool) (found : List ℕ) → GoesOn marks marks found found
  goes_here marks found = record { kept = λ b h. h; more = []; adds = sym (append-nil found) }

  pub goes_one : (marks0 marks : List Bool) (found0 found : List ℕ) (p : ℕ) → p < length marks → GoesOn marks0 marks found0 found → GoesOn marks0 (slice_set marks p true) found0 (found ++ p ∷ [])
  goes_one marks0 marks found0 found p l g = record {
    kept = λ b h. set_keep marks p b l (g.kept b h);
    more = g.more ++ p ∷ [];
    adds = ap (λ xs. xs ++ p ∷ []) g.adds ∙ append_assoc found0 g.more (p ∷ []);
  }

  pub goes_trans : (m0 m1 m2 : List Bool) (f0 f1 f2 : List ℕ) → GoesOn m0 m1 f0 f1 → GoesOn m1 m2 f1 f2 → GoesOn m0 m2 f0 f2
  goes_trans m0 m1 m2 f0 f1 f2 a b = record { kept = λ k h. b.kept k (a.kept k h); more = a.more ++ b.more; adds = b.adds ∙ ap (λ xs. xs ++ b.more) a.adds ∙ append_assoc f0 a.more b.more }

  pub goes_at : (m0 m1 : List Bool) (f0 f1 : List ℕ) (k : ℕ) → GoesOn m0 m1 f0 f1 → k < length f0 → get_or f1 k 0 ≡ get_or f0 k 0
  goes_at m0 m1 f0 f1 k g l = ap (λ xs. get_or xs k 0) g.adds ∙ get_or_append_left f0 g.more 0 k l

  pub goes_length : (m0 m1 : List Bool) (f0 f1 : List ℕ) → GoesOn m0 m1 f0 f1 → length f0 ≤ length f1
  goes_length m0 m1 f0 f1 g = omega (arith, ap length g.adds, length-append f0 g.more)

  pub goes_spread : (m0 m1 : List Bool) (f0 f1 : List ℕ) (b : ℕ) → GoesOn m0 m1 f0 f1 → IsSpread f v m0 b → IsSpread f v m1 b
  goes_spread m0 m1 f0 f1 b g h p block is c u = g.kept p (h p block is c u)

  -- a block with another first use passes
  pub passed_other : (marks : List Bool) (p : ℕ) → ((block : MidBlock) → slice_get f.blocks p ≡ Some block → first_use v (block_lines block) ≡ Untouched → ⊥) → IsPassed f v marks p
  passed_other marks p h block is u = absurd (h block is u)

  pub passed_set : (marks : List Bool) (q p : ℕ) → q < length marks → IsPassed f v marks p → IsPassed f v (slice_set marks q true) p
  passed_set marks q p l h block is u = set_keep marks q p l (h block is u)

  pub passed_here : (marks : List Bool) (p : ℕ) → p < length marks → IsPassed f v (slice_set marks p true) p
  passed_here marks p l block is u = get_or-set_same marks p true false l

  -- the blocks that lead to a block where the variable is wanted
  pub wanted_before : (p b : ℕ) (block : MidBlock) → LeadsTo f p b → slice_get f.blocks p ≡ Some block → first_use v (block_lines block) ≡ Untouched → IsWanted f v (first_of f b) → IsWanted f v (first_of f p)
  wanted_before p b block to is u w =
      (wanted_closed f v).passes_on p b block is u (subst (λ (x : MidBlock). Contains (successors p x.end) b) (block_is p p to.0 block refl to.1 is) to.2) w

  pub spread_all : (marks : List Bool) (lists : List (List ℕ)) (b n : ℕ) → ArePredecessors f lists → length (get_or lists b []) ≤ n → ((k : ℕ) → k < n → IsPassed f v marks (get_or (get_or lists b []) k 0)) → IsSpread f v marks b
  spread_all marks lists b n preds le all p block is c u =
      let h = preds.complete b p (block, is, c) in
      let e : get_or (get_or lists b []) h.0 0 ≡ p = get_or_default (get_or lists b []) h.0 0 p h.1 ∙ h.2 in
      subst (IsPassed f v marks) e (all h.0 (omega (arith, h.1))) block is u

  -- ---- the end of the search

  pub search_done : ValidFunction f → (marks : List Bool) (found : List ℕ) (next : ℕ) → IsSearch f v (length f.blocks) marks found → length found ≤ next → ((k : ℕ) → k < next → IsSpread f v marks (get_or found k 0)) → AreWantedAt f v found
  search_done valid marks found next s le all =
      let closed : Closed f (IsMarked marks) v = record {
        seeds = λ b block is u. s.seeds b block (get_within f.blocks b block is) is u;
        passes_on = λ b t block is u c m.
            let k = s.marked_found t m in
            let e : get_or found k.0 0 ≡ t = get_or_default found k.0 0 t k.1 ∙ k.2 in
            subst (IsSpread f v marks) e (all k.0 (omega (arith, k.1))) b block is c u;
      } in
      record {
        within = λ b c. omega (arith, marked_within marks b (s.found_marked b c), s.one_each);
        sound = s.sound;
        complete = λ b l w. s.marked_found b (has_wanted f (IsMarked marks) v (successors_exist f valid) closed b l w);
      }

  -- the table has the first use of the variable in each block
  pub flow_use : (flow : Flow) → IsFlow f flow → v < f.variables → (p : ℕ) (block : MidBlock) (rows : List (List FirstUse)) → rows ≡ flow.uses.items → slice_get f.blocks p ≡ Some block → get_or (get_or rows p []) v Untouched ≡ first_use v (block_lines block)
  flow_use flow is_flow l p block rows e is = ap (λ (xs : List (List FirstUse)). get_or (get_or xs p []) v Untouched) e ∙ (is_flow.uses.rows p (get_within f.blocks p block is)).each block is v l
