-- One block less that waits.
use Rattle.std.proofs.Common.{◌≡◌, ◌≢◌, ◌≤◌, ◌<◌, ℕ, zero, suc, ◌+◌, arith, rules, ap, refl, sym, ◌∙◌, subst, List, [], ◌∷◌, ◌++◌, length, length-append, get_or, true, false, Bool, cond, inl, inr}
use Rattle.std.proofs.lemmas.List.Elements.{Contains-push_cases, Contains-append_left, Contains-push, Contains-get_or}
use Rattle.std.proofs.lemmas.List.{get_or_past}
use Rattle.std.specs.Prelude.{◌⊎◌, ◌↔◌, slice_index, slice_index_or, All, Contains}
use Rattle.sign_law.specs.Graph.{IsSucc, HasTwo}
use Rattle.sign_law.specs.Search.{Searched, label_at}
use Rattle.sign_law.proofs.Search.{spelled, rests}
use Rattle.sign_law.proofs.Signs.{source}
use Rattle.signature_assign.specs.Pass.{Work, Looking, looked}
use Rattle.signature_assign.specs.Settle.{IsGraph, Settling}
use Rattle.signature_assign.proofs.Inside.{any_default}
use Rattle.signature_assign.proofs.Looks.{Done, Open, Looked, looks}
use Rattle.signature_assign.proofs.Weight.{weight, looked_weight}

less_or : (a b : ℕ) → (a < b) ⊎ (b ≤ a)
less_or a b = grind arith

module _ (succs preds : List (List ℕ)) (two : List Bool) (n : ℕ) (g : IsGraph succs preds two n) where
  -- a block that waits is there
  pub waits_there : (root : ℕ) (labels : List ℕ) (done : List Bool) (ws : List ℕ) (w : ℕ) → Settling succs n root labels done ws → Contains ws w → w < n
  waits_there root labels done ws w s c = elim (less_or w n) as (λ z. w < n) [
    | inl h ↦ h
    | inr h ↦ absurd ((s.searched.of_round w c).1 (get_or_past labels w n (subst (λ (x : ℕ). x ≤ w) (sym s.size) h)))
  ]

  abbrev pub looking : List ℕ → List Bool → List ℕ → Looking
  looking labels done ws = record { work = record { labels = labels; waiting = ws }; done = done }

  -- what looking at the predecessors of the last that waits leaves
  pub record Next (root : ℕ) (labels : List ℕ) (done : List Bool) (ws : List ℕ) (w : ℕ) : Type 0 where
    pub there : w < n
    pub after : Settling succs n root (looked succs two n root (get_or preds w []) (looking labels done ws)).work.labels (looked succs two n root (get_or preds w []) (looking labels done ws)).done (looked succs two n root (get_or preds w []) (looking labels done ws)).work.waiting
    pub lighter : weight n (looked succs two n root (get_or preds w []) (looking labels done ws)).work + 1 ≡ weight n (record { labels = labels; waiting = ws ++ w ∷ [] })

  pub next : (root : ℕ) (labels : List ℕ) (done : List Bool) (ws : List ℕ) (w : ℕ) → Settling succs n root labels done (ws ++ w ∷ []) → Next root labels done ws w
  next root labels done ws w s =
      let two_is : (v : ℕ) → slice_index_or two v false ≡ true → HasTwo (IsSucc succs) v = λ v e. (g.twos v).0 e in
      let two_all : (v : ℕ) → HasTwo (IsSucc succs) v → slice_index_or two v false ≡ true = λ v t. (g.twos v).1 t in
      let k : (label_at n labels w ≡ root) × (label_at n labels w ≢ n) = s.searched.of_round w (Contains-push ws w) in
      let o : Open succs n root w two (λ x. x ≡ w) s.round two_is two_all (looking labels done ws) = record {
        searched = spelled (IsSucc succs) n root (label_at n labels) (label_at n labels) (Done done) (Done done) (Contains (ws ++ w ∷ [])) (λ x. (x ≡ w) ⊎ Contains ws x) s.searched (λ x. refl) (λ p d. d) (λ p d. d) into back;
        is_root = k.0;
        there_ = k.1;
      } in
      let r : Looked succs n root w two (λ x. x ≡ w) s.round two_is two_all (get_or preds w []) (looking labels done ws) (looked succs two n root (get_or preds w []) (looking labels done ws)) =
      looks succs n root w two (λ x. x ≡ w) s.round two_is two_all (get_or preds w []) (looking labels done ws) o
      (λ p c. let e : IsSucc succs p w = (g.back p w).0 c in (e, subst (λ (x : ℕ). p < x) (g.size ∙ sym s.size_done) (source succs p w e)))
      (λ p v c. subst (λ (x : ℕ). v < x) (sym s.size) (g.inside p v c)) in
      record {
        there = waits_there root labels done (ws ++ w ∷ []) w s (Contains-push ws w);
        after = record {
          round = s.round;
          begun = λ z. s.begun (sym (r.kept_labels root s.begun) ∙ z);
          size = r.long ∙ s.size;
          size_done = r.long_done ∙ s.size_done;
          searched = rests (IsSucc succs) n root w (label_at n (looked succs two n root (get_or preds w []) (looking labels done ws)).work.labels) (Done (looked succs two n root (get_or preds w []) (looking labels done ws)).done) (Contains (looked succs two n root (get_or preds w []) (looking labels done ws)).work.waiting) r.open_.searched (λ p e. r.all p ((g.back p w).1 e));
        };
        lighter = ap (λ (x : ℕ). x + 1) (looked_weight succs two n root (get_or preds w []) (looking labels done ws) (λ q v c. subst (λ (x : ℕ). v < x) (sym s.size) (g.inside q v c)) (apart s.round)) ∙ sum (length ws) (length (ws ++ w ∷ [])) (length-append ws (w ∷ []));
      }
    where
      apart : root < n → root ≢ n
      apart h e = omega arith

      into : (x : ℕ) → Contains (ws ++ w ∷ []) x → (x ≡ w) ⊎ Contains ws x
      into x c = elim (Contains-push_cases ws w x c) as (λ z. (x ≡ w) ⊎ Contains ws x) [ inl z ↦ inr z | inr z ↦ inl (sym z) ]

      back : (x : ℕ) → (x ≡ w) ⊎ Contains ws x → Contains (ws ++ w ∷ []) x
      back x (inl e) = subst (λ (y : ℕ). Contains (ws ++ w ∷ []) y) (sym e) (Contains-push ws w)
      back x (inr c) = Contains-append_left ws (w ∷ []) x c

      sum : (a b : ℕ) → b ≡ a + 1 → Rattle.signature_assign.proofs.Weight.unlabelled n labels + a + 1 ≡ Rattle.signature_assign.proofs.Weight.unlabelled n labels + b
      sum a b e = omega arith

  -- the same, as the code has it
  pub settled_as : (root : ℕ) (labels : List ℕ) (done : List Bool) (ws old ps : List ℕ) (w : ℕ) (x : Looking) → old ≡ ws ++ w ∷ [] → Settling succs n root labels done old → ps ≡ get_or preds w [] → x ≡ looked succs two n root ps (looking labels done ws) → Settling succs n root x.work.labels x.done x.work.waiting × (weight n x.work < weight n (record { labels = labels; waiting = old }))
  settled_as root labels done ws old ps w x e s f h =
      let k : Next root labels done ws w = next root labels done ws w (subst (λ (l : List ℕ). Settling succs n root labels done l) e s) in
      let same : x ≡ looked succs two n root (get_or preds w []) (looking labels done ws) = h ∙ ap (λ (l : List ℕ). looked succs two n root l (looking labels done ws)) f in (
        subst (λ (y : Looking). Settling succs n root y.work.labels y.done y.work.waiting) (sym same) k.after,
        below (weight n x.work) (weight n (looked succs two n root (get_or preds w []) (looking labels done ws)).work) (weight n (record { labels = labels; waiting = old })) (ap (λ (y : Looking). weight n y.work) same) (k.lighter ∙ ap (λ (l : List ℕ). weight n (record { labels = labels; waiting = l })) (sym e)),
      )
    where
      below : (a b c : ℕ) → a ≡ b → b + 1 ≡ c → a < c
      below a b c p q = omega arith

  pub last_there : (root : ℕ) (labels : List ℕ) (done : List Bool) (ws old : List ℕ) (w : ℕ) → old ≡ ws ++ w ∷ [] → Settling succs n root labels done old → w < n
  last_there root labels done ws old w e s = (next root labels done ws w (subst (λ (l : List ℕ). Settling succs n root labels done l) e s)).there

  pub succs_inside : (m p : ℕ) → m ≡ n → All (λ v. v < m) (get_or succs p [])
  succs_inside m p e = λ k d h. subst (λ (x : ℕ). get_or (get_or succs p []) k d < x) (sym e) (g.inside p (get_or (get_or succs p []) k d) (Contains-get_or (get_or succs p []) k d h))

  pub preds_inside : (w : ℕ) (ps : List ℕ) → ps ≡ get_or preds w [] → All (λ p. p < length succs) ps
  preds_inside w ps e = λ k d h. source succs (get_or ps k d) w ((g.back (get_or ps k d) w).0 (subst (λ (l : List ℕ). Contains l (get_or ps k d)) e (Contains-get_or ps k d h)))

  pub preds_of : (root : ℕ) (labels : List ℕ) (done : List Bool) (ws old : List ℕ) (w : ℕ) (ps qs : List ℕ) → old ≡ ws ++ w ∷ [] → Settling succs n root labels done old → ps ≡ qs → qs ≡ get_or preds w qs → ps ≡ get_or preds w []
  preds_of root labels done ws old w ps qs e s a b = a ∙ (b ∙ any_default preds w qs [] (subst (λ (x : ℕ). w < x) (sym g.size_back) (last_there root labels done ws old w e s)))
