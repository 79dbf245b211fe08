-- From round to round.
use Rattle.std.proofs.Common.{◌≡◌, ◌≢◌, ◌≤◌, ◌<◌, ℕ, zero, suc, ◌+◌, arith, rules, ap, refl, sym, ◌∙◌, subst, List, [], ◌∷◌, ◌++◌, length, length-append, get_or, replicate, true, false, Bool, cond, inl, inr}
use Rattle.std.proofs.lemmas.Grind.{common_steps}
use Rattle.std.proofs.lemmas.List.{length-replicate}
use Rattle.std.specs.Prelude.{◌⊎◌, ◌↔◌, ◌==◌, ◌&&◌, slice_index, slice_index_or, slice_set, Contains}
use Rattle.sign_law.specs.Graph.{IsSucc, HasTwo, self}
use Rattle.sign_law.specs.Signs.{AreLabels}
use Rattle.sign_law.specs.Search.{Searched, label_at, labelled}
use Rattle.sign_law.proofs.Search.{begins, skips, labels, ends, spelled}
use Rattle.signature_assign.specs.Settle.{IsGraph, Settling, Rounds}
use Rattle.signature_assign.proofs.Passes.{set_label, set_here, set_long, same_default}

all_same : (n x w : ℕ) → get_or (replicate n x) w x ≡ x
all_same zero x w = refl
all_same (suc n) x zero = refl
all_same (suc n) x (suc w) = all_same n x w

none_done : (n w : ℕ) → slice_index_or (replicate n false) w false ≡ false
none_done zero w = refl
none_done (suc n) zero = refl
none_done (suc n) (suc w) = none_done n w

no_both : false ≡ true → ⊥
no_both e = cc

module _ (succs preds : List (List ℕ)) (two : List Bool) (n : ℕ) (g : IsGraph succs preds two n) where
  pub start : Rounds succs n 0 (replicate n n) (replicate n false)
  start = record {
    size = length-replicate n n;
    size_done = length-replicate n false;
    searched = spelled (IsSucc succs) n 0 (label_at n (replicate n n)) (label_at n (replicate n n)) (λ p. ⊥) (λ p. slice_index_or (replicate n false) p false ≡ true) (λ w. ⊥) (λ w. ⊥) (begins (IsSucc succs) n (label_at n (replicate n n)) (λ w. all_same n n w)) (λ w. refl) (λ p d. absurd d) (λ p d. no_both (sym (none_done n p) ∙ d)) (λ w d. d) (λ w d. d);
  }

  pub enters : (root : ℕ) (ls : List ℕ) (done : List Bool) → root < n → Rounds succs n root ls done → slice_index_or two root false ≡ true → slice_index ls root ≡ n → Settling succs n root (slice_set ls root root) done (root ∷ [])
  enters root ls done h r e m = record {
    round = h;
    size = set_long ls root root ∙ r.size;
    size_done = r.size_done;
    begun = λ z. apart h (sym (set_here ls root root n inside) ∙ z);
    searched = spelled (IsSucc succs) n root (labelled (label_at n ls) root root) (label_at n (slice_set ls root root)) (λ p. slice_index_or done p false ≡ true) (λ p. slice_index_or done p false ≡ true) (λ w. (w ≡ root) ⊎ ⊥) (Contains (root ∷ [])) (labels (IsSucc succs) n root root (label_at n ls) (λ p. slice_index_or done p false ≡ true) (λ w. ⊥) r.searched h (same_default ls root n inside ∙ m) t (self root t refl) (same root)) (set_label n ls root root inside) (λ p d. d) (λ p d. d) into back;
  }
    where
      t : HasTwo (IsSucc succs) root
      t = (g.twos root).0 e

      inside : root < length ls
      inside = subst (λ (x : ℕ). root < x) (sym r.size) h

      apart : root < n → root ≡ n → ⊥
      apart h e = omega arith

      same : (x : ℕ) → x ≤ x
      same x = omega arith

      into : (w : ℕ) → (w ≡ root) ⊎ ⊥ → Contains (root ∷ []) w
      into w (inl z) = subst (λ (x : ℕ). Contains (root ∷ []) x) (sym z) (0, one_less, refl)
        where
          one_less : 0 < 1
          one_less = omega arith
      into w (inr z) = absurd z

      only : (w k : ℕ) → k < 1 → slice_index_or (root ∷ []) k w ≡ w → w ≡ root
      only w zero h e = sym e
      only w (suc k) h e = absurd (omega arith)

      back : (w : ℕ) → Contains (root ∷ []) w → (w ≡ root) ⊎ ⊥
      back w c = inl (only w c.0 c.1 c.2)

  one_on : (root : ℕ) → suc root ≡ root + 1
  one_on root = omega arith

  pub skipped : (root : ℕ) (ls : List ℕ) (done : List Bool) → Rounds succs n root ls done → (HasTwo (IsSucc succs) root → label_at n ls root ≢ n) → Rounds succs n (root + 1) ls done
  skipped root ls done r h = subst (λ (x : ℕ). Rounds succs n x ls done) (one_on root) (record { size = r.size; size_done = r.size_done; searched = skips (IsSucc succs) n root (label_at n ls) (λ p. slice_index_or done p false ≡ true) r.searched h })

  pub settled : (root : ℕ) (ls : List ℕ) (done : List Bool) → Settling succs n root ls done [] → Rounds succs n (root + 1) ls done
  settled root ls done s = skipped root ls done (record { size = s.size; size_done = s.size_done; searched = spelled (IsSucc succs) n root (label_at n ls) (label_at n ls) (λ p. slice_index_or done p false ≡ true) (λ p. slice_index_or done p false ≡ true) (Contains []) (λ w. ⊥) s.searched (λ w. refl) (λ p d. d) (λ p d. d) nothing (λ w d. absurd d) }) (λ t. s.begun)
    where
      nothing : (w : ℕ) → Contains [] w → ⊥
      nothing w c = omega (arith, c.1)

  -- a block that has a label, or has not two predecessors, begins no round
  pub idle : (root : ℕ) (ls : List ℕ) (done : List Bool) → root < n → Rounds succs n root ls done → (slice_index_or two root false ≡ false) ⊎ (slice_index ls root ≢ n) → Rounds succs n (root + 1) ls done
  idle root ls done h r (inl e) = skipped root ls done r (λ t. absurd (no_both (sym e ∙ (g.twos root).1 t)))
  idle root ls done h r (inr e) = skipped root ls done r (λ t z. e (sym (same_default ls root n (subst (λ (x : ℕ). root < x) (sym r.size) h)) ∙ z))

  pub over : (ls : List ℕ) (done : List Bool) → Rounds succs n n ls done → AreLabels (IsSucc succs) (label_at n ls)
  over ls done r = ends (IsSucc succs) n (label_at n ls) (λ p. slice_index_or done p false ≡ true) r.searched (λ u w e. g.inside u w e)

pub moved : (succs : List (List ℕ)) (n root : ℕ) (ls ls' : List ℕ) (done done' : List Bool) → ls' ≡ ls → done' ≡ done → Rounds succs n root ls done → Rounds succs n root ls' done'
moved succs n root ls ls' done done' e f r = subst (λ (x : List ℕ). Rounds succs n root x done') (sym e) (subst (λ (x : List Bool). Rounds succs n root ls x) (sym f) r)
