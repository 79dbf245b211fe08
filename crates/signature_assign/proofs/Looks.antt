-- What looking at predecessors keeps, and that they are done.
use Rattle.std.proofs.Common.{◌≡◌, ◌≢◌, ◌≤◌, ◌<◌, ℕ, zero, suc, ◌+◌, arith, rules, ap, refl, sym, ◌∙◌, subst, List, [], ◌∷◌, ◌++◌, length, get_or, true, false, Bool, cond, inl, inr}
use Rattle.std.proofs.lemmas.Grind.{common_steps}
use Rattle.std.proofs.lemmas.List.Elements.{Contains-append_right, Contains-append_cases}
use Rattle.std.specs.Prelude.{◌⊎◌, ◌==◌, ◌&&◌, if◌then◌else◌, slice_index, slice_index_or, slice_set, All, Contains}
use Rattle.sign_law.specs.Graph.{IsSucc, HasTwo, Linked}
use Rattle.sign_law.specs.Search.{Searched, label_at}
use Rattle.sign_law.proofs.Search.{spelled, of_round, finishes}
use Rattle.signature_assign.specs.Pass.{Work, passed, Looking, looked_at, looked}
use Rattle.signature_assign.proofs.Passes.{Passed, Ready, passes, first, later, first_or}

equal_or : (a b : ℕ) → (a ≡ b) ⊎ (a ≢ b)
equal_or a b = grind arith

-- a predecessor has passed its label on
abbrev pub Done : List Bool → ℕ → Type 0
Done done p = slice_index_or done p false ≡ true

mark_here : (l : List Bool) (p : ℕ) → p < length l → Done (slice_set l p true) p
mark_here l p h = grind (arith, common_steps)

mark_there : (l : List Bool) (p q : ℕ) → q ≢ p → slice_index_or (slice_set l p true) q false ≡ slice_index_or l q false
mark_there l p q h = grind (arith, common_steps)

mark_long : (l : List Bool) (p : ℕ) → length (slice_set l p true) ≡ length l
mark_long l p = grind (arith, common_steps)

module _ (succs : List (List ℕ)) (n root u : ℕ) (two : List Bool) (X : ℕ → Type 0) (below : root < n) (is_two : (v : ℕ) → slice_index_or two v false ≡ true → HasTwo (IsSucc succs) v) (all_two : (v : ℕ) → HasTwo (IsSucc succs) v → slice_index_or two v false ≡ true) where
  abbrev S : ℕ → ℕ → Type 0
  S = IsSucc succs

  pub record Open (s : Looking) : Type 0 where
    pub searched : Searched (IsSucc succs) n root (label_at n s.work.labels) (Done s.done) (λ w. X w ⊎ Contains s.work.waiting w)
    pub is_root : label_at n s.work.labels u ≡ root
    pub there_ : label_at n s.work.labels u ≢ n

  pub record Looked (ps : List ℕ) (s t : Looking) : Type 0 where
    pub open_ : Open t
    pub long : length t.work.labels ≡ length s.work.labels
    pub long_done : length t.done ≡ length s.done
    pub kept : (q : ℕ) → Done s.done q → Done t.done q
    pub kept_labels : (w : ℕ) → label_at n s.work.labels w ≢ n → label_at n t.work.labels w ≡ label_at n s.work.labels w
    pub all : (p : ℕ) → Contains ps p → Done t.done p

  one_looked : (p : ℕ) (s : Looking) → Open s → S p u → p < length s.done → ((v : ℕ) → S p v → v < length s.work.labels) → (z : Bool) → slice_index_or s.done p false ≡ z → Looked (p ∷ []) s (if z then s else record { work = passed two n root (get_or succs p []) s.work; done = slice_set s.done p true })
  one_looked p s o k h f true e = record { open_ = o; long = refl; long_done = refl; kept = λ q d. d; kept_labels = λ w q. refl; all = λ q c. elim (first_or (IsSucc succs) n root p u two (Done s.done) X below k is_two all_two p [] q c) as (λ z. Done s.done q) [ inl g ↦ subst (λ (x : ℕ). Done s.done x) g e | inr g ↦ absurd (nothing q g) ] }
    where
      nothing : (q : ℕ) → Contains [] q → ⊥
      nothing q c = omega (arith, c.1)
  one_looked p s o k h f false e =
      let r : Ready (IsSucc succs) n root p u two (Done s.done) X below k is_two all_two s.work = record { searched = o.searched; is_root = o.is_root; there_ = o.there_ } in
      let g : Passed (IsSucc succs) n root (get_or succs p []) (Done s.done) X s.work (passed two n root (get_or succs p []) s.work) = passes (IsSucc succs) n root p u two (Done s.done) X below k is_two all_two (get_or succs p []) s.work r (λ v c. (c, f v c)) in
      by_passed g
    where
      t : Work
      t = passed two n root (get_or succs p []) s.work

      no_both : Done s.done p → ⊥
      no_both d = contra (sym e ∙ d)
        where
          contra : false ≡ true → ⊥
          contra h = cc

      into : (q : ℕ) → (q ≡ p) ⊎ Done s.done q → Done (slice_set s.done p true) q
      into q (inl z) = subst (λ (x : ℕ). Done (slice_set s.done p true) x) (sym z) (mark_here s.done p h)
      into q (inr d) = elim (equal_or q p) as (λ z. Done (slice_set s.done p true) q) [ inl z ↦ subst (λ (x : ℕ). Done (slice_set s.done p true) x) (sym z) (mark_here s.done p h) | inr z ↦ mark_there s.done p q z ∙ d ]

      back : (q : ℕ) → Done (slice_set s.done p true) q → (q ≡ p) ⊎ Done s.done q
      back q d = elim (equal_or q p) as (λ z. (q ≡ p) ⊎ Done s.done q) [ inl z ↦ inl z | inr z ↦ inr (sym (mark_there s.done p q z) ∙ d) ]

      by_passed : Passed (IsSucc succs) n root (get_or succs p []) (Done s.done) X s.work t → Looked (p ∷ []) s (record { work = t; done = slice_set s.done p true })
      by_passed g =
          let alike : (w : ℕ) → S p w → HasTwo (IsSucc succs) w → label_at n t.labels w ≡ root = λ w c y. of_round (IsSucc succs) n root p w (label_at n t.labels) (Done s.done) (λ x. X x ⊎ Contains t.waiting x) g.searched no_both c (g.got w c y) in
          let done_ : Searched (IsSucc succs) n root (label_at n t.labels) (λ q. (q ≡ p) ⊎ Done s.done q) (λ x. X x ⊎ Contains t.waiting x) = finishes (IsSucc succs) n root p (label_at n t.labels) (Done s.done) (λ x. X x ⊎ Contains t.waiting x) g.searched below alike in
          record {
            open_ = record {
              searched = spelled (IsSucc succs) n root (label_at n t.labels) (label_at n t.labels) (λ q. (q ≡ p) ⊎ Done s.done q) (Done (slice_set s.done p true)) (λ x. X x ⊎ Contains t.waiting x) (λ x. X x ⊎ Contains t.waiting x) done_ (λ w. refl) into back (λ w x. x) (λ w x. x);
              is_root = g.kept u o.there_ ∙ o.is_root;
              there_ = λ z. o.there_ (sym (g.kept u o.there_) ∙ z);
            };
            long = g.long;
            long_done = mark_long s.done p;
            kept = λ q d. into q (inr d);
            kept_labels = λ w q. g.kept w q;
            all = λ q c. elim (first_or (IsSucc succs) n root p u two (Done s.done) X below k is_two all_two p [] q c) as (λ z. Done (slice_set s.done p true) q) [ inl z ↦ into q (inl (sym z)) | inr z ↦ absurd (nothing q z) ];
          }
        where
          nothing : (q : ℕ) → Contains [] q → ⊥
          nothing q c = omega (arith, c.1)

  looked_then : (p : ℕ) (ps : List ℕ) (s t v : Looking) → Looked (p ∷ []) s t → Looked ps t v → Looked (p ∷ ps) s v
  looked_then p ps s t v a b = record {
    open_ = b.open_;
    long = b.long ∙ a.long;
    long_done = b.long_done ∙ a.long_done;
    kept = λ q d. b.kept q (a.kept q d);
    kept_labels = λ w q. b.kept_labels w (λ z. q (sym (a.kept_labels w q) ∙ z)) ∙ a.kept_labels w q;
    all = λ q c. by_first q (first_case p ps q c);
  }
    where
      first_case : (p : ℕ) (ps : List ℕ) (q : ℕ) → Contains (p ∷ ps) q → Contains (p ∷ []) q ⊎ Contains ps q
      first_case p ps q c = Contains-append_cases (p ∷ []) ps q c

      by_first : (q : ℕ) → Contains (p ∷ []) q ⊎ Contains ps q → Done v.done q
      by_first q (inl c) = b.kept q (a.all q c)
      by_first q (inr c) = b.all q c

  in_front : (p : ℕ) (ps : List ℕ) → Contains (p ∷ ps) p
  in_front p ps = (0, zero_less (length ps), refl)
    where
      zero_less : (m : ℕ) → 0 < suc m
      zero_less m = omega arith

  in_rest : (p : ℕ) (ps : List ℕ) (q : ℕ) → Contains ps q → Contains (p ∷ ps) q
  in_rest p ps q c = Contains-append_right (p ∷ []) ps q c

  pub looks : (ps : List ℕ) (s : Looking) → Open s → ((p : ℕ) → Contains ps p → S p u × (p < length s.done)) → ((p v : ℕ) → S p v → v < length s.work.labels) → Looked ps s (looked succs two n root ps s)
  looks [] s o f g = record { open_ = o; long = refl; long_done = refl; kept = λ q d. d; kept_labels = λ w q. refl; all = λ q c. absurd (nothing q c) }
    where
      nothing : (q : ℕ) → Contains [] q → ⊥
      nothing q c = omega (arith, c.1)
  looks (p ∷ ps) s o f g =
      let a : Looked (p ∷ []) s (looked_at succs two n root p s) = one_looked p s o (f p (in_front p ps)).0 (f p (in_front p ps)).1 (g p) (slice_index_or s.done p false) refl in
      looked_then p ps s (looked_at succs two n root p s) (looked succs two n root ps (looked_at succs two n root p s)) a
      (looks ps (looked_at succs two n root p s) a.open_ (λ q c. ((f q (in_rest p ps q c)).0, subst (λ (x : ℕ). q < x) (sym a.long_done) (f q (in_rest p ps q c)).1)) (λ q v c. subst (λ (x : ℕ). v < x) (sym a.long) (g q v c)))
