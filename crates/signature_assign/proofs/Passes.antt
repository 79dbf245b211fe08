-- What passing on keeps: the search stays a search, and the successors get the round's label.
use Rattle.std.proofs.Common.{◌≡◌, ◌≢◌, ◌≤◌, ◌<◌, ℕ, zero, suc, ◌+◌, arith, rules, ap, refl, sym, ◌∙◌, subst, List, [], ◌∷◌, ◌++◌, length, get_or, true, false, Bool, cond, inl, inr}
use Rattle.std.proofs.lemmas.Grind.{common_steps}
use Rattle.std.proofs.lemmas.List.Elements.{Contains-push_cases, Contains-append_left, Contains-append_right, Contains-append_cases, Contains-push}
use Rattle.std.specs.Prelude.{◌⊎◌, ◌==◌, ◌&&◌, if◌then◌else◌, slice_index, slice_index_or, slice_set, All, Contains}
use Rattle.sign_law.specs.Graph.{HasTwo, Linked}
use Rattle.sign_law.specs.Search.{Searched, labelled, label_at}
use Rattle.sign_law.proofs.Search.{here, there, labels, spelled, of_round, linked_on, above_root}
use Rattle.signature_assign.specs.Pass.{Work, given, passed}

equal_or : (a b : ℕ) → (a ≡ b) ⊎ (a ≢ b)
equal_or a b = grind arith

pub set_here : (l : List ℕ) (v r d : ℕ) → v < length l → get_or (slice_set l v r) v d ≡ r
set_here l v r d h = grind (arith, common_steps)

set_there : (l : List ℕ) (v r w d : ℕ) → w ≢ v → get_or (slice_set l v r) w d ≡ get_or l w d
set_there l v r w d h = grind (arith, common_steps)

pub set_long : (l : List ℕ) (v r : ℕ) → length (slice_set l v r) ≡ length l
set_long l v r = grind (arith, common_steps)

pub same_default : (l : List ℕ) (v d : ℕ) → v < length l → get_or l v d ≡ slice_index l v
same_default l v d h = grind (arith, common_steps)

pub set_label : (n : ℕ) (l : List ℕ) (v r : ℕ) → v < length l → (w : ℕ) → labelled (label_at n l) v r w ≡ label_at n (slice_set l v r) w
set_label n l v r h w = elim (equal_or w v) as (λ z. labelled (label_at n l) v r w ≡ label_at n (slice_set l v r) w) [
  | inl e ↦ ap (λ (x : ℕ). labelled (label_at n l) v r x) e ∙ (here (label_at n l) v r ∙ (sym (set_here l v r n h) ∙ ap (λ (x : ℕ). get_or (slice_set l v r) x n) (sym e)))
  | inr m ↦ there (label_at n l) v r w m ∙ sym (set_there l v r w n m)
]

-- What is kept and got.
pub record Passed (S : ℕ → ℕ → Type 0) (n root : ℕ) (next : List ℕ) (done X : ℕ → Type 0) (s t : Work) : Type 0 where
  pub searched : Searched S n root (label_at n t.labels) done (λ w. X w ⊎ Contains t.waiting w)
  pub long : length t.labels ≡ length s.labels
  pub kept : (w : ℕ) → label_at n s.labels w ≢ n → label_at n t.labels w ≡ label_at n s.labels w
  pub got : (v : ℕ) → Contains next v → HasTwo S v → label_at n t.labels v ≢ n

true_of : (a b : ℕ) → (a == b) ≡ true → a ≡ b
true_of a b h = grind arith

false_of : (a b : ℕ) → (a == b) ≡ false → a ≢ b
false_of a b h = grind arith

module _ (S : ℕ → ℕ → Type 0) (n root p u : ℕ) (two : List Bool) (done X : ℕ → Type 0) (below : root < n) (leads : S p u) (is_two : (v : ℕ) → slice_index_or two v false ≡ true → HasTwo S v) (all_two : (v : ℕ) → HasTwo S v → slice_index_or two v false ≡ true) where
  -- before a successor: the search, and the block that the label comes from
  pub record Ready (s : Work) : Type 0 where
    pub searched : Searched S n root (label_at n s.labels) done (λ w. X w ⊎ Contains s.waiting w)
    pub is_root : label_at n s.labels u ≡ root
    pub there_ : label_at n s.labels u ≢ n

  -- after it
  pub record Given (v : ℕ) (s t : Work) : Type 0 where
    pub ready : Ready t
    pub long : length t.labels ≡ length s.labels
    pub kept : (w : ℕ) → label_at n s.labels w ≢ n → label_at n t.labels w ≡ label_at n s.labels w
    pub got : HasTwo S v → label_at n t.labels v ≢ n

  new_given : (v : ℕ) (s : Work) → Ready s → S p v → v < length s.labels → slice_index_or two v false ≡ true → label_at n s.labels v ≡ n → Given v s (record { labels = slice_set s.labels v root; waiting = s.waiting ++ v ∷ [] })
  new_given v s r k h e m =
      let t : HasTwo S v = is_two v e in
      let link : Linked S v root = linked_on S n root p u v (label_at n s.labels) done (λ w. X w ⊎ Contains s.waiting w) r.searched leads k r.is_root r.there_ t in
      let low : root ≤ v = above_root S n root v (label_at n s.labels) done (λ w. X w ⊎ Contains s.waiting w) r.searched m t in
      let next : Searched S n root (labelled (label_at n s.labels) v root) done (λ w. (w ≡ v) ⊎ (X w ⊎ Contains s.waiting w)) = labels S n root v (label_at n s.labels) done (λ w. X w ⊎ Contains s.waiting w) r.searched below m t link low in
      record {
        ready = record {
          searched = spelled S n root (labelled (label_at n s.labels) v root) (label_at n (slice_set s.labels v root)) done done (λ w. (w ≡ v) ⊎ (X w ⊎ Contains s.waiting w)) (λ w. X w ⊎ Contains (s.waiting ++ v ∷ []) w) next (set_label n s.labels v root h) (λ q d. d) (λ q d. d) into back;
          is_root = old u r.there_ ∙ r.is_root;
          there_ = λ z. r.there_ (sym (old u r.there_) ∙ z);
        };
        long = set_long s.labels v root;
        kept = old;
        got = λ x z. less root n below (sym (set_here s.labels v root n h) ∙ z);
      }
    where
      less : (a b : ℕ) → a < b → a ≡ b → ⊥
      less a b k z = omega arith

      old : (w : ℕ) → label_at n s.labels w ≢ n → label_at n (slice_set s.labels v root) w ≡ label_at n s.labels w
      old w q = set_there s.labels v root w n (λ z. q (ap (λ (x : ℕ). label_at n s.labels x) z ∙ m))

      into : (w : ℕ) → (w ≡ v) ⊎ (X w ⊎ Contains s.waiting w) → X w ⊎ Contains (s.waiting ++ v ∷ []) w
      into w (inl z) = inr (subst (λ (x : ℕ). Contains (s.waiting ++ v ∷ []) x) (sym z) (Contains-push s.waiting v))
      into w (inr (inl z)) = inl z
      into w (inr (inr z)) = inr (Contains-append_left s.waiting (v ∷ []) w z)

      back : (w : ℕ) → X w ⊎ Contains (s.waiting ++ v ∷ []) w → (w ≡ v) ⊎ (X w ⊎ Contains s.waiting w)
      back w (inl z) = inr (inl z)
      back w (inr c) = elim (Contains-push_cases s.waiting v w c) as (λ z. (w ≡ v) ⊎ (X w ⊎ Contains s.waiting w)) [ inl z ↦ inr (inr z) | inr z ↦ inl (sym z) ]

  same_given : (v : ℕ) (s : Work) → Ready s → (HasTwo S v → label_at n s.labels v ≢ n) → Given v s s
  same_given v s r h = record { ready = r; long = refl; kept = λ w q. refl; got = h }

  one_given : (v : ℕ) (s : Work) → Ready s → S p v → v < length s.labels → (a b : Bool) → slice_index_or two v false ≡ a → (slice_index s.labels v == n) ≡ b → Given v s (if a && b then record { labels = slice_set s.labels v root; waiting = s.waiting ++ v ∷ [] } else s)
  one_given v s r k h true true e m = new_given v s r k h e (same_default s.labels v n h ∙ true_of (slice_index s.labels v) n m)
  one_given v s r k h true false e m = same_given v s r (λ t z. false_of (slice_index s.labels v) n m (sym (same_default s.labels v n h) ∙ z))
  one_given v s r k h false b e m = same_given v s r (λ t. absurd (no_both (sym e ∙ all_two v t)))
    where
      no_both : false ≡ true → ⊥
      no_both e = cc

  pub gives : (v : ℕ) (s : Work) → Ready s → S p v → v < length s.labels → Given v s (given two n root v s)
  gives v s r k h = one_given v s r k h (slice_index_or two v false) (slice_index s.labels v == n) refl refl

  pub first : (v : ℕ) (vs : List ℕ) → Contains (v ∷ vs) v
  first v vs = (0, zero_less (length vs), refl)
    where
      zero_less : (n : ℕ) → 0 < suc n
      zero_less n = omega arith

  pub later : (v : ℕ) (vs : List ℕ) (w : ℕ) → Contains vs w → Contains (v ∷ vs) w
  later v vs w c = Contains-append_right (v ∷ []) vs w c

  pub first_or : (v : ℕ) (vs : List ℕ) (w : ℕ) → Contains (v ∷ vs) w → (v ≡ w) ⊎ Contains vs w
  first_or v vs w c = elim (Contains-append_cases (v ∷ []) vs w c) as (λ z. (v ≡ w) ⊎ Contains vs w) [ inl z ↦ inl (alone v w z) | inr z ↦ inr z ]
    where
      alone : (v w : ℕ) → Contains (v ∷ []) w → v ≡ w
      alone v w c = only v w c.0 c.1 c.2
        where
          only : (v w k : ℕ) → k < 1 → slice_index_or (v ∷ []) k w ≡ w → v ≡ w
          only v w zero h e = e
          only v w (suc k) h e = absurd (omega arith)

  joined : (v : ℕ) (vs : List ℕ) (s : Work) → S p v × (v < length s.labels) → Ready s → ((t : Work) → Ready t → ((w : ℕ) → Contains vs w → S p w × (w < length t.labels)) → Passed S n root vs done X t (passed two n root vs t)) → ((w : ℕ) → Contains vs w → S p w × (w < length s.labels)) → Passed S n root (v ∷ vs) done X s (passed two n root vs (given two n root v s))
  joined v vs s k r go f =
      let t : Work = given two n root v s in
      let g : Given v s t = gives v s r k.0 k.1 in
      let rest : Passed S n root vs done X t (passed two n root vs t) = go t g.ready (λ w c. ((f w c).0, subst (λ (x : ℕ). w < x) (sym g.long) (f w c).1)) in
      record {
        searched = rest.searched;
        long = rest.long ∙ g.long;
        kept = λ w q. rest.kept w (λ z. q (sym (g.kept w q) ∙ z)) ∙ g.kept w q;
        got = λ w c t2. by_first v vs s w t2 g rest (first_or v vs w c);
      }
    where
      by_first : (v : ℕ) (vs : List ℕ) (s : Work) (w : ℕ) → HasTwo S w → (g : Given v s (given two n root v s)) → (rest : Passed S n root vs done X (given two n root v s) (passed two n root vs (given two n root v s))) → (v ≡ w) ⊎ Contains vs w → label_at n (passed two n root vs (given two n root v s)).labels w ≢ n
      by_first v vs s w t2 g rest (inl e) z =
          let a : label_at n (given two n root v s).labels w ≢ n = subst (λ (x : ℕ). label_at n (given two n root v s).labels x ≢ n) e (g.got (subst (HasTwo S) (sym e) t2)) in
          a (sym (rest.kept w a) ∙ z)
      by_first v vs s w t2 g rest (inr c) z = rest.got w c t2 z

  pub passes : (next : List ℕ) (s : Work) → Ready s → ((v : ℕ) → Contains next v → S p v × (v < length s.labels)) → Passed S n root next done X s (passed two n root next s)
  passes [] s r f = record { searched = r.searched; long = refl; kept = λ w q. refl; got = λ v c. absurd (nothing v c) }
    where
      nothing : (v : ℕ) → Contains [] v → ⊥
      nothing v c = omega (arith, c.1)
  passes (v ∷ vs) s r f = joined v vs s (f v (first v vs)) r (λ t q. passes vs t q) (λ w c. f w (later v vs w c))
