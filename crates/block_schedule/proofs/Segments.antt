-- Lists of words whose longest runs take turns: cut at a word that is in no run, and whole runs.
use Rattle.std.proofs.Common.{◌≡◌, ◌≢◌, ◌≤◌, ◌<◌, ℕ, zero, suc, ◌+◌, ◌-◌, arith, ap, refl, sym, ◌∙◌, subst, List, [], ◌∷◌, ◌++◌, append_assoc, append-nil, length, replicate, Bool, true, false, cond, inl, inr, ⊎_elim}
use Rattle.std.specs.Prelude.{◌⊎◌, ◌&&◌, IsTrue, count_by}
use Rattle.std.specs.List.{list_all}
use Rattle.std.proofs.lemmas.List.Sums.{sum_by-cons}
use Rattle.mips_isa.specs.declared.instr.Instr.{Instr}
use Rattle.mips_text.specs.Turns as words
use Rattle.hard_items.specs.Forms.{Each}
use Rattle.hard_items.specs.Streams.{nop}

no_true : true ≡ false → ⊥
no_true e = cc

heads : {A : Type 0} (x y : A) (xs ys : List A) → x ∷ xs ≡ y ∷ ys → x ≡ y
heads x y xs ys e = cc

tails : {A : Type 0} (x y : A) (xs ys : List A) → x ∷ xs ≡ y ∷ ys → xs ≡ ys
tails x y xs ys e = cc

-- ---- turns

count_cons : (s : words.Stream) (us : List words.Stream) → count_by words.is_first (s ∷ us) ≡ cond (words.is_first s) 1 0 + count_by words.is_first us
count_cons s us = sum_by-cons (λ (x : words.Stream). cond (words.is_first x) 1 0) s us

count_second : (n : ℕ) → count_by words.is_first (replicate n words.Second) ≡ 0
count_second zero = refl
count_second (suc n) = count_cons words.Second (replicate n words.Second) ∙ (ap (λ (k : ℕ). 0 + k) (count_second n))

count_first : (n : ℕ) → count_by words.is_first (replicate n words.First) ≡ n
count_first zero = refl
count_first (suc n) = count_cons words.First (replicate n words.First) ∙ (ap (λ (k : ℕ). 1 + k) (count_first n) ∙ one n)
  where
    one : (n : ℕ) → 1 + n ≡ suc n
    one n = omega arith

firsts : (m n : ℕ) → count_by words.is_first (words.in_turns m n) ≡ m
firsts zero n = count_second n
firsts (suc m) zero = count_first (suc m)
firsts (suc m) (suc n) = count_cons words.First (words.Second ∷ words.in_turns m n) ∙ (ap (λ (k : ℕ). 1 + k) (count_cons words.Second (words.in_turns m n) ∙ ap (λ (k : ℕ). 0 + k) (firsts m n)) ∙ one m)
  where
    one : (n : ℕ) → 1 + (0 + n) ≡ suc n
    one n = omega arith

long_same : (s : words.Stream) (n : ℕ) → length (replicate n s) ≡ n
long_same s zero = refl
long_same s (suc n) = ap (λ (k : ℕ). suc k) (long_same s n)

turns_long : (m n : ℕ) → length (words.in_turns m n) ≡ m + n
turns_long zero n = long_same words.Second n ∙ sym (Rattle.std.proofs.Common.zero-add n)
turns_long (suc m) zero = ap (λ (k : ℕ). suc k) (long_same words.First m) ∙ sym (Rattle.std.proofs.Common.add-zero (suc m))
turns_long (suc m) (suc n) = up (length (words.in_turns m n)) m n (turns_long m n)
  where
    up : (k m n : ℕ) → k ≡ m + n → suc (suc k) ≡ suc m + suc n
    up k m n e = omega arith

-- Words whose units are in turns take turns.
pub take_turns : (ws : List Instr) (m n : ℕ) → words.units ws ≡ words.in_turns m n → words.TakeTurns ws
take_turns ws m n e = subst (λ (us : List words.Stream). us ≡ words.in_turns (count_by words.is_first us) (length us - count_by words.is_first us)) (sym e)
    (ap (λ (k : ℕ). words.in_turns k n) (sym (firsts m n)) ∙ ap (λ (k : ℕ). words.in_turns (count_by words.is_first (words.in_turns m n)) k) (rest (length (words.in_turns m n)) (count_by words.is_first (words.in_turns m n)) m n (turns_long m n) (firsts m n)))
  where
    rest : (l c m n : ℕ) → l ≡ m + n → c ≡ m → n ≡ l - c
    rest l c m n e f = omega arith

-- ---- where a word stands

split : (xs : List Instr) (f : Instr) (ys bs rs : List Instr) → xs ++ f ∷ ys ≡ bs ++ rs → ((more : List Instr) × (bs ≡ xs ++ f ∷ more) × (ys ≡ more ++ rs)) ⊎ ((more : List Instr) × (xs ≡ bs ++ more) × (more ++ f ∷ ys ≡ rs))
split [] f ys [] rs e = inr ([], refl, e)
split [] f ys (b ∷ bs) rs e = inl (bs, ap (λ (x : Instr). x ∷ bs) (sym (heads f b ys (bs ++ rs) e)), tails f b ys (bs ++ rs) e)
split (x ∷ xs) f ys [] rs e = inr (x ∷ xs, refl, e)
split (x ∷ xs) f ys (b ∷ bs) rs e = by (split xs f ys bs rs (tails x b (xs ++ f ∷ ys) (bs ++ rs) e))
  where
    same : x ≡ b
    same = heads x b (xs ++ f ∷ ys) (bs ++ rs) e

    by : ((more : List Instr) × (bs ≡ xs ++ f ∷ more) × (ys ≡ more ++ rs)) ⊎ ((more : List Instr) × (xs ≡ bs ++ more) × (more ++ f ∷ ys ≡ rs)) →
        ((more : List Instr) × (b ∷ bs ≡ x ∷ (xs ++ f ∷ more)) × (ys ≡ more ++ rs)) ⊎ ((more : List Instr) × (x ∷ xs ≡ b ∷ (bs ++ more)) × (more ++ f ∷ ys ≡ rs))
    by (inl h) = inl (h.0, ap (λ (z : Instr). z ∷ bs) (sym same) ∙ ap (λ (l : List Instr). x ∷ l) h.1, h.2)
    by (inr h) = inr (h.0, ap (λ (z : Instr). z ∷ xs) same ∙ ap (λ (l : List Instr). b ∷ l) h.1, h.2)

last_of : (xs : List Instr) → (xs ≡ []) ⊎ ((front : List Instr) × (i : Instr) × (xs ≡ front ++ i ∷ []))
last_of [] = inl refl
last_of (x ∷ xs) = by (last_of xs)
  where
    by : (xs ≡ []) ⊎ ((front : List Instr) × (i : Instr) × (xs ≡ front ++ i ∷ [])) → (x ∷ xs ≡ []) ⊎ ((front : List Instr) × (i : Instr) × (x ∷ xs ≡ front ++ i ∷ []))
    by (inl e) = inr ([], x, ap (λ (l : List Instr). x ∷ l) e)
    by (inr h) = inr (x ∷ h.0, h.1, ap (λ (l : List Instr). x ∷ l) h.2)

module _ (pass : Instr → Bool) where
  abbrev pub AllPass : List Instr → Type 0
  AllPass ws = Each (λ w. pass w ≡ true) ws

  abbrev pub Turns : List Instr → Type 0
  Turns ws = words.TurnedWhere pass ws

  at_front : (xs : List Instr) (i : Instr) (ys : List Instr) → AllPass (xs ++ i ∷ ys) → pass i ≡ true
  at_front [] i ys h = h.0
  at_front (x ∷ xs) i ys h = at_front xs i ys h.1

  all_back : (xs ys : List Instr) → AllPass (xs ++ ys) → AllPass ys
  all_back [] ys h = h
  all_back (x ∷ xs) ys h = all_back xs ys h.1

  in_list : (xs : List Instr) (f : Instr) (ys : List Instr) → IsTrue (list_all pass (xs ++ f ∷ ys)) → pass f ≡ true
  in_list [] f ys h = left (pass f) (list_all pass ys) h
    where
      left : (x y : Bool) → (x && y) ≡ true → x ≡ true
      left true y h = refl
      left false y h = h
  in_list (x ∷ xs) f ys h = in_list xs f ys (right (pass x) (list_all pass (xs ++ f ∷ ys)) h)
    where
      right : (x y : Bool) → (x && y) ≡ true → y ≡ true
      right true y h = h
      right false y h = absurd (no_true (sym h))

  -- A list of words that all pass is one run.
  pub one_run : (ws : List Instr) → AllPass ws → words.TakeTurns ws → Turns ws
  one_run ws h t before run after e r = subst words.TakeTurns whole t
    where
      no_before : before ≡ []
      no_before = ⊎_elim (λ x. x) (λ x. absurd (no_true (sym (at_front x.0 x.1 (run ++ after) (subst AllPass (e ∙ (ap (λ (l : List Instr). l ++ (run ++ after)) x.2 ∙ append_assoc x.0 (x.1 ∷ []) (run ++ after))) h)) ∙ r.from x.0 x.1 x.2))) (last_of before)

      behind : AllPass after
      behind = all_back run after (all_back before (run ++ after) (subst AllPass e h))

      no_after : (as_ : List Instr) → after ≡ as_ → AllPass as_ → after ≡ []
      no_after [] f a = f
      no_after (i ∷ more) f a = absurd (no_true (sym a.0 ∙ r.upto i more f))

      whole : ws ≡ run
      whole = e ∙ (ap (λ (l : List Instr). l ++ (run ++ after)) no_before ∙ (ap (λ (l : List Instr). run ++ l) (no_after after refl behind) ∙ append-nil run))

  -- A word that doesn't pass cuts a list.
  pub cut : (xs : List Instr) (f : Instr) (ys : List Instr) → pass f ≡ false → Turns xs → Turns ys → Turns (xs ++ f ∷ ys)
  cut xs f ys fails a b before run after e r = by (split xs f ys before (run ++ after) e)
    where
      inner : (more : List Instr) → xs ≡ before ++ more → ((rest : List Instr) × (run ≡ more ++ f ∷ rest) × (ys ≡ rest ++ after)) ⊎ ((rest : List Instr) × (more ≡ run ++ rest) × (rest ++ f ∷ ys ≡ after)) → words.TakeTurns run
      inner more g (inl h) = absurd (no_true (sym (in_list more f h.0 (subst (λ (l : List Instr). IsTrue (list_all pass l)) h.1 r.inside)) ∙ fails))
      inner more g (inr h) = a before run h.0 (g ∙ ap (λ (l : List Instr). before ++ l) h.1)
          (record { inside = r.inside; from = r.from; upto = λ i tail k. r.upto i (tail ++ f ∷ ys) (sym h.2 ∙ ap (λ (l : List Instr). l ++ f ∷ ys) k) })

      by : ((more : List Instr) × (before ≡ xs ++ f ∷ more) × (ys ≡ more ++ (run ++ after))) ⊎ ((more : List Instr) × (xs ≡ before ++ more) × (more ++ f ∷ ys ≡ run ++ after)) → words.TakeTurns run
      by (inl h) = b h.0 run after h.2 (record { inside = r.inside; from = λ front i k. r.from (xs ++ f ∷ front) i (h.1 ∙ (ap (λ (l : List Instr). xs ++ f ∷ l) k ∙ sym (append_assoc xs (f ∷ front) (i ∷ [])))); upto = r.upto })
      by (inr h) = inner h.0 h.1 (split h.0 f ys run after h.2)

  pub nothing_turns : Turns []
  nothing_turns = one_run [] tt refl

  pub nop_turns : pass nop ≡ true → Turns (nop ∷ [])
  nop_turns h = one_run (nop ∷ []) (h, tt) refl
