-- Where a variable is wanted, block by block: what a block does first with it, and where it is wanted behind the block.
use Rattle.std.proofs.Common.{◌≡◌, ◌≢◌, ℕ, zero, suc, ◌+◌, ◌-◌, ◌<◌, ◌≤◌, true, false, List, [], ◌∷◌, length, drop, Option, Some, None, refl, sym, ap, ◌∙◌, subst, arith, inl, inr, eqb-true}
use Rattle.std.specs.Prelude.{slice_get, ◌⊎◌, ◌==◌}
use Rattle.std.specs.List.{Contains}
use Rattle.std.proofs.lemmas.Bool.{cases_lt, cases_Bool, or_cases, or_parts, eqb-false}
use Rattle.mid_blocks.specs.declared.code.MidEnd.{MidEnd}
use Rattle.mid_blocks.specs.declared.code.MidEnd.TheVariants.{Jump, Branch, Call, Return}
use Rattle.mid_blocks.specs.declared.code.MidBlock.{MidBlock}
use Rattle.mid_blocks.specs.declared.code.MidFunction.{MidFunction}
use Rattle.mid_blocks.specs.Lines.{Line, Step, End, line_of, line_reads, line_writes, block_lines, lines, first_of, leads_to}
use Rattle.mid_blocks.specs.Liveness.{LineAt, IsWanted, here, later}
use Rattle.register_liveness.specs.declared.uses.FirstUse.TheVariants.{Untouched, Read, Written}
use Rattle.register_liveness.specs.Uses.{is_among, is_it, line_use, then_use, first_use, successors}
use Rattle.mid_blocks.proofs.Positions.{got, block_rest, block_after, step_line, end_line, line_there, first_behind}

-- ---- one line

pub contains_head : (x : ℕ) (xs : List ℕ) → Contains (x ∷ xs) x
contains_head x xs = (0, omega arith, refl)

pub contains_tail : (x : ℕ) (xs : List ℕ) (v : ℕ) → Contains xs v → Contains (x ∷ xs) v
contains_tail x xs v c = (suc c.0, omega (arith, c.1), c.2)

pub contains_cases : (x : ℕ) (xs : List ℕ) (v : ℕ) → Contains (x ∷ xs) v → (x ≡ v) ⊎ Contains xs v
contains_cases x xs v (zero, l, e) = inl e
contains_cases x xs v (suc k, l, e) = inr (k, omega arith, e)

pub among_true : (xs : List ℕ) (v : ℕ) → is_among xs v ≡ true → Contains xs v
among_true [] v h = absurd (cc)
among_true (x ∷ xs) v h = elim (or_cases (x == v) (is_among xs v) h) [
  | inl e ↦ subst (λ (z : ℕ). Contains (x ∷ xs) z) (eqb-true x v e) (contains_head x xs)
  | inr t ↦ contains_tail x xs v (among_true xs v t)
]

pub among_false : (xs : List ℕ) (v : ℕ) → is_among xs v ≡ false → Contains xs v → ⊥
among_false [] v h c = omega (arith, c.1)
among_false (x ∷ xs) v h c =
    let p = or_parts (x == v) (is_among xs v) h in
    elim (contains_cases x xs v c) [ inl e ↦ eqb-false x v p.0 e | inr t ↦ among_false xs v p.1 t ]

it_true : (o : Option ℕ) (v : ℕ) → is_it o v ≡ true → o ≡ Some v
it_true None v h = absurd (cc)
it_true (Some w) v h = ap Some (eqb-true w v h)

it_false : (o : Option ℕ) (v : ℕ) → is_it o v ≡ false → o ≢ Some v
it_false None v h e = cc
it_false (Some w) v h e = let same : w ≡ v = cc in eqb-false w v h same

-- the three things that a line may do first with a variable
pub data Does (v : ℕ) (line : Line) : Type 0 where
  does_read : line_use v line ≡ Read → Contains (line_reads line) v → Does v line
  does_write : line_use v line ≡ Written → (Contains (line_reads line) v → ⊥) → line_writes line ≡ Some v → Does v line
  does_nothing : line_use v line ≡ Untouched → (Contains (line_reads line) v → ⊥) → line_writes line ≢ Some v → Does v line

pub does : (v : ℕ) (line : Line) → Does v line
does v line = elim (cases_Bool (is_among (line_reads line) v)) [
  | inl r ↦ does_read (rw r refl) (among_true (line_reads line) v r)
  | inr r ↦ elim (cases_Bool (is_it (line_writes line) v)) [
    | inl w ↦ does_write (rw (r, w) refl) (among_false (line_reads line) v r) (it_true (line_writes line) v w)
    | inr w ↦ does_nothing (rw (r, w) refl) (among_false (line_reads line) v r) (it_false (line_writes line) v w)
  ]
]

-- ---- the lines of a block from one on

-- what is known from a line of a block on: the variable is read first, or it isn't touched and the property holds of a successor
pub data Rest (R : ℕ → Type 0) (v : ℕ) (b : ℕ) (block : MidBlock) (n : ℕ) : Type 0 where
  reads : first_use v (drop n (block_lines block)) ≡ Read → Rest R v b block n
  passes : first_use v (drop n (block_lines block)) ≡ Untouched → (s : ℕ) → Contains (successors b block.end) s → R s → Rest R v b block n

-- the line at n is the first of those from n on
first_use_at : (v : ℕ) (block : MidBlock) (n : ℕ) → n ≤ length block.steps
    → first_use v (drop n (block_lines block)) ≡ then_use (line_use v (line_of (slice_get block.steps n) block.end)) (first_use v (drop (suc n) (block_lines block)))
first_use_at v block n h = ap (first_use v) (block_rest block.steps block.end n h)

first_use_behind : (v : ℕ) (block : MidBlock) → first_use v (drop (suc (length block.steps)) (block_lines block)) ≡ Untouched
first_use_behind v block = ap (first_use v) (block_after block.steps block.end)

-- a line that does nothing with the variable leaves what is known
rest_back : (R : ℕ → Type 0) (v b : ℕ) (block : MidBlock) (n : ℕ) → n ≤ length block.steps → line_use v (line_of (slice_get block.steps n) block.end) ≡ Untouched
    → Rest R v b block (suc n) → Rest R v b block n
rest_back R v b block n le u (reads h) = reads (first_use_at v block n le ∙ ap (λ x. then_use x (first_use v (drop (suc n) (block_lines block)))) u ∙ h)
rest_back R v b block n le u (passes h s c r) = passes (first_use_at v block n le ∙ ap (λ x. then_use x (first_use v (drop (suc n) (block_lines block)))) u ∙ h) s c r

module _ (f : MidFunction) where
  -- the end of a block leads to the first positions of its successors
  pub leads_from : (b s at : ℕ) (end : MidEnd) → first_of f (b + 1) ≡ at + 1 → Contains (successors b end) s → Contains (leads_to f at (End end)) (first_of f s)
  leads_from b s at (Jump to) e c = elim (contains_cases to [] s c) [ inl h ↦ (0, omega arith, ap (first_of f) h) | inr h ↦ absurd (omega (arith, h.1)) ]
  leads_from b s at (Branch test when to) e c = elim (contains_cases (b + 1) (to ∷ []) s c) [
    | inl h ↦ (0, omega arith, sym e ∙ ap (first_of f) h)
    | inr h ↦ elim (contains_cases to [] s h) [ inl h ↦ (1, omega arith, ap (first_of f) h) | inr h ↦ absurd (omega (arith, h.1)) ]
  ]
  leads_from b s at (Call function args result) e c = elim (contains_cases (b + 1) [] s c) [ inl h ↦ (0, omega arith, sym e ∙ ap (first_of f) h) | inr h ↦ absurd (omega (arith, h.1)) ]
  leads_from b s at (Return from) e c = absurd (omega (arith, c.1))

  pub leads_back : (b next at : ℕ) (end : MidEnd) → first_of f (b + 1) ≡ at + 1 → Contains (leads_to f at (End end)) next → (s : ℕ) × Contains (successors b end) s × (next ≡ first_of f s)
  leads_back b next at (Jump to) e c = elim (contains_cases (first_of f to) [] next c) [ inl h ↦ (to, contains_head to [], sym h) | inr h ↦ absurd (omega (arith, h.1)) ]
  leads_back b next at (Branch test when to) e c = elim (contains_cases (at + 1) (first_of f to ∷ []) next c) [
    | inl h ↦ (b + 1, contains_head (b + 1) (to ∷ []), sym h ∙ sym e)
    | inr h ↦ elim (contains_cases (first_of f to) [] next h) [ inl h ↦ (to, contains_tail (b + 1) (to ∷ []) to (contains_head to []), sym h) | inr h ↦ absurd (omega (arith, h.1)) ]
  ]
  leads_back b next at (Call function args result) e c = elim (contains_cases (at + 1) [] next c) [ inl h ↦ (b + 1, contains_head (b + 1) [], sym h ∙ sym e) | inr h ↦ absurd (omega (arith, h.1)) ]
  leads_back b next at (Return from) e c = absurd (omega (arith, c.1))

  abbrev pub WantedFirst : ℕ → ℕ → Type 0
  WantedFirst v s = IsWanted f v (first_of f s)

  -- ---- soundness: what is known from a line on shows that the variable is wanted there
  sound_by : (v b : ℕ) (block : MidBlock) → slice_get f.blocks b ≡ Some block → (m n : ℕ) → n + m ≡ length block.steps → Rest (WantedFirst v) v b block n → IsWanted f v (first_of f b + n)
  sound_by v b block is zero n e r =
      let le : n ≤ length block.steps = omega arith in
      let is_end : line_of (slice_get block.steps n) block.end ≡ End block.end = subst (λ (k : ℕ). line_of (slice_get block.steps k) block.end ≡ End block.end) (omega arith) (end_line block.steps block.end) in
      let there : LineAt f (first_of f b + n) (End block.end) = line_there f b n block is le ∙ ap Some is_end in
      let next : first_of f (b + 1) ≡ first_of f b + n + 1 = omega (arith, first_behind f b block is) in
      let used : first_use v (drop n (block_lines block)) ≡ then_use (line_use v (End block.end)) Untouched =
      first_use_at v block n le ∙ ap (λ x. then_use (line_use v x) (first_use v (drop (suc n) (block_lines block)))) is_end
      ∙ ap (then_use (line_use v (End block.end))) (subst (λ (k : ℕ). first_use v (drop (suc k) (block_lines block)) ≡ Untouched) (omega arith) (first_use_behind v block)) in
      elim (does v (End block.end)) [
        | does_read u c ↦ here (first_of f b + n) (End block.end) there c
        | does_write u c w ↦ elim r [
          | reads h ↦ absurd (let bad : then_use Written Untouched ≡ Read = ap (λ x. then_use x Untouched) (sym u) ∙ sym used ∙ h in cc)
          | passes h s c r ↦ absurd (let bad : then_use Written Untouched ≡ Untouched = ap (λ x. then_use x Untouched) (sym u) ∙ sym used ∙ h in cc)
        ]
        | does_nothing u c w ↦ elim r [
          | reads h ↦ absurd (let bad : then_use Untouched Untouched ≡ Read = ap (λ x. then_use x Untouched) (sym u) ∙ sym used ∙ h in cc)
          | passes h s c r ↦ later (first_of f b + n) (first_of f s) (End block.end) there w (leads_from b s (first_of f b + n) block.end next c) r
        ]
      ]
  sound_by v b block is (suc m) n e r =
      let le : n ≤ length block.steps = omega arith in
      let at = step_line block.steps block.end n (omega arith) in
      let there : LineAt f (first_of f b + n) (Step at.0) = line_there f b n block is le ∙ ap Some at.2 in
      let used : first_use v (drop n (block_lines block)) ≡ then_use (line_use v (Step at.0)) (first_use v (drop (suc n) (block_lines block))) =
      first_use_at v block n le ∙ ap (λ x. then_use (line_use v x) (first_use v (drop (suc n) (block_lines block)))) at.2 in
      elim (does v (Step at.0)) [
        | does_read u c ↦ here (first_of f b + n) (Step at.0) there c
        | does_write u c w ↦ elim r [
          | reads h ↦ absurd (let bad : then_use Written (first_use v (drop (suc n) (block_lines block))) ≡ Read = ap (λ x. then_use x (first_use v (drop (suc n) (block_lines block)))) (sym u) ∙ sym used ∙ h in cc)
          | passes h s c r ↦ absurd (let bad : then_use Written (first_use v (drop (suc n) (block_lines block))) ≡ Untouched = ap (λ x. then_use x (first_use v (drop (suc n) (block_lines block)))) (sym u) ∙ sym used ∙ h in cc)
        ]
        | does_nothing u c w ↦
            let same : first_use v (drop (suc n) (block_lines block)) ≡ first_use v (drop n (block_lines block)) = sym (used ∙ ap (λ x. then_use x (first_use v (drop (suc n) (block_lines block)))) u) in
            let on : Rest (WantedFirst v) v b block (suc n) = elim r [ reads h ↦ reads (same ∙ h) | passes h s c r ↦ passes (same ∙ h) s c r ] in
            later (first_of f b + n) (first_of f b + n + 1) (Step at.0) there w (0, omega arith, refl)
            (subst (IsWanted f v) (omega arith) (sound_by v b block is m (suc n) (omega arith) on))
      ]

  pub sound : (v b : ℕ) (block : MidBlock) (n : ℕ) → slice_get f.blocks b ≡ Some block → n ≤ length block.steps → Rest (WantedFirst v) v b block n → IsWanted f v (first_of f b + n)
  sound v b block n is le r = sound_by v b block is (length block.steps - n) n (omega arith) r

  -- ---- completeness

  -- each block to which a block may lead is there
  abbrev pub SuccessorsExist : Type 0
  SuccessorsExist = (b : ℕ) (block : MidBlock) (s : ℕ) → slice_get f.blocks b ≡ Some block → Contains (successors b block.end) s → s < length f.blocks

  -- a property of blocks that those have which read the variable first, and those that don't touch it before a successor that has it
  pub record Closed (R : ℕ → Type 0) (v : ℕ) : Type 0 where
    pub seeds : (b : ℕ) (block : MidBlock) → slice_get f.blocks b ≡ Some block → first_use v (block_lines block) ≡ Read → R b
    pub passes_on : (b s : ℕ) (block : MidBlock) → slice_get f.blocks b ≡ Some block → first_use v (block_lines block) ≡ Untouched → Contains (successors b block.end) s → R s → R b

  at_start : (R : ℕ → Type 0) (v b : ℕ) (block : MidBlock) → Closed R v → slice_get f.blocks b ≡ Some block → Rest R v b block 0 → R b
  at_start R v b block closed is (reads h) = closed.seeds b block is h
  at_start R v b block closed is (passes h s c r) = closed.passes_on b s block is h c r

  same_line : (at b n : ℕ) (line : Line) (block : MidBlock) → LineAt f at line → slice_get f.blocks b ≡ Some block → n ≤ length block.steps → at ≡ first_of f b + n → line_of (slice_get block.steps n) block.end ≡ line
  same_line at b n line block there is le e =
      let a = line_there f b n block is le in
      let b' : slice_get (lines f) (first_of f b + n) ≡ Some line = subst (λ (k : ℕ). slice_get (lines f) k ≡ Some line) e there in
      let c : Some (line_of (slice_get block.steps n) block.end) ≡ Some line = sym a ∙ b' in
      cc

  rest_read : (R : ℕ → Type 0) (v b : ℕ) (block : MidBlock) (n : ℕ) → n ≤ length block.steps → line_use v (line_of (slice_get block.steps n) block.end) ≡ Read → Rest R v b block n
  rest_read R v b block n le u = reads (first_use_at v block n le ∙ ap (λ x. then_use x (first_use v (drop (suc n) (block_lines block)))) u)

  -- where the variable is wanted at a line, it is read first from there on in the block, or not touched there, and a successor has the property
  pub complete : (R : ℕ → Type 0) (v : ℕ) → SuccessorsExist → Closed R v → (at : ℕ) → IsWanted f v at → (b n : ℕ) (block : MidBlock) → slice_get f.blocks b ≡ Some block → n ≤ length block.steps → at ≡ first_of f b + n → Rest R v b block n
  complete R v exist closed _ (here at line there c) b n block is le e =
      let same = same_line at b n line block there is le e in
      elim (does v line) [
        | does_read u c' ↦ rest_read R v b block n le (ap (line_use v) same ∙ u)
        | does_write u unread w ↦ absurd (unread c)
        | does_nothing u unread w ↦ absurd (unread c)
      ]
  complete R v exist closed _ (later at next line there nw c wanted) b n block is le e =
      let same = same_line at b n line block there is le e in
      elim (does v line) [
        | does_read u c' ↦ rest_read R v b block n le (ap (line_use v) same ∙ u)
        | does_write u unread w ↦ absurd (nw w)
        | does_nothing u unread w ↦ elim (cases_lt n (length block.steps)) [
          | inl lt ↦
              let s = step_line block.steps block.end n lt in
              let c' : Contains (leads_to f at (Step s.0)) next = subst (λ (l : Line). Contains (leads_to f at l) next) (sym same ∙ s.2) c in
              let nx : (at + 1 ≡ next) ⊎ Contains [] next = contains_cases (at + 1) [] next c' in
              elim nx [
                | inl i ↦ rest_back R v b block n le (ap (line_use v) same ∙ u) (complete R v exist closed next wanted b (suc n) block is (omega arith) (omega arith))
                | inr i ↦ absurd (omega (arith, i.1))
              ]
          | inr ge ↦
              let is_end : line_of (slice_get block.steps n) block.end ≡ End block.end = subst (λ (k : ℕ). line_of (slice_get block.steps k) block.end ≡ End block.end) (omega arith) (end_line block.steps block.end) in
              let c' : Contains (leads_to f at (End block.end)) next = subst (λ (l : Line). Contains (leads_to f at l) next) (sym same ∙ is_end) c in
              let nx = leads_back b next at block.end (omega (arith, first_behind f b block is)) c' in
              let there' = got f.blocks nx.0 (exist b block nx.0 is nx.1) in
              let at_next = complete R v exist closed next wanted nx.0 0 there'.0 there'.1 (omega arith) (omega (arith, nx.2)) in
              let has : R nx.0 = at_start R v nx.0 there'.0 closed there'.1 at_next in
              let used : first_use v (drop n (block_lines block)) ≡ then_use (line_use v line) Untouched =
              first_use_at v block n le ∙ ap (λ x. then_use (line_use v x) (first_use v (drop (suc n) (block_lines block)))) same
              ∙ ap (then_use (line_use v line)) (subst (λ (k : ℕ). first_use v (drop (suc k) (block_lines block)) ≡ Untouched) (omega arith) (first_use_behind v block)) in
              passes (used ∙ ap (λ x. then_use x Untouched) u) nx.0 nx.1 has
        ]
      ]

  -- a closed property holds of each block at whose first position the variable is wanted
  pub has_wanted : (R : ℕ → Type 0) (v : ℕ) → SuccessorsExist → Closed R v → (b : ℕ) → b < length f.blocks → IsWanted f v (first_of f b) → R b
  has_wanted R v exist closed b lt wanted =
      let there = got f.blocks b lt in
      at_start R v b there.0 closed there.1 (complete R v exist closed (first_of f b) wanted b 0 there.0 there.1 (omega arith) (omega arith))

  -- to be wanted at the first position is closed
  pub wanted_closed : (v : ℕ) → Closed (WantedFirst v) v
  wanted_closed v = record {
    seeds = λ b block is h. subst (IsWanted f v) (omega arith) (sound v b block 0 is (omega arith) (reads h));
    passes_on = λ b s block is h c r. subst (IsWanted f v) (omega arith) (sound v b block 0 is (omega arith) (passes h s c r));
  }
