-- A turn of the search: the block that is followed leads to marked blocks, and all else stays.
use Rattle.std.proofs.Common.{◌≡◌, ℕ, zero, suc, ◌+◌, ◌*◌, ◌<◌, ◌≤◌, Bool, true, false, List, [], ◌∷◌, ◌++◌, length, get_or, Some, None, refl, sym, ap, ◌∙◌, subst, arith, inl, inr, length-append}
use Rattle.std.specs.Prelude.{◌⊎◌, ◌&&◌, slice_get, if◌then◌else◌}
use Rattle.std.proofs.lemmas.Bool.{false≢true}
use Rattle.mid_blocks.specs.declared.code.MidEnd.{MidEnd}
use Rattle.mid_blocks.specs.declared.code.MidEnd.TheVariants.{Jump, Branch, Call, Return}
use Rattle.mid_blocks.specs.declared.code.MidBlock.{MidBlock}
use Rattle.mid_blocks.specs.declared.code.MidFunction.{MidFunction}
use Rattle.mid_blocks.specs.declared.code.Mid.{Mid}
use Rattle.mid_blocks.specs.Valid.{EndsBy}
use Rattle.mid_blocks.specs.Pruned.{marks_of, is_marked_block, leads_to_marked, ReachedIn, begin, jumped, fallen, called, Closed, OnlyReached}
use Rattle.mid_prune.specs.declared.reaching.Spot.{Spot}
use Rattle.mid_blocks.specs.Leads.{blocks_of, is_block, EndInside, LeadsInside}
use Rattle.mid_prune.specs.Work.{Work, IsThere, EndThere, put, followed, Waits, Working, raised}
use Rattle.mid_prune.proofs.Marking.{bare_all, raises, within_of, marked_within, unmarked, unmarked_shape, unmarked_none}

abbrev pub weight : Work → ℕ
weight w = 2 * bare_all w.marks + length w.waiting

-- ---- what waits

waits_left : (xs ys : List Spot) (f b : ℕ) → Waits xs f b → Waits (xs ++ ys) f b
waits_left [] ys f b h = absurd h
waits_left (x ∷ xs) ys f b (inl h) = inl h
waits_left (x ∷ xs) ys f b (inr h) = inr (waits_left xs ys f b h)

waits_right : (xs ys : List Spot) (f b : ℕ) → Waits ys f b → Waits (xs ++ ys) f b
waits_right [] ys f b h = h
waits_right (x ∷ xs) ys f b h = inr (waits_right xs ys f b h)

waits_either : (xs ys : List Spot) (f b : ℕ) → Waits (xs ++ ys) f b → Waits xs f b ⊎ Waits ys f b
waits_either [] ys f b h = inr h
waits_either (x ∷ xs) ys f b (inl h) = inl (inl h)
waits_either (x ∷ xs) ys f b (inr h) = elim (waits_either xs ys f b h) [ inl k ↦ inl (inr k) | inr k ↦ inr k ]

-- ---- what grows: the second work has more marks than the first, of what a relation holds, and these wait
pub record Grown (T : ℕ → ℕ → Type 0) (w v : Work) : Type 0 where
  pub long : length v.marks ≡ length w.marks
  pub shape : (g : ℕ) → length (marks_of v.marks g) ≡ length (marks_of w.marks g)
  pub kept : (g b : ℕ) → is_marked_block w.marks g b ≡ true → is_marked_block v.marks g b ≡ true
  pub new : (g b : ℕ) → is_marked_block v.marks g b ≡ true → (is_marked_block w.marks g b ≡ true) ⊎ T g b
  pub waits : (g b : ℕ) → Waits w.waiting g b → Waits v.waiting g b
  pub new_waits : (g b : ℕ) → is_marked_block v.marks g b ≡ true → (is_marked_block w.marks g b ≡ true) ⊎ Waits v.waiting g b
  pub marked : (g b : ℕ) → Waits v.waiting g b → Waits w.waiting g b ⊎ (is_marked_block v.marks g b ≡ true)
  pub lighter : weight v ≤ weight w

grown_none : (T : ℕ → ℕ → Type 0) (w : Work) → Grown T w w
grown_none T w = record {
  long = refl;
  shape = λ g. refl;
  kept = λ g b h. h;
  new = λ g b h. inl h;
  waits = λ g b h. h;
  new_waits = λ g b h. inl h;
  marked = λ g b h. inl h;
  lighter = omega arith;
}

grown_more : (T : ℕ → ℕ → Type 0) (w v u : Work) → Grown T w v → Grown T v u → Grown T w u
grown_more T w v u a b = record {
  long = b.long ∙ a.long;
  shape = λ g. b.shape g ∙ a.shape g;
  kept = λ g k h. b.kept g k (a.kept g k h);
  new = λ g k h. elim (b.new g k h) [ inl m ↦ a.new g k m | inr t ↦ inr t ];
  waits = λ g k h. b.waits g k (a.waits g k h);
  new_waits = λ g k h. elim (b.new_waits g k h) [ inl m ↦ elim (a.new_waits g k m) [ inl n ↦ inl n | inr n ↦ inr (b.waits g k n) ] | inr n ↦ inr n ];
  marked = λ g k h. elim (b.marked g k h) [ inl m ↦ elim (a.marked g k m) [ inl n ↦ inl n | inr n ↦ inr (b.kept g k n) ] | inr n ↦ inr n ];
  lighter = omega (arith, a.lighter, b.lighter);
}

abbrev At : ℕ → ℕ → ℕ → ℕ → Type 0
At f block g b = (g ≡ f) × (b ≡ block)

alone : (f block g b : ℕ) → Waits (record { function = f; block = block } ∷ []) g b → At f block g b
alone f block g b (inl h) = (sym h.0, sym h.1)
alone f block g b (inr h) = absurd h

pub record Put (T : ℕ → ℕ → Type 0) (f block : ℕ) (w v : Work) : Type 0 where
  pub grown : Grown T w v
  pub here : is_marked_block v.marks f block ≡ true

pub puts : (T : ℕ → ℕ → Type 0) (f block : ℕ) (w : Work) → T f block → IsThere w.marks f block → Put T f block w (put f block w)
puts T f block w t there = by (is_marked_block w.marks f block) refl
  where
    after : Work
    after = record { marks = raised w.marks f block; waiting = w.waiting ++ record { function = f; block = block } ∷ [] }

    by : (m : Bool) → is_marked_block w.marks f block ≡ m → Put T f block w (if m then w else record { marks = raised w.marks f block; waiting = w.waiting ++ record { function = f; block = block } ∷ [] })
    by true e = record { grown = grown_none T w; here = e }
    by false e =
        let s : Spot = record { function = f; block = block } in
        let r = raises w.marks f block there.1 e in
        let at : (g b : ℕ) → At f block g b → Waits (w.waiting ++ s ∷ []) g b = λ g b p. waits_right w.waiting (s ∷ []) g b (inl (sym p.0, sym p.1)) in
        let to : (g b : ℕ) → At f block g b → T g b = λ g b p. subst (λ x. T x b) (sym p.0) (subst (λ y. T f y) (sym p.1) t) in
        let is : (g b : ℕ) → At f block g b → is_marked_block (raised w.marks f block) g b ≡ true = λ g b p. ap (λ x. is_marked_block (raised w.marks f block) x b) p.0 ∙ ap (is_marked_block (raised w.marks f block) f) p.1 ∙ r.here in
        let one : length (w.waiting ++ s ∷ []) ≡ length w.waiting + 1 = length-append w.waiting (s ∷ []) in
        record {
          grown = record {
            long = r.long;
            shape = r.shape;
            kept = r.kept;
            new = λ g b h. elim (r.new g b h) [ inl k ↦ inl k | inr p ↦ inr (to g b p) ];
            waits = λ g b h. waits_left w.waiting (s ∷ []) g b h;
            new_waits = λ g b h. elim (r.new g b h) [ inl k ↦ inl k | inr p ↦ inr (at g b p) ];
            marked = λ g b h. elim (waits_either w.waiting (s ∷ []) g b h) [ inl k ↦ inl k | inr k ↦ inr (is g b (alone f block g b k)) ];
            lighter = omega (arith, r.fewer, one);
          };
          here = r.here;
        }

-- ---- the end of a block is followed

-- where an end leads to
abbrev To : ℕ → ℕ → MidEnd → ℕ → ℕ → Type 0
To f block (Jump to) g b = At f to g b
To f block (Branch test when to) g b = At f to g b ⊎ At f (block + 1) g b
To f block (Call function args result) g b = At function 0 g b ⊎ At f (block + 1) g b
To f block (Return from) g b = ⊥

pub there_still : (T : ℕ → ℕ → Type 0) (w v : Work) (f block : ℕ) → Grown T w v → IsThere w.marks f block → IsThere v.marks f block
there_still T w v f block g h = (omega (arith, h.0, g.long), omega (arith, h.1, g.shape f))

-- what was there before a put is there after it
pub put_there : (f block g b : ℕ) (w v : Work) → v ≡ put f block w → IsThere w.marks f block → IsThere w.marks g b → IsThere v.marks g b
put_there f block g b w v e h k = subst (λ (x : Work). IsThere x.marks g b) (sym e) (there_still (At f block) w (put f block w) g b (puts (At f block) f block w (refl, refl) h).grown k)

pub record Followed (f block : ℕ) (end : MidEnd) (w v : Work) : Type 0 where
  pub grown : Grown (To f block end) w v
  pub leads : leads_to_marked v.marks f block end ≡ true

both_true : (a b : Bool) → a ≡ true → b ≡ true → (a && b) ≡ true
both_true true b e h = h
both_true false b e h = absurd (false≢true e)

follows : (f block : ℕ) (end : MidEnd) (w : Work) → EndThere w.marks f block end → Followed f block end w (followed f block end w)
follows f block (Jump to) w h =
    let p = puts (To f block (Jump to)) f to w (refl, refl) h in
    record { grown = p.grown; leads = p.here }
follows f block (Branch test when to) w h =
    let T : ℕ → ℕ → Type 0 = To f block (Branch test when to) in
    let v : Work = put f to w in
    let p = puts T f to w (inl (refl, refl)) h.0 in
    let q = puts T f (block + 1) v (inr (refl, refl)) (there_still T w v f (block + 1) p.grown h.1) in
    let u : Work = put f (block + 1) v in
    record { grown = grown_more T w v u p.grown q.grown; leads = both_true (is_marked_block u.marks f to) (is_marked_block u.marks f (block + 1)) (q.grown.kept f to p.here) q.here }
follows f block (Call function args result) w h =
    let T : ℕ → ℕ → Type 0 = To f block (Call function args result) in
    let v : Work = put function 0 w in
    let p = puts T function 0 w (inl (refl, refl)) h.0 in
    let q = puts T f (block + 1) v (inr (refl, refl)) (there_still T w v f (block + 1) p.grown h.1) in
    let u : Work = put f (block + 1) v in
    record { grown = grown_more T w v u p.grown q.grown; leads = both_true (is_marked_block u.marks function 0) (is_marked_block u.marks f (block + 1)) (q.grown.kept function 0 p.here) q.here }
follows f block (Return from) w h = record { grown = grown_none (To f block (Return from)) w; leads = refl }

-- ---- a turn

leads_still : (T : ℕ → ℕ → Type 0) (w v : Work) (f block : ℕ) (end : MidEnd) → Grown T w v → leads_to_marked w.marks f block end ≡ true → leads_to_marked v.marks f block end ≡ true
leads_still T w v f block (Jump to) g h = g.kept f to h
leads_still T w v f block (Branch test when to) g h = both_true (is_marked_block v.marks f to) (is_marked_block v.marks f (block + 1)) (g.kept f to (left _ _ h)) (g.kept f (block + 1) (right _ _ h))
  where
    left : (a b : Bool) → (a && b) ≡ true → a ≡ true
    left true b e = refl
    left false b e = e

    right : (a b : Bool) → (a && b) ≡ true → b ≡ true
    right true b e = e
    right false b e = absurd (false≢true e)
leads_still T w v f block (Call function args result) g h = both_true (is_marked_block v.marks function 0) (is_marked_block v.marks f (block + 1)) (g.kept function 0 (left _ _ h)) (g.kept f (block + 1) (right _ _ h))
  where
    left : (a b : Bool) → (a && b) ≡ true → a ≡ true
    left true b e = refl
    left false b e = e

    right : (a b : Bool) → (a && b) ≡ true → b ≡ true
    right true b e = e
    right false b e = absurd (false≢true e)
leads_still T w v f block (Return from) g h = refl

module _ (mid : Mid) where
  ends_by : (code : MidFunction) (block : ℕ) (b : MidBlock) → slice_get code.blocks block ≡ Some b → EndsBy code block b.end
  ends_by code block b e = (b, e, refl)

  -- where a reached block leads to is reached
  reaches : (f block : ℕ) (code : MidFunction) (end : MidEnd) → ReachedIn mid f block → slice_get mid.functions f ≡ Some code → EndsBy code block end → (g b : ℕ) → To f block end g b → ReachedIn mid g b
  reaches f block code (Jump to) r is at g b t = moved g b f to t (jumped f block to code (Jump to) r is at refl)
    where
      moved : (g b f to : ℕ) → At f to g b → ReachedIn mid f to → ReachedIn mid g b
      moved g b f to t r = subst (λ x. ReachedIn mid x b) (sym t.0) (subst (λ y. ReachedIn mid f y) (sym t.1) r)
  reaches f block code (Branch test when to) r is at g b (inl t) = moved g b f to t (jumped f block to code (Branch test when to) r is at refl)
    where
      moved : (g b f to : ℕ) → At f to g b → ReachedIn mid f to → ReachedIn mid g b
      moved g b f to t r = subst (λ x. ReachedIn mid x b) (sym t.0) (subst (λ y. ReachedIn mid f y) (sym t.1) r)
  reaches f block code (Branch test when to) r is at g b (inr t) = moved g b f (block + 1) t (fallen f block code (Branch test when to) r is at refl)
    where
      moved : (g b f to : ℕ) → At f to g b → ReachedIn mid f to → ReachedIn mid g b
      moved g b f to t r = subst (λ x. ReachedIn mid x b) (sym t.0) (subst (λ y. ReachedIn mid f y) (sym t.1) r)
  reaches f block code (Call function args result) r is at g b (inl t) = moved g b function 0 t (called f block function code args result r is at)
    where
      moved : (g b f to : ℕ) → At f to g b → ReachedIn mid f to → ReachedIn mid g b
      moved g b f to t r = subst (λ x. ReachedIn mid x b) (sym t.0) (subst (λ y. ReachedIn mid f y) (sym t.1) r)
  reaches f block code (Call function args result) r is at g b (inr t) = moved g b f (block + 1) t (fallen f block code (Call function args result) r is at refl)
    where
      moved : (g b f to : ℕ) → At f to g b → ReachedIn mid f to → ReachedIn mid g b
      moved g b f to t r = subst (λ x. ReachedIn mid x b) (sym t.0) (subst (λ y. ReachedIn mid f y) (sym t.1) r)
  reaches f block code (Return from) r is at g b t = absurd t

  -- the first block of the function where an end leads to is marked
  firsts : (f block : ℕ) (end : MidEnd) (marks : List (List Bool)) → is_marked_block marks f 0 ≡ true → leads_to_marked marks f block end ≡ true → (g b : ℕ) → To f block end g b → is_marked_block marks g 0 ≡ true
  firsts f block (Jump to) marks m l g b t = ap (λ x. is_marked_block marks x 0) t.0 ∙ m
  firsts f block (Branch test when to) marks m l g b (inl t) = ap (λ x. is_marked_block marks x 0) t.0 ∙ m
  firsts f block (Branch test when to) marks m l g b (inr t) = ap (λ x. is_marked_block marks x 0) t.0 ∙ m
  firsts f block (Call function args result) marks m l g b (inl t) = ap (λ x. is_marked_block marks x 0) t.0 ∙ left (is_marked_block marks function 0) (is_marked_block marks f (block + 1)) l
    where
      left : (a b : Bool) → (a && b) ≡ true → a ≡ true
      left true b e = refl
      left false b e = e
  firsts f block (Call function args result) marks m l g b (inr t) = ap (λ x. is_marked_block marks x 0) t.0 ∙ m
  firsts f block (Return from) marks m l g b t = absurd t

  module _ (inside : LeadsInside mid) (marks : List (List Bool)) (rest : List Spot) (s : Spot) (working : Working mid (record { marks = marks; waiting = rest ++ s ∷ [] })) where
    here : is_marked_block marks s.function s.block ≡ true
    here = working.waiting s.function s.block (waits_right rest (s ∷ []) s.function s.block (inl (refl, refl)))

    -- the block that waits is there
    pub spot_block : is_block mid s.function s.block
    spot_block = let l = marked_within (marks_of marks s.function) s.block here in omega (arith, l, working.shape s.function)

    module _ (code : MidFunction) (b : MidBlock) (is : slice_get mid.functions s.function ≡ Some code) (at : slice_get code.blocks s.block ≡ Some b) where
      old : Work
      old = record { marks = marks; waiting = rest }

      abbrev new : Work
      new = followed s.function s.block b.end (record { marks = marks; waiting = rest })

      block_there : (f block : ℕ) → is_block mid f block → IsThere marks f block
      block_there f block h = let l : block < length (marks_of marks f) = omega (arith, h, working.shape f) in (within_of marks f block l, l)

      pub end_there : EndThere marks s.function s.block b.end
      end_there = by b.end (inside.leads s.function s.block code b is at)
        where
          by : (end : MidEnd) → EndInside mid s.function s.block end → EndThere marks s.function s.block end
          by (Jump to) h = block_there s.function to h
          by (Branch test when to) h = (block_there s.function to h.0, block_there s.function (s.block + 1) h.1)
          by (Call function args result) h = (block_there function 0 h.0, block_there s.function (s.block + 1) h.1)
          by (Return from) h = tt

      step : Followed s.function s.block b.end (record { marks = marks; waiting = rest }) new
      step = follows s.function s.block b.end (record { marks = marks; waiting = rest }) end_there

      pub turn_lighter : weight new < weight (record { marks = marks; waiting = rest ++ s ∷ [] })
      turn_lighter = let one : length (rest ++ s ∷ []) ≡ length rest + 1 = length-append rest (s ∷ []) in omega (arith, step.grown.lighter, one)

      reached_from : (g k : ℕ) → is_marked_block new.marks g k ≡ true → ReachedIn mid g k
      reached_from g k h = elim (step.grown.new g k h) [
        | inl m ↦ working.reached g k m
        | inr t ↦ reaches s.function s.block code b.end (working.reached s.function s.block here) is (ends_by code s.block b at) g k t
      ]

      first_marked : (g k : ℕ) → is_marked_block new.marks g k ≡ true → is_marked_block new.marks g 0 ≡ true
      first_marked g k h = elim (step.grown.new g k h) [
        | inl m ↦ step.grown.kept g 0 (working.first g k m)
        | inr t ↦ firsts s.function s.block b.end new.marks (step.grown.kept s.function 0 (working.first s.function s.block here)) step.leads g k t
      ]

      waiting_marked : (g k : ℕ) → Waits new.waiting g k → is_marked_block new.marks g k ≡ true
      waiting_marked g k h = elim (step.grown.marked g k h) [
        | inl m ↦ step.grown.kept g k (working.waiting g k (waits_left rest (s ∷ []) g k m))
        | inr m ↦ m
      ]

      done : (g k : ℕ) (code' : MidFunction) (b' : MidBlock) → slice_get mid.functions g ≡ Some code' → slice_get code'.blocks k ≡ Some b' → is_marked_block new.marks g k ≡ true → Waits new.waiting g k ⊎ (leads_to_marked new.marks g k b'.end ≡ true)
      done g k code' b' is' at' h = elim (step.grown.new_waits g k h) [
        | inr m ↦ inl m
        | inl m ↦ elim (working.followed g k code' b' is' at' m) [
          | inr l ↦ inr (leads_still (To s.function s.block b.end) (record { marks = marks; waiting = rest }) new g k b'.end step.grown l)
          | inl l ↦ elim (waits_either rest (s ∷ []) g k l) [
            | inl p ↦ inl (step.grown.waits g k p)
            | inr p ↦ inr (same p)
          ]
        ]
      ]
        where
          same : Waits (s ∷ []) g k → leads_to_marked new.marks g k b'.end ≡ true
          same (inr p) = absurd p
          same (inl p) =
              let codes : code ≡ code' = some_same code code' (sym is ∙ ap (slice_get mid.functions) p.0 ∙ is') in
              let blocks : b ≡ b' = some_same b b' (sym at ∙ ap (slice_get code.blocks) p.1 ∙ ap (λ (c : MidFunction). slice_get c.blocks k) codes ∙ at') in
              ap (λ (x : MidBlock). leads_to_marked new.marks g k x.end) (sym blocks) ∙ ap (λ x. leads_to_marked new.marks x k b.end) (sym p.0) ∙ ap (λ y. leads_to_marked new.marks s.function y b.end) (sym p.1) ∙ step.leads
            where
              some_same : {A : Type 0} (x y : A) → Some x ≡ Some y → x ≡ y
              some_same x y e = cc

      pub turn : Working mid new
      turn = record {
        shape = λ f. step.grown.shape f ∙ working.shape f;
        main = step.grown.kept 0 0 working.main;
        first = first_marked;
        reached = reached_from;
        waiting = waiting_marked;
        followed = done;
      }

  -- ---- the start and the end

  pub starts : LeadsInside mid → Working mid (put 0 0 (record { marks = unmarked mid.functions; waiting = [] }))
  starts inside =
      let w : Work = record { marks = unmarked mid.functions; waiting = [] } in
      let T : ℕ → ℕ → Type 0 = At 0 0 in
      let l : 0 < length (marks_of (unmarked mid.functions) 0) = omega (arith, inside.begins, unmarked_shape mid.functions 0) in
      let p = puts T 0 0 w (refl, refl) (within_of (unmarked mid.functions) 0 0 l, l) in
      let v : Work = put 0 0 w in
      let none : (g b : ℕ) → is_marked_block (unmarked mid.functions) g b ≡ true → ⊥ = λ g b h. false≢true (sym (unmarked_none mid.functions g b) ∙ h) in
      let main : (g b : ℕ) → is_marked_block v.marks g b ≡ true → At 0 0 g b = λ g b h. elim (p.grown.new g b h) [ inl k ↦ absurd (none g b k) | inr t ↦ t ] in
      record {
        shape = λ f. p.grown.shape f ∙ unmarked_shape mid.functions f;
        main = p.here;
        first = λ g b h. ap (λ x. is_marked_block v.marks x 0) (main g b h).0 ∙ p.here;
        reached = λ g b h. subst (λ x. ReachedIn mid x b) (sym (main g b h).0) (subst (λ y. ReachedIn mid 0 y) (sym (main g b h).1) begin);
        waiting = λ g b h. elim (p.grown.marked g b h) [ inl k ↦ absurd k | inr k ↦ k ];
        followed = λ g b code x is at h. elim (p.grown.new_waits g b h) [ inl k ↦ absurd (none g b k) | inr k ↦ inl k ];
      }

  pub start_there : LeadsInside mid → IsThere (unmarked mid.functions) 0 0
  start_there inside = let l : 0 < length (marks_of (unmarked mid.functions) 0) = omega (arith, inside.begins, unmarked_shape mid.functions 0) in (within_of (unmarked mid.functions) 0 0 l, l)

  pub closes : (marks : List (List Bool)) → Working mid (record { marks = marks; waiting = [] }) → Closed mid marks
  closes marks w = record {
    main = w.main;
    first = w.first;
    leads = λ f block code b is at h. elim (w.followed f block code b is at h) [ inl k ↦ absurd k | inr k ↦ k ];
  }

  pub only : (marks : List (List Bool)) → Working mid (record { marks = marks; waiting = [] }) → OnlyReached mid marks
  only marks w = record { reached = w.reached }

-- ---- as the code reads them

pub function_there : (codes : List MidFunction) (f block : ℕ) → block < blocks_of (slice_get codes f) → f < length codes
function_there [] f block h = absurd (omega (arith, h))
function_there (code ∷ codes) zero block h = omega arith
function_there (code ∷ codes) (suc f) block h = let l = function_there codes f block h in omega (arith, l)

pub function_at : (codes : List MidFunction) (f : ℕ) (code : MidFunction) → f < length codes → code ≡ get_or codes f code → slice_get codes f ≡ Some code
function_at codes f code l e = at codes f code l ∙ ap Some (sym e)
  where
    at : (codes : List MidFunction) (f : ℕ) (d : MidFunction) → f < length codes → slice_get codes f ≡ Some (get_or codes f d)
    at [] f d l = absurd (omega (arith, l))
    at (c ∷ cs) zero d l = refl
    at (c ∷ cs) (suc f) d l = at cs f d (omega (arith, l))

pub block_at : (blocks : List MidBlock) (i : ℕ) (b : MidBlock) → i < length blocks → b ≡ get_or blocks i b → slice_get blocks i ≡ Some b
block_at blocks i b l e = at blocks i b l ∙ ap Some (sym e)
  where
    at : (bs : List MidBlock) (i : ℕ) (d : MidBlock) → i < length bs → slice_get bs i ≡ Some (get_or bs i d)
    at [] i d l = absurd (omega (arith, l))
    at (x ∷ xs) zero d l = refl
    at (x ∷ xs) (suc i) d l = at xs i d (omega (arith, l))

module _ (mid : Mid) (functions : List MidFunction) (marks : List (List Bool)) (waiting rest : List Spot) (s : Spot) where
  abbrev Before : Type 0
  Before = Working mid (record { marks = marks; waiting = waiting })

  before : waiting ≡ rest ++ s ∷ [] → Before → Working mid (record { marks = marks; waiting = rest ++ s ∷ [] })
  before e w = subst (λ (ss : List Spot). Working mid (record { marks = marks; waiting = ss })) e w

  block_in : waiting ≡ rest ++ s ∷ [] → Before → is_block mid s.function s.block
  block_in e w =
      let v = before e w in
      let m : is_marked_block marks s.function s.block ≡ true = v.waiting s.function s.block (waits_right rest (s ∷ []) s.function s.block (inl (refl, refl))) in
      let l = marked_within (marks_of marks s.function) s.block m in
      omega (arith, l, v.shape s.function)

  pub function_within : functions ≡ mid.functions → waiting ≡ rest ++ s ∷ [] → Before → s.function < length functions
  function_within same e w = let l = function_there mid.functions s.function s.block (block_in e w) in subst (λ (fs : List MidFunction). s.function < length fs) (sym same) l

  is_function : functions ≡ mid.functions → waiting ≡ rest ++ s ∷ [] → Before → (code : MidFunction) → code ≡ get_or functions s.function code → slice_get mid.functions s.function ≡ Some code
  is_function same e w code is = subst (λ (fs : List MidFunction). slice_get fs s.function ≡ Some code) same (function_at functions s.function code (function_within same e w) is)

  pub spot_within : functions ≡ mid.functions → waiting ≡ rest ++ s ∷ [] → Before → (code : MidFunction) (blocks : List MidBlock) → code ≡ get_or functions s.function code → blocks ≡ (get_or functions s.function code).blocks → s.block < length blocks
  spot_within same e w code blocks is at =
      let f = is_function same e w code is in
      let n : blocks_of (slice_get mid.functions s.function) ≡ length code.blocks = ap blocks_of f in
      let m : length blocks ≡ length code.blocks = ap (λ (bs : List MidBlock). length bs) (at ∙ ap (λ (c : MidFunction). c.blocks) (sym is)) in
      omega (arith, block_in e w, n, m)

  pub record Turn (b : MidBlock) : Type 0 where
    pub there : EndThere marks s.function s.block b.end
    pub works : Working mid (followed s.function s.block b.end (record { marks = marks; waiting = rest }))
    pub lighter : weight (followed s.function s.block b.end (record { marks = marks; waiting = rest })) < weight (record { marks = marks; waiting = waiting })

  module _ (inside : LeadsInside mid) (same : functions ≡ mid.functions) (e : waiting ≡ rest ++ s ∷ []) (w : Before) (code : MidFunction) (blocks : List MidBlock) (is : code ≡ get_or functions s.function code) (at : blocks ≡ (get_or functions s.function code).blocks) where
    pub turns : (b : MidBlock) → slice_get blocks s.block ≡ Some b → Turn b
    turns b h =
        let f = is_function same e w code is in
        let g : slice_get code.blocks s.block ≡ Some b = subst (λ (bs : List MidBlock). slice_get bs s.block ≡ Some b) (at ∙ ap (λ (c : MidFunction). c.blocks) (sym is)) h in
        record {
          there = end_there mid inside marks rest s (before e w) code b f g;
          works = turn mid inside marks rest s (before e w) code b f g;
          lighter = subst (λ (ss : List Spot). weight (followed s.function s.block b.end (record { marks = marks; waiting = rest })) < weight (record { marks = marks; waiting = ss })) (sym e) (turn_lighter mid inside marks rest s (before e w) code b f g);
        }

    abbrev Visited : Work → Type 0
    Visited v = (b : MidBlock) → slice_get blocks s.block ≡ Some b → v ≡ followed s.function s.block b.end (record { marks = marks; waiting = rest })

    is_here : slice_get blocks s.block ≡ Some (get_or blocks s.block (record { steps = []; end = Return None }))
    is_here = here blocks s.block (spot_within same e w code blocks is at)
      where
        here : (bs : List MidBlock) (i : ℕ) → i < length bs → slice_get bs i ≡ Some (get_or bs i (record { steps = []; end = Return None }))
        here [] i l = absurd (omega (arith, l))
        here (x ∷ xs) zero l = refl
        here (x ∷ xs) (suc i) l = here xs i (omega (arith, l))

    pub turned : (v : Work) → Visited v → Working mid v
    turned v h = let b : MidBlock = get_or blocks s.block (record { steps = []; end = Return None }) in subst (Working mid) (sym (h b is_here)) (turns b is_here).works

    pub turned_lighter : (v : Work) → Visited v → weight v < weight (record { marks = marks; waiting = waiting })
    turned_lighter v h = let b : MidBlock = get_or blocks s.block (record { steps = []; end = Return None }) in subst (λ (x : Work). weight x < weight (record { marks = marks; waiting = waiting })) (sym (h b is_here)) (turns b is_here).lighter
