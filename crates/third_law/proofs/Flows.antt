-- Liveness and places that fit give what the relation needs of them.
use Rattle.std.proofs.Common.{◌≡◌, ◌≢◌, ◌≤◌, ◌<◌, ℕ, zero, suc, ◌+◌, ◌-◌, arith, ap, refl, sym, ◌∙◌, subst, List, [], ◌∷◌, ◌++◌, length, get_or, take, map, Bool, true, false, cond, inl, inr, flat_map}
use Rattle.std.specs.Prelude.{Option, Some, None, ◌⊎◌, nat_lt, slice_get, slice_index_or, Contains, All, if◌then◌else◌}
use Rattle.std.proofs.lemmas.Option.{slice_get_within, get_or_from_slice_get, slice_get-get_or}
use Rattle.std.proofs.lemmas.List.{get_or_append_left, get_or_default}
use Rattle.mid_blocks.specs.declared.code.MidStep.{MidStep}
use Rattle.mid_blocks.specs.declared.code.MidEnd.{MidEnd}
use Rattle.mid_blocks.specs.declared.code.MidEnd.TheVariants as line
use Rattle.mid_blocks.specs.declared.code.MidFunction.{MidFunction}
use Rattle.mid_blocks.specs.declared.places.Place.{Place}
use Rattle.mid_blocks.specs.declared.places.Place.TheVariants.{Pair, Slot}
use Rattle.mid_blocks.specs.declared.places.Places.{Places}
use Rattle.mid_blocks.specs.Lines.{Line, Step, End, step_writes, end_writes, line_reads, line_writes, one_or_none, block_lines, lines, first_of, leads_to}
use Rattle.mid_blocks.specs.Liveness.{LineAt, IsWanted, here, later, IsLive, written, wanted, parameter, own_slot, PlaceOf}
use Rattle.mid_blocks.specs.Valid.{ValidFunction, line_variables}
use Rattle.third_law.specs.Emitted.{place_of}
use Rattle.third_law.specs.Law.{FitsThree}
use Rattle.third_law.proofs.Places.{PlaceFits}
use Rattle.third_law.proofs.Relation.{Wanted, StepAt, EndAt, Flow}

-- ---- positions

some_same : {A : Type 0} (x y : A) → ◌≡◌ {A = Option A} (Some x) (Some y) → x ≡ y
some_same {A} x y e = ap (λ (o : Option A). elim o as (λ z. A) [ Some v ↦ v | None ↦ x ]) e

none_is : {A : Type 0} (x : A) → ◌≡◌ {A = Option A} None (Some x) → ⊥
none_is x e = cc

pub get_front : {A : Type 0} (xs ys : List A) (n : ℕ) (y : A) → slice_get xs n ≡ Some y → slice_get (xs ++ ys) n ≡ Some y
get_front [] ys n y e = absurd (none_is y e)
get_front (x ∷ xs) ys zero y e = e
get_front (x ∷ xs) ys (suc n) y e = get_front xs ys n y e

get_behind : {A : Type 0} (xs ys : List A) (n : ℕ) → slice_get (xs ++ ys) (length xs + n) ≡ slice_get ys n
get_behind [] ys n = ap (λ (k : ℕ). slice_get ys k) (Rattle.std.proofs.Common.zero-add n)
get_behind (x ∷ xs) ys n = ap (λ (k : ℕ). slice_get (x ∷ (xs ++ ys)) k) (Rattle.std.proofs.Common.suc-add (length xs) n) ∙ get_behind xs ys n

pub get_flat : {X A : Type 0} (f : X → List A) (xs : List X) (b n : ℕ) (x : X) (y : A) → slice_get xs b ≡ Some x → slice_get (f x) n ≡ Some y → slice_get (flat_map f xs) (length (flat_map f (take b xs)) + n) ≡ Some y
get_flat f [] b n x y e g = absurd (none_is x e)
get_flat {X} f (z ∷ xs) zero n x y e g = ap (λ (k : ℕ). slice_get (f z ++ flat_map f xs) k) (Rattle.std.proofs.Common.zero-add n) ∙ get_front (f z) (flat_map f xs) n y (subst (λ (v : X). slice_get (f v) n ≡ Some y) (sym (some_same z x e)) g)
get_flat f (z ∷ xs) (suc b) n x y e g =
    ap (λ (k : ℕ). slice_get (f z ++ flat_map f xs) k) (ap (λ (m : ℕ). m + n) (Rattle.std.proofs.Common.length-append (f z) (flat_map f (take b xs))) ∙ Rattle.std.proofs.Common.add_assoc (length (f z)) (length (flat_map f (take b xs))) n) ∙
    (get_behind (f z) (flat_map f xs) (length (flat_map f (take b xs)) + n) ∙ get_flat f xs b n x y e g)

pub next_flat : {X A : Type 0} (f : X → List A) (xs : List X) (b : ℕ) (x : X) → slice_get xs b ≡ Some x → length (flat_map f (take (suc b) xs)) ≡ length (flat_map f (take b xs)) + length (f x)
next_flat f [] b x e = absurd (none_is x e)
next_flat {X} f (z ∷ xs) zero x e = Rattle.std.proofs.Common.length-append (f z) [] ∙ (ends_up (length (f z)) ∙ ap (λ (v : X). 0 + length (f v)) (some_same z x e))
  where
    ends_up : (n : ℕ) → n + 0 ≡ 0 + n
    ends_up n = omega arith
next_flat f (z ∷ xs) (suc b) x e =
    Rattle.std.proofs.Common.length-append (f z) (flat_map f (take (suc b) xs)) ∙ (ap (λ (m : ℕ). length (f z) + m) (next_flat f xs b x e) ∙
    (sym (Rattle.std.proofs.Common.add_assoc (length (f z)) (length (flat_map f (take b xs))) (length (f x))) ∙ ap (λ (m : ℕ). m + length (f x)) (sym (Rattle.std.proofs.Common.length-append (f z) (flat_map f (take b xs))))))

get_map : (xs : List MidStep) (n : ℕ) (s : MidStep) → slice_get xs n ≡ Some s → slice_get (map Step xs) n ≡ Some (Step s)
get_map [] n s e = absurd (none_is s e)
get_map (x ∷ xs) zero s e = ap (λ (o : Option MidStep). Rattle.std.specs.Prelude.option_map Step o) e
get_map (x ∷ xs) (suc n) s e = get_map xs n s e

pub step_line : (f : MidFunction) (b n : ℕ) (s : MidStep) → StepAt f b n s → LineAt f (first_of f b + n) (Step s)
step_line f b n s h = get_flat block_lines f.blocks b n h.block (Step s) h.is_block (get_front (map Step h.block.steps) (End h.block.end ∷ []) n (Step s) (get_map h.block.steps n s h.is_step))

last_line : (xs : List MidStep) (e : MidEnd) → slice_get (map Step xs ++ End e ∷ []) (length xs) ≡ Some (End e)
last_line [] e = refl
last_line (x ∷ xs) e = last_line xs e

pub end_line : (f : MidFunction) (b n : ℕ) (e : MidEnd) → EndAt f b n e → LineAt f (first_of f b + n) (End e)
end_line f b n e h = get_flat block_lines f.blocks b n h.block (End e) h.is_block
    (ap (λ (k : ℕ). slice_get (block_lines h.block) k) h.is_last ∙ (last_line h.block.steps h.block.end ∙ ap (λ (x : MidEnd). Some (End x)) h.is_end))

lines_long : (xs : List MidStep) (e : MidEnd) → length (map Step xs ++ End e ∷ []) ≡ length xs + 1
lines_long [] e = refl
lines_long (x ∷ xs) e = ap (λ (n : ℕ). suc n) (lines_long xs e) ∙ up (length xs)
  where
    up : (n : ℕ) → suc (n + 1) ≡ suc n + 1
    up n = omega arith

-- the line behind the last of a block is the first of the next
next_first : (f : MidFunction) (b n : ℕ) (e : MidEnd) → EndAt f b n e → first_of f (b + 1) + 0 ≡ first_of f b + n + 1
next_first f b n e h =
    ap (λ (k : ℕ). first_of f k + 0) (Rattle.std.proofs.Common.add-one b) ∙ (ap (λ (k : ℕ). k + 0) (next_flat block_lines f.blocks b h.block h.is_block) ∙
    (ap (λ (k : ℕ). first_of f b + k + 0) (lines_long h.block.steps h.block.end) ∙ joined (first_of f b) (length h.block.steps) n h.is_last))
  where
    joined : (m k n : ℕ) → n ≡ k → m + (k + 1) + 0 ≡ m + n + 1
    joined m k n e = omega arith

-- ---- variables that are there

pub in_front : (xs ys : List ℕ) (v : ℕ) → Contains xs v → Contains (xs ++ ys) v
in_front xs ys v c = (c.0, longer (length xs) (length ys) (length (xs ++ ys)) c.0 (Rattle.std.proofs.Common.length-append xs ys) c.1, get_or_append_left xs ys v c.0 c.1 ∙ c.2)
  where
    longer : (m n t k : ℕ) → t ≡ m + n → k < m → k < t
    longer m n t k e h = omega arith

pub at_end : (xs : List ℕ) (v : ℕ) → Contains (xs ++ v ∷ []) v
at_end xs v = (length xs, last (length xs) (length (xs ++ v ∷ [])) (Rattle.std.proofs.Common.length-append xs (v ∷ [])), Rattle.std.proofs.lemmas.List.get_or_at xs v [] v (length xs) refl)
  where
    last : (n t : ℕ) → t ≡ n + 1 → n < t
    last n t e = omega arith

line_holds : (P : Line → Type 0) (xs : List Line) (at : ℕ) (l : Line) → All P xs → slice_get xs at ≡ Some l → P l
line_holds P xs at l h e = subst P (get_or_from_slice_get xs at l l e) (h at l (slice_get_within xs at l e))

in_list : (P : ℕ → Type 0) (xs : List ℕ) (v : ℕ) → All P xs → Contains xs v → P v
in_list P xs v h c = subst P c.2 (h c.0 v c.1)

module _ (f : MidFunction) (at : Places) (vf : ValidFunction f) (pf : FitsThree f at) where
  pub named_below : (k : ℕ) (l : Line) (v : ℕ) → LineAt f k l → Contains (line_variables l) v → v < f.variables
  named_below k l v e c = in_list (λ v. v < f.variables) (line_variables l) v (line_holds (λ l. All (λ v. v < f.variables) (line_variables l)) (lines f) k l vf.variables_exist e) c

  wanted_below : (v k : ℕ) → IsWanted f v k → v < f.variables
  wanted_below v k (here j l e c) = named_below j l v e (in_front (line_reads l) (one_or_none (line_writes l)) v c)
  wanted_below v k (later j next l e n c w) = wanted_below v next w

  written_below : (k : ℕ) (l : Line) (v : ℕ) → LineAt f k l → line_writes l ≡ Some v → v < f.variables
  written_below k l v e w = named_below k l v e (subst (λ (o : Option ℕ). Contains (line_reads l ++ one_or_none o) v) (sym w) (at_end (line_reads l) v))

  has_place : (v : ℕ) → v < f.variables → PlaceOf at v (place_of at v)
  has_place v h = slice_get-get_or at.list v (Slot 0) (subst (λ (n : ℕ). v < n) (sym pf.fit.one_each) h)

  slot_fits : (v s : ℕ) → v < f.variables → s ≡ own_slot f v → s + 1 < f.pairs
  slot_fits v s h e = elim (nat_lt v f.params) as (λ z. nat_lt v f.params ≡ z → s ≡ cond z (f.pairs - 2 - v) (v - f.params) → s + 1 < f.pairs) [
    | true ↦ λ t g. first s v f.variables f.pairs f.params h vf.variables_fit (below v f.params t) vf.params_fit g
    | false ↦ λ t g. second s v f.variables f.pairs f.params h vf.variables_fit g
  ] refl e
    where
      below : (v n : ℕ) → nat_lt v n ≡ true → v < n
      below v n t = grind arith

      first : (s v n q p : ℕ) → v < n → n < q → v < p → p ≤ n → s ≡ q - 2 - v → s + 1 < q
      first s v n q p h k l m g = omega arith

      second : (s v n q p : ℕ) → v < n → n < q → s ≡ v - p → s + 1 < q
      second s v n q p h k g = omega arith

  fits_by : (v : ℕ) (pl : Place) → v < f.variables → PlaceOf at v pl → PlaceFits f.pairs pl
  fits_by v (Pair k) h e = pf.in_pairs v k e
  fits_by v (Slot s) h e = slot_fits v s h (pf.fit.own_slots v s e)

  pub fits_below : (v : ℕ) → v < f.variables → PlaceFits f.pairs (place_of at v)
  fits_below v h = fits_by v (place_of at v) h (has_place v h)

  differ : (x y k : ℕ) → x < f.variables → y < f.variables → IsLive f x k → IsLive f y k → y ≢ x → place_of at y ≢ place_of at x
  differ x y k hx hy lx ly ne = λ e. ne (pf.fit.apart y x k (place_of at x) ly lx (subst (λ (pl : Place). PlaceOf at y pl) e (has_place y hy)) (has_place x hx))

  only : (n : ℕ) → Contains (n ∷ []) n
  only n = (0, Rattle.std.proofs.Common.zero-lt-suc 0, refl)

  on_behind : (k v : ℕ) (l : Line) → LineAt f k l → line_writes l ≢ Some v → Contains (leads_to f k l) (k + 1) → IsWanted f v (k + 1) → IsWanted f v k
  on_behind k v l e n c w = later k (k + 1) l e n c w

  next_step : (m n : ℕ) → m + (n + 1) ≡ m + n + 1
  next_step m n = sym (Rattle.std.proofs.Common.add_assoc m n 1)

  step_goes : (b n v : ℕ) (s : MidStep) → StepAt f b n s → step_writes s ≢ Some v → Wanted f b (n + 1) v → Wanted f b n v
  step_goes b n v s h ne w = on_behind (first_of f b + n) v (Step s) (step_line f b n s h) ne (only (first_of f b + n + 1)) (subst (λ (k : ℕ). IsWanted f v k) (next_step (first_of f b) n) w)

  call_goes : (b n v fn : ℕ) (args : List ℕ) (result : Option ℕ) → EndAt f b n (line.Call fn args result) → result ≢ Some v → Wanted f (b + 1) 0 v → Wanted f b n v
  call_goes b n v fn args result h ne w = on_behind (first_of f b + n) v (End (line.Call fn args result)) (end_line f b n (line.Call fn args result) h) ne (only (first_of f b + n + 1)) (subst (λ (k : ℕ). IsWanted f v k) (next_first f b n (line.Call fn args result) h) w)

  first_here : (b n v to : ℕ) (e : MidEnd) → EndAt f b n e → end_writes e ≡ None → Contains (leads_to f (first_of f b + n) (End e)) (first_of f to) → Wanted f to 0 v → Wanted f b n v
  first_here b n v to e h none c w = later (first_of f b + n) (first_of f to) (End e) (end_line f b n e h) (λ z. none_is v (sym none ∙ z)) c (subst (λ (k : ℕ). IsWanted f v k) (Rattle.std.proofs.Common.add-zero (first_of f to)) w)

  across : (v : ℕ) (pl : Place) → place_of at v ≡ pl → v < f.variables → ((k : ℕ) → PlaceOf at v (Pair k) → ⊥) → (s : ℕ) × (pl ≡ Slot s)
  across v (Pair k) e h g = absurd (g k (subst (λ (pl : Place). PlaceOf at v pl) e (has_place v h)))
  across v (Slot s) e h g = (s, refl)

  pub param_below : (j : ℕ) → j < f.params → j < f.variables
  param_below j h = below j f.params f.variables h vf.params_fit
    where
      below : (j p n : ℕ) → j < p → p ≤ n → j < n
      below j p n h k = omega arith

  pub flow : Flow f at
  flow = record {
    step_read = λ b n v s h c. here (first_of f b + n) (Step s) (step_line f b n s h) c;
    step_on = step_goes;
    step_apart = λ b n x y s h w g ne. differ x y (first_of f b + n) (written_below (first_of f b + n) (Step s) x (step_line f b n s h) w) (wanted_below y (first_of f b + (n + 1)) g)
        (written (Step s) (step_line f b n s h) w) (wanted (step_goes b n y s h (λ z. ne (some_same y x (sym z ∙ w))) g)) ne;
    step_fits = λ b n x s h w. fits_below x (written_below (first_of f b + n) (Step s) x (step_line f b n s h) w);
    wanted_fits = λ b n v w. fits_below v (wanted_below v (first_of f b + n) w);
    end_read = λ b n v e h c. here (first_of f b + n) (End e) (end_line f b n e h) c;
    jump_on = λ b n v to h w. first_here b n v to (line.Jump to) h refl (only (first_of f to)) w;
    branch_to = λ b n v t to w h g. first_here b n v to (line.Branch t w to) h refl (1, Rattle.std.proofs.Common.suc-le-suc (Rattle.std.proofs.Common.zero-lt-suc 0), refl) g;
    branch_on = λ b n v t to w h g. later (first_of f b + n) (first_of f b + n + 1) (End (line.Branch t w to)) (end_line f b n (line.Branch t w to) h) (λ z. none_is v z) (0, Rattle.std.proofs.Common.zero-lt-suc 1, refl) (subst (λ (k : ℕ). IsWanted f v k) (next_first f b n (line.Branch t w to) h) g);
    call_on = λ b n v fn args result h ne w. (
      call_goes b n v fn args result h ne w,
      across v (place_of at v) refl (wanted_below v (first_of f (b + 1) + 0) w) (λ k e. pf.fit.across_in_slots v (first_of f b + n) k (record { function = fn; args = args; result = result; is_call = end_line f b n (line.Call fn args result) h; not_its_result = ne; wanted_behind = subst (λ (k : ℕ). IsWanted f v k) (next_first f b n (line.Call fn args result) h) w }) e),
    );
    result_apart = λ b n x y fn args h g ne. differ x y (first_of f b + n) (written_below (first_of f b + n) (End (line.Call fn args (Some x))) x (end_line f b n (line.Call fn args (Some x)) h) refl) (wanted_below y (first_of f (b + 1) + 0) g)
        (written (End (line.Call fn args (Some x))) (end_line f b n (line.Call fn args (Some x)) h) refl) (wanted (call_goes b n y fn args (Some x) h (λ z. ne (some_same y x (sym z))) g)) ne;
    result_fits = λ b n x fn args h. fits_below x (written_below (first_of f b + n) (End (line.Call fn args (Some x))) x (end_line f b n (line.Call fn args (Some x)) h) refl);
    parameter_fits = λ j h. (one_less j f.params f.variables f.pairs h vf.params_fit vf.variables_fit, fits_below j (param_below j h));
    parameter_slot = λ j s h e. pf.fit.own_slots j s (subst (λ (pl : Place). PlaceOf at j pl) e (has_place j (param_below j h))) ∙ ap (λ (z : Bool). cond z (f.pairs - 2 - j) (j - f.params)) (is_below j f.params h);
    parameters_apart = λ j q k hj hq ej eq. pf.fit.apart j q 0 (Pair k) (parameter hj refl) (parameter hq refl) (subst (λ (pl : Place). PlaceOf at j pl) ej (has_place j (param_below j hj))) (subst (λ (pl : Place). PlaceOf at q pl) eq (has_place q (param_below q hq)));
    pairs_fit = pf.small;
    has_pair = some_pair f.variables f.pairs vf.variables_fit;
  }
    where
      one_less : (j p n q : ℕ) → j < p → p ≤ n → n < q → j + 1 < q
      one_less j p n q h k l = omega arith

      is_below : (j p : ℕ) → j < p → nat_lt j p ≡ true
      is_below j p h = grind arith

      some_pair : (n q : ℕ) → n < q → 1 ≤ q
      some_pair n q h = omega arith
