-- Those that hold pairs behind the last line of a block: the ones of its successors together.
use Rattle.std.proofs.Common.{◌≡◌, ℕ, ◌+◌, ◌-◌, ◌<◌, ◌≤◌, List, [], ◌∷◌, length, Option, Some, sym, ap, ◌∙◌, subst, arith, inl, inr}
use Rattle.std.specs.Prelude.{slice_get, ◌⊎◌}
use Rattle.std.specs.List.{Contains}
use Rattle.mid_blocks.specs.declared.code.MidBlock.{MidBlock}
use Rattle.mid_blocks.specs.declared.code.MidStep.{MidStep}
use Rattle.mid_blocks.specs.declared.code.MidFunction.{MidFunction}
use Rattle.mid_blocks.specs.declared.places.Place.{Place}
use Rattle.mid_blocks.specs.declared.places.Place.TheVariants.{Pair}
use Rattle.mid_blocks.specs.Lines.{Line, Step, End, line_of, first_of}
use Rattle.mid_blocks.specs.Liveness.{LineAt, IsWanted, IsLive}
use Rattle.register_liveness.specs.Uses.{successors}
use Rattle.register_liveness.specs.Met.{by_last}
use Rattle.register_halves.specs.Fit.{row, Holds, AddsRow, ClashRow, AreStarts, IsUnfit, IsWantedBehind, HoldBehind, HoldAt}
use Rattle.mid_blocks.proofs.Positions.{get_within, line_there, step_line, end_line, first_behind}
use Rattle.register_liveness.proofs.Wanted.{contains_head, contains_tail, contains_cases, leads_from, leads_back}
use Rattle.register_liveness.proofs.Links.{only_one}
use Rattle.register_liveness.proofs.Meeting.{met_live}
use Rattle.register_halves.proofs.Fitting.{holds_same, holds_row, clash_row_shares}

module _ (f : MidFunction) (places : List Place) (rows : List (Option ℕ)) (are : AreStarts f places rows f.variables) (one_each : length places ≡ f.variables) where
  rows_sound : (s k v : ℕ) → s < length f.blocks → k < 8 → row rows s k ≡ Some v → (slice_get places v ≡ Some (Pair k)) × IsWanted f v (first_of f s)
  rows_sound s k v ls lk h = let q = are.sound s k v ls lk h in (q.1, q.2)

  rows_complete : (s k v : ℕ) → s < length f.blocks → k < 8 → slice_get places v ≡ Some (Pair k) → IsWanted f v (first_of f s) → row rows s k ≡ Some v
  rows_complete s k v ls lk p w = are.complete s k v ls lk (omega (arith, get_within places v (Pair k) p, one_each)) p w

  -- the variables wanted at the start of one of these blocks
  abbrev pub WantedIn : List ℕ → ℕ → Type 0
  WantedIn blocks v = (s : ℕ) × Contains blocks s × IsWanted f v (first_of f s)

  pub one_row : (now after : List (Option ℕ)) (s : ℕ) → s < length f.blocks → Holds places now (λ v. ⊥) → AddsRow now after (row rows s) → Holds places after (WantedIn (s ∷ []))
  one_row now after s l h a = holds_same places after (λ v. ⊥ ⊎ IsWanted f v (first_of f s)) (WantedIn (s ∷ []))
      (λ v t. elim t [ inl x ↦ absurd x | inr w ↦ (s, contains_head s [], w) ])
      (λ v t. inr (subst (λ (x : ℕ). IsWanted f v (first_of f x)) (sym (only_one s t.0 t.1)) t.2))
      (holds_row places now after (row rows s) (λ v. ⊥) (λ v. IsWanted f v (first_of f s)) h (λ k v lk e. rows_sound s k v l lk e) (λ k v lk p w. rows_complete s k v l lk p w) a)

  pub two_rows : (now after : List (Option ℕ)) (s t : ℕ) → t < length f.blocks → Holds places now (WantedIn (s ∷ [])) → AddsRow now after (row rows t) → Holds places after (WantedIn (s ∷ t ∷ []))
  two_rows now after s t l h a = holds_same places after (λ v. WantedIn (s ∷ []) v ⊎ IsWanted f v (first_of f t)) (WantedIn (s ∷ t ∷ []))
      (λ v x. elim x [
        | inl w ↦ (s, contains_head s (t ∷ []), subst (λ (y : ℕ). IsWanted f v (first_of f y)) (sym (only_one s w.0 w.1)) w.2)
        | inr w ↦ (t, contains_tail s (t ∷ []) t (contains_head t []), w)
      ])
      (λ v x. elim (contains_cases s (t ∷ []) x.0 x.1) [
        | inl e ↦ inl (s, contains_head s [], subst (λ (y : ℕ). IsWanted f v (first_of f y)) (sym e) x.2)
        | inr c ↦ inr (subst (λ (y : ℕ). IsWanted f v (first_of f y)) (sym (only_one t x.0 c)) x.2)
      ])
      (holds_row places now after (row rows t) (WantedIn (s ∷ [])) (λ v. IsWanted f v (first_of f t)) h (λ k v lk e. rows_sound t k v l lk e) (λ k v lk p w. rows_complete t k v l lk p w) a)

  pub no_rows : (now : List (Option ℕ)) → Holds places now (λ v. ⊥) → Holds places now (WantedIn [])
  no_rows now h = holds_same places now (λ v. ⊥) (WantedIn []) (λ v x. absurd x) (λ v x. absurd (omega (arith, x.1.1))) h

  module _ (b : ℕ) (block : MidBlock) (is : slice_get f.blocks b ≡ Some block) where
    abbrev at : ℕ
    at = first_of f b + length block.steps

    end_there : LineAt f at (End block.end)
    end_there = line_there f b (length block.steps) block is (omega arith) ∙ ap Some (end_line block.steps block.end)

    pub behind_end : (now : List (Option ℕ)) → Holds places now (WantedIn (successors b block.end)) → HoldBehind f places now at
    behind_end now h line there =
        let both : Some (End block.end) ≡ Some line = sym end_there ∙ there in
        let same : End block.end ≡ line = cc in
        subst (λ (l : Line). Holds places now (IsWantedBehind f at l)) same
        (holds_same places now (WantedIn (successors b block.end)) (IsWantedBehind f at (End block.end))
        (λ v x. (first_of f x.0, leads_from f b x.0 at block.end (first_behind f b block is) x.1, x.2))
        (λ v x. let r = leads_back f b x.0 at block.end (first_behind f b block is) x.1 in (r.0, r.1, subst (IsWanted f v) r.2 x.2)) h)

    -- a variable wanted in a successor is live at the end
    live_there : (v : ℕ) → WantedIn (successors b block.end) v → IsLive f v at
    live_there v x = met_live f v at (by_last b x.0 block is x.1 x.2)

    pub unfit_row : (now : List (Option ℕ)) (S : ℕ → Type 0) (s : ℕ) → Contains (successors b block.end) s → s < length f.blocks → ((v : ℕ) → S v → WantedIn (successors b block.end) v) → Holds places now S → ClashRow now (row rows s) → IsUnfit f places
    unfit_row now S s c l inside h clash =
        let share = clash_row_shares places now (row rows s) S (λ v. IsWanted f v (first_of f s)) h (λ k v lk e. rows_sound s k v l lk e) clash in
        let live : (v : ℕ) → S v ⊎ IsWanted f v (first_of f s) → IsLive f v at = λ v x. elim x [ inl y ↦ live_there v (inside v y) | inr w ↦ live_there v (s, c, w) ] in
        record { at = at; pair = share.pair; one = share.one; other = share.other; one_live = live share.one share.has_one; other_live = live share.other share.has_other; one_in = share.one_in; other_in = share.other_in; differ = share.differ }

-- behind a step is the next line
pub step_behind : (f : MidFunction) (places : List Place) (now : List (Option ℕ)) (at : ℕ) (s : MidStep) → LineAt f at (Step s) → HoldAt f places now (at + 1) → HoldBehind f places now at
step_behind f places now at s is h line there =
    let both : Some (Step s) ≡ Some line = sym is ∙ there in
    let same : Step s ≡ line = cc in
    subst (λ (l : Line). Holds places now (IsWantedBehind f at l)) same
    (holds_same places now (λ v. IsWanted f v (at + 1)) (IsWantedBehind f at (Step s))
    (λ v w. (at + 1, contains_head (at + 1) [], w))
    (λ v x. subst (IsWanted f v) (sym (only_one (at + 1) x.0 x.1)) x.2) h)

pub line_here : (f : MidFunction) (first b n : ℕ) (block : MidBlock) → slice_get f.blocks b ≡ Some block → first ≡ first_of f b → n ≤ length block.steps → LineAt f (first + n) (line_of (slice_get block.steps n) block.end)
line_here f first b n block is e le = subst (λ (k : ℕ). LineAt f (k + n) (line_of (slice_get block.steps n) block.end)) (sym e) (line_there f b n block is le)

pub step_behind_at : (f : MidFunction) (places : List Place) (now : List (Option ℕ)) (first b n m : ℕ) (block : MidBlock) → slice_get f.blocks b ≡ Some block → first ≡ first_of f b → m ≤ length block.steps → 0 < m → n ≡ m - 1 → HoldAt f places now (first + m) → HoldBehind f places now (first + n)
step_behind_at f places now first b n m block is e le pos nm h =
    let s = step_line block.steps block.end n (omega arith) in
    let here : LineAt f (first + n) (Step s.0) = line_here f first b n block is e (omega arith) ∙ ap Some s.2 in
    step_behind f places now (first + n) s.0 here (subst (HoldAt f places now) (omega arith) h)
