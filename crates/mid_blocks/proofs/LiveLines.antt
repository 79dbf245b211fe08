-- What is wanted and what is live at a line, by its reads, its write and where it leads.
use Rattle.std.proofs.Common.{◌≡◌, ◌≢◌, ℕ, ◌<◌, Some, sym, ◌∙◌, subst, inl, inr}
use Rattle.std.specs.Prelude.{slice_get, ◌⊎◌}
use Rattle.std.specs.List.{Contains}
use Rattle.mid_blocks.specs.declared.code.MidFunction.{MidFunction}
use Rattle.mid_blocks.specs.declared.places.Place.TheVariants.{Pair}
use Rattle.mid_blocks.specs.declared.places.Places.{Places}
use Rattle.mid_blocks.specs.Lines.{Line, line_reads, line_writes, leads_to}
use Rattle.mid_blocks.specs.Liveness.{LineAt, IsWanted, here, later, IsLive, written, wanted, parameter, PlacesFit}

module _ (f : MidFunction) where
  -- what is wanted at a line: what it reads, and what it doesn't write and is wanted where it leads
  pub wanted_by : (at : ℕ) (line : Line) → LineAt f at line → (v : ℕ) → IsWanted f v at → Contains (line_reads line) v ⊎ ((line_writes line ≢ Some v) × ((next : ℕ) × Contains (leads_to f at line) next × IsWanted f v next))
  wanted_by at line there v (here at' line' there' c) = let e : Some line' ≡ Some line = sym there' ∙ there in let same : line' ≡ line = cc in inl (subst (λ (l : Line). Contains (line_reads l) v) same c)
  wanted_by at line there v (later at' next line' there' w c h) =
      let e : Some line' ≡ Some line = sym there' ∙ there in let same : line' ≡ line = cc in
      inr (subst (λ (l : Line). line_writes l ≢ Some v) same w, (next, subst (λ (l : Line). Contains (leads_to f at l) next) same c, h))

  pub wanted_from : (at : ℕ) (line : Line) → LineAt f at line → (v : ℕ) → Contains (line_reads line) v ⊎ ((line_writes line ≢ Some v) × ((next : ℕ) × Contains (leads_to f at line) next × IsWanted f v next)) → IsWanted f v at
  wanted_from at line there v (inl c) = here at line there c
  wanted_from at line there v (inr r) = later at r.1.0 line there r.0 r.1.1 r.1.2

  -- what is live at a line: what is wanted there, what it writes, and at position 0 the parameters
  pub live_by : (at : ℕ) (line : Line) → LineAt f at line → (v : ℕ) → IsLive f v at → IsWanted f v at ⊎ ((line_writes line ≡ Some v) ⊎ ((v < f.params) × (at ≡ 0)))
  live_by at line there v (written line' there' w) = let e : Some line' ≡ Some line = sym there' ∙ there in let same : line' ≡ line = cc in inr (inl (subst (λ (l : Line). line_writes l ≡ Some v) same w))
  live_by at line there v (wanted h) = inl h
  live_by at line there v (parameter l z) = inr (inr (l, z))

  -- two variables live together in one pair: the places don't fit
  pub unfit : (places : Places) (at k v w : ℕ) → PlacesFit f places → IsLive f v at → IsLive f w at → slice_get places.list v ≡ Some (Pair k) → slice_get places.list w ≡ Some (Pair k) → v ≢ w → ⊥
  unfit places at k v w fit lv lw pv pw n = n (fit.apart v w at (Pair k) lv lw pv pw)
