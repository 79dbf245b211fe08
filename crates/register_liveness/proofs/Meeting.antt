-- From the first to the last position where a variable is live: the positions that decide it.
use Rattle.std.proofs.Common.{◌≡◌, ℕ, zero, suc, ◌+◌, ◌≤◌, [], ◌∷◌, length, Some, refl, sym, ap, ◌∙◌, subst, arith, inl, inr}
use Rattle.std.specs.Prelude.{slice_get, ◌⊎◌}
use Rattle.std.specs.List.{Contains}
use Rattle.std.proofs.lemmas.Bool.{cases_lt}
use Rattle.mid_blocks.specs.declared.code.MidEnd.TheVariants.{Call}
use Rattle.mid_blocks.specs.declared.code.MidBlock.{MidBlock}
use Rattle.mid_blocks.specs.declared.code.MidFunction.{MidFunction}
use Rattle.mid_blocks.specs.Lines.{Line, Step, End, lines, first_of, leads_to}
use Rattle.mid_blocks.specs.Liveness.{LineAt, IsWanted, here, later, IsLive, written, wanted, parameter, IsLiveAcross}
use Rattle.register_liveness.specs.Met.{IsMet, by_read, by_write, by_first, by_last, by_call, CallBefore}
use Rattle.mid_blocks.proofs.Positions.{get_within, step_line, end_line, line_there, first_behind, spot_of}
use Rattle.register_liveness.proofs.Wanted.{does, does_read, does_write, does_nothing, contains_cases, contains_head, leads_from, leads_back, SuccessorsExist}

module _ (f : MidFunction) where
  end_there : (b : ℕ) (block : MidBlock) → slice_get f.blocks b ≡ Some block → LineAt f (first_of f b + length block.steps) (End block.end)
  end_there b block is = line_there f b (length block.steps) block is (omega arith) ∙ ap Some (end_line block.steps block.end)

  -- it is live at each of them
  pub met_live : (v at : ℕ) → IsMet f v at → IsLive f v at
  met_live v _ (by_read at line there c) = wanted (here at line there c)
  met_live v _ (by_write at line there w) = written line there w
  met_live v _ (by_first b lt h) = wanted h
  met_live v _ (by_last b s block is c h) =
      let there = end_there b block is in
      elim (does v (End block.end)) [
        | does_read u c' ↦ wanted (here (first_of f b + length block.steps) (End block.end) there c')
        | does_write u unread w ↦ written (End block.end) there w
        | does_nothing u unread w ↦ wanted (later (first_of f b + length block.steps) (first_of f s) (End block.end) there w (leads_from f b s (first_of f b + length block.steps) block.end (first_behind f b block is) c) h)
      ]
  met_live v _ (by_call h) = parameter h refl

  pub record Between (v at : ℕ) : Type 0 where
    pub low : ℕ
    pub high : ℕ
    pub met_low : IsMet f v low
    pub met_high : IsMet f v high
    pub above : low ≤ at
    pub below : at ≤ high

  record Ahead (v at : ℕ) : Type 0 where
    high : ℕ
    met_high : IsMet f v high
    below : at ≤ high

  record Back (v at : ℕ) : Type 0 where
    low : ℕ
    met_low : IsMet f v low
    above : low ≤ at

  ahead : (v at : ℕ) → SuccessorsExist f → IsWanted f v at → Ahead v at
  ahead v _ exist (here at line there c) = record { high = at; met_high = by_read at line there c; below = omega arith }
  ahead v _ exist (later at next line there w c h) =
      let spot = spot_of f at (get_within (lines f) at line there) in
      elim (cases_lt spot.before (length spot.block.steps)) [
        | inl lt ↦
            let s = step_line spot.block.steps spot.block.end spot.before lt in
            let is_step : Some line ≡ Some (Step s.0) = sym there ∙ ap (slice_get (lines f)) spot.place ∙ line_there f spot.number spot.before spot.block spot.is spot.within ∙ ap Some s.2 in
            let same : line ≡ Step s.0 = cc in
            let c' : Contains ((at + 1) ∷ []) next = subst (λ (l : Line). Contains (leads_to f at l) next) same c in
            let nx : (at + 1 ≡ next) ⊎ Contains [] next = contains_cases (at + 1) [] next c' in
            elim nx [
              | inl i ↦ let r = ahead v next exist h in record { high = r.high; met_high = r.met_high; below = omega (arith, r.below) }
              | inr i ↦ absurd (omega (arith, i.1))
            ]
        | inr ge ↦
            let e : at ≡ first_of f spot.number + length spot.block.steps = omega (arith, spot.place, spot.within) in
            let is_end : Some line ≡ Some (End spot.block.end) = sym there ∙ ap (slice_get (lines f)) e ∙ end_there spot.number spot.block spot.is in
            let same : line ≡ End spot.block.end = cc in
            let c' : Contains (leads_to f at (End spot.block.end)) next = subst (λ (l : Line). Contains (leads_to f at l) next) same c in
            let nx = leads_back f spot.number next at spot.block.end (omega (arith, first_behind f spot.number spot.block spot.is)) c' in
            record { high = first_of f spot.number + length spot.block.steps; met_high = by_last spot.number nx.0 spot.block spot.is nx.1 (subst (IsWanted f v) nx.2 h); below = omega arith }
      ]

  back : (v b n : ℕ) (block : MidBlock) → slice_get f.blocks b ≡ Some block → n ≤ length block.steps → IsWanted f v (first_of f b + n) → Back v (first_of f b + n)
  back v b zero block is le h = record { low = first_of f b; met_low = by_first b (get_within f.blocks b block is) (subst (IsWanted f v) (omega arith) h); above = omega arith }
  back v b (suc n) block is le h =
      let s = step_line block.steps block.end n (omega arith) in
      let there : LineAt f (first_of f b + n) (Step s.0) = line_there f b n block is (omega arith) ∙ ap Some s.2 in
      elim (does v (Step s.0)) [
        | does_read u c ↦ record { low = first_of f b + n; met_low = by_read (first_of f b + n) (Step s.0) there c; above = omega arith }
        | does_write u unread w ↦ record { low = first_of f b + n; met_low = by_write (first_of f b + n) (Step s.0) there w; above = omega arith }
        | does_nothing u unread w ↦
            let before : IsWanted f v (first_of f b + n) = later (first_of f b + n) (first_of f b + n + 1) (Step s.0) there w (contains_head (first_of f b + n + 1) []) (subst (IsWanted f v) (omega arith) h) in
            let r = back v b n block is (omega arith) before in
            record { low = r.low; met_low = r.met_low; above = omega (arith, r.above) }
      ]

  -- and each position where it is live stands between two of them
  pub between : (v at : ℕ) → SuccessorsExist f → IsLive f v at → Between v at
  between v at exist (written line there w) = record { low = at; high = at; met_low = by_write at line there w; met_high = by_write at line there w; above = omega arith; below = omega arith }
  between v at exist (wanted h) =
      let line : (line : Line) × LineAt f at line = elim h [ here at line there c ↦ (line, there) | later at next line there w c h ↦ (line, there) ] in
      let spot = spot_of f at (get_within (lines f) at line.0 line.1) in
      let up = ahead v at exist h in
      let down = back v spot.number spot.before spot.block spot.is spot.within (subst (IsWanted f v) spot.place h) in
      record { low = down.low; high = up.high; met_low = down.met_low; met_high = up.met_high; above = omega (arith, down.above, spot.place); below = up.below }
  between v at exist (parameter h z) = record { low = 0; high = 0; met_low = by_call h; met_high = by_call h; above = omega arith; below = omega arith }

  -- ---- across a Call

  pub across_from : (v : ℕ) → CallBefore f v → (at : ℕ) × IsLiveAcross f v at
  across_from v c = (
    first_of f c.number + length c.block.steps,
    record {
      function = c.function;
      args = c.args;
      result = c.result;
      is_call = end_there c.number c.block c.is ∙ ap (λ e. Some (End e)) c.ends;
      not_its_result = c.not_its_result;
      wanted_behind = subst (IsWanted f v) (first_behind f c.number c.block c.is) c.behind;
    },
  )

  pub across_to : (v at : ℕ) → IsLiveAcross f v at → CallBefore f v
  across_to v at a =
      let spot = spot_of f at (get_within (lines f) at (End (Call a.function a.args a.result)) a.is_call) in
      elim (cases_lt spot.before (length spot.block.steps)) [
        | inl lt ↦
            let s = step_line spot.block.steps spot.block.end spot.before lt in
            let bad : Some (End (Call a.function a.args a.result)) ≡ Some (Step s.0) = sym a.is_call ∙ ap (slice_get (lines f)) spot.place ∙ line_there f spot.number spot.before spot.block spot.is spot.within ∙ ap Some s.2 in
            absurd (cc)
        | inr ge ↦
            let e : at ≡ first_of f spot.number + length spot.block.steps = omega (arith, spot.place, spot.within) in
            let is_end : Some (End (Call a.function a.args a.result)) ≡ Some (End spot.block.end) = sym a.is_call ∙ ap (slice_get (lines f)) e ∙ end_there spot.number spot.block spot.is in
            let same : spot.block.end ≡ Call a.function a.args a.result = cc in
            record {
              number = spot.number;
              block = spot.block;
              function = a.function;
              args = a.args;
              result = a.result;
              is = spot.is;
              ends = same;
              not_its_result = a.not_its_result;
              behind = subst (IsWanted f v) (omega (arith, first_behind f spot.number spot.block spot.is)) a.wanted_behind;
            }
      ]
