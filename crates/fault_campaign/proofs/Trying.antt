-- The flips of a trial, and their counts.
use Rattle.std.proofs.Common.{add-one, slice_index_or, ◌≡◌, ◌≤◌, ◌<◌, ℕ, zero, suc, ◌+◌, ◌-◌, ◌*◌, ◌^◌, arith, ap, refl, sym, subst, ◌∙◌, List, Option, Some, None}
use Rattle.std.specs.Prelude.{length, slice_index, Contains}
use Rattle.std.proofs.lemmas.Option.{get_or_from_slice_get, slice_get_read}
use Rattle.hard_runs.specs.Observed.{Seen}
use Rattle.mips_isa.specs.declared.instr.End.{End}
use Rattle.mips_isa.specs.Image.{ImageFields, boot_state}
use Rattle.mips_isa.specs.Machine.{State}
use Rattle.mips_isa.specs.Runs.{Ran, run, observed}
use Rattle.fault_campaign.specs.declared.flips.Trial.{Trial}
use Rattle.fault_campaign.specs.declared.outcome.Outcome.{Outcome}
use Rattle.fault_campaign.specs.declared.outcome.Outcome.TheVariants.{Same, Reported, Exception, Windowed, Silent}
use Rattle.fault_campaign.specs.declared.outcome.Tally.{Tally}
use Rattle.fault_campaign.specs.Campaign.{ComesTo, Counts, none, register, next_step, Tries, windowed, tried, counted, flip_at, no_flips}
use Rattle.fault_campaign.specs.Runs.{AreBelow, IsReady, KeepsText, image_of}

-- a machine that kept its text is still ready
pub still_ready : (t : Trial) (m n : State) → IsReady t m → KeepsText m n → IsReady t n
still_ready t m n ready keeps = record {
  fits = ready.fits;
  text = keeps.text ∙ ready.text;
  clean = subst (λ feed. Rattle.fault_campaign.specs.Runs.IsClean (boot_state (image_of t) feed) t.steps t.from t.to t.clean) (sym keeps.feed) ready.clean;
  order = ready.order;
  within = ready.within;
  few = ready.few;
}

-- ---- one flip

-- what is read within a list
pub read_is : (xs : List ℕ) (i x : ℕ) → i < length xs → x ≡ slice_index_or xs i x → x ≡ slice_index xs i
read_is xs i x l h = sym (get_or_from_slice_get xs i x 0 (slice_get_read xs (length xs) i x refl l h))

seen : (o p : List ℕ) (e f : Option End) → o ≡ p → e ≡ f → ◌≡◌ {A = Seen End} (record { output = o; end = e }) (record { output = p; end = f })
seen o p e f h k = ap (λ (x : List ℕ). let r : Seen End = record { output = x; end = e } in r) h ∙ ap (λ (x : Option End). let r : Seen End = record { output = p; end = x } in r) k

module _ (t : Trial) (m : State) (ready : IsReady t m) (n r address : ℕ) (first : t.from ≤ n) (last : n < t.to) (at : address ≡ slice_index t.clean.addresses.items (n - t.from)) where
  address_is : address ≡ (run (boot_state (image_of t) m.feed) None n).state.pc
  address_is =
      let k : n - t.from < t.to - t.from = omega arith in
      let all : t.from + (n - t.from) ≡ n = omega arith in
      at ∙ ready.clean.addresses (n - t.from) k ∙ ap (λ j. (run (boot_state (image_of t) m.feed) None j).state.pc) all

  pub window_tried : Contains t.image.now.windows (address, r) → Tries (image_of t) m.feed t.steps n r Windowed
  window_tried h = windowed (subst (λ a. Contains t.image.now.windows (a, r)) address_is h)

  pub flip_tried : (Contains t.image.now.windows (address, r) → ⊥) → (b : State) (out : List ℕ) (end : Option End) (o : Outcome) → b ≡ boot_state (image_of t) m.feed →
      out ≡ (run b (Some (flip_at n r)) t.steps).output → end ≡ (run b (Some (flip_at n r)) t.steps).state.end →
      ComesTo (record { output = out; end = end }) (record { output = t.clean.output.items; end = t.clean.end }) o → Tries (image_of t) m.feed t.steps n r o
  flip_tried h b out end o boots out_is end_is comes =
      let s : State = boot_state (image_of t) m.feed in
      let faulty : ◌≡◌ {A = Seen End} (record { output = out; end = end }) (observed s (Some (flip_at n r)) t.steps) =
      seen _ _ _ _ (out_is ∙ ap (λ (q : State). (run q (Some (flip_at n r)) t.steps).output) boots) (end_is ∙ ap (λ (q : State). (run q (Some (flip_at n r)) t.steps).state.end) boots) in
      let clean : ◌≡◌ {A = Seen End} (record { output = t.clean.output.items; end = t.clean.end }) (observed s None t.steps) = seen _ _ _ _ ready.clean.output ready.clean.end in
      tried (λ w. h (subst (λ a. Contains t.image.now.windows (a, r)) (sym address_is) w))
      (subst (λ (x : Seen End). ComesTo (observed s (Some (flip_at n r)) t.steps) x o) clean (subst (λ (x : Seen End). ComesTo x (record { output = t.clean.output.items; end = t.clean.end }) o) faulty comes))

-- ---- counts

more_below : (o : Outcome) (t : Tally) (k : ℕ) → AreBelow t k → AreBelow (counted o t) (k + 1)
more_below Same t k b = record { same = omega (arith, b.same); reported = omega (arith, b.reported); exception = omega (arith, b.exception); windowed = omega (arith, b.windowed); silent = omega (arith, b.silent) }
more_below Reported t k b = record { same = omega (arith, b.same); reported = omega (arith, b.reported); exception = omega (arith, b.exception); windowed = omega (arith, b.windowed); silent = omega (arith, b.silent) }
more_below Exception t k b = record { same = omega (arith, b.same); reported = omega (arith, b.reported); exception = omega (arith, b.exception); windowed = omega (arith, b.windowed); silent = omega (arith, b.silent) }
more_below Windowed t k b = record { same = omega (arith, b.same); reported = omega (arith, b.reported); exception = omega (arith, b.exception); windowed = omega (arith, b.windowed); silent = omega (arith, b.silent) }
more_below Silent t k b = record { same = omega (arith, b.same); reported = omega (arith, b.reported); exception = omega (arith, b.exception); windowed = omega (arith, b.windowed); silent = omega (arith, b.silent) }

record Bounded (from n r : ℕ) (t : Tally) : Type 0 where
  order : from ≤ n
  below : AreBelow t (31 * (n - from) + r + 1)

bounded : {i : ImageFields} {input : List ℕ} {steps from n r : ℕ} {t : Tally} → Counts i input steps from n r t → Bounded from n r t
bounded {from = from} none =
    let k : 1 ≡ 31 * (from - from) + 0 + 1 = omega arith in
    record { order = omega arith; below = subst (AreBelow no_flips) k (record { same = omega arith; reported = omega arith; exception = omega arith; windowed = omega arith; silent = omega arith }) }
bounded {from = from} (register {n = n} {r = r} {t = t} o less counts tries) =
    let b : Bounded from n r t = bounded counts in
    let k : 31 * (n - from) + r + 1 + 1 ≡ 31 * (n - from) + suc r + 1 = omega arith in
    record { order = b.order; below = subst (AreBelow (counted o t)) k (more_below o t (31 * (n - from) + r + 1) b.below) }
bounded {from = from} (next_step {n = n} {t = t} counts) =
    let b : Bounded from n 31 t = bounded counts in
    let k : 31 * (n - from) + 31 + 1 ≡ 31 * (suc n - from) + 0 + 1 = omega (arith, b.order) in
    record { order = omega (arith, b.order); below = subst (AreBelow t) k b.below }

-- so few flips that each count has room
pub has_room : {i : ImageFields} {input : List ℕ} {steps from n r : ℕ} {t : Tally} → Counts i input steps from n r t → n < 10000000 → r ≤ 31 → AreBelow t (2 ^ 32)
has_room {from = from} {n = n} {r = r} {t = t} counts few some =
    let b : AreBelow t (31 * (n - from) + r + 1) = (bounded counts).below in
    let k : 31 * (n - from) + r + 1 ≤ 2 ^ 32 = omega arith in
    record { same = omega (arith, b.same); reported = omega (arith, b.reported); exception = omega (arith, b.exception); windowed = omega (arith, b.windowed); silent = omega (arith, b.silent) }

-- one flip more, and one step more
pub one_more : (i : ImageFields) (input other : List ℕ) (steps from n r : ℕ) (t u : Tally) (o : Outcome) → r < 31 → Counts i input steps from n r t → other ≡ input → Tries i other steps n (r + 1) o → u ≡ counted o t → Counts i input steps from n (r + 1) u
one_more i input other steps from n r t u o less counts same tries is =
    let there : Tries i input steps n (suc r) o = subst (λ k. Tries i input steps n k o) (add-one r) (subst (λ f. Tries i f steps n (r + 1) o) same tries) in
    subst (Counts i input steps from n (r + 1)) (sym is) (subst (λ k. Counts i input steps from n k (counted o t)) (sym (add-one r)) (register o less counts there))

pub step_more : (i : ImageFields) (input other : List ℕ) (steps from n : ℕ) (t : Tally) → other ≡ input → Counts i other steps from n 31 t → Counts i input steps from (n + 1) 0 t
step_more i input other steps from n t same counts =
    subst (λ k. Counts i input steps from k 0 t) (sym (add-one n)) (next_step (subst (λ f. Counts i f steps from n 31 t) same counts))
