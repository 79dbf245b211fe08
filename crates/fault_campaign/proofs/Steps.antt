-- The steps of a run, and what each keeps.
use Rattle.std.proofs.Common.{◌≡◌, ◌≤◌, ◌<◌, ℕ, zero, suc, ◌+◌, ◌-◌, arith, ap, refl, sym, subst, ◌∙◌, inl, inr, Bool, true, false, cond, List, [], ◌∷◌, ◌++◌, append_assoc, append-nil, add-zero, add-suc, add-one, if◌then◌else◌, not, Option, Some, None}
use Rattle.std.proofs.lemmas.Bool.{cases_lt}
use Rattle.std.proofs.lemmas.List.{length-append}
use Rattle.std.specs.Prelude.{◌==◌, ◌&&◌, is_some, is_none, nat_le, nat_lt, length, slice_index, slice_set, ◌%◌}
use Rattle.mips_isa.specs.declared.instr.Act.{Act}
use Rattle.mips_isa.specs.declared.instr.Act.TheVariants.{Write, Move, Both, Load, Store, Go, Link, Pass, Service, Stop}
use Rattle.mips_isa.specs.declared.instr.End.{End}
use Rattle.mips_isa.specs.declared.instr.End.TheVariants.{Exception, Exited, Starved}
use Rattle.mips_isa.specs.Machine.{State, step, step_from, planned, perform, load, store, service, in_memory, place, reg, moved, with_reg, ended}
use Rattle.hard_words.specs.declared.ChangeKind.TheVariants.{Flip}
use Rattle.mips_laws.specs.RunLaws.{EndStays, ReplaceSplits, RunJoins, joined}
use Rattle.mips_isa.specs.Runs.{Ran, run, after_turn, put_out, replaced}
use Rattle.fault_campaign.specs.Campaign.{flip_at}
use Rattle.fault_campaign.specs.Runs.{AreAddresses, KeepsText}

-- ---- text and input stay

pub same_text : (s : State) → KeepsText s s
same_text s = record { text = refl; feed = refl }

pub keeps_on : (r s t : State) → KeepsText r s → KeepsText s t → KeepsText r t
keeps_on r s t p q = record { text = q.text ∙ p.text; feed = q.feed ∙ p.feed }

either : (s : State) (b : Bool) (x y : State × Option ℕ) → KeepsText s x.0 → KeepsText s y.0 → KeepsText s (if b then x else y).0
either s true x y p q = p
either s false x y p q = q

load_keeps : (s : State) (r a : ℕ) → KeepsText s (load s r a).0
load_keeps s r a = either s (not (a % 4 == 0)) _ _ (record { text = refl; feed = refl })
    (either s (not (in_memory s a)) _ _ (record { text = refl; feed = refl }) (record { text = refl; feed = refl }))

store_keeps : (s : State) (a v : ℕ) → KeepsText s (store s a v).0
store_keeps s a v = either s (not (a % 4 == 0)) _ _ (record { text = refl; feed = refl })
    (either s (not (in_memory s a)) _ _ (record { text = refl; feed = refl }) (record { text = refl; feed = refl }))

service_keeps : (s : State) → KeepsText s (service s).0
service_keeps s = either s (reg s 2 == 1) _ _ (record { text = refl; feed = refl })
    (either s (reg s 2 == 5) _ _ (either s (nat_lt s.fed (length s.feed)) _ _ (record { text = refl; feed = refl }) (record { text = refl; feed = refl }))
    (either s (reg s 2 == 17) _ _ (record { text = refl; feed = refl }) (record { text = refl; feed = refl })))

perform_keeps : (a : Act) (s : State) → KeepsText s (perform a s).0
perform_keeps (Write r v) s = record { text = refl; feed = refl }
perform_keeps (Move r v) s = record { text = refl; feed = refl }
perform_keeps (Both hi lo) s = record { text = refl; feed = refl }
perform_keeps (Load r a) s = load_keeps s r a
perform_keeps (Store a v) s = store_keeps s a v
perform_keeps (Go to) s = record { text = refl; feed = refl }
perform_keeps (Link to) s = record { text = refl; feed = refl }
perform_keeps Pass s = record { text = refl; feed = refl }
perform_keeps Service s = service_keeps s
perform_keeps (Stop e) s = record { text = refl; feed = refl }

from_keeps : (s : State) (o : Option End) → KeepsText s (step_from s o).0
from_keeps s None = perform_keeps (planned s) s
from_keeps s (Some e) = same_text s

pub step_keeps : (s : State) → KeepsText s (step s).0
step_keeps s = from_keeps s s.end

pub run_keeps : (s : State) (n : ℕ) → KeepsText s (run s None n).state
run_keeps s zero = same_text s
run_keeps s (suc n) = keeps_on s (run s None n).state (step (run s None n).state).0 (run_keeps s n) (step_keeps (run s None n).state)

-- ---- one step more, and the end

some_end : (o : Option End) → is_some o ≡ true → (e : End) × (o ≡ Some e)
some_end None q = cc
some_end (Some e) q = (e, refl)

-- a run that has ended is the whole run
pub ended_early : EndStays → (s m : State) (n steps : ℕ) (b : Bool) → n ≤ steps → m ≡ (run s None n).state → b ≡ is_some m.end → b ≡ true → run s None steps ≡ run s None n
ended_early stays s m n steps b le at is holds =
    let found : (e : End) × (m.end ≡ Some e) = some_end m.end (sym is ∙ holds) in
    let stands : (run s None n).state.end ≡ Some found.0 = ap (λ (q : State). q.end) (sym at) ∙ found.1 in
    let all : n + (steps - n) ≡ steps = omega arith in
    ap (λ (k : ℕ). run s None k) (sym all) ∙ stays s None found.0 n (steps - n) stands

more : (s m : State) (n : ℕ) → m ≡ (run s None n).state → run s None (n + 1) ≡ after_turn (run s None n) (step m)
more s m n at = ap (λ (k : ℕ). run s None k) (add-one n) ∙ ap (λ (q : State). after_turn (run s None n) (step q)) (sym at)

pub more_state : (s m : State) (n : ℕ) → m ≡ (run s None n).state → (step m).0 ≡ (run s None (n + 1)).state
more_state s m n at = sym (ap (λ (r : Ran). r.state) (more s m n at))

put_behind : (front out : List ℕ) (o : Option ℕ) → put_out (front ++ out) o ≡ front ++ put_out out o
put_behind front out None = refl
put_behind front out (Some w) = append_assoc front out (w ∷ [])

pub more_output : (s m : State) (n : ℕ) (front out : List ℕ) → m ≡ (run s None n).state → out ≡ front ++ (run s None n).output → put_out out (step m).1 ≡ front ++ (run s None (n + 1)).output
more_output s m n front out at is = ap (λ l. put_out l (step m).1) is ∙ put_behind front (run s None n).output (step m).1 ∙ ap (λ l. front ++ l) (sym (ap (λ (r : Ran). r.output) (more s m n at)))

-- ---- addresses

pub noted : (P : ℕ → ℕ) (xs : List ℕ) (n y : ℕ) → length xs ≡ n → ((j : ℕ) → j < n → slice_index xs j ≡ P j) → y ≡ P n → (j : ℕ) → j < n + 1 → slice_index (xs ++ y ∷ []) j ≡ P j
noted P xs n y len all last j l = elim (cases_lt j n) [
  | inl below ↦ push_below xs y j (omega (arith, len)) ∙ all j below
  | inr past ↦ (let at : j ≡ n = omega arith in push_last xs y j (len ∙ sym at) ∙ last ∙ ap P (sym at))
]
  where
    push_below : (xs : List ℕ) (y j : ℕ) → j < length xs → slice_index (xs ++ y ∷ []) j ≡ slice_index xs j
    push_below [] y j l = absurd (omega arith)
    push_below (x ∷ xs) y zero l = refl
    push_below (x ∷ xs) y (suc j) l = push_below xs y j (omega arith)

    push_last : (xs : List ℕ) (y j : ℕ) → length xs ≡ j → slice_index (xs ++ y ∷ []) j ≡ y
    push_last [] y zero e = refl
    push_last [] y (suc j) e = absurd (omega arith)
    push_last (x ∷ xs) y zero e = absurd (omega arith)
    push_last (x ∷ xs) y (suc j) e = push_last xs y j (omega arith)

-- ---- runs that go on

pub goes : RunJoins → (s a : State) (n k : ℕ) → a ≡ (run s None n).state → run s None (n + k) ≡ joined (run s None n) (run a None k)
goes joins s a n k at = joins s n k ∙ ap (λ (q : State). joined (run s None n) (run q None k)) (sym at)

pub record Reached (s b : State) (m : ℕ) (p : List ℕ) : Type 0 where
  pub state : b ≡ (run s None m).state
  pub output : p ≡ (run s None m).output

pub run_more : RunJoins → (s a b : State) (n k m : ℕ) (o p : List ℕ) → n + k ≡ m → Reached s a n o → b ≡ (run a None k).state → p ≡ o ++ (run a None k).output → Reached s b m p
run_more joins s a b n k m o p sum at is puts =
    let whole : run s None m ≡ joined (run s None n) (run a None k) = ap (λ j. run s None j) (sym sum) ∙ goes joins s a n k at.state in
    record {
      state = is ∙ sym (ap (λ (r : Ran). r.state) whole);
      output = puts ∙ ap (λ l. l ++ (run a None k).output) at.output ∙ sym (ap (λ (r : Ran). r.output) whole);
    }

pub address_later : RunJoins → (s a : State) (n k : ℕ) → a ≡ (run s None n).state → (run a None k).state.pc ≡ (run s None (n + k)).state.pc
address_later joins s a n k at = sym (ap (λ (r : Ran). r.state.pc) (goes joins s a n k at))

-- ---- runs with a flip

replaced_keeps : (r bit : ℕ) (s : State) → KeepsText s (replaced (Flip r bit) s)
replaced_keeps r bit s = which s (is_none s.end) _ _ (record { text = refl; feed = refl }) (same_text s)
  where
    which : (s : State) (b : Bool) (x y : State) → KeepsText s x → KeepsText s y → KeepsText s (if b then x else y)
    which s true x y p q = p
    which s false x y p q = q

module _ (splits : ReplaceSplits) (s a b c : State) (n r bit steps : ℕ) (less : n < steps) (bit_is : bit ≡ (n + r) % 32)
    (first : a ≡ (run s None n).state) (flip : b ≡ replaced (Flip r bit) a) (last : c ≡ (run b None (steps - n)).state) where
  flip_whole : run s (Some (flip_at n r)) steps ≡ joined (run s None n) (run b None (steps - n))
  flip_whole =
      let k : ℕ = steps - n - 1 in
      let all : steps ≡ n + suc k = omega arith in
      let rest : suc k ≡ steps - n = omega arith in
      let state : replaced (Flip r ((n + r) % 32)) (run s None n).state ≡ b = ap (λ (q : State). replaced (Flip r ((n + r) % 32)) q) (sym first) ∙ ap (λ t. replaced (Flip r t) a) (sym bit_is) ∙ sym flip in
      ap (λ m. run s (Some (flip_at n r)) m) all ∙ splits s n (Flip r ((n + r) % 32)) k tt
      ∙ ap (λ (q : State). joined (run s None n) (run q None (suc k))) state ∙ ap (λ m. joined (run s None n) (run b None m)) rest

  pub flip_output : (o p q : List ℕ) → o ≡ [] → p ≡ o ++ (run s None n).output → q ≡ p ++ (run b None (steps - n)).output → q ≡ (run s (Some (flip_at n r)) steps).output
  flip_output o p q none front behind =
      behind ∙ ap (λ l. l ++ (run b None (steps - n)).output) (front ∙ ap (λ l. l ++ (run s None n).output) none) ∙ sym (ap (λ (t : Ran). t.output) flip_whole)

  pub flip_end : c.end ≡ (run s (Some (flip_at n r)) steps).state.end
  flip_end = ap (λ (t : State). t.end) last ∙ sym (ap (λ (t : Ran). t.state.end) flip_whole)

  pub flip_text : KeepsText s c
  flip_text =
      let one : KeepsText s a = subst (KeepsText s) (sym first) (run_keeps s n) in
      let two : KeepsText a b = subst (KeepsText a) (sym flip) (replaced_keeps r bit a) in
      let three : KeepsText b c = subst (KeepsText b) (sym last) (run_keeps b (steps - n)) in
      keeps_on s b c (keeps_on s a b one two) three

-- one address more
pub noted_more : (s m : State) (n : ℕ) (xs ys : List ℕ) → AreAddresses s n xs → m ≡ (run s None n).state → ys ≡ xs ++ m.pc ∷ [] → AreAddresses s (n + 1) ys
noted_more s m n xs ys old at is = subst (AreAddresses s (n + 1)) (sym is) (record {
  each = omega (arith, length-append xs (m.pc ∷ []), old.each);
  are = noted (λ k. (run s None k).state.pc) xs n m.pc old.each old.are (ap (λ (q : State). q.pc) at);
})

-- three runs one after the other keep the text
pub keeps_thrice : (s a b c : State) (n k m : ℕ) → a ≡ (run s None n).state → b ≡ (run a None k).state → c ≡ (run b None m).state → KeepsText s c
keeps_thrice s a b c n k m p q r =
    keeps_on s b c (keeps_on s a b (subst (KeepsText s) (sym p) (run_keeps s n)) (subst (KeepsText a) (sym q) (run_keeps a k))) (subst (KeepsText b) (sym r) (run_keeps b m))
