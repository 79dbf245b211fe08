-- How deep calls go: along each chain of calls, with at most 257 of recursive functions, the pairs add up to what its first function allows.
use Rattle.std.proofs.Common.{◌≡◌, ◌⊎◌, inl, inr, ⊎_elim, ℕ, zero, suc, ◌+◌, ◌≤◌, Bool, true, false, List, [], ◌∷◌, ◌++◌, map, sum, length, Option, Some, None, Result, Ok, Err, refl, sym, ap, ◌∙◌, subst, if◌then◌else◌, ◌==◌, arith}
use Rattle.std.specs.Prelude.{slice_get, nat_lt}
use Rattle.std.proofs.lemmas.List.Sums.{sum_by-cons}
use Rattle.c_syntax.specs.declared.tree.Program.{Program}
use Rattle.c_meaning.specs.Meaning.{Names}
use Rattle.c_meaning.specs.Run.{State}
use Rattle.mid_blocks.specs.declared.code.MidStep.{MidStep}
use Rattle.mid_blocks.specs.declared.code.MidStep.TheVariants.{Constant, Copy, Operate, Guard, Load, Store, Input, Output, Deep}
use Rattle.mid_blocks.specs.declared.code.MidEnd.TheVariants.{Jump, Branch, Call, Return}
use Rattle.mid_blocks.specs.declared.code.Mid.{Mid}
use Rattle.mid_blocks.specs.declared.code.RunEnd.{RunEnd}
use Rattle.mid_blocks.specs.declared.code.RunEnd.TheVariants.{Trapped}
use Rattle.mid_blocks.specs.Lines.{Line, Step, End, line_at}
use Rattle.mid_blocks.specs.Run.{Active, BlockState, Variables, word_in, index_in, operate, global_in, passes, ends, sets_or_traps, takes_in, do_step, returns, do_line, next_line, unless_ended, block_step, after, first_state, block_state}
use Rattle.mid_blocks.specs.Bounds.{ProperLine, pairs_of, pairs_now}
use Rattle.lower_law.proofs.Lines.{Spot}
use Rattle.lower_law.proofs.Machine.{Frame, Setting, machine, globals_words}
use Rattle.lower_law.proofs.Globals.{AreSmall}
use Rattle.lower_law.proofs.Calls.{Plan, frame_of}
use Rattle.lower_law.proofs.Steps.{after_add}
use Rattle.lower_law.proofs.Whole.{Start}
use Rattle.lower_law.proofs.ProperRuns.{IsProper, all_good, proper_good}
use Rattle.lower_rules.specs.Chains.{deeper, Chain}

-- the pairs of calls
abbrev pub calls_pairs : Mid → List Active → ℕ
calls_pairs mid calls = sum (map (λ (c : Active). pairs_of (slice_get mid.functions c.function)) calls)

-- proper, and not too deep
abbrev pub IsFine : Mid → BlockState → Type 0
IsFine mid b = IsProper mid b × (pairs_now mid b ≤ mid.chain_pairs)

-- a frame whose callers leave room for all that its function may call; of recursive functions so many calls are active with it
pub record RoomFor (mid : Mid) (chain : ℕ → ℕ → ℕ) (depth : ℕ) (fr : Frame) : Type 0 where
  pub placed : slice_get mid.functions fr.function ≡ Some fr.code
  pub room : calls_pairs mid fr.callers + chain depth fr.function ≤ mid.chain_pairs

-- such a frame is good, and so is the frame of a function that it calls
pub room_good : (mid : Mid) (extra : ℕ → List (List ℕ)) (counts : ℕ → Bool) (chain : ℕ → ℕ → ℕ) → Chain mid counts chain → (depth : ℕ) (fr : Frame) → RoomFor mid chain depth fr → (at : Spot) (vars : Variables) (s : State) (line : Line) → line_at fr.code at.block at.step ≡ Some line → ProperLine line vars (globals_words s.globals ++ extra s.active) → IsFine mid (machine (record { mid = mid; Good = IsFine mid; extra = extra }) fr at vars s)
room_good mid extra counts chain c depth fr r at vars s line is proper =
    let all = sum_by-cons (λ n. n) (pairs_of (slice_get mid.functions fr.function)) (map (λ (x : Active). pairs_of (slice_get mid.functions x.function)) fr.callers) in
    (proper_good mid extra fr r.placed at vars s line is proper, omega (arith, all, c.own depth fr.function, r.room))

pub room_enters : (mid : Mid) (counts : ℕ → Bool) (chain : ℕ → ℕ → ℕ) → Chain mid counts chain → (depth : ℕ) (fr : Frame) (number : ℕ) (code : _) (at : Spot) (vars : Variables) (result : Option ℕ) (args : List ℕ) → depth ≤ 256 → RoomFor mid chain depth fr → slice_get mid.functions number ≡ Some code → line_at fr.code at.block at.step ≡ Some (End (Call number args result)) → RoomFor mid chain (deeper (counts number) depth) (frame_of number code result fr at vars)
room_enters mid counts chain c depth fr number code at vars result args few r placed is =
    let all = sum_by-cons (λ n. n) (pairs_of (slice_get mid.functions fr.function)) (map (λ (x : Active). pairs_of (slice_get mid.functions x.function)) fr.callers) in
    let one = c.calls depth fr.function fr.code at.block at.step number args result few r.placed is in
    record { placed = placed; room = omega (arith, all, one, r.room) }

-- ---- the states that have ended

-- a step goes on, or leaves the calls as they are
abbrev OnOrSame : Mid → BlockState → BlockState → Type 0
OnOrSame mid s s' = (s'.end ≡ s.end) ⊎ (pairs_now mid s' ≡ pairs_now mid s)

step_keeps : (mid : Mid) (step : MidStep) (s : BlockState) → pairs_now mid (do_step step s) ≡ pairs_now mid s
step_keeps mid (Constant to word) s = refl
step_keeps mid (Copy to from) s = refl
step_keeps mid (Operate op to left right) s = by (operate op (word_in s.current.variables left) (word_in s.current.variables right))
  where
    by : (x : Result ℕ ℕ) → pairs_now mid (sets_or_traps s to x) ≡ pairs_now mid s
    by (Ok w) = refl
    by (Err trap) = refl
step_keeps mid (Guard global index) s = by (nat_lt (word_in s.current.variables index) (length (global_in s.globals global)))
  where
    by : (b : Bool) → pairs_now mid (if b then passes s else ends s (Trapped 8)) ≡ pairs_now mid s
    by true = refl
    by false = refl
step_keeps mid (Load to global index) s = refl
step_keeps mid (Store global index from) s = refl
step_keeps mid (Input to) s = by s.feed
  where
    by : (l : List ℕ) → pairs_now mid (takes_in s to l) ≡ pairs_now mid s
    by [] = refl
    by (w ∷ rest) = refl
step_keeps mid (Output from) s = refl
step_keeps mid (Deep test) s = by (word_in s.current.variables test == 0)
  where
    by : (b : Bool) → pairs_now mid (if b then ends s (Trapped 9) else passes s) ≡ pairs_now mid s
    by true = refl
    by false = refl

line_keeps : (mid : Mid) (line : Option Line) (s : BlockState) → OnOrSame mid s (do_line line s)
line_keeps mid None s = inr refl
line_keeps mid (Some (Step step)) s = inr (step_keeps mid step s)
line_keeps mid (Some (End (Jump to))) s = inr refl
line_keeps mid (Some (End (Branch test when to))) s = inr refl
line_keeps mid (Some (End (Call function args result))) s = inl refl
line_keeps mid (Some (End (Return from))) s = by s.callers
  where
    by : (l : List Active) → OnOrSame mid s (returns s l (index_in s.current.variables from))
    by [] = inr refl
    by (c ∷ cs) = inl refl

-- every state of a run is within the chain
pub all_shallow : (k : Setting) (program : Program) (names : Names) (p : Plan k program.items names) → Start k program.items names p → (input : List ℕ) → AreSmall input → ((b : BlockState) → k.Good b → pairs_now k.mid b ≤ k.mid.chain_pairs) → (n : ℕ) → pairs_now k.mid (block_state k.mid input n) ≤ k.mid.chain_pairs
all_shallow k program names p begin input small fine zero = fine (block_state k.mid input zero) (all_good k program names p begin input small zero refl)
all_shallow k program names p begin input small fine (suc n) =
    let s = first_state k.mid input in
    let e : n + 1 ≡ suc n = omega arith in
    let next : after k.mid (suc n) s ≡ block_step k.mid (after k.mid n s) = ap (λ i. after k.mid i s) (sym e) ∙ after_add k.mid n 1 s in
    subst (λ b. pairs_now k.mid b ≤ k.mid.chain_pairs) (sym next) (by (after k.mid n s).end refl next (all_shallow k program names p begin input small fine n))
  where
    by : (o : Option RunEnd) → (after k.mid n (first_state k.mid input)).end ≡ o → after k.mid (suc n) (first_state k.mid input) ≡ block_step k.mid (after k.mid n (first_state k.mid input)) → pairs_now k.mid (after k.mid n (first_state k.mid input)) ≤ k.mid.chain_pairs → pairs_now k.mid (block_step k.mid (after k.mid n (first_state k.mid input))) ≤ k.mid.chain_pairs
    by (Some e) is next below =
        let b = after k.mid n (first_state k.mid input) in
        subst (λ (x : BlockState). pairs_now k.mid x ≤ k.mid.chain_pairs) (sym (ap (λ o. unless_ended o b (do_line (next_line k.mid b) b)) is)) below
    by None is next below =
        let b = after k.mid n (first_state k.mid input) in
        let does : block_step k.mid b ≡ do_line (next_line k.mid b) b = ap (λ o. unless_ended o b (do_line (next_line k.mid b) b)) is in
        ⊎_elim
        (λ on. let running : (after k.mid (suc n) (first_state k.mid input)).end ≡ None = ap (λ x. x.end) (next ∙ does) ∙ on ∙ is in
        subst (λ (x : BlockState). pairs_now k.mid x ≤ k.mid.chain_pairs) next (fine (block_state k.mid input (suc n)) (all_good k program names p begin input small (suc n) running)))
        (λ same. subst (λ (x : BlockState). pairs_now k.mid x ≤ k.mid.chain_pairs) (sym does) (subst (λ m. m ≤ k.mid.chain_pairs) (sym same) below))
        (line_keeps k.mid (next_line k.mid b) b)
