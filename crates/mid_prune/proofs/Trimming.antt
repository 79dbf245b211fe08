-- A program in blocks without globals that no step uses does the same.
use Rattle.std.proofs.Common.{◌≡◌, ℕ, zero, suc, ◌+◌, ◌<◌, ◌≤◌, Bool, true, false, List, [], ◌∷◌, map, sum, length, take, Option, Some, None, Result, Ok, Err, refl, sym, ap, ◌∙◌, subst, arith, if◌then◌else◌, ◌==◌}
use Rattle.std.specs.Prelude.{slice_get, slice_index_or, slice_set, nat_lt}
use Rattle.std.specs.List.{Any}
use Rattle.std.proofs.lemmas.Option.{get_or_from_slice_get}
use Rattle.mid_blocks.specs.declared.code.MidStep.{MidStep}
use Rattle.mid_blocks.specs.declared.code.MidStep.TheVariants.{Constant, Copy, Operate, Guard, Load, Store, Input, Output, Deep}
use Rattle.mid_blocks.specs.declared.code.MidEnd.{MidEnd}
use Rattle.mid_blocks.specs.declared.code.MidEnd.TheVariants.{Jump, Branch, Call, Return}
use Rattle.mid_blocks.specs.declared.code.MidBlock.{MidBlock}
use Rattle.mid_blocks.specs.declared.code.MidFunction.{MidFunction}
use Rattle.mid_blocks.specs.declared.code.Mid.{Mid}
use Rattle.mid_blocks.specs.declared.code.RunEnd.{RunEnd}
use Rattle.mid_blocks.specs.declared.code.RunEnd.TheVariants.{Trapped}
use Rattle.mid_blocks.specs.Lines.{Line, Step, End, line_of, line_in, line_at}
use Rattle.mid_blocks.specs.Run.{Active, BlockState, Variables, word_in, index_in, operate, global_in, passes, ends, sets_or_traps, takes_in, do_step, returns, do_end, do_line, line_in_function, next_line, unless_ended, block_step, after, first_state, seen}
use Rattle.mid_blocks.specs.Bounds.{pairs_now, IndexFits, ProperLine, Proper, Shallow}
use Rattle.mid_blocks.specs.Valid.{IsUsed, step_global}
use Rattle.mid_blocks.proofs.Positions.{get_within}
use Rattle.mid_prune.specs.Trimmed.{trimmed, Stays, TrimmedStays}

-- ---- lists

index_take : (xs : List (List ℕ)) (n g : ℕ) → g < n → slice_index_or (take n xs) g [] ≡ slice_index_or xs g []
index_take [] zero g h = absurd (omega (arith, h))
index_take [] (suc n) g h = refl
index_take (x ∷ xs) zero g h = absurd (omega (arith, h))
index_take (x ∷ xs) (suc n) zero h = refl
index_take (x ∷ xs) (suc n) (suc g) h = index_take xs n g (omega (arith, h))

set_take : (xs : List (List ℕ)) (n g : ℕ) (v : List ℕ) → take n (slice_set xs g v) ≡ slice_set (take n xs) g v
set_take [] zero g v = refl
set_take [] (suc n) g v = refl
set_take (x ∷ xs) zero zero v = refl
set_take (x ∷ xs) zero (suc g) v = refl
set_take (x ∷ xs) (suc n) zero v = refl
set_take (x ∷ xs) (suc n) (suc g) v = ap (λ l. x ∷ l) (set_take xs n g v)

-- ---- one step

abbrev trim : ℕ → BlockState → BlockState
trim n s = record s { globals = take n s.globals }

abbrev Below : ℕ → Option ℕ → Type 0
Below n o = (g : ℕ) → o ≡ Some g → g < n

step_same : (n : ℕ) (step : MidStep) (s : BlockState) → Below n (step_global step) → do_step step (trim n s) ≡ trim n (do_step step s)
step_same n (Constant to word) s b = refl
step_same n (Copy to from) s b = refl
step_same n (Operate op to left right) s b = by (operate op (word_in s.current.variables left) (word_in s.current.variables right))
  where
    by : (r : Result ℕ ℕ) → sets_or_traps (trim n s) to r ≡ trim n (sets_or_traps s to r)
    by (Ok w) = refl
    by (Err t) = refl
step_same n (Guard global index) s b =
    let e = index_take s.globals n global (b global refl) in
    ap (λ (l : List ℕ). (let x : BlockState = if nat_lt (word_in s.current.variables index) (length l) then passes (trim n s) else ends (trim n s) (Trapped 8) in x)) e
    ∙ by (nat_lt (word_in s.current.variables index) (length (global_in s.globals global)))
  where
    by : (c : Bool) → (let x : BlockState = if c then passes (trim n s) else ends (trim n s) (Trapped 8) in x) ≡ trim n (let x : BlockState = if c then passes s else ends s (Trapped 8) in x)
    by true = refl
    by false = refl
step_same n (Load to global index) s b =
    let e = index_take s.globals n global (b global refl) in
    ap (λ (l : List ℕ). sets_or_traps (trim n s) to (let r : Result ℕ ℕ = Ok (slice_index_or l (index_in s.current.variables index) 0) in r)) e
step_same n (Store global index from) s b =
    let e = index_take s.globals n global (b global refl) in
    let i : ℕ = index_in s.current.variables index in
    let w : ℕ = word_in s.current.variables from in
    let gs : slice_set (take n s.globals) global (slice_set (global_in (take n s.globals) global) i w) ≡ take n (slice_set s.globals global (slice_set (global_in s.globals global) i w)) =
    ap (λ (l : List ℕ). slice_set (take n s.globals) global (slice_set l i w)) e ∙ sym (set_take s.globals n global (slice_set (global_in s.globals global) i w)) in
    ap (λ (x : List (List ℕ)). (let y : BlockState = record (passes s) { globals = x } in y)) gs
step_same n (Input to) s b = by s.feed
  where
    by : (l : List ℕ) → takes_in (trim n s) to l ≡ trim n (takes_in s to l)
    by [] = refl
    by (w ∷ rest) = refl
step_same n (Output from) s b = refl
step_same n (Deep test) s b = by (word_in s.current.variables test == 0)
  where
    by : (c : Bool) → (let x : BlockState = if c then ends (trim n s) (Trapped 9) else passes (trim n s) in x) ≡ trim n (let x : BlockState = if c then ends s (Trapped 9) else passes s in x)
    by true = refl
    by false = refl

end_same : (n : ℕ) (end : MidEnd) (s : BlockState) → do_end end (trim n s) ≡ trim n (do_end end s)
end_same n (Jump to) s = refl
end_same n (Branch test when to) s = refl
end_same n (Call function args result) s = refl
end_same n (Return from) s = by s.callers
  where
    by : (l : List Active) → returns (trim n s) l (index_in s.current.variables from) ≡ trim n (returns s l (index_in s.current.variables from))
    by [] = refl
    by (c ∷ cs) = refl

abbrev LineBelow : ℕ → Option Line → Type 0
LineBelow n o = (step : MidStep) → o ≡ Some (Step step) → Below n (step_global step)

line_same : (n : ℕ) (o : Option Line) (s : BlockState) → LineBelow n o → do_line o (trim n s) ≡ trim n (do_line o s)
line_same n None s b = refl
line_same n (Some (Step step)) s b = step_same n step s (b step refl)
line_same n (Some (End end)) s b = end_same n end s

module _ (mid : Mid) (n : ℕ) (used : (global : ℕ) → IsUsed mid global → global < n) where
  at_any : {X : Type 0} (P : X → Type 0) (xs : List X) (k : ℕ) (x : X) → slice_get xs k ≡ Some x → P x → Any P xs
  at_any P xs k x is p = (k, x, get_within xs k x is, get_or_from_slice_get xs k x x is, p)

  line_below : (s : BlockState) → LineBelow n (next_line mid s)
  line_below s step h g is = in_program (slice_get mid.functions s.current.function) refl h
    where
      in_block : (f : MidFunction) (b : MidBlock) (o : Option MidStep) → slice_get mid.functions s.current.function ≡ Some f → slice_get f.blocks s.current.block ≡ Some b → slice_get b.steps s.current.step ≡ o → Some (line_of o b.end) ≡ Some (Step step) → g < n
      in_block f b None af ab as' e = absurd (cc)
      in_block f b (Some t) af ab as' e =
          let same : t ≡ step = cc in
          used g (at_any (λ (x : MidFunction). Any (λ y. Any (λ z. step_global z ≡ Some g) y.steps) x.blocks) mid.functions s.current.function f af
          (at_any (λ (y : MidBlock). Any (λ z. step_global z ≡ Some g) y.steps) f.blocks s.current.block b ab
          (at_any (λ z. step_global z ≡ Some g) b.steps s.current.step t as' (ap step_global same ∙ is))))

      in_code : (f : MidFunction) (o : Option MidBlock) → slice_get mid.functions s.current.function ≡ Some f → slice_get f.blocks s.current.block ≡ o → line_in o s.current.step ≡ Some (Step step) → g < n
      in_code f None af ab e = absurd (cc)
      in_code f (Some b) af ab e = in_block f b (slice_get b.steps s.current.step) af ab refl e

      in_program : (o : Option MidFunction) → slice_get mid.functions s.current.function ≡ o → line_in_function o s.current ≡ Some (Step step) → g < n
      in_program None af e = absurd (cc)
      in_program (Some f) af e = in_code f (slice_get f.blocks s.current.block) af refl e

  stepped : (s : BlockState) → block_step (trimmed n mid) (trim n s) ≡ trim n (block_step mid s)
  stepped s = by s.end
    where
      by : (o : Option RunEnd) → unless_ended o (trim n s) (do_line (next_line mid s) (trim n s)) ≡ trim n (unless_ended o s (do_line (next_line mid s) s))
      by None = line_same n (next_line mid s) s (line_below s)
      by (Some e) = refl

  afters : (k : ℕ) (s : BlockState) → after (trimmed n mid) k (trim n s) ≡ trim n (after mid k s)
  afters zero s = refl
  afters (suc k) s = ap (after (trimmed n mid) k) (stepped s) ∙ afters k (block_step mid s)

  proper_same : (s : BlockState) (line : Line) → next_line mid s ≡ Some line → ProperLine line s.current.variables s.globals → ProperLine line s.current.variables (take n s.globals)
  proper_same s line h p = record { reads_written = p.reads_written; index_fits = by line h p.index_fits }
    where
      by : (l : Line) → next_line mid s ≡ Some l → IndexFits l s.current.variables s.globals → IndexFits l s.current.variables (take n s.globals)
      by (Step (Constant to word)) e f = tt
      by (Step (Copy to from)) e f = tt
      by (Step (Operate op to left right)) e f = tt
      by (Step (Guard global index)) e f = tt
      by (Step (Load to global index)) e f = subst (λ (l : List ℕ). index_in s.current.variables index < length l) (sym (index_take s.globals n global (line_below s (Load to global index) e global refl))) f
      by (Step (Store global index from)) e f = subst (λ (l : List ℕ). index_in s.current.variables index < length l) (sym (index_take s.globals n global (line_below s (Store global index from) e global refl))) f
      by (Step (Input to)) e f = tt
      by (Step (Output from)) e f = tt
      by (Step (Deep test)) e f = tt
      by (End end) e f = tt

pub stays : TrimmedStays
stays mid n used = record {
  runs = λ input k. ap seen (afters mid n used k (first_state mid input));
  proper = λ p input k line words running next.
      let s : BlockState = after mid k (first_state mid input) in
      let e = afters mid n used k (first_state mid input) in
      let running' : s.end ≡ None = sym (ap (λ (x : BlockState). x.end) e) ∙ running in
      let next' : next_line mid s ≡ Some line = sym (ap (next_line (trimmed n mid)) e) ∙ next in
      subst (λ (x : BlockState). ProperLine line x.current.variables x.globals) (sym e) (proper_same mid n used s line next' (p input k line words running' next'));
  shallow = λ p input k words.
      let e = afters mid n used k (first_state mid input) in
      subst (λ (x : BlockState). pairs_now (trimmed n mid) x ≤ mid.chain_pairs) (sym e) (p input k words);
}
