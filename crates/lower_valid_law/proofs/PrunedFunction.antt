-- A function of a program of which only what is reached is left is valid, where its lines are clean and its jumps well aimed.
use Rattle.std.proofs.Common.{◌≡◌, ◌⊎◌, inl, inr, ℕ, suc, ◌+◌, ◌<◌, ◌≤◌, max, Bool, true, List, [], ◌∷◌, ◌++◌, map, length, Option, Some, None, refl, sym, ap, ◌∙◌, subst, arith, option_map, cond}
use Rattle.std.specs.Prelude.{slice_get, count_by, nat_lt}
use Rattle.std.specs.List.{Any, list_all}
use Rattle.std.proofs.lemmas.Bool.{false≢true, lt-ltb, and_from}
use Rattle.std.proofs.lemmas.Option.{slice_get-map, slice_get-get_or, get_or_from_slice_get}
use Rattle.std.proofs.lemmas.List.{length-map}
use Rattle.std.proofs.lemmas.List.Sums.{sum_by-cons}
use Rattle.c_syntax.specs.Sizes.{greatest}
use Rattle.mid_blocks.specs.declared.code.MidStep.{MidStep}
use Rattle.mid_blocks.specs.declared.code.MidEnd.{MidEnd}
use Rattle.mid_blocks.specs.declared.code.MidEnd.TheVariants.{Jump, Branch, Call, Return}
use Rattle.mid_blocks.specs.declared.code.MidBlock.{MidBlock}
use Rattle.mid_blocks.specs.declared.code.MidFunction.{MidFunction}
use Rattle.mid_blocks.specs.declared.code.Mid.{Mid}
use Rattle.mid_blocks.specs.Lines.{Line, Step, End, block_lines, lines}
use Rattle.mid_blocks.specs.Valid.{ValidFunction, line_variables, target, falls_on, is_call, is_return, EndsBy, IsTarget, IsBehind}
use Rattle.mid_blocks.specs.Tested.{line_fits}
use Rattle.mid_blocks.proofs.Positions.{get_within, got}
use Rattle.mid_blocks.proofs.Deciding.{variables_decide}
use Rattle.mid_blocks.specs.Renumbered.{Numbers, renumbered_end}
use Rattle.mid_blocks.specs.Pruned.{is_marked, marked_before, marked, marks_of, is_marked_block, numbers_of, renumbered_block, pruned_function, leads_to_marked, Closed, ReachedIn, begin, jumped, fallen, called, OnlyReached}
use Rattle.lower_law.proofs.Expressions.{both}
use Rattle.lower_law.proofs.Pruning.{marked_at, marked_next}
use Rattle.lower_valid_law.proofs.Clean.{line_top, top, line_odd, odds}
use Rattle.lower_valid_law.proofs.Blocks.{odds-append, blocks_odd}
use Rattle.lower_valid_law.proofs.Kept.{source, before_below, before_apart, before_first, total, total_kept}

-- an item that is asked of a list stands in it
pub any_at : {X : Type 0} (P : X → Type 0) (xs : List X) → Any P xs → (k : ℕ) × (x : X) × (slice_get xs k ≡ Some x) × P x
any_at P xs (k, x, l, e, p) = (k, x, slice_get-get_or xs k x l ∙ ap Some e, p)

pub at_any : {X : Type 0} (P : X → Type 0) (xs : List X) (k : ℕ) (x : X) → slice_get xs k ≡ Some x → P x → Any P xs
at_any P xs k x is p = (k, x, get_within xs k x is, get_or_from_slice_get xs k x x is, p)

-- ---- lines below a bound

vars_fit : (n : ℕ) (vs : List ℕ) → greatest (map suc vs) ≤ n → list_all (λ v. nat_lt v n) vs ≡ true
vars_fit n [] h = refl
vars_fit n (v ∷ vs) h = and_from (nat_lt v n) (list_all (λ x. nat_lt x n) vs) (lt-ltb v n (omega (arith, h))) (vars_fit n vs (omega (arith, h)))

lines_fit : (n : ℕ) (ls : List Line) → top ls ≤ n → list_all (λ line. line_fits n line) ls ≡ true
lines_fit n [] h = refl
lines_fit n (x ∷ ls) h = and_from (line_fits n x) (list_all (λ line. line_fits n line) ls) (vars_fit n (line_variables x) (omega (arith, h))) (lines_fit n ls (omega (arith, h)))

same_variables : (new : Numbers) (f : ℕ) (e : MidEnd) → line_variables (End (renumbered_end new f e)) ≡ line_variables (End e)
same_variables new f (Jump to) = refl
same_variables new f (Branch t w to) = refl
same_variables new f (Call g args r) = refl
same_variables new f (Return r) = refl

same_top : (new : Numbers) (f : ℕ) (e : MidEnd) (steps : List MidStep) → top (map Step steps ++ End (renumbered_end new f e) ∷ []) ≡ top (map Step steps ++ End e ∷ [])
same_top new f e [] = ap (λ (vs : List ℕ). max (greatest (map suc vs)) 0) (same_variables new f e)
same_top new f e (s ∷ steps) = ap (λ n. max (line_top (Step s)) n) (same_top new f e steps)

each_fits : (n : ℕ) (blocks : List MidBlock) → ((k : ℕ) (b : MidBlock) → slice_get blocks k ≡ Some b → top (block_lines b) ≤ n) → list_all (λ b. list_all (λ line. line_fits n line) (block_lines b)) blocks ≡ true
each_fits n [] h = refl
each_fits n (b ∷ bs) h = and_from (list_all (λ line. line_fits n line) (block_lines b)) _ (lines_fit n (block_lines b) (h 0 b refl)) (each_fits n bs (λ k c e. h (suc k) c e))

-- ---- returns are odd

odd_total : (globals : ℕ) (fits : ℕ → ℕ → Bool) (bs : List MidBlock) → blocks_odd globals fits bs ≡ total (λ b. odds globals fits (block_lines b)) bs
odd_total globals fits [] = refl
odd_total globals fits (b ∷ bs) = omega (arith, odd_total globals fits bs)

return_odd : (globals : ℕ) (fits : ℕ → ℕ → Bool) (new : Numbers) (f : ℕ) (e : MidEnd) → cond (is_return (renumbered_end new f e)) 1 0 ≤ line_odd globals fits (End e)
return_odd globals fits new f (Jump to) = omega arith
return_odd globals fits new f (Branch t w to) = omega arith
return_odd globals fits new f (Call g args r) = omega arith
return_odd globals fits new f (Return r) = omega arith

few_returns : (new : Numbers) (f globals : ℕ) (fits : ℕ → ℕ → Bool) (bs : List MidBlock) → count_by (λ b. is_return b.end) (map (renumbered_block new f) bs) ≤ blocks_odd globals fits bs
few_returns new f globals fits [] = omega arith
few_returns new f globals fits (b ∷ bs) =
    let one : cond (is_return (renumbered_end new f b.end)) 1 0 ≤ line_odd globals fits (End b.end) = return_odd globals fits new f b.end in
    let all = sum_by-cons (λ (x : MidBlock). cond (is_return x.end) 1 0) (renumbered_block new f b) (map (renumbered_block new f) bs) in
    omega (arith, all, one, odds-append globals fits (map Step b.steps) (End b.end ∷ []), few_returns new f globals fits bs)

-- ---- ends under new numbers

same_falls : (new : Numbers) (f : ℕ) (e : MidEnd) → falls_on (renumbered_end new f e) ≡ falls_on e
same_falls new f (Jump to) = refl
same_falls new f (Branch t w to) = refl
same_falls new f (Call g args r) = refl
same_falls new f (Return r) = refl

same_call : (new : Numbers) (f : ℕ) (e : MidEnd) → is_call (renumbered_end new f e) ≡ is_call e
same_call new f (Jump to) = refl
same_call new f (Branch t w to) = refl
same_call new f (Call g args r) = refl
same_call new f (Return r) = refl

call_falls : (e : MidEnd) → is_call e ≡ true → falls_on e ≡ true
call_falls (Jump to) h = absurd (false≢true h)
call_falls (Branch t w to) h = refl
call_falls (Call g args r) h = refl
call_falls (Return r) h = absurd (false≢true h)

old_target : (new : Numbers) (f y : ℕ) (e : MidEnd) → target (renumbered_end new f e) ≡ Some y → (to : ℕ) × (target e ≡ Some to) × (new.block f to ≡ y)
old_target new f y (Jump to) h = (to, refl, cc)
old_target new f y (Branch t w to) h = (to, refl, cc)
old_target new f y (Call g args r) h = absurd (cc)
old_target new f y (Return r) h = absurd (cc)

new_target : (new : Numbers) (f to : ℕ) (e : MidEnd) → target e ≡ Some to → target (renumbered_end new f e) ≡ Some (new.block f to)
new_target new f to (Jump x) h = let same : x ≡ to = cc in ap (λ n. Some (new.block f n)) same
new_target new f to (Branch t w x) h = let same : x ≡ to = cc in ap (λ n. Some (new.block f n)) same
new_target new f to (Call g args r) h = absurd (cc)
new_target new f to (Return r) h = absurd (cc)

-- ---- what a function must be

pub record Raw (globals : ℕ) (fits : ℕ → ℕ → Bool) (code : MidFunction) : Type 0 where
  pub some : 0 < length code.blocks
  pub in_range : (n y : ℕ) (b : MidBlock) → slice_get code.blocks n ≡ Some b → target b.end ≡ Some y → y < length code.blocks
  pub not_first : (n : ℕ) (b : MidBlock) → slice_get code.blocks n ≡ Some b → target b.end ≡ Some 0 → ⊥
  pub apart : (n m y : ℕ) (b c : MidBlock) → slice_get code.blocks n ≡ Some b → slice_get code.blocks m ≡ Some c → target b.end ≡ Some y → is_call c.end ≡ true → y ≡ m + 1 → ⊥
  pub next : (n : ℕ) (b : MidBlock) → slice_get code.blocks n ≡ Some b → falls_on b.end ≡ true → n + 1 < length code.blocks
  pub tops : (n : ℕ) (b : MidBlock) → slice_get code.blocks n ≡ Some b → top (block_lines b) ≤ code.variables
  pub odd : (n : ℕ) (b : MidBlock) → slice_get code.blocks n ≡ Some b → odds globals fits (block_lines b) ≤ 1
  pub one : blocks_odd globals fits code.blocks ≤ 1
  pub params_fit : code.params ≤ code.variables
  pub variables_fit : code.variables < code.pairs
  pub pairs_fit : code.pairs ≤ 4002

module _ (mid : Mid) (marks : List (List Bool)) (closed : Closed mid marks) where
  abbrev new : Numbers
  new = numbers_of marks

  abbrev pub Kept : ℕ → ℕ → Type 0
  Kept f block = is_marked_block marks f block ≡ true

  pub leads_target : (f block to : ℕ) (end : MidEnd) → target end ≡ Some to → leads_to_marked marks f block end ≡ true → Kept f to
  leads_target f block to (Jump there) e h = let same : there ≡ to = cc in subst (λ n. Kept f n) same h
  leads_target f block to (Branch test when there) e h = let same : there ≡ to = cc in subst (λ n. Kept f n) same (both (is_marked_block marks f there) (is_marked_block marks f (block + 1)) h).0
  leads_target f block to (Call function args result) e h = absurd (cc)
  leads_target f block to (Return from) e h = absurd (cc)

  pub leads_next : (f block : ℕ) (end : MidEnd) → falls_on end ≡ true → leads_to_marked marks f block end ≡ true → Kept f (block + 1)
  leads_next f block (Jump there) e h = absurd (false≢true e)
  leads_next f block (Branch test when there) e h = (both (is_marked_block marks f there) (is_marked_block marks f (block + 1)) h).1
  leads_next f block (Call function args result) e h = (both (is_marked_block marks function 0) (is_marked_block marks f (block + 1)) h).1
  leads_next f block (Return from) e h = absurd (false≢true e)

  ends_lead : (f block : ℕ) (code : MidFunction) (end : MidEnd) → Kept f block → slice_get mid.functions f ≡ Some code → EndsBy code block end → leads_to_marked marks f block end ≡ true
  ends_lead f block code end k is (b, at, e) = subst (λ x. leads_to_marked marks f block x ≡ true) e (closed.leads f block code b is at k)

  -- what is reached is marked
  pub reached_kept : (f block : ℕ) → ReachedIn mid f block → Kept f block
  reached_kept f block begin = closed.main
  reached_kept f block (jumped g b to code end r is ends t) = leads_target g b to end t (ends_lead g b code end (reached_kept g b r) is ends)
  reached_kept f block (fallen g b code end r is ends t) = leads_next g b end t (ends_lead g b code end (reached_kept g b r) is ends)
  reached_kept f block (called g b function code args result r is ends) = (both (is_marked_block marks function 0) (is_marked_block marks g (b + 1)) (ends_lead g b code (Call function args result) (reached_kept g b r) is ends)).0

  module _ (only : OnlyReached mid marks) (globals : ℕ) (fits : ℕ → ℕ → Bool) (f : ℕ) (code : MidFunction) (code_is : slice_get mid.functions f ≡ Some code) (first : is_marked_block marks f 0 ≡ true) (raw : Raw globals fits code) where
    abbrev bs : List Bool
    bs = marks_of marks f

    abbrev p : MidFunction
    p = pruned_function marks f code

    pub record From (x : ℕ) (b' : MidBlock) : Type 0 where
      pub n : ℕ
      pub b : MidBlock
      pub kept : is_marked (marks_of marks f) n ≡ true
      pub at : slice_get code.blocks n ≡ Some b
      pub number : marked_before (marks_of marks f) n ≡ x
      pub is : renumbered_block (numbers_of marks) f b ≡ b'

    pub from_block : (x : ℕ) (b' : MidBlock) → slice_get (pruned_function marks f code).blocks x ≡ Some b' → From x b'
    from_block x b' h = by (slice_get (marked bs code.blocks) x) refl (sym (slice_get-map (renumbered_block new f) (marked bs code.blocks) x) ∙ h)
      where
        by : (o : Option MidBlock) → slice_get (marked bs code.blocks) x ≡ o → option_map (renumbered_block new f) o ≡ Some b' → From x b'
        by None at e = absurd (cc)
        by (Some b) at e = let s = source bs code.blocks x b at in let same : renumbered_block new f b ≡ b' = cc in record { n = s.at; b = b; kept = s.kept; at = s.is; number = s.new; is = same }

    pub to_block : (n : ℕ) (b : MidBlock) → is_marked (marks_of marks f) n ≡ true → slice_get code.blocks n ≡ Some b → slice_get (pruned_function marks f code).blocks (marked_before (marks_of marks f) n) ≡ Some (renumbered_block (numbers_of marks) f b)
    to_block n b k at = slice_get-map (renumbered_block new f) (marked bs code.blocks) (marked_before bs n) ∙ ap (option_map (renumbered_block new f)) (marked_at bs code.blocks n k ∙ at)

    count : length p.blocks ≡ length (marked bs code.blocks)
    count = length-map (marked bs code.blocks) (renumbered_block new f)

    below : (n : ℕ) → is_marked bs n ≡ true → n < length code.blocks → marked_before bs n < length p.blocks
    below n k lt = omega (arith, count, before_below bs code.blocks n k lt)

    leads : (n : ℕ) (b : MidBlock) → is_marked bs n ≡ true → slice_get code.blocks n ≡ Some b → leads_to_marked marks f n b.end ≡ true
    leads n b k at = closed.leads f n code b code_is at k

    -- a block that is named, under its old number
    record Old (x : ℕ) : Type 0 where
      pub n : ℕ
      pub b : MidBlock
      pub to : ℕ
      pub at : slice_get code.blocks n ≡ Some b
      pub goes : target b.end ≡ Some to
      pub kept : is_marked bs to ≡ true
      pub number : marked_before bs to ≡ x

    old : (x : ℕ) → IsTarget p x → Old x
    old x t =
        let a = any_at (λ (b : MidBlock). target b.end ≡ Some x) p.blocks t in
        let s = from_block a.0 a.1 a.2 in
        let e : target (renumbered_end new f s.b.end) ≡ Some x = ap (λ (b : MidBlock). target b.end) s.is ∙ a.3 in
        let o = old_target new f x s.b.end e in
        record { n = s.n; b = s.b; to = o.0; at = s.at; goes = o.1; kept = leads_target f s.n o.0 s.b.end o.1 (leads s.n s.b s.kept s.at); number = o.2 }

    -- a block that stands behind one, under old numbers
    record OldBehind (test : MidEnd → Bool) (x : ℕ) : Type 0 where
      pub n : ℕ
      pub b : MidBlock
      pub at : slice_get code.blocks n ≡ Some b
      pub passes : test b.end ≡ true
      pub kept : is_marked bs (n + 1) ≡ true
      pub number : marked_before bs (n + 1) ≡ x

    next_number : (n : ℕ) → is_marked bs n ≡ true → marked_before bs (n + 1) ≡ marked_before bs n + 1
    next_number n k = let e : n + 1 ≡ suc n = omega arith in let s = marked_next bs n k in ap (marked_before bs) e ∙ omega (arith, s)

    old_behind : (test : MidEnd → Bool) → ((e : MidEnd) → test (renumbered_end new f e) ≡ test e) → ((e : MidEnd) → test e ≡ true → falls_on e ≡ true) → (x : ℕ) → IsBehind test p x → OldBehind test x
    old_behind test same falls x (before, end, (b', at, e), t, eq) =
        let s = from_block before b' at in
        let passes : test s.b.end ≡ true = sym (same s.b.end) ∙ ap (λ (b : MidBlock). test b.end) s.is ∙ ap test e ∙ t in
        record {
          n = s.n;
          b = s.b;
          at = s.at;
          passes = passes;
          kept = leads_next f s.n s.b.end (falls s.b.end passes) (leads s.n s.b s.kept s.at);
          number = omega (arith, next_number s.n s.kept, s.number, eq);
        }

    -- ---- the fields

    block_below : (k : ℕ) (b : MidBlock) → slice_get p.blocks k ≡ Some b → top (block_lines b) ≤ p.variables
    block_below k b h =
        let s = from_block k b h in
        subst (λ (x : MidBlock). top (block_lines x) ≤ p.variables) s.is (subst (λ n. n ≤ p.variables) (sym (same_top new f s.b.end s.b.steps)) (raw.tops s.n s.b s.at))

    some : 0 < length p.blocks
    some = omega (arith, below 0 first raw.some)

    blocks_exist : (x : ℕ) → IsTarget p x → x < length p.blocks
    blocks_exist x t = let o = old x t in omega (arith, o.number, below o.to o.kept (raw.in_range o.n o.to o.b o.at o.goes))

    not_the_first : IsTarget p 0 → ⊥
    not_the_first t =
        let o = old 0 t in
        let zero_is : o.to ≡ 0 = before_apart bs o.to 0 o.kept first (o.number ∙ sym (before_first bs)) in
        raw.not_first o.n o.b o.at (o.goes ∙ ap Some zero_is)

    not_behind_call : (x : ℕ) → IsBehind is_call p x → IsTarget p x → ⊥
    not_behind_call x h t =
        let o = old x t in
        let c = old_behind is_call (same_call new f) call_falls x h in
        let same : o.to ≡ c.n + 1 = before_apart bs o.to (c.n + 1) o.kept c.kept (o.number ∙ sym c.number) in
        raw.apart o.n c.n o.to o.b c.b o.at c.at o.goes c.passes same

    has_next : (x : ℕ) → IsBehind falls_on p x → x < length p.blocks
    has_next x h = let c = old_behind falls_on (same_falls new f) (λ e t. t) x h in omega (arith, c.number, below (c.n + 1) c.kept (raw.next c.n c.b c.at c.passes))

    -- what leads to a block that is reached
    enters : (g n : ℕ) → ReachedIn mid g n → g ≡ f → (x : ℕ) → marked_before bs n ≡ x → 0 < x → IsTarget p x ⊎ IsBehind falls_on p x
    enters g n begin same x number lt = absurd (omega (arith, before_first bs, number, lt))
    enters g n (jumped g' m to c end r at ends t) same x number lt =
        let there : slice_get mid.functions f ≡ Some c = ap (slice_get mid.functions) (sym same) ∙ at in
        let both_are : Some c ≡ Some code = sym there ∙ code_is in
        let c_is : c ≡ code = cc in
        let kept : is_marked bs m ≡ true = ap (λ k. is_marked_block marks k m) (sym same) ∙ reached_kept g' m r in
        let b : MidBlock = ends.0 in
        let b_at : slice_get code.blocks m ≡ Some b = ap (λ (y : MidFunction). slice_get y.blocks m) (sym c_is) ∙ ends.1 in
        let goes : target b.end ≡ Some to = ap target ends.2 ∙ t in
        inl (at_any (λ (y : MidBlock). target y.end ≡ Some x) p.blocks (marked_before bs m) (renumbered_block new f b) (to_block m b kept b_at) (new_target new f to b.end goes ∙ ap Some number))
    enters g n (fallen g' m c end r at ends t) same x number lt =
        let there : slice_get mid.functions f ≡ Some c = ap (slice_get mid.functions) (sym same) ∙ at in
        let both_are : Some c ≡ Some code = sym there ∙ code_is in
        let c_is : c ≡ code = cc in
        let kept : is_marked bs m ≡ true = ap (λ k. is_marked_block marks k m) (sym same) ∙ reached_kept g' m r in
        let b : MidBlock = ends.0 in
        let b_at : slice_get code.blocks m ≡ Some b = ap (λ (y : MidFunction). slice_get y.blocks m) (sym c_is) ∙ ends.1 in
        let falls : falls_on b.end ≡ true = ap falls_on ends.2 ∙ t in
        inr (marked_before bs m, renumbered_end new f b.end, (renumbered_block new f b, to_block m b kept b_at, refl), same_falls new f b.end ∙ falls, omega (arith, next_number m kept, number))
    enters g n (called g' m function c args result r at ends) same x number lt = absurd (omega (arith, before_first bs, number, lt))

    each_entered : (x : ℕ) → 0 < x → x < length p.blocks → IsTarget p x ⊎ IsBehind falls_on p x
    each_entered x lt there =
        let b = got p.blocks x there in
        let s = from_block x b.0 b.1 in
        enters f s.n (only.reached f s.n s.kept) refl x s.number lt

    one_return : count_by (λ b. is_return b.end) p.blocks ≤ 1
    one_return = omega (arith, few_returns new f globals fits (marked bs code.blocks), odd_total globals fits (marked bs code.blocks), odd_total globals fits code.blocks, total_kept (λ b. odds globals fits (block_lines b)) bs code.blocks, raw.one)

    pub valid : length (lines (pruned_function marks f code)) ≤ 62914560 → ValidFunction (pruned_function marks f code)
    valid few = record {
      has_block = some;
      variables_exist = (variables_decide p.variables p.blocks).0 (each_fits p.variables p.blocks block_below);
      blocks_exist = blocks_exist;
      not_the_first = not_the_first;
      not_behind_call = not_behind_call;
      has_next = has_next;
      each_entered = each_entered;
      params_fit = raw.params_fit;
      variables_fit = raw.variables_fit;
      pairs_fit = raw.pairs_fit;
      one_return = one_return;
      few_lines = few;
    }
