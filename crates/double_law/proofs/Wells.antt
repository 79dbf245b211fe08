-- A doubled program is well formed, and its streams are twins.
use Rattle.std.proofs.Common.{◌≡◌, ◌≢◌, ◌≤◌, ◌<◌, ℕ, zero, suc, ◌+◌, ◌-◌, ◌*◌, ◌^◌, arith, ap, refl, sym, ◌∙◌, subst, List, [], ◌∷◌, ◌++◌, Bool, true, false, inl, inr, length, map, flat_map, sum, le_refl, le_trans, zero-le, zero-add, ⊎_elim, length-append}
use Rattle.std.specs.Prelude.{Option, Some, None, ◌⊎◌, ◌↔◌, slice_get, Contains, All, Any, get_or}
use Rattle.std.proofs.lemmas.Option.{slice_get_within}
use Rattle.hard_words.specs.Words.{AreWords}
use Rattle.mips_isa.specs.declared.instr.Instr.TheVariants as mips
use Rattle.mips_isa.specs.Table.{IsInRange}
use Rattle.hard_items.specs.declared.code.Fix.{Fix}
use Rattle.hard_items.specs.declared.code.Fix.TheVariants as fix
use Rattle.hard_items.specs.declared.code.Item.{Item}
use Rattle.hard_items.specs.declared.code.HardBlock.{HardBlock}
use Rattle.hard_items.specs.declared.code.HardProgram.{HardProgram}
use Rattle.hard_items.specs.Run.{items_of, block_items}
use Rattle.hard_items.specs.Ways.{Holds, CallsFunction, EachCalled, IsOfFunction, MayFollow, jumped, branched_eq, branched_ne, fallen_eq, fallen_ne, called, returned}
use Rattle.hard_items.specs.Forms.{Each, Close, Jump, Branch, Call, Return, Exit, Formed, HalvesPair}
use Rattle.hard_items.specs.Rules.{Twin}
use Rattle.hard_items.specs.WellFormed.{WellFormed, ItemAt, FieldFits, NamesThere, IsEntered}
use Rattle.hard_laws.proofs.Scan as scan
use Rattle.mid_blocks.specs.declared.code.MidEnd.{MidEnd}
use Rattle.mid_blocks.specs.declared.code.MidEnd.TheVariants as line
use Rattle.mid_blocks.specs.declared.code.MidBlock.{MidBlock}
use Rattle.mid_blocks.specs.declared.code.MidFunction.{MidFunction}
use Rattle.mid_blocks.specs.declared.code.Mid.{Mid}
use Rattle.mid_blocks.specs.declared.places.Places.{Places}
use Rattle.mid_blocks.specs.Bounds.{pairs_of}
use Rattle.mid_blocks.specs.Valid.{ValidFunction, IsCalled, target, falls_on, is_return}
use Rattle.frame_plan.specs.Frames.{global_cells}
use Rattle.double_law.specs.Program.{first_block, doubled}
use Rattle.double_law.specs.Law.{Doubles, RunsAsBlocks, RunsInTwos}
use Rattle.hard_words.proofs.Sums.{sum_cons}
use Rattle.double_law.proofs.Law.{doubled_runs}
use Rattle.double_law.proofs.Few.{few_blocks}
use Rattle.double_law.proofs.Wiring.{there}
use Rattle.double_law.proofs.Formed.{MadeBlock, close_of}
use Rattle.double_law.specs.Ways.{successors, NamesWays, returns_to, behind_calls, all_blocks, in_order}
use Rattle.double_law.proofs.Says.{Says, stays, jumps, branches_ne, branches_eq, calls as says_calls, returns, each_at, NoWay}
use Rattle.double_law.proofs.Numbers.{none_is, some_same, before, before_total, only_one, Ascends, ascends_at, ascends_lower, behind_ascends, order_ascends, head_in, in_cons, in_none, in_one, in_append, in_right, in_order_in, tail_in, order_has_first, order_has_second}
use Rattle.double_law.proofs.Closed.{EmitsBlock, IsHalf}
use Rattle.double_law.proofs.Wholes.{words_of, emits_of}
use Rattle.double_law.proofs.BlockKinds.{Inner, Kind, is_first, is_exit, is_inner, BlockIs, Follow, by_jump, by_branch, falls, by_call, by_return, says_return, says_branch, block_is, is_there, says_of, entry_at, entry_is, one_entry, of_function, only_of, block_calls, first_calls, calls_by, caller_close, follow, inner_follow, inner_ways, valid_at}

each_all : {A : Type 0} (P : A → Type 0) (xs : List A) → Each P xs → All P xs
each_all P [] h k d l = absurd (Rattle.std.proofs.Common.not-suc-le-zero l)
each_all P (x ∷ xs) h zero d l = h.0
each_all P (x ∷ xs) h (suc k) d l = each_all P xs h.1 k d (Rattle.std.proofs.Common.le_of_suc-le-suc l)

each_of : {A : Type 0} (P : A → Type 0) (xs : List A) → ((x : A) → Contains xs x → P x) → Each P xs
each_of P [] h = tt
each_of P (x ∷ xs) h = (h x (head_in x xs), each_of P xs (λ y c. h y (tail_in x y xs c)))

placed : {A : Type 0} (xs : List A) (k : ℕ) (x : A) → slice_get xs k ≡ Some x → Contains xs x
placed [] k x e = absurd (none_is x e)
placed (y ∷ ys) zero x e = subst (λ z. Contains (y ∷ ys) z) (some_same y x e) (head_in y ys)
placed (y ∷ ys) (suc k) x e = tail_in y x ys (placed ys k x e)

at_place : {A : Type 0} (xs : List A) (x : A) (k : ℕ) → k < length xs → get_or xs k x ≡ x → slice_get xs k ≡ Some x
at_place [] x k h e = absurd (Rattle.std.proofs.Common.not-suc-le-zero h)
at_place (y ∷ ys) x zero h e = ap (λ z. Some z) e
at_place (y ∷ ys) x (suc k) h e = at_place ys x k (Rattle.std.proofs.Common.le_of_suc-le-suc h) e

-- an element by which Any holds
any_at : {A : Type 0} (P : A → Type 0) (xs : List A) → Any P xs → (k : ℕ) × (x : A) × (slice_get xs k ≡ Some x) × P x
any_at P xs h = (h.0, h.1, at_place xs h.1 h.0 h.2 h.3, h.4)

twice : (xs : List ℕ) → length (doubled xs) ≡ 2 * length xs
twice [] = refl
twice (x ∷ xs) = more (length (doubled xs)) (length xs) (twice xs)
  where
    more : (a n : ℕ) → a ≡ 2 * n → suc (suc a) ≡ 2 * suc n
    more a n e = omega arith

flat_length : (xs : List (List ℕ)) → length (flat_map (λ words. words) xs) ≡ sum (map length xs)
flat_length [] = refl
flat_length (x ∷ xs) = length-append x (flat_map (λ words. words) xs) ∙ (ap (λ (n : ℕ). length x + n) (flat_length xs) ∙ sym (sum_cons (length x) (map length xs)))

in_blocks : (xs : List HardBlock) (b : ℕ) → (b < length xs) ⊎ (slice_get xs b ≡ None)
in_blocks [] b = inr refl
in_blocks (x ∷ xs) zero = inl (Rattle.std.proofs.Common.zero-lt-suc (length xs))
in_blocks (x ∷ xs) (suc b) = ⊎_elim (λ l. inl (Rattle.std.proofs.Common.suc-le-suc l)) (λ e. inr e) (in_blocks xs b)

-- what holds of no items and of each block that is there holds of the items of each number
everywhere : (P : List Item → Type 0) (p : HardProgram) → P [] → ((b : ℕ) → b < length p.blocks → P (items_of p b)) → (b : ℕ) → P (items_of p b)
everywhere P p none h b = ⊎_elim (λ l. h b l) (λ e. subst (λ (o : Option HardBlock). P (block_items o)) (sym e) none) (in_blocks p.blocks b)

nothing_in_range : All (λ (i : Item). IsInRange i.instr) []
nothing_in_range k d l = absurd (Rattle.std.proofs.Common.not-suc-le-zero l)

jump_to : (a b : ℕ) → Jump a ≡ Jump b → a ≡ b
jump_to a b e = cc

branch_to : (k l : Bool) (r s : ℕ) (v w : Bool) (a b : ℕ) → Branch k r v a ≡ Branch l s w b → a ≡ b
branch_to k l r s v w a b e = cc

call_to : (a b : ℕ) → Call a ≡ Call b → a ≡ b
call_to a b e = cc

-- the end of a block that closes by a branch, or by a return
branch_end : (first : ℕ) (at : Places) (e : MidEnd) (k : Bool) (r t : ℕ) (w : Bool) → close_of first at e ≡ Branch k r w t → (v : ℕ) × (u : Bool) × (to : ℕ) × (e ≡ line.Branch v u to) × (t ≡ first + to)
branch_end first at (line.Jump to) k r t w h = absurd (no h)
  where
    no : Jump (first + to) ≡ Branch k r w t → ⊥
    no e = cc
branch_end first at (line.Branch v u to) k r t w h = (v, u, to, refl, sym (branch_to false k (Rattle.double_law.specs.Roles.reg_in Rattle.double_law.specs.declared.roles.Stream.Stream.First (Rattle.double_law.specs.Emitted.source (Rattle.double_law.specs.Emitted.place_of at v) 0)) r u w (first + to) t h))
branch_end first at (line.Call g args result) k r t w h = absurd (no h)
  where
    no : Call g ≡ Branch k r w t → ⊥
    no e = cc
branch_end first at (line.Return from) k r t w h = absurd (no h)
  where
    no : Return false ≡ Branch k r w t → ⊥
    no e = cc

jump_end : (first : ℕ) (at : Places) (e : MidEnd) (t : ℕ) → close_of first at e ≡ Jump t → (to : ℕ) × (e ≡ line.Jump to) × (t ≡ first + to)
jump_end first at (line.Jump to) t h = (to, refl, sym (jump_to (first + to) t h))
jump_end first at (line.Branch v u to) t h = absurd (no h)
  where
    no : close_of first at (line.Branch v u to) ≡ Jump t → ⊥
    no e = cc
jump_end first at (line.Call g args result) t h = absurd (no h)
  where
    no : Call g ≡ Jump t → ⊥
    no e = cc
jump_end first at (line.Return from) t h = absurd (no h)
  where
    no : Return false ≡ Jump t → ⊥
    no e = cc

call_end : (first : ℕ) (at : Places) (e : MidEnd) (g : ℕ) → close_of first at e ≡ Call g → (args : List ℕ) × (result : Option ℕ) × (e ≡ line.Call g args result)
call_end first at (line.Jump to) g h = absurd (no h)
  where
    no : Jump (first + to) ≡ Call g → ⊥
    no e = cc
call_end first at (line.Branch v u to) g h = absurd (no h)
  where
    no : close_of first at (line.Branch v u to) ≡ Call g → ⊥
    no e = cc
call_end first at (line.Call f args result) g h = (args, result, ap (λ (m : ℕ). line.Call m args result) (call_to f g h))
call_end first at (line.Return from) g h = absurd (no h)
  where
    no : Return false ≡ Call g → ⊥
    no e = cc

return_end : (first : ℕ) (at : Places) (e : MidEnd) (k : Bool) → close_of first at e ≡ Return k → is_return e ≡ true
return_end first at (line.Jump to) k h = absurd (no h)
  where
    no : Jump (first + to) ≡ Return k → ⊥
    no e = cc
return_end first at (line.Branch v u to) k h = absurd (no h)
  where
    no : close_of first at (line.Branch v u to) ≡ Return k → ⊥
    no e = cc
return_end first at (line.Call g args result) k h = absurd (no h)
  where
    no : Call g ≡ Return k → ⊥
    no e = cc
return_end first at (line.Return from) k h = refl

module _ (mid : Mid) (places : List Places) (p : HardProgram) (d : Doubles mid places p) (w : NamesWays mid p) where
  runs : RunsAsBlocks mid p × RunsInTwos p
  runs = doubled_runs mid places p d

  formed : (b : ℕ) → b < length p.blocks → Formed (items_of p b)
  formed b l = (runs.1.bare b l).formed

  emits : (b : ℕ) (l : b < length p.blocks) → EmitsBlock (words_of mid places b (block_is mid places p d b l).close (block_is mid places p d b l).kind) (block_is mid places p d b l).close (items_of p b)
  emits b l = emits_of mid places p d b (block_is mid places p d b l).close (block_is mid places p d b l).kind

  lines_of : (b : ℕ) → scan.Lines (items_of p b)
  lines_of = everywhere scan.Lines p tt (λ b l. scan.formed_lines (items_of p b) (formed b l))

  -- ---- blocks of functions

  -- a block of a function among those that close as given
  in_function : (x : ℕ) (c : Close) (k : Kind mid places x c) → (c ≡ Call 0 → x ≡ 0 → ⊥) → (c ≡ Exit false → ⊥) → (i : Inner mid places x) × (c ≡ close_of (first_block mid i.n) i.at i.block.end)
  in_function x c (is_first e q) h g = absurd (h q e)
  in_function x c (is_exit e q) h g = absurd (g q)
  in_function x c (is_inner i q) h g = (i, q)

  block_there : (n b : ℕ) (f : MidFunction) → slice_get mid.functions n ≡ Some f → b < length f.blocks → first_block mid n + b < length p.blocks
  block_there n b f e h = less (before mid.functions n) b (length f.blocks) (sum (map (λ (g : MidFunction). length g.blocks) mid.functions)) (length p.blocks) h (before_total mid.functions n f e) d.emitted.blocks_long
    where
      less : (a b l s t : ℕ) → b < l → a + l ≤ s → t ≡ 2 + s → 2 + a + b < t
      less a b l s t h k e = omega arith

  entry_there : (n : ℕ) → n < length mid.functions → first_block mid n < length p.blocks
  entry_there n h = let t : (f : MidFunction) × (slice_get mid.functions n ≡ Some f) = there mid.functions n h in
      subst (λ (m : ℕ). m < length p.blocks) (Rattle.std.proofs.Common.add-zero (first_block mid n)) (block_there n 0 t.0 t.1 (valid_at mid places p d n t.0 t.1).has_block)

  valid : (n : ℕ) (f : MidFunction) → slice_get mid.functions n ≡ Some f → ValidFunction f
  valid n f e = valid_at mid places p d n f e

  any_here : {A : Type 0} (P : A → Type 0) (xs : List A) (n : ℕ) (x : A) → slice_get xs n ≡ Some x → P x → Any P xs
  any_here P xs n x e h = (n, x, slice_get_within xs n x e, Rattle.std.proofs.lemmas.Option.get_or_from_slice_get xs n x x e, h)

  -- the target of a block of a function, and the block behind it
  target_in : (n b to : ℕ) (f : MidFunction) (x : MidBlock) → slice_get mid.functions n ≡ Some f → slice_get f.blocks b ≡ Some x → target x.end ≡ Some to → to < length f.blocks
  target_in n b to f x e g h = (valid n f e).blocks_exist to (any_here (λ z. target z.end ≡ Some to) f.blocks b x g h)

  behind_in : (n b : ℕ) (f : MidFunction) (x : MidBlock) → slice_get mid.functions n ≡ Some f → slice_get f.blocks b ≡ Some x → falls_on x.end ≡ true → b + 1 < length f.blocks
  behind_in n b f x e g h = (valid n f e).has_next (b + 1) (b, x.end, (x, g, refl), h, refl)

  -- ---- blocks by how they close

  jump_in : (x : ℕ) (s : BlockIs mid places p x) (t : ℕ) → s.close ≡ Jump t → (i : Inner mid places x) × (to : ℕ) × (i.block.end ≡ line.Jump to) × (t ≡ first_block mid i.n + to)
  jump_in x s t q = goes (in_function x s.close s.kind (λ z k. no_call (sym z ∙ q)) (λ z. no_exit (sym z ∙ q)))
    where
      no_call : Call 0 ≡ Jump t → ⊥
      no_call e = cc

      no_exit : Exit false ≡ Jump t → ⊥
      no_exit e = cc

      goes : (z : (i : Inner mid places x) × (s.close ≡ close_of (first_block mid i.n) i.at i.block.end)) → (i : Inner mid places x) × (to : ℕ) × (i.block.end ≡ line.Jump to) × (t ≡ first_block mid i.n + to)
      goes z = let r : (to : ℕ) × (z.0.block.end ≡ line.Jump to) × (t ≡ first_block mid z.0.n + to) = jump_end (first_block mid z.0.n) z.0.at z.0.block.end t (sym z.1 ∙ q) in (z.0, r.0, r.1, r.2)

  branch_in : (x : ℕ) (s : BlockIs mid places p x) (k : Bool) (r t : ℕ) (u : Bool) → s.close ≡ Branch k r u t → (i : Inner mid places x) × (v : ℕ) × (h : Bool) × (to : ℕ) × (i.block.end ≡ line.Branch v h to) × (t ≡ first_block mid i.n + to)
  branch_in x s k r t u q = goes (in_function x s.close s.kind (λ z g. no_call (sym z ∙ q)) (λ z. no_exit (sym z ∙ q)))
    where
      no_call : Call 0 ≡ Branch k r u t → ⊥
      no_call e = cc

      no_exit : Exit false ≡ Branch k r u t → ⊥
      no_exit e = cc

      goes : (z : (i : Inner mid places x) × (s.close ≡ close_of (first_block mid i.n) i.at i.block.end)) → (i : Inner mid places x) × (v : ℕ) × (h : Bool) × (to : ℕ) × (i.block.end ≡ line.Branch v h to) × (t ≡ first_block mid i.n + to)
      goes z = let y : (v : ℕ) × (h : Bool) × (to : ℕ) × (z.0.block.end ≡ line.Branch v h to) × (t ≡ first_block mid z.0.n + to) = branch_end (first_block mid z.0.n) z.0.at z.0.block.end k r t u (sym z.1 ∙ q) in (z.0, y.0, y.1, y.2, y.3, y.4)

  return_in : (x : ℕ) (s : BlockIs mid places p x) (k : Bool) → s.close ≡ Return k → (i : Inner mid places x) × (is_return i.block.end ≡ true)
  return_in x s k q = goes (in_function x s.close s.kind (λ z g. no_call (sym z ∙ q)) (λ z. no_exit (sym z ∙ q)))
    where
      no_call : Call 0 ≡ Return k → ⊥
      no_call e = cc

      no_exit : Exit false ≡ Return k → ⊥
      no_exit e = cc

      goes : (z : (i : Inner mid places x) × (s.close ≡ close_of (first_block mid i.n) i.at i.block.end)) → (i : Inner mid places x) × (is_return i.block.end ≡ true)
      goes z = (z.0, return_end (first_block mid z.0.n) z.0.at z.0.block.end k (sym z.1 ∙ q))

  -- what a block calls: the first block function 0, another by its end
  call_in : (x : ℕ) (s : BlockIs mid places p x) (g : ℕ) → s.close ≡ Call g → ((x ≡ 0) × (g ≡ 0)) ⊎ ((i : Inner mid places x) × (args : List ℕ) × (result : Option ℕ) × (i.block.end ≡ line.Call g args result))
  call_in x s g q = by s.kind
    where
      no_exit : Exit false ≡ Call g → ⊥
      no_exit e = cc

      by : Kind mid places x s.close → ((x ≡ 0) × (g ≡ 0)) ⊎ ((i : Inner mid places x) × (args : List ℕ) × (result : Option ℕ) × (i.block.end ≡ line.Call g args result))
      by (is_first e h) = inl (e, call_to g 0 (sym q ∙ h))
      by (is_exit e h) = absurd (no_exit (sym h ∙ q))
      by (is_inner i h) = let y : (args : List ℕ) × (result : Option ℕ) × (i.block.end ≡ line.Call g args result) = call_end (first_block mid i.n) i.at i.block.end g (sym h ∙ q) in inr (i, y.0, y.1, y.2)

  called_there : (n b g : ℕ) (args : List ℕ) (result : Option ℕ) (f : MidFunction) (x : MidBlock) → slice_get mid.functions n ≡ Some f → slice_get f.blocks b ≡ Some x → x.end ≡ line.Call g args result → g < length mid.functions
  called_there n b g args result f x e h k = let z : (f' : MidFunction) × (slice_get mid.functions g ≡ Some f') × (length args ≡ f'.params) = d.valid.calls_fit g args (any_here (λ f. Any (λ b. (result : Option ℕ) × (b.end ≡ line.Call g args result)) f.blocks) mid.functions n f e (any_here (λ b. (result : Option ℕ) × (b.end ≡ line.Call g args result)) f.blocks b x h (result, k))) in
      slice_get_within mid.functions g z.0 z.1

  main_there : 0 < length mid.functions
  main_there = slice_get_within mid.functions 0 d.valid.main_fits.0 d.valid.main_fits.1

  -- ---- fields

  branch_there : (x : ℕ) (s : BlockIs mid places p x) (k : Bool) (r t : ℕ) (u : Bool) → s.close ≡ Branch k r u t → t < length p.blocks
  branch_there x s k r t u q = let z : (i : Inner mid places x) × (v : ℕ) × (h : Bool) × (to : ℕ) × (i.block.end ≡ line.Branch v h to) × (t ≡ first_block mid i.n + to) = branch_in x s k r t u q in
      subst (λ (m : ℕ). m < length p.blocks) (sym z.5) (block_there z.0.n z.3 z.0.f z.0.is_function (target_in z.0.n z.0.b z.3 z.0.f z.0.block z.0.is_function z.0.is_block (ap (λ (z : MidEnd). target z) z.4)))

  names_there : (x : ℕ) (s : BlockIs mid places p x) (i : Item) → Says s.close i → NamesThere p i.fix
  names_there x s i (stays l v h) = by i.fix v
    where
      by : (f : Fix) → NoWay f → NamesThere p f
      by fix.Plain v = tt
      by (fix.Block t) v = absurd v
      by (fix.Function f) v = absurd v
      by fix.ReturnHigh v = tt
      by fix.ReturnLow v = tt
  names_there x s i (jumps t q e) = subst (λ (z : Item). NamesThere p z.fix) (sym e)
      (let z : (i : Inner mid places x) × (to : ℕ) × (i.block.end ≡ line.Jump to) × (t ≡ first_block mid i.n + to) = jump_in x s t q in
      subst (λ (m : ℕ). m < length p.blocks) (sym z.3) (block_there z.0.n z.1 z.0.f z.0.is_function (target_in z.0.n z.0.b z.1 z.0.f z.0.block z.0.is_function z.0.is_block (ap (λ (z : MidEnd). target z) z.2))))
  names_there x s i (branches_ne k r t q e) = subst (λ (z : Item). NamesThere p z.fix) (sym e) (branch_there x s k r t true q)
  names_there x s i (branches_eq k r t q e) = subst (λ (z : Item). NamesThere p z.fix) (sym e) (branch_there x s k r t false q)
  names_there x s i (says_calls f q e) = subst (λ (z : Item). NamesThere p z.fix) (sym e) (subst (λ (m : ℕ). f < m) (sym d.emitted.entries_long)
      (⊎_elim (λ z. subst (λ (m : ℕ). m < length mid.functions) (sym z.1) main_there) (λ z. called_there z.0.n z.0.b f z.1 z.2 z.0.f z.0.block z.0.is_function z.0.is_block z.3) (call_in x s f q)))
  names_there x s i (returns k q e) = subst (λ (z : Item). NamesThere p z.fix) (sym e) tt

  field_fits : (c : Close) (i : Item) → Says c i → FieldFits i.fix i.instr
  field_fits c i (stays l v h) = h
  field_fits c i (jumps t q e) = subst (λ (z : Item). FieldFits z.fix z.instr) (sym e) refl
  field_fits c i (branches_ne k r t q e) = subst (λ (z : Item). FieldFits z.fix z.instr) (sym e) refl
  field_fits c i (branches_eq k r t q e) = subst (λ (z : Item). FieldFits z.fix z.instr) (sym e) refl
  field_fits c i (says_calls f q e) = subst (λ (z : Item). FieldFits z.fix z.instr) (sym e) refl
  field_fits c i (returns k q e) = subst (λ (z : Item). FieldFits z.fix z.instr) (sym e) tt

  by_items : (P : Item → Type 0) → ((b : ℕ) (s : BlockIs mid places p b) (i : Item) → Says s.close i → P i) → (b : ℕ) → All P (items_of p b)
  by_items P h b = each_all P (items_of p b) (each_of P (items_of p b) (λ i c. let s : BlockIs mid places p b = block_is mid places p d b (is_there mid places p d b i c) in h b s i (says_of mid places p d b s i c)))

  -- ---- calls

  each_called : EachCalled p
  each_called f e h = by f (entry_is mid places p d f e h).0
    where
      by : (f : ℕ) → f < length mid.functions → (e ≡ 0) ⊎ ((b : ℕ) × CallsFunction p b f)
      by zero l = inr (0, first_calls mid places p d)
      by (suc f) l = let c : (args : List ℕ) × IsCalled mid (suc f) args = d.valid.each_called (suc f) (Rattle.std.proofs.Common.zero-lt-suc f) l in
          let m : (n : ℕ) × (g : MidFunction) × (slice_get mid.functions n ≡ Some g) × Any (λ b. (result : Option ℕ) × (b.end ≡ line.Call (suc f) c.0 result)) g.blocks = any_at (λ g. Any (λ b. (result : Option ℕ) × (b.end ≡ line.Call (suc f) c.0 result)) g.blocks) mid.functions c.1 in
          let b : (b : ℕ) × (x : MidBlock) × (slice_get m.1.blocks b ≡ Some x) × ((result : Option ℕ) × (x.end ≡ line.Call (suc f) c.0 result)) = any_at (λ b. (result : Option ℕ) × (b.end ≡ line.Call (suc f) c.0 result)) m.1.blocks m.3 in
          inr (first_block mid m.0 + b.0, block_calls mid places p d m.0 b.0 m.1 b.1 (suc f) c.0 b.3.0 m.2 b.2 b.3.1)

  call_goes_on : (b f : ℕ) → CallsFunction p b f → b + 1 < length p.blocks
  call_goes_on b f c = let z : (s : BlockIs mid places p b) × (s.close ≡ Call f) = caller_close mid places p d b f c in
      ⊎_elim (λ k. subst (λ (m : ℕ). m + 1 < length p.blocks) (sym k.0) (two (length p.blocks) (sum (map (λ (g : MidFunction). length g.blocks) mid.functions)) (first_block mid 0) d.emitted.blocks_long (entry_there 0 main_there) refl))
      (λ k. subst (λ (m : ℕ). m + 1 < length p.blocks) (sym k.0.number) (subst (λ (m : ℕ). m < length p.blocks) (sym (Rattle.std.proofs.Common.add_assoc (first_block mid k.0.n) k.0.b 1))
      (block_there k.0.n (k.0.b + 1) k.0.f k.0.is_function (behind_in k.0.n k.0.b k.0.f k.0.block k.0.is_function k.0.is_block (ap (λ (z : MidEnd). falls_on z) k.3)))))
      (call_in b z.0 f z.1)
    where
      two : (t s e : ℕ) → t ≡ 2 + s → e < t → e ≡ first_block mid 0 → 0 + 1 < t
      two t s e h k l = omega arith

  half_calls : (b : ℕ) (i : Item) → Holds p b i → (i.fix ≡ fix.ReturnHigh) ⊎ (i.fix ≡ fix.ReturnLow) → (f : ℕ) × CallsFunction p b f
  half_calls b i c h =
      let l : b < length p.blocks = is_there mid places p d b i c in
      let s : BlockIs mid places p b = block_is mid places p d b l in
      let g : (f : ℕ) × (s.close ≡ Call f) = each_at (λ i. IsHalf i.fix → (f : ℕ) × (s.close ≡ Call f)) (items_of p b) i (emits_of mid places p d b s.close s.kind).half_calls c h in
      (g.0, calls_by mid places p d b g.0 (subst (λ (z : Close). MadeBlock (items_of p b) z) g.1 s.made))

  -- ---- ways

  in_two : (b : ℕ) (n : ℕ) → b ≡ n → (f : ℕ) → IsOfFunction p b f → IsOfFunction p n f
  in_two b n e f o = subst (λ (m : ℕ). IsOfFunction p m f) e o

  branch_stays : (b k t rs rt imm : ℕ) (i : Item) → ItemAt (items_of p b) k i → i.fix ≡ fix.Block t → (i.instr ≡ mips.Beq rs rt imm) ⊎ (i.instr ≡ mips.Bne rs rt imm) →
      (b + 1 < length p.blocks) × ((f : ℕ) → (IsOfFunction p b f ↔ IsOfFunction p t f) × (IsOfFunction p b f ↔ IsOfFunction p (b + 1) f))
  branch_stays b k t rs rt imm i e g h =
      let c : Holds p b i = placed (items_of p b) k i e in
      let s : BlockIs mid places p b = block_is mid places p d b (is_there mid places p d b i c) in
      let y : (k : Bool) × (r : ℕ) × (w : Bool) × (s.close ≡ Branch k r w t) = says_branch s.close i t (says_of mid places p d b s i c) (rs, rt, imm, h) g in
      let z : (i : Inner mid places b) × (v : ℕ) × (h : Bool) × (to : ℕ) × (i.block.end ≡ line.Branch v h to) × (t ≡ first_block mid i.n + to) = branch_in b s y.0 y.1 t y.2 y.3 in
      stay z.0 z.3 (target_in z.0.n z.0.b z.3 z.0.f z.0.block z.0.is_function z.0.is_block (ap (λ (z : MidEnd). target z) z.4)) (behind_in z.0.n z.0.b z.0.f z.0.block z.0.is_function z.0.is_block (ap (λ (z : MidEnd). falls_on z) z.4)) z.5
    where
      stay : (i : Inner mid places b) (to : ℕ) → to < length i.f.blocks → i.b + 1 < length i.f.blocks → t ≡ first_block mid i.n + to →
          (b + 1 < length p.blocks) × ((f : ℕ) → (IsOfFunction p b f ↔ IsOfFunction p t f) × (IsOfFunction p b f ↔ IsOfFunction p (b + 1) f))
      stay i to l m q =
          let next : b + 1 ≡ first_block mid i.n + (i.b + 1) = ap (λ (z : ℕ). z + 1) i.number ∙ Rattle.std.proofs.Common.add_assoc (first_block mid i.n) i.b 1 in
          let here : i.b < length i.f.blocks = slice_get_within i.f.blocks i.b i.block i.is_block in
          let of_b : IsOfFunction p b i.n = in_two (first_block mid i.n + i.b) b (sym i.number) i.n (of_function mid places p d i.n i.b i.f i.is_function here) in
          let of_t : IsOfFunction p t i.n = in_two (first_block mid i.n + to) t (sym q) i.n (of_function mid places p d i.n to i.f i.is_function l) in
          let of_n : IsOfFunction p (b + 1) i.n = in_two (first_block mid i.n + (i.b + 1)) (b + 1) (sym next) i.n (of_function mid places p d i.n (i.b + 1) i.f i.is_function m) in (
            subst (λ (z : ℕ). z < length p.blocks) (sym next) (block_there i.n (i.b + 1) i.f i.is_function m),
            (λ f. (
              (
                (λ o. subst (λ (z : ℕ). IsOfFunction p t z) (sym (only_of mid places p d i.n i.b f i.f i.is_function here (in_two b (first_block mid i.n + i.b) i.number f o))) of_t),
                (λ o. subst (λ (z : ℕ). IsOfFunction p b z) (sym (only_of mid places p d i.n to f i.f i.is_function l (in_two t (first_block mid i.n + to) q f o))) of_b),
              ),
              (
                (λ o. subst (λ (z : ℕ). IsOfFunction p (b + 1) z) (sym (only_of mid places p d i.n i.b f i.f i.is_function here (in_two b (first_block mid i.n + i.b) i.number f o))) of_n),
                (λ o. subst (λ (z : ℕ). IsOfFunction p b z) (sym (only_of mid places p d i.n (i.b + 1) f i.f i.is_function m (in_two (b + 1) (first_block mid i.n + (i.b + 1)) next f o))) of_b),
              ),
            )),
          )

  one_return : (b c f k m rs rt : ℕ) (i j : Item) → IsOfFunction p b f → IsOfFunction p c f → ItemAt (items_of p b) k i → ItemAt (items_of p c) m j → i.instr ≡ mips.Jr rs → j.instr ≡ mips.Jr rt → b ≡ c
  one_return b c f k m rs rt i j o q e g u v = same (returns_at b k rs i e u) (returns_at c m rt j g v)
    where
      returns_at : (b k rs : ℕ) (i : Item) → ItemAt (items_of p b) k i → i.instr ≡ mips.Jr rs → (x : Inner mid places b) × (is_return x.block.end ≡ true)
      returns_at b k rs i e u =
          let c : Holds p b i = placed (items_of p b) k i e in
          let s : BlockIs mid places p b = block_is mid places p d b (is_there mid places p d b i c) in
          let y : (k : Bool) × (s.close ≡ Return k) = says_return s.close i rs (says_of mid places p d b s i c) u in
          return_in b s y.0 y.1

      same : (x : Inner mid places b) × (is_return x.block.end ≡ true) → (y : Inner mid places c) × (is_return y.block.end ≡ true) → b ≡ c
      same (x, h) (y, l) =
          let fx : f ≡ x.n = only_of mid places p d x.n x.b f x.f x.is_function (slice_get_within x.f.blocks x.b x.block x.is_block) (in_two b (first_block mid x.n + x.b) x.number f o) in
          let fy : f ≡ y.n = only_of mid places p d y.n y.b f y.f y.is_function (slice_get_within y.f.blocks y.b y.block y.is_block) (in_two c (first_block mid y.n + y.b) y.number f q) in
          let n_same : y.n ≡ x.n = sym fy ∙ fx in
          let f_same : y.f ≡ x.f = some_same y.f x.f (sym y.is_function ∙ (ap (λ (z : ℕ). slice_get mid.functions z) n_same ∙ x.is_function)) in
          let b_same : x.b ≡ y.b = only_one (λ (z : MidBlock). is_return z.end) x.f.blocks x.b y.b x.block y.block (valid x.n x.f x.is_function).one_return x.is_block h (subst (λ (z : MidFunction). slice_get z.blocks y.b ≡ Some y.block) f_same y.is_block) l in
          x.number ∙ (ap (λ (z : ℕ). first_block mid x.n + z) b_same ∙ (ap (λ (z : ℕ). first_block mid z + y.b) (sym n_same) ∙ sym y.number))

  -- the blocks that may follow are the successors
  iff_here : (b c : ℕ) (y : HardBlock) → slice_get p.blocks b ≡ Some y → Contains y.successors c ↔ MayFollow p b c
  iff_here b c y e = by s.kind
    where
      s : BlockIs mid places p b
      s = block_is mid places p d b (slice_get_within p.blocks b y e)

      first_follow : s.close ≡ Call 0 → Follow p b s.close c → Contains (first_block mid 0 ∷ []) c
      first_follow q (by_jump h) = absurd (no (sym q ∙ h))
        where
          no : Call 0 ≡ Jump c → ⊥
          no e = cc
      first_follow q (by_branch k r u h) = absurd (no (sym q ∙ h))
        where
          no : Call 0 ≡ Branch k r u c → ⊥
          no e = cc
      first_follow q (falls k r u t h g) = absurd (no (sym q ∙ h))
        where
          no : Call 0 ≡ Branch k r u t → ⊥
          no e = cc
      first_follow q (by_call f h k) = subst (λ (m : ℕ). Contains (first_block mid 0 ∷ []) m) (ap (λ (m : ℕ). first_block mid m) (call_to 0 f (sym q ∙ h)) ∙ sym (entry_is mid places p d f c k).1) (head_in (first_block mid 0) [])
      first_follow q (by_return k f caller h o i j) = absurd (no (sym q ∙ h))
        where
          no : Call 0 ≡ Return k → ⊥
          no e = cc

      exit_follow : s.close ≡ Exit false → Follow p b s.close c → Contains {X = ℕ} [] c
      exit_follow q (by_jump h) = absurd (no (sym q ∙ h))
        where
          no : Exit false ≡ Jump c → ⊥
          no e = cc
      exit_follow q (by_branch k r u h) = absurd (no (sym q ∙ h))
        where
          no : Exit false ≡ Branch k r u c → ⊥
          no e = cc
      exit_follow q (falls k r u t h g) = absurd (no (sym q ∙ h))
        where
          no : Exit false ≡ Branch k r u t → ⊥
          no e = cc
      exit_follow q (by_call f h k) = absurd (no (sym q ∙ h))
        where
          no : Exit false ≡ Call f → ⊥
          no e = cc
      exit_follow q (by_return k f caller h o i j) = absurd (no (sym q ∙ h))
        where
          no : Exit false ≡ Return k → ⊥
          no e = cc

      by : Kind mid places b s.close → Contains y.successors c ↔ MayFollow p b c
      by (is_first z q) =
          let is : y.successors ≡ first_block mid 0 ∷ [] = w.first y (sym (ap (λ (m : ℕ). slice_get p.blocks m) z) ∙ e) in (
            (λ h. subst (λ (m : ℕ). MayFollow p b m) (sym (in_one (first_block mid 0) c (subst (λ (l : List ℕ). Contains l c) is h)))
                (subst (λ (m : ℕ). MayFollow p m (first_block mid 0)) (sym z) (called 0 (first_block mid 0) (first_calls mid places p d) (entry_at mid places p d 0 main_there)))),
            (λ h. subst (λ (l : List ℕ). Contains l c) (sym is) (first_follow q (follow mid places p d b c s h))),
          )
      by (is_exit z q) =
          let is : y.successors ≡ [] = w.exit y (sym (ap (λ (m : ℕ). slice_get p.blocks m) z) ∙ e) in
          ((λ h. absurd (in_none c (subst (λ (l : List ℕ). Contains l c) is h))), (λ h. subst (λ (l : List ℕ). Contains l c) (sym is) (exit_follow q (follow mid places p d b c s h))))
      by (is_inner i q) =
          let is : y.successors ≡ successors mid i.n i.b i.block.end = w.block i.n i.b i.f i.block y i.is_function i.is_block (sym (ap (λ (m : ℕ). slice_get p.blocks m) i.number) ∙ e) in (
            (λ h. subst (λ (m : ℕ). MayFollow p m c) (sym i.number) (inner_ways mid places p d i.n i.b c i.f i.block i.block.end i.is_function i.is_block refl (subst (λ (l : List ℕ). Contains l c) is h))),
            (λ h. subst (λ (l : List ℕ). Contains l c) (sym is) (inner_follow mid places p d i.n i.b c i.f i.at i.block.end s.close i.is_function (slice_get_within i.f.blocks i.b i.block i.is_block) q
                (subst (λ (m : ℕ). Follow p m s.close c) i.number (follow mid places p d b c s h)))),
          )

  ascend_here : (b : ℕ) (y : HardBlock) → slice_get p.blocks b ≡ Some y → Ascends 0 y.successors
  ascend_here b y e = by (block_is mid places p d b (slice_get_within p.blocks b y e)).kind
    where
      positive : (n b : ℕ) → 0 < 2 + n + b
      positive n b = omega arith

      positive_next : (n b : ℕ) → 0 < 2 + n + b + 1
      positive_next n b = omega arith

      positive_one : (n : ℕ) → 0 < 2 + n
      positive_one n = omega arith

      main : (n : ℕ) → Ascends 0 (returns_to mid n)
      main n = elim (Rattle.std.specs.Prelude.nat_eq n 0) as (λ z. Ascends 0 ((Rattle.std.specs.Prelude.if◌then◌else◌ z (1 ∷ []) []) ++ behind_calls n 2 (all_blocks mid.functions))) [
        | true ↦ (Rattle.std.proofs.Common.zero-lt-suc 0, ascends_lower 1 2 (behind_calls n 2 (all_blocks mid.functions)) (omega arith) (behind_ascends n 2 (all_blocks mid.functions)))
        | false ↦ ascends_lower 0 2 (behind_calls n 2 (all_blocks mid.functions)) zero-le (behind_ascends n 2 (all_blocks mid.functions))
      ]

      by_end : (n b : ℕ) (e : MidEnd) → Ascends 0 (successors mid n b e)
      by_end n b (line.Jump to) = (positive (before mid.functions n) to, tt)
      by_end n b (line.Branch v u to) = order_ascends (first_block mid n + to) (first_block mid n + b + 1) (positive (before mid.functions n) to) (positive_next (before mid.functions n) b)
      by_end n b (line.Call g args result) = (positive_one (before mid.functions g), tt)
      by_end n b (line.Return from) = main n

      by : {c : Close} → Kind mid places b c → Ascends 0 y.successors
      by (is_first z q) = subst (Ascends 0) (sym (w.first y (sym (ap (λ (m : ℕ). slice_get p.blocks m) z) ∙ e))) (positive_one (before mid.functions 0), tt)
      by (is_exit z q) = subst (Ascends 0) (sym (w.exit y (sym (ap (λ (m : ℕ). slice_get p.blocks m) z) ∙ e))) tt
      by (is_inner i q) = subst (Ascends 0) (sym (w.block i.n i.b i.f i.block y i.is_function i.is_block (sym (ap (λ (m : ℕ). slice_get p.blocks m) i.number) ∙ e))) (by_end i.n i.b i.block.end)

  above_none : (low : ℕ) (xs : List ℕ) → Ascends low xs → Contains xs 0 → ⊥
  above_none low [] h c = in_none 0 c
  above_none low (x ∷ xs) h c = ⊎_elim (λ e. not_below low x h.0 e) (λ k. above_none x xs h.1 k) (in_cons x 0 xs c)
    where
      not_below : (a b : ℕ) → a < b → 0 ≡ b → ⊥
      not_below a b h e = omega arith

  first_not_entered : (b : ℕ) → MayFollow p b 0 → ⊥
  first_not_entered b m = there' (held 0 m)
    where
      there' : b < length p.blocks → ⊥
      there' l = let t : (y : HardBlock) × (slice_get p.blocks b ≡ Some y) = there p.blocks b l in above_none 0 t.0.successors (ascend_here b t.0 t.1) ((iff_here b 0 t.0 t.1).1 m)

      held : (y : ℕ) → MayFollow p b y → b < length p.blocks
      held _ (jumped c t i h e f) = is_there mid places p d b i h
      held _ (branched_eq c rs rt imm i h e f) = is_there mid places p d b i h
      held _ (branched_ne c rs rt imm i h e f) = is_there mid places p d b i h
      held _ (fallen_eq c rs rt imm i h e f) = is_there mid places p d b i h
      held _ (fallen_ne c rs rt imm i h e f) = is_there mid places p d b i h
      held _ (called f c h e) = is_there mid places p d b h.item h.holds
      held _ (returned f caller rs i h e o c) = is_there mid places p d b i h

  entered : (c : ℕ) → 0 < c → c < length p.blocks → IsEntered p c
  entered c z l = by (block_is mid places p d c l).kind
    where
      not_first : (c : ℕ) → 0 < c → c ≡ 0 → ⊥
      not_first c h e = omega arith

      to_entry : (n : ℕ) → n < length mid.functions → IsEntered p (first_block mid n)
      to_entry zero h = inl (0, called 0 (first_block mid 0) (first_calls mid places p d) (entry_at mid places p d 0 h))
      to_entry (suc n) h = ⊎_elim (λ e. absurd (not_first (first_block mid (suc n)) (positive (before mid.functions (suc n))) e)) (λ k. inl (k.0, called (suc n) (first_block mid (suc n)) k.1 (entry_at mid places p d (suc n) h))) (each_called (suc n) (first_block mid (suc n)) (entry_at mid places p d (suc n) h))
        where
          positive : (n : ℕ) → 0 < 2 + n
          positive n = omega arith

      has_target : (n k to : ℕ) (f : MidFunction) (x : MidBlock) (e : MidEnd) → slice_get mid.functions n ≡ Some f → slice_get f.blocks k ≡ Some x → x.end ≡ e → target e ≡ Some to → MayFollow p (first_block mid n + k) (first_block mid n + to)
      has_target n k to f x (line.Jump t) e g h q = inner_ways mid places p d n k (first_block mid n + to) f x (line.Jump t) e g h (subst (λ (m : ℕ). Contains ((first_block mid n + t) ∷ []) (first_block mid n + m)) (some_same t to q) (head_in (first_block mid n + t) []))
      has_target n k to f x (line.Branch v u t) e g h q = inner_ways mid places p d n k (first_block mid n + to) f x (line.Branch v u t) e g h (subst (λ (m : ℕ). Contains (in_order (first_block mid n + t) (first_block mid n + k + 1)) (first_block mid n + m)) (some_same t to q) (order_has_first (first_block mid n + t) (first_block mid n + k + 1)))
      has_target n k to f x (line.Call a args result) e g h q = absurd (none_is to q)
      has_target n k to f x (line.Return from) e g h q = absurd (none_is to q)

      from_before : (n k : ℕ) (f : MidFunction) (x : MidBlock) (e : MidEnd) → slice_get mid.functions n ≡ Some f → slice_get f.blocks k ≡ Some x → x.end ≡ e → falls_on e ≡ true → IsEntered p (first_block mid n + k + 1)
      from_before n k f x (line.Jump t) e g h q = absurd (Rattle.double_law.proofs.Numbers.no_true (sym q))
      from_before n k f x (line.Branch v u t) e g h q = inl (first_block mid n + k, inner_ways mid places p d n k (first_block mid n + k + 1) f x (line.Branch v u t) e g h (order_has_second (first_block mid n + t) (first_block mid n + k + 1)))
      from_before n k f x (line.Call a args result) e g h q = inr (first_block mid n + k, a, refl, block_calls mid places p d n k f x a args result e g h)
      from_before n k f x (line.Return from) e g h q = absurd (Rattle.double_law.proofs.Numbers.no_true (sym q))

      in_it : (n b : ℕ) (f : MidFunction) → slice_get mid.functions n ≡ Some f → b < length f.blocks → IsEntered p (first_block mid n + b)
      in_it n zero f e h = subst (IsEntered p) (sym (Rattle.std.proofs.Common.add-zero (first_block mid n))) (to_entry n (slice_get_within mid.functions n f e))
      in_it n (suc b) f e h = ⊎_elim
          (λ t. let x : (k : ℕ) × (y : MidBlock) × (slice_get f.blocks k ≡ Some y) × (target y.end ≡ Some (suc b)) = any_at (λ y. target y.end ≡ Some (suc b)) f.blocks t in
          inl (first_block mid n + x.0, has_target n x.0 (suc b) f x.1 x.1.end e x.2 refl x.3))
          (λ t. let x : (y : MidBlock) × (slice_get f.blocks t.0 ≡ Some y) × (y.end ≡ t.1) = t.2 in
          subst (IsEntered p) (next (first_block mid n) t.0 b t.4) (from_before n t.0 f x.0 t.1 e x.1 x.2 t.3))
          ((valid n f e).each_entered (suc b) (Rattle.std.proofs.Common.zero-lt-suc b) h)
        where
          next : (a k b : ℕ) → suc b ≡ k + 1 → a + k + 1 ≡ a + suc b
          next a k b e = omega arith

      by : {k : Close} → Kind mid places c k → IsEntered p c
      by (is_first e q) = absurd (not_first c z e)
      by (is_exit e q) = inr (0, 0, e, first_calls mid places p d)
      by (is_inner i q) = subst (IsEntered p) (sym i.number) (in_it i.n i.b i.f i.is_function (slice_get_within i.f.blocks i.b i.block i.is_block))

  -- ---- memory

  main_pairs : 1 ≤ mid.chain_pairs
  main_pairs =
      let m : (main : MidFunction) × (slice_get mid.functions 0 ≡ Some main) × (main.params ≡ 0) = d.valid.main_fits in
      let vm : ValidFunction m.0 = valid 0 m.0 m.1 in
      some_pairs m.0.variables m.0.pairs mid.chain_pairs vm.variables_fit (subst (λ (n : ℕ). n ≤ mid.chain_pairs) (sum_cons (pairs_of (slice_get mid.functions 0)) [] ∙ (Rattle.std.proofs.Common.add-zero (pairs_of (slice_get mid.functions 0)) ∙ ap (λ (o : Option MidFunction). pairs_of o) m.1)) (d.shallow [] 0 no_words))
    where
      some_pairs : (v q c : ℕ) → v < q → q ≤ c → 1 ≤ c
      some_pairs v q c h k = omega arith

      no_words : AreWords []
      no_words k x h = absurd (Rattle.std.proofs.Common.not-suc-le-zero h)

  -- ---- the whole

  pub well_formed : WellFormed p
  well_formed = record {
    has_block = some (sum (map (λ (g : MidFunction). length g.blocks) mid.functions)) (length p.blocks) d.emitted.blocks_long;
    few_blocks = few_blocks mid (length p.blocks) d.valid d.emitted.blocks_long;
    initial_fits = fits (length p.initial) (length (flat_map (λ words. words) mid.globals)) (global_cells mid) mid.chain_pairs p.memory_words (ap (λ (l : List ℕ). length l) d.emitted.initial ∙ twice (flat_map (λ words. words) mid.globals)) (flat_length mid.globals) d.emitted.memory;
    has_memory = has p.memory_words (global_cells mid) mid.chain_pairs d.emitted.memory main_pairs;
    memory_fits = small p.memory_words (global_cells mid) mid.chain_pairs d.emitted.memory d.valid.store_fits;
    in_range = everywhere (λ xs. All (λ i. IsInRange i.instr) xs) p nothing_in_range (λ b l. each_all (λ i. IsInRange i.instr) (items_of p b) (emits b l).in_range);
    fields_fit = by_items (λ i. FieldFits i.fix i.instr) (λ b s i h. field_fits s.close i h);
    named_there = by_items (λ i. NamesThere p i.fix) (λ b s i h. names_there b s i h);
    entries_there = each_all (λ e. e < length p.blocks) p.entries (each_of (λ e. e < length p.blocks) p.entries (λ e c. let z : (c.0 < length mid.functions) × (e ≡ first_block mid c.0) = entry_is mid places p d c.0 e (at_place p.entries e c.0 c.1 c.2) in subst (λ (m : ℕ). m < length p.blocks) (sym z.1) (entry_there c.0 z.0)));
    each_called = each_called;
    entries_differ = λ f g e x y. let a : (f < length mid.functions) × (e ≡ first_block mid f) = entry_is mid places p d f e x in let b : (g < length mid.functions) × (e ≡ first_block mid g) = entry_is mid places p d g e y in one_entry mid places p d f g a.0 b.0 (sym a.1 ∙ b.1);
    only_at_the_end = λ b k i e j. scan.only_at_the_end (items_of p b) (lines_of b) k i e j;
    skips_or_names = λ b k rs rt imm i e c f. scan.skips_or_names (items_of p b) (lines_of b) k rs rt imm i e c f;
    ends_well = λ b l. scan.ends_well (items_of p b) (formed b l);
    goes_on_behind_skips = λ b k s. scan.goes_on_behind_skips (items_of p b) (lines_of b) k s;
    branch_stays = branch_stays;
    one_return = one_return;
    call_goes_on = call_goes_on;
    each_entered = entered;
    first_not_entered = first_not_entered;
    successors_ascend = λ b k c e y h x z. ascends_at 0 y.successors k c e (ascend_here b y h) x z;
    successors_are = λ b c y e. iff_here b c y e;
  }
    where
      some : (s t : ℕ) → t ≡ 2 + s → 0 < t
      some s t e = omega arith

      fits : (i n g q m : ℕ) → i ≡ 2 * n → n ≡ g → m ≡ 2 * (g + q) → i ≤ m
      fits i n g q m e h k = omega arith

      has : (m g q : ℕ) → m ≡ 2 * (g + q) → 1 ≤ q → 1 ≤ m
      has m g q e h = omega arith

      small : (m g q : ℕ) → m ≡ 2 * (g + q) → g + q ≤ 32768 → m ≤ 4194304
      small m g q e h = omega arith

  halves : (b : ℕ) → HalvesPair (items_of p b) false
  halves = everywhere (λ xs. HalvesPair xs false) p refl (λ b l. (emits b l).halves)

  pub twin : Twin p
  twin = record {
    apart = record { well_formed = well_formed; formed = formed; halves = halves; halves_call = half_calls; lawful = runs.1.lawful };
    agrees = runs.1.agrees;
    never_reports = runs.1.never_reports;
  }
