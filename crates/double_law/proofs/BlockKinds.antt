-- Each block of a doubled program: how it closes, and which blocks may come behind it.
use Rattle.std.proofs.Common.{◌≡◌, ◌≤◌, ◌<◌, ℕ, zero, suc, ◌+◌, arith, ap, refl, sym, ◌∙◌, subst, List, [], ◌∷◌, Bool, true, false, inl, inr, length, map, sum, ⊎_elim}
use Rattle.std.specs.Prelude.{Option, Some, None, ◌⊎◌, ◌==◌, if◌then◌else◌, slice_get, Contains}
use Rattle.std.proofs.lemmas.Option.{slice_get_within, slice_get-get_or}
use Rattle.std.proofs.lemmas.Bool.{cases_lt}
use Rattle.mips_isa.specs.declared.instr.Instr.{Instr}
use Rattle.mips_isa.specs.declared.instr.Instr.TheVariants as mips
use Rattle.hard_items.specs.declared.code.Class.TheVariants as class
use Rattle.hard_items.specs.declared.code.Fix.{Fix}
use Rattle.hard_items.specs.declared.code.Fix.TheVariants as fix
use Rattle.hard_items.specs.declared.code.Item.{Item}
use Rattle.hard_items.specs.declared.code.HardBlock.{HardBlock}
use Rattle.hard_items.specs.declared.code.HardProgram.{HardProgram}
use Rattle.hard_items.specs.Streams.{plain}
use Rattle.hard_items.specs.Run.{items_of, block_items}
use Rattle.hard_items.specs.Ways.{Holds, CallsFunction, IsOfFunction, MayFollow, jumped, branched_eq, branched_ne, fallen_eq, fallen_ne, called, returned}
use Rattle.hard_items.specs.Forms.{Form, Close, Jump, Branch, Call, Return, Exit, block_of, going}
use Rattle.hard_items.specs.Keeping.{leaps}
use Rattle.mid_blocks.specs.declared.code.MidEnd.{MidEnd}
use Rattle.mid_blocks.specs.declared.code.MidEnd.TheVariants as line
use Rattle.mid_blocks.specs.declared.code.MidBlock.{MidBlock}
use Rattle.mid_blocks.specs.declared.code.MidFunction.{MidFunction}
use Rattle.mid_blocks.specs.declared.code.Mid.{Mid}
use Rattle.mid_blocks.specs.declared.places.Places.{Places}
use Rattle.mid_blocks.specs.Liveness.{PlacesFit}
use Rattle.mid_blocks.specs.Valid.{ValidFunction}
use Rattle.double_law.specs.Program.{first_block}
use Rattle.double_law.specs.Law.{Doubles}
use Rattle.double_law.proofs.Wiring.{all_at}
use Rattle.double_law.proofs.Formed.{MadeBlock, close_of, made_exit}
use Rattle.double_law.proofs.Blocks.{Found, find, block_made, first_made}
use Rattle.double_law.specs.Ways.{successors, returns_to, calls, all_blocks, behind_calls, in_order}
use Rattle.double_law.proofs.Says.{Says, stays, jumps, branches_ne, branches_eq, calls as says_calls, returns, block_says, each_at, jump_in, call_in, return_in, branch_ne_in, branch_eq_in}
use Rattle.double_law.proofs.Numbers.{some_same, no_true, before, before_past, block_at, Located, located, CallsAt, behind_from, behind_has, call_of, calls_it, head_in, in_none, in_one, in_append, in_right, in_order_in, order_has_first, order_has_second}

-- ---- what an item says

pub says_call : (c : Close) (i : Item) (t f : ℕ) → Says c i → i.instr ≡ mips.Jal t → i.fix ≡ fix.Function f → c ≡ Call f
says_call c i t f (stays l w h) e g = absurd (no_true (sym (ap (λ (x : Instr). leaps x) e) ∙ l))
says_call c i t f (jumps n q r) e g = absurd (no (ap (λ (x : Item). x.instr) (sym r) ∙ e))
  where
    no : mips.J 0 ≡ mips.Jal t → ⊥
    no e = cc
says_call c i t f (branches_ne k n m q r) e g = absurd (no (ap (λ (x : Item). x.instr) (sym r) ∙ e))
  where
    no : mips.Bne n 0 0 ≡ mips.Jal t → ⊥
    no e = cc
says_call c i t f (branches_eq k n m q r) e g = absurd (no (ap (λ (x : Item). x.instr) (sym r) ∙ e))
  where
    no : mips.Beq n 0 0 ≡ mips.Jal t → ⊥
    no e = cc
says_call c i t f (says_calls n q r) e g = q ∙ ap (λ (m : ℕ). Call m) (same (ap (λ (x : Item). x.fix) (sym r) ∙ g))
  where
    same : fix.Function n ≡ fix.Function f → n ≡ f
    same e = cc
says_call c i t f (returns k q r) e g = absurd (no (ap (λ (x : Item). x.instr) (sym r) ∙ e))
  where
    no : mips.Jr 31 ≡ mips.Jal t → ⊥
    no e = cc

pub says_jump : (c : Close) (i : Item) (t b : ℕ) → Says c i → i.instr ≡ mips.J t → i.fix ≡ fix.Block b → c ≡ Jump b
says_jump c i t b (stays l w h) e g = absurd (no_true (sym (ap (λ (x : Instr). leaps x) e) ∙ l))
says_jump c i t b (jumps n q r) e g = q ∙ ap (λ (m : ℕ). Jump m) (same (ap (λ (x : Item). x.fix) (sym r) ∙ g))
  where
    same : fix.Block n ≡ fix.Block b → n ≡ b
    same e = cc
says_jump c i t b (branches_ne k n m q r) e g = absurd (no (ap (λ (x : Item). x.instr) (sym r) ∙ e))
  where
    no : mips.Bne n 0 0 ≡ mips.J t → ⊥
    no e = cc
says_jump c i t b (branches_eq k n m q r) e g = absurd (no (ap (λ (x : Item). x.instr) (sym r) ∙ e))
  where
    no : mips.Beq n 0 0 ≡ mips.J t → ⊥
    no e = cc
says_jump c i t b (says_calls n q r) e g = absurd (no (ap (λ (x : Item). x.instr) (sym r) ∙ e))
  where
    no : mips.Jal 0 ≡ mips.J t → ⊥
    no e = cc
says_jump c i t b (returns k q r) e g = absurd (no (ap (λ (x : Item). x.instr) (sym r) ∙ e))
  where
    no : mips.Jr 31 ≡ mips.J t → ⊥
    no e = cc

pub says_return : (c : Close) (i : Item) (s : ℕ) → Says c i → i.instr ≡ mips.Jr s → (k : Bool) × (c ≡ Return k)
says_return c i s (stays l w h) e = absurd (no_true (sym (ap (λ (x : Instr). leaps x) e) ∙ l))
says_return c i s (jumps n q r) e = absurd (no (ap (λ (x : Item). x.instr) (sym r) ∙ e))
  where
    no : mips.J 0 ≡ mips.Jr s → ⊥
    no e = cc
says_return c i s (branches_ne k n m q r) e = absurd (no (ap (λ (x : Item). x.instr) (sym r) ∙ e))
  where
    no : mips.Bne n 0 0 ≡ mips.Jr s → ⊥
    no e = cc
says_return c i s (branches_eq k n m q r) e = absurd (no (ap (λ (x : Item). x.instr) (sym r) ∙ e))
  where
    no : mips.Beq n 0 0 ≡ mips.Jr s → ⊥
    no e = cc
says_return c i s (says_calls n q r) e = absurd (no (ap (λ (x : Item). x.instr) (sym r) ∙ e))
  where
    no : mips.Jal 0 ≡ mips.Jr s → ⊥
    no e = cc
says_return c i s (returns k q r) e = (k, q)

no_way_block : (f : Fix) (b : ℕ) → f ≡ fix.Block b → Rattle.double_law.proofs.Says.NoWay f → ⊥
no_way_block f b e h = subst Rattle.double_law.proofs.Says.NoWay e h

abbrev pub IsBranch : Instr → Type 0
IsBranch x = (rs : ℕ) × (rt : ℕ) × (imm : ℕ) × ((x ≡ mips.Beq rs rt imm) ⊎ (x ≡ mips.Bne rs rt imm))

not_branch : (x : Instr) → leaps x ≡ true → IsBranch x → ⊥
not_branch x h (rs, rt, imm, inl e) = no_true (sym h ∙ ap (λ (z : Instr). leaps z) e)
not_branch x h (rs, rt, imm, inr e) = no_true (sym h ∙ ap (λ (z : Instr). leaps z) e)

block_same : (n b : ℕ) → fix.Block n ≡ fix.Block b → n ≡ b
block_same n b e = cc

pub says_branch : (c : Close) (i : Item) (b : ℕ) → Says c i → IsBranch i.instr → i.fix ≡ fix.Block b → (k : Bool) × (r : ℕ) × (w : Bool) × (c ≡ Branch k r w b)
says_branch c i b (stays l w h) e g = absurd (no_way_block i.fix b g w)
says_branch c i b (jumps n q r) e g = absurd (not_branch i.instr (ap (λ (x : Item). leaps x.instr) r) e)
says_branch c i b (branches_ne k n m q r) e g = (k, n, true, q ∙ ap (λ (z : ℕ). Branch k n true z) (block_same m b (ap (λ (x : Item). x.fix) (sym r) ∙ g)))
says_branch c i b (branches_eq k n m q r) e g = (k, n, false, q ∙ ap (λ (z : ℕ). Branch k n false z) (block_same m b (ap (λ (x : Item). x.fix) (sym r) ∙ g)))
says_branch c i b (says_calls n q r) e g = absurd (not_branch i.instr (ap (λ (x : Item). leaps x.instr) r) e)
says_branch c i b (returns k q r) e g = absurd (not_branch i.instr (ap (λ (x : Item). leaps x.instr) r) e)

-- ---- kinds of blocks

-- A block of a function.
pub record Inner (mid : Mid) (places : List Places) (x : ℕ) : Type 0 where
  pub n : ℕ
  pub b : ℕ
  pub f : MidFunction
  pub at : Places
  pub block : MidBlock
  pub is_function : slice_get mid.functions n ≡ Some f
  pub has_places : slice_get places n ≡ Some at
  pub fit : PlacesFit f at
  pub is_block : slice_get f.blocks b ≡ Some block
  pub number : x ≡ first_block mid n + b

-- Which block it is, and how it closes.
pub data Kind (mid : Mid) (places : List Places) (x : ℕ) (c : Close) : Type 0 where
  is_first : x ≡ 0 → c ≡ Call 0 → Kind mid places x c
  is_exit : x ≡ 1 → c ≡ Exit false → Kind mid places x c
  is_inner : (i : Inner mid places x) → c ≡ close_of (first_block mid i.n) i.at i.block.end → Kind mid places x c

pub record BlockIs (mid : Mid) (places : List Places) (p : HardProgram) (x : ℕ) : Type 0 where
  pub close : Close
  pub kind : Kind mid places x close
  pub made : MadeBlock (items_of p x) close

-- A way from a block, by how it closes.
pub data Follow (p : HardProgram) (x : ℕ) (c : Close) (y : ℕ) : Type 0 where
  by_jump : c ≡ Jump y → Follow p x c y
  by_branch : (k : Bool) (r : ℕ) (w : Bool) → c ≡ Branch k r w y → Follow p x c y
  falls : (k : Bool) (r : ℕ) (w : Bool) (t : ℕ) → c ≡ Branch k r w t → y ≡ x + 1 → Follow p x c y
  by_call : (f : ℕ) → c ≡ Call f → slice_get p.entries f ≡ Some y → Follow p x c y
  by_return : (k : Bool) (f caller : ℕ) → c ≡ Return k → IsOfFunction p x f → CallsFunction p caller f → y ≡ caller + 1 → Follow p x c y

module _ (mid : Mid) (places : List Places) (p : HardProgram) (d : Doubles mid places p) where
  pub valid_at : (n : ℕ) (f : MidFunction) → slice_get mid.functions n ≡ Some f → ValidFunction f
  valid_at n f e = all_at ValidFunction mid.functions n f d.valid.functions_valid e

  pub inner_of : (n b : ℕ) (f : MidFunction) (block : MidBlock) → slice_get mid.functions n ≡ Some f → slice_get f.blocks b ≡ Some block → Inner mid places (first_block mid n + b)
  inner_of n b f block e g = let a : (at : Places) × (slice_get places n ≡ Some at) × PlacesFit f at = d.fit n f e in
      record { n = n; b = b; f = f; at = a.0; block = block; is_function = e; has_places = a.1; fit = a.2; is_block = g; number = refl }

  inner_made : (x : ℕ) (i : Inner mid places x) → MadeBlock (items_of p x) (close_of (first_block mid i.n) i.at i.block.end)
  inner_made x i = subst (λ (xs : List Item). MadeBlock xs (close_of (first_block mid i.n) i.at i.block.end)) (sym (d.emitted.block i.n i.b i.f i.at i.block i.is_function i.has_places i.is_block) ∙ ap (λ (k : ℕ). items_of p k) (sym i.number))
      (block_made i.f i.at (valid_at i.n i.f i.is_function) i.fit mid i.n i.b i.block i.is_block)

  pub block_is : (x : ℕ) → x < length p.blocks → BlockIs mid places p x
  block_is zero h = record { close = Call 0; kind = is_first refl refl; made = subst (λ (xs : List Item). MadeBlock xs (Call 0)) (sym d.emitted.first) (first_made mid) }
  block_is (suc zero) h = record { close = Exit false; kind = is_exit refl refl; made = subst (λ (xs : List Item). MadeBlock xs (Exit false)) (sym d.emitted.exit) made_exit }
  block_is (suc (suc x)) h =
      let r : Found mid.functions x = find mid.functions x (less x (sum (map (λ (g : MidFunction). length g.blocks) mid.functions)) (subst (λ (k : ℕ). suc (suc x) < k) d.emitted.blocks_long h)) in
      let a : (at : Places) × (slice_get places r.n ≡ Some at) × PlacesFit r.f at = d.fit r.n r.f r.is_function in
      let i : Inner mid places (suc (suc x)) = record { n = r.n; b = r.b; f = r.f; at = a.0; block = r.block; is_function = r.is_function; has_places = a.1; fit = a.2; is_block = r.is_block; number = counted x (before mid.functions r.n) r.b r.counts } in
      record { close = close_of (first_block mid i.n) i.at i.block.end; kind = is_inner i refl; made = inner_made (suc (suc x)) i }
    where
      less : (x n : ℕ) → suc (suc x) < 2 + n → x < n
      less x n h = omega arith

      counted : (x s b : ℕ) → x ≡ s + b → suc (suc x) ≡ 2 + s + b
      counted x s b e = omega arith

  -- a block that holds an item is there
  pub is_there : (x : ℕ) (i : Item) → Holds p x i → x < length p.blocks
  is_there x i h = by (slice_get p.blocks x) refl
    where
      by : (o : Option HardBlock) → slice_get p.blocks x ≡ o → x < length p.blocks
      by None e = absurd (in_none i (subst (λ (z : Option HardBlock). Contains (block_items z) i) e h))
      by (Some y) e = slice_get_within p.blocks x y e

  pub says_of : (x : ℕ) (s : BlockIs mid places p x) (i : Item) → Holds p x i → Says s.close i
  says_of x s i h = each_at (Says s.close) (block_of s.made.forms s.close) i (block_says s.made.forms s.close s.made.fit) (subst (λ (xs : List Item). Contains xs i) s.made.is h)

  pub holds_of : (x : ℕ) (c : Close) (m : MadeBlock (items_of p x) c) (i : Item) → ((fs : List Form) → Contains (block_of fs c) i) → Holds p x i
  holds_of x c m i h = subst (λ (xs : List Item). Contains xs i) (sym m.is) (h m.forms)

  -- ---- functions

  pub entry_at : (n : ℕ) → n < length mid.functions → slice_get p.entries n ≡ Some (first_block mid n)
  entry_at n h = slice_get-get_or p.entries n 0 (subst (λ (m : ℕ). n < m) (sym d.emitted.entries_long) h) ∙ ap (λ (k : ℕ). Some k) (d.emitted.entries n h)

  pub entry_is : (n e : ℕ) → slice_get p.entries n ≡ Some e → (n < length mid.functions) × (e ≡ first_block mid n)
  entry_is n e h = let l : n < length mid.functions = subst (λ (m : ℕ). n < m) d.emitted.entries_long (slice_get_within p.entries n e h) in (l, some_same e (first_block mid n) (sym h ∙ entry_at n l))

  two_more : (a b l : ℕ) → a + l ≤ b → 2 + a + l ≤ 2 + b
  two_more a b l h = omega arith

  -- the entries ascend, with the blocks of a function between
  pub past : (n m : ℕ) (f : MidFunction) → slice_get mid.functions n ≡ Some f → n < m → first_block mid n + length f.blocks ≤ first_block mid m
  past n m f e h = two_more (before mid.functions n) (before mid.functions m) (length f.blocks) (before_past mid.functions n m f e h)

  ascends : (n m : ℕ) → n < length mid.functions → n < m → first_block mid n < first_block mid m
  ascends n m l h = let t : (f : MidFunction) × (slice_get mid.functions n ≡ Some f) = Rattle.double_law.proofs.Wiring.there mid.functions n l in
      more (first_block mid n) (length t.0.blocks) (first_block mid m) (valid_at n t.0 t.1).has_block (past n m t.0 t.1 h)
    where
      more : (a l b : ℕ) → 0 < l → a + l ≤ b → a < b
      more a l b h k = omega arith

  pub one_entry : (n m : ℕ) → n < length mid.functions → m < length mid.functions → first_block mid n ≡ first_block mid m → n ≡ m
  one_entry n m h k e = ⊎_elim (λ l. absurd (apart (first_block mid n) (first_block mid m) (ascends n m h l) e)) (λ l. ⊎_elim (λ g. absurd (apart (first_block mid m) (first_block mid n) (ascends m n k g) (sym e))) (λ g. same n m l g) (cases_lt m n)) (cases_lt n m)
    where
      apart : (a b : ℕ) → a < b → a ≡ b → ⊥
      apart a b h e = omega arith

      same : (n m : ℕ) → m ≤ n → n ≤ m → n ≡ m
      same n m h k = omega arith

  -- a block of a function is of that function, and of no other
  pub of_function : (n b : ℕ) (f : MidFunction) → slice_get mid.functions n ≡ Some f → b < length f.blocks → IsOfFunction p (first_block mid n + b) n
  of_function n b f e h =
      let within : n < length mid.functions = slice_get_within mid.functions n f e in
      record {
        entry = first_block mid n;
        is_entry = entry_at n within;
        not_above = right (first_block mid n) b;
        greatest = λ g other q l. let z : (g < length mid.functions) × (other ≡ first_block mid g) = entry_is g other q in
            ⊎_elim (λ k. absurd (too_far (first_block mid n) (first_block mid g) b (length f.blocks) other h z.1 l (past n g f e k)))
            (λ k. ⊎_elim (λ j. under (first_block mid g) (first_block mid n) other z.1 (ascends g n z.0 j)) (λ j. equal (first_block mid g) (first_block mid n) other z.1 (ap (λ (m : ℕ). first_block mid m) (same g n j k))) (cases_lt g n)) (cases_lt n g);
      }
    where
      right : (m k : ℕ) → m ≤ m + k
      right m k = omega arith

      too_far : (m g b k o : ℕ) → b < k → o ≡ g → o ≤ m + b → m + k ≤ g → ⊥
      too_far m g b k o h e l q = omega arith

      under : (g m o : ℕ) → o ≡ g → g < m → o ≤ m
      under g m o e h = omega arith

      equal : (g m o : ℕ) → o ≡ g → g ≡ m → o ≤ m
      equal g m o e h = omega arith

      same : (n m : ℕ) → m ≤ n → n ≤ m → n ≡ m
      same n m h k = omega arith

  pub only_of : (n b g : ℕ) (f : MidFunction) → slice_get mid.functions n ≡ Some f → b < length f.blocks → IsOfFunction p (first_block mid n + b) g → g ≡ n
  unfolding of_function
  only_of n b g f e h o =
      let mine : IsOfFunction p (first_block mid n + b) n = of_function n b f e h in
      let z : (g < length mid.functions) × (o.entry ≡ first_block mid g) = entry_is g o.entry o.is_entry in
      one_entry g n z.0 (slice_get_within mid.functions n f e) (equal (first_block mid g) (first_block mid n) o.entry z.1 (mine.greatest g o.entry o.is_entry o.not_above) (o.greatest n (first_block mid n) mine.is_entry mine.not_above))
    where
      equal : (g n e : ℕ) → e ≡ g → e ≤ n → n ≤ e → g ≡ n
      equal g n e h k l = omega arith

  -- ---- calls

  pub calls_by : (x f : ℕ) (m : MadeBlock (items_of p x) (Call f)) → CallsFunction p x f
  calls_by x f m = record { item = going (mips.Jal 0) (fix.Function f); target = 0; holds = holds_of x (Call f) m (going (mips.Jal 0) (fix.Function f)) (λ fs. call_in fs f); jumps = refl; names = refl }

  pub block_calls : (n b : ℕ) (f : MidFunction) (block : MidBlock) (g : ℕ) (args : List ℕ) (result : Option ℕ) → slice_get mid.functions n ≡ Some f → slice_get f.blocks b ≡ Some block → block.end ≡ line.Call g args result → CallsFunction p (first_block mid n + b) g
  unfolding inner_of
  block_calls n b f block g args result e h k = let i : Inner mid places (first_block mid n + b) = inner_of n b f block e h in
      calls_by (first_block mid n + b) g (subst (λ (z : MidEnd). MadeBlock (items_of p (first_block mid n + b)) (close_of (first_block mid n) i.at z)) k (inner_made (first_block mid n + b) i))

  pub first_calls : CallsFunction p 0 0
  first_calls = calls_by 0 0 (subst (λ (xs : List Item). MadeBlock xs (Call 0)) (sym d.emitted.first) (first_made mid))

  -- the block that calls a function
  pub caller_close : (x f : ℕ) → CallsFunction p x f → (s : BlockIs mid places p x) × (s.close ≡ Call f)
  caller_close x f c = let s : BlockIs mid places p x = block_is x (is_there x c.item c.holds) in (s, says_call s.close c.item c.target f (says_of x s c.item c.holds) c.jumps c.names)

  -- ---- ways

  pub follow : (x y : ℕ) (s : BlockIs mid places p x) → MayFollow p x y → Follow p x s.close y
  follow x _ s (jumped c target i h e f) = by_jump (says_jump s.close i target c (says_of x s i h) e f)
  follow x _ s (branched_eq c rs rt imm i h e f) = let z : (k : Bool) × (r : ℕ) × (w : Bool) × (s.close ≡ Branch k r w c) = says_branch s.close i c (says_of x s i h) (rs, rt, imm, inl e) f in by_branch z.0 z.1 z.2 z.3
  follow x _ s (branched_ne c rs rt imm i h e f) = let z : (k : Bool) × (r : ℕ) × (w : Bool) × (s.close ≡ Branch k r w c) = says_branch s.close i c (says_of x s i h) (rs, rt, imm, inr e) f in by_branch z.0 z.1 z.2 z.3
  follow x _ s (fallen_eq c rs rt imm i h e f) = let z : (k : Bool) × (r : ℕ) × (w : Bool) × (s.close ≡ Branch k r w c) = says_branch s.close i c (says_of x s i h) (rs, rt, imm, inl e) f in falls z.0 z.1 z.2 c z.3 refl
  follow x _ s (fallen_ne c rs rt imm i h e f) = let z : (k : Bool) × (r : ℕ) × (w : Bool) × (s.close ≡ Branch k r w c) = says_branch s.close i c (says_of x s i h) (rs, rt, imm, inr e) f in falls z.0 z.1 z.2 c z.3 refl
  follow x _ s (called f c h e) = by_call f (says_call s.close h.item h.target f (says_of x s h.item h.holds) h.jumps h.names) e
  follow x _ s (returned f caller rs i h e o c) = let z : (k : Bool) × (s.close ≡ Return k) = says_return s.close i rs (says_of x s i h) e in by_return z.0 f caller z.1 o c refl

  -- the blocks behind those that call a function are those to which it returns
  returned_in : (n caller : ℕ) → CallsFunction p caller n → Contains (returns_to mid n) (caller + 1)
  returned_in n caller c = let z : (s : BlockIs mid places p caller) × (s.close ≡ Call n) = caller_close caller n c in by z.0.kind z.1
    where
      close_call : (a b : ℕ) → Call a ≡ Call b → a ≡ b
      close_call a b e = cc

      exit_no : Exit false ≡ Call n → ⊥
      exit_no e = cc

      by_end : (first : ℕ) (at : Places) (e : MidEnd) → close_of first at e ≡ Call n → calls n e ≡ true
      by_end first at (line.Jump to) h = absurd (no h)
        where
          no : Jump (first + to) ≡ Call n → ⊥
          no e = cc
      by_end first at (line.Branch v w to) h = absurd (no h)
        where
          no : close_of first at (line.Branch v w to) ≡ Call n → ⊥
          no e = cc
      by_end first at (line.Call g args result) h = calls_it n args result (line.Call g args result) (ap (λ (m : ℕ). line.Call m args result) (close_call g n h))
      by_end first at (line.Return from) h = absurd (no h)
        where
          no : Return false ≡ Call n → ⊥
          no e = cc

      by : {c : Close} → Kind mid places caller c → c ≡ Call n → Contains (returns_to mid n) (caller + 1)
      by (is_first x q) e = subst (λ (m : ℕ). Contains (returns_to mid m) (caller + 1)) (close_call 0 n (sym q ∙ e)) (subst (λ (m : ℕ). Contains (returns_to mid 0) (m + 1)) (sym x) (head_in 1 (behind_calls 0 2 (all_blocks mid.functions))))
      by (is_exit x q) e = absurd (exit_no (sym q ∙ e))
      by (is_inner i q) e = subst (λ (m : ℕ). Contains (returns_to mid n) (m + 1)) (sym i.number) (in_right (if n == 0 then 1 ∷ [] else []) (behind_calls n 2 (all_blocks mid.functions)) (first_block mid i.n + i.b + 1)
          (subst (λ (m : ℕ). Contains (behind_calls n 2 (all_blocks mid.functions)) m) (counted (before mid.functions i.n) i.b) (behind_has n 2 (all_blocks mid.functions) (before mid.functions i.n + i.b)
          (record { block = i.block; is_block = block_at mid.functions i.n i.b i.f i.block i.is_function i.is_block; test = by_end (first_block mid i.n) i.at i.block.end (sym q ∙ e) }))))
        where
          counted : (s b : ℕ) → 2 + (s + b) + 1 ≡ 2 + s + b + 1
          counted s b = omega arith

  returned_from : (n y : ℕ) → Contains (returns_to mid n) y → (caller : ℕ) × CallsFunction p caller n × (y ≡ caller + 1)
  returned_from n y h = ⊎_elim (main (n == 0) refl) later (in_append (if n == 0 then 1 ∷ [] else []) (behind_calls n 2 (all_blocks mid.functions)) y h)
    where
      is_zero : (m : ℕ) → (m == 0) ≡ true → 0 ≡ m
      is_zero m e = grind arith

      main : (z : Bool) → (n == 0) ≡ z → Contains (if z then 1 ∷ [] else []) y → (caller : ℕ) × CallsFunction p caller n × (y ≡ caller + 1)
      main true e c = (0, subst (λ (m : ℕ). CallsFunction p 0 m) (is_zero n e) first_calls, in_one 1 y c)
      main false e c = absurd (in_none y c)

      counted : (j s b y : ℕ) → j ≡ s + b → y ≡ 2 + j + 1 → y ≡ 2 + s + b + 1
      counted j s b y e h = omega arith

      later : Contains (behind_calls n 2 (all_blocks mid.functions)) y → (caller : ℕ) × CallsFunction p caller n × (y ≡ caller + 1)
      later c = let r : (j : ℕ) × CallsAt n (all_blocks mid.functions) j × (y ≡ 2 + j + 1) = behind_from n 2 (all_blocks mid.functions) y c in
          let l : Located mid.functions r.0 r.1.block = located mid.functions r.0 r.1.block r.1.is_block in
          let e : (args : List ℕ) × (result : Option ℕ) × (r.1.block.end ≡ line.Call n args result) = call_of n r.1.block.end r.1.test in
          (first_block mid l.n + l.b, block_calls l.n l.b l.f r.1.block n e.0 e.1 l.is_function l.is_block e.2, counted r.0 (before mid.functions l.n) l.b y l.number r.2)

  -- the blocks that may follow a block of a function are its successors
  pub inner_follow : (n b y : ℕ) (f : MidFunction) (at : Places) (e : MidEnd) (c : Close) → slice_get mid.functions n ≡ Some f → b < length f.blocks → c ≡ close_of (first_block mid n) at e → Follow p (first_block mid n + b) c y → Contains (successors mid n b e) y
  inner_follow n b y f at (line.Jump to) c e l q (by_jump h) = subst (λ (m : ℕ). Contains ((first_block mid n + to) ∷ []) m) (same (sym q ∙ h)) (head_in (first_block mid n + to) [])
    where
      same : Jump (first_block mid n + to) ≡ Jump y → first_block mid n + to ≡ y
      same e = cc
  inner_follow n b y f at (line.Jump to) c e l q (by_branch k r w h) = absurd (no (sym q ∙ h))
    where
      no : Jump (first_block mid n + to) ≡ Branch k r w y → ⊥
      no e = cc
  inner_follow n b y f at (line.Jump to) c e l q (falls k r w t h g) = absurd (no (sym q ∙ h))
    where
      no : Jump (first_block mid n + to) ≡ Branch k r w t → ⊥
      no e = cc
  inner_follow n b y f at (line.Jump to) c e l q (by_call g h k) = absurd (no (sym q ∙ h))
    where
      no : Jump (first_block mid n + to) ≡ Call g → ⊥
      no e = cc
  inner_follow n b y f at (line.Jump to) c e l q (by_return k g m h o i j) = absurd (no (sym q ∙ h))
    where
      no : Jump (first_block mid n + to) ≡ Return k → ⊥
      no e = cc
  inner_follow n b y f at (line.Branch v w to) c e l q (by_jump h) = absurd (no (close_of (first_block mid n) at (line.Branch v w to)) refl (sym q ∙ h))
    where
      no : (z : Close) → z ≡ close_of (first_block mid n) at (line.Branch v w to) → z ≡ Jump y → ⊥
      no z e g = cc
  inner_follow n b y f at (line.Branch v w to) c e l q (by_branch k r u h) = subst (λ (m : ℕ). Contains (in_order (first_block mid n + to) (first_block mid n + b + 1)) m) (same (sym q ∙ h)) (order_has_first (first_block mid n + to) (first_block mid n + b + 1))
    where
      same : close_of (first_block mid n) at (line.Branch v w to) ≡ Branch k r u y → first_block mid n + to ≡ y
      same e = cc
  inner_follow n b y f at (line.Branch v w to) c e l q (falls k r u t h g) = subst (λ (m : ℕ). Contains (in_order (first_block mid n + to) (first_block mid n + b + 1)) m) (sym g) (order_has_second (first_block mid n + to) (first_block mid n + b + 1))
  inner_follow n b y f at (line.Branch v w to) c e l q (by_call g h k) = absurd (no (sym q ∙ h))
    where
      no : close_of (first_block mid n) at (line.Branch v w to) ≡ Call g → ⊥
      no e = cc
  inner_follow n b y f at (line.Branch v w to) c e l q (by_return k g m h o i j) = absurd (no (sym q ∙ h))
    where
      no : close_of (first_block mid n) at (line.Branch v w to) ≡ Return k → ⊥
      no e = cc
  inner_follow n b y f at (line.Call g args result) c e l q (by_jump h) = absurd (no (sym q ∙ h))
    where
      no : Call g ≡ Jump y → ⊥
      no e = cc
  inner_follow n b y f at (line.Call g args result) c e l q (by_branch k r u h) = absurd (no (sym q ∙ h))
    where
      no : Call g ≡ Branch k r u y → ⊥
      no e = cc
  inner_follow n b y f at (line.Call g args result) c e l q (falls k r u t h m) = absurd (no (sym q ∙ h))
    where
      no : Call g ≡ Branch k r u t → ⊥
      no e = cc
  inner_follow n b y f at (line.Call g args result) c e l q (by_call m h k) = subst (λ (z : ℕ). Contains (first_block mid g ∷ []) z) (ap (λ (z : ℕ). first_block mid z) (same (sym q ∙ h)) ∙ sym (entry_is m y k).1) (head_in (first_block mid g) [])
    where
      same : Call g ≡ Call m → g ≡ m
      same e = cc
  inner_follow n b y f at (line.Call g args result) c e l q (by_return k m z h o i j) = absurd (no (sym q ∙ h))
    where
      no : Call g ≡ Return k → ⊥
      no e = cc
  inner_follow n b y f at (line.Return from) c e l q (by_jump h) = absurd (no (sym q ∙ h))
    where
      no : Return false ≡ Jump y → ⊥
      no e = cc
  inner_follow n b y f at (line.Return from) c e l q (by_branch k r u h) = absurd (no (sym q ∙ h))
    where
      no : Return false ≡ Branch k r u y → ⊥
      no e = cc
  inner_follow n b y f at (line.Return from) c e l q (falls k r u t h m) = absurd (no (sym q ∙ h))
    where
      no : Return false ≡ Branch k r u t → ⊥
      no e = cc
  inner_follow n b y f at (line.Return from) c e l q (by_call m h k) = absurd (no (sym q ∙ h))
    where
      no : Return false ≡ Call m → ⊥
      no e = cc
  inner_follow n b y f at (line.Return from) c e l q (by_return k g caller h o i j) = subst (λ (m : ℕ). Contains (returns_to mid n) m) (sym j) (returned_in n caller (subst (λ (m : ℕ). CallsFunction p caller m) (only_of n b g f e l o) i))

  -- and its successors may follow it
  pub inner_ways : (n b y : ℕ) (f : MidFunction) (block : MidBlock) (e : MidEnd) → slice_get mid.functions n ≡ Some f → slice_get f.blocks b ≡ Some block → block.end ≡ e → Contains (successors mid n b e) y → MayFollow p (first_block mid n + b) y
  unfolding inner_of
  inner_ways n b y f block e g h k c = by e k c
    where
      i : Inner mid places (first_block mid n + b)
      i = inner_of n b f block g h

      x : ℕ
      x = first_block mid n + b

      made : MadeBlock (items_of p (first_block mid n + b)) (close_of (first_block mid n) i.at block.end)
      made = inner_made (first_block mid n + b) (inner_of n b f block g h)

      made_by : (e : MidEnd) → block.end ≡ e → MadeBlock (items_of p (first_block mid n + b)) (close_of (first_block mid n) i.at e)
      made_by e k = subst (λ (z : MidEnd). MadeBlock (items_of p (first_block mid n + b)) (close_of (first_block mid n) i.at z)) k made

      branch : (r t : ℕ) (w : Bool) → MadeBlock (items_of p (first_block mid n + b)) (Branch false r w t) → (y ≡ t) ⊎ (y ≡ first_block mid n + b + 1) → MayFollow p (first_block mid n + b) y
      branch r t true m (inl a) = subst (λ (z : ℕ). MayFollow p (first_block mid n + b) z) (sym a) (branched_ne t r 0 0 (going (mips.Bne r 0 0) (fix.Block t)) (holds_of (first_block mid n + b) (Branch false r true t) m (going (mips.Bne r 0 0) (fix.Block t)) (λ fs. branch_ne_in fs false r t)) refl refl)
      branch r t true m (inr a) = subst (λ (z : ℕ). MayFollow p (first_block mid n + b) z) (sym a) (fallen_ne t r 0 0 (going (mips.Bne r 0 0) (fix.Block t)) (holds_of (first_block mid n + b) (Branch false r true t) m (going (mips.Bne r 0 0) (fix.Block t)) (λ fs. branch_ne_in fs false r t)) refl refl)
      branch r t false m (inl a) = subst (λ (z : ℕ). MayFollow p (first_block mid n + b) z) (sym a) (branched_eq t r 0 0 (going (mips.Beq r 0 0) (fix.Block t)) (holds_of (first_block mid n + b) (Branch false r false t) m (going (mips.Beq r 0 0) (fix.Block t)) (λ fs. branch_eq_in fs false r t)) refl refl)
      branch r t false m (inr a) = subst (λ (z : ℕ). MayFollow p (first_block mid n + b) z) (sym a) (fallen_eq t r 0 0 (going (mips.Beq r 0 0) (fix.Block t)) (holds_of (first_block mid n + b) (Branch false r false t) m (going (mips.Beq r 0 0) (fix.Block t)) (λ fs. branch_eq_in fs false r t)) refl refl)

      by : (e : MidEnd) → block.end ≡ e → Contains (successors mid n b e) y → MayFollow p (first_block mid n + b) y
      by (line.Jump to) k c = subst (λ (z : ℕ). MayFollow p (first_block mid n + b) z) (sym (in_one (first_block mid n + to) y c))
          (jumped (first_block mid n + to) 0 (going (mips.J 0) (fix.Block (first_block mid n + to))) (holds_of (first_block mid n + b) (Jump (first_block mid n + to)) (made_by (line.Jump to) k) (going (mips.J 0) (fix.Block (first_block mid n + to))) (λ fs. jump_in fs (first_block mid n + to))) refl refl)
      by (line.Branch v w to) k c = branch (Rattle.double_law.specs.Roles.reg_in Rattle.double_law.specs.declared.roles.Stream.Stream.First (Rattle.double_law.specs.Emitted.source (Rattle.double_law.specs.Emitted.place_of i.at v) 0)) (first_block mid n + to) w (made_by (line.Branch v w to) k) (in_order_in (first_block mid n + to) (first_block mid n + b + 1) y c)
      by (line.Call g' args result) k c =
          let q : CallsFunction p (first_block mid n + b) g' = calls_by (first_block mid n + b) g' (made_by (line.Call g' args result) k) in
          subst (λ (z : ℕ). MayFollow p (first_block mid n + b) z) (sym (in_one (first_block mid g') y c)) (called g' (first_block mid g') q (entry_at g' (function_there g' args result k)))
        where
          function_there : (g' : ℕ) (args : List ℕ) (result : Option ℕ) → block.end ≡ line.Call g' args result → g' < length mid.functions
          function_there g' args result k = let z : (f' : MidFunction) × (slice_get mid.functions g' ≡ Some f') × (length args ≡ f'.params) = Rattle.double_law.proofs.Wiring.function_there mid places p d.valid d.emitted d.fit g' f b (length block.steps) n args result g (record { block = block; is_block = h; is_last = refl; is_end = k }) in
              slice_get_within mid.functions g' z.0 z.1
      by (line.Return from) k c = let r : (caller : ℕ) × CallsFunction p caller n × (y ≡ caller + 1) = returned_from n y c in
          subst (λ (z : ℕ). MayFollow p (first_block mid n + b) z) (sym r.2) (returned n r.0 31 (plain (mips.Jr 31) class.Act) (holds_of (first_block mid n + b) (Return false) (made_by (line.Return from) k) (plain (mips.Jr 31) class.Act) (λ fs. return_in fs false)) refl (of_function n b f g (slice_get_within f.blocks b block h)) r.1)
