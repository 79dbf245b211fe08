-- What becomes of a block, by how it closes: the blocks that are put split exactly the critical edges.
use Rattle.std.proofs.Common.{◌≡◌, ◌≢◌, ◌<◌, ℕ, zero, suc, ◌+◌, arith, ap, refl, sym, ◌∙◌, subst, List, [], ◌∷◌, length, Bool, true, false, cond, inl, inr}
use Rattle.std.specs.Prelude.{Option, Some, None, ◌⊎◌, ◌==◌, ◌&&◌, ◌||◌, slice_get, Contains}
use Rattle.std.proofs.lemmas.List.Elements.{All-contains}
use Rattle.mips_isa.specs.declared.instr.Instr.{Instr}
use Rattle.mips_isa.specs.declared.instr.Instr.TheVariants.{Jal, Jr}
use Rattle.hard_items.specs.declared.code.Fix.{Fix}
use Rattle.hard_items.specs.declared.code.Fix.TheVariants.{Plain, Block, Function, ReturnHigh, ReturnLow}
use Rattle.hard_items.specs.declared.code.Item.{Item}
use Rattle.hard_items.specs.declared.code.HardBlock.{HardBlock}
use Rattle.hard_items.specs.declared.code.HardProgram.{HardProgram}
use Rattle.hard_items.specs.Run.{items_of, block_items, is_call}
use Rattle.hard_items.specs.Ways.{MayFollow, IsOfFunction, CallsFunction}
use Rattle.hard_items.specs.WellFormed.{WellFormed, FieldFits}
use Rattle.hard_items.specs.Counts.{is_conditional}
use Rattle.hard_items.specs.Forms.{Close, Jump, Branch, Call, Return, Exit, Formed}
use Rattle.sign_law.specs.Graph.{HasTwo}
use Rattle.block_relays.specs.Relays.{Nothing, Next, goals}
use Rattle.block_relays.proofs.Relays.{holds_there}
use Rattle.block_relays.proofs.Roles.{BranchesTo, IsReturnClose, role_of, roles}
use Rattle.block_relays.proofs.Roles as roles_of
use Rattle.far_branches.specs.Widen.{goal_of, far_goal, branch_goal, first_of, first_goal}
use Rattle.layout_moves_law.proofs.Closes.{calls_close, follows, closing, holds_closing, Branches}
use Rattle.layout_moves_law.proofs.Places.{Puts}
use Rattle.layout_moves_law.proofs.Ways.{branches_to}
use Rattle.layout_moves_law.proofs.Far.{first_is}
use Rattle.signature_assign.proofs.Premises.{from_there}
use Rattle.edge_split.specs.Split.{Plan, Keep, Returns, Calls, Falls, Turns, Forks, joins, is_return, returns, calls, is_returned, branch_plan, other_plan, plan_by, plan_of, relays_as, edge_relays}
use Rattle.layout_moves_law.proofs.Arrivals.{two_long, joins_two, two_joins, returned_by}
use Rattle.layout_moves_law.proofs.SplitLawSmooth.{ForNext, ForGoal, Splits}

no_true : true ≡ false → ⊥
no_true e = cc

none_some : {A : Type 0} (x : A) → None ≡ Some x → ⊥
none_some x e = cc

same_some : (u t : ℕ) → Some u ≡ Some t → u ≡ t
same_some u t e = cc

-- ---- the goal of a branch

-- It is another block than the next.
item_far : (b u : ℕ) (z : Bool) (o : Option ℕ) → cond z (far_goal b o) None ≡ Some u → u ≢ b + 1
item_far b u false o e = absurd (none_some u e)
item_far b u true None e = absurd (none_some u e)
item_far b u true (Some t) e = by (t == b + 1) refl e
  where
    apart : (t n : ℕ) → (t == n) ≡ false → t ≢ n
    apart t n e = grind arith

    by : (y : Bool) → (t == b + 1) ≡ y → cond y None (Some t) ≡ Some u → u ≢ b + 1
    by true f e = absurd (none_some u e)
    by false f e = λ g. apart t (b + 1) f (same_some t u e ∙ g)

pub first_far : (b u : ℕ) (xs : List Item) → first_goal b xs ≡ Some u → u ≢ b + 1
first_far b u [] e = absurd (none_some u e)
first_far b u (i ∷ more) e = by (first_far b u more) (branch_goal b i) refl e
  where
    by : (first_goal b more ≡ Some u → u ≢ b + 1) → (o : Option ℕ) → branch_goal b i ≡ o → first_of o (first_goal b more) ≡ Some u → u ≢ b + 1
    by f (Some t) k e = item_far b u (is_conditional i.instr) (goal_of i.fix) (k ∙ e)
    by f None k e = f e

some_goal : (b t : ℕ) (xs : List Item) (i : Item) → Contains xs i → branch_goal b i ≡ Some t → (u : ℕ) × (first_goal b xs ≡ Some u)
some_goal b t [] i c e = absurd (no c.0 c.1)
  where
    no : (n : ℕ) → n < 0 → ⊥
    no n h = omega arith
some_goal b t (x ∷ xs) i (zero, l, s) e = (t, ap (λ (o : Option ℕ). first_of o (first_goal b xs)) (ap (branch_goal b) s ∙ e))
some_goal b t (x ∷ xs) i (suc k, l, s) e = by (branch_goal b x) refl (some_goal b t xs i (k, less k (length xs) l, s) e)
  where
    less : (a b : ℕ) → suc a < suc b → a < b
    less a b h = omega arith

    by : (o : Option ℕ) → branch_goal b x ≡ o → (u : ℕ) × (first_goal b xs ≡ Some u) → (u : ℕ) × (first_of (branch_goal b x) (first_goal b xs) ≡ Some u)
    by (Some v) f r = (v, ap (λ (o : Option ℕ). first_of o (first_goal b xs)) f)
    by None f r = (r.0, ap (λ (o : Option ℕ). first_of o (first_goal b xs)) f ∙ r.1)

closing_goal : (b t : ℕ) (c : Close) → Branches c t → t ≢ b + 1 → branch_goal b (closing c) ≡ Some t
closing_goal b t c h n = ap (λ (z : Close). branch_goal b (closing z)) h.is ∙ by h.when
  where
    apart : (t n : ℕ) → t ≢ n → (t == n) ≡ false
    apart t n e = grind arith

    by : (w : Bool) → branch_goal b (closing (Branch h.checked h.register w t)) ≡ Some t
    by true = ap (λ (z : Bool). cond z None (Some t)) (apart t (b + 1) n)
    by false = ap (λ (z : Bool). cond z None (Some t)) (apart t (b + 1) n)

same_branch : (c : Close) (t u : ℕ) → Branches c t → BranchesTo c u → u ≡ t
same_branch c t u h k = sym (subst (λ (z : Close). BranchesTo z u) h.is k)

pub goal_branches : (p : HardProgram) (b u : ℕ) (g : Formed (items_of p b)) → first_goal b (items_of p b) ≡ Some u → BranchesTo g.close u
goal_branches p b u g e = first_is g.close b u (items_of p b) (roles (items_of p b) g) e

pub branch_is_goal : (p : HardProgram) (b t : ℕ) (g : Formed (items_of p b)) → Branches g.close t → t ≢ b + 1 → first_goal b (items_of p b) ≡ Some t
branch_is_goal p b t g h n =
    let r : (u : ℕ) × (first_goal b (items_of p b) ≡ Some u) = some_goal b t (items_of p b) (closing g.close) (holds_closing p b g) (closing_goal b t g.close h n) in
    r.1 ∙ ap (λ (z : ℕ). Some z) (same_branch g.close t r.0 h (goal_branches p b r.0 g r.1))

-- A block that closes by no branch, or by one to the next block, has none.
no_goal : (p : HardProgram) (b : ℕ) (g : Formed (items_of p b)) → ((u : ℕ) → u ≢ b + 1 → BranchesTo g.close u → ⊥) → first_goal b (items_of p b) ≡ None
no_goal p b g n = by (first_goal b (items_of p b)) refl
  where
    by : (o : Option ℕ) → first_goal b (items_of p b) ≡ o → o ≡ None
    by None e = refl
    by (Some u) e = absurd (n u (first_far b u (items_of p b) e) (goal_branches p b u g e))

-- ---- returns and calls

return_as : (x : Instr) → is_return x ≡ true → (rs : ℕ) × (x ≡ Jr rs)
return_as (Jr rs) h = (rs, refl)
return_as x h = absurd (no_true (sym h))

call_as : (x : Instr) → is_call x ≡ true → (target : ℕ) × (x ≡ Jal target)
call_as (Jal target) h = (target, refl)
call_as x h = absurd (no_true (sym h))

or_true : (x y : Bool) → (x || y) ≡ true → (x ≡ true) ⊎ (y ≡ true)
or_true true y h = inl refl
or_true false y h = inr h

true_or : (x y : Bool) → y ≡ true → (x || y) ≡ true
true_or true y h = refl
true_or false y h = h

or_first : (x y : Bool) → x ≡ true → (x || y) ≡ true
or_first true y h = refl
or_first false y h = absurd (no_true (sym h))

in_first : (i : Item) (xs : List Item) → Contains (i ∷ xs) i
in_first i xs = (0, omega arith, refl)

in_later : (i x : Item) (xs : List Item) → Contains xs i → Contains (x ∷ xs) i
in_later i x xs c = (suc c.0, omega (arith, c.1), c.2)

return_in : (xs : List Item) → returns xs ≡ true → (i : Item) × (Contains xs i × (is_return i.instr ≡ true))
return_in [] h = absurd (no_true (sym h))
return_in (x ∷ xs) h = by (λ k. return_in xs k) (or_true (is_return x.instr) (returns xs) h)
  where
    by : (returns xs ≡ true → (i : Item) × (Contains xs i × (is_return i.instr ≡ true))) → (is_return x.instr ≡ true) ⊎ (returns xs ≡ true) → (i : Item) × (Contains (x ∷ xs) i × (is_return i.instr ≡ true))
    by f (inl e) = (x, (in_first x xs, e))
    by f (inr e) = let r : (i : Item) × (Contains xs i × (is_return i.instr ≡ true)) = f e in (r.0, (in_later r.0 x xs r.1.0, r.1.1))

call_in : (xs : List Item) → calls xs ≡ true → (i : Item) × (Contains xs i × (is_call i.instr ≡ true))
call_in [] h = absurd (no_true (sym h))
call_in (x ∷ xs) h = by (λ k. call_in xs k) (or_true (is_call x.instr) (calls xs) h)
  where
    by : (calls xs ≡ true → (i : Item) × (Contains xs i × (is_call i.instr ≡ true))) → (is_call x.instr ≡ true) ⊎ (calls xs ≡ true) → (i : Item) × (Contains (x ∷ xs) i × (is_call i.instr ≡ true))
    by f (inl e) = (x, (in_first x xs, e))
    by f (inr e) = let r : (i : Item) × (Contains xs i × (is_call i.instr ≡ true)) = f e in (r.0, (in_later r.0 x xs r.1.0, r.1.1))

in_return : (xs : List Item) (i : Item) → Contains xs i → is_return i.instr ≡ true → returns xs ≡ true
in_return [] i c h = absurd (no c.0 c.1)
  where
    no : (n : ℕ) → n < 0 → ⊥
    no n h = omega arith
in_return (x ∷ xs) i (zero, l, e) h = or_first (is_return x.instr) (returns xs) (ap (λ (z : Item). is_return z.instr) e ∙ h)
in_return (x ∷ xs) i (suc k, l, e) h = true_or (is_return x.instr) (returns xs) (in_return xs i (k, less k (length xs) l, e) h)
  where
    less : (a b : ℕ) → suc a < suc b → a < b
    less a b h = omega arith

in_call : (xs : List Item) (i : Item) → Contains xs i → is_call i.instr ≡ true → calls xs ≡ true
in_call [] i c h = absurd (no c.0 c.1)
  where
    no : (n : ℕ) → n < 0 → ⊥
    no n h = omega arith
in_call (x ∷ xs) i (zero, l, e) h = or_first (is_call x.instr) (calls xs) (ap (λ (z : Item). is_call z.instr) e ∙ h)
in_call (x ∷ xs) i (suc k, l, e) h = true_or (is_call x.instr) (calls xs) (in_call xs i (k, less k (length xs) l, e) h)
  where
    less : (a b : ℕ) → suc a < suc b → a < b
    less a b h = omega arith

-- A block with a return closes by it, and a block that closes by one has it.
pub returns_close : (p : HardProgram) (b : ℕ) (g : Formed (items_of p b)) → returns (items_of p b) ≡ true → IsReturnClose g.close
returns_close p b g h =
    let r : (i : Item) × (Contains (items_of p b) i × (is_return i.instr ≡ true)) = return_in (items_of p b) h in
    let x : (rs : ℕ) × (r.0.instr ≡ Jr rs) = return_as r.0.instr r.1.1 in
    roles_of.is_return g.close r.0.fix r.0.instr x.0 x.1 (role_of p b r.0 g r.1.0)

close_return : (c : Close) → IsReturnClose c → is_return (closing c).instr ≡ true
close_return (Return checked) h = refl
close_return (Jump t) h = absurd h
close_return (Branch checked m when t) h = absurd h
close_return (Call f) h = absurd h
close_return (Exit checked) h = absurd h

pub close_returns : (p : HardProgram) (b : ℕ) (g : Formed (items_of p b)) → IsReturnClose g.close → returns (items_of p b) ≡ true
close_returns p b g h = in_return (items_of p b) (closing g.close) (holds_closing p b g) (close_return g.close h)

names_call : (f : Fix) (x : Instr) (target : ℕ) → x ≡ Jal target → FieldFits f x → (g : ℕ) × (f ≡ Function g)
names_call f x target e h = by f (subst (FieldFits f) e h)
  where
    by : (f : Fix) → FieldFits f (Jal target) → (g : ℕ) × (f ≡ Function g)
    by Plain h = absurd h
    by (Block t) h = absurd h
    by (Function g) h = (g, refl)
    by ReturnHigh h = absurd h
    by ReturnLow h = absurd h

pub calls_function : (p : HardProgram) (b : ℕ) → WellFormed p → calls (items_of p b) ≡ true → (f : ℕ) × CallsFunction p b f
calls_function p b w h =
    let r : (i : Item) × (Contains (items_of p b) i × (is_call i.instr ≡ true)) = call_in (items_of p b) h in
    let x : (target : ℕ) × (r.0.instr ≡ Jal target) = call_as r.0.instr r.1.1 in
    let f : (g : ℕ) × (r.0.fix ≡ Function g) = names_call r.0.fix r.0.instr x.0 x.1 (All-contains (λ (i : Item). FieldFits i.fix i.instr) (items_of p b) r.0 (w.fields_fit b) r.1.0) in
    (f.0, record { item = r.0; target = x.0; holds = r.1.0; jumps = x.1; names = f.1 })

pub function_calls : (p : HardProgram) (b f : ℕ) → CallsFunction p b f → calls (items_of p b) ≡ true
function_calls p b f c = in_call (items_of p b) c.item c.holds (ap is_call c.jumps)

-- ---- closes exclude each other

call_no_branch : (c : Close) (f u : ℕ) → c ≡ Call f → BranchesTo c u → ⊥
call_no_branch c f u e h = subst (λ (z : Close). BranchesTo z u) e h

call_no_return : (c : Close) (f : ℕ) → c ≡ Call f → IsReturnClose c → ⊥
call_no_return c f e h = subst IsReturnClose e h

branch_no_return : (c : Close) (t : ℕ) → Branches c t → IsReturnClose c → ⊥
branch_no_return c t h k = subst IsReturnClose h.is k

branch_no_call : (c : Close) (t f : ℕ) → Branches c t → c ≡ Call f → ⊥
branch_no_call c t f h e = no h.checked h.register h.when (sym h.is ∙ e)
  where
    no : (x : Bool) (y : ℕ) (z : Bool) → Branch x y z t ≡ Call f → ⊥
    no x y z e = cc

not_true : (z : Bool) → (z ≡ true → ⊥) → z ≡ false
not_true true n = absurd (n refl)
not_true false n = refl

-- ---- what is put behind a block may stand there

branch_puts : (c : Close) (x y : Bool) (t : ℕ) → BranchesTo c t → Puts (relays_as (branch_plan x y t)) c
branch_puts c false false t h = tt
branch_puts (Branch checked r when u) true false t h = tt
branch_puts (Jump u) true false t h = absurd h
branch_puts (Call f) true false t h = absurd h
branch_puts (Return checked) true false t h = absurd h
branch_puts (Exit checked) true false t h = absurd h
branch_puts c false true t h = h
branch_puts c true true t h = h

other_puts : (c : Close) (r k e : Bool) → (k ≡ true → (f : ℕ) × (c ≡ Call f)) → Puts (relays_as (other_plan r k e)) c
other_puts c true k e h = tt
other_puts c false true true h = let f : (f : ℕ) × (c ≡ Call f) = h refl in subst (Puts Next) (sym f.1) tt
other_puts c false true false h = tt
other_puts c false false e h = tt

pub split_puts : (p : HardProgram) (b : ℕ) → WellFormed p → (g : Formed (items_of p b)) → Puts (edge_relays p b) g.close
split_puts p b w g = by (first_goal b (items_of p b)) refl
  where
    by : (o : Option ℕ) → first_goal b (items_of p b) ≡ o → Puts (relays_as (plan_by p b (items_of p b) o)) g.close
    by (Some t) e = branch_puts g.close (joins p (b + 1)) (joins p t) t (goal_branches p b t g e)
    by None e = other_puts g.close (returns (items_of p b)) (calls (items_of p b)) _ (λ h. let f : (f : ℕ) × CallsFunction p b f = calls_function p b w h in (f.0, calls_close p b f.0 g f.1))

-- ---- exactly the critical edges

branch_only : (p : HardProgram) (b t m c : ℕ) (x y : Bool) → (x ≡ true → HasTwo (MayFollow p) (b + 1)) → (y ≡ true → HasTwo (MayFollow p) t) → slice_get (goals b (relays_as (branch_plan x y t))) m ≡ Some c → HasTwo (MayFollow p) c
branch_only p b t m c false false f g e = absurd (none_some c e)
branch_only p b t zero c true false f g e = subst (HasTwo (MayFollow p)) (same_some (b + 1) c e) (f refl)
branch_only p b t (suc m) c true false f g e = absurd (none_some c e)
branch_only p b t zero c false true f g e = subst (HasTwo (MayFollow p)) (same_some t c e) (g refl)
branch_only p b t (suc m) c false true f g e = absurd (none_some c e)
branch_only p b t zero c true true f g e = subst (HasTwo (MayFollow p)) (same_some (b + 1) c e) (f refl)
branch_only p b t (suc zero) c true true f g e = subst (HasTwo (MayFollow p)) (same_some t c e) (g refl)
branch_only p b t (suc (suc m)) c true true f g e = absurd (none_some c e)

other_only : (p : HardProgram) (b m c : ℕ) (r k x y : Bool) → (x ≡ true → HasTwo (MayFollow p) (b + 1)) → slice_get (goals b (relays_as (other_plan r k (x && y)))) m ≡ Some c → HasTwo (MayFollow p) c
other_only p b m c true k x y f e = absurd (none_some c e)
other_only p b m c false false x y f e = absurd (none_some c e)
other_only p b m c false true false y f e = absurd (none_some c e)
other_only p b m c false true true false f e = absurd (none_some c e)
other_only p b zero c false true true true f e = subst (HasTwo (MayFollow p)) (same_some (b + 1) c e) (f refl)
other_only p b (suc m) c false true true true f e = absurd (none_some c e)

for_next : (x y : Bool) (t : ℕ) → x ≡ true → ForNext (relays_as (branch_plan x y t))
for_next true true t h = tt
for_next true false t h = tt
for_next false y t h = absurd (no_true (sym h))

for_goal : (x y : Bool) (t : ℕ) → y ≡ true → ForGoal (relays_as (branch_plan x y t))
for_goal true true t h = tt
for_goal false true t h = tt
for_goal x false t h = absurd (no_true (sym h))

module _ (p : HardProgram) (w : WellFormed p) (g : (b : ℕ) → b < length p.blocks → Formed (items_of p b)) where
  only : (b m c : ℕ) → slice_get (goals b (edge_relays p b)) m ≡ Some c → HasTwo (MayFollow p) c
  only b m c = by (first_goal b (items_of p b))
    where
      by : (o : Option ℕ) → slice_get (goals b (relays_as (plan_by p b (items_of p b) o))) m ≡ Some c → HasTwo (MayFollow p) c
      by (Some t) e = branch_only p b t m c (joins p (b + 1)) (joins p t) (joins_two p (b + 1) w) (joins_two p t w) e
      by None e = other_only p b m c (returns (items_of p b)) (calls (items_of p b)) (joins p (b + 1)) (is_returned (b + 1) p.blocks) (joins_two p (b + 1) w) e

  one_edge : (b : ℕ) (l : b < length p.blocks) → Branches ((g b l).close) (b + 1) → edge_relays p b ≡ Nothing
  one_edge b l h =
      ap (λ (o : Option ℕ). relays_as (plan_by p b (items_of p b) o)) (no_goal p b (g b l) (λ u n k. n (same_branch ((g b l).close) (b + 1) u h k)))
      ∙ (ap (λ (z : Bool). relays_as (other_plan z (calls (items_of p b)) (joins p (b + 1) && is_returned (b + 1) p.blocks))) (not_true (returns (items_of p b)) (λ e. branch_no_return ((g b l).close) (b + 1) h (returns_close p b (g b l) e)))
      ∙ ap (λ (z : Bool). relays_as (other_plan false z (joins p (b + 1) && is_returned (b + 1) p.blocks))) (not_true (calls (items_of p b)) (λ e. let f : (f : ℕ) × CallsFunction p b f = calls_function p b w e in branch_no_call ((g b l).close) (b + 1) f.0 h (calls_close p b f.0 (g b l) f.1))))

  falls : (b t : ℕ) (l : b < length p.blocks) → Branches ((g b l).close) t → t ≢ b + 1 → HasTwo (MayFollow p) (b + 1) → ForNext (edge_relays p b)
  falls b t l h n k = subst (λ (o : Option ℕ). ForNext (relays_as (plan_by p b (items_of p b) o))) (sym (branch_is_goal p b t (g b l) h n)) (for_next (joins p (b + 1)) (joins p t) t (two_joins p (b + 1) w k))

  takes : (b t : ℕ) (l : b < length p.blocks) → Branches ((g b l).close) t → t ≢ b + 1 → HasTwo (MayFollow p) t → ForGoal (edge_relays p b)
  takes b t l h n k = subst (λ (o : Option ℕ). ForGoal (relays_as (plan_by p b (items_of p b) o))) (sym (branch_is_goal p b t (g b l) h n)) (for_goal (joins p (b + 1)) (joins p t) t (two_joins p t w k))

  both_true : (x y : Bool) → x ≡ true → y ≡ true → (x && y) ≡ true
  both_true true y e f = f
  both_true false y e f = absurd (no_true (sym e))

  returned : (b c k f : ℕ) (l : b < length p.blocks) → IsReturnClose ((g b l).close) → IsOfFunction p b f → CallsFunction p k f → HasTwo (MayFollow p) (k + 1) → MayFollow p b c → c ≢ k + 1 → edge_relays p k ≡ Next
  returned b c k f l r o h t m n =
      ap (λ (z : Option ℕ). relays_as (plan_by p k (items_of p k) z)) (no_goal p k (g k there) (λ u d e. call_no_branch ((g k there).close) f u (calls_close p k f (g k there) h) e))
      ∙ (ap (λ (z : Bool). relays_as (other_plan z (calls (items_of p k)) (joins p (k + 1) && is_returned (k + 1) p.blocks))) (not_true (returns (items_of p k)) (λ e. call_no_return ((g k there).close) f (calls_close p k f (g k there) h) (returns_close p k (g k there) e)))
      ∙ (ap (λ (z : Bool). relays_as (other_plan false z (joins p (k + 1) && is_returned (k + 1) p.blocks))) (function_calls p k f h)
      ∙ ap (λ (z : Bool). relays_as (other_plan false true z)) (both_true (joins p (k + 1)) (is_returned (k + 1) p.blocks) (two_joins p (k + 1) w t) is)))
    where
      there : k < length p.blocks
      there = holds_there p k h.item h.holds

      follow : (z : Close) → (g b l).close ≡ z → IsReturnClose z → MayFollow p b (k + 1)
      follow (Return checked) e r = follows p b (k + 1) (g b l) (subst (λ (z : Close). Rattle.layout_moves_law.proofs.Closes.Leads p b z (k + 1)) (sym e) (f, (k, (o, (h, refl)))))
      follow (Jump t) e r = absurd r
      follow (Branch checked z when t) e r = absurd r
      follow (Call z) e r = absurd r
      follow (Exit checked) e r = absurd r

      block : (d : HardBlock) × (slice_get p.blocks b ≡ Some d)
      block = from_there p b c m

      is : is_returned (k + 1) p.blocks ≡ true
      is =
          let here : Contains block.0.successors (k + 1) = (w.successors_are b (k + 1) block.0 block.1).1 (follow ((g b l).close) refl r) in
          let other : Contains block.0.successors c = (w.successors_are b c block.0 block.1).1 m in
          returned_by (k + 1) p.blocks b block.0 block.1 (both_true _ _ (subst (λ (z : List Item). returns z ≡ true) (ap block_items block.1) (close_returns p b (g b l) r)) (two_long c (k + 1) block.0.successors other here n)) here

  pub splits : Splits (edge_relays p) p g
  splits = record { only = λ b m c l e. only b m c e; one_edge = one_edge; falls = falls; takes = takes; returned = returned }

-- ---- the plan of a block by its close

abbrev pub PlanFits : ℕ → Close → Plan → Type 0
PlanFits b c Keep = IsReturnClose c → ⊥
PlanFits b c Returns = IsReturnClose c
PlanFits b c Calls = (f : ℕ) × (c ≡ Call f)
PlanFits b c Falls = (t : ℕ) × (Branches c t × (t ≢ b + 1))
PlanFits b c (Turns t) = Branches c t
PlanFits b c (Forks t) = Branches c t

branch_fits : (b t : ℕ) (c : Close) (x y : Bool) → Branches c t → t ≢ b + 1 → PlanFits b c (branch_plan x y t)
branch_fits b t c false false h n = branch_no_return c t h
branch_fits b t c true false h n = (t, (h, n))
branch_fits b t c false true h n = h
branch_fits b t c true true h n = h

other_fits : (b : ℕ) (c : Close) (r k e : Bool) → (r ≡ true → IsReturnClose c) → (r ≡ false → IsReturnClose c → ⊥) → (k ≡ true → (f : ℕ) × (c ≡ Call f)) → PlanFits b c (other_plan r k e)
other_fits b c true k e f n h = f refl
other_fits b c false true true f n h = h refl
other_fits b c false true false f n h = n refl
other_fits b c false false e f n h = n refl

pub plan_fits : (p : HardProgram) (b : ℕ) → WellFormed p → (g : Formed (items_of p b)) → PlanFits b g.close (plan_of p b)
plan_fits p b w g = by (first_goal b (items_of p b)) refl
  where
    by : (o : Option ℕ) → first_goal b (items_of p b) ≡ o → PlanFits b g.close (plan_by p b (items_of p b) o)
    by (Some t) e = branch_fits b t g.close (joins p (b + 1)) (joins p t) (branches_to g.close t (goal_branches p b t g e)) (first_far b t (items_of p b) e)
    by None e = other_fits b g.close (returns (items_of p b)) (calls (items_of p b)) _ (returns_close p b g) (λ f h. no_true (sym (close_returns p b g h) ∙ f)) (λ h. let f : (f : ℕ) × CallsFunction p b f = calls_function p b w h in (f.0, calls_close p b f.0 g f.1))
