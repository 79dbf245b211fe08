-- The far form puts blocks where they may stand, and makes the lists of successors of its blocks.
use Rattle.std.proofs.Common.{◌≡◌, ◌≤◌, ◌<◌, ℕ, zero, suc, ◌+◌, ◌*◌, ◌^◌, arith, ap, refl, sym, ◌∙◌, subst, List, [], ◌∷◌, ◌++◌, length, map, Bool, true, false, cond}
use Rattle.std.specs.Prelude.{Option, Some, None, ◌==◌, slice_get}
use Rattle.std.proofs.lemmas.List.{map-append}
use Rattle.mips_isa.specs.declared.instr.Instr.{Instr}
use Rattle.hard_items.specs.declared.code.Fix.{Fix}
use Rattle.hard_items.specs.declared.code.Fix.TheVariants.{Plain, Block, Function, ReturnHigh, ReturnLow}
use Rattle.hard_items.specs.declared.code.Item.{Item}
use Rattle.hard_items.specs.declared.code.HardBlock.{HardBlock}
use Rattle.hard_items.specs.declared.code.HardProgram.{HardProgram}
use Rattle.hard_items.specs.Run.{items_of}
use Rattle.hard_items.specs.WellFormed.{WellFormed}
use Rattle.hard_items.specs.Counts.{is_conditional}
use Rattle.hard_items.specs.Forms.{Each, Close, Jump, Branch, Call, Return, Exit, Formed}
use Rattle.block_relays.specs.Relays.{Nothing, Turned, goals, place_of, put_item, relay, put_blocks, HasRelays}
use Rattle.block_relays.proofs.Keeps.{blocks_put}
use Rattle.block_relays.proofs.Roles.{Role, RoleAs, Goes, BranchesTo, roles}
use Rattle.far_branches.specs.Widen.{goal_of, far_goal, branch_goal, first_of, first_goal, is_large, far_of, far_as, far_relays, far_place, far_block, far_blocks, widened}
use Rattle.layout_moves_law.proofs.Places.{Puts, Put}

no_true : true ≡ false → ⊥
no_true e = cc

none_some : {A : Type 0} (t : A) → None ≡ Some t → ⊥
none_some t e = cc

same_some : (u t : ℕ) → Some u ≡ Some t → u ≡ t
same_some u t e = cc

-- ---- the blocks

block_items_are : (place : ℕ → ℕ) (b : ℕ) (o : Option ℕ) (k : HardBlock) → map (λ k. k.items) (far_block place b o k) ≡ map (put_item place b (far_as o)) k.items ∷ map (relay place) (goals b (far_as o))
block_items_are place b None k = refl
block_items_are place b (Some t) k = refl

all_items_are : (place : ℕ → ℕ) (far : ℕ → Option ℕ) (b : ℕ) (ks : List HardBlock) → map (λ k. k.items) (far_blocks place far b ks) ≡ put_blocks (λ c. far_as (far c)) place b ks
all_items_are place far b [] = refl
all_items_are place far b (k ∷ ks) =
    map-append (λ (x : HardBlock). x.items) (far_block place b (far b) k) (far_blocks place far (b + 1) ks)
    ∙ (ap (λ (z : List (List Item)). z ++ map (λ (x : HardBlock). x.items) (far_blocks place far (b + 1) ks)) (block_items_are place b (far b) k)
    ∙ ap (λ (z : List (List Item)). map (put_item place b (far_as (far b))) k.items ∷ (map (relay place) (goals b (far_as (far b))) ++ z)) (all_items_are place far (b + 1) ks))

pub has_far : (p : HardProgram) → HasRelays (far_relays p) p (widened p)
has_far p = record { blocks = all_items_are (far_place p) (far_of p) 0 p.blocks; entries = refl; initial = refl; memory = refl }

-- ---- what is put behind a block

goes_to : (c : Close) (u : ℕ) (x : Instr) → is_conditional x ≡ true → Goes c u x → BranchesTo c u
goes_to (Jump to) u x k h = absurd (no_true (sym k ∙ ap is_conditional h.0))
goes_to (Branch checked r when to) u x k h = sym h.1
goes_to (Call f) u x k h = absurd h
goes_to (Return checked) u x k h = absurd h
goes_to (Exit checked) u x k h = absurd h

none_goal : (z : Bool) (t : ℕ) → cond z None None ≡ Some t → ⊥
none_goal true t e = none_some t e
none_goal false t e = none_some t e

far_is : (z : Bool) (u t : ℕ) → cond z None (Some u) ≡ Some t → u ≡ t
far_is true u t e = absurd (none_some t e)
far_is false u t e = same_some u t e

block_goal : (c : Close) (b u t : ℕ) (x : Instr) → Goes c u x → (z : Bool) → is_conditional x ≡ z → cond z (far_goal b (Some u)) None ≡ Some t → BranchesTo c t
block_goal c b u t x h true k e = subst (BranchesTo c) (far_is (u == b + 1) u t e) (goes_to c u x k h)
block_goal c b u t x h false k e = absurd (none_some t e)

item_goal : (c : Close) (b t : ℕ) (f : Fix) (x : Instr) → RoleAs c f x → cond (is_conditional x) (far_goal b (goal_of f)) None ≡ Some t → BranchesTo c t
item_goal c b t Plain x h e = absurd (none_goal (is_conditional x) t e)
item_goal c b t (Block u) x h e = block_goal c b u t x h (is_conditional x) refl e
item_goal c b t (Function f) x h e = absurd (none_goal (is_conditional x) t e)
item_goal c b t ReturnHigh x h e = absurd (none_goal (is_conditional x) t e)
item_goal c b t ReturnLow x h e = absurd (none_goal (is_conditional x) t e)

-- The goal of a block's branch is that of its close.
pub first_is : (c : Close) (b t : ℕ) (xs : List Item) → Each (Role c) xs → first_goal b xs ≡ Some t → BranchesTo c t
first_is c b t [] h e = absurd (none_some t e)
first_is c b t (i ∷ more) h e = by (first_is c b t more h.1) (branch_goal b i) refl e
  where
    by : (first_goal b more ≡ Some t → BranchesTo c t) → (o : Option ℕ) → branch_goal b i ≡ o → first_of o (first_goal b more) ≡ Some t → BranchesTo c t
    by f (Some u) k e = item_goal c b t i.fix i.instr (h.0.is) (k ∙ e)
    by f None k e = f e

far_closes : (c : Close) (o : Option ℕ) → ((t : ℕ) → o ≡ Some t → BranchesTo c t) → Puts (far_as o) c
far_closes c None f = tt
far_closes c (Some t) f = f t refl

large_goal : (z : Bool) (o : Option ℕ) (t : ℕ) → cond z o None ≡ Some t → o ≡ Some t
large_goal true o t e = e
large_goal false o t e = absurd (none_some t e)

pub far_branches : (p : HardProgram) (b t : ℕ) (g : Formed (items_of p b)) → far_of p b ≡ Some t → BranchesTo g.close t
far_branches p b t g e = first_is g.close b t (items_of p b) (roles (items_of p b) g) (large_goal (is_large p b) (first_goal b (items_of p b)) t e)

pub far_puts : (p : HardProgram) (b : ℕ) (g : Formed (items_of p b)) → Puts (far_relays p b) g.close
far_puts p b g = far_closes g.close (far_of p b) (λ t e. far_branches p b t g e)

abbrev pub far_put : (p : HardProgram) → WellFormed p → ((b : ℕ) → b < length p.blocks → Formed (items_of p b)) → Put (far_relays p) p (widened p)
far_put p w f = record { has = has_far p; well = w; formed = f; puts = λ b l. far_puts p b (f b l) }

-- ---- how many blocks

double : (p : HardProgram) (b : ℕ) → far_place p b ≤ 2 * b
double p zero = omega arith
double p (suc b) = by (double p b) (far_of p b) refl
  where
    one : (a b : ℕ) → a ≤ 2 * b → a + suc 0 ≤ 2 * suc b
    one a b h = omega arith

    more : (a b : ℕ) → a ≤ 2 * b → a + suc 1 ≤ 2 * suc b
    more a b h = omega arith

    by : far_place p b ≤ 2 * b → (o : Option ℕ) → far_of p b ≡ o → far_place p (suc b) ≤ 2 * suc b
    by h None e = subst (λ (z : Option ℕ). far_place p b + suc (length (goals b (far_as z))) ≤ 2 * suc b) (sym e) (one (far_place p b) b h)
    by h (Some t) e = subst (λ (z : Option ℕ). far_place p b + suc (length (goals b (far_as z))) ≤ 2 * suc b) (sym e) (more (far_place p b) b h)

pub few_blocks : (p : HardProgram) → length p.blocks ≤ 65535 → length (widened p).blocks < 2 ^ 32
few_blocks p h = small (length (widened p).blocks) (far_place p (length p.blocks)) (length p.blocks) (blocks_put (far_relays p) p (widened p) (has_far p)) (double p (length p.blocks)) h
  where
    small : (a b c : ℕ) → a ≡ b → b ≤ 2 * c → c ≤ 65535 → a < 2 ^ 32
    small a b c e f g = omega arith

-- ---- a block and its successors

-- The first of the blocks that come of a block.
abbrev pub far_first : (ℕ → ℕ) → ℕ → Option ℕ → HardBlock → HardBlock
far_first place b None k = record { items = map (put_item place b Nothing) k.items; successors = map place k.successors }
far_first place b (Some t) k = record { items = map (put_item place b (Turned t)) k.items; successors = (place b + 1) ∷ place (b + 1) ∷ [] }

first_at : (place : ℕ → ℕ) (b : ℕ) (o : Option ℕ) (k : HardBlock) (more : List HardBlock) → slice_get (far_block place b o k ++ more) 0 ≡ Some (far_first place b o k)
first_at place b None k more = refl
first_at place b (Some t) k more = refl

skip_at : (place : ℕ → ℕ) (b : ℕ) (o : Option ℕ) (k : HardBlock) (more : List HardBlock) (x : ℕ) → slice_get (far_block place b o k ++ more) (suc (length (goals b (far_as o))) + x) ≡ slice_get more x
skip_at place b None k more x = ap (slice_get (far_block place b None k ++ more)) (one x)
  where
    one : (x : ℕ) → suc 0 + x ≡ suc x
    one x = omega arith
skip_at place b (Some t) k more x = ap (slice_get (far_block place b (Some t) k ++ more)) (two x)
  where
    two : (x : ℕ) → suc 1 + x ≡ suc (suc x)
    two x = omega arith

-- How far the place of a block is behind that of another.
abbrev shift : (ℕ → Option ℕ) → (b m : ℕ) → ℕ
shift far b zero = 0
shift far b (suc m) = suc (length (goals b (far_as (far b)))) + shift far (b + 1) m

shift_place : (far : ℕ → Option ℕ) (b m : ℕ) → place_of (λ c. far_as (far c)) b + shift far b m ≡ place_of (λ c. far_as (far c)) (b + m)
shift_place far b zero = none (place_of (λ c. far_as (far c)) b) ∙ ap (place_of (λ c. far_as (far c))) (sym (none b))
  where
    none : (a : ℕ) → a + 0 ≡ a
    none a = omega arith
shift_place far b (suc m) =
    sum (place_of (λ c. far_as (far c)) b) (length (goals b (far_as (far b)))) (shift far (b + 1) m)
    ∙ (ap (λ (z : ℕ). place_of (λ c. far_as (far c)) z + shift far (b + 1) m) (one b) ∙ (shift_place far (b + 1) m ∙ ap (place_of (λ c. far_as (far c))) (move b m)))
  where
    sum : (a n x : ℕ) → a + (suc n + x) ≡ a + suc n + x
    sum a n x = omega arith

    one : (b : ℕ) → suc b ≡ b + 1
    one b = omega arith

    move : (b m : ℕ) → b + 1 + m ≡ b + suc m
    move b m = omega arith

block_at : (place : ℕ → ℕ) (far : ℕ → Option ℕ) (b m : ℕ) (ks : List HardBlock) (k : HardBlock) → slice_get ks m ≡ Some k →
    (slice_get (far_blocks place far b ks) (shift far b m) ≡ Some (far_first place (b + m) (far (b + m)) k))
block_at place far b m [] k e = absurd (none_some k e)
block_at place far b zero (x ∷ ks) k e = first_at place b (far b) x (far_blocks place far (b + 1) ks) ∙ (ap (λ (y : HardBlock). Some (far_first place b (far b) y)) (same x k e) ∙ ap (λ (z : ℕ). Some (far_first place z (far z) k)) (none b))
  where
    same : (x k : HardBlock) → Some x ≡ Some k → x ≡ k
    same x k e = cc

    none : (b : ℕ) → b ≡ b + 0
    none b = omega arith
block_at place far b (suc m) (x ∷ ks) k e = skip_at place b (far b) x (far_blocks place far (b + 1) ks) (shift far (b + 1) m) ∙ (block_at place far (b + 1) m ks k e ∙ ap (λ (z : ℕ). Some (far_first place z (far z) k)) (move b m))
  where
    move : (b m : ℕ) → b + 1 + m ≡ b + suc m
    move b m = omega arith

second_at : (place : ℕ → ℕ) (b t : ℕ) (k : HardBlock) (more : List HardBlock) → slice_get (far_block place b (Some t) k ++ more) 1 ≡ Some (record { items = relay place t; successors = place t ∷ [] })
second_at place b t k more = refl

relay_at : (place : ℕ → ℕ) (far : ℕ → Option ℕ) (b m t : ℕ) (ks : List HardBlock) (k : HardBlock) → slice_get ks m ≡ Some k → far (b + m) ≡ Some t →
    (slice_get (far_blocks place far b ks) (shift far b m + 1) ≡ Some (record { items = relay place t; successors = place t ∷ [] }))
relay_at place far b m t [] k e f = absurd (none_some k e)
relay_at place far b zero t (x ∷ ks) k e f = ap (λ (o : Option ℕ). slice_get (far_block place b o x ++ far_blocks place far (b + 1) ks) 1) (ap far (none b) ∙ f)
  where
    none : (b : ℕ) → b ≡ b + 0
    none b = omega arith
relay_at place far b (suc m) t (x ∷ ks) k e f =
    ap (slice_get (far_block place b (far b) x ++ far_blocks place far (b + 1) ks)) (sum (suc (length (goals b (far_as (far b))))) (shift far (b + 1) m))
    ∙ (skip_at place b (far b) x (far_blocks place far (b + 1) ks) (shift far (b + 1) m + 1) ∙ relay_at place far (b + 1) m t ks k e (ap far (move b m) ∙ f))
  where
    sum : (a x : ℕ) → a + x + 1 ≡ a + (x + 1)
    sum a x = omega arith

    move : (b m : ℕ) → b + 1 + m ≡ b + suc m
    move b m = omega arith

pub placed_block : (p : HardProgram) (b : ℕ) (k : HardBlock) → slice_get p.blocks b ≡ Some k → slice_get (widened p).blocks (far_place p b) ≡ Some (far_first (far_place p) b (far_of p b) k)
placed_block p b k e = ap (slice_get (widened p).blocks) (zero_left (far_place p b) (shift (far_of p) 0 b) (far_place p (0 + b)) (shift_place (far_of p) 0 b) (ap (far_place p) (none b)))
    ∙ (block_at (far_place p) (far_of p) 0 b p.blocks k e ∙ ap (λ (z : ℕ). Some (far_first (far_place p) z (far_of p z) k)) (none b))
  where
    none : (b : ℕ) → 0 + b ≡ b
    none b = omega arith

    zero_left : (a s c : ℕ) → 0 + s ≡ c → c ≡ a → a ≡ s
    zero_left a s c e f = omega arith

pub placed_relay : (p : HardProgram) (b t : ℕ) (k : HardBlock) → slice_get p.blocks b ≡ Some k → far_of p b ≡ Some t → slice_get (widened p).blocks (far_place p b + 1) ≡ Some (record { items = relay (far_place p) t; successors = far_place p t ∷ [] })
placed_relay p b t k e f = ap (slice_get (widened p).blocks) (zero_left (far_place p b) (shift (far_of p) 0 b) (far_place p (0 + b)) (shift_place (far_of p) 0 b) (ap (far_place p) (none b)))
    ∙ relay_at (far_place p) (far_of p) 0 b t p.blocks k e (ap (far_of p) (none b) ∙ f)
  where
    none : (b : ℕ) → 0 + b ≡ b
    none b = omega arith

    zero_left : (a s c : ℕ) → 0 + s ≡ c → c ≡ a → a + 1 ≡ s + 1
    zero_left a s c e f = omega arith
