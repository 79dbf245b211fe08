-- The blocks of a text in which a signed program is laid out are the program's blocks.
use Rattle.std.proofs.Common.{◌≡◌, ◌≢◌, ◌≤◌, ℕ, zero, suc, ◌+◌, ◌-◌, ◌*◌, ◌<◌, arith, rules, ap, refl, sym, ◌∙◌, subst, List, [], ◌∷◌, ◌++◌, length, map, false, true, Bool, inl, inr}
use Rattle.std.specs.Prelude.{Option, Some, None, ◌⊎◌, slice_get, slice_index, All, Contains, if◌then◌else◌}
use Rattle.std.proofs.lemmas.List.Elements.{All-contains}
use Rattle.std.proofs.lemmas.Option.{slice_get-get_or, slice_get_within, get_or_from_slice_get}
use Rattle.mips_isa.specs.declared.instr.Instr.{Instr}
use Rattle.mips_isa.specs.declared.instr.Instr.TheVariants.{Sll, Xori, Xor, Ori, Break, J, Jal, Jr, Beq, Bne}
use Rattle.mips_isa.specs.Machine.{is_jump}
use Rattle.mips_text.specs.Text.{InText, At, BranchAt, IsBranch, SkipsBreak as TextSkips, branch_goal, jump_goal}
use Rattle.mips_text.specs.Blocks.{IsStart, begins, jumped as start_jumped, called as start_called, returned as start_returned, taken, passed, ForkAt, IsFunction, main, callee, Holds as TextHolds, InSpan, LeadsTo, jumps, calls, takes, passes, returns, Succ, Head, HeadAt}
use Rattle.hard_items.specs.declared.code.Fix.{Fix}
use Rattle.hard_items.specs.declared.code.Fix.TheVariants.{Plain, Block, Function, ReturnHigh, ReturnLow}
use Rattle.hard_items.specs.declared.code.Item.{Item}
use Rattle.hard_items.specs.declared.code.HardProgram.{HardProgram}
use Rattle.hard_items.specs.declared.code.Signed.{Signed}
use Rattle.hard_items.specs.Run.{items_of}
use Rattle.hard_items.specs.Heads.{headed}
use Rattle.hard_items.specs.Ways.{EachCalled, Holds, CallsFunction, IsOfFunction, MayFollow, jumped, branched_eq, branched_ne, fallen_eq, fallen_ne, called, returned}
use Rattle.hard_items.specs.WellFormed.{WellFormed, ItemAt, SkipsBreak, NamesThere, FieldFits, IsEntered}
use Rattle.hard_items.specs.declared.code.Mark.{Mark}
use Rattle.sign_law.specs.Signs.{IsLaid}
use Rattle.sign_law.proofs.Signs.{source}
use Rattle.signature_assign.specs.Headed.{BlocksFit, mark_at}
use Rattle.sign_law.specs.Marks.{successors_of, head_of}
use Rattle.layout_hardened.specs.LaidOut.{IsFilled, as_is, jump, branch_eq, branch_ne, call, high, low, Stands, IsLaidOut}
use Rattle.signature_assign.proofs.Premises.{from_there, block_there, follows_succ, succ_follows, mapped, long_map}
use Rattle.lint_theorem.proofs.Ground.{in_text}
use Rattle.signature_assign.proofs.Head.{headed_items}
use Rattle.layout_hardened.proofs.Places
use Rattle.layout_hardened.proofs.Origin
use Rattle.layout_hardened.proofs.Goals
use Rattle.layout_hardened.proofs.Goals.{not_j, not_jal, cond_jumps}

module _ (s : Signed) (text : List ℕ) (place : ℕ → ℕ) (l : IsLaidOut s text place) (one_each : length s.marks ≡ length s.program.blocks) (f : WellFormed s.program) (fit : BlocksFit s.program) where
  abbrev p : HardProgram
  p = s.program

  abbrev count : ℕ
  count = length s.program.blocks

  abbrev entry : ℕ
  entry = place 0

  holds_at : (b j : ℕ) (i : Item) → ItemAt (items_of p b) j i → Holds p b i
  holds_at b j i e = (j, slice_get_within (items_of p b) j i e, get_or_from_slice_get (items_of p b) j i i e)

  item_at : (b : ℕ) (i : Item) → Holds p b i → (j : ℕ) × ItemAt (items_of p b) j i
  item_at b i h = (h.0, slice_get-get_or (items_of p b) h.0 i h.1 ∙ ap (λ (y : Item). Some y) h.2)

  -- Each start is the place of a block.

  pub IsPlace : ℕ → Type 0
  IsPlace a = (u : ℕ) × ((u < count) × (a ≡ place u))

  goal_there : (a goal : ℕ) → (g : Goals.BlockGoal s text place l one_each f fit a goal) → g.t < count
  goal_there a goal g = subst (λ (y : Fix). NamesThere p y) g.names (Origin.names_there s text place l one_each f fit g.b g.j g.item g.stands)

  goal_place : (a goal : ℕ) → Goals.BlockGoal s text place l one_each f fit a goal → (u : ℕ) × ((u < count) × (goal ≡ place u))
  goal_place a goal g = (g.t, (goal_there a goal g, g.goes))

  next_place : (a goal : ℕ) → (g : Goals.BlockGoal s text place l one_each f fit a goal) → g.b + 1 < count → (u : ℕ) × ((u < count) × (a + 8 ≡ place u))
  next_place a goal g h = (g.b + 1, (h, ap (λ (x : ℕ). x + 8) g.at ∙ Origin.behind_last s text place l one_each f fit g.b g.j g.there g.last))

  fork_next : (a goal : ℕ) → (g : Goals.ForkGoal s text place l one_each f fit a goal) → g.to.b + 1 < count
  fork_next a goal g = (f.branch_stays g.to.b g.to.j g.to.t g.is.0 g.is.1.0 g.is.1.1.0 g.to.item g.to.stands g.to.names g.is.1.1.1).0

  call_is : (a goal : ℕ) → (g : Goals.CallGoal s text place l one_each f fit a goal) → CallsFunction p g.b g.g
  call_is a goal g = record { item = g.item; target = g.z; holds = holds_at g.b g.j g.item g.stands; jumps = g.is; names = g.names }

  entry_of : (b j g : ℕ) (i : Item) → ItemAt (items_of p b) j i → i.fix ≡ Function g → slice_get p.entries g ≡ Some (slice_index p.entries g)
  entry_of b j g i e n = slice_get-get_or p.entries g 0 (subst (λ (y : Fix). NamesThere p y) n (Origin.names_there s text place l one_each f fit b j i e))

  entry_there : (g e : ℕ) → slice_get p.entries g ≡ Some e → e < count
  entry_there g e h = All-contains (λ (n : ℕ). n < count) p.entries e f.entries_there (g, slice_get_within p.entries g e h, get_or_from_slice_get p.entries g e e h)

  pub block : (a : ℕ) → IsStart text entry a → (u : ℕ) × ((u < count) × (a ≡ place u))
  block a (begins e) = (0, (f.has_block, e))
  block a (start_jumped c target at e) =
      let g : Goals.JumpGoal s text place l one_each f fit c (jump_goal c target) = Goals.j_of s text place l one_each f fit c target at in
      subst (λ (y : ℕ). (u : ℕ) × ((u < count) × (y ≡ place u))) (sym e) (goal_place c (jump_goal c target) g.to)
  block a (start_called c target at e) =
      let g : Goals.CallGoal s text place l one_each f fit c (jump_goal c target) = Goals.call_of s text place l one_each f fit c target at in
      (slice_index p.entries g.g, (entry_there g.g (slice_index p.entries g.g) (entry_of g.b g.j g.g g.item g.stands g.names), e ∙ g.goes))
  block a (start_returned c target at e) =
      let g : Goals.CallGoal s text place l one_each f fit c (jump_goal c target) = Goals.call_of s text place l one_each f fit c target at in
      (g.b + 1, (f.call_goes_on g.b g.g (call_is c (jump_goal c target) g), e ∙ (ap (λ (x : ℕ). x + 8) g.at ∙ Origin.behind_last s text place l one_each f fit g.b g.j g.there g.last)))
  block a (taken c imm k e) =
      let g : Goals.ForkGoal s text place l one_each f fit c (branch_goal c imm) = Goals.fork_of s text place l one_each f fit c imm k in
      subst (λ (y : ℕ). (u : ℕ) × ((u < count) × (y ≡ place u))) (sym e) (goal_place c (branch_goal c imm) g.to)
  block a (passed c imm k e) =
      let g : Goals.ForkGoal s text place l one_each f fit c (branch_goal c imm) = Goals.fork_of s text place l one_each f fit c imm k in
      subst (λ (y : ℕ). (u : ℕ) × ((u < count) × (y ≡ place u))) (sym e) (next_place c (branch_goal c imm) g.to (fork_next c (branch_goal c imm) g))

  -- Items that lead, read as words.

  pub record JumpWord (b t : ℕ) : Type 0 where
    pub a : ℕ
    pub j : ℕ
    pub at : a ≡ place b + 28 + 4 * j
    pub inside : j < length (items_of p b)
    pub target : ℕ
    pub word : At text a (J target)
    pub goes : place t ≡ jump_goal a target

  pub record CallWord (b g : ℕ) : Type 0 where
    pub a : ℕ
    pub j : ℕ
    pub at : a ≡ place b + 28 + 4 * j
    pub inside : j < length (items_of p b)
    pub last : j + 2 ≡ length (items_of p b)
    pub target : ℕ
    pub word : At text a (Jal target)
    pub goes : place (slice_index p.entries g) ≡ jump_goal a target

  pub record ForkWord (b t : ℕ) : Type 0 where
    pub a : ℕ
    pub j : ℕ
    pub at : a ≡ place b + 28 + 4 * j
    pub inside : j < length (items_of p b)
    pub last : j + 2 ≡ length (items_of p b)
    pub next : b + 1 < count
    pub imm : ℕ
    pub fork : ForkAt text a imm
    pub goes : place t ≡ branch_goal a imm

  stand : (b j : ℕ) (i : Item) → b < count → ItemAt (items_of p b) j i → Stands text p place b (place b + 28 + 4 * j) i
  stand b j i h e = Origin.word_at s text place l one_each f fit b j i h e

  pub jump_word : (b t z : ℕ) (i : Item) → b < count → Holds p b i → i.instr ≡ J z → i.fix ≡ Block t → JumpWord b t
  jump_word b t z i h k e n =
      let q : (j : ℕ) × ItemAt (items_of p b) j i = item_at b i k in
      by_fill q.0 (slice_get_within (items_of p b) q.0 i q.1) (stand b q.0 i h q.1) (stand b q.0 i h q.1).filled
    where
      by_fill : (j : ℕ) → j < length (items_of p b) → (w : Stands text p place b (place b + 28 + 4 * j) i) → IsFilled p place b (place b + 28 + 4 * j) i w.instr → JumpWord b t
      by_fill j d w (as_is g r) = absurd (cc)
      by_fill j d w (jump u y target g r x o) = record { a = place b + 28 + 4 * j; j = j; at = refl; inside = d; target = target; word = subst (λ (v : Instr). At text (place b + 28 + 4 * j) v) x w.word; goes = ap place (same_block (sym n ∙ g)) ∙ sym o }
        where
          same_block : Block t ≡ Block u → t ≡ u
          same_block e = cc
      by_fill j d w (branch_eq u rs rt y imm g r x o) = absurd (cc)
      by_fill j d w (branch_ne u rs rt y imm g r x o) = absurd (cc)
      by_fill j d w (call u y target g r x o) = absurd (cc)
      by_fill j d w (high rt y g r x) = absurd (cc)
      by_fill j d w (low rt rs y g r x) = absurd (cc)

  skip_cond : (b j : ℕ) (i : Item) → ItemAt (items_of p b) j i → (k : SkipsBreak (items_of p b) j) → IsBranch i.instr k.rs k.rt 2 × (i.fix ≡ Plain)
  skip_cond b j i e k =
      let same : k.branch ≡ i = Origin.same_item s text place l one_each f fit b j k.branch i k.stands e in
      (subst (λ (y : Item). IsBranch y.instr k.rs k.rt 2) same k.conditional, ap (λ (y : Item). y.fix) (sym same) ∙ k.no_field)

  call_last : (b j z : ℕ) (i : Item) → ItemAt (items_of p b) j i → i.instr ≡ Jal z → j + 2 ≡ length (items_of p b)
  call_last b j z i e r = elim (f.only_at_the_end b j i e (ap (λ (y : Instr). is_jump y) r)) as (λ y. j + 2 ≡ length (items_of p b)) [
    | inl k ↦ absurd (not_jal i.instr k.rs k.rt 2 z (skip_cond b j i e k).0 r)
    | inr g ↦ g
  ]

  pub call_word : (b g : ℕ) → b < count → CallsFunction p b g → CallWord b g
  call_word b g h k =
      let q : (j : ℕ) × ItemAt (items_of p b) j k.item = item_at b k.item k.holds in
      by_fill q.0 (slice_get_within (items_of p b) q.0 k.item q.1) (call_last b q.0 k.target k.item q.1 k.jumps) (stand b q.0 k.item h q.1) (stand b q.0 k.item h q.1).filled
    where
      i : Item
      i = k.item

      n : i.fix ≡ Function g
      n = k.names

      e : i.instr ≡ Jal k.target
      e = k.jumps

      by_fill : (j : ℕ) → j < length (items_of p b) → j + 2 ≡ length (items_of p b) → (w : Stands text p place b (place b + 28 + 4 * j) i) → IsFilled p place b (place b + 28 + 4 * j) i w.instr → CallWord b g
      by_fill j d m w (as_is o r) = absurd (apart_plain g (sym n ∙ o))
        where
          apart_plain : (u : ℕ) → Function u ≡ Plain → ⊥
          apart_plain u e = cc
      by_fill j d m w (jump u y target o r x v) = absurd (apart_block g u (sym n ∙ o))
        where
          apart_block : (u t : ℕ) → Function u ≡ Block t → ⊥
          apart_block u t e = cc
      by_fill j d m w (branch_eq u rs rt y imm o r x v) = absurd (apart_block g u (sym n ∙ o))
        where
          apart_block : (u t : ℕ) → Function u ≡ Block t → ⊥
          apart_block u t e = cc
      by_fill j d m w (branch_ne u rs rt y imm o r x v) = absurd (apart_block g u (sym n ∙ o))
        where
          apart_block : (u t : ℕ) → Function u ≡ Block t → ⊥
          apart_block u t e = cc
      by_fill j d m w (call u y target o r x v) = record { a = place b + 28 + 4 * j; j = j; at = refl; inside = d; last = m; target = target; word = subst (λ (c : Instr). At text (place b + 28 + 4 * j) c) x w.word; goes = ap (λ (c : ℕ). place (slice_index p.entries c)) (same_function g u (sym n ∙ o)) ∙ sym v }
        where
          same_function : (u t : ℕ) → Function u ≡ Function t → u ≡ t
          same_function u t e = cc
      by_fill j d m w (high rt y o r x) = absurd (apart_high g (sym n ∙ o))
        where
          apart_high : (u : ℕ) → Function u ≡ ReturnHigh → ⊥
          apart_high u e = cc
      by_fill j d m w (low rt rs y o r x) = absurd (apart_low g (sym n ∙ o))
        where
          apart_low : (u : ℕ) → Function u ≡ ReturnLow → ⊥
          apart_low u e = cc

  cond_last : (b j rs rt z t : ℕ) (i : Item) → ItemAt (items_of p b) j i → IsBranch i.instr rs rt z → i.fix ≡ Block t → j + 2 ≡ length (items_of p b)
  cond_last b j rs rt z t i e r n = elim (f.only_at_the_end b j i e (cond_jumps i.instr rs rt z r)) as (λ y. j + 2 ≡ length (items_of p b)) [
    | inl k ↦ absurd (apart_plain t (sym n ∙ (skip_cond b j i e k).1))
    | inr g ↦ g
  ]
    where
      apart_plain : (u : ℕ) → Block u ≡ Plain → ⊥
      apart_plain u e = cc

  pub fork_word : (b t rs rt z : ℕ) (i : Item) → b < count → Holds p b i → IsBranch i.instr rs rt z → i.fix ≡ Block t → ForkWord b t
  fork_word b t rs rt z i h k r n =
      let q : (j : ℕ) × ItemAt (items_of p b) j i = item_at b i k in
      let last : q.0 + 2 ≡ length (items_of p b) = cond_last b q.0 rs rt z t i q.1 r n in
      let next : b + 1 < count = (f.branch_stays b q.0 t rs rt z i q.1 n r).0 in
      by_fill q.0 (slice_get_within (items_of p b) q.0 i q.1) last next (stand b q.0 i h q.1) (stand b q.0 i h q.1).filled
    where
      same_block : (u v : ℕ) → Block u ≡ Block v → u ≡ v
      same_block u v e = cc

      fork : (j imm x y : ℕ) (w : Instr) → j + 2 ≡ length (items_of p b) → b + 1 < count → At text (place b + 28 + 4 * j) w → IsBranch w x y imm → ForkAt text (place b + 28 + 4 * j) imm
      fork j imm x y w last next at is = record { x = x; y = y; branch = record { instr = w; at = at; is = is }; skips_none = λ code k. Origin.closing_skips_none s text place l one_each f fit (place b + 28 + 4 * j) b j code refl h last next k }

      by_fill : (j : ℕ) → j < length (items_of p b) → j + 2 ≡ length (items_of p b) → b + 1 < count → (w : Stands text p place b (place b + 28 + 4 * j) i) → IsFilled p place b (place b + 28 + 4 * j) i w.instr → ForkWord b t
      by_fill j d m x w (as_is o v) = absurd (apart_plain t (sym n ∙ o))
        where
          apart_plain : (u : ℕ) → Block u ≡ Plain → ⊥
          apart_plain u e = cc
      by_fill j d m x w (jump u y target o v c g) = absurd (not_j i.instr rs rt z y r v)
      by_fill j d m x w (branch_eq u xs xt y imm o v c g) = record { a = place b + 28 + 4 * j; j = j; at = refl; inside = d; last = m; next = x; imm = imm; fork = fork j imm xs xt w.instr m x w.word (inl c); goes = ap place (same_block t u (sym n ∙ o)) ∙ sym g }
      by_fill j d m x w (branch_ne u xs xt y imm o v c g) = record { a = place b + 28 + 4 * j; j = j; at = refl; inside = d; last = m; next = x; imm = imm; fork = fork j imm xs xt w.instr m x w.word (inr c); goes = ap place (same_block t u (sym n ∙ o)) ∙ sym g }
      by_fill j d m x w (call u y target o v c g) = absurd (not_jal i.instr rs rt z y r v)
      by_fill j d m x w (high xt y o v c) = absurd (apart_high t (sym n ∙ o))
        where
          apart_high : (u : ℕ) → Block u ≡ ReturnHigh → ⊥
          apart_high u e = cc
      by_fill j d m x w (low xt xs y o v c) = absurd (apart_low t (sym n ∙ o))
        where
          apart_low : (u : ℕ) → Block u ≡ ReturnLow → ⊥
          apart_low u e = cc

  -- Each block's place is a start.

  from_inside : (b c : ℕ) → MayFollow p b c → b < count
  from_inside b c m = let d : (d : Rattle.hard_items.specs.declared.code.HardBlock.HardBlock) × (slice_get p.blocks b ≡ Some d) = from_there p b c m in slice_get_within p.blocks b d.0 d.1

  caller_inside : (b g : ℕ) → CallsFunction p b g → b < count
  caller_inside b g k = let d : (d : Rattle.hard_items.specs.declared.code.HardBlock.HardBlock) × (slice_get p.blocks b ≡ Some d) = block_there p b k.item k.holds in slice_get_within p.blocks b d.0 d.1

  behind_call : (b g : ℕ) → b < count → (w : CallWord b g) → place (b + 1) ≡ w.a + 8
  behind_call b g h w = sym (ap (λ (x : ℕ). x + 8) w.at ∙ Origin.behind_last s text place l one_each f fit b w.j h w.last)

  behind_fork : (b t : ℕ) → b < count → (w : ForkWord b t) → place (b + 1) ≡ w.a + 8
  behind_fork b t h w = sym (ap (λ (x : ℕ). x + 8) w.at ∙ Origin.behind_last s text place l one_each f fit b w.j h w.last)

  entry_is : (g c : ℕ) → slice_get p.entries g ≡ Some c → slice_index p.entries g ≡ c
  entry_is g c e = get_or_from_slice_get p.entries g c 0 e

  start_called_next : (b g : ℕ) → CallsFunction p b g → IsStart text entry (place (b + 1))
  start_called_next b g k =
      let h : b < count = caller_inside b g k in
      let w : CallWord b g = call_word b g h k in
      start_returned w.a w.target w.word (behind_call b g h w)

  start_follow : (b c : ℕ) → MayFollow p b c → b < count → IsStart text entry (place c)
  start_follow b c (jumped x z i k e n) h = let w : JumpWord b x = jump_word b x z i h k e n in start_jumped w.a w.target w.word w.goes
  start_follow b c (branched_eq x rs rt z i k e n) h = let w : ForkWord b x = fork_word b x rs rt z i h k (inl e) n in taken w.a w.imm w.fork w.goes
  start_follow b c (branched_ne x rs rt z i k e n) h = let w : ForkWord b x = fork_word b x rs rt z i h k (inr e) n in taken w.a w.imm w.fork w.goes
  start_follow b c (fallen_eq x rs rt z i k e n) h = let w : ForkWord b x = fork_word b x rs rt z i h k (inl e) n in passed w.a w.imm w.fork (behind_fork b x h w)
  start_follow b c (fallen_ne x rs rt z i k e n) h = let w : ForkWord b x = fork_word b x rs rt z i h k (inr e) n in passed w.a w.imm w.fork (behind_fork b x h w)
  start_follow b c (called g x k e) h = let w : CallWord b g = call_word b g h k in start_called w.a w.target w.word (ap place (sym (entry_is g c e)) ∙ w.goes)
  start_follow b c (returned g caller rs i k e o q) h = start_called_next caller g q

  zero_or : (u : ℕ) → (u ≡ 0) ⊎ (0 < u)
  zero_or u = grind arith

  pub start : (u : ℕ) → u < count → IsStart text entry (place u)
  start u h = elim (zero_or u) as (λ z. IsStart text entry (place u)) [
    | inl e ↦ begins (ap place e)
    | inr g ↦ elim (f.each_entered u g h) as (λ z. IsStart text entry (place u)) [
      | inl m ↦ start_follow m.0 u m.1 (from_inside m.0 u m.1)
      | inr m ↦ subst (λ (x : ℕ). IsStart text entry (place x)) (sym m.2) (start_called_next m.0 m.1 m.3)
    ]
  ]

  -- The words of a block are the span of its place.

  order_back : (b c : ℕ) → b ≤ count → c < count → place b ≤ place c → b ≤ c
  order_back b c h k e = Places.order_back s text place l one_each b c h k e

  same_place : (b c : ℕ) → b < count → c < count → place b ≡ place c → b ≡ c
  same_place b c h k e = Places.same_place s text place l one_each b c h k e

  size_is : (b : ℕ) → b < count → length (items_of (headed s) b) ≡ suc (suc (suc (suc (suc (suc (suc (length (items_of p b))))))))
  size_is b h = ap length (headed_items s b one_each h)

  inside_end : (b j a : ℕ) → b < count → j < length (items_of p b) → a ≡ place b + 28 + 4 * j → a < place b + 4 * length (items_of (headed s) b)
  inside_end b j a h d e = subst (λ (n : ℕ). a < place b + 4 * n) (sym (size_is b h)) (sum (place b) (length (items_of p b)) d e)
    where
      sum : (x n : ℕ) → j < n → a ≡ x + 28 + 4 * j → a < x + 4 * suc (suc (suc (suc (suc (suc (suc n))))))
      sum x n d e = omega arith

  pub in_span_at : (b j a : ℕ) → b < count → j < length (items_of p b) → a ≡ place b + 28 + 4 * j → InText text a → InSpan text entry (place b) a
  in_span_at b j a h d e t = record { start = start b h; in_text = t; from = above (place b) e; last = last }
    where
      above : (x : ℕ) → a ≡ x + 28 + 4 * j → x ≤ a
      above x e = omega arith

      contra : (x y : ℕ) → a < x → x ≤ y → y ≤ a → ⊥
      contra x y g k m = omega arith

      by_block : (v u : ℕ) → u < count → v ≡ place u → v ≤ a → (b < u) ⊎ (u ≤ b) → v ≤ place b
      by_block v u k g m (inl o) = absurd (contra (place b + 4 * length (items_of (headed s) b)) v (inside_end b j a h d e) (subst (λ (x : ℕ). place b + 4 * length (items_of (headed s) b) ≤ x) (sym g) (Places.ascends s text place l one_each b u o (below u k))) m)
        where
          below : (x : ℕ) → x < count → x ≤ count
          below x h = omega arith
      by_block v u k g m (inr o) = subst (λ (x : ℕ). x ≤ place b) (sym g) (Places.not_above s text place l one_each u b o (below b h))
        where
          below : (x : ℕ) → x < count → x ≤ count
          below x h = omega arith

      last : (v : ℕ) → IsStart text entry v → v ≤ a → v ≤ place b
      last v st m = let u : (u : ℕ) × ((u < count) × (v ≡ place u)) = block v st in by_block v u.0 u.1.0 u.1.1 m (Places.less_or b u.0)

  -- and a span that has a word of a block is the block's
  pub block_of : (u b j a : ℕ) → u < count → b < count → j < length (items_of p b) → a ≡ place b + 28 + 4 * j → InSpan text entry (place u) a → b ≡ u
  block_of u b j a hu hb d e x = sym (same_place u b hu hb (both (place u) (place b) (y.last (place u) x.start x.from) (x.last (place b) (start b hb) y.from)))
    where
      y : InSpan text entry (place b) a
      y = in_span_at b j a hb d e x.in_text

      both : (v w : ℕ) → v ≤ w → w ≤ v → v ≡ w
      both v w h k = omega arith

  -- Functions.

  function_entry : (v : ℕ) → IsFunction text entry v → (v ≡ place 0) ⊎ ((g : ℕ) × ((c : ℕ) × ((slice_get p.entries g ≡ Some c) × (v ≡ place c))))
  function_entry v (main e) = inl e
  function_entry v (callee a target at e) =
      let g : Goals.CallGoal s text place l one_each f fit a (jump_goal a target) = Goals.call_of s text place l one_each f fit a target at in
      inr (g.g, (slice_index p.entries g.g, (entry_of g.b g.j g.g g.item g.stands g.names, e ∙ g.goes)))

  holds_of : (b g caller : ℕ) → b < count → (o : IsOfFunction p b g) → CallsFunction p caller g → TextHolds text entry (place o.entry) (place b)
  holds_of b g caller h o k =
      let w : CallWord caller g = call_word caller g (caller_inside caller g k) k in
      record {
        is = callee w.a w.target w.word (ap place (sym (entry_is g o.entry o.is_entry)) ∙ w.goes);
        not_above = Places.not_above s text place l one_each o.entry b o.not_above (below b h);
        greatest = greatest;
      }
    where
      below : (x : ℕ) → x < count → x ≤ count
      below x h = omega arith

      e_there : o.entry < count
      e_there = entry_there g o.entry o.is_entry

      by_entry : (v : ℕ) → v ≤ place b → (v ≡ place 0) ⊎ ((g : ℕ) × ((c : ℕ) × ((slice_get p.entries g ≡ Some c) × (v ≡ place c)))) → v ≤ place o.entry
      by_entry v m (inl e) = subst (λ (x : ℕ). x ≤ place o.entry) (sym e) (Places.not_above s text place l one_each 0 o.entry (nothing o.entry) (below o.entry e_there))
        where
          nothing : (x : ℕ) → 0 ≤ x
          nothing x = omega arith
      by_entry v m (inr q) =
          let c_there : q.1.0 < count = entry_there q.0 q.1.0 q.1.1.0 in
          let c_below : q.1.0 ≤ b = order_back q.1.0 b (below q.1.0 c_there) h (subst (λ (x : ℕ). x ≤ place b) q.1.1.1 m) in
          subst (λ (x : ℕ). x ≤ place o.entry) (sym q.1.1.1) (Places.not_above s text place l one_each q.1.0 o.entry (o.greatest q.0 q.1.0 q.1.1.0 c_below) (below o.entry e_there))

      greatest : (v : ℕ) → IsFunction text entry v → v ≤ place b → v ≤ place o.entry
      greatest v i m = by_entry v m (function_entry v i)

  -- A block that may follow is a successor.

  inside_text : (a : ℕ) (x : Instr) → At text a x → InText text a
  inside_text a x at = in_text text a x at

  jump_succ : (b t : ℕ) → b < count → JumpWord b t → Succ text entry (place b) (place t)
  jump_succ b t h w = record { at = w.a; in_span = in_span_at b w.j w.a h w.inside w.at (in_text text w.a (J w.target) w.word); leads = jumps w.target w.word w.goes }

  fork_text : (b t : ℕ) (w : ForkWord b t) → InText text w.a
  fork_text b t w = in_text text w.a w.fork.branch.instr w.fork.branch.at

  take_succ : (b t : ℕ) → b < count → ForkWord b t → Succ text entry (place b) (place t)
  take_succ b t h w = record { at = w.a; in_span = in_span_at b w.j w.a h w.inside w.at (fork_text b t w); leads = takes w.imm w.fork w.goes }

  pass_succ : (b t : ℕ) → b < count → ForkWord b t → Succ text entry (place b) (place (b + 1))
  pass_succ b t h w = record { at = w.a; in_span = in_span_at b w.j w.a h w.inside w.at (fork_text b t w); leads = passes w.imm w.fork (behind_fork b t h w) }

  plain_jr : (b j rs : ℕ) (i : Item) → b < count → ItemAt (items_of p b) j i → i.instr ≡ Jr rs → At text (place b + 28 + 4 * j) (Jr rs)
  plain_jr b j rs i h e r =
      let w : Stands text p place b (place b + 28 + 4 * j) i = stand b j i h e in
      subst (λ (x : Instr). At text (place b + 28 + 4 * j) x) (Origin.filled_plain p place b (place b + 28 + 4 * j) i w.instr w.filled (field_jr i.fix (subst (λ (x : Instr). FieldFits i.fix x) r (Origin.fields_fit s text place l one_each f fit b j i e))) ∙ r) w.word
    where
      field_jr : (g : Fix) → FieldFits g (Jr rs) → g ≡ Plain
      field_jr Plain h = refl
      field_jr (Block t) h = absurd h
      field_jr (Function t) h = absurd h
      field_jr ReturnHigh h = absurd h
      field_jr ReturnLow h = absurd h

  pub follow_succ : (b c : ℕ) → MayFollow p b c → b < count → Succ text entry (place b) (place c)
  follow_succ b c (jumped x z i k e n) h = jump_succ b x h (jump_word b x z i h k e n)
  follow_succ b c (branched_eq x rs rt z i k e n) h = take_succ b x h (fork_word b x rs rt z i h k (inl e) n)
  follow_succ b c (branched_ne x rs rt z i k e n) h = take_succ b x h (fork_word b x rs rt z i h k (inr e) n)
  follow_succ b c (fallen_eq x rs rt z i k e n) h = pass_succ b x h (fork_word b x rs rt z i h k (inl e) n)
  follow_succ b c (fallen_ne x rs rt z i k e n) h = pass_succ b x h (fork_word b x rs rt z i h k (inr e) n)
  follow_succ b c (called g x k e) h =
      let w : CallWord b g = call_word b g h k in
      record { at = w.a; in_span = in_span_at b w.j w.a h w.inside w.at (in_text text w.a (Jal w.target) w.word); leads = calls w.target w.word (ap place (sym (entry_is g c e)) ∙ w.goes) }
  follow_succ b c (returned g caller rs i k e o q) h =
      let w : CallWord caller g = call_word caller g (caller_inside caller g q) q in
      let j : (j : ℕ) × ItemAt (items_of p b) j i = item_at b i k in
      let at : At text (place b + 28 + 4 * j.0) (Jr rs) = plain_jr b j.0 rs i h j.1 e in
      record {
        at = place b + 28 + 4 * j.0;
        in_span = in_span_at b j.0 (place b + 28 + 4 * j.0) h (slice_get_within (items_of p b) j.0 i j.1) refl (in_text text (place b + 28 + 4 * j.0) (Jr rs) at);
        leads = returns rs (place o.entry) w.a w.target at (holds_of b g caller h o q) w.word (ap place (sym (entry_is g o.entry o.is_entry)) ∙ w.goes) (behind_call caller g (caller_inside caller g q) w);
      }

  -- A successor may follow.

  inside_of : (j n : ℕ) → j + 2 ≡ n → j < n
  inside_of j n e = omega arith

  -- the function that holds a block, read off the text, is the program's
  function_of : (called_ : EachCalled p) (b g : ℕ) → b < count → slice_get p.entries g ≡ Some (slice_index p.entries g) → TextHolds text entry (place (slice_index p.entries g)) (place b) → IsOfFunction p b g
  function_of called_ b g h e k = record {
    entry = slice_index p.entries g;
    is_entry = e;
    not_above = order_back (slice_index p.entries g) b (below (slice_index p.entries g) (entry_there g (slice_index p.entries g) e)) h k.not_above;
    greatest = λ o c q m. greatest o c q m (called_ o c q);
  }
    where
      below : (x : ℕ) → x < count → x ≤ count
      below x h = omega arith

      nothing : (x : ℕ) → 0 ≤ x
      nothing x = omega arith

      greatest : (o c : ℕ) → slice_get p.entries o ≡ Some c → c ≤ b → (c ≡ 0) ⊎ ((d : ℕ) × CallsFunction p d o) → c ≤ slice_index p.entries g
      greatest o c q m (inl z) = subst (λ (x : ℕ). x ≤ slice_index p.entries g) (sym z) (nothing (slice_index p.entries g))
      greatest o c q m (inr d) =
          let w : CallWord d.0 o = call_word d.0 o (caller_inside d.0 o d.1) d.1 in
          let is : IsFunction text entry (place c) = callee w.a w.target w.word (ap place (sym (entry_is o c q)) ∙ w.goes) in
          order_back c (slice_index p.entries g) (below c (entry_there o c q)) (entry_there g (slice_index p.entries g) e)
          (k.greatest (place c) is (Places.not_above s text place l one_each c b m (below b h)))

  pub succ_follow : EachCalled p → (u w : ℕ) → u < count → w < count → Succ text entry (place u) (place w) → MayFollow p u w
  succ_follow called_ u w hu hw x = by_lead x.at x.in_span x.leads
    where
      by_lead : (a : ℕ) → InSpan text entry (place u) a → LeadsTo text entry (place u) a (place w) → MayFollow p u w
      by_lead a sp (jumps target at e) =
          let g : Goals.JumpGoal s text place l one_each f fit a (jump_goal a target) = Goals.j_of s text place l one_each f fit a target at in
          let q : Goals.BlockGoal s text place l one_each f fit a (jump_goal a target) = g.to in
          let same : q.b ≡ u = block_of u q.b q.j a hu q.there (inside_of q.j (length (items_of p q.b)) q.last) q.at sp in
          let to : q.t ≡ w = same_place q.t w (goal_there a (jump_goal a target) q) hw (sym (e ∙ q.goes)) in
          subst (λ (y : ℕ). MayFollow p y w) same (subst (λ (y : ℕ). MayFollow p q.b y) to (jumped q.t g.z q.item (holds_at q.b q.j q.item q.stands) g.is q.names))
      by_lead a sp (calls target at e) =
          let g : Goals.CallGoal s text place l one_each f fit a (jump_goal a target) = Goals.call_of s text place l one_each f fit a target at in
          let same : g.b ≡ u = block_of u g.b g.j a hu g.there (inside_of g.j (length (items_of p g.b)) g.last) g.at sp in
          let en : slice_get p.entries g.g ≡ Some (slice_index p.entries g.g) = entry_of g.b g.j g.g g.item g.stands g.names in
          let to : slice_index p.entries g.g ≡ w = same_place (slice_index p.entries g.g) w (entry_there g.g (slice_index p.entries g.g) en) hw (sym (e ∙ g.goes)) in
          subst (λ (y : ℕ). MayFollow p y w) same (subst (λ (y : ℕ). MayFollow p g.b y) to (called g.g (slice_index p.entries g.g) (call_is a (jump_goal a target) g) en))
      by_lead a sp (takes imm k e) =
          let g : Goals.ForkGoal s text place l one_each f fit a (branch_goal a imm) = Goals.fork_of s text place l one_each f fit a imm k in
          let q : Goals.BlockGoal s text place l one_each f fit a (branch_goal a imm) = g.to in
          let same : q.b ≡ u = block_of u q.b q.j a hu q.there (inside_of q.j (length (items_of p q.b)) q.last) q.at sp in
          let to : q.t ≡ w = same_place q.t w (goal_there a (branch_goal a imm) q) hw (sym (e ∙ q.goes)) in
          subst (λ (y : ℕ). MayFollow p y w) same (subst (λ (y : ℕ). MayFollow p q.b y) to (elim g.is.1.1.1 as (λ z. MayFollow p q.b q.t) [
            | inl r ↦ branched_eq q.t g.is.0 g.is.1.0 g.is.1.1.0 q.item (holds_at q.b q.j q.item q.stands) r q.names
            | inr r ↦ branched_ne q.t g.is.0 g.is.1.0 g.is.1.1.0 q.item (holds_at q.b q.j q.item q.stands) r q.names
          ]))
      by_lead a sp (passes imm k e) =
          let g : Goals.ForkGoal s text place l one_each f fit a (branch_goal a imm) = Goals.fork_of s text place l one_each f fit a imm k in
          let q : Goals.BlockGoal s text place l one_each f fit a (branch_goal a imm) = g.to in
          let n : q.b + 1 < count = fork_next a (branch_goal a imm) g in
          let same : q.b ≡ u = block_of u q.b q.j a hu q.there (inside_of q.j (length (items_of p q.b)) q.last) q.at sp in
          let behind : a + 8 ≡ place (q.b + 1) = ap (λ (x : ℕ). x + 8) q.at ∙ Origin.behind_last s text place l one_each f fit q.b q.j q.there q.last in
          let to : q.b + 1 ≡ w = same_place (q.b + 1) w n hw (sym (e ∙ behind)) in
          subst (λ (y : ℕ). MayFollow p y w) same (subst (λ (y : ℕ). MayFollow p q.b y) to (elim g.is.1.1.1 as (λ z. MayFollow p q.b (q.b + 1)) [
            | inl r ↦ fallen_eq q.t g.is.0 g.is.1.0 g.is.1.1.0 q.item (holds_at q.b q.j q.item q.stands) r q.names
            | inr r ↦ fallen_ne q.t g.is.0 g.is.1.0 g.is.1.1.0 q.item (holds_at q.b q.j q.item q.stands) r q.names
          ]))
      by_lead a sp (returns rs v c target at k cat ve e) =
          let r : Goals.ReturnOf s text place l one_each f fit a rs = Goals.return_of s text place l one_each f fit a rs at in
          let g : Goals.CallGoal s text place l one_each f fit c (jump_goal c target) = Goals.call_of s text place l one_each f fit c target cat in
          let same : r.b ≡ u = block_of u r.b r.j a hu r.there (slice_get_within (items_of p r.b) r.j r.item r.stands) r.at sp in
          let en : slice_get p.entries g.g ≡ Some (slice_index p.entries g.g) = entry_of g.b g.j g.g g.item g.stands g.names in
          let holds : TextHolds text entry (place (slice_index p.entries g.g)) (place u) = subst (λ (y : ℕ). TextHolds text entry y (place u)) (ve ∙ g.goes) k in
          let behind : c + 8 ≡ place (g.b + 1) = ap (λ (x : ℕ). x + 8) g.at ∙ Origin.behind_last s text place l one_each f fit g.b g.j g.there g.last in
          let call_ : CallsFunction p g.b g.g = call_is c (jump_goal c target) g in
          let to : g.b + 1 ≡ w = same_place (g.b + 1) w (f.call_goes_on g.b g.g call_) hw (sym (e ∙ behind)) in
          let of : IsOfFunction p r.b g.g = subst (λ (y : ℕ). IsOfFunction p y g.g) (sym same) (function_of called_ u g.g hu en holds) in
          subst (λ (y : ℕ). MayFollow p y w) same (subst (λ (y : ℕ). MayFollow p r.b y) to (returned g.g g.b rs r.item (holds_at r.b r.j r.item r.stands) r.is of call_))

  -- Heads.

  pub head_stands : (u : ℕ) → u < count → HeadAt text (place u) (head_of (mark_at s u))
  head_stands u h = record {
    differs = subst (λ (c : ℕ). At text c (Xori 24 24 m.d)) (zero_more (place u)) (Origin.head_word s text place l one_each f fit u 0 (Xori 24 24 m.d) h (λ xs. refl));
    adjusts = Origin.head_word s text place l one_each f fit u 1 (if m.fan then Xor 24 24 28 else Sll 0 0 0) h (λ xs. refl);
    wants = Origin.head_word s text place l one_each f fit u 2 (Ori 1 0 m.s) h (λ xs. refl);
    leaves = Origin.head_word s text place l one_each f fit u 3 (Ori 28 0 m.adjust) h (λ xs. refl);
    compares = Origin.head_word s text place l one_each f fit u 4 (Beq 24 1 2) h (λ xs. refl);
    waits = Origin.head_word s text place l one_each f fit u 5 (Sll 0 0 0) h (λ xs. refl);
    reports = Origin.head_word s text place l one_each f fit u 6 (Break 2) h (λ xs. refl);
  }
    where
      m : Mark
      m = mark_at s u

      zero_more : (x : ℕ) → x + 4 * 0 ≡ x
      zero_more x = omega arith

  -- The whole.

  pub laid : EachCalled p → IsLaid (successors_of p) (map head_of s.marks) text entry place
  laid called_ = record {
    start = λ u h. start u (less u h);
    block = λ a st. let u : (u : ℕ) × ((u < count) × (a ≡ place u)) = block a st in (u.0, (more u.0 u.1.0, u.1.1));
    apart = λ u w h k e. same_place u w (less u h) (less w k) e;
    follows = λ u w q. let h : u < count = less u (source (successors_of p) u w q) in follow_succ u w (succ_follows p u w f h q) h;
    followed = λ u w h k x. follows_succ p u w f (succ_follow called_ u w (less u h) (less w k) x);
    head = λ u h. subst (λ (x : Head). HeadAt text (place u) x) (sym (mapped s.marks u)) (head_stands u (less u h));
  }
    where
      less : (u : ℕ) → u < length (successors_of p) → u < count
      less u h = subst (λ (n : ℕ). u < n) (long_map p.blocks) h

      more : (u : ℕ) → u < count → u < length (successors_of p)
      more u h = subst (λ (n : ℕ). u < n) (sym (long_map p.blocks)) h
