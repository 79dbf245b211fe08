-- A program with blocks put behind its blocks is well formed where the program was, if its lists of successors are.
use Rattle.std.proofs.Common.{zero-lt-suc, suc-le-suc, ◌≡◌, ◌≤◌, ◌<◌, ℕ, zero, suc, ◌+◌, ◌^◌, arith, ap, refl, sym, ◌∙◌, subst, List, [], ◌∷◌, length, map, Bool, inl, inr}
use Rattle.std.specs.Prelude.{Option, Some, None, ◌⊎◌, ◌↔◌, slice_get, All, Contains}
use Rattle.std.proofs.lemmas.List.{length-map}
use Rattle.std.proofs.lemmas.List.Elements.{All-weaker, All-map, All-nil, All-cons}
use Rattle.mips_isa.specs.declared.instr.Instr.{Instr}
use Rattle.mips_isa.specs.declared.instr.Instr.TheVariants.{J, Jr, Beq, Bne, Sll}
use Rattle.mips_isa.specs.Table.{IsInRange}
use Rattle.hard_items.specs.declared.code.Class.TheVariants.{Act}
use Rattle.hard_items.specs.declared.code.Fix.{Fix}
use Rattle.hard_items.specs.declared.code.Fix.TheVariants.{Plain, Block, Function, ReturnHigh, ReturnLow}
use Rattle.hard_items.specs.declared.code.Item.{Item}
use Rattle.hard_items.specs.declared.code.HardBlock.{HardBlock}
use Rattle.hard_items.specs.declared.code.HardProgram.{HardProgram}
use Rattle.hard_items.specs.Streams.{plain}
use Rattle.hard_items.specs.Run.{items_of, block_items}
use Rattle.hard_items.specs.Ways.{Holds, MayFollow, IsOfFunction, CallsFunction, EachCalled}
use Rattle.hard_items.specs.WellFormed.{WellFormed, ItemAt, FieldFits, NamesThere}
use Rattle.hard_items.specs.Forms.{Close, Jump, Branch, Call, Return, Exit, close_items, Formed}
use Rattle.hard_laws.proofs.Scan as scan
use Rattle.block_relays.specs.Relays.{Relays, Nothing, Next, Turned, Both, goals, place_of, goal_place, turned, put_as, put_item}
use Rattle.block_relays.proofs.Keeps.{put_close, formed_kept}
use Rattle.block_relays.proofs.Relays.{place_up, items_placed, got_map, calls_put, place_next, holds_there}
use Rattle.block_relays.proofs.Roles.{IsReturnClose, goes_of, role_of, is_return}
use Rattle.layout_law.proofs.Laying.{holds_at}
use Rattle.layout_moves_law.proofs.Closes.{closing, holds_closing, Branches, branches, branch_item}
use Rattle.layout_moves_law.proofs.Places.{Puts, may_close, Put, Located, at_place, at_relay, located, place_once, place_within, Closed, closed, jumps_only, jumps_close, below, below_next, in_function}
use Rattle.layout_moves_law.proofs.Ways.{Forks, forks, branches_to, goal_there, Caller, caller, each_entered, first_not_entered}

-- ---- lists

pub at_contains : (xs : List Item) (k : ℕ) (i : Item) → ItemAt xs k i → Contains xs i
at_contains [] k i e = absurd (none i e)
  where
    none : (x : Item) → None ≡ Some x → ⊥
    none x e = cc
at_contains (y ∷ ys) zero i e = (0, zero-lt-suc (length ys), same y i e)
  where
    same : (a b : Item) → Some a ≡ Some b → a ≡ b
    same a b g = cc
at_contains (y ∷ ys) (suc k) i e = let c : Contains ys i = at_contains ys k i e in (suc c.0, suc-le-suc c.1, c.2)

pub in_blocks : (xs : List HardBlock) (b : ℕ) → (b < length xs) ⊎ (slice_get xs b ≡ None)
in_blocks [] b = inr refl
in_blocks (x ∷ xs) zero = inl (zero-lt-suc (length xs))
in_blocks (x ∷ xs) (suc b) = elim (in_blocks xs b) [ inl l ↦ inl (suc-le-suc l) | inr e ↦ inr e ]

-- ---- one item in its place

turned_range : (r : Relays) (x : Instr) → IsInRange x → IsInRange (turned r x)
turned_range Nothing x h = h
turned_range Next x h = h
turned_range (Both t) x h = h
turned_range (Turned t) (Beq rs rt imm) h = h
turned_range (Turned t) (Bne rs rt imm) h = h
turned_range (Turned t) x h = h

item_range : (place : ℕ → ℕ) (b : ℕ) (r : Relays) (i : Item) (f : Fix) → IsInRange i.instr → IsInRange (put_as place b r i f).instr
item_range place b r i Plain h = h
item_range place b r i (Block t) h = turned_range r i.instr h
item_range place b r i (Function f) h = h
item_range place b r i ReturnHigh h = h
item_range place b r i ReturnLow h = h

turned_fits : (r : Relays) (t u : ℕ) (x : Instr) → FieldFits (Block t) x → FieldFits (Block u) (turned r x)
turned_fits Nothing t u x h = h
turned_fits Next t u x h = h
turned_fits (Both v) t u x h = h
turned_fits (Turned v) t u (Beq rs rt imm) h = h
turned_fits (Turned v) t u (Bne rs rt imm) h = h
turned_fits (Turned v) t u (J target) h = h
turned_fits (Turned v) t u x h = h

item_fits : (place : ℕ → ℕ) (b : ℕ) (r : Relays) (i : Item) (f : Fix) → i.fix ≡ f → FieldFits f i.instr → FieldFits (put_as place b r i f).fix (put_as place b r i f).instr
item_fits place b r i Plain e h = subst (λ (z : Fix). FieldFits z i.instr) (sym e) h
item_fits place b r i (Block t) e h = turned_fits r t (goal_place place b r t) i.instr h
item_fits place b r i (Function f) e h = subst (λ (z : Fix). FieldFits z i.instr) (sym e) h
item_fits place b r i ReturnHigh e h = subst (λ (z : Fix). FieldFits z i.instr) (sym e) h
item_fits place b r i ReturnLow e h = subst (λ (z : Fix). FieldFits z i.instr) (sym e) h

two : (P : Item → Type 0) (i j : Item) → P i → P j → All P (i ∷ j ∷ [])
two P i j h k = All-cons P i (j ∷ []) h (All-cons P j [] k (All-nil P))

-- ---- closes

pub put_branch : (place : ℕ → ℕ) (b u : ℕ) (r : Relays) (c : Close) → Branches (put_close place b r c) u → (t : ℕ) × (Branches c t × (u ≡ goal_place place b r t))
put_branch place b u r (Branch checked m when t) h = (t, (record { checked = checked; register = m; when = when; is = refl }, same h.checked h.register h.when _ h.is))
  where
    same : (x : Bool) (y : ℕ) (z w : Bool) → Branch checked m w (goal_place place b r t) ≡ Branch x y z u → u ≡ goal_place place b r t
    same x y z w e = cc
put_branch place b u r (Jump t) h = absurd (no h.checked h.register h.when h.is)
  where
    no : (x : Bool) (y : ℕ) (z : Bool) → Jump (goal_place place b r t) ≡ Branch x y z u → ⊥
    no x y z e = cc
put_branch place b u r (Call f) h = absurd (no h.checked h.register h.when h.is)
  where
    no : (x : Bool) (y : ℕ) (z : Bool) → Call f ≡ Branch x y z u → ⊥
    no x y z e = cc
put_branch place b u r (Return checked) h = absurd (no h.checked h.register h.when h.is)
  where
    no : (x : Bool) (y : ℕ) (z : Bool) → Return checked ≡ Branch x y z u → ⊥
    no x y z e = cc
put_branch place b u r (Exit checked) h = absurd (no h.checked h.register h.when h.is)
  where
    no : (x : Bool) (y : ℕ) (z : Bool) → Exit checked ≡ Branch x y z u → ⊥
    no x y z e = cc

jump_no_branch : (t u : ℕ) → Branches (Jump t) u → ⊥
jump_no_branch t u h = no h.checked h.register h.when h.is
  where
    no : (x : Bool) (y : ℕ) (z : Bool) → Jump t ≡ Branch x y z u → ⊥
    no x y z e = cc

-- A block that closes by a return.
returns_by : (place : ℕ → ℕ) (b : ℕ) (r : Relays) (c : Close) → IsReturnClose (put_close place b r c) → (closing c).instr ≡ Jr 31
returns_by place b r (Return checked) h = refl
returns_by place b r (Jump t) h = absurd h
returns_by place b r (Branch checked m when t) h = absurd h
returns_by place b r (Call f) h = absurd h
returns_by place b r (Exit checked) h = absurd h

-- ---- the lists of successors

-- What is still asked of the program with blocks put: that it has few blocks, and that its lists of successors are in order.
pub record Lists (q : HardProgram) : Type 0 where
  pub few : length q.blocks < 2 ^ 32
  pub ascend : (n k c d : ℕ) (block : HardBlock) → slice_get q.blocks n ≡ Some block → slice_get block.successors k ≡ Some c → slice_get block.successors (k + 1) ≡ Some d → c < d
  pub are : (n c : ℕ) (block : HardBlock) → slice_get q.blocks n ≡ Some block → Contains block.successors c ↔ MayFollow q n c

module _ (relays : ℕ → Relays) (p q : HardProgram) (a : Put relays p q) where
  -- ---- rules of each item

  formed_of : (n : ℕ) → n < length q.blocks → Formed (items_of q n)
  formed_of n l = formed_kept relays p q a.has a.formed (λ b h. may_close (relays b) ((a.formed b h).close) (a.puts b h)) n l

  each_item : (P : Item → Type 0) → ((b : ℕ) → b < length p.blocks → All P (map (put_item (place_of relays) b (relays b)) (items_of p b))) → ((b m c : ℕ) → b < length p.blocks → slice_get (goals b (relays b)) m ≡ Some c → All P (close_items (Jump (place_of relays c)))) → (n : ℕ) → All P (items_of q n)
  each_item P f g n = elim (in_blocks q.blocks n) as (λ z. All P (items_of q n)) [
    | inl l ↦ by (located relays p q a.has n l)
    | inr e ↦ subst (λ (o : Option HardBlock). All P (block_items o)) (sym e) (All-nil P)
  ]
    where
      by : Located relays p q n → All P (items_of q n)
      by (at_place b l e) = subst (λ (z : List Item). All P z) (sym (ap (items_of q) e ∙ items_placed relays p q a.has b l)) (f b l)
      by (at_relay b m c l s e i) = subst (λ (z : List Item). All P z) (sym i) (g b m c l s)

  in_range : (n : ℕ) → All (λ i. IsInRange i.instr) (items_of q n)
  in_range n = each_item (λ i. IsInRange i.instr)
      (λ b l. All-map (λ i. IsInRange i.instr) (put_item (place_of relays) b (relays b)) (items_of p b) (All-weaker (λ i. IsInRange i.instr) (λ i. IsInRange (put_item (place_of relays) b (relays b) i).instr) (λ i h. item_range (place_of relays) b (relays b) i i.fix h) (items_of p b) (a.well.in_range b)))
      (λ b m c l s. two (λ i. IsInRange i.instr) (record { instr = J 0; class = Act; fix = Block (place_of relays c) }) (plain (Sll 0 0 0) Act) jump_range nop_range) n
    where
      jump_range : IsInRange (J 0)
      jump_range = omega arith

      nop_range : IsInRange (Sll 0 0 0)
      nop_range = (omega arith, omega arith, omega arith, omega arith)

  fields_fit : (n : ℕ) → All (λ i. FieldFits i.fix i.instr) (items_of q n)
  fields_fit n = each_item (λ i. FieldFits i.fix i.instr)
      (λ b l. All-map (λ i. FieldFits i.fix i.instr) (put_item (place_of relays) b (relays b)) (items_of p b) (All-weaker (λ i. FieldFits i.fix i.instr) (λ i. FieldFits (put_item (place_of relays) b (relays b) i).fix (put_item (place_of relays) b (relays b) i).instr) (λ i h. item_fits (place_of relays) b (relays b) i i.fix refl h) (items_of p b) (a.well.fields_fit b)))
      (λ b m c l s. two (λ i. FieldFits i.fix i.instr) (record { instr = J 0; class = Act; fix = Block (place_of relays c) }) (plain (Sll 0 0 0) Act) refl tt) n

  goal_below : (b t : ℕ) (l : b < length p.blocks) → (r : Relays) → relays b ≡ r → Puts r ((a.formed b l).close) → t < length p.blocks → goal_place (place_of relays) b r t < length q.blocks
  goal_below b t l Nothing e h k = below relays p q a t k
  goal_below b t l Next e h k = below relays p q a t k
  goal_below b t l (Turned u) e h k = below relays p q a (b + 1) (forks p b u a.well (a.formed b l) (branches_to ((a.formed b l).close) u h)).next
  goal_below b t l (Both u) e h k = below_next relays p q a b 2 l (subst (λ (z : Relays). 2 < suc (length (goals b z))) (sym e) three)
    where
      three : 2 < suc (length (goals b (Both u)))
      three = omega arith

  names_item : (b : ℕ) (l : b < length p.blocks) (i : Item) (f : Fix) → i.fix ≡ f → NamesThere p f → NamesThere q (put_as (place_of relays) b (relays b) i f).fix
  names_item b l i Plain e h = subst (λ (z : Fix). NamesThere q z) (sym e) tt
  names_item b l i (Block t) e h = goal_below b t l (relays b) refl (a.puts b l) h
  names_item b l i (Function f) e h = subst (λ (z : Fix). NamesThere q z) (sym e) (subst (λ (es : List ℕ). f < length es) (sym a.has.entries) (subst (λ (m : ℕ). f < m) (sym (length-map p.entries (place_of relays))) h))
  names_item b l i ReturnHigh e h = subst (λ (z : Fix). NamesThere q z) (sym e) tt
  names_item b l i ReturnLow e h = subst (λ (z : Fix). NamesThere q z) (sym e) tt

  named_there : (n : ℕ) → All (λ i. NamesThere q i.fix) (items_of q n)
  named_there n = each_item (λ i. NamesThere q i.fix)
      (λ b l. All-map (λ i. NamesThere q i.fix) (put_item (place_of relays) b (relays b)) (items_of p b) (All-weaker (λ i. NamesThere p i.fix) (λ i. NamesThere q (put_item (place_of relays) b (relays b) i).fix) (λ i h. names_item b l i i.fix refl h) (items_of p b) (a.well.named_there b)))
      (λ b m c l s. two (λ i. NamesThere q i.fix) (record { instr = J 0; class = Act; fix = Block (place_of relays c) }) (plain (Sll 0 0 0) Act) (below relays p q a c (goal_there p b m c a.well (a.formed b l) (relays b) (a.puts b l) s)) tt) n

  -- ---- rules of each block

  lines_of : (n : ℕ) → scan.Lines (items_of q n)
  lines_of n = elim (in_blocks q.blocks n) as (λ z. scan.Lines (items_of q n)) [
    | inl l ↦ scan.formed_lines (items_of q n) (formed_of n l)
    | inr e ↦ subst (λ (o : Option HardBlock). scan.Lines (block_items o)) (sym e) tt
  ]

  -- ---- functions

  entry_of : (f e : ℕ) → slice_get q.entries f ≡ Some e → (x : ℕ) × (slice_get p.entries f ≡ Some x) × (e ≡ place_of relays x)
  entry_of f e h = got_map (place_of relays) p.entries f e (sym (ap (λ (z : List ℕ). slice_get z f) a.has.entries) ∙ h)

  each_called : EachCalled q
  each_called f e h =
      let x : (x : ℕ) × (slice_get p.entries f ≡ Some x) × (e ≡ place_of relays x) = entry_of f e h in
      elim (a.well.each_called f x.0 x.1) [
        | inl z ↦ inl (x.2 ∙ ap (place_of relays) z)
        | inr c ↦ inr (place_of relays c.0, calls_put relays p q a.has c.0 f c.1)
      ]

  entries_differ : (f g e : ℕ) → slice_get q.entries f ≡ Some e → slice_get q.entries g ≡ Some e → f ≡ g
  entries_differ f g e h k =
      let x : (x : ℕ) × (slice_get p.entries f ≡ Some x) × (e ≡ place_of relays x) = entry_of f e h in
      let y : (y : ℕ) × (slice_get p.entries g ≡ Some y) × (e ≡ place_of relays y) = entry_of g e k in
      a.well.entries_differ f g x.0 x.1 (subst (λ (z : ℕ). slice_get p.entries g ≡ Some z) (place_once relays y.0 x.0 (sym y.2 ∙ x.2)) y.1)

  entries_there : All (λ e. e < length q.blocks) q.entries
  entries_there = subst (λ (es : List ℕ). All (λ e. e < length q.blocks) es) (sym a.has.entries) (All-map (λ e. e < length q.blocks) (place_of relays) p.entries (All-weaker (λ e. e < length p.blocks) (λ e. place_of relays e < length q.blocks) (below relays p q a) p.entries a.well.entries_there))

  here : (b m f : ℕ) → m < suc (length (goals b (relays b))) → IsOfFunction q (place_of relays b + m) f ↔ IsOfFunction p b f
  here b m f h = in_function relays p q a.has b (place_of relays b + m) f (more (place_of relays b) m) (place_within relays b m h)
    where
      more : (a m : ℕ) → a ≤ a + m
      more a m = omega arith

  at_own : (b f : ℕ) → IsOfFunction q (place_of relays b) f ↔ IsOfFunction p b f
  at_own b f = in_function relays p q a.has b (place_of relays b) f (self (place_of relays b)) (place_up relays b (b + 1) (one b))
    where
      self : (a : ℕ) → a ≤ a
      self a = omega arith

      one : (b : ℕ) → b < b + 1
      one b = omega arith

  goal_function : (b t f : ℕ) (k : Forks p b t) (r : Relays) → relays b ≡ r → IsOfFunction q (goal_place (place_of relays) b r t) f ↔ IsOfFunction p b f
  goal_function b t f k Nothing e = ((λ x. (k.to_goal f).1 ((at_own t f).0 x)), (λ x. (at_own t f).1 ((k.to_goal f).0 x)))
  goal_function b t f k Next e = ((λ x. (k.to_goal f).1 ((at_own t f).0 x)), (λ x. (at_own t f).1 ((k.to_goal f).0 x)))
  goal_function b t f k (Turned u) e = ((λ x. (k.to_next f).1 ((at_own (b + 1) f).0 x)), (λ x. (at_own (b + 1) f).1 ((k.to_next f).0 x)))
  goal_function b t f k (Both u) e = here b 2 f (subst (λ (z : Relays). 2 < suc (length (goals b z))) (sym e) three)
    where
      three : 2 < suc (length (goals b (Both u)))
      three = omega arith

  next_function : (b t f : ℕ) (k : Forks p b t) (r : Relays) → relays b ≡ r → IsOfFunction q (place_of relays b + 1) f ↔ IsOfFunction p b f
  next_function b t f k Nothing e = (
    (λ x. (k.to_next f).1 ((at_own (b + 1) f).0 (subst (λ (z : ℕ). IsOfFunction q z f) (place_next relays b Nothing e) x))),
    (λ x. subst (λ (z : ℕ). IsOfFunction q z f) (sym (place_next relays b Nothing e)) ((at_own (b + 1) f).1 ((k.to_next f).0 x))),
  )
  next_function b t f k Next e = here b 1 f (subst (λ (z : Relays). 1 < suc (length (goals b z))) (sym e) more)
    where
      more : 1 < suc (length (goals b Next))
      more = omega arith
  next_function b t f k (Turned u) e = here b 1 f (subst (λ (z : Relays). 1 < suc (length (goals b z))) (sym e) more)
    where
      more : 1 < suc (length (goals b (Turned u)))
      more = omega arith
  next_function b t f k (Both u) e = here b 1 f (subst (λ (z : Relays). 1 < suc (length (goals b z))) (sym e) more)
    where
      more : 1 < suc (length (goals b (Both u)))
      more = omega arith

  branch_stays : (n k t rs rt imm : ℕ) (i : Item) → ItemAt (items_of q n) k i → i.fix ≡ Block t → (i.instr ≡ Beq rs rt imm) ⊎ (i.instr ≡ Bne rs rt imm) →
      (n + 1 < length q.blocks) × ((f : ℕ) → (IsOfFunction q n f ↔ IsOfFunction q t f) × (IsOfFunction q n f ↔ IsOfFunction q (n + 1) f))
  branch_stays n k t rs rt imm i s e c = by (located relays p q a.has n (holds_there q n i (at_contains (items_of q n) k i s)))
    where
      holds : Holds q n i
      holds = at_contains (items_of q n) k i s

      by : Located relays p q n → (n + 1 < length q.blocks) × ((f : ℕ) → (IsOfFunction q n f ↔ IsOfFunction q t f) × (IsOfFunction q n f ↔ IsOfFunction q (n + 1) f))
      by (at_relay b m g l j x y) =
          let d : Formed (items_of q n) = jumps_only q n (place_of relays g) y in
          absurd (jump_no_branch (place_of relays g) t (subst (λ (z : Close). Branches z t) (jumps_close q n (place_of relays g) y) (branches d.close t i.instr (goes_of q n t i d holds e) (branch_item i.instr rs rt imm c))))
      by (at_place b l x) =
          let d : Closed (place_of relays) q (place_of relays b) b (relays b) ((a.formed b l).close) = closed relays p q a b l in
          let held : Holds q (place_of relays b) i = subst (λ (z : ℕ). Holds q z i) x holds in
          let g : (u : ℕ) × (Branches ((a.formed b l).close) u × (t ≡ goal_place (place_of relays) b (relays b) u)) =
          put_branch (place_of relays) b t (relays b) ((a.formed b l).close) (subst (λ (z : Close). Branches z t) d.close (branches d.formed.close t i.instr (goes_of q (place_of relays b) t i d.formed held e) (branch_item i.instr rs rt imm c))) in
          let w : Forks p b g.0 = forks p b g.0 a.well (a.formed b l) g.1.0 in
          let up : place_of relays b + 1 < length q.blocks = less (place_of relays b) (place_of relays (b + 1)) (length q.blocks) (place_up relays b (b + 1) (one b)) (below relays p q a (b + 1) w.next) in
          subst (λ (z : ℕ). (z + 1 < length q.blocks) × ((f : ℕ) → (IsOfFunction q z f ↔ IsOfFunction q t f) × (IsOfFunction q z f ↔ IsOfFunction q (z + 1) f))) (sym x) (
            up,
            (λ f.
                let own : IsOfFunction q (place_of relays b) f ↔ IsOfFunction p b f = at_own b f in
                let goal : IsOfFunction q t f ↔ IsOfFunction p b f = subst (λ (z : ℕ). IsOfFunction q z f ↔ IsOfFunction p b f) (sym g.1.1) (goal_function b g.0 f w (relays b) refl) in
                let next : IsOfFunction q (place_of relays b + 1) f ↔ IsOfFunction p b f = next_function b g.0 f w (relays b) refl in
                (((λ y. goal.1 (own.0 y)), (λ y. own.1 (goal.0 y))), ((λ y. next.1 (own.0 y)), (λ y. own.1 (next.0 y))))),
          )
        where
          less : (a b n : ℕ) → a < b → b < n → a + 1 < n
          less a b n h k = omega arith

          one : (b : ℕ) → b < b + 1
          one b = omega arith

  -- ---- returns

  -- A block that returns is a block in its place that did.
  return_of : (n k rs : ℕ) (i : Item) → ItemAt (items_of q n) k i → i.instr ≡ Jr rs → (b : ℕ) × (b < length p.blocks) × (n ≡ place_of relays b) × ((m : ℕ) × ((j : Item) × (ItemAt (items_of p b) m j × (j.instr ≡ Jr 31))))
  return_of n k rs i s e = by (located relays p q a.has n (holds_there q n i (at_contains (items_of q n) k i s)))
    where
      holds : Holds q n i
      holds = at_contains (items_of q n) k i s

      by : Located relays p q n → (b : ℕ) × (b < length p.blocks) × (n ≡ place_of relays b) × ((m : ℕ) × ((j : Item) × (ItemAt (items_of p b) m j × (j.instr ≡ Jr 31))))
      by (at_relay b m g l j x y) =
          let d : Formed (items_of q n) = jumps_only q n (place_of relays g) y in
          absurd (subst IsReturnClose (jumps_close q n (place_of relays g) y) (is_return d.close i.fix i.instr rs e (role_of q n i d holds)))
      by (at_place b l x) =
          let d : Closed (place_of relays) q (place_of relays b) b (relays b) ((a.formed b l).close) = closed relays p q a b l in
          let held : Holds q (place_of relays b) i = subst (λ (z : ℕ). Holds q z i) x holds in
          let r : IsReturnClose (put_close (place_of relays) b (relays b) ((a.formed b l).close)) = subst IsReturnClose d.close (is_return d.formed.close i.fix i.instr rs e (role_of q (place_of relays b) i d.formed held)) in
          let m : (m : ℕ) × ItemAt (items_of p b) m (closing ((a.formed b l).close)) = holds_at (items_of p b) (closing ((a.formed b l).close)) (holds_closing p b (a.formed b l)) in
          (b, l, x, (m.0, (closing ((a.formed b l).close), (m.1, returns_by (place_of relays) b (relays b) ((a.formed b l).close) r))))

  one_return : (b c f k m rs rt : ℕ) (i j : Item) → IsOfFunction q b f → IsOfFunction q c f → ItemAt (items_of q b) k i → ItemAt (items_of q c) m j → i.instr ≡ Jr rs → j.instr ≡ Jr rt → b ≡ c
  one_return b c f k m rs rt i j o h s t e g =
      let x : (x : ℕ) × (x < length p.blocks) × (b ≡ place_of relays x) × ((m : ℕ) × ((j : Item) × (ItemAt (items_of p x) m j × (j.instr ≡ Jr 31)))) = return_of b k rs i s e in
      let y : (y : ℕ) × (y < length p.blocks) × (c ≡ place_of relays y) × ((m : ℕ) × ((j : Item) × (ItemAt (items_of p y) m j × (j.instr ≡ Jr 31)))) = return_of c m rt j t g in
      let same : x.0 ≡ y.0 = a.well.one_return x.0 y.0 f x.3.0 y.3.0 31 31 x.3.1.0 y.3.1.0 ((at_own x.0 f).0 (subst (λ (z : ℕ). IsOfFunction q z f) x.2 o)) ((at_own y.0 f).0 (subst (λ (z : ℕ). IsOfFunction q z f) y.2 h)) x.3.1.1.0 y.3.1.1.0 x.3.1.1.1 y.3.1.1.1 in
      x.2 ∙ (ap (place_of relays) same ∙ sym y.2)

  call_goes_on : (n f : ℕ) → CallsFunction q n f → n + 1 < length q.blocks
  call_goes_on n f c =
      let k : Caller relays p n f = caller relays p q a n f c in
      less n (place_of relays k.block) (place_of relays (k.block + 1)) (length q.blocks) k.is (place_up relays k.block (k.block + 1) (one k.block)) (below relays p q a (k.block + 1) (a.well.call_goes_on k.block f k.calls))
    where
      less : (n a b m : ℕ) → n ≡ a → a < b → b < m → n + 1 < m
      less n a b m e h k = omega arith

      one : (b : ℕ) → b < b + 1
      one b = omega arith

  -- ---- the rules together

  pub well_formed : Lists q → WellFormed q
  well_formed s = record {
    has_block = below relays p q a 0 a.well.has_block;
    few_blocks = s.few;
    initial_fits = subst (λ (n : ℕ). length q.initial ≤ n) (sym a.has.memory) (subst (λ (xs : List ℕ). length xs ≤ p.memory_words) (sym a.has.initial) a.well.initial_fits);
    has_memory = subst (λ (n : ℕ). 1 ≤ n) (sym a.has.memory) a.well.has_memory;
    memory_fits = subst (λ (n : ℕ). n ≤ 4194304) (sym a.has.memory) a.well.memory_fits;
    in_range = in_range;
    fields_fit = fields_fit;
    named_there = named_there;
    entries_there = entries_there;
    each_called = each_called;
    entries_differ = entries_differ;
    only_at_the_end = λ b k i e j. scan.only_at_the_end (items_of q b) (lines_of b) k i e j;
    skips_or_names = λ b k rs rt imm i e c f. scan.skips_or_names (items_of q b) (lines_of b) k rs rt imm i e c f;
    ends_well = λ b l. scan.ends_well (items_of q b) (formed_of b l);
    goes_on_behind_skips = λ b k t. scan.goes_on_behind_skips (items_of q b) (lines_of b) k t;
    branch_stays = branch_stays;
    one_return = one_return;
    call_goes_on = call_goes_on;
    each_entered = each_entered relays p q a;
    first_not_entered = first_not_entered relays p q a;
    successors_ascend = s.ascend;
    successors_are = s.are;
  }
