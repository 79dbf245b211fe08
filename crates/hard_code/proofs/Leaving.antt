-- How a block is left, and which blocks may come behind it.
use Rattle.std.proofs.Common.{◌≡◌, ℕ, ◌+◌, ◌-◌, ◌<◌, true, List, [], ◌∷◌, length, Option, Some, None, refl, sym, ap, ◌∙◌, subst, arith, inl, inr, eqb-true, eq-eqb}
use Rattle.std.specs.Prelude.{◌⊎◌, nat_lt, if◌then◌else◌, slice_get, Contains}
use Rattle.std.specs.Option.{option_to_list}
use Rattle.std.proofs.lemmas.Bool.{cases_order, lt-ltb, le-ltb, cond-true, cond-false}
use Rattle.mips_isa.specs.declared.instr.Instr.{Instr}
use Rattle.mips_isa.specs.declared.instr.Instr.TheVariants.{Beq, Bne, J, Jal, Jr}
use Rattle.mips_isa.specs.Machine.{is_jump}
use Rattle.hard_items.specs.declared.code.Fix.{Fix}
use Rattle.hard_items.specs.declared.code.Fix.TheVariants.{Plain, Block, Function, ReturnHigh, ReturnLow}
use Rattle.hard_items.specs.declared.code.Item.{Item}
use Rattle.hard_items.specs.declared.code.HardProgram.{HardProgram}
use Rattle.hard_items.specs.Run.{items_of}
use Rattle.hard_items.specs.Ways.{Holds, CallsFunction, MayFollow, jumped, branched_eq, branched_ne, fallen_eq, fallen_ne, called, returned}
use Rattle.hard_items.specs.WellFormed.{ItemAt, SkipsBreak}
use Rattle.hard_code.specs.declared.leaves.Leave.{Leave}
use Rattle.hard_code.specs.declared.leaves.Leave.TheVariants.{Jump, Branch, Call, Return, Stop}
use Rattle.hard_code.specs.Tested.{leave_of, leave_by, leave, leave_at, are_one, in_order, calls_at, behind_calls, followers, start}
use Rattle.hard_code.proofs.Lists.{same_some, get_in, in_get, in_tail, tail_in, head_in, in_none, Above, above_lower}
use Rattle.hard_code.proofs.Entries.{of_to, of_from}
use Rattle.hard_code.proofs.Behind.{Caller, behind_in, behind_has, behind_above}

-- how an instruction with its field leaves a block
data Left (x : Instr) (f : Fix) (l : Leave) : Type 0 where
  jumps : (target c : ℕ) → x ≡ J target → f ≡ Block c → l ≡ Jump c → Left x f l
  branches_eq : (rs rt imm c : ℕ) → x ≡ Beq rs rt imm → f ≡ Block c → l ≡ Branch c → Left x f l
  branches_ne : (rs rt imm c : ℕ) → x ≡ Bne rs rt imm → f ≡ Block c → l ≡ Branch c → Left x f l
  calls : (target g : ℕ) → x ≡ Jal target → f ≡ Function g → l ≡ Call g → Left x f l
  returns : (rs : ℕ) → x ≡ Jr rs → l ≡ Return → Left x f l
  stops : l ≡ Stop → Left x f l

left : (x : Instr) (f : Fix) → Left x f (leave_of x f)
left (J t) Plain = stops refl
left (J t) (Block c) = jumps t c refl refl refl
left (J t) (Function g) = stops refl
left (J t) ReturnHigh = stops refl
left (J t) ReturnLow = stops refl
left (Jal t) Plain = stops refl
left (Jal t) (Block c) = stops refl
left (Jal t) (Function g) = calls t g refl refl refl
left (Jal t) ReturnHigh = stops refl
left (Jal t) ReturnLow = stops refl
left (Jr rs) f = returns rs refl refl
left (Beq rs rt imm) Plain = stops refl
left (Beq rs rt imm) (Block c) = branches_eq rs rt imm c refl refl refl
left (Beq rs rt imm) (Function g) = stops refl
left (Beq rs rt imm) ReturnHigh = stops refl
left (Beq rs rt imm) ReturnLow = stops refl
left (Bne rs rt imm) Plain = stops refl
left (Bne rs rt imm) (Block c) = branches_ne rs rt imm c refl refl refl
left (Bne rs rt imm) (Function g) = stops refl
left (Bne rs rt imm) ReturnHigh = stops refl
left (Bne rs rt imm) ReturnLow = stops refl
left x f = stops refl

-- a block is left by an item that it holds
pub data Leaving (p : HardProgram) (b : ℕ) : Type 0 where
  by_item : (i : Item) → Holds p b i → leave_at p.blocks b ≡ leave_of i.instr i.fix → Leaving p b
  by_none : leave_at p.blocks b ≡ Stop → Leaving p b

leaving_by : (items : List Item) (o : Option Item) → slice_get items (length items - 2) ≡ o → ((i : Item) × Contains items i × (leave items ≡ leave_of i.instr i.fix)) ⊎ (leave items ≡ Stop)
leaving_by items None e = inr (ap leave_by e)
leaving_by items (Some i) e = inl (i, get_in items (length items - 2) i e, ap leave_by e)

leaving : (p : HardProgram) (b : ℕ) → Leaving p b
leaving p b = elim (leaving_by (items_of p b) (slice_get (items_of p b) (length (items_of p b) - 2)) refl) [ inl r ↦ by_item r.0 r.1 r.2 | inr e ↦ by_none e ]

-- ---- lists of one or two

one_in : (x c : ℕ) → Contains (x ∷ []) c → c ≡ x
one_in x c h = elim (in_tail x c [] h) [ inl e ↦ e | inr r ↦ absurd (in_none c r) ]

in_one : (x c : ℕ) → c ≡ x → Contains (x ∷ []) c
in_one x c e = subst (λ (n : ℕ). Contains (n ∷ []) c) e (head_in c [])

ordered : (x y : ℕ) → (in_order x y ≡ x ∷ y ∷ []) × (x < y) ⊎ ((in_order x y ≡ y ∷ x ∷ []) × (y < x) ⊎ ((in_order x y ≡ x ∷ []) × (x ≡ y)))
ordered x y = elim (cases_order x y) [
  | inl e ↦ inr (inr (cond-false (nat_lt x y) (x ∷ y ∷ []) (if nat_lt y x then y ∷ x ∷ [] else x ∷ []) (le-ltb x y (omega arith)) ∙ cond-false (nat_lt y x) (y ∷ x ∷ []) (x ∷ []) (le-ltb y x (omega arith)), e))
  | inr h ↦ elim h [
    | inl l ↦ inl (cond-true (nat_lt x y) (x ∷ y ∷ []) (if nat_lt y x then y ∷ x ∷ [] else x ∷ []) (lt-ltb x y l), l)
    | inr l ↦ inr (inl (cond-false (nat_lt x y) (x ∷ y ∷ []) (if nat_lt y x then y ∷ x ∷ [] else x ∷ []) (le-ltb x y (omega arith)) ∙ cond-true (nat_lt y x) (y ∷ x ∷ []) (x ∷ []) (lt-ltb y x l), l))
  ]
]

two_in : (x y c : ℕ) → Contains (x ∷ y ∷ []) c → (c ≡ x) ⊎ (c ≡ y)
two_in x y c h = elim (in_tail x c (y ∷ []) h) [ inl e ↦ inl e | inr r ↦ inr (one_in y c r) ]

order_in : (x y c : ℕ) → Contains (in_order x y) c → (c ≡ x) ⊎ (c ≡ y)
order_in x y c h = elim (ordered x y) [
  | inl r ↦ two_in x y c (subst (λ (xs : List ℕ). Contains xs c) r.0 h)
  | inr s ↦ elim s [
    | inl r ↦ elim (two_in y x c (subst (λ (xs : List ℕ). Contains xs c) r.0 h)) [ inl e ↦ inr e | inr e ↦ inl e ]
    | inr r ↦ inl (one_in x c (subst (λ (xs : List ℕ). Contains xs c) r.0 h))
  ]
]

in_order_first : (x y : ℕ) → Contains (in_order x y) x
in_order_first x y = elim (ordered x y) [
  | inl r ↦ subst (λ (xs : List ℕ). Contains xs x) (sym r.0) (head_in x (y ∷ []))
  | inr s ↦ elim s [
    | inl r ↦ subst (λ (xs : List ℕ). Contains xs x) (sym r.0) (tail_in y x (x ∷ []) (head_in x []))
    | inr r ↦ subst (λ (xs : List ℕ). Contains xs x) (sym r.0) (head_in x [])
  ]
]

in_order_second : (x y : ℕ) → Contains (in_order x y) y
in_order_second x y = elim (ordered x y) [
  | inl r ↦ subst (λ (xs : List ℕ). Contains xs y) (sym r.0) (tail_in x y (y ∷ []) (head_in y []))
  | inr s ↦ elim s [
    | inl r ↦ subst (λ (xs : List ℕ). Contains xs y) (sym r.0) (head_in y (x ∷ []))
    | inr r ↦ subst (λ (xs : List ℕ). Contains xs y) (sym r.0) (in_one x y (sym r.1))
  ]
]

order_above : (x y : ℕ) → Above 0 (in_order x y)
order_above x y = elim (ordered x y) [
  | inl r ↦ let l : x < y = r.1 in subst (Above 0) (sym r.0) (omega arith, (omega arith, tt))
  | inr s ↦ elim s [
    | inl r ↦ let l : y < x = r.1 in subst (Above 0) (sym r.0) (omega arith, (omega arith, tt))
    | inr r ↦ subst (Above 0) (sym r.0) (omega arith, tt)
  ]
]

entry_in : (o : Option ℕ) (c : ℕ) → Contains (option_to_list o) c → o ≡ Some c
entry_in None c h = absurd (in_none c h)
entry_in (Some x) c h = ap Some (sym (one_in x c h))

in_entry : (o : Option ℕ) (c : ℕ) → o ≡ Some c → Contains (option_to_list o) c
in_entry o c e = subst (λ (z : Option ℕ). Contains (option_to_list z) c) (sym e) (head_in c [])

entry_above : (o : Option ℕ) → Above 0 (option_to_list o)
entry_above None = tt
entry_above (Some x) = (omega arith, tt)

one_is : (o r : Option ℕ) → are_one o r ≡ true → (e : ℕ) × (o ≡ Some e) × (r ≡ Some e)
one_is None r h = absurd (cc)
one_is (Some x) None h = absurd (cc)
one_is (Some x) (Some y) h = (x, refl, ap Some (sym (eqb-true x y h)))

is_one : (o r : Option ℕ) (e : ℕ) → o ≡ Some e → r ≡ Some e → are_one o r ≡ true
is_one o r e p q = ap (λ z. are_one z r) p ∙ (ap (λ z. are_one (Some e) z) q ∙ eq-eqb e e refl)

calls_is : (entries : List ℕ) (entry : Option ℕ) (l : Leave) → calls_at entries entry l ≡ true → (f : ℕ) × (l ≡ Call f) × (are_one (slice_get entries f) entry ≡ true)
calls_is entries entry (Jump t) h = absurd (cc)
calls_is entries entry (Branch t) h = absurd (cc)
calls_is entries entry (Call f) h = (f, refl, h)
calls_is entries entry Return h = absurd (cc)
calls_is entries entry Stop h = absurd (cc)

-- the lists of the blocks that may come behind a block ascend
pub followers_above : (p : HardProgram) (b : ℕ) (l : Leave) → Above 0 (followers p.blocks p.entries b l)
followers_above p b (Jump t) = (omega arith, tt)
followers_above p b (Branch t) = order_above t (b + 1)
followers_above p b (Call f) = entry_above (slice_get p.entries f)
followers_above p b Return = above_lower 0 (0 + 1) (behind_calls p.entries (start p.entries b) 0 p.blocks) (omega arith) (behind_above p.entries (start p.entries b) 0 p.blocks)
followers_above p b Stop = tt

module _ (p : HardProgram) (only : (b k : ℕ) (i : Item) → ItemAt (items_of p b) k i → is_jump i.instr ≡ true → SkipsBreak (items_of p b) k ⊎ (k + 2 ≡ length (items_of p b))) where
  -- a branch or a jump that skips no break leaves its block
  leaves : (b : ℕ) (i : Item) → Holds p b i → is_jump i.instr ≡ true → ((k : ℕ) (s : SkipsBreak (items_of p b) k) → s.branch ≡ i → ⊥) → leave_at p.blocks b ≡ leave_of i.instr i.fix
  leaves b i h j never =
      let g = in_get (items_of p b) i h in
      elim (only b g.0 i g.1 j) [
        | inl s ↦ absurd (never g.0 s (same_some s.branch i (sym s.stands ∙ g.1)))
        | inr e ↦ let f : length (items_of p b) - 2 ≡ g.0 = omega arith in ap leave_by (ap (slice_get (items_of p b)) f ∙ g.1)
      ]

  is_no_branch : (b k : ℕ) (i : Item) (s : SkipsBreak (items_of p b) k) → s.branch ≡ i → ((rs rt : ℕ) → i.instr ≡ Beq rs rt 2 → ⊥) → ((rs rt : ℕ) → i.instr ≡ Bne rs rt 2 → ⊥) → ⊥
  is_no_branch b k i s e f g = elim s.conditional [
    | inl q ↦ f s.rs s.rt (ap (λ (x : Item). x.instr) (sym e) ∙ q)
    | inr q ↦ g s.rs s.rt (ap (λ (x : Item). x.instr) (sym e) ∙ q)
  ]

  is_no_plain : (b k c : ℕ) (i : Item) (s : SkipsBreak (items_of p b) k) → s.branch ≡ i → i.fix ≡ Block c → ⊥
  is_no_plain b k c i s e f = other c (sym s.no_field ∙ (ap (λ (x : Item). x.fix) e ∙ f))
    where
      other : (c : ℕ) → Plain ≡ Block c → ⊥
      other c e = cc

  jal_eq : (x : Instr) (t rs rt : ℕ) → x ≡ Jal t → x ≡ Beq rs rt 2 → ⊥
  jal_eq x t rs rt e f = cc

  jal_ne : (x : Instr) (t rs rt : ℕ) → x ≡ Jal t → x ≡ Bne rs rt 2 → ⊥
  jal_ne x t rs rt e f = cc

  jr_eq : (x : Instr) (t rs rt : ℕ) → x ≡ Jr t → x ≡ Beq rs rt 2 → ⊥
  jr_eq x t rs rt e f = cc

  jr_ne : (x : Instr) (t rs rt : ℕ) → x ≡ Jr t → x ≡ Bne rs rt 2 → ⊥
  jr_ne x t rs rt e f = cc

  pub leaves_jump : (b c target : ℕ) (i : Item) → Holds p b i → i.instr ≡ J target → i.fix ≡ Block c → leave_at p.blocks b ≡ Jump c
  leaves_jump b c target i h e f = leaves b i h (ap is_jump e) (λ k s q. is_no_plain b k c i s q f) ∙ (ap (λ x. leave_of x i.fix) e ∙ ap (leave_of (J target)) f)

  pub leaves_eq : (b c rs rt imm : ℕ) (i : Item) → Holds p b i → i.instr ≡ Beq rs rt imm → i.fix ≡ Block c → leave_at p.blocks b ≡ Branch c
  leaves_eq b c rs rt imm i h e f = leaves b i h (ap is_jump e) (λ k s q. is_no_plain b k c i s q f) ∙ (ap (λ x. leave_of x i.fix) e ∙ ap (leave_of (Beq rs rt imm)) f)

  pub leaves_ne : (b c rs rt imm : ℕ) (i : Item) → Holds p b i → i.instr ≡ Bne rs rt imm → i.fix ≡ Block c → leave_at p.blocks b ≡ Branch c
  leaves_ne b c rs rt imm i h e f = leaves b i h (ap is_jump e) (λ k s q. is_no_plain b k c i s q f) ∙ (ap (λ x. leave_of x i.fix) e ∙ ap (leave_of (Bne rs rt imm)) f)

  pub leaves_return : (b rs : ℕ) (i : Item) → Holds p b i → i.instr ≡ Jr rs → leave_at p.blocks b ≡ Return
  leaves_return b rs i h e = leaves b i h (ap is_jump e) (λ k s q. is_no_branch b k i s q (λ r t. jr_eq i.instr rs r t e) (λ r t. jr_ne i.instr rs r t e)) ∙ ap (λ x. leave_of x i.fix) e

  pub leaves_call : (b f : ℕ) → CallsFunction p b f → leave_at p.blocks b ≡ Call f
  leaves_call b f c =
      leaves b c.item c.holds (ap is_jump c.jumps) (λ k s q. is_no_branch b k c.item s q (λ r t. jal_eq c.item.instr c.target r t c.jumps) (λ r t. jal_ne c.item.instr c.target r t c.jumps))
      ∙ (ap (λ x. leave_of x c.item.fix) c.jumps ∙ ap (leave_of (Jal c.target)) c.names)

-- ---- what a block holds by how it is left

same_jump : (l : Leave) (a b : ℕ) → l ≡ Jump a → l ≡ Jump b → a ≡ b
same_jump l a b e f = cc

same_branch : (l : Leave) (a b : ℕ) → l ≡ Branch a → l ≡ Branch b → a ≡ b
same_branch l a b e f = cc

same_call : (l : Leave) (a b : ℕ) → l ≡ Call a → l ≡ Call b → a ≡ b
same_call l a b e f = cc

jump_branch : (l : Leave) (a b : ℕ) → l ≡ Jump a → l ≡ Branch b → ⊥
jump_branch l a b e f = cc

jump_call : (l : Leave) (a b : ℕ) → l ≡ Jump a → l ≡ Call b → ⊥
jump_call l a b e f = cc

jump_return : (l : Leave) (a : ℕ) → l ≡ Jump a → l ≡ Return → ⊥
jump_return l a e f = cc

jump_stop : (l : Leave) (a : ℕ) → l ≡ Jump a → l ≡ Stop → ⊥
jump_stop l a e f = cc

branch_call : (l : Leave) (a b : ℕ) → l ≡ Branch a → l ≡ Call b → ⊥
branch_call l a b e f = cc

branch_return : (l : Leave) (a : ℕ) → l ≡ Branch a → l ≡ Return → ⊥
branch_return l a e f = cc

branch_stop : (l : Leave) (a : ℕ) → l ≡ Branch a → l ≡ Stop → ⊥
branch_stop l a e f = cc

call_return : (l : Leave) (a : ℕ) → l ≡ Call a → l ≡ Return → ⊥
call_return l a e f = cc

call_stop : (l : Leave) (a : ℕ) → l ≡ Call a → l ≡ Stop → ⊥
call_stop l a e f = cc

return_stop : (l : Leave) → l ≡ Return → l ≡ Stop → ⊥
return_stop l e f = cc

module _ (p : HardProgram) where
  pub holds_jump : (b c : ℕ) → leave_at p.blocks b ≡ Jump c → (target : ℕ) × (i : Item) × Holds p b i × (i.instr ≡ J target) × (i.fix ≡ Block c)
  holds_jump b c e = elim (leaving p b) [
    | by_none n ↦ absurd (jump_stop (leave_at p.blocks b) c e n)
    | by_item i h q ↦ let g : leave_of i.instr i.fix ≡ Jump c = sym q ∙ e in elim (left i.instr i.fix) [
      | jumps t d x f l ↦ (t, i, h, x, f ∙ ap Block (same_jump (leave_of i.instr i.fix) d c l g))
      | branches_eq rs rt imm d x f l ↦ absurd (jump_branch (leave_of i.instr i.fix) c d g l)
      | branches_ne rs rt imm d x f l ↦ absurd (jump_branch (leave_of i.instr i.fix) c d g l)
      | calls t d x f l ↦ absurd (jump_call (leave_of i.instr i.fix) c d g l)
      | returns rs x l ↦ absurd (jump_return (leave_of i.instr i.fix) c g l)
      | stops l ↦ absurd (jump_stop (leave_of i.instr i.fix) c g l)
    ]
  ]

  pub holds_branch : (b c : ℕ) → leave_at p.blocks b ≡ Branch c → (rs rt imm : ℕ) × (i : Item) × Holds p b i × ((i.instr ≡ Beq rs rt imm) ⊎ (i.instr ≡ Bne rs rt imm)) × (i.fix ≡ Block c)
  holds_branch b c e = elim (leaving p b) [
    | by_none n ↦ absurd (branch_stop (leave_at p.blocks b) c e n)
    | by_item i h q ↦ let g : leave_of i.instr i.fix ≡ Branch c = sym q ∙ e in elim (left i.instr i.fix) [
      | jumps t d x f l ↦ absurd (jump_branch (leave_of i.instr i.fix) d c l g)
      | branches_eq rs rt imm d x f l ↦ (rs, rt, imm, i, h, inl x, f ∙ ap Block (same_branch (leave_of i.instr i.fix) d c l g))
      | branches_ne rs rt imm d x f l ↦ (rs, rt, imm, i, h, inr x, f ∙ ap Block (same_branch (leave_of i.instr i.fix) d c l g))
      | calls t d x f l ↦ absurd (branch_call (leave_of i.instr i.fix) c d g l)
      | returns rs x l ↦ absurd (branch_return (leave_of i.instr i.fix) c g l)
      | stops l ↦ absurd (branch_stop (leave_of i.instr i.fix) c g l)
    ]
  ]

  pub holds_call : (b f : ℕ) → leave_at p.blocks b ≡ Call f → CallsFunction p b f
  holds_call b c e = elim (leaving p b) [
    | by_none n ↦ absurd (call_stop (leave_at p.blocks b) c e n)
    | by_item i h q ↦ let g : leave_of i.instr i.fix ≡ Call c = sym q ∙ e in elim (left i.instr i.fix) [
      | jumps t d x f l ↦ absurd (jump_call (leave_of i.instr i.fix) d c l g)
      | branches_eq rs rt imm d x f l ↦ absurd (branch_call (leave_of i.instr i.fix) d c l g)
      | branches_ne rs rt imm d x f l ↦ absurd (branch_call (leave_of i.instr i.fix) d c l g)
      | calls t d x f l ↦ record { item = i; target = t; holds = h; jumps = x; names = f ∙ ap Function (same_call (leave_of i.instr i.fix) d c l g) }
      | returns rs x l ↦ absurd (call_return (leave_of i.instr i.fix) c g l)
      | stops l ↦ absurd (call_stop (leave_of i.instr i.fix) c g l)
    ]
  ]

  pub holds_return : (b : ℕ) → leave_at p.blocks b ≡ Return → (rs : ℕ) × (i : Item) × Holds p b i × (i.instr ≡ Jr rs)
  holds_return b e = elim (leaving p b) [
    | by_none n ↦ absurd (return_stop (leave_at p.blocks b) e n)
    | by_item i h q ↦ let g : leave_of i.instr i.fix ≡ Return = sym q ∙ e in elim (left i.instr i.fix) [
      | jumps t d x f l ↦ absurd (jump_return (leave_of i.instr i.fix) d l g)
      | branches_eq rs rt imm d x f l ↦ absurd (branch_return (leave_of i.instr i.fix) d l g)
      | branches_ne rs rt imm d x f l ↦ absurd (branch_return (leave_of i.instr i.fix) d l g)
      | calls t d x f l ↦ absurd (call_return (leave_of i.instr i.fix) d l g)
      | returns rs x l ↦ (rs, i, h, x)
      | stops l ↦ absurd (return_stop (leave_of i.instr i.fix) g l)
    ]
  ]

  -- the blocks that are listed may follow
  pub listed_follow : (b c : ℕ) (l : Leave) → leave_at p.blocks b ≡ l → Contains (followers p.blocks p.entries b l) c → MayFollow p b c
  listed_follow b c (Jump t) e h = let r = holds_jump b t e in subst (MayFollow p b) (sym (one_in t c h)) (jumped t r.0 r.1 r.2 r.3 r.4)
  listed_follow b c (Branch t) e h =
      let r = holds_branch b t e in
      elim (order_in t (b + 1) c h) [
        | inl q ↦ subst (MayFollow p b) (sym q) (elim r.5 [ inl x ↦ branched_eq t r.0 r.1 r.2 r.3 r.4 x r.6 | inr x ↦ branched_ne t r.0 r.1 r.2 r.3 r.4 x r.6 ])
        | inr q ↦ subst (MayFollow p b) (sym q) (elim r.5 [ inl x ↦ fallen_eq t r.0 r.1 r.2 r.3 r.4 x r.6 | inr x ↦ fallen_ne t r.0 r.1 r.2 r.3 r.4 x r.6 ])
      ]
  listed_follow b c (Call f) e h = called f c (holds_call b f e) (entry_in (slice_get p.entries f) c h)
  listed_follow b c Return e h =
      let r = holds_return b e in
      let k : Caller p.entries (start p.entries b) p.blocks 0 c = behind_in p.entries (start p.entries b) 0 p.blocks c h in
      let q = calls_is p.entries (start p.entries b) (leave k.block.items) k.calls in
      let o = one_is (slice_get p.entries q.0) (start p.entries b) q.2 in
      let n : k.number + 1 ≡ c = omega (arith, k.next) in
      subst (MayFollow p b) n (returned q.0 k.number r.0 r.1 r.2 r.3 (of_from p b q.0 o.0 o.1 o.2)
      (holds_call k.number q.0 (ap (λ z. leave (Rattle.hard_items.specs.Run.block_items z)) k.there ∙ q.1)))
  listed_follow b c Stop e h = absurd (in_none c h)

  pub in_blocks : (b f : ℕ) → leave_at p.blocks b ≡ Call f → (o : Option Rattle.hard_items.specs.declared.code.HardBlock.HardBlock) → slice_get p.blocks b ≡ o → (x : Rattle.hard_items.specs.declared.code.HardBlock.HardBlock) × (slice_get p.blocks b ≡ Some x) × (leave x.items ≡ Call f)
  in_blocks b f e None q = absurd (call_stop (leave_at p.blocks b) f e (ap (λ z. leave (Rattle.hard_items.specs.Run.block_items z)) q))
  in_blocks b f e (Some x) q = (x, q, sym (ap (λ z. leave (Rattle.hard_items.specs.Run.block_items z)) q) ∙ e)

module _ (p : HardProgram) (only : (b k : ℕ) (i : Item) → ItemAt (items_of p b) k i → is_jump i.instr ≡ true → SkipsBreak (items_of p b) k ⊎ (k + 2 ≡ length (items_of p b))) where
  at_leave : (b c : ℕ) (l : Leave) → leave_at p.blocks b ≡ l → Contains (followers p.blocks p.entries b l) c → Contains (followers p.blocks p.entries b (leave_at p.blocks b)) c
  at_leave b c l e h = subst (λ (z : Leave). Contains (followers p.blocks p.entries b z) c) (sym e) h

  -- the blocks that may follow are listed
  pub follow_listed : (b c : ℕ) → MayFollow p b c → Contains (followers p.blocks p.entries b (leave_at p.blocks b)) c
  follow_listed b _ (jumped c target i h x f) = at_leave b c (Jump c) (leaves_jump p only b c target i h x f) (head_in c [])
  follow_listed b _ (branched_eq c rs rt imm i h x f) = at_leave b c (Branch c) (leaves_eq p only b c rs rt imm i h x f) (in_order_first c (b + 1))
  follow_listed b _ (branched_ne c rs rt imm i h x f) = at_leave b c (Branch c) (leaves_ne p only b c rs rt imm i h x f) (in_order_first c (b + 1))
  follow_listed b _ (fallen_eq t rs rt imm i h x f) = at_leave b (b + 1) (Branch t) (leaves_eq p only b t rs rt imm i h x f) (in_order_second t (b + 1))
  follow_listed b _ (fallen_ne t rs rt imm i h x f) = at_leave b (b + 1) (Branch t) (leaves_ne p only b t rs rt imm i h x f) (in_order_second t (b + 1))
  follow_listed b _ (called f c k e) = at_leave b c (Call f) (leaves_call p only b f k) (in_entry (slice_get p.entries f) c e)
  follow_listed b _ (returned f caller rs i h x o k) =
      let r = of_to p b f o in
      let l : leave_at p.blocks caller ≡ Call f = leaves_call p only caller f k in
      let g = in_blocks p caller f l (slice_get p.blocks caller) refl in
      at_leave b (caller + 1) Return (leaves_return p only b rs i h x)
      (behind_has p.entries (start p.entries b) 0 p.blocks caller g.0 (caller + 1) g.1 (ap (calls_at p.entries (start p.entries b)) g.2 ∙ is_one (slice_get p.entries f) (start p.entries b) r.0 r.1 r.2) (omega arith))
