-- What is kept at an address where one stream is wrong, and where it comes from.
use Rattle.std.proofs.Common.{◌≡◌, ℕ, ◌+◌, ◌≤◌, arith, rules, refl, sym, ◌∙◌, subst, List, false, true, Bool, cond, inl, inr}
use Rattle.std.specs.Prelude.{Option, Some, None, ◌⊎◌, ◌==◌, ◌||◌, ◌&&◌, nat_le, IsTrue}
use Rattle.mips_isa.specs.declared.instr.Instr.{Instr}
use Rattle.mips_text.specs.Text.{IsText, InText, At, Writes, CheckWindow}
use Rattle.mips_text.specs.Blocks.{IsStart}
use Rattle.mips_faults.specs.Faults.{in_even, in_odd}
use Rattle.mips_text.specs.Typing.{Role, master, shadow, signs, Of, CheckAt, Next, Path, first, then, IsGuarded, IsProductOf, ProductsOf}
use Rattle.harden_lint.specs.Rules.{WellTyped}
use Rattle.harden_lint.proofs.Places.{no_truth}
use Rattle.harden_lint.proofs.Words.{next_text}
use Rattle.harden_lint.proofs.Services.{Due, Given, given, due_no_start}

some_role : (X Y : Role) → Some X ≡ Some Y → X ≡ Y
some_role X Y h = search (rules, h)

pub one_role : (X Y : Role) (q : ℕ) → Of X q → Of Y q → X ≡ Y
one_role X Y q h k = some_role X Y (sym h ∙ k)

not_master : master ≡ shadow → ⊥
not_master h = search (rules, h)

not_signs : master ≡ signs → ⊥
not_signs h = search (rules, h)

nor_signs : shadow ≡ signs → ⊥
nor_signs h = search (rules, h)

pub role_or : (X W : Role) → (X ≡ W) ⊎ (X ≡ W → ⊥)
role_or master master = inl refl
role_or shadow shadow = inl refl
role_or signs signs = inl refl
role_or master shadow = inr not_master
role_or master signs = inr not_signs
role_or shadow master = inr (λ h. not_master (sym h))
role_or shadow signs = inr nor_signs
role_or signs master = inr (λ h. not_signs (sym h))
role_or signs shadow = inr (λ h. nor_signs (sym h))

no_role : (X : Role) → None ≡ Some X → ⊥
no_role X h = search (rules, h)

pub zero_free : (X : Role) → Of X 0 → ⊥
zero_free X h = no_role X h

pub two_free : (X : Role) → Of X 2 → ⊥
two_free X h = no_role X h

-- the registers of the two halves of memory
abbrev low_master : ℕ → Bool
low_master r = nat_le 4 r && nat_le r 13

abbrev low_shadow : ℕ → Bool
low_shadow r = nat_le 14 r && nat_le r 23

abbrev role_by : Bool → Bool → Bool → Option Role
role_by x y z = cond x (Some master) (cond y (Some shadow) (cond z (Some signs) None))

role_master : (x y z : Bool) → x ≡ true → role_by x y z ≡ Some master
role_master x y z h = rw h refl

role_shadow : (x y z : Bool) → x ≡ false → y ≡ true → role_by x y z ≡ Some shadow
role_shadow x y z h k = rw (h, k) refl

widen_or : (x y z : Bool) → (x || z) ≡ true → (x || (y || z)) ≡ true
widen_or true y z h = refl
widen_or false true z h = refl
widen_or false false z h = h

widen_or' : (x y z : Bool) → (x || y) ≡ true → (x || (y || z)) ≡ true
widen_or' true y z h = refl
widen_or' false true z h = refl
widen_or' false false z h = absurd (no_truth h)

not_low : (r : ℕ) → (low_shadow r || (r == 25)) ≡ true → (low_master r || ((r == 29) || (r == 31))) ≡ false
not_low r h = grind arith

pub even_master : (r : ℕ) → IsTrue (in_even r) → Of master r
even_master r h = role_master (low_master r || ((r == 29) || (r == 31))) (low_shadow r || ((r == 25) || (r == 30))) ((r == 1) || ((r == 24) || (r == 28))) (widen_or (low_master r) (r == 29) (r == 31) h)

pub odd_shadow : (r : ℕ) → IsTrue (in_odd r) → Of shadow r
odd_shadow r h = role_shadow (low_master r || ((r == 29) || (r == 31))) (low_shadow r || ((r == 25) || (r == 30))) ((r == 1) || ((r == 24) || (r == 28))) (not_low r h) (widen_or' (low_shadow r) (r == 25) (r == 30) h)

-- a step of the clean run goes to a next word, or to a start
abbrev pub Edge : List ℕ → (entry a b : ℕ) → Type 0
Edge text entry a b = Next text a b ⊎ IsStart text entry b

-- where the stream W is wrong, a register is kept at an address: it is register 0, or of another stream, or guarded, or register 2
-- around a service
pub data Keeps (text : List ℕ) (entry : ℕ) (W : Role) (a q : ℕ) : Type 0 where
  zero_kept : q ≡ 0 → Keeps text entry W a q
  other : (X : Role) → Of X q → (X ≡ W → ⊥) → Keeps text entry W a q
  guard : IsGuarded text entry a q → Keeps text entry W a q
  due : q ≡ 2 → Due text W a → Keeps text entry W a q

-- where HI and LO are kept: where they come from another stream
abbrev pub Halves : List ℕ → (entry : ℕ) → Role → ℕ → Type 0
Halves text entry W a = (ProductsOf text entry master a × (master ≡ W → ⊥)) ⊎ (ProductsOf text entry shadow a × (shadow ≡ W → ⊥))

-- where what is kept at the next word comes from
pub data Came (text : List ℕ) (entry : ℕ) (W : Role) (a q : ℕ) : Type 0 where
  came_zero : q ≡ 0 → Came text entry W a q
  came_other : (X : Role) → Of X q → (X ≡ W → ⊥) → Came text entry W a q
  came_check : (x y : ℕ) → CheckAt text a x y → (q ≡ x) ⊎ (q ≡ y) → Came text entry W a q
  came_held : IsGuarded text entry a q → (Writes text a q → ⊥) → Came text entry W a q
  came_given : q ≡ 2 → Given text W a → Came text entry W a q

-- guarded registers
above : (c p a : ℕ) → c ≤ p → p + 4 ≤ a → c ≤ a
above c p a h l = omega arith

least_equal : (a c : ℕ) → a ≡ c → c ≤ a
least_equal a c h = omega arith

least : (text : List ℕ) (entry c r a : ℕ) → Path text entry c r a → c ≤ a
least text entry c r a (first _ e) = least_equal a c e
least text entry c r a (then _ p q l n s u w) = above c p a (least text entry c r p q) l

upto : (a b u : ℕ) → a + 4 ≤ b → b ≤ u → a ≤ u
upto a b u h k = omega arith

after_check : (c p a : ℕ) → c ≤ p → p + 4 ≤ a → c + 4 ≤ a
after_check c p a h k = omega arith

no_room : (a c : ℕ) → a ≡ c → c + 4 ≤ a → ⊥
no_room a c e h = omega arith

window_before : (text : List ℕ) (c x y a b r : ℕ) → CheckWindow text c x y b r → InText text a → c + 4 ≤ a → a + 4 ≤ b → CheckWindow text c x y a r
window_before text c x y a b r n t h k = record { differ = n.differ; x_not_zero = n.x_not_zero; y_not_zero = n.y_not_zero; check = n.check; report = n.report; one = n.one; use_at = n.use_at; critical = n.critical; aligned = t.aligned; from = h; upto = upto a b n.use_at k n.upto; within = n.within; unwritten = n.unwritten }

held_by : (text : List ℕ) (entry : ℕ) (W : Role) (c x y a b r : ℕ) → CheckAt text c x y → CheckWindow text c x y b r → Next text a b → a + 4 ≤ b → (Writes text a r → ⊥) → Path text entry c r a → Came text entry W a r
held_by text entry W c x y a b r k n nx l w (first _ e) = came_check x y (subst (λ (z : ℕ). CheckAt text z x y) (sym e) k) n.one
held_by text entry W c x y a b r k n nx l w (then _ p q m np s u v) = came_held (record { no_start = s; c = c; x = x; y = y; check = k; window = window_before text c x y a b r n (next_text text a b nx) (after_check c p a (least text entry c r p q) m) l; path = then a p q m np s u v }) w

guard_by : (text : List ℕ) (entry : ℕ) (W : Role) (c x y a b r : ℕ) → CheckAt text c x y → CheckWindow text c x y b r → Next text a b → Path text entry c r b → Came text entry W a r
guard_by text entry W c x y a b r k n nx (first _ e) = absurd (no_room b c e n.from)
guard_by text entry W c x y a b r k n nx (then _ p q l np s u w) = subst (λ (z : ℕ). Came text entry W z r) (sym (u a nx)) (held_by text entry W c x y p b r k n np l w q)

module _ (text : List ℕ) (entry : ℕ) (fits : IsText text) (rules_hold : WellTyped text entry) where
  next_came : (W : Role) (a b q : ℕ) → Next text a b → Keeps text entry W b q → Came text entry W a q
  next_came W a b q n (zero_kept e) = came_zero e
  next_came W a b q n (other X o d) = came_other X o d
  next_came W a b q n (guard g) = guard_by text entry W g.c g.x g.y a b q g.check g.window n g.path
  next_came W a b q n (due e d) = came_given e (given text entry fits rules_hold W a b n d)

  start_came : (W : Role) (a b q : ℕ) → IsStart text entry b → Keeps text entry W b q → Came text entry W a q
  start_came W a b q s (zero_kept e) = came_zero e
  start_came W a b q s (other X o d) = came_other X o d
  start_came W a b q s (guard g) = absurd (g.no_start s)
  start_came W a b q s (due e d) = absurd (due_no_start text entry fits rules_hold W b d s)

  pub came : (W : Role) (a b q : ℕ) → Edge text entry a b → Keeps text entry W b q → Came text entry W a q
  came W a b q (inl n) k = next_came W a b q n k
  came W a b q (inr s) k = start_came W a b q s k

  -- HI and LO are kept at the next word only behind a product of another stream
  pub record Producing (W : Role) (a : ℕ) : Type 0 where
    pub stream : Role
    pub right : stream ≡ W → ⊥
    pub instr : Instr
    pub at : At text a instr
    pub product : IsProductOf stream instr

  producing_by : (W X : Role) (a b : ℕ) → Next text a b → (X ≡ W → ⊥) → ProductsOf text entry X b → Producing W a
  producing_by W X a b n d p = let e : (i : Instr) × (At text a i × IsProductOf X i) = p.each a n in record { stream = X; right = d; instr = e.0; at = e.1.0; product = e.1.1 }

  pub producing : (W : Role) (a b : ℕ) → Edge text entry a b → Halves text entry W b → Producing W a
  producing W a b (inl n) (inl h) = producing_by W master a b n h.1 h.0
  producing W a b (inl n) (inr h) = producing_by W shadow a b n h.1 h.0
  producing W a b (inr s) (inl h) = absurd (h.0.no_start s)
  producing W a b (inr s) (inr h) = absurd (h.0.no_start s)
