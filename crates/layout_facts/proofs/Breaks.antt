-- Each break of a block behind which something stands is skipped by a branch.
use Rattle.std.proofs.Common.{◌≡◌, ℕ, ◌+◌, ◌%◌, ◌^◌, ap, refl, sym, ◌∙◌, subst, List, [], ◌∷◌, ◌++◌, append_assoc, Bool, true, false, inl, inr}
use Rattle.std.specs.Prelude.{Option, Some, None, if◌then◌else◌, flat_map}
use Rattle.mips_isa.specs.declared.instr.Instr.{Instr}
use Rattle.mips_isa.specs.declared.instr.Instr.TheVariants.{Addu, Beq, Bne, Break, J, Jal, Jr, Ori, Sw, Syscall, Xor, Xori}
use Rattle.mips_isa.specs.Machine.{is_product}
use Rattle.mips_isa.specs.Locality.{is_data, is_move}
use Rattle.mips_text.specs.Text.{IsBranch}
use Rattle.hard_items.specs.declared.code.Class.TheVariants.{Act, Check, Head, Input}
use Rattle.hard_items.specs.declared.code.Fix.TheVariants.{Plain, Block, Function}
use Rattle.hard_items.specs.declared.code.Item.{Item}
use Rattle.hard_items.specs.declared.code.Mark.{Mark}
use Rattle.hard_items.specs.Streams.{nop, plain, shadow_of}
use Rattle.hard_items.specs.Counts.{is_break}
use Rattle.hard_items.specs.Forms.{Each, Form, Alone, Product, Store, Test, Output, Takes, Idle, Close, Jump, Branch, Call, Return, Exit, form_items, close_items, check_if, going, FormFits, Formed}
use Rattle.layout_law.proofs.Lines.{head_of}

no_true : true ≡ false → ⊥
no_true e = cc

-- Items of which each break is skipped, or is the last.
pub data Fine : List Item → Type 0 where
  none : Fine []
  ends : (i : Item) → Fine (i ∷ [])
  stays : (i : Item) (more : List Item) → is_break i.instr ≡ false → Fine more → Fine (i ∷ more)
  skips : (i s k : Item) (more : List Item) (rs rt : ℕ) → IsBranch i.instr rs rt 2 → i.fix ≡ Plain → is_break s.instr ≡ false → Fine more → Fine (i ∷ s ∷ k ∷ more)

-- ---- the forms

data_stays : (x : Instr) → is_data x ≡ true → is_break x ≡ false
data_stays (Break code) h = absurd (no_true (sym h))
data_stays x h = refl

product_stays : (x : Instr) → is_product x ≡ true → is_break x ≡ false
product_stays (Break code) h = absurd (no_true (sym h))
product_stays x h = refl

move_stays : (x : Instr) → is_move x ≡ true → is_break x ≡ false
move_stays (Break code) h = absurd (no_true (sym h))
move_stays x h = refl

check_fine : (c : Bool) (m : ℕ) (ys : List Item) → Fine ys → Fine (check_if c m ++ ys)
check_fine true m ys f = skips (plain (Beq m (shadow_of m) 2) Check) (plain nop Check) (plain (Break 1) Check) ys m (shadow_of m) (inl refl) refl refl f
check_fine false m ys f = f

abbrev stores : (v o k : ℕ) → List Item
stores v o k = plain (Sw v o k) Act ∷ plain (Sw (shadow_of v) (shadow_of o) ((k + 4) % 2 ^ 16)) Act ∷ []

abbrev tests : (r code : ℕ) → List Item
tests r code = plain (Bne r 0 2) Act ∷ plain nop Act ∷ plain (Break code) Act ∷ []

form_fine : (f : Form) → FormFits f → (ys : List Item) → Fine ys → Fine (form_items f ++ ys)
form_fine (Alone i) h ys f = stays i ys (data_stays i.instr h.computes) f
form_fine (Product i j) h ys f = stays i (j ∷ ys) (product_stays i.instr h.product) (stays j ys (move_stays j.instr h.move) f)
form_fine (Store c v o k) h ys f =
    subst Fine (sym (append_assoc (check_if c v) (check_if c o ++ stores v o k) ys ∙ ap (λ (z : List Item). check_if c v ++ z) (append_assoc (check_if c o) (stores v o k) ys)))
    (check_fine c v (check_if c o ++ (stores v o k ++ ys)) (check_fine c o (stores v o k ++ ys)
    (stays (plain (Sw v o k) Act) (plain (Sw (shadow_of v) (shadow_of o) ((k + 4) % 2 ^ 16)) Act ∷ ys) refl (stays (plain (Sw (shadow_of v) (shadow_of o) ((k + 4) % 2 ^ 16)) Act) ys refl f))))
form_fine (Test c r code) h ys f =
    subst Fine (sym (append_assoc (check_if c r) (tests r code) ys)) (check_fine c r (tests r code ++ ys) (skips (plain (Bne r 0 2) Act) (plain nop Act) (plain (Break code) Act) ys r 0 (inr refl) refl refl f))
form_fine (Output true) h ys f = skips (plain (Beq 4 14 2) Check) (plain (Ori 2 0 1) Act) (plain (Break 1) Check) (plain Syscall Act ∷ ys) 4 14 (inl refl) refl refl (stays (plain Syscall Act) ys refl f)
form_fine (Output false) h ys f = stays (plain (Ori 2 0 1) Act) (plain Syscall Act ∷ ys) refl (stays (plain Syscall Act) ys refl f)
form_fine (Takes r) h ys f =
    stays (plain (Ori 2 0 5) Input) (plain Syscall Input ∷ plain (Addu r 2 0) Input ∷ plain (Addu (shadow_of r) 2 0) Input ∷ ys) refl
    (stays (plain Syscall Input) (plain (Addu r 2 0) Input ∷ plain (Addu (shadow_of r) 2 0) Input ∷ ys) refl
    (stays (plain (Addu r 2 0) Input) (plain (Addu (shadow_of r) 2 0) Input ∷ ys) refl (stays (plain (Addu (shadow_of r) 2 0) Input) ys refl f)))
form_fine Idle h ys f = stays (plain nop Act) ys refl f

two_fine : (i j : Item) → is_break i.instr ≡ false → is_break j.instr ≡ false → Fine (i ∷ j ∷ [])
two_fine i j h k = stays i (j ∷ []) h (stays j [] k none)

close_fine : (c : Close) → Fine (close_items c)
close_fine (Jump to) = two_fine (going (J 0) (Block to)) (plain nop Act) refl refl
close_fine (Branch c r true to) = check_fine c r (going (Bne r 0 0) (Block to) ∷ plain nop Act ∷ []) (two_fine (going (Bne r 0 0) (Block to)) (plain nop Act) refl refl)
close_fine (Branch c r false to) = check_fine c r (going (Beq r 0 0) (Block to) ∷ plain nop Act ∷ []) (two_fine (going (Beq r 0 0) (Block to)) (plain nop Act) refl refl)
close_fine (Call f) = two_fine (going (Jal 0) (Function f)) (plain nop Act) refl refl
close_fine (Return c) = check_fine c 31 (plain (Jr 31) Act ∷ plain nop Act ∷ []) (two_fine (plain (Jr 31) Act) (plain nop Act) refl refl)
close_fine (Exit true) = skips (plain (Beq 4 14 2) Check) (plain (Ori 2 0 17) Act) (plain (Break 1) Check) (plain Syscall Act ∷ plain (Break 1) Act ∷ []) 4 14 (inl refl) refl refl (stays (plain Syscall Act) (plain (Break 1) Act ∷ []) refl (ends (plain (Break 1) Act)))
close_fine (Exit false) = stays (plain (Ori 2 0 17) Act) (plain Syscall Act ∷ plain (Break 1) Act ∷ []) refl (stays (plain Syscall Act) (plain (Break 1) Act ∷ []) refl (ends (plain (Break 1) Act)))

forms_fine : (fs : List Form) → Each FormFits fs → (ys : List Item) → Fine ys → Fine (flat_map form_items fs ++ ys)
forms_fine [] h ys f = f
forms_fine (g ∷ fs) h ys f = subst Fine (sym (append_assoc (form_items g) (flat_map form_items fs) ys)) (form_fine g h.0 (flat_map form_items fs ++ ys) (forms_fine fs h.1 ys f))

own_fine : (xs : List Item) → Formed xs → Fine xs
own_fine xs g = subst Fine (sym g.is) (forms_fine g.forms g.fit (close_items g.close) (close_fine g.close))

-- The items of a block, with a head or without.
pub block_fine : (o : Option Mark) (xs : List Item) → Formed xs → Fine (head_of o ++ xs)
block_fine None xs g = own_fine xs g
block_fine (Some m) xs g =
    stays (plain (Xori 24 24 m.d) Head) _ refl (stays (plain (if m.fan then Xor 24 24 28 else nop) Head) _ (second m.fan) (stays (plain (Ori 1 0 m.s) Head) _ refl (stays (plain (Ori 28 0 m.adjust) Head) _ refl
    (skips (plain (Beq 24 1 2) Head) (plain nop Head) (plain (Break 2) Head) xs 24 1 (inl refl) refl refl (own_fine xs g)))))
  where
    second : (z : Bool) → is_break (if z then Xor 24 24 28 else nop) ≡ false
    second true = refl
    second false = refl

-- ---- the branch before a break

-- What stands before a break.
pub record Skipped (done : List Item) : Type 0 where
  pub front : List Item
  pub branch : Item
  pub slot : Item
  pub is : done ≡ front ++ branch ∷ slot ∷ []
  pub rs : ℕ
  pub rt : ℕ
  pub compares : IsBranch branch.instr rs rt 2
  pub no_field : branch.fix ≡ Plain

same_head : (x y : Item) (xs ys : List Item) → x ∷ xs ≡ y ∷ ys → x ≡ y
same_head x y xs ys e = cc

same_tail : (x y : Item) (xs ys : List Item) → x ∷ xs ≡ y ∷ ys → xs ≡ ys
same_tail x y xs ys e = cc

more_skipped : (x : Item) (done : List Item) → Skipped done → Skipped (x ∷ done)
more_skipped x done s = record { front = x ∷ s.front; branch = s.branch; slot = s.slot; is = ap (λ (z : List Item). x ∷ z) s.is; rs = s.rs; rt = s.rt; compares = s.compares; no_field = s.no_field }

no_break : (i d : Item) → i ≡ d → is_break i.instr ≡ false → is_break d.instr ≡ true → ⊥
no_break i d e h k = no_true (sym k ∙ (ap (λ (z : Item). is_break z.instr) (sym e) ∙ h))

branch_no_break : (x : Instr) (rs rt : ℕ) → IsBranch x rs rt 2 → is_break x ≡ false
branch_no_break x rs rt (inl e) = ap is_break e
branch_no_break x rs rt (inr e) = ap is_break e

pub before_break : (xs : List Item) → Fine xs → (done : List Item) (d j : Item) (more : List Item) → xs ≡ done ++ d ∷ j ∷ more → is_break d.instr ≡ true → Skipped done
before_break xs none [] d j more e h = absurd (no e)
  where
    no : [] ≡ d ∷ j ∷ more → ⊥
    no e = cc
before_break xs none (x ∷ done) d j more e h = absurd (no e)
  where
    no : {ys : List Item} → [] ≡ x ∷ ys → ⊥
    no e = cc
before_break xs (ends i) [] d j more e h = absurd (no (same_tail i d [] (j ∷ more) e))
  where
    no : [] ≡ j ∷ more → ⊥
    no e = cc
before_break xs (ends i) (x ∷ done) d j more e h = absurd (short done (same_tail i x [] (done ++ d ∷ j ∷ more) e))
  where
    no : (y : Item) (ys : List Item) → [] ≡ y ∷ ys → ⊥
    no y ys e = cc

    short : (done : List Item) → [] ≡ done ++ d ∷ j ∷ more → ⊥
    short [] e = no d (j ∷ more) e
    short (y ∷ ys) e = no y (ys ++ d ∷ j ∷ more) e
before_break xs (stays i rest b f) [] d j more e h = absurd (no_break i d (same_head i d rest (j ∷ more) e) b h)
before_break xs (stays i rest b f) (x ∷ done) d j more e h = more_skipped x done (before_break rest f done d j more (same_tail i x rest (done ++ d ∷ j ∷ more) e) h)
before_break xs (skips i s k rest rs rt b n c f) [] d j more e h = absurd (no_break i d (same_head i d (s ∷ k ∷ rest) (j ∷ more) e) (branch_no_break i.instr rs rt b) h)
before_break xs (skips i s k rest rs rt b n c f) (x ∷ []) d j more e h = absurd (no_break s d (same_head s d (k ∷ rest) (j ∷ more) (same_tail i x (s ∷ k ∷ rest) (d ∷ j ∷ more) e)) c h)
before_break xs (skips i s k rest rs rt b n c f) (x ∷ y ∷ []) d j more e h =
    let same : i ≡ x = same_head i x (s ∷ k ∷ rest) (y ∷ d ∷ j ∷ more) e in
    record { front = []; branch = x; slot = y; is = refl; rs = rs; rt = rt; compares = subst (λ (z : Item). IsBranch z.instr rs rt 2) same b; no_field = subst (λ (z : Item). z.fix ≡ Plain) same n }
before_break xs (skips i s k rest rs rt b n c f) (x ∷ y ∷ z ∷ done) d j more e h =
    more_skipped x (y ∷ z ∷ done) (more_skipped y (z ∷ done) (more_skipped z done (before_break rest f done d j more
    (same_tail k z rest (done ++ d ∷ j ∷ more) (same_tail s y (k ∷ rest) (z ∷ (done ++ d ∷ j ∷ more)) (same_tail i x (s ∷ k ∷ rest) (y ∷ z ∷ (done ++ d ∷ j ∷ more)) e))) h)))
