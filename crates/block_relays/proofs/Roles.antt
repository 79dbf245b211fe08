-- What the forms of a block say of its items that name a block or a function, and of jr: they stand in its close.
use Rattle.std.proofs.Common.{◌≡◌, ◌<◌, ℕ, zero, suc, ◌+◌, arith, refl, sym, ◌∙◌, subst, List, [], ◌∷◌, ◌++◌, length, get_or, Bool, true, false, inl, inr}
use Rattle.std.specs.Prelude.{◌⊎◌, flat_map}
use Rattle.mips_isa.specs.declared.instr.Instr.{Instr}
use Rattle.mips_isa.specs.declared.instr.Instr.TheVariants.{J, Jal, Jr, Beq, Bne}
use Rattle.mips_isa.specs.Machine.{is_product}
use Rattle.mips_isa.specs.Locality.{is_move, is_data}
use Rattle.hard_items.specs.declared.code.Fix.{Fix}
use Rattle.hard_items.specs.declared.code.Fix.TheVariants.{Plain, Block, Function, ReturnHigh, ReturnLow}
use Rattle.hard_items.specs.declared.code.Item.{Item}
use Rattle.hard_items.specs.declared.code.HardProgram.{HardProgram}
use Rattle.hard_items.specs.Run.{items_of, makes_number}
use Rattle.hard_items.specs.Ways as mf
use Rattle.hard_items.specs.Ways.{Holds, MayFollow, IsOfFunction, CallsFunction}
use Rattle.hard_items.specs.Forms.{Each, Form, Alone, Product, Store, Test, Output, Takes, Idle, Close, Jump, Branch, Call, Return, Exit, form_items, close_items, block_of, FormFits, HalfFits, Formed}
use Rattle.block_relays.specs.Renumber.{is_branch, IsTest}
use Rattle.block_relays.specs.Relays.{Relays, Nothing, Next, Turned, Both, RelaysFit, MayRelay, place_of, HasRelays}
use Rattle.hard_runs.specs.Observed.{SameObserved}
use Rattle.hard_runs.specs.Stepping.{Always}
use Rattle.hard_items.specs.Run.{items, first_spot, item_run}
use Rattle.hard_items.specs.Rules.{LawfulAt}
use Rattle.block_relays.specs.Renumber.{Orderly}
use Rattle.block_relays.proofs.Renumbering.{runs_renumbered}
use Rattle.block_relays.proofs.Relays.{relays_renumber}

no_true : true ≡ false → ⊥
no_true e = cc

-- ---- roles

abbrev pub Goes : Close → ℕ → Instr → Type 0
Goes (Jump to) t x = (x ≡ J 0) × (t ≡ to)
Goes (Branch checked r when to) t x = ((x ≡ Bne r 0 0) ⊎ (x ≡ Beq r 0 0)) × (t ≡ to)
Goes c t x = ⊥

abbrev pub IsCallClose : Close → Type 0
IsCallClose (Call f) = Unit {0}
IsCallClose c = ⊥

abbrev pub IsReturnClose : Close → Type 0
IsReturnClose (Return checked) = Unit {0}
IsReturnClose c = ⊥

abbrev pub JrFits : Close → Instr → Type 0
JrFits c (Jr rs) = IsReturnClose c
JrFits c x = Unit {0}

abbrev pub RoleAs : Close → Fix → Instr → Type 0
RoleAs c Plain x = JrFits c x
RoleAs c (Block t) x = Goes c t x
RoleAs c (Function f) x = IsCallClose c × (x ≡ Jal 0)
RoleAs c ReturnHigh x = JrFits c x
RoleAs c ReturnLow x = JrFits c x

pub record Role (c : Close) (i : Item) : Type 0 where
  pub is : RoleAs c i.fix i.instr

by_data : (c : Close) (x : Instr) → is_data x ≡ true → JrFits c x
by_data c (Jr rs) h = absurd (no_true (sym h))
by_data c x h = tt

by_product : (c : Close) (x : Instr) → is_product x ≡ true → JrFits c x
by_product c (Jr rs) h = absurd (no_true (sym h))
by_product c x h = tt

by_move : (c : Close) (x : Instr) → is_move x ≡ true → JrFits c x
by_move c (Jr rs) h = absurd (no_true (sym h))
by_move c x h = tt

alone : (c : Close) (i : Item) (f : Fix) → is_data i.instr ≡ true → HalfFits i f → RoleAs c f i.instr
alone c i Plain d h = by_data c i.instr d
alone c i (Block t) d h = absurd h
alone c i (Function f) d h = absurd h
alone c i ReturnHigh d h = by_data c i.instr d
alone c i ReturnLow d h = by_data c i.instr d

as_plain : (c : Close) (i : Item) → i.fix ≡ Plain → JrFits c i.instr → Role c i
as_plain c i e h = record { is = subst (λ (f : Fix). RoleAs c f i.instr) (sym e) h }

unit : {c : Close} {i : Item} → RoleAs c i.fix i.instr → Role c i
unit h = record { is = h }

each_append : (P : Item → Type 0) (xs ys : List Item) → Each P xs → Each P ys → Each P (xs ++ ys)
each_append P [] ys h k = k
each_append P (x ∷ xs) ys h k = (h.0, each_append P xs ys h.1 k)

check_roles : (c : Close) (checked : Bool) (m : ℕ) → Each (Role c) (Rattle.hard_items.specs.Forms.check_if checked m)
check_roles c true m = (unit tt, (unit tt, (unit tt, tt)))
check_roles c false m = tt

number_roles : (c : Close) (checked : Bool) (n : ℕ) → Each (Role c) (Rattle.hard_items.specs.Forms.service_number checked n)
number_roles c true n = (unit tt, (unit tt, (unit tt, tt)))
number_roles c false n = (unit tt, tt)

form_roles : (c : Close) (f : Form) → FormFits f → Each (Role c) (form_items f)
form_roles c (Alone i) h = (record { is = alone c i i.fix h.computes h.half_fits }, tt)
form_roles c (Product i j) h = (as_plain c i h.plain_product (by_product c i.instr h.product), (as_plain c j h.plain_move (by_move c j.instr h.move), tt))
form_roles c (Store checked v b o) h = each_append (Role c) (Rattle.hard_items.specs.Forms.check_if checked v) _ (check_roles c checked v) (each_append (Role c) (Rattle.hard_items.specs.Forms.check_if checked b) _ (check_roles c checked b) (unit tt, (unit tt, tt)))
form_roles c (Test checked r code) h = each_append (Role c) (Rattle.hard_items.specs.Forms.check_if checked r) _ (check_roles c checked r) (unit tt, (unit tt, (unit tt, tt)))
form_roles c (Output checked) h = each_append (Role c) (Rattle.hard_items.specs.Forms.service_number checked 1) _ (number_roles c checked 1) (unit tt, tt)
form_roles c (Takes r) h = (unit tt, (unit tt, (unit tt, (unit tt, tt))))
form_roles c Idle h = (unit tt, tt)

close_roles : (c : Close) → Each (Role c) (close_items c)
close_roles (Jump to) = (unit (refl, refl), (unit tt, tt))
close_roles (Branch checked r true to) = each_append (Role (Branch checked r true to)) (Rattle.hard_items.specs.Forms.check_if checked r) _ (check_roles (Branch checked r true to) checked r) (unit (inl refl, refl), (unit tt, tt))
close_roles (Branch checked r false to) = each_append (Role (Branch checked r false to)) (Rattle.hard_items.specs.Forms.check_if checked r) _ (check_roles (Branch checked r false to) checked r) (unit (inr refl, refl), (unit tt, tt))
close_roles (Call f) = (unit (tt, refl), (unit tt, tt))
close_roles (Return checked) = each_append (Role (Return checked)) (Rattle.hard_items.specs.Forms.check_if checked 31) _ (check_roles (Return checked) checked 31) (unit tt, (unit tt, tt))
close_roles (Exit checked) = each_append (Role (Exit checked)) (Rattle.hard_items.specs.Forms.service_number checked 17) _ (number_roles (Exit checked) checked 17) (unit tt, (unit tt, tt))

forms_roles : (c : Close) (fs : List Form) → Each FormFits fs → Each (Role c) (flat_map form_items fs)
forms_roles c [] h = tt
forms_roles c (f ∷ fs) h = each_append (Role c) (form_items f) (flat_map form_items fs) (form_roles c f h.0) (forms_roles c fs h.1)

pub roles : (items : List Item) (g : Formed items) → Each (Role g.close) items
roles items g = subst (λ (z : List Item). Each (Role g.close) z) (sym g.is) (each_append (Role g.close) (flat_map form_items g.forms) (close_items g.close) (forms_roles g.close g.forms g.fit) (close_roles g.close))

each_by : (P : Item → Type 0) (xs : List Item) (k : ℕ) (i : Item) → Each P xs → k < length xs → get_or xs k i ≡ i → P i
each_by P [] k i h l e = absurd (no k l)
  where
    no : (n : ℕ) → n < 0 → ⊥
    no n h = omega arith
each_by P (x ∷ xs) zero i h l e = subst P e h.0
each_by P (x ∷ xs) (suc k) i h l e = each_by P xs k i h.1 (less k (length xs) l) e
  where
    less : (a b : ℕ) → suc a < suc b → a < b
    less a b h = omega arith

-- ---- what follows

pub role_of : (p : HardProgram) (b : ℕ) (i : Item) (g : Formed (items_of p b)) → Holds p b i → RoleAs g.close i.fix i.instr
role_of p b i g h = (each_by (Role g.close) (items_of p b) h.0 i (roles (items_of p b) g) h.1 h.2).is

pub goes_of : (p : HardProgram) (b t : ℕ) (i : Item) (g : Formed (items_of p b)) → Holds p b i → i.fix ≡ Block t → Goes g.close t i.instr
goes_of p b t i g h e = subst (λ (f : Fix). RoleAs g.close f i.instr) e (role_of p b i g h)

pub either : (c : Close) (t : ℕ) (x : Instr) → Goes c t x → ((target : ℕ) × (x ≡ J target)) ⊎ is_branch x
either (Jump to) t x h = inl (0, h.0)
either (Branch checked r when to) t x h = inr (elim h.0 as (λ z. is_branch x) [ inl z ↦ subst is_branch (sym z) tt | inr z ↦ subst is_branch (sym z) tt ])
either (Call f) t x h = absurd h
either (Return checked) t x h = absurd h
either (Exit checked) t x h = absurd h

-- The block's branch goes there.
abbrev pub BranchesTo : Close → ℕ → Type 0
BranchesTo (Branch checked r when to) t = to ≡ t
BranchesTo c t = ⊥

abbrev pub CloseRelays : Relays → Close → Type 0
CloseRelays Nothing c = Unit {0}
CloseRelays Next c = Unit {0}
CloseRelays (Turned u) c = BranchesTo c u
CloseRelays (Both u) c = BranchesTo c u

pub test_of : (c : Close) (u t : ℕ) (x : Instr) → BranchesTo c u → Goes c t x → (IsTest x × is_branch x) × (u ≡ t)
test_of (Branch checked r when to) u t x k h = (elim h.0 as (λ z. IsTest x × is_branch x) [ inl z ↦ subst (λ (y : Instr). IsTest y × is_branch y) (sym z) (refl, tt) | inr z ↦ subst (λ (y : Instr). IsTest y × is_branch y) (sym z) (refl, tt) ], sym k ∙ sym h.1)
test_of (Jump to) u t x k h = absurd k
test_of (Call f) u t x k h = absurd k
test_of (Return checked) u t x k h = absurd k
test_of (Exit checked) u t x k h = absurd k

fits_of : (r : Relays) (c : Close) (t : ℕ) (i : Item) → CloseRelays r c → Goes c t i.instr → RelaysFit r i t
fits_of Nothing c t i k h = tt
fits_of Next c t i k h = tt
fits_of (Turned u) c t i k h = ((test_of c u t i.instr k h).0.0, (test_of c u t i.instr k h).1)
fits_of (Both u) c t i k h = ((test_of c u t i.instr k h).0.1, (test_of c u t i.instr k h).1)

pub no_goal : (c : Close) (t : ℕ) (x : Instr) → IsReturnClose c → Goes c t x → ⊥
no_goal (Return checked) t x k h = h
no_goal (Jump to) t x k h = k
no_goal (Branch checked r when to) t x k h = k
no_goal (Call f) t x k h = k
no_goal (Exit checked) t x k h = k

pub no_call : (c : Close) → IsReturnClose c → IsCallClose c → ⊥
no_call (Return checked) k h = h
no_call (Jump to) k h = k
no_call (Branch checked r when to) k h = k
no_call (Call f) k h = k
no_call (Exit checked) k h = k

jump_or_branch : (x : Instr) (rs : ℕ) → x ≡ Jr rs → ((target : ℕ) × (x ≡ J target)) ⊎ is_branch x → ⊥
jump_or_branch x rs e (inl z) = no (sym e ∙ z.1)
  where
    no : Jr rs ≡ J z.0 → ⊥
    no e = cc
jump_or_branch x rs e (inr z) = subst is_branch e z

pub is_return : (c : Close) (f : Fix) (x : Instr) (rs : ℕ) → x ≡ Jr rs → RoleAs c f x → IsReturnClose c
is_return c Plain x rs e h = subst (JrFits c) e h
is_return c (Block t) x rs e h = absurd (jump_or_branch x rs e (either c t x h))
is_return c (Function f) x rs e h = absurd (no (sym e ∙ h.1))
  where
    no : Jr rs ≡ Jal 0 → ⊥
    no e = cc
is_return c ReturnHigh x rs e h = subst (JrFits c) e h
is_return c ReturnLow x rs e h = subst (JrFits c) e h

returns_of : (p : HardProgram) (b : ℕ) (g : Formed (items_of p b)) → IsReturnClose g.close → (n : ℕ) → MayFollow p b n → (f caller : ℕ) × (n ≡ caller + 1) × IsOfFunction p b f × CallsFunction p caller f
returns_of p b g k n (mf.jumped c tg i h x e) = absurd (no_goal g.close c i.instr k (goes_of p b c i g h e))
returns_of p b g k n (mf.branched_eq c rs rt imm i h x e) = absurd (no_goal g.close c i.instr k (goes_of p b c i g h e))
returns_of p b g k n (mf.branched_ne c rs rt imm i h x e) = absurd (no_goal g.close c i.instr k (goes_of p b c i g h e))
returns_of p b g k n (mf.fallen_eq c rs rt imm i h x e) = absurd (no_goal g.close c i.instr k (goes_of p b c i g h e))
returns_of p b g k n (mf.fallen_ne c rs rt imm i h x e) = absurd (no_goal g.close c i.instr k (goes_of p b c i g h e))
returns_of p b g k n (mf.called f c h e) = absurd (no_call g.close k ((subst (λ (z : Fix). RoleAs g.close z h.item.instr) h.names (role_of p b h.item g h.holds)).0))
returns_of p b g k n (mf.returned f caller rs i h x o c) = (f, caller, refl, o, c)

-- Blocks of forms may have blocks put behind them: where one turns or has both, its close branches there, and where one turns the
-- block makes no return number.
pub may_relay : (relays : ℕ → Relays) (p : HardProgram) (formed : (b : ℕ) → b < length p.blocks → Formed (items_of p b)) →
    ((b : ℕ) (h : b < length p.blocks) → CloseRelays (relays b) ((formed b h).close)) →
    ((b t : ℕ) (i : Item) → Holds p b i → relays b ≡ Turned t → makes_number i ≡ false) → MayRelay relays p
may_relay relays p formed c n = record {
  goes = λ b t i h e. either ((formed b (there b i h)).close) t i.instr (goes_of p b t i (formed b (there b i h)) h e);
  fits = λ b t i h e. fits_of (relays b) ((formed b (there b i h)).close) t i (c b (there b i h)) (goes_of p b t i (formed b (there b i h)) h e);
  no_number = n;
  returns = λ b m rs i h e k. returns_of p b (formed b (there b i h)) (is_return ((formed b (there b i h)).close) i.fix i.instr rs e (role_of p b i (formed b (there b i h)) h)) m k;
}
  where
    there : (b : ℕ) (i : Item) → Holds p b i → b < length p.blocks
    there b i h = Rattle.layout_law.proofs.Blocks.items_there p.blocks b i h

-- A program of forms with blocks put behind its blocks runs the same, and lawfully.
pub relays_run : (relays : ℕ → Relays) (p q : HardProgram) (input : List ℕ) → HasRelays relays p q → (formed : (b : ℕ) → b < length p.blocks → Formed (items_of p b)) →
    ((b : ℕ) (h : b < length p.blocks) → CloseRelays (relays b) ((formed b h).close)) →
    ((b t : ℕ) (i : Item) → Holds p b i → relays b ≡ Turned t → makes_number i ≡ false) → Orderly p → Always (items p) (first_spot p input) (LawfulAt p) →
    SameObserved (item_run q input) (item_run p input) × Always (items q) (first_spot q input) (LawfulAt q)
relays_run relays p q input h formed c n o g = runs_renumbered p q (place_of relays) input o (relays_renumber relays p q h (may_relay relays p formed c n)) g
