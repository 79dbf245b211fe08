-- Where the blocks of a program lead, by their closes.
use Rattle.std.proofs.Common.{◌≡◌, ℕ, ◌+◌, arith, ap, refl, sym, subst, List, [], ◌∷◌, Bool, true, false, inl, inr}
use Rattle.std.specs.Prelude.{◌⊎◌, flat_map, Some, slice_get, Contains}
use Rattle.std.proofs.lemmas.List.Elements.{Contains-append_right}
use Rattle.mips_isa.specs.declared.instr.Instr.{Instr}
use Rattle.mips_isa.specs.declared.instr.Instr.TheVariants.{J, Jal, Jr, Beq, Bne, Break, Syscall}
use Rattle.hard_items.specs.declared.code.Class.TheVariants.{Act}
use Rattle.hard_items.specs.declared.code.Fix.{Fix}
use Rattle.hard_items.specs.declared.code.Fix.TheVariants.{Plain, Block, Function, ReturnHigh, ReturnLow}
use Rattle.hard_items.specs.declared.code.Item.{Item}
use Rattle.hard_items.specs.declared.code.HardProgram.{HardProgram}
use Rattle.hard_items.specs.Run.{items_of}
use Rattle.hard_items.specs.Streams.{plain, nop}
use Rattle.hard_items.specs.Ways as mf
use Rattle.hard_items.specs.Ways.{Holds, MayFollow, IsOfFunction, CallsFunction}
use Rattle.hard_items.specs.Forms.{Each, Form, Alone, Product, Store, Test, Output, Takes, Idle, Close, Jump, Branch, Call, Return, Exit, form_items, close_items, check_if, service_number, going, FormFits, HalfFits, Formed}
use Rattle.block_relays.specs.Renumber.{is_branch}
use Rattle.block_relays.proofs.Roles.{Goes, IsReturnClose, goes_of, role_of, is_return}
use Rattle.layout_law.proofs.Laying.{contains_each, each_append}

-- ---- the items that name a function

-- Only a call's close names a function.
abbrev pub NamesBy : Close → Fix → Type 0
NamesBy c (Function f) = c ≡ Call f
NamesBy c fix = Unit {0}

pub record NameRole (c : Close) (i : Item) : Type 0 where
  pub is : NamesBy c i.fix

named : {c : Close} {i : Item} → NamesBy c i.fix → NameRole c i
named h = record { is = h }

half_names : (c : Close) (i : Item) (f : Fix) → HalfFits i f → NamesBy c f
half_names c i Plain h = tt
half_names c i (Block t) h = tt
half_names c i (Function f) h = absurd h
half_names c i ReturnHigh h = tt
half_names c i ReturnLow h = tt

check_names : (c : Close) (checked : Bool) (m : ℕ) → Each (NameRole c) (check_if checked m)
check_names c true m = (named tt, (named tt, (named tt, tt)))
check_names c false m = tt

number_names : (c : Close) (checked : Bool) (n : ℕ) → Each (NameRole c) (service_number checked n)
number_names c true n = (named tt, (named tt, (named tt, tt)))
number_names c false n = (named tt, tt)

form_names : (c : Close) (f : Form) → FormFits f → Each (NameRole c) (form_items f)
form_names c (Alone i) h = (record { is = half_names c i i.fix h.half_fits }, tt)
form_names c (Product i j) h = (record { is = subst (NamesBy c) (sym h.plain_product) tt }, (record { is = subst (NamesBy c) (sym h.plain_move) tt }, tt))
form_names c (Store checked v b o) h = each_append (NameRole c) (check_if checked v) _ (check_names c checked v) (each_append (NameRole c) (check_if checked b) _ (check_names c checked b) (named tt, (named tt, tt)))
form_names c (Test checked r code) h = each_append (NameRole c) (check_if checked r) _ (check_names c checked r) (named tt, (named tt, (named tt, tt)))
form_names c (Output checked) h = each_append (NameRole c) (service_number checked 1) _ (number_names c checked 1) (named tt, tt)
form_names c (Takes r) h = (named tt, (named tt, (named tt, (named tt, tt))))
form_names c Idle h = (named tt, tt)

close_names : (c : Close) → Each (NameRole c) (close_items c)
close_names (Jump to) = (named tt, (named tt, tt))
close_names (Branch checked r true to) = each_append (NameRole (Branch checked r true to)) (check_if checked r) _ (check_names (Branch checked r true to) checked r) (named tt, (named tt, tt))
close_names (Branch checked r false to) = each_append (NameRole (Branch checked r false to)) (check_if checked r) _ (check_names (Branch checked r false to) checked r) (named tt, (named tt, tt))
close_names (Call f) = (named refl, (named tt, tt))
close_names (Return checked) = each_append (NameRole (Return checked)) (check_if checked 31) _ (check_names (Return checked) checked 31) (named tt, (named tt, tt))
close_names (Exit checked) = each_append (NameRole (Exit checked)) (service_number checked 17) _ (number_names (Exit checked) checked 17) (named tt, (named tt, tt))

forms_names : (c : Close) (fs : List Form) → Each FormFits fs → Each (NameRole c) (flat_map form_items fs)
forms_names c [] h = tt
forms_names c (f ∷ fs) h = each_append (NameRole c) (form_items f) (flat_map form_items fs) (form_names c f h.0) (forms_names c fs h.1)

names : (items : List Item) (g : Formed items) → Each (NameRole g.close) items
names items g = subst (λ (z : List Item). Each (NameRole g.close) z) (sym g.is) (each_append (NameRole g.close) (flat_map form_items g.forms) (close_items g.close) (forms_names g.close g.forms g.fit) (close_names g.close))

pub calls_close : (p : HardProgram) (b f : ℕ) (g : Formed (items_of p b)) → CallsFunction p b f → g.close ≡ Call f
calls_close p b f g c = subst (NamesBy g.close) c.names (contains_each (NameRole g.close) (items_of p b) c.item (names (items_of p b) g) c.holds).is

-- ---- the item that closes a block

abbrev pub closing : Close → Item
closing (Jump to) = going (J 0) (Block to)
closing (Branch checked r true to) = going (Bne r 0 0) (Block to)
closing (Branch checked r false to) = going (Beq r 0 0) (Block to)
closing (Call f) = going (Jal 0) (Function f)
closing (Return checked) = plain (Jr 31) Act
closing (Exit checked) = plain (Break 1) Act

first_in : (i : Item) (xs : List Item) → Contains (i ∷ xs) i
first_in i xs = (0, omega arith, refl)

second_in : (i j : Item) (xs : List Item) → Contains (i ∷ j ∷ xs) j
second_in i j xs = (1, omega arith, refl)

closing_in : (c : Close) → Contains (close_items c) (closing c)
closing_in (Jump to) = first_in (going (J 0) (Block to)) (plain nop Act ∷ [])
closing_in (Branch checked r true to) = Contains-append_right {X = Item} (check_if checked r) (going (Bne r 0 0) (Block to) ∷ plain nop Act ∷ []) (going (Bne r 0 0) (Block to)) (first_in (going (Bne r 0 0) (Block to)) (plain nop Act ∷ []))
closing_in (Branch checked r false to) = Contains-append_right {X = Item} (check_if checked r) (going (Beq r 0 0) (Block to) ∷ plain nop Act ∷ []) (going (Beq r 0 0) (Block to)) (first_in (going (Beq r 0 0) (Block to)) (plain nop Act ∷ []))
closing_in (Call f) = first_in (going (Jal 0) (Function f)) (plain nop Act ∷ [])
closing_in (Return checked) = Contains-append_right {X = Item} (check_if checked 31) (plain (Jr 31) Act ∷ plain nop Act ∷ []) (plain (Jr 31) Act) (first_in (plain (Jr 31) Act) (plain nop Act ∷ []))
closing_in (Exit checked) = Contains-append_right {X = Item} (service_number checked 17) (plain Syscall Act ∷ plain (Break 1) Act ∷ []) (plain (Break 1) Act) (second_in (plain Syscall Act) (plain (Break 1) Act) [])

pub holds_closing : (p : HardProgram) (b : ℕ) (g : Formed (items_of p b)) → Holds p b (closing g.close)
holds_closing p b g = subst (λ (z : List Item). Contains z (closing g.close)) (sym g.is) (Contains-append_right {X = Item} (flat_map form_items g.forms) (close_items g.close) (closing g.close) (closing_in g.close))

-- ---- where a block leads

abbrev pub Leads : HardProgram → ℕ → Close → ℕ → Type 0
Leads p b (Jump to) m = m ≡ to
Leads p b (Branch checked r when to) m = (m ≡ to) ⊎ (m ≡ b + 1)
Leads p b (Call f) m = slice_get p.entries f ≡ Some m
Leads p b (Return checked) m = (f : ℕ) × ((caller : ℕ) × (IsOfFunction p b f × (CallsFunction p caller f × (m ≡ caller + 1))))
Leads p b (Exit checked) m = ⊥

by_goal : (p : HardProgram) (b m : ℕ) (c : Close) (x : Instr) → Goes c m x → Leads p b c m
by_goal p b m (Jump to) x h = h.1
by_goal p b m (Branch checked r when to) x h = inl h.1
by_goal p b m (Call f) x h = absurd h
by_goal p b m (Return checked) x h = absurd h
by_goal p b m (Exit checked) x h = absurd h

by_fall : (p : HardProgram) (b t : ℕ) (c : Close) (x : Instr) → Goes c t x → is_branch x → Leads p b c (b + 1)
by_fall p b t (Jump to) x h k = absurd (subst is_branch h.0 k)
by_fall p b t (Branch checked r when to) x h k = inr refl
by_fall p b t (Call f) x h k = absurd h
by_fall p b t (Return checked) x h k = absurd h
by_fall p b t (Exit checked) x h k = absurd h

by_return : (p : HardProgram) (b f caller : ℕ) (c : Close) → IsReturnClose c → IsOfFunction p b f → CallsFunction p caller f → Leads p b c (caller + 1)
by_return p b f caller (Return checked) k o h = (f, (caller, (o, (h, refl))))
by_return p b f caller (Jump to) k o h = absurd k
by_return p b f caller (Branch checked r when to) k o h = absurd k
by_return p b f caller (Call g) k o h = absurd k
by_return p b f caller (Exit checked) k o h = absurd k

branches_eq : (x : Instr) (rs rt imm : ℕ) → x ≡ Beq rs rt imm → is_branch x
branches_eq x rs rt imm e = subst is_branch (sym e) tt

branches_ne : (x : Instr) (rs rt imm : ℕ) → x ≡ Bne rs rt imm → is_branch x
branches_ne x rs rt imm e = subst is_branch (sym e) tt

pub leads : (p : HardProgram) (b m : ℕ) (g : Formed (items_of p b)) → MayFollow p b m → Leads p b g.close m
leads p b m g (mf.jumped c tg i h x e) = by_goal p b c g.close i.instr (goes_of p b c i g h e)
leads p b m g (mf.branched_eq c rs rt imm i h x e) = by_goal p b c g.close i.instr (goes_of p b c i g h e)
leads p b m g (mf.branched_ne c rs rt imm i h x e) = by_goal p b c g.close i.instr (goes_of p b c i g h e)
leads p b m g (mf.fallen_eq c rs rt imm i h x e) = by_fall p b c g.close i.instr (goes_of p b c i g h e) (branches_eq i.instr rs rt imm x)
leads p b m g (mf.fallen_ne c rs rt imm i h x e) = by_fall p b c g.close i.instr (goes_of p b c i g h e) (branches_ne i.instr rs rt imm x)
leads p b m g (mf.called f c h e) = subst (λ (z : Close). Leads p b z c) (sym (calls_close p b f g h)) e
leads p b m g (mf.returned f caller rs i h x o c) = by_return p b f caller g.close (is_return g.close i.fix i.instr rs x (role_of p b i g h)) o c

follow_by : (p : HardProgram) (b m : ℕ) (c : Close) → Holds p b (closing c) → Leads p b c m → MayFollow p b m
follow_by p b m (Jump to) h l = subst (MayFollow p b) (sym l) (mf.jumped to 0 (going (J 0) (Block to)) h refl refl)
follow_by p b m (Branch checked r true to) h (inl e) = subst (MayFollow p b) (sym e) (mf.branched_ne to r 0 0 (going (Bne r 0 0) (Block to)) h refl refl)
follow_by p b m (Branch checked r true to) h (inr e) = subst (MayFollow p b) (sym e) (mf.fallen_ne to r 0 0 (going (Bne r 0 0) (Block to)) h refl refl)
follow_by p b m (Branch checked r false to) h (inl e) = subst (MayFollow p b) (sym e) (mf.branched_eq to r 0 0 (going (Beq r 0 0) (Block to)) h refl refl)
follow_by p b m (Branch checked r false to) h (inr e) = subst (MayFollow p b) (sym e) (mf.fallen_eq to r 0 0 (going (Beq r 0 0) (Block to)) h refl refl)
follow_by p b m (Call f) h l = mf.called f m (record { item = going (Jal 0) (Function f); target = 0; holds = h; jumps = refl; names = refl }) l
follow_by p b m (Return checked) h l = subst (MayFollow p b) (sym l.1.1.1.1) (mf.returned l.0 l.1.0 31 (plain (Jr 31) Act) h refl l.1.1.0 l.1.1.1.0)
follow_by p b m (Exit checked) h l = absurd l

pub follows : (p : HardProgram) (b m : ℕ) (g : Formed (items_of p b)) → Leads p b g.close m → MayFollow p b m
follows p b m g l = follow_by p b m g.close (holds_closing p b g) l

pub close_calls : (p : HardProgram) (b f : ℕ) (g : Formed (items_of p b)) → g.close ≡ Call f → CallsFunction p b f
close_calls p b f g e = record { item = going (Jal 0) (Function f); target = 0; holds = subst (λ (z : Close). Holds p b (closing z)) e (holds_closing p b g); jumps = refl; names = refl }

-- A block with a branch to a block closes by it.
pub record Branches (c : Close) (t : ℕ) : Type 0 where
  pub checked : Bool
  pub register : ℕ
  pub when : Bool
  pub is : c ≡ Branch checked register when t

pub branches : (c : Close) (t : ℕ) (x : Instr) → Goes c t x → is_branch x → Branches c t
branches (Jump to) t x h k = absurd (subst is_branch h.0 k)
branches (Branch checked r when to) t x h k = record { checked = checked; register = r; when = when; is = ap (λ (z : ℕ). Branch checked r when z) (sym h.1) }
branches (Call f) t x h k = absurd h
branches (Return checked) t x h k = absurd h
branches (Exit checked) t x h k = absurd h

pub branch_item : (x : Instr) (rs rt imm : ℕ) → (x ≡ Beq rs rt imm) ⊎ (x ≡ Bne rs rt imm) → is_branch x
branch_item x rs rt imm (inl e) = branches_eq x rs rt imm e
branch_item x rs rt imm (inr e) = branches_ne x rs rt imm e

pub closing_branches : (c : Close) (t : ℕ) → Branches c t → ((closing c).fix ≡ Block t) × ((r : ℕ) × (((closing c).instr ≡ Beq r 0 0) ⊎ ((closing c).instr ≡ Bne r 0 0)))
closing_branches c t h = subst (λ (z : Close). ((closing z).fix ≡ Block t) × ((r : ℕ) × (((closing z).instr ≡ Beq r 0 0) ⊎ ((closing z).instr ≡ Bne r 0 0)))) (sym h.is) (by h.when)
  where
    by : (w : Bool) → ((closing (Branch h.checked h.register w t)).fix ≡ Block t) × ((r : ℕ) × (((closing (Branch h.checked h.register w t)).instr ≡ Beq r 0 0) ⊎ ((closing (Branch h.checked h.register w t)).instr ≡ Bne r 0 0)))
    by true = (refl, (h.register, inr refl))
    by false = (refl, (h.register, inl refl))
