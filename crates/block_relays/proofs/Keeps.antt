-- What the blocks of a program keep with blocks put behind them: forms, checks and the order of loads and products.
use Rattle.std.proofs.Common.{◌≡◌, ◌<◌, ℕ, zero, suc, ◌+◌, arith, ap, refl, sym, ◌∙◌, subst, List, [], ◌∷◌, ◌++◌, length, map, Bool, true, false, cond, not}
use Rattle.std.specs.Prelude.{flat_map, ◌&&◌}
use Rattle.mips_isa.specs.declared.instr.Instr.{Instr}
use Rattle.mips_isa.specs.declared.instr.Instr.TheVariants.{Beq, Bne}
use Rattle.hard_items.specs.declared.code.Fix.{Fix}
use Rattle.hard_items.specs.declared.code.Fix.TheVariants.{Plain, Block, Function, ReturnHigh, ReturnLow}
use Rattle.hard_items.specs.declared.code.Item.{Item}
use Rattle.hard_items.specs.declared.code.HardBlock.{HardBlock}
use Rattle.hard_items.specs.declared.code.HardProgram.{HardProgram}
use Rattle.hard_items.specs.Counts.{calm_from, is_break, may_stand, loaded, quiet_after}
use Rattle.hard_items.specs.Forms.{Each, Form, Alone, Product, Store, Test, Output, Takes, Idle, Close, Jump, Branch, Call, Return, Exit, form_items, close_items, FormFits, CloseFits, CloseHasChecks, HalfFits, HalvesAt, HalvesPair, Formed}
use Rattle.hard_items.specs.Rules.{Checked}
use Rattle.block_relays.specs.Relays.{Relays, Nothing, Next, Turned, Both, goals, place_of, goal_place, turned, put_as, put_item, relay, put_blocks, HasRelays}
use Rattle.std.specs.Prelude.{slice_get, None, Some, Option}
use Rattle.hard_items.specs.Run.{items_of, block_items}
use Rattle.hard_items.specs.Counts.{Calm}
use Rattle.hard_items.specs.Rules.{Guarded}

-- ---- forms

abbrev turned_when : Relays → Bool → Bool
turned_when Nothing z = z
turned_when Next z = z
turned_when (Turned t) z = not z
turned_when (Both t) z = z

-- The close of a block in its place.
abbrev pub put_close : (ℕ → ℕ) → (b : ℕ) → Relays → Close → Close
put_close place b r (Jump t) = Jump (goal_place place b r t)
put_close place b r (Branch checked m when t) = Branch checked m (turned_when r when) (goal_place place b r t)
put_close place b r (Call f) = Call f
put_close place b r (Return checked) = Return checked
put_close place b r (Exit checked) = Exit checked

-- A block that jumps turns nothing.
abbrev pub MayClose : Relays → Close → Type 0
MayClose (Turned u) (Jump t) = ⊥
MayClose r c = Unit {0}

map_append : (g : Item → Item) (xs ys : List Item) → map g (xs ++ ys) ≡ map g xs ++ map g ys
map_append g [] ys = refl
map_append g (x ∷ xs) ys = ap (λ (z : List Item). g x ∷ z) (map_append g xs ys)

alone_put : (place : ℕ → ℕ) (b : ℕ) (r : Relays) (i : Item) (f : Fix) → HalfFits i f → put_as place b r i f ≡ i
alone_put place b r i Plain h = refl
alone_put place b r i (Block t) h = absurd h
alone_put place b r i (Function f) h = refl
alone_put place b r i ReturnHigh h = refl
alone_put place b r i ReturnLow h = refl

form_put : (place : ℕ → ℕ) (b : ℕ) (r : Relays) (f : Form) → FormFits f → map (put_item place b r) (form_items f) ≡ form_items f
form_put place b r (Alone i) h = ap (λ (z : Item). z ∷ []) (alone_put place b r i i.fix h.half_fits)
form_put place b r (Product i j) h = ap (λ (z : Item). z ∷ put_item place b r j ∷ []) (ap (put_as place b r i) h.plain_product) ∙ ap (λ (z : Item). i ∷ z ∷ []) (ap (put_as place b r j) h.plain_move)
form_put place b r (Store true v c o) h = refl
form_put place b r (Store false v c o) h = refl
form_put place b r (Test true m code) h = refl
form_put place b r (Test false m code) h = refl
form_put place b r (Output true) h = refl
form_put place b r (Output false) h = refl
form_put place b r (Takes m) h = refl
form_put place b r Idle h = refl

forms_put : (place : ℕ → ℕ) (b : ℕ) (r : Relays) (fs : List Form) → Each FormFits fs → map (put_item place b r) (flat_map form_items fs) ≡ flat_map form_items fs
forms_put place b r [] h = refl
forms_put place b r (f ∷ fs) h = map_append (put_item place b r) (form_items f) (flat_map form_items fs)
    ∙ (ap (λ (z : List Item). z ++ map (put_item place b r) (flat_map form_items fs)) (form_put place b r f h.0) ∙ ap (λ (z : List Item). form_items f ++ z) (forms_put place b r fs h.1))

close_put : (place : ℕ → ℕ) (b : ℕ) (r : Relays) (c : Close) → MayClose r c → map (put_item place b r) (close_items c) ≡ close_items (put_close place b r c)
close_put place b Nothing (Jump t) h = refl
close_put place b Next (Jump t) h = refl
close_put place b (Turned u) (Jump t) h = absurd h
close_put place b (Both u) (Jump t) h = refl
close_put place b Nothing (Branch true m true t) h = refl
close_put place b Nothing (Branch true m false t) h = refl
close_put place b Nothing (Branch false m true t) h = refl
close_put place b Nothing (Branch false m false t) h = refl
close_put place b Next (Branch true m true t) h = refl
close_put place b Next (Branch true m false t) h = refl
close_put place b Next (Branch false m true t) h = refl
close_put place b Next (Branch false m false t) h = refl
close_put place b (Turned u) (Branch true m true t) h = refl
close_put place b (Turned u) (Branch true m false t) h = refl
close_put place b (Turned u) (Branch false m true t) h = refl
close_put place b (Turned u) (Branch false m false t) h = refl
close_put place b (Both u) (Branch true m true t) h = refl
close_put place b (Both u) (Branch true m false t) h = refl
close_put place b (Both u) (Branch false m true t) h = refl
close_put place b (Both u) (Branch false m false t) h = refl
close_put place b r (Call f) h = refl
close_put place b r (Return true) h = refl
close_put place b r (Return false) h = refl
close_put place b r (Exit true) h = refl
close_put place b r (Exit false) h = refl

close_fits_put : (place : ℕ → ℕ) (b : ℕ) (r : Relays) (c : Close) → CloseFits c → CloseFits (put_close place b r c)
close_fits_put place b r (Jump t) h = tt
close_fits_put place b r (Branch checked m when t) h = h
close_fits_put place b r (Call f) h = tt
close_fits_put place b r (Return checked) h = tt
close_fits_put place b r (Exit checked) h = tt

close_checks_put : (place : ℕ → ℕ) (b : ℕ) (r : Relays) (c : Close) → CloseHasChecks c → CloseHasChecks (put_close place b r c)
close_checks_put place b r (Jump t) h = tt
close_checks_put place b r (Branch checked m when t) h = h
close_checks_put place b r (Call f) h = tt
close_checks_put place b r (Return checked) h = h
close_checks_put place b r (Exit checked) h = h

-- A block in its place is of the same forms, and its close is of the same sort.
pub formed_put : (place : ℕ → ℕ) (b : ℕ) (r : Relays) (items : List Item) (g : Formed items) → MayClose r g.close → Formed (map (put_item place b r) items)
formed_put place b r items g h = record {
  forms = g.forms;
  close = put_close place b r g.close;
  is = ap (map (put_item place b r)) g.is ∙ (map_append (put_item place b r) (flat_map form_items g.forms) (close_items g.close)
      ∙ (ap (λ (z : List Item). z ++ map (put_item place b r) (close_items g.close)) (forms_put place b r g.forms g.fit) ∙ ap (λ (z : List Item). flat_map form_items g.forms ++ z) (close_put place b r g.close h)));
  fit = g.fit;
  close_fits = close_fits_put place b r g.close g.close_fits;
}

-- It stands with its checks where it did.
pub checked_put : (place : ℕ → ℕ) (b : ℕ) (r : Relays) (items : List Item) (k : Checked items) → MayClose r k.formed.close → Checked (map (put_item place b r) items)
unfolding formed_put
checked_put place b r items k h = record { formed = formed_put place b r items k.formed h; each = k.each; close = close_checks_put place b r k.formed.close k.close }

pub relay_checked : (place : ℕ → ℕ) (c : ℕ) → Checked (relay place c)
relay_checked place c = record { formed = record { forms = []; close = Jump (place c); is = refl; fit = tt; close_fits = tt }; each = tt; close = tt }

-- ---- order

turned_same : (r : Relays) (x : Instr) (last quiet : ℕ) → (is_break (turned r x) ≡ is_break x) × ((may_stand last quiet (turned r x) ≡ may_stand last quiet x) × ((loaded (turned r x) ≡ loaded x) × (quiet_after (turned r x) quiet ≡ quiet_after x quiet)))
turned_same Nothing x last quiet = (refl, (refl, (refl, refl)))
turned_same Next x last quiet = (refl, (refl, (refl, refl)))
turned_same (Both t) x last quiet = (refl, (refl, (refl, refl)))
turned_same (Turned t) (Beq rs rt imm) last quiet = (refl, (refl, (refl, refl)))
turned_same (Turned t) (Bne rs rt imm) last quiet = (refl, (refl, (refl, refl)))
turned_same (Turned t) x last quiet = (refl, (refl, (refl, refl)))

put_same : (place : ℕ → ℕ) (b : ℕ) (r : Relays) (i : Item) (last quiet : ℕ) (f : Fix) → (is_break (put_as place b r i f).instr ≡ is_break i.instr) × ((may_stand last quiet (put_as place b r i f).instr ≡ may_stand last quiet i.instr) × ((loaded (put_as place b r i f).instr ≡ loaded i.instr) × (quiet_after (put_as place b r i f).instr quiet ≡ quiet_after i.instr quiet)))
put_same place b r i last quiet Plain = (refl, (refl, (refl, refl)))
put_same place b r i last quiet (Block t) = turned_same r i.instr last quiet
put_same place b r i last quiet (Function f) = (refl, (refl, (refl, refl)))
put_same place b r i last quiet ReturnHigh = (refl, (refl, (refl, refl)))
put_same place b r i last quiet ReturnLow = (refl, (refl, (refl, refl)))

-- The order of loads and products stays.
pub calm_put : (place : ℕ → ℕ) (b : ℕ) (r : Relays) (last quiet : ℕ) (items : List Item) → calm_from last quiet (map (put_item place b r) items) ≡ calm_from last quiet items
calm_put place b r last quiet [] = refl
calm_put place b r last quiet (i ∷ more) =
    let s : (is_break (put_item place b r i).instr ≡ is_break i.instr) × ((may_stand last quiet (put_item place b r i).instr ≡ may_stand last quiet i.instr) × ((loaded (put_item place b r i).instr ≡ loaded i.instr) × (quiet_after (put_item place b r i).instr quiet ≡ quiet_after i.instr quiet))) = put_same place b r i last quiet i.fix in
    both (is_break (put_item place b r i).instr) (is_break i.instr) (may_stand last quiet (put_item place b r i).instr) (may_stand last quiet i.instr)
    (calm_from last quiet (map (put_item place b r) more)) (calm_from last quiet more)
    (calm_from (loaded (put_item place b r i).instr) (quiet_after (put_item place b r i).instr quiet) (map (put_item place b r) more)) (calm_from (loaded i.instr) (quiet_after i.instr quiet) more)
    s.0 s.1.0 (calm_put place b r last quiet more)
    (calm_put place b r (loaded (put_item place b r i).instr) (quiet_after (put_item place b r i).instr quiet) more ∙ (ap (λ (z : ℕ). calm_from z (quiet_after (put_item place b r i).instr quiet) more) s.1.1.0 ∙ ap (λ (z : ℕ). calm_from (loaded i.instr) z more) s.1.1.1))
  where
    both : (x x' y y' u u' v v' : Bool) → x ≡ x' → y ≡ y' → u ≡ u' → v ≡ v' → cond x u (y && v) ≡ cond x' u' (y' && v')
    both x x' y y' u u' v v' e f g h = cc

pub relay_calm : (place : ℕ → ℕ) (c : ℕ) → calm_from 0 0 (relay place c) ≡ true
relay_calm place c = refl

-- ---- how many blocks

length_append : (xs ys : List (List Item)) → length (xs ++ ys) ≡ length xs + length ys
length_append [] ys = none (length ys)
  where
    none : (n : ℕ) → n ≡ 0 + n
    none n = omega arith
length_append (x ∷ xs) ys = ap suc (length_append xs ys) ∙ one (length xs) (length ys)
  where
    one : (a n : ℕ) → suc (a + n) ≡ suc a + n
    one a n = omega arith

relays_length : (place : ℕ → ℕ) (cs : List ℕ) → length (map (relay place) cs) ≡ length cs
relays_length place [] = refl
relays_length place (c ∷ cs) = ap suc (relays_length place cs)

put_length : (relays : ℕ → Relays) (place : ℕ → ℕ) (b : ℕ) (ks : List HardBlock) → place_of relays b + length (put_blocks relays place b ks) ≡ place_of relays (b + length ks)
put_length relays place b [] = none (place_of relays b) ∙ ap (place_of relays) (sym (none b))
  where
    none : (a : ℕ) → a + 0 ≡ a
    none a = omega arith
put_length relays place b (k ∷ ks) =
    ap (λ (z : ℕ). place_of relays b + suc z) (length_append (map (relay place) (goals b (relays b))) (put_blocks relays place (b + 1) ks) ∙ ap (λ (z : ℕ). z + length (put_blocks relays place (b + 1) ks)) (relays_length place (goals b (relays b))))
    ∙ (sum (place_of relays b) (length (goals b (relays b))) (length (put_blocks relays place (b + 1) ks))
    ∙ (ap (λ (z : ℕ). place_of relays z + length (put_blocks relays place (b + 1) ks)) (one b) ∙ (put_length relays place (b + 1) ks ∙ ap (place_of relays) (move b (length ks)))))
  where
    sum : (a n m : ℕ) → a + suc (n + m) ≡ a + suc n + m
    sum a n m = omega arith

    one : (b : ℕ) → suc b ≡ b + 1
    one b = omega arith

    move : (b m : ℕ) → b + 1 + m ≡ b + suc m
    move b m = omega arith

map_length : (ks : List HardBlock) → length (map (λ k. k.items) ks) ≡ length ks
map_length [] = refl
map_length (k ∷ ks) = ap suc (map_length ks)

-- The program has as many blocks as the place behind its last block says.
pub blocks_put : (relays : ℕ → Relays) (p q : HardProgram) → HasRelays relays p q → length q.blocks ≡ place_of relays (length p.blocks)
blocks_put relays p q h = sym (map_length q.blocks) ∙ (ap length h.blocks ∙ (zero_left (length (put_blocks relays (place_of relays) 0 p.blocks)) ∙ (put_length relays (place_of relays) 0 p.blocks ∙ ap (place_of relays) (sym (zero_left (length p.blocks))))))
  where
    zero_left : (n : ℕ) → n ≡ 0 + n
    zero_left n = omega arith

-- ---- every block

-- What is true of each block in its place and of each block put is true of each block.
each_block : (P : List Item → Type 0) (relays : ℕ → Relays) (place : ℕ → ℕ) (b : ℕ) (ks : List HardBlock) → ((m : ℕ) → m < length ks → P (map (put_item place (b + m) (relays (b + m))) (block_items (slice_get ks m)))) → ((c : ℕ) → P (relay place c)) → Each P (put_blocks relays place b ks)
each_block P relays place b [] f g = tt
each_block P relays place b (k ∷ ks) f g = (
  subst (λ (c : ℕ). P (map (put_item place c (relays c)) k.items)) (none b) (f 0 (least (length ks))),
  all_append (map (relay place) (goals b (relays b))) (put_blocks relays place (b + 1) ks) (all_relays (goals b (relays b)))
      (each_block P relays place (b + 1) ks (λ m h. subst (λ (c : ℕ). P (map (put_item place c (relays c)) (block_items (slice_get ks m)))) (move b m) (f (suc m) (up m (length ks) h))) g),
)
  where
    none : (b : ℕ) → b + 0 ≡ b
    none b = omega arith

    least : (n : ℕ) → 0 < suc n
    least n = omega arith

    up : (m n : ℕ) → m < n → suc m < suc n
    up m n h = omega arith

    move : (b m : ℕ) → b + suc m ≡ b + 1 + m
    move b m = omega arith

    all_append : (xs ys : List (List Item)) → Each P xs → Each P ys → Each P (xs ++ ys)
    all_append [] ys h k = k
    all_append (x ∷ xs) ys h k = (h.0, all_append xs ys h.1 k)

    all_relays : (cs : List ℕ) → Each P (map (relay place) cs)
    all_relays [] = tt
    all_relays (c ∷ cs) = (g c, all_relays cs)

all_at : (P : List Item → Type 0) (ks : List HardBlock) (n : ℕ) → Each P (map (λ k. k.items) ks) → n < length ks → P (block_items (slice_get ks n))
all_at P [] n h l = absurd (no n l)
  where
    no : (n : ℕ) → n < 0 → ⊥
    no n h = omega arith
all_at P (k ∷ ks) zero h l = h.0
all_at P (k ∷ ks) (suc n) h l = all_at P ks n h.1 (less n (length ks) l)
  where
    less : (a b : ℕ) → suc a < suc b → a < b
    less a b h = omega arith

pub each_put : (P : List Item → Type 0) (relays : ℕ → Relays) (p q : HardProgram) → HasRelays relays p q → ((b : ℕ) → b < length p.blocks → P (map (put_item (place_of relays) b (relays b)) (items_of p b))) → ((c : ℕ) → P (relay (place_of relays) c)) → (n : ℕ) → n < length q.blocks → P (items_of q n)
each_put P relays p q h f g n l = all_at P q.blocks n (subst (λ (z : List (List Item)). Each P z) (sym h.blocks) (each_block P relays (place_of relays) 0 p.blocks (λ m k. subst (λ (c : ℕ). P (map (put_item (place_of relays) c (relays c)) (items_of p m))) (zero_left m) (f m k)) g)) l
  where
    zero_left : (m : ℕ) → m ≡ 0 + m
    zero_left m = omega arith

-- Each use keeps its checks.
pub guarded_put : (relays : ℕ → Relays) (p q : HardProgram) → HasRelays relays p q → (g : Guarded p) → ((b : ℕ) (h : b < length p.blocks) → MayClose (relays b) ((g b h).formed.close)) → Guarded q
guarded_put relays p q h g m n l = each_put Checked relays p q h (λ b k. checked_put (place_of relays) b (relays b) (items_of p b) (g b k) (m b k)) (relay_checked (place_of relays)) n l

-- No hazard comes.
pub calm_kept : (relays : ℕ → Relays) (p q : HardProgram) → HasRelays relays p q → Calm p → Calm q
calm_kept relays p q h c n = by (slice_get q.blocks n) refl
  where
    calm : n < length q.blocks → calm_from 0 0 (items_of q n) ≡ true
    calm l = each_put (λ (xs : List Item). calm_from 0 0 xs ≡ true) relays p q h (λ b k. calm_put (place_of relays) b (relays b) 0 0 (items_of p b) ∙ c b) (relay_calm (place_of relays)) n l

    least : (n : ℕ) → 0 < suc n
    least n = omega arith

    up : (m n : ℕ) → m < n → suc m < suc n
    up m n h = omega arith

    no : {k : HardBlock} → None ≡ Some k → ⊥
    no e = cc

    there : (ks : List HardBlock) (m : ℕ) (k : HardBlock) → slice_get ks m ≡ Some k → m < length ks
    there [] m k e = absurd (no e)
    there (x ∷ ks) zero k e = least (length ks)
    there (x ∷ ks) (suc m) k e = up m (length ks) (there ks m k e)

    by : (o : Option HardBlock) → slice_get q.blocks n ≡ o → calm_from 0 0 (items_of q n) ≡ true
    by None e = ap (λ (z : Option HardBlock). calm_from 0 0 (block_items z)) e
    by (Some k) e = calm (there q.blocks n k e)

-- ---- halves of return addresses

-- The halves of return addresses stand in pairs where they did.
pub halves_put : (place : ℕ → ℕ) (b : ℕ) (r : Relays) (items : List Item) (o : Bool) → HalvesPair items o → HalvesPair (map (put_item place b r) items) o
halves_put place b r [] o h = h
halves_put place b r (i ∷ more) o h = by (λ z k. halves_put place b r more z k) i.fix refl h
  where
    by : ((z : Bool) → HalvesPair more z → HalvesPair (map (put_item place b r) more) z) → (f : Fix) → i.fix ≡ f → HalvesAt (HalvesPair more) f o i.instr → HalvesAt (HalvesPair (map (put_item place b r) more)) (put_as place b r i f).fix o (put_as place b r i f).instr
    by g Plain u k = subst (λ (z : Fix). HalvesAt (HalvesPair (map (put_item place b r) more)) z o i.instr) (sym u) (k.0, g o k.1)
    by g (Block t) u k = (k.0, g o k.1)
    by g (Function f) u k = subst (λ (z : Fix). HalvesAt (HalvesPair (map (put_item place b r) more)) z o i.instr) (sym u) (k.0, g o k.1)
    by g ReturnHigh u k = subst (λ (z : Fix). HalvesAt (HalvesPair (map (put_item place b r) more)) z o i.instr) (sym u) (k.0, g true k.1)
    by g ReturnLow u k = subst (λ (z : Fix). HalvesAt (HalvesPair (map (put_item place b r) more)) z o i.instr) (sym u) (k.0, g false k.1)

pub relay_halves : (place : ℕ → ℕ) (c : ℕ) → HalvesPair (relay place c) false
relay_halves place c = (refl, ((λ e. absurd (no e)), refl))
  where
    no : false ≡ true → ⊥
    no e = cc

pub halves_kept : (relays : ℕ → Relays) (p q : HardProgram) → HasRelays relays p q → ((b : ℕ) → HalvesPair (items_of p b) false) → (n : ℕ) → n < length q.blocks → HalvesPair (items_of q n) false
halves_kept relays p q h c n l = each_put (λ (xs : List Item). HalvesPair xs false) relays p q h (λ b k. halves_put (place_of relays) b (relays b) (items_of p b) false (c b)) (relay_halves (place_of relays)) n l

-- Each block of the result is of forms.
pub formed_kept : (relays : ℕ → Relays) (p q : HardProgram) → HasRelays relays p q → (g : (b : ℕ) → b < length p.blocks → Formed (items_of p b)) → ((b : ℕ) (h : b < length p.blocks) → MayClose (relays b) ((g b h).close)) → (n : ℕ) → n < length q.blocks → Formed (items_of q n)
formed_kept relays p q h g m n l = each_put Formed relays p q h (λ b k. formed_put (place_of relays) b (relays b) (items_of p b) (g b k) (m b k)) (λ c. (relay_checked (place_of relays) c).formed) n l
