-- The far form runs the same, and keeps that the streams are apart.
use Rattle.std.proofs.Common.{◌≡◌, ◌<◌, ℕ, zero, suc, arith, ap, refl, sym, ◌∙◌, subst, List, [], ◌∷◌, length, map, Bool, true, false, cond, inl, inr}
use Rattle.std.specs.Prelude.{Option, ◌⊎◌, All, Contains, flat_map}
use Rattle.std.proofs.lemmas.List.Elements.{All-contains}
use Rattle.hard_runs.specs.Observed.{SameObserved}
use Rattle.hard_runs.specs.Stepping.{Always}
use Rattle.hard_words.specs.Words.{AreWords}
use Rattle.mips_isa.specs.declared.instr.Instr.{Instr}
use Rattle.mips_isa.specs.declared.instr.Instr.TheVariants.{Jal}
use Rattle.mips_isa.specs.declared.instr.End.TheVariants.{Reported}
use Rattle.mips_isa.specs.Table.{IsInRange}
use Rattle.hard_items.specs.declared.code.Fix.{Fix}
use Rattle.hard_items.specs.declared.code.Fix.TheVariants.{Plain, Block, Function, ReturnHigh, ReturnLow}
use Rattle.hard_items.specs.declared.code.Item.{Item}
use Rattle.hard_items.specs.declared.code.HardBlock.{HardBlock}
use Rattle.hard_items.specs.declared.code.HardProgram.{HardProgram}
use Rattle.hard_items.specs.Run.{items, items_of, block_items, makes_number, is_call, is_low, first_spot, item_run}
use Rattle.hard_items.specs.Ways.{Holds, CallsFunction}
use Rattle.hard_items.specs.WellFormed.{WellFormed, FieldFits, NamesThere}
use Rattle.hard_items.specs.Forms.{Each, Close, Jump, close_items, form_items, Formed, HalvesPair}
use Rattle.hard_items.specs.Rules.{LawfulAt, Apart}
use Rattle.layout_law.specs.Level.{Lines}
use Rattle.layout_law.proofs.Lines.{CloseThere, block_lines}
use Rattle.layout_law.proofs.Laying.{each_of_all, each_right, fits_close, entries_named}
use Rattle.block_relays.specs.Renumber.{Orderly}
use Rattle.block_relays.specs.Relays.{Relays, Turned, place_of, put_as, put_item, HasRelays}
use Rattle.block_relays.proofs.Keeps.{guarded_put, calm_kept, halves_kept, formed_kept}
use Rattle.block_relays.proofs.Relays.{items_placed, calls_put, holds_there}
use Rattle.block_relays.proofs.Roles.{BranchesTo, relays_run}
use Rattle.far_branches.specs.Widen.{far_relays, widened}
use Rattle.layout_moves_law.specs.WidenLawLaw.{WidenedKeepsRuns}
use Rattle.layout_moves_law.proofs.Closes.{calls_close}
use Rattle.layout_moves_law.proofs.Places.{Puts, may_relay_close, may_close, Put, Located, at_place, at_relay, located}
use Rattle.layout_moves_law.proofs.WellFormed.{in_blocks, well_formed}
use Rattle.layout_moves_law.proofs.Far.{far_puts, far_put}
use Rattle.layout_moves_law.proofs.WidenLawLists.{far_lists}

no_true : true ≡ false → ⊥
no_true e = cc

-- ---- no return number is made where a branch turns

is_jal : (x : Instr) → is_call x ≡ true → (target : ℕ) × (x ≡ Jal target)
is_jal (Jal target) h = (target, refl)
is_jal x h = absurd (no_true (sym h))

names_call : (f : Fix) (x : Instr) (target : ℕ) → x ≡ Jal target → FieldFits f x → (g : ℕ) × (f ≡ Function g)
names_call f x target e h = by f (subst (FieldFits f) e h)
  where
    by : (f : Fix) → FieldFits f (Jal target) → (g : ℕ) × (f ≡ Function g)
    by Plain h = absurd h
    by (Block t) h = absurd h
    by (Function g) h = (g, refl)
    by ReturnHigh h = absurd h
    by ReturnLow h = absurd h

is_half : (f : Fix) → is_low f ≡ true → f ≡ ReturnLow
is_half Plain h = absurd (no_true (sym h))
is_half (Block t) h = absurd (no_true (sym h))
is_half (Function f) h = absurd (no_true (sym h))
is_half ReturnHigh h = absurd (no_true (sym h))
is_half ReturnLow h = refl

-- An item that makes a return number stands in a block that calls a function.
makes_in_call : (p : HardProgram) (a : Apart p) (b : ℕ) (i : Item) → Holds p b i → makes_number i ≡ true → (f : ℕ) × CallsFunction p b f
makes_in_call p a b i h m = by (is_call i.instr) refl m
  where
    by : (z : Bool) → is_call i.instr ≡ z → cond z true (is_low i.fix) ≡ true → (f : ℕ) × CallsFunction p b f
    by true e k =
        let j : (target : ℕ) × (i.instr ≡ Jal target) = is_jal i.instr e in
        let f : (g : ℕ) × (i.fix ≡ Function g) = names_call i.fix i.instr j.0 j.1 (All-contains (λ (x : Item). FieldFits x.fix x.instr) (items_of p b) i (a.well_formed.fields_fit b) h) in
        (f.0, record { item = i; target = j.0; holds = h; jumps = j.1; names = f.1 })
    by false e k = a.halves_call b i h (inr (is_half i.fix k))

pub no_number : (relays : ℕ → Relays) (p : HardProgram) (a : Apart p) → ((b : ℕ) (l : b < length p.blocks) → Puts (relays b) ((a.formed b l).close)) → (b t : ℕ) (i : Item) → Holds p b i → relays b ≡ Turned t → makes_number i ≡ false
no_number relays p a puts b t i h e = by (makes_number i) refl
  where
    l : b < length p.blocks
    l = holds_there p b i h

    by : (z : Bool) → makes_number i ≡ z → makes_number i ≡ false
    by true k =
        let c : (f : ℕ) × CallsFunction p b f = makes_in_call p a b i h k in
        absurd (subst (λ (z : Close). BranchesTo z t) (calls_close p b c.0 (a.formed b l) c.1) (subst (λ (z : Relays). Puts z ((a.formed b l).close)) e (puts b l)))
    by false k = k

-- ---- the program is orderly

pub orderly : (p : HardProgram) → WellFormed p → ((b : ℕ) → b < length p.blocks → Formed (items_of p b)) → Orderly p
orderly p w f = record {
  lines = λ b l. lines (items_of p b) (f b l) (w.named_there b);
  in_range = λ b. each_of_all (λ (i : Item). IsInRange i.instr) (items_of p b) (w.in_range b);
}
  where
    lines : (xs : List Item) (g : Formed xs) → All (λ i. NamesThere p i.fix) xs → Lines p false xs
    lines xs g n =
        let there : CloseThere p g.close = fits_close p g.close (each_right (λ (i : Item). NamesThere p i.fix) (flat_map form_items g.forms) (close_items g.close) (subst (λ (z : List Item). Each (λ (i : Item). NamesThere p i.fix) z) g.is (each_of_all (λ (i : Item). NamesThere p i.fix) xs n))) (entries_named p w) in
        subst (λ (z : List Item). Lines p false z) (sym g.is) (block_lines p g.forms g.close g.fit there)

-- ---- halves of return addresses

holds_from : (g : Item → Item) (xs : List Item) (i : Item) → Contains (map g xs) i → (j : Item) × (Contains xs j × (i ≡ g j))
holds_from g [] i c = absurd (no c.0 c.1)
  where
    no : (n : ℕ) → n < 0 → ⊥
    no n h = omega arith
holds_from g (x ∷ xs) i (zero, l, e) = (x, ((0, up (length xs), refl), sym e))
  where
    up : (n : ℕ) → 0 < suc n
    up n = omega arith
holds_from g (x ∷ xs) i (suc k, l, e) =
    let c : (j : Item) × (Contains xs j × (i ≡ g j)) = holds_from g xs i (k, less k (length (map g xs)) l, e) in
    (c.0, ((suc c.1.0.0, up c.1.0.0 (length xs) c.1.0.1, c.1.0.2), c.1.1))
  where
    less : (a b : ℕ) → suc a < suc b → a < b
    less a b h = omega arith

    up : (a b : ℕ) → a < b → suc a < suc b
    up a b h = omega arith

abbrev IsHalf : Fix → Type 0
IsHalf f = (f ≡ ReturnHigh) ⊎ (f ≡ ReturnLow)

plain_no_half : IsHalf Plain → ⊥
plain_no_half (inl e) = cc
plain_no_half (inr e) = cc

block_no_half : (t : ℕ) → IsHalf (Block t) → ⊥
block_no_half t (inl e) = cc
block_no_half t (inr e) = cc

put_half : (place : ℕ → ℕ) (b : ℕ) (r : Relays) (j : Item) (f : Fix) → j.fix ≡ f → IsHalf (put_as place b r j f).fix → IsHalf j.fix
put_half place b r j Plain e h = h
put_half place b r j (Block t) e h = absurd (block_no_half _ h)
put_half place b r j (Function g) e h = h
put_half place b r j ReturnHigh e h = h
put_half place b r j ReturnLow e h = h

relay_no_half : (t : ℕ) (i : Item) → Contains (close_items (Jump t)) i → IsHalf i.fix → ⊥
relay_no_half t i (zero, l, e) h = block_no_half t (subst (λ (z : Item). IsHalf z.fix) (sym e) h)
relay_no_half t i (suc zero, l, e) h = plain_no_half (subst (λ (z : Item). IsHalf z.fix) (sym e) h)
relay_no_half t i (suc (suc k), l, e) h = no k l
  where
    no : (k : ℕ) → suc (suc k) < 2 → ⊥
    no k h = omega arith

pub halves_call : (relays : ℕ → Relays) (p q : HardProgram) (a : Apart p) → HasRelays relays p q → (n : ℕ) (i : Item) → Holds q n i → IsHalf i.fix → (f : ℕ) × CallsFunction q n f
halves_call relays p q a r n i h e = by (located relays p q r n (holds_there q n i h))
  where
    by : Located relays p q n → (f : ℕ) × CallsFunction q n f
    by (at_relay b m c l s x y) = absurd (relay_no_half (place_of relays c) i (subst (λ (z : List Item). Contains z i) y h) e)
    by (at_place b l x) =
        let j : (j : Item) × (Contains (items_of p b) j × (i ≡ put_item (place_of relays) b (relays b) j)) =
        holds_from (put_item (place_of relays) b (relays b)) (items_of p b) i (subst (λ (z : List Item). Contains z i) (ap (items_of q) x ∙ items_placed relays p q r b l) h) in
        let half : IsHalf (put_item (place_of relays) b (relays b) j.0).fix = subst (λ (z : Item). IsHalf z.fix) j.1.1 e in
        let f : (f : ℕ) × CallsFunction p b f = a.halves_call b j.0 j.1.0 (put_half (place_of relays) b (relays b) j.0 j.0.fix refl half) in
        (f.0, subst (λ (z : ℕ). CallsFunction q z f.0) (sym x) (calls_put relays p q r b f.0 f.1))

pub halves_pair : (relays : ℕ → Relays) (p q : HardProgram) → HasRelays relays p q → ((b : ℕ) → HalvesPair (items_of p b) false) → (n : ℕ) → HalvesPair (items_of q n) false
halves_pair relays p q r h n = elim (in_blocks q.blocks n) as (λ z. HalvesPair (items_of q n) false) [
  | inl l ↦ halves_kept relays p q r h n l
  | inr e ↦ subst (λ (o : Option HardBlock). HalvesPair (block_items o) false) (sym e) refl
]

-- ---- the far form

pub keeps_runs : WidenedKeepsRuns
keeps_runs p a few = record {
  same_runs = λ input w. (runs input w).0;
  apart = record {
    well_formed = well_formed (far_relays p) p (widened p) put (far_lists p a.well_formed a.formed few);
    formed = λ n l. formed_kept (far_relays p) p (widened p) put.has a.formed (λ b h. may_close (far_relays p b) ((a.formed b h).close) (put.puts b h)) n l;
    halves = halves_pair (far_relays p) p (widened p) put.has a.halves;
    halves_call = halves_call (far_relays p) p (widened p) a put.has;
    lawful = λ input w. (runs input w).1;
  };
  never_reports = λ h input w n code at e. h input w n code at ((runs input w).0.ends n (Reported code at) e).0;
  guarded = λ g. guarded_put (far_relays p) p (widened p) put.has g (λ b l. may_close (far_relays p b) ((g b l).formed.close) (far_puts p b ((g b l).formed)));
  calm = calm_kept (far_relays p) p (widened p) put.has;
}
  where
    put : Put (far_relays p) p (widened p)
    put = far_put p a.well_formed a.formed

    runs : (input : List ℕ) → AreWords input → SameObserved (item_run (widened p) input) (item_run p input) × Always (items (widened p)) (first_spot (widened p) input) (LawfulAt (widened p))
    runs input w = relays_run (far_relays p) p (widened p) input put.has a.formed (λ b l. may_relay_close (far_relays p b) ((a.formed b l).close) (put.puts b l)) (no_number (far_relays p) p a put.puts) (orderly p a.well_formed a.formed) (a.lawful input w)
