-- A word put in any place that is no window is unseen or told.
use Rattle.std.proofs.Common.{◌≡◌, ℕ, ◌+◌, ◌-◌, ◌*◌, ◌/◌, ◌%◌, ◌^◌, ◌≤◌, ◌<◌, arith, rules, refl, sym, ◌∙◌, subst, List, length, replicate, false, inl, inr}
use Rattle.std.specs.Prelude.{Option, Some, None, ◌⊎◌, bit_xor}
use Rattle.hard_words.specs.declared.SetPlace.{SetPlace}
use Rattle.hard_words.specs.declared.SetPlace.TheVariants.{Reg, Hi, Lo, Memory}
use Rattle.mips_isa.specs.declared.instr.Instr.{Instr}
use Rattle.mips_isa.specs.declared.instr.Instr.TheVariants.{Addu}
use Rattle.mips_isa.specs.declared.instr.End.TheVariants.{Reported}
use Rattle.mips_isa.specs.Machine.{State, reg, plus, place, text_place}
use Rattle.mips_isa.specs.Runs.{Ran, run}
use Rattle.mips_isa.specs.Image.{ImageFields, boot_state}
use Rattle.mips_text.specs.Text.{IsText, InText, At, Near, checked, service, result}
use Rattle.mips_text.specs.Blocks.{begins}
use Rattle.mips_faults.specs.Faults.{Unseen, Told, IsPlaced, PlacedFor, UnreportedFor, IsSet, IsDetected, image_run}
use Rattle.harden_lint.specs.declared.Stream.{Stream}
use Rattle.harden_lint.specs.declared.Stream.TheVariants.{Master, Shadow, Nobody}
use Rattle.harden_lint.specs.declared.TypingRow.{TypingRow}
use Rattle.mips_text.specs.Typing.{Role, master, shadow, signs, role_of, Of, ProductsOf, IsProductOf}
use Rattle.harden_lint.specs.Rules.{WellTyped}
use Rattle.harden_lint.specs.Rows.{Typed, AreRows, IsRow, row_at, Produces}
use Rattle.harden_lint.specs.Theorems.{IsFree, ShowsWithin, Shows, ShowsFlipWithin, ShowsFlip}
use Rattle.mips_laws.proofs.Runs.{flip_is_set}
use Rattle.lint_lockstep.proofs.Fetch.{same_instr}
use Rattle.lint_lockstep.specs.Law.{Guide, FreeAt}
use Rattle.lint_lockstep.proofs.Stages.{two_runs}
use Rattle.harden_lint.proofs.Places.{plus_four}
use Rattle.harden_lint.proofs.Words.{start_text, slot_no_start}
use Rattle.harden_lint.proofs.Services.{Due, serving, first, second, five_no_start}
use Rattle.harden_lint.proofs.Keeps.{Keeps, zero_kept, other, guard, due, Halves, one_role, zero_free, two_free}
use Rattle.harden_lint.proofs.Streams.{Held}
use Rattle.harden_lint.proofs.Rows.{sort_of}
use Rattle.harden_lint.proofs.Clean.{Good, plain_way, ready, next_of}

-- the stream of a register, or none
role_case_by : (r : ℕ) (o : Option Role) → role_of r ≡ o → ((X : Role) × Of X r) ⊎ (role_of r ≡ None)
role_case_by r None e = inr e
role_case_by r (Some X) e = inl (X, e)

role_case : (r : ℕ) → ((X : Role) × Of X r) ⊎ (role_of r ≡ None)
role_case r = role_case_by r (role_of r) refl

none_role : (X : Role) → None ≡ Some X → ⊥
none_role X h = search (rules, h)

not_zero : (r : ℕ) → 1 ≤ r → r ≡ 0 → ⊥
not_zero r h e = omega arith

four_four : (c a : ℕ) → a ≡ c + 8 → a ≡ c + 4 + 4
four_four c a h = omega arith

not_streams : master ≡ shadow → ⊥
not_streams h = search (rules, h)

even_or : (p : ℕ) → (p % 2 ≡ 0) ⊎ (p % 2 ≡ 1)
even_or p = grind arith

not_both : (p : ℕ) → p % 2 ≡ 0 → p % 2 ≡ 1 → ⊥
not_both p h k = omega arith

-- HI and LO come from one stream
one_product : (text : List ℕ) (entry a : ℕ) → ProductsOf text entry master a → ProductsOf text entry shadow a → ⊥
one_product text entry a p q =
    let x : (i : Instr) × (At text p.before i × IsProductOf master i) = p.each p.before p.leads in
    let y : (i : Instr) × (At text p.before i × IsProductOf shadow i) = q.each p.before p.leads in
    let z : IsProductOf shadow x.0 = subst (IsProductOf shadow) (same_instr text p.before y.0 x.0 y.1.0 x.1.0) y.1.1 in
    not_streams (z.no_other x.1.1.some master x.1.1.reads_some x.1.1.of_stream)

in_text_or : (text : List ℕ) (a : ℕ) → InText text a ⊎ (InText text a → ⊥)
in_text_or text a = elim (tests (a % 4) 0x00400000 a (text_place a) (length text)) as (λ z. InText text a ⊎ (InText text a → ⊥)) [
  | inl h ↦ inl (record { aligned = h.0; from = h.1; upto = h.2 })
  | inr n ↦ inr (λ t. n (t.aligned, t.from, t.upto))
]
  where
    tests : (x b a p n : ℕ) → ((x ≡ 0) × (b ≤ a) × (p < n)) ⊎ ((x ≡ 0) × (b ≤ a) × (p < n) → ⊥)
    tests x b a p n = grind arith

place_back : (a : ℕ) → a % 4 ≡ 0 → 0x00400000 ≤ a → 0x00400000 + 4 * ((a - 0x00400000) / 4) ≡ a
place_back a h k = omega arith

-- a place is not register 0
abbrev IsNot0 : SetPlace → Type 0
IsNot0 (Reg r) = 1 ≤ r
IsNot0 _ = Unit {0}

set_not_zero : (p : SetPlace) (w : ℕ) → IsSet p w → IsNot0 p
set_not_zero (Reg r) w h = h.0
set_not_zero Hi w h = tt
set_not_zero Lo w h = tt
set_not_zero (Memory a) w h = tt

module _ (text : List ℕ) (entry : ℕ) (fits : IsText text) (rules_hold : WellTyped text entry) where
  abbrev Keep : Role → ℕ → ℕ → Type 0
  Keep W a q = Keeps text entry W a q

  abbrev Hal : Role → ℕ → Type 0
  Hal W a = Halves text entry W a

  -- a register that is no window is not kept where a stream is wrong that is its own
  own_free : (a r : ℕ) (X : Role) → Of X r → (Near text a r → ⊥) → Keep X a r → ⊥
  own_free a r X o f (zero_kept z) = zero_free X (subst (Of X) z o)
  own_free a r X o f (other Y p d) = d (one_role Y X r p o)
  own_free a r X o f (guard g) = f (checked g.c g.x g.y g.window)
  own_free a r X o f (due z d) = two_free X (subst (Of X) z o)

  due_near : (a r : ℕ) → r ≡ 2 → Due text shadow a → Near text a r
  due_near a r z (serving h) = service h z
  due_near a r z (first c o e) = result (c + 4) (four_four c a e) o.serves (record { instr = Addu o.m 2 0; at = subst (λ (p : ℕ). At text p (Addu o.m 2 0)) (sym e) o.first; reads = refl }) z
  due_near a r z (second c o e n) = absurd (n refl)

  other_free : (a r : ℕ) → role_of r ≡ None → 1 ≤ r → (Near text a r → ⊥) → Keep shadow a r → ⊥
  other_free a r o h f (zero_kept z) = not_zero r h z
  other_free a r o h f (other Y p d) = none_role Y (sym o ∙ p)
  other_free a r o h f (guard g) = f (checked g.c g.x g.y g.window)
  other_free a r o h f (due z d) = f (due_near a r z d)

  abbrev Free : Role → State → SetPlace → Type 0
  Free W s p = FreeAt (Keep W) (Hal W) (Held W) s p

  -- the stream that HI and LO come from
  inside_by : (a : ℕ) (X : Role) → ProductsOf text entry X a → InText text a
  inside_by a X p = (rules_hold p.before).inside a p.leads

  inside : (a : ℕ) (W : Role) → Hal W a → InText text a
  inside a W (inl h) = inside_by a master h.0
  inside a W (inr h) = inside_by a shadow h.0

  halves_master : (a : ℕ) → ProductsOf text entry master a → Hal master a → ⊥
  halves_master a p (inl h) = h.1 refl
  halves_master a p (inr h) = one_product text entry a p h.0

  halves_shadow : (a : ℕ) → ProductsOf text entry shadow a → Hal shadow a → ⊥
  halves_shadow a p (inl h) = one_product text entry a h.0 p
  halves_shadow a p (inr h) = h.1 refl

  halves_none : (a : ℕ) → Produces text entry a Nobody → Hal signs a → ⊥
  halves_none a p (inl h) = p.0 h.0
  halves_none a p (inr h) = p.1 h.0

  halves_by : (a : ℕ) (o : Stream) → Produces text entry a o → (W : Role) × (Hal W a → ⊥)
  halves_by a Master p = (master, halves_master a p)
  halves_by a Shadow p = (shadow, halves_shadow a p)
  halves_by a Nobody p = (signs, halves_none a p)

  halves_free : (rows : List TypingRow) → AreRows text entry rows → (a : ℕ) → InText text a ⊎ (InText text a → ⊥) → (W : Role) × (Hal W a → ⊥)
  halves_free rows l a (inl t) =
      let r : IsRow text entry (0x00400000 + 4 * text_place a) (row_at rows (text_place a)) = l.each (text_place a) t.upto in
      halves_by a (row_at rows (text_place a)).products (subst (λ (x : ℕ). Produces text entry x (row_at rows (text_place a)).products) (place_back a t.aligned t.from) r.products)
  halves_free rows l a (inr n) = (signs, λ h. n (inside a signs h))

  -- a stream that may be wrong in a place that is no window
  choice : (rows : List TypingRow) → AreRows text entry rows → (s : State) (p : SetPlace) → IsNot0 p → IsFree text s.pc p → (W : Role) × Free W s p
  choice rows l s (Reg r) h f = elim (role_case r) as (λ z. (W : Role) × Free W s (Reg r)) [
    | inl x ↦ (x.0, own_free s.pc r x.0 x.1 f)
    | inr n ↦ (shadow, other_free s.pc r n h f)
  ]
  choice rows l s Hi h f = halves_free rows l s.pc (in_text_or text s.pc)
  choice rows l s Lo h f = halves_free rows l s.pc (in_text_or text s.pc)
  choice rows l s (Memory a) h f = elim (even_or (place a)) as (λ z. (W : Role) × Free W s (Memory a)) [
    | inl e ↦ (master, λ k. not_both (place a) e k)
    | inr e ↦ (shadow, λ k. not_both (place a) k e)
  ]

  -- the first N steps of a run
  guide : (N : ℕ) (start : State) → ((m : ℕ) → m < N → (run start None m).state.end ≡ None → IsPlaced entry (run start None m).state) → ((m : ℕ) → m ≤ N → (code at : ℕ) → (run start None m).state.end ≡ Some (Reported code at) → ⊥) → (W : Role) → Guide N start (Good text entry) (Keep W) (Hal W) (Held W)
  guide N start p u W = record {
    zero = λ a. zero_kept refl;
    calm = λ m l e. (p m l e).calm;
    sort = λ m l g e i h d. sort_of text entry fits rules_hold W (run start None m).state i (ready text entry fits rules_hold (run start None m).state i (record { good = g; at = subst (λ (x : List ℕ). At x (run start None m).state.pc i) g.same h; does = d; going = e; placed = p m l e }));
    next = λ m l g e n. next_of text entry fits rules_hold (run start None m).state g e (p m l e) n;
    unreported = u;
  }

  start_good : (memory feed : List ℕ) → Good text entry (record { pc = entry; npc = plus entry 4; regs = replicate 32 0; hi = 0; lo = 0; text = text; memory = memory; feed = feed; fed = 0; last_load = 0; quiet = 0; slot = false; end = None })
  start_good memory feed = record {
    same = refl;
    zero = refl;
    len = refl;
    way = plain_way refl (plus_four text entry fits (start_text text entry rules_hold entry (begins refl))) (λ v. slot_no_start text entry rules_hold entry v (begins refl));
    five = λ c o e. absurd (five_no_start text entry fits rules_hold entry c o e (begins refl));
  }

-- of any word
shows_any : (i : ImageFields) (input : List ℕ) (N : ℕ) (rows : List TypingRow) → IsText i.text → Typed i.text i.entry rows → PlacedFor i input N → UnreportedFor i input N → (n : ℕ) (p : SetPlace) (w : ℕ) → IsNot0 p → IsFree i.text (image_run i input None n).state.pc p → (k : ℕ) → k ≤ N → IsDetected i input n p w k
shows_any i input N rows fits typed placed unreported n p w is free k h =
    let s : State = (image_run i input None n).state in
    let c : (W : Role) × Free i.text i.entry fits typed.rules W s p = choice i.text i.entry fits typed.rules rows typed.listed s p is free in
    two_runs (Good i.text i.entry) (Keep i.text i.entry fits typed.rules c.0) (Hal i.text i.entry fits typed.rules c.0) (Held c.0) N (boot_state i input)
    (guide i.text i.entry fits typed.rules N (boot_state i input) placed unreported c.0) (start_good i.text i.entry fits typed.rules (boot_state i input).memory input) refl n p w c.1 k h

pub shows_within : ShowsWithin
shows_within i input N rows fits typed placed unreported n p w is free k h = shows_any i input N rows fits typed placed unreported n p w (set_not_zero p w is) free k h

pub shows_flip_within : ShowsFlipWithin
shows_flip_within i input N rows fits typed placed unreported n r bit h free k l =
    let w : ℕ = bit_xor (reg (image_run i input None n).state r) (2 ^ bit) in
    subst (λ (x : Ran). Unseen x (image_run i input None k) ⊎ Told x (image_run i input None k)) (sym (flip_is_set (boot_state i input) n r bit k))
    (shows_any i input N rows fits typed placed unreported n (Reg r) w h free k l)

at_most_self : (k : ℕ) → k ≤ k
at_most_self k = omega arith

pub shows : Shows
shows i input rows fits typed placed unreported n p w free is k = shows_within i input k rows fits typed (placed k) (unreported k) n p w is free k (at_most_self k)

pub shows_flip : ShowsFlip
shows_flip i input rows fits typed placed unreported n r bit h free k = shows_flip_within i input k rows fits typed (placed k) (unreported k) n r bit h free k (at_most_self k)
