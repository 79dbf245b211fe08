-- The tests together are the definition.
use Rattle.std.proofs.Common.{◌≡◌, ℕ, zero, suc, ◌+◌, ◌-◌, ◌<◌, Bool, true, not, List, [], length, Option, Some, None, refl, sym, ap, ◌∙◌, subst, arith, inl, inr, eqb-true, eq-eqb}
use Rattle.std.specs.Prelude.{◌⊎◌, ◌↔◌, ◌==◌, ◌&&◌, ◌||◌, nat_le, nat_lt, slice_get, slice_index, All, Contains}
use Rattle.std.specs.List.{list_any}
use Rattle.std.proofs.lemmas.Bool.{cases_eq, cases_Bool, and_parts, and_from, or_cases, or_left, or_right, both_ways, not-true, not_from_false, false_from_ne_true, ltb-true, lt-ltb, leb-true, le-leb, cond-true, cond-false, ne_eqb}
use Rattle.std.proofs.lemmas.Option.{slice_get_within, get_or_from_slice_get, slice_get_past}
use Rattle.mips_isa.specs.declared.instr.Instr.TheVariants.{Beq, Bne, Jr}
use Rattle.mips_isa.specs.Machine.{is_jump}
use Rattle.mips_isa.specs.Table.{IsInRange}
use Rattle.hard_items.specs.declared.code.Fix.TheVariants.{Block}
use Rattle.hard_items.specs.declared.code.Item.{Item}
use Rattle.hard_items.specs.declared.code.HardBlock.{HardBlock}
use Rattle.hard_items.specs.declared.code.HardProgram.{HardProgram}
use Rattle.hard_items.specs.Run.{items_of, block_items}
use Rattle.hard_items.specs.Ways.{CallsFunction, MayFollow, IsOfFunction, EachCalled}
use Rattle.hard_items.specs.WellFormed.{WellFormed, ItemAt, SkipsBreak, IsEntered, FieldFits, NamesThere, EndsWell}
use Rattle.hard_code.specs.declared.leaves.Leave.{Leave}
use Rattle.hard_code.specs.declared.leaves.Leave.TheVariants.{Jump, Branch, Call, Return, Stop}
use Rattle.hard_code.specs.Tested.{field_fits, names_there, item_fits, ItemsFit, leave, leave_at, start, are_same, goes_well, ReturnsOnce, is_it, callee, is_called, may_begin, is_call, is_named, enters, is_entered, followers, Follow, HoldsBelow, numbers_fit, FunctionsFit, SuccessorsFit}
use Rattle.hard_code.proofs.Lists.{same_some, none_some, got, get_in, in_get, all_get, all_from, any_get, any_from, each_get, each_from, Steps, above_from, above_steps, one_list}
use Rattle.hard_code.proofs.Entries.{of_to, of_from, start_is, IsStart}
use Rattle.hard_code.proofs.Once.{returned_is, returned_from}
use Rattle.hard_code.proofs.Fields.{field_decides, names_decide, Standing, stands_to, stands_from, ends_to, ends_from}
use Rattle.hard_code.proofs.Leaving.{followers_above, leaves_call, leaves_return, leaves_eq, leaves_ne, holds_call, holds_branch, holds_return, listed_follow, follow_listed}

abbrev leave_in : Option HardBlock → Leave
leave_in o = leave (block_items o)

-- ---- numbers

module _ (p : HardProgram) where
  abbrev n1 : Bool
  n1 = nat_lt 0 (length p.blocks)

  abbrev n2 : Bool
  n2 = nat_lt (length p.blocks) 4294967296

  abbrev n3 : Bool
  n3 = nat_le (length p.initial) p.memory_words

  abbrev n4 : Bool
  n4 = nat_le 1 p.memory_words

  abbrev n5 : Bool
  n5 = nat_le p.memory_words 4194304

  pub numbers_to : WellFormed p → numbers_fit p ≡ true
  numbers_to w =
      and_from n1 (n2 && (n3 && (n4 && n5))) (lt-ltb 0 (length p.blocks) w.has_block)
      (and_from n2 (n3 && (n4 && n5)) (lt-ltb (length p.blocks) 4294967296 w.few_blocks)
      (and_from n3 (n4 && n5) (le-leb (length p.initial) p.memory_words w.initial_fits)
      (and_from n4 n5 (le-leb 1 p.memory_words w.has_memory) (le-leb p.memory_words 4194304 w.memory_fits))))

  -- ---- items

  abbrev Items : Type 0
  Items = All (λ b. ItemsFit (length p.blocks) (length p.entries) b.items) p.blocks

  pub items_to : WellFormed p → Items
  items_to w = all_from (λ (b : HardBlock). ItemsFit (length p.blocks) (length p.entries) b.items) p.blocks one
    where
      one : (b : ℕ) (x : HardBlock) → slice_get p.blocks b ≡ Some x → ItemsFit (length p.blocks) (length p.entries) x.items
      one b x e =
          let is : items_of p b ≡ x.items = ap block_items e in
          let standing : Standing (items_of p b) = record { only_at_the_end = w.only_at_the_end b; skips_or_names = w.skips_or_names b; goes_on = w.goes_on_behind_skips b } in
          subst (ItemsFit (length p.blocks) (length p.entries)) is (record {
            in_range = w.in_range b;
            fit = each_from (λ i. item_fits (length p.blocks) (length p.entries) i) (items_of p b) (λ k i g.
                and_from (field_fits i.fix i.instr) (names_there (length p.blocks) (length p.entries) i.fix) ((field_decides i.fix i.instr).1 (all_get (λ (i : Item). FieldFits i.fix i.instr) (items_of p b) k i (w.fields_fit b) g))
                ((names_decide p i.fix).1 (all_get (λ (i : Item). NamesThere p i.fix) (items_of p b) k i (w.named_there b) g)));
            stand = stands_from (items_of p b) standing;
            close = ends_from (items_of p b) (w.ends_well b (slice_get_within p.blocks b x e));
          })

  -- what the tests of the items say of each block
  pub record Sound (items : List Item) : Type 0 where
    pub in_range : All (λ i. IsInRange i.instr) items
    pub fields_fit : All (λ i. FieldFits i.fix i.instr) items
    pub named_there : All (λ i. NamesThere p i.fix) items
    pub standing : Standing items

  sound_none : Sound []
  sound_none = record {
    in_range = all_from (λ (i : Item). IsInRange i.instr) [] (λ k i e. absurd (none_some i e));
    fields_fit = all_from (λ (i : Item). FieldFits i.fix i.instr) [] (λ k i e. absurd (none_some i e));
    named_there = all_from (λ (i : Item). NamesThere p i.fix) [] (λ k i e. absurd (none_some i e));
    standing = stands_to [] (λ k l. absurd (omega arith));
  }

  sound_some : (items : List Item) → ItemsFit (length p.blocks) (length p.entries) items → Sound items
  sound_some items f =
      let parts : (k : ℕ) (i : Item) → slice_get items k ≡ Some i → (field_fits i.fix i.instr ≡ true) × (names_there (length p.blocks) (length p.entries) i.fix ≡ true) =
      λ k i e. and_parts (field_fits i.fix i.instr) (names_there (length p.blocks) (length p.entries) i.fix) (each_get (λ i. item_fits (length p.blocks) (length p.entries) i) items k i f.fit e) in
      record {
        in_range = f.in_range;
        fields_fit = all_from (λ (i : Item). FieldFits i.fix i.instr) items (λ k i e. (field_decides i.fix i.instr).0 (parts k i e).0);
        named_there = all_from (λ (i : Item). NamesThere p i.fix) items (λ k i e. (names_decide p i.fix).0 (parts k i e).1);
        standing = stands_to items f.stand;
      }

  sound_by : Items → (b : ℕ) (o : Option HardBlock) → slice_get p.blocks b ≡ o → Sound (block_items o)
  sound_by f b None e = sound_none
  sound_by f b (Some x) e = sound_some x.items (all_get (λ (b : HardBlock). ItemsFit (length p.blocks) (length p.entries) b.items) p.blocks b x f e)

  pub sound : Items → (b : ℕ) → Sound (items_of p b)
  sound f b = sound_by f b (slice_get p.blocks b) refl

  pub ends : Items → (b : ℕ) → b < length p.blocks → EndsWell (items_of p b)
  ends f b l =
      let g = got p.blocks b l in
      let is : items_of p b ≡ g.0.items = ap block_items g.1 in
      subst EndsWell (sym is) (ends_to g.0.items (all_get (λ (b : HardBlock). ItemsFit (length p.blocks) (length p.entries) b.items) p.blocks b g.0 f g.1).close)

  -- ---- functions

  abbrev Only : Type 0
  Only = (b k : ℕ) (i : Item) → ItemAt (items_of p b) k i → is_jump i.instr ≡ true → SkipsBreak (items_of p b) k ⊎ (k + 2 ≡ length (items_of p b))

  callee_is : (l : Leave) (f : ℕ) → is_it (callee l) f ≡ true → l ≡ Call f
  callee_is (Jump t) f h = absurd (cc)
  callee_is (Branch t) f h = absurd (cc)
  callee_is (Call g) f h = ap Call (eqb-true g f h)
  callee_is Return f h = absurd (cc)
  callee_is Stop f h = absurd (cc)

  calls_some : (f : ℕ) → is_called p.blocks f ≡ true → (b : ℕ) × CallsFunction p b f
  calls_some f t =
      let a = any_get (λ (b : HardBlock). is_it (callee (leave b.items)) f) p.blocks t in
      (a.0, holds_call p a.0 f (ap leave_in a.2 ∙ callee_is (leave a.1.items) f a.3))

  some_calls : Only → (f b : ℕ) → CallsFunction p b f → is_called p.blocks f ≡ true
  some_calls only f b c = by (slice_get p.blocks b) refl
    where
      l : leave_at p.blocks b ≡ Call f
      l = leaves_call p only b f c

      stop : Stop ≡ Call f → ⊥
      stop e = cc

      by : (o : Option HardBlock) → slice_get p.blocks b ≡ o → is_called p.blocks f ≡ true
      by None e = absurd (stop (sym (ap leave_in e) ∙ l))
      by (Some x) e = any_from (λ (b : HardBlock). is_it (callee (leave b.items)) f) p.blocks b x e (ap (λ z. is_it (callee z) f) (sym (ap leave_in e) ∙ l) ∙ eq-eqb f f refl)

  each_called : HoldsBelow (λ f. may_begin p.blocks p.entries f) (length p.entries) → EachCalled p
  each_called h f e is = elim (or_cases (slice_index p.entries f == 0) (is_called p.blocks f) (h f (slice_get_within p.entries f e is))) [
    | inl t ↦ inl (sym (get_or_from_slice_get p.entries f e 0 is) ∙ eqb-true (slice_index p.entries f) 0 t)
    | inr t ↦ inr (calls_some f t)
  ]

  called_each : Only → EachCalled p → HoldsBelow (λ f. may_begin p.blocks p.entries f) (length p.entries)
  called_each only h f l =
      let g = got p.entries f l in
      elim (h f g.0 g.1) [
        | inl e ↦ or_left (slice_index p.entries f == 0) (is_called p.blocks f) (eq-eqb (slice_index p.entries f) 0 (get_or_from_slice_get p.entries f g.0 0 g.1 ∙ e))
        | inr c ↦ or_right (slice_index p.entries f == 0) (is_called p.blocks f) (some_calls only f c.0 c.1)
      ]

  same_is : (o r : Option ℕ) → are_same o r ≡ true → o ≡ r
  same_is None None h = refl
  same_is None (Some y) h = absurd (cc)
  same_is (Some x) None h = absurd (cc)
  same_is (Some x) (Some y) h = ap Some (eqb-true x y h)

  is_same : (o r : Option ℕ) → ((e : ℕ) → o ≡ Some e → r ≡ Some e) → ((e : ℕ) → r ≡ Some e → o ≡ Some e) → are_same o r ≡ true
  is_same None None f g = refl
  is_same None (Some y) f g = absurd (none_some y (g y refl))
  is_same (Some x) None f g = absurd (none_some x (f x refl))
  is_same (Some x) (Some y) f g = eq-eqb x y (sym (same_some y x (f x refl)))

  -- two blocks with one start are of the same functions
  one_start : (b c f : ℕ) → start p.entries b ≡ start p.entries c → IsOfFunction p b f → IsOfFunction p c f
  one_start b c f e o = let r = of_to p b f o in of_from p c f r.0 r.1 (sym e ∙ r.2)

  start_one : (b c : ℕ) → ((f : ℕ) → IsOfFunction p b f → IsOfFunction p c f) → (e : ℕ) → start p.entries b ≡ Some e → start p.entries c ≡ Some e
  start_one b c h e s =
      let i : IsStart p.entries b e = start_is p.entries b e s in
      let r = of_to p c i.place (h i.place (of_from p b i.place e i.there s)) in
      r.2 ∙ (sym r.1 ∙ i.there)

  abbrev Stays : Type 0
  Stays = (b k t rs rt imm : ℕ) (i : Item) → ItemAt (items_of p b) k i → i.fix ≡ Block t → (i.instr ≡ Beq rs rt imm) ⊎ (i.instr ≡ Bne rs rt imm) →
      (b + 1 < length p.blocks) × ((f : ℕ) → (IsOfFunction p b f ↔ IsOfFunction p t f) × (IsOfFunction p b f ↔ IsOfFunction p (b + 1) f))

  abbrev GoesWell : Type 0
  GoesWell = HoldsBelow (λ b. goes_well (length p.blocks) p.entries b (leave_at p.blocks b)) (length p.blocks)

  inside : (b : ℕ) (l : Leave) → leave_at p.blocks b ≡ l → (Stop ≡ l → ⊥) → b < length p.blocks
  inside b l e never = elim (Rattle.std.proofs.lemmas.Bool.cases_lt b (length p.blocks)) [ inl h ↦ h | inr h ↦ absurd (never (sym (ap leave_in (slice_get_past p.blocks b h)) ∙ e)) ]

  stop_branch : (t : ℕ) → Stop ≡ Branch t → ⊥
  stop_branch t e = cc

  stop_call : (t : ℕ) → Stop ≡ Call t → ⊥
  stop_call t e = cc

  stays : Only → GoesWell → Stays
  stays only h b k t rs rt imm i is f x =
      let l : leave_at p.blocks b ≡ Branch t = elim x [ inl e ↦ leaves_eq p only b t rs rt imm i (get_in (items_of p b) k i is) e f | inr e ↦ leaves_ne p only b t rs rt imm i (get_in (items_of p b) k i is) e f ] in
      let g : goes_well (length p.blocks) p.entries b (Branch t) ≡ true = subst (λ (z : Leave). goes_well (length p.blocks) p.entries b z ≡ true) l (h b (inside b (Branch t) l (stop_branch t))) in
      let a = and_parts (nat_lt (b + 1) (length p.blocks)) (are_same (start p.entries b) (start p.entries t) && are_same (start p.entries b) (start p.entries (b + 1))) g in
      let c = and_parts (are_same (start p.entries b) (start p.entries t)) (are_same (start p.entries b) (start p.entries (b + 1))) a.1 in
      let s1 = same_is (start p.entries b) (start p.entries t) c.0 in
      let s2 = same_is (start p.entries b) (start p.entries (b + 1)) c.1 in
      (ltb-true (b + 1) (length p.blocks) a.0, λ f. ((one_start b t f s1, one_start t b f (sym s1)), (one_start b (b + 1) f s2, one_start (b + 1) b f (sym s2))))

  goes_on : GoesWell → Only → (b f : ℕ) → CallsFunction p b f → b + 1 < length p.blocks
  goes_on h only b f c =
      let l : leave_at p.blocks b ≡ Call f = leaves_call p only b f c in
      ltb-true (b + 1) (length p.blocks) (subst (λ (z : Leave). goes_well (length p.blocks) p.entries b z ≡ true) l (h b (inside b (Call f) l (stop_call f))))

  well_by : WellFormed p → (b : ℕ) (l : Leave) → leave_at p.blocks b ≡ l → goes_well (length p.blocks) p.entries b l ≡ true
  well_by w b (Jump t) e = refl
  well_by w b (Branch t) e =
      let r = holds_branch p b t e in
      let g = in_get (items_of p b) r.3 r.4 in
      let s = w.branch_stays b g.0 t r.0 r.1 r.2 r.3 g.1 r.6 r.5 in
      let s1 = is_same (start p.entries b) (start p.entries t) (start_one b t (λ f. (s.1 f).0.0)) (start_one t b (λ f. (s.1 f).0.1)) in
      let s2 = is_same (start p.entries b) (start p.entries (b + 1)) (start_one b (b + 1) (λ f. (s.1 f).1.0)) (start_one (b + 1) b (λ f. (s.1 f).1.1)) in
      and_from (nat_lt (b + 1) (length p.blocks)) (are_same (start p.entries b) (start p.entries t) && are_same (start p.entries b) (start p.entries (b + 1))) (lt-ltb (b + 1) (length p.blocks) s.0) (and_from (are_same (start p.entries b) (start p.entries t)) (are_same (start p.entries b) (start p.entries (b + 1))) s1 s2)
  well_by w b (Call f) e = lt-ltb (b + 1) (length p.blocks) (w.call_goes_on b f (holds_call p b f e))
  well_by w b Return e = refl
  well_by w b Stop e = refl

  pub functions_to : WellFormed p → FunctionsFit p.blocks p.entries
  functions_to w = record {
    there = each_from (λ e. nat_lt e (length p.blocks)) p.entries (λ k e is. lt-ltb e (length p.blocks) (all_get (λ (e : ℕ). e < length p.blocks) p.entries k e w.entries_there is));
    differ = w.entries_differ;
    called = called_each w.only_at_the_end w.each_called;
    go_well = λ b l. well_by w b (leave_at p.blocks b) refl;
    return_once = once;
  }
    where
      once : ReturnsOnce p.blocks p.entries
      once b c e hb hc =
          let rb = returned_is (start p.entries b) (leave_at p.blocks b) e hb in
          let rc = returned_is (start p.entries c) (leave_at p.blocks c) e hc in
          let i : IsStart p.entries b e = start_is p.entries b e rb.0 in
          let x = holds_return p b rb.1 in
          let y = holds_return p c rc.1 in
          let gx = in_get (items_of p b) x.1 x.2 in
          let gy = in_get (items_of p c) y.1 y.2 in
          w.one_return b c i.place gx.0 gy.0 x.0 y.0 x.1 y.1 (of_from p b i.place e i.there rb.0) (of_from p c i.place e i.there rc.0) gx.1 gy.1 x.3 y.3

  one_return : Only → ReturnsOnce p.blocks p.entries → (b c f k m rs rt : ℕ) (i j : Item) → IsOfFunction p b f → IsOfFunction p c f → ItemAt (items_of p b) k i → ItemAt (items_of p c) m j → i.instr ≡ Jr rs → j.instr ≡ Jr rt → b ≡ c
  one_return only once b c f k m rs rt i j ob oc gi gj x y =
      let rb = of_to p b f ob in
      let rc = of_to p c f oc in
      let s : rc.0 ≡ rb.0 = same_some rc.0 rb.0 (sym rc.1 ∙ rb.1) in
      let lb = leaves_return p only b rs i (get_in (items_of p b) k i gi) x in
      let lc = leaves_return p only c rt j (get_in (items_of p c) m j gj) y in
      once b c rb.0 (returned_from (start p.entries b) (leave_at p.blocks b) rb.0 rb.2 lb) (returned_from (start p.entries c) (leave_at p.blocks c) rb.0 (rc.2 ∙ ap Some s) lc)

  -- ---- successors

  abbrev Are : Type 0
  Are = (b c : ℕ) (block : HardBlock) → slice_get p.blocks b ≡ Some block → Contains block.successors c ↔ MayFollow p b c

  follow_to : WellFormed p → Follow p.blocks p.entries (length p.blocks)
  follow_to w b x l e =
      let m : leave_at p.blocks b ≡ leave x.items = ap leave_in e in
      one_list 0 x.successors (followers p.blocks p.entries b (leave x.items)) (above_from 0 x.successors (λ y q. omega arith) (λ k c d. w.successors_ascend b k c d x e)) (followers_above p b (leave x.items))
      (λ c h. subst (λ (z : Leave). Contains (followers p.blocks p.entries b z) c) m (follow_listed p w.only_at_the_end b c ((w.successors_are b c x e).0 h)))
      (λ c h. (w.successors_are b c x e).1 (listed_follow p b c (leave x.items) m h))

  are_from : Only → Follow p.blocks p.entries (length p.blocks) → Are
  are_from only h b c x e =
      let m : leave_at p.blocks b ≡ leave x.items = ap leave_in e in
      let s : x.successors ≡ followers p.blocks p.entries b (leave x.items) = h b x (slice_get_within p.blocks b x e) e in (
        λ q. listed_follow p b c (leave x.items) m (subst (λ (xs : List ℕ). Contains xs c) s q),
        λ q. subst (λ (xs : List ℕ). Contains xs c) (sym s) (subst (λ (z : Leave). Contains (followers p.blocks p.entries b z) c) m (follow_listed p only b c q)),
      )

  ascend_from : Follow p.blocks p.entries (length p.blocks) → (b k c d : ℕ) (block : HardBlock) → slice_get p.blocks b ≡ Some block → slice_get block.successors k ≡ Some c → slice_get block.successors (k + 1) ≡ Some d → c < d
  ascend_from h b k c d x e =
      let s : x.successors ≡ followers p.blocks p.entries b (leave x.items) = h b x (slice_get_within p.blocks b x e) e in
      subst Steps (sym s) (above_steps 0 (followers p.blocks p.entries b (leave x.items)) (followers_above p b (leave x.items))) k c d

  follow_block : Only → (b c : ℕ) → MayFollow p b c → (x : HardBlock) × (slice_get p.blocks b ≡ Some x)
  follow_block only b c m = by (slice_get p.blocks b) refl
    where
      by : (o : Option HardBlock) → slice_get p.blocks b ≡ o → (x : HardBlock) × (slice_get p.blocks b ≡ Some x)
      by None e = absurd (Rattle.hard_code.proofs.Lists.in_none c (subst (λ (z : Leave). Contains (followers p.blocks p.entries b z) c) (ap leave_in e) (follow_listed p only b c m)))
      by (Some x) e = (x, e)

  named_some : Are → (c : ℕ) → is_named p.blocks c ≡ true → (b : ℕ) × MayFollow p b c
  named_some are c t =
      let a = any_get (λ (b : HardBlock). list_any (λ y. y == c) b.successors) p.blocks t in
      let r = any_get (λ y. y == c) a.1.successors a.3 in
      (a.0, (are a.0 c a.1 a.2).0 (subst (λ (n : ℕ). Contains a.1.successors n) (eqb-true r.1 c r.3) (get_in a.1.successors r.0 r.1 r.2)))

  some_named : Only → Are → (b c : ℕ) → MayFollow p b c → is_named p.blocks c ≡ true
  some_named only are b c m =
      let x = follow_block only b c m in
      let g = in_get x.0.successors c ((are b c x.0 x.1).1 m) in
      any_from (λ (b : HardBlock). list_any (λ y. y == c) b.successors) p.blocks b x.0 x.1 (any_from (λ y. y == c) x.0.successors g.0 c g.1 (eq-eqb c c refl))

  call_is : (l : Leave) → is_call l ≡ true → (f : ℕ) × (l ≡ Call f)
  call_is (Jump t) h = absurd (cc)
  call_is (Branch t) h = absurd (cc)
  call_is (Call f) h = (f, refl)
  call_is Return h = absurd (cc)
  call_is Stop h = absurd (cc)

  enters_first : (named : Bool) → enters p.blocks 0 named ≡ not named
  enters_first named = refl

  enters_later : (b : ℕ) (named : Bool) → 0 < b → enters p.blocks b named ≡ (named || is_call (leave_at p.blocks (b - 1)))
  enters_later b named l = cond-false (b == 0) (not named) (named || is_call (leave_at p.blocks (b - 1))) (ne_eqb b 0 (λ e. absurd (omega arith)))

  entered_from : Are → HoldsBelow (λ b. is_entered p.blocks b) (length p.blocks) → (c : ℕ) → 0 < c → c < length p.blocks → IsEntered p c
  entered_from are h c l m = elim (or_cases (is_named p.blocks c) (is_call (leave_at p.blocks (c - 1))) (sym (enters_later c (is_named p.blocks c) l) ∙ h c m)) [
    | inl t ↦ inl (named_some are c t)
    | inr t ↦ let f = call_is (leave_at p.blocks (c - 1)) t in inr (c - 1, f.0, omega arith, holds_call p (c - 1) f.0 f.1)
  ]

  first_from : Only → Are → 0 < length p.blocks → HoldsBelow (λ b. is_entered p.blocks b) (length p.blocks) → (b : ℕ) → MayFollow p b 0 → ⊥
  first_from only are l h b m = both_ways (is_named p.blocks 0) (not-true (is_named p.blocks 0) (h 0 l)) (some_named only are b 0 m)

  entered_to : WellFormed p → HoldsBelow (λ b. is_entered p.blocks b) (length p.blocks)
  entered_to w c l = elim (cases_eq c 0) [
    | inl e ↦ subst (λ (n : ℕ). is_entered p.blocks n ≡ true) (sym e) (not_from_false (is_named p.blocks 0) (false_from_ne_true (is_named p.blocks 0) (λ t. let r = named_some w.successors_are 0 t in w.first_not_entered r.0 r.1)))
    | inr e ↦
        let up : 0 < c = above c e in
        enters_later c (is_named p.blocks c) up ∙ elim (w.each_entered c up l) [
          | inl r ↦ or_left (is_named p.blocks c) (is_call (leave_at p.blocks (c - 1))) (some_named w.only_at_the_end w.successors_are r.0 c r.1)
          | inr r ↦
              let s : c - 1 ≡ r.0 = omega (arith, r.2) in
              or_right (is_named p.blocks c) (is_call (leave_at p.blocks (c - 1))) (ap (λ n. is_call (leave_at p.blocks n)) s ∙ ap is_call (leaves_call p w.only_at_the_end r.0 r.1 r.3))
        ]
  ]
    where
      above : (c : ℕ) → (c ≡ 0 → ⊥) → 0 < c
      above zero never = absurd (never refl)
      above (suc c) never = omega arith

  pub successors_to : WellFormed p → SuccessorsFit p.blocks p.entries
  successors_to w = record { follow = follow_to w; entered = entered_to w }

  -- ---- the whole

  pub well_from : numbers_fit p ≡ true → Items → FunctionsFit p.blocks p.entries → SuccessorsFit p.blocks p.entries → WellFormed p
  well_from n f g s =
      let a1 = and_parts n1 (n2 && (n3 && (n4 && n5))) n in
      let a2 = and_parts n2 (n3 && (n4 && n5)) a1.1 in
      let a3 = and_parts n3 (n4 && n5) a2.1 in
      let a4 = and_parts n4 n5 a3.1 in
      let has : 0 < length p.blocks = ltb-true 0 (length p.blocks) a1.0 in
      let only : Only = λ b. (sound f b).standing.only_at_the_end in
      let are : Are = are_from only s.follow in
      record {
        has_block = has;
        few_blocks = ltb-true (length p.blocks) 4294967296 a2.0;
        initial_fits = leb-true (length p.initial) p.memory_words a3.0;
        has_memory = leb-true 1 p.memory_words a4.0;
        memory_fits = leb-true p.memory_words 4194304 a4.1;
        in_range = λ b. (sound f b).in_range;
        fields_fit = λ b. (sound f b).fields_fit;
        named_there = λ b. (sound f b).named_there;
        entries_there = all_from (λ (e : ℕ). e < length p.blocks) p.entries (λ k e is. ltb-true e (length p.blocks) (each_get (λ e. nat_lt e (length p.blocks)) p.entries k e g.there is));
        each_called = each_called g.called;
        entries_differ = g.differ;
        only_at_the_end = only;
        skips_or_names = λ b. (sound f b).standing.skips_or_names;
        ends_well = ends f;
        goes_on_behind_skips = λ b. (sound f b).standing.goes_on;
        branch_stays = stays only g.go_well;
        one_return = one_return only g.return_once;
        call_goes_on = goes_on g.go_well only;
        each_entered = entered_from are s.entered;
        first_not_entered = first_from only are has s.entered;
        successors_ascend = ascend_from s.follow;
        successors_are = are;
      }

  -- ---- over lists that are those of the program

  module _ (bs : List HardBlock) (es : List ℕ) (eb : bs ≡ p.blocks) (ee : es ≡ p.entries) where
    abbrev ItemsOf : List HardBlock → List ℕ → Type 0
    ItemsOf bs es = All (λ b. ItemsFit (length bs) (length es) b.items) bs

    pub answer_items : WellFormed p → ItemsOf bs es
    answer_items w = subst (λ (xs : List HardBlock). ItemsOf xs es) (sym eb) (subst (λ (ys : List ℕ). ItemsOf p.blocks ys) (sym ee) (items_to w))

    pub answer_functions : WellFormed p → FunctionsFit bs es
    answer_functions w = subst (λ (xs : List HardBlock). FunctionsFit xs es) (sym eb) (subst (λ (ys : List ℕ). FunctionsFit p.blocks ys) (sym ee) (functions_to w))

    pub answer_successors : WellFormed p → SuccessorsFit bs es
    answer_successors w = subst (λ (xs : List HardBlock). SuccessorsFit xs es) (sym eb) (subst (λ (ys : List ℕ). SuccessorsFit p.blocks ys) (sym ee) (successors_to w))

    pub answer_well : numbers_fit p ≡ true → ItemsOf bs es → FunctionsFit bs es → SuccessorsFit bs es → WellFormed p
    answer_well n f g s = well_from n
        (subst (λ (ys : List ℕ). ItemsOf p.blocks ys) ee (subst (λ (xs : List HardBlock). ItemsOf xs es) eb f))
        (subst (λ (ys : List ℕ). FunctionsFit p.blocks ys) ee (subst (λ (xs : List HardBlock). FunctionsFit xs es) eb g))
        (subst (λ (ys : List ℕ). SuccessorsFit p.blocks ys) ee (subst (λ (xs : List HardBlock). SuccessorsFit xs es) eb s))
