-- That the blocks of a function stand side by side, so that two returns of it have no other return between them.
use Rattle.std.proofs.Common.{◌≡◌, ℕ, ◌+◌, ◌<◌, ◌≤◌, true, false, List, length, Option, Some, None, refl, sym, ap, ◌∙◌, subst, arith, inl, inr, eq-eqb, eqb-true}
use Rattle.std.specs.Prelude.{is_some}
use Rattle.std.proofs.lemmas.Bool.{cases_lt, both_ways}
use Rattle.std.proofs.lemmas.Option.{slice_get_past}
use Rattle.hard_items.specs.declared.code.HardBlock.{HardBlock}
use Rattle.hard_items.specs.Run.{block_items}
use Rattle.hard_code.specs.declared.leaves.Leave.{Leave}
use Rattle.hard_code.specs.declared.leaves.Leave.TheVariants.{Jump, Branch, Call, Return, Stop}
use Rattle.hard_code.specs.Tested.{leave, leave_at, start, are_one, returned, returns_at, ReturnsOnce}
use Rattle.hard_code.proofs.Lists.{same_some, none_some}
use Rattle.hard_code.proofs.Entries.{start_later}

pub returned_is : (o : Option ℕ) (l : Leave) (e : ℕ) → returned o l ≡ Some e → (o ≡ Some e) × (l ≡ Return)
returned_is o (Jump t) e h = absurd (none_some e h)
returned_is o (Branch t) e h = absurd (none_some e h)
returned_is o (Call f) e h = absurd (none_some e h)
returned_is o Return e h = (h, refl)
returned_is o Stop e h = absurd (none_some e h)

pub returned_from : (o : Option ℕ) (l : Leave) (e : ℕ) → o ≡ Some e → l ≡ Return → returned o l ≡ Some e
returned_from o l e h r = ap (returned o) r ∙ h

pub record OnceBelow (bs : List HardBlock) (es : List ℕ) (last : Option ℕ) (n : ℕ) : Type 0 where
  pub once : (b c e : ℕ) → b < n → c < n → returns_at bs es b ≡ Some e → returns_at bs es c ≡ Some e → b ≡ c
  pub latest : (b e : ℕ) → b < n → returns_at bs es b ≡ Some e → (s : ℕ) × (last ≡ Some s) × (e ≤ s)
  pub there : (s : ℕ) → last ≡ Some s → (b : ℕ) × (b < n) × (returns_at bs es b ≡ Some s)

module _ (bs : List HardBlock) (es : List ℕ) where
  pub once_start : OnceBelow bs es None 0
  once_start = record { once = λ b c e l. absurd (omega arith); latest = λ b e l. absurd (omega arith); there = λ s h. absurd (none_some s h) }

  -- a later return is from a later function, or the same
  later_return : (b c e d : ℕ) → b ≤ c → returns_at bs es b ≡ Some e → returns_at bs es c ≡ Some d → e ≤ d
  later_return b c e d le hb hc =
      let sb = (returned_is (start es b) (leave_at bs b) e hb).0 in
      let sc = (returned_is (start es c) (leave_at bs c) d hc).0 in
      let r = start_later es b c e sb le in
      let q : e ≤ r.0 = r.2 in
      let s : r.0 ≡ d = same_some r.0 d (sym r.1 ∙ sc) in
      omega arith

  one_same : (x y : ℕ) → are_one (Some x) (Some y) ≡ true → x ≡ y
  one_same x y h = eqb-true x y h

  pub once_pass : (last : Option ℕ) (n : ℕ) → returns_at bs es n ≡ None → OnceBelow bs es last n → OnceBelow bs es last (n + 1)
  once_pass last n never w = record {
    once = λ b c e lb lc hb hc. w.once b c e (less b e lb hb) (less c e lc hc) hb hc;
    latest = λ b e l h. w.latest b e (less b e l h) h;
    there = λ s h. let r = w.there s h in let l : r.0 < n = r.1 in (r.0, omega arith, r.2);
  }
    where
      less : (b e : ℕ) → b < n + 1 → returns_at bs es b ≡ Some e → b < n
      less b e l h = elim (cases_lt b n) [
        | inl a ↦ a
        | inr a ↦ let s : n ≡ b = omega arith in absurd (none_some e (sym never ∙ (ap (returns_at bs es) s ∙ h)))
      ]

  pub once_more : (last : Option ℕ) (n d : ℕ) → returns_at bs es n ≡ Some d → are_one last (Some d) ≡ false → OnceBelow bs es last n → OnceBelow bs es (Some d) (n + 1)
  once_more last n d is never w = record {
    once = both;
    latest = λ b e l h. (d, refl, elim (cases_lt b n) [ inl a ↦ later_return b n e d (omega arith) h is | inr a ↦ let s : b ≡ n = omega arith in let q : e ≡ d = at_end b e s h in omega arith ]);
    there = λ s h. (n, omega arith, is ∙ h);
  }
    where
      at_end : (b e : ℕ) → b ≡ n → returns_at bs es b ≡ Some e → e ≡ d
      at_end b e s h = same_some e d (sym h ∙ (ap (returns_at bs es) s ∙ is))

      apart : (b : ℕ) → b < n → returns_at bs es b ≡ Some d → ⊥
      apart b l h =
          let r = w.latest b d l h in
          let q : d ≤ r.0 = r.2 in
          let t = w.there r.0 r.1 in
          let tl : t.0 < n = t.1 in
          let u : r.0 ≤ d = later_return t.0 n r.0 d (omega arith) t.2 is in
          let s : r.0 ≡ d = omega arith in
          both_ways (are_one last (Some d)) never (ap (λ o. are_one o (Some d)) r.1 ∙ eq-eqb r.0 d s)

      both : (b c e : ℕ) → b < n + 1 → c < n + 1 → returns_at bs es b ≡ Some e → returns_at bs es c ≡ Some e → b ≡ c
      both b c e lb lc hb hc = elim (cases_lt b n) [
        | inl a ↦ elim (cases_lt c n) [
          | inl k ↦ w.once b c e a k hb hc
          | inr k ↦ let s : c ≡ n = omega arith in absurd (apart b a (hb ∙ ap Some (at_end c e s hc)))
        ]
        | inr a ↦ let s : b ≡ n = omega arith in elim (cases_lt c n) [
          | inl k ↦ absurd (apart c k (hc ∙ ap Some (at_end b e s hb)))
          | inr k ↦ omega arith
        ]
      ]

  no_return : (b : ℕ) → length bs ≤ b → returns_at bs es b ≡ None
  no_return b le = ap (λ o. returned (start es b) (leave (block_items o))) (slice_get_past bs b le)

  pub once_all : (last : Option ℕ) (n : ℕ) → length bs ≤ n → OnceBelow bs es last n → ReturnsOnce bs es
  once_all last n le w b c e hb hc = w.once b c e (inside b e hb) (inside c e hc) hb hc
    where
      inside : (b e : ℕ) → returns_at bs es b ≡ Some e → b < n
      inside b e h = elim (cases_lt b (length bs)) [ inl l ↦ omega arith | inr l ↦ absurd (none_some e (sym (no_return b l) ∙ h)) ]

  pub once_not : (last entry : Option ℕ) (n : ℕ) → entry ≡ returns_at bs es n → are_one last entry ≡ true → OnceBelow bs es last n → ReturnsOnce bs es → ⊥
  once_not None entry n is t w once = both_ways false refl t
  once_not (Some s) None n is t w once = both_ways false refl t
  once_not (Some s) (Some d) n is t w once =
      let r = w.there s refl in
      let l : r.0 < n = r.1 in
      let q : r.0 ≡ n = once r.0 n s r.2 (sym is ∙ ap Some (sym (one_same s d t))) in
      omega arith

  pub once_then : (last entry now : Option ℕ) (n : ℕ) → entry ≡ returns_at bs es n → are_one last entry ≡ false → is_some entry ≡ true → now ≡ entry → OnceBelow bs es last n → OnceBelow bs es now (n + 1)
  once_then last None now n is t s e w = absurd (both_ways false refl s)
  once_then last (Some d) now n is t s e w = subst (λ (o : Option ℕ). OnceBelow bs es o (n + 1)) (sym e) (once_more last n d (sym is) t w)

  pub once_else : (last entry now : Option ℕ) (n : ℕ) → entry ≡ returns_at bs es n → is_some entry ≡ false → now ≡ last → OnceBelow bs es last n → OnceBelow bs es now (n + 1)
  once_else last None now n is s e w = subst (λ (o : Option ℕ). OnceBelow bs es o (n + 1)) (sym e) (once_pass last n (sym is) w)
  once_else last (Some d) now n is s e w = absurd (both_ways true s refl)
