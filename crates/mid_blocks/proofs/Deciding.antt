-- What the tests of a function decide.
use Rattle.std.proofs.Common.{◌≡◌, ℕ, zero, suc, ◌+◌, ◌-◌, ◌<◌, ◌≤◌, Bool, true, false, not, List, [], ◌∷◌, length, Option, Some, None, refl, sym, ap, ◌∙◌, subst, arith, inl, inr, get_or, eqb-true, eq-eqb}
use Rattle.std.specs.Prelude.{nat_lt, nat_le, ◌&&◌, ◌⊎◌, slice_get, count_by, is_some}
use Rattle.std.specs.Bool.{Decides}
use Rattle.std.specs.List.{list_all, list_any, flat_map, All, Any}
use Rattle.std.proofs.lemmas.Bool.{cases_lt, cases_Bool, and_parts, and_from, ltb-true, lt-ltb, leb-true, le-leb, false_from_ne_true, not_from_false, not-true, both_ways}
use Rattle.std.proofs.lemmas.Bool.Decides.{Decides-by_and, Decides-ltb, nat_tests}
use Rattle.std.proofs.lemmas.List.Folds.{list_all-append, Any-from_list_any, list_any-from_Any}
use Rattle.std.proofs.lemmas.Option.{get_or_from_slice_get, slice_get-get_or}
use Rattle.mid_blocks.specs.declared.code.MidBlock.{MidBlock}
use Rattle.mid_blocks.specs.declared.code.MidEnd.{MidEnd}
use Rattle.mid_blocks.specs.declared.code.MidEnd.TheVariants.{Jump, Branch, Call, Return}
use Rattle.mid_blocks.specs.declared.code.MidFunction.{MidFunction}
use Rattle.mid_blocks.specs.Lines.{Line, block_lines, lines}
use Rattle.mid_blocks.specs.Valid.{ValidFunction, line_variables, IsTarget, IsBehind, target, falls_on, is_call, is_return}
use Rattle.mid_blocks.specs.Tested.{is_below, line_fits, is_it, names, follows, enters, is_entered, closes, HoldsBelow, few, numbers_fit, variables_exist, targets_exist, shape_fits}
use Rattle.mid_blocks.proofs.Positions.{get_within, got}

-- ---- tests of each item

pub flat_all : {X Y : Type 0} (p : Y → Bool) (g : X → List Y) (xs : List X) → list_all p (flat_map g xs) ≡ list_all (λ x. list_all p (g x)) xs
flat_all p g [] = refl
flat_all p g (x ∷ xs) = list_all-append p (g x) (flat_map g xs) ∙ ap (λ b. list_all p (g x) && b) (flat_all p g xs)

pub each_decides : {X : Type 0} (p : X → Bool) (P : X → Type 0) → ((x : X) → Decides (p x) (P x)) → (xs : List X) → Decides (list_all p xs) (All P xs)
each_decides p P each xs = Decides-by_and p P (list_all p) each refl (λ x xs. refl) xs

pub each_true : {X : Type 0} (p : X → Bool) (xs : List X) → Decides (list_all p xs) (All (λ x. p x ≡ true) xs)
each_true p xs = each_decides p (λ x. p x ≡ true) (λ x. (λ e. e, λ e. e)) xs

pub line_decides : (n : ℕ) (line : Line) → Decides (line_fits n line) (All (λ v. v < n) (line_variables line))
line_decides n line = each_decides (λ v. nat_lt v n) (λ v. v < n) (λ v. Decides-ltb v n) (line_variables line)

pub variables_decide : (n : ℕ) (blocks : List MidBlock) → Decides (variables_exist n blocks) (All (λ line. All (λ v. v < n) (line_variables line)) (flat_map block_lines blocks))
variables_decide n blocks =
    let d = each_decides (line_fits n) (λ line. All (λ v. v < n) (line_variables line)) (line_decides n) (flat_map block_lines blocks) in
    let e = flat_all (line_fits n) block_lines blocks in
    (λ t. d.0 (e ∙ t), λ all. sym e ∙ d.1 all)

-- ---- what is named

pub it_is : (o : Option ℕ) (x : ℕ) → is_it o x ≡ true → o ≡ Some x
it_is None x h = absurd (cc)
it_is (Some y) x h = ap Some (eqb-true y x h)

pub is_it_there : (o : Option ℕ) (x : ℕ) → o ≡ Some x → is_it o x ≡ true
is_it_there None x h = absurd (cc)
is_it_there (Some y) x h = eq-eqb y x (cc)

pub any_decides : {X : Type 0} (p : X → Bool) (P : X → Type 0) → ((x : X) → Decides (p x) (P x)) → (xs : List X) → Decides (list_any p xs) (Any P xs)
any_decides p P each xs = (
  λ t. let a = Any-from_list_any p xs t in (a.0, a.1, a.2, a.3, (each a.1).0 a.4),
  λ a. list_any-from_Any p xs (a.0, a.1, a.2, a.3, (each a.1).1 a.4),
)

module _ (f : MidFunction) where
  pub named : (x : ℕ) → Decides (names f.blocks x) (IsTarget f x)
  named x = any_decides (λ b. is_it (target b.end) x) (λ b. target b.end ≡ Some x) (λ b. (it_is (target b.end) x, is_it_there (target b.end) x)) f.blocks

pub below_some : (n x : ℕ) (o : Option ℕ) → o ≡ Some x → is_below n o ≡ true → x < n
below_some n x None e h = absurd (cc)
below_some n x (Some y) e h = let same : y ≡ x = cc in subst (λ (z : ℕ). z < n) same (ltb-true y n h)

pub below_from : (n : ℕ) (o : Option ℕ) → ((x : ℕ) → o ≡ Some x → x < n) → is_below n o ≡ true
below_from n None h = refl
below_from n (Some y) h = lt-ltb y n (h y refl)

pub targets_decide : (f : MidFunction) → Decides (targets_exist f.blocks) ((x : ℕ) → IsTarget f x → x < length f.blocks)
targets_decide f =
    let d = each_true (λ b. is_below (length f.blocks) (target b.end)) f.blocks in (
      λ t x a. below_some (length f.blocks) x (target a.1.end) a.4 (subst (λ (b : MidBlock). is_below (length f.blocks) (target b.end) ≡ true) a.3 (d.0 t a.0 a.1 a.2)),
      λ h. d.1 (λ k b l. below_from (length f.blocks) (target (get_or f.blocks k b).end)
          (λ x e. h x (k, get_or f.blocks k b, l, get_or_from_slice_get f.blocks k (get_or f.blocks k b) (get_or f.blocks k b) (slice_get-get_or f.blocks k b l), e))),
    )

-- ---- the last block

pub closes_there : (blocks : List MidBlock) → closes (slice_get blocks (length blocks - 1)) ≡ true → 0 < length blocks
closes_there [] h = absurd (cc)
closes_there (b ∷ bs) h = omega arith

pub closes_next : (f : MidFunction) → closes (slice_get f.blocks (length f.blocks - 1)) ≡ true → (x : ℕ) → IsBehind falls_on f x → x < length f.blocks
closes_next f h x (before, end, (b, is, e), t, eq) = elim (cases_lt x (length f.blocks)) [
  | inl l ↦ l
  | inr g ↦
      let there = get_within f.blocks before b is in
      let last : before ≡ length f.blocks - 1 = omega (arith, there, eq, g) in
      let got : slice_get f.blocks (length f.blocks - 1) ≡ Some b = ap (slice_get f.blocks) (sym last) ∙ is in
      let no : not (falls_on b.end) ≡ true = ap closes (sym got) ∙ h in
      absurd (both_ways (falls_on b.end) (not-true (falls_on b.end) no) (ap falls_on e ∙ t))
]

pub closes_from : (f : MidFunction) → 0 < length f.blocks → ((x : ℕ) → IsBehind falls_on f x → x < length f.blocks) → closes (slice_get f.blocks (length f.blocks - 1)) ≡ true
closes_from f some next =
    let b = got f.blocks (length f.blocks - 1) (omega arith) in
    ap closes b.1 ∙ elim (cases_Bool (falls_on b.0.end)) [
      | inl t ↦ absurd (omega (arith, next (length f.blocks - 1 + 1) (length f.blocks - 1, b.0.end, (b.0, b.1, refl), t, refl)))
      | inr n ↦ not_from_false (falls_on b.0.end) n
    ]

-- ---- how blocks are entered

follows_call : (end : MidEnd) (n : Bool) → is_call end ≡ true → follows end n ≡ true → n ≡ false
follows_call (Jump to) n c h = absurd (cc)
follows_call (Branch test when to) n c h = absurd (cc)
follows_call (Call function args result) n c h = not-true n h
follows_call (Return from) n c h = absurd (cc)

follow_cases : (end : MidEnd) (n : Bool) → follows end n ≡ true → (n ≡ true) ⊎ (falls_on end ≡ true)
follow_cases (Jump to) n h = inl h
follow_cases (Branch test when to) n h = inr refl
follow_cases (Call function args result) n h = inr refl
follow_cases (Return from) n h = inl h

follows_from : (end : MidEnd) (n : Bool) → (is_call end ≡ true → n ≡ false) → (falls_on end ≡ false → n ≡ true) → follows end n ≡ true
follows_from (Jump to) n a b = b refl
follows_from (Branch test when to) n a b = refl
follows_from (Call function args result) n a b = not_from_false n (a refl)
follows_from (Return from) n a b = b refl

abbrev pub AllEntered : MidFunction → Type 0
AllEntered f = HoldsBelow (λ x. is_entered f.blocks x) (length f.blocks)

module _ (f : MidFunction) where
  not_first : AllEntered f → 0 < length f.blocks → IsTarget f 0 → ⊥
  not_first entered some t = both_ways (names f.blocks 0) (not-true (names f.blocks 0) (entered 0 some)) ((named f 0).1 t)

  not_behind : AllEntered f → ((x : ℕ) → IsTarget f x → x < length f.blocks) → (x : ℕ) → IsBehind is_call f x → IsTarget f x → ⊥
  not_behind entered exist x (before, end, (b, is, e), t, eq) to =
      let e1 : x ≡ suc before = omega arith in
      let h : is_entered f.blocks (suc before) ≡ true = subst (λ (y : ℕ). is_entered f.blocks y ≡ true) e1 (entered x (exist x to)) in
      let g : follows b.end (names f.blocks (suc before)) ≡ true = ap (λ o. enters o (names f.blocks (suc before))) (sym is) ∙ h in
      both_ways (names f.blocks (suc before)) (follows_call b.end (names f.blocks (suc before)) (ap is_call e ∙ t) g) (ap (names f.blocks) (sym e1) ∙ (named f x).1 to)

  each_entered : AllEntered f → (x : ℕ) → 0 < x → x < length f.blocks → IsTarget f x ⊎ IsBehind falls_on f x
  each_entered entered zero p l = absurd (omega arith)
  each_entered entered (suc n) p l =
      let b = got f.blocks n (omega arith) in
      elim (follow_cases b.0.end (names f.blocks (suc n)) (ap (λ o. enters o (names f.blocks (suc n))) (sym b.1) ∙ entered (suc n) l)) [
        | inl t ↦ inl ((named f (suc n)).0 t)
        | inr t ↦ inr (n, b.0.end, (b.0, b.1, refl), t, omega arith)
      ]

  falls_behind : (n : ℕ) (b : MidBlock) → slice_get f.blocks n ≡ Some b → IsBehind falls_on f (suc n) → falls_on b.end ≡ true
  falls_behind n b is (before, end, (b', is', e), t, eq) =
      let same : before ≡ n = omega arith in
      let both : Some b' ≡ Some b = sym is' ∙ ap (slice_get f.blocks) same ∙ is in
      let e2 : b' ≡ b = cc in
      ap (λ (x : MidBlock). falls_on x.end) (sym e2) ∙ ap falls_on e ∙ t

  all_entered : ValidFunction f → (x : ℕ) → x < length f.blocks → is_entered f.blocks x ≡ true
  all_entered valid zero l = not_from_false (names f.blocks 0) (false_from_ne_true (names f.blocks 0) (λ t. valid.not_the_first ((named f 0).0 t)))
  all_entered valid (suc n) l =
      let b = got f.blocks n (omega arith) in
      ap (λ o. enters o (names f.blocks (suc n))) b.1 ∙ follows_from b.0.end (names f.blocks (suc n))
      (λ c. false_from_ne_true (names f.blocks (suc n)) (λ t. valid.not_behind_call (suc n) (n, b.0.end, (b.0, b.1, refl), c, omega arith) ((named f (suc n)).0 t)))
      (λ no. elim (valid.each_entered (suc n) (omega arith) l) [
        | inl t ↦ (named f (suc n)).1 t
        | inr h ↦ absurd (both_ways (falls_on b.0.end) no (falls_behind n b.0 b.1 h))
      ])

-- ---- the whole

few_some : (n : ℕ) → is_some (few n) ≡ true → n ≤ 62914560
few_some n h = grind (arith, nat_tests)

few_from : (n : ℕ) → n ≤ 62914560 → is_some (few n) ≡ true
few_from n h = grind (arith, nat_tests)

module _ (f : MidFunction) where
  pub valid_from : shape_fits f ≡ true → AllEntered f → ValidFunction f
  valid_from shape entered =
      let a = and_parts (numbers_fit f) (variables_exist f.variables f.blocks && (targets_exist f.blocks && (closes (slice_get f.blocks (length f.blocks - 1)) && (nat_le (count_by (λ b. is_return b.end) f.blocks) 1 && is_some (few (length (lines f))))))) shape in
      let n1 = and_parts (nat_le f.params f.variables) (nat_lt f.variables f.pairs && nat_le f.pairs 4002) a.0 in
      let n2 = and_parts (nat_lt f.variables f.pairs) (nat_le f.pairs 4002) n1.1 in
      let b = and_parts (variables_exist f.variables f.blocks) (targets_exist f.blocks && (closes (slice_get f.blocks (length f.blocks - 1)) && (nat_le (count_by (λ b. is_return b.end) f.blocks) 1 && is_some (few (length (lines f)))))) a.1 in
      let d = and_parts (targets_exist f.blocks) (closes (slice_get f.blocks (length f.blocks - 1)) && (nat_le (count_by (λ b. is_return b.end) f.blocks) 1 && is_some (few (length (lines f))))) b.1 in
      let e = and_parts (closes (slice_get f.blocks (length f.blocks - 1))) (nat_le (count_by (λ b. is_return b.end) f.blocks) 1 && is_some (few (length (lines f)))) d.1 in
      let g = and_parts (nat_le (count_by (λ b. is_return b.end) f.blocks) 1) (is_some (few (length (lines f)))) e.1 in
      let exist = (targets_decide f).0 d.0 in
      record {
        has_block = closes_there f.blocks e.0;
        variables_exist = (variables_decide f.variables f.blocks).0 b.0;
        blocks_exist = exist;
        not_the_first = not_first f entered (closes_there f.blocks e.0);
        not_behind_call = not_behind f entered exist;
        has_next = closes_next f e.0;
        each_entered = each_entered f entered;
        params_fit = leb-true f.params f.variables n1.0;
        variables_fit = ltb-true f.variables f.pairs n2.0;
        pairs_fit = leb-true f.pairs 4002 n2.1;
        one_return = leb-true (count_by (λ b. is_return b.end) f.blocks) 1 g.0;
        few_lines = few_some (length (lines f)) g.1;
      }

  pub shape_from : ValidFunction f → shape_fits f ≡ true
  shape_from valid =
      and_from (numbers_fit f) _ (and_from (nat_le f.params f.variables) _ (le-leb f.params f.variables valid.params_fit) (and_from (nat_lt f.variables f.pairs) _ (lt-ltb f.variables f.pairs valid.variables_fit) (le-leb f.pairs 4002 valid.pairs_fit)))
      (and_from (variables_exist f.variables f.blocks) _ ((variables_decide f.variables f.blocks).1 valid.variables_exist)
      (and_from (targets_exist f.blocks) _ ((targets_decide f).1 valid.blocks_exist)
      (and_from (closes (slice_get f.blocks (length f.blocks - 1))) _ (closes_from f valid.has_block valid.has_next)
      (and_from (nat_le (count_by (λ b. is_return b.end) f.blocks) 1) _ (le-leb (count_by (λ b. is_return b.end) f.blocks) 1 valid.one_return) (few_from (length (lines f)) valid.few_lines)))))

  pub entered_from : ValidFunction f → AllEntered f
  entered_from valid x l = all_entered f valid x l
