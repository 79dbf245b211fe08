-- The sort of each word of a well typed text, where one stream is wrong.
use Rattle.std.proofs.Common.{◌≡◌, ◌≢◌, ℕ, ◌+◌, ◌*◌, ◌%◌, ◌≤◌, arith, rules, ap, refl, sym, ◌∙◌, subst, List, [], ◌∷◌, get_or, false, true, Bool, inl, inr}
use Rattle.std.specs.Prelude.{◌⊎◌, ◌==◌, ◌||◌, not, IsTrue}
use Rattle.hard_words.specs.Words.{extended}
use Rattle.mips_isa.specs.declared.instr.Instr.{Instr}
use Rattle.mips_isa.specs.declared.instr.Instr.TheVariants.{Jr, Syscall, Break, Mfhi, Mflo, Addu, J, Jal, Beq, Bne, Ori, Lw, Sw}
use Rattle.mips_isa.specs.Machine.{State, reg, act, perform, plus, place, among, writes_of, reads_of, is_product, is_jump}
use Rattle.mips_isa.specs.Locality.{is_data, is_move}
use Rattle.mips_faults.specs.Beside.{with_parts, SameKept, LoadsKept, IsCalm}
use Rattle.mips_text.specs.Text.{IsText, InText, At, used_of, BranchAt, SkipsReport, Critical, base, operand, target, argument}
use Rattle.mips_faults.specs.Faults.{IsPlaced, Moves, in_even, in_odd}
use Rattle.mips_laws.proofs.Locality.{reaches}
use Rattle.mips_text.specs.Typing.{Role, master, shadow, signs, Of, CheckAt, IsProductOf}
use Rattle.mips_text.specs.Forms.{InputAt, WordOf, output, exit, input, IsPair, plain, stack, link}
use Rattle.harden_lint.specs.Rules.{WellTyped, OneStream, FromOwn, IsTaking}
use Rattle.lint_lockstep.proofs.Fetch.{same_instr}
use Rattle.lint_lockstep.specs.Sorts.{Behind}
use Rattle.lint_lockstep.specs.Sorts.{Sort, alike, wrong, takes, aside, halts, skips, Among}
use Rattle.harden_lint.proofs.Places.{no_truth, in_text, report_or, plus_four, plus_eight, same_offset}
use Rattle.harden_lint.proofs.Words.{behind_at, third, fourth}
use Rattle.harden_lint.proofs.Services.{serving, first, second, Given, word_at}
use Rattle.harden_lint.proofs.Keeps.{Keeps, zero_kept, other, guard, due, came_zero, came_other, came_check, came_held, came_given, Edge, Halves, Producing, came, producing, one_role, role_or, zero_free, two_free, even_master, odd_shadow}
use Rattle.harden_lint.proofs.Streams.{to_among, from_among, joins_right, joins_left, all_of, head_signs, Held, even_place, odd_place, calm_load, calm_store, loads_by}

-- what is known of a state of the clean run at a word
pub record Ready (text : List ℕ) (entry : ℕ) (s : State) (i : Instr) : Type 0 where
  pub same : s.text ≡ text
  pub at : At text s.pc i
  pub edge : ((code : ℕ) → i ≡ Break code → ⊥) → Edge text entry s.pc s.npc
  pub straight : is_jump i ≡ true → s.npc ≡ s.pc + 4
  pub placed : IsPlaced entry s
  pub calm : IsCalm (perform (act i s) s)
  pub five : (c : ℕ) → InputAt text c → s.pc ≡ c + 4 → reg s 2 ≡ 5

-- an instruction that is a data row is none of the others
beq_data : (x y n : ℕ) (i : Instr) → is_data i ≡ true → i ≡ Beq x y n → ⊥
beq_data x y n i d e = no_truth (sym (ap (λ (j : Instr). is_data j) e) ∙ d)

among_writes : (i : Instr) (q : ℕ) → IsTrue (among q (writes_of i)) → IsTrue (among q (used_of i))
among_writes i q h = joins_left q (writes_of i) (reads_of i) h

among_reads : (i : Instr) (q : ℕ) → IsTrue (among q (reads_of i)) → IsTrue (among q (used_of i))
among_reads i q h = joins_right q (writes_of i) (reads_of i) h

listed : (q : ℕ) (xs ys : List ℕ) → xs ≡ ys → IsTrue (among q xs) → IsTrue (among q ys)
listed q xs ys e h = subst (λ (l : List ℕ). IsTrue (among q l)) e h

alone : (q x : ℕ) → q ≡ x → IsTrue (among q (x ∷ []))
alone q x e = from_among q (x ∷ []) (inl e)

only_one : (q x : ℕ) → IsTrue (among q (x ∷ [])) → q ≡ x
only_one q x h = elim (to_among q (x ∷ []) h) as (λ z. q ≡ x) [ inl e ↦ e | inr e ↦ absurd e ]

held_even : (W : Role) (p : ℕ) → (master ≡ W → ⊥) → p % 2 ≡ 0 → Held W p
held_even master p d h = absurd (d refl)
held_even shadow p d h = h
held_even signs p d h = tt

held_odd : (W : Role) (p : ℕ) → (shadow ≡ W → ⊥) → p % 2 ≡ 1 → Held W p
held_odd master p d h = h
held_odd shadow p d h = absurd (d refl)
held_odd signs p d h = tt

not_both : (p : ℕ) → p % 2 ≡ 0 → p % 2 ≡ 1 → ⊥
not_both p h k = omega arith

free_even : (W : Role) (p : ℕ) → master ≡ W → p % 2 ≡ 0 → Held W p → ⊥
free_even W p e h k = not_both p h (subst (λ (X : Role). Held X p) (sym e) k)

free_odd : (W : Role) (p : ℕ) → shadow ≡ W → p % 2 ≡ 1 → Held W p → ⊥
free_odd W p e h k = not_both p (subst (λ (X : Role). Held X p) (sym e) k) h

half_or : (x y : Bool) → (x || y) ≡ true → (x ≡ true) ⊎ (y ≡ true)
half_or true y h = inl refl
half_or false y h = inr h

-- a register that two streams use is of both
same_stream : (Y X : Role) (r : ℕ) → Of Y r → (r ≡ 0) ⊎ ((r ≡ 2) ⊎ Of X r) → X ≡ Y
same_stream Y X r o (inl z) = absurd (zero_free Y (subst (Of Y) z o))
same_stream Y X r o (inr (inl z)) = absurd (two_free Y (subst (Of Y) z o))
same_stream Y X r o (inr (inr z)) = one_role X Y r z o

lw_data : (i : Instr) (rt rs imm : ℕ) → is_data i ≡ false → i ≡ Lw rt rs imm → ⊥
lw_data i rt rs imm d e = no_truth (sym d ∙ ap (λ (j : Instr). is_data j) e)

move_of : (i : Instr) → is_move i ≡ true → (rd : ℕ) × ((i ≡ Mfhi rd) ⊎ (i ≡ Mflo rd))
move_of (Mfhi rd) h = (rd, inl refl)
move_of (Mflo rd) h = (rd, inr refl)
move_of _ h = absurd (no_truth h)

move_writes : (i : Instr) (rd : ℕ) → (i ≡ Mfhi rd) ⊎ (i ≡ Mflo rd) → writes_of i ≡ rd ∷ []
move_writes i rd (inl e) = ap (λ (j : Instr). writes_of j) e
move_writes i rd (inr e) = ap (λ (j : Instr). writes_of j) e

move_reads : (i : Instr) (rd : ℕ) → (i ≡ Mfhi rd) ⊎ (i ≡ Mflo rd) → reads_of i ≡ []
move_reads i rd (inl e) = ap (λ (j : Instr). reads_of j) e
move_reads i rd (inr e) = ap (λ (j : Instr). reads_of j) e

head_same : (x y : ℕ) → x ∷ [] ≡ y ∷ [] → x ≡ y
head_same x y h = search (rules, h)

odd_by : (m s : ℕ) → 4 ≤ m → m ≤ 13 → s ≡ m + 10 → IsTrue (in_odd s)
odd_by m s h k e = grind arith

pair_shadow : (m s : ℕ) → IsPair m s → Of shadow s
pair_shadow m s (plain h k e) = odd_shadow s (odd_by m s h k e)
pair_shadow m s (stack h e) = subst (Of shadow) (sym e) refl
pair_shadow m s (link h e) = subst (Of shadow) (sym e) refl

serve_other : (i : Instr) → is_jump i ≡ true → i ≡ Syscall → ⊥
serve_other i j e = no_truth (sym (ap (λ (k : Instr). is_jump k) e) ∙ j)

-- the two sides of a test that both runs pass
number_same : (a b : ℕ) → (a == b) ≡ true → a ≡ b
number_same a b h = grind arith

test_same : (K : ℕ → Type 0) (a l : List ℕ) (x y q : ℕ) → SameKept K a l → (get_or a x 0 == get_or a y 0) ≡ true → (get_or l x 0 == get_or l y 0) ≡ true → K x ⊎ K y → (q ≡ x) ⊎ (q ≡ y) → get_or a q 0 ≡ get_or l q 0
test_same K a l x y q k c d (inl w) (inl e) = k.same q (subst K (sym e) w)
test_same K a l x y q k c d (inr w) (inr e) = k.same q (subst K (sym e) w)
test_same K a l x y q k c d (inl w) (inr e) = subst (λ (p : ℕ). get_or a p 0 ≡ get_or l p 0) (sym e) (sym (number_same _ _ c) ∙ (k.same x w ∙ number_same _ _ d))
test_same K a l x y q k c d (inr w) (inl e) = subst (λ (p : ℕ). get_or a p 0 ≡ get_or l p 0) (sym e) (number_same _ _ c ∙ (k.same y w ∙ sym (number_same _ _ d)))

same_left : (x y n x' y' n' : ℕ) → Beq x y n ≡ Beq x' y' n' → x ≡ x'
same_left x y n x' y' n' h = search (rules, h)

same_right : (x y n x' y' n' : ℕ) → Beq x y n ≡ Beq x' y' n' → y ≡ y'
same_right x y n x' y' n' h = search (rules, h)

beq_bne : (x y n x' y' n' : ℕ) → Bne x y n ≡ Beq x' y' n' → ⊥
beq_bne x y n x' y' n' h = search (rules, h)

jr_beq : (r x y n : ℕ) → Jr r ≡ Beq x y n → ⊥
jr_beq r x y n h = search (rules, h)

j_beq : (r x y n : ℕ) → J r ≡ Beq x y n → ⊥
j_beq r x y n h = search (rules, h)

jal_beq : (r x y n : ℕ) → Jal r ≡ Beq x y n → ⊥
jal_beq r x y n h = search (rules, h)

sw_beq : (r s t x y n : ℕ) → Sw r s t ≡ Beq x y n → ⊥
sw_beq r s t x y n h = search (rules, h)

syscall_beq : (x y n : ℕ) → Syscall ≡ Beq x y n → ⊥
syscall_beq x y n h = search (rules, h)

sw_syscall : (r s t : ℕ) → Sw r s t ≡ Syscall → ⊥
sw_syscall r s t h = search (rules, h)

j_break : (r c : ℕ) → J r ≡ Break c → ⊥
j_break r c h = search (rules, h)

jal_break : (r c : ℕ) → Jal r ≡ Break c → ⊥
jal_break r c h = search (rules, h)

beq_break : (x y n c : ℕ) → Beq x y n ≡ Break c → ⊥
beq_break x y n c h = search (rules, h)

bne_break : (x y n c : ℕ) → Bne x y n ≡ Break c → ⊥
bne_break x y n c h = search (rules, h)

sw_break : (x y n c : ℕ) → Sw x y n ≡ Break c → ⊥
sw_break x y n c h = search (rules, h)

syscall_break : (c : ℕ) → Syscall ≡ Break c → ⊥
syscall_break c h = search (rules, h)

jr_break : (r c : ℕ) → Jr r ≡ Break c → ⊥
jr_break r c h = search (rules, h)

four_zero : (n : ℕ) → n ≡ 4 → n ≡ 0 → ⊥
four_zero n h k = omega arith

module _ (text : List ℕ) (entry : ℕ) (fits : IsText text) (rules_hold : WellTyped text entry) (W : Role) where
  abbrev K : ℕ → ℕ → Type 0
  K a q = Keeps text entry W a q

  abbrev H : ℕ → Type 0
  H a = Halves text entry W a

  abbrev SortAt : State → Instr → Type 0
  SortAt s i = Sort (λ q. K s.pc q) (λ q. K s.npc q) (H s.pc) (H s.npc) (Held W) s i

  -- what is kept behind a word that is no check was kept before it or is written by it
  after_alike : (a b : ℕ) (i : Instr) → At text a i → ((x y : ℕ) → CheckAt text a x y → ⊥) → Edge text entry a b → (q : ℕ) → K b q → K a q ⊎ Among q (writes_of i)
  after_alike a b i h nc e q k = elim (came text entry fits rules_hold W a b q e k) as (λ z. K a q ⊎ Among q (writes_of i)) [
    | came_zero z ↦ inl (zero_kept z)
    | came_other X o d ↦ inl (other X o d)
    | came_check x y c m ↦ absurd (nc x y c)
    | came_held g w ↦ inl (guard g)
    | came_given z g ↦ elim g as (λ w. K a q ⊎ Among q (writes_of i)) [
      | inl w ↦ inr (subst (λ (p : ℕ). Among p (writes_of i)) (sym z) (to_among 2 (writes_of i) (subst (λ (j : Instr). IsTrue (among 2 (writes_of j))) (same_instr text a w.instr i w.at h) w.writes)))
      | inr w ↦ inl (due z (first w.c w.input w.at))
    ]
  ]

  products_alike : (a b : ℕ) (i : Instr) → At text a i → Edge text entry a b → H b → H a ⊎ (is_product i ≡ true)
  products_alike a b i h e q = let p : Producing text entry fits rules_hold W a = producing text entry fits rules_hold W a b e q in inr (subst (λ (j : Instr). is_product j ≡ true) (same_instr text a p.instr i p.at h) p.product.product)

  -- behind a word that is no product nothing is kept of HI and LO
  products_none : (a b : ℕ) (i : Instr) → At text a i → is_product i ≡ false → Edge text entry a b → H b → H a
  products_none a b i h n e q = elim (products_alike a b i h e q) as (λ z. H a) [ inl x ↦ x | inr x ↦ absurd (no_truth (sym n ∙ x)) ]

  -- where a word writes registers of the wrong stream alone
  after_wrong : (a b : ℕ) (i : Instr) → At text a i → ((x y : ℕ) → CheckAt text a x y → ⊥) → ((x : ℕ) → writes_of i ≡ x ∷ [] → (x ≡ 0) ⊎ Of W x) → (IsTrue (among 2 (writes_of i)) → ⊥) → Edge text entry a b → (q : ℕ) → K b q → K a q × ((x : ℕ) → writes_of i ≡ x ∷ [] → (x ≡ 0) ⊎ (q ≢ x))
  after_wrong a b i h nc f n2 e q k =
      let off : ((x : ℕ) → Of W x → q ≢ x) → (x : ℕ) → writes_of i ≡ x ∷ [] → (x ≡ 0) ⊎ (q ≢ x) = λ g x w. elim (f x w) as (λ z. (x ≡ 0) ⊎ (q ≢ x)) [ inl z ↦ inl z | inr o ↦ inr (g x o) ] in
      elim (came text entry fits rules_hold W a b q e k) as (λ z. K a q × ((x : ℕ) → writes_of i ≡ x ∷ [] → (x ≡ 0) ⊎ (q ≢ x))) [
        | came_zero z ↦ (zero_kept z, off (λ x o u. zero_free W (subst (Of W) (sym u ∙ z) o)))
        | came_other X o d ↦ (other X o d, off (λ x p u. d (one_role X W q o (subst (Of W) (sym u) p))))
        | came_check x y c m ↦ absurd (nc x y c)
        | came_held g w ↦ (guard g, λ x u. inr (λ v. w (record { instr = i; at = h; writes = listed q (x ∷ []) (writes_of i) (sym u) (alone q x v) })))
        | came_given z g ↦ elim g as (λ w. K a q × ((x : ℕ) → writes_of i ≡ x ∷ [] → (x ≡ 0) ⊎ (q ≢ x))) [
          | inl w ↦ absurd (n2 (subst (λ (j : Instr). IsTrue (among 2 (writes_of j))) (same_instr text a w.instr i w.at h) w.writes))
          | inr w ↦ (due z (first w.c w.input w.at), off (λ x o u. two_free W (subst (Of W) (sym u ∙ z) o)))
        ]
      ]

  -- and reads registers of the wrong stream alone, or none
  products_wrong : (a b : ℕ) (i : Instr) → At text a i → ((r : ℕ) → IsTrue (among r (reads_of i)) → (r ≡ 0) ⊎ ((r ≡ 2) ⊎ Of W r)) → Edge text entry a b → H b → H a × (writes_of i ≡ [] → ⊥)
  products_wrong a b i h f e q =
      let p : Producing text entry fits rules_hold W a = producing text entry fits rules_hold W a b e q in
      let o : IsProductOf p.stream i = subst (IsProductOf p.stream) (same_instr text a p.instr i p.at h) p.product in
      absurd (elim (f o.some o.reads_some) as (λ z. ⊥) [
        | inl z ↦ zero_free p.stream (subst (Of p.stream) z o.of_stream)
        | inr (inl z) ↦ two_free p.stream (subst (Of p.stream) z o.of_stream)
        | inr (inr z) ↦ p.right (one_role p.stream W o.some o.of_stream z)
      ])

  -- the edge of a data row
  data_edge : (s : State) (i : Instr) → Ready text entry s i → is_data i ≡ true → Edge text entry s.pc s.npc
  data_edge s i r d = r.edge (λ code e. no_truth (sym (ap (λ (j : Instr). is_data j) e) ∙ d))

  no_check : (s : State) (i : Instr) → At text s.pc i → is_data i ≡ true → (x y : ℕ) → CheckAt text s.pc x y → ⊥
  no_check s i h d x y c = beq_data x y 2 i d (same_instr text s.pc i (Beq x y 2) h c.compares)

  -- a load or a store of a right register is at a place that is kept, and one of a wrong register is not
  moved_at : (s : State) (i : Instr) → Ready text entry s i → (j : Instr) → i ≡ j → At s.text s.pc j
  moved_at s i r j e = subst (λ (l : List ℕ). At l s.pc j) (sym r.same) (subst (λ (k : Instr). At text s.pc k) e r.at)

  load_low : (s : State) (i : Instr) → Ready text entry s i → (rt rs imm : ℕ) → i ≡ Lw rt rs imm → 0x10010000 ≤ plus (reg s rs) (extended imm)
  load_low s i r rt rs imm e = calm_load s rt (plus (reg s rs) (extended imm)) (subst (λ (k : Instr). IsCalm (perform (act k s) s)) e r.calm)

  store_low : (s : State) (i : Instr) → Ready text entry s i → (rt rs imm : ℕ) → i ≡ Sw rt rs imm → 0x10010000 ≤ plus (reg s rs) (extended imm)
  store_low s i r rt rs imm e = calm_store s (plus (reg s rs) (extended imm)) (reg s rt) (subst (λ (k : Instr). IsCalm (perform (act k s) s)) e r.calm)

  uses_loaded : (i : Instr) (rt rs imm : ℕ) → i ≡ Lw rt rs imm → IsTrue (among rt (used_of i))
  uses_loaded i rt rs imm e = subst (λ (k : Instr). IsTrue (among rt (used_of k))) (sym e) (from_among rt (rt ∷ rs ∷ []) (inl refl))

  loads_kept : (s : State) (i : Instr) → Ready text entry s i → (X : Role) → (X ≡ W → ⊥) → ((r : ℕ) → IsTrue (among r (used_of i)) → (r ≡ 0) ⊎ ((r ≡ 2) ⊎ Of X r)) → (rt rs imm : ℕ) → i ≡ Lw rt rs imm → Held W (place (plus (reg s rs) (extended imm)))
  loads_kept s i r X d f rt rs imm e =
      let a : ℕ = plus (reg s rs) (extended imm) in
      let u : (rt ≡ 0) ⊎ ((rt ≡ 2) ⊎ Of X rt) = f rt (uses_loaded i rt rs imm e) in
      elim (half_or (in_even rt) (in_odd rt) ((rules_hold s.pc).held rt rs imm (inl (subst (λ (k : Instr). At text s.pc k) e r.at)))) as (λ z. Held W (place a)) [
        | inl h ↦ held_even W (place a) (λ z. d (same_stream master X rt (even_master rt h) u ∙ z)) (even_place a (load_low s i r rt rs imm e) (r.placed.even rt rs imm (inl (moved_at s i r (Lw rt rs imm) e)) h))
        | inr h ↦ held_odd W (place a) (λ z. d (same_stream shadow X rt (odd_shadow rt h) u ∙ z)) (odd_place a (load_low s i r rt rs imm e) (r.placed.odd rt rs imm (inl (moved_at s i r (Lw rt rs imm) e)) h))
      ]

  -- a data row that uses registers of one stream, and not register 2
  right_word : (s : State) (i : Instr) → Ready text entry s i → is_data i ≡ true → (X : Role) → (X ≡ W → ⊥) → ((r : ℕ) → IsTrue (among r (used_of i)) → (r ≡ 0) ⊎ ((r ≡ 2) ⊎ Of X r)) → (IsTrue (among 2 (used_of i)) → ⊥) → (is_move i ≡ true → H s.pc) → SortAt s i
  right_word s i r d X n f n2 m = alike (record {
    loads = loads_by (Held W) i s (act i s) (reaches i s) (loads_kept s i r X n f);
    reads = all_of (λ q. K s.pc q) (reads_of i) (λ q h. elim (f q (among_reads i q h)) as (λ z. K s.pc q) [ inl z ↦ zero_kept z | inr (inl z) ↦ absurd (n2 (subst (λ (p : ℕ). IsTrue (among p (used_of i))) z (among_reads i q h))) | inr (inr z) ↦ other X z n ]);
    halves = m;
    after = after_alike s.pc s.npc i r.at (no_check s i r.at d) (data_edge s i r d);
    products = products_alike s.pc s.npc i r.at (data_edge s i r d);
  })

  wrong_word : (s : State) (i : Instr) → Ready text entry s i → is_data i ≡ true → ((x : ℕ) → writes_of i ≡ x ∷ [] → (x ≡ 0) ⊎ Of W x) → (IsTrue (among 2 (writes_of i)) → ⊥) → ((r : ℕ) → IsTrue (among r (reads_of i)) → (r ≡ 0) ⊎ ((r ≡ 2) ⊎ Of W r)) → SortAt s i
  wrong_word s i r d f n2 g = wrong (record {
    data_row = d;
    after = after_wrong s.pc s.npc i r.at (no_check s i r.at d) f n2 (data_edge s i r d);
    products = products_wrong s.pc s.npc i r.at g (data_edge s i r d);
  })

  written_here : (i : Instr) (x : ℕ) → writes_of i ≡ x ∷ [] → IsTrue (among x (used_of i))
  written_here i x e = among_writes i x (listed x (x ∷ []) (writes_of i) (sym e) (alone x x refl))

  own_word : (s : State) (i : Instr) → Ready text entry s i → is_data i ≡ true → ((r : ℕ) → IsTrue (among r (used_of i)) → (r ≡ 0) ⊎ ((r ≡ 2) ⊎ Of W r)) → (IsTrue (among 2 (used_of i)) → ⊥) → SortAt s i
  own_word s i r d f n2 = wrong_word s i r d
      (λ x e. elim (f x (written_here i x e)) as (λ z. (x ≡ 0) ⊎ Of W x) [ inl z ↦ inl z | inr (inl z) ↦ absurd (n2 (subst (λ (p : ℕ). IsTrue (among p (used_of i))) z (written_here i x e))) | inr (inr z) ↦ inr z ])
      (λ h. n2 (among_writes i 2 h))
      (λ q h. f q (among_reads i q h))

  -- a mfhi or mflo of a right stream
  moved_word : (s : State) (i : Instr) → Ready text entry s i → is_data i ≡ true → (X : Role) → (X ≡ W → ⊥) → ((r : ℕ) → IsTrue (among r (used_of i)) → (r ≡ 0) ⊎ ((r ≡ 2) ⊎ Of X r)) → (IsTrue (among 2 (used_of i)) → ⊥) → (rd : ℕ) → (i ≡ Mfhi rd) ⊎ (i ≡ Mflo rd) → (rd ≡ 0) ⊎ FromOwn text entry s.pc rd → SortAt s i
  moved_word s i r d X n f n2 rd m (inl z) = wrong_word s i r d
      (λ x e. inl (head_same x rd (sym e ∙ move_writes i rd m) ∙ z))
      (λ h. n2 (among_writes i 2 h))
      (λ q h. absurd (no_truth (listed q (reads_of i) [] (move_reads i rd m) h)))
  moved_word s i r d X n f n2 rd m (inr (inl o)) = right_word s i r d X n f n2 (λ w. inl (o.1, λ e. n (same_stream master X rd o.0 (f rd (written_here i rd (move_writes i rd m))) ∙ e)))
  moved_word s i r d X n f n2 rd m (inr (inr o)) = right_word s i r d X n f n2 (λ w. inr (o.1, λ e. n (same_stream shadow X rd o.0 (f rd (written_here i rd (move_writes i rd m))) ∙ e)))

  moves_at : (a : ℕ) (i : Instr) → At text a i → (rd : ℕ) → (i ≡ Mfhi rd) ⊎ (i ≡ Mflo rd) → At text a (Mfhi rd) ⊎ At text a (Mflo rd)
  moves_at a i h rd (inl e) = inl (subst (λ (k : Instr). At text a k) e h)
  moves_at a i h rd (inr e) = inr (subst (λ (k : Instr). At text a k) e h)

  stream_by : (s : State) (i : Instr) → Ready text entry s i → is_data i ≡ true → (o : OneStream i) → (IsTrue (among 2 (used_of i)) → ⊥) → (o.stream ≡ W → ⊥) → (z : Bool) → is_move i ≡ z → SortAt s i
  stream_by s i r d o n2 n true e = let m : (rd : ℕ) × ((i ≡ Mfhi rd) ⊎ (i ≡ Mflo rd)) = move_of i e in moved_word s i r d o.stream n o.all n2 m.0 m.1 ((rules_hold s.pc).stream.halves m.0 (moves_at s.pc i r.at m.0 m.1))
  stream_by s i r d o n2 n false e = right_word s i r d o.stream n o.all n2 (λ h. absurd (no_truth (sym e ∙ h)))

  stream_sort : (s : State) (i : Instr) → Ready text entry s i → is_data i ≡ true → OneStream i → (IsTrue (among 2 (used_of i)) → ⊥) → SortAt s i
  stream_sort s i r d o n2 = elim (role_or o.stream W) as (λ z. SortAt s i) [
    | inl e ↦ own_word s i r d (λ q h. subst (λ (X : Role). (q ≡ 0) ⊎ ((q ≡ 2) ⊎ Of X q)) e (o.all q h)) n2
    | inr n ↦ stream_by s i r d o n2 n (is_move i) refl
  ]

  -- words of the forms of services
  ori_sort : (s : State) (n : ℕ) → Ready text entry s (Ori 2 0 n) → SortAt s (Ori 2 0 n)
  ori_sort s n r = alike (record {
    loads = tt;
    reads = (zero_kept refl, tt);
    halves = λ m. absurd (no_truth m);
    after = after_alike s.pc s.npc (Ori 2 0 n) r.at (no_check s (Ori 2 0 n) r.at refl) (data_edge s (Ori 2 0 n) r refl);
    products = products_alike s.pc s.npc (Ori 2 0 n) r.at (data_edge s (Ori 2 0 n) r refl);
  })

  addu_sort : (s : State) (x : ℕ) → Ready text entry s (Addu x 2 0) → K s.pc 2 → SortAt s (Addu x 2 0)
  addu_sort s x r k = alike (record {
    loads = tt;
    reads = (k, (zero_kept refl, tt));
    halves = λ m. absurd (no_truth m);
    after = after_alike s.pc s.npc (Addu x 2 0) r.at (no_check s (Addu x 2 0) r.at refl) (data_edge s (Addu x 2 0) r refl);
    products = products_alike s.pc s.npc (Addu x 2 0) r.at (data_edge s (Addu x 2 0) r refl);
  })

  second_sort : (s : State) (c : ℕ) (o : InputAt text c) → s.pc ≡ c + 12 → Ready text entry s (Addu o.s 2 0) → (W ≡ shadow) ⊎ (W ≡ shadow → ⊥) → SortAt s (Addu o.s 2 0)
  second_sort s c o e r (inr n) = addu_sort s o.s r (due refl (second c o e n))
  second_sort s c o e r (inl w) = wrong_word s (Addu o.s 2 0) r refl
      (λ x h. inr (subst (λ (X : Role). Of X x) (sym w) (subst (Of shadow) (head_same o.s x h) (pair_shadow o.m o.s o.pair))))
      (λ h. two_free shadow (subst (Of shadow) (sym (only_one 2 o.s h)) (pair_shadow o.m o.s o.pair)))
      (λ q h. elim (to_among q (2 ∷ 0 ∷ []) h) as (λ z. (q ≡ 0) ⊎ ((q ≡ 2) ⊎ Of W q)) [ inl z ↦ inr (inl z) | inr (inl z) ↦ inl z | inr (inr z) ↦ absurd z ])

  -- at an instruction that stands there
  at_instr : (s : State) (i : Instr) → Ready text entry s i → (b : ℕ) (j : Instr) → s.pc ≡ b → At text b j → (Ready text entry s j → SortAt s j) → SortAt s i
  at_instr s i r b j e h f =
      let x : j ≡ i = same_instr text s.pc j i (subst (λ (a : ℕ). At text a j) (sym e) h) r.at in
      subst (λ (k : Instr). SortAt s k) x (f (subst (λ (k : Instr). Ready text entry s k) (sym x) r))

  not_data : (s : State) (i : Instr) → Ready text entry s i → is_data i ≡ true → (b : ℕ) (j : Instr) → s.pc ≡ b → At text b j → is_data j ≡ false → SortAt s i
  not_data s i r d b j e h n = absurd (no_truth (sym n ∙ (ap (λ (k : Instr). is_data k) (same_instr text s.pc j i (subst (λ (a : ℕ). At text a j) (sym e) h) r.at) ∙ d)))

  no_more : (c : ℕ) → c + 4 * 0 ≡ c
  no_more c = omega arith

  word_here : (b c k n : ℕ) → b ≡ c + 4 * k → k ≡ n → b ≡ c + 4 * n
  word_here b c k n e h = word_at text entry fits rules_hold b c k n e h

  form_sort : (s : State) (i : Instr) → Ready text entry s i → is_data i ≡ true → (k : ℕ) → WordOf text s.pc k → SortAt s i
  form_sort s i r d k (output c o h e) = elim (third k h) as (λ z. SortAt s i) [
    | inl x ↦ not_data s i r d c (Beq 4 14 2) (word_here s.pc c k 0 e x ∙ no_more c) o.compares refl
    | inr (inl x) ↦ at_instr s i r (c + 4) (Ori 2 0 1) (word_here s.pc c k 1 e x) o.chooses (ori_sort s 1)
    | inr (inr (inl x)) ↦ not_data s i r d (c + 8) (Break 1) (word_here s.pc c k 2 e x) o.reports refl
    | inr (inr (inr x)) ↦ not_data s i r d (c + 12) Syscall (word_here s.pc c k 3 e x) o.serves refl
  ]
  form_sort s i r d k (exit c o h e) = elim (fourth k h) as (λ z. SortAt s i) [
    | inl x ↦ not_data s i r d c (Beq 4 14 2) (word_here s.pc c k 0 e x ∙ no_more c) o.compares refl
    | inr (inl x) ↦ at_instr s i r (c + 4) (Ori 2 0 17) (word_here s.pc c k 1 e x) o.chooses (ori_sort s 17)
    | inr (inr (inl x)) ↦ not_data s i r d (c + 8) (Break 1) (word_here s.pc c k 2 e x) o.reports refl
    | inr (inr (inr (inl x))) ↦ not_data s i r d (c + 12) Syscall (word_here s.pc c k 3 e x) o.serves refl
    | inr (inr (inr (inr x))) ↦ not_data s i r d (c + 16) (Break 1) (word_here s.pc c k 4 e x) o.stops refl
  ]
  form_sort s i r d k (input c o h e) = elim (third k h) as (λ z. SortAt s i) [
    | inl x ↦ at_instr s i r c (Ori 2 0 5) (word_here s.pc c k 0 e x ∙ no_more c) o.chooses (ori_sort s 5)
    | inr (inl x) ↦ not_data s i r d (c + 4) Syscall (word_here s.pc c k 1 e x) o.serves refl
    | inr (inr (inl x)) ↦ at_instr s i r (c + 8) (Addu o.m 2 0) (word_here s.pc c k 2 e x) o.first (λ q. addu_sort s o.m q (due refl (first c o (word_here s.pc c k 2 e x))))
    | inr (inr (inr x)) ↦ at_instr s i r (c + 12) (Addu o.s 2 0) (word_here s.pc c k 3 e x) o.second (λ q. second_sort s c o (word_here s.pc c k 3 e x) q (role_or W shadow))
  ]

  data_by : (s : State) (i : Instr) → Ready text entry s i → is_data i ≡ true → (z : Bool) → among 2 (used_of i) ≡ z → SortAt s i
  data_by s i r d true e = let w : (k : ℕ) × WordOf text s.pc k = (rules_hold s.pc).forms.serves (record { instr = i; at = r.at; uses = e }) in form_sort s i r d w.0 w.1
  data_by s i r d false e = elim ((rules_hold s.pc).stream.one i r.at) as (λ z. SortAt s i) [
    | inl c ↦ absurd (no_check s i r.at d c.x c.y c.check)
    | inr (inl h) ↦ stream_sort s i r d (head_signs text entry s.pc i r.at h) (λ h. no_truth (sym e ∙ h))
    | inr (inr o) ↦ stream_sort s i r d o (λ h. no_truth (sym e ∙ h))
  ]

  -- what is read in a critical way is kept
  taking_serves : (a : ℕ) → IsTaking text a → At text a Syscall
  taking_serves a t = subst (λ (x : ℕ). At text x Syscall) (sym t.at) t.input.serves

  critical_kept : (a : ℕ) (i : Instr) → At text a i → (i ≡ Syscall → ⊥) → (q : ℕ) → Critical text a q → K a q
  critical_kept a i h n q c = elim ((rules_hold a).checked q c) as (λ z. K a q) [
    | inl z ↦ zero_kept z
    | inr (inl g) ↦ guard g
    | inr (inr t) ↦ absurd (n (same_instr text a i Syscall h (taking_serves a t)))
  ]

  -- the rows that are no data rows
  jr_sort : (s : State) (rs : ℕ) → Ready text entry s (Jr rs) → SortAt s (Jr rs)
  jr_sort s rs r =
      let g : Edge text entry s.pc s.npc = r.edge (λ code e. jr_break rs code e) in
      alike (record {
        loads = tt;
        reads = (critical_kept s.pc (Jr rs) r.at (serve_other (Jr rs) refl) rs (target r.at), tt);
        halves = λ m. absurd (no_truth m);
        after = after_alike s.pc s.npc (Jr rs) r.at (λ x y c. jr_beq rs x y 2 (same_instr text s.pc (Jr rs) (Beq x y 2) r.at c.compares)) g;
        products = products_alike s.pc s.npc (Jr rs) r.at g;
      })

  j_sort : (s : State) (t : ℕ) → Ready text entry s (J t) → SortAt s (J t)
  j_sort s t r =
      let g : Edge text entry s.pc s.npc = r.edge (λ code e. j_break t code e) in
      alike (record {
        loads = tt;
        reads = tt;
        halves = λ m. absurd (no_truth m);
        after = after_alike s.pc s.npc (J t) r.at (λ x y c. j_beq t x y 2 (same_instr text s.pc (J t) (Beq x y 2) r.at c.compares)) g;
        products = products_alike s.pc s.npc (J t) r.at g;
      })

  jal_sort : (s : State) (t : ℕ) → Ready text entry s (Jal t) → SortAt s (Jal t)
  jal_sort s t r =
      let g : Edge text entry s.pc s.npc = r.edge (λ code e. jal_break t code e) in
      alike (record {
        loads = tt;
        reads = tt;
        halves = λ m. absurd (no_truth m);
        after = after_alike s.pc s.npc (Jal t) r.at (λ x y c. jal_beq t x y 2 (same_instr text s.pc (Jal t) (Beq x y 2) r.at c.compares)) g;
        products = products_alike s.pc s.npc (Jal t) r.at g;
      })

  no_loads : (i : Instr) (s : State) → is_data i ≡ false → LoadsKept (Held W) (act i s)
  no_loads i s d = loads_by (Held W) i s (act i s) (reaches i s) (λ rt rs imm e. absurd (lw_data i rt rs imm d e))

  -- a branch that skips no report
  branch_at : (a : ℕ) (x y n : ℕ) (i : Instr) → At text a i → (i ≡ Beq x y n) ⊎ (i ≡ Bne x y n) → BranchAt text a x y n
  branch_at a x y n i h e = record { instr = i; at = h; is = e }

  operands : (a x y n : ℕ) (i : Instr) → At text a i → (i ≡ Beq x y n) ⊎ (i ≡ Bne x y n) → (i ≡ Syscall → ⊥) → (SkipsReport text a → ⊥) → K a x × K a y
  operands a x y n i h e v m = (critical_kept a i h v x (operand x y n (branch_at a x y n i h e) m (inl refl)), critical_kept a i h v y (operand x y n (branch_at a x y n i h e) m (inr refl)))

  check_skips : (a x y : ℕ) → CheckAt text a x y → SkipsReport text a
  check_skips a x y c = inl (record { x = x; y = y; branch = record { instr = Beq x y 2; at = c.compares; is = inl refl }; stop = c.report })

  plain_beq : (s : State) (x y n : ℕ) → Ready text entry s (Beq x y n) → (SkipsReport text s.pc → ⊥) → SortAt s (Beq x y n)
  plain_beq s x y n r m =
      let g : Edge text entry s.pc s.npc = r.edge (λ code e. beq_break x y n code e) in
      let o : K s.pc x × K s.pc y = operands s.pc x y n (Beq x y n) r.at (inl refl) (serve_other (Beq x y n) refl) m in
      alike (record {
        loads = no_loads (Beq x y n) s refl;
        reads = (o.0, (o.1, tt));
        halves = λ m. absurd (no_truth m);
        after = after_alike s.pc s.npc (Beq x y n) r.at (λ p q c. m (check_skips s.pc p q c)) g;
        products = products_alike s.pc s.npc (Beq x y n) r.at g;
      })

  plain_bne : (s : State) (x y n : ℕ) → Ready text entry s (Bne x y n) → (SkipsReport text s.pc → ⊥) → SortAt s (Bne x y n)
  plain_bne s x y n r m =
      let g : Edge text entry s.pc s.npc = r.edge (λ code e. bne_break x y n code e) in
      let o : K s.pc x × K s.pc y = operands s.pc x y n (Bne x y n) r.at (inr refl) (serve_other (Bne x y n) refl) m in
      alike (record {
        loads = no_loads (Bne x y n) s refl;
        reads = (o.0, (o.1, tt));
        halves = λ m. absurd (no_truth m);
        after = after_alike s.pc s.npc (Bne x y n) r.at (λ p q c. m (check_skips s.pc p q c)) g;
        products = products_alike s.pc s.npc (Bne x y n) r.at g;
      })

  -- the two words behind a branch that skips a report
  behind_here : (s : State) (i : Instr) → Ready text entry s i → is_jump i ≡ true → SkipsReport text s.pc → Behind s.text s.npc (plus s.npc 4)
  behind_here s i r j k =
      let t : InText text s.pc = in_text text s.pc i r.at in
      let e : plus s.npc 4 ≡ s.pc + 8 = ap (λ (x : ℕ). plus x 4) (r.straight j ∙ sym (plus_four text s.pc fits t)) ∙ plus_eight text s.pc fits t in
      subst (λ (l : List ℕ). Behind l s.npc (plus s.npc 4)) (sym r.same)
      (subst (λ (x : ℕ). Behind text s.npc x) (sym e) (subst (λ (x : ℕ). Behind text x (s.pc + 8)) (sym (r.straight j)) (behind_at text entry rules_hold s.pc k)))

  -- one register of a check is of a right stream
  right_of_two : (X Y : Role) (x y a : ℕ) → Of X x → Of Y y → (X ≡ Y → ⊥) → (X ≡ W) ⊎ (X ≡ W → ⊥) → K a x ⊎ K a y
  right_of_two X Y x y a o p n (inl e) = inr (other Y p (λ z. n (e ∙ sym z)))
  right_of_two X Y x y a o p n (inr m) = inl (other X o m)

  apart_streams : master ≡ shadow → ⊥
  apart_streams h = search (rules, h)

  check_right : (a x y : ℕ) → CheckAt text a x y → K a x ⊎ K a y
  check_right a x y c = elim c.streams as (λ z. K a x ⊎ K a y) [
    | inl o ↦ right_of_two master shadow x y a o.0 o.1 apart_streams (role_or master W)
    | inr o ↦ right_of_two shadow master x y a o.0 o.1 (λ h. apart_streams (sym h)) (role_or shadow W)
  ]

  no_writes : (A : Type 0) (a : ℕ) (i : Instr) → At text a i → writes_of i ≡ [] → Given text W a → ((c : ℕ) → InputAt text c → a ≡ c + 8 → A) → A
  no_writes A a i h e (inl w) f = absurd (no_truth (listed 2 (writes_of i) [] e (subst (λ (j : Instr). IsTrue (among 2 (writes_of j))) (same_instr text a w.instr i w.at h) w.writes)))
  no_writes A a i h e (inr w) f = f w.c w.input w.at

  beq_after : (s : State) (x y : ℕ) → Ready text entry s (Beq x y 2) → Edge text entry s.pc s.npc → (l : List ℕ) (h g : ℕ) (mem : List ℕ) → SameKept (λ q. K s.pc q) s.regs l → (reg s x == reg s y) ≡ true → (reg (with_parts s l h g mem) x == reg (with_parts s l h g mem) y) ≡ true → (q : ℕ) → K s.npc q → get_or s.regs q 0 ≡ get_or l q 0
  beq_after s x y r e l h g mem k t u q m = elim (came text entry fits rules_hold W s.pc s.npc q e m) as (λ z. get_or s.regs q 0 ≡ get_or l q 0) [
    | came_zero z ↦ k.same q (zero_kept z)
    | came_other X o d ↦ k.same q (other X o d)
    | came_check p n c w ↦
        let b : Beq p n 2 ≡ Beq x y 2 = same_instr text s.pc (Beq p n 2) (Beq x y 2) c.compares r.at in
        let i : p ≡ x = same_left p n 2 x y 2 b in
        let j : n ≡ y = same_right p n 2 x y 2 b in
        test_same (λ v. K s.pc v) s.regs l x y q k t u
        (subst (λ (v : ℕ). K s.pc v ⊎ K s.pc y) i (subst (λ (v : ℕ). K s.pc p ⊎ K s.pc v) j (check_right s.pc p n c)))
        (subst (λ (v : ℕ). (q ≡ v) ⊎ (q ≡ y)) i (subst (λ (v : ℕ). (q ≡ p) ⊎ (q ≡ v)) j w))
    | came_held w n ↦ k.same q (guard w)
    | came_given z w ↦ no_writes (get_or s.regs q 0 ≡ get_or l q 0) s.pc (Beq x y 2) r.at refl w (λ c o v. k.same q (due z (first c o v)))
  ]

  bne_kept : (s : State) (x y : ℕ) → Ready text entry s (Bne x y 2) → Edge text entry s.pc s.npc → (q : ℕ) → K s.npc q → K s.pc q
  bne_kept s x y r e q m = elim (came text entry fits rules_hold W s.pc s.npc q e m) as (λ z. K s.pc q) [
    | came_zero z ↦ zero_kept z
    | came_other X o d ↦ other X o d
    | came_check p n c w ↦ absurd (beq_bne x y 2 p n 2 (same_instr text s.pc (Bne x y 2) (Beq p n 2) r.at c.compares))
    | came_held w n ↦ guard w
    | came_given z w ↦ no_writes (K s.pc q) s.pc (Bne x y 2) r.at refl w (λ c o v. due z (first c o v))
  ]

  skip_beq : (s : State) (x y : ℕ) → Ready text entry s (Beq x y 2) → SkipsReport text s.pc → SortAt s (Beq x y 2)
  skip_beq s x y r k =
      let g : Edge text entry s.pc s.npc = r.edge (λ code e. beq_break x y 2 code e) in
      skips (record {
        test = λ u. reg u x == reg u y;
        is = λ u. refl;
        after = beq_after s x y r g;
        products = products_none s.pc s.npc (Beq x y 2) r.at refl g;
        behind = behind_here s (Beq x y 2) r refl k;
      })

  skip_bne : (s : State) (x y : ℕ) → Ready text entry s (Bne x y 2) → SkipsReport text s.pc → SortAt s (Bne x y 2)
  skip_bne s x y r k =
      let g : Edge text entry s.pc s.npc = r.edge (λ code e. bne_break x y 2 code e) in
      skips (record {
        test = λ u. not (reg u x == reg u y);
        is = λ u. refl;
        after = λ l h g' mem t d d' q m. t.same q (bne_kept s x y r g q m);
        products = products_none s.pc s.npc (Bne x y 2) r.at refl g;
        behind = behind_here s (Bne x y 2) r refl k;
      })

  offset_two : (a x y n : ℕ) (i : Instr) → At text a i → (i ≡ Beq x y n) ⊎ (i ≡ Bne x y n) → SkipsReport text a → n ≡ 2
  offset_two a x y n i h e (inl k) = same_offset text a x y n k.x k.y 2 (branch_at a x y n i h e) k.branch
  offset_two a x y n i h e (inr k) = same_offset text a x y n k.x k.y 2 (branch_at a x y n i h e) k.branch

  beq_sort : (s : State) (x y n : ℕ) → Ready text entry s (Beq x y n) → SortAt s (Beq x y n)
  beq_sort s x y n r = elim (report_or text s.pc x y n (branch_at s.pc x y n (Beq x y n) r.at (inl refl))) as (λ z. SortAt s (Beq x y n)) [
    | inl k ↦
        let e : n ≡ 2 = offset_two s.pc x y n (Beq x y n) r.at (inl refl) k in
        subst (λ (m : ℕ). SortAt s (Beq x y m)) (sym e) (skip_beq s x y (subst (λ (m : ℕ). Ready text entry s (Beq x y m)) e r) k)
    | inr m ↦ plain_beq s x y n r m
  ]

  bne_sort : (s : State) (x y n : ℕ) → Ready text entry s (Bne x y n) → SortAt s (Bne x y n)
  bne_sort s x y n r = elim (report_or text s.pc x y n (branch_at s.pc x y n (Bne x y n) r.at (inr refl))) as (λ z. SortAt s (Bne x y n)) [
    | inl k ↦
        let e : n ≡ 2 = offset_two s.pc x y n (Bne x y n) r.at (inr refl) k in
        subst (λ (m : ℕ). SortAt s (Bne x y m)) (sym e) (skip_bne s x y (subst (λ (m : ℕ). Ready text entry s (Bne x y m)) e r) k)
    | inr m ↦ plain_bne s x y n r m
  ]

  -- a store
  sw_after : (s : State) (rt rs imm : ℕ) → Ready text entry s (Sw rt rs imm) → (q : ℕ) → K s.npc q → K s.pc q ⊎ Among q []
  sw_after s rt rs imm r q k = after_alike s.pc s.npc (Sw rt rs imm) r.at (λ x y c. sw_beq rt rs imm x y 2 (same_instr text s.pc (Sw rt rs imm) (Beq x y 2) r.at c.compares)) (r.edge (λ code e. sw_break rt rs imm code e)) q k

  aside_sort : (s : State) (rt rs imm : ℕ) → Ready text entry s (Sw rt rs imm) → (Held W (place (plus (reg s rs) (extended imm))) → ⊥) → SortAt s (Sw rt rs imm)
  aside_sort s rt rs imm r f = aside (record {
    rt = rt;
    rs = rs;
    imm = imm;
    is = refl;
    base = critical_kept s.pc (Sw rt rs imm) r.at (sw_syscall rt rs imm) rs (base rt imm r.at);
    place_free = f;
    after = λ q k. elim (sw_after s rt rs imm r q k) as (λ z. K s.pc q) [ inl z ↦ z | inr z ↦ absurd z ];
    products = products_none s.pc s.npc (Sw rt rs imm) r.at refl (r.edge (λ code e. sw_break rt rs imm code e));
  })

  stored_sort : (s : State) (rt rs imm : ℕ) → Ready text entry s (Sw rt rs imm) → K s.pc rt → SortAt s (Sw rt rs imm)
  stored_sort s rt rs imm r k = alike (record {
    loads = tt;
    reads = (k, (critical_kept s.pc (Sw rt rs imm) r.at (sw_syscall rt rs imm) rs (base rt imm r.at), tt));
    halves = λ m. absurd (no_truth m);
    after = sw_after s rt rs imm r;
    products = products_alike s.pc s.npc (Sw rt rs imm) r.at (r.edge (λ code e. sw_break rt rs imm code e));
  })

  sw_sort : (s : State) (rt rs imm : ℕ) → Ready text entry s (Sw rt rs imm) → SortAt s (Sw rt rs imm)
  sw_sort s rt rs imm r =
      let a : ℕ = plus (reg s rs) (extended imm) in
      let low : 0x10010000 ≤ a = store_low s (Sw rt rs imm) r rt rs imm refl in
      let mv : Moves s rt rs imm = inr (moved_at s (Sw rt rs imm) r (Sw rt rs imm) refl) in
      elim (half_or (in_even rt) (in_odd rt) ((rules_hold s.pc).held rt rs imm (inr r.at))) as (λ z. SortAt s (Sw rt rs imm)) [
        | inl h ↦ elim (role_or master W) as (λ z. SortAt s (Sw rt rs imm)) [
          | inl e ↦ aside_sort s rt rs imm r (free_even W (place a) e (even_place a low (r.placed.even rt rs imm mv h)))
          | inr n ↦ stored_sort s rt rs imm r (other master (even_master rt h) n)
        ]
        | inr h ↦ elim (role_or shadow W) as (λ z. SortAt s (Sw rt rs imm)) [
          | inl e ↦ aside_sort s rt rs imm r (free_odd W (place a) e (odd_place a low (r.placed.odd rt rs imm mv h)))
          | inr n ↦ stored_sort s rt rs imm r (other shadow (odd_shadow rt h) n)
        ]
      ]

  -- a syscall
  syscall_after : (s : State) → Ready text entry s Syscall → (q : ℕ) → K s.npc q → K s.pc q ⊎ Among q (2 ∷ [])
  syscall_after s r q k = after_alike s.pc s.npc Syscall r.at (λ x y c. syscall_beq x y 2 (same_instr text s.pc Syscall (Beq x y 2) r.at c.compares)) (r.edge (λ code e. syscall_break code e)) q k

  syscall_sort : (s : State) → Ready text entry s Syscall → SortAt s Syscall
  syscall_sort s r =
      let two : K s.pc 2 = due refl (serving r.at) in
      let g : Edge text entry s.pc s.npc = r.edge (λ code e. syscall_break code e) in
      elim ((rules_hold s.pc).checked 4 (argument r.at refl)) as (λ z. SortAt s Syscall) [
        | inl z ↦ absurd (four_zero 4 refl z)
        | inr (inl z) ↦ alike (record {
          loads = tt;
          reads = (two, (guard z, tt));
          halves = λ m. absurd (no_truth m);
          after = syscall_after s r;
          products = products_alike s.pc s.npc Syscall r.at g;
        })
        | inr (inr t) ↦ takes (record {
          is = refl;
          two = two;
          five = r.five t.c t.input t.at;
          after = λ q k. elim (syscall_after s r q k) as (λ z. K s.pc q ⊎ (q ≡ 2)) [ inl z ↦ inl z | inr (inl z) ↦ inr z | inr (inr z) ↦ absurd z ];
          products = products_none s.pc s.npc Syscall r.at refl g;
        })
      ]

  -- each word
  pub sort_of : (s : State) (i : Instr) → Ready text entry s i → SortAt s i
  sort_of s (Jr rs) r = jr_sort s rs r
  sort_of s Syscall r = syscall_sort s r
  sort_of s (Break code) r = halts (record { code = code; is = refl })
  sort_of s (J t) r = j_sort s t r
  sort_of s (Jal t) r = jal_sort s t r
  sort_of s (Beq x y n) r = beq_sort s x y n r
  sort_of s (Bne x y n) r = bne_sort s x y n r
  sort_of s (Sw rt rs imm) r = sw_sort s rt rs imm r
  sort_of s i r = data_by s i r refl (among 2 (used_of i)) refl
