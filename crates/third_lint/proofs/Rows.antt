-- The sort of each word of a well typed text, where one stream is wrong.
use Rattle.std.proofs.Common.{◌≡◌, ◌≢◌, ℕ, suc, ◌+◌, ◌*◌, ◌%◌, ◌≤◌, arith, rules, ap, refl, sym, ◌∙◌, subst, List, [], ◌∷◌, false, true, Bool, inl, inr}
use Rattle.std.specs.Prelude.{◌⊎◌, ◌==◌, IsTrue}
use Rattle.hard_words.specs.Words.{extended}
use Rattle.mips_isa.specs.declared.instr.Instr.{Instr}
use Rattle.mips_isa.specs.declared.instr.Instr.TheVariants.{Jr, Syscall, Break, Mfhi, Mflo, And, Or, Addu, J, Jal, Beq, Bne, Ori, Lw, Sw}
use Rattle.mips_isa.specs.Machine.{State, reg, act, perform, plus, place, among, writes_of, reads_of, is_product, is_jump}
use Rattle.mips_isa.specs.Locality.{is_data, is_move}
use Rattle.mips_faults.specs.Beside.{LoadsKept, IsCalm}
use Rattle.mips_text.specs.Text.{IsText, At, used_of, BranchAt}
use Rattle.mips_laws.proofs.Locality.{reaches}
use Rattle.lint_lockstep.proofs.Fetch.{same_instr}
use Rattle.lint_lockstep.specs.Sorts.{Alike, Wrong, Aside, Takes, Halts, AllOf, Among}
use Rattle.third_lint.proofs.Places.{no_truth, in_text}
use Rattle.third_lint.proofs.Lists.{to_among, from_among, all_of, calm_load, calm_store, loads_by}
use Rattle.third_lint.proofs.Lists.{among_writes, among_reads, listed, alone, only_one, lw_data, move_of, move_writes, head_same}
use Rattle.third_lint.specs.Votes.{Role, A, B, C, Of, VoteAt, IsUse, base, operand, target, argument, InputAt}
use Rattle.third_lint.specs.Typing.{IsProductOf, InVote, WordOf, output, exit, input}
use Rattle.third_lint.specs.Rules.{WellTyped, OneStream, FromOwn, InInput, votes, takes, calls}
use Rattle.third_lint.specs.Theorems.{IsPlaced, offset_of}
use Rattle.third_lint.proofs.Keeps.{Keeps, zero_kept, other, voted, settled, due, serving, first, second, last, Halves, Settling, by_majority, by_copy, came_zero, came_other, came_kept, came_settled, came_given, Flow, Producing, came, producing, one_role, role_or, zero_free, one_free, two_free, three_free, triple_a, at_move, written_by, zero_one, numbers, least_word, word_one, word_two, word_three, word_four}

-- places of memory: the words of a stream stand in its lane of four
abbrev pub lane : Role → ℕ
lane A = 0
lane B = 1
lane C = 2

pub record Held (W : Role) (p : ℕ) : Type 0 where
  pub stream : Role
  pub right : stream ≡ W → ⊥
  pub stands : p % 4 ≡ lane stream

lane_a : (a : ℕ) → 0x10010000 ≤ a → a % 16 ≡ 0 → place a % 4 ≡ 0
lane_a a h k = omega arith

lane_b : (a : ℕ) → 0x10010000 ≤ a → a % 16 ≡ 4 → place a % 4 ≡ 1
lane_b a h k = omega arith

lane_c : (a : ℕ) → 0x10010000 ≤ a → a % 16 ≡ 8 → place a % 4 ≡ 2
lane_c a h k = omega arith

lane_of : (X : Role) (a : ℕ) → 0x10010000 ≤ a → a % 16 ≡ offset_of X → place a % 4 ≡ lane X
lane_of A a h k = lane_a a h k
lane_of B a h k = lane_b a h k
lane_of C a h k = lane_c a h k

no_lane : (n m : ℕ) → suc n ≡ 0 → m ≡ m → ⊥
no_lane n m h k = omega arith

lane_one : (X Y : Role) (p : ℕ) → p % 4 ≡ lane X → p % 4 ≡ lane Y → X ≡ Y
lane_one A A p h k = refl
lane_one B B p h k = refl
lane_one C C p h k = refl
lane_one A B p h k = absurd (omega arith)
lane_one A C p h k = absurd (omega arith)
lane_one B A p h k = absurd (omega arith)
lane_one B C p h k = absurd (omega arith)
lane_one C A p h k = absurd (omega arith)
lane_one C B p h k = absurd (omega arith)

pub lane_free : (X W : Role) (p : ℕ) → X ≡ W → p % 4 ≡ lane X → Held W p → ⊥
lane_free X W p e h k = k.right (lane_one k.stream X p k.stands h ∙ e)

-- what is known of a state of the clean run at a word
pub record Ready (text : List ℕ) (entry : ℕ) (s : State) (i : Instr) : Type 0 where
  pub same : s.text ≡ text
  pub at : At text s.pc i
  pub flow : ((code : ℕ) → i ≡ Break code → ⊥) → Flow text entry s.pc s.npc
  pub placed : IsPlaced s
  pub calm : IsCalm (perform (act i s) s)
  pub five : (c : ℕ) → InputAt text c → s.pc ≡ c + 4 → reg s 2 ≡ 5

-- the word that puts the majority in the first register of a vote
pub record Majority (text : List ℕ) (K L : ℕ → Type 0) (P Q : Type 0) (s : State) (i : Instr) : Type 0 where
  pub v : ℕ
  pub x : ℕ
  pub y : ℕ
  pub z : ℕ
  pub vote : VoteAt text v x y z
  pub at : s.pc ≡ v + 12
  pub is : i ≡ Or x 1 3
  pub after : (q : ℕ) → L q → K q ⊎ (q ≡ x)
  pub products : Q → P

-- the sort of the word that the first state is about to do
pub data Sort (text : List ℕ) (K L : ℕ → Type 0) (P Q : Type 0) (M : ℕ → Type 0) (s : State) (i : Instr) : Type 0 where
  alike : Alike K L P Q M s i → Sort text K L P Q M s i
  wrong : Wrong K L P Q i → Sort text K L P Q M s i
  feeds : Takes K L P Q s i → Sort text K L P Q M s i
  aside : Aside K L P Q M s i → Sort text K L P Q M s i
  halts : Halts i → Sort text K L P Q M s i
  majority : Majority text K L P Q s i → Sort text K L P Q M s i

-- a register that is kept nowhere, where W is wrong
abbrev Bad : Role → ℕ → Type 0
Bad W x = (x ≡ 0 → ⊥) × ((X : Role) → Of X x → X ≡ W)

pub no_equal : (x y : ℕ) → (x == y) ≡ false → x ≡ y → ⊥
no_equal x y h e = grind arith

one_bad : (W : Role) → Bad W 1
one_bad W = ((λ e. no_equal 1 0 refl e), λ X o. absurd (one_free X o))

three_bad : (W : Role) → Bad W 3
three_bad W = ((λ e. no_equal 3 0 refl e), λ X o. absurd (three_free X o))

own_bad : (W : Role) (x : ℕ) → Of W x → Bad W x
own_bad W x o = ((λ e. zero_free W (subst (Of W) e o)), λ X p. one_role X W x p o)

-- words that settle nothing
or_second : (d x y e p q : ℕ) → Or d x y ≡ Or e p q → x ≡ p
or_second d x y e p q h = search (rules, h)

or_addu : (d x y e p q : ℕ) → Or d x y ≡ Addu e p q → ⊥
or_addu d x y e p q h = search (rules, h)

and_or : (d x y e p q : ℕ) → And d x y ≡ Or e p q → ⊥
and_or d x y e p q h = search (rules, h)

and_addu : (d x y e p q : ℕ) → And d x y ≡ Addu e p q → ⊥
and_addu d x y e p q h = search (rules, h)

addu_or : (d x y e p q : ℕ) → Addu d x y ≡ Or e p q → ⊥
addu_or d x y e p q h = search (rules, h)

addu_second : (d x y e p q : ℕ) → Addu d x y ≡ Addu e p q → x ≡ p
addu_second d x y e p q h = search (rules, h)

and_settles : (d x y q : ℕ) → Settling (And d x y) q → ⊥
and_settles d x y q (by_majority e) = and_or d x y q 1 3 e
and_settles d x y q (by_copy p Y e o m n) = and_addu d x y q p 0 e

or_settles : (d x y q : ℕ) → Of A x → Settling (Or d x y) q → ⊥
or_settles d x y q o (by_majority e) = one_free A (subst (Of A) (or_second d x y q 1 3 e) o)
or_settles d x y q o (by_copy p Y e o' m n) = or_addu d x y q p 0 e

two_settles : (d q : ℕ) → Settling (Addu d 2 0) q → ⊥
two_settles d q (by_majority e) = addu_or d 2 0 q 1 3 e
two_settles d q (by_copy p Y e o m n) = two_free A (subst (Of A) (sym (addu_second d 2 0 q p 0 e)) o)

stream_settles : (i : Instr) (o : OneStream i) (q : ℕ) → (IsTrue (among 2 (used_of i)) → ⊥) → Settling i q → ⊥
stream_settles i o q n2 (by_majority e) = elim (o.all 1 (subst (λ (j : Instr). IsTrue (among 1 (used_of j))) (sym e) (from_among 1 (q ∷ 1 ∷ 3 ∷ []) (inr (inl refl))))) as (λ z. ⊥) [
  | inl z ↦ no_equal 1 0 refl z
  | inr (inl z) ↦ no_equal 1 2 refl z
  | inr (inr z) ↦ one_free o.stream z
]
stream_settles i o q n2 (by_copy x Y e a p n) =
    let u : (r : ℕ) → Among r (q ∷ x ∷ 0 ∷ []) → IsTrue (among r (used_of i)) = λ r m. subst (λ (j : Instr). IsTrue (among r (used_of j))) (sym e) (from_among r (q ∷ x ∷ 0 ∷ []) m) in
    let s : (r : ℕ) (X : Role) → Of X r → Among r (q ∷ x ∷ 0 ∷ []) → o.stream ≡ X = λ r X h m. elim (o.all r (u r m)) as (λ z. o.stream ≡ X) [
      | inl z ↦ absurd (zero_free X (subst (Of X) z h))
      | inr (inl z) ↦ absurd (two_free X (subst (Of X) z h))
      | inr (inr z) ↦ one_role o.stream X r z h
    ] in
    n (sym (s x A a (inr (inl refl))) ∙ s q Y p (inl refl))

-- instructions apart
beq_break : (x y n c : ℕ) → Beq x y n ≡ Break c → ⊥
beq_break x y n c h = search (rules, h)

bne_break : (x y n c : ℕ) → Bne x y n ≡ Break c → ⊥
bne_break x y n c h = search (rules, h)

sw_break : (x y n c : ℕ) → Sw x y n ≡ Break c → ⊥
sw_break x y n c h = search (rules, h)

syscall_break : (c : ℕ) → Syscall ≡ Break c → ⊥
syscall_break c h = search (rules, h)

jr_break : (r c : ℕ) → Jr r ≡ Break c → ⊥
jr_break r c h = search (rules, h)

j_break : (r c : ℕ) → J r ≡ Break c → ⊥
j_break r c h = search (rules, h)

jal_break : (r c : ℕ) → Jal r ≡ Break c → ⊥
jal_break r c h = search (rules, h)

sw_syscall : (r s t : ℕ) → Sw r s t ≡ Syscall → ⊥
sw_syscall r s t h = search (rules, h)

serve_other : (i : Instr) → is_jump i ≡ true → i ≡ Syscall → ⊥
serve_other i j e = no_truth (sym (ap (λ (k : Instr). is_jump k) e) ∙ j)

four_zero : (n : ℕ) → n ≡ 4 → n ≡ 0 → ⊥
four_zero n h k = omega arith

six : (k : ℕ) → k ≤ 5 → (k ≡ 0) ⊎ ((k ≡ 1) ⊎ ((k ≡ 2) ⊎ ((k ≡ 3) ⊎ ((k ≡ 4) ⊎ (k ≡ 5)))))
six k h = grind arith

word_five : (b c k : ℕ) → b ≡ c + 4 * k → k ≡ 5 → b ≡ c + 20
word_five b c k h e = omega arith

five_words : (c a : ℕ) → c % 4 ≡ 0 → a % 4 ≡ 0 → c ≤ a → a ≤ c + 16 → (a ≡ c) ⊎ ((a ≡ c + 4) ⊎ ((a ≡ c + 8) ⊎ ((a ≡ c + 12) ⊎ (a ≡ c + 16))))
five_words c a h k l m = grind arith

module _ (text : List ℕ) (entry : ℕ) (fits : IsText text) (rules_hold : WellTyped text entry) (W : Role) where
  abbrev K : ℕ → ℕ → Type 0
  K a q = Keeps text entry W a q

  abbrev H : ℕ → Type 0
  H a = Halves text entry W a

  abbrev SortAt : State → Instr → Type 0
  SortAt s i = Sort text (λ q. K s.pc q) (λ q. K s.npc q) (H s.pc) (H s.npc) (Held W) s i

  -- what a word that settles a register writes
  settled_writes : (i : Instr) (q : ℕ) → Settling i q → Among q (writes_of i)
  settled_writes i q (by_majority e) = subst (λ (j : Instr). Among q (writes_of j)) (sym e) (inl refl)
  settled_writes i q (by_copy x Y e o m n) = subst (λ (j : Instr). Among q (writes_of j)) (sym e) (inl refl)

  -- what is kept behind a word was kept before it or is written by it
  after_alike : (a b : ℕ) (i : Instr) → At text a i → Flow text entry a b → (q : ℕ) → K b q → K a q ⊎ Among q (writes_of i)
  after_alike a b i h f q k = elim (came text entry fits rules_hold W a b q f k) as (λ z. K a q ⊎ Among q (writes_of i)) [
    | came_zero z ↦ inl (zero_kept z)
    | came_other X o d ↦ inl (other X o d)
    | came_kept g w ↦ inl g
    | came_settled j g st ↦ inr (subst (λ (j : Instr). Among q (writes_of j)) (same_instr text a j i g h) (settled_writes j q st))
    | came_given z w ↦ inr (subst (λ (p : ℕ). Among p (writes_of i)) (sym z) (to_among 2 (writes_of i) (written_by text a 2 i h w)))
  ]

  -- where a word writes registers alone that are kept nowhere, it was kept before it
  after_wrong : (a b : ℕ) (i : Instr) → At text a i → ((x : ℕ) → writes_of i ≡ x ∷ [] → (x ≡ 0) ⊎ Bad W x) → (IsTrue (among 2 (writes_of i)) → ⊥) → ((q : ℕ) → Settling i q → ⊥) → Flow text entry a b → (q : ℕ) → K b q → K a q × ((x : ℕ) → writes_of i ≡ x ∷ [] → (x ≡ 0) ⊎ (q ≢ x))
  after_wrong a b i h f n2 ns e q k =
      let off : ((x : ℕ) → Bad W x → q ≢ x) → (x : ℕ) → writes_of i ≡ x ∷ [] → (x ≡ 0) ⊎ (q ≢ x) = λ g x w. elim (f x w) as (λ z. (x ≡ 0) ⊎ (q ≢ x)) [ inl z ↦ inl z | inr o ↦ inr (g x o) ] in
      elim (came text entry fits rules_hold W a b q e k) as (λ z. K a q × ((x : ℕ) → writes_of i ≡ x ∷ [] → (x ≡ 0) ⊎ (q ≢ x))) [
        | came_zero z ↦ (zero_kept z, off (λ x o u. o.0 (sym u ∙ z)))
        | came_other X o d ↦ (other X o d, off (λ x p u. d (p.1 X (subst (Of X) u o))))
        | came_kept g w ↦ (g, λ x u. inr (λ v. w (record { instr = i; at = h; writes = listed q (x ∷ []) (writes_of i) (sym u) (alone q x v) })))
        | came_settled j g st ↦ absurd (ns q (subst (λ (j : Instr). Settling j q) (same_instr text a j i g h) st))
        | came_given z w ↦ absurd (n2 (written_by text a 2 i h w))
      ]

  flow_of : (s : State) (i : Instr) → Ready text entry s i → ((code : ℕ) → i ≡ Break code → ⊥) → H s.npc → Producing text W s.pc
  flow_of s i r n h = producing text entry fits rules_hold W s.pc s.npc (in_text text s.pc i r.at) (λ code k. n code (same_instr text s.pc i (Break code) r.at k)) (r.flow n) h

  products_alike : (s : State) (i : Instr) → Ready text entry s i → ((code : ℕ) → i ≡ Break code → ⊥) → H s.npc → H s.pc ⊎ (is_product i ≡ true)
  products_alike s i r n h = let p : Producing text W s.pc = flow_of s i r n h in inr (subst (λ (j : Instr). is_product j ≡ true) (same_instr text s.pc p.instr i p.at r.at) p.product.product)

  pub products_none : (T : Type 0) (s : State) (i : Instr) → Ready text entry s i → ((code : ℕ) → i ≡ Break code → ⊥) → is_product i ≡ false → H s.npc → T
  products_none T s i r n m h = elim (products_alike s i r n h) as (λ z. T) [ inl x ↦ absurd (let p : Producing text W s.pc = flow_of s i r n h in no_truth (sym m ∙ subst (λ (j : Instr). is_product j ≡ true) (same_instr text s.pc p.instr i p.at r.at) p.product.product)) | inr x ↦ absurd (no_truth (sym m ∙ x)) ]

  products_wrong : (s : State) (i : Instr) → Ready text entry s i → ((code : ℕ) → i ≡ Break code → ⊥) → ((r : ℕ) → IsTrue (among r (reads_of i)) → (r ≡ 0) ⊎ ((r ≡ 2) ⊎ Of W r)) → H s.npc → H s.pc × (writes_of i ≡ [] → ⊥)
  products_wrong s i r n f h =
      let p : Producing text W s.pc = flow_of s i r n h in
      let o : IsProductOf p.stream i = subst (IsProductOf p.stream) (same_instr text s.pc p.instr i p.at r.at) p.product in
      absurd (elim (f o.some o.reads_some) as (λ z. ⊥) [
        | inl z ↦ zero_free p.stream (subst (Of p.stream) z o.of_stream)
        | inr (inl z) ↦ two_free p.stream (subst (Of p.stream) z o.of_stream)
        | inr (inr z) ↦ p.right (one_role p.stream W o.some o.of_stream z)
      ])

  no_break : (i : Instr) → is_data i ≡ true → (code : ℕ) → i ≡ Break code → ⊥
  no_break i d code e = no_truth (sym (ap (λ (j : Instr). is_data j) e) ∙ d)

  moved_at : (s : State) (i : Instr) → Ready text entry s i → (j : Instr) → i ≡ j → At s.text s.pc j
  moved_at s i r j e = subst (λ (l : List ℕ). At l s.pc j) (sym r.same) (subst (λ (k : Instr). At text s.pc k) e r.at)

  load_low : (s : State) (i : Instr) → Ready text entry s i → (rt rs imm : ℕ) → i ≡ Lw rt rs imm → 0x10010000 ≤ plus (reg s rs) (extended imm)
  load_low s i r rt rs imm e = calm_load s rt (plus (reg s rs) (extended imm)) (subst (λ (k : Instr). IsCalm (perform (act k s) s)) e r.calm)

  store_low : (s : State) (i : Instr) → Ready text entry s i → (rt rs imm : ℕ) → i ≡ Sw rt rs imm → 0x10010000 ≤ plus (reg s rs) (extended imm)
  store_low s i r rt rs imm e = calm_store s (plus (reg s rs) (extended imm)) (reg s rt) (subst (λ (k : Instr). IsCalm (perform (act k s) s)) e r.calm)

  uses_loaded : (i : Instr) (rt rs imm : ℕ) → i ≡ Lw rt rs imm → IsTrue (among rt (used_of i))
  uses_loaded i rt rs imm e = subst (λ (k : Instr). IsTrue (among rt (used_of k))) (sym e) (from_among rt (rt ∷ rs ∷ []) (inl refl))

  loads_kept : (s : State) (i : Instr) → Ready text entry s i → (X : Role) → (X ≡ W → ⊥) → ((r : ℕ) → IsTrue (among r (used_of i)) → (r ≡ 0) ⊎ ((r ≡ 2) ⊎ Of X r)) → (rt rs imm : ℕ) → i ≡ Lw rt rs imm → Held W (place (plus (reg s rs) (extended imm)))
  loads_kept s i r X d f rt rs imm e =
      let a : ℕ = plus (reg s rs) (extended imm) in
      let h : (Y : Role) × Of Y rt = (rules_hold s.pc).held rt rs imm (inl (subst (λ (k : Instr). At text s.pc k) e r.at)) in
      let same : h.0 ≡ X = elim (f rt (uses_loaded i rt rs imm e)) as (λ z. h.0 ≡ X) [
        | inl z ↦ absurd (zero_free h.0 (subst (Of h.0) z h.1))
        | inr (inl z) ↦ absurd (two_free h.0 (subst (Of h.0) z h.1))
        | inr (inr z) ↦ one_role h.0 X rt h.1 z
      ] in
      record { stream = h.0; right = λ z. d (sym same ∙ z); stands = lane_of h.0 a (load_low s i r rt rs imm e) (r.placed.moves h.0 rt rs imm (inl (moved_at s i r (Lw rt rs imm) e)) h.1) }

  -- a data row that uses registers of one stream, and not register 2
  right_word : (s : State) (i : Instr) → Ready text entry s i → is_data i ≡ true → (X : Role) → (X ≡ W → ⊥) → ((r : ℕ) → IsTrue (among r (used_of i)) → (r ≡ 0) ⊎ ((r ≡ 2) ⊎ Of X r)) → (IsTrue (among 2 (used_of i)) → ⊥) → (is_move i ≡ true → H s.pc) → SortAt s i
  right_word s i r d X n f n2 m = alike (record {
    loads = loads_by (Held W) i s (act i s) (reaches i s) (loads_kept s i r X n f);
    reads = all_of (λ q. K s.pc q) (reads_of i) (λ q h. elim (f q (among_reads i q h)) as (λ z. K s.pc q) [ inl z ↦ zero_kept z | inr (inl z) ↦ absurd (n2 (subst (λ (p : ℕ). IsTrue (among p (used_of i))) z (among_reads i q h))) | inr (inr z) ↦ other X z n ]);
    halves = m;
    after = after_alike s.pc s.npc i r.at (r.flow (no_break i d));
    products = products_alike s i r (no_break i d);
  })

  wrong_word : (s : State) (i : Instr) → Ready text entry s i → is_data i ≡ true → ((x : ℕ) → writes_of i ≡ x ∷ [] → (x ≡ 0) ⊎ Bad W x) → (IsTrue (among 2 (writes_of i)) → ⊥) → ((q : ℕ) → Settling i q → ⊥) → (H s.npc → H s.pc × (writes_of i ≡ [] → ⊥)) → SortAt s i
  wrong_word s i r d f n2 ns g = wrong (record { data_row = d; after = after_wrong s.pc s.npc i r.at f n2 ns (r.flow (no_break i d)); products = g })

  written_here : (i : Instr) (x : ℕ) → writes_of i ≡ x ∷ [] → IsTrue (among x (used_of i))
  written_here i x e = among_writes i x (listed x (x ∷ []) (writes_of i) (sym e) (alone x x refl))

  own_word : (s : State) (i : Instr) → Ready text entry s i → is_data i ≡ true → OneStream i → ((r : ℕ) → IsTrue (among r (used_of i)) → (r ≡ 0) ⊎ ((r ≡ 2) ⊎ Of W r)) → (IsTrue (among 2 (used_of i)) → ⊥) → SortAt s i
  own_word s i r d o f n2 = wrong_word s i r d
      (λ x e. elim (f x (written_here i x e)) as (λ z. (x ≡ 0) ⊎ Bad W x) [ inl z ↦ inl z | inr (inl z) ↦ absurd (n2 (subst (λ (p : ℕ). IsTrue (among p (used_of i))) z (written_here i x e))) | inr (inr z) ↦ inr (own_bad W x z) ])
      (λ h. n2 (among_writes i 2 h))
      (λ q z. stream_settles i o q n2 z)
      (products_wrong s i r (no_break i d) (λ q h. f q (among_reads i q h)))

  move_plain : (i : Instr) (rd : ℕ) → (i ≡ Mfhi rd) ⊎ (i ≡ Mflo rd) → is_product i ≡ false
  move_plain i rd (inl e) = ap (λ (j : Instr). is_product j) e
  move_plain i rd (inr e) = ap (λ (j : Instr). is_product j) e

  -- a mfhi or mflo of a right stream
  moved_word : (s : State) (i : Instr) → Ready text entry s i → is_data i ≡ true → (o : OneStream i) → (o.stream ≡ W → ⊥) → (IsTrue (among 2 (used_of i)) → ⊥) → (rd : ℕ) → (i ≡ Mfhi rd) ⊎ (i ≡ Mflo rd) → (rd ≡ 0) ⊎ FromOwn text entry s.pc rd → SortAt s i
  moved_word s i r d o n n2 rd m (inl z) = wrong_word s i r d
      (λ x e. inl (head_same x rd (sym e ∙ move_writes i rd m) ∙ z))
      (λ h. n2 (among_writes i 2 h))
      (λ q z. stream_settles i o q n2 z)
      (λ h. products_none _ s i r (no_break i d) (move_plain i rd m) h)
  moved_word s i r d o n n2 rd m (inr w) = right_word s i r d o.stream n o.all n2 (λ e. record {
    stream = w.stream;
    right = λ z. n (elim (o.all rd (written_here i rd (move_writes i rd m))) as (λ y. o.stream ≡ w.stream) [
      | inl y ↦ absurd (zero_free w.stream (subst (Of w.stream) y w.of))
      | inr (inl y) ↦ absurd (two_free w.stream (subst (Of w.stream) y w.of))
      | inr (inr y) ↦ one_role o.stream w.stream rd y w.of
    ] ∙ z);
    from = w.from;
  })

  moves_at : (a : ℕ) (i : Instr) → At text a i → (rd : ℕ) → (i ≡ Mfhi rd) ⊎ (i ≡ Mflo rd) → At text a (Mfhi rd) ⊎ At text a (Mflo rd)
  moves_at a i h rd (inl e) = inl (subst (λ (k : Instr). At text a k) e h)
  moves_at a i h rd (inr e) = inr (subst (λ (k : Instr). At text a k) e h)

  stream_by : (s : State) (i : Instr) → Ready text entry s i → is_data i ≡ true → (o : OneStream i) → (IsTrue (among 2 (used_of i)) → ⊥) → (o.stream ≡ W → ⊥) → (z : Bool) → is_move i ≡ z → SortAt s i
  stream_by s i r d o n2 n true e = let m : (rd : ℕ) × ((i ≡ Mfhi rd) ⊎ (i ≡ Mflo rd)) = move_of i e in moved_word s i r d o n n2 m.0 m.1 ((rules_hold s.pc).stream.halves m.0 (moves_at s.pc i r.at m.0 m.1))
  stream_by s i r d o n2 n false e = right_word s i r d o.stream n o.all n2 (λ h. absurd (no_truth (sym e ∙ h)))

  stream_sort : (s : State) (i : Instr) → Ready text entry s i → is_data i ≡ true → OneStream i → (IsTrue (among 2 (used_of i)) → ⊥) → SortAt s i
  stream_sort s i r d o n2 = elim (role_or o.stream W) as (λ z. SortAt s i) [
    | inl e ↦ own_word s i r d o (λ q h. subst (λ (X : Role). (q ≡ 0) ⊎ ((q ≡ 2) ⊎ Of X q)) e (o.all q h)) n2
    | inr n ↦ stream_by s i r d o n2 n (is_move i) refl
  ]

  -- words of votes and of forms
  ori_sort : (s : State) (n : ℕ) → Ready text entry s (Ori 2 0 n) → SortAt s (Ori 2 0 n)
  ori_sort s n r = alike (record {
    loads = tt;
    reads = (zero_kept refl, tt);
    halves = λ m. absurd (no_truth m);
    after = after_alike s.pc s.npc (Ori 2 0 n) r.at (r.flow (no_break (Ori 2 0 n) refl));
    products = products_alike s (Ori 2 0 n) r (no_break (Ori 2 0 n) refl);
  })

  -- addu x,q,0
  addu_sort : (s : State) (x q : ℕ) → Ready text entry s (Addu x q 0) → K s.pc q → SortAt s (Addu x q 0)
  addu_sort s x q r k = alike (record {
    loads = tt;
    reads = (k, (zero_kept refl, tt));
    halves = λ m. absurd (no_truth m);
    after = after_alike s.pc s.npc (Addu x q 0) r.at (r.flow (no_break (Addu x q 0) refl));
    products = products_alike s (Addu x q 0) r (no_break (Addu x q 0) refl);
  })

  last_sort : (s : State) (c : ℕ) (o : InputAt text c) → s.pc ≡ c + 16 → Ready text entry s (Addu o.d 2 0) → (W ≡ C) ⊎ (W ≡ C → ⊥) → SortAt s (Addu o.d 2 0)
  last_sort s c o e r (inr n) = addu_sort s o.d 2 r (due refl (last c o e n))
  last_sort s c o e r (inl w) = wrong_word s (Addu o.d 2 0) r refl
      (λ x h. inr (own_bad W x (subst (λ (X : Role). Of X x) (sym w) (subst (Of C) (head_same o.d x h) o.of_d))))
      (λ h. two_free C (subst (Of C) (sym (only_one 2 o.d h)) o.of_d))
      (λ q z. two_settles o.d q z)
      (λ h. products_none _ s (Addu o.d 2 0) r (no_break (Addu o.d 2 0) refl) refl h)

  -- the first three words of a vote
  and_sort : (s : State) (d x y : ℕ) → Ready text entry s (And d x y) → Bad W d → (2 ≡ d → ⊥) → SortAt s (And d x y)
  and_sort s d x y r b n = wrong_word s (And d x y) r refl
      (λ p h. inr (subst (Bad W) (head_same d p h) b))
      (λ h. n (only_one 2 d h))
      (λ q z. and_settles d x y q z)
      (λ h. products_none _ s (And d x y) r (no_break (And d x y) refl) refl h)

  or_sort : (s : State) (x y : ℕ) → Ready text entry s (Or 3 x y) → Of A x → SortAt s (Or 3 x y)
  or_sort s x y r o = wrong_word s (Or 3 x y) r refl
      (λ p h. inr (subst (Bad W) (head_same 3 p h) (three_bad W)))
      (λ h. no_equal 2 3 refl (only_one 2 3 h))
      (λ q z. or_settles 3 x y q o z)
      (λ h. products_none _ s (Or 3 x y) r (no_break (Or 3 x y) refl) refl h)

  majority_sort : (s : State) (v x y z : ℕ) → VoteAt text v x y z → s.pc ≡ v + 12 → Ready text entry s (Or x 1 3) → SortAt s (Or x 1 3)
  majority_sort s v x y z o e r = majority (record {
    v = v;
    x = x;
    y = y;
    z = z;
    vote = o;
    at = e;
    is = refl;
    after = λ q k. elim (after_alike s.pc s.npc (Or x 1 3) r.at (r.flow (no_break (Or x 1 3) refl)) q k) as (λ w. K s.pc q ⊎ (q ≡ x)) [ inl w ↦ inl w | inr (inl w) ↦ inr w | inr (inr w) ↦ absurd w ];
    products = λ h. products_none _ s (Or x 1 3) r (no_break (Or x 1 3) refl) refl h;
  })

  -- at an instruction that stands there
  at_instr : (s : State) (i : Instr) → Ready text entry s i → (b : ℕ) (j : Instr) → s.pc ≡ b → At text b j → (Ready text entry s j → SortAt s j) → SortAt s i
  at_instr s i r b j e h f =
      let x : j ≡ i = same_instr text s.pc j i (subst (λ (a : ℕ). At text a j) (sym e) h) r.at in
      subst (λ (k : Instr). SortAt s k) x (f (subst (λ (k : Instr). Ready text entry s k) (sym x) r))

  not_data : (s : State) (i : Instr) → Ready text entry s i → is_data i ≡ true → (b : ℕ) (j : Instr) → s.pc ≡ b → At text b j → is_data j ≡ false → SortAt s i
  not_data s i r d b j e h n = absurd (no_truth (sym n ∙ (ap (λ (k : Instr). is_data k) (same_instr text s.pc j i (subst (λ (a : ℕ). At text a j) (sym e) h) r.at) ∙ d)))

  vote_sort : (s : State) (i : Instr) → Ready text entry s i → (k : ℕ) → InVote text s.pc k → SortAt s i
  vote_sort s i r k w =
      let o : VoteAt text w.v w.x w.y w.z = w.vote in
      elim (six k w.upto) as (λ z. SortAt s i) [
        | inl e ↦ at_instr s i r w.v (And 1 w.x w.y) (least_word s.pc w.v k w.at e) o.both (λ q. and_sort s 1 w.x w.y q (one_bad W) (λ h. no_equal 2 1 refl h))
        | inr (inl e) ↦ at_instr s i r (w.v + 4) (Or 3 w.x w.y) (word_one s.pc w.v k w.at e) o.either (λ q. or_sort s w.x w.y q (triple_a w.x w.y w.z o.triple))
        | inr (inr (inl e)) ↦ at_instr s i r (w.v + 8) (And 3 3 w.z) (word_two s.pc w.v k w.at e) o.other (λ q. and_sort s 3 3 w.z q (three_bad W) (λ h. no_equal 2 3 refl h))
        | inr (inr (inr (inl e))) ↦ at_instr s i r (w.v + 12) (Or w.x 1 3) (word_three s.pc w.v k w.at e) o.settles (majority_sort s w.v w.x w.y w.z o (word_three s.pc w.v k w.at e))
        | inr (inr (inr (inr (inl e)))) ↦ at_instr s i r (w.v + 16) (Addu w.y w.x 0) (word_four s.pc w.v k w.at e) o.copies (λ q. addu_sort s w.y w.x q (settled w.v w.x w.y w.z o (inl (word_four s.pc w.v k w.at e)) refl))
        | inr (inr (inr (inr (inr e)))) ↦ at_instr s i r (w.v + 20) (Addu w.z w.x 0) (word_five s.pc w.v k w.at e) o.ends (λ q. addu_sort s w.z w.x q (settled w.v w.x w.y w.z o (inr (word_five s.pc w.v k w.at e)) refl))
      ]

  form_sort : (s : State) (i : Instr) → Ready text entry s i → is_data i ≡ true → (k : ℕ) → WordOf text s.pc k → SortAt s i
  form_sort s i r d k (output c o h e) = elim (zero_one k h) as (λ z. SortAt s i) [
    | inl x ↦ at_instr s i r c (Ori 2 0 1) (least_word s.pc c k e x) o.chooses (ori_sort s 1)
    | inr x ↦ not_data s i r d (c + 4) Syscall (word_one s.pc c k e x) o.serves refl
  ]
  form_sort s i r d k (exit c o h e) = elim (zero_one k h) as (λ z. SortAt s i) [
    | inl x ↦ at_instr s i r c (Ori 2 0 17) (least_word s.pc c k e x) o.chooses (ori_sort s 17)
    | inr x ↦ not_data s i r d (c + 4) Syscall (word_one s.pc c k e x) o.serves refl
  ]
  form_sort s i r d k (input c o h e) = elim (numbers k h) as (λ z. SortAt s i) [
    | inl x ↦ at_instr s i r c (Ori 2 0 5) (least_word s.pc c k e x) o.chooses (ori_sort s 5)
    | inr (inl x) ↦ not_data s i r d (c + 4) Syscall (word_one s.pc c k e x) o.serves refl
    | inr (inr (inl x)) ↦ at_instr s i r (c + 8) (Addu o.a 2 0) (word_two s.pc c k e x) o.first (λ q. addu_sort s o.a 2 q (due refl (first c o (word_two s.pc c k e x))))
    | inr (inr (inr (inl x))) ↦ at_instr s i r (c + 12) (Addu o.b 2 0) (word_three s.pc c k e x) o.second (λ q. addu_sort s o.b 2 q (due refl (second c o (word_three s.pc c k e x))))
    | inr (inr (inr (inr x))) ↦ at_instr s i r (c + 16) (Addu o.d 2 0) (word_four s.pc c k e x) o.last (λ q. last_sort s c o (word_four s.pc c k e x) q (role_or W C))
  ]

  -- a word of an input uses register 2
  uses_two : (T : Type 0) (s : State) (i : Instr) → Ready text entry s i → among 2 (used_of i) ≡ false → (b : ℕ) (j : Instr) → s.pc ≡ b → At text b j → IsTrue (among 2 (used_of j)) → T
  uses_two T s i r n b j e h u = absurd (no_truth (sym n ∙ subst (λ (k : Instr). IsTrue (among 2 (used_of k))) (same_instr text s.pc j i (at_move text s.pc b j e h) r.at) u))

  moves_two : (d : ℕ) → IsTrue (among 2 (used_of (Addu d 2 0)))
  moves_two d = from_among 2 (d ∷ 2 ∷ 0 ∷ []) (inr (inl refl))

  in_input : (s : State) (i : Instr) → Ready text entry s i → among 2 (used_of i) ≡ false → InInput text s.pc → SortAt s i
  in_input s i r n w =
      let o : InputAt text w.c = w.input in
      elim (five_words w.c s.pc (in_text text w.c (Ori 2 0 5) o.chooses).aligned (in_text text s.pc i r.at).aligned w.from w.upto) as (λ z. SortAt s i) [
        | inl e ↦ uses_two _ s i r n w.c (Ori 2 0 5) e o.chooses refl
        | inr (inl e) ↦ uses_two _ s i r n (w.c + 4) Syscall e o.serves refl
        | inr (inr (inl e)) ↦ uses_two _ s i r n (w.c + 8) (Addu o.a 2 0) e o.first (moves_two o.a)
        | inr (inr (inr (inl e))) ↦ uses_two _ s i r n (w.c + 12) (Addu o.b 2 0) e o.second (moves_two o.b)
        | inr (inr (inr (inr e))) ↦ uses_two _ s i r n (w.c + 16) (Addu o.d 2 0) e o.last (moves_two o.d)
      ]

  data_by : (s : State) (i : Instr) → Ready text entry s i → is_data i ≡ true → (z : Bool) → among 2 (used_of i) ≡ z → SortAt s i
  data_by s i r d true e = let w : (k : ℕ) × WordOf text s.pc k = (rules_hold s.pc).service (record { instr = i; at = r.at; uses = e }) in form_sort s i r d w.0 w.1
  data_by s i r d false e = elim ((rules_hold s.pc).stream.one i r.at) as (λ z. SortAt s i) [
    | inl (votes k w) ↦ vote_sort s i r k w
    | inl (takes w) ↦ in_input s i r e w
    | inl (calls t h) ↦ not_data s i r d s.pc (Jal t) refl h refl
    | inr o ↦ stream_sort s i r d o (λ h. no_truth (sym e ∙ h))
  ]

  -- what is used so that no wrong word may stand there is kept
  use_kept : (a : ℕ) (i : Instr) → At text a i → (i ≡ Syscall → ⊥) → (q : ℕ) → IsUse text a q → K a q
  use_kept a i h n q c = elim ((rules_hold a).voted q c) as (λ z. K a q) [
    | inl z ↦ zero_kept z
    | inr (inl g) ↦ voted g
    | inr (inr t) ↦ absurd (n (same_instr text a i Syscall h (at_move text a (t.c + 4) Syscall t.at t.input.serves)))
  ]

  no_loads : (i : Instr) (s : State) → is_data i ≡ false → LoadsKept (Held W) (act i s)
  no_loads i s d = loads_by (Held W) i s (act i s) (reaches i s) (λ rt rs imm e. absurd (lw_data i rt rs imm d e))

  -- a word that is no data row and reads only what is kept
  plain_sort : (s : State) (i : Instr) → Ready text entry s i → is_data i ≡ false → is_move i ≡ false → ((code : ℕ) → i ≡ Break code → ⊥) → AllOf (λ q. K s.pc q) (reads_of i) → SortAt s i
  plain_sort s i r d m n k = alike (record {
    loads = no_loads i s d;
    reads = k;
    halves = λ e. absurd (no_truth (sym m ∙ e));
    after = after_alike s.pc s.npc i r.at (r.flow n);
    products = products_alike s i r n;
  })

  beq_sort : (s : State) (x y n : ℕ) → Ready text entry s (Beq x y n) → SortAt s (Beq x y n)
  beq_sort s x y n r =
      let b : BranchAt text s.pc x y n = record { instr = Beq x y n; at = r.at; is = inl refl } in
      let k : (q : ℕ) → (q ≡ x) ⊎ (q ≡ y) → K s.pc q = λ q e. use_kept s.pc (Beq x y n) r.at (serve_other (Beq x y n) refl) q (operand x y n b e) in
      plain_sort s (Beq x y n) r refl refl (λ c e. beq_break x y n c e) (k x (inl refl), (k y (inr refl), tt))

  bne_sort : (s : State) (x y n : ℕ) → Ready text entry s (Bne x y n) → SortAt s (Bne x y n)
  bne_sort s x y n r =
      let b : BranchAt text s.pc x y n = record { instr = Bne x y n; at = r.at; is = inr refl } in
      let k : (q : ℕ) → (q ≡ x) ⊎ (q ≡ y) → K s.pc q = λ q e. use_kept s.pc (Bne x y n) r.at (serve_other (Bne x y n) refl) q (operand x y n b e) in
      plain_sort s (Bne x y n) r refl refl (λ c e. bne_break x y n c e) (k x (inl refl), (k y (inr refl), tt))

  -- a store
  base_kept : (s : State) (rt rs imm : ℕ) → Ready text entry s (Sw rt rs imm) → K s.pc rs
  base_kept s rt rs imm r = use_kept s.pc (Sw rt rs imm) r.at (sw_syscall rt rs imm) rs (base rt imm r.at)

  sw_sort : (s : State) (rt rs imm : ℕ) → Ready text entry s (Sw rt rs imm) → SortAt s (Sw rt rs imm)
  sw_sort s rt rs imm r =
      let a : ℕ = plus (reg s rs) (extended imm) in
      let h : (X : Role) × Of X rt = (rules_hold s.pc).held rt rs imm (inr r.at) in
      let l : place a % 4 ≡ lane h.0 = lane_of h.0 a (store_low s (Sw rt rs imm) r rt rs imm refl) (r.placed.moves h.0 rt rs imm (inr (moved_at s (Sw rt rs imm) r (Sw rt rs imm) refl)) h.1) in
      let n : (code : ℕ) → Sw rt rs imm ≡ Break code → ⊥ = λ c e. sw_break rt rs imm c e in
      elim (role_or h.0 W) as (λ z. SortAt s (Sw rt rs imm)) [
        | inl e ↦ aside (record {
          rt = rt;
          rs = rs;
          imm = imm;
          is = refl;
          base = base_kept s rt rs imm r;
          place_free = lane_free h.0 W (place a) e l;
          after = λ q k. elim (after_alike s.pc s.npc (Sw rt rs imm) r.at (r.flow n) q k) as (λ z. K s.pc q) [ inl z ↦ z | inr z ↦ absurd z ];
          products = λ w. products_none _ s (Sw rt rs imm) r n refl w;
        })
        | inr e ↦ plain_sort s (Sw rt rs imm) r refl refl n (other h.0 h.1 e, (base_kept s rt rs imm r, tt))
      ]

  syscall_sort : (s : State) → Ready text entry s Syscall → SortAt s Syscall
  syscall_sort s r =
      let two : K s.pc 2 = due refl (serving r.at) in
      let n : (code : ℕ) → Syscall ≡ Break code → ⊥ = λ c e. syscall_break c e in
      elim ((rules_hold s.pc).voted 4 (argument r.at refl)) as (λ z. SortAt s Syscall) [
        | inl z ↦ absurd (four_zero 4 refl z)
        | inr (inl z) ↦ plain_sort s Syscall r refl refl n (two, (voted z, tt))
        | inr (inr t) ↦ feeds (record {
          is = refl;
          two = two;
          five = r.five t.c t.input t.at;
          after = λ q k. elim (after_alike s.pc s.npc Syscall r.at (r.flow n) q k) as (λ z. K s.pc q ⊎ (q ≡ 2)) [ inl z ↦ inl z | inr (inl z) ↦ inr z | inr (inr z) ↦ absurd z ];
          products = λ w. products_none _ s Syscall r n refl w;
        })
      ]

  -- each word
  pub sort_of : (s : State) (i : Instr) → Ready text entry s i → SortAt s i
  sort_of s (Jr rs) r = plain_sort s (Jr rs) r refl refl (λ c e. jr_break rs c e) (use_kept s.pc (Jr rs) r.at (serve_other (Jr rs) refl) rs (target r.at), tt)
  sort_of s Syscall r = syscall_sort s r
  sort_of s (Break code) r = halts (record { code = code; is = refl })
  sort_of s (J t) r = plain_sort s (J t) r refl refl (λ c e. j_break t c e) tt
  sort_of s (Jal t) r = plain_sort s (Jal t) r refl refl (λ c e. jal_break t c e) tt
  sort_of s (Beq x y n) r = beq_sort s x y n r
  sort_of s (Bne x y n) r = bne_sort s x y n r
  sort_of s (Sw rt rs imm) r = sw_sort s rt rs imm r
  sort_of s i r = data_by s i r refl (among 2 (used_of i)) refl
