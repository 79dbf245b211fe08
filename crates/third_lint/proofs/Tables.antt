-- The four tables hold exactly what they are of.
use Rattle.std.proofs.Common.{◌≡◌, ◌≢◌, ℕ, ◌+◌, ◌-◌, ◌*◌, ◌/◌, ◌%◌, ◌≤◌, ◌<◌, arith, ap, refl, sym, ◌∙◌, subst, List, length, get_or, false, true, Bool, cond, inl, inr}
use Rattle.std.specs.Prelude.{Option, Some, None, ◌⊎◌, ◌==◌, ◌&&◌, not, slice_set, replicate}
use Rattle.std.proofs.lemmas.Grind.{common_steps}
use Rattle.mips_isa.specs.declared.instr.Instr.{Instr}
use Rattle.mips_isa.specs.declared.instr.Instr.TheVariants.{Mfhi, Mflo, J, Jal, Beq, Bne}
use Rattle.mips_isa.specs.Machine.{text_place}
use Rattle.mips_text.specs.Text.{IsText, InText, At, instr_at, BranchAt, branch_goal, jump_goal}
use Rattle.mips_text.specs.Blocks.{ForkAt, IsStart, begins, jumped, called, returned, taken, passed}
use Rattle.lint_words.specs.Words.{skipped, fork_starts, starts_of, made, in_words}
use Rattle.lint_words.specs.Around.{starts_at, reporting}
use Rattle.third_lint.specs.Flow.{Next, MovesHalf}
use Rattle.third_lint.specs.Typing.{IsLanding}
use Rattle.third_lint.specs.RuleTests.{first_next, second_next, is_branch, is_half, apart, back_at, enters, nexts_if}
use Rattle.third_lint.specs.Tables.{Table, Entered, After, Twice, Made, Below, marked, marked_if}
use Rattle.third_lint.proofs.Places.{no_truth, in_text, place_back}
use Rattle.third_lint.proofs.Words.{next_text}
use Rattle.third_lint.proofs.Bools.{and_parts, and_both, same_number, number_same, none_some, some_same}
use Rattle.third_lint.proofs.Around.{in_words_text, text_in_words, out_words, none_skipped, not_skipped_by}
use Rattle.third_lint.proofs.Nexts.{first_is, second_is, nexts_of}

-- the starts that a word makes
abbrev pub MadeBy : List ℕ → (a w : ℕ) → Type 0
MadeBy text a w = ((made text a).0 ≡ Some w) ⊎ ((made text a).1 ≡ Some w)

-- the starts that a word makes
fork_made : (text : List ℕ) (entry a w x y n : ℕ) (k : Option ℕ) → BranchAt text a x y n → skipped text a ≡ k → ((fork_starts k a n).0 ≡ Some w) ⊎ ((fork_starts k a n).1 ≡ Some w) → IsStart text entry w
fork_made text entry a w x y n None b e (inl h) = taken a n (record { x = x; y = y; branch = b; skips_none = none_skipped text a e }) (sym (some_same (branch_goal a n) w h))
fork_made text entry a w x y n None b e (inr h) = passed a n (record { x = x; y = y; branch = b; skips_none = none_skipped text a e }) (sym (some_same (a + 8) w h))
fork_made text entry a w x y n (Some code) b e (inl h) = absurd (none_some w h)
fork_made text entry a w x y n (Some code) b e (inr h) = absurd (none_some w h)

neither : (A : Type 0) (w : ℕ) → (None ≡ Some w) ⊎ (None ≡ Some w) → A
neither A w (inl h) = absurd (none_some w h)
neither A w (inr h) = absurd (none_some w h)

made_by : (text : List ℕ) (entry a w : ℕ) (o : Option Instr) (k : Option ℕ) → instr_at text a ≡ o → skipped text a ≡ k → ((starts_of o k a).0 ≡ Some w) ⊎ ((starts_of o k a).1 ≡ Some w) → IsStart text entry w
made_by text entry a w None k e f h = neither (IsStart text entry w) w h
made_by text entry a w (Some (J t)) k e f (inl h) = jumped a t e (sym (some_same (jump_goal a t) w h))
made_by text entry a w (Some (J t)) k e f (inr h) = absurd (none_some w h)
made_by text entry a w (Some (Jal t)) k e f (inl h) = called a t e (sym (some_same (jump_goal a t) w h))
made_by text entry a w (Some (Jal t)) k e f (inr h) = returned a t e (sym (some_same (a + 8) w h))
made_by text entry a w (Some (Beq x y n)) k e f h = fork_made text entry a w x y n k (record { instr = Beq x y n; at = e; is = inl refl }) f h
made_by text entry a w (Some (Bne x y n)) k e f h = fork_made text entry a w x y n k (record { instr = Bne x y n; at = e; is = inr refl }) f h
made_by text entry a w (Some _) k e f h = neither (IsStart text entry w) w h

pub made_start : (text : List ℕ) (entry a w : ℕ) → MadeBy text a w → IsStart text entry w
made_start text entry a w h = made_by text entry a w (instr_at text a) (skipped text a) refl refl h

made_is : (text : List ℕ) (a : ℕ) (i : Instr) → At text a i → made text a ≡ starts_of (Some i) (skipped text a) a
made_is text a i h = ap (λ (o : Option Instr). starts_of o (skipped text a) a) h

fork_is : (text : List ℕ) (a n : ℕ) → (f : ForkAt text a n) → made text a ≡ (Some (branch_goal a n), Some (a + 8))
fork_is text a n f =
    let s : skipped text a ≡ None = not_skipped_by text a (skipped text a) refl f.skips_none in
    made_is text a f.branch.instr f.branch.at ∙ (elim f.branch.is as (λ z. starts_of (Some f.branch.instr) (skipped text a) a ≡ (Some (branch_goal a n), Some (a + 8))) [
      | inl e ↦ ap (λ (i : Instr). starts_of (Some i) (skipped text a) a) e ∙ ap (λ (k : Option ℕ). fork_starts k a n) s
      | inr e ↦ ap (λ (i : Instr). starts_of (Some i) (skipped text a) a) e ∙ ap (λ (k : Option ℕ). fork_starts k a n) s
    ])

-- a start is the entry, or made by a word
abbrev pub Makes : List ℕ → (entry w : ℕ) → Type 0
Makes text entry w = (w ≡ entry) ⊎ ((a : ℕ) × (InText text a × MadeBy text a w))

pub start_made : (text : List ℕ) (entry w : ℕ) → IsStart text entry w → Makes text entry w
start_made text entry w (begins e) = inl e
start_made text entry w (jumped a t h e) = inr (a, (in_text text a (J t) h, inl (ap (λ (p : Option ℕ × Option ℕ). p.0) (made_is text a (J t) h) ∙ ap (λ (x : ℕ). Some x) (sym e))))
start_made text entry w (called a t h e) = inr (a, (in_text text a (Jal t) h, inl (ap (λ (p : Option ℕ × Option ℕ). p.0) (made_is text a (Jal t) h) ∙ ap (λ (x : ℕ). Some x) (sym e))))
start_made text entry w (returned a t h e) = inr (a, (in_text text a (Jal t) h, inr (ap (λ (p : Option ℕ × Option ℕ). p.1) (made_is text a (Jal t) h) ∙ ap (λ (x : ℕ). Some x) (sym e))))
start_made text entry w (taken a n f e) = inr (a, (in_text text a f.branch.instr f.branch.at, inl (ap (λ (p : Option ℕ × Option ℕ). p.0) (fork_is text a n f) ∙ ap (λ (x : ℕ). Some x) (sym e))))
start_made text entry w (passed a n f e) = inr (a, (in_text text a f.branch.instr f.branch.at, inr (ap (λ (p : Option ℕ × Option ℕ). p.1) (fork_is text a n f) ∙ ap (λ (x : ℕ). Some x) (sym e))))

-- a table with one more address
set_here : (x : List Bool) (k : ℕ) → k < length x → get_or (slice_set x k true) k false ≡ true
set_here x k h = grind (arith, common_steps)

set_still : (x : List Bool) (k j : ℕ) → get_or x j false ≡ true → get_or (slice_set x k true) j false ≡ true
set_still x k j h = grind (arith, common_steps)

set_back : (x : List Bool) (k j : ℕ) → get_or (slice_set x k true) j false ≡ true → (j ≡ k) ⊎ (get_or x j false ≡ true)
set_back x k j h = grind (arith, common_steps)

set_len : (x : List Bool) (k : ℕ) → length (slice_set x k true) ≡ length x
set_len x k = grind (arith, common_steps)

abbrev pub With : (ℕ → Type 0) → ℕ → ℕ → Type 0
With S w v = S v ⊎ (v ≡ w)

-- the table before the first word, and after one more
no_bits : (n k : ℕ) → get_or (replicate n false) k false ≡ true → ⊥
no_bits n k h = grind (arith, common_steps)

replicate_len : (n : ℕ) → length (replicate n false) ≡ n
replicate_len n = grind (arith, common_steps)

less_or : (j k : ℕ) → j < k + 1 → (j < k) ⊎ (j ≡ k)
less_or j k h = grind arith

in_table : (text : List ℕ) (S : ℕ → Type 0) (bits : List Bool) (w : ℕ) → Table text S bits → InText text w → Table text (With S w) (slice_set bits (text_place w) true)
in_table text S bits w t i = record {
  len = set_len bits (text_place w) ∙ t.len;
  sound = λ k h g. elim (set_back bits (text_place w) k g) as (λ z. With S w (0x00400000 + 4 * k)) [
    | inl e ↦ inr (ap (λ (x : ℕ). 0x00400000 + 4 * x) e ∙ place_back w i.aligned i.from)
    | inr e ↦ inl (t.sound k h e)
  ];
  complete = λ v s j. elim s as (λ z. get_or (slice_set bits (text_place w) true) (text_place v) false ≡ true) [
    | inl s ↦ set_still bits (text_place w) (text_place v) (t.complete v s j)
    | inr e ↦ subst (λ (x : ℕ). get_or (slice_set bits (text_place w) true) (text_place x) false ≡ true) (sym e) (set_here bits (text_place w) (subst (λ (x : ℕ). text_place w < x) (sym t.len) i.upto))
  ];
}

out_table : (text : List ℕ) (S : ℕ → Type 0) (bits : List Bool) (w : ℕ) → Table text S bits → (InText text w → ⊥) → Table text (With S w) bits
out_table text S bits w t n = record {
  len = t.len;
  sound = λ k h g. inl (t.sound k h g);
  complete = λ v s j. elim s as (λ z. get_or bits (text_place v) false ≡ true) [ inl s ↦ t.complete v s j | inr e ↦ absurd (n (subst (InText text) e j)) ];
}

mark_by : (text : List ℕ) (S : ℕ → Type 0) (bits : List Bool) (w : ℕ) (z : Bool) → in_words (length bits) w ≡ z → Table text S bits → Table text (With S w) (cond z (slice_set bits (text_place w) true) bits)
mark_by text S bits w true e t = in_table text S bits w t (in_words_text text (length bits) w t.len e)
mark_by text S bits w false e t = out_table text S bits w t (out_words text (length bits) w t.len e)

mark_table : (text : List ℕ) (S : ℕ → Type 0) (bits : List Bool) (w : ℕ) → Table text S bits → Table text (With S w) (marked bits w)
mark_table text S bits w t = mark_by text S bits w (in_words (length bits) w) refl t

-- a table of the same addresses
same_table : (text : List ℕ) (S T : ℕ → Type 0) (bits : List Bool) → ((w : ℕ) → S w → T w) → ((w : ℕ) → T w → S w) → Table text S bits → Table text T bits
same_table text S T bits f g t = record {
  len = t.len;
  sound = λ k h e. f (0x00400000 + 4 * k) (t.sound k h e);
  complete = λ w s i. t.complete w (g w s) i;
}

abbrev WithIf : (ℕ → Type 0) → Option ℕ → ℕ → Type 0
WithIf S o v = S v ⊎ (o ≡ Some v)

mark_if : (text : List ℕ) (S : ℕ → Type 0) (bits : List Bool) (o : Option ℕ) → Table text S bits → Table text (WithIf S o) (marked_if bits o)
mark_if text S bits None t = same_table text S (WithIf S None) bits (λ w s. inl s) (λ w s. elim s as (λ z. S w) [ inl s ↦ s | inr e ↦ absurd (none_some w e) ]) t
mark_if text S bits (Some u) t = same_table text (With S u) (WithIf S (Some u)) (marked bits u)
    (λ w s. elim s as (λ z. WithIf S (Some u) w) [ inl s ↦ inl s | inr e ↦ inr (ap (λ (x : ℕ). Some x) (sym e)) ])
    (λ w s. elim s as (λ z. With S u w) [ inl s ↦ inl s | inr e ↦ inr (sym (some_same u w e)) ])
    (mark_table text S bits u t)

-- the table before the first word, and after one more
empty_table : (text : List ℕ) → Table text (λ w. ⊥) (replicate (length text) false)
empty_table text = record {
  len = replicate_len (length text);
  sound = λ k h g. no_bits (length text) k g;
  complete = λ w s i. absurd s;
}

none_below : (j : ℕ) → j < 0 → ⊥
none_below j h = omega arith

longer : (j k : ℕ) → j < k → j < k + 1
longer j k h = omega arith

self : (k : ℕ) → k < k + 1
self k = omega arith

pub empty_first : (text : List ℕ) (make : ℕ → Option ℕ × Option ℕ) (n : ℕ) (bits : List Bool) → n ≡ length text → bits ≡ replicate n false → Table text (Below (λ w. ⊥) make 0) bits
empty_first text make n bits e b = subst (λ (x : List Bool). Table text (Below (λ w. ⊥) make 0) x) (sym (b ∙ ap (λ (x : ℕ). replicate x false) e))
    (same_table text (λ w. ⊥) (Below (λ w. ⊥) make 0) (replicate (length text) false) (λ w s. absurd s) (λ w s. elim s as (λ z. ⊥) [ inl x ↦ x | inr m ↦ none_below m.0 m.1.0 ]) (empty_table text))

pub entry_first : (text : List ℕ) (make : ℕ → Option ℕ × Option ℕ) (entry n : ℕ) (bits0 bits : List Bool) → n ≡ length text → bits0 ≡ replicate n false → bits ≡ marked bits0 entry → Table text (Below (λ w. w ≡ entry) make 0) bits
entry_first text make entry n bits0 bits e b0 b =
    let z : bits0 ≡ replicate (length text) false = b0 ∙ ap (λ (x : ℕ). replicate x false) e in
    let t : Table text (λ w. ⊥) bits0 = subst (λ (x : List Bool). Table text (λ w. ⊥) x) (sym z) (empty_table text) in
    subst (λ (x : List Bool). Table text (Below (λ w. w ≡ entry) make 0) x) (sym b)
    (same_table text (With (λ w. ⊥) entry) (Below (λ w. w ≡ entry) make 0) (marked bits0 entry)
    (λ w s. elim s as (λ z. Below (λ w. w ≡ entry) make 0 w) [ inl x ↦ absurd x | inr e ↦ inl e ])
    (λ w s. elim s as (λ z. With (λ w. ⊥) entry w) [ inl e ↦ inr e | inr m ↦ absurd (none_below m.0 m.1.0) ])
    (mark_table text (λ w. ⊥) bits0 entry t))

module _ (text : List ℕ) (E : ℕ → Type 0) (make : ℕ → Option ℕ × Option ℕ) where
  abbrev B : ℕ → ℕ → Type 0
  B k w = Below E make k w

  more_table : (k : ℕ) (bits : List Bool) → Table text (WithIf (WithIf (B k) (make (0x00400000 + 4 * k)).0) (make (0x00400000 + 4 * k)).1) bits → Table text (B (k + 1)) bits
  more_table k bits t = same_table text (WithIf (WithIf (B k) (make (0x00400000 + 4 * k)).0) (make (0x00400000 + 4 * k)).1) (B (k + 1)) bits
      (λ w s. elim s as (λ z. B (k + 1) w) [
        | inl (inl (inl e)) ↦ inl e
        | inl (inl (inr m)) ↦ inr (m.0, (longer m.0 k m.1.0, m.1.1))
        | inl (inr e) ↦ inr (k, (self k, inl e))
        | inr e ↦ inr (k, (self k, inr e))
      ])
      (λ w s. elim s as (λ z. WithIf (WithIf (B k) (make (0x00400000 + 4 * k)).0) (make (0x00400000 + 4 * k)).1 w) [
        | inl e ↦ inl (inl (inl e))
        | inr m ↦ elim (less_or m.0 k m.1.0) as (λ z. WithIf (WithIf (B k) (make (0x00400000 + 4 * k)).0) (make (0x00400000 + 4 * k)).1 w) [
          | inl l ↦ inl (inl (inr (m.0, (l, m.1.1))))
          | inr e ↦ elim (subst (λ (x : ℕ). Made (make (0x00400000 + 4 * x)) w) e m.1.1) as (λ z. WithIf (WithIf (B k) (make (0x00400000 + 4 * k)).0) (make (0x00400000 + 4 * k)).1 w) [
            | inl a ↦ inl (inr a)
            | inr b ↦ inr b
          ]
        ]
      ])
      t

  -- one turn of the loop over the words
  pub turn_table : (k : ℕ) (bits bits1 bits2 : List Bool) (p : Option ℕ × Option ℕ) → Table text (B k) bits → p ≡ make (0x00400000 + 4 * k) → bits1 ≡ marked_if bits p.0 → bits2 ≡ marked_if bits1 p.1 → Table text (B (k + 1)) bits2
  turn_table k bits bits1 bits2 p t m b1 b2 =
      let q : Option ℕ × Option ℕ = make (0x00400000 + 4 * k) in
      let y1 : bits1 ≡ marked_if bits q.0 = b1 ∙ ap (λ (r : Option ℕ × Option ℕ). marked_if bits r.0) m in
      let t1 : Table text (WithIf (B k) q.0) bits1 = subst (λ (b : List Bool). Table text (WithIf (B k) q.0) b) (sym y1) (mark_if text (B k) bits q.0 t) in
      let y2 : bits2 ≡ marked_if bits1 q.1 = b2 ∙ ap (λ (r : Option ℕ × Option ℕ). marked_if bits1 r.1) m in
      more_table k bits2 (subst (λ (b : List Bool). Table text (WithIf (WithIf (B k) q.0) q.1) b) (sym y2) (mark_if text (WithIf (B k) q.0) bits1 q.1 t1))

  -- the table that it ends with
  last_by : (S : ℕ → Type 0) (k : ℕ) (bits : List Bool) → k ≡ length text → ((w : ℕ) → B (length text) w → S w) → ((w : ℕ) → S w → B (length text) w) → Table text (B k) bits → Table text S bits
  last_by S k bits e f g t = same_table text (B (length text)) S bits f g (subst (λ (x : ℕ). Table text (B x) bits) e t)

  -- an address that a word of the text makes
  made_here : (a w : ℕ) → InText text a → Made (make a) w → B (length text) w
  made_here a w i m = inr (text_place a, (i.upto, subst (λ (x : ℕ). Made (make x) w) (sym (place_back a i.aligned i.from)) m))

word_of : (k n : ℕ) → k < n → n ≤ 66060288 → ((0x00400000 + 4 * k) % 4 ≡ 0) × ((0x00400000 ≤ 0x00400000 + 4 * k) × ((0x00400000 + 4 * k - 0x00400000) / 4 ≡ k))
word_of k n h l = (omega arith, (omega arith, omega arith))

pub word_in : (text : List ℕ) → IsText text → (k : ℕ) → k < length text → InText text (0x00400000 + 4 * k)
word_in text f k h = let p : ((0x00400000 + 4 * k) % 4 ≡ 0) × ((0x00400000 ≤ 0x00400000 + 4 * k) × ((0x00400000 + 4 * k - 0x00400000) / 4 ≡ k)) = word_of k (length text) h f in record { aligned = p.0; from = p.1.0; upto = subst (λ (x : ℕ). x < length text) (sym p.1.1) h }

-- the starts
pub last_starts : (text : List ℕ) (entry k : ℕ) (bits : List Bool) → k ≡ length text → Table text (Below (λ w. w ≡ entry) (λ a. made text a) k) bits → Table text (IsStart text entry) bits
last_starts text entry k bits e t = last_by text (λ w. w ≡ entry) (λ a. made text a) (IsStart text entry) k bits e
    (λ w b. elim b as (λ z. IsStart text entry w) [ inl e ↦ begins e | inr m ↦ made_start text entry (0x00400000 + 4 * m.0) w m.1.1 ])
    (λ w s. elim (start_made text entry w s) as (λ z. Below (λ w. w ≡ entry) (λ a. made text a) (length text) w) [ inl e ↦ inl e | inr m ↦ made_here text (λ w. w ≡ entry) (λ a. made text a) m.0 w m.1.0 m.1.1 ])
    t

-- the next words of a word that is marked
nexts_made : (text : List ℕ) (z : Bool) (a w : ℕ) → InText text a → Made (nexts_if text z a) w → (z ≡ true) × Next text a w
nexts_made text true a w i (inl h) = (refl, first_is text a w i h)
nexts_made text true a w i (inr h) = (refl, second_is text a w i h)
nexts_made text false a w i (inl h) = absurd (none_some w h)
nexts_made text false a w i (inr h) = absurd (none_some w h)

made_nexts : (text : List ℕ) (z : Bool) (a w : ℕ) → z ≡ true → Next text a w → Made (nexts_if text z a) w
made_nexts text z a w e n = subst (λ (x : Bool). Made (nexts_if text x a) w) (sym e) (nexts_of text a w n)

pub half_moves : (text : List ℕ) (a : ℕ) → is_half (instr_at text a) ≡ true → MovesHalf text a
half_moves text a h = by (instr_at text a) refl h
  where
    by : (o : Option Instr) → instr_at text a ≡ o → is_half o ≡ true → MovesHalf text a
    by None e h = absurd (no_truth h)
    by (Some (Mfhi rd)) e h = (rd, inl e)
    by (Some (Mflo rd)) e h = (rd, inr e)
    by (Some _) e h = absurd (no_truth h)

pub moves_half : (text : List ℕ) (a : ℕ) → MovesHalf text a → is_half (instr_at text a) ≡ true
moves_half text a m = elim m.1 as (λ z. is_half (instr_at text a) ≡ true) [ inl e ↦ ap (λ (x : Option Instr). is_half x) e | inr e ↦ ap (λ (x : Option Instr). is_half x) e ]

pub last_after : (text : List ℕ) (k : ℕ) (bits : List Bool) → IsText text → k ≡ length text → Table text (Below (λ w. ⊥) (λ a. nexts_if text (is_half (instr_at text a)) a) k) bits → Table text (After text) bits
last_after text k bits f e t = last_by text (λ w. ⊥) (λ a. nexts_if text (is_half (instr_at text a)) a) (After text) k bits e
    (λ w b. elim b as (λ z. After text w) [
      | inl x ↦ absurd x
      | inr m ↦
          let a : ℕ = 0x00400000 + 4 * m.0 in
          let p : (is_half (instr_at text a) ≡ true) × Next text a w = nexts_made text (is_half (instr_at text a)) a w (word_in text f m.0 m.1.0) m.1.1 in
          (a, (half_moves text a p.0, p.1))
    ])
    (λ w s. made_here text (λ w. ⊥) (λ a. nexts_if text (is_half (instr_at text a)) a) s.0 w (next_text text s.0 w s.1.1) (made_nexts text (is_half (instr_at text s.0)) s.0 w (moves_half text s.0 s.1.0) s.1.1))
    t

-- a table says that a word is of it
pub mark_is : (text : List ℕ) (S : ℕ → Type 0) (bits : List Bool) → Table text S bits → (a : ℕ) → starts_at bits a ≡ true → S a
mark_is text S bits t a h =
    let p : (in_words (length bits) a ≡ true) × (get_or bits (text_place a) false ≡ true) = and_parts (in_words (length bits) a) (get_or bits (text_place a) false) h in
    let i : InText text a = in_words_text text (length bits) a t.len p.0 in
    subst S (place_back a i.aligned i.from) (t.sound (text_place a) i.upto p.1)

pub is_mark : (text : List ℕ) (S : ℕ → Type 0) (bits : List Bool) → Table text S bits → (a : ℕ) → InText text a → S a → starts_at bits a ≡ true
is_mark text S bits t a i s = and_both (in_words (length bits) a) (get_or bits (text_place a) false) (text_in_words text (length bits) a t.len i) (t.complete a s i)

pub last_twice : (text : List ℕ) (k : ℕ) (after bits : List Bool) → IsText text → Table text (After text) after → k ≡ length text → Table text (Below (λ w. ⊥) (λ a. nexts_if text (starts_at after a) a) k) bits → Table text (Twice text) bits
last_twice text k after bits f ta e t = last_by text (λ w. ⊥) (λ a. nexts_if text (starts_at after a) a) (Twice text) k bits e
    (λ w b. elim b as (λ z. Twice text w) [
      | inl x ↦ absurd x
      | inr m ↦
          let a : ℕ = 0x00400000 + 4 * m.0 in
          let p : (starts_at after a ≡ true) × Next text a w = nexts_made text (starts_at after a) a w (word_in text f m.0 m.1.0) m.1.1 in
          (a, (mark_is text (After text) after ta a p.0, p.1))
    ])
    (λ w s. made_here text (λ w. ⊥) (λ a. nexts_if text (starts_at after a) a) s.0 w (next_text text s.0 w s.1.1) (made_nexts text (starts_at after s.0) s.0 w (is_mark text (After text) after ta s.0 (next_text text s.0 w s.1.1) s.1.0) s.1.1))
    t

-- the words that a run may enter otherwise
apart_by : (o : Option ℕ) (a b w : ℕ) (z : Bool) → (b == a + 4) ≡ z → cond z None (Some b) ≡ Some w → (b ≡ w) × (a + 4 ≢ w)
apart_by o a b w true e h = absurd (none_some w h)
apart_by o a b w false e h = (some_same b w h, λ k. no_truth (sym e ∙ number_same b (a + 4) (some_same b w h ∙ sym k)))

apart_is : (o : Option ℕ) (a w : ℕ) → apart o a ≡ Some w → (o ≡ Some w) × (a + 4 ≢ w)
apart_is None a w h = absurd (none_some w h)
apart_is (Some b) a w h = let p : (b ≡ w) × (a + 4 ≢ w) = apart_by (Some b) a b w (b == a + 4) refl h in (ap (λ (x : ℕ). Some x) p.0, p.1)

not_true : (z : Bool) → (z ≡ true → ⊥) → z ≡ false
not_true true n = absurd (n refl)
not_true false n = refl

is_apart : (o : Option ℕ) (a w : ℕ) → o ≡ Some w → (a + 4 ≢ w) → apart o a ≡ Some w
is_apart o a w e n = ap (λ (x : Option ℕ). apart x a) e ∙ ap (λ (z : Bool). cond z None (Some w)) (not_true (w == a + 4) (λ h. n (sym (same_number w (a + 4) h))))

back_is : (text : List ℕ) (a w : ℕ) (o : Option Instr) → instr_at text a ≡ o → back_at o a ≡ Some w → (t : ℕ) × (At text a (Jal t) × (w ≡ a + 8))
back_is text a w None e h = absurd (none_some w h)
back_is text a w (Some (Jal t)) e h = (t, (e, sym (some_same (a + 8) w h)))
back_is text a w (Some _) e h = absurd (none_some w h)

-- the second next word of a word is the one behind it
second_behind : (text : List ℕ) (a w : ℕ) → second_next text a ≡ Some w → a + 4 ≡ w
second_behind text a w h = by (is_branch (instr_at text (a - 4)) && not (reporting (skipped text (a - 4)))) h
  where
    by : (z : Bool) → cond z (Some (a + 4)) None ≡ Some w → a + 4 ≡ w
    by true h = some_same (a + 4) w h
    by false h = absurd (none_some w h)

enters_is : (text : List ℕ) (entry a w : ℕ) → InText text a → Made (enters text a) w → Entered text entry w
enters_is text entry a w i (inl h) = let p : (first_next text a ≡ Some w) × (a + 4 ≢ w) = apart_is (first_next text a) a w h in inr (a, (first_is text a w i p.0, p.1))
enters_is text entry a w i (inr h) = let p : (t : ℕ) × (At text a (Jal t) × (w ≡ a + 8)) = back_is text a w (instr_at text a) refl h in inl (IsLanding.returned a p.0 p.1.0 p.1.1)

abbrev EnteredBelow : List ℕ → (entry k w : ℕ) → Type 0
EnteredBelow text entry k w = Below (λ w. w ≡ entry) (λ a. enters text a) k w

next_entered : (text : List ℕ) (entry p w : ℕ) → Next text p w → (p + 4 ≢ w) → EnteredBelow text entry (length text) w
next_entered text entry p w n d = made_here text (λ w. w ≡ entry) (λ a. enters text a) p w (next_text text p w n) (elim (nexts_of text p w n) as (λ z. Made (enters text p) w) [
  | inl e ↦ inl (is_apart (first_next text p) p w e d)
  | inr e ↦ absurd (d (second_behind text p w e))
])

landing_entered : (text : List ℕ) (entry w : ℕ) → IsLanding text entry w → EnteredBelow text entry (length text) w
landing_entered text entry w (IsLanding.begins e) = inl e
landing_entered text entry w (IsLanding.returned a t h e) = made_here text (λ w. w ≡ entry) (λ a. enters text a) a w (in_text text a (Jal t) h) (inr (ap (λ (o : Option Instr). back_at o a) h ∙ ap (λ (x : ℕ). Some x) (sym e)))

pub last_entered : (text : List ℕ) (entry k : ℕ) (bits : List Bool) → IsText text → k ≡ length text → Table text (EnteredBelow text entry k) bits → Table text (Entered text entry) bits
last_entered text entry k bits f e t = last_by text (λ w. w ≡ entry) (λ a. enters text a) (Entered text entry) k bits e
    (λ w b. elim b as (λ z. Entered text entry w) [ inl e ↦ inl (IsLanding.begins e) | inr m ↦ enters_is text entry (0x00400000 + 4 * m.0) w (word_in text f m.0 m.1.0) m.1.1 ])
    (λ w s. elim s as (λ z. EnteredBelow text entry (length text) w) [ inl l ↦ landing_entered text entry w l | inr m ↦ next_entered text entry m.0 w m.1.0 m.1.1 ])
    t
