-- The table of starts holds exactly the starts of the text.
use Rattle.std.proofs.Common.{◌≡◌, ℕ, ◌+◌, ◌-◌, ◌*◌, ◌/◌, ◌%◌, ◌≤◌, ◌<◌, arith, ap, refl, sym, ◌∙◌, subst, List, length, get_or, false, true, Bool, cond, inl, inr}
use Rattle.std.specs.Prelude.{Option, Some, None, ◌⊎◌, slice_set, replicate}
use Rattle.std.proofs.lemmas.Grind.{common_steps}
use Rattle.mips_isa.specs.Machine.{text_place}
use Rattle.mips_text.specs.Text.{InText}
use Rattle.mips_text.specs.Blocks.{IsStart}
use Rattle.lint_words.specs.Words.{made, in_words}
use Rattle.harden_lint.specs.StartTable.{Below, marked, marked_if}
use Rattle.harden_lint.proofs.StartTable.{none_some, some_same, in_words_text, text_in_words, below_all, below_start}
use Rattle.run_audit.specs.Turns.{Bits}

place_back : (a : ℕ) → a % 4 ≡ 0 → 0x00400000 ≤ a → 0x00400000 + 4 * ((a - 0x00400000) / 4) ≡ a
place_back a h k = omega arith

set_here : (x : List Bool) (k : ℕ) → k < length x → get_or (slice_set x k true) k false ≡ true
set_here x k h = grind (arith, common_steps)

set_still : (x : List Bool) (k j : ℕ) → get_or x j false ≡ true → get_or (slice_set x k true) j false ≡ true
set_still x k j h = grind (arith, common_steps)

set_back : (x : List Bool) (k j : ℕ) → get_or (slice_set x k true) j false ≡ true → (j ≡ k) ⊎ (get_or x j false ≡ true)
set_back x k j h = grind (arith, common_steps)

set_len : (x : List Bool) (k : ℕ) → length (slice_set x k true) ≡ length x
set_len x k = grind (arith, common_steps)

-- the addresses of a table with one more
abbrev With : (ℕ → Type 0) → ℕ → ℕ → Type 0
With S w v = S v ⊎ (v ≡ w)

abbrev WithIf : (ℕ → Type 0) → Option ℕ → ℕ → Type 0
WithIf S o v = S v ⊎ (o ≡ Some v)

inside : (text : List ℕ) (S : ℕ → Type 0) (bits : List Bool) (w : ℕ) → Bits text S bits → InText text w → Bits text (With S w) (slice_set bits (text_place w) true)
inside text S bits w t i = record {
  len = set_len bits (text_place w) ∙ t.len;
  sound = λ k h g. elim (set_back bits (text_place w) k g) as (λ z. With S w (0x00400000 + 4 * k)) [
    | inl e ↦ inr (ap (λ (x : ℕ). 0x00400000 + 4 * x) e ∙ place_back w i.aligned i.from)
    | inr e ↦ inl (t.sound k h e)
  ];
  complete = λ v s j. elim s as (λ z. get_or (slice_set bits (text_place w) true) (text_place v) false ≡ true) [
    | inl s ↦ set_still bits (text_place w) (text_place v) (t.complete v s j)
    | inr e ↦ subst (λ (x : ℕ). get_or (slice_set bits (text_place w) true) (text_place x) false ≡ true) (sym e) (set_here bits (text_place w) (subst (λ (x : ℕ). text_place w < x) (sym t.len) i.upto))
  ];
}

no_truth : false ≡ true → ⊥
no_truth h = cc

out_words : (text : List ℕ) (n w : ℕ) → n ≡ length text → in_words n w ≡ false → InText text w → ⊥
out_words text n w e h t = no_truth (sym h ∙ text_in_words text n w e t)

outside : (text : List ℕ) (S : ℕ → Type 0) (bits : List Bool) (w : ℕ) → Bits text S bits → (InText text w → ⊥) → Bits text (With S w) bits
outside text S bits w t n = record {
  len = t.len;
  sound = λ k h g. inl (t.sound k h g);
  complete = λ v s j. elim s as (λ z. get_or bits (text_place v) false ≡ true) [ inl s ↦ t.complete v s j | inr e ↦ absurd (n (subst (InText text) e j)) ];
}

mark_by : (text : List ℕ) (S : ℕ → Type 0) (bits : List Bool) (w : ℕ) (z : Bool) → in_words (length bits) w ≡ z → Bits text S bits → Bits text (With S w) (cond z (slice_set bits (text_place w) true) bits)
mark_by text S bits w true e t = inside text S bits w t (in_words_text text (length bits) w t.len e)
mark_by text S bits w false e t = outside text S bits w t (out_words text (length bits) w t.len e)

mark_bits : (text : List ℕ) (S : ℕ → Type 0) (bits : List Bool) (w : ℕ) → Bits text S bits → Bits text (With S w) (marked bits w)
mark_bits text S bits w t = mark_by text S bits w (in_words (length bits) w) refl t

-- a table of the same addresses
same_bits : (text : List ℕ) (S T : ℕ → Type 0) (bits : List Bool) → ((w : ℕ) → S w → T w) → ((w : ℕ) → T w → S w) → Bits text S bits → Bits text T bits
same_bits text S T bits f g t = record { len = t.len; sound = λ k h e. f (0x00400000 + 4 * k) (t.sound k h e); complete = λ w s i. t.complete w (g w s) i }

mark_if : (text : List ℕ) (S : ℕ → Type 0) (bits : List Bool) (o : Option ℕ) → Bits text S bits → Bits text (WithIf S o) (marked_if bits o)
mark_if text S bits None t = same_bits text S (WithIf S None) bits (λ w s. inl s) (λ w s. elim s as (λ z. S w) [ inl s ↦ s | inr e ↦ absurd (none_some w e) ]) t
mark_if text S bits (Some u) t = same_bits text (With S u) (WithIf S (Some u)) (marked bits u)
    (λ w s. elim s as (λ z. WithIf S (Some u) w) [ inl s ↦ inl s | inr e ↦ inr (ap (λ (x : ℕ). Some x) (sym e)) ])
    (λ w s. elim s as (λ z. With S u w) [ inl s ↦ inl s | inr e ↦ inr (sym (some_same u w e)) ])
    (mark_bits text S bits u t)

no_bits : (n k : ℕ) → get_or (replicate n false) k false ≡ true → ⊥
no_bits n k h = grind (arith, common_steps)

replicate_len : (n : ℕ) → length (replicate n false) ≡ n
replicate_len n = grind (arith, common_steps)

empty_bits : (text : List ℕ) → Bits text (λ w. ⊥) (replicate (length text) false)
empty_bits text = record { len = replicate_len (length text); sound = λ k h g. no_bits (length text) k g; complete = λ w s i. absurd s }

none_below : (j : ℕ) → j < 0 → ⊥
none_below j h = omega arith

less_or : (j k : ℕ) → j < k + 1 → (j < k) ⊎ (j ≡ k)
less_or j k h = grind arith

longer : (j k : ℕ) → j < k → j < k + 1
longer j k h = omega arith

self : (k : ℕ) → k < k + 1
self k = omega arith

-- the table that the loop over the words begins with
pub first_bits : (text : List ℕ) (entry n : ℕ) (zeros bits : List Bool) → n ≡ length text → zeros ≡ replicate n false → bits ≡ marked zeros entry → Bits text (Below text entry 0) bits
first_bits text entry n zeros bits e z b =
    let t : Bits text (λ w. ⊥) zeros = subst (λ (x : List Bool). Bits text (λ w. ⊥) x) (sym (z ∙ ap (λ (x : ℕ). replicate x false) e)) (empty_bits text) in
    same_bits text (With (λ w. ⊥) entry) (Below text entry 0) bits
    (λ w s. elim s as (λ z. Below text entry 0 w) [ inl x ↦ absurd x | inr e ↦ inl e ])
    (λ w s. elim s as (λ z. With (λ w. ⊥) entry w) [ inl e ↦ inr e | inr m ↦ absurd (none_below m.0 m.1.0) ])
    (subst (λ (x : List Bool). Bits text (With (λ w. ⊥) entry) x) (sym b) (mark_bits text (λ w. ⊥) zeros entry t))

-- one turn of it
pub turn_bits : (text : List ℕ) (entry k : ℕ) (bits bits1 bits2 : List Bool) (p : Option ℕ × Option ℕ) → Bits text (Below text entry k) bits → p ≡ made text (0x00400000 + 4 * k) → bits1 ≡ marked_if bits p.0 → bits2 ≡ marked_if bits1 p.1 → Bits text (Below text entry (k + 1)) bits2
turn_bits text entry k bits bits1 bits2 p t m b1 b2 =
    let q : Option ℕ × Option ℕ = made text (0x00400000 + 4 * k) in
    let B : ℕ → Type 0 = Below text entry k in
    let W : ℕ → Type 0 = WithIf (WithIf B q.0) q.1 in
    let t1 : Bits text (WithIf B q.0) bits1 = subst (λ (b : List Bool). Bits text (WithIf B q.0) b) (sym (b1 ∙ ap (λ (r : Option ℕ × Option ℕ). marked_if bits r.0) m)) (mark_if text B bits q.0 t) in
    let t2 : Bits text W bits2 = subst (λ (b : List Bool). Bits text W b) (sym (b2 ∙ ap (λ (r : Option ℕ × Option ℕ). marked_if bits1 r.1) m)) (mark_if text (WithIf B q.0) bits1 q.1 t1) in
    same_bits text W (Below text entry (k + 1)) bits2
    (λ w s. elim s as (λ z. Below text entry (k + 1) w) [
      | inl (inl (inl e)) ↦ inl e
      | inl (inl (inr x)) ↦ inr (x.0, (longer x.0 k x.1.0, x.1.1))
      | inl (inr e) ↦ inr (k, (self k, inl e))
      | inr e ↦ inr (k, (self k, inr e))
    ])
    (λ w s. elim s as (λ z. WithIf (WithIf (Below text entry k) (made text (0x00400000 + 4 * k)).0) (made text (0x00400000 + 4 * k)).1 w) [
      | inl e ↦ inl (inl (inl e))
      | inr x ↦ later w x
    ]) t2
  where
    later : (w : ℕ) → (j : ℕ) × ((j < k + 1) × (((made text (0x00400000 + 4 * j)).0 ≡ Some w) ⊎ ((made text (0x00400000 + 4 * j)).1 ≡ Some w))) → WithIf (WithIf (Below text entry k) (made text (0x00400000 + 4 * k)).0) (made text (0x00400000 + 4 * k)).1 w
    later w x = elim (less_or x.0 k x.1.0) as (λ z. WithIf (WithIf (Below text entry k) (made text (0x00400000 + 4 * k)).0) (made text (0x00400000 + 4 * k)).1 w) [
      | inl l ↦ inl (inl (inr (x.0, (l, x.1.1))))
      | inr e ↦ elim (subst (λ (y : ℕ). ((made text (0x00400000 + 4 * y)).0 ≡ Some w) ⊎ ((made text (0x00400000 + 4 * y)).1 ≡ Some w)) e x.1.1) as (λ z. WithIf (WithIf (Below text entry k) (made text (0x00400000 + 4 * k)).0) (made text (0x00400000 + 4 * k)).1 w) [
        | inl a ↦ inl (inr a)
        | inr b ↦ inr b
      ]
    ]

-- the table that it ends with
pub last_bits : (text : List ℕ) (entry k : ℕ) (bits : List Bool) → k ≡ length text → Bits text (Below text entry k) bits → Bits text (IsStart text entry) bits
last_bits text entry k bits e t = same_bits text (Below text entry k) (IsStart text entry) bits (below_start text entry k) (λ w s. subst (λ (x : ℕ). Below text entry x w) (sym e) (below_all text entry w s)) t
