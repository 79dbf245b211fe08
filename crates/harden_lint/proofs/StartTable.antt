-- The table of starts holds exactly the starts.
use Rattle.std.proofs.Common.{◌≡◌, ℕ, ◌+◌, ◌-◌, ◌*◌, ◌/◌, ◌%◌, ◌≤◌, ◌<◌, arith, rules, ap, refl, sym, ◌∙◌, subst, List, length, get_or, false, true, Bool, cond, inl, inr}
use Rattle.std.specs.Prelude.{Option, Some, None, ◌⊎◌, ◌==◌, ◌&&◌, nat_le, nat_lt, slice_set, replicate}
use Rattle.std.proofs.lemmas.Grind.{common_steps}
use Rattle.mips_isa.specs.declared.instr.Instr.{Instr}
use Rattle.mips_isa.specs.declared.instr.Instr.TheVariants.{Break, J, Jal, Beq, Bne}
use Rattle.mips_isa.specs.Machine.{text_place}
use Rattle.mips_text.specs.Text.{InText, At, instr_at, BranchAt, IsBranch, SkipsBreak, branch_goal, jump_goal}
use Rattle.mips_text.specs.Blocks.{ForkAt, IsStart, begins, jumped, called, returned, taken, passed}
use Rattle.harden_lint.proofs.Places.{no_truth, in_text}
use Rattle.lint_words.specs.Words.{code_of, offset_of, skips_by, skipped, fork_starts, starts_of, made, in_words}
use Rattle.harden_lint.specs.StartTable.{marked, lower, left_out, marked_if, left_if}
use Rattle.harden_lint.specs.StartTable.{Table, Made, Below}

pub none_some : (w : ℕ) → None ≡ Some w → ⊥
none_some w h = search (rules, h)

pub some_same : (v w : ℕ) → Some v ≡ Some w → v ≡ w
some_same v w h = search (rules, h)

-- the break that a branch skips
pub code_break : (o : Option Instr) (code : ℕ) → code_of o ≡ Some code → o ≡ Some (Break code)
code_break None code h = absurd (none_some code h)
code_break (Some (Break c)) code h = ap (λ (x : ℕ). Some (Break x)) (some_same c code h)
code_break (Some _) code h = absurd (none_some code h)

offset_branch : (o : Option Instr) (n : ℕ) → offset_of o ≡ Some n → (x : ℕ) × ((y : ℕ) × ((i : Instr) × ((o ≡ Some i) × IsBranch i x y n)))
offset_branch None n h = absurd (none_some n h)
offset_branch (Some (Beq x y m)) n h = (x, (y, (Beq x y m, (refl, inl (ap (λ (k : ℕ). Beq x y k) (some_same m n h))))))
offset_branch (Some (Bne x y m)) n h = (x, (y, (Bne x y m, (refl, inr (ap (λ (k : ℕ). Bne x y k) (some_same m n h))))))
offset_branch (Some _) n h = absurd (none_some n h)

two_of : (n : ℕ) → (n == 2) ≡ true → n ≡ 2
two_of n h = grind arith

skips_parts_by : (n : ℕ) (k : Option ℕ) (code : ℕ) (z : Bool) → (n == 2) ≡ z → cond z k None ≡ Some code → (n ≡ 2) × (k ≡ Some code)
skips_parts_by n k code true e h = (two_of n e, h)
skips_parts_by n k code false e h = absurd (none_some code h)

skips_parts : (o : Option ℕ) (k : Option ℕ) (code : ℕ) → skips_by o k ≡ Some code → (o ≡ Some 2) × (k ≡ Some code)
skips_parts None k code h = absurd (none_some code h)
skips_parts (Some n) k code h = let p : (n ≡ 2) × (k ≡ Some code) = skips_parts_by n k code (n == 2) refl h in (ap (λ (x : ℕ). Some x) p.0, p.1)

pub skipped_is : (text : List ℕ) (a code : ℕ) → skipped text a ≡ Some code → SkipsBreak text a code
skipped_is text a code h =
    let p : (offset_of (instr_at text a) ≡ Some 2) × (code_of (instr_at text (a + 8)) ≡ Some code) = skips_parts (offset_of (instr_at text a)) (code_of (instr_at text (a + 8))) code h in
    let b : (x : ℕ) × ((y : ℕ) × ((i : Instr) × ((instr_at text a ≡ Some i) × IsBranch i x y 2))) = offset_branch (instr_at text a) 2 p.0 in
    record { x = b.0; y = b.1.0; branch = record { instr = b.1.1.0; at = b.1.1.1.0; is = b.1.1.1.1 }; stop = code_break (instr_at text (a + 8)) code p.1 }

branch_offset : (i : Instr) (x y n : ℕ) → IsBranch i x y n → offset_of (Some i) ≡ Some n
branch_offset i x y n (inl e) = ap (λ (j : Instr). offset_of (Some j)) e
branch_offset i x y n (inr e) = ap (λ (j : Instr). offset_of (Some j)) e

pub is_skipped : (text : List ℕ) (a code : ℕ) → SkipsBreak text a code → skipped text a ≡ Some code
is_skipped text a code k =
    let o : offset_of (instr_at text a) ≡ Some 2 = ap (λ (x : Option Instr). offset_of x) k.branch.at ∙ branch_offset k.branch.instr k.x k.y 2 k.branch.is in
    let c : code_of (instr_at text (a + 8)) ≡ Some code = ap (λ (x : Option Instr). code_of x) k.stop in
    ap (λ (x : Option ℕ). skips_by x (code_of (instr_at text (a + 8)))) o ∙ c

none_skipped : (text : List ℕ) (a : ℕ) → skipped text a ≡ None → (code : ℕ) → SkipsBreak text a code → ⊥
none_skipped text a h code k = none_some code (sym h ∙ is_skipped text a code k)

not_skipped_by : (text : List ℕ) (a : ℕ) (o : Option ℕ) → skipped text a ≡ o → ((code : ℕ) → SkipsBreak text a code → ⊥) → skipped text a ≡ None
not_skipped_by text a None h n = h
not_skipped_by text a (Some code) h n = absurd (n code (skipped_is text a code h))

-- the starts that a word makes
fork_made : (text : List ℕ) (entry a w x y n : ℕ) (k : Option ℕ) → BranchAt text a x y n → skipped text a ≡ k → ((fork_starts k a n).0 ≡ Some w) ⊎ ((fork_starts k a n).1 ≡ Some w) → IsStart text entry w
fork_made text entry a w x y n None b e (inl h) = taken a n (record { x = x; y = y; branch = b; skips_none = none_skipped text a e }) (sym (some_same (branch_goal a n) w h))
fork_made text entry a w x y n None b e (inr h) = passed a n (record { x = x; y = y; branch = b; skips_none = none_skipped text a e }) (sym (some_same (a + 8) w h))
fork_made text entry a w x y n (Some code) b e (inl h) = absurd (none_some w h)
fork_made text entry a w x y n (Some code) b e (inr h) = absurd (none_some w h)

neither : (A : Type 0) (w : ℕ) → (None ≡ Some w) ⊎ (None ≡ Some w) → A
neither A w (inl h) = absurd (none_some w h)
neither A w (inr h) = absurd (none_some w h)

made_by : (text : List ℕ) (entry a w : ℕ) (o : Option Instr) (k : Option ℕ) → instr_at text a ≡ o → skipped text a ≡ k → ((starts_of o k a).0 ≡ Some w) ⊎ ((starts_of o k a).1 ≡ Some w) → IsStart text entry w
made_by text entry a w None k e f h = neither (IsStart text entry w) w h
made_by text entry a w (Some (J t)) k e f (inl h) = jumped a t e (sym (some_same (jump_goal a t) w h))
made_by text entry a w (Some (J t)) k e f (inr h) = absurd (none_some w h)
made_by text entry a w (Some (Jal t)) k e f (inl h) = called a t e (sym (some_same (jump_goal a t) w h))
made_by text entry a w (Some (Jal t)) k e f (inr h) = returned a t e (sym (some_same (a + 8) w h))
made_by text entry a w (Some (Beq x y n)) k e f h = fork_made text entry a w x y n k (record { instr = Beq x y n; at = e; is = inl refl }) f h
made_by text entry a w (Some (Bne x y n)) k e f h = fork_made text entry a w x y n k (record { instr = Bne x y n; at = e; is = inr refl }) f h
made_by text entry a w (Some _) k e f h = neither (IsStart text entry w) w h

pub made_start : (text : List ℕ) (entry a w : ℕ) → Made text a w → IsStart text entry w
made_start text entry a w h = made_by text entry a w (instr_at text a) (skipped text a) refl refl h

made_is : (text : List ℕ) (a : ℕ) (i : Instr) → At text a i → made text a ≡ starts_of (Some i) (skipped text a) a
made_is text a i h = ap (λ (o : Option Instr). starts_of o (skipped text a) a) h

fork_is : (text : List ℕ) (a n : ℕ) → (f : ForkAt text a n) → made text a ≡ (Some (branch_goal a n), Some (a + 8))
fork_is text a n f =
    let s : skipped text a ≡ None = not_skipped_by text a (skipped text a) refl f.skips_none in
    made_is text a f.branch.instr f.branch.at ∙ (elim f.branch.is as (λ z. starts_of (Some f.branch.instr) (skipped text a) a ≡ (Some (branch_goal a n), Some (a + 8))) [
      | inl e ↦ ap (λ (i : Instr). starts_of (Some i) (skipped text a) a) e ∙ ap (λ (k : Option ℕ). fork_starts k a n) s
      | inr e ↦ ap (λ (i : Instr). starts_of (Some i) (skipped text a) a) e ∙ ap (λ (k : Option ℕ). fork_starts k a n) s
    ])

-- a start is the entry, or made by a word
abbrev Makes : List ℕ → (entry w : ℕ) → Type 0
Makes text entry w = (w ≡ entry) ⊎ ((a : ℕ) × (InText text a × Made text a w))

start_made : (text : List ℕ) (entry w : ℕ) → IsStart text entry w → Makes text entry w
start_made text entry w (begins e) = inl e
start_made text entry w (jumped a t h e) = inr (a, (in_text text a (J t) h, inl (ap (λ (p : Option ℕ × Option ℕ). p.0) (made_is text a (J t) h) ∙ ap (λ (x : ℕ). Some x) (sym e))))
start_made text entry w (called a t h e) = inr (a, (in_text text a (Jal t) h, inl (ap (λ (p : Option ℕ × Option ℕ). p.0) (made_is text a (Jal t) h) ∙ ap (λ (x : ℕ). Some x) (sym e))))
start_made text entry w (returned a t h e) = inr (a, (in_text text a (Jal t) h, inr (ap (λ (p : Option ℕ × Option ℕ). p.1) (made_is text a (Jal t) h) ∙ ap (λ (x : ℕ). Some x) (sym e))))
start_made text entry w (taken a n f e) = inr (a, (in_text text a f.branch.instr f.branch.at, inl (ap (λ (p : Option ℕ × Option ℕ). p.0) (fork_is text a n f) ∙ ap (λ (x : ℕ). Some x) (sym e))))
start_made text entry w (passed a n f e) = inr (a, (in_text text a f.branch.instr f.branch.at, inr (ap (λ (p : Option ℕ × Option ℕ). p.1) (fork_is text a n f) ∙ ap (λ (x : ℕ). Some x) (sym e))))

place_back : (a : ℕ) → a % 4 ≡ 0 → 0x00400000 ≤ a → 0x00400000 + 4 * ((a - 0x00400000) / 4) ≡ a
place_back a h k = omega arith

pub below_all : (text : List ℕ) (entry w : ℕ) → IsStart text entry w → Below text entry (length text) w
below_all text entry w s = elim (start_made text entry w s) as (λ z. Below text entry (length text) w) [
  | inl e ↦ inl e
  | inr m ↦ inr (text_place m.0, (m.1.0.upto, subst (λ (x : ℕ). Made text x w) (sym (place_back m.0 m.1.0.aligned m.1.0.from)) m.1.1))
]

pub below_start : (text : List ℕ) (entry k w : ℕ) → Below text entry k w → IsStart text entry w
below_start text entry k w (inl e) = begins e
below_start text entry k w (inr m) = made_start text entry (0x00400000 + 4 * m.0) w m.1.1

-- a table with one more address
zero_of : (n : ℕ) → (n == 0) ≡ true → n ≡ 0
zero_of n h = grind arith

pub in_words_text : (text : List ℕ) (n w : ℕ) → n ≡ length text → in_words n w ≡ true → InText text w
in_words_text text n w e h = record { aligned = first (w % 4) 0x00400000 w (text_place w) n h; from = second (w % 4) 0x00400000 w (text_place w) n h; upto = subst (λ (x : ℕ). text_place w < x) e (third (w % 4) 0x00400000 w (text_place w) n h) }
  where
    first : (x b w p n : ℕ) → ((x == 0) && (nat_le b w && nat_lt p n)) ≡ true → x ≡ 0
    first x b w p n h = grind arith

    second : (x b w p n : ℕ) → ((x == 0) && (nat_le b w && nat_lt p n)) ≡ true → b ≤ w
    second x b w p n h = grind arith

    third : (x b w p n : ℕ) → ((x == 0) && (nat_le b w && nat_lt p n)) ≡ true → p < n
    third x b w p n h = grind arith

pub text_in_words : (text : List ℕ) (n w : ℕ) → n ≡ length text → InText text w → in_words n w ≡ true
text_in_words text n w e t = all (w % 4) 0x00400000 w (text_place w) n t.aligned t.from (subst (λ (x : ℕ). text_place w < x) (sym e) t.upto)
  where
    all : (x b w p n : ℕ) → x ≡ 0 → b ≤ w → p < n → ((x == 0) && (nat_le b w && nat_lt p n)) ≡ true
    all x b w p n h k l = grind arith

out_words : (text : List ℕ) (n w : ℕ) → n ≡ length text → in_words n w ≡ false → InText text w → ⊥
out_words text n w e h t = no_truth (sym h ∙ text_in_words text n w e t)

set_here : (x : List Bool) (k : ℕ) → k < length x → get_or (slice_set x k true) k false ≡ true
set_here x k h = grind (arith, common_steps)

set_still : (x : List Bool) (k j : ℕ) → get_or x j false ≡ true → get_or (slice_set x k true) j false ≡ true
set_still x k j h = grind (arith, common_steps)

set_back : (x : List Bool) (k j : ℕ) → get_or (slice_set x k true) j false ≡ true → (j ≡ k) ⊎ (get_or x j false ≡ true)
set_back x k j h = grind (arith, common_steps)

set_len : (x : List Bool) (k : ℕ) → length (slice_set x k true) ≡ length x
set_len x k = grind (arith, common_steps)

abbrev pub With : (ℕ → Type 0) → ℕ → ℕ → Type 0
With S w v = S v ⊎ (v ≡ w)

in_table : (text : List ℕ) (S : ℕ → Type 0) (bits : List Bool) (out : Option ℕ) (w : ℕ) → Table text S bits out → InText text w → Table text (With S w) (slice_set bits (text_place w) true) out
in_table text S bits out w t i = record {
  len = set_len bits (text_place w) ∙ t.len;
  sound = λ k h g. elim (set_back bits (text_place w) k g) as (λ z. With S w (0x00400000 + 4 * k)) [
    | inl e ↦ inr (ap (λ (x : ℕ). 0x00400000 + 4 * x) e ∙ place_back w i.aligned i.from)
    | inr e ↦ inl (t.sound k h e)
  ];
  complete = λ v s j. elim s as (λ z. get_or (slice_set bits (text_place w) true) (text_place v) false ≡ true) [
    | inl s ↦ set_still bits (text_place w) (text_place v) (t.complete v s j)
    | inr e ↦ subst (λ (x : ℕ). get_or (slice_set bits (text_place w) true) (text_place x) false ≡ true) (sym e) (set_here bits (text_place w) (subst (λ (x : ℕ). text_place w < x) (sym t.len) i.upto))
  ];
  none = λ e v s. elim s as (λ z. InText text v) [ inl s ↦ t.none e v s | inr x ↦ subst (InText text) (sym x) i ];
  some = λ v e. (inl (t.some v e).0, (t.some v e).1);
  lowest = λ u v e s n. elim s as (λ z. u ≤ v) [ inl s ↦ t.lowest u v e s n | inr x ↦ absurd (n (subst (InText text) (sym x) i)) ];
}

out_none : (text : List ℕ) (S : ℕ → Type 0) (bits : List Bool) (w : ℕ) → Table text S bits None → (InText text w → ⊥) → Table text (With S w) bits (Some w)
out_none text S bits w t n = record {
  len = t.len;
  sound = λ k h g. inl (t.sound k h g);
  complete = λ v s j. elim s as (λ z. get_or bits (text_place v) false ≡ true) [ inl s ↦ t.complete v s j | inr e ↦ absurd (n (subst (InText text) e j)) ];
  none = λ e. absurd (none_some w (sym e));
  some = λ v e. (inr (sym (some_same w v e)), λ i. n (subst (InText text) (sym (some_same w v e)) i));
  lowest = λ u v e s m. elim s as (λ z. u ≤ v) [ inl s ↦ absurd (m (t.none refl v s)) | inr x ↦ equal_le u v (sym (some_same w u e) ∙ sym x) ];
}
  where
    equal_le : (u v : ℕ) → u ≡ v → u ≤ v
    equal_le u v h = omega arith

out_lower : (text : List ℕ) (S : ℕ → Type 0) (bits : List Bool) (u w : ℕ) → Table text S bits (Some u) → (InText text w → ⊥) → w < u → Table text (With S w) bits (Some w)
out_lower text S bits u w t n l = record {
  len = t.len;
  sound = λ k h g. inl (t.sound k h g);
  complete = λ v s j. elim s as (λ z. get_or bits (text_place v) false ≡ true) [ inl s ↦ t.complete v s j | inr e ↦ absurd (n (subst (InText text) e j)) ];
  none = λ e. absurd (none_some w (sym e));
  some = λ v e. (inr (sym (some_same w v e)), λ i. n (subst (InText text) (sym (some_same w v e)) i));
  lowest = λ x v e s m. elim s as (λ z. x ≤ v) [ inl s ↦ below_le w u x v l (some_same w x e) (t.lowest u v refl s m) | inr y ↦ equal_le x v (sym (some_same w x e) ∙ sym y) ];
}
  where
    equal_le : (u v : ℕ) → u ≡ v → u ≤ v
    equal_le u v h = omega arith

    below_le : (w u x v : ℕ) → w < u → w ≡ x → u ≤ v → x ≤ v
    below_le w u x v h k l = omega arith

out_higher : (text : List ℕ) (S : ℕ → Type 0) (bits : List Bool) (u w : ℕ) → Table text S bits (Some u) → (InText text w → ⊥) → u ≤ w → Table text (With S w) bits (Some u)
out_higher text S bits u w t n l = record {
  len = t.len;
  sound = λ k h g. inl (t.sound k h g);
  complete = λ v s j. elim s as (λ z. get_or bits (text_place v) false ≡ true) [ inl s ↦ t.complete v s j | inr e ↦ absurd (n (subst (InText text) e j)) ];
  none = λ e. absurd (none_some u (sym e));
  some = λ v e. (inl (t.some v e).0, (t.some v e).1);
  lowest = λ x v e s m. elim s as (λ z. x ≤ v) [ inl s ↦ t.lowest x v e s m | inr y ↦ equal_le u w x v l (some_same u x e) y ];
}
  where
    equal_le : (u w x v : ℕ) → u ≤ w → u ≡ x → v ≡ w → x ≤ v
    equal_le u w x v h k l = omega arith

not_lower : (w u : ℕ) → nat_lt w u ≡ false → u ≤ w
not_lower w u h = grind arith

is_lower : (w u : ℕ) → nat_lt w u ≡ true → w < u
is_lower w u h = grind arith

lower_by : (text : List ℕ) (S : ℕ → Type 0) (bits : List Bool) (u w : ℕ) (z : Bool) → nat_lt w u ≡ z → Table text S bits (Some u) → (InText text w → ⊥) → Table text (With S w) bits (cond z (Some w) (Some u))
lower_by text S bits u w true e t n = out_lower text S bits u w t n (is_lower w u e)
lower_by text S bits u w false e t n = out_higher text S bits u w t n (not_lower w u e)

out_table : (text : List ℕ) (S : ℕ → Type 0) (bits : List Bool) (out : Option ℕ) (w : ℕ) → Table text S bits out → (InText text w → ⊥) → Table text (With S w) bits (lower out w)
out_table text S bits None w t n = out_none text S bits w t n
out_table text S bits (Some u) w t n = lower_by text S bits u w (nat_lt w u) refl t n

mark_by : (text : List ℕ) (S : ℕ → Type 0) (bits : List Bool) (out : Option ℕ) (w : ℕ) (z : Bool) → in_words (length bits) w ≡ z → Table text S bits out → Table text (With S w) (cond z (slice_set bits (text_place w) true) bits) (cond z out (lower out w))
mark_by text S bits out w true e t = in_table text S bits out w t (in_words_text text (length bits) w t.len e)
mark_by text S bits out w false e t = out_table text S bits out w t (out_words text (length bits) w t.len e)

pub mark_table : (text : List ℕ) (S : ℕ → Type 0) (bits : List Bool) (out : Option ℕ) (w : ℕ) → Table text S bits out → Table text (With S w) (marked bits w) (left_out (length bits) out w)
mark_table text S bits out w t = mark_by text S bits out w (in_words (length bits) w) refl t

-- a table of the same addresses
pub same_table : (text : List ℕ) (S T : ℕ → Type 0) (bits : List Bool) (out : Option ℕ) → ((w : ℕ) → S w → T w) → ((w : ℕ) → T w → S w) → Table text S bits out → Table text T bits out
same_table text S T bits out f g t = record {
  len = t.len;
  sound = λ k h e. f (0x00400000 + 4 * k) (t.sound k h e);
  complete = λ w s i. t.complete w (g w s) i;
  none = λ e w s. t.none e w (g w s);
  some = λ w e. (f w (t.some w e).0, (t.some w e).1);
  lowest = λ w v e s n. t.lowest w v e (g v s) n;
}

abbrev pub WithIf : (ℕ → Type 0) → Option ℕ → ℕ → Type 0
WithIf S o v = S v ⊎ (o ≡ Some v)

pub mark_if : (text : List ℕ) (S : ℕ → Type 0) (bits : List Bool) (out : Option ℕ) (o : Option ℕ) → Table text S bits out → Table text (WithIf S o) (marked_if bits o) (left_if (length bits) out o)
mark_if text S bits out None t = same_table text S (WithIf S None) bits out (λ w s. inl s) (λ w s. elim s as (λ z. S w) [ inl s ↦ s | inr e ↦ absurd (none_some w e) ]) t
mark_if text S bits out (Some u) t = same_table text (With S u) (WithIf S (Some u)) (marked bits u) (left_out (length bits) out u)
    (λ w s. elim s as (λ z. WithIf S (Some u) w) [ inl s ↦ inl s | inr e ↦ inr (ap (λ (x : ℕ). Some x) (sym e)) ])
    (λ w s. elim s as (λ z. With S u w) [ inl s ↦ inl s | inr e ↦ inr (sym (some_same u w e)) ])
    (mark_table text S bits out u t)

-- the table before the first word, and after one more
no_bits : (n k : ℕ) → get_or (replicate n false) k false ≡ true → ⊥
no_bits n k h = grind (arith, common_steps)

replicate_len : (n : ℕ) → length (replicate n false) ≡ n
replicate_len n = grind (arith, common_steps)

pub empty_table : (text : List ℕ) → Table text (λ w. ⊥) (replicate (length text) false) None
empty_table text = record {
  len = replicate_len (length text);
  sound = λ k h g. no_bits (length text) k g;
  complete = λ w s i. absurd s;
  none = λ e w s. absurd s;
  some = λ w e. absurd (none_some w e);
  lowest = λ w v e s n. absurd s;
}

pub entry_table : (text : List ℕ) (entry : ℕ) (bits : List Bool) (out : Option ℕ) → Table text (With (λ w. ⊥) entry) bits out → Table text (Below text entry 0) bits out
entry_table text entry bits out t = same_table text (With (λ w. ⊥) entry) (Below text entry 0) bits out
    (λ w s. elim s as (λ z. Below text entry 0 w) [ inl x ↦ absurd x | inr e ↦ inl e ])
    (λ w s. elim s as (λ z. With (λ w. ⊥) entry w) [ inl e ↦ inr e | inr m ↦ absurd (none_below m.0 m.1.0) ])
    t
  where
    none_below : (j : ℕ) → j < 0 → ⊥
    none_below j h = omega arith

less_or : (j k : ℕ) → j < k + 1 → (j < k) ⊎ (j ≡ k)
less_or j k h = grind arith

pub more_table : (text : List ℕ) (entry k : ℕ) (bits : List Bool) (out : Option ℕ) → Table text (WithIf (WithIf (Below text entry k) (made text (0x00400000 + 4 * k)).0) (made text (0x00400000 + 4 * k)).1) bits out → Table text (Below text entry (k + 1)) bits out
more_table text entry k bits out t = same_table text (WithIf (WithIf (Below text entry k) (made text (0x00400000 + 4 * k)).0) (made text (0x00400000 + 4 * k)).1) (Below text entry (k + 1)) bits out
    (λ w s. elim s as (λ z. Below text entry (k + 1) w) [
      | inl (inl (inl e)) ↦ inl e
      | inl (inl (inr m)) ↦ inr (m.0, (longer m.0 k m.1.0, m.1.1))
      | inl (inr e) ↦ inr (k, (self k, inl e))
      | inr e ↦ inr (k, (self k, inr e))
    ])
    (λ w s. elim s as (λ z. WithIf (WithIf (Below text entry k) (made text (0x00400000 + 4 * k)).0) (made text (0x00400000 + 4 * k)).1 w) [
      | inl e ↦ inl (inl (inl e))
      | inr m ↦ elim (less_or m.0 k m.1.0) as (λ z. WithIf (WithIf (Below text entry k) (made text (0x00400000 + 4 * k)).0) (made text (0x00400000 + 4 * k)).1 w) [
        | inl l ↦ inl (inl (inr (m.0, (l, m.1.1))))
        | inr e ↦ elim (subst (λ (x : ℕ). Made text (0x00400000 + 4 * x) w) e m.1.1) as (λ z. WithIf (WithIf (Below text entry k) (made text (0x00400000 + 4 * k)).0) (made text (0x00400000 + 4 * k)).1 w) [
          | inl a ↦ inl (inr a)
          | inr b ↦ inr b
        ]
      ]
    ])
    t
  where
    longer : (j k : ℕ) → j < k → j < k + 1
    longer j k h = omega arith

    self : (k : ℕ) → k < k + 1
    self k = omega arith

pub all_table : (text : List ℕ) (entry : ℕ) (bits : List Bool) (out : Option ℕ) → Table text (Below text entry (length text)) bits out → Table text (IsStart text entry) bits out
all_table text entry bits out t = same_table text (Below text entry (length text)) (IsStart text entry) bits out (below_start text entry (length text)) (below_all text entry) t

-- one turn of the loop over the words
pub turn_table : (text : List ℕ) (entry k n : ℕ) (bits bits1 bits2 : List Bool) (out out1 out2 : Option ℕ) (p : Option ℕ × Option ℕ) → n ≡ length text → Table text (Below text entry k) bits out → p ≡ made text (0x00400000 + 4 * k) → out1 ≡ left_if n out p.0 → bits1 ≡ marked_if bits p.0 → out2 ≡ left_if n out1 p.1 → bits2 ≡ marked_if bits1 p.1 → Table text (Below text entry (k + 1)) bits2 out2
turn_table text entry k n bits bits1 bits2 out out1 out2 p e t m o1 b1 o2 b2 =
    let q : Option ℕ × Option ℕ = made text (0x00400000 + 4 * k) in
    let x1 : out1 ≡ left_if (length bits) out q.0 = o1 ∙ (ap (λ (j : ℕ). left_if j out p.0) (e ∙ sym t.len) ∙ ap (λ (r : Option ℕ × Option ℕ). left_if (length bits) out r.0) m) in
    let y1 : bits1 ≡ marked_if bits q.0 = b1 ∙ ap (λ (r : Option ℕ × Option ℕ). marked_if bits r.0) m in
    let t1 : Table text (WithIf (Below text entry k) q.0) bits1 out1 =
    subst (λ (b : List Bool). Table text (WithIf (Below text entry k) q.0) b out1) (sym y1)
    (subst (λ (o : Option ℕ). Table text (WithIf (Below text entry k) q.0) (marked_if bits q.0) o) (sym x1) (mark_if text (Below text entry k) bits out q.0 t)) in
    let x2 : out2 ≡ left_if (length bits1) out1 q.1 = o2 ∙ (ap (λ (j : ℕ). left_if j out1 p.1) (e ∙ sym t1.len) ∙ ap (λ (r : Option ℕ × Option ℕ). left_if (length bits1) out1 r.1) m) in
    let y2 : bits2 ≡ marked_if bits1 q.1 = b2 ∙ ap (λ (r : Option ℕ × Option ℕ). marked_if bits1 r.1) m in
    more_table text entry k bits2 out2
    (subst (λ (b : List Bool). Table text (WithIf (WithIf (Below text entry k) q.0) q.1) b out2) (sym y2)
    (subst (λ (o : Option ℕ). Table text (WithIf (WithIf (Below text entry k) q.0) q.1) (marked_if bits1 q.1) o) (sym x2) (mark_if text (WithIf (Below text entry k) q.0) bits1 out1 q.1 t1)))

-- the table that the loop begins with
pub first_table : (text : List ℕ) (entry n : ℕ) (bits0 bits : List Bool) (out : Option ℕ) → n ≡ length text → bits0 ≡ replicate n false → bits ≡ marked bits0 entry → out ≡ left_out n None entry → Table text (Below text entry 0) bits out
first_table text entry n bits0 bits out e b0 b o =
    let z : bits0 ≡ replicate (length text) false = b0 ∙ ap (λ (x : ℕ). replicate x false) e in
    let t : Table text (λ w. ⊥) bits0 None = subst (λ (x : List Bool). Table text (λ w. ⊥) x None) (sym z) (empty_table text) in
    entry_table text entry bits out
    (subst (λ (x : List Bool). Table text (With (λ w. ⊥) entry) x out) (sym b)
    (subst (λ (x : Option ℕ). Table text (With (λ w. ⊥) entry) (marked bits0 entry) x) (sym (o ∙ ap (λ (j : ℕ). left_out j None entry) (e ∙ sym t.len))) (mark_table text (λ w. ⊥) bits0 None entry t)))

-- the table that it ends with
pub last_table : (text : List ℕ) (entry k : ℕ) (bits : List Bool) (out : Option ℕ) → k ≡ length text → Table text (Below text entry k) bits out → Table text (IsStart text entry) bits out
last_table text entry k bits out e t = all_table text entry bits out (subst (λ (x : ℕ). Table text (Below text entry x) bits out) e t)
