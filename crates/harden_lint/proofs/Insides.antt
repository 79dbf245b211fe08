-- Where the windows of a text are.
use Rattle.std.proofs.Common.{◌≡◌, ℕ, ◌+◌, ◌-◌, ◌/◌, ◌%◌, ◌^◌, ◌≤◌, ◌<◌, arith, rules, sym, subst, List, length, true, false, Bool, cond, inl, inr}
use Rattle.std.specs.Prelude.{Option, Some, None, ◌==◌, ◌&&◌, nat_le, nat_lt, slice_index}
use Rattle.std.proofs.lemmas.List.Elements.{All-get_or}
use Rattle.hard_words.specs.Words.{AreWords}
use Rattle.mips_isa.specs.declared.instr.Instr.{Instr}
use Rattle.mips_isa.specs.declared.instr.Instr.TheVariants.{Beq, Syscall}
use Rattle.mips_isa.specs.Table.{decoded, IsInRange}
use Rattle.mips_isa.specs.Machine.{text_place}
use Rattle.mips_text.specs.Text.{InText, At, checked, service, result, CheckWindow}
use Rattle.mips_isa.proofs.Inverse.{encodes_decoded}
use Rattle.harden_lint.specs.Theorems.{WindowsInside}
use Rattle.harden_lint.proofs.Places.{in_text}
use Rattle.harden_lint.proofs.Guards.{critical_text}

none_some : (i : Instr) → None ≡ Some i → ⊥
none_some i h = search (rules, h)

decoded_by : (z : Bool) (o : Option Instr) (i : Instr) → cond z o None ≡ Some i → o ≡ Some i
decoded_by true o i h = h
decoded_by false o i h = absurd (none_some i h)

at_decoded : (text : List ℕ) (a : ℕ) (i : Instr) → At text a i → decoded (slice_index text (text_place a)) ≡ Some i
at_decoded text a i h = decoded_by ((a % 4 == 0) && (nat_le 0x00400000 a && nat_lt (text_place a) (length text))) (decoded (slice_index text (text_place a))) i h

two_small : (r : ℕ) → r ≡ 2 → r < 32
two_small r e = omega arith

between : (c a u n : ℕ) → 0x00400000 ≤ c → c + 4 ≤ a → a ≤ u → (u - 0x00400000) / 4 < n → (0x00400000 ≤ a) × ((a - 0x00400000) / 4 < n)
between c a u n h k l m = (omega arith, omega arith)

window_text : (text : List ℕ) (c x y a r : ℕ) → CheckWindow text c x y a r → InText text a
window_text text c x y a r k =
    let b : (0x00400000 ≤ a) × ((a - 0x00400000) / 4 < length text) = between c a k.use_at (length text) (in_text text c (Beq x y 2) k.check).from k.from k.upto (critical_text text k.use_at r k.critical).upto in
    record { aligned = k.aligned; from = b.0; upto = b.1 }

word_at : (text : List ℕ) (a : ℕ) → AreWords text → InText text a → slice_index text (text_place a) < 2 ^ 32
word_at text a w t = All-get_or (λ w. w < 4294967296) text (text_place a) 0 t.upto w

pub windows_inside : WindowsInside
windows_inside text a r w (checked c x y k) =
    let p : IsInRange (Beq x y 2) = (encodes_decoded (slice_index text (text_place c)) (Beq x y 2) (word_at text c w (in_text text c (Beq x y 2) k.check)) (at_decoded text c (Beq x y 2) k.check)).0 in
    (window_text text c x y a r k, elim k.one as (λ z. r < 32) [ inl e ↦ subst (λ (v : ℕ). v < 32) (sym e) p.0 | inr e ↦ subst (λ (v : ℕ). v < 32) (sym e) p.1 ])
windows_inside text a r w (service h e) = (in_text text a Syscall h, two_small r e)
windows_inside text a r w (result b e h k z) = (in_text text a k.instr k.at, two_small r z)
