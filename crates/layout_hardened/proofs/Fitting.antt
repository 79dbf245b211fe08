-- A hardened image of few blocks and few words fits a file.
use Rattle.std.proofs.Common.{◌≡◌, ◌≢◌, ◌≤◌, ◌<◌, ℕ, zero, suc, ◌+◌, ◌-◌, ◌*◌, ◌/◌, ◌%◌, ◌^◌, arith, ap, refl, sym, ◌∙◌, subst, List, [], ◌∷◌, Bool, true, false, cond, inl, inr, length, get_or, le_trans, ⊎_elim}
use Rattle.std.specs.Prelude.{Option, Some, None, ◌==◌, ◌&&◌, nat_le, nat_lt, IsTrue, slice_index}
use Rattle.std.specs.List.{AllByRecursion}
use Rattle.hard_words.specs.Words.{AreWords}
use Rattle.mips_isa.specs.declared.instr.Instr.{Instr}
use Rattle.mips_isa.specs.declared.instr.Instr.TheVariants.{Beq, Syscall, Sw, Jr}
use Rattle.mips_isa.specs.Machine.{text_place}
use Rattle.mips_isa.specs.Table.{IsInRange, decoded}
use Rattle.mips_isa.specs.Inverse.{EncodesDecoded}
use Rattle.mips_isa.specs.Image.{ImageFields}
use Rattle.mips_text.specs.Text.{At, InText, Near, checked, service, result, Critical, base, operand, target, argument}
use Rattle.mips_text.specs.Blocks.{IsStart, begins, IsAlias}
use Rattle.harden_lint.proofs.Places.{in_text}
use Rattle.lint_words.specs.WindowList.{pair_at}
use Rattle.elf_image.specs.Bounds.{is_in_text, is_window, is_alias, Bounds, Fits}
use Rattle.lint_theorem.specs.Hardened.{IsHardened}
use Rattle.layout_hardened.specs.Law.{HasStarts, IsSmall, HardenedFits}
use Rattle.layout_hardened.proofs.Pairs.{Rises, each_from, rises_from, both_true, tells, Coded, code, few_pairs}

-- ---- addresses of the text

in_it : (words a : ℕ) → a % 4 ≡ 0 → 0x00400000 ≤ a → a < 0x00400000 + 4 * words → is_in_text words a ≡ true
in_it words a e h k = both_true (a % 4 == 0) (nat_le 0x00400000 a && nat_lt a (0x00400000 + 4 * words)) (is_zero (a % 4) e) (both_true (nat_le 0x00400000 a) (nat_lt a (0x00400000 + 4 * words)) (is_le 0x00400000 a h) (is_lt a (0x00400000 + 4 * words) k))
  where
    is_zero : (n : ℕ) → n ≡ 0 → (n == 0) ≡ true
    is_zero n h = grind arith

    is_le : (a b : ℕ) → a ≤ b → nat_le a b ≡ true
    is_le a b h = grind arith

    is_lt : (a b : ℕ) → a < b → nat_lt a b ≡ true
    is_lt a b h = grind arith

-- the last byte of a word of the text
end_of : (a n : ℕ) → 0x00400000 ≤ a → a % 4 ≡ 0 → (a - 0x00400000) / 4 < n → a < 0x00400000 + 4 * n
end_of a n h e k = omega arith

text_address : (text : List ℕ) (a : ℕ) → InText text a → is_in_text (length text) a ≡ true
text_address text a t = in_it (length text) a t.aligned t.from (end_of a (length text) t.from t.aligned t.upto)

-- ---- aliases

module _ (image : ImageFields) (hardened : IsHardened image) where
  alias_at : (k : ℕ) → k < length image.aliases → IsAlias image.text image.entry (pair_at image.aliases k).0 (pair_at image.aliases k).1
  alias_at k l = (hardened.aliases.exact (pair_at image.aliases k).0 (pair_at image.aliases k).1).0 (k, l, here image.aliases k l)
    where
      here : (ps : List (ℕ × ℕ)) (k : ℕ) → k < length ps → get_or ps k ((pair_at ps k).0, (pair_at ps k).1) ≡ ((pair_at ps k).0, (pair_at ps k).1)
      here [] k l = absurd (Rattle.std.proofs.Common.not-suc-le-zero l)
      here (p ∷ ps) zero l = refl
      here (p ∷ ps) (suc k) l = here ps k (Rattle.std.proofs.Common.le_of_suc-le-suc l)

  aliases_are : AllByRecursion (λ p. IsAlias image.text image.entry p.0 p.1) image.aliases
  aliases_are = each_from (λ p. IsAlias image.text image.entry p.0 p.1) image.aliases alias_at

  aliases_rise : Rises image.aliases
  aliases_rise = rises_from image.aliases hardened.aliases.ascending

  module _ (n : ℕ) (place : ℕ → ℕ) (starts : HasStarts image n place) where
    pick : (p : ℕ × ℕ) → IsAlias image.text image.entry p.0 p.1 → (x : ℕ) × Coded n place p x
    pick (u, w) a =
        let b : (b : ℕ) × (b < n) × (u ≡ place b) = starts.start u a.from in
        let c : (b : ℕ) × (b < n) × (w ≡ place b) = starts.start w a.to in
        let k : Coded n place (place b.0, place c.0) (b.0 * n + c.0) = code n place b.0 c.0 b.1 c.1 in
        (b.0 * n + c.0, record { below = k.below; first = k.first ∙ sym b.2; second = k.second ∙ sym c.2 })

    pub aliases_few : length image.aliases ≤ n * n
    aliases_few = few_pairs n place (λ p. IsAlias image.text image.entry p.0 p.1) pick image.aliases aliases_are aliases_rise

-- ---- windows

critical_in : (text : List ℕ) (u r : ℕ) → Critical text u r → InText text u
critical_in text u r (base rt imm h) = in_text text u (Sw rt r imm) h
critical_in text u r (operand x y imm b n o) = in_text text u b.instr b.at
critical_in text u r (target h) = in_text text u (Jr r) h
critical_in text u r (argument h e) = in_text text u Syscall h

word_at : (text : List ℕ) (a : ℕ) → AreWords text → InText text a → slice_index text (text_place a) < 2 ^ 32
word_at text a w t = w (text_place a) 0 t.upto

decoded_at : (text : List ℕ) (a : ℕ) (i : Instr) → At text a i → decoded (slice_index text (text_place a)) ≡ Some i
decoded_at text a i h = by (a % 4 == 0) (nat_le 0x00400000 a) (nat_lt (text_place a) (length text)) (decoded (slice_index text (text_place a))) h
  where
    none : None ≡ Some i → ⊥
    none e = cc

    by : (x y z : Bool) (o : Option Instr) → cond (x && (y && z)) o None ≡ Some i → o ≡ Some i
    by true true true o e = e
    by true true false o e = absurd (none e)
    by true false z o e = absurd (none e)
    by false y z o e = absurd (none e)

module _ (decodes : EncodesDecoded) (image : ImageFields) (small : IsSmall image) where
  registers : (c x y imm : ℕ) → At image.text c (Beq x y imm) → (x < 32) × (y < 32)
  registers c x y imm h =
      let t : InText image.text c = in_text image.text c (Beq x y imm) h in
      let r : IsInRange (Beq x y imm) = (decodes (slice_index image.text (text_place c)) (Beq x y imm) (word_at image.text c small.are_words t) (decoded_at image.text c (Beq x y imm) h)).0 in
      (r.0, r.1)

  register_fits : (r : ℕ) → r ≢ 0 → r < 32 → (nat_le 1 r && nat_le r 31) ≡ true
  register_fits r n h = both_true (nat_le 1 r) (nat_le r 31) (is_le 1 r (positive r n)) (is_le r 31 (below r h))
    where
      is_le : (a b : ℕ) → a ≤ b → nat_le a b ≡ true
      is_le a b h = grind arith

      positive : (r : ℕ) → r ≢ 0 → 1 ≤ r
      positive r n = omega arith

      below : (r : ℕ) → r < 32 → r ≤ 31
      below r h = omega arith

  window_fits : (p : ℕ × ℕ) → Near image.text p.0 p.1 → is_window (length image.text) p ≡ true
  window_fits (a, r) (checked c x y w) =
      let t : InText image.text c = in_text image.text c (Beq x y 2) w.check in
      let u : InText image.text w.use_at = critical_in image.text w.use_at r w.critical in
      let low : (x < 32) × (y < 32) = registers c x y 2 w.check in
      both_true (is_in_text (length image.text) a) (nat_le 1 r && nat_le r 31)
      (in_it (length image.text) a w.aligned (from c a t.from w.from) (Rattle.std.proofs.Common.lt_of_le_of_lt w.upto (end_of w.use_at (length image.text) u.from u.aligned u.upto)))
      (⊎_elim (λ e. subst (λ (z : ℕ). (nat_le 1 z && nat_le z 31) ≡ true) (sym e) (register_fits x w.x_not_zero low.0)) (λ e. subst (λ (z : ℕ). (nat_le 1 z && nat_le z 31) ≡ true) (sym e) (register_fits y w.y_not_zero low.1)) w.one)
    where
      from : (c a : ℕ) → 0x00400000 ≤ c → c + 4 ≤ a → 0x00400000 ≤ a
      from c a h k = omega arith
  window_fits (a, r) (service h e) = both_true (is_in_text (length image.text) a) (nat_le 1 r && nat_le r 31) (text_address image.text a (in_text image.text a Syscall h)) (subst (λ (z : ℕ). (nat_le 1 z && nat_le z 31) ≡ true) (sym e) refl)
  window_fits (a, r) (result b e h w q) = both_true (is_in_text (length image.text) a) (nat_le 1 r && nat_le r 31) (text_address image.text a (in_text image.text a w.instr w.at)) (subst (λ (z : ℕ). (nat_le 1 z && nat_le z 31) ≡ true) (sym q) refl)

  module _ (hardened : IsHardened image) (n : ℕ) (place : ℕ → ℕ) (starts : HasStarts image n place) where
    start_in : (w : ℕ) → IsStart image.text image.entry w → InText image.text w
    start_in w s = starts.in_text w s

    entry_in : InText image.text image.entry
    entry_in = start_in image.entry (begins refl)

    windows_tell : IsTrue (Rattle.elf_image.specs.Bounds.all_ascending (is_window (length image.text)) None image.windows)
    windows_tell = tells (is_window (length image.text)) None image.windows tt
        (each_from (λ p. is_window (length image.text) p ≡ true) image.windows (λ k l. window_fits (pair_at image.windows k) (hardened.windows.sound k l)))
        (rises_from image.windows hardened.windows.ascending)

    alias_fits : (p : ℕ × ℕ) → IsAlias image.text image.entry p.0 p.1 → is_alias (length image.text) p ≡ true
    alias_fits (u, w) a = both_true (is_in_text (length image.text) u) (is_in_text (length image.text) w) (text_address image.text u (start_in u a.from)) (text_address image.text w (start_in w a.to))

    aliases_tell : IsTrue (Rattle.elf_image.specs.Bounds.all_ascending (is_alias (length image.text)) None image.aliases)
    aliases_tell = tells (is_alias (length image.text)) None image.aliases tt (each_from (λ p. is_alias (length image.text) p ≡ true) image.aliases (λ k l. alias_fits (pair_at image.aliases k) (alias_at image hardened k l))) (aliases_rise image hardened)

    pub fits : Fits image
    fits = record {
      bounds = record {
        sizes = record { some_text = some_text (text_place image.entry) (length image.text) entry_in.upto; text = small.text; some_memory = small.some_memory; memory = le_trans small.memory (omega arith); initial = small.initial };
        entry = text_address image.text image.entry entry_in;
        windows = windows_tell;
        aliases = aliases_tell;
      };
      whole = whole (length image.text) (length image.initial) (length image.windows) (length image.aliases) small.text (le_trans small.initial small.memory) small.windows small.aliases;
    }
      where
        some_text : (k m : ℕ) → k < m → 1 ≤ m
        some_text k m h = omega arith

        whole : (t i w a : ℕ) → t ≤ 66060288 → i ≤ 65536 → w ≤ t → a ≤ 256000000 → (4096 + 4 * t + 4095) / 4096 * 4096 + 4 * i + 8 * w + 8 * a + 52 + 240 ≤ 3221225472
        whole t i w a h k l m = omega arith

pub hardened_fits : EncodesDecoded → HardenedFits
hardened_fits decodes image n place h s small = fits decodes image small h n place s
