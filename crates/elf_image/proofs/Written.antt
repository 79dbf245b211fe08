-- What is written is an image of its fields.
use Rattle.std.proofs.Common.{◌≡◌, ℕ, suc, ◌+◌, ◌-◌, ◌*◌, ◌/◌, ◌%◌, ◌^◌, ◌<◌, ◌≤◌, Bool, true, arith, ap, refl, sym, ◌∙◌, subst, List, [], ◌∷◌, ◌++◌, length, drop, append_assoc, append-nil, length-append, leb-true, ltb-true, add_assoc, get_or}
use Rattle.std.specs.Prelude.{IsTrue, ◌&&◌, ◌==◌, nat_le, Option, Some, None}
use Rattle.std.specs.List.{flat_map}
use Rattle.std.proofs.lemmas.Grind.{common_steps}
use Rattle.std.proofs.Math.Seq.{drop-append_seam}
use Rattle.byteorder.specs.Endian.{big_number}
use Rattle.byteorder.specs.Numbers.{big_number-reads_back}
use Rattle.mips_isa.specs.Image.{ImageFields}
use Rattle.elf_image.specs.declared.layout.Sizes.{Sizes}
use Rattle.elf_image.specs.declared.layout.TheConstants.{HEADER}
use Rattle.std.proofs.lemmas.List.Elements.{All-nil, All-cons}
use Rattle.hard_words.specs.Words.{AreWords}
use Rattle.elf_image.specs.Layout.{sizes_of, data_at, windows_at, aliases_at, names_at, sections_at, ident, kinds, places, counts, text_segment, data_segment, no_section, text_section, data_section, windows_section, aliases_section, names_section, names, half, word, pair, header, segments, sections, zeros, front, back, image_bytes}
use Rattle.elf_image.specs.Bounds.{Bounds, SizesFit, Fits, is_in_text, is_window, is_alias, is_after, all_ascending}
use Rattle.elf_image.specs.Held.{number_at, has, has_fields, flat, IsImage}
use Rattle.elf_image.proofs.Has.{and_left, and_right, has_more, has_none}

-- numbers of 32 bits, one by one
abbrev EachWord : List ℕ → Type 0
EachWord [] = Unit {0}
EachWord (n ∷ ns) = (n < 2 ^ 32) × EachWord ns

each_word : (ns : List ℕ) → AreWords ns → EachWord ns
each_word [] h = tt
each_word (n ∷ ns) h = (h 0 0 (omega arith), each_word ns (λ k d within. h (suc k) d (omega arith)))

-- From an offset on, a file is this list.
pub record At (whole : List ℕ) (n : ℕ) (list : List ℕ) : Type 0 where
  before : List ℕ
  long : length before ≡ n
  parts : before ++ list ≡ whole

next : (whole x y : List ℕ) (n m : ℕ) → At whole n (x ++ y) → n + length x ≡ m → At whole m y
next whole x y n m a e = record {
  before = a.before ++ x;
  long = length-append a.before x ∙ (ap (λ (k : ℕ). k + length x) a.long ∙ e);
  parts = append_assoc a.before x y ∙ a.parts;
}

ends : (whole : List ℕ) (n : ℕ) → At whole n [] → length whole ≡ n
ends whole n a = ap (λ (l : List ℕ). length l) (sym a.parts ∙ append-nil a.before) ∙ a.long

-- the number of a word at an offset
word_here : (whole rest : List ℕ) (n at : ℕ) → At whole at (word n ++ rest) → n < 2 ^ 32 → number_at 4 at whole ≡ n
unfolding number_at word
word_here whole rest n at a h =
    ap (λ (k : ℕ). big_number 4 (drop k whole)) (sym a.long)
    ∙ (ap (λ (l : List ℕ). big_number 4 (drop (length a.before) l)) (sym a.parts)
    ∙ (ap (λ (l : List ℕ). big_number 4 l) (drop-append_seam a.before (word n ++ rest)) ∙ big_number-reads_back 4 n rest h))

length_word : (n : ℕ) → length (word n) ≡ 4
unfolding word
length_word n = refl

after_word : (at n : ℕ) → at + length (word n) ≡ at + 4
after_word at n = ap (λ (k : ℕ). at + k) (length_word n)

-- the words at an offset
words_here : (whole : List ℕ) (ns : List ℕ) (rest : List ℕ) (at : ℕ) → At whole at (flat_map word ns ++ rest) → EachWord ns → IsTrue (has 4 ns at whole)
words_here whole [] rest at a h = has_none 4 at whole
words_here whole (n ∷ ns) rest at a h =
    let b : At whole at (word n ++ (flat_map word ns ++ rest)) = record { before = a.before; long = a.long; parts = ap (λ (l : List ℕ). a.before ++ l) (sym (append_assoc (word n) (flat_map word ns) rest)) ∙ a.parts } in
    has_more 4 n ns at whole (word_here whole (flat_map word ns ++ rest) n at b h.0)
    (words_here whole ns rest (at + 4) (next whole (word n) (flat_map word ns ++ rest) at (at + 4) b (after_word at n)) h.1)

one_digit : (n : ℕ) → n * 256 ^ 0 + 0 ≡ n
one_digit n = omega arith

-- the number of a byte at an offset
byte_here : (whole rest : List ℕ) (n at : ℕ) → At whole at (n ∷ rest) → number_at 1 at whole ≡ n
unfolding number_at
byte_here whole rest n at a =
    ap (λ (k : ℕ). big_number 1 (drop k whole)) (sym a.long)
    ∙ (ap (λ (l : List ℕ). big_number 1 (drop (length a.before) l)) (sym a.parts)
    ∙ (ap (λ (l : List ℕ). big_number 1 l) (drop-append_seam a.before (n ∷ rest)) ∙ one_digit n))

-- the bytes at an offset
bytes_here : (whole : List ℕ) (ns : List ℕ) (rest : List ℕ) (at : ℕ) → At whole at (ns ++ rest) → IsTrue (has 1 ns at whole)
bytes_here whole [] rest at a = has_none 1 at whole
bytes_here whole (n ∷ ns) rest at a =
    has_more 1 n ns at whole (byte_here whole (ns ++ rest) n at a)
    (bytes_here whole ns rest (at + 1) (next whole (n ∷ []) (ns ++ rest) at (at + 1) a refl))

-- pairs are written as their numbers
pairs_as_words : (ps : List (ℕ × ℕ)) → flat_map pair ps ≡ flat_map word (flat ps)
unfolding pair
pairs_as_words [] = refl
pairs_as_words (p ∷ ps) =
    append_assoc (word p.0) (word p.1) (flat_map pair ps)
    ∙ ap (λ (l : List ℕ). word p.0 ++ (word p.1 ++ l)) (pairs_as_words ps)

length_words : (ns : List ℕ) → length (flat_map word ns) ≡ 4 * length ns
length_words [] = refl
length_words (n ∷ ns) =
    let r = length_words ns in
    let w = length_word n in
    let e = length-append (word n) (flat_map word ns) in
    omega arith

length_flat : (ps : List (ℕ × ℕ)) → length (flat ps) ≡ 2 * length ps
length_flat [] = refl
length_flat (p ∷ ps) = let r = length_flat ps in omega arith

length_zeros : (n : ℕ) → length (zeros n) ≡ n
unfolding zeros
length_zeros n = grind (arith, common_steps)

in_text_fits : (words a : ℕ) → words ≤ 66060288 → is_in_text words a ≡ true → a < 2 ^ 32
in_text_fits words a h e =
    let l : a < 0x00400000 + 4 * words = ltb-true a (0x00400000 + 4 * words) (and_right (nat_le 0x00400000 a) _ (and_right (a % 4 == 0) _ e)) in
    omega arith

window_fits : (words : ℕ) (p : ℕ × ℕ) → words ≤ 66060288 → is_window words p ≡ true → (p.0 < 2 ^ 32) × (p.1 < 2 ^ 32)
window_fits words p h e =
    let r : p.1 ≤ 31 = leb-true p.1 31 (and_right (nat_le 1 p.1) _ (and_right (is_in_text words p.0) _ e)) in
    (in_text_fits words p.0 h (and_left (is_in_text words p.0) _ e), omega arith)

alias_fits : (words : ℕ) (p : ℕ × ℕ) → words ≤ 66060288 → is_alias words p ≡ true → (p.0 < 2 ^ 32) × (p.1 < 2 ^ 32)
alias_fits words p h e = (in_text_fits words p.0 h (and_left (is_in_text words p.0) (is_in_text words p.1) e), in_text_fits words p.1 h (and_right (is_in_text words p.0) (is_in_text words p.1) e))

pairs_fit : (test : ℕ × ℕ → Bool) → ((p : ℕ × ℕ) → test p ≡ true → (p.0 < 2 ^ 32) × (p.1 < 2 ^ 32)) → (last : Option (ℕ × ℕ)) (ps : List (ℕ × ℕ)) → all_ascending test last ps ≡ true → EachWord (flat ps)
pairs_fit test fits last [] h = tt
pairs_fit test fits last (p ∷ ps) h =
    let here : (is_after last p && test p) ≡ true = and_left (is_after last p && test p) (all_ascending test (Some p) ps) h in
    let f : (p.0 < 2 ^ 32) × (p.1 < 2 ^ 32) = fits p (and_right (is_after last p) (test p) here) in
    (f.0, (f.1, pairs_fit test fits (Some p) ps (and_right (is_after last p && test p) (all_ascending test (Some p) ps) h)))

-- the numbers of the tables have 32 bits
text_segment_fits : (s : Sizes) → SizesFit s → sections_at s + 240 ≤ 3221225472 → EachWord (text_segment s)
unfolding text_segment
text_segment_fits s f h = (omega arith, (omega arith, (omega arith, (omega arith, (omega arith, (omega arith, (omega arith, (omega arith, tt))))))))

data_segment_fits : (s : Sizes) → SizesFit s → sections_at s + 240 ≤ 3221225472 → EachWord (data_segment s)
unfolding data_segment
data_segment_fits s f h = (omega arith, (omega arith, (omega arith, (omega arith, (omega arith, (omega arith, (omega arith, (omega arith, tt))))))))

no_section_fits : EachWord no_section
unfolding no_section
no_section_fits = (omega arith, (omega arith, (omega arith, (omega arith, (omega arith, (omega arith, (omega arith, (omega arith, (omega arith, (omega arith, tt))))))))))

text_section_fits : (s : Sizes) → SizesFit s → sections_at s + 240 ≤ 3221225472 → EachWord (text_section s)
unfolding text_section
text_section_fits s f h = (omega arith, (omega arith, (omega arith, (omega arith, (omega arith, (omega arith, (omega arith, (omega arith, (omega arith, (omega arith, tt))))))))))

data_section_fits : (s : Sizes) → SizesFit s → sections_at s + 240 ≤ 3221225472 → EachWord (data_section s)
unfolding data_section
data_section_fits s f h = (omega arith, (omega arith, (omega arith, (omega arith, (omega arith, (omega arith, (omega arith, (omega arith, (omega arith, (omega arith, tt))))))))))

windows_section_fits : (s : Sizes) → SizesFit s → sections_at s + 240 ≤ 3221225472 → EachWord (windows_section s)
unfolding windows_section
windows_section_fits s f h = (omega arith, (omega arith, (omega arith, (omega arith, (omega arith, (omega arith, (omega arith, (omega arith, (omega arith, (omega arith, tt))))))))))

aliases_section_fits : (s : Sizes) → SizesFit s → sections_at s + 240 ≤ 3221225472 → EachWord (aliases_section s)
unfolding aliases_section
aliases_section_fits s f h = (omega arith, (omega arith, (omega arith, (omega arith, (omega arith, (omega arith, (omega arith, (omega arith, (omega arith, (omega arith, tt))))))))))

names_section_fits : (s : Sizes) → SizesFit s → sections_at s + 240 ≤ 3221225472 → EachWord (names_section s)
unfolding names_section
names_section_fits s f h = (omega arith, (omega arith, (omega arith, (omega arith, (omega arith, (omega arith, (omega arith, (omega arith, (omega arith, (omega arith, tt))))))))))

length_text_segment : (s : Sizes) → length (flat_map word (text_segment s)) ≡ 32
unfolding text_segment
length_text_segment s = length_words (text_segment s)

length_data_segment : (s : Sizes) → length (flat_map word (data_segment s)) ≡ 32
unfolding data_segment
length_data_segment s = length_words (data_segment s)

length_no_section : length (flat_map word no_section) ≡ 40
unfolding no_section
length_no_section = length_words no_section

length_text_section : (s : Sizes) → length (flat_map word (text_section s)) ≡ 40
unfolding text_section
length_text_section s = length_words (text_section s)

length_data_section : (s : Sizes) → length (flat_map word (data_section s)) ≡ 40
unfolding data_section
length_data_section s = length_words (data_section s)

length_windows_section : (s : Sizes) → length (flat_map word (windows_section s)) ≡ 40
unfolding windows_section
length_windows_section s = length_words (windows_section s)

length_aliases_section : (s : Sizes) → length (flat_map word (aliases_section s)) ≡ 40
unfolding aliases_section
length_aliases_section s = length_words (aliases_section s)

length_names_section : (s : Sizes) → length (flat_map word (names_section s)) ≡ 40
unfolding names_section
length_names_section s = length_words (names_section s)

length_names : length names ≡ 52
unfolding names
length_names = refl

length_header : (i : ImageFields) → length (header i) ≡ 52
unfolding header ident kinds places counts half word
length_header i = refl

-- the fixed fields of the header
header_fields : (i : ImageFields) (rest : List ℕ) → IsTrue (has_fields HEADER (header i ++ rest))
unfolding has_fields number_at header ident kinds places counts half word
header_fields i rest = refl

header_magic : (i : ImageFields) (rest : List ℕ) → number_at 4 0 (header i ++ rest) ≡ 0x7f454c46
unfolding number_at header ident kinds places counts half word
header_magic i rest = refl

header_machine : (i : ImageFields) (rest : List ℕ) → number_at 2 18 (header i ++ rest) ≡ 8
unfolding number_at header ident kinds places counts half word
header_machine i rest = refl

header_entry : (i : ImageFields) (rest : List ℕ) → i.entry < 2 ^ 32 → number_at 4 24 (header i ++ rest) ≡ i.entry
unfolding number_at header ident kinds places counts half word
header_entry i rest h = big_number-reads_back 4 i.entry [] h

header_place : (i : ImageFields) (rest : List ℕ) → sections_at (sizes_of i) < 2 ^ 32 → number_at 4 32 (header i ++ rest) ≡ sections_at (sizes_of i)
unfolding number_at header ident kinds places counts half word
header_place i rest h = big_number-reads_back 4 (sections_at (sizes_of i)) [] h

-- the parts of a file one behind the other
in_a_row : (h t d z x y i w a n p q r s u v : List ℕ) → ((((h ++ (t ++ d)) ++ z) ++ x) ++ y) ++ ((((i ++ w) ++ a) ++ n) ++ (((((p ++ q) ++ r) ++ s) ++ u) ++ v)) ≡ h ++ (t ++ (d ++ (z ++ (x ++ (y ++ (i ++ (w ++ (a ++ (n ++ (p ++ (q ++ (r ++ (s ++ (u ++ (v ++ [])))))))))))))))
in_a_row h t d z x y i w a n p q r s u v = simp (append_assoc, append-nil)

padded : (t : ℕ) → 4096 + 4 * t + ((4096 + 4 * t + 4095) / 4096 * 4096 - (4096 + 4 * t)) ≡ (4096 + 4 * t + 4095) / 4096 * 4096
padded t = omega arith

-- the bytes of a file in a row
rows : (i : ImageFields) → image_bytes i ≡ header i ++ (flat_map word (text_segment (sizes_of i)) ++ (flat_map word (data_segment (sizes_of i)) ++ (zeros 3980 ++ (flat_map word i.text ++ (zeros (data_at (sizes_of i) - (4096 + 4 * length i.text)) ++ (flat_map word i.initial ++ (flat_map pair i.windows ++ (flat_map pair i.aliases ++ (names ++ (flat_map word no_section ++ (flat_map word (text_section (sizes_of i)) ++ (flat_map word (data_section (sizes_of i)) ++ (flat_map word (windows_section (sizes_of i)) ++ (flat_map word (aliases_section (sizes_of i)) ++ (flat_map word (names_section (sizes_of i)) ++ [])))))))))))))))
unfolding front back segments sections
rows i = in_a_row (header i) (flat_map word (text_segment (sizes_of i))) (flat_map word (data_segment (sizes_of i))) (zeros 3980) (flat_map word i.text) (zeros (data_at (sizes_of i) - (4096 + 4 * length i.text))) (flat_map word i.initial) (flat_map pair i.windows) (flat_map pair i.aliases) names (flat_map word no_section) (flat_map word (text_section (sizes_of i))) (flat_map word (data_section (sizes_of i))) (flat_map word (windows_section (sizes_of i))) (flat_map word (aliases_section (sizes_of i))) (flat_map word (names_section (sizes_of i)))

length_pairs : (ps : List (ℕ × ℕ)) → length (flat_map pair ps) ≡ 8 * length ps
length_pairs ps =
    let a : length (flat_map pair ps) ≡ length (flat_map word (flat ps)) = ap (λ (l : List ℕ). length l) (pairs_as_words ps) in
    let b = length_words (flat ps) in
    let c = length_flat ps in
    omega arith

step : (n k m : ℕ) (x : List ℕ) → length x ≡ k → n + k ≡ m → n + length x ≡ m
step n k m x e f = ap (λ (j : ℕ). n + j) e ∙ f

-- the pairs at an offset
pairs_here : (whole : List ℕ) (ps : List (ℕ × ℕ)) (rest : List ℕ) (at : ℕ) → At whole at (flat_map pair ps ++ rest) → EachWord (flat ps) → IsTrue (has 4 (flat ps) at whole)
pairs_here whole ps rest at a h =
    words_here whole (flat ps) rest at (subst (λ (l : List ℕ). At whole at (l ++ rest)) (pairs_as_words ps) a) h

forty : (x a : ℕ) → x + a + 40 ≡ x + (a + 40)
forty x a = add_assoc x a 40

-- what is written is an image of its fields
pub image_written : (i : ImageFields) → Fits i → AreWords i.text → AreWords i.initial → IsImage (image_bytes i) i
image_written i f ht hi =
    let s : Sizes = sizes_of i in
    let whole : List ℕ = image_bytes i in
    let r15 : List ℕ = flat_map word (names_section s) ++ [] in
    let r14 : List ℕ = flat_map word (aliases_section s) ++ r15 in
    let r13 : List ℕ = flat_map word (windows_section s) ++ r14 in
    let r12 : List ℕ = flat_map word (data_section s) ++ r13 in
    let r11 : List ℕ = flat_map word (text_section s) ++ r12 in
    let r10 : List ℕ = flat_map word no_section ++ r11 in
    let r9 : List ℕ = names ++ r10 in
    let r8 : List ℕ = flat_map pair i.aliases ++ r9 in
    let r7 : List ℕ = flat_map pair i.windows ++ r8 in
    let r6 : List ℕ = flat_map word i.initial ++ r7 in
    let r5 : List ℕ = zeros (data_at s - (4096 + 4 * length i.text)) ++ r6 in
    let r4 : List ℕ = flat_map word i.text ++ r5 in
    let r3 : List ℕ = zeros 3980 ++ r4 in
    let r2 : List ℕ = flat_map word (data_segment s) ++ r3 in
    let r1 : List ℕ = flat_map word (text_segment s) ++ r2 in
    let r0 : List ℕ = header i ++ r1 in
    let a0 : At whole 0 r0 = record { before = []; long = refl; parts = sym (rows i) } in
    let a1 : At whole 52 r1 = next whole (header i) r1 0 52 a0 (step 0 52 52 (header i) (length_header i) (refl)) in
    let a2 : At whole 84 r2 = next whole (flat_map word (text_segment s)) r2 52 84 a1 (step 52 32 84 (flat_map word (text_segment s)) (length_text_segment s) (refl)) in
    let a3 : At whole 116 r3 = next whole (flat_map word (data_segment s)) r3 84 116 a2 (step 84 32 116 (flat_map word (data_segment s)) (length_data_segment s) (refl)) in
    let a4 : At whole 4096 r4 = next whole (zeros 3980) r4 116 4096 a3 (step 116 3980 4096 (zeros 3980) (length_zeros 3980) (refl)) in
    let a5 : At whole (4096 + 4 * length i.text) r5 = next whole (flat_map word i.text) r5 4096 (4096 + 4 * length i.text) a4 (step 4096 (4 * length i.text) (4096 + 4 * length i.text) (flat_map word i.text) (length_words i.text) (refl)) in
    let a6 : At whole (data_at s) r6 = next whole (zeros (data_at s - (4096 + 4 * length i.text))) r6 (4096 + 4 * length i.text) (data_at s) a5 (step (4096 + 4 * length i.text) (data_at s - (4096 + 4 * length i.text)) (data_at s) (zeros (data_at s - (4096 + 4 * length i.text))) (length_zeros (data_at s - (4096 + 4 * length i.text))) (padded (length i.text))) in
    let a7 : At whole (windows_at s) r7 = next whole (flat_map word i.initial) r7 (data_at s) (windows_at s) a6 (step (data_at s) (4 * length i.initial) (windows_at s) (flat_map word i.initial) (length_words i.initial) (refl)) in
    let a8 : At whole (aliases_at s) r8 = next whole (flat_map pair i.windows) r8 (windows_at s) (aliases_at s) a7 (step (windows_at s) (8 * length i.windows) (aliases_at s) (flat_map pair i.windows) (length_pairs i.windows) (refl)) in
    let a9 : At whole (names_at s) r9 = next whole (flat_map pair i.aliases) r9 (aliases_at s) (names_at s) a8 (step (aliases_at s) (8 * length i.aliases) (names_at s) (flat_map pair i.aliases) (length_pairs i.aliases) (refl)) in
    let a10 : At whole (sections_at s) r10 = next whole names r10 (names_at s) (sections_at s) a9 (step (names_at s) 52 (sections_at s) names (length_names) (refl)) in
    let a11 : At whole (sections_at s + 40) r11 = next whole (flat_map word no_section) r11 (sections_at s) (sections_at s + 40) a10 (step (sections_at s) 40 (sections_at s + 40) (flat_map word no_section) (length_no_section) (refl)) in
    let a12 : At whole (sections_at s + 80) r12 = next whole (flat_map word (text_section s)) r12 (sections_at s + 40) (sections_at s + 80) a11 (step (sections_at s + 40) 40 (sections_at s + 80) (flat_map word (text_section s)) (length_text_section s) (forty (sections_at s) 40)) in
    let a13 : At whole (sections_at s + 120) r13 = next whole (flat_map word (data_section s)) r13 (sections_at s + 80) (sections_at s + 120) a12 (step (sections_at s + 80) 40 (sections_at s + 120) (flat_map word (data_section s)) (length_data_section s) (forty (sections_at s) 80)) in
    let a14 : At whole (sections_at s + 160) r14 = next whole (flat_map word (windows_section s)) r14 (sections_at s + 120) (sections_at s + 160) a13 (step (sections_at s + 120) 40 (sections_at s + 160) (flat_map word (windows_section s)) (length_windows_section s) (forty (sections_at s) 120)) in
    let a15 : At whole (sections_at s + 200) r15 = next whole (flat_map word (aliases_section s)) r15 (sections_at s + 160) (sections_at s + 200) a14 (step (sections_at s + 160) 40 (sections_at s + 200) (flat_map word (aliases_section s)) (length_aliases_section s) (forty (sections_at s) 160)) in
    let a16 : At whole (sections_at s + 240) [] = next whole (flat_map word (names_section s)) [] (sections_at s + 200) (sections_at s + 240) a15 (step (sections_at s + 200) 40 (sections_at s + 240) (flat_map word (names_section s)) (length_names_section s) (forty (sections_at s) 200)) in
    let b : Bounds i = f.bounds in
    let z : SizesFit s = b.sizes in
    let w : sections_at s + 240 ≤ 3221225472 = f.whole in
    let reach : sections_at s < 2 ^ 32 = omega (arith, w) in
    let windows_fit : EachWord (flat i.windows) = pairs_fit (is_window (length i.text)) (λ p e. window_fits (length i.text) p z.text e) None i.windows b.windows in
    let aliases_fit : EachWord (flat i.aliases) = pairs_fit (is_alias (length i.text)) (λ p e. alias_fits (length i.text) p z.text e) None i.aliases b.aliases in
    record {
      bounds = b;
      tables = record {
        magic = rw (rows i) (header_magic i r1);
        machine = rw (rows i) (header_machine i r1);
        header = rw (rows i) (header_fields i r1);
        place = rw (rows i) (header_place i r1 reach);
        text_segment = words_here whole (text_segment s) r2 52 a1 (text_segment_fits s z w);
        data_segment = words_here whole (data_segment s) r3 84 a2 (data_segment_fits s z w);
        names = bytes_here whole names r10 (names_at s) a9;
        no_section = words_here whole no_section r11 (sections_at s) a10 no_section_fits;
        text_section = words_here whole (text_section s) r12 (sections_at s + 40) a11 (text_section_fits s z w);
        data_section = words_here whole (data_section s) r13 (sections_at s + 80) a12 (data_section_fits s z w);
        windows_section = words_here whole (windows_section s) r14 (sections_at s + 120) a13 (windows_section_fits s z w);
        aliases_section = words_here whole (aliases_section s) r15 (sections_at s + 160) a14 (aliases_section_fits s z w);
        names_section = words_here whole (names_section s) [] (sections_at s + 200) a15 (names_section_fits s z w);
        whole = ends whole (sections_at s + 240) a16;
      };
      entry = rw (rows i) (header_entry i r1 (in_text_fits (length i.text) i.entry z.text b.entry));
      text = words_here whole i.text r5 4096 a4 (each_word i.text ht);
      initial = words_here whole i.initial r7 (data_at s) a6 (each_word i.initial hi);
      windows = pairs_here whole i.windows r8 (windows_at s) a7 windows_fit;
      aliases = pairs_here whole i.aliases r9 (aliases_at s) a8 aliases_fit;
    }

-- a list whose numbers have 32 bits
pub are_words : (list : List ℕ) → ((i : ℕ) → get_or list i 0 < 2 ^ 32) → AreWords list
are_words [] h = All-nil (λ w. w < 2 ^ 32)
are_words (n ∷ ns) h = All-cons (λ w. w < 2 ^ 32) n ns (h 0) (are_words ns (λ i. h (suc i)))
