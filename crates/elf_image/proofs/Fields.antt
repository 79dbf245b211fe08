-- Files that no check refuses hold what they tell, and files that hold an image are refused by no check.
use Rattle.std.proofs.Common.{◌≡◌, ℕ, ◌+◌, ◌*◌, ◌/◌, ◌%◌, true, arith, ap, refl, sym, ◌∙◌, subst, List, ◌∷◌, length, eqb-true, eq-eqb, le-leb, add_assoc}
use Rattle.std.specs.Prelude.{IsTrue, Some, None}
use Rattle.mips_isa.specs.Image.{ImageFields}
use Rattle.elf_image.specs.declared.layout.Sizes.{Sizes}
use Rattle.elf_image.specs.declared.layout.TheConstants.{HEADER}
use Rattle.elf_image.specs.declared.read.ImageError.{ImageError}
use Rattle.elf_image.specs.Layout.{sizes_of, data_at, windows_at, aliases_at, names_at, sections_at, text_segment, data_segment, no_section, text_section, data_section, windows_section, aliases_section, names_section}
use Rattle.elf_image.specs.Bounds.{Bounds, SizesFit, is_in_text, is_window, is_alias, all_ascending}
use Rattle.elf_image.specs.Held.{number_at, has, has_fields, flat, HasTables, IsImage}
use Rattle.elf_image.specs.Refusal.{words_at, pairs_at, told_at, segment_sizes, sizes_told, fields_told, ends_before, header_checks, table_checks, field_checks, segment_checks, size_checks, fixed_checks, list_checks, refusal}
use Rattle.elf_image.proofs.Has.{both, first_is, others_are, has_words, words_had, length-words_at, has_pairs, pairs_had, length-pairs_at}
use Rattle.elf_image.proofs.Checks.{AllHold, Passed, passed, not_refused, all_hold, no_fault, fields_hold, no_field_fault}
use Rattle.elf_image.proofs.Refused.{SegmentsTold, SizeTold, ListsTold, segments_told, size_told, lists_told}

-- sizes by their numbers
abbrev pub sizes : ℕ → ℕ → ℕ → ℕ → ℕ → Sizes
sizes t i m w a = record { text = t; initial = i; memory_words = m; windows = w; aliases = a }

same_sizes : (t u i j m n w v a b : ℕ) → t ≡ u → i ≡ j → m ≡ n → w ≡ v → a ≡ b → sizes t i m w a ≡ sizes u j n v b
same_sizes t u i j m n w v a b et ei em ew ea =
    ap (λ (x : ℕ). sizes x i m w a) et ∙ (ap (λ (x : ℕ). sizes u x m w a) ei ∙ (ap (λ (x : ℕ). sizes u j x w a) em ∙ (ap (λ (x : ℕ). sizes u j n x a) ew ∙ ap (λ (x : ℕ). sizes u j n v x) ea)))

-- the fields told have the sizes told
sizes_are : (bytes : List ℕ) → sizes_of (fields_told bytes) ≡ sizes_told bytes
sizes_are bytes = let s : Sizes = sizes_told bytes in
    same_sizes _ s.text _ s.initial _ s.memory_words _ s.windows _ s.aliases
    (length-words_at s.text 4096 bytes) (length-words_at s.initial (data_at s) bytes) refl
    (length-pairs_at s.windows (windows_at s) bytes) (length-pairs_at s.aliases (aliases_at s) bytes)

-- the segments and the sections before the lists depend on what the segments tell alone
same_text_segment : (bytes : List ℕ) → text_segment (segment_sizes bytes) ≡ text_segment (sizes_told bytes)
unfolding text_segment
same_text_segment bytes = refl

same_data_segment : (bytes : List ℕ) → data_segment (segment_sizes bytes) ≡ data_segment (sizes_told bytes)
unfolding data_segment
same_data_segment bytes = refl

same_text_section : (bytes : List ℕ) → text_section (segment_sizes bytes) ≡ text_section (sizes_told bytes)
unfolding text_section
same_text_section bytes = refl

same_data_section : (bytes : List ℕ) → data_section (segment_sizes bytes) ≡ data_section (sizes_told bytes)
unfolding data_section
same_data_section bytes = refl

table_holds : (bytes : List ℕ) → AllHold (table_checks bytes) → IsTrue (has_fields HEADER bytes)
unfolding table_checks
table_holds bytes h = fields_hold HEADER bytes (no_fault (field_checks HEADER bytes) h)

holds_table : (bytes : List ℕ) → IsTrue (has_fields HEADER bytes) → AllHold (table_checks bytes)
unfolding table_checks
holds_table bytes h = all_hold (field_checks HEADER bytes) (no_field_fault HEADER bytes h)

-- the header's facts
record HeaderTold (bytes : List ℕ) : Type 0 where
  magic : number_at 4 0 bytes ≡ 0x7f454c46
  machine : number_at 2 18 bytes ≡ 8
  header : IsTrue (has_fields HEADER bytes)

header_of : (bytes : List ℕ) → AllHold (header_checks bytes) → HeaderTold bytes
unfolding header_checks
header_of bytes h = record {
  magic = eqb-true (number_at 4 0 bytes) 0x7f454c46 h.1.0;
  machine = eqb-true (number_at 2 18 bytes) 8 h.1.1.0;
  header = table_holds bytes h.1.1.1;
}

record FixedTold (bytes : List ℕ) : Type 0 where
  no_section : IsTrue (has 4 no_section (told_at bytes) bytes)
  text_section : IsTrue (has 4 (text_section (sizes_told bytes)) (told_at bytes + 40) bytes)
  data_section : IsTrue (has 4 (data_section (sizes_told bytes)) (told_at bytes + 80) bytes)

fixed_of : (bytes : List ℕ) → AllHold (fixed_checks bytes) → FixedTold bytes
unfolding fixed_checks
fixed_of bytes h = record {
  no_section = h.0;
  text_section = subst (λ (l : List ℕ). IsTrue (has 4 l (told_at bytes + 40) bytes)) (same_text_section bytes) h.1.0;
  data_section = subst (λ (l : List ℕ). IsTrue (has 4 l (told_at bytes + 80) bytes)) (same_data_section bytes) h.1.1.0;
}

-- a file that passes has the tables for the sizes that it tells
tables_told : (bytes : List ℕ) → Passed bytes → HasTables bytes (sizes_told bytes)
tables_told bytes p =
    let g : HeaderTold bytes = header_of bytes (all_hold (header_checks bytes) p.header) in
    let s : SegmentsTold bytes = segments_told bytes p.segments in
    let z : SizeTold bytes = size_told bytes p.size in
    let x : FixedTold bytes = fixed_of bytes (all_hold (fixed_checks bytes) p.fixed) in
    let l : ListsTold bytes = lists_told bytes p.lists in
    let e : told_at bytes ≡ sections_at (sizes_told bytes) = sym l.place in
    record {
      magic = g.magic;
      machine = g.machine;
      header = g.header;
      place = e;
      text_segment = subst (λ (k : List ℕ). IsTrue (has 4 k 52 bytes)) (same_text_segment bytes) s.text_segment;
      data_segment = subst (λ (k : List ℕ). IsTrue (has 4 k 84 bytes)) (same_data_segment bytes) s.data_segment;
      names = l.names;
      no_section = subst (λ (k : ℕ). IsTrue (has 4 no_section k bytes)) e x.no_section;
      text_section = subst (λ (k : ℕ). IsTrue (has 4 (text_section (sizes_told bytes)) (k + 40) bytes)) e x.text_section;
      data_section = subst (λ (k : ℕ). IsTrue (has 4 (data_section (sizes_told bytes)) (k + 80) bytes)) e x.data_section;
      windows_section = subst (λ (k : ℕ). IsTrue (has 4 (windows_section (sizes_told bytes)) (k + 120) bytes)) e l.windows_section;
      aliases_section = subst (λ (k : ℕ). IsTrue (has 4 (aliases_section (sizes_told bytes)) (k + 160) bytes)) e l.aliases_section;
      names_section = subst (λ (k : ℕ). IsTrue (has 4 (names_section (sizes_told bytes)) (k + 200) bytes)) e l.names_section;
      whole = sym z.whole ∙ ap (λ (k : ℕ). k + 240) e;
    }

-- a file that passes tells fields in their bounds
bounds_told : (bytes : List ℕ) → Passed bytes → Bounds (fields_told bytes)
bounds_told bytes p =
    let t : Sizes = sizes_told bytes in
    let s : SegmentsTold bytes = segments_told bytes p.segments in
    let l : ListsTold bytes = lists_told bytes p.lists in
    let n : length (words_at t.text 4096 bytes) ≡ t.text = length-words_at t.text 4096 bytes in
    let fit : SizesFit t = record { some_text = s.some_text; text = s.text; some_memory = s.some_memory; memory = s.memory; initial = s.initial } in
    record {
      sizes = subst SizesFit (sym (sizes_are bytes)) fit;
      entry = subst (λ (k : ℕ). IsTrue (is_in_text k (number_at 4 24 bytes))) (sym n) s.entry;
      windows = subst (λ (k : ℕ). IsTrue (all_ascending (is_window k) None (pairs_at t.windows (windows_at t) bytes))) (sym n) l.windows;
      aliases = subst (λ (k : ℕ). IsTrue (all_ascending (is_alias k) None (pairs_at t.aliases (aliases_at t) bytes))) (sym n) l.aliases;
    }

-- a file that no check refuses holds the fields that it tells
pub image_told : (bytes : List ℕ) → refusal bytes ≡ None → IsImage bytes (fields_told bytes)
image_told bytes h =
    let p : Passed bytes = passed bytes h in
    let t : Sizes = sizes_told bytes in
    let e : t ≡ sizes_of (fields_told bytes) = sym (sizes_are bytes) in
    record {
      bounds = bounds_told bytes p;
      tables = subst (λ (s : Sizes). HasTables bytes s) e (tables_told bytes p);
      entry = refl;
      text = has_words t.text 4096 bytes;
      initial = subst (λ (s : Sizes). IsTrue (has 4 (words_at t.initial (data_at t) bytes) (data_at s) bytes)) e (has_words t.initial (data_at t) bytes);
      windows = subst (λ (s : Sizes). IsTrue (has 4 (flat (pairs_at t.windows (windows_at t) bytes)) (windows_at s) bytes)) e (has_pairs t.windows (windows_at t) bytes);
      aliases = subst (λ (s : Sizes). IsTrue (has 4 (flat (pairs_at t.aliases (aliases_at t) bytes)) (aliases_at s) bytes)) e (has_pairs t.aliases (aliases_at t) bytes);
    }

four_four : (at : ℕ) → at + 4 + 4 + 4 + 4 ≡ at + 16
four_four at = omega arith

five_fours : (at : ℕ) → at + 4 + 4 + 4 + 4 + 4 ≡ at + 20
five_fours at = omega arith

-- the fifth and the sixth number that a file has
fifth_is : (a b c d e : ℕ) (ns : List ℕ) (at : ℕ) (bytes : List ℕ) → IsTrue (has 4 (a ∷ b ∷ c ∷ d ∷ e ∷ ns) at bytes) → number_at 4 (at + 16) bytes ≡ e
fifth_is a b c d e ns at bytes h =
    ap (λ (k : ℕ). number_at 4 k bytes) (sym (four_four at))
    ∙ first_is 4 e ns (at + 4 + 4 + 4 + 4) bytes (others_are 4 d (e ∷ ns) (at + 4 + 4 + 4) bytes (others_are 4 c (d ∷ e ∷ ns) (at + 4 + 4) bytes (others_are 4 b (c ∷ d ∷ e ∷ ns) (at + 4) bytes (others_are 4 a (b ∷ c ∷ d ∷ e ∷ ns) at bytes h))))

sixth_is : (a b c d e f : ℕ) (ns : List ℕ) (at : ℕ) (bytes : List ℕ) → IsTrue (has 4 (a ∷ b ∷ c ∷ d ∷ e ∷ f ∷ ns) at bytes) → number_at 4 (at + 20) bytes ≡ f
sixth_is a b c d e f ns at bytes h =
    ap (λ (k : ℕ). number_at 4 k bytes) (sym (five_fours at))
    ∙ first_is 4 f ns (at + 4 + 4 + 4 + 4 + 4) bytes (others_are 4 e (f ∷ ns) (at + 4 + 4 + 4 + 4) bytes (others_are 4 d (e ∷ f ∷ ns) (at + 4 + 4 + 4) bytes (others_are 4 c (d ∷ e ∷ f ∷ ns) (at + 4 + 4) bytes (others_are 4 b (c ∷ d ∷ e ∷ f ∷ ns) (at + 4) bytes (others_are 4 a (b ∷ c ∷ d ∷ e ∷ f ∷ ns) at bytes h)))))

text_size : (s : Sizes) (bytes : List ℕ) → IsTrue (has 4 (text_segment s) 52 bytes) → number_at 4 68 bytes ≡ 4 * s.text
unfolding text_segment
text_size s bytes h = fifth_is _ _ _ _ _ _ 52 bytes h

initial_size : (s : Sizes) (bytes : List ℕ) → IsTrue (has 4 (data_segment s) 84 bytes) → number_at 4 100 bytes ≡ 4 * s.initial
unfolding data_segment
initial_size s bytes h = fifth_is _ _ _ _ _ _ 84 bytes h

memory_size : (s : Sizes) (bytes : List ℕ) → IsTrue (has 4 (data_segment s) 84 bytes) → number_at 4 104 bytes ≡ 4 * s.memory_words
unfolding data_segment
memory_size s bytes h = sixth_is _ _ _ _ _ _ _ 84 bytes h

windows_size : (s : Sizes) (at : ℕ) (bytes : List ℕ) → IsTrue (has 4 (windows_section s) at bytes) → number_at 4 (at + 20) bytes ≡ 8 * s.windows
unfolding windows_section
windows_size s at bytes h = sixth_is _ _ _ _ _ _ _ at bytes h

aliases_size : (s : Sizes) (at : ℕ) (bytes : List ℕ) → IsTrue (has 4 (aliases_section s) at bytes) → number_at 4 (at + 20) bytes ≡ 8 * s.aliases
unfolding aliases_section
aliases_size s at bytes h = sixth_is _ _ _ _ _ _ _ at bytes h

aliases_place : (s : Sizes) (at : ℕ) (bytes : List ℕ) → IsTrue (has 4 (aliases_section s) at bytes) → number_at 4 (at + 16) bytes ≡ aliases_at s
unfolding aliases_section
aliases_place s at bytes h = fifth_is _ _ _ _ _ _ at bytes h

names_place : (s : Sizes) (at : ℕ) (bytes : List ℕ) → IsTrue (has 4 (names_section s) at bytes) → number_at 4 (at + 16) bytes ≡ names_at s
unfolding names_section
names_place s at bytes h = fifth_is _ _ _ _ _ _ at bytes h

quarter : (n q : ℕ) → n ≡ 4 * q → n / 4 ≡ q
quarter n q h = omega arith

eighth : (n q : ℕ) → n ≡ 8 * q → n / 8 ≡ q
eighth n q h = omega arith

-- an offset in two steps
two_steps : (x a b : ℕ) (bytes : List ℕ) → number_at 4 (x + (a + b)) bytes ≡ number_at 4 (x + a + b) bytes
two_steps x a b bytes = ap (λ (k : ℕ). number_at 4 k bytes) (sym (add_assoc x a b))

-- the sizes told are those of the tables
sizes_had : (bytes : List ℕ) (s : Sizes) → HasTables bytes s → sizes_told bytes ≡ s
sizes_had bytes s t =
    let w : number_at 4 (told_at bytes + 140) bytes ≡ 8 * s.windows =
    ap (λ (k : ℕ). number_at 4 (k + 140) bytes) t.place ∙ (two_steps (sections_at s) 120 20 bytes ∙ windows_size s (sections_at s + 120) bytes t.windows_section) in
    let a : number_at 4 (told_at bytes + 180) bytes ≡ 8 * s.aliases =
    ap (λ (k : ℕ). number_at 4 (k + 180) bytes) t.place ∙ (two_steps (sections_at s) 160 20 bytes ∙ aliases_size s (sections_at s + 160) bytes t.aliases_section) in
    same_sizes _ s.text _ s.initial _ s.memory_words _ s.windows _ s.aliases
    (quarter _ s.text (text_size s bytes t.text_segment)) (quarter _ s.initial (initial_size s bytes t.data_segment)) (quarter _ s.memory_words (memory_size s bytes t.data_segment))
    (eighth _ s.windows w) (eighth _ s.aliases a)

-- fields by their values
abbrev pub fields : ℕ → List ℕ → List ℕ → ℕ → List (ℕ × ℕ) → List (ℕ × ℕ) → ImageFields
fields e t i m w a = record { entry = e; text = t; initial = i; memory_words = m; windows = w; aliases = a }

same_fields : (e f : ℕ) (t u i j : List ℕ) (m : ℕ) (w v a b : List (ℕ × ℕ)) → e ≡ f → t ≡ u → i ≡ j → w ≡ v → a ≡ b → fields e t i m w a ≡ fields f u j m v b
same_fields e f t u i j m w v a b ee et ei ew ea =
    ap (λ (x : ℕ). fields x t i m w a) ee ∙ (ap (λ (x : List ℕ). fields f x i m w a) et ∙ (ap (λ (x : List ℕ). fields f u x m w a) ei ∙ (ap (λ (x : List (ℕ × ℕ)). fields f u j m x a) ew ∙ ap (λ (x : List (ℕ × ℕ)). fields f u j m v x) ea)))

-- the fields at the places for some sizes
abbrev pub fields_at : List ℕ → Sizes → ImageFields
fields_at bytes s = fields (number_at 4 24 bytes) (words_at s.text 4096 bytes) (words_at s.initial (data_at s) bytes) s.memory_words (pairs_at s.windows (windows_at s) bytes) (pairs_at s.aliases (aliases_at s) bytes)

-- the fields told are those of the image
pub told_is : (bytes : List ℕ) (i : ImageFields) → IsImage bytes i → fields_told bytes ≡ i
told_is bytes i h =
    let s : Sizes = sizes_of i in
    ap (λ (z : Sizes). fields_at bytes z) (sizes_had bytes s h.tables)
    ∙ same_fields _ i.entry _ i.text _ i.initial i.memory_words _ i.windows _ i.aliases
    h.entry (words_had i.text 4096 bytes h.text) (words_had i.initial (data_at s) bytes h.initial)
    (pairs_had i.windows (windows_at s) bytes h.windows) (pairs_had i.aliases (aliases_at s) bytes h.aliases)

-- no bytes are an image of two fields
pub one_image : (bytes : List ℕ) (i j : ImageFields) → IsImage bytes i → IsImage bytes j → i ≡ j
one_image bytes i j h k = sym (told_is bytes i h) ∙ told_is bytes j k

-- the parts of a file that has tables and fields, at the sizes that it tells
record Held (bytes : List ℕ) (s : Sizes) : Type 0 where
  tables : HasTables bytes s
  fit : SizesFit s
  entry : IsTrue (is_in_text s.text (number_at 4 24 bytes))
  windows : IsTrue (all_ascending (is_window s.text) None (pairs_at s.windows (windows_at s) bytes))
  aliases : IsTrue (all_ascending (is_alias s.text) None (pairs_at s.aliases (aliases_at s) bytes))

held_in : (bytes : List ℕ) (i : ImageFields) → IsImage bytes i → Held bytes (sizes_of i)
held_in bytes i h = let s : Sizes = sizes_of i in record {
  tables = h.tables;
  fit = h.bounds.sizes;
  entry = subst (λ (k : ℕ). IsTrue (is_in_text s.text k)) (sym h.entry) h.bounds.entry;
  windows = subst (λ (k : List (ℕ × ℕ)). IsTrue (all_ascending (is_window s.text) None k)) (sym (pairs_had i.windows (windows_at s) bytes h.windows)) h.bounds.windows;
  aliases = subst (λ (k : List (ℕ × ℕ)). IsTrue (all_ascending (is_alias s.text) None k)) (sym (pairs_had i.aliases (aliases_at s) bytes h.aliases)) h.bounds.aliases;
}

held_told : (bytes : List ℕ) (i : ImageFields) → IsImage bytes i → Held bytes (sizes_told bytes)
held_told bytes i h = subst (λ (s : Sizes). Held bytes s) (sym (sizes_had bytes (sizes_of i) h.tables)) (held_in bytes i h)

header_holds : (bytes : List ℕ) → Held bytes (sizes_told bytes) → AllHold (header_checks bytes)
unfolding header_checks
header_holds bytes h =
    let e : length bytes ≡ sections_at (sizes_told bytes) + 240 = h.tables.whole in
    (le-leb 52 (length bytes) (omega arith), (eq-eqb (number_at 4 0 bytes) 0x7f454c46 h.tables.magic, (eq-eqb (number_at 2 18 bytes) 8 h.tables.machine, holds_table bytes h.tables.header)))

segments_hold : (bytes : List ℕ) → Held bytes (sizes_told bytes) → AllHold (segment_checks bytes)
unfolding segment_checks
segments_hold bytes h =
    let e : length bytes ≡ sections_at (sizes_told bytes) + 240 = h.tables.whole in
    let t = subst (λ (k : List ℕ). IsTrue (has 4 k 52 bytes)) (sym (same_text_segment bytes)) h.tables.text_segment in
    let d = subst (λ (k : List ℕ). IsTrue (has 4 k 84 bytes)) (sym (same_data_segment bytes)) h.tables.data_segment in (
      le-leb 116 (length bytes) (omega arith),
      (
        both t (both (le-leb _ _ h.fit.some_text) (le-leb _ _ h.fit.text)),
        (
          both d (both (le-leb _ _ h.fit.some_memory) (both (le-leb _ _ h.fit.memory) (le-leb _ _ h.fit.initial))),
          (h.entry, tt),
        ),
      ),
    )

sections_aligned : (t i w a : ℕ) → ((4096 + 4 * t + 4095) / 4096 * 4096 + 4 * i + 8 * w + 8 * a + 52) % 4 ≡ 0
sections_aligned t i w a = omega arith

size_holds : (bytes : List ℕ) → Held bytes (sizes_told bytes) → AllHold (size_checks bytes)
unfolding size_checks
size_holds bytes h =
    let s : Sizes = sizes_told bytes in
    let e : length bytes ≡ sections_at s + 240 = h.tables.whole in
    let f : told_at bytes ≡ sections_at s = h.tables.place in
    let g : told_at bytes % 4 ≡ 0 = ap (λ (k : ℕ). k % 4) f ∙ sections_aligned s.text s.initial s.windows s.aliases in
    (both (eq-eqb (told_at bytes % 4) 0 g) (le-leb _ _ (omega arith)), (le-leb _ _ (omega arith), (le-leb _ _ (omega arith), tt)))

fixed_hold : (bytes : List ℕ) → Held bytes (sizes_told bytes) → AllHold (fixed_checks bytes)
unfolding fixed_checks
fixed_hold bytes h =
    let s : Sizes = sizes_told bytes in
    let f : sections_at s ≡ told_at bytes = sym h.tables.place in
    let t = subst (λ (k : List ℕ). IsTrue (has 4 k (sections_at s + 40) bytes)) (sym (same_text_section bytes)) h.tables.text_section in
    let d = subst (λ (k : List ℕ). IsTrue (has 4 k (sections_at s + 80) bytes)) (sym (same_data_section bytes)) h.tables.data_section in (
      subst (λ (k : ℕ). IsTrue (has 4 no_section k bytes)) f h.tables.no_section,
      (
        subst (λ (k : ℕ). IsTrue (has 4 (text_section (segment_sizes bytes)) (k + 40) bytes)) f t,
        (subst (λ (k : ℕ). IsTrue (has 4 (data_section (segment_sizes bytes)) (k + 80) bytes)) f d, tt),
      ),
    )

lists_hold : (bytes : List ℕ) → Held bytes (sizes_told bytes) → AllHold (list_checks bytes)
unfolding list_checks
lists_hold bytes h =
    let s : Sizes = sizes_told bytes in
    let f : sections_at s ≡ told_at bytes = sym h.tables.place in
    let e : length bytes ≡ sections_at s + 240 = h.tables.whole in
    let w = subst (λ (k : ℕ). IsTrue (has 4 (windows_section s) (k + 120) bytes)) f h.tables.windows_section in
    let a = subst (λ (k : ℕ). IsTrue (has 4 (aliases_section s) (k + 160) bytes)) f h.tables.aliases_section in
    let n = subst (λ (k : ℕ). IsTrue (has 4 (names_section s) (k + 200) bytes)) f h.tables.names_section in
    let ae : number_at 4 (told_at bytes + 176) bytes ≡ aliases_at s = two_steps (told_at bytes) 160 16 bytes ∙ aliases_place s (told_at bytes + 160) bytes a in
    let ne : number_at 4 (told_at bytes + 216) bytes ≡ names_at s = two_steps (told_at bytes) 200 16 bytes ∙ names_place s (told_at bytes + 200) bytes n in
    let we : ends_before (aliases_at s) (told_at bytes + 176) bytes ≡ true =
    both (le-leb (aliases_at s) (number_at 4 (told_at bytes + 176) bytes) (omega (arith, ae))) (le-leb (aliases_at s) (length bytes) (omega arith)) in
    let ne : ends_before (names_at s) (told_at bytes + 216) bytes ≡ true =
    both (le-leb (names_at s) (number_at 4 (told_at bytes + 216) bytes) (omega (arith, ne))) (le-leb (names_at s) (length bytes) (omega arith)) in
    (both w (both we h.windows), (both a (both ne h.aliases), (both n (both (eq-eqb (names_at s + 52) (told_at bytes) f) h.tables.names), tt)))

-- a file that holds an image is refused by no check
pub image_passes : (bytes : List ℕ) (i : ImageFields) → IsImage bytes i → refusal bytes ≡ None
image_passes bytes i k =
    let h : Held bytes (sizes_told bytes) = held_told bytes i k in
    not_refused bytes record {
      header = no_fault (header_checks bytes) (header_holds bytes h);
      segments = no_fault (segment_checks bytes) (segments_hold bytes h);
      size = no_fault (size_checks bytes) (size_holds bytes h);
      fixed = no_fault (fixed_checks bytes) (fixed_hold bytes h);
      lists = no_fault (list_checks bytes) (lists_hold bytes h);
    }

-- a refused file holds no image
pub no_image : (bytes : List ℕ) (e : ImageError) → Some e ≡ refusal bytes → (i : ImageFields) → IsImage bytes i → ⊥
no_image bytes e h i k = let p : refusal bytes ≡ None = image_passes bytes i k in cc
