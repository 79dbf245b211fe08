-- Files that no check refuses hold what they tell, and files that hold an image are refused by no check.
use Rattle.std.proofs.Common.{◌≡◌, ℕ, ◌+◌, ◌*◌, ◌≤◌, arith, List, length, eqb-true, leb-true}
use Rattle.std.specs.Prelude.{IsTrue, None}
use Rattle.std.specs.List.{list_all}
use Rattle.elf_image.specs.Layout.{data_at, windows_at, aliases_at, names_at, text_segment, data_segment, windows_section, aliases_section, names_section, names}
use Rattle.elf_image.specs.Bounds.{is_in_text, is_window, is_alias, all_ascending, has_register}
use Rattle.elf_image.specs.Held.{number_at, has}
use Rattle.elf_image.specs.Refusal.{pairs_at, told_at, segment_sizes, sizes_told, segment_checks, size_checks, list_checks, first_fault, refusal}
use Rattle.elf_image.proofs.Has.{and_left, and_right, registers_of}
use Rattle.elf_image.proofs.Checks.{AllHold, Passed, passed, all_hold}

-- what the checks of the segments say
pub record SegmentsTold (bytes : List ℕ) : Type 0 where
  pub room : 116 ≤ length bytes
  pub text_segment : IsTrue (has 4 (text_segment (segment_sizes bytes)) 52 bytes)
  pub data_segment : IsTrue (has 4 (data_segment (segment_sizes bytes)) 84 bytes)
  pub some_text : 1 ≤ (segment_sizes bytes).text
  pub text : (segment_sizes bytes).text ≤ 66060288
  pub some_memory : 1 ≤ (segment_sizes bytes).memory_words
  pub memory : (segment_sizes bytes).memory_words ≤ 4194304
  pub initial : (segment_sizes bytes).initial ≤ (segment_sizes bytes).memory_words
  pub entry : IsTrue (is_in_text (segment_sizes bytes).text (number_at 4 24 bytes))

segments_of : (bytes : List ℕ) → AllHold (segment_checks bytes) → SegmentsTold bytes
unfolding segment_checks
segments_of bytes h =
    let t = h.1.0 in
    let d = h.1.1.0 in
    let t1 = and_right _ _ t in
    let d1 = and_right _ _ d in
    let d2 = and_right _ _ d1 in
    record {
      room = leb-true 116 (length bytes) h.0;
      text_segment = and_left _ _ t;
      data_segment = and_left _ _ d;
      some_text = leb-true _ _ (and_left _ _ t1);
      text = leb-true _ _ (and_right _ _ t1);
      some_memory = leb-true _ _ (and_left _ _ d1);
      memory = leb-true _ _ (and_left _ _ d2);
      initial = leb-true _ _ (and_right _ _ d2);
      entry = h.1.1.1.0;
    }

pub segments_told : (bytes : List ℕ) → first_fault (segment_checks bytes) ≡ None → SegmentsTold bytes
segments_told bytes h = segments_of bytes (all_hold (segment_checks bytes) h)

-- what the checks of the place of the sections and of the size say
pub record SizeTold (bytes : List ℕ) : Type 0 where
  pub least : windows_at (segment_sizes bytes) + 52 ≤ told_at bytes
  pub whole : told_at bytes + 240 ≡ length bytes

size_of : (bytes : List ℕ) → AllHold (size_checks bytes) → SizeTold bytes
unfolding size_checks
size_of bytes h =
    let a : told_at bytes + 240 ≤ length bytes = leb-true _ _ h.1.0 in
    let b : length bytes ≤ told_at bytes + 240 = leb-true _ _ h.1.1.0 in
    record { least = leb-true _ _ (and_right _ _ h.0); whole = omega arith }

pub size_told : (bytes : List ℕ) → first_fault (size_checks bytes) ≡ None → SizeTold bytes
size_told bytes h = size_of bytes (all_hold (size_checks bytes) h)

-- what the checks of the lists say
pub record ListsTold (bytes : List ℕ) : Type 0 where
  pub windows_section : IsTrue (has 4 (windows_section (sizes_told bytes)) (told_at bytes + 120) bytes)
  pub windows_end : aliases_at (sizes_told bytes) ≤ length bytes
  pub windows : IsTrue (all_ascending (is_window (sizes_told bytes).text) None (pairs_at (sizes_told bytes).windows (windows_at (sizes_told bytes)) bytes))
  pub aliases_section : IsTrue (has 4 (aliases_section (sizes_told bytes)) (told_at bytes + 160) bytes)
  pub aliases_end : names_at (sizes_told bytes) ≤ length bytes
  pub aliases : IsTrue (all_ascending (is_alias (sizes_told bytes).text) None (pairs_at (sizes_told bytes).aliases (aliases_at (sizes_told bytes)) bytes))
  pub names_section : IsTrue (has 4 (names_section (sizes_told bytes)) (told_at bytes + 200) bytes)
  pub place : names_at (sizes_told bytes) + 52 ≡ told_at bytes
  pub names : IsTrue (has 1 names (names_at (sizes_told bytes)) bytes)

lists_of : (bytes : List ℕ) → AllHold (list_checks bytes) → ListsTold bytes
unfolding list_checks
lists_of bytes h =
    let w = and_right _ _ h.0 in
    let a = and_right _ _ h.1.0 in
    let n = and_right _ _ h.1.1.0 in
    record {
      windows_section = and_left _ _ h.0;
      windows_end = leb-true _ _ (and_right _ _ (and_left _ _ w));
      windows = and_right _ _ w;
      aliases_section = and_left _ _ h.1.0;
      aliases_end = leb-true _ _ (and_right _ _ (and_left _ _ a));
      aliases = and_right _ _ a;
      names_section = and_left _ _ h.1.1.0;
      place = eqb-true _ _ (and_left _ _ n);
      names = and_right _ _ n;
    }

pub lists_told : (bytes : List ℕ) → first_fault (list_checks bytes) ≡ None → ListsTold bytes
lists_told bytes h = lists_of bytes (all_hold (list_checks bytes) h)

-- where the lists end, and that the windows have registers
pub record ListsFit (bytes : List ℕ) : Type 0 where
  pub room : 116 ≤ length bytes
  pub whole : told_at bytes + 240 ≤ length bytes
  pub text : (sizes_told bytes).text ≤ 66060288
  pub initial : (sizes_told bytes).initial ≤ 4194304
  pub text_end : 4096 + 4 * (sizes_told bytes).text ≤ length bytes
  pub initial_end : data_at (sizes_told bytes) + 4 * (sizes_told bytes).initial ≤ length bytes
  pub windows_end : windows_at (sizes_told bytes) + 8 * (sizes_told bytes).windows ≤ length bytes
  pub aliases_end : aliases_at (sizes_told bytes) + 8 * (sizes_told bytes).aliases ≤ length bytes
  pub registers : IsTrue (list_all has_register (pairs_at (sizes_told bytes).windows (windows_at (sizes_told bytes)) bytes))

pub lists_fit : (bytes : List ℕ) → refusal bytes ≡ None → ListsFit bytes
lists_fit bytes h =
    let p : Passed bytes = passed bytes h in
    let s : SegmentsTold bytes = segments_told bytes p.segments in
    let z : SizeTold bytes = size_told bytes p.size in
    let l : ListsTold bytes = lists_told bytes p.lists in
    record {
      room = s.room;
      whole = omega (arith, z.whole);
      text = s.text;
      initial = omega (arith, s.initial, s.memory);
      text_end = omega (arith, l.windows_end);
      initial_end = omega (arith, l.windows_end);
      windows_end = l.windows_end;
      aliases_end = l.aliases_end;
      registers = registers_of (sizes_told bytes).text None (pairs_at (sizes_told bytes).windows (windows_at (sizes_told bytes)) bytes) l.windows;
    }
