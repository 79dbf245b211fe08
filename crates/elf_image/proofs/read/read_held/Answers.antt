use Rattle.std.proofs.Common.{arith, ◌≤◌, ◌+◌, ◌*◌, length, subst, sym}
use Rattle.std.specs.Prelude.{IsTrue}
use Rattle.std.specs.List.{list_all}
use Rattle.elf_image.specs.declared.layout.Sizes.{Sizes}
use Rattle.elf_image.specs.Bounds.{has_register}
use Rattle.elf_image.specs.Layout.{data_at, windows_at}
use Rattle.elf_image.specs.Refusal.{pairs_at}
use Rattle.elf_image.proofs.Refused.{ListsFit, lists_fit}
use Rattle.elf_image.proofs.read.read_held.Goals as goal

pub sizes_told-sizes-requires : goal.sizes_told-sizes-requires
sizes_told-sizes-requires c =
    let f : ListsFit c.args.bytes.now = lists_fit c.args.bytes.now c.requires in
    record { room = f.room; whole = f.whole }

pub data_at-initial_at-requires : goal.data_at-initial_at-requires
data_at-initial_at-requires c =
    let f : ListsFit c.args.bytes.now = lists_fit c.args.bytes.now c.requires in
    rw c.sizes_told-sizes.ensures f.text

pub windows_at-windows_at-requires : goal.windows_at-windows_at-requires
windows_at-windows_at-requires c =
    let f : ListsFit c.args.bytes.now = lists_fit c.args.bytes.now c.requires in
    record { text = rw c.sizes_told-sizes.ensures f.text; initial = rw c.sizes_told-sizes.ensures f.initial }

pub read_words-requires : goal.read_words-requires
read_words-requires c =
    let f : ListsFit c.args.bytes.now = lists_fit c.args.bytes.now c.requires in
    rw c.sizes_told-sizes.ensures f.text_end

pub read_words-requires-2 : goal.read_words-requires-2
read_words-requires-2 c =
    let f : ListsFit c.args.bytes.now = lists_fit c.args.bytes.now c.requires in
    let P : Sizes → Type 0 = λ s. data_at s + 4 * s.initial ≤ length c.args.bytes.now in
    rw c.data_at-initial_at.ensures (subst P (sym c.sizes_told-sizes.ensures) f.initial_end)

pub read_windows-requires : goal.read_windows-requires
read_windows-requires c =
    let f : ListsFit c.args.bytes.now = lists_fit c.args.bytes.now c.requires in
    let P : Sizes → Type 0 = λ s. windows_at s + 8 * s.windows ≤ length c.args.bytes.now in
    let Q : Sizes → Type 0 = λ s. IsTrue (list_all has_register (pairs_at s.windows (windows_at s) c.args.bytes.now)) in
    record {
      room = rw c.windows_at-windows_at.ensures (subst P (sym c.sizes_told-sizes.ensures) f.windows_end);
      registers = rw c.windows_at-windows_at.ensures (subst Q (sym c.sizes_told-sizes.ensures) f.registers);
    }

pub read_aliases-requires : goal.read_aliases-requires
read_aliases-requires c =
    let f : ListsFit c.args.bytes.now = lists_fit c.args.bytes.now c.requires in
    let P : Sizes → Type 0 = λ s. windows_at s + 8 * s.windows + 8 * s.aliases ≤ length c.args.bytes.now in
    rw c.windows_at-windows_at.ensures (subst P (sym c.sizes_told-sizes.ensures) f.aliases_end)

pub word_at-requires : goal.word_at-requires
word_at-requires c =
    let f : ListsFit c.args.bytes.now = lists_fit c.args.bytes.now c.requires in
    omega (arith, f.room)
