-- What the image of a source is promised to be, by what became of the critical edges of its program.
use Rattle.std.specs.Prelude.{ℕ, ◌≡◌, List}
use Rattle.compile_rules.specs.Compiled.{Compiles, CompilesSplit, IsCompiled, IsSplitCompiled}
use Rattle.elf_image.specs.Layout.{image_bytes}
use Rattle.mips_isa.specs.Image.{ImageFields}
use Rattle.tool_words.specs.declared.command.CriticalEdges.{CriticalEdges}
use Rattle.tool_words.specs.declared.command.CriticalEdges.TheVariants.{Kept, Split}

-- Of its fields: they are the hardened image of the source; where the edges are split, of one without aliases.
abbrev pub CompilesFor : CriticalEdges → (source : List ℕ) → ImageFields → Type 0
CompilesFor Kept source fields = Compiles source fields
CompilesFor Split source fields = CompilesSplit source fields

-- Of its bytes: they hold these fields, and are exactly the file that is written of them, with zeros between its parts.
abbrev pub IsImageFor : CriticalEdges → (source image : List ℕ) → Type 0
IsImageFor Kept source image = (made : IsCompiled source image) × (image ≡ image_bytes made.fields)
IsImageFor Split source image = (made : IsSplitCompiled source image) × (image ≡ image_bytes made.fields)
