use Rattle.std.proofs.Common.{◌≡◌, List, ℕ}
use Rattle.mips_isa.specs.Image.{ImageFields}
use Rattle.elf_image.specs.Held.{IsImage}
use Rattle.elf_image.specs.Layout.{fields_of, image_bytes}
use Rattle.tool_words.specs.declared.command.CriticalEdges.{CriticalEdges}
use Rattle.tool_words.specs.declared.command.CriticalEdges.TheVariants.{Kept, Split}
use Rattle.tool_outcomes.specs.Edges.{CompilesFor, IsImageFor}
use Rattle.tool_commands.proofs.compile_source.compiled.Goals as goal

-- the file of the fields of an image that is promised
image_for : (edges : CriticalEdges) (source file : List ℕ) (fields : ImageFields) → CompilesFor edges source fields → IsImage file fields → file ≡ image_bytes fields → IsImageFor edges source file
image_for Kept source file fields compiles held is = (record { fields = fields; file = held; compiles = compiles }, is)
image_for Split source file fields compiles held is = (record { fields = fields; file = held; compiles = compiles }, is)

pub returns-in-Ok-write_image-clause-ok : goal.returns-in-Ok-write_image-clause-ok
returns-in-Ok-write_image-clause-ok c =
    (c.in-Ok.ensures.accepted, image_for c.args.edges c.args.source.now _ (fields_of c.in-Ok.image) c.in-Ok.ensures.ok c.in-Ok-write_image.ensures.held c.in-Ok-write_image.ensures.bytes)
