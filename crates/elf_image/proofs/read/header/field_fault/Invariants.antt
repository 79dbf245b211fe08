use Rattle.std.proofs.Common.{◌≡◌, drop}
use Rattle.std.specs.Prelude.{IsTrue}
use Rattle.elf_image.specs.Refusal.{first_fault, field_checks, fields_fit}
use Rattle.elf_image.proofs.read.header.field_fault.Given as goal

abbrev pub invariant-loop-f : goal.invariant-loop-f
invariant-loop-f l = record {
  rest : first_fault (field_checks (drop l.f-index l.fields) l.bytes) ≡ first_fault (field_checks l.fields l.bytes);
  fit : IsTrue (fields_fit (drop l.f-index l.fields));
}
