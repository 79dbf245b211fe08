-- What stands in a table of instructions is in range.
use Rattle.std.proofs.Common.{ℕ, ◌≡◌, ◌<◌, ◌^◌, List, length, map, get_or, slice_index, sym, ◌∙◌, ap}
use Rattle.std.specs.Prelude.{Option, Some, None, IfSome}
use Rattle.std.proofs.lemmas.List.{get_or-map}
use Rattle.mips_isa.specs.declared.instr.Instr.{Instr}
use Rattle.mips_isa.specs.Table.{decoded, IsInRange}
use Rattle.mips_isa.proofs.Inverse.{encodes_decoded}
use Rattle.lint_words.specs.Decoded.{AreDecoded}

range_of : (w : ℕ) → w < 2 ^ 32 → (o : Option Instr) → decoded w ≡ o → IfSome o (λ i. IsInRange i)
range_of w h None e = tt
range_of w h (Some i) e = (encodes_decoded w i h e).0

pub range_at : (words : List ℕ) (instrs : List (Option Instr)) (k : ℕ) (o : Option Instr) → AreDecoded words instrs → slice_index words k < 2 ^ 32 → k < length words → o ≡ get_or instrs k o → IfSome o (λ i. IsInRange i)
range_at words instrs k o d w h e =
    let f : get_or (map (λ (x : ℕ). decoded x) words) k o ≡ decoded (get_or words k 0) = get_or-map (λ (x : ℕ). decoded x) words k 0 o h in
    range_of (get_or words k 0) w o (sym (e ∙ (ap (λ (x : List (Option Instr)). get_or x k o) d ∙ f)))
