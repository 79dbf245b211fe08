use Rattle.std.proofs.Common.{arith, sym, ◌∙◌}
use Rattle.elf_image.proofs.Checks.{first_refuses, later_refuses, whole_refusal}
use Rattle.elf_image.proofs.Refused.{SegmentsTold, SizeTold, segments_told, size_told}
use Rattle.elf_image.proofs.read.refusal.Goals as goal

pub returns-in-Some : goal.returns-in-Some
returns-in-Some c = first_refuses _ _ _ _ c.in-Some.ensures (whole_refusal c.args.bytes.now)

pub returns-in-Some-segment_fault : goal.returns-in-Some-segment_fault
returns-in-Some-segment_fault c = first_refuses _ _ _ _ c.in-Some-segment_fault.ensures (later_refuses _ _ _ c.in-None.ensures (whole_refusal c.args.bytes.now))

pub size_fault-requires : goal.size_fault-requires
size_fault-requires c =
    let s : SegmentsTold c.args.bytes.now = segments_told c.args.bytes.now (sym c.in-None-segment_fault.ensures) in
    record { room = s.room; text = s.text; initial = omega arith }

pub returns-in-Some-size_fault : goal.returns-in-Some-size_fault
returns-in-Some-size_fault c = first_refuses _ _ _ _ c.in-Some-size_fault.ensures (later_refuses _ _ _ c.in-None-segment_fault.ensures (later_refuses _ _ _ c.in-None.ensures (whole_refusal c.args.bytes.now)))

pub fixed_fault-requires : goal.fixed_fault-requires
fixed_fault-requires c =
    let s : SegmentsTold c.args.bytes.now = segments_told c.args.bytes.now (sym c.in-None-segment_fault.ensures) in
    let z : SizeTold c.args.bytes.now = size_told c.args.bytes.now (sym c.in-None-size_fault.ensures) in
    record { room = s.room; whole = omega (arith, z.whole); text = s.text }

pub returns-in-Some-fixed_fault : goal.returns-in-Some-fixed_fault
returns-in-Some-fixed_fault c = first_refuses _ _ _ _ c.in-Some-fixed_fault.ensures (later_refuses _ _ _ c.in-None-size_fault.ensures (later_refuses _ _ _ c.in-None-segment_fault.ensures (later_refuses _ _ _ c.in-None.ensures (whole_refusal c.args.bytes.now))))

pub list_fault-requires : goal.list_fault-requires
list_fault-requires c =
    let s : SegmentsTold c.args.bytes.now = segments_told c.args.bytes.now (sym c.in-None-segment_fault.ensures) in
    let z : SizeTold c.args.bytes.now = size_told c.args.bytes.now (sym c.in-None-size_fault.ensures) in
    record { room = s.room; whole = omega (arith, z.whole); text = s.text; initial = omega arith }

pub returns : goal.returns
returns c = c.list_fault.ensures ∙ later_refuses _ _ _ c.in-None-fixed_fault.ensures (later_refuses _ _ _ c.in-None-size_fault.ensures (later_refuses _ _ _ c.in-None-segment_fault.ensures (later_refuses _ _ _ c.in-None.ensures (whole_refusal c.args.bytes.now))))
