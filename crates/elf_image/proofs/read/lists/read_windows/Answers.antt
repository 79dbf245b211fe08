use Rattle.std.proofs.Common.{arith}
use Rattle.elf_image.proofs.Told.{pairs_left, no_pairs_left, one_more, all_read, registers_left}
use Rattle.elf_image.proofs.read.lists.read_windows.Goals as goal

pub loop-i-preserved : goal.loop-i-preserved
loop-i-preserved c = record {
  read = one_more c.loop-i.windows.items c.push.new.self.items _ _ _ c.pair_at-pair.result c.in_ok-push.ensures.items (rw c.pair_at-pair.ensures (pairs_left c.args.count c.loop-i.i c.loop-i.place c.args.bytes.now c.loop-i-test.true)) c.loop-i.invariant.read;
  registers = (registers_left _ _ _ (pairs_left c.args.count c.loop-i.i c.loop-i.place c.args.bytes.now c.loop-i-test.true) c.loop-i.invariant.registers).0;
  place = omega arith;
}

pub returns : goal.returns
returns c = all_read _ _ _ (no_pairs_left c.args.count c.loop-i.i c.loop-i.place c.args.bytes.now c.loop-i-test.false) c.loop-i.invariant.read
