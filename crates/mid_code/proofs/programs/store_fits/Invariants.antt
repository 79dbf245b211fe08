use Rattle.std.proofs.Common.{◌≡◌, ◌+◌, ◌≤◌, length, take, map, sum}
use Rattle.mid_code.proofs.programs.store_fits.Given as goal

abbrev pub invariant-loop-global : goal.invariant-loop-global
invariant-loop-global l = record {
  counted : l.words ≡ sum (map length (take l.global-index l.globals)) + l.fn.chain_pairs;
  few : l.words ≤ 32768;
}
