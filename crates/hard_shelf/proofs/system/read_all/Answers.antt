use Rattle.std.proofs.Common.{◌<◌, ◌++◌, ℕ, List, length, take, arith, length-append}
use Rattle.std.proofs.KnownBytes.{Consumes-trans}
use Rattle.std.proofs.lemmas.List.{length-take}
use Rattle.hard_shelf.proofs.system.read_all.Goals as goal

-- all that was read is more than what was asked for
pub returns-then-len-count-clause-more : goal.returns-then-len-count-clause-more
returns-then-len-count-clause-more g c = λ large.
    let count : ℕ = c.in-Ok.count in
    let read : List ℕ = take count c.read.new.buf in
    let more : c.args.most < length (c.loop.all.items ++ read) = omega (arith, length-append c.loop.all.items read, length-take count c.read.new.buf, c.len.ensures, c.in-Ok.ensures.bound) in
    (c.loop.all.items ++ read, Consumes-trans _ _ _ _ _ c.loop.invariant.bytes c.in-Ok.ensures.bytes.0, more)
