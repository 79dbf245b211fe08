use Rattle.std.proofs.Common.{◌≡◌, ◌+◌, Bool, false, refl, sym, subst}
use Rattle.mips_text.specs.Blocks.{Head}
use Rattle.std.proofs.lemmas.List.{get_or_read}
use Rattle.sign_law.specs.Graph.{IsSucc}
use Rattle.sign_law.specs.Signs.{IsReached}
use Rattle.signature_assign.proofs.numbers.mark_of.Goals as goal

pub returns : goal.returns
returns c =
    let e = get_or_read c.args.known.now.two.items c.args.u c.index.result.now c.requires.within c.index.ensures false in
    let P : Bool → Type 0 = λ fan. IsReached (IsSucc c.args.known.now.successors.items) c.args.u (record { s = c.args.u + 1; d = c.difference.result; fan = fan; D = c.adjustment.result }) in
    record {
      sign = refl;
      reached = subst P (sym e) (c.difference.ensures c.adjustment.result);
      leaves = c.adjustment.ensures c.difference.result c.index.result.now;
    }
