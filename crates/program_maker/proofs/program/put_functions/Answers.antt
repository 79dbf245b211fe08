use Rattle.std.proofs.Common.{◌≡◌, ◌++◌, ℕ, List, ap, sym, ◌∙◌, arith}
use Rattle.program_maker.specs.Draws.{start, draw}
use Rattle.program_maker.specs.Text.{functions_text, function_text}
use Rattle.program_maker.proofs.Growing.{grown, eight_more, one_function}
use Rattle.program_maker.proofs.program.put_functions.Goals as goal

pub loop-k-preserved : goal.loop-k-preserved
loop-k-preserved c =
    let number : ℕ = c.args.number in
    let k : ℕ = c.loop-k.k in
    record {
      text = grown c.args.text.now.items c.loop-k.text.items c.put_function.new.text.items (functions_text number k) (function_text number k) c.loop-k.invariant.text
          (c.in_ok-put_function.ensures.text number c.loop-k.invariant.last) ∙ ap (λ (l : List ℕ). c.args.text.now.items ++ l) (sym (one_function number k));
      last = c.in_ok-put_function.ensures.last ∙ (ap (λ (x : ℕ). draw x 8) c.loop-k.invariant.last ∙ eight_more (start number) k);
    }

pub returns : goal.returns
returns c =
    let all : c.loop-k.k ≡ c.args.size = omega arith in
    c.loop-k.invariant.text ∙ ap (λ (k : ℕ). c.args.text.now.items ++ functions_text c.args.number k) all
