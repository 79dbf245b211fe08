use Rattle.std.proofs.Common.{◌≡◌, ◌++◌, ◌∷◌, [], List, ℕ, ap, ◌∙◌}
use Rattle.std.specs.Prelude.{codes}
use Rattle.program_maker.specs.Text.{functions_text, outs_text}
use Rattle.program_maker.proofs.Growing.{grown}
use Rattle.program_maker.proofs.program.make.Goals as goal

pub returns : goal.returns
returns c =
    let head : List ℕ = codes "int t[64];\n" in
    let main : List ℕ = codes "int main(void) {\n" in
    let end : List ℕ = codes "return 0;\n}\n" in
    let functions : List ℕ = functions_text c.args.number c.args.size in
    let outs : List ℕ = outs_text c.args.size in
    let t1 : List ℕ = c.put.new.text.items in
    let t2 : List ℕ = c.put_functions.new.text.items in
    let t3 : List ℕ = c.put-2.new.text.items in
    let t4 : List ℕ = c.put_outs.new.text.items in
    let t5 : List ℕ = c.put-3.new.text.items in
    let start : t1 ≡ head = c.in_ok-put.ensures ∙ ap (λ (l : List ℕ). l ++ head) c.new-text.ensures.items in
    grown [] t1 t5 head (functions ++ (main ++ (outs ++ end))) start
    (grown t1 t2 t5 functions (main ++ (outs ++ end)) c.in_ok-put_functions.ensures
    (grown t2 t3 t5 main (outs ++ end) c.in_ok-put-2.ensures (grown t3 t4 t5 outs end c.in_ok-put_outs.ensures c.in_ok-put-3.ensures)))
