use Rattle.std.proofs.Common.{◌≡◌, ◌++◌, ◌∷◌, [], List, ℕ}
use Rattle.std.specs.Prelude.{codes}
use Rattle.std.proofs.lemmas.Result.{on_ok_weaker}
use Rattle.program_maker.specs.declared.draws.Numbers.{Numbers}
use Rattle.program_maker.specs.Text.{mix_line, numbered}
use Rattle.program_maker.proofs.Growing.{grown}
use Rattle.program_maker.proofs.text.put_mix.Goals as goal

pub returns : goal.returns
unfolding mix_line
returns c =
    let m : Numbers = c.args.numbers in
    let a : List ℕ = codes "c = (c " ++ m.inner ∷ codes " a) " in
    let b : List ℕ = m.outer ∷ codes " (b " in
    let o : List ℕ = m.other ∷ [] in
    let last : List ℕ = numbered (codes " ") m.constant (codes ");\n") in
    let t0 : List ℕ = c.args.text.now.items in
    let t1 : List ℕ = c.put.new.text.items in
    let t2 : List ℕ = c.put-2.new.text.items in
    let t3 : List ℕ = c.put-3.new.text.items in
    let t4 : List ℕ = c.put_numbered.new.text.items in
    on_ok_weaker c.put_numbered.result (λ e. grown t0 t1 t4 a (b ++ (o ++ last)) c.in_ok-put.ensures (grown t1 t2 t4 b (o ++ last) c.in_ok-put-2.ensures (grown t2 t3 t4 o last c.in_ok-put-3.ensures e))) c.put_numbered.ensures
