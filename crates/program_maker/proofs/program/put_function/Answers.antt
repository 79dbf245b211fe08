use Rattle.std.proofs.Common.{◌≡◌, ◌++◌, List, ℕ, ap, ◌∙◌}
use Rattle.std.specs.Prelude.{codes}
use Rattle.std.proofs.lemmas.Result.{on_ok_weaker}
use Rattle.program_maker.specs.declared.draws.Numbers.{Numbers}
use Rattle.program_maker.specs.Draws.{numbers_after}
use Rattle.program_maker.specs.Text.{text_with, head_line, start_line, loop_line, mix_line, store_line, split_line, call_line}
use Rattle.program_maker.proofs.Growing.{grown}
use Rattle.program_maker.proofs.program.put_function.Goals as goal

pub returns-clause-text : goal.returns-clause-text
returns-clause-text c =
    let m : Numbers = c.numbers-numbers.result in
    let k : ℕ = c.args.k in
    let r9 : List ℕ = codes "return c;\n}\n" in
    let r8 : List ℕ = call_line k ++ r9 in
    let r7 : List ℕ = codes "}\n" ++ r8 in
    let r6 : List ℕ = split_line m ++ r7 in
    let r5 : List ℕ = store_line m ++ r6 in
    let r4 : List ℕ = mix_line m ++ r5 in
    let r3 : List ℕ = loop_line m ++ r4 in
    let r2 : List ℕ = start_line m ++ r3 in
    let t0 : List ℕ = c.args.text.now.items in
    let t1 : List ℕ = c.put_head.new.text.items in
    let t2 : List ℕ = c.put_start.new.text.items in
    let t3 : List ℕ = c.put_loop.new.text.items in
    let t4 : List ℕ = c.put_mix.new.text.items in
    let t5 : List ℕ = c.put_store.new.text.items in
    let t6 : List ℕ = c.put_split.new.text.items in
    let t7 : List ℕ = c.put.new.text.items in
    let t8 : List ℕ = c.put_call.new.text.items in
    let t9 : List ℕ = c.put-2.new.text.items in
    on_ok_weaker c.put-2.result (λ last number at.
    grown t0 t1 t9 (head_line k) r2 c.in_ok-put_head.ensures (grown t1 t2 t9 (start_line m) r3 c.in_ok-put_start.ensures (grown t2 t3 t9 (loop_line m) r4 c.in_ok-put_loop.ensures
    (grown t3 t4 t9 (mix_line m) r5 c.in_ok-put_mix.ensures (grown t4 t5 t9 (store_line m) r6 c.in_ok-put_store.ensures (grown t5 t6 t9 (split_line m) r7 c.in_ok-put_split.ensures
    (grown t6 t7 t9 (codes "}\n") r8 c.in_ok-put.ensures (grown t7 t8 t9 (call_line k) r9 c.in_ok-put_call.ensures last)))))))
    ∙ ap (λ (n : Numbers). t0 ++ text_with k n) (c.numbers-numbers.ensures.numbers ∙ ap numbers_after at)) c.put-2.ensures
