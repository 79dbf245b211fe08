-- A block as it is put.
use Rattle.std.proofs.Common.{◌≡◌, ◌<◌, ◌+◌, ℕ, ap, sym, ◌∙◌, subst, List, [], ◌++◌, length, flat_map}
use Rattle.std.specs.Prelude.{None, get_or}
use Rattle.mid_blocks.specs.declared.code.MidEnd.TheVariants.{Return}
use Rattle.mid_blocks.specs.declared.code.MidStep.{MidStep}
use Rattle.mid_blocks.specs.declared.code.MidBlock.{MidBlock}
use Rattle.mid_blocks.specs.declared.code.MidFunction.{MidFunction}
use Rattle.mid_blocks.specs.declared.code.Mid.{Mid}
use Rattle.mid_blocks.specs.declared.places.Places.{Places}
use Rattle.mips_isa.specs.declared.instr.Instr.{Instr}
use Rattle.frame_plan.specs.Frames.{global_cell, global_length}
use Rattle.third_law.specs.Emitted.{step_code, end_code}
use Rattle.third_law.specs.Program.{cell_address, first_block, start_code, block_code, looked_up}
use Rattle.third_pass.specs.Emits.{CallsBelow}
use Rattle.third_pass.specs.Ready.{AreFirsts, FunctionReady, block_at}
use Rattle.third_pass.proofs.Emitted.{block_here, three_put, by_firsts}

abbrev code_put : Mid → Places → List MidStep → List Instr
code_put mid at steps = flat_map (step_code (λ g. cell_address (global_cell mid g)) (global_length mid) at) steps

pub block_put : (mid : Mid) (n b : ℕ) (f : MidFunction) (places : Places) (addresses starts firsts : List ℕ) →
    AreFirsts mid firsts → n < length mid.functions → FunctionReady (length mid.functions) (first_block mid n) addresses f places → b < length f.blocks →
    (ks : List MidBlock) (k : MidBlock) → ks ≡ f.blocks → k ≡ get_or ks b k →
    (first : ℕ) → first ≡ looked_up firsts n →
    (o0 o1 o2 o3 : List Instr) (steps : List MidStep) → o0 ≡ [] → o1 ≡ o0 ++ start_code f places b → o2 ≡ o1 ++ code_put mid places steps → steps ≡ k.steps →
    o3 ≡ o2 ++ end_code (looked_up starts) (looked_up firsts) (first + b) first f.pairs places k.end →
    o3 ≡ block_code (looked_up starts) mid n b f places (block_at f b)
block_put mid n b f places addresses starts firsts t h ready there ks k e i first x o0 o1 o2 o3 steps p q r u v =
    three_put o1 o2 o3 (start_code f places b) (code_put mid places k.steps) (end_code (looked_up starts) (first_block mid) (first_block mid n + b) (first_block mid n) f.pairs places k.end)
    (q ∙ ap (λ (z : List Instr). z ++ start_code f places b) p)
    (r ∙ ap (λ (z : List MidStep). o1 ++ code_put mid places z) u)
    (v ∙ (ap (λ (z : ℕ). o2 ++ end_code (looked_up starts) (looked_up firsts) (z + b) z f.pairs places k.end) is_first ∙
    ap (λ (z : List Instr). o2 ++ z) (by_firsts mid (looked_up starts) firsts (first_block mid n + b) (first_block mid n) f.pairs places k.end t below))) ∙
    ap (λ (z : MidBlock). block_code (looked_up starts) mid n b f places z) (block_here f b ks k there e i)
  where
    is_first : first ≡ first_block mid n
    is_first = x ∙ t.first n h

    below : CallsBelow (length mid.functions) k.end
    below = subst (λ (z : MidBlock). CallsBelow (length mid.functions) z.end) (sym (block_here f b ks k there e i)) (ready.blocks b (record { steps = []; end = Return None }) there).calls
