-- The lines in a builder, where a line is added and where they are cut into blocks.
use Rattle.std.proofs.Common.{◌≡◌, List, [], ◌∷◌, ◌++◌, map, refl, sym, ap, ◌∙◌, append_assoc, append-nil}
use Rattle.std.specs.Prelude.{flat_map}
use Rattle.mid_blocks.specs.declared.code.MidStep.{MidStep}
use Rattle.mid_blocks.specs.declared.code.MidEnd.{MidEnd}
use Rattle.mid_blocks.specs.declared.code.MidBlock.{MidBlock}
use Rattle.mid_blocks.specs.Lines.{Line, Step, End, block_lines}
use Rattle.lower_rules.specs.Functions.{cut}
use Rattle.lower_expressions.specs.declared.builder.Builder.{Builder}
use Rattle.lower_expressions.specs.Written.{written}

map_step : (xs : List MidStep) (s : MidStep) → map Step (xs ++ s ∷ []) ≡ map Step xs ++ Step s ∷ []
map_step [] s = refl
map_step (x ∷ xs) s = ap (λ (ls : List Line). Step x ∷ ls) (map_step xs s)

flat_last : (ks : List MidBlock) (k : MidBlock) → flat_map block_lines (ks ++ k ∷ []) ≡ flat_map block_lines ks ++ block_lines k
flat_last [] k = append-nil (block_lines k)
flat_last (x ∷ ks) k = ap (λ (ls : List Line). block_lines x ++ ls) (flat_last ks k) ∙ sym (append_assoc (block_lines x) (flat_map block_lines ks) (block_lines k))

pub written_none : (b : Builder) → b.blocks ≡ [] → b.steps ≡ [] → written b ≡ []
unfolding written
written_none b p q = ap (λ (ks : List MidBlock). flat_map block_lines ks ++ map Step b.steps) p ∙ ap (λ (ss : List MidStep). map Step ss) q

pub written_step : (b c : Builder) (s : MidStep) → c.blocks ≡ b.blocks → c.steps ≡ b.steps ++ s ∷ [] → written c ≡ written b ++ Step s ∷ []
unfolding written
written_step b c s p q =
    ap (λ (ks : List MidBlock). flat_map block_lines ks ++ map Step c.steps) p
    ∙ ap (λ (ss : List MidStep). flat_map block_lines b.blocks ++ map Step ss) q
    ∙ ap (λ (ls : List Line). flat_map block_lines b.blocks ++ ls) (map_step b.steps s)
    ∙ sym (append_assoc (flat_map block_lines b.blocks) (map Step b.steps) (Step s ∷ []))

pub written_end : (b c : Builder) (k : MidBlock) (end : MidEnd) → k.steps ≡ b.steps → k.end ≡ end → c.blocks ≡ b.blocks ++ k ∷ [] → c.steps ≡ [] → written c ≡ written b ++ End end ∷ []
unfolding written
written_end b c k end p e q r =
    ap (λ (ks : List MidBlock). flat_map block_lines ks ++ map Step c.steps) q
    ∙ ap (λ (ss : List MidStep). flat_map block_lines (b.blocks ++ k ∷ []) ++ map Step ss) r
    ∙ append-nil (flat_map block_lines (b.blocks ++ k ∷ []))
    ∙ flat_last b.blocks k
    ∙ ap (λ (ss : List MidStep). flat_map block_lines b.blocks ++ (map Step ss ++ End k.end ∷ [])) p
    ∙ ap (λ (x : MidEnd). flat_map block_lines b.blocks ++ (map Step b.steps ++ End x ∷ [])) e
    ∙ sym (append_assoc (flat_map block_lines b.blocks) (map Step b.steps) (End end ∷ []))

cut_block : (before steps : List MidStep) (end : MidEnd) (ls : List Line) → cut before (map Step steps ++ End end ∷ ls) ≡ record { steps = before ++ steps; end = end } ∷ cut [] ls
cut_block before [] end ls = ap (λ (ss : List MidStep). let k : MidBlock = record { steps = ss; end = end } in k ∷ cut [] ls) (sym (append-nil before))
cut_block before (s ∷ steps) end ls =
    cut_block (before ++ s ∷ []) steps end ls
    ∙ ap (λ (ss : List MidStep). let k : MidBlock = record { steps = ss; end = end } in k ∷ cut [] ls) (append_assoc before (s ∷ []) steps)

cut_steps : (before steps : List MidStep) → cut before (map Step steps) ≡ []
cut_steps before [] = refl
cut_steps before (s ∷ steps) = cut_steps (before ++ s ∷ []) steps

cut_flat : (ks : List MidBlock) (steps : List MidStep) → cut [] (flat_map block_lines ks ++ map Step steps) ≡ ks
cut_flat [] steps = cut_steps [] steps
cut_flat (k ∷ ks) steps =
    ap (cut []) (append_assoc (block_lines k) (flat_map block_lines ks) (map Step steps) ∙ append_assoc (map Step k.steps) (End k.end ∷ []) (flat_map block_lines ks ++ map Step steps))
    ∙ cut_block [] k.steps k.end (flat_map block_lines ks ++ map Step steps)
    ∙ ap (λ (xs : List MidBlock). k ∷ xs) (cut_flat ks steps)

pub cut_written : (b : Builder) → b.blocks ≡ cut [] (written b)
unfolding written
cut_written b = sym (cut_flat b.blocks b.steps)
