-- A block as it is put, and a program as it is put together.
use Rattle.std.proofs.Common.{◌≡◌, ◌<◌, ◌+◌, ◌*◌, ℕ, arith, ap, sym, ◌∙◌, subst, List, [], ◌∷◌, ◌++◌, length, map, flat_map}
use Rattle.std.specs.Prelude.{None, get_or}
use Rattle.mid_blocks.specs.declared.code.MidEnd.TheVariants.{Return}
use Rattle.duplicate_pass.specs.Emits.{CallsBelow}
use Rattle.std.specs.List.{range_with_len}
use Rattle.std.proofs.lemmas.List.FromFn.{length-map-range_with_len, get_or-map-range_with_len}
use Rattle.hard_items.specs.declared.code.HardBlock.{HardBlock}
use Rattle.hard_items.specs.declared.code.HardProgram.{HardProgram}
use Rattle.hard_items.specs.declared.code.Item.{Item}
use Rattle.mid_blocks.specs.declared.code.MidStep.{MidStep}
use Rattle.mid_blocks.specs.declared.code.MidBlock.{MidBlock}
use Rattle.mid_blocks.specs.declared.code.MidFunction.{MidFunction}
use Rattle.mid_blocks.specs.declared.code.Mid.{Mid}
use Rattle.mid_blocks.specs.declared.places.Places.{Places}
use Rattle.frame_plan.specs.Frames.{cell_address, global_cell, global_length, cells}
use Rattle.double_law.specs.Emitted.{step_items, end_items}
use Rattle.double_law.specs.Program.{first_block, start_items, doubled}
use Rattle.double_law.specs.Ways.{successors}
use Rattle.duplicate_pass.specs.Doubled.{doubled_block, program_blocks, first_one, exit_one, doubled_program}
use Rattle.duplicate_pass.specs.Ready.{AreTables, successors_by, FunctionReady, block_at}
use Rattle.duplicate_pass.proofs.Emitted.{block_here, three_put, by_tables, same_default, same_lists}

abbrev items_put : Mid → Places → List MidStep → List Item
items_put mid at steps = flat_map (step_items (λ g. cell_address (global_cell mid g)) (global_length mid) at) steps

block_same : (a b : List Item) (s t : List ℕ) → a ≡ b → s ≡ t → ◌≡◌ {A = HardBlock} (record { items = a; successors = s }) (record { items = b; successors = t })
block_same a b s t e f = ap (λ (z : List Item). record { items = z; successors = s }) e ∙ ap (λ (z : List ℕ). record { items = b; successors = z }) f

pub block_put : (mid : Mid) (n b : ℕ) (f : MidFunction) (at : Places) (addresses firsts : List ℕ) (returns : List (List ℕ)) →
    AreTables mid firsts returns → n < length mid.functions → FunctionReady (length mid.functions) (first_block mid n) addresses f at → b < length f.blocks →
    (ks : List MidBlock) (k : MidBlock) → ks ≡ f.blocks → k ≡ get_or ks b k →
    (first : ℕ) → first ≡ get_or firsts n first →
    (o0 o1 o2 o3 : List Item) (steps : List MidStep) (ways : List ℕ) → o0 ≡ [] → o1 ≡ o0 ++ start_items f at b → o2 ≡ o1 ++ items_put mid at steps → steps ≡ k.steps →
    o3 ≡ o2 ++ end_items first f.pairs at k.end → ways ≡ successors_by firsts returns n (first + b) k.end →
    ◌≡◌ {A = HardBlock} (record { items = o3; successors = ways }) (doubled_block mid n b f at (block_at f b))
block_put mid n b f at addresses firsts returns t h ready there ks k e i first x o0 o1 o2 o3 steps ways p q r u v w =
    block_same o3 (start_items f at b ++ (items_put mid at k.steps ++ end_items (first_block mid n) f.pairs at k.end)) ways (successors mid n b k.end)
    (three_put o1 o2 o3 (start_items f at b) (items_put mid at k.steps) (end_items (first_block mid n) f.pairs at k.end)
    (q ∙ ap (λ (z : List Item). z ++ start_items f at b) p)
    (r ∙ ap (λ (z : List MidStep). o1 ++ items_put mid at z) u)
    (v ∙ ap (λ (z : ℕ). o2 ++ end_items z f.pairs at k.end) is_first))
    (w ∙ (ap (λ (z : ℕ). successors_by firsts returns n (z + b) k.end) is_first ∙ by_tables mid firsts returns n b k.end t h below)) ∙
    ap (λ (z : MidBlock). doubled_block mid n b f at z) (block_here f b ks k there e i)
  where
    is_first : first ≡ first_block mid n
    is_first = x ∙ (same_default firsts n 0 first (subst (λ (z : ℕ). n < z) (sym t.firsts_long) h) ∙ t.first n h)

    below : CallsBelow (length mid.functions) k.end
    below = subst (λ (z : MidBlock). CallsBelow (length mid.functions) z.end) (sym (block_here f b ks k there e i)) (ready.blocks b (record { steps = []; end = Return None }) there).calls

-- the first blocks of functions, as a list
pub entries_are : (mid : Mid) (firsts : List ℕ) (returns : List (List ℕ)) → AreTables mid firsts returns → firsts ≡ map (first_block mid) (range_with_len 0 (length mid.functions))
entries_are mid firsts returns t = same_lists firsts (map (first_block mid) (range_with_len 0 (length mid.functions)))
    (t.firsts_long ∙ sym (length-map-range_with_len (first_block mid) 0 (length mid.functions)))
    (λ i h. let k : i < length mid.functions = subst (λ (z : ℕ). i < z) t.firsts_long h in
    t.first i k ∙ sym (get_or-map-range_with_len (first_block mid) 0 (length mid.functions) i i 0 k (zero_plus i)))
  where
    zero_plus : (n : ℕ) → 0 + n ≡ n
    zero_plus n = omega arith

pub program_put : (mid : Mid) (places : List Places) (firsts : List ℕ) (returns : List (List ℕ)) (b0 b1 b2 : List HardBlock) (entries initial : List ℕ) (memory : ℕ) → AreTables mid firsts returns → entries ≡ firsts →
    b0 ≡ [] → b1 ≡ b0 ++ first_one mid ∷ exit_one ∷ [] → b2 ≡ b1 ++ program_blocks mid 0 mid.functions places →
    initial ≡ doubled (flat_map (λ words. words) mid.globals) → memory ≡ 2 * cells mid →
    ◌≡◌ {A = HardProgram} (record { blocks = b2; entries = entries; initial = initial; memory_words = memory }) (doubled_program mid places)
program_put mid places firsts returns b0 b1 b2 entries initial memory t n e f g i m =
    ap (λ (z : List HardBlock). record { blocks = z; entries = entries; initial = initial; memory_words = memory }) (g ∙ ap (λ (z : List HardBlock). z ++ program_blocks mid 0 mid.functions places) (f ∙ ap (λ (z : List HardBlock). z ++ first_one mid ∷ exit_one ∷ []) e)) ∙
    (ap (λ (z : List ℕ). record { blocks = first_one mid ∷ exit_one ∷ program_blocks mid 0 mid.functions places; entries = z; initial = initial; memory_words = memory }) (n ∙ entries_are mid firsts returns t) ∙
    (ap (λ (z : List ℕ). record { blocks = first_one mid ∷ exit_one ∷ program_blocks mid 0 mid.functions places; entries = map (first_block mid) (range_with_len 0 (length mid.functions)); initial = z; memory_words = memory }) i ∙
    ap (λ (z : ℕ). record { blocks = first_one mid ∷ exit_one ∷ program_blocks mid 0 mid.functions places; entries = map (first_block mid) (range_with_len 0 (length mid.functions)); initial = doubled (flat_map (λ words. words) mid.globals); memory_words = z }) m))
