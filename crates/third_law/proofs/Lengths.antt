-- How many words a block takes doesn't hang on where the blocks stand.
use Rattle.std.proofs.Common.{◌≡◌, ℕ, ◌+◌, ◌*◌, ap, refl, sym, ◌∙◌, Bool, true, false, List, [], ◌∷◌, ◌++◌, length, map, length-append, flat_map}
use Rattle.mips_isa.specs.declared.instr.Instr.{Instr}
use Rattle.mid_blocks.specs.declared.code.MidEnd.{MidEnd}
use Rattle.mid_blocks.specs.declared.code.MidEnd.TheVariants.{Jump, Branch, Call, Return}
use Rattle.mid_blocks.specs.declared.code.MidBlock.{MidBlock}
use Rattle.mid_blocks.specs.declared.code.MidFunction.{MidFunction}
use Rattle.mid_blocks.specs.declared.code.Mid.{Mid}
use Rattle.mid_blocks.specs.declared.places.Places.{Places}
use Rattle.frame_plan.specs.Frames.{global_cell, global_length}
use Rattle.third_law.specs.declared.roles.Role.{Role}
use Rattle.third_law.specs.Emitted.{place_of, source, fetched, step_code, argument_code, call_code, branch_code, end_code}
use Rattle.third_law.specs.Program.{cell_address, first_block, start_code, body_code, block_code, function_code, functions_code, code_at, starts, starts_from, third_code, looked_up}

behind : (xs ys zs : List Instr) → length ys ≡ length zs → length (xs ++ ys) ≡ length (xs ++ zs)
behind xs ys zs e = length-append xs ys ∙ (ap (λ (n : ℕ). length xs + n) e ∙ sym (length-append xs zs))

branch_same : (when : Bool) (r : Role) (to to' : ℕ) → length (branch_code when r to) ≡ length (branch_code when r to')
branch_same true r to to' = refl
branch_same false r to to' = refl

end_same : (at at' entry : ℕ → ℕ) (own first pairs : ℕ) (places : Places) (e : MidEnd) → length (end_code at entry own first pairs places e) ≡ length (end_code at' entry own first pairs places e)
end_same at at' entry own first pairs places (Jump to) = refl
end_same at at' entry own first pairs places (Branch v when to) =
    behind (fetched (place_of places v) 0) (branch_code when (source (place_of places v) 0) (at (first + to))) (branch_code when (source (place_of places v) 0) (at' (first + to))) (branch_same when (source (place_of places v) 0) (at (first + to)) (at' (first + to)))
end_same at at' entry own first pairs places (Call function args result) = behind (argument_code places 0 args) (call_code (at (entry function)) (at (own + 1))) (call_code (at' (entry function)) (at' (own + 1))) refl
end_same at at' entry own first pairs places (Return from) = refl

abbrev steps_of : Mid → Places → MidBlock → List Instr
steps_of mid places k = flat_map (step_code (λ g. cell_address (global_cell mid g)) (global_length mid) places) k.steps

block_same : (at at' : ℕ → ℕ) (mid : Mid) (n b : ℕ) (f : MidFunction) (places : Places) (k : MidBlock) → length (block_code at mid n b f places k) ≡ length (block_code at' mid n b f places k)
block_same at at' mid n b f places k =
    behind (start_code f places b) (body_code at mid n b f places k) (body_code at' mid n b f places k)
    (behind (steps_of mid places k) (end_code at (first_block mid) (first_block mid n + b) (first_block mid n) f.pairs places k.end) (end_code at' (first_block mid) (first_block mid n + b) (first_block mid n) f.pairs places k.end)
    (end_same at at' (first_block mid) (first_block mid n + b) (first_block mid n) f.pairs places k.end))

abbrev lengths : List (List Instr) → List ℕ
lengths ks = map length ks

one_more : (x y : ℕ) (xs ys : List ℕ) → x ≡ y → xs ≡ ys → ◌≡◌ {A = List ℕ} (x ∷ xs) (y ∷ ys)
one_more x y xs ys e f = ap (λ (z : ℕ). z ∷ xs) e ∙ ap (λ (z : List ℕ). y ∷ z) f

function_same : (at at' : ℕ → ℕ) (mid : Mid) (n b : ℕ) (f : MidFunction) (places : Places) (ks : List MidBlock) → lengths (function_code at mid n b f places ks) ≡ lengths (function_code at' mid n b f places ks)
function_same at at' mid n b f places [] = refl
function_same at at' mid n b f places (k ∷ ks) = one_more (length (block_code at mid n b f places k)) (length (block_code at' mid n b f places k)) (lengths (function_code at mid n (b + 1) f places ks)) (lengths (function_code at' mid n (b + 1) f places ks)) (block_same at at' mid n b f places k) (function_same at at' mid n (b + 1) f places ks)

lengths_append : (xs ys : List (List Instr)) → lengths (xs ++ ys) ≡ lengths xs ++ lengths ys
lengths_append [] ys = refl
lengths_append (x ∷ xs) ys = ap (λ (z : List ℕ). length x ∷ z) (lengths_append xs ys)

functions_same : (at at' : ℕ → ℕ) (mid : Mid) (n : ℕ) (fs : List MidFunction) (ps : List Places) → lengths (functions_code at mid n fs ps) ≡ lengths (functions_code at' mid n fs ps)
functions_same at at' mid n [] ps = refl
functions_same at at' mid n (f ∷ fs) [] = refl
functions_same at at' mid n (f ∷ fs) (p ∷ ps) =
    lengths_append (function_code at mid n 0 f p f.blocks) (functions_code at mid (n + 1) fs ps) ∙
    (ap (λ (z : List ℕ). z ++ lengths (functions_code at mid (n + 1) fs ps)) (function_same at at' mid n 0 f p f.blocks) ∙
    (ap (λ (z : List ℕ). lengths (function_code at' mid n 0 f p f.blocks) ++ z) (functions_same at at' mid (n + 1) fs ps) ∙
    sym (lengths_append (function_code at' mid n 0 f p f.blocks) (functions_code at' mid (n + 1) fs ps))))

pub code_same : (at at' : ℕ → ℕ) (mid : Mid) (places : List Places) → lengths (code_at at mid places) ≡ lengths (code_at at' mid places)
code_same at at' mid places = ap (λ (z : List ℕ). 12 ∷ 9 ∷ z) (functions_same at at' mid 0 mid.functions places)

-- The addresses hang on the lengths alone.
starts_by : (at : ℕ) (ks ls : List (List Instr)) → lengths ks ≡ lengths ls → starts_from at ks ≡ starts_from at ls
starts_by at [] [] e = refl
starts_by at [] (l ∷ ls) e = absurd (none e)
  where
    none : ◌≡◌ {A = List ℕ} [] (length l ∷ lengths ls) → ⊥
    none e = cc
starts_by at (k ∷ ks) [] e = absurd (none e)
  where
    none : ◌≡◌ {A = List ℕ} (length k ∷ lengths ks) [] → ⊥
    none e = cc
starts_by at (k ∷ ks) (l ∷ ls) e = ap (λ (n : ℕ). at ∷ starts_from (at + 4 * n) ks) (first e) ∙ ap (λ (z : List ℕ). at ∷ z) (starts_by (at + 4 * length l) ks ls (second e))
  where
    first : ◌≡◌ {A = List ℕ} (length k ∷ lengths ks) (length l ∷ lengths ls) → length k ≡ length l
    first e = cc

    second : ◌≡◌ {A = List ℕ} (length k ∷ lengths ks) (length l ∷ lengths ls) → lengths ks ≡ lengths ls
    second e = cc

-- So the addresses that were counted are those of the blocks of the text.
pub starts_are : (mid : Mid) (places : List Places) → starts mid places ≡ starts_from 0x00400000 (third_code mid places)
starts_are mid places = starts_by 0x00400000 (code_at (looked_up []) mid places) (third_code mid places) (code_same (looked_up []) (looked_up (starts mid places)) mid places)
