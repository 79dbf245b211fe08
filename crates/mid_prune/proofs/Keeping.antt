-- What is kept of a list: of one more item, the item where it is marked.
use Rattle.std.proofs.Common.{◌≡◌, ℕ, suc, ◌+◌, ◌<◌, Bool, true, false, List, [], ◌∷◌, ◌++◌, map, length, refl, sym, ap, ◌∙◌, arith, if◌then◌else◌}
use Rattle.mid_blocks.specs.declared.code.MidEnd.{MidEnd}
use Rattle.mid_blocks.specs.declared.code.MidEnd.TheVariants.{Jump, Branch, Call, Return}
use Rattle.mid_blocks.specs.declared.code.MidBlock.{MidBlock}
use Rattle.mid_blocks.specs.declared.code.MidFunction.{MidFunction}
use Rattle.mid_blocks.specs.Renumbered.{renumbered_end}
use Rattle.mid_blocks.specs.Pruned.{is_marked, marked, marks_of, function_marks, numbers_of, renumbered_block, pruned_function, pruned_from}
use Rattle.mid_prune.specs.Counts.{numbers_by}
use Rattle.mid_prune.proofs.Marking.{marked_within}

pub marked_none : {A : Type 0} (bs : List Bool) → marked {A = A} bs [] ≡ []
marked_none [] = refl
marked_none (b ∷ bs) = refl

pub marked_more : {A : Type 0} (bs : List Bool) (xs : List A) (x : A) → marked bs (xs ++ x ∷ []) ≡ marked bs xs ++ (if is_marked bs (length xs) then x ∷ [] else [])
marked_more [] xs x = refl
marked_more (true ∷ bs) [] x = ap (λ l. x ∷ l) (marked_none bs)
marked_more (false ∷ bs) [] x = marked_none bs
marked_more (true ∷ bs) (y ∷ ys) x = ap (λ l. y ∷ l) (marked_more bs ys x)
marked_more (false ∷ bs) (y ∷ ys) x = marked_more bs ys x

map_more : {A B : Type 0} (f : A → B) (xs : List A) (b : Bool) (x : A) → map f (xs ++ (if b then x ∷ [] else [])) ≡ map f xs ++ (if b then f x ∷ [] else [])
map_more f [] true x = refl
map_more f [] false x = refl
map_more f (y ∷ ys) b x = ap (λ l. f y ∷ l) (map_more f ys b x)

-- a turn over blocks
pub blocks_more : {A B : Type 0} (f : A → B) (bs : List Bool) (xs : List A) (x : A) (at : ℕ) (before after : List B) → before ≡ map f (marked bs xs) → at ≡ length xs →
    after ≡ before ++ (if is_marked bs at then f x ∷ [] else []) → after ≡ map f (marked bs (xs ++ x ∷ []))
blocks_more f bs xs x at before after b e a =
    a ∙ ap (λ l. l ++ (if is_marked bs at then f x ∷ [] else [])) b
    ∙ ap (λ n. map f (marked bs xs) ++ (if is_marked bs n then f x ∷ [] else [])) e
    ∙ sym (map_more f (marked bs xs) (is_marked bs (length xs)) x) ∙ ap (map f) (sym (marked_more bs xs x))

from_more : (marks : List (List Bool)) (i j : ℕ) (fs : List MidFunction) (f : MidFunction) → i + length fs ≡ j → pruned_from marks i (fs ++ f ∷ []) ≡ pruned_from marks i fs ++ pruned_function marks j f ∷ []
from_more marks i j [] f e = let k : i ≡ j = omega (arith, e) in ap (λ n. pruned_function marks n f ∷ []) k
from_more marks i j (g ∷ gs) f e = ap (λ l. pruned_function marks i g ∷ l) (from_more marks (suc i) j gs f (omega (arith, e)))

from_long : (marks : List (List Bool)) (i : ℕ) (fs : List MidFunction) → length (pruned_from marks i fs) ≡ length fs
from_long marks i [] = refl
from_long marks i (f ∷ fs) = ap suc (from_long marks (suc i) fs)

-- a turn over functions
pub functions_more : (marks : List (List Bool)) (bs : List Bool) (fs : List MidFunction) (f : MidFunction) (at : ℕ) (before after : List MidFunction) → before ≡ marked bs (pruned_from marks 0 fs) → at ≡ length fs →
    after ≡ before ++ (if is_marked bs at then pruned_function marks at f ∷ [] else []) → after ≡ marked bs (pruned_from marks 0 (fs ++ f ∷ []))
functions_more marks bs fs f at before after b e a =
    a ∙ ap (λ (l : List MidFunction). l ++ (if is_marked bs at then pruned_function marks at f ∷ [] else [])) b
    ∙ ap (λ n. marked bs (pruned_from marks 0 fs) ++ (if is_marked bs n then pruned_function marks at f ∷ [] else [])) (e ∙ sym (from_long marks 0 fs))
    ∙ sym (marked_more bs (pruned_from marks 0 fs) (pruned_function marks at f))
    ∙ ap (marked bs) (sym (from_more marks 0 at fs f (omega (arith, e))))

-- ---- numbers by a function's own marks

end_same : (marks : List (List Bool)) (f : ℕ) (end : MidEnd) → renumbered_end (numbers_by (function_marks marks) (marks_of marks f)) 0 end ≡ renumbered_end (numbers_of marks) f end
end_same marks f (Jump to) = refl
end_same marks f (Branch test when to) = refl
end_same marks f (Call function args result) = refl
end_same marks f (Return from) = refl

blocks_same : (marks : List (List Bool)) (f : ℕ) (bs : List MidBlock) → map (renumbered_block (numbers_by (function_marks marks) (marks_of marks f)) 0) bs ≡ map (renumbered_block (numbers_of marks) f) bs
blocks_same marks f [] = refl
blocks_same marks f (b ∷ bs) = ap (λ e. (let x : MidBlock = record { steps = b.steps; end = e } in x) ∷ map (renumbered_block (numbers_by (function_marks marks) (marks_of marks f)) 0) bs) (end_same marks f b.end) ∙ ap (λ l. renumbered_block (numbers_of marks) f b ∷ l) (blocks_same marks f bs)

pub function_same : (marks : List (List Bool)) (callees own : List Bool) (f : ℕ) (code after : MidFunction) → callees ≡ function_marks marks → own ≡ marks_of marks f →
    after ≡ record code { blocks = map (renumbered_block (numbers_by callees own) 0) (marked own code.blocks) } → after ≡ pruned_function marks f code
function_same marks callees own f code after c o e =
    e ∙ ap (λ (x : List Bool). let y : MidFunction = record code { blocks = map (renumbered_block (numbers_by x own) 0) (marked own code.blocks) } in y) c
    ∙ ap (λ (x : List Bool). let y : MidFunction = record code { blocks = map (renumbered_block (numbers_by (function_marks marks) x) 0) (marked x code.blocks) } in y) o
    ∙ ap (λ (x : List MidBlock). let y : MidFunction = record code { blocks = x } in y) (blocks_same marks f (marked (marks_of marks f) code.blocks))

function_marks_long : (marks : List (List Bool)) → length (function_marks marks) ≡ length marks
function_marks_long [] = refl
function_marks_long (bs ∷ marks) = ap suc (function_marks_long marks)

pub kept_within : (marks : List (List Bool)) (callees : List Bool) (is : Bool) (at : ℕ) → callees ≡ function_marks marks → is ≡ is_marked callees at → is ≡ true → at < length marks
kept_within marks callees is at e i h = let l = marked_within callees at (sym i ∙ h) in omega (arith, l, ap length e, function_marks_long marks)

pub kept_or_not : {A : Type 0} (bs : List Bool) (at : ℕ) (is b : Bool) (before after : List A) (x : A) → is ≡ is_marked bs at → is ≡ b → after ≡ before ++ (if b then x ∷ [] else []) → after ≡ before ++ (if is_marked bs at then x ∷ [] else [])
kept_or_not bs at is b before after x i h e = e ∙ ap (λ c. before ++ (if c then x ∷ [] else [])) (sym h ∙ i)
