-- Lines that are cut into blocks stand in the function that has these blocks.
use Rattle.std.proofs.Common.{◌≡◌, ℕ, ◌+◌, Bool, true, false, not, List, [], ◌∷◌, ◌++◌, map, length, Option, Some, None, refl, sym, ap, ◌∙◌, subst, arith, append_assoc, append-nil, length-append}
use Rattle.std.specs.Prelude.{slice_get}
use Rattle.std.proofs.lemmas.Bool.{false≢true}
use Rattle.std.proofs.lemmas.Option.{slice_get_past}
use Rattle.mid_blocks.specs.declared.code.MidStep.{MidStep}
use Rattle.mid_blocks.specs.declared.code.MidEnd.{MidEnd}
use Rattle.mid_blocks.specs.declared.code.MidBlock.{MidBlock}
use Rattle.mid_blocks.specs.declared.code.MidFunction.{MidFunction}
use Rattle.mid_blocks.specs.Lines.{Line, Step, End, line_in, line_of}
use Rattle.c_syntax.specs.declared.tree.Stmt.{Stmt}
use Rattle.mid_blocks.specs.declared.code.MidEnd.TheVariants.{Jump, Return}
use Rattle.lower_rules.specs.Bindings.{Bindings}
use Rattle.lower_rules.specs.Statements.{LowStmt, low_list, low_statement}
use Rattle.lower_rules.specs.Functions.{Counter, cut, begin_lines, end_lines, fallen_off, returned_from, body_lines}
use Rattle.lower_law.proofs.Lines.{spot, Stands}

-- the last line is an end
abbrev pub is_closed : Bool → List Line → Bool
is_closed begun [] = not begun
is_closed begun (Step step ∷ lines) = is_closed true lines
is_closed begun (End end ∷ lines) = is_closed false lines

pub closed_by : (begun : Bool) (xs : List Line) (end : MidEnd) → is_closed begun (xs ++ End end ∷ []) ≡ true
closed_by begun [] end = refl
closed_by begun (Step step ∷ xs) end = closed_by true xs end
closed_by begun (End e ∷ xs) end = closed_by false xs end

seam : {A : Type 0} (xs : List A) (y : A) (ys : List A) → slice_get (xs ++ y ∷ ys) (length xs) ≡ Some y
seam [] y ys = refl
seam (x ∷ xs) y ys = seam xs y ys

-- the block that the lines go on
pub record First (steps : List MidStep) (lines : List Line) : Type 0 where
  pub block : MidBlock
  pub rest : List MidBlock
  pub more : List MidStep
  pub is : cut steps lines ≡ block ∷ rest
  pub steps_are : block.steps ≡ steps ++ more

first : (steps : List MidStep) (lines : List Line) → is_closed true lines ≡ true → First steps lines
first steps [] c = absurd (false≢true c)
first steps (Step step ∷ lines) c =
    let f = first (steps ++ step ∷ []) lines c in
    record { block = f.block; rest = f.rest; more = step ∷ f.more; is = f.is; steps_are = f.steps_are ∙ append_assoc steps (step ∷ []) f.more }
first steps (End end ∷ lines) c = record { block = record { steps = steps; end = end }; rest = cut [] lines; more = []; is = refl; steps_are = sym (append-nil steps) }

abbrev not_empty : List MidStep → Bool
not_empty [] = false
not_empty (x ∷ xs) = true

closed_more : (steps : List MidStep) (step : MidStep) (lines : List Line) → is_closed true lines ≡ true → is_closed (not_empty (steps ++ step ∷ [])) lines ≡ true
closed_more [] step lines c = c
closed_more (x ∷ steps) step lines c = c

pub stands_cut : (f : MidFunction) (before : List MidBlock) (steps : List MidStep) (lines : List Line) → f.blocks ≡ before ++ cut steps lines → is_closed (not_empty steps) lines ≡ true → Stands f (spot (length before) (length steps)) lines
stands_cut f before steps [] is c = tt
stands_cut f before steps (Step step ∷ lines) is c =
    let x = first (steps ++ step ∷ []) lines c in
    let here : slice_get f.blocks (length before) ≡ Some x.block = ap (λ bs. slice_get bs (length before)) (is ∙ ap (λ bs. before ++ bs) x.is) ∙ seam before x.block x.rest in
    let there : slice_get x.block.steps (length steps) ≡ Some step = ap (λ l. slice_get l (length steps)) (x.steps_are ∙ append_assoc steps (step ∷ []) x.more) ∙ seam steps step x.more in
    let e : length (steps ++ step ∷ []) ≡ length steps + 1 = omega (arith, length-append steps (step ∷ [])) in (
      ap (λ o. line_in o (length steps)) here ∙ ap (λ o. Some (line_of o x.block.end)) there,
      subst (λ n. Stands f (spot (length before) n) lines) e (stands_cut f before (steps ++ step ∷ []) lines is (closed_more steps step lines c)),
    )
stands_cut f before steps (End end ∷ lines) is c =
    let block : MidBlock = record { steps = steps; end = end } in
    let here : slice_get f.blocks (length before) ≡ Some block = ap (λ bs. slice_get bs (length before)) is ∙ seam before block (cut [] lines) in
    let there : slice_get steps (length steps) ≡ None = slice_get_past steps (length steps) (omega arith) in
    let e : length (before ++ block ∷ []) ≡ length before + 1 = omega (arith, length-append before (block ∷ [])) in (
      ap (λ o. line_in o (length steps)) here ∙ ap (λ o. Some (line_of o end)) there,
      subst (λ n. Stands f (spot n 0) lines) e (stands_cut f (before ++ block ∷ []) [] lines (is ∙ sym (append_assoc before (block ∷ []) (cut [] lines))) c),
    )

closed_after : (begun : Bool) (xs ys : List Line) → ((b : Bool) → is_closed b ys ≡ true) → is_closed begun (xs ++ ys) ≡ true
closed_after begun [] ys h = h begun
closed_after begun (Step step ∷ xs) ys h = closed_after true xs ys h
closed_after begun (End end ∷ xs) ys h = closed_after false xs ys h

-- the lines of a body stand in the function whose blocks they are cut into
pub body_stands : (f : MidFunction) (names : Bindings) (has_value : Bool) (free : ℕ) (counter : Option Counter) (body : List Stmt) → f.blocks ≡ cut [] (body_lines names has_value free counter body) → Stands f (spot 0 0) (body_lines names has_value free counter body)
body_stands f names has_value free counter body is =
    let c : LowStmt = low_list (map (low_statement names) body) in
    let last : ℕ = c.blocks + 1 in
    let front : List Line = c.lines (record { breaks_to = 0; continues_to = 0; returns_to = last; free = free }) 0 in
    let ending : List Line = end_lines counter ++ End (Return (returned_from has_value free)) ∷ [] in
    let tail : List Line = fallen_off has_value free ++ (End (Jump last) ∷ ending) in
    stands_cut f [] [] (body_lines names has_value free counter body) is
    (closed_after false (begin_lines counter) (front ++ tail) (λ b1. closed_after b1 front tail (λ b2. closed_after b2 (fallen_off has_value free) (End (Jump last) ∷ ending) (λ b3. closed_by false (end_lines counter) (Return (returned_from has_value free))))))
