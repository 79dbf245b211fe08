-- What is left of a program with a light `main` that calls nothing.
use Rattle.std.proofs.Common.{◌≡◌, ℕ, ◌+◌, ◌-◌, ◌<◌, ◌≤◌, Bool, false, List, [], ◌∷◌, length, Option, Some, None, refl, sym, ap, ◌∙◌, subst, arith, option_map, if◌then◌else◌}
use Rattle.std.specs.Prelude.{slice_get, get_or}
use Rattle.std.proofs.lemmas.Option.{slice_get-map, get_or_from_slice_get}
use Rattle.c_syntax.specs.declared.tree.Program.{Program}
use Rattle.c_syntax.specs.Costs.{function_weight}
use Rattle.c_syntax.specs.Graph.{function_named, is_recursive}
use Rattle.c_meaning.specs.Meaning.{Names}
use Rattle.check_rules.specs.Leaf.{IsLightLeaf}
use Rattle.mid_blocks.specs.declared.code.MidEnd.{MidEnd}
use Rattle.mid_blocks.specs.declared.code.MidEnd.TheVariants.{Jump, Branch, Call, Return}
use Rattle.mid_blocks.specs.declared.code.MidBlock.{MidBlock}
use Rattle.mid_blocks.specs.declared.code.MidFunction.{MidFunction}
use Rattle.mid_blocks.specs.Lines.{End, line_in, line_at}
use Rattle.mid_blocks.specs.Valid.{is_call}
use Rattle.mid_blocks.proofs.Positions.{end_line}
use Rattle.lower_rules.specs.Programs.{in_number_order, spare_pairs, low_function, low_program}
use Rattle.mid_blocks.specs.Pruned.{marked_before, marked, marks_of, function_marks, numbers_of, pruned_function, pruned_from, Closed}
use Rattle.lower_law.proofs.Plans.{number_main, function_at, name_is}
use Rattle.lower_law.proofs.Pruning.{marked_at, function_mark, pruned_at}
use Rattle.lower_calls_law.specs.LoweringCallsLaws.{IsCallee, CallsAreCallees, OnlyMainWhereAlone}
use Rattle.mid_blocks.specs.Leaf.{IsSmallLeaf}
use Rattle.lower_checked.specs.Law.{LightLeafIsSmall}
use Rattle.lower_checked.proofs.Plain.{not_recursive}
use Rattle.lower_checked.proofs.Kept.{at_each, to_all, kept_none}

none_some : {A : Type 0} (o : Option A) (x : A) → o ≡ None → o ≡ Some x → ⊥
none_some o x a b = absurd cc

no_call : (e : MidEnd) → ((function : ℕ) (args : List ℕ) (result : Option ℕ) → e ≡ Call function args result → ⊥) → is_call e ≡ false
no_call (Jump to) h = refl
no_call (Branch test when to) h = refl
no_call (Call function args result) h = absurd (h function args result refl)
no_call (Return from) h = refl

before_none : (bs : List Bool) → marked_before bs 0 ≡ 0
before_none [] = refl
before_none (b ∷ bs) = refl

few : (w s : ℕ) → w ≤ 9 → s ≡ 0 → w - 1 + s ≤ 8
few w s h e = omega (arith, h, e)

first_alone : (k n : ℕ) → k < n → n ≤ 1 → 0 ≡ k
first_alone k n h l = omega (arith, h, l)

module _ (callees : CallsAreCallees) (names : Names) (program : Program) (chain_pairs : ℕ) (marks : List (List Bool)) (leaf : IsLightLeaf names program) where
  abbrev code : MidFunction
  code = low_function names program.items leaf.main

  abbrev left : MidFunction
  left = pruned_function marks 0 code

  ends_no_call : (n : ℕ) (b : MidBlock) → slice_get code.blocks n ≡ Some b → is_call b.end ≡ false
  ends_no_call n b at = no_call b.end (λ function args result e. none function args result e)
    where
      none : (function : ℕ) (args : List ℕ) (result : Option ℕ) → b.end ≡ Call function args result → ⊥
      none function args result e =
          let there : line_at code n (length b.steps) ≡ Some (End (Call function args result)) =
          ap (λ (o : Option MidBlock). line_in o (length b.steps)) at ∙ ap Some (end_line b.steps b.end ∙ ap End e) in
          let x : IsCallee names program.items leaf.main function = callees names program.items leaf.main n (length b.steps) function args result there in
          none_some (function_named x.name program.items) x.callee (leaf.alone x.name x.is_called) x.is

  plain : is_recursive program.items leaf.main.name ≡ false
  plain = ap (is_recursive program.items) (name_is names program chain_pairs names.main leaf.main leaf.is_main) ∙ not_recursive program.items leaf.main names.main leaf.is_main leaf.alone

  left_small : IsSmallLeaf left
  left_small = record {
    few = few (function_weight leaf.main) (spare_pairs program.items leaf.main) leaf.light (ap (λ (b : Bool). if b then 2 else 0) plain);
    calls_nothing = to_all left.blocks (kept_none (numbers_of marks) 0 (marks_of marks 0) code.blocks (at_each code.blocks ends_no_call));
  }

  low_main : slice_get (low_program names program chain_pairs).functions 0 ≡ Some code
  low_main =
      slice_get-map (low_function names program.items) (in_number_order names.main program.items) 0
      ∙ ap (λ k. option_map (low_function names program.items) (slice_get (in_number_order names.main program.items) k)) (sym (number_main names program.items leaf.main leaf.is_main))
      ∙ ap (option_map (low_function names program.items)) (function_at names program.items names.main leaf.main leaf.is_main)

  module _ (closed : Closed (low_program names program chain_pairs) marks) where
    abbrev functions : List MidFunction
    functions = (low_program names program chain_pairs).functions

    abbrev kept : List MidFunction
    kept = marked (function_marks marks) (pruned_from marks 0 functions)

    first : slice_get kept 0 ≡ Some left
    first =
        ap (slice_get kept) (sym (before_none (function_marks marks)))
        ∙ marked_at (function_marks marks) (pruned_from marks 0 functions) 0 (function_mark marks 0 ∙ closed.main)
        ∙ pruned_at marks 0 0 0 functions refl
        ∙ ap (option_map (pruned_function marks 0)) low_main

    each_small : length kept ≤ 1 → (k : ℕ) (d : MidFunction) → k < length kept → IsSmallLeaf (get_or kept k d)
    each_small one k d below =
        subst (λ i. IsSmallLeaf (get_or kept i d)) (first_alone k (length kept) below one)
        (subst IsSmallLeaf (sym (get_or_from_slice_get kept 0 left d first)) left_small)

pub is_small : CallsAreCallees → OnlyMainWhereAlone → LightLeafIsSmall
is_small callees alone names program chain_pairs marks leaf closed only =
    let one = alone names program chain_pairs marks leaf.main leaf.is_main leaf.alone only in
    record { one = one; each = each_small callees names program chain_pairs marks leaf closed one }
