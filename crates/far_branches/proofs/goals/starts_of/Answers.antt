use Rattle.std.proofs.Common.{◌≡◌, ◌∙◌, ap, sym, subst, refl, ℕ, List, Bool, false, get_or, length}
use Rattle.std.specs.Prelude.{IfOk}
use Rattle.far_branches.proofs.Counted.{starts_are, read_back, all_false}
use Rattle.far_branches.proofs.goals.starts_of.Goals as goal

pub returns : goal.returns
returns c =
    let read : c.as_slice.result.now ≡ c.mark_entries.new.marks = read_back c.in_ok-marks.marks.len c.mark_entries.new.marks c.in_ok-marks.marks.items c.as_mut_slice.result.now c.as_slice.result.now c.as_slice.ensures.value c.mark_entries.ensures.length c.as_mut_slice.ensures.value c.as_mut_slice.ensures.len in
    let zeros : (k : ℕ) → get_or c.as_mut_slice.result.now k false ≡ false = λ k. ap (λ (z : List Bool). get_or z k false) (c.as_mut_slice.ensures.value ∙ c.in_ok-marks.ensures.items_if_clones_equal (λ y e. e)) ∙ all_false c.args.count k in
    let many : length c.as_slice.result.now ≡ c.args.count = c.as_slice.ensures.len ∙ c.in_ok-marks.ensures.len in
    let marked : (k : ℕ) → get_or c.as_slice.result.now k false ≡ Rattle.std.specs.Prelude.◌||◌ (get_or c.as_mut_slice.result.now k false) (Rattle.far_branches.specs.Far.has k c.args.entries.now) = λ k. ap (λ (z : List Bool). get_or z k false) read ∙ c.mark_entries.ensures.marked k in
    subst (λ (z : List ℕ). IfOk c.function_starts.result (λ v. v.items ≡ z)) (starts_are c.args.entries.now c.as_mut_slice.result.now c.as_slice.result.now c.args.count zeros many marked) c.function_starts.ensures
