-- What is lowered by tables is what the law of lowering has.
use Rattle.std.proofs.Common.{◌≡◌, ℕ, ◌++◌, Bool, if◌then◌else◌, List, [], ◌∷◌, map, length, refl, sym, ap, ◌∙◌}
use Rattle.std.specs.Prelude.{slice_index_or}
use Rattle.std.specs.List.{list_any}
use Rattle.std.proofs.lemmas.List.{length-map}
use Rattle.c_syntax.specs.declared.tree.Function.{Function}
use Rattle.c_syntax.specs.declared.tree.TopItem.{TopItem}
use Rattle.c_syntax.specs.Graph.{is_recursive}
use Rattle.c_meaning.specs.Meaning as meaning
use Rattle.c_meaning.specs.Meaning.{globals}
use Rattle.mid_blocks.specs.declared.code.Mid.{Mid}
use Rattle.lower_rules.specs.Bindings as law
use Rattle.lower_rules.specs.Bindings.{Bindings, GlobalShape}
use Rattle.lower_rules.specs.Programs as programs
use Rattle.c_syntax.specs.Graph.{with_bodies}
use Rattle.lower_rules.specs.Programs.{variables_of, shapes, number_of, bindings_of, low_function, low_program, in_number_order, object_words}
use Rattle.lower_expressions.specs.declared.table.Shape.{Shape}
use Rattle.lower_expressions.specs.declared.table.Callee.{Callee}
use Rattle.lower_expressions.specs.declared.table.Callee.TheVariants.{NoFunction}
use Rattle.lower_expressions.specs.Names.{shape_of, callee_of}
use Rattle.lower_names.specs.Calls.{AreCallees}
use Rattle.lower_functions.specs.Lowered.{bindings_in, is_marked, low_with, low_among}

module _ (names : meaning.Names) (items : List TopItem) (gs : List Shape) (cs : List Callee) (marks : List Bool) (shaped : map shape_of gs ≡ shapes items) (called : AreCallees names items cs) (marked : (name : ℕ) → is_marked marks name ≡ is_recursive items name) where
  with_names : Function → List GlobalShape → (ℕ → law.Callee) → Bindings
  with_names f g c = record {
    variable = λ name. programs.place_of name 0 (variables_of f);
    local_unsigned = λ name. programs.unsigned_in name (variables_of f);
    globals = g;
    callee = c;
  }

  names_same : (f : Function) → bindings_in gs cs (variables_of f) ≡ bindings_of names items f
  unfolding bindings_in with_names
  names_same f =
      ap (λ g. with_names f g (λ name. callee_of (slice_index_or cs name NoFunction))) shaped
      ∙ (λ i. with_names f (shapes items) (λ name. called name i))

  globals_same : length gs ≡ length (globals items)
  globals_same = sym (length-map gs shape_of) ∙ ap length shaped ∙ length-map (globals items) programs.shape_of

  function_same : (f : Function) → low_among gs cs marks f ≡ low_function names items f
  function_same f =
      ap (λ ns. low_with ns (length gs) (is_marked marks f.name) f) (names_same f)
      ∙ ap (λ n. low_with (bindings_of names items f) n (is_marked marks f.name) f) globals_same
      ∙ ap (λ r. low_with (bindings_of names items f) (length (globals items)) r f) (marked f.name)

  functions_same : (fs : List Function) → map (low_among gs cs marks) fs ≡ map (low_function names items) fs
  functions_same [] = refl
  functions_same (f ∷ fs) = ap (λ m. m ∷ map (low_among gs cs marks) fs) (function_same f) ∙ ap (λ ms. low_function names items f ∷ ms) (functions_same fs)

  marks_same : (fs : List Function) → list_any (λ f. is_marked marks f.name) fs ≡ list_any (λ f. is_recursive items f.name) fs
  marks_same fs = λ i. list_any (λ f. marked f.name i) fs

  pub program_same : (m : Mid) (chain_pairs : ℕ) → m.functions ≡ map (low_among gs cs marks) (in_number_order names.main items) →
      m.globals ≡ map (λ g. object_words g.object) (globals items) ++ (if list_any (λ f. is_marked marks f.name) (with_bodies items) then (0 ∷ []) ∷ [] else []) →
      m.chain_pairs ≡ chain_pairs → m ≡ low_program names (record { items = items }) chain_pairs
  program_same m chain_pairs f g c =
      ap (λ fs. let r : Mid = record { functions = fs; globals = m.globals; chain_pairs = m.chain_pairs } in r) (f ∙ functions_same (in_number_order names.main items))
      ∙ ap (λ ws. let r : Mid = record { functions = map (low_function names items) (in_number_order names.main items); globals = ws; chain_pairs = m.chain_pairs } in r)
      (g ∙ ap (λ (b : Bool). map (λ g. object_words g.object) (globals items) ++ (if b then (0 ∷ []) ∷ [] else [])) (marks_same (with_bodies items)))
      ∙ ap (λ n. let r : Mid = record { functions = map (low_function names items) (in_number_order names.main items); globals = map (λ g. object_words g.object) (globals items) ++ (if list_any (λ f. is_recursive items f.name) (with_bodies items) then (0 ∷ []) ∷ [] else []); chain_pairs = n } in r) c
