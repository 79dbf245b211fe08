-- Each call of a lowered function is one of its body.
use Rattle.std.proofs.Common.{◌≡◌, ◌⊎◌, inl, inr, ℕ, zero, suc, ◌+◌, ◌<◌, ◌≤◌, Bool, true, false, List, [], ◌∷◌, ◌++◌, map, length, Option, Some, None, refl, sym, ap, ◌∙◌, subst, arith, option_map, if◌then◌else◌, ◌==◌, get_or}
use Rattle.std.specs.Prelude.{slice_get, Contains}
use Rattle.std.proofs.lemmas.Bool.{eqb-true, eq-eqb}
use Rattle.std.proofs.lemmas.Option.{slice_get-map}
use Rattle.c_syntax.specs.declared.tree.Function.{Function}
use Rattle.c_syntax.specs.declared.tree.TopItem.{TopItem}
use Rattle.c_syntax.specs.Graph.{body_of, body_calls, function_named, is_recursive, statement_calls}
use Rattle.c_syntax.specs.Costs.{statement_temps}
use Rattle.c_syntax.specs.Sizes.{greatest}
use Rattle.c_meaning.specs.Meaning.{Names, globals}
use Rattle.mid_blocks.specs.declared.code.MidStep.{MidStep}
use Rattle.mid_blocks.specs.declared.code.MidEnd.{MidEnd}
use Rattle.mid_blocks.specs.declared.code.MidEnd.TheVariants.{Jump, Branch, Call, Return}
use Rattle.mid_blocks.specs.declared.code.MidBlock.{MidBlock}
use Rattle.mid_blocks.specs.declared.code.MidFunction.{MidFunction}
use Rattle.mid_blocks.specs.declared.code.Mid.{Mid}
use Rattle.mid_blocks.specs.Lines.{Line, Step, End, line_of, line_in, line_at}
use Rattle.mid_blocks.specs.Valid.{EndsBy}
use Rattle.lower_rules.specs.Bindings.{Bindings, Callee, InWord, OutWord, Defined, NoFunction, defined_callee, callee_of}
use Rattle.lower_rules.specs.Statements.{Context, LowStmt, low_list, low_statement}
use Rattle.lower_rules.specs.Functions.{Counter, cut, begin_lines, end_lines, fallen_off, returned_from}
use Rattle.lower_rules.specs.Programs.{some_of, returns_value, in_number_order, number_of, bindings_of, free_of, counter_of, low_function, low_program}
use Rattle.lower_law.proofs.Plans.{number_main, function_at}
use Rattle.lower_law.proofs.OnlyMain.{only_main}
use Rattle.lower_calls_law.specs.LoweringCallsLaws.{IsCallee, CallsAreCallees, OnlyMainWhereAlone}
use Rattle.lower_calls_law.proofs.Called.{one_if, end_called, called, called-append, is_function, hits}
use Rattle.lower_calls_law.proofs.CalledStatements.{body_most}

none_some : {A : Type 0} (n : ℕ) (x : A) → slice_get [] n ≡ Some x → ⊥
none_some n x h = cc

-- a call at the end of a block is one of the lines
block_called : (n : ℕ) (steps : List MidStep) (ls : List Line) (b : MidBlock) (k : ℕ) (args : List ℕ) (result : Option ℕ) → slice_get (cut steps ls) n ≡ Some b → b.end ≡ Call k args result → 1 ≤ called k ls
block_called n steps [] b k args result h e = absurd (none_some n b h)
block_called n steps (Step s ∷ ls) b k args result h e = block_called n (steps ++ s ∷ []) ls b k args result h e
block_called zero steps (End x ∷ ls) b k args result h e =
    let same : record { steps = steps; end = x } ≡ b = cc in
    let is : x ≡ Call k args result = ap (λ (y : MidBlock). y.end) same ∙ e in
    omega (arith, ap (end_called k) is, ap one_if (eq-eqb k k refl))
block_called (suc n) steps (End x ∷ ls) b k args result h e = omega (arith, block_called n [] ls b k args result h e)

begin_none : (k : ℕ) (r : Bool) (g s : ℕ) → called k (begin_lines (if r then Some (let c : Counter = record { global = g; spare = s } in c) else None)) ≡ 0
begin_none k true g s = refl
begin_none k false g s = refl

end_none : (k : ℕ) (r : Bool) (g s : ℕ) → called k (end_lines (if r then Some (let c : Counter = record { global = g; spare = s } in c) else None)) ≡ 0
end_none k true g s = refl
end_none k false g s = refl

fallen_none : (k : ℕ) (b : Bool) (free : ℕ) → called k (fallen_off b free) ≡ 0
fallen_none k true free = refl
fallen_none k false free = refl

-- a name that stands for the function k
record Hit (names : Bindings) (k : ℕ) (ns : List ℕ) : Type 0 where
  pub name : ℕ
  pub there : Contains ns name
  pub is : is_function k (names.callee name) ≡ true

hit : (names : Bindings) (k : ℕ) (ns : List ℕ) → 1 ≤ hits names k ns → Hit names k ns
hit names k [] h = absurd (omega (arith, h))
hit names k (n ∷ ns) h = by (is_function k (names.callee n)) refl h (hit names k ns)
  where
    by : (b : Bool) → is_function k (names.callee n) ≡ b → 1 ≤ one_if b + hits names k ns → (1 ≤ hits names k ns → Hit names k ns) → Hit names k (n ∷ ns)
    by true is le later = record { name = n; there = (0, omega arith, refl); is = is }
    by false is le later =
        let r = later (omega (arith, le)) in
        record { name = r.name; there = (suc r.there.0, omega (arith, r.there.1), r.there.2); is = r.is }

-- what stands for a function is one with a body
record Known (names : Names) (items : List TopItem) (name k : ℕ) : Type 0 where
  pub callee : Function
  pub is : function_named name items ≡ Some callee
  pub number_is : k ≡ number_of names items name

known : (names : Names) (items : List TopItem) (name k : ℕ) → is_function k (callee_of names items (number_of names items) name) ≡ true → Known names items name k
known names items name k h = by (name == names.in_word) (name == names.out_word) (function_named name items) refl h
  where
    by : (a b : Bool) (o : Option Function) → function_named name items ≡ o → is_function k (let y : Callee = if a then InWord else (if b then OutWord else defined_callee (number_of names items name) o) in y) ≡ true → Known names items name k
    by true b o is e = absurd (cc)
    by false true o is e = absurd (cc)
    by false false None is e = absurd (cc)
    by false false (Some g) is e = record { callee = g; is = is; number_is = sym (eqb-true (number_of names items name) k e) }

module _ (names : Names) (items : List TopItem) (f : Function) where
  -- a call at the end of a block of a lowered function
  pub block_callee : (block : ℕ) (b : MidBlock) (k : ℕ) (args : List ℕ) (result : Option ℕ) → slice_get (low_function names items f).blocks block ≡ Some b → b.end ≡ Call k args result → IsCallee names items f k
  block_callee block b k args result at e =
      let binds : Bindings = bindings_of names items f in
      let value : Bool = some_of (map returns_value (body_of f.body)) in
      let free : ℕ = free_of f in
      let r : Bool = is_recursive items f.name in
      let g : ℕ = length (globals items) in
      let spare : ℕ = free + greatest (map statement_temps (body_of f.body)) in
      let c : LowStmt = low_list (map (low_statement binds) (body_of f.body)) in
      let last : ℕ = c.blocks + 1 in
      let context : Context = record { breaks_to = 0; continues_to = 0; returns_to = last; free = free } in
      let front : List Line = c.lines context 0 in
      let begin : List Line = begin_lines (counter_of items f) in
      let ending : List Line = end_lines (counter_of items f) ++ End (Return (returned_from value free)) ∷ [] in
      let rest : List Line = fallen_off value free ++ (End (Jump last) ∷ ending) in
      let one : 1 ≤ called k (begin ++ (front ++ rest)) = block_called block [] (begin ++ (front ++ rest)) b k args result at e in
      let few = (body_most k binds (body_of f.body)).most context 0 in
      let some : 1 ≤ hits binds k (body_calls f.body) = omega (arith, one, few, called-append k begin (front ++ rest), called-append k front rest, called-append k (fallen_off value free) (End (Jump last) ∷ ending), called-append k (end_lines (counter_of items f)) (End (Return (returned_from value free)) ∷ []), begin_none k r g spare, end_none k r g spare, fallen_none k value free) in
      let x = hit binds k (body_calls f.body) some in
      let y = known names items x.name k x.is in
      record { name = x.name; callee = y.callee; is_called = x.there; is = y.is; number_is = y.number_is }

pub are_callees : CallsAreCallees
are_callees names items f block step number args result h = by (slice_get (low_function names items f).blocks block) refl h
  where
    at_end : (b : MidBlock) (o : Option MidStep) → slice_get (low_function names items f).blocks block ≡ Some b → Some (line_of o b.end) ≡ Some (End (Call number args result)) → IsCallee names items f number
    at_end b None at e = let same : b.end ≡ Call number args result = cc in block_callee names items f block b number args result at same
    at_end b (Some s) at e = absurd (cc)

    by : (o : Option MidBlock) → slice_get (low_function names items f).blocks block ≡ o → line_in o step ≡ Some (End (Call number args result)) → IsCallee names items f number
    by None at e = absurd (cc)
    by (Some b) at e = at_end b (slice_get b.steps step) at e

pub main_alone : OnlyMainWhereAlone
main_alone names program chain_pairs marks main main_is no_body only = only_main (low_program names program chain_pairs) no_call marks only
  where
    low_main : slice_get (low_program names program chain_pairs).functions 0 ≡ Some (low_function names program.items main)
    low_main =
        slice_get-map (low_function names program.items) (in_number_order names.main program.items) 0
        ∙ ap (λ k. option_map (low_function names program.items) (slice_get (in_number_order names.main program.items) k)) (sym (number_main names program.items main main_is))
        ∙ ap (option_map (low_function names program.items)) (function_at names program.items names.main main main_is)

    no_call : (code : MidFunction) (block function : ℕ) (args : List ℕ) (result : Option ℕ) → slice_get (low_program names program chain_pairs).functions 0 ≡ Some code → EndsBy code block (Call function args result) → ⊥
    no_call code block function args result at (b, at_b, e) =
        let both : Some (low_function names program.items main) ≡ Some code = sym low_main ∙ at in
        let same : low_function names program.items main ≡ code = cc in
        let x = block_callee names program.items main block b function args result (ap (λ (y : MidFunction). slice_get y.blocks block) same ∙ at_b) e in
        let none : None ≡ Some x.callee = sym (no_body x.name x.is_called) ∙ x.is in cc
