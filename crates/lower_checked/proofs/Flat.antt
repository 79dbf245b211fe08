-- Where `main` reaches no function that reaches itself, none is left that does.
use Rattle.std.proofs.Common.{◌≡◌, ℕ, true, List, [], Option, Some, None, refl, sym, ap, ◌∙◌, subst, option_map}
use Rattle.std.specs.Prelude.{slice_get, Contains}
use Rattle.std.proofs.lemmas.Option.{slice_get-map}
use Rattle.c_syntax.specs.declared.tree.Function.{Function}
use Rattle.c_syntax.specs.declared.tree.TopItem.{TopItem}
use Rattle.c_syntax.specs.declared.tree.Program.{Program}
use Rattle.c_syntax.specs.Graph.{function_named, calls_of, callees}
use Rattle.c_meaning.specs.Meaning.{Names}
use Rattle.mid_blocks.specs.declared.code.MidEnd.TheVariants.{Call}
use Rattle.mid_blocks.specs.declared.code.MidFunction.{MidFunction}
use Rattle.mid_blocks.specs.declared.code.Mid.{Mid}
use Rattle.mid_blocks.specs.Valid.{EndsBy}
use Rattle.lower_rules.specs.Programs.{in_number_order, low_function, low_program}
use Rattle.mid_blocks.specs.Pruned.{ReachedIn, begin, jumped, fallen, called}
use Rattle.lower_rules.specs.Fitting.{Fitting}
use Rattle.lower_law.proofs.Plans.{first_is, function_at, number_main, name_is}
use Rattle.lower_calls_law.proofs.Callees.{block_callee}
use Rattle.lower_rules.specs.Room.{within}
use Rattle.lower_calls_law.specs.LoweringChainsLaws.{OneEach}
use Rattle.lower_calls_law.proofs.Shares.{flat_step, flat_plain}
use Rattle.lower_checked.specs.Counter.{NoneWhereFlat}

module _ (names : Names) (program : Program) (chain_pairs : ℕ) (ok : Fitting names program.items) (one_each : OneEach names program.items) (flat : within program.items names.main true ≡ []) where
  abbrev items : List TopItem
  items = program.items

  abbrev order : List Function
  order = in_number_order names.main items

  abbrev mid : Mid
  mid = low_program names program chain_pairs

  -- a function of this number reaches none that reaches itself
  abbrev Flat : ℕ → Type 0
  Flat number = (f : Function) → slice_get order number ≡ Some f → within items f.name true ≡ []

  first : slice_get order 0 ≡ Some ok.main
  first = ap (slice_get order) (sym (number_main names items ok.main ok.main_is)) ∙ function_at names items names.main ok.main ok.main_is

  main_flat : Flat 0
  main_flat f h =
      let same : ok.main ≡ f = some_same ok.main f (sym first ∙ h) in
      let name : f.name ≡ names.main = ap (λ (x : Function). x.name) (sym same) ∙ name_is names program chain_pairs names.main ok.main ok.main_is in
      subst (λ n. within items n true ≡ []) (sym name) flat
    where
      some_same : (x y : Function) → Some x ≡ Some y → x ≡ y
      some_same x y e = cc

  code_is : (number : ℕ) (o : Option Function) → slice_get order number ≡ o → slice_get mid.functions number ≡ option_map (low_function names items) o
  code_is number o e = slice_get-map (low_function names items) order number ∙ ap (option_map (low_function names items)) e

  callee_flat : (caller block callee : ℕ) (code : MidFunction) (args : List ℕ) (result : Option ℕ) → Flat caller → slice_get mid.functions caller ≡ Some code → EndsBy code block (Call callee args result) → Flat callee
  callee_flat caller block callee code args result before is ends f h = by (slice_get order caller) refl
    where
      by : (o : Option Function) → slice_get order caller ≡ o → within items f.name true ≡ []
      by None e = let x : None ≡ Some code = sym (code_is caller None e) ∙ is in absurd (cc)
      by (Some c) e =
          let both : Some (low_function names items c) ≡ Some code = sym (code_is caller (Some c) e) ∙ is in
          let same : low_function names items c ≡ code = cc in
          let at : slice_get (low_function names items c).blocks block ≡ Some ends.0 = ap (λ (x : MidFunction). slice_get x.blocks block) same ∙ ends.1 in
          let x = block_callee names items c block ends.0 callee args result at ends.2 in
          let c_is : function_named c.name items ≡ Some c = one_each caller c e in
          let there : slice_get order callee ≡ Some x.callee = ap (slice_get order) x.number_is ∙ function_at names items x.name x.callee x.is in
          let own : Some x.callee ≡ Some f = sym there ∙ h in
          let g_is : x.callee ≡ f = cc in
          let name : x.name ≡ f.name = sym (name_is names program chain_pairs x.name x.callee x.is) ∙ ap (λ (y : Function). y.name) g_is in
          let calls : Contains (callees items c.name) f.name = subst (λ n. Contains (callees items c.name) n) name (subst (λ o. Contains (calls_of o) x.name) (sym c_is) x.is_called) in
          flat_step items c.name f.name calls (before c e)

  reached_flat : (number block : ℕ) → ReachedIn mid number block → Flat number
  reached_flat number block begin = main_flat
  reached_flat number block (jumped f b to code end r is ends t) = reached_flat f b r
  reached_flat number block (fallen f b code end r is ends t) = reached_flat f b r
  reached_flat number block (called f b function code args result r is ends) = callee_flat f b function code args result (reached_flat f b r) is ends

pub none_recursive : NoneWhereFlat
none_recursive names program chain_pairs marks ok one_each only flat number f is m =
    flat_plain program.items f.name f refl (first_is names program.items f.name f (one_each number f is)) (reached_flat names program chain_pairs ok one_each flat number 0 (only.reached number 0 m) f is)
