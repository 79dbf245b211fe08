use Rattle.std.proofs.Common.{ℕ, ◌≡◌, refl, length, sym, subst, rules, List, Bool}
use Rattle.std.specs.Prelude.{Option, Some, None}
use Rattle.mips_text.specs.Blocks.{IsStart}
use Rattle.third_lint.specs.declared.ThirdRow.{ThirdRow}
use Rattle.third_lint.specs.Rules.{BadAt, WellTyped}
use Rattle.third_lint.specs.Rows.{Typed}
use Rattle.third_lint.specs.Tables.{Table, Entered}
use Rattle.third_lint.specs.Outcome.{Scanned, Decided}
use Rattle.third_lint.specs.Masks.{RowsTo}
use Rattle.third_lint.proofs.Exact.{of_obeys, decided}
use Rattle.third_lint.proofs.MaskBits.{all_rows}
use Rattle.third_lint.proofs.pass.lint_third.Goals as goal

-- the table of the text says what is decided
judged : (text table : List ℕ) (entry : ℕ) (answer : Option (ℕ × ℕ)) → table ≡ text → Scanned table entry answer → Decided text entry answer
judged text table entry answer e s = subst (λ (x : List ℕ). Decided x entry answer) e (decided table entry answer s)

bad : (text : List ℕ) (entry a r b s : ℕ) (answer : Option (ℕ × ℕ)) → Decided text entry answer → answer ≡ Some (a, r) → a ≡ b → r ≡ s → BadAt text entry b s
bad text entry a r b s answer d e f g = subst (λ (x : ℕ). BadAt text entry b x) g (subst (λ (x : ℕ). BadAt text entry x r) f (subst (Decided text entry) e d))

well : (text : List ℕ) (entry : ℕ) (answer : Option (ℕ × ℕ)) → Decided text entry answer → answer ≡ None → WellTyped text entry
well text entry answer d e = subst (Decided text entry) e d

never_both : (text : List ℕ) (entry a r : ℕ) → BadAt text entry a r → WellTyped text entry → ⊥
never_both text entry a r b w = of_obeys text entry a r (w a) b.broken

typed : (text table : List ℕ) (entry : ℕ) (starts enter seen heard : List Bool) (rows : List ThirdRow) → table ≡ text → WellTyped text entry → Table table (IsStart table entry) starts → Table table (Entered table entry) enter → seen ≡ starts → heard ≡ enter →
    RowsTo table seen heard (length table) rows → Typed text entry rows
typed text table entry starts enter seen heard rows e w st et b c r = record {
  listed = all_rows text entry starts enter rows (subst (λ (x : List ℕ). Table x (IsStart x entry) starts) e st) (subst (λ (x : List ℕ). Table x (Entered x entry) enter) e et)
      (subst (λ (x : List ℕ). RowsTo x starts enter (length x) rows) e (subst (λ (x : List Bool). RowsTo table starts x (length table) rows) c (subst (λ (x : List Bool). RowsTo table x heard (length table) rows) b r)));
  rules = w;
}

pub returns-in-Some-clause-accepted : goal.returns-in-Some-clause-accepted
returns-in-Some-clause-accepted c = λ rows t address rule e.
    never_both c.args.text.now c.args.entry c.in-Some.address c.in-Some.rule
    (bad c.args.text.now c.args.entry c.in-Some.address c.in-Some.rule c.in-Some.address c.in-Some.rule c.scan.result (judged c.args.text.now c.in_ok-table.table c.args.entry c.scan.result c.in_ok-table.ensures (c.scan.ensures c.args.entry c.in_ok-marks.ensures)) c.in-Some.is refl refl) t.rules

pub returns-in-Some-clause-lowest : goal.returns-in-Some-clause-lowest
returns-in-Some-clause-lowest c = λ address rule e.
    bad c.args.text.now c.args.entry c.in-Some.address c.in-Some.rule address rule c.scan.result
    (judged c.args.text.now c.in_ok-table.table c.args.entry c.scan.result c.in_ok-table.ensures (c.scan.ensures c.args.entry c.in_ok-marks.ensures)) c.in-Some.is (search (rules, e)) (search (rules, e))

pub returns-clause-typed : goal.returns-clause-typed
returns-clause-typed c =
    let d : Decided c.args.text.now c.args.entry c.scan.result = judged c.args.text.now c.in_ok-table.table c.args.entry c.scan.result c.in_ok-table.ensures (c.scan.ensures c.args.entry c.in_ok-marks.ensures) in
    subst (Typed c.args.text.now c.args.entry) (sym c.from_vec.ensures)
    (typed c.args.text.now c.in_ok-table.table c.args.entry c.in_ok-marks.marks.starts.items c.in_ok-marks.marks.entered.items c.as_slice-starts.result.now c.as_slice-entered.result.now c.in_ok-rows-in-None.rows.items
    c.in_ok-table.ensures (well c.args.text.now c.args.entry c.scan.result d c.in-None.is) c.in_ok-marks.ensures.start_table c.in_ok-marks.ensures.entered_table c.as_slice-starts.ensures.value c.as_slice-entered.ensures.value c.in_ok-rows-in-None.ensures)

pub returns-clause-refused : goal.returns-clause-refused
returns-clause-refused c = λ address rule b.
    never_both c.args.text.now c.args.entry address rule b
    (well c.args.text.now c.args.entry c.scan.result (judged c.args.text.now c.in_ok-table.table c.args.entry c.scan.result c.in_ok-table.ensures (c.scan.ensures c.args.entry c.in_ok-marks.ensures)) c.in-None.is)
