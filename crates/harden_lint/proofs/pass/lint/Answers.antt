use Rattle.std.proofs.Common.{ℕ, ◌≡◌, refl, length, sym, subst, rules, List, Bool}
use Rattle.std.specs.Prelude.{Option, Some, None}
use Rattle.mips_text.specs.Blocks.{IsStart}
use Rattle.harden_lint.specs.declared.TypingRow.{TypingRow}
use Rattle.harden_lint.specs.Rules.{BadAt, WellTyped}
use Rattle.harden_lint.specs.Rows.{Typed}
use Rattle.harden_lint.specs.StartTable.{Table}
use Rattle.harden_lint.specs.Outcome.{Decided}
use Rattle.harden_lint.specs.Masks.{RowsTo}
use Rattle.harden_lint.proofs.Exact.{of_obeys}
use Rattle.harden_lint.proofs.MaskBits.{all_rows}
use Rattle.harden_lint.proofs.pass.lint.Goals as goal

-- the table of the text says what is decided
judged : (text table : List ℕ) (entry : ℕ) (bits : List Bool) (out : Option ℕ) (answer : Option (ℕ × ℕ)) → table ≡ text → Table table (IsStart table entry) bits out → ((entry : ℕ) → Table table (IsStart table entry) bits out → Decided table entry answer) → Decided text entry answer
judged text table entry bits out answer e t d = subst (λ (x : List ℕ). Decided x entry answer) e (d entry t)

bad : (text : List ℕ) (entry a r b s : ℕ) (answer : Option (ℕ × ℕ)) → Decided text entry answer → answer ≡ Some (a, r) → a ≡ b → r ≡ s → BadAt text entry b s
bad text entry a r b s answer d e f g = subst (λ (x : ℕ). BadAt text entry b x) g (subst (λ (x : ℕ). BadAt text entry x r) f (subst (Decided text entry) e d))

well : (text : List ℕ) (entry : ℕ) (answer : Option (ℕ × ℕ)) → Decided text entry answer → answer ≡ None → WellTyped text entry
well text entry answer d e = subst (Decided text entry) e d

never_both : (text : List ℕ) (entry a r : ℕ) → BadAt text entry a r → WellTyped text entry → ⊥
never_both text entry a r b w = of_obeys text entry a r (w a) b.broken

typed : (text table : List ℕ) (entry : ℕ) (bits seen : List Bool) (out : Option ℕ) (rows : List TypingRow) → table ≡ text → WellTyped text entry → Table table (IsStart table entry) bits out → seen ≡ bits → RowsTo table seen (length table) rows → Typed text entry rows
typed text table entry bits seen out rows e w t b r = record {
  listed = all_rows text entry bits out rows (subst (λ (x : List ℕ). Table x (IsStart x entry) bits out) e t) (subst (λ (x : List ℕ). RowsTo x bits (length x) rows) e (subst (λ (x : List Bool). RowsTo table x (length table) rows) b r));
  rules = w;
}

pub returns-in-Some-clause-accepted : goal.returns-in-Some-clause-accepted
returns-in-Some-clause-accepted c = λ rows t address rule e.
    never_both c.args.text.now c.args.entry c.in-Some.address c.in-Some.rule
    (bad c.args.text.now c.args.entry c.in-Some.address c.in-Some.rule c.in-Some.address c.in-Some.rule c.judge.result (judged c.args.text.now c.in_ok-table.table c.args.entry c.in_ok-starts.starts.bits.items c.in_ok-starts.starts.outside c.judge.result c.in_ok-table.ensures c.in_ok-starts.ensures c.judge.ensures) c.in-Some.is refl refl) t.rules

pub returns-in-Some-clause-lowest : goal.returns-in-Some-clause-lowest
returns-in-Some-clause-lowest c = λ address rule e.
    bad c.args.text.now c.args.entry c.in-Some.address c.in-Some.rule address rule c.judge.result
    (judged c.args.text.now c.in_ok-table.table c.args.entry c.in_ok-starts.starts.bits.items c.in_ok-starts.starts.outside c.judge.result c.in_ok-table.ensures c.in_ok-starts.ensures c.judge.ensures)
    c.in-Some.is (search (rules, e)) (search (rules, e))

pub returns-clause-typed : goal.returns-clause-typed
returns-clause-typed c =
    let d : Decided c.args.text.now c.args.entry c.judge.result = judged c.args.text.now c.in_ok-table.table c.args.entry c.in_ok-starts.starts.bits.items c.in_ok-starts.starts.outside c.judge.result c.in_ok-table.ensures c.in_ok-starts.ensures c.judge.ensures in
    subst (Typed c.args.text.now c.args.entry) (sym c.from_vec.ensures)
    (typed c.args.text.now c.in_ok-table.table c.args.entry c.in_ok-starts.starts.bits.items c.as_slice.result.now c.in_ok-starts.starts.outside c.in_ok-rows-in-None.rows.items c.in_ok-table.ensures (well c.args.text.now c.args.entry c.judge.result d c.in-None.is) c.in_ok-starts.ensures c.as_slice.ensures.value c.in_ok-rows-in-None.ensures)

pub returns-clause-refused : goal.returns-clause-refused
returns-clause-refused c = λ address rule b.
    never_both c.args.text.now c.args.entry address rule b
    (well c.args.text.now c.args.entry c.judge.result (judged c.args.text.now c.in_ok-table.table c.args.entry c.in_ok-starts.starts.bits.items c.in_ok-starts.starts.outside c.judge.result c.in_ok-table.ensures c.in_ok-starts.ensures c.judge.ensures) c.in-None.is)
