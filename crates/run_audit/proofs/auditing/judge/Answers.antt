use Rattle.std.proofs.Common.{◌≡◌, ◌∙◌, ℕ, List, Bool, sym, subst}
use Rattle.std.specs.Prelude.{Result, Ok, Err, IfOk}
use Rattle.elf_image.specs.Layout.{fields_of}
use Rattle.mips_text.specs.Blocks.{IsStart}
use Rattle.mips_isa.specs.Image.{ImageFields, boot_state}
use Rattle.mips_isa.specs.Machine.{State}
use Rattle.mips_text.specs.Text.{IsText}
use Rattle.mips_machine.specs.View.{state_of}
use Rattle.harden_lint.specs.declared.TypingRow.{TypingRow}
use Rattle.harden_lint.specs.Rows.{Typed}
use Rattle.harden_lint.specs.Rules.{WellTyped}
use Rattle.harden_lint.specs.Theorems.{ShowsWithin, ShowsFlipWithin}
use Rattle.run_audit.specs.Audits.{AuditedRun}
use Rattle.run_audit.specs.Turns.{Bits, Judged}
use Rattle.run_audit.specs.declared.error.AuditError.{AuditError}
use Rattle.run_audit.proofs.auditing.judge.Goals as goal

-- the run of the machine of the image, with the table of its starts
judged : (i : ImageFields) (feed : List ℕ) (steps : ℕ) (r : Result ℕ AuditError) (text table : List ℕ) (bits seen : List Bool) (s : State)
    → text ≡ i.text → WellTyped text i.entry → table ≡ text → Bits table (IsStart table i.entry) bits → seen ≡ bits → s ≡ boot_state i feed
    → ((j : ImageFields) (f : List ℕ) → WellTyped j.text j.entry → table ≡ j.text → Bits j.text (IsStart j.text j.entry) seen → s ≡ boot_state j f → Judged j f steps r)
    → Judged i feed steps r
judged i feed steps r text table bits seen s e y t b n h walk =
    walk i feed (subst (λ (x : List ℕ). WellTyped x i.entry) e y) (t ∙ e)
    (subst (λ (x : List ℕ). Bits x (IsStart x i.entry) seen) (t ∙ e) (subst (λ (x : List Bool). Bits table (IsStart table i.entry) x) (sym n) b)) h

-- what holds of a run that passes
run_of : (i : ImageFields) (feed : List ℕ) (steps : ℕ) (rows : List TypingRow) (r : Result ℕ AuditError) → ShowsWithin → ShowsFlipWithin → IsText i.text → Typed i.text i.entry rows
    → Judged i feed steps r → IfOk r (λ made. AuditedRun i feed steps)
run_of i feed steps rows (Ok made) words bits small typed p = record {
  words = λ step place word s f k l. words i feed steps rows small typed p.placed p.unreported step place word s f k l;
  bits = λ step reg bit o f k l. bits i feed steps rows small typed p.placed p.unreported step reg bit o f k l;
}
run_of i feed steps rows (Err error) words bits small typed p = tt

pub returns-clause-judged : goal.returns-clause-judged
returns-clause-judged c =
    judged (fields_of c.args.image.now) c.args.feed.items c.args.steps c.walk.result c.as_slice-text.result.now c.in_ok-table.table c.in_ok-starts.starts.items c.as_slice.result.now (state_of c.in_ok-machine.machine)
    c.as_slice-text.ensures c.in_ok-_typing.ensures.typed.rules c.in_ok-table.ensures c.in_ok-starts.ensures c.as_slice.ensures.value c.in_ok-machine.ensures c.walk.ensures

pub returns-clause-run : goal.returns-clause-run
returns-clause-run c =
    run_of (fields_of c.args.image.now) c.args.feed.items c.args.steps c.in_ok-_typing._typing.rows c.walk.result c.shows_within.ensures c.shows_flip_within.ensures c.requires.fits.bounds.sizes.text
    (subst (λ (x : List ℕ). Typed x c.args.image.now.entry c.in_ok-_typing._typing.rows) c.as_slice-text.ensures c.in_ok-_typing.ensures.typed)
    (judged (fields_of c.args.image.now) c.args.feed.items c.args.steps c.walk.result c.as_slice-text.result.now c.in_ok-table.table c.in_ok-starts.starts.items c.as_slice.result.now (state_of c.in_ok-machine.machine)
    c.as_slice-text.ensures c.in_ok-_typing.ensures.typed.rules c.in_ok-table.ensures c.in_ok-starts.ensures c.as_slice.ensures.value c.in_ok-machine.ensures c.walk.ensures)
