use Rattle.std.proofs.Common.{ℕ, ◌≡◌, ◌+◌, ◌*◌, length, sym, ◌∙◌, ap, subst, List, Bool}
use Rattle.std.specs.Prelude.{Option}
use Rattle.mips_text.specs.Text.{IsText}
use Rattle.mips_text.specs.Blocks.{IsStart}
use Rattle.lint_words.specs.Around.{in_slot}
use Rattle.harden_lint.specs.StartTable.{Table}
use Rattle.harden_lint.specs.Outcome.{Scanned, Decided, end_of, outcome}
use Rattle.harden_lint.proofs.Exact.{decided}
use Rattle.harden_lint.proofs.pass.judge.Goals as goal

judged : (text : List ℕ) (entry : ℕ) (bits : List Bool) (out : Option ℕ) (found : Option (ℕ × ℕ)) (slot : Bool) (n : ℕ) (answer : Option (ℕ × ℕ)) → IsText text → Table text (IsStart text entry) bits out → Scanned text entry found → n ≡ length text → slot ≡ in_slot text (0x00400000 + 4 * n) → answer ≡ outcome found out slot (0x00400000 + 4 * n) → Decided text entry answer
judged text entry bits out found slot n answer fits t s h k e =
    let f : answer ≡ outcome found out (in_slot text (end_of text)) (end_of text) = e ∙ (ap (λ (z : Bool). outcome found out z (0x00400000 + 4 * n)) k ∙ ap (λ (m : ℕ). outcome found out (in_slot text (0x00400000 + 4 * m)) (0x00400000 + 4 * m)) h) in
    subst (Decided text entry) (sym f) (decided text entry bits out fits t found s)

pub returns : goal.returns
returns c = λ entry t.
    let bits : List Bool = c.args.starts.now.bits.items in
    let out : Option ℕ = c.args.starts.now.outside in
    judged c.args.text.now entry bits out c.scan-found.result c.in_slot.result c.len.result c.outcome.result c.requires t
    (c.scan-found.ensures entry out (subst (λ (b : List Bool). Table c.args.text.now (IsStart c.args.text.now entry) b out) (sym c.as_slice.ensures.value) t)) c.len.ensures c.in_slot.ensures c.outcome.ensures
