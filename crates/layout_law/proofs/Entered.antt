-- The two laws together; and how the blocks of a signed program are entered.
use Rattle.std.proofs.Common.{◌≡◌, ◌≤◌, ◌<◌, ℕ, ◌+◌, arith, sym, subst, List, length, length-append, inl, inr}
use Rattle.std.specs.Prelude.{None, slice_get}
use Rattle.hard_runs.specs.Observed.{SameObserved}
use Rattle.hard_runs.proofs.Observed.{same_transitive}
use Rattle.hard_runs.specs.Stepping.{Always}
use Rattle.mips_isa.specs.declared.instr.End.{End}
use Rattle.mips_isa.specs.declared.instr.End.TheVariants.{Reported}
use Rattle.mips_isa.specs.Runs.{observed}
use Rattle.mips_isa.specs.Image.{boot_state}
use Rattle.hard_items.specs.declared.code.Signed.{Signed}
use Rattle.hard_items.specs.Run.{items, items_of, first_spot, item_run}
use Rattle.hard_items.specs.WellFormed.{WellFormed, ItemAt, IsEntered}
use Rattle.hard_words.specs.Words.{AreWords}
use Rattle.hard_items.specs.Rules.{LawfulAt, NeverReports}
use Rattle.hard_items.specs.Heads.{headed, signed_run}
use Rattle.layout_law.specs.Layout.{image}
use Rattle.layout_law.specs.Level.{Entered}
use Rattle.layout_law.specs.Signs.{Follows, Signing, HeadedWordsSame}
use Rattle.layout_law.proofs.Lines.{head_of, items_headed, heads_length}
use Rattle.layout_law.proofs.Laying.{can_be_laid, calls_own, holds_own, holds_at, block_not_plain}
use Rattle.layout_law.proofs.Same.{words_same}
use Rattle.layout_law.proofs.Heads.{heads_same, follow_up, calls_up}

never : (s : Signed) → Signing s → ((input : List ℕ) → AreWords input → Always (items s.program) (first_spot s.program input) (LawfulAt s.program)) → NeverReports s.program → NeverReports (headed s)
never s g a r input w n code at e =
    let q : SameObserved (signed_run s input) (item_run s.program input) × Always (items (headed s)) (first_spot (headed s) input) (Follows s input) = heads_same s input g (a input w) in
    r input w n code at (q.0.ends n (Reported code at) e).0

pub signed_words_same : HeadedWordsSame
signed_words_same s input l g w a r =
    let q : SameObserved (signed_run s input) (item_run s.program input) × Always (items (headed s)) (first_spot (headed s) input) (Follows s input) = heads_same s input g (a input w) in
    same_transitive End (observed (boot_state (image (headed s)) input) None) (signed_run s input) (item_run s.program input)
    (words_same (headed s) input (can_be_laid s l) (subst (λ (z : ℕ). 0 < z) (sym (heads_length s.program.blocks s.marks)) g.well_formed.has_block) w (λ n e. (q.1 n e).lawful) (never s g a r)) q.0

-- ---- how blocks are entered

entered_up : (s : Signed) (c : ℕ) → IsEntered s.program c → IsEntered (headed s) c
entered_up s c (inl q) = inl (q.0, follow_up s q.0 c q.1)
entered_up s c (inr q) = inr (q.0, q.1, q.2, calls_up s q.0 q.1 q.3)

some_more : (s : Signed) (b : ℕ) → WellFormed s.program → b < length s.program.blocks → 2 ≤ length (items_of (headed s) b)
some_more s b w h = rw (items_headed s b h) (rw length-append (sum (length (head_of (slice_get s.marks b))) (length (items_of s.program b)) (w.ends_well b h).0 (w.ends_well b h).3))
  where
    sum : (a n k : ℕ) → n ≡ k + 2 → 2 ≤ a + n
    sum a n k e = omega arith

pub entered : (s : Signed) → WellFormed s.program → Entered (headed s)
entered s w = record {
  some = up w.has_block;
  two = λ b h. some_more s b w (down h);
  calls_go_on = λ b f c. up (w.call_goes_on b f (calls_own s b f c));
  branches_go_on = λ b t rs rt imm i h f e. up (let k : (k : ℕ) × ItemAt (items_of s.program b) k i = holds_at (items_of s.program b) i (holds_own s b i (block_not_plain i t f) h) in (w.branch_stays b k.0 t rs rt imm i k.1 f e).0);
  each = λ c h k. entered_up s c (w.each_entered c h (down k));
}
  where
    up : {n : ℕ} → n < length s.program.blocks → n < length (headed s).blocks
    up {n} h = subst (λ (z : ℕ). n < z) (sym (heads_length s.program.blocks s.marks)) h

    down : {n : ℕ} → n < length (headed s).blocks → n < length s.program.blocks
    down {n} h = subst (λ (z : ℕ). n < z) (heads_length s.program.blocks s.marks) h
