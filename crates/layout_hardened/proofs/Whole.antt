-- The laws taken together.
use Rattle.std.proofs.Common.{◌≡◌, ◌≢◌, ◌≤◌, ◌<◌, ℕ, suc, ◌+◌, ◌*◌, arith, ap, refl, sym, ◌∙◌, subst, List, [], ◌∷◌, length, map, true}
use Rattle.std.specs.Prelude.{◌↔◌, Some, None, Contains, get_or}
use Rattle.std.proofs.lemmas.Option.{slice_get-get_or, get_or_from_slice_get}
use Rattle.hard_words.specs.Words.{AreWords}
use Rattle.hard_words.specs.declared.SetPlace.{SetPlace}
use Rattle.hard_words.specs.declared.SetPlace.TheVariants.{Reg, Hi, Lo, Memory}
use Rattle.mips_isa.specs.declared.instr.Instr.{Instr}
use Rattle.mips_isa.specs.Machine.{is_jump}
use Rattle.mips_text.specs.Text.{IsText, At, Near}
use Rattle.mips_isa.specs.Image.{ImageFields}
use Rattle.mips_text.specs.Blocks.{IsStart, InSpan, Succ, IsAlias, Linked, Head, HeadAt, carried}
use Rattle.mips_faults.specs.Faults.{image_run, Detects, Caught, Placed, Unreported}
use Rattle.harden_lint.specs.declared.TypingRow.{TypingRow}
use Rattle.harden_lint.specs.Rows.{AreRows, Typed}
use Rattle.harden_lint.specs.Theorems.{IsFree, FlipShown}
use Rattle.harden_lint.proofs.Whole.{shows, shows_flip}
use Rattle.lint_theorem.proofs.Led.{catches}
use Rattle.hard_items.specs.declared.code.Signed.{Signed}
use Rattle.hard_items.specs.Heads.{headed}
use Rattle.hard_items.specs.Ways.{MayFollow}
use Rattle.hard_items.specs.Rules.{Guarded}
use Rattle.sign_law.specs.Marks.{HasSigns, successors_of, head_of}
use Rattle.sign_law.specs.Graph.{IsSucc}
use Rattle.sign_law.specs.Signs.{IsLaid, head_at}
use Rattle.sign_law.proofs.Laid.{laid_signs_differ, laid_aliases_are_linked, laid_aliases}
use Rattle.signature_assign.proofs.Premises.{follows_succ, succ_follows, long_map}
use Rattle.layout_law.specs.Layout.{address, text, image, words}
use Rattle.layout_law.specs.Level.{Laying}
use Rattle.layout_law.specs.Laws.{Prepared}
use Rattle.layout_law.proofs.Texts.{length_text}
use Rattle.layout_law.proofs.Typed.{words_are_typed}
use Rattle.layout_law.proofs.Signed.{signed_same, signed_placed, signed_unreported}
use Rattle.lint_words.specs.WindowList.{AreWindows, pair_at}
use Rattle.lint_theorem.specs.Hardened.{AreAliases, IsUnlisted, IsHardened}
use Rattle.layout_hardened.specs.Laws.{image_with, WordsAreHardened, RunsAs, WordsRunAs, WordsHaveWays}
use Rattle.layout_hardened.proofs.LaidOut.{graph_laid}

-- A pair at a place of a list is in the list.
contained : (l : List (ℕ × ℕ)) (k : ℕ) (x : ℕ × ℕ) → k < length l → pair_at l k ≡ x → Contains l x
contained l k x h e = (k, h, get_or_from_slice_get l k x x (slice_get-get_or l k (0, 0) h ∙ ap (λ (y : ℕ × ℕ). Some y) e))

module _ (s : Signed) (rows : List TypingRow) (ws as_ : List (ℕ × ℕ)) (p : Prepared s) (g : Guarded s.program) (listed : AreRows (text (headed s)) 0x00400000 rows) (w : AreWindows (text (headed s)) ws) (a : AreAliases (text (headed s)) 0x00400000 as_) where
  i : ImageFields
  i = image_with s ws as_

  is_text : IsText (text (headed s))
  is_text = subst (λ (n : ℕ). n ≤ 66060288) (sym (length_text (headed s))) p.laying.size

  typed : Typed (text (headed s)) 0x00400000 rows
  typed = record { listed = listed; rules = words_are_typed s p.laying p.signs.one_each g }

  laid : IsLaid (successors_of s.program) (map head_of s.marks) (text (headed s)) 0x00400000 (address (headed s))
  laid = graph_laid s p.laying p.signs

  not_near : (at r : ℕ) → (Contains ws (at, r) → ⊥) → Near (text (headed s)) at r → ⊥
  not_near at r h n = let k : (k : ℕ) × ((k < length ws) × (pair_at ws k ≡ (at, r))) = w.complete at r n in h (contained ws k.0 (at, r) k.1.0 k.1.1)

  free : (at : ℕ) (place : SetPlace) → IsUnlisted ws at place → IsFree (text (headed s)) at place
  free at (Reg r) h = not_near at r h
  free at Hi h = tt
  free at Lo h = tt
  free at (Memory x) h = tt

  not_alias : (u v : ℕ) → (Contains as_ (u, v) → ⊥) → IsAlias (text (headed s)) 0x00400000 u v → ⊥
  not_alias u v h n = h ((a.exact u v).1 n)

  head_there : (u : ℕ) → IsStart (text (headed s)) 0x00400000 u → (h : Head) × HeadAt (text (headed s)) u h
  head_there u h =
      let b : (b : ℕ) × ((b < length (successors_of s.program)) × (u ≡ address (headed s) b)) = laid.block u h in
      (head_at (map head_of s.marks) b.0, subst (λ (z : ℕ). HeadAt (text (headed s)) z (head_at (map head_of s.marks) b.0)) (sym b.1.1) (laid.head b.0 b.1.0))

  hardened : IsHardened (image_with s ws as_)
  hardened = record {
    windows = w;
    detects = λ input q n place word h. shows (image_with s ws as_) input rows is_text typed (signed_placed s input p q) (signed_unreported s input p q) n place word (free (image_run (image_with s ws as_) input None n).state.pc place h);
    shows_flips = λ input q n r bit o h k. shows_flip (image_with s ws as_) input rows is_text typed (signed_placed s input p q) (signed_unreported s input p q) n r bit o (not_near (image_run (image_with s ws as_) input None n).state.pc r h) k;
    heads = head_there;
    signs_differ = λ u v g h x y d e. laid_signs_differ (successors_of s.program) (map head_of s.marks) (text (headed s)) 0x00400000 (address (headed s)) p.signs.signs laid u v g h x y d e;
    aliases = a;
    linked = λ u v h. laid_aliases_are_linked (successors_of s.program) (map head_of s.marks) (text (headed s)) 0x00400000 (address (headed s)) p.signs.signs laid u v h;
    catches = λ input q n u v jump e at is sp st no h. catches (image_with s ws as_) input rows is_text typed (signed_placed s input p q) (signed_unreported s input p q) n u v jump e at is sp st no (not_alias u v h);
  }

pub words_are_hardened : WordsAreHardened
words_are_hardened s rows ws as_ p g listed w a = hardened s rows ws as_ p g listed w a

pub words_run_as : WordsRunAs
words_run_as s ws as_ p = record {
  same = λ input q. signed_same s input p q;
  placed = λ input q. signed_placed s input p q;
  unreported = λ input q. signed_unreported s input p q;
}

pub words_have_ways : WordsHaveWays
words_have_ways s l g u w hu hw =
    let d : IsLaid (successors_of s.program) (map head_of s.marks) (text (headed s)) 0x00400000 (address (headed s)) = graph_laid s l g in
    let up : (b : ℕ) → b < length s.program.blocks → b < length (successors_of s.program) = λ b h. subst (λ (n : ℕ). b < n) (sym (long_map s.program.blocks)) h in
    let q : IsAlias (text (headed s)) 0x00400000 (address (headed s) u) (address (headed s) w) ↔ ((IsSucc (successors_of s.program) u w → ⊥) × (carried (head_at (map head_of s.marks) u) (head_at (map head_of s.marks) w) ≡ (head_at (map head_of s.marks) w).s)) =
    laid_aliases (successors_of s.program) (map head_of s.marks) (text (headed s)) 0x00400000 (address (headed s)) d u w (up u hu) (up w hw) in (
      (λ x. succ_follows s.program u w l.well_formed hu (d.followed u w (up u hu) (up w hw) x), λ x. d.follows u w (follows_succ s.program u w l.well_formed x)),
      (λ x. (λ y. (q.0 x).0 (follows_succ s.program u w l.well_formed y), (q.0 x).1), λ x. q.1 (λ y. x.0 (succ_follows s.program u w l.well_formed hu y), x.1)),
    )
