-- The laws of a signed program.
use Rattle.std.proofs.Common.{◌≡◌, ◌<◌, ℕ, suc, ◌+◌, ◌*◌, arith, ap, refl, sym, ◌∙◌, subst, List, [], ◌∷◌, length, inl, inr}
use Rattle.std.specs.Prelude.{◌↔◌}
use Rattle.hard_runs.specs.Stepping.{Always}
use Rattle.hard_words.specs.Words.{AreWords}
use Rattle.mips_isa.specs.declared.instr.End.TheVariants.{Reported}
use Rattle.mips_text.specs.Blocks.{IsStart}
use Rattle.hard_items.specs.declared.code.HardBlock.{HardBlock}
use Rattle.hard_items.specs.declared.code.Mark.{Mark}
use Rattle.hard_items.specs.declared.code.Signed.{Signed}
use Rattle.hard_items.specs.Run.{items, first_spot}
use Rattle.hard_items.specs.Heads.{head_items, with_heads, headed}
use Rattle.hard_items.specs.Rules.{LawfulAt}
use Rattle.layout_law.specs.Layout.{words, address, text}
use Rattle.layout_law.specs.Laws.{Prepared, HeadsFollow, HeadsNeverReport, SignedInStep, SignedWordsSame, TextLength, StartsAreBlocks, WordsArePlaced, WordsNeverReport}
use Rattle.layout_law.proofs.Texts.{words_cons, length_text}
use Rattle.layout_law.proofs.Lines.{heads_length}
use Rattle.layout_law.proofs.Whole.{runs_in_step}
use Rattle.layout_law.proofs.Laying.{can_be_laid}
use Rattle.layout_law.proofs.Heads.{heads_same}
use Rattle.layout_law.proofs.Entered.{signed_words_same, entered}
use Rattle.layout_law.proofs.Blocks.{starts_are_blocks}
use Rattle.layout_law.proofs.Placed.{words_are_placed, words_never_report}
use Rattle.layout_law.proofs.Agree.{signing}

pub heads_follow : HeadsFollow
heads_follow s input l g a = heads_same s input (signing s l g) a

pub heads_never_report : HeadsNeverReport
heads_never_report s g input w n code at e = g.never_reports input w n code at ((heads_follow s input g.laying g.signs (g.lawful input w)).0.ends n (Reported code at) e).0

lawful : (s : Signed) (input : List ℕ) → Prepared s → AreWords input → Always (items (headed s)) (first_spot (headed s) input) (LawfulAt (headed s))
lawful s input g w n e = ((heads_follow s input g.laying g.signs (g.lawful input w)).1 n e).lawful

pub signed_in_step : SignedInStep
signed_in_step s input g w n = runs_in_step (headed s) input (can_be_laid s g.laying) (subst (λ (z : ℕ). 0 < z) (sym (heads_length s.program.blocks s.marks)) g.laying.well_formed.has_block) (lawful s input g w) n

pub signed_same : SignedWordsSame
signed_same s input g w = signed_words_same s input g.laying (signing s g.laying g.signs) w g.lawful g.never_reports

headed_words : (ks : List HardBlock) (ms : List Mark) → length ms ≡ length ks → words (with_heads ks ms) ≡ words ks + 7 * length ms
headed_words [] [] e = refl
headed_words [] (m ∷ ms) e = absurd (no (length ms) e)
  where
    no : (n : ℕ) → suc n ≡ 0 → ⊥
    no n e = omega arith
headed_words (k ∷ ks) [] e = absurd (no (length ks) e)
  where
    no : (n : ℕ) → 0 ≡ suc n → ⊥
    no n e = omega arith
headed_words (k ∷ ks) (m ∷ ms) e = words_cons (record { items = Rattle.std.specs.Prelude.◌++◌ (head_items m) k.items; successors = k.successors }) (with_heads ks ms) ∙
    sum (words (with_heads ks ms)) (length k.items) (words ks) (length ms) (words (k ∷ ks)) (headed_words ks ms (less (length ms) (length ks) e)) (words_cons k ks)
  where
    less : (a b : ℕ) → suc a ≡ suc b → a ≡ b
    less a b e = omega arith

    sum : (x n w l v : ℕ) → x ≡ w + 7 * l → v ≡ n + w → suc (suc (suc (suc (suc (suc (suc n)))))) + x ≡ v + 7 * suc l
    sum x n w l v e f = omega arith

bare_words : (ks : List HardBlock) → words (with_heads ks []) ≡ words ks + 7 * 0
bare_words [] = refl
bare_words (k ∷ ks) = none (words (k ∷ ks))
  where
    none : (n : ℕ) → n ≡ n + 7 * 0
    none n = omega arith

pub text_length : TextLength
text_length s f = length_text (headed s) ∙ elim f.0 as (λ z. words (with_heads s.program.blocks s.marks) ≡ words s.program.blocks + 7 * length s.marks) [
  | inl e ↦ ap (λ (z : List Mark). words (with_heads s.program.blocks z)) e ∙ (bare_words s.program.blocks ∙ ap (λ (z : List Mark). words s.program.blocks + 7 * length z) (sym e))
  | inr e ↦ headed_words s.program.blocks s.marks e
]

pub signed_starts : StartsAreBlocks
signed_starts s l w =
    let q : IsStart (text (headed s)) 0x00400000 w ↔ ((b : ℕ) × (b < length (headed s).blocks) × (w ≡ address (headed s) b)) = starts_are_blocks (headed s) (can_be_laid s l) (entered s l.well_formed) w in (
      λ h. let k : (b : ℕ) × (b < length (headed s).blocks) × (w ≡ address (headed s) b) = q.0 h in (k.0, subst (λ (z : ℕ). k.0 < z) (heads_length s.program.blocks s.marks) k.1, k.2),
      λ k. q.1 (k.0, subst (λ (z : ℕ). k.0 < z) (sym (heads_length s.program.blocks s.marks)) k.1, k.2),
    )

pub signed_placed : WordsArePlaced
signed_placed s input g w = words_are_placed (headed s) input (can_be_laid s g.laying) (entered s g.laying.well_formed) (lawful s input g w)

pub signed_unreported : WordsNeverReport
signed_unreported s input g w = words_never_report (headed s) input (can_be_laid s g.laying) (entered s g.laying.well_formed) w (lawful s input g w) (heads_never_report s g)
