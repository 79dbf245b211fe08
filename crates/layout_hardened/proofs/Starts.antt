-- The starts of a prepared program, laid out.
use Rattle.std.proofs.Common.{◌≡◌, ◌<◌, ◌≤◌, ℕ, sym, subst, List, length, lt_of_lt_of_le}
use Rattle.hard_items.specs.declared.code.Signed.{Signed}
use Rattle.hard_items.specs.Heads.{headed}
use Rattle.mips_text.specs.Text.{InText}
use Rattle.layout_law.specs.Layout.{address, text}
use Rattle.layout_law.specs.Level.{Layable}
use Rattle.layout_law.specs.Laws.{Prepared, StartsAreBlocks}
use Rattle.layout_law.proofs.Laying.{can_be_laid}
use Rattle.layout_law.proofs.Lines.{heads_length}
use Rattle.layout_law.proofs.Next.{first_item}
use Rattle.layout_law.proofs.Views.{item_in_text}
use Rattle.layout_hardened.specs.Laws.{image_with}
use Rattle.layout_hardened.specs.Law.{HasStarts}

pub has_starts : StartsAreBlocks → (s : Signed) (windows aliases : List (ℕ × ℕ)) (n : ℕ) → Prepared s → length s.program.blocks ≤ n → HasStarts (image_with s windows aliases) n (address (headed s))
has_starts starts s windows aliases n g few =
    let l : Layable (headed s) = can_be_laid s g.laying in
    record {
      start = λ w h. let k : (b : ℕ) × (b < length s.program.blocks) × (w ≡ address (headed s) b) = (starts s g.laying w).0 h in (k.0, lt_of_lt_of_le k.1 few, k.2);
      in_text = λ w h. let k : (b : ℕ) × (b < length s.program.blocks) × (w ≡ address (headed s) b) = (starts s g.laying w).0 h in
          subst (λ (z : ℕ). InText (text (headed s)) z) (sym k.2) (item_in_text (headed s) l (address (headed s) k.0) (first_item (headed s) l k.0 (subst (λ (m : ℕ). k.0 < m) (sym (heads_length s.program.blocks s.marks)) k.1)));
    }
