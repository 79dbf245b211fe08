-- The text of the layout is one in which the laws of signatures read the blocks.
use Rattle.std.proofs.Common.{◌≡◌, ◌≤◌, ◌<◌, ℕ, zero, suc, ◌+◌, ◌*◌, ◌/◌, ◌%◌, ◌^◌, arith, ap, refl, sym, ◌∙◌, subst, List, [], ◌∷◌, ◌++◌, length, map, take, inl, inr}
use Rattle.std.specs.Prelude.{Option, Some, None, slice_get, slice_index}
use Rattle.std.proofs.Math.Seq.{take-length}
use Rattle.mips_isa.specs.declared.instr.Instr.{Instr}
use Rattle.mips_isa.specs.declared.instr.Instr.TheVariants.{J, Jal, Beq, Bne, Lui, Ori}
use Rattle.mips_text.specs.Text.{At}
use Rattle.mips_text.specs.Blocks.{Head, HeadAt, IsStart, IsAlias, Succ, Linked}
use Rattle.hard_items.specs.declared.code.Item.{Item}
use Rattle.hard_items.specs.declared.code.Fix.{Fix}
use Rattle.hard_items.specs.declared.code.Fix.TheVariants.{Plain, Block, Function, ReturnHigh, ReturnLow}
use Rattle.hard_items.specs.declared.code.HardProgram.{HardProgram}
use Rattle.hard_items.specs.declared.code.Signed.{Signed}
use Rattle.hard_items.specs.Run.{items_of, named}
use Rattle.hard_items.specs.Heads.{headed}
use Rattle.layout_law.specs.Layout.{words, address, text, filled, offset}
use Rattle.layout_law.specs.Level.{Layable, Laying}
use Rattle.layout_law.proofs.Lines.{heads_length}
use Rattle.layout_law.proofs.Texts.{length_text, address_next}
use Rattle.layout_law.proofs.Laying.{can_be_laid}
use Rattle.layout_law.proofs.Views as view
use Rattle.layout_law.proofs.Views.{ItemWord, View, view_here, at_item}
use Rattle.layout_law.proofs.Starts.{filled_as, jump_lands, branch_lands}
use Rattle.sign_law.specs.Marks.{HasSigns, successors_of, head_of}
use Rattle.sign_law.specs.Signs.{IsLaid}
use Rattle.signature_assign.proofs.Fits.{blocks_fit}
use Rattle.layout_hardened.proofs.Laying.{laid}
use Rattle.layout_hardened.specs.LaidOut as laid
use Rattle.layout_hardened.specs.LaidOut.{IsFilled, Stands, IsLaidOut}

record Split (xs : List Item) (k : ℕ) (i : Item) : Type 0 where
  done : List Item
  more : List Item
  is : xs ≡ done ++ i ∷ more
  long : length done ≡ k

split : (xs : List Item) (k : ℕ) (i : Item) → slice_get xs k ≡ Some i → Split xs k i
split [] zero i e = cc
split [] (suc k) i e = cc
split (x ∷ xs) zero i e = record { done = []; more = xs; is = ap (λ (y : Item). y ∷ xs) (inj e); long = refl }
  where
    inj : ◌≡◌ {A = Option Item} (Some x) (Some i) → x ≡ i
    inj q = cc
split (x ∷ xs) (suc k) i e = let s : Split xs k i = split xs k i e in record { done = x ∷ s.done; more = s.more; is = ap (λ (l : List Item). x ∷ l) s.is; long = ap suc s.long }

module _ (s : Signed) (l : Layable (headed s)) where
  abbrev pub place : ℕ → ℕ
  place b = address (headed s) b

  abbrev Word : (b a : ℕ) → Item → Type 0
  Word b a i = Stands (text (headed s)) s.program place b a i

  stands_by : (a : ℕ) (w : ItemWord (headed s) a) → At (text (headed s)) a (filled (headed s) w.block a w.item.fix w.item.instr) → View (headed s) w.item.fix w.item.instr w.more → Word w.block a w.item
  stands_by a w h (view.jumps t tg f x k n) = record {
    instr = J (place t / 4);
    word = h ∙ ap Some (filled_as (headed s) w.block a w.item.fix (Block t) w.item.instr (J tg) f x);
    filled = laid.jump t tg (place t / 4) f x refl (jump_lands (headed s) l a w t n k);
  }
  stands_by a w h (view.calls c tg f x k n) = record {
    instr = Jal (place (named (headed s) (Function c)) / 4);
    word = h ∙ ap Some (filled_as (headed s) w.block a w.item.fix (Function c) w.item.instr (Jal tg) f x);
    filled = laid.call c tg (place (named (headed s) (Function c)) / 4) f x refl (jump_lands (headed s) l a w (named (headed s) (Function c)) n k);
  }
  stands_by a w h (view.returns rs f x n) = record { instr = w.item.instr; word = h ∙ ap Some (filled_as (headed s) w.block a w.item.fix Plain w.item.instr w.item.instr f refl); filled = laid.as_is f refl }
  stands_by a w h (view.skips rs rt f x n) = record { instr = w.item.instr; word = h ∙ ap Some (filled_as (headed s) w.block a w.item.fix Plain w.item.instr w.item.instr f refl); filled = laid.as_is f refl }
  stands_by a w h (view.stays f x) = record { instr = w.item.instr; word = h ∙ ap Some (filled_as (headed s) w.block a w.item.fix Plain w.item.instr w.item.instr f refl); filled = laid.as_is f refl }
  stands_by a w h (view.branches t rs rt imm f (inl x) k n) = record {
    instr = Beq rs rt (offset (a + 4) (place t));
    word = h ∙ ap Some (filled_as (headed s) w.block a w.item.fix (Block t) w.item.instr (Beq rs rt imm) f x);
    filled = laid.branch_eq t rs rt imm (offset (a + 4) (place t)) f x refl (branch_lands (headed s) l a w t rs rt imm f (inl x) n k);
  }
  stands_by a w h (view.branches t rs rt imm f (inr x) k n) = record {
    instr = Bne rs rt (offset (a + 4) (place t));
    word = h ∙ ap Some (filled_as (headed s) w.block a w.item.fix (Block t) w.item.instr (Bne rs rt imm) f x);
    filled = laid.branch_ne t rs rt imm (offset (a + 4) (place t)) f x refl (branch_lands (headed s) l a w t rs rt imm f (inr x) n k);
  }
  stands_by a w h (view.high f x) = record {
    instr = Lui 25 (place (w.block + 1) / 2 ^ 16);
    word = h ∙ ap Some (filled_as (headed s) w.block a w.item.fix ReturnHigh w.item.instr (Lui 25 0) f x);
    filled = laid.high 25 0 f x refl;
  }
  stands_by a w h (view.low f x) = record {
    instr = Ori 25 25 (place (w.block + 1) % 2 ^ 16);
    word = h ∙ ap Some (filled_as (headed s) w.block a w.item.fix ReturnLow w.item.instr (Ori 25 25 0) f x);
    filled = laid.low 25 25 0 f x refl;
  }

  up : {n : ℕ} → n < length s.program.blocks → n < length (headed s).blocks
  up {n} h = subst (λ (z : ℕ). n < z) (sym (heads_length s.program.blocks s.marks)) h

  word_stands : (b k : ℕ) (i : Item) → b < length s.program.blocks → slice_get (items_of (headed s) b) k ≡ Some i → Word b (place b + 4 * k) i
  word_stands b k i h e =
      let c : Split (items_of (headed s) b) k i = split (items_of (headed s) b) k i e in
      let w : ItemWord (headed s) (place b + 4 * k) = record { block = b; there = up h; done = c.done; item = i; more = c.more; split = c.is; at = ap (λ (n : ℕ). place b + 4 * n) (sym c.long) } in
      stands_by (place b + 4 * k) w (at_item (headed s) l (place b + 4 * k) w) (view_here (headed s) l (place b + 4 * k) w)

  pub is_laid_out : IsLaidOut s (text (headed s)) place
  is_laid_out = record {
    base = refl;
    next = λ b h. address_next (headed s) b (up h);
    size = ap (λ (n : ℕ). 0x00400000 + 4 * n) (ap (λ (n : ℕ). words (take n (headed s).blocks)) (sym (heads_length s.program.blocks s.marks)) ∙ (ap words (take-length (headed s).blocks) ∙ sym (length_text (headed s))));
    word = word_stands;
  }

-- The blocks of the text are those of the program.
pub graph_laid : (s : Signed) → Laying s → HasSigns s → IsLaid (successors_of s.program) (map head_of s.marks) (text (headed s)) 0x00400000 (address (headed s))
graph_laid s l g = laid s (text (headed s)) (address (headed s)) (is_laid_out s (can_be_laid s l)) g.one_each l.well_formed (blocks_fit s.program l.formed) l.well_formed.each_called
