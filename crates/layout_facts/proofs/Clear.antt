-- What goes to a block in a block of forms is no word of a check: a branch compares with register 0.
use Rattle.std.proofs.Common.{◌≡◌, ℕ, refl, subst, sym, List, [], ◌∷◌, ◌++◌, Bool, true, false, flat_map}
use Rattle.std.specs.Prelude.{◌&&◌, ◌||◌}
use Rattle.mips_isa.specs.declared.instr.Instr.{Instr}
use Rattle.mips_isa.specs.declared.instr.Instr.TheVariants.{J, Jal, Beq, Bne}
use Rattle.mips_text.specs.Turns.{in_first, in_second, crosses}
use Rattle.hard_items.specs.declared.code.Class.TheVariants.{Act}
use Rattle.hard_items.specs.declared.code.Fix.{Fix}
use Rattle.hard_items.specs.declared.code.Fix.TheVariants.{Plain, Block, Function}
use Rattle.hard_items.specs.declared.code.Item.{Item}
use Rattle.hard_items.specs.Forms.{Each, Form, Alone, Product, Store, Test, Output, Takes, Idle, Close, Jump, Branch, Call, Return, Exit, form_items, close_items, FormFits, HalfFits, Formed, check_if, going}
use Rattle.hard_items.specs.Streams.{nop, plain}
use Rattle.layout_facts.proofs.Parts.{may_check}

-- An item that goes to a block is no word of a check.
abbrev pub IsClear : Item → Type 0
IsClear i = (t : ℕ) → i.fix ≡ Block t → may_check i.instr ≡ false

stays : (f : Fix) (P : ℕ → Type 0) → f ≡ Plain → (t : ℕ) → f ≡ Block t → P t
stays f P e t h = absurd (apart t (sym e) h)
  where
    apart : (t : ℕ) → Plain ≡ f → f ≡ Block t → ⊥
    apart t e h = cc

half_stays : (i : Item) (f : Fix) → HalfFits i f → (P : ℕ → Type 0) → (t : ℕ) → f ≡ Block t → P t
half_stays i f h P t e = absurd (subst (HalfFits i) e h)

zero_clear : (r : ℕ) → crosses r 0 ≡ false
zero_clear r = by (in_first r) (in_second r)
  where
    by : (x y : Bool) → ((x && false) || (y && false)) ≡ false
    by true true = refl
    by true false = refl
    by false true = refl
    by false false = refl

each_both : (xs ys : List Item) → Each IsClear xs → Each IsClear ys → Each IsClear (xs ++ ys)
each_both [] ys h k = k
each_both (x ∷ xs) ys h k = (h.0, each_both xs ys h.1 k)

-- Items without a field.
abbrev AllPlain : List Item → Type 0
AllPlain [] = Unit {0}
AllPlain (x ∷ xs) = (x.fix ≡ Plain) × AllPlain xs

plain_clear : (xs : List Item) → AllPlain xs → Each IsClear xs
plain_clear [] h = tt
plain_clear (x ∷ xs) h = (stays x.fix (λ t. may_check x.instr ≡ false) h.0, plain_clear xs h.1)

form_clear : (f : Form) → FormFits f → Each IsClear (form_items f)
form_clear (Alone i) h = (half_stays i i.fix h.half_fits (λ t. may_check i.instr ≡ false), tt)
form_clear (Product i j) h = plain_clear (i ∷ j ∷ []) (h.plain_product, (h.plain_move, tt))
form_clear (Store true v b o) h = plain_clear (form_items (Store true v b o)) (refl, (refl, (refl, (refl, (refl, (refl, (refl, (refl, tt))))))))
form_clear (Store false v b o) h = plain_clear (form_items (Store false v b o)) (refl, (refl, tt))
form_clear (Test true r code) h = plain_clear (form_items (Test true r code)) (refl, (refl, (refl, (refl, (refl, (refl, tt))))))
form_clear (Test false r code) h = plain_clear (form_items (Test false r code)) (refl, (refl, (refl, tt)))
form_clear (Output true) h = plain_clear (form_items (Output true)) (refl, (refl, (refl, (refl, tt))))
form_clear (Output false) h = plain_clear (form_items (Output false)) (refl, (refl, tt))
form_clear (Takes r) h = plain_clear (form_items (Takes r)) (refl, (refl, (refl, (refl, tt))))
form_clear Idle h = plain_clear (form_items Idle) (refl, tt)

ends_clear : (i : Instr) (f : Fix) → may_check i ≡ false → Each IsClear (going i f ∷ plain nop Act ∷ [])
ends_clear i f h = ((λ t e. h), plain_clear (plain nop Act ∷ []) (refl, tt))

checks_clear : (r : ℕ) → Each IsClear (check_if true r)
checks_clear r = plain_clear (check_if true r) (refl, (refl, (refl, tt)))

close_clear : (c : Close) → Each IsClear (close_items c)
close_clear (Jump to) = ends_clear (J 0) (Block to) refl
close_clear (Branch true r true to) = each_both (check_if true r) (going (Bne r 0 0) (Block to) ∷ plain nop Act ∷ []) (checks_clear r) (ends_clear (Bne r 0 0) (Block to) (zero_clear r))
close_clear (Branch false r true to) = ends_clear (Bne r 0 0) (Block to) (zero_clear r)
close_clear (Branch true r false to) = each_both (check_if true r) (going (Beq r 0 0) (Block to) ∷ plain nop Act ∷ []) (checks_clear r) (ends_clear (Beq r 0 0) (Block to) (zero_clear r))
close_clear (Branch false r false to) = ends_clear (Beq r 0 0) (Block to) (zero_clear r)
close_clear (Call f) = ends_clear (Jal 0) (Function f) refl
close_clear (Return true) = plain_clear (close_items (Return true)) (refl, (refl, (refl, (refl, (refl, tt)))))
close_clear (Return false) = plain_clear (close_items (Return false)) (refl, (refl, tt))
close_clear (Exit true) = plain_clear (close_items (Exit true)) (refl, (refl, (refl, (refl, (refl, tt)))))
close_clear (Exit false) = plain_clear (close_items (Exit false)) (refl, (refl, (refl, tt)))

forms_clear : (fs : List Form) → Each FormFits fs → Each IsClear (flat_map form_items fs)
forms_clear [] h = tt
forms_clear (f ∷ fs) h = each_both (form_items f) (flat_map form_items fs) (form_clear f h.0) (forms_clear fs h.1)

pub formed_clear : (items : List Item) → Formed items → Each IsClear items
formed_clear items f = subst (Each IsClear) (sym f.is) (each_both (flat_map form_items f.forms) (close_items f.close) (forms_clear f.forms f.fit) (close_clear f.close))
