-- The windows and the loads of a whole text.
use Rattle.std.proofs.Common.{◌≡◌, ◌≤◌, ◌<◌, ℕ, zero, suc, ◌+◌, ◌*◌, arith, ap, refl, sym, ◌∙◌, subst, List, [], ◌∷◌, ◌++◌, length, get_or, Bool, true, false, cond}
use Rattle.std.specs.Prelude.{Option, Some, None, slice_get, count_by, sum_by, if◌then◌else◌}
use Rattle.std.proofs.lemmas.List.{length-append, length-map}
use Rattle.std.proofs.lemmas.List.Sums.{sum_by-cons, sum_by-append}
use Rattle.mips_isa.specs.declared.instr.Instr.{Instr}
use Rattle.mips_isa.specs.declared.instr.Instr.TheVariants.{J, Jal, Beq, Bne, Lui, Ori, Xor, Sll}
use Rattle.mips_isa.specs.Table.{decoded}
use Rattle.mips_text.specs.Turns.{IsTextOf}
use Rattle.hard_items.specs.declared.code.Fix.{Fix}
use Rattle.hard_items.specs.declared.code.Fix.TheVariants.{Plain, Block, Function, ReturnHigh, ReturnLow}
use Rattle.hard_items.specs.declared.code.Item.{Item}
use Rattle.hard_items.specs.declared.code.HardBlock.{HardBlock}
use Rattle.hard_items.specs.declared.code.HardProgram.{HardProgram}
use Rattle.hard_items.specs.declared.code.Mark.{Mark}
use Rattle.hard_items.specs.declared.code.Signed.{Signed}
use Rattle.hard_items.specs.Heads.{headed, with_heads, head_items}
use Rattle.hard_items.specs.Run.{items_of, block_items}
use Rattle.mips_text.specs.Loads.{is_reload}
use Rattle.hard_items.specs.Rules.{Checked, Guarded}
use Rattle.layout_law.specs.Layout.{filled, filled_with, text}
use Rattle.layout_law.proofs.Lines.{head_of, heads_length, items_headed}
use Rattle.layout_law.proofs.Laying.{can_be_laid}
use Rattle.mips_text.specs.Loads.{is_load, loads_by}
use Rattle.layout_facts.specs.Counted.{pair_at, WindowsAreFew, ReloadsAreLoads}
use Rattle.layout_facts.proofs.Few.{In, few, different_by, in_at}
use Rattle.layout_facts.proofs.Decoded.{items_instrs, blocks_instrs, instrs, text_decoded}
use Rattle.layout_facts.proofs.Listed.{nears, nears_length, count, listed}
use Rattle.layout_facts.proofs.Weights.{Front, block_light}

-- ---- windows

-- The items of a block of a program with heads.
pub record Begun (xs : List Item) : Type 0 where
  pub mark : Option Mark
  pub own : List Item
  pub is : xs ≡ head_of mark ++ own
  pub checked : Checked own

instrs_length : (p : HardProgram) (b at : ℕ) (xs : List Item) → length (items_instrs p b at xs) ≡ length xs
instrs_length p b at [] = refl
instrs_length p b at (x ∷ xs) = ap suc (instrs_length p b (at + 4) xs)

blocks_few : (p : HardProgram) (b at : ℕ) (ks : List HardBlock) → ((m : ℕ) (k : HardBlock) → slice_get ks m ≡ Some k → Begun k.items) → (count (blocks_instrs p b at ks) ≤ length (blocks_instrs p b at ks)) × Front (blocks_instrs p b at ks)
blocks_few p b at [] f = (omega arith, tt)
blocks_few p b at (k ∷ ks) f =
    let later : (count (blocks_instrs p (b + 1) (at + 4 * length k.items) ks) ≤ length (blocks_instrs p (b + 1) (at + 4 * length k.items) ks)) × Front (blocks_instrs p (b + 1) (at + 4 * length k.items) ks) =
    blocks_few p (b + 1) (at + 4 * length k.items) ks (λ m x e. f (suc m) x e) in
    let g : Begun k.items = f 0 k refl in
    let own : (count (items_instrs p b at k.items ++ blocks_instrs p (b + 1) (at + 4 * length k.items) ks) ≤ length k.items + count (blocks_instrs p (b + 1) (at + 4 * length k.items) ks)) × Front (items_instrs p b at k.items ++ blocks_instrs p (b + 1) (at + 4 * length k.items) ks) =
    subst (λ (z : List Item). (count (items_instrs p b at z ++ blocks_instrs p (b + 1) (at + 4 * length k.items) ks) ≤ length z + count (blocks_instrs p (b + 1) (at + 4 * length k.items) ks)) × Front (items_instrs p b at z ++ blocks_instrs p (b + 1) (at + 4 * length k.items) ks)) (sym g.is)
    (block_light p b at g.mark g.own g.checked (blocks_instrs p (b + 1) (at + 4 * length k.items) ks) later.1) in (
      more (count (items_instrs p b at k.items ++ blocks_instrs p (b + 1) (at + 4 * length k.items) ks)) (length k.items) (count (blocks_instrs p (b + 1) (at + 4 * length k.items) ks)) (length (blocks_instrs p (b + 1) (at + 4 * length k.items) ks)) (length (items_instrs p b at k.items ++ blocks_instrs p (b + 1) (at + 4 * length k.items) ks)) (length (items_instrs p b at k.items))
          own.0 later.0 (length-append (items_instrs p b at k.items) (blocks_instrs p (b + 1) (at + 4 * length k.items) ks)) (instrs_length p b at k.items),
      own.1,
    )
  where
    more : (c n d l t i : ℕ) → c ≤ n + d → d ≤ l → t ≡ i + l → i ≡ n → c ≤ t
    more c n d l t i h k e f = omega arith

begun : (s : Signed) → Guarded s.program → (m : ℕ) (k : HardBlock) → slice_get (headed s).blocks m ≡ Some k → Begun k.items
begun s g m k e =
    let l : m < length s.program.blocks = subst (λ (z : ℕ). m < z) (heads_length s.program.blocks s.marks) (there (headed s).blocks m k e) in
    record { mark = slice_get s.marks m; own = items_of s.program m; is = ap block_items (sym e) ∙ items_headed s m l; checked = g m l }
  where
    there : (ks : List HardBlock) (m : ℕ) (k : HardBlock) → slice_get ks m ≡ Some k → m < length ks
    there [] m k e = absurd (no e)
      where
        no : None ≡ Some k → ⊥
        no e = cc
    there (x ∷ ks) zero k e = omega arith
    there (x ∷ ks) (suc m) k e = omega (arith, there ks m k e)

text_long : (t : List ℕ) (ws : List Instr) → IsTextOf t ws → length t ≡ length ws
text_long t ws e = sym (length-map t decoded) ∙ (ap length e ∙ length-map ws Some)

pub windows_are_few : WindowsAreFew
windows_are_few s ws l g w =
    let p : HardProgram = headed s in
    let d : IsTextOf (text (headed s)) (instrs (headed s)) = text_decoded (headed s) (can_be_laid s l) in
    let all : length ws ≤ length (nears 0x00400000 (instrs (headed s))) = few ws (nears 0x00400000 (instrs (headed s))) (different_by (0, 0) ws w.once) (λ v c.
    let k : (k : ℕ) × ((k < length ws) × (get_or ws k (0, 0) ≡ v)) = in_at (0, 0) v ws c in
    subst (λ (z : ℕ × ℕ). In z (nears 0x00400000 (instrs (headed s)))) k.1.1 (listed (text (headed s)) (instrs (headed s)) d (pair_at ws k.0).0 (pair_at ws k.0).1 (w.near k.0 k.1.0))) in
    up (length ws) (length (nears 0x00400000 (instrs (headed s)))) (count (instrs (headed s))) (length (instrs (headed s))) (length (text (headed s))) all (nears_length 0x00400000 (instrs (headed s))) (blocks_few (headed s) 0 0x00400000 (headed s).blocks (begun s g)).0 (text_long (text (headed s)) (instrs (headed s)) d)
  where
    up : (a b c d t : ℕ) → a ≤ b → b ≡ c → c ≤ d → t ≡ d → a ≤ t
    up a b c d t h e k f = omega arith

-- ---- loads

loads_decoded : (t : List ℕ) (ws : List Instr) → IsTextOf t ws → count_by is_load t ≡ count_by is_reload ws
loads_decoded [] [] e = refl
loads_decoded [] (w ∷ ws) e = absurd (no e)
  where
    no : {o : Option Instr} {os : List (Option Instr)} → [] ≡ o ∷ os → ⊥
    no e = cc
loads_decoded (x ∷ t) [] e = absurd (no e)
  where
    no : {o : Option Instr} {os : List (Option Instr)} → o ∷ os ≡ [] → ⊥
    no e = cc
loads_decoded (x ∷ t) (w ∷ ws) e =
    sum_by-cons (λ (z : ℕ). cond (is_load z) 1 0) x t
    ∙ (ap (λ (o : Option Instr). cond (loads_by o) 1 0 + count_by is_load t) (head_is e)
    ∙ (ap (λ (n : ℕ). cond (is_reload w) 1 0 + n) (loads_decoded t ws (tail_is e)) ∙ sym (sum_by-cons (λ (z : Instr). cond (is_reload z) 1 0) w ws)))
  where
    head_is : {o u : Option Instr} {os us : List (Option Instr)} → o ∷ os ≡ u ∷ us → o ≡ u
    head_is e = cc

    tail_is : {o u : Option Instr} {os us : List (Option Instr)} → o ∷ os ≡ u ∷ us → os ≡ us
    tail_is e = cc

filled_load : (at to back : ℕ) (f : Fix) (x : Instr) → is_reload (filled_with at to back f x) ≡ is_reload x
filled_load at to back Plain x = refl
filled_load at to back (Block t) (J target) = refl
filled_load at to back (Block t) (Beq rs rt imm) = refl
filled_load at to back (Block t) (Bne rs rt imm) = refl
filled_load at to back (Block t) x = refl
filled_load at to back (Function f) (Jal target) = refl
filled_load at to back (Function f) x = refl
filled_load at to back ReturnHigh (Lui rt imm) = refl
filled_load at to back ReturnHigh x = refl
filled_load at to back ReturnLow (Ori rt rs imm) = refl
filled_load at to back ReturnLow x = refl

abbrev loads : List Item → ℕ
loads xs = count_by (λ i. is_reload i.instr) xs

items_loads : (p : HardProgram) (b at : ℕ) (xs : List Item) → count_by is_reload (items_instrs p b at xs) ≡ loads xs
items_loads p b at [] = refl
items_loads p b at (x ∷ xs) =
    sum_by-cons (λ (z : Instr). cond (is_reload z) 1 0) (filled p b at x.fix x.instr) (items_instrs p b (at + 4) xs)
    ∙ (ap (λ (z : Bool). cond z 1 0 + count_by is_reload (items_instrs p b (at + 4) xs)) (filled_load at _ _ x.fix x.instr)
    ∙ (ap (λ (n : ℕ). cond (is_reload x.instr) 1 0 + n) (items_loads p b (at + 4) xs) ∙ sym (sum_by-cons (λ (i : Item). cond (is_reload i.instr) 1 0) x xs)))

blocks_loads : (p : HardProgram) (b at : ℕ) (ks : List HardBlock) → count_by is_reload (blocks_instrs p b at ks) ≡ sum_by (λ k. loads k.items) ks
blocks_loads p b at [] = refl
blocks_loads p b at (k ∷ ks) =
    sum_by-append (λ (z : Instr). cond (is_reload z) 1 0) (items_instrs p b at k.items) (blocks_instrs p (b + 1) (at + 4 * length k.items) ks)
    ∙ (ap (λ (n : ℕ). n + count_by is_reload (blocks_instrs p (b + 1) (at + 4 * length k.items) ks)) (items_loads p b at k.items)
    ∙ (ap (λ (n : ℕ). loads k.items + n) (blocks_loads p (b + 1) (at + 4 * length k.items) ks) ∙ sym (sum_by-cons (λ (x : HardBlock). loads x.items) k ks)))

head_loads : (m : Mark) (xs : List Item) → loads (head_items m ++ xs) ≡ loads xs
head_loads m xs = sum_by-append (λ (i : Item). cond (is_reload i.instr) 1 0) (head_items m) xs ∙ (ap (λ (n : ℕ). n + loads xs) (none m.fan) ∙ zero_left (loads xs))
  where
    zero_left : (n : ℕ) → 0 + n ≡ n
    zero_left n = omega arith

    none : (z : Bool) → 0 + 0 + cond (is_reload (if z then Xor 24 24 28 else Sll 0 0 0)) 1 0 + 0 + 0 + 0 + 0 + 0 ≡ 0
    none true = refl
    none false = refl

heads_loads : (ks : List HardBlock) (ms : List Mark) → sum_by (λ k. loads k.items) (with_heads ks ms) ≡ sum_by (λ k. loads k.items) ks
heads_loads [] ms = refl
heads_loads (k ∷ ks) [] = refl
heads_loads (k ∷ ks) (m ∷ ms) =
    sum_by-cons (λ (x : HardBlock). loads x.items) (record { items = head_items m ++ k.items; successors = k.successors }) (with_heads ks ms)
    ∙ (ap (λ (n : ℕ). n + sum_by (λ x. loads x.items) (with_heads ks ms)) (head_loads m k.items)
    ∙ (ap (λ (n : ℕ). loads k.items + n) (heads_loads ks ms) ∙ sym (sum_by-cons (λ (x : HardBlock). loads x.items) k ks)))

pub reloads_are_loads : ReloadsAreLoads
reloads_are_loads s l =
    loads_decoded (text (headed s)) (instrs (headed s)) (text_decoded (headed s) (can_be_laid s l))
    ∙ (blocks_loads (headed s) 0 0x00400000 (headed s).blocks ∙ heads_loads s.program.blocks s.marks)
