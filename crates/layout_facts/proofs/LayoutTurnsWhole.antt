-- The streams take turns in the whole text.
use Rattle.std.proofs.Common.{◌≡◌, ◌<◌, ℕ, suc, ◌+◌, ◌*◌, arith, ap, refl, sym, ◌∙◌, subst, List, [], ◌∷◌, ◌++◌, append-nil, length, map, Bool, true, false, inl, inr}
use Rattle.std.specs.Prelude.{Option, Some, is_some, slice_get, if◌then◌else◌}
use Rattle.mips_isa.specs.declared.instr.Instr.{Instr}
use Rattle.mips_isa.specs.declared.instr.Instr.TheVariants.{J, Jal, Beq, Bne, Lui, Ori, Xor, Xori, Sll, Break}
use Rattle.mips_text.specs.Turns as turns
use Rattle.mips_text.specs.Turns.{IsTextOf, TurnedWhere, stream_of, is_nop, is_idle, without_checks}
use Rattle.hard_items.specs.declared.code.Fix.{Fix}
use Rattle.hard_items.specs.declared.code.Fix.TheVariants.{Plain, Block, Function, ReturnHigh, ReturnLow}
use Rattle.hard_items.specs.declared.code.Item.{Item}
use Rattle.hard_items.specs.declared.code.HardBlock.{HardBlock}
use Rattle.hard_items.specs.declared.code.HardProgram.{HardProgram}
use Rattle.hard_items.specs.declared.code.Mark.{Mark}
use Rattle.hard_items.specs.Heads.{headed, with_heads, head_items}
use Rattle.hard_items.specs.Run.{block_items}
use Rattle.hard_items.specs.Forms.{Each, Formed}
use Rattle.layout_law.specs.Layout.{filled_with, text}
use Rattle.layout_law.proofs.Laying.{can_be_laid}
use Rattle.layout_facts.proofs.Decoded.{items_instrs, blocks_instrs, instrs, text_decoded}
use Rattle.layout_facts.specs.Turning.{TextTurned, TextTurnedThrough}
use Rattle.layout_facts.proofs.Parts.{Like, AllLike, may_check, weak, strong, IsTest, weak_test, strong_test, turns_like, quiet_turns, Parts, nothing, begins, turns_before, apart_turns}
use Rattle.layout_facts.proofs.Checks.{through_like, without_parts}
use Rattle.layout_facts.proofs.Clear.{IsClear, formed_clear}

-- ---- filled words are of the sorts of their items

like_self : (x : Instr) → Like x x
like_self x = record { stream = refl; nop = refl; idle = refl; product = refl; move = refl; check = inl refl }

filled_like : (at to back : ℕ) (f : Fix) (x : Instr) → ((t : ℕ) → f ≡ Block t → may_check x ≡ false) → Like x (filled_with at to back f x)
filled_like at to back Plain x h = like_self x
filled_like at to back (Block t) (J target) h = record { stream = refl; nop = refl; idle = refl; product = refl; move = refl; check = inr (refl, refl) }
filled_like at to back (Block t) (Beq rs rt imm) h = record { stream = refl; nop = refl; idle = refl; product = refl; move = refl; check = inr (h t refl, h t refl) }
filled_like at to back (Block t) (Bne rs rt imm) h = record { stream = refl; nop = refl; idle = refl; product = refl; move = refl; check = inr (h t refl, h t refl) }
filled_like at to back (Block t) x h = like_self x
filled_like at to back (Function f) (Jal target) h = record { stream = refl; nop = refl; idle = refl; product = refl; move = refl; check = inr (refl, refl) }
filled_like at to back (Function f) x h = like_self x
filled_like at to back ReturnHigh (Lui rt imm) h = record { stream = refl; nop = refl; idle = refl; product = refl; move = refl; check = inr (refl, refl) }
filled_like at to back ReturnHigh x h = like_self x
filled_like at to back ReturnLow (Ori rt rs imm) h = record { stream = refl; nop = refl; idle = refl; product = refl; move = refl; check = inr (refl, refl) }
filled_like at to back ReturnLow x h = like_self x

items_like : (p : HardProgram) (b at : ℕ) (xs : List Item) → Each IsClear xs → AllLike (map (λ i. i.instr) xs) (items_instrs p b at xs)
items_like p b at [] h = tt
items_like p b at (x ∷ xs) h = (filled_like at _ _ x.fix x.instr h.0, items_like p b (at + 4) xs h.1)

-- ---- a text of blocks, each a head and words

abbrev Laid : Type 0
Laid = List (Mark × List Instr)

abbrev head_words : Mark → List Instr → List Instr
head_words m ys = Xori 24 24 m.d ∷ (if m.fan then Xor 24 24 28 else Sll 0 0 0) ∷ Ori 1 0 m.s ∷ Ori 28 0 m.adjust ∷ Beq 24 1 2 ∷ Sll 0 0 0 ∷ Break 2 ∷ ys

abbrev joined : Laid → List Instr
joined [] = []
joined (k ∷ more) = head_words k.0 (k.1 ++ joined more)

abbrev laid : (p : HardProgram) (b at : ℕ) → List HardBlock → List Mark → Laid
laid p b at [] ms = []
laid p b at (k ∷ ks) [] = []
laid p b at (k ∷ ks) (m ∷ ms) = (m, items_instrs p b (at + 4 + 4 + 4 + 4 + 4 + 4 + 4) k.items) ∷ laid p (b + 1) (at + 4 * length (head_items m ++ k.items)) ks ms

blocks_laid : (p : HardProgram) (b at : ℕ) (ks : List HardBlock) (ms : List Mark) → length ms ≡ length ks → blocks_instrs p b at (with_heads ks ms) ≡ joined (laid p b at ks ms)
blocks_laid p b at [] ms e = refl
blocks_laid p b at (k ∷ ks) [] e = absurd (no (length ks) e)
  where
    no : (n : ℕ) → 0 ≡ suc n → ⊥
    no n e = omega arith
blocks_laid p b at (k ∷ ks) (m ∷ ms) e =
    ap (λ (z : List Instr). head_words m (items_instrs p b (at + 4 + 4 + 4 + 4 + 4 + 4 + 4) k.items ++ z))
    (blocks_laid p (b + 1) (at + 4 * length (head_items m ++ k.items)) ks ms (less (length ms) (length ks) e))
  where
    less : (a b : ℕ) → suc a ≡ suc b → a ≡ b
    less a b e = omega arith

-- Of the words of each block it is true.
abbrev EachLaid : (List Instr → Type 0) → Laid → Type 0
EachLaid P [] = Unit {0}
EachLaid P (k ∷ more) = P k.1 × EachLaid P more

abbrev AreClear : List HardBlock → Type 0
AreClear [] = Unit {0}
AreClear (k ∷ ks) = Each IsClear k.items × AreClear ks

each_laid : (P : List Instr → Type 0) → ((xs ys : List Instr) → AllLike xs ys → P xs → P ys) → (p : HardProgram) (b at : ℕ) (ks : List HardBlock) (ms : List Mark) → AreClear ks →
    ((m : ℕ) (k : HardBlock) → slice_get ks m ≡ Some k → P (map (λ i. i.instr) k.items)) → EachLaid P (laid p b at ks ms)
each_laid P like p b at [] ms c f = tt
each_laid P like p b at (k ∷ ks) [] c f = tt
each_laid P like p b at (k ∷ ks) (m ∷ ms) c f = (
  like (map (λ i. i.instr) k.items) (items_instrs p b (at + 4 + 4 + 4 + 4 + 4 + 4 + 4) k.items) (items_like p b (at + 4 + 4 + 4 + 4 + 4 + 4 + 4) k.items c.0) (f 0 k refl),
  each_laid P like p (b + 1) (at + 4 * length (head_items m ++ k.items)) ks ms c.1 (λ n x s. f (suc n) x s),
)

module _ (passes : Instr → Bool) (test : IsTest passes) where
  second_turns : (z : Bool) → TurnedWhere passes ((if z then Xor 24 24 28 else Sll 0 0 0) ∷ [])
  second_turns true = quiet_turns passes test (Xor 24 24 28 ∷ []) (refl, tt)
  second_turns false = quiet_turns passes test (Sll 0 0 0 ∷ []) (refl, tt)

  -- Before a word that parts runs.
  parts_at : (z : Instr) (ys : List Instr) → is_some (stream_of z) ≡ false → is_nop z ≡ false → is_idle z ≡ false → TurnedWhere passes ys → Parts passes (z ∷ ys)
  parts_at z ys s n i t = begins z ys refl (test.ends z s n i) t

  -- A head and words behind it.
  head_parts : (m : Mark) (ys : List Instr) → TurnedWhere passes ys → Parts passes (head_words m ys)
  head_parts m ys t =
      let report : Parts passes (Break 2 ∷ ys) = parts_at (Break 2) ys refl refl refl t in
      let slot : TurnedWhere passes (Sll 0 0 0 ∷ Break 2 ∷ ys) = turns_before passes test (Sll 0 0 0 ∷ []) (Break 2 ∷ ys) (second_turns false) report in
      let compares : Parts passes (Beq 24 1 2 ∷ Sll 0 0 0 ∷ Break 2 ∷ ys) = parts_at (Beq 24 1 2) (Sll 0 0 0 ∷ Break 2 ∷ ys) refl refl refl slot in
      let leaves : Parts passes (Ori 28 0 m.adjust ∷ Beq 24 1 2 ∷ Sll 0 0 0 ∷ Break 2 ∷ ys) =
      parts_at (Ori 28 0 m.adjust) (Beq 24 1 2 ∷ Sll 0 0 0 ∷ Break 2 ∷ ys) refl refl refl (apart_turns passes test (Beq 24 1 2 ∷ Sll 0 0 0 ∷ Break 2 ∷ ys) compares) in
      let wants : Parts passes (Ori 1 0 m.s ∷ Ori 28 0 m.adjust ∷ Beq 24 1 2 ∷ Sll 0 0 0 ∷ Break 2 ∷ ys) =
      parts_at (Ori 1 0 m.s) (Ori 28 0 m.adjust ∷ Beq 24 1 2 ∷ Sll 0 0 0 ∷ Break 2 ∷ ys) refl refl refl (apart_turns passes test (Ori 28 0 m.adjust ∷ Beq 24 1 2 ∷ Sll 0 0 0 ∷ Break 2 ∷ ys) leaves) in
      parts_at (Xori 24 24 m.d) ((if m.fan then Xor 24 24 28 else Sll 0 0 0) ∷ Ori 1 0 m.s ∷ Ori 28 0 m.adjust ∷ Beq 24 1 2 ∷ Sll 0 0 0 ∷ Break 2 ∷ ys) refl refl refl
      (turns_before passes test ((if m.fan then Xor 24 24 28 else Sll 0 0 0) ∷ []) (Ori 1 0 m.s ∷ Ori 28 0 m.adjust ∷ Beq 24 1 2 ∷ Sll 0 0 0 ∷ Break 2 ∷ ys) (second_turns m.fan) wants)

  joined_parts : (l : Laid) → EachLaid (TurnedWhere passes) l → Parts passes (joined l)
  joined_parts [] h = nothing refl
  joined_parts (k ∷ more) h = head_parts k.0 (k.1 ++ joined more) (turns_before passes test k.1 (joined more) h.0 (joined_parts more h.1))

  joined_turns : (l : Laid) → EachLaid (TurnedWhere passes) l → TurnedWhere passes (joined l)
  joined_turns l h = apart_turns passes test (joined l) (joined_parts l h)

-- ---- without their checks

abbrev bared : Laid → Laid
bared l = map (λ k. (k.0, without_checks k.1)) l

without_head : (m : Mark) (ys : List Instr) → without_checks (head_words m ys) ≡ head_words m (without_checks ys)
without_head m ys = by m.fan
  where
    by : (z : Bool) → without_checks (Xori 24 24 m.d ∷ (if z then Xor 24 24 28 else Sll 0 0 0) ∷ Ori 1 0 m.s ∷ Ori 28 0 m.adjust ∷ Beq 24 1 2 ∷ Sll 0 0 0 ∷ Break 2 ∷ ys) ≡
        Xori 24 24 m.d ∷ (if z then Xor 24 24 28 else Sll 0 0 0) ∷ Ori 1 0 m.s ∷ Ori 28 0 m.adjust ∷ Beq 24 1 2 ∷ Sll 0 0 0 ∷ Break 2 ∷ without_checks ys
    by true = refl
    by false = refl

without_before : (xs : List Instr) (l : Laid) → without_checks (xs ++ joined l) ≡ without_checks xs ++ without_checks (joined l)
without_before xs [] = ap without_checks (append-nil xs) ∙ sym (append-nil (without_checks xs))
without_before xs (k ∷ more) =
    let behind : List Instr = (if k.0.fan then Xor 24 24 28 else Sll 0 0 0) ∷ Ori 1 0 k.0.s ∷ Ori 28 0 k.0.adjust ∷ Beq 24 1 2 ∷ Sll 0 0 0 ∷ Break 2 ∷ (k.1 ++ joined more) in
    without_parts xs 24 24 k.0.d behind

without_joined : (l : Laid) → without_checks (joined l) ≡ joined (bared l)
without_joined [] = refl
without_joined (k ∷ more) = without_head k.0 (k.1 ++ joined more) ∙ ap (head_words k.0) (without_before k.1 more ∙ ap (λ (z : List Instr). without_checks k.1 ++ z) (without_joined more))

each_bared : (l : Laid) → EachLaid turns.TurnedThrough l → EachLaid (TurnedWhere strong) (bared l)
each_bared [] h = tt
each_bared (k ∷ more) h = (h.0, each_bared more h.1)

-- ---- the text

one_text : (t : List ℕ) (vs ws : List Instr) → IsTextOf t vs → IsTextOf t ws → vs ≡ ws
one_text t vs ws e f = same vs ws (sym e ∙ f)
  where
    no_left : {o : Option Instr} {os : List (Option Instr)} → [] ≡ o ∷ os → ⊥
    no_left e = cc

    head_is : (x y : Instr) {os us : List (Option Instr)} → Some x ∷ os ≡ Some y ∷ us → x ≡ y
    head_is x y e = cc

    tail_is : {o u : Option Instr} {os us : List (Option Instr)} → o ∷ os ≡ u ∷ us → os ≡ us
    tail_is e = cc

    same : (vs ws : List Instr) → map Some vs ≡ map Some ws → vs ≡ ws
    same [] [] e = refl
    same [] (w ∷ ws) e = absurd (no_left e)
    same (v ∷ vs) [] e = absurd (no_left (sym e))
    same (v ∷ vs) (w ∷ ws) e = ap (λ (z : Instr). z ∷ vs) (head_is v w e) ∙ ap (λ (z : List Instr). w ∷ z) (same vs ws (tail_is e))

-- The blocks of forms.
are_clear : (ks : List HardBlock) → ((b : ℕ) → b < length ks → Formed (block_items (slice_get ks b))) → AreClear ks
are_clear [] f = tt
are_clear (k ∷ ks) f = (formed_clear k.items (f 0 (least (length ks))), are_clear ks (λ b h. f (suc b) (up b (length ks) h)))
  where
    least : (n : ℕ) → 0 < suc n
    least n = omega arith

    up : (m n : ℕ) → m < n → suc m < suc n
    up m n h = omega arith

pub text_turned : TextTurned
text_turned s l e t ws h =
    subst turns.Turned (one_text (text (headed s)) (instrs (headed s)) ws (text_decoded (headed s) (can_be_laid s l)) h)
    (subst turns.Turned (sym (blocks_laid (headed s) 0 0x00400000 s.program.blocks s.marks e)) (joined_turns weak weak_test (laid (headed s) 0 0x00400000 s.program.blocks s.marks)
    (each_laid turns.Turned (turns_like weak weak_test) (headed s) 0 0x00400000 s.program.blocks s.marks (are_clear s.program.blocks l.formed)
    (λ m k q. subst (λ (z : List Item). turns.Turned (map (λ i. i.instr) z)) (ap block_items q) (t m)))))

pub text_turned_through : TextTurnedThrough
text_turned_through s l e t ws h =
    subst turns.TurnedThrough (one_text (text (headed s)) (instrs (headed s)) ws (text_decoded (headed s) (can_be_laid s l)) h)
    (subst turns.TurnedThrough (sym (blocks_laid (headed s) 0 0x00400000 s.program.blocks s.marks e))
    (subst (TurnedWhere strong) (sym (without_joined (laid (headed s) 0 0x00400000 s.program.blocks s.marks))) (joined_turns strong strong_test (bared (laid (headed s) 0 0x00400000 s.program.blocks s.marks))
    (each_bared (laid (headed s) 0 0x00400000 s.program.blocks s.marks)
    (each_laid turns.TurnedThrough through_like (headed s) 0 0x00400000 s.program.blocks s.marks (are_clear s.program.blocks l.formed)
    (λ m k q. subst (λ (z : List Item). turns.TurnedThrough (map (λ i. i.instr) z)) (ap block_items q) (t m)))))))
