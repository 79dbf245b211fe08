-- The streams of the far form take turns where those of the program do: only the branches that end blocks change.
use Rattle.std.proofs.Common.{◌≡◌, ◌<◌, ℕ, refl, sym, subst, List, [], ◌∷◌, length, map, false, inl, inr}
use Rattle.std.specs.Prelude.{Option}
use Rattle.mips_isa.specs.declared.instr.Instr.{Instr}
use Rattle.mips_isa.specs.declared.instr.Instr.TheVariants.{Beq, Bne, J, Sll}
use Rattle.mips_text.specs.Turns as turns
use Rattle.hard_items.specs.declared.code.Fix.{Fix}
use Rattle.hard_items.specs.declared.code.Fix.TheVariants.{Plain, Block, Function, ReturnHigh, ReturnLow}
use Rattle.hard_items.specs.declared.code.Item.{Item}
use Rattle.hard_items.specs.declared.code.HardBlock.{HardBlock}
use Rattle.hard_items.specs.declared.code.HardProgram.{HardProgram}
use Rattle.hard_items.specs.Run.{items_of, block_items}
use Rattle.hard_items.specs.Forms.{Each, Formed}
use Rattle.hard_items.specs.Counts.{Turned, TurnedThrough}
use Rattle.block_relays.specs.Relays.{Relays, Nothing, Next, Both, place_of, turned, put_as, put_item, relay, HasRelays}
use Rattle.block_relays.specs.Relays as put
use Rattle.block_relays.proofs.Keeps.{each_put}
use Rattle.layout_facts.proofs.Parts.{Like, AllLike, may_check, weak, strong, weak_test, strong_test, turns_like, quiet_turns}
use Rattle.layout_facts.proofs.Checks.{through_like}
use Rattle.layout_facts.proofs.Clear.{IsClear, formed_clear}
use Rattle.layout_moves_law.proofs.WellFormed.{in_blocks}

-- ---- items in their place are of the sorts that they were

like_self : (x : Instr) → Like x x
like_self x = record { stream = refl; nop = refl; idle = refl; product = refl; move = refl; check = inl refl }

turned_like : (r : Relays) (x : Instr) → may_check x ≡ false → Like x (turned r x)
turned_like Nothing x h = like_self x
turned_like Next x h = like_self x
turned_like (Both t) x h = like_self x
turned_like (put.Turned t) (Beq rs rt imm) h = record { stream = refl; nop = refl; idle = refl; product = refl; move = refl; check = inr (h, h) }
turned_like (put.Turned t) (Bne rs rt imm) h = record { stream = refl; nop = refl; idle = refl; product = refl; move = refl; check = inr (h, h) }
turned_like (put.Turned t) x h = like_self x

item_like : (place : ℕ → ℕ) (b : ℕ) (r : Relays) (i : Item) (f : Fix) → ((t : ℕ) → f ≡ Block t → may_check i.instr ≡ false) → Like i.instr (put_as place b r i f).instr
item_like place b r i Plain h = like_self i.instr
item_like place b r i (Block t) h = turned_like r i.instr (h t refl)
item_like place b r i (Function f) h = like_self i.instr
item_like place b r i ReturnHigh h = like_self i.instr
item_like place b r i ReturnLow h = like_self i.instr

items_like : (place : ℕ → ℕ) (b : ℕ) (r : Relays) (xs : List Item) → Each IsClear xs → AllLike (map (λ i. i.instr) xs) (map (λ i. i.instr) (map (put_item place b r) xs))
items_like place b r [] h = tt
items_like place b r (i ∷ xs) h = (item_like place b r i i.fix h.0, items_like place b r xs h.1)

-- ---- a program with blocks put

-- What words of the same sorts share, and the words of a jump have.
module _ (P : List Instr → Type 0) (like : (xs ys : List Instr) → AllLike xs ys → P xs → P ys) (jumps : P (J 0 ∷ Sll 0 0 0 ∷ [])) (none : P []) where
  put_keeps : (relays : ℕ → Relays) (p q : HardProgram) → HasRelays relays p q → ((b : ℕ) → b < length p.blocks → Formed (items_of p b)) → ((b : ℕ) → P (map (λ i. i.instr) (items_of p b))) →
      (n : ℕ) → P (map (λ i. i.instr) (items_of q n))
  put_keeps relays p q h formed t n = elim (in_blocks q.blocks n) as (λ z. P (map (λ i. i.instr) (items_of q n))) [
    | inl l ↦ each_put (λ (xs : List Item). P (map (λ i. i.instr) xs)) relays p q h
        (λ b k. like (map (λ i. i.instr) (items_of p b)) (map (λ i. i.instr) (map (put_item (place_of relays) b (relays b)) (items_of p b)))
        (items_like (place_of relays) b (relays b) (items_of p b) (formed_clear (items_of p b) (formed b k))) (t b))
        (λ c. jumps) n l
    | inr e ↦ subst (λ (o : Option HardBlock). P (map (λ i. i.instr) (block_items o))) (sym e) none
  ]

pub turned_put : (relays : ℕ → Relays) (p q : HardProgram) → HasRelays relays p q → ((b : ℕ) → b < length p.blocks → Formed (items_of p b)) → Turned p → Turned q
turned_put = put_keeps turns.Turned (turns_like weak weak_test) (quiet_turns weak weak_test (J 0 ∷ Sll 0 0 0 ∷ []) (refl, (refl, tt))) (quiet_turns weak weak_test [] tt)

pub turned_through_put : (relays : ℕ → Relays) (p q : HardProgram) → HasRelays relays p q → ((b : ℕ) → b < length p.blocks → Formed (items_of p b)) → TurnedThrough p → TurnedThrough q
turned_through_put = put_keeps turns.TurnedThrough through_like (quiet_turns strong strong_test (J 0 ∷ Sll 0 0 0 ∷ []) (refl, (refl, tt))) (quiet_turns strong strong_test [] tt)
