-- The premises of the law on heads: what signatures over the graph of a well formed program give, and that its blocks are closed.
use Rattle.std.proofs.Common.{◌≡◌, ◌≢◌, ◌≤◌, ℕ, zero, suc, ◌+◌, ◌<◌, arith, rules, ap, refl, sym, ◌∙◌, subst, List, [], ◌∷◌, ◌++◌, length, map, get_or, false, true, Bool, inl, inr}
use Rattle.std.proofs.lemmas.Grind.{common_steps}
use Rattle.std.specs.Prelude.{Option, Some, None, ◌⊎◌, slice_get, slice_index, All, Contains}
use Rattle.std.proofs.lemmas.Option.{slice_get-get_or, slice_get_within, get_or_from_slice_get}
use Rattle.std.proofs.lemmas.List.Elements.{All-contains}
use Rattle.hard_items.specs.declared.code.Fix.{Fix}
use Rattle.mips_isa.specs.declared.instr.Instr.{Instr}
use Rattle.mips_isa.specs.declared.instr.Instr.TheVariants.{J, Jal, Jr, Beq, Bne}
use Rattle.mips_text.specs.Blocks.{carried}
use Rattle.mips_text.specs.Blocks as Blocks
use Rattle.hard_items.specs.declared.code.Fix.TheVariants.{Block, Function}
use Rattle.hard_items.specs.declared.code.Item.{Item}
use Rattle.hard_items.specs.declared.code.HardBlock.{HardBlock}
use Rattle.hard_items.specs.declared.code.HardProgram.{HardProgram}
use Rattle.hard_items.specs.declared.code.Mark.{Mark}
use Rattle.hard_items.specs.declared.code.Signed.{Signed}
use Rattle.hard_items.specs.Run.{items_of, block_items}
use Rattle.hard_items.specs.Ways.{Holds, CallsFunction, MayFollow, jumped, branched_eq, branched_ne, fallen_eq, fallen_ne, called, returned}
use Rattle.hard_items.specs.WellFormed.{WellFormed, ItemAt, NamesThere, EndsWell}
use Rattle.sign_law.specs.Graph.{IsSucc}
use Rattle.sign_law.specs.Signs.{head_at, AreSigned}
use Rattle.sign_law.proofs.Signs.{edges_pass, entry_passes}
use Rattle.signature_assign.specs.Headed.{mark_at, found, HeadsPass, IsClosed}
use Rattle.sign_law.specs.Marks.{successors_of, head_of, HasSigns}

-- Lists.

no_head : Blocks.Head
no_head = record { s = 0; d = 0; fan = false; D = 0 }

no_mark : Mark
no_mark = record { s = 0; d = 0; fan = false; adjust = 0 }

pub mapped : (ms : List Mark) (u : ℕ) → head_at (map head_of ms) u ≡ head_of (get_or ms u (record { s = 0; d = 0; fan = false; adjust = 0 }))
mapped [] u = refl
mapped (m ∷ ms) zero = refl
mapped (m ∷ ms) (suc u) = mapped ms u

pub successors_at : (bs : List HardBlock) (u : ℕ) (b : HardBlock) → slice_get bs u ≡ Some b → get_or (map (λ (c : HardBlock). c.successors) bs) u [] ≡ b.successors
successors_at [] u b e = absurd (no_some e)
  where
    no_some : {A : Type 0} {x : A} → None ≡ Some x → ⊥
    no_some e = cc
successors_at (c ∷ bs) zero b e = ap (λ (x : HardBlock). x.successors) (same_some e)
  where
    same_some : {A : Type 0} {x y : A} → Some x ≡ Some y → x ≡ y
    same_some e = cc
successors_at (c ∷ bs) (suc u) b e = successors_at bs u b e

pub within : (bs : List HardBlock) (u : ℕ) → u < length bs → (b : HardBlock) × (slice_get bs u ≡ Some b)
within [] u h = absurd (omega arith)
within (b ∷ bs) zero h = (b, refl)
within (b ∷ bs) (suc u) h = within bs u (omega arith)

pub long_map : (bs : List HardBlock) → length (map (λ (c : HardBlock). c.successors) bs) ≡ length bs
long_map [] = refl
long_map (b ∷ bs) = ap suc (long_map bs)

empty : (x : Item) → Contains [] x → ⊥
empty x c = omega (arith, c.1)

there_by : (o : Option HardBlock) (i : Item) → Contains (block_items o) i → (b : HardBlock) × (o ≡ Some b)
there_by None i c = absurd (empty i c)
there_by (Some b) i c = (b, refl)

pub block_there : (p : HardProgram) (b : ℕ) (i : Item) → Holds p b i → (c : HardBlock) × (slice_get p.blocks b ≡ Some c)
block_there p b i h = there_by (slice_get p.blocks b) i h

-- a block that another may follow is there
pub from_there : (p : HardProgram) (b c : ℕ) → MayFollow p b c → (d : HardBlock) × (slice_get p.blocks b ≡ Some d)
from_there p b c (jumped x target i h e f) = block_there p b i h
from_there p b c (branched_eq x rs rt imm i h e f) = block_there p b i h
from_there p b c (branched_ne x rs rt imm i h e f) = block_there p b i h
from_there p b c (fallen_eq x rs rt imm i h e f) = block_there p b i h
from_there p b c (fallen_ne x rs rt imm i h e f) = block_there p b i h
from_there p b c (called f x k e) = block_there p b k.item k.holds
from_there p b c (returned f caller rs i h e o k) = block_there p b i h

-- Signatures.

pub follows_succ : (p : HardProgram) (u w : ℕ) → WellFormed p → MayFollow p u w → IsSucc (successors_of p) u w
follows_succ p u w f m =
    let b : (d : HardBlock) × (slice_get p.blocks u ≡ Some d) = from_there p u w m in
    subst (λ (l : List ℕ). Contains l w) (sym (successors_at p.blocks u b.0 b.1)) ((f.successors_are u w b.0 b.1).1 m)

past_or : (a b : ℕ) → (a < b) ⊎ (b ≤ a)
past_or a b = grind arith

pub succ_follows : (p : HardProgram) (u w : ℕ) → WellFormed p → u < length p.blocks → IsSucc (successors_of p) u w → MayFollow p u w
succ_follows p u w f h s =
    let b : (d : HardBlock) × (slice_get p.blocks u ≡ Some d) = within p.blocks u h in
    (f.successors_are u w b.0 b.1).0 (subst (λ (l : List ℕ). Contains l w) (successors_at p.blocks u b.0 b.1) s)

no_succ_past : (p : HardProgram) (u w : ℕ) → length p.blocks ≤ u → IsSucc (successors_of p) u w → ⊥
no_succ_past p u w h s = empty_numbers w (subst (λ (l : List ℕ). Contains l w) (past_map p.blocks u h) s)
  where
    empty_numbers : (x : ℕ) → Contains [] x → ⊥
    empty_numbers x c = omega (arith, c.1)

    past_map : (bs : List HardBlock) (u : ℕ) → length bs ≤ u → get_or (map (λ (c : HardBlock). c.successors) bs) u [] ≡ []
    past_map [] u h = refl
    past_map (b ∷ bs) zero h = absurd (omega arith)
    past_map (b ∷ bs) (suc u) h = past_map bs u (omega arith)

pub heads_pass : (s : Signed) → WellFormed s.program → HasSigns s → HeadsPass s
heads_pass s f g =
    let hs : List Blocks.Head = map head_of s.marks in
    record {
      one_each = g.one_each;
      edge = λ u w m.
          let e : carried (head_at hs u) (head_at hs w) ≡ (head_at hs w).s = edges_pass (successors_of s.program) hs g.signs u w (follows_succ s.program u w f m) in
          subst (λ (x : Blocks.Head). carried x (head_of (mark_at s w)) ≡ (head_of (mark_at s w)).s) (mapped s.marks u)
          (subst (λ (x : Blocks.Head). carried (head_at hs u) x ≡ x.s) (mapped s.marks w) e);
      first =
          let e : carried (record { s = 0; d = 0; fan = false; D = 0 }) (head_at hs 0) ≡ (head_at hs 0).s =
          entry_passes (successors_of s.program) hs g.signs 0 (subst (λ (x : ℕ). 0 < x) (sym (long_map s.program.blocks)) f.has_block)
          (λ p k. elim (past_or p (length s.program.blocks)) as (λ z. ⊥) [ inl h ↦ f.first_not_entered p (succ_follows s.program p 0 f h k) | inr h ↦ no_succ_past s.program p 0 h k ]) in
          subst (λ (x : Blocks.Head). carried (record { s = 0; d = 0; fan = false; D = 0 }) x ≡ x.s) (mapped s.marks 0) e;
    }

-- Closed blocks.

item_at : (xs : List Item) (x : Item) → Contains xs x → (k : ℕ) × ItemAt xs k x
item_at xs x c = (c.0, slice_get-get_or xs c.0 x c.1 ∙ ap (λ (y : Item). Some y) c.2)

in_items : (xs : List Item) (k : ℕ) (x : Item) → ItemAt xs k x → Contains xs x
in_items xs k x e = (k, slice_get_within xs k x e, get_or_from_slice_get xs k x x e)

named : (p : HardProgram) (b c : ℕ) (i : Item) → WellFormed p → Holds p b i → i.fix ≡ Block c → c < length p.blocks
named p b c i f h e = subst (λ (x : Fix). NamesThere p x) e (All-contains (λ (x : Item). NamesThere p x.fix) (items_of p b) i (f.named_there b) h)

falls : (p : HardProgram) (b c rs rt imm : ℕ) (i : Item) → WellFormed p → Holds p b i → (i.instr ≡ Beq rs rt imm) ⊎ (i.instr ≡ Bne rs rt imm) → i.fix ≡ Block c → b + 1 < length p.blocks
falls p b c rs rt imm i f h e g = let k : (k : ℕ) × ItemAt (items_of p b) k i = item_at (items_of p b) i h in (f.branch_stays b k.0 c rs rt imm i k.1 g e).0

pub follower_there : (p : HardProgram) (b c : ℕ) → WellFormed p → MayFollow p b c → c < length p.blocks
follower_there p b c f (jumped x target i h e g) = named p b c i f h g
follower_there p b c f (branched_eq x rs rt imm i h e g) = named p b c i f h g
follower_there p b c f (branched_ne x rs rt imm i h e g) = named p b c i f h g
follower_there p b c f (fallen_eq x rs rt imm i h e g) = falls p b x rs rt imm i f h (inl e) g
follower_there p b c f (fallen_ne x rs rt imm i h e g) = falls p b x rs rt imm i f h (inr e) g
follower_there p b c f (called x y k e) = All-contains (λ (n : ℕ). n < length p.blocks) p.entries c f.entries_there (x, slice_get_within p.entries x c e, get_or_from_slice_get p.entries x c c e)
follower_there p b c f (returned x caller rs i h e o k) = f.call_goes_on caller x k

not_empty : (xs : List Item) (k : ℕ) → length xs ≡ k + 2 → (i : Item) × ((more : List Item) × (xs ≡ i ∷ more))
not_empty [] k e = absurd (omega arith)
not_empty (i ∷ more) k e = (i, (more, refl))

pub closed : (p : HardProgram) → WellFormed p → IsClosed p
closed p f = record {
  has_block = f.has_block;
  there = λ u w m. follower_there p u w f m;
  some = λ b h. let e : EndsWell (items_of p b) = f.ends_well b h in not_empty (items_of p b) e.0 e.3;
}
