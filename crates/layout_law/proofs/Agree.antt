-- What signatures over the graph of a well formed program give: the marks agree along every edge.
use Rattle.std.proofs.Common.{◌≡◌, ◌≤◌, ℕ, zero, suc, ◌+◌, ◌<◌, ◌∙◌, arith, ap, refl, sym, subst, List, [], ◌∷◌, length, map, get_or, false, inl, inr}
use Rattle.std.specs.Prelude.{Option, Some, None, ◌⊎◌, slice_get, Contains}
use Rattle.std.proofs.lemmas.Option.{get_or_from_slice_get, slice_get-get_or, slice_get_within}
use Rattle.std.proofs.lemmas.List.Elements.{All-contains}
use Rattle.mips_isa.specs.declared.instr.Instr.TheVariants.{Beq, Bne}
use Rattle.hard_items.specs.declared.code.Fix.{Fix}
use Rattle.hard_items.specs.declared.code.Fix.TheVariants.{Block}
use Rattle.mips_text.specs.Blocks.{carried}
use Rattle.mips_text.specs.Blocks as Blocks
use Rattle.hard_items.specs.declared.code.Item.{Item}
use Rattle.hard_items.specs.declared.code.HardBlock.{HardBlock}
use Rattle.hard_items.specs.declared.code.HardProgram.{HardProgram}
use Rattle.hard_items.specs.declared.code.Mark.{Mark}
use Rattle.hard_items.specs.declared.code.Signed.{Signed}
use Rattle.hard_items.specs.Run.{items_of, block_items}
use Rattle.hard_items.specs.Ways.{Holds, MayFollow, jumped, branched_eq, branched_ne, fallen_eq, fallen_ne, called, returned}
use Rattle.hard_items.specs.WellFormed.{WellFormed, ItemAt, NamesThere}
use Rattle.sign_law.specs.Graph.{IsSucc}
use Rattle.sign_law.specs.Signs.{head_at}
use Rattle.sign_law.specs.Marks.{successors_of, head_of, HasSigns}
use Rattle.sign_law.proofs.Signs.{edges_pass, entry_passes}
use Rattle.layout_law.specs.Level.{Laying}
use Rattle.layout_law.specs.Signs.{arrives, MarksAgree, Signing}
use Rattle.layout_law.proofs.Clean.{formed_clean}

-- ---- lists

no_mark : Mark
no_mark = record { s = 0; d = 0; fan = false; adjust = 0 }

mapped : (ms : List Mark) (u : ℕ) (m : Mark) → slice_get ms u ≡ Some m → head_at (map head_of ms) u ≡ head_of m
mapped [] u m e = absurd (no e)
  where
    no : None ≡ Some m → ⊥
    no e = cc
mapped (x ∷ ms) zero m e = ap head_of (same e)
  where
    same : Some x ≡ Some m → x ≡ m
    same e = cc
mapped (x ∷ ms) (suc u) m e = mapped ms u m e

successors_at : (bs : List HardBlock) (u : ℕ) (b : HardBlock) → slice_get bs u ≡ Some b → get_or (map (λ (c : HardBlock). c.successors) bs) u [] ≡ b.successors
successors_at [] u b e = absurd (no e)
  where
    no : None ≡ Some b → ⊥
    no e = cc
successors_at (c ∷ bs) zero b e = ap (λ (x : HardBlock). x.successors) (same e)
  where
    same : Some c ≡ Some b → c ≡ b
    same e = cc
successors_at (c ∷ bs) (suc u) b e = successors_at bs u b e

within : (bs : List HardBlock) (u : ℕ) → u < length bs → (b : HardBlock) × (slice_get bs u ≡ Some b)
within [] u h = absurd (omega arith)
within (b ∷ bs) zero h = (b, refl)
within (b ∷ bs) (suc u) h = within bs u (omega arith)

long_map : (bs : List HardBlock) → length (map (λ (c : HardBlock). c.successors) bs) ≡ length bs
long_map [] = refl
long_map (b ∷ bs) = ap suc (long_map bs)

empty : (x : Item) → Contains [] x → ⊥
empty x c = omega (arith, c.1)

there_by : (o : Option HardBlock) (i : Item) → Contains (block_items o) i → (b : HardBlock) × (o ≡ Some b)
there_by None i c = absurd (empty i c)
there_by (Some b) i c = (b, refl)

block_there : (p : HardProgram) (b : ℕ) (i : Item) → Holds p b i → (c : HardBlock) × (slice_get p.blocks b ≡ Some c)
block_there p b i h = there_by (slice_get p.blocks b) i h

-- A block that another may follow is there.
from_there : (p : HardProgram) (b c : ℕ) → MayFollow p b c → (d : HardBlock) × (slice_get p.blocks b ≡ Some d)
from_there p b c (jumped x target i h e f) = block_there p b i h
from_there p b c (branched_eq x rs rt imm i h e f) = block_there p b i h
from_there p b c (branched_ne x rs rt imm i h e f) = block_there p b i h
from_there p b c (fallen_eq x rs rt imm i h e f) = block_there p b i h
from_there p b c (fallen_ne x rs rt imm i h e f) = block_there p b i h
from_there p b c (called f x k e) = block_there p b k.item k.holds
from_there p b c (returned f caller rs i h e o k) = block_there p b i h

-- ---- edges

follows_succ : (p : HardProgram) (u w : ℕ) → WellFormed p → MayFollow p u w → IsSucc (successors_of p) u w
follows_succ p u w f m =
    let b : (d : HardBlock) × (slice_get p.blocks u ≡ Some d) = from_there p u w m in
    subst (λ (l : List ℕ). Contains l w) (sym (successors_at p.blocks u b.0 b.1)) ((f.successors_are u w b.0 b.1).1 m)

past_or : (a b : ℕ) → (a < b) ⊎ (b ≤ a)
past_or a b = grind arith

succ_follows : (p : HardProgram) (u w : ℕ) → WellFormed p → u < length p.blocks → IsSucc (successors_of p) u w → MayFollow p u w
succ_follows p u w f h s =
    let b : (d : HardBlock) × (slice_get p.blocks u ≡ Some d) = within p.blocks u h in
    (f.successors_are u w b.0 b.1).0 (subst (λ (l : List ℕ). Contains l w) (successors_at p.blocks u b.0 b.1) s)

no_succ_past : (p : HardProgram) (u w : ℕ) → length p.blocks ≤ u → IsSucc (successors_of p) u w → ⊥
no_succ_past p u w h s = none w (subst (λ (l : List ℕ). Contains l w) (past_map p.blocks u h) s)
  where
    none : (x : ℕ) → Contains [] x → ⊥
    none x c = omega (arith, c.1)

    past_map : (bs : List HardBlock) (u : ℕ) → length bs ≤ u → get_or (map (λ (c : HardBlock). c.successors) bs) u [] ≡ []
    past_map [] u h = refl
    past_map (b ∷ bs) zero h = absurd (omega arith)
    past_map (b ∷ bs) (suc u) h = past_map bs u (omega arith)

-- ---- marks

pub agree : (s : Signed) → WellFormed s.program → HasSigns s → MarksAgree s
agree s f g =
    let hs : List Blocks.Head = map head_of s.marks in
    record {
      one_each = g.one_each;
      first = λ m q.
          let e : carried (record { s = 0; d = 0; fan = false; D = 0 }) (head_at hs 0) ≡ (head_at hs 0).s =
          entry_passes (successors_of s.program) hs g.signs 0 (subst (λ (x : ℕ). 0 < x) (sym (long_map s.program.blocks)) f.has_block)
          (λ p k. elim (past_or p (length s.program.blocks)) as (λ z. ⊥) [ inl h ↦ f.first_not_entered p (succ_follows s.program p 0 f h k) | inr h ↦ no_succ_past s.program p 0 h k ]) in
          subst (λ (x : Blocks.Head). carried (record { s = 0; d = 0; fan = false; D = 0 }) x ≡ x.s) (mapped s.marks 0 m q) e;
      along = λ b c m n k q r.
          let e : carried (head_at hs b) (head_at hs c) ≡ (head_at hs c).s = edges_pass (successors_of s.program) hs g.signs b c (follows_succ s.program b c f k) in
          subst (λ (x : Blocks.Head). carried x (head_of n) ≡ (head_of n).s) (mapped s.marks b m q)
          (subst (λ (x : Blocks.Head). carried (head_at hs b) x ≡ x.s) (mapped s.marks c n r) e);
    }

pub signing : (s : Signed) → Laying s → HasSigns s → Signing s
signing s l g = record { well_formed = l.well_formed; formed = l.formed; agree = agree s l.well_formed g; unsigned = λ b. clean b (at_block b (length s.program.blocks)) }
  where
    at_block : (b n : ℕ) → (b < n) ⊎ (n ≤ b)
    at_block b n = past_or b n

    none : (ks : List HardBlock) (b : ℕ) → length ks ≤ b → block_items (slice_get ks b) ≡ []
    none [] b h = refl
    none (k ∷ ks) zero h = absurd (omega arith)
    none (k ∷ ks) (suc b) h = none ks b (omega arith)

    clean : (b : ℕ) → (b < length s.program.blocks) ⊎ (length s.program.blocks ≤ b) → Rattle.hard_items.specs.Forms.Each (λ (i : Item). Rattle.hard_items.specs.Forms.Each (λ (r : ℕ). Rattle.layout_law.specs.Signs.is_sign r ≡ false) (Rattle.hard_items.specs.Streams.touched i.instr)) (items_of s.program b)
    clean b (inl h) = formed_clean (items_of s.program b) (l.formed b h)
    clean b (inr h) = subst (λ (z : List Item). Rattle.hard_items.specs.Forms.Each (λ (i : Item). Rattle.hard_items.specs.Forms.Each (λ (r : ℕ). Rattle.layout_law.specs.Signs.is_sign r ≡ false) (Rattle.hard_items.specs.Streams.touched i.instr)) z) (sym (none s.program.blocks b h)) tt

-- ---- followers

item_at : (xs : List Item) (x : Item) → Contains xs x → (k : ℕ) × ItemAt xs k x
item_at xs x c = (c.0, slice_get-get_or xs c.0 x c.1 ∙ ap (λ (y : Item). Some y) c.2)

named_at : (p : HardProgram) (b c : ℕ) (i : Item) → WellFormed p → Holds p b i → i.fix ≡ Block c → c < length p.blocks
named_at p b c i f h e = subst (λ (x : Fix). NamesThere p x) e (All-contains (λ (x : Item). NamesThere p x.fix) (items_of p b) i (f.named_there b) h)

falls : (p : HardProgram) (b c rs rt imm : ℕ) (i : Item) → WellFormed p → Holds p b i → (i.instr ≡ Beq rs rt imm) ⊎ (i.instr ≡ Bne rs rt imm) → i.fix ≡ Block c → b + 1 < length p.blocks
falls p b c rs rt imm i f h e g = let k : (k : ℕ) × ItemAt (items_of p b) k i = item_at (items_of p b) i h in (f.branch_stays b k.0 c rs rt imm i k.1 g e).0

-- A block that may follow is there.
pub follower_there : (p : HardProgram) (b c : ℕ) → WellFormed p → MayFollow p b c → c < length p.blocks
follower_there p b c f (jumped x target i h e g) = named_at p b c i f h g
follower_there p b c f (branched_eq x rs rt imm i h e g) = named_at p b c i f h g
follower_there p b c f (branched_ne x rs rt imm i h e g) = named_at p b c i f h g
follower_there p b c f (fallen_eq x rs rt imm i h e g) = falls p b x rs rt imm i f h (inl e) g
follower_there p b c f (fallen_ne x rs rt imm i h e g) = falls p b x rs rt imm i f h (inr e) g
follower_there p b c f (called x y k e) = All-contains (λ (n : ℕ). n < length p.blocks) p.entries c f.entries_there (x, slice_get_within p.entries x c e, get_or_from_slice_get p.entries x c c e)
follower_there p b c f (returned x caller rs i h e o k) = f.call_goes_on caller x k
