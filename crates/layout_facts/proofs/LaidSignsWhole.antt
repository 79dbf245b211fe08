-- The text of a signed program is laid as its graph and its marks tell.
use Rattle.std.proofs.Common.{◌≡◌, ◌≤◌, ◌<◌, ℕ, zero, suc, arith, ap, refl, sym, ◌∙◌, subst, List, [], ◌∷◌, length, map, get_or, Bool, true, false, inl, inr}
use Rattle.std.specs.Prelude.{Option, Some, None, ◌⊎◌, slice_get, Contains, if◌then◌else◌}
use Rattle.std.proofs.lemmas.List.Elements.{All-contains, Contains-append_cases}
use Rattle.std.proofs.lemmas.Option.{get_or_from_slice_get, slice_get_within}
use Rattle.mips_isa.specs.declared.instr.Instr.TheVariants.{Jr, Xor, Sll}
use Rattle.mips_text.specs.Blocks.{Head, HeadAt}
use Rattle.hard_items.specs.declared.code.Fix.{Fix}
use Rattle.hard_items.specs.declared.code.Fix.TheVariants.{Plain, Block}
use Rattle.hard_items.specs.declared.code.Item.{Item}
use Rattle.hard_items.specs.declared.code.Class.TheVariants.{Head as Head_}
use Rattle.hard_items.specs.Streams.{plain}
use Rattle.std.proofs.lemmas.Bool.{cases_lt}
use Rattle.hard_items.specs.declared.code.HardBlock.{HardBlock}
use Rattle.hard_items.specs.declared.code.Mark.{Mark}
use Rattle.hard_items.specs.declared.code.Signed.{Signed}
use Rattle.hard_items.specs.Heads.{headed}
use Rattle.hard_items.specs.Run.{items_of}
use Rattle.hard_items.specs.Ways as ways
use Rattle.hard_items.specs.Ways.{Holds, MayFollow, IsOfFunction, CallsFunction, EachCalled}
use Rattle.hard_items.specs.WellFormed.{NamesThere}
use Rattle.hard_items.specs.Forms.{Each}
use Rattle.sign_law.specs.Graph.{IsSucc}
use Rattle.sign_law.specs.Signs.{IsLaid, head_at}
use Rattle.sign_law.specs.Marks.{successors_of, head_of, HasSigns}
use Rattle.layout_law.specs.Layout.{address, text}
use Rattle.layout_law.specs.Level.{Laying}
use Rattle.layout_law.proofs.Lines as lines
use Rattle.layout_law.proofs.Lines.{heads_length, items_headed}
use Rattle.layout_law.proofs.Laying.{can_be_laid, holds_own, calls_own, follows_there, contains_each}
use Rattle.layout_law.proofs.Heads.{follow_up, calls_up}
use Rattle.layout_law.proofs.Entered.{entered}
use Rattle.layout_law.proofs.Step.{one_address}
use Rattle.layout_law.proofs.Blocks.{items_there}
use Rattle.layout_law.proofs.Signed.{signed_starts}
use Rattle.layout_law.proofs.Clean as clean
use Rattle.layout_facts.specs.Signed.{SignedIsLaid}
use Rattle.layout_facts.proofs.Spans.{follows_words, words_follow}

no_some : {A : Type 0} (x : A) → None ≡ Some x → ⊥
no_some x e = cc

-- ---- lists

successors_at : (ks : List HardBlock) (u : ℕ) (k : HardBlock) → slice_get ks u ≡ Some k → get_or (map (λ (b : HardBlock). b.successors) ks) u [] ≡ k.successors
successors_at [] u k e = absurd (no_some k e)
successors_at (x ∷ ks) zero k e = ap (λ (o : Option HardBlock). next_of o x.successors) e
  where
    next_of : Option HardBlock → List ℕ → List ℕ
    next_of None d = d
    next_of (Some b) d = b.successors
successors_at (x ∷ ks) (suc u) k e = successors_at ks u k e

there_at : {A : Type 0} (ks : List A) (u : ℕ) → u < length ks → (k : A) × (slice_get ks u ≡ Some k)
there_at [] u l = absurd (no u l)
  where
    no : (n : ℕ) → n < 0 → ⊥
    no n h = omega arith
there_at (x ∷ ks) zero l = (x, refl)
there_at (x ∷ ks) (suc u) l = there_at ks u (less u (length ks) l)
  where
    less : (a b : ℕ) → suc a < suc b → a < b
    less a b h = omega arith

long_map : (ks : List HardBlock) → length (map (λ (b : HardBlock). b.successors) ks) ≡ length ks
long_map [] = refl
long_map (k ∷ ks) = ap suc (long_map ks)

head_is : (ms : List Mark) (u : ℕ) (m : Mark) → slice_get ms u ≡ Some m → head_at (map head_of ms) u ≡ head_of m
head_is [] u m e = absurd (no_some m e)
head_is (x ∷ ms) zero m e = ap head_of (same x m e)
  where
    same : (x m : Mark) → Some x ≡ Some m → x ≡ m
    same x m e = cc
head_is (x ∷ ms) (suc u) m e = head_is ms u m e

-- ---- ways of the program with heads are ways of the program

-- No word of a head is a jr.
pub record NoReturn (i : Item) : Type 0 where
  pub other : (rs : ℕ) → i.instr ≡ Jr rs → ⊥

head_no_return : (o : Option Mark) → Each NoReturn (lines.head_of o)
head_no_return None = tt
head_no_return (Some m) = (one (λ rs e. cc), (second m.fan, (one (λ rs e. cc), (one (λ rs e. cc), (one (λ rs e. cc), (one (λ rs e. cc), (one (λ rs e. cc), tt)))))))
  where
    one : {i : Item} → ((rs : ℕ) → i.instr ≡ Jr rs → ⊥) → NoReturn i
    one f = record { other = f }

    second : (z : Bool) → NoReturn (plain (if z then Xor 24 24 28 else Sll 0 0 0) Head_)
    second true = one (λ rs e. cc)
    second false = one (λ rs e. cc)

module _ (s : Signed) (l : Laying s) where
  holds_return : (b rs : ℕ) (i : Item) → i.instr ≡ Jr rs → Holds (headed s) b i → Holds s.program b i
  holds_return b rs i e h =
      let k : b < length s.program.blocks = subst (λ (z : ℕ). b < z) (heads_length s.program.blocks s.marks) (items_there (headed s).blocks b i h) in
      elim (Contains-append_cases (lines.head_of (slice_get s.marks b)) (items_of s.program b) i (subst (λ (z : List Item). Contains z i) (items_headed s b k) h)) [
        | inl c ↦ absurd ((contains_each NoReturn (lines.head_of (slice_get s.marks b)) i (head_no_return (slice_get s.marks b)) c).other rs e)
        | inr c ↦ c
      ]

  block_no : (i : Item) (t : ℕ) → i.fix ≡ Block t → i.fix ≡ Plain → ⊥
  block_no i t e f = no (sym e ∙ f)
    where
      no : Block t ≡ Plain → ⊥
      no q = cc

  follow_own : (b c : ℕ) → MayFollow (headed s) b c → MayFollow s.program b c
  follow_own b c (ways.jumped t tg i h e f) = ways.jumped t tg i (holds_own s b i (block_no i t f) h) e f
  follow_own b c (ways.branched_eq t rs rt imm i h e f) = ways.branched_eq t rs rt imm i (holds_own s b i (block_no i t f) h) e f
  follow_own b c (ways.branched_ne t rs rt imm i h e f) = ways.branched_ne t rs rt imm i (holds_own s b i (block_no i t f) h) e f
  follow_own b c (ways.fallen_eq t rs rt imm i h e f) = ways.fallen_eq t rs rt imm i (holds_own s b i (block_no i t f) h) e f
  follow_own b c (ways.fallen_ne t rs rt imm i h e f) = ways.fallen_ne t rs rt imm i (holds_own s b i (block_no i t f) h) e f
  follow_own b c (ways.called f t k e) = ways.called f t (calls_own s b f k) e
  follow_own b c (ways.returned f caller rs i h e k m) = ways.returned f caller rs i (holds_return b rs i e h) e (record { entry = k.entry; is_entry = k.is_entry; not_above = k.not_above; greatest = k.greatest }) (calls_own s caller f m)

  -- ---- the premises on the program with heads

  blocks_same : length (headed s).blocks ≡ length s.program.blocks
  blocks_same = heads_length s.program.blocks s.marks

  each_called : EachCalled (headed s)
  each_called f e h = elim (l.well_formed.each_called f e h) [
    | inl z ↦ inl z
    | inr c ↦ inr (c.0, calls_up s c.0 f c.1)
  ]

  entry_there : (f e : ℕ) → slice_get s.program.entries f ≡ Some e → e < length (headed s).blocks
  entry_there f e h = subst (λ (z : ℕ). e < z) (sym blocks_same) (subst (λ (z : ℕ). z < length s.program.blocks) (get_or_from_slice_get s.program.entries f e 0 h) (l.well_formed.entries_there f 0 (slice_get_within s.program.entries f e h)))

  function_there : (b f : ℕ) → CallsFunction (headed s) b f → f < length s.program.entries
  function_there b f c =
      let k : CallsFunction s.program b f = calls_own s b f c in
      subst (λ (z : Fix). NamesThere s.program z) k.names (All-contains (λ (i : Item). NamesThere s.program i.fix) (items_of s.program b) k.item (l.well_formed.named_there b) k.holds)

  goes_there : (b c : ℕ) → MayFollow (headed s) b c → c < length (headed s).blocks
  goes_there b c m = subst (λ (z : ℕ). c < z) (sym blocks_same) (follows_there s l.well_formed b c m)

  -- ---- the lists of successors

  follow_of : (u w : ℕ) → IsSucc (successors_of s.program) u w → MayFollow s.program u w
  follow_of u w c = by (split u)
    where
      split : (u : ℕ) → (u < length s.program.blocks) ⊎ (length s.program.blocks ≤ u)
      split u = cases_lt u (length s.program.blocks)

      past : (ks : List HardBlock) (u : ℕ) → length ks ≤ u → get_or (map (λ (b : HardBlock). b.successors) ks) u [] ≡ []
      past [] u h = refl
      past (k ∷ ks) zero h = absurd (omega arith)
      past (k ∷ ks) (suc u) h = past ks u (omega arith)

      none : Contains [] w → ⊥
      none c = omega (arith, c.1)

      by : (u < length s.program.blocks) ⊎ (length s.program.blocks ≤ u) → MayFollow s.program u w
      by (inl h) = let k : (k : HardBlock) × (slice_get s.program.blocks u ≡ Some k) = there_at s.program.blocks u h in (l.well_formed.successors_are u w k.0 k.1).0 (subst (λ (z : List ℕ). Contains z w) (successors_at s.program.blocks u k.0 k.1) c)
      by (inr h) = absurd (none (subst (λ (z : List ℕ). Contains z w) (past s.program.blocks u h) c))

  of_follow : (u w : ℕ) → u < length s.program.blocks → MayFollow s.program u w → IsSucc (successors_of s.program) u w
  of_follow u w h m = let k : (k : HardBlock) × (slice_get s.program.blocks u ≡ Some k) = there_at s.program.blocks u h in subst (λ (z : List ℕ). Contains z w) (sym (successors_at s.program.blocks u k.0 k.1)) ((l.well_formed.successors_are u w k.0 k.1).1 m)

  in_program : (u : ℕ) → u < length (successors_of s.program) → u < length s.program.blocks
  in_program u h = subst (λ (z : ℕ). u < z) (long_map s.program.blocks) h

  in_headed : (u : ℕ) → u < length (successors_of s.program) → u < length (headed s).blocks
  in_headed u h = subst (λ (z : ℕ). u < z) (sym blocks_same) (in_program u h)

  pub laid : HasSigns s → IsLaid (successors_of s.program) (map head_of s.marks) (text (headed s)) 0x00400000 (address (headed s))
  laid g = record {
    start = λ u h. (signed_starts s l (address (headed s) u)).1 (u, in_program u h, refl);
    block = λ a h. let b : (b : ℕ) × (b < length s.program.blocks) × (a ≡ address (headed s) b) = (signed_starts s l a).0 h in (b.0, (subst (λ (z : ℕ). b.0 < z) (sym (long_map s.program.blocks)) b.1, b.2));
    apart = λ u w h k e. one_address (headed s) (can_be_laid s l) u w (weak u (length (headed s).blocks) (in_headed u h)) (weak w (length (headed s).blocks) (in_headed w k)) e;
    follows = λ u w c. follows_words (headed s) (can_be_laid s l) (entered s l.well_formed) each_called entry_there function_there goes_there u w (follow_up s u w (follow_of u w c));
    followed = λ u w h k c. of_follow u w (in_program u h) (follow_own u w (words_follow (headed s) (can_be_laid s l) (entered s l.well_formed) each_called entry_there function_there goes_there u w (in_headed u h) (in_headed w k) c));
    head = λ u h. let m : (m : Mark) × (slice_get s.marks u ≡ Some m) = there_at s.marks u (subst (λ (z : ℕ). u < z) (sym g.one_each) (in_program u h)) in
        subst (λ (z : Head). HeadAt (text (headed s)) (address (headed s) u) z) (sym (head_is s.marks u m.0 m.1)) (clean.head_at s (can_be_laid s l) u m.0 (in_program u h) m.1);
  }
    where
      weak : (a b : ℕ) → a < b → a ≤ b
      weak a b h = omega arith

pub signed_is_laid : SignedIsLaid
signed_is_laid s l g = laid s l g
