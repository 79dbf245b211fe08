-- A signed program that is well formed, of forms and calm can be laid out.
use Rattle.std.proofs.Common.{◌≡◌, ◌<◌, ℕ, zero, suc, ◌^◌, arith, ap, refl, sym, ◌∙◌, subst, List, [], ◌∷◌, ◌++◌, length, get_or, Bool, true, false, cond, inl, inr}
use Rattle.std.specs.Prelude.{Option, Some, None, slice_get, ◌⊎◌, ◌==◌, ◌&&◌, not, nat_lt, All, Contains}
use Rattle.std.proofs.lemmas.List.Elements.{Contains-append_cases, All-contains}
use Rattle.std.proofs.lemmas.Option.{slice_get_read, slice_get_within, get_or_from_slice_get}
use Rattle.mips_isa.specs.declared.instr.Instr.TheVariants.{Xor}
use Rattle.mips_isa.specs.Table.{IsInRange}
use Rattle.hard_items.specs.declared.code.Fix.{Fix}
use Rattle.hard_items.specs.declared.code.Fix.TheVariants.{Plain, Block, Function}
use Rattle.hard_items.specs.declared.code.Item.{Item}
use Rattle.hard_items.specs.declared.code.HardBlock.{HardBlock}
use Rattle.hard_items.specs.declared.code.HardProgram.{HardProgram}
use Rattle.hard_items.specs.declared.code.Mark.{Mark}
use Rattle.hard_items.specs.declared.code.Signed.{Signed}
use Rattle.hard_items.specs.Streams.{nop}
use Rattle.hard_items.specs.Run.{items_of, block_items, named}
use Rattle.hard_items.specs.Ways.{Holds, CallsFunction, MayFollow, jumped, branched_eq, branched_ne, fallen_eq, fallen_ne, called, returned}
use Rattle.hard_items.specs.WellFormed.{WellFormed, ItemAt, NamesThere}
use Rattle.hard_items.specs.Forms.{Each, Close, Jump, Branch, Call, Return, Exit, form_items, close_items, Formed, HalvesPair}
use Rattle.hard_items.specs.Heads.{head_items, headed}
use Rattle.hard_items.specs.Counts.{calm_from}
use Rattle.layout_law.specs.Level.{Lines, MarkFits, CanBeLaid}
use Rattle.layout_law.proofs.Lines.{CloseThere, block_lines, head_lines, head_of, heads_length, items_headed}

no_true : true ≡ false → ⊥
no_true e = cc

-- ---- elements

pub contains_each : {A : Type 0} (P : A → Type 0) (xs : List A) (x : A) → Each P xs → Contains xs x → P x
contains_each P [] x h c = absurd (no c.0 c.1)
  where
    no : (k : ℕ) → k < 0 → ⊥
    no k h = omega arith
contains_each {A} P (y ∷ xs) x h c = by c.0 c.1 c.2 (λ k l e. contains_each P xs x h.1 (k, l, e))
  where
    less : (k n : ℕ) → suc k < suc n → k < n
    less k n h = omega arith

    by : (k : ℕ) → k < length (y ∷ xs) → get_or (y ∷ xs) k x ≡ x → ((k : ℕ) → k < length xs → get_or xs k x ≡ x → P x) → P x
    by zero l e f = subst P e h.0
    by (suc k) l e f = f k (less k (length xs) l) e

pub each_of_all : {A : Type 0} (P : A → Type 0) (xs : List A) → All P xs → Each P xs
each_of_all P [] h = tt
each_of_all {A} P (x ∷ xs) h = (h 0 x (zero_less (length xs)), each_of_all P xs (λ k d l. h (suc k) d (up k (length xs) l)))
  where
    zero_less : (n : ℕ) → 0 < suc n
    zero_less n = omega arith

    up : (k n : ℕ) → k < n → suc k < suc n
    up k n h = omega arith

pub each_append : {A : Type 0} (P : A → Type 0) (xs ys : List A) → Each P xs → Each P ys → Each P (xs ++ ys)
each_append P [] ys h k = k
each_append P (x ∷ xs) ys h k = (h.0, each_append P xs ys h.1 k)

-- ---- heads

head_plain : (o : Option Mark) → Each (λ (i : Item). i.fix ≡ Plain) (head_of o)
head_plain None = tt
head_plain (Some m) = (refl, (refl, (refl, (refl, (refl, (refl, (refl, tt)))))))

below : (m n : ℕ) → nat_lt m n ≡ true → m < n
below m n e = grind arith

head_range : (o : Option Mark) → ((m : Mark) → o ≡ Some m → MarkFits m) → Each (λ (i : Item). IsInRange i.instr) (head_of o)
head_range None f = tt
head_range (Some m) f =
    let k : MarkFits m = f m refl in
    ((r24, r24, k.d), (by m.fan, ((r0, r1, k.s), ((r0, below 28 32 refl, k.adjust), ((r24, r1, below 2 (2 ^ 16) refl), ((r0, r0, r0, r0), (below 2 (2 ^ 20) refl, tt)))))))
  where
    r24 : 24 < 32
    r24 = below 24 32 refl

    r0 : 0 < 32
    r0 = below 0 32 refl

    r1 : 1 < 32
    r1 = below 1 32 refl

    by : (z : Bool) → IsInRange (cond z (Xor 24 24 28) nop)
    by true = (r24, below 28 32 refl, r24, r0)
    by false = (r0, r0, r0, r0)

head_halves : (o : Option Mark) (xs : List Item) → HalvesPair xs false → HalvesPair (head_of o ++ xs) false
head_halves None xs h = h
head_halves (Some m) xs h = (f, (f, (f, (f, (f, (f, (f, h)))))))
  where
    f : {A : Type 0} → false ≡ true → A
    f e = absurd (no_true (sym e))

head_calm : (o : Option Mark) (xs : List Item) → calm_from 0 0 xs ≡ true → calm_from 0 0 (head_of o ++ xs) ≡ true
head_calm None xs h = h
head_calm (Some m) xs h = by m.fan
  where
    by : (z : Bool) → calm_from 0 0 (head_items (record { s = m.s; d = m.d; fan = z; adjust = m.adjust }) ++ xs) ≡ true
    by true = h
    by false = h

-- ---- what is named is there

pub fits_close : (p : HardProgram) (c : Close) → Each (λ (i : Item). NamesThere p i.fix) (close_items c) → ((f : ℕ) → f < length p.entries → named p (Function f) < length p.blocks) → CloseThere p c
fits_close p (Jump to) h g = h.0
fits_close p (Branch true r true to) h g = h.1.1.1.0
fits_close p (Branch true r false to) h g = h.1.1.1.0
fits_close p (Branch false r true to) h g = h.0
fits_close p (Branch false r false to) h g = h.0
fits_close p (Call f) h g = g f h.0
fits_close p (Return c) h g = tt
fits_close p (Exit c) h g = tt

pub each_right : {A : Type 0} (P : A → Type 0) (xs ys : List A) → Each P (xs ++ ys) → Each P ys
each_right P [] ys h = h
each_right P (x ∷ xs) ys h = each_right P xs ys h.1

close_there_headed : (s : Signed) (c : Close) → CloseThere s.program c → CloseThere (headed s) c
close_there_headed s (Jump to) h = subst (λ (z : ℕ). to < z) (sym (heads_length s.program.blocks s.marks)) h
close_there_headed s (Branch c r w to) h = subst (λ (z : ℕ). to < z) (sym (heads_length s.program.blocks s.marks)) h
close_there_headed s (Call f) h = subst (λ (z : ℕ). named s.program (Function f) < z) (sym (heads_length s.program.blocks s.marks)) h
close_there_headed s (Return c) h = tt
close_there_headed s (Exit c) h = tt

pub entries_named : (p : HardProgram) → WellFormed p → (f : ℕ) → f < length p.entries → named p (Function f) < length p.blocks
entries_named p w f h = w.entries_there f 0 h

-- ---- blocks that may follow are there

not_there : (ks : List HardBlock) (b : ℕ) → (b < length ks → ⊥) → block_items (slice_get ks b) ≡ []
not_there [] b h = refl
not_there (k ∷ ks) zero h = absurd (h (least (length ks)))
  where
    least : (n : ℕ) → 0 < suc n
    least n = omega arith
not_there (k ∷ ks) (suc b) h = not_there ks b (λ l. h (up b (length ks) l))
  where
    up : (k n : ℕ) → k < n → suc k < suc n
    up k n h = omega arith

either : (m n : ℕ) → (m < n) ⊎ (m < n → ⊥)
either m n = by (nat_lt m n) refl
  where
    by : (z : Bool) → nat_lt m n ≡ z → (m < n) ⊎ (m < n → ⊥)
    by true e = inl (below m n e)
    by false e = inr (no e)
      where
        no : nat_lt m n ≡ false → m < n → ⊥
        no e h = grind arith

-- An item with a field of a block of the headed program is one of the program.
pub holds_own : (s : Signed) (b : ℕ) (i : Item) → (i.fix ≡ Plain → ⊥) → Holds (headed s) b i → Holds s.program b i
holds_own s b i f h = elim (either b (length s.program.blocks)) as (λ z. Holds s.program b i) [
  | inl l ↦ elim (Contains-append_cases (head_of (slice_get s.marks b)) (items_of s.program b) i (subst (λ (z : List Item). Contains z i) (items_headed s b l) h)) as (λ z. Holds s.program b i) [
    | inl c ↦ absurd (f (contains_each (λ (i : Item). i.fix ≡ Plain) (head_of (slice_get s.marks b)) i (head_plain (slice_get s.marks b)) c))
    | inr c ↦ c
  ]
  | inr n ↦ absurd (none (subst (λ (z : List Item). Contains z i) (not_there (headed s).blocks b (λ l. n (subst (λ (z : ℕ). b < z) (heads_length s.program.blocks s.marks) l))) h))
]
  where
    none : Contains [] i → ⊥
    none c = no c.0 c.1
      where
        no : (k : ℕ) → k < 0 → ⊥
        no k h = omega arith

pub holds_at : (xs : List Item) (i : Item) → Contains xs i → (k : ℕ) × ItemAt xs k i
holds_at xs i c = (c.0, slice_get_read xs (length xs) c.0 i refl c.1 (sym c.2))

pub block_not_plain : (i : Item) (t : ℕ) → i.fix ≡ Block t → i.fix ≡ Plain → ⊥
block_not_plain i t e f = no (sym e ∙ f)
  where
    no : Block t ≡ Plain → ⊥
    no q = cc

function_not_plain : (i : Item) (t : ℕ) → i.fix ≡ Function t → i.fix ≡ Plain → ⊥
function_not_plain i t e f = no (sym e ∙ f)
  where
    no : Function t ≡ Plain → ⊥
    no q = cc

pub calls_own : (s : Signed) (b f : ℕ) → CallsFunction (headed s) b f → CallsFunction s.program b f
calls_own s b f c = record { item = c.item; target = c.target; holds = holds_own s b c.item (function_not_plain c.item f c.names) c.holds; jumps = c.jumps; names = c.names }

block_named : (s : Signed) (w : WellFormed s.program) (b c : ℕ) (i : Item) → Holds (headed s) b i → i.fix ≡ Block c → c < length s.program.blocks
block_named s w b c i h f = subst (λ (z : Fix). NamesThere s.program z) f (All-contains (λ (i : Item). NamesThere s.program i.fix) (items_of s.program b) i (w.named_there b) (holds_own s b i (block_not_plain i c f) h))

pub follows_there : (s : Signed) → WellFormed s.program → (b c : ℕ) → MayFollow (headed s) b c → c < length s.program.blocks
follows_there s w b c (jumped t tg i h e f) = block_named s w b t i h f
follows_there s w b c (branched_eq t rs rt imm i h e f) = block_named s w b t i h f
follows_there s w b c (branched_ne t rs rt imm i h e f) = block_named s w b t i h f
follows_there s w b c (fallen_eq t rs rt imm i h e f) =
    let k : (k : ℕ) × ItemAt (items_of s.program b) k i = holds_at (items_of s.program b) i (holds_own s b i (block_not_plain i t f) h) in
    (w.branch_stays b k.0 t rs rt imm i k.1 f (inl e)).0
follows_there s w b c (fallen_ne t rs rt imm i h e f) =
    let k : (k : ℕ) × ItemAt (items_of s.program b) k i = holds_at (items_of s.program b) i (holds_own s b i (block_not_plain i t f) h) in
    (w.branch_stays b k.0 t rs rt imm i k.1 f (inr e)).0
follows_there s w b c (called f t k e) = subst (λ (z : ℕ). z < length s.program.blocks) (get_or_from_slice_get s.program.entries f t 0 e) (w.entries_there f 0 (slice_get_within s.program.entries f t e))
follows_there s w b c (returned f caller rs i h e k m) = w.call_goes_on caller f (calls_own s caller f m)

pub can_be_laid : CanBeLaid
can_be_laid s l = record {
  lines = λ b h. let k : b < length s.program.blocks = subst (λ (z : ℕ). b < z) (heads_length s.program.blocks s.marks) h in
      subst (λ (z : List Item). Lines (headed s) false z) (sym (items_headed s b k)) (lines b k);
  halves = λ b. elim (either b (length s.program.blocks)) as (λ z. HalvesPair (items_of (headed s) b) false) [
    | inl k ↦ subst (λ (z : List Item). HalvesPair z false) (sym (items_headed s b k)) (head_halves (slice_get s.marks b) (items_of s.program b) (l.halves b))
    | inr n ↦ subst (λ (z : List Item). HalvesPair z false) (sym (nothing b n)) refl
  ];
  calm = λ b. elim (either b (length s.program.blocks)) as (λ z. calm_from 0 0 (items_of (headed s) b) ≡ true) [
    | inl k ↦ ap (λ (z : List Item). calm_from 0 0 z) (items_headed s b k) ∙ head_calm (slice_get s.marks b) (items_of s.program b) (l.calm b)
    | inr n ↦ ap (λ (z : List Item). calm_from 0 0 z) (nothing b n)
  ];
  in_range = λ b. elim (either b (length s.program.blocks)) as (λ z. Each (λ (i : Item). IsInRange i.instr) (items_of (headed s) b)) [
    | inl k ↦ subst (λ (z : List Item). Each (λ (i : Item). IsInRange i.instr) z) (sym (items_headed s b k)) (each_append (λ (i : Item). IsInRange i.instr) (head_of (slice_get s.marks b)) (items_of s.program b) (head_range (slice_get s.marks b) (λ m e. mark b m e)) (each_of_all (λ (i : Item). IsInRange i.instr) (items_of s.program b) (l.well_formed.in_range b)))
    | inr n ↦ subst (λ (z : List Item). Each (λ (i : Item). IsInRange i.instr) z) (sym (nothing b n)) tt
  ];
  reach = l.reach;
  follows = λ b c m. subst (λ (z : ℕ). c < z) (sym (heads_length s.program.blocks s.marks)) (follows_there s l.well_formed b c m);
  size = l.size;
}
  where
    nothing : (b : ℕ) → (b < length s.program.blocks → ⊥) → items_of (headed s) b ≡ []
    nothing b n = not_there (headed s).blocks b (λ h. n (subst (λ (z : ℕ). b < z) (heads_length s.program.blocks s.marks) h))

    mark : (b : ℕ) (m : Mark) → slice_get s.marks b ≡ Some m → MarkFits m
    mark b m e = subst MarkFits (get_or_from_slice_get s.marks b m m e) (l.marks.1 b m (slice_get_within s.marks b m e))

    there : (b : ℕ) (f : Formed (items_of s.program b)) → CloseThere (headed s) f.close
    there b f = close_there_headed s f.close (fits_close s.program f.close (each_right (λ (i : Item). NamesThere s.program i.fix) (Rattle.std.specs.Prelude.flat_map form_items f.forms) (close_items f.close) (subst (λ (z : List Item). Each (λ (i : Item). NamesThere s.program i.fix) z) f.is (each_of_all (λ (i : Item). NamesThere s.program i.fix) (items_of s.program b) (l.well_formed.named_there b)))) (entries_named s.program l.well_formed))

    own : (b : ℕ) (f : Formed (items_of s.program b)) → Lines (headed s) false (items_of s.program b)
    own b f = subst (λ (z : List Item). Lines (headed s) false z) (sym f.is) (block_lines (headed s) f.forms f.close f.fit (there b f))

    lines_by : (o : Option Mark) (xs : List Item) → Lines (headed s) false xs → Lines (headed s) false (head_of o ++ xs)
    lines_by None xs h = h
    lines_by (Some m) xs h = head_lines (headed s) m xs h

    lines : (b : ℕ) → b < length s.program.blocks → Lines (headed s) false (head_of (slice_get s.marks b) ++ items_of s.program b)
    lines b h = lines_by (slice_get s.marks b) (items_of s.program b) (own b (l.formed b h))
