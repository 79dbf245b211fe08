-- The pairs that are listed are the aliases of a signed program.
use Rattle.std.proofs.Common.{◌≡◌, ◌<◌, ℕ, zero, suc, ◌+◌, arith, ap, refl, sym, ◌∙◌, subst, List, [], ◌∷◌, ◌++◌, length, map, get_or, true, false, Bool, inl, inr}
use Rattle.std.specs.Prelude.{if◌then◌else◌, slice_get, Option, Some, None, bit_xor}
use Rattle.std.specs.List.{All, Contains}
use Rattle.std.specs.Int.Bits.{xor_assoc}
use Rattle.std.proofs.lemmas.Nat.{xor_comm}
use Rattle.std.proofs.lemmas.List.{get_or_default}
use Rattle.std.proofs.lemmas.Bool.{cases_Bool}
use Rattle.mips_text.specs.Blocks.{Head, carried}
use Rattle.hard_items.specs.declared.code.Mark.{Mark}
use Rattle.hard_items.specs.declared.code.HardBlock.{HardBlock}
use Rattle.hard_items.specs.declared.code.Signed.{Signed}
use Rattle.sign_law.specs.Graph.{IsSucc, HasTwo, Linked}
use Rattle.sign_law.specs.Signs.{IsReached, joined, led, entered, head_at}
use Rattle.sign_law.specs.Marks.{successors_of, head_of, HasSigns}
use Rattle.sign_law.proofs.Signs.{aliases_are_linked}
use Rattle.sign_law.proofs.Groups.{right_two}
use Rattle.sign_law.proofs.Xor.{twice}
use Rattle.alias_lister.specs.Aliases.{IsAlias, AreAliases, AreLinked, head_by}
use Rattle.alias_lister.specs.Listing.{has, base, leaves, members, mark_at, listed}
use Rattle.alias_lister.proofs.Members.{no_true, no_some, has_contains, contains_has, IsMember, is_member, member_in}
use Rattle.alias_lister.proofs.Pairs.{IsListed, is_listed, listed_in, listed_ordered, in_order}

-- ---- lists

mapped : (ms : List Mark) (u : ℕ) → head_at (map head_of ms) u ≡ head_of (mark_at ms u)
mapped [] u = refl
mapped (m ∷ ms) zero = refl
mapped (m ∷ ms) (suc u) = mapped ms u

pub successors_at : (ks : List HardBlock) (u : ℕ) (k : HardBlock) → slice_get ks u ≡ Some k → get_or (map (λ (b : HardBlock). b.successors) ks) u [] ≡ k.successors
successors_at [] u k e = absurd (no_some k e)
successors_at (x ∷ ks) zero k e = ap (λ (o : Option HardBlock). next_of o x.successors) e where
  next_of : Option HardBlock → List ℕ → List ℕ
  next_of None d = d
  next_of (Some b) d = b.successors
successors_at (x ∷ ks) (suc u) k e = successors_at ks u k e

pub block_at : (ks : List HardBlock) (u : ℕ) → u < length ks → (k : HardBlock) × (slice_get ks u ≡ Some k)
block_at [] u l = absurd (omega arith)
block_at (x ∷ ks) zero l = (x, refl)
block_at (x ∷ ks) (suc u) l = block_at ks u (omega arith)

inside : (ks : List HardBlock) (u : ℕ) (k : HardBlock) → slice_get ks u ≡ Some k → u < length ks
inside [] u k e = absurd (no_some k e)
inside (x ∷ ks) zero k e = omega arith
inside (x ∷ ks) (suc u) k e = omega (arith, inside ks u k e)

-- ---- heads that adjust

pass_from : (g d a s : ℕ) → bit_xor d s ≡ bit_xor g a → bit_xor (bit_xor g d) a ≡ s
pass_from g d a s e = ap (λ (x : ℕ). bit_xor x a) (xor_comm g d) ∙ (xor_assoc d g a ∙ (ap (λ (x : ℕ). bit_xor d x) (sym e) ∙ twice d s))

base_from : (g d a s : ℕ) → bit_xor (bit_xor g d) a ≡ s → bit_xor d s ≡ bit_xor g a
base_from g d a s e = ap (λ (x : ℕ). bit_xor d x) (sym e ∙ (ap (λ (x : ℕ). bit_xor x a) (xor_comm g d) ∙ xor_assoc d g a)) ∙ twice d (bit_xor g a)

adjusted : (m n : Mark) → n.fan ≡ true → base n ≡ leaves m → carried (head_of m) (head_of n) ≡ (head_of n).s
adjusted m n f e = ap (λ (b : Bool). if b then bit_xor (bit_xor m.s n.d) m.adjust else bit_xor m.s n.d) f ∙ pass_from m.s n.d m.adjust n.s e

of_base : (m n : Mark) → n.fan ≡ true → carried (head_of m) (head_of n) ≡ (head_of n).s → base n ≡ leaves m
of_base m n f e = base_from m.s n.d m.adjust n.s (sym (ap (λ (b : Bool). if b then bit_xor (bit_xor m.s n.d) m.adjust else bit_xor m.s n.d) f) ∙ e)

fans : (S : ℕ → ℕ → Type 0) (w : ℕ) (h : Head) → HasTwo S w → IsReached S w h → h.fan ≡ true
fans S w h t (joined b two is f d) = f
fans S w h t (led p p_leads one f d) = absurd (t.differ (one t.one t.by_one ∙ sym (one t.other t.by_other)))
fans S w h t (entered none f d) = absurd (none t.one t.by_one)

-- ---- the list

sound : (s : Signed) (u w : ℕ) → HasSigns s → Contains (listed s.marks 0 s.program.blocks) (u, w) → IsAlias s u w
sound s u w g c =
    let h : IsListed s.marks 0 s.program.blocks (u, w) = is_listed s.marks 0 s.program.blocks (u, w) c in
    let m : IsMember (leaves (mark_at s.marks u)) 0 s.marks w = is_member (leaves (mark_at s.marks u)) 0 s.marks w h.second in
    let at_u : h.at ≡ u = omega (arith, h.first) in
    let at_w : m.at ≡ w = omega (arith, m.is) in
    let fan : (mark_at s.marks w).fan ≡ true = subst (λ (z : ℕ). (mark_at s.marks z).fan ≡ true) at_w m.fan in
    let same : base (mark_at s.marks w) ≡ leaves (mark_at s.marks u) = subst (λ (z : ℕ). base (mark_at s.marks z) ≡ leaves (mark_at s.marks u)) at_w m.of_base in
    let block : slice_get s.program.blocks u ≡ Some h.block = subst (λ (z : ℕ). slice_get s.program.blocks z ≡ Some h.block) at_u h.is in
    record {
      from = inside s.program.blocks u h.block block;
      to = omega (arith, m.is, m.there, g.one_each);
      no_successor = λ x. never (has w h.block.successors) (contains_has w h.block.successors (subst (λ (xs : List ℕ). Contains xs w) (successors_at s.program.blocks u h.block block) x)) h.no_successor;
      equal = subst (λ (x : Head). carried x (head_by s w) ≡ (head_by s w).s) (sym (mapped s.marks u)) (subst (λ (x : Head). carried (head_of (mark_at s.marks u)) x ≡ x.s) (sym (mapped s.marks w)) (adjusted (mark_at s.marks u) (mark_at s.marks w) fan same));
    }
  where
    never : (b : Bool) → b ≡ true → b ≡ false → ⊥
    never true h k = no_true k
    never false h k = no_true (sym h)

leads_on : (s : Signed) (u w : ℕ) → HasSigns s → IsAlias s u w → (v : ℕ) × (IsSucc (successors_of s.program) u v × Linked (IsSucc (successors_of s.program)) v w)
leads_on s u w g h =
    aliases_are_linked (successors_of s.program) (map head_of s.marks) g.signs u w (omega (arith, h.from, length_map s.program.blocks)) (omega (arith, h.to, length_map s.program.blocks)) h.no_successor h.equal
  where
    length_map : (ks : List HardBlock) → length (map (λ (b : HardBlock). b.successors) ks) ≡ length ks
    length_map [] = refl
    length_map (k ∷ ks) = ap suc (length_map ks)

long_map : (ks : List HardBlock) → length (map (λ (b : HardBlock). b.successors) ks) ≡ length ks
long_map [] = refl
long_map (k ∷ ks) = ap suc (long_map ks)

complete : (s : Signed) (u w : ℕ) → HasSigns s → IsAlias s u w → Contains (listed s.marks 0 s.program.blocks) (u, w)
complete s u w g h =
    let r : (v : ℕ) × (IsSucc (successors_of s.program) u v × Linked (IsSucc (successors_of s.program)) v w) = leads_on s u w g h in
    let two : HasTwo (IsSucc (successors_of s.program)) w = right_two (IsSucc (successors_of s.program)) r.0 w r.1.1 in
    let there : w < length (successors_of s.program) = omega (arith, h.to, long_map s.program.blocks) in
    let fan_head : (head_by s w).fan ≡ true = fans (IsSucc (successors_of s.program)) w (head_by s w) two (g.signs.each w there).reached in
    let fan : (mark_at s.marks w).fan ≡ true = subst (λ (x : Head). x.fan ≡ true) (mapped s.marks w) fan_head in
    let passes : carried (head_of (mark_at s.marks u)) (head_of (mark_at s.marks w)) ≡ (head_of (mark_at s.marks w)).s =
    subst (λ (x : Head). carried (head_of (mark_at s.marks u)) x ≡ x.s) (mapped s.marks w) (subst (λ (x : Head). carried x (head_by s w) ≡ (head_by s w).s) (mapped s.marks u) h.equal) in
    let k : (b : HardBlock) × (slice_get s.program.blocks u ≡ Some b) = block_at s.program.blocks u h.from in
    let zero_u : 0 + u ≡ u = omega arith in
    let zero_w : 0 + w ≡ w = omega arith in
    let member : Contains (members (leaves (mark_at s.marks (0 + u))) 0 s.marks) w =
    subst (λ (z : ℕ). Contains (members (leaves (mark_at s.marks z)) 0 s.marks) w) (sym zero_u) (subst (λ (z : ℕ). Contains (members (leaves (mark_at s.marks u)) 0 s.marks) z) zero_w
    (member_in (leaves (mark_at s.marks u)) 0 s.marks w (omega (arith, h.to, g.one_each)) fan (of_base (mark_at s.marks u) (mark_at s.marks w) fan passes))) in
    let outside : has w k.0.successors ≡ false = elim (cases_Bool (has w k.0.successors)) [
      | inl t ↦ absurd (h.no_successor (subst (λ (xs : List ℕ). Contains xs w) (sym (successors_at s.program.blocks u k.0 k.1)) (has_contains w k.0.successors t)))
      | inr t ↦ t
    ] in
    subst (λ (z : ℕ). Contains (listed s.marks 0 s.program.blocks) (z, w)) zero_u (listed_in s.marks 0 s.program.blocks u w k.0 k.1 member outside)

pub are_aliases : (s : Signed) (pairs : List (ℕ × ℕ)) → HasSigns s → pairs ≡ listed s.marks 0 s.program.blocks → AreAliases s pairs
are_aliases s pairs g e = subst (AreAliases s) (sym e) (record {
  exact = λ u w. (sound s u w g, complete s u w g);
  ascending = in_order (listed s.marks 0 s.program.blocks) (listed_ordered s.marks 0 s.program.blocks);
})

pub are_linked : (s : Signed) (pairs : List (ℕ × ℕ)) → HasSigns s → pairs ≡ listed s.marks 0 s.program.blocks → AreLinked s pairs
are_linked s pairs g e u w c = leads_on s u w g (sound s u w g (subst (λ (ps : List (ℕ × ℕ)). Contains ps (u, w)) e c))

-- The successors of each block are blocks.
pub edges_within : (s : Signed) (ks : List HardBlock) → HasSigns s → ks ≡ s.program.blocks → All (λ k. All (λ w. w < length ks) k.successors) ks
edges_within s ks g e = subst (λ (z : List HardBlock). All (λ k. All (λ w. w < length z) k.successors) z) (sym e) (λ u d l j x m.
    let k : (b : HardBlock) × (slice_get s.program.blocks u ≡ Some b) = block_at s.program.blocks u l in
    let same : get_or s.program.blocks u d ≡ k.0 = read s.program.blocks u d k.0 k.1 in
    let in_k : j < length k.0.successors = subst (λ (b : HardBlock). j < length b.successors) same m in
    let c : Contains k.0.successors (get_or k.0.successors j x) = (j, in_k, get_or_default k.0.successors j (get_or k.0.successors j x) x in_k) in
    let t : get_or k.0.successors j x < length (successors_of s.program) = g.signs.within u (get_or k.0.successors j x) (subst (λ (xs : List ℕ). Contains xs (get_or k.0.successors j x)) (sym (successors_at s.program.blocks u k.0 k.1)) c) in
    subst (λ (b : HardBlock). get_or b.successors j x < length s.program.blocks) (sym same) (subst (λ (n : ℕ). get_or k.0.successors j x < n) (long_map s.program.blocks) t))
  where
    read : (xs : List HardBlock) (u : ℕ) (d k : HardBlock) → slice_get xs u ≡ Some k → get_or xs u d ≡ k
    read [] u d k e = absurd (no_some k e)
    read (x ∷ xs) zero d k e = ap (λ (o : Option HardBlock). held_by o x) e where
      held_by : Option HardBlock → HardBlock → HardBlock
      held_by None y = y
      held_by (Some y) z = y
    read (x ∷ xs) (suc u) d k e = read xs u d k e

-- A list that was begun with nothing.
pub from_nothing : (start out : List (ℕ × ℕ)) (ms marks : List Mark) (ks blocks : List HardBlock) → start ≡ [] → ms ≡ marks → ks ≡ blocks → out ≡ start ++ listed ms 0 ks → out ≡ listed marks 0 blocks
from_nothing start out ms marks ks blocks e f g h =
    h ∙ (ap (λ (z : List (ℕ × ℕ)). z ++ listed ms 0 ks) e ∙ (ap (λ (z : List Mark). listed z 0 ks) f ∙ ap (λ (z : List HardBlock). listed marks 0 z) g))
