-- The lists of an image, from the windows of its text and the aliases of its blocks.
use Rattle.std.proofs.Common.{◌≡◌, ◌≤◌, ◌<◌, ℕ, zero, suc, ◌+◌, ◌-◌, ◌*◌, arith, ap, refl, sym, ◌∙◌, subst, List, [], ◌∷◌, length, map, inl, inr}
use Rattle.std.specs.Prelude.{Contains, All, get_or, slice_index}
use Rattle.std.proofs.lemmas.List.FromFn.{length-map-range_with_len, get_or-map-range_with_len}
use Rattle.std.proofs.lemmas.Option.{slice_get-get_or, get_or_from_slice_get}
use Rattle.std.proofs.lemmas.List.{get_or-map}
use Rattle.mips_text.specs.Blocks as text_blocks
use Rattle.mips_text.specs.Blocks.{IsStart, Head, HeadAt, carried}
use Rattle.hard_items.specs.declared.code.Signed.{Signed}
use Rattle.hard_items.specs.Heads.{headed}
use Rattle.hard_items.specs.Ways.{MayFollow}
use Rattle.hard_items.specs.Run.{items_of}
use Rattle.sign_law.specs.Marks.{HasSigns, successors_of, head_of}
use Rattle.sign_law.specs.Signs.{IsLaid, head_at}
use Rattle.signature_assign.proofs.Premises.{follows_succ, succ_follows, long_map}
use Rattle.layout_law.specs.Layout.{address, addresses, text}
use Rattle.layout_law.specs.Level.{Laying}
use Rattle.layout_law.specs.Laws.{StartsAreBlocks}
use Rattle.layout_law.proofs.Texts.{address_next}
use Rattle.layout_law.proofs.Lines.{heads_length}
use Rattle.lint_words.specs.WindowList.{Before, pair_at}
use Rattle.alias_lister.specs.Aliases as blocks
use Rattle.lint_theorem.specs.Hardened.{AreAliases}
use Rattle.layout_hardened.proofs.LaidOut.{graph_laid}
use Rattle.layout_hardened.specs.Laws.{WordsHaveWays}
use Rattle.harden.specs.HardenChainSteps.{addressed}

-- an address is where the addresses have it
address_at : (s : Signed) (b : ℕ) → b < length (headed s).blocks → slice_index (addresses (headed s)) b ≡ address (headed s) b
address_at s b h = get_or-map-range_with_len (address (headed s)) 0 (length (headed s).blocks) b b 0 h (zero_plus b)
  where
    zero_plus : (n : ℕ) → 0 + n ≡ n
    zero_plus n = omega arith

addresses_long : (s : Signed) → length (addresses (headed s)) ≡ length (headed s).blocks
addresses_long s = length-map-range_with_len (address (headed s)) 0 (length (headed s).blocks)

-- ---- lists through a function

length-map : (f : ℕ × ℕ → ℕ × ℕ) (xs : List (ℕ × ℕ)) → length (map f xs) ≡ length xs
length-map f [] = refl
length-map f (x ∷ xs) = ap suc (length-map f xs)

same_default : (xs : List (ℕ × ℕ)) (k : ℕ) (d e : ℕ × ℕ) → k < length xs → get_or xs k e ≡ get_or xs k d
same_default xs k d e h = get_or_from_slice_get xs k (get_or xs k d) e (slice_get-get_or xs k d h)

in_map : (f : ℕ × ℕ → ℕ × ℕ) (xs : List (ℕ × ℕ)) (x : ℕ × ℕ) → Contains xs x → Contains (map f xs) (f x)
in_map f xs x c = (c.0, subst (λ (n : ℕ). c.0 < n) (sym (length-map f xs)) c.1, get_or-map f xs c.0 x (f x) c.1 ∙ ap f c.2)

of_map : (f : ℕ × ℕ → ℕ × ℕ) (xs : List (ℕ × ℕ)) (y : ℕ × ℕ) → Contains (map f xs) y → (x : ℕ × ℕ) × Contains xs x × (f x ≡ y)
of_map f xs y c =
    let h : c.0 < length xs = subst (λ (n : ℕ). c.0 < n) (length-map f xs) c.1 in
    let x : ℕ × ℕ = get_or xs c.0 (0, 0) in
    (x, (c.0, h, same_default xs c.0 (0, 0) x h), sym (get_or-map f xs c.0 (0, 0) y h) ∙ c.2)

pair_of_map : (f : ℕ × ℕ → ℕ × ℕ) (xs : List (ℕ × ℕ)) (k : ℕ) → k < length xs → pair_at (map f xs) k ≡ f (pair_at xs k)
pair_of_map f xs k h = get_or-map f xs k (0, 0) (0, 0) h

-- ---- the aliases

-- where no pair is an alias, none is listed
pub lists_none : (t : List ℕ) (entry : ℕ) (pairs : List (ℕ × ℕ)) → AreAliases t entry pairs → ((u w : ℕ) → text_blocks.IsAlias t entry u w → ⊥) → pairs ≡ []
lists_none t entry [] a none = refl
lists_none t entry (p ∷ pairs) a none = absurd (none p.0 p.1 ((a.exact p.0 p.1).0 (0, omega arith, refl)))

module _ (s : Signed) (l : Laying s) (signs : HasSigns s) (starts : StartsAreBlocks) (ways : WordsHaveWays) (pairs : List (ℕ × ℕ)) (g : blocks.AreAliases s pairs) where
  abbrev count : ℕ
  count = length s.program.blocks

  up : {b : ℕ} → b < count → b < length (headed s).blocks
  up {b} h = subst (λ (n : ℕ). b < n) (sym (heads_length s.program.blocks s.marks)) h

  abbrev place : ℕ → ℕ
  place b = address (headed s) b

  abbrev f : ℕ × ℕ → ℕ × ℕ
  f p = (slice_index (addresses (headed s)) p.0, slice_index (addresses (headed s)) p.1)

  f_is : (p : ℕ × ℕ) → p.0 < count → p.1 < count → f p ≡ (place p.0, place p.1)
  f_is p h k = ap (λ (x : ℕ). (x, slice_index (addresses (headed s)) p.1)) (address_at s p.0 (up h)) ∙ ap (λ (x : ℕ). (place p.0, x)) (address_at s p.1 (up k))

  laid : IsLaid (successors_of s.program) (map head_of s.marks) (text (headed s)) 0x00400000 place
  laid = graph_laid s l signs

  to_text : (u w : ℕ) → blocks.IsAlias s u w → text_blocks.IsAlias (text (headed s)) 0x00400000 (place u) (place w)
  to_text u w a = (ways s l signs u w a.from a.to).1.1 (λ m. a.no_successor (follows_succ s.program u w l.well_formed m), a.equal)

  from_text : (u w : ℕ) → u < count → w < count → text_blocks.IsAlias (text (headed s)) 0x00400000 (place u) (place w) → blocks.IsAlias s u w
  from_text u w h k a =
      let q : (MayFollow s.program u w → ⊥) × (carried (head_at (map head_of s.marks) u) (head_at (map head_of s.marks) w) ≡ (head_at (map head_of s.marks) w).s) = (ways s l signs u w h k).1.0 a in
      record { from = h; to = k; no_successor = λ m. q.0 (succ_follows s.program u w l.well_formed h m); equal = q.1 }

  sound : (u w : ℕ) → Contains (map f pairs) (u, w) → text_blocks.IsAlias (text (headed s)) 0x00400000 u w
  sound u w c =
      let x : (x : ℕ × ℕ) × Contains pairs x × (f x ≡ (u, w)) = of_map f pairs (u, w) c in
      let a : blocks.IsAlias s x.0.0 x.0.1 = (g.exact x.0.0 x.0.1).0 x.1 in
      let e : ◌≡◌ {A = ℕ × ℕ} (place x.0.0, place x.0.1) (u, w) = sym (f_is x.0 a.from a.to) ∙ x.2 in
      subst (λ (p : ℕ × ℕ). text_blocks.IsAlias (text (headed s)) 0x00400000 p.0 p.1) e (to_text x.0.0 x.0.1 a)

  complete : (u w : ℕ) → text_blocks.IsAlias (text (headed s)) 0x00400000 u w → Contains (map f pairs) (u, w)
  complete u w a =
      let b : (b : ℕ) × (b < count) × (u ≡ place b) = (starts s l u).0 a.from in
      let c : (c : ℕ) × (c < count) × (w ≡ place c) = (starts s l w).0 a.to in
      let at : text_blocks.IsAlias (text (headed s)) 0x00400000 (place b.0) (place c.0) =
      subst (λ (x : ℕ). text_blocks.IsAlias (text (headed s)) 0x00400000 x (place c.0)) b.2 (subst (λ (x : ℕ). text_blocks.IsAlias (text (headed s)) 0x00400000 u x) c.2 a) in
      let e : ◌≡◌ {A = ℕ × ℕ} (f (b.0, c.0)) (u, w) = f_is (b.0, c.0) b.1 c.1 ∙ (ap (λ (x : ℕ). (x, place c.0)) (sym b.2) ∙ ap (λ (x : ℕ). (u, x)) (sym c.2)) in
      subst (λ (p : ℕ × ℕ). Contains (map f pairs) p) e (in_map f pairs (b.0, c.0) ((g.exact b.0 c.0).1 (from_text b.0 c.0 b.1 c.1 at)))

  -- addresses ascend with blocks

  upward : (d u : ℕ) → u + d < count → place u ≤ place (u + d)
  upward zero u h = subst (λ (x : ℕ). place u ≤ place x) (plus_zero u) (same (place u))
    where
      plus_zero : (n : ℕ) → n ≡ n + 0
      plus_zero n = omega arith

      same : (n : ℕ) → n ≤ n
      same n = omega arith
  upward (suc d) u h = subst (λ (x : ℕ). place u ≤ place x) (shift u d)
      (by (place u) (place (u + d)) (place ((u + d) + 1)) (length (items_of (headed s) (u + d))) (upward d u (less u d count h)) (address_next (headed s) (u + d) (up (less u d count h))))
    where
      shift : (u d : ℕ) → (u + d) + 1 ≡ u + suc d
      shift u d = omega arith

      less : (u d c : ℕ) → u + suc d < c → u + d < c
      less u d c h = omega arith

      by : (a b c n : ℕ) → a ≤ b → c ≡ b + 4 * n → a ≤ c
      by a b c n h e = omega (arith, h, e)

  before : (u w : ℕ) → u < w → w < count → place u < place w
  before u w h k = strict (place u) (place w) (λ e. not_same u w h (laid.apart u w (there u (less u w count h k)) (there w k) e)) not_above
    where
      there : (b : ℕ) → b < count → b < length (successors_of s.program)
      there b h = subst (λ (n : ℕ). b < n) (sym (long_map s.program.blocks)) h

      less : (u w c : ℕ) → u < w → w < c → u < c
      less u w c h k = omega arith

      not_same : (u w : ℕ) → u < w → u ≡ w → ⊥
      not_same u w h e = omega arith

      rest : (u w : ℕ) → u < w → (d : ℕ) × (w ≡ u + d)
      rest u w h = (w - u, omega (arith, h))

      not_above : place u ≤ place w
      not_above = let d : (d : ℕ) × (w ≡ u + d) = rest u w h in subst (λ (x : ℕ). place u ≤ place x) (sym d.1) (upward d.0 u (subst (λ (x : ℕ). x < count) d.1 k))

      strict : (a b : ℕ) → (a ≡ b → ⊥) → a ≤ b → a < b
      strict a b n h = omega (arith, n, h)

  there_at : (k : ℕ) → k < length pairs → blocks.IsAlias s (pair_at pairs k).0 (pair_at pairs k).1
  there_at k h = (g.exact (pair_at pairs k).0 (pair_at pairs k).1).0 (k, h, same_default pairs k (0, 0) (pair_at pairs k) h)

  ascends : (j k : ℕ) → j < k → k < length (map f pairs) → Before (pair_at (map f pairs) j) (pair_at (map f pairs) k)
  ascends j k h n =
      let kp : k < length pairs = subst (λ (x : ℕ). k < x) (length-map f pairs) n in
      let jp : j < length pairs = less j k (length pairs) h kp in
      let a : blocks.IsAlias s (pair_at pairs j).0 (pair_at pairs j).1 = there_at j jp in
      let b : blocks.IsAlias s (pair_at pairs k).0 (pair_at pairs k).1 = there_at k kp in
      let ej : pair_at (map f pairs) j ≡ (place (pair_at pairs j).0, place (pair_at pairs j).1) = pair_of_map f pairs j jp ∙ f_is (pair_at pairs j) a.from a.to in
      let ek : pair_at (map f pairs) k ≡ (place (pair_at pairs k).0, place (pair_at pairs k).1) = pair_of_map f pairs k kp ∙ f_is (pair_at pairs k) b.from b.to in
      subst (λ (p : ℕ × ℕ). Before p (pair_at (map f pairs) k)) (sym ej) (subst (λ (p : ℕ × ℕ). Before (place (pair_at pairs j).0, place (pair_at pairs j).1) p) (sym ek)
      (elim (g.ascending j k h kp) as (λ z. Before (place (pair_at pairs j).0, place (pair_at pairs j).1) (place (pair_at pairs k).0, place (pair_at pairs k).1)) [
        | inl x ↦ inl (before (pair_at pairs j).0 (pair_at pairs k).0 x b.from)
        | inr x ↦ inr (ap place x.0, before (pair_at pairs j).1 (pair_at pairs k).1 x.1 b.to)
      ]))
    where
      less : (j k n : ℕ) → j < k → k < n → j < n
      less j k n h l = omega arith

  pub text_aliases : AreAliases (text (headed s)) 0x00400000 (addressed (addresses (headed s)) pairs)
  text_aliases = record { exact = λ u w. (sound u w, complete u w); ascending = ascends }

  -- the blocks of a pair have addresses
  pub pairs_there : All (λ p. (p.0 < length (addresses (headed s))) × (p.1 < length (addresses (headed s)))) pairs
  pairs_there k d h =
      let a : blocks.IsAlias s (get_or pairs k d).0 (get_or pairs k d).1 = (g.exact (get_or pairs k d).0 (get_or pairs k d).1).0 (k, h, same_default pairs k d (get_or pairs k d) h) in
      (subst (λ (n : ℕ). (get_or pairs k d).0 < n) (sym (addresses_long s)) (up a.from), subst (λ (n : ℕ). (get_or pairs k d).1 < n) (sym (addresses_long s)) (up a.to))
