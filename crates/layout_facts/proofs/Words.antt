-- The aliases by blocks are those of the words.
use Rattle.std.proofs.Common.{◌≡◌, ◌≢◌, ◌≤◌, ◌<◌, ℕ, zero, suc, ◌+◌, ◌-◌, arith, ap, refl, sym, ◌∙◌, subst, List, [], ◌∷◌, length, map, get_or, inl, inr}
use Rattle.std.specs.Prelude.{◌⊎◌, ◌↔◌}
use Rattle.std.specs.List.{Contains}
use Rattle.std.proofs.lemmas.List.{length-map}
use Rattle.std.proofs.lemmas.List.Elements.{Contains-get_or}
use Rattle.mips_text.specs.Blocks as words
use Rattle.mips_text.specs.Blocks.{Head, carried}
use Rattle.hard_items.specs.declared.code.HardBlock.{HardBlock}
use Rattle.hard_items.specs.declared.code.Signed.{Signed}
use Rattle.hard_items.specs.Heads.{headed}
use Rattle.sign_law.specs.Graph.{IsSucc}
use Rattle.sign_law.specs.Signs.{IsLaid, head_at}
use Rattle.sign_law.specs.Marks.{successors_of, head_of, HasSigns}
use Rattle.sign_law.proofs.Laid.{laid_aliases, laid_aliases_are_linked, laid_signs_differ}
use Rattle.layout_law.specs.Layout.{address, text}
use Rattle.layout_law.specs.Level.{Laying}
use Rattle.layout_law.proofs.Lines.{heads_length}
use Rattle.layout_law.proofs.Laying.{can_be_laid}
use Rattle.layout_law.proofs.Step.{grows}
use Rattle.alias_lister.specs.Aliases.{IsAlias, AreAliases, Before, pair_at, head_by}
use Rattle.layout_facts.proofs.LaidSignsWhole.{signed_is_laid}
use Rattle.layout_facts.specs.Words.{AreWordAliases, addresses_of, AliasesOfWords, SignsOfWords}

-- ---- lists

map_has : (f : ℕ × ℕ → ℕ × ℕ) (xs : List (ℕ × ℕ)) (x : ℕ × ℕ) → Contains xs x → Contains (map f xs) (f x)
map_has f [] x c = absurd (no c.0 c.1)
  where
    no : (n : ℕ) → n < 0 → ⊥
    no n h = omega arith
map_has f (y ∷ xs) x (zero, l, e) = (0, up (length (map f xs)), ap f e)
  where
    up : (n : ℕ) → 0 < suc n
    up n = omega arith
map_has f (y ∷ xs) x (suc k, l, e) =
    let c : Contains (map f xs) (f x) = map_has f xs x (k, less k (length xs) l, e) in
    (suc c.0, up c.0 (length (map f xs)) c.1, c.2)
  where
    less : (a b : ℕ) → suc a < suc b → a < b
    less a b h = omega arith

    up : (a b : ℕ) → a < b → suc a < suc b
    up a b h = omega arith

has_map : (f : ℕ × ℕ → ℕ × ℕ) (xs : List (ℕ × ℕ)) (y : ℕ × ℕ) → Contains (map f xs) y → (x : ℕ × ℕ) × (Contains xs x × (f x ≡ y))
has_map f [] y c = absurd (no c.0 c.1)
  where
    no : (n : ℕ) → n < 0 → ⊥
    no n h = omega arith
has_map f (x ∷ xs) y (zero, l, e) = (x, ((0, up (length xs), refl), e))
  where
    up : (n : ℕ) → 0 < suc n
    up n = omega arith
has_map f (x ∷ xs) y (suc k, l, e) =
    let c : (x : ℕ × ℕ) × (Contains xs x × (f x ≡ y)) = has_map f xs y (k, less k (length (map f xs)) l, e) in
    (c.0, ((suc c.1.0.0, up c.1.0.0 (length xs) c.1.0.1, c.1.0.2), c.1.1))
  where
    less : (a b : ℕ) → suc a < suc b → a < b
    less a b h = omega arith

    up : (a b : ℕ) → a < b → suc a < suc b
    up a b h = omega arith

map_at : (f : ℕ × ℕ → ℕ × ℕ) (xs : List (ℕ × ℕ)) (k : ℕ) → k < length xs → pair_at (map f xs) k ≡ f (pair_at xs k)
map_at f [] k h = absurd (no k h)
  where
    no : (n : ℕ) → n < 0 → ⊥
    no n h = omega arith
map_at f (x ∷ xs) zero h = refl
map_at f (x ∷ xs) (suc k) h = map_at f xs k (less k (length xs) h)
  where
    less : (a b : ℕ) → suc a < suc b → a < b
    less a b h = omega arith

long_map : (ks : List HardBlock) → length (map (λ (b : HardBlock). b.successors) ks) ≡ length ks
long_map [] = refl
long_map (k ∷ ks) = ap suc (long_map ks)

module _ (s : Signed) (l : Laying s) (g : HasSigns s) where
  laid : IsLaid (successors_of s.program) (map head_of s.marks) (text (headed s)) 0x00400000 (address (headed s))
  laid = signed_is_laid s l g

  in_graph : (u : ℕ) → u < length s.program.blocks → u < length (successors_of s.program)
  in_graph u h = subst (λ (z : ℕ). u < z) (sym (long_map s.program.blocks)) h

  of_graph : (u : ℕ) → u < length (successors_of s.program) → u < length s.program.blocks
  of_graph u h = subst (λ (z : ℕ). u < z) (long_map s.program.blocks) h

  to_words : (u w : ℕ) → IsAlias s u w → words.IsAlias (text (headed s)) 0x00400000 (address (headed s) u) (address (headed s) w)
  to_words u w h = (laid_aliases (successors_of s.program) (map head_of s.marks) (text (headed s)) 0x00400000 (address (headed s)) laid u w (in_graph u h.from) (in_graph w h.to)).1 (h.no_successor, h.equal)

  of_words : (a b : ℕ) → words.IsAlias (text (headed s)) 0x00400000 a b → (u : ℕ) × ((w : ℕ) × (IsAlias s u w × ((address (headed s) u ≡ a) × (address (headed s) w ≡ b))))
  of_words a b h =
      let u : (u : ℕ) × ((u < length (successors_of s.program)) × (a ≡ address (headed s) u)) = laid.block a h.from in
      let w : (w : ℕ) × ((w < length (successors_of s.program)) × (b ≡ address (headed s) w)) = laid.block b h.to in
      let k : words.IsAlias (text (headed s)) 0x00400000 (address (headed s) u.0) (address (headed s) w.0) =
      subst (λ (z : ℕ). words.IsAlias (text (headed s)) 0x00400000 z (address (headed s) w.0)) u.1.1 (subst (λ (z : ℕ). words.IsAlias (text (headed s)) 0x00400000 a z) w.1.1 h) in
      let r : (IsSucc (successors_of s.program) u.0 w.0 → ⊥) × (carried (head_by s u.0) (head_by s w.0) ≡ (head_by s w.0).s) =
      (laid_aliases (successors_of s.program) (map head_of s.marks) (text (headed s)) 0x00400000 (address (headed s)) laid u.0 w.0 u.1.0 w.1.0).0 k in
      (u.0, (w.0, (record { from = of_graph u.0 u.1.0; to = of_graph w.0 w.1.0; no_successor = r.0; equal = r.1 }, (sym u.1.1, sym w.1.1))))

  up : (u w : ℕ) → u < w → w < length s.program.blocks → address (headed s) u < address (headed s) w
  up u w h k = subst (λ (z : ℕ). address (headed s) u < address (headed s) z) (whole u w h) (grows (headed s) (can_be_laid s l) u (w - u - 1) (subst (λ (z : ℕ). z ≤ length (headed s).blocks) (sym (whole u w h)) (subst (λ (z : ℕ). w ≤ z) (sym (heads_length s.program.blocks s.marks)) (weak w (length s.program.blocks) k))))
    where
      whole : (u w : ℕ) → u < w → u + suc (w - u - 1) ≡ w
      whole u w h = omega arith

      weak : (a b : ℕ) → a < b → a ≤ b
      weak a b h = omega arith

  before : (p q : ℕ × ℕ) → q.0 < length s.program.blocks → q.1 < length s.program.blocks → Before p q → Before (addresses_of s p) (addresses_of s q)
  before p q h k (inl e) = inl (up p.0 q.0 e h)
  before p q h k (inr e) = inr (ap (address (headed s)) e.0, up p.1 q.1 e.1 k)

  pub of_pairs : (pairs : List (ℕ × ℕ)) → AreAliases s pairs → AreWordAliases (text (headed s)) 0x00400000 (map (addresses_of s) pairs)
  of_pairs pairs a = record {
    exact = λ x y. (sound x y, complete x y);
    ascending = λ j k h m. ascends j k h (subst (λ (z : ℕ). k < z) (length-map pairs (addresses_of s)) m);
    linked = λ x y c. laid_aliases_are_linked (successors_of s.program) (map head_of s.marks) (text (headed s)) 0x00400000 (address (headed s)) g.signs laid x y (sound x y c);
  }
    where
      sound : (x y : ℕ) → Contains (map (addresses_of s) pairs) (x, y) → words.IsAlias (text (headed s)) 0x00400000 x y
      sound x y c =
          let p : (p : ℕ × ℕ) × (Contains pairs p × (◌≡◌ {A = ℕ × ℕ} (addresses_of s p) (x, y))) = has_map (addresses_of s) pairs (x, y) c in
          subst (λ (z : ℕ × ℕ). words.IsAlias (text (headed s)) 0x00400000 z.0 z.1) p.1.1 (to_words p.0.0 p.0.1 ((a.exact p.0.0 p.0.1).0 p.1.0))

      complete : (x y : ℕ) → words.IsAlias (text (headed s)) 0x00400000 x y → Contains (map (addresses_of s) pairs) (x, y)
      complete x y h =
          let k : (u : ℕ) × ((w : ℕ) × (IsAlias s u w × ((address (headed s) u ≡ x) × (address (headed s) w ≡ y)))) = of_words x y h in
          let c : Contains pairs (k.0, k.1.0) = (a.exact k.0 k.1.0).1 k.1.1.0 in
          subst (λ (z : ℕ). Contains (map (addresses_of s) pairs) (z, y)) k.1.1.1.0 (subst (λ (z : ℕ). Contains (map (addresses_of s) pairs) (address (headed s) k.0, z)) k.1.1.1.1 (map_has (addresses_of s) pairs (k.0, k.1.0) c))

      ascends : (j k : ℕ) → j < k → k < length pairs → Before (pair_at (map (addresses_of s) pairs) j) (pair_at (map (addresses_of s) pairs) k)
      ascends j k h m =
          let q : ℕ × ℕ = pair_at pairs k in
          let i : IsAlias s (pair_at pairs k).0 (pair_at pairs k).1 = (a.exact (pair_at pairs k).0 (pair_at pairs k).1).0 (Contains-get_or pairs k (0, 0) m) in
          subst (λ (z : ℕ × ℕ). Before z (pair_at (map (addresses_of s) pairs) k)) (sym (map_at (addresses_of s) pairs j (trans j k (length pairs) h m)))
          (subst (λ (z : ℕ × ℕ). Before (addresses_of s (pair_at pairs j)) z) (sym (map_at (addresses_of s) pairs k m)) (before (pair_at pairs j) (pair_at pairs k) i.from i.to (a.ascending j k h m)))
        where
          trans : (a b c : ℕ) → a < b → b < c → a < c
          trans a b c h k = omega arith

pub aliases_of_words : AliasesOfWords
aliases_of_words s pairs l g a = of_pairs s l g pairs a

pub signs_of_words : SignsOfWords
signs_of_words s l g a b x y = laid_signs_differ (successors_of s.program) (map head_of s.marks) (text (headed s)) 0x00400000 (address (headed s)) g.signs (signed_is_laid s l g) a b x y
