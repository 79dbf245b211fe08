-- Smooth programs have no aliases.
use Rattle.std.proofs.Common.{◌≡◌, ◌<◌, ℕ, arith, refl, ◌∙◌, List, [], ◌∷◌, map}
use Rattle.std.specs.Prelude.{Contains}
use Rattle.hard_items.specs.declared.code.Signed.{Signed}
use Rattle.hard_items.specs.Heads.{headed}
use Rattle.sign_law.specs.Graph.{IsSucc, Linked, self, further}
use Rattle.sign_law.specs.Signs.{IsSmooth}
use Rattle.sign_law.specs.Marks.{successors_of, head_of}
use Rattle.sign_law.proofs.Groups.{right_two}
use Rattle.sign_law.proofs.Signs as signs
use Rattle.alias_lister.specs.Aliases.{IsAlias, AreAliases}
use Rattle.layout_law.specs.Layout.{text}
use Rattle.signature_assign.proofs.Premises.{long_map}
use Rattle.layout_facts.specs.Words.{AreWordAliases, addresses_of}
use Rattle.layout_facts.proofs.Words.{aliases_of_words}
use Rattle.layout_moves_law.specs.Smooth.{GroupsAreOne, SmoothHasNoAlias, SmoothListsNone, SmoothWordsHaveNoAlias}
use Rattle.layout_moves_law.proofs.Edges.{smooth_of}

one_block : (S : ℕ → ℕ → Type 0) → IsSmooth S → (v w : ℕ) → Linked S v w → w ≡ v
one_block S k v z (self w t e) = e
one_block S k v z (further w x p l a b t) = k p x w a (right_two S v x l) b ∙ one_block S k v x l

pub groups_are_one : GroupsAreOne
groups_are_one p n v w l = one_block (IsSucc (successors_of p)) (smooth_of (IsSucc (successors_of p)) n) v w l

pub smooth_has_no_alias : SmoothHasNoAlias
smooth_has_no_alias s g n u w a =
    signs.smooth_has_none (successors_of s.program) (map head_of s.marks) g.signs (smooth_of (IsSucc (successors_of s.program)) n) u w
    (omega (arith, a.from, long_map s.program.blocks)) (omega (arith, a.to, long_map s.program.blocks)) a.no_successor a.equal

none_in : (x : ℕ × ℕ) → Contains [] x → ⊥
none_in x c = omega (arith, c.1)

first_in : (x : ℕ × ℕ) (xs : List (ℕ × ℕ)) → Contains (x ∷ xs) x
first_in x xs = (0, omega arith, refl)

no_pairs : (xs : List (ℕ × ℕ)) → ((u w : ℕ) → Contains xs (u, w) → ⊥) → xs ≡ []
no_pairs [] n = refl
no_pairs (x ∷ xs) n = absurd (n x.0 x.1 (first_in x xs))

pub smooth_lists_none : SmoothListsNone
smooth_lists_none s pairs g n a = no_pairs pairs (λ u w c. smooth_has_no_alias s g n u w ((a.exact u w).0 c))

-- The empty list is that of the aliases.
are_none : (s : Signed) → ((u w : ℕ) → IsAlias s u w → ⊥) → AreAliases s []
are_none s n = record {
  exact = λ u w. ((λ c. absurd (none_in (u, w) c)), (λ a. absurd (n u w a)));
  ascending = λ j k h l. absurd (no k l);
}
  where
    no : (k : ℕ) → k < 0 → ⊥
    no k h = omega arith

pub smooth_words_have_no_alias : SmoothWordsHaveNoAlias
smooth_words_have_no_alias s l g n a b x =
    let w : AreWordAliases (text (headed s)) 0x00400000 (map (addresses_of s) []) = aliases_of_words s [] l g (are_none s (smooth_has_no_alias s g n)) in
    none_in (a, b) ((w.exact a b).1 x)
