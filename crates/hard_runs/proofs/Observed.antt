-- Being the same observed from outside is reflexive and transitive.
use Rattle.std.proofs.Common.{◌≡◌, ℕ, List, [], ◌++◌, Option, Some, None, option_map, append_assoc, append-nil, ap, refl, sym, ◌∙◌}
use Rattle.hard_runs.specs.Observed.{Prefix, SameReflexive, SameTransitive, SameRenamed}

pub prefix_reflexive : (xs : List ℕ) → Prefix xs xs
prefix_reflexive xs = ([], sym (append-nil xs))

pub prefix_transitive : (xs ys zs : List ℕ) → Prefix xs ys → Prefix ys zs → Prefix xs zs
prefix_transitive xs ys zs p q = (p.0 ++ q.0, q.1 ∙ (ap (λ (l : List ℕ). l ++ q.0) p.1 ∙ append_assoc xs p.0 q.0))

pub same_reflexive : (E : Type 0) → SameReflexive E
same_reflexive E run = record {
  no_more = λ n. prefix_reflexive (run n).output;
  ends = λ n e h. (h, refl);
  comes = λ n. (n, prefix_reflexive (run n).output);
  finishes = λ n e h. (n, h, refl);
}

pub same_transitive : (E : Type 0) → SameTransitive E
same_transitive E low middle high below above = record {
  no_more = λ n. prefix_transitive (low n).output (middle n).output (high n).output (below.no_more n) (above.no_more n);
  ends = λ n e h. let b = below.ends n e h in let a = above.ends n e b.0 in (a.0, a.1 ∙ b.1);
  comes = λ n. let a = above.comes n in let b = below.comes a.0 in (b.0, prefix_transitive (high n).output (middle a.0).output (low b.0).output a.1 b.1);
  finishes = λ n e h. let a = above.finishes n e h in let b = below.finishes a.0 e a.1 in (b.0, b.1, b.2 ∙ a.2);
}

-- an end under another name is the name of an end
named_from : {E F : Type 0} (name : E → F) (o : Option E) (f : F) → option_map name o ≡ Some f → (e : E) × (o ≡ Some e)
named_from name None f h = cc
named_from name (Some e) f h = (e, refl)

pub same_renamed : (E F : Type 0) → SameRenamed E F
same_renamed E F name low high h = record {
  no_more = h.no_more;
  ends = λ n f q.
      let x = named_from name (low n).end f q in
      let y = h.ends n x.0 x.1 in
      (ap (option_map name) y.0 ∙ (sym (ap (option_map name) x.1) ∙ q), y.1);
  comes = h.comes;
  finishes = λ n f q.
      let x = named_from name (high n).end f q in
      let y = h.finishes n x.0 x.1 in
      (y.0, ap (option_map name) y.1 ∙ (sym (ap (option_map name) x.1) ∙ q), y.2);
}
