-- Extents that grow: what one more position, line or block brings.
use Rattle.std.proofs.Common.{◌≡◌, ℕ, ◌+◌, ◌<◌, min, max, List, [], ◌∷◌, length, Option, Some, None, refl, sym, ap, ◌∙◌, subst, arith, inl, inr, get_or, length-set, length-append}
use Rattle.std.specs.Prelude.{slice_get, slice_set, ◌⊎◌, Result, Ok, Err, OnOk}
use Rattle.std.specs.List.{All, Contains}
use Rattle.std.proofs.lemmas.Bool.{cases_eq, cases_lt}
use Rattle.std.proofs.lemmas.List.{get_or-set_same, get_or-set_other, get_or_append_left, get_or-append-add, get_or_default, get_or_read}
use Rattle.std.proofs.lemmas.Option.{get_or_from_slice_get}
use Rattle.mid_blocks.specs.declared.code.MidFunction.{MidFunction}
use Rattle.mid_blocks.specs.Lines.{Line, line_reads, line_writes, one_or_none, lines, first_of}
use Rattle.mid_blocks.specs.Liveness.{LineAt}
use Rattle.mid_blocks.specs.Valid.{ValidFunction, line_variables}
use Rattle.register_liveness.specs.declared.extents.Extent.{Extent}
use Rattle.std.proofs.lemmas.List.Elements.{Contains-get_or}
use Rattle.register_liveness.specs.Blocks.{AreFirsts}
use Rattle.register_liveness.specs.Met.{IsMet, by_read, by_write, Holds, widened, Held, AreMet, Widens, HasLine, HasLines, HasBlock}
use Rattle.mid_blocks.proofs.Positions.{get_within}

holds_widened : (o : Option Extent) (at p : ℕ) → Holds o p → Holds (widened o at) p
holds_widened None at p h = absurd h
holds_widened (Some e) at p h = (omega arith, omega arith)

pub holds_here : (o : Option Extent) (at : ℕ) → Holds (widened o at) at
holds_here None at = (omega arith, omega arith)
holds_here (Some e) at = (omega arith, omega arith)

either_end : (P : ℕ → Type 0) (x y z : ℕ) → (z ≡ x) ⊎ (z ≡ y) → P x → P y → P z
either_end P x y z (inl e) px py = subst P (sym e) px
either_end P x y z (inr e) px py = subst P (sym e) py

min_is : (x y : ℕ) → (min x y ≡ x) ⊎ (min x y ≡ y)
min_is x y = elim (cases_lt x y) [ inl l ↦ inl (omega arith) | inr g ↦ inr (omega arith) ]

max_is : (x y : ℕ) → (max x y ≡ x) ⊎ (max x y ≡ y)
max_is x y = elim (cases_lt x y) [ inl l ↦ inr (omega arith) | inr g ↦ inl (omega arith) ]

module _ (f : MidFunction) where
  ends_widened : (v at : ℕ) (o : Option Extent) (e : Extent) → widened o at ≡ Some e → ((e0 : Extent) → o ≡ Some e0 → IsMet f v e0.from × IsMet f v e0.to) → IsMet f v at → IsMet f v e.from × IsMet f v e.to
  ends_widened v at None e h ends met =
      let new : Extent = record { from = at; to = at } in
      let same : new ≡ e = cc in
      subst (λ (x : Extent). IsMet f v x.from × IsMet f v x.to) same (met, met)
  ends_widened v at (Some e0) e h ends met =
      let new : Extent = record { from = min e0.from at; to = max e0.to at } in
      let same : new ≡ e = cc in
      let old = ends e0 refl in
      subst (λ (x : Extent). IsMet f v x.from × IsMet f v x.to) same
      (either_end (IsMet f v) e0.from at (min e0.from at) (min_is e0.from at) old.0 met, either_end (IsMet f v) e0.to at (max e0.to at) (max_is e0.to at) old.1 met)

  pub widens_set : (xs : List (Option Extent)) (v at : ℕ) → AreMet f xs → v < f.variables → IsMet f v at → Widens f xs (slice_set xs v (widened (get_or xs v None) at))
  widens_set xs v at are l met =
      let lv : v < length xs = omega (arith, are.one_each) in
      let there : get_or (slice_set xs v (widened (get_or xs v None) at)) v None ≡ widened (get_or xs v None) at = get_or-set_same xs v (widened (get_or xs v None) at) None lv in
      record {
        met = record {
          one_each = length-set xs v (widened (get_or xs v None) at) ∙ are.one_each;
          ends = λ u e h. elim (cases_eq u v) [
            | inl s ↦ subst (λ (x : ℕ). IsMet f x e.from × IsMet f x e.to) (sym s)
                (ends_widened v at (get_or xs v None) e (sym there ∙ ap (λ i. get_or (slice_set xs v (widened (get_or xs v None) at)) i None) (sym s) ∙ h) (are.ends v) met)
            | inr n ↦ are.ends u e (sym (get_or-set_other xs v u (widened (get_or xs v None) at) None n) ∙ h)
          ];
        };
        kept = λ u p h. elim (cases_eq u v) [
          | inl s ↦ subst (λ (x : ℕ). Held (slice_set xs v (widened (get_or xs v None) at)) x p) (sym s)
              (subst (λ (o : Option Extent). Holds o p) (sym there) (holds_widened (get_or xs v None) at p (subst (λ (x : ℕ). Held xs x p) s h)))
          | inr n ↦ subst (λ (o : Option Extent). Holds o p) (sym (get_or-set_other xs v u (widened (get_or xs v None) at) None n)) h
        ];
      }

  pub held_set : (xs : List (Option Extent)) (v at : ℕ) → v < length xs → Held (slice_set xs v (widened (get_or xs v None) at)) v at
  held_set xs v at l = subst (λ (o : Option Extent). Holds o at) (sym (get_or-set_same xs v (widened (get_or xs v None) at) None l)) (holds_here (get_or xs v None) at)

  -- ---- lines

  pub reads_met : ValidFunction f → (at : ℕ) (line : Line) → LineAt f at line → All (λ v. (v < f.variables) × IsMet f v at) (line_reads line)
  reads_met valid at line there k d l =
      let exist = valid.variables_exist at line (get_within (lines f) at line there) in
      let same : get_or (lines f) at line ≡ line = get_or_from_slice_get (lines f) at line line there in
      let all = subst (λ (x : Line). All (λ v. v < f.variables) (line_variables x)) same exist in
      let in_front : get_or (line_variables line) k d ≡ get_or (line_reads line) k d = get_or_append_left (line_reads line) (one_or_none (line_writes line)) d k l in (
        subst (λ (x : ℕ). x < f.variables) in_front (all k d (omega (arith, length-append (line_reads line) (one_or_none (line_writes line))))),
        by_read at line there (k, l, get_or_default (line_reads line) k (get_or (line_reads line) k d) d l),
      )

  pub write_met : ValidFunction f → (at v : ℕ) (line : Line) → LineAt f at line → line_writes line ≡ Some v → (v < f.variables) × IsMet f v at
  write_met valid at v line there w =
      let exist = valid.variables_exist at line (get_within (lines f) at line there) in
      let same : get_or (lines f) at line ≡ line = get_or_from_slice_get (lines f) at line line there in
      let all = subst (λ (x : Line). All (λ v. v < f.variables) (line_variables x)) same exist in
      let one : one_or_none (line_writes line) ≡ v ∷ [] = ap one_or_none w in
      let at_end : get_or (line_variables line) (length (line_reads line) + 0) v ≡ v = get_or-append-add (line_reads line) (one_or_none (line_writes line)) 0 v ∙ ap (λ (xs : List ℕ). get_or xs 0 v) one in
      (subst (λ (x : ℕ). x < f.variables) at_end (all (length (line_reads line) + 0) v (omega (arith, length-append (line_reads line) (one_or_none (line_writes line)), ap length one))), by_write at line there w)

  pub line_kept : (xs ys : List (Option Extent)) (at : ℕ) (line : Line) → ((v p : ℕ) → Held xs v p → Held ys v p) → HasLine xs at line → HasLine ys at line
  line_kept xs ys at line kept h = record { reads = λ k d l. kept (get_or (line_reads line) k d) at (h.reads k d l); writes = λ v w. kept v at (h.writes v w) }

  pub lines_more : (xs ys : List (Option Extent)) (n m : ℕ) (line : Line) → m ≡ n + 1 → LineAt f n line → HasLines f xs n → ((v p : ℕ) → Held xs v p → Held ys v p) → HasLine ys n line → HasLines f ys m
  lines_more xs ys n m line e there h kept one at line' l there' = elim (cases_lt at n) [
    | inl lt ↦ line_kept xs ys at line' kept (h at line' lt there')
    | inr ge ↦
        let same : n ≡ at = omega arith in
        let lines_same : Some line ≡ Some line' = sym there ∙ ap (slice_get (lines f)) same ∙ there' in
        let line_same : line ≡ line' = cc in
        subst (λ (x : Line). HasLine ys at x) line_same (subst (λ (k : ℕ). HasLine ys k line) same one)
  ]

  pub first_read : (firsts : List ℕ) (b x : ℕ) → AreFirsts f firsts → b < length f.blocks → x ≡ get_or firsts b x → x ≡ first_of f b
  first_read firsts b x are l h = get_or_read firsts b x (omega (arith, are.one_each)) h 0 ∙ are.each b l

  pub block_kept : (xs ys : List (Option Extent)) (v b : ℕ) → ((u p : ℕ) → Held xs u p → Held ys u p) → HasBlock f xs v b → HasBlock f ys v b
  block_kept xs ys v b kept h = record { first = kept v (first_of f b) h.first; lasts = λ p block is c. kept v (first_of f p + length block.steps) (h.lasts p block is c) }

-- a block of the list of those that lead to a block
pub leads : (lists : List (List ℕ)) (b k : ℕ) (x ys : List ℕ) → b < length lists → x ≡ get_or lists b x → ys ≡ x → k < length ys → (ys ≡ get_or lists b []) × Contains (get_or lists b []) (get_or ys k 0)
leads lists b k x ys l h e lk = let same : ys ≡ get_or lists b [] = e ∙ get_or_read lists b x l h [] in (same, subst (λ (zs : List ℕ). Contains zs (get_or ys k 0)) same (Contains-get_or ys k 0 lk))

pub on_ok_both : {T E : Type 0} (r : Result T E) (P Q R : Type 0) → (P → Q → R) → OnOk r P → OnOk r Q → OnOk r R
on_ok_both (Ok x) P Q R h p q = h p q
on_ok_both (Err e) P Q R h p q = p
