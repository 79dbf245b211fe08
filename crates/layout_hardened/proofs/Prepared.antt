-- The marks of a graph fit the fields of the heads, and so a program with them can be laid out.
use Rattle.std.proofs.Common.{◌≡◌, ◌≤◌, ◌<◌, ℕ, suc, ◌+◌, ◌^◌, arith, ap, refl, sym, ◌∙◌, subst, List, length, map, inr}
use Rattle.std.specs.Prelude.{bit_xor, get_or, false}
use Rattle.std.proofs.lemmas.Nat.{xor_of_16}
use Rattle.std.proofs.lemmas.Option.{slice_get-get_or, get_or_from_slice_get}
use Rattle.mips_text.specs.Blocks.{Head}
use Rattle.hard_items.specs.declared.code.Mark.{Mark}
use Rattle.hard_items.specs.declared.code.Signed.{Signed}
use Rattle.sign_law.specs.Graph.{IsSucc}
use Rattle.sign_law.specs.Signs.{IsBase, IsReached, joined, led, entered, Leaves, adjusts, rests, IsSigned, head_at}
use Rattle.sign_law.specs.Marks.{HasSigns, successors_of, head_of}
use Rattle.sign_law.proofs.Signs.{source}
use Rattle.signature_assign.proofs.Premises.{mapped, long_map}
use Rattle.layout_law.specs.Level.{MarkFits}
use Rattle.layout_hardened.specs.Laws.{CanBePrepared}

module _ (S : ℕ → ℕ → Type 0) (n : ℕ) (source_of : (p w : ℕ) → S p w → p < n) (few : n ≤ 65535) where
  small : (k : ℕ) → k < n → k + 1 < 2 ^ 16
  small k h = omega (arith, h, few)

  base_fits : (w base : ℕ) → IsBase S w base → base < 2 ^ 16
  base_fits w base b = subst (λ (z : ℕ). z < 2 ^ 16) (sym b.is) (small b.before (source_of b.before b.first b.leads))

  differs : (u : ℕ) (h : Head) → h.s < 2 ^ 16 → IsReached S u h → h.d < 2 ^ 16
  differs u h k (joined base two b f e) = subst (λ (z : ℕ). z < 2 ^ 16) (sym e) (xor_of_16 base h.s (base_fits u base b) k)
  differs u h k (led p l o f e) = subst (λ (z : ℕ). z < 2 ^ 16) (sym e) (xor_of_16 (p + 1) h.s (small p (source_of p u l)) k)
  differs u h k (entered none f e) = subst (λ (z : ℕ). z < 2 ^ 16) (sym e) k

  leaves : (u : ℕ) (h : Head) → h.s < 2 ^ 16 → Leaves S u h → h.D < 2 ^ 16
  leaves u h k (adjusts w base l two b e) = subst (λ (z : ℕ). z < 2 ^ 16) (sym e) (xor_of_16 h.s base k (base_fits w base b))
  leaves u h k (rests none e) = subst (λ (z : ℕ). z < 2 ^ 16) (sym e) (zero_fits n few)
    where
      zero_fits : (n : ℕ) → n ≤ 65535 → 0 < 2 ^ 16
      zero_fits n h = omega arith

  pub fits : (u : ℕ) (h : Head) → u < n → IsSigned S u h → (h.s < 2 ^ 16) × ((h.d < 2 ^ 16) × (h.D < 2 ^ 16))
  fits u h l g = (sign, (differs u h sign g.reached, leaves u h sign g.leaves))
    where
      sign : h.s < 2 ^ 16
      sign = subst (λ (z : ℕ). z < 2 ^ 16) (sym g.sign) (small u l)

same_default : (ms : List Mark) (k : ℕ) (d e : Mark) → k < length ms → get_or ms k e ≡ get_or ms k d
same_default ms k d e h = get_or_from_slice_get ms k (get_or ms k d) e (slice_get-get_or ms k d h)

pub mark_fits : (s : Signed) → HasSigns s → length s.program.blocks ≤ 65535 → (k : ℕ) (d : Mark) → k < length s.marks → MarkFits (get_or s.marks k d)
mark_fits s g few k d h =
    let there : k < length (successors_of s.program) = subst (λ (z : ℕ). k < z) (g.one_each ∙ sym (long_map s.program.blocks)) h in
    let short : length (successors_of s.program) ≤ 65535 = subst (λ (z : ℕ). z ≤ 65535) (sym (long_map s.program.blocks)) few in
    let is : head_at (map head_of s.marks) k ≡ head_of (get_or s.marks k d) = mapped s.marks k ∙ ap head_of (same_default s.marks k d (record { s = 0; d = 0; fan = false; adjust = 0 }) h) in
    let f : ((head_of (get_or s.marks k d)).s < 2 ^ 16) × (((head_of (get_or s.marks k d)).d < 2 ^ 16) × ((head_of (get_or s.marks k d)).D < 2 ^ 16)) =
    subst (λ (x : Head). (x.s < 2 ^ 16) × ((x.d < 2 ^ 16) × (x.D < 2 ^ 16))) is
    (fits (IsSucc (successors_of s.program)) (length (successors_of s.program)) (source (successors_of s.program)) short k (head_at (map head_of s.marks) k) there (g.signs.each k there)) in
    record { s = f.0; d = f.1.0; adjust = f.1.1 }

pub can_be_prepared : CanBePrepared
can_be_prepared s a calm quiet g few reach size = record {
  laying = record {
    well_formed = a.well_formed;
    formed = a.formed;
    halves = a.halves;
    calm = calm;
    marks = (inr g.one_each, mark_fits s g few);
    reach = reach;
    size = size;
  };
  signs = g;
  lawful = a.lawful;
  never_reports = quiet;
}
