-- A machine that comes to all that another run shows is the same observed from outside.
use Rattle.std.proofs.Common.{◌≡◌, ℕ, ◌≤◌, [], Option, Some, None, refl, sym, ap, ◌∙◌, subst, ⊎_elim, arith, append-nil}
use Rattle.std.proofs.lemmas.Bool.{cases_lt}
use Rattle.hard_runs.specs.Observed.{Observation, Prefix, SameObserved, IsMachine, MetAt, SameWhereMet}

module _ {E : Type 0} (low high : Observation E) (machine : IsMachine low) (met : (n : ℕ) → MetAt low (high n) n) where
  none_some : (e : E) (o : Option E) → o ≡ None → o ≡ Some e → ⊥
  none_some e o p q = let x : None ≡ Some e = sym p ∙ q in cc

  pub record Before (n : ℕ) : Type 0 where
    pub no_more : Prefix (low n).output (high n).output
    pub ends : (e : E) → (low n).end ≡ Some e → ((high n).end ≡ Some e) × ((high n).output ≡ (low n).output)

  before : (n : ℕ) → Before n
  before n = by (high n).end refl
    where
      in_time : (m : MetAt low (high n) n) → n ≤ m.steps → Before n
      in_time m le = record {
        no_more = subst (λ o. Prefix (low n).output o) m.output_is (machine.grows n m.steps le);
        ends = λ e h. let same = machine.stays n m.steps e le h in (sym m.end_is ∙ ap (λ x. x.end) same ∙ h, sym m.output_is ∙ ap (λ x. x.output) same);
      }

      late : (m : MetAt low (high n) n) (e : E) → (high n).end ≡ Some e → m.steps ≤ n → Before n
      late m e is le =
          let same = machine.stays m.steps n e le (m.end_is ∙ is) in
          let out : (low n).output ≡ (high n).output = ap (λ x. x.output) same ∙ m.output_is in
          record {
            no_more = ([], sym out ∙ sym (append-nil (low n).output));
            ends = λ e' h. (sym m.end_is ∙ ap (λ x. x.end) (sym same) ∙ h, sym out);
          }

      by : (o : Option E) → (high n).end ≡ o → Before n
      by None is = in_time (met n) ((met n).enough is)
      by (Some e) is = ⊎_elim (λ lt. in_time (met n) (omega (arith, lt))) (λ le. late (met n) e is le) (cases_lt n (met n).steps)

  met_everywhere : SameObserved low high
  met_everywhere = record {
    no_more = λ n. (before n).no_more;
    ends = λ n e h. (before n).ends e h;
    comes = λ n. let m = met n in (m.steps, ([], m.output_is ∙ sym (append-nil (high n).output)));
    finishes = λ n e h. let m = met n in (m.steps, m.end_is ∙ h, m.output_is);
  }

pub same_where_met : (E : Type 0) → SameWhereMet E
same_where_met E low high machine met = met_everywhere low high machine met
