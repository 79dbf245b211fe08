-- What setting the checks keeps, from the run that is kept and the forms.
use Rattle.std.proofs.Common.{◌≡◌, ◌≢◌, ◌≤◌, ◌<◌, ℕ, zero, suc, ◌+◌, arith, ap, refl, sym, ◌∙◌, subst, List, [], ◌∷◌, ◌++◌, length, map, Bool, true, false, inl, inr, ⊎_elim}
use Rattle.std.specs.Prelude.{Option, Some, None, ◌⊎◌, slice_get, Contains}
use Rattle.hard_runs.specs.Observed.{SameObserved}
use Rattle.hard_words.specs.Words.{AreWords}
use Rattle.hard_runs.specs.Stepping.{Always}
use Rattle.mips_isa.specs.declared.instr.End.TheVariants.{Reported}
use Rattle.hard_items.specs.declared.code.Item.{Item}
use Rattle.hard_items.specs.declared.code.HardBlock.{HardBlock}
use Rattle.hard_items.specs.declared.code.HardProgram.{HardProgram}
use Rattle.hard_items.specs.Run.{items, items_of, first_spot, item_run, block_items}
use Rattle.hard_items.specs.Forms.{Formed, HalvesPair, Each}
use Rattle.hard_items.specs.Rules.{Guarded, Checked, Twin}
use Rattle.hard_items.specs.Keeping.{OnlyAdds}
use Rattle.hard_laws.proofs.Keeping.{well_formed_stays, halves_call}
use Rattle.compare_pass.specs.Guarding.{with_checks, checked_block, checked_program}
use Rattle.hard_items.specs.Runs.{SameRuns}
use Rattle.compare_pass.specs.Law.{SameCounts}
use Rattle.compare_pass.proofs.Keeps.{IsGuarded, Shaped, SlotsFit, Good, guard_keeps}
use Rattle.compare_pass.proofs.Counts.{same_counts}
use Rattle.compare_pass.proofs.Forms.{guarded_checked, block_slots}
use Rattle.compare_pass.proofs.Halves.{guarded_halves}
use Rattle.compare_pass.proofs.Added.{ChecksFit, formed_fit, all_old, all_kept}

-- ---- blocks

items_checked : (bs : List HardBlock) (b : ℕ) → block_items (slice_get (map checked_block bs) b) ≡ with_checks false (block_items (slice_get bs b))
items_checked [] b = refl
items_checked (x ∷ bs) zero = refl
items_checked (x ∷ bs) (suc b) = items_checked bs b

length_checked : (bs : List HardBlock) → length (map checked_block bs) ≡ length bs
length_checked [] = refl
length_checked (x ∷ bs) = ap (λ (n : ℕ). suc n) (length_checked bs)

successors_checked : (bs : List HardBlock) (b : ℕ) (y : HardBlock) → slice_get (map checked_block bs) b ≡ Some y → (x : HardBlock) × (slice_get bs b ≡ Some x) × (y.successors ≡ x.successors)
successors_checked [] b y e = absurd (none y e)
  where
    none : (y : HardBlock) → None ≡ Some y → ⊥
    none y e = cc
successors_checked (x ∷ bs) zero y e = (x, refl, ap (λ (z : HardBlock). z.successors) (sym (same e)))
  where
    same : {A : Type 0} {a b : A} → Some a ≡ Some b → a ≡ b
    same g = cc
successors_checked (x ∷ bs) (suc b) y e = successors_checked bs b y e

in_blocks : (xs : List HardBlock) (b : ℕ) → (b < length xs) ⊎ (slice_get xs b ≡ None)
in_blocks [] b = inr refl
in_blocks (x ∷ xs) zero = inl (Rattle.std.proofs.Common.zero-lt-suc (length xs))
in_blocks (x ∷ xs) (suc b) = ⊎_elim (λ l. inl (Rattle.std.proofs.Common.suc-le-suc l)) (λ e. inr e) (in_blocks xs b)

-- What holds of no items and of each block that is there holds of the items of each number.
everywhere : (P : List Item → Type 0) (p : HardProgram) → P [] → ((b : ℕ) → b < length p.blocks → P (items_of p b)) → (b : ℕ) → P (items_of p b)
everywhere P p none h b = ⊎_elim (λ l. h b l) (λ e. subst (λ (o : Option HardBlock). P (block_items o)) (sym e) none) (in_blocks p.blocks b)

module _ (p : HardProgram) (t : Twin p) where
  q : HardProgram
  q = checked_program p

  is_guarded : IsGuarded p (checked_program p)
  is_guarded = record { blocks = λ b. items_checked p.blocks b; entries = refl; initial = refl; memory = refl }

  same_length : length (checked_program p).blocks ≡ length p.blocks
  same_length = length_checked p.blocks

  formed : (b : ℕ) → b < length p.blocks → Formed (items_of p b)
  formed = t.apart.formed

  pub guarded : Guarded (checked_program p)
  guarded b l = subst Checked (sym (items_checked p.blocks b)) (guarded_checked (items_of p b) (formed b (subst (λ (n : ℕ). b < n) same_length l)))

  adds : OnlyAdds p (checked_program p)
  adds = record {
    blocks = same_length;
    successors = λ b y e. successors_checked p.blocks b y e;
    entries = refl;
    initial = refl;
    memory = refl;
    kept = λ b i c. subst (λ (xs : List Item). Contains xs i) (sym (items_checked p.blocks b)) (all_kept false (items_of p b) i c);
    new = λ b i c. all_old false (items_of p b) (everywhere (Each ChecksFit) p tt (λ k l. formed_fit (items_of p k) (formed k l)) b) i (subst (λ (xs : List Item). Contains xs i) (items_checked p.blocks b) c);
    formed = λ b l. (guarded b l).formed;
  }

  shaped : Shaped p (checked_program p)
  shaped = record {
    guarded_is = is_guarded;
    slots = everywhere (SlotsFit p) p tt (λ b l. let f : Formed (items_of p b) = formed b l in subst (SlotsFit p) (sym f.is) (block_slots p f.forms f.close f.fit));
    ways = λ b c. ((well_formed_stays p (checked_program p) adds t.apart.well_formed).1 b c).0;
  }

  keeps : (input : List ℕ) → AreWords input → SameObserved (item_run (checked_program p) input) (item_run p input) × Always (items (checked_program p)) (first_spot (checked_program p) input) (Good (checked_program p))
  keeps input w = guard_keeps p (checked_program p) shaped input (λ n e. (t.apart.lawful input w n e, t.agrees input w n e))

  pub same_runs : SameRuns p (checked_program p)
  same_runs input w = (keeps input w).0

  halves : (b : ℕ) → HalvesPair (items_of (checked_program p) b) false
  halves b = subst (λ (xs : List Item). HalvesPair xs false) (sym (items_checked p.blocks b))
      (everywhere (λ (xs : List Item). HalvesPair (with_checks false xs) false) p refl (λ k l. guarded_halves (items_of p k) (formed k l) (t.apart.halves k)) b)

  pub twin : Twin (checked_program p)
  twin = record {
    apart = record {
      well_formed = (well_formed_stays p (checked_program p) adds t.apart.well_formed).0;
      formed = λ b l. (guarded b l).formed;
      halves = halves;
      halves_call = halves_call p (checked_program p) adds t.apart.halves_call;
      lawful = λ input w n e. ((keeps input w).1 n e).0;
    };
    agrees = λ input w n e. ((keeps input w).1 n e).1;
    never_reports = λ input w n code at e. t.never_reports input w n code at ((keeps input w).0.ends n (Reported code at) e).0;
  }

  pub counts : SameCounts p (checked_program p)
  counts = same_counts p (checked_program p) is_guarded same_length
