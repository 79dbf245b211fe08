-- What the new order keeps, from the parts of each block.
use Rattle.std.proofs.Common.{◌≡◌, ◌≢◌, ◌≤◌, ◌<◌, ℕ, zero, suc, ◌+◌, arith, ap, refl, sym, ◌∙◌, subst, List, [], ◌∷◌, ◌++◌, length, map, Bool, true, false, cond, not, inl, inr, ⊎_elim}
use Rattle.std.specs.Prelude.{Option, Some, None, ◌⊎◌, ◌||◌, ◌==◌, slice_get, Contains, All, is_some}
use Rattle.std.specs.List.{list_any}
use Rattle.hard_items.specs.Streams.{is_stream, touched}
use Rattle.std.proofs.lemmas.List.Elements.{All-head, All-tail}
use Rattle.hard_runs.specs.Observed.{SameObserved}
use Rattle.hard_words.specs.Words.{AreWords}
use Rattle.hard_runs.specs.Stepping.{Always}
use Rattle.mips_isa.specs.declared.instr.End.TheVariants.{Reported}
use Rattle.hard_items.specs.declared.code.Item.{Item}
use Rattle.hard_items.specs.declared.code.HardBlock.{HardBlock}
use Rattle.hard_items.specs.declared.code.HardProgram.{HardProgram}
use Rattle.hard_items.specs.Run.{items, items_of, first_spot, item_run, block_items}
use Rattle.hard_items.specs.Forms.{Form, Close, Formed, HalvesPair, Each, FormFits, CloseFits, HasChecks, CloseHasChecks}
use Rattle.hard_items.specs.Rules.{LawfulAt, Guarded, Checked, Apart, NeverReports}
use Rattle.hard_items.specs.Counts.{Calm, calm_from, free_nops, Turned, TurnedThrough}
use Rattle.mips_text.specs.Turns as words
use Rattle.hard_items.specs.Keeping.{IsAdded, OnlyAdds}
use Rattle.hard_items.specs.Runs.{SameRuns}
use Rattle.hard_laws.proofs.Keeping.{well_formed_stays, halves_call}
use Rattle.block_schedule.specs.Scheduling.{turned, scheduled, scheduled_block, scheduled_program}
use Rattle.block_schedule.specs.Merging.{done}
use Rattle.hard_items.specs.Counted.{HasNoFreeNop, AreBusy, of_streams}
use Rattle.block_schedule.specs.Law.{KeepsCounts}
use Rattle.block_schedule.proofs.Parts.{Parts, parts_of}
use Rattle.block_schedule.proofs.Blocks.{Built, parts_built, parts_halves, parts_keep, parts_old, idle_added}
use Rattle.block_schedule.proofs.Running.{Rests, none, parts_rest, Beside_, order_keeps}
use Rattle.block_schedule.proofs.Calming.{nops_make_calm}
use Rattle.block_schedule.proofs.Counting.{Told, keeps_counts}
use Rattle.block_schedule.proofs.Segments.{nothing_turns}
use Rattle.block_schedule.proofs.Taking.{instrs, Busy, strong, weak_parting, parts_turn, parts_turn_through}

-- ---- blocks

items_scheduled : (bs : List HardBlock) (b : ℕ) → block_items (slice_get (map scheduled_block bs) b) ≡ scheduled (block_items (slice_get bs b))
items_scheduled [] b = refl
items_scheduled (x ∷ bs) zero = refl
items_scheduled (x ∷ bs) (suc b) = items_scheduled bs b

length_scheduled : (bs : List HardBlock) → length (map scheduled_block bs) ≡ length bs
length_scheduled [] = refl
length_scheduled (x ∷ bs) = ap (λ (n : ℕ). suc n) (length_scheduled bs)

same_some : {A : Type 0} {a b : A} → Some a ≡ Some b → a ≡ b
same_some g = cc

successors_scheduled : (bs : List HardBlock) (b : ℕ) (y : HardBlock) → slice_get (map scheduled_block bs) b ≡ Some y → (x : HardBlock) × (slice_get bs b ≡ Some x) × (y.successors ≡ x.successors)
successors_scheduled [] b y e = absurd (no_block y e)
  where
    no_block : (y : HardBlock) → None ≡ Some y → ⊥
    no_block y e = cc
successors_scheduled (x ∷ bs) zero y e = (x, refl, ap (λ (z : HardBlock). z.successors) (sym (same_some e)))
successors_scheduled (x ∷ bs) (suc b) y e = successors_scheduled bs b y e

in_blocks : (xs : List HardBlock) (b : ℕ) → (b < length xs) ⊎ (slice_get xs b ≡ None)
in_blocks [] b = inr refl
in_blocks (x ∷ xs) zero = inl (Rattle.std.proofs.Common.zero-lt-suc (length xs))
in_blocks (x ∷ xs) (suc b) = ⊎_elim (λ l. inl (Rattle.std.proofs.Common.suc-le-suc l)) (λ e. inr e) (in_blocks xs b)

-- What holds of no items and of each block that is there holds of the items of each number.
pub everywhere : (P : List Item → Type 0) (p : HardProgram) → P [] → ((b : ℕ) → b < length p.blocks → P (items_of p b)) → (b : ℕ) → P (items_of p b)
everywhere P p e h b = ⊎_elim (λ l. h b l) (λ f. subst (λ (o : Option HardBlock). P (block_items o)) (sym f) e) (in_blocks p.blocks b)

each_block : (P : List Item → Type 0) (bs : List HardBlock) → ((b : ℕ) → b < length bs → P (block_items (slice_get bs b))) → Each (λ (x : HardBlock). P x.items) bs
each_block P [] h = tt
each_block P (x ∷ bs) h = (h 0 (Rattle.std.proofs.Common.zero-lt-suc (length bs)), each_block P bs (λ b l. h (suc b) (Rattle.std.proofs.Common.suc-le-suc l)))

each_of : {A : Type 0} (P Q : A → Type 0) (xs : List A) → Each P xs → Each Q xs → Each (λ x. P x × Q x) xs
each_of P Q [] h k = tt
each_of P Q (x ∷ xs) h k = ((h.0, k.0), each_of P Q xs h.1 k.1)

each_left : {A : Type 0} (P Q : A → Type 0) (xs : List A) → Each (λ x. P x × Q x) xs → Each P xs
each_left P Q [] h = tt
each_left P Q (x ∷ xs) h = (h.0.0, each_left P Q xs h.1)

each_right : {A : Type 0} (P Q : A → Type 0) (xs : List A) → Each (λ x. P x × Q x) xs → Each Q xs
each_right P Q [] h = tt
each_right P Q (x ∷ xs) h = (h.0.1, each_right P Q xs h.1)

-- The parts of a block and of its new order.
pub parts : (xs : List Item) → Formed xs → Parts FormFits CloseFits xs (scheduled xs)
parts xs f = subst (λ (l : List Item). Parts FormFits CloseFits l (scheduled l)) (sym f.is) (parts_of FormFits CloseFits (λ g h. h) f.forms f.close f.fit f.close_fits [] [] [] tt tt done 0 0)

formed_new : (xs : List Item) → Formed xs → Formed (scheduled xs)
formed_new xs f = let b : Built FormFits CloseFits (scheduled xs) = parts_built FormFits CloseFits (λ i h. h) (λ i j h. h) xs (scheduled xs) (parts xs f) in
    record { forms = b.forms; close = b.close; is = b.is; fit = b.each; close_fits = b.closes }

abbrev Whole_form : Form → Type 0
Whole_form f = FormFits f × HasChecks f

abbrev Whole_close : Close → Type 0
Whole_close c = CloseFits c × CloseHasChecks c

checked_new : (xs : List Item) → Checked xs → Checked (scheduled xs)
checked_new xs k =
    let f : Formed xs = k.formed in
    let p : Parts Whole_form Whole_close xs (scheduled xs) = subst (λ (l : List Item). Parts Whole_form Whole_close l (scheduled l)) (sym f.is)
    (parts_of Whole_form Whole_close (λ g h. h.0) f.forms f.close (each_of FormFits HasChecks f.forms f.fit k.each) (f.close_fits, k.close) [] [] [] tt tt done 0 0) in
    let b : Built Whole_form Whole_close (scheduled xs) = parts_built Whole_form Whole_close (λ i h. (h, tt)) (λ i j h. (h, tt)) xs (scheduled xs) p in
    record {
      formed = record { forms = b.forms; close = b.close; is = b.is; fit = each_left FormFits HasChecks b.forms b.each; close_fits = b.closes.0 };
      each = each_right FormFits HasChecks b.forms b.each;
      close = b.closes.1;
    }

abbrev Touches : Item → Type 0
Touches i = list_any (λ r. not (r == 0)) (touched i.instr) ≡ true

module _ (p : HardProgram) (a : Apart p) where
  same_length : length (scheduled_program p).blocks ≡ length p.blocks
  same_length = length_scheduled p.blocks

  there : (b : ℕ) → b < length (scheduled_program p).blocks → b < length p.blocks
  there b l = subst (λ (n : ℕ). b < n) same_length l

  formed : (b : ℕ) → b < length (scheduled_program p).blocks → Formed (items_of (scheduled_program p) b)
  formed b l = subst Formed (sym (items_scheduled p.blocks b)) (formed_new (items_of p b) (a.formed b (there b l)))

  adds : OnlyAdds p (scheduled_program p)
  adds = record {
    blocks = same_length;
    successors = λ b y e. successors_scheduled p.blocks b y e;
    entries = refl;
    initial = refl;
    memory = refl;
    kept = λ b i c. subst (λ (xs : List Item). Contains xs i) (sym (items_scheduled p.blocks b))
        (everywhere (λ (xs : List Item). Contains xs i → Contains (scheduled xs) i) p (λ x. x) (λ k l. parts_keep FormFits CloseFits (items_of p k) (scheduled (items_of p k)) (parts (items_of p k) (a.formed k l)) i) b c);
    new = λ b i c. everywhere (λ (xs : List Item). Contains (scheduled xs) i → Contains xs i ⊎ IsAdded i) p (λ x. inl x)
        (λ k l x. ⊎_elim (λ y. inl y) (λ y. inr (idle_added i y)) (parts_old FormFits CloseFits (items_of p k) (scheduled (items_of p k)) (parts (items_of p k) (a.formed k l)) i x)) b
        (subst (λ (xs : List Item). Contains xs i) (items_scheduled p.blocks b) c);
    formed = formed;
  }

  beside : Beside_ p (scheduled_program p)
  beside = record {
    rests = λ b. subst (λ (xs : List Item). Rests p (items_of p b) xs) (sym (items_scheduled p.blocks b))
        (everywhere (λ (xs : List Item). Rests p xs (scheduled xs)) p none (λ k l. parts_rest p FormFits CloseFits (items_of p k) (scheduled (items_of p k)) (parts (items_of p k) (a.formed k l))) b);
    ways = λ b c. ((well_formed_stays p (scheduled_program p) adds a.well_formed).1 b c).0;
    entries = refl;
    firsts = λ input. refl;
  }

  keeps : (input : List ℕ) → AreWords input → SameObserved (item_run (scheduled_program p) input) (item_run p input) × Always (items (scheduled_program p)) (first_spot (scheduled_program p) input) (LawfulAt (scheduled_program p))
  keeps input w = order_keeps p (scheduled_program p) beside input (a.lawful input w)

  pub same_runs : SameRuns p (scheduled_program p)
  same_runs input w = (keeps input w).0

  halves : (b : ℕ) → HalvesPair (items_of (scheduled_program p) b) false
  halves b = subst (λ (xs : List Item). HalvesPair xs false) (sym (items_scheduled p.blocks b))
      (everywhere (λ (xs : List Item). HalvesPair (scheduled xs) false) p refl
      (λ k l. parts_halves FormFits CloseFits (items_of p k) (scheduled (items_of p k)) (parts (items_of p k) (a.formed k l)) false (a.halves k)) b)

  pub apart : Apart (scheduled_program p)
  apart = record {
    well_formed = (well_formed_stays p (scheduled_program p) adds a.well_formed).0;
    formed = formed;
    halves = halves;
    halves_call = halves_call p (scheduled_program p) adds a.halves_call;
    lawful = λ input w. (keeps input w).1;
  }

  pub never_reports : NeverReports p → NeverReports (scheduled_program p)
  never_reports h input w n code at e = h input w n code at ((keeps input w).0.ends n (Reported code at) e).0

  pub guarded : Guarded p → Guarded (scheduled_program p)
  guarded g b l = subst Checked (sym (items_scheduled p.blocks b)) (checked_new (items_of p b) (g b (there b l)))

  pub calm : Calm (scheduled_program p)
  calm b = subst (λ (xs : List Item). calm_from 0 0 xs ≡ true) (sym (items_scheduled p.blocks b)) (nops_make_calm (turned (items_of p b)) 0 0)

  pub counts : KeepsCounts p (scheduled_program p)
  counts = keeps_counts p (λ n. each_block Told p.blocks (λ b l. record { parts = parts (items_of p b) (a.formed b l); no_free = n b }))

  busy_each : (xs : List Item) → All (λ i. list_any (λ r. not (r == 0)) (touched i.instr) ≡ true) (of_streams xs) → Each Busy xs
  busy_each [] h = tt
  busy_each (x ∷ xs) h = elim (is_stream x.class) as (λ z. is_stream x.class ≡ z → All Touches (cond z (x ∷ of_streams xs) (of_streams xs)) → Each Busy (x ∷ xs)) [
    | true ↦ λ e g. ((λ k. All-head Touches x (of_streams xs) g), busy_each xs (All-tail Touches x (of_streams xs) g))
    | false ↦ λ e g. ((λ k. absurd (wrong (is_stream x.class) k e)), busy_each xs g)
  ] refl h
    where
      wrong : (z : Bool) → z ≡ true → z ≡ false → ⊥
      wrong z e f = cc

  pub turned_ : HasNoFreeNop p → AreBusy p → Turned (scheduled_program p)
  turned_ n b k = subst (λ (xs : List Item). words.Turned (instrs xs)) (sym (items_scheduled p.blocks k))
      (everywhere (λ (xs : List Item). Each Busy xs → free_nops xs ≡ 0 → words.Turned (instrs (scheduled xs))) p (λ x y. nothing_turns (λ i. is_some (words.stream_of i) || words.is_nop i))
      (λ m l x y. parts_turn weak_parting (items_of p m) (scheduled (items_of p m)) (parts (items_of p m) (a.formed m l)) x y) k (busy_each (items_of p k) (b k)) (n k))

  pub turned_through : HasNoFreeNop p → AreBusy p → TurnedThrough (scheduled_program p)
  turned_through n b k = subst (λ (xs : List Item). words.TurnedThrough (instrs xs)) (sym (items_scheduled p.blocks k))
      (everywhere (λ (xs : List Item). Each Busy xs → free_nops xs ≡ 0 → words.TurnedThrough (instrs (scheduled xs))) p (λ x y. nothing_turns strong)
      (λ m l x y. parts_turn_through (items_of p m) (scheduled (items_of p m)) (parts (items_of p m) (a.formed m l)) x y) k (busy_each (items_of p k) (b k)) (n k))
