-- What a call leaves, by how its parts went.
use Rattle.std.proofs.Common.{◌≡◌, ◌≢◌, ℕ, Bool, List, [], ◌∷◌, ◌++◌, arith, refl, sym, ◌∙◌, ap, subst, inl, inr}
use Rattle.std.specs.Prelude.{◌⊎◌, Option, Some, None, Result, Ok, Err, IsTrue, IsErrOf, OnOk, OnErr, is_ok, if◌then◌else◌}
use Rattle.hard_shelf.specs.Outside.{SameNames, SameOthers, AppendsPart}
use Rattle.hard_shelf.specs.declared.sink.SinkFault.{SinkFault}
use Rattle.eval_show.specs.declared.show.ShowError.{ShowError}
use Rattle.eval_show.specs.declared.show.ShowError.TheVariants as shows
use Rattle.elf_image.specs.Held.{IsImage}
use Rattle.elf_image.proofs.Fields.{no_image, one_image}
use Rattle.hard_lines.specs.Inputs.{inputs}
use Rattle.mips_isa.specs.Image.{ImageFields}
use Rattle.run_audit.specs.declared.error.AuditError.{AuditError}
use Rattle.run_audit.specs.declared.error.AuditError.TheVariants as audits
use Rattle.run_audit.proofs.Answers.{never_both}
use Rattle.run_audit.specs.AuditLines.{no_line}
use Rattle.tool_outcomes.specs.declared.failure.Failure.{Failure}
use Rattle.tool_outcomes.specs.declared.failure.Failure.TheVariants.{Source, Image, LargeImage, Fault, LargeFault, Input, LargeInput, Shelf, Memory}
use Rattle.tool_words.specs.Commands.{Command, Compile, Run, RunChanged, Audit, Campaign, ListPairs, Make, Eval, SelfRun}
use Rattle.tool_outcomes.specs.Failures.{status_of, line_of, audit_status, run_status}
use Rattle.tool_outcomes.specs.Files.{Held, File, SourceFile, ImageFile, InputFile, FaultFile, MadeFile, IsGood, IsBad, BadSource, BadImage, LongImage, BadInput, LongInput, BadFault, LongFault, BadMade, Holds, HoldsGood, HoldsBad, HoldsRun, IsRunnable, IsInput, AreGood, LacksOne, HasBad}
use Rattle.tool_outcomes.specs.Outcomes.{files_of, Accepts, PassesAudit, FailsAudit, Audited, TellsAudit, Puts, HasPut, Prints, Says, IsRefusal}
use Rattle.tool_outcomes.specs.Parts.{Reads, Writes, Said, Whole, Part, Leaves, PutsAndSays}
use Rattle.tool_outcomes.proofs.Reading.{same_held}
use Rattle.compile_rules.proofs.Exclusive.{not_both}

-- ---- no file is both good and bad, or bad in two ways of different statuses

same_bytes : (x y : List ℕ) (o : Option (List ℕ)) → o ≡ Some x → o ≡ Some y → x ≡ y
same_bytes x y o e f = let g : Some x ≡ Some y = sym e ∙ f in cc

none_is : (bytes : List ℕ) (o : Option (List ℕ)) → o ≡ None → o ≡ Some bytes → ⊥
none_is bytes o e f = let g : None ≡ Some bytes = sym e ∙ f in cc

good_not_bad : (bytes : List ℕ) (file : File) (failure : Failure) → IsGood file bytes → IsBad bytes file failure → ⊥
good_not_bad bytes file failure good (BadSource name r refused) = not_both bytes bytes r refl refused good
good_not_bad bytes file failure good (BadImage name error short refused) = no_image bytes error (sym refused) good.0 good.1.image
good_not_bad bytes file failure good (LongImage name long) = omega (arith, good.1.short, long)
good_not_bad bytes file failure good (BadInput name error short refused) = let e : Ok good.0 ≡ Err error = sym good.1.reads ∙ refused in cc
good_not_bad bytes file failure good (LongInput name long) = omega (arith, good.1.short, long)
good_not_bad bytes file failure good (BadFault name error short refused) = let e : Ok good.0 ≡ Err error = sym good.1.reads ∙ refused in cc
good_not_bad bytes file failure good (LongFault name long) = omega (arith, good.1.short, long)
good_not_bad bytes file failure good (BadMade number size r refused) = not_both bytes bytes r refl refused good

holds_one : (held : Held) (file : File) (failure : Failure) → HoldsGood held file → HoldsBad held file failure → ⊥
holds_one held file failure (bytes, is, good) (other, there, bad) =
    good_not_bad bytes file failure good (subst (λ (b : List ℕ). IsBad b file failure) (same_bytes other bytes _ there is) bad)

-- the status of a file that is refused
class : File → ℕ
class (SourceFile name) = 3
class (ImageFile name) = 4
class (InputFile name) = 6
class (FaultFile name) = 5
class (MadeFile number size) = 3

class_is : (bytes : List ℕ) (file : File) (failure : Failure) → IsBad bytes file failure → status_of failure ≡ class file
unfolding class
class_is bytes file failure (BadSource name r refused) = refl
class_is bytes file failure (BadImage name error short refused) = refl
class_is bytes file failure (LongImage name long) = refl
class_is bytes file failure (BadInput name error short refused) = refl
class_is bytes file failure (LongInput name long) = refl
class_is bytes file failure (BadFault name error short refused) = refl
class_is bytes file failure (LongFault name long) = refl
class_is bytes file failure (BadMade number size r refused) = refl

not_both_ways : (held : Held) (files : List File) (failure : Failure) → AreGood held files → HasBad held files failure → ⊥
not_both_ways held [] failure good bad = bad
not_both_ways held (file ∷ files) failure good bad =
    elim bad [ inl here ↦ holds_one held file failure good.0 here | inr later ↦ not_both_ways held files failure good.1 later.1 ]

not_missing : (held : Held) (files : List File) → AreGood held files → LacksOne held files → ⊥
not_missing held [] good lacks = lacks
not_missing held (file ∷ files) good lacks =
    elim lacks [ inl none ↦ none_is good.0.0 _ none good.0.1 | inr later ↦ not_missing held files good.1 later.1 ]

one_status : (held : Held) (files : List File) (f g : Failure) → HasBad held files f → HasBad held files g → status_of f ≡ status_of g
one_status held [] f g a b = absurd a
one_status held (file ∷ files) f g a b =
    elim a [
      | inl x ↦ elim b [
        | inl y ↦ class_is x.0 file f x.2 ∙ sym (class_is y.0 file g y.2)
        | inr y ↦ absurd (holds_one held file f y.0 x)
      ]
      | inr x ↦ elim b [
        | inl y ↦ absurd (holds_one held file g x.0 y)
        | inr y ↦ one_status held files f g x.1 y.1
      ]
    ]

-- ---- the run of two files

-- what holds of the fields and numbers that two names hold
pub run_of : (held : Held) (image input : List ℕ) (P : ImageFields → List ℕ → Type 0) (fields : ImageFields) (numbers : List ℕ)
    → Holds held image (λ bytes. IsRunnable bytes fields) → Holds held input (λ text. IsInput text numbers) → P fields numbers → HoldsRun held image input P
run_of held image input P fields numbers x y p = (x.0, x.1, (fields, x.2, (y.0, y.1, (numbers, y.2, p))))

pub run_good : (held : Held) (image input : List ℕ) (P : ImageFields → List ℕ → Type 0) → HoldsRun held image input P → AreGood held (ImageFile image ∷ InputFile input ∷ [])
run_good held image input P x = ((x.0, x.1, (x.2.0, x.2.1)), ((x.2.2.0, x.2.2.1, (x.2.2.2.0, x.2.2.2.1)), tt))

run_then : (held : Held) (image input : List ℕ) (P Q : ImageFields → List ℕ → Type 0) → ((f : ImageFields) (n : List ℕ) → P f n → Q f n)
    → HoldsRun held image input P → HoldsRun held image input Q
run_then held image input P Q g x = (x.0, x.1, (x.2.0, x.2.1, (x.2.2.0, x.2.2.1, (x.2.2.2.0, x.2.2.2.1, g _ _ x.2.2.2.2))))

same_numbers : (a b x y : List ℕ) → a ≡ b → inputs a ≡ Ok x → inputs b ≡ Ok y → x ≡ y
same_numbers a b x y e f g = let h : Ok x ≡ Ok y = sym f ∙ (ap inputs e ∙ g) in cc

-- two names hold one image and one input
one_run : (held : Held) (image input : List ℕ) (P Q : ImageFields → List ℕ → Type 0) → HoldsRun held image input P → HoldsRun held image input Q
    → (f : ImageFields) × (n : List ℕ) × P f n × Q f n
one_run held image input P Q x y =
    let b : y.0 ≡ x.0 = same_bytes y.0 x.0 _ y.1 x.1 in
    let f : y.2.0 ≡ x.2.0 = one_image x.0 y.2.0 x.2.0 (subst (λ (l : List ℕ). IsImage l y.2.0) b y.2.1.image) x.2.1.image in
    let t : y.2.2.0 ≡ x.2.2.0 = same_bytes y.2.2.0 x.2.2.0 _ y.2.2.1 x.2.2.1 in
    let n : y.2.2.2.0 ≡ x.2.2.2.0 = same_numbers _ _ _ _ t y.2.2.2.1.reads x.2.2.2.1.reads in
    (x.2.0, x.2.2.2.0, x.2.2.2.2, subst (λ (i : ImageFields). Q i x.2.2.2.0) f (subst (λ (l : List ℕ). Q y.2.0 l) n y.2.2.2.2))

-- where an audit does not pass, the files were good
fails_good : (held : Held) (command : Command) (error : AuditError) → FailsAudit held (Some command) error → AreGood held (files_of command)
fails_good held (Compile edges source image) error x = absurd x
fails_good held (Run image input steps) error x = absurd x
fails_good held (RunChanged image input steps fault) error x = absurd x
fails_good held (Audit image input steps) error x = run_good held image input _ x
fails_good held (Campaign image input steps from to) error x = absurd x
fails_good held (ListPairs image) error x = absurd x
fails_good held (Make number size out) error x = absurd x
fails_good held (Eval source input turns) error x = absurd x
fails_good held (SelfRun number size steps) error x = absurd x

-- no audit passes and does not
passes_or_fails : (held : Held) (command : Command) (error : AuditError) → PassesAudit held (Some command) → FailsAudit held (Some command) error → ⊥
passes_or_fails held (Compile edges source image) error p x = x
passes_or_fails held (Run image input steps) error p x = x
passes_or_fails held (RunChanged image input steps fault) error p x = x
passes_or_fails held (Audit image input steps) error p x =
    let both = one_run held image input _ _ p x in
    never_both both.0 both.1 steps both.2.0 error both.2.1 both.3
passes_or_fails held (Campaign image input steps from to) error p x = x
passes_or_fails held (ListPairs image) error p x = x
passes_or_fails held (Make number size out) error p x = x
passes_or_fails held (Eval source input turns) error p x = x
passes_or_fails held (SelfRun number size steps) error p x = x

-- the line of an audit that does not pass tells of it
tells_no : (held : Held) (image input : List ℕ) (steps : ℕ) (error : AuditError) → FailsAudit held (Some (Audit image input steps)) error
    → HoldsRun held image input (λ fields numbers. TellsAudit fields numbers steps (no_line error))
tells_no held image input steps error fails = run_then held image input _ _ (λ f n bad. inr (error, bad, refl)) fails

-- a failure is a refusal, or the shelf's, or memory's
data Sort (failure : Failure) : Type 0 where
  Refusal_ : IsRefusal (status_of failure) → status_of failure ≢ 7 → status_of failure ≢ 9 → Sort failure
  Outside : failure ≡ Shelf → Sort failure
  Wanting : failure ≡ Memory → Sort failure

sort : (failure : Failure) → Sort failure
sort (Source r) = Refusal_ (inl refl) (λ h. omega (arith, h)) (λ h. omega (arith, h))
sort (Image error) = Refusal_ (inr (inl refl)) (λ h. omega (arith, h)) (λ h. omega (arith, h))
sort LargeImage = Refusal_ (inr (inl refl)) (λ h. omega (arith, h)) (λ h. omega (arith, h))
sort (Fault error) = Refusal_ (inr (inr (inl refl))) (λ h. omega (arith, h)) (λ h. omega (arith, h))
sort LargeFault = Refusal_ (inr (inr (inl refl))) (λ h. omega (arith, h)) (λ h. omega (arith, h))
sort (Input error) = Refusal_ (inr (inr (inr refl))) (λ h. omega (arith, h)) (λ h. omega (arith, h))
sort LargeInput = Refusal_ (inr (inr (inr refl))) (λ h. omega (arith, h)) (λ h. omega (arith, h))
sort Shelf = Outside refl
sort Memory = Wanting refl

no_refusal : (s k : ℕ) → IsRefusal s → (k ≡ 0) ⊎ (k ≡ 2) ⊎ (k ≡ 7) ⊎ (k ≡ 8) ⊎ (k ≡ 9) → s ≡ k → ⊥
no_refusal s k a b e = grind arith

not_silent : {X : Type 0} (s : ℕ) → IsRefusal s ⊎ (s ≡ 0) ⊎ (s ≡ 8) → (s ≡ 7) ⊎ ((s ≡ 9) × X) → ⊥
not_silent s a (inl b) = grind (arith, a, b)
not_silent s a (inr b) = grind (arith, a, b.0)

not_nine : (s : ℕ) → IsRefusal s ⊎ (s ≡ 0) ⊎ (s ≡ 8) → s ≡ 9 → ⊥
not_nine s a b = grind arith

not_good : (s : ℕ) → (s ≡ 7) ⊎ (s ≡ 8) ⊎ (s ≡ 9) → (s ≡ 0) ⊎ (s ≡ 2) ⊎ IsRefusal s ⊎ (s ≡ 10) → ⊥
not_good s a b = grind arith

not_nothing : (s : ℕ) → (s ≡ 0) ⊎ (s ≡ 7) ⊎ (s ≡ 8) → (s ≡ 2) ⊎ IsRefusal s ⊎ (s ≡ 9) ⊎ (s ≡ 10) → ⊥
not_nothing s a b = grind arith

not_ten : (s : ℕ) → IsRefusal s → s ≡ 10 → ⊥
not_ten s a b = grind arith

ten_speaks : {X : Type 0} (s : ℕ) → s ≡ 10 → (s ≡ 7) ⊎ ((s ≡ 9) × X) → ⊥
ten_speaks s a (inl b) = grind (arith, a, b)
ten_speaks s a (inr b) = grind (arith, a, b.0)

no_none : (command : Command) → Some command ≡ None → ⊥
no_none command e = cc

-- ---- a file was not read

-- the line of the refusal was written
refused_whole : (T : Type 0) (old new : Held) (shelf tells : Type 0) (before after : List ℕ) (sink : Type 0) (command : Command) (failure : Failure) (status : ℕ)
    → SameNames old new → (T → HasBad old (files_of command) failure) → IsRefusal status → status ≡ status_of failure → (tells → after ≡ before ++ line_of failure)
    → Leaves T old new shelf tells before after sink (Some command) status
refused_whole T old new shelf tells before after sink command failure status stays bad is e wrote = record {
  statuses = inr (inr (inl is));
  done = λ h t. absurd (no_refusal status 0 is (inl refl) h);
  audited = λ h t. absurd (no_refusal status 0 is (inl refl) h);
  complete = λ t good r s. absurd (not_both_ways old (files_of command) failure good.0 (bad t));
  usage = λ h. absurd (no_refusal status 2 is (inr (inl refl)) h);
  no_command = λ h. absurd (no_none command h);
  refused = λ h t. (failure, sym e, bad t);
  refuses = λ f t b. inl (e ∙ one_status old (files_of command) failure f (bad t) b);
  only_audits = λ h. absurd (not_ten status is h);
  failed_audit = λ h t. absurd (not_ten status is h);
  fails_audit = λ x t b. absurd (not_both_ways old (files_of command) failure (fails_good old command x b) (bad t));
  shelf_fault = λ h. absurd (no_refusal status 7 is (inr (inr (inl refl))) h);
  sink_fault = λ h. absurd (no_refusal status 8 is (inr (inr (inr (inl refl)))) h);
  others = λ t name apart. stays name;
  nothing_put = λ h t. stays;
  unless_accepted = λ t not. stays;
  put_where_accepted = λ h t. absurd (no_refusal status 8 is (inr (inr (inr (inl refl)))) h);
  said = λ h t u. (line_of failure, inl (failure, bad t, refl), wrote u);
  part_said = λ h t u. absurd (no_refusal status 8 is (inr (inr (inr (inl refl)))) h);
  silent = λ h u. absurd (not_silent status (inl is) h);
  begun = λ h t u. absurd (not_nine status (inl is) h);
}

-- a part of it stands
refused_part : (T : Type 0) (old new : Held) (shelf tells : Type 0) (before after : List ℕ) (sink : Type 0) (command : Command) (failure : Failure) (status : ℕ)
    → SameNames old new → (T → HasBad old (files_of command) failure) → status ≡ 8 → sink → (tells → AppendsPart before after (line_of failure))
    → Leaves T old new shelf tells before after sink (Some command) status
refused_part T old new shelf tells before after sink command failure status stays bad e rose wrote = record {
  statuses = inr (inr (inr (inr (inl e))));
  done = λ h t. absurd (omega (arith, e, h));
  audited = λ h t. absurd (omega (arith, e, h));
  complete = λ t good r s. absurd (s rose);
  usage = λ h. absurd (omega (arith, e, h));
  no_command = λ h. absurd (no_none command h);
  refused = λ h t. absurd (no_refusal status 8 h (inr (inr (inr (inl refl)))) e);
  refuses = λ f t b. inr (inr (inl e));
  only_audits = λ h. absurd (omega (arith, e, h));
  failed_audit = λ h t. absurd (omega (arith, e, h));
  fails_audit = λ x t b. inr (inr (inl e));
  shelf_fault = λ h. absurd (omega (arith, e, h));
  sink_fault = λ h. rose;
  others = λ t name apart. stays name;
  nothing_put = λ h t. stays;
  unless_accepted = λ t not. stays;
  put_where_accepted = λ h t. inr (λ accepted. not_both_ways old (files_of command) failure accepted.0 (bad t), stays);
  said = λ h t u. absurd (not_good status (inr (inl e)) h);
  part_said = λ h t u. (line_of failure, inl (failure, bad t, refl), wrote u);
  silent = λ h u. absurd (not_silent status (inr (inr e)) h);
  begun = λ h t u. absurd (not_nine status (inr (inr e)) h);
}

-- the shelf failed, or a file isn't there
shelf_failed : (T : Type 0) (old new : Held) (shelf tells : Type 0) (before after : List ℕ) (sink : Type 0) (command : Command) (status : ℕ)
    → SameNames old new → shelf ⊎ (T × LacksOne old (files_of command)) → status ≡ 7 → (tells → after ≡ before)
    → Leaves T old new shelf tells before after sink (Some command) status
shelf_failed T old new shelf tells before after sink command status stays why e quiet = record {
  statuses = inr (inr (inr (inl e)));
  done = λ h t. absurd (omega (arith, e, h));
  audited = λ h t. absurd (omega (arith, e, h));
  complete = λ t good r s. elim why [ inl up ↦ absurd (r up) | inr lacks ↦ absurd (not_missing old (files_of command) good.0 lacks.1) ];
  usage = λ h. absurd (omega (arith, e, h));
  no_command = λ h. absurd (no_none command h);
  refused = λ h t. absurd (no_refusal status 7 h (inr (inr (inl refl))) e);
  refuses = λ f t b. inr (inl e);
  only_audits = λ h. absurd (omega (arith, e, h));
  failed_audit = λ h t. absurd (omega (arith, e, h));
  fails_audit = λ x t b. inr (inl e);
  shelf_fault = λ h. why;
  sink_fault = λ h. absurd (omega (arith, e, h));
  others = λ t name apart. stays name;
  nothing_put = λ h t. stays;
  unless_accepted = λ t not. stays;
  put_where_accepted = λ h t. absurd (omega (arith, e, h));
  said = λ h t u. absurd (not_good status (inl e) h);
  part_said = λ h t u. absurd (omega (arith, e, h));
  silent = λ h u. quiet u;
  begun = λ h t u. inl (quiet u);
}

-- there was no memory
pub memory_failed : (T : Type 0) (old new : Held) (shelf tells : Type 0) (before after : List ℕ) (sink : Type 0) (command : Command) (status : ℕ)
    → (T → SameNames old new) → status ≡ 9 → (tells → after ≡ before)
    → Leaves T old new shelf tells before after sink (Some command) status
memory_failed T old new shelf tells before after sink command status stays e quiet = record {
  statuses = inr (inr (inr (inr (inr (inl e)))));
  done = λ h t. absurd (omega (arith, e, h));
  audited = λ h t. absurd (omega (arith, e, h));
  complete = λ t good r s. inr e;
  usage = λ h. absurd (omega (arith, e, h));
  no_command = λ h. absurd (no_none command h);
  refused = λ h t. absurd (no_refusal status 9 h (inr (inr (inr (inr refl)))) e);
  refuses = λ f t b. inr (inr (inr e));
  only_audits = λ h. absurd (omega (arith, e, h));
  failed_audit = λ h t. absurd (omega (arith, e, h));
  fails_audit = λ x t b. inr (inr (inr e));
  shelf_fault = λ h. absurd (omega (arith, e, h));
  sink_fault = λ h. absurd (omega (arith, e, h));
  others = λ t name apart. stays t name;
  nothing_put = λ h t. stays t;
  unless_accepted = λ t not. stays t;
  put_where_accepted = λ h t. absurd (omega (arith, e, h));
  said = λ h t u. absurd (not_good status (inr (inr e)) h);
  part_said = λ h t u. absurd (omega (arith, e, h));
  silent = λ h u. quiet u;
  begun = λ h t u. inl (quiet u);
}

-- what a report says, by the sort of the failure
refused_by : {A : Type 0} (T : Type 0) (old new : Held) (shelf tells : Type 0) (before after : List ℕ) (sink : Type 0) (command : Command) (Is : A → Type 0) (failure : Failure) (status : ℕ)
    → SameNames old new → Reads T old shelf (files_of command) Is (Err failure)
    → Said tells before after sink (line_of failure) (status_of failure) status
    → ((status_of failure ≡ 7) ⊎ (status_of failure ≡ 9) → (status ≡ status_of failure) × (tells → after ≡ before))
    → Sort failure → Leaves T old new shelf tells before after sink (Some command) status
refused_by T old new shelf tells before after sink command Is failure status stays reads (Whole e wrote) silent (Refusal_ is seven nine) =
    refused_whole T old new shelf tells before after sink command failure status stays (λ t. reads.explained t seven nine) (subst IsRefusal (sym e) is) e wrote
refused_by T old new shelf tells before after sink command Is failure status stays reads (Part e rose wrote) silent (Refusal_ is seven nine) =
    refused_part T old new shelf tells before after sink command failure status stays (λ t. reads.explained t seven nine) e rose wrote
refused_by T old new shelf tells before after sink command Is failure status stays reads said silent (Outside is) =
    let seven : status_of failure ≡ 7 = ap status_of is in
    let quiet = silent (inl seven) in
    shelf_failed T old new shelf tells before after sink command status stays (reads.shelf (ap Err is)) (quiet.0 ∙ seven) quiet.1
refused_by T old new shelf tells before after sink command Is failure status stays reads said silent (Wanting is) =
    let nine : status_of failure ≡ 9 = ap status_of is in
    let quiet = silent (inr nine) in
    memory_failed T old new shelf tells before after sink command status (λ t. stays) (quiet.0 ∙ nine) quiet.1

pub refused_call : {A : Type 0} (T : Type 0) (old new : Held) (shelf tells : Type 0) (before after : List ℕ) (sink : Type 0) (command : Command) (Is : A → Type 0) (failure : Failure) (status : ℕ)
    → SameNames old new → Reads T old shelf (files_of command) Is (Err failure)
    → Said tells before after sink (line_of failure) (status_of failure) status
    → ((status_of failure ≡ 7) ⊎ (status_of failure ≡ 9) → (status ≡ status_of failure) × (tells → after ≡ before))
    → Leaves T old new shelf tells before after sink (Some command) status
refused_call T old new shelf tells before after sink command Is failure status stays reads said silent =
    refused_by T old new shelf tells before after sink command Is failure status stays reads said silent (sort failure)

-- ---- all is done

-- the text was written
done_whole : (T : Type 0) (old new : Held) (shelf tells : Type 0) (before after : List ℕ) (sink : Type 0) (command : Command) (text : List ℕ) (status : ℕ)
    → (T → Accepts old (Some command)) → (T → Audited old (Some command)) → (T → HasPut old new command) → (T → (name : List ℕ) → (Puts (Some command) name → ⊥) → new name ≡ old name)
    → (T → Prints old new command text) → status ≡ 0 → (tells → after ≡ before ++ text)
    → Leaves T old new shelf tells before after sink (Some command) status
done_whole T old new shelf tells before after sink command text status good known put others prints e wrote = record {
  statuses = inl e;
  done = λ h t. (good t, put t);
  audited = λ h t. known t;
  complete = λ t accepted r s. inl e;
  usage = λ h. absurd (omega (arith, e, h));
  no_command = λ h. absurd (no_none command h);
  refused = λ h t. absurd (no_refusal status 0 h (inl refl) e);
  refuses = λ f t b. absurd (not_both_ways old (files_of command) f (good t).0 b);
  only_audits = λ h. absurd (omega (arith, e, h));
  failed_audit = λ h t. absurd (omega (arith, e, h));
  fails_audit = λ x t b. absurd (passes_or_fails old command x (good t).1 b);
  shelf_fault = λ h. absurd (omega (arith, e, h));
  sink_fault = λ h. absurd (omega (arith, e, h));
  others = others;
  nothing_put = λ h t. absurd (not_nothing status (inl e) h);
  unless_accepted = λ t not. absurd (not (good t));
  put_where_accepted = λ h t. absurd (omega (arith, e, h));
  said = λ h t u. (text, inr ((good t).0, prints t), wrote u);
  part_said = λ h t u. absurd (omega (arith, e, h));
  silent = λ h u. absurd (not_silent status (inr (inl e)) h);
  begun = λ h t u. absurd (not_nine status (inr (inl e)) h);
}

-- a part of it stands
done_part : (T : Type 0) (old new : Held) (shelf tells : Type 0) (before after : List ℕ) (sink : Type 0) (command : Command) (text : List ℕ) (status : ℕ)
    → (T → Accepts old (Some command)) → (T → HasPut old new command) → (T → (name : List ℕ) → (Puts (Some command) name → ⊥) → new name ≡ old name)
    → (T → Prints old new command text) → status ≡ 8 → sink → (tells → AppendsPart before after text)
    → Leaves T old new shelf tells before after sink (Some command) status
done_part T old new shelf tells before after sink command text status good put others prints e rose wrote = record {
  statuses = inr (inr (inr (inr (inl e))));
  done = λ h t. absurd (omega (arith, e, h));
  audited = λ h t. absurd (omega (arith, e, h));
  complete = λ t accepted r s. absurd (s rose);
  usage = λ h. absurd (omega (arith, e, h));
  no_command = λ h. absurd (no_none command h);
  refused = λ h t. absurd (no_refusal status 8 h (inr (inr (inr (inl refl)))) e);
  refuses = λ f t b. inr (inr (inl e));
  only_audits = λ h. absurd (omega (arith, e, h));
  failed_audit = λ h t. absurd (omega (arith, e, h));
  fails_audit = λ x t b. inr (inr (inl e));
  shelf_fault = λ h. absurd (omega (arith, e, h));
  sink_fault = λ h. rose;
  others = others;
  nothing_put = λ h t. absurd (not_nothing status (inr (inr e)) h);
  unless_accepted = λ t not. absurd (not (good t));
  put_where_accepted = λ h t. inl (good t, put t);
  said = λ h t u. absurd (not_good status (inr (inl e)) h);
  part_said = λ h t u. (text, inr ((good t).0, prints t), wrote u);
  silent = λ h u. absurd (not_silent status (inr (inr e)) h);
  begun = λ h t u. absurd (not_nine status (inr (inr e)) h);
}

-- where nothing is put, the text of a call that is done
pub done_call : (T : Type 0) (old new : Held) (shelf tells : Type 0) (before after : List ℕ) (sink : Type 0) (command : Command) (text : List ℕ) (work : Result (Unit {0}) SinkFault) (status : ℕ)
    → SameNames old new → (T → Accepts old (Some command)) → (T → Audited old (Some command)) → (T → HasPut old new command) → (T → Prints old new command text)
    → Writes tells before after sink text work → status ≡ (if is_ok work then 0 else 8)
    → Leaves T old new shelf tells before after sink (Some command) status
done_call T old new shelf tells before after sink command text (Ok u) status stays good known put prints writes e =
    done_whole T old new shelf tells before after sink command text status good known put (λ t name apart. stays name) prints e writes.ok
done_call T old new shelf tells before after sink command text (Err f) status stays good known put prints writes e =
    done_part T old new shelf tells before after sink command text status good put (λ t name apart. stays name) prints e writes.fault writes.part

-- the shelf failed at the put
put_failed : (T : Type 0) (old new : Held) (shelf tells : Type 0) (before after : List ℕ) (sink : Type 0) (command : Command) (status : ℕ)
    → (T → Accepts old (Some command)) → (T → (name : List ℕ) → (Puts (Some command) name → ⊥) → new name ≡ old name)
    → shelf → status ≡ 7 → (tells → after ≡ before)
    → Leaves T old new shelf tells before after sink (Some command) status
put_failed T old new shelf tells before after sink command status good others rose e quiet = record {
  statuses = inr (inr (inr (inl e)));
  done = λ h t. absurd (omega (arith, e, h));
  audited = λ h t. absurd (omega (arith, e, h));
  complete = λ t accepted r s. absurd (r rose);
  usage = λ h. absurd (omega (arith, e, h));
  no_command = λ h. absurd (no_none command h);
  refused = λ h t. absurd (no_refusal status 7 h (inr (inr (inl refl))) e);
  refuses = λ f t b. inr (inl e);
  only_audits = λ h. absurd (omega (arith, e, h));
  failed_audit = λ h t. absurd (omega (arith, e, h));
  fails_audit = λ x t b. inr (inl e);
  shelf_fault = λ h. inl rose;
  sink_fault = λ h. absurd (omega (arith, e, h));
  others = others;
  nothing_put = λ h t. absurd (not_nothing status (inr (inl e)) h);
  unless_accepted = λ t not. absurd (not (good t));
  put_where_accepted = λ h t. absurd (omega (arith, e, h));
  said = λ h t u. absurd (not_good status (inl e) h);
  part_said = λ h t u. absurd (omega (arith, e, h));
  silent = λ h u. quiet u;
  begun = λ h t u. inl (quiet u);
}

put_speaks : (s : ℕ) → (s ≡ 0) ⊎ (s ≡ 8) → (s ≡ 7) ⊎ (s ≡ 9) → ⊥
put_speaks s a b = grind arith

-- a file was put, and a line written
pub put_call : (T : Type 0) (old new : Held) (shelf tells : Type 0) (before after : List ℕ) (sink : Type 0) (command : Command) (name file line : List ℕ) (status : ℕ)
    → (T → Accepts old (Some command)) → (T → Audited old (Some command)) → (T → new name ≡ Some file → HasPut old new command) → Puts (Some command) name → (T → new name ≡ Some file → Prints old new command line)
    → PutsAndSays T old new shelf tells before after sink name file line status
    → Leaves T old new shelf tells before after sink (Some command) status
put_call T old new shelf tells before after sink command name file line status good known put is prints p =
    let others : T → (n : List ℕ) → (Puts (Some command) n → ⊥) → new n ≡ old n =
    λ t n apart. p.others t n (λ e. apart (subst (λ (m : List ℕ). Puts (Some command) m) (sym e) is)) in
    elim p.statuses [
      | inl e ↦ done_whole T old new shelf tells before after sink command line status good known (λ t. put t (p.put (inl e) t)) others (λ t. prints t (p.put (inl e) t)) e (p.said e)
      | inr a ↦ elim a [
        | inl e ↦ put_failed T old new shelf tells before after sink command status good others (p.shelf e) e (p.silent (inl e))
        | inr b ↦ elim b [
          | inl e ↦ done_part T old new shelf tells before after sink command line status good (λ t. put t (p.put (inr e) t)) others (λ t. prints t (p.put (inr e) t)) e (p.sink e) (p.part e)
          | inr e ↦ memory_failed T old new shelf tells before after sink command status (p.memory e) e (p.silent (inr e))
        ]
      ]
    ]

-- a file was put, and then a text was written or a part of it
pub put_told : (T : Type 0) (old new : Held) (shelf tells : Type 0) (before after : List ℕ) (sink : Type 0) (name file text : List ℕ) (work : Result (Unit {0}) SinkFault) (status : ℕ)
    → (T → new name ≡ Some file) → (T → SameOthers name old new) → Writes tells before after sink text work → status ≡ (if is_ok work then 0 else 8)
    → PutsAndSays T old new shelf tells before after sink name file text status
put_told T old new shelf tells before after sink name file text (Ok u) status put others writes e = record {
  statuses = inl e;
  put = λ h t. put t;
  others = others;
  memory = λ h t. absurd (omega (arith, e, h));
  shelf = λ h. absurd (omega (arith, e, h));
  sink = λ h. absurd (omega (arith, e, h));
  said = λ h u. writes.ok u;
  part = λ h u. absurd (omega (arith, e, h));
  silent = λ h u. absurd (put_speaks status (inl e) h);
}
put_told T old new shelf tells before after sink name file text (Err f) status put others writes e = record {
  statuses = inr (inr (inl e));
  put = λ h t. put t;
  others = others;
  memory = λ h t. absurd (omega (arith, e, h));
  shelf = λ h. absurd (omega (arith, e, h));
  sink = λ h. writes.fault;
  said = λ h u. absurd (omega (arith, e, h));
  part = λ h u. writes.part u;
  silent = λ h u. absurd (put_speaks status (inr e) h);
}

-- what a put leaves of a shelf that was read before
pub put_moved : (told now : Bool) (old mid new : Held) (shelf later tells : Type 0) (before after : List ℕ) (sink : Type 0) (name file line : List ℕ) (status : ℕ)
    → now ≡ told → SameNames old mid → (later → shelf) → PutsAndSays (IsTrue now) mid new later tells before after sink name file line status
    → PutsAndSays (IsTrue told) old new shelf tells before after sink name file line status
put_moved told now old mid new shelf later tells before after sink name file line status e stays up p =
    let a : PutsAndSays (IsTrue told) mid new later tells before after sink name file line status =
    subst (λ (b : Bool). PutsAndSays (IsTrue b) mid new later tells before after sink name file line status) e p in
    let b : PutsAndSays (IsTrue told) old new later tells before after sink name file line status =
    subst (λ (h : Held). PutsAndSays (IsTrue told) h new later tells before after sink name file line status) (same_held old mid stays) a in
    record {
      statuses = b.statuses;
      put = b.put;
      others = b.others;
      memory = b.memory;
      shelf = λ h. up (b.shelf h);
      sink = b.sink;
      said = b.said;
      part = b.part;
      silent = b.silent;
    }

-- ---- an audit does not pass

-- the line of it was written
unpassed_whole : (T : Type 0) (old new : Held) (shelf tells : Type 0) (before after : List ℕ) (sink : Type 0) (image input : List ℕ) (steps : ℕ) (error : AuditError) (status : ℕ)
    → SameNames old new → (T → FailsAudit old (Some (Audit image input steps)) error) → status ≡ 10 → (tells → after ≡ before ++ no_line error)
    → Leaves T old new shelf tells before after sink (Some (Audit image input steps)) status
unpassed_whole T old new shelf tells before after sink image input steps error status stays fails e wrote = record {
  statuses = inr (inr (inr (inr (inr (inr e)))));
  done = λ h t. absurd (omega (arith, e, h));
  audited = λ h t. absurd (omega (arith, e, h));
  complete = λ t accepted r s. absurd (passes_or_fails old (Audit image input steps) error accepted.1 (fails t));
  usage = λ h. absurd (omega (arith, e, h));
  no_command = λ h. absurd (no_none (Audit image input steps) h);
  refused = λ h t. absurd (not_ten status h e);
  refuses = λ f t b. absurd (not_both_ways old (ImageFile image ∷ InputFile input ∷ []) f (run_good old image input _ (fails t)) b);
  only_audits = λ h. tt;
  failed_audit = λ h t. (error, fails t);
  fails_audit = λ x t b. inl e;
  shelf_fault = λ h. absurd (omega (arith, e, h));
  sink_fault = λ h. absurd (omega (arith, e, h));
  others = λ t name apart. stays name;
  nothing_put = λ h t. stays;
  unless_accepted = λ t not. stays;
  put_where_accepted = λ h t. absurd (omega (arith, e, h));
  said = λ h t u. (no_line error, inr (run_good old image input _ (fails t), tells_no old image input steps error (fails t)), wrote u);
  part_said = λ h t u. absurd (omega (arith, e, h));
  silent = λ h u. absurd (ten_speaks status e h);
  begun = λ h t u. absurd (omega (arith, e, h));
}

-- a part of it stands
unpassed_part : (T : Type 0) (old new : Held) (shelf tells : Type 0) (before after : List ℕ) (sink : Type 0) (image input : List ℕ) (steps : ℕ) (error : AuditError) (status : ℕ)
    → SameNames old new → (T → FailsAudit old (Some (Audit image input steps)) error) → status ≡ 8 → sink → (tells → AppendsPart before after (no_line error))
    → Leaves T old new shelf tells before after sink (Some (Audit image input steps)) status
unpassed_part T old new shelf tells before after sink image input steps error status stays fails e rose wrote = record {
  statuses = inr (inr (inr (inr (inl e))));
  done = λ h t. absurd (omega (arith, e, h));
  audited = λ h t. absurd (omega (arith, e, h));
  complete = λ t accepted r s. absurd (s rose);
  usage = λ h. absurd (omega (arith, e, h));
  no_command = λ h. absurd (no_none (Audit image input steps) h);
  refused = λ h t. absurd (no_refusal status 8 h (inr (inr (inr (inl refl)))) e);
  refuses = λ f t b. inr (inr (inl e));
  only_audits = λ h. absurd (omega (arith, e, h));
  failed_audit = λ h t. absurd (omega (arith, e, h));
  fails_audit = λ x t b. inr (inr (inl e));
  shelf_fault = λ h. absurd (omega (arith, e, h));
  sink_fault = λ h. rose;
  others = λ t name apart. stays name;
  nothing_put = λ h t. stays;
  unless_accepted = λ t not. stays;
  put_where_accepted = λ h t. inr (λ accepted. passes_or_fails old (Audit image input steps) error accepted.1 (fails t), stays);
  said = λ h t u. absurd (not_good status (inr (inl e)) h);
  part_said = λ h t u. (no_line error, inr (run_good old image input _ (fails t), tells_no old image input steps error (fails t)), wrote u);
  silent = λ h u. absurd (not_silent status (inr (inr e)) h);
  begun = λ h t u. absurd (not_nine status (inr (inr e)) h);
}

unpassed_said : (T : Type 0) (old new : Held) (shelf tells : Type 0) (before after : List ℕ) (sink : Type 0) (image input : List ℕ) (steps : ℕ) (error : AuditError) (good status : ℕ)
    → SameNames old new → (T → FailsAudit old (Some (Audit image input steps)) error) → good ≡ 10 → Said tells before after sink (no_line error) good status
    → Leaves T old new shelf tells before after sink (Some (Audit image input steps)) status
unpassed_said T old new shelf tells before after sink image input steps error good status stays fails ten (Whole e wrote) =
    unpassed_whole T old new shelf tells before after sink image input steps error status stays fails (e ∙ ten) wrote
unpassed_said T old new shelf tells before after sink image input steps error good status stays fails ten (Part e rose wrote) =
    unpassed_part T old new shelf tells before after sink image input steps error status stays fails e rose wrote

-- why it does not pass was said, or there was no memory
pub unpassed_call : (T : Type 0) (old new : Held) (shelf tells : Type 0) (before after : List ℕ) (sink : Type 0) (image input : List ℕ) (steps : ℕ) (error : AuditError) (status : ℕ)
    → SameNames old new → ((error ≡ audits.OutOfMemory → ⊥) → T → FailsAudit old (Some (Audit image input steps)) error)
    → Said tells before after sink (no_line error) (audit_status error) status
    → (error ≡ audits.OutOfMemory → (status ≡ 9) × (tells → after ≡ before))
    → Leaves T old new shelf tells before after sink (Some (Audit image input steps)) status
unpassed_call T old new shelf tells before after sink image input steps (audits.Lint a r) status stays fails said silent =
    unpassed_said T old new shelf tells before after sink image input steps (audits.Lint a r) 10 status stays (fails (λ q. cc)) refl said
unpassed_call T old new shelf tells before after sink image input steps (audits.Reports n) status stays fails said silent =
    unpassed_said T old new shelf tells before after sink image input steps (audits.Reports n) 10 status stays (fails (λ q. cc)) refl said
unpassed_call T old new shelf tells before after sink image input steps (audits.Misplaced n a) status stays fails said silent =
    unpassed_said T old new shelf tells before after sink image input steps (audits.Misplaced n a) 10 status stays (fails (λ q. cc)) refl said
unpassed_call T old new shelf tells before after sink image input steps audits.OutOfMemory status stays fails said silent =
    let quiet = silent refl in
    memory_failed T old new shelf tells before after sink (Audit image input steps) status (λ t. stays) quiet.0 quiet.1

-- ---- a run of a source is shown

speaks : (s : ℕ) → s ≡ 9 → (s ≡ 7) ⊎ ((s ≡ 9) × (Unit {0} → ⊥)) → ⊥
speaks s e (inl h) = omega (arith, e, h)
speaks s e (inr h) = h.1 tt

-- there was no memory for the rest of it
shown_short : (T : Type 0) (old new : Held) (shelf tells : Type 0) (before after : List ℕ) (sink : Type 0) (source input : List ℕ) (turns : ℕ) (text : List ℕ) (status : ℕ)
    → SameNames old new → (T → AreGood old (files_of (Eval source input turns))) → (T → Prints old new (Eval source input turns) text) → status ≡ 9
    → (tells → AppendsPart before after text) → Leaves T old new shelf tells before after sink (Some (Eval source input turns)) status
shown_short T old new shelf tells before after sink source input turns text status stays good prints e wrote = record {
  statuses = inr (inr (inr (inr (inr (inl e)))));
  done = λ h t. absurd (omega (arith, e, h));
  audited = λ h t. absurd (omega (arith, e, h));
  complete = λ t accepted r s. inr e;
  usage = λ h. absurd (omega (arith, e, h));
  no_command = λ h. absurd (no_none (Eval source input turns) h);
  refused = λ h t. absurd (no_refusal status 9 h (inr (inr (inr (inr refl)))) e);
  refuses = λ f t b. inr (inr (inr e));
  only_audits = λ h. absurd (omega (arith, e, h));
  failed_audit = λ h t. absurd (omega (arith, e, h));
  fails_audit = λ x t b. inr (inr (inr e));
  shelf_fault = λ h. absurd (omega (arith, e, h));
  sink_fault = λ h. absurd (omega (arith, e, h));
  others = λ t name apart. stays name;
  nothing_put = λ h t. stays;
  unless_accepted = λ t not. stays;
  put_where_accepted = λ h t. absurd (omega (arith, e, h));
  said = λ h t u. absurd (not_good status (inr (inr e)) h);
  part_said = λ h t u. absurd (omega (arith, e, h));
  silent = λ h u. absurd (speaks status e h);
  begun = λ h t u. inr (text, inr (good t, prints t), wrote u);
}

-- it was shown whole, or the sink failed, or memory was wanting
pub shown_call : (T : Type 0) (old new : Held) (shelf tells : Type 0) (before after : List ℕ) (sink : Type 0) (source input : List ℕ) (turns : ℕ) (text : List ℕ)
    (work : Result (Unit {0}) ShowError) (status : ℕ) → SameNames old new → (T → AreGood old (files_of (Eval source input turns))) → (T → Prints old new (Eval source input turns) text)
    → OnOk work (tells → after ≡ before ++ text) → (IsErrOf work shows.Sink → sink) → OnErr work (tells → AppendsPart before after text) → status ≡ run_status work
    → Leaves T old new shelf tells before after sink (Some (Eval source input turns)) status
shown_call T old new shelf tells before after sink source input turns text (Ok u) status stays good prints ok fault part e =
    done_whole T old new shelf tells before after sink (Eval source input turns) text status (λ t. (good t, tt)) (λ t. tt) (λ t. tt) (λ t name apart. stays name) prints e ok
shown_call T old new shelf tells before after sink source input turns text (Err shows.Sink) status stays good prints ok fault part e =
    done_part T old new shelf tells before after sink (Eval source input turns) text status (λ t. (good t, tt)) (λ t. tt) (λ t name apart. stays name) prints e (fault refl) part
shown_call T old new shelf tells before after sink source input turns text (Err shows.OutOfMemory) status stays good prints ok fault part e =
    shown_short T old new shelf tells before after sink source input turns text status stays good prints e part

-- ---- no command

not_usage : {X : Type 0} (s : ℕ) → s ≡ 2 → (s ≡ 7) ⊎ ((s ≡ 9) × X) → ⊥
not_usage s a (inl b) = grind (arith, a, b)
not_usage s a (inr b) = grind (arith, a, b.0)

is_usage : (s : ℕ) → s ≡ 2 → IsRefusal s → ⊥
is_usage s a b = grind arith

pub no_command : (T : Type 0) (held : Held) (shelf tells : Type 0) (before after : List ℕ) (sink : Type 0) (line : List ℕ) (status : ℕ)
    → Says held held None line → Said tells before after sink line 2 status → Leaves T held held shelf tells before after sink None status
no_command T held shelf tells before after sink line status says (Whole e wrote) = record {
  statuses = inr (inl e);
  done = λ h t. absurd (omega (arith, e, h));
  audited = λ h t. absurd (omega (arith, e, h));
  complete = λ t accepted r s. absurd accepted;
  usage = λ h. refl;
  no_command = λ h. inl e;
  refused = λ h t. absurd (is_usage status e h);
  refuses = λ f t b. absurd b;
  only_audits = λ h. absurd (omega (arith, e, h));
  failed_audit = λ h t. absurd (omega (arith, e, h));
  fails_audit = λ x t b. absurd b;
  shelf_fault = λ h. absurd (omega (arith, e, h));
  sink_fault = λ h. absurd (omega (arith, e, h));
  others = λ t name apart. refl;
  nothing_put = λ h t name. refl;
  unless_accepted = λ t not name. refl;
  put_where_accepted = λ h t. absurd (omega (arith, e, h));
  said = λ h t u. (line, says, wrote u);
  part_said = λ h t u. absurd (omega (arith, e, h));
  silent = λ h u. absurd (not_usage status e h);
  begun = λ h t u. absurd (omega (arith, e, h));
}
no_command T held shelf tells before after sink line status says (Part e rose wrote) = record {
  statuses = inr (inr (inr (inr (inl e))));
  done = λ h t. absurd (omega (arith, e, h));
  audited = λ h t. absurd (omega (arith, e, h));
  complete = λ t accepted r s. absurd accepted;
  usage = λ h. refl;
  no_command = λ h. inr e;
  refused = λ h t. absurd (no_refusal status 8 h (inr (inr (inr (inl refl)))) e);
  refuses = λ f t b. absurd b;
  only_audits = λ h. absurd (omega (arith, e, h));
  failed_audit = λ h t. absurd (omega (arith, e, h));
  fails_audit = λ x t b. absurd b;
  shelf_fault = λ h. absurd (omega (arith, e, h));
  sink_fault = λ h. rose;
  others = λ t name apart. refl;
  nothing_put = λ h t name. refl;
  unless_accepted = λ t not name. refl;
  put_where_accepted = λ h t. inr (λ accepted. accepted, λ name. refl);
  said = λ h t u. absurd (not_good status (inr (inl e)) h);
  part_said = λ h t u. (line, says, wrote u);
  silent = λ h u. absurd (not_silent status (inr (inr e)) h);
  begun = λ h t u. absurd (not_nine status (inr (inr e)) h);
}
