-- Checks that all hold refuse nothing, and the other way round.
use Rattle.std.proofs.Common.{◌≡◌, ℕ, Bool, true, false, ap, refl, ◌∙◌, List, [], ◌∷◌}
use Rattle.std.specs.Prelude.{IsTrue, ◌==◌, Option, Some, None, if◌then◌else◌}
use Rattle.elf_image.specs.declared.layout.Field.{Field}
use Rattle.elf_image.specs.declared.read.ImageError.{ImageError}
use Rattle.elf_image.specs.declared.read.ImageError.TheVariants.{BadHeader}
use Rattle.elf_image.specs.Held.{number_at, has_fields}
use Rattle.elf_image.specs.Refusal.{Check, first_fault, first_of, field_checks, header_checks, segment_checks, size_checks, fixed_checks, list_checks, refusal}
use Rattle.elf_image.proofs.Has.{both, and_left, and_right}

-- each check holds
abbrev pub AllHold : List Check → Type 0
AllHold [] = Unit {0}
AllHold (c ∷ cs) = IsTrue c.holds × AllHold cs

no_fault_here : (b : Bool) (later : Option ImageError) (e : ImageError) → (if b then later else Some e) ≡ None → (b ≡ true) × (later ≡ None)
no_fault_here true later e h = (refl, h)
no_fault_here false later e h = absurd (cc)

none_if_true : (b : Bool) (later : Option ImageError) (e : ImageError) → b ≡ true → later ≡ None → (if b then later else Some e) ≡ None
none_if_true true later e h r = r
none_if_true false later e h r = absurd (cc)

pub all_hold : (cs : List Check) → first_fault cs ≡ None → AllHold cs
all_hold [] h = tt
all_hold (c ∷ cs) h =
    let r : (c.holds ≡ true) × (first_fault cs ≡ None) = no_fault_here c.holds (first_fault cs) c.refusal h in
    (r.0, all_hold cs r.1)

pub no_fault : (cs : List Check) → AllHold cs → first_fault cs ≡ None
no_fault [] h = refl
no_fault (c ∷ cs) h = none_if_true c.holds (first_fault cs) c.refusal h.0 (no_fault cs h.1)

-- the checks of a table's fields
pub fields_hold : (fs : List Field) (bytes : List ℕ) → first_fault (field_checks fs bytes) ≡ None → IsTrue (has_fields fs bytes)
unfolding field_checks has_fields
fields_hold [] bytes h = refl
fields_hold (f ∷ fs) bytes h =
    let r = no_fault_here (number_at f.size f.at bytes == f.value) (first_fault (field_checks fs bytes)) (BadHeader f.at) h in
    both r.0 (fields_hold fs bytes r.1)

pub no_field_fault : (fs : List Field) (bytes : List ℕ) → IsTrue (has_fields fs bytes) → first_fault (field_checks fs bytes) ≡ None
unfolding field_checks has_fields
no_field_fault [] bytes h = refl
no_field_fault (f ∷ fs) bytes h =
    none_if_true (number_at f.size f.at bytes == f.value) (first_fault (field_checks fs bytes)) (BadHeader f.at)
    (and_left (number_at f.size f.at bytes == f.value) (has_fields fs bytes) h)
    (no_field_fault fs bytes (and_right (number_at f.size f.at bytes == f.value) (has_fields fs bytes) h))

-- neither of two refuses
pub neither : (a b : Option ImageError) → first_of a b ≡ None → (a ≡ None) × (b ≡ None)
neither None b h = (refl, h)
neither (Some e) b h = absurd (cc)

pub none_of : (a b : Option ImageError) → a ≡ None → b ≡ None → first_of a b ≡ None
none_of None b e h = h
none_of (Some x) b e h = absurd (cc)

-- no group of checks refuses
pub record Passed (bytes : List ℕ) : Type 0 where
  pub header : first_fault (header_checks bytes) ≡ None
  pub segments : first_fault (segment_checks bytes) ≡ None
  pub size : first_fault (size_checks bytes) ≡ None
  pub fixed : first_fault (fixed_checks bytes) ≡ None
  pub lists : first_fault (list_checks bytes) ≡ None

pub passed : (bytes : List ℕ) → refusal bytes ≡ None → Passed bytes
unfolding refusal
passed bytes h =
    let a = neither (first_fault (header_checks bytes)) _ h in
    let b = neither (first_fault (segment_checks bytes)) _ a.1 in
    let c = neither (first_fault (size_checks bytes)) _ b.1 in
    let d = neither (first_fault (fixed_checks bytes)) (first_fault (list_checks bytes)) c.1 in
    record { header = a.0; segments = b.0; size = c.0; fixed = d.0; lists = d.1 }

pub not_refused : (bytes : List ℕ) → Passed bytes → refusal bytes ≡ None
unfolding refusal
not_refused bytes p = none_of _ _ p.header (none_of _ _ p.segments (none_of _ _ p.size (none_of _ _ p.fixed p.lists)))

-- the first of two refusals, told the one or the other way
pub first_refuses : (a b whole : Option ImageError) (e : ImageError) → Some e ≡ a → first_of a b ≡ whole → Some e ≡ whole
first_refuses a b whole e h w = ap (λ (x : Option ImageError). first_of x b) h ∙ w

pub later_refuses : (a b whole : Option ImageError) → None ≡ a → first_of a b ≡ whole → b ≡ whole
later_refuses a b whole h w = ap (λ (x : Option ImageError). first_of x b) h ∙ w

pub whole_refusal : (bytes : List ℕ) → first_of (first_fault (header_checks bytes)) (first_of (first_fault (segment_checks bytes)) (first_of (first_fault (size_checks bytes)) (first_of (first_fault (fixed_checks bytes)) (first_fault (list_checks bytes))))) ≡ refusal bytes
unfolding refusal
whole_refusal bytes = refl
