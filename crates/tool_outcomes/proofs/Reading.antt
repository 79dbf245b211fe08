-- What is known of the files that are read one after another.
use Rattle.std.proofs.Common.{◌≡◌, ◌≢◌, ℕ, ◌≤◌, ◌<◌, Bool, List, [], ◌∷◌, length, arith, refl, sym, ◌∙◌, subst, inl, inr}
use Rattle.std.proofs.Math.Path.{fun_ext}
use Rattle.std.specs.Prelude.{◌⊎◌, Some, None, Result, Ok, Err, IfOk, IfErr, IsTrue}
use Rattle.hard_shelf.specs.Outside.{Rose, SameNames, HoldsMore}
use Rattle.tool_outcomes.specs.declared.failure.Failure.{Failure}
use Rattle.elf_image.specs.Refusal.{refusal}
use Rattle.elf_image.specs.declared.read.ImageError.{ImageError}
use Rattle.elf_image.specs.declared.read.ImageError.TheVariants as images
use Rattle.hard_lines.specs.Inputs.{inputs}
use Rattle.hard_lines.specs.declared.inputs.LinesError.{LinesError}
use Rattle.hard_lines.specs.declared.inputs.LinesError.TheVariants as lines
use Rattle.tool_outcomes.specs.declared.failure.Failure.TheVariants.{Source, Image, Input, Shelf, Memory}
use Rattle.tool_outcomes.specs.Files.{Held, Holds, File, SourceFile, ImageFile, InputFile, MadeFile, bytes_of, IsBad, BadSource, BadMade, BadImage, BadInput, HoldsGood, longest_image, longest_input}
use Rattle.program_maker.specs.Text.{made_text}
use Rattle.tool_outcomes.specs.Parts.{Explains, Reads, RefusesBytes}

-- a count that rose in a later part rose in the whole
pub rises : (a b c : ℕ) → a ≤ b → Rose b c → Rose a c
rises a b c h rose = grind (arith, h, rose)

-- there was no memory
pub memory_reads : {A : Type 0} (T : Type 0) (held : Held) (rose : Type 0) (files : List File) (Is : A → Type 0) → Reads T held rose files Is (Err Memory)
memory_reads T held rose files Is = record { ok = tt; explained = λ t seven nine. absurd (nine refl); shelf = λ is. absurd (cc) }

-- the file is good
pub good_reads : {A : Type 0} (T : Type 0) (held : Held) (rose : Type 0) (files : List File) (Is : A → Type 0) (a : A) → (T → Is a) → Reads T held rose files Is (Ok a)
good_reads T held rose files Is a is = record { ok = is; explained = tt; shelf = λ bad. absurd (cc) }

-- what the file holds is refused
pub bad_reads : {A : Type 0} (T : Type 0) (held : Held) (rose : Type 0) (file : File) (Is : A → Type 0) (bytes : List ℕ) (failure : Failure)
    → failure ≢ Shelf → (T → bytes_of held file ≡ Some bytes) → IsBad bytes file failure → Reads T held rose (file ∷ []) Is (Err failure)
bad_reads T held rose file Is bytes failure apart is bad =
    record { ok = tt; explained = λ t seven nine. inl (bytes, is t, bad); shelf = λ e. absurd (apart (cc)) }

-- the file isn't taken: it is too large, or the outside failed
pub none_reads : {A : Type 0} (T : Type 0) (held : Held) (rose : Type 0) (file : File) (Is : A → Type 0) (most : ℕ) (large failure : Failure)
    → ((bytes : List ℕ) → most < length bytes → IsBad bytes file large)
    → (T → Explains (λ why. (why ≡ large) × HoldsMore (bytes_of held file) most) failure)
    → (failure ≡ Shelf → rose ⊎ (T × (bytes_of held file ≡ None)))
    → Reads T held rose (file ∷ []) Is (Err failure)
none_reads T held rose file Is most large failure bad explained shelf = record {
  ok = tt;
  explained = λ t seven nine.
      let more : (failure ≡ large) × HoldsMore (bytes_of held file) most = explained t seven nine in
      let held_more : HoldsMore (bytes_of held file) most = more.1 in
      inl (held_more.0, held_more.1, subst (λ (f : Failure). IsBad held_more.0 file f) (sym more.0) (bad held_more.0 held_more.2));
  shelf = λ e. elim (shelf (cc)) [ inl up ↦ inl up | inr absent ↦ inr (absent.0, inl absent.1) ];
}

-- where the first file stops the reading, it does so whatever files follow
pub stops : {A B : Type 0} (T : Type 0) (held : Held) (rose : Type 0) (file : File) (files : List File) (Is : A → Type 0) (Js : B → Type 0) (failure : Failure)
    → Reads T held rose (file ∷ []) Is (Err failure) → Reads T held rose (file ∷ files) Js (Err failure)
stops T held rose file files Is Js failure r = record {
  ok = tt;
  explained = λ t seven nine. elim (r.explained t seven nine) [ inl bad ↦ inl bad | inr none ↦ absurd none.1 ];
  shelf = λ e. elim (r.shelf (cc)) [ inl up ↦ inl up | inr lacks ↦ inr (lacks.0, elim lacks.1 [ inl none ↦ inl none | inr none ↦ absurd none.1 ]) ];
}

-- behind a good file the others are read
pub goes_on : {A : Type 0} (T : Type 0) (held : Held) (rose : Type 0) (file : File) (files : List File) (Is Js : A → Type 0) (failure : Failure)
    → (T → HoldsGood held file) → Reads T held rose files Is (Err failure) → Reads T held rose (file ∷ files) Js (Err failure)
goes_on T held rose file files Is Js failure good r = record {
  ok = tt;
  explained = λ t seven nine. inr (good t, r.explained t seven nine);
  shelf = λ e. elim (r.shelf e) [ inl up ↦ inl up | inr lacks ↦ inr (lacks.0, inr (good lacks.0, lacks.1)) ];
}

-- two shelves that hold the same under each name hold the same
pub same_held : (old mid : Held) → SameNames old mid → mid ≡ old
same_held old mid same = fun_ext same

-- what is read of a shelf later is what could be read of it before
pub moved : {A : Type 0} (told now : Bool) (old mid : Held) (rose later : Type 0) (files : List File) (Is : Held → A → Type 0) (work : Result A Failure)
    → now ≡ told → SameNames old mid → (later → rose) → Reads (IsTrue now) mid later files (Is mid) work → Reads (IsTrue told) old rose files (Is old) work
moved {A} told now old mid rose later files Is work e same up r =
    let a : Reads (IsTrue told) mid later files (Is mid) work = subst (λ (b : Bool). Reads (IsTrue b) mid later files (Is mid) work) e r in
    let b : Reads (IsTrue told) old later files (Is old) work = subst (λ (h : Held). Reads (IsTrue told) h later files (Is h) work) (same_held old mid same) a in
    record { ok = b.ok; explained = b.explained; shelf = λ is. elim (b.shelf is) [ inl x ↦ inl (up x) | inr y ↦ inr y ] }

-- a file that was taken is refused, or there was no memory
pub either_reads : {A : Type 0} (T : Type 0) (held : Held) (rose : Type 0) (file : File) (Is : A → Type 0) (bytes : List ℕ) (failure : Failure)
    → (T → bytes_of held file ≡ Some bytes) → (failure ≡ Memory) ⊎ ((failure ≢ Shelf) × IsBad bytes file failure) → Reads T held rose (file ∷ []) Is (Err failure)
either_reads T held rose file Is bytes failure is why = elim why [
  | inl memory ↦ subst (λ (f : Failure). Reads T held rose (file ∷ []) Is (Err f)) (sym memory) (memory_reads T held rose (file ∷ []) Is)
  | inr bad ↦ bad_reads T held rose file Is bytes failure bad.0 is bad.1
]

pub bad_image : (name bytes : List ℕ) (error : ImageError) (failure : Failure) → length bytes ≤ longest_image → ((error ≡ images.OutOfMemory → ⊥) → refusal bytes ≡ Some error)
    → ((error ≡ images.OutOfMemory) × (failure ≡ Memory)) ⊎ ((error ≢ images.OutOfMemory) × (failure ≡ Image error))
    → (failure ≡ Memory) ⊎ ((failure ≢ Shelf) × IsBad bytes (ImageFile name) failure)
bad_image name bytes error failure short first why = elim why [
  | inl memory ↦ inl memory.1
  | inr bad ↦ inr (λ e. let x : Image error ≡ Shelf = sym bad.1 ∙ e in cc, subst (λ (f : Failure). IsBad bytes (ImageFile name) f) (sym bad.1) (BadImage name error short (first bad.0)))
]

pub bad_input : (name bytes : List ℕ) (error : LinesError) (failure : Failure) → length bytes ≤ longest_input → (error ≡ lines.OutOfMemory) ⊎ (inputs bytes ≡ Err error)
    → ((error ≡ lines.OutOfMemory) × (failure ≡ Memory)) ⊎ ((error ≢ lines.OutOfMemory) × (failure ≡ Input error))
    → (failure ≡ Memory) ⊎ ((failure ≢ Shelf) × IsBad bytes (InputFile name) failure)
bad_input name bytes error failure short first why = elim why [
  | inl memory ↦ inl memory.1
  | inr bad ↦ elim first [
    | inl memory ↦ absurd (bad.0 memory)
    | inr is ↦ inr (λ e. let x : Input error ≡ Shelf = sym bad.1 ∙ e in cc, subst (λ (f : Failure). IsBad bytes (InputFile name) f) (sym bad.1) (BadInput name error short is))
  ]
]

-- the source that was taken is compiled, or refused
pub compiled_reads : {A : Type 0} (T : Type 0) (held : Held) (rose : Type 0) (name bytes : List ℕ) (P : List ℕ → A → Type 0) (work : Result A Failure)
    → (T → held name ≡ Some bytes) → IfOk work (P bytes) → IfErr work (RefusesBytes bytes)
    → Reads T held rose (SourceFile name ∷ []) (λ a. Holds held name (λ b. P b a)) work
compiled_reads T held rose name bytes P (Ok a) is ok err = good_reads T held rose (SourceFile name ∷ []) (λ a. Holds held name (λ b. P b a)) a (λ t. (bytes, is t, ok))
compiled_reads T held rose name bytes P (Err f) is ok err =
    either_reads T held rose (SourceFile name) (λ a. Holds held name (λ b. P b a)) bytes f is (elim err [
      | inl memory ↦ inl memory
      | inr bad ↦ inr (λ e. let x : Source bad.0 ≡ Shelf = sym bad.1 ∙ e in cc, subst (λ (f : Failure). IsBad bytes (SourceFile name) f) (sym bad.1) (BadSource name bad.0 bad.2))
    ])

-- a made program is refused, or there was no memory
pub made_reads : (T : Type 0) (held : Held) (rose : Type 0) (number size : ℕ) (failure : Failure) → RefusesBytes (made_text number size) failure
    → Reads T held rose (MadeFile number size ∷ []) (λ (x : Unit {0}). Unit {0}) (Err failure)
made_reads T held rose number size failure why =
    either_reads T held rose (MadeFile number size) (λ (x : Unit {0}). Unit {0}) (made_text number size) failure (λ t. refl) (elim why [
      | inl memory ↦ inl memory
      | inr bad ↦ inr (λ e. let x : Source bad.0 ≡ Shelf = sym bad.1 ∙ e in cc, subst (λ (f : Failure). IsBad (made_text number size) (MadeFile number size) f) (sym bad.1) (BadMade number size bad.0 bad.2))
    ])
