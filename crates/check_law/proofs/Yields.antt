-- What holds of all that a part of the walk can give, and how this goes along from part to part.
use Rattle.std.proofs.Common.{◌≡◌, ℕ, Bool, true, false, Option, Some, None, Ok, Err, refl, subst}
use Rattle.check_rules.specs.declared.error.CheckKind.{CheckKind}
use Rattle.check_rules.specs.Fault.{Fault, Walk, ◌>>=◌, ◌>>◌, require}
use Rattle.check_rules.specs.declared.names.Kind.{Kind}
use Rattle.check_rules.specs.declared.names.Known.{Known}
use Rattle.check_rules.specs.Walk.{used}

pub record Yields {A : Type 0} (m : Walk A) (P : A → Type 0) : Type 0 where
  pub if_ok : (a : A) → m ≡ Ok a → P a

pub yields_ok : {A : Type 0} {P : A → Type 0} (a : A) → P a → Yields (Ok a) P
yields_ok {P = P} a p = record { if_ok = λ b is. let e : a ≡ b = cc in subst P e p }

pub yields_err : {A : Type 0} {P : A → Type 0} (f : Fault) → Yields (Err f) P
yields_err f = record { if_ok = λ b is. absurd cc }

pub yields_then : {A B : Type 0} {m : Walk A} {P : A → Type 0} {go : A → Walk B} {Q : B → Type 0} → Yields m P → ((a : A) → P a → Yields (go a) Q) → Yields (m >>= go) Q
yields_then {m = Ok a} y f = f a (y.if_ok a refl)
yields_then {m = Err e} y f = yields_err e

pub yields_after : {B : Type 0} {m : Walk (Unit {0})} {next : Walk B} {Q : B → Type 0} → (m ≡ Ok tt → Yields next Q) → Yields (m >> next) Q
yields_after {m = Ok u} f = f refl
yields_after {m = Err e} f = yields_err e

pub required : (b : Bool) (kind : CheckKind) (at : ℕ) → require b kind at ≡ Ok tt → b ≡ true
required true kind at is = refl
required false kind at is = absurd cc

-- a name that is used is in force, and designates such a thing
pub record IsUsed (is_such : Kind → Bool) (o : Option Known) (position : ℕ) : Type 0 where
  pub known : Known
  pub is : o ≡ Some known
  pub such : is_such known.kind ≡ true
  pub at : known.position ≡ position

used_test : (is_such : Kind → Bool) (otherwise : CheckKind) (at : ℕ) (d : Known) (b : Bool) → is_such d.kind ≡ b → Yields (require b otherwise at >> Ok d.position) (IsUsed is_such (Some d))
used_test is_such otherwise at d true is = yields_ok d.position (record { known = d; is = refl; such = is; at = refl })
used_test is_such otherwise at d false is = yields_err _

pub yields_used : (is_such : Kind → Bool) (otherwise : CheckKind) (at : ℕ) (o : Option Known) → Yields (used is_such otherwise at o) (IsUsed is_such o)
yields_used is_such otherwise at None = yields_err _
yields_used is_such otherwise at (Some d) = used_test is_such otherwise at d (is_such d.kind) refl
