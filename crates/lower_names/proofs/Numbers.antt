-- Names are called by the numbers of their functions.
use Rattle.std.proofs.Common.{◌≡◌, ℕ, zero, suc, ◌+◌, ◌<◌, ◌≤◌, ◌==◌, ◌&&◌, Bool, true, false, not, cond, if◌then◌else◌, List, [], ◌∷◌, ◌++◌, length, get_or, take, refl, sym, ap, subst, ◌∙◌, arith, append_assoc, append-nil, length-append, Option, Some, None, filter, find}
use Rattle.std.proofs.lemmas.List.{take_more}
use Rattle.std.proofs.lemmas.List.Concat.{flat_map-append}
use Rattle.std.proofs.lemmas.List.Elements.{filter-append}
use Rattle.std.proofs.lemmas.Bool.{eqb-true, eqb-false, ne_eqb}
use Rattle.c_syntax.specs.declared.tree.Function.{Function}
use Rattle.c_syntax.specs.declared.tree.TopItem.{TopItem}
use Rattle.c_meaning.specs.Operators.{is_unsigned_type}
use Rattle.c_syntax.specs.Graph.{functions, functions_of, has_body, function_named}
use Rattle.lower_rules.specs.Bindings as law
use Rattle.lower_rules.specs.Bindings.{is_void_type, defined_callee}
use Rattle.c_syntax.specs.Graph.{with_bodies}
use Rattle.lower_rules.specs.Programs.{in_number_order, number_in, number_of}
use Rattle.lower_expressions.specs.declared.table.Callee.{Callee}
use Rattle.lower_expressions.specs.declared.table.Callee.TheVariants.{InWord, OutWord, Defined, NoFunction}
use Rattle.lower_expressions.specs.Names.{callee_of}
use Rattle.lower_names.specs.declared.calls.Names.{Names}
use Rattle.lower_names.specs.Calls.{picks, chosen, defined_as, called_in, or_called, callee_in, NotesFrom, meant, AreCallees}

-- ---- the functions that are chosen

pub chosen-append : (of_main : Bool) (main : ℕ) (xs ys : List TopItem) → chosen of_main main (xs ++ ys) ≡ chosen of_main main xs ++ chosen of_main main ys
chosen-append of_main main xs ys =
    ap (λ (fs : List Function). filter (λ f. picks of_main (f.name == main)) (filter (λ f. has_body f.body) fs)) (flat_map-append functions_of xs ys)
    ∙ ap (filter (λ f. picks of_main (f.name == main))) (filter-append (λ f. has_body f.body) (functions xs) (functions ys))
    ∙ filter-append (λ f. picks of_main (f.name == main)) (with_bodies xs) (with_bodies ys)

pub chosen_next : (of_main : Bool) (main : ℕ) (xs : List TopItem) (i : ℕ) (x : TopItem) → i < length xs → x ≡ get_or xs i x → chosen of_main main (take (i + 1) xs) ≡ chosen of_main main (take i xs) ++ chosen of_main main (x ∷ [])
chosen_next of_main main xs i x l e =
    ap (chosen of_main main) (take_more xs i x l ∙ ap (λ (y : TopItem). take i xs ++ y ∷ []) (sym e))
    ∙ chosen-append of_main main (take i xs) (x ∷ [])

prefix_length : (a b : List Function) (n : ℕ) → n ≡ length (a ++ b) → length a ≤ n
prefix_length a b n e = omega (arith, length-append a b)

take_chosen : (of_main : Bool) (main : ℕ) (xs : List TopItem) (i : ℕ) → length (chosen of_main main (take i xs)) ≤ length (chosen of_main main xs)
take_chosen of_main main [] zero = omega arith
take_chosen of_main main [] (suc i) = omega arith
take_chosen of_main main (x ∷ xs) zero = none (length (chosen of_main main (x ∷ xs)))
  where
    none : (n : ℕ) → 0 ≤ n
    none n = omega arith
take_chosen of_main main (x ∷ xs) (suc i) =
    by (length (chosen of_main main (x ∷ take i xs))) (length (chosen of_main main (x ∷ xs))) (length (chosen of_main main (x ∷ []))) (length (chosen of_main main (take i xs))) (length (chosen of_main main xs))
    (ap length (chosen-append of_main main (x ∷ []) (take i xs)) ∙ length-append (chosen of_main main (x ∷ [])) (chosen of_main main (take i xs)))
    (ap length (chosen-append of_main main (x ∷ []) xs) ∙ length-append (chosen of_main main (x ∷ [])) (chosen of_main main xs))
    (take_chosen of_main main xs i)
  where
    by : (a b c d e : ℕ) → a ≡ c + d → b ≡ c + e → d ≤ e → a ≤ b
    by a b c d e p q r = omega arith

-- the numbers up to an item are at most those of all
pub item_chosen : (of_main : Bool) (main : ℕ) (xs : List TopItem) (i : ℕ) (x : TopItem) → i < length xs → x ≡ get_or xs i x →
    length (chosen of_main main (take i xs)) + length (chosen of_main main (x ∷ [])) ≤ length (chosen of_main main xs)
item_chosen of_main main xs i x l e =
    by (length (chosen of_main main (take i xs))) (length (chosen of_main main (x ∷ []))) (length (chosen of_main main (take (i + 1) xs))) (length (chosen of_main main xs))
    (ap length (chosen_next of_main main xs i x l e) ∙ length-append (chosen of_main main (take i xs)) (chosen of_main main (x ∷ [])))
    (take_chosen of_main main xs (i + 1))
  where
    by : (a b c d : ℕ) → c ≡ a + b → c ≤ d → a + b ≤ d
    by a b c d p q = omega arith

-- ---- functions that are noted one after the other

pub notes_joined : (k : ℕ) (fs gs : List Function) (a b c : List Callee) → NotesFrom k fs a b → NotesFrom (k + length fs) gs b c → NotesFrom k (fs ++ gs) a c
notes_joined k fs gs a b c first second name rest =
    ap (λ n. or_called (callee_in c name) (called_in name n rest)) (by k (length (fs ++ gs)) (length fs) (length gs) (length-append fs gs))
    ∙ second name rest
    ∙ first name (gs ++ rest)
    ∙ ap (λ hs. or_called (callee_in a name) (called_in name k hs)) (sym (append_assoc fs gs rest))
  where
    by : (k n m p : ℕ) → n ≡ m + p → k + n ≡ (k + m) + p
    by k n m p e = omega arith

pub one_noted : (k n : ℕ) (fs : List Function) (gs hs : List Function) (a b c : List Callee) → n ≡ k + length fs → hs ≡ fs ++ gs → NotesFrom k fs a b → NotesFrom n gs b c → NotesFrom k hs a c
one_noted k n fs gs hs a b c e p first second =
    subst (λ xs. NotesFrom k xs a c) (sym p) (notes_joined k fs gs a b c first (subst (λ m. NotesFrom m gs b c) e second))

-- ---- the number of a name

-- the first function of that name
abbrev first_with : ℕ → List Function → Option Function
first_with name fs = find (λ f. f.name == name) fs

first_body : (name : ℕ) (fs : List Function) → find (λ f. f.name == name && has_body f.body) fs ≡ first_with name (filter (λ f. has_body f.body) fs)
first_body name [] = refl
first_body name (f ∷ fs) = by (f.name == name) (has_body f.body) refl (first_body name fs)
  where
    with_b : List Function
    with_b = filter (λ g. has_body g.body) fs

    both : Option Function
    both = find (λ g. g.name == name && has_body g.body) fs

    by : (b c : Bool) → (f.name == name) ≡ b → both ≡ first_with name with_b → cond (b && c) (Some f) both ≡ first_with name (cond c (f ∷ with_b) with_b)
    by true true is ih = ap (λ (z : Bool). cond z (Some f) (first_with name with_b)) (sym is)
    by true false is ih = ih
    by false true is ih = ih ∙ ap (λ (z : Bool). cond z (Some f) (first_with name with_b)) (sym is)
    by false false is ih = ih

-- where those of the name come first, the first of all is the first of them
mains_first : (main : ℕ) (fs rest : List Function) → first_with main rest ≡ None → first_with main (filter (λ g. g.name == main) fs ++ rest) ≡ first_with main fs
mains_first main [] rest none = none
mains_first main (g ∷ fs) rest none = by (g.name == main) refl (mains_first main fs rest none)
  where
    mains : List Function
    mains = filter (λ x. x.name == main) fs

    by : (b : Bool) → (g.name == main) ≡ b → first_with main (mains ++ rest) ≡ first_with main fs → first_with main (cond b (g ∷ mains) mains ++ rest) ≡ cond b (Some g) (first_with main fs)
    by true is ih = ap (λ (z : Bool). cond z (Some g) (first_with main (mains ++ rest))) is
    by false is ih = ih

no_main : (main : ℕ) (fs : List Function) → first_with main (filter (λ g. not (g.name == main)) fs) ≡ None
no_main main [] = refl
no_main main (g ∷ fs) = by (g.name == main) refl (no_main main fs)
  where
    rest : List Function
    rest = filter (λ x. not (x.name == main)) fs

    by : (b : Bool) → (g.name == main) ≡ b → first_with main rest ≡ None → first_with main (cond (not b) (g ∷ rest) rest) ≡ None
    by true is ih = ih
    by false is ih = ap (λ (z : Bool). cond z (Some g) (first_with main rest)) is ∙ ih

passes_main : (name main : ℕ) (fs rest : List Function) → (name ≡ main → ⊥) → first_with name (filter (λ g. g.name == main) fs ++ rest) ≡ first_with name rest
passes_main name main [] rest ne = refl
passes_main name main (g ∷ fs) rest ne = by (g.name == main) refl (passes_main name main fs rest ne)
  where
    mains : List Function
    mains = filter (λ x. x.name == main) fs

    by : (b : Bool) → (g.name == main) ≡ b → first_with name (mains ++ rest) ≡ first_with name rest → first_with name (cond b (g ∷ mains) mains ++ rest) ≡ first_with name rest
    by true is ih = ap (λ (z : Bool). cond z (Some g) (first_with name (mains ++ rest))) (ne_eqb g.name name (λ e. ne (sym e ∙ eqb-true g.name main is))) ∙ ih
    by false is ih = ih

others : (name main : ℕ) (fs : List Function) → (name ≡ main → ⊥) → first_with name (filter (λ g. not (g.name == main)) fs) ≡ first_with name fs
others name main [] ne = refl
others name main (g ∷ fs) ne = by (g.name == main) refl (others name main fs ne)
  where
    rest : List Function
    rest = filter (λ x. not (x.name == main)) fs

    by : (b : Bool) → (g.name == main) ≡ b → first_with name rest ≡ first_with name fs → first_with name (cond (not b) (g ∷ rest) rest) ≡ cond (g.name == name) (Some g) (first_with name fs)
    by true is ih = ih ∙ ap (λ (z : Bool). cond z (Some g) (first_with name fs)) (sym (ne_eqb g.name name (λ e. ne (sym e ∙ eqb-true g.name main is))))
    by false is ih = ap (λ o. cond (g.name == name) (Some g) o) ih

first_order : (main name : ℕ) (items : List TopItem) → first_with name (in_number_order main items) ≡ function_named name items
first_order main name items = by (name == main) refl ∙ sym (first_body name (functions items))
  where
    bodies : List Function
    bodies = with_bodies items

    by : (b : Bool) → (name == main) ≡ b → first_with name (in_number_order main items) ≡ first_with name (with_bodies items)
    by true is =
        let e = eqb-true name main is in
        ap (λ n. first_with n (in_number_order main items)) e
        ∙ mains_first main (with_bodies items) (filter (λ g. not (g.name == main)) (with_bodies items)) (no_main main (with_bodies items))
        ∙ ap (λ n. first_with n (with_bodies items)) (sym e)
    by false is =
        let ne = eqb-false name main is in
        passes_main name main (with_bodies items) (filter (λ g. not (g.name == main)) (with_bodies items)) ne ∙ others name main (with_bodies items) ne

called_number : (name k : ℕ) (fs : List Function) → callee_of (called_in name k fs) ≡ defined_callee (k + number_in name fs) (first_with name fs)
called_number name k [] = refl
called_number name k (f ∷ fs) = by (f.name == name) (called_number name (suc k) fs)
  where
    by : (b : Bool) → callee_of (called_in name (suc k) fs) ≡ defined_callee (suc k + number_in name fs) (first_with name fs)
        → callee_of (if b then defined_as k f else called_in name (suc k) fs) ≡ defined_callee (k + (if b then 0 else suc (number_in name fs))) (cond b (Some f) (first_with name fs))
    by true ih = ap (λ n. law.Defined n (length f.params) (is_void_type f.ty) (is_unsigned_type f.ty)) (plus_none k)
      where
        plus_none : (k : ℕ) → k ≡ k + 0
        plus_none k = omega arith
    by false ih = ih ∙ ap (λ n. defined_callee n (first_with name fs)) (next_number k (number_in name fs))
      where
        next_number : (k n : ℕ) → suc k + n ≡ k + suc n
        next_number k n = omega arith

pub named_called : (main name : ℕ) (items : List TopItem) → callee_of (called_in name 0 (in_number_order main items)) ≡ defined_callee (number_in name (in_number_order main items)) (function_named name items)
named_called main name items =
    called_number name 0 (in_number_order main items)
    ∙ ap (λ n. defined_callee n (first_with name (in_number_order main items))) (zero_plus (number_in name (in_number_order main items)))
    ∙ ap (defined_callee (number_in name (in_number_order main items))) (first_order main name items)
  where
    zero_plus : (n : ℕ) → 0 + n ≡ n
    zero_plus n = omega arith

-- ---- all callees

or_none : (c : Callee) → or_called c NoFunction ≡ c
or_none NoFunction = refl
or_none InWord = refl
or_none OutWord = refl
or_none (Defined number arity is_void is_unsigned) = refl

noted_all : (order : List Function) (all : List Callee) → NotesFrom 0 order [] all → (name : ℕ) → callee_in all name ≡ called_in name 0 order
noted_all order all notes name = sym (or_none (callee_in all name)) ∙ notes name [] ∙ ap (called_in name 0) (append-nil order)

pub all_called : (names : Names) (items : List TopItem) (n : ℕ) (none mains all with_out with_in : List Callee) → none ≡ [] →
    n ≡ 0 + length (chosen true names.main items) → NotesFrom 0 (chosen true names.main items) none mains → NotesFrom n (chosen false names.main items) mains all →
    ((q : ℕ) → callee_in with_out q ≡ (if q == names.out_word then OutWord else callee_in all q)) →
    ((q : ℕ) → callee_in with_in q ≡ (if q == names.in_word then InWord else callee_in with_out q)) → AreCallees (meant names) items with_in
all_called names items n none mains all with_out with_in z e first second out within name =
    ap callee_of (within name ∙ ap (λ c. if name == names.in_word then InWord else c) (out name)) ∙ by (name == names.in_word) (name == names.out_word)
  where
    notes : NotesFrom 0 (in_number_order names.main items) [] all
    notes = subst (λ l. NotesFrom 0 (in_number_order names.main items) l all) z (one_noted 0 n (chosen true names.main items) (chosen false names.main items) (in_number_order names.main items) none mains all e refl first second)

    by : (a b : Bool) → callee_of (if a then InWord else (if b then OutWord else callee_in all name)) ≡ (if a then law.InWord else (if b then law.OutWord else defined_callee (number_of (meant names) items name) (function_named name items)))
    by true b = refl
    by false true = refl
    by false false = ap callee_of (noted_all (in_number_order names.main items) all notes name) ∙ named_called names.main name items
