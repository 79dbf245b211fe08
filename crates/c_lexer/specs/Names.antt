-- What the names of a text so far say as a list of spellings.
use Rattle.std.specs.Prelude.{ℕ, ◌≡◌, ◌++◌, ◌∷◌, [], List, Bool, false, Option, None, Some, bytes_eq, cond, map}
use Rattle.std.specs.Borrow.{Bor}
use Rattle.std.specs.BTreeMap.{get}
use Rattle.std.specs.Cmp.Lexicographic.{slice_cmp}
use Rattle.std.specs.List.{list_any}
use Rattle.std.specs.Ordering.{nat_cmp}
use Rattle.std.specs.declared.cmp.Ordering.{Ordering}
use Rattle.c_lexer.specs.declared.meaning.Meaning.{Meaning}
use Rattle.c_lexer.specs.declared.meaning.Meaning.TheVariants.{Skipped, Is, Wrong}
use Rattle.c_lexer.specs.declared.names.Names.{Names}
use Rattle.c_lexer.specs.declared.token.Token.{Token}
use Rattle.c_lexer.specs.Tokens.{names_after, number_of}

-- the distinct spellings in the order of their first occurrence
abbrev pub spellings : Names → List (List ℕ)
spellings names = map (λ (k : Bor (List ℕ)). k.now) names.in_order.items

-- the order of two slices is that of their bytes
abbrev pub name_cmp : Bor (List ℕ) → Bor (List ℕ) → Ordering
name_cmp x y = slice_cmp nat_cmp x.now y.now

-- the number that a spelling has, if it is one of those so far
abbrev pub number_among : List (List ℕ) → List ℕ → Option ℕ
number_among names spelling = cond (list_any (bytes_eq spelling) names) (Some (number_of names spelling)) None

-- the map has the number of each spelling so far, and nothing else
abbrev pub AreNumbered : Names → Type 0
AreNumbered names = (q : Bor (List ℕ)) → get name_cmp names.numbers q ≡ number_among (spellings names) q.now

-- the distinct spellings behind a piece with this meaning
abbrev pub names_behind : List (List ℕ) → List ℕ → Meaning → List (List ℕ)
names_behind names bytes (Skipped starts_line) = names
names_behind names bytes (Is kind) = names_after names bytes kind
names_behind names bytes (Wrong error) = names

-- what a piece with this meaning adds to the tokens before it, and whether a line starts behind it
abbrev pub Adds : Meaning → ℕ → ℕ → Bool → List Token → List Token → Type 0
Adds (Skipped starts_line) at size then before after = (then ≡ starts_line) × (after ≡ before)
Adds (Is kind) at size then before after = (then ≡ false) × (after ≡ before ++ record { kind = kind; at = at; length = size } ∷ [])
Adds (Wrong error) at size then before after = ⊥
