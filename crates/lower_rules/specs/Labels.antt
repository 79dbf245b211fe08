-- The words of the cases of a program are words, as the numbers of a tree in memory are.
use Rattle.std.specs.Prelude.{◌≡◌, ℕ, ◌^◌, Bool, true, ◌&&◌, nat_lt, List, Option, Some, None, slice_get}
use Rattle.std.specs.List.{list_all}
use Rattle.c_syntax.specs.declared.tree.Label.{Label}
use Rattle.c_syntax.specs.declared.tree.Stmt.{Stmt, fold-Stmt}
use Rattle.c_syntax.specs.declared.tree.Clause.{Clause, fold-Clause}
use Rattle.c_syntax.specs.declared.tree.Stmt.TheOpen.{Stmt-F, Clause-F}
use Rattle.c_syntax.specs.declared.tree.Function.{Function}
use Rattle.c_syntax.specs.declared.tree.TopItem.{TopItem}
use Rattle.c_syntax.specs.Graph.{body_of}
use Rattle.c_meaning.specs.Meaning.{Names, label_word}
use Rattle.lower_rules.specs.Programs.{in_number_order}

abbrev pub is_word : Option ℕ → Bool
is_word None = true
is_word (Some word) = nat_lt word (2 ^ 32)

abbrev pub all_true : List Bool → Bool
all_true bs = list_all (λ b. b) bs

abbrev pub if_true : Option Bool → Bool
if_true None = true
if_true (Some b) = b

-- the word of each case of a statement is a word
abbrev pub cases_step : Stmt-F Bool Bool → Bool
cases_step Stmt-F.Empty = true
cases_step (Stmt-F.Value e) = true
cases_step (Stmt-F.Declare locals) = true
cases_step (Stmt-F.Block body) = all_true body
cases_step (Stmt-F.If test a b) = a && if_true b
cases_step (Stmt-F.While test body) = body
cases_step (Stmt-F.Do body test) = body
cases_step (Stmt-F.For first test next body) = first && body
cases_step (Stmt-F.Switch test clauses) = all_true clauses
cases_step (Stmt-F.Break at) = true
cases_step (Stmt-F.Continue at) = true
cases_step (Stmt-F.Return e at) = true

abbrev pub clause_cases_step : Clause-F Bool Bool → Bool
clause_cases_step c = list_all (λ (l : Label). is_word (label_word l)) c.labels && all_true c.body

abbrev pub cases_are_words : Stmt → Bool
cases_are_words = fold-Stmt Bool Bool cases_step clause_cases_step

abbrev pub clause_cases_are_words : Clause → Bool
clause_cases_are_words = fold-Clause Bool Bool cases_step clause_cases_step

-- and of each body
abbrev pub CasesAreWords : Names → List TopItem → Type 0
CasesAreWords names items = (number : ℕ) (f : Function) → slice_get (in_number_order names.main items) number ≡ Some f →
    list_all cases_are_words (body_of f.body) ≡ true
