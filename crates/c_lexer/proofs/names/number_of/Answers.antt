use Rattle.std.proofs.Common.{◌≡◌, ◌++◌, ◌∷◌, [], ℕ, List, Bor, Some, None, false, cond, length, sym, ap, ◌∙◌, bytes_eq}
use Rattle.std.specs.BTreeMap.{get, is_at}
use Rattle.std.specs.List.{list_any}
use Rattle.c_lexer.specs.Names.{AreNumbered, name_cmp, number_among, spellings}
use Rattle.c_lexer.specs.Tokens.{number_of}
use Rattle.c_lexer.specs.declared.names.Names.{Names}
use Rattle.c_lexer.proofs.Spelled.{both_ok, is_new, number_new, number_push}
use Rattle.c_lexer.proofs.names.number_of.Goals as goal

new_here : (names : Names) (s : Bor (List ℕ)) → AreNumbered names → None ≡ get name_cmp names.numbers s → list_any (bytes_eq s.now) (spellings names) ≡ false
new_here names s numbered none = is_new (spellings names) s.now (sym (numbered s) ∙ sym none)

pub returns-in-None-clause-number : goal.returns-in-None-clause-number
returns-in-None-clause-number c =
    let new : list_any (bytes_eq c.args.spelling.now) (spellings c.args.names.now) ≡ false = new_here c.args.names.now c.args.spelling c.requires.numbered c.in-None.ensures.value in
    let e : number_of (spellings c.args.names.now) c.args.spelling.now ≡ length (spellings c.args.names.now) = number_new (spellings c.args.names.now) c.args.spelling new in
    rw e c.add.ensures.number

more : (names after : Names) (s : Bor (List ℕ)) → AreNumbered names → list_any (bytes_eq s.now) (spellings names) ≡ false → spellings after ≡ spellings names ++ s.now ∷ []
    → ((q : Bor (List ℕ)) → get name_cmp after.numbers q ≡ cond (is_at (name_cmp s) q) (Some (length (spellings names))) (get name_cmp names.numbers q)) → AreNumbered after
more names after s numbered new order numbers = λ q.
    numbers q ∙ ap (λ n. cond (is_at (name_cmp s) q) (Some (length (spellings names))) n) (numbered q) ∙ sym (number_push (spellings names) s new q) ∙ ap (λ xs. number_among xs q.now) (sym order)

pub returns-in-None-clause-still_numbered : goal.returns-in-None-clause-still_numbered
returns-in-None-clause-still_numbered c =
    let new : list_any (bytes_eq c.args.spelling.now) (spellings c.args.names.now) ≡ false = new_here c.args.names.now c.args.spelling c.requires.numbered c.in-None.ensures.value in
    both_ok c.add.result c.add.ensures.names c.add.ensures.numbers (more c.args.names.now c.add.new.names c.args.spelling c.requires.numbered new)
