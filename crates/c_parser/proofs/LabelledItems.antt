-- No clause in a program that tokens spell is without a label.
use Rattle.std.proofs.Common.{◌≡◌, List, ◌∷◌, map, refl}
use Rattle.std.specs.Prelude.{sum}
use Rattle.c_lexer.specs.declared.token.Token.{Token}
use Rattle.c_syntax.specs.declared.tree.TopItem.{TopItem}
use Rattle.c_grammar.specs.Items.{ReadsItem, globals, prototype, function, ReadsItems, end, item}
use Rattle.c_syntax.specs.Labels.{bare_clauses}
use Rattle.c_syntax.specs.Graph.{with_bodies}
use Rattle.c_parser.specs.Laws.{ParsedIsLabelled}
use Rattle.c_parser.proofs.LabelledStatements.{body_none}

joined : (a b : List Token) (i : TopItem) (is : List TopItem) → ReadsItem a i → sum (map bare_clauses (with_bodies is)) ≡ 0 → sum (map bare_clauses (with_bodies (i ∷ is))) ≡ 0
joined _ b _ is (globals p d v ds) h = h
joined _ b _ is (prototype n p q r t d v ds) h = h
joined _ b _ is (function {a} {b = params} {c} {s} {ps} {body} n p q r t u d v ds f g) h = rw (body_none c body g) h

items_none : (ts : List Token) (is : List TopItem) → ReadsItems ts is → sum (map bare_clauses (with_bodies is)) ≡ 0
items_none _ _ end = refl
items_none _ _ (item {a} {b} {i} {is} d ds) = joined a b i is d (items_none b is ds)

pub labelled : ParsedIsLabelled
labelled tokens program d = items_none tokens program.items d
