-- A program has at most as many nodes as tokens.
use Rattle.std.proofs.Common.{◌≤◌, ◌++◌, List, [], ◌∷◌, map, Option, Bool, refl, ap, arith, length}
use Rattle.std.specs.Prelude.{sum}
use Rattle.std.proofs.lemmas.List.{length-append}
use Rattle.c_lexer.specs.declared.token.Token.{Token}
use Rattle.c_lexer.specs.declared.token.TokenKind.TheVariants as kinds
use Rattle.c_lexer.specs.declared.token.Punct.TheVariants as signs
use Rattle.c_syntax.specs.Sizes.{expression_nodes, global_nodes, item_nodes, program_nodes, or_zero}
use Rattle.c_syntax.specs.declared.tree.Expr.{Expr}
use Rattle.c_syntax.specs.declared.tree.Ty.{Ty}
use Rattle.c_syntax.specs.declared.tree.GlobalVar.{GlobalVar}
use Rattle.c_syntax.specs.declared.tree.Param.{Param}
use Rattle.c_syntax.specs.declared.tree.TopItem.{TopItem}
use Rattle.c_syntax.specs.declared.tree.Program.{Program}
use Rattle.c_grammar.specs.Places.{mark, sign}
use Rattle.c_grammar.specs.Expressions.{cond, Reads}
use Rattle.c_grammar.specs.Specifiers.{is_local, is_function, type_of}
use Rattle.c_grammar.specs.Lists.{Separated, one}
use Rattle.c_grammar.specs.Lists.Separated.{more as further}
use Rattle.c_grammar.specs.Items.{ReadsLength, no_length, a_length, ReadsGlobal, scalar, scalar_valued, array, array_valued, ReadsParam, named, unnamed, ReadsParams, nothing, void, params, ReadsItem, globals, prototype, function, ReadsItems, end, item, Tree}
use Rattle.c_grammar.proofs.Options.{length-cons}
use Rattle.c_grammar.proofs.CompleteLists.{NotEmpty, Specified, spells_first}
use Rattle.c_grammar.proofs.NodeCounts.{nodes as expression_count, between, sum-nil, sum_map-cons}
use Rattle.c_grammar.proofs.StatementCounts.{opened, separated_count, body_count}

length_count : (ts : List Token) (l : Option Expr) → ReadsLength ts l → or_zero expression_nodes l ≤ length ts
length_count _ _ no_length = omega arith
length_count _ _ (a_length d) = expression_count d

global_count : (ty : Ty) (c : Bool) (ts : List Token) (g : GlobalVar) → ReadsGlobal ty c ts g → global_nodes g ≤ length ts
global_count ty c _ _ (scalar n p) = omega (arith, sum-nil, length-cons (mark (kinds.Name n) p) [])
global_count ty c _ _ (scalar_valued {ts} {e} n p q d) = omega (arith, expression_count d, sum_map-cons expression_nodes e [], sum-nil, opened (mark (kinds.Name n) p) (sign signs.Equal q) ts)
global_count ty c _ _ (array {ts} {l} n p q r d) = omega (arith, length_count ts l d, sum-nil, opened (mark (kinds.Name n) p) (sign signs.OpenBracket q) (ts ++ sign signs.CloseBracket r ∷ []), between ts (sign signs.CloseBracket r) [])
global_count ty c _ _ (array_valued {a} {b} {c = last} {l} {es} n p q r s t u d ds f) = let values : List Token = b ++ (last ++ sign signs.CloseBrace u ∷ []) in omega (arith, length_count a l d, separated_count (Reads cond) expression_nodes (λ ts e. expression_count) b es ds, opened (mark (kinds.Name n) p) (sign signs.OpenBracket q) (a ++ sign signs.CloseBracket r ∷ sign signs.Equal s ∷ sign signs.OpenBrace t ∷ values), between a (sign signs.CloseBracket r) (sign signs.Equal s ∷ sign signs.OpenBrace t ∷ values), opened (sign signs.Equal s) (sign signs.OpenBrace t) values, length-append b (last ++ sign signs.CloseBrace u ∷ []))

-- specifiers have a word
specified_length : (ts : List Token) → Specified ts → 1 ≤ length ts
specified_length ts h = omega (arith, ap length h.2, length-cons h.0 h.1)

param_length : NotEmpty ReadsParam
param_length _ _ (named {ts} n p d i) = omega (arith, between ts (mark (kinds.Name n) p) [])
param_length _ _ (unnamed {ts} {s} d i) = specified_length ts (spells_first ts s is_local d i refl)

-- a list with commas has at most as many parts as tokens, where each has a token
separated_length : {A : Type 0} (R : List Token → A → Type 0) → NotEmpty R → (ts : List Token) (xs : List A) → Separated R ts xs → length xs ≤ length ts
separated_length R h _ _ (one {ts} {x} d) = omega (arith, h ts x d)
separated_length R h _ _ (further {a} {b} {x} {xs} p d ds) = omega (arith, separated_length R h b xs ds, between a (sign signs.Comma p) b)

params_length : (ts : List Token) (ps : List Param) → ReadsParams ts ps → length ps ≤ length ts
params_length _ _ nothing = omega arith
params_length _ _ (void p) = omega arith
params_length _ _ (params {ts} {ps} d) = separated_length ReadsParam param_length ts ps d

item_count : (ts : List Token) (i : TopItem) → ReadsItem ts i → item_nodes i ≤ length ts
item_count _ _ (globals {a} {b} {s} {gs} p d i ds) = omega (arith, separated_count (ReadsGlobal (type_of s) s.is_const) global_nodes (global_count (type_of s) s.is_const) b gs ds, length-append a (b ++ sign signs.Semicolon p ∷ []), between b (sign signs.Semicolon p) [])
item_count _ _ (prototype {a} {b} {s} {ps} n p q r t d i ds) = let rest : List Token = sign signs.CloseParen r ∷ sign signs.Semicolon t ∷ [] in omega (arith, params_length b ps ds, between a (mark (kinds.Name n) p) (sign signs.OpenParen q ∷ (b ++ rest)), length-cons (sign signs.OpenParen q) (b ++ rest), length-append b rest)
item_count _ _ (function {a} {b} {c} {s} {ps} {body} n p q r t u d i ds f g) = let rest : List Token = c ++ sign signs.CloseBrace u ∷ [] in let behind : List Token = b ++ sign signs.CloseParen r ∷ sign signs.OpenBrace t ∷ rest in omega (arith, specified_length a (spells_first a s is_function d i refl), params_length b ps ds, body_count c body g, between a (mark (kinds.Name n) p) (sign signs.OpenParen q ∷ behind), length-cons (sign signs.OpenParen q) behind, between b (sign signs.CloseParen r) (sign signs.OpenBrace t ∷ rest), length-cons (sign signs.OpenBrace t) rest, between c (sign signs.CloseBrace u) [])

items_count : (ts : List Token) (is : List TopItem) → ReadsItems ts is → sum (map item_nodes is) ≤ length ts
items_count _ _ end = omega (arith, sum-nil)
items_count _ _ (item {a} {b} {i} {is} d ds) = omega (arith, item_count a i d, items_count b is ds, sum_map-cons item_nodes i is, length-append a b)

-- each node of a program has a token of its own
pub few_nodes : (ts : List Token) (t : Program) → Tree ts t → program_nodes t ≤ length ts
few_nodes ts t d = items_count ts t.items d
