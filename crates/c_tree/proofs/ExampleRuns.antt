-- The examples, computed.
use Rattle.std.proofs.Common.{◌≡◌, refl, ◌∙◌}
use Rattle.c_syntax.specs.declared.tree.Expr.TheBlock.{shape-the_row-Expr-0, hidden-the_row-Expr-0, shape-the_row-Expr-1, hidden-the_row-Expr-1}
use Rattle.c_syntax.specs.declared.tree.Stmt.TheBlock.{shape-the_row-Stmt-0, hidden-the_row-Stmt-0, shape-the_row-Stmt-1, hidden-the_row-Stmt-1, shape-the_row-Clause-2, hidden-the_row-Clause-2}
use denote.Hole.Carrier.{hidden}
use Rattle.c_meaning.specs.Meaning.{source_names}
use Rattle.c_tree.specs.Examples as the
use Rattle.c_tree.specs.Examples.{Example, Holds, Examples}
use Rattle.c_meaning.proofs.Native.{native, native_statement}
use Rattle.c_meaning.proofs.NativeRun.{run_by, native_run_is}

holds : (e : Example) → run_by native native_statement source_names (record { items = e.items }) e.input e.fuel ≡ record { output = e.output; end = e.end } → Holds e
holds e is = native_run_is source_names (record { items = e.items }) e.input e.fuel ∙ is

operand_order : Holds the.operand_order
unfolding shape-the_row-Expr-0 hidden-the_row-Expr-0 shape-the_row-Expr-1 hidden-the_row-Expr-1 shape-the_row-Stmt-0 hidden-the_row-Stmt-0 shape-the_row-Stmt-1 hidden-the_row-Stmt-1 shape-the_row-Clause-2 hidden-the_row-Clause-2 hidden
operand_order = holds the.operand_order refl

argument_order : Holds the.argument_order
unfolding shape-the_row-Expr-0 hidden-the_row-Expr-0 shape-the_row-Expr-1 hidden-the_row-Expr-1 shape-the_row-Stmt-0 hidden-the_row-Stmt-0 shape-the_row-Stmt-1 hidden-the_row-Stmt-1 shape-the_row-Clause-2 hidden-the_row-Clause-2 hidden
argument_order = holds the.argument_order refl

argument_fuel : Holds the.argument_fuel
unfolding shape-the_row-Expr-0 hidden-the_row-Expr-0 shape-the_row-Expr-1 hidden-the_row-Expr-1 shape-the_row-Stmt-0 hidden-the_row-Stmt-0 shape-the_row-Stmt-1 hidden-the_row-Stmt-1 shape-the_row-Clause-2 hidden-the_row-Clause-2 hidden
argument_fuel = holds the.argument_fuel refl

wrapping : Holds the.wrapping
unfolding shape-the_row-Expr-0 hidden-the_row-Expr-0 shape-the_row-Expr-1 hidden-the_row-Expr-1 shape-the_row-Stmt-0 hidden-the_row-Stmt-0 shape-the_row-Stmt-1 hidden-the_row-Stmt-1 shape-the_row-Clause-2 hidden-the_row-Clause-2 hidden
wrapping = holds the.wrapping refl

shifts : Holds the.shifts
unfolding shape-the_row-Expr-0 hidden-the_row-Expr-0 shape-the_row-Expr-1 hidden-the_row-Expr-1 shape-the_row-Stmt-0 hidden-the_row-Stmt-0 shape-the_row-Stmt-1 hidden-the_row-Stmt-1 shape-the_row-Clause-2 hidden-the_row-Clause-2 hidden
shifts = holds the.shifts refl

least_quotient : Holds the.least_quotient
unfolding shape-the_row-Expr-0 hidden-the_row-Expr-0 shape-the_row-Expr-1 hidden-the_row-Expr-1 shape-the_row-Stmt-0 hidden-the_row-Stmt-0 shape-the_row-Stmt-1 hidden-the_row-Stmt-1 shape-the_row-Clause-2 hidden-the_row-Clause-2 hidden
least_quotient = holds the.least_quotient refl

least_remainder : Holds the.least_remainder
unfolding shape-the_row-Expr-0 hidden-the_row-Expr-0 shape-the_row-Expr-1 hidden-the_row-Expr-1 shape-the_row-Stmt-0 hidden-the_row-Stmt-0 shape-the_row-Stmt-1 hidden-the_row-Stmt-1 shape-the_row-Clause-2 hidden-the_row-Clause-2 hidden
least_remainder = holds the.least_remainder refl

zero_divisor : Holds the.zero_divisor
unfolding shape-the_row-Expr-0 hidden-the_row-Expr-0 shape-the_row-Expr-1 hidden-the_row-Expr-1 shape-the_row-Stmt-0 hidden-the_row-Stmt-0 shape-the_row-Stmt-1 hidden-the_row-Stmt-1 shape-the_row-Clause-2 hidden-the_row-Clause-2 hidden
zero_divisor = holds the.zero_divisor refl

zero_divisor_of_remainder : Holds the.zero_divisor_of_remainder
unfolding shape-the_row-Expr-0 hidden-the_row-Expr-0 shape-the_row-Expr-1 hidden-the_row-Expr-1 shape-the_row-Stmt-0 hidden-the_row-Stmt-0 shape-the_row-Stmt-1 hidden-the_row-Stmt-1 shape-the_row-Clause-2 hidden-the_row-Clause-2 hidden
zero_divisor_of_remainder = holds the.zero_divisor_of_remainder refl

quotients : Holds the.quotients
unfolding shape-the_row-Expr-0 hidden-the_row-Expr-0 shape-the_row-Expr-1 hidden-the_row-Expr-1 shape-the_row-Stmt-0 hidden-the_row-Stmt-0 shape-the_row-Stmt-1 hidden-the_row-Stmt-1 shape-the_row-Clause-2 hidden-the_row-Clause-2 hidden
quotients = holds the.quotients refl

comparisons : Holds the.comparisons
unfolding shape-the_row-Expr-0 hidden-the_row-Expr-0 shape-the_row-Expr-1 hidden-the_row-Expr-1 shape-the_row-Stmt-0 hidden-the_row-Stmt-0 shape-the_row-Stmt-1 hidden-the_row-Stmt-1 shape-the_row-Clause-2 hidden-the_row-Clause-2 hidden
comparisons = holds the.comparisons refl

bitwise : Holds the.bitwise
unfolding shape-the_row-Expr-0 hidden-the_row-Expr-0 shape-the_row-Expr-1 hidden-the_row-Expr-1 shape-the_row-Stmt-0 hidden-the_row-Stmt-0 shape-the_row-Stmt-1 hidden-the_row-Stmt-1 shape-the_row-Clause-2 hidden-the_row-Clause-2 hidden
bitwise = holds the.bitwise refl

short_circuits : Holds the.short_circuits
unfolding shape-the_row-Expr-0 hidden-the_row-Expr-0 shape-the_row-Expr-1 hidden-the_row-Expr-1 shape-the_row-Stmt-0 hidden-the_row-Stmt-0 shape-the_row-Stmt-1 hidden-the_row-Stmt-1 shape-the_row-Clause-2 hidden-the_row-Clause-2 hidden
short_circuits = holds the.short_circuits refl

arms_type : Holds the.arms_type
unfolding shape-the_row-Expr-0 hidden-the_row-Expr-0 shape-the_row-Expr-1 hidden-the_row-Expr-1 shape-the_row-Stmt-0 hidden-the_row-Stmt-0 shape-the_row-Stmt-1 hidden-the_row-Stmt-1 shape-the_row-Clause-2 hidden-the_row-Clause-2 hidden
arms_type = holds the.arms_type refl

index_at_length : Holds the.index_at_length
unfolding shape-the_row-Expr-0 hidden-the_row-Expr-0 shape-the_row-Expr-1 hidden-the_row-Expr-1 shape-the_row-Stmt-0 hidden-the_row-Stmt-0 shape-the_row-Stmt-1 hidden-the_row-Stmt-1 shape-the_row-Clause-2 hidden-the_row-Clause-2 hidden
index_at_length = holds the.index_at_length refl

index_below_zero : Holds the.index_below_zero
unfolding shape-the_row-Expr-0 hidden-the_row-Expr-0 shape-the_row-Expr-1 hidden-the_row-Expr-1 shape-the_row-Stmt-0 hidden-the_row-Stmt-0 shape-the_row-Stmt-1 hidden-the_row-Stmt-1 shape-the_row-Clause-2 hidden-the_row-Clause-2 hidden
index_below_zero = holds the.index_below_zero refl

length_of_initialisers : Holds the.length_of_initialisers
unfolding shape-the_row-Expr-0 hidden-the_row-Expr-0 shape-the_row-Expr-1 hidden-the_row-Expr-1 shape-the_row-Stmt-0 hidden-the_row-Stmt-0 shape-the_row-Stmt-1 hidden-the_row-Stmt-1 shape-the_row-Clause-2 hidden-the_row-Clause-2 hidden
length_of_initialisers = holds the.length_of_initialisers refl

index_before_value : Holds the.index_before_value
unfolding shape-the_row-Expr-0 hidden-the_row-Expr-0 shape-the_row-Expr-1 hidden-the_row-Expr-1 shape-the_row-Stmt-0 hidden-the_row-Stmt-0 shape-the_row-Stmt-1 hidden-the_row-Stmt-1 shape-the_row-Clause-2 hidden-the_row-Clause-2 hidden
index_before_value = holds the.index_before_value refl

index_order : Holds the.index_order
unfolding shape-the_row-Expr-0 hidden-the_row-Expr-0 shape-the_row-Expr-1 hidden-the_row-Expr-1 shape-the_row-Stmt-0 hidden-the_row-Stmt-0 shape-the_row-Stmt-1 hidden-the_row-Stmt-1 shape-the_row-Clause-2 hidden-the_row-Clause-2 hidden
index_order = holds the.index_order refl

compound_order : Holds the.compound_order
unfolding shape-the_row-Expr-0 hidden-the_row-Expr-0 shape-the_row-Expr-1 hidden-the_row-Expr-1 shape-the_row-Stmt-0 hidden-the_row-Stmt-0 shape-the_row-Stmt-1 hidden-the_row-Stmt-1 shape-the_row-Clause-2 hidden-the_row-Clause-2 hidden
compound_order = holds the.compound_order refl

assignment_type : Holds the.assignment_type
unfolding shape-the_row-Expr-0 hidden-the_row-Expr-0 shape-the_row-Expr-1 hidden-the_row-Expr-1 shape-the_row-Stmt-0 hidden-the_row-Stmt-0 shape-the_row-Stmt-1 hidden-the_row-Stmt-1 shape-the_row-Clause-2 hidden-the_row-Clause-2 hidden
assignment_type = holds the.assignment_type refl

compound_type : Holds the.compound_type
unfolding shape-the_row-Expr-0 hidden-the_row-Expr-0 shape-the_row-Expr-1 hidden-the_row-Expr-1 shape-the_row-Stmt-0 hidden-the_row-Stmt-0 shape-the_row-Stmt-1 hidden-the_row-Stmt-1 shape-the_row-Clause-2 hidden-the_row-Clause-2 hidden
compound_type = holds the.compound_type refl

places_in_parentheses : Holds the.places_in_parentheses
unfolding shape-the_row-Expr-0 hidden-the_row-Expr-0 shape-the_row-Expr-1 hidden-the_row-Expr-1 shape-the_row-Stmt-0 hidden-the_row-Stmt-0 shape-the_row-Stmt-1 hidden-the_row-Stmt-1 shape-the_row-Clause-2 hidden-the_row-Clause-2 hidden
places_in_parentheses = holds the.places_in_parentheses refl

steps : Holds the.steps
unfolding shape-the_row-Expr-0 hidden-the_row-Expr-0 shape-the_row-Expr-1 hidden-the_row-Expr-1 shape-the_row-Stmt-0 hidden-the_row-Stmt-0 shape-the_row-Stmt-1 hidden-the_row-Stmt-1 shape-the_row-Clause-2 hidden-the_row-Clause-2 hidden
steps = holds the.steps refl

local_zero : Holds the.local_zero
unfolding shape-the_row-Expr-0 hidden-the_row-Expr-0 shape-the_row-Expr-1 hidden-the_row-Expr-1 shape-the_row-Stmt-0 hidden-the_row-Stmt-0 shape-the_row-Stmt-1 hidden-the_row-Stmt-1 shape-the_row-Clause-2 hidden-the_row-Clause-2 hidden
local_zero = holds the.local_zero refl

hiding : Holds the.hiding
unfolding shape-the_row-Expr-0 hidden-the_row-Expr-0 shape-the_row-Expr-1 hidden-the_row-Expr-1 shape-the_row-Stmt-0 hidden-the_row-Stmt-0 shape-the_row-Stmt-1 hidden-the_row-Stmt-1 shape-the_row-Clause-2 hidden-the_row-Clause-2 hidden
hiding = holds the.hiding refl

blocks : Holds the.blocks
unfolding shape-the_row-Expr-0 hidden-the_row-Expr-0 shape-the_row-Expr-1 hidden-the_row-Expr-1 shape-the_row-Stmt-0 hidden-the_row-Stmt-0 shape-the_row-Stmt-1 hidden-the_row-Stmt-1 shape-the_row-Clause-2 hidden-the_row-Clause-2 hidden
blocks = holds the.blocks refl

globals_and_scopes : Holds the.globals_and_scopes
unfolding shape-the_row-Expr-0 hidden-the_row-Expr-0 shape-the_row-Expr-1 hidden-the_row-Expr-1 shape-the_row-Stmt-0 hidden-the_row-Stmt-0 shape-the_row-Stmt-1 hidden-the_row-Stmt-1 shape-the_row-Clause-2 hidden-the_row-Clause-2 hidden
globals_and_scopes = holds the.globals_and_scopes refl

falling_off : Holds the.falling_off
unfolding shape-the_row-Expr-0 hidden-the_row-Expr-0 shape-the_row-Expr-1 hidden-the_row-Expr-1 shape-the_row-Stmt-0 hidden-the_row-Stmt-0 shape-the_row-Stmt-1 hidden-the_row-Stmt-1 shape-the_row-Clause-2 hidden-the_row-Clause-2 hidden
falling_off = holds the.falling_off refl

conversions : Holds the.conversions
unfolding shape-the_row-Expr-0 hidden-the_row-Expr-0 shape-the_row-Expr-1 hidden-the_row-Expr-1 shape-the_row-Stmt-0 hidden-the_row-Stmt-0 shape-the_row-Stmt-1 hidden-the_row-Stmt-1 shape-the_row-Clause-2 hidden-the_row-Clause-2 hidden
conversions = holds the.conversions refl

comma : Holds the.comma
unfolding shape-the_row-Expr-0 hidden-the_row-Expr-0 shape-the_row-Expr-1 hidden-the_row-Expr-1 shape-the_row-Stmt-0 hidden-the_row-Stmt-0 shape-the_row-Stmt-1 hidden-the_row-Stmt-1 shape-the_row-Clause-2 hidden-the_row-Clause-2 hidden
comma = holds the.comma refl

starved : Holds the.starved
unfolding shape-the_row-Expr-0 hidden-the_row-Expr-0 shape-the_row-Expr-1 hidden-the_row-Expr-1 shape-the_row-Stmt-0 hidden-the_row-Stmt-0 shape-the_row-Stmt-1 hidden-the_row-Stmt-1 shape-the_row-Clause-2 hidden-the_row-Clause-2 hidden
starved = holds the.starved refl

exits : Holds the.exits
unfolding shape-the_row-Expr-0 hidden-the_row-Expr-0 shape-the_row-Expr-1 hidden-the_row-Expr-1 shape-the_row-Stmt-0 hidden-the_row-Stmt-0 shape-the_row-Stmt-1 hidden-the_row-Stmt-1 shape-the_row-Clause-2 hidden-the_row-Clause-2 hidden
exits = holds the.exits refl

main_spends : Holds the.main_spends
unfolding shape-the_row-Expr-0 hidden-the_row-Expr-0 shape-the_row-Expr-1 hidden-the_row-Expr-1 shape-the_row-Stmt-0 hidden-the_row-Stmt-0 shape-the_row-Stmt-1 hidden-the_row-Stmt-1 shape-the_row-Clause-2 hidden-the_row-Clause-2 hidden
main_spends = holds the.main_spends refl

do_spends : Holds the.do_spends
unfolding shape-the_row-Expr-0 hidden-the_row-Expr-0 shape-the_row-Expr-1 hidden-the_row-Expr-1 shape-the_row-Stmt-0 hidden-the_row-Stmt-0 shape-the_row-Stmt-1 hidden-the_row-Stmt-1 shape-the_row-Clause-2 hidden-the_row-Clause-2 hidden
do_spends = holds the.do_spends refl

do_once : Holds the.do_once
unfolding shape-the_row-Expr-0 hidden-the_row-Expr-0 shape-the_row-Expr-1 hidden-the_row-Expr-1 shape-the_row-Stmt-0 hidden-the_row-Stmt-0 shape-the_row-Stmt-1 hidden-the_row-Stmt-1 shape-the_row-Clause-2 hidden-the_row-Clause-2 hidden
do_once = holds the.do_once refl

while_not_entered : Holds the.while_not_entered
unfolding shape-the_row-Expr-0 hidden-the_row-Expr-0 shape-the_row-Expr-1 hidden-the_row-Expr-1 shape-the_row-Stmt-0 hidden-the_row-Stmt-0 shape-the_row-Stmt-1 hidden-the_row-Stmt-1 shape-the_row-Clause-2 hidden-the_row-Clause-2 hidden
while_not_entered = holds the.while_not_entered refl

endless_while : Holds the.endless_while
unfolding shape-the_row-Expr-0 hidden-the_row-Expr-0 shape-the_row-Expr-1 hidden-the_row-Expr-1 shape-the_row-Stmt-0 hidden-the_row-Stmt-0 shape-the_row-Stmt-1 hidden-the_row-Stmt-1 shape-the_row-Clause-2 hidden-the_row-Clause-2 hidden
endless_while = holds the.endless_while refl

endless_for : Holds the.endless_for
unfolding shape-the_row-Expr-0 hidden-the_row-Expr-0 shape-the_row-Expr-1 hidden-the_row-Expr-1 shape-the_row-Stmt-0 hidden-the_row-Stmt-0 shape-the_row-Stmt-1 hidden-the_row-Stmt-1 shape-the_row-Clause-2 hidden-the_row-Clause-2 hidden
endless_for = holds the.endless_for refl

do_turns : Holds the.do_turns
unfolding shape-the_row-Expr-0 hidden-the_row-Expr-0 shape-the_row-Expr-1 hidden-the_row-Expr-1 shape-the_row-Stmt-0 hidden-the_row-Stmt-0 shape-the_row-Stmt-1 hidden-the_row-Stmt-1 shape-the_row-Clause-2 hidden-the_row-Clause-2 hidden
do_turns = holds the.do_turns refl

continue_and_break : Holds the.continue_and_break
unfolding shape-the_row-Expr-0 hidden-the_row-Expr-0 shape-the_row-Expr-1 hidden-the_row-Expr-1 shape-the_row-Stmt-0 hidden-the_row-Stmt-0 shape-the_row-Stmt-1 hidden-the_row-Stmt-1 shape-the_row-Clause-2 hidden-the_row-Clause-2 hidden
continue_and_break = holds the.continue_and_break refl

self_call : Holds the.self_call
unfolding shape-the_row-Expr-0 hidden-the_row-Expr-0 shape-the_row-Expr-1 hidden-the_row-Expr-1 shape-the_row-Stmt-0 hidden-the_row-Stmt-0 shape-the_row-Stmt-1 hidden-the_row-Stmt-1 shape-the_row-Clause-2 hidden-the_row-Clause-2 hidden
self_call = holds the.self_call refl

return_in_loop : Holds the.return_in_loop
unfolding shape-the_row-Expr-0 hidden-the_row-Expr-0 shape-the_row-Expr-1 hidden-the_row-Expr-1 shape-the_row-Stmt-0 hidden-the_row-Stmt-0 shape-the_row-Stmt-1 hidden-the_row-Stmt-1 shape-the_row-Clause-2 hidden-the_row-Clause-2 hidden
return_in_loop = holds the.return_in_loop refl

switch_falls : Holds the.switch_falls
unfolding shape-the_row-Expr-0 hidden-the_row-Expr-0 shape-the_row-Expr-1 hidden-the_row-Expr-1 shape-the_row-Stmt-0 hidden-the_row-Stmt-0 shape-the_row-Stmt-1 hidden-the_row-Stmt-1 shape-the_row-Clause-2 hidden-the_row-Clause-2 hidden
switch_falls = holds the.switch_falls refl

switch_breaks : Holds the.switch_breaks
unfolding shape-the_row-Expr-0 hidden-the_row-Expr-0 shape-the_row-Expr-1 hidden-the_row-Expr-1 shape-the_row-Stmt-0 hidden-the_row-Stmt-0 shape-the_row-Stmt-1 hidden-the_row-Stmt-1 shape-the_row-Clause-2 hidden-the_row-Clause-2 hidden
switch_breaks = holds the.switch_breaks refl

switch_default : Holds the.switch_default
unfolding shape-the_row-Expr-0 hidden-the_row-Expr-0 shape-the_row-Expr-1 hidden-the_row-Expr-1 shape-the_row-Stmt-0 hidden-the_row-Stmt-0 shape-the_row-Stmt-1 hidden-the_row-Stmt-1 shape-the_row-Clause-2 hidden-the_row-Clause-2 hidden
switch_default = holds the.switch_default refl

default_first : Holds the.default_first
unfolding shape-the_row-Expr-0 hidden-the_row-Expr-0 shape-the_row-Expr-1 hidden-the_row-Expr-1 shape-the_row-Stmt-0 hidden-the_row-Stmt-0 shape-the_row-Stmt-1 hidden-the_row-Stmt-1 shape-the_row-Clause-2 hidden-the_row-Clause-2 hidden
default_first = holds the.default_first refl

default_falls : Holds the.default_falls
unfolding shape-the_row-Expr-0 hidden-the_row-Expr-0 shape-the_row-Expr-1 hidden-the_row-Expr-1 shape-the_row-Stmt-0 hidden-the_row-Stmt-0 shape-the_row-Stmt-1 hidden-the_row-Stmt-1 shape-the_row-Clause-2 hidden-the_row-Clause-2 hidden
default_falls = holds the.default_falls refl

switch_word : Holds the.switch_word
unfolding shape-the_row-Expr-0 hidden-the_row-Expr-0 shape-the_row-Expr-1 hidden-the_row-Expr-1 shape-the_row-Stmt-0 hidden-the_row-Stmt-0 shape-the_row-Stmt-1 hidden-the_row-Stmt-1 shape-the_row-Clause-2 hidden-the_row-Clause-2 hidden
switch_word = holds the.switch_word refl

switch_none : Holds the.switch_none
unfolding shape-the_row-Expr-0 hidden-the_row-Expr-0 shape-the_row-Expr-1 hidden-the_row-Expr-1 shape-the_row-Stmt-0 hidden-the_row-Stmt-0 shape-the_row-Stmt-1 hidden-the_row-Stmt-1 shape-the_row-Clause-2 hidden-the_row-Clause-2 hidden
switch_none = holds the.switch_none refl

switch_continues : Holds the.switch_continues
unfolding shape-the_row-Expr-0 hidden-the_row-Expr-0 shape-the_row-Expr-1 hidden-the_row-Expr-1 shape-the_row-Stmt-0 hidden-the_row-Stmt-0 shape-the_row-Stmt-1 hidden-the_row-Stmt-1 shape-the_row-Clause-2 hidden-the_row-Clause-2 hidden
switch_continues = holds the.switch_continues refl

switch_in_switch : Holds the.switch_in_switch
unfolding shape-the_row-Expr-0 hidden-the_row-Expr-0 shape-the_row-Expr-1 hidden-the_row-Expr-1 shape-the_row-Stmt-0 hidden-the_row-Stmt-0 shape-the_row-Stmt-1 hidden-the_row-Stmt-1 shape-the_row-Clause-2 hidden-the_row-Clause-2 hidden
switch_in_switch = holds the.switch_in_switch refl

deepest_calls : Holds the.deepest_calls
unfolding shape-the_row-Expr-0 hidden-the_row-Expr-0 shape-the_row-Expr-1 hidden-the_row-Expr-1 shape-the_row-Stmt-0 hidden-the_row-Stmt-0 shape-the_row-Stmt-1 hidden-the_row-Stmt-1 shape-the_row-Clause-2 hidden-the_row-Clause-2 hidden
deepest_calls = holds the.deepest_calls refl

one_call_more : Holds the.one_call_more
unfolding shape-the_row-Expr-0 hidden-the_row-Expr-0 shape-the_row-Expr-1 hidden-the_row-Expr-1 shape-the_row-Stmt-0 hidden-the_row-Stmt-0 shape-the_row-Stmt-1 hidden-the_row-Stmt-1 shape-the_row-Clause-2 hidden-the_row-Clause-2 hidden
one_call_more = holds the.one_call_more refl

calls_one_after_another : Holds the.calls_one_after_another
unfolding shape-the_row-Expr-0 hidden-the_row-Expr-0 shape-the_row-Expr-1 hidden-the_row-Expr-1 shape-the_row-Stmt-0 hidden-the_row-Stmt-0 shape-the_row-Stmt-1 hidden-the_row-Stmt-1 shape-the_row-Clause-2 hidden-the_row-Clause-2 hidden
calls_one_after_another = holds the.calls_one_after_another refl

mutual_recursion : Holds the.mutual_recursion
unfolding shape-the_row-Expr-0 hidden-the_row-Expr-0 shape-the_row-Expr-1 hidden-the_row-Expr-1 shape-the_row-Stmt-0 hidden-the_row-Stmt-0 shape-the_row-Stmt-1 hidden-the_row-Stmt-1 shape-the_row-Clause-2 hidden-the_row-Clause-2 hidden
mutual_recursion = holds the.mutual_recursion refl

pub examples : Examples
examples = (operand_order, argument_order, argument_fuel, wrapping, shifts, least_quotient, least_remainder, zero_divisor, zero_divisor_of_remainder, quotients, comparisons, bitwise, short_circuits, arms_type, index_at_length, index_below_zero, length_of_initialisers, index_before_value, index_order, compound_order, assignment_type, compound_type, places_in_parentheses, steps, local_zero, hiding, blocks, globals_and_scopes, falling_off, conversions, comma, starved, exits, main_spends, do_spends, do_once, while_not_entered, endless_while, endless_for, do_turns, continue_and_break, self_call, return_in_loop, switch_falls, switch_breaks, switch_default, default_first, default_falls, switch_word, switch_none, switch_continues, switch_in_switch, deepest_calls, one_call_more, calls_one_after_another, mutual_recursion)
