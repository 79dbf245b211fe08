-- A store into a variable at file scope.
use Rattle.std.proofs.Common.{◌≡◌, ℕ, Bool, true, false, List, Option, Some, None, refl, sym, ap, ◌∙◌}
use Rattle.c_meaning.specs.declared.run.Value.{Value}
use Rattle.c_meaning.specs.Run.{Entry, Global, State, Gives, innermost, put_innermost, change_global, put_scalar, is_some_value, stored, write}
use Rattle.eval_state.specs.State.{Held, state}
use Rattle.eval_state.proofs.Uses.{put_nothing}

none_of : (o : Option Value) → false ≡ is_some_value o → o ≡ None
none_of None e = refl
none_of (Some v) e = cc

pub written_global : (name word : ℕ) (h : Held) (scopes : List (List Entry)) (globals : List Global) → false ≡ is_some_value (innermost name h.scopes) → scopes ≡ put_innermost name word h.scopes → globals ≡ change_global name (put_scalar word) h.globals → write name word (state h) ≡ Gives tt (state (record { globals = globals; scopes = scopes; input = h.input; fuel = h.fuel; active = h.active }))
written_global name word h scopes globals found in_scope at_file =
    let none : innermost name h.scopes ≡ None = none_of (innermost name h.scopes) found in
    rw (none, in_scope, put_nothing name word h.scopes none, at_file) refl
