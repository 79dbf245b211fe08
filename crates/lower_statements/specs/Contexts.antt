-- What the context of a statement stands for.
use Rattle.lower_rules.specs.Statements as law
use Rattle.lower_statements.specs.declared.context.Context.{Context}

abbrev pub context_of : Context → law.Context
context_of to = record { breaks_to = to.breaks_to; continues_to = to.continues_to; returns_to = to.returns_to; free = to.free }
