use Rattle.std.proofs.Common.{rules}
use Rattle.check_globals.proofs.Entered.{same_walk}
use Rattle.check_globals.proofs.variables.global.Goals as goal

pub returns-in_err-s-clause-walk : goal.returns-in_err-s-clause-walk
returns-in_err-s-clause-walk c = rw (same_walk c.args.g c.args.scopes.now) (search rules)

pub returns-in_err-require-2-clause-walk : goal.returns-in_err-require-2-clause-walk
returns-in_err-require-2-clause-walk c = rw (same_walk c.args.g c.args.scopes.now) (search rules)

pub returns-in_err-es-clause-walk : goal.returns-in_err-es-clause-walk
returns-in_err-es-clause-walk c = rw (same_walk c.args.g c.args.scopes.now) (search rules)

pub returns-clause-walk : goal.returns-clause-walk
returns-clause-walk c = rw (same_walk c.args.g c.args.scopes.now) (search rules)
