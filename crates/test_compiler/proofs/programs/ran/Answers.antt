use Rattle.compile_rules.specs.Compiled.{IsCheckedSource}
use Rattle.test_compiler.proofs.programs.ran.Goals as goal

pub doubled_program-requires : goal.doubled_program-requires
doubled_program-requires c =
    let is : IsCheckedSource c.args.source.now c.in_ok-checked.checked = c.in_ok-checked.ensures.ok in
    c.stays_labelled.ensures is.program c.in_ok-checked.checked is.is_checked (c.parsed_is_labelled.ensures is.is_source.tokens is.program is.is_source.tree)
