-- The run of a signed program with its heads is the run of the program.
use Rattle.std.proofs.Common.{◌≡◌, ℕ, List}
use Rattle.mips_isa.specs.declared.instr.End.TheVariants.{Reported}
use Rattle.hard_items.specs.declared.code.Signed.{Signed}
use Rattle.hard_items.specs.Heads.{headed}
use Rattle.signature_assign.specs.Headed.{HeadsKeep, HeadsNeverReport}
use Rattle.signature_assign.proofs.Premises.{heads_pass, closed}
use Rattle.signature_assign.proofs.Orderly.{orderly}
use Rattle.signature_assign.proofs.Fits.{blocks_fit}
use Rattle.signature_assign.proofs.Follow.{headed_follows}

pub heads_keep : HeadsKeep
heads_keep s a g input words = headed_follows s input (heads_pass s a.well_formed g) (closed s.program a.well_formed) (orderly s.program a.well_formed (blocks_fit s.program a.formed) input (a.lawful input words))

pub heads_never_report : HeadsNeverReport
heads_never_report s a g quiet input words n code at e = quiet input words n code at ((heads_keep s a g input words).0.ends n (Reported code at) e).0
