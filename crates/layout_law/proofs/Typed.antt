-- The words of a guarded program with heads are well typed.
use Rattle.hard_items.specs.Heads.{headed}
use Rattle.layout_law.specs.Level.{Layable, Entered}
use Rattle.layout_law.specs.Typed.{WordsAreTyped}
use Rattle.layout_law.proofs.Laying.{can_be_laid}
use Rattle.layout_law.proofs.Entered.{entered}
use Rattle.layout_law.proofs.Next.{has_instruction, goes_inside}
use Rattle.layout_law.proofs.Hazards.{has_no_hazard}
use Rattle.layout_law.proofs.Uses.{is_checked}
use Rattle.layout_law.proofs.Clean.{has_head, keeps_signs}
use Rattle.layout_law.proofs.Slots.{keeps_slot, moves_held}
use Rattle.layout_law.proofs.Halves.{keeps_stream}
use Rattle.layout_law.proofs.Services.{keeps_forms}

pub words_are_typed : WordsAreTyped
words_are_typed s k e g a =
    let l : Layable (headed s) = can_be_laid s k in
    let n : Entered (headed s) = entered s k.well_formed in
    record {
      instruction = has_instruction (headed s) l a;
      head = has_head s l n e a;
      stream = keeps_stream s l n e g a;
      checked = is_checked s l n g a;
      hazard = has_no_hazard (headed s) l n a;
      inside = goes_inside (headed s) l n a;
      held = moves_held s l k.formed a;
      signs = keeps_signs s l n e k.formed a;
      forms = keeps_forms s l n e g a;
      slot = keeps_slot s l n g a;
    }
