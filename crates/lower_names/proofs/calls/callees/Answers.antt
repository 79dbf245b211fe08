use Rattle.lower_names.proofs.Numbers.{all_called}
use Rattle.lower_names.proofs.calls.callees.Goals as goal

pub returns : goal.returns
returns c =
    all_called c.args.names c.args.items.now c.in_ok-next.next _ _ _ _ _ c.new-all.ensures.items c.in_ok-next.ensures.next c.in_ok-next.ensures.notes c.in_ok-note_all.ensures.notes c.in_ok-put.ensures c.in_ok-put-2.ensures
