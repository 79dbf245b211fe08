-- Steps of a runner and of a run beside each other.
use Rattle.std.proofs.Common.{◌≡◌, ℕ, ◌+◌, ap, refl, sym, ◌∙◌, subst, List, [], ◌∷◌, drop, Bool, true, false, cond}
use Rattle.std.specs.Prelude.{Option, Some, None, slice_get, is_some, not, ◌==◌, ◌%◌, nat_lt, length}
use Rattle.mips_isa.specs.declared.instr.Act.{Act}
use Rattle.mips_isa.specs.declared.instr.Act.TheVariants.{Write, Move, Both, Load, Store, Go, Link, Pass, Service, Stop}
use Rattle.mips_isa.specs.declared.instr.End.{End}
use Rattle.mips_isa.specs.declared.instr.End.TheVariants.{Exception}
use Rattle.mips_isa.specs.Machine.{State, reg, act, perform, in_memory}
use Rattle.mips_machine.specs.View.{state_of}
use Rattle.hard_items.specs.declared.code.Item.{Item}
use Rattle.hard_items.specs.declared.code.HardProgram.{HardProgram}
use Rattle.hard_items.specs.Run as run
use Rattle.hard_items.specs.Run.{Data, Spot, items, items_of, item_act, machine_of, numbered, completed, do_item, settled, step_from, step_rest, arrived, way_of, data_after}
use Rattle.test_oracle.specs.declared.item_runner.Way.{Way}
use Rattle.test_oracle.specs.declared.item_runner.Runner.{Runner}
use Rattle.test_oracle.specs.Standing.{way_seen, spot_of, resting, Standing, Stands, Stepped}
use Rattle.test_oracle.proofs.Lists.{drop_some, drop_none}

-- ---- steps without an item

-- After an end nothing happens.
over_step : (p : HardProgram) (r : Runner) (s : Spot) (e : End) → r.machine.end ≡ Some e → Stands p r s → Stepped p r None ((items p).step s)
over_step p r s e h st =
    let is : step_from p s s.end ≡ (s, None) = ap (λ (x : Option End). step_from p s x) (st.ended ∙ h) in
    subst (λ (t : Spot × Option ℕ). Stepped p r None t) (sym is) (record { stands = st; puts = refl })

some_end : (o : Option End) (b : Bool) → b ≡ is_some o → b ≡ true → (e : End) × (o ≡ Some e)
some_end None b p q = cc
some_end (Some e) b p q = (e, refl)

no_end : (o : Option End) (b : Bool) → b ≡ is_some o → b ≡ false → o ≡ None
no_end None b p q = refl
no_end (Some e) b p q = cc

-- The same, where a test found the end; where it found none, the run goes on.
pub over_test : (p : HardProgram) (r : Runner) (s : Spot) (b : Bool) → b ≡ is_some r.machine.end → b ≡ true → Stands p r s → Stepped p r None ((items p).step s)
over_test p r s b is holds st =
    let found : (e : End) × (r.machine.end ≡ Some e) = some_end r.machine.end b is holds in
    over_step p r s found.0 found.1 st

pub open_test : (p : HardProgram) (r : Runner) (s : Spot) (b : Bool) → b ≡ is_some r.machine.end → b ≡ false → Stands p r s → Standing p r s
open_test p r s b is fails st = st.going (no_end r.machine.end b is fails)

-- A block that has run out of items ends the run.
pub empty_step : (p : HardProgram) (r next : Runner) (s : Spot) → Standing p r s → slice_get (items_of p r.block) r.at ≡ None → next.machine.end ≡ Some (Exception 6 0) → Stepped p next None ((items p).step s)
empty_step p r next s st none e =
    let open_ : s.end ≡ None = ap (λ (x : Spot). x.end) st.place in
    let left : s.rest ≡ [] = ap (λ (x : Spot). x.rest) st.place ∙ drop_none (items_of p r.block) r.at none in
    let is : step_from p s s.end ≡ (record s { end = Some (Exception 6 0) }, None) = ap (λ (x : Option End). step_from p s x) open_ ∙ ap (λ (l : List Item). step_rest p s l) left in
    subst (λ (t : Spot × Option ℕ). Stepped p next None t) (sym is) (record {
      stands = record { ended = sym e; going = λ q. let no : None ≡ Some (Exception 6 0) = sym q ∙ e in cc };
      puts = refl;
    })

-- A step does the item that comes next.
item_step : (p : HardProgram) (r : Runner) (s : Spot) (i : Item) → Standing p r s → slice_get (items_of p r.block) r.at ≡ Some i →
    (items p).step s ≡ do_item p s i (drop (r.at + 1) (items_of p r.block)) (item_act s.block i s.now)
item_step p r s i st h =
    let open_ : s.end ≡ None = ap (λ (x : Spot). x.end) st.place in
    let left : s.rest ≡ i ∷ drop (r.at + 1) (items_of p r.block) = ap (λ (x : Spot). x.rest) st.place ∙ drop_some (items_of p r.block) r.at i h in
    ap (λ (x : Option End). step_from p s x) open_ ∙ ap (λ (l : List Item). step_rest p s l) left

pub does_step : (p : HardProgram) (r next : Runner) (w : Option ℕ) (s : Spot) (i : Item) → Standing p r s → slice_get (items_of p r.block) r.at ≡ Some i →
    Stepped p next w (do_item p s i (drop (r.at + 1) (items_of p r.block)) (item_act s.block i s.now)) → Stepped p next w ((items p).step s)
does_step p r next w s i st h done = subst (λ (t : Spot × Option ℕ). Stepped p next w t) (sym (item_step p r s i st h)) done

-- ---- an item

-- What an item does, on the machine that the runner has.
done : (p : HardProgram) (r : Runner) (s : Spot) (i : Item) (more : List Item) (a : Act) (t : State) (w : Option ℕ) → Standing p r s →
    a ≡ completed i.fix r.block (numbered r.block (act i.instr (state_of r.machine))) → perform a (state_of r.machine) ≡ (t, w) →
    do_item p s i more (item_act s.block i s.now) ≡ settled p s i more a (t, w) t.end
done p r s i more a t w st is runs =
    let block : s.block ≡ r.block = ap (λ (x : Spot). x.block) st.place in
    let same : item_act s.block i s.now ≡ a =
    ap (λ (x : State). completed i.fix s.block (numbered s.block (act i.instr x))) st.holds
    ∙ (ap (λ (b : ℕ). completed i.fix b (numbered b (act i.instr (state_of r.machine)))) block ∙ sym is) in
    let there : perform a (machine_of s.now) ≡ (t, w) = ap (λ (x : State). perform a x) st.holds ∙ runs in
    ap (λ (x : Act). do_item p s i more x) same ∙ ap (λ (x : State × Option ℕ). settled p s i more a x x.0.end) there

-- An item that ends the run.
pub ends_item : (p : HardProgram) (r next : Runner) (s : Spot) (i : Item) (more : List Item) (a : Act) (w : Option ℕ) (b : Bool) → Standing p r s →
    a ≡ completed i.fix r.block (numbered r.block (act i.instr (state_of r.machine))) → perform a (state_of r.machine) ≡ (state_of next.machine, w) →
    b ≡ is_some next.machine.end → b ≡ true → Stepped p next None (do_item p s i more (item_act s.block i s.now))
ends_item p r next s i more a w b st is runs test holds =
    let there : (e : End) × (next.machine.end ≡ Some e) = some_end next.machine.end b test holds in
    let e : End = there.0 in
    let h : next.machine.end ≡ Some e = there.1 in
    let found : do_item p s i more (item_act s.block i s.now) ≡ (record s { end = Some e }, None) = done p r s i more a (state_of next.machine) w st is runs ∙ ap (λ (x : Option End). settled p s i more a (state_of next.machine, w) x) h in
    subst (λ (t : Spot × Option ℕ). Stepped p next None t) (sym found) (record {
      stands = record { ended = sym h; going = λ q. let no : None ≡ Some e = sym q ∙ h in cc };
      puts = refl;
    })

either_text : (b : Bool) (x y : State × Option ℕ) (l : List ℕ) → x.0.text ≡ l → y.0.text ≡ l → (cond b x y).0.text ≡ l
either_text true x y l p q = p
either_text false x y l p q = q

-- No act changes the text.
text_stays : (a : Act) (s : State) → (perform a s).0.text ≡ s.text
text_stays (Write x v) s = refl
text_stays (Move x v) s = refl
text_stays (Both h l) s = refl
text_stays (Load x a) s = either_text (not (a % 4 == 0)) _ _ _ refl (either_text (not (in_memory s a)) _ _ _ refl refl)
text_stays (Store a v) s = either_text (not (a % 4 == 0)) _ _ _ refl (either_text (not (in_memory s a)) _ _ _ refl refl)
text_stays (Go to) s = refl
text_stays (Link to) s = refl
text_stays Pass s = refl
text_stays Service s = either_text (reg s 2 == 1) _ _ _ refl (either_text (reg s 2 == 5) _ _ _ (either_text (nat_lt s.fed (length s.feed)) _ _ _ refl refl) (either_text (reg s 2 == 17) _ _ _ refl refl))
text_stays (Stop e) s = refl

-- The data behind an item are those of the machine at rest.
rests_as : (i : Item) (a : Act) (d : Data) (now : State) → now.text ≡ [] → now.end ≡ None → machine_of (data_after i a d now) ≡ resting now
rests_as i a d now text open_ = rw (text, open_) refl

-- Where the runner arrives, for any data.
abbrev pub Arrived : HardProgram → Runner → Runner → Way → Type 0
Arrived p r next own = (d : Data) → spot_of p next d ≡ arrived p (way_seen r.way) (way_seen own) r.block (drop (r.at + 1) (items_of p r.block)) d

-- The way of an item, for any data with the runner's registers.
abbrev pub Leads : HardProgram → Runner → Item → Way → Type 0
Leads p r i own = (d : Data) → d.regs ≡ r.machine.regs → way_seen own ≡ way_of p i d i.instr

-- An item behind which the run goes on: the machine `now` is as the item leaves it.
pub goes_item : (p : HardProgram) (r next : Runner) (now : State) (s : Spot) (i : Item) (a : Act) (w : Option ℕ) (own : Way) (b : Bool) → Standing p r s →
    a ≡ completed i.fix r.block (numbered r.block (act i.instr (state_of r.machine))) → perform a (state_of r.machine) ≡ (now, w) →
    b ≡ is_some now.end → b ≡ false → state_of next.machine ≡ resting now → Leads p r i own → Arrived p r next own →
    Stepped p next w (do_item p s i (drop (r.at + 1) (items_of p r.block)) (item_act s.block i s.now))
goes_item p r next now s i a w own b st is runs test fails rests leads arrives =
    let open_ : now.end ≡ None = no_end now.end b test fails in
    let more : List Item = drop (r.at + 1) (items_of p r.block) in
    let d : Data = data_after i a s.now now in
    let text : now.text ≡ [] = sym (ap (λ (x : State × Option ℕ). x.0.text) runs) ∙ (text_stays a (state_of r.machine) ∙ sym (ap (λ (x : State). x.text) st.holds)) in
    let regs : s.now.regs ≡ r.machine.regs = ap (λ (x : State). x.regs) st.holds in
    let block : s.block ≡ r.block = ap (λ (x : Spot). x.block) st.place in
    let way : s.way ≡ way_seen r.way = ap (λ (x : Spot). x.way) st.place in
    let first : do_item p s i more (item_act s.block i s.now) ≡ (arrived p s.way (way_of p i s.now i.instr) s.block more d, w) = done p r s i more a now w st is runs ∙ ap (λ (x : Option End). settled p s i more a (now, w) x) open_ in
    let there : arrived p s.way (way_of p i s.now i.instr) s.block more d ≡ spot_of p next d =
    ap (λ (x : run.Way). arrived p x (way_of p i s.now i.instr) s.block more d) way
    ∙ (ap (λ (x : run.Way). arrived p (way_seen r.way) x s.block more d) (sym (leads s.now regs))
    ∙ (ap (λ (x : ℕ). arrived p (way_seen r.way) (way_seen own) x more d) block ∙ sym (arrives d))) in
    let found : do_item p s i more (item_act s.block i s.now) ≡ (spot_of p next d, w) = first ∙ ap (λ (x : Spot). let q : Spot × Option ℕ = (x, w) in q) there in
    let closed : next.machine.end ≡ None = ap (λ (m : State). m.end) rests ∙ open_ in
    let holds : machine_of d ≡ state_of next.machine = rests_as i a s.now now text open_ ∙ sym rests in
    subst (λ (t : Spot × Option ℕ). Stepped p next w t) (sym found) (record {
      stands = record { ended = sym closed; going = λ q. record { place = refl; holds = holds } };
      puts = refl;
    })
