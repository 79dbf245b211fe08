-- The run with heads follows the run without them.
use Rattle.std.proofs.Common.{◌≡◌, ◌≢◌, ◌≤◌, ℕ, zero, suc, ◌+◌, ◌<◌, arith, rules, ap, refl, sym, ◌∙◌, subst, List, [], ◌∷◌, ◌++◌, length, false, true, Bool, inl, inr}
use Rattle.std.specs.Prelude.{Option, Some, None, ◌⊎◌}
use Rattle.hard_runs.specs.Observed.{SameObserved}
use Rattle.hard_runs.specs.Stepping.{Stepper, Quiet, Leads, Stage, Beside, on as beside, over as both_over, Follows, Always, put, go, Stands as Rests}
use Rattle.hard_runs.proofs.Following.{follows}
use Rattle.mips_isa.specs.declared.instr.End.{End}
use Rattle.mips_isa.specs.declared.instr.End.TheVariants.{Reported}
use Rattle.hard_items.specs.declared.code.Item.{Item}
use Rattle.hard_items.specs.declared.code.HardProgram.{HardProgram}
use Rattle.hard_items.specs.declared.code.Signed.{Signed}
use Rattle.hard_items.specs.Run.{Data, Spot, Way, Onward, items, items_of, at_block, first_spot, first_data, item_run, held}
use Rattle.hard_items.specs.Heads.{headed, head_items, signed_run}
use Rattle.signature_assign.specs.Headed.{Spares, Legal, OrderlyNext, OrderlyAt, mark_at, found, HeadsPass, IsClosed, Near, Level, Stands, in_head, level}
use Rattle.signature_assign.proofs.Step.{Rel, inside, entering, Stepped, on, over, Kept, at_rest, item_steps}
use Rattle.signature_assign.proofs.Head.{headed_items, Held, Through, through}

module _ (s : Signed) (start : Spot) (hp : HeadsPass s) (c : IsClosed s.program) where
  abbrev low : Stepper Spot End
  low = items (headed s)

  abbrev high : Stepper Spot End
  high = items s.program

  abbrev Good : Spot → Type 0
  Good l = Stands s start l

  next_of : (x y : Spot × Option ℕ) → Stepped s x y → Beside low high (Rel s) x.0 y.0
  next_of x y (on r e) = beside r
  next_of x y (over k e f g) = both_over k e f

  output_of : (x y : Spot × Option ℕ) → Stepped s x y → y.1 ≡ x.1
  output_of x y (on r e) = e
  output_of x y (over k e f g) = g

  level_at : (b : ℕ) (rest : List Item) (w : Way) (d e : Data) → Kept d e (mark_at s b).s (mark_at s b).adjust → Level s (at_rest b rest w d) (at_rest b rest w e)
  level_at b rest w d e k = record { block = refl; rest = refl; way = refl; going = refl; open_ = refl; near = k.near; long = k.long; zero = k.zero; sign = k.sign; adjust = k.adjust }

  -- some quiet steps of the run with heads lead to the item at which the other run stands
  stage_at : (n k b : ℕ) (i : Item) (more : List Item) (w : Way) (d e : Data) (l : Spot) → (go high start n).state ≡ at_rest b (i ∷ more) w d → Leads low Good k l (at_rest b (i ∷ more) w e) → Kept d e (mark_at s b).s (mark_at s b).adjust → OrderlyNext s.program b w (i ∷ more) d → Stage low high Good (Rel s) (go high start n).state l
  stage_at n k b i more w d e l eh leads kept o =
      let x : Stepped s (high.step (at_rest b (i ∷ more) w d)) (low.step (at_rest b (i ∷ more) w e)) = item_steps s b i more w d e hp c o.0 kept o.1 in
      let here : Level s (go high start n).state (at_rest b (i ∷ more) w e) = subst (λ (z : Spot). Level s z (at_rest b (i ∷ more) w e)) (sym eh) (level_at b (i ∷ more) w d e kept) in
      subst (λ (z : Spot). Stage low high Good (Rel s) z l) (sym eh) (record {
        more = 0;
        quiet = k;
        last = at_rest b (i ∷ more) w e;
        going = refl;
        leads = leads;
        open_ = refl;
        good = level n here;
        fewer = none_less k;
        output = ap (λ (v : Option ℕ). put [] v) (output_of (high.step (at_rest b (i ∷ more) w d)) (low.step (at_rest b (i ∷ more) w e)) x);
        next = next_of (high.step (at_rest b (i ∷ more) w d)) (low.step (at_rest b (i ∷ more) w e)) x;
      })
    where
      none_less : (k : ℕ) → 0 ≤ k
      none_less k = omega arith

  some_next : (b : ℕ) (w : Way) (rest : List Item) (d : Data) → OrderlyNext s.program b w rest d → (i : Item) × ((more : List Item) × (rest ≡ i ∷ more))
  some_next b w [] d o = absurd o
  some_next b w (i ∷ more) d o = (i, (more, refl))

  open_spot : (h : Spot) → h.end ≡ None → h ≡ at_rest h.block h.rest h.way h.now
  open_spot h e = ap (λ (x : Option End). let z : Spot = record { block = h.block; rest = h.rest; way = h.way; now = h.now; end = x } in z) e

  level_spot : (h l : Spot) → Level s h l → l ≡ at_rest h.block h.rest h.way l.now
  level_spot h l k = open_spot l k.open_
      ∙ (ap (λ (x : ℕ). at_rest x l.rest l.way l.now) k.block
      ∙ (ap (λ (x : List Item). at_rest h.block x l.way l.now) k.rest
      ∙ ap (λ (x : Way). at_rest h.block h.rest x l.now) k.way))

  stage : Always high start (OrderlyAt s.program) → (n : ℕ) (l : Spot) → Rel s (go high start n).state l → Stage low high Good (Rel s) (go high start n).state l
  stage orderly n l (inside k) =
      let h : Spot = (go high start n).state in
      let o : OrderlyNext s.program h.block h.way h.rest h.now = orderly n k.going in
      let r : (i : Item) × ((more : List Item) × (h.rest ≡ i ∷ more)) = some_next h.block h.way h.rest h.now o in
      let eh : h ≡ at_rest h.block (r.0 ∷ r.1.0) h.way h.now = open_spot h k.going ∙ ap (λ (x : List Item). at_rest h.block x h.way h.now) r.1.1 in
      let el : l ≡ at_rest h.block (r.0 ∷ r.1.0) h.way l.now = level_spot h l k ∙ ap (λ (x : List Item). at_rest h.block x h.way l.now) r.1.1 in
      stage_at n 0 h.block r.0 r.1.0 h.way h.now l.now l eh el (record { near = k.near; long = k.long; zero = k.zero; sign = k.sign; adjust = k.adjust })
      (subst (λ (x : List Item). OrderlyNext s.program h.block h.way x h.now) r.1.1 o)
  stage orderly n l (entering t d e eh el b near long nil f) =
      let h : Spot = (go high start n).state in
      let r : (i : Item) × ((more : List Item) × (items_of s.program t ≡ i ∷ more)) = c.some t b in
      let eh' : h ≡ at_rest t (r.0 ∷ r.1.0) Onward d = eh ∙ ap (λ (x : List Item). at_rest t x Onward d) r.1.1 in
      let el' : l ≡ at_rest t (head_items (mark_at s t) ++ (r.0 ∷ r.1.0)) Onward e = el ∙ ap (λ (x : List Item). at_rest t x Onward e) (headed_items s t hp.one_each b ∙ ap (λ (x : List Item). head_items (mark_at s t) ++ x) r.1.1) in
      let k : Held d e (held e 24) (held e 28) = record { near = near; long = long; zero = nil; four = refl; eight = refl } in
      let T : Through (headed s) Good t (mark_at s t) r.0 r.1.0 d e = through (headed s) Good (λ m w more g q. in_head w more g q) t (mark_at s t) r.0 r.1.0 d e (held e 24) (held e 28) k f in
      let o : OrderlyAt s.program h = orderly n (ap (λ (x : Spot). x.end) eh) in
      stage_at n 6 t r.0 r.1.0 Onward d T.now l eh' (subst (λ (x : Spot). Leads low Good 6 x (at_rest t (r.0 ∷ r.1.0) Onward T.now)) (sym el') T.leads) T.kept (subst (λ (x : Spot). OrderlyAt s.program x) eh' o)

rests : (p : HardProgram) → Rests (items p)
rests p s e h = rw h refl

begins : (s : Signed) (input : List ℕ) → HeadsPass s → IsClosed s.program → Rel s (first_spot s.program input) (first_spot (headed s) input)
begins s input hp c =
    let d : Data = first_data s.program input in
    entering 0 d d refl refl c.has_block (record { regs = d.regs; backs = d.backs; stored = d.stored; is = refl; same = record { len = refl; same = λ q k. refl }; same_backs = λ q k. refl; same_stored = λ q. refl }) refl refl hp.first

pub headed_follows : (s : Signed) (input : List ℕ) → HeadsPass s → IsClosed s.program → Always (items s.program) (first_spot s.program input) (OrderlyAt s.program) → SameObserved (signed_run s input) (item_run s.program input) × Always (items (headed s)) (first_spot (headed s) input) (Stands s (first_spot s.program input))
headed_follows s input hp c o = follows Spot Spot End (items (headed s)) (items s.program) (Stands s (first_spot s.program input)) (Rel s) (first_spot s.program input) (first_spot (headed s) input) (rests (headed s)) (rests s.program) (stage s (first_spot s.program input) hp c o) (begins s input hp c)
