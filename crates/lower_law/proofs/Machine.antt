-- What the block machine does from where a call stands, beside the run of a part of a C program.
use Rattle.std.proofs.Common.{◌≡◌, ℕ, zero, suc, ◌+◌, ◌-◌, ◌≤◌, List, ◌++◌, map, Option, Some, None, refl, sym, ap, ◌∙◌, subst, arith}
use Rattle.std.specs.Prelude.{slice_get}
use Rattle.c_meaning.specs.declared.run.EvalEnd.{EvalEnd}
use Rattle.c_meaning.specs.declared.run.EvalEnd.TheVariants as c
use Rattle.c_meaning.specs.Run.{Global, State, Outcome, Gives, Ends, Run, and_then, spend, spend_from}
use Rattle.mid_blocks.specs.declared.code.MidFunction.{MidFunction}
use Rattle.mid_blocks.specs.declared.code.Mid.{Mid}
use Rattle.mid_blocks.specs.Lines.{Line, line_at}
use Rattle.mid_blocks.specs.Run.{Active, BlockState, Variables, do_line, line_in_function, block_step, after}
use Rattle.mid_blocks.specs.Bounds.{ProperLine}
use Rattle.lower_law.proofs.Lines.{Spot}
use Rattle.lower_rules.specs.Seen.{end_of}
use Rattle.lower_rules.specs.Programs.{object_words}

-- ---- the machine beside a state

abbrev pub globals_words : List Global → List (List ℕ)
globals_words gs = map (λ g. object_words g.object) gs

-- an active call: its function, the variable that takes what it returns, and its callers
pub record Frame : Type 0 where
  pub function : ℕ
  pub code : MidFunction
  pub result : Option ℕ
  pub callers : List Active

-- the program, what is to be shown of every state that is passed, and the globals behind those of the C program: what they hold where so many
-- calls of recursive functions are active
pub record Setting : Type 1 where
  pub mid : Mid
  pub Good : BlockState → Type 0
  pub extra : ℕ → List (List ℕ)

abbrev pub at_spot : Frame → Spot → Variables → Active
at_spot fr at vars = record { function = fr.function; block = at.block; step = at.step; variables = vars; result = fr.result }

-- the machine where a call stands at a spot and the C program has a state
abbrev pub machine : Setting → Frame → Spot → Variables → State → BlockState
machine k fr at vars s = record {
  current = at_spot fr at vars;
  callers = fr.callers;
  globals = globals_words s.globals ++ k.extra s.active;
  feed = s.input;
  output = s.output;
  end = None;
}

-- the frame is one of the program, in which every state is good whose next line is proper
pub record Fits (k : Setting) (fr : Frame) : Type 0 where
  pub is : slice_get k.mid.functions fr.function ≡ Some fr.code
  pub good : (at : Spot) (vars : Variables) (s : State) (line : Line) → line_at fr.code at.block at.step ≡ Some line → ProperLine line vars (globals_words s.globals ++ k.extra s.active) → k.Good (machine k fr at vars s)

-- how many steps are owed for an end: one more than there was fuel, where it is spent, since the step before the spending that fails counts
abbrev pub owed : EvalEnd → ℕ → ℕ
owed (c.Exited word) fuel = 0
owed (c.Trapped trap) fuel = 0
owed c.Starved fuel = 0
owed c.Going fuel = suc fuel

module _ (k : Setting) where
  -- so many steps lead from one state to the other, by good states
  abbrev pub Goes : ℕ → BlockState → BlockState → Type 0
  Goes zero b b' = b ≡ b'
  Goes (suc n) b b' = k.Good b × Goes n (block_step k.mid b) b'

  goes_on : (m n : ℕ) (b b1 b2 : BlockState) → Goes m b b1 → Goes n b1 b2 → (j : ℕ) × (j ≡ m + n) × Goes j b b2
  goes_on zero n b b1 b2 p q = (n, omega arith, subst (λ x. Goes n x b2) (sym p) q)
  goes_on (suc m) n b b1 b2 p q = let r = goes_on m n (block_step k.mid b) b1 b2 p.1 q in (suc r.0, omega (arith, r.1), (p.0, r.2))

  pub goes_after : (n : ℕ) (b b' : BlockState) → Goes n b b' → after k.mid n b ≡ b'
  goes_after zero b b' p = p
  goes_after (suc n) b b' p = goes_after n (block_step k.mid b) b' p.1

  -- at least so many steps
  pub record Comes (b : BlockState) (least : ℕ) (b' : BlockState) : Type 0 where
    pub steps : ℕ
    pub enough : least ≤ steps
    pub goes : Goes steps b b'

  pub comes_here : (b : BlockState) → Comes b 0 b
  comes_here b = record { steps = 0; enough = omega arith; goes = refl }

  pub comes_on : (b b1 b2 : BlockState) (m n least : ℕ) → least ≤ m + n → Comes b m b1 → Comes b1 n b2 → Comes b least b2
  comes_on b b1 b2 m n least le p q =
      let r = goes_on p.steps q.steps b b1 b2 p.goes q.goes in
      record { steps = r.0; enough = omega (arith, r.1, p.enough, q.enough, le); goes = r.2 }

  -- one line
  pub comes_by : (fr : Frame) → Fits k fr → (at : Spot) (vars : Variables) (s : State) (line : Line) (b' : BlockState) → line_at fr.code at.block at.step ≡ Some line → ProperLine line vars (globals_words s.globals ++ k.extra s.active) → do_line (Some line) (machine k fr at vars s) ≡ b' → Comes (machine k fr at vars s) 1 b'
  comes_by fr ok at vars s line b' is proper does = record {
    steps = 1;
    enough = omega arith;
    goes = (
      ok.good at vars s line is proper,
      ap (λ f. do_line (line_in_function f (at_spot fr at vars)) (machine k fr at vars s)) ok.is ∙ ap (λ l. do_line l (machine k fr at vars s)) is ∙ does,
    );
  }

  -- the machine comes to an end, or goes on where the fuel is spent
  pub record Stops (b : BlockState) (fuel : ℕ) (end : EvalEnd) (output : List ℕ) : Type 0 where
    pub last : BlockState
    pub comes : Comes b (owed end fuel) last
    pub end_is : last.end ≡ end_of end
    pub output_is : last.output ≡ output

  owed_less : (end : EvalEnd) (fuel m fuel' : ℕ) → fuel ≤ m + fuel' → owed end fuel ≤ m + owed end fuel'
  owed_less (c.Exited word) fuel m fuel' le = omega arith
  owed_less (c.Trapped trap) fuel m fuel' le = omega arith
  owed_less c.Starved fuel m fuel' le = omega arith
  owed_less c.Going fuel m fuel' le = omega (arith, le)

  pub stops_after : (b b1 : BlockState) (m fuel fuel' : ℕ) (end : EvalEnd) (output : List ℕ) → fuel ≤ m + fuel' → Comes b m b1 → Stops b1 fuel' end output → Stops b fuel end output
  stops_after b b1 m fuel fuel' end output le p q = record {
    last = q.last;
    comes = comes_on b b1 q.last m (owed end fuel') (owed end fuel) (owed_less end fuel m fuel' le) p q.comes;
    end_is = q.end_is;
    output_is = q.output_is;
  }

  module _ (fr : Frame) where
    -- from b, with so much fuel, the machine does what the outcome says, and then stands at a spot of the frame where `post` holds
    pub record Arrives {A : Type 0} (post : A → State → Spot → Variables → Type 0) (b : BlockState) (fuel : ℕ) (a : A) (s : State) : Type 0 where
      pub at : Spot
      pub vars : Variables
      pub comes : Comes b (fuel - s.fuel) (machine k fr at vars s)
      pub no_more : s.fuel ≤ fuel
      pub holds : post a s at vars

    abbrev pub Does : {A : Type 0} → (A → State → Spot → Variables → Type 0) → BlockState → ℕ → Outcome A → Type 0
    Does post b fuel (Gives a s) = Arrives post b fuel a s
    Does post b fuel (Ends end output) = Stops b fuel end output

    -- nothing is done
    pub does_nothing : {A : Type 0} (post : A → State → Spot → Variables → Type 0) (at : Spot) (vars : Variables) (s : State) (a : A) → post a s at vars → Does post (machine k fr at vars s) s.fuel (Gives a s)
    does_nothing post at vars s a h = record { at = at; vars = vars; comes = record { steps = 0; enough = omega arith; goes = refl }; no_more = omega arith; holds = h }

    -- steps before
    pub does_after : {A : Type 0} (post : A → State → Spot → Variables → Type 0) (b b1 : BlockState) (m fuel fuel' : ℕ) (o : Outcome A) → fuel ≤ m + fuel' → fuel' ≤ fuel → Comes b m b1 → Does post b1 fuel' o → Does post b fuel o
    does_after post b b1 m fuel fuel' (Gives a s) le le' p d = record {
      at = d.at;
      vars = d.vars;
      comes = comes_on b b1 (machine k fr d.at d.vars s) m (fuel' - s.fuel) (fuel - s.fuel) (omega (arith, le, d.no_more)) p d.comes;
      no_more = omega (arith, d.no_more, le');
      holds = d.holds;
    }
    does_after post b b1 m fuel fuel' (Ends end output) le le' p d = stops_after b b1 m fuel fuel' end output le p d

    -- steps before that are free
    pub does_later : {A : Type 0} (post : A → State → Spot → Variables → Type 0) (b b1 : BlockState) (m fuel : ℕ) (o : Outcome A) → Comes b m b1 → Does post b1 fuel o → Does post b fuel o
    does_later post b b1 m fuel o p d = does_after post b b1 m fuel fuel o (omega arith) (omega arith) p d

    -- one part, and then another
    pub does_then : {A B : Type 0} (mid : A → State → Spot → Variables → Type 0) (post : B → State → Spot → Variables → Type 0) (b : BlockState) (fuel : ℕ) (o : Outcome A) (go : A → Run B) → Does mid b fuel o → ((a : A) (s : State) (at : Spot) (vars : Variables) → mid a s at vars → s.fuel ≤ fuel → Does post (machine k fr at vars s) s.fuel (go a s)) → Does post b fuel (and_then o go)
    does_then mid post b fuel (Gives a s) go d f = does_after post b (machine k fr d.at d.vars s) (fuel - s.fuel) fuel s.fuel (go a s) (omega arith) d.no_more d.comes (f a s d.at d.vars d.holds d.no_more)
    does_then mid post b fuel (Ends end output) go d f = d

    -- what holds behind is weakened
    pub does_more : {A : Type 0} (mid post : A → State → Spot → Variables → Type 0) (b : BlockState) (fuel : ℕ) (o : Outcome A) → Does mid b fuel o → ((a : A) (s : State) (at : Spot) (vars : Variables) → mid a s at vars → post a s at vars) → Does post b fuel o
    does_more mid post b fuel (Gives a s) d f = record { at = d.at; vars = d.vars; comes = d.comes; no_more = d.no_more; holds = f a s d.at d.vars d.holds }
    does_more mid post b fuel (Ends end output) d f = d

  -- a part in one frame, and then a part that leads to another
  pub does_cross : (fr fr' : Frame) {A B : Type 0} (mid : A → State → Spot → Variables → Type 0) (post : B → State → Spot → Variables → Type 0) (b : BlockState) (fuel : ℕ) (o : Outcome A) (go : A → Run B) → Does fr' mid b fuel o → ((a : A) (s : State) (at : Spot) (vars : Variables) → mid a s at vars → s.fuel ≤ fuel → Does fr post (machine k fr' at vars s) s.fuel (go a s)) → Does fr post b fuel (and_then o go)
  does_cross fr fr' mid post b fuel (Gives a s) go d f = does_after fr post b (machine k fr' d.at d.vars s) (fuel - s.fuel) fuel s.fuel (go a s) (omega (arith, d.no_more)) d.no_more d.comes (f a s d.at d.vars d.holds d.no_more)
  does_cross fr fr' mid post b fuel (Ends end output) go d f = d

  -- a step pays for what is spent behind it
  pub does_spend : (fr : Frame) {A : Type 0} (post : A → State → Spot → Variables → Type 0) (b b1 : BlockState) (s : State) (go : Unit {0} → Run A) → Comes b 1 b1 → b1.end ≡ None → b1.output ≡ s.output → ((left : ℕ) → s.fuel ≡ suc left → Does fr post b1 left (go tt (record s { fuel = left }))) → Does fr post b s.fuel (and_then (spend s) go)
  does_spend fr post b b1 s go p none out f = by s.fuel refl
    where
      by : (n : ℕ) → s.fuel ≡ n → Does fr post b s.fuel (and_then (spend_from n s) go)
      by zero e = record { last = b1; comes = record { steps = p.steps; enough = omega (arith, p.enough, e); goes = p.goes }; end_is = none; output_is = out }
      by (suc left) e = does_after fr post b b1 1 s.fuel left (go tt (record s { fuel = left })) (omega (arith, e)) (omega (arith, e)) p (f left e)
