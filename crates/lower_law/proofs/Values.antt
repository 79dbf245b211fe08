-- Lines that compute: what holds behind them, and single lines beside the parts of a run.
use Rattle.std.proofs.Common.{◌≡◌, ℕ, ◌+◌, ◌-◌, ◌<◌, ◌≤◌, ◌^◌, ◌%◌, Bool, true, false, not, List, [], ◌∷◌, Some, Result, Ok, Err, refl, sym, ap, ◌∙◌, subst, if◌then◌else◌, ◌==◌, arith}
use Rattle.c_meaning.specs.declared.run.Value.{Value}
use Rattle.c_meaning.specs.declared.run.EvalEnd.TheVariants.{Trapped}
use Rattle.c_syntax.specs.declared.tree.BinaryOp.{BinaryOp}
use Rattle.c_syntax.specs.declared.tree.BinaryOp.TheVariants as c
use Rattle.c_syntax.specs.declared.tree.UnaryOp.{UnaryOp}
use Rattle.c_syntax.specs.declared.tree.UnaryOp.TheVariants as unary
use Rattle.c_meaning.specs.Operators.{value, truth, is_zero, less, at_type, binary_word, unary_type, operate_unary}
use Rattle.c_meaning.specs.Run.{State, Outcome, Gives, Ends, Run, and_then, lift}
use Rattle.c_meaning.specs.declared.run.Place.{Place}
use Rattle.mid_blocks.specs.declared.code.MidOp.{MidOp}
use Rattle.mid_blocks.specs.declared.code.MidOp.TheVariants as mid
use Rattle.mid_blocks.specs.declared.code.MidStep.TheVariants.{Constant, Copy, Operate}
use Rattle.mid_blocks.specs.declared.code.RunEnd.TheVariants as end
use Rattle.mid_blocks.specs.Lines.{Line, Step, line_at}
use Rattle.mid_blocks.specs.Run.{BlockState, Variables, word_or_zero, with_word, operate, sets_or_traps, ends, do_line, truth as truth_word}
use Rattle.mid_blocks.specs.Bounds.{ProperLine}
use Rattle.std.proofs.Common.{zero-add}
use Rattle.lower_rules.specs.Scoping.{Scopes}
use Rattle.lower_rules.specs.Expressions.{Target, operation, direct, negated, binary_lines, unary_lines}
use Rattle.lower_law.proofs.Lines.{Spot, start, past, Stands}
use Rattle.lower_law.proofs.Machine.{Frame, Setting, machine, Fits, comes_by, Does, does_nothing, does_later, does_then}
use Rattle.lower_law.proofs.Holds.{Body, Holds, Kept, kept_with, Temps, temps_of, temps_here, temps_on, holds_kept, with_same, with_other, is_some_from, next, globals_now, AtPlace}
use Rattle.lower_law.proofs.Operators.{operate_small, as_end, direct_word, compared, turned_round, is_direct}

-- a value stands in t
pub record ValueAt (b : Body) (scopes : Scopes) (u void : Bool) (t : ℕ) (goal : Spot) (before : Variables) (v : Value) (s : State) (at : Spot) (vars : Variables) : Type 0 where
  pub at_is : at ≡ goal
  pub holds : Holds b scopes s vars
  pub word : void ≡ false → vars t ≡ Some v.word
  pub typed : v.is_unsigned ≡ u
  pub small : v.word < 2 ^ 32
  pub kept : Temps b.free t before vars

-- a value was tested
pub record TestAt (b : Body) (scopes : Scopes) (t holds_at fails_at : ℕ) (before : Variables) (v : Value) (s : State) (at : Spot) (vars : Variables) : Type 0 where
  pub at_is : at ≡ start (if is_zero v then fails_at else holds_at)
  pub holds : Holds b scopes s vars
  pub kept : Temps b.free t before vars

-- a place is known
pub record PlaceAt (b : Body) (scopes : Scopes) (t : ℕ) (y : Target) (goal : Spot) (before : Variables) (p : Place) (s : State) (at : Spot) (vars : Variables) : Type 0 where
  pub at_is : at ≡ goal
  pub holds : Holds b scopes s vars
  pub place : AtPlace b scopes vars t y p
  pub kept : Temps b.free t before vars

-- the word was just put into t
pub value_put : (b : Body) (scopes : Scopes) (u void : Bool) (t : ℕ) (at : Spot) (before vars : Variables) (v : Value) (s : State) → b.free ≤ t → Holds b scopes s vars → v.is_unsigned ≡ u → v.word < 2 ^ 32 → Temps b.free t before vars → ValueAt b scopes u void t at before v s at (with_word vars t v.word)
value_put b scopes u void t at before vars v s le h typed small k = record {
  at_is = refl;
  holds = holds_kept b scopes s vars (with_word vars t v.word) t le (kept_with t t v.word vars (omega arith)) h;
  word = λ e. with_same vars t v.word;
  typed = typed;
  small = small;
  kept = temps_on b.free t t before vars (with_word vars t v.word) (omega arith) k (temps_of b.free t vars (with_word vars t v.word) (kept_with t t v.word vars (omega arith)));
}

module _ (k : Setting) (fr : Frame) (ok : Fits k fr) where
  -- one line
  pub does_line : {A : Type 0} (post : A → State → Spot → Variables → Type 0) (at at' : Spot) (vars vars' : Variables) (s s' : State) (line : Line) (fuel : ℕ) (o : Outcome A) → line_at fr.code at.block at.step ≡ Some line → ProperLine line vars (globals_now k s) → do_line (Some line) (machine k fr at vars s) ≡ machine k fr at' vars' s' → Does k fr post (machine k fr at' vars' s') fuel o → Does k fr post (machine k fr at vars s) fuel o
  does_line post at at' vars vars' s s' line fuel o is proper does d = does_later k fr post (machine k fr at vars s) (machine k fr at' vars' s') 1 fuel o (comes_by k fr ok at vars s line (machine k fr at' vars' s') is proper does) d

  -- one part, which leads to a known spot, and then another
  pub then_at : {A B : Type 0} (mid : A → State → Spot → Variables → Type 0) (goal : A → Spot) → ((a : A) (s : State) (at : Spot) (vars : Variables) → mid a s at vars → at ≡ goal a) → (post : B → State → Spot → Variables → Type 0) (m : BlockState) (fuel : ℕ) (o : Outcome A) (go : A → Run B) → Does k fr mid m fuel o → ((a : A) (s : State) (vars : Variables) → mid a s (goal a) vars → Does k fr post (machine k fr (goal a) vars s) s.fuel (go a s)) → Does k fr post m fuel (and_then o go)
  then_at mid goal is post m fuel o go d f = does_then k fr mid post m fuel o go d (λ a s at vars h le.
      subst (λ z. mid a s z vars → Does k fr post (machine k fr z vars s) s.fuel (go a s)) (sym (is a s at vars h)) (f a s vars) h)

  -- a trap
  pub does_trap : {A : Type 0} (post : A → State → Spot → Variables → Type 0) (at : Spot) (vars : Variables) (s : State) (line : Line) (fuel trap : ℕ) → line_at fr.code at.block at.step ≡ Some line → ProperLine line vars (globals_now k s) → do_line (Some line) (machine k fr at vars s) ≡ ends (machine k fr at vars s) (end.Trapped trap) → Does k fr post (machine k fr at vars s) fuel (Ends (Trapped trap) s.output)
  does_trap post at vars s line fuel trap is proper does = record {
    last = ends (machine k fr at vars s) (end.Trapped trap);
    comes = let x = comes_by k fr ok at vars s line (ends (machine k fr at vars s) (end.Trapped trap)) is proper does in record { steps = x.steps; enough = omega arith; goes = x.goes };
    end_is = refl;
    output_is = refl;
  }

  pub proper_two : (op : MidOp) (to l r x y : ℕ) (vars : Variables) (gs : List (List ℕ)) → vars l ≡ Some x → vars r ≡ Some y → ProperLine (Step (Operate op to l r)) vars gs
  proper_two op to l r x y vars gs e f = record { reads_written = (is_some_from (vars l) x e, (is_some_from (vars r) y f, tt)); index_fits = tt }

  pub proper_constant : (to word : ℕ) (vars : Variables) (gs : List (List ℕ)) → ProperLine (Step (Constant to word)) vars gs
  proper_constant to word vars gs = record { reads_written = tt; index_fits = tt }

  pub proper_copy : (to from w : ℕ) (vars : Variables) (gs : List (List ℕ)) → vars from ≡ Some w → ProperLine (Step (Copy to from)) vars gs
  proper_copy to from w vars gs e = record { reads_written = (is_some_from (vars from) w e, tt); index_fits = tt }

  -- a constant, and then more
  pub then_constant : {A : Type 0} (post : A → State → Spot → Variables → Type 0) (at : Spot) (vars : Variables) (s : State) (to word fuel : ℕ) (o : Outcome A) → line_at fr.code at.block at.step ≡ Some (Step (Constant to word)) → Does k fr post (machine k fr (next at) (with_word vars to word) s) fuel o → Does k fr post (machine k fr at vars s) fuel o
  then_constant post at vars s to word fuel o is d = does_line post at (next at) vars (with_word vars to word) s s (Step (Constant to word)) fuel o is (proper_constant to word vars (globals_now k s)) refl d

  -- a copy, and then more
  pub then_copy : {A : Type 0} (post : A → State → Spot → Variables → Type 0) (at : Spot) (vars : Variables) (s : State) (to from w fuel : ℕ) (o : Outcome A) → line_at fr.code at.block at.step ≡ Some (Step (Copy to from)) → vars from ≡ Some w → Does k fr post (machine k fr (next at) (with_word vars to w) s) fuel o → Does k fr post (machine k fr at vars s) fuel o
  then_copy post at vars s to from w fuel o is e d = does_line post at (next at) vars (with_word vars to w) s s (Step (Copy to from)) fuel o is (proper_copy to from w vars (globals_now k s) e) (ap (λ x. machine k fr (next at) (with_word vars to (word_or_zero x)) s) e) d

  -- an operation that has a result, and then more
  pub then_operate : {A : Type 0} (post : A → State → Spot → Variables → Type 0) (at : Spot) (vars : Variables) (s : State) (op : MidOp) (to l r x y w fuel : ℕ) (o : Outcome A) → line_at fr.code at.block at.step ≡ Some (Step (Operate op to l r)) → vars l ≡ Some x → vars r ≡ Some y → operate op x y ≡ Ok w → Does k fr post (machine k fr (next at) (with_word vars to w) s) fuel o → Does k fr post (machine k fr at vars s) fuel o
  then_operate post at vars s op to l r x y w fuel o is e f g d =
      does_line post at (next at) vars (with_word vars to w) s s (Step (Operate op to l r)) fuel o is (proper_two op to l r x y vars (globals_now k s) e f)
      (ap (λ z. sets_or_traps (machine k fr at vars s) to (operate op (word_or_zero z) (word_or_zero (vars r)))) e ∙ ap (λ z. sets_or_traps (machine k fr at vars s) to (operate op x (word_or_zero z))) f ∙ ap (sets_or_traps (machine k fr at vars s) to) g) d

  -- the lines of an operator
  module _ (b : Body) (scopes : Scopes) where
    one_operation : (op : MidOp) (t l r x y : ℕ) (u : Bool) (at : Spot) (vars : Variables) (s : State) → b.free ≤ t → Holds b scopes s vars → line_at fr.code at.block at.step ≡ Some (Step (Operate op t l r)) → vars l ≡ Some x → vars r ≡ Some y → x < 2 ^ 32 → y < 2 ^ 32 → Does k fr (ValueAt b scopes u false t (next at) vars) (machine k fr at vars s) s.fuel (lift (at_type u (as_end (operate op x y))) s)
    one_operation op t l r x y u at vars s le h is e f lx ly = by (operate op x y) refl
      where
        by : (z : Result ℕ ℕ) → operate op x y ≡ z → Does k fr (ValueAt b scopes u false t (next at) vars) (machine k fr at vars s) s.fuel (lift (at_type u (as_end z)) s)
        by (Ok w) g = then_operate (ValueAt b scopes u false t (next at) vars) at vars s op t l r x y w s.fuel (Gives (value w u) s) is e f g
            (does_nothing k fr (ValueAt b scopes u false t (next at) vars) (next at) (with_word vars t w) s (value w u) (value_put b scopes u false t (next at) vars vars (value w u) s le h refl (operate_small op x y w lx ly g) (temps_here b.free t vars)))
        by (Err trap) g = does_trap (ValueAt b scopes u false t (next at) vars) at vars s (Step (Operate op t l r)) s.fuel trap is (proper_two op t l r x y vars (globals_now k s) e f)
            (ap (λ z. sets_or_traps (machine k fr at vars s) t (operate op (word_or_zero z) (word_or_zero (vars r)))) e ∙ ap (λ z. sets_or_traps (machine k fr at vars s) t (operate op x (word_or_zero z))) f ∙ ap (sets_or_traps (machine k fr at vars s) t) g)

    -- a comparison that holds or not, turned round
    negated_does : (t x : ℕ) (w : ℕ) (u : Bool) (at : Spot) (before vars : Variables) (s : State) → b.free ≤ t → Holds b scopes s vars → Temps b.free t before vars → Stands fr.code at (negated t (t + 1)) → vars t ≡ Some x → truth_word (x == 0) ≡ w → w < 2 ^ 32 → Does k fr (ValueAt b scopes u false t (past at (negated t (t + 1))) before) (machine k fr at vars s) s.fuel (Gives (value w u) s)
    negated_does t x w u at before vars s le h kept st e g lt =
        let post = ValueAt b scopes u false t (past at (negated t (t + 1))) before in
        let vars1 : Variables = with_word vars (t + 1) 0 in
        let k1 : Kept t vars vars1 = kept_with t (t + 1) 0 vars (omega arith) in
        then_constant post at vars s (t + 1) 0 s.fuel (Gives (value w u) s) st.0
        (then_operate post (next at) vars1 s mid.Eq t t (t + 1) x 0 w s.fuel (Gives (value w u) s) st.1.0 (with_other vars (t + 1) t 0 (λ z. omega (arith, z)) ∙ e) (with_same vars (t + 1) 0) (ap Ok g)
        (does_nothing k fr post (next (next at)) (with_word vars1 t w) s (value w u)
        (value_put b scopes u false t (next (next at)) before vars1 (value w u) s le (holds_kept b scopes s vars vars1 t le k1 h) refl lt (temps_on b.free t t before vars vars1 (omega arith) kept (temps_of b.free t vars vars1 k1)))))

    -- a comparison, and then turned round
    pub compared_does : (op : MidOp) (t l r x y : ℕ) (holds_less : Bool) (at : Spot) (vars : Variables) (s : State) → b.free ≤ t → Holds b scopes s vars → Stands fr.code at (Step (Operate op t l r) ∷ negated t (t + 1)) → vars l ≡ Some x → vars r ≡ Some y → operate op x y ≡ Ok (truth_word holds_less) → Does k fr (ValueAt b scopes false false t (past at (Step (Operate op t l r) ∷ negated t (t + 1))) vars) (machine k fr at vars s) s.fuel (Gives (value (truth (not holds_less)).word false) s)
    compared_does op t l r x y holds_less at vars s le h st e f g =
        let w : ℕ = truth_word holds_less in
        let post = ValueAt b scopes false false t (past at (Step (Operate op t l r) ∷ negated t (t + 1))) vars in
        let kept : Kept t vars (with_word vars t w) = kept_with t t w vars (omega arith) in
        then_operate post at vars s op t l r x y w s.fuel (Gives (value (truth (not holds_less)).word false) s) st.0 e f g
        (negated_does t w (truth (not holds_less)).word false (next at) vars (with_word vars t w) s le (holds_kept b scopes s vars (with_word vars t w) t le kept h) (temps_of b.free t vars (with_word vars t w) kept) st.1 (with_same vars t w) (turned_round holds_less) (small (not holds_less)))
      where
        small : (d : Bool) → (truth d).word < 2 ^ 32
        small true = omega arith
        small false = omega arith

    pub binary_does : (op : BinaryOp) (u z : Bool) (t x y : ℕ) (at : Spot) (vars : Variables) (s : State) → b.free ≤ t → Holds b scopes s vars → Stands fr.code at (binary_lines op u t (t + 1)) → vars t ≡ Some x → vars (t + 1) ≡ Some y → x < 2 ^ 32 → y < 2 ^ 32 → (is_direct op ≡ false → z ≡ false) → Does k fr (ValueAt b scopes z false t (past at (binary_lines op u t (t + 1))) vars) (machine k fr at vars s) s.fuel (lift (at_type z (binary_word op u x y)) s)
    binary_does op u z t x y at vars s le h st e f lx ly int = by op st int
      where
        in_order : (o : BinaryOp) → is_direct o ≡ true → Stands fr.code at (direct (operation o u) t (t + 1)) → Does k fr (ValueAt b scopes z false t (next at) vars) (machine k fr at vars s) s.fuel (lift (at_type z (binary_word o u x y)) s)
        in_order o d st' = subst (λ w. Does k fr (ValueAt b scopes z false t (next at) vars) (machine k fr at vars s) s.fuel (lift (at_type z w) s)) (sym (direct_word o u x y d)) (one_operation (operation o u) t t (t + 1) x y z at vars s le h st'.0 e f lx ly)

        by : (o : BinaryOp) → Stands fr.code at (binary_lines o u t (t + 1)) → (is_direct o ≡ false → z ≡ false) → Does k fr (ValueAt b scopes z false t (past at (binary_lines o u t (t + 1))) vars) (machine k fr at vars s) s.fuel (lift (at_type z (binary_word o u x y)) s)
        by c.Mul st' i = in_order c.Mul refl st'
        by c.Div st' i = in_order c.Div refl st'
        by c.Rem st' i = in_order c.Rem refl st'
        by c.Add st' i = in_order c.Add refl st'
        by c.Sub st' i = in_order c.Sub refl st'
        by c.Shl st' i = in_order c.Shl refl st'
        by c.Shr st' i = in_order c.Shr refl st'
        by c.Lt st' i = in_order c.Lt refl st'
        by c.Gt st' i = subst (λ w. Does k fr (ValueAt b scopes z false t (next at) vars) (machine k fr at vars s) s.fuel (lift (at_type z (as_end w)) s)) (compared c.Gt u y x refl) (one_operation (operation c.Gt u) t (t + 1) t y x z at vars s le h st'.0 f e ly lx)
        by c.Le st' i = subst (λ w. Does k fr (ValueAt b scopes w false t (past at (binary_lines c.Le u t (t + 1))) vars) (machine k fr at vars s) s.fuel (Gives (value (truth (not (less u y x))).word w) s)) (sym (i refl)) (compared_does (operation c.Le u) t (t + 1) t y x (less u y x) at vars s le h st' f e (compared c.Le u y x refl))
        by c.Ge st' i = subst (λ w. Does k fr (ValueAt b scopes w false t (past at (binary_lines c.Ge u t (t + 1))) vars) (machine k fr at vars s) s.fuel (Gives (value (truth (not (less u x y))).word w) s)) (sym (i refl)) (compared_does (operation c.Ge u) t t (t + 1) x y (less u x y) at vars s le h st' e f (compared c.Ge u x y refl))
        by c.Eq st' i = in_order c.Eq refl st'
        by c.Ne st' i = in_order c.Ne refl st'
        by c.And st' i = in_order c.And refl st'
        by c.Xor st' i = in_order c.Xor refl st'
        by c.Or st' i = in_order c.Or refl st'

    -- a constant less t
    subtracted_does : (t x c' w : ℕ) (u : Bool) (at : Spot) (vars : Variables) (s : State) → b.free ≤ t → Holds b scopes s vars → Stands fr.code at (Step (Constant (t + 1) c') ∷ Step (Operate mid.Sub t (t + 1) t) ∷ []) → vars t ≡ Some x → (c' + (2 ^ 32 - x)) % 2 ^ 32 ≡ w → w < 2 ^ 32 → Does k fr (ValueAt b scopes u false t (next (next at)) vars) (machine k fr at vars s) s.fuel (Gives (value w u) s)
    subtracted_does t x c' w u at vars s le h st e g lt =
        let post = ValueAt b scopes u false t (next (next at)) vars in
        let vars1 : Variables = with_word vars (t + 1) c' in
        let k1 : Kept t vars vars1 = kept_with t (t + 1) c' vars (omega arith) in
        then_constant post at vars s (t + 1) c' s.fuel (Gives (value w u) s) st.0
        (then_operate post (next at) vars1 s mid.Sub t (t + 1) t c' x w s.fuel (Gives (value w u) s) st.1.0 (with_same vars (t + 1) c') (with_other vars (t + 1) t c' (λ z. omega (arith, z)) ∙ e) (ap Ok g)
        (does_nothing k fr post (next (next at)) (with_word vars1 t w) s (value w u)
        (value_put b scopes u false t (next (next at)) vars vars1 (value w u) s le (holds_kept b scopes s vars vars1 t le k1 h) refl lt (temps_of b.free t vars vars1 k1))))

    pub unary_does : (op : UnaryOp) (t : ℕ) (v : Value) (at : Spot) (vars : Variables) (s : State) → b.free ≤ t → Holds b scopes s vars → Stands fr.code at (unary_lines op t (t + 1)) → vars t ≡ Some v.word → v.word < 2 ^ 32 → Does k fr (ValueAt b scopes (unary_type op v.is_unsigned) false t (past at (unary_lines op t (t + 1))) vars) (machine k fr at vars s) s.fuel (Gives (operate_unary op v) s)
    unary_does unary.Minus t v at vars s le h st e lt = subtracted_does t v.word 0 ((2 ^ 32 - v.word) % 2 ^ 32) v.is_unsigned at vars s le h st e (ap (λ n. n % 2 ^ 32) (zero-add (2 ^ 32 - v.word))) (omega arith)
    unary_does unary.Plus t v at vars s le h st e lt = does_nothing k fr (ValueAt b scopes v.is_unsigned false t at vars) at vars s v (record { at_is = refl; holds = h; word = λ z. e; typed = refl; small = lt; kept = temps_here b.free t vars })
    unary_does unary.Flip t v at vars s le h st e lt = subtracted_does t v.word (2 ^ 32 - 1) (2 ^ 32 - 1 - v.word) v.is_unsigned at vars s le h st e (omega (arith, lt)) (omega arith)
    unary_does unary.Not t v at vars s le h st e lt = negated_does t v.word (truth_word (v.word == 0)) false at vars vars s le h (temps_here b.free t vars) st e refl (small (v.word == 0))
      where
        small : (d : Bool) → truth_word d < 2 ^ 32
        small true = omega arith
        small false = omega arith
