-- A run over a few words that are known: words that write a register, a comparison that does not hold, and a break.
use Rattle.std.proofs.Common.{◌≡◌, ◌≢◌, ℕ, arith, ap, refl, sym, ◌∙◌, subst, List, false, true, Bool}
use Rattle.std.specs.Prelude.{Option, Some, None, ◌==◌, slice_index}
use Rattle.mips_isa.specs.declared.instr.Instr.{Instr}
use Rattle.mips_isa.specs.declared.instr.Instr.TheVariants.{Beq, Break}
use Rattle.mips_isa.specs.declared.instr.Act.TheVariants.{Write}
use Rattle.mips_isa.specs.declared.instr.Act.{Act}
use Rattle.mips_isa.specs.declared.instr.End.TheVariants.{Reported}
use Rattle.mips_isa.specs.Machine.{State, reg, act, perform, step, is_product, is_jump, is_hazard, moved, with_reg, written, plus, branch}
use Rattle.mips_isa.specs.Runs.{Ran, after_turn}
use Rattle.mips_text.specs.Text.{At}
use Rattle.lint_theorem.proofs.Words.{step_does, free}

-- a run that stands at a word, with this word behind it, and has put out these words
pub record Walk (text : List ℕ) (a b : ℕ) (slot : Bool) (P : List ℕ → Type 0) (out : List ℕ) (r : Ran) : Type 0 where
  pub output : r.output ≡ out
  pub going : r.state.end ≡ None
  pub same : r.state.text ≡ text
  pub pc : r.state.pc ≡ a
  pub npc : r.state.npc ≡ b
  pub in_slot : r.state.slot ≡ slot
  pub unloaded : r.state.last_load ≡ 0
  pub regs : P r.state.regs

abbrev pub one_more : Ran → Ran
one_more r = after_turn r (step r.state)

here : (text : List ℕ) (a : ℕ) (i : Instr) (s : State) → s.text ≡ text → s.pc ≡ a → At text a i → At s.text s.pc i
here text a i s e f at = subst (λ (t : List ℕ). At t s.pc i) (sym e) (subst (λ (b : ℕ). At text b i) (sym f) at)

-- the register that a word writes, and what that leaves
pub record Put (Q : List ℕ → Type 0) (i : Instr) (s : State) : Type 0 where
  pub d : ℕ
  pub v : ℕ
  pub is : act i s ≡ Write d v
  pub left : Q (written s.regs d v)

-- a word that writes a register
pub record Puts (P Q : List ℕ → Type 0) (i : Instr) : Type 0 where
  pub no_product : is_product i ≡ false
  pub no_jump : is_jump i ≡ false
  pub puts : (s : State) → P s.regs → Put Q i s

walk_step : (text : List ℕ) (a b c d v : ℕ) (z : Bool) (P Q : List ℕ → Type 0) (out : List ℕ) (r : Ran) → Walk text a b z P out r → plus b 4 ≡ c → Q (written r.state.regs d v) → step r.state ≡ (with_reg (moved r.state) d v, None) → Walk text b c false Q out (one_more r)
walk_step text a b c d v z P Q out r k e q f = subst (λ (x : State × Option ℕ). Walk text b c false Q out (after_turn r x)) (sym f)
    (record { output = k.output; going = k.going; same = k.same; pc = k.npc; npc = ap (λ (m : ℕ). plus m 4) k.npc ∙ e; in_slot = refl; unloaded = refl; regs = q })

pub walk_word : (text : List ℕ) (a b c : ℕ) (z : Bool) (P Q : List ℕ → Type 0) (out : List ℕ) (r : Ran) (i : Instr) → Walk text a b z P out r → At text a i → Puts P Q i → plus b 4 ≡ c → Walk text b c false Q out (one_more r)
walk_word text a b c z P Q out r i k at p e =
    let w : Put Q i r.state = p.puts r.state k.regs in
    let f : step r.state ≡ perform (act i r.state) r.state = step_does r.state i k.going (here text a i r.state k.same k.pc at) (free r.state i k.unloaded p.no_product p.no_jump) in
    walk_step text a b c w.d w.v z P Q out r k e w.left (f ∙ ap (λ (x : Act). perform x r.state) w.is)

-- a comparison that does not hold
differs_by : (a b : ℕ) → a ≢ b → (a == b) ≡ false
differs_by a b n = grind arith

branch_free : (s : State) (x y m : ℕ) → s.last_load ≡ 0 → s.slot ≡ false → is_hazard s (Beq x y m) ≡ false
branch_free s x y m e f = rw (e, f) refl

pub walk_compare : (text : List ℕ) (a b c x y m : ℕ) (P : List ℕ → Type 0) (out : List ℕ) (r : Ran) → Walk text a b false P out r → At text a (Beq x y m) → (slice_index r.state.regs x ≢ slice_index r.state.regs y) → plus b 4 ≡ c → Walk text b c true P out (one_more r)
walk_compare text a b c x y m P out r k at n e =
    let s : State = r.state in
    let f : step s ≡ perform (act (Beq x y m) s) s = step_does s (Beq x y m) k.going (here text a (Beq x y m) s k.same k.pc at) (branch_free s x y m k.unloaded k.in_slot) in
    let g : step s ≡ (record (moved s) { slot = true }, None) = f ∙ ap (λ (v : Bool). perform (branch v s m) s) (differs_by (reg s x) (reg s y) n) in
    subst (λ (v : State × Option ℕ). Walk text b c true P out (after_turn r v)) (sym g)
    (record { output = k.output; going = k.going; same = k.same; pc = k.npc; npc = ap (λ (v : ℕ). plus v 4) k.npc ∙ e; in_slot = refl; unloaded = refl; regs = k.regs })

-- a break of code 2
pub record Reports (out : List ℕ) (at : ℕ) (r : Ran) : Type 0 where
  pub output : r.output ≡ out
  pub end : r.state.end ≡ Some (Reported 2 at)

pub walk_report : (text : List ℕ) (a b : ℕ) (z : Bool) (P : List ℕ → Type 0) (out : List ℕ) (r : Ran) → Walk text a b z P out r → At text a (Break 2) → Reports out a (one_more r)
walk_report text a b z P out r k at =
    let s : State = r.state in
    let f : step s ≡ (record s { end = Some (Reported 2 s.pc) }, None) = step_does s (Break 2) k.going (here text a (Break 2) s k.same k.pc at) (free s (Break 2) k.unloaded refl refl) in
    subst (λ (x : State × Option ℕ). Reports out a (after_turn r x)) (sym f) (record { output = k.output; end = ap (λ (p : ℕ). Some (Reported 2 p)) k.pc })
