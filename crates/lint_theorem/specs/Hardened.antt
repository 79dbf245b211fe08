-- What it means that an image is hardened: it lists exactly where a fault may go unseen, and elsewhere none does.
-- The notions are the project's own; the faults are those of the articles on EDDI and CFCSS (IEEE Transactions on Reliability 51(1), 2002).
use Rattle.std.specs.Prelude.{◌≡◌, ◌≢◌, ◌≤◌, ◌<◌, ◌↔◌, ℕ, true, None, List, length, Contains}
use Rattle.hard_words.specs.Words.{AreWords}
use Rattle.hard_words.specs.declared.SetPlace.{SetPlace}
use Rattle.hard_words.specs.declared.SetPlace.TheVariants.{Reg}
use Rattle.mips_isa.specs.declared.instr.Instr.{Instr}
use Rattle.mips_isa.specs.Machine.{is_jump}
use Rattle.mips_isa.specs.Image.{ImageFields}
use Rattle.mips_text.specs.Text.{At}
use Rattle.mips_text.specs.Blocks.{IsStart, InSpan, Succ, IsAlias, Linked, Head, HeadAt}
use Rattle.mips_faults.specs.Faults.{image_run, Detects, Caught}
use Rattle.harden_lint.specs.Theorems.{FlipShown}
use Rattle.lint_words.specs.WindowList.{Before, pair_at, AreWindows}

-- The pairs are exactly the aliases of the text, ascending and each once.
pub record AreAliases (text : List ℕ) (entry : ℕ) (pairs : List (ℕ × ℕ)) : Type 0 where
  pub exact : (u w : ℕ) → Contains pairs (u, w) ↔ IsAlias text entry u w
  pub ascending : (j k : ℕ) → j < k → k < length pairs → Before (pair_at pairs j) (pair_at pairs k)

-- A place of a fault at an address is no listed window; only registers have windows.
abbrev pub IsUnlisted : List (ℕ × ℕ) → ℕ → SetPlace → Type 0
IsUnlisted windows a (Reg r) = Contains windows (a, r) → ⊥
IsUnlisted windows a _ = Unit {0}

-- Of an image: its lists are those of its text, and on every input, with one fault,
pub record IsHardened (i : ImageFields) : Type 0 where
  -- the windows are listed, and no others;
  pub windows : AreWindows i.text i.windows
  -- any word put in any place that is no listed window, just before any step, is unseen or told after every number of steps;
  pub detects : (input : List ℕ) → AreWords input → (n : ℕ) (place : SetPlace) (word : ℕ) →
      IsUnlisted i.windows (image_run i input None n).state.pc place → Detects i input n place word
  -- and so is a bit inverted in a register;
  pub shows_flips : (input : List ℕ) → AreWords input → (n r bit : ℕ) → 1 ≤ r → (Contains i.windows ((image_run i input None n).state.pc, r) → ⊥) →
      (k : ℕ) → FlipShown i input n r bit k
  -- each block begins with a head;
  pub heads : (u : ℕ) → IsStart i.text i.entry u → (h : Head) × HeadAt i.text u h
  -- the signatures of different blocks differ, and none is 0;
  pub signs_differ : (u w : ℕ) (g h : Head) → IsStart i.text i.entry u → IsStart i.text i.entry w → HeadAt i.text u g → HeadAt i.text w h →
      (g.s ≢ 0) × (g.s ≡ h.s → u ≡ w)
  -- the aliases are listed, and no others;
  pub aliases : AreAliases i.text i.entry i.aliases
  -- each alias leads to a block that is linked to a successor;
  pub linked : (u w : ℕ) → IsAlias i.text i.entry u w → (v : ℕ) × (Succ i.text i.entry u v × Linked i.text i.entry v w)
  -- and a branch or jump of a block that is led to another block, neither a successor nor listed, is caught.
  pub catches : (input : List ℕ) → AreWords input → (n u w : ℕ) (jump : Instr) → (image_run i input None n).state.end ≡ None →
      At i.text (image_run i input None n).state.pc jump → is_jump jump ≡ true →
      InSpan i.text i.entry u (image_run i input None n).state.pc → IsStart i.text i.entry w → (Succ i.text i.entry u w → ⊥) →
      (Contains i.aliases (u, w) → ⊥) → Caught i input n w
