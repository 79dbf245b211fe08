-- The nine rules for a text of three streams. Each is a condition on an address; a text is well typed where all hold everywhere,
-- and what is refused is the lowest address at which one is broken, with the lowest such rule. The rules are the project's own.
use Rattle.std.specs.Prelude.{◌≡◌, ◌≢◌, ◌≤◌, ◌<◌, ℕ, ◌+◌, IsTrue, List, ◌⊎◌}
use Rattle.mips_isa.specs.declared.instr.Instr.{Instr}
use Rattle.mips_isa.specs.declared.instr.Instr.TheVariants.{Break, Jal, Mfhi, Mflo, Lw, Sw}
use Rattle.mips_isa.specs.Machine.{among}
use Rattle.mips_text.specs.Text.{At, Uses, used_of}
use Rattle.third_lint.specs.Flow.{HasInstruction, HasNoHazard, GoesInside}
use Rattle.third_lint.specs.Votes.{Role, Of, IsUse, InputAt}
use Rattle.third_lint.specs.Typing.{OnlyFollows, IsVoted, ProductsOf, InVote, WordOf}

-- 1, 4 and 5 are HasInstruction, HasNoHazard and GoesInside: a word is an instruction; no next word of a load reads the register
-- that it loads, no product comes too early behind a mfhi or mflo, no jump stands in a delay slot; next words are in the text.

-- All registers that an instruction uses, 0 and 2 aside, are of one stream.
pub record OneStream (i : Instr) : Type 0 where
  pub stream : Role
  pub all : (r : ℕ) → IsTrue (among r (used_of i)) → (r ≡ 0) ⊎ ((r ≡ 2) ⊎ Of stream r)

-- A register gets HI or LO of its own stream.
pub record FromOwn (text : List ℕ) (entry a r : ℕ) : Type 0 where
  pub stream : Role
  pub of : Of stream r
  pub from : ProductsOf text entry stream a

-- The word is one of an input.
pub record InInput (text : List ℕ) (a : ℕ) : Type 0 where
  pub c : ℕ
  pub input : InputAt text c
  pub from : c ≤ a
  pub upto : a ≤ c + 16

-- A word may use registers of more than one stream.
pub data MayMix (text : List ℕ) (a : ℕ) : Type 0 where
  votes : (k : ℕ) → InVote text a k → MayMix text a
  takes : InInput text a → MayMix text a
  calls : (t : ℕ) → At text a (Jal t) → MayMix text a

-- 2. A word outside votes, inputs and jal uses registers of one stream, and no register without one, 0 and 2 aside; a mfhi or mflo
-- is into register 0, or into a register of the stream that HI and LO come from.
pub record KeepsStream (text : List ℕ) (entry a : ℕ) : Type 0 where
  pub one : (i : Instr) → At text a i → MayMix text a ⊎ OneStream i
  pub halves : (rd : ℕ) → At text a (Mfhi rd) ⊎ At text a (Mflo rd) → (rd ≡ 0) ⊎ FromOwn text entry a rd

-- The syscall of an input.
pub record IsTaking (text : List ℕ) (a : ℕ) : Type 0 where
  pub c : ℕ
  pub input : InputAt text c
  pub at : a ≡ c + 4

-- 3. What a word uses so that no wrong word may stand there is voted there, register 0 and register 4 at the syscall of an input
-- aside.
abbrev pub UsesVoted : List ℕ → ℕ → ℕ → Type 0
UsesVoted text entry a = (r : ℕ) → IsUse text a r → (r ≡ 0) ⊎ (IsVoted text entry a r ⊎ IsTaking text a)

-- 6. A lw or sw is of a register of a stream.
abbrev pub MovesHeld : List ℕ → ℕ → Type 0
MovesHeld text a = (rt rs imm : ℕ) → At text a (Lw rt rs imm) ⊎ At text a (Sw rt rs imm) → (X : Role) × Of X rt

-- 7. A word that uses register 2 is of an output, an exit or an input; a syscall does.
abbrev pub KeepsService : List ℕ → ℕ → Type 0
KeepsService text a = Uses text a 2 → (k : ℕ) × WordOf text a k

-- 8. No word reports.
abbrev pub NeverReports : List ℕ → ℕ → Type 0
NeverReports text a = (At text a (Break 1) → ⊥) × (At text a (Break 2) → ⊥)

-- 9. A run comes to a word of a vote, an output, an exit or an input, other than the first, from the word 4 below it alone.
pub record KeepsForms (text : List ℕ) (entry a : ℕ) : Type 0 where
  pub votes : (k : ℕ) → InVote text a k → k ≢ 0 → OnlyFollows text entry a
  pub serves : (k : ℕ) → WordOf text a k → k ≢ 0 → OnlyFollows text entry a

-- All nine rules hold at an address.
pub record Obeys (text : List ℕ) (entry a : ℕ) : Type 0 where
  pub instruction : HasInstruction text a
  pub stream : KeepsStream text entry a
  pub voted : UsesVoted text entry a
  pub hazard : HasNoHazard text a
  pub inside : GoesInside text a
  pub held : MovesHeld text a
  pub service : KeepsService text a
  pub silent : NeverReports text a
  pub forms : KeepsForms text entry a

-- The text is well typed.
abbrev pub WellTyped : List ℕ → ℕ → Type 0
WellTyped text entry = (a : ℕ) → Obeys text entry a

-- The rule of a number is broken at an address.
pub data Breaks (text : List ℕ) (entry a rule : ℕ) : Type 0 where
  no_instruction : rule ≡ 1 → (HasInstruction text a → ⊥) → Breaks text entry a rule
  mixed : rule ≡ 2 → (KeepsStream text entry a → ⊥) → Breaks text entry a rule
  unvoted : rule ≡ 3 → (UsesVoted text entry a → ⊥) → Breaks text entry a rule
  hazard : rule ≡ 4 → (HasNoHazard text a → ⊥) → Breaks text entry a rule
  outside : rule ≡ 5 → (GoesInside text a → ⊥) → Breaks text entry a rule
  unheld : rule ≡ 6 → (MovesHeld text a → ⊥) → Breaks text entry a rule
  stray_service : rule ≡ 7 → (KeepsService text a → ⊥) → Breaks text entry a rule
  reports : rule ≡ 8 → (NeverReports text a → ⊥) → Breaks text entry a rule
  entered : rule ≡ 9 → (KeepsForms text entry a → ⊥) → Breaks text entry a rule

-- What a refusal names: a broken rule, at the lowest address at which any is broken, and the lowest there.
pub record BadAt (text : List ℕ) (entry address rule : ℕ) : Type 0 where
  pub broken : Breaks text entry address rule
  pub lowest : (a r : ℕ) → Breaks text entry a r → (address < a) ⊎ ((a ≡ address) × (rule ≤ r))
