-- The blocks of a text and their signatures, read off its words: where blocks start, which words are a block's, which blocks may
-- follow it, the seven words at its start that check its signature, and the pairs of blocks between which that check cannot
-- tell a wrong way. The notions are the project's own, after the article on CFCSS (IEEE Transactions on Reliability 51(1), 2002).
use Rattle.std.specs.Prelude.{◌≡◌, ◌≢◌, ◌≤◌, ◌<◌, ℕ, ◌+◌, Bool, if◌then◌else◌, List, bit_xor, ◌⊎◌}
use Rattle.mips_isa.specs.declared.instr.Instr.{Instr}
use Rattle.mips_isa.specs.declared.instr.Instr.TheVariants.{Sll, Jr, J, Jal, Beq, Break, Ori, Xor, Xori}
use Rattle.mips_text.specs.Text.{InText, At, BranchAt, SkipsBreak, branch_goal, jump_goal}

-- A conditional branch at an address that skips no break.
pub record ForkAt (text : List ℕ) (a imm : ℕ) : Type 0 where
  pub x : ℕ
  pub y : ℕ
  pub branch : BranchAt text a x y imm
  pub skips_none : (code : ℕ) → SkipsBreak text a code → ⊥

-- A block starts at an address: the entry, the target of a j or jal, the address 8 after a jal, and the target and the
-- fall-through address of a conditional branch that skips no break.
pub data IsStart (text : List ℕ) (entry w : ℕ) : Type 0 where
  begins : w ≡ entry → IsStart text entry w
  jumped : (a target : ℕ) → At text a (J target) → w ≡ jump_goal a target → IsStart text entry w
  called : (a target : ℕ) → At text a (Jal target) → w ≡ jump_goal a target → IsStart text entry w
  returned : (a target : ℕ) → At text a (Jal target) → w ≡ a + 8 → IsStart text entry w
  taken : (a imm : ℕ) → ForkAt text a imm → w ≡ branch_goal a imm → IsStart text entry w
  passed : (a imm : ℕ) → ForkAt text a imm → w ≡ a + 8 → IsStart text entry w

-- A function starts at an address: the entry, or the target of a jal.
pub data IsFunction (text : List ℕ) (entry f : ℕ) : Type 0 where
  main : f ≡ entry → IsFunction text entry f
  callee : (a target : ℕ) → At text a (Jal target) → f ≡ jump_goal a target → IsFunction text entry f

-- The function that holds a start: the one with the greatest start not above it.
pub record Holds (text : List ℕ) (entry f u : ℕ) : Type 0 where
  pub is : IsFunction text entry f
  pub not_above : f ≤ u
  pub greatest : (g : ℕ) → IsFunction text entry g → g ≤ u → g ≤ f

-- The span of a block: the words from its start up to the next start, or to the end of the text.
pub record InSpan (text : List ℕ) (entry u a : ℕ) : Type 0 where
  pub start : IsStart text entry u
  pub in_text : InText text a
  pub from : u ≤ a
  pub last : (v : ℕ) → IsStart text entry v → v ≤ a → v ≤ u

-- A word of the block at u leads to w: a j or jal to its target, a conditional branch that skips no break to its target and to
-- its fall-through address, a jr to each address 8 after a jal to the function that holds u.
pub data LeadsTo (text : List ℕ) (entry u a w : ℕ) : Type 0 where
  jumps : (target : ℕ) → At text a (J target) → w ≡ jump_goal a target → LeadsTo text entry u a w
  calls : (target : ℕ) → At text a (Jal target) → w ≡ jump_goal a target → LeadsTo text entry u a w
  takes : (imm : ℕ) → ForkAt text a imm → w ≡ branch_goal a imm → LeadsTo text entry u a w
  passes : (imm : ℕ) → ForkAt text a imm → w ≡ a + 8 → LeadsTo text entry u a w
  returns : (rs f c target : ℕ) → At text a (Jr rs) → Holds text entry f u → At text c (Jal target) → f ≡ jump_goal c target → w ≡ c + 8 → LeadsTo text entry u a w

-- The block at w is a successor of the block at u.
pub record Succ (text : List ℕ) (entry u w : ℕ) : Type 0 where
  pub at : ℕ
  pub in_span : InSpan text entry u at
  pub leads : LeadsTo text entry u at w

-- The numbers of a block's head: its signature s, the difference d to where it is reached from, whether it is reached from more
-- than one block (fan), and the adjustment D that it leaves for a block of more than one predecessor.
pub record Head : Type 0 where
  pub s : ℕ
  pub d : ℕ
  pub fan : Bool
  pub D : ℕ

-- The seven words of a head: register 24 holds the signature, 28 the adjustment, and 1 the number that is wanted.
pub record HeadAt (text : List ℕ) (u : ℕ) (h : Head) : Type 0 where
  pub differs : At text u (Xori 24 24 h.d)
  pub adjusts : At text (u + 4) (if h.fan then Xor 24 24 28 else Sll 0 0 0)
  pub wants : At text (u + 8) (Ori 1 0 h.s)
  pub leaves : At text (u + 12) (Ori 28 0 h.D)
  pub compares : At text (u + 16) (Beq 24 1 2)
  pub waits : At text (u + 20) (Sll 0 0 0)
  pub reports : At text (u + 24) (Break 2)

-- What register 24 holds behind the first two words of a head, where a block of this head came before.
abbrev pub carried : Head → Head → ℕ
carried before head = if head.fan then bit_xor (bit_xor before.s head.d) before.D else bit_xor before.s head.d

-- An alias: w is no successor of u, and the head at w finds its own signature behind u all the same.
pub record IsAlias (text : List ℕ) (entry u w : ℕ) : Type 0 where
  pub from : IsStart text entry u
  pub to : IsStart text entry w
  pub no_successor : Succ text entry u w → ⊥
  pub before : Head
  pub head : Head
  pub head_from : HeadAt text u before
  pub head_to : HeadAt text w head
  pub equal : carried before head ≡ head.s

-- A start with at least two predecessors.
pub record HasTwo (text : List ℕ) (entry w : ℕ) : Type 0 where
  pub start : IsStart text entry w
  pub one : ℕ
  pub other : ℕ
  pub differ : one ≢ other
  pub by_one : Succ text entry one w
  pub by_other : Succ text entry other w

-- Two starts are linked: a list of starts with at least two predecessors leads from one to the other, in which each two
-- neighbours have a common predecessor.
pub data Linked (text : List ℕ) (entry v : ℕ) : ℕ → Type 0 where
  self : (w : ℕ) → HasTwo text entry v → w ≡ v → Linked text entry v w
  further : (w x p : ℕ) → Linked text entry v x → Succ text entry p x → Succ text entry p w → HasTwo text entry w → Linked text entry v w
