-- The typing of a text of three streams: which registers are voted, and from which stream HI and LO come. The notions are the
-- project's own. The next words of a word are those of Flow.antt.
use Rattle.std.specs.Prelude.{◌≡◌, ◌≤◌, ℕ, ◌+◌, ◌*◌, ◌%◌, IsTrue, true, List}
use Rattle.mips_isa.specs.declared.instr.Instr.{Instr}
use Rattle.mips_isa.specs.declared.instr.Instr.TheVariants.{Jal}
use Rattle.mips_isa.specs.Machine.{reads_of, among, is_product}
use Rattle.mips_text.specs.Text.{At}
use Rattle.mips_text.specs.Blocks.{IsStart}
use Rattle.third_lint.specs.Flow.{Next}
use Rattle.third_lint.specs.Votes.{Role, Of, VoteAt, Awaits, OutputAt, ExitAt, InputAt}

-- A run may come to an address otherwise than by the next words: it is the entry, or stands 8 after a jal.
pub data IsLanding (text : List ℕ) (entry w : ℕ) : Type 0 where
  begins : w ≡ entry → IsLanding text entry w
  returned : (a target : ℕ) → At text a (Jal target) → w ≡ a + 8 → IsLanding text entry w

-- No word but the one 4 below an address is before it, and a run comes to it in no other way.
pub record OnlyFollows (text : List ℕ) (entry a : ℕ) : Type 0 where
  pub no_landing : IsLanding text entry a → ⊥
  pub only : (p : ℕ) → Next text p a → p + 4 ≡ a

-- A register is voted at a word: it awaits its use behind a vote, and one way leads from that vote to the word.
pub record IsVoted (text : List ℕ) (entry a r : ℕ) : Type 0 where
  pub v : ℕ
  pub x : ℕ
  pub y : ℕ
  pub z : ℕ
  pub awaits : Awaits text v x y z a r
  pub behind : v + 24 ≤ a
  pub straight : (p : ℕ) → v + 20 ≤ p → p + 4 ≤ a → p % 4 ≡ 0 → Next text p (p + 4) × OnlyFollows text entry (p + 4)

-- A multiplication or division that reads a register of this stream and of no other.
pub record IsProductOf (X : Role) (i : Instr) : Type 0 where
  pub product : is_product i ≡ true
  pub some : ℕ
  pub reads_some : IsTrue (among some (reads_of i))
  pub of_stream : Of X some
  pub no_other : (r : ℕ) (Y : Role) → IsTrue (among r (reads_of i)) → Of Y r → Y ≡ X

-- HI and LO come from a stream at a word that is no start: there is a word before it, and each is a product of that stream.
pub record ProductsOf (text : List ℕ) (entry : ℕ) (X : Role) (a : ℕ) : Type 0 where
  pub no_start : IsStart text entry a → ⊥
  pub before : ℕ
  pub leads : Next text before a
  pub each : (p : ℕ) → Next text p a → (i : Instr) × (At text p i × IsProductOf X i)

-- The word at a is the word of this number, from 0, of a vote.
pub record InVote (text : List ℕ) (a k : ℕ) : Type 0 where
  pub v : ℕ
  pub x : ℕ
  pub y : ℕ
  pub z : ℕ
  pub vote : VoteAt text v x y z
  pub upto : k ≤ 5
  pub at : a ≡ v + 4 * k

-- It is one of an output, an exit or an input.
pub data WordOf (text : List ℕ) (a k : ℕ) : Type 0 where
  output : (c : ℕ) → OutputAt text c → k ≤ 1 → a ≡ c + 4 * k → WordOf text a k
  exit : (c : ℕ) → ExitAt text c → k ≤ 1 → a ≡ c + 4 * k → WordOf text a k
  input : (c : ℕ) → InputAt text c → k ≤ 4 → a ≡ c + 4 * k → WordOf text a k
