-- The words of a text that runs in three streams: which registers are of which stream, the vote that takes the majority of each bit
-- of three registers, and the windows, in which a voted register awaits its use. The notions are the project's own, after the
-- article on EDDI (IEEE Transactions on Reliability 51(1), 2002) and triple modular redundancy; the instructions are those of
-- Machine.antt.
use Rattle.std.specs.Prelude.{◌≡◌, ◌≤◌, ◌<◌, ℕ, ◌+◌, ◌%◌, ◌==◌, ◌&&◌, ◌||◌, nat_le, if◌then◌else◌, Option, Some, None, List, ◌⊎◌}
use Rattle.mips_isa.specs.declared.instr.Instr.TheVariants.{Jr, Syscall, And, Or, Addu, Ori, Sw}
use Rattle.mips_text.specs.Text.{At, Reads, Writes, BranchAt}

-- The three streams.
pub data Role : Type 0 where
  A : Role
  B : Role
  C : Role

-- The stream of a register: A has 4 to 9, 29 and 31; B has 10 to 15, 30 and 25; C has 16 to 21, 28 and 24; the others have none.
abbrev pub role_of : ℕ → Option Role
role_of r =
    if (nat_le 4 r && nat_le r 9) || ((r == 29) || (r == 31)) then Some A else (
    if (nat_le 10 r && nat_le r 15) || ((r == 30) || (r == 25)) then Some B else (
    if (nat_le 16 r && nat_le r 21) || ((r == 28) || (r == 24)) then Some C else
    None))

abbrev pub Of : Role → ℕ → Type 0
Of X r = role_of r ≡ Some X

-- Three registers of one role: a value, the stack pointer, or the return address of each stream.
pub data IsTriple (x y z : ℕ) : Type 0 where
  value : 4 ≤ x → x ≤ 9 → y ≡ x + 6 → z ≡ x + 12 → IsTriple x y z
  stack : x ≡ 29 → y ≡ 30 → z ≡ 28 → IsTriple x y z
  link : x ≡ 31 → y ≡ 25 → z ≡ 24 → IsTriple x y z

-- A vote on three registers: x gets the majority of each bit, and y and z get x.
pub record VoteAt (text : List ℕ) (v x y z : ℕ) : Type 0 where
  pub triple : IsTriple x y z
  pub both : At text v (And 1 x y)
  pub either : At text (v + 4) (Or 3 x y)
  pub other : At text (v + 8) (And 3 3 z)
  pub settles : At text (v + 12) (Or x 1 3)
  pub copies : At text (v + 16) (Addu y x 0)
  pub ends : At text (v + 20) (Addu z x 0)

-- The word at an address uses a register so that no wrong word may stand there: as the base of a sw, as an operand of a
-- conditional branch, as the target of a jr, or as register 4 of a syscall.
pub data IsUse (text : List ℕ) (u r : ℕ) : Type 0 where
  base : (rt imm : ℕ) → At text u (Sw rt r imm) → IsUse text u r
  operand : (x y imm : ℕ) → BranchAt text u x y imm → (r ≡ x) ⊎ (r ≡ y) → IsUse text u r
  target : At text u (Jr r) → IsUse text u r
  argument : At text u Syscall → r ≡ 4 → IsUse text u r

-- A register of the vote at v awaits at a its use at u, at most 32 bytes behind the first word of the vote, and no word behind
-- the vote and before u writes it. The second register of the vote awaits its use from the vote's last word on.
pub record Awaits (text : List ℕ) (v x y z a r : ℕ) : Type 0 where
  pub vote : VoteAt text v x y z
  pub one : (r ≡ x) ⊎ ((r ≡ y) ⊎ (r ≡ z))
  pub use_at : ℕ
  pub used : IsUse text use_at r
  pub from : v + 24 ≤ use_at
  pub within : use_at ≤ v + 32
  pub aligned : a % 4 ≡ 0
  pub upto : a ≤ use_at
  pub behind : (v + 24 ≤ a) ⊎ ((a ≡ v + 20) × (r ≡ y))
  pub unwritten : (w : ℕ) → v + 24 ≤ w → w < use_at → Writes text w r → ⊥

-- The windows of a text: a register that the rest of a vote takes as it is, a voted register that awaits its use, and register 2
-- at a syscall and at the two words behind it that read it.
pub data NearThird (text : List ℕ) (a r : ℕ) : Type 0 where
  settled : (v x y z : ℕ) → VoteAt text v x y z → (a ≡ v + 16) ⊎ (a ≡ v + 20) → r ≡ x → NearThird text a r
  both_bits : (v x y z : ℕ) → VoteAt text v x y z → (a ≡ v + 4) ⊎ ((a ≡ v + 8) ⊎ (a ≡ v + 12)) → r ≡ 1 → NearThird text a r
  other_bits : (v x y z : ℕ) → VoteAt text v x y z → a ≡ v + 12 → r ≡ 3 → NearThird text a r
  awaiting : (v x y z : ℕ) → Awaits text v x y z a r → NearThird text a r
  service : At text a Syscall → r ≡ 2 → NearThird text a r
  result : (b : ℕ) → (a ≡ b + 4) ⊎ (a ≡ b + 8) → At text b Syscall → Reads text a 2 → r ≡ 2 → NearThird text a r

-- The output of the word in register 4, the exit with it, and the input of a word to the three streams.
pub record OutputAt (text : List ℕ) (c : ℕ) : Type 0 where
  pub chooses : At text c (Ori 2 0 1)
  pub serves : At text (c + 4) Syscall

pub record ExitAt (text : List ℕ) (c : ℕ) : Type 0 where
  pub chooses : At text c (Ori 2 0 17)
  pub serves : At text (c + 4) Syscall

pub record InputAt (text : List ℕ) (c : ℕ) : Type 0 where
  pub a : ℕ
  pub b : ℕ
  pub d : ℕ
  pub of_a : Of A a
  pub of_b : Of B b
  pub of_d : Of C d
  pub chooses : At text c (Ori 2 0 5)
  pub serves : At text (c + 4) Syscall
  pub first : At text (c + 8) (Addu a 2 0)
  pub second : At text (c + 12) (Addu b 2 0)
  pub last : At text (c + 16) (Addu d 2 0)
