-- The words of the forms that call a service, and the shadow of a master register. The forms are the project's own; the services
-- are those of Machine.antt.
use Rattle.std.specs.Prelude.{◌≡◌, ◌≤◌, ℕ, ◌+◌, ◌*◌, List}
use Rattle.mips_isa.specs.declared.instr.Instr.TheVariants.{Syscall, Break, Beq, Ori, Addu}
use Rattle.mips_text.specs.Text.{At}

-- A master register and its shadow: r and r + 10 for 4 to 13, 29 and 30, 31 and 25.
pub data IsPair (m s : ℕ) : Type 0 where
  plain : 4 ≤ m → m ≤ 13 → s ≡ m + 10 → IsPair m s
  stack : m ≡ 29 → s ≡ 30 → IsPair m s
  link : m ≡ 31 → s ≡ 25 → IsPair m s

-- The output of a word.
pub record OutputAt (text : List ℕ) (c : ℕ) : Type 0 where
  pub compares : At text c (Beq 4 14 2)
  pub chooses : At text (c + 4) (Ori 2 0 1)
  pub reports : At text (c + 8) (Break 1)
  pub serves : At text (c + 12) Syscall

-- The exit.
pub record ExitAt (text : List ℕ) (c : ℕ) : Type 0 where
  pub compares : At text c (Beq 4 14 2)
  pub chooses : At text (c + 4) (Ori 2 0 17)
  pub reports : At text (c + 8) (Break 1)
  pub serves : At text (c + 12) Syscall
  pub stops : At text (c + 16) (Break 1)

-- The input of a word.
pub record InputAt (text : List ℕ) (c : ℕ) : Type 0 where
  pub m : ℕ
  pub s : ℕ
  pub pair : IsPair m s
  pub chooses : At text c (Ori 2 0 5)
  pub serves : At text (c + 4) Syscall
  pub first : At text (c + 8) (Addu m 2 0)
  pub second : At text (c + 12) (Addu s 2 0)

-- The word at a is the word of this number, from 0, of such a form.
pub data WordOf (text : List ℕ) (a k : ℕ) : Type 0 where
  output : (c : ℕ) → OutputAt text c → k ≤ 3 → a ≡ c + 4 * k → WordOf text a k
  exit : (c : ℕ) → ExitAt text c → k ≤ 4 → a ≡ c + 4 * k → WordOf text a k
  input : (c : ℕ) → InputAt text c → k ≤ 3 → a ≡ c + 4 * k → WordOf text a k
