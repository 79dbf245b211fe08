-- What a word may do in two runs side by side, of which the second has other words where nothing is kept: by its sort, the two
-- runs are still side by side behind it, or end alike, or the second tells of the fault. K and L are the registers that are kept
-- before the word and behind it, P and Q whether HI and LO are, and M the places of memory. The notions are the project's own,
-- over the instructions of the machine and its states side by side.
use Rattle.std.specs.Prelude.{◌≡◌, ◌≢◌, ℕ, List, [], ◌∷◌, get_or, true, false, Bool, None, ◌⊎◌}
use Rattle.hard_words.specs.Words.{extended}
use Rattle.mips_isa.specs.declared.instr.Instr.{Instr}
use Rattle.mips_isa.specs.declared.instr.Instr.TheVariants.{Syscall, Break, Sw}
use Rattle.mips_isa.specs.declared.instr.Act.TheVariants.{Write}
use Rattle.mips_isa.specs.declared.instr.End.TheVariants.{Reported}
use Rattle.mips_isa.specs.Machine.{State, reg, act, is_product, is_jump, place, plus, reads_of, writes_of, branch, break_end}
use Rattle.mips_isa.specs.Locality.{is_move, is_data}
use Rattle.mips_faults.specs.Beside.{with_parts, SameKept, LoadsKept}
use Rattle.mips_text.specs.Text.{At}

-- A fact of each number of a list, and a number among those of a list.
abbrev pub AllOf : (ℕ → Type 0) → List ℕ → Type 0
AllOf K [] = Unit {0}
AllOf K (r ∷ rs) = K r × AllOf K rs

abbrev pub Among : ℕ → List ℕ → Type 0
Among q [] = ⊥
Among q (x ∷ xs) = (q ≡ x) ⊎ Among q xs

-- A word that reads only what is kept: what is kept behind it was kept before or is written.
pub record Alike (K L : ℕ → Type 0) (P Q : Type 0) (M : ℕ → Type 0) (s : State) (i : Instr) : Type 0 where
  pub loads : LoadsKept M (act i s)
  pub reads : AllOf K (reads_of i)
  pub halves : is_move i ≡ true → P
  pub after : (q : ℕ) → L q → K q ⊎ Among q (writes_of i)
  pub products : Q → P ⊎ (is_product i ≡ true)

-- A word that only computes, loads or moves, and may read anything: what it writes is not kept behind it.
pub record Wrong (K L : ℕ → Type 0) (P Q : Type 0) (i : Instr) : Type 0 where
  pub data_row : is_data i ≡ true
  pub after : (q : ℕ) → L q → K q × ((x : ℕ) → writes_of i ≡ x ∷ [] → (x ≡ 0) ⊎ (q ≢ x))
  pub products : Q → P × (writes_of i ≡ [] → ⊥)

-- A store of any word at a base that is kept, into a place that is not.
pub record Aside (K L : ℕ → Type 0) (P Q : Type 0) (M : ℕ → Type 0) (s : State) (i : Instr) : Type 0 where
  pub rt : ℕ
  pub rs : ℕ
  pub imm : ℕ
  pub is : i ≡ Sw rt rs imm
  pub base : K rs
  pub place_free : M (place (plus (reg s rs) (extended imm))) → ⊥
  pub after : (q : ℕ) → L q → K q
  pub products : Q → P

-- The syscall of an input, whose argument may be anything: register 2 is kept, and kept again behind it.
pub record Takes (K L : ℕ → Type 0) (P Q : Type 0) (s : State) (i : Instr) : Type 0 where
  pub is : i ≡ Syscall
  pub two : K 2
  pub five : reg s 2 ≡ 5
  pub after : (q : ℕ) → L q → K q ⊎ (q ≡ 2)
  pub products : Q → P

-- A break.
pub record Halts (i : Instr) : Type 0 where
  pub code : ℕ
  pub is : i ≡ Break code

-- A word that only writes a register: what a delay slot may be.
pub record IsPlain (i : Instr) : Type 0 where
  pub plain : (u : State) → (d : ℕ) × ((v : ℕ) × (act i u ≡ Write d v))
  pub no_product : is_product i ≡ false
  pub no_jump : is_jump i ≡ false

-- The two words behind a branch that skips a report: a plain one at a, and the report at b.
pub record Behind (text : List ℕ) (a b : ℕ) : Type 0 where
  pub i : Instr
  pub is_plain : IsPlain i
  pub slot : At text a i
  pub code : ℕ
  pub reports : (at : ℕ) → break_end at code ≡ Reported code at
  pub stop : At text b (Break code)

-- A state stands at them, behind such a branch that was not taken: it is about to report.
pub record Doomed (u : State) : Type 0 where
  pub going : u.end ≡ None
  pub unloaded : u.last_load ≡ 0
  pub behind : Behind u.text u.pc u.npc

-- A branch that skips a report; where both runs take it, what its test says is kept behind it.
pub record Skips (K L : ℕ → Type 0) (P Q : Type 0) (M : ℕ → Type 0) (s : State) (i : Instr) : Type 0 where
  pub test : State → Bool
  pub is : (u : State) → act i u ≡ branch (test u) u 2
  pub after : (l : List ℕ) (h g : ℕ) (mem : List ℕ) → SameKept K s.regs l → test s ≡ true → test (with_parts s l h g mem) ≡ true →
      (q : ℕ) → L q → get_or s.regs q 0 ≡ get_or l q 0
  pub products : Q → P
  pub behind : Behind s.text s.npc (plus s.npc 4)

-- The sort of the word that a state is about to do.
pub data Sort (K L : ℕ → Type 0) (P Q : Type 0) (M : ℕ → Type 0) (s : State) (i : Instr) : Type 0 where
  alike : Alike K L P Q M s i → Sort K L P Q M s i
  wrong : Wrong K L P Q i → Sort K L P Q M s i
  takes : Takes K L P Q s i → Sort K L P Q M s i
  aside : Aside K L P Q M s i → Sort K L P Q M s i
  halts : Halts i → Sort K L P Q M s i
  skips : Skips K L P Q M s i → Sort K L P Q M s i
