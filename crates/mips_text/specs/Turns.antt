-- Whether the words of two streams take turns in a text: the order in which code that computes each value twice, after the article
-- on EDDI (IEEE Transactions on Reliability 51(1), 2002), has its words. The notion is the project's own.
use Rattle.std.specs.Prelude.{◌≡◌, ℕ, zero, suc, ◌-◌, ◌==◌, ◌&&◌, ◌||◌, not, nat_le, Bool, true, false, IsTrue, if◌then◌else◌, Option, Some, None}
use Rattle.std.specs.Prelude.{List, [], ◌∷◌, ◌++◌, length, count_by, is_some, map, replicate}
use Rattle.std.specs.List.{list_any, list_all}
use Rattle.mips_isa.specs.declared.instr.Instr.{Instr}
use Rattle.mips_isa.specs.declared.instr.Instr.TheVariants.{Sll, Sw, Beq, Break, Syscall}
use Rattle.mips_isa.specs.Machine.{among, is_jump, is_product}
use Rattle.mips_isa.specs.Locality.{is_move}
use Rattle.mips_isa.specs.Table.{decoded}
use Rattle.mips_text.specs.Text.{used_of}

-- The registers of the first stream: ten values, the stack pointer and the return address (4 to 13, 29 and 31).
abbrev pub in_first : ℕ → Bool
in_first r = (nat_le 4 r && nat_le r 13) || (r == 29 || r == 31)

-- The registers of the second stream, in the same roles (14 to 23, 30 and 25).
abbrev pub in_second : ℕ → Bool
in_second r = (nat_le 14 r && nat_le r 23) || (r == 30 || r == 25)

pub data Stream : Type 0 where
  First : Stream
  Second : Stream

abbrev pub is_sw : Instr → Bool
is_sw (Sw rt rs imm) = true
is_sw _ = false

-- A word of a stream: it reads or writes registers of exactly one of the two, is no sw, branch or jump, and leaves register 2 alone.
abbrev pub stream_of : Instr → Option Stream
stream_of i =
    if is_sw i || (is_jump i || among 2 (used_of i)) then None else
    if list_any in_first (used_of i) then (if list_any in_second (used_of i) then None else Some First) else
    (if list_any in_second (used_of i) then Some Second else None)

-- The word that does nothing.
abbrev pub is_nop : Instr → Bool
is_nop (Sll rd rt sh) = rd == 0 && (rt == 0 && sh == 0)
is_nop _ = false

-- A word that touches no register but 0, and neither goes anywhere nor ends the run nor asks for a service; a nop is one.
abbrev pub is_idle : Instr → Bool
is_idle Syscall = false
is_idle (Break code) = false
is_idle i = not (is_jump i) && not (list_any (λ r. not (r == 0)) (used_of i))

-- The stream of a word that stands in front of the units behind it; a move from HI or LO right behind a product is of its unit.
abbrev pub in_front : Option Stream → Bool → List Stream → List Stream
in_front None is_moved more = more
in_front (Some s) is_moved more = if is_moved then more else s ∷ more

-- The streams of the units of some words, in their order: a unit is a word of a stream, or a product with the move from HI or LO
-- behind it. The first argument says that a product stands right before the words.
abbrev pub units_behind : Bool → List Instr → List Stream
units_behind product [] = []
units_behind product (i ∷ more) = in_front (stream_of i) (product && is_move i) (units_behind (is_product i) more)

abbrev pub units : List Instr → List Stream
units words = units_behind false words

abbrev pub is_first : Stream → Bool
is_first First = true
is_first Second = false

-- So many units of the first stream and so many of the second in turns, the first stream first, as long as both have some left.
abbrev pub in_turns : ℕ → ℕ → List Stream
in_turns zero n = replicate n Second
in_turns (suc m) zero = replicate (suc m) First
in_turns (suc m) (suc n) = First ∷ Second ∷ in_turns m n

-- The units of some words take turns.
abbrev pub TakeTurns : List Instr → Type 0
TakeTurns words = units words ≡ in_turns (count_by is_first (units words)) (length (units words) - count_by is_first (units words))

-- Some words stand between others as a longest run of words that pass a test.
abbrev pub EndsOutside : (Instr → Bool) → List Instr → Type 0
EndsOutside passes words = (front : List Instr) (i : Instr) → words ≡ front ++ i ∷ [] → passes i ≡ false

abbrev pub BeginsOutside : (Instr → Bool) → List Instr → Type 0
BeginsOutside passes words = (i : Instr) (more : List Instr) → words ≡ i ∷ more → passes i ≡ false

pub record IsRun (passes : Instr → Bool) (before run after : List Instr) : Type 0 where
  pub inside : IsTrue (list_all passes run)
  pub from : EndsOutside passes before
  pub upto : BeginsOutside passes after

-- In each longest run of words that pass a test the units take turns.
abbrev pub TurnedWhere : (Instr → Bool) → List Instr → Type 0
TurnedWhere passes words = (before run after : List Instr) → words ≡ before ++ (run ++ after) → IsRun passes before run after → TakeTurns run

-- In each longest run of words of the streams and nops the units take turns.
abbrev pub Turned : List Instr → Type 0
Turned words = TurnedWhere (λ i. is_some (stream_of i) || is_nop i) words

-- Two registers of which one is of the first stream and one of the second.
abbrev pub crosses : ℕ → ℕ → Bool
crosses x y = (in_first x && in_second y) || (in_second x && in_first y)

-- The words without their checks: a beq of two such registers over a nop and a break 1.
abbrev pub without_checks : List Instr → List Instr
without_checks (Beq x y (suc (suc zero)) ∷ Sll zero zero zero ∷ Break (suc zero) ∷ more) =
    if crosses x y then without_checks more else Beq x y 2 ∷ Sll 0 0 0 ∷ Break 1 ∷ without_checks more
without_checks (i ∷ more) = i ∷ without_checks more
without_checks [] = []

-- The stronger form: neither checks nor words that touch no register but 0 part a run.
abbrev pub TurnedThrough : List Instr → Type 0
TurnedThrough words = TurnedWhere (λ i. is_some (stream_of i) || is_idle i) (without_checks words)

-- The same of a text, each of whose words is that of an instruction.
abbrev pub IsTextOf : List ℕ → List Instr → Type 0
IsTextOf text words = map decoded text ≡ map Some words

-- In each run of words of a text the units of the two streams take turns, the first stream first, as long as both have some left: where a
-- run is of words of the streams and nops, and where neither checks nor words that touch no register but 0 part it.
pub record IsInTurns (text : List ℕ) : Type 0 where
  pub instrs : List Instr
  pub is_text : IsTextOf text instrs
  pub turned : Turned instrs
  pub turned_through : TurnedThrough instrs
