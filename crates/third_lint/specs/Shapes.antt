-- The streams of registers, the votes and the forms of services as functions of the words around one word. This file serves
-- private contracts alone; Votes.antt and Typing.antt have the definitions.
use Rattle.std.specs.Prelude.{ℕ, ◌+◌, ◌-◌, ◌==◌, ◌&&◌, ◌||◌, nat_le, not, Bool, true, false, if◌then◌else◌, Option, Some, None, List}
use Rattle.mips_isa.specs.declared.instr.Instr.{Instr}
use Rattle.mips_isa.specs.declared.instr.Instr.TheVariants.{Jr, Syscall, And, Or, Addu, Beq, Bne, Ori, Sw}
use Rattle.mips_text.specs.Text.{instr_at}
use Rattle.lint_words.specs.Around.{is_some, reads_by, writes_by}
use Rattle.lint_words.specs.Windows.{serving}
use Rattle.third_lint.specs.Votes.{Role, A, B, C, role_of}

-- A register of a stream.
abbrev pub same_role : Option Role → Role → Bool
same_role (Some A) A = true
same_role (Some B) B = true
same_role (Some C) C = true
same_role _ X = false

abbrev pub of : Role → ℕ → Bool
of X r = same_role (role_of r) X

-- The registers of streams B and C in the role of a register of A.
abbrev pub second : ℕ → ℕ
second x = if x == 29 then 30 else (if x == 31 then 25 else (if nat_le x 9 then x + 6 else 0))

abbrev pub third : ℕ → ℕ
third x = if x == 29 then 28 else (if x == 31 then 24 else (if nat_le x 9 then x + 12 else 0))

-- The words of a vote.
abbrev pub is_and : Option Instr → (d p q : ℕ) → Bool
is_and (Some (And rd rs rt)) d p q = (rd == d) && ((rs == p) && (rt == q))
is_and _ d p q = false

abbrev pub is_or : Option Instr → (d p q : ℕ) → Bool
is_or (Some (Or rd rs rt)) d p q = (rd == d) && ((rs == p) && (rt == q))
is_or _ d p q = false

abbrev pub is_copy : Option Instr → (d p : ℕ) → Bool
is_copy (Some (Addu rd rs rt)) d p = (rd == d) && ((rs == p) && (rt == 0))
is_copy _ d p = false

abbrev pub first_by : (d x y : ℕ) → Option ℕ
first_by d x y = if (d == 1) && (of A x && (y == second x)) then Some x else None

abbrev pub vote_first : Option Instr → Option ℕ
vote_first (Some (And rd rs rt)) = first_by rd rs rt
vote_first _ = None

abbrev pub vote_rest : List ℕ → (v x : ℕ) → Bool
vote_rest text v x =
    is_or (instr_at text (v + 4)) 3 x (second x) && (is_and (instr_at text (v + 8)) 3 3 (third x) && (is_or (instr_at text (v + 12)) x 1 3 && (
    is_copy (instr_at text (v + 16)) (second x) x && is_copy (instr_at text (v + 20)) (third x) x)))

-- The register of stream A on which the words at v vote.
abbrev pub vote_by : List ℕ → (v : ℕ) → Option ℕ → Option ℕ
vote_by text v None = None
vote_by text v (Some x) = if vote_rest text v x then Some x else None

abbrev pub vote_at : List ℕ → (v : ℕ) → Option ℕ
vote_at text v = vote_by text v (vote_first (instr_at text v))

-- A word of a vote, and one behind its first.
abbrev pub vote_behind : List ℕ → (a : ℕ) → Bool
vote_behind text a =
    is_some (vote_at text (a - 4)) || (is_some (vote_at text (a - 8)) || (is_some (vote_at text (a - 12)) || (
    is_some (vote_at text (a - 16)) || is_some (vote_at text (a - 20)))))

abbrev pub in_vote : List ℕ → (a : ℕ) → Bool
in_vote text a = is_some (vote_at text a) || vote_behind text a

-- What an instruction uses so that no wrong word may stand there.
abbrev pub used_by : Option Instr → ℕ → Bool
used_by (Some (Sw rt rs imm)) r = r == rs
used_by (Some (Beq x y imm)) r = (r == x) || (r == y)
used_by (Some (Bne x y imm)) r = (r == x) || (r == y)
used_by (Some (Jr rs)) r = r == rs
used_by (Some Syscall) r = r == 4
used_by _ r = false

-- A use of the register at a or behind it, among the three words behind the vote at v, before which it is not written.
abbrev pub use_from : List ℕ → (a r u : ℕ) → Bool
use_from text a r u = nat_le a u && used_by (instr_at text u) r

abbrev pub awaits_2 : List ℕ → (v a r : ℕ) → Bool
awaits_2 text v a r = use_from text a r (v + 28) || (not (writes_by (instr_at text (v + 28)) r) && use_from text a r (v + 32))

abbrev pub awaits : List ℕ → (v a r : ℕ) → Bool
awaits text v a r = use_from text a r (v + 24) || (not (writes_by (instr_at text (v + 24)) r) && awaits_2 text v a r)

abbrev pub one_of : (x r : ℕ) → Bool
one_of x r = (r == x) || ((r == second x) || (r == third x))

abbrev pub behind_vote : (v a x r : ℕ) → Bool
behind_vote v a x r = nat_le (v + 24) a || ((a == v + 20) && (r == second x))

-- A register of the vote at v awaits its use at a.
abbrev pub awaited_by : List ℕ → (v a r : ℕ) → Option ℕ → Bool
awaited_by text v a r None = false
awaited_by text v a r (Some x) = one_of x r && (behind_vote v a x r && awaits text v a r)

abbrev pub awaited : List ℕ → (v a r : ℕ) → Bool
awaited text v a r = awaited_by text v a r (vote_at text v)

-- The forms of services.
abbrev pub chooses : Option Instr → (n : ℕ) → Bool
chooses (Some (Ori rt rs imm)) n = (rt == 2) && ((rs == 0) && (imm == n))
chooses _ n = false

abbrev pub serves_at : List ℕ → (n c : ℕ) → Bool
serves_at text n c = chooses (instr_at text c) n && serving (instr_at text (c + 4))

-- An output or an exit.
abbrev pub called_at : List ℕ → (c : ℕ) → Bool
called_at text c = serves_at text 1 c || serves_at text 17 c

abbrev pub moves_to : Option Instr → Role → Bool
moves_to (Some (Addu rd rs rt)) X = of X rd && ((rs == 2) && (rt == 0))
moves_to _ X = false

abbrev pub input_at : List ℕ → (c : ℕ) → Bool
input_at text c = serves_at text 5 c &&
    (moves_to (instr_at text (c + 8)) A && (moves_to (instr_at text (c + 12)) B && moves_to (instr_at text (c + 16)) C))

-- A word of an input, and one behind its first.
abbrev pub input_behind : List ℕ → (a : ℕ) → Bool
input_behind text a = input_at text (a - 4) || (input_at text (a - 8) || (input_at text (a - 12) || input_at text (a - 16)))

abbrev pub in_input : List ℕ → (a : ℕ) → Bool
in_input text a = input_at text a || input_behind text a

-- A word of a form, and one behind its first.
abbrev pub form_behind : List ℕ → (a : ℕ) → Bool
form_behind text a = called_at text (a - 4) || input_behind text a

abbrev pub in_form : List ℕ → (a : ℕ) → Bool
in_form text a = called_at text a || (input_at text a || form_behind text a)

-- The windows of a text, by the votes around a word and by the services.
abbrev pub settled_by : Option ℕ → (r : ℕ) → Bool
settled_by None r = false
settled_by (Some x) r = r == x

abbrev pub settled_at : List ℕ → (a r : ℕ) → Bool
settled_at text a r = settled_by (vote_at text (a - 16)) r || settled_by (vote_at text (a - 20)) r

abbrev pub both_at : List ℕ → (a : ℕ) → Bool
both_at text a = is_some (vote_at text (a - 4)) || (is_some (vote_at text (a - 8)) || is_some (vote_at text (a - 12)))

abbrev pub awaited_at : List ℕ → (a r : ℕ) → Bool
awaited_at text a r = awaited text (a - 20) a r || (awaited text (a - 24) a r || (awaited text (a - 28) a r || awaited text (a - 32) a r))

abbrev pub answered : List ℕ → (a : ℕ) → Bool
answered text a = serving (instr_at text a) || ((serving (instr_at text (a - 4)) || serving (instr_at text (a - 8))) && reads_by (instr_at text a) 2)

-- Registers 1 and 3 in the midst of a vote, and register 2 behind a service.
abbrev pub helps : List ℕ → (a r : ℕ) → Bool
helps text a r = ((r == 1) && both_at text a) || (((r == 3) && is_some (vote_at text (a - 12))) || ((r == 2) && answered text a))

abbrev pub near : List ℕ → (a r : ℕ) → Bool
near text a r = (settled_at text a r || awaited_at text a r) || helps text a r
