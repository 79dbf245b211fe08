-- The next words and the nine rules, as functions of the words around one word of the text and of tables of its words: the starts,
-- the words that a run may enter otherwise than from the word 4 below, and the words one and two behind a mfhi or mflo. This file
-- serves private contracts alone; Rules.antt has the rules.
use Rattle.std.specs.Prelude.{ℕ, ◌+◌, ◌-◌, ◌==◌, ◌&&◌, ◌||◌, nat_le, not, Bool, true, false, if◌then◌else◌, Option, Some, None, List, length}
use Rattle.mips_isa.specs.declared.instr.Instr.{Instr}
use Rattle.mips_isa.specs.declared.instr.Instr.TheVariants.{Mfhi, Mflo, J, Jal, Beq, Bne, Lw, Sw}
use Rattle.mips_isa.specs.Rows.{row, pair_of}
use Rattle.mips_isa.specs.Machine.{is_product}
use Rattle.mips_text.specs.Text.{instr_at, branch_goal, jump_goal}
use Rattle.lint_words.specs.Words.{code_of, skipped, in_words}
use Rattle.lint_words.specs.Around.{starts_at, reads_by, uses_by, jumps_by, in_slot, reporting, is_some, near_before, far_before, is_at}
use Rattle.third_lint.specs.Votes.{Role, A, B, C, role_of}
use Rattle.third_lint.specs.Shapes.{same_role, of, in_vote, vote_behind, used_by, awaited, input_at, in_input, in_form, form_behind}

-- The next words.
abbrev pub goal_of : Option Instr → ℕ → Option ℕ
goal_of (Some (J target)) j = Some (jump_goal j target)
goal_of (Some (Jal target)) j = Some (jump_goal j target)
goal_of (Some (Beq x y imm)) j = Some (branch_goal j imm)
goal_of (Some (Bne x y imm)) j = Some (branch_goal j imm)
goal_of _ j = None

abbrev pub is_branch : Option Instr → Bool
is_branch (Some (Beq x y imm)) = true
is_branch (Some (Bne x y imm)) = true
is_branch _ = false

abbrev pub first_next : List ℕ → ℕ → Option ℕ
first_next text a = if in_slot text a then goal_of (instr_at text (a - 4)) (a - 4) else (if is_some (code_of (instr_at text a)) then None else Some (a + 4))

abbrev pub second_next : List ℕ → ℕ → Option ℕ
second_next text a = if is_branch (instr_at text (a - 4)) && not (reporting (skipped text (a - 4))) then Some (a + 4) else None

-- The rules, each at a word of the text.
abbrev pub is_instr : Option Instr → Bool
is_instr None = false
is_instr (Some i) = true

abbrev pub keeps_one : Role → ℕ → Bool
keeps_one X r = (r == 0) || ((r == 2) || of X r)

abbrev pub keeps_pair : Role → ℕ × ℕ → Bool
keeps_pair X p = keeps_one X p.0 && keeps_one X p.1

abbrev pub of_stream : Option Instr → Role → Bool
of_stream None X = true
of_stream (Some i) X = keeps_pair X (pair_of (row i).writes) && keeps_pair X (pair_of (row i).reads)

abbrev pub half_of : Option Instr → Option ℕ
half_of (Some (Mfhi rd)) = Some rd
half_of (Some (Mflo rd)) = Some rd
half_of _ = None

-- A load's register is not read by the next words.
abbrev pub loaded : Option Instr → Option ℕ
loaded (Some (Lw rt rs imm)) = Some rt
loaded _ = None

abbrev pub clear_of : List ℕ → ℕ → Option ℕ → Bool
clear_of text rt None = true
clear_of text rt (Some b) = not (reads_by (instr_at text b) rt)

abbrev pub load_kept : List ℕ → ℕ → Option ℕ → Bool
load_kept text a None = true
load_kept text a (Some rt) = (rt == 0) || (clear_of text rt (first_next text a) && clear_of text rt (second_next text a))

-- A mfhi or mflo.
abbrev pub is_half : Option Instr → Bool
is_half (Some (Mfhi rd)) = true
is_half (Some (Mflo rd)) = true
is_half _ = false

abbrev pub product_at : Option Instr → Bool
product_at None = false
product_at (Some i) = is_product i

abbrev pub inside_by : List ℕ → Option ℕ → Bool
inside_by text None = true
inside_by text (Some b) = in_words (length text) b

-- A product of a stream.
abbrev pub fits_role : Option Role → Role → Bool
fits_role None X = true
fits_role (Some Y) X = same_role (Some Y) X

abbrev pub product_pair : Role → ℕ × ℕ → Bool
product_pair X p = (of X p.0 || of X p.1) && (fits_role (role_of p.0) X && fits_role (role_of p.1) X)

abbrev pub product_by : Option Instr → Role → Bool
product_by None X = false
product_by (Some i) X = is_product i && product_pair X (pair_of (row i).reads)

abbrev pub implies : Bool → Bool → Bool
implies x y = not x || y

-- HI and LO come from a stream.
abbrev pub products : List ℕ → List Bool → Role → ℕ → Bool
products text bits X a =
    not (starts_at bits a) && ((near_before text a || far_before text a) && (
    implies (near_before text a) (product_by (instr_at text (a - 4)) X) && implies (far_before text a) (product_by (instr_at text (a - 8)) X)))

abbrev pub one_stream : Option Instr → Bool
one_stream o = of_stream o A || (of_stream o B || of_stream o C)

abbrev pub is_jal : Option Instr → Bool
is_jal (Some (Jal target)) = true
is_jal _ = false

abbrev pub half_kept : List ℕ → List Bool → (a : ℕ) → Option ℕ → Bool
half_kept text starts a None = true
half_kept text starts a (Some rd) = (rd == 0) || ((of A rd && products text starts A a) || (
    (of B rd && products text starts B a) || (of C rd && products text starts C a)))

-- What a word leads to other than the word behind it: behind a delay slot, and 8 after a jal.
abbrev pub apart : Option ℕ → (a : ℕ) → Option ℕ
apart None a = None
apart (Some b) a = if b == a + 4 then None else Some b

abbrev pub back_at : Option Instr → (a : ℕ) → Option ℕ
back_at (Some (Jal target)) a = Some (a + 8)
back_at _ a = None

abbrev pub enters : List ℕ → (a : ℕ) → Option ℕ × Option ℕ
enters text a = (apart (first_next text a) a, back_at (instr_at text a) a)

-- The next words of a word, where it is marked.
abbrev pub nexts_if : List ℕ → Bool → (a : ℕ) → Option ℕ × Option ℕ
nexts_if text marked a = if marked then (first_next text a, second_next text a) else (None, None)

-- A run comes to a word from the word 4 below, and in no other way.
abbrev pub near_next : List ℕ → (w : ℕ) → Bool
near_next text w = in_words (length text) (w - 4) && (is_at (first_next text (w - 4)) w || is_at (second_next text (w - 4)) w)

abbrev pub follows : List ℕ → List Bool → (w : ℕ) → Bool
follows text entered w = near_next text w && not (starts_at entered w)

abbrev pub straight_2 : List ℕ → List Bool → (v a : ℕ) → Bool
straight_2 text entered v a = follows text entered (v + 28) && ((a == v + 28) || follows text entered (v + 32))

abbrev pub straight : List ℕ → List Bool → (v a : ℕ) → Bool
straight text entered v a = follows text entered (v + 24) && ((a == v + 24) || straight_2 text entered v a)

-- A register is voted.
abbrev pub voted_from : List ℕ → List Bool → (v a r : ℕ) → Bool
voted_from text entered v a r = nat_le (v + 24) a && (awaited text v a r && straight text entered v a)

abbrev pub voted : List ℕ → List Bool → (a r : ℕ) → Bool
voted text entered a r = voted_from text entered (a - 24) a r || (voted_from text entered (a - 28) a r || voted_from text entered (a - 32) a r)

-- The rules, each at a word of the text.
abbrev pub rule_2 : List ℕ → List Bool → (a : ℕ) → Bool
rule_2 text starts a = (one_stream (instr_at text a) || (is_jal (instr_at text a) || (in_vote text a || in_input text a))) &&
    half_kept text starts a (half_of (instr_at text a))

abbrev pub allowed : List ℕ → List Bool → (a r : ℕ) → Bool
allowed text entered a r = voted text entered a r || input_at text (a - 4)

abbrev pub operand_kept : List ℕ → List Bool → (a r : ℕ) → Bool
operand_kept text entered a r = implies (used_by (instr_at text a) r) ((r == 0) || allowed text entered a r)

abbrev pub operands_kept : List ℕ → List Bool → (a : ℕ) → Option Instr → Bool
operands_kept text entered a None = true
operands_kept text entered a (Some i) = operand_kept text entered a (pair_of (row i).reads).0 && operand_kept text entered a (pair_of (row i).reads).1

abbrev pub rule_3 : List ℕ → List Bool → (a : ℕ) → Bool
rule_3 text entered a = operands_kept text entered a (instr_at text a)

abbrev pub rule_4 : List ℕ → (after twice : List Bool) → (a : ℕ) → Bool
rule_4 text after twice a =
    load_kept text a (loaded (instr_at text a)) && (
    implies (product_at (instr_at text a)) (not (starts_at after a) && not (starts_at twice a)) &&
    not (jumps_by (instr_at text a) && in_slot text a))

abbrev pub rule_5 : List ℕ → (a : ℕ) → Bool
rule_5 text a = inside_by text (first_next text a) && inside_by text (second_next text a)

abbrev pub is_held : ℕ → Bool
is_held r = of A r || (of B r || of C r)

abbrev pub held : Option Instr → Bool
held (Some (Lw rt rs imm)) = is_held rt
held (Some (Sw rt rs imm)) = is_held rt
held _ = true

abbrev pub rule_7 : List ℕ → (a : ℕ) → Bool
rule_7 text a = implies (uses_by (instr_at text a) 2) (in_form text a)

abbrev pub rule_8 : List ℕ → (a : ℕ) → Bool
rule_8 text a = not (reporting (code_of (instr_at text a)))

abbrev pub rule_9 : List ℕ → List Bool → (a : ℕ) → Bool
rule_9 text entered a = implies (starts_at entered a) (not (vote_behind text a) && not (form_behind text a))

-- The lowest rule that is broken at a word of the text, or 0.
abbrev pub first_rule : List ℕ → (starts entered after twice : List Bool) → (a : ℕ) → ℕ
first_rule text starts entered after twice a =
    if not (is_instr (instr_at text a)) then 1 else (
    if not (rule_2 text starts a) then 2 else (
    if not (rule_3 text entered a) then 3 else (
    if not (rule_4 text after twice a) then 4 else (
    if not (rule_5 text a) then 5 else (
    if not (held (instr_at text a)) then 6 else (
    if not (rule_7 text a) then 7 else (
    if not (rule_8 text a) then 8 else (
    if not (rule_9 text entered a) then 9 else 0))))))))
