-- What is shown of a run: a line for each word that it put out, and a line for how it ended.
use Rattle.std.specs.Prelude.{ℕ, ◌+◌, ◌/◌, ◌%◌, ◌^◌, ◌==◌, if◌then◌else◌, List, [], ◌∷◌, ◌++◌, Option, Some, None, codes, decimal, nat_lt}
use Rattle.std.specs.List.{flat_map}
use Rattle.std.specs.Fmt.{signed_decimal}
use Rattle.hard_words.specs.Words.{signed}
use Rattle.mips_isa.specs.declared.instr.End.{End}
use Rattle.mips_isa.specs.declared.instr.End.TheVariants.{Exited, Trapped, Starved, Reported, Exception, Hazard}
use Rattle.mips_isa.specs.Runs.{Ran}

-- a text with its line feed
abbrev pub line : List ℕ → List ℕ
line text = text ++ 10 ∷ []

-- a word as a line: the number that it stands for in two's complement
unfoldable pub word_line : ℕ → List ℕ
word_line word = line (signed_decimal (signed word))

-- the line of what a step put out, if anything
abbrev pub line_if_any : Option ℕ → List ℕ
line_if_any None = []
line_if_any (Some word) = word_line word

-- 0 to 9 and a to f
abbrev pub hex_digit : ℕ → ℕ
hex_digit digit = if nat_lt digit 10 then 48 + digit else 87 + digit

-- an address: 0x and eight hexadecimal digits
unfoldable pub address : ℕ → List ℕ
address at = codes "0x" ++ (hex_digit (at / 2 ^ 28 % 16) ∷ hex_digit (at / 2 ^ 24 % 16) ∷ hex_digit (at / 2 ^ 20 % 16) ∷ hex_digit (at / 2 ^ 16 % 16)
    ∷ hex_digit (at / 2 ^ 12 % 16) ∷ hex_digit (at / 2 ^ 8 % 16) ∷ hex_digit (at / 2 ^ 4 % 16) ∷ hex_digit (at % 16) ∷ [])

-- the names that the MIPS I manual gives to the exceptions of a program
abbrev pub exception_name : ℕ → List ℕ
exception_name code =
    if code == 4 then codes "AdEL" else (
    if code == 5 then codes "AdES" else (
    if code == 6 then codes "IBE" else (
    if code == 7 then codes "DBE" else (
    if code == 8 then codes "Sys" else (
    if code == 9 then codes "Bp" else (
    if code == 10 then codes "RI" else codes "Ov"))))))

-- which of the two kinds of checks reported
abbrev pub check_name : ℕ → List ℕ
check_name code = if code == 1 then codes "eddi" else codes "cfcss"

-- a cause, and the address where it showed
unfoldable pub cause_at : List ℕ → ℕ → List ℕ
cause_at cause at = cause ++ (codes " at " ++ address at)

-- how a run stands
abbrev pub end_text : Option End → List ℕ
end_text None = codes "going"
end_text (Some (Exited word)) = codes "exit " ++ signed_decimal (signed word)
end_text (Some (Trapped number)) = codes "trap " ++ decimal number
end_text (Some Starved) = codes "starved"
end_text (Some (Reported code at)) = cause_at (codes "reported " ++ check_name code) at
end_text (Some (Exception code at)) = cause_at (codes "exception " ++ exception_name code) at
end_text (Some (Hazard at)) = cause_at (codes "hazard") at

unfoldable pub end_line : Option End → List ℕ
end_line end = line (end_text end)

-- the lines of the words that were put out
abbrev pub word_lines : List ℕ → List ℕ
word_lines output = flat_map word_line output

-- The text that is shown: the words that were put out, then how the run stands.
abbrev pub show : List ℕ → Option End → List ℕ
show output end = word_lines output ++ end_line end

-- what is shown of a run
abbrev pub shown : Ran → List ℕ
shown ran = show ran.output ran.state.end
