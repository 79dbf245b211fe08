-- The words of the command line, and the commands that they are.
use Rattle.std.specs.Prelude.{ℕ, ◌-◌, ◌*◌, ◌^◌, nat_le, ◌&&◌, not, ◌==◌, if◌then◌else◌, Bool, List, [], ◌∷◌, length, Option, Some, None, codes, map}
use Rattle.std.specs.Prelude.{string_bytes}
use Rattle.std.specs.Str.{bytes_eq}
use Rattle.std.specs.Option.{option_map, option_and_then}
use Rattle.std.specs.declared.alloc.Global.{Global}
use Rattle.std.specs.declared.string.String.{String}
use Rattle.hard_lines.specs.Numbers.{number_up_to}
use Rattle.tool_words.specs.declared.command.CriticalEdges.{CriticalEdges}
use Rattle.tool_words.specs.declared.command.CriticalEdges.TheVariants.{Kept, Split}

-- A command with its files, each by its name, and its numbers.
pub data Command : Type 0 where
  Compile : (edges : CriticalEdges) (source image : List ℕ) → Command
  Run : (image input : List ℕ) (steps : ℕ) → Command
  RunChanged : (image input : List ℕ) (steps : ℕ) (fault : List ℕ) → Command
  Audit : (image input : List ℕ) (steps : ℕ) → Command
  Campaign : (image input : List ℕ) (steps from to : ℕ) → Command
  ListPairs : (image : List ℕ) → Command
  Make : (number size : ℕ) (out : List ℕ) → Command
  Eval : (source input : List ℕ) (turns : ℕ) → Command
  SelfRun : (number size steps : ℕ) → Command

-- A name has at least one byte.
abbrev pub is_name : List ℕ → Bool
is_name word = not (length word == 0)

-- A number of steps or of turns: at most 10,000,000.
abbrev pub steps_of : List ℕ → Option ℕ
steps_of word = number_up_to 10000000 word

-- `list IMG`
abbrev pub list_command : (image : List ℕ) → Option Command
list_command image = if is_name image then Some (ListPairs image) else None

-- `compile SRC IMG`, and `compile-split SRC IMG`
abbrev pub compile_command : CriticalEdges → (source image : List ℕ) → Option Command
compile_command edges source image = if is_name source && is_name image then Some (Compile edges source image) else None

-- `run IMG INPUT STEPS`
abbrev pub run_command : (image input steps : List ℕ) → Option Command
run_command image input steps = if is_name image && is_name input then option_map (Run image input) (steps_of steps) else None

-- `fault IMG INPUT STEPS FAULTFILE`
abbrev pub fault_command : (image input steps fault : List ℕ) → Option Command
fault_command image input steps fault =
    if is_name image && (is_name input && is_name fault) then option_map (λ n. RunChanged image input n fault) (steps_of steps) else None

-- `audit IMG INPUT STEPS`
abbrev pub audit_command : (image input steps : List ℕ) → Option Command
audit_command image input steps = if is_name image && is_name input then option_map (Audit image input) (steps_of steps) else None

-- `eval SRC INPUT TURNS`
abbrev pub eval_command : (source input turns : List ℕ) → Option Command
eval_command source input turns = if is_name source && is_name input then option_map (Eval source input) (steps_of turns) else None

-- The steps of a campaign's flips, the first and the one behind the last, are in order and within its runs, and its runs come to at most
-- 200,000,000 steps: one run for each of 31 registers at each step.
abbrev pub are_flips : (steps from to : ℕ) → Bool
are_flips steps from to = nat_le from to && (nat_le to steps && nat_le ((to - from) * 31 * steps) 200000000)

-- The command of these numbers.
abbrev pub flips_command : (image input : List ℕ) (steps from to : ℕ) → Option Command
flips_command image input steps from to = if are_flips steps from to then Some (Campaign image input steps from to) else None

-- `campaign IMG INPUT STEPS FROM TO`
abbrev pub campaign_command : (image input steps from to : List ℕ) → Option Command
campaign_command image input steps from to =
    if is_name image && is_name input
    then option_and_then (λ n. option_and_then (λ f. option_and_then (λ t. flips_command image input n f t) (steps_of to)) (steps_of from)) (steps_of steps)
    else None

-- A number of functions: from 1 to 1,000.
abbrev pub size_of : List ℕ → Option ℕ
size_of word = option_and_then (λ size. if nat_le 1 size then Some size else None) (number_up_to 1000 word)

-- `make NUMBER SIZE OUT`
abbrev pub make_command : (number size out : List ℕ) → Option Command
make_command number size out =
    if is_name out then option_and_then (λ n. option_map (λ s. Make n s out) (size_of size)) (number_up_to (2 ^ 64 - 1) number) else None

-- `selfrun NUMBER SIZE STEPS`
abbrev pub self_run_command : (number size steps : List ℕ) → Option Command
self_run_command number size steps =
    option_and_then (λ n. option_and_then (λ s. option_map (SelfRun n s) (steps_of steps)) (size_of size)) (number_up_to (2 ^ 64 - 1) number)

-- the name under which `selfrun` puts the image
abbrev pub self_image : List ℕ
self_image = codes "self.img"

-- The command of the words of a command line, if they are the form of one.
abbrev pub command_of : List (List ℕ) → Option Command
command_of (word ∷ a ∷ []) = if bytes_eq word (codes "list") then list_command a else None
command_of (word ∷ a ∷ b ∷ []) =
    if bytes_eq word (codes "compile") then compile_command Kept a b
    else (if bytes_eq word (codes "compile-split") then compile_command Split a b else None)
command_of (word ∷ a ∷ b ∷ c ∷ []) =
    if bytes_eq word (codes "run") then run_command a b c
    else (if bytes_eq word (codes "make") then make_command a b c
    else (if bytes_eq word (codes "audit") then audit_command a b c else (if bytes_eq word (codes "eval") then eval_command a b c
    else (if bytes_eq word (codes "selfrun") then self_run_command a b c else None))))
command_of (word ∷ a ∷ b ∷ c ∷ d ∷ []) = if bytes_eq word (codes "fault") then fault_command a b c d else None
command_of (word ∷ a ∷ b ∷ c ∷ d ∷ e ∷ []) = if bytes_eq word (codes "campaign") then campaign_command a b c d e else None
command_of _ = None

-- The same, of words as texts.
abbrev pub command : List (String Global) → Option Command
command words = command_of (map (λ word. string_bytes word) words)
