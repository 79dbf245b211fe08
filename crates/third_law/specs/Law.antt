-- What the words of a program in three streams do.
use Rattle.std.specs.Prelude.{◌≡◌, ◌<◌, ◌≤◌, ℕ, ◌+◌, ◌*◌, ◌%◌, ◌^◌, List, Some, None, length, map, sum, slice_get, All}
use Rattle.hard_runs.specs.Observed.{SameObserved}
use Rattle.hard_words.specs.Words.{AreWords, extended}
use Rattle.mips_isa.specs.declared.instr.Instr.TheVariants.{Jr, Jal, And, Lw, Sw}
use Rattle.mips_isa.specs.declared.instr.End.TheVariants.{Exception}
use Rattle.mips_isa.specs.Machine.{State, step, reg, plus}
use Rattle.mips_text.specs.Text.{At}
use Rattle.mips_isa.specs.Table.{IsInRange}
use Rattle.mips_isa.specs.Image.{boot_state}
use Rattle.mips_isa.specs.Runs.{run, observed}
use Rattle.mid_blocks.specs.declared.code.MidFunction.{MidFunction}
use Rattle.mid_blocks.specs.declared.code.Mid.{Mid}
use Rattle.mid_blocks.specs.declared.places.Place.TheVariants.{Pair}
use Rattle.mid_blocks.specs.declared.places.Places.{Places}
use Rattle.mid_blocks.specs.Liveness.{PlacesFit, PlaceOf}
use Rattle.mid_blocks.specs.Valid.{Valid}
use Rattle.mid_blocks.specs.Bounds.{Shallow, Proper}
use Rattle.mid_blocks.specs.Size.{words}
use Rattle.mid_blocks.specs.Words.{HasWords}
use Rattle.third_law.specs.Roles.{reg_in, RoleFits}
use Rattle.third_law.specs.declared.roles.Stream.{Stream}
use Rattle.third_law.specs.declared.roles.Stream.TheVariants.{First, Second, Third}
use Rattle.third_law.specs.declared.roles.Role.{Role}
use Rattle.third_law.specs.Program.{code_at, third_text, third_image}
use Rattle.third_law.specs.Runs.{blocks_seen}

-- The places of each function are there and fit, and take four pairs of registers at most; its frame is small.
pub record FitsThree (f : MidFunction) (at : Places) : Type 0 where
  pub fit : PlacesFit f at
  pub in_pairs : (v pair : ℕ) → PlaceOf at v (Pair pair) → pair ≤ 3
  pub small : f.pairs ≤ 2002

abbrev pub AllFitThree : Mid → List Places → Type 0
AllFitThree mid places = (n : ℕ) (f : MidFunction) → slice_get mid.functions n ≡ Some f → (at : Places) × (slice_get places n ≡ Some at) × FitsThree f at

-- What is done in three streams: a valid program that reads only what was written, whose calls have room, of not too many words, with
-- its variables in places that fit.
pub record Triples (mid : Mid) (places : List Places) : Type 0 where
  pub valid : Valid mid
  pub shallow : Shallow mid
  pub proper : Proper mid
  pub has_words : HasWords mid
  pub fit : AllFitThree mid places
  pub few : words mid ≤ 15728640

-- ---- what holds in each state

-- A word that comes next and is a load or a store of a register of a stream has an address of that stream.
abbrev pub of_stream : Stream → ℕ
of_stream First = 0
of_stream Second = 4
of_stream Third = 8

pub record IsPlaced (s : State) : Type 0 where
  pub loads : (t : Stream) (r : Role) (rs imm : ℕ) → RoleFits r → At s.text s.pc (Lw (reg_in t r) rs imm) → plus (reg s rs) (extended imm) % 16 ≡ of_stream t
  pub stores : (t : Stream) (r : Role) (rs imm : ℕ) → RoleFits r → At s.text s.pc (Sw (reg_in t r) rs imm) → plus (reg s rs) (extended imm) % 16 ≡ of_stream t
  pub returns : (rs : ℕ) → At s.text s.pc (Jr rs) → (a to : ℕ) × At s.text a (Jal to) × (reg s rs ≡ a + 8)
  pub calm : (code at : ℕ) → (step s).0.end ≡ Some (Exception code at) → ⊥

-- At the first word of a vote the three registers of its role are equal.
abbrev pub Agrees : State → Type 0
Agrees s = (r : Role) → RoleFits r → At s.text s.pc (And 1 (reg_in First r) (reg_in Second r)) →
    (reg s (reg_in First r) ≡ reg s (reg_in Second r)) × (reg s (reg_in Second r) ≡ reg s (reg_in Third r))

-- ---- the law

abbrev pub state_after : Mid → List ℕ → List ℕ → ℕ → State
state_after mid text input n = (run (boot_state (third_image mid text) input) None n).state

pub record RunsInThree (mid : Mid) (text : List ℕ) : Type 0 where
  pub same : (input : List ℕ) → AreWords input → SameObserved (observed (boot_state (third_image mid text) input) None) (blocks_seen mid input)
  pub placed : (input : List ℕ) (n : ℕ) → AreWords input → (state_after mid text input n).end ≡ None → IsPlaced (state_after mid text input n)
  pub agrees : (input : List ℕ) (n : ℕ) → AreWords input → (state_after mid text input n).end ≡ None → Agrees (state_after mid text input n)
  pub short : length text ≤ 4 * words mid

-- The words are few, wherever the blocks stand.
abbrev pub FewInThree : Type 0
FewInThree = (mid : Mid) (places : List Places) (at : ℕ → ℕ) → sum (map length (code_at at mid places)) ≤ 4 * words mid

-- Each instruction has a word, where the blocks stand below 0x10000000.
abbrev pub InRangeInThree : Type 0
InRangeInThree = (mid : Mid) (places : List Places) (at : ℕ → ℕ) → Triples mid places → ((b : ℕ) → at b < 2 ^ 28) → All (All IsInRange) (code_at at mid places)

abbrev pub RunInThree : Type 0
RunInThree = (mid : Mid) (places : List Places) → Triples mid places → RunsInThree mid (third_text mid places)
