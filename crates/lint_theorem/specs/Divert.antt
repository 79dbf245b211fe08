-- What a well typed text promises of its starts and heads, and of a run in which one branch or jump is led elsewhere.
-- The theorems are the project's own.
use Rattle.std.specs.Prelude.{◌≡◌, ◌≤◌, ◌<◌, ℕ, ◌+◌, true, None, List, ◌⊎◌}
use Rattle.mips_isa.specs.declared.instr.Instr.{Instr}
use Rattle.mips_isa.specs.Machine.{reg, is_jump}
use Rattle.mips_isa.specs.Image.{ImageFields}
use Rattle.mips_text.specs.Text.{IsText, InText, At}
use Rattle.mips_text.specs.Blocks.{IsStart, InSpan, Succ, IsAlias, Head, HeadAt}
use Rattle.mips_faults.specs.Faults.{image_run, Caught, PlacedFor, UnreportedFor}
use Rattle.harden_lint.specs.Rules.{WellTyped}

-- The starts of a well typed text stand in the text, and each has one head.
abbrev pub StartsInside : Type 0
StartsInside = (text : List ℕ) (entry u : ℕ) → WellTyped text entry → IsStart text entry u → InText text u

abbrev pub OneHead : Type 0
OneHead = (text : List ℕ) (u : ℕ) (g h : Head) → HeadAt text u g → HeadAt text u h → (g.s ≡ h.s) × (g.d ≡ h.d) × (g.fan ≡ h.fan) × (g.D ≡ h.D)

-- The heads of two starts have no word in common.
abbrev pub HeadsApart : Type 0
HeadsApart = (text : List ℕ) (entry u v : ℕ) → WellTyped text entry → IsStart text entry u → IsStart text entry v → u < v → u + 28 ≤ v

-- A word is in the span of at most one start.
abbrev pub SpansApart : Type 0
SpansApart = (text : List ℕ) (entry u v a : ℕ) → InSpan text entry u a → InSpan text entry v a → u ≡ v

-- Of a well typed text whose run is placed and does not report in its first N steps: a branch or jump of the block at u that is led
-- to another start w, neither a successor of u nor an alias, is caught, where the three steps with which the head of u
-- would report are among these.
abbrev pub CatchesWithin : Type 0
CatchesWithin = (i : ImageFields) (input : List ℕ) (N : ℕ) → IsText i.text → WellTyped i.text i.entry → PlacedFor i input N → UnreportedFor i input N →
    (n u w : ℕ) (jump : Instr) → n + 3 ≤ N → (image_run i input None n).state.end ≡ None → At i.text (image_run i input None n).state.pc jump →
    is_jump jump ≡ true → InSpan i.text i.entry u (image_run i input None n).state.pc → IsStart i.text i.entry w → (Succ i.text i.entry u w → ⊥) →
    (IsAlias i.text i.entry u w → ⊥) → Caught i input n w

-- Behind the head of its block a branch or jump is caught whatever the clean run does next.
abbrev pub CatchesBehind : Type 0
CatchesBehind = (i : ImageFields) (input : List ℕ) (n : ℕ) → IsText i.text → WellTyped i.text i.entry → PlacedFor i input n →
    (u w : ℕ) (jump : Instr) → (image_run i input None n).state.end ≡ None → At i.text (image_run i input None n).state.pc jump → is_jump jump ≡ true →
    InSpan i.text i.entry u (image_run i input None n).state.pc → u + 28 ≤ (image_run i input None n).state.pc → IsStart i.text i.entry w →
    (Succ i.text i.entry u w → ⊥) → (IsAlias i.text i.entry u w → ⊥) → Caught i input n w

-- Of a well typed text whose run is placed in its first N steps: behind the head of its block the signature registers hold the
-- block's numbers.
abbrev pub KeepsNumbers : Type 0
KeepsNumbers = (i : ImageFields) (input : List ℕ) (n : ℕ) → IsText i.text → WellTyped i.text i.entry → PlacedFor i input n →
    (image_run i input None n).state.end ≡ None → (u : ℕ) (h : Head) → InSpan i.text i.entry u (image_run i input None n).state.pc →
    HeadAt i.text u h → u + 28 ≤ (image_run i input None n).state.pc →
    (reg (image_run i input None n).state 24 ≡ h.s) × (reg (image_run i input None n).state 28 ≡ h.D)

-- And it enters each block at its start: a word of a block is its start, or the word before was of the same block.
abbrev pub EntersAtStart : Type 0
EntersAtStart = (i : ImageFields) (input : List ℕ) (n : ℕ) → IsText i.text → WellTyped i.text i.entry → PlacedFor i input (n + 1) →
    (image_run i input None (n + 1)).state.end ≡ None → (u : ℕ) → InSpan i.text i.entry u (image_run i input None (n + 1)).state.pc →
    ((image_run i input None (n + 1)).state.pc ≡ u) ⊎ InSpan i.text i.entry u (image_run i input None n).state.pc
