-- The image of a signed program.
use Rattle.std.proofs.Common.{◌≡◌, ◌≤◌, ◌<◌, ℕ, ◌+◌, ◌*◌, arith, lt_of_lt_of_le, ap, refl, sym, ◌∙◌, subst, List, length, inl, inr}
use Rattle.std.specs.Prelude.{All, None}
use Rattle.hard_runs.proofs.Observed.{same_transitive}
use Rattle.mips_isa.specs.declared.instr.End.{End}
use Rattle.mips_isa.specs.Runs.{observed}
use Rattle.mips_text.specs.Text.{IsText}
use Rattle.mips_text.specs.Blocks as text_blocks
use Rattle.mips_isa.specs.Image.{ImageFields, boot_state}
use Rattle.harden_lint.specs.declared.TypingRow.{TypingRow}
use Rattle.harden_lint.specs.Rows.{AreRows}
use Rattle.harden_lint.specs.Rules.{WellTyped, Breaks, no_instruction, no_head, mixed, unchecked, hazard, outside, unheld, stray_sign, stray_service, bad_slot, BadAt}
use Rattle.hard_items.specs.declared.code.HardProgram.{HardProgram}
use Rattle.hard_items.specs.declared.code.Signed.{Signed}
use Rattle.hard_items.specs.Heads.{headed}
use Rattle.hard_items.specs.Run.{item_run}
use Rattle.hard_items.specs.Counts.{room}
use Rattle.hard_items.specs.Rules.{Guarded}
use Rattle.layout_law.specs.Layout.{words, address, addresses, text}
use Rattle.layout_law.specs.Laws.{Prepared, StartsAreBlocks, TextLength}
use Rattle.layout_law.specs.Typed.{WordsAreTyped}
use Rattle.layout_law.proofs.Texts.{length_text}
use Rattle.lint_words.specs.WindowList.{AreWindows, Before, pair_at}
use Rattle.layout_hardened.specs.Law.{PreparedHasStarts}
use Rattle.layout_facts.specs.Reached.{NoWordIsDead}
use Rattle.mips_text.specs.Turns.{IsTextOf}
use Rattle.layout_law.proofs.Laying.{can_be_laid}
use Rattle.layout_facts.proofs.Decoded.{instrs, text_decoded}
use Rattle.layout_facts.specs.Turning.{TextTurned, TextTurnedThrough}
use Rattle.layout_facts.specs.Counted.{WindowsOnce, WindowsAreFew, ReloadsAreLoads}
use Rattle.alias_lister.specs.Aliases as blocks
use Rattle.layout_hardened.specs.Laws.{image_with, WordsAreHardened, WordsRunAs, WordsHaveWays}
use Rattle.lint_theorem.specs.Hardened.{AreAliases}
use Rattle.layout_moves_law.specs.Smooth.{SmoothWordsHaveNoAlias}
use Rattle.harden.specs.Image.{IsImageOf, IsImageWithin, IsSplitImageOf, most_blocks, most_split_blocks}
use Rattle.harden.specs.HardenChainSteps.{ComesOf, IsOrderedSplit, IsSignedOf, IsImageOfOrdered, IsImageOfSigned, addressed}
use Rattle.harden.proofs.Lists.{text_aliases, pairs_there, lists_none}

-- a text that keeps the rules breaks none
unbroken : (text : List ℕ) (entry a rule : ℕ) → WellTyped text entry → Breaks text entry a rule → ⊥
unbroken text entry a rule w (no_instruction e n) = n (w a).instruction
unbroken text entry a rule w (no_head e n) = n (w a).head
unbroken text entry a rule w (mixed e n) = n (w a).stream
unbroken text entry a rule w (unchecked e n) = n (w a).checked
unbroken text entry a rule w (hazard e n) = n (w a).hazard
unbroken text entry a rule w (outside e n) = n (w a).inside
unbroken text entry a rule w (unheld e n) = n (w a).held
unbroken text entry a rule w (stray_sign e n) = n (w a).signs
unbroken text entry a rule w (stray_service e n) = n (w a).forms
unbroken text entry a rule w (bad_slot e n) = n (w a).slot

pub never_bad : (text : List ℕ) (address rule : ℕ) → WellTyped text 4194304 → BadAt text 4194304 address rule → ⊥
never_bad text address rule w b = unbroken text 4194304 address rule w b.broken

-- the words of a prepared program are a text that keeps the rules
pub text_here : (s : Signed) (t : List ℕ) → Prepared s → t ≡ text (headed s) → IsText t
text_here s t p e = subst (λ (l : List ℕ). length l ≤ 66060288) (sym e) (subst (λ (n : ℕ). n ≤ 66060288) (sym (length_text (headed s))) p.laying.size)

pub typed_here : (s : Signed) (t : List ℕ) → Prepared s → Guarded s.program → t ≡ text (headed s) → WordsAreTyped → WellTyped t 4194304
typed_here s t p g e typed = subst (λ (l : List ℕ). WellTyped l 4194304) (sym e) (typed s p.laying p.signs.one_each g)

pub pairs_here : (s : Signed) (starts : List ℕ) (pairs : List (ℕ × ℕ)) → Prepared s → starts ≡ addresses (headed s) → blocks.AreAliases s pairs → StartsAreBlocks → WordsHaveWays → All (λ p. (p.0 < length starts) × (p.1 < length starts)) pairs
pairs_here s starts pairs p e a at ways = subst (λ (l : List ℕ). All (λ p. (p.0 < length l) × (p.1 < length l)) pairs) (sym e) (pairs_there s p.laying p.signs at ways pairs a)

-- windows that ascend are listed once
once : (t : List ℕ) (ws : List (ℕ × ℕ)) → AreWindows t ws → WindowsOnce t ws
once t ws w = record { near = w.sound; once = λ j k h l e. same (pair_at ws j) (pair_at ws k) e (w.ascending j k h l) }
  where
    less : (n : ℕ) → n < n → ⊥
    less n h = omega arith

    same : (p q : ℕ × ℕ) → p ≡ q → Before p q → ⊥
    same p q e (inl h) = less q.0 (subst (λ (x : ℕ × ℕ). x.0 < q.0) e h)
    same p q e (inr h) = less q.1 (subst (λ (x : ℕ × ℕ). x.1 < q.1) e h.1)

-- the image
pub image_made : (s : Signed) (i : ImageFields) (starts : List ℕ) (pairs windows aliases : List (ℕ × ℕ)) (rows : List TypingRow) (t : List ℕ) → Prepared s → Guarded s.program →
    i ≡ record { entry = 0x00400000; text = t; initial = s.program.initial; memory_words = s.program.memory_words; windows = windows; aliases = aliases } →
    t ≡ text (headed s) → starts ≡ addresses (headed s) → blocks.AreAliases s pairs → AreWindows t windows → AreRows t 4194304 rows → aliases ≡ addressed starts pairs →
    WordsAreHardened → WordsRunAs → WordsHaveWays → StartsAreBlocks → TextLength → WindowsAreFew → NoWordIsDead → PreparedHasStarts → SmoothWordsHaveNoAlias → TextTurned → TextTurnedThrough → ReloadsAreLoads →
    WordsAreTyped → IsImageOfSigned s i
image_made s i starts pairs windows aliases rows t p g e f st a w r al hardened runs ways at long few alive begins no_alias turn through loads keeps = subst (IsImageOfSigned s) (sym (e ∙ whole)) made
  where
    whole : ◌≡◌ {A = ImageFields} (record { entry = 0x00400000; text = t; initial = s.program.initial; memory_words = s.program.memory_words; windows = windows; aliases = aliases }) (image_with s windows aliases)
    whole = ap (λ (l : List ℕ). record { entry = 0x00400000; text = l; initial = s.program.initial; memory_words = s.program.memory_words; windows = windows; aliases = aliases }) f

    listed : aliases ≡ addressed (addresses (headed s)) pairs
    listed = al ∙ ap (λ (l : List ℕ). addressed l pairs) st

    are_aliases : AreAliases (text (headed s)) 0x00400000 aliases
    are_aliases = subst (λ (l : List (ℕ × ℕ)). AreAliases (text (headed s)) 0x00400000 l) (sym listed) (text_aliases s p.laying p.signs at ways pairs a)

    decoded_here : IsTextOf (text (headed s)) (instrs (headed s))
    decoded_here = text_decoded (headed s) (can_be_laid s p.laying)

    made : IsImageOfSigned s (image_with s windows aliases)
    made = record {
      runs = runs s windows aliases p;
      hardened = hardened s rows windows aliases p g (subst (λ (l : List ℕ). AreRows l 4194304 rows) f r) (subst (λ (l : List ℕ). AreWindows l windows) f w) are_aliases;
      entry = refl;
      typed = keeps s p.laying p.signs.one_each g;
      initial = refl;
      memory = refl;
      words = long s p.laying.marks ∙ ap (λ (n : ℕ). words s.program.blocks + 7 * n) p.signs.one_each;
      few_windows = few s windows p.laying g (once (text (headed s)) windows (subst (λ (l : List ℕ). AreWindows l windows) f w));
      no_dead_words = alive s p.laying;
      loads_same = loads s p.laying;
      starts = λ n h. begins s windows aliases n p h;
      no_aliases = λ smooth. let none : (u w : ℕ) → text_blocks.IsAlias (text (headed s)) 0x00400000 u w → ⊥ = no_alias s p.laying p.signs smooth in
          record { none = none; none_listed = lists_none (text (headed s)) 0x00400000 aliases are_aliases none };
      in_turns = λ h k. record {
        instrs = instrs (headed s);
        is_text = decoded_here;
        turned = turn s p.laying p.signs.one_each h (instrs (headed s)) decoded_here;
        turned_through = through s p.laying p.signs.one_each k (instrs (headed s)) decoded_here;
      };
    }

-- of the program in its order that the signed one comes of
pub image_of_ordered : (p : HardProgram) (s : Signed) (i : ImageFields) → IsSignedOf p s → IsImageOfSigned s i → IsImageOfOrdered p i
image_of_ordered p s i g m = record {
  image = record {
    same = λ input w. same_transitive End (observed (boot_state i input) None) (item_run s.program input) (item_run p input) (m.runs.same input w) (g.same_runs input w);
    hardened = m.hardened;
    placed = m.runs.placed;
    unreported = m.runs.unreported;
    entry = m.entry;
    typed = m.typed;
    initial = m.initial ∙ g.initial;
    memory = m.memory ∙ g.memory;
    words = subst (λ (n : ℕ). n ≤ room p) (sym m.words) g.words_within;
    few_windows = m.few_windows;
    no_dead_words = m.no_dead_words;
    in_turns = m.in_turns g.turned g.turned_through;
    loads_same = m.loads_same ∙ g.reloads_same;
    place = address (headed s);
    starts = m.starts (most_blocks p) g.few;
  };
  no_aliases = λ h. m.no_aliases (g.smooth h);
}

within : (a b c : ℕ) → a ≤ b → b ≤ c → a ≤ c
within a b c h k = omega arith

-- and of the program of which that comes
pub image_of_program : (p q : HardProgram) (i : ImageFields) (most most_room : ℕ) → ComesOf p q most most_room → IsImageOf q i → IsImageWithin p i most_room most
image_of_program p q i most most_room g m = record {
  same = λ input w. same_transitive End (observed (boot_state i input) None) (item_run q input) (item_run p input) (m.same input w) (g.same_runs input w);
  hardened = m.hardened;
  placed = m.placed;
  unreported = m.unreported;
  entry = m.entry;
  typed = m.typed;
  initial = m.initial ∙ g.initial;
  memory = m.memory ∙ g.memory;
  words = within (length i.text) (room q) most_room m.words g.room_within;
  few_windows = m.few_windows;
  no_dead_words = m.no_dead_words;
  in_turns = m.in_turns;
  loads_same = m.loads_same ∙ g.reloads_same;
  place = m.place;
  starts = record {
    start = λ w h. let b : (b : ℕ) × (b < most_blocks q) × (w ≡ m.place b) = m.starts.start w h in (b.0, lt_of_lt_of_le b.1 g.few, b.2);
    in_text = m.starts.in_text;
  };
}

-- the premises of its image
pub few_enough : (p q : HardProgram) (most most_room : ℕ) → ComesOf p q most most_room → most ≤ 65535 → most_blocks q ≤ 65535
few_enough p q most most_room g h = within (most_blocks q) most 65535 g.few h

pub room_enough : (p q : HardProgram) (most most_room : ℕ) → ComesOf p q most most_room → most_room ≤ 66060288 → room q ≤ 66060288
room_enough p q most most_room g h = within (room q) most_room 66060288 g.room_within h

pub split_image : (p q : HardProgram) (i : ImageFields) → IsOrderedSplit p q → IsImageOfOrdered q i → IsSplitImageOf p i
split_image p q i g m = record { within = image_of_program p q i (most_split_blocks p) (room p + 45 * length p.blocks) g.comes m.image; no_aliases = m.no_aliases g.smooth }
