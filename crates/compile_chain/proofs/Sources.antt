-- What is promised of the source of an image, and why a source is refused.
use Rattle.std.proofs.Common.{◌≡◌, ℕ, ◌+◌, ◌*◌, ◌≤◌, arith, le_trans, refl, List, [], ◌∷◌, length}
use Rattle.std.specs.Prelude.{Ok, Err, map, sum}
use Rattle.c_syntax.specs.Sizes.{program_nodes}
use Rattle.mips_isa.specs.Image.{ImageFields}
use Rattle.c_lexer.specs.declared.token.Token.{Token}
use Rattle.c_lexer.specs.declared.error.LexError.{LexError}
use Rattle.c_lexer.specs.declared.error.LexError.TheVariants as lexer
use Rattle.c_lexer.specs.Tokens.{Tokens, ArePlaced}
use Rattle.c_lexer.specs.Order.{InOrder}
use Rattle.check_rules.specs.Limits.{Resolved, resolved_names}
use Rattle.check_law.specs.Again.{NodesStay}
use Rattle.check_rules.specs.Leaf.{IsLightLeaf}
use Rattle.check_law.specs.Leaf.{StaysLight}
use Rattle.mid_blocks.specs.Leaf.{IsOneLeaf}
use Rattle.check_law.specs.Laws.{StaysLabelled}
use Rattle.c_parser.specs.Laws.{ParsedIsLabelled}
use Rattle.c_syntax.specs.Labels.{bare_clauses}
use Rattle.c_syntax.specs.Graph.{with_bodies}
use Rattle.check_rules.specs.Resolution.{IsChecked}
use Rattle.compile_chain.specs.Law.{LoweredIsHardened, LoweredIsSmall}
use Rattle.mid_blocks.specs.declared.code.Mid.{Mid}
use Rattle.mid_blocks.specs.Size.{words, block_count, branch_count}
use Rattle.compile_chain.proofs.Starts.{at_most}
use Rattle.compile_rules.specs.Hardened.{Hardened}
use Rattle.lower_rules.specs.Lowered.{IsLowered}
use Rattle.harden.specs.Blocks.{IsReady, IsImageOfBlocksWithin}
use Rattle.compile_rules.specs.declared.refusal.Refusal.{Refusal}
use Rattle.compile_rules.specs.declared.refusal.Refusal.TheVariants.{TooLong, Lex, Parse, Check, OutOfMemory}
use Rattle.compile_rules.specs.Refusals.{lexer_refusal}
use Rattle.compile_chain.specs.Parts.{IsCheckedTokens, IsImageOfChecked, IsSplitImageOfChecked, RefusesTokens}
use Rattle.compile_rules.specs.Compiled.{IsAccepted, IsCheckedSource, IsNotCompiled, Compiles, CompilesWithin, CompilesSplit}
use Rattle.compile_rules.proofs.Exclusive.{both}

-- tokens are no more than the bytes behind each other's ends
pub placed_length : (ts : List Token) (from end : ℕ) → ArePlaced from ts end → from + length ts ≤ end
placed_length [] from end h = omega (arith, h)
placed_length (t ∷ ts) from end h = omega (arith, placed_length ts (t.at + t.length) end h.2, h.0, h.1)

-- tokens that are placed are in order for the parser
pub in_order : (ts : List Token) (from end : ℕ) → end ≤ 1048576 → ArePlaced from ts end → InOrder from ts
in_order [] from end short h = omega (arith, h, short)
in_order (t ∷ ts) from end short h = (h.0, h.1, in_order ts (t.at + t.length) end short h.2)

-- the checked program of a source whose tokens are a program without fault
pub checked_of : (source : List ℕ) (tokens : List Token) (c : Resolved) → length source ≤ 1048576 → Tokens source (Ok tokens) → ArePlaced 0 tokens (length source)
    → IsCheckedTokens tokens c → IsCheckedSource source c
checked_of source tokens c short lexed placed of = record {
  short = short;
  program = of.program;
  is_source = record { tokens = tokens; lexed = lexed; tree = of.tree; shallow = of.shallow };
  shaped = of.shaped;
  few_nodes = omega (arith, of.few, placed_length tokens 0 (length source) placed);
  is_checked = of.is_checked;
}

-- what the checked program of a source is lowered to comes to at most 60 words for each byte of the source
few_words : (source : List ℕ) (c : Resolved) (mid : Mid) → NodesStay → IsCheckedSource source c → IsLowered c mid → words mid ≤ 60 * length source
few_words source c mid stays is of = by (words mid) (program_nodes c.program) (program_nodes is.program) (length source) of.few_words (stays is.program c is.shaped is.is_checked) is.few_nodes
  where
    by : (w n m l : ℕ) → w ≤ 60 * n → n ≡ m → m ≤ l → w ≤ 60 * l
    by w n m l h e k = omega (arith, h, e, k)

-- what the compiler promises of an image of what that is lowered to
compiles_within : (source : List ℕ) (c : Resolved) (fields : ImageFields) (mid : Mid) (most_words most_starts m n : ℕ) → LoweredIsHardened → NodesStay → StaysLight → IsCheckedSource source c → IsLowered c mid →
    (IsLightLeaf (resolved_names c) c.program → IsOneLeaf mid) → IsImageOfBlocksWithin mid fields most_words most_starts → (words mid ≤ 60 * length source → most_words ≤ m) → most_starts ≤ n → CompilesWithin source fields m n
compiles_within source c fields mid most_words most_starts m n hardens stays light is of leaf image small few =
    let law : Hardened is.program fields × (fields.memory_words ≤ 65536) = hardens is.program c mid fields is.shaped is.is_checked of (record { same = image.same; hardened = image.hardened; placed = image.placed; memory = image.memory }) in
    record {
      program = is.program;
      is_source = is.is_source;
      hardened = law.0;
      entry = image.entry;
      typed = image.typed;
      words = le_trans image.words (small (few_words source c mid stays is of));
      memory = law.1;
      fits = image.fits;
      few_windows = image.few_windows;
      few_starts = at_most fields.text fields.entry most_starts n few image.few_starts;
      no_dead_words = image.no_dead_words;
      in_turns = image.in_turns;
      few_loads = λ h. image.few_loads (leaf (light is.program c is.shaped is.is_checked h));
    }

pub compiles : (source : List ℕ) (c : Resolved) (fields : ImageFields) → LoweredIsHardened → NodesStay → StaysLight → IsCheckedSource source c → IsImageOfChecked c fields → Compiles source fields
compiles source c fields hardens stays light is of =
    compiles_within source c fields of.mid (words of.mid) (block_count of.mid + branch_count of.mid + 2) (60 * length source) 16000 hardens stays light is of.lowered of.leaf of.image (λ h. h) of.lowered.few_blocks

pub compiles_split : (source : List ℕ) (c : Resolved) (fields : ImageFields) → LoweredIsHardened → NodesStay → StaysLight → IsCheckedSource source c → IsSplitImageOfChecked c fields → CompilesSplit source fields
compiles_split source c fields hardens stays light is of = record {
  compiles = compiles_within source c fields of.mid (words of.mid + 45 * (block_count of.mid + 2)) (3 * (block_count of.mid + branch_count of.mid + 2)) (60 * length source + 720000) 48000 hardens stays light is of.lowered of.leaf of.image.within
      (λ h. more (words of.mid) (60 * length source) (block_count of.mid) (branch_count of.mid) h of.lowered.few_blocks) (times (block_count of.mid + branch_count of.mid + 2) of.lowered.few_blocks);
  no_aliases = of.image.no_aliases.none_listed;
  no_alias = of.image.no_aliases.none;
}
  where
    more : (w m b n : ℕ) → w ≤ m → b + n + 2 ≤ 16000 → w + 45 * (b + 2) ≤ m + 720000
    more w m b n h k = omega (arith, h, k)

    times : (n : ℕ) → n ≤ 16000 → 3 * n ≤ 48000
    times n h = omega (arith, h)

-- what a checked program is lowered to is ready for the passes over blocks
pub ready : (c : Resolved) (mid : Mid) → LoweredIsSmall → IsChecked c → IsLowered c mid → IsReady mid
ready c mid small is of = record {
  valid = of.valid;
  shallow = of.shallow;
  proper = of.proper;
  has_words = of.has_words;
  few_words = small c mid is of;
  few_blocks = of.few_blocks;
}

-- no clause of a `switch` in the checked program of a source is without a label
pub labelled : (source : List ℕ) (c : Resolved) → ParsedIsLabelled → StaysLabelled → IsCheckedSource source c → sum (map bare_clauses (with_bodies c.program.items)) ≡ 0
labelled source c parsed stays is = stays is.program c is.is_checked (parsed is.is_source.tokens is.program is.is_source.tree)

-- ---- refusals

-- a fault of the tokens refuses the source
pub lex_refused : (source : List ℕ) (e : LexError) → length source ≤ 1048576 → ((e ≡ lexer.OutOfMemory → ⊥) → Tokens source (Err e)) → IsNotCompiled source (lexer_refusal e)
lex_refused source (lexer.BadToken at) short fault = (short, fault (λ h. cc))
lex_refused source (lexer.LiteralTooLarge at) short fault = (short, fault (λ h. cc))
lex_refused source (lexer.CommentOpen at) short fault = (short, fault (λ h. cc))
lex_refused source lexer.OutOfMemory short fault = tt

-- what refuses the tokens refuses the source
pub tokens_refused : (source : List ℕ) (tokens : List Token) (refusal : Refusal) → length source ≤ 1048576 → Tokens source (Ok tokens) → RefusesTokens tokens refusal → IsNotCompiled source refusal
tokens_refused source tokens TooLong short lexed refused = absurd refused
tokens_refused source tokens (Lex e) short lexed refused = absurd refused
tokens_refused source tokens (Parse e) short lexed refused = (short, (tokens, (lexed, refused)))
tokens_refused source tokens (Check e) short lexed (program, tree, shallow, fault) = (short, (program, (record { tokens = tokens; lexed = lexed; tree = tree; shallow = shallow }, fault)))
tokens_refused source tokens OutOfMemory short lexed refused = tt

-- of an accepted source only memory can be wanting
pub only_memory : (source : List ℕ) (refusal : Refusal) → IsAccepted source → IsNotCompiled source refusal → refusal ≡ OutOfMemory
only_memory source TooLong accepted refused = absurd (both source TooLong refused accepted)
only_memory source (Lex e) accepted refused = absurd (both source (Lex e) refused accepted)
only_memory source (Parse e) accepted refused = absurd (both source (Parse e) refused accepted)
only_memory source (Check e) accepted refused = absurd (both source (Check e) refused accepted)
only_memory source OutOfMemory accepted refused = refl
