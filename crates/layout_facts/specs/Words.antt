-- The aliases of a text by its addresses, from those of the signed program by its blocks; and its signatures.
use Rattle.std.specs.Prelude.{◌≡◌, ◌≢◌, ◌<◌, ◌↔◌, ℕ, List, length, map}
use Rattle.std.specs.List.{Contains}
use Rattle.mips_text.specs.Blocks as words
use Rattle.hard_items.specs.declared.code.Signed.{Signed}
use Rattle.hard_items.specs.Heads.{headed}
use Rattle.sign_law.specs.Marks.{HasSigns}
use Rattle.layout_law.specs.Layout.{address, text}
use Rattle.layout_law.specs.Level.{Laying}
use Rattle.alias_lister.specs.Aliases.{AreAliases, Before, pair_at}

-- The pairs are exactly the aliases of the text, ascending and each once. Of each the second is linked to a block that follows the first.
pub record AreWordAliases (text : List ℕ) (entry : ℕ) (pairs : List (ℕ × ℕ)) : Type 0 where
  pub exact : (a b : ℕ) → Contains pairs (a, b) ↔ words.IsAlias text entry a b
  pub ascending : (j k : ℕ) → j < k → k < length pairs → Before (pair_at pairs j) (pair_at pairs k)
  pub linked : (a b : ℕ) → Contains pairs (a, b) → (v : ℕ) × (words.Succ text entry a v × words.Linked text entry v b)

-- The addresses of two blocks.
abbrev pub addresses_of : Signed → ℕ × ℕ → ℕ × ℕ
addresses_of s p = (address (headed s) p.0, address (headed s) p.1)

-- The aliases by blocks are those of the words, with addresses in place of numbers.
abbrev pub AliasesOfWords : Type 0
AliasesOfWords = (s : Signed) (pairs : List (ℕ × ℕ)) → Laying s → HasSigns s → AreAliases s pairs →
    AreWordAliases (text (headed s)) 0x00400000 (map (addresses_of s) pairs)

-- In the words the signatures of different blocks differ, and none is 0.
abbrev pub SignsOfWords : Type 0
SignsOfWords = (s : Signed) → Laying s → HasSigns s → (a b : ℕ) (g h : words.Head) → words.IsStart (text (headed s)) 0x00400000 a →
    words.IsStart (text (headed s)) 0x00400000 b → words.HeadAt (text (headed s)) a g → words.HeadAt (text (headed s)) b h → (g.s ≢ 0) × (g.s ≡ h.s → a ≡ b)
