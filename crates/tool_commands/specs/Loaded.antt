-- For private contracts alone: what was read of the files of a run.
use Rattle.std.specs.Prelude.{ℕ, List}
use Rattle.elf_image.specs.Layout.{fields_of}
use Rattle.hard_words.specs.declared.Change.{Change}
use Rattle.tool_commands.specs.declared.run_file.Loaded.{Loaded}
use Rattle.tool_outcomes.specs.Files.{Held, Holds, IsRunnable, IsInput, IsFault}

-- The image and the words are those under two names.
abbrev pub IsLoaded : Held → (image input : List ℕ) → Loaded → Type 0
IsLoaded held image input loaded =
    Holds held image (λ bytes. IsRunnable bytes (fields_of loaded.image)) × Holds held input (λ text. IsInput text loaded.feed.items)

-- And the change is that under a third.
abbrev pub IsChanged : Held → (image input fault : List ℕ) → Loaded × Change → Type 0
IsChanged held image input fault both = IsLoaded held image input both.0 × Holds held fault (λ text. IsFault text both.1)
