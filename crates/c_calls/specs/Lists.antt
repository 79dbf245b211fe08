-- Lists of names under names: what holds of them while they are filled, for private contracts alone, and where they lead.
use Rattle.std.specs.Prelude.{◌≡◌, ◌≢◌, ℕ, ◌<◌, ◌≤◌, List, [], length, slice_index_or, All, Contains}

-- there is a list under each name of each list
abbrev pub IsClosed : List (List ℕ) → Type 0
IsClosed lists = All (All (λ name. name < length lists)) lists

-- there may be more lists, which are empty
pub record Grown (old new : List (List ℕ)) : Type 0 where
  pub longer : length old ≤ length new
  pub same : (name : ℕ) → slice_index_or new name [] ≡ slice_index_or old name []
  pub closed : IsClosed old → IsClosed new

-- there may be more lists, and the one under this name is this one
pub record Put (name : ℕ) (calls : List ℕ) (old new : List (List ℕ)) : Type 0 where
  pub here : slice_index_or new name [] ≡ calls
  pub others : (k : ℕ) → k ≢ name → slice_index_or new k [] ≡ slice_index_or old k []
  pub closed : IsClosed old → IsClosed new

-- a chain of lists leads from one name to another
pub data Leads (lists : List (List ℕ)) : ℕ → ℕ → Type 0 where
  direct : {from to : ℕ} → Contains (slice_index_or lists from []) to → Leads lists from to
  through : {from to : ℕ} (name : ℕ) → Contains (slice_index_or lists from []) name → Leads lists name to → Leads lists from to
