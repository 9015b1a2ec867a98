-- How code fills a sheet: the entries and their order, as they stand so far.
use Rattle.std.specs.Prelude.{◌≡◌, Option, Bool, true, false, List, ℕ, ◌+◌, ◌<◌, ◌≤◌, length, take, drop}
use Rattle.rules.specs.Lists.{At}
use Rattle.rules.specs.Tables.{Binding, NameTable}
use Rattle.rules.specs.Sheets.{entry, Exact}
use Rattle.rules.specs.Following.{InSheet, TargetLeads}
use Rattle.rules.specs.Filling.{Filling, AtRest}
use Rattle.rules.specs.Rounds.{empty}
use Rattle.rules.specs.declared.Key.{Key}
use Rattle.sheet.specs.Finds.{Finds}
use Rattle.sheet.specs.Walks.{Stopped, Walks}
use Rattle.sheet.specs.declared.following.Walked.{Walked}

-- Where the target of binding number `i` leads.
pub record Opening (t : NameTable) (sheet : List ℕ) (i : ℕ) (r : Walked) : Type 0 where
  pub walks : (x : Binding) → At t.bindings i x → Walks t sheet x.target r

-- What is found of binding number `i`: the key that its target leads to, if any.
pub record Leading (t : NameTable) (sheet : List ℕ) (i : ℕ) (r : Option Key) : Type 0 where
  pub finds : (x : Binding) → At t.bindings i x → Finds (TargetLeads t (InSheet t sheet) x.target) r

-- The first `n` of the order list the filled entries, of a sheet with one entry per binding.
pub record Listing (t : NameTable) (sheet order : List ℕ) (n : ℕ) : Type 0 where
  pub size : length sheet ≡ length t.bindings
  pub room : length t.bindings ≤ length order
  pub counted : n + empty sheet ≡ length sheet
  pub filling : Filling t sheet (take n order)

-- What the bindings wait for: 0 is not known yet, and `j + 1` says that the target leads to no key while entry `j` is 0.
pub record Waiting (t : NameTable) (sheet waits : List ℕ) : Type 0 where
  pub room : length t.bindings ≤ length waits
  pub there : (i : ℕ) → i < length t.bindings → entry waits i ≤ length t.bindings
  pub stops : (i j : ℕ) (x : Binding) → At t.bindings i x → entry waits i ≡ j + 1 → Stopped t sheet x.target j

-- Whether binding number `i` need not be opened: its entry is filled, or waits for one that is still 0.
pub data Rests (sheet waits : List ℕ) (i : ℕ) : Bool → Type 0 where
  filled : (entry sheet i ≡ 0 → ⊥) → Rests sheet waits i true
  waiting : (j : ℕ) → entry waits i ≡ j + 1 → entry sheet j ≡ 0 → Rests sheet waits i true
  due : entry sheet i ≡ 0 → Rests sheet waits i false

-- Entry `i` could not be filled.
pub record Quiet (t : NameTable) (sheet : List ℕ) (i : ℕ) : Type 0 where
  pub quiet : (x : Binding) (k : Key) → At t.bindings i x → entry sheet i ≡ 0 → TargetLeads t (InSheet t sheet) x.target k → ⊥

-- One more entry is filled, or entry `i` could not be, and all is as it was.
pub data Turn (t : NameTable) (i : ℕ) (before sheet : List ℕ) (n : ℕ) : ℕ → Type 0 where
  more : Turn t i before sheet n (n + 1)
  same : sheet ≡ before → Quiet t sheet i → Turn t i before sheet n n

-- A round over the first `i` bindings, from `listed` on: if it listed no more, none of them could be filled.
pub record Round (t : NameTable) (listed : ℕ) (sheet order : List ℕ) (i n : ℕ) : Type 0 where
  pub listing : Listing t sheet order n
  pub more : listed ≤ n
  pub quiet : n ≡ listed → (j : ℕ) → j < i → Quiet t sheet j

-- THE SHEET: its first entries, one per binding, are exact, and those past them as they were; and the first `n` of the order list, in an order in which each
-- binding's target gets its meaning from those before it, every binding that means a key.
pub record Filled (t : NameTable) (before sheet order : List ℕ) (n : ℕ) : Type 0 where
  pub exact : Exact t sheet
  pub past : drop (length t.bindings) sheet ≡ drop (length t.bindings) before
  pub few : n ≤ length t.bindings
  pub filling : Filling t sheet (take n order)
  pub at_rest : AtRest t sheet
