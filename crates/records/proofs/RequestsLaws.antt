-- What each way through the readers of requests finds is what their definitions say.
use mathlib.Core.Path.{◌≡◌}
use mathlib.Core.List.{List}
use mathlib.Core.Option.{Option, none, some}
use Prim.Native.Nat.{ℕ, ◌<◌, ◌≤◌}
use lib.ListN.{length}
use borrow.Author.Tests.{lt-leb, le-leb, eq-eqb, ne_eqb}
use Rattle.std.specs.Prelude.{Some, None}
use Rattle.rules.specs.Tables.{Request}
use Rattle.rules.specs.KeyTables.{KeyRequest}
use Rattle.records.specs.Parsed.{got, bad, Reader}
use Rattle.records.specs.Requests.{most_request, held_as, whole, request_fields, key_request_fields, read_request, read_key_request}
use Rattle.records.specs.declared.faults.Fault.{Fault}

-- ---- code's answer
module _ {A B : Type 0} (f : A → B) where
  pub held : {p : Option A} {x : A} → p ≡ some x → Some (f x) ≡ held_as f p
  held e = rw e

  pub held_not : {p : Option A} → p ≡ none → None ≡ held_as f p
  held_not e = rw e

-- ---- from the first byte to the last
module _ {A : Type 0} (P : Reader A) (s : List ℕ) where
  pub whole_long : (most : ℕ) → most < length s → whole most P s ≡ none
  whole_long most h = rw (lt-leb (length s) most h)

  pub whole_bad : (most : ℕ) (e : Fault) → length s ≤ most → P s 0 ≡ bad e → whole most P s ≡ none
  whole_bad most e h g = rw (le-leb (length s) most h, g)

  pub whole_more : (most : ℕ) (x : A) (next : ℕ) → length s ≤ most → P s 0 ≡ got x next → (next ≡ length s → ⊥) → whole most P s ≡ none
  whole_more most x next h g n = rw (le-leb (length s) most h, g, ne_eqb next (length s) n)

  pub whole_got : (most : ℕ) (x : A) (next : ℕ) → length s ≤ most → P s 0 ≡ got x next → next ≡ length s → whole most P s ≡ some x
  whole_got most x next h g e = rw (le-leb (length s) most h, g, eq-eqb next (length s) e)

-- ---- a request
module _ (spaces : ℕ) (s : List ℕ) where
  pub request_long : most_request < length s → read_request spaces s ≡ none
  unfolding read_request
  request_long h = whole_long (request_fields spaces) s most_request h

  module _ (h : length s ≤ most_request) where
    pub request_not : (e : Fault) → request_fields spaces s 0 ≡ bad e → read_request spaces s ≡ none
    unfolding read_request
    request_not e g = whole_bad (request_fields spaces) s most_request e h g

    module _ (r : Request) (next : ℕ) (is : request_fields spaces s 0 ≡ got r next) where
      pub request_more : (next ≡ length s → ⊥) → read_request spaces s ≡ none
      unfolding read_request
      request_more q = whole_more (request_fields spaces) s most_request r next h is q

      pub request_found : next ≡ length s → read_request spaces s ≡ some r
      unfolding read_request
      request_found q = whole_got (request_fields spaces) s most_request r next h is q

-- ---- a key request
module _ (s : List ℕ) where
  pub key_request_long : most_request < length s → read_key_request s ≡ none
  unfolding read_key_request
  key_request_long h = whole_long key_request_fields s most_request h

  module _ (h : length s ≤ most_request) where
    pub key_request_not : (e : Fault) → key_request_fields s 0 ≡ bad e → read_key_request s ≡ none
    unfolding read_key_request
    key_request_not e g = whole_bad key_request_fields s most_request e h g

    module _ (r : KeyRequest) (next : ℕ) (is : key_request_fields s 0 ≡ got r next) where
      pub key_request_more : (next ≡ length s → ⊥) → read_key_request s ≡ none
      unfolding read_key_request
      key_request_more q = whole_more key_request_fields s most_request r next h is q

      pub key_request_found : next ≡ length s → read_key_request s ≡ some r
      unfolding read_key_request
      key_request_found q = whole_got key_request_fields s most_request r next h is q
