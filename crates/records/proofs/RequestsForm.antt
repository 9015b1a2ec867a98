-- Requests and key requests have one form: what was encoded is read, and what is read is its encoding.
use mathlib.Core.Path.{◌≡◌, refl, sym, ◌∙◌, ap, ap₂}
use mathlib.Core.Bool.{Bool, true, false}
use mathlib.Core.Logic.{◌↔◌}
use mathlib.Core.List.{List, [], ◌∷◌, ◌++◌, append-nil}
use mathlib.Core.Option.{none, some}
use Prim.Native.Nat.{ℕ, ◌+◌, ◌*◌, ◌≤◌, ◌<◌, ◌^◌}
use native.Mathlib.Nat.{le_refl}
use native.Mathlib.Omega.{arith}
use lib.Dec.{eqb, leb}
use lib.ListN.{length, length-append, drop_of_length-le}
use borrow.Author.Tests.{leb-true, eqb-true}
use Rattle.rules.specs.Choice.{pick}
use Rattle.rules.specs.Ranges.{GoodKey, GoodTarget, GoodRequest, GoodKeyRequest}
use Rattle.rules.specs.Tables.{Path, Target, to_key, to_name, Request}
use Rattle.rules.specs.KeyTables.{KeyRequest}
use Rattle.wire.specs.Number.{bytes_of, Bytes}
use Rattle.wire.proofs.NumberLaws.{bytes_short}
use Rattle.records.specs.Parsed.{Parsed, got, bad, Reader}
use Rattle.records.specs.Fields.{space_field, key_field, use_fields}
use Rattle.records.specs.Paths.{names_bytes}
use Rattle.records.specs.Targets.{target_field, target_bytes}
use Rattle.records.specs.Requests.{most_request, ended, whole, request_fields, key_request_fields, read_request, read_key_request, request_bytes, key_request_bytes}
use Rattle.records.proofs.FormatLaws.{Walks, Stood, Format, refit, mapped_walks, mapped_format, both_walks, both_format}
use Rattle.records.proofs.FieldsForm.{space_walks, space_format, key_walks, key_format, use_walks, GoodUse, use_format}
use Rattle.records.proofs.PathsForm.{target_walks, target_format}
use Rattle.records.proofs.RequestsLaws.{whole_got}

-- ---- from the first byte to the last
pub whole_stood : {A : Type 0} (Fit : A → Type 0) (E : A → List ℕ) (s : List ℕ) (x : A) → Stood Fit E x s 0 (length s) → (s ≡ E x) × Fit x
whole_stood Fit E s x w = (w.bytes ∙ ap (λ (l : List ℕ). E x ++ l) (drop_of_length-le s (le_refl (length s))) ∙ append-nil (E x), w.fit)

module _ {A : Type 0} (most : ℕ) (P : Reader A) where
  pub whole_form : (s : List ℕ) (x : A) → whole most P s ≡ some x → (length s ≤ most) × (P s 0 ≡ got x (length s))
  whole_form s x = long (leb (length s) most) refl (P s 0)
    where
      long : (b : Bool) → leb (length s) most ≡ b → (p : Parsed A) → pick b (ended s p) none ≡ some x → (length s ≤ most) × (p ≡ got x (length s))
      long false q p e = let z : ◌≡◌ {A = ℕ} 0 1 = cc in absurd (omega arith)
      long true q (bad f) e = let z : ◌≡◌ {A = ℕ} 0 1 = cc in absurd (omega arith)
      long true q (got y at) e = more (eqb at (length s)) refl e
        where
          more : (c : Bool) → eqb at (length s) ≡ c → pick c (some y) none ≡ some x → (length s ≤ most) × (got y at ≡ got x (length s))
          more false r e = let z : ◌≡◌ {A = ℕ} 0 1 = cc in absurd (omega arith)
          more true r e = let u : y ≡ x = cc in let v : at ≡ length s = eqb-true at (length s) r in (leb-true (length s) most q, ap₂ {C = Parsed A} (λ (z : A) (n : ℕ). got z n) u v)

  module _ (Fit : A → Type 0) (E : A → List ℕ) (p : Format Fit P E) where
    -- The bytes of what fits read as it.
    pub whole_reads : (x : A) → Fit x → length (E x) ≤ most → whole most P (E x) ≡ some x
    whole_reads x fit h = whole_got P (E x) most x (0 + length (E x)) h (p.reads x (E x) 0 [] fit (sym (append-nil (E x)))) (omega arith)

    -- What is read fits, and its bytes are all that stands there.
    pub whole_one : (s : List ℕ) (x : A) → Bytes s → whole most P s ≡ some x → (s ≡ E x) × Fit x
    whole_one s x b e = whole_stood Fit E s x (p.form x s 0 (length s) b (whole_form s x e).1)

-- ---- how long they are
length_four : (a b c d : List ℕ) → length (a ++ (b ++ (c ++ d))) ≡ length a + length b + length c + length d
length_four a b c d = omega (arith, length-append a (b ++ (c ++ d)), length-append b (c ++ d), length-append c d)

names_short : (p : Path) → length (names_bytes p) ≤ 5 * length p
unfolding names_bytes
names_short [] = omega arith
names_short (b ∷ p) = omega (arith, names_short p, bytes_short b, length-append (bytes_of b) (names_bytes p))

-- A target takes 35 bytes at most.
pub target_short : (spaces : ℕ) (g : Target) → GoodTarget spaces g → length (target_bytes g) ≤ 35
target_short spaces (to_key k) h = omega (arith, bytes_short 0, bytes_short k.0, length-append (bytes_of 0) (bytes_of k.0))
target_short spaces (to_name S p) h =
    omega (arith, bytes_short 1, bytes_short S.0, bytes_short (length p), names_short p, h.1.short, length_four (bytes_of 1) (bytes_of S.0) (bytes_of (length p)) (names_bytes p))

-- ---- a request
pub request_walks : (spaces : ℕ) → Walks (request_fields spaces)
unfolding request_fields
request_walks spaces = mapped_walks _ _ (both_walks (target_field spaces) _ (target_walks spaces) (both_walks (space_field spaces) use_fields (space_walks spaces) use_walks))

pub request_format : (spaces : ℕ) → spaces ≤ 2 ^ 32 → Format (GoodRequest spaces) (request_fields spaces) request_bytes
unfolding request_fields
request_format spaces few =
    refit _ (GoodRequest spaces) (request_fields spaces) request_bytes same
    (mapped_format _ _ _ _ (λ (r : Request). (r.subject, (r.asked.owner, (r.asked.object, r.asked.right)))) (λ r. Unit {0}) (λ w. tt) (λ w. refl) (λ r u. refl)
    (both_format (target_field spaces) _ _ _ _ _ (target_format spaces few) (both_format (space_field spaces) use_fields _ _ _ _ (space_format spaces few) use_format)))
  where
    same : (r : Request) → ((GoodTarget spaces r.subject × ((r.asked.owner.0 < spaces) × GoodUse (r.asked.object, r.asked.right))) × Unit {0}) ↔ GoodRequest spaces r
    same r = (
      λ w. record { subject = w.0.0; owner = w.0.1.0; object = w.0.1.1.0.most; right = w.0.1.1.1 },
      λ g. ((g.subject, (g.owner, (record { least = omega arith; most = g.object }, g.right))), tt),
    )

-- Reading what was encoded gives it back.
pub request_reads : (spaces : ℕ) → spaces ≤ 2 ^ 32 → (r : Request) → GoodRequest spaces r → read_request spaces (request_bytes r) ≡ some r
unfolding read_request
request_reads spaces few r g =
    let q = r.asked in
    whole_reads most_request (request_fields spaces) (GoodRequest spaces) request_bytes (request_format spaces few) r g
    (omega (
      arith,
      length_four (target_bytes r.subject) (bytes_of q.owner.0) (bytes_of q.object) (bytes_of q.right),
      target_short spaces r.subject g.subject,
      bytes_short q.owner.0,
      bytes_short q.object,
      bytes_short q.right,
    ))

-- What reads as good is the encoding of what was read.
pub request_form : (spaces : ℕ) → spaces ≤ 2 ^ 32 → (s : List ℕ) (r : Request) → Bytes s → read_request spaces s ≡ some r → (s ≡ request_bytes r) × GoodRequest spaces r
unfolding read_request
request_form spaces few = whole_one most_request (request_fields spaces) (GoodRequest spaces) request_bytes (request_format spaces few)

-- ---- a key request
pub key_request_walks : Walks key_request_fields
unfolding key_request_fields
key_request_walks = mapped_walks _ _ (both_walks key_field _ key_walks (both_walks key_field use_fields key_walks use_walks))

pub key_request_format : Format GoodKeyRequest key_request_fields key_request_bytes
unfolding key_request_fields
key_request_format =
    refit _ GoodKeyRequest key_request_fields key_request_bytes same
    (mapped_format _ _ _ _ (λ (r : KeyRequest). (r.subject, (r.asked.owner, (r.asked.object, r.asked.right)))) (λ r. Unit {0}) (λ w. tt) (λ w. refl) (λ r u. refl)
    (both_format key_field _ _ _ _ _ key_format (both_format key_field use_fields _ _ _ _ key_format use_format)))
  where
    same : (r : KeyRequest) → ((GoodKey r.subject × (GoodKey r.asked.owner × GoodUse (r.asked.object, r.asked.right))) × Unit {0}) ↔ GoodKeyRequest r
    same r = (
      λ w. record { subject = w.0.0; owner = w.0.1.0; object = w.0.1.1.0.most; right = w.0.1.1.1 },
      λ g. ((g.subject, (g.owner, (record { least = omega arith; most = g.object }, g.right))), tt),
    )

pub key_request_reads : (r : KeyRequest) → GoodKeyRequest r → read_key_request (key_request_bytes r) ≡ some r
unfolding read_key_request
key_request_reads r g =
    let q = r.asked in
    whole_reads most_request key_request_fields GoodKeyRequest key_request_bytes key_request_format r g
    (omega (
      arith,
      length_four (bytes_of r.subject.0) (bytes_of q.owner.0) (bytes_of q.object) (bytes_of q.right),
      bytes_short r.subject.0,
      bytes_short q.owner.0,
      bytes_short q.object,
      bytes_short q.right,
    ))

pub key_request_form : (s : List ℕ) (r : KeyRequest) → Bytes s → read_key_request s ≡ some r → (s ≡ key_request_bytes r) × GoodKeyRequest r
unfolding read_key_request
key_request_form = whole_one most_request key_request_fields GoodKeyRequest key_request_bytes key_request_format
