-- What each way through the readers of derivations finds is what their definitions say.
use mathlib.Core.Path.{◌≡◌, refl, sym, ◌∙◌, ap}
use mathlib.Core.Bool.{Bool, true, false}
use mathlib.Core.Option.{none}
use mathlib.Core.List.{List, [], ◌∷◌, ◌++◌, append_assoc}
use Prim.Native.Nat.{ℕ, suc, ◌+◌, ◌-◌, ◌<◌, ◌≤◌}
use native.Mathlib.Omega.{arith}
use native.Mathlib.Decide.{ℕ_discrete}
use lib.Dec.{eqb}
use lib.ListN.{length, get_or, set, replicate, length-set, length-replicate, get_or-replicate}
use lib.Seq.{get_or-set_same, get_or-set_other}
use borrow.Author.Tests.{eq-eqb, ne_eqb}
use Rattle.std.specs.Prelude.{Some, None}
use Rattle.rules.specs.Choice.{pick}
use Rattle.rules.specs.Lists.{◌▷◌}
use Rattle.wire.specs.Number.{bytes_of}
use Rattle.records.specs.Parsed.{Parsed, got, bad, fault_at, place_after}
use Rattle.records.specs.Fields.{field}
use Rattle.records.specs.Rows.{is_among}
use Rattle.records.specs.Many.{many, many_bytes}
use Rattle.records.specs.Requests.{held_as}
use Rattle.records.specs.DerivationBytes.{most_derivation, listed_number, chain_number, Laid, derivation_fields, read_derivation, parts_of, derivation_bytes}
use Rattle.records.specs.declared.faults.Kind.TheVariants as kind
use Rattle.records.specs.declared.faults.Fault.{Fault}
use Rattle.records.proofs.ParsedLaws.{got_then, bad_first}
use Rattle.records.proofs.FieldsLaws.{field_within}
use Rattle.records.proofs.RequestsLaws.{held, whole_long, whole_bad, whole_more, whole_got}
use Rattle.records.proofs.ManyLaws.{Going, going_start, going_on, going_bad, going_end, many_length}

-- ---- which numbers were seen
pub among_snoc : (l : List ℕ) (v w : ℕ) → is_among (l ▷ v) w ≡ pick (is_among l w) true (eqb v w)
unfolding is_among
among_snoc [] v w = go (eqb v w)
  where
    go : (b : Bool) → pick b true false ≡ b
    go true = refl
    go false = refl
among_snoc (x ∷ l) v w = go (eqb x w) (among_snoc l v w)
  where
    go : (b : Bool) → is_among (l ▷ v) w ≡ pick (is_among l w) true (eqb v w) → pick b true (is_among (l ▷ v) w) ≡ pick (pick b true (is_among l w)) true (eqb v w)
    go true e = refl
    go false e = e

pub record Seen (seen : List Bool) (earlier : List ℕ) : Type 0 where
  pub size : length seen ≡ 256
  pub marks : (v : ℕ) → v < 256 → get_or seen v false ≡ is_among earlier v

pub seen_none : Seen (replicate 256 false) []
unfolding is_among
seen_none = record { size = length-replicate 256 false; marks = λ v h. get_or-replicate 256 v false false h }

pub seen_more : (seen : List Bool) (earlier : List ℕ) (v : ℕ) → Seen seen earlier → v < 256 → Seen (set seen v true) (earlier ▷ v)
seen_more seen earlier v s h = record { size = length-set seen v true ∙ s.size; marks = λ w l. go w l (ℕ_discrete w v) }
  where
    go : (w : ℕ) → w < 256 → Dec (w ≡ v) → get_or (set seen v true) w false ≡ is_among (earlier ▷ v) w
    go w l (yes e) =
        rw (e, among_snoc earlier v v, eq-eqb v v refl, get_or-set_same seen v true false (omega (arith, s.size))) (same (is_among earlier v))
      where
        same : (b : Bool) → true ≡ pick b true true
        same true = refl
        same false = refl
    go w l (no n) = rw (get_or-set_other seen v w true false n, among_snoc earlier v w, ne_eqb v w (λ e. n (sym e)), s.marks w l) (same (is_among earlier w))
      where
        same : (b : Bool) → b ≡ pick b true false
        same true = refl
        same false = refl

-- ---- binding numbers
pub record Listing (s : List ℕ) (count from : ℕ) (seen : List Bool) (at i : ℕ) : Type 0 where
  pub most : i ≤ count
  pub earlier : List ℕ
  pub going : Going listed_number s count from i at earlier
  pub marked : Seen seen earlier

pub listing_start : (s : List ℕ) (count from : ℕ) → Listing s count from (replicate 256 false) from 0
listing_start s count from = record { most = omega arith; earlier = []; going = going_start listed_number s count from; marked = seen_none }

-- Where the faults of numbers are not told, none is found.
pub not_after : {A : Type 0} {p : Parsed A} {e : Fault} → p ≡ bad e → None ≡ place_after p
not_after e = rw e

module _ (s : List ℕ) (count from : ℕ) (seen : List Bool) (at i : ℕ) (l : Listing s count from seen at i) (h : i < count) where
  pub listing_fails : (g : Fault) → field 0 255 s at ≡ bad g → None ≡ place_after (many listed_number count [] s from)
  listing_fails g e = not_after (going_bad listed_number s count from i at l.earlier l.going h g (bad_first (field 0 255 s at) _ e))

  module _ (v next : ℕ) (e : field 0 255 s at ≡ got v next) where
    pub listing_below : v < 256
    listing_below = omega (arith, (field_within s at 0 255 v next e).1)

    -- The next number, as it is read, given whether it was listed already.
    listed_next : (b : Bool) → is_among l.earlier v ≡ b → listed_number l.earlier s at ≡ pick b (bad (fault_at kind.Twice at)) (got v next)
    listed_next b q = got_then (field 0 255 s at) _ e ∙ ap (λ (c : Bool). pick c (bad (fault_at kind.Twice at)) (got v next)) q

    pub listing_twice : get_or seen v false ≡ true → None ≡ place_after (many listed_number count [] s from)
    listing_twice m = not_after (going_bad listed_number s count from i at l.earlier l.going h (fault_at kind.Twice at) (listed_next true (sym (l.marked.marks v listing_below) ∙ m)))

    pub listing_on : get_or seen v false ≡ false → Listing s count from (set seen v true) next (i + 1)
    listing_on m = record {
      most = omega arith;
      earlier = l.earlier ▷ v;
      going = going_on listed_number s count from i at l.earlier l.going h v next (listed_next false (sym (l.marked.marks v listing_below) ∙ m));
      marked = seen_more seen l.earlier v l.marked listing_below;
    }

pub listing_end : (s : List ℕ) (count from : ℕ) (seen : List Bool) (at i : ℕ) → Listing s count from seen at i → count ≤ i → Some at ≡ place_after (many listed_number count [] s from)
listing_end s count from seen at i l h = ap place_after (sym (going_end listed_number s count from i at l.earlier l.going h))

-- ---- delegation numbers
pub record Chaining (s : List ℕ) (count from at i : ℕ) : Type 0 where
  pub most : i ≤ count
  pub earlier : List ℕ
  pub going : Going chain_number s count from i at earlier

pub chaining_start : (s : List ℕ) (count from : ℕ) → Chaining s count from from 0
chaining_start s count from = record { most = omega arith; earlier = []; going = going_start chain_number s count from }

module _ (s : List ℕ) (count from at i : ℕ) (c : Chaining s count from at i) where
  pub chaining_fails : i < count → (f : Fault) → field 0 511 s at ≡ bad f → None ≡ place_after (many chain_number count [] s from)
  chaining_fails h f e = not_after (going_bad chain_number s count from i at c.earlier c.going h f e)

  pub chaining_on : i < count → (v next : ℕ) → field 0 511 s at ≡ got v next → Chaining s count from next (i + 1)
  chaining_on h v next e = record { most = omega arith; earlier = c.earlier ▷ v; going = going_on chain_number s count from i at c.earlier c.going h v next e }

  pub chaining_end : count ≤ i → Some at ≡ place_after (many chain_number count [] s from)
  chaining_end h = ap place_after (sym (going_end chain_number s count from i at c.earlier c.going h))

-- ---- numbers as a part of a whole
pub numbers_after : {A : Type 0} (p : Parsed A) (at : ℕ) → Some at ≡ place_after p → (l : A) × (p ≡ got l at)
numbers_after (got l n) at e = (l, let q : n ≡ at = cc in ap (got l) q)
numbers_after (bad g) at e = let z : ◌≡◌ {A = ℕ} 0 1 = cc in absurd (omega arith)

pub numbers_not : {A : Type 0} (p : Parsed A) → None ≡ place_after p → (g : Fault) × (p ≡ bad g)
numbers_not (got l n) e = let z : ◌≡◌ {A = ℕ} 0 1 = cc in absurd (omega arith)
numbers_not (bad g) e = (g, refl)

-- ---- a whole derivation
module _ (s : List ℕ) where
  pub derivation_long : most_derivation < length s → read_derivation s ≡ none
  unfolding read_derivation
  derivation_long h = whole_long derivation_fields s most_derivation h

  module _ (h : length s ≤ most_derivation) where
    not_one : (g : Fault) → derivation_fields s 0 ≡ bad g → read_derivation s ≡ none
    unfolding read_derivation
    not_one g e = whole_bad derivation_fields s most_derivation g h e

    pub count_fails : (g : Fault) → field 0 256 s 0 ≡ bad g → read_derivation s ≡ none
    unfolding derivation_fields
    count_fails g e = not_one g (bad_first (field 0 256 s 0) _ e)

    module _ (n first : ℕ) (one : field 0 256 s 0 ≡ got n first) where
      pub listed_fail : None ≡ place_after (many listed_number n [] s first) → read_derivation s ≡ none
      unfolding derivation_fields
      listed_fail e =
          let w = numbers_not (many listed_number n [] s first) e in
          not_one w.0 (got_then (field 0 256 s 0) _ one ∙ bad_first (many listed_number n [] s first) _ w.1)

      module _ (a : ℕ) (e2 : Some a ≡ place_after (many listed_number n [] s first)) where
        two : (l : List ℕ) × (many listed_number n [] s first ≡ got l a)
        two = numbers_after (many listed_number n [] s first) a e2

        pub length_fails : (g : Fault) → field 1 16 s a ≡ bad g → read_derivation s ≡ none
        unfolding derivation_fields
        length_fails g e = not_one g (got_then (field 0 256 s 0) _ one ∙ got_then (many listed_number n [] s first) _ two.1 ∙ bad_first (field 1 16 s a) _ e)

        module _ (m chain : ℕ) (three : field 1 16 s a ≡ got m chain) where
          pub chain_some : 1 ≤ m
          chain_some = (field_within s a 1 16 m chain three).0

          pub access_fails : (g : Fault) → field 0 255 s chain ≡ bad g → read_derivation s ≡ none
          unfolding derivation_fields
          access_fails g e =
              not_one g (got_then (field 0 256 s 0) _ one ∙ got_then (many listed_number n [] s first) _ two.1 ∙ got_then (field 1 16 s a) _ three ∙ bad_first (field 0 255 s chain) _ e)

          module _ (access b : ℕ) (four : field 0 255 s chain ≡ got access b) where
            pub rest_fails : None ≡ place_after (many chain_number (m - 1) [] s b) → read_derivation s ≡ none
            unfolding derivation_fields
            rest_fails e =
                let w = numbers_not (many chain_number (m - 1) [] s b) e in
                not_one w.0 (got_then (field 0 256 s 0) _ one ∙ got_then (many listed_number n [] s first) _ two.1 ∙ got_then (field 1 16 s a) _ three
                ∙ got_then (field 0 255 s chain) _ four ∙ bad_first (many chain_number (m - 1) [] s b) _ w.1)

            module _ (end : ℕ) (e5 : Some end ≡ place_after (many chain_number (m - 1) [] s b)) where
              five : (l : List ℕ) × (many chain_number (m - 1) [] s b ≡ got l end)
              five = numbers_after (many chain_number (m - 1) [] s b) end e5

              pub laid : Laid
              laid = record { derivation = record { bindings = two.0; access = access; delegations = five.0 }; first = first; chain = chain }

              all_read : derivation_fields s 0 ≡ got laid end
              unfolding derivation_fields laid
              all_read =
                  got_then (field 0 256 s 0) _ one ∙ got_then (many listed_number n [] s first) _ two.1 ∙ got_then (field 1 16 s a) _ three
                  ∙ got_then (field 0 255 s chain) _ four ∙ got_then (many chain_number (m - 1) [] s b) _ five.1

              pub derivation_more : (end ≡ length s → ⊥) → read_derivation s ≡ none
              unfolding read_derivation
              derivation_more q = whole_more derivation_fields s most_derivation laid end h all_read q

              pub derivation_found : end ≡ length s → Some (record { bindings = n; first = first; delegations = m - 1; chain = chain }) ≡ held_as parts_of (read_derivation s)
              unfolding read_derivation laid
              derivation_found q =
                  rw (sym (many_length listed_number n [] two.0 s first a two.1), sym (many_length chain_number (m - 1) [] five.0 s b end five.1))
                  (held parts_of (whole_got derivation_fields s most_derivation laid end h all_read q))

-- ---- its bytes as code writes them: five pieces
pub pieces : (bindings : List ℕ) (access : ℕ) (delegations : List ℕ)
    → derivation_bytes (record { bindings = bindings; access = access; delegations = delegations })
    ≡ bytes_of (length bindings) ++ ((many_bytes bytes_of bindings ++ bytes_of (length delegations + 1)) ++ (bytes_of access ++ many_bytes bytes_of delegations))
pieces bindings access delegations =
    let e : suc (length delegations) ≡ length delegations + 1 = omega arith in
    rw (e, append_assoc (bytes_of (length bindings)), append_assoc (many_bytes bytes_of bindings)) refl
