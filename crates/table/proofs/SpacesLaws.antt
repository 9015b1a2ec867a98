-- Spaces in a loop: a key that an earlier space has is looked for among the keys kept.
use mathlib.Core.Path.{◌≡◌, refl, sym, ◌∙◌, ap, subst}
use mathlib.Core.Bool.{Bool, true, false}
use mathlib.Core.List.{List, []}
use Prim.Native.Nat.{ℕ, ◌+◌, ◌<◌, ◌≤◌}
use native.Mathlib.Omega.{arith}
use lib.ListN.{length, take, set, length-set}
use Rattle.std.specs.Prelude.{Result, Ok, Err}
use Rattle.rules.specs.Choice.{pick}
use Rattle.rules.specs.Lists.{◌▷◌}
use Rattle.rules.specs.declared.Key.{Key}
use Rattle.records.specs.Parsed.{got, bad, fault_at, after}
use Rattle.records.specs.Fields.{key_field}
use Rattle.records.specs.Rows.{is_among}
use Rattle.records.specs.Many.{many}
use Rattle.records.specs.declared.faults.Kind.TheVariants as kind
use Rattle.records.specs.declared.faults.Fault.{Fault}
use Rattle.records.proofs.ParsedLaws.{got_then, bad_first}
use Rattle.records.proofs.FormatLaws.{Walks, refused_walks}
use Rattle.records.proofs.FieldsForm.{key_walks}
use Rattle.records.proofs.ManyLaws.{Going, going_start, going_on, going_bad, going_end}
use Rattle.table.specs.ReadTable.{space_key, numbers}
use Rattle.table.specs.Kept.{Kept, number_of}
use Rattle.table.proofs.LoadingLaws.{Besides, ill, well, after_apart}
use Rattle.table.proofs.KeptLaws.{kept_none, kept_more}

pub spaces_walk : (earlier : List Key) → Walks (space_key earlier)
spaces_walk earlier = refused_walks kind.Twice (λ k. is_among (numbers earlier) k.0) key_field key_walks

module _ (s : List ℕ) where
  pub record Spaced (count from room : ℕ) (keys : List ℕ) (at i : ℕ) : Type 0 where
    pub most : i ≤ count
    pub size : length keys ≡ room
    pub earlier : List Key
    pub going : Going space_key s count from i at earlier
    pub kept : Kept number_of keys earlier

  pub spaced_start : (count from : ℕ) (keys : List ℕ) → Spaced count from (length keys) keys from 0
  spaced_start count from keys = record {
    most = omega arith;
    size = refl;
    earlier = [];
    going = going_start space_key s count from;
    kept = kept_none number_of keys;
  }

  module _ (count from room : ℕ) (keys : List ℕ) (at i : ℕ) (l : Spaced count from room keys at i) where
    -- What is answered, with what the keys hold if all is well.
    abbrev pub Spaces : Result ℕ Fault → Type 0
    Spaces r = Besides after (λ (e : List Key). Kept number_of keys e) r (many space_key count [] s from)

    failed : (f : Fault) → many space_key count [] s from ≡ bad f → Spaces (Err f)
    failed f e = ill after (λ (e : List Key). Kept number_of keys e) (Err f) (many space_key count [] s from) (after_apart f) (ap after (sym e))

    pub spaced_end : count ≤ i → Spaces (Ok at)
    spaced_end h =
        let e = going_end space_key s count from i at l.earlier l.going h in
        well after (λ (e : List Key). Kept number_of keys e) (Ok at) (many space_key count [] s from) l.earlier at e l.kept (ap after (sym e))

    module _ (few : count ≤ room) (h : i < count) where
      pub spaced_fails : (f : Fault) → key_field s at ≡ bad f → Spaces (Err f)
      spaced_fails f e = failed f (going_bad space_key s count from i at l.earlier l.going h f (bad_first (key_field s at) _ e))

      module _ (k : Key) (next : ℕ) (e : key_field s at ≡ got k next) where
        -- The next key, as it is read, given whether an earlier space has it.
        key_next : (b : Bool) → b ≡ is_among (take i keys) k.0 → space_key l.earlier s at ≡ pick b (bad (fault_at kind.Twice at)) (got k next)
        key_next b q =
            got_then (key_field s at) _ e
            ∙ ap (λ (c : Bool). pick c (bad (fault_at kind.Twice at)) (got k next))
            (sym (q ∙ ap (λ (n : ℕ). is_among (take n keys) k.0) (sym l.going.read) ∙ ap (λ (m : List ℕ). is_among m k.0) l.kept.same))

        pub spaced_twice : (b : Bool) → b ≡ is_among (take i keys) k.0 → b ≡ true → Spaces (Err (fault_at kind.Twice at))
        spaced_twice b q t = failed (fault_at kind.Twice at) (going_bad space_key s count from i at l.earlier l.going h (fault_at kind.Twice at) (key_next true (sym t ∙ q)))

        pub spaced_on : (b : Bool) → b ≡ is_among (take i keys) k.0 → b ≡ false → Spaced count from room (set keys i k.0) next (i + 1)
        spaced_on b q t =
            let n : i ≡ length l.earlier = sym l.going.read in
            record {
              most = omega arith;
              size = length-set keys i k.0 ∙ l.size;
              earlier = l.earlier ▷ k;
              going = going_on space_key s count from i at l.earlier l.going h k next (key_next false (sym t ∙ q));
              kept = subst (λ (j : ℕ). Kept number_of (set keys j k.0) (l.earlier ▷ k)) (sym n) (kept_more number_of keys l.earlier k k.0 (omega (arith, n, l.size)) refl l.kept);
            }
