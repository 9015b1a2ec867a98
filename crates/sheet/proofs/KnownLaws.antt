-- What reading a table keeps is the index that the sheet is filled by.
use mathlib.Core.Path.{◌≡◌, refl, sym, ◌∙◌, ap, subst}
use mathlib.Core.List.{List, [], ◌∷◌, map}
use Prim.Native.Nat.{ℕ, ◌≤◌}
use native.Mathlib.Omega.{arith}
use lib.ListN.{length, take, length-map}
use Rattle.rules.specs.Tables.{Table}
use Rattle.rules.specs.Ranges.{Good, most_bindings}
use Rattle.rules.specs.declared.Key.{Key}
use Rattle.wire.specs.Number.{Bytes}
use Rattle.records.specs.Parsed.{got}
use Rattle.records.specs.Bindings.{binding_record}
use Rattle.table.specs.ReadTable.{Laid, table_of, table_in, read_table, table_at}
use Rattle.table.specs.Kept.{Standing, Indexed, number_of, name_of, unbound}
use Rattle.table.specs.Finding.{keys_of}
use Rattle.table.proofs.Theorems.{table_form}
use Rattle.sheet.specs.Known.{Known}

pub table_at_lem : (s : List ℕ) (l : Laid) (end : ℕ) → read_table s ≡ got l end → table_at s ≡ table_of l
unfolding table_at
table_at_lem s l end e = ap table_in e

-- A key is its number.
keys_back : (l : List Key) → keys_of (map number_of l) ≡ l
keys_back [] = refl
keys_back (k ∷ l) = ap (λ (m : List Key). k ∷ m) (keys_back l)

module _ (s : List ℕ) (l : Laid) (end : ℕ) (bytes : Bytes s) (e : read_table s ≡ got l end) where
  pub good_table_lem : Good (table_at s)
  good_table_lem = subst Good (sym (table_at_lem s l end e)) (table_form s l end bytes e).1

  module _ (keys names places accesses delegations : List ℕ) (kept : Indexed s l keys names places accesses delegations) (room : most_bindings ≤ length places) where
    known : Known (table_of l).names s (take (length l.spaces.records) keys) (take (length l.bindings.records) names) places
    known =
        let g = (table_form s l end bytes e).1 in
        let n : length (take (length l.spaces.records) keys) ≡ length l.spaces.records = ap length kept.spaces.same ∙ length-map l.spaces.records number_of in
        let m : length (take (length l.bindings.records) names) ≡ length l.bindings.records = ap length kept.names.same ∙ length-map l.bindings.records name_of in
        record {
          index = record {
            good = g.names;
            spaces = ap keys_of kept.spaces.same ∙ keys_back l.spaces.records;
            bindings = record { same = sym kept.names.same; bases = λ i x a. (g.names.bindings i x a).base.most };
          };
          few_spaces = omega (arith, n, g.few_spaces);
          few_bindings = omega (arith, m, g.few_bindings);
          room = omega (arith, m, g.few_bindings, room);
          standing = subst (λ (c : ℕ). Standing (binding_record c unbound) s places l.bindings.records) (sym n) kept.bindings;
        }

    pub known_here : Known (table_at s).names s (take (length l.spaces.records) keys) (take (length l.bindings.records) names) places
    known_here = subst (λ (t : Table). Known t.names s (take (length l.spaces.records) keys) (take (length l.bindings.records) names) places) (sym (table_at_lem s l end e)) known
