-- P1 to P10 hold.
use mathlib.Core.Path.{◌≡◌, refl}
use mathlib.Core.List.{[], ◌∷◌}
use mathlib.Core.Option.{none, some}
use native.Mathlib.Omega.{arith}
use lib.ListN.{length}
use Rattle.rules.specs.Specimen.{specimen}
use Rattle.rules.specs.Derivations.{Derivation}
use Rattle.rules.specs.Verdicts.{granted, unnamed, denied}
use Rattle.rules.proofs.Theorems.Specimen.{the_rows_hold}
use Rattle.wire.specs.Number.{groups_of}
use Rattle.records.specs.Many.{many_bytes}
use Rattle.records.specs.Paths.{names_bytes}
use Rattle.translation.proofs.Examples.{specimen_translated, empty_translated}
use Rattle.demands.specs.Rows.{T, rows, AllSay}
use Rattle.demands.proofs.RowsLaws.{by_key, by_name, decision_row, check_row, sheet_row, translation_row, are_bytes, judged_holds, judged_not, read_derivation_lem}

size : 6 ≡ length specimen.names.bindings
unfolding specimen
size = refl

abbrev second : Derivation
second = record { bindings = 0 ∷ []; access = 0; delegations = [] }

abbrev third : Derivation
third = record { bindings = 0 ∷ 1 ∷ 3 ∷ 5 ∷ []; access = 0; delegations = 0 ∷ [] }

abbrev fourth : Derivation
fourth = record { bindings = 0 ∷ 1 ∷ 3 ∷ []; access = 0; delegations = 0 ∷ [] }

-- P1 TO P10 HOLD, over the bytes of the scope paper.
pub p1_to_p10 : AllSay rows
unfolding groups_of names_bytes many_bytes
p1_to_p10 =
    let r = the_rows_hold in (
      sheet_row (20 ∷ 30 ∷ 30 ∷ 40 ∷ 0 ∷ 10 ∷ []) r.0 size,
      (
        decision_row (0x00 ∷ 0x14 ∷ 0x00 ∷ 0x07 ∷ 0x02 ∷ []) _ (by_key 20 2 (omega arith) (omega arith) (omega arith) (omega arith)) (granted 1) r.1.0,
        (
          check_row (0x00 ∷ 0x14 ∷ 0x00 ∷ 0x07 ∷ 0x02 ∷ []) _ (by_key 20 2 (omega arith) (omega arith) (omega arith) (omega arith)) (0x01 ∷ 0x00 ∷ 0x01 ∷ 0x00 ∷ []) second (read_derivation_lem second (omega arith) (omega arith) (omega arith) refl refl refl (omega arith)) (some 1) (judged_holds _ _ 1 r.1.1.0),
          (
            decision_row (0x00 ∷ 0x28 ∷ 0x00 ∷ 0x07 ∷ 0x02 ∷ []) _ (by_key 40 2 (omega arith) (omega arith) (omega arith) (omega arith)) (granted 0) r.1.1.1.0,
            (
              check_row (0x00 ∷ 0x28 ∷ 0x00 ∷ 0x07 ∷ 0x02 ∷ []) _ (by_key 40 2 (omega arith) (omega arith) (omega arith) (omega arith)) (0x04 ∷ 0x00 ∷ 0x01 ∷ 0x03 ∷ 0x05 ∷ 0x02 ∷ 0x00 ∷ 0x00 ∷ []) third (read_derivation_lem third (omega arith) (omega arith) (omega arith) refl refl refl (omega arith)) (some 0) (judged_holds _ _ 0 r.1.1.1.1.0),
              (
                check_row (0x00 ∷ 0x28 ∷ 0x00 ∷ 0x07 ∷ 0x02 ∷ []) _ (by_key 40 2 (omega arith) (omega arith) (omega arith) (omega arith)) (0x03 ∷ 0x00 ∷ 0x01 ∷ 0x03 ∷ 0x02 ∷ 0x00 ∷ 0x00 ∷ []) fourth (read_derivation_lem fourth (omega arith) (omega arith) (omega arith) refl refl refl (omega arith)) none (judged_not _ _ r.1.1.1.1.1.0),
                (
                  decision_row (0x00 ∷ 0x28 ∷ 0x00 ∷ 0x07 ∷ 0x03 ∷ []) _ (by_key 40 3 (omega arith) (omega arith) (omega arith) (omega arith)) denied r.1.1.1.1.1.1.0,
                  (
                    decision_row (0x01 ∷ 0x00 ∷ 0x01 ∷ 0x03 ∷ 0x00 ∷ 0x07 ∷ 0x03 ∷ []) _ (by_name 3 3 (omega arith) (omega arith) (omega arith) (omega arith)) (granted 0) r.1.1.1.1.1.1.1.0,
                    (
                      decision_row (0x01 ∷ 0x00 ∷ 0x01 ∷ 0x05 ∷ 0x00 ∷ 0x07 ∷ 0x03 ∷ []) _ (by_name 5 3 (omega arith) (omega arith) (omega arith) (omega arith)) unnamed r.1.1.1.1.1.1.1.1.0,
                      (
                        decision_row (0x00 ∷ 0x0a ∷ 0x00 ∷ 0x07 ∷ 0x02 ∷ []) _ (by_key 10 2 (omega arith) (omega arith) (omega arith) (omega arith)) denied r.1.1.1.1.1.1.1.1.1.0,
                        (
                          translation_row T _ (are_bytes T refl) specimen_translated,
                          (
                            translation_row _ _ (are_bytes _ refl) empty_translated,
                            tt,
                          ),
                        ),
                      ),
                    ),
                  ),
                ),
              ),
            ),
          ),
        ),
      ),
    )
