-- Keeping the marked ones of a list: one more is looked at.
use mathlib.Core.Path.{◌≡◌, sym, ◌∙◌, ap, ap₂}
use mathlib.Core.Bool.{Bool, true, false}
use mathlib.Core.List.{List}
use Prim.Native.Nat.{ℕ, ◌+◌, ◌<◌, ◌≤◌}
use native.Mathlib.Omega.{arith}
use native.Mathlib.Numerals.{add-one}
use lib.ListN.{length, take, drop, set, get_or, length-set}
use lib.Seq.{take-suc, take-suc-set, drop-set-lt, drop-drop, get_or-drop}
use Rattle.rules.specs.Choice.{pick}
use Rattle.rules.specs.Lists.{◌▷◌, keep}
use Rattle.rules.proofs.NeededLaws.{keep_snoc}
use Rattle.marking.specs.Marks.{marked}
use Rattle.marking.specs.Kept.{Kept, KeptOn}

module _ (marks : List Bool) (i : ℕ) (order : List ℕ) (n : ℕ) (h : i < length order) (b : Bool) (e : b ≡ marked marks (get_or order i 0)) where
  module _ (before : List ℕ) (w : Kept marks before i order n) where
    same_number : get_or before i 0 ≡ get_or order i 0
    same_number =
        let z : i + 0 ≡ i = omega arith in
        sym (get_or-drop i before 0 0 ∙ ap (λ (j : ℕ). get_or before j 0) z) ∙ ap (λ (l : List ℕ). get_or l 0 0) (sym w.rest) ∙ get_or-drop i order 0 0 ∙ ap (λ (j : ℕ). get_or order j 0) z

    same_rest : drop (i + 1) order ≡ drop (i + 1) before
    same_rest = sym (drop-drop 1 i order) ∙ ap (drop 1) w.rest ∙ drop-drop 1 i before

    -- What is to be kept of one more.
    keep_more : keep (marked marks) (take (i + 1) before) ≡ pick b (take n order ▷ get_or order i 0) (take n order)
    keep_more =
        ap (λ (j : ℕ). keep (marked marks) (take j before)) (add-one i) ∙ ap (keep (marked marks)) (take-suc before i 0 (omega (arith, w.size)))
        ∙ ap (λ (x : ℕ). keep (marked marks) (take i before ▷ x)) same_number ∙ keep_snoc (marked marks) (take i before) (get_or order i 0)
        ∙ ap₂ (λ (c : Bool) (l : List ℕ). pick c (l ▷ get_or order i 0) l) (sym e) (sym w.same)

  pub passes_over : b ≡ false → KeptOn marks i order n order n
  passes_over f = record {
    on = λ before w. record {
      size = w.size;
      most = omega (arith, w.most);
      same = sym (keep_more before w ∙ ap (λ (c : Bool). pick c (take n order ▷ get_or order i 0) (take n order)) f);
      rest = same_rest before w;
    };
  }

  pub takes_one : n ≤ i → b ≡ true → KeptOn marks i order n (set order n (get_or order i 0)) (n + 1)
  takes_one most f = record {
    on = λ before w. record {
      size = length-set order n (get_or order i 0) ∙ w.size;
      most = omega arith;
      same = ap (λ (j : ℕ). take j (set order n (get_or order i 0))) (add-one n) ∙ take-suc-set order n (get_or order i 0) (omega arith)
          ∙ sym (keep_more before w ∙ ap (λ (c : Bool). pick c (take n order ▷ get_or order i 0) (take n order)) f);
      rest = drop-set-lt (i + 1) order n (get_or order i 0) (omega arith) ∙ same_rest before w;
    };
  }
