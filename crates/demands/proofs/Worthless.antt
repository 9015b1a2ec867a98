-- Worthless builds are shut out.
use mathlib.Core.Path.{◌≡◌, sym, ◌∙◌}
use Prim.Native.Nat.{ℕ}
use native.Mathlib.Omega.{arith}
use Rattle.std.specs.Prelude.{Ok}
use Rattle.translation.specs.Promise.{Translated}
use Rattle.demands.specs.Worthless.{Worthless}
use Rattle.demands.proofs.Rows.{p1_to_p10}

-- NO WORTHLESS BUILD MEETS THE PROMISES.
pub worthless : Worthless
worthless =
    let r = p1_to_p10 in
    record {
      refuse_all = λ a w h. omega (arith, h, (r.1.0 w.0 w.1 w.2 w.3 a w.4 w.5 w.6).0);
      answer_alike = λ a b w u e. omega (arith, e, (r.1.0 w.0 w.1 w.2 w.3 a w.4 w.5 w.6).0, (r.1.1.1.1.1.1.0 u.0 u.1 u.2 u.3 b u.4 u.5 u.6).0);
      skip_delegations = λ a w h. omega (arith, h, (r.1.1.1.0 w.0 w.1 w.2 w.3 a w.4 w.5 w.6).0);
      invent_depth = λ a w f. f (r.1.0 w.0 w.1 w.2 w.3 a w.4 w.5 w.6).1;
      empty_key_table = λ before after a room h e.
          let q : ◌≡◌ {A = Translated} (Ok 3) (Ok 19) = sym e ∙ (r.1.1.1.1.1.1.1.1.1.1.0 before after a room h).0 in
          let z : ◌≡◌ {A = ℕ} 3 19 = cc q in
          absurd (omega (arith, z));
    }
