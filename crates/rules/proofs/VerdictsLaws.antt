-- The rules give a request one verdict, and it is the computed one.
use mathlib.Core.Path.{◌≡◌, refl, sym, ◌∙◌}
use mathlib.Core.Logic.{◌↔◌}
use mathlib.Core.List.{List}
use mathlib.Core.Option.{Option, none, some}
use Prim.Native.Nat.{ℕ, ◌≤◌}
use native.Mathlib.Omega.{arith}
use lib.ListN.{get_elem?}
use Rattle.rules.specs.Lists.{At}
use Rattle.rules.specs.Depths.{top}
use Rattle.rules.specs.Tables.{Target, to_name, Table, Asked, Request}
use Rattle.rules.specs.Names.{Means, TargetMeans}
use Rattle.rules.specs.Ranges.{Good}
use Rattle.rules.specs.Rounds.{sheet_of, target_key}
use Rattle.rules.specs.Access.{Setting, Granted, Chain, first, next, setting}
use Rattle.rules.specs.KeyTables.{KeyAccess, key_setting}
use Rattle.rules.specs.Translation.{AccessToKeys, Translates, translate}
use Rattle.rules.specs.Verdicts.{Verdict, Has, greatest, nothing, Decides, named, means_nothing}
use Rattle.rules.specs.Greatest.{teller, verdict_for, verdict}
use Rattle.rules.specs.declared.Key.{Key}
use Rattle.rules.specs.declared.Space.{Space}
use Rattle.rules.proofs.ListsLaws.{some_at, at_some, at_get_or}
use Rattle.rules.proofs.NamesLaws.{meaning_one, target_one}
use Rattle.rules.proofs.SheetsLaws.{exact_leads}
use Rattle.rules.proofs.RoundsLaws.{target_leads, sheet_exact}
use Rattle.rules.proofs.DepthsLaws.{fits}
use Rattle.rules.proofs.AccessLaws.{access→chain}
use Rattle.rules.proofs.TranslationLaws.{order_from, translation_grants, Tells, translate_translates}
use Rattle.rules.proofs.GreatestLaws.{has_one, greatest_right}

-- What one setting grants the other does: a key has the same there.
pub has_same : (Y Z : Setting) (k : Key) → ((d : ℕ) → Granted Y k d ↔ Granted Z k d) → {v : Verdict} → Has Y k v → Has Z k v
has_same Y Z k same (greatest {d = d} g most) = greatest ((same d).0 g) (λ e h. most e ((same e).1 h))
has_same Y Z k same (nothing n) = nothing (λ e h. n e ((same e).1 h))

module _ (t : Table) (good : Good t) where
  -- THE RULES GIVE ONE VERDICT.
  pub decides_one : (r : Request) {v w : Verdict} → Decides t r v → Decides t r w → v ≡ w
  decides_one r (named {k = k} m h) (named {k = k'} m' h') =
      let q = target_one t.names good.names r.subject k k' m m' in
      has_one (setting t r.asked) k h (rw q h')
  decides_one r (named {k = k} m h) (means_nothing n) = absurd (n k m)
  decides_one r (means_nothing n) (named {k = k} m h) = absurd (n k m)
  decides_one r (means_nothing n) (means_nothing n') = refl

  -- ---- the computed sheet tells what names mean
  pub target_told : (g : Target) (k : Key) → (target_key t.names (sheet_of t.names) g ≡ some k) ↔ TargetMeans t.names g k
  target_told g k =
      let a = target_leads t.names good.names (sheet_of t.names) g k in
      let b = exact_leads t.names good.names (sheet_of t.names) (sheet_exact t.names good.names) g k in
      (λ e. b.0 (a.0 e), λ m. a.1 (b.1 m))

  pub teller_tells : Tells (Means t.names) (teller t)
  teller_tells = record { tells = λ S p k. target_told (to_name S p) k }

  pub translates : Translates (Means t.names) t (translate (teller t) t)
  translates = translate_translates (Means t.names) (teller t) teller_tells t

  -- Its depths are depths.
  pub translated_small : (i : ℕ) (x : KeyAccess) → At (translate (teller t) t).accesses i x → x.depth ≤ top
  translated_small i x a =
      let w = order_from (AccessToKeys (Means t.names) t) translates.accesses i x a in
      omega (arith, w.3.depth, (good.accesses w.0 w.1 w.2).depth)

  -- ---- without an owner there is no access
  no_owner : (q : Asked Space) → get_elem? t.names.spaces q.owner.0 ≡ none → (k : Key) (d : ℕ) → Granted (setting t q) k d → ⊥
  no_owner q e k d g = rootless (access→chain (setting t q) fits g.access).3
    where
      rootless : {i d : ℕ} {c : List ℕ} {n : _} → Chain (setting t q) i c n d → ⊥
      rootless (first {i = i} x) =
          let f = at_some (at_get_or t.names.spaces q.owner.0 (record { 0 = 0 }) (good.accesses i _ x.at).owner) in
          let z : ◌≡◌ {A = ℕ} 0 1 = cc in omega arith
      rootless (next c m w s) = rootless c

  -- THE COMPUTED VERDICT IS RIGHT.
  pub verdict_right : (r : Request) → Decides t r (verdict t r)
  verdict_right r = go (target_key t.names (sheet_of t.names) r.subject) refl (get_elem? t.names.spaces r.asked.owner.0) refl
    where
      go : (s : Option Key) → target_key t.names (sheet_of t.names) r.subject ≡ s → (o : Option Key) → get_elem? t.names.spaces r.asked.owner.0 ≡ o → Decides t r (verdict_for t r s o)
      go none e o f = means_nothing (λ k m. let z : ◌≡◌ {A = Option Key} none (some k) = sym e ∙ (target_told r.subject k).1 m in let w : ◌≡◌ {A = ℕ} 0 1 = cc in omega arith)
      go (some k) e none f = named ((target_told r.subject k).0 e) (nothing (λ d g. no_owner r.asked f k d g))
      go (some k) e (some owner) f =
          let q : Asked Key = record { owner = owner; object = r.asked.object; right = r.asked.right } in
          let K = translate (teller t) t in
          named ((target_told r.subject k).0 e)
          (has_same (key_setting K q) (setting t r.asked) k
          (λ d. let w = translation_grants (Means t.names) (λ S p k k' a b. meaning_one t.names good.names a b) t good.names K translates r.asked owner
          (record { at = some_at t.names.spaces r.asked.owner.0 owner f }) k d in (w.1, w.0))
          (greatest_right K q translated_small k))
