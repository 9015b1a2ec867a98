-- The decision's promise fixes its answer, but for which derivation of the greatest depth is handed out.
use mathlib.Core.Path.{◌≡◌, refl, sym, ◌∙◌, ap, subst}
use mathlib.Core.Logic.{◌⊎◌, inl, inr}
use mathlib.Core.List.{List, [], ◌∷◌}
use mathlib.Core.Option.{none}
use Prim.Native.Nat.{ℕ, zero, suc, ◌<◌}
use native.Mathlib.Omega.{arith}
use lib.ListN.{length, drop}
use Rattle.std.specs.Prelude.{Ok, Err}
use Rattle.rules.specs.Tables.{Request, Table}
use Rattle.rules.specs.Ranges.{Good}
use Rattle.rules.specs.Names.{TargetMeans}
use Rattle.rules.specs.Sheets.{entry}
use Rattle.rules.specs.Access.{setting}
use Rattle.rules.specs.Verdicts.{Verdict, Has}
use Rattle.rules.specs.Verdicts as verdict
use Rattle.rules.specs.declared.Key.{Key}
use Rattle.rules.specs.declared.Depth.{Depth}
use Rattle.rules.proofs.NamesLaws.{target_one}
use Rattle.rules.proofs.SheetsLaws.{exact_one}
use Rattle.rules.proofs.GreatestLaws.{has_one}
use Rattle.wire.specs.Number.{Bytes}
use Rattle.records.specs.Requests.{read_request}
use Rattle.records.specs.DerivationBytes.{most_derivation}
use Rattle.records.specs.declared.faults.Fault.{Fault}
use Rattle.records.proofs.ParsedLaws.{got_or_bad, some_or_none, got_one, bad_one, some_one}
use Rattle.table.specs.ReadTable.{Laid as LaidTable, table_of}
use Rattle.table.proofs.Theorems.{table_form}
use Rattle.decision.specs.Promise.{Decided, sheet_size, Ready, DecidesGood, bad_request, room, unnamed, denied, granted, overrun, Decides, bad_table, good_table, Alike, equal, another_shown, first_fits, second_fits}
use Rattle.decision.specs.declared.Refusal.TheVariants as refusal

-- Rows of one length that agree at their first entries and past them are one.
one_row : (n : ℕ) (a b : List ℕ) → length a ≡ length b → ((i : ℕ) → i < n → entry a i ≡ entry b i) → drop n a ≡ drop n b → a ≡ b
one_row zero a b s f e = e
one_row (suc n) [] [] s f e = refl
one_row (suc n) [] (y ∷ b) s f e = absurd (omega (arith, s))
one_row (suc n) (x ∷ a) [] s f e = absurd (omega (arith, s))
one_row (suc n) (x ∷ a) (y ∷ b) s f e = ap (λ (z : ℕ). z ∷ a) (f 0 (omega arith)) ∙ ap (λ (l : List ℕ). y ∷ l) (one_row n a b (omega (arith, s)) (λ i h. f (suc i) (omega (arith, h))) e)

module _ (t : Table) (good : Good t) (request sheet₀ derivation₀ : List ℕ) where
  abbrev IsReady : Request → List ℕ → Type 0
  IsReady r sheet = Ready t request sheet₀ derivation₀ r sheet

  one_request : {r r' : Request} {x y : List ℕ} → IsReady r x → IsReady r' y → r ≡ r'
  one_request p q = some_one p.accepted q.accepted

  one_sheet : {r r' : Request} {x y : List ℕ} → IsReady r x → IsReady r' y → x ≡ y
  one_sheet {x = x} {y = y} p q =
      one_row (length t.names.bindings) x y (p.filled.size ∙ sym q.filled.size) (λ i h. exact_one t.names x y p.filled.exact q.filled.exact i h) (p.filled.past ∙ sym q.filled.past)

  one_verdict : {r r' : Request} {x y : List ℕ} {k k' : Key} {v w : Verdict} → IsReady r x → IsReady r' y → TargetMeans t.names r.subject k → TargetMeans t.names r'.subject k'
      → Has (setting t r.asked) k v → Has (setting t r'.asked) k' w → v ≡ w
  one_verdict {r} {r'} {k = k} {k' = k'} {w = w} p q m m' h h' =
      let e = one_request p q in
      let f : k ≡ k' = target_one t.names good.names r.subject k k' m (subst (λ (z : Request). TargetMeans t.names z.subject k') (sym e) m') in
      has_one (setting t r.asked) k h (subst (λ (z : Key). Has (setting t r.asked) z w) (sym f) (subst (λ (z : Request). Has (setting t z.asked) k' w) (sym e) h'))

  one_depth : {r r' : Request} {x y : List ℕ} {k k' : Key} {d e : ℕ} → IsReady r x → IsReady r' y → TargetMeans t.names r.subject k → TargetMeans t.names r'.subject k'
      → Has (setting t r.asked) k (verdict.granted d) → Has (setting t r'.asked) k' (verdict.granted e) → d ≡ e
  one_depth p q m m' h h' = cc (one_verdict p q m m' h h')

  -- No two of these hold: no request, no room, no meaning, no access, access.
  unread : {r : Request} {x : List ℕ} → IsReady r x → read_request (length t.names.spaces) request ≡ none → ⊥
  unread p e = some_or_none p.accepted e

  roomy : {r : Request} {x : List ℕ} → IsReady r x → (length sheet₀ < sheet_size) ⊎ (length derivation₀ < most_derivation) → ⊥
  roomy p (inl h) = omega (arith, h, p.room_for_sheet)
  roomy p (inr h) = omega (arith, h, p.room_for_derivation)

  meant : {r r' : Request} {x y : List ℕ} (k : Key) → IsReady r x → IsReady r' y → ((k : Key) → TargetMeans t.names r.subject k → ⊥) → TargetMeans t.names r'.subject k → ⊥
  meant k p q f m = f k (subst (λ (z : Request). TargetMeans t.names z.subject k) (sym (one_request p q)) m)

  either : {d : ℕ} → verdict.denied ≡ verdict.granted d → ⊥
  either e = let z : ◌≡◌ {A = ℕ} 0 1 = cc e in absurd (omega arith)

  same_sheet : {r r' : Request} {x y v : List ℕ} (a : Decided) → IsReady r x → IsReady r' y → Alike a x v a y v
  same_sheet {x = x} {v = v} a p q = subst (λ (z : List ℕ). Alike a x v a z v) (one_sheet p q) equal

  another : {d e : Depth} {n m : ℕ} {x y v w : List ℕ} → d ≡ e → x ≡ y → Alike (Ok (record { depth = d; length = n })) x v (Ok (record { depth = e; length = m })) y w
  another {d} {n = n} {m = m} {x = x} {y = y} {v = v} {w = w} p q =
      subst (λ (c : Depth). Alike (Ok (record { depth = d; length = n })) x v (Ok (record { depth = c; length = m })) y w) p (subst (λ (z : List ℕ). Alike (Ok (record { depth = d; length = n })) x v (Ok (record { depth = d; length = m })) z w) q another_shown)

  fits_first : {d : Depth} {n : ℕ} {x y v w : List ℕ} → x ≡ y → Alike (Ok (record { depth = d; length = n })) x v (Err refusal.Overrun) y w
  fits_first {d} {n} {x} {v = v} {w = w} q = subst (λ (z : List ℕ). Alike (Ok (record { depth = d; length = n })) x v (Err refusal.Overrun) z w) q first_fits

  fits_second : {d : Depth} {n : ℕ} {x y v w : List ℕ} → x ≡ y → Alike (Err refusal.Overrun) x v (Ok (record { depth = d; length = n })) y w
  fits_second {d} {n} {x} {v = v} {w = w} q = subst (λ (z : List ℕ). Alike (Err refusal.Overrun) x v (Ok (record { depth = d; length = n })) z w) q second_fits

  good_alike : {a b : Decided} {x y v w : List ℕ} → DecidesGood t request sheet₀ derivation₀ a x v → DecidesGood t request sheet₀ derivation₀ b y w → Alike a x v b y w
  good_alike (bad_request e) (bad_request e') = equal
  good_alike (bad_request e) (room e' h') = absurd (some_or_none e' e)
  good_alike (bad_request e) (unnamed p' f') = absurd (unread p' e)
  good_alike (bad_request e) (denied p' m' h') = absurd (unread p' e)
  good_alike (bad_request e) (granted p' m' h' x') = absurd (unread p' e)
  good_alike (bad_request e) (overrun p' m' h' x' l') = absurd (unread p' e)
  good_alike (room e h) (bad_request e') = absurd (some_or_none e e')
  good_alike (room e h) (room e' h') = equal
  good_alike (room e h) (unnamed p' f') = absurd (roomy p' h)
  good_alike (room e h) (denied p' m' h') = absurd (roomy p' h)
  good_alike (room e h) (granted p' m' h' x') = absurd (roomy p' h)
  good_alike (room e h) (overrun p' m' h' x' l') = absurd (roomy p' h)
  good_alike (unnamed p f) (bad_request e') = absurd (unread p e')
  good_alike (unnamed p f) (room e' h') = absurd (roomy p h')
  good_alike (unnamed p f) (unnamed p' f') = same_sheet (Err refusal.Unnamed) p p'
  good_alike (unnamed p f) (denied {k = k} p' m' h') = absurd (meant k p p' f m')
  good_alike (unnamed p f) (granted {k = k} p' m' h' x') = absurd (meant k p p' f m')
  good_alike (unnamed p f) (overrun {k = k} p' m' h' x' l') = absurd (meant k p p' f m')
  good_alike (denied p m h) (bad_request e') = absurd (unread p e')
  good_alike (denied p m h) (room e' h') = absurd (roomy p h')
  good_alike (denied {k = k} p m h) (unnamed p' f') = absurd (meant k p' p f' m)
  good_alike (denied p m h) (denied p' m' h') = same_sheet (Err refusal.Denied) p p'
  good_alike (denied p m h) (granted p' m' h' x') = absurd (either (one_verdict p p' m m' h h'))
  good_alike (denied p m h) (overrun p' m' h' x' l') = absurd (either (one_verdict p p' m m' h h'))
  good_alike (granted p m h x) (bad_request e') = absurd (unread p e')
  good_alike (granted p m h x) (room e' h') = absurd (roomy p h')
  good_alike (granted {k = k} p m h x) (unnamed p' f') = absurd (meant k p' p f' m)
  good_alike (granted p m h x) (denied p' m' h') = absurd (either (one_verdict p' p m' m h' h))
  good_alike (granted p m h x) (granted p' m' h' x') = another (λ i. record { 0 = one_depth p p' m m' h h' i }) (one_sheet p p')
  good_alike (granted p m h x) (overrun p' m' h' x' l') = fits_first (one_sheet p p')
  good_alike (overrun p m h x l) (bad_request e') = absurd (unread p e')
  good_alike (overrun p m h x l) (room e' h') = absurd (roomy p h')
  good_alike (overrun {k = k} p m h x l) (unnamed p' f') = absurd (meant k p' p f' m)
  good_alike (overrun p m h x l) (denied p' m' h') = absurd (either (one_verdict p' p m' m h' h))
  good_alike (overrun p m h x l) (granted p' m' h' x') = fits_second (one_sheet p p')
  good_alike (overrun p m h x l) (overrun p' m' h' x' l') = same_sheet (Err refusal.Overrun) p p'

-- TWO ANSWERS THAT MEET THE PROMISE ARE ALIKE, with the sheet and the derivation after them.
pub decision_one : (table request sheet₀ derivation₀ : List ℕ) → Bytes table → {a b : Decided} {x y v w : List ℕ} → Decides table request sheet₀ derivation₀ a x v
    → Decides table request sheet₀ derivation₀ b y w → Alike a x v b y w
decision_one table request sheet₀ derivation₀ bytes (bad_table {f = f} e) (bad_table h) = subst (λ (z : Fault). Alike (Err (refusal.Table f)) sheet₀ derivation₀ (Err (refusal.Table z)) sheet₀ derivation₀) (bad_one e h) equal
decision_one table request sheet₀ derivation₀ bytes (bad_table e) (good_table h y) = absurd (got_or_bad h e)
decision_one table request sheet₀ derivation₀ bytes (good_table h x) (bad_table e) = absurd (got_or_bad h e)
decision_one table request sheet₀ derivation₀ bytes {b = b} {y = y} {w = w} (good_table {l = l} {end = n} h x) (good_table g z) =
    good_alike (table_of l) (table_form table l n bytes h).1 request sheet₀ derivation₀ x (subst (λ (u : LaidTable). DecidesGood (table_of u) request sheet₀ derivation₀ b y w) (sym (got_one h g)) z)
