-- Bindings in a loop: a name that is bound already is looked for among packed ones.
use mathlib.Core.Path.{◌≡◌, refl, sym, ◌∙◌, ap, subst, subst₂}
use mathlib.Core.Bool.{Bool, true, false}
use mathlib.Core.List.{List, []}
use Prim.Native.Nat.{ℕ, ◌+◌, ◌<◌, ◌≤◌}
use native.Mathlib.Omega.{arith}
use lib.ListN.{length, take, set, length-set}
use Rattle.std.specs.Prelude.{Ok, Err}
use Rattle.rules.specs.Choice.{pick}
use Rattle.rules.specs.Lists.{◌▷◌}
use Rattle.rules.specs.Ranges.{most_base, most_delegations}
use Rattle.rules.specs.Tables.{Binding, Target}
use Rattle.rules.specs.declared.Space.{Space}
use Rattle.records.specs.Parsed.{Parsed, got, bad, fault_at, moved_fault, ◌⟫◌, found_as, after}
use Rattle.records.specs.Fields.{field, space_field}
use Rattle.records.specs.Targets.{target_field}
use Rattle.records.specs.Bindings.{binding_record, is_bound, packed, binding_value}
use Rattle.records.specs.Rows.{is_among, mark_of, Marked}
use Rattle.records.specs.Passing.{PassesBinding}
use Rattle.records.specs.Many.{many}
use Rattle.records.specs.declared.faults.Kind.TheVariants as kind
use Rattle.records.specs.declared.faults.Fault.{Fault}
use Rattle.records.specs.declared.bindings.Binding.{Binding as BindingValue}
use Rattle.records.proofs.FormatLaws.{Walks}
use Rattle.records.proofs.ParsedLaws.{then_got, got_then, found_got, found_bad, as_got, as_bad}
use Rattle.records.proofs.FieldsLaws.{field_within}
use Rattle.records.proofs.RowsLaws.{marked_start, marked_on}
use Rattle.records.proofs.BindingsLaws.{space_below}
use Rattle.records.proofs.RecordsForm.{binding_walks}
use Rattle.table.proofs.LoadingLaws.{Besides, rest, there_got, there_bad, Reading, reading_start, reading_next, reading_stop, reading_end}
use Rattle.table.specs.Kept.{Kept, Standing, name_of, unbound}
use Rattle.table.proofs.KeptLaws.{kept_none, kept_more, standing_none, standing_more, Bases, none, and, among_bound}

-- What is found of a binding, once its space is known.
module _ (spaces : ℕ) (bound : Space → ℕ → Bool) (s : List ℕ) where
  abbrev pub on_target : Space → ℕ → ℕ → ℕ → Parsed Binding
  on_target space at base after =
      pick (bound space base) (bad (fault_at kind.Twice at)) (target_field spaces s after ⟫ λ target at. got (record { space = space; base = base; target = target }) at)

-- Only names with a base name in its range are asked whether they are bound.
pub same_bound : (spaces : ℕ) (f g : Space → ℕ → Bool) (s : List ℕ) (at : ℕ) → ((S : Space) (b : ℕ) → b ≤ most_base → f S b ≡ g S b) → binding_record spaces f s at ≡ binding_record spaces g s at
unfolding binding_record ◌⟫◌
same_bound spaces f g s at h = first (space_field spaces s at)
  where
    second : (S : Space) (mid : ℕ) (p : Parsed ℕ) → field 1 most_base s mid ≡ p → (p ⟫ on_target spaces f s S mid) ≡ (p ⟫ on_target spaces g s S mid)
    second S mid (got b n) e =
        ap (λ (c : Bool). pick c (bad (fault_at kind.Twice mid)) (target_field spaces s n ⟫ λ target at. got (record { space = S; base = b; target = target }) at))
        (h S b (field_within s mid 1 most_base b n e).1)
    second S mid (bad d) e = refl

    first : (p : Parsed Space) → (p ⟫ λ S mid. field 1 most_base s mid ⟫ on_target spaces f s S mid) ≡ (p ⟫ λ S mid. field 1 most_base s mid ⟫ on_target spaces g s S mid)
    first (got S mid) = second S mid (field 1 most_base s mid) refl
    first (bad d) = refl

-- What was found of a binding, part by part.
module _ (spaces : ℕ) (bound : Space → ℕ → Bool) (s : List ℕ) (at : ℕ) where
  record Parts (x : Binding) (n : ℕ) : Type 0 where
    mid : ℕ
    end : ℕ
    space : space_field spaces s at ≡ got x.space mid
    base : field 1 most_base s mid ≡ got x.base end
    free : bound x.space x.base ≡ false
    target : target_field spaces s end ≡ got x.target n

  -- A binding that was found has its parts.
  parts_of : (x : Binding) (n : ℕ) → binding_record spaces bound s at ≡ got x n → Parts x n
  unfolding binding_record
  parts_of x n e =
      let a = then_got (λ S mid. field 1 most_base s mid ⟫ on_target spaces bound s S mid) (space_field spaces s at) x n e in
      let b = then_got (on_target spaces bound s a.0 a.1) (field 1 most_base s a.1) x n a.3 in
      last a.0 a.1 b.0 b.1 a.2 b.2 (bound a.0 b.0) refl b.3
    where
      last : (S : Space) (mid b end : ℕ) → space_field spaces s at ≡ got S mid → field 1 most_base s mid ≡ got b end → (c : Bool) → bound S b ≡ c
          → pick c (bad (fault_at kind.Twice mid)) (target_field spaces s end ⟫ λ target at. got (record { space = S; base = b; target = target }) at) ≡ got x n → Parts x n
      last S mid b end p q true f e = let z : ◌≡◌ {A = ℕ} 0 1 = cc in absurd (omega arith)
      last S mid b end p q false f e =
          let w = then_got {B = Binding} (λ target at. got (record { space = S; base = b; target = target }) at) (target_field spaces s end) x n e in
          all w.0 w.1 w.2 w.3
        where
          all : (t : Target) (m : ℕ) → target_field spaces s end ≡ got t m → ◌≡◌ {A = Parsed Binding} (got (record { space = S; base = b; target = t }) m) (got x n) → Parts x n
          all t m g e =
              let u : record { space = S; base = b; target = t } ≡ x = cc in
              let v : m ≡ n = cc in
              subst₂ (λ (y : Binding) (k : ℕ). Parts y k) u v (record { mid = mid; end = end; space = p; base = q; free = f; target = g })

  -- And where the parts are, the binding is found.
  of_parts : (x : Binding) (n : ℕ) → Parts x n → binding_record spaces bound s at ≡ got x n
  unfolding binding_record
  of_parts x n p =
      got_then (space_field spaces s at) _ p.space ∙ got_then (field 1 most_base s p.mid) _ p.base
      ∙ ap (λ (c : Bool). pick c (bad (fault_at kind.Twice p.mid)) (target_field spaces s p.end ⟫ λ target at. got (record { space = x.space; base = x.base; target = target }) at)) p.free
      ∙ got_then (target_field spaces s p.end) _ p.target

  -- A binding that was found has its space below the count and its base name in its range.
  pub binding_within : (x : Binding) (n : ℕ) → binding_record spaces bound s at ≡ got x n → (x.space.0 < spaces) × (x.base ≤ most_base)
  binding_within x n e =
      let p = parts_of x n e in (
        space_below spaces s at x.space p.mid p.space,
        (field_within s p.mid 1 most_base x.base p.end p.base).1,
      )

-- A binding that was found is found as well where other names are bound, if its own is not.
pub reads_free : (spaces : ℕ) (f g : Space → ℕ → Bool) (s : List ℕ) (at : ℕ) (x : Binding) (n : ℕ) → g x.space x.base ≡ false → binding_record spaces f s at ≡ got x n
    → binding_record spaces g s at ≡ got x n
reads_free spaces f g s at x n h e =
    let p = parts_of spaces f s at x n e in
    of_parts spaces g s at x n (record { mid = p.mid; end = p.end; space = p.space; base = p.base; free = h; target = p.target })

-- ---- one binding, as code finds it from the rest of the bytes
module _ (spaces : ℕ) (earlier : List ℕ) (s : List ℕ) (at : ℕ) (h : at ≤ length s) where
  -- The binding at a place, where these names are bound already, packed.
  abbrev pub binding_behind : List ℕ → ℕ → Parsed Binding
  binding_behind = binding_record spaces (λ S b. is_among earlier (packed S b))

  -- One that the rest begins with stands at the place.
  there : (x : Binding) (n : ℕ) → binding_behind (rest s at) 0 ≡ got x n → (binding_behind s at ≡ got x (at + n)) × (at + n ≤ length s)
  there x n e = there_got (λ (e : List Binding). binding_behind) (λ e. binding_walks spaces (λ S b. is_among earlier (packed S b))) s [] at h x n e

  -- One that is passed over.
  module _ (name next : ℕ) (p : PassesBinding spaces (rest s at) name next) (c : Bool) (looked : c ≡ is_among earlier name) (away : c ≡ false) where
    passed : binding_behind (rest s at) 0 ≡ got p.0 next
    passed = reads_free spaces unbound (λ S b. is_among earlier (packed S b)) (rest s at) 0 p.0 next (ap (λ (v : ℕ). is_among earlier v) (sym p.2) ∙ sym looked ∙ away) p.1

    pub passed_within : at + next ≤ length s
    passed_within = (there p.0 next passed).1

    pub passed_name : Ok (name, at + next) ≡ found_as name_of (binding_behind s at)
    passed_name = rw p.2 (as_got name_of (there p.0 next passed).0)

  -- One that is read.
  module _ (v : BindingValue) (n : ℕ) (q : Ok (v, n) ≡ found_as binding_value (binding_behind (rest s at) 0)) where
    one : (x : Binding) × (binding_behind (rest s at) 0 ≡ got x n) × (v ≡ binding_value x)
    one = found_got binding_value (binding_behind (rest s at) 0) q

    pub read_within : (v.space.0 < spaces) × (v.base < 65536) × (at + n ≤ length s)
    read_within =
        let w = one in
        let b = binding_within spaces (λ S b. is_among earlier (packed S b)) (rest s at) 0 w.0 n w.1 in
        subst (λ (y : BindingValue). (y.space.0 < spaces) × (y.base < 65536) × (at + n ≤ length s)) (sym w.2) (b.0, omega (arith, b.1), (there w.0 n w.1).1)

    pub read_name : (p : ℕ) → p ≡ packed v.space v.base → Ok (p, at + n) ≡ found_as name_of (binding_behind s at)
    read_name p e =
        let g : p ≡ name_of one.0 = e ∙ ap (λ (y : BindingValue). packed y.space y.base) one.2 in
        rw g (as_got name_of (there one.0 n one.1).0)

  module _ (e : Fault) (q : Err e ≡ found_as binding_value (binding_behind (rest s at) 0)) where
    wrong : (binding_behind s at ≡ bad (moved_fault at e)) × (at + e.place.offset ≤ length s)
    wrong = there_bad (λ (e : List Binding). binding_behind) (λ e. binding_walks spaces (λ S b. is_among earlier (packed S b))) s [] at h e (found_bad binding_value (binding_behind (rest s at) 0) q)

    pub wrong_within : at + e.place.offset ≤ length s
    wrong_within = wrong.1

    pub wrong_name : Err (moved_fault at e) ≡ found_as name_of (binding_behind s at)
    wrong_name = as_bad name_of wrong.0

-- ---- the loop
module _ (spaces : ℕ) where
  abbrev pub binding_next : List Binding → List ℕ → ℕ → Parsed Binding
  binding_next earlier = binding_record spaces (is_bound earlier)

module _ (spaces : ℕ) (walks : (earlier : List Binding) → Walks (binding_next spaces earlier)) (s : List ℕ) where
  pub record Binds (count from room much wide : ℕ) (names places marks : List ℕ) (at i : ℕ) : Type 0 where
    pub size : length names ≡ room
    pub many : length places ≡ much
    pub breadth : length marks ≡ wide
    pub earlier : List Binding
    pub reading : Reading (binding_next spaces) walks s count from at i earlier
    pub kept : Kept name_of names earlier
    pub bases : Bases earlier
    pub standing : Standing (binding_record spaces unbound) s places earlier
    pub marked : Marked marks (take i names)

  pub binds_start : (count from : ℕ) (names places marks : List ℕ) → from ≤ length s → most_delegations ≤ length marks
      → Binds count from (length names) (length places) (length marks) names places marks from 0
  binds_start count from names places marks h g = record {
    size = refl;
    many = refl;
    breadth = refl;
    earlier = [];
    reading = reading_start (binding_next spaces) walks s count from h;
    kept = kept_none name_of names;
    bases = none;
    standing = standing_none (binding_record spaces unbound) s places;
    marked = marked_start marks names g;
  }

  module _ (count from room much wide : ℕ) (names places marks : List ℕ) (at i : ℕ) (r : Binds count from room much wide names places marks at i) where
    -- What names and places hold if all is well.
    abbrev pub BindingsKept : List Binding → Type 0
    BindingsKept l = Kept name_of names l × Standing (binding_record spaces unbound) s places l

    pub binds_end : count ≤ i → Besides after BindingsKept (Ok at) (many (binding_next spaces) count [] s from)
    binds_end h = reading_end (binding_next spaces) walks s count from at i r.earlier r.reading BindingsKept (r.kept, r.standing) h

    module _ (few : count ≤ room) (fits : count ≤ much) (h : i < count) where
      among : (S : Space) (b : ℕ) → b ≤ most_base → is_among (take i names) (packed S b) ≡ is_bound r.earlier S b
      among S b g =
          ap (λ (n : ℕ). is_among (take n names) (packed S b)) (sym r.reading.going.read) ∙ ap (λ (l : List ℕ). is_among l (packed S b)) r.kept.same
          ∙ among_bound S b g r.earlier r.bases

      -- The same, with the names as they are kept.
      same : binding_record spaces (λ S b. is_among (take i names) (packed S b)) s at ≡ binding_next spaces r.earlier s at
      same = same_bound spaces (λ S b. is_among (take i names) (packed S b)) (is_bound r.earlier) s at among

      -- A fault ends the loop.
      pub binds_bad : (e : Fault) → Err e ≡ found_as name_of (binding_record spaces (λ S b. is_among (take i names) (packed S b)) s at) → Besides after BindingsKept (Err e) (many (binding_next spaces) count [] s from)
      binds_bad e q = reading_stop (binding_next spaces) walks s count from at i r.earlier r.reading h BindingsKept e (found_bad name_of (binding_next spaces r.earlier s at) (q ∙ ap (found_as name_of) same))

      -- With one binding more, its name kept and marked, and its place kept.
      pub binds_on : (p next : ℕ) (later : List ℕ) → Ok (p, next) ≡ found_as name_of (binding_record spaces (λ S b. is_among (take i names) (packed S b)) s at) → later ≡ set marks (mark_of p) 1
          → Binds count from room much wide (set names i p) (set places i at) later next (i + 1)
      binds_on p next later q m = more (found_got name_of (binding_next spaces r.earlier s at) (q ∙ ap (found_as name_of) same))
        where
          more : (x : Binding) × (binding_next spaces r.earlier s at ≡ got x next) × (p ≡ name_of x) → Binds count from room much wide (set names i p) (set places i at) later next (i + 1)
          more (x, f, g) =
              let k : i ≡ length r.earlier = sym r.reading.going.read in
              record {
                size = length-set names i p ∙ r.size;
                many = length-set places i at ∙ r.many;
                breadth = ap length m ∙ length-set marks (mark_of p) 1 ∙ r.breadth;
                earlier = r.earlier ▷ x;
                reading = reading_next (binding_next spaces) walks s count from at i r.earlier r.reading h x next f;
                kept = subst (λ (j : ℕ). Kept name_of (set names j p) (r.earlier ▷ x)) (sym k) (kept_more name_of names r.earlier x p (omega (arith, k, r.size)) g r.kept);
                bases = and r.earlier x r.bases (binding_within spaces (is_bound r.earlier) s at x next f).1;
                standing = subst (λ (j : ℕ). Standing (binding_record spaces unbound) s (set places j at) (r.earlier ▷ x)) (sym k)
                    (standing_more (binding_record spaces unbound) s places r.earlier x at next (omega (arith, k, r.many)) r.reading.within
                    (reads_free spaces (is_bound r.earlier) unbound s at x next refl f) r.standing);
                marked = subst (λ (n : List ℕ). Marked n (take (i + 1) (set names i p))) (sym m) (marked_on marks names i p (omega (arith, r.size)) r.marked);
              }
