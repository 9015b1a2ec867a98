-- The graph of a request's records, record by record.
use mathlib.Core.Path.{◌≡◌, refl, sym, ◌∙◌, ap, subst}
use mathlib.Core.List.{List}
use Prim.Native.Nat.{ℕ, suc, ◌+◌, ◌<◌, ◌≤◌}
use native.Mathlib.Omega.{arith}
use native.Mathlib.Decide.{ℕ_discrete}
use lib.ListN.{length, set, length-map}
use lib.Seq.{get_or-set_same, get_or-set_other}
use Rattle.std.specs.Prelude.{Option, Some, None}
use Rattle.rules.specs.Tables.{Asked, Table}
use Rattle.rules.specs.Depths.{top}
use Rattle.rules.specs.Ranges.{GoodNames}
use Rattle.rules.specs.Names.{IsSelf}
use Rattle.rules.specs.Sheets.{entry}
use Rattle.rules.specs.Access.{Setting, Name, setting_by}
use Rattle.rules.specs.declared.Key.{Key}
use Rattle.rules.specs.declared.Space.{Space}
use Rattle.rules.specs.declared.Depth.{Depth}
use Rattle.rules.proofs.NamesLaws.{self_one}
use Rattle.rules.proofs.AccessLaws.{table_fixed}
use Rattle.table.specs.ReadTable.{table_at}
use Rattle.table.specs.Finding.{FindsSpace, keys_of}
use Rattle.sheet.proofs.FindsLaws.{space_has, space_none, leads_one}
use Rattle.sheet.proofs.MeaningLaws.{index_spaces}
use Rattle.matching.specs.Matching.{told, GivesTo, Gives}
use Rattle.matching.specs.Held.{Held}
use Rattle.matching.specs.declared.Given.{Given as GivenAnswer}
use Rattle.matching.proofs.MatchingLaws.{gives_to, gives_none}
use Rattle.reach.specs.Graphs.{RootTo}
use Rattle.decision.specs.Gathering.{IsNode, space, stranger, FindsNode, node, GivenSo}
use Rattle.decision.specs.Gathering.{nobody as no_node}

-- ---- nodes
module _ (spaces : List Key) (subject : Key) where
  pub node_below : {v : ℕ} {k : Key} → IsNode spaces subject v k → v ≤ length spaces
  node_below (space s) = omega (arith, s.at.there)
  node_below (stranger f) = omega arith

  pub one_node_lem : ((S T : Space) (k : Key) → IsSelf spaces S k → IsSelf spaces T k → S ≡ T) → (u v : ℕ) (k : Key) → IsNode spaces subject u k → IsNode spaces subject v k → u ≡ v
  one_node_lem apart u v k a b = go u v k k a b refl
    where
      go : (u v : ℕ) (k m : Key) → IsNode spaces subject u k → IsNode spaces subject v m → k ≡ m → u ≡ v
      go u v k m (space {S = S} a) (space {S = T} b) e = ap (λ (x : Space). x.0) (apart S T m (subst (IsSelf spaces S) e a) b)
      go u v k m (space {S = S} a) (stranger f) e = absurd (f S (subst (IsSelf spaces S) e a))
      go u v k m (stranger f) (space {S = S} a) e = absurd (f S (subst (IsSelf spaces S) (sym e) a))
      go u v k m (stranger f) (stranger h) e = refl

  pub one_key : (v : ℕ) (k m : Key) → IsNode spaces subject v k → IsNode spaces subject v m → k ≡ m
  one_key v k m a b = go v v k m a b refl
    where
      go : (u v : ℕ) (k m : Key) → IsNode spaces subject u k → IsNode spaces subject v m → u ≡ v → k ≡ m
      go u v k m (space {S = S} a) (space {S = T} b) e = self_one a (subst (λ (U : Space). IsSelf spaces U m) (λ i. record { 0 = sym e i }) b)
      go u v k m (space {S = S} a) (stranger f) e = absurd (omega (arith, a.at.there, e))
      go u v k m (stranger f) (space {S = T} b) e = absurd (omega (arith, b.at.there, e))
      go u v k m (stranger f) (stranger h) e = refl

  not_node : {v : ℕ} {k : Key} → IsNode spaces subject v k → ((S : Space) → IsSelf spaces S k → ⊥) → (k.0 ≡ subject.0 → ⊥) → ⊥
  not_node (space {S = S} s) f g = f S s
  not_node (stranger h) f g = g refl

module _ (keys : List ℕ) (subject k : Key) (r : Option Space) (f : FindsSpace (keys_of keys) k r) where
  pub node_space : (S : Space) → r ≡ Some S → FindsNode (keys_of keys) subject k (Some S.0)
  node_space S e = node (space (space_has S f e))

  pub node_stranger : r ≡ None → k.0 ≡ subject.0 → FindsNode (keys_of keys) subject k (Some (length keys))
  node_stranger e h =
      let q : subject ≡ k = λ i. record { 0 = sym h i } in
      subst (λ (n : ℕ). FindsNode (keys_of keys) subject k (Some n)) (length-map {B = Key} keys (λ (n : ℕ). record { 0 = n }))
      (node (subst (λ (m : Key). IsNode (keys_of keys) subject (length (keys_of keys)) m) q (stranger (λ S s. space_none f e S (subst (λ (m : Key). IsSelf (keys_of keys) S m) q s)))))

  pub node_nobody : r ≡ None → (k.0 ≡ subject.0 → ⊥) → FindsNode (keys_of keys) subject k None
  node_nobody e h = no_node (λ v n. not_node (keys_of keys) subject n (space_none f e) h)

pub finds_node : {spaces : List Key} {subject k : Key} {r : Option ℕ} (v : ℕ) → FindsNode spaces subject k r → r ≡ Some v → IsNode spaces subject v k
finds_node {spaces} {subject} {k} v (node {v = u} n) e = let q : u ≡ v = cc in subst (λ (x : ℕ). IsNode spaces subject x k) q n
finds_node v (no_node f) e = let z : ◌≡◌ {A = ℕ} 0 1 = cc in absurd (omega arith)

pub finds_nobody : {spaces : List Key} {subject k : Key} {r : Option ℕ} → FindsNode spaces subject k r → r ≡ None → (v : ℕ) → IsNode spaces subject v k → ⊥
finds_nobody (node n) e v m = let z : ◌≡◌ {A = ℕ} 0 1 = cc in absurd (omega arith)
finds_nobody (no_node f) e v m = f v m

-- ---- one more access record
module _ (t : Table) (good : GoodNames t.names) (sheet : List ℕ) (q : Asked Space) (subject : Key) (i : ℕ) (best roots : List ℕ) (so : GivenSo t sheet q subject i best roots) where
  abbrev Y : Setting
  Y = setting_by (told t sheet) t q

  abbrev N : ℕ → Key → Type 0
  N = IsNode t.names.spaces subject

  -- It gives nobody more.
  enough : ((d v : ℕ) (k : Key) → RootTo Y i k d → N v k → suc d ≤ entry best v) → GivenSo t sheet q subject (i + 1) best roots
  enough f = record { codes = so.codes; sound = so.sound; all = λ j d v k h r n. go j d v k h r n (ℕ_discrete j i) }
    where
      go : (j d v : ℕ) (k : Key) → j < i + 1 → RootTo Y j k d → N v k → Dec (j ≡ i) → suc d ≤ entry best v
      go j d v k h r n (yes e) = f d v k (subst (λ (x : ℕ). RootTo Y x k d) e r) n
      go j d v k h r n (no e) = so.all j d v k (omega arith) r n

  -- What it gives, it gives one key at one depth.
  same : {k m : Key} {d b : ℕ} → RootTo Y i k d → RootTo Y i m b → (k ≡ m) × (d ≡ b)
  same {k} {m} x y =
      let w = (table_fixed (told t sheet) t q).root i _ _ x.name y.name x.root y.root in
      (leads_one t.names good sheet y.name.space y.name.path k m (subst (λ (n : Name). told t sheet n.space n.path k) w.0 x.means) y.means, w.1)

  module _ (r : Option GivenAnswer) (found-so : Gives (GivesTo t sheet q i) r) where
    pub gives_none_more : r ≡ None → GivenSo t sheet q subject (i + 1) best roots
    gives_none_more e = enough (λ d v k x n. absurd (gives_none found-so e k d (record { name = x.name; lists = x.root; leads = x.means })))

    module _ (it : GivenAnswer) (e : r ≡ Some it) where
      abbrev k : Key
      k = it.to

      abbrev d : Depth
      d = it.depth

      root : RootTo Y i k d.0
      root = let w = gives_to found-so e in record { name = w.name; root = w.lists; means = w.leads }

      pub given_nobody : (a : Option ℕ) → FindsNode t.names.spaces subject k a → a ≡ None → GivenSo t sheet q subject (i + 1) best roots
      given_nobody a f h = enough (λ b v m x n. absurd (finds_nobody f h v (subst (N v) (same x root).0 n)))

      module _ (a : Option ℕ) (f : FindsNode t.names.spaces subject k a) (v : ℕ) (h : a ≡ Some v) where
        is : N v k
        is = finds_node v f h

        pub given_below : v ≤ length t.names.spaces
        given_below = node_below t.names.spaces subject is

        pub has_enough : d.0 + 1 ≤ entry best v → GivenSo t sheet q subject (i + 1) best roots
        has_enough b =
            enough (λ c u m x n.
            let s = same x root in
            let w : u ≡ v = one_node_lem t.names.spaces subject good.keys_apart u v k (subst (N u) s.0 n) is in
            omega (arith, b, s.1, ap (entry best) w))

        to_code : entry best v < d.0 + 1 → d.0 ≤ top → v < length best → v < length roots → GivenSo t sheet q subject (i + 1) (set best v (d.0 + 1)) (set roots v i)
        to_code b small low lower = record { codes = λ u. codes u (ℕ_discrete u v); sound = λ u c x. sound u c x (ℕ_discrete u v); all = λ j c u m x y n. all j c u m x y n (ℕ_discrete u v) (ℕ_discrete j i) }
          where
            here : entry (set best v (d.0 + 1)) v ≡ d.0 + 1
            here = get_or-set_same best v (d.0 + 1) 0 low

            there : (u : ℕ) → (u ≡ v → ⊥) → entry (set best v (d.0 + 1)) u ≡ entry best u
            there u x = get_or-set_other best v u (d.0 + 1) 0 x

            codes : (u : ℕ) → Dec (u ≡ v) → entry (set best v (d.0 + 1)) u ≤ suc top
            codes u (yes x) = omega (arith, ap (entry (set best v (d.0 + 1))) x, here, small)
            codes u (no x) = omega (arith, there u x, so.codes u)

            sound : (u c : ℕ) → entry (set best v (d.0 + 1)) u ≡ suc c → Dec (u ≡ v) → (m : Key) × RootTo Y (entry (set roots v i) u) m c × N u m
            sound u c x (yes y) =
                let z : d.0 ≡ c = omega (arith, ap (entry (set best v (d.0 + 1))) y, here, x) in
                let o : entry (set roots v i) u ≡ i = ap (entry (set roots v i)) y ∙ get_or-set_same roots v i 0 lower in
                (k, subst (λ (n : ℕ). RootTo Y n k c) (sym o) (subst (RootTo Y i k) z root), subst (λ (n : ℕ). N n k) (sym y) is)
            sound u c x (no y) =
                let w = so.sound u c (sym (there u y) ∙ x) in
                (w.0, subst (λ (n : ℕ). RootTo Y n w.0 c) (sym (get_or-set_other roots v u i 0 y)) w.1, w.2)

            all : (j c u : ℕ) (m : Key) → j < i + 1 → RootTo Y j m c → N u m → Dec (u ≡ v) → Dec (j ≡ i) → suc c ≤ entry (set best v (d.0 + 1)) u
            all j c u m x y n (yes w) (yes z) = omega (arith, ap (entry (set best v (d.0 + 1))) w, here, (same (subst (λ (a : ℕ). RootTo Y a m c) z y) root).1)
            all j c u m x y n (yes w) (no z) = omega (arith, ap (entry (set best v (d.0 + 1))) w, here, b, so.all j c u m (omega arith) y n, ap (entry best) w)
            all j c u m x y n (no w) (yes z) = absurd (w (one_node_lem t.names.spaces subject good.keys_apart u v k (subst (N u) (same (subst (λ (a : ℕ). RootTo Y a m c) z y) root).0 n) is))
            all j c u m x y n (no w) (no z) = omega (arith, there u w, so.all j c u m (omega arith) y n)

        pub raised : (c : ℕ) → c ≡ d.0 → entry best v < c + 1 → d.0 ≤ top → v < length best → v < length roots → GivenSo t sheet q subject (i + 1) (set best v (c + 1)) (set roots v i)
        raised c e b small low lower = subst (λ (x : ℕ). GivenSo t sheet q subject (i + 1) (set best v (x + 1)) (set roots v i)) (sym e) (to_code (omega (arith, b, e)) small low lower)

-- ---- where code reads and writes
module _ (s keys names accesses delegations : List ℕ) (held : Held s keys names accesses delegations) where
  pub node_here : {subject k : Key} {a : Option ℕ} → FindsNode (keys_of keys) subject k a → FindsNode (table_at s).names.spaces subject k a
  node_here {subject} {k} {a} f = subst (λ (l : List Key). FindsNode l subject k a) held.index.spaces f

  pub node_fits : (subject k : Key) (a : Option ℕ) (v : ℕ) → FindsNode (keys_of keys) subject k a → a ≡ Some v → v ≤ length keys
  node_fits subject k a v f e =
      omega (arith, node_below (table_at s).names.spaces subject (finds_node v (node_here f) e), index_spaces (table_at s).names keys names held.index)

  pub depth_fits : (sheet : List ℕ) (q : Asked Space) (i : ℕ) (r : Option GivenAnswer) (it : GivenAnswer) → Gives (GivesTo (table_at s) sheet q i) r → r ≡ Some it → it.depth.0 ≤ top
  depth_fits sheet q i r it g e = (held.good.accesses i _ (gives_to g e).lists.at).depth

pub given_all : (t : Table) (sheet : List ℕ) (q : Asked Space) (subject : Key) (i n : ℕ) (best roots : List ℕ) → n ≤ i → i ≤ n → GivenSo t sheet q subject i best roots → GivenSo t sheet q subject n best roots
given_all t sheet q subject i n best roots h l w = let e : i ≡ n = omega arith in subst (λ (x : ℕ). GivenSo t sheet q subject x best roots) e w
