-- A chain, record after record.
use mathlib.Core.Path.{◌≡◌, refl, sym, ◌∙◌, ap, subst, subst₂}
use mathlib.Core.List.{List, [], ◌∷◌, ◌++◌}
use Prim.Native.Nat.{ℕ, suc, ◌+◌, ◌<◌, ◌≤◌}
use native.Mathlib.Numerals.{add-one}
use native.Mathlib.Omega.{arith}
use lib.ListN.{length, take, drop, get_or, take-append-drop}
use lib.Seq.{take-suc, take_all, drop-cons}
use Rattle.std.specs.Prelude.{Option, Some, None}
use Rattle.rules.specs.Lists.{◌▷◌}
use Rattle.rules.specs.Ranges.{GoodNames}
use Rattle.rules.specs.Tables.{Delegation, Asked, Table}
use Rattle.rules.specs.Names.{IsSelf}
use Rattle.rules.specs.Depths.{Step}
use Rattle.rules.specs.Access.{Setting, Name, Lists, Writes, first, next, setting_by}
use Rattle.rules.specs.declared.Key.{Key}
use Rattle.rules.specs.declared.Space.{Space}
use Rattle.rules.specs.declared.Depth.{Depth}
use Rattle.rules.proofs.ListsLaws.{at_one}
use Rattle.rules.proofs.NamesLaws.{self_one}
use Rattle.rules.proofs.AccessLaws.{Goes, chain→goes, goes→chain, chain_one, table_fixed}
use Rattle.records.specs.Parsed.{Parsed, got, bad}
use Rattle.records.specs.Fields.{field}
use Rattle.records.specs.Many.{many}
use Rattle.records.specs.DerivationBytes.{chain_number}
use Rattle.records.specs.declared.faults.Fault.{Fault}
use Rattle.records.proofs.ParsedLaws.{got_or_bad}
use Rattle.records.proofs.ManyLaws.{Left, left_on}
use Rattle.table.specs.ReadTable.{table_at}
use Rattle.sheet.proofs.FindsLaws.{own_key, leads_one}
use Rattle.sheet.proofs.MeaningLaws.{index_spaces}
use Rattle.matching.specs.Matching.{told, GivesTo, HandsOn, Gives, to, not_given, Hands}
use Rattle.matching.specs.Held.{Held}
use Rattle.matching.proofs.MatchingLaws.{gives_to, gives_none, hands_on, hands_none}
use Rattle.matching.specs.declared.Given.{Given}
use Rattle.matching.specs.declared.Handed.{Handed}
use Rattle.checker.specs.Walks.{Chained, ChainTo, WalksAll, StepTo, Numbered, GoesOn}

-- ---- one step
module _ (s keys names accesses delegations : List ℕ) (held : Held s keys names accesses delegations) (sheet : List ℕ) (q : Asked Space) (j : ℕ) (r : Option Handed) (found : Hands (HandsOn (table_at s) sheet q j) r) (holder : Key) (a : ℕ) where
  abbrev pub Steps : Option Given → Type 0
  Steps g = Gives (StepTo (table_at s) sheet q j holder a) g

  -- A step is one of the delegation that was found.
  as_handed : {k : Key} {b : ℕ} (w : StepTo (table_at s) sheet q j holder a k b) → HandsOn (table_at s) sheet q j w.name.space k w.depth
  as_handed w = record { path = w.name.path; writer = holder; writes = w.writes; leads = w.leads }

  pub hands_nothing : r ≡ None → Steps None
  hands_nothing e = not_given (λ k b w. hands_none found e w.name.space k w.depth (as_handed w))

  module _ (h : Handed) (e : r ≡ Some h) where
    hands : HandsOn (table_at s) sheet q j h.writer h.to h.depth.0
    hands = hands_on found e

    pub writer_below : h.writer.0 < length keys
    writer_below = omega (arith, hands.writes.is_self.at.there, index_spaces (table_at s).names keys names held.index)

    writer_self : IsSelf (table_at s).names.spaces h.writer (record { 0 = get_or keys h.writer.0 0 })
    writer_self = own_key (table_at s).names keys names held.index h.writer writer_below

    same_writer : {m : Key} {b : ℕ} (w : StepTo (table_at s) sheet q j holder a m b) → w.name.space ≡ h.writer
    same_writer w = ap (λ (x : Delegation). x.writer) (at_one w.writes.at hands.writes.at)

    pub another_wrote : (get_or keys h.writer.0 0 ≡ holder.0 → ⊥) → Steps None
    another_wrote f =
        not_given (λ m b w. f (ap (λ (x : Key). x.0) (self_one writer_self (subst (λ (T : Space). IsSelf (table_at s).names.spaces T holder) (same_writer w) w.writes.is_self))))

    pub no_depth_left : a ≡ 0 → Steps None
    no_depth_left z = not_given (λ m b w. omega (arith, z, w.step.some))

    pub steps_on : get_or keys h.writer.0 0 ≡ holder.0 → (b : Depth) → Step a h.depth.0 b.0 → Steps (Some (record { to = h.to; depth = b }))
    steps_on p b st = to (record { to = h.to; depth = b }) (record {
      name = record { space = h.writer; path = hands.path };
      depth = h.depth.0;
      writes = subst (λ (x : Key). Writes (told (table_at s) sheet) (table_at s) q j x (record { space = h.writer; path = hands.path }) h.depth.0) is_holder hands.writes;
      step = st;
      leads = hands.leads;
    })
      where
        is_holder : hands.writer ≡ holder
        is_holder = self_one hands.writes.is_self writer_self ∙ (λ i. record { 0 = p i })

-- ---- how far a chain was walked
module _ (t : Table) (sheet : List ℕ) (q : Asked Space) (s : List ℕ) where
  pub record Walked (access : ℕ) (D : List ℕ) (end at i : ℕ) (holder : Key) (d : ℕ) : Type 0 where
    pub left : Left chain_number s D end i at
    pub reached : ChainTo t sheet q access (take i D) holder d

  pub record Walking (from count : ℕ) (start : Key) (begun at i : ℕ) (holder : Key) (d : ℕ) : Type 0 where
    pub most : i ≤ count
    pub walked : (access : ℕ) (D : List ℕ) (n : Numbered s from count D) → ChainTo t sheet q access [] start begun → Walked access D n.end at i holder d

-- ---- chains
module _ (t : Table) (good : GoodNames t.names) (sheet : List ℕ) (q : Asked Space) where
  abbrev Y : Setting
  Y = setting_by (told t sheet) t q

  goes_split : (n : Name) (a : ℕ) (A B : List ℕ) (l : Name) (r : ℕ) → Goes Y n a (A ++ B) l r → (m : Name) × (b : ℕ) × Goes Y n a A m b × Goes Y m b B l r
  goes_split n a [] B l r g = (n, a, (refl, refl), g)
  goes_split n a (j ∷ A) B l r g =
      let w = goes_split g.1 g.3 A B l r g.7 in
      (w.0, w.1, (g.0, g.1, g.2, g.3, g.4, g.5, g.6, w.2), w.3)

  -- Where a chain goes on, each of its names leads to a key.
  goes_leads : (n : Name) (a : ℕ) (c : List ℕ) (l : Name) (r : ℕ) (k : Key) → Goes Y n a c l r → told t sheet l.space l.path k → (m : Key) × told t sheet n.space n.path m
  goes_leads n a [] l r k g w = (k, subst (λ (x : Name). told t sheet x.space x.path k) (sym g.0) w)
  goes_leads n a (j ∷ c) l r k g w = (g.0, g.4)

  module _ (i : ℕ) where
    pub chain_begins : {k : Key} {d : ℕ} → GivesTo t sheet q i k d → ChainTo t sheet q i [] k d
    chain_begins w = record { last = w.name; chain = first w.lists; leads = w.leads }

    -- A chain begins with its access record.
    pub begun_by : (c : List ℕ) (k : Key) (d : ℕ) → ChainTo t sheet q i c k d → (m : Key) × (b : ℕ) × GivesTo t sheet q i m b
    begun_by c k d w =
        let g = chain→goes Y w.chain in
        let m = goes_leads g.0 g.1 c w.last d k g.3 w.leads in
        (m.0, g.1, record { name = g.0; lists = g.2; leads = m.1 })

    -- One more delegation.
    pub chain_longer : (c : List ℕ) (j : ℕ) {k m : Key} {d b : ℕ} → ChainTo t sheet q i c k d → StepTo t sheet q j k d m b → ChainTo t sheet q i (c ▷ j) m b
    chain_longer c j w s = record { last = s.name; chain = next {j = j} w.chain w.leads s.writes s.step; leads = s.leads }

    -- A chain goes through what its first records give.
    pub goes_through : (c : List ℕ) (j : ℕ) (e : List ℕ) {k m : Key} {d b : ℕ} → ChainTo t sheet q i c k d → ChainTo t sheet q i (c ++ (j ∷ e)) m b → (l : Key) × (r : ℕ) × StepTo t sheet q j k d l r
    goes_through c j e {k} {m} {d} {b} w v = go (chain→goes Y v.chain)
      where
        go : (n : Name) × (a : ℕ) × Lists t q i n a × Goes Y n a (c ++ (j ∷ e)) v.last b → (l : Key) × (r : ℕ) × StepTo t sheet q j k d l r
        go (n, a, root, g) =
            let x = goes_split n a c (j ∷ e) v.last b g in
            let o = chain_one Y (table_fixed (told t sheet) t q) (goes→chain Y i c x.0 x.1 (n, a, root, x.2)) w.chain in
            on_it x.0 x.1 x.3 o.0 o.1
          where
            on_it : (n : Name) (a : ℕ) → Goes Y n a (j ∷ e) v.last b → n ≡ w.last → a ≡ d → (l : Key) × (r : ℕ) × StepTo t sheet q j k d l r
            on_it n a h p z =
                let m₂ = goes_leads h.1 h.3 e v.last b m h.7 v.leads in
                let u : h.0 ≡ k = leads_one t.names good sheet n.space n.path h.0 k h.4 (subst (λ (x : Name). told t sheet x.space x.path k) (sym p) w.leads) in (
                  m₂.0,
                  h.3,
                  record {
                    name = h.1;
                    depth = h.2;
                    writes = subst (λ (x : Key). Writes (told t sheet) t q j x h.1 h.2) u h.5;
                    step = subst (λ (x : ℕ). Step x h.2 h.3) z h.6;
                    leads = m₂.1;
                  },
                )

  -- ---- the loop
  module _ (s : List ℕ) (from count : ℕ) (start : Key) (begun : ℕ) where
    module _ (at i : ℕ) (holder : Key) (d : ℕ) (o : Walking t sheet q s from count start begun at i holder d) where
      pub walk_ends : (g : Given) → g.to ≡ holder → g.depth.0 ≡ d → count ≤ i → GoesOn t sheet q s from count start begun (Some g)
      walk_ends g u e h a D n w =
          to g (subst₂ (λ (m : Key) (x : ℕ). ChainTo t sheet q a D m x) (sym u) (sym e) (subst (λ (c : List ℕ). ChainTo t sheet q a c holder d) (take_all i D (omega (arith, n.size))) (o.walked a D n w).reached))

      module _ (h : i < count) where
        next_number : (D : List ℕ) (n : Numbered s from count D) → Left chain_number s D n.end i at → (mid : ℕ) × (field 0 511 s at ≡ got (get_or D i 0) mid) × Left chain_number s D n.end (i + 1) mid
        next_number D n l = left_on chain_number s D n.end i at 0 (omega (arith, n.size)) l

        pub no_next : (f : Fault) → field 0 511 s at ≡ bad f → GoesOn t sheet q s from count start begun None
        no_next f g a D n w = absurd (got_or_bad (next_number D n (o.walked a D n w).left).1 g)

        module _ (v next₂ : ℕ) (g : field 0 511 s at ≡ got v next₂) where
          is_next : (a : ℕ) (D : List ℕ) (n : Numbered s from count D) → ChainTo t sheet q a [] start begun → (get_or D i 0 ≡ v) × Left chain_number s D n.end (i + 1) next₂
          is_next a D n w =
              let x = next_number D n (o.walked a D n w).left in
              let e : ◌≡◌ {A = Parsed ℕ} (got (get_or D i 0) x.0) (got v next₂) = sym x.1 ∙ g in
              let b : get_or D i 0 ≡ v = cc e in
              let c : x.0 ≡ next₂ = cc e in
              (b, subst (Left chain_number s D n.end (i + 1)) c x.2)

          -- The chain, taken apart at this number.
          apart : (a : ℕ) (D : List ℕ) (n : Numbered s from count D) → ChainTo t sheet q a [] start begun → D ≡ take i D ++ (v ∷ drop (suc i) D)
          apart a D n w =
              sym (take-append-drop i D) ∙ ap (λ (l : List ℕ). take i D ++ l) (drop-cons D i 0 (omega (arith, n.size)) ∙ ap (λ (x : ℕ). x ∷ drop (suc i) D) (is_next a D n w).0)

          -- If the chain gives a key anything, it goes through a step here.
          must_step : (a : ℕ) (D : List ℕ) (n : Numbered s from count D) → ChainTo t sheet q a [] start begun → (k : Key) (b : ℕ) → ChainTo t sheet q a D k b → (l : Key) × (x : ℕ) × StepTo t sheet q v holder d l x
          must_step a D n w k b u =
              goes_through a (take i D) v (drop (suc i) D) (o.walked a D n w).reached (subst (λ (c : List ℕ). ChainTo t sheet q a c k b) (apart a D n w) u)

          pub not_written : length t.delegations ≤ v → GoesOn t sheet q s from count start begun None
          not_written e a D n w = not_given (λ k b u. let z = (must_step a D n w k b u).2.writes.at.there in omega arith)

          module _ (x : Option Given) (one : Gives (StepTo t sheet q v holder d) x) where
            pub stops_here : x ≡ None → GoesOn t sheet q s from count start begun None
            stops_here e a D n w = not_given (λ k b u. let z = must_step a D n w k b u in gives_none one e z.0 z.1 z.2)

            pub walks_on : (k : Given) → x ≡ Some k → Walking t sheet q s from count start begun next₂ (i + 1) k.to k.depth.0
            walks_on k e = record {
              most = omega arith;
              walked = λ a D n w. record {
                left = (is_next a D n w).1;
                reached = subst (λ (c : List ℕ). ChainTo t sheet q a c k.to k.depth.0) (sym (longer a D n w)) (chain_longer a (take i D) v (o.walked a D n w).reached (gives_to one e));
              };
            }
              where
                longer : (a : ℕ) (D : List ℕ) (n : Numbered s from count D) → ChainTo t sheet q a [] start begun → take (i + 1) D ≡ take i D ▷ v
                longer a D n w = ap (λ (m : ℕ). take m D) (add-one i) ∙ take-suc D i 0 (omega (arith, n.size)) ∙ ap (λ (m : ℕ). take i D ▷ m) (is_next a D n w).0

  -- ---- the whole chain
  module _ (s : List ℕ) (from count : ℕ) where
    pub no_first : (f : Fault) → field 0 255 s from ≡ bad f → WalksAll t sheet q s from count None
    no_first f g a D n = absurd (got_or_bad n.first g)

    module _ (v next₂ : ℕ) (g : field 0 255 s from ≡ got v next₂) where
      is_first : (a : ℕ) (D : List ℕ) → Chained s from count a D → (a ≡ v) × Numbered s next₂ count D
      is_first a D n =
          let e : ◌≡◌ {A = Parsed ℕ} (got a n.middle) (got v next₂) = sym n.first ∙ g in
          let b : a ≡ v = cc e in
          let c : n.middle ≡ next₂ = cc e in
          (b, record { end = n.end; reads = ap (λ (m : ℕ). many chain_number count [] s m) (sym c) ∙ n.others; size = n.size })

      pub not_listed : length t.accesses ≤ v → WalksAll t sheet q s from count None
      not_listed h a D n = not_given (λ k b w. let z = (begun_by a D k b w).2.lists.at.there in omega (arith, z, (is_first a D n).0))

      module _ (x : Option Given) (one : Gives (GivesTo t sheet q v) x) where
        pub gives_nobody : x ≡ None → WalksAll t sheet q s from count None
        gives_nobody e a D n =
            not_given (λ k b w. let z = begun_by a D k b w in gives_none one e z.0 z.1 (subst (λ (m : ℕ). GivesTo t sheet q m z.0 z.1) (is_first a D n).0 z.2))

        pub walks_from : (k : Given) → x ≡ Some k → (y : Option Given) → GoesOn t sheet q s next₂ count k.to k.depth.0 y → WalksAll t sheet q s from count y
        walks_from k e y w a D n =
            let z = is_first a D n in
            w a D z.1 (subst (λ (m : ℕ). ChainTo t sheet q m [] k.to k.depth.0) (sym z.0) (chain_begins v (gives_to one e)))
