-- What was settled and marked is a derivation that holds, with nothing idle.
use mathlib.Core.Logic.{◌⊎◌, inl, inr}
use mathlib.Core.Bool.{Bool}
use mathlib.Core.List.{List}
use Prim.Native.Nat.{ℕ}
use Rattle.rules.specs.Lists.{In, keep}
use Rattle.rules.specs.Tables.{Path, to_name, Request, Table}
use Rattle.rules.specs.Ranges.{Good}
use Rattle.rules.specs.Names.{Means, TargetMeans, Through}
use Rattle.rules.specs.Sheets.{Exact}
use Rattle.rules.specs.Access.{setting_by}
use Rattle.rules.specs.Filling.{Filling, AtRest}
use Rattle.rules.specs.Derivations.{Derivation, Holds, Used, by_subject, by_binding, by_access, by_owner_path, by_delegatee_path, NoneIdle}
use Rattle.rules.specs.declared.Key.{Key}
use Rattle.rules.specs.declared.Space.{Space}
use Rattle.rules.proofs.SheetsLaws.{exact_leads, rest_listed}
use Rattle.rules.proofs.NeededLaws.{keep_in}
use Rattle.rules.proofs.DerivationsLaws.{chain_wider, Covers, GivesAll, covered_holds}
use Rattle.matching.specs.Matching.{told}
use Rattle.marking.specs.Marks.{marked}
use Rattle.decision.specs.Settling.{ChainAt}
use Rattle.decision.specs.Showing.{ByDelegation, Reason, for_subject, for_access, for_chain, for_binding, AllMarked}

module _ (t : Table) (good : Good t) (sheet : List ℕ) (exact : Exact t.names sheet) (L : List ℕ) (filling : Filling t.names sheet L) (rest : AtRest t.names sheet) (r : Request) (access : ℕ) (c : List ℕ) (marks : List Bool)
    (all : AllMarked t r.subject access c L marks) where
  abbrev shown : Derivation
  shown = record { bindings = keep (marked marks) L; access = access; delegations = c }

  covers : Covers t r access c L (marked marks)
  covers = record {
    by_subject = all.by_subject;
    by_bindings = all.by_bindings;
    by_access = λ x a j h. all.by_access j (record { access = x; at = a; through = h });
    by_owner_path = λ m x i a j h. all.by_chain m j i (record { delegation = x; at = a; through = inl h });
    by_delegatee_path = λ m x i a j h. all.by_chain m j i (record { delegation = x; at = a; through = inr h });
  }

  gives_all : GivesAll t.names L
  gives_all = record { ordered = filling.ordered; none_twice = filling.none_twice; all = rest_listed t.names good.names sheet L filling rest }

  means : (S : Space) (p : Path) (k : Key) → told t sheet S p k → Means t.names S p k
  means S p k w = (exact_leads t.names good.names sheet exact (to_name S p) k).0 w

  -- THE DERIVATION HOLDS at the depth of its chain.
  pub shown_holds : (k : Key) (d : ℕ) → TargetMeans t.names r.subject k → ChainAt (setting_by (told t sheet) t r.asked) k d access c → Holds t r shown d
  shown_holds k d m w =
      covered_holds t good.names L gives_all (marked marks) r access c covers k m w.name d (chain_wider (told t sheet) (Means t.names) t r.asked means w.chain) (means w.name.space w.name.path k w.means)

  -- Nothing in it is idle.
  pub shown_none_idle : NoneIdle t r shown
  shown_none_idle i h = let w = (keep_in (marked marks) L i).0 h in used (all.why i w.1)
    where
      by_path : (j : ℕ) → In c j → (x : ByDelegation t j i) → Through t.names x.delegation.writer x.delegation.owner_path i ⊎ Through t.names x.delegation.writer x.delegation.delegatee_path i → Used t r shown i
      by_path j m x (inl y) = by_owner_path m x.at y
      by_path j m x (inr y) = by_delegatee_path m x.at y

      used : Reason t r.subject access c L marks i → Used t r shown i
      used (for_subject x) = by_subject x
      used (for_access x) = by_access x.at x.through
      used (for_chain j m x) = by_path j m x x.through
      used (for_binding m j x) = by_binding ((keep_in (marked marks) L m).1 (j, x.wanting)) x.at x.through
