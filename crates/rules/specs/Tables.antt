-- A table: spaces, bindings, access records and delegations, each kind numbered from 0 in table order; and what is asked of it.
use Rattle.std.specs.Prelude.{List, ℕ}
use Rattle.rules.specs.declared.Key.{Key}
use Rattle.rules.specs.declared.Space.{Space}

-- A path is a row of base names.
abbrev pub Path : Type 0
Path = List ℕ

-- A target is a key, or a name: a space and a path.
pub data Target : Type 0 where
  to_key : Key → Target
  to_name : Space → Path → Target

pub record Binding : Type 0 where
  pub space : Space
  pub base : ℕ
  pub target : Target

-- The owner lists a name of its own.
pub record AccessRecord : Type 0 where
  pub owner : Space
  pub object : ℕ
  pub right : ℕ
  pub path : Path
  pub depth : ℕ

-- The writer hands on, to a name of its own, what it has of an owner whom it names.
pub record Delegation : Type 0 where
  pub writer : Space
  pub owner_path : Path
  pub object : ℕ
  pub right : ℕ
  pub delegatee_path : Path
  pub depth : ℕ

-- What the rules for names read. Each space stands as its SELF key.
pub record NameTable : Type 0 where
  pub spaces : List Key
  pub bindings : List Binding

pub record Table : Type 0 where
  pub names : NameTable
  pub accesses : List AccessRecord
  pub delegations : List Delegation

-- What is asked for: an owner's object, for a right. In a table the owner is a space, in a key table a key.
pub record Asked (Owner : Type 0) : Type 0 where
  pub owner : Owner
  pub object : ℕ
  pub right : ℕ

pub record Request : Type 0 where
  pub subject : Target
  pub asked : Asked Space
