-- Steps. What is seen of a database that has the tables of a store, before it is taken for one (own choice).
use Rattle.std.specs.Prelude.{◌≡◌, ◌≢◌, ℕ, ℤ, ◌-◌, ◌*◌, ◌≤ℤ◌, ◌<ℤ◌, IfSome, pos, negsuc, false, true, List, [], ◌∷◌, Option, None, Some}
use Rattle.std.specs.List.{AllByRecursion}
use Rattle.sqlite.specs.declared.types.Value.TheVariants.{Int}
use Rattle.sqlite.specs.Command.TheVariants.{Select}
use Rattle.sqlite.specs.Query.{Query, inner, end}
use Rattle.sqlite.specs.Term.{lit, col}
use Rattle.sqlite.specs.Collation.TheVariants.{Binary}
use Rattle.sqlite_value.specs.Keys.{ascending}
use Rattle.sqlite.specs.Order.{Row}
use Rattle.sqlite_trees.specs.Tree.{IsAscending, rowid}
use Rattle.sqlite_rules.specs.Edit.{id_in}
use Rattle.sqlite_rules.specs.Lists.{Has}
use Rattle.sqlite.specs.Listing.{understood, reads_listing}
use Rattle.sqlite.specs.Given.{IsPlain}
use Rattle.sqlite.specs.Schema.{Schema}
use Rattle.ft_store.specs.Made.{compiled_command, is_whole, IsTypedIn}

-- the query of the rowids of a tree, in their order
abbrev pub rowids_of : ℕ → Query
rowids_of tree = record {
  from = inner tree end;
  filter = [];
  group = None;
  project = col 1 0 ∷ [];
  distinct = false;
  collations = [];
  order = (col 1 0, ascending Binary) ∷ [];
  limit = lit (Int (negsuc 0));
  offset = lit (Int (pos 0));
}

-- over the tables of this schema the text is that query
pub record Scans (schema : Schema) (text : List ℕ) (tree : ℕ) : Type 0 where
  pub names : List (List ℕ)
  pub is : compiled_command (understood schema text) ≡ Select (record { lets = []; body = rowids_of tree }) names
  pub plain : IsPlain (understood schema text)
  pub unlisted : reads_listing schema text ≡ false
  pub whole : is_whole text 0 (understood schema text) ≡ true
  pub typed : IsTypedIn schema (rowids_of tree) []

-- the tree of each of the eight tables, in the order of the schema
abbrev pub tree_at : ℕ → ℕ
tree_at at = 2 * at - 1

-- all numbers so far are at most the last one
abbrev pub AreUpTo : Option ℤ → List Row → Type 0
AreUpTo None rows = rows ≡ []
AreUpTo (Some m) rows = AllByRecursion (λ r. (n : ℤ) × (rowid r ≡ Int n) × (n ≤ℤ m)) rows

-- and no two are the same
abbrev pub RiseTo : Option ℤ → List Row → Type 0
RiseTo last rows = AreUpTo last rows × IsAscending (λ a b. rowid a ≢ rowid b) rows

-- the numbers of the rows rise
abbrev pub AreRising : List Row → Type 0
AreRising rows = IsAscending (λ a b. id_in (rowid a) <ℤ id_in (rowid b)) rows

-- the last number is that of one of the rows
abbrev pub IsOneOf : Option ℤ → List Row → Type 0
IsOneOf last rows = IfSome last (λ m. (r : Row) × Has rows r × (id_in (rowid r) ≡ m))
