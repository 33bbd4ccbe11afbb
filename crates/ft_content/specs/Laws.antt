-- Meaning. How the index changes with one document, and laws of commands.
use Rattle.std.specs.Prelude.{◌≡◌, ℕ, Bool, ◌||◌, List, [], ◌∷◌, map, filter, Option, Some, None, ℤ, length, nat_lt, IsTrue}
use Rattle.std.specs.Ordering.{int_cmp, int_eq, eq_by_cmp}
use Rattle.std.specs.FinMap.Entries.{put, find}
use Rattle.ft_values.specs.Cells.{Cell}
use Rattle.ft_content.specs.Content.{Column, Documents, Content, IsContent}
use Rattle.ft_commands.specs.Command.{Filter}
use Rattle.ft_content.specs.Step.{Contents, has_docid, listed_columns, create_fault, insert_fault, update_fault}
use Rattle.ft_content.specs.Answer.{cut}
use Rattle.ft_content.specs.Index.{Spot, Entry, Key, key_cmp, key_of, SpotLists, spot_lists, document_entries}
use Rattle.ft_content.specs.Step.{made_column, inserted, updated, deleted}

-- entries of one docid, and those of the others
abbrev pub entries_of_docid : ℤ → List Entry → List Entry
entries_of_docid docid es = filter (λ (e : Entry). int_eq docid e.docid) es

abbrev pub content_with : List Column → Documents → Content
content_with columns documents = record { columns = columns; documents = documents }

-- the spots that entries give a key
abbrev pub spots_of_key : Key → List Entry → List Spot
spots_of_key key es = map (λ (e : Entry). e.spot) (filter (λ (e : Entry). eq_by_cmp key_cmp key (key_of e)) es)

-- a list has spots
abbrev pub some_if_any : List Spot → Option (List Spot)
some_if_any [] = None
some_if_any (s ∷ ss) = Some (s ∷ ss)

-- The list of a key has the spots of the entries with that key, and is there where there are any.
abbrev pub ListsAreEntries : Type 0
ListsAreEntries = (es : List Entry) (term : List ℕ) (docid : ℤ) → find key_cmp (term, docid) (spot_lists es) ≡ some_if_any (spots_of_key (term, docid) es)

-- ---- what a plan does to one document's lists

-- the lists of one document, from scratch
abbrev pub document_lists : List Column → ℤ → Option (List Cell) → SpotLists
document_lists columns docid None = []
document_lists columns docid (Some cells) = spot_lists (document_entries columns (docid, cells))

-- ---- what a command makes of a content is a content

abbrev pub InsertKeepsContent : Type 0
InsertKeepsContent =
    (table : List ℕ) (content : Content) (columns : Option (List (List ℕ))) (rows : List (List Cell)) → IsContent table content
    → insert_fault content (listed_columns content columns) rows ≡ None →
    IsContent table (record content { documents = inserted content columns rows })

abbrev pub UpdateKeepsContent : Type 0
UpdateKeepsContent =
    (table : List ℕ) (content : Content) (sets : List (List ℕ × Cell)) (f : Filter) → IsContent table content → update_fault table content sets f ≡ None →
    IsContent table (record content { documents = updated content sets f })

abbrev pub DeleteKeepsContent : Type 0
DeleteKeepsContent =
    (table : List ℕ) (content : Content) (f : Filter) → IsContent table content → IsContent table (record content { documents = deleted content f })

abbrev pub CreateMakesContent : Type 0
CreateMakesContent = (contents : Contents) (table module_name : List ℕ) (options : List (List ℕ × List ℕ)) (names : List (List ℕ)) (if_new : Bool) →
    IsTrue (nat_lt 0 (length names)) → create_fault contents table module_name options names if_new ≡ None
    → IsContent table (content_with (map (made_column options) names) [])

pub record CommandsKeepContent : Type 0 where
  pub create : CreateMakesContent
  pub insert : InsertKeepsContent
  pub update : UpdateKeepsContent
  pub delete : DeleteKeepsContent

-- ---- a command in pieces

-- After a document is put its docid is taken, and so is each that was.
abbrev pub DocidIsTaken : Type 0
DocidIsTaken =
    (documents : Documents) (docid other : ℤ) (cells : List Cell)
    → has_docid (put int_cmp docid cells documents) other ≡ (int_eq other docid || has_docid documents other)

-- Documents may be cut off before their rows are made.
abbrev pub RowsAreCutFirst : Type 0
RowsAreCutFirst =
    (row : ℤ × List Cell → List Cell) (limit : Option ℕ) (offset : ℕ) (documents : Documents)
    → cut limit offset (map row documents) ≡ map row (cut limit offset documents)

pub record GoInPieces : Type 0 where
  pub taken : DocidIsTaken
  pub cut : RowsAreCutFirst
