-- Meaning. What posting lists mean: documents with their postings, as a walk over the lists sees them (own choice).
use Rattle.std.specs.Prelude.{◌≡◌, ℕ, Bool, if◌then◌else◌, List, [], ◌∷◌, map, filter, Some, Ok, ℤ, length}
use Rattle.std.specs.List.{flat_map}
use Rattle.std.specs.declared.cmp.Ordering.{Ordering}
use Rattle.std.specs.Ordering.{nat_cmp, int_cmp, int_eq, ordering_then}
use Rattle.std.specs.Cmp.Lexicographic.{slice_cmp}
use Rattle.std.specs.FinMap.Entries.{put}
use Rattle.ft_match.specs.Trees.{Tree}
use Rattle.ft_match.specs.Documents.{Posting, Document, AreDocuments, documents_of, PlaceList, lists_with, place_count}
use Rattle.ft_match.specs.Occurs.{PlainHit, hits_of, offsets_of}
use Rattle.ft_values.specs.Cells.{Cell}
use Rattle.ft_content.specs.Content.{Content, IsContent}
use Rattle.ft_content.specs.Index.{document_tokens, document_postings, Spot, Entry, Key, index_rows}
use Rattle.ft_commands.specs.Command.{Match}
use Rattle.ft_content.specs.Answer.{reading, chosen}

-- the documents of a content, each with the tokens of its columns
abbrev pub content_documents : Content → List Document
content_documents content = documents_of (map (λ (d : ℤ × List Cell). (d.0, document_tokens content.columns d.1)) content.documents)

-- an entry for each spot of each list
abbrev pub list_entries : Key × List Spot → List Entry
list_entries list = map (λ (s : Spot). record { term = list.0.0; docid = list.0.1; spot = s }) list.1

abbrev pub entries_in : List (Key × List Spot) → List Entry
entries_in lists = flat_map list_entries lists

-- by docid, column and position; the rest tells apart what no index has at one place
abbrev pub entry_cmp : Entry → Entry → Ordering
entry_cmp a b =
    ordering_then (int_cmp a.docid b.docid)
    (ordering_then (nat_cmp a.spot.column b.spot.column)
    (ordering_then (nat_cmp a.spot.pos b.spot.pos)
    (ordering_then (nat_cmp a.spot.place b.spot.place)
    (ordering_then (nat_cmp a.spot.size b.spot.size) (slice_cmp nat_cmp a.term b.term)))))

-- the set of entries, in that order
unfoldable pub entry_set : List Entry → List (Entry × Unit {0})
entry_set [] = []
entry_set (e ∷ es) = put entry_cmp e tt (entry_set es)

abbrev pub posting_of : Entry → Posting
posting_of e = record { term = e.term; place = record { column = e.spot.column; pos = e.spot.pos; start = e.spot.place; size = e.spot.size } }

-- entries one after another, as the documents that have them: an entry joins the document after it, if that has its docid
abbrev pub with_entry : Entry → List Document → List Document
with_entry e [] = record { docid = e.docid; postings = posting_of e ∷ [] } ∷ []
with_entry e (d ∷ ds) =
    if int_eq e.docid d.docid then (record { docid = d.docid; postings = posting_of e ∷ d.postings } ∷ ds)
    else (record { docid = e.docid; postings = posting_of e ∷ [] } ∷ d ∷ ds)

unfoldable pub grouped : List Entry → List Document
grouped [] = []
grouped (e ∷ es) = with_entry e (grouped es)

-- the documents that posting lists mean
unfoldable pub documents_in : List (Key × List Spot) → List Document
documents_in lists = grouped (map (λ (e : Entry × Unit {0}). e.0) (entry_set (entries_in lists)))

-- The posting lists of a content mean its documents, without those that have no tokens.
abbrev pub ListsMeanDocuments : Type 0
ListsMeanDocuments = (table : List ℕ) (content : Content) → IsContent table content → documents_in (index_rows content).lists ≡ content_documents content

-- the hit of a document
abbrev pub hit_in : Content → Tree → ℤ × List Cell → PlainHit
hit_in content tree document = record { docid = document.0; offsets = offsets_of (document_postings content.columns document.1) tree }

-- So the hits of a query over the lists are the documents that a MATCH with its text chooses, each with its offsets.
abbrev pub HitsAreChosen : Type 0
HitsAreChosen = (table : List ℕ) (content : Content) (name text : List ℕ) (tree : Tree) → IsContent table content → reading content name text ≡ Ok (Some tree) →
    hits_of tree (documents_in (index_rows content).lists) ≡ map (hit_in content tree) (chosen content (Match name text))

abbrev pub lists_with_terms : (List ℕ → Bool) → List (Key × List Spot) → List (Key × List Spot)
lists_with_terms test lists = filter (λ (l : Key × List Spot). test l.0.0) lists

abbrev pub all_places : Document → PlaceList
all_places d = record { docid = d.docid; places = map (λ (p : Posting). p.place) d.postings }

-- What a walk over a content's documents is answered for the terms that pass a test is what the lists of those terms mean.
abbrev pub TermsAreTheirLists : Type 0
TermsAreTheirLists = (table : List ℕ) (content : Content) (test : List ℕ → Bool) → IsContent table content →
    lists_with test (content_documents content) ≡ map all_places (documents_in (lists_with_terms test (index_rows content).lists))

-- A content's documents are in order, as a walk wants them.
abbrev pub DocumentsAreInOrder : Type 0
DocumentsAreInOrder = (table : List ℕ) (content : Content) → IsContent table content → AreDocuments (content_documents content)

-- As many places as there are entries in the lists of those terms.
abbrev pub TermsAreCounted : Type 0
TermsAreCounted = (table : List ℕ) (content : Content) (test : List ℕ → Bool) → IsContent table content →
    place_count (lists_with test (content_documents content)) ≡ length (entries_in (lists_with_terms test (index_rows content).lists))

-- what lists mean, and a query over them
pub record ListsMeanContent : Type 0 where
  pub documents : ListsMeanDocuments
  pub hits : HitsAreChosen
  pub terms : TermsAreTheirLists
  pub counted : TermsAreCounted
  pub order : DocumentsAreInOrder
