-- Steps. The posting lists of documents by their terms. All of it is our own choice.
use Rattle.std.specs.Prelude.{List, [], map, ℕ, ℤ, String, Vec, string_bytes, filter, Bool}
use Rattle.std.specs.List.{flat_map}
use Rattle.std.specs.Ordering.{int_cmp, int_eq, is_le}
use Rattle.std.specs.declared.alloc.Global.{Global}
use Rattle.ft_values.specs.declared.rows.Spot.{Spot}
use Rattle.ft_rows.specs.declared.terms.Posting.{Posting}
use Rattle.ft_rows.specs.declared.terms.TermLists.{TermLists}
use Rattle.ft_rows.specs.Terms.{spot_of, lists_of_postings}
use Rattle.ft_content.specs.Index.{Key}
use Rattle.ft_documents.specs.RewriteRows.{with_spots}

-- lists of a term under their keys
abbrev pub under_term : List ℕ → List (ℤ × List Spot) → List (Key × List Spot)
under_term term lists = map (λ (l : ℤ × List Spot). ((term, l.0), l.1)) lists

-- those of a term's postings
abbrev pub lists_of_term : List ℕ → List Posting → List (Key × List Spot)
lists_of_term term postings = under_term term (lists_of_postings postings)

-- those of terms, one after another
abbrev pub lists_of_terms : List TermLists → List (Key × List Spot)
lists_of_terms terms = flat_map (λ (t : TermLists). lists_of_term (string_bytes t.term) t.postings.items) terms

-- a list under its term and docid, as it is kept
abbrev pub kept_list : (String Global × ℤ) × Vec Spot Global → Key × List Spot
kept_list l = ((string_bytes l.0.0, l.0.1), l.1.items)

-- a term of a map, with its postings
abbrev pub Group : Type 0
Group = String Global × Vec Posting Global

-- its spots under their keys
abbrev pub group_spots : Group → List (Key × Spot)
group_spots g = map (λ (p : Posting). ((string_bytes g.0, p.docid), p.spot)) g.1.items

-- The lists of a map of terms: the spots of each term in the order in which they came. The order of terms has no part in it.
abbrev pub lists_in_groups : List Group → List (Key × List Spot)
lists_in_groups groups = with_spots (flat_map group_spots groups) []

-- the spots that postings have in a document
abbrev pub spots_of_docid : List Posting → ℤ → List Spot
spots_of_docid postings docid = map spot_of (filter (λ (p : Posting). int_eq docid p.docid) postings)

-- whether a posting may stand before another by their documents
abbrev pub by_docids : Posting → Posting → Bool
by_docids p q = is_le (int_cmp p.docid q.docid)
