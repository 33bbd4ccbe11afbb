-- How many rows a Select reads. The two messages are those of the SQLite document "SQLite FTS3 and
-- FTS4 Extensions", "The Offsets Function"; the searches are own examples.
use Rattle.std.proofs.Common.{◌≡◌, ℕ, true, List, [], ◌∷◌, Option, Some, None, pos, codes}
use Rattle.ft_index.proofs.Common.{Text, Content, Docid, Match, AllColumns, Named, OffsetsOf, Items, Counted, Listed, reading, chosen, rows_asked}
use Rattle.std.specs.Prelude.{refl}
use Rattle.ft_match.specs.Reads.{query_of}
use Rattle.ft_commands.specs.Command.{All}

abbrev mail : Content
mail = record {
  columns = record { name = codes "subject"; indexed = true } ∷ record { name = codes "body"; indexed = true } ∷ [];
  documents = (pos 1, Text (codes "hello world") ∷ Text (codes "This message is a hello world message.") ∷ [])
      ∷ (pos 2, Text (codes "urgent: serious") ∷ Text (codes "This mail is seen as a more serious mail") ∷ [])
      ∷ [];
}

-- SELECT .. FROM mail WHERE mail MATCH .. LIMIT .. OFFSET ..
abbrev search : Items → List ℕ → Option ℕ → ℕ → ℕ
search items text limit offset = rows_asked mail items (Match (codes "mail") text) limit offset

abbrev docid : Items
docid = Listed (Named (codes "docid") ∷ [])

abbrev offsets : Items
offsets = Listed (OffsetsOf (codes "mail") ∷ [])

abbrev all : Items
all = Listed (AllColumns ∷ [])

-- the two entries of a word, and two rows more for the one document where a column is asked for
pub one_word : search docid (codes "world") None 0 ∷ search offsets (codes "world") None 0 ∷ search Counted (codes "world") None 0 ∷ search all (codes "world") None 0 ∷ search (Listed (Named (codes "body") ∷ [])) (codes "world") None 0 ∷ []
    ≡ 2 ∷ 2 ∷ 2 ∷ 4 ∷ 4 ∷ []
unfolding rows_asked query_of reading chosen
one_word = refl

-- two entries of each of two words; only documents that are answered are read
pub two_words : search all (codes "hello OR mail") None 0 ∷ search all (codes "hello OR mail") (Some 1) 0 ∷ search all (codes "hello OR mail") (Some 1) 1 ∷ search all (codes "hello OR mail") (Some 0) 0 ∷ search all (codes "hello OR mail") None 2 ∷ search docid (codes "hello OR mail") (Some 1) 0 ∷ []
    ≡ 8 ∷ 6 ∷ 6 ∷ 4 ∷ 4 ∷ 4 ∷ []
unfolding rows_asked query_of reading chosen
two_words = refl

-- a term is read as often as it is written, and a word that no document has, and a text without
-- words, have no entry
pub each_term : search docid (codes "hello hello") None 0 ∷ search docid (codes "hello NOT mail") None 0 ∷ search docid (codes "absent") None 0 ∷ search all (codes " ") None 0 ∷ []
    ≡ 4 ∷ 4 ∷ 0 ∷ 0 ∷ []
unfolding rows_asked query_of reading chosen
each_term = refl

-- without MATCH: docids to count, the cells of both documents, docids alone, of one docid the cells,
-- the second docid alone, the cells of the document that is named, of none, and of one for its docid
pub without_match : rows_asked mail Counted All None 0 ∷ rows_asked mail all All None 0 ∷ rows_asked mail docid All None 0 ∷ rows_asked mail all All (Some 1) 0 ∷ rows_asked mail docid All (Some 1) 1
    ∷ rows_asked mail all (Docid (pos 2)) None 0 ∷ rows_asked mail all (Docid (pos 3)) None 0 ∷ rows_asked mail docid (Docid (pos 1)) None 0 ∷ []
    ≡ 2 ∷ 4 ∷ 2 ∷ 3 ∷ 1 ∷ 2 ∷ 0 ∷ 2 ∷ []
unfolding rows_asked chosen
without_match = refl
