-- Meaning. Queries without where they lie in memory. In these files a rule has its source: a section, named in quotes, of the SQLite
-- document "SQLite FTS3 and FTS4 Extensions", or an own choice where that document leaves it open.
use Rattle.std.specs.Prelude.{ℕ, Bool, List, [], ◌∷◌, map, Option, string_bytes}
use Rattle.ft_match.specs.declared.query.QueryTerm.{QueryTerm}
use Rattle.ft_match.specs.declared.query.Phrase.{Phrase}
use Rattle.ft_match.specs.declared.query.Link.{Link}
use Rattle.ft_match.specs.declared.query.Query.{Query}
use Rattle.ft_match.specs.declared.query.Query.TheVariants as query

-- A prefix term matches every term that begins so, a first term only the first token of a column ("Full-text Index Queries").
pub record PlainTerm : Type 0 where
  pub text : List ℕ
  pub prefix : Bool
  pub first : Bool

-- terms that stand one after the other, in one column if there is a filter ("Full-text Index Queries")
pub record PlainPhrase : Type 0 where
  pub filter : Option ℕ
  pub terms : List PlainTerm

-- the next phrase of a chain of NEAR, with at most so many tokens between it and the one before
pub record PlainLink : Type 0 where
  pub most : ℕ
  pub to : PlainPhrase

-- a phrase; a phrase with the links that NEAR joins to it; AND, OR and NOT
pub data Tree : Type 0 where
  phrase : PlainPhrase → Tree
  chain : PlainPhrase → List PlainLink → Tree
  both : Tree → Tree → Tree
  either : Tree → Tree → Tree
  without : Tree → Tree → Tree

-- a chain without links is a phrase
abbrev pub tree_of_chain : PlainPhrase → List PlainLink → Tree
tree_of_chain p [] = phrase p
tree_of_chain p (link ∷ links) = chain p (link ∷ links)

abbrev pub plain_term : QueryTerm → PlainTerm
plain_term t = record { text = string_bytes t.text; prefix = t.prefix; first = t.first }

abbrev pub plain_phrase : Phrase → PlainPhrase
plain_phrase p = record { filter = p.filter; terms = map plain_term p.terms.items }

abbrev pub plain_link : Link → PlainLink
plain_link l = record { most = l.most; to = plain_phrase l.to }

-- the primed variants have each box in two parts, its pointer and allocator and what it holds
abbrev pub tree_of : Query → Tree
tree_of (query.Phrase p) = phrase (plain_phrase p)
tree_of (query.Near c) = chain (plain_phrase c.first) (map plain_link c.links.items)
tree_of (query.And' p left q right) = both (tree_of left) (tree_of right)
tree_of (query.Or' p left q right) = either (tree_of left) (tree_of right)
tree_of (query.Not' p left q right) = without (tree_of left) (tree_of right)
