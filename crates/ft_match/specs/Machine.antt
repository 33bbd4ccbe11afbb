-- Steps. The parts of a text as the lexer finds them, byte by byte, and what the parser keeps between lexemes, without where it lies in
-- memory: the states of the pass in `Pass`.
use Rattle.std.specs.Prelude.{ℕ, ◌==◌, ◌||◌, Bool, true, false, nat_lt, if◌then◌else◌, List, [], ◌∷◌, ◌++◌, map, min, reverse}
use Rattle.std.specs.Prelude.{sum_by, option_map, Option, Some, None, Result}
use Rattle.std.specs.List.{list_any}
use Rattle.std.specs.Str.{byte}
use Rattle.ft_match.specs.declared.query.QueryFault.{QueryFault}
use Rattle.ft_match.specs.declared.query.QueryFault.TheVariants.{TooLarge}
use Rattle.ft_match.specs.declared.query.By.{By}
use Rattle.ft_match.specs.declared.query.By.TheVariants as by
use Rattle.ft_match.specs.declared.lexeme.Lexeme.TheVariants as code
use Rattle.ft_match.specs.declared.lexeme.Lexeme.{Lexeme as CodeLexeme}
use Rattle.ft_match.specs.declared.machine.Waiting.{Waiting as CodeWaiting}
use Rattle.ft_match.specs.declared.machine.Last.{Last as CodeLast}
use Rattle.ft_match.specs.declared.machine.Last.TheVariants as last
use Rattle.ft_match.specs.declared.machine.State.{State as CodeState}
use Rattle.ft_match.specs.Trees.{Tree, both, either, without, plain_term, plain_phrase, plain_link, tree_of}
use Rattle.ft_match.specs.Lexemes.{Lexeme, open_paren, close_paren, and_word, or_word, not_word, near_word, filter_on, word, quoted, Part}
use Rattle.ft_match.specs.Lexemes.{open_part, close_part, quoted_part, chunk_part, unclosed_part, is_query_space, is_quote}
use Rattle.ft_match.specs.Reads.{term_count, is_far, nests_deep, query_unless}
use Rattle.ft_match.specs.Pass.{Waiting, Last, State, operator, filtered, chained, near_to, near_filtered, whole}

abbrev pub plain_lexeme : CodeLexeme → Lexeme
plain_lexeme code.Open = open_paren
plain_lexeme code.Close = close_paren
plain_lexeme code.And = and_word
plain_lexeme code.Or = or_word
plain_lexeme code.Not = not_word
plain_lexeme (code.Near most) = near_word most
plain_lexeme (code.Filter column) = filter_on column
plain_lexeme (code.Word t) = word (plain_term t)
plain_lexeme (code.Quoted ts) = quoted (map plain_term ts.items)

-- the lexeme that stands for this one: a NEAR number past its limit stands as the least such number
abbrev pub capped : Lexeme → Lexeme
capped (near_word most) = near_word (min most 1000001)
capped l = l

-- lexemes ask for too much: too many terms, a NEAR number that is too great, or parentheses that nest too deep
abbrev pub asks_much : List Lexeme → Bool
asks_much ls = nat_lt 64 (sum_by term_count ls) || list_any is_far ls || nests_deep (0, 0) ls

-- as which query these lexemes read, where they don't ask for too much
abbrev pub query_within : Option ℕ → List Lexeme → Result (Option Tree) QueryFault
query_within default ls = query_unless (if asks_much ls then Some TooLarge else None) default ls

-- ---- parts, byte by byte

-- what a byte is, outside of quoted parts
pub data ByteMark : Type 0 where
  quote : ByteMark
  paren : Part → ByteMark
  space : ByteMark
  plain : ByteMark

abbrev pub byte_mark : ℕ → ByteMark
byte_mark b =
    if is_quote b then quote
    else (if b == byte "(" then paren open_part
    else (if b == byte ")" then paren close_part
    else (if is_query_space b then space
    else plain)))

-- what has come of a chunk, which may be nothing, or of a quoted part
pub data Begun : Type 0 where
  in_chunk : List ℕ → Begun
  in_quote : List ℕ → Begun

abbrev pub chunk_parts : List ℕ → List Part
chunk_parts [] = []
chunk_parts (b ∷ bs) = chunk_part (b ∷ bs) ∷ []

-- what is begun after one more byte
abbrev pub begun_after : Begun → ByteMark → ℕ → Begun
begun_after (in_chunk bs) quote b = in_quote []
begun_after (in_chunk bs) (paren part) b = in_chunk []
begun_after (in_chunk bs) space b = in_chunk []
begun_after (in_chunk bs) plain b = in_chunk (bs ++ b ∷ [])
begun_after (in_quote bs) quote b = in_chunk []
begun_after (in_quote bs) (paren part) b = in_quote (bs ++ b ∷ [])
begun_after (in_quote bs) space b = in_quote (bs ++ b ∷ [])
begun_after (in_quote bs) plain b = in_quote (bs ++ b ∷ [])

-- the parts that a byte ends
abbrev pub parts_ended : Begun → ByteMark → List Part
parts_ended (in_chunk bs) quote = chunk_parts bs
parts_ended (in_chunk bs) (paren part) = chunk_parts bs ++ part ∷ []
parts_ended (in_chunk bs) space = chunk_parts bs
parts_ended (in_chunk bs) plain = []
parts_ended (in_quote bs) quote = quoted_part bs ∷ []
parts_ended (in_quote bs) (paren part) = []
parts_ended (in_quote bs) space = []
parts_ended (in_quote bs) plain = []

abbrev pub parts_at_end : Begun → List Part
parts_at_end (in_chunk bs) = chunk_parts bs
parts_at_end (in_quote bs) = unclosed_part ∷ []

-- the parts that end in what is left of the text, with the one that is begun
abbrev pub parts_from : Begun → List ℕ → List Part
parts_from begun_part [] = parts_at_end begun_part
parts_from begun_part (b ∷ bs) = parts_ended begun_part (byte_mark b) ++ parts_from (begun_after begun_part (byte_mark b) b) bs

-- the quoted part or chunk that is begun
abbrev pub begun_part : Bool → List ℕ → Begun
begun_part true bytes = in_quote bytes
begun_part false bytes = in_chunk bytes

-- a byte with this mark ends it
abbrev pub ends_begun : Bool → ByteMark → Bool
ends_begun true quote = true
ends_begun true _ = false
ends_begun false plain = false
ends_begun false _ = true

-- ---- the states of the pass

abbrev pub plain_waiting : CodeWaiting → Waiting
plain_waiting w = record { or_left = option_map tree_of w.or_left; and_left = option_map tree_of w.and_left; not_left = option_map tree_of w.not_left }

abbrev pub plain_outer : List CodeWaiting → List Waiting
plain_outer outer = reverse (map plain_waiting outer)

abbrev pub plain_last : CodeLast → Last
plain_last last.Operator = operator
plain_last (last.Filtered column) = filtered column
plain_last (last.Chained l) = chained (plain_phrase l.first) (map plain_link l.links.items)
plain_last (last.NearTo l most) = near_to (plain_phrase l.first) (map plain_link l.links.items) most
plain_last (last.NearFiltered l most column) = near_filtered (plain_phrase l.first) (map plain_link l.links.items) most column
plain_last (last.Whole q) = whole (tree_of q)

abbrev pub plain_state : CodeState → State
plain_state s = record { waiting = plain_waiting s.around.waiting; outer = plain_outer s.around.outer.items; last = plain_last s.last }

-- a left side and a right one
abbrev pub joined_sides : Tree → By → Tree → Tree
joined_sides p by.And q = both p q
joined_sides p by.Or q = either p q
joined_sides p by.Not q = without p q
