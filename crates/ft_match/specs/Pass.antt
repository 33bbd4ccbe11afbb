-- Steps. One pass over the lexemes, with one of them in hand, that makes the tree as which the grammar reads them.
use Rattle.std.specs.Prelude.{ℕ, List, [], ◌∷◌, ◌++◌, Option, Some, None, option_and_then, option_map}
use Rattle.ft_match.specs.Trees.{PlainPhrase, PlainLink, Tree, both, either, without, tree_of_chain}
use Rattle.ft_match.specs.Lexemes.{Lexeme, open_paren, close_paren, and_word, or_word, not_word, near_word, filter_on, word, quoted}

-- the left sides that wait for a right one, at each level
pub record Waiting : Type 0 where
  pub or_left : Option Tree
  pub and_left : Option Tree
  pub not_left : Option Tree

abbrev pub nothing_waits : Waiting
nothing_waits = record { or_left = None; and_left = None; not_left = None }

-- what was read last
pub data Last : Type 0 where
  -- nothing, or an operator or Open: an operand comes
  operator : Last
  -- a filter
  filtered : ℕ → Last
  -- a chain that NEAR may follow
  chained : PlainPhrase → List PlainLink → Last
  -- a chain and NEAR, and then a filter
  near_to : PlainPhrase → List PlainLink → ℕ → Last
  near_filtered : PlainPhrase → List PlainLink → ℕ → ℕ → Last
  -- any other whole operand
  whole : Tree → Last

-- the left sides in this parenthesis, those in the parentheses around it, the innermost first, and what was read last
pub record State : Type 0 where
  pub waiting : Waiting
  pub outer : List Waiting
  pub last : Last

abbrev pub join : (Tree → Tree → Tree) → Option Tree → Tree → Tree
join op None right = right
join op (Some left) right = op left right

-- the whole of what the left sides and this operand are, at each level
abbrev pub not_whole : Waiting → Tree → Tree
not_whole w t = join without w.not_left t

abbrev pub and_whole : Waiting → Tree → Tree
and_whole w t = join both w.and_left (not_whole w t)

abbrev pub or_whole : Waiting → Tree → Tree
or_whole w t = join either w.or_left (and_whole w t)

-- an operator follows the operand t
abbrev pub not_state : Waiting → List Waiting → Tree → State
not_state w outer t = record { waiting = record w { not_left = Some (not_whole w t) }; outer = outer; last = operator }

abbrev pub and_state : Waiting → List Waiting → Tree → State
and_state w outer t = record { waiting = record w { and_left = Some (and_whole w t); not_left = None }; outer = outer; last = operator }

abbrev pub or_state : Waiting → List Waiting → Tree → State
or_state w outer t = record { waiting = record { or_left = Some (or_whole w t); and_left = None; not_left = None }; outer = outer; last = operator }

abbrev pub last_state : Waiting → List Waiting → Last → State
last_state w outer last = record { waiting = w; outer = outer; last = last }

-- an operand begins with this lexeme, if one can
abbrev pub begin : Option ℕ → Waiting → List Waiting → Lexeme → Option State
begin default w outer open_paren = Some (last_state nothing_waits (w ∷ outer) operator)
begin default w outer (filter_on c) = Some (last_state w outer (filtered c))
begin default w outer (word t) = Some (last_state w outer (chained (record { filter = default; terms = t ∷ [] }) []))
begin default w outer (quoted ts) = Some (last_state w outer (chained (record { filter = default; terms = ts }) []))
begin default w outer _ = None

-- the operand in a parenthesis is whole, and so is the parenthesis
abbrev pub close : List Waiting → Tree → Option State
close [] t = None
close (w ∷ outer) t = Some (last_state w outer (whole t))

-- a lexeme after the operand t, where it isn't a NEAR that belongs to it: an operand begins beside it, as after AND
abbrev pub after_operand : Option ℕ → Waiting → List Waiting → Tree → Lexeme → Option State
after_operand default w outer t close_paren = close outer (or_whole w t)
after_operand default w outer t and_word = Some (and_state w outer t)
after_operand default w outer t or_word = Some (or_state w outer t)
after_operand default w outer t not_word = Some (not_state w outer t)
after_operand default w outer t l = begin default (and_state w outer t).waiting outer l

-- the phrase that a word or a quoted part is in this column
abbrev pub phrase_of : Option ℕ → Lexeme → Option PlainPhrase
phrase_of column (word t) = Some (record { filter = column; terms = t ∷ [] })
phrase_of column (quoted ts) = Some (record { filter = column; terms = ts })
phrase_of column _ = None

-- what is known after one more lexeme, if the lexemes can begin a query
abbrev pub pass_step : Option ℕ → Waiting → List Waiting → Last → Lexeme → Option State
pass_step default w outer operator l = begin default w outer l
pass_step default w outer (filtered c) l = option_map (λ p. last_state w outer (chained p [])) (phrase_of (Some c) l)
pass_step default w outer (chained p links) (near_word most) = Some (last_state w outer (near_to p links most))
pass_step default w outer (chained p links) l = after_operand default w outer (tree_of_chain p links) l
pass_step default w outer (near_to p links most) (filter_on c) = Some (last_state w outer (near_filtered p links most c))
pass_step default w outer (near_to p links most) l = option_map
    (λ q. last_state w outer (chained p (links ++ record { most = most; to = q } ∷ [])))
    (phrase_of default l)
pass_step default w outer (near_filtered p links most c) l = option_map
    (λ q. last_state w outer (chained p (links ++ record { most = most; to = q } ∷ [])))
    (phrase_of (Some c) l)
pass_step default w outer (whole t) l = after_operand default w outer t l

-- the operand that was read last, if it is whole
abbrev pub operand : Last → Option Tree
operand (chained p links) = Some (tree_of_chain p links)
operand (whole t) = Some t
operand _ = None

abbrev pub finish : Waiting → List Waiting → Last → Option Tree
finish w [] last = option_map (or_whole w) (operand last)
finish w (_ ∷ _) last = None

-- what the lexemes that are left make of a state
abbrev pub run : Option ℕ → State → List Lexeme → Option Tree
run default s [] = finish s.waiting s.outer s.last
run default s (l ∷ ls) = option_and_then (λ t. run default t ls) (pass_step default s.waiting s.outer s.last l)

abbrev pub pass_start : State
pass_start = record { waiting = nothing_waits; outer = []; last = operator }

-- the tree as which the lexemes read, if they read as one
abbrev pub tree_from : Option ℕ → List Lexeme → Option Tree
tree_from default lexemes = run default pass_start lexemes
