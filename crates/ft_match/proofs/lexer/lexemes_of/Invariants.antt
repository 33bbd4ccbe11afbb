use Rattle.std.proofs.Common.{map, string_bytes}
use Rattle.ft_match.proofs.Common.{plain_lexeme}
use Rattle.ft_match.proofs.Parts.{Lexed}
use Rattle.ft_match.proofs.lexer.lexemes_of.Given as goal

abbrev pub invariant-loop-place : goal.invariant-loop-place
invariant-loop-place l = Lexed (map string_bytes l.columns) l.text (map plain_lexeme l.found.items) l.in_quote l.start l.place
