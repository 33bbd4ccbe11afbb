use Rattle.shell_text.proofs.WordLoop.{WordsTo}
use Rattle.shell_text.proofs.words.sql_words.Given as goal

-- the words so far, and where the piece at hand begins
abbrev pub invariant-loop-i : goal.invariant-loop-i
invariant-loop-i l = WordsTo l.bytes l.i l.start l.place l.words.items
