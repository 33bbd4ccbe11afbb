-- none of the tables is named before this place
use Rattle.std.proofs.Common.{◌≡◌, ◌-◌, drop}
use Rattle.ft_statements.proofs.Common.{info_names, names_table, plain}
use Rattle.ft_statements.proofs.statement.names_table.Given as goal

abbrev pub invariant-loop-place : goal.invariant-loop-place
invariant-loop-place l = names_table (info_names l.tables) (plain (drop (l.place - 1) l.words)) ≡ names_table (info_names l.tables) (plain l.fn.words)
