-- The names that most proofs cite, passed on from one place. Declares nothing.
pub use Rattle.std.proofs.lemmas.List.{length-drop, length-take-le, take_all, take-append-drop, length-map}
pub use Rattle.std.specs.Io.KnownBytes.{Consumes, IsAtEnd, Appends, Keeps}
pub use Rattle.std.specs.List.{enumerate_from, list_any}
pub use Rattle.sqlite.specs.Held.{Held, state}
pub use Rattle.sqlite.specs.Store.{Ghosts}
pub use Rattle.ft_commands.specs.Command.{Insert, Import, Command, Filter, Items, Reply, Select}
pub use Rattle.ft_content.specs.Views.{TableInfo, shown_info, info_names, column_of}
pub use Rattle.ft_commands.specs.Views.{command_of, import_as, reply_of, rows_of, cells_of}
pub use Rattle.ft_calls.specs.Causes.{DoesForCause}
pub use Rattle.ft_calls.specs.Kept.{Call, Looked, Noted, CallsKept, Executed, KeptByCalls, NoneGetsUnsound, accepted, left_by, AreAnswered}
pub use Rattle.ft_calls.specs.Kept.{FullText, OnlyLooks, is_outside}
pub use Rattle.ft_statements.specs.Dots.{DotCommand, Nothing, SetMode, SetHeaders, SetSeparator, SetNull, SetEcho, SetBail, Print, Importing, Tables, Quit, Usage, Unknown, dot_command_of}
pub use Rattle.ft_statements.specs.Plain.{asks, made_name, seeks}
pub use Rattle.ft_statements.specs.Replies.{reply_text, AreSorted, listed}
pub use Rattle.ft_statements.specs.Statements.{Class, Plain, class_of}
pub use Rattle.shell_io.specs.Texts.{statement_text, fault_text, split_text}
pub use Rattle.ft_statements.specs.Views.{command_as}
pub use Rattle.ft_commands.specs.Views.{texts_of}
pub use Rattle.ft_statements.specs.Words.{sql_tokens, Token}
pub use Rattle.ft_shell.specs.Broken.{Broken, not_begun, not_echoed, not_told}
pub use Rattle.ft_shell.specs.DotParts.{after_stop, Sets}
pub use Rattle.ft_shell.specs.DotTurns.{DotTurn, OnlySets}
pub use Rattle.ft_shell.specs.Effects.{Effects, and_then, idle, outcome_in, effects_of}
pub use Rattle.ft_shell.specs.FullTextTurns.{MaybeNotes, NoteTurn, answer_of_reply}
pub use Rattle.ft_shell.specs.ImportTurns.{BytesTurn, DelimitedTurn, FileTurn, IntoNamed, IntoNew, PlainImport, TextImport, width_in, executed, no_memory, no_header, too_wide, declined, there, new_table, untried, read, no_text, fetched, unfetched, answer_of_insert, InsertTurn, made}
pub use Rattle.ft_shell.specs.PlainTurns.{CommandTurn, PlainTurn, done, refused, OrNothing}
pub use Rattle.ft_shell.specs.Promise.{Ran, RanAndKept, IsClean, AllRan, none_ran, last_ran, first_ran, Reached, Lists, KeptByRuns, shell_parts, read_by}
pub use Rattle.ft_shell.specs.Ran.{Moment, Runs, TakesRead, Ends, Did, Cut, Passes, Breaks, IsInside, moment}
pub use Rattle.ft_shell.specs.Runs.{Console, IsWhole, IsFront, EndedDone, Completes, Stops}
pub use Rattle.ft_shell.specs.Shell.{Shell, shell_of, Parts, shell_with}
pub use Rattle.ft_shell.specs.StatementTurns.{ClassTurn, Declines, StatementTurn, known_names}
pub use Rattle.ft_shell.specs.TablesTurns.{TablesTurn, lists}
pub use Rattle.ft_shell.specs.Turns.{Body, Turn, Turns, calls_in, DotOrLacks, Begins, echo_of, Session}
