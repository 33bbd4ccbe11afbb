-- The names that most proofs cite, passed on from one place. Declares nothing.
pub use Rattle.std.proofs.lemmas.List.{append-nil, replicate_more, drop-map, length-map, take_all, take_more, drop_more, take-append-drop, map-append, map-id}
pub use Rattle.std.specs.List.{flat_map, enumerate_from, list_any}
pub use Rattle.sqlite.specs.declared.error.Error.{Error}
pub use Rattle.sqlite.specs.Held.{Held, state}
pub use Rattle.sqlite.specs.Listing.{understood}
pub use Rattle.sqlite.specs.State.{State, IsNotRun, IsUnchanged, store_error, HasCleanDisk, Survives, ExecutesInside, IsRolledBack, KeepsCommit, FailsToQuery, Shown}
pub use Rattle.sqlite.specs.Store.{Ghosts}
pub use Rattle.ft_commands.specs.Views.{import_as, texts_of}
pub use Rattle.plain_sql.specs.declared.plain_import.ImportFault.{ImportFault}
pub use Rattle.plain_sql.specs.declared.plain_import.ImportFault.TheVariants.{Refused, Memory}
pub use Rattle.plain_sql.specs.Answers.{printed_value, is_float, row_print}
pub use Rattle.plain_sql.specs.Imports.{with_commas, text_column, doubled, create_text, insert_text}
pub use Rattle.plain_sql.specs.IntoTables.{fault_words, IntoTable, uncounted, declined, no_memory, into}
pub use Rattle.plain_sql.specs.Listings.{Finds, StopsTrying, Tries}
pub use Rattle.plain_sql.specs.PlainImports.{HasColumns, IsOnlyBelow, takes_values, Stays, CommitsNothing, import_steps, Declines, Uncounted, Step, Prepare, Run, row_values, runs_of, Does, IsRefused, IsUnsaid, DoesAll, StopsAtStep, begun, IsInside, KeepsLast, not_one, untold, TriesSteps, insertions, CommitsAll, stopped, uncommitted}
pub use Rattle.plain_sql.specs.PlainStatements.{WasClean, IfClean, is_memory_error, EndsSo, match_hint, TellsRefusal, Prepares, Answers, FailsToAnswer, unprepared, refused, answered}
