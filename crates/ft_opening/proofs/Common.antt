-- The names of the crates below that most proofs cite, passed on from one place. Declares nothing.
pub use Rattle.std.proofs.lemmas.Bool.{and_parts}
pub use Rattle.std.proofs.lemmas.Bool.Decides.{Decides-eqb}
pub use Rattle.std.proofs.lemmas.Cmp.{int_cmp_total}
pub use Rattle.std.proofs.lemmas.Int.{ints}
pub use Rattle.std.proofs.lemmas.List.{append_cancel_left, append_cancel_right, length-map}
pub use Rattle.std.proofs.lemmas.List.Elements.{All-from_recursion}
pub use Rattle.std.proofs.lemmas.List.Sorted.{IsPermutation-map, IsPermutation-sym, length_permutation}
pub use Rattle.std.proofs.lemmas.Result.{IfErr-weaker, IfOk-weaker}
pub use Rattle.std.proofs.lemmas.Slice.Eq.{bytes_eq-Decides, strip_prefix_is, strip_suffix_is}
pub use Rattle.std.specs.Cmp.{tied_itself}
pub use Rattle.std.specs.List.{AllByRecursion, AllZip, list_all}
pub use Rattle.std.specs.declared.alloc.Global.{Global}
pub use Rattle.ft_rows.specs.Store.{cell_key_cmp, column_key_cmp, list_key_cmp, name_cmp, nothing_held}
pub use Rattle.sqlite.proofs.Callers.{command_of, one_permutation, reads_as}
pub use Rattle.sqlite.specs.Change.{created}
pub use Rattle.sqlite.specs.Clock.{timed}
pub use Rattle.sqlite.specs.Command.TheVariants.{Delete, Insert, Rows, Select}
pub use Rattle.sqlite.specs.Does.{Does, OnRows, due}
pub use Rattle.sqlite.specs.Effect.{Database, RefusesToRead, value_rows}
pub use Rattle.sqlite.specs.Files.{AreFoundIn, file_state}
pub use Rattle.sqlite.specs.Given.{IsPlain}
pub use Rattle.sqlite.specs.Held.{Held, state}
pub use Rattle.sqlite.specs.Listing.{if_select, is_select, listing_schema, reads_listing}
unfoldable pub use Rattle.sqlite.specs.Listing.{understood}
pub use Rattle.sqlite.specs.Order.{Row, column}
pub use Rattle.sqlite.specs.Program.{overlay}
pub use Rattle.sqlite.specs.Query.{IsAnswer, Output, Query, output}
pub use Rattle.sqlite.specs.Rowids.TheVariants.{Chosen}
pub use Rattle.sqlite.specs.Rows.{Sourced, Task, stamped}
pub use Rattle.sqlite.specs.Schema.{Schema}
pub use Rattle.sqlite.specs.Source.TheVariants.{Values}
pub use Rattle.sqlite.specs.State.{Executes, ExecutesInside, FailsToShow, HasCleanDisk, IsNoStatement, IsRolledBack}
pub use Rattle.sqlite.specs.State.{IsTooLate, KeepsCommit, Shows, State, Survives, mode_of}
unfoldable pub use Rattle.sqlite.specs.State.{FailsToQuery, IsNotRun, Shown}
pub use Rattle.sqlite.specs.Store.{Ghosts}
pub use Rattle.sqlite.specs.Table.{Table}
pub use Rattle.sqlite.specs.Term.{Term, col, holds, lit, op2}
pub use Rattle.sqlite.specs.Tree.{Trees}
pub use Rattle.sqlite.specs.declared.error.Error.{Error}
pub use Rattle.sqlite.specs.declared.error.Error.TheVariants.{SqliteFailure}
pub use Rattle.sqlite.specs.declared.types.Value.{Value}
pub use Rattle.sqlite.specs.declared.types.Value.TheVariants.{Int, Null}
pub use Rattle.sqlite_catalog.specs.Listing.{IsSound, IsTableRow, is_table_row}
pub use Rattle.sqlite_keyed.proofs.ListLemmas.{all-append, all_both, all_of, all_weaker, along_permutation, filter_all, map-map}
pub use Rattle.sqlite_keyed.specs.Lists.{sort_by}
pub use Rattle.sqlite_rules.proofs.ListLemmas.{all_from, all_has}
pub use Rattle.sqlite_rules.proofs.RuleLemmas.{Turns, unique_kept}
pub use Rattle.sqlite_rules.specs.Action.{Writes}
pub use Rattle.sqlite_rules.specs.Edit.{Edit, IsOversized, IsRefused, edit_of, edited, id_in}
pub use Rattle.sqlite_rules.specs.Lists.{Has}
pub use Rattle.sqlite_rules.specs.declared.error.Refusal.{Refusal}
pub use Rattle.sqlite_rules.specs.declared.error.Refusal.TheVariants.{BadReference, Mismatch, NoRowid, TooDeep, Violates}
pub use Rattle.sqlite_schema.specs.Rules.{passes}
pub use Rattle.sqlite_schema.specs.declared.command.Returning.{Returning}
pub use Rattle.sqlite_schema.specs.declared.schema.Constraint.TheVariants.{Check, Datatype, ForeignKey, NotNull, PrimaryKey, Unique}
pub use Rattle.sqlite_schema.specs.declared.schema.Keys.TheVariants.{Enforced}
pub use Rattle.sqlite_sql.specs.declared.ops.BinaryOp.TheVariants.{Is, Or}
unfoldable pub use Rattle.sqlite_tied.specs.Compute.{everything}
pub use Rattle.sqlite_trees.specs.Tree.{IsAscending, put_row, rowid, with_tree}
pub use Rattle.sqlite_trees.specs.View.{IsOrdered, IsShaped, IsStorableRow, is_int}
pub use Rattle.sqlite_typed.proofs.RowLemmas.{int_is_number}
pub use Rattle.sqlite_typed.proofs.TestLemmas.{last_key}
pub use Rattle.sqlite_value.proofs.OrderLemmas.{value_cmp_total}
pub use Rattle.sqlite_value.specs.Order.{number}
unfoldable pub use Rattle.sqlite_value.specs.Order.{value_cmp}
pub use Rattle.sqlite_value.specs.declared.keys.Order.{Order}
