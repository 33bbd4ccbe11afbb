-- The names of the crates below that most proofs cite, passed on from one place. Declares nothing.
pub use Rattle.std.proofs.lemmas.Bool.{and_parts, both_ways, eqb-false, false_from_ne_true, or_parts, true_from_ne_false}
pub use Rattle.std.proofs.lemmas.Bool.Decides.{nat_tests}
pub use Rattle.std.proofs.lemmas.Cmp.{back_total, int_cmp_total, int_ranked, nat_cmp_total, nat_list_cmp_total, on_total, ranked, then_total, upto}
pub use Rattle.std.proofs.lemmas.Int.{ints}
pub use Rattle.std.proofs.lemmas.List.{append_cancel_left, drop-map, drop_more, get_or-map, get_or_append_left, get_or_push}
pub use Rattle.std.proofs.lemmas.List.{length-map, map-append, map_push, nil_from_length, take-map, take_more}
pub use Rattle.std.proofs.lemmas.List.Elements.{All-append, All-cons, All-drop, All-from_recursion, All-map, All-more, All-nil, All-take, All-weaker}
pub use Rattle.std.proofs.lemmas.List.Elements.{filter_passes, recursion_from_All}
pub use Rattle.std.proofs.lemmas.List.Sorted.{All-permutation, IsPermutation-map, IsPermutation-reverse, IsPermutation-sym, length_permutation}
pub use Rattle.std.proofs.lemmas.List.Sorted.{list_any-IsPermutation}
pub use Rattle.std.proofs.lemmas.List.Sums.{fold_push, sum_by-append, sum_by-cons}
pub use Rattle.std.proofs.lemmas.Result.{IfErr-weaker, IfOk-weaker, on_ok_weaker}
pub use Rattle.std.proofs.lemmas.Slice.Eq.{bytes_eq-Decides}
pub use Rattle.std.specs.Cmp.{IsTotalOrder, tied_itself}
pub use Rattle.std.specs.FinMap.Entries.{below_all, by_order, find, find-put, find-where_key, is_sorted, is_sorted-put, is_sorted-where_key}
pub use Rattle.std.specs.FinMap.Entries.{length-put, put, same_entries, where_key}
pub use Rattle.std.specs.List.{AllByRecursion, between, enumerate_from, list_all, list_any, starts_with}
pub use Rattle.std.specs.Ordering.{eq_by_cmp, match_ordering, ordering_reverse, ordering_then}
pub use Rattle.std.specs.Str.{all_scalars, is_utf8, str_eq_ignore_ascii_case, str_to_ascii_lowercase}
pub use Rattle.std.specs.declared.alloc.Global.{Global}
pub use Rattle.ft_values.specs.Cells.{Cell, shown_value}
pub use Rattle.ft_values.specs.declared.rows.RowChange.{RowChange}
pub use Rattle.ft_rows.specs.Changes.{CanApply, shown_change}
pub use Rattle.ft_rows.specs.Shown.{AreNamedApart, AreWhole, StoredEntry, bare_list, entries_of, entries_of_list, entries_with, last_docid_of}
pub use Rattle.ft_rows.specs.Shown.{lists_of_prefix, lists_under_term, shown_column, shown_entry, shown_list, shown_skip, shown_table, spot_count}
pub use Rattle.ft_rows.specs.Shown.{table_listed}
pub use Rattle.ft_rows.specs.Store.{AddTable, AreInOrder, CellKey, Change, ClearIndex, ColumnKey, DropCells, DropEntries, DropSize, ListKey, Note}
pub use Rattle.ft_rows.specs.Store.{PutCell, PutEntries, PutSize, StoreValue, all_applied, applied, cell_key_cmp, column_key_cmp, list_key_cmp}
pub use Rattle.ft_rows.specs.Store.{name_cmp, with_columns, with_skipped, without_index, without_key, without_rows}
pub use Rattle.sqlite.proofs.Callers.{begins_as, command_of, given_begin, never_commits, one_step, reads_as, runs_as, statement_of}
pub use Rattle.sqlite.proofs.Callers.{unchanged_then}
pub use Rattle.sqlite.proofs.StateLemmas.{survives_then, survives_weaker}
pub use Rattle.sqlite.specs.Change.{created, next_tree, without_table}
pub use Rattle.sqlite.specs.Clock.{timed}
pub use Rattle.sqlite.specs.Collation.TheVariants.{Binary, NoCase}
pub use Rattle.sqlite.specs.Command.TheVariants.{CreateTable, Delete, DropTable, Insert, Nothing, Select}
pub use Rattle.sqlite.specs.Does.{AtPlace, Does, Drops, Leaves, MakesTable, OnRows, Tally, Uncounts, UncountsIn, due, is_acted_on, lacks_sequence}
pub use Rattle.sqlite.specs.Effect.{Database, IsDatabase, RefusesQuery, RefusesSource, RefusesToRead, edit_error, is_query, value_rows}
pub use Rattle.sqlite.specs.Given.{Advances, FailsToAdvance, HasBegun, HasGiven, IsPlain, Returns}
pub use Rattle.sqlite.specs.Held.{Held, state}
pub use Rattle.sqlite.specs.Listing.{IsSourceOf, reads_listing}
unfoldable pub use Rattle.sqlite.specs.Listing.{understood}
pub use Rattle.sqlite.specs.Order.{Row, column}
pub use Rattle.sqlite.specs.Program.{overlay}
pub use Rattle.sqlite.specs.Query.{IsAnswer, Output, Query, as_count, end, inner, limited, matches, output, output_cmp, page}
pub use Rattle.sqlite.specs.Rowids.TheVariants.{Chosen, Given}
pub use Rattle.sqlite.specs.Rows.{Outcome, Queried, Sourced, Task, Written, sequence, stamped}
pub use Rattle.sqlite.specs.Schema.{Schema}
pub use Rattle.sqlite.specs.Source.TheVariants.{Values}
pub use Rattle.sqlite.specs.State.{CommitsShowing, Executes, ExecutesInside, Fails, FailsToShow, HasCause, HasCleanDisk, IsNoStatement, IsRolledBack}
pub use Rattle.sqlite.specs.State.{IsTooLate, IsUnchanged, KeepsCommit, RunsCommand, Shows, ShowsRows, State, Survives, is_pragma, mode_of}
pub use Rattle.sqlite.specs.State.{shows_rows, store_error, text_of}
unfoldable pub use Rattle.sqlite.specs.State.{Begins, EndsScope, ExecutesIn, FailsToQuery, IsNotRun, Shown}
pub use Rattle.sqlite.specs.Store.{Ghosts}
pub use Rattle.sqlite.specs.Table.{Table}
pub use Rattle.sqlite.specs.Term.{Term, col, holds, lit, op2}
pub use Rattle.sqlite.specs.Tree.{Trees}
pub use Rattle.sqlite.specs.Values.{IsInt, bound, bound_value}
pub use Rattle.sqlite.specs.declared.error.Error.{Error}
pub use Rattle.sqlite.specs.declared.error.Error.TheVariants.{ExecuteReturnedResults, SqliteFailure}
pub use Rattle.sqlite.specs.declared.types.Value.{Value}
pub use Rattle.sqlite.specs.declared.types.Value.TheVariants.{Blob, Int, Null, Real, Text}
pub use Rattle.sqlite_catalog.specs.Listing.{IsSound, is_fit, is_formed}
pub use Rattle.sqlite_keyed.proofs.ListLemmas.{IsPermutation-filter, all-append, all-filter, all_both, all_map, all_of, all_unmap, all_weaker}
pub use Rattle.sqlite_keyed.proofs.ListLemmas.{along_permutation, ascending-filter, filter-map, filter_all, map-map}
pub use Rattle.sqlite_keyed.proofs.SortLemmas.{IsPermutation-sort_by}
pub use Rattle.sqlite_keyed.specs.Lists.{insert_sorted, sort_by}
pub use Rattle.sqlite_rules.proofs.ListLemmas.{all_has, any_has, contains_had, some_has}
pub use Rattle.sqlite_rules.proofs.RuleLemmas.{Turns, unique_kept}
pub use Rattle.sqlite_rules.proofs.TableLemmas.{put_all_adds, put_all_has, put_all_keeps, put_has, without_all_has}
pub use Rattle.sqlite_rules.specs.Action.{End, Leads, Writes}
pub use Rattle.sqlite_rules.specs.Edit.{Edit, IsOversized, IsRefused, are_fresh, edit_of, edited, have_rowids, id_in, is_taken, next_rowid, numbered}
pub use Rattle.sqlite_rules.specs.Edit.{put_all, with_rowid}
pub use Rattle.sqlite_rules.specs.Keys.{are_unique}
pub use Rattle.sqlite_rules.specs.Lists.{Has}
pub use Rattle.sqlite_rules.specs.declared.error.Refusal.{Refusal}
pub use Rattle.sqlite_rules.specs.declared.error.Refusal.TheVariants.{BadReference, Mismatch, NoRowid, TooDeep, Violates}
pub use Rattle.sqlite_schema.specs.Rules.{Refers, agree, are_typed, clashes, differ, has_parent, index_reals, is_among, is_of, passes, suits}
pub use Rattle.sqlite_schema.specs.Rules.{table_reals}
pub use Rattle.sqlite_schema.specs.declared.command.Returning.{Returning}
pub use Rattle.sqlite_schema.specs.declared.schema.Constraint.TheVariants.{Check, Datatype, ForeignKey, NotNull, PrimaryKey, Unique}
pub use Rattle.sqlite_schema.specs.declared.schema.Keys.TheVariants.{Enforced}
pub use Rattle.sqlite_sql.specs.Ops.{fits_i64, from_truth, is_null, is_true}
unfoldable pub use Rattle.sqlite_sql.specs.Ops.{binary, unary}
pub use Rattle.sqlite_sql.specs.declared.ops.BinaryOp.TheVariants.{Compare}
pub use Rattle.sqlite_sql.specs.declared.ops.CompareOp.TheVariants.{Eq, Ge, Le, Lt, Ne}
unfoldable pub use Rattle.sqlite_tied.specs.Compute.{everything}
pub use Rattle.sqlite_trees.specs.Tree.{IsAscending, IsTable, has_rowid, put_row, rowid, with_tree, without_rowid}
pub use Rattle.sqlite_trees.specs.View.{IsStorable, IsStorableRow, is_int}
pub use Rattle.sqlite_trees.specs.declared.error.StoreError.{StoreError}
pub use Rattle.sqlite_trees.specs.declared.error.StoreError.TheVariants.{Broken, Corrupt, Full, Io, OutOfMemory, Unstorable}
pub use Rattle.sqlite_typed.proofs.RowLemmas.{int_is_number, zero_is_number}
pub use Rattle.sqlite_typed.proofs.TestLemmas.{at_ints, at_texts, last_key, last_term, same_bytes, then_key, then_term}
pub use Rattle.sqlite_value.proofs.OrderLemmas.{value_cmp-Int, value_cmp-Text, value_cmp_total}
pub use Rattle.sqlite_value.specs.Keys.{ascending, by_key, without_case}
unfoldable pub use Rattle.sqlite_value.specs.Keys.{first_key}
pub use Rattle.sqlite_value.specs.Order.{bytes, number}
unfoldable pub use Rattle.sqlite_value.specs.Order.{value_cmp}
pub use Rattle.sqlite_value.specs.declared.keys.Key.{Key}
pub use Rattle.sqlite_value.specs.declared.keys.Order.{Order}
