-- The names that several proofs cite, passed on from one place. Declares nothing.
pub use Rattle.std.specs.Option.{option_or}
pub use Rattle.std.proofs.lemmas.Bool.{and_parts, and_from, or_parts}
pub use Rattle.std.proofs.lemmas.Iterator.{YieldsList-from_slice, YieldsList-from_map, items_from_collect}
pub use Rattle.std.proofs.lemmas.List.{length-map, map-append, take_all, take_more}
pub use Rattle.std.proofs.lemmas.List.Elements.{All-from_recursion, All-nil, recursion_from_All, All-weaker, Contains-append_left, Contains-push}
pub use Rattle.std.proofs.lemmas.Map.Lookups.{exact_signed}
pub use Rattle.std.proofs.lemmas.Result.{IfOk-weaker}
pub use Rattle.std.specs.Cmp.{int_cmp_total, eq_by_cmp_equiv, tied_itself}
pub use Rattle.std.specs.Cmp.Lexicographic.{nat_list_eq_equiv}
pub use Rattle.std.specs.FinMap.Entries.{find, put, where_key, by_order, is_sorted, below_all, find-put, find-where_key, is_sorted-put}
pub use Rattle.std.specs.FinMap.Entries.{is_sorted-where_key, same_entries}
pub use Rattle.std.specs.List.{AllByRecursion, list_any, list_all, AllZip, enumerate_from}
pub use Rattle.std.specs.Ordering.{ordering_reverse}
pub use Rattle.std.specs.Prelude.{unwrap_or}
pub use Rattle.sqlite.proofs.StateLemmas.{survives_then, survives_weaker}
pub use Rattle.sqlite.specs.Effect.{Database}
pub use Rattle.sqlite.specs.State.{HasCleanDisk, Survives, State}
pub use Rattle.sqlite.specs.Store.{Ghosts}
pub use Rattle.sqlite.specs.Tree.{Trees}
pub use Rattle.sqlite_keyed.proofs.KeyedLemmas.{same_int}
pub use Rattle.sqlite_keyed.proofs.ListLemmas.{map-map}
pub use Rattle.sqlite_trees.specs.View.{doubt}
pub use Rattle.ft_values.specs.Cells.{Cell, shown_value, Text}
pub use Rattle.ft_values.specs.declared.fault.Fault.{Fault}
pub use Rattle.ft_values.specs.declared.rows.RowChange.{RowChange}
pub use Rattle.ft_values.specs.declared.rows.TabRow.{TabRow}
pub use Rattle.ft_values.specs.declared.rows.Value.{Value}
pub use Rattle.ft_values.specs.declared.table.TableInfo.{TableInfo as RustTableInfo}
pub use Rattle.ft_query.specs.Lists.{plain_list}
pub use Rattle.ft_match.specs.Documents.{lists_with}
pub use Rattle.ft_match.specs.Occurs.{plain_hit, PlainHit, offsets_text}
pub use Rattle.ft_match.specs.Trees.{tree_of, Tree}
pub use Rattle.ft_match.specs.declared.hit.Hit.{Hit}
pub use Rattle.ft_rows.specs.Changes.{shown_change}
pub use Rattle.ft_rows.specs.Shown.{shown_table}
pub use Rattle.ft_rows.specs.Store.{StoreValue, Change, AreInOrder, AddTable, all_applied, applied, list_key_cmp, DropTable, Note, cell_key_cmp}
pub use Rattle.ft_rows.specs.Store.{CellKey, ListKey, ClearIndex, ColumnKey, column_key_cmp, name_cmp}
pub use Rattle.ft_store.specs.Blame.{IsBlamed, TakesOut}
pub use Rattle.ft_store.specs.Calls.{fault_of_read, IsChangeFault, IsPlainFault, IsStored}
pub use Rattle.ft_store.specs.Kept.{value_in, shows, StoreState, more_rows}
pub use Rattle.ft_store.specs.Parts.{changes_in}
pub use Rattle.ft_store.specs.Puts.{CantPutAll}
pub use Rattle.ft_store.specs.Rows.{value_of}
pub use Rattle.ft_store.specs.declared.fault.StoreFault.{StoreFault}
unfoldable pub use Rattle.ft_content.specs.Answer.{chosen, answer, reading}
pub use Rattle.ft_content.specs.Answer.{cut, is_chosen, answer_names, cells_with, column_place, item_rows, query_in}
pub use Rattle.ft_commands.specs.Command.{Done, Command, Filter, Match, Delete, Drop, Listed, AllColumns, Counted, Create, Docid, Insert, Items, Named}
pub use Rattle.ft_commands.specs.Command.{OffsetsOf, Rebuild, Update, Check, Item, Optimize, Rows, Select}
pub use Rattle.ft_content.specs.Content.{Content, IsContent, Documents, same_name, Column, content_rows, repeats_name, names_of, TableRows}
pub use Rattle.ft_content.specs.Content.{skipped_from, CellRow, document_rows, is_docid}
unfoldable pub use Rattle.ft_content.specs.Step.{deserved, inserted_rows}
pub use Rattle.ft_content.specs.Step.{Contents, Table, TableState, table_named, Sound, Loose, query_fault, Stale, docids_named, made_columns}
pub use Rattle.ft_content.specs.Step.{held_content, first_of, has_docid, is_offsets, create_fault, is_match, moves_fault, on_found, on_sound}
pub use Rattle.ft_content.specs.Step.{delete_tests, has_column, items_in, listed_columns, update_tests}
unfoldable pub use Rattle.ft_content.specs.Index.{index_rows}
pub use Rattle.ft_content.specs.Index.{IndexRows, Spot, Key}
pub use Rattle.ft_content.specs.Meaning.{content_documents}
unfoldable pub use Rattle.ft_content.specs.Step.{after, reply_to, step, touched}
pub use Rattle.ft_content.specs.Step.{on_table, with_documents, step_by, docids_of, free_id_from, deleted, inserted, new_table, rebuilt, updated}
pub use Rattle.ft_content.specs.Step.{dropped, made_column, without_docid}
pub use Rattle.ft_content.specs.Views.{shown_info, TableInfo, column_of, bare_content}
pub use Rattle.ft_commands.specs.Views.{answer_of, filter_of, cells_of, creation_of, item_of, texts_of}
pub use Rattle.ft_content.specs.Views.{table_names, info_names}
pub use Rattle.ft_commands.specs.Views.{items_of, rows_of, command_of, deletion_of, insertion_of, modification_of, option_of}
pub use Rattle.ft_commands.specs.Views.{selection_of, set_of}
pub use Rattle.ft_commands.specs.declared.command.Reply.{Reply, Reply as RustReply}
pub use Rattle.ft_documents.specs.Chosen.{document_at, ReadsFilterAs, cells_at}
pub use Rattle.ft_documents.specs.Found.{info_named, IsUnfit, IsSoundNamed, with_info, with_sound, without_info}
pub use Rattle.ft_documents.specs.Gathered.{shown_document, has_given}
pub use Rattle.ft_documents.specs.Matched.{as_wanted, chosen_hits, hit_read}
pub use Rattle.ft_documents.specs.Rewrite.{shown_rewrite, Rewrite, AreRight, rewritten, rewritten_docids, HasContent, AreOf, document_if}
pub use Rattle.ft_documents.specs.Rewrite.{under_docids, removal, rewritten_content}
pub use Rattle.ft_documents.specs.Tables.{table_rows, table_index, IsOfDocids}
pub use Rattle.ft_documents.specs.declared.documents.Document.{Document}
unfoldable pub use Rattle.ft_calls.specs.Kept.{left_by}
pub use Rattle.ft_index.specs.Changed.{with_tables, Does, MakesRows}
pub use Rattle.ft_calls.specs.Kept.{Leaves, SurvivesCrash}
pub use Rattle.ft_index.specs.DocumentsRead.{Looks, HasRows}
pub use Rattle.ft_calls.specs.Kept.{AreHeld, StoreHolds, table_info, PlansFrom, Stands, FullText, IsUp, ReachesStep, Answers, Executes}
pub use Rattle.ft_calls.specs.Kept.{is_outside, KeepsOthers, HoldsTable, is_sound, IsOutside, store_value, AreSound, Holds, OnlyLooks, StaysNear}
pub use Rattle.ft_index.specs.Opened.{IsListed, state_of, AreMarked, HasState, HasTableMark, IsNamed}
pub use Rattle.ft_index.specs.Planned.{table_change, PlansTable, changes_of}
pub use Rattle.ft_index.specs.Refused.{AreThere, BlamesMade, BlamesDone}
pub use Rattle.ft_calls.specs.Causes.{AreRewrites, alone, behind}
unfoldable pub use Rattle.ft_calls.specs.RowsRead.{rows_asked}
pub use Rattle.ft_calls.specs.RowsRead.{reads_document, CountsRows, CountsCommand, CountsFound, CountsHeld, count_asked, entries_asked}
pub use Rattle.ft_index.specs.Selected.{hit_cells, IsAsked, IsOf}
unfoldable pub use Rattle.ft_index.specs.Walked.{table_documents}
pub use Rattle.ft_index.specs.Walked.{IsIndexed, ReadsStore}
pub use Rattle.ft_index.specs.Written.{WritesIn, LeadsTo, PlansTo, WritesDocuments, HasAll, MakesWritten, PlansIn, WritesTable, MakesAnew}
pub use Rattle.ft_index.specs.Written.{RebuildsIn, first_parts}
pub use Rattle.ft_index.specs.declared.written.Written.{Written}
