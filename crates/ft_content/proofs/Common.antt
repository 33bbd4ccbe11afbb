-- The names that most proofs cite, passed on from one place. Declares nothing.
pub use Rattle.std.specs.declared.alloc.Global.{Global}
pub use Rattle.std.specs.declared.cmp.Ordering.{Ordering}
pub use Rattle.std.specs.declared.cmp.Ordering.TheVariants.{Less, Equal, Greater}
pub use Rattle.std.proofs.lemmas.Bool.{and_parts, and_from, ltb-false, false_from_ne_true}
pub use Rattle.std.proofs.lemmas.Bool.Decides.{Decides-int_eq}
pub use Rattle.std.proofs.lemmas.Iterator.{YieldsList, YieldsList-from_slice, YieldsList-from_zip, YieldsList-from_map_by}
pub use Rattle.std.proofs.lemmas.Iterator.Consumers.{nth_from_yields_List, YieldsList-from_filter_map, count_from_yields_List, map_from_collect, YieldsList-end}
pub use Rattle.std.proofs.lemmas.Iterator.Search.{all_from_yields_List, any_from_yields_List, position_from_yields_List, find_from_yields_List}
pub use Rattle.std.proofs.lemmas.List.{length-map, map-append, take_more, take-append-drop, drop_all, take_rest, take_all}
pub use Rattle.std.proofs.lemmas.List.Folds.{list_any-append}
pub use Rattle.std.specs.Cmp.{int_cmp_total, IsTotalOrder, eq_by_cmp_equiv, int_ranks, ranks, nat_cmp_total, tied_itself, Equal-is, int_cmp_is}
pub use Rattle.std.specs.FinMap.{int_cmp-IsAntisymmetric}
pub use Rattle.std.specs.FinMap.Entries.{by_order, put, below_all, is_sorted, is_sorted-put, is_sorted-where_key, find, where_key, find-put, same_entries, find-where_key}
pub use Rattle.std.specs.Int.{w64, int_max}
pub use Rattle.std.specs.List.{list_any, flat_map, list_all, filter_map, cons_option, AllZip, FoldsTo, position_or_len, AllByRecursion, enumerate_from}
pub use Rattle.std.specs.Option.{SomeIff, MatchOption, option_map_or}
pub use Rattle.std.specs.Ordering.{int_cmp, int_eq, is_lt, eq_by_cmp, is_eq, nat_cmp, ordering_then, MatchOrdering}
pub use Rattle.ft_values.specs.declared.fault.Fault.{Fault}
pub use Rattle.ft_values.specs.declared.rows.Value.{Value}
pub use Rattle.ft_values.specs.declared.table.Column.{Column}
pub use Rattle.ft_match.specs.Reads.{query_of}
pub use Rattle.ft_match.specs.Trees.{Tree, tree_of}
pub use Rattle.ft_values.specs.Cells.{Cell, Null, Int, Text, shown_value}
pub use Rattle.ft_content.specs.Answer.{cells_with, item_cells, offsets_cell, cut, reading, chosen, answer, is_chosen, column_place}
pub use Rattle.ft_commands.specs.Command.{Item, AllColumns, Named, OffsetsOf, Filter, All, Docid, Match, Counted, Listed, Command, Create, Drop, Insert, Update, Delete, Select, Rebuild, Check, Optimize, Reply, Done, Rows}
pub use Rattle.ft_content.specs.Content.{Content, names_of, Documents, same_name, is_name, names_clash, is_too_long, has_nul, is_cell, is_document, is_docid, repeats_name, CellRow, skipped_from, document_rows, with_cell, gathered, content_in, RowsAreRead, ContentsAreOne}
pub use Rattle.ft_content.specs.Step.{is_offsets, TableState, Sound, Stale, Loose, Contents, inserted_rows, deserved, listed_columns, docids_named, value_under, with_values, new_cells, next_docid, append_document, insert_row, then_rows, has_docid, docid_of_value, move_fault, moves_fault, Table, table_named, is_tokenize, is_notindexed, made_columns, is_text, has_column, reading_fault, item_unknown, items_in, names_unknown, is_null}
pub use Rattle.ft_content.specs.Index.{EntryRow, SizeRow, entries, spot_lists, sizes, index_rows, entry_rows, Spot, Entry, Key, key_cmp, key_of, spots_at, document_postings, entry_at, document_entries, indexed_text, document_tokens, SpotLists}
pub use Rattle.ft_content.specs.Laws.{RowsAreCutFirst, InsertKeepsContent, UpdateKeepsContent, DeleteKeepsContent, CreateMakesContent, entries_of_docid, spots_of_key, some_if_any, ListsAreEntries, DocidIsTaken, content_with, document_lists}
pub use Rattle.ft_content.specs.Small.{HasLowercase}
pub use Rattle.ft_content.specs.Step.{after, reply_to, step, without_docid, made_column, moved, free_id_from, docids_of}
pub use Rattle.ft_content.specs.Views.{column_of, last_docid, table_names, table_ids, info_names, info_ids, placed, bare_content}
pub use Rattle.ft_commands.specs.Views.{option_of, cells_of, item_of, texts_of, filter_of, items_of, set_of}
