-- The names that most proofs cite, passed on from one place. Declares nothing.
pub use Rattle.std.proofs.lemmas.Bool.{and_parts, and_from, false_from_ne_true}
pub use Rattle.std.proofs.lemmas.Bool.Decides.{nat_tests, Decides-int_eq, Decides-eqb}
pub use Rattle.std.proofs.lemmas.Fn.{always_returns_same, filter_same}
pub use Rattle.std.proofs.lemmas.Int.{ints}
pub use Rattle.std.proofs.lemmas.Iterator.{YieldsList-from_slice, YieldsList-from_map, YieldsList-from_map_by}
pub use Rattle.std.proofs.lemmas.Iterator.Adapters.{position_from-zero, YieldsList-from_vec, items_from_extend}
pub use Rattle.std.proofs.lemmas.Iterator.Consumers.{YieldsList-end, YieldsList-at, map_from_collect, YieldsList-from_rest, YieldsList-from_enumerate}
pub use Rattle.std.proofs.lemmas.List.{length-map, get_or-map, map-append, reverse-append, at_drop_more, take-map, drop-map, drop_all, take_more, take-append-le}
pub use Rattle.std.proofs.lemmas.List.Concat.{flat_map-append}
pub use Rattle.std.proofs.lemmas.List.Elements.{recursion_from_All, All-nil, All-append, All-map, All-from_recursion, All-head, All-tail, All-cons, All-filter, All-weaker, All-same, All-contains_itself, filter-append}
pub use Rattle.std.proofs.lemmas.List.Sorted.{IsPermutation-refl, IsPermutation-cons, IsPermutation-trans, IsPermutation-sym, IsPermutation-middle, IsPermutation-map, length_permutation, searchable_from_sorted, All-permutation, Contains-permutation, ranks_by, answers_always}
pub use Rattle.std.proofs.lemmas.Map.Lookups.{CmpEqualImpliesEq, exact_signed, exact_bytes}
pub use Rattle.std.proofs.lemmas.Option.{slice_get_past, slice_get_read, slice_get-map, same_Some, slice_get-get_or, slice_get_within, get_or_from_slice_get}
pub use Rattle.std.proofs.lemmas.Result.{IfOk-weaker, IfOk-at_ok}
pub use Rattle.std.proofs.lemmas.Slice.Eq.{bytes_eq-Decides, slice_eq-Decides}
pub use Rattle.std.specs.Cmp.{IsTotalOrder, int_cmp_total, nat_cmp_total, nat_cmp_is, int_cmp_is, tied_itself, on_total, then_total, eq_by_cmp_equiv, IsStrictWeakOrder}
pub use Rattle.std.specs.Cmp.Lexicographic.{pointwise, slice_cmp}
pub use Rattle.std.specs.FinMap.{int_cmp-IsAntisymmetric}
pub use Rattle.std.specs.FinMap.Entries.{put, find, where_key, is_sorted, is_sorted-put, is_sorted-where_key, find-put, find-where_key, same_entries, by_order, length-put, below_all}
pub use Rattle.std.specs.List.{AllByRecursion, enumerate_from, AllAdjacentBelow, IsAllAdjacentAnswer, position_from, list_all, range_with_len, list_any, position_or_len, IsDistinct}
pub use Rattle.std.specs.List.Sorted.{IsNonDecreasingBy, IsPartitionPoint, IsStrictlySortedBy, ties, IsBinarySearchResult}
pub use Rattle.std.specs.Map.{lookup, keys_of}
pub use Rattle.std.specs.Option.{option_eq, option_map_or, option_or}
pub use Rattle.std.specs.Ordering.{eq_by_cmp, ordering_then, ordering_reverse, match_ordering, ordering_index}
pub use Rattle.ft_rows.specs.declared.terms.TermLists.{TermLists}
pub use Rattle.ft_values.specs.declared.fault.Fault.{Fault}
pub use Rattle.ft_values.specs.declared.rows.Value.{Value}
pub use Rattle.ft_values.specs.declared.table.TableInfo.{TableInfo}
pub use Rattle.ft_content.specs.Answer.{is_chosen, chosen, query_in, reading, cut}
pub use Rattle.ft_commands.specs.Command.{Filter, All, Docid, Insert, Match}
pub use Rattle.ft_content.specs.Content.{Column, Content, names_of, skipped_from, content_rows, TableRows, Documents, IsContent, is_document, cell_text, repeats_name, is_cell, has_nul, CellRow, gathered, document_rows, names_clash, is_name, with_cell, content_in, are_columns, same_name}
pub use Rattle.ft_content.specs.Step.{Contents, first_of, on_sound, listed_columns, inserted_rows, insert_fault, deserved, next_docid, has_docid, insert_row, append_document, then_rows, docids_named, new_cells}
pub use Rattle.ft_content.specs.Index.{Spot, index_rows, entries, sizes, spot_lists, Entry, Key, IndexRows, entry_at, size_row, document_tokens, key_cmp, key_of, document_entries, document_postings, SizeRow, document_sizes, indexed_text, cell_tokens}
pub use Rattle.ft_content.specs.Laws.{spots_of_key, some_if_any, content_with, document_lists}
pub use Rattle.ft_content.specs.Views.{last_docid, shown_info, column_of, placed}
pub use Rattle.ft_commands.specs.Views.{cells_of, set_of}
pub use Rattle.ft_match.specs.Documents.{PlaceList, place_count, Posting, Document, IsBefore, AreDocuments, is_filled, has_places, places_with, lists_with, posting, postings_of}
pub use Rattle.ft_query.specs.Lists.{plain_list}
pub use Rattle.ft_match.specs.Occurs.{PlainHit, accepts, hits_of, plain_hit}
pub use Rattle.ft_match.specs.Tokens.{PlainToken, Scan, is_eligible, token_of, ended, tokens_from, tokens_of}
pub use Rattle.ft_match.specs.Trees.{Tree, tree_of}
pub use Rattle.ft_rows.specs.Changes.{shown_change, CanApply}
pub use Rattle.ft_rows.specs.Shown.{shown_list, bare_list, spot_count, shown_cell, last_docid_of}
pub use Rattle.ft_rows.specs.Store.{StoreValue, AreInOrder, CellKey, ListKey, ColumnKey, column_key_cmp, AddTable, applied, without_rows, with_columns, with_skipped, list_key_cmp, Change, PutCell, cell_key_cmp, without_key, DropTable, DropCells, PutEntries, DropEntries, PutSize, DropSize, ClearIndex, Note, all_applied}
pub use Rattle.ft_rows.specs.Terms.{joined_posting, lists_of_postings, spot_of}
pub use Rattle.ft_values.specs.Cells.{Cell, shown_value, Null, Int, Text}
pub use Rattle.ft_documents.specs.declared.new_documents.NewDocuments.{NewDocuments}
pub use Rattle.ft_documents.specs.Found.{with_info, sound_if, with_sound, without_info}
pub use Rattle.ft_documents.specs.Gathered.{has_given, gathered_row, shown_document, with_last}
pub use Rattle.ft_documents.specs.Inserted.{AreKnown, IsNewIn, AreInserts, MakesDocuments}
pub use Rattle.ft_documents.specs.MadeIndex.{lists_in, sizes_in, HaveShortNumbers, AddsDocuments, IsIndexOf, IsTextOf}
pub use Rattle.ft_documents.specs.Matched.{hit_read, chosen_hits, as_wanted, TellsHit}
pub use Rattle.ft_documents.specs.NewDocuments.{shown_new, shown_documents, with_new, new_rewrite, AreBeside, Places}
pub use Rattle.ft_documents.specs.Placed.{place_of, spot_in, read_list, list_of, placed_in, all_in, posting_cmp, AreListsOf, rise}
pub use Rattle.ft_documents.specs.Rewrite.{document_if, Rewrite, with_cells, rewritten, rewritten_content, rewritten_docids, under_docids, FitIfAny, AreOf, HasContent, AreRight, befores, afters, IsPackable, shown_rewrite, rewrite_bytes, IsSmall, cell_bytes, removal}
pub use Rattle.ft_documents.specs.RewriteRows.{all_put, same_cell, was_there, numbered_cells, put_cells, rewrite_changes, with_spots, with_entries, entry_spot, sized, cell_entries, cell_sizes, AreShortNumbers, lists_joined_by, sizes_with, index_lists_of, sizes_of, gone, changed, same_spots, goes, dropped_documents, put_documents, dropped_lists, dropped_sizes, list_changes, IsShortNumber, put_lists, put_sizes, same_spot}
pub use Rattle.ft_documents.specs.Standing.{AreContent, AreDocumentCells, columns_said, stands_after, follows, size_under_key, HaveContent, shown_row, numbered_column, listed_rows}
pub use Rattle.ft_documents.specs.Tables.{table_rows, table_index, IsOfDocids}
pub use Rattle.ft_documents.specs.Terms.{Group, group_spots, lists_in_groups, spots_of_docid, by_docids, lists_of_terms, under_term, kept_list, lists_of_term}
pub use Rattle.ft_documents.specs.Updated.{leaving, coming, moved_from, MovesOnly, changing}
