-- The names that most proofs cite, passed on from one place. Declares nothing.
pub use Rattle.std.proofs.lemmas.Bool.{or_parts, or_from}
pub use Rattle.std.proofs.lemmas.Bool.Decides.{nat_tests}
pub use Rattle.std.proofs.lemmas.Grind.{common_steps}
pub use Rattle.std.proofs.lemmas.List.{map-append, length-map, take_more, drop_all}
pub use Rattle.std.proofs.lemmas.List.Elements.{All-nil, All-weaker, All-append, All-from_recursion, recursion_from_All, All-map, All-filter, filter_passes, All-from_get_or, All-cons, Contains-append_left, Contains-append_right, Contains-append_cases, All-head, All-tail, All-contains}
pub use Rattle.std.proofs.lemmas.List.Folds.{list_any-append, fold-map}
pub use Rattle.std.proofs.lemmas.List.Kept.{AllPairs-cons, AllPairs-filter}
pub use Rattle.std.proofs.lemmas.List.Sums.{sum_by-cons, split_at_first, fails_before_first, passes_at_first}
pub use Rattle.std.proofs.lemmas.Str.{encode_ascii, inside_one, IsCharBoundary-start, IsCharBoundary-after_ascii, IsCharBoundary-before_ascii, IsCharBoundary-end}
pub use Rattle.std.proofs.str.Laws.{order}
pub use Rattle.std.specs.List.{enumerate_from, range_with_len, AllByRecursion, list_any, position_or_len, before_first, after_first, cons_option, list_all}
pub use Rattle.ft_match.specs.declared.query.QueryFault.{QueryFault}
pub use Rattle.ft_match.specs.declared.query.QueryFault.TheVariants.{Malformed, TooLarge, Memory}
pub use Rattle.ft_match.specs.declared.hit.Offset.{Offset}
pub use Rattle.ft_match.specs.Cutting.{tokens_left}
pub use Rattle.ft_match.specs.Documents.{Place, Posting, posting, postings_of, IsBefore, Document, AreDocuments, is_filled, documents_of}
pub use Rattle.ft_match.specs.Grammar.{IsPhrase, of_word, of_quoted, of_filtered_word, of_filtered_quoted, IsChain, alone, IsNear, one_chain, in_parens, IsNot, one_near, then_not, IsAnd, one_not, then_and, beside, IsOr, one_and, then_or}
pub use Rattle.ft_match.specs.Lexemes.{Lexeme, open_paren, close_paren, and_word, or_word, not_word, near_word, filter_on, word, quoted, parts_of, lexemes_of, is_colon, column_filter_of, Part, open_part, close_part, quoted_part, chunk_part, unclosed_part, is_query_space, is_quote, stops_chunk, ends_chunk, IsPart, opens, closes, in_quotes, not_closed, longest_run, AreParts, no_part, white_space, next_part, parts_within, lexemes_of_part, follows_caret, terms_of, words_after, is_digit_run, digits_number}
pub use Rattle.ft_match.specs.Machine.{capped, asks_much, query_within, plain_lexeme, ByteMark, quote, paren, space, plain, byte_mark, in_chunk, in_quote, begun_after, parts_ended, parts_from, begun_part, ends_begun, chunk_parts, plain_state}
pub use Rattle.ft_match.specs.Occurs.{accepts, fits, takes, token_fits, places_of, occurrences, IsChoice, choices, begins_near, PlainHit, offsets_of, is_at, offsets_at, taken, found_of, offset_numbers}
pub use Rattle.ft_match.specs.Pass.{tree_from, Waiting, nothing_waits, Last, operator, filtered, chained, near_to, near_filtered, State, join, not_whole, and_whole, or_whole, not_state, and_state, or_state, begin, close, after_operand, pass_step, operand, finish, run, pass_start, last_state}
pub use Rattle.ft_match.specs.Reads.{is_unclosed_part, term_count, is_far, open_after, nests_deep, query_from, query_unless, Reads, first_fault, IsMalformed, some_or_malformed}
unfoldable pub use Rattle.ft_match.specs.Reads.{query_of}
pub use Rattle.ft_match.specs.Tokens.{PlainToken, tokens_of, is_eligible, AreTokens, plain_token, covers, small_range, token_of, tokens_from, Scan, ended}
pub use Rattle.ft_match.specs.Trees.{Tree, phrase, chain, both, either, without, PlainTerm, PlainPhrase, PlainLink, tree_of, plain_term, tree_of_chain}
