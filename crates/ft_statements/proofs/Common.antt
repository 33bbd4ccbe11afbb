-- The names that most proofs cite, passed on from one place. Declares nothing.
pub use Rattle.std.proofs.lemmas.List.{append-nil, map-append, take_all, drop_more, take_more, drop_all, length-drop, length-map, get_or-map, length-append}
pub use Rattle.std.specs.List.{flat_map, join_with_byte, Any, list_any}
pub use Rattle.std.specs.Str.{chars, IsUtf8}
pub use Rattle.std.specs.Str.Iter.{chars_rest, chars_steps_back}
pub use Rattle.ft_values.specs.Names.{info_names}
pub use Rattle.ft_commands.specs.Command.{Import}
pub use Rattle.ft_commands.specs.Views.{option_of, texts_of, cells_of}
pub use Rattle.ft_statements.specs.Create.{Argument, Setting, Column, joined, settings_in, columns_in, tokenizer_of}
pub use Rattle.ft_statements.specs.Dots.{DotCommand, Row, dot_row, rows, Usage, SaysRow, SaysIn, Says, said_in, dot_command_of, is_exact, any_word, all_words, files, file_named, options, import, SetMode, SetHeaders, Print, Importing, Unknown, Nothing, may_csv, may_skip}
pub use Rattle.ft_statements.specs.Forms.{Form, means, one, ends, ◌&◌, ◌·◌, Has, Mark, Opens, Closes, Parts, Other, such, when, first, list, balanced, begins, Separated, last_part, then_comma, IsBalanced, no_word, any_part, group, ends_part, Stops}
pub use Rattle.ft_statements.specs.Grammar.{words, done, statement, IsStatement, spelled, mark_of}
pub use Rattle.ft_statements.specs.Plain.{query_words, writing_words, Asks, queries, returns, asks, made_table, Makes, made_name, temporary}
pub use Rattle.ft_statements.specs.Reading.{FrontRead, ◌>>=◌, onto_read, found, read, list_at, depth_after, balanced_at}
pub use Rattle.ft_statements.specs.Replies.{cell_value, listed}
pub use Rattle.ft_statements.specs.Statements.{Class, Plain, FullText, spelled_command, is_table, names_table, is_full_text, class_of, lead_words, IsTable, table_name, IsFullText, makes_virtual, names_one, HasClass, plain_class, full_text_class}
pub use Rattle.ft_statements.specs.Views.{seen, plain, argument_as, command_as, IsSaid, rest_of, Advances}
pub use Rattle.ft_commands.specs.Views.{texts_of}
pub use Rattle.ft_statements.specs.Words.{Token, bare, spells, is_one_of, name_of, sql_tokens, StandsFor, nothing, other_character, doubled_mark, halved, closing, between_marks, token}
