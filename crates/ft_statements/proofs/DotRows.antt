-- Worked dot-commands, computed. By the law of dot lines each line says the command that is
-- computed.
use Rattle.std.proofs.Common.{◌≡◌, refl, [], ◌∷◌, codes, Some, true}
use Rattle.std.specs.Str.{chars}
use Rattle.shell_text.specs.Dot.{dot_turn, dot_words_from, dot_words_of}
use Rattle.ft_statements.proofs.Common.{SetMode, SetHeaders, Print, Importing, Usage, Unknown, Nothing}
use Rattle.ft_statements.specs.Dots.{dot_command_of, rows, import, options, files, may_csv, may_skip}
use Rattle.shell_text.specs.declared.settings.Mode.TheVariants as mode
use lib.Utf8

pub mode_csv : dot_command_of (dot_words_of (codes "mode csv")) ≡ SetMode mode.Csv
unfolding dot_turn dot_words_from chars lib.Utf8.encode dot_command_of rows import options files may_csv may_skip
mode_csv = refl

pub mode_usage : dot_command_of (dot_words_of (codes "mode")) ≡ Usage (codes ".mode list|csv|column|quote")
unfolding dot_turn dot_words_from chars lib.Utf8.encode dot_command_of rows import options files may_csv may_skip
mode_usage = refl

pub header_usage : dot_command_of (dot_words_of (codes "header maybe")) ≡ Usage (codes ".headers BOOL")
unfolding dot_turn dot_words_from chars lib.Utf8.encode dot_command_of rows import options files may_csv may_skip
header_usage = refl

pub headers_on : dot_command_of (dot_words_of (codes "headers ON")) ≡ SetHeaders true
unfolding dot_turn dot_words_from chars lib.Utf8.encode dot_command_of rows import options files may_csv may_skip
headers_on = refl

pub import_two : dot_command_of (dot_words_of (codes "import --skip 1 --csv 'a b.csv' t")) ≡ Importing (record { csv = true; skip = Some 1; file = codes "a b.csv"; table = codes "t" })
unfolding dot_turn dot_words_from chars lib.Utf8.encode dot_command_of rows import options files may_csv may_skip
import_two = refl

pub import_twice : dot_command_of (dot_words_of (codes "import --csv --csv t")) ≡ Usage (codes ".import [--csv] [--skip N] FILE TABLE")
unfolding dot_turn dot_words_from chars lib.Utf8.encode dot_command_of rows import options files may_csv may_skip
import_twice = refl

pub import_skip : dot_command_of (dot_words_of (codes "import --skip 1000001 f t")) ≡ Usage (codes ".import [--csv] [--skip N] FILE TABLE")
unfolding dot_turn dot_words_from chars lib.Utf8.encode dot_command_of rows import options files may_csv may_skip
import_skip = refl

pub print_words : dot_command_of (dot_words_of (codes "print a 'b c'")) ≡ Print (codes "a" ∷ codes "b c" ∷ [])
unfolding dot_turn dot_words_from chars lib.Utf8.encode dot_command_of rows import options files may_csv may_skip
print_words = refl

pub quit_more : dot_command_of (dot_words_of (codes "exit 1")) ≡ Usage (codes ".exit")
unfolding dot_turn dot_words_from chars lib.Utf8.encode dot_command_of rows import options files may_csv may_skip
quit_more = refl

pub nothing : dot_command_of (dot_words_of (codes "  ")) ≡ Nothing
unfolding dot_turn dot_words_from chars lib.Utf8.encode dot_command_of rows import options files may_csv may_skip
nothing = refl

pub unknown : dot_command_of (dot_words_of (codes "nosuch")) ≡ Unknown
unfolding dot_turn dot_words_from chars lib.Utf8.encode dot_command_of rows import options files may_csv may_skip
unknown = refl

-- the words are read before the name
pub quoted_name : dot_command_of (dot_words_of (codes "'mode' list")) ≡ SetMode mode.List
unfolding dot_turn dot_words_from chars lib.Utf8.encode dot_command_of rows import options files may_csv may_skip
quoted_name = refl

-- an option stands before FILE
pub import_option_last : dot_command_of (dot_words_of (codes "import f --csv t")) ≡ Usage (codes ".import [--csv] [--skip N] FILE TABLE")
unfolding dot_turn dot_words_from chars lib.Utf8.encode dot_command_of rows import options files may_csv may_skip
import_option_last = refl

pub bail_word : dot_command_of (dot_words_of (codes "bail 2")) ≡ Usage (codes ".bail BOOL")
unfolding dot_turn dot_words_from chars lib.Utf8.encode dot_command_of rows import options files may_csv may_skip
bail_word = refl

-- names are exact
pub capital_name : dot_command_of (dot_words_of (codes "Mode csv")) ≡ Unknown
unfolding dot_turn dot_words_from chars lib.Utf8.encode dot_command_of rows import options files may_csv may_skip
capital_name = refl
