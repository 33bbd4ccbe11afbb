-- Steps. Words, what was read of them, and classes and commands, as the code holds them.
use Rattle.std.specs.Prelude.{ℕ, ◌≡◌, Bool, true, false, List, map, Option, Some, None, Result, option_map, string_bytes, String, Vec, IfOk, OnErr, IsErrOf}
use Rattle.std.specs.declared.alloc.Global.{Global}
use Rattle.std.specs.Borrow.{Bor}
use Rattle.ft_commands.specs.Views.{command_of, import_as}
use Rattle.ft_statements.specs.declared.words.Token.{Token as RustToken}
use Rattle.ft_statements.specs.declared.reading.Reader.{Reader}
use Rattle.ft_statements.specs.declared.create.Argument.{Argument}
use Rattle.ft_statements.specs.declared.create.Argument.TheVariants as arguments
use Rattle.ft_commands.specs.declared.fault.StatementFault.{StatementFault}
use Rattle.ft_commands.specs.declared.fault.StatementFault.TheVariants.{Syntax}
use Rattle.ft_statements.specs.declared.statement.Class.{Class}
use Rattle.ft_statements.specs.declared.statement.Class.TheVariants as classes
use Rattle.ft_statements.specs.declared.plain.PlainStatement.{PlainStatement}
use Rattle.ft_statements.specs.declared.dots.DotCommand.{DotCommand}
use Rattle.ft_statements.specs.declared.dots.DotCommand.TheVariants as commands
use Rattle.ft_statements.specs.Words.{Token, token}
use Rattle.ft_statements.specs.Forms.{Form, begins}
use Rattle.ft_statements.specs.Reading.{FrontRead, read}
use Rattle.ft_statements.specs.Create as makes
use Rattle.ft_statements.specs.Statements as statements
use Rattle.ft_statements.specs.Plain as plains
use Rattle.ft_statements.specs.Dots as dots

abbrev pub seen : RustToken → Token
seen p = token p.kind p.text.now

abbrev pub plain : List RustToken → List Token
plain tokens = map seen tokens

-- the words that are still to be read
abbrev pub rest_of : Reader → List Token
rest_of reader = plain reader.left.now

abbrev pub argument_as : Argument → makes.Argument
argument_as (arguments.Setting name value) = makes.Setting (string_bytes name) (string_bytes value)
argument_as (arguments.Column name) = makes.Column (string_bytes name)

abbrev pub class_as : Class → statements.Class
class_as classes.Plain = statements.Plain
class_as (classes.FullText command) = statements.FullText (command_of command)

abbrev pub command_as : DotCommand → dots.DotCommand
command_as commands.Nothing = dots.Nothing
command_as (commands.Mode mode) = dots.SetMode mode
command_as (commands.Headers shown) = dots.SetHeaders shown
command_as (commands.Separator text) = dots.SetSeparator (string_bytes text)
command_as (commands.Null text) = dots.SetNull (string_bytes text)
command_as (commands.Echo on) = dots.SetEcho on
command_as (commands.Bail on) = dots.SetBail on
command_as (commands.Print words) = dots.Print (map string_bytes words.items)
command_as (commands.Import what) = dots.Importing (import_as what)
command_as commands.Tables = dots.Tables
command_as commands.Quit = dots.Quit
command_as (commands.Usage text) = dots.Usage text.now
command_as commands.Unknown = dots.Unknown

-- what was read of a dot line, and the words after it
abbrev pub with_left : {A : Type 0} → A × Bor (List (String Global)) → A × List (List ℕ)
with_left read = (read.0, map string_bytes read.1.now)

-- ---- what a reader finds, or that there is no such thing; of want of memory nothing is said

-- a value, as the form has it
pub record Gives {A B : Type 0} (shown : A → B) (result : Result A StatementFault) (form : Option B) : Type 0 where
  pub found : IfOk result (λ x. form ≡ Some (shown x))
  pub none : IsErrOf result Syntax → form ≡ None

-- a value, as the form has it, and the words after it are left
pub record Advances {A B : Type 0} (shown : A → B) (form : List Token → FrontRead Token B) (before after : Reader)
    (result : Result A StatementFault) : Type 0 where
  pub found : IfOk result (λ x. form (rest_of before) ≡ Some (shown x, rest_of after))
  pub none : IsErrOf result Syntax → form (rest_of before) ≡ None

-- words that add nothing to a meaning; all are left if they don't stand there
pub record Passes {A : Type 0} (form : Form Token (Unit {0})) (before after : Reader) (result : Result A StatementFault) : Type 0 where
  pub found : IfOk result (λ x. read form (rest_of before) ≡ Some (tt, rest_of after))
  pub none : OnErr result (read form (rest_of before) ≡ None)
  pub stays : OnErr result (rest_of after ≡ rest_of before)

-- a word that may be missing: whether it stands there, which is then passed
pub record Takes (test : Token → Bool) (form : Form Token (Unit {0})) (before after : Reader) (there : Bool) : Type 0 where
  pub stands : there ≡ begins test (rest_of before)
  pub passed : there ≡ true → read form (rest_of before) ≡ Some (tt, rest_of after)
  pub stays : there ≡ false → rest_of after ≡ rest_of before

-- ---- what all of the words say

-- the class of a statement, where these full-text tables are there, as it is read and as the grammar spells it; or it has none
pub record ReadsClass (tables : List (List ℕ)) (ts : List Token) (result : Result Class StatementFault) : Type 0 where
  pub class : IfOk result (λ class. statements.class_of tables ts ≡ Some (class_as class))
  pub syntax : IsErrOf result Syntax → statements.class_of tables ts ≡ None
  pub spelled : IfOk result (λ class. statements.HasClass tables ts (class_as class))
  pub unspelled : IsErrOf result Syntax → (class : statements.Class) → ¬ statements.HasClass tables ts class

-- how a plain statement is run, whether it has MATCH, and the name of the table that it makes
pub record IsRunAs (ts : List Token) (statement : PlainStatement) : Type 0 where
  pub asks : statement.asks ≡ plains.asks ts
  pub seeks : statement.seeks ≡ plains.seeks ts
  pub made : option_map string_bytes statement.made ≡ plains.made_name ts

-- the command that a line's words make, as it is read and as the grammar says
pub record IsSaid (words : List (List ℕ)) (result : DotCommand) : Type 0 where
  pub command : command_as result ≡ dots.dot_command_of words
  pub says : dots.Says words (command_as result)
