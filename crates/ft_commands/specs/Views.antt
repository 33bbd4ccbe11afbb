-- Meaning. Commands and replies as the definitions see them.
use Rattle.std.specs.Prelude.{ℕ, List, map, option_map, Result, Ok, Err, string_bytes, String, Vec}
use Rattle.std.specs.declared.alloc.Global.{Global}
use Rattle.ft_values.specs.declared.rows.Value.{Value}
use Rattle.ft_values.specs.Cells.{Cell, shown_value}
use Rattle.ft_values.specs.declared.fault.Fault.{Fault}
use Rattle.ft_commands.specs.declared.command.Filter.{Filter}
use Rattle.ft_commands.specs.declared.command.Filter.TheVariants as filters
use Rattle.ft_commands.specs.declared.command.Item.{Item}
use Rattle.ft_commands.specs.declared.command.Item.TheVariants as item
use Rattle.ft_commands.specs.declared.command.Items.{Items}
use Rattle.ft_commands.specs.declared.command.Items.TheVariants as items
use Rattle.ft_commands.specs.declared.command.Creation.{Creation}
use Rattle.ft_commands.specs.declared.command.Insertion.{Insertion}
use Rattle.ft_commands.specs.declared.command.Modification.{Modification}
use Rattle.ft_commands.specs.declared.command.Deletion.{Deletion}
use Rattle.ft_commands.specs.declared.command.Selection.{Selection}
use Rattle.ft_commands.specs.declared.command.Command.{Command}
use Rattle.ft_commands.specs.declared.command.Command.TheVariants as commands
use Rattle.ft_commands.specs.declared.command.Grid.{Grid}
use Rattle.ft_commands.specs.declared.command.Import.{Import}
use Rattle.ft_commands.specs.declared.command.Reply.{Reply}
use Rattle.ft_commands.specs.declared.command.Reply.TheVariants as replies
use Rattle.ft_commands.specs.Command as plain

abbrev pub filter_of : Filter → plain.Filter
filter_of filters.All = plain.All
filter_of (filters.Docid docid) = plain.Docid docid
filter_of (filters.Match name query) = plain.Match (string_bytes name) (string_bytes query)

abbrev pub item_of : Item → plain.Item
item_of item.All = plain.AllColumns
item_of (item.Name name) = plain.Named (string_bytes name)
item_of (item.Offsets name) = plain.OffsetsOf (string_bytes name)

abbrev pub items_of : Items → plain.Items
items_of items.Count = plain.Counted
items_of (items.List list) = plain.Listed (map item_of list.items)

abbrev pub texts_of : {A : Type 0} → Vec (String Global) A → List (List ℕ)
texts_of texts = map string_bytes texts.items

abbrev pub cells_of : {A : Type 0} → Vec Value A → List Cell
cells_of cells = map shown_value cells.items

abbrev pub rows_of : {A : Type 0} → Vec (Vec Value Global) A → List (List Cell)
rows_of rows = map cells_of rows.items

-- a name with a value, and a name with a text
abbrev pub set_of : String Global × Value → List ℕ × Cell
set_of s = (string_bytes s.0, shown_value s.1)

abbrev pub option_of : String Global × String Global → List ℕ × List ℕ
option_of o = (string_bytes o.0, string_bytes o.1)

abbrev pub creation_of : Creation → plain.Command
creation_of c = plain.Create (string_bytes c.table) (string_bytes c.module) (map option_of c.options.items) (texts_of c.columns) c.if_new

abbrev pub insertion_of : Insertion → plain.Command
insertion_of i = plain.Insert (string_bytes i.table) (option_map texts_of i.columns) (rows_of i.rows)

abbrev pub modification_of : Modification → plain.Command
modification_of m = plain.Update (string_bytes m.table) (map set_of m.sets.items) (filter_of m.filter)

abbrev pub deletion_of : Deletion → plain.Command
deletion_of d = plain.Delete (string_bytes d.table) (filter_of d.filter)

abbrev pub selection_of : Selection → plain.Command
selection_of s = plain.Select (string_bytes s.table) (items_of s.items) (filter_of s.filter) s.limit s.offset

abbrev pub command_of : Command → plain.Command
command_of (commands.Create creation) = creation_of creation
command_of (commands.Drop table if_there) = plain.Drop (string_bytes table) if_there
command_of (commands.Insert insertion) = insertion_of insertion
command_of (commands.Update modification) = modification_of modification
command_of (commands.Delete deletion) = deletion_of deletion
command_of (commands.Select selection) = selection_of selection
command_of (commands.Rebuild table) = plain.Rebuild (string_bytes table)
command_of (commands.Check table) = plain.Check (string_bytes table)
command_of (commands.Optimize table) = plain.Optimize (string_bytes table)

abbrev pub grid_of : Grid → plain.Grid
grid_of grid = record { names = texts_of grid.names; rows = rows_of grid.rows }

abbrev pub reply_of : Reply → plain.Reply
reply_of replies.Done = plain.Done
reply_of (replies.Rows grid) = plain.Rows (grid_of grid)

abbrev pub answer_of : Result Reply Fault → Result plain.Reply Fault
answer_of (Ok reply) = Ok (reply_of reply)
answer_of (Err fault) = Err fault

abbrev pub import_as : Import → plain.Import
import_as what = record { csv = what.csv; skip = what.skip; file = string_bytes what.file; table = string_bytes what.table }
