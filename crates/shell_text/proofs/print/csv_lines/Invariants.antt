use Rattle.std.proofs.Common.{◌≡◌, false, map, take, Some}
use Rattle.std.specs.List.{flat_map}
use Rattle.csv.specs.Writing.{fields_written, has_written, row_text, text_written, writer_setup}
use Rattle.shell_text.specs.Print.{bytes_of, csv_writer, written}
use Rattle.shell_text.proofs.print.csv_lines.Given as goal

abbrev pub invariant-loop-row : goal.invariant-loop-row
invariant-loop-row l = record {
  setup : writer_setup l.writer ≡ csv_writer l.separator;
  fields : fields_written l.writer ≡ 0;
  wrote : has_written l.writer ≡ false;
  text : text_written written l.writer ≡ Some (flat_map (row_text (csv_writer l.separator)) (map bytes_of (take l.row-index l.rows)));
}
