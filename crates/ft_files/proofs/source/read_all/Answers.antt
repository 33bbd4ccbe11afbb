-- one byte more than the most is asked for
use Rattle.std.proofs.Common.{rules, ◌≤◌, ◌^◌, length}
use Rattle.ft_files.proofs.ReadingLemmas.{all_taken}
use Rattle.ft_files.proofs.source.read_all.Goals as goal

pub returns-in-Ok-2 : goal.returns-in-Ok-2
returns-in-Ok-2 g c =
    let few : length c.read_to_end.new.buf.items ≤ 2 ^ 26 = search (rules, c.in-Ok.ensures.ok, c.if-count-gt-MOST_BYTES.false, c.read_to_end.new.buf.ok.0) in
    let whole = all_taken g.R.Read.remaining c.take.result c.args.reader c.new-bytes.result.items c.read_to_end.new.buf.items c.take.ensures.limit c.take.ensures.inner c.new-bytes.ensures.items c.in-Ok-2.ensures.bytes few in
    record { whole = whole; refused = tt }
