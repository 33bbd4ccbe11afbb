mod RecordLemmas
mod LineReaderLemmas
mod WriteLemmas
-- lines that are left
pub use Rattle.shell_io.proofs.LineReaderLemmas.{ends_refused, none_left}
-- what is written, one piece after the other
pub use Rattle.shell_io.proofs.WriteLemmas.{appends_kept, appends_same, appends_then, same_then, sends_err, sends_then, up_to_more, up_to_then}
