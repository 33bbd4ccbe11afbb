-- the words and what is said behind them, or want of memory
use Rattle.std.proofs.Common.{rules, ◌≡◌, refl, inl, inr, string_bytes, false, []}
use Rattle.shell_io.specs.Outcomes.{blames, lacks_memory}
use Rattle.shell_io.specs.OutputViews.{complaint_as}
use Rattle.plain_sql.proofs.Common.{is_memory_error, match_hint}
use Rattle.plain_sql.proofs.QueryLemmas.{words_told}
use Rattle.plain_sql.proofs.queries.refusal.Goals as goal

pub returns-in-Ok : goal.returns-in-Ok
returns-in-Ok c =
    let other : is_memory_error c.args.error ≡ false = search rules in
    let is : complaint_as c.from-in-Ok.result ≡ blames (string_bytes c.in-Ok.words) = search rules in
    words_told c.args.seeks c.args.error (complaint_as c.from-in-Ok.result) (string_bytes c.in-Ok.words) other c.in-Ok.ensures (inl is)

pub returns-in-Err : goal.returns-in-Err
returns-in-Err c =
    let other : is_memory_error c.args.error ≡ false = search rules in
    let is : complaint_as c.from-in-Err.result ≡ lacks_memory = search rules in
    words_told c.args.seeks c.args.error (complaint_as c.from-in-Err.result) (match_hint c.args.seeks) other ([], refl) (inr is)
