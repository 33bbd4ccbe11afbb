-- by whether it is taken, and whether one was found
use Rattle.std.proofs.Common.{rules, ◌≡◌, true, false, sym, ◌∙◌, subst}
use Rattle.plain_sql.proofs.Common.{IsOnlyBelow}
use Rattle.plain_sql.proofs.CountLemmas.{skipped_number, first_number, second_number}
use Rattle.plain_sql.proofs.plain_import.with_count.Goals as goal

pub returns-then-not-takes : goal.returns-then-not-takes
returns-then-not-takes c schema name is so_far =
    let none : c.args.takes ≡ false = search rules in
    skipped_number schema name c.args.count c.args.found (sym is ∙ none) so_far

pub returns-in-Some : goal.returns-in-Some
returns-in-Some c schema name is so_far high =
    let some : c.args.takes ≡ true = search rules in
    second_number schema name c.args.count c.in-Some.field-0 c.requires (sym is ∙ some) (subst (IsOnlyBelow schema name c.args.count) c.in-Some.is so_far) high

pub returns-in-None : goal.returns-in-None
returns-in-None c schema name is so_far =
    let some : c.args.takes ≡ true = search rules in
    first_number schema name c.args.count c.requires (sym is ∙ some) (subst (IsOnlyBelow schema name c.args.count) c.in-None.is so_far)
