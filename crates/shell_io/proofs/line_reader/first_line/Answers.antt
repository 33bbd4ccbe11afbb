-- what stands before the first line feed, and after it
use Rattle.std.proofs.Common.{rules, ◌≡◌, ◌∷◌, ◌++◌, ◌+◌, ◌-◌, ◌∙◌, ap, sym, suc, take, drop, length, arith}
use Rattle.std.proofs.lemmas.List.{length-drop, take_all}
use Rattle.shell_io.specs.LinesRead.{HasNoEnd}
use Rattle.shell_io.proofs.LineReaderLemmas.{line_before, no_line}
use Rattle.shell_io.proofs.line_reader.first_line.Goals as goal

pub returns-in_err-end-clause-none : goal.returns-in_err-end-clause-none
returns-in_err-end-clause-none c =
    let none : HasNoEnd c.args.bytes.now = no_line c.args.bytes.now (λ k within. c.in_err-end.ensures k (omega arith) within) in
    search (rules, none)

pub returns-clause-some : goal.returns-clause-some
returns-clause-some c =
    let found = c.in_ok-end.ensures in
    let bytes = c.args.bytes.now in
    let end = c.in_ok-end.end in
    let parts = line_before bytes end found.0.high (λ k low. found.0.before k (omega arith) low) found.1 in
    let behind = drop (end + 1) bytes in
    (parts.0, parts.1 ∙ ap (λ n. take end bytes ++ 10 ∷ drop n bytes) (let next : suc end ≡ end + 1 = omega arith in next) ∙ ap (λ xs. take end bytes ++ 10 ∷ xs) (sym (take_all (length bytes - (end + 1)) behind (omega (arith, length-drop (end + 1) bytes)))))
