-- one mark more
use Rattle.std.proofs.Common.{◌++◌, sym, ap, ◌∙◌, append_assoc, arith, codes, string_bytes}
use Rattle.plain_sql.proofs.ImportLemmas.{marks, marks_more}
use Rattle.plain_sql.proofs.imports.push_marks.Goals as goal

pub loop-place-preserved : goal.loop-place-preserved
loop-place-preserved c =
    c.in_ok-push_str-2.ensures.bytes ∙ ap (λ text. text ++ codes ", ?") c.loop-place.invariant
    ∙ append_assoc (string_bytes c.args.text.now) (marks c.loop-place.place) (codes ", ?")
    ∙ ap (λ more. string_bytes c.args.text.now ++ more) (sym (marks_more c.loop-place.place (omega arith)))
