-- one record more
use Rattle.std.proofs.Common.{◌+◌, ◌++◌, map, sym, ap, ◌∙◌, string_bytes, Vec, String, Global}
use Rattle.shell_io.specs.Records as forms
use Rattle.shell_io.proofs.RecordLemmas.{warnings_more}
use Rattle.shell_io.proofs.records.warnings.Goals as goal

pub loop-i-preserved : goal.loop-i-preserved
loop-i-preserved c =
    c.in_ok-push_warning.ensures
    ∙ (λ j. c.loop-i.invariant j ++ forms.warning c.args.file.now c.args.columns (c.args.first + c.loop-i.i, map string_bytes ((c.as_slice.ensures.value ∙ ap (λ (v : Vec (String Global) Global). v.items) c.index-records-i.is) j)))
    ∙ sym (warnings_more c.args.file.now c.args.columns c.args.first c.args.records.now c.loop-i.i _ c.loop-i-test.true)
