-- the warnings, and then the fault line
use Rattle.std.proofs.Common.{sym, subst}
use Rattle.std.specs.Io.KnownBytes.{Appends}
use Rattle.shell_io.specs.Texts.{fault_line, text_as}
use Rattle.shell_io.specs.OutputViews.{lines_as}
use Rattle.shell_io.specs.Writing.{AppendsUpTo}
use Rattle.shell_io.proofs.WriteLemmas.{appends_same, sends_err, sends_then, up_to_more}
use Rattle.shell_io.proofs.written.write_complaint.Goals as goal
use Rattle.shell_io.proofs.written.write_complaint.Goals.{in-Some+in_ok-write_bytes-in-Some, in-None}

pub returns-in_err-write_bytes-in-Some : goal.returns-in_err-write_bytes-in-Some
returns-in_err-write_bytes-in-Some g c =
    let a = g.W.Write.contents c.args.to.now in
    let b = g.W.Write.contents c.write_bytes.new.to in
    let front : AppendsUpTo a b (lines_as c.args.complaint.now.warnings) = subst (λ lines. AppendsUpTo a b (lines_as lines)) (sym c.in-Some.is) (subst (AppendsUpTo a b) c.as_bytes.ensures.value c.in_err-write_bytes-in-Some.ensures) in
    sends_err _ c.from_residual.result a b _ c.from_residual.ensures.1 (up_to_more a b _ (fault_line c.args.line (text_as c.args.complaint.now.text)) front)

pub returns : goal.returns
returns g c =
    let a = g.W.Write.contents c.args.to.now in
    let d = g.W.Write.contents c.write_fault.new.to in
    let first : Appends a (g.W.Write.contents c.match-complaint.to) (lines_as c.args.complaint.now.warnings) =
    (elim c.match-complaint.branch as (λ _. Appends a (g.W.Write.contents c.match-complaint.to) (lines_as c.args.complaint.now.warnings)) [
      | in-Some+in_ok-write_bytes-in-Some w ↦
          subst (λ to. Appends a (g.W.Write.contents to) (lines_as c.args.complaint.now.warnings)) (sym w.to-is)
          (subst (λ lines. Appends a (g.W.Write.contents w.write_bytes.new.to) (lines_as lines)) (sym w.in-Some.is) (subst (Appends a (g.W.Write.contents w.write_bytes.new.to)) w.as_bytes.ensures.value w.in_ok-write_bytes-in-Some.ensures))
      | in-None w ↦
          subst (λ to. Appends a (g.W.Write.contents to) (lines_as c.args.complaint.now.warnings)) (sym w.to-is)
          (subst (λ lines. Appends a a (lines_as lines)) (sym w.in-None.is) (appends_same a))
    ]) in
    sends_then c.write_fault.result a (g.W.Write.contents c.match-complaint.to) d _ _ first c.write_fault.ensures
