-- a line that is too long stays so
use Rattle.std.proofs.Common.{rules, ◌≡◌, ◌-◌, ◌++◌, ◌∙◌, List, ℕ, min, length, take, ap, subst, sym}
use Rattle.shell_io.specs.LinesRead.{HasNoEnd, LinesRead, behind, members_left}
use Rattle.shell_io.proofs.LineReaderLemmas.{kept_left, plain_kept}
use Rattle.shell_io.proofs.line_reader.LineReader.keep.Goals as goal

pub invariant_of-self-2 : goal.invariant_of-self-2
invariant_of-self-2 c =
    let items : c.extend_from_slice.new.self.items ≡ c.self.inside.line.items ++ take c.min.result c.args.bytes.now = search rules in
    (subst HasNoEnd (sym items) (plain_kept c.self.inside.line.items c.args.bytes.now c.min.result c.self.invariant.0 c.requires), c.self.invariant.1)

pub returns-clause-left : goal.returns-clause-left
returns-clause-left c way =
    let before : LinesRead = record { splitting = c.self.inside.splitter; line = c.self.inside.line.items } in
    let size : c.min.result ≡ min (length c.args.bytes.now) (1000001 - length before.line) = search rules in
    let items : c.extend_from_slice.new.self.items ≡ before.line ++ take c.min.result c.args.bytes.now = search rules in
    let after : List ℕ → LinesRead = λ line. record before { line = line } in
    subst (λ (a : LinesRead). members_left a (behind c.args.bytes.now way) ≡ members_left (after c.extend_from_slice.new.self.items) way) c.self.view_is
    (kept_left before c.args.bytes.now way c.min.result c.self.invariant.0 c.requires size ∙ ap (λ line. members_left (after line) way) (sym items))

pub returns-clause-line : goal.returns-clause-line
returns-clause-line c = (invariant_of-self-2 c).0
