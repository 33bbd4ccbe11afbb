use Rattle.std.proofs.Common.{rules, ◌<ℤ◌, ◌≡◌, FitsSigned, w64, to_z-of_z, ap, true≢false, sym, ◌∙◌, IfSome}
use Rattle.ft_opening.proofs.Common.{Int, id_in, rowid}
use Rattle.ft_opening.proofs.ExamineLemmas.{joined_on, rises_on, last_there}
use Rattle.ft_opening.proofs.examine.RisingGathered.add.Goals as goal

pub returns-then-whole-clause-added : goal.returns-then-whole-clause-added
returns-then-whole-clause-added c = λ rows h.
    let fits : FitsSigned w64 c.in_ok-id.id = search rules in
    let is : rowid c.args.row.now ≡ Int c.in_ok-id.id = search rules in
    let so_far = h.0 c.if-whole.true in (
      λ rise.
          let higher : IfSome c.args.self.now.last (λ before. before <ℤ c.in_ok-id.id) = search rules in
          rw (to_z-of_z fits) (joined_on c.args.self.now.last c.in_ok-id.id c.args.row.now rows is higher so_far.0 so_far.1),
      λ up. let higher = (rises_on c.args.self.now.last c.in_ok-id.id c.args.row.now rows is h.2 up).1 in search rules,
      rw (to_z-of_z fits) (c.args.row.now, last_there rows c.args.row.now, ap id_in is),
    )

pub returns-else-whole-clause-added : goal.returns-else-whole-clause-added
returns-else-whole-clause-added c = λ rows h.
    let fits : FitsSigned w64 c.in_ok-id.id = search rules in
    let is : rowid c.args.row.now ≡ Int c.in_ok-id.id = search rules in (
      λ whole. absurd (true≢false (sym whole ∙ c.if-whole.false)),
      λ up. h.1 (rises_on c.args.self.now.last c.in_ok-id.id c.args.row.now rows is h.2 up).0,
      rw (to_z-of_z fits) (c.args.row.now, last_there rows c.args.row.now, ap id_in is),
    )
