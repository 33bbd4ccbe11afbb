use Rattle.std.proofs.Common.{arith}
use Rattle.ft_opening.proofs.ExamineLemmas.{scans_meta, scans_tab, scans_col, scans_cell, scans_posting, scans_sizes, scans_noted, scans_last}
use Rattle.ft_opening.proofs.examine.rowids_query.Goals as goal

pub returns-in-0 : goal.returns-in-0
returns-in-0 c = rw c.in-0.is (λ layout below. scans_meta layout)

pub returns-in-1 : goal.returns-in-1
returns-in-1 c = rw c.in-1.is (λ layout below. scans_tab layout)

pub returns-in-2 : goal.returns-in-2
returns-in-2 c = rw c.in-2.is (λ layout below. scans_col layout)

pub returns-in-3 : goal.returns-in-3
returns-in-3 c = rw c.in-3.is (λ layout below. scans_cell layout)

pub returns-in-4 : goal.returns-in-4
returns-in-4 c = rw c.in-4.is (λ layout below. scans_posting layout)

pub returns-in-5 : goal.returns-in-5
returns-in-5 c = rw c.in-5.is (λ layout below. scans_sizes layout)

pub returns-in-6 : goal.returns-in-6
returns-in-6 c = rw c.in-6.is (λ layout below. scans_noted layout)

pub returns-in_default : goal.returns-in_default
returns-in_default c = λ layout below. scans_last layout c.args.at (omega (arith, c.in_default)) below
