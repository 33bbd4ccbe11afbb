-- the records so far
use Rattle.std.proofs.Common.{◌≡◌, ℕ, List, map, take}
use Rattle.plain_sql.proofs.Common.{HasCleanDisk, state, IsInside, KeepsLast, DoesAll, runs_of, texts_of}
use Rattle.plain_sql.proofs.plain_import.insert_all.Given as goal

pub record Kept (is_same is_inside keeps_last does_all : Type 0) : Type 0 where
  pub same : is_same
  pub inside : is_inside
  pub kept : keeps_last
  pub done : does_all

abbrev pub invariant-loop-fields : goal.invariant-loop-fields
invariant-loop-fields g l =
    Kept (l.tx.conn.ghost_name ≡ l.fn.tx.conn.ghost_name) (IsInside g.P.Store l.tx.conn.now) (KeepsLast g.P.Store l.fn.tx.conn.now l.tx.conn.now)
    ((text : List ℕ) → (HasCleanDisk (state g.P.Store l.fn.tx.conn.now) → l.statement.text ≡ text) → DoesAll g.P.Store (runs_of text l.columns (map texts_of (take l.fields-index l.records))) l.fn.tx.conn.now l.tx.conn.now)
