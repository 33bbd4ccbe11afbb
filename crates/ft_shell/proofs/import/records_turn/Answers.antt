-- into the table that has the name
use Rattle.std.proofs.Common.{◌≡◌, Option, ℕ, Some, None, map, string_bytes, refl, ◌∙◌, subst}
use Rattle.shell_io.specs.OutputViews.{answer_as}
use Rattle.ft_shell.proofs.Common.{enumerate_from, import_as, texts_of, width_in, PlainImport, IntoNamed}
use Rattle.ft_shell.proofs.import.records_turn.Goals as goal

pub returns-in-Some : goal.returns-in-Some
returns-in-Some g c =
    let is : ◌≡◌ {A = Option ℕ} (Some c.in-Some.columns) (width_in (g.T.TextTables.known c.args.full_text.now).tables (string_bytes c.args.what.now.table)) = c.in-Some.ensures ∙ (λ j. width_in (c.tables.ensures j) (c.as_str.ensures.value j)) in
    subst (λ o. IntoNamed g.P.Store g.S.Store (import_as c.args.what.now) c.args.plain.now c.args.plain.now (g.T.TextTables.known c.args.full_text.now) (g.T.TextTables.known c.full_text_import.new.full_text) (answer_as c.full_text_import.result) (enumerate_from c.args.first (map texts_of c.args.records.items)) o) is
    (refl, c.full_text_import.ensures)

pub returns-in-None : goal.returns-in-None
returns-in-None g c =
    let is : ◌≡◌ {A = Option ℕ} None (width_in (g.T.TextTables.known c.args.full_text.now).tables (string_bytes c.args.what.now.table)) = c.in-None.ensures ∙ (λ j. width_in (c.tables.ensures j) (c.as_str.ensures.value j)) in
    subst (λ o. IntoNamed g.P.Store g.S.Store (import_as c.args.what.now) c.args.plain.now c.plain_import.new.plain (g.T.TextTables.known c.args.full_text.now) (g.T.TextTables.known c.plain_import.new.full_text) (answer_as c.plain_import.result) (enumerate_from c.args.first (map texts_of c.args.records.items)) o) is
    (subst (λ records. PlainImport g.P.Store (import_as c.args.what.now) (enumerate_from c.args.first (map texts_of records)) g.S.Store c.args.plain.now c.plain_import.new.plain (g.T.TextTables.known c.args.full_text.now) (g.T.TextTables.known c.plain_import.new.full_text) (answer_as c.plain_import.result)) c.as_slice.ensures.value c.plain_import.ensures)
