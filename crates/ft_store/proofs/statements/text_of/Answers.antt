use Rattle.std.proofs.Common.{◌≡◌, ap, subst, IsUtf8, string_bytes}
use Rattle.ft_store.proofs.Common.{shown_value}
use Rattle.ft_values.specs.Cells as cells
use Rattle.ft_store.proofs.TableLemmas.{text_again}
use Rattle.ft_store.proofs.statements.text_of.Goals as goal

pub returns-in-Text-clause-again : goal.returns-in-Text-clause-again
returns-in-Text-clause-again c =
    let is : IsUtf8 (string_bytes c.in-Text.text) = subst IsUtf8 c.as_str.ensures.value c.as_str.utf8 in
    let shown : shown_value c.args.value.now ≡ cells.Text (string_bytes c.in-Text.text) = ap shown_value c.in-Text.is in
    rw shown (ap cells.Text (text_again _ is))
