-- what is set leaves the rest alone
use Rattle.std.proofs.Common.{◌∙◌, ap}
use Rattle.clap.specs.Matches.{found_of}
use Rattle.clap.specs.Walk.{rows_of}
use Rattle.shell_text.specs.Print.{Settings, first_settings}
use Rattle.ft_line.specs.Line.{modes_in, with_modes}
use Rattle.ft_line.proofs.LineLemmas.{keeps_headers}
use Rattle.ft_line.proofs.line.flag_settings.Goals as goal

pub set_headers-requires : goal.set_headers-requires
set_headers-requires c =
    let modes = modes_in (rows_of (found_of c.args.matches.now)) in
    ap (λ (l : Settings). l.headers) c.in_ok-set_null.ensures.ok
    ∙ ap (λ (l : Settings). l.headers) (c.set_modes.ensures ∙ ap (with_modes modes) c.new-settings.ensures)
    ∙ keeps_headers modes first_settings

pub returns : goal.returns
returns c =
    let modes = modes_in (rows_of (found_of c.args.matches.now)) in
    let told = c.set_modes.ensures ∙ ap (with_modes modes) c.new-settings.ensures in
    let null = c.in_ok-set_null.ensures.ok ∙ (λ i. record (told i) { null = c.null_in.ensures i }) in
    let headers = c.set_headers.ensures ∙ (λ i. record (null i) { headers = c.headers_in.ensures i }) in
    let echo = c.set_echo.ensures ∙ (λ i. record (headers i) { echo = c.is_given.ensures i }) in
    c.set_bail.ensures ∙ (λ i. record (echo i) { bail = c.is_given-2.ensures i })
