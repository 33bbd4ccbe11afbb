-- one setting after the other
use Rattle.std.proofs.Common.{◌≡◌, ◌∙◌, ap}
use Rattle.std.specs.Prelude.{codes, true}
use Rattle.clap.specs.Simple.{App, app_of_fields, on_top}
use Rattle.clap.specs.Words.{app_of, new_app}
use Rattle.ft_line.proofs.line.without_arguments.Goals as goal

abbrev unnamed : App → App
unnamed = on_top (λ top. record top { no_binary_name = true })

abbrev versioned : App → App
versioned = on_top (λ top. record top { has_version = true })

pub returns : goal.returns
returns c =
    let about_is : app_of c.about.result ≡ new_app (codes "ft4sh") = ap app_of_fields c.about.ensures ∙ c.new.ensures.app in
    let version_is : app_of c.version.result ≡ versioned (new_app (codes "ft4sh")) = ap app_of_fields c.version.ensures ∙ ap versioned about_is in
    ap app_of_fields c.no_binary_name.ensures ∙ ap unnamed (ap app_of_fields c.after_help.ensures ∙ version_is)
