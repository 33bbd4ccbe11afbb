-- Meaning. What a session stands on between two turns.
use Rattle.std.specs.Prelude.{refl}
use Rattle.std.specs.Coded.{Coded, code_by, coded×}
use Rattle.sqlite.specs.Held.{Held, held_code}
use Rattle.shell_text.specs.Print.{Settings}
use Rattle.shell_text.specs.contracts.settings.Settings as settings
use Rattle.ft_calls.specs.Kept.{FullText, full_text_code}
use Rattle.shell_io.specs.Sources.{Files}

-- The settings, the connection to the plain database over a store P, the full-text tables over a store S, and what is known of the files
-- that can be imported.
pub record Shell (P S : Type 0) : Type 0 where
  pub settings : Settings
  pub plain : Held P
  pub full_text : FullText S
  pub holds : Files

-- such a shell, of its four parts
abbrev pub shell_of : {P S : Type 0} → Settings → Held P → FullText S → Files → Shell P S
shell_of settings plain full_text holds = record { settings = settings; plain = plain; full_text = full_text; holds = holds }

-- the same without the files, which a session borrows for a run
pub record Parts (P S : Type 0) : Type 0 where
  pub settings : Settings
  pub plain : Held P
  pub full_text : FullText S

abbrev pub parts_code : {P S : Type 0} → Coded P → Coded S → Coded (Parts P S)
parts_code {P} {S} p s = code_by (Settings × (Held P × FullText S)) (coded× settings.the_row.coded (coded× (held_code p) (full_text_code s)))
    (λ a. (a.settings, (a.plain, a.full_text))) (λ t. record { settings = t.0; plain = t.1.0; full_text = t.1.1 }) (λ _. refl)

-- a session with the files that it borrows
abbrev pub shell_with : {P S : Type 0} → Parts P S → Files → Shell P S
shell_with parts holds = record { settings = parts.settings; plain = parts.plain; full_text = parts.full_text; holds = holds }
