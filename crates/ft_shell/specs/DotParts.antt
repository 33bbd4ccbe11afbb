-- Meaning. The parts of dot-commands that need no table ("Special commands to sqlite3 (dot-commands)" of "Command Line Shell For SQLite").
use Rattle.std.specs.Prelude.{ℕ, ◌≡◌, ◌==◌, if◌then◌else◌, MatchBool, List, [], ◌∷◌, codes}
use Rattle.shell_text.specs.Print.{Settings}
use Rattle.ft_statements.specs.Dots.{DotCommand}
use Rattle.ft_statements.specs.Settings.{settings_after, may_set}
use Rattle.shell_io.specs.Outcomes.{Answer, silent, blames}

-- what stands after the full stop at its front
abbrev pub after_stop : List ℕ → List ℕ
after_stop [] = []
after_stop (b ∷ text) = if b == 0x2E then text else b ∷ text

-- a setting is changed, but for a separator that may not be set
abbrev pub Sets : DotCommand → Settings → Settings → Answer → Type 0
Sets command old new answer = MatchBool (may_set command old) ((new ≡ settings_after command old) × (answer ≡ silent)) ((new ≡ old)
    × (answer ≡ blames (codes "bad separator")))
