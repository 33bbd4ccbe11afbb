-- What is known of the files stays, whatever a run does.
use Rattle.std.proofs.Common.{◌≡◌, ◌^◌, Bool, true, false, List, [], ◌∷◌, ◌++◌, take, Option, Result, Ok, Err, ap, ◌∙◌, inl, inr, ℕ, MatchBool}
use Rattle.shell_text.specs.Units.{Member, Sql, Dot, Fault, members_of}
use Rattle.shell_text.specs.Dot.{dot_words_of}
use Rattle.shell_io.specs.declared.run.Status.{Status}
use Rattle.shell_io.specs.declared.run.RunFault.{RunFault}
use Rattle.shell_io.specs.Outcomes.{Answer}
use Rattle.ft_shell.proofs.Common.{Ghosts, after_stop, DotCommand, Nothing, SetMode, SetHeaders, SetSeparator, SetNull, SetEcho, SetBail, Print, Importing, Tables, Quit, Usage, Unknown, dot_command_of, Shell, Effects, and_then, DotTurn, Body, Turns, Broken, not_begun, not_echoed, not_told, Console, IsWhole, IsFront, Ran, RanAndKept}

module _ {P S : Type 0} (g : Ghosts P) (h : Ghosts S) where
  shell_holds : (old new : Shell P S) → new ≡ old → new.holds ≡ old.holds
  shell_holds old new same = ap (λ (s : Shell P S). s.holds) same

  dot_holds : (old new : Shell P S) (told : Answer) (command : DotCommand) → DotTurn g h old new told command → new.holds ≡ old.holds
  dot_holds old new told Nothing it = it.2
  dot_holds old new told (SetMode mode) it = it.2
  dot_holds old new told (SetHeaders shown) it = it.2
  dot_holds old new told (SetSeparator text) it = it.2
  dot_holds old new told (SetNull text) it = it.2
  dot_holds old new told (SetEcho on) it = it.2
  dot_holds old new told (SetBail on) it = it.2
  dot_holds old new told (Print words) it = shell_holds old new it.0
  dot_holds old new told (Importing what) it = it.0.1
  dot_holds old new told Tables it = it.0.1
  dot_holds old new told Quit it = shell_holds old new it.0
  dot_holds old new told (Usage text) it = shell_holds old new it.0
  dot_holds old new told Unknown it = shell_holds old new it.0

  body_holds : (member : Member) (old new : Shell P S) (told : Answer) → Body g h member old new told → new.holds ≡ old.holds
  body_holds (Fault line fault) old new told it = shell_holds old new it.0
  body_holds (Sql line text) old new told it = it.1
  body_holds (Dot line text) old new told (inl it) = dot_holds old new told (dot_command_of (dot_words_of (after_stop text))) it
  body_holds (Dot line text) old new told (inr nothing) = shell_holds old new nothing.0

  -- turns one after the other
  pub turns_hold : (members : List Member) (old new : Shell P S) (all : Effects) → Turns g h members old new all → new.holds ≡ old.holds
  turns_hold [] old new all it = shell_holds old new it.0
  turns_hold (member ∷ members) old new all (mid, first, turn, more) = go (λ rest turns. turns_hold members mid new rest turns) first.ends more ∙ body_holds member old mid turn.body turn.done
    where
      go : ((rest : Effects) → Turns g h members mid new rest → new.holds ≡ mid.holds) → (ends : Bool) → MatchBool ends ((new ≡ mid) × (all ≡ first)) ((rest : Effects) × Turns g h members mid new rest × (all ≡ and_then first rest)) → new.holds ≡ mid.holds
      go later true it = shell_holds mid new it.0
      go later false it = later it.0 it.1

  -- turns, up to where they are cut short
  broken_holds : (fault : RunFault) (whole all : Effects) (old new : Shell P S) (out out' err err' : Option (List ℕ)) (next : List Member) → Broken g h fault whole old new out out' err err' next all → new.holds ≡ old.holds
  broken_holds fault whole all old new out out' err err' next (not_begun same no_out no_err) = shell_holds old new same
  broken_holds fault whole all old new out out' err err' next (not_echoed member goes cause same part no_err) = shell_holds old new same
  broken_holds fault whole all old new out out' err err' next (not_told member own front rest goes cause turn is written lines) = body_holds member old new turn.body turn.done

  whole_holds : (left : Option (List ℕ)) (read : List ℕ) (old new : Shell P S) (all : Effects) → IsWhole g h left read old new all → new.holds ≡ old.holds
  whole_holds left read old new all (inl it) = turns_hold (members_of read) old new all it.2
  whole_holds left read old new all (inr it) = turns_hold (members_of (take (2 ^ 30) read ++ [])) old new all (it.1 [])

  front_holds : (left : Option (List ℕ)) (read : List ℕ) (old new : Shell P S) (all : Effects) (next : List Member) → IsFront g h left read old new all next → new.holds ≡ old.holds
  front_holds left read old new all next (inl (at_end, begins)) = turns_hold (take begins.0 (members_of read)) old new all begins.1
  front_holds left read old new all next (inr begins) = let front = begins [] in turns_hold (take front.0 (members_of (read ++ []))) old new all front.1

  ran_holds : (ended : Result Status RunFault) (old new : Console P S) (all : Effects) → Ran g h ended old new all → new.shell.holds ≡ old.shell.holds
  ran_holds (Ok status) old new all (it, is) = whole_holds new.input it.read old.shell new.shell it.effects it.turns
  ran_holds (Err fault) old new all (it, is) =
      broken_holds fault it.whole it.effects it.mid new.shell it.mid_out new.out it.mid_err new.err it.next it.broken ∙ front_holds new.input it.read old.shell it.mid it.whole it.next it.turns

  -- a run
  pub run_holds : (ended : Result Status RunFault) (old new : Console P S) → RanAndKept g h ended old new → new.shell.holds ≡ old.shell.holds
  run_holds ended old new it = ran_holds ended old new it.0 it.1
