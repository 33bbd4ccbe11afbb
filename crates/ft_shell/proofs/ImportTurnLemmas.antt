-- What is refused.
use Rattle.std.proofs.Common.{◌≡◌, ◌≤◌, ℕ, List, ◌∷◌, length, Some, Result, Err, refl}
use Rattle.shell_text.specs.Records.{IsNoText, csv_reader}
use Rattle.shell_text.specs.declared.records.RecordFault.{RecordFault}
use Rattle.shell_io.specs.FaultWords.{record_words}
use Rattle.plain_sql.specs.declared.plain_import.ImportFault.{ImportFault}
use Rattle.plain_sql.specs.declared.plain_import.ImportFault.TheVariants.{Refused, Memory}
use Rattle.plain_sql.specs.IntoTables.{fault_words}
use Rattle.plain_sql.specs.PlainImports.{CommitsNothing, import_steps, Declines}
use Rattle.plain_sql.specs.PlainStatements.{IfClean}
use Rattle.shell_io.specs.Records.{records_in}
use Rattle.shell_io.specs.Outcomes.{Answer, blames}
use Rattle.ft_shell.proofs.Common.{Ghosts, Held, state, FullText, Import, BytesTurn, IntoNew, declined, no_memory}
use Rattle.shell_text.specs.declared.records.RecordFault.TheVariants as records
use Rattle.ft_shell.specs.ImportTurns as imports

module _ {P : Type 0} (g : Ghosts P) (what : Import) (rows : List (ℕ × List (List ℕ))) where
  pub making_refused : {S T : Type 0} (h : Ghosts S) (fault : ImportFault) (first : ℕ × List (List ℕ)) (rest : List (ℕ × List (List ℕ))) (old new : Held P) (known : FullText S) (told : Answer) → rows ≡ first ∷ rest → length first.1 ≤ 100
      → IfClean g old new (CommitsNothing (state g old) (state g new)) → (◌≡◌ {A = Result T ImportFault} (Err fault) (Err Refused) → Declines g (import_steps (Some first.1) what.table (length first.1) (records_in rest)) old new)
      → told ≡ blames (fault_words fault) → IntoNew g what rows h old new known known told
  making_refused h Refused first rest old new known told is narrow keeps why tells = declined first rest is narrow (why refl) refl (keeps, tells)
  making_refused h Memory first rest old new known told is narrow keeps why tells = no_memory refl (keeps, tells)

-- a file has no records
pub records_refused : {P S T : Type 0} (g : Ghosts P) (h : Ghosts S) (what : Import) (old : Held P) (before : FullText S) (answer : Answer) (delimiter : ℕ) (bytes : List ℕ) (fault : RecordFault)
    → (◌≡◌ {A = Result T RecordFault} (Err fault) (Err records.NotUtf8) → IsNoText (csv_reader delimiter) bytes) → answer ≡ blames (record_words fault) → BytesTurn g h what old old before before answer delimiter bytes
records_refused g h what old before answer delimiter bytes records.NotUtf8 why is = imports.no_text (why refl) (refl, refl, is)
records_refused g h what old before answer delimiter bytes records.Memory why is = imports.no_memory (refl, refl, is)
