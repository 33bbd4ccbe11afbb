-- Meaning. What `.tables` does in a session ("Querying the database schema" of "Command Line Shell For SQLite"; that plain tables are
-- listed by their noted names, and only those that can be read, is an own choice).
use Rattle.std.specs.Prelude.{ℕ, ◌≡◌, ◌⊎◌, List, map, true, false, Err}
use Rattle.sqlite.specs.Store.{Ghosts}
use Rattle.sqlite.specs.Held.{Held}
use Rattle.ft_store.specs.Blame.{AreNotedTexts}
use Rattle.ft_store.specs.Kept.{shows}
use Rattle.ft_values.specs.declared.fault.Fault.{Fault}
use Rattle.ft_values.specs.declared.fault.Fault.TheVariants as faults
use Rattle.ft_calls.specs.Kept.{FullText, IsUp, OnlyLooks, BlamesStore, store_value}
use Rattle.ft_calls.specs.Kept.{Leaves}
use Rattle.shell_text.specs.Print as print
use Rattle.ft_statements.specs.Replies.{AreSorted, listed}
use Rattle.plain_sql.specs.Listings.{Finds, StopsTrying}
use Rattle.shell_io.specs.Texts.{fault_text}
use Rattle.shell_io.specs.Outcomes.{Answer, blames, says, lacks_memory, Tells}
use Rattle.ft_shell.specs.StatementTurns.{known_names}

module _ {P : Type 0} (g : Ghosts P) where
  -- The names of full-text tables and, of the noted names, those of tables that can be read, sorted and printed; or memory was wanting.
  pub data ListsNames (own noted : List (List ℕ)) (old new : Held P) (answer : Answer) : Type 0 where
    tables : (found names : List (List ℕ)) → Finds g noted old new found → AreSorted (listed own found) names
        → Tells (says (print.names_in_columns names)) answer → ListsNames own noted old new answer
    unsorted : (found : List (List ℕ)) → Finds g noted old new found → answer ≡ lacks_memory → ListsNames own noted old new answer
    untried : StopsTrying g noted old new → answer ≡ lacks_memory → ListsNames own noted old new answer

module _ {P S : Type 0} (g : Ghosts P) (h : Ghosts S) where
  -- The noted names are read, and listed with those of the full-text tables; or the read is refused, for want of memory or by the full-text store,
  -- which refuses to read names that are texts only for what lies outside it.
  pub data TablesTurn (old new : Held P) (before after : FullText S) (told : Answer) : Type 0 where
    lists : (noted : List (List ℕ)) → OnlyLooks h before after → Leaves h before after true (λ _. ⊥)
        → (IsUp h after → noted ≡ map (λ n. n.1) (store_value h before).noted) → ListsNames g (known_names before) noted old new told
        → TablesTurn old new before after told
    refused : (fault : Fault) → (fault ≡ faults.Store) ⊎ (fault ≡ faults.Memory) → OnlyLooks h before after → Leaves h before after false (λ _. ⊥)
        → new ≡ old → told ≡ blames (fault_text fault)
        → (AreNotedTexts (store_value h before) → BlamesStore {X = List (List ℕ)} (shows h before.store) (shows h after.store) (Err fault))
        → TablesTurn old new before after told
