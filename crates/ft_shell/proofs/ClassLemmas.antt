-- Names of tables, as the code and as contracts see them.
use Rattle.std.proofs.Common.{◌≡◌, ℕ, List, map, Option, None, Result, Err, true, false, refl, sym, ap, subst, ◌∙◌, inl, inr, [], ◌∷◌, string_bytes, MatchBool, codes}
use Rattle.shell_text.specs.Print.{Settings}
use Rattle.shell_text.specs.Words.{is_unclosed}
use Rattle.shell_text.specs.declared.words.LexFault.{LexFault}
use Rattle.ft_commands.specs.declared.fault.StatementFault.{StatementFault}
use Rattle.shell_io.specs.Outcomes.{Answer, blames}
use Rattle.shell_io.specs.FaultWords.{lex_words}
use Rattle.ft_values.specs.declared.table.TableInfo.{TableInfo as RustTableInfo}
use Rattle.ft_shell.proofs.Common.{Ghosts, Held, sql_tokens, statement_text, OrNothing, ClassTurn, Declines, StatementTurn, TableInfo, shown_info, info_names, FullText, Token, Class, class_of, known_names}
use Rattle.shell_text.specs.declared.words.LexFault.TheVariants as lex
use Rattle.ft_commands.specs.declared.fault.StatementFault.TheVariants as faults

names_known : (tables : List RustTableInfo) → info_names tables ≡ map (λ (t : TableInfo). t.name) (map shown_info tables)
names_known [] = refl
names_known (t ∷ ts) = ap (λ rest. string_bytes t.name ∷ rest) (names_known ts)

pub named_as : {S : Type 0} (tables : List RustTableInfo) (known : FullText S) → map shown_info tables ≡ known.tables → info_names tables ≡ known_names known
named_as tables known is = names_known tables ∙ ap (map (λ (t : TableInfo). t.name)) is

pub class_as_told : {S : Type 0} (tables : List RustTableInfo) (known : FullText S) (words : List Token) (class : Option Class) → map shown_info tables ≡ known.tables → class_of (info_names tables) words ≡ class → class_of (known_names known) words ≡ class
class_as_told tables known words class is told = subst (λ names. class_of names words ≡ class) (named_as tables known is) told

module _ {P S : Type 0} (g : Ghosts P) (h : Ghosts S) (settings : Settings) (text : List ℕ) (old new : Held P) (before after : FullText S) (answer : Answer) where
  -- a text that is closed is run by its class
  pub closed_turn : (class : Option Class) → is_unclosed text ≡ false → class_of (known_names before) (sql_tokens text) ≡ class →
      OrNothing (ClassTurn g h settings text old new before after answer class) old new before after answer → StatementTurn g h settings text old new before after answer
  closed_turn class closed is it =
      subst (λ is_open. OrNothing (MatchBool is_open (Declines g h settings text old new before after answer (codes "incomplete input")) (ClassTurn g h settings text old new before after answer (class_of (known_names before) (sql_tokens text)))) old new before after answer) (sym closed)
      (subst (λ (class : Option Class). OrNothing (ClassTurn g h settings text old new before after answer class) old new before after answer) (sym is) it)

module _ {P S : Type 0} (g : Ghosts P) (h : Ghosts S) (settings : Settings) (text : List ℕ) (old : Held P) (before : FullText S) (answer : Answer) where
  -- it has no words
  pub wordless_turn : {T : Type 0} (fault : LexFault) → (◌≡◌ {A = Result T LexFault} (Err fault) (Err lex.Open) → is_unclosed text ≡ true) → answer ≡ blames (lex_words fault) → StatementTurn g h settings text old old before before answer
  wordless_turn lex.Open why is =
      inl (subst (λ is_open. MatchBool is_open (Declines g h settings text old old before before answer (codes "incomplete input")) (ClassTurn g h settings text old old before before answer (class_of (known_names before) (sql_tokens text)))) (sym (why refl)) (refl, refl, is))
  wordless_turn lex.Memory why is = inr (refl, refl, is)

  -- it has no class
  pub classless_turn : {T : Type 0} (fault : StatementFault) → is_unclosed text ≡ false → (◌≡◌ {A = Result T StatementFault} (Err fault) (Err faults.Syntax) → class_of (known_names before) (sql_tokens text) ≡ None) →
      answer ≡ blames (statement_text fault) → StatementTurn g h settings text old old before before answer
  classless_turn faults.Syntax closed why is = closed_turn g h settings text old old before before answer None closed (why refl) (inl (refl, refl, is))
  classless_turn faults.Memory closed why is = inr (refl, refl, is)
