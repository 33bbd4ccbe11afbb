-- Which statements are full-text, what they spell, and their classes, are what is computed of them.
use Rattle.std.proofs.Common.{◌≡◌, ℕ, Bool, true, false, cond, ◌&&◌, ◌||◌, List, [], ◌∷◌, ◌++◌, Option, Some, None, is_some, option_map, refl, sym, ap, ◌∙◌, subst, codes}
use Rattle.std.specs.Option.{option_map_or}
use Rattle.std.proofs.lemmas.List.Folds.{Any-from_list_any, list_any-from_Any}
use Rattle.ft_values.specs.Names.{same_name}
use Rattle.ft_commands.specs.Command.{Command}
use Rattle.ft_statements.proofs.Common.{Any, list_any, Form, Has, Token, spells, is_one_of, name_of, FrontRead, read, words, IsStatement, Class, Plain, FullText, is_table, names_table, is_full_text, lead_words, IsTable, table_name, IsFullText, makes_virtual, names_one, HasClass, plain_class, full_text_class}
use Rattle.ft_statements.specs.Grammar.{done, statement}
use Rattle.ft_statements.specs.Statements.{spelled_command, class_of}
use Rattle.ft_statements.proofs.FormLaw.{law, finally, some_inj, none_or, found_sound, found_complete}

-- ---- statements

nothing_left : (ts : List Token) (c : Command) (rest : List Token) → Has statement ts c rest → rest ≡ []
unfolding statement done
nothing_left ts c rest has = has.3.3.1

pub statement_sound : (ts : List Token) (c : Command) → spelled_command ts ≡ Some c → IsStatement ts c
unfolding spelled_command
statement_sound = found_sound statement nothing_left

pub statement_complete : (ts : List Token) (c : Command) → IsStatement ts c → spelled_command ts ≡ Some c
unfolding spelled_command
statement_complete ts c = found_complete statement ts c []

pub one_statement : (ts : List Token) (a b : Command) → IsStatement ts a → IsStatement ts b → a ≡ b
one_statement ts a b d e = some_inj (sym (statement_complete ts a d) ∙ statement_complete ts b e)

-- ---- the name of a table

table_sound : (tables : List (List ℕ)) (t : Token) → is_table tables t ≡ true → IsTable tables t
table_sound tables t e = by_name (name_of t) refl e where
  by_name : (o : Option (List ℕ)) → name_of t ≡ o → option_map_or (λ name. list_any (λ table. same_name table name) tables) o false ≡ true → IsTable tables t
  by_name None none e1 = cc
  by_name (Some name) is e1 = table_name is (Any-from_list_any (λ table. same_name table name) tables e1)

table_complete : {tables : List (List ℕ)} {t : Token} → IsTable tables t → is_table tables t ≡ true
table_complete {tables} (table_name {t} {name} is any) =
    ap (λ o. option_map_or (λ name. list_any (λ table. same_name table name) tables) o false) is ∙ list_any-from_Any (λ table. same_name table name) tables any

-- ---- full-text statements

-- a word that a table's name may follow
abbrev IsLead : Token → Type 0
IsLead t = Any (λ word. spells word t ≡ true) lead_words

-- a table's name directly after such a word, anywhere
data NamesOne (tables : List (List ℕ)) : List Token → Type 0 where
  names_at : (before : List Token) (lead : Token) {table : Token} (behind : List Token) → IsLead lead → IsTable tables table → NamesOne tables (before ++ lead ∷ table ∷ behind)

pub and_both : (a b : Bool) → (a && b) ≡ true → (a ≡ true) × (b ≡ true)
and_both true b e = (refl, e)
and_both false b e = cc

pub or_left : (a b : Bool) → a ≡ true → (a || b) ≡ true
or_left a b is = ap (λ x. x || b) is

pub or_right : (a b : Bool) → b ≡ true → (a || b) ≡ true
or_right true b is = refl
or_right false b is = is

names_on : {tables : List (List ℕ)} (t : Token) {ts : List Token} → NamesOne tables ts → NamesOne tables (t ∷ ts)
names_on t (names_at before lead behind is_lead is) = names_at (t ∷ before) lead behind is_lead is

names_sound : (tables : List (List ℕ)) (ts : List Token) → names_table tables ts ≡ true → NamesOne tables ts
names_sound tables [] e = cc
names_sound tables (t ∷ []) e = cc
names_sound tables (t ∷ next ∷ more) e = by_test (is_one_of lead_words t && is_table tables next) refl e (names_sound tables (next ∷ more)) where
  by_test : (b : Bool) → (is_one_of lead_words t && is_table tables next) ≡ b → (b || names_table tables (next ∷ more)) ≡ true → (names_table tables (next ∷ more) ≡ true → NamesOne tables (next ∷ more)) → NamesOne tables (t ∷ next ∷ more)
  by_test true is e1 on = let (is_lead, is_name) = and_both _ _ is in names_at [] t more (Any-from_list_any (λ word. spells word t) lead_words is_lead) (table_sound tables next is_name)
  by_test false other e1 on = names_on t (on e1)

names_complete : (tables : List (List ℕ)) (before : List Token) (lead : Token) {table : Token} (behind : List Token) → IsLead lead → IsTable tables table → names_table tables (before ++ lead ∷ table ∷ behind) ≡ true
names_complete tables [] lead {table} behind any is =
    or_left (is_one_of lead_words lead && is_table tables table) (names_table tables (table ∷ behind)) (λ j. list_any-from_Any (λ word. spells word lead) lead_words any j && table_complete is j)
names_complete tables (t ∷ []) lead {table} behind is_lead is =
    or_right (is_one_of lead_words t && is_table tables lead) (names_table tables (lead ∷ table ∷ behind)) (names_complete tables [] lead behind is_lead is)
names_complete tables (t ∷ u ∷ us) lead {table} behind is_lead is =
    or_right (is_one_of lead_words t && is_table tables u) (names_table tables (u ∷ us ++ lead ∷ table ∷ behind)) (names_complete tables (u ∷ us) lead behind is_lead is)

abbrev virtual : Form Token (Unit {0})
virtual = words (codes "CREATE" ∷ codes "VIRTUAL" ∷ [])

abbrev makes_table : List Token → Bool
makes_table ts = is_some (read virtual ts)

abbrev there : Bool → Option (Unit {0})
there b = cond b (Some tt) None

stands : (b : Bool) → there b ≡ Some tt → b ≡ true
stands true e = refl
stands false e = cc

virtual_has : (tables : List (List ℕ)) (ts rest : List Token) → Has virtual ts tt rest → IsFullText tables ts
virtual_has tables ts rest (x, mid, (a, are_a, is_a), (y, left, (b, are_b, is_b), behind)) =
    subst (IsFullText tables) (sym (are_a ∙ ap (λ us. a ∷ us) are_b)) (makes_virtual {ts = left} (stands (spells (codes "CREATE") a) is_a) (stands (spells (codes "VIRTUAL") b) is_b))

virtual_sound : (tables : List (List ℕ)) (ts : List Token) → makes_table ts ≡ true → IsFullText tables ts
virtual_sound tables ts e = by_read (read virtual ts) refl e where
  by_read : (o : FrontRead Token (Unit {0})) → read virtual ts ≡ o → is_some o ≡ true → IsFullText tables ts
  by_read None is e1 = cc
  by_read (Some (u, rest)) is e1 = virtual_has tables ts rest ((law virtual).sound ts u rest is)

from_names : {tables : List (List ℕ)} {ts : List Token} → NamesOne tables ts → IsFullText tables ts
from_names (names_at before lead behind is_lead is) = names_one before lead behind is_lead is

full_text_sound : (tables : List (List ℕ)) (ts : List Token) → is_full_text tables ts ≡ true → IsFullText tables ts
full_text_sound tables ts e = by_test (makes_table ts) refl e where
  by_test : (b : Bool) → makes_table ts ≡ b → (b || names_table tables ts) ≡ true → IsFullText tables ts
  by_test true is e1 = virtual_sound tables ts is
  by_test false other e1 = from_names (names_sound tables ts e1)

full_text_complete : {tables : List (List ℕ)} {ts : List Token} → IsFullText tables ts → is_full_text tables ts ≡ true
full_text_complete {tables} (makes_virtual {a} {b} {ts} is_a is_b) = or_left (makes_table (a ∷ b ∷ ts)) (names_table tables (a ∷ b ∷ ts)) (simp (is_a, is_b))
full_text_complete {tables} (names_one before lead {table} behind is_lead is) =
    or_right (makes_table (before ++ lead ∷ table ∷ behind)) _ (names_complete tables before lead behind is_lead is)

-- ---- classes

class_found : (tables : List (List ℕ)) (ts : List Token) (class : Class) → IsFullText tables ts → option_map FullText (spelled_command ts) ≡ Some class → HasClass tables ts class
class_found tables ts class is_full e = by_command (spelled_command ts) refl e where
  by_command : (o : Option Command) → spelled_command ts ≡ o → option_map FullText o ≡ Some class → HasClass tables ts class
  by_command None none e1 = cc
  by_command (Some c) is e1 = finally (HasClass tables ts) (full_text_class is_full (statement_sound ts c is)) e1

pub class_sound : (tables : List (List ℕ)) (ts : List Token) (class : Class) → class_of tables ts ≡ Some class → HasClass tables ts class
unfolding class_of
class_sound tables ts class e = by_test (is_full_text tables ts) refl e where
  by_test : (b : Bool) → is_full_text tables ts ≡ b → cond b (option_map FullText (spelled_command ts)) (Some Plain) ≡ Some class → HasClass tables ts class
  by_test true is e1 = class_found tables ts class (full_text_sound tables ts is) e1
  by_test false other e1 = finally (HasClass tables ts) (plain_class λ is_full. let is = full_text_complete is_full in cc) e1

pub class_complete : (tables : List (List ℕ)) (ts : List Token) (class : Class) → HasClass tables ts class → class_of tables ts ≡ Some class
unfolding class_of
class_complete tables ts class (plain_class not_full) = by_test (is_full_text tables ts) refl where
  by_test : (b : Bool) → is_full_text tables ts ≡ b → cond b (option_map FullText (spelled_command ts)) (Some Plain) ≡ Some Plain
  by_test true is = absurd (not_full (full_text_sound tables ts is))
  by_test false other = refl
class_complete tables ts class (full_text_class {c} is_full d) =
    ap (λ b. cond b (option_map FullText (spelled_command ts)) (Some Plain)) (full_text_complete is_full) ∙ ap (option_map FullText) (statement_complete ts c d)

pub one_class : (tables : List (List ℕ)) (ts : List Token) (a b : Class) → HasClass tables ts a → HasClass tables ts b → a ≡ b
one_class tables ts a b d e = some_inj (sym (class_complete tables ts a d) ∙ class_complete tables ts b e)

pub no_class_is : (tables : List (List ℕ)) (ts : List Token) → class_of tables ts ≡ None → (class : Class) → ¬ HasClass tables ts class
no_class_is tables ts none class d = let some = class_complete tables ts class d in cc

pub no_class_found : (tables : List (List ℕ)) (ts : List Token) → ((class : Class) → ¬ HasClass tables ts class) → class_of tables ts ≡ None
no_class_found tables ts none = none_or (class_of tables ts) λ class is. none class (class_sound tables ts class is)
