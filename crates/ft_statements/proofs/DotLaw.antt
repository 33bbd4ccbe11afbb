-- A dot line is read as its grammar says.
use Rattle.std.proofs.Common.{◌≡◌, inl, inr, ℕ, Bool, true, false, cond, List, [], ◌∷◌, Option, Some, None, option_map, unwrap_or, Result, Ok, Err, IfOk, refl, sym, ap, ◌∙◌, codes}
use Prim.Native.String.{String}
use Rattle.std.proofs.lemmas.Slice.Eq.{bytes_eq-Decides}
use Rattle.ft_statements.proofs.Common.{Form, means, one, ends, ◌&◌, ◌·◌, Has, FrontRead, ◌>>=◌, onto_read, found, read, DotCommand, Row, dot_row, rows, Usage, SaysRow, SaysIn, Says, said_in, is_exact, any_word, all_words, file_named, options, Import, command_as, IsSaid}
use Rattle.ft_statements.specs.declared.dots.DotCommand.{DotCommand as Code}
use Rattle.ft_statements.specs.Dots.{dot_command_of, files, import}
use Rattle.ft_statements.proofs.FormLaw.{none_or, found_sound, found_complete}

-- ---- the law

whole_sound : (form : Form (List ℕ) DotCommand) (words : List (List ℕ)) (c : DotCommand) → found (read (form · ends) words) ≡ Some c → Has (form · ends) words c []
whole_sound form = found_sound (form · ends) λ ts x rest has. has.3.1

whole_complete : (form : Form (List ℕ) DotCommand) (words : List (List ℕ)) (c : DotCommand) → Has (form · ends) words c [] → found (read (form · ends) words) ≡ Some c
whole_complete form words c = found_complete (form · ends) words c []

-- what a row makes of words
abbrev row_says : String → Form (List ℕ) DotCommand → List (List ℕ) → DotCommand
row_says usage form words = unwrap_or (found (read (form · ends) words)) (Usage (codes usage))

row_sound : (usage : String) (form : Form (List ℕ) DotCommand) (words : List (List ℕ)) (c : DotCommand) → row_says usage form words ≡ c → SaysRow usage form words c
row_sound usage form words c e = by_read (found (read (form · ends) words)) refl e where
  by_read : (o : Option DotCommand) → found (read (form · ends) words) ≡ o → unwrap_or o (Usage (codes usage)) ≡ c → SaysRow usage form words c
  by_read (Some d) is e1 = inl (whole_sound form words c (is ∙ ap Some e1))
  by_read None is e1 = inr ((λ d has. let some = whole_complete form words d has in cc), sym e1)

row_complete : (usage : String) (form : Form (List ℕ) DotCommand) (words : List (List ℕ)) (c : DotCommand) → SaysRow usage form words c → row_says usage form words ≡ c
row_complete usage form words c (inl has) = ap (λ o. unwrap_or o (Usage (codes usage))) (whole_complete form words c has)
row_complete usage form words c (inr (never, is)) =
    ap (λ o. unwrap_or o (Usage (codes usage))) (none_or (found (read (form · ends) words)) λ d some. never d (whole_sound form words d some)) ∙ sym is

in_sound : (rs : List {1} Row) (name : List ℕ) (words : List (List ℕ)) (c : DotCommand) → said_in rs name words ≡ c → SaysIn rs name words c
in_sound [] name words c e = sym e
in_sound (dot_row own usage form ∷ rs) name words c e = by_test (in_sound rs name words c) (is_exact own name) refl e where
  by_test : (said_in rs name words ≡ c → SaysIn rs name words c) → (b : Bool) → is_exact own name ≡ b → cond b (row_says usage form words) (said_in rs name words) ≡ c → SaysIn (dot_row own usage form ∷ rs) name words c
  by_test later true is e1 = inl ((bytes_eq-Decides name (codes own)).0 is, row_sound usage form words c e1)
  by_test later false other e1 = inr ((λ same. let is = (bytes_eq-Decides name (codes own)).1 same in cc), later e1)

in_complete : (rs : List {1} Row) (name : List ℕ) (words : List (List ℕ)) (c : DotCommand) → SaysIn rs name words c → said_in rs name words ≡ c
in_complete [] name words c is = sym is
in_complete (dot_row own usage form ∷ rs) name words c (inl (same, says)) =
    ap (λ b. cond b (row_says usage form words) (said_in rs name words)) ((bytes_eq-Decides name (codes own)).1 same) ∙ row_complete usage form words c says
in_complete (dot_row own usage form ∷ rs) name words c (inr (other, says)) = by_test (is_exact own name) refl (in_complete rs name words c says) where
  by_test : (b : Bool) → is_exact own name ≡ b → said_in rs name words ≡ c → cond b (row_says usage form words) (said_in rs name words) ≡ c
  by_test true is later = absurd (other ((bytes_eq-Decides name (codes own)).0 is))
  by_test false is later = later

pub line_sound : (words : List (List ℕ)) (c : DotCommand) → dot_command_of words ≡ c → Says words c
unfolding dot_command_of
line_sound [] c e = sym e
line_sound (name ∷ words) c e = in_sound rows name words c e

pub line_complete : (words : List (List ℕ)) (c : DotCommand) → Says words c → dot_command_of words ≡ c
unfolding dot_command_of
line_complete [] c is = sym is
line_complete (name ∷ words) c says = in_complete rows name words c says

-- what the read command says
pub said : {E : Type 0} (words : List (List ℕ)) (result : Result Code E) → IfOk result (λ command. command_as command ≡ dot_command_of words) → IfOk result (IsSaid words)
said words (Ok command) is = record { command = is; says = line_sound words (command_as command) (sym is) }
said words (Err fault) is = tt

-- ---- what the code reads

abbrev at_end : {A : Type 0} → A × List (List ℕ) → FrontRead (List ℕ) A
at_end r = read ends r.1 >>= λ s. Some (r.0, s.1)

-- what was read, where nothing is left
abbrev ended : {A : Type 0} → FrontRead (List ℕ) A → Option A
ended o = found (o >>= at_end)

abbrev given : {A B : Type 0} → (A → B) → A × List (List ℕ) → FrontRead (List ℕ) B
given f s = Some (f s.0, s.1)

abbrev before : {A : Type 0} → List (List ℕ) → A → FrontRead (List ℕ) A
before rest x = Some (x, rest)

-- a command of what a form means
pub mapped : {A B : Type 0} (f : A → B) (form : Form (List ℕ) A) (words : List (List ℕ)) → found (read (means f & form · ends) words) ≡ option_map f (found (read (form · ends) words))
mapped {A} f form words = by_read (read form words) where
  by_read : (o : FrontRead (List ℕ) A) → ended (o >>= given f) ≡ option_map f (ended o)
  by_read None = refl
  by_read (Some (x, [])) = refl
  by_read (Some (x, w ∷ ws)) = refl

-- one word alone
pub alone : {A : Type 0} (f : List ℕ → Option A) (words : List (List ℕ)) → found (read (one f · ends) words) ≡ (found (read (one Some · ends) words) >>= f)
alone f [] = refl
alone {A} f (w ∷ []) = by_word (f w) where
  by_word : (o : Option A) → ended (o >>= before []) ≡ o
  by_word None = refl
  by_word (Some x) = refl
alone {A} f (w ∷ v ∷ ws) = by_word (f w) where
  by_word : (o : Option A) → ended (o >>= before (v ∷ ws)) ≡ None
  by_word None = refl
  by_word (Some x) = refl

any_there : (words : List (List ℕ)) → read all_words words ≡ Some (words, [])
any_there [] = refl
any_there (w ∷ ws) = ap (onto_read w) (any_there ws)

pub printed : (f : List (List ℕ) → DotCommand) (words : List (List ℕ)) → found (read (means f & all_words · ends) words) ≡ Some (f words)
printed f words = ap (λ o. ended (o >>= given f)) (any_there words)

-- ---- .import

-- FILE and TABLE, where there are just two words
abbrev pub second : List (List ℕ) → Option (List ℕ) → Option (List ℕ × List ℕ)
second (table ∷ []) name = name >>= λ file. Some (file, table)
second _ name = None

abbrev pub files_in : List (List ℕ) → Option (List ℕ × List ℕ)
files_in [] = None
files_in (file ∷ rest) = second rest (file_named file)

abbrev paired : List ℕ → List ℕ → List ℕ × List ℕ
paired file table = (file, table)

abbrev next : {A : Type 0} → (List ℕ → A) × List (List ℕ) → FrontRead (List ℕ) A
next r = read any_word r.1 >>= λ s. Some (r.0 s.0, s.1)

pub files_are : (words : List (List ℕ)) → found (read (files · ends) words) ≡ files_in words
unfolding files
files_are [] = refl
files_are (file ∷ rest) = by_name rest (file_named file) where
  by_name : (ws : List (List ℕ)) (o : Option (List ℕ)) → ended (((o >>= before ws) >>= given paired) >>= next) ≡ second ws o
  by_name [] None = refl
  by_name [] (Some x) = refl
  by_name (t ∷ []) None = refl
  by_name (t ∷ []) (Some x) = refl
  by_name (t ∷ u ∷ us) None = refl
  by_name (t ∷ u ∷ us) (Some x) = refl

abbrev import_of : Bool × Option ℕ → List ℕ × List ℕ → Import
import_of options files = record { csv = options.0; skip = options.1; file = files.0; table = files.1 }

abbrev named : Bool × Option ℕ → List ℕ × List ℕ → Option Import
named options names = Some (import_of options names)

abbrev with_files : (List ℕ × List ℕ → Import) × List (List ℕ) → FrontRead (List ℕ) Import
with_files r = read files r.1 >>= λ s. Some (r.0 s.0, s.1)

pub import_read : (words : List (List ℕ)) → found (read (import · ends) words) ≡ (read options words >>= λ o. found (read (files · ends) o.1) >>= named o.0)
unfolding import
import_read words = by_options (read options words) where
  by_files : (o : Bool × Option ℕ) (r : FrontRead (List ℕ) (List ℕ × List ℕ)) → ended (r >>= given (import_of o)) ≡ (ended r >>= named o)
  by_files o None = refl
  by_files o (Some (f, [])) = refl
  by_files o (Some (f, w ∷ ws)) = refl

  by_options : (o : FrontRead (List ℕ) (Bool × Option ℕ)) → ended ((o >>= given import_of) >>= with_files) ≡ (o >>= λ o. found (read (files · ends) o.1) >>= named o.0)
  by_options None = refl
  by_options (Some (o, rest)) = by_files o (read files rest)
