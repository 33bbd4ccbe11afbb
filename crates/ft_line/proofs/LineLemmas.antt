-- What the proofs on the command line cite.
use Rattle.std.proofs.Common.{◌≡◌, ◌∙◌, ◌++◌, ◌∷◌, ◌+◌, ◌<◌, ℕ, map, drop, get_or, append_assoc, Bool, true, false, List, [], Result, Ok, Err, refl, sym, ap}
use Rattle.std.specs.Prelude.{◌&&◌, ◌||◌, not, nat_lt, length, if◌then◌else◌, codes}
use Rattle.std.specs.Str.{bytes_eq}
use Rattle.std.specs.Borrow.{Bor}
use Rattle.std.proofs.lemmas.List.{drop_more}
use Rattle.shell_text.specs.Print.{Settings, with_mode}
use Rattle.shell_text.specs.declared.settings.Mode.{Mode}
use Rattle.shell_text.specs.declared.settings.Mode.TheVariants as mode
use Rattle.clap.specs.Faults.{fault_of}
use Rattle.clap.specs.Matches.{found_of}
use Rattle.clap.specs.Simple.{matches_of}
use Rattle.clap.specs.Walk.{rows_of}
use Rattle.clap.specs.declared.parser.matches.ArgMatches.{ArgMatches}
use Rattle.ft_line.specs.Line.{dashed, dashed_words, ft4sh, line_of, meaning_of, mode_if, with_modes}
use Rattle.ft_line.specs.LineGives.{HasMatches, HasMeaning, IsTaken, ReadsLine}
use Rattle.ft_line.specs.declared.line.Line.{Line}
use Rattle.ft_line.specs.declared.line.LineFault.{LineFault}
use Rattle.ft_line.specs.declared.line.LineFault.TheVariants as fault

-- the words that are left, rewritten or not
abbrev pub left : Bool → List (List ℕ) → List (List ℕ)
left true words = dashed_words words
left false words = words

-- one word more
pub left_more : (rewrites : Bool) (word : List ℕ) (words : List (List ℕ)) → left rewrites (word ∷ words)
    ≡ (if rewrites && not (bytes_eq word (codes "--")) then dashed word else word) ∷ left (rewrites && not (bytes_eq word (codes "--"))) words
left_more false word words = refl
left_more true word words = go (bytes_eq word (codes "--"))
  where
    go : (b : Bool) → (if b then word ∷ words else dashed word ∷ dashed_words words) ≡ (if not b then dashed word else word) ∷ left (not b) words
    go true = refl
    go false = refl

-- one word more after those that are done
pub words_more : (rewrites : Bool) (words : List (Bor (List ℕ))) (i : ℕ) (d : Bor (List ℕ)) (done more all : List (List ℕ)) → i < length words
    → more ≡ done ++ (if rewrites && not (bytes_eq (get_or words i d).now (codes "--")) then dashed (get_or words i d).now else (get_or words i d).now) ∷ []
    → done ++ left rewrites (map (λ word. word.now) (drop i words)) ≡ all
    → more ++ left (rewrites && not (bytes_eq (get_or words i d).now (codes "--"))) (map (λ word. word.now) (drop (i + 1) words)) ≡ all
words_more rewrites words i d done more all h grown before =
    ap (λ xs. xs ++ left (rewrites && not (bytes_eq (get_or words i d).now (codes "--"))) (map (λ word. word.now) (drop (i + 1) words))) grown
    ∙ append_assoc done _ _
    ∙ ap (λ xs. done ++ xs) (sym (left_more rewrites (get_or words i d).now (map (λ word. word.now) (drop (i + 1) words)))
    ∙ ap (λ xs. left rewrites (map (λ word. word.now) xs)) (sym (drop_more words i d h)))
    ∙ before

-- no word is left
pub left_none : (rewrites : Bool) → left rewrites [] ≡ []
left_none true = refl
left_none false = refl

-- two modes of four
pub two_modes : (l c o q : Bool) → ((l && (c || o || q)) || (c && (o || q)) || (o && q))
    ≡ nat_lt 1 (length (mode_if l mode.List ++ mode_if c mode.Csv ++ mode_if o mode.Column ++ mode_if q mode.Quote))
two_modes true true true true = refl
two_modes true true true false = refl
two_modes true true false true = refl
two_modes true true false false = refl
two_modes true false true true = refl
two_modes true false true false = refl
two_modes true false false true = refl
two_modes true false false false = refl
two_modes false true true true = refl
two_modes false true true false = refl
two_modes false true false true = refl
two_modes false true false false = refl
two_modes false false true true = refl
two_modes false false true false = refl
two_modes false false false true = refl
two_modes false false false false = refl

pub keeps_headers : (ms : List Mode) (settings : Settings) → (with_modes ms settings).headers ≡ settings.headers
keeps_headers [] settings = refl
keeps_headers (m ∷ ms) settings = keeps_headers ms (with_mode m settings)

-- the words as the command is given them, what it finds in them, and what that means
pub reads_line : (raw words : List (List ℕ)) (m : ArgMatches) (r : Result Line LineFault) → words ≡ dashed_words raw → HasMatches words m
    → HasMeaning (rows_of (found_of m)) r → ReadsLine raw r
reads_line raw words m r are has means = go r means
  where
    taken : IsTaken raw
    taken = sym (ap (fault_of ft4sh) are) ∙ has.0

    meant : line_of raw ≡ meaning_of (rows_of (found_of m))
    meant = sym (ap (λ ws. meaning_of (matches_of ft4sh ws)) are) ∙ sym (ap meaning_of has.1)

    go : (r : Result Line LineFault) → HasMeaning (rows_of (found_of m)) r → ReadsLine raw r
    go (Ok line) is = (taken, meant ∙ is)
    go (Err (fault.Words e)) is = absurd is
    go (Err fault.Conflict) is = (taken, meant ∙ is)
    go (Err fault.BadSeparator) is = (taken, meant ∙ is)
    go (Err fault.Memory) is = tt
