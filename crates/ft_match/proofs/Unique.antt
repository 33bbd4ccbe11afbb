-- No lexemes read as two trees: whatever the grammar reads, the one pass reads too.
use Rattle.std.proofs.Common.{◌≡◌, ℕ, Bool, true, false, List, [], ◌∷◌, ◌++◌, refl, sym, ap, ◌∙◌, append_assoc, append-nil, Option, Some, None, option_and_then, option_map, arith}
use Rattle.ft_match.proofs.Common.{PlainPhrase, PlainLink, Tree, both, either, without, Lexeme, open_paren, close_paren, and_word, or_word, not_word, near_word, filter_on, word, quoted, IsPhrase, of_word, of_quoted, of_filtered_word, of_filtered_quoted, IsChain, alone, IsNear, one_chain, in_parens, IsNot, one_near, then_not, IsAnd, one_not, then_and, beside, IsOr, one_and, then_or, Reads, Waiting, nothing_waits, Last, operator, chained, near_to, join, and_whole, or_whole, and_state, last_state, after_operand, pass_step, operand, run, pass_start, tree_from, nat_tests}
use Rattle.ft_match.specs.Grammar.{linked}
use Rattle.ft_match.specs.Pass.{whole}

-- From an operand on, the lexemes are a phrase: the pass goes on after it.
phrase_read : {default : Option ℕ} {ls : List Lexeme} {p : PlainPhrase} → IsPhrase default ls p → (w : Waiting) (outer : List Waiting) (rest : List Lexeme) →
    run default (last_state w outer operator) (ls ++ rest) ≡ run default (last_state w outer (chained p [])) rest
phrase_read of_word w outer rest = refl
phrase_read of_quoted w outer rest = refl
phrase_read of_filtered_word w outer rest = refl
phrase_read of_filtered_quoted w outer rest = refl

-- the same after NEAR
link_read : {default : Option ℕ} {ls : List Lexeme} {q : PlainPhrase} → IsPhrase default ls q
    → (w : Waiting) (outer : List Waiting) (p : PlainPhrase) (links : List PlainLink) (most : ℕ) (rest : List Lexeme) →
    run default (last_state w outer (near_to p links most)) (ls ++ rest) ≡ run default
    (last_state w outer (chained p (links ++ record { most = most; to = q } ∷ []))) rest
link_read of_word w outer p links most rest = refl
link_read of_quoted w outer p links most rest = refl
link_read of_filtered_word w outer p links most rest = refl
link_read of_filtered_quoted w outer p links most rest = refl

-- the same with a whole chain
chain_read : {default : Option ℕ} {ls : List Lexeme} {p : PlainPhrase} {links : List PlainLink} → IsChain default ls p links
    → (w : Waiting) (outer : List Waiting) (rest : List Lexeme) →
    run default (last_state w outer operator) (ls ++ rest) ≡ run default (last_state w outer (chained p links)) rest
chain_read (alone d) w outer rest = phrase_read d w outer rest
chain_read {default} (linked {ls} {ms} {p} {q} {links} d most e) w outer rest =
    grind (arith, nat_tests, append_assoc ls (near_word most ∷ ms) rest, chain_read d w outer (near_word most ∷ ms ++ rest), link_read e w outer p links most rest)

-- the lexeme is no NEAR
abbrev is_near : Lexeme → Bool
is_near (near_word most) = true
is_near _ = false

-- after an operand, another lexeme than NEAR does the same whether the operand is a chain or not
same_step : (default : Option ℕ) (w : Waiting) (outer : List Waiting) (last : Last) (t : Tree) (l : Lexeme) → operand last ≡ Some t → is_near l ≡ false
    → pass_step default w outer last l ≡ after_operand default w outer t l
same_step default w outer (chained p links) t l is other = grind arith
same_step default w outer (whole u) t l is other = let same : u ≡ t = cc in ap (λ v. after_operand default w outer v l) same
same_step default w outer _ t l is other = cc

-- the pass takes one step
run_step : (default : Option ℕ) (w : Waiting) (outer : List Waiting) (last : Last) (t : Tree) (l : Lexeme) (ls : List Lexeme) → operand last ≡ Some t
    → is_near l ≡ false →
    run default (last_state w outer last) (l ∷ ls) ≡ option_and_then (λ s. run default s ls) (after_operand default w outer t l)
run_step default w outer last t l ls is other = ap (option_and_then (λ s. run default s ls)) (same_step default w outer last t l is other)

abbrev waits : Option Tree → Option Tree → Option Tree → Waiting
waits o a n = record { or_left = o; and_left = a; not_left = n }

-- what the pass knows after the lexemes of each level: they are an operand with the left sides that
-- wait at this level and below
record NearRead (default : Option ℕ) (ls : List Lexeme) (t : Tree) (w : Waiting) (outer : List Waiting) (rest : List Lexeme) : Type 0 where
  last : Last
  is : operand last ≡ Some t
  runs : run default (last_state w outer operator) (ls ++ rest) ≡ run default (last_state w outer last) rest

record NotRead (default : Option ℕ) (ls : List Lexeme) (t : Tree) (o a : Option Tree) (outer : List Waiting) (rest : List Lexeme) : Type 0 where
  n : Option Tree
  x : Tree
  last : Last
  is : operand last ≡ Some x
  makes : join without n x ≡ t
  runs : run default (last_state (waits o a None) outer operator) (ls ++ rest) ≡ run default (last_state (waits o a n) outer last) rest

record AndRead (default : Option ℕ) (ls : List Lexeme) (t : Tree) (o : Option Tree) (outer : List Waiting) (rest : List Lexeme) : Type 0 where
  a : Option Tree
  n : Option Tree
  x : Tree
  last : Last
  is : operand last ≡ Some x
  makes : join both a (join without n x) ≡ t
  runs : run default (last_state (waits o None None) outer operator) (ls ++ rest) ≡ run default (last_state (waits o a n) outer last) rest

record OrRead (default : Option ℕ) (ls : List Lexeme) (t : Tree) (outer : List Waiting) (rest : List Lexeme) : Type 0 where
  o : Option Tree
  a : Option Tree
  n : Option Tree
  x : Tree
  last : Last
  is : operand last ≡ Some x
  makes : join either o (join both a (join without n x)) ≡ t
  runs : run default (last_state nothing_waits outer operator) (ls ++ rest) ≡ run default (last_state (waits o a n) outer last) rest

-- an operand may begin with this lexeme
abbrev begins : Lexeme → Bool
begins open_paren = true
begins (filter_on c) = true
begins (word t) = true
begins (quoted ts) = true
begins _ = false

-- lexemes whose first may begin an operand
record Begins (ls : List Lexeme) : Type 0 where
  first : Lexeme
  rest : List Lexeme
  are : ls ≡ first ∷ rest
  may : begins first ≡ true

begins_more : {ls : List Lexeme} → Begins ls → (ms : List Lexeme) → Begins (ls ++ ms)
begins_more b ms = record { first = b.first; rest = b.rest ++ ms; are = ap (λ (ls : List Lexeme). ls ++ ms) b.are; may = b.may }

phrase_begins : {default : Option ℕ} {ls : List Lexeme} {p : PlainPhrase} → IsPhrase default ls p → Begins ls
phrase_begins (of_word {t}) = record { first = word t; rest = []; are = refl; may = refl }
phrase_begins (of_quoted {ts}) = record { first = quoted ts; rest = []; are = refl; may = refl }
phrase_begins (of_filtered_word {c} {t}) = record { first = filter_on c; rest = word t ∷ []; are = refl; may = refl }
phrase_begins (of_filtered_quoted {c} {ts}) = record { first = filter_on c; rest = quoted ts ∷ []; are = refl; may = refl }

chain_begins : {default : Option ℕ} {ls : List Lexeme} {p : PlainPhrase} {links : List PlainLink} → IsChain default ls p links → Begins ls
chain_begins (alone d) = phrase_begins d
chain_begins (linked d most e) = begins_more (chain_begins d) _

near_begins : {default : Option ℕ} {ls : List Lexeme} {t : Tree} → IsNear default ls t → Begins ls
near_begins (one_chain d) = chain_begins d
near_begins (in_parens {ls} d) = record { first = open_paren; rest = ls ++ close_paren ∷ []; are = refl; may = refl }

not_begins : {default : Option ℕ} {ls : List Lexeme} {t : Tree} → IsNot default ls t → Begins ls
not_begins (one_near d) = near_begins d
not_begins (then_not d e) = begins_more (not_begins d) _

beside_run : (default : Option ℕ) (w : Waiting) (outer : List Waiting) (last : Last) (t : Tree) (ls rest : List Lexeme) → operand last ≡ Some t → Begins ls →
    run default (last_state w outer last) (ls ++ rest) ≡ run default (and_state w outer t) (ls ++ rest)
beside_run default w outer last t ls rest is b = grind arith

mutual
  near_level : {default : Option ℕ} {ls : List Lexeme} {t : Tree} → IsNear default ls t → (w : Waiting) (outer : List Waiting) (rest : List Lexeme)
      → NearRead default ls t w outer rest
  near_level (one_chain {ls} {p} {links} d) w outer rest = record { last = chained p links; is = refl; runs = chain_read d w outer rest }
  near_level {default} (in_parens {ls} d) w outer rest =
      let inner = or_level d (w ∷ outer) (close_paren ∷ rest) in
      record {
        last = whole (or_whole (waits inner.o inner.a inner.n) inner.x);
        is = ap Some inner.makes;
        runs =
            ap (run default (last_state nothing_waits (w ∷ outer) operator)) (append_assoc ls (close_paren ∷ []) rest) ∙ inner.runs
            ∙ run_step default (waits inner.o inner.a inner.n) (w ∷ outer) inner.last inner.x close_paren rest inner.is refl;
      }

  not_level : {default : Option ℕ} {ls : List Lexeme} {t : Tree} → IsNot default ls t → (o a : Option Tree) (outer : List Waiting) (rest : List Lexeme)
      → NotRead default ls t o a outer rest
  not_level (one_near {p} d) o a outer rest =
      let inner = near_level d (waits o a None) outer rest in
      record { n = None; x = p; last = inner.last; is = inner.is; makes = refl; runs = inner.runs }
  not_level {default} (then_not {ls} {ms} {p} {q} d e) o a outer rest =
      let left = not_level d o a outer (not_word ∷ ms ++ rest) in
      let right = near_level e (waits o a (Some (join without left.n left.x))) outer rest in
      record {
        n = Some (join without left.n left.x);
        x = q;
        last = right.last;
        is = right.is;
        makes = ap (λ u. without u q) left.makes;
        runs =
            ap (run default (last_state (waits o a None) outer operator)) (append_assoc ls (not_word ∷ ms) rest) ∙ left.runs
            ∙ run_step default (waits o a left.n) outer left.last left.x not_word (ms ++ rest) left.is refl ∙ right.runs;
      }

  and_level : {default : Option ℕ} {ls : List Lexeme} {t : Tree} → IsAnd default ls t → (o : Option Tree) (outer : List Waiting) (rest : List Lexeme)
      → AndRead default ls t o outer rest
  and_level (one_not d) o outer rest =
      let inner = not_level d o None outer rest in
      record { a = None; n = inner.n; x = inner.x; last = inner.last; is = inner.is; makes = inner.makes; runs = inner.runs }
  and_level {default} (then_and {ls} {ms} {p} {q} d e) o outer rest =
      let left = and_level d o outer (and_word ∷ ms ++ rest) in
      let right = not_level e o (Some (and_whole (waits o left.a left.n) left.x)) outer rest in
      record {
        a = Some (and_whole (waits o left.a left.n) left.x);
        n = right.n;
        x = right.x;
        last = right.last;
        is = right.is;
        makes = ap (λ u. both u (join without right.n right.x)) left.makes ∙ ap (both p) right.makes;
        runs =
            ap (run default (last_state (waits o None None) outer operator)) (append_assoc ls (and_word ∷ ms) rest) ∙ left.runs
            ∙ run_step default (waits o left.a left.n) outer left.last left.x and_word (ms ++ rest) left.is refl ∙ right.runs;
      }
  and_level {default} (beside {ls} {ms} {p} {q} d e) o outer rest =
      let left = and_level d o outer (ms ++ rest) in
      let right = not_level e o (Some (and_whole (waits o left.a left.n) left.x)) outer rest in
      record {
        a = Some (and_whole (waits o left.a left.n) left.x);
        n = right.n;
        x = right.x;
        last = right.last;
        is = right.is;
        makes = ap (λ u. both u (join without right.n right.x)) left.makes ∙ ap (both p) right.makes;
        runs =
            ap (run default (last_state (waits o None None) outer operator)) (append_assoc ls ms rest) ∙ left.runs
            ∙ beside_run default (waits o left.a left.n) outer left.last left.x ms rest left.is (not_begins e) ∙ right.runs;
      }

  or_level : {default : Option ℕ} {ls : List Lexeme} {t : Tree} → IsOr default ls t → (outer : List Waiting) (rest : List Lexeme)
      → OrRead default ls t outer rest
  or_level (one_and d) outer rest =
      let inner = and_level d None outer rest in
      record { o = None; a = inner.a; n = inner.n; x = inner.x; last = inner.last; is = inner.is; makes = inner.makes; runs = inner.runs }
  or_level {default} (then_or {ls} {ms} {p} {q} d e) outer rest =
      let left = or_level d outer (or_word ∷ ms ++ rest) in
      let right = and_level e (Some (or_whole (waits left.o left.a left.n) left.x)) outer rest in
      record {
        o = Some (or_whole (waits left.o left.a left.n) left.x);
        a = right.a;
        n = right.n;
        x = right.x;
        last = right.last;
        is = right.is;
        makes = ap (λ u. either u (join both right.a (join without right.n right.x))) left.makes ∙ ap (either p) right.makes;
        runs =
            ap (run default (last_state nothing_waits outer operator)) (append_assoc ls (or_word ∷ ms) rest) ∙ left.runs
            ∙ run_step default (waits left.o left.a left.n) outer left.last left.x or_word (ms ++ rest) left.is refl ∙ right.runs;
      }

-- what the grammar reads, the pass reads
pub read_whole : {default : Option ℕ} {ls : List Lexeme} {t : Tree} → IsOr default ls t → tree_from default ls ≡ Some t
read_whole {default} {ls} {t} d =
    let all = or_level d [] [] in
    ap (run default pass_start) (sym (append-nil ls)) ∙ all.runs ∙ ap (option_map (or_whole (waits all.o all.a all.n))) all.is ∙ ap Some all.makes

-- the lexemes read as at most one tree
pub same_tree : {default : Option ℕ} {ls : List Lexeme} {s t : Tree} → IsOr default ls s → IsOr default ls t → s ≡ t
same_tree d e = let both_read = sym (read_whole d) ∙ read_whole e in cc

-- nothing is no `or`
pub some_lexeme : {default : Option ℕ} {ls : List Lexeme} {t : Tree} → IsOr default ls t → ls ≡ [] → ⊥
some_lexeme {default} d none = let read : tree_from default [] ≡ Some _ = ap (tree_from default) (sym none) ∙ read_whole d in cc

-- the lexemes read as at most one query
pub same_reading : (default : Option ℕ) (ls : List Lexeme) (a b : Option Tree) → Reads default ls a → Reads default ls b → a ≡ b
same_reading default ls None None d e = refl
same_reading default ls (Some s) (Some t) d e = ap Some (same_tree d e)
same_reading default ls None (Some t) d e = absurd (some_lexeme e d)
same_reading default ls (Some s) None d e = absurd (some_lexeme d e)
