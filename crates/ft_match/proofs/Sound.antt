-- What the one pass reads, the grammar reads.
use Rattle.std.proofs.Common.{◌≡◌, ℕ, List, [], ◌∷◌, ◌++◌, ◌⊎◌, inl, inr, refl, sym, ap, ◌∙◌, subst, append_assoc, append-nil, Option, Some, None, option_and_then, option_map, arith}
use Rattle.ft_match.proofs.Common.{PlainPhrase, PlainLink, Tree, both, either, without, tree_of_chain, Lexeme, open_paren, close_paren, and_word, or_word, not_word, near_word, filter_on, word, quoted, IsPhrase, of_word, of_quoted, of_filtered_word, of_filtered_quoted, IsChain, alone, IsNear, one_chain, in_parens, IsNot, one_near, then_not, IsAnd, one_not, then_and, beside, IsOr, one_and, then_or, Waiting, nothing_waits, Last, operator, filtered, chained, near_to, near_filtered, State, join, not_whole, and_whole, or_whole, not_state, and_state, or_state, begin, close, after_operand, pass_step, operand, finish, run, pass_start, tree_from, nat_tests}
use Rattle.ft_match.specs.Grammar.{linked}
use Rattle.ft_match.specs.Pass.{whole}

-- ---- the lexemes that a state stands for

OrLeft : Option ℕ → Option Tree → List Lexeme → Type 0
OrLeft default None ls = ls ≡ []
OrLeft default (Some t) ls = (ms : List Lexeme) × IsOr default ms t × (ls ≡ ms ++ or_word ∷ [])

AndLeft : Option ℕ → Option Tree → List Lexeme → Type 0
AndLeft default None ls = ls ≡ []
AndLeft default (Some t) ls = (ms : List Lexeme) × IsAnd default ms t × ((ls ≡ ms ++ and_word ∷ []) ⊎ (ls ≡ ms))

NotLeft : Option ℕ → Option Tree → List Lexeme → Type 0
NotLeft default None ls = ls ≡ []
NotLeft default (Some t) ls = (ms : List Lexeme) × IsNot default ms t × (ls ≡ ms ++ not_word ∷ [])

LastIs : Option ℕ → Last → List Lexeme → Type 0
LastIs default operator ls = ls ≡ []
LastIs default (filtered c) ls = ls ≡ filter_on c ∷ []
LastIs default (chained p links) ls = IsChain default ls p links
LastIs default (near_to p links most) ls = (ms : List Lexeme) × IsChain default ms p links × (ls ≡ ms ++ near_word most ∷ [])
LastIs default (near_filtered p links most c) ls = (ms : List Lexeme) × IsChain default ms p links × (ls ≡ ms ++ near_word most ∷ filter_on c ∷ [])
LastIs default (whole t) ls = IsNear default ls t

-- the left sides that wait, with what stands before them and what after
record Lefts (default : Option ℕ) (w : Waiting) (all before after : List Lexeme) : Type 0 where
  o : (ls : List Lexeme) × OrLeft default w.or_left ls
  a : (ls : List Lexeme) × AndLeft default w.and_left ls
  n : (ls : List Lexeme) × NotLeft default w.not_left ls
  are : all ≡ before ++ (o.0 ++ (a.0 ++ (n.0 ++ after)))

Around : Option ℕ → List Waiting → List Lexeme → Type 0
Around default [] ls = ls ≡ []
Around default (w ∷ outer) ls = (before : List Lexeme) × Around default outer before × Lefts default w ls before (open_paren ∷ [])

-- the lexemes that led from the start to this state
record Stands (default : Option ℕ) (w : Waiting) (outer : List Waiting) (last : Last) (all : List Lexeme) : Type 0 where
  before : List Lexeme
  read : List Lexeme
  around : Around default outer before
  is_last : LastIs default last read
  lefts : Lefts default w all before read

-- ---- an operand with the left sides that wait for it

near_is : (default : Option ℕ) (last : Last) (t : Tree) (ls : List Lexeme) → operand last ≡ Some t → LastIs default last ls → IsNear default ls t
unfolding LastIs
near_is default (chained p links) t ls e is = let same : tree_of_chain p links ≡ t = cc in subst (IsNear default ls) same (one_chain is)
near_is default (whole u) t ls e is = let same : u ≡ t = cc in subst (IsNear default ls) same is
near_is default _ t ls e is = cc

not_is : (default : Option ℕ) (left : Option Tree) (x : Tree) (n ls : List Lexeme) → NotLeft default left n → IsNear default ls x
    → IsNot default (n ++ ls) (join without left x)
unfolding NotLeft
not_is default None x n ls none d = subst (λ (m : List Lexeme). IsNot default (m ++ ls) x) (sym none) (one_near d)
not_is default (Some t) x n ls left d =
    subst (λ m. IsNot default m (without t x)) (sym (ap (λ (m : List Lexeme). m ++ ls) left.2 ∙ append_assoc left.0 (not_word ∷ []) ls)) (then_not left.1 d)

and_is : (default : Option ℕ) (left : Option Tree) (x : Tree) (a ls : List Lexeme) → AndLeft default left a → IsNot default ls x
    → IsAnd default (a ++ ls) (join both left x)
unfolding AndLeft
and_is default None x a ls none d = subst (λ (m : List Lexeme). IsAnd default (m ++ ls) x) (sym none) (one_not d)
and_is default (Some t) x a ls left d =
    elim left.2 [
      | inl e ↦ subst (λ m. IsAnd default m (both t x)) (sym (ap (λ (m : List Lexeme). m ++ ls) e ∙ append_assoc left.0 (and_word ∷ []) ls)) (then_and left.1 d)
      | inr e ↦ subst (λ (m : List Lexeme). IsAnd default (m ++ ls) (both t x)) (sym e) (beside left.1 d)
    ]

or_is : (default : Option ℕ) (left : Option Tree) (x : Tree) (o ls : List Lexeme) → OrLeft default left o → IsAnd default ls x
    → IsOr default (o ++ ls) (join either left x)
unfolding OrLeft
or_is default None x o ls none d = subst (λ (m : List Lexeme). IsOr default (m ++ ls) x) (sym none) (one_and d)
or_is default (Some t) x o ls left d =
    subst (λ m. IsOr default m (either t x)) (sym (ap (λ (m : List Lexeme). m ++ ls) left.2 ∙ append_assoc left.0 (or_word ∷ []) ls)) (then_or left.1 d)

-- ---- one step

module _ (default : Option ℕ) (w : Waiting) (outer : List Waiting) (all : List Lexeme) where
  -- a lexeme that goes to what was read last
  reads_on : (last next : Last) (l : Lexeme) (s : Stands default w outer last all) → LastIs default next (s.read ++ l ∷ [])
      → Stands default w outer next (all ++ l ∷ [])
  reads_on last next l s is = record {
    before = s.before;
    read = s.read ++ l ∷ [];
    around = s.around;
    is_last = is;
    lefts = record { o = s.lefts.o; a = s.lefts.a; n = s.lefts.n; are = ap (λ (m : List Lexeme). m ++ l ∷ []) s.lefts.are ∙ simp append_assoc };
  }

  module _ (last : Last) (t : Tree) (s : Stands default w outer last all) (is : operand last ≡ Some t) where
    is_near : IsNear default s.read t
    is_near = near_is default last t s.read is s.is_last

    is_not : IsNot default (s.lefts.n.0 ++ s.read) (not_whole w t)
    is_not = not_is default w.not_left t s.lefts.n.0 s.read s.lefts.n.1 is_near

    is_and : IsAnd default (s.lefts.a.0 ++ (s.lefts.n.0 ++ s.read)) (and_whole w t)
    is_and = and_is default w.and_left (not_whole w t) s.lefts.a.0 (s.lefts.n.0 ++ s.read) s.lefts.a.1 is_not

    is_or : IsOr default (s.lefts.o.0 ++ (s.lefts.a.0 ++ (s.lefts.n.0 ++ s.read))) (or_whole w t)
    is_or = or_is default w.or_left (and_whole w t) s.lefts.o.0 (s.lefts.a.0 ++ (s.lefts.n.0 ++ s.read)) s.lefts.o.1 is_and

    -- an operator after the operand
    then_operator : (v : Waiting) (ls : List Lexeme) → Lefts default v ls s.before [] → Stands default v outer operator ls
    unfolding LastIs
    then_operator v ls lefts = record { before = s.before; read = []; around = s.around; is_last = refl; lefts = lefts }

    at_not : Stands default (not_state w outer t).waiting outer operator (all ++ not_word ∷ [])
    unfolding NotLeft
    at_not = then_operator (not_state w outer t).waiting (all ++ not_word ∷ []) (record {
      o = s.lefts.o;
      a = s.lefts.a;
      n = ((s.lefts.n.0 ++ s.read) ++ not_word ∷ [], (s.lefts.n.0 ++ s.read, is_not, refl));
      are = ap (λ (m : List Lexeme). m ++ not_word ∷ []) s.lefts.are ∙ simp (append_assoc, append-nil);
    })

    at_and : Stands default (and_state w outer t).waiting outer operator (all ++ and_word ∷ [])
    unfolding AndLeft NotLeft
    at_and = then_operator (and_state w outer t).waiting (all ++ and_word ∷ []) (record {
      o = s.lefts.o;
      a = ((s.lefts.a.0 ++ (s.lefts.n.0 ++ s.read)) ++ and_word ∷ [], (s.lefts.a.0 ++ (s.lefts.n.0 ++ s.read), is_and, inl refl));
      n = ([], refl);
      are = ap (λ (m : List Lexeme). m ++ and_word ∷ []) s.lefts.are ∙ simp (append_assoc, append-nil);
    })

    at_beside : Stands default (and_state w outer t).waiting outer operator all
    unfolding AndLeft NotLeft
    at_beside = then_operator (and_state w outer t).waiting all (record {
      o = s.lefts.o;
      a = (s.lefts.a.0 ++ (s.lefts.n.0 ++ s.read), (s.lefts.a.0 ++ (s.lefts.n.0 ++ s.read), is_and, inr refl));
      n = ([], refl);
      are = s.lefts.are ∙ simp (append_assoc, append-nil);
    })

    at_or : Stands default (or_state w outer t).waiting outer operator (all ++ or_word ∷ [])
    unfolding OrLeft AndLeft NotLeft
    at_or = then_operator (or_state w outer t).waiting (all ++ or_word ∷ []) (record {
      o = (
        (s.lefts.o.0 ++ (s.lefts.a.0 ++ (s.lefts.n.0 ++ s.read))) ++ or_word ∷ [],
        (s.lefts.o.0 ++ (s.lefts.a.0 ++ (s.lefts.n.0 ++ s.read)), is_or, refl),
      );
      a = ([], refl);
      n = ([], refl);
      are = ap (λ (m : List Lexeme). m ++ or_word ∷ []) s.lefts.are ∙ simp (append_assoc, append-nil);
    })

  -- a parenthesis opens
  at_open : Stands default w outer operator all → Stands default nothing_waits (w ∷ outer) operator (all ++ open_paren ∷ [])
  unfolding OrLeft AndLeft NotLeft LastIs Around
  at_open s = record {
    before = all ++ open_paren ∷ [];
    read = [];
    around = (
      s.before,
      s.around,
      record {
        o = s.lefts.o;
        a = s.lefts.a;
        n = s.lefts.n;
        are =
            ap (λ (m : List Lexeme). m ++ open_paren ∷ []) (s.lefts.are ∙ ap
            (λ (m : List Lexeme). s.before ++ (s.lefts.o.0 ++ (s.lefts.a.0 ++ (s.lefts.n.0 ++ m)))) s.is_last) ∙ simp (append_assoc, append-nil);
      },
    );
    is_last = refl;
    lefts = record { o = ([], refl); a = ([], refl); n = ([], refl); are = simp append-nil };
  }

-- a parenthesis closes
at_close : (default : Option ℕ) (w v : Waiting) (outer : List Waiting) (all : List Lexeme) (last : Last) (t : Tree) → Stands default w (v ∷ outer) last all
    → operand last ≡ Some t → Stands default v outer (whole (or_whole w t)) (all ++ close_paren ∷ [])
unfolding LastIs Around
at_close default w v outer all last t s is =
    let around = s.around in
    let inner = s.lefts.o.0 ++ (s.lefts.a.0 ++ (s.lefts.n.0 ++ s.read)) in
    record {
      before = around.0;
      read = open_paren ∷ inner ++ close_paren ∷ [];
      around = around.1;
      is_last = in_parens (is_or default w (v ∷ outer) all last t s is);
      lefts = record {
        o = around.2.o;
        a = around.2.a;
        n = around.2.n;
        are = ap (λ (m : List Lexeme). m ++ close_paren ∷ []) (s.lefts.are ∙ ap (λ (m : List Lexeme). m ++ inner) around.2.are) ∙ simp append_assoc;
      };
    }

-- what a state is, if there is one
StandsIf : Option ℕ → Option State → List Lexeme → Type 0
StandsIf default None all = Unit {0}
StandsIf default (Some s) all = Stands default s.waiting s.outer s.last all

from_operator : (default : Option ℕ) (w : Waiting) (outer : List Waiting) (all : List Lexeme) (l : Lexeme) → Stands default w outer operator all
    → StandsIf default (begin default w outer l) (all ++ l ∷ [])
unfolding StandsIf LastIs
from_operator default w outer all open_paren s = at_open default w outer all s
from_operator default w outer all (filter_on c) s = grind (arith, nat_tests, reads_on default w outer all operator (filtered c) (filter_on c) s)
from_operator default w outer all (word t) s =
    reads_on default w outer all operator (chained (record { filter = default; terms = t ∷ [] }) []) (word t) s
    (alone (subst (λ (m : List Lexeme). IsPhrase default (m ++ word t ∷ []) (record { filter = default; terms = t ∷ [] })) (sym s.is_last) of_word))
from_operator default w outer all (quoted ts) s =
    reads_on default w outer all operator (chained (record { filter = default; terms = ts }) []) (quoted ts) s
    (alone (subst (λ (m : List Lexeme). IsPhrase default (m ++ quoted ts ∷ []) (record { filter = default; terms = ts })) (sym s.is_last) of_quoted))
from_operator default w outer all _ s = tt

from_close : (default : Option ℕ) (w : Waiting) (outer : List Waiting) (all : List Lexeme) (last : Last) (t : Tree) → Stands default w outer last all
    → operand last ≡ Some t → StandsIf default (close outer (or_whole w t)) (all ++ close_paren ∷ [])
unfolding StandsIf
from_close default w [] all last t s is = tt
from_close default w (v ∷ outer) all last t s is = at_close default w v outer all last t s is

from_operand : (default : Option ℕ) (w : Waiting) (outer : List Waiting) (all : List Lexeme) (last : Last) (t : Tree) (l : Lexeme)
    → Stands default w outer last all → operand last ≡ Some t → StandsIf default (after_operand default w outer t l) (all ++ l ∷ [])
unfolding StandsIf
from_operand default w outer all last t close_paren s is = from_close default w outer all last t s is
from_operand default w outer all last t and_word s is = at_and default w outer all last t s is
from_operand default w outer all last t or_word s is = at_or default w outer all last t s is
from_operand default w outer all last t not_word s is = at_not default w outer all last t s is
from_operand default w outer all last t (near_word most) s is = tt
from_operand default w outer all last t l s is = from_operator default _ outer all l (at_beside default w outer all last t s is)

from_filtered : (default : Option ℕ) (w : Waiting) (outer : List Waiting) (all : List Lexeme) (c : ℕ) (l : Lexeme) → Stands default w outer (filtered c) all
    → StandsIf default (pass_step default w outer (filtered c) l) (all ++ l ∷ [])
unfolding StandsIf LastIs
from_filtered default w outer all c (word t) s =
    reads_on default w outer all (filtered c) (chained (record { filter = Some c; terms = t ∷ [] }) []) (word t) s
    (alone (subst (λ (m : List Lexeme). IsPhrase default (m ++ word t ∷ []) (record { filter = Some c; terms = t ∷ [] })) (sym s.is_last) of_filtered_word))
from_filtered default w outer all c (quoted ts) s =
    reads_on default w outer all (filtered c) (chained (record { filter = Some c; terms = ts }) []) (quoted ts) s
    (alone (subst (λ (m : List Lexeme). IsPhrase default (m ++ quoted ts ∷ []) (record { filter = Some c; terms = ts })) (sym s.is_last) of_filtered_quoted))
from_filtered default w outer all c _ s = tt

-- one more phrase of a chain
one_more : (default : Option ℕ) (p q : PlainPhrase) (links : List PlainLink) (most : ℕ) (read more ls ms : List Lexeme) → IsChain default ls p links
    → IsPhrase default ms q → read ++ more ≡ ls ++ near_word most ∷ ms → IsChain default (read ++ more) p (links ++ record { most = most; to = q } ∷ [])
one_more default p q links most read more ls ms d e are =
    subst (λ m. IsChain default m p (links ++ record { most = most; to = q } ∷ [])) (sym are) (linked d most e)

abbrev with_link : PlainPhrase → List PlainLink → ℕ → PlainPhrase → Last
with_link p links most q = chained p (links ++ record { most = most; to = q } ∷ [])

from_near : (default : Option ℕ) (w : Waiting) (outer : List Waiting) (all : List Lexeme) (p : PlainPhrase) (links : List PlainLink) (most : ℕ) (l : Lexeme)
    → Stands default w outer (near_to p links most) all → StandsIf default (pass_step default w outer (near_to p links most) l) (all ++ l ∷ [])
unfolding StandsIf LastIs
from_near default w outer all p links most (filter_on c) s =
    let last = s.is_last in
    reads_on default w outer all (near_to p links most) (near_filtered p links most c) (filter_on c) s
    (last.0, last.1, ap (λ (m : List Lexeme). m ++ filter_on c ∷ []) last.2 ∙ append_assoc last.0 (near_word most ∷ []) (filter_on c ∷ []))
from_near default w outer all p links most (word t) s =
    let last = s.is_last in
    reads_on default w outer all (near_to p links most) (with_link p links most (record { filter = default; terms = t ∷ [] })) (word t) s
    (one_more default p _ links most s.read (word t ∷ []) last.0 (word t ∷ []) last.1 of_word
    (ap (λ (m : List Lexeme). m ++ word t ∷ []) last.2 ∙ append_assoc last.0 (near_word most ∷ []) (word t ∷ [])))
from_near default w outer all p links most (quoted ts) s =
    let last = s.is_last in
    reads_on default w outer all (near_to p links most) (with_link p links most (record { filter = default; terms = ts })) (quoted ts) s
    (one_more default p _ links most s.read (quoted ts ∷ []) last.0 (quoted ts ∷ []) last.1 of_quoted
    (ap (λ (m : List Lexeme). m ++ quoted ts ∷ []) last.2 ∙ append_assoc last.0 (near_word most ∷ []) (quoted ts ∷ [])))
from_near default w outer all p links most _ s = tt

from_near_filtered : (default : Option ℕ) (w : Waiting) (outer : List Waiting) (all : List Lexeme) (p : PlainPhrase) (links : List PlainLink) (most c : ℕ)
    (l : Lexeme) → Stands default w outer (near_filtered p links most c) all → StandsIf default (pass_step default w outer (near_filtered p links most c) l)
    (all ++ l ∷ [])
unfolding StandsIf LastIs
from_near_filtered default w outer all p links most c (word t) s =
    let last = s.is_last in
    reads_on default w outer all (near_filtered p links most c) (with_link p links most (record { filter = Some c; terms = t ∷ [] })) (word t) s
    (one_more default p _ links most s.read (word t ∷ []) last.0 (filter_on c ∷ word t ∷ []) last.1 of_filtered_word
    (ap (λ (m : List Lexeme). m ++ word t ∷ []) last.2 ∙ append_assoc last.0 (near_word most ∷ filter_on c ∷ []) (word t ∷ [])))
from_near_filtered default w outer all p links most c (quoted ts) s =
    let last = s.is_last in
    reads_on default w outer all (near_filtered p links most c) (with_link p links most (record { filter = Some c; terms = ts })) (quoted ts) s
    (one_more default p _ links most s.read (quoted ts ∷ []) last.0 (filter_on c ∷ quoted ts ∷ []) last.1 of_filtered_quoted
    (ap (λ (m : List Lexeme). m ++ quoted ts ∷ []) last.2 ∙ append_assoc last.0 (near_word most ∷ filter_on c ∷ []) (quoted ts ∷ [])))
from_near_filtered default w outer all p links most c _ s = tt

from_chain : (default : Option ℕ) (w : Waiting) (outer : List Waiting) (all : List Lexeme) (p : PlainPhrase) (links : List PlainLink) (l : Lexeme)
    → Stands default w outer (chained p links) all → StandsIf default (pass_step default w outer (chained p links) l) (all ++ l ∷ [])
unfolding StandsIf LastIs
from_chain default w outer all p links (near_word most) s =
    reads_on default w outer all (chained p links) (near_to p links most) (near_word most) s (s.read, s.is_last, refl)
from_chain default w outer all p links l s = from_operand default w outer all (chained p links) (tree_of_chain p links) l s refl

from_last : (default : Option ℕ) (w : Waiting) (outer : List Waiting) (last : Last) (all : List Lexeme) (l : Lexeme) → Stands default w outer last all
    → StandsIf default (pass_step default w outer last l) (all ++ l ∷ [])
from_last default w outer operator all l s = from_operator default w outer all l s
from_last default w outer (filtered c) all l s = from_filtered default w outer all c l s
from_last default w outer (chained p links) all l s = from_chain default w outer all p links l s
from_last default w outer (near_to p links most) all l s = from_near default w outer all p links most l s
from_last default w outer (near_filtered p links most c) all l s = from_near_filtered default w outer all p links most c l s
from_last default w outer (whole t) all l s = from_operand default w outer all (whole t) t l s refl

-- ---- the whole pass

at_end : (default : Option ℕ) (w : Waiting) (last : Last) (all : List Lexeme) (t : Tree) (found : Option Tree) → Stands default w [] last all
    → operand last ≡ found → option_map (or_whole w) found ≡ Some t → IsOr default all t
unfolding Around
at_end default w last all t None s is e = cc
at_end default w last all t (Some x) s is e =
    let same : or_whole w x ≡ t = cc in
    subst (IsOr default all) same
    (subst (λ m. IsOr default m (or_whole w x)) (sym (s.lefts.are ∙ ap
    (λ (m : List Lexeme). m ++ (s.lefts.o.0 ++ (s.lefts.a.0 ++ (s.lefts.n.0 ++ s.read)))) s.around)) (is_or default w [] all last x s is))

finished : (default : Option ℕ) (w : Waiting) (outer : List Waiting) (last : Last) (all : List Lexeme) (t : Tree) → Stands default w outer last all
    → finish w outer last ≡ Some t → IsOr default all t
finished default w [] last all t s e = at_end default w last all t (operand last) s refl e
finished default w (v ∷ outer) last all t s e = cc

after_step : (default : Option ℕ) (ls all : List Lexeme) (t : Tree) (next : Option State) → StandsIf default next all
    → option_and_then (λ s. run default s ls) next ≡ Some t →
    ((s : State) → Stands default s.waiting s.outer s.last all → run default s ls ≡ Some t → IsOr default (all ++ ls) t) → IsOr default (all ++ ls) t
unfolding StandsIf
after_step default ls all t None stands e rest = cc
after_step default ls all t (Some s) stands e rest = rest s stands e

reads : (default : Option ℕ) (s : State) (ls all : List Lexeme) (t : Tree) → Stands default s.waiting s.outer s.last all → run default s ls ≡ Some t
    → IsOr default (all ++ ls) t
reads default s [] all t stands e = subst (λ m. IsOr default m t) (sym (append-nil all)) (finished default s.waiting s.outer s.last all t stands e)
reads default s (l ∷ ls) all t stands e =
    subst (λ m. IsOr default m t) (append_assoc all (l ∷ []) ls)
    (after_step default ls (all ++ l ∷ []) t (pass_step default s.waiting s.outer s.last l) (from_last default s.waiting s.outer s.last all l stands) e
    (λ next stands e. reads default next ls (all ++ l ∷ []) t stands e))

-- what the pass reads, the grammar reads
pub grammar_reads : (default : Option ℕ) (ls : List Lexeme) (t : Tree) → tree_from default ls ≡ Some t → IsOr default ls t
unfolding OrLeft AndLeft NotLeft LastIs Around
grammar_reads default ls t e = reads default pass_start ls [] t (record {
  before = [];
  read = [];
  around = refl;
  is_last = refl;
  lefts = record { o = ([], refl); a = ([], refl); n = ([], refl); are = refl };
}) e
