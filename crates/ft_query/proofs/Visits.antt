-- What the evaluation of a document answers.
use Rattle.std.proofs.Common.{◌≡◌, Bool, true, false, cond, List, length, map, sym, ap, ◌∙◌, AllPairs, Option, Some, None, IsPermutation, IsSortedBy, arith}
use Rattle.std.proofs.lemmas.List.Sorted.{length_permutation}
use Rattle.ft_query.proofs.Common.{nil_from_length, Place, Offset, Wanted, Docids, Offsets, Posting, IsBefore, Tree, terms_in, accepts, offsets_of, listed_places, is_accepted, marks_of, numbered_offsets, precedes, if_wanted, nat_tests}
use Rattle.ft_query.proofs.ChainPasses.{accepted_is, marked_is}
use Rattle.ft_query.proofs.Sorting.{sorted_are}

abbrev pub answer_of : Wanted → List Posting → Tree → Option (List Offset)
answer_of wanted postings tree = cond (accepts postings tree) (Some (if_wanted wanted (offsets_of postings tree))) None

by_test : (postings : List Posting) (tree : Tree) (lists : List (List Place)) (b : Bool) → AllPairs IsBefore postings
    → lists ≡ map (listed_places postings) (terms_in tree) → b ≡ is_accepted tree lists → accepts postings tree ≡ b
by_test postings tree lists b ordered is accepted = sym (accepted ∙ ap (is_accepted tree) is ∙ accepted_is postings tree ordered)

pub rejected_is : (wanted : Wanted) (postings : List Posting) (tree : Tree) (lists : List (List Place)) (b : Bool) → AllPairs IsBefore postings
    → lists ≡ map (listed_places postings) (terms_in tree) → b ≡ is_accepted tree lists → b ≡ false → None ≡ answer_of wanted postings tree
rejected_is wanted postings tree lists b ordered is accepted rejected = grind (arith, nat_tests, by_test postings tree lists b ordered is accepted)

-- the offsets are in order, or there are none
sorted_is : (wanted : Wanted) (postings : List Posting) (tree : Tree) (lists : List (List Place)) (marks out : List Offset) → AllPairs IsBefore postings
    → lists ≡ map (listed_places postings) (terms_in tree)
    → marks ≡ numbered_offsets 0 (if_wanted wanted (marks_of tree lists)) → IsPermutation marks out → IsSortedBy precedes out
    → out ≡ if_wanted wanted (offsets_of postings tree)
sorted_is Docids postings tree lists marks out ordered is marked permutation sorted =
    nil_from_length out (length_permutation marks out permutation ∙ ap length marked)
sorted_is Offsets postings tree lists marks out ordered is marked permutation sorted =
    let taken_are = marked ∙ ap (λ ls. numbered_offsets 0 (marks_of tree ls)) is ∙ ap (numbered_offsets 0) (marked_is postings tree ordered) in
    sorted_are postings tree marks out ordered taken_are permutation sorted

pub found_is : (wanted : Wanted) (postings : List Posting) (tree : Tree) (lists : List (List Place)) (b : Bool) (marks out : List Offset)
    → AllPairs IsBefore postings → lists ≡ map (listed_places postings) (terms_in tree) → b ≡ is_accepted tree lists → b ≡ true
    → marks ≡ numbered_offsets 0 (if_wanted wanted (marks_of tree lists)) → IsPermutation marks out → IsSortedBy precedes out
    → Some out ≡ answer_of wanted postings tree
found_is wanted postings tree lists b marks out ordered is accepted passed marked permutation sorted =
    grind (arith, nat_tests, sorted_is wanted postings tree lists marks out ordered is marked permutation sorted, by_test postings tree lists b ordered is accepted)
