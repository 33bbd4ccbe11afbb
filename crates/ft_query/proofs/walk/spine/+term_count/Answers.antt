use Rattle.std.proofs.Common.{rules, ◌≡◌, ◌++◌, ◌+◌, length, ap, arith, length-append}
use Rattle.ft_query.proofs.Common.{tree_of, terms_in, width}
use Rattle.ft_query.proofs.Spines.{some_width}
use Rattle.ft_query.proofs.walk.spine.+term_count.Goals as goal

-- a right side is a part of the part, and less wide
pub term_count-count-requires : goal.term_count-count-requires
term_count-count-requires t c =
    let p = tree_of c.in-And.left.value in
    let q = tree_of c.deref.result.now in
    let terms : terms_in p ++ terms_in q ≡ terms_in (tree_of c.loop-part.part.now) = search rules in
    let wide : width p + width q ≡ width (tree_of c.loop-part.part.now) = search rules in
    (omega (arith, wide, some_width p), omega (arith, ap length terms, length-append (terms_in p) (terms_in q)))
