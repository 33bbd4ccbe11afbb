-- What a search answers, as callers of a walk are told it.
use Rattle.std.proofs.Common.{◌≡◌, ℕ, ◌<◌, map, refl, Option, Some, None, Result, Ok, Err, IfOk, List, option_map, IfSome, arith, rules}
use Rattle.std.specs.declared.alloc.AllocError.{AllocError}
use Rattle.ft_query.proofs.Common.{Query, Hit, Cursor, Wanted, Docids, Offsets, Document, Walk, StandsBefore, Walked, WalkedTo, lists_to_come, lists_left, lists_kept, walk_at, stands_at, Finds, FindsNext}

-- with offsets
pub found_hit : (old new : Walk) (hit : Option Hit) (documents : List Document) → Finds Offsets old new hit documents → Walked old new hit documents
found_hit old new None documents found = record { went = found.went; ended = found.ended }
found_hit old new (Some hit) documents found = search rules

pub hits_found : (result : Result (Option Hit) AllocError) (old new : Walk) → IfOk result (FindsNext Offsets old new)
    → IfOk result (λ hit. (documents : List Document) → StandsBefore old documents → Walked old new hit documents)
hits_found (Ok hit) old new found = λ documents stands. found_hit old new hit documents (found.finds documents stands)
hits_found (Err error) old new found = tt

pub passes_on : (wanted : Wanted) (result : Result (Option Hit) AllocError) (old new : Walk) → IfOk result (FindsNext wanted old new)
    → IfOk result (λ hit. IfSome hit (λ _. lists_to_come new < lists_to_come old))
passes_on wanted (Ok hit) old new found = found.passes
passes_on wanted (Err error) old new found = tt

-- without
pub found_docid : (old new : Walk) (hit : Option Hit) (documents : List Document) → Finds Docids old new hit documents
    → WalkedTo old new (option_map (λ h. h.docid) hit) documents
found_docid old new None documents found = record { offsets = found.offsets; went = found.went; ended = λ _. found.ended refl }
found_docid old new (Some hit) documents found = record { offsets = found.offsets; went = found.went; ended = λ never. cc }

-- a search begins where the walk stands, which is kept where the search ends
pub kept_on : {wanted : Wanted} {q : Query} (old begun found kept : List Cursor) {from to : ℕ} {hit : Option Hit}
    → FindsNext wanted (walk_at q begun from) (walk_at q found to) hit → map lists_left begun ≡ map lists_kept old
    → map lists_kept kept ≡ map lists_left found → FindsNext wanted (stands_at q old from) (stands_at q kept to) hit
kept_on {wanted} {q} old begun found kept {from} {to} {hit} finds begins keeps = grind arith
