-- The names that most proofs cite, passed on from one place. Declares nothing.
pub use Rattle.std.proofs.lemmas.Bool.{or_parts}
pub use Rattle.std.proofs.lemmas.Bool.Decides.{nat_tests, Decides-int_eq}
pub use Rattle.std.proofs.lemmas.Grind.{common_steps}
pub use Rattle.std.proofs.lemmas.List.{nil_from_length, take-map, drop-map, map-append, length-map, take-append-le, drop-append-le, map_more, drop_more, reverse-append, reverse-reverse, drop_all, with_items_is}
pub use Rattle.std.proofs.lemmas.List.Elements.{All-nil, All-weaker, All-from_recursion, recursion_from_All, All-cons, Contains-append_left, Contains-append_right, Contains-append_cases, All-head, All-tail}
pub use Rattle.std.proofs.lemmas.List.Folds.{list_any-append}
pub use Rattle.std.proofs.lemmas.List.Kept.{AllPairs-cons}
pub use Rattle.std.proofs.lemmas.List.Sums.{sum_by-cons, sum_by-append}
pub use Rattle.std.specs.List.{enumerate_from, AllByRecursion, list_any, cons_option, join_with_byte}
pub use Rattle.std.specs.Ordering.{match_ordering}
pub use Rattle.ft_match.specs.declared.query.Chain.{Chain}
pub use Rattle.ft_match.specs.declared.query.Link.{Link}
pub use Rattle.ft_match.specs.declared.query.Phrase.{Phrase}
pub use Rattle.ft_match.specs.declared.query.Query.{Query}
pub use Rattle.ft_match.specs.declared.query.QueryTerm.{QueryTerm}
pub use Rattle.ft_query.specs.declared.standing.Steps.{Steps}
pub use Rattle.ft_match.specs.declared.hit.Hit.{Hit}
pub use Rattle.ft_match.specs.declared.hit.Offset.{Offset}
pub use Rattle.ft_query.specs.declared.walk.cursor.Cursor.{Cursor}
pub use Rattle.ft_match.specs.declared.query.By.{By}
pub use Rattle.ft_query.specs.declared.walk.joint.Joint.{Joint}
pub use Rattle.ft_query.specs.declared.walk.visit.Found.{Found}
pub use Rattle.ft_query.specs.declared.walk.visit.Wanted.{Wanted}
pub use Rattle.ft_query.specs.declared.walk.visit.Wanted.TheVariants.{Docids, Offsets}
pub use Rattle.ft_query.specs.Cursors.{lists_left, places_at, passed, least_of, least_from, listed_for, lists_kept, places_left}
pub use Rattle.ft_match.specs.Documents.{Place, Posting, IsBefore, Document, AreDocuments, is_filled, PlaceList, place_count, places_with}
pub use Rattle.ft_query.specs.Lists.{Reaches, Stays, Goes, Ends, AllAnswer, NoCall, OneMore}
pub use Rattle.ft_query.specs.Loaded.{plain_terms, AreCursorsOf, Loads}
pub use Rattle.ft_query.specs.Marked.{own_lists, lists_after, HaveLists, Evaluates, Joins, AreLinked, chain_tree}
pub use Rattle.ft_match.specs.Occurs.{accepts, fits, takes, is_listed, take_row, is_within, places_of, occurs, occurrences, are_near, IsChoice, choices, heads, taken_in, taken_links, PlainHit, offsets_of, hits_of, is_at, offsets_at, taken, offset_numbers, offsets_text, shifted}
pub use Rattle.ft_query.specs.Search.{walk_at, stands_at, Finds, FindsNext}
pub use Rattle.ft_match.specs.Machine.{joined_sides}
pub use Rattle.ft_query.specs.Spines.{joined_answer, joined_marks, whole, AddsSpine, leaf_tree}
pub use Rattle.ft_query.specs.Taken.{more_steps, TakesAtMost, TakesSteps, TakesOf, LooksAtAll}
pub use Rattle.ft_match.specs.Trees.{Tree, phrase, chain, both, either, without, PlainTerm, PlainPhrase, PlainLink, tree_of, plain_term, plain_link, plain_phrase}
pub use Rattle.ft_query.specs.Visit.{LentPlaces, Occurrences, last_phrase, listed_places, starts_of, marks_from, head_of, linked, link_marks, near_those, marks_of, is_accepted, numbered_offsets, if_wanted, plain_lists, visit_cost, among, may_begin, followed, starts_from, total, linked_cost, link_cost, places_in, place_order, seek, is_behind, skip_behind, begin_near, offset_at, plain_starts, precedes}
pub use Rattle.ft_query.specs.Walk.{Walk, StandsBefore, steps_to_come, Went, hit_at, Walked, WalkedTo, lists_to_come}
pub use Rattle.ft_query.specs.Work.{terms_in, node_count, width, lists_of, entry_count, candidate_count}
