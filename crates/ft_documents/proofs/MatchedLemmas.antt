-- The hits of a query are the documents that its text chooses, and the first hits of a walk.
use Rattle.std.specs.Result.{result_unwrap_or}
use Rattle.std.proofs.Common.{◌≡◌, ℕ, ℤ, false, List, [], ◌∷◌, Option, Some, None, Ok, map, refl, sym, ap, ◌∙◌, filter, ◌≤◌, ◌<◌, Bool, true, ◌++◌, length, take, unwrap_or, ◌^◌, arith, take_all}
use Rattle.std.proofs.Math.Seq.{take-append_seam}
use Rattle.ft_match.proofs.{postings_rise, accepts_nothing}
use Rattle.ft_match.specs.declared.hit.Hit.{Hit}
use Rattle.ft_match.specs.declared.hit.Offset.{Offset}
use Rattle.ft_query.specs.Walk.{Walk, Walked, WalkedTo, hit_list, hit_at}
use Rattle.ft_content.specs.Answer.{chosen}
use Rattle.ft_content.specs.Meaning.{content_documents}
use Rattle.ft_content.proofs.{lists_mean, hits_are_chosen}
use Rattle.ft_documents.proofs.Common.{option_map_or, map-append, Tree, tree_of, PlainHit, accepts, hits_of, Document, Cell, Content, Documents, IsContent, document_postings, Match, reading, cut, hit_read, chosen_hits, as_wanted, TellsHit}

-- of a query
pub hits_chosen : (table : List ℕ) (content : Content) (name text : List ℕ) (tree : Tree) → IsContent table content → reading content name text ≡ Ok (Some tree) → hits_of tree (content_documents content) ≡ chosen_hits content (Match name text)
hits_chosen table content name text tree is read =
    ap (hits_of tree) (sym (lists_mean postings_rise table content is))
    ∙ hits_are_chosen postings_rise accepts_nothing table content name text tree is read
    ∙ ap (λ r. map (hit_read content (result_unwrap_or r None)) (chosen content (Match name text))) (sym read)

none_pass : (ds : Documents) → filter (λ (d : ℤ × List Cell). false) ds ≡ []
none_pass [] = refl
none_pass (d ∷ ds) = none_pass ds

-- of no query
pub none_chosen : (content : Content) (name text : List ℕ) → reading content name text ≡ Ok None → chosen_hits content (Match name text) ≡ []
unfolding chosen
none_chosen content name text read =
    ap (λ r. map (hit_read content (result_unwrap_or r None)) (filter (λ (d : ℤ × List Cell). option_map_or (accepts (document_postings content.columns d.1)) (result_unwrap_or r None) false) content.documents)) read
    ∙ ap (map (hit_read content None)) (none_pass content.documents)

-- ---- the first hits of a walk

-- as many as are wanted
pub full : (most : Option ℕ) (m n : ℕ) (hits rest : List PlainHit) → m ≡ unwrap_or most 18446744073709551615 → length hits ≡ n → n < 2 ^ 63 → m ≤ n → n ≤ m → hits ≡ cut most 0 (hits ++ rest)
full None m n hits rest is count few enough room = absurd (omega arith)
full (Some k) m n hits rest is count few enough room =
    let same : length hits ≡ k = omega arith in
    sym (take-append_seam hits rest) ∙ ap (λ k. take k (hits ++ rest)) same

-- all there are, and no more than are wanted
pub whole : (most : Option ℕ) (m : ℕ) (hits : List PlainHit) → m ≡ unwrap_or most 18446744073709551615 → length hits ≤ m → hits ≡ cut most 0 hits
whole None m hits is room = refl
whole (Some k) m hits is room = sym (take_all k hits (omega arith))

-- no hit is left
pub ended : (wanted : Bool) (old new : Walk) (hit : Option Hit) (documents : List Document) → hit ≡ None → TellsHit wanted old new hit documents → map (as_wanted wanted) (hits_of (tree_of old.query) documents) ≡ []
ended wanted old new hit documents none tells = tells.hits_are ∙ (λ i. hit_list (none i) ++ map (as_wanted wanted) (hits_of (tree_of old.query) (tells.ended none i)))

-- a hit whose offsets are wanted stays as it is
pub told_whole : (old new : Walk) (hit : Option Hit) (documents : List Document) → Walked old new hit documents → TellsHit true old new hit documents
told_whole old new hit documents walked = record {
  rest = walked.went.rest;
  stands = walked.went.stands;
  hits_are = ap (map (as_wanted true)) walked.went.hits_are ∙ map-append (as_wanted true) (hit_list hit) (hits_of (tree_of old.query) walked.went.rest) ∙ ap (λ hs. hs ++ map (as_wanted true) (hits_of (tree_of old.query) walked.went.rest)) (own hit);
  ended = walked.ended;
}
  where
    own : (hit : Option Hit) → map (as_wanted true) (hit_list hit) ≡ hit_list hit
    own None = refl
    own (Some h) = refl

-- a docid is a hit without offsets
pub told_bare : (old new : Walk) (docid : Option ℤ) (hit : Option Hit) (documents : List Document) → hit_list hit ≡ hit_at docid [] → WalkedTo old new docid documents → TellsHit false old new hit documents
told_bare old new docid hit documents is walked = record {
  rest = walked.went.rest;
  stands = walked.went.stands;
  hits_are = ap (map (as_wanted false)) walked.went.hits_are ∙ map-append (as_wanted false) (hit_at docid walked.offsets) (hits_of (tree_of old.query) walked.went.rest) ∙ ap (λ hs. hs ++ map (as_wanted false) (hits_of (tree_of old.query) walked.went.rest)) (own docid walked.offsets ∙ sym is);
  ended = λ none. walked.ended (no_docid docid (sym is ∙ ap hit_list none));
}
  where
    own : (docid : Option ℤ) (offsets : List Offset) → map (as_wanted false) (hit_at docid offsets) ≡ hit_at docid []
    own None offsets = refl
    own (Some d) offsets = refl

    no_docid : (docid : Option ℤ) → hit_at docid [] ≡ [] → docid ≡ None
    no_docid None h = refl
    no_docid (Some d) h = absurd (let no = h in cc)
