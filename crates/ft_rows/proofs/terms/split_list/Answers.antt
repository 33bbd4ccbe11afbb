-- by the number of postings in the first list
use Rattle.std.proofs.Common.{◌≡◌, ◌≤◌, ◌∷◌, [], Some, None, List, ℕ, map, length, take, drop, refl, ap, ◌∙◌, arith, slice_get}
use Rattle.std.proofs.lemmas.List.{length-drop}
use Rattle.ft_rows.proofs.Common.{Posting, spot_of, lists_of_postings, AreFirstList, IsSplit}
use Rattle.ft_rows.proofs.terms.split_list.Goals as goal

within : (ps : List Posting) (n : ℕ) → AreFirstList ps n → n ≤ length ps
within [] n first = omega (arith, first)
within (p ∷ ps) n first = first.1

split : (ps : List Posting) (p : Posting) (n : ℕ) → slice_get ps 0 ≡ Some p → AreFirstList ps n → IsSplit ps p.docid (take n ps) (drop n ps)
split [] p n here first = absurd (let no = here in cc)
split (q ∷ qs) p n here first =
    let same : q ≡ p = (let e = here in cc) in
    record {
      lists = first.2 ∙ ap (λ (r : Posting). (r.docid, map spot_of (take n (q ∷ qs))) ∷ lists_of_postings (drop n (q ∷ qs))) same;
      shorter = omega (arith, first.0, first.1, length-drop n (q ∷ qs));
    }

no_first : (ps : List Posting) → slice_get ps 0 ≡ None → ps ≡ []
no_first [] none = refl
no_first (p ∷ ps) none = absurd (let no = none in cc)

pub split_at-requires : goal.split_at-requires
split_at-requires c = within c.args.postings.now c.first_list.result c.first_list.ensures
