-- the greater of the two
use Rattle.std.proofs.Common.{to_z, of_z, ◌≡◌, Some, sym, ap, ◌∙◌, rules}
use Rattle.ft_content.proofs.Common.{MatchOption, int_max, w64}
use Rattle.ft_content.proofs.LastLemmas.{last_put_among, greater_of}
use Rattle.ft_content.proofs.docid.last_docid_after.Goals as goal

pub returns : goal.returns
returns c = λ documents cells sorted same.
    let most : MatchOption c.args.last (c.map_or.result ≡ c.args.docid) (λ last. c.map_or.result ≡ int_max last c.args.docid) = search rules in
    let back : to_z w64 (of_z w64 c.map_or.result) ≡ c.map_or.result = search rules in
    last_put_among c.args.docid cells documents c.args.last sorted same ∙ ap Some (greater_of c.args.docid c.args.last c.map_or.result most ∙ sym back)
