-- by the order of the postings of texts
use Rattle.ft_content.proofs.MeaningLemmas.{lists_mean, hits_are_chosen, terms_are_their_lists, terms_are_counted, documents_are_in_order}
use Rattle.ft_content.proofs.laws.lists_mean_documents.Goals as goal

pub returns : goal.returns
returns c = record {
  documents = lists_mean c.postings_of_texts.ensures.ordered;
  hits = hits_are_chosen c.postings_of_texts.ensures.ordered c.documents_of_texts.ensures.left_out;
  terms = terms_are_their_lists c.postings_of_texts.ensures.ordered;
  counted = terms_are_counted;
  order = documents_are_in_order c.documents_of_texts.ensures.ordered;
}
