-- the documents so far, of a store that was only read
use Rattle.std.proofs.Common.{◌≡◌, map, take, IsTrue}
use Rattle.ft_index.proofs.Common.{HasCleanDisk, shows, Content, HasRows, Looks, shown_document, document_at}
use Rattle.ft_index.proofs.chosen.documents_under.Given as goal

abbrev pub invariant-loop-docid : goal.invariant-loop-docid
invariant-loop-docid g l = record {
  looks : Looks g.S.Store l.fn.store l.store;
  live : HasCleanDisk (shows g.S.Store l.store) → IsTrue (shows g.S.Store l.fn.store).is_open → IsTrue (shows g.S.Store l.store).is_open;
  found : (content : Content) → HasRows g.S.Store l.tab l.fn.store l.store content → map shown_document l.documents.items ≡ map (document_at content) (take l.docid-index l.docids);
}
