-- no table is left
use Rattle.std.proofs.Common.{to_z, ◌≡◌, pos, sym, ap, ◌∙◌}
use Rattle.ft_content.proofs.Common.{drop_all, list_any, w64, int_eq, Contents, free_id_from, table_ids, info_ids}
use Rattle.ft_content.proofs.TableLemmas.{free_from, free_among, free_among_ids}
use Rattle.ft_content.proofs.create.free_id.Goals as goal

least : (c : goal.After-loop-table) → (contents : Contents) → table_ids contents ≡ info_ids c.args.tables.now → to_z w64 c.loop-table.id-bits ≡ pos (free_id_from 1 contents)
least c = λ contents same.
    let left = ap (λ ts. free_from c.loop-table.invariant.0 (info_ids ts)) (drop_all c.loop-table.table-index c.args.tables.now c.loop-table-test.false) in
    c.loop-table.invariant.1 ∙ ap pos (sym left ∙ c.loop-table.invariant.3 ∙ sym (free_among contents c.args.tables.now same))

pub returns : goal.returns
returns c = record {
  id = least c;
  free = λ contents same sorted. ap (λ id. list_any (int_eq id) (info_ids c.args.tables.now)) (least c contents same) ∙ free_among_ids contents c.args.tables.now same sorted;
}
