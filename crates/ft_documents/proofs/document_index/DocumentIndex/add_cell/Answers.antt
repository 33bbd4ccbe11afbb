use Rattle.std.proofs.Common.{◌≡◌, ◌<◌, ◌^◌, pos, rules, length, refl, ap, ◌∙◌, to_z, of_z, to_z-of_z, w64, arith}
use Rattle.ft_documents.proofs.Common.{tokens_of, lists_in, with_entries, cell_entries, put, column_key_cmp}
use Rattle.ft_documents.proofs.IndexOf.{few_tokens, insert_put, size_some}
use Rattle.ft_documents.proofs.document_index.DocumentIndex.add_cell.Goals as goal

pub loop-token-init : goal.loop-token-init
loop-token-init c =
    let is = c.new-tokenizer.ensures ∙ ap tokens_of c.text_of.ensures.text in (
      omega (arith, ap length is),
      ap (λ ts. with_entries (cell_entries (to_z w64 (of_z w64 c.args.docid)) c.args.place ts) (lists_in c.args.self.now)) is,
      refl,
    )

pub overflow_add-count : goal.overflow_add-count
overflow_add-count c = omega (arith, c.loop-token.invariant.0, few_tokens c.text_of.ensures)

pub loop-token-preserved : goal.loop-token-preserved
loop-token-preserved c =
    let added = rw (to_z-of_z c.ranges.docid, c.in_ok-spot.ensures) at c.in_ok-add_posting.ensures in search rules

pub overflow_cast-count : goal.overflow_cast-count
overflow_cast-count c = omega (arith, c.loop-token.invariant.0, few_tokens c.text_of.ensures)

pub returns-in_ok-insert : goal.returns-in_ok-insert
returns-in_ok-insert c =
    let d = to_z-of_z c.ranges.docid in
    let count = c.loop-token.count in
    let p : to_z w64 c.args.place ≡ pos c.args.place = search rules in
    let few : count < 2 ^ 63 = omega (arith, c.loop-token.invariant.0, few_tokens c.text_of.ensures) in
    let n : to_z w64 count ≡ pos count = search rules in
    let old = c.loop-token.self.sizes.entries in
    let sizes = size_some c.args.docid c.args.place count old _ c.if-count-gt0.true
    (c.in_ok-insert.ensures.entries ∙ insert_put column_key_cmp (to_z w64 (of_z w64 c.args.docid), to_z w64 c.args.place) (to_z w64 count) old ∙ (λ i. put column_key_cmp (d i, p i) (n i) old)) in
    search rules
