use Rattle.std.proofs.Common.{◌≡◌, [], rules, sym, ap, ◌∙◌, to_z-of_z, FitsSigned, w64, unwrap_or}
use Rattle.ft_store.proofs.Common.{column, bytes, id_in}
use Rattle.sqlite_value.specs.Value.{owned}
use Rattle.sqlite.specs.declared.types.ValueRef.{ValueRef}
use Rattle.ft_rows.specs.Packed.{unpacked}
use Rattle.ft_rows.proofs.{some_places}
use Rattle.ft_store.proofs.lists.list_row.Goals as goal

pub returns-in-Some-clause-found : goal.returns-in-Some-clause-found
returns-in-Some-clause-found c =
    let fits : FitsSigned w64 c.in_ok-docid.docid = search rules in
    let docid : c.in_ok-docid.docid ≡ id_in (column c.args.row.now 0) = search rules in
    let list : c.in-Blob.bytes.now ≡ bytes (column c.args.row.now 1) = ap (λ (v : ValueRef). bytes (owned v)) (sym c.in-Blob.is) ∙ ap bytes c.in_ok-bytes.ensures.ok.1 in
    let places = ap unpacked (sym list) ∙ (rw c.in-Some.is at c.in_ok-spots.ensures) in
    let spots : c.in-Some.spots.items ≡ unwrap_or (unpacked (bytes (column c.args.row.now 1))) [] = sym (ap (λ o. unwrap_or o []) places) in
    let number = to_z-of_z fits ∙ docid in
    record {
      found = (
        λ i. (number i, spots i),
        λ none. some_places _ _ places (spots ∙ none),
      );
      fault = search rules;
    }
