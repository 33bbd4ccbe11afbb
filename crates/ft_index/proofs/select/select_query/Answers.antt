-- the tests, and then the query
use Rattle.std.proofs.Common.{◌≡◌, inr, ◌∙◌, Option, Some, string_bytes, sym, ap}
use Rattle.ft_index.proofs.Common.{Fault, option_or, query_fault, bare_content, items_of, filter_of}
use Rattle.ft_content.specs.Step.{select_tests}
use Rattle.ft_index.proofs.FaultLemmas.{if_err_memory}
use Rattle.ft_index.proofs.select.select_query.Goals as goal

pub returns-in-Some-clause-fault : goal.returns-in-Some-clause-fault
returns-in-Some-clause-fault c =
    let content = bare_content c.args.info.now.columns.items in
    let items = items_of c.args.select.now.items in
    let f = filter_of c.args.select.now.filter in
    let tested : select_tests (string_bytes c.args.info.now.name) content items f ≡ c.select_tests.result = sym (c.select_tests.ensures ∙ (λ i. select_tests (c.as_str.ensures.value i) (bare_content (c.as_slice-columns.ensures.value i)) items f)) in
    inr (ap (λ (o : Option Fault). option_or o (query_fault content f)) (tested ∙ c.in-Some.is))

pub returns-clause-fault : goal.returns-clause-fault
returns-clause-fault c =
    let content = bare_content c.args.info.now.columns.items in
    let items = items_of c.args.select.now.items in
    let f = filter_of c.args.select.now.filter in
    let tested : select_tests (string_bytes c.args.info.now.name) content items f ≡ c.select_tests.result = sym (c.select_tests.ensures ∙ (λ i. select_tests (c.as_str.ensures.value i) (bare_content (c.as_slice-columns.ensures.value i)) items f)) in
    let read : query_fault content f ≡ query_fault (bare_content c.as_slice-columns.result.now) f = sym (λ i. query_fault (bare_content (c.as_slice-columns.ensures.value i)) f) in
    if_err_memory c.filter_query.result _ (λ fault. option_or (select_tests (string_bytes c.args.info.now.name) content items f) (query_fault content f) ≡ Some fault)
    (λ fault is. ap (λ (o : Option Fault). option_or o (query_fault content f)) (tested ∙ c.in_default.is) ∙ read ∙ is) c.filter_query.ensures.fault
