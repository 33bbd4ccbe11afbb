-- the columns' names and the column that is searched are those of the definition
use Rattle.std.proofs.Common.{◌≡◌, ℕ, List, map, Option, option_map, Result, Ok, Err, Some, sym, ap, ◌∙◌, subst, string_bytes, ◌≢◌, IfOk, IfErr, MatchResult}
use Rattle.std.specs.Result.{IsErrAnd}
use Rattle.ft_match.specs.declared.query.Query.{Query}
use Rattle.ft_match.specs.declared.query.QueryFault.{QueryFault}
use Rattle.ft_content.proofs.Common.{Tree, tree_of, query_of, Fault, Content, reading_fault, bare_content}
use Rattle.ft_content.specs.Answer.{reading}
use Rattle.ft_content.specs.Calls.{ReadsQuery}
use Rattle.ft_match.specs.declared.query.QueryFault.TheVariants as query
use Rattle.ft_values.specs.declared.fault.Fault.TheVariants as faults
use Rattle.ft_content.proofs.query.read_query.Goals as goal

-- a fault of the parser that isn't want of memory is what the text deserves
reads : (content : Content) (name text : List ℕ) (parsed : Result (Option Query) QueryFault) (result : Result (Option Query) Fault)
    → IfOk parsed (λ q. reading content name text ≡ Ok (option_map tree_of q)) → IfErr parsed (λ e. e ≢ query.Memory → reading content name text ≡ Err e)
    → MatchResult parsed (λ q. result ≡ Ok q) (λ e. IsErrAnd result (λ f. reading_fault (Err e) ≡ Some f)) → ReadsQuery content name text result
reads content name text (Ok q) result ok fault is =
    subst (ReadsQuery content name text) (sym is) (record { query = ok; fine = ap reading_fault ok; fault = tt })
reads content name text (Err e) (Ok q) ok fault is = absurd is
reads content name text (Err e) (Err f) ok fault is =
    record { query = tt; fine = tt; fault = λ other. ap reading_fault (fault (λ same. other (let gives : Some faults.Memory ≡ Some f = sym (ap (λ k. reading_fault (Err k)) same) ∙ is in cc))) ∙ is }

pub returns : goal.returns
unfolding reading
returns c =
    let content = bare_content c.args.columns.now in
    let same : query_of (map string_bytes c.as_slice.result.now) c.column_place-default.result c.args.text.now ≡ reading content c.args.name.now c.args.text.now =
    λ i. query_of ((ap (map string_bytes) c.as_slice.ensures.value ∙ c.in_ok-names.ensures) i) (c.column_place-default.ensures i) c.args.text.now in
    reads content c.args.name.now c.args.text.now c.parse.result c.map_err.result
    (subst (λ (r : Result (Option Tree) QueryFault). IfOk c.parse.result (λ q. r ≡ Ok (option_map tree_of q))) same c.parse.ensures.ok)
    (subst (λ (r : Result (Option Tree) QueryFault). IfErr c.parse.result (λ e. e ≢ query.Memory → r ≡ Err e)) same c.parse.ensures.fault)
    c.map_err.ensures.cases
