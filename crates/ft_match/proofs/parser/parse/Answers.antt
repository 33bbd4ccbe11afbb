use Rattle.std.proofs.Common.{◌≡◌, map, string_bytes, sym, ◌∙◌, ◌≢◌, option_map, Ok, Err, rules}
use Rattle.std.proofs.lemmas.Result.{IfOk-weaker, IfErr-weaker}
use Rattle.ft_match.proofs.Common.{Memory, tree_of, query_of, plain_lexeme, query_within}
use Rattle.ft_match.proofs.Capped.{long_is_large, zero_is_malformed, open_is_malformed, read_within}
use Rattle.ft_match.proofs.parser.parse.Goals as goal

pub returns-then-text-gt-MOST_BYTES-clause-fault : goal.returns-then-text-gt-MOST_BYTES-clause-fault
returns-then-text-gt-MOST_BYTES-clause-fault c _ =
    long_is_large (map string_bytes c.args.columns.now) c.args.default c.args.text.now c.if-text-gt-MOST_BYTES.true

pub returns-then-has_zero-clause-fault : goal.returns-then-has_zero-clause-fault
returns-then-has_zero-clause-fault c _ =
    cc (zero_is_malformed (map string_bytes c.args.columns.now) c.args.default c.args.text.now c.if-text-gt-MOST_BYTES.false (sym c.has_zero.ensures ∙ c.if-has_zero.true))

pub returns-in-None-clause-fault : goal.returns-in-None-clause-fault
returns-in-None-clause-fault c _ =
    search (rules, open_is_malformed (map string_bytes c.args.columns.now) c.args.default c.args.text.now c.if-text-gt-MOST_BYTES.false)

pub returns-in-Some-clause-ok : goal.returns-in-Some-clause-ok
returns-in-Some-clause-ok c =
    let found = map plain_lexeme c.in-Some.lexemes.items in
    let same =
    read_within (map string_bytes c.args.columns.now) c.args.default c.args.text.now found c.if-text-gt-MOST_BYTES.false
    (sym c.has_zero.ensures ∙ c.if-has_zero.false) (rw c.in-Some.is at c.in_ok-lexemes_of.ensures) in
    IfOk-weaker c.read.result (λ query. query_within c.args.default found ≡ Ok (option_map tree_of query))
    (λ query. query_of (map string_bytes c.args.columns.now) c.args.default c.args.text.now ≡ Ok (option_map tree_of query))
    (λ query e. sym same ∙ e) c.read.ensures.ok

pub returns-in-Some-clause-fault : goal.returns-in-Some-clause-fault
returns-in-Some-clause-fault c =
    let found = map plain_lexeme c.in-Some.lexemes.items in
    let same =
    read_within (map string_bytes c.args.columns.now) c.args.default c.args.text.now found c.if-text-gt-MOST_BYTES.false
    (sym c.has_zero.ensures ∙ c.if-has_zero.false) (rw c.in-Some.is at c.in_ok-lexemes_of.ensures) in
    IfErr-weaker c.read.result (λ fault. fault ≢ Memory → query_within c.args.default found ≡ Err fault)
    (λ fault. fault ≢ Memory → query_of (map string_bytes c.args.columns.now) c.args.default c.args.text.now ≡ Err fault)
    (λ fault e other. sym same ∙ e other) c.read.ensures.fault
