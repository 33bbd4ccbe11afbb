-- Steps. The tokens of a text as they are cut, one at a time (own choice).
use Rattle.std.specs.Prelude.{ℕ, List, [], drop, refl}
use Rattle.std.specs.Coded.{Coded, code_by, coded×, coded_list, coded_ℕ}
use Rattle.ft_match.specs.Tokens.{PlainToken, tokens_from}

-- the tokens of what is left of a text from a place on, of which the first gets this number
abbrev pub tokens_left : List ℕ → ℕ → ℕ → List PlainToken
tokens_left text count place = tokens_from (record { count = count; start = place; run = [] }) (drop place text)

-- for the prover: a token is these four
abbrev pub plain_code : Coded PlainToken
plain_code =
    code_by (List ℕ × (ℕ × (ℕ × ℕ))) (coded× (coded_list coded_ℕ) (coded× coded_ℕ (coded× coded_ℕ coded_ℕ))) (λ t. (t.term, (t.pos, (t.start, t.size))))
    (λ p. record { term = p.0; pos = p.1.0; start = p.1.1.0; size = p.1.1.1 }) (λ _. refl)
