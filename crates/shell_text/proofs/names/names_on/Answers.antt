use Rattle.std.proofs.Common.{◌≡◌, sym, ap, ◌∙◌, ◌++◌, ◌-◌, ◌≤◌, arith, map, ◌+◌, ◌∷◌, [], length, string_bytes}
use Rattle.std.proofs.lemmas.List.{append-nil, length-map, map-append}
use Rattle.shell_text.specs.Print.{bytes_of, names_on}
use Rattle.shell_text.proofs.Listing.{names-past, names_step}
use Rattle.shell_text.proofs.names.names_on.Goals as goal

pub returns-then-at-names : goal.returns-then-at-names
returns-then-at-names c =
    let names = map string_bytes c.args.names.now in
    let past : length names ≤ c.loop.at = omega (arith, length-map c.args.names.now string_bytes, c.if-at-names.true) in
    sym (append-nil (bytes_of c.loop.line)) ∙ ap (λ t. bytes_of c.loop.line ++ t) (sym (names-past (c.args.across - c.loop.counter) c.args.down c.loop.at names past)) ∙ c.loop.invariant

pub returns-then-down-names : goal.returns-then-down-names
returns-then-down-names c =
    let names = c.args.names.now in
    let name = c.index-names-at.result in
    let made = bytes_of c.loop.line in
    let texts = map string_bytes names in
    let added : bytes_of c.push.new.self ≡ made ++ string_bytes name ∷ [] =
    ap (map string_bytes) c.in_ok-push.ensures.items ∙ map-append string_bytes c.loop.line.items (c.in_ok-from_str.field-0 ∷ []) ∙ ap (λ b. made ++ b ∷ []) (c.in_ok-from_str.ensures.ok ∙ c.as_str.ensures.value) in
    let past : length texts ≤ c.loop.at + c.args.down = omega (arith, length-map names string_bytes) in
    sym (append-nil (bytes_of c.push.new.self)) ∙ ap (λ t. bytes_of c.push.new.self ++ t) (sym (names-past (c.args.across - (c.loop.counter + 1)) c.args.down (c.loop.at + c.args.down) texts past))
    ∙ ap (λ t. t ++ names_on (c.args.across - (c.loop.counter + 1)) c.args.down (c.loop.at + c.args.down) texts) added
    ∙ names_step made c.args.across c.loop.counter c.args.down c.loop.at names name (names_on c.args.across c.args.down c.args.first texts) c.loop-test.true c.if-at-names.false c.index-names-at.is c.loop.invariant

pub loop-preserved : goal.loop-preserved
loop-preserved c =
    let names = c.args.names.now in
    let name = c.index-names-at.result in
    let made = bytes_of c.loop.line in
    let added : bytes_of c.push.new.self ≡ made ++ string_bytes name ∷ [] =
    ap (map string_bytes) c.in_ok-push.ensures.items ∙ map-append string_bytes c.loop.line.items (c.in_ok-from_str.field-0 ∷ []) ∙ ap (λ b. made ++ b ∷ []) (c.in_ok-from_str.ensures.ok ∙ c.as_str.ensures.value) in
    ap (λ t. t ++ names_on (c.args.across - (c.loop.counter + 1)) c.args.down (c.loop.at + c.args.down) (map string_bytes names)) added
    ∙ names_step made c.args.across c.loop.counter c.args.down c.loop.at names name (names_on c.args.across c.args.down c.args.first (map string_bytes names)) c.loop-test.true c.if-at-names.false c.index-names-at.is c.loop.invariant
