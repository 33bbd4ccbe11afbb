-- all of the characters
use Rattle.std.proofs.Common.{◌≡◌, ◌∷◌, [], ◌++◌, map, sym, ap, ◌∙◌, string_bytes, append_assoc, chars}
use Rattle.std.proofs.lemmas.Iterator.{YieldsList-from_chars}
use Rattle.std.proofs.lemmas.Iterator.Consumers.{YieldsList-end}
use Rattle.plain_sql.proofs.Common.{flat_map, map-id, doubled}
use Rattle.plain_sql.proofs.imports.push_identifier.Goals as goal

pub returns : goal.returns
unfolding lib.Utf8.encode
returns c =
    let came : map (λ x. x) c.loop-c.yielded ≡ chars c.args.name.now =
    (YieldsList-end (YieldsList-from_chars c.args.name.now c.utf8.name cc) c.loop-c.yielded c.loop-c.c-iterator c.loop-c.yielded_by _ c.next.new.self c.in-None.is c.next.ensures.steps).0 in
    let old = string_bytes c.args.text.now in
    let inner = flat_map doubled (chars c.args.name.now) in
    c.in_ok-push-2.ensures.bytes
    ∙ ap (λ text. text ++ 34 ∷ []) (c.loop-c.invariant ∙ (λ j. c.in_ok-push.ensures.bytes j ++ flat_map doubled ((sym (map-id c.loop-c.yielded) ∙ came) j)))
    ∙ append_assoc (old ++ 34 ∷ []) inner (34 ∷ []) ∙ append_assoc old (34 ∷ []) (inner ++ 34 ∷ [])
