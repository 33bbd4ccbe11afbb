use Rattle.std.proofs.Common.{◌≡◌, sym, ap, ◌∙◌, subst, None, Some, [], ◌∷◌, drop, string_bytes}
use Rattle.std.proofs.lemmas.List.{append-nil}
use Rattle.std.specs.Prelude.{IsCharBoundary}
use Rattle.std.specs.Str.{IsUtf8}
use Rattle.std.proofs.lemmas.Str.{IsUtf8-string_bytes}
use Rattle.shell_text.specs.Units.{Sql, last_member, tail_in}
use Rattle.shell_text.specs.Lexed.{KeepsPending}
use Rattle.shell_text.specs.Splitting.{emptied}
use Rattle.shell_text.proofs.Keeping.{word_boundary}
use Rattle.shell_text.proofs.Splitters.{kept_keeps, kept_reading, last_as, last_closed, last_open, none_emptied}
use Rattle.shell_text.proofs.units.Splitter.finish.Goals as goal

pub returns-in_default : goal.returns-in_default
returns-in_default c =
    let inside = c.self.inside in
    let text = string_bytes inside.text in
    let view = c.self.view_is in (
      ap (λ s. last_member (tail_in s.reading)) (sym view) ∙ (kept_reading inside.kept inside.line text c.self.invariant).last ∙ ap (λ k. last_as k text) c.in_default.is,
      subst (λ s. s ≡ emptied s) view (none_emptied inside.kept inside.line text _ c.in_default.is),
    )

pub returns-then-not-is_between : goal.returns-then-not-is_between
returns-then-not-is_between c =
    let inside = c.self.inside in
    let text = string_bytes inside.text in (
      ap (λ s. last_member (tail_in s.reading)) (sym c.self.view_is) ∙ (kept_reading inside.kept inside.line text c.self.invariant).last ∙ ap (λ k. last_as k text) c.in-Some.is
          ∙ last_open c.in-Some.p text c.first_word.result.line (sym c.is_between.ensures ∙ c.if-not-is_between.true) (ap (λ s. s.line) c.first_word.ensures),
      c.empty.ensures,
    )

pub returns-in_default-word : goal.returns-in_default-word
returns-in_default-word c =
    let inside = c.self.inside in
    let text = string_bytes inside.text in (
      ap (λ s. last_member (tail_in s.reading)) (sym c.self.view_is) ∙ (kept_reading inside.kept inside.line text c.self.invariant).last ∙ ap (λ k. last_as k text) c.in-Some.is
          ∙ last_closed c.in-Some.p text None (sym c.is_between.ensures ∙ c.if-not-is_between.false) c.in_default-word.is,
      c.empty-in_default-word.ensures,
    )

pub range_from-requires : goal.range_from-requires
range_from-requires c _ =
    let inside = c.self.inside in
    let text = string_bytes inside.text in
    let keeps : KeepsPending text [] c.in-Some.p = kept_keeps inside.kept c.in-Some.p text c.in-Some.is c.self.invariant in
    subst (λ t. IsCharBoundary t c.in-Some-word.word.at) (append-nil text ∙ sym c.as_str.ensures.value)
    (word_boundary c.in-Some-word.word keeps c.in-Some-word.is (subst IsUtf8 (sym (append-nil text)) (IsUtf8-string_bytes inside.text)))

pub returns : goal.returns
returns c =
    let inside = c.self.inside in
    let text = string_bytes inside.text in (
      ap (λ s. last_member (tail_in s.reading)) (sym c.self.view_is) ∙ (kept_reading inside.kept inside.line text c.self.invariant).last ∙ ap (λ k. last_as k text) c.in-Some.is
          ∙ last_closed c.in-Some.p text (Some c.in-Some-word.word) (sym c.is_between.ensures ∙ c.if-not-is_between.false) c.in-Some-word.is
          ∙ ap (λ t. Sql c.in-Some-word.word.line t ∷ []) (sym (c.in_ok-text.ensures.ok ∙ c.range_from.ensures.value ∙ ap (drop c.in-Some-word.word.at) c.as_str.ensures.value)),
      c.empty-2.ensures,
    )
