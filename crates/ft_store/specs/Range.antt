-- Steps. The texts that begin so are a range in the order of bytes (own choice).
use Rattle.std.specs.Prelude.{ℕ, ◌+◌, List, [], ◌∷◌}
use Rattle.sqlite.specs.declared.types.Value.{Value}
use Rattle.sqlite.specs.declared.types.Value.TheVariants.{Text, Blob}

-- A text with its last byte one higher: what begins with the text is below it, and all else that isn't below the text is not.
abbrev pub after_last : List ℕ → List ℕ
after_last [] = []
after_last (b ∷ []) = (b + 1) ∷ []
after_last (b ∷ c ∷ more) = b ∷ after_last (c ∷ more)

-- What the texts of a range are below: this text or, where it is empty, a blob, since all texts are below each blob.
abbrev pub limit_of : List ℕ → Value
limit_of [] = Blob []
limit_of (b ∷ bytes) = Text (b ∷ bytes)
