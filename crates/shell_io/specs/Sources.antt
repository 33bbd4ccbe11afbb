-- Meaning. What a source of files may answer (own choice).
use Rattle.std.specs.Prelude.{ℕ, ◌≡◌, Bool, List, codes, Option, IfSome, IsTrue}
use Rattle.shell_io.specs.declared.source.SourceFault.{SourceFault}
use Rattle.shell_io.specs.declared.source.SourceFault.TheVariants as sources

-- What is known of a file: its bytes, if they are known, and whether a fetch of it may be refused with a fault.
pub record File : Type 0 where
  pub bytes : Option (List ℕ)
  pub may_refuse : SourceFault → Bool

-- the files of a source by their names
abbrev pub Files : Type 0
Files = List ℕ → File

-- the bytes of a file are those that the name holds, where these are known
abbrev pub GivesFile : Files → List ℕ → List ℕ → Type 0
GivesFile files name bytes = IfSome (files name).bytes (λ known. bytes ≡ known)

-- a fetch of the name may be refused with this fault
abbrev pub Refuses : Files → List ℕ → SourceFault → Type 0
Refuses files name fault = IsTrue ((files name).may_refuse fault)

-- the words of a file that is not fetched
abbrev pub fetch_words : SourceFault → List ℕ
fetch_words sources.Missing = codes "cannot read file"
fetch_words sources.Read = codes "cannot read file"
fetch_words sources.TooBig = codes "file too big"
fetch_words sources.Memory = codes "out of memory"
