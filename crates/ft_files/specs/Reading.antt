-- Meaning. The bytes of a file that is imported (own choice).
use Rattle.std.specs.Prelude.{ℕ, ◌≡◌, ◌⊎◌, ◌<◌, ◌≤◌, ◌^◌, true, List, length, Option, None, Result, Vec, IfSome, IfOk, IfErr}
use Rattle.std.specs.declared.io.ErrorKind.{ErrorKind}
use Rattle.std.specs.declared.io.ErrorKind.TheVariants as kind
use Rattle.shell_io.specs.declared.source.SourceFault.{SourceFault}
use Rattle.shell_io.specs.declared.source.SourceFault.TheVariants as fault
use Rattle.shell_io.specs.Sources.{Files}

-- nothing is known of the files of the system
abbrev pub unknown_files : Files
unknown_files name = record { bytes = None; may_refuse = λ fault. true }

-- which fault stands for a reader's own
abbrev pub source_fault_of : ErrorKind → SourceFault
source_fault_of kind.NotFound = fault.Missing
source_fault_of kind.OutOfMemory = fault.Memory
source_fault_of _ = fault.Read

-- the bytes are all that a reader had, where these are known, and at most 64 MiB
abbrev pub AreAll : Option (List ℕ) → List ℕ → Type 0
AreAll known bytes = (length bytes ≤ 2 ^ 26) × IfSome known (λ all. bytes ≡ all)

-- It is too big only where the reader had more; any other fault is one of its own.
abbrev pub IsRefused : Option (List ℕ) → SourceFault → Type 0
IsRefused known why = ((why ≡ fault.TooBig) × IfSome known (λ all. 2 ^ 26 < length all)) ⊎ ((own : ErrorKind) × (why ≡ source_fault_of own))

-- the bytes of a reader that had these, where they are known, or why they are refused
pub record ReadsAll {A : Type 0} (known : Option (List ℕ)) (result : Result (Vec ℕ A) SourceFault) : Type 0 where
  pub whole : IfOk result (λ bytes. AreAll known bytes.items)
  pub refused : IfErr result (IsRefused known)
