-- Steps. What a `Ram` shows.
use Rattle.std.specs.Prelude.{ℕ, List}
use Rattle.ram_disk.specs.declared.disk.Ram.{Ram}

-- its member `seen`
abbrev pub ram_bytes : Ram → List ℕ
ram_bytes r = r.bytes.items

-- its member `faults`
abbrev pub ram_faults : Ram → ℕ
ram_faults r = r.faults
