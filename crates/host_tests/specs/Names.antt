-- Steps. What a host of two names holds under each name: under all others nothing.
use Rattle.std.specs.Prelude.{ℕ, List, if◌then◌else◌}
use Rattle.std.specs.Str.{bytes_eq}
use Rattle.sqlite_disk.specs.declared.Disk as disk
use Rattle.sqlite_disk.specs.declared.Files.{Files}
use Rattle.sqlite.specs.Files.{image_of}
use Rattle.ft_files.specs.Hosts.{Names, empty_image}

-- the first of the two that a name is, and its two files
abbrev pub two_names : {D : Type 0} → disk.Ghosts D → List ℕ → Files D → List ℕ → Files D → Names
two_names g first one second two name = if bytes_eq first name then image_of g one else if bytes_eq second name then image_of g two else empty_image
