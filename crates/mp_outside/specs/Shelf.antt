-- The files that are held in memory.
use Rattle.std.specs.Prelude.{Option, Some, option_map}
use Rattle.std.specs.BTreeMap.{get_by_text}
use Rattle.mp_outside.specs.Files.{Files}
use Rattle.mp_outside.specs.declared.shelf.Shelf.{Shelf}

-- the bytes of each file, all of them told
abbrev pub files_on : Shelf → Option Files
files_on shelf = Some (λ name. option_map (λ bytes. bytes.items) (get_by_text shelf.files name))
