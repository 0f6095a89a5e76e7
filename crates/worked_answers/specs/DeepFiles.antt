-- Files in folders that lie below folders, as those of a day of a week.
use Rattle.std.specs.Prelude.{ℕ, ◌≡◌, List}
use Rattle.rail_io.specs.Folders.{Files}
use Rattle.day_files.specs.OneFile.{bytes_at, path_in}

-- A file that lies three folders deep is called in the first of them by the names of the other two and its own.
abbrev pub DeepFilesAreCalled : Type 0
DeepFilesAreCalled = (files : Files) (dir week day name : List ℕ)
    → bytes_at files (path_in (path_in dir week) day) name ≡ bytes_at files dir (path_in week (path_in day name))
