use Rattle.std.specs.Prelude.{ℕ, List, [], ◌∷◌, Option, Some, None, if◌then◌else◌, bytes_eq}

-- what a shelf holds: files, each a name and its bytes
abbrev pub Files : Type 0
Files = List (List ℕ × List ℕ)

-- the bytes of the file of that name
abbrev pub held : Files → List ℕ → Option (List ℕ)
held [] name = None
held (file ∷ files) name = if bytes_eq file.0 name then Some file.1 else held files name

-- the files with one more, in the place of the one of its name, or last
abbrev pub stored : List ℕ → List ℕ → Files → Files
stored name bytes [] = (name, bytes) ∷ []
stored name bytes (file ∷ files) =
    if bytes_eq file.0 name then (name, bytes) ∷ files else file ∷ stored name bytes files

-- the files of all other names
abbrev pub without : List ℕ → Files → Files
without name [] = []
without name (file ∷ files) =
    if bytes_eq file.0 name then without name files else file ∷ without name files
