-- A layer's sheet: its line, then the lines below.
use Rattle.std.specs.Prelude.{◌+◌, List, ◌∷◌, take}
use Rattle.supplier.specs.declared.line.Line.{Line}
use Rattle.supplier.specs.Meaning.{most_lines}
use Rattle.supplier.specs.Shelves.{Placed}

-- no more than the most lines are told
abbrev pub topped : Line → List Line → List Line
topped line below = take most_lines (line ∷ below)

-- a shelf below: its line stands one place later
abbrev pub later : Placed → Placed
later p = record { shelf = p.shelf; place = p.place + 1 }
