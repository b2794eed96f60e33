-- The bytes of printed lines: words one space apart.
use Rattle.std.specs.Prelude.{ℕ, List, [], ◌∷◌, ◌++◌, codes, decimal}
use Rattle.supplier.specs.declared.fault.Fault.{Fault}
use Rattle.supplier.specs.declared.line.Line.{Line}
use Rattle.supplier.specs.Causes.{number}
use Rattle.supplier.specs.Kinds.{letter}

-- words one space apart: the first, and the others
abbrev pub spaced : List ℕ → List (List ℕ) → List ℕ
spaced w [] = w
spaced w (v ∷ vs) = w ++ 32 ∷ spaced v vs

-- the figures of a line: `number kind order delivery held`
abbrev pub line_figures : Line → List ℕ
line_figures l = spaced (decimal l.number) ((letter l.kind ∷ []) ∷ decimal l.order ∷ decimal l.delivery ∷ decimal l.held ∷ [])

-- `LN day number kind order delivery held`
abbrev pub line_text : ℕ → Line → List ℕ
line_text day l =
    spaced (codes "LN") (decimal day ∷ decimal l.number ∷ (letter l.kind ∷ []) ∷ decimal l.order ∷ decimal l.delivery ∷ decimal l.held ∷ [])

-- `RF cause number day window bound sum layers`
abbrev pub fault_text : Fault → List ℕ
fault_text f =
    spaced (codes "RF")
    (decimal (number f.cause) ∷ decimal f.number ∷ decimal f.day ∷ decimal f.window ∷ decimal f.bound ∷ decimal f.sum ∷ decimal f.layers ∷ [])
