-- The lines of a text, and the words of a line. Assumes nothing.
use Rattle.std.specs.Prelude.{ℕ, Bool, cond, ◌||◌, List, [], ◌∷◌, Some, None, Option, ◌==◌}

-- a byte put before the first of some pieces
abbrev pub onto : ℕ → List (List ℕ) → List (List ℕ)
onto b [] = (b ∷ []) ∷ []
onto b (p ∷ ps) = (b ∷ p) ∷ ps

-- a space, a tab or a carriage return
abbrev pub blank : ℕ → Bool
blank b = b == 32 || (b == 9 || b == 13)

-- the lines of a text: each is ended by a line feed, but the last may be without
abbrev pub lines : List ℕ → List (List ℕ)
lines [] = []
lines (b ∷ bs) = cond (b == 10) ([] ∷ lines bs) (onto b (lines bs))

-- the bytes before the first b
abbrev pub before : ℕ → List ℕ → List ℕ
before b [] = []
before b (x ∷ xs) = cond (x == b) [] (x ∷ before b xs)

-- the bytes after the first b; none where it does not stand
abbrev pub past : ℕ → List ℕ → Option (List ℕ)
past b [] = None
past b (x ∷ xs) = cond (x == b) (Some xs) (past b xs)

-- a line up to its first '#'
abbrev pub uncommented : List ℕ → List ℕ
uncommented line = before 35 line

-- a line split at every blank: between two blanks in a row stands an empty piece
abbrev pub pieces : List ℕ → List (List ℕ)
pieces [] = [] ∷ []
pieces (b ∷ bs) = cond (blank b) ([] ∷ pieces bs) (onto b (pieces bs))

-- the pieces that are not empty
abbrev pub full : List (List ℕ) → List (List ℕ)
full [] = []
full ([] ∷ ps) = full ps
full ((b ∷ p) ∷ ps) = (b ∷ p) ∷ full ps

abbrev pub words : List ℕ → List (List ℕ)
words line = full (pieces line)
