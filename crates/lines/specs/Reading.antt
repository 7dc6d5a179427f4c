-- Reading a line word by word. Assumes nothing.
use Rattle.std.specs.Prelude.{ℕ, List, [], ◌∷◌, Some, None, Option}
use Rattle.lines.specs.Numbers.{number_of}

abbrev pub Word : Type 0
Word = List ℕ

abbrev pub bind : {X Y : Type 0} → Option X → (X → Option Y) → Option Y
bind None f = None
bind (Some x) f = f x

-- the number that the first word says, and the other words
abbrev pub first_number : List Word → Option (ℕ × List Word)
first_number [] = None
first_number (w ∷ ws) = bind (number_of w) (λ n. Some (n, ws))

abbrev pub with_number : {C : Type 0} → List Word → (ℕ → List Word → Option C) → Option C
with_number ws f = bind (first_number ws) (λ p. f p.0 p.1)

-- a command after which no word may stand
abbrev pub only : {C : Type 0} → List Word → C → Option C
only [] c = Some c
only (w ∷ ws) c = None

-- a value for what has none yet
abbrev pub once : {X : Type 0} → Option X → Option X → Option X
once None value = value
once (Some x) value = None

-- the parts of a line, each a name and its value, by what one part more says
abbrev pub parts : {P : Type 0} → (P → Word → Word → Option P) → List Word → P → Option P
parts with_part [] p = Some p
parts with_part (name ∷ []) p = None
parts with_part (name ∷ value ∷ ws) p = bind (with_part p name value) (parts with_part ws)
