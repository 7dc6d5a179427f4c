-- What an iterator over lines or words has left. Assumes nothing.
use Rattle.std.specs.Prelude.{ℕ, List}
use Rattle.lines.specs.declared.text.Lines.{Lines}
use Rattle.lines.specs.declared.word.Words.{Words}
use Rattle.lines.specs.Words.{lines, words}

-- the lines left
abbrev pub lines_left : Lines → List (List ℕ)
lines_left s = lines s.rest.now

-- the words left
abbrev pub words_left : Words → List (List ℕ)
words_left s = words s.rest.now
