-- The number of each question that can be failed. Assumes nothing.
use Rattle.std.specs.Prelude.{ℕ}
use Rattle.oracle.specs.declared.record.Fails.{Fails}
use Rattle.oracle.specs.declared.record.Fails.TheVariants.{JunctionCount, RunCapacity, NotAJunction, SameEnds, NoCost, TooBulky, RunsFull, NoRun, RunState, AlreadyMarked, OutletsFull, NotMarked, NoOutlet, LabelMemory, QueueCapacity, EstimatorFit, AnswerRow, NoLabelWaits, LimitReached, CodeBeyond}

-- the number of a question
abbrev pub number_of : Fails → ℕ
number_of JunctionCount = 1
number_of RunCapacity = 2
number_of NotAJunction = 3
number_of SameEnds = 4
number_of NoCost = 5
number_of TooBulky = 6
number_of RunsFull = 7
number_of NoRun = 8
number_of RunState = 9
number_of AlreadyMarked = 10
number_of OutletsFull = 11
number_of NotMarked = 12
number_of NoOutlet = 13
number_of LabelMemory = 14
number_of QueueCapacity = 15
number_of EstimatorFit = 16
number_of AnswerRow = 17
number_of NoLabelWaits = 18
number_of LimitReached = 19
number_of CodeBeyond = 20
